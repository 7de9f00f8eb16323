-- The numbers that pass are added one by one.
use Rattle.std.proofs.Common.{◌≡◌, ◌∙◌, Bool, ℤ, pos, get_or, IsTrue, refl, sym, subst, arith}
use Rattle.cc_num.specs.declared.op.BinOp.{BinOp}
use Rattle.cc_lattice.specs.Domains.{IsInReach}
use Rattle.cc_explicit.proofs.Reach.{read_same}
use Rattle.cc_sets.specs.declared.gathered.Gathered.{Gathered}
use Rattle.cc_sets.specs.declared.vals.Vals.{Vals}
use Rattle.cc_sets.specs.Results.{PassesSome}
use Rattle.cc_sets.specs.Gatherings.{Adds}
use Rattle.cc_sets.proofs.Adding.{adds_same, before_none, before_more, before_all}
use Rattle.cc_sets.proofs.Values.{read_has}
use Rattle.cc_sets.proofs.gathered.Gathered.add_passing.Goals as goal

pub add_where-requires : goal.add_where-requires
add_where-requires c = read_has IsInReach c.args.numbers.now c.loop-v.v-index (pos 0) c.requires.reach c.loop-v-test.true c.requires.reach

passing_added : (b d : Gathered) (k : Bool) (test : BinOp) (u x v : ℤ) (other : Vals) → u ≡ v → x ≡ v → (IsTrue k → PassesSome test x other) × (PassesSome test x other → IsTrue k)
    → Adds b d (λ z. (u ≡ z) × IsTrue k) → Adds b d (λ z. (v ≡ z) × PassesSome test v other)
passing_added b d k test u x v other e f h p = adds_same b d (λ z. (u ≡ z) × IsTrue k) (λ z. (v ≡ z) × PassesSome test v other) p
    (λ z m. (sym e ∙ m.0, subst (λ (y : ℤ). PassesSome test y other) f (h.0 m.1)))
    (λ z m. (e ∙ m.0, h.1 (subst (λ (y : ℤ). PassesSome test y other) (sym f) m.1)))

pub loop-v-preserved : goal.loop-v-preserved
loop-v-preserved c =
    let xs = c.args.numbers.now in
    let i = c.loop-v.v-index in
    let e = read_same xs i (pos 0) c.requires.reach c.loop-v-test.true in
    before_more c.args.self.now c.loop-v.self c.add_where.new.self (λ (v : ℤ) (z : ℤ). (v ≡ z) × PassesSome c.args.test v c.args.other.now) xs i (get_or xs i (pos 0)) (pos 0) c.loop-v-test.true refl c.loop-v.invariant
    (passing_added c.loop-v.self c.add_where.new.self c.passes_some.result c.args.test _ _ (get_or xs i (pos 0)) c.args.other.now e e c.passes_some.ensures c.add_where.ensures)

pub loop-v-init : goal.loop-v-init
loop-v-init c = before_none c.args.self.now (λ (v : ℤ) (z : ℤ). (v ≡ z) × PassesSome c.args.test v c.args.other.now) c.args.numbers.now

pub returns : goal.returns
returns c = before_all c.args.self.now c.loop-v.self (λ (v : ℤ) (z : ℤ). (v ≡ z) × PassesSome c.args.test v c.args.other.now) c.args.numbers.now c.loop-v.v-index (omega arith) c.loop-v.invariant
