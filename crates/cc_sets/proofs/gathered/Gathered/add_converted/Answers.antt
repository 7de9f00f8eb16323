-- Converted numbers are in reach.
use Rattle.std.proofs.Common.{◌≡◌, ◌∙◌, ℤ, pos, get_or, refl, sym, ap, subst, arith}
use Rattle.cc_num.specs.declared.int_type.IntType.{IntType}
use Rattle.cc_num.specs.declared.target.Target.{Target}
use Rattle.cc_num.specs.Integers.{converted}
use Rattle.cc_num.proofs.Conversions.{converted-IsValueOf}
use Rattle.cc_lattice.specs.Domains.{IsInReach}
use Rattle.cc_explicit.proofs.Reach.{reach_same, read_same}
use Rattle.cc_sets.specs.declared.gathered.Gathered.{Gathered}
use Rattle.cc_sets.specs.Gatherings.{Adds}
use Rattle.cc_sets.proofs.Adding.{adds_same, before_none, before_more, before_all}
use Rattle.cc_sets.proofs.Values.{value_reach}
use Rattle.cc_sets.proofs.gathered.Gathered.add_converted.Goals as goal

landed : (r u v : ℤ) (t : IntType) (target : Target) → r ≡ converted v t target → IsInReach r
landed r u v t target e = subst IsInReach (sym e) (value_reach (converted v t target) t target (converted-IsValueOf v t target))

pub add-requires : goal.add-requires
add-requires c =
    let r = landed c.convert.result (pos 0) _ c.args.t c.args.target.now c.convert.ensures in
    subst IsInReach (sym (reach_same c.convert.result r)) r

value_added : (b d : Gathered) (u r v x : ℤ) (t : IntType) (target : Target) → u ≡ r → r ≡ converted x t target → x ≡ v → Adds b d (λ z. u ≡ z) → Adds b d (λ z. converted v t target ≡ z)
value_added b d u r v x t target e f g p =
    let h : u ≡ converted v t target = e ∙ (f ∙ ap (λ y. converted y t target) g) in
    adds_same b d (λ z. u ≡ z) (λ z. converted v t target ≡ z) p (λ z k. sym h ∙ k) (λ z k. h ∙ k)

pub loop-v-preserved : goal.loop-v-preserved
loop-v-preserved c =
    let xs = c.args.numbers.now in
    let i = c.loop-v.v-index in
    let r = landed c.convert.result (pos 0) _ c.args.t c.args.target.now c.convert.ensures in
    before_more c.args.self.now c.loop-v.self c.add.new.self (λ (v : ℤ) (z : ℤ). converted v c.args.t c.args.target.now ≡ z) xs i (get_or xs i (pos 0)) (pos 0) c.loop-v-test.true refl c.loop-v.invariant
    (value_added c.loop-v.self c.add.new.self _ c.convert.result (get_or xs i (pos 0)) _ c.args.t c.args.target.now (reach_same c.convert.result r) c.convert.ensures (read_same xs i (pos 0) c.requires c.loop-v-test.true) c.add.ensures)

pub loop-v-init : goal.loop-v-init
loop-v-init c = before_none c.args.self.now (λ (v : ℤ) (z : ℤ). converted v c.args.t c.args.target.now ≡ z) c.args.numbers.now

pub returns : goal.returns
returns c = before_all c.args.self.now c.loop-v.self (λ (v : ℤ) (z : ℤ). converted v c.args.t c.args.target.now ≡ z) c.args.numbers.now c.loop-v.v-index (omega arith) c.loop-v.invariant
