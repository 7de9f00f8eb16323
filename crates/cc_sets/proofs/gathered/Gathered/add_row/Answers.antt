-- Results are values of the type.
use Rattle.std.proofs.Common.{◌≡◌, ◌∙◌, false, ℤ, pos, List, get_or, Option, Some, refl, sym, ap₂, subst, arith, to_z, of_z}
use Rattle.std.specs.Option.{IfSome}
use Rattle.std.specs.Int.{w128}
use Rattle.std.specs.List.{Contains}
use Rattle.cc_num.specs.declared.int_type.IntType.{IntType}
use Rattle.cc_num.specs.declared.target.Target.{Target}
use Rattle.cc_num.specs.declared.op.BinOp.{BinOp}
use Rattle.cc_num.specs.Integers.{IsValueOf}
use Rattle.cc_num.specs.Results.{result_of, is_shift}
use Rattle.cc_num.proofs.ResultLaws.{result_lands}
use Rattle.cc_lattice.specs.Domains.{IsInReach}
use Rattle.cc_explicit.proofs.Reach.{reach_same, read_same}
use Rattle.cc_sets.specs.declared.gathered.Gathered.{Gathered}
use Rattle.cc_sets.specs.Gatherings.{Adds}
use Rattle.cc_sets.proofs.Adding.{before_none, before_more, before_all}
use Rattle.cc_sets.proofs.Values.{value_reach, some_reach, read_has}
use Rattle.cc_sets.proofs.gathered.Gathered.add_row.Goals as goal

same : (v : ℤ) (t : IntType) (target : Target) → IsValueOf t target v → to_z w128 (of_z w128 v) ≡ v
same v t target h = reach_same v (value_reach v t target h)

landed : (r : Option ℤ) (op : BinOp) (v w : ℤ) (t : IntType) (target : Target) → r ≡ result_of op v w t target → IsValueOf t target v → (is_shift op ≡ false → IsValueOf t target w) → IfSome r IsInReach
landed r op v w t target e h k = subst (λ (o : Option ℤ). IfSome o IsInReach) (sym e) (some_reach (result_of op v w t target) t target (result_lands op v w t target h k))

pub apply-requires-clause-first : goal.apply-requires-clause-first
apply-requires-clause-first c = subst (IsValueOf c.args.t c.args.target.now) (sym (same c.args.v c.args.t c.args.target.now c.requires.first)) c.requires.first

pub apply-requires-clause-second : goal.apply-requires-clause-second
apply-requires-clause-second c = read_has (λ w. is_shift c.args.op ≡ false → IsValueOf c.args.t c.args.target.now w) c.args.seconds.now c.loop-w.w-index (pos 0) c.requires.reach c.loop-w-test.true c.requires.second

pub add_result-requires : goal.add_result-requires
add_result-requires c = landed c.apply.result c.args.op _ _ c.args.t c.args.target.now c.apply.ensures
    (subst (IsValueOf c.args.t c.args.target.now) (sym (same c.args.v c.args.t c.args.target.now c.requires.first)) c.requires.first)
    (read_has (λ w. is_shift c.args.op ≡ false → IsValueOf c.args.t c.args.target.now w) c.args.seconds.now c.loop-w.w-index (pos 0) c.requires.reach c.loop-w-test.true c.requires.second)

result_added : (b d : Gathered) (r s : Option ℤ) → r ≡ s → Adds b d (λ z. r ≡ Some z) → Adds b d (λ z. s ≡ Some z)
result_added b d r s e p = subst (λ (o : Option ℤ). Adds b d (λ z. o ≡ Some z)) e p

pub loop-w-preserved : goal.loop-w-preserved
loop-w-preserved c =
    let xs = c.args.seconds.now in
    let i = c.loop-w.w-index in
    before_more c.args.self.now c.loop-w.self c.add_result.new.self (λ (w : ℤ) (z : ℤ). result_of c.args.op (to_z w128 (of_z w128 c.args.v)) w c.args.t c.args.target.now ≡ Some z) xs i (get_or xs i (pos 0)) (pos 0) c.loop-w-test.true refl c.loop-w.invariant
    (result_added c.loop-w.self c.add_result.new.self c.apply.result (result_of c.args.op (to_z w128 (of_z w128 c.args.v)) (get_or xs i (pos 0)) c.args.t c.args.target.now)
    (c.apply.ensures ∙ ap₂ (λ x y. result_of c.args.op x y c.args.t c.args.target.now) refl (read_same xs i (pos 0) c.requires.reach c.loop-w-test.true)) c.add_result.ensures)

pub loop-w-init : goal.loop-w-init
loop-w-init c = before_none c.args.self.now (λ (w : ℤ) (z : ℤ). result_of c.args.op (to_z w128 (of_z w128 c.args.v)) w c.args.t c.args.target.now ≡ Some z) c.args.seconds.now

first_same : (a b : Gathered) (op : BinOp) (u v : ℤ) (xs : List ℤ) (t : IntType) (target : Target) → u ≡ v → Adds a b (λ z. (w : ℤ) × Contains xs w × (result_of op u w t target ≡ Some z))
    → Adds a b (λ z. (w : ℤ) × Contains xs w × (result_of op v w t target ≡ Some z))
first_same a b op u v xs t target e p = subst (λ (y : ℤ). Adds a b (λ z. (w : ℤ) × Contains xs w × (result_of op y w t target ≡ Some z))) e p

pub returns : goal.returns
returns c = first_same c.args.self.now c.loop-w.self c.args.op _ c.args.v c.args.seconds.now c.args.t c.args.target.now (same c.args.v c.args.t c.args.target.now c.requires.first)
    (before_all c.args.self.now c.loop-w.self (λ (w : ℤ) (z : ℤ). result_of c.args.op (to_z w128 (of_z w128 c.args.v)) w c.args.t c.args.target.now ≡ Some z) c.args.seconds.now c.loop-w.w-index (omega arith) c.loop-w.invariant)
