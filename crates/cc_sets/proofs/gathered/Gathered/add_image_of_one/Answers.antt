-- Results are values of the type.
use Rattle.std.proofs.Common.{◌≡◌, ◌∙◌, ℤ, pos, List, get_or, Option, Some, refl, sym, ap, subst, arith}
use Rattle.std.specs.Option.{IfSome}
use Rattle.std.specs.List.{Contains}
use Rattle.cc_num.specs.declared.int_type.IntType.{IntType}
use Rattle.cc_num.specs.declared.target.Target.{Target}
use Rattle.cc_num.specs.declared.op.UnOp.{UnOp}
use Rattle.cc_num.specs.Integers.{IsValueOf}
use Rattle.cc_num.specs.Results.{unary_result_of}
use Rattle.cc_num.proofs.ResultLaws.{unary_result_lands}
use Rattle.cc_lattice.specs.Domains.{IsInReach}
use Rattle.cc_explicit.specs.Sets.{AreInReach}
use Rattle.cc_explicit.proofs.Reach.{read_same}
use Rattle.cc_sets.specs.declared.gathered.Gathered.{Gathered}
use Rattle.cc_sets.specs.Gatherings.{Adds}
use Rattle.cc_sets.proofs.Adding.{before_none, before_more, before_all}
use Rattle.cc_sets.proofs.Values.{some_reach, values_reach, read_has}
use Rattle.cc_sets.proofs.gathered.Gathered.add_image_of_one.Goals as goal

reach : (xs : List ℤ) (t : IntType) (target : Target) → ((v : ℤ) → Contains xs v → IsValueOf t target v) → AreInReach xs
reach xs t target h = values_reach xs t target h

landed : (r : Option ℤ) (op : UnOp) (v : ℤ) (t : IntType) (target : Target) → r ≡ unary_result_of op v t target → IsValueOf t target v → IfSome r IsInReach
landed r op v t target e h = subst (λ (o : Option ℤ). IfSome o IsInReach) (sym e) (some_reach (unary_result_of op v t target) t target (unary_result_lands op v t target))

pub apply_one-requires-clause-first : goal.apply_one-requires-clause-first
apply_one-requires-clause-first c = read_has (IsValueOf c.args.t c.args.target.now) c.args.numbers.now c.loop-v.v-index (pos 0) (reach c.args.numbers.now c.args.t c.args.target.now c.requires.first) c.loop-v-test.true c.requires.first

pub add_result-requires : goal.add_result-requires
add_result-requires c = landed c.apply_one.result c.args.op _ c.args.t c.args.target.now c.apply_one.ensures
    (read_has (IsValueOf c.args.t c.args.target.now) c.args.numbers.now c.loop-v.v-index (pos 0) (reach c.args.numbers.now c.args.t c.args.target.now c.requires.first) c.loop-v-test.true c.requires.first)

result_added : (b d : Gathered) (r s : Option ℤ) → r ≡ s → Adds b d (λ z. r ≡ Some z) → Adds b d (λ z. s ≡ Some z)
result_added b d r s e p = subst (λ (o : Option ℤ). Adds b d (λ z. o ≡ Some z)) e p

pub loop-v-preserved : goal.loop-v-preserved
loop-v-preserved c =
    let xs = c.args.numbers.now in
    let i = c.loop-v.v-index in
    before_more c.args.self.now c.loop-v.self c.add_result.new.self (λ (v : ℤ) (z : ℤ). unary_result_of c.args.op v c.args.t c.args.target.now ≡ Some z) xs i (get_or xs i (pos 0)) (pos 0) c.loop-v-test.true refl c.loop-v.invariant
    (result_added c.loop-v.self c.add_result.new.self c.apply_one.result (unary_result_of c.args.op (get_or xs i (pos 0)) c.args.t c.args.target.now)
    (c.apply_one.ensures ∙ ap (λ x. unary_result_of c.args.op x c.args.t c.args.target.now) (read_same xs i (pos 0) (reach xs c.args.t c.args.target.now c.requires.first) c.loop-v-test.true)) c.add_result.ensures)

pub loop-v-init : goal.loop-v-init
loop-v-init c = before_none c.args.self.now (λ (v : ℤ) (z : ℤ). unary_result_of c.args.op v c.args.t c.args.target.now ≡ Some z) c.args.numbers.now

pub returns : goal.returns
returns c = before_all c.args.self.now c.loop-v.self (λ (v : ℤ) (z : ℤ). unary_result_of c.args.op v c.args.t c.args.target.now ≡ Some z) c.args.numbers.now c.loop-v.v-index (omega arith) c.loop-v.invariant
