use Rattle.std.proofs.Common.{◌≡◌, ℤ, pos, ◌+ℤ◌, Some, FitsSigned, to_z, of_z, rules, ap, subst, arith}
use Rattle.std.specs.Int.{w128}
use Rattle.std.proofs.lemmas.Int.{ints}
use Rattle.cc_program.specs.declared.value.Value.TheVariants as value
use Rattle.cc_code.specs.declared.kinds.Coding.{Coding}
use Rattle.cc_code.specs.Codes.{IsSomeCode}
use Rattle.cc_code.proofs.CodeLemmas.{biased_reach, constant_told, table_told}
use Rattle.cc_code.proofs.code.decode.Goals as goal

pub value_at-requires : goal.value_at-requires
value_at-requires c = constant_told c.args.values.now c.args.code (subst (λ (k : Coding). IsSomeCode c.args.values.now k c.args.code) c.in-Const.is c.requires)

pub value_at-requires-in-Table : goal.value_at-requires-in-Table
value_at-requires-in-Table c = table_told c.args.values.now c.args.code (subst (λ (k : Coding). IsSomeCode c.args.values.now k c.args.code) c.in-Table.is c.requires)

pub overflow_add-result : goal.overflow_add-result
overflow_add-result c =
    let fits : FitsSigned w128 c.in-Biased.low = search rules in
    let reach = biased_reach c.args.values.now c.in-Biased.low c.args.code (subst (λ (k : Coding). IsSomeCode c.args.values.now k c.args.code) c.in-Biased.is c.requires) in
    let above = c.from-in-Biased.ensures in
    omega (arith, ints)

pub returns-in-Biased : goal.returns-in-Biased
returns-in-Biased c =
    let fits : FitsSigned w128 c.in-Biased.low = search rules in
    let reach = biased_reach c.args.values.now c.in-Biased.low c.args.code (subst (λ (k : Coding). IsSomeCode c.args.values.now k c.args.code) c.in-Biased.is c.requires) in
    let above = c.from-in-Biased.ensures in
    let same : (c.in-Biased.low +ℤ pos c.args.code) ≡ to_z w128 (of_z w128 (to_z w128 (of_z w128 c.in-Biased.low) +ℤ to_z w128 (of_z w128 c.from-in-Biased.result))) = omega (arith, ints) in
    rw c.in-Biased.is (ap (λ (n : ℤ). Some (value.Int n)) same)
