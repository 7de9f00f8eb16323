-- A sum and a difference of values are exact; of an operator on bits the converted 128 bits are those
-- of the operator on w bits.
use Rattle.std.proofs.Common.{rules, FitsSigned, ap, sym, ◌∙◌, to_z-of_z, Some}
use Rattle.std.specs.Int.{w128}
use Rattle.cc_num.specs.Results.{result_of, represented, is_shift}
use Rattle.cc_num.proofs.Exact.{value_narrow, sum_exact, difference_exact}
use Rattle.cc_num.proofs.Patterns.{and_is, or_is, xor_is}
use Rattle.cc_num.proofs.PromotionLaws.{not_Bool}
use Rattle.cc_num.proofs.arithmetic.apply.Goals as goal

pub returns-in-Add : goal.returns-in-Add
unfolding result_of
returns-in-Add c =
    let p = value_narrow c.args.t c.args.target.now c.args.a c.requires.first in
    let q = value_narrow c.args.t c.args.target.now c.args.b (c.requires.second (ap is_shift c.in-Add.is)) in
    c.represent.ensures ∙ ap (λ x. represented x c.args.t c.args.target.now) (sum_exact c.args.a c.args.b p q)
    ∙ ap (λ o. result_of o c.args.a c.args.b c.args.t c.args.target.now) (sym c.in-Add.is)

pub returns-in-Sub : goal.returns-in-Sub
unfolding result_of
returns-in-Sub c =
    let p = value_narrow c.args.t c.args.target.now c.args.a c.requires.first in
    let q = value_narrow c.args.t c.args.target.now c.args.b (c.requires.second (ap is_shift c.in-Sub.is)) in
    c.represent-in-Sub.ensures ∙ ap (λ x. represented x c.args.t c.args.target.now) (difference_exact c.args.a c.args.b p q)
    ∙ ap (λ o. result_of o c.args.a c.args.b c.args.t c.args.target.now) (sym c.in-Sub.is)

pub returns-in-And : goal.returns-in-And
unfolding result_of
returns-in-And c =
    let f : FitsSigned w128 c.convert.result = search rules in
    ap Some (to_z-of_z f ∙ c.convert.ensures ∙ and_is c.args.a c.args.b c.args.t c.args.target.now (not_Bool c.args.t c.args.target.now c.requires.promotion) c.ranges.a c.ranges.b)
    ∙ ap (λ o. result_of o c.args.a c.args.b c.args.t c.args.target.now) (sym c.in-And.is)

pub returns-in-Or : goal.returns-in-Or
unfolding result_of
returns-in-Or c =
    let f : FitsSigned w128 c.convert-in-Or.result = search rules in
    ap Some (to_z-of_z f ∙ c.convert-in-Or.ensures ∙ or_is c.args.a c.args.b c.args.t c.args.target.now (not_Bool c.args.t c.args.target.now c.requires.promotion) c.ranges.a c.ranges.b)
    ∙ ap (λ o. result_of o c.args.a c.args.b c.args.t c.args.target.now) (sym c.in-Or.is)

pub returns-in-Xor : goal.returns-in-Xor
unfolding result_of
returns-in-Xor c =
    let f : FitsSigned w128 c.convert-in-Xor.result = search rules in
    ap Some (to_z-of_z f ∙ c.convert-in-Xor.ensures ∙ xor_is c.args.a c.args.b c.args.t c.args.target.now (not_Bool c.args.t c.args.target.now c.requires.promotion) c.ranges.a c.ranges.b)
    ∙ ap (λ o. result_of o c.args.a c.args.b c.args.t c.args.target.now) (sym c.in-Xor.is)
