use Rattle.std.proofs.Common.{rules, FitsSigned, ap, sym, ◌∙◌, to_z-of_z, Some}
use Rattle.std.specs.Int.{w128}
use Rattle.cc_num.specs.Integers.{converted}
use Rattle.cc_num.specs.Results.{unary_result_of}
use Rattle.cc_num.proofs.Exact.{value_narrow, complement_exact}
use Rattle.cc_num.proofs.arithmetic.apply_one.Goals as goal

pub returns-in-Not : goal.returns-in-Not
unfolding unary_result_of
returns-in-Not c =
    let f : FitsSigned w128 c.convert.result = search rules in
    let e = complement_exact c.args.a (value_narrow c.args.t c.args.target.now c.args.a c.requires.first) in
    ap Some (to_z-of_z f ∙ c.convert.ensures ∙ ap (λ x. converted x c.args.t c.args.target.now) e)
    ∙ ap (λ o. unary_result_of o c.args.a c.args.t c.args.target.now) (sym c.in-Not.is)
