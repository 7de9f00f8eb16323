use Rattle.std.proofs.Common.{◌≢◌, pos, of_z, ap, sym, ◌∙◌}
use Rattle.std.specs.Int.{w128}
use Rattle.cc_num.specs.Results.{represented}
use Rattle.cc_num.proofs.Exact.{value_narrow, quotient_exact}
use Rattle.cc_num.proofs.ResultLaws.{quotient_is}
use Rattle.cc_num.proofs.arithmetic.quotient.Goals as goal

pub returns-else-b-eq0 : goal.returns-else-b-eq0
returns-else-b-eq0 c =
    let p = value_narrow c.args.t c.args.target.now c.args.a c.requires.first in
    let q = value_narrow c.args.t c.args.target.now c.args.b c.requires.second in
    let some : c.args.b ≢ pos 0 = λ z. c.if-b-eq0.false (ap (of_z w128) z) in
    c.represent.ensures ∙ ap (λ x. represented x c.args.t c.args.target.now) (quotient_exact c.args.a c.args.b p q)
    ∙ sym (quotient_is c.args.a c.args.b c.args.t c.args.target.now some)
