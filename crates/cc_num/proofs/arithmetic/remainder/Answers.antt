-- Where there is a quotient the divisor is not 0, and a - (a / b) * b is the remainder.
use Rattle.std.proofs.Common.{◌≡◌, ◌≢◌, pos, Some, None, FitsSigned, of_z, ap, sym, ◌∙◌, to_z-of_z, pos_of_ne-zero}
use Rattle.std.specs.Int.{w128}
use Rattle.cc_num.specs.Results.{quotient_of}
use Rattle.cc_num.proofs.Exact.{value_narrow, quotient_fits, remainder_exact}
use Rattle.cc_num.proofs.ResultLaws.{remainder_none, remainder_some}
use Rattle.cc_num.proofs.arithmetic.remainder.Goals as goal

pub returns-in_err-quotient : goal.returns-in_err-quotient
returns-in_err-quotient c =
    let a : FitsSigned w128 c.args.a = c.ranges.a in
    let b : FitsSigned w128 c.args.b = c.ranges.b in
    let e : c.quotient.result ≡ quotient_of c.args.a c.args.b c.args.t c.args.target.now = simp to_z-of_z at c.quotient.ensures in
    let n : c.quotient.result ≡ None = c.in_err-quotient.was in
    c.from_residual.ensures ∙ sym (remainder_none c.args.a c.args.b c.args.t c.args.target.now (sym e ∙ n))

pub nonzero_rem-result : goal.nonzero_rem-result
nonzero_rem-result c =
    let p = value_narrow c.args.t c.args.target.now c.args.a c.requires.first in
    let a : FitsSigned w128 c.args.a = c.ranges.a in
    let b : FitsSigned w128 c.args.b = c.ranges.b in
    (pos_of_ne-zero c.if-b-eq0.false, simp to_z-of_z (quotient_fits c.args.a c.args.b p))

pub returns : goal.returns
returns c =
    let p = value_narrow c.args.t c.args.target.now c.args.a c.requires.first in
    let q = value_narrow c.args.t c.args.target.now c.args.b c.requires.second in
    let a : FitsSigned w128 c.args.a = c.ranges.a in
    let b : FitsSigned w128 c.args.b = c.ranges.b in
    let some : c.args.b ≢ pos 0 = λ z. c.if-b-eq0.false (ap (of_z w128) z) in
    let e : c.quotient.result ≡ quotient_of c.args.a c.args.b c.args.t c.args.target.now = simp to_z-of_z at c.quotient.ensures in
    let n : c.quotient.result ≡ Some c.in_ok-quotient.field-0 = c.in_ok-quotient.was in
    ap Some (remainder_exact c.args.a c.args.b p q)
    ∙ sym (remainder_some c.args.a c.args.b c.in_ok-quotient.field-0 c.args.t c.args.target.now some c.requires.first c.requires.second (sym e ∙ n))
