-- The differences of the members, where the sets tell them; else all there may be.
use Rattle.std.proofs.Common.{sym, ◌∙◌}
use Rattle.std.specs.Prelude.{◌&&◌}
use Rattle.std.proofs.lemmas.Result.{IfOk-weaker}
use Rattle.cc_eval.specs.CcSyntax.Operators.{difference_type}
use Rattle.cc_state_operators.specs.Domains.{domain}
use Rattle.cc_state_operators.specs.Results.{is_told}
use Rattle.cc_state_operators.proofs.Images.{gap_told, gap_untold, whole_of}
use Rattle.cc_state_operators.proofs.pairs.differences.Goals as goal

pub returns-then-are_told-clause-gap : goal.returns-then-are_told-clause-gap
returns-then-are_told-clause-gap g c =
    let d = domain g.I.Concrete.Has g.I.Lattice.IsBelow g.I.IntDomain.OpGives g.I.IntDomain.OpOneGives g.I.IntDomain.ToGives g.I.IntDomain.KeepGives g.I.IntDomain.members_of in
    let s = c.args.s.now in
    let t = c.args.t.now in
    IfOk-weaker c.image.result _ _
    (λ x h. gap_told d c.args.target.now s t (is_told s && is_told t) c.all.result.now c.all-then-are_told.result.now x (sym c.are_told.ensures ∙ c.if-are_told.true) c.all.ensures c.all-then-are_told.ensures h) c.image.ensures.hull

pub returns-else-are_told-clause-gap : goal.returns-else-are_told-clause-gap
returns-else-are_told-clause-gap g c =
    let d = domain g.I.Concrete.Has g.I.Lattice.IsBelow g.I.IntDomain.OpGives g.I.IntDomain.OpOneGives g.I.IntDomain.ToGives g.I.IntDomain.KeepGives g.I.IntDomain.members_of in
    let s = c.args.s.now in
    let t = c.args.t.now in
    gap_untold d c.args.target.now s t (is_told s && is_told t) c.whole.result (sym c.are_told.ensures ∙ c.if-are_told.false)
    (whole_of d c.args.target.now c.difference_type.result (difference_type c.args.target.now) c.whole.result c.difference_type.ensures c.whole.ensures)
