-- What comparisons of the members give, where the sets tell them; else 0 and 1.
use Rattle.std.proofs.Common.{sym, ◌∙◌}
use Rattle.std.specs.Prelude.{◌&&◌}
use Rattle.std.proofs.lemmas.Result.{IfOk-weaker}
use Rattle.cc_state_operators.specs.Domains.{domain}
use Rattle.cc_state_operators.specs.Results.{is_told}
use Rattle.cc_state_operators.proofs.Hulls.{any_truth}
use Rattle.cc_state_operators.proofs.Images.{comparison_told, comparison_untold}
use Rattle.cc_state_operators.proofs.pairs.comparisons.Goals as goal

pub returns-then-are_told-clause-comparison : goal.returns-then-are_told-clause-comparison
returns-then-are_told-clause-comparison g c =
    let d = domain g.I.Concrete.Has g.I.Lattice.IsBelow g.I.IntDomain.OpGives g.I.IntDomain.OpOneGives g.I.IntDomain.ToGives g.I.IntDomain.KeepGives g.I.IntDomain.members_of in
    let s = c.args.s.now in
    let t = c.args.t.now in
    IfOk-weaker c.image.result _ _
    (λ x h. comparison_told d c.args.target.now s t c.args.op (is_told s && is_told t) c.all.result.now c.all-then-are_told.result.now x (sym c.are_told.ensures ∙ c.if-are_told.true) c.all.ensures c.all-then-are_told.ensures h) c.image.ensures.hull

pub returns-else-are_told-clause-comparison : goal.returns-else-are_told-clause-comparison
returns-else-are_told-clause-comparison g c =
    let d = domain g.I.Concrete.Has g.I.Lattice.IsBelow g.I.IntDomain.OpGives g.I.IntDomain.OpOneGives g.I.IntDomain.ToGives g.I.IntDomain.KeepGives g.I.IntDomain.members_of in
    let s = c.args.s.now in
    let t = c.args.t.now in
    IfOk-weaker c.truths.result _ _
    (λ x h. comparison_untold d c.args.target.now s t c.args.op (is_told s && is_told t) x (sym c.are_told.ensures ∙ c.if-are_told.false) (any_truth d x h)) c.truths.ensures.hull
