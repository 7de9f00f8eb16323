-- By the point.
use Rattle.std.proofs.Common.{◌++◌, List, ℕ, ap, sym, ◌∙◌, slice_get}
use Rattle.std.proofs.lemmas.Result.{IfOk-weaker}
use Rattle.cc_flow_sound.specs.CcFlow.declared.types.Point.{Point}
use Rattle.cc_state_holds.proofs.Counted.{next_nowhere, next_there}
use Rattle.cc_state_holds.proofs.points.with_next.Goals as goal

pub returns-in-None : goal.returns-in-None
returns-in-None c = λ n. next_nowhere c.args.flow.now c.args.points.items c.args.m n (c.in-None.ensures ∙ ap (λ (ps : List Point). slice_get ps c.args.m) c.all.ensures)

pub returns-in-Some : goal.returns-in-Some
returns-in-Some c =
    let q = c.in-Some.point.now in
    IfOk-weaker c.with_points.result _ _
    (λ all k n. next_there c.args.flow.now c.args.points.items all.items c.args.m n q (sym (c.in-Some.ensures ∙ ap (λ (ps : List Point). slice_get ps c.args.m) c.all.ensures)) (k ∙ ap (λ (ns : List ℕ). c.args.points.items ++ ns) c.all-in-Some.ensures))
    c.with_points.ensures
