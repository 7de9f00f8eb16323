-- Where no point or no function is nothing is accessed.
use Rattle.std.proofs.Common.{◌≡◌, Some, refl, ap, sym, ◌∙◌, slice_get}
use Rattle.cc_state_points.specs.CcFlow.declared.types.Flow.{Flow}
use Rattle.cc_state_points.specs.CcFlow.Points.{flow_of}
use Rattle.cc_slots_points.specs.Points.{Quiet}
use Rattle.cc_slots_points.proofs.Acting.{no_function, no_point}
use Rattle.cc_slots_points.proofs.points.pass.Goals as goal

pub returns-in-None : goal.returns-in-None
returns-in-None g c =
    Quiet (no_point c.args.p.now c.args.point (sym (c.in-None.ensures ∙ (ap (λ ps. slice_get ps c.args.point) (c.all.ensures ∙ ap (λ (z : Flow). z.points) c.requires.flow))))) refl

pub returns-in-None-at : goal.returns-in-None-at
returns-in-None-at g c =
    let q = c.in-Some.q.now in
    let numbered : slice_get (flow_of c.args.p.now).points c.args.point ≡ Some q = sym (c.in-Some.ensures ∙ (ap (λ ps. slice_get ps c.args.point) (c.all.ensures ∙ ap (λ (z : Flow). z.points) c.requires.flow))) in
    Quiet (no_function c.args.p.now c.args.point q numbered (sym (c.in-None-at.ensures ∙ ap (λ fs. slice_get fs q.func) c.all-in-Some.ensures))) refl

pub pass_function-requires-clause-there : goal.pass_function-requires-clause-there
pass_function-requires-clause-there g c =
    let q = c.in-Some.q.now in
    record {
      numbered = sym (c.in-Some.ensures ∙ (ap (λ ps. slice_get ps c.args.point) (c.all.ensures ∙ ap (λ (z : Flow). z.points) c.requires.flow)));
      function = sym (c.in-Some-at.ensures ∙ ap (λ fs. slice_get fs q.func) c.all-in-Some.ensures);
    }
