-- By the point of the number.
use Rattle.std.proofs.Common.{List, ap, sym, ◌∙◌, slice_get}
use Rattle.std.proofs.lemmas.Option.{same_Some, none-some}
use Rattle.cc_flow_sound.specs.CcFlow.declared.types.Flow.{Flow}
use Rattle.cc_flow_sound.specs.CcFlow.declared.types.Point.{Point}
use Rattle.cc_state_holds.proofs.points.is_at.Goals as goal

pub returns-in-None : goal.returns-in-None
returns-in-None g c =
    let e = c.in-None.ensures ∙ ap (λ (ps : List Point). slice_get ps c.args.n) (c.all.ensures ∙ ap (λ (z : Flow). z.points) c.requires.flow) in
    ((λ t. cc), (λ h. absurd (none-some h.point (e ∙ h.numbered))))

pub returns-in-Some : goal.returns-in-Some
returns-in-Some g c =
    let q = c.in-Some.point.now in
    let e = sym (c.in-Some.ensures ∙ ap (λ (ps : List Point). slice_get ps c.args.n) (c.all.ensures ∙ ap (λ (z : Flow). z.points) c.requires.flow)) in (
      (λ t. let w = c.is_point_of.ensures.0 t in record { point = q; numbered = e; function = w.0; path = w.1 ∙ c.requires.path }),
      (λ h. let same = same_Some h.point q (sym h.numbered ∙ e) in c.is_point_of.ensures.1 (ap (λ (z : Point). z.func) (sym same) ∙ h.function, ap (λ (z : Point). z.path) (sym same) ∙ (h.path ∙ sym c.requires.path))),
    )
