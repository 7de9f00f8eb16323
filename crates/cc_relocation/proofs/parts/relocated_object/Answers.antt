use Rattle.std.proofs.Common.{◌≡◌, ◌∙◌, ap}
use Rattle.cc_unit.specs.Renumbered.{type_renumbered}
use Rattle.cc_relocation.proofs.parts.relocated_object.Goals as goal

pub returns : goal.returns
returns c =
    let t = c.args.ctype.now in
    let ctype : c.in_ok-renumber_type.field-0 ≡ type_renumbered c.args.ids.now.structures t = c.in_ok-renumber_type.ensures ∙ ap (λ s. type_renumbered s t) c.all.ensures in
    λ j. record {
      name = c.name.view_is j;
      ctype = ctype j;
      init = c.in_ok-init.ensures j;
    }
