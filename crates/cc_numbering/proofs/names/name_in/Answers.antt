use Rattle.std.proofs.Common.{◌≡◌, ◌∙◌, ap}
use Rattle.cc_scopes.specs.CcUnit.Renumbered.{type_renumbered}
use Rattle.cc_numbering.proofs.names.name_in.Goals as goal

pub returns : goal.returns
returns c =
    let d = c.args.d.now in
    let ctype : c.in_ok-ctype.ctype ≡ type_renumbered c.args.ids.now.structures d.ctype = c.in_ok-ctype.ensures ∙ ap (λ s. type_renumbered s d.ctype) c.all.ensures in
    λ j. record {
      name = c.in_ok-name.ensures j;
      linkage = d.linkage;
      ctype = ctype j;
      first = d.first;
      count = c.count_of.ensures j;
      kind = c.in_ok-kind.ensures j;
    }
