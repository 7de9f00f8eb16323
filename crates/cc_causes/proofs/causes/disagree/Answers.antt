use Rattle.std.proofs.Common.{◌≡◌, ◌∙◌, ap, sym, subst, map, not}
use Rattle.std.specs.Prelude.{IfOk}
use Rattle.std.specs.List.{list_any}
use Rattle.cc_causes.proofs.Disagreeing.{none_disagree, first_disagrees}
use Rattle.cc_program.specs.declared.types.CType.{CType}
use Rattle.cc_structures.specs.Structures.{type_in}
use Rattle.cc_syntax.specs.SameTypes.{same_type}
use Rattle.cc_things.specs.Mentions.{Mention}
use Rattle.cc_things.specs.View.{view_of}
use Rattle.cc_causes.proofs.causes.disagree.Goals as goal

pub returns-in-None : goal.returns-in-None
returns-in-None c = sym (none_disagree c.args.structures.now c.args.mentions.now (sym c.in-None.ensures))

pub returns-in_ok-t-in-Some : goal.returns-in_ok-t-in-Some
returns-in_ok-t-in-Some c =
    let numbering = c.args.structures.now in
    let ms = c.args.mentions.now in
    subst (λ told. IfOk c.differs.result (λ r. r ≡ told))
    (ap (λ (t : CType). list_any (λ (n : Mention). not (same_type t (type_in numbering n.text n.name.ctype))) (map view_of ms)) c.in_ok-t-in-Some.ensures ∙ sym (first_disagrees numbering ms c.in-Some.m.now (sym c.in-Some.ensures)))
    c.differs.ensures
