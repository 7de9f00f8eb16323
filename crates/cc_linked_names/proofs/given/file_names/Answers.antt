use Rattle.std.proofs.Common.{◌∙◌, length, map, ap, sym}
use Rattle.std.proofs.lemmas.List.{length-map}
use Rattle.std.specs.Prelude.{nat_eq, position}
use Rattle.cc_definitions.specs.Definitions.{thing_at}
use Rattle.cc_linked_names.proofs.Giving.{position_kept}
use Rattle.cc_linked_names.specs.Given.{thing_wish}
use Rattle.cc_names.specs.Names.{names_for}
use Rattle.cc_typed.specs.CcSyntax.Names.{intrinsic_names}
use Rattle.cc_things.specs.View.{thing_view}
use Rattle.cc_linked_names.proofs.given.file_names.Goals as goal

pub returns-clause-names : goal.returns-clause-names
returns-clause-names c = λ r g h.
    let ts = map thing_view c.args.things.now in
    let intrinsics = intrinsic_names c.args.roles.now in
    c.in_ok-names.ensures.names r g h
    ∙ ap (λ l. names_for r g intrinsics (map (λ k. thing_wish (thing_at ts k)) l)) (c.as_slice-2.ensures.value ∙ c.in_ok-named.ensures)

pub returns-clause-taken : goal.returns-clause-taken
returns-clause-taken c = c.in_ok-names.ensures.taken

pub returns-clause-space : goal.returns-clause-space
returns-clause-space c = c.in_ok-names.ensures.space

pub returns-clause-positions : goal.returns-clause-positions
returns-clause-positions c =
    position_kept (map thing_view c.args.things.now) (length c.args.things.now) c.in_ok-positions.positions.items c.in_ok-positions.ensures.count
    (sym (length-map c.args.things.now thing_view))
    (λ k h. c.in_ok-positions.ensures.positions k h ∙ ap (position (nat_eq k)) (c.as_slice.ensures.value ∙ c.in_ok-named.ensures))
