use Rattle.std.proofs.Common.{◌≡◌, ◌∙◌, ◌++◌, [], map, ap}
use Rattle.std.specs.Prelude.{nat_eq, option_and_then, position, slice_get}
use Rattle.cc_definitions.specs.Definitions.{thing_at, named}
use Rattle.cc_linked_names.specs.Given.{tags, file_names, thing_wish, locals_for, reserved_names}
use Rattle.cc_names.specs.Names.{names_for}
use Rattle.cc_structures.specs.View.{knowns_of}
use Rattle.cc_typed.specs.CcSyntax.Names.{intrinsic_names}
use Rattle.cc_things.specs.View.{thing_view}
use Rattle.cc_linked_names.proofs.given.give_all.Goals as goal

pub returns-clause-tags : goal.returns-clause-tags
returns-clause-tags c = c.in_ok-tags.ensures.names (reserved_names c.args.texts.now c.args.roles.now) [] c.in_ok-reserve.ensures

pub returns-clause-names : goal.returns-clause-names
returns-clause-names c = λ k.
    let reserved = reserved_names c.args.texts.now c.args.roles.now in
    let intrinsics = intrinsic_names c.args.roles.now in
    let ts = map thing_view c.args.things.now in
    let given = c.in_ok-tags.tags.items in
    let tagged : given ≡ tags ts reserved c.args.roles.now (knowns_of c.args.firsts.now) = c.in_ok-tags.ensures.names reserved [] c.in_ok-reserve.ensures in
    let filed : c.in_ok-file.file.names.items ≡ file_names ts reserved c.args.roles.now (knowns_of c.args.firsts.now) =
    c.in_ok-file.ensures.names reserved given (c.in_ok-tags.ensures.taken reserved [] c.in_ok-reserve.ensures)
    ∙ ap (λ t. names_for reserved t intrinsics (map (λ j. thing_wish (thing_at ts j)) (named ts))) tagged in
    ap (option_and_then (slice_get c.in_ok-file.file.names.items)) (c.in_ok-file.ensures.positions k)
    ∙ ap (λ f. option_and_then (slice_get f) (position (nat_eq k) (named ts))) filed

pub returns-clause-locals : goal.returns-clause-locals
returns-clause-locals c = λ same.
    let reserved = reserved_names c.args.texts.now c.args.roles.now in
    let intrinsics = intrinsic_names c.args.roles.now in
    let ts = map thing_view c.args.things.now in
    let given = c.in_ok-tags.tags.items in
    let file = c.in_ok-file.file.names.items in
    let told = tags ts reserved c.args.roles.now (knowns_of c.args.firsts.now) in
    let names = file_names ts reserved c.args.roles.now (knowns_of c.args.firsts.now) in
    let held = c.in_ok-tags.ensures.taken reserved [] c.in_ok-reserve.ensures in
    let tagged : given ≡ told = c.in_ok-tags.ensures.names reserved [] c.in_ok-reserve.ensures in
    let filed : file ≡ names =
    c.in_ok-file.ensures.names reserved given held
    ∙ ap (λ t. names_for reserved t intrinsics (map (λ j. thing_wish (thing_at ts j)) (named ts))) tagged in
    c.in_ok-locals.ensures reserved (given ++ file) (intrinsics ++ file) (c.in_ok-file.ensures.taken reserved given held) c.in_ok-file.ensures.space
    ∙ (ap (λ t. locals_for ts reserved (intrinsics ++ file) (t ++ file) c.args.functions.now) tagged
    ∙ (ap (λ f. locals_for ts reserved (intrinsics ++ f) (told ++ f) c.args.functions.now) filed
    ∙ ap (locals_for ts reserved (intrinsics ++ names) (told ++ names)) same))
