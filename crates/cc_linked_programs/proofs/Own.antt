-- Where a source defines `main`, no intrinsic has that name.
use Rattle.std.proofs.Common.{◌≡◌, ◌∙◌, ℕ, true, false, List, Some, None, is_some, slice_get, ap}
use Rattle.std.specs.Prelude.{nat_lt}
use Rattle.std.proofs.lemmas.Option.{get_or_from_slice_get}
use Rattle.cc_causes.specs.Causes.{cause_of_things, is_main}
use Rattle.cc_definitions.specs.Definitions.{thing_at}
use Rattle.cc_definitions.specs.Handlers.{is_named_main}
use Rattle.cc_linked_programs.proofs.ThingLists.{in-found}
use Rattle.cc_linked_programs.proofs.Definitions.{defined_at}
use Rattle.cc_linked_programs.proofs.Defined.{at_all}
use Rattle.cc_names.specs.Names.{is_among}
use Rattle.cc_program.specs.CcNum.declared.target.Target.{Target}
use Rattle.cc_program.specs.declared.program.Roles.{Roles}
use Rattle.cc_relocated_units.specs.Units.{IsSoundUnit, is_main_name}
use Rattle.cc_structures.proofs.Elements.{in-any}
use Rattle.cc_structures.specs.Structures.{Numbering}
use Rattle.cc_operands.proofs.CcSyntax.Prefixes.{both_true}
use Rattle.cc_operands.specs.CcSyntax.Names.{intrinsic_names}
use Rattle.cc_operands.specs.CcSyntax.Sound.{main_name}
use Rattle.cc_things.specs.Things.{things, is_defined, is_definition}
use Rattle.cc_things.specs.View.{no_thing}
use Rattle.cc_things.specs.declared.text.Text.{Text}
use Rattle.cc_unit.specs.declared.unit.UnitName.{UnitName}
use Rattle.cc_linked_programs.proofs.Forms.{main_own_name}
use Rattle.cc_linked_programs.proofs.Main.{main_any}
use Rattle.cc_linked_programs.proofs.Places.{in-place}
use Rattle.cc_linked_programs.specs.Named.{HasOwnMain}

pub own_main : (texts : List Text) (target : Target) (sound : (t : ℕ) (x : Text) → slice_get texts t ≡ Some x → IsSoundUnit target x.unit) (roles : Roles) (numbering : Numbering) → cause_of_things numbering (things texts) ≡ None →
    ((t : ℕ) (x : Text) → slice_get texts t ≡ Some x → HasOwnMain roles x.unit) → is_among main_name (intrinsic_names roles) ≡ false
own_main texts target sound roles numbering none own =
    let ts = things texts in
    let r = in-any is_main ts (main_any numbering ts none) in
    let k = in-place ts r.0 r.1.0 in
    let one : thing_at ts k.0 ≡ r.0 = get_or_from_slice_get ts k.0 r.0 no_thing k.1 in
    let h = both_true (is_named_main r.0) (is_defined r.0) r.1.1 in
    let found = in-found is_definition (thing_at ts k.0).mentions (ap is_defined one ∙ h.1) in
    let d = defined_at texts target sound k.0 (ap is_some found.1) in
    at_all (λ (n : UnitName). is_main_name n.name ≡ true → nat_lt 0 n.count ≡ true → is_among main_name (intrinsic_names roles) ≡ false) d.mention.text.unit.names d.by.position d.by.name (own d.by.text d.mention.text d.mention.there) d.mention.placed
    (main_own_name texts target sound k.0 d (ap is_named_main one ∙ h.0)) d.defines
