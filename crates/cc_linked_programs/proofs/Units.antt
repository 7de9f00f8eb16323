-- The view of the program has what each source mentions, by its numbers.
use Rattle.std.proofs.Common.{◌≡◌, ◌∙◌, ℕ, List, [], length, map, Option, Some, None, slice_get, refl, ap, sym, subst}
use Rattle.std.specs.Prelude.{nat_eq, option_map}
use Rattle.std.specs.List.{list_any}
use Rattle.std.proofs.lemmas.List.{length-map}
use Rattle.std.proofs.lemmas.Option.{slice_get-map}
use Rattle.cc_causes.specs.Causes.{bad_handler, cause_of_things}
use Rattle.cc_link.specs.Linked.{all_ids, ids_in, program}
use Rattle.cc_linked_names.specs.Given.{name_at, reserved_names, tag_wish, tags}
use Rattle.cc_relocated_units.specs.Linked.{AllStand, AreStanding}
use Rattle.cc_linked_programs.proofs.Structures.{extents_numbered, structures_numbered}
use Rattle.cc_program.specs.CcNum.declared.target.Target.{Target}
use Rattle.cc_program.specs.declared.program.Program.{Program}
use Rattle.cc_program.specs.declared.program.Roles.{Roles}
use Rattle.cc_program.specs.declared.types.Structure.{Structure}
use Rattle.cc_relocated_units.specs.Renumbering.{MemberTypes, Renumbers}
use Rattle.cc_linked_programs.proofs.Views.{devices_numbered, statics_numbered}
use Rattle.cc_relocated_units.specs.Units.{unit_view, IsSoundUnit}
use Rattle.cc_structures.specs.Structures.{AreNumbered, Known, Numbering, numbers_of}
use Rattle.cc_operands.specs.CcSyntax.Views.{View, of_program}
use Rattle.cc_things.specs.Things.{Thing, things}
use Rattle.cc_things.specs.declared.text.Text.{Text}
use Rattle.cc_unit.specs.Mentioned.{mentioned}
use Rattle.cc_unit.specs.Renumbered.{structure_by}
use Rattle.cc_unit.specs.declared.ids.Ids.{Ids}
use Rattle.cc_unit.specs.declared.unit.TypedUnit.{TypedUnit}
use Rattle.cc_linked_programs.proofs.Functions.{names-as_many}
use Rattle.cc_linked_programs.proofs.Used.{functions_numbered, structures_are}

abbrev pub units_of : List Text → List TypedUnit
units_of texts = map (λ (x : Text). x.unit) texts

pub unit_at : (texts : List Text) (t : ℕ) (x : Text) → slice_get texts t ≡ Some x → slice_get (units_of texts) t ≡ Some x.unit
unit_at texts t x e = slice_get-map (λ (y : Text). y.unit) texts t ∙ ap (option_map (λ (y : Text). y.unit)) e

-- the structures of sound sources stand as those of a sound program do
pub all_stand : (texts : List Text) (target : Target) → ((t : ℕ) (x : Text) → slice_get texts t ≡ Some x → IsSoundUnit target x.unit) → AllStand target (units_of texts)
all_stand texts target sound t u e = by (slice_get texts t) refl (sym (slice_get-map (λ (y : Text). y.unit) texts t) ∙ e)
  where
    unit_same : (a b : TypedUnit) → Some a ≡ Some b → a ≡ b
    unit_same a b h = cc h

    by : (o : Option Text) → slice_get texts t ≡ o → option_map (λ (y : Text). y.unit) o ≡ Some u → AreStanding target u
    by None f g = absurd (cc)
    by (Some x) f g = subst (λ (v : TypedUnit). AreStanding target v) (unit_same x.unit u g) (sound t x f).structures

pub tags-as_many : (ts : List Thing) (reserved : List (List ℕ)) (roles : Roles) (firsts : List Known) → length (tags ts reserved roles firsts) ≡ length firsts
tags-as_many ts reserved roles firsts = names-as_many reserved [] [] (map tag_wish firsts) ∙ length-map firsts tag_wish

module _ (texts : List Text) (target : Target) (sound : (t : ℕ) (x : Text) → slice_get texts t ≡ Some x → IsSoundUnit target x.unit) (roles : Roles) (numbering : Numbering) (firsts : List Known) (are : AreNumbered (units_of texts) numbering firsts)
    (none : cause_of_things numbering (things texts) ≡ None) (no_bad : bad_handler (things texts) roles (name_at (things texts) (reserved_names texts roles) roles firsts) ≡ None) (t : ℕ) (x : Text) (ex : slice_get texts t ≡ Some x) where
  abbrev given : List (List ℕ)
  given = tags (things texts) (reserved_names texts roles) roles firsts

  abbrev as_many : length given ≡ length firsts
  as_many = tags-as_many (things texts) (reserved_names texts roles) roles firsts

  abbrev p : Program
  p = program texts roles numbering firsts target

  abbrev v : View
  v = unit_view target x.unit

  abbrev w : View
  w = of_program p

  abbrev ids : Ids
  ids = ids_in (all_ids texts numbering) t

  same_numbers : ids.structures ≡ numbers_of numbering t
  same_numbers = structures_are texts target sound roles numbering firsts none no_bad t x ex

  pub unit_renumbered : Renumbers v w ids (λ i. list_any (nat_eq i) (mentioned x.unit.names))
  unit_renumbered = record {
    target = refl;
    extents = λ i o e. ap (λ (l : List ℕ). w.extents (structure_by (slice_get l i))) same_numbers
        ∙ extents_numbered (units_of texts) numbering firsts given target are as_many (all_stand texts target sound) t x.unit (unit_at texts t x ex) i o e;
    structures = λ i s e. subst (λ (l : List ℕ). (q : Structure) × (slice_get w.structures (structure_by (slice_get l i)) ≡ Some q) × MemberTypes l s.members q.members) (sym same_numbers)
        (structures_numbered (units_of texts) numbering firsts given target are as_many (all_stand texts target sound) t x.unit (unit_at texts t x ex) i s e);
    statics = λ i a u e. statics_numbered texts target sound roles numbering firsts none t x ex i a u e;
    devices = λ i a u e locals. devices_numbered texts target sound roles numbering firsts none t x ex i a u e locals;
    functions = λ i a u e. functions_numbered texts target sound roles numbering firsts none no_bad t x ex i a u e;
  }
