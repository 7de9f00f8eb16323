-- Functions that a source uses are in the program, with their types by its numbers, and are no handlers.
use Rattle.std.proofs.Common.{◌≡◌, ◌∙◌, ℕ, true, false, true≢false, List, Some, None, slice_get, refl, ap, sym}
use Rattle.cc_causes.specs.Causes.{cause_of_things}
use Rattle.cc_definitions.specs.Definitions.{func_in}
use Rattle.cc_program.specs.CcNum.declared.target.Target.{Target}
use Rattle.cc_program.specs.declared.func.Func.{Func}
use Rattle.cc_program.specs.declared.types.CType.{CType}
use Rattle.cc_program.specs.declared.types.Shape.{out-Shape}
use Rattle.cc_program.specs.declared.types.Shape.TheOpen as shape
use Rattle.cc_program.specs.declared.types.Sig.{Sig}
use Rattle.cc_relocated_units.specs.Units.{unit_view, IsSoundUnit, IsSoundKind}
use Rattle.cc_structures.specs.Structures.{Numbering, numbers_of}
use Rattle.cc_structures.proofs.Elements.{In}
use Rattle.cc_things.specs.Mentions.{Mention, mentions}
use Rattle.cc_things.specs.Things.{Thing, identity_of, thing_of, things, is_defined, is_func_kind}
use Rattle.cc_things.specs.declared.text.Text.{Text}
use Rattle.cc_unit.specs.declared.unit.UnitKind.{UnitKind}
use Rattle.cc_unit.specs.declared.unit.UnitKind.TheVariants as kind
use Rattle.cc_linked_programs.proofs.Defined.{sound_mention, DefinitionOf, definition_of}
use Rattle.cc_linked_programs.proofs.Shapes.{function_kept, no_object}
use Rattle.cc_linked_programs.specs.FunctionTypes.{is_function_type}

module _ (texts : List Text) (target : Target) (sound : (t : ℕ) (x : Text) → slice_get texts t ≡ Some x → IsSoundUnit target x.unit) (numbering : Numbering) (none : cause_of_things numbering (things texts) ≡ None) where
  abbrev thing : Mention → Thing
  thing m = thing_of (mentions texts) (identity_of m)

  -- a definition of what has a function's type is a function with its body
  pub record BodyOf (m : Mention) : Type 0 where
    pub definition : DefinitionOf texts target sound numbering none m
    pub func : Func
    pub has : func_in definition.by.name.kind ≡ Some func
    pub is_func : is_func_kind definition.by.name.kind ≡ true
    pub typed : out-Shape definition.by.name.ctype.shape ≡ shape.Func func.sig

  pub body_of : (m : Mention) → In m (mentions texts) → is_defined (thing m) ≡ true → is_function_type m.name.ctype ≡ true → BodyOf m
  body_of m h e f =
      let d = definition_of texts target sound numbering none m h e in
      by d d.by.name.kind refl (sound_mention texts target sound d.by d.known).name
    where
      by : (d : DefinitionOf texts target sound numbering none m) (k : UnitKind) → d.by.name.kind ≡ k → IsSoundKind (unit_view target (sound_mention texts target sound d.by d.known).text.unit) d.by.name k → BodyOf m
      by d (kind.Object init) q s =
          absurd (no_object (unit_view target (sound_mention texts target sound d.by d.known).text.unit) d.by.name.ctype
          (sym (function_kept (numbers_of numbering d.by.text) d.by.name.ctype) ∙ (ap is_function_type d.type ∙ (function_kept (numbers_of numbering m.text) m.name.ctype ∙ f))) s.object)
      by d (kind.Device x) q s =
          absurd (true≢false (sym (sym (function_kept (numbers_of numbering d.by.text) d.by.name.ctype) ∙ (ap is_function_type d.type ∙ (function_kept (numbers_of numbering m.text) m.name.ctype ∙ f))) ∙ not_function d.by.name.ctype s.int))
        where
          not_function : (c : CType) → out-Shape c.shape ≡ shape.Int x.int → is_function_type c ≡ false
          not_function c i = rw i refl
      by d (kind.Func entry None) q s = absurd (true≢false (sym d.defines ∙ s.defined))
      by d (kind.Func entry (Some g)) q s = record {
        definition = d;
        func = g;
        has = ap func_in q;
        is_func = ap is_func_kind q;
        typed = s.typed ∙ ap (λ (r : Sig). shape.Func r) (sym s.body.same);
      }
