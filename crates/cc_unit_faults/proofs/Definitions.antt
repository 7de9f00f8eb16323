-- The law of function definitions.
use Rattle.std.proofs.Common.{ℕ, false, List, [], ◌∷◌, map, Option, Some, None, refl}
use Rattle.cc_type.specs.CcTypedTerms.Declarators.{derived_type}
use Rattle.cc_type.specs.CcTypedTerms.Located.{located}
use Rattle.cc_type.specs.CcTypedTerms.Specifiers.{begin}
use Rattle.cc_first_faults.proofs.Declarators.{attributes-told, derivations-told}
use Rattle.cc_first_faults.proofs.Lawful.{own-whole}
use Rattle.cc_first_faults.specs.Constructs.{Specifiers, Declaring}
use Rattle.cc_first_faults.specs.Parts.{attribute_parts, derivation_parts}
use Rattle.cc_program.specs.CcNum.declared.target.Target.{Target}
use Rattle.cc_program.specs.declared.program.Roles.{Roles}
use Rattle.cc_program.specs.declared.types.CType.{CType}
use Rattle.cc_program.specs.declared.types.Sig.{out-Sig}
use Rattle.cc_type.specs.CcScopes.State.{State, Name, Scope}
use Rattle.cc_type.specs.CcScopes.Verdicts.{whole}
use Rattle.cc_type.specs.CcSpecifiers.Attributes.{attributes, entry_by}
use Rattle.cc_type.specs.CcSpecifiers.Derivations.{in_definition}
use Rattle.cc_type.specs.CcSpecifiers.Storage.{setting}
use Rattle.cc_type.specs.CcSpecifiers.declared.attribute.Attribute.{Attribute}
use Rattle.cc_type.specs.CcSpecifiers.declared.attribute.Entity.TheVariants as entity
use Rattle.cc_type.specs.CcSpecifiers.declared.derivation.Derivation.{Derivation}
use Rattle.cc_type.specs.CcSpecifiers.declared.specifier.Specified.{Specified}
use Rattle.cc_type.specs.CcSpecifiers.declared.storage.Where.TheVariants as stands
use Rattle.cc_type.specs.CcTerms.Specifiers.{specified_found}
use Rattle.cc_type.specs.CcTerms.Terms.{declr_of, spec_here}
use Rattle.cc_tree.specs.declared.at.At.{At}
use Rattle.cc_tree.specs.declared.tree.Attr.{Attr}
use Rattle.cc_tree.specs.declared.tree.Declr.{Declr}
use Rattle.cc_tree.specs.declared.tree.Spec.{Spec}
use Rattle.cc_tree.specs.declared.unit.Line.{Line}
use Rattle.cc_type.specs.Functions.{definition_judged, definition_marks, signature_of, asked_by, named_function}
use Rattle.cc_type.specs.CcTypedBodies.Lines.{line_here}
use Rattle.cc_type.specs.CcTypedBodies.Meanings.{lines_found}
use Rattle.cc_type.specs.CcTypedStatements.Jumps.{no_jumps}
use Rattle.cc_unit_faults.specs.Constructs.{Within, Definition, DefinitionNamed}
use Rattle.cc_unit_faults.specs.Parts.{within_unit, line_parts, in_body, named_parts}
use Rattle.cc_unit_faults.proofs.Laws.{Law, Told, first, single, followed, last}
use Rattle.cc_unit_faults.proofs.Lifted.{lifted-told, inner-told}
use Rattle.cc_unit_faults.proofs.Lines.{lines-told, each-statement}

module _ (target : Target) (roles : Roles) (defined : List Name) where
  marks-told : (at : ℕ) (before : List (At (List Attribute))) (attrs : List (At Attr)) (s : State) →
      Told target roles defined at (map within_unit (attribute_parts (entity.Function ∷ []) attrs s)) (definition_marks before attrs s)
  marks-told at before attrs s =
      last target roles defined at (map within_unit (attribute_parts (entity.Function ∷ []) attrs s)) (located s (attributes (entity.Function ∷ []) attrs)) _
      (lifted-told target roles defined at (attribute_parts (entity.Function ∷ []) attrs s) (located s (attributes (entity.Function ∷ []) attrs)) (attributes-told target roles defined at (entity.Function ∷ []) attrs s))
      (λ marks t. tt)

  named-told : (at there : ℕ) (base : Specified) (t : CType) (ds : List (At (Derivation Scope))) (attrs : List (At Attr)) (body : List (At Line)) (x : Option Name) (s : State) →
      Told target roles defined at (named_parts target roles defined there base t ds attrs body x s) (named_function target roles defined there base t ds attrs body x s)
  named-told at there base t ds attrs body None s = tt
  named-told at there base t ds attrs body (Some x) s =
      followed target roles defined at (map within_unit (attribute_parts (entity.Function ∷ []) attrs s)) (definition_marks base.specs.marks attrs s) _ _ (marks-told at base.specs.marks attrs s) (λ marks s.
      followed target roles defined at ((DefinitionNamed there (asked_by base.specs.storage) x t ds, s) ∷ []) (whole there s (definition_judged roles (asked_by base.specs.storage) x t ds s)) _ _
      (single target roles defined at (DefinitionNamed there (asked_by base.specs.storage) x t ds) s (whole there s (definition_judged roles (asked_by base.specs.storage) x t ds s)) refl
      (first target roles defined (DefinitionNamed there (asked_by base.specs.storage) x t ds) s (own-whole there s (definition_judged roles (asked_by base.specs.storage) x t ds s)))) (λ ps s.
      last target roles defined at (line_parts target roles defined (out-Sig (signature_of t)).result no_jumps body (in_body (asked_by base.specs.storage) x t (entry_by marks) ps s)) (lines_found no_jumps (map (line_here target roles defined (out-Sig (signature_of t)).result) body) (in_body (asked_by base.specs.storage) x t (entry_by marks) ps s)) _
      (lines-told target roles defined (out-Sig (signature_of t)).result at no_jumps body (each-statement target roles defined (out-Sig (signature_of t)).result no_jumps body) (in_body (asked_by base.specs.storage) x t (entry_by marks) ps s))
      (λ ss t. tt)))

  pub definition-law : (specs : List (At Spec)) (d : At Declr) (attrs : List (At Attr)) (body : List (At Line)) (s : State) → Law target roles defined (Definition specs d attrs body) s
  definition-law specs d attrs body s =
      followed target roles defined (begin specs) ((Within (Specifiers (setting stands.OfDefinition entity.Function) specs), s) ∷ []) (specified_found (setting stands.OfDefinition entity.Function) (map (spec_here target roles) specs) s) _ _
      (inner-told target roles defined (begin specs) (Specifiers (setting stands.OfDefinition entity.Function) specs) s (specified_found (setting stands.OfDefinition entity.Function) (map (spec_here target roles) specs) s) refl) (λ base s.
      followed target roles defined (begin specs) ((Within (Declaring in_definition d), s) ∷ []) (declr_of target roles d.node in_definition d.at s) _ _
      (inner-told target roles defined (begin specs) (Declaring in_definition d) s (declr_of target roles d.node in_definition d.at s) refl) (λ x s.
      followed target roles defined (begin specs) (map within_unit (derivation_parts false base.ctype x.derivations s)) (derived_type target in_definition base.ctype x s) _ _
      (lifted-told target roles defined (begin specs) (derivation_parts false base.ctype x.derivations s) (derived_type target in_definition base.ctype x s) (derivations-told target roles defined (begin specs) false base.ctype x.derivations s)) (λ t s.
      named-told (begin specs) d.at base t x.derivations attrs body x.name s)))
