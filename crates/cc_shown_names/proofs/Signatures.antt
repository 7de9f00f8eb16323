-- The declarator of a prototype gives its function, and declares one by its form.
use Rattle.std.proofs.Common.{◌≡◌, ℕ, Bool, true, false, not, List, [], ◌∷◌, map, Option, Some, None, refl, ap, sym, ◌∙◌}
use Rattle.std.specs.List.{list_all}
use Rattle.cc_expression_trees.specs.Types.{Function, unnamed, Declares}
use Rattle.cc_type.specs.CcObjects.Categories.{function_category, category_by, category_of}
use Rattle.cc_type.specs.CcOperands.Qualified.{plain, unqualified}
use Rattle.cc_type.specs.CcTypedTerms.Primary.{is_intrinsic}
use Rattle.cc_program.specs.declared.program.Program.{Program}
use Rattle.cc_program.specs.declared.types.CType.{CType}
use Rattle.cc_program.specs.declared.types.Shape.{Func}
use Rattle.cc_program.specs.declared.types.Sig.{Sig, out-Sig}
use Rattle.cc_type.specs.CcScopes.State.{State, Name}
use Rattle.cc_type.specs.CcSpecifiers.Declarators.{form_of, is_function_form, declares_function}
use Rattle.cc_type.specs.CcSpecifiers.declared.declarator.Form.{Form}
use Rattle.cc_type.specs.CcSpecifiers.declared.declarator.Form.TheVariants as form
use Rattle.cc_type.specs.CcSpecifiers.declared.derivation.Derivation.TheVariants as to
use Rattle.cc_type.specs.CcSpecifiers.declared.storage.Where.TheVariants as stands
use Rattle.cc_type.specs.CcSyntax.Kinds.{is_plain_scalar, is_result}
use Rattle.cc_type.specs.CcSyntax.Programs.{kind_in}
use Rattle.cc_type.specs.CcSyntax.Sizes.{AreSized}
use Rattle.cc_type.proofs.CcSyntax.Prefixes.{both_true}
use Rattle.cc_tree.specs.declared.at.At.{At}
use Rattle.cc_tree.specs.declared.tree.Declr.{Declr}
use Rattle.cc_type.specs.CcTypedBodies.Declarations.{init_allowed}
use Rattle.cc_program.specs.CcWords.Names.{are_distinct}
use Rattle.cc_program.specs.CcWords.declared.word.Word.{Word}
use Rattle.cc_shown_declarations.specs.Parameters.{Entry, entry_numbered, scope_of, entry_names, HaveNewNames}
use Rattle.cc_shown_declarations.proofs.Forms.{function-form}
use Rattle.cc_shown_declarations.proofs.Functions.{are-scalars, is-declared}
use Rattle.cc_shown_expressions.specs.Known.{KnowsStructures}
use Rattle.cc_shown_expressions.specs.Numbers.{sig_numbered}
use Rattle.cc_shown_expressions.proofs.Bases.{type-of-fields}
use Rattle.cc_shown_expressions.proofs.Standing.{scalar-plain}
use Rattle.cc_shown_names.proofs.One.{init_of, IsDeclarator}

no-names : (ts : List CType) → entry_names (unnamed ts) ≡ []
no-names [] = refl
no-names (t ∷ ts) = no-names ts

-- one that has parameters next to its name
form-anyway : (base : Bool) (o : Option Form) → is_function_form false o ≡ true → is_function_form base o ≡ true
form-anyway base None h = absurd (cc)
form-anyway base (Some form.Function) h = refl
form-anyway base (Some form.Pointer) h = absurd (cc)
form-anyway base (Some form.Array) h = absurd (cc)

module _ (p : Program) where
  plain-same : (t : CType) → is_plain_scalar (kind_in p t) ≡ true → unqualified t ≡ t
  plain-same t h = let q = scalar-plain p t h in type-of-fields (unqualified t) t (sym q.0) (sym q.1) refl

  unnamed-types : (ts : List CType) → list_all (λ t. is_plain_scalar (kind_in p t)) ts ≡ true → map (λ (e : Entry). unqualified e.1) (unnamed ts) ≡ ts
  unnamed-types [] h = refl
  unnamed-types (t ∷ ts) h =
      let q = both_true (is_plain_scalar (kind_in p t)) (list_all (λ t. is_plain_scalar (kind_in p t)) ts) h in
      ap (λ (u : CType). u ∷ map (λ (e : Entry). unqualified e.1) (unnamed ts)) (plain-same t q.0) ∙ ap (λ (us : List CType). t ∷ us) (unnamed-types ts q.1)

  pub declares-one : (c : Bool) (b t : CType) (d : Declr) (x : Name) (es : List Entry) → Declares p.structures b d (Function x es) t → declares_function c d ≡ true
  declares-one c b t d x es h = form-anyway c (form_of d) (function-form p.structures b t d x es h)

  pub function-category : (b t : CType) (d : Declr) (x : Name) (es : List Entry) (storage : Option Word) (c : Bool) → Declares p.structures b d (Function x es) t → category_of stands.AtFile storage c d ≡ function_category storage
  function-category b t d x es storage c h = ap (λ f. category_by stands.AtFile storage f) (declares-one c b t d x es h)

  module _ (number : ℕ → ℕ) (defined : List Name) (s : State) (known : KnowsStructures p number s) (sized : AreSized p.structures p.target) (x : Name) (sig : Sig)
      (result : is_result (kind_in p (out-Sig sig).result) ≡ true) (params : list_all (λ t. is_plain_scalar (kind_in p t)) (out-Sig sig).params ≡ true) where
    new-names : HaveNewNames p.roles (unnamed (out-Sig sig).params)
    new-names = (ap are_distinct (no-names (out-Sig sig).params), ap (list_all (λ x. not (is_intrinsic p.roles x))) (no-names (out-Sig sig).params))

    pub function-declarator : (d : At Declr) (at : ℕ) (b : CType) → Declares p.structures b d.node (Function x (unnamed (out-Sig sig).params)) (out-Sig sig).result → IsDeclarator p number defined s known d at None x b (plain (Func (sig_numbered number sig)))
    function-declarator d at b h =
        let types = unnamed-types (out-Sig sig).params params in
        let q = is-declared p number p.roles sized s known sig x (unnamed (out-Sig sig).params) types result (are-scalars p (unnamed (out-Sig sig).params) (out-Sig sig).params types params) (init_allowed (init_of d at None).node) new-names refl b d.node h d.at in
        record { derivations = record { at = q.place; node = to.Function q.parameters (scope_of (map (entry_numbered number) (unnamed (out-Sig sig).params))) } ∷ q.outer; is = q.is; typed = q.typed }
