-- The storage class of specifiers is that of their tree: it is a word, and stands alone (C99 6.7.1, 2).
use Rattle.std.proofs.Common.{◌≡◌, ℕ, Bool, true, false, not, ◌&&◌, List, [], ◌∷◌, map, Option, Some, None, Ok, refl, ap, sym, ◌∙◌, subst}
use Rattle.std.specs.Prelude.{is_some, Err}
use Rattle.cc_type.specs.CcTypedTerms.Located.{located}
use Rattle.cc_type.specs.CcTypedTerms.Specifiers.{begin, type_named, marked, as_type, structure_tag, enumeration_tag}
use Rattle.cc_program.specs.CcNum.declared.target.Target.{Target}
use Rattle.cc_type.specs.CcObjects.Categories.{storage_class, storage_at, storage_in}
use Rattle.cc_operand_types.proofs.Operands.{given, must_ok}
use Rattle.cc_type.specs.CcOperands.declared.rule.Rule.TheVariants as rule
use Rattle.cc_program.specs.declared.program.Roles.{Roles}
use Rattle.cc_program.specs.declared.types.CType.{CType}
use Rattle.cc_type.specs.CcScopes.State.{State, Name, or_else, designated, tagged}
use Rattle.cc_type.specs.CcScopes.Structures.{structure_named, enumeration_named, tagged_option, closed, enumeration_closed, in_list}
use Rattle.cc_type.specs.CcScopes.Verdicts.{Found, whole, and_then}
use Rattle.cc_type.specs.CcScopes.declared.designated.Designated.{Designated}
use Rattle.cc_type.specs.CcScopes.declared.designated.Designated.TheVariants as means
use Rattle.cc_sound_declarations.proofs.Storage.{same_specs, specified_same}
use Rattle.cc_sound_terms.proofs.Founds.{answer_is, then_found, whole_found, then_judged}
use Rattle.cc_type.specs.CcSpecifiers.Attributes.{are_meant, attributes, attributes_in}
use Rattle.cc_type.specs.CcSpecifiers.Specifiers.{no_specifier, with_base, with_storage, word_beside, type_beside, said, with_mark, with_specifier, specified}
use Rattle.cc_type.specs.CcSpecifiers.Storage.{fits_storage}
use Rattle.cc_type.specs.CcSpecifiers.declared.attribute.Entity.TheVariants as entity
use Rattle.cc_type.specs.CcSpecifiers.declared.specifier.Specified.{Specified}
use Rattle.cc_type.specs.CcSpecifiers.declared.specifier.Specifier.{Specifier}
use Rattle.cc_type.specs.CcSpecifiers.declared.specifier.Specifier.TheVariants as specifier
use Rattle.cc_type.specs.CcSpecifiers.declared.specifier.Specs.{Specs}
use Rattle.cc_type.specs.CcSpecifiers.declared.storage.Setting.{Setting}
use Rattle.cc_type.specs.CcTerms.Constants.{enumr_step, constants_found, enumeration_found}
use Rattle.cc_type.specs.CcTerms.Declarators.{declr_step, params_step, param_step, type_name_step}
use Rattle.cc_type.specs.CcTerms.Expressions.{tree_step}
use Rattle.cc_type.specs.CcTerms.InTurn.{in_turn}
use Rattle.cc_type.specs.CcTerms.Meanings.{TreeMeaning, DeclrMeaning, ParamsMeaning, ParamMeaning, SpecMeaning, MembersMeaning, EnumrMeaning, TypeNameMeaning}
use Rattle.cc_type.specs.CcTerms.Members.{members_step}
use Rattle.cc_type.specs.CcTerms.Specifiers.{specifier_found, specifiers_found, specified_found, enumeration_spec, structure_spec, spec_step}
use Rattle.cc_type.specs.CcTerms.Structures.{structure_opened, members_found, structure_closed, structure_found}
use Rattle.cc_type.specs.CcTerms.Terms.{tree_of, declr_of, params_of, param_of, spec_of, members_of, enumr_of, type_name_of, spec_here}
use Rattle.cc_type.specs.CcSyntax.Types.{Named}
use Rattle.cc_tree.specs.declared.at.At.{At}
use Rattle.cc_tree.specs.declared.tree.Attr.{Attr}
use Rattle.cc_tree.specs.declared.tree.Declr.{Declr}
use Rattle.cc_tree.specs.declared.tree.Declr.TheOpen as one
use Rattle.cc_tree.specs.declared.tree.Enumr.{Enumr}
use Rattle.cc_tree.specs.declared.tree.MemberDecl.{MemberDecl}
use Rattle.cc_tree.specs.declared.tree.Param.{Param}
use Rattle.cc_tree.specs.declared.tree.Params.{Params}
use Rattle.cc_tree.specs.declared.tree.Spec.{Spec, out-Spec, fold_out-Spec, map-Spec}
use Rattle.cc_tree.specs.declared.tree.Tree.{Tree}
use Rattle.cc_tree.specs.declared.tree.TypeName.{TypeName}
use Rattle.cc_program.specs.CcWords.declared.word.Word.{Word}
use Rattle.cc_program.specs.CcWords.declared.word.Word.TheVariants as w

abbrev stored : Specs → Option Word
stored d = d.storage

none_before : (o : Option Word) → not (is_some o) ≡ true → o ≡ None
none_before None h = refl
none_before (Some x) h = absurd (cc)

or_none : (o : Option Word) → or_else o None ≡ o
or_none None = refl
or_none (Some x) = refl

or_three : (a b c : Option Word) → or_else (or_else a b) c ≡ or_else a (or_else b c)
or_three None b c = refl
or_three (Some x) b c = refl

and_first : (a b : Bool) → a && b ≡ true → a ≡ true
and_first true b h = refl
and_first false b h = absurd (cc)

module _ (setting : Setting) where
  -- ---- a word

  stored_here : (x : Word) (s c : Specs) → with_storage setting x s ≡ Ok c → c.storage ≡ or_else s.storage (Some x)
  stored_here x s c h =
      let one : Specs = record { storage = Some x; constant = s.constant; volatile = s.volatile; base = s.base; marks = s.marks } in
      let m = must_ok (not (is_some s.storage) && fits_storage setting x) rule.StorageClass (Ok one) c h in
      sym (ap stored (same_specs one c m.1)) ∙ ap (λ (o : Option Word). or_else o (Some x)) (sym (none_before s.storage (and_first (not (is_some s.storage)) (fits_storage setting x) m.0)))

  kept_here : (a c s : Specs) → given a ≡ Ok c → a.storage ≡ s.storage → c.storage ≡ or_else s.storage None
  kept_here a c s h e = sym (ap stored (same_specs a c h)) ∙ (e ∙ sym (or_none s.storage))

  said_stored : (x : Word) (s c : Specs) → said setting x s ≡ Ok c → c.storage ≡ or_else s.storage (storage_class x)
  said_stored w.Typedef s c h = stored_here w.Typedef s c h
  said_stored w.Extern s c h = stored_here w.Extern s c h
  said_stored w.Static s c h = stored_here w.Static s c h
  said_stored w.Auto s c h = stored_here w.Auto s c h
  said_stored w.Register s c h = stored_here w.Register s c h
  said_stored w.Const s c h = kept_here (record { storage = s.storage; constant = true; volatile = s.volatile; base = s.base; marks = s.marks }) c s h refl
  said_stored w.Volatile s c h = kept_here (record { storage = s.storage; constant = s.constant; volatile = true; base = s.base; marks = s.marks }) c s h refl
  said_stored w.Restrict s c h = kept_here s c s h refl
  said_stored w.Inline s c h = kept_here s c s h refl
  said_stored w.Extension s c h = kept_here s c s h refl
  said_stored x s c h = kept_here (with_base (word_beside x s.base) s) c s h refl

  abbrev class_in : Specifier → Option Word
  class_in (specifier.Word x) = storage_class x
  class_in (specifier.Type t) = None
  class_in (specifier.Attributes ms) = None

  specifier_stored : (at : ℕ) (p : Specifier) (s c : Specs) → with_specifier setting at p s ≡ Ok c → c.storage ≡ or_else s.storage (class_in p)
  specifier_stored at (specifier.Word x) s c h = said_stored x s c h
  specifier_stored at (specifier.Type t) s c h = kept_here (with_base (type_beside t s.base) s) c s h refl
  specifier_stored at (specifier.Attributes ms) s c h =
      let m = must_ok (are_meant setting.entities ms) rule.Attribute (Ok (with_mark at ms s)) c h in
      kept_here (with_mark at ms s) c s m.1 refl

  module _ (target : Target) (roles : Roles) where
    -- ---- one specifier

    abbrev meant : one.Spec-F Declr Params Spec Tree Enumr MemberDecl Param TypeName → SpecMeaning
    meant x = spec_step target (map-Spec Declr Params Spec Tree Enumr MemberDecl Param TypeName DeclrMeaning ParamsMeaning SpecMeaning TreeMeaning EnumrMeaning MembersMeaning ParamMeaning TypeNameMeaning (declr_of target roles) (params_of target roles) (spec_of target roles) (tree_of target roles) (enumr_of target roles) (members_of target roles) (param_of target roles) (type_name_of target roles) x)

    spec-out : (x : Spec) → spec_of target roles x ≡ meant (out-Spec x)
    unfolding declr_of params_of spec_of tree_of enumr_of members_of param_of type_name_of
    spec-out x = fold_out-Spec DeclrMeaning ParamsMeaning SpecMeaning TreeMeaning EnumrMeaning MembersMeaning ParamMeaning TypeNameMeaning declr_step params_step (spec_step target) (tree_step target roles) (enumr_step target roles) (members_step target) (param_step target roles) (type_name_step target) x

    type_class : (found : Found CType) (r : Specifier × State) → as_type found ≡ Ok r → class_in r.0 ≡ None
    type_class found r h =
        let a = then_found found (λ t s. Ok (specifier.Type t, s)) r h in
        ap class_in (answer_is (specifier.Type a.0.0) a.0.1 r a.2).0

    named_class : (d : Option Designated) (p : Specifier) → type_named d ≡ Ok p → class_in p ≡ None
    named_class (Some (means.TypeNamed t)) p h = of_type (specifier.Type t) p h refl
      where
        of_type : (q p : Specifier) → given q ≡ Ok p → class_in q ≡ None → class_in p ≡ None
        of_type q p h e = let c : q ≡ p = cc in ap class_in (sym c) ∙ e
    named_class None p h = absurd (cc)
    named_class (Some (means.Linked i)) p h = absurd (cc)
    named_class (Some (means.Automatic n t)) p h = absurd (cc)
    named_class (Some (means.Enumerator n)) p h = absurd (cc)

    marked_class : (a : Attr) (p : Specifier) → marked a ≡ Ok p → class_in p ≡ None
    marked_class a p h =
        let m = then_judged (attributes_in a.words) (λ ms. Ok (specifier.Attributes ms)) p h in
        of_marks (specifier.Attributes m.0) p m.2 refl
      where
        of_marks : (q p : Specifier) → given q ≡ Ok p → class_in q ≡ None → class_in p ≡ None
        of_marks q p h e = let c : q ≡ p = cc in ap class_in (sym c) ∙ e

    no_specifier_found : (at : ℕ) (s : State) (r : Specifier × State) → whole at s (Err rule.NoType) ≡ Ok r → ⊥
    no_specifier_found at s r h = cc

    closed_class : (at : ℕ) (behind : List (At Attr)) (clash : Bool) (i : ℕ) (ms : List Named) (s : State) (r : Specifier × State) → structure_closed target at behind clash i ms s ≡ Ok r → class_in r.0 ≡ None
    closed_class at behind clash i ms s r h =
        let a = then_found (located s (attributes (entity.Structure ∷ []) behind)) (λ marks s. as_type (closed target at clash i ms s)) r h in
        type_class (closed target at clash i ms a.0.1) r a.2

    structure_class : (at : ℕ) (tag : Option Name) (members : Option (List (At MembersMeaning))) (front behind : List (At Attr)) (s : State) (r : Specifier × State) → structure_spec target at tag members front behind s ≡ Ok r → class_in r.0 ≡ None
    structure_class at tag (Some ds) front behind s r h =
        let a = then_found (structure_opened tag front s) (λ new s. and_then (members_found ds s) (λ ms s. structure_closed target at behind new.0 new.1 ms s)) r h in
        let b = then_found (members_found ds a.0.1) (λ ms s. structure_closed target at behind a.0.0.0 a.0.0.1 ms s) r a.2 in
        closed_class at behind a.0.0.0 a.0.0.1 b.0.0 b.0.1 r b.2
    structure_class at (Some x) None front behind s r h = type_class (structure_named at x s (tagged x s.scopes)) r h
    structure_class at None None front behind s r h = absurd (no_specifier_found at s r h)

    enumeration_class : (at : ℕ) (tag : Option Name) (constants : Option (List (At EnumrMeaning))) (s : State) (r : Specifier × State) → enumeration_spec at tag constants s ≡ Ok r → class_in r.0 ≡ None
    enumeration_class at tag (Some cs) s r h =
        let a = then_found (constants_found cs (in_list tag s)) (λ next t. as_type (enumeration_closed at (is_some (tagged_option tag s)) tag t)) r h in
        type_class (enumeration_closed at (is_some (tagged_option tag s)) tag a.0.1) r a.2
    enumeration_class at (Some x) None s r h = type_class (enumeration_named at s (tagged x s.scopes)) r h
    enumeration_class at None None s r h = absurd (no_specifier_found at s r h)

    meant_class : (y : one.Spec-F Declr Params Spec Tree Enumr MemberDecl Param TypeName) (at : ℕ) (s : State) (r : Specifier × State) → meant y at s ≡ Ok r → class_in r.0 ≡ storage_at y
    meant_class (one.Word x) at s r h = ap class_in (answer_is (specifier.Word x) s r h).0
    meant_class (one.Spec::Named x) at s r h = named_class (designated x s.scopes) r.0 (whole_found at s (type_named (designated x s.scopes)) r h).0
    meant_class (one.Struct tag None front behind) at s r h = structure_class at tag None front behind s r h
    meant_class (one.Struct tag (Some ds) front behind) at s r h = structure_class at tag (Some (map (λ (d : At MemberDecl). record { at = d.at; node = members_of target roles d.node }) ds)) front behind s r h
    meant_class (one.Enum tag None) at s r h = enumeration_class at tag None s r h
    meant_class (one.Enum tag (Some cs)) at s r h = enumeration_class at tag (Some (map (λ (d : At Enumr). record { at = d.at; node = enumr_of target roles d.node }) cs)) s r h
    meant_class (one.Attr a) at s r h = marked_class a r.0 (whole_found at s (marked a) r h).0

    spec_class : (x : Spec) (at : ℕ) (s : State) (r : Specifier × State) → spec_of target roles x at s ≡ Ok r → class_in r.0 ≡ storage_at (out-Spec x)
    spec_class x at s r h = meant_class (out-Spec x) at s r (ap (λ (m : SpecMeaning). m at s) (sym (spec-out x)) ∙ h)

    -- ---- all of them

    all_stored : (xs : List (At Spec)) (b : Specs) (s : State) (r : Specs × State) → in_turn (specifier_found setting) (map (spec_here target roles) xs) b s ≡ Ok r → r.0.storage ≡ or_else b.storage (storage_in xs)
    all_stored [] b s r h = ap stored (answer_is b s r h).0 ∙ sym (or_none b.storage)
    all_stored (x ∷ xs) b s r h =
        let a = then_found (specifier_found setting (spec_here target roles x) b s) (in_turn (specifier_found setting) (map (spec_here target roles) xs)) r h in
        let c = then_found (spec_of target roles x.node x.at s) (λ p s. whole x.at s (with_specifier setting x.at p b)) a.0 a.1 in
        let d = whole_found x.at c.0.1 (with_specifier setting x.at c.0.0 b) a.0 c.2 in
        let e = specifier_stored x.at c.0.0 b a.0.0 d.0 ∙ ap (or_else b.storage) (spec_class x.node x.at s c.0 c.1) in
        all_stored xs a.0.0 a.0.1 r a.2
        ∙ ap (λ (o : Option Word). or_else o (storage_in xs)) e
        ∙ or_three b.storage (storage_at (out-Spec x.node)) (storage_in xs)

    pub storage_is : (xs : List (At Spec)) (s : State) (r : Specified × State) → specified_found setting (map (spec_here target roles) xs) s ≡ Ok r → r.0.specs.storage ≡ storage_in xs
    storage_is xs s r h =
        let a = then_found (specifiers_found setting (map (spec_here target roles) xs) s) (λ specs s. whole (begin (map (spec_here target roles) xs)) s (specified specs)) r h in
        let b = whole_found (begin (map (spec_here target roles) xs)) a.0.1 (specified a.0.0) r a.2 in
        ap stored (sym (specified_same setting a.0.0 r.0 b.0)) ∙ all_stored xs no_specifier s a.0 a.1
