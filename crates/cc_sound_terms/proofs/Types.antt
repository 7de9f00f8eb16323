-- What specifiers, declarators, parameters, members and type names give stands, where their parts do (C99 6.7.2 to 6.7.6): construct
-- by construct, over the meanings of the parts.
use Rattle.std.proofs.Common.{◌≡◌, ◌⊎◌, inl, inr, ℕ, ℤ, pos, negsuc, ◌+ℤ◌, Bool, true, false, not, ◌&&◌, ◌||◌, List, [], ◌∷◌, ◌++◌, length, Option, Some, None, Ok, Err, refl, ap, sym, ◌∙◌, subst}
use Rattle.std.specs.Prelude.{is_some, slice_get, if◌then◌else◌}
use Rattle.cc_terms.specs.CcTypedTerms.Declarators.{derived_type}
use Rattle.cc_terms.specs.CcTypedTerms.Located.{located}
use Rattle.cc_terms.specs.CcTypedTerms.Members.{member_judged}
use Rattle.cc_terms.specs.CcTypedTerms.Names.{new_name}
use Rattle.cc_terms.specs.CcTypedTerms.Specifiers.{begin, type_named, marked, as_type, structure_tag, enumeration_tag}
use Rattle.cc_program.specs.CcNum.Integers.{is_value_of}
use Rattle.cc_program.specs.CcNum.declared.int_type.IntType.{IntType}
use Rattle.cc_program.specs.CcNum.declared.int_type.IntType.TheVariants as int
use Rattle.cc_terms.specs.CcOperands.Operands.{Operand, constancy}
use Rattle.cc_terms.specs.CcOperands.Qualified.{plain, qualified_by}
use Rattle.cc_terms.specs.CcOperands.Verdicts.{Judged, must}
use Rattle.cc_terms.specs.CcOperands.declared.rule.Rule.TheVariants as rule
use Rattle.cc_terms.specs.CcSyntax.Views.{View, kind_in}
use Rattle.cc_operand_types.proofs.Operands.{given, ok_is, must_ok}
use Rattle.cc_terms.specs.CcTypedTerms.Values.{value_found}
use Rattle.cc_program.proofs.Each.{Each}
use Rattle.cc_program.specs.declared.program.Roles.{Roles}
use Rattle.cc_program.specs.declared.types.CType.{CType}
use Rattle.cc_program.specs.declared.types.Shape.{Shape, Void, Int}
use Rattle.cc_terms.specs.CcScopes.State.{State, Name, Scope, KnownStructure, or_else, designated, tagged, outer_scopes, bind, bind_tag, only_named, with_structures, structures_of, layouts_of}
use Rattle.cc_terms.specs.CcScopes.Structures.{structure_type, enumeration_type, with_structure, new_structure, structure_named, opened_by, tagged_option, opened, is_enumeration, has_content, with_members, completed, closed, is_member_name, enumeration_constant, enumeration_tagged, enumeration_closed, in_list, enumeration_named}
use Rattle.cc_terms.specs.CcScopes.Verdicts.{Found, whole, and_then}
use Rattle.cc_terms.specs.CcScopes.declared.designated.Designated.{Designated}
use Rattle.cc_terms.specs.CcScopes.declared.designated.Designated.TheVariants as means
use Rattle.cc_terms.specs.CcScopes.declared.designated.Tagged.{Tagged}
use Rattle.cc_terms.specs.CcScopes.declared.designated.Tagged.TheVariants as tag
use Rattle.cc_terms.specs.CcSpecifiers.Attributes.{are_meant, attributes_in, attributes}
use Rattle.cc_terms.specs.CcSpecifiers.BasicTypes.{with_word, is_no_word, int_by, char_by, basic_by}
use Rattle.cc_terms.specs.CcSpecifiers.Bounds.{is_bound, bound_by, bound_in, bound_judged}
use Rattle.cc_terms.specs.CcSpecifiers.Declarators.{type_found}
use Rattle.cc_terms.specs.CcSpecifiers.Derivations.{nothing_more, in_type_name, with_derivation, is_next_to_name, suffix_found, pointer_derivation}
use Rattle.cc_terms.specs.CcSpecifiers.Objects.{size_of, is_object}
use Rattle.cc_terms.specs.CcSpecifiers.Places.{JudgedAt}
use Rattle.cc_terms.specs.CcSpecifiers.Specifiers.{no_specifier, with_base, with_storage, base_or_clash, word_beside, type_beside, said, with_mark, with_specifier, shape_or, based, named_type, specified}
use Rattle.cc_terms.specs.CcSpecifiers.Storage.{setting, fits_storage}
use Rattle.cc_terms.specs.CcSpecifiers.declared.attribute.Entity.TheVariants as entity
use Rattle.cc_terms.specs.CcSpecifiers.declared.basic.Basic.{Basic}
use Rattle.cc_terms.specs.CcSpecifiers.declared.basic.Length.{Length}
use Rattle.cc_terms.specs.CcSpecifiers.declared.basic.Length.TheVariants as lengths
use Rattle.cc_terms.specs.CcSpecifiers.declared.derivation.Allowed.{Allowed}
use Rattle.cc_terms.specs.CcSpecifiers.declared.derivation.Declarator.{Declarator}
use Rattle.cc_terms.specs.CcSpecifiers.declared.derivation.Derivation.{Derivation}
use Rattle.cc_terms.specs.CcSpecifiers.declared.derivation.Derivation.TheVariants as to
use Rattle.cc_terms.specs.CcSpecifiers.declared.specifier.Base.{Base}
use Rattle.cc_terms.specs.CcSpecifiers.declared.specifier.Base.TheVariants as base
use Rattle.cc_terms.specs.CcSpecifiers.declared.specifier.Specified.{Specified}
use Rattle.cc_terms.specs.CcSpecifiers.declared.specifier.Specifier.{Specifier}
use Rattle.cc_terms.specs.CcSpecifiers.declared.specifier.Specifier.TheVariants as specifier
use Rattle.cc_terms.specs.CcSpecifiers.declared.specifier.Specs.{Specs}
use Rattle.cc_terms.specs.CcSpecifiers.declared.storage.Setting.{Setting}
use Rattle.cc_terms.specs.CcSpecifiers.declared.storage.Where.TheVariants as stands
use Rattle.cc_terms.specs.CcSyntax.Folding.{Constant, NoConstant, Value, Traps}
use Rattle.cc_terms.specs.CcSyntax.Kinds.{is_small, is_object_type}
use Rattle.cc_terms.specs.CcSyntax.Types.{Named, is_complete}
use Rattle.cc_terms.proofs.CcSyntax.Prefixes.{both_true}
use Rattle.cc_tree.specs.declared.at.At.{At}
use Rattle.cc_tree.specs.declared.tree.Attr.{Attr}
use Rattle.cc_program.specs.CcWords.declared.word.Word.{Word}
use Rattle.cc_program.specs.CcWords.declared.word.Word.TheVariants as w
use Rattle.cc_terms.specs.Constants.{constants_found, enumeration_found, constant_declared, constant_by}
use Rattle.cc_terms.specs.Declarators.{declarator, without_bound, with_bound, bounded}
use Rattle.cc_terms.specs.InTurn.{in_turn}
use Rattle.cc_terms.specs.Meanings.{TreeMeaning, DeclrMeaning, ParamsMeaning, SpecMeaning, MembersMeaning, EnumrMeaning}
use Rattle.cc_terms.specs.Members.{member_found, declared_members}
use Rattle.cc_terms.specs.Specifiers.{specifier_found, specifiers_found, specified_found}
use Rattle.cc_terms.specs.Structures.{structure_opened, members_found, structure_closed, structure_found, member_behind}
use Rattle.cc_terms.specs.CcScopes.declared.unit.Declared.{Declared}
use Rattle.cc_sound_terms.specs.Behind.{HasEntry, IsUnnamed, Behind, Extends}
use Rattle.cc_sound_terms.specs.Ordered.{HasMembers, IsOrdered, AreComplete}
use Rattle.cc_sound_terms.specs.Growing.{Grows, StructureKept, StructuresKept, IsConstant, IsTag}
use Rattle.cc_sound_terms.specs.Knowing.{Stands, KnowsStructures, IsThere}
use Rattle.cc_sound_terms.specs.Standing.{IsDerived, ParameterStands, IsNamedType, IsBounded, DerivationsStand, SpecifierStands, BaseStands, MembersKnown}
use Rattle.cc_sound_terms.specs.Typing.{KnowsTypes}
use Rattle.cc_sound_terms.proofs.Completeness.{complete_grown, ordered_closed}
use Rattle.cc_sound_terms.proofs.Founds.{answer, answer_is, then_found, whole_found, located_found, then_judged}
use Rattle.cc_sound_terms.proofs.Behind.{names_itself, names_more, added_behind, behind_through, known_first, known_second, adds_itself, adds_through, bind_adds, bind_tag_adds, structure_adds, more_through, stands_behind}
use Rattle.cc_sound_terms.proofs.Closings.{brace_closes, closings_through}
use Rattle.cc_sound_terms.specs.Closings.{Closings}
use Rattle.cc_sound_terms.proofs.Growth.{get_last, tagged-opens, grows_itself, grows_through, tags_stand, structures_changed, changed_or_not, changed_place, changed_there}
use Rattle.cc_sound_terms.proofs.TypeKinds.{sizes_known, object_stands, structure_stands, void_stands, int_stands, qualified_stands}
use Rattle.cc_sound_terms.proofs.Known.{types_first, types_second}
use Rattle.cc_sound_terms.proofs.Meant.{TypesHold, TreeGrows, DeclrHolds, ParamsHold, SpecHolds, MembersHold, EnumrHolds, TypeNameHolds, value_grows}
use Rattle.cc_sound_terms.proofs.NamedTypes.{derived_stands, only_standing}
use Rattle.cc_sound_terms.proofs.Outcomes.{each_append, chained, in_turn_holds, staying, whole_holds, behind}

module _ (v : View) where
  abbrev pub Holds : (A : Type 0) → (A → Type 0) → State → A × State → Type 0
  Holds A T s r = TypesHold v A T s r

  pub then_holds : {A B : Type 0} (T : A → Type 0) (U : B → Type 0) (found : Found A) (next : A → State → Found B) (s : State) (r : B × State) →
      ((x : A × State) → found ≡ Ok x → Holds A T s x) → ((x : A × State) → next x.0 x.1 ≡ Ok r → Holds B (λ y. T x.0 → U y) x.1 r) → and_then found next ≡ Ok r → Holds B U s r
  then_holds T U found next s r f g h = chained v (IsConstant v.target) (KnowsTypes v) (types_first v (IsConstant v.target)) (types_second v (IsConstant v.target)) T U found next s r f g h

  pub stays : (A : Type 0) (T : A → Type 0) (s : State) (r : A × State) → r.1 ≡ s → (KnowsTypes v s s → T r.0) → Holds A T s r
  stays A T s r e f = staying v (IsConstant v.target) (KnowsTypes v) (types_first v (IsConstant v.target)) (types_second v (IsConstant v.target)) A T s r e f

  pub judged_holds : (A : Type 0) (T : A → Type 0) (at : ℕ) (s : State) (judged : Judged A) (r : A × State) → ((x : A) → judged ≡ Ok x → KnowsTypes v s s → T x) → whole at s judged ≡ Ok r → Holds A T s r
  judged_holds A T at s judged r f h = whole_holds v (IsConstant v.target) (KnowsTypes v) (types_first v (IsConstant v.target)) (types_second v (IsConstant v.target)) A T at s judged r f h

  pub list_holds : {A B : Type 0} (find : A → B → State → Found B) (Good : A → Type 0) (P : B → Type 0) → ((x : A) → Good x → (b : B) (s : State) (r : B × State) → find x b s ≡ Ok r → Holds B (λ c. P b → P c) s r) →
      (xs : List A) → Each Good xs → (b : B) (s : State) (r : B × State) → in_turn find xs b s ≡ Ok r → Holds B (λ c. P b → P c) s r
  list_holds find Good P f xs g b s r h = in_turn_holds v (IsConstant v.target) (KnowsTypes v) (types_first v (IsConstant v.target)) (types_second v (IsConstant v.target)) find Good P f xs g b s r h

  pub answer_holds : (A : Type 0) (T : A → Type 0) (x : A) (s : State) (r : A × State) → (KnowsTypes v s s → T x) → answer x s ≡ Ok r → Holds A T s r
  answer_holds A T x s r f h = let e = answer_is x s r h in stays A T s r e.1 (λ k. subst T (sym e.0) (f k))

  -- attributes declare nothing
  located_then : {A B : Type 0} (U : B → Type 0) (s : State) (judged : JudgedAt A) (next : A → State → Found B) (r : B × State) → ((x : A) → next x s ≡ Ok r → Holds B U s r) → and_then (located s judged) next ≡ Ok r → Holds B U s r
  located_then U s judged next r f h =
      let a = then_found (located s judged) next r h in
      let e = located_found s judged a.0 a.1 in
      f a.0.0 (ap (λ (t : State). next a.0.0 t) (sym e.1) ∙ a.2)

  -- ---- specifiers

  word_base : (x : Word) (b : Base) → BaseStands v (word_beside x b)
  word_base x (base.Words b) = one_word (with_word x b)
    where
      one_word : (o : Option Basic) → BaseStands v (base_or_clash o)
      one_word None = tt
      one_word (Some c) = tt
  word_base x (base.Itself t) = tt
  word_base x base.Clash = tt

  same_specs : (a b : Specs) → given a ≡ Ok b → a ≡ b
  same_specs a b h = ok_is h

  stored_base : (setting : Setting) (x : Word) (s c : Specs) → with_storage setting x s ≡ Ok c → BaseStands v s.base → BaseStands v c.base
  stored_base setting x s c h k =
      let one : Specs = record { storage = Some x; constant = s.constant; volatile = s.volatile; base = s.base; marks = s.marks } in
      let m = must_ok (not (is_some s.storage) && fits_storage setting x) rule.StorageClass (Ok one) c h in
      subst (λ (d : Specs). BaseStands v d.base) (same_specs one c m.1) k

  kept_base : (a c : Specs) (s : Specs) → given a ≡ Ok c → a.base ≡ s.base → BaseStands v s.base → BaseStands v c.base
  kept_base a c s h e k = subst (λ (d : Specs). BaseStands v d.base) (same_specs a c h) (subst (BaseStands v) (sym e) k)

  worded : (x : Word) (s c : Specs) → given (with_base (word_beside x s.base) s) ≡ Ok c → BaseStands v c.base
  worded x s c h = subst (λ (d : Specs). BaseStands v d.base) (same_specs (with_base (word_beside x s.base) s) c h) (word_base x s.base)

  said_base : (setting : Setting) (x : Word) (s c : Specs) → said setting x s ≡ Ok c → BaseStands v s.base → BaseStands v c.base
  said_base setting w.Typedef s c h k = stored_base setting w.Typedef s c h k
  said_base setting w.Extern s c h k = stored_base setting w.Extern s c h k
  said_base setting w.Static s c h k = stored_base setting w.Static s c h k
  said_base setting w.Auto s c h k = stored_base setting w.Auto s c h k
  said_base setting w.Register s c h k = stored_base setting w.Register s c h k
  said_base setting w.Const s c h k = kept_base (record { storage = s.storage; constant = true; volatile = s.volatile; base = s.base; marks = s.marks }) c s h refl k
  said_base setting w.Volatile s c h k = kept_base (record { storage = s.storage; constant = s.constant; volatile = true; base = s.base; marks = s.marks }) c s h refl k
  said_base setting w.Restrict s c h k = kept_base s c s h refl k
  said_base setting w.Inline s c h k = kept_base s c s h refl k
  said_base setting w.Extension s c h k = kept_base s c s h refl k
  said_base setting x s c h k = worded x s c h

  type_if : (b : Bool) (t : CType) → Stands v t → BaseStands v (if b then base.Itself t else base.Clash)
  type_if true t k = k
  type_if false t k = tt

  type_base : (t : CType) (b : Base) → Stands v t → BaseStands v (type_beside t b)
  type_base t (base.Words b) k = type_if (is_no_word b) t k
  type_base t (base.Itself u) k = tt
  type_base t base.Clash k = tt

  specifier_base : (setting : Setting) (at : ℕ) (p : Specifier) (s c : Specs) → with_specifier setting at p s ≡ Ok c → SpecifierStands v p → BaseStands v s.base → BaseStands v c.base
  specifier_base setting at (specifier.Word x) s c h p k = said_base setting x s c h k
  specifier_base setting at (specifier.Type t) s c h p k = subst (λ (d : Specs). BaseStands v d.base) (same_specs (with_base (type_beside t s.base) s) c h) (type_base t s.base p)
  specifier_base setting at (specifier.Attributes ms) s c h p k =
      let m = must_ok (are_meant setting.entities ms) rule.Attribute (Ok (with_mark at ms s)) c h in
      kept_base (with_mark at ms s) c s m.1 refl k

  specifier_holds : (setting : Setting) (x : At SpecMeaning) → SpecHolds v x.node → (specs : Specs) (s : State) (r : Specs × State) → specifier_found setting x specs s ≡ Ok r →
      Holds Specs (λ c. BaseStands v specs.base → BaseStands v c.base) s r
  specifier_holds setting x hx specs s r h =
      then_holds (SpecifierStands v) (λ c. BaseStands v specs.base → BaseStands v c.base) (x.node x.at s) (λ p s. whole x.at s (with_specifier setting x.at p specs)) s r (λ p f. hx x.at s p f)
      (λ p g. judged_holds Specs (λ c. SpecifierStands v p.0 → BaseStands v specs.base → BaseStands v c.base) x.at p.1 (with_specifier setting x.at p.0 specs) r (λ c e k hp hb. specifier_base setting x.at p.0 specs c e hp hb) g) h

  -- the types that words name
  shape_ok : (a b : Shape) → Some a ≡ Some b → a ≡ b
  shape_ok a b h = cc

  int_basic : (t : IntType) (s : Shape) → Some (Int t) ≡ Some s → Stands v (plain s)
  int_basic t s h = subst (λ (x : Shape). Stands v (plain x)) (shape_ok (Int t) s h) (int_stands v t)

  alone_basic : (b : Bool) (a s : Shape) → (if b then None else Some a) ≡ Some s → Stands v (plain a) → Stands v (plain s)
  alone_basic true a s h k = absurd (cc)
  alone_basic false a s h k = subst (λ (x : Shape). Stands v (plain x)) (shape_ok a s h) k

  plain_basic : (b : Bool) (t : IntType) (s : Shape) → (if b then Some (Int t) else None) ≡ Some s → Stands v (plain s)
  plain_basic true t s h = int_basic t s h
  plain_basic false t s h = absurd (cc)

  basic_stands : (b : Basic) (l : Length) (s : Shape) → basic_by b l ≡ Some s → Stands v (plain s)
  basic_stands b lengths.Void s h = alone_basic (is_some b.sign || b.int) Void s h (void_stands v)
  basic_stands b lengths.Bool s h = alone_basic (is_some b.sign || b.int) (Int int.Bool) s h (int_stands v int.Bool)
  basic_stands b lengths.Char s h = alone_basic b.int (Int (char_by b.sign)) s h (int_stands v (char_by b.sign))
  basic_stands b lengths.Short s h = int_basic (int_by b.sign int.Short int.UShort) s h
  basic_stands b lengths.Long s h = int_basic (int_by b.sign int.Long int.ULong) s h
  basic_stands b lengths.LongLong s h = int_basic (int_by b.sign int.LongLong int.ULongLong) s h
  basic_stands b lengths.Plain s h = plain_basic (is_some b.sign || b.int) (int_by b.sign int.Int int.UInt) s h

  type_same : (t u : CType) → given t ≡ Ok u → t ≡ u
  type_same t u h = ok_is h

  shaped_stands : (b : Basic) (o : Option Shape) (t : CType) → basic_by b b.length ≡ o → shape_or o ≡ Ok t → Stands v t
  shaped_stands b None t e h = absurd (cc)
  shaped_stands b (Some s) t e h = subst (Stands v) (type_same (plain s) t h) (basic_stands b b.length s e)

  based_stands : (b : Base) (t : CType) → based b ≡ Ok t → BaseStands v b → Stands v t
  based_stands (base.Words b) t h k = shaped_stands b (basic_by b b.length) t refl h
  based_stands (base.Itself u) t h k = subst (Stands v) (type_same u t h) k
  based_stands base.Clash t h k = absurd (cc)

  same_specified : (a b : Specified) → given a ≡ Ok b → a ≡ b
  same_specified a b h = ok_is h

  specified_stands : (s : Specs) (x : Specified) → specified s ≡ Ok x → BaseStands v s.base → Stands v x.ctype
  specified_stands s x h k =
      let a = then_judged (named_type s) (λ t. Ok (record { specs = s; ctype = t })) x h in
      let b = then_judged (based s.base) (λ t. Ok (qualified_by s.constant s.volatile t)) a.0 a.1 in
      let t = qualified_stands v s.constant s.volatile b.0 (based_stands s.base b.0 b.1 k) in
      subst (λ (y : Specified). Stands v y.ctype) (same_specified (record { specs = s; ctype = a.0 }) x a.2) (subst (Stands v) (type_same (qualified_by s.constant s.volatile b.0) a.0 b.2) t)

  pub specified_holds : (setting : Setting) (xs : List (At SpecMeaning)) → Each (λ x. SpecHolds v x.node) xs → (s : State) (r : Specified × State) → specified_found setting xs s ≡ Ok r → Holds Specified (λ x. Stands v x.ctype) s r
  specified_holds setting xs hs s r h =
      then_holds (λ c. BaseStands v c.base) (λ x. Stands v x.ctype) (specifiers_found setting xs s) (λ specs s. whole (begin xs) s (specified specs)) s r
      (λ c f. let o = list_holds (specifier_found setting) (λ x. SpecHolds v x.node) (λ c. BaseStands v c.base) (specifier_holds setting) xs hs no_specifier s c f in record { grows = o.grows; holds = λ k. o.holds k tt })
      (λ c g. judged_holds Specified (λ x. BaseStands v c.0.base → Stands v x.ctype) (begin xs) c.1 (specified c.0) r (λ x e k hb. specified_stands c.0 x e hb) g) h

  -- ---- a specifier

  pub word_holds : (x : Word) → SpecHolds v (λ at s. Ok (specifier.Word x, s))
  word_holds x at s r h = answer_holds Specifier (SpecifierStands v) (specifier.Word x) s r (λ k. tt) h

  same_specifier : (a b : Specifier) → given a ≡ Ok b → a ≡ b
  same_specifier a b h = ok_is h

  named_stands : (s : State) (x : Name) (o : Option Designated) (p : Specifier) → KnowsTypes v s s → designated x s.scopes ≡ o → type_named o ≡ Ok p → SpecifierStands v p
  named_stands s x None p k e h = absurd (cc)
  named_stands s x (Some (means.TypeNamed t)) p k e h = subst (SpecifierStands v) (same_specifier (specifier.Type t) p h) (k.types x t e)
  named_stands s x (Some (means.Linked i)) p k e h = absurd (cc)
  named_stands s x (Some (means.Automatic n t)) p k e h = absurd (cc)
  named_stands s x (Some (means.Enumerator n)) p k e h = absurd (cc)

  pub type_named_holds : (x : Name) → SpecHolds v (λ at s. whole at s (type_named (designated x s.scopes)))
  type_named_holds x at s r h = judged_holds Specifier (SpecifierStands v) at s (type_named (designated x s.scopes)) r (λ p e k. named_stands s x (designated x s.scopes) p k refl e) h

  marked_stands : (a : Attr) (p : Specifier) → marked a ≡ Ok p → SpecifierStands v p
  marked_stands a p h =
      let m = then_judged (attributes_in a.words) (λ ms. Ok (specifier.Attributes ms)) p h in
      subst (SpecifierStands v) (same_specifier (specifier.Attributes m.0) p m.2) tt

  pub marked_holds : (a : Attr) → SpecHolds v (λ at s. whole at s (marked a))
  marked_holds a at s r h = judged_holds Specifier (SpecifierStands v) at s (marked a) r (λ p e k. marked_stands a p e) h

  as_type_holds : (T : CType → Type 0) (found : Found CType) (s : State) (r : Specifier × State) → ((x : CType × State) → found ≡ Ok x → Holds CType (Stands v) s x) → as_type found ≡ Ok r → Holds Specifier (SpecifierStands v) s r
  as_type_holds T found s r f h =
      then_holds (Stands v) (SpecifierStands v) found (λ t s. Ok (specifier.Type t, s)) s r f
      (λ x g. answer_holds Specifier (λ p. Stands v x.0 → SpecifierStands v p) (specifier.Type x.0) x.1 r (λ k t. t) g) h

  -- ---- structures

  there_in : (t : State) (i : ℕ) (k : KnownStructure) → KnowsStructures v t.structures → slice_get t.structures i ≡ Some k → IsThere v i
  there_in t i k w e = let x = w i k e in (x.extent, x.there)

  tag_is : (i j : ℕ) → tag.StructureTag i ≡ tag.StructureTag j → i ≡ j
  tag_is i j h = cc

  new_tag : (s : State) (k : KnownStructure) (t : State) → t.structures ≡ s.structures ++ k ∷ [] → IsTag t.structures (tag.StructureTag (length s.structures))
  new_tag s k t e = λ i f. (k, ap (λ (xs : List KnownStructure). slice_get xs i) e ∙ ap (slice_get (s.structures ++ k ∷ [])) (sym (tag_is (length s.structures) i f)) ∙ get_last s.structures k)

  pub record IsNew (s : State) (r : ℕ × State) : Type 0 where
    pub grows : Extends v s r.1
    pub kind : KnownStructure
    pub at : slice_get r.1.structures r.0 ≡ Some kind

  pub new_is : (tag : Option Name) (s : State) → IsNew s (new_structure tag s)
  new_is None s = record { grows = structure_adds v (IsConstant v.target) (only_named None) s refl; kind = only_named None; at = get_last s.structures (only_named None) }
  new_is (Some x) s =
      let k = only_named (Some x) in
      let t = with_structures (s.structures ++ k ∷ []) s in
      record {
        grows = adds_through v (IsConstant v.target) s t (bind_tag x (tag.StructureTag (length s.structures)) t) (structure_adds v (IsConstant v.target) k s refl)
            (bind_tag_adds v (IsConstant v.target) x (tag.StructureTag (length s.structures)) t (new_tag s k t refl));
        kind = k;
        at = get_last s.structures k;
      }

  named_by_tag : (at : ℕ) (x : Name) (s : State) (o : Option Tagged) (r : CType × State) → tagged x s.scopes ≡ o → structure_named at x s o ≡ Ok r → Holds CType (Stands v) s r
  named_by_tag at x s None r e h =
      let n = new_is (Some x) s in
      let a = answer_is (structure_type (new_structure (Some x) s).0) (new_structure (Some x) s).1 r h in
      record {
        grows = subst (λ (t : State). Extends v s t) (sym a.1) n.grows;
        holds = λ k. let d = there_in r.1 (new_structure (Some x) s).0 n.kind k.structures (ap (λ (t : State). slice_get t.structures (new_structure (Some x) s).0) a.1 ∙ n.at) in
            subst (Stands v) (sym a.0) (structure_stands v (new_structure (Some x) s).0 d.0 d.1);
      }
  named_by_tag at x s (Some (tag.StructureTag i)) r e h =
      answer_holds CType (Stands v) (structure_type i) s r (λ k. let d = k.tags x (tag.StructureTag i) e i refl in structure_stands v i d.0 d.1) h
  named_by_tag at x s (Some tag.EnumerationTag) r e h = absurd (cc)
  named_by_tag at x s (Some tag.UnfinishedEnumeration) r e h = absurd (cc)

  pub structure_tag_holds : (x : Option Name) → SpecHolds v (λ at s. structure_tag at x s)
  structure_tag_holds None at s r h = absurd (cc)
  structure_tag_holds (Some x) at s r h = as_type_holds (Stands v) (structure_named at x s (tagged x s.scopes)) s r (λ y f. named_by_tag at x s (tagged x s.scopes) y refl f) h

  opened_holds : (x : Option Name) (s : State) (o : Option Tagged) → tagged_option x s ≡ o → Holds ℕ (IsThere v) s (opened_by x s o)
  opened_holds x s None e = let n = new_is x s in record { grows = n.grows; holds = λ k. there_in (new_structure x s).1 (new_structure x s).0 n.kind k.structures n.at }
  opened_holds x s (Some (tag.StructureTag i)) e = stays ℕ (IsThere v) s (i, s) refl (λ k. tag_there x s i e k)
    where
      tag_there : (x : Option Name) (s : State) (i : ℕ) → tagged_option x s ≡ Some (tag.StructureTag i) → KnowsTypes v s s → IsThere v i
      tag_there None s i e k = absurd (cc)
      tag_there (Some x) s i e k =
          k.tags x (tag.StructureTag i) (tagged-opens x s.scopes ∙ ap (λ (o : Option Tagged). or_else o (tagged x (outer_scopes s.scopes))) e) i refl
  opened_holds x s (Some tag.EnumerationTag) e =
      record { grows = structure_adds v (IsConstant v.target) (only_named x) s refl; holds = λ k. there_in (with_structure x s).1 (length s.structures) (only_named x) k.structures (get_last s.structures (only_named x)) }
  opened_holds x s (Some tag.UnfinishedEnumeration) e =
      record { grows = structure_adds v (IsConstant v.target) (only_named x) s refl; holds = λ k. there_in (with_structure x s).1 (length s.structures) (only_named x) k.structures (get_last s.structures (only_named x)) }

  structure_opened_holds : (x : Option Name) (front : List (At Attr)) (s : State) (r : (Bool × ℕ) × State) → structure_opened x front s ≡ Ok r → Holds (Bool × ℕ) (λ n. IsThere v n.1) s r
  structure_opened_holds x front s r h =
      located_then (λ n. IsThere v n.1) s (attributes (entity.Structure ∷ []) front) (λ marks s. Ok ((is_enumeration (tagged_option x s), (opened x s).0), (opened x s).1)) r
      (λ marks f.
      let a = answer_is (is_enumeration (tagged_option x s), (opened x s).0) (opened x s).1 r f in
      let o = opened_holds x s (tagged_option x s) refl in
      record { grows = subst (λ (t : State). Extends v s t) (sym a.1) o.grows; holds = λ k. subst (λ (n : Bool × ℕ). IsThere v n.1) (sym a.0) (o.holds (subst (λ (t : State). KnowsTypes v s t) a.1 k)) }) h

  members_hold : (ds : List (At MembersMeaning)) → Each (λ d. MembersHold v d.node) ds → (s : State) (r : List Named × State) → members_found ds s ≡ Ok r → Holds (List Named) (MembersKnown v) s r
  members_hold ds hs s r h =
      let o = list_holds (λ (d : At MembersMeaning) ms s. d.node ms s) (λ d. MembersHold v d.node) (MembersKnown v) (λ d hd before s r h. (hd before s r h).outcome) ds hs [] s r h in
      record { grows = o.grows; holds = λ k. o.holds k tt }

  members_complete : (ds : List (At MembersMeaning)) → Each (λ d. MembersHold v d.node) ds → (before : List Named) (s : State) (r : List Named × State) → in_turn (λ (d : At MembersMeaning) ms s. d.node ms s) ds before s ≡ Ok r →
      AreComplete before s → AreComplete r.0 r.1
  members_complete [] hs before s r h k =
      let e = answer_is before s r h in
      subst (λ (ms : List Named). AreComplete ms r.1) (sym e.0) (subst (AreComplete before) (sym e.1) k)
  members_complete (d ∷ ds) hs before s r h k =
      let a = then_found (d.node before s) (in_turn (λ (d : At MembersMeaning) ms s. d.node ms s) ds) r h in
      members_complete ds hs.1 a.0.0 a.0.1 r a.2 ((hs.0 before s a.0 a.1).complete k)

  no_content : (k : KnownStructure) (ms : List Named) → has_content (Some k) ≡ false → k.members ≡ Some ms → ⊥
  no_content k ms h e = let c : true ≡ false = sym (ap (λ (o : Option (List Named)). is_some o) e) ∙ h in absurd (cc)

  completed_kept : (ms : List Named) (i : ℕ) (s : State) (k : KnownStructure) → has_content (slice_get s.structures i) ≡ false → slice_get s.structures i ≡ Some k → StructureKept k (with_members v.target ms s k)
  completed_kept ms i s k h e = record { members = λ ns f. absurd (no_content k ns (sym (ap has_content e) ∙ h) f); layout = λ ns f. absurd (no_content k ns (sym (ap has_content e) ∙ h) f) }

  completed_grows : (i : ℕ) (ms : List Named) (s : State) → has_content (slice_get s.structures i) ≡ false → Grows (IsConstant v.target) s (completed v.target i ms s)
  completed_grows i ms s h = record {
    outer = refl;
    here = λ x. inl refl;
    tags = λ x. inl refl;
    structures = structures_changed s.structures i (with_members v.target ms s) (λ k e. completed_kept ms i s k h e);
    names = (grows_itself (IsConstant v.target) s).names;
    locals = refl;
  }

  some_members : (ms ns : List Named) → Some ms ≡ Some ns → ms ≡ ns
  some_members ms ns h = cc

  members_of_one : (s : State) (ms ns : List Named) (j : ℕ) (l : KnownStructure) → MembersKnown v ms → l.members ≡ Some ns → (slice_get s.structures j ≡ Some l) ⊎ ((k : KnownStructure) × (slice_get s.structures j ≡ Some k) × (l ≡ with_members v.target ms s k)) → HasMembers s.structures j ns ⊎ MembersKnown v ns
  members_of_one s ms ns j l k f (inl g) = inl (l, g, f)
  members_of_one s ms ns j l k f (inr c) = inr (subst (MembersKnown v) (some_members ms ns (sym (ap (λ (x : KnownStructure). x.members) c.2) ∙ f)) k)

  -- a structure that is completed has members that are known
  completed_behind : (i : ℕ) (ms : List Named) (s : State) → has_content (slice_get s.structures i) ≡ false → KnowsTypes v s (completed v.target i ms s) → MembersKnown v ms → Behind v s (completed v.target i ms s)
  completed_behind i ms s h k m = record {
    types = k.types;
    tags = tags_stand v (IsConstant v.target) s (completed v.target i ms s) (completed_grows i ms s h) k.structures k.tags;
    names = λ j d e. inl (d, e);
    structures = λ j ns e. members_of_one s ms ns j e.0 m e.2 (changed_or_not s.structures i (with_members v.target ms s) j e.0 e.1);
  }

  record IsClosed (i : ℕ) (ms : List Named) (s : State) (p : Specifier) (t : State) : Type 0 where
    type : p ≡ specifier.Type (structure_type i)
    state : t ≡ completed v.target i ms s
    new : has_content (slice_get s.structures i) ≡ false

  content_by : (b : Bool) (at i : ℕ) (ms : List Named) (s : State) (r : CType × State) → (if b then whole at s (Err rule.NoObjectType) else answer (structure_type i) (completed v.target i ms s)) ≡ Ok r → (b ≡ false) × (r.0 ≡ structure_type i) × (r.1 ≡ completed v.target i ms s)
  content_by true at i ms s r h = absurd (cc)
  content_by false at i ms s r h = let a = answer_is (structure_type i) (completed v.target i ms s) r h in (refl, a.0, a.1)

  closed_by : (clash : Bool) (at i : ℕ) (ms : List Named) (s : State) (r : CType × State) → closed v.target at clash i ms s ≡ Ok r → (has_content (slice_get s.structures i) ≡ false) × (r.0 ≡ structure_type i) × (r.1 ≡ completed v.target i ms s)
  closed_by true at i ms s r h = absurd (cc)
  closed_by false at i ms s r h = content_by (has_content (slice_get s.structures i)) at i ms s r h

  structure_closed_is : (at : ℕ) (last : List (At Attr)) (clash : Bool) (i : ℕ) (ms : List Named) (s : State) (r : Specifier × State) → structure_closed v.target at last clash i ms s ≡ Ok r → IsClosed i ms s r.0 r.1
  structure_closed_is at last clash i ms s r h =
      let a = then_found (located s (attributes (entity.Structure ∷ []) last)) (λ marks s. as_type (closed v.target at clash i ms s)) r h in
      let e = located_found s (attributes (entity.Structure ∷ []) last) a.0 a.1 in
      let b = then_found (closed v.target at clash i ms a.0.1) (λ t s. Ok (specifier.Type t, s)) r a.2 in
      let c = closed_by clash at i ms a.0.1 b.0 b.1 in
      let d = answer_is (specifier.Type b.0.0) b.0.1 r b.2 in
      record {
        type = d.0 ∙ ap specifier.Type c.1;
        state = d.1 ∙ c.2 ∙ ap (completed v.target i ms) e.1;
        new = ap (λ (t : State). has_content (slice_get t.structures i)) (sym e.1) ∙ c.0;
      }

  -- the structure is there, where those of tags are
  abbrev Exists : State → ℕ → Type 0
  Exists s i = (k : KnownStructure) × (slice_get s.structures i ≡ Some k)

  opened_exists : (x : Option Name) (s : State) (o : Option Tagged) → tagged_option x s ≡ o → IsOrdered s → Exists (opened_by x s o).1 (opened_by x s o).0
  opened_exists x s None e h = let n = new_is x s in (n.kind, n.at)
  opened_exists x s (Some (tag.StructureTag i)) e h = in_scope x e
    where
      in_scope : (x : Option Name) → tagged_option x s ≡ Some (tag.StructureTag i) → Exists s i
      in_scope None e = absurd (cc)
      in_scope (Some x) e = h.tags x (tag.StructureTag i) (tagged-opens x s.scopes ∙ ap (λ (o : Option Tagged). or_else o (tagged x (outer_scopes s.scopes))) e) i refl
  opened_exists x s (Some tag.EnumerationTag) e h = (only_named x, get_last s.structures (only_named x))
  opened_exists x s (Some tag.UnfinishedEnumeration) e h = (only_named x, get_last s.structures (only_named x))

  structure_exists : (x : Option Name) (front : List (At Attr)) (s : State) (r : (Bool × ℕ) × State) → structure_opened x front s ≡ Ok r → IsOrdered s → Exists r.1 r.0.1
  structure_exists x front s r h o =
      let a = then_found (located s (attributes (entity.Structure ∷ []) front)) (λ marks s. Ok ((is_enumeration (tagged_option x s), (opened x s).0), (opened x s).1)) r h in
      let e = located_found s (attributes (entity.Structure ∷ []) front) a.0 a.1 in
      let b = answer_is (is_enumeration (tagged_option x a.0.1), (opened x a.0.1).0) (opened x a.0.1).1 r a.2 in
      let there = subst (λ (t : State). Exists (opened x t).1 (opened x t).0) (sym e.1) (opened_exists x s (tagged_option x s) refl o) in
      subst (λ (n : Bool × ℕ). Exists r.1 n.1) (sym b.0) (subst (λ (t : State). Exists t (opened x a.0.1).0) (sym b.1) there)

  completed_only : (i : ℕ) (ms : List Named) (s : State) (j : ℕ) (ns : List Named) → HasMembers (completed v.target i ms s).structures j ns → HasMembers s.structures j ns ⊎ (j ≡ i)
  completed_only i ms s j ns h = of_place (changed_place s.structures i (with_members v.target ms s) j h.0 h.1)
    where
      of_place : (slice_get s.structures j ≡ Some h.0) ⊎ (j ≡ i) → HasMembers s.structures j ns ⊎ (j ≡ i)
      of_place (inl g) = inl (h.0, g, h.2)
      of_place (inr e) = inr e

  completed_ordered : (i : ℕ) (ms : List Named) (s : State) → has_content (slice_get s.structures i) ≡ false → Exists s i → AreComplete ms s → IsOrdered s → IsOrdered (completed v.target i ms s)
  completed_ordered i ms s new there complete h =
      ordered_closed s (completed v.target i ms s) i ms (completed_grows i ms s new).structures refl refl
      (with_members v.target ms s there.0, changed_there s.structures i (with_members v.target ms s) there.0 there.1, refl)
      (completed_only i ms s) (λ ns g. no_content g.0 ns (ap has_content (sym g.1) ∙ new) g.2) complete h

  -- between the opening brace and the one that closes it
  record ClosedHolds (i : ℕ) (s : State) (r : Specifier × State) : Type 0 where
    grows : Grows (IsConstant v.target) s r.1
    added : (j : ℕ) (d : Declared) → slice_get r.1.names j ≡ Some d → HasEntry s.names j ⊎ IsUnnamed v.target d
    behind : KnowsTypes v s r.1 → Behind v s r.1
    ordered : Exists s i → IsOrdered s → IsOrdered r.1
    front : (more : List ℕ) × (r.1.completed ≡ s.completed ++ more)
    closings : Closings v (Unit {0}) s r.1
    holds : KnowsTypes v s r.1 → IsThere v i → SpecifierStands v r.0

  exists_later : (s t : State) (i : ℕ) → StructuresKept s.structures t.structures → Exists s i → Exists t i
  exists_later s t i kept h = let l = kept i h.0 h.1 in (l.0, l.1)

  closed_holds : (i : ℕ) (s : State) (ms : List Named × State) (r : Specifier × State) → Holds (List Named) (MembersKnown v) s ms → AreComplete ms.0 ms.1 → IsClosed i ms.0 ms.1 r.0 r.1 → ClosedHolds i s r
  closed_holds i s ms r o all c =
      let t = completed v.target i ms.0 ms.1 in
      let g = completed_grows i ms.0 ms.1 c.new in
      let whole : ClosedHolds i s (r.0, t) = record {
        grows = grows_through (IsConstant v.target) s ms.1 t o.grows.grows g;
        added = o.grows.added;
        behind = λ k.
            let first = known_first v s ms.1 t g.structures k in
            behind_through v s ms.1 t (names_itself t.names) (o.grows.behind first) (completed_behind i ms.0 ms.1 c.new (known_second v s ms.1 t g.structures o.grows.behind k) (o.holds first));
        front = more_through v s ms.1 t o.grows.front (i ∷ [], refl);
        closings = brace_closes v (Unit {0}) s ms.1 i ms.0 o.grows.grows.structures o.grows.ordered c.new all (λ p k. o.holds k) o.grows.closings;
        ordered = λ there h. completed_ordered i ms.0 ms.1 c.new (exists_later s ms.1 i o.grows.grows.structures there) all (o.grows.ordered h);
        holds = λ k d. subst (SpecifierStands v) (sym c.type) (structure_stands v i d.0 d.1);
      } in
      subst (λ (u : State). ClosedHolds i s (r.0, u)) (sym c.state) whole

  members_closed : (ds : List (At MembersMeaning)) (last : List (At Attr)) → Each (λ d. MembersHold v d.node) ds → (at : ℕ) (clash : Bool) (i : ℕ) (s : State) (r : Specifier × State) →
      and_then (members_found ds s) (λ ms s. structure_closed v.target at last clash i ms s) ≡ Ok r → ClosedHolds i s r
  members_closed ds last hs at clash i s r h =
      let a = then_found (members_found ds s) (λ ms s. structure_closed v.target at last clash i ms s) r h in
      closed_holds i s a.0 r (members_hold ds hs s a.0 a.1) (members_complete ds hs [] s a.0 a.1 tt) (structure_closed_is at last clash i a.0.0 a.0.1 r a.2)

  pub structure_holds : (x : Option Name) (ds : List (At MembersMeaning)) (front last : List (At Attr)) → Each (λ d. MembersHold v d.node) ds → SpecHolds v (λ at s. structure_found v.target at x ds front last s)
  structure_holds x ds front last hs at s r h =
      let a = then_found (structure_opened x front s) (λ new s. and_then (members_found ds s) (λ ms s. structure_closed v.target at last new.0 new.1 ms s)) r h in
      let n = structure_opened_holds x front s a.0 a.1 in
      let c = members_closed ds last hs at a.0.0.0 a.0.0.1 a.0.1 r a.2 in
      let first : KnowsTypes v s r.1 → KnowsTypes v s a.0.1 = λ k. known_first v s a.0.1 r.1 c.grows.structures k in
      let second : KnowsTypes v s r.1 → KnowsTypes v a.0.1 r.1 = λ k. known_second v s a.0.1 r.1 c.grows.structures n.grows.behind k in
      record {
        grows = record {
          grows = grows_through (IsConstant v.target) s a.0.1 r.1 n.grows.grows c.grows;
          added = λ j d e. added_behind v s a.0.1 r.1 j d c.grows.names.0 c.grows.names.1 (n.grows.added j) e (c.added j d e);
          behind = λ k. behind_through v s a.0.1 r.1 (names_more a.0.1.names c.grows.names.0 r.1.names c.grows.names.1) (n.grows.behind (first k)) (c.behind (second k));
          ordered = λ o. c.ordered (structure_exists x front s a.0 a.1 o) (n.grows.ordered o);
          front = more_through v s a.0.1 r.1 n.grows.front c.front;
          closings = closings_through v (Unit {0}) (Unit {0}) s a.0.1 r.1 n.grows.grows.structures c.grows.structures c.front.0 c.front.1 n.grows.ordered (λ p k. stands_behind v s a.0.1 n.grows.behind k) (λ p k. p) n.grows.closings c.closings;
        };
        holds = λ k. c.holds (second k) (n.holds (first k));
      }

  -- ---- enumerations

  no_structure : (structures : List KnownStructure) → IsTag structures tag.EnumerationTag
  no_structure structures = λ i e. absurd (cc)

  no_structure_yet : (structures : List KnownStructure) → IsTag structures tag.UnfinishedEnumeration
  no_structure_yet structures = λ i e. absurd (cc)

  tagged_grows : (t : Tagged) (x : Option Name) (s : State) → IsTag s.structures t → Extends v s (enumeration_tagged t x s)
  tagged_grows t None s h = adds_itself v (IsConstant v.target) s
  tagged_grows t (Some x) s h = bind_tag_adds v (IsConstant v.target) x t s h

  list_by : (b : Bool) (x : Option Name) (s : State) → Extends v s (if b then s else enumeration_tagged tag.UnfinishedEnumeration x s)
  list_by true x s = adds_itself v (IsConstant v.target) s
  list_by false x s = tagged_grows tag.UnfinishedEnumeration x s (no_structure_yet s.structures)

  constants_hold : (cs : List (At EnumrMeaning)) → Each (λ c. EnumrHolds v c.node) cs → (s : State) (r : ℤ × State) → constants_found cs s ≡ Ok r → Holds ℤ (λ n. Unit {0}) s r
  constants_hold cs hs s r h =
      let o = list_holds (λ (c : At EnumrMeaning) next s. c.node next c.at s) (λ c. EnumrHolds v c.node) (λ n. Unit {0}) (λ c hc next s r f. let o = hc next c.at s r f in record { grows = o.grows; holds = λ k u. tt }) cs hs (pos 0) s r h in
      record { grows = o.grows; holds = λ k. tt }

  enumeration_by : (clash : Bool) (at : ℕ) (x : Option Name) (s : State) (r : CType × State) → enumeration_closed at clash x s ≡ Ok r → Holds CType (Stands v) s r
  enumeration_by true at x s r h = absurd (cc)
  enumeration_by false at x s r h =
      let a = answer_is enumeration_type (enumeration_tagged tag.EnumerationTag x s) r h in
      record { grows = subst (λ (t : State). Extends v s t) (sym a.1) (tagged_grows tag.EnumerationTag x s (no_structure s.structures)); holds = λ k. subst (Stands v) (sym a.0) (int_stands v int.Int) }

  pub enumeration_holds : (x : Option Name) (cs : List (At EnumrMeaning)) → Each (λ c. EnumrHolds v c.node) cs → SpecHolds v (λ at s. enumeration_found at x cs s)
  enumeration_holds x cs hs at s r h =
      behind v (IsConstant v.target) (KnowsTypes v) (types_first v (IsConstant v.target)) (types_second v (IsConstant v.target)) (SpecifierStands v) s (in_list x s) r (list_by (is_some (tagged_option x s)) x s)
      (then_holds (λ n. Unit {0}) (SpecifierStands v) (constants_found cs (in_list x s)) (λ next t. as_type (enumeration_closed at (is_some (tagged_option x s)) x t)) (in_list x s) r
      (λ n f. constants_hold cs hs (in_list x s) n f)
      (λ n f. let o = as_type_holds (Stands v) (enumeration_closed at (is_some (tagged_option x s)) x n.1) n.1 r (λ y g. enumeration_by (is_some (tagged_option x s)) at x n.1 y g) f in record { grows = o.grows; holds = λ k u. o.holds k }) h)

  enumeration_named_holds : (at : ℕ) (s : State) (o : Option Tagged) (r : CType × State) → enumeration_named at s o ≡ Ok r → Holds CType (Stands v) s r
  enumeration_named_holds at s None r h = absurd (cc)
  enumeration_named_holds at s (Some tag.UnfinishedEnumeration) r h = absurd (cc)
  enumeration_named_holds at s (Some (tag.StructureTag i)) r h = absurd (cc)
  enumeration_named_holds at s (Some tag.EnumerationTag) r h = answer_holds CType (Stands v) enumeration_type s r (λ k. int_stands v int.Int) h

  pub enumeration_tag_holds : (x : Option Name) → SpecHolds v (λ at s. enumeration_tag at x s)
  enumeration_tag_holds None at s r h = absurd (cc)
  enumeration_tag_holds (Some x) at s r h = as_type_holds (Stands v) (enumeration_named at s (tagged x s.scopes)) s r (λ y f. enumeration_named_holds at s (tagged x s.scopes) y f) h

  -- a constant is an int
  int_same : (n m : ℤ) → given n ≡ Ok m → n ≡ m
  int_same n m h = ok_is h

  constant_fits : (given : Constant) (n : ℤ) → enumeration_constant v.target given ≡ Ok n → is_value_of int.Int v.target n ≡ true
  constant_fits NoConstant n h = absurd (cc)
  constant_fits (Value m) n h = let k = must_ok (is_value_of int.Int v.target m) rule.EnumerationConstant (Ok m) n h in subst (λ (i : ℤ). is_value_of int.Int v.target i ≡ true) (int_same m n k.1) k.0
  constant_fits Traps n h = absurd (cc)

  module _ (roles : Roles) where
    declared_holds : (at : ℕ) (x : Name) (given : Constant) (s : State) (r : ℤ × State) → constant_declared v.target roles at x given s ≡ Ok r → Holds ℤ (λ n. Unit {0}) s r
    declared_holds at x given s r h =
        let a = then_found (whole at s (enumeration_constant v.target given)) (λ n s. and_then (whole at s (new_name roles x s)) (λ x s. Ok (n +ℤ pos 1, bind x (means.Enumerator n) s))) r h in
        let b = whole_found at s (enumeration_constant v.target given) a.0 a.1 in
        let c = then_found (whole at a.0.1 (new_name roles x a.0.1)) (λ x s. Ok (a.0.0 +ℤ pos 1, bind x (means.Enumerator a.0.0) s)) r a.2 in
        let d = whole_found at a.0.1 (new_name roles x a.0.1) c.0 c.1 in
        let e = answer_is (a.0.0 +ℤ pos 1) (bind c.0.0 (means.Enumerator a.0.0) c.0.1) r c.2 in
        let g = bind_adds v (IsConstant v.target) c.0.0 (means.Enumerator a.0.0) s (constant_fits given a.0.0 b.0) (λ k w e. absurd (cc)) in
        record { grows = subst (λ (t : State). Extends v s t) (ap (bind c.0.0 (means.Enumerator a.0.0)) (sym (d.1 ∙ b.1)) ∙ sym e.1) g; holds = λ k. tt }

    pub enumr_holds : (x : Name) (o : Option (At TreeMeaning)) → ((e : At TreeMeaning) → o ≡ Some e → TreeGrows v e.node) → EnumrHolds v (λ next at s. constant_by v.target roles at x next s o)
    enumr_holds x None f next at s r h = declared_holds at x (Value next) s r h
    enumr_holds x (Some e) f next at s r h =
        then_holds (λ y. Unit {0}) (λ n. Unit {0}) (value_found e s) (λ y s. constant_declared v.target roles at x (constancy y) s) s r
        (λ y g. record { grows = value_grows v e (f e refl) s y g; holds = λ k. tt })
        (λ y g. let o = declared_holds at x (constancy y.0) y.1 r g in record { grows = o.grows; holds = λ k u. tt }) h

  -- ---- declarators

  more_stand : (unbounded : Bool) (ds : List (At (Derivation Scope))) (d : At (Derivation Scope)) → DerivationsStand v unbounded ds → IsBounded v d.node → DerivationsStand v unbounded (ds ++ d ∷ [])
  more_stand unbounded [] d h k = (inl k, tt)
  more_stand unbounded (e ∷ ds) d h k = (h.0, each_append (λ e. IsBounded v e.node) ds d h.1 k)

  first_stands : (unbounded : Bool) (ds : List (At (Derivation Scope))) (d : At (Derivation Scope)) → is_next_to_name ds ≡ true → d.node ≡ to.Array None → unbounded ≡ true → DerivationsStand v unbounded (ds ++ d ∷ [])
  first_stands unbounded [] d h e u = (inr (e, u), tt)
  first_stands unbounded (c ∷ ds) d h e u = absurd (cc)

  abbrev pub Declares : Bool → Declarator Scope → Type 0
  Declares unbounded d = DerivationsStand v unbounded d.derivations

  same_declarator : (a b : Declarator Scope) → given a ≡ Ok b → a ≡ b
  same_declarator a b h = ok_is h

  pub nothing_holds : DeclrHolds v (λ allowed at s. Ok (record { name = None; derivations = [] }, s))
  nothing_holds allowed at s r h = answer_holds (Declarator Scope) (Declares allowed.unbounded) (record { name = None; derivations = [] }) s r (λ k. tt) h

  pub name_holds : (x : Name) → DeclrHolds v (λ allowed at s. Ok (record { name = Some x; derivations = [] }, s))
  name_holds x allowed at s r h = answer_holds (Declarator Scope) (Declares allowed.unbounded) (record { name = Some x; derivations = [] }) s r (λ k. tt) h

  declarator_then : {B : Type 0} (U : B → Type 0) (allowed : Allowed) (d : At DeclrMeaning) → DeclrHolds v d.node → (next : Declarator Scope → State → Found B) (s : State) (r : B × State) →
      ((x : Declarator Scope × State) → next x.0 x.1 ≡ Ok r → Holds B (λ y. Declares allowed.unbounded x.0 → U y) x.1 r) → declarator allowed d s next ≡ Ok r → Holds B U s r
  declarator_then U allowed d hd next s r g h = then_holds (Declares allowed.unbounded) U (d.node allowed d.at s) next s r (λ x f. hd allowed d.at s x f) g h

  pub pointer_holds : (words : List Word) (d : At DeclrMeaning) → DeclrHolds v d.node → DeclrHolds v (λ allowed at s. declarator allowed d s (λ d s. Ok (with_derivation at (pointer_derivation words) d, s)))
  pointer_holds words d hd allowed at s r h =
      declarator_then (Declares allowed.unbounded) allowed d hd (λ d s. Ok (with_derivation at (pointer_derivation words) d, s)) s r
      (λ x g. answer_holds (Declarator Scope) (λ y. Declares allowed.unbounded x.0 → Declares allowed.unbounded y) (with_derivation at (pointer_derivation words) x.0) x.1 r
      (λ k hx. more_stand allowed.unbounded x.0.derivations (record { at = at; node = pointer_derivation words }) hx tt) g) h

  bound_fits : (n m : ℕ) → must (is_bound n) rule.ArrayBound (Ok n) ≡ Ok m → is_bound m ≡ true
  bound_fits n m h = let k = must_ok (is_bound n) rule.ArrayBound (Ok n) m h in subst (λ (i : ℕ). is_bound i ≡ true) (same_bound n m k.1) k.0
    where
      same_bound : (n m : ℕ) → given n ≡ Ok m → n ≡ m
      same_bound n m h = ok_is h

  bound_of_number : (i : ℤ) (n : ℕ) → bound_by i ≡ Ok n → is_bound n ≡ true
  bound_of_number (pos m) n h = bound_fits m n h
  bound_of_number (negsuc m) n h = absurd (cc)

  bound_of_constant : (c : Constant) (n : ℕ) → bound_in c ≡ Ok n → is_bound n ≡ true
  bound_of_constant NoConstant n h = absurd (cc)
  bound_of_constant (Value i) n h = bound_of_number i n h
  bound_of_constant Traps n h = absurd (cc)

  bound_stands : (allowed : Allowed) (at : ℕ) (d c : Declarator Scope) (x : Operand) → with_bound at d x ≡ Ok c → Declares allowed.unbounded d → Declares allowed.unbounded c
  bound_stands allowed at d c x h k =
      let n = then_judged (bound_judged x) (λ n. Ok (with_derivation at (to.Array (Some n)) d)) c h in
      subst (Declares allowed.unbounded) (same_declarator (with_derivation at (to.Array (Some n.0)) d) c n.2)
      (more_stand allowed.unbounded d.derivations (record { at = at; node = to.Array (Some n.0) }) k (bound_of_constant (constancy x) n.0 n.1))

  no_bound_stands : (allowed : Allowed) (at : ℕ) (d c : Declarator Scope) → without_bound at allowed d ≡ Ok c → Declares allowed.unbounded c
  no_bound_stands allowed at d c h =
      let m = must_ok (allowed.unbounded && is_next_to_name d.derivations) rule.ArrayBound (Ok (with_derivation at (to.Array None) d)) c h in
      let b = both_true allowed.unbounded (is_next_to_name d.derivations) m.0 in
      subst (Declares allowed.unbounded) (same_declarator (with_derivation at (to.Array None) d) c m.1) (first_stands allowed.unbounded d.derivations (record { at = at; node = to.Array None }) b.1 refl b.0)

  bounded_holds : (at : ℕ) (allowed : Allowed) (d : Declarator Scope) (o : Option (At TreeMeaning)) → ((e : At TreeMeaning) → o ≡ Some e → TreeGrows v e.node) → (s : State) (r : Declarator Scope × State) → bounded at allowed d o s ≡ Ok r →
      Holds (Declarator Scope) (λ c. Declares allowed.unbounded d → Declares allowed.unbounded c) s r
  bounded_holds at allowed d None f s r h = judged_holds (Declarator Scope) (λ c. Declares allowed.unbounded d → Declares allowed.unbounded c) at s (without_bound at allowed d) r (λ c e k hd. no_bound_stands allowed at d c e) h
  bounded_holds at allowed d (Some e) f s r h =
      then_holds (λ x. Unit {0}) (λ c. Declares allowed.unbounded d → Declares allowed.unbounded c) (value_found e s) (λ x s. whole at s (with_bound at d x)) s r
      (λ x g. record { grows = value_grows v e (f e refl) s x g; holds = λ k. tt })
      (λ x g. judged_holds (Declarator Scope) (λ c. Unit {0} → Declares allowed.unbounded d → Declares allowed.unbounded c) at x.1 (with_bound at d x.0) r (λ c i k u hd. bound_stands allowed at d c x.0 i hd) g) h

  pub array_holds : (d : At DeclrMeaning) (n : Option (At TreeMeaning)) → DeclrHolds v d.node → ((e : At TreeMeaning) → n ≡ Some e → TreeGrows v e.node) →
      DeclrHolds v (λ allowed at s. declarator allowed d s (λ d s. and_then (located s (suffix_found false d.derivations)) (λ done s. bounded at allowed d n s)))
  array_holds d n hd f allowed at s r h =
      declarator_then (Declares allowed.unbounded) allowed d hd (λ d s. and_then (located s (suffix_found false d.derivations)) (λ done s. bounded at allowed d n s)) s r
      (λ x g. located_then (λ c. Declares allowed.unbounded x.0 → Declares allowed.unbounded c) x.1 (suffix_found false x.0.derivations) (λ done s. bounded at allowed x.0 n s) r
      (λ done k. bounded_holds at allowed x.0 n f x.1 r k) g) h

  pub function_holds : (d : At DeclrMeaning) (ps : ParamsMeaning) → DeclrHolds v d.node → ParamsHold v ps →
      DeclrHolds v (λ allowed at s. declarator allowed d s (λ d s. and_then (located s (suffix_found true d.derivations)) (λ done s.
      and_then (ps (allowed.unnamed || not (is_next_to_name d.derivations)) s) (λ ps s. Ok (with_derivation at (to.Function ps.0 ps.1) d, s)))))
  function_holds d ps hd hp allowed at s r h =
      declarator_then (Declares allowed.unbounded) allowed d hd
      (λ d s. and_then (located s (suffix_found true d.derivations)) (λ done s. and_then (ps (allowed.unnamed || not (is_next_to_name d.derivations)) s) (λ ps s. Ok (with_derivation at (to.Function ps.0 ps.1) d, s)))) s r
      (λ x g. located_then (λ c. Declares allowed.unbounded x.0 → Declares allowed.unbounded c) x.1 (suffix_found true x.0.derivations)
      (λ done s. and_then (ps (allowed.unnamed || not (is_next_to_name x.0.derivations)) s) (λ ps s. Ok (with_derivation at (to.Function ps.0 ps.1) x.0, s))) r
      (λ done k. then_holds (λ p. Each (ParameterStands v) p.0) (λ c. Declares allowed.unbounded x.0 → Declares allowed.unbounded c) (ps (allowed.unnamed || not (is_next_to_name x.0.derivations)) x.1)
      (λ ps s. Ok (with_derivation at (to.Function ps.0 ps.1) x.0, s)) x.1 r (λ p f. hp (allowed.unnamed || not (is_next_to_name x.0.derivations)) x.1 p f)
      (λ p f. answer_holds (Declarator Scope) (λ c. Each (ParameterStands v) p.0.0 → Declares allowed.unbounded x.0 → Declares allowed.unbounded c) (with_derivation at (to.Function p.0.0 p.0.1) x.0) p.1 r
      (λ w hs hx. more_stand allowed.unbounded x.0.derivations (record { at = at; node = to.Function p.0.0 p.0.1 }) hx hs) f) k) g) h

  -- ---- the type that a declarator derives

  derived_by : (allowed : Allowed) (base : CType) (d : Declarator Scope) (s : State) (r : CType × State) → derived_type v.target allowed base d s ≡ Ok r →
      (r.1 ≡ s) × (KnowsTypes v s s → Stands v base → Declares allowed.unbounded d → IsDerived v allowed.void allowed.unbounded r.0)
  derived_by allowed base d s r h =
      let e = located_found s (type_found v.target (structures_of s) (layouts_of s) allowed base d.derivations) r h in
      (e.1, λ k hb hd. derived_stands v (structures_of s) (layouts_of s) (sizes_known v s k.structures) allowed.void allowed.unbounded base d.derivations r.0 hb hd e.0)

  pub derived_holds : (allowed : Allowed) (base : CType) (d : Declarator Scope) (s : State) (r : CType × State) → derived_type v.target allowed base d s ≡ Ok r →
      Holds CType (λ t. Declares allowed.unbounded d → Stands v base → IsDerived v allowed.void allowed.unbounded t) s r
  derived_holds allowed base d s r h = let e = derived_by allowed base d s r h in stays CType (λ t. Declares allowed.unbounded d → Stands v base → IsDerived v allowed.void allowed.unbounded t) s r e.0 (λ k hd hb. e.1 k hb hd)

  pub type_name_holds : (specs : List (At SpecMeaning)) (d : At DeclrMeaning) → Each (λ x. SpecHolds v x.node) specs → DeclrHolds v d.node →
      TypeNameHolds v (λ cast s. and_then (specified_found (setting stands.InTypeName entity.Nothing) specs s) (λ base s. declarator (in_type_name cast) d s (λ d s. derived_type v.target (in_type_name cast) base.ctype d s)))
  type_name_holds specs d hs hd cast s r h =
      then_holds (λ x. Stands v x.ctype) (IsNamedType v cast) (specified_found (setting stands.InTypeName entity.Nothing) specs s) (λ base s. declarator (in_type_name cast) d s (λ d s. derived_type v.target (in_type_name cast) base.ctype d s)) s r
      (λ x f. specified_holds (setting stands.InTypeName entity.Nothing) specs hs s x f)
      (λ x f. declarator_then (λ t. Stands v x.0.ctype → IsNamedType v cast t) (in_type_name cast) d hd (λ d s. derived_type v.target (in_type_name cast) x.0.ctype d s) x.1 r
      (λ y g. derived_holds (in_type_name cast) x.0.ctype y.0 y.1 r g) f) h

  -- ---- members

  same_members : (a b : List Named) → given a ≡ Ok b → a ≡ b
  same_members a b h = ok_is h

  new_member : (b : Bool) (x : Name) (t : CType) (ms ns : List Named) → (if b then Err rule.MemberTwice else Ok (ms ++ (x, t) ∷ [])) ≡ Ok ns → is_object_type (kind_in v t) ≡ true → MembersKnown v ms → MembersKnown v ns
  new_member true x t ms ns h o k = absurd (cc)
  new_member false x t ms ns h o k = subst (MembersKnown v) (same_members (ms ++ (x, t) ∷ []) ns h) (each_append (λ (m : Named). is_object_type (kind_in v m.1) ≡ true) ms (x, t) k o)

  member_known : (t : CType) (ms : List Named) (s : State) (x : Option Name) (ns : List Named) → KnowsTypes v s s → Stands v t → member_judged v.target t ms s x ≡ Ok ns → MembersKnown v ms → MembersKnown v ns
  member_known t ms s None ns w k h m = subst (MembersKnown v) (same_members ms ns h) m
  member_known t ms s (Some x) ns w k h m =
      let o = must_ok (is_object v.target (structures_of s) (layouts_of s) t) rule.NoObjectType (if is_member_name x ms then Err rule.MemberTwice else Ok (ms ++ (x, t) ∷ [])) ns h in
      new_member (is_member_name x ms) x t ms ns o.1 (object_stands v (structures_of s) (layouts_of s) (sizes_known v s w.structures) t k.0 k.1 o.0) m

  member_holds : (base : CType) (d : At DeclrMeaning) → DeclrHolds v d.node → (ms : List Named) (s : State) (r : List Named × State) → member_found v.target base d ms s ≡ Ok r → Holds (List Named) (λ ns. Stands v base → MembersKnown v ms → MembersKnown v ns) s r
  member_holds base d hd ms s r h =
      declarator_then (λ ns. Stands v base → MembersKnown v ms → MembersKnown v ns) nothing_more d hd (λ x s. member_behind v.target base d.at ms x s) s r
      (λ x g. then_holds (λ t. Declares false x.0 → Stands v base → IsDerived v false false t) (λ ns. Declares false x.0 → Stands v base → MembersKnown v ms → MembersKnown v ns) (derived_type v.target nothing_more base x.0 x.1)
      (λ t s. whole d.at s (member_judged v.target t ms s x.0.name)) x.1 r (λ t f. derived_holds nothing_more base x.0 x.1 t f)
      (λ t f. judged_holds (List Named) (λ ns. (Declares false x.0 → Stands v base → IsDerived v false false t.0) → Declares false x.0 → Stands v base → MembersKnown v ms → MembersKnown v ns) d.at t.1 (member_judged v.target t.0 ms t.1 x.0.name) r
      (λ ns e w derived hd hb hm. member_known t.0 ms t.1 x.0.name ns w (only_standing v t.0 (derived hd hb)) e hm) f) g) h

  declared_hold : (base : CType) (ds : List (At DeclrMeaning)) → Each (λ d. DeclrHolds v d.node) ds → (ms : List Named) (s : State) (r : List Named × State) → declared_members v.target base ds ms s ≡ Ok r →
      Holds (List Named) (λ ns. Stands v base → MembersKnown v ms → MembersKnown v ns) s r
  declared_hold base ds hs ms s r h =
      let o = list_holds (member_found v.target base) (λ d. DeclrHolds v d.node) (λ ns. Stands v base → MembersKnown v ns)
      (λ d hd ms s r f. let o = member_holds base d hd ms s r f in record { grows = o.grows; holds = λ k known hb. o.holds k hb (known hb) }) ds hs ms s r h in
      record { grows = o.grows; holds = λ k hb hm. o.holds k (λ b. hm) hb }

  -- a declaration of members
  abbrev member_list : List (At SpecMeaning) → List (At DeclrMeaning) → MembersMeaning
  member_list specs ds ms s = and_then (specified_found (setting stands.AsMember entity.Member) specs s) (λ base s. declared_members v.target base.ctype ds ms s)

  member_list_known : (specs : List (At SpecMeaning)) (ds : List (At DeclrMeaning)) → Each (λ x. SpecHolds v x.node) specs → Each (λ d. DeclrHolds v d.node) ds → (ms : List Named) (s : State) (r : List Named × State) → member_list specs ds ms s ≡ Ok r →
      Holds (List Named) (λ ns. MembersKnown v ms → MembersKnown v ns) s r
  member_list_known specs ds hs hd ms s r h =
      then_holds (λ x. Stands v x.ctype) (λ ns. MembersKnown v ms → MembersKnown v ns) (specified_found (setting stands.AsMember entity.Member) specs s) (λ base s. declared_members v.target base.ctype ds ms s) s r
      (λ x f. specified_holds (setting stands.AsMember entity.Member) specs hs s x f)
      (λ x f. declared_hold x.0.ctype ds hd ms x.1 r f) h

  same_list : (a b : List Named) → given a ≡ Ok b → a ≡ b
  same_list a b h = ok_is h

  added_complete : (b : Bool) (x : Name) (t : CType) (ms ns : List Named) (s : State) → (if b then Err rule.MemberTwice else Ok (ms ++ (x, t) ∷ [])) ≡ Ok ns → is_complete (structures_of s) t ≡ true → AreComplete ms s → AreComplete ns s
  added_complete true x t ms ns s h c k = absurd (cc)
  added_complete false x t ms ns s h c k =
      subst (λ (l : List Named). AreComplete l s) (same_list (ms ++ (x, t) ∷ []) ns h) (each_append (λ (m : Named). is_complete (structures_of s) m.1 ≡ true) ms (x, t) k c)

  judged_complete : (t : CType) (ms : List Named) (s : State) (x : Option Name) (ns : List Named) → member_judged v.target t ms s x ≡ Ok ns → AreComplete ms s → AreComplete ns s
  judged_complete t ms s None ns h k = subst (λ (l : List Named). AreComplete l s) (same_list ms ns h) k
  judged_complete t ms s (Some x) ns h k =
      let o = must_ok (is_object v.target (structures_of s) (layouts_of s) t) rule.NoObjectType (if is_member_name x ms then Err rule.MemberTwice else Ok (ms ++ (x, t) ∷ [])) ns h in
      added_complete (is_member_name x ms) x t ms ns s o.1 (both_true (is_complete (structures_of s) t) (is_small (size_of v.target (structures_of s) (layouts_of s) t)) o.0).0 k

  member_complete : (base : CType) (d : At DeclrMeaning) → DeclrHolds v d.node → (ms : List Named) (s : State) (r : List Named × State) → member_found v.target base d ms s ≡ Ok r → AreComplete ms s → AreComplete r.0 r.1
  member_complete base d hd ms s r h k =
      let a = then_found (d.node nothing_more d.at s) (λ x s. member_behind v.target base d.at ms x s) r h in
      let b = then_found (derived_type v.target nothing_more base a.0.0 a.0.1) (λ t s. whole d.at s (member_judged v.target t ms s a.0.0.name)) r a.2 in
      let c = located_found a.0.1 (type_found v.target (structures_of a.0.1) (layouts_of a.0.1) nothing_more base a.0.0.derivations) b.0 b.1 in
      let e = whole_found d.at b.0.1 (member_judged v.target b.0.0 ms b.0.1 a.0.0.name) r b.2 in
      let here = complete_grown s a.0.1 (hd nothing_more d.at s a.0 a.1).grows.grows.structures ms k in
      subst (AreComplete r.0) (sym e.1) (judged_complete b.0.0 ms b.0.1 a.0.0.name r.0 e.0 (subst (AreComplete ms) (sym c.1) here))

  declared_complete : (base : CType) (ds : List (At DeclrMeaning)) → Each (λ d. DeclrHolds v d.node) ds → (ms : List Named) (s : State) (r : List Named × State) → declared_members v.target base ds ms s ≡ Ok r → AreComplete ms s → AreComplete r.0 r.1
  declared_complete base [] hd ms s r h k =
      let e = answer_is ms s r h in
      subst (λ (l : List Named). AreComplete l r.1) (sym e.0) (subst (AreComplete ms) (sym e.1) k)
  declared_complete base (d ∷ ds) hd ms s r h k =
      let a = then_found (member_found v.target base d ms s) (in_turn (member_found v.target base) ds) r h in
      declared_complete base ds hd.1 a.0.0 a.0.1 r a.2 (member_complete base d hd.0 ms s a.0 a.1 k)

  list_complete : (specs : List (At SpecMeaning)) (ds : List (At DeclrMeaning)) → Each (λ x. SpecHolds v x.node) specs → Each (λ d. DeclrHolds v d.node) ds → (ms : List Named) (s : State) (r : List Named × State) → member_list specs ds ms s ≡ Ok r →
      AreComplete ms s → AreComplete r.0 r.1
  list_complete specs ds hs hd ms s r h k =
      let set = setting stands.AsMember entity.Member in
      let a = then_found (specified_found set specs s) (λ base s. declared_members v.target base.ctype ds ms s) r h in
      declared_complete a.0.0.ctype ds hd ms a.0.1 r a.2 (complete_grown s a.0.1 (specified_holds set specs hs s a.0 a.1).grows.grows.structures ms k)

  pub member_list_holds : (specs : List (At SpecMeaning)) (ds : List (At DeclrMeaning)) → Each (λ x. SpecHolds v x.node) specs → Each (λ d. DeclrHolds v d.node) ds → MembersHold v (member_list specs ds)
  member_list_holds specs ds hs hd ms s r h = record { outcome = member_list_known specs ds hs hd ms s r h; complete = list_complete specs ds hs hd ms s r h }
