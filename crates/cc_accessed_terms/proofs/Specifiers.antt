-- Specifiers declare no device without a name (C99 6.7.2): structures with their members, and enumerations with their constants.
use Rattle.std.proofs.Common.{◌≡◌, ℕ, ℤ, pos, Bool, true, false, List, [], ◌∷◌, Option, Some, None, Ok, Err, refl}
use Rattle.std.specs.Prelude.{◌+ℤ◌, if◌then◌else◌, is_some, slice_get}
use Rattle.cc_program.specs.CcNum.declared.target.Target.{Target}
use Rattle.cc_terms.specs.CcOperands.Operands.{constancy}
use Rattle.cc_terms.specs.CcOperands.declared.rule.Rule.TheVariants as rule
use Rattle.cc_program.proofs.Each.{Each}
use Rattle.cc_program.specs.declared.program.Roles.{Roles}
use Rattle.cc_program.specs.declared.types.CType.{CType}
use Rattle.cc_terms.specs.CcScopes.State.{State, Name, tagged, designated, bind}
use Rattle.cc_terms.specs.CcScopes.Structures.{structure_type, new_structure, structure_named, opened_by, tagged_option, opened, is_enumeration, has_content, completed, closed, enumeration_type, enumeration_constant, enumeration_tagged, enumeration_closed, in_list, enumeration_named}
use Rattle.cc_terms.specs.CcScopes.Verdicts.{Found, whole, and_then}
use Rattle.cc_terms.specs.CcScopes.declared.designated.Designated.TheVariants as means
use Rattle.cc_terms.specs.CcScopes.declared.designated.Tagged.{Tagged}
use Rattle.cc_terms.specs.CcScopes.declared.designated.Tagged.TheVariants as tag
use Rattle.cc_terms.specs.CcSpecifiers.Attributes.{attributes}
use Rattle.cc_terms.specs.CcSpecifiers.Specifiers.{no_specifier, with_specifier, specified}
use Rattle.cc_terms.specs.CcSpecifiers.declared.attribute.Entity.TheVariants as entity
use Rattle.cc_terms.specs.CcSpecifiers.declared.specifier.Specified.{Specified}
use Rattle.cc_terms.specs.CcSpecifiers.declared.specifier.Specifier.{Specifier}
use Rattle.cc_terms.specs.CcSpecifiers.declared.specifier.Specifier.TheVariants as specifier
use Rattle.cc_terms.specs.CcSpecifiers.declared.specifier.Specs.{Specs}
use Rattle.cc_terms.specs.CcSpecifiers.declared.storage.Setting.{Setting}
use Rattle.cc_terms.specs.CcSyntax.Folding.{Constant, NoConstant, Value, Traps}
use Rattle.cc_terms.specs.CcSyntax.Types.{Named}
use Rattle.cc_terms.specs.Constants.{constants_found, enumeration_found, constant_declared, constant_by}
use Rattle.cc_terms.specs.Meanings.{TreeMeaning, SpecMeaning, MembersMeaning, EnumrMeaning}
use Rattle.cc_terms.specs.Specifiers.{specifier_found, specifiers_found, specified_found}
use Rattle.cc_terms.specs.Structures.{structure_opened, members_found, structure_closed, structure_found}
use Rattle.cc_tree.specs.declared.at.At.{At}
use Rattle.cc_tree.specs.declared.tree.Attr.{Attr}
use Rattle.cc_terms.specs.CcTypedTerms.Located.{located}
use Rattle.cc_terms.specs.CcTypedTerms.Names.{new_name}
use Rattle.cc_terms.specs.CcTypedTerms.Specifiers.{begin, type_named, marked, as_type, structure_tag, enumeration_tag}
use Rattle.cc_terms.specs.CcTypedTerms.Values.{value_found}
use Rattle.cc_accessed_terms.proofs.Accounts.{Nothing, declares_itself, nothing_through, chained, answered, judged, placed, in_turn_nothing}
use Rattle.cc_accessed_terms.proofs.Founds.{answer, then_found}
use Rattle.cc_accessed_terms.proofs.Values.{TreeAccounts, constant_nothing}

abbrev pub SpecDeclares : SpecMeaning → Type 0
SpecDeclares m = (at : ℕ) (s : State) (r : Specifier × State) → m at s ≡ Ok r → Nothing s r.1

abbrev pub EnumrDeclares : EnumrMeaning → Type 0
EnumrDeclares m = (next : ℤ) (at : ℕ) (s : State) (r : ℤ × State) → m next at s ≡ Ok r → Nothing s r.1

abbrev pub MembersDeclare : MembersMeaning → Type 0
MembersDeclare m = (front : List Named) (s : State) (r : List Named × State) → m front s ≡ Ok r → Nothing s r.1

as_type_declares : (found : Found CType) (s : State) (r : Specifier × State) → ((x : CType × State) → found ≡ Ok x → Nothing s x.1) → as_type found ≡ Ok r → Nothing s r.1
as_type_declares found s r f h = chained found (λ t s. answer (specifier.Type t) s) s r f (λ x g. answered (specifier.Type x.0) x.1 x.1 r refl g) h

-- ---- words, typedef names, attributes

pub word_declares : (x : Specifier) → SpecDeclares (λ at s. answer x s)
word_declares x at s r h = answered x s s r refl h

pub type_named_declares : (x : Name) → SpecDeclares (λ at s. whole at s (type_named (designated x s.scopes)))
type_named_declares x at s r h = judged at s (type_named (designated x s.scopes)) r h

pub marked_declares : (a : Attr) → SpecDeclares (λ at s. whole at s (marked a))
marked_declares a at s r h = judged at s (marked a) r h

-- ---- tags

structure_named_declares : (at : ℕ) (x : Name) (s : State) (o : Option Tagged) (r : CType × State) → structure_named at x s o ≡ Ok r → Nothing s r.1
structure_named_declares at x s None r h = answered (structure_type (new_structure (Some x) s).0) s (new_structure (Some x) s).1 r refl h
structure_named_declares at x s (Some (tag.StructureTag i)) r h = answered (structure_type i) s s r refl h
structure_named_declares at x s (Some tag.EnumerationTag) r h = absurd (cc)
structure_named_declares at x s (Some tag.UnfinishedEnumeration) r h = absurd (cc)

pub structure_tag_declares : (x : Option Name) → SpecDeclares (λ at s. structure_tag at x s)
structure_tag_declares None at s r h = absurd (cc)
structure_tag_declares (Some x) at s r h = as_type_declares (structure_named at x s (tagged x s.scopes)) s r (λ y f. structure_named_declares at x s (tagged x s.scopes) y f) h

enumeration_named_declares : (at : ℕ) (s : State) (o : Option Tagged) (r : CType × State) → enumeration_named at s o ≡ Ok r → Nothing s r.1
enumeration_named_declares at s None r h = absurd (cc)
enumeration_named_declares at s (Some (tag.StructureTag i)) r h = absurd (cc)
enumeration_named_declares at s (Some tag.UnfinishedEnumeration) r h = absurd (cc)
enumeration_named_declares at s (Some tag.EnumerationTag) r h = answered enumeration_type s s r refl h

pub enumeration_tag_declares : (x : Option Name) → SpecDeclares (λ at s. enumeration_tag at x s)
enumeration_tag_declares None at s r h = absurd (cc)
enumeration_tag_declares (Some x) at s r h = as_type_declares (enumeration_named at s (tagged x s.scopes)) s r (λ y f. enumeration_named_declares at s (tagged x s.scopes) y f) h

-- ---- structures with their members

opened-names : (x : Option Name) (s : State) (o : Option Tagged) → (opened_by x s o).1.names ≡ s.names
opened-names x s (Some (tag.StructureTag i)) = refl
opened-names x s (Some tag.EnumerationTag) = refl
opened-names x s (Some tag.UnfinishedEnumeration) = refl
opened-names None s None = refl
opened-names (Some x) s None = refl

structure_opened_declares : (x : Option Name) (front : List (At Attr)) (s : State) (r : (Bool × ℕ) × State) → structure_opened x front s ≡ Ok r → Nothing s r.1
structure_opened_declares x front s r h =
    chained (located s (attributes (entity.Structure ∷ []) front)) (λ marks s. answer (is_enumeration (tagged_option x s), (opened x s).0) (opened x s).1) s r
    (λ y f. placed s (attributes (entity.Structure ∷ []) front) y f)
    (λ y f. answered (is_enumeration (tagged_option x y.1), (opened x y.1).0) y.1 (opened x y.1).1 r (opened-names x y.1 (tagged_option x y.1)) f) h

module _ (target : Target) where
  content_by : (b : Bool) (at i : ℕ) (ms : List Named) (s : State) (r : CType × State) → (if b then whole at s (Err rule.NoObjectType) else answer (structure_type i) (completed target i ms s)) ≡ Ok r → Nothing s r.1
  content_by true at i ms s r h = absurd (cc)
  content_by false at i ms s r h = answered (structure_type i) s (completed target i ms s) r refl h

  closed_by : (clash : Bool) (at i : ℕ) (ms : List Named) (s : State) (r : CType × State) → closed target at clash i ms s ≡ Ok r → Nothing s r.1
  closed_by true at i ms s r h = absurd (cc)
  closed_by false at i ms s r h = content_by (has_content (slice_get s.structures i)) at i ms s r h

  structure_closed_declares : (at : ℕ) (back : List (At Attr)) (clash : Bool) (i : ℕ) (ms : List Named) (s : State) (r : Specifier × State) → structure_closed target at back clash i ms s ≡ Ok r → Nothing s r.1
  structure_closed_declares at back clash i ms s r h =
      chained (located s (attributes (entity.Structure ∷ []) back)) (λ marks s. as_type (closed target at clash i ms s)) s r (λ y f. placed s (attributes (entity.Structure ∷ []) back) y f)
      (λ y f. as_type_declares (closed target at clash i ms y.1) y.1 r (λ z g. closed_by clash at i ms y.1 z g) f) h

  pub structure_declares : (x : Option Name) (ds : List (At MembersMeaning)) → Each (λ (d : At MembersMeaning). MembersDeclare d.node) ds → (front back : List (At Attr)) → SpecDeclares (λ at s. structure_found target at x ds front back s)
  structure_declares x ds g front back at s r h =
      chained (structure_opened x front s) (λ new s. and_then (members_found ds s) (λ ms s. structure_closed target at back new.0 new.1 ms s)) s r (λ y f. structure_opened_declares x front s y f)
      (λ y f. chained (members_found ds y.1) (λ ms s. structure_closed target at back y.0.0 y.0.1 ms s) y.1 r
      (λ z e. in_turn_nothing (λ (d : At MembersMeaning) ms s. d.node ms s) (λ (d : At MembersMeaning). MembersDeclare d.node) (λ d k ms s r e. k ms s r e) ds g [] y.1 z e)
      (λ z e. structure_closed_declares at back y.0.0 y.0.1 z.0 z.1 r e) f) h

-- ---- enumerations

tagged-names : (t : Tagged) (x : Option Name) (s : State) → (enumeration_tagged t x s).names ≡ s.names
tagged-names t None s = refl
tagged-names t (Some x) s = refl

list-names : (b : Bool) (x : Option Name) (s : State) → (if b then s else enumeration_tagged tag.UnfinishedEnumeration x s).names ≡ s.names
list-names true x s = refl
list-names false x s = tagged-names tag.UnfinishedEnumeration x s

enumeration_closed_by : (clash : Bool) (at : ℕ) (x : Option Name) (s : State) (r : CType × State) → enumeration_closed at clash x s ≡ Ok r → Nothing s r.1
enumeration_closed_by true at x s r h = absurd (cc)
enumeration_closed_by false at x s r h = answered enumeration_type s (enumeration_tagged tag.EnumerationTag x s) r (tagged-names tag.EnumerationTag x s) h

pub enumeration_declares : (x : Option Name) (cs : List (At EnumrMeaning)) → Each (λ (c : At EnumrMeaning). EnumrDeclares c.node) cs → SpecDeclares (λ at s. enumeration_found at x cs s)
enumeration_declares x cs g at s r h =
    let clash = is_some (tagged_option x s) in
    let inside = in_list x s in
    nothing_through s inside r.1 (declares_itself (λ i. false) s inside (list-names clash x s))
    (chained (constants_found cs inside) (λ next t. as_type (enumeration_closed at clash x t)) inside r
    (λ y f. in_turn_nothing (λ (c : At EnumrMeaning) next s. c.node next c.at s) (λ (c : At EnumrMeaning). EnumrDeclares c.node) (λ c k next s r e. k next c.at s r e) cs g (pos 0) inside y f)
    (λ y f. as_type_declares (enumeration_closed at clash x y.1) y.1 r (λ z e. enumeration_closed_by clash at x y.1 z e) f) h)

module _ (target : Target) (roles : Roles) where
  constant_declares : (at : ℕ) (x : Name) (c : Constant) (s : State) (r : ℤ × State) → constant_declared target roles at x c s ≡ Ok r → Nothing s r.1
  constant_declares at x c s r h =
      chained (whole at s (enumeration_constant target c)) (λ m s. and_then (whole at s (new_name roles x s)) (λ x s. answer (m +ℤ pos 1) (bind x (means.Enumerator m) s))) s r
      (λ y f. judged at s (enumeration_constant target c) y f)
      (λ y f. chained (whole at y.1 (new_name roles x y.1)) (λ x s. answer (y.0 +ℤ pos 1) (bind x (means.Enumerator y.0) s)) y.1 r (λ z g. judged at y.1 (new_name roles x y.1) z g)
      (λ z g. answered (y.0 +ℤ pos 1) z.1 (bind z.0 (means.Enumerator y.0) z.1) r refl g) f) h

  -- a value that is given is a constant
  constant_is : (at : ℕ) (x : Name) (c : Constant) (s : State) (r : ℤ × State) → constant_declared target roles at x c s ≡ Ok r → (n : ℤ) × (c ≡ Value n)
  constant_is at x NoConstant s r h = absurd (cc)
  constant_is at x Traps s r h = absurd (cc)
  constant_is at x (Value n) s r h = (n, refl)

  pub no_value_declares : (x : Name) → EnumrDeclares (λ next at s. constant_by target roles at x next s None)
  no_value_declares x next at s r h = constant_declares at x (Value next) s r h

  pub some_value_declares : (x : Name) (e : At TreeMeaning) → TreeAccounts e.node → EnumrDeclares (λ next at s. constant_by target roles at x next s (Some e))
  some_value_declares x e he next at s r h =
      let y = then_found (value_found e s) (λ y s. constant_declared target roles at x (constancy y) s) r h in
      let n = constant_is at x (constancy y.0.0) y.0.1 r y.2 in
      nothing_through s y.0.1 r.1 (constant_nothing e he s y.0 n.0 y.1 n.1) (constant_declares at x (constancy y.0.0) y.0.1 r y.2)

-- ---- lists of specifiers

specifier_declares : (set : Setting) (x : At SpecMeaning) → SpecDeclares x.node → (front : Specs) (s : State) (r : Specs × State) → specifier_found set x front s ≡ Ok r → Nothing s r.1
specifier_declares set x hx front s r h = chained (x.node x.at s) (λ p s. whole x.at s (with_specifier set x.at p front)) s r (λ y f. hx x.at s y f) (λ y f. judged x.at y.1 (with_specifier set x.at y.0 front) r f) h

pub specified_declares : (set : Setting) (xs : List (At SpecMeaning)) → Each (λ (x : At SpecMeaning). SpecDeclares x.node) xs → (s : State) (r : Specified × State) → specified_found set xs s ≡ Ok r → Nothing s r.1
specified_declares set xs g s r h =
    chained (specifiers_found set xs s) (λ specs s. whole (begin xs) s (specified specs)) s r
    (λ y f. in_turn_nothing (specifier_found set) (λ (x : At SpecMeaning). SpecDeclares x.node) (specifier_declares set) xs g no_specifier s y f)
    (λ y f. judged (begin xs) y.1 (specified y.0) r f) h
