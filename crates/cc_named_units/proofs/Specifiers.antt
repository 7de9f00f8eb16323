-- What specifiers add, where their parts add so much (C99 6.7.2): structures with their members, and enumerations with their constants.
use Rattle.std.proofs.Common.{◌≡◌, ◌≤◌, ◌+◌, ℕ, suc, ℤ, pos, Bool, true, false, true≢false, List, [], ◌∷◌, length, Option, Some, None, Ok, Err, refl, sym, subst, arith}
use Rattle.std.specs.Prelude.{◌+ℤ◌, if◌then◌else◌, is_some, slice_get}
use Rattle.std.specs.List.{list_all}
use Rattle.std.proofs.lemmas.Bool.{lt-ltb}
use Rattle.cc_type.specs.CcTypedTerms.Located.{located}
use Rattle.cc_type.specs.CcTypedTerms.Names.{new_name}
use Rattle.cc_type.specs.CcTypedTerms.Specifiers.{begin, type_named, marked, as_type, structure_tag, enumeration_tag}
use Rattle.cc_named_units.specs.Names.{one_or_more, tag_named}
use Rattle.cc_program.specs.CcNum.declared.target.Target.{Target}
use Rattle.cc_type.specs.CcOperands.Operands.{constancy}
use Rattle.cc_type.specs.CcOperands.declared.rule.Rule.TheVariants as rule
use Rattle.cc_program.specs.declared.program.Roles.{Roles}
use Rattle.cc_program.specs.declared.types.CType.{CType}
use Rattle.cc_type.specs.CcScopes.State.{State, Name, tagged, designated, bind, bind_tag}
use Rattle.cc_type.specs.CcScopes.Structures.{structure_type, with_structure, new_structure, structure_named, opened_by, tagged_option, opened, is_enumeration, has_content, completed, closed, enumeration_type, enumeration_constant, enumeration_tagged, enumeration_closed, in_list, enumeration_named}
use Rattle.cc_type.specs.CcScopes.Verdicts.{Found, whole, and_then}
use Rattle.cc_type.specs.CcScopes.declared.designated.Designated.TheVariants as means
use Rattle.cc_type.specs.CcScopes.declared.designated.Tagged.{Tagged}
use Rattle.cc_type.specs.CcScopes.declared.designated.Tagged.TheVariants as tag
use Rattle.cc_sound_terms.proofs.Founds.{answer, answer_is, then_found}
use Rattle.cc_type.specs.CcSpecifiers.Attributes.{attributes}
use Rattle.cc_type.specs.CcSpecifiers.Specifiers.{no_specifier, with_specifier, specified}
use Rattle.cc_type.specs.CcSpecifiers.declared.attribute.Entity.TheVariants as entity
use Rattle.cc_type.specs.CcSpecifiers.declared.specifier.Specified.{Specified}
use Rattle.cc_type.specs.CcSpecifiers.declared.specifier.Specifier.{Specifier}
use Rattle.cc_type.specs.CcSpecifiers.declared.specifier.Specifier.TheVariants as specifier
use Rattle.cc_type.specs.CcSpecifiers.declared.specifier.Specs.{Specs}
use Rattle.cc_type.specs.CcSpecifiers.declared.storage.Setting.{Setting}
use Rattle.cc_type.specs.CcSyntax.Folding.{Constant, Value}
use Rattle.cc_type.specs.CcSyntax.Names.{local_names}
use Rattle.cc_type.specs.CcSyntax.Types.{Named}
use Rattle.cc_type.specs.CcTerms.Constants.{constants_found, enumeration_found, constant_declared, constant_by}
use Rattle.cc_type.specs.CcTerms.InTurn.{in_turn}
use Rattle.cc_type.specs.CcTerms.Meanings.{TreeMeaning, SpecMeaning, MembersMeaning, EnumrMeaning}
use Rattle.cc_type.specs.CcTerms.Specifiers.{specifier_found, specifiers_found, specified_found}
use Rattle.cc_type.specs.CcTerms.Structures.{structure_opened, members_found, structure_closed, structure_found}
use Rattle.cc_tree.specs.declared.at.At.{At}
use Rattle.cc_tree.specs.declared.tree.Attr.{Attr}
use Rattle.cc_program.specs.CcWords.Names.{are_distinct, is_name}
use Rattle.cc_program.specs.CcWords.declared.word.Word.{Word}
use Rattle.cc_named_units.specs.Named.{Limits, AreFewMembers, Adds}
use Rattle.cc_named_units.proofs.Adding.{AreCounted, unmoved, adds_itself, adds_through, chained, behind, before, answered, done, judged, placed, in_turn_adds, bound, tag_bound, structure_more, structure_completed}
use Rattle.cc_named_units.proofs.TermSteps.{TreeAdds, sole_value}

-- members have names, and no two have the same
pub record AreNamed (ms : List Named) : Type 0 where
  pub names : list_all is_name (local_names ms) ≡ true
  pub apart : are_distinct (local_names ms) ≡ true

-- with so many members more, at least and at most
pub record AreMembers (least c : ℕ) (front ms : List Named) : Type 0 where
  pub named : AreNamed ms
  pub few : length ms ≤ length front + c
  pub more : length front + least ≤ length ms

-- of a list of those that give one each
abbrev pub least_of : {A : Type 0} → List A → ℕ
least_of [] = 0
least_of (x ∷ xs) = 1

pub least-some : {A : Type 0} (xs : List A) → one_or_more xs ≡ true → least_of xs ≡ 1
least-some [] h = absurd (true≢false (sym h))
least-some (x ∷ xs) h = refl

module _ (target : Target) (most : Limits) where
  -- a specifier that adds no more than so many, and so on
  abbrev pub SpecAdds : ℕ → SpecMeaning → Type 0
  SpecAdds c m = (at : ℕ) (s : State) (r : Specifier × State) → m at s ≡ Ok r → Adds most c s r.1

  abbrev pub EnumrAdds : ℕ → EnumrMeaning → Type 0
  EnumrAdds c m = (next : ℤ) (at : ℕ) (s : State) (r : ℤ × State) → m next at s ≡ Ok r → Adds most c s r.1

  -- a declaration of members gives one at least
  abbrev pub MembersAdd : ℕ → MembersMeaning → Type 0
  MembersAdd c m = (front : List Named) (s : State) (r : List Named × State) → m front s ≡ Ok r → AreNamed front → Adds most c s r.1 × AreMembers 1 c front r.0

  pub new_structure_adds : (x : Option Name) (s : State) → tag_named x ≡ true → Adds most 1 s (new_structure x s).1
  new_structure_adds None s q = structure_more most None s q
  new_structure_adds (Some x) s q =
      let new = with_structure (Some x) s in
      adds_through most 1 0 1 s new.1 (bind_tag x (tag.StructureTag new.0) new.1) (omega arith) (structure_more most (Some x) s q) (tag_bound most x (tag.StructureTag new.0) new.1)

  as_type_adds : (c : ℕ) (found : Found CType) (s : State) (r : Specifier × State) → ((x : CType × State) → found ≡ Ok x → Adds most c s x.1) → as_type found ≡ Ok r → Adds most c s r.1
  as_type_adds c found s r f h = before most c found (λ t s. answer (specifier.Type t) s) s r f (λ x g. done most 0 (specifier.Type x.0) x.1 r g) h

  -- ---- words, typedef names, attributes

  pub word_adds : (x : Word) → SpecAdds 0 (λ at s. answer (specifier.Word x) s)
  word_adds x at s r h = done most 0 (specifier.Word x) s r h

  pub type_named_adds : (x : Name) → SpecAdds 0 (λ at s. whole at s (type_named (designated x s.scopes)))
  type_named_adds x at s r h = judged most 0 at s (type_named (designated x s.scopes)) r h

  pub marked_adds : (a : Attr) → SpecAdds 0 (λ at s. whole at s (marked a))
  marked_adds a at s r h = judged most 0 at s (marked a) r h

  -- ---- tags

  structure_named_adds : (at : ℕ) (x : Name) (s : State) (o : Option Tagged) (r : CType × State) → is_name x ≡ true → structure_named at x s o ≡ Ok r → Adds most 1 s r.1
  structure_named_adds at x s None r q h = answered most 1 (structure_type (new_structure (Some x) s).0) s (new_structure (Some x) s).1 r (new_structure_adds (Some x) s q) h
  structure_named_adds at x s (Some (tag.StructureTag i)) r q h = done most 1 (structure_type i) s r h
  structure_named_adds at x s (Some tag.EnumerationTag) r q h = absurd (cc)
  structure_named_adds at x s (Some tag.UnfinishedEnumeration) r q h = absurd (cc)

  pub structure_tag_adds : (x : Option Name) → tag_named x ≡ true → SpecAdds 1 (λ at s. structure_tag at x s)
  structure_tag_adds None q at s r h = absurd (cc)
  structure_tag_adds (Some x) q at s r h = as_type_adds 1 (structure_named at x s (tagged x s.scopes)) s r (λ y f. structure_named_adds at x s (tagged x s.scopes) y q f) h

  enumeration_named_adds : (at : ℕ) (s : State) (o : Option Tagged) (r : CType × State) → enumeration_named at s o ≡ Ok r → Adds most 0 s r.1
  enumeration_named_adds at s None r h = absurd (cc)
  enumeration_named_adds at s (Some (tag.StructureTag i)) r h = absurd (cc)
  enumeration_named_adds at s (Some tag.UnfinishedEnumeration) r h = absurd (cc)
  enumeration_named_adds at s (Some tag.EnumerationTag) r h = done most 0 enumeration_type s r h

  pub enumeration_tag_adds : (x : Option Name) → SpecAdds 0 (λ at s. enumeration_tag at x s)
  enumeration_tag_adds None at s r h = absurd (cc)
  enumeration_tag_adds (Some x) at s r h = as_type_adds 0 (enumeration_named at s (tagged x s.scopes)) s r (λ y f. enumeration_named_adds at s (tagged x s.scopes) y f) h

  -- ---- structures with their members

  opened_adds : (x : Option Name) (s : State) (o : Option Tagged) → tag_named x ≡ true → Adds most 1 s (opened_by x s o).1
  opened_adds x s (Some (tag.StructureTag i)) q = adds_itself most 1 s
  opened_adds x s (Some tag.EnumerationTag) q = structure_more most x s q
  opened_adds x s (Some tag.UnfinishedEnumeration) q = structure_more most x s q
  opened_adds x s None q = new_structure_adds x s q

  structure_opened_adds : (x : Option Name) (front : List (At Attr)) (s : State) (r : (Bool × ℕ) × State) → tag_named x ≡ true → structure_opened x front s ≡ Ok r → Adds most 1 s r.1
  structure_opened_adds x front s r q h =
      behind most 1 (located s (attributes (entity.Structure ∷ []) front)) (λ marks s. answer (is_enumeration (tagged_option x s), (opened x s).0) (opened x s).1) s r
      (λ y f. placed most 0 s (attributes (entity.Structure ∷ []) front) y f)
      (λ y f. answered most 1 (is_enumeration (tagged_option x y.1), (opened x y.1).0) y.1 (opened x y.1).1 r (opened_adds x y.1 (tagged_option x y.1) q) f) h

  content_by : (b : Bool) (at i : ℕ) (ms : List Named) (s : State) (r : CType × State) → AreFewMembers most.few ms →
      (if b then whole at s (Err rule.NoObjectType) else answer (structure_type i) (completed target i ms s)) ≡ Ok r → Adds most 1 s r.1
  content_by true at i ms s r few h = absurd (cc)
  content_by false at i ms s r few h = answered most 1 (structure_type i) s (completed target i ms s) r (structure_completed most target i ms s few) h

  closed_by : (clash : Bool) (at i : ℕ) (ms : List Named) (s : State) (r : CType × State) → AreFewMembers most.few ms → closed target at clash i ms s ≡ Ok r → Adds most 1 s r.1
  closed_by true at i ms s r few h = absurd (cc)
  closed_by false at i ms s r few h = content_by (has_content (slice_get s.structures i)) at i ms s r few h

  structure_closed_adds : (at : ℕ) (back : List (At Attr)) (clash : Bool) (i : ℕ) (ms : List Named) (s : State) (r : Specifier × State) → AreFewMembers most.few ms → structure_closed target at back clash i ms s ≡ Ok r → Adds most 1 s r.1
  structure_closed_adds at back clash i ms s r few h =
      behind most 1 (located s (attributes (entity.Structure ∷ []) back)) (λ marks s. as_type (closed target at clash i ms s)) s r
      (λ y f. placed most 0 s (attributes (entity.Structure ∷ []) back) y f)
      (λ y f. as_type_adds 1 (closed target at clash i ms y.1) y.1 r (λ z g. closed_by clash at i ms y.1 z few g) f) h

  members_add : (ds : List (At MembersMeaning)) (c : ℕ) → AreCounted MembersAdd ds c → (front : List Named) (s : State) (r : List Named × State) → in_turn (λ d ms s. d.node ms s) ds front s ≡ Ok r →
      AreNamed front → Adds most c s r.1 × AreMembers (least_of ds) c front r.0
  members_add [] c g front s r h q =
      let e = answer_is front s r h in (unmoved most c s r.1 e.1, subst (AreMembers 0 c front) (sym e.0) (record { named = q; few = omega arith; more = omega arith }))
  members_add (d ∷ ds) c g front s r h q =
      let a = then_found (d.node front s) (in_turn (λ d ms s. d.node ms s) ds) r h in
      let b = g.3 front s a.0 a.1 q in
      let w = members_add ds g.1 g.4 a.0.0 a.0.1 r a.2 b.1.named in
      let sum = g.2 in
      let l = b.1.few in
      let m = w.1.few in
      let least = b.1.more in
      let more = w.1.more in
      (adds_through most g.0 g.1 c s a.0.1 r.1 (omega arith) b.0 w.0, record { named = w.1.named; few = omega arith; more = omega arith })

  -- all of a structure's, where there is one
  all_members : (least c : ℕ) (ms : List Named) → least ≡ 1 → c ≤ most.few → AreMembers least c [] ms → AreFewMembers most.few ms
  all_members least c ms e few h =
      let l = h.few in
      let m = h.more in
      record { named = record { names = h.named.names; few = omega arith }; apart = h.named.apart; some = lt-ltb 0 (length ms) (omega arith) }

  pub structure_adds : (x : Option Name) (ds : List (At MembersMeaning)) (c : ℕ) → AreCounted MembersAdd ds c → one_or_more ds ≡ true → suc (suc c) ≤ most.few → (front back : List (At Attr)) → tag_named x ≡ true →
      SpecAdds (suc (suc c)) (λ at s. structure_found target at x ds front back s)
  structure_adds x ds c g some few front back q at s r h =
      chained most 1 (suc c) (suc (suc c)) (structure_opened x front s) (λ new s. and_then (members_found ds s) (λ ms s. structure_closed target at back new.0 new.1 ms s)) s r (omega arith) (λ y f. structure_opened_adds x front s y q f)
      (λ y f.
      let a = then_found (members_found ds y.1) (λ ms s. structure_closed target at back y.0.0 y.0.1 ms s) r f in
      let b = members_add ds c g [] y.1 a.0 a.1 (record { names = refl; apart = refl }) in
      adds_through most c 1 (suc c) y.1 a.0.1 r.1 (omega arith) b.0 (structure_closed_adds at back y.0.0 y.0.1 a.0.0 a.0.1 r (all_members (least_of ds) c a.0.0 (least-some ds some) (omega arith) b.1) a.2)) h

  -- ---- enumerations

  enumeration_tagged_adds : (t : Tagged) (x : Option Name) (s : State) → Adds most 0 s (enumeration_tagged t x s)
  enumeration_tagged_adds t None s = adds_itself most 0 s
  enumeration_tagged_adds t (Some x) s = tag_bound most x t s

  list_by : (b : Bool) (x : Option Name) (s : State) → Adds most 0 s (if b then s else enumeration_tagged tag.UnfinishedEnumeration x s)
  list_by true x s = adds_itself most 0 s
  list_by false x s = enumeration_tagged_adds tag.UnfinishedEnumeration x s

  enumeration_closed_by : (clash : Bool) (at : ℕ) (x : Option Name) (s : State) (r : CType × State) → enumeration_closed at clash x s ≡ Ok r → Adds most 0 s r.1
  enumeration_closed_by true at x s r h = absurd (cc)
  enumeration_closed_by false at x s r h = answered most 0 enumeration_type s (enumeration_tagged tag.EnumerationTag x s) r (enumeration_tagged_adds tag.EnumerationTag x s) h

  constants_add : (cs : List (At EnumrMeaning)) (c : ℕ) → AreCounted EnumrAdds cs c → (s : State) (r : ℤ × State) → constants_found cs s ≡ Ok r → Adds most c s r.1
  constants_add cs c g s r h = in_turn_adds most (λ c next s. c.node next c.at s) EnumrAdds (λ m x hx next s r f. hx next x.at s r f) cs c g (pos 0) s r h

  pub enumeration_adds : (x : Option Name) (cs : List (At EnumrMeaning)) (c : ℕ) → AreCounted EnumrAdds cs c → SpecAdds c (λ at s. enumeration_found at x cs s)
  enumeration_adds x cs c g at s r h =
      let clash = is_some (tagged_option x s) in
      adds_through most 0 c c s (in_list x s) r.1 (omega arith) (list_by clash x s)
      (before most c (constants_found cs (in_list x s)) (λ next t. as_type (enumeration_closed at clash x t)) (in_list x s) r (λ y f. constants_add cs c g (in_list x s) y f)
      (λ y f. as_type_adds 0 (enumeration_closed at clash x y.1) y.1 r (λ z g. enumeration_closed_by clash at x y.1 z g) f) h)

  module _ (roles : Roles) where
    constant_adds : (at : ℕ) (x : Name) (c : Constant) (s : State) (r : ℤ × State) → constant_declared target roles at x c s ≡ Ok r → Adds most 0 s r.1
    constant_adds at x c s r h =
        behind most 0 (whole at s (enumeration_constant target c)) (λ m s. and_then (whole at s (new_name roles x s)) (λ x s. answer (m +ℤ pos 1) (bind x (means.Enumerator m) s))) s r
        (λ y f. judged most 0 at s (enumeration_constant target c) y f)
        (λ y f. behind most 0 (whole at y.1 (new_name roles x y.1)) (λ x s. answer (y.0 +ℤ pos 1) (bind x (means.Enumerator y.0) s)) y.1 r (λ z g. judged most 0 at y.1 (new_name roles x y.1) z g)
        (λ z g. answered most 0 (y.0 +ℤ pos 1) z.1 (bind z.0 (means.Enumerator y.0) z.1) r (bound most z.0 (means.Enumerator y.0) z.1) g) f) h

    pub no_value_adds : (x : Name) → EnumrAdds 0 (λ next at s. constant_by target roles at x next s None)
    no_value_adds x next at s r h = constant_adds at x (Value next) s r h

    pub some_value_adds : (c : ℕ) (x : Name) (e : At TreeMeaning) → TreeAdds most c e.node → EnumrAdds c (λ next at s. constant_by target roles at x next s (Some e))
    some_value_adds c x e he next at s r h = sole_value most c e he (λ y s. constant_declared target roles at x (constancy y) s) s r (λ y g. constant_adds at x (constancy y.0) y.1 r g) h

  -- ---- lists of specifiers

  specifier_adds : (set : Setting) (m : ℕ) (x : At SpecMeaning) → SpecAdds m x.node → (front : Specs) (s : State) (r : Specs × State) → specifier_found set x front s ≡ Ok r → Adds most m s r.1
  specifier_adds set m x hx front s r h =
      before most m (x.node x.at s) (λ p s. whole x.at s (with_specifier set x.at p front)) s r (λ y f. hx x.at s y f) (λ y f. judged most 0 x.at y.1 (with_specifier set x.at y.0 front) r f) h

  pub specified_adds : (set : Setting) (xs : List (At SpecMeaning)) (c : ℕ) → AreCounted SpecAdds xs c → (s : State) (r : Specified × State) → specified_found set xs s ≡ Ok r → Adds most c s r.1
  specified_adds set xs c g s r h =
      before most c (specifiers_found set xs s) (λ specs s. whole (begin xs) s (specified specs)) s r
      (λ y f. in_turn_adds most (specifier_found set) SpecAdds (λ m x hx front s r g. specifier_adds set m x hx front s r g) xs c g no_specifier s y f)
      (λ y f. judged most 0 (begin xs) y.1 (specified y.0) r f) h
