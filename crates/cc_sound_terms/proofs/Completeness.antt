-- What is complete stays so, and a type that is complete over all structures is complete over those that are listed: by induction over types.
use Rattle.std.proofs.Common.{◌≡◌, ◌⊎◌, inl, inr, ℕ, Bool, true, false, ◌&&◌, ◌||◌, List, [], ◌∷◌, ◌++◌, map, Option, Some, None, refl, ap, sym, ◌∙◌, subst, append_assoc, length, eqb-true, eq-eqb}
use Rattle.std.specs.Prelude.{nat_eq, nat_lt, slice_get, option_map}
use Rattle.std.proofs.lemmas.Option.{slice_get-map}
use Rattle.cc_program.proofs.Each.{Each}
use Rattle.cc_program.proofs.TypeInduction.{with_shape, TypeParts, by_type}
use Rattle.cc_program.specs.declared.types.CType.{CType, fold_out-CType}
use Rattle.cc_program.specs.declared.types.Shape.{Shape, roll-Shape, out-Shape, out-roll-Shape, map-Shape, fold-Shape, fold_out-Shape}
use Rattle.cc_program.specs.declared.types.Shape.TheOpen as shape
use Rattle.cc_program.specs.declared.types.Sig.{Sig, fold-Sig}
use Rattle.cc_program.specs.declared.types.Structure.{Structure}
use Rattle.cc_terms.specs.CcScopes.State.{State, Name, KnownStructure, members_or_none, as_structure, structures_of, tagged}
use Rattle.cc_terms.specs.CcScopes.declared.designated.Designated.{Designated}
use Rattle.cc_terms.specs.CcScopes.declared.designated.Tagged.{Tagged}
use Rattle.cc_sound_terms.specs.Growing.{Kept, Grows, StructuresKept, IsTag}
use Rattle.cc_sound_terms.specs.Ordered.{HasMembers, is_among, complete_over, is_complete_over, StandsBehind, AreOrdered, IsOrdered, AreComplete}
use Rattle.cc_sound_terms.proofs.Growth.{tagged_kept, tag_through}
use Rattle.cc_terms.specs.CcSyntax.Types.{Named, has_members, complete_shape, is_complete}
use Rattle.cc_terms.proofs.CcSyntax.Prefixes.{both_true}
use Rattle.cc_terms.proofs.CcSyntax.TypeLayouts.{parts_complete, complete-roll}

both : (a b : Bool) → a ≡ true → b ≡ true → a && b ≡ true
both true b h k = k
both false b h k = absurd (cc)

-- ---- what is complete stays so

has_content : (o : Option KnownStructure) → has_members (option_map as_structure o) ≡ true → (k : KnownStructure) × (o ≡ Some k) × ((ms : List Named) × (k.members ≡ Some ms))
has_content None h = absurd (cc)
has_content (Some k) h = of_members k.members refl
  where
    of_members : (m : Option (List Named)) → k.members ≡ m → (l : KnownStructure) × (Some k ≡ Some l) × ((ms : List Named) × (l.members ≡ Some ms))
    of_members None e = let c : false ≡ true = sym (ap (λ (o : Option (List Named)). nat_lt 0 (length (members_or_none o))) e) ∙ h in absurd (cc)
    of_members (Some ms) e = (k, refl, (ms, e))

pub content_at : (xs : List KnownStructure) (i : ℕ) → has_members (slice_get (map as_structure xs) i) ≡ true → (ms : List Named) × HasMembers xs i ms
content_at xs i h =
    let c = has_content (slice_get xs i) (ap has_members (sym (slice_get-map as_structure xs i)) ∙ h) in
    (c.2.0, (c.0, c.1, c.2.1))

same_content : (k l : KnownStructure) (ms : List Named) → k.members ≡ Some ms → l.members ≡ Some ms → has_members (Some (as_structure l)) ≡ has_members (Some (as_structure k))
same_content k l ms e f = ap (λ (o : Option (List Named)). nat_lt 0 (length (members_or_none o))) (f ∙ sym e)

content_kept : (xs ys : List KnownStructure) (i : ℕ) → StructuresKept xs ys → has_members (slice_get (map as_structure xs) i) ≡ true → has_members (slice_get (map as_structure ys) i) ≡ true
content_kept xs ys i kept h =
    let c = content_at xs i h in
    let l = kept i c.1.0 c.1.1 in
    let first : has_members (Some (as_structure c.1.0)) ≡ true = sym (ap has_members (slice_get-map as_structure xs i ∙ ap (option_map as_structure) c.1.1)) ∙ h in
    ap has_members (slice_get-map as_structure ys i ∙ ap (option_map as_structure) l.1) ∙ same_content c.1.0 l.0 c.0 c.1.2 (l.2.members c.0 c.1.2) ∙ first

module _ (xs ys : List Structure) (kept : (i : ℕ) → has_members (slice_get xs i) ≡ true → has_members (slice_get ys i) ≡ true) where
  abbrev Stays : CType → Type 0
  Stays t = is_complete xs t ≡ true → is_complete ys t ≡ true

  shape_stays : (x : shape.Shape-F Shape CType Sig) → TypeParts Stays (λ s. Unit {0}) x → complete_shape xs (parts_complete xs x) ≡ true → complete_shape ys (parts_complete ys x) ≡ true
  shape_stays shape.Void h e = absurd (cc)
  shape_stays (shape.Int t) h e = refl
  shape_stays (shape.Pointer to) h e = refl
  shape_stays (shape.Array of n) h e = let b = both_true (nat_lt 0 n) (is_complete xs of) e in both (nat_lt 0 n) (is_complete ys of) b.0 (h b.1)
  shape_stays (shape.Struct i) h e = kept i e
  shape_stays (shape.Func s) h e = absurd (cc)

  pub complete_stays : (t : CType) → Stays t
  complete_stays = by_type Stays (λ s. Unit {0}) (λ c w x h e. complete-roll ys c w x ∙ shape_stays x h (sym (complete-roll xs c w x) ∙ e)) (λ x h. tt)

pub complete_grown : (s t : State) → StructuresKept s.structures t.structures → (ms : List Named) → AreComplete ms s → AreComplete ms t
complete_grown s t kept [] h = tt
complete_grown s t kept (m ∷ ms) h = (complete_stays (structures_of s) (structures_of t) (λ i e. content_kept s.structures t.structures i kept e) m.1 h.0, complete_grown s t kept ms h.1)

-- ---- over those that are listed

module _ (structures : List Structure) (front : List ℕ) (listed : (i : ℕ) → has_members (slice_get structures i) ≡ true → is_among front i ≡ true) where
  abbrev parts_over : shape.Shape-F Shape CType Sig → shape.Shape-F Bool Bool (Unit {0})
  parts_over x = map-Shape Shape CType Sig Bool Bool (Unit {0})
      (fold-Shape Bool Bool (Unit {0}) (complete_over front) (λ t. t.shape) (λ s. tt))
      (is_complete_over front)
      (fold-Sig Bool Bool (Unit {0}) (complete_over front) (λ t. t.shape) (λ s. tt)) x

  over-opens : (t : CType) → is_complete_over front t ≡ complete_over front (parts_over (out-Shape t.shape))
  unfolding is_complete_over
  over-opens t =
      fold_out-CType Bool Bool (Unit {0}) (complete_over front) (λ t. t.shape) (λ s. tt) t
      ∙ fold_out-Shape Bool Bool (Unit {0}) (complete_over front) (λ t. t.shape) (λ s. tt) t.shape

  over-roll : (c w : Bool) (x : shape.Shape-F Shape CType Sig) → is_complete_over front (with_shape c w (roll-Shape x)) ≡ complete_over front (parts_over x)
  over-roll c w x = over-opens (with_shape c w (roll-Shape x)) ∙ ap (λ y. complete_over front (parts_over y)) (out-roll-Shape x)

  abbrev Listed : CType → Type 0
  Listed t = is_complete structures t ≡ true → is_complete_over front t ≡ true

  shape_listed : (x : shape.Shape-F Shape CType Sig) → TypeParts Listed (λ s. Unit {0}) x → complete_shape structures (parts_complete structures x) ≡ true → complete_over front (parts_over x) ≡ true
  shape_listed shape.Void h e = absurd (cc)
  shape_listed (shape.Int t) h e = refl
  shape_listed (shape.Pointer to) h e = refl
  shape_listed (shape.Array of n) h e = let b = both_true (nat_lt 0 n) (is_complete structures of) e in both (nat_lt 0 n) (is_complete_over front of) b.0 (h b.1)
  shape_listed (shape.Struct i) h e = listed i e
  shape_listed (shape.Func s) h e = absurd (cc)

  complete_listed : (t : CType) → Listed t
  complete_listed = by_type Listed (λ s. Unit {0}) (λ c w x h e. over-roll c w x ∙ shape_listed x h (sym (complete-roll structures c w x) ∙ e)) (λ x h. tt)

  pub members_listed : (ms : List Named) → Each (λ m. is_complete structures m.1 ≡ true) ms → Each (λ m. is_complete_over front m.1 ≡ true) ms
  members_listed [] h = tt
  members_listed (m ∷ ms) h = (complete_listed m.1 h.0, members_listed ms h.1)

-- ---- lists of numbers

among_more : (xs : List ℕ) (i j : ℕ) → is_among xs j ≡ true → is_among (xs ++ i ∷ []) j ≡ true
among_more [] i j h = absurd (cc)
among_more (x ∷ xs) i j h = or_more (nat_eq j x) (is_among xs j) (is_among (xs ++ i ∷ []) j) h (among_more xs i j)
  where
    or_more : (a b c : Bool) → a || b ≡ true → (b ≡ true → c ≡ true) → a || c ≡ true
    or_more true b c h f = refl
    or_more false b c h f = f h

among_last : (xs : List ℕ) (i : ℕ) → is_among (xs ++ i ∷ []) i ≡ true
among_last [] i = ap (λ (b : Bool). b || false) (eq-eqb i i refl)
among_last (x ∷ xs) i = or_last (nat_eq i x) (is_among (xs ++ i ∷ []) i) (among_last xs i)
  where
    or_last : (a b : Bool) → b ≡ true → a || b ≡ true
    or_last true b h = refl
    or_last false b h = h

-- ---- structures that stand in order

members_kept : (xs ys : List KnownStructure) (i : ℕ) (ms : List Named) → StructuresKept xs ys → HasMembers xs i ms → HasMembers ys i ms
members_kept xs ys i ms kept h = let l = kept i h.0 h.1 in (l.0, l.1, l.2.members ms h.2)

pub order_kept : (xs ys : List KnownStructure) (front rest : List ℕ) → StructuresKept xs ys → AreOrdered xs front rest → AreOrdered ys front rest
order_kept xs ys front [] kept h = tt
order_kept xs ys front (i ∷ rest) kept h =
    (record { members = h.0.members; there = members_kept xs ys i h.0.members kept h.0.there; new = h.0.new; complete = h.0.complete }, order_kept xs ys (front ++ i ∷ []) rest kept h.1)

order_more : (xs : List KnownStructure) (front rest : List ℕ) (i : ℕ) → AreOrdered xs front rest → StandsBehind xs (front ++ rest) i → AreOrdered xs front (rest ++ i ∷ [])
order_more xs front [] i h k = (subst (λ (f : List ℕ). StandsBehind xs f i) (append_nothing front) k, tt)
  where
    append_nothing : {A : Type 0} (ys : List A) → ys ++ [] ≡ ys
    append_nothing [] = refl
    append_nothing (y ∷ ys) = ap (λ zs. y ∷ zs) (append_nothing ys)
order_more xs front (j ∷ rest) i h k = (h.0, order_more xs (front ++ j ∷ []) rest i h.1 (subst (λ (f : List ℕ). StandsBehind xs f i) (sym (append_assoc front (j ∷ []) rest)) k))

-- those that are listed have members
listed_at : (xs : List KnownStructure) (front rest : List ℕ) (i j : ℕ) (b : Bool) → nat_eq i j ≡ b → StandsBehind xs front j → (is_among rest i ≡ true → (ms : List Named) × HasMembers xs i ms) → b || is_among rest i ≡ true → (ms : List Named) × HasMembers xs i ms
listed_at xs front rest i j true e h f k = (h.members, subst (λ (n : ℕ). HasMembers xs n h.members) (sym (eqb-true i j e)) h.there)
listed_at xs front rest i j false e h f k = f k

listed_members : (xs : List KnownStructure) (front rest : List ℕ) (i : ℕ) → AreOrdered xs front rest → is_among rest i ≡ true → (ms : List Named) × HasMembers xs i ms
listed_members xs front [] i h k = absurd (cc)
listed_members xs front (j ∷ rest) i h k = listed_at xs front rest i j (nat_eq i j) refl h.0 (λ g. listed_members xs (front ++ j ∷ []) rest i h.1 g) k

-- ---- states

pub tags_kept : (New : Designated → Type 0) (s t : State) → Grows New s t → ((x : Name) (u : Tagged) → tagged x s.scopes ≡ Some u → IsTag s.structures u) → (x : Name) (u : Tagged) → tagged x t.scopes ≡ Some u → IsTag t.structures u
tags_kept New s t g h x u f = by_tag (tagged_kept New s t x g)
  where
    one_is : (a b : Tagged) → Some a ≡ Some b → a ≡ b
    one_is a b h = cc

    by_tag : Kept (IsTag t.structures) (tagged x s.scopes) (tagged x t.scopes) → IsTag t.structures u
    by_tag (inl e) = tag_through s.structures t.structures u g.structures (h x u (sym e ∙ f))
    by_tag (inr n) = subst (IsTag t.structures) (one_is n.0 u (sym n.1 ∙ f)) n.2

-- where no structure is completed
pub ordered_same : (New : Designated → Type 0) (s t : State) → Grows New s t → t.completed ≡ s.completed → ((i : ℕ) (ms : List Named) → HasMembers t.structures i ms → HasMembers s.structures i ms) → IsOrdered s → IsOrdered t
ordered_same New s t g e f h = record {
  listed = λ i ms k. ap (λ (l : List ℕ). is_among l i) e ∙ h.listed i ms (f i ms k);
  order = subst (AreOrdered t.structures []) (sym e) (order_kept s.structures t.structures [] s.completed g.structures h.order);
  tags = tags_kept New s t g h.tags;
}

-- a structure that is not listed, whose members are complete, is completed
pub ordered_closed : (s t : State) (i : ℕ) (ms : List Named) → StructuresKept s.structures t.structures → t.scopes ≡ s.scopes → t.completed ≡ s.completed ++ i ∷ [] → HasMembers t.structures i ms →
    ((j : ℕ) (ns : List Named) → HasMembers t.structures j ns → HasMembers s.structures j ns ⊎ (j ≡ i)) → ((ns : List Named) → HasMembers s.structures i ns → ⊥) → AreComplete ms s → IsOrdered s → IsOrdered t
ordered_closed s t i ms kept scopes e there only new complete h =
    let over = members_listed (structures_of s) s.completed (λ j k. let c = content_at s.structures j k in h.listed j c.0 c.1) ms complete in
    record {
      listed = λ j ns k. ap (λ (l : List ℕ). is_among l j) e ∙ listed_by j (only j ns k) (λ g. h.listed j ns g);
      order = subst (AreOrdered t.structures []) (sym e) (order_more t.structures [] s.completed i (order_kept s.structures t.structures [] s.completed kept h.order)
          (record { members = ms; there = there; new = not_listed (is_among s.completed i) refl; complete = over }));
      tags = λ x u f. tag_through s.structures t.structures u kept (h.tags x u (ap (tagged x) (sym scopes) ∙ f));
    }
  where
    listed_by : {P : Type 0} (j : ℕ) → P ⊎ (j ≡ i) → (P → is_among s.completed j ≡ true) → is_among (s.completed ++ i ∷ []) j ≡ true
    listed_by j (inl g) f = among_more s.completed i j (f g)
    listed_by j (inr g) f = subst (λ (n : ℕ). is_among (s.completed ++ i ∷ []) n ≡ true) (sym g) (among_last s.completed i)

    not_listed : (b : Bool) → is_among s.completed i ≡ b → is_among s.completed i ≡ false
    not_listed true f = let m = listed_members s.structures [] s.completed i h.order f in absurd (new m.0 m.1)
    not_listed false f = f
