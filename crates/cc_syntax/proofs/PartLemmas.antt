-- The parts of a type, by its kind; and over more structures.
use Rattle.std.proofs.Common.{◌≡◌, ◌⊎◌, inl, inr, ℕ, true, nat_lt, List, take, refl, ap, sym, ◌∙◌, subst, Option, Some, None, slice_get}
use Rattle.std.specs.List.{Contains}
use Rattle.cc_program.specs.declared.types.CType.{CType}
use Rattle.cc_program.specs.declared.types.Shape.{Shape, out-Shape}
use Rattle.cc_program.specs.declared.types.Shape.TheOpen as shape
use Rattle.cc_program.specs.declared.types.Sig.{Sig}
use Rattle.cc_program.specs.declared.types.Structure.{Structure}
use Rattle.cc_syntax.specs.Types.{Named, has_members, complete_shape, is_complete, IsPart, Element, Member, Inner, IsInOrder}
use Rattle.cc_syntax.proofs.Prefixes.{both_true, get_taken, complete-taken}
use Rattle.cc_syntax.proofs.Parts.{all_contained}
use Rattle.cc_syntax.proofs.TypeLayouts.{parts_complete, complete-opens}

-- a type whose parts are known
abbrev pub IsLeaf : shape.Shape-F Shape CType Sig → Type 0
IsLeaf shape.Void = Unit {0}
IsLeaf (shape.Int t) = Unit {0}
IsLeaf (shape.Pointer t) = Unit {0}
IsLeaf (shape.Array t n) = ⊥
IsLeaf (shape.Struct s) = ⊥
IsLeaf (shape.Func s) = Unit {0}

module _ (structures : List Structure) where
  pub no_parts : (x : shape.Shape-F Shape CType Sig) (q t : CType) → IsLeaf x → out-Shape t.shape ≡ x → IsPart structures q t → ⊥
  no_parts x _ _ leaf o (Element t e n k) = let h : x ≡ shape.Array e n = sym o ∙ k in subst IsLeaf h leaf
  no_parts x _ _ leaf o (Member t i s m k g c) = let h : x ≡ shape.Struct i = sym o ∙ k in subst IsLeaf h leaf
  no_parts x _ _ leaf o (Inner t p q a b) = no_parts x p t leaf o a

  pub parts_of_array : (q t e : CType) (n : ℕ) → out-Shape t.shape ≡ shape.Array e n → IsPart structures q t → (q ≡ e) ⊎ IsPart structures q e
  parts_of_array _ _ e n o (Element t d m k) = inl (cc)
  parts_of_array _ _ e n o (Member t i s m k g c) = absurd (cc)
  parts_of_array _ _ e n o (Inner t p q a b) =
      elim (parts_of_array p t e n o a) [ inl h ↦ inr (subst (λ p. IsPart structures q p) h b) | inr h ↦ inr (Inner e p q h b) ]

  -- a member, or a part of one
  pub record InMember (s : Structure) (q : CType) : Type 0 where
    pub member : Named
    pub contains : Contains s.members member
    pub is : (q ≡ member.1) ⊎ IsPart structures q member.1

  inside : (s : Structure) (p q : CType) → InMember s p → IsPart structures q p → InMember s q
  inside s p q h b = record {
    member = h.member;
    contains = h.contains;
    is = elim h.is [ inl e ↦ inr (subst (λ p. IsPart structures q p) e b) | inr a ↦ inr (Inner h.member.1 p q a b) ];
  }

  pub parts_of_structure : (q t : CType) (i : ℕ) (s : Structure) → out-Shape t.shape ≡ shape.Struct i → slice_get structures i ≡ Some s → IsPart structures q t → InMember s q
  parts_of_structure _ _ i s o g (Element t d m k) = absurd (cc)
  parts_of_structure _ _ i s o g (Member t j r m k f c) =
      let e : i ≡ j = cc in
      let same : r ≡ s = cc in
      record { member = m; contains = subst (λ (r : Structure). Contains r.members m) same c; is = inl refl }
  parts_of_structure _ _ i s o g (Inner t p q a b) = inside s p q (parts_of_structure p t i s o g a) b

-- the parts of a type that is complete over the first structures stand over these
module _ (structures : List Structure) (i : ℕ) where
  abbrev before : List Structure
  before = take i structures

  pub record Earlier (q t : CType) : Type 0 where
    pub part : IsPart before q t
    pub complete : is_complete before q ≡ true

  element_complete : (t e : CType) (n : ℕ) → out-Shape t.shape ≡ shape.Array e n → is_complete before t ≡ true → is_complete before e ≡ true
  element_complete t e n o h = (both_true (nat_lt 0 n) (is_complete before e) (sym (complete-opens before t ∙ ap (λ x. complete_shape before (parts_complete before x)) o) ∙ h)).1

  known : (k : ℕ) (s : Structure) (o : Option Structure) → slice_get before k ≡ o → has_members o ≡ true → slice_get structures k ≡ Some s → slice_get before k ≡ Some s
  known k s None e h g = absurd (cc)
  known k s (Some r) e h g = let f = get_taken structures i k r e in e ∙ (sym f.1 ∙ g)

  struct_members : (t : CType) (k : ℕ) → out-Shape t.shape ≡ shape.Struct k → is_complete before t ≡ true → has_members (slice_get before k) ≡ true
  struct_members t k o h = sym (complete-opens before t ∙ ap (λ x. complete_shape before (parts_complete before x)) o) ∙ h

  pub earlier_part : IsInOrder before → (q t : CType) → IsPart structures q t → is_complete before t ≡ true → Earlier q t
  earlier_part order _ _ (Element t e n o) h = record { part = Element t e n o; complete = element_complete t e n o h }
  earlier_part order _ _ (Member t k s m o g c) h =
      let there = known k s (slice_get before k) refl (struct_members t k o h) g in
      record {
        part = Member t k s m o there c;
        complete = complete-taken before k m.1 (all_contained (λ m. is_complete (take k before) m.1 ≡ true) s.members m c (order k s there));
      }
  earlier_part order _ _ (Inner t p q a b) h =
      let first = earlier_part order p t a h in
      let second = earlier_part order q p b first.complete in
      record { part = Inner t p q first.part second.part; complete = second.complete }
