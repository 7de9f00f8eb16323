-- What has a size has elements and members that have one, and what keeps their ends within 64 bits.
use Rattle.std.proofs.Common.{arith, ◌≡◌, ◌<◌, ◌≤◌, ◌^◌, ℕ, zero, suc, true, nat_lt, List, [], ◌∷◌, length, take, refl, ap, sym, ◌∙◌, subst, Some, slice_get}
use Rattle.std.specs.List.{All, Contains}
use Rattle.std.proofs.lemmas.List.{get_or-take, length-take}
use Rattle.std.proofs.lemmas.Option.{slice_get_within, get_or_from_slice_get}
use Rattle.cc_program.specs.CcNum.declared.target.Target.{Target}
use Rattle.cc_program.specs.declared.types.CType.{CType}
use Rattle.cc_program.specs.declared.types.Shape.{out-Shape}
use Rattle.cc_program.specs.declared.types.Shape.TheOpen as shape
use Rattle.cc_program.specs.declared.types.Structure.{Structure}
use Rattle.cc_syntax.specs.declared.sizes.Layout.{Layout}
use Rattle.cc_syntax.specs.Layout.{size_of, HasSize}
use Rattle.cc_syntax.specs.Types.{Named, complete_shape, is_complete, IsPart, Element, Member, Inner, IsInOrder, AreShort}
use Rattle.cc_syntax.proofs.Prefixes.{both_true, get_taken, layout-taken, complete-taken}
use Rattle.cc_syntax.proofs.TypeLayouts.{parts_complete, complete-opens}

-- an element of a list, from what holds of all
pub all_at : {A : Type 0} → (P : A → Type 0) (xs : List A) (i : ℕ) (x : A) → slice_get xs i ≡ Some x → All P xs → P x
all_at P xs i x h all = subst P (get_or_from_slice_get xs i x x h) (all i x (slice_get_within xs i x h))

pub all_contained : {A : Type 0} → (P : A → Type 0) (xs : List A) (x : A) → Contains xs x → All P xs → P x
all_contained P xs x (k, h, e) all = subst P e (all k x h)

take_of_take : {A : Type 0} → (xs : List A) (i k : ℕ) → k < i → take k (take i xs) ≡ take k xs
take_of_take [] zero zero h = refl
take_of_take [] zero (suc k) h = refl
take_of_take [] (suc i) zero h = refl
take_of_take [] (suc i) (suc k) h = refl
take_of_take (x ∷ xs) zero k h = absurd (omega (arith, h))
take_of_take (x ∷ xs) (suc i) zero h = refl
take_of_take (x ∷ xs) (suc i) (suc k) h = ap (λ ys. x ∷ ys) (take_of_take xs i k (omega (arith, h)))

module _ (structures : List Structure) where
  element_complete : (t e : CType) (n : ℕ) → out-Shape t.shape ≡ shape.Array e n → is_complete structures t ≡ true → is_complete structures e ≡ true
  element_complete t e n o h =
      (both_true (nat_lt 0 n) (is_complete structures e) (sym (complete-opens structures t ∙ ap (λ x. complete_shape structures (parts_complete structures x)) o) ∙ h)).1

  part_complete : IsInOrder structures → (p t : CType) → IsPart structures p t → is_complete structures t ≡ true → is_complete structures p ≡ true
  part_complete order _ _ (Element t e n o) h = element_complete t e n o h
  part_complete order _ _ (Member t i s m o g c) h = complete-taken structures i m.1 (all_contained (λ m. is_complete (take i structures) m.1 ≡ true) s.members m c (order i s g))
  part_complete order _ _ (Inner t p q a b) h = part_complete order q p b (part_complete order p t a h)

  part_taken : (i : ℕ) (p t : CType) → IsPart (take i structures) p t → IsPart structures p t
  part_taken i _ _ (Element t e n o) = Element t e n o
  part_taken i _ _ (Member t k s m o g c) = Member t k s m o (get_taken structures i k s g).1 c
  part_taken i _ _ (Inner t p q a b) = Inner t p q (part_taken i p t a) (part_taken i q p b)

  take_taken : (i k : ℕ) → k < i → take k (take i structures) ≡ take k structures
  take_taken i k h = take_of_take structures i k h

  order_taken : IsInOrder structures → (i : ℕ) → IsInOrder (take i structures)
  order_taken order i k s g =
      let r = get_taken structures i k s g in
      subst (λ ss. All (λ m. is_complete ss m.1 ≡ true) s.members) (sym (take_taken i k r.0)) (order k s r.1)

  short_taken : AreShort structures → (i : ℕ) → AreShort (take i structures)
  short_taken short i k d h =
      let m : k < i = omega (arith, h, length-take i structures) in
      let n : k < length structures = omega (arith, h, length-take i structures) in
      subst (λ (s : Structure). length s.members < 2 ^ 32) (sym (get_or-take i structures k d m)) (short k d n)

module _ (structures : List Structure) (target : Target) where
  pub element_sized : (t e : CType) (n : ℕ) → out-Shape t.shape ≡ shape.Array e n → HasSize t structures target → HasSize e structures target
  element_sized t e n o h = record {
    complete = element_complete structures t e n o h.complete;
    in_order = h.in_order;
    short = h.short;
    small = λ p q. h.small p (Inner t e p (Element t e n o) q);
  }

  pub element_small : (t e : CType) (n : ℕ) → out-Shape t.shape ≡ shape.Array e n → HasSize t structures target → size_of e structures target ≤ 4294967295
  element_small t e n o h = h.small e (Element t e n o)

  pub member_sized : (t : CType) (i : ℕ) (s : Structure) (m : Named) → out-Shape t.shape ≡ shape.Struct i → slice_get structures i ≡ Some s → Contains s.members m →
      HasSize t structures target → HasSize m.1 (take i structures) target
  member_sized t i s m o g c h =
      let before = take i structures in
      let complete : is_complete before m.1 ≡ true = all_contained (λ m. is_complete before m.1 ≡ true) s.members m c (h.in_order i s g) in
      let order = order_taken structures h.in_order i in
      record {
        complete = complete;
        in_order = order;
        short = short_taken structures h.short i;
        small = λ p q. subst (λ (l : Layout). l.size ≤ 4294967295)
            (sym (layout-taken target structures i p (part_complete (take i structures) order p m.1 q complete)))
            (h.small p (Inner t m.1 p (Member t i s m o g c) (part_taken structures i p m.1 q)));
      }

  pub member_small : (t : CType) (i : ℕ) (s : Structure) (m : Named) → out-Shape t.shape ≡ shape.Struct i → slice_get structures i ≡ Some s → Contains s.members m →
      HasSize t structures target → size_of m.1 (take i structures) target ≤ 4294967295
  member_small t i s m o g c h =
      subst (λ (l : Layout). l.size ≤ 4294967295)
      (sym (layout-taken target structures i m.1 (all_contained (λ m. is_complete (take i structures) m.1 ≡ true) s.members m c (h.in_order i s g))))
      (h.small m.1 (Member t i s m o g c))
