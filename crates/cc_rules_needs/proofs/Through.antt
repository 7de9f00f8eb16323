-- What is below what is below a third part is below the third; so facts above others have what these have.
use Rattle.std.proofs.Common.{◌≡◌, ◌⊎◌, inl, inr, Option, Some, None, sym, subst}
use Rattle.std.proofs.lemmas.List.Elements.{All-weaker}
use Rattle.cc_places.specs.declared.abs.Abs.{Abs}
use Rattle.cc_places.specs.Abstract.{IsBelowAbs}
use Rattle.cc_rules_needs.specs.Needs.{Slot, Part, Mark, LevelSet, Flags, Values, get, AreValuesBelow, IsBelowPart, Has, Needs, HasAll, IsBelow}
use Rattle.cc_rules_needs.specs.Raised.{IsLeastPart}
use Rattle.cc_state_facts.specs.declared.facts.Facts.{Facts}

-- one slot has another part, and the others what they had
abbrev pub AreOthers : {I : Type 0} → Slot → Part I → Facts I → Facts I → Type 0
AreOthers slot part f g = (s : Slot) → ((s ≡ slot) × (get s g ≡ part)) ⊎ (get s g ≡ get s f)

module _ {I : Type 0} (below : I → I → Type 0) (abs_itself : (x : Abs I) → IsBelowAbs below x x) (abs_through : (x y z : Abs I) → IsBelowAbs below x y → IsBelowAbs below y z → IsBelowAbs below x z) where
  pub values_itself : (x : Option (Abs I)) → AreValuesBelow below x x
  values_itself None = tt
  values_itself (Some x) = abs_itself x

  values_through : (x y z : Option (Abs I)) → AreValuesBelow below x y → AreValuesBelow below y z → AreValuesBelow below x z
  values_through None y z f g = tt
  values_through (Some x) None z f g = absurd f
  values_through (Some x) (Some y) None f g = absurd g
  values_through (Some x) (Some y) (Some z) f g = abs_through x y z f g

  pub part_itself : (x : Part I) → IsBelowPart below x x
  part_itself (Mark a) = λ h. h
  part_itself (LevelSet x) = λ l h. h
  part_itself (Flags off on) = ((λ h. h), (λ h. h))
  part_itself (Values x) = values_itself x

  pub part_through : (x y z : Part I) → IsBelowPart below x y → IsBelowPart below y z → IsBelowPart below x z
  part_through (Mark a) (Mark b) (Mark c) f g = λ h. g (f h)
  part_through (Mark a) (Mark b) _ f g = absurd g
  part_through (Mark a) _ z f g = absurd f
  part_through (LevelSet x) (LevelSet y) (LevelSet z) f g = λ l h. g l (f l h)
  part_through (LevelSet x) (LevelSet y) _ f g = absurd g
  part_through (LevelSet x) _ z f g = absurd f
  part_through (Flags a b) (Flags c d) (Flags off on) f g = ((λ h. g.0 (f.0 h)), (λ h. g.1 (f.1 h)))
  part_through (Flags a b) (Flags c d) _ f g = absurd g
  part_through (Flags a b) _ z f g = absurd f
  part_through (Values x) (Values y) (Values z) f g = values_through x y z f g
  part_through (Values x) (Values y) _ f g = absurd g
  part_through (Values x) _ z f g = absurd f

  pub facts_itself : (f : Facts I) → IsBelow below f f
  facts_itself f slot = part_itself (get slot f)

  pub facts_through : (f g h : Facts I) → IsBelow below f g → IsBelow below g h → IsBelow below f h
  facts_through f g h a b slot = part_through (get slot f) (get slot g) (get slot h) (a slot) (b slot)

  pub has_more : (f g : Facts I) (needs : Needs I) → IsBelow below f g → HasAll below needs f → HasAll below needs g
  has_more f g needs b h = All-weaker (Has below f) (Has below g) (λ n k. part_through n.1 (get n.0 f) (get n.0 g) k (b n.0)) needs h

  -- one slot with the least part that has what was there and some more, and the others as they were

  module _ (slot : Slot) (more part : Part I) (f g : Facts I) (l : IsLeastPart below (get slot f) more part) (others : AreOthers slot part f g) where
    put_above_at : (s : Slot) → ((s ≡ slot) × (get s g ≡ part)) ⊎ (get s g ≡ get s f) → IsBelowPart below (get s f) (get s g)
    put_above_at s (inl e) = subst (λ (x : Part I). IsBelowPart below (get s f) x) (sym e.1) (subst (λ (t : Slot). IsBelowPart below (get t f) part) (sym e.0) l.left)
    put_above_at s (inr e) = subst (λ (x : Part I). IsBelowPart below (get s f) x) (sym e) (part_itself (get s f))

    pub put_above : IsBelow below f g
    put_above s = put_above_at s (others s)

    put_least_at : (h : Facts I) → IsBelow below f h → Has below h (slot, more) → (s : Slot) → ((s ≡ slot) × (get s g ≡ part)) ⊎ (get s g ≡ get s f) → IsBelowPart below (get s g) (get s h)
    put_least_at h b k s (inl e) = subst (λ (x : Part I). IsBelowPart below x (get s h)) (sym e.1) (subst (λ (t : Slot). IsBelowPart below part (get t h)) (sym e.0) (l.least (get slot h) (b slot) k))
    put_least_at h b k s (inr e) = subst (λ (x : Part I). IsBelowPart below x (get s h)) (sym e) (b s)

    pub put_least : (h : Facts I) → IsBelow below f h → Has below h (slot, more) → IsBelow below g h
    put_least h b k s = put_least_at h b k s (others s)

    pub put_has : get slot g ≡ part → Has below g (slot, more)
    put_has e = subst (λ (x : Part I). IsBelowPart below more x) (sym e) l.right
