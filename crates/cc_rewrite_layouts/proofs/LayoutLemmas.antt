-- Homes of layouts that do not meet: object by object, and of one array element by element.
use Rattle.std.proofs.Common.{arith, ◌≡◌, ◌⊎◌, inl, inr, ◌<◌, ◌≤◌, ◌+◌, ◌*◌, ◌/◌, ◌%◌, ℕ, zero, suc, refl, ap, sym, ◌∙◌, subst}
use Rattle.cc_program.specs.declared.value.Value.{Value}
use Rattle.cc_rewrite_fields.proofs.ArrayLemmas.{elements_beside, element_fits}
use Rattle.cc_rewrite_homes.specs.Homes.{Field, Home, Whole, Packed, Fixed, Beside, Apart, IsOff, AreHomes}
use Rattle.cc_rewrite_homes.proofs.ScalarLemmas.{both_or_not}
use Rattle.cc_rewrite_layouts.specs.Layouts.{Layout, Same, One, InField, InElements, Nowhere, element_field, scalar_home, homes_of, AreLayouts}

one_or_not : (i j : ℕ) → (i ≡ j) ⊎ (i ≡ j → ⊥)
one_or_not i j = by 0 (both_or_not i j 0 0)
  where
    by : (z : ℕ) → ((i ≡ j) × (z ≡ z)) ⊎ (i ≡ j → z ≡ z → ⊥) → (i ≡ j) ⊎ (i ≡ j → ⊥)
    by z (inl h) = inl h.0
    by z (inr h) = inr (λ e. h e refl)

same_layout : (a b count count' bits bits' : ℕ) → InElements a count bits ≡ InElements b count' bits' → (count ≡ count') × (bits ≡ bits')
same_layout a b count count' bits bits' h = (cc, cc)

same_field : (f g : Field) → Packed f ≡ Packed g → f ≡ g
same_field f g h = cc

by_one : (k : ℕ) → k / 1 ≡ k
by_one k = omega arith

module _ (layout : ℕ → Layout) (are : AreLayouts layout) where
  abbrev Elements : (a count bits k b count' bits' l : ℕ) → Type 0
  Elements a count bits k b count' bits' l = Apart (Packed (element_field a count bits k)) (Packed (element_field b count' bits' l))

  -- elements of one array, and of two
  one_array : (a count bits k l : ℕ) → (k ≡ l → ⊥) → Elements a count bits k a count bits l
  one_array a count bits k l other e p = (refl, elements_beside k l count bits other p)

  two_elements : (i j a count bits k b count' bits' l : ℕ) → layout i ≡ InElements a count bits → layout j ≡ InElements b count' bits' → (i ≡ j → k ≡ l → ⊥) → (i ≡ j) ⊎ (i ≡ j → ⊥) →
      Elements a count bits k b count' bits' l
  two_elements i j a count bits k b count' bits' l h g other (inr off) = λ e p. absurd (are.elements i j a b count bits count' bits' h g off e)
  two_elements i j a count bits k b count' bits' l h g other (inl same) =
      let s = same_layout a b count count' bits bits' (sym h ∙ ap layout same ∙ g) in
      λ e p.
      let fields : Elements a count bits k a count bits l = one_array a count bits k l (other same) in
      subst (λ (c : ℕ). (count * bits ≡ c * bits') × Beside (element_field a count bits k) (element_field b c bits' l)) s.0
      (subst (λ (d : ℕ). (count * bits ≡ count * d) × Beside (element_field a count bits k) (element_field b count d l)) s.1
      (fields refl (p ∙ ap (λ (c : ℕ). l / c) (sym s.0))))

  apart_by : (i k j l : ℕ) (x y : Layout) → layout i ≡ x → layout j ≡ y → (i ≡ j → k ≡ l → ⊥) → Apart (scalar_home x i k) (scalar_home y j l)
  apart_by i k j l (One v) y h g other = tt
  apart_by i k j l Nowhere y h g other = tt
  apart_by i (suc k) j l (InField f) y h g other = tt
  apart_by i k j l Same Same h g other = other
  apart_by i k j l Same (One v) h g other = tt
  apart_by i k j zero Same (InField f) h g other = λ e p. are.field_same j i f g h (sym e)
  apart_by i k j (suc l) Same (InField f) h g other = tt
  apart_by i k j l Same (InElements object count bits) h g other = λ e p. are.elements_same j i object count bits g h (sym e)
  apart_by i k j l Same Nowhere h g other = tt
  apart_by i zero j l (InField f) Same h g other = λ e p. are.field_same i j f h g e
  apart_by i zero j l (InField f) (One v) h g other = tt
  apart_by i zero j zero (InField f) (InField f') h g other = λ e p. are.fields i j f f' h g (λ d. other d refl) e p
  apart_by i zero j (suc l) (InField f) (InField f') h g other = tt
  apart_by i zero j l (InField f) (InElements object count bits) h g other = λ e p. absurd (are.field_elements i j f object count bits h g e)
  apart_by i zero j l (InField f) Nowhere h g other = tt
  apart_by i k j l (InElements object count bits) Same h g other = λ e p. are.elements_same i j object count bits h g e
  apart_by i k j l (InElements object count bits) (One v) h g other = tt
  apart_by i k j zero (InElements object count bits) (InField f) h g other = λ e p. absurd (are.field_elements j i f object count bits g h (sym e))
  apart_by i k j (suc l) (InElements object count bits) (InField f) h g other = tt
  apart_by i k j l (InElements a count bits) (InElements b count' bits') h g other = two_elements i j a count bits k b count' bits' l h g other (one_or_not i j)
  apart_by i k j l (InElements object count bits) Nowhere h g other = tt

  fits_by : (i k : ℕ) (f : Field) (x : Layout) → layout i ≡ x → scalar_home x i k ≡ Packed f → f.shift + f.width ≤ f.bits
  fits_by i k f Same h g = absurd (cc)
  fits_by i k f (One v) h g = absurd (cc)
  fits_by i zero f (InField f') h g = subst (λ (x : Field). x.shift + x.width ≤ x.bits) (same_field f' f g) (are.fits i f' h)
  fits_by i (suc k) f (InField f') h g = absurd (cc)
  fits_by i k f (InElements object count bits) h g =
      subst (λ (x : Field). x.shift + x.width ≤ x.bits) (same_field (element_field object count bits k) f g) (element_fits k count bits (are.some i object count bits h))
  fits_by i k f Nowhere h g = absurd (cc)

  pub are-homes : AreHomes (homes_of layout)
  are-homes = record {
    apart = λ i k j l other. apart_by i k j l (layout i) (layout j) refl refl other;
    fits = λ i k f at. fits_by i k f (layout i) refl at;
  }

  -- ---- alone in a word

  module _ (i : ℕ) (f : Field) (at : layout i ≡ InField f) (alone : (j : ℕ) (g : Field) → layout j ≡ InField g → (i ≡ j → ⊥) → f.object ≡ g.object → f.position ≡ g.position → ⊥) where
    field-off : (m n : ℕ) (x : Layout) → layout m ≡ x → (i ≡ m → 0 ≡ n → ⊥) → IsOff f.object f.position (scalar_home x m n)
    field-off m n Same h other = λ e p. are.field_same i m f at h e
    field-off m n (One v) h other = tt
    field-off m zero (InField g) h other = λ e p. alone m g h (λ d. other d refl) e p
    field-off m (suc n) (InField g) h other = tt
    field-off m n (InElements object count bits) h other = λ e p. are.field_elements i m f object count bits at h e
    field-off m n Nowhere h other = tt

    pub field-alone : (m n : ℕ) → (i ≡ m → 0 ≡ n → ⊥) → IsOff f.object f.position (homes_of layout m n)
    field-alone m n other = field-off m n (layout m) refl other

  module _ (i object bits : ℕ) (at : layout i ≡ InElements object 1 bits) where
    elements-off : (k m n a count b : ℕ) → layout m ≡ InElements a count b → (i ≡ m → k ≡ n → ⊥) → (i ≡ m) ⊎ (i ≡ m → ⊥) → object ≡ a → k ≡ n / count → ⊥
    elements-off k m n a count b h other (inr off) e p = are.elements i m object a 1 bits count b at h off e
    elements-off k m n a count b h other (inl same) e p =
        let s = same_layout object a 1 count bits b (sym at ∙ ap layout same ∙ h) in
        other same (p ∙ ap (λ (c : ℕ). n / c) (sym s.0) ∙ by_one n)

    element-off : (k m n : ℕ) (x : Layout) → layout m ≡ x → (i ≡ m → k ≡ n → ⊥) → IsOff object k (scalar_home x m n)
    element-off k m n Same h other = λ e p. are.elements_same i m object 1 bits at h e
    element-off k m n (One v) h other = tt
    element-off k m zero (InField g) h other = λ e p. are.field_elements m i g object 1 bits h at (sym e)
    element-off k m (suc n) (InField g) h other = tt
    element-off k m n (InElements a count b) h other = λ e p. elements-off k m n a count b h other (one_or_not i m) e p
    element-off k m n Nowhere h other = tt

    pub element-alone : (k m n : ℕ) → (i ≡ m → k ≡ n → ⊥) → IsOff object k (homes_of layout m n)
    element-alone k m n other = element-off k m n (layout m) refl other
