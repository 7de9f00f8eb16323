-- A set that has a value, of which a test leaves none.
use Rattle.std.proofs.Common.{◌≡◌, ◌↔◌, not, ℤ, Bool, true, false, true≢false, IsTrue, ℕ, Option, Some, None, is_some, refl, ap, sym, subst, ◌∙◌}
use Rattle.std.specs.Option.{IfSome}
use Rattle.cc_rules_flows.specs.CcLattice.Domains.{AreEnds}
use Rattle.cc_rules_flows.specs.CcPlaces.Abstract.{HasValue}
use Rattle.cc_rules_flows.specs.CcPlaces.declared.abs.Abs.{Abs}
use Rattle.cc_rules_flows.specs.CcPlaces.declared.abs.Abs.TheVariants as abs
use Rattle.cc_rules_flows.specs.CcPlaces.declared.addrs.Addrs.{Addrs}
use Rattle.cc_program.specs.declared.value.Value.{Value}
use Rattle.cc_program.specs.declared.value.Value.TheVariants as value
use Rattle.cc_rules_flows.specs.Tests.{IsLeft, OfMembers, OfRange, OfOther, OfAddresses}
use Rattle.cc_rules_sides.specs.Refined.{HasNumber, IsEmptied, KeepsAddresses}
use Rattle.cc_rules_tests.specs.declared.tested.Tested.{Tested}
use Rattle.cc_rules_tests.specs.Tested.{IsLeftIn}
use Rattle.cc_rules_flows.specs.CcStateOperators.Domains.{Domain}

pub none_told : (A : Type 0) (b : Bool) → (IsTrue b ↔ A) → (IsTrue (not b) ↔ (A → ⊥))
none_told A true h = ((λ e. let f : false ≡ true = e in absurd (cc)), (λ k. absurd (k (h.0 refl))))
none_told A false h = ((λ e k. let f : false ≡ true = h.1 k in absurd (cc)), (λ k. refl))

module _ {I : Type 0} (d : Domain I) where
  -- by the bounds
  pub some_ends : (x : I) (bounds : Option (ℤ × ℤ)) → ((bounds ≡ None) ↔ ((n : ℤ) → d.has x n → ⊥)) → IfSome bounds (AreEnds (d.has x)) → (IsTrue (is_some bounds) ↔ HasNumber d x)
  some_ends x None none ends = ((λ h. let e : false ≡ true = h in absurd (cc)), (λ h. absurd (none.0 refl h.0 h.1)))
  some_ends x (Some (low, high)) none ends = ((λ h. (low, ends.low_in)), (λ h. refl))

  some_of : (x : I) (v : Value) → HasValue d.has (abs.Ints x) v → HasNumber d x
  some_of x (value.Int n) h = (n, h)
  some_of x (value.Place a) h = absurd h

  none_of : (x : I) → (HasNumber d x → ⊥) → (v : Value) → HasValue d.has (abs.Ints x) v → ⊥
  none_of x none v h = none (some_of x v h)

  emptied_by : (x z : I) (b : Bool) → HasNumber d x → (IsTrue b ↔ (HasNumber d z → ⊥)) → (IsTrue b ↔ IsEmptied d (abs.Ints x) (abs.Ints z))
  emptied_by x z b some none = ((λ h. ((value.Int some.0, some.1), none_of z (none.0 h))), (λ h. none.1 (λ k. h.1 (value.Int k.0) k.1)))

  pub emptied_ints : (y z : Abs I) (x w : I) (b : Bool) → y ≡ abs.Ints x → z ≡ abs.Ints w → HasNumber d x → (IsTrue b ↔ (HasNumber d w → ⊥)) → (IsTrue b ↔ IsEmptied d y z)
  emptied_ints y z x w b e f some none = subst (λ u. IsTrue b ↔ IsEmptied d u z) (sym e) (subst (λ u. IsTrue b ↔ IsEmptied d (abs.Ints x) u) (sym f) (emptied_by x w b some none))

  -- addresses stay
  pub stay : (y z : Abs I) (s : Addrs) → y ≡ abs.Addrs s → KeepsAddresses y z → (IsTrue false ↔ IsEmptied d y z)
  stay (abs.Ints x) z s e k = absurd (cc)
  stay (abs.Addrs r) z s e k = ((λ h. let f : false ≡ true = h in absurd (cc)), (λ h. absurd (h.1 h.0.0 (subst (λ u. HasValue d.has u h.0.0) (sym k) h.0.1))))

  pub not_emptied : (y z u v : Abs I) (b : Bool) → (IsTrue b ↔ IsEmptied d y z) → b ≡ false → y ≡ u → z ≡ v → IsEmptied d u v → ⊥
  not_emptied y z u v b tells e f k h =
      let there : b ≡ true = tells.1 (subst (λ a. IsEmptied d a z) (sym f) (subst (λ a. IsEmptied d u a) (sym k) h)) in
      true≢false (sym there ∙ e)

module _ {I : Type 0} (d : Domain I) (t : Tested I) (r : ℕ) where
  -- what a test leaves is of the kind that it was
  pub kept_by_test : (y z : Abs I) → IsLeftIn d t r y z → KeepsAddresses y z
  kept_by_test y z (OfMembers x u members i listed hull k) = subst (λ v. KeepsAddresses v z) (sym i) (subst (λ v. KeepsAddresses (abs.Ints x) v) (sym k) tt)
  kept_by_test y z (OfRange x u i none cut k) = subst (λ v. KeepsAddresses v z) (sym i) (subst (λ v. KeepsAddresses (abs.Ints x) v) (sym k) tt)
  kept_by_test y z (OfOther x i none other k) = subst (λ v. KeepsAddresses v z) (sym i) (subst (λ v. KeepsAddresses (abs.Ints x) v) (sym (k ∙ i)) tt)
  kept_by_test y z (OfAddresses s i k) = subst (λ v. KeepsAddresses v z) (sym i) (k ∙ i)

-- a register that had a value, and of which not all is gone, has one
module _ {I : Type 0} (d : Domain I) (bounds : I → Option (ℤ × ℤ)) (none : (x : I) → (bounds x ≡ None) ↔ ((n : ℤ) → d.has x n → ⊥)) (ends : (x : I) → IfSome (bounds x) (AreEnds (d.has x))) where
  by_bounds : (x u : I) (v : Value) (b : Option (ℤ × ℤ)) → bounds u ≡ b → (IsEmptied d (abs.Ints x) (abs.Ints u) → ⊥) → HasValue d.has (abs.Ints x) v → (w : Value) × HasValue d.has (abs.Ints u) w
  by_bounds x u v None e kept h = absurd (kept ((v, h), none_of d u (λ k. (none u).0 e k.0 k.1)))
  by_bounds x u v (Some (low, high)) e kept h = let w : AreEnds (d.has u) (low, high) = subst (λ o. IfSome o (AreEnds (d.has u))) e (ends u) in (value.Int low, w.low_in)

  pub something_left : (y z : Abs I) (v : Value) → KeepsAddresses y z → (IsEmptied d y z → ⊥) → HasValue d.has y v → (w : Value) × HasValue d.has z w
  something_left (abs.Ints x) (abs.Ints u) v k kept h = by_bounds x u v (bounds u) refl kept h
  something_left (abs.Ints x) (abs.Addrs s) v k kept h = absurd k
  something_left (abs.Addrs s) z v k kept h = (v, subst (λ u. HasValue d.has u v) (sym k) h)
