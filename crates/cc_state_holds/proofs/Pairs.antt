-- Numbers by their positions, and what registers and tracked objects hold.
use Rattle.std.proofs.Common.{◌≡◌, ℕ, Bool, true, List, Option, Some, None, refl, ap, sym, ◌∙◌, subst, slice_get}
use Rattle.std.specs.Prelude.{◌↔◌, ◌==◌, IsTrue, position}
use Rattle.std.proofs.lemmas.Option.{same_Some, none-some}
use Rattle.cc_cells.specs.Cells.{scalar_in}
use Rattle.cc_program.specs.declared.func.Func.{Func}
use Rattle.cc_program.specs.declared.program.Program.{Program}
use Rattle.cc_program.specs.declared.value.Value.{Value}
use Rattle.cc_state.proofs.Lists.{number_at}
use Rattle.cc_state_holds.specs.Parts.{good, IsAtCell, IsPairHeld}
use Rattle.cc_state_reads.specs.CcStateKeys.Tracked.{registers, tracked}

-- ---- the number that has a position

abbrev pub IsAt : List ℕ → ℕ → ℕ → Type 0
IsAt xs n r = position (λ m. m == r) xs ≡ Some n

module _ (xs : List ℕ) (n : ℕ) where
  pub numbered_none : None ≡ slice_get xs n → (r : ℕ) → IsAt xs n r ↔ (None ≡ Some r)
  numbered_none e r = ((λ h. absurd (none-some r (e ∙ number_at xs r n h))), (λ h. absurd (none-some r h)))

  pub numbered_first : (q : ℕ) → Some q ≡ slice_get xs n → IsAt xs n q → (r : ℕ) → IsAt xs n r ↔ (Some q ≡ Some r)
  numbered_first q e is r = ((λ h. e ∙ number_at xs r n h), (λ h. subst (λ (m : ℕ). IsAt xs n m) (same_Some q r h) is))

  pub numbered_later : (q : ℕ) → Some q ≡ slice_get xs n → (IsAt xs n q → ⊥) → (r : ℕ) → IsAt xs n r ↔ (None ≡ Some r)
  numbered_later q e not r = ((λ h. absurd (not (subst (λ (m : ℕ). IsAt xs n m) (sym (same_Some q r (e ∙ number_at xs r n h))) h))), (λ h. absurd (none-some r h)))

-- ---- tracked objects and registers

module _ (p : Program) (xs : List ℕ) (are : xs ≡ tracked p) (n : ℕ) (held : Option Value) (statics : List (List Value)) where
  pub no_cell : ((i : ℕ) → IsAt xs n i ↔ (None ≡ Some i)) → IsTrue true ↔ IsAtCell p n held statics
  no_cell h = ((λ t i x at is. absurd (none-some i ((h i).0 (subst (λ (ys : List ℕ). IsAt ys n i) (sym are) at)))), (λ k. refl))

  pub some_cell : (i : ℕ) (other : Option Value) (b : Bool) → ((j : ℕ) → IsAt xs n j ↔ (Some i ≡ Some j)) → other ≡ scalar_in statics i 0 → IsTrue b ↔ ((x : Value) → held ≡ Some x → other ≡ Some x) → IsTrue b ↔ IsAtCell p n held statics
  some_cell i other b h e k = (to, back)
    where
      to : IsTrue b → IsAtCell p n held statics
      to t j x at is = subst (λ (m : ℕ). scalar_in statics m 0 ≡ Some x) (same_Some i j ((h j).0 (subst (λ (ys : List ℕ). IsAt ys n j) (sym are) at))) (sym e ∙ k.0 t x is)

      back : IsAtCell p n held statics → IsTrue b
      back w = k.1 (λ x is. e ∙ w i x (subst (λ (ys : List ℕ). IsAt ys n i) are ((h i).1 refl)) is)

module _ (p : Program) (f : Func) (xs : List ℕ) (are : xs ≡ registers f) (pair : ℕ × ℕ) (values : ℕ → Option (Option Value)) (statics : List (List Value)) where
  pub no_register : ((r : ℕ) → IsAt xs pair.0 r ↔ (None ≡ Some r)) → IsTrue true ↔ IsPairHeld p f pair values statics
  no_register h = ((λ t r i x at there is. absurd (none-some r ((h r).0 (subst (λ (ys : List ℕ). IsAt ys pair.0 r) (sym are) at)))), (λ k. refl))

  pub some_register : (r : ℕ) (held : Option Value) (b : Bool) → ((q : ℕ) → IsAt xs pair.0 q ↔ (Some r ≡ Some q)) → held ≡ good (values r) → IsTrue b ↔ IsAtCell p pair.1 held statics → IsTrue b ↔ IsPairHeld p f pair values statics
  some_register r held b h e k = (to, back)
    where
      to : IsTrue b → IsPairHeld p f pair values statics
      to t q i x at there is =
          let same : q ≡ r = sym (same_Some r q ((h q).0 (subst (λ (ys : List ℕ). IsAt ys pair.0 q) (sym are) at))) in
          k.0 t i x there (e ∙ (ap (λ (m : ℕ). good (values m)) (sym same) ∙ is))

      back : IsPairHeld p f pair values statics → IsTrue b
      back w = k.1 (λ i x there is. w r i x (subst (λ (ys : List ℕ). IsAt ys pair.0 r) are ((h r).1 refl)) there (sym e ∙ is))
