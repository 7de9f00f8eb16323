-- What is known of expressions by other numbers before they run.
use Rattle.std.proofs.Common.{◌≡◌, ◌∙◌, ◌==◌, ◌||◌, ◌&&◌, ℕ, not, Option, Some, None, option_map, refl, ap}
use Rattle.cc_states.specs.CcSyntax.Effects.{Registers, also, Effects, PlaceEffects, only, is_soft, nothing, of_both, impure, assigned_to, plain, within, operands}

module _ (local : ℕ → ℕ) (same_number : (i j : ℕ) → (local i == local j) ≡ (i == j)) where
  -- registers by other numbers
  abbrev pub AreSame : Registers → Registers → Type 0
  AreSame s t = (λ i. s (local i)) ≡ t

  pub also_same : (a b s t : Registers) → AreSame a b → AreSame s t → AreSame (also a s) (also b t)
  also_same a b s t h k = λ j i. h j i || k j i

  pub record AreEffectsSame (a b : Effects) : Type 0 where
    pub assigned : AreSame a.assigned b.assigned
    pub pure : (s t : Registers) → AreSame s t → a.pure s ≡ b.pure t

  pub record ArePlaceEffectsSame (a b : PlaceEffects) : Type 0 where
    pub register : a.register ≡ option_map local b.register
    pub assigned : AreSame a.assigned b.assigned
    pub pure : (s t : Registers) → AreSame s t → a.pure s ≡ b.pure t

  only_by : (o : Option ℕ) → AreSame (only (option_map local o)) (only o)
  only_by None = refl
  only_by (Some n) = λ j i. same_number n i j

  pub only_same : (o q : Option ℕ) → o ≡ option_map local q → AreSame (only o) (only q)
  only_same o q e = (λ j i. only (e j) (local i)) ∙ only_by q

  soft_by : (o : Option ℕ) (s t : Registers) → AreSame s t → is_soft (option_map local o) s ≡ is_soft o t
  soft_by None s t h = refl
  soft_by (Some n) s t h = λ j. not (h j n)

  pub soft_same : (o q : Option ℕ) (s t : Registers) → o ≡ option_map local q → AreSame s t → is_soft o s ≡ is_soft q t
  soft_same o q s t e h = ap (λ x. is_soft x s) e ∙ soft_by q s t h

  pub nothing_same : AreEffectsSame nothing nothing
  nothing_same = record { assigned = refl; pure = λ s t h. refl }

  pub both_same : (a b c d : Effects) → AreEffectsSame a c → AreEffectsSame b d → AreEffectsSame (of_both a b) (of_both c d)
  both_same a b c d h k = record {
    assigned = also_same a.assigned c.assigned b.assigned d.assigned h.assigned k.assigned;
    pure = λ s t e j. h.pure s t e j && k.pure s t e j;
  }

  pub impure_same : (a b : Registers) → AreSame a b → AreEffectsSame (impure a) (impure b)
  impure_same a b h = record { assigned = h; pure = λ s t e. refl }

  pub assigned_same : (a b : PlaceEffects) (c d : Effects) → ArePlaceEffectsSame a b → AreEffectsSame c d → AreSame (assigned_to a c) (assigned_to b d)
  assigned_same a b c d h k =
      also_same (only a.register) (only b.register) (also a.assigned c.assigned) (also b.assigned d.assigned) (only_same a.register b.register h.register)
      (also_same a.assigned b.assigned c.assigned d.assigned h.assigned k.assigned)

  pub plain_same : (o q : Option ℕ) → o ≡ option_map local q → ArePlaceEffectsSame (plain o) (plain q)
  plain_same o q e = record { register = e; assigned = refl; pure = λ s t h. refl }

  pub within_same : (a b : Effects) → AreEffectsSame a b → ArePlaceEffectsSame (within a) (within b)
  within_same a b h = record { register = refl; assigned = h.assigned; pure = h.pure }

  pub operands_same : (a b : PlaceEffects) → ArePlaceEffectsSame a b → AreEffectsSame (operands a) (operands b)
  operands_same a b h = record { assigned = h.assigned; pure = h.pure }
