-- The values of a key, as far as loops over objects and their scalars have come.
use Rattle.std.proofs.Common.{arith, ◌≡◌, ◌<◌, ◌≤◌, ◌+◌, ◌⊎◌, inl, inr, ℕ, zero, suc, List, length, Option, Some, None, slice_get, refl, ap, sym, ◌∙◌}
use Rattle.std.specs.Prelude.{option_and_then}
use Rattle.std.proofs.lemmas.Option.{same_Some, slice_get_within}
use Rattle.cc_rules_asked.specs.CcCells.Cells.{scalar_in}
use Rattle.cc_program.specs.declared.value.Value.{Value}
use Rattle.cc_rules_firsts.specs.Firsts.{IsOwn, IsAmong, IsFirstIn}
use Rattle.cc_rules_asked.specs.CcStateFacts.declared.facts.Key.{Key}

pub below_or_last : (n i : ℕ) → n < i + 1 → (n < i) ⊎ (n ≡ i)
below_or_last zero zero h = inr refl
below_or_last zero (suc i) h = inl (omega arith)
below_or_last (suc n) zero h = absurd (omega (arith, h))
below_or_last (suc n) (suc i) h = on (below_or_last n i (omega (arith, h)))
  where
    on : (n < i) ⊎ (n ≡ i) → (suc n < suc i) ⊎ (suc n ≡ suc i)
    on (inl l) = inl (omega (arith, l))
    on (inr e) = inr (ap suc e)

-- ---- the scalars of an object

module _ (keys : List Key) (values : List Value) where
  -- among the first ones
  abbrev pub IsAmongFirst : ℕ → Key → Value → Type 0
  IsAmongFirst i k v = (n : ℕ) × (n < i) × (slice_get keys n ≡ Some k) × (slice_get values n ≡ Some v)

  pub none_among : (k : Key) (v : Value) → IsAmongFirst 0 k v → ⊥
  none_among k v (n, l, e, g) = omega (arith, l)

  module _ (i : ℕ) (own : Key) (here : slice_get keys i ≡ Some own) where
    split_by : (k : Key) (v : Value) (n : ℕ) → slice_get keys n ≡ Some k → slice_get values n ≡ Some v → (n < i) ⊎ (n ≡ i) → IsAmongFirst i k v ⊎ IsOwn own (slice_get values i) k v
    split_by k v n e g (inl l) = inl (n, l, e, g)
    split_by k v n e g (inr q) = inr (same_Some own k (sym here ∙ (ap (slice_get keys) (sym q) ∙ e)), ap (slice_get values) (sym q) ∙ g)

    pub among_split : (k : Key) (v : Value) → IsAmongFirst (i + 1) k v → IsAmongFirst i k v ⊎ IsOwn own (slice_get values i) k v
    among_split k v (n, l, e, g) = split_by k v n e g (below_or_last n i l)

    pub among_before : (k : Key) (v : Value) → IsAmongFirst i k v → IsAmongFirst (i + 1) k v
    among_before k v (n, l, e, g) = (n, omega (arith, l), e, g)

    pub among_here : (k : Key) (v : Value) → IsOwn own (slice_get values i) k v → IsAmongFirst (i + 1) k v
    among_here k v (e, g) = (i, omega arith, here ∙ ap Some e, g)

    pub own_among : (k : Key) (v : Value) → IsOwn own (slice_get values i) k v → IsAmong keys values k v
    own_among k v (e, g) = (i, here ∙ ap Some e, g)

  pub among_first : (i : ℕ) → length keys ≤ i → (k : Key) (v : Value) → IsAmong keys values k v → IsAmongFirst i k v
  among_first i past k v (n, e, g) = let l = slice_get_within keys n k e in (n, omega (arith, l, past), e, g)

  pub among_all : (i : ℕ) (k : Key) (v : Value) → IsAmongFirst i k v → IsAmong keys values k v
  among_all i k v (n, l, e, g) = (n, e, g)

-- ---- the objects

module _ (keys : List (List Key)) (values : List (List Value)) where
  abbrev pub IsInFirst : ℕ → Key → Value → Type 0
  IsInFirst i k v = (o n : ℕ) × (o < i) × (scalar_in keys o n ≡ Some k) × (scalar_in values o n ≡ Some v)

  pub none_in_first : (k : Key) (v : Value) → IsInFirst 0 k v → ⊥
  none_in_first k v (o, n, l, e, g) = omega (arith, l)

  pub in_first : (i : ℕ) → length keys ≤ i → (k : Key) (v : Value) → IsFirstIn keys values k v → IsInFirst i k v
  in_first i past k v (o, n, e, g) = (o, n, by (slice_get keys o) refl e, e, g)
    where
      by : (x : Option (List Key)) → slice_get keys o ≡ x → option_and_then (λ (scalars : List Key). slice_get scalars n) x ≡ Some k → o < i
      by None h e = absurd (cc)
      by (Some list) h e = let l = slice_get_within keys o list h in omega (arith, l, past)

  pub in_all : (i : ℕ) (k : Key) (v : Value) → IsInFirst i k v → IsFirstIn keys values k v
  in_all i k v (o, n, l, e, g) = (o, n, e, g)

  module _ (i : ℕ) (own : List Key) (scalars : List Value) (here : slice_get keys i ≡ Some own) (there : slice_get values i ≡ Some scalars) where
    key_here : (n : ℕ) → scalar_in keys i n ≡ slice_get own n
    key_here n = ap (λ (x : Option (List Key)). option_and_then (λ (scalars : List Key). slice_get scalars n) x) here

    value_here : (n : ℕ) → scalar_in values i n ≡ slice_get scalars n
    value_here n = ap (λ (x : Option (List Value)). option_and_then (λ (scalars : List Value). slice_get scalars n) x) there

    split_in : (k : Key) (v : Value) (o n : ℕ) → scalar_in keys o n ≡ Some k → scalar_in values o n ≡ Some v → (o < i) ⊎ (o ≡ i) → IsInFirst i k v ⊎ IsAmong own scalars k v
    split_in k v o n e g (inl l) = inl (o, n, l, e, g)
    split_in k v o n e g (inr q) =
        inr (n, sym (key_here n) ∙ (ap (λ (o : ℕ). scalar_in keys o n) (sym q) ∙ e), sym (value_here n) ∙ (ap (λ (o : ℕ). scalar_in values o n) (sym q) ∙ g))

    pub in_split : (k : Key) (v : Value) → IsInFirst (i + 1) k v → IsInFirst i k v ⊎ IsAmong own scalars k v
    in_split k v (o, n, l, e, g) = split_in k v o n e g (below_or_last o i l)

    pub in_before : (k : Key) (v : Value) → IsInFirst i k v → IsInFirst (i + 1) k v
    in_before k v (o, n, l, e, g) = (o, n, omega (arith, l), e, g)

    pub in_here : (k : Key) (v : Value) → IsAmong own scalars k v → IsInFirst (i + 1) k v
    in_here k v (n, e, g) = (i, n, omega arith, key_here n ∙ e, value_here n ∙ g)

    pub among_in : (k : Key) (v : Value) → IsAmong own scalars k v → IsFirstIn keys values k v
    among_in k v (n, e, g) = (i, n, key_here n ∙ e, value_here n ∙ g)
