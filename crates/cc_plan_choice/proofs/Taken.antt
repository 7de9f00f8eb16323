-- What is taken was offered, and is free.
use Rattle.std.proofs.Common.{◌≡◌, ◌++◌, ◌∙◌, ◌==◌, ◌||◌, ◌⊎◌, inl, inr, ⊎_elim, ℕ, suc, Bool, true, false, if◌then◌else◌, List, [], ◌∷◌, fold, Contains, IsPermutation, Some, slice_get, refl, ap, subst, arith}
use Rattle.std.proofs.lemmas.Bool.{or_cases}
use Rattle.std.proofs.lemmas.Bool.Decides.{nat_tests}
use Rattle.std.proofs.lemmas.List.Elements.{All-contains}
use Rattle.std.proofs.lemmas.List.Sorted.{list_any-IsPermutation, Contains-permutation, IsPermutation-sym}
use Rattle.std.proofs.lemmas.Option.{slice_get-get_or, slice_get_within, get_or_from_slice_get}
use Rattle.cc_cost_ranking.specs.declared.types.Budgets.{Budgets}
use Rattle.cc_cost_ranking.specs.declared.types.Costed.{Costed}
use Rattle.cc_cost_ranking.specs.declared.types.Weights.{Weights}
use Rattle.cc_cost_ranking.specs.Ranking.{IsRanking, Taken, are_within, nothing, take_one, taken_of, with_one}
use Rattle.cc_plan_choice.specs.Choice.{AreOffers, IsFree, is_offered}
use Rattle.cc_plan_legal.specs.declared.candidate.Candidate.{Candidate}
use Rattle.cc_plan_legal.specs.Legality.{is_among}
use Rattle.cc_plan_legal.proofs.Options.{any_at, any_passes}

same_true : (a b : ℕ) → (a == b) ≡ true → a ≡ b
same_true a b h = grind (arith, nat_tests)

is_same : (a b : ℕ) → a ≡ b → (a == b) ≡ true
is_same a b h = grind (arith, nat_tests)

-- an element, by its place
pub is_in : {X : Type 0} (xs : List X) (j : ℕ) (x : X) → slice_get xs j ≡ Some x → Contains xs x
is_in xs j x s = (j, slice_get_within xs j x s, get_or_from_slice_get xs j x x s)

pub place_in : {X : Type 0} (xs : List X) (x : X) → Contains xs x → (j : ℕ) × (slice_get xs j ≡ Some x)
place_in xs x c = (c.0, slice_get-get_or xs c.0 x c.1 ∙ ap Some c.2)

-- an offer of this slot
record IsOf (offers : List Costed) (slot : ℕ) : Type 0 where
  offer : Costed
  there : Contains offers offer
  same : offer.slot ≡ slot

last_cases : (n slot : ℕ) → ((n == slot) ≡ true) ⊎ (false ≡ true) → (false ≡ true) ⊎ (n ≡ slot)
last_cases n slot (inl e) = inr (same_true n slot e)
last_cases n slot (inr e) = inl e

first_step : (slots : List ℕ) (n slot : ℕ) (b : Bool) → b || is_among (slots ++ n ∷ []) slot ≡ true → (is_among (slots ++ n ∷ []) slot ≡ true → (is_among slots slot ≡ true) ⊎ (n ≡ slot))
    → (b || is_among slots slot ≡ true) ⊎ (n ≡ slot)
first_step slots n slot true h more = inl refl
first_step slots n slot false h more = more h

of_last : (slots : List ℕ) (n slot : ℕ) → is_among (slots ++ n ∷ []) slot ≡ true → (is_among slots slot ≡ true) ⊎ (n ≡ slot)
of_last [] n slot h = last_cases n slot (or_cases (n == slot) false h)
of_last (m ∷ slots) n slot h = first_step slots n slot (m == slot) h (λ k. of_last slots n slot k)

module _ (budgets : Budgets) (slot : ℕ) where
  one_taken : (taken : Taken) (c : Costed) (b : Bool) → is_among (if b then with_one taken c else taken).slots slot ≡ true → (is_among taken.slots slot ≡ true) ⊎ (c.slot ≡ slot)
  one_taken taken c true h = of_last taken.slots c.slot slot h
  one_taken taken c false h = inl h

  all_taken : (order : List Costed) (taken : Taken) → is_among (fold (take_one budgets) taken order).slots slot ≡ true → (is_among taken.slots slot ≡ true) ⊎ IsOf order slot
  all_taken [] taken h = inl h
  all_taken (c ∷ order) taken h =
      ⊎_elim
      (λ (k : is_among (take_one budgets taken c).slots slot ≡ true). ⊎_elim
      (λ (m : is_among taken.slots slot ≡ true). inl m)
      (λ (e : c.slot ≡ slot). inr (record { offer = c; there = (0, omega arith, refl); same = e }))
      (one_taken taken c (are_within budgets (with_one taken c)) k))
      (λ (m : IsOf order slot). inr (record { offer = m.offer; there = (suc m.there.0, omega (arith, m.there.1), m.there.2); same = m.same }))
      (all_taken order (take_one budgets taken c) h)

  none_before : (is_among nothing.slots slot ≡ true) ⊎ IsOf [] slot → ⊥
  none_before (inl h) = absurd (cc)
  none_before (inr m) = absurd (omega (arith, m.there.1))

module _ (weights : Weights) (budgets : Budgets) (offers : List Costed) (ranked : List ℕ) (ranking : IsRanking weights budgets offers ranked) (taken : List ℕ) (permuted : IsPermutation ranked taken) where
  its_offer : (slot : ℕ) → is_among taken slot ≡ true → IsOf offers slot
  its_offer slot h =
      let there : is_among ranked slot ≡ true = list_any-IsPermutation (λ (other : ℕ). other == slot) ranked taken permuted ∙ h in
      let moved : is_among (taken_of budgets ranking.order).slots slot ≡ true = subst (λ (xs : List ℕ). is_among xs slot ≡ true) ranking.taken there in
      ⊎_elim
      (λ (k : is_among nothing.slots slot ≡ true). absurd (none_before budgets slot (inl k)))
      (λ (m : IsOf ranking.order slot). record { offer = m.offer; there = Contains-permutation ranking.order offers m.offer (IsPermutation-sym offers ranking.order ranking.permuted) m.there; same = m.same })
      (all_taken budgets slot ranking.order nothing moved)

  -- what is taken was offered
  pub was_offered : (slot : ℕ) → is_among taken slot ≡ true → is_offered offers slot ≡ true
  was_offered slot h =
      let m = its_offer slot h in
      let at = place_in offers m.offer m.there in
      any_at (λ (o : Costed). o.slot == slot) offers at.0 m.offer at.1 (is_same m.offer.slot slot m.same)

-- what is offered is free
pub is_free : (slots : List Candidate) (offers : List Costed) → AreOffers slots offers → (slot : ℕ) → is_offered offers slot ≡ true → IsFree slots slot
is_free slots offers h slot o =
    let m = any_passes (λ (o : Costed). o.slot == slot) offers o in
    subst (IsFree slots) (same_true m.1.slot slot m.3) (All-contains (λ (o : Costed). IsFree slots o.slot) offers m.1 h.free (is_in offers m.0 m.1 m.2))
