-- What is offered are the slots without a reason, each once, and what they gain.
use Rattle.std.proofs.Common.{◌≡◌, ◌≢◌, ◌≤◌, ◌+◌, ◌*◌, ◌-◌, ◌^◌, ◌∙◌, ◌==◌, ◌||◌, ℕ, zero, suc, Bool, true, false, if◌then◌else◌, List, [], ◌∷◌, length, get_or, Contains, ◌++◌, mul_assoc, mul_comm, All, Option, Some, None, slice_get, refl, ap, subst, arith}
use Rattle.std.specs.Option.{is_none}
use Rattle.std.proofs.lemmas.Bool.{or_right}
use Rattle.std.proofs.lemmas.Bool.Decides.{nat_tests}
use Rattle.std.proofs.lemmas.List.Elements.{All-nil, All-cons, All-contains, All-head, All-tail, All-weaker, Contains-append_right}
use Rattle.std.proofs.lemmas.List.Kept.{AllPairs-cons}
use Rattle.std.proofs.lemmas.Nat.{mul-le}
use Rattle.cc_cost_ranking.specs.declared.costs.Cost.{Cost}
use Rattle.cc_cost_ranking.specs.declared.types.Costed.{Costed}
use Rattle.cc_cost_ranking.specs.Ranking.{AreApart}
use Rattle.cc_plan_choice.specs.Choice.{AreOffers, IsFree, is_offered}
use Rattle.cc_plan_legal.specs.declared.candidate.Candidate.{Candidate}
use Rattle.cc_plan_offers.specs.Offers.{bits_by, cost_at, gain_of, offer_of, offers_from}

is_same : (a b : ℕ) → a ≡ b → (a == b) ≡ true
is_same a b h = grind (arith, nat_tests)

no_value : {X : Type 0} (o : Option X) → is_none o ≡ true → o ≡ None
no_value None t = refl
no_value (Some x) t = let e : false ≡ true = t in absurd (cc)

is_no_value : {X : Type 0} (o : Option X) → o ≡ None → is_none o ≡ true
is_no_value o e = ap is_none e

module _ (costs : List Cost) where
  -- ---- each once

  low_step : (n : ℕ) (c : Candidate) (rest : List Costed) → All (λ (o : Costed). n + 1 ≤ o.slot) rest → (b : Bool) → All (λ (o : Costed). n ≤ o.slot) (if b then offer_of n c (cost_at costs n) ∷ rest else rest)
  low_step n c rest h true = All-cons (λ (o : Costed). n ≤ o.slot) (offer_of n c (cost_at costs n)) rest (omega arith) (All-weaker (λ (o : Costed). n + 1 ≤ o.slot) (λ (o : Costed). n ≤ o.slot) (λ o l. omega (arith, l)) rest h)
  low_step n c rest h false = All-weaker (λ (o : Costed). n + 1 ≤ o.slot) (λ (o : Costed). n ≤ o.slot) (λ o l. omega (arith, l)) rest h

  none_lower : (n : ℕ) (cs : List Candidate) → All (λ (o : Costed). n ≤ o.slot) (offers_from costs n cs)
  none_lower n [] = All-nil (λ (o : Costed). n ≤ o.slot)
  none_lower n (c ∷ cs) = low_step n c (offers_from costs (n + 1) cs) (none_lower (n + 1) cs) (is_none c.reason)

  apart_step : (n : ℕ) (c : Candidate) (rest : List Costed) → All (λ (o : Costed). n + 1 ≤ o.slot) rest → AreApart rest → (b : Bool) → AreApart (if b then offer_of n c (cost_at costs n) ∷ rest else rest)
  apart_step n c rest l h true =
      AllPairs-cons (λ (x y : Costed). x.slot ≢ y.slot) (offer_of n c (cost_at costs n)) rest
      (All-weaker (λ (o : Costed). n + 1 ≤ o.slot) (λ (o : Costed). n ≢ o.slot) (λ o k e. absurd (omega (arith, k, e))) rest l) h
  apart_step n c rest l h false = h

  offers_apart : (n : ℕ) (cs : List Candidate) → AreApart (offers_from costs n cs)
  offers_apart n [] = λ i j d l k. absurd (omega (arith, k))
  offers_apart n (c ∷ cs) = apart_step n c (offers_from costs (n + 1) cs) (none_lower (n + 1) cs) (offers_apart (n + 1) cs) (is_none c.reason)

  -- ---- without a reason

  module _ (slots : List Candidate) where
    AreFrom : ℕ → List Candidate → Type 0
    AreFrom n cs = (i : ℕ) (c : Candidate) → slice_get cs i ≡ Some c → slice_get slots (n + i) ≡ Some c

    from_next : (n : ℕ) (c : Candidate) (cs : List Candidate) → AreFrom n (c ∷ cs) → AreFrom (n + 1) cs
    unfolding AreFrom
    from_next n c cs h = λ i d s. let z : n + suc i ≡ n + 1 + i = omega arith in subst (λ (m : ℕ). slice_get slots m ≡ Some d) z (h (suc i) d s)

    from_here : (n : ℕ) (c : Candidate) (cs : List Candidate) → AreFrom n (c ∷ cs) → slice_get slots n ≡ Some c
    unfolding AreFrom
    from_here n c cs h = let z : n + 0 ≡ n = omega arith in subst (λ (m : ℕ). slice_get slots m ≡ Some c) z (h zero c refl)

    free_step : (n : ℕ) (c : Candidate) (rest : List Costed) → slice_get slots n ≡ Some c → All (λ (o : Costed). IsFree slots o.slot) rest → (b : Bool) → is_none c.reason ≡ b
        → All (λ (o : Costed). IsFree slots o.slot) (if b then offer_of n c (cost_at costs n) ∷ rest else rest)
    free_step n c rest s h true e = All-cons (λ (o : Costed). IsFree slots o.slot) (offer_of n c (cost_at costs n)) rest (record { candidate = c; there = s; free = no_value c.reason e }) h
    free_step n c rest s h false e = h

    offers_free : (n : ℕ) (cs : List Candidate) → AreFrom n cs → All (λ (o : Costed). IsFree slots o.slot) (offers_from costs n cs)
    offers_free n [] h = All-nil (λ (o : Costed). IsFree slots o.slot)
    offers_free n (c ∷ cs) h = free_step n c (offers_from costs (n + 1) cs) (from_here n c cs h) (offers_free (n + 1) cs (from_next n c cs h)) (is_none c.reason) refl

    all_free : All (λ (o : Costed). IsFree slots o.slot) (offers_from costs 0 slots)
    unfolding AreFrom
    all_free = offers_free 0 slots (λ i c s. let z : i ≡ 0 + i = omega arith in subst (λ (m : ℕ). slice_get slots m ≡ Some c) z s)

  -- ---- all of them

  here_step : (n m : ℕ) (c : Candidate) (rest : List Costed) → n ≡ m → (b : Bool) → b ≡ true → is_offered (if b then offer_of n c (cost_at costs n) ∷ rest else rest) m ≡ true
  here_step n m c rest e true t = ap (λ (b : Bool). b || is_offered rest m) (is_same n m e)
  here_step n m c rest e false t = let f : false ≡ true = t in absurd (cc)

  behind_step : (n m : ℕ) (c : Candidate) (rest : List Costed) → is_offered rest m ≡ true → (b : Bool) → is_offered (if b then offer_of n c (cost_at costs n) ∷ rest else rest) m ≡ true
  behind_step n m c rest h true = or_right (n == m) (is_offered rest m) h
  behind_step n m c rest h false = h

  offered_from : (n : ℕ) (cs : List Candidate) (i : ℕ) (c : Candidate) → slice_get cs i ≡ Some c → is_none c.reason ≡ true → is_offered (offers_from costs n cs) (n + i) ≡ true
  offered_from n [] i c s t = let f : None ≡ Some c = s in absurd (cc)
  offered_from n (d ∷ cs) zero c s t =
      let f : Some d ≡ Some c = s in
      let k : d ≡ c = cc in
      let z : n ≡ n + 0 = omega arith in
      here_step n (n + 0) d (offers_from costs (n + 1) cs) z (is_none d.reason) (ap (λ (x : Candidate). is_none x.reason) k ∙ t)
  offered_from n (d ∷ cs) (suc i) c s t =
      let z : n + 1 + i ≡ n + suc i = omega arith in
      behind_step n (n + suc i) d (offers_from costs (n + 1) cs) (subst (λ (m : ℕ). is_offered (offers_from costs (n + 1) cs) m ≡ true) z (offered_from (n + 1) cs i c s t)) (is_none d.reason)

  pub are_offers : (slots : List Candidate) → AreOffers slots (offers_from costs 0 slots)
  are_offers slots = record {
    apart = offers_apart 0 slots;
    free = all_free slots;
    complete = λ n c s e. let z : 0 + n ≡ n = omega arith in subst (λ (m : ℕ). is_offered (offers_from costs 0 slots) m ≡ true) z (offered_from 0 slots n c s (is_no_value c.reason e));
  }

-- ---- gains

pub gain_within : (saved bytes count : ℕ) → saved ≤ 8 * bytes → saved * count ≤ 8 * (count * bytes)
gain_within saved bytes count l =
    let a = mul-le saved count (8 * bytes) count l (omega arith) in
    let b : 8 * bytes * count ≡ 8 * (count * bytes) = mul_assoc 8 bytes count ∙ ap (λ (n : ℕ). 8 * n) (mul_comm bytes count) in
    omega (arith, a, b)

gain_small : (c : Candidate) → gain_of c ≤ 8 * (c.count * c.bytes)
gain_small c = gain_within (8 * c.bytes - bits_by c.form c.bits) c.bytes c.count (omega arith)

small_step : (costs : List Cost) (n : ℕ) (c : Candidate) (rest : List Costed) → c.count * c.bytes ≤ 2 ^ 35 → All (λ (o : Costed). o.gain ≤ 2 ^ 40) rest → (b : Bool)
    → All (λ (o : Costed). o.gain ≤ 2 ^ 40) (if b then offer_of n c (cost_at costs n) ∷ rest else rest)
small_step costs n c rest l h true = let small = gain_small c in All-cons (λ (o : Costed). o.gain ≤ 2 ^ 40) (offer_of n c (cost_at costs n)) rest (omega (arith, small, l)) h
small_step costs n c rest l h false = h

pub each_within : (costs : List Cost) (n : ℕ) (cs : List Candidate) → All (λ (c : Candidate). c.count * c.bytes ≤ 2 ^ 35) cs → All (λ (o : Costed). o.gain ≤ 2 ^ 40) (offers_from costs n cs)
each_within costs n [] h = All-nil (λ (o : Costed). o.gain ≤ 2 ^ 40)
each_within costs n (c ∷ cs) h =
    small_step costs n c (offers_from costs (n + 1) cs) (All-head (λ (x : Candidate). x.count * x.bytes ≤ 2 ^ 35) c cs h)
    (each_within costs (n + 1) cs (All-tail (λ (x : Candidate). x.count * x.bytes ≤ 2 ^ 35) c cs h)) (is_none c.reason)

-- the next slot that is offered gains little where all do
pub next_fits : (costs : List Cost) (n : ℕ) (cs : List Candidate) (d : Candidate) → 1 ≤ length cs → is_none (get_or cs 0 d).reason ≡ true → (done all : List Costed) → done ++ offers_from costs n cs ≡ all
    → All (λ (o : Costed). o.gain ≤ 2 ^ 40) all → gain_of (get_or cs 0 d) ≤ 2 ^ 40
next_fits costs n [] d l t done all e h = absurd (omega (arith, l))
next_fits costs n (c ∷ cs) d l t done all e h =
    All-contains (λ (o : Costed). o.gain ≤ 2 ^ 40) all (offer_of n c (cost_at costs n)) h
    (subst (λ (xs : List Costed). Contains xs (offer_of n c (cost_at costs n))) e (Contains-append_right done (offers_from costs n (c ∷ cs)) (offer_of n c (cost_at costs n)) (here (offers_from costs (n + 1) cs) (is_none c.reason) t)))
  where
    here : (rest : List Costed) (b : Bool) → b ≡ true → Contains (if b then offer_of n c (cost_at costs n) ∷ rest else rest) (offer_of n c (cost_at costs n))
    here rest true t = (0, omega arith, refl)
    here rest false t = let f : false ≡ true = t in absurd (cc)
