-- The slots that are to have fields: each is a slot that is taken, and no two are one.
use Rattle.std.proofs.Common.{◌≡◌, ◌≢◌, ◌≤◌, ◌+◌, ◌==◌, ℕ, zero, suc, Bool, true, false, if◌then◌else◌, List, [], ◌∷◌, length, All, Some, get_or, Contains, ◌++◌, slice_get, refl, subst, arith}
use Rattle.std.proofs.lemmas.Bool.{and_parts}
use Rattle.std.proofs.lemmas.List.Elements.{All-nil, All-cons, All-contains, All-weaker, Contains-append_right}
use Rattle.std.proofs.lemmas.List.Kept.{AllPairs-cons}
use Rattle.cc_bins.specs.declared.types.Want.{Want}
use Rattle.cc_bins.specs.Packed.{AreApart}
use Rattle.cc_plan_choice.specs.Fates.{is_wanted, want_of, wants_from}
use Rattle.cc_plan_legal.specs.declared.candidate.Candidate.{Candidate}
use Rattle.cc_plan_legal.specs.declared.candidate.Form.{Form}
use Rattle.cc_plan_legal.specs.declared.candidate.Form.TheVariants as form
use Rattle.cc_plan_legal.specs.Candidates.{form_number}
use Rattle.cc_plan_legal.specs.Legality.{is_among}

-- a slot as it is to be placed
pub record IsWant (slots : List Candidate) (taken : List ℕ) (x : Want) : Type 0 where
  pub candidate : Candidate
  pub there : slice_get slots x.slot ≡ Some candidate
  pub is : x ≡ want_of x.slot candidate
  pub in_form : candidate.form ≡ form.Field
  pub is_taken : is_among taken x.slot ≡ true

is_field : (f : Form) → (form_number f == 0) ≡ true → f ≡ form.Field
is_field form.Field e = refl
is_field form.Const e = absurd (cc)
is_field form.Array e = absurd (cc)

module _ (slots : List Candidate) (taken : List ℕ) where
  -- a list of slots from some number on
  AreFrom : ℕ → List Candidate → Type 0
  AreFrom n cs = (i : ℕ) (c : Candidate) → slice_get cs i ≡ Some c → slice_get slots (n + i) ≡ Some c

  from_next : (n : ℕ) (c : Candidate) (cs : List Candidate) → AreFrom n (c ∷ cs) → AreFrom (n + 1) cs
  unfolding AreFrom
  from_next n c cs h = λ i d s. let z : n + suc i ≡ n + 1 + i = omega arith in subst (λ (m : ℕ). slice_get slots m ≡ Some d) z (h (suc i) d s)

  from_here : (n : ℕ) (c : Candidate) (cs : List Candidate) → AreFrom n (c ∷ cs) → slice_get slots n ≡ Some c
  unfolding AreFrom
  from_here n c cs h = let z : n + 0 ≡ n = omega arith in subst (λ (m : ℕ). slice_get slots m ≡ Some c) z (h zero c refl)

  want_step : (n : ℕ) (c : Candidate) (rest : List Want) → slice_get slots n ≡ Some c → All (IsWant slots taken) rest → (b : Bool) → is_wanted taken n c ≡ b → All (IsWant slots taken) (if b then want_of n c ∷ rest else rest)
  want_step n c rest s h true e =
      let parts = and_parts (form_number c.form == 0) (is_among taken n) e in
      All-cons (IsWant slots taken) (want_of n c) rest (record { candidate = c; there = s; is = refl; in_form = is_field c.form parts.0; is_taken = parts.1 }) h
  want_step n c rest s h false e = h

  wants_are : (n : ℕ) (cs : List Candidate) → AreFrom n cs → All (IsWant slots taken) (wants_from taken n cs)
  wants_are n [] h = All-nil (IsWant slots taken)
  wants_are n (c ∷ cs) h = want_step n c (wants_from taken (n + 1) cs) (from_here n c cs h) (wants_are (n + 1) cs (from_next n c cs h)) (is_wanted taken n c) refl

  pub all_wants : All (IsWant slots taken) (wants_from taken 0 slots)
  unfolding AreFrom
  all_wants = wants_are 0 slots (λ i c s. let z : i ≡ 0 + i = omega arith in subst (λ (m : ℕ). slice_get slots m ≡ Some c) z s)

-- a slot that is wanted is there
module _ (taken : List ℕ) where
  low_step : (n : ℕ) (c : Candidate) (rest : List Want) → All (λ (x : Want). n + 1 ≤ x.slot) rest → (b : Bool) → All (λ (x : Want). n ≤ x.slot) (if b then want_of n c ∷ rest else rest)
  low_step n c rest h true = All-cons (λ (x : Want). n ≤ x.slot) (want_of n c) rest (omega arith) (All-weaker (λ (x : Want). n + 1 ≤ x.slot) (λ (x : Want). n ≤ x.slot) (λ x l. omega (arith, l)) rest h)
  low_step n c rest h false = All-weaker (λ (x : Want). n + 1 ≤ x.slot) (λ (x : Want). n ≤ x.slot) (λ x l. omega (arith, l)) rest h

  none_lower : (n : ℕ) (cs : List Candidate) → All (λ (x : Want). n ≤ x.slot) (wants_from taken n cs)
  none_lower n [] = All-nil (λ (x : Want). n ≤ x.slot)
  none_lower n (c ∷ cs) = low_step n c (wants_from taken (n + 1) cs) (none_lower (n + 1) cs) (is_wanted taken n c)

  apart_step : (n : ℕ) (c : Candidate) (rest : List Want) → All (λ (x : Want). n + 1 ≤ x.slot) rest → AreApart rest → (b : Bool) → AreApart (if b then want_of n c ∷ rest else rest)
  apart_step n c rest l h true =
      AllPairs-cons (λ (x y : Want). x.slot ≢ y.slot) (want_of n c) rest
      (All-weaker (λ (x : Want). n + 1 ≤ x.slot) (λ (x : Want). n ≢ x.slot) (λ x k e. absurd (omega (arith, k, e))) rest l) h
  apart_step n c rest l h false = h

  pub wants_apart : (n : ℕ) (cs : List Candidate) → AreApart (wants_from taken n cs)
  wants_apart n [] = λ i j d l k. absurd (omega (arith, k))
  wants_apart n (c ∷ cs) = apart_step n c (wants_from taken (n + 1) cs) (none_lower (n + 1) cs) (wants_apart (n + 1) cs) (is_wanted taken n c)

-- the next slot that is wanted has few bits where all have
pub next_fits : (taken : List ℕ) (n : ℕ) (cs : List Candidate) (d : Candidate) → 1 ≤ length cs → is_wanted taken n (get_or cs 0 d) ≡ true → (done all : List Want) → done ++ wants_from taken n cs ≡ all
    → All (λ (x : Want). x.bits ≤ 16) all → (get_or cs 0 d).bits ≤ 16
next_fits taken n [] d l t done all e h = absurd (omega (arith, l))
next_fits taken n (c ∷ cs) d l t done all e h =
    All-contains (λ (x : Want). x.bits ≤ 16) all (want_of n c) h
    (subst (λ (xs : List Want). Contains xs (want_of n c)) e (Contains-append_right done (wants_from taken n (c ∷ cs)) (want_of n c) (here (wants_from taken (n + 1) cs) (is_wanted taken n c) t)))
  where
    here : (rest : List Want) (b : Bool) → b ≡ true → Contains (if b then want_of n c ∷ rest else rest) (want_of n c)
    here rest true t = (0, omega arith, refl)
    here rest false t = let f : false ≡ true = t in absurd (cc)
