-- What the answers of packing and of runs are not.
use Rattle.std.proofs.Common.{◌≡◌, ◌≤◌, ◌<◌, ◌⊎◌, inl, inr, ℕ, List, nat_lt, true, false, refl, sym, ap, subst, ◌∙◌, arith}
use Rattle.std.proofs.lemmas.Bool.{cases_lt}
use Rattle.std.proofs.lemmas.Bool.Decides.{nat_tests}
use Rattle.std.specs.Prelude.{◌≢◌}
use Rattle.cc_cost.specs.declared.fault.ProfileFault.{ProfileFault}
use Rattle.cc_cost.specs.declared.fault.ProfileFault.TheVariants as fault
use Rattle.cc_packing.specs.Ends.{is_pack_refusal}
use Rattle.cc_read.specs.declared.refusal.ReadRefusal.{ReadRefusal}
use Rattle.cc_read.specs.declared.refusal.ReadRefusal.TheVariants as why
use Rattle.cc_simulation.specs.Asked.{Asked as Simulated}
use Rattle.cc_simulation.specs.Ends.{is_run_refusal}
use Rattle.cc_status.specs.Statuses.{may_write, is_of_files, is_over}
use Rattle.cc_status.specs.declared.status.Status.{Status}
use Rattle.cc_status.specs.declared.status.Status.TheVariants as status
use Rattle.cc_status.specs.declared.status.What.{What}
use Rattle.cc_status.specs.declared.status.What.TheVariants as what
use Rattle.ccomp.specs.Command.{IsRunLimit}

-- ---- packing

module _ (s : Status) (h : may_write s ≡ false → is_pack_refusal s ≡ true) where
  pub no-usage : (word : List ℕ) → s ≡ status.Usage word → ⊥
  no-usage word e = let k : is_pack_refusal (status.Usage word) ≡ true = ap is_pack_refusal (sym e) ∙ h (ap may_write e) in absurd (cc)

  pub over : (what : What) (number : ℕ) → s ≡ status.Limit what number → is_over what number ≡ true
  over what number e = ap is_pack_refusal (sym e) ∙ h (ap may_write e)

  pub no-inputs : (row : ℕ) → s ≡ status.Inputs row → ⊥
  no-inputs row e = let k : is_pack_refusal (status.Inputs row) ≡ true = ap is_pack_refusal (sym e) ∙ h (ap may_write e) in absurd (cc)

  pub no-arrivals : (row : ℕ) → s ≡ status.Arrivals row → ⊥
  no-arrivals row e = let k : is_pack_refusal (status.Arrivals row) ≡ true = ap is_pack_refusal (sym e) ∙ h (ap may_write e) in absurd (cc)

  pub no-memory : (name : List ℕ) (w : ReadRefusal) → s ≡ status.Refused name w → w ≢ why.NoMemory
  no-memory name w e m = let k : is_pack_refusal (status.Refused name why.NoMemory) ≡ true = ap is_pack_refusal (sym (e ∙ ap (status.Refused name) m)) ∙ h (ap may_write e) in absurd (cc)

  pub no-memory-of-profile : (f : ProfileFault) → s ≡ status.Profile f → f ≢ fault.NoMemory
  no-memory-of-profile f e m = let k : is_pack_refusal (status.Profile fault.NoMemory) ≡ true = ap is_pack_refusal (sym (e ∙ ap status.Profile m)) ∙ h (ap may_write e) in absurd (cc)

-- ---- runs

-- an answer of a run: of the steps, where there are too many, or else one that has another cause
pub run-answer : (a : Simulated) (s : Status) → (1000000 < a.steps → s ≡ status.Limit what.Steps a.steps) → (may_write s ≡ false → a.steps ≤ 1000000 → is_run_refusal s ≡ true) → may_write s ≡ false →
    ((1000000 < a.steps) × (s ≡ status.Limit what.Steps a.steps)) ⊎ (is_run_refusal s ≡ true)
run-answer a s many h w = by_cases (cases_lt 1000000 a.steps)
  where
    by_cases : (1000000 < a.steps) ⊎ (a.steps ≤ 1000000) → ((1000000 < a.steps) × (s ≡ status.Limit what.Steps a.steps)) ⊎ (is_run_refusal s ≡ true)
    by_cases (inl k) = inl (k, many k)
    by_cases (inr k) = inr (h w k)

module _ (a : Simulated) (s : Status) (many : 1000000 < a.steps → s ≡ status.Limit what.Steps a.steps) (h : may_write s ≡ false → a.steps ≤ 1000000 → is_run_refusal s ≡ true) where
  -- no answer for which a run has none
  other : (t : Status) → s ≡ t → may_write t ≡ false → (status.Limit what.Steps a.steps ≡ t → ⊥) → (is_run_refusal t ≡ true → ⊥) → ⊥
  other t e w no-steps no-refusal = by_cases (run-answer a s many h (ap may_write e ∙ w))
    where
      by_cases : ((1000000 < a.steps) × (s ≡ status.Limit what.Steps a.steps)) ⊎ (is_run_refusal s ≡ true) → ⊥
      by_cases (inl k) = no-steps (sym k.1 ∙ e)
      by_cases (inr k) = no-refusal (ap is_run_refusal (sym e) ∙ k)

  pub run-no-usage : (word : List ℕ) → s ≡ status.Usage word → ⊥
  run-no-usage word e = other (status.Usage word) e refl (λ k. absurd (cc)) (λ k. absurd (cc))

  pub run-no-memory : (name : List ℕ) (w : ReadRefusal) → s ≡ status.Refused name w → w ≢ why.NoMemory
  run-no-memory name w e m = other (status.Refused name why.NoMemory) (e ∙ ap (status.Refused name) m) refl (λ k. absurd (cc)) (λ k. absurd (cc))

  pub run-no-memory-of-profile : (f : ProfileFault) → s ≡ status.Profile f → f ≢ fault.NoMemory
  run-no-memory-of-profile f e m = other (status.Profile fault.NoMemory) (e ∙ ap status.Profile m) refl (λ k. absurd (cc)) (λ k. absurd (cc))

  over-run : (w : What) (n : ℕ) → is_run_refusal (status.Limit w n) ≡ true → IsRunLimit a w n
  over-run what.Count n k = absurd (cc)
  over-run what.Steps n k = absurd (cc)
  over-run what.Functions n k = grind (arith, nat_tests, k)
  over-run what.Ram n k = grind (arith, nat_tests, k)
  over-run what.Out n k = absurd (cc)

  over-steps : (w : What) (n : ℕ) → 1000000 < a.steps → status.Limit what.Steps a.steps ≡ status.Limit w n → IsRunLimit a w n
  over-steps what.Count n k e = absurd (cc)
  over-steps what.Steps n k e = let is : n ≡ a.steps = cc in (is, omega (arith, is, k))
  over-steps what.Functions n k e = absurd (cc)
  over-steps what.Ram n k e = absurd (cc)
  over-steps what.Out n k e = absurd (cc)

  pub run-limit : (w : What) (n : ℕ) → s ≡ status.Limit w n → IsRunLimit a w n
  run-limit w n e = by_cases (run-answer a s many h (ap may_write e))
    where
      by_cases : ((1000000 < a.steps) × (s ≡ status.Limit what.Steps a.steps)) ⊎ (is_run_refusal s ≡ true) → IsRunLimit a w n
      by_cases (inl k) = over-steps w n k.0 (sym k.1 ∙ e)
      by_cases (inr k) = over-run w n (ap is_run_refusal (sym e) ∙ k)

-- ---- both

-- an answer whose cause is in the files is told before anything is written, and is no want of memory
pub of-files-first : (s : Status) → is_of_files s ≡ true → may_write s ≡ false
of-files-first s h = by_cases s h
  where
    by_cases : (s : Status) → is_of_files s ≡ true → may_write s ≡ false
    by_cases status.Done h = absurd (cc)
    by_cases (status.WriteFault n) h = absurd (cc)
    by_cases (status.Usage w) h = absurd (cc)
    by_cases (status.ReadFault n) h = refl
    by_cases (status.TooLong n) h = refl
    by_cases (status.Refused n w) h = refl
    by_cases (status.Profile f) h = refl
    by_cases (status.Inputs n) h = refl
    by_cases (status.Arrivals n) h = refl
    by_cases (status.Limit w n) h = refl
    by_cases status.NoMemory h = absurd (cc)

pub of-files-cause : (s : Status) → is_of_files s ≡ true → s ≢ status.NoMemory
of-files-cause s h e = let k : is_of_files status.NoMemory ≡ true = ap is_of_files (sym e) ∙ h in absurd (cc)

pub ruleset of_answers = (no-usage, over, no-inputs, no-arrivals, no-memory, no-memory-of-profile, run-no-usage, run-no-memory, run-no-memory-of-profile, run-limit, of-files-first, of-files-cause)
