-- The first reason that was found to hold is the first that holds, where each was found rightly.
use Rattle.std.proofs.Common.{arith, ◌≡◌, ◌<◌, ◌≤◌, ◌+◌, ℕ, Bool, true, false, true≢false, nat_eq, Option, Some, None, refl, ap, sym, subst, ◌∙◌, inl, inr}
use Rattle.std.specs.Prelude.{◌↔◌, ◌⊎◌, IsTrue, if◌then◌else◌}
use Rattle.std.proofs.lemmas.Bool.{cases_lt}
use Rattle.cc_slots.specs.declared.first.Findings.{Findings}
use Rattle.cc_slots.specs.First.{IsReasonOf, first_reason, found}
use Rattle.cc_slots_types.specs.declared.reason.Reason.{Reason}
use Rattle.cc_slots_types.specs.declared.reason.Reason.TheVariants as reason
use Rattle.cc_slots_types.specs.Slots.{reason_number}

-- ---- reasons by their numbers

low : (q : Reason) → 1 ≤ reason_number q
low reason.Volatile = omega arith
low reason.Const = omega arith
low reason.Addressed = omega arith
low reason.Automatic = omega arith
low reason.Torn = omega arith
low reason.Index = omega arith
low reason.Wide = omega arith

high : (q : Reason) → reason_number q < 8
high reason.Volatile = omega arith
high reason.Const = omega arith
high reason.Addressed = omega arith
high reason.Automatic = omega arith
high reason.Torn = omega arith
high reason.Index = omega arith
high reason.Wide = omega arith

reason_of : ℕ → Reason
reason_of n =
    if nat_eq n 1 then reason.Volatile
    else (if nat_eq n 2 then reason.Const
    else (if nat_eq n 3 then reason.Addressed
    else (if nat_eq n 4 then reason.Automatic
    else (if nat_eq n 5 then reason.Torn
    else (if nat_eq n 6 then reason.Index else reason.Wide)))))

back : (q : Reason) → reason_of (reason_number q) ≡ q
unfolding reason_of
back reason.Volatile = refl
back reason.Const = refl
back reason.Addressed = refl
back reason.Automatic = refl
back reason.Torn = refl
back reason.Index = refl
back reason.Wide = refl

same_reason : (q r : Reason) → reason_number q ≡ reason_number r → q ≡ r
same_reason q r e = sym (back q) ∙ (ap reason_of e ∙ back r)

-- ---- one after the other

module _ (Holds : Reason → Type 0) (f : Findings) (right : (q : Reason) → IsTrue (found f q) ↔ Holds q) where
  abbrev NoneBelow : ℕ → Type 0
  NoneBelow n = (q : Reason) → reason_number q < n → Holds q → ⊥

  more-by : (r q : Reason) → NoneBelow (reason_number r) → (Holds r → ⊥) → reason_number q < reason_number r + 1 → Holds q → (reason_number q < reason_number r) ⊎ (reason_number r ≤ reason_number q) → ⊥
  more-by r q before fails lt h (inl below) = before q below h
  more-by r q before fails lt h (inr past) = let e : reason_number q ≡ reason_number r = omega (arith, lt, past) in fails (subst Holds (same_reason q r e) h)

  more : (r : Reason) → NoneBelow (reason_number r) → (Holds r → ⊥) → NoneBelow (reason_number r + 1)
  more r before fails q lt h = more-by r q before fails lt h (cases_lt (reason_number q) (reason_number r))

  fails : (r : Reason) → found f r ≡ false → Holds r → ⊥
  fails r e h = true≢false (sym ((right r).1 h) ∙ e)

  step : (r : Reason) (b : Bool) → found f r ≡ b → NoneBelow (reason_number r) → (rest : Option Reason) → (NoneBelow (reason_number r + 1) → IsReasonOf Holds rest) → IsReasonOf Holds (if b then Some r else rest)
  step r true e before rest next = record { holds = (right r).0 e; none_before = before }
  step r false e before rest next = next (more r before (fails r e))

  none_first : NoneBelow 1
  none_first q lt h = absurd (let l = low q in omega (arith, l, lt))

  pub first_is : IsReasonOf Holds (first_reason f)
  first_is =
      step reason.Volatile f.volatile refl none_first _ (λ a. step reason.Const f.constant refl a _ (λ b. step reason.Addressed f.addressed refl b _ (λ c. step reason.Automatic f.automatic refl c _
      (λ d. step reason.Torn f.torn refl d _ (λ e. step reason.Index f.index refl e _ (λ g. step reason.Wide f.wide refl g None (λ all q h. all q (high q) h)))))))
