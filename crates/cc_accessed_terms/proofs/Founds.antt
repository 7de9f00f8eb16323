-- What follows of a construct that is found: what its parts were found to be.
use Rattle.std.proofs.Common.{◌≡◌, ℕ, Ok, Err, refl, ap, sym}
use Rattle.cc_terms.specs.CcOperands.Verdicts.{Judged, judge_then}
use Rattle.cc_terms.specs.CcScopes.State.{State}
use Rattle.cc_terms.specs.CcScopes.Verdicts.{Found, whole, and_then}
use Rattle.cc_terms.specs.CcSpecifiers.Places.{JudgedAt}
use Rattle.cc_terms.specs.CcTypedTerms.Located.{located}

abbrev pub answer : {A : Type 0} → A → State → Found A
answer x s = Ok (x, s)

pub answer_is : {A : Type 0} (x : A) (s : State) (r : A × State) → answer x s ≡ Ok r → (r.0 ≡ x) × (r.1 ≡ s)
answer_is x s r h = let e : (x, s) ≡ r = cc in (sym (ap (λ y. y.0) e), sym (ap (λ y. y.1) e))

pub then_found : {A B : Type 0} (found : Found A) (next : A → State → Found B) (r : B × State) → and_then found next ≡ Ok r → (x : A × State) × (found ≡ Ok x) × (next x.0 x.1 ≡ Ok r)
then_found (Ok x) next r h = (x, refl, h)
then_found (Err fault) next r h = absurd (cc)

pub whole_found : {A : Type 0} (at : ℕ) (s : State) (judged : Judged A) (r : A × State) → whole at s judged ≡ Ok r → (judged ≡ Ok r.0) × (r.1 ≡ s)
whole_found at s (Ok x) r h = let e = answer_is x s r h in (ap Ok (sym e.0), e.1)
whole_found at s (Err broken) r h = absurd (cc)

pub located_found : {A : Type 0} (s : State) (judged : JudgedAt A) (r : A × State) → located s judged ≡ Ok r → (judged ≡ Ok r.0) × (r.1 ≡ s)
located_found s (Ok x) r h = let e = answer_is x s r h in (ap Ok (sym e.0), e.1)
located_found s (Err broken) r h = absurd (cc)

pub then_judged : {A B : Type 0} (judged : Judged A) (next : A → Judged B) (r : B) → judge_then judged next ≡ Ok r → (x : A) × (judged ≡ Ok x) × (next x ≡ Ok r)
then_judged (Ok x) next r h = (x, refl, h)
then_judged (Err broken) next r h = absurd (cc)
