-- The registers of a function ascend, so those that are parameters are the first of them.
use Rattle.std.proofs.Common.{arith, ◌≡◌, ◌≤◌, ◌<◌, ◌⊎◌, inl, inr, ◌+◌, ℕ, zero, suc, Bool, true, false, List, [], ◌∷◌, ◌++◌, length, Some, None, option_and_then, slice_get, refl, ap, sym, ◌∙◌}
use Rattle.std.specs.Option.{option_to_list}
use Rattle.std.proofs.lemmas.Bool.{cases_lt}
use Rattle.std.proofs.lemmas.Option.{slice_get_past}
use Rattle.cc_program.specs.declared.func.Func.{Func}
use Rattle.cc_rules_calls.specs.Called.{sets_of}
use Rattle.cc_state_points.specs.CcStateKeys.Lists.{only_if, made_from}
use Rattle.cc_state_points.specs.CcStateKeys.Tracked.{registers}
use Rattle.cc_state_points.specs.CcSyntax.Registers.{is_register}
use Rattle.cc_state_points.specs.CcSyntax.Types.{Named}

-- from one on, each above the one before
abbrev Rise : ℕ → List ℕ → Type 0
Rise n [] = Unit {0}
Rise n (r ∷ rs) = (n ≤ r) × Rise (r + 1) rs

rise_from : (n m : ℕ) (rs : List ℕ) → n ≤ m → Rise m rs → Rise n rs
rise_from n m [] l h = tt
rise_from n m (r ∷ rs) l h = let k : m ≤ r = h.0 in (omega arith, h.1)

rise_behind : (b : Bool) (n : ℕ) (rs : List ℕ) → Rise (n + 1) rs → Rise n (only_if b n ++ rs)
rise_behind true n rs h = (omega arith, h)
rise_behind false n rs h = rise_from n (n + 1) rs (omega arith) h

made_rise : {A : Type 0} (passes : ℕ → A → Bool) (n : ℕ) (list : List A) → Rise n (made_from passes (λ n. n) n list)
made_rise passes n [] = tt
made_rise passes n (a ∷ list) = rise_behind (passes n a) n (made_from passes (λ n. n) (n + 1) list) (made_rise passes (n + 1) list)

-- behind all sets there is none
none_sets : {A : Type 0} (ys : List A) (n : ℕ) (rs : List ℕ) → length ys ≤ n → Rise n rs → sets_of ys rs ≡ []
none_sets ys n [] l h = refl
none_sets ys n (r ∷ rs) l h =
    let low : n ≤ r = h.0 in
    ap (λ o. option_to_list o ++ sets_of ys rs) (slice_get_past ys r (omega arith)) ∙ none_sets ys (r + 1) rs (omega arith) h.1

none_at : {A : Type 0} (ys : List A) (n : ℕ) (rs : List ℕ) (k : ℕ) → length ys ≤ n → Rise n rs → option_and_then (slice_get ys) (slice_get rs k) ≡ None
none_at ys n [] k l h = refl
none_at ys n (r ∷ rs) zero l h = let low : n ≤ r = h.0 in slice_get_past ys r (omega arith)
none_at ys n (r ∷ rs) (suc k) l h = let low : n ≤ r = h.0 in none_at ys (r + 1) rs k (omega arith) h.1

found : {A : Type 0} (ys : List A) (r : ℕ) → r < length ys → (y : A) × (slice_get ys r ≡ Some y)
found [] r l = absurd (omega (arith, l))
found (y ∷ ys) zero l = (y, refl)
found (y ∷ ys) (suc r) l = found ys r (omega (arith, l))

first_is : {A : Type 0} (ys : List A) (r : ℕ) (rs : List ℕ) (y : A) (k : ℕ) → slice_get ys r ≡ Some y → ((k : ℕ) → slice_get (sets_of ys rs) k ≡ option_and_then (slice_get ys) (slice_get rs k)) →
    slice_get (sets_of ys (r ∷ rs)) k ≡ option_and_then (slice_get ys) (slice_get (r ∷ rs) k)
first_is ys r rs y zero e h = ap (λ o. slice_get (option_to_list o ++ sets_of ys rs) 0) e ∙ sym e
first_is ys r rs y (suc k) e h = ap (λ o. slice_get (option_to_list o ++ sets_of ys rs) (suc k)) e ∙ h k

next_is : {A : Type 0} (ys : List A) (r : ℕ) (rs : List ℕ) (k : ℕ) → Rise (r + 1) rs → (r < length ys) ⊎ (length ys ≤ r) →
    ((k : ℕ) → slice_get (sets_of ys rs) k ≡ option_and_then (slice_get ys) (slice_get rs k)) → slice_get (sets_of ys (r ∷ rs)) k ≡ option_and_then (slice_get ys) (slice_get (r ∷ rs) k)
next_is ys r rs k h (inl l) rest = first_is ys r rs (found ys r l).0 k (found ys r l).1 rest
next_is ys r rs k h (inr l) rest =
    ap (λ xs. slice_get xs k) (none_sets ys r (r ∷ rs) l (omega arith, h)) ∙ sym (none_at ys r (r ∷ rs) k l (omega arith, h))

sets_at : {A : Type 0} (ys : List A) (n : ℕ) (rs : List ℕ) → Rise n rs → (k : ℕ) → slice_get (sets_of ys rs) k ≡ option_and_then (slice_get ys) (slice_get rs k)
sets_at ys n [] h k = refl
sets_at ys n (r ∷ rs) h k = next_is ys r rs k h.1 (cases_lt r (length ys)) (sets_at ys (r + 1) rs h.1)

pub parameters_at : {A : Type 0} (ys : List A) (f : Func) (k : ℕ) → slice_get (sets_of ys (registers f)) k ≡ option_and_then (slice_get ys) (slice_get (registers f) k)
parameters_at ys f k = sets_at ys 0 (registers f) (made_rise (λ r (l : Named). is_register f r) 0 f.locals) k
