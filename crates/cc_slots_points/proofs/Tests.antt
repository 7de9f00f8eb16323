-- What is found by a test in a list, and what is said where nothing failed.
use Rattle.std.proofs.Common.{◌≡◌, ◌<◌, ℕ, Bool, true, false, ◌&&◌, nat_eq, List, Result, Ok, Err, arith, ap, ◌∙◌}
use Rattle.std.specs.Prelude.{◌==◌}
use Rattle.std.specs.Result.{OnOk}
use Rattle.std.specs.List.{Contains, list_any}
use Rattle.std.proofs.lemmas.List.Folds.{Any-from_list_any, list_any_at}
use Rattle.cc_state_points.specs.CcStateFacts.declared.facts.Key.{Key}
use Rattle.cc_state_points.specs.CcStateFacts.declared.facts.Key.TheVariants as key
use Rattle.cc_state_points.specs.CcStateKeys.Keys.{is_key}

pub there : {A : Type 0} (test : A → Bool) (xs : List A) → list_any test xs ≡ true → (x : A) × Contains xs x × (test x ≡ true)
there test xs h = let w = Any-from_list_any test xs h in (w.1, (w.0, w.2, w.3), w.4)

pub here : {A : Type 0} (test : A → Bool) (xs : List A) (x : A) → Contains xs x → test x ≡ true → list_any test xs ≡ true
here test xs x m t = list_any_at test xs m.0 x m.1 (ap test m.2 ∙ t)

same_number : (n : ℕ) → (n == n) ≡ true
same_number n = grind arith

pub unequal : (m n : ℕ) → m < n → nat_eq m n ≡ false
unequal m n h = grind (arith, h)

pub own_key : (k : Key) → is_key k k ≡ true
own_key (key.Object i) = same_number i
own_key (key.Local f r) = ap (λ b. b && (r == r)) (same_number f) ∙ same_number r
own_key (key.Member s m) = ap (λ b. b && (m == m)) (same_number s) ∙ same_number m

pub on_ok : {T E : Type 0} {P Q : Type 0} (r : Result T E) → (P → Q) → OnOk r P → OnOk r Q
on_ok (Ok x) f h = f h
on_ok (Err x) f h = h
