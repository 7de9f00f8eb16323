-- Each point of a program is one of a function of it.
use Rattle.std.proofs.Common.{arith, ◌≡◌, ◌⊎◌, inl, inr, ◌≤◌, ◌<◌, ◌+◌, ℕ, zero, suc, true, List, [], ◌∷◌, ◌++◌, length, All, Option, Some, None, is_some, option_and_then, slice_get, refl, sym, subst, ◌∙◌}
use Rattle.std.proofs.lemmas.Option.{none-some, slice_get_within, get_or_from_slice_get}
use Rattle.cc_state_points.proofs.CcFlow.Inside.{body_inside}
use Rattle.cc_state_points.proofs.CcFlow.Paths.{all_counted}
use Rattle.cc_state_points.specs.CcFlow.declared.types.Point.{Point}
use Rattle.cc_state_points.specs.CcFlow.Laws.{IsIn}
use Rattle.cc_state_points.specs.CcFlow.Points.{flow_of, points_in, body_points, body_count}
use Rattle.cc_program.specs.declared.func.Func.{Func}
use Rattle.cc_program.specs.declared.program.Program.{Program}
use Rattle.cc_state_points.specs.CcState.Shape.{HaveShape}
use Rattle.cc_state_points.specs.CcStateFacts.declared.facts.Facts.{Facts}
use Rattle.cc_state_points.specs.CcStateFacts.declared.facts.PointFact.{PointFact}
use Rattle.cc_state_points.specs.CcStateFacts.Facts.{fact_at}
use Rattle.cc_state_points.specs.CcStateOperators.Domains.{Domain}

-- ---- lists

pub within_some : {A : Type 0} (xs : List A) (n : ℕ) → n < length xs → is_some (slice_get xs n) ≡ true
within_some [] n l = absurd (omega (arith, l))
within_some (x ∷ xs) zero l = refl
within_some (x ∷ xs) (suc n) l = within_some xs n (omega (arith, l))

some_within : {A : Type 0} (xs : List A) (n : ℕ) → is_some (slice_get xs n) ≡ true → n < length xs
some_within [] n h = absurd (cc)
some_within (x ∷ xs) zero h = omega arith
some_within (x ∷ xs) (suc n) h = let l = some_within xs n h in omega (arith, l)

in_either : {A : Type 0} (xs ys : List A) (n : ℕ) (q : A) → slice_get (xs ++ ys) n ≡ Some q → (slice_get xs n ≡ Some q) ⊎ ((m : ℕ) × (slice_get ys m ≡ Some q))
in_either [] ys n q e = inr (n, e)
in_either (x ∷ xs) ys zero q e = inl e
in_either (x ∷ xs) ys (suc n) q e = in_either xs ys n q e

pub all_there : {A : Type 0} (P : A → Type 0) (xs : List A) (n : ℕ) (q : A) → All P xs → slice_get xs n ≡ Some q → P q
all_there P xs n q h e = subst P (get_or_from_slice_get xs n q q e) (h n q (slice_get_within xs n q e))

opened : {A : Type 0} (o : Option (Option A)) (x : A) → option_and_then (λ (y : Option A). y) o ≡ Some x → is_some o ≡ true
opened None x h = absurd (none-some x h)
opened (Some o) x h = refl

-- ---- points of functions

abbrev AreOwned : List Func → ℕ → ℕ → Type 0
AreOwned funcs func first = (n : ℕ) (q : Point) → slice_get (points_in func first funcs) n ≡ Some q → (func ≤ q.func) × (q.func < func + length funcs)

with_first : (f : Func) (funcs : List Func) (func first : ℕ) → AreOwned funcs (func + 1) (first + body_count f.body) → (n : ℕ) (q : Point) →
    (slice_get (body_points func first f.body) n ≡ Some q) ⊎ ((m : ℕ) × (slice_get (points_in (func + 1) (first + body_count f.body) funcs) m ≡ Some q)) → (func ≤ q.func) × (q.func < func + length (f ∷ funcs))
with_first f funcs func first others n q (inl h) = let k = (all_there (IsIn func first (first + body_count f.body)) (body_points func first f.body) n q (body_inside func first f.body) h).own in (omega (arith, k), omega (arith, k))
with_first f funcs func first others n q (inr h) = let k = others h.0 q h.1 in (omega (arith, k.0), omega (arith, k.1))

pub owned_in : (funcs : List Func) (func first : ℕ) → AreOwned funcs func first
owned_in [] func first n q e = absurd (none-some q e)
owned_in (f ∷ funcs) func first n q e = with_first f funcs func first (owned_in funcs (func + 1) (first + body_count f.body)) n q (in_either (body_points func first f.body) (points_in (func + 1) (first + body_count f.body) funcs) n q e)

pub owned : (p : Program) (n : ℕ) (q : Point) → slice_get (flow_of p).points n ≡ Some q → q.func < length p.funcs
owned p n q e = let k = owned_in p.funcs 0 0 n q e in omega (arith, k.1)

-- what is known of a point is of one that is there
pub point_there : {I : Type 0} (d : Domain I) (p : Program) (facts : Facts I) (n : ℕ) (fact : PointFact I) → HaveShape d p facts → fact_at facts n ≡ Some fact → is_some (slice_get (flow_of p).points n) ≡ true
point_there d p facts n fact shape at =
    within_some (flow_of p).points n (subst (λ m. n < m) (shape.points ∙ sym (all_counted p)) (some_within facts.at n (opened (slice_get facts.at n) fact at)))
