-- Sums over points, and how long lists of numbers are.
use Rattle.std.proofs.Common.{arith, ◌≡◌, ◌≤◌, ◌+◌, ℕ, Bool, true, false, List, [], ◌∷◌, length, length-append, map, Option, Some, None, refl, ap, ◌∙◌}
use Rattle.std.proofs.lemmas.List.{length-take}
use Rattle.std.proofs.lemmas.List.Sums.{sum_by-le-sum_by}
use Rattle.std.proofs.lemmas.Option.{slice_get-map}
use Rattle.std.specs.List.{slice_get, sum_by}
use Rattle.std.specs.Option.{option_map, unwrap_or}
use Rattle.cc_flow.specs.declared.types.Point.{Point}
use Rattle.cc_program.specs.declared.func.Func.{Func}
use Rattle.cc_program.specs.declared.program.Program.{Program}
use Rattle.cc_state_keys.specs.Addressed.{taken_keys}
use Rattle.cc_state_keys.specs.Counts.{register_count, facts_at}
use Rattle.cc_state_keys.specs.Lists.{only_if, made_from}
use Rattle.cc_state_keys.specs.Tracked.{most_tracked, registers, tracked, numbers, may_be_tracked}

length-only : {B : Type 0} (b : Bool) (x : B) → length (only_if b x) ≤ 1
length-only true x = omega arith
length-only false x = omega arith

length-made : {A B : Type 0} (passes : ℕ → A → Bool) (make : ℕ → B) (n : ℕ) (xs : List A) → length (made_from passes make n xs) ≤ length xs
length-made passes make n [] = omega arith
length-made passes make n (x ∷ xs) =
    omega (arith, length-append (only_if (passes n x) (make n)) (made_from passes make (n + 1) xs), length-only (passes n x) (make n), length-made passes make (n + 1) xs)

pub few_registers : (f : Func) → length (registers f) ≤ length f.locals
few_registers f = length-made _ _ 0 f.locals

pub few_tracked : (p : Program) → length (tracked p) ≤ 128
few_tracked p = omega (arith, length-take most_tracked (numbers (may_be_tracked (taken_keys p)) p.objects))

count-of : (o : Option Func) → unwrap_or (option_map (λ f. length (registers f)) o) 0 ≡ register_count o
count-of None = refl
count-of (Some f) = refl

-- the facts of a point, by the counts of the registers
counted : (p : Program) (counts : List ℕ) (n : ℕ) (point : Point) → counts ≡ map (λ f. length (registers f)) p.funcs → n ≡ length (tracked p) → n + unwrap_or (slice_get counts point.func) 0 ≡ facts_at p point
counted p counts n point h k =
    ap (λ m. m + unwrap_or (slice_get counts point.func) 0) k
    ∙ ap (λ m. length (tracked p) + m) (ap (λ xs. unwrap_or (slice_get xs point.func) 0) h ∙ ap (λ o. unwrap_or o 0) (slice_get-map (λ f. length (registers f)) p.funcs point.func) ∙ count-of (slice_get p.funcs point.func))

same-sums : {X : Type 0} (f g : X → ℕ) (xs : List X) → ((x : X) → f x ≡ g x) → sum_by f xs ≡ sum_by g xs
same-sums f g xs h =
    let le : sum_by f xs ≤ sum_by g xs = sum_by-le-sum_by f g xs (λ x. omega (arith, h x)) in
    let ge : sum_by g xs ≤ sum_by f xs = sum_by-le-sum_by g f xs (λ x. omega (arith, h x)) in
    omega arith

pub all_counted : (p : Program) (counts : List ℕ) (n : ℕ) (points : List Point) → counts ≡ map (λ f. length (registers f)) p.funcs → n ≡ length (tracked p) →
    sum_by (λ point. n + unwrap_or (slice_get counts point.func) 0) points ≡ sum_by (facts_at p) points
all_counted p counts n points h k = same-sums (λ point. n + unwrap_or (slice_get counts point.func) 0) (facts_at p) points (λ point. counted p counts n point h k)
