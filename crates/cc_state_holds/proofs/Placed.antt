-- A point of which something is known is there, and so is its function.
use Rattle.std.proofs.Common.{arith, ◌≡◌, ◌⊎◌, inl, inr, ◌<◌, ◌+◌, ℕ, zero, suc, List, [], ◌∷◌, length, get_or, ◌≤◌, Option, Some, None, slice_get, refl, ap, ◌∙◌}
use Rattle.std.specs.Prelude.{option_and_then}
use Rattle.std.proofs.lemmas.Option.{none-some, slice_get_within, slice_get_cases}
use Rattle.cc_flow_sound.proofs.CcFlow.Inside.{body_inside}
use Rattle.cc_flow_sound.proofs.CcFlow.Paths.{all_counted}
use Rattle.cc_flow_sound.specs.CcFlow.declared.types.Point.{Point}
use Rattle.cc_flow_sound.specs.CcFlow.Laws.{IsIn}
use Rattle.cc_flow_sound.specs.CcFlow.Points.{body_count, body_points, points_in, flow_of}
use Rattle.cc_program.specs.declared.func.Func.{Func}
use Rattle.cc_program.specs.declared.program.Program.{Program}
use Rattle.cc_state.specs.Points.{HasFunction}
use Rattle.cc_state.specs.Shape.{HaveShape}
use Rattle.cc_state.specs.View.{IsFunctionAt}
use Rattle.cc_state_reads.specs.CcStateFacts.declared.facts.Facts.{Facts}
use Rattle.cc_state_reads.specs.CcStateFacts.declared.facts.PointFact.{PointFact}
use Rattle.cc_state_reads.specs.CcStateFacts.Facts.{fact_at}
use Rattle.cc_state_reads.specs.CcStateOperators.Domains.{Domain}
use Rattle.cc_state_scalars.proofs.Rows.{get_split}
use Rattle.cc_state_reads.proofs.CcSyntax.Parts.{all_at}

-- the function that a point of some functions is of
abbrev IsOf : ℕ → List Func → Point → Type 0
IsOf func funcs q = (i : ℕ) × (f : Func) × (q.func ≡ func + i) × (slice_get funcs i ≡ Some f)

points_have : (func first : ℕ) (funcs : List Func) (n : ℕ) (q : Point) → slice_get (points_in func first funcs) n ≡ Some q → IsOf func funcs q
points_have func first [] n q e = absurd (none-some q e)
points_have func first (f ∷ funcs) n q e =
    by (λ k g. points_have (func + 1) (first + body_count f.body) funcs k q g) (get_split (body_points func first f.body) (points_in (func + 1) (first + body_count f.body) funcs) n q e)
  where
    of_rest : IsOf (func + 1) funcs q → IsOf func (f ∷ funcs) q
    of_rest (i, g, k, at) = (suc i, g, omega (arith, k), at)

    by : ((k : ℕ) → slice_get (points_in (func + 1) (first + body_count f.body) funcs) k ≡ Some q → IsOf (func + 1) funcs q) →
        ((n < length (body_points func first f.body)) × (slice_get (body_points func first f.body) n ≡ Some q)) ⊎ ((k : ℕ) × (n ≡ length (body_points func first f.body) + k) × (slice_get (points_in (func + 1) (first + body_count f.body) funcs) k ≡ Some q)) →
        IsOf func (f ∷ funcs) q
    by rest (inl w) = let own = (all_at (IsIn func first (first + body_count f.body)) (body_points func first f.body) n q w.1 (body_inside func first f.body)).own in (zero, f, omega (arith, own), refl)
    by rest (inr w) = of_rest (rest w.0 w.2)

function_at : (p : Program) (n : ℕ) → n < length (flow_of p).points → (f : Func) × HasFunction p n f
function_at p n l = by (slice_get_cases (flow_of p).points n).1
  where
    found : (q : Point) → slice_get (flow_of p).points n ≡ Some q → IsOf 0 p.funcs q → (f : Func) × HasFunction p n f
    found q at (i, f, own, there) = (f, (q, record { numbered = at; function = ap (slice_get p.funcs) (let e : q.func ≡ i = omega (arith, own) in e) ∙ there }))

    by : ((q : Point) × (n < length (flow_of p).points) × (slice_get (flow_of p).points n ≡ Some q) × (get_or (flow_of p).points n q ≡ q)) ⊎ ((length (flow_of p).points ≤ n) × (slice_get (flow_of p).points n ≡ None)) → (f : Func) × HasFunction p n f
    by (inl w) = found w.0 w.2 (points_have 0 0 p.funcs n w.0 w.2)
    by (inr w) = absurd (let k = w.0 in omega (arith, l, k))

both_some : {A : Type 0} (o : Option (Option A)) (x : A) → option_and_then (λ (y : Option A). y) o ≡ Some x → o ≡ Some (Some x)
both_some None x h = absurd (none-some x h)
both_some (Some y) x h = ap Some h

pub place_there : {I : Type 0} (d : Domain I) (p : Program) (facts : Facts I) → HaveShape d p facts → (n : ℕ) (fact : PointFact I) → fact_at facts n ≡ Some fact → (f : Func) × HasFunction p n f
place_there d p facts shape n fact e =
    let k = slice_get_within facts.at n (Some fact) (both_some (slice_get facts.at n) fact e) in
    let s = shape.points in
    let c = all_counted p in
    function_at p n (omega (arith, k, s, c))

pub its_function : {I : Type 0} (d : Domain I) (p : Program) (facts : Facts I) (n : ℕ) (f : Func) → HasFunction p n f → IsFunctionAt d p facts n f
its_function d p facts n f h = (h.0, h.1.numbered, h.1.function)
