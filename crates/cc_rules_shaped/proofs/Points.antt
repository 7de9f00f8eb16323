-- The next points of a point are points of its function, and so is the exit of a function.
use Rattle.std.proofs.Common.{arith, ◌≡◌, ◌⊎◌, inl, inr, ◌+◌, ◌<◌, ◌≤◌, ℕ, zero, suc, List, [], ◌∷◌, length, Contains, Some, slice_get, ap, sym, ◌∙◌}
use Rattle.std.proofs.lemmas.Bool.{cases_lt}
use Rattle.std.proofs.lemmas.List.Elements.{All-contains}
use Rattle.cc_rules_grow.proofs.CcFlow.Inside.{body_inside}
use Rattle.cc_rules_grow.proofs.CcFlow.Paths.{body_counted}
use Rattle.cc_rules_grow.specs.CcFlow.declared.types.Point.{Point}
use Rattle.cc_rules_grow.specs.CcFlow.Laws.{IsIn}
use Rattle.cc_rules_grow.specs.CcFlow.Points.{total_of, body_count, body_points, points_in}
use Rattle.cc_rules_grow.proofs.CcFlowSound.Numbered.{point_of}
use Rattle.cc_rules_grow.specs.CcFlowSound.Moves.{entry}
use Rattle.cc_program.specs.declared.func.Func.{Func}
use Rattle.cc_program.specs.declared.program.Program.{Program}
use Rattle.cc_rules_grow.specs.CcRulesFlows.Nexts.{IsPoint, exit_of}
use Rattle.cc_rules_grow.proofs.Elements.{some_within}
use Rattle.cc_rules_shaped.specs.Shaped.{IsPointIn}
use Rattle.cc_rules_grow.proofs.CcState.Lists.{contains_at}
use Rattle.cc_rules_grow.specs.CcStateOperators.Domains.{Domain}
use Rattle.cc_rules_grow.proofs.CcStates.ListLemmas.{get_before, get_after}

-- what holds of all points of a function's body holds of the one of a number
is_in : (func first : ℕ) (f : Func) (n : ℕ) (q : Point) → slice_get (body_points func first f.body) n ≡ Some q → IsIn func first (first + body_count f.body) q
is_in func first f n q e = All-contains (IsIn func first (first + body_count f.body)) (body_points func first f.body) q (body_inside func first f.body) (contains_at (body_points func first f.body) n q e)

-- a point of this number, of the function of another one
abbrev IsBeside : List Func → ℕ → ℕ → Point → ℕ → Type 0
IsBeside funcs func first q k = (m : ℕ) × (r : Point) × (k ≡ first + m) × (slice_get (points_in func first funcs) m ≡ Some r) × (r.func ≡ q.func)

body_beside : (func first : ℕ) (f : Func) (funcs : List Func) (n : ℕ) (q : Point) → slice_get (body_points func first f.body) n ≡ Some q → (k : ℕ) → Contains q.next k → IsBeside (f ∷ funcs) func first q k
body_beside func first f funcs n q e k c =
    let inside = is_in func first f n q e in
    let stays = All-contains (λ j. (first ≤ j) × (j < first + body_count f.body)) q.next k inside.stays c in
    let low = stays.0 in
    let high = stays.1 in
    at_from low high inside (from_first first k low)
  where
    from_first : (a b : ℕ) → a ≤ b → (m : ℕ) × (b ≡ a + m)
    from_first zero b l = (b, omega arith)
    from_first (suc a) zero l = absurd (omega (arith, l))
    from_first (suc a) (suc b) l = let w = from_first a b (omega (arith, l)) in let is = w.1 in (w.0, omega (arith, is))

    at_from : first ≤ k → k < first + body_count f.body → IsIn func first (first + body_count f.body) q → ((m : ℕ) × (k ≡ first + m)) → IsBeside (f ∷ funcs) func first q k
    at_from low high inside (m, is) =
        let counted = body_counted func first f.body in
        let l : m < length (body_points func first f.body) = omega (arith, is, high, counted) in
        let r = some_within (body_points func first f.body) m l in
        (m, r.0, is, get_before (body_points func first f.body) (points_in (func + 1) (first + body_count f.body) funcs) m l ∙ r.1, (is_in func first f m r.0 r.1).own ∙ sym inside.own)

behind : (a b : ℕ) → a ≤ b → (m : ℕ) × (b ≡ a + m)
behind zero b l = (b, omega arith)
behind (suc a) zero l = absurd (omega (arith, l))
behind (suc a) (suc b) l = let w = behind a b (omega (arith, l)) in let is = w.1 in (w.0, omega (arith, is))

-- in the first function or in a later one
beside_by : (func first : ℕ) (f : Func) (funcs : List Func) (n : ℕ) (q : Point) → slice_get (points_in func first (f ∷ funcs)) n ≡ Some q → (k : ℕ) → Contains q.next k →
    ((m : ℕ) → slice_get (points_in (func + 1) (first + body_count f.body) funcs) m ≡ Some q → IsBeside funcs (func + 1) (first + body_count f.body) q k) → IsBeside (f ∷ funcs) func first q k
beside_by func first f funcs n q e k c rest = by (cases_lt n (length (body_points func first f.body)))
  where
    later : List Point
    later = points_in (func + 1) (first + body_count f.body) funcs

    in_later : ((m : ℕ) × (n ≡ length (body_points func first f.body) + m)) → IsBeside (f ∷ funcs) func first q k
    in_later (m, is) =
        let there : slice_get later m ≡ Some q = sym (get_after (body_points func first f.body) later m n is) ∙ e in
        let w = rest m there in
        let counted = body_counted func first f.body in
        let is_k = w.2 in (
          body_count f.body + w.0,
          w.1,
          omega (arith, is_k),
          get_after (body_points func first f.body) later w.0 (body_count f.body + w.0) (omega (arith, counted)) ∙ w.3,
          w.4,
        )

    by : ((n < length (body_points func first f.body)) ⊎ (length (body_points func first f.body) ≤ n)) → IsBeside (f ∷ funcs) func first q k
    by (inl l) = body_beside func first f funcs n q (sym (get_before (body_points func first f.body) later n l) ∙ e) k c
    by (inr l) = in_later (behind (length (body_points func first f.body)) n l)

next_beside : (funcs : List Func) (func first n : ℕ) (q : Point) → slice_get (points_in func first funcs) n ≡ Some q → (k : ℕ) → Contains q.next k → IsBeside funcs func first q k
next_beside [] func first n q e k c = absurd (cc)
next_beside (f ∷ funcs) func first n q e k c = beside_by func first f funcs n q e k c (λ m there. next_beside funcs (func + 1) (first + body_count f.body) m q there k c)

module _ {I : Type 0} (d : Domain I) (p : Program) where
  -- where control goes from a point is a point of the same function
  pub next_there : (n id : ℕ) (f : Func) (q : Point) → IsPoint p n id f q → (k : ℕ) → Contains q.next k → IsPointIn d p k f
  next_there n id f q h k c =
      let w = next_beside p.funcs 0 0 n q h.numbered k c in
      let is = w.2 in
      let at : k ≡ w.0 = omega (arith, is) in
      (id, w.1, record { numbered = ap (slice_get (points_in 0 0 p.funcs)) at ∙ w.3; own = w.4 ∙ h.own; function = h.function })

  pub exit_there : (id : ℕ) (f : Func) → slice_get p.funcs id ≡ Some f → (q : Point) × IsPoint p (exit_of p id f) id f q
  exit_there id f function =
      let counted = body_counted id (entry p id) f.body in
      let w = some_within (body_points id (entry p id) f.body) (total_of f.body) (omega (arith, counted)) in
      (w.0, record { numbered = point_of p id f function (total_of f.body) (omega arith) ∙ w.1; own = (is_in id (entry p id) f (total_of f.body) w.0 w.1).own; function = function })
