-- The next points of a point are points of its function, and so are a function's entry and its exit.
use Rattle.std.proofs.Common.{arith, ◌≡◌, ◌⊎◌, inl, inr, ◌+◌, ◌<◌, ◌≤◌, ℕ, zero, suc, List, [], ◌∷◌, length, length-append, Contains, Some, None, slice_get, refl, ap, sym, ◌∙◌, subst}
use Rattle.std.proofs.lemmas.Bool.{cases_lt}
use Rattle.std.proofs.lemmas.List.Elements.{All-contains}
use Rattle.std.proofs.lemmas.Option.{same_Some, slice_get_within, slice_get_past}
use Rattle.cc_rules.proofs.CcFlow.Inside.{body_inside}
use Rattle.cc_rules.proofs.CcFlow.Paths.{body_counted, all_counted}
use Rattle.cc_rules.specs.CcFlow.declared.types.Point.{Point}
use Rattle.cc_rules.specs.CcFlow.Laws.{IsIn}
use Rattle.cc_rules.specs.CcFlow.Points.{list_points, pieces, total_of, body_count, body_site, body_points, count_of, points_in, flow_of}
use Rattle.cc_rules.proofs.CcFlowSound.Numbered.{point_of}
use Rattle.cc_rules.specs.CcFlowSound.Moves.{entry}
use Rattle.cc_rules.specs.CcFlowSound.Statements.{statement_at}
use Rattle.cc_program.specs.declared.func.Func.{Func}
use Rattle.cc_program.specs.declared.program.Program.{Program}
use Rattle.cc_program.specs.declared.stmt.Stmt.{Stmt}
use Rattle.cc_proof_rules.proofs.Lists.{contains_at}
use Rattle.cc_rules.specs.CcRulesFlows.Nexts.{exit_of}
use Rattle.cc_state.specs.View.{IsFunctionAt}
use Rattle.cc_rules.specs.CcStateFacts.declared.facts.Facts.{Facts}
use Rattle.cc_state_values_sound.specs.CcStateOperators.Domains.{Domain}
use Rattle.cc_state_values_sound.proofs.CcStates.ListLemmas.{get_before, get_after}

some_within : {A : Type 0} (xs : List A) (i : ℕ) → i < length xs → (x : A) × (slice_get xs i ≡ Some x)
some_within [] i l = absurd (omega (arith, l))
some_within (x ∷ xs) zero l = (x, refl)
some_within (x ∷ xs) (suc i) l = some_within xs i (omega (arith, l))

-- what holds of all points of a function's body holds of the one of a number
is_in : (func first : ℕ) (f : Func) (n : ℕ) (q : Point) → slice_get (body_points func first f.body) n ≡ Some q → IsIn func first (first + body_count f.body) q
is_in func first f n q e = All-contains (IsIn func first (first + body_count f.body)) (body_points func first f.body) q (body_inside func first f.body) (contains_at (body_points func first f.body) n q e)

-- a point of this number, of the function of another one
abbrev IsBeside : List Func → ℕ → ℕ → Point → ℕ → Type 0
IsBeside funcs func first q k = (m : ℕ) × (r : Point) × (k ≡ first + m) × (slice_get (points_in func first funcs) m ≡ Some r) × (r.func ≡ q.func)

body_beside : (func first : ℕ) (f : Func) (funcs : List Func) (n : ℕ) (q : Point) → slice_get (body_points func first f.body) n ≡ Some q → (k : ℕ) → Contains q.next k → IsBeside (f ∷ funcs) func first q k
body_beside func first f funcs n q e k c =
    let inside = is_in func first f n q e in
    let stays = All-contains (λ j. (first ≤ j) × (j < first + body_count f.body)) q.next k inside.stays c in
    let low = stays.0 in
    let high = stays.1 in
    at_from low high inside (from_first first k low)
  where
    from_first : (a b : ℕ) → a ≤ b → (m : ℕ) × (b ≡ a + m)
    from_first zero b l = (b, omega arith)
    from_first (suc a) zero l = absurd (omega (arith, l))
    from_first (suc a) (suc b) l = let w = from_first a b (omega (arith, l)) in let is = w.1 in (w.0, omega (arith, is))

    at_from : first ≤ k → k < first + body_count f.body → IsIn func first (first + body_count f.body) q → ((m : ℕ) × (k ≡ first + m)) → IsBeside (f ∷ funcs) func first q k
    at_from low high inside (m, is) =
        let counted = body_counted func first f.body in
        let l : m < length (body_points func first f.body) = omega (arith, is, high, counted) in
        let r = some_within (body_points func first f.body) m l in
        (m, r.0, is, get_before (body_points func first f.body) (points_in (func + 1) (first + body_count f.body) funcs) m l ∙ r.1, (is_in func first f m r.0 r.1).own ∙ sym inside.own)

behind : (a b : ℕ) → a ≤ b → (m : ℕ) × (b ≡ a + m)
behind zero b l = (b, omega arith)
behind (suc a) zero l = absurd (omega (arith, l))
behind (suc a) (suc b) l = let w = behind a b (omega (arith, l)) in let is = w.1 in (w.0, omega (arith, is))

-- in the first function or in a later one
beside_by : (func first : ℕ) (f : Func) (funcs : List Func) (n : ℕ) (q : Point) → slice_get (points_in func first (f ∷ funcs)) n ≡ Some q → (k : ℕ) → Contains q.next k →
    ((m : ℕ) → slice_get (points_in (func + 1) (first + body_count f.body) funcs) m ≡ Some q → IsBeside funcs (func + 1) (first + body_count f.body) q k) → IsBeside (f ∷ funcs) func first q k
beside_by func first f funcs n q e k c rest = by (cases_lt n (length (body_points func first f.body)))
  where
    later : List Point
    later = points_in (func + 1) (first + body_count f.body) funcs

    in_later : ((m : ℕ) × (n ≡ length (body_points func first f.body) + m)) → IsBeside (f ∷ funcs) func first q k
    in_later (m, is) =
        let there : slice_get later m ≡ Some q = sym (get_after (body_points func first f.body) later m n is) ∙ e in
        let w = rest m there in
        let counted = body_counted func first f.body in
        let is_k = w.2 in (
          body_count f.body + w.0,
          w.1,
          omega (arith, is_k),
          get_after (body_points func first f.body) later w.0 (body_count f.body + w.0) (omega (arith, counted)) ∙ w.3,
          w.4,
        )

    by : ((n < length (body_points func first f.body)) ⊎ (length (body_points func first f.body) ≤ n)) → IsBeside (f ∷ funcs) func first q k
    by (inl l) = body_beside func first f funcs n q (sym (get_before (body_points func first f.body) later n l) ∙ e) k c
    by (inr l) = in_later (behind (length (body_points func first f.body)) n l)

next_beside : (funcs : List Func) (func first n : ℕ) (q : Point) → slice_get (points_in func first funcs) n ≡ Some q → (k : ℕ) → Contains q.next k → IsBeside funcs func first q k
next_beside [] func first n q e k c = absurd (cc)
next_beside (f ∷ funcs) func first n q e k c = beside_by func first f funcs n q e k c (λ m there. next_beside funcs (func + 1) (first + body_count f.body) m q there k c)

pub point_below : (p : Program) (n : ℕ) (q : Point) → slice_get (flow_of p).points n ≡ Some q → n < count_of p
point_below p n q e = let l = slice_get_within (flow_of p).points n q e in let counted = all_counted p in omega (arith, l, counted)

module _ {I : Type 0} (d : Domain I) (p : Program) (facts : Facts I) where
  -- where control goes from a point is a point of the same function
  pub next_function : (n : ℕ) (q : Point) (f : Func) → slice_get (flow_of p).points n ≡ Some q → slice_get p.funcs q.func ≡ Some f → (k : ℕ) → Contains q.next k → IsFunctionAt d p facts k f
  next_function n q f numbered function k c =
      let w = next_beside p.funcs 0 0 n q numbered k c in
      let is = w.2 in
      let at : k ≡ w.0 = omega (arith, is) in
      (w.1, ap (slice_get (points_in 0 0 p.funcs)) at ∙ w.3, ap (slice_get p.funcs) w.4 ∙ function)

  -- a point of a function, by its place there
  pub function_point : (id : ℕ) (f : Func) → slice_get p.funcs id ≡ Some f → (m : ℕ) → m < body_count f.body → IsFunctionAt d p facts (entry p id + m) f
  function_point id f function m l =
      let counted = body_counted id (entry p id) f.body in
      let w = some_within (body_points id (entry p id) f.body) m (omega (arith, l, counted)) in
      (w.0, point_of p id f function m l ∙ w.1, ap (slice_get p.funcs) (is_in id (entry p id) f m w.0 w.1).own ∙ function)

  pub entry_function : (id : ℕ) (f : Func) → slice_get p.funcs id ≡ Some f → IsFunctionAt d p facts (entry p id) f
  entry_function id f function =
      subst (λ (n : ℕ). IsFunctionAt d p facts n f) (let e : entry p id + 0 ≡ entry p id = omega arith in e) (function_point id f function 0 (omega arith))

  pub exit_function : (id : ℕ) (f : Func) → slice_get p.funcs id ≡ Some f → IsFunctionAt d p facts (exit_of p id f) f
  exit_function id f function = function_point id f function (total_of f.body) (omega arith)

-- the exit is the last point, and has no statement
module _ (p : Program) (id : ℕ) (f : Func) (function : slice_get p.funcs id ≡ Some f) where
  abbrev exit_point : Point
  exit_point = record { func = id; path = length f.body ∷ []; next = [] }

  abbrev body_only : List Point
  body_only = list_points (pieces f.body) [] 0 (body_site id (entry p id) (entry p id + total_of f.body))

  exit_numbered : slice_get (flow_of p).points (exit_of p id f) ≡ Some exit_point
  exit_numbered =
      let counted = body_counted id (entry p id) f.body in
      let both = length-append body_only (exit_point ∷ []) in
      point_of p id f function (total_of f.body) (omega arith) ∙ get_after body_only (exit_point ∷ []) 0 (total_of f.body) (omega (arith, counted, both))

  pub exit_empty : {C : Type 0} (q : Point) (s : Stmt) → slice_get (flow_of p).points (exit_of p id f) ≡ Some q → statement_at f.body q.path ≡ Some s → C
  exit_empty q s numbered stands =
      let same : q ≡ exit_point = same_Some q exit_point (sym numbered ∙ exit_numbered) in
      let none : statement_at f.body q.path ≡ None = ap (λ (r : Point). statement_at f.body r.path) same ∙ slice_get_past f.body (length f.body) (omega arith) in
      absurd (let e : None ≡ Some s = sym none ∙ stands in cc)
