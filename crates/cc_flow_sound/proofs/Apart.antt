-- No two points of a program are of one function with one path.
use Rattle.std.proofs.Common.{arith, ◌≡◌, ◌≢◌, ◌<◌, ◌≤◌, ◌+◌, ℕ, Bool, true, false, nat_lt, List, [], ◌∷◌, All, AllPairs, get_or, refl, ap, sym, ◌∙◌}
use Rattle.std.proofs.lemmas.List.Elements.{All-nil, All-append, All-weaker}
use Rattle.std.proofs.lemmas.Option.{get_or_from_slice_get, slice_get_within}
use Rattle.std.proofs.lemmas.Bool.Decides.{nat_tests}
use Rattle.cc_program.specs.declared.func.Func.{Func}
use Rattle.cc_program.specs.declared.program.Program.{Program}
use Rattle.cc_program.specs.declared.stmt.Stmt.{Stmt}
use Rattle.cc_flow.specs.declared.types.Point.{Point}
use Rattle.cc_flow.specs.Laws.{IsIn}
use Rattle.cc_flow.specs.Points.{body_count, body_points, points_in, flow_of}
use Rattle.cc_flow.proofs.Inside.{body_inside}
use Rattle.cc_flow.proofs.Pairs.{pairs_nil, pairs_append}
use Rattle.cc_flow.proofs.Paths.{body_apart}
use Rattle.cc_flow_sound.specs.Moves.{Standing, IsAt}

abbrev AreTwo : Point → Point → Type 0
AreTwo q r = q.func ≡ r.func → q.path ≢ r.path

own_func : (func first : ℕ) (body : List Stmt) → All (λ (q : Point). q.func ≡ func) (body_points func first body)
own_func func first body = All-weaker (IsIn func first (first + body_count body)) (λ (q : Point). q.func ≡ func) (λ q h. h.own) (body_points func first body) (body_inside func first body)

later_funcs : (func first : ℕ) (funcs : List Func) → All (λ (q : Point). func ≤ q.func) (points_in func first funcs)
later_funcs func first [] = All-nil (λ (q : Point). func ≤ q.func)
later_funcs func first (f ∷ funcs) =
    All-append (λ (q : Point). func ≤ q.func) (body_points func first f.body) (points_in (func + 1) (first + body_count f.body) funcs)
    (All-weaker (λ (q : Point). q.func ≡ func) (λ (q : Point). func ≤ q.func) (λ q h. omega (arith, h)) (body_points func first f.body) (own_func func first f.body))
    (All-weaker (λ (q : Point). func + 1 ≤ q.func) (λ (q : Point). func ≤ q.func) (λ q h. omega (arith, h)) (points_in (func + 1) (first + body_count f.body) funcs) (later_funcs (func + 1) (first + body_count f.body) funcs))

pairs_weaker : (R S : Point → Point → Type 0) → ((q r : Point) → R q r → S q r) → (xs : List Point) → AllPairs R xs → AllPairs S xs
pairs_weaker R S h xs all = λ i j d a b. h (get_or xs i d) (get_or xs j d) (all i j d a b)

two_points : (func first : ℕ) (funcs : List Func) → AllPairs AreTwo (points_in func first funcs)
two_points func first [] = pairs_nil AreTwo
two_points func first (f ∷ funcs) =
    let own = body_points func first f.body in
    let later = points_in (func + 1) (first + body_count f.body) funcs in
    pairs_append AreTwo own later (pairs_weaker (λ q r. q.path ≢ r.path) AreTwo (λ q r h e. h) own (body_apart func first f.body)) (two_points (func + 1) (first + body_count f.body) funcs)
    (All-weaker (λ (q : Point). q.func ≡ func) (λ (q : Point). All (AreTwo q) later)
    (λ q h. All-weaker (λ (r : Point). func + 1 ≤ r.func) (AreTwo q) (λ r k e. absurd (omega (arith, h, k, e))) later (later_funcs (func + 1) (first + body_count f.body) funcs)) own (own_func func first f.body))

module _ (p : Program) (at : Standing) where
  not_below : (m n : ℕ) → IsAt p at m → IsAt p at n → m < n → ⊥
  not_below m n h k l =
      let points = (flow_of p).points in
      let first = get_or_from_slice_get points m h.point h.point h.numbered in
      let second = get_or_from_slice_get points n k.point h.point k.numbered in
      two_points 0 0 p.funcs m n h.point l (slice_get_within points n k.point k.numbered)
      (ap (λ (q : Point). q.func) first ∙ h.function ∙ sym k.function ∙ sym (ap (λ (q : Point). q.func) second))
      (ap (λ (q : Point). q.path) first ∙ h.path ∙ sym k.path ∙ sym (ap (λ (q : Point). q.path) second))

  pub one_point : (m n : ℕ) → IsAt p at m → IsAt p at n → m ≡ n
  one_point m n h k = by (nat_lt m n) (nat_lt n m) refl refl
    where
      by : (b c : Bool) → nat_lt m n ≡ b → nat_lt n m ≡ c → m ≡ n
      by true c e f = absurd (not_below m n h k (grind (arith, nat_tests)))
      by false true e f = absurd (not_below n m k h (grind (arith, nat_tests)))
      by false false e f = grind (arith, nat_tests)
