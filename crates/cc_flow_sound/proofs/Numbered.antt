-- Where an activation stands at a site, it stands at the program's point of the site's number.
use Rattle.std.proofs.Common.{arith, ◌≡◌, ◌≤◌, ◌<◌, ◌+◌, ◌^◌, ℕ, zero, suc, Bool, true, false, nat_eq, List, [], ◌∷◌, ◌++◌, length, Some, slice_get, get_or, reverse, map, refl, ap, sym, ◌∙◌, subst}
use Rattle.std.specs.Prelude.{if◌then◌else◌}
use Rattle.std.proofs.lemmas.List.{append-nil}
use Rattle.std.proofs.lemmas.List.Sums.{sum_by-cons}
use Rattle.std.proofs.lemmas.Option.{same_Some}
use Rattle.cc_program.specs.declared.func.Func.{Func}
use Rattle.cc_program.specs.declared.program.Program.{Program}
use Rattle.cc_program.specs.declared.stmt.Stmt.{Stmt, out-Stmt}
use Rattle.cc_states.specs.CcControl.Control.{Level, Control, path_of}
use Rattle.cc_flow.specs.declared.next.Site.{Site}
use Rattle.cc_flow.specs.declared.types.Point.{Point}
use Rattle.cc_flow.specs.Points.{point, total_of, body_count, body_points, count_in, count_of, points_in, firsts_in, flow_of}
use Rattle.cc_flow.proofs.Paths.{body_counted}
use Rattle.cc_flow.proofs.Pieces.{length-le}
use Rattle.cc_flow.proofs.Tests.{zero_of}
use Rattle.cc_states.proofs.ListLemmas.{get_before, get_after}
use Rattle.cc_flow_sound.specs.Moves.{entry, IsAt}
use Rattle.cc_flow_sound.specs.Sites.{own_site, nexts, StandsAt, base_of, number_at, IsPoint}
use Rattle.cc_flow_sound.proofs.Places.{first_number, end_at, exit_of}
use Rattle.cc_flow_sound.proofs.Segments.{inside_points, point_there, number_from, counted_all}

-- ---- the points of a function are a part of all points

zero_plus : (n : ℕ) → 0 + n ≡ n
zero_plus n = omega arith

-- the function's first point stands behind so many others
pub record IsFunctionAt (funcs : List Func) (func first i : ℕ) (f : Func) : Type 0 where
  pub before : ℕ
  pub first_is : get_or (firsts_in first funcs) i 0 ≡ first + before
  pub within : before + body_count f.body ≤ count_in funcs
  pub points : (k : ℕ) → k < body_count f.body → slice_get (points_in func first funcs) (before + k) ≡ slice_get (body_points (func + i) (first + before) f.body) k

first_function : (g : Func) (funcs : List Func) (func first : ℕ) (f : Func) → g ≡ f → IsFunctionAt (g ∷ funcs) func first zero f
first_function g funcs func first f e = record {
  before = 0;
  first_is = omega arith;
  within = let n = ap (λ (h : Func). body_count h.body) e in let s = sum_by-cons (λ (h : Func). body_count h.body) g funcs in omega (arith, n, s);
  points = λ k h.
      let c : length (body_points func first g.body) ≡ body_count f.body = body_counted func first g.body ∙ ap (λ (h : Func). body_count h.body) e in
      ap (slice_get (points_in func first (g ∷ funcs))) (zero_plus k)
      ∙ get_before (body_points func first g.body) (points_in (func + 1) (first + body_count g.body) funcs) k (omega (arith, h, c))
      ∙ ap (λ (h : Func). slice_get (body_points func first h.body) k) e
      ∙ ap (λ (n : ℕ). slice_get (body_points n first f.body) k) (no_more func) ∙ ap (λ (n : ℕ). slice_get (body_points (func + 0) n f.body) k) (no_more first);
}
  where
    no_more : (n : ℕ) → n ≡ n + 0
    no_more n = omega arith

later_function : (g : Func) (funcs : List Func) (func first i : ℕ) (f : Func) → IsFunctionAt funcs (func + 1) (first + body_count g.body) i f → IsFunctionAt (g ∷ funcs) func first (suc i) f
later_function g funcs func first i f h = record {
  before = body_count g.body + h.before;
  first_is = h.first_is ∙ sum first (body_count g.body) h.before;
  within = let s = sum_by-cons (λ (h : Func). body_count h.body) g funcs in let w = h.within in omega (arith, s, w);
  points = λ k l.
      let c = body_counted func first g.body in
      get_after (body_points func first g.body) (points_in (func + 1) (first + body_count g.body) funcs) (h.before + k) (body_count g.body + h.before + k) (omega (arith, c))
      ∙ h.points k l
      ∙ ap (λ (n : ℕ). slice_get (body_points n (first + body_count g.body + h.before) f.body) k) (one_more func i)
      ∙ ap (λ (n : ℕ). slice_get (body_points (func + suc i) n f.body) k) (sum first (body_count g.body) h.before);
}
  where
    sum : (a b c : ℕ) → a + b + c ≡ a + (b + c)
    sum a b c = omega arith

    one_more : (n m : ℕ) → n + 1 + m ≡ n + suc m
    one_more n m = omega arith

function_at : (funcs : List Func) (func first i : ℕ) (f : Func) → slice_get funcs i ≡ Some f → IsFunctionAt funcs func first i f
function_at [] func first i f e = absurd (cc)
function_at (g ∷ funcs) func first zero f e = first_function g funcs func first f (same_Some g f e)
function_at (g ∷ funcs) func first (suc i) f e = later_function g funcs func first i f (function_at funcs (func + 1) (first + body_count g.body) i f e)

module _ (p : Program) (id : ℕ) (f : Func) (there : slice_get p.funcs id ≡ Some f) where
  whole : IsFunctionAt p.funcs 0 0 id f
  whole = function_at p.funcs 0 0 id f there

  first_is : entry p id ≡ whole.before
  first_is = whole.first_is ∙ zero_plus whole.before

  pub room : entry p id + body_count f.body ≤ count_of p
  room = let w = whole.within in let e = first_is in omega (arith, w, e)

  pub point_of : (k : ℕ) → k < body_count f.body → slice_get (flow_of p).points (entry p id + k) ≡ slice_get (body_points id (entry p id) f.body) k
  point_of k h =
      ap (λ (n : ℕ). slice_get (flow_of p).points (n + k)) first_is ∙ whole.points k h
      ∙ ap (λ (n : ℕ). slice_get (body_points n (0 + whole.before) f.body) k) (zero_plus id)
      ∙ ap (λ (n : ℕ). slice_get (body_points id n f.body) k) (zero_plus whole.before ∙ sym first_is)

  abbrev base : Site
  base = base_of p id f

  -- a function is entered at its first point
  pub entered_at : number_at f.body base ≡ entry p id
  entered_at = by (nat_eq (total_of f.body) 0) refl
    where
      by : (b : Bool) → nat_eq (total_of f.body) 0 ≡ b → (if b then entry p id + total_of f.body else entry p id) ≡ entry p id
      by true e = let z = zero_of (total_of f.body) e in omega (arith, z)
      by false e = refl

  module _ (few : count_of p < 2 ^ 32) where
    small : entry p id + total_of f.body < 2 ^ 32
    small = let r = room in omega (arith, r, few)

    -- at a statement
    pub record IsThere (at : Control) (s : Stmt) (rest : List Stmt) (site : Site) : Type 0 where
      pub point_at : IsAt p (id, at) site.number
      pub next_is : point_at.point.next ≡ nexts (out-Stmt s) (own_site s rest site)

    pub at_statement : (at : Control) (s : Stmt) (rest : List Stmt) (site : Site) → at.0.rest ≡ s ∷ rest → StandsAt base f.body at.1 (s ∷ rest) at.0.position site → IsThere at s rest site
    at_statement at s rest site here stands =
        let n = number_from id (entry p id) f.body small at.1 (s ∷ rest) at.0.position site stands in
        let low = n.2 in
        let own = own_site s rest site in
        let numbered : slice_get (flow_of p).points site.number ≡ Some (point (path_of at) own (nexts (out-Stmt s) own)) =
        ap (slice_get (flow_of p).points) n.1 ∙ point_of n.0 (omega (arith, low)) ∙ point_there id (entry p id) f.body small at s rest site here stands n.0 n.1 in
        record {
          point_at = record { point = point (path_of at) own (nexts (out-Stmt s) own); numbered = numbered; function = (exit_of p.target f base f.body at.1 (s ∷ rest) at.0.position site stands).1; path = refl };
          next_is = refl;
        }

    -- at the end of the body
    abbrev exit_point : Point
    exit_point = record { func = id; path = length f.body ∷ []; next = [] }

    exit_numbered : slice_get (flow_of p).points (entry p id + total_of f.body) ≡ Some exit_point
    exit_numbered =
        let c = counted_all base f.body small in
        point_of (total_of f.body) (omega arith) ∙ get_after (inside_points base f.body) (exit_point ∷ []) 0 (total_of f.body) (omega (arith, c))

    at_end : (at : Control) (n : ℕ) → IsPoint base f.body at n → at.0.rest ≡ [] → (around : List Level) → at.1 ≡ around → around ≡ [] → IsAt p (id, at) n
    at_end at n h e (l ∷ around) a k = absurd (cc)
    at_end at n h e [] a k =
        let is_end : n ≡ entry p id + total_of f.body = end_at p.target f base f.body at.0 at.1 n h e in
        let stands : StandsAt base f.body [] at.0.rest at.0.position h.0 = subst (λ (levels : List Level). StandsAt base f.body levels at.0.rest at.0.position h.0) a h.1 in
        let all : f.body ≡ stands.front = stands.whole ∙ ap (λ (l : List Stmt). stands.front ++ l) e ∙ append-nil stands.front in
        let lengths = ap length all in
        let counts = stands.counts in
        let few = small in
        let low = length-le f.body in
        let position : at.0.position ≡ length f.body = omega (arith, lengths, counts, few, low) in
        record {
          point = exit_point;
          numbered = ap (slice_get (flow_of p).points) is_end ∙ exit_numbered;
          function = refl;
          path = ap (λ (m : ℕ). m ∷ []) (sym position) ∙ ap (λ (levels : List Level). reverse (at.0.position ∷ map (λ (l : Level). l.position) levels)) (sym a);
        }

    pub at_point : (at : Control) (n : ℕ) → IsPoint base f.body at n → IsAt p (id, at) n
    at_point at n h = by at.0.rest refl
      where
        by : (list : List Stmt) → at.0.rest ≡ list → IsAt p (id, at) n
        by [] e = at_end at n h e at.1 refl (h.3 e)
        by (s ∷ rest) e =
            let there = at_statement at s rest h.0 e (subst (λ (l : List Stmt). StandsAt base f.body at.1 l at.0.position h.0) e h.1) in
            subst (IsAt p (id, at)) (sym (first_number s rest h.0) ∙ ap (λ (l : List Stmt). number_at l h.0) (sym e) ∙ h.2) there.point_at
