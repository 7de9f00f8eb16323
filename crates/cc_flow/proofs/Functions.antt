-- The points of functions, as far as a loop has come.
use Rattle.std.proofs.Common.{◌≡◌, ◌<◌, ◌≤◌, ◌+◌, ℕ, List, [], ◌∷◌, ◌++◌, length, drop, get_or, refl, ap, sym, ◌∙◌, append_assoc, arith}
use Rattle.std.proofs.Math.ListN.{drop_of_length-le}
use Rattle.std.proofs.lemmas.List.{append-nil}
use Rattle.std.proofs.lemmas.List.Sums.{sum_by-cons}
use Rattle.cc_program.specs.declared.func.Func.{Func}
use Rattle.cc_flow.specs.declared.types.Point.{Point}
use Rattle.cc_flow.specs.Points.{body_count, body_points, count_in, points_in, firsts_in}
use Rattle.cc_flow.proofs.Pieces.{drop_at}

-- those so far, and those that are to come, are all
pub record FuncsLeft (funcs : List Func) (i number : ℕ) (points : List Point) (first : List ℕ) : Type 0 where
  pub left : points ++ points_in i number (drop i funcs) ≡ points_in 0 0 funcs
  pub firsts : first ++ firsts_in number (drop i funcs) ≡ firsts_in 0 funcs
  pub ends : number + count_in (drop i funcs) ≡ count_in funcs
  pub low : i ≤ number

pub funcs_none : (funcs : List Func) → FuncsLeft funcs 0 0 [] []
funcs_none funcs = record { left = refl; firsts = refl; ends = omega arith; low = omega arith }

module _ (funcs : List Func) (i number : ℕ) (points : List Point) (first : List ℕ) (f : Func) (h : i < length funcs) (is : f ≡ get_or funcs i f) (left : FuncsLeft funcs i number points first) where
  ends : number + (body_count f.body + count_in (drop (i + 1) funcs)) ≡ count_in funcs
  ends =
      let e = ap count_in (drop_at funcs i f h is) in
      let one = sum_by-cons (λ (g : Func). body_count g.body) f (drop (i + 1) funcs) in
      let ends = left.ends in
      omega (arith, e, one, ends)

  pub funcs_room : number + body_count f.body ≤ count_in funcs
  funcs_room = let e = ends in omega (arith, e)

  pub funcs_more : (next : ℕ) (more : List Point) (others : List ℕ) → next ≡ number + body_count f.body → more ≡ points ++ body_points i number f.body → others ≡ first ++ number ∷ [] → FuncsLeft funcs (i + 1) next more others
  funcs_more next more others n p q =
      let e = ends in
      let low = left.low in
      record {
        left =
            ap (λ m. more ++ points_in (i + 1) m (drop (i + 1) funcs)) n
            ∙ ap (λ (ps : List Point). ps ++ points_in (i + 1) (number + body_count f.body) (drop (i + 1) funcs)) p
            ∙ append_assoc points (body_points i number f.body) (points_in (i + 1) (number + body_count f.body) (drop (i + 1) funcs))
            ∙ ap (λ (fs : List Func). points ++ points_in i number fs) (sym (drop_at funcs i f h is)) ∙ left.left;
        firsts =
            ap (λ m. others ++ firsts_in m (drop (i + 1) funcs)) n
            ∙ ap (λ (ns : List ℕ). ns ++ firsts_in (number + body_count f.body) (drop (i + 1) funcs)) q
            ∙ append_assoc first (number ∷ []) (firsts_in (number + body_count f.body) (drop (i + 1) funcs))
            ∙ ap (λ (fs : List Func). first ++ firsts_in number fs) (sym (drop_at funcs i f h is)) ∙ left.firsts;
        ends = omega (arith, e, n);
        low = omega (arith, n, low);
      }

pub funcs_all : (funcs : List Func) (i number : ℕ) (points : List Point) (first : List ℕ) → length funcs ≤ i → FuncsLeft funcs i number points first → (points ≡ points_in 0 0 funcs) × (first ≡ firsts_in 0 funcs)
funcs_all funcs i number points first h left =
    let none = drop_of_length-le funcs {i = i} h in (
      sym (append-nil points) ∙ ap (λ (fs : List Func). points ++ points_in i number fs) (sym none) ∙ left.left,
      sym (append-nil first) ∙ ap (λ (fs : List Func). first ++ firsts_in number fs) (sym none) ∙ left.firsts,
    )
