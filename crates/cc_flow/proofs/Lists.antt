-- The points of a list of statements, as far as a loop has come.
use Rattle.std.proofs.Common.{◌≡◌, ◌<◌, ◌≤◌, ◌+◌, ◌-◌, ℕ, List, [], ◌∷◌, ◌++◌, length, drop, get_or, refl, ap, sym, ◌∙◌, append_assoc, arith}
use Rattle.std.proofs.Math.ListN.{drop_of_length-le}
use Rattle.std.proofs.lemmas.List.{append-nil}
use Rattle.std.proofs.lemmas.List.Sums.{sum_by-cons}
use Rattle.cc_program.specs.declared.stmt.Stmt.{Stmt}
use Rattle.cc_flow.specs.declared.next.Site.{Site}
use Rattle.cc_flow.specs.declared.types.Point.{Point}
use Rattle.cc_flow.specs.Next.{reached}
use Rattle.cc_flow.specs.Points.{total, list_points, piece_of, pieces, size_of, total_of}
use Rattle.cc_flow.proofs.Pieces.{drop_at, positive, total-pieces}

-- those so far, and those that are to come, are all
pub record ListLeft (list : List Stmt) (path : List ℕ) (site : Site) (end : ℕ) (whole : List Point) (i position number : ℕ) (points : List Point) : Type 0 where
  pub left : points ++ list_points (pieces (drop i list)) path position (record site { number = number }) ≡ whole
  pub ends : number + total_of (drop i list) ≡ end
  pub low : position ≤ number

pub list_none : (list : List Stmt) (path : List ℕ) (site : Site) (end first : ℕ) (before : List Point) → end ≡ site.number + total_of list → first ≤ site.number →
    ListLeft list path site end (before ++ list_points (pieces list) path first site) 0 first site.number before
list_none list path site end first before e h = record { left = refl; ends = sym e; low = h }

module _ (list : List Stmt) (path : List ℕ) (site : Site) (end : ℕ) (whole : List Point) (i position number : ℕ) (points : List Point) (s : Stmt) (h : i < length list) (is : s ≡ get_or list i s)
    (left : ListLeft list path site end whole i position number points) where
  ends : number + (size_of s + total_of (drop (i + 1) list)) ≡ end
  ends =
      let e = ap total_of (drop_at list i s h is) in
      let one = sum_by-cons size_of s (drop (i + 1) list) in
      let ends = left.ends in
      omega (arith, e, one, ends)

  -- the statement has room, and so has the next position
  pub list_room : (number + size_of s ≤ end) × (position + 1 ≤ end)
  list_room =
      let e = ends in
      let some = positive s in
      let low = left.low in
      (omega (arith, e), omega (arith, e, some, low))

  pub list_more : (inner : List ℕ) (next behind : ℕ) (more : List Point) → inner ≡ path ++ position ∷ [] → next ≡ number + size_of s → behind ≡ reached (end - next) next site.behind →
      more ≡ points ++ (piece_of s).points inner (record site { number = number; behind = behind }) → ListLeft list path site end whole (i + 1) (position + 1) next more
  list_more inner next behind more p n b q =
      let rest = drop (i + 1) list in
      let e = ends in
      let some = positive s in
      let low = left.low in
      let count : end - next ≡ total (pieces rest) = (let t = total-pieces rest in omega (arith, e, n, t)) in
      let own : (piece_of s).points inner (record site { number = number; behind = behind })
      ≡ (piece_of s).points (path ++ position ∷ []) (record site { number = number; behind = reached (total (pieces rest)) (number + size_of s) site.behind }) =
      ap (λ ns. (piece_of s).points ns (record site { number = number; behind = behind })) p
      ∙ ap (λ m. (piece_of s).points (path ++ position ∷ []) (record site { number = number; behind = m })) (b ∙ ap (λ m. reached m next site.behind) count ∙ ap (λ m. reached (total (pieces rest)) m site.behind) n) in
      record {
        left =
            ap (λ m. more ++ list_points (pieces rest) path (position + 1) (record site { number = m })) n
            ∙ ap (λ (ps : List Point). ps ++ list_points (pieces rest) path (position + 1) (record site { number = number + size_of s })) (q ∙ ap (λ (ps : List Point). points ++ ps) own)
            ∙ append_assoc points ((piece_of s).points (path ++ position ∷ []) (record site { number = number; behind = reached (total (pieces rest)) (number + size_of s) site.behind }))
            (list_points (pieces rest) path (position + 1) (record site { number = number + size_of s }))
            ∙ ap (λ (ss : List Stmt). points ++ list_points (pieces ss) path position (record site { number = number })) (sym (drop_at list i s h is)) ∙ left.left;
        ends = omega (arith, e, n);
        low = omega (arith, n, some, low);
      }

pub list_all : (list : List Stmt) (path : List ℕ) (site : Site) (end : ℕ) (whole : List Point) (i position number : ℕ) (points : List Point) → length list ≤ i → ListLeft list path site end whole i position number points → points ≡ whole
list_all list path site end whole i position number points h left =
    sym (append-nil points) ∙ ap (λ (ss : List Stmt). points ++ list_points (pieces ss) path position (record site { number = number })) (sym (drop_of_length-le list {i = i} h)) ∙ left.left
