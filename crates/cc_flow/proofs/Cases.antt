-- The points of the cases of a `switch`, as far as a loop has come.
use Rattle.std.proofs.Common.{◌≡◌, ◌<◌, ◌≤◌, ◌+◌, ◌-◌, ℕ, List, ◌++◌, length, drop, get_or, refl, ap, sym, ◌∙◌, append_assoc, arith}
use Rattle.std.proofs.Math.ListN.{drop_of_length-le}
use Rattle.std.proofs.lemmas.List.{append-nil, length-map}
use Rattle.std.proofs.lemmas.List.Sums.{sum_by-cons}
use Rattle.cc_program.specs.declared.stmt.Case.{Case, out-Case}
use Rattle.cc_flow.specs.declared.next.Site.{Site}
use Rattle.cc_flow.specs.declared.types.Point.{Point}
use Rattle.cc_flow.specs.Next.{reached}
use Rattle.cc_flow.specs.Points.{total, total_in_cases, list_points, case_points, piece_of, pieces}
use Rattle.cc_flow.specs.View.{case_pieces, case_total, total_of_cases}
use Rattle.cc_flow.proofs.Pieces.{drop_at, length-le, total-pieces, total-cases}

-- those so far, and those that are to come, are all
pub record CasesLeft (cases : List Case) (path : List ℕ) (site : Site) (end : ℕ) (whole : List Point) (i position number : ℕ) (points : List Point) : Type 0 where
  pub left : points ++ case_points (case_pieces (drop i cases)) path position (record site { number = number }) ≡ whole
  pub ends : number + total_of_cases (drop i cases) ≡ end
  pub low : position ≤ number

pub cases_none : (cases : List Case) (path : List ℕ) (site : Site) (end : ℕ) (before : List Point) → end ≡ site.number + total_of_cases cases →
    CasesLeft cases path site end (before ++ case_points (case_pieces cases) path 0 site) 0 0 site.number before
cases_none cases path site end before e = record { left = refl; ends = sym e; low = omega arith }

module _ (cases : List Case) (path : List ℕ) (site : Site) (end : ℕ) (whole : List Point) (i position number : ℕ) (points : List Point) (c : Case) (h : i < length cases) (is : c ≡ get_or cases i c)
    (left : CasesLeft cases path site end whole i position number points) where
  ends : number + (case_total c + total_of_cases (drop (i + 1) cases)) ≡ end
  ends =
      let e = ap total_of_cases (drop_at cases i c h is) in
      let one = sum_by-cons case_total c (drop (i + 1) cases) in
      let ends = left.ends in
      omega (arith, e, one, ends)

  -- the case has room, and so has the next position
  pub cases_room : (number + case_total c ≤ end) × (position + length (out-Case c).body ≤ end) × (length (out-Case c).body ≤ case_total c)
  cases_room =
      let e = ends in
      let some = length-le (out-Case c).body in
      let low = left.low in
      (omega (arith, e), omega (arith, e, some, low), some)

  pub cases_more : (next behind last : ℕ) (more : List Point) → next ≡ number + case_total c → behind ≡ reached (end - next) next site.behind → last ≡ position + length (out-Case c).body →
      more ≡ points ++ list_points (pieces (out-Case c).body) path position (record site { number = number; behind = behind }) → CasesLeft cases path site end whole (i + 1) last next more
  cases_more next behind last more n b l q =
      let rest = drop (i + 1) cases in
      let body = pieces (out-Case c).body in
      let e = ends in
      let some = length-le (out-Case c).body in
      let low = left.low in
      let count : end - next ≡ total_in_cases (case_pieces rest) = (let t = total-cases rest in omega (arith, e, n, t)) in
      let step : next ≡ number + total body = n ∙ ap (λ m. number + m) (sym (total-pieces (out-Case c).body)) in
      let place : last ≡ position + length body = l ∙ ap (λ m. position + m) (sym (length-map (out-Case c).body piece_of)) in
      let own : list_points body path position (record site { number = number; behind = behind })
      ≡ list_points body path position (record site { number = number; behind = reached (total_in_cases (case_pieces rest)) (number + total body) site.behind }) =
      ap (λ m. list_points body path position (record site { number = number; behind = m })) (b ∙ ap (λ m. reached m next site.behind) count ∙ ap (λ m. reached (total_in_cases (case_pieces rest)) m site.behind) step) in
      record {
        left =
            ap (λ m. more ++ case_points (case_pieces rest) path last (record site { number = m })) step
            ∙ ap (λ m. more ++ case_points (case_pieces rest) path m (record site { number = number + total body })) place
            ∙ ap (λ (ps : List Point). ps ++ case_points (case_pieces rest) path (position + length body) (record site { number = number + total body })) (q ∙ ap (λ (ps : List Point). points ++ ps) own)
            ∙ append_assoc points (list_points body path position (record site { number = number; behind = reached (total_in_cases (case_pieces rest)) (number + total body) site.behind }))
            (case_points (case_pieces rest) path (position + length body) (record site { number = number + total body }))
            ∙ ap (λ (cs : List Case). points ++ case_points (case_pieces cs) path position (record site { number = number })) (sym (drop_at cases i c h is)) ∙ left.left;
        ends = omega (arith, e, n);
        low = omega (arith, n, some, low, l);
      }

pub cases_all : (cases : List Case) (path : List ℕ) (site : Site) (end : ℕ) (whole : List Point) (i position number : ℕ) (points : List Point) → length cases ≤ i → CasesLeft cases path site end whole i position number points → points ≡ whole
cases_all cases path site end whole i position number points h left =
    sym (append-nil points) ∙ ap (λ (cs : List Case). points ++ case_points (case_pieces cs) path position (record site { number = number })) (sym (drop_of_length-le cases {i = i} h)) ∙ left.left
