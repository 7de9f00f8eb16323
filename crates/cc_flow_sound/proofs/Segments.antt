-- The points of a list that is left are a part of those of the body, at the list's number; so where an activation stands there is a point,
-- with its path, from which control goes where the site says.
use Rattle.std.proofs.Common.{arith, ◌≡◌, ◌≤◌, ◌<◌, inl, inr, ◌+◌, ◌^◌, ℕ, Bool, true, false, List, [], ◌∷◌, ◌++◌, map, length, length-append, append_assoc, nat_eq, slice_get, Some, reverse, refl, ap, sym, ◌∙◌, subst}
use Rattle.std.specs.Prelude.{if◌then◌else◌}
use mathlib.Core.List.{reverse-cons}
use Rattle.std.proofs.lemmas.List.{map-append, append-nil}
use Rattle.std.proofs.lemmas.List.Sums.{sum_by-cons}
use Rattle.cc_program.proofs.Each.{Each}
use Rattle.cc_program.specs.declared.stmt.Case.{Case, out-Case}
use Rattle.cc_program.specs.declared.stmt.Stmt.{Stmt, out-Stmt, map-Stmt}
use Rattle.cc_program.specs.declared.stmt.Stmt.TheOpen as is
use Rattle.cc_states.specs.CcControl.Control.{Level, Control, counted, bodies, path_of}
use Rattle.cc_flow.specs.declared.next.Site.{Site}
use Rattle.cc_flow.specs.declared.types.Point.{Point}
use Rattle.cc_flow.specs.Next.{reached}
use Rattle.cc_flow.specs.Points.{Piece, CasePiece, total, total_in_cases, list_points, case_points, point, if_next, loop_next, switch_next, flow_step, piece_of, pieces, size_of, total_of, body_site, body_points}
use Rattle.cc_flow.specs.View.{case_piece, case_pieces}
use Rattle.cc_flow.proofs.PieceInduction.{PieceParts, InCase, all_pieces}
use Rattle.cc_flow.proofs.Pieces.{total-pieces, length-le, next-of-cases}
use Rattle.cc_flow.proofs.Tests.{zero_of, some_of}
use Rattle.cc_states.proofs.ListLemmas.{get_after}
use Rattle.cc_flow_sound.specs.Sites.{moved_to, own_site, loop_site, switch_site, IsSiteIn, IsPlaced, StandsAt, nexts}
use Rattle.cc_flow_sound.proofs.Opened.{folded, folded_cases, piece_level}

-- ---- as many points as are counted

abbrev Counted : Piece → Type 0
Counted p = (path : List ℕ) (site : Site) → length (p.points path site) ≡ p.count

list_counted : (list : List Piece) → Each Counted list → (path : List ℕ) (position : ℕ) (site : Site) → length (list_points list path position site) ≡ total list
list_counted [] h path position site = refl
list_counted (p ∷ list) h path position site =
    let first : Site = record site { behind = reached (total list) (site.number + p.count) site.behind } in
    let next : Site = record site { number = site.number + p.count } in
    let one = h.0 (path ++ position ∷ []) first in
    let rest = list_counted list h.1 path (position + 1) next in
    let both = length-append (p.points (path ++ position ∷ []) first) (list_points list path (position + 1) next) in
    let sum = sum_by-cons (λ (p : Piece). p.count) p list in
    omega (arith, one, rest, both, sum)

cases_counted : (cases : List CasePiece) → Each (InCase Counted) cases → (path : List ℕ) (position : ℕ) (site : Site) → length (case_points cases path position site) ≡ total_in_cases cases
cases_counted [] h path position site = refl
cases_counted (c ∷ cases) h path position site =
    let first : Site = record site { behind = reached (total_in_cases cases) (site.number + total c.body) site.behind } in
    let next : Site = record site { number = site.number + total c.body } in
    let one = list_counted c.body h.0 path position first in
    let rest = cases_counted cases h.1 path (position + length c.body) next in
    let both = length-append (list_points c.body path position first) (case_points cases path (position + length c.body) next) in
    let sum = sum_by-cons (λ (c : CasePiece). total c.body) c cases in
    omega (arith, one, rest, both, sum)

made : (x : is.Stmt-F Piece CasePiece) → PieceParts Counted x → Counted (flow_step x)
made (is.Do e) h path site = refl
made (is.If e a b) h path site =
    let next : Site = record site { number = site.number + 1 } in
    let last : Site = record site { number = site.number + 1 + total a } in
    let one = list_counted a h.0 path 0 next in
    let two = list_counted b h.1 path (length a) last in
    let both = length-append (list_points a path 0 next) (list_points b path (length a) last) in
    omega (arith, one, two, both)
made (is.While e a) h path site = let one = list_counted a h path 0 (loop_site site) in omega (arith, one)
made (is.DoWhile a e) h path site = refl
made (is.For first test step a) h path site = refl
made (is.Switch e cases) h path site = let one = cases_counted cases h path 0 (switch_site site) in omega (arith, one)
made is.Break h path site = refl
made is.Continue h path site = refl
made (is.Return e) h path site = refl
made is.Empty h path site = refl
made (is.Block a) h path site = refl

pub all_counted : (list : List Stmt) → Each Counted (pieces list)
all_counted list = all_pieces Counted made list

stmt_counted : (s : Stmt) → Counted (piece_of s)
stmt_counted s = (all_counted (s ∷ [])).0

-- ---- lists that are joined, and the bodies of a switch

reached_twice : (m n a b : ℕ) → reached (m + n) a b ≡ reached m a (reached n (a + m) b)
reached_twice m n a b = by (nat_eq m 0) refl
  where
    by : (t : Bool) → nat_eq m 0 ≡ t → reached (m + n) a b ≡ (if t then reached n (a + m) b else a)
    by true e = let z = zero_of m e in ap (λ k. reached k a b) (let k : m + n ≡ n = omega (arith, z) in k) ∙ ap (λ k. reached n k b) (let k : a ≡ a + m = omega (arith, z) in k)
    by false e = some (nat_eq (m + n) 0) refl
      where
        some : (t : Bool) → nat_eq (m + n) 0 ≡ t → (if t then b else a) ≡ a
        some true f = let z = zero_of (m + n) f in let s = some_of m e in absurd (omega (arith, z, s))
        some false f = refl

total-join : (xs ys : List Piece) → total (xs ++ ys) ≡ total xs + total ys
total-join [] ys = omega arith
total-join (x ∷ xs) ys =
    let one = sum_by-cons (λ (p : Piece). p.count) x (xs ++ ys) in
    let two = sum_by-cons (λ (p : Piece). p.count) x xs in
    let rest = total-join xs ys in
    omega (arith, one, two, rest)

abbrev ending : ℕ → List Piece → Site → Site
ending n ys site = record site { behind = reached (total ys) n site.behind }

pub list_join : (xs ys : List Piece) (path : List ℕ) (position : ℕ) (site : Site) →
    list_points (xs ++ ys) path position site ≡ list_points xs path position (ending (site.number + total xs) ys site) ++ list_points ys path (position + length xs) (moved_to (site.number + total xs) site)
list_join [] ys path position site =
    ap (λ n. list_points ys path n site) (let k : position ≡ position + 0 = omega arith in k) ∙ ap (λ n. list_points ys path (position + 0) (moved_to n site)) (let k : site.number ≡ site.number + 0 = omega arith in k)
list_join (x ∷ xs) ys path position site =
    let sum = sum_by-cons (λ (p : Piece). p.count) x xs in
    let last : site.number + x.count + total xs ≡ site.number + total (x ∷ xs) = omega (arith, sum) in
    let own : (record site { behind = reached (total (xs ++ ys)) (site.number + x.count) site.behind }) ≡ (record site { behind = reached (total xs) (site.number + x.count) (reached (total ys) (site.number + total (x ∷ xs)) site.behind) }) =
    ap (λ n. record site { behind = n })
    (ap (λ n. reached n (site.number + x.count) site.behind) (total-join xs ys) ∙ reached_twice (total xs) (total ys) (site.number + x.count) site.behind ∙ ap (λ n. reached (total xs) (site.number + x.count) (reached (total ys) n site.behind)) last) in
    let next : Site = record site { number = site.number + x.count } in
    ap (λ (z : Site). x.points (path ++ position ∷ []) z ++ list_points (xs ++ ys) path (position + 1) next) own
    ∙ ap (λ (ps : List Point). x.points (path ++ position ∷ []) (record site { behind = reached (total xs) (site.number + x.count) (reached (total ys) (site.number + total (x ∷ xs)) site.behind) }) ++ ps)
    (list_join xs ys path (position + 1) next
    ∙ ap (λ n. list_points xs path (position + 1) (record next { behind = reached (total ys) n site.behind }) ++ list_points ys path (position + 1 + length xs) (moved_to n site)) last
    ∙ ap (λ n. list_points xs path (position + 1) (record next { behind = reached (total ys) (site.number + total (x ∷ xs)) site.behind }) ++ list_points ys path n (moved_to (site.number + total (x ∷ xs)) site)) (let k : position + 1 + length xs ≡ position + length (x ∷ xs) = omega arith in k))
    ∙ sym (append_assoc (x.points (path ++ position ∷ []) (record site { behind = reached (total xs) (site.number + x.count) (reached (total ys) (site.number + total (x ∷ xs)) site.behind) }))
    (list_points xs path (position + 1) (record next { behind = reached (total ys) (site.number + total (x ∷ xs)) site.behind })) (list_points ys path (position + length (x ∷ xs)) (moved_to (site.number + total (x ∷ xs)) site)))

total-flat : (cases : List Case) → total (pieces (bodies cases)) ≡ total_in_cases (case_pieces cases)
total-flat [] = refl
total-flat (c ∷ cases) =
    let one = ap total (map-append piece_of (out-Case c).body (bodies cases)) in
    let two = total-join (pieces (out-Case c).body) (pieces (bodies cases)) in
    let rest = total-flat cases in
    let sum = sum_by-cons (λ (c : CasePiece). total c.body) (case_piece c) (case_pieces cases) in
    omega (arith, one, two, rest, sum)

-- the cases of a switch are one list
pub flat : (cases : List Case) (path : List ℕ) (position : ℕ) (site : Site) → list_points (pieces (bodies cases)) path position site ≡ case_points (case_pieces cases) path position site
flat [] path position site = refl
flat (c ∷ cases) path position site =
    let own = pieces (out-Case c).body in
    ap (λ ps. list_points ps path position site) (map-append piece_of (out-Case c).body (bodies cases))
    ∙ list_join own (pieces (bodies cases)) path position site
    ∙ ap (λ n. list_points own path position (record site { behind = reached n (site.number + total own) site.behind }) ++ list_points (pieces (bodies cases)) path (position + length own) (moved_to (site.number + total own) site)) (total-flat cases)
    ∙ ap (λ (ps : List Point). list_points own path position (record site { behind = reached (total_in_cases (case_pieces cases)) (site.number + total own) site.behind }) ++ ps) (flat cases path (position + length own) (moved_to (site.number + total own) site))

-- ---- parts

-- a list of points in another, whose first number is `base`: the part's first has this number
pub record IsPart (whole : List Point) (base : ℕ) (part : List Point) (number : ℕ) : Type 0 where
  pub before : List Point
  pub after : List Point
  pub is : whole ≡ before ++ (part ++ after)
  pub counts : base + length before ≡ number

part_in : (whole mid part : List Point) (base n m : ℕ) → IsPart whole base mid n → IsPart mid n part m → IsPart whole base part m
part_in whole mid part base n m h k = record {
  before = h.before ++ k.before;
  after = k.after ++ h.after;
  is =
      h.is ∙ ap (λ (ps : List Point). h.before ++ (ps ++ h.after)) k.is
      ∙ ap (λ (ps : List Point). h.before ++ ps) (append_assoc k.before (part ++ k.after) h.after ∙ ap (λ (ps : List Point). k.before ++ ps) (append_assoc part k.after h.after))
      ∙ sym (append_assoc h.before k.before (part ++ (k.after ++ h.after)));
  counts = let l = length-append h.before k.before in let a = h.counts in let b = k.counts in omega (arith, l, a, b);
}

-- behind others, and in front of others
part_of : (before part after : List Point) (base number : ℕ) → base + length before ≡ number → IsPart (before ++ (part ++ after)) base part number
part_of before part after base number e = record { before = before; after = after; is = refl; counts = e }

last_part : (before part : List Point) (base number : ℕ) → base + length before ≡ number → IsPart (before ++ part) base part number
last_part before part base number e = record { before = before; after = []; is = ap (λ (ps : List Point). before ++ ps) (sym (append-nil part)); counts = e }

length-pieces : (list : List Stmt) → length (pieces list) ≡ length list
length-pieces [] = refl
length-pieces (s ∷ list) = let r = length-pieces list in omega (arith, r)

-- what is left of a list
left_part : (list : List Stmt) (first : ℕ) (inner : Site) (rest : List Stmt) (position : ℕ) (site : Site) (path : List ℕ) → (h : IsPlaced list first inner rest position site) →
    IsPart (list_points (pieces list) path first inner) inner.number (list_points (pieces rest) path (first + length h.front) site) site.number
left_part list first inner rest position site path h =
    let xs = pieces h.front in
    let ys = pieces rest in
    let front = list_points xs path first (ending (inner.number + total xs) ys inner) in
    let t = total-pieces h.front in
    let l : length xs ≡ length h.front = length-pieces h.front in
    let split : list_points (pieces list) path first inner ≡ front ++ list_points ys path (first + length xs) (moved_to (inner.number + total xs) inner) =
    ap (λ ps. list_points ps path first inner) (ap pieces h.whole ∙ map-append piece_of h.front rest) ∙ list_join xs ys path first inner in
    let there : (moved_to (inner.number + total xs) inner) ≡ site = ap (λ n. moved_to (inner.number + n) inner) t ∙ sym h.place in
    let c = list_counted xs (all_counted h.front) path first (ending (inner.number + total xs) ys inner) in
    let n : inner.number + length front ≡ site.number = (let p = ap (λ (z : Site). z.number) there in omega (arith, c, p)) in
    subst (λ (ps : List Point). IsPart ps inner.number (list_points ys path (first + length h.front) site) site.number)
    (sym (split ∙ ap (λ k. front ++ list_points ys path (first + k) (moved_to (inner.number + total xs) inner)) l ∙ ap (λ (z : Site). front ++ list_points ys path (first + length h.front) z) there))
    (last_part front (list_points ys path (first + length h.front) site) inner.number site.number n)

-- a list inside a statement
points_at : (s : Stmt) (x : is.Stmt-F Stmt Case) (path : List ℕ) (own : Site) → out-Stmt s ≡ x → (piece_of s).points path own ≡ (flow_step (map-Stmt Stmt Case Piece CasePiece piece_of folded x)).points path own
points_at s x path own e = ap (λ (p : Piece). p.points path own) (piece_level s ∙ ap (λ y. flow_step (map-Stmt Stmt Case Piece CasePiece piece_of folded y)) e)

made_part : (whole before part after part' : List Point) (base number : ℕ) → whole ≡ before ++ (part ++ after) → part ≡ part' → base + length before ≡ number → IsPart whole base part' number
made_part whole before part after part' base number e f c = record { before = before; after = after; is = e ∙ ap (λ (ps : List Point). before ++ (ps ++ after)) f; counts = c }

site_part : (list list' : List Stmt) (first first' : ℕ) (inner inner' : Site) (path : List ℕ) → list ≡ list' → first ≡ first' → inner ≡ inner' → list_points (pieces list') path first' inner' ≡ list_points (pieces list) path first inner
site_part list list' first first' inner inner' path a b c =
    sym (ap (λ (l : List Stmt). list_points (pieces l) path first inner) a ∙ ap (λ n. list_points (pieces list') path n inner) b ∙ ap (λ z. list_points (pieces list') path first' z) c)

inner_part : (s : Stmt) (x : is.Stmt-F Stmt Case) (path : List ℕ) (own : Site) (list : List Stmt) (first : ℕ) (inner : Site) → out-Stmt s ≡ x → IsSiteIn x own list first inner →
    IsPart ((piece_of s).points path own) own.number (list_points (pieces list) path first inner) inner.number
inner_part s (is.If e these those) path own list first inner o (inl h) =
    let a = list_points (pieces these) path 0 (moved_to (own.number + 1) own) in
    let b = list_points (pieces those) path (length (pieces these)) (moved_to (own.number + 1 + total (pieces these)) own) in
    made_part ((piece_of s).points path own) (point path own (if_next (pieces these) (pieces those) own) ∷ []) a b (list_points (pieces list) path first inner) own.number inner.number
    (points_at s (is.If e these those) path own o) (site_part list these first 0 inner (moved_to (own.number + 1) own) path h.0 h.1 h.2) (sym (ap (λ (z : Site). z.number) h.2))
inner_part s (is.If e these those) path own list first inner o (inr h) =
    let a = list_points (pieces these) path 0 (moved_to (own.number + 1) own) in
    let b = list_points (pieces those) path (length (pieces these)) (moved_to (own.number + 1 + total (pieces these)) own) in
    let t = total-pieces these in
    let c = list_counted (pieces these) (all_counted these) path 0 (moved_to (own.number + 1) own) in
    let n = ap (λ (z : Site). z.number) h.2 in
    let same : b ≡ list_points (pieces those) path (length these) (moved_to (own.number + 1 + total_of these) own) =
    ap (λ k. list_points (pieces those) path k (moved_to (own.number + 1 + total (pieces these)) own)) (length-pieces these) ∙ ap (λ k. list_points (pieces those) path (length these) (moved_to (own.number + 1 + k) own)) t in
    made_part ((piece_of s).points path own) (point path own (if_next (pieces these) (pieces those) own) ∷ a) b [] (list_points (pieces list) path first inner) own.number inner.number
    (points_at s (is.If e these those) path own o ∙ ap (λ (ps : List Point). point path own (if_next (pieces these) (pieces those) own) ∷ (a ++ ps)) (sym (append-nil b)))
    (same ∙ site_part list those first (length these) inner (moved_to (own.number + 1 + total_of these) own) path h.0 h.1 h.2) (omega (arith, t, c, n))
inner_part s (is.While e body) path own list first inner o h =
    let a = list_points (pieces body) path 0 (loop_site own) in
    made_part ((piece_of s).points path own) (point path own (loop_next (pieces body) own ∷ []) ∷ []) a [] (list_points (pieces list) path first inner) own.number inner.number
    (points_at s (is.While e body) path own o ∙ ap (λ (ps : List Point). point path own (loop_next (pieces body) own ∷ []) ∷ ps) (sym (append-nil a)))
    (site_part list body first 0 inner (loop_site own) path h.0 h.1 h.2) (sym (ap (λ (z : Site). z.number) h.2))
inner_part s (is.Switch e cases) path own list first inner o h =
    let a = list_points (pieces (bodies cases)) path 0 (switch_site own) in
    let head = point path own (switch_next (map folded cases) own) in
    made_part ((piece_of s).points path own) (head ∷ []) a [] (list_points (pieces list) path first inner) own.number inner.number
    (points_at s (is.Switch e cases) path own o ∙ ap (λ (cs : List CasePiece). head ∷ case_points cs path 0 (switch_site own)) (folded_cases cases) ∙ ap (λ (ps : List Point). head ∷ ps) (sym (flat cases path 0 (switch_site own)) ∙ sym (append-nil a)))
    (site_part list (bodies cases) first 0 inner (switch_site own) path h.0 h.1 h.2) (sym (ap (λ (z : Site). z.number) h.2))
inner_part s _ path own list first inner o h = absurd h

-- ---- the points of a body

-- the path to a list, by the levels around it, and where it stands in the list that has it
abbrev pub prefix : List Level → List ℕ
prefix [] = []
prefix (at ∷ around) = prefix around ++ at.position ∷ []

module _ (base : Site) (body : List Stmt) where
  abbrev pub inside_points : List Point
  inside_points = list_points (pieces body) [] 0 base

  -- the statement's own points are the first of a list that begins with it
  head_part : (s : Stmt) (rest : List Stmt) (path : List ℕ) (position : ℕ) (site : Site) → IsPart (list_points (pieces (s ∷ rest)) path position site) site.number ((piece_of s).points (path ++ position ∷ []) (own_site s rest site)) site.number
  head_part s rest path position site =
      let own : (record site { behind = reached (total (pieces rest)) (site.number + size_of s) site.behind }) ≡ own_site s rest site = ap (λ n. record site { behind = reached n (site.number + size_of s) site.behind }) (total-pieces rest) in
      made_part (list_points (pieces (s ∷ rest)) path position site) [] ((piece_of s).points (path ++ position ∷ []) (record site { behind = reached (total (pieces rest)) (site.number + size_of s) site.behind }))
      (list_points (pieces rest) path (position + 1) (record site { number = site.number + size_of s })) ((piece_of s).points (path ++ position ∷ []) (own_site s rest site)) site.number site.number refl
      (ap (λ (z : Site). (piece_of s).points (path ++ position ∷ []) z) own) (omega arith)

  -- positions are not counted up to the end of their type alone
  abbrev pub IsSmall : Type 0
  IsSmall = base.number + total_of body < 2 ^ 32

  pub record Stands (around : List Level) (rest : List Stmt) (position : ℕ) (site : Site) : Type 0 where
    pub true_position : ℕ
    pub counts : position ≡ counted true_position
    pub low : true_position ≤ site.number
    pub part : IsPart inside_points base.number (list_points (pieces rest) (prefix around) true_position site) site.number

  within : (whole part : List Point) (number : ℕ) → IsPart whole base.number part number → length whole ≡ total_of body → number ≤ base.number + total_of body
  within whole part number h e =
      let l = length-append h.before (part ++ h.after) in
      let w = ap length h.is in
      let c = h.counts in
      omega (arith, l, w, c, e)

  small : (n position : ℕ) → position ≡ counted n → n ≤ base.number + total_of body → IsSmall → position ≡ n
  small n position e h k = omega (arith, e, h, k)

  pub lower_bound : (x : is.Stmt-F Stmt Case) (own : Site) (list : List Stmt) (first : ℕ) (inner : Site) → IsSiteIn x own list first inner → first ≤ inner.number
  lower_bound (is.If e these those) own list first inner (inl h) = let a = h.1 in omega (arith, a)
  lower_bound (is.If e these those) own list first inner (inr h) = let a = h.1 in let n = ap (λ (z : Site). z.number) h.2 in let l = length-le these in omega (arith, a, n, l)
  lower_bound (is.While e list') own list first inner h = let a = h.1 in omega (arith, a)
  lower_bound (is.Switch e cases) own list first inner h = let a = h.1 in omega (arith, a)
  lower_bound _ own list first inner h = absurd h

  pub placed_low : (list : List Stmt) (first : ℕ) (inner : Site) (rest : List Stmt) (position : ℕ) (site : Site) → (h : IsPlaced list first inner rest position site) → first ≤ inner.number → first + length h.front ≤ site.number
  placed_low list first inner rest position site h k =
      let l = length-le h.front in
      let n = ap (λ (z : Site). z.number) h.place in
      omega (arith, l, n, k)

  module _ (few : IsSmall) where
    pub counted_all : length inside_points ≡ total_of body
    counted_all = list_counted (pieces body) (all_counted body) [] 0 base ∙ total-pieces body

    pub stands : (around : List Level) (rest : List Stmt) (position : ℕ) (site : Site) → StandsAt base body around rest position site → Stands around rest position site
    stands [] rest position site h = record {
      true_position = 0 + length h.front;
      counts = h.counts;
      low = placed_low body 0 base rest position site h (omega arith);
      part = left_part body 0 base rest position site [] h;
    }
    stands (at ∷ around) rest position site h =
        let outer = stands around (h.statement ∷ h.after) at.position h.outer h.around in
        let path = prefix around ++ at.position ∷ [] in
        let own = own_site h.statement h.after h.outer in
        let there : at.position ≡ outer.true_position = small outer.true_position at.position outer.counts (up outer) few in
        let head : IsPart inside_points base.number ((piece_of h.statement).points path own) h.outer.number =
        subst (λ (n : ℕ). IsPart inside_points base.number ((piece_of h.statement).points (prefix around ++ n ∷ []) own) h.outer.number) (sym there)
        (part_in inside_points (list_points (pieces (h.statement ∷ h.after)) (prefix around) outer.true_position h.outer) ((piece_of h.statement).points (prefix around ++ outer.true_position ∷ []) own) base.number h.outer.number h.outer.number outer.part
        (head_part h.statement h.after (prefix around) outer.true_position h.outer)) in
        let inner = inner_part h.statement (out-Stmt h.statement) path own h.list h.first h.inner refl h.inside in
        let list = part_in inside_points ((piece_of h.statement).points path own) (list_points (pieces h.list) path h.first h.inner) base.number h.outer.number h.inner.number head inner in
        record {
          true_position = h.first + length h.left.front;
          counts = h.left.counts;
          low = placed_low h.list h.first h.inner rest position site h.left (lower_bound (out-Stmt h.statement) own h.list h.first h.inner h.inside);
          part = part_in inside_points (list_points (pieces h.list) path h.first h.inner) (list_points (pieces rest) path (h.first + length h.left.front) site) base.number h.inner.number site.number list
              (left_part h.list h.first h.inner rest position site path h.left);
        }
      where
        up : (o : Stands around (h.statement ∷ h.after) at.position h.outer) → o.true_position ≤ base.number + total_of body
        up o = let w = within inside_points (list_points (pieces (h.statement ∷ h.after)) (prefix around) o.true_position h.outer) h.outer.number o.part counted_all in let l = o.low in omega (arith, w, l)

-- the number of a site, from that of the body
pub number_from : (func first : ℕ) (body : List Stmt) → first + total_of body < 2 ^ 32 → (around : List Level) (rest : List Stmt) (position : ℕ) (site : Site) →
    StandsAt (body_site func first (first + total_of body)) body around rest position site → (k : ℕ) × (site.number ≡ first + k) × (k ≤ total_of body)
number_from func first body few around rest position site h =
    let base = body_site func first (first + total_of body) in
    let there = stands base body few around rest position site h in
    let c = there.part.counts in
    let w = within base body (inside_points base body) (list_points (pieces rest) (prefix around) there.true_position site) site.number there.part (counted_all base body few) in
    (length there.part.before, sym c, omega (arith, c, w))

-- ---- a statement's own point

abbrev HasHead : List Point → Point → Type 0
HasHead points p = (more : List Point) × (points ≡ p ∷ more)

own_head : (s : Stmt) (x : is.Stmt-F Stmt Case) (path : List ℕ) (own : Site) → out-Stmt s ≡ x → HasHead ((piece_of s).points path own) (point path own (nexts x own))
own_head s (is.Do e) path own o = ([], points_at s (is.Do e) path own o)
own_head s (is.If e these those) path own o = (
  list_points (pieces these) path 0 (moved_to (own.number + 1) own) ++ list_points (pieces those) path (length (pieces these)) (moved_to (own.number + 1 + total (pieces these)) own),
  points_at s (is.If e these those) path own o
      ∙ ap (λ next. point path own next ∷ (list_points (pieces these) path 0 (moved_to (own.number + 1) own) ++ list_points (pieces those) path (length (pieces these)) (moved_to (own.number + 1 + total (pieces these)) own)))
      (rw (total-pieces these, total-pieces those) refl),
)
own_head s (is.While e body) path own o = (
  list_points (pieces body) path 0 (loop_site own),
  points_at s (is.While e body) path own o ∙ ap (λ n. point path own (reached n (own.number + 1) own.number ∷ []) ∷ list_points (pieces body) path 0 (loop_site own)) (total-pieces body),
)
own_head s (is.DoWhile body e) path own o = ([], points_at s (is.DoWhile body e) path own o)
own_head s (is.For start test again body) path own o = ([], points_at s (is.For start test again body) path own o)
own_head s (is.Switch e cases) path own o = (
  case_points (case_pieces cases) path 0 (switch_site own),
  points_at s (is.Switch e cases) path own o ∙ ap (λ (cs : List CasePiece). point path own (switch_next cs own) ∷ case_points cs path 0 (switch_site own)) (folded_cases cases)
      ∙ ap (λ next. point path own next ∷ case_points (case_pieces cases) path 0 (switch_site own)) (next-of-cases cases own),
)
own_head s is.Break path own o = ([], points_at s is.Break path own o)
own_head s is.Continue path own o = ([], points_at s is.Continue path own o)
own_head s (is.Return e) path own o = ([], points_at s (is.Return e) path own o)
own_head s is.Empty path own o = ([], points_at s is.Empty path own o)
own_head s (is.Block body) path own o = ([], points_at s (is.Block body) path own o)

pub prefix_is : (around : List Level) → reverse (map (λ (l : Level). l.position) around) ≡ prefix around
prefix_is [] = refl
prefix_is (at ∷ around) = reverse-cons at.position (map (λ (l : Level). l.position) around) ∙ ap (λ ps. ps ++ at.position ∷ []) (prefix_is around)

-- where an activation stands at a statement, there is the point of its path, from which control goes where the statement's site says
pub point_there : (func first : ℕ) (body : List Stmt) → first + total_of body < 2 ^ 32 → (at : Control) (s : Stmt) (rest : List Stmt) (site : Site) → at.0.rest ≡ s ∷ rest →
    StandsAt (body_site func first (first + total_of body)) body at.1 (s ∷ rest) at.0.position site → (k : ℕ) → site.number ≡ first + k →
    slice_get (body_points func first body) k ≡ Some (point (path_of at) (own_site s rest site) (nexts (out-Stmt s) (own_site s rest site)))
point_there func first body few at s rest site here h k n =
    let base = body_site func first (first + total_of body) in
    let own = own_site s rest site in
    let there = stands base body few at.1 (s ∷ rest) at.0.position site h in
    let w = within base body (inside_points base body) (list_points (pieces (s ∷ rest)) (prefix at.1) there.true_position site) site.number there.part (counted_all base body few) in
    let l = there.low in
    let true : at.0.position ≡ there.true_position = small base body there.true_position at.0.position there.counts (omega (arith, w, l)) few in
    let mine = part_in (inside_points base body) (list_points (pieces (s ∷ rest)) (prefix at.1) there.true_position site) ((piece_of s).points (prefix at.1 ++ there.true_position ∷ []) own) first site.number site.number there.part
    (head_part base body s rest (prefix at.1) there.true_position site) in
    let head = own_head s (out-Stmt s) (prefix at.1 ++ there.true_position ∷ []) own refl in
    let path : prefix at.1 ++ there.true_position ∷ [] ≡ path_of at = ap (λ (q : ℕ). prefix at.1 ++ q ∷ []) (sym true) ∙ sym (prefix_is ((at.0) ∷ at.1)) in
    let whole : body_points func first body ≡ mine.before ++ (point (prefix at.1 ++ there.true_position ∷ []) own (nexts (out-Stmt s) own) ∷ ((head.0 ++ mine.after) ++ (record { func = func; path = length body ∷ []; next = [] }) ∷ [])) =
    ap (λ (ps : List Point). ps ++ (record { func = func; path = length body ∷ []; next = [] }) ∷ []) (mine.is ∙ ap (λ (ps : List Point). mine.before ++ (ps ++ mine.after)) head.1)
    ∙ append_assoc mine.before ((point (prefix at.1 ++ there.true_position ∷ []) own (nexts (out-Stmt s) own) ∷ head.0) ++ mine.after) ((record { func = func; path = length body ∷ []; next = [] }) ∷ []) in
    let c = mine.counts in
    ap (λ (ps : List Point). slice_get ps k) whole ∙ get_after mine.before (point (prefix at.1 ++ there.true_position ∷ []) own (nexts (out-Stmt s) own) ∷ ((head.0 ++ mine.after) ++ (record { func = func; path = length body ∷ []; next = [] }) ∷ [])) 0 k (omega (arith, c, n))
    ∙ ap (λ (q : List ℕ). Some (point q own (nexts (out-Stmt s) own))) path
