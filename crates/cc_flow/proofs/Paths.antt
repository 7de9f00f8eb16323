-- How many points there are, and that no two of a function have one path.
use Rattle.std.proofs.Common.{◌≡◌, ◌≢◌, ◌<◌, ◌≤◌, ◌+◌, ℕ, List, [], ◌∷◌, ◌++◌, length, All, AllPairs, refl, ap, sym, ◌∙◌, subst, append_assoc, arith}
use Rattle.std.proofs.lemmas.List.{append-nil, append_cancel_left, length-append, length-map}
use Rattle.std.proofs.lemmas.List.Elements.{All-nil, All-cons, All-append, All-weaker}
use Rattle.std.proofs.lemmas.List.Kept.{AllPairs-cons}
use Rattle.std.proofs.lemmas.List.Sums.{sum_by-cons}
use Rattle.cc_program.proofs.Each.{Each}
use Rattle.cc_program.specs.declared.expr.Expr.{Expr}
use Rattle.cc_program.specs.declared.func.Func.{Func}
use Rattle.cc_program.specs.declared.program.Program.{Program}
use Rattle.cc_program.specs.declared.stmt.Stmt.{Stmt}
use Rattle.cc_program.specs.declared.stmt.Stmt.TheOpen as is
use Rattle.cc_flow.specs.declared.next.Site.{Site}
use Rattle.cc_flow.specs.declared.types.Point.{Point}
use Rattle.cc_flow.specs.Laws.{AreApart}
use Rattle.cc_flow.specs.Next.{reached}
use Rattle.cc_flow.specs.Points.{Piece, CasePiece, total, total_in_cases, list_points, case_points, point, simple, if_next, loop_next, switch_next, flow_step, piece_of, pieces, total_of, body_count, body_site, body_points, count_in, points_in, count_of, flow_of}
use Rattle.cc_flow.proofs.Pairs.{pairs_nil, pairs_one, pairs_append}
use Rattle.cc_flow.proofs.PieceInduction.{PieceParts, all_pieces}
use Rattle.cc_flow.proofs.Pieces.{total-pieces}

-- a point at a path, or inside the statement there
abbrev Under : List ℕ → Point → Type 0
Under path p = (rest : List ℕ) × (p.path ≡ path ++ rest)

-- a point in a list at a path, at one of these positions
pub record Below (path : List ℕ) (from to : ℕ) (p : Point) : Type 0 where
  pub position : ℕ
  pub rest : List ℕ
  pub low : from ≤ position
  pub high : position < to
  pub is : p.path ≡ path ++ (position ∷ rest)

abbrev Apart : Point → Point → Type 0
Apart p q = p.path ≢ q.path

-- the points of a part: as many as are counted, apart, and inside
pub record Good (count : ℕ) (In : Point → Type 0) (points : List Point) : Type 0 where
  pub counted : length points ≡ count
  pub apart : AllPairs (λ p q. p.path ≢ q.path) points
  pub inside : All In points

abbrev Sound : Piece → Type 0
Sound p = (path : List ℕ) (site : Site) → Good p.count (Under path) (p.points path site)

below_apart : (path : List ℕ) (a b c d : ℕ) (p q : Point) → b ≤ c → Below path a b p → Below path c d q → Apart p q
below_apart path a b c d p q h k l = λ e.
    let same : k.position ∷ k.rest ≡ l.position ∷ l.rest = append_cancel_left path (k.position ∷ k.rest) (l.position ∷ l.rest) (sym k.is ∙ e ∙ l.is) in
    let place : k.position ≡ l.position = cc in
    let high = k.high in
    let low = l.low in
    absurd (omega (arith, h, place, high, low))

-- a statement is not in its own lists
own_apart : (path : List ℕ) (a b : ℕ) (p q : Point) → p.path ≡ path → Below path a b q → Apart p q
own_apart path a b p q e k = λ f.
    let same : path ≡ path ++ (k.position ∷ k.rest) = sym e ∙ f ∙ k.is in
    let lengths = ap length same ∙ length-append path (k.position ∷ k.rest) in
    absurd (omega (arith, lengths))

below_wider : (path : List ℕ) (a b c d : ℕ) → c ≤ a → b ≤ d → (p : Point) → Below path a b p → Below path c d p
below_wider path a b c d h k p w =
    let low = w.low in
    let high = w.high in
    record { position = w.position; rest = w.rest; low = omega (arith, h, low); high = omega (arith, k, high); is = w.is }

below_of_under : (path : List ℕ) (position to : ℕ) → position < to → (p : Point) → Under (path ++ position ∷ []) p → Below path position to p
below_of_under path position to h p w = record { position = position; rest = w.0; low = omega arith; high = h; is = w.1 ∙ append_assoc path (position ∷ []) w.0 }

under_of_below : (path : List ℕ) (a b : ℕ) (p : Point) → Below path a b p → Under path p
under_of_below path a b p w = (w.position ∷ w.rest, w.is)

-- two parts of a list, one behind the other
good_append : (path : List ℕ) (a b c m n : ℕ) (xs ys : List Point) → a ≤ b → b ≤ c → Good m (Below path a b) xs → Good n (Below path b c) ys → Good (m + n) (Below path a c) (xs ++ ys)
good_append path a b c m n xs ys h k x y = record {
  counted = (let s = length-append xs ys in let l = x.counted in let r = y.counted in omega (arith, s, l, r));
  apart =
      pairs_append Apart xs ys x.apart y.apart
      (All-weaker (Below path a b) (λ p. All (Apart p) ys) (λ p w. All-weaker (Below path b c) (Apart p) (λ q v. below_apart path a b b c p q (omega arith) w v) ys y.inside) xs x.inside);
  inside =
      All-append (Below path a c) xs ys (All-weaker (Below path a b) (Below path a c) (below_wider path a b a c (omega arith) k) xs x.inside)
      (All-weaker (Below path b c) (Below path a c) (below_wider path b c a c h (omega arith)) ys y.inside);
}

good_none : (path : List ℕ) (a b : ℕ) → Good 0 (Below path a b) []
good_none path a b = record { counted = refl; apart = pairs_nil Apart; inside = All-nil (Below path a b) }

-- a statement's own point, and those of its lists
good_cons : (path : List ℕ) (b n : ℕ) (p : Point) (xs : List Point) → p.path ≡ path → Good n (Below path 0 b) xs → Good (1 + n) (Under path) (p ∷ xs)
good_cons path b n p xs e x = record {
  counted = (let c = x.counted in omega (arith, c));
  apart = AllPairs-cons Apart p xs (All-weaker (Below path 0 b) (Apart p) (λ q w. own_apart path 0 b p q e w) xs x.inside) x.apart;
  inside = All-cons (Under path) p xs ([], e ∙ sym (append-nil path)) (All-weaker (Below path 0 b) (Under path) (under_of_below path 0 b) xs x.inside);
}

good_count : (In : Point → Type 0) (m n : ℕ) (xs : List Point) → m ≡ n → Good m In xs → Good n In xs
good_count In m n xs e x = subst (λ k. Good k In xs) e x

good_wider : (path : List ℕ) (a b d n : ℕ) (xs : List Point) → b ≤ d → Good n (Below path a b) xs → Good n (Below path a d) xs
good_wider path a b d n xs h x = record { counted = x.counted; apart = x.apart; inside = All-weaker (Below path a b) (Below path a d) (below_wider path a b a d (omega arith) h) xs x.inside }

simple_sound : (next : Site → ℕ) → Sound (simple next)
simple_sound next = λ path site. good_cons path 0 0 (point path site (next site ∷ [])) [] refl (good_none path 0 0)

list_sound : (list : List Piece) → Each Sound list → (path : List ℕ) (position : ℕ) (site : Site) → Good (total list) (Below path position (position + length list)) (list_points list path position site)
list_sound [] h path position site = good_none path position (position + 0)
list_sound (p ∷ list) h path position site =
    let first : Site = record site { behind = reached (total list) (site.number + p.count) site.behind } in
    let own = h.0 (path ++ position ∷ []) first in
    let front : Good p.count (Below path position (position + 1)) (p.points (path ++ position ∷ []) first) =
    record { counted = own.counted; apart = own.apart; inside = All-weaker (Under (path ++ position ∷ [])) (Below path position (position + 1)) (below_of_under path position (position + 1) (omega arith)) (p.points (path ++ position ∷ []) first) own.inside } in
    let next : Site = record site { number = site.number + p.count } in
    let rest = list_sound list h.1 path (position + 1) next in
    let e : position + 1 + length list ≡ position + length (p ∷ list) = omega arith in
    good_count (Below path position (position + length (p ∷ list))) (p.count + total list) (total (p ∷ list)) (list_points (p ∷ list) path position site) (sym (sum_by-cons (λ (p : Piece). p.count) p list))
    (
    subst (λ n. Good (p.count + total list) (Below path position n) (list_points (p ∷ list) path position site)) e
    (good_append path position (position + 1) (position + 1 + length list) p.count (total list) (p.points (path ++ position ∷ []) first) (list_points list path (position + 1) next) (omega arith) (omega arith) front rest)
    )

abbrev CaseSound : CasePiece → Type 0
CaseSound c = Each Sound c.body

-- how many statements cases have
abbrev lines : List CasePiece → ℕ
lines [] = 0
lines (c ∷ cases) = length c.body + lines cases

cases_sound : (cases : List CasePiece) → Each CaseSound cases → (path : List ℕ) (position : ℕ) (site : Site) → Good (total_in_cases cases) (Below path position (position + lines cases)) (case_points cases path position site)
cases_sound [] h path position site = good_none path position (position + 0)
cases_sound (c ∷ cases) h path position site =
    let first : Site = record site { behind = reached (total_in_cases cases) (site.number + total c.body) site.behind } in
    let front = list_sound c.body h.0 path position first in
    let next : Site = record site { number = site.number + total c.body } in
    let rest = cases_sound cases h.1 path (position + length c.body) next in
    let e : position + length c.body + lines cases ≡ position + lines (c ∷ cases) = omega arith in
    good_count (Below path position (position + lines (c ∷ cases))) (total c.body + total_in_cases cases) (total_in_cases (c ∷ cases)) (case_points (c ∷ cases) path position site) (sym (sum_by-cons (λ (c : CasePiece). total c.body) c cases))
    (
    subst (λ n. Good (total c.body + total_in_cases cases) (Below path position n) (case_points (c ∷ cases) path position site)) e
    (good_append path position (position + length c.body) (position + length c.body + lines cases) (total c.body) (total_in_cases cases) (list_points c.body path position first) (case_points cases path (position + length c.body) next) (omega arith) (omega arith) front rest)
    )

if_sound : (e : Expr) (a b : List Piece) → Each Sound a → Each Sound b → Sound (flow_step (is.If e a b))
if_sound e a b h k = λ path site.
    let next : Site = record site { number = site.number + 1 } in
    let last : Site = record site { number = site.number + 1 + total a } in
    good_cons path (length a + length b) (total a + total b) (point path site (if_next a b site)) (list_points a path 0 next ++ list_points b path (length a) last) refl
    (
    good_append path 0 (length a) (length a + length b) (total a) (total b) (list_points a path 0 next) (list_points b path (length a) last) (omega arith) (omega arith)
    (subst (λ n. Good (total a) (Below path 0 n) (list_points a path 0 next)) (zero_plus (length a)) (list_sound a h path 0 next)) (list_sound b k path (length a) last)
    )
  where
    zero_plus : (n : ℕ) → 0 + n ≡ n
    zero_plus n = omega arith

loop_sound : (e : Expr) (a : List Piece) → Each Sound a → Sound (flow_step (is.While e a))
loop_sound e a h = λ path site.
    let inner : Site = record site { number = site.number + 1; behind = site.number; breaks = site.behind; continues = site.number } in
    good_cons path (0 + length a) (total a) (point path site (loop_next a site ∷ [])) (list_points a path 0 inner) refl (list_sound a h path 0 inner)

switch_sound : (e : Expr) (cases : List CasePiece) → Each CaseSound cases → Sound (flow_step (is.Switch e cases))
switch_sound e cases h = λ path site.
    let inner : Site = record site { number = site.number + 1; breaks = site.behind } in
    good_cons path (0 + lines cases) (total_in_cases cases) (point path site (switch_next cases site)) (case_points cases path 0 inner) refl (cases_sound cases h path 0 inner)

made : (x : is.Stmt-F Piece CasePiece) → PieceParts Sound x → Sound (flow_step x)
made (is.Do e) h = simple_sound (λ site. site.behind)
made (is.If e a b) h = if_sound e a b h.0 h.1
made (is.While e a) h = loop_sound e a h
made (is.DoWhile a e) h = simple_sound (λ site. site.behind)
made (is.For first test step a) h = simple_sound (λ site. site.behind)
made (is.Switch e cases) h = switch_sound e cases h
made is.Break h = simple_sound (λ site. site.breaks)
made is.Continue h = simple_sound (λ site. site.continues)
made (is.Return e) h = simple_sound (λ site. site.exit)
made is.Empty h = simple_sound (λ site. site.behind)
made (is.Block a) h = simple_sound (λ site. site.behind)

body_good : (func first : ℕ) (body : List Stmt) → Good (body_count body) (Below [] 0 (length body + 1)) (body_points func first body)
body_good func first body =
    let exit = first + total_of body in
    let site = body_site func first exit in
    let inner = list_sound (pieces body) (all_pieces Sound made body) [] 0 site in
    let last : Point = record { func = func; path = length body ∷ []; next = [] } in
    let own : Below [] (length body) (length body + 1) last = record { position = length body; rest = []; low = omega arith; high = omega arith; is = refl } in
    let end : Good 1 (Below [] (length body) (length body + 1)) (last ∷ []) =
    record { counted = refl; apart = pairs_one Apart last; inside = All-cons (Below [] (length body) (length body + 1)) last [] own (All-nil (Below [] (length body) (length body + 1))) } in
    let lengths : 0 + length (pieces body) ≡ length body = (let l = length-map body piece_of in omega (arith, l)) in
    let front : Good (total_of body) (Below [] 0 (length body)) (list_points (pieces body) [] 0 site) =
    good_count (Below [] 0 (length body)) (total (pieces body)) (total_of body) (list_points (pieces body) [] 0 site) (total-pieces body)
    (subst (λ n. Good (total (pieces body)) (Below [] 0 n) (list_points (pieces body) [] 0 site)) lengths inner) in
    good_append [] 0 (length body) (length body + 1) (total_of body) 1 (list_points (pieces body) [] 0 site) (last ∷ []) (omega arith) (omega arith) front end

pub body_counted : (func first : ℕ) (body : List Stmt) → length (body_points func first body) ≡ body_count body
body_counted func first body = (body_good func first body).counted

pub body_apart : (func first : ℕ) (body : List Stmt) → AreApart (body_points func first body)
body_apart func first body = (body_good func first body).apart

funcs_counted : (func first : ℕ) (funcs : List Func) → length (points_in func first funcs) ≡ count_in funcs
funcs_counted func first [] = refl
funcs_counted func first (f ∷ funcs) =
    let s = length-append (body_points func first f.body) (points_in (func + 1) (first + body_count f.body) funcs) in
    let own = body_counted func first f.body in
    let rest = funcs_counted (func + 1) (first + body_count f.body) funcs in
    let one = sum_by-cons (λ (g : Func). body_count g.body) f funcs in
    omega (arith, s, own, rest, one)

pub all_counted : (p : Program) → length (flow_of p).points ≡ count_of p
all_counted p = funcs_counted 0 0 p.funcs
