-- What each form of statement is, and how many points it and lists have.
use Rattle.std.proofs.Common.{◌≡◌, ◌<◌, ◌≤◌, ◌+◌, ℕ, suc, List, [], ◌∷◌, ◌||◌, length, map, drop, get_or, Option, is_none, sum, sum_by, refl, ap, sym, ◌∙◌, subst, arith}
use Rattle.std.specs.List.{list_any}
use Rattle.std.proofs.Math.Seq.{drop-cons}
use Rattle.std.proofs.lemmas.List.Folds.{fold-map}
use Rattle.std.proofs.lemmas.List.Sums.{sum_by-cons, sum-map, get_or-le-sum_by}
use Rattle.cc_program.specs.declared.expr.Expr.{Expr}
use Rattle.cc_program.specs.declared.stmt.Case.{Case, out-Case, fold-Case, fold_out-Case}
use Rattle.cc_program.specs.declared.stmt.Stmt.{Stmt, Do, If, While, DoWhile, For, Switch, Break, Continue, Return, Empty, Block, out-Stmt, map-Stmt, fold-roll-Stmt, fold_out-Stmt}
use Rattle.cc_program.specs.declared.stmt.Stmt.TheVariants.{rolls-Do, rolls-If, rolls-While, rolls-DoWhile, rolls-For, rolls-Switch, rolls-Break, rolls-Continue, rolls-Return, rolls-Empty, rolls-Block, outs-Do, outs-DoWhile, outs-For, outs-Break, outs-Continue, outs-Return, outs-Empty, outs-Block}
use Rattle.cc_program.specs.declared.stmt.Stmt.TheOpen as is
use Rattle.cc_flow.specs.declared.next.Site.{Site}
use Rattle.cc_flow.specs.Next.{branches, may_pass}
use Rattle.cc_flow.specs.Points.{Piece, CasePiece, total, total_in_cases, simple, point, if_points, loop_points, switch_points, switch_next, flow_step, case_step, piece_of, pieces, size_of, total_of}
use Rattle.cc_flow.specs.View.{case_piece, case_pieces, case_total, total_of_cases, simple_next}

abbrev folded : Case → CasePiece
folded c = fold-Case Piece CasePiece flow_step case_step c

folded-case : (c : Case) → folded c ≡ case_piece c
unfolding piece_of
folded-case c = fold_out-Case Piece CasePiece flow_step case_step c

folded-cases : (cases : List Case) → map folded cases ≡ case_pieces cases
folded-cases [] = refl
folded-cases (c ∷ cases) = ap (λ p. p ∷ map folded cases) (folded-case c) ∙ ap (λ ps. case_piece c ∷ ps) (folded-cases cases)

pub piece-Do : (e : Expr) → piece_of (Do e) ≡ simple (λ site. site.behind)
unfolding piece_of
piece-Do e = ap piece_of (sym (rolls-Do e)) ∙ fold-roll-Stmt Piece CasePiece flow_step case_step (is.Do e)

pub piece-If : (e : Expr) (a b : List Stmt) → piece_of (If e a b) ≡ flow_step (is.If e (pieces a) (pieces b))
unfolding piece_of
piece-If e a b = ap piece_of (sym (rolls-If e a b)) ∙ fold-roll-Stmt Piece CasePiece flow_step case_step (is.If e a b)

pub piece-While : (e : Expr) (a : List Stmt) → piece_of (While e a) ≡ flow_step (is.While e (pieces a))
unfolding piece_of
piece-While e a = ap piece_of (sym (rolls-While e a)) ∙ fold-roll-Stmt Piece CasePiece flow_step case_step (is.While e a)

pub piece-DoWhile : (a : List Stmt) (e : Expr) → piece_of (DoWhile a e) ≡ simple (λ site. site.behind)
unfolding piece_of
piece-DoWhile a e = ap piece_of (sym (rolls-DoWhile a e)) ∙ fold-roll-Stmt Piece CasePiece flow_step case_step (is.DoWhile a e)

pub piece-For : (first test step : Option Expr) (a : List Stmt) → piece_of (For first test step a) ≡ simple (λ site. site.behind)
unfolding piece_of
piece-For first test step a = ap piece_of (sym (rolls-For first test step a)) ∙ fold-roll-Stmt Piece CasePiece flow_step case_step (is.For first test step a)

pub piece-Switch : (e : Expr) (cases : List Case) → piece_of (Switch e cases) ≡ flow_step (is.Switch e (case_pieces cases))
unfolding piece_of
piece-Switch e cases =
    ap piece_of (sym (rolls-Switch e cases)) ∙ fold-roll-Stmt Piece CasePiece flow_step case_step (is.Switch e cases)
    ∙ ap (λ ps. flow_step (is.Switch e ps)) (folded-cases cases)

pub piece-Break : piece_of Break ≡ simple (λ site. site.breaks)
unfolding piece_of
piece-Break = ap piece_of (sym rolls-Break) ∙ fold-roll-Stmt Piece CasePiece flow_step case_step is.Break

pub piece-Continue : piece_of Continue ≡ simple (λ site. site.continues)
unfolding piece_of
piece-Continue = ap piece_of (sym rolls-Continue) ∙ fold-roll-Stmt Piece CasePiece flow_step case_step is.Continue

pub piece-Return : (e : Option Expr) → piece_of (Return e) ≡ simple (λ site. site.exit)
unfolding piece_of
piece-Return e = ap piece_of (sym (rolls-Return e)) ∙ fold-roll-Stmt Piece CasePiece flow_step case_step (is.Return e)

pub piece-Empty : piece_of Empty ≡ simple (λ site. site.behind)
unfolding piece_of
piece-Empty = ap piece_of (sym rolls-Empty) ∙ fold-roll-Stmt Piece CasePiece flow_step case_step is.Empty

pub piece-Block : (a : List Stmt) → piece_of (Block a) ≡ simple (λ site. site.behind)
unfolding piece_of
piece-Block a = ap piece_of (sym (rolls-Block a)) ∙ fold-roll-Stmt Piece CasePiece flow_step case_step (is.Block a)

-- how many points, and which, by the form
pub count-of : (s t : Stmt) (p : Piece) → s ≡ t → piece_of t ≡ p → (piece_of s).count ≡ p.count
count-of s t p h k = ap (λ (u : Stmt). (piece_of u).count) h ∙ ap (λ (q : Piece). q.count) k

pub points-of : (s t : Stmt) (p : Piece) (path : List ℕ) (site : Site) → s ≡ t → piece_of t ≡ p → (piece_of s).points path site ≡ p.points path site
points-of s t p path site h k = ap (λ (u : Stmt). (piece_of u).points path site) h ∙ ap (λ (q : Piece). q.points path site) k

positive-step : (x : is.Stmt-F Piece CasePiece) → 1 ≤ (flow_step x).count
positive-step (is.Do e) = omega arith
positive-step (is.If e a b) = omega arith
positive-step (is.While e a) = omega arith
positive-step (is.DoWhile a e) = omega arith
positive-step (is.For first test step a) = omega arith
positive-step (is.Switch e cases) = omega arith
positive-step is.Break = omega arith
positive-step is.Continue = omega arith
positive-step (is.Return e) = omega arith
positive-step is.Empty = omega arith
positive-step (is.Block a) = omega arith

-- each statement has a point
pub positive : (s : Stmt) → 1 ≤ (piece_of s).count
unfolding piece_of
positive s = subst (λ (p : Piece). 1 ≤ p.count) (sym (fold_out-Stmt Piece CasePiece flow_step case_step s)) (positive-step (map-Stmt Stmt Case Piece CasePiece piece_of folded (out-Stmt s)))

pub length-le : (list : List Stmt) → length list ≤ total_of list
length-le [] = omega arith
length-le (s ∷ list) = let k = positive s in let rest = length-le list in let one = sum_by-cons size_of s list in omega (arith, k, rest, one)

-- totals of pieces are those of statements
pub total-pieces : (list : List Stmt) → total (pieces list) ≡ total_of list
total-pieces list = fold-map (λ a (p : Piece). a + p.count) piece_of 0 list

pub total-cases : (cases : List Case) → total_in_cases (case_pieces cases) ≡ total_of_cases cases
total-cases [] = refl
total-cases (c ∷ cases) =
    let whole = sum_by-cons (λ (d : CasePiece). total d.body) (case_piece c) (case_pieces cases) in
    let own = total-pieces (out-Case c).body in
    let rest = total-cases cases in
    let sum = sum_by-cons case_total c cases in
    omega (arith, whole, own, rest, sum)

pub totals-of-cases : (cases : List Case) → map (λ (c : CasePiece). total c.body) (case_pieces cases) ≡ map case_total cases
totals-of-cases [] = refl
totals-of-cases (c ∷ cases) = ap (λ n. n ∷ map (λ (c : CasePiece). total c.body) (case_pieces cases)) (total-pieces (out-Case c).body) ∙ ap (λ ns. case_total c ∷ ns) (totals-of-cases cases)

pub defaults-of-cases : (cases : List Case) → list_any (λ (c : CasePiece). c.is_default) (case_pieces cases) ≡ list_any (λ c. list_any is_none (out-Case c).labels) cases
defaults-of-cases [] = refl
defaults-of-cases (c ∷ cases) = ap (λ b. list_any is_none (out-Case c).labels || b) (defaults-of-cases cases)

-- how many points a statement has, by its form
pub count-Do : (s : Stmt) (e : Expr) → s ≡ Do e → size_of s ≡ 1
count-Do s e h = count-of s (Do e) _ h (piece-Do e)

pub count-If : (s : Stmt) (e : Expr) (a b : List Stmt) → s ≡ If e a b → size_of s ≡ 1 + (total_of a + total_of b)
count-If s e a b h = count-of s (If e a b) _ h (piece-If e a b) ∙ rw (total-pieces a, total-pieces b) refl

pub count-While : (s : Stmt) (e : Expr) (a : List Stmt) → s ≡ While e a → size_of s ≡ 1 + total_of a
count-While s e a h = count-of s (While e a) _ h (piece-While e a) ∙ ap (λ n. 1 + n) (total-pieces a)

pub count-DoWhile : (s : Stmt) (a : List Stmt) (e : Expr) → s ≡ DoWhile a e → size_of s ≡ 1
count-DoWhile s a e h = count-of s (DoWhile a e) _ h (piece-DoWhile a e)

pub count-For : (s : Stmt) (first test step : Option Expr) (a : List Stmt) → s ≡ For first test step a → size_of s ≡ 1
count-For s first test step a h = count-of s (For first test step a) _ h (piece-For first test step a)

pub count-Switch : (s : Stmt) (e : Expr) (cases : List Case) → s ≡ Switch e cases → size_of s ≡ 1 + total_of_cases cases
count-Switch s e cases h = count-of s (Switch e cases) _ h (piece-Switch e cases) ∙ ap (λ n. 1 + n) (total-cases cases)

pub count-Break : (s : Stmt) → s ≡ Break → size_of s ≡ 1
count-Break s h = count-of s Break _ h piece-Break

pub count-Continue : (s : Stmt) → s ≡ Continue → size_of s ≡ 1
count-Continue s h = count-of s Continue _ h piece-Continue

pub count-Return : (s : Stmt) (e : Option Expr) → s ≡ Return e → size_of s ≡ 1
count-Return s e h = count-of s (Return e) _ h (piece-Return e)

pub count-Empty : (s : Stmt) → s ≡ Empty → size_of s ≡ 1
count-Empty s h = count-of s Empty _ h piece-Empty

pub count-Block : (s : Stmt) (a : List Stmt) → s ≡ Block a → size_of s ≡ 1
count-Block s a h = count-of s (Block a) _ h (piece-Block a)

pub ruleset of_counts = (count-Do, count-If, count-While, count-DoWhile, count-For, count-Switch, count-Break, count-Continue, count-Return, count-Empty, count-Block)

-- which points, by its form
pub points-Do : (s : Stmt) (e : Expr) (path : List ℕ) (site : Site) → s ≡ Do e → (piece_of s).points path site ≡ point path site (site.behind ∷ []) ∷ []
points-Do s e path site h = points-of s (Do e) _ path site h (piece-Do e)

pub points-If : (s : Stmt) (e : Expr) (a b : List Stmt) (path : List ℕ) (site : Site) → s ≡ If e a b → (piece_of s).points path site ≡ if_points (pieces a) (pieces b) path site
points-If s e a b path site h = points-of s (If e a b) _ path site h (piece-If e a b)

pub points-While : (s : Stmt) (e : Expr) (a : List Stmt) (path : List ℕ) (site : Site) → s ≡ While e a → (piece_of s).points path site ≡ loop_points (pieces a) path site
points-While s e a path site h = points-of s (While e a) _ path site h (piece-While e a)

pub points-DoWhile : (s : Stmt) (a : List Stmt) (e : Expr) (path : List ℕ) (site : Site) → s ≡ DoWhile a e → (piece_of s).points path site ≡ point path site (site.behind ∷ []) ∷ []
points-DoWhile s a e path site h = points-of s (DoWhile a e) _ path site h (piece-DoWhile a e)

pub points-For : (s : Stmt) (first test step : Option Expr) (a : List Stmt) (path : List ℕ) (site : Site) → s ≡ For first test step a → (piece_of s).points path site ≡ point path site (site.behind ∷ []) ∷ []
points-For s first test step a path site h = points-of s (For first test step a) _ path site h (piece-For first test step a)

pub points-Switch : (s : Stmt) (e : Expr) (cases : List Case) (path : List ℕ) (site : Site) → s ≡ Switch e cases → (piece_of s).points path site ≡ switch_points (case_pieces cases) path site
points-Switch s e cases path site h = points-of s (Switch e cases) _ path site h (piece-Switch e cases)

pub points-Break : (s : Stmt) (path : List ℕ) (site : Site) → s ≡ Break → (piece_of s).points path site ≡ point path site (site.breaks ∷ []) ∷ []
points-Break s path site h = points-of s Break _ path site h piece-Break

pub points-Continue : (s : Stmt) (path : List ℕ) (site : Site) → s ≡ Continue → (piece_of s).points path site ≡ point path site (site.continues ∷ []) ∷ []
points-Continue s path site h = points-of s Continue _ path site h piece-Continue

pub points-Return : (s : Stmt) (e : Option Expr) (path : List ℕ) (site : Site) → s ≡ Return e → (piece_of s).points path site ≡ point path site (site.exit ∷ []) ∷ []
points-Return s e path site h = points-of s (Return e) _ path site h (piece-Return e)

pub points-Empty : (s : Stmt) (path : List ℕ) (site : Site) → s ≡ Empty → (piece_of s).points path site ≡ point path site (site.behind ∷ []) ∷ []
points-Empty s path site h = points-of s Empty _ path site h piece-Empty

pub points-Block : (s : Stmt) (a : List Stmt) (path : List ℕ) (site : Site) → s ≡ Block a → (piece_of s).points path site ≡ point path site (site.behind ∷ []) ∷ []
points-Block s a path site h = points-of s (Block a) _ path site h (piece-Block a)

-- a statement with none inside is a point, and control goes on where its form says
simple-points : (s t : Stmt) (x : is.Stmt-F Stmt Case) (path : List ℕ) (site : Site) → s ≡ t → out-Stmt t ≡ x → (piece_of s).points path site ≡ point path site (simple_next x site ∷ []) ∷ []
    → (piece_of s).points path site ≡ point path site (simple_next (out-Stmt s) site ∷ []) ∷ []
simple-points s t x path site h o e = e ∙ ap (λ (y : is.Stmt-F Stmt Case). point path site (simple_next y site ∷ []) ∷ []) (sym (ap out-Stmt h ∙ o))

pub simple-Do : (s : Stmt) (e : Expr) (path : List ℕ) (site : Site) → s ≡ Do e → (piece_of s).points path site ≡ point path site (simple_next (out-Stmt s) site ∷ []) ∷ []
simple-Do s e path site h = simple-points s (Do e) (is.Do e) path site h (outs-Do e) (points-Do s e path site h)

pub simple-DoWhile : (s : Stmt) (a : List Stmt) (e : Expr) (path : List ℕ) (site : Site) → s ≡ DoWhile a e → (piece_of s).points path site ≡ point path site (simple_next (out-Stmt s) site ∷ []) ∷ []
simple-DoWhile s a e path site h = simple-points s (DoWhile a e) (is.DoWhile a e) path site h (outs-DoWhile a e) (points-DoWhile s a e path site h)

pub simple-For : (s : Stmt) (first test step : Option Expr) (a : List Stmt) (path : List ℕ) (site : Site) → s ≡ For first test step a → (piece_of s).points path site ≡ point path site (simple_next (out-Stmt s) site ∷ []) ∷ []
simple-For s first test step a path site h = simple-points s (For first test step a) (is.For first test step a) path site h (outs-For first test step a) (points-For s first test step a path site h)

pub simple-Break : (s : Stmt) (path : List ℕ) (site : Site) → s ≡ Break → (piece_of s).points path site ≡ point path site (simple_next (out-Stmt s) site ∷ []) ∷ []
simple-Break s path site h = simple-points s Break is.Break path site h outs-Break (points-Break s path site h)

pub simple-Continue : (s : Stmt) (path : List ℕ) (site : Site) → s ≡ Continue → (piece_of s).points path site ≡ point path site (simple_next (out-Stmt s) site ∷ []) ∷ []
simple-Continue s path site h = simple-points s Continue is.Continue path site h outs-Continue (points-Continue s path site h)

pub simple-Return : (s : Stmt) (e : Option Expr) (path : List ℕ) (site : Site) → s ≡ Return e → (piece_of s).points path site ≡ point path site (simple_next (out-Stmt s) site ∷ []) ∷ []
simple-Return s e path site h = simple-points s (Return e) (is.Return e) path site h (outs-Return e) (points-Return s e path site h)

pub simple-Empty : (s : Stmt) (path : List ℕ) (site : Site) → s ≡ Empty → (piece_of s).points path site ≡ point path site (simple_next (out-Stmt s) site ∷ []) ∷ []
simple-Empty s path site h = simple-points s Empty is.Empty path site h outs-Empty (points-Empty s path site h)

pub simple-Block : (s : Stmt) (a : List Stmt) (path : List ℕ) (site : Site) → s ≡ Block a → (piece_of s).points path site ≡ point path site (simple_next (out-Stmt s) site ∷ []) ∷ []
simple-Block s a path site h = simple-points s (Block a) (is.Block a) path site h (outs-Block a) (points-Block s a path site h)

pub ruleset of_pieces = (points-If, points-While, points-Switch, simple-Do, simple-DoWhile, simple-For, simple-Break, simple-Continue, simple-Return, simple-Empty, simple-Block)

-- a list from an element on
pub drop_at : {A : Type 0} → (xs : List A) (i : ℕ) (x : A) → i < length xs → x ≡ get_or xs i x → drop i xs ≡ x ∷ drop (i + 1) xs
drop_at xs i x l e =
    let n : suc i ≡ i + 1 = omega arith in
    drop-cons xs i x l ∙ ap (λ y. y ∷ drop (suc i) xs) (sym e) ∙ ap (λ m. x ∷ drop m xs) n

-- an element has no more than all
pub part_le : {A : Type 0} → (f : A → ℕ) (xs : List A) (i : ℕ) (x : A) → i < length xs → x ≡ get_or xs i x → f x ≤ sum_by f xs
part_le f xs i x h is = subst (λ y. f y ≤ sum_by f xs) (sym is) (get_or-le-sum_by f xs i x h)

-- a list is no longer than it has points
pub ruleset of_lengths = (length-le)

-- the cases of a `switch` as the definition has them
pub next-of-cases : (cases : List Case) (site : Site) → switch_next (case_pieces cases) site ≡ branches (may_pass (list_any (λ c. list_any is_none (out-Case c).labels) cases) (map case_total cases)) site (map case_total cases)
next-of-cases cases site = rw (defaults-of-cases cases, totals-of-cases cases) refl

pub sum-of-cases : (cases : List Case) → sum (map case_total cases) ≡ total_of_cases cases
sum-of-cases cases = sum-map case_total cases

pub ruleset of_cases = (next-of-cases, sum-of-cases)
