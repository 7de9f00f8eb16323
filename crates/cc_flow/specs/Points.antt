-- The points of a program in normal form, and where control goes from each (C99 6.8). Each statement is a point, and
-- those inside it stand behind it, in text order. A function's exit is a point of its own, its last.
use Rattle.std.specs.Prelude.{ℕ, ◌+◌, ◌||◌, Bool, nat_eq, List, [], ◌∷◌, ◌++◌, map, length, is_none, sum_by}
use Rattle.std.specs.List.{list_any}
use Rattle.cc_program.specs.declared.func.Func.{Func}
use Rattle.cc_program.specs.declared.program.Program.{Program}
use Rattle.cc_program.specs.declared.stmt.Stmt.{Stmt, fold-Stmt}
use Rattle.cc_program.specs.declared.stmt.Stmt.TheOpen as is
use Rattle.cc_flow.specs.declared.types.Flow.{Flow}
use Rattle.cc_flow.specs.declared.types.Point.{Point}
use Rattle.cc_flow.specs.declared.next.Site.{Site}
use Rattle.cc_flow.specs.Next.{reached, branches, may_pass}

-- a statement: how many points it has, and which, from its path and from where it stands
pub record Piece : Type 0 where
  pub count : ℕ
  pub points : List ℕ → Site → List Point

-- what stands behind the labels of a case, and whether `default` is one of them
pub record CasePiece : Type 0 where
  pub is_default : Bool
  pub body : List Piece

abbrev pub total : List Piece → ℕ
total list = sum_by (λ p. p.count) list

abbrev pub total_in_cases : List CasePiece → ℕ
total_in_cases cases = sum_by (λ c. total c.body) cases

-- a list of statements, the first at this position and of the site's number: behind each comes the next
abbrev pub list_points : List Piece → List ℕ → ℕ → Site → List Point
list_points [] path position site = []
list_points (p ∷ list) path position site =
    p.points (path ++ position ∷ []) (record site { behind = reached (total list) (site.number + p.count) site.behind })
    ++ list_points list path (position + 1) (record site { number = site.number + p.count })

-- the cases of a `switch`: each falls through into the next, and their statements count as one list
abbrev pub case_points : List CasePiece → List ℕ → ℕ → Site → List Point
case_points [] path position site = []
case_points (c ∷ cases) path position site =
    list_points c.body path position (record site { behind = reached (total_in_cases cases) (site.number + total c.body) site.behind })
    ++ case_points cases path (position + length c.body) (record site { number = site.number + total c.body })

abbrev pub point : List ℕ → Site → List ℕ → Point
point path site next = record { func = site.func; path = path; next = next }

-- a statement with none inside
abbrev pub simple : (Site → ℕ) → Piece
simple next = record { count = 1; points = λ path site. point path site (next site ∷ []) ∷ [] }

-- an `if` goes to the first point of each list, and on where one is empty; the statements of both count as one list
abbrev pub if_next : List Piece → List Piece → Site → List ℕ
if_next a b site = branches (nat_eq (total a) 0 || nat_eq (total b) 0) site (total a ∷ total b ∷ [])

abbrev pub if_points : List Piece → List Piece → List ℕ → Site → List Point
if_points a b path site =
    point path site (if_next a b site)
    ∷ (list_points a path 0 (record site { number = site.number + 1 }) ++ list_points b path (length a) (record site { number = site.number + 1 + total a }))

-- `while (1)` goes to the first point of its body, or to itself, and so does the end of its body
abbrev pub loop_next : List Piece → Site → ℕ
loop_next a site = reached (total a) (site.number + 1) site.number

abbrev pub loop_points : List Piece → List ℕ → Site → List Point
loop_points a path site =
    point path site (loop_next a site ∷ [])
    ∷ list_points a path 0 (record site { number = site.number + 1; behind = site.number; breaks = site.behind; continues = site.number })

-- a `switch` goes to the first point of each case that has any, and on where there is no default or the last is empty
abbrev pub switch_next : List CasePiece → Site → List ℕ
switch_next cases site = branches (may_pass (list_any (λ c. c.is_default) cases) (map (λ c. total c.body) cases)) site (map (λ c. total c.body) cases)

abbrev pub switch_points : List CasePiece → List ℕ → Site → List Point
switch_points cases path site =
    point path site (switch_next cases site)
    ∷ case_points cases path 0 (record site { number = site.number + 1; breaks = site.behind })

-- a program in normal form has no other loops, no blocks and no empty statements: here these are like expressions
abbrev pub flow_step : is.Stmt-F Piece CasePiece → Piece
flow_step (is.Do e) = simple (λ site. site.behind)
flow_step (is.If e a b) = record { count = 1 + (total a + total b); points = if_points a b }
flow_step (is.While e a) = record { count = 1 + total a; points = loop_points a }
flow_step (is.DoWhile a e) = simple (λ site. site.behind)
flow_step (is.For first test step a) = simple (λ site. site.behind)
flow_step (is.Switch e cases) = record { count = 1 + total_in_cases cases; points = switch_points cases }
flow_step is.Break = simple (λ site. site.breaks)
flow_step is.Continue = simple (λ site. site.continues)
flow_step (is.Return e) = simple (λ site. site.exit)
flow_step is.Empty = simple (λ site. site.behind)
flow_step (is.Block a) = simple (λ site. site.behind)

abbrev pub case_step : is.Case-F Piece CasePiece → CasePiece
case_step c = record { is_default = list_any is_none c.labels; body = c.body }

unfoldable pub piece_of : Stmt → Piece
piece_of s = fold-Stmt Piece CasePiece flow_step case_step s

abbrev pub pieces : List Stmt → List Piece
pieces list = map piece_of list

-- how many points statements have
abbrev pub size_of : Stmt → ℕ
size_of s = (piece_of s).count

abbrev pub total_of : List Stmt → ℕ
total_of list = sum_by size_of list

-- a function: the points of its body, and the exit, whose path is the length of the body
abbrev pub body_count : List Stmt → ℕ
body_count body = total_of body + 1

abbrev pub body_site : ℕ → ℕ → ℕ → Site
body_site func first exit = record { func = func; number = first; behind = exit; breaks = exit; continues = exit; exit = exit }

abbrev pub body_points : ℕ → ℕ → List Stmt → List Point
body_points func first body =
    list_points (pieces body) [] 0 (body_site func first (first + total_of body))
    ++ (record { func = func; path = length body ∷ []; next = [] }) ∷ []

-- function by function
abbrev pub count_in : List Func → ℕ
count_in funcs = sum_by (λ f. body_count f.body) funcs

abbrev pub points_in : ℕ → ℕ → List Func → List Point
points_in func first [] = []
points_in func first (f ∷ funcs) = body_points func first f.body ++ points_in (func + 1) (first + body_count f.body) funcs

abbrev pub firsts_in : ℕ → List Func → List ℕ
firsts_in first [] = []
firsts_in first (f ∷ funcs) = first ∷ firsts_in (first + body_count f.body) funcs

abbrev pub count_of : Program → ℕ
count_of p = count_in p.funcs

abbrev pub flow_of : Program → Flow
flow_of p = record { points = points_in 0 0 p.funcs; first = firsts_in 0 p.funcs }
