-- Where an activation stands in the body of its function: what is left of each list that it is in is the end of a list of statements
-- there, and the position is how many stand in front of it (C99 6.8).
use Rattle.std.specs.Prelude.{◌≡◌, ◌⊎◌, ◌+◌, ℕ, List, [], ◌∷◌, ◌++◌, length}
use Rattle.cc_program.specs.declared.stmt.Case.{Case}
use Rattle.cc_program.specs.declared.stmt.Stmt.{Stmt, out-Stmt}
use Rattle.cc_program.specs.declared.stmt.Stmt.TheOpen as is
use Rattle.cc_steps.specs.CcControl.Control.{Level, counted, bodies}

-- the lists inside a statement, with the number at which positions in each begin: those in the second arm of an `if` count on from
-- the first, and the bodies of a `switch` are one list
abbrev pub IsListIn : is.Stmt-F Stmt Case → List Stmt → ℕ → Type 0
IsListIn (is.Do e) list first = ⊥
IsListIn (is.If e these those) list first = ((list ≡ these) × (first ≡ 0)) ⊎ ((list ≡ those) × (first ≡ length these))
IsListIn (is.While e body) list first = (list ≡ body) × (first ≡ 0)
IsListIn (is.DoWhile body e) list first = (list ≡ body) × (first ≡ 0)
IsListIn (is.For start test again body) list first = (list ≡ body) × (first ≡ 0)
IsListIn (is.Switch e cases) list first = (list ≡ bodies cases) × (first ≡ 0)
IsListIn is.Break list first = ⊥
IsListIn is.Continue list first = ⊥
IsListIn (is.Return e) list first = ⊥
IsListIn is.Empty list first = ⊥
IsListIn (is.Block body) list first = (list ≡ body) × (first ≡ 0)

abbrev pub IsListInFirst : List Stmt → List Stmt → ℕ → Type 0
IsListInFirst [] list first = ⊥
IsListInFirst (s ∷ rest) list first = IsListIn (out-Stmt s) list first

-- what is left of a list whose positions begin at a number
pub record IsLeft (list : List Stmt) (first : ℕ) (rest : List Stmt) (position : ℕ) : Type 0 where
  pub front : List Stmt
  pub whole : list ≡ front ++ rest
  pub counts : position ≡ counted (first + length front)

-- it is of the body, or of a list inside the first statement that is left at the level around
abbrev pub StandsIn : List Stmt → List Level → List Stmt → ℕ → Type 0
StandsIn body [] rest position = IsLeft body 0 rest position
StandsIn body (at ∷ around) rest position = (list : List Stmt) × (first : ℕ) × IsListInFirst at.rest list first × IsLeft list first rest position

-- the levels at which an activation stands, the innermost first
abbrev pub AreInside : List Stmt → List Level → Type 0
AreInside body [] = Unit {0}
AreInside body (at ∷ around) = StandsIn body around at.rest at.position × AreInside body around
