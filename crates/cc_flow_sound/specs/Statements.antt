-- The statement to which a path leads, from the body inwards, by the position in each list. The two lists of an `if` count as one, and so do
-- the bodies of a `switch`.
use Rattle.std.specs.Prelude.{ℕ, List, [], ◌∷◌, ◌++◌, Option, None, slice_get}
use Rattle.cc_states.specs.CcControl.Control.{bodies}
use Rattle.cc_program.specs.declared.stmt.Case.{Case}
use Rattle.cc_program.specs.declared.stmt.Stmt.{Stmt, out-Stmt}
use Rattle.cc_program.specs.declared.stmt.Stmt.TheOpen as is
use Rattle.cc_states.specs.CcSyntax.Expressions.{of_one}

-- the statements inside one
abbrev pub inside : is.Stmt-F Stmt Case → List Stmt
inside (is.Do e) = []
inside (is.If e these those) = these ++ those
inside (is.While e body) = body
inside (is.DoWhile body e) = body
inside (is.For first test again body) = body
inside (is.Switch e cases) = bodies cases
inside is.Break = []
inside is.Continue = []
inside (is.Return e) = []
inside is.Empty = []
inside (is.Block body) = body

abbrev pub statement_at : List Stmt → List ℕ → Option Stmt
statement_at list [] = None
statement_at list (n ∷ []) = slice_get list n
statement_at list (n ∷ m ∷ path) = of_one (slice_get list n) (λ s. statement_at (inside (out-Stmt s)) (m ∷ path))
