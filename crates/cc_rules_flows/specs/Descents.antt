-- The statement to which the rest of a path leads from a statement inwards.
use Rattle.std.specs.Prelude.{◌≡◌, ℕ, List, [], ◌∷◌, Option, Some, None, slice_get, refl}
use Rattle.cc_flow_sound.specs.Statements.{inside, statement_at}
use Rattle.cc_program.specs.declared.stmt.Stmt.{Stmt, out-Stmt}
use Rattle.cc_syntax.specs.Expressions.{of_one}

abbrev pub descended : Stmt → List ℕ → Option Stmt
descended s [] = Some s
descended s (n ∷ path) = of_one (slice_get (inside (out-Stmt s)) n) (λ s. descended s path)
