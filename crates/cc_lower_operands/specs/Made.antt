-- What is made of an expression or a place, behind what there was: the new temporaries are the next locals.
use Rattle.std.specs.Prelude.{◌≡◌, List, ◌++◌, length}
use Rattle.cc_program.specs.declared.stmt.Stmt.{Stmt}
use Rattle.cc_eval.specs.CcSyntax.Types.{Named}
use Rattle.cc_lower_expressions.specs.Expressions.{Make}
use Rattle.cc_lower_accesses.specs.Modes.{as_locals}

-- the value, the locals and the statements before, and those after
pub record IsMade {A : Type 0} (make : Make A) (v : A) (before : List Named) (after : List Named) (ahead : List Stmt) (behind : List Stmt) : Type 0 where
  pub value : v ≡ (make (length before)).value
  pub locals : after ≡ before ++ as_locals (make (length before)).temps
  pub statements : behind ≡ ahead ++ (make (length before)).stmts
