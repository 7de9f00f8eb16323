-- Statements that are lowered right: their loops are `while (1)`, they are sound in their function, and they take only addresses that it takes.
use Rattle.std.specs.Prelude.{◌≡◌, ℕ, Bool, true}
use Rattle.cc_program.specs.declared.expr.Expr.{Expr}
use Rattle.cc_program.specs.declared.func.Func.{Func}
use Rattle.cc_program.specs.declared.program.Program.{Program}
use Rattle.cc_program.specs.declared.stmt.Stmt.{Stmt}
use Rattle.cc_program.specs.declared.types.Sig.{out-Sig}
use Rattle.cc_states.specs.Answers.{TakesAddressesOf}
use Rattle.cc_states.specs.CcSyntax.Expressions.{type_of}
use Rattle.cc_states.specs.CcSyntax.Registers.{is_taken_in, is_addressed}
use Rattle.cc_states.specs.CcSyntax.Statements.{is_sound_stmt}
use Rattle.cc_states.specs.CcSyntax.Views.{of_program}
use Rattle.cc_lower_sound.specs.Statements.{is_plain}
use Rattle.cc_lower_expressions_follows.specs.Old.{is_old}
use Rattle.cc_lower_expressions_follows.specs.Trees.{Setting, context_p}
use Rattle.cc_lower_expressions_follows.proofs.Typing.{TypedExpr}

-- an expression of the source: it has a type, names locals of the source alone, and takes only addresses that its function takes
pub record IsLowerable (w : Setting) (e : Expr) : Type 0 where
  pub typed : TypedExpr (context_p w) e
  pub old : is_old w.base e ≡ true
  pub own : TakesAddressesOf w.from e

-- a statement of a function
pub record IsLowerableIn (p : Program) (f : Func) (s : Stmt) : Type 0 where
  pub plain : is_plain s ≡ true
  pub breaks : Bool
  pub continues : Bool
  pub sound : is_sound_stmt p.target (type_of (of_program p) f.locals) (out-Sig f.sig).result s breaks continues ≡ true
  pub own : (r : ℕ) → is_taken_in r s ≡ true → is_addressed f r ≡ true
