-- Induction along the statements that are entered at once with the one around them: a claim holds of each statement
-- where it holds of one when it holds of the first statement of the block that it opens.
use Rattle.std.proofs.Common.{◌≡◌, List, ◌∷◌, ap, sym, ◌∙◌, subst}
use Rattle.cc_program.specs.declared.stmt.Case.{Case}
use Rattle.cc_program.specs.declared.stmt.Stmt.{Stmt, out-Stmt, roll-Stmt, out-roll-Stmt}
use Rattle.cc_program.specs.declared.stmt.Stmt.TheOpen as is
use Rattle.cc_program.proofs.Each.{Each}
use Rattle.cc_program.proofs.StmtInduction.{StmtParts, by_stmt}
use Rattle.cc_steps.specs.CcControl.Control.{opening}

module _ (P : Stmt → Type 0) where
  abbrev AnyCase : Case → Type 0
  AnyCase c = Unit {0}

  first_part : (x : is.Stmt-F Stmt Case) (t : Stmt) (ts : List Stmt) → StmtParts P AnyCase x → opening x ≡ t ∷ ts → P t
  first_part (is.Do e) t ts h k = absurd (cc)
  first_part (is.If e these those) t ts h k = absurd (cc)
  first_part (is.While e body) t ts h k = absurd (cc)
  first_part (is.DoWhile body e) t ts h k = (subst (Each P) k h).0
  first_part (is.For first test again body) t ts h k = absurd (cc)
  first_part (is.Switch e cases) t ts h k = absurd (cc)
  first_part is.Break t ts h k = absurd (cc)
  first_part is.Continue t ts h k = absurd (cc)
  first_part (is.Return e) t ts h k = absurd (cc)
  first_part is.Empty t ts h k = absurd (cc)
  first_part (is.Block body) t ts h k = (subst (Each P) k h).0

  pub by_opening : ((s : Stmt) → ((t : Stmt) (ts : List Stmt) → opening (out-Stmt s) ≡ t ∷ ts → P t) → P s) → (s : Stmt) → P s
  by_opening made = by_stmt P AnyCase
      (λ x h. made (roll-Stmt x) (λ t ts e. first_part x t ts h (ap opening (sym (out-roll-Stmt x)) ∙ e)))
      (λ c h. tt)
