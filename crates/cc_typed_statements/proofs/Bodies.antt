-- Bodies of statements, and assignments that are joined.
use Rattle.std.proofs.Common.{◌≡◌, ◌≢◌, List, [], ◌∷◌, ◌++◌, Option, refl, length}
use Rattle.cc_program.specs.declared.expr.Expr.{Expr}
use Rattle.cc_program.specs.declared.stmt.Stmt.{Stmt}
use Rattle.cc_typed_statements.specs.Conditions.{body_of, joined_to, then_one}

-- of none or of several statements, the list itself
pub body_of-others : (ss : List Stmt) → length ss ≢ 1 → body_of ss ≡ ss
body_of-others [] h = refl
body_of-others (s ∷ []) h = absurd (h refl)
body_of-others (s ∷ t ∷ ss) h = refl

-- one more assignment
pub joined_to-end : (before : Option Expr) (es : List Expr) (e : Expr) → joined_to before (es ++ e ∷ []) ≡ then_one (joined_to before es) e
joined_to-end before [] e = refl
joined_to-end before (d ∷ es) e = joined_to-end (then_one before d) es e

pub ruleset of_bodies = (body_of-others, joined_to-end)
