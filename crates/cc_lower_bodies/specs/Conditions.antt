-- The conditions of an `if` without `else`, from left to right: an `&&` that is not pure is two of them, and the first one is
-- lowered as an operand behind which the second one assigns registers.
use Rattle.std.specs.Prelude.{◌+◌, List, [], ◌∷◌, ◌++◌, length, if◌then◌else◌}
use Rattle.cc_program.specs.declared.expr.Expr.{Expr, roll-Expr, map-Expr, fold-Expr}
use Rattle.cc_program.specs.declared.expr.Expr.TheOpen as one
use Rattle.cc_program.specs.declared.expr.Place.{Place, roll-Place, map-Place}
use Rattle.cc_program.specs.declared.func.Func.{Func}
use Rattle.cc_program.specs.declared.program.Program.{Program}
use Rattle.cc_program.specs.declared.stmt.Stmt.{Stmt, If}
use Rattle.cc_eval.specs.CcSyntax.Effects.{Registers, also, effects_of}
use Rattle.cc_lower_bodies.specs.declared.conditions.Condition.{Condition}
use Rattle.cc_lower_expressions.specs.Expressions.{Piece, piece, Lowers}
use Rattle.cc_lower_accesses.specs.Modes.{operand_of}

-- what stands in front of an `if`, and its operand
abbrev pub Guarding : Type 0
Guarding = List Stmt × Expr

abbrev pub condition_view : Condition → Guarding
condition_view c = (c.first.items, c.operand)

-- what is done where all of them hold
unfoldable pub nest : List Guarding → List Stmt → List Stmt
nest [] these = these
nest (c ∷ cs) these = c.0 ++ If c.1 (nest cs these) [] ∷ []

abbrev pub one_condition : Piece Expr → Piece (List Guarding)
one_condition x = piece x.temps [] ((x.stmts, x.value) ∷ [])

abbrev pub beside : Piece (List Guarding) → Piece (List Guarding) → Piece (List Guarding)
beside x y = piece (x.temps ++ y.temps) [] (x.value ++ y.value)

-- two conditions, of which the second one assigns these registers
abbrev pub two_conditions : Registers → Lowers (List Guarding) → Lowers (List Guarding) → Lowers (List Guarding)
two_conditions assigned a b later k = (let x = a (also assigned later) k in beside x (b later (k + length x.temps)))

pub record Parted : Type 0 where
  pub itself : Expr
  pub conditions : Lowers (List Guarding)

abbrev pub expression_parted : one.Expr-F Parted Place → Expr
expression_parted x = roll-Expr (map-Expr Parted Place Expr Place (λ s. s.itself) (λ a. a) x)

abbrev pub place_parted : one.Place-F Parted Place → Place
place_parted a = roll-Place (map-Place Parted Place Expr Place (λ s. s.itself) (λ b. b) a)

module _ (p : Program) (f : Func) where
  unfoldable pub alone_of : Expr → Lowers (List Guarding)
  alone_of e later k = one_condition (operand_of p f e later k)

  abbrev pub conditions_by : Expr → one.Expr-F Parted Place → Lowers (List Guarding)
  conditions_by e (one.Both a b) later k =
      if (effects_of f e).pure later then alone_of e later k else two_conditions (effects_of f b.itself).assigned a.conditions b.conditions later k
  conditions_by e _ later k = alone_of e later k

  abbrev pub parted_step : one.Expr-F Parted Place → Parted
  parted_step x = record { itself = expression_parted x; conditions = conditions_by (expression_parted x) x }

  unfoldable pub conditions_of : Expr → Lowers (List Guarding)
  conditions_of e = (fold-Expr Parted Place parted_step place_parted e).conditions
