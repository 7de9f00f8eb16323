-- What branches that are not pure have in common.
use Rattle.std.specs.Prelude.{ℕ, Bool, List, [], Option, if◌then◌else◌}
use Rattle.cc_program.specs.declared.expr.Expr.{Expr}
use Rattle.cc_program.specs.declared.func.Func.{Func}
use Rattle.cc_program.specs.declared.program.Program.{Program}
use Rattle.cc_program.specs.declared.stmt.Stmt.{Stmt}
use Rattle.cc_eval.specs.CcSyntax.Effects.{also, effects_of}
use Rattle.cc_eval.specs.CcSyntax.Values.{ValueType}
use Rattle.cc_lower_expressions.specs.Expressions.{Make, Lowers, piece, done, ◌>>=◌, fresh, int_value, unused}
use Rattle.cc_lower_accesses.specs.Modes.{operand_of, arm_in}

-- an arm, whose statements stand in no list yet, beside a condition and the register that it sets
abbrev pub apart : Expr → ℕ → Make (Unit {0}) → Make (Expr × ℕ × List Stmt)
apart x register arm k = piece (arm k).temps [] (x, register, (arm k).stmts)

-- of `&&` and `||`: the first operand, a register for the value, and the arm that sets it to the truth of the second operand
unfoldable pub decided_of : Program → Func → Expr → Expr → Lowers (Expr × ℕ × List Stmt)
decided_of p f a b later =
    operand_of p f a (also (effects_of f b).assigned later) >>= (λ x. fresh int_value >>= (λ n. apart x n (arm_in p f b later n)))

-- the value of a branch, which nobody uses: one that is pure is as other operands
abbrev pub alone_of : Bool → Option ValueType → Expr → Make (Unit {0})
alone_of is_pure t x = if is_pure then unused t x else done tt
