-- What a statement in normal form does at its point.
use Rattle.std.specs.Prelude.{ℕ, Bool, true, false, List, Option, Some, None}
use Rattle.cc_program.specs.declared.expr.Expr.{Expr, out-Expr}
use Rattle.cc_program.specs.declared.expr.Expr.TheOpen as one
use Rattle.cc_program.specs.declared.expr.Intr.{Intr}
use Rattle.cc_program.specs.declared.expr.Intr.TheVariants as intr
use Rattle.cc_program.specs.declared.expr.Place.{Place}
use Rattle.cc_program.specs.declared.func.Func.{Func}
use Rattle.cc_program.specs.declared.stmt.Case.{Case}
use Rattle.cc_program.specs.declared.stmt.Stmt.{Stmt, out-Stmt}
use Rattle.cc_program.specs.declared.stmt.Stmt.TheOpen as is
use Rattle.cc_syntax.specs.Effects.{place_effects_of}

pub data Act : Type 0 where
  -- a register gets an operand, or what a place holds; a place gets an operand
  Sets : ℕ → Expr → Act
  Reads : ℕ → Place → Act
  Writes : Place → Expr → Act
  -- a call, and `irq_save`, with the register that gets the result
  Calls : Option ℕ → Expr → List Expr → Act
  Saves : Option ℕ → Act
  -- `irq_off` and `irq_on`, and `irq_restore`
  Turns : Bool → Act
  Restores : Expr → Act
  -- an `if`, a `switch`, and a return
  Tests : Expr → List Stmt → List Stmt → Act
  Chooses : Expr → List Case → Act
  Returns : Option Expr → Act
  -- a loop, `break` and `continue`
  Passes : Act

abbrev pub restores : Option Expr → Act
restores None = Passes
restores (Some e) = Restores e

abbrev pub intrinsic : Option ℕ → Intr → Option Expr → Act
intrinsic result intr.Off e = Turns false
intrinsic result intr.On e = Turns true
intrinsic result intr.Save e = Saves result
intrinsic result intr.Restore e = restores e

-- a register is read as an operand, another place is not
abbrev pub loads : ℕ → Expr → Place → Option ℕ → Act
loads r e a (Some own) = Sets r e
loads r e a None = Reads r a

module _ (f : Func) where
  abbrev pub gets : ℕ → Expr → one.Expr-F Expr Place → Act
  gets r e (one.Load a) = loads r e a (place_effects_of f a).register
  gets r e (one.Call g args) = Calls (Some r) g args
  gets r e (one.Intr i x) = intrinsic (Some r) i x
  gets r e _ = Sets r e

  abbrev pub assigns : Option ℕ → Place → Expr → Act
  assigns None a e = Writes a e
  assigns (Some r) a e = gets r e (out-Expr e)

  abbrev pub does : one.Expr-F Expr Place → Act
  does (one.Assign a e) = assigns (place_effects_of f a).register a e
  does (one.Call g args) = Calls None g args
  does (one.Intr i x) = intrinsic None i x
  does _ = Passes

  abbrev pub acts : is.Stmt-F Stmt Case → Act
  acts (is.Do e) = does (out-Expr e)
  acts (is.If e these those) = Tests e these those
  acts (is.While e body) = Passes
  acts (is.DoWhile body e) = Passes
  acts (is.For first test again body) = Passes
  acts (is.Switch e cases) = Chooses e cases
  acts is.Break = Passes
  acts is.Continue = Passes
  acts (is.Return e) = Returns e
  acts is.Empty = Passes
  acts (is.Block body) = Passes

  abbrev pub act_of : Stmt → Act
  act_of s = acts (out-Stmt s)
