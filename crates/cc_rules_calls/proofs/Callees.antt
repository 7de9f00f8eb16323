-- What is called by a statement in normal form: a function or a register.
use Rattle.std.proofs.Common.{◌≡◌, ℕ, Bool, true, false, true≢false, ◌&&◌, ◌||◌, List, Option, Some, None, is_some, refl, ap, slice_get}
use Rattle.std.specs.Prelude.{if◌then◌else◌}
use Rattle.std.specs.List.{list_all}
use Rattle.cc_state_points.proofs.CcFlowSound.Opened.{NormalAt}
use Rattle.cc_state_points.specs.CcFlowSound.Statements.{statement_at}
use Rattle.cc_program.specs.declared.expr.Expr.{Expr, out-Expr}
use Rattle.cc_program.specs.declared.expr.Expr.TheOpen as one
use Rattle.cc_program.specs.declared.expr.Intr.{Intr}
use Rattle.cc_program.specs.declared.expr.Intr.TheVariants as intr
use Rattle.cc_program.specs.declared.expr.Place.{Place}
use Rattle.cc_program.specs.declared.func.Func.{Func}
use Rattle.cc_program.specs.declared.program.Program.{Program}
use Rattle.cc_program.specs.declared.stmt.Case.{Case}
use Rattle.cc_program.specs.declared.stmt.Stmt.{Stmt, out-Stmt}
use Rattle.cc_program.specs.declared.stmt.Stmt.TheOpen as is
use Rattle.cc_state_points.specs.CcRulesFlows.Acts.{Act, Sets, Reads, Writes, Calls, Saves, Turns, Restores, Tests, Chooses, Returns, Passes, acts, does, assigns, gets, loads, intrinsic, act_of}
use Rattle.cc_state_points.proofs.Sound.{its_normal}
use Rattle.cc_state_points.proofs.CcStateValues.Parts.{effects_at}
use Rattle.cc_state_points.proofs.CcSyntax.Prefixes.{both_true}
use Rattle.cc_state_points.specs.CcSyntax.Effects.{Effects, no_one, effects_of, place_effects_of}
use Rattle.cc_state_points.specs.CcSyntax.Folding.{is_folded}
use Rattle.cc_state_points.specs.CcSyntax.Forms.{form_at, form_of}
use Rattle.cc_state_points.specs.CcSyntax.Normal.{IsNormal, is_operand, is_other_place, is_callee, is_call, is_place_read, is_expression_statement}

first_fails : (a b : Bool) → a ≡ false → (a && b) ≡ false
first_fails true b e = absurd (true≢false e)
first_fails false b e = refl

last_left : (a b : Bool) → a ≡ false → (a || (false || b)) ≡ true → b ≡ true
last_left true b e h = absurd (true≢false e)
last_left false b e h = h

module _ (p : Program) (f : Func) where
  abbrev pub IsCalled : Act → Type 0
  IsCalled (Calls result g args) = is_callee p.target f (form_of g) ≡ true
  IsCalled (Sets r e) = Unit {0}
  IsCalled (Reads r a) = Unit {0}
  IsCalled (Writes a e) = Unit {0}
  IsCalled (Saves result) = Unit {0}
  IsCalled (Turns on) = Unit {0}
  IsCalled (Restores e) = Unit {0}
  IsCalled (Tests e these those) = Unit {0}
  IsCalled (Chooses e cases) = Unit {0}
  IsCalled (Returns e) = Unit {0}
  IsCalled Passes = Unit {0}

  of_call : (g : Expr) (args : List Expr) → is_call p.target f (form_at (one.Call g args)) ≡ true → is_callee p.target f (form_of g) ≡ true
  of_call g args h = (both_true (is_callee p.target f (form_of g)) (list_all (is_operand p.target f) args) h).0

  no_operand : (e g : Expr) (args : List Expr) → out-Expr e ≡ one.Call g args → is_operand p.target f e ≡ false
  no_operand e g args i = first_fails ((effects_of f e).pure no_one) (is_folded p.target e) (ap (λ (z : Effects). z.pure no_one) (effects_at f e (one.Call g args) i))

  of_intrinsic : (result : Option ℕ) (i : Intr) (a : Option Expr) → IsCalled (intrinsic result i a)
  of_intrinsic result intr.Off a = tt
  of_intrinsic result intr.On a = tt
  of_intrinsic result intr.Save a = tt
  of_intrinsic result intr.Restore None = tt
  of_intrinsic result intr.Restore (Some e) = tt

  of_load : (r : ℕ) (e : Expr) (a : Place) (o : Option ℕ) → IsCalled (loads r e a o)
  of_load r e a (Some own) = tt
  of_load r e a None = tt

  -- what a register gets
  of_given : (r : ℕ) (e : Expr) (x : one.Expr-F Expr Place) → out-Expr e ≡ x → (is_operand p.target f e || (is_place_read p.target f (form_at x) || is_call p.target f (form_at x))) ≡ true → IsCalled (gets f r e x)
  of_given r e (one.Call g args) i h = of_call g args (last_left (is_operand p.target f e) (is_call p.target f (form_at (one.Call g args))) (no_operand e g args i) h)
  of_given r e (one.Load a) i h = of_load r e a (place_effects_of f a).register
  of_given r e (one.Intr w a) i h = of_intrinsic (Some r) w a
  of_given r e (one.FuncAddr g) i h = tt
  of_given r e (one.Const z t) i h = tt
  of_given r e (one.Null t) i h = tt
  of_given r e (one.AddrOf a) i h = tt
  of_given r e (one.Un z t a) i h = tt
  of_given r e (one.Bin z t a b) i h = tt
  of_given r e (one.Conv t a) i h = tt
  of_given r e (one.Qualify t a) i h = tt
  of_given r e (one.Move a b back) i h = tt
  of_given r e (one.Gap a b) i h = tt
  of_given r e (one.Compare z a b) i h = tt
  of_given r e (one.Both a b) i h = tt
  of_given r e (one.Either a b) i h = tt
  of_given r e (one.Choose z a b) i h = tt
  of_given r e (one.Assign a x) i h = tt
  of_given r e (one.Change a z t x) i h = tt
  of_given r e (one.After a down) i h = tt
  of_given r e (one.Seq a b) i h = tt

  of_assigned : (a : Place) (x : Expr) (o : Option ℕ) →
      (if is_some o then is_operand p.target f x || (is_place_read p.target f (form_of x) || is_call p.target f (form_of x)) else is_other_place p.target f a && is_operand p.target f x) ≡ true → IsCalled (assigns f o a x)
  of_assigned a x (Some r) h = of_given r x (out-Expr x) refl h
  of_assigned a x None h = tt

  of_expression : (x : one.Expr-F Expr Place) → is_expression_statement p.target f (form_at x) ≡ true → IsCalled (does f x)
  of_expression (one.Assign a x) h = of_assigned a x (place_effects_of f a).register h
  of_expression (one.Call g args) h = of_call g args h
  of_expression (one.Intr w a) h = of_intrinsic None w a
  of_expression (one.FuncAddr g) h = tt
  of_expression (one.Load a) h = tt
  of_expression (one.Const z u) h = tt
  of_expression (one.Null u) h = tt
  of_expression (one.AddrOf a) h = tt
  of_expression (one.Un z u a) h = tt
  of_expression (one.Bin z u a b) h = tt
  of_expression (one.Conv u a) h = tt
  of_expression (one.Qualify u a) h = tt
  of_expression (one.Move a b back) h = tt
  of_expression (one.Gap a b) h = tt
  of_expression (one.Compare z a b) h = tt
  of_expression (one.Both a b) h = tt
  of_expression (one.Either a b) h = tt
  of_expression (one.Choose z a b) h = tt
  of_expression (one.Change a z u x) h = tt
  of_expression (one.After a down) h = tt
  of_expression (one.Seq a b) h = tt

  of_statement : (x : is.Stmt-F Stmt Case) → NormalAt p.target f x → IsCalled (acts f x)
  of_statement (is.Do e) h = of_expression (out-Expr e) h
  of_statement (is.If e these those) h = tt
  of_statement (is.While e body) h = tt
  of_statement (is.DoWhile body e) h = tt
  of_statement (is.For first test again body) h = tt
  of_statement (is.Switch e cases) h = tt
  of_statement is.Break h = tt
  of_statement is.Continue h = tt
  of_statement (is.Return e) h = tt
  of_statement is.Empty h = tt
  of_statement (is.Block body) h = tt

pub called_at : (p : Program) → IsNormal p → (id : ℕ) (f : Func) → slice_get p.funcs id ≡ Some f → (path : List ℕ) (s : Stmt) → statement_at f.body path ≡ Some s → IsCalled p f (act_of f s)
called_at p normal id f function path s stands = of_statement p f (out-Stmt s) (its_normal p normal id f function path s stands)
