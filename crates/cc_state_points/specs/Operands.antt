-- What the operands of an act are, where its statement is sound and in normal form: pure, and scalars where they give values; what gets a
-- value as a register is one.
use Rattle.std.specs.Prelude.{◌≡◌, ℕ, true, is_some, List, map, Option, Some, None}
use Rattle.std.specs.List.{All}
use Rattle.cc_program.specs.CcNum.declared.int_type.IntType.{IntType}
use Rattle.cc_program.specs.declared.expr.Expr.{Expr}
use Rattle.cc_program.specs.declared.func.Func.{Func}
use Rattle.cc_program.specs.declared.program.Program.{Program}
use Rattle.cc_program.specs.declared.types.Sig.{Sig, out-Sig}
use Rattle.cc_rules_flows.specs.Acts.{Act, Sets, Reads, Writes, Calls, Saves, Turns, Restores, Tests, Chooses, Returns, Passes}
use Rattle.cc_state.specs.Points.{GivesScalar}
use Rattle.cc_rules_flows.specs.CcStateKeys.Tracked.{register_number}
use Rattle.cc_rules_flows.specs.CcStateValues.Typed.{IsPure, IsPurePlace}
use Rattle.cc_rules_flows.specs.CcSyntax.Programs.{type_of}
use Rattle.cc_rules_flows.specs.CcSyntax.Values.{Integer, ToFunction, are_assignable}

module _ (p : Program) (f : Func) where
  abbrev pub IsRegister : ℕ → Type 0
  IsRegister r = is_some (register_number f r) ≡ true

  -- what gets a result, where anything does
  abbrev pub MayGet : Option ℕ → Type 0
  MayGet None = Unit {0}
  MayGet (Some r) = IsRegister r

  -- what is called is a function of a type that the arguments fit
  pub record IsCall (g : Expr) (args : List Expr) : Type 0 where
    pub sig : Sig
    pub callee : IsPure p f g
    pub is_function : type_of p f.locals g ≡ Some (ToFunction sig)
    pub arguments : All (IsPure p f) args
    pub fit : are_assignable (out-Sig sig).params (map (type_of p f.locals) args) ≡ true

  abbrev pub AreOperands : Act → Type 0
  AreOperands (Sets r e) = IsRegister r × IsPure p f e
  AreOperands (Reads r a) = IsRegister r × IsPurePlace p f a × GivesScalar p f a
  AreOperands (Writes a e) = IsPurePlace p f a × IsPure p f e
  AreOperands (Calls result g args) = MayGet result × IsCall g args
  AreOperands (Saves result) = MayGet result
  AreOperands (Turns on) = Unit {0}
  AreOperands (Restores e) = IsPure p f e
  AreOperands (Tests e these those) = IsPure p f e
  AreOperands (Chooses e cases) = IsPure p f e × ((t : IntType) × (type_of p f.locals e ≡ Some (Integer t)))
  AreOperands (Returns None) = Unit {0}
  AreOperands (Returns (Some e)) = IsPure p f e
  AreOperands Passes = Unit {0}
