-- What facts have to say where a function is called, and where the flag is saved.
use Rattle.std.specs.Prelude.{◌≡◌, ℕ, Bool, true, false, Option, Some, None}
use Rattle.cc_flow_sound.specs.Moves.{entry}
use Rattle.cc_program.specs.CcNum.Results.{one_if}
use Rattle.cc_program.specs.declared.func.Func.{Func}
use Rattle.cc_program.specs.declared.program.Program.{Program}
use Rattle.cc_program.specs.declared.value.Value.TheVariants.{Int}
use Rattle.cc_program.specs.declared.value.Value.{Value}
use Rattle.cc_proof_covers.specs.Invariant.{exit_of, FlowsBack}
use Rattle.cc_proof_covers.specs.Rules.{Flows, Opens}
use Rattle.cc_proof_covers.specs.Views.{View}
use Rattle.cc_flow_sound.specs.CcSteps.Step.{gives_nothing}
use Rattle.cc_flow_sound.specs.CcSyntax.Registers.{is_register}

-- the function g, over arguments of these properties, is called at the point n of the function id, and goes back to the point k, with its
-- result in a register or without one, where it may return
pub record CallRule (p : Program) (v : View) (id : ℕ) (f : Func) (n k : ℕ) (val : ℕ → Value → Type 0) (g : ℕ) (function : Func) (result : Option ℕ) : Type 0 where
  pub back : v.reached (exit_of p g function) → FlowsBack p v f n k g (exit_of p g function) result
  pub gives : (r : ℕ) → result ≡ Some r → gives_nothing (Some function) ≡ false
  pub opens : Opens p v id n g (entry p g) (v.may_be n)
  pub by_main : v.by_main id → v.by_main g
  pub by_handler : v.by_handler id → v.by_handler g
  pub from : (l : ℕ) → v.reached_from id l → v.reached_from g l
  pub levels : (l : ℕ) → v.runs_at id l → v.runs_at g l
  pub registers : (i : ℕ) (w : Value) → is_register function i ≡ true → val i w → v.local (entry p g) i w
  pub others : (i : ℕ) (w : Value) → is_register function i ≡ false → val i w → v.local_at g i 0 w

-- from the point n to the point k: the flag is off there, and a register that gets what it was has its values
pub record SaveRule (p : Program) (v : View) (n k : ℕ) (result : Option ℕ) : Type 0 where
  pub flows : Flows p v n k result None
  pub off : v.may_be k false
  pub gives : (b : Bool) → v.may_be n b → (r : ℕ) → result ≡ Some r → v.local k r (Int (one_if b))
  pub pairs : (r i : ℕ) → result ≡ Some r → v.same k r i → ⊥
