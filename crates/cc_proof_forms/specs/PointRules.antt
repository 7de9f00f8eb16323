-- What facts have to say about a whole program, point by point.
use Rattle.std.specs.Prelude.{◌≡◌, ℕ, true, false, Some, slice_get, map}
use Rattle.cc_flow_sound.specs.CcEval.Progress.{no_value}
use Rattle.cc_flow_sound.specs.CcFlow.declared.types.Point.{Point}
use Rattle.cc_flow_sound.specs.CcFlow.Points.{flow_of}
use Rattle.cc_flow_sound.specs.Moves.{entry}
use Rattle.cc_program.specs.declared.func.Func.{Func}
use Rattle.cc_program.specs.declared.program.Program.{Program}
use Rattle.cc_proof_covers.specs.Covers.{AreStaticsIn}
use Rattle.cc_proof_covers.specs.Invariant.{exit_of, MayInterrupt, MayBeWritten}
use Rattle.cc_proof_covers.specs.Rules.{Begins, Enters, IsStable}
use Rattle.cc_proof_covers.specs.Views.{View}
use Rattle.cc_proof_forms.specs.Sets.{OperandSets}
use Rattle.cc_proof_forms.specs.StatementRules.{AreStatementRules}
use Rattle.cc_flow_sound.specs.CcSteps.State.{first_values}
use Rattle.cc_flow_sound.specs.CcSteps.Step.{gives_nothing}
use Rattle.cc_flow_sound.specs.CcSteps.Turn.{level_of}
use Rattle.cc_flow_sound.specs.CcSyntax.Operators.{is_handler}
use Rattle.cc_flow_sound.specs.CcSyntax.Registers.{is_register}

module _ (p : Program) (v : View) where
  -- a point of the function id: handlers enter where the flag may be on, and what they may write is not known there by point alone
  pub record PointRule (id : ℕ) (f : Func) (n : ℕ) : Type 0 where
    pub pairs : (r i : ℕ) → v.same n r i → is_register f r ≡ true
    pub handlers : v.reached n → v.may_be n true → (h : ℕ) (function : Func) → slice_get p.funcs h ≡ Some function → is_handler function ≡ true → MayInterrupt p v id (level_of p h) → Enters p v id n h (level_of p h)
    pub stable : v.reached n → v.may_be n true → (i : ℕ) → v.tracked i ≡ true → MayBeWritten p v id i → IsStable p v n i

  pub record AreRules (o : OperandSets) : Type 0 where
    pub initial : AreStaticsIn p v (map (first_values p) p.objects)
    pub main : (f : Func) → slice_get p.funcs p.main ≡ Some f → Begins p v (entry p p.main)
    pub pairs : (n r i : ℕ) → v.same n r i → v.tracked i ≡ true
    pub points : (n : ℕ) (q : Point) (f : Func) → slice_get (flow_of p).points n ≡ Some q → slice_get p.funcs q.func ≡ Some f → PointRule q.func f n
    pub statements : AreStatementRules p v o
    -- main gives 0 where its end is reached (C99 5.1.2.2.3)
    pub ends : (f : Func) → slice_get p.funcs p.main ≡ Some f → gives_nothing (Some f) ≡ false → v.reached (exit_of p p.main f) → v.result p.main no_value
