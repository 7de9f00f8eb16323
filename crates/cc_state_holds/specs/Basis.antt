-- What states are held against.
use Rattle.std.specs.Prelude.{◌≡◌, Some}
use Rattle.cc_flow_sound.specs.CcFlow.Points.{flow_of}
use Rattle.cc_program.specs.declared.func.Func.{Func}
use Rattle.cc_state.specs.Shape.{HaveShape}
use Rattle.cc_state.specs.View.{IsFunctionAt}
use Rattle.cc_state_reads.specs.CcStateFacts.Facts.{fact_at}
use Rattle.cc_state_holds.specs.declared.basis.Basis.{Basis}
use Rattle.cc_state_holds.specs.declared.basis.Reached.{Reached}
use Rattle.cc_state_reads.specs.CcStateKeys.Tracked.{registers, tracked}
use Rattle.cc_state_reads.specs.CcStateOperators.Domains.{Domain}
use Rattle.cc_state_scalars.specs.Listed.{AreStaticKeys}
use Rattle.cc_state_reads.specs.CcSyntax.Normal.{IsNormal}

-- a program in normal form, its flow, facts of its shape, its tracked cells, and the keys of the scalars of its static objects
pub record IsBasis {I : Type 0} (d : Domain I) (b : Basis I) : Type 0 where
  pub normal : IsNormal b.program.now
  pub flow : b.flow.now ≡ flow_of b.program.now
  pub shape : HaveShape d b.program.now b.facts.now
  pub tracked : b.tracked.now ≡ tracked b.program.now
  pub objects : AreStaticKeys b.program.now b.program.now.objects b.objects.now

-- a point that is reached, with what is known there and the registers of its function
pub record IsPlace {I : Type 0} (d : Domain I) (b : Basis I) (place : Reached I) : Type 0 where
  pub func : Func
  pub function : IsFunctionAt d b.program.now b.facts.now place.number func
  pub known : fact_at b.facts.now place.number ≡ Some place.fact.now
  pub registers : place.registers.now ≡ registers func
