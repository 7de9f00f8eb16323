-- Facts cover a program: each state of each run, for all inputs and arrivals, lies in them.
use Rattle.std.specs.Prelude.{◌≤◌, ℤ, List}
use Rattle.cc_flow_sound.specs.CcFlow.Points.{count_of}
use Rattle.cc_program.specs.declared.program.Program.{Program}
use Rattle.cc_state.specs.Shape.{HaveShape}
use Rattle.cc_state.specs.View.{Lies}
use Rattle.cc_state_reads.specs.CcStateFacts.declared.facts.Facts.{Facts}
use Rattle.cc_state_reads.specs.CcStateKeys.Counts.{fact_count}
use Rattle.cc_state_reads.specs.CcStateOperators.Domains.{Domain}
use Rattle.cc_flow_sound.specs.CcSteps.Runs.{Arrivals, run}
use Rattle.cc_flow_sound.specs.CcSteps.Turn.{start}
use Rattle.cc_state_reads.specs.CcSyntax.Normal.{IsNormal}

module _ {I : Type 0} (d : Domain I) (p : Program) (facts : Facts I) where
  abbrev pub Covers : Type 0
  Covers = (inputs : List ℤ) (arrivals : Arrivals) → Lies d p facts (run p (start p inputs) arrivals)

  -- the program is normal and within the limits of points and of facts
  pub record IsInLimits : Type 0 where
    pub normal : IsNormal p
    pub few_points : count_of p ≤ 65536
    pub few_facts : fact_count p ≤ 4194304

  -- and the facts have its shape and cover it
  pub record IsCovered : Type 0 where
    pub limits : IsInLimits
    pub shape : HaveShape d p facts
    pub covers : Covers
