-- A point of a program that is reached, as the code has it.
use Rattle.std.specs.Prelude.{◌≡◌, ℕ, Option, Some, None}
use Rattle.cc_program.specs.declared.program.Program.{Program}
use Rattle.cc_state_points.specs.CcRulesFlows.declared.after.Here.{Here}
use Rattle.cc_state_points.specs.CcRulesFlows.Here.{IsHere}
use Rattle.cc_state_points.specs.CcRulesFlows.Nexts.{IsPoint}
use Rattle.cc_state_points.specs.CcStateFacts.declared.facts.Facts.{Facts}
use Rattle.cc_state_points.specs.CcStateFacts.Facts.{fact_at}
use Rattle.cc_state_points.specs.CcStateOperators.Domains.{Domain}

module _ {I : Type 0} (d : Domain I) (p : Program) (known : Facts I) (n : ℕ) where
  -- it is that point of the program, by these facts
  pub record IsHereAt (here : Here I) : Type 0 where
    pub is : IsHere d here
    pub program : here.context.program.now ≡ p
    pub facts : here.facts.now ≡ known
    pub number : here.number ≡ n
    pub point : IsPoint p n here.context.id here.context.func.now here.point.now

  -- none where the point is not reached
  abbrev pub IsHereOf : Option (Here I) → Type 0
  IsHereOf None = fact_at known n ≡ None
  IsHereOf (Some here) = IsHereAt here
