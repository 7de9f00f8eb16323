-- A twin of the code, the parser as a machine: what a turn does, as a function of what is to be done, the typedef
-- names in scope and the tokens ahead. It is shown to read the grammar, and is no definition of it.
use Rattle.std.specs.Prelude.{ℕ, Option, Some, None, Result, Ok}
use Rattle.cc_tree.specs.declared.at.At.{At}
use Rattle.cc_tree.specs.declared.state.Control.{Control}
use Rattle.cc_tree.specs.declared.state.Frame.{Frame}
use Rattle.cc_tree.specs.declared.state.Scoping.{Scoping}
use Rattle.cc_tree.specs.declared.state.Scoping.TheVariants as scoping
use Rattle.cc_tree.specs.declared.state.Tall.{Tall}
use Rattle.cc_tree.specs.declared.state.Turn.{Turn as TurnOf}
use Rattle.cc_tree.specs.declared.stop.Stop.{Stop}
use Rattle.cc_tree.specs.Tokens.{Tokens}

-- what a turn leaves: what waits from now on, what is to be done next, the tokens ahead, and what becomes of
-- the typedef names
pub record Went : Type 0 where
  pub frame : Option Frame
  pub control : Control
  pub rest : Tokens
  pub scoping : Scoping

abbrev pub Turn : Type 0
Turn = Result Went Stop

-- goes on with this
abbrev pub on : Control → Tokens → Turn
on c ts = Ok (record { frame = None; control = c; rest = ts; scoping = scoping.Same })

-- goes on with this, for what waits
abbrev pub opens : Frame → Control → Tokens → Turn
opens f c ts = Ok (record { frame = Some f; control = c; rest = ts; scoping = scoping.Same })

-- a node with its offset and its height
abbrev pub made : {A : Type 0} → ℕ → A → ℕ → Tall (At A)
made at node height = record { node = record { at = at; node = node }; height = height }

abbrev pub tall : {A : Type 0} → A → ℕ → Tall A
tall node height = record { node = node; height = height }

-- the view of the code's turns
abbrev pub went_of : TurnOf → Went
went_of t = record { frame = t.frame; control = t.control; rest = t.rest.now; scoping = t.scoping }
