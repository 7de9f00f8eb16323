-- States of runs in which all addresses name static objects that pass a test, or locals.
use Rattle.std.specs.Prelude.{◌≡◌, ℕ, Bool, true, List, [], ◌∷◌, Option, Some, None}
use Rattle.cc_states.specs.CcEval.declared.action.Action.{Action}
use Rattle.cc_states.specs.CcEval.declared.action.Action.TheVariants.{Read, Write, Choose, Call, Flag, Save}
use Rattle.cc_states.specs.CcEval.declared.mark.Mark.{Mark}
use Rattle.cc_states.specs.CcEval.declared.mark.Mark.TheVariants.{Gave, Did, Chose}
use Rattle.cc_states.specs.CcEval.Progress.{Progress, Known, Waits, Traps}
use Rattle.cc_program.specs.declared.value.Value.{Value}
use Rattle.cc_program.specs.declared.value.Value.TheVariants as value
use Rattle.cc_states.specs.CcSteps.State.{Active, State}
use Rattle.cc_rewrite_renamed.specs.Names.{names_in_address}

abbrev pub Every : {A : Type 0} → (A → Type 0) → List A → Type 0
Every P [] = Unit {0}
Every P (x ∷ xs) = P x × Every P xs

module _ (test : ℕ → Bool) where
  abbrev pub ValueIn : Value → Type 0
  ValueIn (value.Int n) = Unit {0}
  ValueIn (value.Place a) = names_in_address test a ≡ true

  -- a value that may be bad, or not written
  abbrev pub MayIn : Option Value → Type 0
  MayIn None = Unit {0}
  MayIn (Some v) = ValueIn v

  abbrev pub MarkIn : Mark → Type 0
  MarkIn (Gave v) = MayIn v
  MarkIn Did = Unit {0}
  MarkIn (Chose b) = Unit {0}

  -- what is written, and what is called with which arguments
  abbrev pub ActionIn : Action → Type 0
  ActionIn (Read at manner) = Unit {0}
  ActionIn (Write at is_event v) = ValueIn v
  ActionIn (Choose b) = Unit {0}
  ActionIn (Call callee args) = (names_in_address test callee ≡ true) × Every ValueIn args
  ActionIn (Flag on) = Unit {0}
  ActionIn Save = Unit {0}

  -- what is known, and what is asked for
  abbrev pub ProgressIn : {A : Type 0} → (A → Type 0) → Progress A → Type 0
  ProgressIn K (Known a ms) = K a × Every MarkIn ms
  ProgressIn K (Waits action) = ActionIn action
  ProgressIn K (Traps ms) = Unit {0}

  pub record ActiveIn (a : Active) : Type 0 where
    pub locals : Every (Every MayIn) a.locals
    pub marks : Every MarkIn a.marks

  pub record HoldsIn (s : State) : Type 0 where
    pub statics : Every (Every ValueIn) s.memory.statics
    pub stack : Every ActiveIn s.stack
