-- Handlers, as the code has them, and what is asked where one may enter.
use Rattle.std.specs.Prelude.{◌≡◌, ◌≤◌, ◌==◌, if◌then◌else◌, ℕ, Bool, true, false, List, [], ◌∷◌, length, Some, slice_get}
use Rattle.std.specs.List.{AllZip, filter, flat_map}
use Rattle.cc_rules.specs.CcFlowSound.Moves.{entry}
use Rattle.cc_program.specs.declared.func.Func.{Func}
use Rattle.cc_program.specs.declared.program.Program.{Program}
use Rattle.cc_rules.specs.Rules.{handlers}
use Rattle.cc_rules_asked.specs.declared.asked.Asked.{Asked}
use Rattle.cc_rules_asked.specs.declared.asked.Asked.TheVariants as asked
use Rattle.cc_rules_asked.specs.declared.handlers.Handler.{Handler}
use Rattle.cc_rules.specs.CcRulesFlows.declared.after.Here.{Here}
use Rattle.cc_rules.specs.CcRulesNeeds.declared.needs.Part.TheVariants.{Mark, LevelSet}
use Rattle.cc_rules.specs.CcRulesNeeds.declared.needs.Slot.TheVariants.{ByHandler, Levels, From}
use Rattle.cc_rules.specs.CcStateFacts.declared.facts.PointFact.{PointFact}
use Rattle.cc_rules.specs.CcStateFacts.Facts.{levels_of}
use Rattle.cc_rules.specs.CcStateFacts.Levels.{may_enter, only_level}
use Rattle.cc_rules.specs.CcStateKeys.Tracked.{registers}
use Rattle.cc_rules.specs.CcSteps.Turn.{level_of}

-- a handler of a program, by the function's id
pub record IsHandlerOf (p : Program) (h : Handler) (id : ℕ) : Type 0 where
  pub function : h.function ≡ id
  pub level : h.level ≡ level_of p id
  pub low : h.level ≤ 7
  pub entry : h.entry ≡ entry p id
  pub func : Func
  pub there : slice_get p.funcs id ≡ Some func
  pub registers : h.registers ≡ length (registers func)

-- all of them, in order
abbrev pub AreHandlersOf : Program → List Handler → Type 0
AreHandlersOf p list = AllZip (IsHandlerOf p) list (handlers p)

-- what is known where a handler is entered: the flag is off, the cells have the sets of the point, and nothing is known of registers
abbrev pub fact_entered : {I : Type 0} → PointFact I → PointFact I
fact_entered fact = record fact { off = true; on = false; locals = []; same = [] }

module _ {I : Type 0} (here : Here I) where
  abbrev pub running_here : ℕ
  running_here = levels_of here.facts.now.levels here.context.id

  abbrev pub levels_entered : ℕ → ℕ
  levels_entered level = if level == 0 then running_here else only_level level

  abbrev pub asked_of : Handler → List (Asked I)
  asked_of h =
      asked.Part (ByHandler h.function) (Mark true)
      ∷ asked.Part (Levels h.function) (LevelSet (levels_entered h.level))
      ∷ asked.Part (From h.function) (LevelSet (only_level h.level))
      ∷ asked.Point h.entry h.registers (fact_entered here.fact.now) ∷ []

  abbrev pub enters_here : Handler → Bool
  enters_here h = may_enter running_here h.level

  abbrev pub asked_of_all : List Handler → List (Asked I)
  asked_of_all list = flat_map asked_of (filter enters_here list)
