-- What states of the source say of its activations: which marks may come, and how functions are opened.
use Rattle.std.specs.Prelude.{◌≡◌, ℕ, Bool, false, List, [], ◌∷◌, ◌++◌, length, Option, Some, None, slice_get}
use Rattle.cc_states.specs.CcEval.declared.action.Action.{Action}
use Rattle.cc_states.specs.CcEval.declared.mark.Mark.{Mark}
use Rattle.cc_states.specs.CcEval.Progress.{Waits}
use Rattle.cc_program.specs.declared.expr.Expr.{Expr}
use Rattle.cc_program.specs.declared.func.Func.{Func}
use Rattle.cc_program.specs.declared.program.Program.{Program}
use Rattle.cc_program.specs.declared.stmt.Stmt.{Stmt, out-Stmt}
use Rattle.cc_program.specs.declared.value.Value.{Value}
use Rattle.cc_states.specs.CcControl.declared.phase.Phase.{Phase}
use Rattle.cc_states.specs.CcSteps.State.{locals_with}
use Rattle.cc_states.specs.CcSteps.Step.{worked}
use Rattle.cc_meaning_simulations.specs.Bodies.{all_extended, extended}
use Rattle.cc_meaning_simulations.specs.LocalSteps.{LocalState}
use Rattle.cc_lower_expressions.specs.Programs.{lowered_body, temporaries}
use Rattle.cc_lower_expressions_follows.specs.Trees.{Setting, is_own}
use Rattle.cc_lower_expressions_follows.specs.Registered.{regs_in}
use Rattle.cc_lower_expressions_follows.specs.WholeMatches.{AreAlike}
use Rattle.cc_lower_expressions_follows.specs.WholePlaces.{MarkFits, opened_at}
use Rattle.cc_lower_expressions_follows.specs.WholeRegion.{next_p}
use Rattle.cc_lower_expressions_follows.specs.WholeTrees.{AreTyped}

-- the full expression that is worked in a list
abbrev pub worked_in : List Stmt → Phase → Option Expr
worked_in [] phase = None
worked_in (s ∷ rest) phase = worked (out-Stmt s) phase

module _ (p : Program) where
  -- an activation of a function of the program, by its number and the function's id, and that of the lowered program
  abbrev pub setting_of : ℕ → ℕ → Func → Setting
  setting_of number id f = record { q = all_extended (temporaries p) (lowered_body p) p; p = p; to = extended (temporaries p) (lowered_body p) f; from = f; number = number; id = id; base = length f.locals; openings = [] }

  -- registers are hidden, and so is what comes behind the locals
  abbrev pub hides_in : Option Func → ℕ → Bool
  hides_in None local = false
  hides_in (Some f) local = is_own f (length f.locals) local

  abbrev pub hides : ℕ → ℕ → Bool
  hides id local = hides_in (slice_get p.funcs id) local

  -- a mark of the step that the activation waits for, where its registers have their types
  pub record FitsThere (a : LocalState) (m : Mark) : Type 0 where
    pub func : Func
    pub function : slice_get p.funcs a.control.func ≡ Some func
    pub expr : Expr
    pub works : worked_in a.control.here.rest a.control.here.phase ≡ Some expr
    pub action : Action
    pub waits : next_p (setting_of a.control.number a.control.func func) expr a.control.marks ≡ Waits action
    pub fits : MarkFits (setting_of a.control.number a.control.func func) expr a.control.marks action m (regs_in func a.locals)

  -- arguments with which a function may be opened: its registers have their types then, and are there in both programs
  abbrev pub OpensWith : ℕ → ℕ → List Value → Type 0
  OpensWith number id args = (f : Func) → slice_get p.funcs id ≡ Some f → (openings : List ℕ) × (slice_get openings number ≡ Some id) ×
      AreTyped (opened_at (setting_of number id f) openings) (regs_in f (locals_with p args f.locals)) ×
      AreAlike (setting_of number id f) (locals_with p args f.locals) (locals_with (all_extended (temporaries p) (lowered_body p) p) args (f.locals ++ temporaries p f))
