-- What asks for steps as a tree, over the registers of one activation: quiet steps, which nothing but the activation sees,
-- and two trees of which the first does what the second does.
use Rattle.std.specs.Prelude.{◌≡◌, ℕ, ◌==◌, Bool, true, false, ◌||◌, nat_le, List, [], ◌∷◌, Option, Some, None, if◌then◌else◌}
use Rattle.cc_program.specs.declared.func.Func.{Func}
use Rattle.cc_program.specs.declared.program.Program.{Program}
use Rattle.cc_program.specs.declared.value.Cell.{Cell}
use Rattle.cc_program.specs.declared.value.Cell.TheVariants as cell
use Rattle.cc_program.specs.declared.value.Root.{Root}
use Rattle.cc_program.specs.declared.value.Root.TheVariants as root
use Rattle.cc_program.specs.declared.value.Value.{Value}
use Rattle.cc_states.specs.CcSyntax.Registers.{is_register}
use Rattle.cc_states.specs.CcEval.declared.action.Action.{Action}
use Rattle.cc_states.specs.CcEval.declared.action.Action.TheVariants.{Read, Write, Choose, Call, Flag, Save}
use Rattle.cc_states.specs.CcEval.declared.action.Manner.{Manner}
use Rattle.cc_states.specs.CcEval.declared.mark.Mark.{Mark}
use Rattle.cc_states.specs.CcEval.declared.mark.Mark.TheVariants.{Gave, Did, Chose}
use Rattle.cc_states.specs.CcEval.Context.{Context}
use Rattle.cc_states.specs.CcEval.Progress.{Waits, Traps, Get, known}
use Rattle.cc_states.specs.Answers.{IsMarkOf}

-- the values of the registers of an activation, none for one that was not written
abbrev pub Regs : Type 0
Regs = ℕ → Option Value

abbrev pub with_reg : Regs → ℕ → Value → Regs
with_reg s i v j = if i == j then Some v else s j

-- what is asked behind a mark
abbrev pub after : {A : Type 0} → Get A → Mark → Get A
after g m ms = g (m ∷ ms)

-- an activation of a function of q, and the activation of the function of p that it stands for; so many locals has that one
pub record Setting : Type 0 where
  pub q : Program
  pub p : Program
  pub to : Func
  pub from : Func
  pub number : ℕ
  pub id : ℕ
  pub base : ℕ
  pub openings : List ℕ

abbrev pub context_p : Setting → Context
context_p w = record { program = w.p; number = w.number; id = w.id; func = w.from }

abbrev pub context_q : Setting → Context
context_q w = record { program = w.q; number = w.number; id = w.id; func = w.to }

abbrev pub CanGive : Bool → Option Value → Type 0
CanGive true v = Unit {0}
CanGive false None = ⊥
CanGive false (Some v) = Unit {0}

-- whether a local is a register of the function, or comes behind its locals
abbrev pub is_own : Func → ℕ → ℕ → Bool
is_own f base local = is_register f local || nat_le base local

-- quiet steps lead to an answer
pub data RunsBy {A : Type 0} (Step : Action → Regs → Mark → Regs → Type 0) (a : A) (s' : Regs) : Get A → Regs → Type 0 where
  Is : {g : Get A} → g ≡ known a → RunsBy Step a s' g s'
  Steps : {g : Get A} {s : Regs} (t : Regs) (action : Action) (m : Mark) → g [] ≡ Waits action → Step action s m t → RunsBy Step a s' (after g m) t → RunsBy Step a s' g s

module _ (w : Setting) where
  abbrev pub register_cell : ℕ → Cell
  register_cell i = cell.At (root.Auto w.number w.id i) []

  -- a step that nothing but the activation sees, its mark, and the registers behind it
  pub data IsQuiet (f : Func) (action : Action) (s : Regs) (m : Mark) (t : Regs) : Type 0 where
    Reads : (i : ℕ) (manner : Manner) → action ≡ Read (register_cell i) manner → is_register f i ≡ true → manner.is_event ≡ false →
        CanGive manner.may_be_bad (s i) → m ≡ Gave (s i) → t ≡ s → IsQuiet f action s m t
    Writes : (i : ℕ) (v : Value) → action ≡ Write (register_cell i) false v → is_register f i ≡ true → m ≡ Did → t ≡ with_reg s i v → IsQuiet f action s m t
    Chooses : (b : Option Bool) → action ≡ Choose b → m ≡ Chose b → t ≡ s → IsQuiet f action s m t

  -- a read that traps
  pub record Fails (f : Func) (action : Action) (s : Regs) : Type 0 where
    pub register : ℕ
    pub manner : Manner
    pub reads : action ≡ Read (register_cell register) manner
    pub is_one : is_register f register ≡ true
    pub traps : manner.may_be_bad ≡ false
    pub unwritten : s register ≡ None

  -- the next step traps
  pub data Ends (f : Func) {A : Type 0} (g : Get A) (s : Regs) : Type 0 where
    Stuck : (ms : List Mark) → g [] ≡ Traps ms → Ends f g s
    Refused : (action : Action) → g [] ≡ Waits action → Fails f action s → Ends f g s

  abbrev pub Own : Action → Regs → Mark → Regs → Type 0
  Own action r m r' = IsQuiet w.from action r m r'

  abbrev pub Other : Action → Regs → Mark → Regs → Type 0
  Other action s m s' = IsQuiet w.to action s m s'

  -- no register of the activation
  abbrev pub IsSharedRoot : Root → Type 0
  IsSharedRoot (root.Static i) = Unit {0}
  IsSharedRoot (root.Auto number func local) = number ≡ w.number → is_own w.from w.base local ≡ false

  abbrev pub IsSharedCell : Cell → Type 0
  IsSharedCell (cell.Device d) = Unit {0}
  IsSharedCell (cell.At object path) = IsSharedRoot object

  -- a step that is no branch, and reads and writes no register of the activation
  abbrev pub IsShared : Action → Type 0
  IsShared (Read at manner) = IsSharedCell at
  IsShared (Write at is_event v) = IsSharedCell at
  IsShared (Choose b) = ⊥
  IsShared (Call callee args) = Unit {0}
  IsShared (Flag on) = Unit {0}
  IsShared Save = Unit {0}

  -- the tree h of q does what the tree g of p does, from registers on, and at their ends Q holds; the marks of p answer what was asked
  pub data Sim {A B : Type 0} (Q : A → B → Regs → Regs → Type 0) : Get A → Regs → Get B → Regs → Type 0 where
    Done : {g : Get A} {r : Regs} {h : Get B} {s : Regs} (a : A) (b : B) → g ≡ known a → h ≡ known b → Q a b r s → Sim Q g r h s
    Left : {g : Get A} {r : Regs} {h : Get B} {s : Regs} (r' : Regs) (action : Action) (m : Mark) → g [] ≡ Waits action → Own action r m r' → (IsMarkOf w.p w.openings action m → Sim Q (after g m) r' h s) → Sim Q g r h s
    Right : {g : Get A} {r : Regs} {h : Get B} {s : Regs} (s' : Regs) (action : Action) (m : Mark) → h [] ≡ Waits action → Other action s m s' → Sim Q g r (after h m) s' → Sim Q g r h s
    Both : {g : Get A} {r : Regs} {h : Get B} {s : Regs} (action : Action) → IsShared action → g [] ≡ Waits action → h [] ≡ Waits action →
        ((m : Mark) → IsMarkOf w.p w.openings action m → Sim Q (after g m) r (after h m) s) → Sim Q g r h s
    Fail : {g : Get A} {r : Regs} {h : Get B} {s : Regs} → Ends w.from g r → Ends w.to h s → Sim Q g r h s

  -- p alone, and q alone, comes quietly to an answer
  abbrev pub RunsLeft : {A : Type 0} → A → Regs → Get A → Regs → Type 0
  RunsLeft a r' g r = RunsBy Own a r' g r

  abbrev pub Runs : {A : Type 0} → A → Regs → Get A → Regs → Type 0
  Runs a s' g s = RunsBy Other a s' g s
