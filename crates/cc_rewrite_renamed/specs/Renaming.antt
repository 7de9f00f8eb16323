-- What runs meet, by other numbers of static objects; and when objects have the types that a program's have, by other numbers.
use Rattle.std.specs.Prelude.{◌≡◌, ℕ, List, map, Option, Some, None, option_map, slice_get}
use Rattle.cc_eval.specs.declared.action.Action.{Action}
use Rattle.cc_eval.specs.declared.action.Action.TheVariants.{Read, Write, Choose, Call, Flag, Save}
use Rattle.cc_eval.specs.declared.mark.Mark.{Mark}
use Rattle.cc_eval.specs.declared.mark.Mark.TheVariants.{Gave, Did, Chose}
use Rattle.cc_eval.specs.Context.{Context}
use Rattle.cc_eval.specs.Progress.{Progress, Known, Waits, Traps}
use Rattle.cc_program.specs.declared.func.Func.{Func}
use Rattle.cc_program.specs.declared.object.Object.{Object}
use Rattle.cc_program.specs.declared.program.Program.{Program}
use Rattle.cc_program.specs.declared.value.Cell.{Cell}
use Rattle.cc_program.specs.declared.value.Cell.TheVariants as cell
use Rattle.cc_program.specs.declared.value.Value.{Value}
use Rattle.cc_program.specs.declared.value.Value.TheVariants as value
use Rattle.cc_rewrite_renamed.specs.Objects.{root_renamed, address_renamed}

module _ (object : ℕ → ℕ) where
  abbrev pub value_renamed : Value → Value
  value_renamed (value.Int n) = value.Int n
  value_renamed (value.Place a) = value.Place (address_renamed object a)

  -- a value that may be bad
  abbrev pub may_renamed : Option Value → Option Value
  may_renamed v = option_map value_renamed v

  abbrev pub cell_renamed : Cell → Cell
  cell_renamed (cell.Device d) = cell.Device d
  cell_renamed (cell.At o path) = cell.At (root_renamed object o) path

  abbrev pub action_renamed : Action → Action
  action_renamed (Read at manner) = Read (cell_renamed at) manner
  action_renamed (Write at is_event v) = Write (cell_renamed at) is_event (value_renamed v)
  action_renamed (Choose b) = Choose b
  action_renamed (Call callee args) = Call (address_renamed object callee) (map value_renamed args)
  action_renamed (Flag on) = Flag on
  action_renamed Save = Save

  abbrev pub mark_renamed : Mark → Mark
  mark_renamed (Gave v) = Gave (may_renamed v)
  mark_renamed Did = Did
  mark_renamed (Chose b) = Chose b

  abbrev pub marks_renamed : List Mark → List Mark
  marks_renamed ms = map mark_renamed ms

  -- how far an expression has come; what it gives is renamed by f
  abbrev pub progress_renamed : {A B : Type 0} → (A → B) → Progress A → Progress B
  progress_renamed f (Known a ms) = Known (f a) (marks_renamed ms)
  progress_renamed f (Waits action) = Waits (action_renamed action)
  progress_renamed f (Traps ms) = Traps (marks_renamed ms)

  -- there are objects of the types of a program's, and maybe more: each is at its number, and no two numbers are one
  pub record AreRenamed (objects : List Object) (p : Program) : Type 0 where
    pub types : (i : ℕ) → option_map (λ (o : Object). o.ctype) (slice_get objects (object i)) ≡ option_map (λ (o : Object). o.ctype) (slice_get p.objects i)
    pub apart : (i j : ℕ) → object i ≡ object j → i ≡ j

-- the same function, but for its name and its body
pub record IsAlike (g f : Func) : Type 0 where
  pub sig : g.sig ≡ f.sig
  pub entry : g.entry ≡ f.entry
  pub locals : g.locals ≡ f.locals

abbrev pub AreAlike : Option Func → Option Func → Type 0
AreAlike None None = Unit {0}
AreAlike (Some g) (Some f) = IsAlike g f
AreAlike None (Some f) = ⊥
AreAlike (Some g) None = ⊥

-- an activation of a function of a program, by its number and the function's
abbrev pub in_program : Program → ℕ → ℕ → Func → Context
in_program p number id f = record { program = p; number = number; id = id; func = f }
