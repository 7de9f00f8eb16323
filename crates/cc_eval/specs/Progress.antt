-- What asks for steps, and is answered by the marks of those that were done.
use Rattle.std.specs.Prelude.{pos, List, [], ◌∷◌, Option, Some, None, Bool}
use Rattle.cc_program.specs.declared.value.Value.{Value}
use Rattle.cc_program.specs.declared.value.Value.TheVariants.{Int}
use Rattle.cc_eval.specs.declared.mark.Mark.{Mark}
use Rattle.cc_eval.specs.declared.mark.Mark.TheVariants.{Gave, Did, Chose}
use Rattle.cc_eval.specs.declared.action.Action.{Action}

-- an answer, and the marks that it left; or the step that it waits for; or the next step traps, and these marks are left
pub data Progress (A : Type 0) : Type 0 where
  Known : A → List Mark → Progress A
  Waits : Action → Progress A
  Traps : List Mark → Progress A

abbrev pub Get : Type 0 → Type 0
Get A = List Mark → Progress A

-- an answer that takes no step
abbrev pub known : {A : Type 0} → A → Get A
known a ms = Known a ms

abbrev pub trap : {A : Type 0} → Get A
trap ms = Traps ms

-- one step, whose mark is turned into an answer
abbrev pub ask : {A : Type 0} → Action → (Mark → A) → Get A
ask action f [] = Waits action
ask action f (m ∷ ms) = Known (f m) ms

abbrev pub and_then : {A B : Type 0} → Progress A → (A → Get B) → Progress B
and_then (Known a ms) f = f a ms
and_then (Waits action) f = Waits action
and_then (Traps ms) f = Traps ms

abbrev pub bind : {A B : Type 0} → Get A → (A → Get B) → Get B
bind g f ms = and_then (g ms) f

-- a bad value traps here
abbrev pub needs : {A B : Type 0} → Option A → (A → Get B) → Get B
needs None f = trap
needs (Some a) f = f a

-- stands for the value of what is void, which nobody uses
abbrev pub no_value : Value
no_value = Int (pos 0)

-- what the mark of a read, a call or an intrinsic gives
abbrev pub given : Mark → Option Value
given (Gave v) = v
given Did = Some no_value
given (Chose b) = None

abbrev pub chosen : Mark → Option Bool
chosen (Gave v) = None
chosen Did = None
chosen (Chose b) = b

-- what reads, calls and intrinsics have given, none for a bad value
abbrev pub operands_of : List Mark → List (Option Value)
operands_of [] = []
operands_of (Gave v ∷ ms) = v ∷ operands_of ms
operands_of (Did ∷ ms) = operands_of ms
operands_of (Chose b ∷ ms) = operands_of ms
