-- The state of a run.
use Rattle.std.specs.Prelude.{◌≡◌, ℕ, ℤ, Bool, List, [], ◌∷◌, Option, Some, None, map, length, replicate}
use Rattle.cc_program.specs.declared.object.Object.{Object}
use Rattle.cc_program.specs.declared.program.Program.{Program}
use Rattle.cc_program.specs.declared.types.CType.{CType}
use Rattle.cc_program.specs.declared.types.Structure.{Structure}
use Rattle.cc_program.specs.declared.value.Leaf.{Leaf}
use Rattle.cc_program.specs.declared.value.Leaf.TheVariants as leaf
use Rattle.cc_program.specs.declared.value.Value.{Value}
use Rattle.cc_program.specs.declared.value.Value.TheVariants as value
use Rattle.cc_eval.specs.CcSyntax.Types.{Named}
use Rattle.cc_steps.specs.declared.event.End.{End}
use Rattle.cc_steps.specs.declared.event.Event.{Event}
use Rattle.cc_eval.specs.declared.mark.Mark.{Mark}
use Rattle.cc_control.specs.Control.{Level}
use Rattle.cc_cells.specs.Scalars.{zeros}

-- a function that was entered and has not returned. Its number is how many were opened before it; a local has a value for
-- each of its scalars, none for one that was not written; the marks are what the present full expression has done
pub record Active : Type 0 where
  pub number : ℕ
  pub func : ℕ
  pub handler : Bool
  pub locals : List (List (Option Value))
  pub here : Level
  pub around : List Level
  pub marks : List Mark

-- the same call: two activations with one number, of the function with one id, both a handler's or neither
pub record IsSameCall (q p : Active) : Type 0 where
  pub number : q.number ≡ p.number
  pub func : q.func ≡ p.func
  pub handler : q.handler ≡ p.handler

-- what all activations share: the interrupt flag, the values of static objects, scalar by scalar, the inputs left, and the
-- events so far
pub record Memory : Type 0 where
  pub flag : Bool
  pub statics : List (List Value)
  pub inputs : List ℤ
  pub trace : List Event

-- the running activation is the first of the stack; opened is how many were opened so far
pub record State : Type 0 where
  pub memory : Memory
  pub stack : List Active
  pub opened : ℕ
  pub end : End

-- the first value of a scalar
abbrev pub first_value : Leaf → Value
first_value (leaf.Int n) = value.Int n
first_value (leaf.Place a) = value.Place a

abbrev pub values_or : List Leaf → List Value → List Value
values_or [] others = others
values_or (l ∷ ls) others = map first_value (l ∷ ls)

-- how the scalars of an object start (6.7.8, 10)
abbrev pub first_values : Program → Object → List Value
first_values p o = values_or o.init (zeros p.structures o.ctype)

-- the scalars of a local: of one that an argument is written to, and of another, of which nothing is written
abbrev pub local_with : List Structure → Option Value → CType → List (Option Value)
local_with structures None local = replicate (length (zeros structures local)) None
local_with structures (Some v) local = Some v ∷ []

-- the locals of an activation: arguments in the first, and nothing written in the others
abbrev pub locals_with : Program → List Value → List Named → List (List (Option Value))
locals_with p args [] = []
locals_with p [] (local ∷ locals) = local_with p.structures None local.1 ∷ locals_with p [] locals
locals_with p (v ∷ args) (local ∷ locals) = local_with p.structures (Some v) local.1 ∷ locals_with p args locals
