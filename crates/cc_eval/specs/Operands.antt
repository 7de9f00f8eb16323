-- What an expression of each kind makes of its operands (C99 6.5).
use Rattle.std.specs.Prelude.{Option}
use Rattle.cc_program.specs.CcNum.declared.target.Target.{Target}
use Rattle.cc_program.specs.declared.value.Value.{Value}
use Rattle.cc_eval.specs.declared.action.Action.TheVariants.{Flag}
use Rattle.cc_eval.specs.declared.operators.AtPlace.{AtPlace}
use Rattle.cc_eval.specs.declared.operators.AtPlace.TheVariants as place
use Rattle.cc_eval.specs.declared.operators.OneOperand.{OneOperand}
use Rattle.cc_eval.specs.declared.operators.OneOperand.TheVariants as one
use Rattle.cc_eval.specs.declared.operators.ToPlace.{ToPlace}
use Rattle.cc_eval.specs.declared.operators.ToPlace.TheVariants as change
use Rattle.cc_eval.specs.declared.operators.TwoOperands.{TwoOperands}
use Rattle.cc_eval.specs.declared.operators.TwoOperands.TheVariants as two
use Rattle.cc_eval.specs.declared.spots.Spot.{Spot}
use Rattle.cc_eval.specs.Context.{Context}
use Rattle.cc_eval.specs.Eval.{Designation, element_at, address_of, fetched, stored, changed_with, stepped_with}
use Rattle.cc_eval.specs.Progress.{Get, known, ask, needs, given}
use Rattle.cc_syntax.specs.Effects.{Registers}
use Rattle.cc_values.specs.Values.{unary, binary, conversion, truth, movement, gap, comparison}

abbrev pub one_gives : OneOperand → Target → Option Value → Get (Option Value)
one_gives (one.Operator o t) target = λ v. known (unary o t target v)
one_gives (one.Conversion t) target = λ v. known (conversion t target v)
one_gives one.Restore target = λ v. needs (truth v) (λ b. ask (Flag b) given)

abbrev pub two_give : TwoOperands → Target → Option Value × Option Value → Get (Option Value)
two_give (two.Operator o t) target = λ p. known (binary o t target p.0 p.1)
two_give (two.Movement back) target = λ p. known (movement back p.0 p.1)
two_give two.Difference target = λ p. known (gap target p.0 p.1)
two_give (two.Comparison o) target = λ p. known (comparison o p.0 p.1)

abbrev pub place_gives : Context → AtPlace → Designation → Registers → Option Spot → Get (Option Value)
place_gives c place.Load a later = fetched c a later
place_gives c place.Address a later = λ s. known (address_of s)
place_gives c (place.Step down) a later = stepped_with c a down later

abbrev pub change_gives : Context → ToPlace → Designation → Registers → Option Spot × Option Value → Get (Option Value)
change_gives c change.Assign a later = λ p. stored c a p.0 p.1 p.1
change_gives c (change.Change o t) a later = changed_with c a o t later

-- an element, by its subscript
abbrev pub element_gives : Context → Designation → Option Spot × Option Value → Get (Option Spot)
element_gives c a p = known (element_at c a.ctype p.0 p.1)
