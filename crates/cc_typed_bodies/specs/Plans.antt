-- The steps of an initialiser, done from left to right up to the first fault (C99 6.7.8).
use Rattle.std.specs.Prelude.{Bool, List, [], ◌++◌, Option, Some, None, option_to_list, Ok, Err}
use Rattle.cc_initialisers.specs.Initialisers.{Step, Give, Character, Zero, Visit, Break}
use Rattle.cc_program.specs.CcNum.declared.int_type.IntType.TheVariants as int
use Rattle.cc_program.specs.CcNum.declared.target.Target.{Target}
use Rattle.cc_terms.specs.CcOperands.Operands.{Operand, integer, character_value}
use Rattle.cc_terms.specs.CcOperands.Verdicts.{Judged}
use Rattle.cc_typed_terms.specs.Values.{value}
use Rattle.cc_program.specs.declared.program.Roles.{Roles}
use Rattle.cc_scopes.specs.State.{State}
use Rattle.cc_scopes.specs.Verdicts.{Found, whole, and_then}
use Rattle.cc_terms.specs.CcSyntax.Values.{ValueType}
use Rattle.cc_terms.specs.InTurn.{in_turn}
use Rattle.cc_terms.specs.Terms.{here}

-- something that a scalar is given
abbrev pub as_given : {X : Type 0} → Found X → Found (Option X)
as_given found = and_then found (λ x s. Ok (Some x, s))

-- `X` is what a scalar is given; the two functions say what an expression of such a value gives to one, and what one is
-- given for which there is none
module _ (target : Target) (roles : Roles) (X : Type 0) (given : Bool → ValueType → Operand → State → Judged X) (zero_of : Bool → ValueType → Judged X) where
  abbrev pub step_found : Step → State → Found (Option X)
  step_found (Give constant t e) s = value (here target roles e) s (λ x s. as_given (whole e.at s (given constant t x s)))
  step_found (Character at constant t byte) s = as_given (whole at s (given constant t (integer (character_value target byte) int.Int) s))
  step_found (Zero at constant t) s = as_given (whole at s (zero_of constant t))
  step_found (Visit e) s = value (here target roles e) s (λ x s. Ok (None, s))
  step_found (Break at broken) s = whole at s (Err broken)

  -- behind what was given before
  abbrev pub step_done : Step → List X → State → Found (List X)
  step_done step before s = and_then (step_found step s) (λ x s. Ok (before ++ option_to_list x, s))

  abbrev pub steps_done : List Step → State → Found (List X)
  steps_done steps s = in_turn step_done steps [] s
