-- What is known where the body of a function begins, in the scope of its parameters, and behind its automatic objects (C99
-- 6.2.1, 4, 6.2.4, 4).
use Rattle.std.specs.Prelude.{◌≡◌, ℕ, List, [], ◌∷◌, length, take, drop, Some, None, slice_get}
use Rattle.cc_type.specs.CcObjects.Linked.{with_automatic}
use Rattle.cc_program.specs.declared.func.Func.{Func}
use Rattle.cc_program.specs.declared.program.Program.{Program}
use Rattle.cc_type.specs.CcScopes.State.{State, named_here}
use Rattle.cc_shown_expressions.specs.KnownNames.{KnowsNames}
use Rattle.cc_shown_expressions.specs.OperationNumbers.{Numbers}
use Rattle.cc_shown_expressions.specs.Numbers.{type_numbered}
use Rattle.cc_type.specs.CcSyntax.Types.{Named}

-- a function with so many of its locals
abbrev pub first_locals : ℕ → Func → Func
first_locals k f = record { name = f.name; sig = f.sig; entry = f.entry; params = f.params; locals = take k f.locals; body = f.body }

abbrev pub parameters_alone : Func → Func
parameters_alone f = first_locals f.params f

-- the parameters are declared, and no other local has a meaning in their scope
pub record KnowsParameters (p : Program) (f : Func) (n : Numbers) (s : State) : Type 0 where
  pub names : KnowsNames p (parameters_alone f) n s
  pub count : length s.locals ≡ f.params
  pub new : (i : ℕ) (l : Named) → slice_get (drop f.params f.locals) i ≡ Some l → named_here l.0 s ≡ None

-- automatic objects, declared one behind another, with the numbers that the unit gives to structures
abbrev pub with_local_objects : Numbers → List Named → State → State
with_local_objects n [] s = s
with_local_objects n (l ∷ ls) s = with_local_objects n ls (with_automatic l.0 (type_numbered n.structure l.1) s)
