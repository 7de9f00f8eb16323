-- What is known where the first values of a program's static objects stand: its structures, and which objects and functions
-- their names designate (C99 6.2.1, 6.6).
use Rattle.std.specs.Prelude.{◌≡◌, ◌≤◌, ℕ, Some, length, slice_get, Ok}
use Rattle.cc_type.specs.CcDesignators.Designators.{IsPlace, IsFunction}
use Rattle.cc_type.specs.CcObjects.Values.{objects_in}
use Rattle.cc_type.specs.CcTypedTerms.Primary.{named}
use Rattle.cc_program.specs.declared.expr.Place.{Static}
use Rattle.cc_program.specs.declared.func.Func.{Func}
use Rattle.cc_program.specs.declared.object.Object.{Object}
use Rattle.cc_program.specs.declared.program.Program.{Program}
use Rattle.cc_type.specs.CcScopes.State.{State, structures_of}
use Rattle.cc_type.specs.CcSyntax.Values.{object_place}
use Rattle.cc_shown_expressions.specs.OperationNumbers.{Numbers}
use Rattle.cc_shown_expressions.specs.Known.{KnowsStructures}
use Rattle.cc_shown_expressions.specs.Numbers.{type_numbered, sig_numbered}

pub record KnowsStatics (p : Program) (n : Numbers) (s : State) : Type 0 where
  pub structures : KnowsStructures p n.structure s
  -- there are as many
  pub many : length p.structures ≤ length (structures_of s)
  pub objects : (i : ℕ) (o : Object) → slice_get p.objects i ≡ Some o → (at : ℕ) → named p.roles at o.name s ≡ Ok (IsPlace (Static (n.object i)) (object_place (type_numbered n.structure o.ctype)))
  pub types : (i : ℕ) (o : Object) → slice_get p.objects i ≡ Some o → objects_in s (n.object i) ≡ Some (type_numbered n.structure o.ctype)
  pub funcs : (i : ℕ) (g : Func) → slice_get p.funcs i ≡ Some g → (at : ℕ) → named p.roles at g.name s ≡ Ok (IsFunction (n.func i) (sig_numbered n.structure g.sig))
