-- What is known where an expression of a function of a program stands: the structures, what each name designates, and that
-- types of locals, objects and members may stand in the program.
use Rattle.std.specs.Prelude.{◌≡◌, ℕ, List, Some, true, false, slice_get, Ok}
use Rattle.std.specs.Option.{is_some}
use Rattle.cc_terms.specs.CcDesignators.Designators.{IsPlace, IsFunction}
use Rattle.cc_terms.specs.CcTypedTerms.Primary.{named}
use Rattle.cc_program.specs.declared.expr.Place.{Local, Static}
use Rattle.cc_program.specs.declared.expr.Place.{Device as DeviceAt}
use Rattle.cc_program.specs.declared.func.Func.{Func}
use Rattle.cc_program.specs.declared.object.Device.{Device}
use Rattle.cc_program.specs.declared.object.Object.{Object}
use Rattle.cc_program.specs.declared.program.Program.{Program}
use Rattle.cc_program.specs.declared.types.Structure.{Structure}
use Rattle.cc_terms.specs.CcScopes.State.{State}
use Rattle.cc_terms.specs.CcSyntax.Kinds.{is_object_type}
use Rattle.cc_terms.specs.CcSyntax.Programs.{kind_in}
use Rattle.cc_terms.specs.CcSyntax.Names.{are_names, local_names}
use Rattle.cc_terms.specs.CcSyntax.Types.{Named}
use Rattle.cc_terms.specs.CcSyntax.Values.{DevicePlace, object_place, is_void}
use Rattle.cc_shown_expressions.specs.OperationNumbers.{Numbers}
use Rattle.cc_shown_expressions.specs.Known.{KnowsStructures}
use Rattle.cc_shown_expressions.specs.Numbers.{type_numbered, sig_numbered}

module _ (p : Program) (f : Func) where
  -- each type of a local and an object is one that objects may have, that of a member may stand, and members have names of
  -- their own
  pub record TypesStand : Type 0 where
    pub locals : (i : ℕ) (l : Named) → slice_get f.locals i ≡ Some l → is_object_type (kind_in p l.1) ≡ true
    pub objects : (i : ℕ) (o : Object) → slice_get p.objects i ≡ Some o → is_object_type (kind_in p o.ctype) ≡ true
    pub members : (i j : ℕ) (s : Structure) (m : Named) → slice_get p.structures i ≡ Some s → slice_get s.members j ≡ Some m → (is_void m.1 ≡ false) × (is_some (kind_in p m.1) ≡ true)
    pub names : (i : ℕ) (s : Structure) → slice_get p.structures i ≡ Some s → are_names (local_names s.members) ≡ true

  pub record KnowsNames (n : Numbers) (s : State) : Type 0 where
    pub structures : KnowsStructures p n.structure s
    pub locals : (i : ℕ) (l : Named) → slice_get f.locals i ≡ Some l → (at : ℕ) → named p.roles at l.0 s ≡ Ok (IsPlace (Local i) (object_place (type_numbered n.structure l.1)))
    pub objects : (i : ℕ) (o : Object) → slice_get p.objects i ≡ Some o → (at : ℕ) → named p.roles at o.name s ≡ Ok (IsPlace (Static (n.object i)) (object_place (type_numbered n.structure o.ctype)))
    pub devices : (i : ℕ) (d : Device) (x : List ℕ) → slice_get p.devices i ≡ Some d → d.name ≡ Some x → (at : ℕ) → named p.roles at x s ≡ Ok (IsPlace (DeviceAt (n.device i)) (DevicePlace d.constant d.int))
    pub funcs : (i : ℕ) (g : Func) → slice_get p.funcs i ≡ Some g → (at : ℕ) → named p.roles at g.name s ≡ Ok (IsFunction (n.func i) (sig_numbered n.structure g.sig))
