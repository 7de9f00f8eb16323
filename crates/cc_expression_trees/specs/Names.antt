-- The names that the text of a function's body has: each may name something.
use Rattle.std.specs.Prelude.{◌≡◌, ℕ, true, List, Some, slice_get}
use Rattle.cc_program.specs.CcWords.Names.{is_name}
use Rattle.cc_program.specs.declared.func.Func.{Func}
use Rattle.cc_program.specs.declared.object.Device.{Device}
use Rattle.cc_program.specs.declared.object.Object.{Object}
use Rattle.cc_program.specs.declared.program.Program.{Program}
use Rattle.cc_program.specs.declared.types.Structure.{Structure}
use Rattle.cc_typed.specs.CcSyntax.Types.{Named}

pub record HasNames (p : Program) (f : Func) : Type 0 where
  pub locals : (i : ℕ) (l : Named) → slice_get f.locals i ≡ Some l → is_name l.0 ≡ true
  pub objects : (i : ℕ) (o : Object) → slice_get p.objects i ≡ Some o → is_name o.name ≡ true
  pub funcs : (i : ℕ) (g : Func) → slice_get p.funcs i ≡ Some g → is_name g.name ≡ true
  pub devices : (i : ℕ) (d : Device) (x : List ℕ) → slice_get p.devices i ≡ Some d → d.name ≡ Some x → is_name x ≡ true
  pub tags : (i : ℕ) (s : Structure) → slice_get p.structures i ≡ Some s → is_name s.tag ≡ true
  pub members : (i j : ℕ) (s : Structure) (m : Named) → slice_get p.structures i ≡ Some s → slice_get s.members j ≡ Some m → is_name m.0 ≡ true
