-- In front of a unit nothing has a place in memory of its own.
use Rattle.std.proofs.Common.{◌≡◌, ℕ, List, [], Option, Some, None}
use Rattle.std.specs.Prelude.{slice_get}
use Rattle.cc_program.specs.CcNum.declared.target.Target.{Target}
use Rattle.cc_program.specs.declared.func.Func.{Func}
use Rattle.cc_program.specs.declared.program.Roles.{Roles}
use Rattle.cc_program.specs.declared.types.CType.{CType}
use Rattle.cc_type.specs.CcScopes.State.{Name, at_first}
use Rattle.cc_type.specs.CcScopes.declared.unit.Declared.{Declared}
use Rattle.cc_read_sound.specs.Entries.{AreWell}

nothing_there : (i : ℕ) (d : Declared) → slice_get at_first.names i ≡ Some d → ⊥
nothing_there i d h = let c : None ≡ Some d = h in absurd (cc)

pub first_well : (target : Target) (roles : Roles) (defined : List Name) (P : CType → Func → Type 0) → AreWell target roles defined P [] at_first
first_well target roles defined P = record {
  well = λ i d h. absurd (nothing_there i d h);
  unique = λ i d x h l n. absurd (nothing_there i d h);
  complete = tt;
}
