-- What is so of all entries that there are in front of an item of a unit, and names that are among those of the objects that the unit defines (C99 6.9.2).
use Rattle.std.specs.Prelude.{◌≡◌, ℕ, true, List, Some, slice_get}
use Rattle.std.specs.List.{list_any}
use Rattle.std.specs.Str.{bytes_eq}
use Rattle.cc_program.specs.CcNum.declared.target.Target.{Target}
use Rattle.cc_program.proofs.Each.{Each}
use Rattle.cc_type.specs.CcScopes.State.{Name}
use Rattle.cc_type.specs.CcScopes.declared.unit.Declared.{Declared}
use Rattle.cc_sound_declarations.specs.Entries.{IsEntry}

abbrev pub AreEntries : Target → List Name → List Declared → Type 0
AreEntries target defined names = (i : ℕ) (d : Declared) → slice_get names i ≡ Some d → IsEntry target defined d

abbrev pub AreAmong : List Name → List Name → Type 0
AreAmong xs defined = Each (λ x. list_any (bytes_eq x) defined ≡ true) xs
