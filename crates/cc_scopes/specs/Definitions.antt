-- What definitions and attributes add to what is known of a name (C99 6.9.1, 6.9.2).
use Rattle.std.specs.Prelude.{ℕ, suc, true, List, Option, Some, None}
use Rattle.cc_program.specs.declared.func.Entry.{Entry}
use Rattle.cc_program.specs.declared.types.CType.{CType}
use Rattle.cc_program.specs.declared.value.Leaf.{Leaf}
use Rattle.cc_scopes.specs.declared.unit.Declared.{Declared}
use Rattle.cc_unit.specs.Entries.{both_entries}
use Rattle.cc_unit.specs.declared.unit.UnitKind.{UnitKind}
use Rattle.cc_unit.specs.declared.unit.UnitKind.TheVariants as kind

abbrev pub first_or : Option ℕ → ℕ → Option ℕ
first_or None at = Some at
first_or (Some first) at = Some first

abbrev pub tentative_at : ℕ → Declared → Declared
tentative_at at d = record { name = d.name; linkage = d.linkage; ctype = d.ctype; first = first_or d.first at; tentative = true; definitions = d.definitions; kind = d.kind }

abbrev pub defined_at : ℕ → CType → UnitKind → Declared → Declared
defined_at at t k d = record { name = d.name; linkage = d.linkage; ctype = t; first = first_or d.first at; tentative = d.tentative; definitions = suc d.definitions; kind = k }

abbrev pub entry_added : Option Entry → UnitKind → UnitKind
entry_added entry (kind.Func before body) = kind.Func (both_entries before entry) body
entry_added entry k = k

abbrev pub with_entry : Option Entry → Declared → Declared
with_entry entry d = record { name = d.name; linkage = d.linkage; ctype = d.ctype; first = d.first; tentative = d.tentative; definitions = d.definitions; kind = entry_added entry d.kind }

abbrev pub entry_in : UnitKind → Option Entry
entry_in (kind.Func entry body) = entry
entry_in _ = None

-- the first values of an object
abbrev pub with_values : List Leaf → Declared → Declared
with_values leaves d = record { name = d.name; linkage = d.linkage; ctype = d.ctype; first = d.first; tentative = d.tentative; definitions = d.definitions; kind = kind.Object leaves }
