-- What names and counts linked sources and their program have: names that may stand together (C99 6.2.3), a `main` of its own (5.1.2.2.1), and fewer things than there are ids.
use Rattle.std.specs.Prelude.{◌≡◌, ℕ, true, false, List, ◌++◌, length, nat_lt, Some}
use Rattle.std.specs.List.{All}
use Rattle.cc_definitions.specs.Definitions.{thing_at}
use Rattle.cc_definitions.specs.Handlers.{is_named_main}
use Rattle.cc_linked_names.specs.Given.{name_at, reserved_names}
use Rattle.cc_names.specs.Names.{is_among}
use Rattle.cc_program.specs.declared.func.Func.{Func}
use Rattle.cc_program.specs.declared.program.Program.{Program}
use Rattle.cc_program.specs.declared.program.Roles.{Roles}
use Rattle.cc_relocated_units.specs.Units.{is_main_name}
use Rattle.cc_structures.proofs.Elements.{In}
use Rattle.cc_structures.specs.Structures.{Known}
use Rattle.cc_operands.specs.CcSyntax.Names.{are_names, file_names, intrinsic_names, local_names, tags}
use Rattle.cc_operands.specs.CcSyntax.Sound.{have_ids, main_name}
use Rattle.cc_things.specs.Things.{is_there, things}
use Rattle.cc_things.specs.declared.text.Text.{Text}
use Rattle.cc_unit.specs.declared.unit.TypedUnit.{TypedUnit}
use Rattle.cc_unit.specs.declared.unit.UnitName.{UnitName}

pub record AreNamed (p : Program) : Type 0 where
  pub tag_names : are_names (tags p) ≡ true
  pub names : are_names (file_names p) ≡ true
  pub locals : (f : Func) → In f p.funcs → are_names (local_names f.locals ++ file_names p) ≡ true

pub record AreFew (p : Program) : Type 0 where
  pub structures : have_ids (length p.structures) ≡ true
  pub devices : have_ids (length p.devices) ≡ true
  pub objects : have_ids (length p.objects) ≡ true
  pub funcs : have_ids (length p.funcs) ≡ true
  pub locals : (f : Func) → In f p.funcs → have_ids (length f.locals) ≡ true

-- a unit that defines `main` has no intrinsic of that name
abbrev pub HasOwnMain : Roles → TypedUnit → Type 0
HasOwnMain roles u = All (λ (n : UnitName). is_main_name n.name ≡ true → nat_lt 0 n.count ≡ true → is_among main_name (intrinsic_names roles) ≡ false) u.names

-- the function that runs first has the name `main` in the program
abbrev pub IsMainNamed : List Text → Roles → List Known → Type 0
IsMainNamed texts roles firsts =
    (k : ℕ) → is_there (thing_at (things texts) k) ≡ true → is_named_main (thing_at (things texts) k) ≡ true → name_at (things texts) (reserved_names texts roles) roles firsts k ≡ Some main_name
