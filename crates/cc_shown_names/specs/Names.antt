-- What a translation unit that shows a program knows of each name: where it is declared only, and where it is defined, at an
-- offset of the text (C99 6.2.2, 6.9).
use Rattle.std.specs.Prelude.{ℕ, true, false, List, [], ◌∷◌, map, Some, None, if◌then◌else◌}
use Rattle.cc_program.specs.declared.func.Func.{Func}
use Rattle.cc_program.specs.declared.object.Device.{Device}
use Rattle.cc_program.specs.declared.object.Object.{Object}
use Rattle.cc_program.specs.declared.program.Program.{Program}
use Rattle.cc_program.specs.declared.types.Shape.{Int}
use Rattle.cc_type.specs.CcScopes.declared.unit.Declared.{Declared}
use Rattle.cc_shown_declarations.specs.Entries.{written_entry}
use Rattle.cc_shown_declarations.specs.Numbers.{leaf_numbered}
use Rattle.cc_shown_names.specs.Functions.{type_of_function, func_numbered}
use Rattle.cc_shown_expressions.specs.Numbers.{type_numbered}
use Rattle.cc_shown_names.specs.Numbers.{read_numbers}
use Rattle.cc_type.specs.CcUnit.declared.unit.Linkage.TheVariants as linkage
use Rattle.cc_type.specs.CcUnit.declared.unit.UnitKind.TheVariants as kind
use Rattle.cc_unit_trees.specs.Externals.{is_given}

abbrev pub device_declared : Device → Declared
device_declared d = record {
  name = d.name;
  linkage = linkage.External;
  ctype = record { constant = d.constant; volatile = true; shape = Int d.int };
  first = None;
  tentative = false;
  definitions = 0;
  kind = kind.Device d;
}

-- each beside the offset of its definition
abbrev pub placed : {A : Type 0} → (ℕ → A → Declared) → List ℕ → List A → List Declared
placed declare ats [] = []
placed declare [] (x ∷ xs) = []
placed declare (at ∷ ats) (x ∷ xs) = declare at x ∷ placed declare ats xs

module _ (p : Program) where
  -- by its prototype, and by its definition
  abbrev pub function_declared : Func → Declared
  function_declared f = record {
    name = Some f.name;
    linkage = linkage.External;
    ctype = type_of_function (read_numbers p) f;
    first = None;
    tentative = false;
    definitions = 0;
    kind = kind.Func (written_entry f.entry) None;
  }

  abbrev pub function_defined : ℕ → Func → Declared
  function_defined at f = record {
    name = Some f.name;
    linkage = linkage.External;
    ctype = type_of_function (read_numbers p) f;
    first = Some at;
    tentative = false;
    definitions = 1;
    kind = kind.Func (written_entry f.entry) (Some (func_numbered (read_numbers p) f));
  }

  -- by its tentative definition, and by its first values where the text has some
  abbrev pub object_declared : ℕ → Object → Declared
  object_declared at o = record {
    name = Some o.name;
    linkage = linkage.Internal;
    ctype = type_numbered (read_numbers p).structure o.ctype;
    first = Some at;
    tentative = true;
    definitions = 0;
    kind = kind.Object [];
  }

  abbrev pub object_given : ℕ → Object → Declared
  object_given at o = record {
    name = Some o.name;
    linkage = linkage.Internal;
    ctype = type_numbered (read_numbers p).structure o.ctype;
    first = Some at;
    tentative = true;
    definitions = if is_given o then 1 else 0;
    kind = kind.Object (map (leaf_numbered (read_numbers p)) o.init);
  }
