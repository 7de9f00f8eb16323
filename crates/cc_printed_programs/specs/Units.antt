-- The typed unit that a program's text is: what the program has, with the numbers of the unit. Each function and each object is
-- defined once, at an offset; whether the roles name a function as a handler the unit does not say (C99 6.2.2, 6.9).
use Rattle.std.specs.Prelude.{ℕ, suc, true, List, [], ◌∷◌, ◌++◌, map, filter, Option, Some, None}
use Rattle.cc_type.specs.CcOperands.Qualified.{plain}
use Rattle.cc_program.specs.declared.func.Func.{Func}
use Rattle.cc_program.specs.declared.object.Device.{Device}
use Rattle.cc_program.specs.declared.object.Object.{Object}
use Rattle.cc_program.specs.declared.program.Program.{Program}
use Rattle.cc_program.specs.declared.types.Shape.{Int, Func as FuncShape}
use Rattle.cc_program.specs.declared.types.Structure.{Structure}
use Rattle.cc_shown_declarations.specs.Entries.{written_entry}
use Rattle.cc_shown_declarations.specs.Numbers.{leaf_numbered}
use Rattle.cc_shown_effects.specs.Numbers.{stmt_numbered}
use Rattle.cc_printed_programs.specs.Numbers.{unit_numbers}
use Rattle.cc_type.specs.CcSyntax.Normal.{has_name}
use Rattle.cc_type.specs.CcSyntax.Sound.{is_numbered}
use Rattle.cc_type.specs.CcSyntax.Types.{Named}
use Rattle.cc_type.specs.CcUnit.declared.unit.Linkage.{Linkage}
use Rattle.cc_type.specs.CcUnit.declared.unit.Linkage.TheVariants as linkage
use Rattle.cc_type.specs.CcUnit.declared.unit.TypedUnit.{TypedUnit}
use Rattle.cc_type.specs.CcUnit.declared.unit.UnitKind.TheVariants as kind
use Rattle.cc_type.specs.CcUnit.declared.unit.UnitName.{UnitName}
use Rattle.cc_type.specs.CcUnit.declared.unit.UnitStructure.{UnitStructure}

-- one without members is only named
abbrev pub members_shown : List Named → Option (List Named)
members_shown [] = None
members_shown (m ∷ ms) = Some (m ∷ ms)

abbrev pub structure_shown : Structure → UnitStructure
structure_shown s = record { tag = Some s.tag; alias = None; members = members_shown s.members }

-- one with a name is declared by `extern`
abbrev pub device_linkage : Option (List ℕ) → Linkage
device_linkage None = linkage.Internal
device_linkage (Some x) = linkage.External

abbrev pub device_shown : Device → UnitName
device_shown d = record {
  name = d.name;
  linkage = device_linkage d.name;
  ctype = record { constant = d.constant; volatile = true; shape = Int d.int };
  first = None;
  count = 0;
  kind = kind.Device d;
}

-- each element with its position, from one on
abbrev pub positioned_from : {A B : Type 0} → (ℕ → A → B) → ℕ → List A → List B
positioned_from f i [] = []
positioned_from f i (x ∷ xs) = f i x ∷ positioned_from f (suc i) xs

module _ (p : Program) where
  abbrev pub body_shown : Func → Func
  body_shown f = record { name = f.name; sig = f.sig; entry = written_entry f.entry; params = f.params; locals = f.locals; body = map (stmt_numbered (unit_numbers p)) f.body }

  -- defined at an offset
  abbrev pub function_shown : ℕ → Func → UnitName
  function_shown at f = record {
    name = Some f.name;
    linkage = linkage.External;
    ctype = plain (FuncShape f.sig);
    first = Some at;
    count = 1;
    kind = kind.Func (written_entry f.entry) (Some (body_shown f));
  }

  abbrev pub object_shown : ℕ → Object → UnitName
  object_shown at o = record {
    name = Some o.name;
    linkage = linkage.Internal;
    ctype = o.ctype;
    first = Some at;
    count = 1;
    kind = kind.Object (map (leaf_numbered (unit_numbers p)) o.init);
  }

  -- by the offsets of the functions and of the objects, each by its position
  module _ (function_at object_at : ℕ → ℕ) where
    abbrev pub functions_shown : List UnitName
    functions_shown = positioned_from (λ i f. function_shown (function_at i) f) 0 p.funcs

    abbrev pub objects_shown : List UnitName
    objects_shown = positioned_from (λ i o. object_shown (object_at i) o) 0 p.objects

    abbrev pub names_shown : List UnitName
    names_shown = map device_shown (filter has_name p.devices) ++ (functions_shown ++ (objects_shown ++ map device_shown (filter is_numbered p.devices)))

    abbrev pub unit_shown : TypedUnit
    unit_shown = record { structures = map structure_shown p.structures; names = names_shown }
