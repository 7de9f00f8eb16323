-- Objects, devices and functions as the unit has them: each keeps its position.
use Rattle.std.specs.Prelude.{ℕ, zero, suc, Bool, List, [], ◌∷◌, map, Option, option_map, if◌then◌else◌}
use Rattle.cc_program.specs.declared.func.Entry.{Entry}
use Rattle.cc_program.specs.declared.func.Func.{Func}
use Rattle.cc_scopes.specs.declared.unit.Declared.{Declared}
use Rattle.cc_scopes.specs.CcUnit.Renumbered.{type_renumbered, sig_renumbered, stmt_renumbered}
use Rattle.cc_scopes.specs.CcUnit.declared.ids.Id.{Id}
use Rattle.cc_scopes.specs.CcUnit.declared.ids.Id.TheVariants as id
use Rattle.cc_scopes.specs.CcUnit.declared.ids.Ids.{Ids}
use Rattle.cc_scopes.specs.CcUnit.declared.unit.UnitKind.{UnitKind}
use Rattle.cc_scopes.specs.CcUnit.declared.unit.UnitKind.TheVariants as kind
use Rattle.cc_scopes.specs.CcUnit.declared.unit.UnitName.{UnitName}
use Rattle.cc_numbering.specs.Structures.{all_named_in}

-- what a name is, by its position
abbrev pub own_id : ℕ → UnitKind → Id
own_id i (kind.Object leaves) = id.Object i
own_id i (kind.Device d) = id.Device i
own_id i (kind.Func entry body) = id.Func i

abbrev pub own_ids : ℕ → List Declared → List Id
own_ids i [] = []
own_ids i (d ∷ ds) = own_id i d.kind ∷ own_ids (suc i) ds

-- tentative definitions count as one, and as none beside another (C99 6.9.2, 2)
abbrev pub count_of : Bool → ℕ → ℕ
count_of tentative zero = if tentative then 1 else 0
count_of tentative (suc n) = suc n

module _ (ids : Ids) where
  abbrev pub function_in : Option Entry → Func → Func
  function_in entry f = record {
    name = f.name;
    sig = sig_renumbered ids.structures f.sig;
    entry = entry;
    params = f.params;
    locals = all_named_in ids.structures f.locals;
    body = map (stmt_renumbered ids) f.body;
  }

  abbrev pub kind_in : UnitKind → UnitKind
  kind_in (kind.Object leaves) = kind.Object leaves
  kind_in (kind.Device d) = kind.Device d
  kind_in (kind.Func entry body) = kind.Func entry (option_map (function_in entry) body)

  abbrev pub name_in : Declared → UnitName
  name_in d = record {
    name = d.name;
    linkage = d.linkage;
    ctype = type_renumbered ids.structures d.ctype;
    first = d.first;
    count = count_of d.tentative d.definitions;
    kind = kind_in d.kind;
  }
