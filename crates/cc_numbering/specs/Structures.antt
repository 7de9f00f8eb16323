-- Structures as the unit has them.
use Rattle.std.specs.Prelude.{ℕ, List, map, option_map, option_to_list, slice_get}
use Rattle.std.specs.List.{flat_map}
use Rattle.cc_scopes.specs.CcSyntax.Types.{Named}
use Rattle.cc_scopes.specs.State.{KnownStructure}
use Rattle.cc_scopes.specs.CcUnit.Renumbered.{type_renumbered}
use Rattle.cc_scopes.specs.CcUnit.declared.unit.UnitStructure.{UnitStructure}

module _ (numbers : List ℕ) where
  abbrev pub named_in : Named → Named
  named_in m = (m.0, type_renumbered numbers m.1)

  abbrev pub all_named_in : List Named → List Named
  all_named_in ms = map named_in ms

  abbrev pub structure_in : KnownStructure → UnitStructure
  structure_in k = record { tag = k.tag; alias = k.alias; members = option_map all_named_in k.members }

  abbrev pub structure_at : List KnownStructure → ℕ → List UnitStructure
  structure_at structures i = option_to_list (option_map structure_in (slice_get structures i))

  abbrev pub structures_in : List KnownStructure → List ℕ → List UnitStructure
  structures_in structures order = flat_map (structure_at structures) order
