-- Over the view that a unit is, types have the kinds that they have by its structures.
use Rattle.std.proofs.Common.{◌≡◌, ℕ, length, ap}
use Rattle.std.proofs.lemmas.List.{length-map}
use Rattle.cc_relocated_units.specs.Linked.{structures_of, untagged}
use Rattle.cc_program.specs.CcNum.declared.target.Target.{Target}
use Rattle.cc_program.specs.declared.types.CType.{CType}
use Rattle.cc_operands.specs.CcSyntax.Kinds.{kind_of, extent_with}
use Rattle.cc_operands.specs.CcSyntax.Views.{kind_in}
use Rattle.cc_unit.specs.declared.unit.TypedUnit.{TypedUnit}
use Rattle.cc_relocated_units.specs.Units.{unit_view}

pub unit_kind : (target : Target) (u : TypedUnit) (t : CType) → kind_in (unit_view target u) t ≡ kind_of target (extent_with (structures_of u) (length u.structures) target) t
unit_kind target u t = ap (λ (n : ℕ). kind_of target (extent_with (structures_of u) n target) t) (length-map u.structures untagged)
