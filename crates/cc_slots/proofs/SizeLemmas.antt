-- The sizes of scalar types.
use Rattle.std.proofs.Common.{◌≡◌, List, ap}
use Rattle.cc_program.specs.CcNum.declared.int_type.IntType.{IntType}
use Rattle.cc_program.specs.CcNum.declared.target.Target.{Target}
use Rattle.cc_program.specs.CcNum.Integers.{bytes_of}
use Rattle.cc_program.specs.declared.types.CType.{CType}
use Rattle.cc_program.specs.declared.types.Shape.{Int, Pointer}
use Rattle.cc_program.specs.declared.types.Structure.{Structure}
use Rattle.cc_state_points.specs.CcSyntax.Layout.{size_of}
use Rattle.cc_state_points.proofs.CcSyntax.Shapes.{layout-Int, layout-Pointer}

module _ (t : CType) (structures : List Structure) (target : Target) where
  pub size-Int : (i : IntType) → t.shape ≡ Int i → size_of t structures target ≡ bytes_of i target
  size-Int i h = ap (λ l. l.size) (layout-Int t structures target i h)

  pub size-Pointer : (to : CType) → t.shape ≡ Pointer to → size_of t structures target ≡ target.pointer_bytes
  size-Pointer to h = ap (λ l. l.size) (layout-Pointer t structures target to h)

pub ruleset of_sizes = (size-Int, size-Pointer)
