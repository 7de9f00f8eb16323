-- The layout of a type, and whether it is complete, from its opened shape.
use Rattle.std.proofs.Common.{◌≡◌, Bool, List, ap, ◌∙◌}
use Rattle.cc_program.specs.CcNum.declared.target.Target.{Target}
use Rattle.cc_program.specs.declared.types.CType.{CType, fold_out-CType}
use Rattle.cc_program.specs.declared.types.Shape.{Shape, fold-Shape, fold_out-Shape, out-Shape, out-roll-Shape, roll-Shape, map-Shape}
use Rattle.cc_program.specs.declared.types.Shape.TheOpen as shape
use Rattle.cc_program.specs.declared.types.Sig.{Sig, fold-Sig}
use Rattle.cc_program.specs.declared.types.Structure.{Structure}
use Rattle.cc_program.proofs.TypeInduction.{with_shape}
use Rattle.cc_syntax.specs.declared.sizes.Layout.{Layout}
use Rattle.cc_syntax.specs.Layout.{shape_layout, type_layout}
use Rattle.cc_syntax.specs.Types.{complete_shape, is_complete}

module _ (target : Target) (structures : List Layout) where
  -- the layouts of the types in a shape
  abbrev pub parts_layout : shape.Shape-F Shape CType Sig → shape.Shape-F Layout Layout (Unit {0})
  parts_layout x = map-Shape Shape CType Sig Layout Layout (Unit {0})
      (fold-Shape Layout Layout (Unit {0}) (shape_layout target structures) (λ t. t.shape) (λ s. tt))
      (type_layout target structures)
      (fold-Sig Layout Layout (Unit {0}) (shape_layout target structures) (λ t. t.shape) (λ s. tt)) x

  pub layout-opens : (t : CType) → type_layout target structures t ≡ shape_layout target structures (parts_layout (out-Shape t.shape))
  unfolding type_layout
  layout-opens t =
      fold_out-CType Layout Layout (Unit {0}) (shape_layout target structures) (λ t. t.shape) (λ s. tt) t
      ∙ fold_out-Shape Layout Layout (Unit {0}) (shape_layout target structures) (λ t. t.shape) (λ s. tt) t.shape

  -- at a type that is built from its shape, as induction has it
  pub layout-roll : (constant volatile : Bool) (x : shape.Shape-F Shape CType Sig) → type_layout target structures (with_shape constant volatile (roll-Shape x)) ≡ shape_layout target structures (parts_layout x)
  layout-roll constant volatile x =
      layout-opens (with_shape constant volatile (roll-Shape x)) ∙ ap (λ y. shape_layout target structures (parts_layout y)) (out-roll-Shape x)

module _ (structures : List Structure) where
  -- whether the types in a shape are complete
  abbrev pub parts_complete : shape.Shape-F Shape CType Sig → shape.Shape-F Bool Bool (Unit {0})
  parts_complete x = map-Shape Shape CType Sig Bool Bool (Unit {0})
      (fold-Shape Bool Bool (Unit {0}) (complete_shape structures) (λ t. t.shape) (λ s. tt))
      (is_complete structures)
      (fold-Sig Bool Bool (Unit {0}) (complete_shape structures) (λ t. t.shape) (λ s. tt)) x

  pub complete-opens : (t : CType) → is_complete structures t ≡ complete_shape structures (parts_complete (out-Shape t.shape))
  unfolding is_complete
  complete-opens t =
      fold_out-CType Bool Bool (Unit {0}) (complete_shape structures) (λ t. t.shape) (λ s. tt) t
      ∙ fold_out-Shape Bool Bool (Unit {0}) (complete_shape structures) (λ t. t.shape) (λ s. tt) t.shape

  pub complete-roll : (constant volatile : Bool) (x : shape.Shape-F Shape CType Sig) → is_complete structures (with_shape constant volatile (roll-Shape x)) ≡ complete_shape structures (parts_complete x)
  complete-roll constant volatile x =
      complete-opens (with_shape constant volatile (roll-Shape x)) ∙ ap (λ y. complete_shape structures (parts_complete y)) (out-roll-Shape x)
