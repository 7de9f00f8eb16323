-- The kind of a type, from its opened shape, by the extents of structures.
use Rattle.std.proofs.Common.{◌≡◌, ◌||◌, ℕ, Bool, Option, ap, ◌∙◌}
use Rattle.cc_program.specs.CcNum.declared.target.Target.{Target}
use Rattle.cc_program.specs.declared.types.CType.{CType, fold_out-CType}
use Rattle.cc_program.specs.declared.types.Shape.{Shape, fold-Shape, fold_out-Shape, out-Shape, out-roll-Shape, roll-Shape, map-Shape}
use Rattle.cc_program.specs.declared.types.Shape.TheOpen as shape
use Rattle.cc_program.specs.declared.types.Sig.{Sig}
use Rattle.cc_program.proofs.TypeInduction.{with_shape}
use Rattle.cc_syntax.specs.Kinds.{Kind, shape_kind, type_kind, is_signature, qualified_kind, kind_of, is_sig}

module _ (target : Target) (extents : ℕ → Option (Option ℕ)) where
  -- the kinds of the types in a shape
  abbrev pub parts_kind : shape.Shape-F Shape CType Sig → shape.Shape-F (Option Kind) (Option Kind) Bool
  parts_kind x = map-Shape Shape CType Sig (Option Kind) (Option Kind) Bool
      (fold-Shape (Option Kind) (Option Kind) Bool (shape_kind target extents) type_kind is_signature)
      (kind_of target extents)
      (is_sig target extents) x

  pub kind-opens : (t : CType) → kind_of target extents t ≡ qualified_kind (t.constant || t.volatile) (shape_kind target extents (parts_kind (out-Shape t.shape)))
  unfolding kind_of is_sig
  kind-opens t =
      fold_out-CType (Option Kind) (Option Kind) Bool (shape_kind target extents) type_kind is_signature t
      ∙ ap (qualified_kind (t.constant || t.volatile)) (fold_out-Shape (Option Kind) (Option Kind) Bool (shape_kind target extents) type_kind is_signature t.shape)

  pub kind-roll : (constant volatile : Bool) (x : shape.Shape-F Shape CType Sig) →
      kind_of target extents (with_shape constant volatile (roll-Shape x)) ≡ qualified_kind (constant || volatile) (shape_kind target extents (parts_kind x))
  kind-roll constant volatile x =
      kind-opens (with_shape constant volatile (roll-Shape x)) ∙ ap (λ y. qualified_kind (constant || volatile) (shape_kind target extents (parts_kind y))) (out-roll-Shape x)
