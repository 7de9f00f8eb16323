-- A type with other numbers of structures, opened at a level.
use Rattle.std.proofs.Common.{◌≡◌, ℕ, map, ap, ◌∙◌}
use Rattle.cc_program.specs.declared.types.CType.{CType, fold_out-CType}
use Rattle.cc_program.specs.declared.types.Shape.{Shape, map-Shape, fold_out-Shape, out-Shape}
use Rattle.cc_program.specs.declared.types.Shape.TheOpen as shape
use Rattle.cc_program.specs.declared.types.Shape.TheVariants.{outs-Void, outs-Int, outs-Pointer, outs-Array, outs-Struct, outs-Func}
use Rattle.cc_program.specs.declared.types.Sig.{Sig, out-Sig, out-roll-Sig, fold_out-Sig}
use Rattle.cc_shown_expressions.specs.Numbers.{shape_step, type_step, sig_step, type_numbered, shape_numbered, sig_numbered}

module _ (number : ℕ → ℕ) where
  -- a level whose parts have the numbers
  abbrev pub level : shape.Shape-F Shape CType Sig → shape.Shape-F Shape CType Sig
  level shape.Void = shape.Void
  level (shape.Int t) = shape.Int t
  level (shape.Pointer to) = shape.Pointer (type_numbered number to)
  level (shape.Array of n) = shape.Array (type_numbered number of) n
  level (shape.Struct i) = shape.Struct (number i)
  level (shape.Func sig) = shape.Func (sig_numbered number sig)

  abbrev mapped : shape.Shape-F Shape CType Sig → shape.Shape-F Shape CType Sig
  mapped x = map-Shape Shape CType Sig Shape CType Sig (shape_numbered number) (type_numbered number) (sig_numbered number) x

  pub type-opens : (t : CType) → type_numbered number t ≡ record { constant = t.constant; volatile = t.volatile; shape = shape_numbered number t.shape }
  unfolding type_numbered shape_numbered sig_numbered
  type-opens t = fold_out-CType Shape CType Sig (shape_step number) (type_step number) (sig_step number) t

  shape-opens : (s : Shape) → shape_numbered number s ≡ shape_step number (mapped (out-Shape s))
  unfolding type_numbered shape_numbered sig_numbered
  shape-opens s = fold_out-Shape Shape CType Sig (shape_step number) (type_step number) (sig_step number) s

  out-step : (x : shape.Shape-F Shape CType Sig) → out-Shape (shape_step number (mapped x)) ≡ level x
  out-step shape.Void = outs-Void
  out-step (shape.Int t) = outs-Int t
  out-step (shape.Pointer to) = outs-Pointer (type_numbered number to)
  out-step (shape.Array of n) = outs-Array (type_numbered number of) n
  out-step (shape.Struct i) = outs-Struct (number i)
  out-step (shape.Func sig) = outs-Func (sig_numbered number sig)

  pub shape-level : (t : CType) → out-Shape (type_numbered number t).shape ≡ level (out-Shape t.shape)
  shape-level t = ap (λ (u : CType). out-Shape u.shape) (type-opens t) ∙ ap out-Shape (shape-opens t.shape) ∙ out-step (out-Shape t.shape)

  -- at a shape that is known
  pub level-at : (t : CType) (x : shape.Shape-F Shape CType Sig) → out-Shape t.shape ≡ x → out-Shape (type_numbered number t).shape ≡ level x
  level-at t x e = shape-level t ∙ ap level e

  pub constant-kept : (t : CType) → (type_numbered number t).constant ≡ t.constant
  constant-kept t = ap (λ (u : CType). u.constant) (type-opens t)

  pub volatile-kept : (t : CType) → (type_numbered number t).volatile ≡ t.volatile
  volatile-kept t = ap (λ (u : CType). u.volatile) (type-opens t)

  pub sig-level : (s : Sig) → out-Sig (sig_numbered number s) ≡ record { result = type_numbered number (out-Sig s).result; params = map (type_numbered number) (out-Sig s).params }
  unfolding type_numbered shape_numbered sig_numbered
  sig-level s = ap out-Sig (fold_out-Sig Shape CType Sig (shape_step number) (type_step number) (sig_step number) s) ∙ out-roll-Sig _
