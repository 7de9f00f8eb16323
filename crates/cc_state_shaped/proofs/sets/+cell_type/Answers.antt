-- An array has the type of its elements' cells, and all else its own.
use Rattle.std.proofs.Common.{None, refl, ap, sym, ◌∙◌}
use Rattle.std.specs.Prelude.{option_map}
use Rattle.cc_program.specs.declared.types.CType.{CType}
use Rattle.cc_program.specs.declared.types.Shape.{out-Shape}
use Rattle.cc_program.specs.declared.types.Shape.TheOpen as shape
use Rattle.cc_program.specs.declared.types.Shape.TheVariants.{outs-Array, outs-Func, outs-Int, outs-Pointer, outs-Struct, outs-Void}
use Rattle.cc_state_shaped.proofs.Typed.{array_found, scalar_found}
use Rattle.cc_state_shaped.proofs.sets.+cell_type.Goals as goal
use Rattle.cc_state_reads.specs.CcSyntax.Values.{scalar_shape}
use Rattle.cc_state_reads.specs.CcTyped.View.{value_view}

pub returns-in-Array : goal.returns-in-Array
returns-in-Array t c =
    array_found c.args.t.now c.get.result.now c.in-Array.field-1 (ap out-Shape c.in-Array.is ∙ (outs-Array c.in-Array.of c.in-Array.field-1 ∙ ap (λ (u : CType). shape.Array u c.in-Array.field-1) (sym c.get.ensures)))
    (option_map value_view c.cell_type.result) c.cell_type.ensures

pub returns-in-Int : goal.returns-in-Int
returns-in-Int t c = scalar_found c.args.t.now (shape.Int c.in-Int.field-0) (ap out-Shape c.in-Int.is ∙ outs-Int c.in-Int.field-0) refl (option_map value_view c.scalar_value.result) c.scalar_value.ensures

pub returns-in-Pointer : goal.returns-in-Pointer
returns-in-Pointer t c = scalar_found c.args.t.now (shape.Pointer c.in-Pointer.field-0) (ap out-Shape c.in-Pointer.is ∙ outs-Pointer c.in-Pointer.field-0) refl (option_map value_view c.scalar_value-in-Pointer.result) c.scalar_value-in-Pointer.ensures

pub returns-in-Void : goal.returns-in-Void
returns-in-Void t c = scalar_found c.args.t.now shape.Void (ap out-Shape c.in-Void.is ∙ outs-Void) refl None (sym (ap scalar_shape (ap out-Shape c.in-Void.is ∙ outs-Void)))

pub returns-in-Struct : goal.returns-in-Struct
returns-in-Struct t c = scalar_found c.args.t.now (shape.Struct c.in-Struct.field-0) (ap out-Shape c.in-Struct.is ∙ outs-Struct c.in-Struct.field-0) refl None (sym (ap scalar_shape (ap out-Shape c.in-Struct.is ∙ outs-Struct c.in-Struct.field-0)))

pub returns-in-Func : goal.returns-in-Func
returns-in-Func t c = scalar_found c.args.t.now (shape.Func c.in-Func.field-0) (ap out-Shape c.in-Func.is ∙ outs-Func c.in-Func.field-0) refl None (sym (ap scalar_shape (ap out-Shape c.in-Func.is ∙ outs-Func c.in-Func.field-0)))
