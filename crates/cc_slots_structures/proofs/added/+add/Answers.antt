use Rattle.std.proofs.Common.{ap, refl, sym, ◌∙◌}
use Rattle.cc_program.specs.declared.types.CType.{CType}
use Rattle.cc_program.specs.declared.types.Shape.{out-Shape}
use Rattle.cc_program.specs.declared.types.Shape.TheOpen as shape
use Rattle.cc_program.specs.declared.types.Shape.TheVariants.{outs-Array, outs-Func, outs-Int, outs-Pointer, outs-Struct, outs-Void}
use Rattle.cc_slots_structures.proofs.AddedLemmas.{array_added, nothing_added, struct_added}
use Rattle.cc_slots_structures.proofs.added.+add.Goals as goal

pub returns-in-Array : goal.returns-in-Array
returns-in-Array t c =
    array_added c.args.first c.args.t.now c.args.place c.of_type-here.result c.of_type-here.ensures.copies c.of_type-here.ensures.is_open c.of_type-here.ensures.is_automatic c.args.list.now c.add.new.list
    c.get.result.now c.in-Array.n c.of_elements.result (ap out-Shape c.in-Array.is ∙ (outs-Array c.in-Array.of c.in-Array.n ∙ ap (λ (u : CType). shape.Array u c.in-Array.n) (sym c.get.ensures)))
    c.of_elements.ensures.copies c.of_elements.ensures.is_open c.of_elements.ensures.is_automatic c.add.ensures

pub returns-in-Struct : goal.returns-in-Struct
returns-in-Struct t c =
    struct_added c.args.first c.args.t.now c.args.place c.of_type-here.result c.of_type-here.ensures.copies c.of_type-here.ensures.is_open c.of_type-here.ensures.is_automatic c.args.list.now c.add_structure.new.list
    c.in-Struct.s (ap out-Shape c.in-Struct.is ∙ outs-Struct c.in-Struct.s) c.add_structure.ensures

pub returns-in-Void : goal.returns-in-Void
returns-in-Void t c =
    nothing_added c.args.first c.args.t.now c.args.place c.of_type-here.result c.of_type-here.ensures.copies c.of_type-here.ensures.is_open c.of_type-here.ensures.is_automatic c.args.list.now c.args.list.now
    shape.Void (ap out-Shape c.in-Void.is ∙ outs-Void) (λ counts. refl) (λ in_const there. refl) refl

pub returns-in-Int : goal.returns-in-Int
returns-in-Int t c =
    nothing_added c.args.first c.args.t.now c.args.place c.of_type-here.result c.of_type-here.ensures.copies c.of_type-here.ensures.is_open c.of_type-here.ensures.is_automatic c.args.list.now c.args.list.now
    (shape.Int c.in-Int.field-0) (ap out-Shape c.in-Int.is ∙ outs-Int c.in-Int.field-0) (λ counts. refl) (λ in_const there. refl) refl

pub returns-in-Pointer : goal.returns-in-Pointer
returns-in-Pointer t c =
    nothing_added c.args.first c.args.t.now c.args.place c.of_type-here.result c.of_type-here.ensures.copies c.of_type-here.ensures.is_open c.of_type-here.ensures.is_automatic c.args.list.now c.args.list.now
    (shape.Pointer c.in-Pointer.field-0) (ap out-Shape c.in-Pointer.is ∙ outs-Pointer c.in-Pointer.field-0) (λ counts. refl) (λ in_const there. refl) refl

pub returns-in-Func : goal.returns-in-Func
returns-in-Func t c =
    nothing_added c.args.first c.args.t.now c.args.place c.of_type-here.result c.of_type-here.ensures.copies c.of_type-here.ensures.is_open c.of_type-here.ensures.is_automatic c.args.list.now c.args.list.now
    (shape.Func c.in-Func.field-0) (ap out-Shape c.in-Func.is ∙ outs-Func c.in-Func.field-0) (λ counts. refl) (λ in_const there. refl) refl
