-- Each arm gives what the definition gives of its kind: the parts by the calls' clauses, the whole by `shape_opened`.
use Rattle.std.proofs.Common.{◌∙◌, ap, sym}
use Rattle.cc_program.specs.declared.types.Shape.{Pointer, Array}
use Rattle.cc_program.specs.declared.types.Shape.TheOpen as shape
use Rattle.cc_program.specs.declared.types.Shape.TheVariants.{rolls-Void, rolls-Int, rolls-Pointer, rolls-Array}
use Rattle.cc_unit.proofs.Opened.{shape_opened, type_opened}
use Rattle.cc_unit.specs.Renumbered.{type_renumbered}
use Rattle.cc_unit.proofs.types.+renumber.Goals as goal

pub renumber_type-returns : goal.renumber_type-returns
renumber_type-returns n c =
    let t = c.args.t.now in
    (λ j. record { constant = t.constant; volatile = t.volatile; shape = c.in_ok-renumber_shape.ensures j }) ∙ type_opened c.args.structures.now t

pub renumber_shape-returns-in-Void : goal.renumber_shape-returns-in-Void
renumber_shape-returns-in-Void n c = shape_opened c.args.structures.now c.args.s.now shape.Void (c.in-Void.is ∙ sym rolls-Void)

pub renumber_shape-returns-in-Int : goal.renumber_shape-returns-in-Int
renumber_shape-returns-in-Int n c = shape_opened c.args.structures.now c.args.s.now (shape.Int c.in-Int.t) (c.in-Int.is ∙ sym (rolls-Int c.in-Int.t))

pub renumber_shape-returns-in_ok-renumber_boxed_type-in-Pointer : goal.renumber_shape-returns-in_ok-renumber_boxed_type-in-Pointer
renumber_shape-returns-in_ok-renumber_boxed_type-in-Pointer n c =
    ap Pointer (c.in_ok-renumber_boxed_type-in-Pointer.ensures ∙ ap (type_renumbered c.args.structures.now) c.get.ensures)
    ∙ shape_opened c.args.structures.now c.args.s.now (shape.Pointer c.in-Pointer.t) (c.in-Pointer.is ∙ sym (rolls-Pointer c.in-Pointer.t))

pub renumber_shape-returns-in_ok-renumber_boxed_type-in-Array : goal.renumber_shape-returns-in_ok-renumber_boxed_type-in-Array
renumber_shape-returns-in_ok-renumber_boxed_type-in-Array n c =
    ap (λ t. Array t c.in-Array.n) (c.in_ok-renumber_boxed_type-in-Array.ensures ∙ ap (type_renumbered c.args.structures.now) c.get-in-Array.ensures)
    ∙ shape_opened c.args.structures.now c.args.s.now (shape.Array c.in-Array.t c.in-Array.n) (c.in-Array.is ∙ sym (rolls-Array c.in-Array.t c.in-Array.n))
