use Rattle.std.proofs.Common.{ap, ◌∙◌}
use Rattle.cc_specifiers.specs.Objects.{object_size}
use Rattle.cc_specifiers.proofs.Sizes.{array_object}
use Rattle.cc_specifiers.proofs.object.+object_size.Goals as goal

pub returns-in-Array-clause-value : goal.returns-in-Array-clause-value
returns-in-Array-clause-value t c =
    array_object c.args.target.now c.args.structures.now c.args.layouts.now c.args.t.now c.in-Array.of c.in-Array.n c.object_size.result c.array_size.result c.in-Array.is
    (c.object_size.ensures.value ∙ ap (object_size c.args.target.now c.args.structures.now c.args.layouts.now) c.get.ensures) c.array_size.ensures.value
