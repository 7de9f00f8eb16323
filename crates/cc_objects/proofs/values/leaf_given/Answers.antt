use Rattle.cc_objects.proofs.Leaves.{leaf-given}
use Rattle.cc_typed_terms.specs.CcOperands.View.{operand_view, type_view}
use Rattle.cc_typed_terms.specs.CcScopes.View.{state_of}
use Rattle.cc_objects.proofs.values.leaf_given.Goals as goal

pub returns : goal.returns
returns c =
    leaf-given c.args.target.now c.args.constant (type_view c.args.t.now) (operand_view c.args.x) (operand_view c.in_ok-y.y) (state_of c.args.state.now) c.structures.result.now c.leaf_of.result
    c.in_ok-y.ensures c.structures.ensures c.leaf_of.ensures
