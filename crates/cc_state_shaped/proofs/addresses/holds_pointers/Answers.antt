use Rattle.std.proofs.Common.{ap}
use Rattle.cc_state_shaped.proofs.Names.{is_pointer, pointers_all}
use Rattle.cc_state_shaped.proofs.addresses.holds_pointers.Goals as goal
use Rattle.cc_state_reads.specs.CcTyped.View.{value_view}

pub returns-in-ToObject : goal.returns-in-ToObject
returns-in-ToObject c =
    pointers_all c.args.layout.now.program.now (value_view c.args.t) c.args.set.now c.all.result.now c.may_all_point.result (ap (λ t. is_pointer (value_view t)) c.in-ToObject.is) c.all.ensures c.may_all_point.ensures

pub returns-in-ToFunction : goal.returns-in-ToFunction
returns-in-ToFunction c =
    pointers_all c.args.layout.now.program.now (value_view c.args.t) c.args.set.now c.all-in-ToFunction.result.now c.may_all_point-in-ToFunction.result (ap (λ t. is_pointer (value_view t)) c.in-ToFunction.is) c.all-in-ToFunction.ensures c.may_all_point-in-ToFunction.ensures
