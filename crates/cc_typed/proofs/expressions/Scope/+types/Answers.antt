use Rattle.std.proofs.Common.{option_map}
use Rattle.cc_typed.specs.View.{value_view}
use Rattle.cc_typed.proofs.CallLemmas.{call_typed}
use Rattle.cc_typed.proofs.CastLemmas.{null_typed, qualify_typed}
use Rattle.cc_typed.proofs.expressions.Scope.+types.Goals as goal

pub type_of-returns-in-Call : goal.type_of-returns-in-Call
type_of-returns-in-Call t c =
    call_typed c.args.self.program.now c.args.self.locals.now c.args.e.now c.in-Call.f c.get-in-Call.result.now c.in-Call.args (option_map value_view c.type_of-in-Call.result) (option_map value_view c.call_type.result)
    c.in-Call.is c.get-in-Call.ensures c.type_of-in-Call.ensures c.call_type.ensures

pub type_of-returns-in-Null : goal.type_of-returns-in-Null
type_of-returns-in-Null t c =
    null_typed c.args.self.program.now c.args.self.locals.now c.args.e.now c.in-Null.t c.get.result.now (option_map value_view c.null_type.result) c.in-Null.is c.get.ensures c.null_type.ensures

pub type_of-returns-in-Qualify : goal.type_of-returns-in-Qualify
type_of-returns-in-Qualify t c =
    qualify_typed c.args.self.program.now c.args.self.locals.now c.args.e.now c.in-Qualify.a c.get-in-Qualify-2.result.now c.in-Qualify.t c.get-in-Qualify.result.now (option_map value_view c.type_of-in-Qualify.result) (option_map value_view c.qualified_type.result)
    c.in-Qualify.is c.get-in-Qualify.ensures c.get-in-Qualify-2.ensures c.type_of-in-Qualify.ensures c.qualified_type.ensures
