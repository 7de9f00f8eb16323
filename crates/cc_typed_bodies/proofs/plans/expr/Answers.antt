use Rattle.std.proofs.Common.{ap}
use Rattle.cc_initialisers.specs.View.{step_view}
use Rattle.cc_objects.specs.Values.{expr_given, no_expr}
use Rattle.cc_terms.specs.CcOperands.View.{operand_view, type_view}
use Rattle.cc_program.specs.declared.expr.Expr.{Expr}
use Rattle.cc_scopes.specs.View.{state_of}
use Rattle.cc_typed_bodies.proofs.Gives.{give-gives}
use Rattle.cc_typed_bodies.proofs.plans.expr.Goals as goal

pub returns-in_ok-x-in-Give : goal.returns-in_ok-x-in-Give
returns-in_ok-x-in-Give c =
    give-gives c.args.target.now c.args.roles.now Expr (expr_given c.args.target.now) no_expr (step_view c.args.step.now) c.in-Give.constant (type_view c.in-Give.t) c.in-Give.e.now
    (state_of c.args.state.now) (state_of c.value.new.state) (operand_view c.in_ok-x-in-Give.x) c.operand_expr.result (ap step_view c.in-Give.is) c.in_ok-x-in-Give.ensures c.operand_expr.ensures
