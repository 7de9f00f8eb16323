-- What an expression means is what the step of its construct makes of its parts; and the constructs whose rules are not to be
-- opened, from the lemmas on them.
use Rattle.std.proofs.Common.{rules, Err, map}
use Rattle.cc_typed_terms.specs.CcDesignators.View.{expr_view}
use Rattle.cc_typed_terms.specs.CcDesignators.declared.designated.TypedExpr.{TypedExpr as CodeExpr}
use Rattle.cc_scopes.specs.Outcomes.{Gives, stopped}
use Rattle.cc_scopes.specs.View.{state_of}
use Rattle.cc_terms.specs.Expressions.{tree_step}
use Rattle.cc_terms.specs.Terms.{here, type_name_of}
use Rattle.cc_tree.specs.declared.tree.Declr.TheOpen as one
use Rattle.cc_terms.proofs.Arms.{comma-step, assign-step, choose-step, binary-step, prefix-step, postfix-step, sizeof-step, sizeof_type-step, cast-step, subscript-step, call-step, member-step, arrow-step, comma-gives, assign-gives, choose-gives, choose-stops, binary-stops, binary-stops_behind, binary-gives, cast-stops, cast-gives, subscript-stops, subscript-gives, call-stops, call-gives}
use Rattle.cc_terms.proofs.+terms.Goals as goal

-- ---- each construct by its step

pub trees::tree-returns-in-Comma : goal.trees::tree-returns-in-Comma
trees::tree-returns-in-Comma t c = comma-step c.args.target.now c.args.roles.now c.args.e.now c.in-Comma.a c.in-Comma.b c.args.at (state_of c.args.state.now) _ _ c.in-Comma.is c.comma.ensures

pub trees::tree-returns-in-Assign : goal.trees::tree-returns-in-Assign
trees::tree-returns-in-Assign t c = assign-step c.args.target.now c.args.roles.now c.args.e.now _ c.in-Assign.a c.in-Assign.b c.args.at (state_of c.args.state.now) _ _ c.in-Assign.is c.assignment.ensures

pub trees::tree-returns-in-Choose : goal.trees::tree-returns-in-Choose
trees::tree-returns-in-Choose t c = choose-step c.args.target.now c.args.roles.now c.args.e.now c.in-Choose.c c.in-Choose.a c.in-Choose.b c.args.at (state_of c.args.state.now) _ _ c.in-Choose.is c.choice.ensures

pub trees::tree-returns-in-Binary : goal.trees::tree-returns-in-Binary
trees::tree-returns-in-Binary t c = binary-step c.args.target.now c.args.roles.now c.args.e.now _ c.in-Binary.a c.in-Binary.b c.args.at (state_of c.args.state.now) _ _ c.in-Binary.is c.binary.ensures

pub trees::tree-returns-in-Prefix : goal.trees::tree-returns-in-Prefix
trees::tree-returns-in-Prefix t c = prefix-step c.args.target.now c.args.roles.now c.args.e.now _ c.in-Prefix.e c.args.at (state_of c.args.state.now) _ _ c.in-Prefix.is c.prefix.ensures

pub trees::tree-returns-in-Postfix : goal.trees::tree-returns-in-Postfix
trees::tree-returns-in-Postfix t c = postfix-step c.args.target.now c.args.roles.now c.args.e.now c.in-Postfix.e _ c.args.at (state_of c.args.state.now) _ _ c.in-Postfix.is c.step_behind.ensures

pub trees::tree-returns-in-SizeOf : goal.trees::tree-returns-in-SizeOf
trees::tree-returns-in-SizeOf t c = sizeof-step c.args.target.now c.args.roles.now c.args.e.now c.in-SizeOf.e c.args.at (state_of c.args.state.now) _ _ c.in-SizeOf.is c.size_of.ensures

pub trees::tree-returns-in-SizeOfType : goal.trees::tree-returns-in-SizeOfType
trees::tree-returns-in-SizeOfType t c = sizeof_type-step c.args.target.now c.args.roles.now c.args.e.now c.in-SizeOfType.t c.args.at (state_of c.args.state.now) _ _ c.in-SizeOfType.is c.size_of_type.ensures

pub trees::tree-returns-in-Cast : goal.trees::tree-returns-in-Cast
trees::tree-returns-in-Cast t c = cast-step c.args.target.now c.args.roles.now c.args.e.now c.in-Cast.t c.in-Cast.e c.args.at (state_of c.args.state.now) _ _ c.in-Cast.is c.cast_to_named.ensures

pub trees::tree-returns-in-Subscript : goal.trees::tree-returns-in-Subscript
trees::tree-returns-in-Subscript t c = subscript-step c.args.target.now c.args.roles.now c.args.e.now c.in-Subscript.a c.in-Subscript.i c.args.at (state_of c.args.state.now) _ _ c.in-Subscript.is c.subscript.ensures

pub trees::tree-returns-in-Call : goal.trees::tree-returns-in-Call
trees::tree-returns-in-Call t c = call-step c.args.target.now c.args.roles.now c.args.e.now c.in-Call.f c.in-Call.args c.args.at (state_of c.args.state.now) _ _ c.in-Call.is c.call.ensures

pub trees::tree-returns-in-Member : goal.trees::tree-returns-in-Member
trees::tree-returns-in-Member t c = member-step c.args.target.now c.args.roles.now c.args.e.now c.in-Member.e c.in-Member.x c.args.at (state_of c.args.state.now) _ _ c.in-Member.is c.member_of.ensures

pub trees::tree-returns-in-Arrow : goal.trees::tree-returns-in-Arrow
trees::tree-returns-in-Arrow t c = arrow-step c.args.target.now c.args.roles.now c.args.e.now c.in-Arrow.e c.in-Arrow.x c.args.at (state_of c.args.state.now) _ _ c.in-Arrow.is c.member_pointed_to.ensures

-- ---- constructs whose parts are found, or one of them is not

pub operators::comma-returns : goal.operators::comma-returns
operators::comma-returns t c =
    let answers : Gives expr_view (stopped c.args.at c.comma_expr.result) (state_of c.boxed_operand-2.new.state) (tree_step c.args.target.now c.args.roles.now (one.Comma (here c.args.target.now c.args.roles.now c.args.a.now) (here c.args.target.now c.args.roles.now c.args.b.now)) c.args.at (state_of c.args.state.now)) =
    comma-gives c.args.target.now c.args.roles.now (here c.args.target.now c.args.roles.now c.args.a.now) (here c.args.target.now c.args.roles.now c.args.b.now) c.args.at (state_of c.args.state.now) (state_of c.boxed_operand.new.state) (state_of c.boxed_operand-2.new.state) _ _ c.comma_expr.result c.in_ok-x.ensures c.in_ok-y.ensures c.comma_expr.ensures
    in search (rules, answers)

pub operators::assignment-returns : goal.operators::assignment-returns
operators::assignment-returns t c =
    let answers : Gives expr_view (stopped c.args.at c.assign_expr.result) (state_of c.boxed_operand.new.state) (tree_step c.args.target.now c.args.roles.now (one.Assign c.args.mark (here c.args.target.now c.args.roles.now c.args.a.now) (here c.args.target.now c.args.roles.now c.args.b.now)) c.args.at (state_of c.args.state.now)) =
    assign-gives c.args.target.now c.args.roles.now c.args.mark (here c.args.target.now c.args.roles.now c.args.a.now) (here c.args.target.now c.args.roles.now c.get.result.now) (here c.args.target.now c.args.roles.now c.args.b.now) c.args.at (state_of c.args.state.now) (state_of c.designator.new.state) (state_of c.boxed_operand.new.state) _ _ c.structures.result.now c.assign_expr.result (search rules) c.in_ok-x.ensures c.in_ok-y.ensures c.structures.ensures c.assign_expr.ensures
    in search (rules, answers)

pub operators::choice-returns-in_err-y : goal.operators::choice-returns-in_err-y
operators::choice-returns-in_err-y t c =
    let stops : Gives {A = CodeExpr} expr_view (Err c.in_err-y.field-0.0) (state_of c.boxed_operand-3.new.state) (tree_step c.args.target.now c.args.roles.now (one.Choose (here c.args.target.now c.args.roles.now c.args.c.now) (here c.args.target.now c.args.roles.now c.args.a.now) (here c.args.target.now c.args.roles.now c.args.b.now)) c.args.at (state_of c.args.state.now)) =
    choose-stops c.args.target.now c.args.roles.now (here c.args.target.now c.args.roles.now c.args.c.now) (here c.args.target.now c.args.roles.now c.args.a.now) (here c.args.target.now c.args.roles.now c.args.b.now) c.args.at (state_of c.args.state.now) (state_of c.boxed_operand.new.state) (state_of c.boxed_operand-2.new.state) (state_of c.boxed_operand-3.new.state) _ _ c.in_err-y.field-0.0 c.in_ok-c.ensures c.in_ok-x.ensures c.in_err-y.ensures
    in search (rules, stops)

pub operators::choice-returns : goal.operators::choice-returns
operators::choice-returns t c =
    let answers : Gives expr_view (stopped c.args.at c.choose_expr.result) (state_of c.boxed_operand-3.new.state) (tree_step c.args.target.now c.args.roles.now (one.Choose (here c.args.target.now c.args.roles.now c.args.c.now) (here c.args.target.now c.args.roles.now c.args.a.now) (here c.args.target.now c.args.roles.now c.args.b.now)) c.args.at (state_of c.args.state.now)) =
    choose-gives c.args.target.now c.args.roles.now (here c.args.target.now c.args.roles.now c.args.c.now) (here c.args.target.now c.args.roles.now c.args.a.now) (here c.args.target.now c.args.roles.now c.args.b.now) c.args.at (state_of c.args.state.now) (state_of c.boxed_operand.new.state) (state_of c.boxed_operand-2.new.state) (state_of c.boxed_operand-3.new.state) _ _ _ c.choose_expr.result c.in_ok-c.ensures c.in_ok-x.ensures c.in_ok-y.ensures c.choose_expr.ensures
    in search (rules, answers)

pub operators::binary-returns-in_err-x : goal.operators::binary-returns-in_err-x
operators::binary-returns-in_err-x t c =
    let stops : Gives {A = CodeExpr} expr_view (Err c.in_err-x.field-0.0) (state_of c.boxed_operand.new.state) (tree_step c.args.target.now c.args.roles.now (one.Binary c.args.mark (here c.args.target.now c.args.roles.now c.args.a.now) (here c.args.target.now c.args.roles.now c.args.b.now)) c.args.at (state_of c.args.state.now)) =
    binary-stops c.args.target.now c.args.roles.now c.args.mark (here c.args.target.now c.args.roles.now c.args.a.now) (here c.args.target.now c.args.roles.now c.args.b.now) c.args.at (state_of c.args.state.now) (state_of c.boxed_operand.new.state) c.in_err-x.field-0.0 c.in_err-x.ensures
    in search (rules, stops)

pub operators::binary-returns-in_err-y : goal.operators::binary-returns-in_err-y
operators::binary-returns-in_err-y t c =
    let stops : Gives {A = CodeExpr} expr_view (Err c.in_err-y.field-0.0) (state_of c.boxed_operand-2.new.state) (tree_step c.args.target.now c.args.roles.now (one.Binary c.args.mark (here c.args.target.now c.args.roles.now c.args.a.now) (here c.args.target.now c.args.roles.now c.args.b.now)) c.args.at (state_of c.args.state.now)) =
    binary-stops_behind c.args.target.now c.args.roles.now c.args.mark (here c.args.target.now c.args.roles.now c.args.a.now) (here c.args.target.now c.args.roles.now c.args.b.now) c.args.at (state_of c.args.state.now) (state_of c.boxed_operand.new.state) (state_of c.boxed_operand-2.new.state) _ c.in_err-y.field-0.0 c.in_ok-x.ensures c.in_err-y.ensures
    in search (rules, stops)

pub operators::binary-returns : goal.operators::binary-returns
operators::binary-returns t c =
    let answers : Gives expr_view (stopped c.args.at c.binary_expr.result) (state_of c.boxed_operand-2.new.state) (tree_step c.args.target.now c.args.roles.now (one.Binary c.args.mark (here c.args.target.now c.args.roles.now c.args.a.now) (here c.args.target.now c.args.roles.now c.args.b.now)) c.args.at (state_of c.args.state.now)) =
    binary-gives c.args.target.now c.args.roles.now c.args.mark (here c.args.target.now c.args.roles.now c.args.a.now) (here c.args.target.now c.args.roles.now c.args.b.now) c.args.at (state_of c.args.state.now) (state_of c.boxed_operand.new.state) (state_of c.boxed_operand-2.new.state) _ _ c.structures.result.now c.binary_expr.result c.in_ok-x.ensures c.in_ok-y.ensures c.structures.ensures c.binary_expr.ensures
    in search (rules, answers)

pub operators::cast_to_named-returns-in_err-x : goal.operators::cast_to_named-returns-in_err-x
operators::cast_to_named-returns-in_err-x t c =
    let stops : Gives {A = CodeExpr} expr_view (Err c.in_err-x.field-0.0) (state_of c.boxed_operand.new.state) (tree_step c.args.target.now c.args.roles.now (one.Cast (type_name_of c.args.target.now c.args.roles.now c.args.t.now) (here c.args.target.now c.args.roles.now c.args.e.now)) c.args.at (state_of c.args.state.now)) =
    cast-stops c.args.target.now c.args.roles.now (type_name_of c.args.target.now c.args.roles.now c.args.t.now) (type_name_of c.args.target.now c.args.roles.now c.get.result.now) (here c.args.target.now c.args.roles.now c.args.e.now) c.args.at (state_of c.args.state.now) (state_of c.type_name.new.state) (state_of c.boxed_operand.new.state) _ c.in_err-x.field-0.0 (search rules) c.in_ok-t.ensures c.in_err-x.ensures
    in search (rules, stops)

pub operators::cast_to_named-returns : goal.operators::cast_to_named-returns
operators::cast_to_named-returns t c =
    let answers : Gives expr_view (stopped c.args.at c.cast.result) (state_of c.boxed_operand.new.state) (tree_step c.args.target.now c.args.roles.now (one.Cast (type_name_of c.args.target.now c.args.roles.now c.args.t.now) (here c.args.target.now c.args.roles.now c.args.e.now)) c.args.at (state_of c.args.state.now)) =
    cast-gives c.args.target.now c.args.roles.now (type_name_of c.args.target.now c.args.roles.now c.args.t.now) (type_name_of c.args.target.now c.args.roles.now c.get.result.now) (here c.args.target.now c.args.roles.now c.args.e.now) c.args.at (state_of c.args.state.now) (state_of c.type_name.new.state) (state_of c.boxed_operand.new.state) _ _ c.cast.result (search rules) c.in_ok-t.ensures c.in_ok-x.ensures c.cast.ensures
    in search (rules, answers)

pub postfix::subscript-returns-in_err-y : goal.postfix::subscript-returns-in_err-y
postfix::subscript-returns-in_err-y t c =
    let stops : Gives {A = CodeExpr} expr_view (Err c.in_err-y.field-0.0) (state_of c.boxed_operand.new.state) (tree_step c.args.target.now c.args.roles.now (one.Subscript (here c.args.target.now c.args.roles.now c.args.a.now) (here c.args.target.now c.args.roles.now c.args.i.now)) c.args.at (state_of c.args.state.now)) =
    subscript-stops c.args.target.now c.args.roles.now (here c.args.target.now c.args.roles.now c.args.a.now) (here c.args.target.now c.args.roles.now c.get-a.result.now) (here c.args.target.now c.args.roles.now c.args.i.now) c.args.at (state_of c.args.state.now) (state_of c.tree.new.state) (state_of c.boxed_operand.new.state) _ _ c.in_err-y.field-0.0 (search rules) c.in_ok-x.ensures (c.in_ok-base.ensures (state_of c.tree.new.state)) c.in_err-y.ensures
    in search (rules, stops)

pub postfix::subscript-returns : goal.postfix::subscript-returns
postfix::subscript-returns t c =
    let answers : Gives expr_view (stopped c.args.at c.subscript_expr.result) (state_of c.boxed_operand.new.state) (tree_step c.args.target.now c.args.roles.now (one.Subscript (here c.args.target.now c.args.roles.now c.args.a.now) (here c.args.target.now c.args.roles.now c.args.i.now)) c.args.at (state_of c.args.state.now)) =
    subscript-gives c.args.target.now c.args.roles.now (here c.args.target.now c.args.roles.now c.args.a.now) (here c.args.target.now c.args.roles.now c.get-a.result.now) (here c.args.target.now c.args.roles.now c.args.i.now) c.args.at (state_of c.args.state.now) (state_of c.tree.new.state) (state_of c.boxed_operand.new.state) _ _ _ c.structures.result.now c.subscript_expr.result (search rules) c.in_ok-x.ensures (c.in_ok-base.ensures (state_of c.tree.new.state)) c.in_ok-y.ensures c.structures.ensures c.subscript_expr.ensures
    in search (rules, answers)

pub postfix::call-returns-in_err-xs : goal.postfix::call-returns-in_err-xs
postfix::call-returns-in_err-xs t c =
    let stops : Gives {A = CodeExpr} expr_view (Err c.in_err-xs.field-0.0) (state_of c.values.new.state) (tree_step c.args.target.now c.args.roles.now (one.Call (here c.args.target.now c.args.roles.now c.args.f.now) (map (here c.args.target.now c.args.roles.now) c.args.args.now)) c.args.at (state_of c.args.state.now)) =
    call-stops c.args.target.now c.args.roles.now (here c.args.target.now c.args.roles.now c.args.f.now) (here c.args.target.now c.args.roles.now c.get-f.result.now) (map (here c.args.target.now c.args.roles.now) c.args.args.now) c.args.at (state_of c.args.state.now) (state_of c.tree.new.state) (state_of c.values.new.state) _ _ c.in_err-xs.field-0.0 (search rules) c.in_ok-x.ensures (c.in_ok-called.ensures (state_of c.tree.new.state)) c.in_err-xs.ensures
    in search (rules, stops)

pub postfix::call-returns : goal.postfix::call-returns
postfix::call-returns t c =
    let answers : Gives expr_view (stopped c.args.at c.called_expr.result) (state_of c.values.new.state) (tree_step c.args.target.now c.args.roles.now (one.Call (here c.args.target.now c.args.roles.now c.args.f.now) (map (here c.args.target.now c.args.roles.now) c.args.args.now)) c.args.at (state_of c.args.state.now)) =
    call-gives c.args.target.now c.args.roles.now (here c.args.target.now c.args.roles.now c.args.f.now) (here c.args.target.now c.args.roles.now c.get-f.result.now) (map (here c.args.target.now c.args.roles.now) c.args.args.now) c.args.at (state_of c.args.state.now) (state_of c.tree.new.state) (state_of c.values.new.state) _ _ _ c.called_expr.result (search rules) c.in_ok-x.ensures (c.in_ok-called.ensures (state_of c.tree.new.state)) c.in_ok-xs.ensures c.called_expr.ensures
    in search (rules, answers)
