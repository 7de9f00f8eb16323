-- An `if` without an `else`, and with one, from the lemmas on it.
use Rattle.std.proofs.Common.{rules, List, Err}
use Rattle.cc_program.specs.declared.stmt.Stmt.{Stmt}
use Rattle.cc_scopes.specs.Outcomes.{Gives, stopped}
use Rattle.cc_scopes.specs.View.{state_of}
use Rattle.cc_typed_bodies.specs.Lines.{line_of}
use Rattle.cc_typed_bodies.proofs.Equations.{if-none-gives, if-some-gives, if-some-stops}
use Rattle.cc_typed_bodies.proofs.+lines.Goals as goal

pub blocks::inside-returns-in-None : goal.blocks::inside-returns-in-None
blocks::inside-returns-in-None t c =
    let answers : Gives (λ ss. ss) (stopped c.args.at c.if_statement.result) (state_of c.body.new.state) ((line_of c.args.f.target.now c.args.f.roles.now c.args.f.defined.now c.args.f.result.now c.args.l.now).inside c.args.jumps c.args.at (state_of c.args.state.now)) =
    if-none-gives c.args.f.target.now c.args.f.roles.now c.args.f.defined.now c.args.f.result.now c.args.l.now c.in-If.e c.in-If.a c.get.result.now c.in-If.b c.args.jumps c.args.at
    (state_of c.args.state.now) (state_of c.value_here.new.state) (state_of c.body.new.state) _ _ c.of.result c.if_statement.result
    c.in-If.is c.in-None.is c.get.ensures c.in_ok-x-in-If.ensures c.in_ok-these-in-If.ensures (search rules) c.if_statement.ensures
    in search (rules, answers)

pub blocks::inside-returns-in_ok-those-in-Some : goal.blocks::inside-returns-in_ok-those-in-Some
blocks::inside-returns-in_ok-those-in-Some t c =
    let answers : Gives (λ ss. ss) (stopped c.args.at c.if_statement-in-Some.result) (state_of c.body-in-Some.new.state) ((line_of c.args.f.target.now c.args.f.roles.now c.args.f.defined.now c.args.f.result.now c.args.l.now).inside c.args.jumps c.args.at (state_of c.args.state.now)) =
    if-some-gives c.args.f.target.now c.args.f.roles.now c.args.f.defined.now c.args.f.result.now c.args.l.now c.in-If.e c.in-If.a c.get.result.now c.in-Some.b c.get-in-Some.result.now c.in-If.b c.args.jumps c.args.at
    (state_of c.args.state.now) (state_of c.value_here.new.state) (state_of c.body.new.state) (state_of c.body-in-Some.new.state) _ _ _ c.if_statement-in-Some.result
    c.in-If.is c.in-Some.is c.get.ensures c.get-in-Some.ensures c.in_ok-x-in-If.ensures c.in_ok-these-in-If.ensures c.in_ok-those-in-Some.ensures c.if_statement-in-Some.ensures
    in search (rules, answers)

pub blocks::inside-returns-in_err-those-in-Some : goal.blocks::inside-returns-in_err-those-in-Some
blocks::inside-returns-in_err-those-in-Some t c =
    let stops : Gives {A = List Stmt} (λ ss. ss) (Err c.in_err-those-in-Some.field-0.0) (state_of c.body-in-Some.new.state) ((line_of c.args.f.target.now c.args.f.roles.now c.args.f.defined.now c.args.f.result.now c.args.l.now).inside c.args.jumps c.args.at (state_of c.args.state.now)) =
    if-some-stops c.args.f.target.now c.args.f.roles.now c.args.f.defined.now c.args.f.result.now c.args.l.now c.in-If.e c.in-If.a c.get.result.now c.in-Some.b c.get-in-Some.result.now c.in-If.b c.args.jumps c.args.at
    (state_of c.args.state.now) (state_of c.value_here.new.state) (state_of c.body.new.state) (state_of c.body-in-Some.new.state) _ _ c.in_err-those-in-Some.field-0.0
    c.in-If.is c.in-Some.is c.get.ensures c.get-in-Some.ensures c.in_ok-x-in-If.ensures c.in_ok-these-in-If.ensures c.in_err-those-in-Some.ensures
    in search (rules, stops)
