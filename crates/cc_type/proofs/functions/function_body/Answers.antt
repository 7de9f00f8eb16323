use Rattle.cc_scopes.specs.View.{state_of}
use Rattle.cc_program.specs.declared.types.Sig.{out-Sig}
use Rattle.std.proofs.Common.{length, refl, ap, ◌∙◌}
use Rattle.cc_type.proofs.Bodies.{body-defined}
use Rattle.cc_type.proofs.functions.function_body.Goals as goal

pub returns : goal.returns
returns c =
    body-defined c.args.target.now c.args.roles.now c.args.defined_names.now c.args.body.now c.args.at c.args.id c.in_ok-params.params c.args.name.now c.args.t.now (out-Sig c.args.sig).result c.args.sig c.args.locals c.args.scope
    c.none.result c.in_ok-statements.statements
    (state_of c.args.state.now) (state_of c.replace_locals.new.self) (state_of c.enter.new.self) (state_of c.lines.new.state) (state_of c.defined.new.state)
    c.replace_locals.ensures.state c.in_ok-enter.ensures c.none.ensures refl c.in_ok-statements.ensures (c.in_ok-params.ensures ∙ ap length c.all.ensures) c.in_ok-defined.ensures
