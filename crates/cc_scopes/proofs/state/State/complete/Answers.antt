use Rattle.std.proofs.Common.{◌∙◌, ap, map}
use Rattle.cc_operands.specs.CcSyntax.Layout.{structure, type_layout}
use Rattle.cc_scopes.proofs.States.{state-completed}
use Rattle.cc_scopes.proofs.state.State.complete.Goals as goal

pub returns : goal.returns
returns c =
    state-completed c.args.self.now c.complete.new.self c.args.target.now c.args.id c.args.members c.layouts-layouts.result.now c.in-Some.layout c.layouts-layouts.ensures
    (c.in-Some.ensures ∙ ap (λ ms. structure (map (λ m. type_layout c.args.target.now c.layouts-layouts.result.now m.1) ms)) c.all.ensures) c.in_ok-complete.ensures.known c.in_ok-complete.ensures.completed
