use Rattle.std.proofs.Common.{arith, ap, ◌∙◌}
use Rattle.std.proofs.lemmas.Grind.{common_steps}
use Rattle.cc_cells.specs.Cells.{cells_of}
use Rattle.cc_control.specs.View.{control_of}
use Rattle.cc_steps.specs.State.{locals_with}
use Rattle.cc_steps.proofs.BegunLemmas.{begun-activation}
use Rattle.cc_steps.proofs.calls.activation.Goals as goal

pub returns : goal.returns
returns c =
    begun-activation c.args.p.now c.args.number c.args.id c.args.handler c.args.args.now c.args.f.now (control_of c.in_ok-body.body) (control_of c.in_ok-to.to) (cells_of c.in_ok-locals.locals.items) c.new.result.items
    c.in_ok-body.ensures c.in_ok-to.ensures (c.in_ok-locals.ensures ∙ ap (locals_with c.args.p.now c.args.args.now) c.all.ensures) (grind (arith, common_steps))
