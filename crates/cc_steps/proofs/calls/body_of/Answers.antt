use Rattle.std.proofs.Common.{◌≡◌, IfOk, subst}
use Rattle.cc_control.specs.View.{control_of}
use Rattle.cc_steps.proofs.LocalLemmas.{body-close}
use Rattle.cc_steps.proofs.calls.body_of.Goals as goal

pub returns : goal.returns
returns c = subst (λ t. IfOk c.close.result (λ r. control_of r ≡ t)) (body-close c.args.f.now.body c.all-list.result.now c.all-list.ensures) c.close.ensures
