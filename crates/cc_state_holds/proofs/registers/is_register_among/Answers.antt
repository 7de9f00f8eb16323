-- By its position.
use Rattle.std.proofs.Common.{ap, ◌∙◌}
use Rattle.std.specs.Prelude.{◌==◌, is_some, position}
use Rattle.cc_state_holds.proofs.PointSets.{register_among}
use Rattle.cc_state_holds.proofs.registers.is_register_among.Goals as goal

pub returns : goal.returns
returns c = λ f e. c.is_some.ensures ∙ (ap is_some (c.number_in.ensures ∙ ap (position (λ n. n == c.args.r)) e) ∙ register_among f c.args.r)
