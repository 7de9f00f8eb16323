-- The sets are those of the registers, where anything is known.
use Rattle.std.proofs.Common.{refl, ◌∙◌}
use Rattle.cc_state_points.proofs.CcState.Sets.{known, sets_there}
use Rattle.cc_state_points.specs.CcStateFacts.Facts.{fact_at}
use Rattle.cc_slots_points.proofs.contexts.context_of.Goals as goal

pub returns : goal.returns
returns g c = λ facts n same. record {
  program = refl;
  id = refl;
  func = refl;
  sets = λ reached.
      let k = known (fact_at facts n) reached in
      sets_there facts n c.args.func.now c.all.result.now c.sets_of.result.now (c.all.ensures ∙ c.requires.registers) (k.0, k.1, c.sets_of.ensures k.0 (same ∙ k.1));
}
