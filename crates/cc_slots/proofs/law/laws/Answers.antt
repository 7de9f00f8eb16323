use Rattle.cc_slots.proofs.CodeLemmas.{short}
use Rattle.cc_slots.proofs.law.laws.Goals as goal

pub returns : goal.returns
returns c = record { short = short }
