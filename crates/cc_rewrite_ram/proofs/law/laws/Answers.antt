-- By the lemmas on objects by alignment descending.
use Rattle.cc_rewrite_ram.proofs.Descending.{at_least, just, no_more as no_more_by}
use Rattle.cc_rewrite_ram.proofs.law.laws.Goals as goal

pub returns : goal.returns
returns g = record { at_least = at_least; just = just; no_more = no_more_by }
