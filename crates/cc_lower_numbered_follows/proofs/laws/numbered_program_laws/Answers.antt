use Rattle.cc_lower_numbered_follows.proofs.Instance.{numbered_follows, numbered_answers}
use Rattle.cc_lower_numbered_follows.proofs.laws.numbered_program_laws.Goals as goal

pub returns : goal.returns
returns c = record { follows = numbered_follows; answers = numbered_answers }
