use Rattle.cc_rules_here.proofs.Owned.{owned}
use Rattle.cc_rules_here.proofs.Room.{room}
use Rattle.cc_rules_here.proofs.law.laws.Goals as goal

pub returns-clause-owned : goal.returns-clause-owned
returns-clause-owned c = λ p n point e. owned p n point e

pub returns-clause-room : goal.returns-clause-room
returns-clause-room c = λ p n point f s e there stands. room p n point f s e there stands
