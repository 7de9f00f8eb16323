use Rattle.cc_turns.proofs.operations.give_tree.Goals as goal

pub returns-in_ok-argument-in-Call : goal.returns-in_ok-argument-in-Call
returns-in_ok-argument-in-Call c = rw c.in-Call.is c.in_ok-argument-in-Call.ensures
