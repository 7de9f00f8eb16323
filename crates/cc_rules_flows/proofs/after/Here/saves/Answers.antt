use Rattle.cc_rules_flows.proofs.after.Here.saves.Goals as goal

pub saves_to-requires : goal.saves_to-requires
saves_to-requires g c = record { here = c.requires.here; may = rw c.in-Some.is at c.requires.may }

pub returns-in-None : goal.returns-in-None
returns-in-None g c = rw c.in-None.is c.cleared.ensures

pub returns-in-Some : goal.returns-in-Some
returns-in-Some g c = rw c.in-Some.is c.saves_to.ensures
