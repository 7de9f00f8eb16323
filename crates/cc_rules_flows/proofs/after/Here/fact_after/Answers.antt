use Rattle.std.proofs.Common.{option_copied}
use Rattle.cc_rules_flows.proofs.AfterLemmas.{of_turns, of_calls, of_returns, of_passes}
use Rattle.cc_rules_flows.proofs.after.Here.fact_after.Goals as goal

pub reads-requires-clause-may : goal.reads-requires-clause-may
reads-requires-clause-may g c = rw c.in-Reads.is at c.requires.may

pub saves-requires-clause-may : goal.saves-requires-clause-may
saves-requires-clause-may g c = rw c.in-Saves.is at c.requires.may

pub returns-in_ok-with_flags-in-Turns : goal.returns-in_ok-with_flags-in-Turns
returns-in_ok-with_flags-in-Turns g c =
    rw c.in-Turns.is (of_turns _ c.args.self.now c.in-Turns.on c.in_ok-with_flags-in-Turns.field-0 c.in_ok-with_flags-in-Turns.ensures.tells c.in_ok-with_flags-in-Turns.ensures.kept)

pub returns-in-Calls : goal.returns-in-Calls
returns-in-Calls g c = rw c.in-Calls.is (of_calls _ c.args.self.now c.in-Calls.field-0 c.in-Calls.field-1.now c.in-Calls.field-2.now)

pub returns-in_ok-copied_point-in-Returns : goal.returns-in_ok-copied_point-in-Returns
returns-in_ok-copied_point-in-Returns g c =
    rw c.in-Returns.is (of_returns _ c.args.self.now (option_copied c.in-Returns.field-0) c.in_ok-copied_point-in-Returns.field-0 c.in_ok-copied_point-in-Returns.ensures)

pub returns-in_ok-copied_point-in-Passes : goal.returns-in_ok-copied_point-in-Passes
returns-in_ok-copied_point-in-Passes g c = rw c.in-Passes.is (of_passes _ c.args.self.now c.in_ok-copied_point-in-Passes.field-0 c.in_ok-copied_point-in-Passes.ensures)
