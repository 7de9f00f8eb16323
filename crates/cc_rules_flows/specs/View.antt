-- What a statement does, as the code has it.
use Rattle.std.specs.Prelude.{Option, Some, None, option_copied}
use Rattle.cc_rules_flows.specs.Acts.{Act, Sets, Reads, Writes, Calls, Saves, Turns, Restores, Tests, Chooses, Returns, Passes}
use Rattle.cc_rules_flows.specs.declared.acts.Act.{Act as CodeAct}
use Rattle.cc_rules_flows.specs.declared.acts.Act.TheVariants as act

abbrev pub act_view : CodeAct → Act
act_view (act.Sets r e) = Sets r e.now
act_view (act.Reads r a) = Reads r a.now
act_view (act.Writes a e) = Writes a.now e.now
act_view (act.Calls result g args) = Calls result g.now args.now
act_view (act.Saves result) = Saves result
act_view (act.Turns on) = Turns on
act_view (act.Restores e) = Restores e.now
act_view (act.Tests e these those) = Tests e.now these.now those.now
act_view (act.Chooses e cases) = Chooses e.now cases.now
act_view (act.Returns e) = Returns (option_copied e)
act_view act.Passes = Passes
