-- One that has points starts all that wait.
use Rattle.cc_rules_choices.proofs.StartLemmas.{started}
use Rattle.cc_rules_choices.proofs.starts.put_starts.Goals as goal

pub returns-clause-started : goal.returns-clause-started
returns-clause-started c = started c.args.all.now.items c.put_times.new.all.items c.args.waiting c.args.number c.args.count c.if-count-eq0.false c.in_ok-put_times.ensures
