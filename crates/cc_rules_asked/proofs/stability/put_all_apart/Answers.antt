use Rattle.cc_rules_asked.specs.Unstable.{parts_apart}
use Rattle.cc_rules_asked.proofs.StabilityLemmas.{put_on}
use Rattle.cc_rules_asked.proofs.stability.put_all_apart.Goals as goal

pub loop-register-preserved : goal.loop-register-preserved
loop-register-preserved g c =
    put_on (parts_apart {I = g.row.I.Denot} c.args.number c.args.cells.now) c.args.asked.now.items c.loop-register.asked.items c.put_apart.new.asked.items c.loop-register.register c.loop-register.invariant c.in_ok-put_apart.ensures
