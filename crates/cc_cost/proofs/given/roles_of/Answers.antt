use Rattle.cc_cost.proofs.RoleLemmas.{roles-named, roles-apart, roles-levelled, levels-apart}
use Rattle.cc_cost.proofs.given.roles_of.Goals as goal

pub invariant_of-result : goal.invariant_of-result
invariant_of-result c =
    let lines = c.args.lines.now in
    record {
      named = roles-named lines c.in_ok-handlers.handlers c.in_ok-off.off c.in_ok-on.on c.in_ok-save.save c.in_ok-restore.restore c.in_ok-handlers.ensures c.in_ok-off.ensures c.in_ok-on.ensures c.in_ok-save.ensures c.in_ok-restore.ensures c.requires;
      apart = roles-apart lines c.in_ok-handlers.handlers c.in_ok-off.off c.in_ok-on.on c.in_ok-save.save c.in_ok-restore.restore c.in_ok-handlers.ensures c.in_ok-off.ensures c.in_ok-on.ensures c.in_ok-save.ensures c.in_ok-restore.ensures c.requires;
      levelled = roles-levelled lines c.in_ok-levels.levels c.in_ok-levels.ensures c.requires;
      levels_apart = levels-apart lines c.in_ok-levels.levels c.in_ok-levels.ensures c.requires;
    }
