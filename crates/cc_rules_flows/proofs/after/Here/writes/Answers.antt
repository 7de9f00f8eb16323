use Rattle.cc_rules_needs.specs.Flowing.{with_cell}
use Rattle.cc_rules_flows.proofs.AfterLemmas.{changed, shaped, cell_known, of_writes}
use Rattle.cc_rules_flows.proofs.after.Here.writes.Goals as goal

pub value_of-requires : goal.value_of-requires
value_of-requires g c = record { sized = c.requires.here.sized; sets = c.requires.here.known; pure = c.requires.may }

pub set_cell-requires : goal.set_cell-requires
set_cell-requires g c = cell_known _ c.args.self.now c.args.a.now c.cell.result c.in_ok-fact.fact c.requires.here c.cell.ensures c.in_ok-fact.ensures

pub returns : goal.returns
returns g c =
    let fact = c.args.self.now.fact.now in
    of_writes _ c.args.self.now c.args.a.now c.args.e.now c.in_ok-set.set c.cell.result c.set_cell.new.fact c.requires.here c.in_ok-set.ensures.value c.cell.ensures
    (changed fact c.in_ok-fact.fact c.set_cell.new.fact (with_cell c.cell.result c.in_ok-set.set) c.in_ok-fact.ensures c.in_ok-set_cell.ensures.tells)
    (shaped _ _ fact c.in_ok-fact.fact c.set_cell.new.fact c.in_ok-fact.ensures (c.in_ok-set_cell.ensures.kept _ _))
