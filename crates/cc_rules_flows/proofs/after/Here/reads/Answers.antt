use Rattle.std.proofs.Common.{length, subst}
use Rattle.cc_rules_needs.specs.Flowing.{Flowing, with_local, with_pair}
use Rattle.cc_rules_flows.proofs.ShapeLemmas.{kept_through}
use Rattle.cc_rules_flows.proofs.AfterLemmas.{changed, shaped, cell_within, cells_known, of_reads, register_within}
use Rattle.cc_rules_flows.proofs.after.Here.reads.Goals as goal

pub read_of-requires : goal.read_of-requires
read_of-requires g c = record {
  sized = c.requires.here.sized;
  sets = c.requires.here.known;
  pure = c.requires.may.1;
  scalar = c.requires.may.2;
  keys = c.requires.here.keys;
  tracked = c.requires.here.tracked;
  reached = cells_known _ c.args.self.now c.requires.here;
  kinds = c.requires.may.3;
}

pub register-number-requires : goal.register-number-requires
register-number-requires g c = record { here = c.requires.here; is = c.requires.may.0 }

pub returns : goal.returns
returns g c =
    let fact = c.args.self.now.fact.now in
    let registers = length c.args.self.now.context.registers.now in
    let cells = length c.args.self.now.tracked.now in
    let number = c.register-number.result in
    let local = c.set_local.new.fact in
    let new = c.add_pair.new.fact in
    of_reads _ c.args.self.now c.args.r number c.args.a.now c.in_ok-set.set c.cell.result new c.requires.here c.register-number.ensures.number c.in_ok-set.ensures c.cell.ensures
    (changed fact c.in_ok-fact.fact new (λ (flow : Flowing _). with_pair number c.cell.result (with_local number c.in_ok-set.set flow)) c.in_ok-fact.ensures
    (λ flow t. c.in_ok-add_pair.ensures.tells (with_local number c.in_ok-set.set flow) (c.in_ok-set_local.ensures.tells flow t)))
    (shaped registers cells fact c.in_ok-fact.fact new c.in_ok-fact.ensures (kept_through registers cells c.in_ok-fact.fact local new (c.in_ok-set_local.ensures.kept registers cells)
    (c.in_ok-add_pair.ensures.kept registers cells (register_within _ c.args.self.now number c.requires.here c.register-number.ensures.within) (cell_within _ c.args.self.now c.args.a.now c.cell.result c.requires.here c.cell.ensures))))
