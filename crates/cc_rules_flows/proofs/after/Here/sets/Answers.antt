use Rattle.cc_rules_needs.specs.Flowing.{with_local}
use Rattle.cc_rules_flows.proofs.AfterLemmas.{changed, shaped, of_sets}
use Rattle.cc_rules_flows.proofs.after.Here.sets.Goals as goal

pub value_of-requires : goal.value_of-requires
value_of-requires g c = record { sized = c.requires.here.sized; sets = c.requires.here.known; pure = c.requires.may.1 }

pub register-requires : goal.register-requires
register-requires g c = record { here = c.requires.here; is = c.requires.may.0 }

pub returns : goal.returns
returns g c =
    let fact = c.args.self.now.fact.now in
    of_sets _ c.args.self.now c.args.r c.register.result c.args.e.now c.in_ok-set.set c.set_local.new.fact c.requires.here c.register.ensures.number c.in_ok-set.ensures.value
    (changed fact c.in_ok-fact.fact c.set_local.new.fact (with_local c.register.result c.in_ok-set.set) c.in_ok-fact.ensures c.in_ok-set_local.ensures.tells)
    (shaped _ _ fact c.in_ok-fact.fact c.set_local.new.fact c.in_ok-fact.ensures (c.in_ok-set_local.ensures.kept _ _))
