use Rattle.std.proofs.Common.{length, true, false}
use Rattle.cc_state_reads.specs.CcPlaces.declared.abs.Abs.TheVariants as abs
use Rattle.cc_rules_needs.specs.Flowing.{Flowing, with_local, with_flags}
use Rattle.cc_rules_flows.proofs.ShapeLemmas.{kept_through}
use Rattle.cc_rules_flows.proofs.AfterLemmas.{changed, shaped, of_saves}
use Rattle.cc_rules_flows.proofs.after.Here.saves_to.Goals as goal

pub register-requires : goal.register-requires
register-requires g c = record { here = c.requires.here; is = c.requires.may }

pub returns : goal.returns
returns g c =
    let fact = c.args.self.now.fact.now in
    let registers = length c.args.self.now.context.registers.now in
    let cells = length c.args.self.now.tracked.now in
    let number = c.register.result in
    let local = c.set_local.new.fact in
    let new = c.set_flags.new.fact in
    of_saves _ c.args.self.now c.args.r number c.in_ok-flag.flag new c.register.ensures.number c.in_ok-flag.ensures
    (changed fact c.in_ok-fact.fact new (λ (flow : Flowing _). with_flags true false (with_local number (abs.Ints c.in_ok-flag.flag) flow)) c.in_ok-fact.ensures
    (λ flow t. c.set_flags.ensures.tells (with_local number (abs.Ints c.in_ok-flag.flag) flow) (c.in_ok-set_local.ensures.tells flow t)))
    (shaped registers cells fact c.in_ok-fact.fact new c.in_ok-fact.ensures (kept_through registers cells c.in_ok-fact.fact local new (c.in_ok-set_local.ensures.kept registers cells) (c.set_flags.ensures.kept registers cells)))
