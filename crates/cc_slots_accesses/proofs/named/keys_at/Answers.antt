use Rattle.std.proofs.Common.{ap, sym, ◌∙◌, ◌++◌, ◌∷◌, [], List}
use Rattle.cc_slots_accesses.proofs.NamedLemmas.{own_keys, pointed_keys}
use Rattle.cc_rules_flows.specs.CcStateFacts.declared.facts.Key.{Key}
use Rattle.cc_rules_flows.specs.CcStateOperators.Domains.{domain}
use Rattle.cc_rules_flows.specs.CcStateValues.Contexts.{set_in}
use Rattle.cc_rules_flows.proofs.CcStateValues.Same.{order_of, same_value}
use Rattle.cc_slots_accesses.proofs.named.keys_at.Goals as goal

pub returns-in_ok-push-in-Some : goal.returns-in_ok-push-in-Some
returns-in_ok-push-in-Some g c =
    let d = domain g.I.Concrete.Has g.I.Lattice.IsBelow g.I.IntDomain.OpGives g.I.IntDomain.OpOneGives g.I.IntDomain.ToGives g.I.IntDomain.KeepGives g.I.IntDomain.members_of in
    let x = c.args.c.now in
    own_keys d x.program.now x.id x.func.now (set_in x) c.push.new.self.items c.args.a.now c.in-Some.key c.args.is_reached
    (c.in_ok-push-in-Some.ensures.items ∙ ap (λ (l : List Key). l ++ c.in-Some.key ∷ []) c.new-found.ensures.items) (sym c.own_key.ensures ∙ c.in-Some.is)

pub returns-in_ok-keys_named-in-None : goal.returns-in_ok-keys_named-in-None
returns-in_ok-keys_named-in-None g c =
    let l = g.met.I.Lattice in
    let i = g.met.I.IntDomain in
    let d = domain g.I.Concrete.Has g.I.Lattice.IsBelow g.I.IntDomain.OpGives g.I.IntDomain.OpOneGives g.I.IntDomain.ToGives g.I.IntDomain.KeepGives g.I.IntDomain.members_of in
    let ordered = order_of d g.I.Lattice.AreAlike i.all_alike l.below_itself l.below_both_ways i.op_grows i.op_one_grows i.to_grows i.members_below in
    let x = c.args.c.now in
    pointed_keys d x.program.now x.id x.func.now (set_in x) (same_value d ordered x.program.now x.id x.func.now (set_in x)) c.into_vec.result.items c.args.a.now c.in_ok-keys_named-in-None.field-0 c.args.is_reached
    c.into_vec.ensures (sym c.own_key.ensures ∙ c.in-None.is) c.if-is_reached.true c.in_ok-keys_named-in-None.ensures
