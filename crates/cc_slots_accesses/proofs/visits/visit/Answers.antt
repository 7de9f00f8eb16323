use Rattle.std.proofs.Common.{subst, List, Bool}
use Rattle.cc_slots_accesses.specs.Named.{AreKeysIn}
use Rattle.cc_slots_accesses.specs.Puts.{IsPut}
use Rattle.cc_rules_flows.specs.CcStateFacts.declared.facts.Key.{Key}
use Rattle.cc_rules_flows.specs.CcStateOperators.Domains.{domain}
use Rattle.cc_slots_accesses.proofs.visits.visit.Goals as goal

pub returns : goal.returns
returns g c =
    let d = domain g.I.Concrete.Has g.I.Lattice.IsBelow g.I.IntDomain.OpGives g.I.IntDomain.OpOneGives g.I.IntDomain.ToGives g.I.IntDomain.KeepGives g.I.IntDomain.members_of in
    record {
      access = c.in_ok-access.access;
      named = c.in_ok-named.named.items;
      is_known = c.in_ok-access.ensures;
      are_keys = subst (λ (b : Bool). AreKeysIn d c.args.c.now b c.args.a.now c.in_ok-named.named.items) c.is_reached.ensures c.in_ok-named.ensures;
      is_put = subst (λ (l : List Key). IsPut c.args.c.now.program.now l c.in_ok-access.access c.args.lists.now c.put_all.new.lists) c.deref.ensures.value c.in_ok-put_all.ensures;
    }
