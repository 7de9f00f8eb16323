use Rattle.std.proofs.Common.{◌≡◌, ℕ, List, Some, map, refl, ap, ◌∙◌}
use Rattle.std.proofs.lemmas.Result.{IfOk-weaker}
use Rattle.cc_rules_asked.specs.declared.asked.Asked.TheVariants as asked
use Rattle.cc_rules_asked.proofs.WriteLemmas.{one_written}
use Rattle.cc_rules_asked.proofs.writes.asked_of_write.Goals as goal
use Rattle.cc_rules.specs.CcRulesFlows.Acts.{Writes}
use Rattle.cc_rules.specs.CcRulesNeeds.declared.needs.Part.TheVariants.{Values}
use Rattle.cc_rules.specs.CcRulesNeeds.declared.needs.Slot.TheVariants.{Whole}
use Rattle.cc_rules.specs.CcStateOperators.Domains.{domain}

pub value_of-requires : goal.value_of-requires
value_of-requires g c = record { sized = c.requires.here.sized; sets = c.requires.here.known; pure = c.requires.value }

pub keys_here-requires : goal.keys_here-requires
keys_here-requires g c = record { here = c.requires.here; pure = c.requires.place; few = c.requires.few }

pub returns : goal.returns
returns g c =
    IfOk-weaker c.asked_of_keys.result (λ list. list.items ≡ map (λ k. asked.Part (Whole k) (Values (Some c.in_ok-set.set))) c.deref.result.now) _
    (λ list e. one_written (domain g.I.Concrete.Has g.I.Lattice.IsBelow g.I.IntDomain.OpGives g.I.IntDomain.OpOneGives g.I.IntDomain.ToGives g.I.IntDomain.KeepGives g.I.IntDomain.members_of) c.args.here.now (Writes c.args.write.place.now c.args.write.value.now) c.args.write.place.now c.args.write.value.now c.in_ok-set.set c.in_ok-keys.keys.items list.items
    refl c.requires.here c.in_ok-set.ensures.value c.in_ok-keys.ensures (e ∙ ap (map (λ k. asked.Part (Whole k) (Values (Some c.in_ok-set.set)))) c.deref.ensures.value))
    c.asked_of_keys.ensures
