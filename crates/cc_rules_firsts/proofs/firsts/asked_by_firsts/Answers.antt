use Rattle.std.proofs.Common.{arith, length, ap, sym, subst, ◌∙◌}
use Rattle.std.proofs.lemmas.List.{length-map}
use Rattle.std.proofs.lemmas.Result.{IfOk-weaker}
use Rattle.cc_rules_asked.specs.CcRules.Rules.{AreFirstSets}
use Rattle.cc_rules_asked.specs.Asked.{all_needs}
use Rattle.cc_rules_firsts.proofs.Asking.{may_stand, as_asked}
use Rattle.cc_rules_firsts.proofs.Listed.{raisable}
use Rattle.cc_rules_firsts.proofs.firsts.asked_by_firsts.Goals as goal
use Rattle.cc_rules_layout.specs.Raisable.{AreRaisable}
use Rattle.cc_rules_asked.specs.CcStateKeys.Keys.{keys_of}
use Rattle.cc_rules_asked.specs.CcStateOperators.Domains.{domain}
use Rattle.cc_state_scalars.specs.Listed.{AreStaticKeys}
use Rattle.cc_rules_asked.specs.CcSteps.State.{first_values}

pub first_sets-requires : goal.first_sets-requires
first_sets-requires g c =
    let D = domain g.I.Concrete.Has g.I.Lattice.IsBelow g.I.IntDomain.OpGives g.I.IntDomain.OpOneGives g.I.IntDomain.ToGives g.I.IntDomain.KeepGives g.I.IntDomain.members_of in
    let p = c.args.p.now in
    let facts = c.args.facts.now in
    let all = c.all-all.ensures ∙ c.requires.shape.keys in
    let values = c.deref.ensures.value ∙ c.in_ok-values.ensures in
    let are = subst (AreStaticKeys p p.objects) (sym c.all.ensures) c.in_ok-keys.ensures in
    record {
      keys = all;
      kinds = ap length c.all-kinds.ensures ∙ (c.requires.shape.whole_count ∙ sym (ap length all));
      count = are.count ∙ (sym (length-map p.objects (first_values p)) ∙ sym (ap length values));
      fits = may_stand D p c.requires.typed facts c.requires.shape c.all-all.result.now c.all-kinds.result.now c.all.result.now c.deref.result.now all c.all-kinds.ensures are values;
    }

pub asked_of_sets-requires : goal.asked_of_sets-requires
asked_of_sets-requires g c = omega (arith, c.in_ok-sets.ensures.count, ap length c.all-kinds.ensures, c.requires.shape.whole_count, ap length c.requires.shape.keys, c.requires.few)

pub returns-clause-asked : goal.returns-clause-asked
returns-clause-asked g c =
    let D = domain g.I.Concrete.Has g.I.Lattice.IsBelow g.I.IntDomain.OpGives g.I.IntDomain.OpOneGives g.I.IntDomain.ToGives g.I.IntDomain.KeepGives g.I.IntDomain.members_of in
    let p = c.args.p.now in
    let facts = c.args.facts.now in
    let are = subst (AreStaticKeys p p.objects) (sym c.all.ensures) c.in_ok-keys.ensures in
    IfOk-weaker c.asked_of_sets.result _ _
    (λ asked e. subst (λ list. AreFirstSets D p facts 0 (keys_of p) (all_needs p list)) (sym e)
    (as_asked D p c.requires.typed facts c.requires.shape c.all-all.result.now c.all-kinds.result.now c.all.result.now c.deref.result.now (c.all-all.ensures ∙ c.requires.shape.keys) c.all-kinds.ensures are (c.deref.ensures.value ∙ c.in_ok-values.ensures) c.in_ok-sets.sets.items c.in_ok-sets.ensures))
    c.asked_of_sets.ensures

pub returns-clause-raisable : goal.returns-clause-raisable
returns-clause-raisable g c =
    let D = domain g.I.Concrete.Has g.I.Lattice.IsBelow g.I.IntDomain.OpGives g.I.IntDomain.OpOneGives g.I.IntDomain.ToGives g.I.IntDomain.KeepGives g.I.IntDomain.members_of in
    IfOk-weaker c.asked_of_sets.result _ _
    (λ asked e others. subst (λ list. AreRaisable D c.args.p.now others list) (sym e) (raisable D c.args.p.now others 0 c.in_ok-sets.sets.items)) c.asked_of_sets.ensures
