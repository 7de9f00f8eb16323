-- The laws, of the domain.
use Rattle.std.proofs.Common.{inl, inr, subst, ℕ, All, ◌+◌, ◌*◌, ◌<◌}
use Rattle.cc_rules_grow.proofs.CcFlow.Paths.{all_counted}
use Rattle.cc_rules_grow.specs.CcPlaces.laws.AbstractLaws.{abs_itself, abs_through}
use Rattle.cc_rules_again.proofs.Alike.{same_for}
use Rattle.cc_rules_again.proofs.Asking.{asked_raised}
use Rattle.cc_rules_again.proofs.Counting.{IsCounted, again_counted}
use Rattle.cc_rules_again.proofs.Listing.{listed}
use Rattle.cc_rules_again.proofs.Lists.{contained}
use Rattle.cc_rules_again.proofs.Unraised.{unraised}
use Rattle.cc_rules_again.proofs.law.laws.Goals as goal
use Rattle.cc_rules_again.specs.Again.{number_of, again_of}
use Rattle.cc_rules_again.specs.Things.{Raises, thing_of}
use Rattle.cc_rules_grow.proofs.Elements.{all_each}
use Rattle.cc_rules_grow.proofs.CcRulesNeeds.ByParts.{slots_below}
use Rattle.cc_rules_grow.proofs.CcRulesNeeds.Through.{has_more}
use Rattle.cc_rules_reads.proofs.Asked.{asked_same}
use Rattle.cc_rules_grow.specs.CcStateFacts.laws.OrderLaws.{facts_same}
use Rattle.cc_rules_grow.specs.CcStateOperators.Domains.{domain}

pub returns : goal.returns
returns g c =
    let l = g.met.I.Lattice in
    let i = g.met.I.IntDomain in
    let alike = g.I.Lattice.AreAlike in
    let below = g.I.Lattice.IsBelow in
    let d = domain g.I.Concrete.Has g.I.Lattice.IsBelow g.I.IntDomain.OpGives g.I.IntDomain.OpOneGives g.I.IntDomain.ToGives g.I.IntDomain.KeepGives g.I.IntDomain.members_of in
    let self = abs_itself alike below l.below_itself i.all_alike in
    let through = abs_through alike below l.below_through i.all_alike in
    let both = facts_same alike below l.below_both_ways i.all_alike in
    let stays = unraised d alike self both in
    record {
      raises = λ p facts c ns asked. all_each (λ need. Raises p c (thing_of need.0)) ns (asked_raised d p facts c ns asked);
      reads = λ p facts others c kinds same. same_for p facts others c kinds same;
      stays = λ p facts others c alike first second raised t apart. stays p c facts others alike first second raised t apart;
      listed = λ p facts c e t there raises reads. listed p facts c e t there raises reads;
      again_lists = λ p facts others c e alike first second there raised met. elim (contained (again_of p others c) (number_of e)) [
        | inl found ↦ inr found
        | inr none ↦
            let same = same_for p facts others e alike.whole (λ t reads. stays p c facts others alike first second raised t (λ raises. none (listed p others c e t there raises reads))) in
            inl (met.0, asked_same d p facts others e met.0 same met.1, has_more below self through facts others met.0 (slots_below below self through facts others raised.above) met.2)
      ];
      again_counts = λ p facts c.
          subst (λ (n : ℕ). All (λ number. number < 1 + n * 9) (again_of p facts c)) (all_counted p) (all_each (IsCounted p) (again_of p facts c) (again_counted p facts c));
    }
