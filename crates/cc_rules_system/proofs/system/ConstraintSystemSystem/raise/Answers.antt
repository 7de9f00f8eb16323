-- What is asked fits and is laid out so that it raises facts; they rise to the least ones above that have it, and then their room falls.
use Rattle.std.proofs.Common.{arith, ◌≡◌, ◌<◌, lit<, true, List, sym, ap, subst}
use Rattle.std.proofs.lemmas.Result.{IfOk-weaker, on_ok_weaker}
use Rattle.cc_rules_asked.specs.CcPlaces.laws.AbstractLaws.{abs_itself, abs_through}
use Rattle.cc_rules_asked.specs.Asked.{all_needs}
use Rattle.cc_rules_asked.specs.declared.asked.Asked.{Asked}
use Rattle.cc_rules_layout.specs.Raisable.{AreRaisable}
use Rattle.cc_rules_asked.proofs.CcRulesNeeds.ByParts.{slots_below, parts_below}
use Rattle.cc_rules_asked.proofs.CcRulesNeeds.Through.{facts_itself}
use Rattle.cc_rules_asked.specs.CcRulesNeeds.Needs.{Needs, HasAll}
use Rattle.cc_rules_shaped.specs.Shaped.{AreFit}
use Rattle.cc_rules_system.proofs.AskedLemmas.{asked_at, asks}
use Rattle.cc_rules_system.proofs.Having.{asked_had, met_had}
use Rattle.cc_rules_system.proofs.system.ConstraintSystemSystem.raise.Goals as goal
use Rattle.cc_state_limits.specs.Held.{most_members}
use Rattle.cc_rules_asked.specs.CcStateOperators.Domains.{domain}
use Rattle.cc_state_room.specs.Room.{room_of}
use Rattle.cc_state_shape.proofs.Alike.{facts_alike, well_formed}

pub asked-requires : goal.asked-requires
asked-requires g c =
    let r = c.requires.ready in
    let few = r.few_facts in
    record { normal = r.normal; rules = r.made; shape = c.requires.fitting.0; few = r.few_points; few_keys = omega (arith, few); there = c.requires.index }

pub raise_asked-requires : goal.raise_asked-requires
raise_asked-requires g c =
    let d = domain g.I.Concrete.Has g.I.Lattice.IsBelow g.I.IntDomain.OpGives g.I.IntDomain.OpOneGives g.I.IntDomain.ToGives g.I.IntDomain.KeepGives g.I.IntDomain.members_of in
    let p = c.args.self.now.rules.program.now in
    let f = c.args.facts.now in
    let r = c.requires.ready in
    let shape = c.requires.fitting.0 in
    let i = c.args.index in
    let ns = all_needs p c.in_ok-list.list.items in
    let asked = c.in_ok-list.ensures in
    let a = asked_at d p i f ns c.requires.index asked.asks asked.worked in
    record {
      normal = r.normal;
      flow = r.made.flow;
      shape = shape;
      fit = subst (λ (list : List (Asked g.row.I.Denot)). AreFit d p (all_needs p list)) (sym c.deref.ensures.value) (c.laws.ensures.asked p r.normal r.wholes f shape a.constraint ns a.asked);
      raisable = subst (AreRaisable d p f) (sym c.deref.ensures.value) asked.raisable;
    }

pub returns-in_err-list-clause-above : goal.returns-in_err-list-clause-above
returns-in_err-list-clause-above g c =
    let d = domain g.I.Concrete.Has g.I.Lattice.IsBelow g.I.IntDomain.OpGives g.I.IntDomain.OpOneGives g.I.IntDomain.ToGives g.I.IntDomain.KeepGives g.I.IntDomain.members_of in
    let below = g.I.Lattice.IsBelow in
    let p = c.args.self.now.rules.program.now in
    let f = c.args.facts.now in
    let shape = c.requires.fitting.0 in
    let itself = abs_itself g.I.Lattice.AreAlike below g.met.I.Lattice.below_itself g.met.I.IntDomain.all_alike in
    let through = abs_through g.I.Lattice.AreAlike below g.met.I.Lattice.below_through g.met.I.IntDomain.all_alike in
    parts_below below itself through f f (facts_alike d p f f shape shape) (well_formed d p f shape) (facts_itself below itself through f)

pub returns : goal.returns
returns g c =
    let d = domain g.I.Concrete.Has g.I.Lattice.IsBelow g.I.IntDomain.OpGives g.I.IntDomain.OpOneGives g.I.IntDomain.ToGives g.I.IntDomain.KeepGives g.I.IntDomain.members_of in
    let p = c.args.self.now.rules.program.now in
    let f = c.args.facts.now in
    let r = c.requires.ready in
    let shape = c.requires.fitting.0 in
    let i = c.args.index in
    let ns = all_needs p c.in_ok-list.list.items in
    let asked = c.in_ok-list.ensures in
    let a = asked_at d p i f ns c.requires.index asked.asks asked.worked in
    let same : all_needs p c.deref.result.now ≡ ns = ap (all_needs p) c.deref.ensures.value in
    let below = g.I.Lattice.IsBelow in
    let new = c.raise_asked.new.facts in
    let is = c.raise_asked.ensures in
    let held = is.held c.requires.fitting.1 in
    let itself = abs_itself g.I.Lattice.AreAlike below g.met.I.Lattice.below_itself g.met.I.IntDomain.all_alike in
    let through = abs_through g.I.Lattice.AreAlike below g.met.I.Lattice.below_through g.met.I.IntDomain.all_alike in
    let determined = c.laws-2.ensures.determined p r.normal f shape a.constraint a.worked in
    let room = room_of most_members g.I.IntDomain.room_of in
    record {
      fitting = (is.shape, held);
      above = is.above;
      least = λ h fits b had. is.least h fits.0 b (subst (λ (ms : Needs g.row.I.Denot). HasAll below ms h) (sym same) (asked_had d p i f ns a determined h had));
      has = on_ok_weaker c.raise_asked.result (λ has. asks d p i f new ns a (subst (λ (ms : Needs g.row.I.Denot). HasAll below ms new) same has)) is.has;
      stays = λ k fits b met. is.least k fits.0 b
          (subst (λ (ms : Needs g.row.I.Denot). HasAll below ms k) (sym same) (met_had d p i f ns a k (c.laws-2.ensures.grows p r.normal f k shape fits.0 (slots_below below itself through f k b) a.constraint a.worked) met));
      rose = IfOk-weaker c.raise_asked.result (λ rose. rose ≡ true → new ≡ f → ⊥) (λ rose. rose ≡ true → room new < room f)
          (λ rose differ e. c.laws-5.ensures.falls most_members f new (lit< tt) (c.laws-3.ensures.alike p f new shape is.shape)
          (c.laws-4.ensures.small p new (record { normal = r.normal; few_points = r.few_points; few_facts = r.few_facts }) is.shape held) is.above (λ q. differ e (sym q))) is.rose;
      same = is.same;
    }
