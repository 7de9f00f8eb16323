-- What flows to the point is what is known there, without the pair.
use Rattle.std.proofs.Common.{◌≡◌, true, false, true≢false, refl, sym, subst, ◌∙◌}
use Rattle.std.proofs.lemmas.Result.{IfOk-weaker}
use Rattle.cc_rules_asked.specs.CcRulesNeeds.declared.needs.Part.TheVariants.{Mark}
use Rattle.cc_rules_asked.specs.CcRulesNeeds.declared.needs.Slot.TheVariants.{Apart}
use Rattle.cc_rules_asked.specs.CcRulesNeeds.Needs.{Has}
use Rattle.cc_rules_asked.specs.CcRulesNeeds.Points.{ArePointsAlike, HasFlow, IsRaisedAt}
use Rattle.cc_rules_raised.proofs.Change.{gives_apart}
use Rattle.cc_rules_raised.proofs.Told.{if_some, some_there, told_rose, told_had}
use Rattle.cc_rules_raised.proofs.slots.raise_apart.Goals as goal
use Rattle.cc_rules_raised.specs.Completed.{fact_apart}
use Rattle.cc_rules_raised.specs.Slots.{IsRisenBy}
use Rattle.cc_rules_asked.specs.CcStateFacts.declared.facts.PointFact.{PointFact}
use Rattle.cc_rules_asked.specs.CcStateFacts.Facts.{fact_at}
use Rattle.cc_rules_asked.specs.CcStateOperators.Domains.{domain}

pub told_apart-requires : goal.told_apart-requires
told_apart-requires g c = c.requires.reached

pub raise_held_point-requires : goal.raise_held_point-requires
raise_held_point-requires g c = record {
  there = c.requires.there;
  alike = if_some (fact_at c.args.facts.now c.args.n) (λ fact. ArePointsAlike c.in_ok-told.told fact)
      (λ fact e. subst (λ (x : PointFact g.row.I.Denot). ArePointsAlike x fact) (sym (c.in_ok-told.ensures fact e)) (c.requires.alike fact e));
}

pub returns : goal.returns
returns g c =
    let d = domain g.I.Concrete.Has g.I.Lattice.IsBelow g.I.IntDomain.OpGives g.I.IntDomain.OpOneGives g.I.IntDomain.ToGives g.I.IntDomain.KeepGives g.I.IntDomain.members_of in
    let below = g.I.Lattice.IsBelow in
    let f = c.args.facts.now in
    let n = c.args.n in
    let j = c.args.j in
    let r = c.args.r in
    let new = c.raise_held_point.new.facts in
    let told = c.in_ok-told.told in
    let known = some_there (fact_at f n) c.requires.reached in
    let change : PointFact g.row.I.Denot → PointFact g.row.I.Denot = λ fact. fact_apart fact r j in
    record {
      rose = IfOk-weaker c.raise_held_point.result (λ rose. rose ≡ true → (HasFlow below told (fact_at f n) → ⊥) × IsRaisedAt below f n told new)
          (λ rose. rose ≡ true → (Has below f (Apart n r j, Mark true) → ⊥) × IsRisenBy below change n f new)
          (λ rose h e. ((λ has. true≢false (sym (has refl) ∙ (sym c.are_apart.ensures ∙ c.if-are_apart.false))), told_rose d f n change told c.in_ok-told.ensures new known.0 known.1 (h e).1)) c.raise_held_point.ensures.rose;
      had = IfOk-weaker c.raise_held_point.result (λ rose. rose ≡ false → HasFlow below told (fact_at f n) × (new ≡ f)) (λ rose. rose ≡ false → Has below f (Apart n r j, Mark true) × (new ≡ f))
          (λ rose h e. (gives_apart d f n r j known.0 (told_had d f n change told c.in_ok-told.ensures known.0 known.1 (h e).0), (h e).1)) c.raise_held_point.ensures.had;
      same = c.raise_held_point.ensures.same;
      held = c.raise_held_point.ensures.held;
    }
