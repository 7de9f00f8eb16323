-- What flows to the point is what is known there, with another set of the cell.
use Rattle.std.proofs.Common.{◌≡◌, true, false, true≢false, Some, sym, subst, ◌∙◌}
use Rattle.std.proofs.lemmas.Result.{IfOk-weaker}
use Rattle.cc_rules_asked.specs.CcPlaces.Abstract.{AreOfOneKind}
use Rattle.cc_rules_asked.specs.CcRulesNeeds.declared.needs.Part.TheVariants.{Values}
use Rattle.cc_rules_asked.specs.CcRulesNeeds.declared.needs.Slot.TheVariants.{CellAt}
use Rattle.cc_rules_asked.specs.CcRulesNeeds.Needs.{Has}
use Rattle.cc_rules_asked.specs.CcRulesNeeds.Points.{ArePointsAlike, HasFlow, IsRaisedAt}
use Rattle.cc_rules_raised.proofs.Change.{gives_cell}
use Rattle.cc_rules_raised.proofs.Told.{if_some, cell_known, told_rose, told_had}
use Rattle.cc_rules_raised.proofs.slots.raise_cell.Goals as goal
use Rattle.cc_rules_raised.specs.Completed.{fact_with_cell}
use Rattle.cc_rules_raised.specs.Slots.{IsRisenBy}
use Rattle.cc_rules_asked.specs.CcStateFacts.declared.facts.PointFact.{PointFact}
use Rattle.cc_rules_asked.specs.CcStateFacts.Facts.{fact_at, cell_at}
use Rattle.cc_rules_asked.specs.CcStateOperators.Domains.{domain}

pub has_cell-requires : goal.has_cell-requires
has_cell-requires g c = if_some (cell_at c.args.facts.now c.args.n c.args.j) (λ held. AreOfOneKind c.args.set.now held) c.requires.kind

pub told_cell-requires : goal.told_cell-requires
told_cell-requires g c = c.requires.reached

pub raise_held_point-requires : goal.raise_held_point-requires
raise_held_point-requires g c = record {
  there = c.requires.there;
  alike = if_some (fact_at c.args.facts.now c.args.n) (λ fact. ArePointsAlike c.in_ok-told.told fact)
      (λ fact e. subst (λ (x : PointFact g.row.I.Denot). ArePointsAlike x fact) (sym (c.in_ok-told.ensures fact e)) (c.requires.alike fact e));
}

pub returns : goal.returns
returns g c =
    let d = domain g.I.Concrete.Has g.I.Lattice.IsBelow g.I.IntDomain.OpGives g.I.IntDomain.OpOneGives g.I.IntDomain.ToGives g.I.IntDomain.KeepGives g.I.IntDomain.members_of in
    let below = g.I.Lattice.IsBelow in
    let f = c.args.facts.now in
    let n = c.args.n in
    let j = c.args.j in
    let y = c.args.set.now in
    let new = c.raise_held_point.new.facts in
    let told = c.in_ok-told.told in
    let known = cell_known f n j c.requires.reached in
    let change : PointFact g.row.I.Denot → PointFact g.row.I.Denot = λ fact. fact_with_cell fact j y in
    record {
      rose = IfOk-weaker c.raise_held_point.result (λ rose. rose ≡ true → (HasFlow below told (fact_at f n) → ⊥) × IsRaisedAt below f n told new)
          (λ rose. rose ≡ true → (Has below f (CellAt n j, Values (Some y)) → ⊥) × IsRisenBy below change n f new)
          (λ rose h e. ((λ has. true≢false (sym (c.has_cell.ensures.1 has) ∙ c.if-has_cell.false)), told_rose d f n change told c.in_ok-told.ensures new known.fact known.known (h e).1)) c.raise_held_point.ensures.rose;
      had = IfOk-weaker c.raise_held_point.result (λ rose. rose ≡ false → HasFlow below told (fact_at f n) × (new ≡ f)) (λ rose. rose ≡ false → Has below f (CellAt n j, Values (Some y)) × (new ≡ f))
          (λ rose h e. (gives_cell d f n j known.fact known.set y known.cell (told_had d f n change told c.in_ok-told.ensures known.fact known.known (h e).0), (h e).1)) c.raise_held_point.ensures.had;
      same = c.raise_held_point.ensures.same;
      held = c.raise_held_point.ensures.held;
    }
