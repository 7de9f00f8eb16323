-- A part of a slot leads to the least facts above that have it, and so does what flows to a point.
use Rattle.std.proofs.Common.{sym, subst}
use Rattle.cc_rules_asked.specs.Asked.{needs_of}
use Rattle.cc_rules_asked.specs.declared.asked.Asked.{Asked}
use Rattle.cc_rules_asked.specs.declared.asked.Asked.TheVariants as asked
use Rattle.cc_rules_raised.proofs.Outcomes.{IsOutcome, laws_of, slot_outcome}
use Rattle.cc_rules_raised.proofs.SlotSteps.{may_rise}
use Rattle.cc_rules_raised.proofs.raise.raise_one.Goals as goal
use Rattle.cc_rules_layout.specs.Raisable.{IsRaisable}
use Rattle.cc_rules_raised.specs.Steps.{IsFitFor}
use Rattle.cc_rules_asked.specs.CcStateOperators.Domains.{domain}

pub raise_slot-requires : goal.raise_slot-requires
raise_slot-requires g c =
    let d = domain g.I.Concrete.Has g.I.Lattice.IsBelow g.I.IntDomain.OpGives g.I.IntDomain.OpOneGives g.I.IntDomain.ToGives g.I.IntDomain.KeepGives g.I.IntDomain.members_of in
    let l = g.met.I.Lattice in
    let i = g.met.I.IntDomain in
    let laws = laws_of d g.I.Lattice.AreAlike i.all_alike l.below_itself l.below_through l.below_both_ways i.members_below i.below_has i.join_typed in
    let p = c.args.p.now in
    let f = c.args.facts.now in
    may_rise d laws.ordered laws.joins p f c.requires.shape c.in-Part.slot c.in-Part.part
    (subst (λ (one : Asked g.row.I.Denot). IsFitFor d p f one) c.in-Part.is c.requires.fit) (subst (λ (one : Asked g.row.I.Denot). IsRaisable d p f one) c.in-Part.is c.requires.raisable)

pub returns-in-Part : goal.returns-in-Part
returns-in-Part g c =
    let d = domain g.I.Concrete.Has g.I.Lattice.IsBelow g.I.IntDomain.OpGives g.I.IntDomain.OpOneGives g.I.IntDomain.ToGives g.I.IntDomain.KeepGives g.I.IntDomain.members_of in
    let l = g.met.I.Lattice in
    let i = g.met.I.IntDomain in
    let laws = laws_of d g.I.Lattice.AreAlike i.all_alike l.below_itself l.below_through l.below_both_ways i.members_below i.below_has i.join_typed in
    let p = c.args.p.now in
    let f = c.args.facts.now in
    let out = slot_outcome d laws p c.in-Part.slot c.in-Part.part f c.raise_slot.new.facts c.requires.shape
    (subst (λ (one : Asked g.row.I.Denot). IsFitFor d p f one) c.in-Part.is c.requires.fit) (subst (λ (one : Asked g.row.I.Denot). IsRaisable d p f one) c.in-Part.is c.requires.raisable)
    c.raise_slot.result c.raise_slot.ensures.rose c.raise_slot.ensures.had c.raise_slot.ensures.same in
    let all = subst (λ (one : Asked g.row.I.Denot). IsOutcome d p (needs_of p one) f c.raise_slot.new.facts c.raise_slot.result) (sym c.in-Part.is) out in
    record { step = all.step; has = all.has; rose = all.rose; same = all.same; held = c.raise_slot.ensures.held }

pub raise_flow-requires : goal.raise_flow-requires
raise_flow-requires g c =
    let d = domain g.I.Concrete.Has g.I.Lattice.IsBelow g.I.IntDomain.OpGives g.I.IntDomain.OpOneGives g.I.IntDomain.ToGives g.I.IntDomain.KeepGives g.I.IntDomain.members_of in
    let p = c.args.p.now in
    let f = c.args.facts.now in
    record {
      normal = c.requires.normal;
      flow = c.requires.flow;
      shape = c.requires.shape;
      fit = subst (λ (one : Asked g.row.I.Denot). IsFitFor d p f one) c.in-Point.is c.requires.fit;
      laid_out = subst (λ (one : Asked g.row.I.Denot). IsRaisable d p f one) c.in-Point.is c.requires.raisable;
    }

pub returns-in-Point : goal.returns-in-Point
returns-in-Point g c =
    let d = domain g.I.Concrete.Has g.I.Lattice.IsBelow g.I.IntDomain.OpGives g.I.IntDomain.OpOneGives g.I.IntDomain.ToGives g.I.IntDomain.KeepGives g.I.IntDomain.members_of in
    let p = c.args.p.now in
    let f = c.args.facts.now in
    let out : IsOutcome d p (needs_of p (asked.Point c.in-Point.number c.in-Point.registers c.in-Point.told)) f c.raise_flow.new.facts c.raise_flow.result =
    record { step = c.raise_flow.ensures.step; has = c.raise_flow.ensures.has; rose = c.raise_flow.ensures.rose; same = c.raise_flow.ensures.same } in
    let all = subst (λ (one : Asked g.row.I.Denot). IsOutcome d p (needs_of p one) f c.raise_flow.new.facts c.raise_flow.result) (sym c.in-Point.is) out in
    record { step = all.step; has = all.has; rose = all.rose; same = all.same; held = c.raise_flow.ensures.held }
