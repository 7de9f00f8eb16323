-- Each step leads on from the one before.
use Rattle.std.proofs.Common.{arith, ◌+◌, Bool, List, take, sym, subst}
use Rattle.std.proofs.lemmas.List.{take_all}
use Rattle.cc_rules_asked.specs.declared.asked.Asked.{Asked}
use Rattle.cc_rules_asked.specs.Asked.{all_needs}
use Rattle.cc_rules_raised.proofs.Fitting.{fit_next, raisable_on}
use Rattle.cc_rules_raised.proofs.Outcomes.{IsProgress, laws_of, no_progress, progress_risen, progress_same, progress_ends}
use Rattle.cc_rules_raised.proofs.raise.raise_all.Goals as goal
use Rattle.cc_rules_raised.proofs.raise.raise_all.Goals.{then-risen, else-risen}
use Rattle.cc_rules_layout.specs.Raisable.{IsRaisable}
use Rattle.cc_rules_asked.specs.CcStateOperators.Domains.{domain}

pub loop-one-init : goal.loop-one-init
loop-one-init g c =
    let d = domain g.I.Concrete.Has g.I.Lattice.IsBelow g.I.IntDomain.OpGives g.I.IntDomain.OpOneGives g.I.IntDomain.ToGives g.I.IntDomain.KeepGives g.I.IntDomain.members_of in
    let l = g.met.I.Lattice in
    let i = g.met.I.IntDomain in
    let laws = laws_of d g.I.Lattice.AreAlike i.all_alike l.below_itself l.below_through l.below_both_ways i.members_below i.below_has i.join_typed in
    no_progress d laws c.args.p.now c.args.facts.now c.requires.shape

pub raise_one-requires : goal.raise_one-requires
raise_one-requires g c =
    let d = domain g.I.Concrete.Has g.I.Lattice.IsBelow g.I.IntDomain.OpGives g.I.IntDomain.OpOneGives g.I.IntDomain.ToGives g.I.IntDomain.KeepGives g.I.IntDomain.members_of in
    let p = c.args.p.now in
    let so_far = c.loop-one.invariant in
    record {
      normal = c.requires.normal;
      flow = c.requires.flow;
      shape = so_far.step.shape;
      fit = fit_next d p c.args.asked.now c.loop-one.one-index c.one-item.result c.loop-one.facts c.loop-one-test.true c.one-item.is c.requires.fit so_far.has;
      raisable = raisable_on d p c.args.facts.now c.loop-one.facts c.requires.shape so_far.step.above c.one-item.result
          (subst (IsRaisable d p c.args.facts.now) (sym c.one-item.is) (c.requires.raisable c.loop-one.one-index c.one-item.result c.loop-one-test.true));
    }

pub loop-one-preserved : goal.loop-one-preserved
loop-one-preserved g c =
    let d = domain g.I.Concrete.Has g.I.Lattice.IsBelow g.I.IntDomain.OpGives g.I.IntDomain.OpOneGives g.I.IntDomain.ToGives g.I.IntDomain.KeepGives g.I.IntDomain.members_of in
    let l = g.met.I.Lattice in
    let i = g.met.I.IntDomain in
    let laws = laws_of d g.I.Lattice.AreAlike i.all_alike l.below_itself l.below_through l.below_both_ways i.members_below i.below_has i.join_typed in
    let p = c.args.p.now in
    let new = c.raise_one.new.facts in
    let risen = progress_risen d laws p c.args.asked.now c.loop-one.one-index c.one-item.result c.loop-one-test.true c.one-item.is c.args.facts.now c.loop-one.facts new c.requires.shape c.loop-one.rose c.loop-one.invariant in
    let same = progress_same d laws p c.args.asked.now c.loop-one.one-index c.one-item.result c.loop-one-test.true c.one-item.is c.args.facts.now c.loop-one.facts new c.requires.shape c.loop-one.rose c.loop-one.invariant in
    let Progress : Bool → Type 0 = λ rose. IsProgress d p (all_needs p (take (c.loop-one.one-index + 1) c.args.asked.now)) c.args.facts.now new rose in
    elim c.if-risen.branch [
      | then-risen w ↦ subst Progress (sym w.rose-is) (risen c.in_ok-risen.ensures.held c.in_ok-risen.ensures.step c.in_ok-risen.ensures.has (c.in_ok-risen.ensures.rose w.if-risen.true))
      | else-risen w ↦ subst Progress (sym w.rose-is) (same c.in_ok-risen.ensures.held c.in_ok-risen.ensures.step c.in_ok-risen.ensures.has (c.in_ok-risen.ensures.same w.if-risen.false))
    ]

pub returns-in_err-risen-clause-step : goal.returns-in_err-risen-clause-step
returns-in_err-risen-clause-step g c =
    let d = domain g.I.Concrete.Has g.I.Lattice.IsBelow g.I.IntDomain.OpGives g.I.IntDomain.OpOneGives g.I.IntDomain.ToGives g.I.IntDomain.KeepGives g.I.IntDomain.members_of in
    let l = g.met.I.Lattice in
    let i = g.met.I.IntDomain in
    let laws = laws_of d g.I.Lattice.AreAlike i.all_alike l.below_itself l.below_through l.below_both_ways i.members_below i.below_has i.join_typed in
    progress_ends d laws c.args.p.now c.args.asked.now c.loop-one.one-index c.one-item.result c.loop-one-test.true c.one-item.is c.args.facts.now c.loop-one.facts c.raise_one.new.facts c.requires.shape c.loop-one.rose c.loop-one.invariant c.in_err-risen.ensures.step

pub returns-in_err-risen-clause-held : goal.returns-in_err-risen-clause-held
returns-in_err-risen-clause-held g c = λ h. c.in_err-risen.ensures.held (c.loop-one.invariant.held h)

pub returns : goal.returns
returns g c =
    let d = domain g.I.Concrete.Has g.I.Lattice.IsBelow g.I.IntDomain.OpGives g.I.IntDomain.OpOneGives g.I.IntDomain.ToGives g.I.IntDomain.KeepGives g.I.IntDomain.members_of in
    let p = c.args.p.now in
    let all = subst (λ (list : List (Asked g.row.I.Denot)). IsProgress d p (all_needs p list) c.args.facts.now c.loop-one.facts c.loop-one.rose) (take_all c.loop-one.one-index c.args.asked.now (omega arith)) c.loop-one.invariant in
    record { step = all.step; has = all.has; rose = all.rose; same = all.same; held = all.held }
