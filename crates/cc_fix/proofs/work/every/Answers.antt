use Rattle.std.proofs.Common.{arith, ℕ, subst}
use Rattle.cc_fix.proofs.Steps.{from_none, one_lower, from_all}
use Rattle.cc_fix.proofs.work.every.Goals as goal
use Rattle.cc_fix.specs.Work.{listed, AreAll}

pub loop-number-init : goal.loop-number-init
loop-number-init g c = from_none c.count-count.result c.in_ok-work.work.pending.items (listed c.in_ok-work.work) c.in_ok-work.ensures.pending c.in_ok-work.ensures.listed

pub loop-number-preserved : goal.loop-number-preserved
loop-number-preserved g c =
    one_lower c.loop-number.number c.count-count.result c.loop-number.work.pending.items c.put.new.work.pending.items (listed c.loop-number.work) (listed c.put.new.work) c.loop-number-test.true c.loop-number.auto.number
    c.loop-number.invariant c.in_ok-put.ensures

pub returns : goal.returns
returns g c =
    subst (λ (n : ℕ). AreAll n c.loop-number.work.pending.items (listed c.loop-number.work)) c.count-count.ensures
    (from_all c.loop-number.number c.count-count.result c.loop-number.work.pending.items (listed c.loop-number.work) (omega (arith, c.loop-number-test.false)) c.loop-number.invariant)
