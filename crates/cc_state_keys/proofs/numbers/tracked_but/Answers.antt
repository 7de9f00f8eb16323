use Rattle.std.proofs.Common.{arith, ℕ, ◌≡◌, ◌&&◌, nat_lt, List, length, take, take_all, ap, ◌∙◌}
use Rattle.cc_program.specs.declared.object.Object.{Object}
use Rattle.cc_state_keys.specs.Lists.{made_from}
use Rattle.cc_state_keys.specs.Tracked.{most_tracked, may_be_tracked}
use Rattle.cc_state_keys.proofs.Grown.{made_capped}
use Rattle.cc_state_keys.proofs.numbers.tracked_but.Goals as goal

pub loop-i-preserved : goal.loop-i-preserved
loop-i-preserved c =
    let e : c.is_tracked-passes.result ≡ (nat_lt (length c.loop-i.tracked.items) most_tracked && may_be_tracked c.args.taken.now c.loop-i.i c.object-item.result) = cc in
    made_capped (may_be_tracked c.args.taken.now) (λ (n : ℕ). n) most_tracked c.loop-i.tracked.items c.put_if.new.items.items c.all-object-items.result.now c.loop-i.i c.object-item.result c.is_tracked-passes.result
    c.loop-i.invariant c.in_ok-put_if.ensures e c.loop-i-test.true c.object-item.is

pub returns : goal.returns
returns c =
    c.loop-i.invariant
    ∙ ap (λ (xs : List Object). take most_tracked (made_from (may_be_tracked c.args.taken.now) (λ (n : ℕ). n) 0 xs)) (take_all c.loop-i.i c.all-object-items.result.now (omega (arith, c.loop-i-test.false)) ∙ c.all-object-items.ensures)
