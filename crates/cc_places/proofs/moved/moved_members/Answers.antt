-- Each member adds the addresses to which it is moved.
use Rattle.std.proofs.Common.{arith}
use Rattle.cc_places.proofs.Moving.{one_moved}
use Rattle.cc_places.proofs.moved.moved_members.Goals as goal

pub loop-member-preserved : goal.loop-member-preserved
loop-member-preserved g c =
    one_moved (g.I.Concrete.Has c.args.by.now) c.loop-member.all c.in_ok-all.all c.args.members.now c.loop-member.member-index c.member-item.result
    (omega (arith, c.loop-member-test.true)) c.member-item.is c.loop-member.invariant c.in_ok-all.ensures
