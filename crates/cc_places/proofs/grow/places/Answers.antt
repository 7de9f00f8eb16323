-- The places so far are those of the members so far; at the end these are all.
use Rattle.std.proofs.Common.{subst, arith}
use Rattle.cc_places.specs.Sets.{AreStarred}
use Rattle.cc_places.specs.laws.ListLaws.{all_taken}
use Rattle.cc_places.proofs.Growing.{stars_on}
use Rattle.cc_places.proofs.grow.places.Goals as goal

pub loop-member-preserved : goal.loop-member-preserved
loop-member-preserved c =
    stars_on c.args.members.now c.loop-member.member-index c.member-item.result c.in_ok-place.place c.loop-member.places.items c.in_ok-places.places.items
    (omega (arith, c.loop-member-test.true)) c.member-item.is c.in_ok-place.ensures c.in_ok-places.ensures c.loop-member.invariant

pub returns-clause-all : goal.returns-clause-all
returns-clause-all c =
    subst (λ l. AreStarred l c.loop-member.places.items) (all_taken c.args.members.now c.loop-member.member-index (omega (arith, c.loop-member-test.false))) c.loop-member.invariant.1
