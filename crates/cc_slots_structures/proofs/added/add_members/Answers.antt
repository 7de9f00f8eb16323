use Rattle.std.proofs.Common.{◌≤◌, take_all, sym, subst, List}
use Rattle.cc_slots_structures.proofs.ListLemmas.{ForMembers, members_more, no_members}
use Rattle.cc_syntax.specs.Types.{Named}
use Rattle.cc_slots_structures.proofs.added.add_members.Goals as goal

pub add-requires : goal.add-requires
add-requires c = subst (λ n. c.args.first ≤ n) (sym c.loop-member.invariant.count) c.requires

pub loop-member-init : goal.loop-member-init
loop-member-init c = no_members c.args.first c.args.place c.args.list.now

pub loop-member-preserved : goal.loop-member-preserved
loop-member-preserved c =
    members_more c.args.first c.args.place c.args.members.now c.loop-member.member-index c.member-item.result c.args.list.now c.loop-member.list c.add.new.list c.loop-member-test.true c.member-item.is
    c.loop-member.invariant c.add.ensures

pub returns : goal.returns
returns c =
    subst (λ (l : List Named). ForMembers c.args.first c.args.place l c.args.list.now c.loop-member.list) (take_all c.loop-member.member-index c.args.members.now c.loop-member-test.false) c.loop-member.invariant
