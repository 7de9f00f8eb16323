-- The set has the addresses of the first one and of the members so far; at the end these are all.
use Rattle.std.proofs.Common.{◌⊎◌, List, ◌∙◌, subst, arith}
use Rattle.std.specs.List.{Contains}
use Rattle.cc_program.specs.declared.value.Address.{Address}
use Rattle.cc_places.specs.Sets.{HasAddress, IsSetOf}
use Rattle.cc_places.specs.laws.ListLaws.{none_in, all_taken}
use Rattle.cc_places.specs.laws.SetLaws.{set_of_members}
use Rattle.cc_places.proofs.Growing.{set_no_more, one_joined}
use Rattle.cc_places.proofs.grow.union.Goals as goal

pub loop-member-init : goal.loop-member-init
loop-member-init c = rw c.in_ok-all.ensures (set_no_more _ c.args.first.now (λ a h. none_in a h))

pub loop-member-preserved : goal.loop-member-preserved
loop-member-preserved c =
    one_joined c.args.first.now c.loop-member.all c.in_ok-all-2.all c.all-members.result.now c.loop-member.member-index c.member-item.result
    (omega (arith, c.loop-member-test.true)) c.member-item.is c.loop-member.invariant c.in_ok-all-2.ensures

pub returns : goal.returns
returns c =
    set_of_members c.args.first.now c.args.second.now c.loop-member.all c.requires
    (subst (λ (l : List Address). IsSetOf (λ b. HasAddress c.args.first.now b ⊎ Contains l b) c.loop-member.all)
    (all_taken c.all-members.result.now c.loop-member.member-index (omega (arith, c.loop-member-test.false)) ∙ c.all-members.ensures) c.loop-member.invariant)
