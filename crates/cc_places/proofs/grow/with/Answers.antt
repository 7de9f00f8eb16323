-- With one address more the members stay as they were told, or all become places.
use Rattle.std.proofs.Common.{◌<◌, List, length, refl, sym, ◌∙◌, subst}
use Rattle.cc_program.specs.declared.value.Address.{Address}
use Rattle.cc_places.specs.Members.{most_exact}
use Rattle.cc_places.proofs.Growing.{AreGrown, stay_listed, stay_set, become_listed, become_set}
use Rattle.cc_places.proofs.grow.with.Goals as goal

pub invariant_of-result : goal.invariant_of-result
invariant_of-result c =
    let g : AreGrown c.args.set c.args.a.now c.in_ok-member.member c.into_vec.result.items c.in_ok-members.members.items c.as_slice-then-are_too_many.result.now =
    record { is_member = c.in_ok-member.ensures; are_old = c.into_vec.ensures; are_all = c.in_ok-members.ensures; same = c.as_slice-then-are_too_many.ensures.value } in
    let more = subst (λ (l : List Address). most_exact < length l) (c.as_slice.ensures.value ∙ sym c.as_slice-then-are_too_many.ensures.value) (c.are_too_many.ensures.many c.if-are_too_many.true) in
    record {
      listed = become_listed c.args.set c.args.a.now c.in_ok-member.member c.into_vec.result.items c.in_ok-members.members.items c.as_slice-then-are_too_many.result.now c.in_ok-places.places.items c.of.result g
          more c.in_ok-places.ensures.order c.in_ok-places.ensures.all c.of.ensures;
    }

pub returns-then-are_too_many : goal.returns-then-are_too_many
returns-then-are_too_many c =
    let g : AreGrown c.args.set c.args.a.now c.in_ok-member.member c.into_vec.result.items c.in_ok-members.members.items c.as_slice-then-are_too_many.result.now =
    record { is_member = c.in_ok-member.ensures; are_old = c.into_vec.ensures; are_all = c.in_ok-members.ensures; same = c.as_slice-then-are_too_many.ensures.value } in
    let more = subst (λ (l : List Address). most_exact < length l) (c.as_slice.ensures.value ∙ sym c.as_slice-then-are_too_many.ensures.value) (c.are_too_many.ensures.many c.if-are_too_many.true) in
    become_set c.args.set c.args.a.now c.in_ok-member.member c.into_vec.result.items c.in_ok-members.members.items c.as_slice-then-are_too_many.result.now c.in_ok-places.places.items _ g
    (c.are_too_many.ensures.exact c.if-are_too_many.true) more c.in_ok-places.ensures.all refl c.of.ensures

pub invariant_of-result-2 : goal.invariant_of-result-2
invariant_of-result-2 c =
    let g : AreGrown c.args.set c.args.a.now c.in_ok-member.member c.into_vec.result.items c.in_ok-members.members.items c.as_slice.result.now =
    record { is_member = c.in_ok-member.ensures; are_old = c.into_vec.ensures; are_all = c.in_ok-members.ensures; same = c.as_slice.ensures.value } in
    record {
      listed = stay_listed c.args.set c.args.a.now c.in_ok-member.member c.into_vec.result.items c.in_ok-members.members.items c.as_slice.result.now c.of-2.result g
          (c.are_too_many.ensures.few c.if-are_too_many.false) c.of-2.ensures;
    }

pub returns : goal.returns
returns c =
    let g : AreGrown c.args.set c.args.a.now c.in_ok-member.member c.into_vec.result.items c.in_ok-members.members.items c.as_slice.result.now =
    record { is_member = c.in_ok-member.ensures; are_old = c.into_vec.ensures; are_all = c.in_ok-members.ensures; same = c.as_slice.ensures.value } in
    stay_set c.args.set c.args.a.now c.in_ok-member.member c.into_vec.result.items c.in_ok-members.members.items c.as_slice.result.now _ g refl c.of-2.ensures
