-- The laws, by those of the domain.
use Rattle.cc_rules_grow.proofs.Kept.{kept_given}
use Rattle.cc_rules_shaped.proofs.Asked.{asked_fit}
use Rattle.cc_rules_shaped.proofs.Joining.{JoinsTyped}
use Rattle.cc_rules_shaped.proofs.Putting.{may_get, is_put_shaped}
use Rattle.cc_rules_shaped.proofs.Raising.{raised_shaped}
use Rattle.cc_rules_shaped.proofs.Laid.{point_shaped}
use Rattle.cc_rules_shaped.proofs.Rules.{touch_fit, handler_fit, unstable_cells_fit}
use Rattle.cc_rules_shaped.proofs.law.laws.Goals as goal
use Rattle.cc_rules_grow.specs.CcStateOperators.Domains.{domain}
use Rattle.cc_rules_grow.proofs.CcStateValues.Same.{order_of}
use Rattle.cc_state_values_fit.proofs.Sets.{IsTyping}
use Rattle.cc_state_values_fit.proofs.CcStateValuesGrow.Growing.{value_more}
use Rattle.cc_state_values_fit.proofs.CcStateValuesGrow.Images.{order_given}
use Rattle.cc_state_values_fit.proofs.CcStateValuesGrow.Leading.{leads_somewhere}

pub returns : goal.returns
returns g c =
    let l = g.met.I.Lattice in
    let i = g.met.I.IntDomain in
    let d = domain g.I.Concrete.Has g.I.Lattice.IsBelow g.I.IntDomain.OpGives g.I.IntDomain.OpOneGives g.I.IntDomain.ToGives g.I.IntDomain.KeepGives g.I.IntDomain.members_of in
    let joins : JoinsTyped d = record {
      itself = λ x. l.below_itself x (i.all_alike x x);
      by_members = i.members_below;
      grows = i.below_has;
      typed = λ x y j t target left right least. i.join_typed x y j t target (record { left_alike = i.all_alike x j; right_alike = i.all_alike y j; left = left; right = right; least = λ u a b. least u });
    } in
    let typing : IsTyping d = record {
      grows = i.below_has;
      by_members = i.members_below;
      op_typed = λ o a b r t target h k. i.op_typed o a b r t target h k;
      op_one_typed = λ o a r t target h k. i.op_one_typed o a r t target h k;
      to_typed = i.to_typed;
    } in
    let ordered = order_of d g.I.Lattice.AreAlike i.all_alike l.below_itself l.below_both_ways i.op_grows i.op_one_grows i.to_grows i.members_below in
    let order = order_given d g.I.Lattice.AreAlike i.all_alike l.below_through i.below_has in
    let kept =
    kept_given d g.I.Lattice.AreAlike g.I.IntDomain.bounds_of i.all_alike l.below_itself l.below_through i.below_has i.members_below i.keep_has i.keep_below i.keep_grows i.comparison_told i.to_kept i.least_alone i.below_explicit i.members_all i.bounds_none i.bounds_ends in
    record {
      may_get = λ p facts shape slot more own fits. may_get d joins p facts shape slot more own fits;
      put = λ p facts others shape slot more own fits allowed is. is_put_shaped d joins p facts shape slot more others own fits allowed is;
      raised = λ p facts others shape n id f point flow is_point of_flow is. raised_shaped d joins p facts others shape n id f point flow is_point of_flow is;
      laid_out = λ p n id f point fact is_point laid fit. point_shaped d p n id f point fact is_point laid fit;
      touch = λ p facts shape n ns asked. touch_fit d joins p facts shape n ns asked;
      handler = λ p facts shape n ns asked. handler_fit d joins p facts shape n ns asked;
      stability = λ p facts shape n ns asked. unstable_cells_fit d joins p facts shape n ns asked;
      asked = λ p normal wholes facts shape c ns asked. asked_fit d joins typing ordered kept p normal wholes
          (λ id f own register more points below e x y h k. value_more d ordered order p id f register more below (leads_somewhere d p id f register own points) e x y h k) facts shape c ns asked;
    }
