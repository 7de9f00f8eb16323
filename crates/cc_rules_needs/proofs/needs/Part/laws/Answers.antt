-- Each law is a lemma of its own.
use Rattle.cc_places.specs.laws.AbstractLaws.{abs_itself, abs_through}
use Rattle.cc_rules_needs.proofs.ByParts.{slots_below, parts_below, raised_by_parts, raised_by_slots}
use Rattle.cc_rules_needs.proofs.AtPoint.{point_has, has_below, not_reached}
use Rattle.cc_rules_needs.proofs.Through.{facts_itself, facts_through, has_more}
use Rattle.cc_rules_needs.proofs.PutLaws.{is_put_above, is_put_has, is_put_least}
use Rattle.cc_rules_needs.proofs.RaisedPoints.{raised_above, raised_has, raised_least}
use Rattle.cc_rules_needs.proofs.needs.Part.laws.Goals as goal

pub returns : goal.returns
returns g c =
    let below = g.I.Lattice.IsBelow in
    let self = abs_itself g.I.Lattice.AreAlike below g.met.I.Lattice.below_itself g.met.I.IntDomain.all_alike in
    let through = abs_through g.I.Lattice.AreAlike below g.met.I.Lattice.below_through g.met.I.IntDomain.all_alike in
    record {
      itself = facts_itself below self through;
      through = facts_through below self through;
      has_more = has_more below self through;
      put_above = is_put_above below self through;
      put_has = is_put_has below self through;
      put_least = is_put_least below self through;
      point_has = λ facts k registers cells flow fact e h. point_has below facts k flow fact e registers cells h;
      point_needs = λ facts k registers cells flow fact e a b alike h. has_below below facts k flow fact e registers cells a b alike h;
      unreached = λ facts k registers cells flow e flag h. not_reached below facts k registers cells flow e flag h;
      raised_above = λ f g k flow l r. raised_above below self through f g k flow l r;
      raised_has = λ f g k flow l r. raised_has below self through f g k flow l r;
      raised_least = λ f g h k flow l r b has. raised_least below self through f g k flow l r h b has;
      slots = slots_below below self through;
      parts = parts_below below self through;
      least = λ needs f g a u v. (raised_by_parts below self through _ _ f g a u v (λ h k. k), raised_by_slots below self through _ _ f g a u v (λ h k. k));
    }
