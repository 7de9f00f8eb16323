-- The hull of the members of both.
use Rattle.std.proofs.Common.{◌⊎◌, ◌↔◌, inl, inr, ⊎_elim}
use Rattle.cc_sets.specs.declared.gathered.Gathered.{Gathered}
use Rattle.cc_sets.specs.declared.vals.Vals.{Vals}
use Rattle.cc_sets.specs.Rungs.{ValsHas, ValsBelow, IsHull}
use Rattle.cc_sets.specs.Gatherings.{Holds, Adds}
use Rattle.cc_sets.proofs.make.merged.Goals as goal

hull_of_both : (a b r : Vals) (g h : Gathered) → ((x : Vals) → Holds x g ↔ ValsBelow a x) → Adds g h (ValsHas b) → Holds r h → ((x : Vals) → Holds x h → ValsBelow r x)
    → IsHull (λ v. ValsHas a v ⊎ ValsHas b v) r
hull_of_both a b r g h start added holds least =
    let m = (added r).0 holds in
    record {
      covers = λ v. ⊎_elim (λ k. (start r).0 m.0 v k) (λ k. m.1 v k);
      least = λ x c. least x ((added x).1 ((start x).1 (λ v k. c v (inl k)), (λ v k. c v (inr k))));
    }

pub returns : goal.returns
returns c = hull_of_both c.args.a.now c.args.b.now c.hull.result c.of-gathered.result c.add_all.new.self c.of-gathered.ensures c.add_all.ensures c.hull.ensures.covers c.hull.ensures.least
