-- The members of a set, or all of its range.
use Rattle.std.proofs.Common.{◌≡◌, ℤ, List, Some, refl, sym, subst}
use Rattle.std.specs.List.{Contains}
use Rattle.cc_explicit.specs.declared.explicit.Explicit.{Explicit}
use Rattle.cc_sets.specs.declared.range.Range.{Range}
use Rattle.cc_sets.specs.declared.gathered.Gathered.{Gathered}
use Rattle.cc_sets.specs.declared.vals.Vals.{Vals}
use Rattle.cc_sets.specs.declared.vals.Vals.TheVariants.{Few, Many}
use Rattle.cc_sets.specs.Rungs.{low_of, high_of, ValsHas}
use Rattle.cc_sets.specs.Gatherings.{Adds}
use Rattle.cc_sets.proofs.Adding.{adds_same}
use Rattle.cc_ranges.specs.Ends.{EndsHave}
use Rattle.cc_sets.proofs.gathered.Gathered.add_all.Goals as goal

few_all : (a b : Gathered) (set : Vals) (s : Explicit) (xs : List ℤ) → set ≡ Few s → xs ≡ s.items.items → Adds a b (λ w. (v : ℤ) × Contains xs v × (v ≡ w)) → Adds a b (ValsHas set)
few_all a b set s xs e f p =
    subst (λ (x : Vals). Adds a b (ValsHas x)) (sym e)
    (adds_same a b (λ w. (v : ℤ) × Contains s.items.items v × (v ≡ w)) (ValsHas (Few s)) (subst (λ (ys : List ℤ). Adds a b (λ w. (v : ℤ) × Contains ys v × (v ≡ w))) f p)
    (λ w h. subst (Contains s.items.items) h.2 h.1) (λ w h. (w, h, refl)))

many_all : (a b : Gathered) (set : Vals) (r : Range) (low high : ℤ) → set ≡ Many r → low ≡ low_of r → high ≡ high_of r → Adds a b (EndsHave (Some (low, high))) → Adds a b (ValsHas set)
many_all a b set r low high e f g p =
    subst (λ (x : Vals). Adds a b (ValsHas x)) (sym e)
    (subst (λ (x : ℤ). Adds a b (EndsHave (Some (x, high_of r)))) f (subst (λ (x : ℤ). Adds a b (EndsHave (Some (low, x)))) g p))

pub returns-in-Few : goal.returns-in-Few
returns-in-Few c = few_all c.args.self.now c.add_list.new.self c.args.set.now c.in-Few.few c.members.result.now c.in-Few.is c.members.ensures c.add_list.ensures

pub returns-in-Many : goal.returns-in-Many
returns-in-Many c = many_all c.args.self.now c.add_spread.new.self c.args.set.now c.in-Many.range c.spread_of.result.low c.spread_of.result.high c.in-Many.is c.spread_of.ensures.low c.spread_of.ensures.high c.add_spread.ensures
