-- What has the members of a set, or its range, is what the set is below.
use Rattle.std.proofs.Common.{◌≡◌, ◌↔◌, ℤ, ◌≤ℤ◌, List, Some, None, sym, subst}
use Rattle.std.specs.List.{Contains}
use Rattle.cc_explicit.specs.declared.explicit.Explicit.{Explicit}
use Rattle.cc_sets.specs.declared.range.Range.{Range}
use Rattle.cc_sets.specs.declared.gathered.Spread.{Spread}
use Rattle.cc_sets.specs.declared.vals.Vals.{Vals}
use Rattle.cc_sets.specs.declared.vals.Vals.TheVariants.{Few, Many}
use Rattle.cc_sets.specs.Rungs.{ValsBelow, low_of, high_of}
use Rattle.cc_sets.specs.Gatherings.{Holds}
use Rattle.cc_sets.proofs.Gathering.{gathered}
use Rattle.cc_sets.proofs.gathered.Gathered.of.Goals as goal

few_held : (set : Vals) (s t : Explicit) → set ≡ Few s → t.items.items ≡ s.items.items → (x : Vals) → Holds x (gathered t None) ↔ ValsBelow set x
few_held set s t e f x =
    subst (λ (y : Vals). Holds x (gathered t None) ↔ ValsBelow y x) (sym e)
    ((λ h v k. h v (subst (λ (xs : List ℤ). Contains xs v) (sym f) k)), (λ h v k. h v (subst (λ (xs : List ℤ). Contains xs v) f k)))

many_held : (set : Vals) (m : Explicit) (s : Spread) (r : Range) → set ≡ Many r → s.low ≡ low_of r → s.high ≡ high_of r → (x : Vals) → Holds x (gathered m (Some s)) ↔ ValsBelow set x
many_held set m s r e f g x =
    subst (λ (y : Vals). Holds x (gathered m (Some s)) ↔ ValsBelow y x) (sym e) (
      (λ h v k. h v (subst (λ (a : ℤ). a ≤ℤ v) (sym f) k.0, subst (λ (a : ℤ). v ≤ℤ a) (sym g) k.1)),
      (λ h v k. h v (subst (λ (a : ℤ). a ≤ℤ v) f k.0, subst (λ (a : ℤ). v ≤ℤ a) g k.1)),
    )

pub returns-in-Few : goal.returns-in-Few
returns-in-Few c = few_held c.args.set.now c.in-Few.few c.copy.result c.in-Few.is c.copy.ensures

pub returns-in-Many : goal.returns-in-Many
returns-in-Many c = many_held c.args.set.now c.none.result c.spread_of.result c.in-Many.range c.in-Many.is c.spread_of.ensures.low c.spread_of.ensures.high
