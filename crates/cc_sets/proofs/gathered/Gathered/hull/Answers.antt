-- The least range that has the ends.
use Rattle.std.proofs.Common.{◌≡◌, Option, Some, sym, subst}
use Rattle.cc_sets.specs.declared.range.Range.{Range}
use Rattle.cc_sets.specs.declared.gathered.Spread.{Spread}
use Rattle.cc_sets.specs.declared.gathered.Gathered.{Gathered}
use Rattle.cc_sets.specs.declared.vals.Vals.{Vals}
use Rattle.cc_sets.specs.declared.vals.Vals.TheVariants.{Many}
use Rattle.cc_sets.specs.Rungs.{ValsBelow}
use Rattle.cc_sets.specs.Gatherings.{Holds}
use Rattle.cc_sets.specs.Ranges.{AreLeastBits}
use Rattle.cc_sets.proofs.Gathering as more
use Rattle.cc_sets.proofs.gathered.Gathered.hull.Goals as goal

least_of : (g : Gathered) (s : Spread) (r : Range) → g.spread ≡ Some s → AreLeastBits s.low s.high r.signed r.bits → (x : Vals) → Holds x g → ValsBelow (Many r) x
least_of g s r e p = subst (λ (o : Option Spread). (x : Vals) → Holds x (more.gathered g.members o) → ValsBelow (Many r) x) (sym e) (more.range_least g.members s r p)

holds : (g : Gathered) (s : Spread) (r : Range) → g.spread ≡ Some s → AreLeastBits s.low s.high r.signed r.bits → Holds (Many r) g
holds g s r e p = subst (λ (o : Option Spread). Holds (Many r) (more.gathered g.members o)) (sym e) (more.range_holds g.members s r p)

pub returns-in-Some-clause-least : goal.returns-in-Some-clause-least
returns-in-Some-clause-least c = least_of c.args.self c.in-Some.spread c.range.result c.in-Some.is c.range.ensures

pub returns-in-Some-clause-covers : goal.returns-in-Some-clause-covers
returns-in-Some-clause-covers c = holds c.args.self c.in-Some.spread c.range.result c.in-Some.is c.range.ensures
