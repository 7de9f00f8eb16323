-- The hull of what was added.
use Rattle.std.proofs.Common.{◌≡◌, ℕ, ℤ, pos, ◌+ℤ◌, ◌≤ℤ◌, ◌<ℤ◌, subst}
use Rattle.cc_explicit.proofs.Reach.{reach_same}
use Rattle.cc_sets.specs.declared.gathered.Gathered.{Gathered}
use Rattle.cc_sets.specs.Gatherings.{Adds}
use Rattle.cc_sets.proofs.Adding.{hull_of_added}
use Rattle.cc_sets.proofs.image.hull_of_run.Goals as goal

start_same : (a b : Gathered) (low u : ℤ) (n : ℕ) → u ≡ low → Adds a b (λ z. (u ≤ℤ z) × (z <ℤ (u +ℤ pos n))) → Adds a b (λ z. (low ≤ℤ z) × (z <ℤ (low +ℤ pos n)))
start_same a b low u n e p = subst (λ (x : ℤ). Adds a b (λ z. (x ≤ℤ z) × (z <ℤ (x +ℤ pos n)))) e p

pub returns : goal.returns
returns c = hull_of_added c.nothing-gathered.result c.add_run.new.self (λ z. (c.args.low ≤ℤ z) × (z <ℤ (c.args.low +ℤ pos c.args.count))) c.hull.result c.nothing-gathered.ensures
    (start_same c.nothing-gathered.result c.add_run.new.self c.args.low _ c.args.count (reach_same c.args.low c.requires.reach) c.add_run.ensures) c.hull.ensures.covers c.hull.ensures.least
