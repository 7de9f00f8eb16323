-- A member more, or the ends of a full set and the number.
use Rattle.std.proofs.Common.{◌≡◌, ◌∙◌, ◌⊎◌, ◌-◌, ℤ, List, length, get_or, Option, Some, None, sym, ap₂, subst}
use Rattle.std.specs.Int.{int_max, int_min}
use Rattle.std.specs.List.{Contains}
use Rattle.cc_explicit.specs.Sets.{most_members}
use Rattle.cc_explicit.specs.declared.explicit.Explicit.{Explicit}
use Rattle.cc_explicit.proofs.Reach.{reach_same}
use Rattle.cc_sets.specs.declared.gathered.Spread.{Spread}
use Rattle.cc_sets.specs.declared.gathered.Gathered.{Gathered}
use Rattle.cc_sets.specs.Gatherings.{Adds}
use Rattle.cc_sets.proofs.Gathering as more
use Rattle.cc_sets.proofs.gathered.Gathered.add_member.Goals as goal

abbrev Inserted : Explicit → List ℤ → ℤ → Type 0
Inserted m old v = (w : ℤ) → (Contains m.items.items w → (w ≡ v) ⊎ Contains old w) × ((w ≡ v) ⊎ Contains old w → Contains m.items.items w)

one_more : (old : Gathered) (m : Explicit) (u v : ℤ) → old.spread ≡ None → u ≡ v → Inserted m old.members.items.items u → Adds old (more.gathered m old.spread) (λ w. v ≡ w)
one_more old m u v e f h =
    subst (λ (o : Option Spread). Adds (more.gathered old.members o) (more.gathered m o) (λ w. v ≡ w)) (sym e)
    (more.member_more old.members m v (subst (λ (x : ℤ). Inserted m old.members.items.items x) f h))

too_many : (old : Gathered) (m : Explicit) (s : Spread) (u v : ℤ) → old.spread ≡ None → u ≡ v → m.items.items ≡ old.members.items.items → length old.members.items.items ≡ most_members → (Contains old.members.items.items u → ⊥)
    → s.low ≡ int_min (get_or m.items.items 0 u) u → s.high ≡ int_max (get_or m.items.items (most_members - 1) u) u → Adds old (more.gathered m (Some s)) (λ w. v ≡ w)
too_many old m s u v e f stays l absent g h =
    subst (λ (o : Option Spread). Adds (more.gathered old.members o) (more.gathered m (Some s)) (λ w. v ≡ w)) (sym e)
    (more.full_more old.members m s v u l (λ k. absent (subst (Contains old.members.items.items) (sym f) k))
    (g ∙ ap₂ (λ (xs : List ℤ) (x : ℤ). int_min (get_or xs 0 u) x) stays f) (h ∙ ap₂ (λ (xs : List ℤ) (x : ℤ). int_max (get_or xs (most_members - 1) u) x) stays f))

pub returns-then-not-insert : goal.returns-then-not-insert
returns-then-not-insert c =
    let f = c.if-not-insert.true in
    too_many c.args.self.now c.insert.new.self c.overflow.result _ c.args.v c.requires.few (reach_same c.args.v c.requires.reach)
    (c.insert.ensures.stays f) (c.insert.ensures.full f) (c.insert.ensures.absent f) c.overflow.ensures.low c.overflow.ensures.high

pub returns-else-not-insert : goal.returns-else-not-insert
returns-else-not-insert c = one_more c.args.self.now c.insert.new.self _ c.args.v c.requires.few (reach_same c.args.v c.requires.reach) (c.insert.ensures.inserted c.if-not-insert.false)
