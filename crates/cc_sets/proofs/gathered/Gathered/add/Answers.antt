-- A number is added to the ends, or to the members.
use Rattle.std.proofs.Common.{◌≡◌, ◌∙◌, ℤ, Option, Some, sym, ap, subst}
use Rattle.std.specs.Int.{int_max, int_min}
use Rattle.cc_explicit.specs.declared.explicit.Explicit.{Explicit}
use Rattle.cc_explicit.proofs.Reach.{reach_same}
use Rattle.cc_sets.specs.declared.gathered.Spread.{Spread}
use Rattle.cc_sets.specs.declared.gathered.Gathered.{Gathered}
use Rattle.cc_sets.specs.Gatherings.{Adds}
use Rattle.cc_sets.proofs.Gathering as more
use Rattle.cc_sets.proofs.gathered.Gathered.add.Goals as goal

to_spread : (old : Gathered) (m : Explicit) (s s' : Spread) (u v : ℤ) → old.spread ≡ Some s → u ≡ v → s'.low ≡ int_min s.low u → s'.high ≡ int_max s.high u → Adds old (more.gathered m (Some s')) (λ w. v ≡ w)
to_spread old m s s' u v e f g h =
    subst (λ (o : Option Spread). Adds (more.gathered old.members o) (more.gathered m (Some s')) (λ w. v ≡ w)) (sym e)
    (more.spread_more old.members m s s' v (g ∙ ap (int_min s.low) f) (h ∙ ap (int_max s.high) f))

to_members : (old new : Gathered) (u v : ℤ) → u ≡ v → Adds old new (λ w. u ≡ w) → Adds old new (λ w. v ≡ w)
to_members old new u v f p = subst (λ (x : ℤ). Adds old new (λ w. x ≡ w)) f p

pub returns-in-Some : goal.returns-in-Some
returns-in-Some c = to_spread c.args.self.now c.args.self.now.members c.in-Some.spread c.with.result _ c.args.v c.in-Some.is (reach_same c.args.v c.requires) c.with.ensures.low c.with.ensures.high

pub returns-in-None : goal.returns-in-None
returns-in-None c = to_members c.args.self.now c.add_member.new.self _ c.args.v (reach_same c.args.v c.requires) c.add_member.ensures
