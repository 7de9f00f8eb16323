-- A result that is there is added.
use Rattle.std.proofs.Common.{◌≡◌, ◌∙◌, ℤ, Option, Some, sym, ap, subst}
use Rattle.std.specs.Option.{IfSome}
use Rattle.cc_lattice.specs.Domains.{IsInReach}
use Rattle.cc_explicit.proofs.Reach.{reach_same}
use Rattle.cc_sets.specs.declared.gathered.Gathered.{Gathered}
use Rattle.cc_sets.specs.Gatherings.{Adds}
use Rattle.cc_sets.proofs.Adding.{adds_same}
use Rattle.cc_sets.proofs.gathered.Gathered.add_result.Goals as goal

some_is : (old new : Gathered) (found : Option ℤ) (u z : ℤ) → found ≡ Some z → u ≡ z → Adds old new (λ w. u ≡ w) → Adds old new (λ w. found ≡ Some w)
some_is old new found u z e f p = adds_same old new (λ w. u ≡ w) (λ w. found ≡ Some w) p
    (λ w g. e ∙ ap Some (sym f ∙ g))
    (λ w g. let h : Some z ≡ Some w = sym e ∙ g in f ∙ (cc))

reached : (found : Option ℤ) (z : ℤ) → found ≡ Some z → IfSome found IsInReach → IsInReach z
reached found z e h = subst (λ (o : Option ℤ). IfSome o IsInReach) e h

pub returns-in-Some : goal.returns-in-Some
returns-in-Some c = some_is c.args.self.now c.add.new.self c.args.found _ c.in-Some.z c.in-Some.is (reach_same c.in-Some.z (reached c.args.found c.in-Some.z c.in-Some.is c.requires)) c.add.ensures
