-- Things that a constraint does not raise stay.
use Rattle.std.proofs.Common.{◌≡◌, inl, inr, [], ◌∷◌, sym, subst}
use Rattle.cc_rules_grow.specs.CcLattice.Systems.{IsRaised}
use Rattle.cc_rules_grow.specs.CcPlaces.declared.abs.Abs.{Abs}
use Rattle.cc_rules_grow.specs.CcPlaces.Abstract.{IsBelowAbs}
use Rattle.cc_program.specs.declared.program.Program.{Program}
use Rattle.cc_rules_grow.specs.CcRules.Constraints.{Constraint}
use Rattle.cc_rules_grow.specs.CcRules.Rules.{Asks}
use Rattle.cc_rules_again.proofs.Asking.{asked_raised}
use Rattle.cc_rules_again.proofs.Kept.{kept, kept_above, kept_below, kept_alike, kept_same, kept_shape, either_slot}
use Rattle.cc_rules_again.specs.Things.{Thing, thing_of, Raises, IsSame}
use Rattle.cc_rules_grow.proofs.Elements.{Each, each_all, all_each}
use Rattle.cc_rules_grow.specs.CcRulesNeeds.declared.needs.Part.{Part}
use Rattle.cc_rules_grow.specs.CcRulesNeeds.Needs.{Needs, IsBelowPart, Has}
use Rattle.cc_rules_grow.specs.CcState.Shape.{HaveShape}
use Rattle.cc_rules_grow.specs.CcStateFacts.declared.facts.Facts.{Facts}
use Rattle.cc_rules_grow.specs.CcStateFacts.Orders.{AreAlike, IsBelow}
use Rattle.cc_rules_grow.specs.CcStateOperators.Domains.{Domain}

module _ {I : Type 0} (d : Domain I) (p : Program) (c : Constraint) (t : Thing) (f g : Facts I) (alike : AreAlike f g) where
  -- needs that are of other things are had where the greater facts have them
  had : (Raises p c t → ⊥) → (ns : Needs I) → Each (λ need. Raises p c (thing_of need.0)) ns → Each (Has d.below g) ns → Each (Has d.below (kept t f g)) ns
  had apart [] raised has = tt
  had apart (need ∷ ns) raised has = (one, had apart ns raised.1 has.1)
    where
      one : Has d.below (kept t f g) need
      one = elim (either_slot t f g alike need.0) [
        | inl own ↦ absurd (apart (subst (Raises p c) own.1 raised.0))
        | inr e ↦ subst (λ (part : Part I). IsBelowPart d.below need.1 part) (sym e) has.0
      ]

module _ {I : Type 0} (d : Domain I) (alike_of : I → I → Type 0) (self : (x : Abs I) → IsBelowAbs d.below x x) (both : (x y : Facts I) → AreAlike x y → IsBelow d.below x y → IsBelow d.below y x → x ≡ y) (p : Program) (c : Constraint) where
  pub unraised : (f g : Facts I) → AreAlike f g → HaveShape d p f → HaveShape d p g → IsRaised (HaveShape d p) (IsBelow d.below) (Asks d p c) f g → (t : Thing) → (Raises p c t → ⊥) → IsSame p f g t
  unraised f g alike first second raised t apart =
      let (ns, asked, has) = raised.has in
      let asks : Asks d p c f (kept t f g) = (ns, asked, all_each (Has d.below (kept t f g)) ns (had d p c t f g alike apart ns (asked_raised d p f c ns asked) (each_all (Has d.below g) ns has))) in
      let below : IsBelow d.below g (kept t f g) = raised.least (kept t f g) (kept_shape d p t f g alike first second) (kept_above alike_of d.below self t f g raised.above) asks in
      let same : kept t f g ≡ g = both (kept t f g) g (kept_alike t f g alike) (kept_below alike_of d.below self t f g raised.above) below in
      subst (λ (h : Facts I). IsSame p f h t) same (kept_same p t f g alike)
