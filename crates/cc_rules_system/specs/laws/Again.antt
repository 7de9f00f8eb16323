-- What holds of the constraints of a program as a system: those that facts may no longer meet are listed.
use Rattle.std.proofs.Common.{◌≡◌, ◌⊎◌, ◌+◌, ◌*◌, ◌<◌, inl, inr, ℕ, [], ◌∷◌, length, All, Contains, Option, Some, None, slice_get, sym, subst}
use Rattle.cc_rules_asked.proofs.CcFlow.Paths.{all_counted}
use Rattle.cc_rules_asked.specs.CcLattice.Systems.{IsRaised}
use Rattle.cc_rules_asked.specs.CcPlaces.declared.abs.Abs.{Abs}
use Rattle.cc_rules_asked.specs.CcPlaces.Abstract.{IsBelowAbs}
use Rattle.cc_rules_asked.specs.CcPlaces.laws.AbstractLaws.{abs_itself, abs_through}
use Rattle.cc_program.specs.declared.program.Program.{Program}
use Rattle.cc_rules_asked.specs.CcRules.Constraints.{Constraint, constraints}
use Rattle.cc_rules_asked.specs.CcRules.Rules.{Asks}
use Rattle.cc_rules_again.proofs.Alike.{same_for}
use Rattle.cc_rules_again.proofs.Asking.{asked_raised}
use Rattle.cc_rules_again.proofs.Counting.{IsCounted, again_counted}
use Rattle.cc_rules_again.proofs.Kept.{kept, kept_above, kept_below, kept_alike, kept_same, kept_shape, either_slot}
use Rattle.cc_rules_again.proofs.Listing.{listed}
use Rattle.cc_rules_again.proofs.Lists.{contained}
use Rattle.cc_rules_again.specs.Again.{number_of, again_of}
use Rattle.cc_rules_again.specs.Things.{Thing, thing_of, Raises, IsSame}
use Rattle.cc_rules_grow.proofs.Elements.{Each, each_all, all_each}
use Rattle.cc_rules_asked.proofs.CcRulesNeeds.ByParts.{slots_below}
use Rattle.cc_rules_asked.proofs.CcRulesNeeds.Through.{has_more}
use Rattle.cc_rules_numbered.proofs.Places.{length-constraints}
use Rattle.cc_rules_reads.proofs.Asked.{asked_same}
use Rattle.cc_rules_system.specs.laws.Kept.{kept_held}
use Rattle.cc_rules_system.specs.laws.Numbers.{numbered, numbered_there}
use Rattle.cc_rules_system.specs.System.{Fits, AsksAt, again_at}
use Rattle.cc_rules_asked.specs.CcStateFacts.declared.facts.Facts.{Facts}
use Rattle.cc_rules_asked.specs.CcStateFacts.laws.OrderLaws.{facts_same}
use Rattle.cc_rules_asked.specs.CcStateFacts.Orders.{AreAlike, IsBelow}
use Rattle.cc_rules_asked.specs.CcStateOperators.Domains.{Domain}
use Rattle.cc_state_shape.proofs.Alike.{facts_alike}
use Rattle.cc_rules_asked.specs.CcRulesNeeds.declared.needs.Part.{Part}
use Rattle.cc_rules_asked.specs.CcRulesNeeds.Needs.{Needs, IsBelowPart, Has}

-- ---- facts that fit are of one kind, and what is listed are numbers of constraints

pub fitting : {I : Type 0} (d : Domain I) (p : Program) (f g : Facts I) → Fits d p f → Fits d p g → AreAlike f g
fitting d p f g first second = facts_alike d p f g first.0 second.0

pub counts : {I : Type 0} (p : Program) (i : ℕ) (f : Facts I) → All (λ j. j < length (constraints p)) (again_at p f (slice_get (constraints p) i))
counts {I} p i f = by (slice_get (constraints p) i)
  where
    by : (c : Option Constraint) → All (λ j. j < length (constraints p)) (again_at p f c)
    by None = all_each (λ j. j < length (constraints p)) [] tt
    by (Some c) = subst (λ (n : ℕ). All (λ j. j < n) (again_of p f c)) (sym (length-constraints p)) (subst (λ (n : ℕ). All (λ j. j < 1 + n * 9) (again_of p f c)) (all_counted p) (all_each (IsCounted p) (again_of p f c) (again_counted p f c)))

-- ---- things that a constraint does not raise stay

-- needs that are of other things are had where the greater facts have them
had : {I : Type 0} (d : Domain I) (p : Program) (c : Constraint) (t : Thing) (f g : Facts I) → AreAlike f g → (Raises p c t → ⊥) → (ns : Needs I) → Each (λ need. Raises p c (thing_of need.0)) ns → Each (Has d.below g) ns → Each (Has d.below (kept t f g)) ns
had d p c t f g alike apart [] raised has = tt
had {I} d p c t f g alike apart (need ∷ ns) raised has = (one, had d p c t f g alike apart ns raised.1 has.1)
  where
    one : Has d.below (kept t f g) need
    one = elim (either_slot t f g alike need.0) [
      | inl own ↦ absurd (apart (subst (Raises p c) own.1 raised.0))
      | inr e ↦ subst (λ (part : Part I). IsBelowPart d.below need.1 part) (sym e) has.0
    ]

module _ {I : Type 0} (d : Domain I) (alike : I → I → Type 0) (itself : (a : I) → alike a a → d.below a a) (through : (a b c : I) → alike a b → alike b c → alike a c → d.below a b → d.below b c → d.below a c)
    (both_ways : (a b : I) → alike a b → d.below a b → d.below b a → a ≡ b) (all_alike : (a b : I) → alike a b) (p : Program) where
  self : (x : Abs I) → IsBelowAbs d.below x x
  self = abs_itself alike d.below itself all_alike

  stays : (c : Constraint) (f g : Facts I) → Fits d p f → Fits d p g → IsRaised (Fits d p) (IsBelow d.below) (Asks d p c) f g → (t : Thing) → (Raises p c t → ⊥) → IsSame p f g t
  stays c f g first second raised t apart =
      let kind = facts_alike d p f g first.0 second.0 in
      let (ns, asked, has) = raised.has in
      let asks : Asks d p c f (kept t f g) = (ns, asked, all_each (Has d.below (kept t f g)) ns (had d p c t f g kind apart ns (asked_raised d p f c ns asked) (each_all (Has d.below g) ns has))) in
      let fits : Fits d p (kept t f g) = (kept_shape d p t f g kind first.0 second.0, kept_held t f g first.1 second.1) in
      let below : IsBelow d.below g (kept t f g) = raised.least (kept t f g) fits (kept_above alike d.below self t f g raised.above) asks in
      let same : kept t f g ≡ g = facts_same alike d.below both_ways all_alike (kept t f g) g (kept_alike t f g kind) (kept_below alike d.below self t f g raised.above) below in
      subst (λ (h : Facts I). IsSame p f h t) same (kept_same p t f g kind)

  -- so a constraint that was met is met, or is listed
  met_or_listed : (c e : Constraint) (f g : Facts I) → Fits d p f → Fits d p g → Contains (constraints p) e → IsRaised (Fits d p) (IsBelow d.below) (Asks d p c) f g → Asks d p e f f →
      Asks d p e g g ⊎ Contains (again_of p g c) (number_of e)
  met_or_listed c e f g first second there raised met = elim (contained (again_of p g c) (number_of e)) [
    | inl found ↦ inr found
    | inr none ↦
        let kind = facts_alike d p f g first.0 second.0 in
        let same = same_for p f g e kind.whole (λ t reads. stays c f g first second raised t (λ raises. none (listed p g c e t there raises reads))) in
        let (ns, asked, has) = met in
        inl (ns, asked_same d p f g e ns same asked, has_more d.below self (abs_through alike d.below through all_alike) f g ns (slots_below d.below self (abs_through alike d.below through all_alike) f g raised.above) has)
  ]

  -- and so is one that raised them: what it asks is the same then, and is had
  met_itself : (c : Constraint) (f g : Facts I) → Fits d p f → Fits d p g → Contains (constraints p) c → IsRaised (Fits d p) (IsBelow d.below) (Asks d p c) f g → Asks d p c g g ⊎ Contains (again_of p g c) (number_of c)
  met_itself c f g first second there raised = elim (contained (again_of p g c) (number_of c)) [
    | inl found ↦ inr found
    | inr none ↦
        let kind = facts_alike d p f g first.0 second.0 in
        let same = same_for p f g c kind.whole (λ t reads. stays c f g first second raised t (λ raises. none (listed p g c c t there raises reads))) in
        let (ns, asked, has) = raised.has in
        inl (ns, asked_same d p f g c ns same asked, has)
  ]

  pub again_itself : (i : ℕ) (f g : Facts I) → i < length (constraints p) → Fits d p f → Fits d p g → IsRaised (Fits d p) (IsBelow d.below) (AsksAt d p i) f g → AsksAt d p i g g ⊎ Contains (again_at p g (slice_get (constraints p) i)) i
  again_itself i f g few first second raised =
      let (c, here, asks) = raised.has in
      let rises : IsRaised (Fits d p) (IsBelow d.below) (Asks d p c) f g = record {
        above = raised.above;
        has = asks;
        least = λ h fits below has. raised.least h fits below (c, here, has);
      } in
      elim (met_itself c f g first second (numbered_there p i c here) rises) [
        | inl kept ↦ inl (c, here, kept)
        | inr found ↦ inr (subst (λ (o : Option Constraint). Contains (again_at p g o) i) (sym here) (subst (λ (n : ℕ). Contains (again_of p g c) n) (numbered p i c few here) found))
      ]

  pub lists : (i j : ℕ) (f g : Facts I) → i < length (constraints p) → j < length (constraints p) → Fits d p f → Fits d p g → IsRaised (Fits d p) (IsBelow d.below) (AsksAt d p i) f g →
      AsksAt d p j f f → AsksAt d p j g g ⊎ Contains (again_at p g (slice_get (constraints p) i)) j
  lists i j f g few small first second raised met =
      let (c, here, asks) = raised.has in
      let (e, there, had) = met in
      let rises : IsRaised (Fits d p) (IsBelow d.below) (Asks d p c) f g = record {
        above = raised.above;
        has = asks;
        least = λ h fits below has. raised.least h fits below (c, here, has);
      } in
      elim (met_or_listed c e f g first second (numbered_there p j e there) rises had) [
        | inl kept ↦ inl (e, there, kept)
        | inr found ↦ inr (subst (λ (o : Option Constraint). Contains (again_at p g o) j) (sym here) (subst (λ (n : ℕ). Contains (again_of p g c) n) (numbered p j e small there) found))
      ]
