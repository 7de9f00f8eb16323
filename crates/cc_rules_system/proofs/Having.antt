-- Who has what the constraint with a number asks of facts: other facts, greater ones that meet it, and the facts themselves.
use Rattle.std.proofs.Common.{◌≡◌, ◌↔◌, ℕ, Bool, true, false, true≢false, not, ◌∷◌, ◌++◌, Option, Some, None, is_some, IsTrue, refl, sym, subst}
use Rattle.cc_program.specs.declared.program.Program.{Program}
use Rattle.cc_rules_asked.specs.CcRules.Rules.{IsAsked, Asks}
use Rattle.cc_rules_grow.proofs.Elements.{each_all, each_split}
use Rattle.cc_rules_lacking.specs.First.{LacksFirst}
use Rattle.cc_rules_asked.specs.CcRulesNeeds.declared.needs.Part.{Part}
use Rattle.cc_rules_asked.specs.CcRulesNeeds.declared.needs.Slot.{Slot}
use Rattle.cc_rules_asked.specs.CcRulesNeeds.Needs.{Needs, Has, HasAll}
use Rattle.cc_rules_system.proofs.AskedLemmas.{IsAskedAt, asks, asks_of}
use Rattle.cc_rules_system.specs.System.{AsksAt}
use Rattle.cc_rules_asked.specs.CcStateFacts.declared.facts.Facts.{Facts}
use Rattle.cc_rules_asked.specs.CcStateOperators.Domains.{Domain}

module _ {I : Type 0} (d : Domain I) (p : Program) (i : ℕ) (f : Facts I) (ns : Needs I) (a : IsAskedAt d p i f ns) where
  -- what is asked is determined: so others that have it have these needs
  pub asked_had : ((ns ms : Needs I) → IsAsked d p f a.constraint ns → IsAsked d p f a.constraint ms → (h : Facts I) → HasAll d.below ms h → HasAll d.below ns h) → (h : Facts I) → AsksAt d p i f h → HasAll d.below ns h
  asked_had determined h had = let (ms, asked, has) = asks_of d p i f f h ns a had in determined ns ms a.asked asked h has

  -- and it grows
  pub met_had : (k : Facts I) → ((ns : Needs I) → IsAsked d p f a.constraint ns → Asks d p a.constraint k k → HasAll d.below ns k) → AsksAt d p i k k → HasAll d.below ns k
  met_had k grows met = grows ns a.asked (asks_of d p i f k k ns a met)

  -- the facts meet the constraint where they lack nothing of it
  first_had : (need : Slot × Part I) (front back : Needs I) → ns ≡ front ++ need ∷ back → HasAll d.below ns f → Has d.below f need
  first_had need front back e has = (each_split (Has d.below f) front (need ∷ back) (each_all (Has d.below f) (front ++ need ∷ back) (subst (λ (ms : Needs I). HasAll d.below ms f) e has))).1.0

  pub met_where : ((ns ms : Needs I) → IsAsked d p f a.constraint ns → IsAsked d p f a.constraint ms → (h : Facts I) → HasAll d.below ms h → HasAll d.below ns h) → (lacking : Option (Slot × Part I)) (yes : Bool) → is_some lacking ≡ not yes →
      LacksFirst d.below ns f lacking → IsTrue yes ↔ AsksAt d p i f f
  met_where determined None true e has = ((λ t. asks d p i f f ns a has), (λ met. refl))
  met_where determined None false e has = absurd (true≢false (sym e))
  met_where determined (Some need) true e first = absurd (true≢false e)
  met_where determined (Some need) false e first = ((λ t. absurd (true≢false (sym t))), (λ met. absurd (first.lacks (first_had need first.front first.back first.is (asked_had determined f met)))))
