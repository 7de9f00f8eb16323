-- What the constraint with a number asks of facts, once it was worked, and who has it.
use Rattle.std.proofs.Common.{◌≡◌, ◌<◌, ℕ, length, Some, slice_get, sym, subst, ◌∙◌}
use Rattle.std.proofs.lemmas.Option.{same_Some, slice_get-get_or}
use Rattle.std.specs.Prelude.{get_or}
use Rattle.cc_program.specs.declared.program.Program.{Program}
use Rattle.cc_rules_asked.specs.CcRules.Constraints.{Initial, Constraint, at_point, constraints}
use Rattle.cc_rules_asked.specs.CcRules.Rules.{IsAsked, Asks}
use Rattle.cc_rules_grow.specs.Grown.{IsWorked}
use Rattle.cc_rules_asked.specs.CcRulesNeeds.Needs.{Needs, HasAll}
use Rattle.cc_rules_system.specs.System.{AsksAt}
use Rattle.cc_rules_asked.specs.CcStateFacts.declared.facts.Facts.{Facts}
use Rattle.cc_rules_asked.specs.CcStateOperators.Domains.{Domain}

module _ {I : Type 0} (d : Domain I) (p : Program) where
  pub record IsAskedAt (i : ℕ) (f : Facts I) (ns : Needs I) : Type 0 where
    pub constraint : Constraint
    pub here : slice_get (constraints p) i ≡ Some constraint
    pub asked : IsAsked d p f constraint ns
    pub worked : IsWorked d p f constraint

  pub asked_at : (i : ℕ) (f : Facts I) (ns : Needs I) → i < length (constraints p) → ((c : Constraint) → slice_get (constraints p) i ≡ Some c → IsAsked d p f c ns) →
      ((c : Constraint) → slice_get (constraints p) i ≡ Some c → IsWorked d p f c) → IsAskedAt i f ns
  asked_at i f ns few asked worked =
      let c = get_or (constraints p) i (at_point 0 Initial) in
      let here : slice_get (constraints p) i ≡ Some c = slice_get-get_or (constraints p) i (at_point 0 Initial) few in
      record { constraint = c; here = here; asked = asked c here; worked = worked c here }

  -- what has them has what is asked
  pub asks : (i : ℕ) (f h : Facts I) (ns : Needs I) → IsAskedAt i f ns → HasAll d.below ns h → AsksAt d p i f h
  asks i f h ns a has = (a.constraint, a.here, (ns, a.asked, has))

  -- what is asked there of facts, and had by others
  pub asks_of : (i : ℕ) (f g h : Facts I) (ns : Needs I) → (a : IsAskedAt i f ns) → AsksAt d p i g h → Asks d p a.constraint g h
  asks_of i f g h ns a (c, here, has) = subst (λ (c : Constraint). Asks d p c g h) (same_Some c a.constraint (sym here ∙ a.here)) has
