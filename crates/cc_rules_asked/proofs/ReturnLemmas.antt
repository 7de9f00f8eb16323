-- What returns ask.
use Rattle.std.proofs.Common.{◌≡◌, [], ◌∷◌, Some, None, refl, ap, subst}
use Rattle.cc_rules.specs.CcPlaces.declared.abs.Abs.{Abs}
use Rattle.cc_program.specs.declared.expr.Expr.{Expr}
use Rattle.cc_rules.specs.Constraints.{Return}
use Rattle.cc_rules.specs.Rules.{OfReturn, OfNoValue}
use Rattle.cc_rules_asked.specs.declared.asked.Asked.TheVariants as asked
use Rattle.cc_rules_asked.specs.Asks.{AsksHere, returned}
use Rattle.cc_rules_asked.proofs.ValuesHere.{value_here}
use Rattle.cc_rules.specs.CcRulesFlows.declared.after.Here.{Here}
use Rattle.cc_rules.specs.CcRulesFlows.Acts.{Act, Sets, Reads, Writes, Calls, Saves, Turns, Restores, Tests, Chooses, Returns, Passes}
use Rattle.cc_rules.specs.CcRulesFlows.Here.{IsHere}
use Rattle.cc_rules.specs.CcRulesNeeds.declared.needs.Part.TheVariants.{Values}
use Rattle.cc_rules.specs.CcRulesNeeds.declared.needs.Slot.TheVariants.{Result}
use Rattle.cc_rules.specs.CcStateOperators.Domains.{Domain}
use Rattle.cc_rules.specs.CcStateValues.Contexts.{IsValIn, IsPureIn}
use Rattle.cc_rules_asked.specs.Asks.{ArePureHere}

module _ {I : Type 0} (d : Domain I) (here : Here I) where
  pub none_returned : (act : Act) → returned act ≡ None → AsksHere d here Return act []
  none_returned (Returns None) h = OfNoValue (λ e k. absurd (cc)) refl
  none_returned (Returns (Some x)) h = absurd (cc)
  none_returned (Sets r e) h = OfNoValue (λ e k. absurd (cc)) refl
  none_returned (Reads r a) h = OfNoValue (λ e k. absurd (cc)) refl
  none_returned (Writes a e) h = OfNoValue (λ e k. absurd (cc)) refl
  none_returned (Calls result g args) h = OfNoValue (λ e k. absurd (cc)) refl
  none_returned (Saves result) h = OfNoValue (λ e k. absurd (cc)) refl
  none_returned (Turns on) h = OfNoValue (λ e k. absurd (cc)) refl
  none_returned (Restores x) h = OfNoValue (λ e k. absurd (cc)) refl
  none_returned (Tests x these those) h = OfNoValue (λ e k. absurd (cc)) refl
  none_returned (Chooses x cases) h = OfNoValue (λ e k. absurd (cc)) refl
  none_returned Passes h = OfNoValue (λ e k. absurd (cc)) refl

  -- what a return gives is all that has an operand
  as_return : (act : Act) (e : Expr) → returned act ≡ Some e → act ≡ Returns (Some e)
  as_return (Returns x) e h = ap Returns h
  as_return (Sets r x) e h = absurd (cc)
  as_return (Reads r a) e h = absurd (cc)
  as_return (Writes a x) e h = absurd (cc)
  as_return (Calls result g args) e h = absurd (cc)
  as_return (Saves result) e h = absurd (cc)
  as_return (Turns on) e h = absurd (cc)
  as_return (Restores x) e h = absurd (cc)
  as_return (Tests x these those) e h = absurd (cc)
  as_return (Chooses x cases) e h = absurd (cc)
  as_return Passes e h = absurd (cc)

  pub pure_returned : (act : Act) (e : Expr) → returned act ≡ Some e → ArePureHere d here act → IsPureIn d here.context e
  pure_returned act e h pure = subst (ArePureHere d here) (as_return act e h) pure

  pub one_returned : (act : Act) (e : Expr) (y : Abs I) → returned act ≡ Some e → IsHere d here → IsValIn d here.context e y →
      AsksHere d here Return act (asked.Part (Result here.context.id) (Values (Some y)) ∷ [])
  one_returned act e y h is v = OfReturn e y (as_return act e h) (value_here d here e y is v) refl
