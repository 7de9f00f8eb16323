-- What writes ask.
use Rattle.std.proofs.Common.{◌≡◌, ℕ, Bool, true, false, cond, List, [], ◌∷◌, ◌++◌, map, Option, Some, None, refl, ap, sym, subst, ◌∙◌}
use Rattle.cc_rules.specs.CcPlaces.declared.abs.Abs.{Abs}
use Rattle.cc_program.specs.declared.expr.Expr.{Expr}
use Rattle.cc_program.specs.declared.expr.Place.{Place}
use Rattle.cc_rules.specs.Constraints.{Write}
use Rattle.cc_rules.specs.Rules.{OfWrite, OfNone}
use Rattle.cc_rules_asked.specs.declared.asked.Asked.{Asked}
use Rattle.cc_rules_asked.specs.declared.asked.Asked.TheVariants as asked
use Rattle.cc_rules_asked.specs.Asks.{AsksHere, ArePureHere, AreKeysHere, written}
use Rattle.cc_rules_asked.proofs.Listed.{parts}
use Rattle.cc_rules_asked.proofs.ValuesHere.{value_here}
use Rattle.cc_rules.specs.CcRulesFlows.declared.after.Here.{Here}
use Rattle.cc_rules.specs.CcRulesFlows.Acts.{Act, Sets, Reads, Writes, Calls, Saves, Turns, Restores, Tests, Chooses, Returns, Passes}
use Rattle.cc_rules.specs.CcRulesFlows.Here.{IsHere}
use Rattle.cc_rules.specs.CcRulesNeeds.declared.needs.Part.TheVariants.{Values}
use Rattle.cc_rules.specs.CcRulesNeeds.declared.needs.Slot.TheVariants.{Whole}
use Rattle.cc_rules.specs.CcStateOperators.Domains.{Domain}
use Rattle.cc_rules.specs.CcStateValues.Contexts.{IsValIn, IsPureIn, IsPurePlaceIn}

same : {X : Type 0} (x y : X) → Some x ≡ Some y → x ≡ y
same x y h = cc

module _ {I : Type 0} (d : Domain I) (here : Here I) where
  pub none_written : (act : Act) → written act ≡ None → AsksHere d here Write act []
  none_written (Sets r x) h = OfNone (λ a e k. absurd (cc)) refl
  none_written (Reads r b) h = OfNone (λ a e k. absurd (cc)) refl
  none_written (Writes b x) h = absurd (cc)
  none_written (Calls result g args) h = OfNone (λ a e k. absurd (cc)) refl
  none_written (Saves result) h = OfNone (λ a e k. absurd (cc)) refl
  none_written (Turns on) h = OfNone (λ a e k. absurd (cc)) refl
  none_written (Restores x) h = OfNone (λ a e k. absurd (cc)) refl
  none_written (Tests x these those) h = OfNone (λ a e k. absurd (cc)) refl
  none_written (Chooses x cases) h = OfNone (λ a e k. absurd (cc)) refl
  none_written (Returns x) h = OfNone (λ a e k. absurd (cc)) refl
  none_written Passes h = OfNone (λ a e k. absurd (cc)) refl

  pub as_write : (act : Act) (a : Place) (e : Expr) → written act ≡ Some (a, e) → act ≡ Writes a e
  as_write (Sets r x) a e h = absurd (cc)
  as_write (Reads r b) a e h = absurd (cc)
  as_write (Writes b x) a e h = ap (λ (t : Place × Expr). Writes t.0 t.1) (same {X = Place × Expr} (b, x) (a, e) h)
  as_write (Calls result g args) a e h = absurd (cc)
  as_write (Saves result) a e h = absurd (cc)
  as_write (Turns on) a e h = absurd (cc)
  as_write (Restores x) a e h = absurd (cc)
  as_write (Tests x these those) a e h = absurd (cc)
  as_write (Chooses x cases) a e h = absurd (cc)
  as_write (Returns x) a e h = absurd (cc)
  as_write Passes a e h = absurd (cc)

  pub pure_written : (act : Act) (a : Place) (e : Expr) → written act ≡ Some (a, e) → ArePureHere d here act → IsPurePlaceIn d here.context a × IsPureIn d here.context e
  pure_written act a e h pure = subst (ArePureHere d here) (as_write act a e h) pure

  pub one_written : (act : Act) (a : Place) (e : Expr) (y : Abs I) (keys : List ℕ) (list : List (Asked I)) → written act ≡ Some (a, e) → IsHere d here → IsValIn d here.context e y → AreKeysHere d here a keys →
      list ≡ map (λ k. asked.Part (Whole k) (Values (Some y))) keys → AsksHere d here Write act list
  one_written act a e y keys list h is v ks l =
      subst (AsksHere d here Write act) (sym l) (OfWrite a e y keys (as_write act a e h) (value_here d here e y is v) ks (parts here.context.program.now Whole (λ k. Values (Some y)) keys))
