-- What is worked at a point by the sets of its registers, and the keys that its places name, as the rules speak of them.
use Rattle.std.proofs.Common.{◌≡◌, ℕ, Bool, true, false, List, [], ◌∷◌, map, All, Contains, Option, Some, None, is_some, option_and_then, ◌==◌, position, slice_get, refl, ap, sym, subst, ◌∙◌}
use Rattle.std.specs.List.{filter}
use Rattle.cc_rules.specs.CcPlaces.declared.abs.Abs.{Abs}
use Rattle.cc_program.specs.declared.expr.Expr.{Expr}
use Rattle.cc_program.specs.declared.expr.Place.{Place}
use Rattle.cc_program.specs.declared.program.Program.{Program}
use Rattle.cc_rules.specs.Rules.{IsValue, AreNumbers}
use Rattle.cc_rules_asked.specs.Asks.{AreKeysHere, AreNumbered}
use Rattle.cc_rules.specs.CcRulesFlows.declared.after.Here.{Here}
use Rattle.cc_rules.specs.CcRulesFlows.Here.{IsHere}
use Rattle.cc_rules.specs.CcStateFacts.declared.facts.Key.{Key}
use Rattle.cc_rules.specs.CcStateFacts.Facts.{local_of}
use Rattle.cc_rules.specs.CcStateKeys.Keys.{keys_of, key_number}
use Rattle.cc_rules.specs.CcStateKeys.Tracked.{register_number}
use Rattle.cc_rules.specs.CcStateOperators.Domains.{Domain}
use Rattle.cc_rules.specs.CcStateReads.Reads.{AreNamed, registers_at}
use Rattle.cc_rules.specs.CcStateValues.Contexts.{IsValIn, set_in}
use Rattle.cc_rules.specs.CcStateReads.Contexts.{AreNamedIn}
use Rattle.cc_rules.specs.CcStateValues.Values.{IsVal}

module _ {I : Type 0} (d : Domain I) (here : Here I) where
  -- the registers of the function at the point
  there : (P : (ℕ → Option (Abs I)) → Type 0) → IsHere d here → P (set_in here.context) → P (registers_at here.facts.now here.context.func.now here.number)
  there P h p =
      let a : P (λ r. option_and_then (slice_get here.context.sets.now) (register_number here.context.func.now r)) =
      subst (λ rs. P (λ r. option_and_then (slice_get here.context.sets.now) (position (λ q. q == r) rs))) h.registers p in
      let b : P (λ r. option_and_then (local_of here.fact.now) (register_number here.context.func.now r)) =
      subst (λ sets. P (λ r. option_and_then (slice_get sets) (register_number here.context.func.now r))) h.sets a in
      subst (λ x. P (λ r. option_and_then (λ local. option_and_then (λ fact. local_of fact local) x) (register_number here.context.func.now r))) (sym h.reached) b

  pub value_here : (e : Expr) (y : Abs I) → IsHere d here → IsValIn d here.context e y →
      IsValue d here.context.program.now here.facts.now here.number here.context.id here.context.func.now here.point.now here.fact.now e y
  value_here e y h v = there (λ s. IsVal d here.context.program.now here.context.id here.context.func.now s e y) h v

  -- ---- the numbers of keys

  numbered : (keys : List Key) (numbers : List ℕ) → AreNumbered here.context.program.now keys numbers →
      AreNumbers d here.context.program.now here.facts.now here.number here.context.id here.context.func.now here.point.now here.fact.now keys numbers
  numbered [] [] e = refl
  numbered [] (n ∷ ns) e = absurd (cc)
  numbered (k ∷ ks) [] e = absurd (cc)
  numbered (k ∷ ks) (n ∷ ns) e =
      let first : key_number here.context.program.now k ≡ Some n = cc in
      let rest : map (key_number here.context.program.now) ks ≡ map Some ns = cc in
      (n, ns, first, numbered ks ns rest, refl)

  pub keys_here : (a : Place) (keys : List Key) (numbers : List ℕ) → IsHere d here → AreNamedIn d here.context a keys → AreNumbered here.context.program.now keys numbers → AreKeysHere d here a numbers
  keys_here a keys numbers h named e =
      (keys, there (λ s. AreNamed d here.context.program.now here.context.id here.context.func.now s a keys) h named, numbered keys numbers e)
