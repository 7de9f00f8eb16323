-- What each rule asks at a point that is reached is laid out so that facts can be raised by it.
use Rattle.std.proofs.Common.{◌≡◌, ◌⊎◌, inl, inr, List, [], All, refl, sym, subst}
use Rattle.std.specs.Prelude.{if◌then◌else◌}
use Rattle.std.proofs.lemmas.List.Elements.{All-nil, All-same}
use Rattle.cc_rules_asked.specs.CcRules.Constraints.{Rule, Initial, Start, Flow, Write, Touch, Call, Back, Return, Handler, Stability}
use Rattle.cc_rules_asked.specs.declared.asked.Asked.{Asked}
use Rattle.cc_rules_asked.specs.Asks.{AsksHere}
use Rattle.cc_rules_asked.specs.Handlers.{asked_of_all}
use Rattle.cc_rules_calls.specs.Backs.{IsBehind}
use Rattle.cc_rules_calls.specs.Here.{AreEntries}
use Rattle.cc_rules_choices.specs.Choices.{AreTestsWorkedHere}
use Rattle.cc_rules_constraints.specs.Asking.{IsAskedHere}
use Rattle.cc_rules_constraints.specs.Ready.{IsReady}
use Rattle.cc_rules_asked.specs.CcRulesFlows.Acts.{Act}
use Rattle.cc_rules_asked.specs.CcRulesFlows.declared.after.Here.{Here}
use Rattle.cc_rules_layout.specs.Raisable.{IsRaisable, AreRaisable}
use Rattle.cc_rules_made.specs.declared.rules.Rules.{Rules}
use Rattle.cc_rules_nexts.specs.Told.{IsOnward}
use Rattle.cc_rules_numbered.specs.declared.constraints.Rule.{Rule as RuleOf}
use Rattle.cc_rules_numbered.specs.declared.constraints.Rule.TheVariants as rule
use Rattle.cc_rules_numbered.specs.Numbered.{rule_view}
use Rattle.cc_rules_raisable.proofs.Parts.{write_raisable, touch_raisable, return_raisable, stability_raisable}
use Rattle.cc_rules_raisable.proofs.Raisable.{handlers_raisable, entries_raisable, behind_raisable, onward_raisable}
use Rattle.cc_rules_asked.specs.CcStateOperators.Domains.{Domain}

module _ {I : Type 0} (d : Domain I) (here : Here I) (act : Act) (list : List (Asked I)) where
  -- ---- rules of no point that is reached

  none : (r : Rule) → AsksHere d here r act [] → (r ≡ Flow → ⊥) → list ≡ [] → IsAskedHere d here r act list
  none r h other e = record {
    asks = subst (AsksHere d here r act) (sym e) h;
    worked = λ flow. absurd (other flow);
    raisable = All-same (IsRaisable d here.context.program.now here.facts.now) list [] e (All-nil (IsRaisable d here.context.program.now here.facts.now));
  }

  pub of_none : (k : RuleOf) → (k ≡ rule.Initial) ⊎ (k ≡ rule.Start) → list ≡ [] → IsAskedHere d here (rule_view k) act list
  of_none k (inl e) n = subst (λ (k : RuleOf). IsAskedHere d here (rule_view k) act list) (sym e) (none Initial refl (λ (flow : Initial ≡ Flow). cc) n)
  of_none k (inr e) n = subst (λ (k : RuleOf). IsAskedHere d here (rule_view k) act list) (sym e) (none Start refl (λ (flow : Start ≡ Flow). cc) n)

  -- ---- the others

  other : (r : Rule) → (r ≡ Flow → ⊥) → AsksHere d here r act list → AreRaisable d here.context.program.now here.facts.now list → IsAskedHere d here r act list
  other r no_flow asks raisable = record { asks = asks; worked = λ flow. absurd (no_flow flow); raisable = raisable }

  module _ (rules : Rules) (ready : IsReady d rules here act) where
    pub of_flows : AsksHere d here Flow act list → AreTestsWorkedHere d here act → All (IsOnward d here) list → IsAskedHere d here Flow act list
    of_flows asks worked onward = record { asks = asks; worked = λ _. worked; raisable = onward_raisable d here ready.shape ready.point ready.is list onward }

    pub of_write : AsksHere d here Write act list → IsAskedHere d here Write act list
    of_write asks = other Write (λ (e : Write ≡ Flow). cc) asks (write_raisable d here act list asks)

    pub of_touch : AsksHere d here Touch act list → IsAskedHere d here Touch act list
    of_touch asks = other Touch (λ (e : Touch ≡ Flow). cc) asks (touch_raisable d here act list asks)

    pub of_call : AsksHere d here Call act list → AreEntries here rules.functions list → IsAskedHere d here Call act list
    of_call asks entries = other Call (λ (e : Call ≡ Flow). cc) asks (entries_raisable d here ready.shape ready.point ready.is rules.functions list ready.made.functions entries)

    pub of_back : AsksHere d here Back act list → All (IsBehind d here) list → IsAskedHere d here Back act list
    of_back asks behind = other Back (λ (e : Back ≡ Flow). cc) asks (behind_raisable d here ready.shape ready.point ready.is list behind)

    pub of_return : AsksHere d here Return act list → IsAskedHere d here Return act list
    of_return asks = other Return (λ (e : Return ≡ Flow). cc) asks (return_raisable d here act list asks)

    pub of_handlers : AsksHere d here Handler act list → list ≡ (if here.fact.now.on then asked_of_all here rules.handlers else []) → IsAskedHere d here Handler act list
    of_handlers asks is = other Handler (λ (e : Handler ≡ Flow). cc) asks (handlers_raisable d here ready.shape ready.point ready.is rules.handlers list ready.made.handlers is)

    pub of_stability : AsksHere d here Stability act list → IsAskedHere d here Stability act list
    of_stability asks = other Stability (λ (e : Stability ≡ Flow). cc) asks (stability_raisable d here act list ready.is asks)
