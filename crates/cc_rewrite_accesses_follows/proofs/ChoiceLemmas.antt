-- A choice between operands, by the value of a third: that is worked out, the way is chosen, and then the arm is worked out.
use Rattle.std.proofs.Common.{◌≡◌, ◌||◌, ℕ, Bool, true, false, List, [], ◌∷◌, ◌++◌, Option, Some, append_assoc, append-nil, refl, ap, sym, ◌∙◌, subst}
use Rattle.cc_program.specs.declared.expr.Expr.{Expr, Choose}
use Rattle.cc_program.specs.declared.expr.Expr.TheOpen as one
use Rattle.cc_program.specs.declared.expr.Expr.TheVariants.{rolls-Choose}
use Rattle.cc_program.specs.declared.value.Value.{Value}
use Rattle.cc_rewrite_accesses_follows.specs.Asked.{Asked, Way, Asks}
use Rattle.cc_rewrite_accesses_follows.specs.Evaluates.{HasValue, AssignsNone, Evaluates}
use Rattle.cc_rewrite_accesses_follows.proofs.OperandLemmas.{asks-then, asks-behind}
use Rattle.cc_steps.proofs.CcEval.Links.{level}
use Rattle.cc_steps.specs.CcEval.Context.{Context}
use Rattle.cc_steps.specs.CcEval.Eval.{Meaning, meaning, expr_meaning, branch, outcome, arms}
use Rattle.cc_steps.specs.CcEval.Progress.{Progress, Known, Waits, Get, ask, bind, and_then, chosen}
use Rattle.cc_steps.specs.CcEval.declared.action.Action.TheVariants as action
use Rattle.cc_steps.specs.CcEval.declared.mark.Mark.{Mark}
use Rattle.cc_steps.specs.CcEval.declared.mark.Mark.TheVariants.{Chose}
use Rattle.cc_steps.specs.CcSyntax.Effects.{Registers, also}
use Rattle.cc_steps.specs.CcValues.Values.{is_true}

-- where the value is not bad it is of no matter whether the whole is pure
branch-of : (pure : Bool) (v : Value) (ms : List Mark) → branch pure (Some v) ms ≡ ask (action.Choose (Some (is_true v))) chosen ms
branch-of true v ms = refl
branch-of false v ms = refl

outcome-of : (pure : Bool) (w : Value) (ms : List Mark) → outcome pure (Some w) ms ≡ Known (Some w) ms
outcome-of true w ms = refl
outcome-of false w ms = refl

module _ (c : Context) (d a b : Expr) where
  at-Choose : meaning c (Choose d a b) ≡ expr_meaning c (one.Choose (meaning c d) (meaning c a) (meaning c b))
  at-Choose = ap (meaning c) (sym (rolls-Choose d a b)) ∙ level c (one.Choose d a b)

  assigns-none : AssignsNone c d → AssignsNone c a → AssignsNone c b → AssignsNone c (Choose d a b)
  assigns-none h k j r =
      ap (λ (m : Meaning). m.effects.assigned r) at-Choose
      ∙ ap (λ (x : Bool). x || ((meaning c a).effects.assigned r || (meaning c b).effects.assigned r)) (h r)
      ∙ ap (λ (x : Bool). x || (meaning c b).effects.assigned r) (k r)
      ∙ j r

  module _ (k : AssignsNone c a) (j : AssignsNone c b) (later : Registers) (none : (r : ℕ) → later r ≡ false) where
    abbrev pure : Bool
    pure = (expr_meaning c (one.Choose (meaning c d) (meaning c a) (meaning c b))).effects.pure later

    abbrev behind_first : Registers
    behind_first = also (meaning c b).effects.assigned later

    abbrev behind_condition : Registers
    behind_condition = also (meaning c a).effects.assigned behind_first

    none-first : (r : ℕ) → behind_first r ≡ false
    none-first r = ap (λ (x : Bool). x || later r) (j r) ∙ none r

    none-condition : (r : ℕ) → behind_condition r ≡ false
    none-condition r = ap (λ (x : Bool). x || behind_first r) (k r) ∙ none-first r

    abbrev either_arm : Option Bool → Get (Option Value)
    either_arm = arms (bind ((meaning c a).next behind_first) (outcome pure)) (bind ((meaning c b).next later) (outcome pure))

    abbrev then_arm : Option Value → Get (Option Value)
    then_arm v = bind (branch pure v) either_arm

    abbrev whole : Get (Option Value)
    whole = (meaning c (Choose d a b)).next later

    by : (ms : List Mark) → whole ms ≡ and_then ((meaning c d).next behind_condition ms) then_arm
    by ms = ap (λ (m : Meaning). m.next later ms) at-Choose

    -- the way, and the arm that is taken
    module _ (asked others : List Asked) (v w : Value) (way : Bool) (true_or : is_true v ≡ way) (arm : Get (Option Value)) (taken : (ms : List Mark) → either_arm (Some way) ms ≡ and_then (arm ms) (outcome pure))
        (arm_asks : Asks c arm (HasValue arm (Some w)) [] others)
      where
        goes-on : (more : List Mark) → then_arm (Some v) more ≡ and_then (ask (action.Choose (Some way)) chosen more) either_arm
        goes-on more =
            ap (λ (q : Progress (Option Bool)). and_then q either_arm) (branch-of pure v more)
            ∙ ap (λ (x : Bool). and_then (ask (action.Choose (Some x)) chosen more) either_arm) true_or

        module _ (all : List Mark) (has : HasValue ((meaning c d).next behind_condition) (Some v) all) where
          at-marks : (more : List Mark) → whole (all ++ more) ≡ and_then (ask (action.Choose (Some way)) chosen more) either_arm
          at-marks more = by (all ++ more) ∙ ap (λ (q : Progress (Option Value)). and_then q then_arm) (has more) ∙ goes-on more

          abbrev front : List Mark
          front = all ++ Chose (Some way) ∷ []

          in-arm : (more : List Mark) → whole (front ++ more) ≡ and_then (arm more) (outcome pure)
          in-arm more = ap whole (append_assoc all (Chose (Some way) ∷ []) more) ∙ at-marks (Chose (Some way) ∷ more) ∙ taken more

          arm-asks : Asks c whole (HasValue whole (Some w)) front others
          arm-asks =
              subst (λ (x : List Mark). Asks c whole (HasValue whole (Some w)) x others) (append-nil front)
              (asks-behind c arm whole (outcome pure) (Some w) (HasValue whole (Some w)) front in-arm
              (λ ms got more. ap whole (append_assoc front ms more) ∙ in-arm (ms ++ more) ∙ ap (λ (q : Progress (Option Value)). and_then q (outcome pure)) (got more) ∙ outcome-of pure w more) others [] arm_asks)

          way-asks : Asks c whole (HasValue whole (Some w)) all (Way (Some way) ∷ others)
          way-asks = (action.Choose (Some way), ap whole (sym (append-nil all)) ∙ at-marks [], refl, arm-asks)

        choice-asks : Evaluates c d asked (Some v) → Asks c whole (HasValue whole (Some w)) [] (asked ++ Way (Some way) ∷ others)
        choice-asks h =
            asks-then c ((meaning c d).next behind_condition) whole then_arm (Some v) (HasValue whole (Some w)) (Way (Some way) ∷ others) by way-asks asked [] (h.asks behind_condition none-condition)

  pub evaluates-first : (asked others : List Asked) (v w : Value) → is_true v ≡ true → Evaluates c d asked (Some v) → Evaluates c a others (Some w) → AssignsNone c b → Evaluates c (Choose d a b) (asked ++ Way (Some true) ∷ others) (Some w)
  evaluates-first asked others v w e h k j = record {
    assigns = assigns-none h.assigns k.assigns j;
    asks = λ later none.
        choice-asks k.assigns j later none asked others v w true e ((meaning c a).next (also (meaning c b).effects.assigned later)) (λ ms. refl)
        (k.asks (also (meaning c b).effects.assigned later) (none-first k.assigns j later none)) h;
  }

  pub evaluates-second : (asked others : List Asked) (v w : Value) → is_true v ≡ false → Evaluates c d asked (Some v) → AssignsNone c a → Evaluates c b others (Some w) → Evaluates c (Choose d a b) (asked ++ Way (Some false) ∷ others) (Some w)
  evaluates-second asked others v w e h k j = record {
    assigns = assigns-none h.assigns k j.assigns;
    asks = λ later none. choice-asks k j.assigns later none asked others v w false e ((meaning c b).next later) (λ ms. refl) (j.asks later none) h;
  }
