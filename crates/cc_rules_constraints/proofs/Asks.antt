-- What is asked at a point that is reached is what the constraint of the rule and the point asks: the point, its function and what is known there are
-- those by which the constraint goes.
use Rattle.std.proofs.Common.{◌≡◌, ℕ, List, [], Option, Some, None, refl, ap, sym, subst, slice_get, ◌∙◌}
use Rattle.std.proofs.lemmas.List.Elements.{All-nil, All-same}
use Rattle.std.proofs.lemmas.Option.{same_Some}
use Rattle.cc_rules_asked.specs.CcFlow.declared.types.Point.{Point}
use Rattle.cc_program.specs.declared.expr.Expr.{Expr}
use Rattle.cc_program.specs.declared.func.Func.{Func}
use Rattle.cc_program.specs.declared.program.Program.{Program}
use Rattle.cc_rules_asked.specs.CcRules.Constraints.{Rule, Initial, Start, Flow, Write, Touch, Call, Back, Return, Handler, Stability, Constraint as ConstraintOf, at_point, constraints}
use Rattle.cc_rules_asked.specs.CcRules.Rules.{AreFirstSets, IsStarted, AskedIn, IsAsked, act_at}
use Rattle.cc_rules_asked.specs.declared.asked.Asked.{Asked}
use Rattle.cc_rules_asked.specs.Asked.{all_needs}
use Rattle.cc_rules_choices.specs.Choices.{AreTestsWorkedHere}
use Rattle.cc_rules_constraints.specs.Asking.{IsAskedHere, IsAskedAt, IsAskedBy}
use Rattle.cc_rules_asked.specs.CcRulesFlows.declared.after.Here.{Here}
use Rattle.cc_rules_asked.specs.CcRulesFlows.Flows.{tests_of}
use Rattle.cc_rules_asked.specs.CcRulesFlows.Nexts.{IsPoint, statement_of}
use Rattle.cc_rules_asked.specs.CcRulesFlows.Tests.{Test}
use Rattle.cc_rules_asked.specs.CcRulesFlows.Worked.{AreWorked}
use Rattle.cc_rules_grow.specs.Grown.{AreTestsWorked}
use Rattle.cc_rules_here.specs.HereAt.{IsHereAt}
use Rattle.cc_rules_layout.specs.Raisable.{IsRaisable, AreRaisable}
use Rattle.cc_rules_numbered.specs.declared.constraints.Constraint.{Constraint}
use Rattle.cc_rules_numbered.specs.declared.constraints.Rule.{Rule as RuleOf}
use Rattle.cc_rules_numbered.specs.declared.constraints.Rule.TheVariants as rule
use Rattle.cc_rules_numbered.specs.Numbered.{rule_view, constraint_view}
use Rattle.cc_rules_asked.specs.CcStateFacts.declared.facts.Facts.{Facts}
use Rattle.cc_rules_asked.specs.CcStateFacts.declared.facts.PointFact.{PointFact}
use Rattle.cc_rules_asked.specs.CcStateFacts.Facts.{fact_at}
use Rattle.cc_rules_asked.specs.CcStateKeys.Keys.{keys_of}
use Rattle.cc_rules_asked.specs.CcStateOperators.Domains.{Domain}

-- a number is that of one point, of one function
one_point : (p : Program) (n : ℕ) (id other : ℕ) (f g : Func) (point next : Point) → IsPoint p n id f point → IsPoint p n other g next → (id ≡ other) × (f ≡ g) × (point ≡ next)
one_point p n id other f g point next h k =
    let same : point ≡ next = same_Some point next (sym h.numbered ∙ k.numbered) in
    let owned : id ≡ other = sym h.own ∙ (ap (λ (q : Point). q.func) same ∙ k.own) in
    (owned, same_Some f g (sym h.function ∙ (ap (slice_get p.funcs) owned ∙ k.function)), same)

module _ {I : Type 0} (d : Domain I) (here : Here I) where
  abbrev IsPointHere : Type 0
  IsPointHere = IsPoint here.context.program.now here.number here.context.id here.context.func.now here.point.now

  -- of a test of the statement of a point, with what is known there
  abbrev Works : Expr → List (Test × ℕ) → Test → ℕ → Func → Point → PointFact I → Type 0
  Works e tests test i g q y = tests_of here.number q.next (act_at (statement_of g q) g) ≡ Some (e, tests) → AreWorked d here.context.program.now i g here.facts.now q here.number y e test

  worked_here : IsPointHere → fact_at here.facts.now here.number ≡ Some here.fact.now → AreTestsWorkedHere d here (act_at (statement_of here.context.func.now here.point.now) here.context.func.now) → AreTestsWorked d here.context.program.now here.facts.now here.number
  worked_here own reached worked id f point fact is there e tests tested t among =
      let (same_id, same_f, same_point) = one_point here.context.program.now here.number here.context.id id here.context.func.now f here.point.now point own is in
      let same_fact : here.fact.now ≡ fact = same_Some here.fact.now fact (sym reached ∙ there) in
      subst (λ (y : PointFact I). Works e tests t.0 id f point y) same_fact
      (subst (λ (q : Point). Works e tests t.0 id f q here.fact.now) same_point
      (subst (λ (g : Func). Works e tests t.0 id g here.point.now here.fact.now) same_f (subst (λ (i : ℕ). Works e tests t.0 i here.context.func.now here.point.now here.fact.now) same_id (λ tested. worked e tests tested t among))))
      tested

module _ {I : Type 0} (d : Domain I) (p : Program) (facts : Facts I) (n : ℕ) where
  -- ---- a point that is reached

  module _ (here : Here I) (is : IsHereAt d p facts n here) where
    -- what holds of the program, the facts and the number holds of those of the point, and the other way round
    pub in_point : (P : Program → Facts I → ℕ → Type 0) → P p facts n → P here.context.program.now here.facts.now here.number
    in_point P h = subst (λ (q : Program). P q here.facts.now here.number) (sym is.program) (subst (λ (gs : Facts I). P p gs here.number) (sym is.facts) (subst (P p facts) (sym is.number) h))

    of_point : (P : Program → Facts I → ℕ → Type 0) → P here.context.program.now here.facts.now here.number → P p facts n
    of_point P h = subst (P p facts) is.number (subst (λ (gs : Facts I). P p gs here.number) is.facts (subst (λ (q : Program). P q here.facts.now here.number) is.program h))

    pub point_here : IsPointHere d here
    point_here = in_point (λ q gs m. IsPoint q m here.context.id here.context.func.now here.point.now) is.point

    pub reached : (r : Rule) (list : List (Asked I)) → IsAskedHere d here r (act_at (statement_of here.context.func.now here.point.now) here.context.func.now) list → IsAskedAt d p facts r n list
    reached r list h = record {
      asks = of_point (λ q gs m. AskedIn d q gs r m (fact_at gs m) (all_needs q list))
          (subst (λ (o : Option (PointFact I)). AskedIn d here.context.program.now here.facts.now r here.number o (all_needs here.context.program.now list)) (sym is.is.reached) (here.context.id, here.context.func.now, here.point.now, point_here, h.asks));
      worked = λ e. of_point (AreTestsWorked d) (worked_here d here point_here is.is.reached (h.worked e));
      raisable = of_point (λ q gs m. AreRaisable d q gs list) h.raisable;
    }

  -- ---- one that is not

  pub unreached : (r : Rule) (list : List (Asked I)) → fact_at facts n ≡ None → list ≡ [] → IsAskedAt d p facts r n list
  unreached r list none e = record {
    asks = subst (λ (o : Option (PointFact I)). AskedIn d p facts r n o (all_needs p list)) (sym none) (let h : all_needs p list ≡ [] = ap (all_needs p) e in h);
    worked = λ _ id f point fact is there. absurd (let h : None ≡ Some fact = sym none ∙ there in cc);
    raisable = All-same (IsRaisable d p facts) list [] e (All-nil (IsRaisable d p facts));
  }

module _ {I : Type 0} (d : Domain I) (p : Program) (facts : Facts I) (c : Constraint) (list : List (Asked I)) where
  -- ---- constraints

  pub by_firsts : c.rule ≡ rule.Initial → AreFirstSets d p facts 0 (keys_of p) (all_needs p list) → AreRaisable d p facts list → IsAskedBy d p facts (constraint_view c) list
  by_firsts e h raisable = record {
    asks = subst (λ (r : RuleOf). IsAsked d p facts (at_point c.point (rule_view r)) (all_needs p list)) (sym e) h;
    worked = λ flow. absurd (let k : Initial ≡ Flow = sym (ap rule_view e) ∙ flow in cc);
    raisable = raisable;
  }

  pub by_start : c.rule ≡ rule.Start → IsStarted d p facts c.point (all_needs p list) → AreRaisable d p facts list → IsAskedBy d p facts (constraint_view c) list
  by_start e h raisable = record {
    asks = subst (λ (r : RuleOf). IsAsked d p facts (at_point c.point (rule_view r)) (all_needs p list)) (sym e) h;
    worked = λ flow. absurd (let k : Start ≡ Flow = sym (ap rule_view e) ∙ flow in cc);
    raisable = raisable;
  }

  -- a rule but these two asks by its point
  asked_in : (r : Rule) → (r ≡ Initial → ⊥) → (r ≡ Start → ⊥) → AskedIn d p facts r c.point (fact_at facts c.point) (all_needs p list) → IsAsked d p facts (at_point c.point r) (all_needs p list)
  asked_in Initial i s h = absurd (i refl)
  asked_in Start i s h = absurd (s refl)
  asked_in Flow i s h = h
  asked_in Write i s h = h
  asked_in Touch i s h = h
  asked_in Call i s h = h
  asked_in Back i s h = h
  asked_in Return i s h = h
  asked_in Handler i s h = h
  asked_in Stability i s h = h

  other_view : (k : RuleOf) → (k ≡ rule.Initial → ⊥) → (k ≡ rule.Start → ⊥) → (rule_view k ≡ Initial → ⊥) × (rule_view k ≡ Start → ⊥)
  other_view rule.Initial i s = absurd (i refl)
  other_view rule.Start i s = absurd (s refl)
  other_view rule.Flow i s = (λ (e : Flow ≡ Initial). cc, λ (e : Flow ≡ Start). cc)
  other_view rule.Write i s = (λ (e : Write ≡ Initial). cc, λ (e : Write ≡ Start). cc)
  other_view rule.Touch i s = (λ (e : Touch ≡ Initial). cc, λ (e : Touch ≡ Start). cc)
  other_view rule.Call i s = (λ (e : Call ≡ Initial). cc, λ (e : Call ≡ Start). cc)
  other_view rule.Back i s = (λ (e : Back ≡ Initial). cc, λ (e : Back ≡ Start). cc)
  other_view rule.Return i s = (λ (e : Return ≡ Initial). cc, λ (e : Return ≡ Start). cc)
  other_view rule.Handler i s = (λ (e : Handler ≡ Initial). cc, λ (e : Handler ≡ Start). cc)
  other_view rule.Stability i s = (λ (e : Stability ≡ Initial). cc, λ (e : Stability ≡ Start). cc)

  pub by_point : (c.rule ≡ rule.Initial → ⊥) → (c.rule ≡ rule.Start → ⊥) → IsAskedAt d p facts (rule_view c.rule) c.point list → IsAskedBy d p facts (constraint_view c) list
  by_point i s h = let (no_firsts, no_start) = other_view c.rule i s in record { asks = asked_in (rule_view c.rule) no_firsts no_start h.asks; worked = h.worked; raisable = h.raisable }

module _ {I : Type 0} (d : Domain I) (p : Program) (facts : Facts I) (list : List (Asked I)) where
  -- by the constraint with a number
  pub at_number : (number : ℕ) (c k : ConstraintOf) → slice_get (constraints p) number ≡ Some c → IsAskedBy d p facts c list → slice_get (constraints p) number ≡ Some k → IsAskedBy d p facts k list
  at_number number c k own h other = subst (λ (b : ConstraintOf). IsAskedBy d p facts b list) (same_Some c k (sym own ∙ other)) h
