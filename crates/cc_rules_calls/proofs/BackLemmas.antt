-- What is asked behind a call.
use Rattle.std.proofs.Common.{◌≡◌, ◌<◌, ◌+◌, ℕ, List, [], ◌∷◌, ◌++◌, length, take, get_or, append-nil, append_assoc, All, Contains, Option, Some, None, slice_get, refl, ap, sym, subst, ◌∙◌}
use Rattle.std.specs.List.{flat_map}
use Rattle.std.specs.Prelude.{IfSome}
use Rattle.std.proofs.lemmas.List.{take_more}
use Rattle.std.proofs.lemmas.List.Elements.{All-append, All-contains_itself, All-map, All-nil, All-same, All-weaker}
use Rattle.cc_state_points.specs.CcPlaces.declared.abs.Abs.{Abs}
use Rattle.cc_program.specs.declared.expr.Expr.{Expr}
use Rattle.cc_program.specs.declared.func.Func.{Func}
use Rattle.cc_rules_asked.specs.CcRules.Constraints.{Back}
use Rattle.cc_rules_asked.specs.CcRules.Rules.{ForEach, Returned, IsGiven, of_exit, ToRegister, ToNone, FromExit, NoExit, OfReturns}
use Rattle.cc_rules_asked.specs.declared.asked.Asked.{Asked}
use Rattle.cc_rules_asked.specs.declared.asked.Asked.TheVariants as asked
use Rattle.cc_rules_asked.specs.Asked.{all_needs}
use Rattle.cc_rules_asked.specs.Asks.{AsksHere}
use Rattle.cc_rules_asked.proofs.Listed.{parts_behind}
use Rattle.cc_rules_functions.specs.declared.functions.Function.{Function}
use Rattle.cc_rules_calls.specs.Backs.{with_given, fact_behind, points_behind, IsGivenHere, ReturnsHere, IsBehind, AskMore, AskMoreOf, EachReturns}
use Rattle.cc_rules_functions.specs.Functions.{IsFunctionOf, AreFunctionsOf}
use Rattle.cc_rules_calls.specs.Here.{AreFunctionsIn}
use Rattle.cc_rules_calls.proofs.CalledLemmas.{called_by}
use Rattle.cc_rules_calls.proofs.Flowing.{needs_with}
use Rattle.cc_rules_calls.proofs.Listed.{set_at}
use Rattle.cc_state_points.specs.CcRulesFlows.declared.after.Here.{Here}
use Rattle.cc_state_points.specs.CcRulesFlows.Acts.{Calls}
use Rattle.cc_state_points.specs.CcRulesFlows.Here.{IsHere}
use Rattle.cc_state_points.specs.CcRulesNeeds.Flowing.{Flowing, needs_at, of_fact, with_local}
use Rattle.cc_state_points.specs.CcRulesNeeds.Needs.{Needs}
use Rattle.cc_state_points.specs.CcStateFacts.declared.facts.PointFact.{PointFact}
use Rattle.cc_state_points.specs.CcStateFacts.Facts.{fact_at}
use Rattle.cc_state_points.specs.CcStateKeys.Tracked.{registers, tracked}
use Rattle.cc_state_points.specs.CcStateOperators.Domains.{Domain}

module _ {I : Type 0} (d : Domain I) (here : Here I) where
  -- ---- points

  abbrev told : ℕ → PointFact I → ℕ → Needs I
  told count flow k = needs_at k count (length (tracked here.context.program.now)) (of_fact flow)

  points : (next : List ℕ) (count : ℕ) (flow : PointFact I) (needs : ℕ → Needs I) → ((k : ℕ) → told count flow k ≡ needs k) → all_needs here.context.program.now (points_behind next count flow) ≡ flat_map needs next
  points [] count flow needs h = refl
  points (k ∷ next) count flow needs h = ap (λ ns. ns ++ all_needs here.context.program.now (points_behind next count flow)) (h k) ∙ ap (λ ns. needs k ++ ns) (points next count flow needs h)

  -- ---- the sets of registers

  abbrev given_to : Option (ℕ × Abs I) → Flowing I
  given_to None = of_fact here.fact.now
  given_to (Some g) = with_local g.0 g.1 (of_fact here.fact.now)

  given_at : (given : Option (ℕ × Abs I)) → IfSome given (λ (a : ℕ × Abs I). a.0 < length here.fact.now.locals) → (r : ℕ) → slice_get (with_given given here.fact.now.locals) r ≡ (given_to given).local r
  given_at None h r = refl
  given_at (Some g) h r = set_at here.fact.now.locals g.0 r g.1 h

  abbrev exited : PointFact I → Option (ℕ × Abs I) → Flowing I
  exited exit given = of_exit d here.context.program.now here.facts.now here.number here.context.id here.context.func.now here.point.now here.fact.now exit (given_to given)

  behind_is : (exit : PointFact I) (given : Option (ℕ × Abs I)) (count : ℕ) (k : ℕ) → IfSome given (λ (a : ℕ × Abs I). a.0 < length here.fact.now.locals) → count ≡ length (registers here.context.func.now) →
      told count (fact_behind here.fact.now exit given) k ≡ needs_at k (length (registers here.context.func.now)) (length (tracked here.context.program.now)) (exited exit given)
  behind_is exit given count k h e =
      ap (λ n. told n (fact_behind here.fact.now exit given) k) e
      ∙ needs_with k (length (registers here.context.func.now)) (length (tracked here.context.program.now)) exit (with_given given here.fact.now.locals) (λ r. (given_to given).local r) (given_at given h)

  -- ---- what is given

  abbrev Gives : Option ℕ → ℕ → Func → Flowing I → Type 0
  Gives result g callee flow = IsGiven d here.context.program.now here.facts.now here.number here.context.id here.context.func.now here.point.now here.fact.now result g callee flow

  is_given : (result : Option ℕ) (g : ℕ) (callee : Func) (given : Option (ℕ × Abs I)) → IsGivenHere d here result g callee given → Gives result g callee (given_to given)
  is_given None g callee given h = ToNone refl (ap given_to h)
  is_given (Some r) g callee given h = ToRegister r h.0 h.1 refl h.3 h.4 (ap given_to h.5)

  pub is_within : (result : Option ℕ) (g : ℕ) (callee : Func) (given : Option (ℕ × Abs I)) (n : ℕ) → n ≡ length here.context.registers.now → IsGivenHere d here result g callee given → IfSome given (λ (a : ℕ × Abs I). a.0 < n)
  is_within None g callee given n e h = subst (λ (x : Option (ℕ × Abs I)). IfSome x (λ (a : ℕ × Abs I). a.0 < n)) (sym h) tt
  is_within (Some r) g callee given n e h = subst (λ (x : Option (ℕ × Abs I)). IfSome x (λ (a : ℕ × Abs I). a.0 < n)) (sym h.5) (subst (λ m. h.0 < m) (sym e) h.2)

  -- ---- one function

  pub exit_asked : (result : Option ℕ) (g : ℕ) (f : Function) (exit flow : PointFact I) (given : Option (ℕ × Abs I)) (count : ℕ) (now new : List (Asked I)) → IsHere d here → IsFunctionOf here.context.program.now g f →
      fact_at here.facts.now f.exit ≡ Some exit → IsGivenHere d here result g f.func.now given → count ≡ length here.context.registers.now → flow ≡ fact_behind here.fact.now exit given →
      new ≡ now ++ points_behind here.point.now.next count flow → AskMore d here result g f now new
  exit_asked result g f exit flow given count now new h is at gives c e l = (
    points_behind here.point.now.next count flow,
    l,
    FromExit exit (given_to given) (ap (fact_at here.facts.now) (sym is.exit) ∙ at) (is_given result g f.func.now given gives)
        (points here.point.now.next count flow (λ k. needs_at k (length (registers here.context.func.now)) (length (tracked here.context.program.now)) (exited exit given))
        (λ k. ap (λ flow. told count flow k) e ∙ behind_is exit given count k (is_within result g f.func.now given (length here.fact.now.locals) h.each gives) (c ∙ ap length h.registers))),
    All-map (IsBehind d here) (λ k. asked.Point k count flow) here.point.now.next
        (All-weaker (Contains here.point.now.next) (λ k. IsBehind d here (asked.Point k count flow)) (λ k there. record { id = g; function = f; exit = exit; given = given; is_function = is; exited = at; next = there; all_registers = c; is = e }) here.point.now.next (All-contains_itself here.point.now.next)),
  )

  pub none_asked : (result : Option ℕ) (g : ℕ) (f : Function) (now : List (Asked I)) → IsFunctionOf here.context.program.now g f → fact_at here.facts.now f.exit ≡ None → AskMore d here result g f now now
  none_asked result g f now is at = ([], sym (append-nil now), NoExit (ap (fact_at here.facts.now) (sym is.exit) ∙ at) refl, All-nil (IsBehind d here))

  -- ---- all of them

  abbrev Each : Option ℕ → List ℕ → Needs I → Type 0
  Each result ids ns =
      ForEach d here.context.program.now here.facts.now here.number here.context.id here.context.func.now here.point.now here.fact.now
      (Returned d here.context.program.now here.facts.now here.number here.context.id here.context.func.now here.point.now here.fact.now result) ids ns

  each_behind : (result : Option ℕ) (ids : List ℕ) (h : ℕ) (callee : Func) (ns more : Needs I) → Each result ids ns → slice_get here.context.program.now.funcs h ≡ Some callee → ReturnsHere d here result h callee more → Each result (ids ++ h ∷ []) (ns ++ more)
  each_behind result [] h callee ns more e there asks = (callee, more, [], there, asks, refl, ap (λ ns. ns ++ more) e ∙ sym (append-nil more))
  each_behind result (g ∷ ids) h callee ns more e there asks = (
    e.0,
    e.1,
    e.2 ++ more,
    e.3,
    e.4,
    each_behind result ids h callee e.2 more e.5 there asks,
    ap (λ ns. ns ++ more) e.6 ∙ append_assoc e.1 e.2 more,
  )

  one_behind : (result : Option ℕ) (ids : List ℕ) (h : ℕ) (functions : List Function) (o : Option Function) (now new : List (Asked I)) → AreFunctionsOf here.context.program.now functions → slice_get functions h ≡ o → EachReturns d here result ids now →
      AskMoreOf d here result h o now new → EachReturns d here result (ids ++ h ∷ []) new
  one_behind result ids h functions None now new are at e a = absurd a
  one_behind result ids h functions (Some f) now new are at e a =
      subst (Each result (ids ++ h ∷ [])) (sym (ap (all_needs here.context.program.now) a.1 ∙ parts_behind here.context.program.now now a.0))
      (each_behind result ids h f.func.now (all_needs here.context.program.now now) (all_needs here.context.program.now a.0) e (are.each h f at).func a.2)

  pub each_on : (result : Option ℕ) (ids : List ℕ) (i : ℕ) (x : ℕ) (functions : List Function) (now new : List (Asked I)) → AreFunctionsOf here.context.program.now functions → i < length ids → EachReturns d here result (take i ids) now →
      AskMoreOf d here result (get_or ids i x) (slice_get functions (get_or ids i x)) now new → EachReturns d here result (take (i + 1) ids) new
  each_on result ids i x functions now new are l e a =
      subst (λ ids. EachReturns d here result ids new) (sym (take_more ids i x l)) (one_behind result (take i ids) (get_or ids i x) functions (slice_get functions (get_or ids i x)) now new are refl e a)

  pub behind_on : (result : Option ℕ) (h : ℕ) (o : Option Function) (now new : List (Asked I)) → All (IsBehind d here) now → AskMoreOf d here result h o now new → All (IsBehind d here) new
  behind_on result h None now new all a = absurd a
  behind_on result h (Some f) now new all a = All-same (IsBehind d here) new (now ++ a.0) a.1 (All-append (IsBehind d here) now a.0 all a.3)

  pub backs_asked : (result : Option ℕ) (g : Expr) (args : List Expr) (ids : List ℕ) (list : List (Asked I)) → IsHere d here → AreFunctionsIn d here g ids → EachReturns d here result ids list → AsksHere d here Back (Calls result g args) list
  backs_asked result g args ids list h v e = OfReturns result g args ids refl refl (called_by d here g ids h v) e
