-- Who reads what each rule raises at a point, by what its statement does; who is called, and which handlers there are.
use Rattle.std.proofs.Common.{arith, ◌≡◌, ◌≤◌, ◌<◌, ◌+◌, ℕ, zero, suc, cond, List, [], ◌∷◌, ◌++◌, map, length, take, get_or, append-nil, append_assoc, Option, Some, None, slice_get, refl, sym, ap, ◌∙◌}
use Rattle.std.specs.Prelude.{◌==◌}
use Rattle.std.specs.List.{AllZip, filter, flat_map}
use Rattle.std.proofs.lemmas.List.{take_all, take_more, flat_map_more}
use Rattle.std.proofs.lemmas.List.Elements.{filter_agree}
use Rattle.std.proofs.lemmas.Option.{none-some, slice_get_within}
use Rattle.cc_rules_asked.specs.CcFlow.declared.types.Point.{Point}
use Rattle.cc_rules_asked.specs.CcFlow.Points.{flow_of}
use Rattle.cc_rules_asked.specs.CcFlowSound.Moves.{entry}
use Rattle.cc_program.specs.declared.program.Program.{Program}
use Rattle.cc_rules_asked.specs.CcRules.Constraints.{Initial, Start, Flow, Write, Touch, Call, Back, Return, Handler, Stability, at_point}
use Rattle.cc_rules_asked.specs.CcRules.Rules.{act_at, handlers}
use Rattle.cc_rules_again.specs.Again.{number_at, ids, may_call, point_readers, entry_readers, touch_readers, whole_readers, call_readers, result_readers, again_in, again_at, again_of}
use Rattle.cc_rules_again.specs.Named.{EachKey}
use Rattle.cc_rules_asked.specs.declared.handlers.Handler.{Handler as HandlerAs}
use Rattle.cc_rules_asked.specs.Handlers.{IsHandlerOf, AreHandlersOf}
use Rattle.cc_rules_asked.specs.CcRulesFlows.Acts.{Act}
use Rattle.cc_rules_asked.specs.CcRulesFlows.Nexts.{statement_of}
use Rattle.cc_rules_functions.specs.declared.functions.Function.{Function}
use Rattle.cc_rules_functions.specs.Functions.{AreFunctionsOf}
use Rattle.cc_rules_numbered.specs.declared.constraints.Rule.{Rule}
use Rattle.cc_rules_numbered.specs.declared.constraints.Rule.TheVariants as rule
use Rattle.cc_rules_numbered.specs.Numbered.{rule_view}
use Rattle.cc_rules_readers.specs.declared.deeds.Called.TheVariants as called
use Rattle.cc_rules_readers.specs.declared.deeds.Deed.{Deed}
use Rattle.cc_rules_readers.specs.Points.{points_that, may_call_in, there_called}
use Rattle.cc_rules_readers.specs.View.{named_view, calls_it, is_some_call, IsDeedAt, AreDeeds, by_rule, start_readers}
use Rattle.cc_rules_readers.proofs.Doing.{calls_deed, some_call_deed, callers_are}
use Rattle.cc_rules_readers.proofs.Numbers.{is_itself, are_equal, none_passes, one_passes, not_passed}
use Rattle.cc_rules_asked.specs.CcStateFacts.declared.facts.Facts.{Facts}
use Rattle.cc_rules_asked.proofs.CcStateKeys.Grown.{grown}
use Rattle.cc_rules_asked.specs.CcStateKeys.Tracked.{tracked}

-- ---- lists

pub put_each : {A B : Type 0} (f : A → List B) (xs : List A) (i : ℕ) (x : A) (old now new : List B) → i < length xs → now ≡ old ++ flat_map f (take i xs) → new ≡ now ++ f (get_or xs i x) → new ≡ old ++ flat_map f (take (i + 1) xs)
put_each f xs i x old now new l h e = e ∙ (ap (λ ys. ys ++ f (get_or xs i x)) h ∙ (flat_map_more f old (take i xs) (get_or xs i x) ∙ ap (λ ys. old ++ flat_map f ys) (sym (take_more xs i x l))))

pub put_one : {A B : Type 0} (f : A → List B) (x : A) (old first now second new : List B) → now ≡ old ++ first → new ≡ now ++ second → f x ≡ first ++ second → new ≡ old ++ flat_map f (x ∷ [])
put_one f x old first now second new h e is = e ∙ (ap (λ ys. ys ++ second) h ∙ (append_assoc old first second ∙ ap (λ ys. old ++ ys) (sym is ∙ sym (append-nil (f x)))))

-- four lists that were put behind one, one after the other
pub put_four : {B : Type 0} (old a b c d now next later new : List B) → now ≡ old ++ a → next ≡ now ++ b → later ≡ next ++ c → new ≡ later ++ d → new ≡ old ++ (a ++ (b ++ (c ++ (d ++ []))))
put_four old a b c d now next later new h k l m =
    grown old a now (b ++ (c ++ (d ++ []))) new (a ++ (b ++ (c ++ (d ++ [])))) h
    (grown now b next (c ++ (d ++ [])) new (b ++ (c ++ (d ++ []))) k
    (grown next c later (d ++ []) new (c ++ (d ++ [])) l (m ∙ ap (λ ys. later ++ ys) (sym (append-nil d))) refl) refl) refl

-- ---- at a point, by its rule

module _ {I : Type 0} (p : Program) (facts : Facts I) (n : ℕ) (q : Point) (deed : Deed) (is : IsDeedAt p q deed) where
  abbrev act : Act
  act = act_at (statement_of is.0 q) is.0

  pub initial_again : again_at p facts Initial n (Some q) ≡ []
  initial_again = ap (again_in p facts Initial n q) is.1

  pub start_again : again_at p facts Start n (Some q) ≡ []
  start_again = ap (again_in p facts Start n q) is.1

  pub flow_again : again_at p facts Flow n (Some q) ≡ flat_map (point_readers p) q.next
  flow_again = ap (again_in p facts Flow n q) is.1

  pub write_again : again_at p facts Write n (Some q) ≡ whole_readers p facts (named_view deed.written)
  write_again = let by = is.2 in ap (again_in p facts Write n q) is.1 ∙ ap (whole_readers p facts) (sym by.written)

  pub touch_again : again_at p facts Touch n (Some q) ≡ touch_readers p (named_view deed.accessed)
  touch_again = let by = is.2 in ap (again_in p facts Touch n q) is.1 ∙ ap (touch_readers p) (sym by.accessed)

  pub call_again : again_at p facts Call n (Some q) ≡ flat_map (call_readers p facts) (filter (calls_it deed.called) (ids p))
  call_again =
      ap (again_in p facts Call n q) is.1
      ∙ ap (flat_map (call_readers p facts)) (filter_agree (may_call act) (calls_it deed.called) (λ g. sym (calls_deed (tracked p) q.func act deed is.2 g)) (ids p))

  pub back_again : again_at p facts Back n (Some q) ≡ cond (is_some_call deed.called) (flat_map (point_readers p) q.next) []
  back_again = ap (again_in p facts Back n q) is.1 ∙ ap (λ b. cond b (flat_map (point_readers p) q.next) []) (sym (some_call_deed (tracked p) q.func act deed is.2))

  pub return_again : (deeds : List Deed) → AreDeeds p deeds → again_at p facts Return n (Some q) ≡ cond deed.returns (map (number_at Back) (points_that deeds (may_call_in deed.func))) []
  return_again deeds are =
      let by = is.2 in
      ap (again_in p facts Return n q) is.1
      ∙ (ap (λ b. cond b (result_readers p q.func) []) (sym by.returns)
      ∙ ap (λ ys. cond deed.returns ys []) (ap (result_readers p) (sym by.func) ∙ callers_are p deeds are deed.func))

  pub handler_again : again_at p facts Handler n (Some q) ≡ flat_map (entry_readers p) (handlers p)
  handler_again = ap (again_in p facts Handler n q) is.1

  pub stability_again : again_at p facts Stability n (Some q) ≡ point_readers p n
  stability_again = ap (again_in p facts Stability n q) is.1

-- what was put behind a list, by the rule that it is
pub by_its_rule : {I : Type 0} (p : Program) (facts : Facts I) (n : ℕ) (q : Point) (r s : Rule) (old new ys : List ℕ) → new ≡ old ++ ys → again_at p facts (rule_view s) n (Some q) ≡ ys → r ≡ s → new ≡ old ++ again_at p facts (rule_view r) n (Some q)
by_its_rule p facts n q r s old new ys h e is = h ∙ (ap (λ xs. old ++ xs) (sym e) ∙ ap (λ (r : Rule). old ++ again_at p facts (rule_view r) n (Some q)) (sym is))

-- ---- functions that are called

all_pass : (xs : List ℕ) → filter (calls_it called.Each) xs ≡ xs
all_pass [] = refl
all_pass (x ∷ xs) = ap (λ ys. x ∷ ys) (all_pass xs)

pub none_called : (xs : List ℕ) → filter (calls_it called.Nothing) xs ≡ []
none_called [] = refl
none_called (x ∷ xs) = none_called xs

pub each_called : (p : Program) → filter (calls_it called.Each) (ids p) ≡ ids p
each_called p = all_pass (ids p)

some_within : {A : Type 0} (xs : List A) (n : ℕ) → n < length xs → (x : A) × (slice_get xs n ≡ Some x)
some_within [] n l = absurd (omega (arith, l))
some_within (x ∷ xs) zero l = (x, refl)
some_within (x ∷ xs) (suc n) l = some_within xs n (omega (arith, l))

module _ (p : Program) (functions : List Function) (are : AreFunctionsOf p functions) where
  pub one_called : (g : ℕ) → filter (calls_it (called.Function g)) (ids p) ≡ there_called g (slice_get functions g)
  one_called g = by (slice_get functions g) refl
    where
      by : (o : Option Function) → slice_get functions g ≡ o → filter (calls_it (called.Function g)) (ids p) ≡ there_called g o
      by None e = none_passes (calls_it (called.Function g)) 0 (length p.funcs) (λ h l m. not_passed (h == g) (λ t. let same : h ≡ g = are_equal h g t in let c = are.count in let w = some_within functions g (omega (arith, m, same, c)) in none-some w.0 (sym e ∙ w.1)))
      by (Some f) e =
          let l = slice_get_within functions g f e in
          let c = are.count in
          one_passes (calls_it (called.Function g)) g (length p.funcs) (omega (arith, l, c)) (λ h t. are_equal h g t) ∙ ap (λ b. cond b (g ∷ []) []) (is_itself g)

  pub is_there : (g : ℕ) → g < length functions → there_called g (slice_get functions g) ≡ g ∷ []
  is_there g l = let w = some_within functions g l in ap (there_called g) w.1

-- ---- handlers

module _ (p : Program) where
  zip_at : (list : List HandlerAs) (xs : List ℕ) (i : ℕ) (h : HandlerAs) → AllZip (IsHandlerOf p) list xs → i < length list → (i < length xs) × IsHandlerOf p (get_or list i h) (get_or xs i 0)
  zip_at [] xs i h z l = absurd (omega (arith, l))
  zip_at (a ∷ list) [] i h z l = absurd z
  zip_at (a ∷ list) (x ∷ xs) zero h z l = (omega arith, z.0)
  zip_at (a ∷ list) (x ∷ xs) (suc i) h z l = let w = zip_at list xs i h z.1 (omega (arith, l)) in (let m = w.0 in omega (arith, m), w.1)

  as_long : (list : List HandlerAs) (xs : List ℕ) → AllZip (IsHandlerOf p) list xs → length list ≡ length xs
  as_long [] [] z = refl
  as_long [] (x ∷ xs) z = absurd z
  as_long (a ∷ list) [] z = absurd z
  as_long (a ∷ list) (x ∷ xs) z = ap suc (as_long list xs z.1)

  pub handler_entry : (list : List HandlerAs) (i : ℕ) (h : HandlerAs) → AreHandlersOf p list → i < length list → (get_or list i h).entry ≡ entry p (get_or list i h).function
  handler_entry list i h are l = let is = (zip_at list (handlers p) i h are l).1 in is.entry ∙ ap (entry p) (sym is.function)

  pub handlers_on : {B : Type 0} (f : ℕ → List B) (list : List HandlerAs) (i : ℕ) (h : HandlerAs) (old now new : List B) → AreHandlersOf p list → i < length list → now ≡ old ++ flat_map f (take i (handlers p)) → new ≡ now ++ f (get_or list i h).function →
      new ≡ old ++ flat_map f (take (i + 1) (handlers p))
  handlers_on f list i h old now new are l e g =
      let w = zip_at list (handlers p) i h are l in
      let is = w.1 in
      put_each f (handlers p) i 0 old now new w.0 e (g ∙ ap (λ x. now ++ f x) is.function)

  pub handlers_all : (list : List HandlerAs) (i : ℕ) → AreHandlersOf p list → length list ≤ i → take i (handlers p) ≡ handlers p
  handlers_all list i are past = let l = as_long list (handlers p) are in take_all i (handlers p) (omega (arith, past, l))

-- ---- a constraint

pub by_default : (r : Rule) (first start others : List ℕ) → (r ≡ rule.Initial → ⊥) → (r ≡ rule.Start → ⊥) → by_rule r first start others ≡ others
by_default rule.Initial first start others h k = absurd (h refl)
by_default rule.Start first start others h k = absurd (k refl)
by_default rule.Flow first start others h k = refl
by_default rule.Write first start others h k = refl
by_default rule.Touch first start others h k = refl
by_default rule.Call first start others h k = refl
by_default rule.Back first start others h k = refl
by_default rule.Return first start others h k = refl
by_default rule.Handler first start others h k = refl
by_default rule.Stability first start others h k = refl

pub again_by : {I : Type 0} (p : Program) (facts : Facts I) (r : Rule) (n : ℕ) → again_of p facts (at_point n (rule_view r)) ≡ by_rule r (whole_readers p facts EachKey) (start_readers p n) (again_at p facts (rule_view r) n (slice_get (flow_of p).points n))
again_by p facts rule.Initial n = refl
again_by p facts rule.Start n = refl
again_by p facts rule.Flow n = refl
again_by p facts rule.Write n = refl
again_by p facts rule.Touch n = refl
again_by p facts rule.Call n = refl
again_by p facts rule.Back n = refl
again_by p facts rule.Return n = refl
again_by p facts rule.Handler n = refl
again_by p facts rule.Stability n = refl
