-- What statements do, point by point; and constraints at points whose statements do something.
use Rattle.std.proofs.Common.{arith, ◌≡◌, ◌≤◌, ℕ, zero, suc, Bool, true, List, [], ◌∷◌, ◌++◌, map, length, Some, None, is_some, slice_get, refl, sym, ap, subst, ◌∙◌}
use Rattle.std.specs.Prelude.{◌==◌}
use Rattle.std.specs.List.{AllZip, filter, flat_map}
use Rattle.std.proofs.lemmas.List.Elements.{filter_agree}
use Rattle.std.proofs.lemmas.Option.{same_Some, none-some}
use Rattle.cc_rules_asked.proofs.CcFlow.Paths.{all_counted}
use Rattle.cc_rules_asked.specs.CcFlow.declared.types.Point.{Point}
use Rattle.cc_rules_asked.specs.CcFlow.Points.{count_of, flow_of}
use Rattle.cc_program.specs.declared.expr.Expr.{Expr, out-Expr}
use Rattle.cc_program.specs.declared.expr.Expr.TheOpen as one
use Rattle.cc_program.specs.declared.expr.Place.{Place}
use Rattle.cc_program.specs.declared.func.Func.{Func}
use Rattle.cc_program.specs.declared.program.Program.{Program}
use Rattle.cc_rules_asked.specs.CcRegisters.Kept.{AreKept}
use Rattle.cc_rules_asked.specs.CcRules.Constraints.{Rule, Touch, Call, Back, Handler, Stability}
use Rattle.cc_rules_asked.specs.CcRules.Rules.{act_at}
use Rattle.cc_rules_again.specs.Again.{number_at, at_each, does, does_in, is_callee, may_call, is_call, read, result_readers, reach_readers}
use Rattle.cc_rules_asked.specs.CcRulesFlows.Acts.{Act, Reads, Calls}
use Rattle.cc_rules_asked.specs.CcRulesFlows.Nexts.{statement_of}
use Rattle.cc_rules_functions.specs.declared.functions.Function.{Function}
use Rattle.cc_rules_functions.specs.Functions.{AreFunctionsOf}
use Rattle.cc_rules_here.proofs.Marked.{marks_there}
use Rattle.cc_rules_here.proofs.Owned.{owned, within_some}
use Rattle.cc_rules_asked.specs.CcRulesNeeds.Flowing.{numbers}
use Rattle.cc_rules_readers.specs.declared.deeds.Deed.{Deed}
use Rattle.cc_rules_readers.specs.Points.{on, points_that, is_of, may_call_in, reach_numbers}
use Rattle.cc_rules_readers.specs.View.{named_view, calls_it, is_some_call, callee_of, called_of, read_in, IsDeedBy, IsDeedAt, AreDeeds}
use Rattle.cc_rules_readers.proofs.Numbers.{either_way}
use Rattle.cc_rules_asked.specs.CcStateKeys.Tracked.{tracked}

-- ---- the function of a point, and its marks

module _ (p : Program) (n : ℕ) (q : Point) (there : slice_get (flow_of p).points n ≡ Some q) where
  pub function_there : (functions : List Function) → AreFunctionsOf p functions → is_some (slice_get functions q.func) ≡ true
  function_there functions are = let k = owned p n q there in let c = are.count in within_some functions q.func (omega (arith, k, c))

  pub marks_of_function : (functions : List Function) (marks : List (List Bool)) (f : Function) → AreFunctionsOf p functions → AllZip AreKept p.funcs marks → slice_get functions q.func ≡ Some f → is_some (slice_get marks q.func) ≡ true
  marks_of_function functions marks f are kept at = marks_there p marks q.func f.func.now kept (are.each q.func f at).func

  pub deed_made : (functions : List Function) (f : Function) (cells : List ℕ) (act : Act) (deed : Deed) → AreFunctionsOf p functions → slice_get functions q.func ≡ Some f → cells ≡ tracked p → act ≡ act_at (statement_of f.func.now q) f.func.now →
      IsDeedBy cells q.func act deed → IsDeedAt p q deed
  deed_made functions f cells act deed are at e same by =
      (f.func.now, (are.each q.func f at).func, subst (λ (xs : List ℕ). IsDeedBy xs q.func (act_at (statement_of f.func.now q) f.func.now) deed) e (subst (λ (a : Act). IsDeedBy cells q.func a deed) same by))

-- ---- what a statement calls and reads

calls_by : (x : one.Expr-F Expr Place) (g : ℕ) → calls_it (callee_of x) g ≡ is_callee x g
calls_by (one.FuncAddr h) g = refl
calls_by _ g = refl

is_call_by : (x : one.Expr-F Expr Place) → is_some_call (callee_of x) ≡ true
is_call_by (one.FuncAddr h) = refl
is_call_by _ = refl

calls_of : (act : Act) (g : ℕ) → calls_it (called_of act) g ≡ may_call act g
calls_of (Calls result e args) g = calls_by (out-Expr e) g
calls_of _ g = refl

some_call_of : (act : Act) → is_some_call (called_of act) ≡ is_call act
some_call_of (Calls result e args) = is_call_by (out-Expr e)
some_call_of _ = refl

read_of : (p : Program) (id : ℕ) (act : Act) → read_in (tracked p) id act ≡ read p id act
read_of p id (Reads r a) = refl
read_of p id _ = refl

pub calls_deed : (cells : List ℕ) (id : ℕ) (act : Act) (deed : Deed) → IsDeedBy cells id act deed → (g : ℕ) → calls_it deed.called g ≡ may_call act g
calls_deed cells id act deed by g = ap (λ c. calls_it c g) by.called ∙ calls_of act g

pub some_call_deed : (cells : List ℕ) (id : ℕ) (act : Act) (deed : Deed) → IsDeedBy cells id act deed → is_some_call deed.called ≡ is_call act
some_call_deed cells id act deed by = ap is_some_call by.called ∙ some_call_of act

pub read_deed : (p : Program) (id : ℕ) (act : Act) (deed : Deed) → IsDeedBy (tracked p) id act deed → named_view deed.read ≡ read p id act
read_deed p id act deed by = by.read ∙ read_of p id act

-- ---- constraints at points whose statements do something

module _ (p : Program) (test : ℕ → Act → Bool) (passes : Deed → Bool)
    (agree : (id : ℕ) (f : Func) (act : Act) (deed : Deed) → slice_get p.funcs id ≡ Some f → IsDeedBy (tracked p) id act deed → test id act ≡ passes deed) where
  does_same : (points : List Point) (deeds : List Deed) → AllZip (IsDeedAt p) points deeds → (n : ℕ) → does p test (slice_get points n) ≡ on passes (slice_get deeds n)
  does_same [] [] z n = refl
  does_same [] (d ∷ deeds) z n = absurd z
  does_same (q ∷ points) [] z n = absurd z
  does_same (q ∷ points) (d ∷ deeds) z zero = let w = z.0 in ap (does_in p test q) w.1 ∙ agree q.func w.0 (act_at (statement_of w.0 q) w.0) d w.1 w.2
  does_same (q ∷ points) (d ∷ deeds) z (suc n) = does_same points deeds z.1 n

pub as_long : {A B : Type 0} (R : A → B → Type 0) (xs : List A) (ys : List B) → AllZip R xs ys → length xs ≡ length ys
as_long R [] [] z = refl
as_long R [] (y ∷ ys) z = absurd z
as_long R (x ∷ xs) [] z = absurd z
as_long R (x ∷ xs) (y ∷ ys) z = ap suc (as_long R xs ys z.1)

pub few_deeds : (p : Program) (deeds : List Deed) → AreDeeds p deeds → count_of p ≤ 65536 → length deeds ≤ 65536
few_deeds p deeds are few = let l = as_long (IsDeedAt p) (flow_of p).points deeds are in let c = all_counted p in omega (arith, l, c, few)

-- both there, or neither
pub no_point : {A B : Type 0} (R : A → B → Type 0) (xs : List A) (ys : List B) (n : ℕ) → AllZip R xs ys → slice_get ys n ≡ None → slice_get xs n ≡ None
no_point R [] ys n z e = refl
no_point R (x ∷ xs) [] n z e = absurd z
no_point R (x ∷ xs) (y ∷ ys) zero z e = absurd (none-some y (sym e))
no_point R (x ∷ xs) (y ∷ ys) (suc n) z e = no_point R xs ys n z.1 e

pub at_point : {A B : Type 0} (R : A → B → Type 0) (xs : List A) (ys : List B) (n : ℕ) (y : B) → AllZip R xs ys → slice_get ys n ≡ Some y → (x : A) × (slice_get xs n ≡ Some x) × R x y
at_point R xs [] n y z e = absurd (none-some y e)
at_point R [] (b ∷ ys) n y z e = absurd z
at_point R (x ∷ xs) (b ∷ ys) zero y z e = (x, refl, subst (R x) (same_Some b y e) z.0)
at_point R (x ∷ xs) (b ∷ ys) (suc n) y z e = at_point R xs ys n y z.1 e

module _ (p : Program) (deeds : List Deed) (are : AreDeeds p deeds) where
  pub at_those : (test : ℕ → Act → Bool) (passes : Deed → Bool) → ((id : ℕ) (f : Func) (act : Act) (deed : Deed) → slice_get p.funcs id ≡ Some f → IsDeedBy (tracked p) id act deed → test id act ≡ passes deed) →
      (rule : Rule) → at_each p rule test ≡ map (number_at rule) (points_that deeds passes)
  at_those test passes agree rule =
      ap (λ n. map (number_at rule) (filter (λ n. does p test (slice_get (flow_of p).points n)) (numbers 0 n))) (as_long (IsDeedAt p) (flow_of p).points deeds are)
      ∙ ap (map (number_at rule)) (filter_agree (λ n. does p test (slice_get (flow_of p).points n)) (λ n. on passes (slice_get deeds n)) (does_same p test passes agree (flow_of p).points deeds are) (numbers 0 (length deeds)))

  pub callers_are : (g : ℕ) → result_readers p g ≡ map (number_at Back) (points_that deeds (may_call_in g))
  callers_are g = at_those (λ id act. may_call act g) (may_call_in g) (λ id f act deed there by. sym (calls_deed (tracked p) id act deed by g)) Back

  of_function : (g : ℕ) (rule : Rule) → at_each p rule (λ id act. id == g) ≡ map (number_at rule) (points_that deeds (is_of g))
  of_function g rule = at_those (λ id act. id == g) (is_of g) (λ id f act deed there by. either_way id g ∙ ap (λ n. g == n) (sym by.func)) rule

  reached_each : (g : ℕ) (rules : List Rule) → flat_map (λ rule. at_each p rule (λ id act. id == g)) rules ≡ flat_map (λ rule. map (number_at rule) (points_that deeds (is_of g))) rules
  reached_each g [] = refl
  reached_each g (rule ∷ rules) =
      ap (λ xs. xs ++ flat_map (λ rule. at_each p rule (λ id act. id == g)) rules) (of_function g rule)
      ∙ ap (λ ys. map (number_at rule) (points_that deeds (is_of g)) ++ ys) (reached_each g rules)

  pub reached_are : (g : ℕ) → reach_readers p g ≡ reach_numbers (points_that deeds (is_of g))
  reached_are g = reached_each g (Touch ∷ Call ∷ Handler ∷ Stability ∷ [])
