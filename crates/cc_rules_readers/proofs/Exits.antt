-- Which functions a point is the exit of: at most its own.
use Rattle.std.proofs.Common.{arith, ◌≡◌, ◌+◌, ◌<◌, ℕ, zero, suc, Bool, true, false, true≢false, cond, List, [], ◌∷◌, ◌++◌, map, length, append-nil, Option, Some, None, slice_get, refl, sym, ap, ◌∙◌}
use Rattle.std.specs.Prelude.{◌==◌, nat_lt}
use Rattle.std.specs.List.{filter, flat_map}
use Rattle.std.proofs.lemmas.Option.{same_Some, none-some, slice_get_within}
use Rattle.cc_rules_asked.proofs.CcFlow.Inside.{body_inside}
use Rattle.cc_rules_asked.proofs.CcFlow.Paths.{body_counted}
use Rattle.cc_rules_asked.specs.CcFlow.declared.types.Point.{Point}
use Rattle.cc_rules_asked.specs.CcFlow.Laws.{IsIn}
use Rattle.cc_rules_asked.specs.CcFlow.Points.{total_of, body_count, body_points, flow_of}
use Rattle.cc_rules_asked.proofs.CcFlowSound.Numbered.{point_of}
use Rattle.cc_rules_asked.specs.CcFlowSound.Moves.{entry}
use Rattle.cc_program.specs.declared.func.Func.{Func}
use Rattle.cc_program.specs.declared.program.Program.{Program}
use Rattle.cc_rules_asked.specs.CcRules.Constraints.{Back}
use Rattle.cc_rules_again.specs.Again.{number_at, ids, exit_is, own, point_readers, result_readers}
use Rattle.cc_rules_asked.specs.CcRulesFlows.Nexts.{exit_of}
use Rattle.cc_rules_functions.specs.declared.functions.Function.{Function}
use Rattle.cc_rules_functions.specs.Functions.{AreFunctionsOf}
use Rattle.cc_rules_here.proofs.Owned.{owned, all_there}
use Rattle.cc_rules_readers.specs.declared.deeds.Deed.{Deed}
use Rattle.cc_rules_readers.specs.Points.{points_that, may_call_in, own_numbers, ends_at}
use Rattle.cc_rules_readers.specs.View.{IsDeedAt, AreDeeds}
use Rattle.cc_rules_readers.proofs.Doing.{no_point, at_point, callers_are}
use Rattle.cc_rules_readers.proofs.Numbers.{are_equal, none_passes, one_passes, not_passed}

some_there : {A : Type 0} (xs : List A) (n : ℕ) → n < length xs → (x : A) × (slice_get xs n ≡ Some x)
some_there [] n l = absurd (omega (arith, l))
some_there (x ∷ xs) zero l = (x, refl)
some_there (x ∷ xs) (suc n) l = some_there xs n (omega (arith, l))

exit_there : (p : Program) (id : ℕ) (f : Func) → slice_get p.funcs id ≡ Some f → (q : Point) × (slice_get (flow_of p).points (exit_of p id f) ≡ Some q) × (q.func ≡ id)
exit_there p id f function =
    let first = entry p id in
    let counted = body_counted id first f.body in
    let w = some_there (body_points id first f.body) (total_of f.body) (omega (arith, counted)) in
    (w.0, point_of p id f function (total_of f.body) (omega arith) ∙ w.1, (all_there (IsIn id first (first + body_count f.body)) (body_points id first f.body) (total_of f.body) w.0 (body_inside id first f.body) w.1).own)

module _ (p : Program) (n : ℕ) where
  abbrev ends : ℕ → Bool
  ends g = exit_is p n g (slice_get p.funcs g)

  -- a point that ends a function is one of it
  its_point : (g : ℕ) (o : Option Func) → slice_get p.funcs g ≡ o → exit_is p n g o ≡ true → (q : Point) × (slice_get (flow_of p).points n ≡ Some q) × (q.func ≡ g)
  its_point g None e h = absurd (true≢false (sym h))
  its_point g (Some f) e h = let w = exit_there p g f e in (w.0, ap (slice_get (flow_of p).points) (sym (are_equal (exit_of p g f) n h)) ∙ w.1, w.2)

  none_ends : slice_get (flow_of p).points n ≡ None → filter ends (ids p) ≡ []
  none_ends e = none_passes ends 0 (length p.funcs) (λ g l m. not_passed (ends g) (λ h. let w = its_point g (slice_get p.funcs g) refl h in none-some w.0 (sym e ∙ w.1)))

  its_own : (q : Point) → slice_get (flow_of p).points n ≡ Some q → filter ends (ids p) ≡ cond (ends q.func) (q.func ∷ []) []
  its_own q e = one_passes ends q.func (length p.funcs) (owned p n q e) (λ g h. let w = its_point g (slice_get p.funcs g) refl h in sym w.2 ∙ ap (λ (x : Point). x.func) (same_Some w.0 q (sym w.1 ∙ e)))

  -- as the code has functions
  ends_by : (functions : List Function) (g : ℕ) (o : Option Function) (r : Option Func) → AreFunctionsOf p functions → slice_get functions g ≡ o → slice_get p.funcs g ≡ r → ends_at n o ≡ exit_is p n g r
  ends_by functions g None None are e h = refl
  ends_by functions g None (Some f) are e h = let l = slice_get_within p.funcs g f h in let c = are.count in let w = some_there functions g (omega (arith, l, c)) in absurd (none-some w.0 (sym e ∙ w.1))
  ends_by functions g (Some made) None are e h = absurd (none-some made.func.now (sym h ∙ (are.each g made e).func))
  ends_by functions g (Some made) (Some f) are e h =
      let m = are.each g made e in
      ap (λ x. x == n) (m.exit ∙ ap (exit_of p g) (same_Some made.func.now f (sym m.func ∙ h)))

  own_here : n < length (flow_of p).points → own p n ≡ own_numbers n
  own_here l = let t : nat_lt n (length (flow_of p).points) ≡ true = grind (arith, l) in ap (λ b. cond b (own_numbers n) []) t

  own_past : slice_get (flow_of p).points n ≡ None → own p n ≡ []
  own_past e = ap (λ b. cond b (own_numbers n) []) (not_passed (nat_lt n (length (flow_of p).points)) (λ h. let l : n < length (flow_of p).points = grind (arith, h) in let w = some_there (flow_of p).points n l in none-some w.0 (sym e ∙ w.1)))

  -- ---- who reads what is known there

  flat_one : (b : Bool) (g : ℕ) → flat_map (result_readers p) (cond b (g ∷ []) []) ≡ cond b (result_readers p g) []
  flat_one true g = append-nil (result_readers p g)
  flat_one false g = refl

  pub no_readers : (deeds : List Deed) → AreDeeds p deeds → slice_get deeds n ≡ None → point_readers p n ≡ []
  no_readers deeds are e =
      let none = no_point (IsDeedAt p) (flow_of p).points deeds n are e in
      ap (λ xs. xs ++ flat_map (result_readers p) (filter ends (ids p))) (own_past none) ∙ ap (flat_map (result_readers p)) (none_ends none)

  pub its_readers : (deeds : List Deed) (functions : List Function) (deed : Deed) → AreDeeds p deeds → AreFunctionsOf p functions → slice_get deeds n ≡ Some deed →
      point_readers p n ≡ own_numbers n ++ cond (ends_at n (slice_get functions deed.func)) (map (number_at Back) (points_that deeds (may_call_in deed.func))) []
  its_readers deeds functions deed are fs e =
      let w = at_point (IsDeedAt p) (flow_of p).points deeds n deed are e in
      let q = w.0 in
      let by = w.2.2 in
      ap (λ xs. xs ++ flat_map (result_readers p) (filter ends (ids p))) (own_here (slice_get_within (flow_of p).points n q w.1))
      ∙ ap (λ ys. own_numbers n ++ ys)
      (ap (flat_map (result_readers p)) (its_own q w.1)
      ∙ (flat_one (ends q.func) q.func
      ∙ (ap (λ g. cond (ends g) (result_readers p g) []) (sym by.func)
      ∙ (ap (λ b. cond b (result_readers p deed.func) []) (sym (ends_by functions deed.func (slice_get functions deed.func) (slice_get p.funcs deed.func) fs refl refl))
      ∙ ap (λ ys. cond (ends_at n (slice_get functions deed.func)) ys []) (callers_are p deeds are deed.func)))))
