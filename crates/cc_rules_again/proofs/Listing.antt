-- Each constraint that reads what another one raises is listed.
use Rattle.std.proofs.Common.{arith, ◌≡◌, ◌⊎◌, inl, inr, ℕ, ◌<◌, Bool, true, false, true≢false, ◌&&◌, [], ◌∷◌, ◌++◌, map, length, Contains, Option, Some, None, slice_get, refl, sym, ap, subst, ◌∙◌}
use Rattle.std.specs.Prelude.{◌==◌, is_none, if◌then◌else◌}
use Rattle.std.specs.List.{filter, flat_map}
use Rattle.std.proofs.lemmas.List.Elements.{Contains-append_left, Contains-append_right}
use Rattle.std.proofs.lemmas.Map.Keys.{any_passes_from_place}
use Rattle.std.proofs.lemmas.Option.{slice_get_within}
use Rattle.cc_rules_grow.proofs.CcFlow.Paths.{all_counted}
use Rattle.cc_rules_grow.specs.CcFlow.declared.types.Point.{Point}
use Rattle.cc_rules_grow.specs.CcFlow.Points.{count_of, flow_of}
use Rattle.cc_rules_grow.specs.CcFlowSound.Moves.{entry}
use Rattle.cc_rules_grow.specs.CcPlaces.laws.ListLaws.{and_true, cons_cases}
use Rattle.cc_program.specs.declared.expr.Expr.{Expr, out-Expr}
use Rattle.cc_program.specs.declared.expr.Expr.TheOpen as one
use Rattle.cc_program.specs.declared.expr.Place.{Place, out-Place}
use Rattle.cc_program.specs.declared.func.Func.{Func}
use Rattle.cc_program.specs.declared.program.Program.{Program}
use Rattle.cc_rules_grow.specs.CcRules.Constraints.{Rule, Initial, Start, Flow, Write, Touch, Call, Back, Return, Handler, Stability, Constraint, at_point, rules_at, constraints}
use Rattle.cc_rules_grow.specs.CcRules.Rules.{act_at, handlers}
use Rattle.cc_rules_again.proofs.Alike.{later}
use Rattle.cc_rules_again.proofs.Lists.{is_equal, is_less, number_below, number_there, flat_there}
use Rattle.cc_rules_again.proofs.Naming.{one_key, may_concern, meet}
use Rattle.cc_rules_again.specs.Again.{number_at, number_of, is_callee, may_call, is_call, returns, written, accessed, read, ids, does_in, does, at_each, result_readers, exit_is, own, point_readers, reach_readers, through_pointers, touch_readers, entry_readers, is_entered, is_unstable, whole_readers, call_readers, again_here, again_in, again_at, again_of}
use Rattle.cc_rules_again.specs.Named.{Named, NoKey, LocalsOf, EachKey, concerns, is_named, is_each, named}
use Rattle.cc_rules_again.specs.Things.{Thing, OfPoint, OfWhole, OfResult, OfReach, OfTouch, IsCalledBy, RaisesHere, ByFlow, ByWrite, ByTouchOfRead, ByTouchOfWrite, ByCall, ByEntry, ByArgument, ByBack, ByReturn, ByHandler, ByHandlerEntry, ByStability, ReadsHere, OfRead, OfReached, OfGiven, OfExit, OfWriters, OfUnstable, Raises, AtFirst, AtMain, AtMainEntry, AtPoint, ReadsThing, ItsPoint, Beside}
use Rattle.cc_rules_grow.specs.CcRulesFlows.Acts.{Act, Reads, Writes}
use Rattle.cc_rules_grow.specs.CcRulesFlows.Nexts.{IsPoint, statement_of, exit_of}
use Rattle.cc_rules_grow.proofs.Elements.{Each, each_at, in_map, in_filter, map_contained}
use Rattle.cc_rules_grow.specs.CcRulesNeeds.Flowing.{numbers}
use Rattle.cc_rules_reads.specs.Reads.{MayName, MayCall}
use Rattle.cc_rules_grow.proofs.CcState.Lists.{from_flat}
use Rattle.cc_rules_grow.specs.CcStateFacts.declared.facts.Facts.{Facts}
use Rattle.cc_rules_grow.specs.CcStateFacts.declared.facts.Key.{Key}
use Rattle.cc_rules_grow.specs.CcStateFacts.declared.facts.Key.TheVariants as key
use Rattle.cc_rules_grow.specs.CcStateKeys.Keys.{key_number}
use Rattle.cc_rules_grow.specs.CcStateKeys.Tracked.{tracked}
use Rattle.cc_rules_grow.specs.CcStateReads.Reads.{tracked_in}

-- ---- rules of points

abbrev is_later : Rule → Bool
is_later Initial = false
is_later Start = false
is_later Flow = true
is_later Write = true
is_later Touch = true
is_later Call = true
is_later Back = true
is_later Return = true
is_later Handler = true
is_later Stability = true

all_later : Each (λ rule. is_later rule ≡ true) later
all_later = (refl, (refl, (refl, (refl, (refl, (refl, (refl, (refl, tt))))))))

in_later : (rule : Rule) → Contains later rule → is_later rule ≡ true
in_later rule c = each_at (λ r. is_later r ≡ true) later rule all_later c

in_four : (rule : Rule) → Contains (Touch ∷ Call ∷ Handler ∷ Stability ∷ []) rule → is_later rule ≡ true
in_four rule c = each_at (λ r. is_later r ≡ true) (Touch ∷ Call ∷ Handler ∷ Stability ∷ []) rule (refl, (refl, (refl, (refl, tt)))) c

numbered : (rule : Rule) (n : ℕ) → is_later rule ≡ true → number_of (at_point n rule) ≡ number_at rule n
numbered Initial n h = absurd (true≢false (sym h))
numbered Start n h = refl
numbered Flow n h = refl
numbered Write n h = refl
numbered Touch n h = refl
numbered Call n h = refl
numbered Back n h = refl
numbered Return n h = refl
numbered Handler n h = refl
numbered Stability n h = refl

-- ---- calls

callee_there : (e : Expr) (g : ℕ) → MayCall e g → is_callee (out-Expr e) g ≡ true
callee_there e g may = by (out-Expr e) refl
  where
    by : (x : one.Expr-F Expr Place) → out-Expr e ≡ x → is_callee x g ≡ true
    by (one.FuncAddr h) is = is_equal g h (may h is)
    by _ is = refl

module _ (p : Program) where
  called_there : (act : Act) (g : ℕ) (callee : Func) → IsCalledBy p act g callee → may_call act g ≡ true
  called_there act g callee (result, e, args, is, may, there) = subst (λ (a : Act). may_call a g ≡ true) (sym is) (callee_there e g may)

  call_there : (act : Act) (g : ℕ) (callee : Func) → IsCalledBy p act g callee → is_call act ≡ true
  call_there act g callee (result, e, args, is, may, there) = subst (λ (a : Act). is_call a ≡ true) (sym is) refl

  id_there : (act : Act) (g : ℕ) (callee : Func) → IsCalledBy p act g callee → Contains (ids p) g
  id_there act g callee (result, e, args, is, may, there) = number_there (length p.funcs) g (slice_get_within p.funcs g callee there)

  -- ---- at a point

  module _ (n id : ℕ) (f : Func) (point : Point) (at : IsPoint p n id f point) where
    abbrev act : Act
    act = act_at (statement_of f point) f

    own_function : slice_get p.funcs point.func ≡ Some f
    own_function = subst (λ (i : ℕ). slice_get p.funcs i ≡ Some f) (sym at.own) at.function

    does_there : (test : ℕ → Act → Bool) → test id act ≡ true → does p test (slice_get (flow_of p).points n) ≡ true
    does_there test h =
        subst (λ (o : Option Point). does p test o ≡ true) (sym at.numbered)
        (subst (λ (o : Option Func). does_in p test point o ≡ true) (sym own_function) (subst (λ (i : ℕ). test i act ≡ true) (sym at.own) h))

    each_there : (rule : Rule) (test : ℕ → Act → Bool) → test id act ≡ true → Contains (at_each p rule test) (number_at rule n)
    each_there rule test h =
        in_map (number_at rule) (filter (λ m. does p test (slice_get (flow_of p).points m)) (numbers 0 (length (flow_of p).points))) n
        (in_filter (λ m. does p test (slice_get (flow_of p).points m)) (numbers 0 (length (flow_of p).points)) n (number_there (length (flow_of p).points) n (slice_get_within (flow_of p).points n point at.numbered)) (does_there test h))

  own_there : (n : ℕ) (rule : Rule) → n < length (flow_of p).points → Contains later rule → Contains (own p n) (number_at rule n)
  own_there n rule l c = subst (λ (b : Bool). Contains (if b then map (λ rule. number_at rule n) later else []) (number_at rule n)) (sym (is_less n (length (flow_of p).points) l)) (in_map (λ rule. number_at rule n) later rule c)

  exit_there : (g : ℕ) (callee : Func) → slice_get p.funcs g ≡ Some callee → exit_is p (exit_of p g callee) g (slice_get p.funcs g) ≡ true
  exit_there g callee there = subst (λ (o : Option Func). exit_is p (exit_of p g callee) g o ≡ true) (sym there) (is_equal (exit_of p g callee) (exit_of p g callee) refl)

  -- ---- who reads a thing

  module _ {I : Type 0} (facts : Facts I) where
    abbrev IsAmong : ℕ → Named → Type 0
    IsAmong number keys = (k : Key) → key_number p k ≡ Some number → concerns keys k ≡ true

    abbrev IsListed : ℕ → Thing → Type 0
    IsListed x (OfPoint n) = Contains (point_readers p n) x
    IsListed x (OfResult g) = Contains (result_readers p g) x
    IsListed x (OfReach g) = Contains (reach_readers p g) x
    IsListed x (OfWhole number) = (keys : Named) → IsAmong number keys → Contains (whole_readers p facts keys) x
    IsListed x (OfTouch number) = (keys : Named) → IsAmong number keys → Contains (touch_readers p keys) x

    module _ (n id : ℕ) (f : Func) (point : Point) (at : IsPoint p n id f point) where
      result_there : (g : ℕ) (callee : Func) → IsCalledBy p (act n id f point at) g callee → Contains (result_readers p g) (number_at Back n)
      result_there g callee called = each_there n id f point at Back (λ id act. may_call act g) (called_there (act n id f point at) g callee called)

      read_is : (r : ℕ) (a : Place) → act n id f point at ≡ Reads r a → tracked_in p (out-Place a) ≡ None → read p id (act n id f point at) ≡ named id a
      read_is r a is untracked = ap (read p id) is ∙ ap (λ (o : Option ℕ). if is_none o then named id a else NoKey) untracked

      flow_there : (keys : Named) → (is_named keys (read p id (act n id f point at)) ≡ true) ⊎ (is_each (read p id (act n id f point at)) ≡ true) → Contains (whole_readers p facts keys) (number_at Flow n)
      flow_there keys (inl h) = Contains-append_left (at_each p Flow (λ id act. is_named keys (read p id act))) (through_pointers p ++ at_each p Stability (λ id act. is_unstable p facts keys id)) (number_at Flow n) (each_there n id f point at Flow (λ id act. is_named keys (read p id act)) h)
      flow_there keys (inr h) = Contains-append_right (at_each p Flow (λ id act. is_named keys (read p id act))) (through_pointers p ++ at_each p Stability (λ id act. is_unstable p facts keys id)) (number_at Flow n)
          (Contains-append_left (through_pointers p) (at_each p Stability (λ id act. is_unstable p facts keys id)) (number_at Flow n) (each_there n id f point at Flow (λ id act. is_each (read p id act)) h))

      stability_there : (keys : Named) → is_unstable p facts keys id ≡ true → Contains (whole_readers p facts keys) (number_at Stability n)
      stability_there keys h = Contains-append_right (at_each p Flow (λ id act. is_named keys (read p id act))) (through_pointers p ++ at_each p Stability (λ id act. is_unstable p facts keys id)) (number_at Stability n)
          (Contains-append_right (through_pointers p) (at_each p Stability (λ id act. is_unstable p facts keys id)) (number_at Stability n) (each_there n id f point at Stability (λ id act. is_unstable p facts keys id) h))

      read_here : (rule : Rule) (t : Thing) → ReadsHere p n id f point (act n id f point at) facts rule t → IsListed (number_at rule n) t
      read_here rule t (OfRead r number a k is_flow is untracked may at_k e) =
          subst (λ (q : Thing). IsListed (number_at rule n) q) (sym e) (subst (λ (q : Rule). IsListed (number_at q n) (OfWhole number)) (sym is_flow)
          (λ keys among. flow_there keys (meet keys (read p id (act n id f point at)) k (among k at_k) (ap (λ (x : Named). concerns x k) (read_is r a is untracked) ∙ may_concern id p f k a may))))
      read_here rule t (OfReached c e) =
          subst (λ (q : Thing). IsListed (number_at rule n) q) (sym e)
          (flat_there (λ rule. at_each p rule (λ other act. other == id)) (Touch ∷ Call ∷ Handler ∷ Stability ∷ []) rule (number_at rule n) c (each_there n id f point at rule (λ other act. other == id) (is_equal id id refl)))
      read_here rule t (OfGiven g callee is_back called e) = subst (λ (q : Thing). IsListed (number_at rule n) q) (sym e) (subst (λ (q : Rule). IsListed (number_at q n) (OfResult g)) (sym is_back) (result_there g callee called))
      read_here rule t (OfExit g callee is_back called e) =
          subst (λ (q : Thing). IsListed (number_at rule n) q) (sym e) (subst (λ (q : Rule). IsListed (number_at q n) (OfPoint (exit_of p g callee))) (sym is_back)
          (Contains-append_right (own p (exit_of p g callee)) (flat_map (result_readers p) (filter (λ h. exit_is p (exit_of p g callee) h (slice_get p.funcs h)) (ids p))) (number_at Back n)
          (flat_there (result_readers p) (filter (λ h. exit_is p (exit_of p g callee) h (slice_get p.funcs h)) (ids p)) g (number_at Back n)
          (in_filter (λ h. exit_is p (exit_of p g callee) h (slice_get p.funcs h)) (ids p) g (id_there (act n id f point at) g callee called) (exit_there g callee called.5)) (result_there g callee called))))
      read_here rule t (OfWriters number is_stability (j, i, there, at_i) e) =
          subst (λ (q : Thing). IsListed (number_at rule n) q) (sym e) (subst (λ (q : Rule). IsListed (number_at q n) (OfTouch number)) (sym is_stability)
          (λ keys among. subst (λ (b : Bool). Contains (if b then at_each p Stability (λ id act. true) else []) (number_at Stability n)) (sym (any_passes_from_place (λ i. concerns keys (key.Object i)) (tracked p) j i there (among (key.Object i) at_i)))
          (each_there n id f point at Stability (λ id act. true) refl)))
      read_here rule t (OfUnstable number is_stability (j, i, there, at_i) enters e) =
          subst (λ (q : Thing). IsListed (number_at rule n) q) (sym e) (subst (λ (q : Rule). IsListed (number_at q n) (OfWhole number)) (sym is_stability)
          (λ keys among. stability_there keys (any_passes_from_place (λ i. concerns keys (key.Object i) && is_entered p facts id (key_number p (key.Object i))) (tracked p) j i there
          (and_true (concerns keys (key.Object i)) (is_entered p facts id (key_number p (key.Object i))) (among (key.Object i) at_i) (subst (λ (o : Option ℕ). is_entered p facts id o ≡ true) (sym at_i) enters)))))

    later_here : (n id : ℕ) (f : Func) (point : Point) (done : Act) (rule : Rule) (t : Thing) → ReadsHere p n id f point done facts rule t → is_later rule ≡ true
    later_here n id f point done rule t (OfRead r number a k is_flow is untracked may at_k e) = ap is_later is_flow
    later_here n id f point done rule t (OfReached c e) = in_four rule c
    later_here n id f point done rule t (OfGiven g callee is_back called e) = ap is_later is_back
    later_here n id f point done rule t (OfExit g callee is_back called e) = ap is_later is_back
    later_here n id f point done rule t (OfWriters number is_stability tracks e) = ap is_later is_stability
    later_here n id f point done rule t (OfUnstable number is_stability tracks enters e) = ap is_later is_stability

    read_listed : (c : Constraint) (t : Thing) → c.point < length (flow_of p).points → ReadsThing p facts c t → IsListed (number_at c.rule c.point) t
    read_listed c t l (ItsPoint r e) = subst (λ (q : Thing). IsListed (number_at c.rule c.point) q) (sym e)
        (Contains-append_left (own p c.point) (flat_map (result_readers p) (filter (λ g. exit_is p c.point g (slice_get p.funcs g)) (ids p))) (number_at c.rule c.point) (own_there c.point c.rule l r))
    read_listed c t l (Beside id f point at h) = read_here c.point id f point at c.rule t h

    read_later : (c : Constraint) (t : Thing) → ReadsThing p facts c t → is_later c.rule ≡ true
    read_later c t (ItsPoint r e) = in_later c.rule r
    read_later c t (Beside id f point at h) = later_here c.point id f point (act_at (statement_of f point) f) c.rule t h

    -- ---- who reads what a constraint raises

    one_among : (k : Key) (number : ℕ) (keys : Named) → key_number p k ≡ Some number → concerns keys k ≡ true → IsAmong number keys
    one_among k number keys at h l at' = ap (concerns keys) (one_key p l k number at' at) ∙ h

    module _ (n id : ℕ) (f : Func) (point : Point) (at : IsPoint p n id f point) (x : ℕ) where
      abbrev does_here : Act
      does_here = act_at (statement_of f point) f

      abbrev Again : Rule → Type 0
      Again rule = Contains (again_here p facts rule n point does_here) x

      in_again : (rule q : Rule) → rule ≡ q → Again q → Again rule
      in_again rule q e h = subst Again (sym e) h

      is_at : (t u : Thing) → t ≡ u → IsListed x t → IsListed x u
      is_at t u e h = subst (IsListed x) e h

      written_there : (a : Place) (e : Expr) (k : Key) → does_here ≡ Writes a e → MayName p id f k a → concerns (written point.func does_here) k ≡ true
      written_there a e k is may = ap (λ (z : Act). concerns (written point.func z) k) is ∙ (ap (λ (i : ℕ). concerns (named i a) k) at.own ∙ may_concern id p f k a may)

      accessed_write : (a : Place) (e : Expr) (k : Key) → does_here ≡ Writes a e → MayName p id f k a → concerns (accessed point.func does_here) k ≡ true
      accessed_write a e k is may = ap (λ (z : Act). concerns (accessed point.func z) k) is ∙ (ap (λ (i : ℕ). concerns (named i a) k) at.own ∙ may_concern id p f k a may)

      accessed_read : (r : ℕ) (a : Place) (k : Key) → does_here ≡ Reads r a → MayName p id f k a → concerns (accessed point.func does_here) k ≡ true
      accessed_read r a k is may = ap (λ (z : Act). concerns (accessed point.func z) k) is ∙ (ap (λ (i : ℕ). concerns (named i a) k) at.own ∙ may_concern id p f k a may)

      call_in : (g : ℕ) (callee : Func) → IsCalledBy p does_here g callee → Contains (call_readers p facts g) x → Again Call
      call_in g callee called h = flat_there (call_readers p facts) (filter (may_call does_here) (ids p)) g x (in_filter (may_call does_here) (ids p) g (id_there does_here g callee called) (called_there does_here g callee called)) h

      raised_here : (rule : Rule) (t : Thing) → RaisesHere p n id f point does_here rule t → IsListed x t → Again rule
      raised_here rule t (ByFlow k r c e) h = in_again rule Flow r (flat_there (point_readers p) point.next k x c (is_at t (OfPoint k) e h))
      raised_here rule t (ByWrite number r (a, value, k, is, may, at_k) e) h = in_again rule Write r (is_at t (OfWhole number) e h (written point.func does_here) (one_among k number (written point.func does_here) at_k (written_there a value k is may)))
      raised_here rule t (ByTouchOfRead number r (q, a, k, is, may, at_k) e) h = in_again rule Touch r (is_at t (OfTouch number) e h (accessed point.func does_here) (one_among k number (accessed point.func does_here) at_k (accessed_read q a k is may)))
      raised_here rule t (ByTouchOfWrite number r (a, value, k, is, may, at_k) e) h = in_again rule Touch r (is_at t (OfTouch number) e h (accessed point.func does_here) (one_among k number (accessed point.func does_here) at_k (accessed_write a value k is may)))
      raised_here rule t (ByCall g callee r called e) h = in_again rule Call r
          (call_in g callee called (Contains-append_left (entry_readers p g) (whole_readers p facts (LocalsOf g)) x (Contains-append_left (reach_readers p g) (point_readers p (entry p g)) x (is_at t (OfReach g) e h))))
      raised_here rule t (ByEntry g callee r called e) h = in_again rule Call r
          (call_in g callee called (Contains-append_left (entry_readers p g) (whole_readers p facts (LocalsOf g)) x (Contains-append_right (reach_readers p g) (point_readers p (entry p g)) x (is_at t (OfPoint (entry p g)) e h))))
      raised_here rule t (ByArgument g number callee r called (q, at_q) e) h = in_again rule Call r
          (call_in g callee called (Contains-append_right (entry_readers p g) (whole_readers p facts (LocalsOf g)) x (is_at t (OfWhole number) e h (LocalsOf g) (one_among (key.Local g q) number (LocalsOf g) at_q (is_equal g g refl)))))
      raised_here rule t (ByBack k g callee r called c e) h = in_again rule Back r
          (subst (λ (b : Bool). Contains (if b then flat_map (point_readers p) point.next else []) x) (sym (call_there does_here g callee called)) (flat_there (point_readers p) point.next k x c (is_at t (OfPoint k) e h)))
      raised_here rule t (ByReturn value r is e) h = in_again rule Return r
          (subst (λ (b : Bool). Contains (if b then result_readers p point.func else []) x) (sym (ap returns is)) (subst (λ (i : ℕ). Contains (result_readers p i) x) (sym at.own) (is_at t (OfResult id) e h)))
      raised_here rule t (ByHandler g r c e) h = in_again rule Handler r (flat_there (entry_readers p) (handlers p) g x c (Contains-append_left (reach_readers p g) (point_readers p (entry p g)) x (is_at t (OfReach g) e h)))
      raised_here rule t (ByHandlerEntry g r c e) h = in_again rule Handler r (flat_there (entry_readers p) (handlers p) g x c (Contains-append_right (reach_readers p g) (point_readers p (entry p g)) x (is_at t (OfPoint (entry p g)) e h)))
      raised_here rule t (ByStability r e) h = in_again rule Stability r (is_at t (OfPoint n) e h)

      at_there : (rule : Rule) → Again rule → Contains (again_at p facts rule n (slice_get (flow_of p).points n)) x
      at_there rule h =
          subst (λ (o : Option Point). Contains (again_at p facts rule n o) x) (sym at.numbered)
          (subst (λ (o : Option Func). Contains (again_in p facts rule n point o) x) (sym (own_function n id f point at)) h)

      raised_later : (rule : Rule) (t : Thing) → RaisesHere p n id f point does_here rule t → is_later rule ≡ true
      raised_later rule t (ByFlow k r c e) = ap is_later r
      raised_later rule t (ByWrite number r k e) = ap is_later r
      raised_later rule t (ByTouchOfRead number r k e) = ap is_later r
      raised_later rule t (ByTouchOfWrite number r k e) = ap is_later r
      raised_later rule t (ByCall g callee r called e) = ap is_later r
      raised_later rule t (ByEntry g callee r called e) = ap is_later r
      raised_later rule t (ByArgument g number callee r called k e) = ap is_later r
      raised_later rule t (ByBack k g callee r called c e) = ap is_later r
      raised_later rule t (ByReturn value r is e) = ap is_later r
      raised_later rule t (ByHandler g r c e) = ap is_later r
      raised_later rule t (ByHandlerEntry g r c e) = ap is_later r
      raised_later rule t (ByStability r e) = ap is_later r

    of_rule : (n x : ℕ) (rule : Rule) → is_later rule ≡ true → Contains (again_at p facts rule n (slice_get (flow_of p).points n)) x → Contains (again_of p facts (at_point n rule)) x
    of_rule n x Initial l h = absurd (true≢false (sym l))
    of_rule n x Start l h = absurd (true≢false (sym l))
    of_rule n x Flow l h = h
    of_rule n x Write l h = h
    of_rule n x Touch l h = h
    of_rule n x Call l h = h
    of_rule n x Back l h = h
    of_rule n x Return l h = h
    of_rule n x Handler l h = h
    of_rule n x Stability l h = h

    start_there : (n x : ℕ) → n ≡ entry p p.main → Contains (entry_readers p p.main) x → Contains (again_of p facts (at_point n Start)) x
    start_there n x e h = subst (λ (b : Bool). Contains (if b then entry_readers p p.main else []) x) (sym (is_equal n (entry p p.main) e)) h

    raised_listed : (c : Constraint) (t : Thing) (x : ℕ) → Raises p c t → IsListed x t → Contains (again_of p facts c) x
    raised_listed c t x (AtFirst k r l e) h = subst (λ (rule : Rule). Contains (again_of p facts (at_point c.point rule)) x) (sym r) (subst (IsListed x) e h EachKey (λ q at. refl))
    raised_listed c t x (AtMain r is e) h = subst (λ (rule : Rule). Contains (again_of p facts (at_point c.point rule)) x) (sym r)
        (start_there c.point x is (Contains-append_left (reach_readers p p.main) (point_readers p (entry p p.main)) x (subst (IsListed x) e h)))
    raised_listed c t x (AtMainEntry r is e) h = subst (λ (rule : Rule). Contains (again_of p facts (at_point c.point rule)) x) (sym r)
        (start_there c.point x is (Contains-append_right (reach_readers p p.main) (point_readers p (entry p p.main)) x (subst (λ (n : ℕ). Contains (point_readers p n) x) is (subst (IsListed x) e h))))
    raised_listed c t x (AtPoint (id, f, point, at, raises)) h =
        of_rule c.point x c.rule (raised_later c.point id f point at x c.rule t raises) (at_there c.point id f point at x c.rule (raised_here c.point id f point at x c.rule t raises h))

    -- ---- and so each constraint that reads it

    in_range : (c : Constraint) → Contains (constraints p) c → is_later c.rule ≡ true → c.point < length (flow_of p).points
    in_range c l r = elim (cons_cases (at_point 0 Initial) (flat_map (λ n. map (at_point n) rules_at) (numbers 0 (count_of p))) c l) [
      | inl e ↦ absurd (true≢false (sym (ap (λ (q : Constraint). is_later q.rule) e ∙ r)))
      | inr there ↦
          let (n, of, at) = from_flat (λ n. map (at_point n) rules_at) (numbers 0 (count_of p)) c there in
          let (rule, listed, is) = map_contained (at_point n) rules_at c at in
          let b = number_below 0 (count_of p) n of in
          let counted = all_counted p in
          subst (λ (i : ℕ). i < length (flow_of p).points) (ap (λ (q : Constraint). q.point) is) (omega (arith, b, counted))
    ]

    pub listed : (c e : Constraint) (t : Thing) → Contains (constraints p) e → Raises p c t → ReadsThing p facts e t → Contains (again_of p facts c) (number_of e)
    listed c e t there raises reads =
        let later_rule = read_later e t reads in
        subst (λ (x : ℕ). Contains (again_of p facts c) x) (sym (numbered e.rule e.point later_rule))
        (raised_listed c t (number_at e.rule e.point) raises (read_listed e t (in_range e there later_rule) reads))
