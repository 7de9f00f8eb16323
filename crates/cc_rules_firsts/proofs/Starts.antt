-- Where main is entered.
use Rattle.std.proofs.Common.{arith, ◌≡◌, ◌+◌, ℕ, true, false, ◌&&◌, nat_eq, List, [], ◌∷◌, map, length, append-nil, Option, Some, slice_get, refl, ap, sym, subst, ◌∙◌}
use Rattle.std.specs.Prelude.{option_and_then}
use Rattle.std.specs.List.{Contains, list_any}
use Rattle.std.proofs.lemmas.List.Elements.{All-contains, All-from_recursion}
use Rattle.cc_rules_asked.proofs.CcFlow.Inside.{body_inside}
use Rattle.cc_rules_asked.proofs.CcFlow.Paths.{body_counted}
use Rattle.cc_rules_asked.specs.CcFlow.declared.types.Point.{Point}
use Rattle.cc_rules_asked.specs.CcFlow.Laws.{IsIn}
use Rattle.cc_rules_asked.specs.CcFlow.Points.{body_count, body_points, flow_of}
use Rattle.cc_rules_asked.proofs.CcFlowSound.Numbered.{point_of}
use Rattle.cc_rules_asked.specs.CcFlowSound.Moves.{entry}
use Rattle.cc_rules_asked.proofs.CcLattice.IntValues.{value_is_int}
use Rattle.cc_program.proofs.CcNum.ResultLaws.{value_from_test}
use Rattle.cc_rules_asked.specs.CcPlaces.declared.abs.Abs.{Abs}
use Rattle.cc_program.specs.declared.func.Func.{Func}
use Rattle.cc_program.specs.declared.program.Program.{Program}
use Rattle.cc_program.specs.declared.value.Value.{Value}
use Rattle.cc_program.specs.declared.value.Value.TheVariants as value
use Rattle.cc_rules_asked.specs.CcRules.Rules.{NeedsAt, IsStart, IsStarted, AtStart, Elsewhere}
use Rattle.cc_rules_asked.specs.declared.asked.Asked.{Asked}
use Rattle.cc_rules_asked.specs.declared.asked.Asked.TheVariants as asked
use Rattle.cc_rules_asked.specs.Asked.{all_needs}
use Rattle.cc_rules_firsts.proofs.Typed.{no_void}
use Rattle.cc_rules_firsts.specs.Firsts.{MayStand}
use Rattle.cc_rules_firsts.specs.Rows.{HaveFirsts}
use Rattle.cc_rules_firsts.specs.Starts.{IsFirstFact}
use Rattle.cc_rules_asked.specs.CcRulesFlows.Nexts.{IsPoint}
use Rattle.cc_rules_functions.specs.declared.functions.Function.{Function}
use Rattle.cc_rules_functions.specs.Functions.{IsFunctionOf}
use Rattle.cc_rules_grow.proofs.Elements.{some_within}
use Rattle.cc_rules_grow.proofs.Firsts.{tracked_scalar, some_is}
use Rattle.cc_rules_layout.specs.Raisable.{IsLaidOutAt, IsRaisable, AreRaisable}
use Rattle.cc_rules_asked.specs.CcRulesNeeds.Flowing.{of_fact, needs_at}
use Rattle.cc_rules_asked.specs.CcRulesNeeds.declared.needs.Part.TheVariants.{Mark, LevelSet}
use Rattle.cc_rules_asked.specs.CcRulesNeeds.declared.needs.Slot.TheVariants.{ByMain, Levels}
use Rattle.cc_rules_asked.specs.CcRulesNeeds.Needs.{Needs}
use Rattle.cc_rules_grow.proofs.CcState.Lists.{contains_at, no_member}
use Rattle.cc_rules_grow.specs.CcState.Shape.{AreRows}
use Rattle.cc_rules_asked.specs.CcStateFacts.declared.facts.Facts.{Facts}
use Rattle.cc_rules_asked.specs.CcStateFacts.declared.facts.PointFact.{PointFact}
use Rattle.cc_rules_asked.specs.CcStateFacts.Levels.{only_level}
use Rattle.cc_rules_asked.specs.CcStateKeys.Tracked.{registers, tracked}
use Rattle.cc_rules_asked.specs.CcStateOperators.Domains.{Domain}
use Rattle.cc_rules_asked.proofs.CcStates.StartLemmas.{start_state}
use Rattle.cc_rules_asked.specs.CcStates.Typed.{HasType}
use Rattle.cc_rules_asked.specs.CcSteps.State.{first_values}
use Rattle.cc_rules_asked.proofs.CcSyntax.NameRules.{sound-typed}
use Rattle.cc_rules_asked.specs.CcSyntax.Normal.{IsNormal}
use Rattle.cc_rules_asked.specs.CcSyntax.Values.{ValueType, NoValue, Integer, ToObject, ToFunction, ObjectPlace, scalar_value}

-- ---- the first values of tracked cells

module _ (p : Program) (openings : List ℕ) where
  stand : (w : ValueType) (v : Value) → (w ≡ NoValue → ⊥) → HasType p openings w v → MayStand v
  stand NoValue v other h = absurd (other refl)
  stand (Integer t) (value.Int n) other h = value_is_int n t p.target (value_from_test t p.target n h)
  stand (Integer t) (value.Place a) other h = absurd h
  stand (ToObject constant volatile t) (value.Int n) other h = absurd h
  stand (ToObject constant volatile t) (value.Place a) other h = tt
  stand (ToFunction sig) (value.Int n) other h = absurd h
  stand (ToFunction sig) (value.Place a) other h = tt

pub have_firsts : (p : Program) → IsNormal p → HaveFirsts (map (first_values p) p.objects) (tracked p)
have_firsts p normal n i at =
    let (o, there, scalar) = tracked_scalar p n i at in
    let (w, type) = some_is (scalar_value o.ctype) scalar in
    let start = start_state p (sound-typed p normal.sound) [] in
    let (values, stands, are) = start.1.statics.1 i o there in
    let (v, first, has) = are.typed [] w type in
    (v, ap (λ (l : Option (List Value)). option_and_then (λ scalars. slice_get scalars 0) l) stands ∙ first, stand p start.0 w v (λ void. no_void (ObjectPlace false false o.ctype) (type ∙ ap Some void)) has)

-- ---- what is asked

module _ {I : Type 0} (d : Domain I) (p : Program) (facts : Facts I) where
  start_of : (fact : PointFact I) → IsFirstFact d.has d.below (map (first_values p) p.objects) (tracked p) fact → IsStart d p facts (of_fact fact)
  start_of fact is = record {
    off = is.off;
    on = is.on;
    locals = λ r. ap (λ (sets : List (Abs I)). slice_get sets r) is.locals;
    cells = λ j i v at e. (let (y, there, first) = is.rows j i at in let least = first v e in (y, there, least.has_it, least.least));
    pairs = λ r j. ap (λ (pairs : List (ℕ × ℕ)). list_any (λ pair. nat_eq pair.0 r && nat_eq pair.1 j) pairs) is.same;
  }

  abbrev asked_main : ℕ → ℕ → PointFact I → List (Asked I)
  asked_main number count fact = asked.Part (ByMain p.main) (Mark true) ∷ asked.Part (Levels p.main) (LevelSet 1) ∷ asked.Point number count fact ∷ []

  needs_main : (number count : ℕ) (f : Func) (fact : PointFact I) → count ≡ length (registers f) →
      all_needs p (asked_main number count fact) ≡ (ByMain p.main, Mark true) ∷ (Levels p.main, LevelSet (only_level 0)) ∷ NeedsAt d p facts number f (of_fact fact)
  needs_main number count f fact e =
      ap (λ (ns : Needs I). (ByMain p.main, Mark true) ∷ (Levels p.main, LevelSet 1) ∷ ns) (append-nil (needs_at number count (length (tracked p)) (of_fact fact)))
      ∙ ap (λ (n : ℕ). (ByMain p.main, Mark true) ∷ (Levels p.main, LevelSet 1) ∷ needs_at number n (length (tracked p)) (of_fact fact)) e

  pub started : (main : Function) (number count : ℕ) (fact : PointFact I) (list : List (Asked I)) → IsFunctionOf p p.main main → number ≡ main.entry → count ≡ length main.registers →
      IsFirstFact d.has d.below (map (first_values p) p.objects) (tracked p) fact → list ≡ asked_main number count fact → IsStarted d p facts number (all_needs p list)
  started main number count fact list m e n is l =
      AtStart main.func.now (of_fact fact) m.func (e ∙ m.entry) (start_of fact is) (ap (all_needs p) l ∙ needs_main number count main.func.now fact (n ∙ ap length m.registers))

  pub not_started : (main : Function) (number : ℕ) (list : List (Asked I)) → IsFunctionOf p p.main main → (number ≡ main.entry → ⊥) → list ≡ [] → IsStarted d p facts number (all_needs p list)
  not_started main number list m other l = Elsewhere (λ e. other (e ∙ sym m.entry)) (ap (all_needs p) l)

  -- ---- and how it is laid out

  entry_point : (id : ℕ) (f : Func) → slice_get p.funcs id ≡ Some f → (point : Point) × IsPoint p (entry p id) id f point
  entry_point id f function =
      let first = entry p id in
      let counted = body_counted id first f.body in
      let w = some_within (body_points id first f.body) 0 (omega (arith, counted)) in
      let inside = All-contains (IsIn id first (first + body_count f.body)) (body_points id first f.body) w.0 (body_inside id first f.body) (contains_at (body_points id first f.body) 0 w.0 w.1) in
      let at : slice_get (flow_of p).points (first + 0) ≡ Some w.0 = point_of p id f function 0 (omega arith) ∙ w.1 in
      let same : first + 0 ≡ first = omega arith in
      (w.0, record { numbered = subst (λ (n : ℕ). slice_get (flow_of p).points n ≡ Some w.0) same at; own = inside.own; function = function })

  laid_out : (main : Function) (number count : ℕ) (fact : PointFact I) → IsFunctionOf p p.main main → number ≡ main.entry → count ≡ length main.registers →
      IsFirstFact d.has d.below (map (first_values p) p.objects) (tracked p) fact → AreRows d p (length (tracked p)) fact.rows → IsLaidOutAt d p number count fact
  laid_out main number count fact m e n is rows =
      let (point, there) = entry_point p.main main.func.now m.func in
      let none = ap length is.same in
      record {
        id = p.main;
        func = main.func.now;
        point = point;
        is_point = subst (λ (k : ℕ). IsPoint p k p.main main.func.now point) (sym (e ∙ m.entry)) there;
        all_registers = n ∙ ap length m.registers;
        laid_out = record {
          few_locals = (let l = ap length is.locals in omega (arith, l));
          rows = rows;
          cells = λ j l. (let (i, at) = some_within (tracked p) j l in let (y, here, first) = is.rows j i at in (y, here));
          pairs_in_range = λ pair c. no_member pair (subst (λ (pairs : List (ℕ × ℕ)). Contains pairs pair) is.same c);
          pairs_ascend = λ i j x l m. absurd (omega (arith, m, none));
        };
      }

  pub raisable : (main : Function) (number count : ℕ) (fact : PointFact I) (list : List (Asked I)) → IsFunctionOf p p.main main → number ≡ main.entry → count ≡ length main.registers →
      IsFirstFact d.has d.below (map (first_values p) p.objects) (tracked p) fact → AreRows d p (length (tracked p)) fact.rows → list ≡ asked_main number count fact → AreRaisable d p facts list
  raisable main number count fact list m e n is rows l =
      subst (AreRaisable d p facts) (sym l) (All-from_recursion (IsRaisable d p facts) (asked_main number count fact) (tt, (tt, (laid_out main number count fact m e n is rows, tt))))

  pub none_raisable : (list : List (Asked I)) → list ≡ [] → AreRaisable d p facts list
  none_raisable list l = subst (AreRaisable d p facts) (sym l) (All-from_recursion (IsRaisable d p facts) [] tt)
