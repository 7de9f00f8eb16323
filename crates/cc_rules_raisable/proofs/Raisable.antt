-- What is asked at a point that is reached, of handlers, of functions that are called, and of points behind a call and next to the point.
use Rattle.std.proofs.Common.{arith, ◌≡◌, ◌≤◌, ℕ, suc, Bool, true, false, cond, List, [], ◌∷◌, ◌++◌, All, length, Option, Some, None, slice_get, refl, ap, sym, subst, ◌∙◌}
use Rattle.std.specs.List.{AllZip, filter, flat_map}
use Rattle.std.specs.Option.{option_to_list}
use Rattle.std.proofs.lemmas.List.Elements.{All-weaker}
use Rattle.cc_rules_asked.specs.CcFlow.declared.types.Point.{Point}
use Rattle.cc_rules_asked.specs.CcFlowSound.Moves.{entry}
use Rattle.cc_rules_asked.specs.CcPlaces.declared.abs.Abs.{Abs}
use Rattle.cc_program.specs.declared.func.Func.{Func}
use Rattle.cc_program.specs.declared.program.Program.{Program}
use Rattle.cc_rules_asked.specs.CcRules.Rules.{handlers}
use Rattle.cc_rules_asked.specs.declared.asked.Asked.{Asked}
use Rattle.cc_rules_asked.specs.declared.asked.Asked.TheVariants as asked
use Rattle.cc_rules_asked.specs.declared.handlers.Handler.{Handler}
use Rattle.cc_rules_asked.specs.Handlers.{IsHandlerOf, AreHandlersOf, fact_entered, asked_of, asked_of_all, enters_here}
use Rattle.cc_rules_calls.specs.Backs.{with_given, IsBehind}
use Rattle.cc_rules_calls.specs.Called.{sets_of}
use Rattle.cc_rules_calls.specs.Here.{part_whole, parts_whole, fact_with, asked_of_one, AreEntries}
use Rattle.cc_rules_calls.specs.Here as calls
use Rattle.cc_rules_asked.proofs.CcRulesFlows.ShapeLemmas.{set_long}
use Rattle.cc_rules_asked.specs.CcRulesFlows.declared.after.Here.{Here}
use Rattle.cc_rules_asked.specs.CcRulesFlows.Here.{IsHere}
use Rattle.cc_rules_asked.specs.CcRulesFlows.Kept.{KeepsShape}
use Rattle.cc_rules_asked.specs.CcRulesFlows.Nexts.{IsPoint, exit_of}
use Rattle.cc_rules_functions.specs.declared.functions.Function.{Function}
use Rattle.cc_rules_functions.specs.Functions.{AreFunctionsOf}
use Rattle.cc_rules_grow.proofs.Elements.{Each, all_each, each_append}
use Rattle.cc_rules_layout.specs.Raisable.{IsLaidOutAt, IsRaisable, AreRaisable}
use Rattle.cc_rules_nexts.specs.Told.{IsOnward}
use Rattle.cc_rules_raisable.proofs.Laid.{laid_as, laid_alike}
use Rattle.cc_rules_shaped.proofs.Points.{next_there, exit_there}
use Rattle.cc_rules_shaped.proofs.Rules.{entry_there}
use Rattle.cc_rules_grow.proofs.CcState.Sets.{its_shape}
use Rattle.cc_rules_grow.specs.CcState.Shape.{IsPointFact, HaveShape}
use Rattle.cc_rules_asked.specs.CcStateFacts.declared.facts.Key.TheVariants as key
use Rattle.cc_rules_asked.specs.CcStateFacts.declared.facts.PointFact.{PointFact}
use Rattle.cc_rules_asked.specs.CcStateFacts.Facts.{fact_at}
use Rattle.cc_rules_asked.specs.CcStateKeys.Keys.{key_number}
use Rattle.cc_rules_asked.specs.CcStateKeys.Tracked.{registers, tracked}
use Rattle.cc_rules_asked.specs.CcStateOperators.Domains.{Domain}

-- ---- as many sets as there are registers, or fewer

with_few : {A : Type 0} (o : Option A) (rest : List A) (n : ℕ) → length rest ≤ n → length (option_to_list o ++ rest) ≤ suc n
with_few None rest n h = omega (arith, h)
with_few (Some x) rest n h = omega (arith, h)

sets_few : {A : Type 0} (sets : List A) (rs : List ℕ) → length (sets_of sets rs) ≤ length rs
sets_few sets [] = omega arith
sets_few sets (r ∷ rs) = with_few (slice_get sets r) (sets_of sets rs) (length rs) (sets_few sets rs)

given_long : {A : Type 0} (given : Option (ℕ × A)) (sets : List A) → length (with_given given sets) ≡ length sets
given_long None sets = refl
given_long (Some g) sets = set_long sets g.0 g.1

module _ {I : Type 0} (d : Domain I) (here : Here I) (shape : HaveShape d here.context.program.now here.facts.now) (is_point : IsPoint here.context.program.now here.number here.context.id here.context.func.now here.point.now) (is : IsHere d here) where
  abbrev its_program : Program
  its_program = here.context.program.now

  abbrev IsRaisableHere : Asked I → Type 0
  IsRaisableHere a = IsRaisable d its_program here.facts.now a

  abbrev AreRaisableHere : List (Asked I) → Type 0
  AreRaisableHere list = AreRaisable d its_program here.facts.now list

  shaped_at : (n id : ℕ) (f : Func) (point : Point) → IsPoint its_program n id f point → (fact : PointFact I) → fact_at here.facts.now n ≡ Some fact → IsPointFact d its_program f fact
  shaped_at n id f point h fact known = its_shape d its_program here.facts.now shape n point f (record { numbered = h.numbered; function = ap (slice_get its_program.funcs) h.own ∙ h.function }) fact known

  fact_here : IsPointFact d its_program here.context.func.now here.fact.now
  fact_here = shaped_at here.number here.context.id here.context.func.now here.point.now is_point here.fact.now is.reached

  -- ---- at the entry of a function, with the rows of the point

  at_entry : (g n count : ℕ) (f : Func) (flow : PointFact I) → slice_get its_program.funcs g ≡ Some f → n ≡ entry its_program g → count ≡ length (registers f) → length flow.locals ≤ length (registers f) → flow.rows ≡ here.fact.now.rows → flow.same ≡ [] →
      IsLaidOutAt d its_program n count flow
  at_entry g n count f flow there first all few rows none =
      let (id, point, entered) = entry_there d its_program g f there in
      record {
        id = id;
        func = f;
        point = point;
        is_point = subst (λ (n : ℕ). IsPoint its_program n id f point) (sym first) entered;
        all_registers = all;
        laid_out = laid_as d its_program f here.context.func.now here.fact.now flow fact_here few rows none;
      }

  -- ---- handlers

  one_handler : (h : Handler) (id : ℕ) → IsHandlerOf its_program h id → Each IsRaisableHere (asked_of here h)
  one_handler h id is = (tt, (tt, (tt, (at_entry id h.entry h.registers is.func (fact_entered here.fact.now) is.there is.entry is.registers (omega arith) refl refl, tt))))

  one_more : (b : Bool) (h : Handler) (list : List Handler) → Each IsRaisableHere (asked_of here h) → Each IsRaisableHere (flat_map (asked_of here) list) → Each IsRaisableHere (flat_map (asked_of here) (cond b (h ∷ list) list))
  one_more true h list own rest = each_append IsRaisableHere (asked_of here h) (flat_map (asked_of here) list) own rest
  one_more false h list own rest = rest

  each_handler : (list : List Handler) (ids : List ℕ) → AllZip (IsHandlerOf its_program) list ids → Each IsRaisableHere (asked_of_all here list)
  each_handler [] ids z = tt
  each_handler (h ∷ list) [] z = absurd z
  each_handler (h ∷ list) (id ∷ ids) z = one_more (enters_here here h) h (filter (enters_here here) list) (one_handler h id z.0) (each_handler list ids z.1)

  where_so : (b : Bool) (list : List (Asked I)) → Each IsRaisableHere list → Each IsRaisableHere (cond b list [])
  where_so true list h = h
  where_so false list h = tt

  pub handlers_raisable : (all : List Handler) (list : List (Asked I)) → AreHandlersOf its_program all → list ≡ cond here.fact.now.on (asked_of_all here all) [] → AreRaisableHere list
  handlers_raisable all list are e =
      all_each IsRaisableHere list (subst (Each IsRaisableHere) (sym e) (where_so here.fact.now.on (asked_of_all here all) (each_handler all (handlers its_program) are)))

  -- ---- functions that are called

  whole_part : (number : Option ℕ) (y : Abs I) → Each IsRaisableHere (part_whole number y)
  whole_part None y = tt
  whole_part (Some k) y = (tt, tt)

  whole_parts : (g r : ℕ) (ys : List (Abs I)) → Each IsRaisableHere (parts_whole its_program g r ys)
  whole_parts g r [] = tt
  whole_parts g r (y ∷ ys) = each_append IsRaisableHere (part_whole (key_number its_program (key.Local g r)) y) (parts_whole its_program g (suc r) ys) (whole_part (key_number its_program (key.Local g r)) y) (whole_parts g (suc r) ys)

  one_entry : (functions : List Function) → AreFunctionsOf its_program functions → (ys : List (Abs I)) (g : ℕ) (o : Option Function) → slice_get functions g ≡ o → Each IsRaisableHere (asked_of_one here g o ys)
  one_entry functions are ys g None e = tt
  one_entry functions are ys g (Some f) e =
      let its = are.each g f e in
      let few = sets_few ys f.registers in
      let all : length f.registers ≡ length (registers f.func.now) = ap length its.registers in
      (tt, (tt, (tt, (tt, (at_entry g f.entry (length f.registers) f.func.now (fact_with here.fact.now (sets_of ys f.registers)) its.func its.entry all (omega (arith, few, all)) refl refl, whole_parts g 0 ys)))))

  each_entry : (functions : List Function) → AreFunctionsOf its_program functions → (ids : List ℕ) (ys : List (Abs I)) → Each IsRaisableHere (calls.asked_of_all here functions ids ys)
  each_entry functions are [] ys = tt
  each_entry functions are (g ∷ ids) ys =
      each_append IsRaisableHere (asked_of_one here g (slice_get functions g) ys) (calls.asked_of_all here functions ids ys) (one_entry functions are ys g (slice_get functions g) refl) (each_entry functions are ids ys)

  pub entries_raisable : (functions : List Function) (list : List (Asked I)) → AreFunctionsOf its_program functions → AreEntries here functions list → AreRaisableHere list
  entries_raisable functions list are (ids, ys, e) = all_each IsRaisableHere list (subst (Each IsRaisableHere) (sym e) (each_entry functions are ids ys))

  -- ---- points behind a call

  all_here : (count : ℕ) → count ≡ length here.context.registers.now → count ≡ length (registers here.context.func.now)
  all_here count e = e ∙ ap length is.registers

  one_behind : (a : Asked I) → IsBehind d here a → IsRaisableHere a
  one_behind (asked.Part slot part) h = absurd h
  one_behind (asked.Point number count flow) h =
      let (id, point, next) = next_there d its_program here.number here.context.id here.context.func.now here.point.now is_point number h.next in
      let callee : Func = h.function.func.now in
      let (last, at_last) = exit_there d its_program h.id callee h.is_function.func in
      let exited : IsPointFact d its_program callee h.exit = shaped_at (exit_of its_program h.id callee) h.id callee last at_last h.exit (ap (fact_at here.facts.now) (sym h.is_function.exit) ∙ h.exited) in
      let locals : length flow.locals ≡ length (registers here.context.func.now) = ap (λ (x : PointFact I). length x.locals) h.is ∙ given_long h.given here.fact.now.locals ∙ fact_here.local_count in
      record {
        id = id;
        func = here.context.func.now;
        point = point;
        is_point = next;
        all_registers = all_here count h.all_registers;
        laid_out = laid_as d its_program here.context.func.now callee h.exit flow exited (omega (arith, locals)) (ap (λ (x : PointFact I). x.rows) h.is) (ap (λ (x : PointFact I). x.same) h.is);
      }

  pub behind_raisable : (list : List (Asked I)) → All (IsBehind d here) list → AreRaisableHere list
  behind_raisable list h = All-weaker (IsBehind d here) IsRaisableHere one_behind list h

  -- ---- next points

  one_onward : (a : Asked I) → IsOnward d here a → IsRaisableHere a
  one_onward (asked.Part slot part) h = absurd h
  one_onward (asked.Point number count flow) h =
      let (id, point, next) = next_there d its_program here.number here.context.id here.context.func.now here.point.now is_point number h.0 in
      let kept : KeepsShape (length (registers here.context.func.now)) (length (tracked its_program)) here.fact.now flow =
      subst (λ (n : ℕ). KeepsShape n (length (tracked its_program)) here.fact.now flow) (ap length is.registers) (subst (λ (n : ℕ). KeepsShape (length here.context.registers.now) n here.fact.now flow) (ap length is.tracked) h.2) in
      record {
        id = id;
        func = here.context.func.now;
        point = point;
        is_point = next;
        all_registers = all_here count h.1;
        laid_out = laid_alike d its_program here.context.func.now here.fact.now flow fact_here kept;
      }

  pub onward_raisable : (list : List (Asked I)) → All (IsOnward d here) list → AreRaisableHere list
  onward_raisable list h = All-weaker (IsOnward d here) IsRaisableHere one_onward list h
