-- What is asked of the entries of functions that are called.
use Rattle.std.proofs.Common.{◌≡◌, ℕ, suc, Bool, true, true≢false, List, [], ◌∷◌, ◌++◌, length, All, Option, Some, None, is_some, slice_get, refl, ap, sym, subst, ◌∙◌}
use Rattle.std.specs.List.{AllZip}
use Rattle.std.proofs.lemmas.List.Elements.{All-head, All-tail}
use Rattle.cc_state_points.specs.CcFlowSound.Moves.{entry}
use Rattle.cc_state_points.specs.CcPlaces.declared.abs.Abs.{Abs}
use Rattle.cc_program.specs.declared.expr.Expr.{Expr}
use Rattle.cc_program.specs.declared.func.Func.{Func}
use Rattle.cc_rules_asked.specs.CcRules.Constraints.{Call}
use Rattle.cc_rules_asked.specs.CcRules.Rules.{AreValues, ForEach, Entered, parameter, other_parameters, need_whole, CallAsks, OfEntries, OfNoCall}
use Rattle.cc_rules_asked.specs.declared.asked.Asked.{Asked}
use Rattle.cc_rules_asked.specs.Asked.{all_needs}
use Rattle.cc_rules_asked.specs.Asks.{AsksHere}
use Rattle.cc_rules_asked.proofs.Listed.{parts_behind}
use Rattle.cc_rules_asked.proofs.ValuesHere.{value_here}
use Rattle.cc_rules_functions.specs.declared.functions.Function.{Function}
use Rattle.cc_rules_calls.specs.Called.{sets_of}
use Rattle.cc_rules_functions.specs.Functions.{IsFunctionOf, AreFunctionsOf}
use Rattle.cc_rules_calls.specs.Here.{AreFunctionsIn, called, part_whole, parts_whole, fact_with, asked_entered, asked_of_one, asked_of_all}
use Rattle.cc_rules_calls.proofs.CalledLemmas.{called_by}
use Rattle.cc_rules_calls.proofs.Flowing.{needs_with}
use Rattle.cc_rules_calls.proofs.Risen.{parameters_at}
use Rattle.cc_state_points.specs.CcRulesFlows.declared.after.Here.{Here}
use Rattle.cc_state_points.specs.CcRulesFlows.Acts.{Act, Sets, Reads, Writes, Calls, Saves, Turns, Restores, Tests, Chooses, Returns, Passes}
use Rattle.cc_state_points.specs.CcRulesFlows.Here.{IsHere}
use Rattle.cc_state_points.specs.CcRulesNeeds.Flowing.{Flowing, needs_at, of_fact, without_pairs}
use Rattle.cc_state_points.specs.CcRulesNeeds.declared.needs.Part.TheVariants.{Mark, LevelSet, Values}
use Rattle.cc_state_points.specs.CcRulesNeeds.declared.needs.Slot.TheVariants.{Whole, ByMain, ByHandler, Levels, From}
use Rattle.cc_state_points.specs.CcRulesNeeds.Needs.{Needs}
use Rattle.cc_state_points.specs.CcStateFacts.declared.facts.Key.TheVariants as key
use Rattle.cc_state_points.specs.CcStateFacts.Facts.{mark_of, levels_of}
use Rattle.cc_state_points.specs.CcStateKeys.Keys.{key_number}
use Rattle.cc_state_points.specs.CcStateKeys.Tracked.{registers, tracked}
use Rattle.cc_state_points.specs.CcStateOperators.Domains.{Domain}
use Rattle.cc_state_points.specs.CcStateValues.Contexts.{IsValIn}

module _ {I : Type 0} (d : Domain I) (here : Here I) where
  -- ---- the sets of arguments

  pub values_are : (args : List Expr) (ys : List (Abs I)) → IsHere d here → AllZip (IsValIn d here.context) args ys →
      AreValues d here.context.program.now here.facts.now here.number here.context.id here.context.func.now here.point.now here.fact.now args ys
  values_are [] [] h z = refl
  values_are [] (y ∷ ys) h z = absurd z
  values_are (e ∷ args) [] h z = absurd z
  values_are (e ∷ args) (y ∷ ys) h z = (y, ys, value_here d here e y h z.0, values_are args ys h z.1, refl)

  -- ---- parameters that are no registers

  abbrev others : ℕ → ℕ → List (Abs I) → Needs I
  others g r ys = other_parameters d here.context.program.now here.facts.now here.number here.context.id here.context.func.now here.point.now here.fact.now g r ys

  abbrev whole : Option ℕ → Abs I → Needs I
  whole k y = need_whole d here.context.program.now here.facts.now here.number here.context.id here.context.func.now here.point.now here.fact.now k y

  one_whole : (k : Option ℕ) (y : Abs I) (rest : List (Asked I)) (ns : Needs I) → all_needs here.context.program.now rest ≡ ns → all_needs here.context.program.now (part_whole k y ++ rest) ≡ whole k y ++ ns
  one_whole None y rest ns e = e
  one_whole (Some k) y rest ns e = ap (λ xs. (Whole k, Values (Some y)) ∷ xs) e

  all_whole : (g r : ℕ) (ys : List (Abs I)) → all_needs here.context.program.now (parts_whole here.context.program.now g r ys) ≡ others g r ys
  all_whole g r [] = refl
  all_whole g r (y ∷ ys) = one_whole (key_number here.context.program.now (key.Local g r)) y (parts_whole here.context.program.now g (suc r) ys) (others g (suc r) ys) (all_whole g (suc r) ys)

  -- ---- one function

  abbrev AsksEntry : List (Abs I) → ℕ → Func → Needs I → Type 0
  AsksEntry ys g callee ns = Entered d here.context.program.now here.facts.now here.number here.context.id here.context.func.now here.point.now here.fact.now ys g callee ns

  abbrev argument : List (Abs I) → Func → ℕ → Option (Abs I)
  argument ys callee number = parameter d here.context.program.now here.facts.now here.number here.context.id here.context.func.now here.point.now here.fact.now ys callee number

  abbrev flow_with : (ℕ → Option (Abs I)) → Flowing I
  flow_with local = record (without_pairs (of_fact here.fact.now)) { local = local }

  abbrev marked : ℕ → Needs I → Needs I
  marked g ns =
      (ByMain g, Mark (mark_of here.facts.now.by_main here.context.id)) ∷ (ByHandler g, Mark (mark_of here.facts.now.by_handler here.context.id))
      ∷ (Levels g, LevelSet (levels_of here.facts.now.levels here.context.id)) ∷ (From g, LevelSet (levels_of here.facts.now.from here.context.id)) ∷ ns

  point_is : (g : ℕ) (f : Function) (ys : List (Abs I)) → IsFunctionOf here.context.program.now g f →
      needs_at f.entry (length f.registers) (length (tracked here.context.program.now)) (of_fact (fact_with here.fact.now (sets_of ys f.registers)))
      ≡ needs_at (entry here.context.program.now g) (length (registers f.func.now)) (length (tracked here.context.program.now)) (flow_with (argument ys f.func.now))
  point_is g f ys is =
      ap (λ n. needs_at n (length f.registers) (length (tracked here.context.program.now)) (of_fact (fact_with here.fact.now (sets_of ys f.registers)))) is.entry
      ∙ (ap (λ rs. needs_at (entry here.context.program.now g) (length rs) (length (tracked here.context.program.now)) (of_fact (fact_with here.fact.now (sets_of ys rs)))) is.registers
      ∙ needs_with (entry here.context.program.now g) (length (registers f.func.now)) (length (tracked here.context.program.now)) here.fact.now (sets_of ys (registers f.func.now)) (argument ys f.func.now) (parameters_at ys f.func.now))

  one_entered : (g : ℕ) (f : Function) (ys : List (Abs I)) → IsFunctionOf here.context.program.now g f → AsksEntry ys g f.func.now (all_needs here.context.program.now (asked_entered here g f ys))
  one_entered g f ys is =
      ap (λ ns. marked g (ns ++ all_needs here.context.program.now (parts_whole here.context.program.now g 0 ys))) (point_is g f ys is)
      ∙ ap (λ ns. marked g (needs_at (entry here.context.program.now g) (length (registers f.func.now)) (length (tracked here.context.program.now)) (flow_with (argument ys f.func.now)) ++ ns)) (all_whole g 0 ys)

  -- ---- all of them

  abbrev EachEntry : List (Abs I) → List ℕ → Needs I → Type 0
  EachEntry ys ids ns =
      ForEach d here.context.program.now here.facts.now here.number here.context.id here.context.func.now here.point.now here.fact.now
      (Entered d here.context.program.now here.facts.now here.number here.context.id here.context.func.now here.point.now here.fact.now ys) ids ns

  next_entered : (functions : List Function) (ys : List (Abs I)) (h : ℕ) (ids : List ℕ) (o : Option Function) → AreFunctionsOf here.context.program.now functions → slice_get functions h ≡ o → is_some o ≡ true →
      EachEntry ys ids (all_needs here.context.program.now (asked_of_all here functions ids ys)) → EachEntry ys (h ∷ ids) (all_needs here.context.program.now (asked_of_one here h o ys ++ asked_of_all here functions ids ys))
  next_entered functions ys h ids None are e t rest = absurd (true≢false (sym t))
  next_entered functions ys h ids (Some f) are e t rest =
      let is : IsFunctionOf here.context.program.now h f = are.each h f e in (
        f.func.now,
        all_needs here.context.program.now (asked_entered here h f ys),
        all_needs here.context.program.now (asked_of_all here functions ids ys),
        is.func,
        one_entered h f ys is,
        rest,
        parts_behind here.context.program.now (asked_entered here h f ys) (asked_of_all here functions ids ys),
      )

  each_entered : (functions : List Function) (ys : List (Abs I)) (ids : List ℕ) → AreFunctionsOf here.context.program.now functions → All (λ h. is_some (slice_get functions h) ≡ true) ids →
      EachEntry ys ids (all_needs here.context.program.now (asked_of_all here functions ids ys))
  each_entered functions ys [] are a = refl
  each_entered functions ys (h ∷ ids) are a =
      next_entered functions ys h ids (slice_get functions h) are refl (All-head (λ h. is_some (slice_get functions h) ≡ true) h ids a)
      (each_entered functions ys ids are (All-tail (λ h. is_some (slice_get functions h) ≡ true) h ids a))

  pub entries_asked : (result : Option ℕ) (g : Expr) (args : List Expr) (functions : List Function) (ids : List ℕ) (ys : List (Abs I)) (list : List (Asked I)) → IsHere d here → AreFunctionsOf here.context.program.now functions →
      AreFunctionsIn d here g ids → All (λ h. is_some (slice_get functions h) ≡ true) ids → AllZip (IsValIn d here.context) args ys → list ≡ asked_of_all here functions ids ys → AsksHere d here Call (Calls result g args) list
  entries_asked result g args functions ids ys list h are v a z e =
      subst (λ list. AsksHere d here Call (Calls result g args) list) (sym e)
      (OfEntries result g args ids ys refl refl (called_by d here g ids h v) (values_are args ys h z) (each_entered functions ys ids are a))

  -- ---- what is no call

  pub no_call : (entering : Bool) (act : Act) → called act ≡ None → CallAsks d here.context.program.now here.facts.now here.number here.context.id here.context.func.now here.point.now here.fact.now entering act []
  no_call entering (Sets r x) h = OfNoCall (λ result g args k. absurd (cc)) refl
  no_call entering (Reads r b) h = OfNoCall (λ result g args k. absurd (cc)) refl
  no_call entering (Writes b x) h = OfNoCall (λ result g args k. absurd (cc)) refl
  no_call entering (Calls r x xs) h = absurd (cc)
  no_call entering (Saves r) h = OfNoCall (λ result g args k. absurd (cc)) refl
  no_call entering (Turns on) h = OfNoCall (λ result g args k. absurd (cc)) refl
  no_call entering (Restores x) h = OfNoCall (λ result g args k. absurd (cc)) refl
  no_call entering (Tests x these those) h = OfNoCall (λ result g args k. absurd (cc)) refl
  no_call entering (Chooses x cases) h = OfNoCall (λ result g args k. absurd (cc)) refl
  no_call entering (Returns x) h = OfNoCall (λ result g args k. absurd (cc)) refl
  no_call entering Passes h = OfNoCall (λ result g args k. absurd (cc)) refl
