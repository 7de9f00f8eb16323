-- What is asked of handlers that may enter.
use Rattle.std.proofs.Common.{◌≡◌, ◌≤◌, ◌<◌, ◌+◌, ◌==◌, ℕ, Bool, true, false, cond, List, [], ◌∷◌, ◌++◌, map, length, take, get_or, append-nil, append_assoc, All, Option, Some, None, slice_get, refl, ap, sym, subst, ◌∙◌}
use Rattle.std.specs.List.{AllZip, filter, flat_map}
use Rattle.std.proofs.lemmas.List.Elements.{All-nil, All-cons, filter_more}
use Rattle.cc_rules.specs.CcFlowSound.Moves.{entry}
use Rattle.cc_program.specs.declared.func.Func.{Func}
use Rattle.cc_rules.specs.Constraints.{Handler as HandlerRule}
use Rattle.cc_rules.specs.Rules.{handlers, ForEach, interrupted, HandlersAsk}
use Rattle.cc_rules_asked.specs.declared.asked.Asked.{Asked}
use Rattle.cc_rules_asked.specs.declared.asked.Asked.TheVariants as asked
use Rattle.cc_rules_asked.specs.declared.handlers.Handler.{Handler}
use Rattle.cc_rules_asked.specs.Asked.{all_needs}
use Rattle.cc_rules_asked.specs.Asks.{AsksHere}
use Rattle.cc_rules_asked.specs.Handlers.{IsHandlerOf, AreHandlersOf, fact_entered, running_here, levels_entered, asked_of, asked_of_all, enters_here}
use Rattle.cc_rules_asked.proofs.Listed.{parts_behind}
use Rattle.cc_rules.specs.CcRulesFlows.declared.after.Here.{Here}
use Rattle.cc_rules.specs.CcRulesFlows.Acts.{Act}
use Rattle.cc_rules.specs.CcRulesNeeds.Flowing.{needs_at, of_fact}
use Rattle.cc_rules.specs.CcRulesNeeds.declared.needs.Part.TheVariants.{Mark, LevelSet}
use Rattle.cc_rules.specs.CcRulesNeeds.declared.needs.Slot.TheVariants.{ByHandler, Levels, From}
use Rattle.cc_rules.specs.CcRulesNeeds.Needs.{Needs}
use Rattle.cc_rules.specs.CcStateFacts.Levels.{may_enter, only_level}
use Rattle.cc_rules.specs.CcStateKeys.Tracked.{registers, tracked}
use Rattle.cc_rules.specs.CcStateOperators.Domains.{Domain}
use Rattle.cc_rules.specs.CcSteps.Turn.{level_of}

pub low_levels : {I : Type 0} (here : Here I) (list : List Handler) (ids : List ℕ) → AllZip (IsHandlerOf here.context.program.now) list ids → All (λ h. h.level ≤ 7) list
low_levels here [] ids z = All-nil (λ (h : Handler). h.level ≤ 7)
low_levels here (h ∷ list) [] z = absurd z
low_levels here (h ∷ list) (id ∷ ids) z = All-cons (λ (h : Handler). h.level ≤ 7) h list z.0.low (low_levels here list ids z.1)

module _ {I : Type 0} (d : Domain I) (here : Here I) where
  abbrev asks_entered : ℕ → Func → Needs I → Type 0
  asks_entered h handler ns = ns ≡ interrupted d here.context.program.now here.facts.now here.number here.context.id here.context.func.now here.point.now here.fact.now h handler

  abbrev EachAsks : List ℕ → Needs I → Type 0
  EachAsks ids ns = ForEach d here.context.program.now here.facts.now here.number here.context.id here.context.func.now here.point.now here.fact.now (λ h handler ns. asks_entered h handler ns) ids ns

  abbrev enters : ℕ → Bool
  enters id = may_enter (running_here here) (level_of here.context.program.now id)

  -- of one, by what is known of it
  abbrev needs_entered : ℕ → ℕ → ℕ → ℕ → Needs I
  needs_entered id level entry registers =
      (ByHandler id, Mark true) ∷ (Levels id, LevelSet (levels_entered here level)) ∷ (From id, LevelSet (only_level level)) ∷ needs_at entry registers (length (tracked here.context.program.now)) (of_fact (fact_entered here.fact.now))

  one : (h : Handler) (id : ℕ) (is : IsHandlerOf here.context.program.now h id) → asks_entered id is.func (all_needs here.context.program.now (asked_of here h))
  one h id is =
      ap (λ ns. (ByHandler h.function, Mark true) ∷ (Levels h.function, LevelSet (levels_entered here h.level)) ∷ (From h.function, LevelSet (only_level h.level)) ∷ ns) (append-nil (needs_at h.entry h.registers (length (tracked here.context.program.now)) (of_fact (fact_entered here.fact.now))))
      ∙ (ap (λ id. needs_entered id h.level h.entry h.registers) is.function
      ∙ (ap (λ level. needs_entered id level h.entry h.registers) is.level
      ∙ (ap (λ n. needs_entered id (level_of here.context.program.now id) n h.registers) is.entry
      ∙ ap (λ n. needs_entered id (level_of here.context.program.now id) (entry here.context.program.now id) n) is.registers)))

  step : (b : Bool) (h : Handler) (id : ℕ) (list : List Handler) (ids : List ℕ) → IsHandlerOf here.context.program.now h id → EachAsks ids (all_needs here.context.program.now (flat_map (asked_of here) list)) →
      EachAsks (cond b (id ∷ ids) ids) (all_needs here.context.program.now (flat_map (asked_of here) (cond b (h ∷ list) list)))
  step true h id list ids is rest = (
    is.func,
    all_needs here.context.program.now (asked_of here h),
    all_needs here.context.program.now (flat_map (asked_of here) list),
    is.there,
    one h id is,
    rest,
    parts_behind here.context.program.now (asked_of here h) (flat_map (asked_of here) list),
  )
  step false h id list ids is rest = rest

  each : (list : List Handler) (ids : List ℕ) → AllZip (IsHandlerOf here.context.program.now) list ids → EachAsks (filter enters ids) (all_needs here.context.program.now (asked_of_all here list))
  each [] [] z = refl
  each [] (id ∷ ids) z = absurd z
  each (h ∷ list) [] z = absurd z
  each (h ∷ list) (id ∷ ids) z =
      subst (λ b. EachAsks (cond b (id ∷ filter enters ids) (filter enters ids)) (all_needs here.context.program.now (flat_map (asked_of here) (cond (enters_here here h) (h ∷ filter (enters_here here) list) (filter (enters_here here) list)))))
      (ap (λ level. may_enter (running_here here) level) z.0.level)
      (step (enters_here here h) h id (filter (enters_here here) list) (filter enters ids) z.0 (each list ids z.1))

  abbrev Asks : Bool → Needs I → Type 0
  Asks on ns = HandlersAsk d here.context.program.now here.facts.now here.number here.context.id here.context.func.now here.point.now here.fact.now on ns

  pub handlers_asked : (list : List (Asked I)) (all : List Handler) → AreHandlersOf here.context.program.now all → here.fact.now.on ≡ true → list ≡ asked_of_all here all → (act : Act) → AsksHere d here HandlerRule act list
  handlers_asked list all are on l act =
      subst (λ list. AsksHere d here HandlerRule act list) (sym l) (subst (λ on. Asks on (all_needs here.context.program.now (asked_of_all here all))) (sym on) (each all (handlers here.context.program.now) are))

  pub handlers_unasked : here.fact.now.on ≡ false → (act : Act) → AsksHere d here HandlerRule act []
  handlers_unasked off act = subst (λ on. Asks on []) (sym off) refl

  pub handlers_as_asked : (list : List (Asked I)) (all : List Handler) → AreHandlersOf here.context.program.now all → list ≡ cond here.fact.now.on (asked_of_all here all) [] → (act : Act) → AsksHere d here HandlerRule act list
  handlers_as_asked list all are l = by here.fact.now.on refl
    where
      by : (b : Bool) → here.fact.now.on ≡ b → (act : Act) → AsksHere d here HandlerRule act list
      by true on = handlers_asked list all are on (l ∙ ap (λ b. cond b (asked_of_all here all) []) on)
      by false off = subst (λ list. (act : Act) → AsksHere d here HandlerRule act list) (sym (l ∙ ap (λ b. cond b (asked_of_all here all) []) off)) (handlers_unasked off)

-- ---- one more

flat_more : {A B : Type 0} (f : A → List B) (xs ys : List A) → flat_map f (xs ++ ys) ≡ flat_map f xs ++ flat_map f ys
flat_more f [] ys = refl
flat_more f (x ∷ xs) ys = ap (λ zs. f x ++ zs) (flat_more f xs ys) ∙ sym (append_assoc (f x) (flat_map f xs) (flat_map f ys))

module _ {I : Type 0} (here : Here I) (list : List Handler) (i : ℕ) (h : Handler) (now new : List (Asked I)) where
  more : i < length list → asked_of_all here (take (i + 1) list) ≡ asked_of_all here (take i list) ++ flat_map (asked_of here) (cond (enters_here here (get_or list i h)) (get_or list i h ∷ []) [])
  more l = ap (flat_map (asked_of here)) (filter_more (enters_here here) list i h l) ∙ flat_more (asked_of here) (filter (enters_here here) (take i list)) (cond (enters_here here (get_or list i h)) (get_or list i h ∷ []) [])

  pub one_entered : i < length list → now ≡ asked_of_all here (take i list) → enters_here here (get_or list i h) ≡ true → new ≡ now ++ asked_of here (get_or list i h) → new ≡ asked_of_all here (take (i + 1) list)
  one_entered l e t m =
      m ∙ (ap (λ xs. xs ++ asked_of here (get_or list i h)) e ∙ (ap (λ ys. asked_of_all here (take i list) ++ ys) (sym (append-nil (asked_of here (get_or list i h))))
      ∙ (ap (λ b. asked_of_all here (take i list) ++ flat_map (asked_of here) (cond b (get_or list i h ∷ []) [])) (sym t) ∙ sym (more l))))

  pub none_entered : i < length list → now ≡ asked_of_all here (take i list) → enters_here here (get_or list i h) ≡ false → new ≡ now → new ≡ asked_of_all here (take (i + 1) list)
  none_entered l e t m =
      m ∙ (e ∙ (sym (append-nil (asked_of_all here (take i list))) ∙ (ap (λ b. asked_of_all here (take i list) ++ flat_map (asked_of here) (cond b (get_or list i h ∷ []) [])) (sym t) ∙ sym (more l))))
