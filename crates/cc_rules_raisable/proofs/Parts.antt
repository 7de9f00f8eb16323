-- What is asked can be raised where each need that it stands for is of a key or a function, or of the cells and pairs of a point that is reached.
use Rattle.std.proofs.Common.{◌≡◌, ℕ, Bool, true, false, cond, List, [], ◌∷◌, ◌++◌, map, length, All, is_some, Some, sym, ap, subst}
use Rattle.std.specs.List.{filter}
use Rattle.std.proofs.lemmas.List.Elements.{All-nil, All-cons}
use Rattle.cc_program.specs.declared.program.Program.{Program}
use Rattle.cc_rules_asked.specs.CcRules.Constraints.{Write, Touch, Return, Stability}
use Rattle.cc_rules_asked.specs.CcRules.Rules.{OfWrite, OfNone, ByRead, ByWrite, ByNone, OfReturn, OfNoValue, is_unstable, unstable_cell}
use Rattle.cc_rules_asked.specs.declared.asked.Asked.{Asked}
use Rattle.cc_rules_asked.specs.declared.asked.Asked.TheVariants as asked
use Rattle.cc_rules_asked.specs.Asked.{needs_of, all_needs}
use Rattle.cc_rules_asked.specs.Asks.{AsksHere}
use Rattle.cc_rules_asked.specs.CcRulesFlows.declared.after.Here.{Here}
use Rattle.cc_rules_asked.specs.CcRulesFlows.Acts.{Act}
use Rattle.cc_rules_asked.specs.CcRulesFlows.Here.{IsHere}
use Rattle.cc_rules_grow.proofs.Elements.{Each, each_all, each_append, each_map, each_split}
use Rattle.cc_rules_layout.specs.Raisable.{IsReached, IsRaisableSlot, IsRaisable, AreRaisable}
use Rattle.cc_rules_asked.specs.CcRulesNeeds.declared.needs.Part.{Part}
use Rattle.cc_rules_asked.specs.CcRulesNeeds.declared.needs.Part.TheVariants.{Mark, LevelSet, Values}
use Rattle.cc_rules_asked.specs.CcRulesNeeds.declared.needs.Slot.{Slot}
use Rattle.cc_rules_asked.specs.CcRulesNeeds.declared.needs.Slot.TheVariants.{Whole, HandlerReads, HandlerWrites, ReadLevels, WriteLevels, Apart}
use Rattle.cc_rules_asked.specs.CcRulesNeeds.Flowing.{numbers, each_pair}
use Rattle.cc_rules_asked.specs.CcRulesNeeds.Needs.{Needs}
use Rattle.cc_rules_asked.specs.CcStateFacts.declared.facts.Facts.{Facts}
use Rattle.cc_rules_asked.specs.CcStateFacts.Facts.{mark_of, levels_of}
use Rattle.cc_rules_asked.specs.CcStateKeys.Tracked.{registers, tracked}
use Rattle.cc_rules_asked.specs.CcStateOperators.Domains.{Domain}

module _ {I : Type 0} (d : Domain I) (p : Program) (facts : Facts I) where
  abbrev pub IsRaisableNeed : Slot × Part I → Type 0
  IsRaisableNeed need = IsRaisableSlot d p facts need.0

  one_raisable : (a : Asked I) → Each IsRaisableNeed (needs_of p a) → IsRaisable d p facts a
  one_raisable (asked.Part slot part) h = h.0
  one_raisable (asked.Point number registers flow) h = absurd h.0

  pub needs_raisable : (list : List (Asked I)) → Each IsRaisableNeed (all_needs p list) → AreRaisable d p facts list
  needs_raisable [] h = All-nil (IsRaisable d p facts)
  needs_raisable (a ∷ list) h =
      let t = each_split IsRaisableNeed (needs_of p a) (all_needs p list) h in
      All-cons (IsRaisable d p facts) a list (one_raisable a t.0) (needs_raisable list t.1)

  pub parts_raisable : (list : List (Asked I)) → All IsRaisableNeed (all_needs p list) → AreRaisable d p facts list
  parts_raisable list h = needs_raisable list (each_all IsRaisableNeed (all_needs p list) h)

  -- ---- the needs of a rule

  same_needs : (ns more : Needs I) → ns ≡ more → Each IsRaisableNeed more → Each IsRaisableNeed ns
  same_needs ns more e h = subst (Each IsRaisableNeed) (sym e) h

  where_so : (b : Bool) (ns : Needs I) → Each IsRaisableNeed ns → Each IsRaisableNeed (cond b ns [])
  where_so true ns h = h
  where_so false ns h = tt

module _ {I : Type 0} (d : Domain I) (here : Here I) where
  abbrev AreRaisableHere : List (Asked I) → Type 0
  AreRaisableHere list = AreRaisable d here.context.program.now here.facts.now list

  abbrev IsNeedHere : Slot × Part I → Type 0
  IsNeedHere need = IsRaisableNeed d here.context.program.now here.facts.now need

  abbrev needs_here : List (Asked I) → Needs I
  needs_here list = all_needs here.context.program.now list

  by_needs : (list : List (Asked I)) (ns : Needs I) → needs_here list ≡ ns → Each IsNeedHere ns → AreRaisableHere list
  by_needs list ns e h = needs_raisable d here.context.program.now here.facts.now list (same_needs d here.context.program.now here.facts.now (needs_here list) ns e h)

  pub write_raisable : (act : Act) (list : List (Asked I)) → AsksHere d here Write act list → AreRaisableHere list
  write_raisable act list (OfWrite a e y ks is val keys l) = by_needs list (map (λ k. (Whole k, Values (Some y))) ks) l (each_map IsNeedHere (λ k. (Whole k, Values (Some y))) ks (λ k c. tt))
  write_raisable act list (OfNone none l) = by_needs list [] l tt

  reads_here : (ks : List ℕ) (n : ℕ) → Each IsNeedHere (map (λ k. (HandlerReads k, Mark true)) ks ++ map (λ k. (ReadLevels k, LevelSet n)) ks)
  reads_here ks n =
      each_append IsNeedHere (map (λ k. (HandlerReads k, Mark true)) ks) (map (λ k. (ReadLevels k, LevelSet n)) ks)
      (each_map IsNeedHere (λ k. (HandlerReads k, Mark true)) ks (λ k c. tt)) (each_map IsNeedHere (λ k. (ReadLevels k, LevelSet n)) ks (λ k c. tt))

  writes_here : (ks : List ℕ) (n : ℕ) → Each IsNeedHere (map (λ k. (HandlerWrites k, Mark true)) ks ++ map (λ k. (WriteLevels k, LevelSet n)) ks)
  writes_here ks n =
      each_append IsNeedHere (map (λ k. (HandlerWrites k, Mark true)) ks) (map (λ k. (WriteLevels k, LevelSet n)) ks)
      (each_map IsNeedHere (λ k. (HandlerWrites k, Mark true)) ks (λ k c. tt)) (each_map IsNeedHere (λ k. (WriteLevels k, LevelSet n)) ks (λ k c. tt))

  abbrev from_here : ℕ
  from_here = levels_of here.facts.now.from here.context.id

  abbrev is_marked : Bool
  is_marked = mark_of here.facts.now.by_handler here.context.id

  pub touch_raisable : (act : Act) (list : List (Asked I)) → AsksHere d here Touch act list → AreRaisableHere list
  touch_raisable act list (ByRead r a ks is keys l) =
      by_needs list (cond is_marked (map (λ k. (HandlerReads k, Mark true)) ks ++ map (λ k. (ReadLevels k, LevelSet from_here)) ks) []) l
      (where_so d here.context.program.now here.facts.now is_marked (map (λ k. (HandlerReads k, Mark true)) ks ++ map (λ k. (ReadLevels k, LevelSet from_here)) ks) (reads_here ks from_here))
  touch_raisable act list (ByWrite a e ks is keys l) =
      by_needs list (cond is_marked (map (λ k. (HandlerWrites k, Mark true)) ks ++ map (λ k. (WriteLevels k, LevelSet from_here)) ks) []) l
      (where_so d here.context.program.now here.facts.now is_marked (map (λ k. (HandlerWrites k, Mark true)) ks ++ map (λ k. (WriteLevels k, LevelSet from_here)) ks) (writes_here ks from_here))
  touch_raisable act list (ByNone none not l) = by_needs list [] l tt

  pub return_raisable : (act : Act) (list : List (Asked I)) → AsksHere d here Return act list → AreRaisableHere list
  return_raisable act list (OfReturn e y is val l) = by_needs list _ l (tt, tt)
  return_raisable act list (OfNoValue none l) = by_needs list [] l tt

  abbrev unstable_at : ℕ → Slot × Part I
  unstable_at j = unstable_cell d here.context.program.now here.facts.now here.number here.context.id here.context.func.now here.point.now here.fact.now j

  abbrev is_free : ℕ → Bool
  is_free j = is_unstable d here.context.program.now here.facts.now here.number here.context.id here.context.func.now here.point.now here.fact.now j

  abbrev cells_asked : Needs I
  cells_asked = map unstable_at (filter is_free (numbers 0 (length (tracked here.context.program.now))))

  abbrev pairs_asked : Needs I
  pairs_asked = map (λ (q : ℕ × ℕ). (Apart here.number q.0 q.1, Mark true)) (filter (λ (q : ℕ × ℕ). is_free q.1) (each_pair (length (registers here.context.func.now)) (length (tracked here.context.program.now))))

  pub stability_raisable : (act : Act) (list : List (Asked I)) → IsHere d here → AsksHere d here Stability act list → AreRaisableHere list
  stability_raisable act list h l =
      let reached : IsReached d here.context.program.now here.facts.now here.number = ap is_some h.reached in
      by_needs list (cond here.fact.now.on (cells_asked ++ pairs_asked) []) l
      (where_so d here.context.program.now here.facts.now here.fact.now.on (cells_asked ++ pairs_asked)
      (each_append IsNeedHere cells_asked pairs_asked
      (each_map IsNeedHere unstable_at (filter is_free (numbers 0 (length (tracked here.context.program.now)))) (λ j c. reached))
      (each_map IsNeedHere (λ (q : ℕ × ℕ). (Apart here.number q.0 q.1, Mark true)) (filter (λ (q : ℕ × ℕ). is_free q.1) (each_pair (length (registers here.context.func.now)) (length (tracked here.context.program.now)))) (λ q c. reached))))
