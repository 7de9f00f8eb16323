-- What a constraint asks for is of the things that it raises.
use Rattle.std.proofs.Common.{arith, ◌≡◌, inl, inr, ℕ, suc, ◌+◌, Bool, true, false, List, [], ◌∷◌, ◌++◌, map, length, Contains, Option, Some, None, slice_get, refl, sym, ap, subst, ◌∙◌}
use Rattle.std.specs.Prelude.{if◌then◌else◌}
use Rattle.std.specs.List.{flat_map, filter}
use Rattle.cc_rules_grow.specs.CcFlow.declared.types.Point.{Point}
use Rattle.cc_rules_grow.specs.CcFlowSound.Moves.{entry}
use Rattle.cc_rules_grow.specs.CcPlaces.declared.abs.Abs.{Abs}
use Rattle.cc_rules_grow.specs.CcPlaces.laws.ListLaws.{cons_cases, at_head, behind_head, none_in}
use Rattle.cc_program.specs.declared.expr.Place.{Place}
use Rattle.cc_program.specs.declared.func.Func.{Func}
use Rattle.cc_program.specs.declared.program.Program.{Program}
use Rattle.cc_rules_grow.specs.CcRules.Constraints.{Rule, Initial, Start, Flow, Write, Touch, Call, Back, Return, Handler, Stability, Constraint, at_point}
use Rattle.cc_rules_grow.specs.CcRules.Rules.{handlers, act_at, NeedsAt, AreFirstSets, IsStarted, AtStart, Elsewhere, ComesToEach, ComesTo, flows_to, Written, OfWrite, OfNone, AreNumbers, AreKeys, reads, writes, Touched, ByRead, ByWrite, ByNone, ForEach, at_entry, need_whole, other_parameters, Entered, of_exit, Returned, FromExit, NoExit, CallAsks, OfEntries, OfReturns, OfNoCall, Given, OfReturn, OfNoValue, at_handler, interrupted, entering, unstable_cell, is_unstable, unstable, HandlersAsk, AskedHere, AskedIn, IsAsked}
use Rattle.cc_rules_again.proofs.Lists.{each_flat_in, each_more}
use Rattle.cc_rules_again.specs.Things.{Thing, OfPoint, OfReach, OfTouch, thing_of, IsCalledBy, RaisesHere, ByFlow, ByTouchOfRead, ByTouchOfWrite, ByCall, ByEntry, ByArgument, ByBack, ByReturn, ByHandler, ByHandlerEntry, ByStability, Raises, AtFirst, AtMain, AtMainEntry, AtPoint}
use Rattle.cc_rules_again.specs.Things.{ByWrite as RaisesWritten}
use Rattle.cc_rules_grow.specs.CcRulesFlows.Acts.{Act}
use Rattle.cc_rules_grow.specs.CcRulesFlows.Nexts.{statement_of}
use Rattle.cc_rules_grow.proofs.Elements.{Each, each_append, each_map}
use Rattle.cc_rules_grow.specs.CcRulesNeeds.declared.needs.Part.{Part}
use Rattle.cc_rules_grow.specs.CcRulesNeeds.declared.needs.Part.TheVariants.{Mark, LevelSet, Values}
use Rattle.cc_rules_grow.specs.CcRulesNeeds.declared.needs.Slot.{Slot}
use Rattle.cc_rules_grow.specs.CcRulesNeeds.declared.needs.Slot.TheVariants.{Whole, HandlerReads, HandlerWrites, ReadLevels, WriteLevels, Apart}
use Rattle.cc_rules_grow.specs.CcRulesNeeds.Flowing.{Flowing, numbers, each_pair, need_apart, need_local, need_cell, needs_at}
use Rattle.cc_rules_grow.specs.CcRulesNeeds.Needs.{Needs}
use Rattle.cc_rules_reads.proofs.Called.{may_call}
use Rattle.cc_rules_reads.proofs.Formed.{named_formed}
use Rattle.cc_rules_reads.specs.Reads.{MayName}
use Rattle.cc_rules_grow.proofs.CcState.Lists.{from_filter}
use Rattle.cc_rules_grow.specs.CcStateFacts.declared.facts.Facts.{Facts}
use Rattle.cc_rules_grow.specs.CcStateFacts.declared.facts.Key.{Key}
use Rattle.cc_rules_grow.specs.CcStateFacts.declared.facts.Key.TheVariants as key
use Rattle.cc_rules_grow.specs.CcStateFacts.declared.facts.PointFact.{PointFact}
use Rattle.cc_rules_grow.specs.CcStateFacts.Facts.{fact_at, mark_of, levels_of}
use Rattle.cc_rules_grow.specs.CcStateFacts.Levels.{may_enter}
use Rattle.cc_rules_grow.specs.CcStateKeys.Keys.{keys_of, key_number}
use Rattle.cc_rules_grow.specs.CcStateKeys.Tracked.{registers, tracked}
use Rattle.cc_rules_grow.specs.CcStateOperators.Domains.{Domain}
use Rattle.cc_rules_grow.specs.CcStateReads.Named.{is_among}
use Rattle.cc_rules_grow.specs.CcStateReads.Reads.{registers_at}
use Rattle.cc_rules_grow.specs.CcSteps.Turn.{level_of}

-- ---- what is asked at a point, and each time of some functions

module _ {I : Type 0} (Q : Thing → Type 0) where
  abbrev Of : Slot × Part I → Type 0
  Of need = Q (thing_of need.0)

  abbrev AllOf : Needs I → Type 0
  AllOf ns = Each Of ns

  apart_of : Flowing I → (k r j : ℕ) (b : Bool) → Q (OfPoint k) → AllOf (if b then [] else (Apart k r j, Mark true) ∷ [])
  apart_of flow k r j true q = tt
  apart_of flow k r j false q = (q, tt)

  pub at_point_of : (k registers cells : ℕ) (flow : Flowing I) → Q (OfPoint k) → AllOf (needs_at k registers cells flow)
  at_point_of k registers cells flow q = (
    q,
    each_append Of (map (need_local k flow) (numbers 0 registers)) (map (need_cell k flow) (numbers 0 cells) ++ flat_map (need_apart k flow.pair) (each_pair registers cells)) (each_map Of (need_local k flow) (numbers 0 registers) (λ r c. q))
        (each_append Of (map (need_cell k flow) (numbers 0 cells)) (flat_map (need_apart k flow.pair) (each_pair registers cells)) (each_map Of (need_cell k flow) (numbers 0 cells) (λ j c. q))
        (each_flat_in Of (need_apart k flow.pair) (each_pair registers cells) (λ pair c. apart_of flow k pair.0 pair.1 (flow.pair pair.0 pair.1) q))),
  )

-- ---- first sets, and where the program starts

module _ {I : Type 0} (d : Domain I) (p : Program) (facts : Facts I) where
  firsts_of : (point n : ℕ) (keys : List Key) (ns : Needs I) → n + length keys ≡ length (keys_of p) → AreFirstSets d p facts n keys ns → AllOf (Raises p (at_point point Initial)) ns
  firsts_of point n [] ns l is = subst (AllOf (Raises p (at_point point Initial))) (sym is) tt
  firsts_of point n (k ∷ keys) ns l (y, rest, first, more, is) =
      let count : n + suc (length keys) ≡ length (keys_of p) = l in
      subst (AllOf (Raises p (at_point point Initial))) (sym is) (AtFirst n refl (omega (arith, count)) refl, firsts_of point (suc n) keys rest (omega (arith, count)) more)

  starts_of : (n : ℕ) (ns : Needs I) → IsStarted d p facts n ns → AllOf (Raises p (at_point n Start)) ns
  starts_of n ns (AtStart f flow at is start all) =
      subst (AllOf (Raises p (at_point n Start))) (sym all) (AtMain refl is refl, (AtMain refl is refl, at_point_of (Raises p (at_point n Start)) n (length (registers f)) (length (tracked p)) flow (AtMainEntry refl is refl)))
  starts_of n ns (Elsewhere apart all) = subst (AllOf (Raises p (at_point n Start))) (sym all) tt

-- ---- at a point that is reached

module _ {I : Type 0} (d : Domain I) (p : Program) (facts : Facts I) (n id : ℕ) (f : Func) (point : Point) (fact : PointFact I) where
  abbrev Raised : Rule → Act → Needs I → Type 0
  Raised rule act ns = AllOf (RaisesHere p n id f point act rule) ns

  abbrev At : Rule → Act → Slot × Part I → Type 0
  At rule act need = RaisesHere p n id f point act rule (thing_of need.0)

  none_asked : (rule : Rule) (act : Act) (ns : Needs I) → ns ≡ [] → Raised rule act ns
  none_asked rule act ns is = subst (Raised rule act) (sym is) tt

  -- what flows to the next points

  comes_to : (act : Act) (k : ℕ) → Contains point.next k → (flows : List (Flowing I)) (ns : Needs I) → ComesTo d p facts n id f point fact k flows ns → Raised Flow act ns
  comes_to act k c [] ns is = none_asked Flow act ns is
  comes_to act k c (a ∷ flows) ns (flow, joined, is) = subst (Raised Flow act) (sym is) (at_point_of (RaisesHere p n id f point act Flow) k (length (registers f)) (length (tracked p)) flow (ByFlow k refl c refl))

  comes_to_each : (act : Act) (next : List ℕ) → ((k : ℕ) → Contains next k → Contains point.next k) → (flows : List (ℕ × Flowing I)) (ns : Needs I) → ComesToEach d p facts n id f point fact next flows ns → Raised Flow act ns
  comes_to_each act [] within flows ns is = none_asked Flow act ns is
  comes_to_each act (k ∷ next) within flows ns (here, rest, comes, each, is) =
      subst (Raised Flow act) (sym is)
      (each_append (At Flow act) here rest (comes_to act k (within k (at_head k next)) (flows_to d p facts n id f point fact k flows) here comes)
      (comes_to_each act next (λ q c. within q (behind_head k next q c)) flows rest each))

  -- keys that are accessed

  number_from : (keys : List Key) (ks : List ℕ) (m : ℕ) → AreNumbers d p facts n id f point fact keys ks → Contains ks m → (q : Key) × Contains keys q × (key_number p q ≡ Some m)
  number_from [] ks m is c = absurd (none_in m (subst (λ (l : List ℕ). Contains l m) is c))
  number_from (q ∷ keys) ks m (number, rest, found, more, is) c = elim (cons_cases number rest m (subst (λ (l : List ℕ). Contains l m) is c)) [
    | inl e ↦ (q, at_head q keys, found ∙ ap Some e)
    | inr r ↦ let (q', there, found') = number_from keys rest m more r in (q', behind_head q keys q' there, found')
  ]

  key_of : (a : Place) (ks : List ℕ) (m : ℕ) → AreKeys d p facts n id f point fact a ks → Contains ks m → (q : Key) × MayName p id f q a × (key_number p q ≡ Some m)
  key_of a ks m (keys, (classes, are, is), number) c =
      let (q, there, found) = number_from keys ks m number c in
      (q, named_formed d p id f (registers_at facts f n) a classes are q (from_filter (is_among classes) (keys_of p) q (subst (λ (l : List Key). Contains l q) is there)).1, found)

  written_by : (act : Act) (ns : Needs I) → Written d p facts n id f point fact act ns → Raised Write act ns
  written_by act ns (OfWrite a e y ks is val keys all) = subst (Raised Write act) (sym all)
      (each_map (At Write act) (λ k. (Whole k, Values (Some y))) ks (λ m c. (let (q, may, found) = key_of a ks m keys c in RaisesWritten m refl (a, e, q, is, may, found) refl)))
  written_by act ns (OfNone none all) = none_asked Write act ns all

  read_touches : (act : Act) (b : Bool) (ks : List ℕ) → ((m : ℕ) → Contains ks m → RaisesHere p n id f point act Touch (OfTouch m)) → Raised Touch act (if b then reads d p facts n id f point fact ks else [])
  read_touches act false ks each = tt
  read_touches act true ks each =
      each_append (At Touch act) (map (λ k. (HandlerReads k, Mark true)) ks) (map (λ k. (ReadLevels k, LevelSet (levels_of facts.from id))) ks) (each_map (At Touch act) (λ k. (HandlerReads k, Mark true)) ks each) (each_map (At Touch act) (λ k. (ReadLevels k, LevelSet (levels_of facts.from id))) ks each)

  write_touches : (act : Act) (b : Bool) (ks : List ℕ) → ((m : ℕ) → Contains ks m → RaisesHere p n id f point act Touch (OfTouch m)) → Raised Touch act (if b then writes d p facts n id f point fact ks else [])
  write_touches act false ks each = tt
  write_touches act true ks each =
      each_append (At Touch act) (map (λ k. (HandlerWrites k, Mark true)) ks) (map (λ k. (WriteLevels k, LevelSet (levels_of facts.from id))) ks) (each_map (At Touch act) (λ k. (HandlerWrites k, Mark true)) ks each) (each_map (At Touch act) (λ k. (WriteLevels k, LevelSet (levels_of facts.from id))) ks each)

  touched_by : (act : Act) (ns : Needs I) → Touched d p facts n id f point fact act ns → Raised Touch act ns
  touched_by act ns (ByRead r a ks is keys all) = subst (Raised Touch act) (sym all) (read_touches act (mark_of facts.by_handler id) ks (λ m c. (let (q, may, found) = key_of a ks m keys c in ByTouchOfRead m refl (r, a, q, is, may, found) refl)))
  touched_by act ns (ByWrite a e ks is keys all) = subst (Raised Touch act) (sym all) (write_touches act (mark_of facts.by_handler id) ks (λ m c. (let (q, may, found) = key_of a ks m keys c in ByTouchOfWrite m refl (a, e, q, is, may, found) refl)))
  touched_by act ns (ByNone none none' all) = none_asked Touch act ns all

  -- calls

  for_each : (rule : Rule) (act : Act) (asks : ℕ → Func → Needs I → Type 0) (gs : List ℕ) (ns : Needs I) → ((g : ℕ) (callee : Func) (here : Needs I) → Contains gs g → slice_get p.funcs g ≡ Some callee → asks g callee here → Raised rule act here) → ForEach d p facts n id f point fact asks gs ns → Raised rule act ns
  for_each rule act asks [] ns each is = none_asked rule act ns is
  for_each rule act asks (g ∷ gs) ns each (callee, here, rest, there, first, more, is) =
      subst (Raised rule act) (sym is) (each_append (At rule act) here rest (each g callee here (at_head g gs) there first) (for_each rule act asks gs rest (λ q k x c. each q k x (behind_head g gs q c)) more))

  module _ (act : Act) (g : ℕ) (callee : Func) (called : IsCalledBy p act g callee) where
    one_parameter : (r : ℕ) (y : Abs I) (number : Option ℕ) → key_number p (key.Local g r) ≡ number → Raised Call act (need_whole d p facts n id f point fact number y)
    one_parameter r y None e = tt
    one_parameter r y (Some k) e = (ByArgument g k callee refl called (r, e) refl, tt)

    parameters_by : (r : ℕ) (ys : List (Abs I)) → Raised Call act (other_parameters d p facts n id f point fact g r ys)
    parameters_by r [] = tt
    parameters_by r (y ∷ ys) =
        each_append (At Call act) (need_whole d p facts n id f point fact (key_number p (key.Local g r)) y) (other_parameters d p facts n id f point fact g (suc r) ys) (one_parameter r y (key_number p (key.Local g r)) refl) (parameters_by (suc r) ys)

    entered_by : (ys : List (Abs I)) (ns : Needs I) → Entered d p facts n id f point fact ys g callee ns → Raised Call act ns
    entered_by ys ns is =
        let reached : RaisesHere p n id f point act Call (OfReach g) = ByCall g callee refl called refl in
        subst (Raised Call act) (sym is) (
          reached,
          (
            reached,
            (
              reached,
              (
                reached,
                each_append (At Call act) (NeedsAt d p facts (entry p g) callee (at_entry d p facts n id f point fact ys callee)) (other_parameters d p facts n id f point fact g 0 ys)
                    (at_point_of (RaisesHere p n id f point act Call) (entry p g) (length (registers callee)) (length (tracked p)) (at_entry d p facts n id f point fact ys callee) (ByEntry g callee refl called refl)) (parameters_by 0 ys),
              ),
            ),
          ),
        )

    returned_by : (result : Option ℕ) (ns : Needs I) → Returned d p facts n id f point fact result g callee ns → Raised Back act ns
    returned_by result ns (FromExit exit flow at given all) =
        subst (Raised Back act) (sym all)
        (each_flat_in (At Back act) (λ k. NeedsAt d p facts k f (of_exit d p facts n id f point fact exit flow)) point.next
        (λ k c. at_point_of (RaisesHere p n id f point act Back) k (length (registers f)) (length (tracked p)) (of_exit d p facts n id f point fact exit flow) (ByBack k g callee refl called c refl)))
    returned_by result ns (NoExit at all) = none_asked Back act ns all

  entries_by : (act : Act) (ns : Needs I) → CallAsks d p facts n id f point fact true act ns → Raised Call act ns
  entries_by act ns (OfEntries result g args gs ys enters is called values each) =
      for_each Call act (Entered d p facts n id f point fact ys) gs ns (λ h callee here c there asked. entered_by act h callee (result, g, args, is, may_call d p facts n id f point fact g gs called h c, there) ys here asked) each
  entries_by act ns (OfReturns result g args gs returning is called each) = absurd (let h : true ≡ false = returning in cc)
  entries_by act ns (OfNoCall none all) = none_asked Call act ns all

  backs_by : (act : Act) (ns : Needs I) → CallAsks d p facts n id f point fact false act ns → Raised Back act ns
  backs_by act ns (OfEntries result g args gs ys enters is called values each) = absurd (let h : false ≡ true = enters in cc)
  backs_by act ns (OfReturns result g args gs returning is called each) =
      for_each Back act (Returned d p facts n id f point fact result) gs ns (λ h callee here c there asked. returned_by act h callee (result, g, args, is, may_call d p facts n id f point fact g gs called h c, there) result here asked) each
  backs_by act ns (OfNoCall none all) = none_asked Back act ns all

  given_by : (act : Act) (ns : Needs I) → Given d p facts n id f point fact act ns → Raised Return act ns
  given_by act ns (OfReturn e y is val all) = subst (Raised Return act) (sym all) (ByReturn e refl is refl, tt)
  given_by act ns (OfNoValue none all) = none_asked Return act ns all

  -- handlers, and cells that they may write

  interrupted_by : (act : Act) (h : ℕ) (handler : Func) → Contains (handlers p) h → Raised Handler act (interrupted d p facts n id f point fact h handler)
  interrupted_by act h handler c =
      let reached : RaisesHere p n id f point act Handler (OfReach h) = ByHandler h refl c refl in
      (reached, (reached, (reached, at_point_of (RaisesHere p n id f point act Handler) (entry p h) (length (registers handler)) (length (tracked p)) (at_handler d p facts n id f point fact) (ByHandlerEntry h refl c refl))))

  handlers_by : (act : Act) (on : Bool) (ns : Needs I) → HandlersAsk d p facts n id f point fact on ns → Raised Handler act ns
  handlers_by act false ns is = none_asked Handler act ns is
  handlers_by act true ns each =
      for_each Handler act (λ h handler here. here ≡ interrupted d p facts n id f point fact h handler) (entering d p facts n id f point fact) ns
      (λ h handler here c there is. subst (Raised Handler act) (sym is) (interrupted_by act h handler (from_filter (λ h. may_enter (levels_of facts.levels id) (level_of p h)) (handlers p) h c).0)) each

  stability_by : (act : Act) (on : Bool) (ns : Needs I) → ns ≡ (if on then unstable d p facts n id f point fact else []) → Raised Stability act ns
  stability_by act false ns is = none_asked Stability act ns is
  stability_by act true ns is = subst (Raised Stability act) (sym is)
      (each_append (At Stability act) (map (unstable_cell d p facts n id f point fact) (filter (is_unstable d p facts n id f point fact) (numbers 0 (length (tracked p)))))
      (map (λ q. (Apart n q.0 q.1, Mark true)) (filter (λ (q : ℕ × ℕ). is_unstable d p facts n id f point fact q.1) (each_pair (length (registers f)) (length (tracked p)))))
      (each_map (At Stability act) (unstable_cell d p facts n id f point fact) (filter (is_unstable d p facts n id f point fact) (numbers 0 (length (tracked p)))) (λ j c. ByStability refl refl))
      (each_map (At Stability act) (λ (q : ℕ × ℕ). (Apart n q.0 q.1, Mark true)) (filter (λ (q : ℕ × ℕ). is_unstable d p facts n id f point fact q.1) (each_pair (length (registers f)) (length (tracked p)))) (λ q c. ByStability refl refl)))

  asked_here : (rule : Rule) (act : Act) (ns : Needs I) → AskedHere d p facts n id f point fact rule act ns → Raised rule act ns
  asked_here Initial act ns is = none_asked Initial act ns is
  asked_here Start act ns is = none_asked Start act ns is
  asked_here Flow act ns (flows, are, comes) = comes_to_each act point.next (λ k c. c) flows ns comes
  asked_here Write act ns h = written_by act ns h
  asked_here Touch act ns h = touched_by act ns h
  asked_here Call act ns h = entries_by act ns h
  asked_here Back act ns h = backs_by act ns h
  asked_here Return act ns h = given_by act ns h
  asked_here Handler act ns h = handlers_by act fact.on ns h
  asked_here Stability act ns h = stability_by act fact.on ns h

-- ---- each constraint

module _ {I : Type 0} (d : Domain I) (p : Program) (facts : Facts I) where
  asked_in : (rule : Rule) (n : ℕ) (x : Option (PointFact I)) (ns : Needs I) → AskedIn d p facts rule n x ns → AllOf (Raises p (at_point n rule)) ns
  asked_in rule n None ns is = subst (AllOf (Raises p (at_point n rule))) (sym is) tt
  asked_in rule n (Some fact) ns (id, f, point, is_point, asked) =
      let act = act_at (statement_of f point) f in
      each_more (λ (need : Slot × Part I). RaisesHere p n id f point act rule (thing_of need.0)) (λ (need : Slot × Part I). Raises p (at_point n rule) (thing_of need.0)) ns (λ need h. AtPoint (id, f, point, is_point, h)) (asked_here d p facts n id f point fact rule act ns asked)

  pub asked_raised : (c : Constraint) (ns : Needs I) → IsAsked d p facts c ns → AllOf (Raises p c) ns
  asked_raised c ns asked = by c.rule asked
    where
      by : (rule : Rule) → IsAsked d p facts (at_point c.point rule) ns → AllOf (Raises p (at_point c.point rule)) ns
      by Initial h = firsts_of d p facts c.point 0 (keys_of p) ns (omega arith) h
      by Start h = starts_of d p facts c.point ns h
      by Flow h = asked_in Flow c.point (fact_at facts c.point) ns h
      by Write h = asked_in Write c.point (fact_at facts c.point) ns h
      by Touch h = asked_in Touch c.point (fact_at facts c.point) ns h
      by Call h = asked_in Call c.point (fact_at facts c.point) ns h
      by Back h = asked_in Back c.point (fact_at facts c.point) ns h
      by Return h = asked_in Return c.point (fact_at facts c.point) ns h
      by Handler h = asked_in Handler c.point (fact_at facts c.point) ns h
      by Stability h = asked_in Stability c.point (fact_at facts c.point) ns h
