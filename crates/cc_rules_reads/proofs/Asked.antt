-- Facts that are the same in what a constraint reads are asked the same by it.
use Rattle.std.proofs.Common.{◌≡◌, ℕ, suc, ◌==◌, Bool, true, false, List, [], ◌∷◌, ◌++◌, map, length, Contains, Option, Some, None, slice_get, refl, ap, sym, ◌∙◌, subst}
use Rattle.std.specs.Prelude.{option_and_then, if◌then◌else◌}
use Rattle.std.specs.List.{AllZip, filter}
use Rattle.cc_rules.specs.CcFlow.declared.types.Point.{Point}
use Rattle.cc_rules.specs.CcFlowSound.Moves.{entry}
use Rattle.cc_rules.specs.CcPlaces.Abstract.{AreOfOneKind}
use Rattle.cc_rules.specs.CcPlaces.declared.abs.Abs.{Abs}
use Rattle.cc_rules.specs.CcPlaces.declared.abs.Abs.TheVariants as abs
use Rattle.cc_rules.specs.CcPlaces.laws.ListLaws.{at_head, behind_head}
use Rattle.cc_program.specs.declared.expr.Expr.{Expr}
use Rattle.cc_program.specs.declared.func.Func.{Func}
use Rattle.cc_program.specs.declared.program.Program.{Program}
use Rattle.cc_rules.specs.Constraints.{Rule, Initial, Start, Flow, Write, Touch, Call, Back, Return, Handler, Stability, Constraint}
use Rattle.cc_rules.specs.Rules.{handlers, act_at, NeedsAt, AreFirstSets, IsFirstSet, IsStarted, AtStart, Elsewhere, IsStart, ComesToEach, ComesTo, flows_to, Written, OfWrite, OfNone, Touched, ByRead, ByWrite, ByNone, AreCalled, ForEach, at_entry, need_whole, other_parameters, Entered, IsResult, OfMain, OfOther, IsGiven, ToRegister, ToNone, Returned, FromExit, NoExit, CallAsks, OfEntries, OfReturns, OfNoCall, Given, OfReturn, OfNoValue, at_handler, interrupted, entering, whole_number, is_written, is_unstable, unstable_cell, unstable, HandlersAsk, AskedHere, AskedIn, IsAsked}
use Rattle.cc_rules.specs.CcRulesFlows.Acts.{Act}
use Rattle.cc_rules.specs.CcRulesFlows.Nexts.{statement_of, exit_of}
use Rattle.cc_rules.proofs.CcRulesNeeds.Zips.{AreSome, some_at}
use Rattle.cc_rules.specs.CcRulesNeeds.declared.needs.Part.TheVariants.{Mark, LevelSet, Values}
use Rattle.cc_rules.specs.CcRulesNeeds.declared.needs.Slot.{Slot}
use Rattle.cc_rules.specs.CcRulesNeeds.declared.needs.Slot.TheVariants.{HandlerReads, HandlerWrites, ReadLevels, WriteLevels, ByMain, ByHandler, Levels, From, CellAt, Apart}
use Rattle.cc_rules.specs.CcRulesNeeds.Flowing.{Flowing, each_pair, numbers}
use Rattle.cc_rules.specs.CcRulesNeeds.Needs.{Needs}
use Rattle.cc_rules_reads.proofs.Called.{may_call}
use Rattle.cc_rules_reads.proofs.Same.{value_same, values_same, keys_same, flows_same, filter_same}
use Rattle.cc_rules_reads.specs.Reads.{AreSameByHandler, AreSameFrom, AreSameLevels, AreSameMarks, AreSameGiven, AreSameTracked, AreSameWhole, AreSameHere, AreSameIn, AreSameFor}
use Rattle.cc_state.proofs.Lists.{from_filter}
use Rattle.cc_rules.specs.CcStateFacts.declared.facts.Facts.{Facts}
use Rattle.cc_rules.specs.CcStateFacts.declared.facts.Key.{Key}
use Rattle.cc_rules.specs.CcStateFacts.declared.facts.Key.TheVariants as key
use Rattle.cc_rules.specs.CcStateFacts.declared.facts.PointFact.{PointFact}
use Rattle.cc_rules.specs.CcStateFacts.Facts.{fact_at, mark_of, levels_of}
use Rattle.cc_rules.specs.CcStateFacts.Levels.{may_enter, one_may_enter, only_level}
use Rattle.cc_rules.specs.CcStateKeys.Keys.{keys_of, key_number}
use Rattle.cc_rules.specs.CcStateKeys.Tracked.{registers, tracked}
use Rattle.cc_rules.specs.CcStateOperators.Domains.{Domain}
use Rattle.cc_rules.proofs.CcStateReads.Joins.{kinds_through}
use Rattle.cc_rules.specs.CcSteps.Turn.{level_of}

map_same_in : {A B : Type 0} (f g : A → B) (xs : List A) → ((x : A) → Contains xs x → f x ≡ g x) → map f xs ≡ map g xs
map_same_in f g [] same = refl
map_same_in f g (x ∷ xs) same = ap (λ y. y ∷ map f xs) (same x (at_head x xs)) ∙ ap (λ ys. g x ∷ ys) (map_same_in f g xs (λ y c. same y (behind_head x xs y c)))

-- ---- what is asked of keys, and where the program starts

module _ {I : Type 0} (d : Domain I) (p : Program) (facts others : Facts I) where
  first_set_same : AllZip AreOfOneKind facts.whole others.whole → (n : ℕ) (k : Key) (y : Abs I) → IsFirstSet d p facts n k y → IsFirstSet d p others n k y
  first_set_same kinds n k y h = by (slice_get others.whole n) refl (subst (λ (x : Option (Abs I)). AreSome AreOfOneKind x (slice_get others.whole n)) h.there (some_at AreOfOneKind facts.whole others.whole kinds n))
    where
      back : (x z : Abs I) → AreOfOneKind x z → AreOfOneKind z x
      back (abs.Ints a) (abs.Ints b) h = tt
      back (abs.Addrs a) (abs.Addrs b) h = tt
      back (abs.Ints a) (abs.Addrs b) h = absurd h
      back (abs.Addrs a) (abs.Ints b) h = absurd h

      by : (x : Option (Abs I)) → slice_get others.whole n ≡ x → AreSome AreOfOneKind (Some h.set) x → IsFirstSet d p others n k y
      by None e alike = absurd alike
      by (Some set) e alike = record {
        set = set;
        there = e;
        alike = kinds_through set h.set y (back h.set set alike) h.alike;
        has = h.has;
        least = λ u kind has. h.least u (kinds_through h.set set u alike kind) has;
      }

  first_sets_same : AllZip AreOfOneKind facts.whole others.whole → (n : ℕ) (keys : List Key) (ns : Needs I) → AreFirstSets d p facts n keys ns → AreFirstSets d p others n keys ns
  first_sets_same kinds n [] ns h = h
  first_sets_same kinds n (k ∷ keys) ns (y, rest, first, more, is) = (y, rest, first_set_same kinds n k y first, first_sets_same kinds (suc n) keys rest more, is)

  start_same : (flow : Flowing I) → IsStart d p facts flow → IsStart d p others flow
  start_same flow h = record { off = h.off; on = h.on; locals = h.locals; cells = h.cells; pairs = h.pairs }

  started_same : (n : ℕ) (ns : Needs I) → IsStarted d p facts n ns → IsStarted d p others n ns
  started_same n ns (AtStart f flow at is start all) = AtStart f flow at is (start_same flow start) all
  started_same n ns (Elsewhere apart all) = Elsewhere apart all

-- ---- at a point

module _ {I : Type 0} (d : Domain I) (p : Program) (facts others : Facts I) (n id : ℕ) (f : Func) (point : Point) (fact : PointFact I) (same : fact_at facts n ≡ fact_at others n) where
  comes_same : (k : ℕ) (flows : List (Flowing I)) (ns : Needs I) → ComesTo d p facts n id f point fact k flows ns → ComesTo d p others n id f point fact k flows ns
  comes_same k [] ns h = h
  comes_same k (a ∷ flows) ns h = h

  comes_to_each_same : (next : List ℕ) (flows : List (ℕ × Flowing I)) (ns : Needs I) → ComesToEach d p facts n id f point fact next flows ns → ComesToEach d p others n id f point fact next flows ns
  comes_to_each_same [] flows ns h = h
  comes_to_each_same (k ∷ next) flows ns (here, rest, comes, each, is) = (here, rest, comes_same k (flows_to d p facts n id f point fact k flows) here comes, comes_to_each_same next flows rest each, is)

  written_same : (act : Act) (ns : Needs I) → Written d p facts n id f point fact act ns → Written d p others n id f point fact act ns
  written_same act ns (OfWrite a e y ks is val keys all) = OfWrite a e y ks is (value_same d p n id f point fact facts others same e y val) (keys_same d p n id f point fact facts others same a ks keys) all
  written_same act ns (OfNone none all) = OfNone none all

  -- marks of keys, and then their levels
  abbrev touches : (ℕ → Slot) → (ℕ → Slot) → List ℕ → ℕ → Needs I
  touches mark levels ks from = map (λ k. (mark k, Mark true)) ks ++ map (λ k. (levels k, LevelSet from)) ks

  touched_same : AreSameByHandler p facts others id → AreSameFrom p facts others id → (act : Act) (ns : Needs I) → Touched d p facts n id f point fact act ns → Touched d p others n id f point fact act ns
  touched_same marked from act ns (ByRead r a ks is keys all) =
      ByRead r a ks is (keys_same d p n id f point fact facts others same a ks keys)
      (all ∙ (ap (λ b. if b then touches HandlerReads ReadLevels ks (levels_of facts.from id) else []) marked ∙ ap (λ x. if mark_of others.by_handler id then touches HandlerReads ReadLevels ks x else []) from))
  touched_same marked from act ns (ByWrite a e ks is keys all) =
      ByWrite a e ks is (keys_same d p n id f point fact facts others same a ks keys)
      (all ∙ (ap (λ b. if b then touches HandlerWrites WriteLevels ks (levels_of facts.from id) else []) marked ∙ ap (λ x. if mark_of others.by_handler id then touches HandlerWrites WriteLevels ks x else []) from))
  touched_same marked from act ns (ByNone none none' all) = ByNone none none' all

  -- ---- calls

  called_same : (e : Expr) (gs : List ℕ) → AreCalled d p facts n id f point fact e gs → AreCalled d p others n id f point fact e gs
  called_same e gs h = record { operand = h.operand; given = value_same d p n id f point fact facts others same e h.operand h.given; called = h.called; ascend = h.ascend }

  for_each_same : (asks asked : ℕ → Func → Needs I → Type 0) (gs : List ℕ) (ns : Needs I) → ((g : ℕ) (callee : Func) (here : Needs I) → Contains gs g → slice_get p.funcs g ≡ Some callee → asks g callee here → asked g callee here) →
      ForEach d p facts n id f point fact asks gs ns → ForEach d p others n id f point fact asked gs ns
  for_each_same asks asked [] ns each h = h
  for_each_same asks asked (g ∷ gs) ns each (callee, here, rest, there, first, more, is) =
      (callee, here, rest, there, each g callee here (at_head g gs) there first, for_each_same asks asked gs rest (λ q c x l. each q c x (behind_head g gs q l)) more, is)

  need_same : (number : Option ℕ) (y : Abs I) → need_whole d p facts n id f point fact number y ≡ need_whole d p others n id f point fact number y
  need_same None y = refl
  need_same (Some k) y = refl

  parameters_same : (g r : ℕ) (ys : List (Abs I)) → other_parameters d p facts n id f point fact g r ys ≡ other_parameters d p others n id f point fact g r ys
  parameters_same g r [] = refl
  parameters_same g r (y ∷ ys) =
      ap (λ (ms : Needs I). ms ++ other_parameters d p facts n id f point fact g (suc r) ys) (need_same (key_number p (key.Local g r)) y)
      ∙ ap (λ (ms : Needs I). need_whole d p others n id f point fact (key_number p (key.Local g r)) y ++ ms) (parameters_same g (suc r) ys)

  -- what an entry is asked
  abbrev entered : ℕ → Func → List (Abs I) → Bool → Bool → ℕ → ℕ → Needs I → Needs I
  entered g callee ys by_main by_handler levels from rest =
      (ByMain g, Mark by_main) ∷ (ByHandler g, Mark by_handler) ∷ (Levels g, LevelSet levels) ∷ (From g, LevelSet from) ∷ (NeedsAt d p others (entry p g) callee (at_entry d p others n id f point fact ys callee) ++ rest)

  entered_same : AreSameMarks p facts others id → (ys : List (Abs I)) (g : ℕ) (callee : Func) (ns : Needs I) → Entered d p facts n id f point fact ys g callee ns → Entered d p others n id f point fact ys g callee ns
  entered_same marks ys g callee ns is =
      is
      ∙ (ap (λ b. entered g callee ys b (mark_of facts.by_handler id) (levels_of facts.levels id) (levels_of facts.from id) (other_parameters d p facts n id f point fact g 0 ys)) marks.by_main
      ∙ (ap (λ b. entered g callee ys (mark_of others.by_main id) b (levels_of facts.levels id) (levels_of facts.from id) (other_parameters d p facts n id f point fact g 0 ys)) marks.by_handler
      ∙ (ap (λ x. entered g callee ys (mark_of others.by_main id) (mark_of others.by_handler id) x (levels_of facts.from id) (other_parameters d p facts n id f point fact g 0 ys)) marks.levels
      ∙ (ap (λ x. entered g callee ys (mark_of others.by_main id) (mark_of others.by_handler id) (levels_of others.levels id) x (other_parameters d p facts n id f point fact g 0 ys)) marks.from
      ∙ ap (λ (ms : Needs I). entered g callee ys (mark_of others.by_main id) (mark_of others.by_handler id) (levels_of others.levels id) (levels_of others.from id) ms) (parameters_same g 0 ys)))))

  result_same : (g : ℕ) (callee : Func) (y : Abs I) → slice_get facts.results g ≡ slice_get others.results g → IsResult d p facts n id f point fact g callee y → IsResult d p others n id f point fact g callee y
  result_same g callee y given (OfMain x nought main gives is only alike above over least) = OfMain x nought main gives (sym given ∙ is) only alike above over least
  result_same g callee y given (OfOther gives is) = OfOther gives (sym given ∙ is)

  given_same : (result : Option ℕ) (g : ℕ) (callee : Func) (flow : Flowing I) → slice_get facts.results g ≡ slice_get others.results g → IsGiven d p facts n id f point fact result g callee flow → IsGiven d p others n id f point fact result g callee flow
  given_same result g callee flow given (ToRegister r number y is at h e) = ToRegister r number y is at (result_same g callee y given h) e
  given_same result g callee flow given (ToNone is e) = ToNone is e

  returned_same : (result : Option ℕ) (g : ℕ) (callee : Func) (ns : Needs I) → (slice_get facts.results g ≡ slice_get others.results g) × (fact_at facts (exit_of p g callee) ≡ fact_at others (exit_of p g callee)) → Returned d p facts n id f point fact result g callee ns → Returned d p others n id f point fact result g callee ns
  returned_same result g callee ns alike (FromExit exit flow at given all) = FromExit exit flow (sym alike.1 ∙ at) (given_same result g callee flow alike.0 given) all
  returned_same result g callee ns alike (NoExit at all) = NoExit (sym alike.1 ∙ at) all

  entries_same : AreSameMarks p facts others id → (act : Act) (ns : Needs I) → CallAsks d p facts n id f point fact true act ns → CallAsks d p others n id f point fact true act ns
  entries_same marks act ns (OfEntries result g args gs ys enters is called values each) =
      OfEntries result g args gs ys enters is (called_same g gs called) (values_same d p n id f point fact facts others same args ys values)
      (for_each_same (Entered d p facts n id f point fact ys) (Entered d p others n id f point fact ys) gs ns (λ h callee here c there asked. entered_same marks ys h callee here asked) each)
  entries_same marks act ns (OfReturns result g args gs returning is called each) = absurd (let h : true ≡ false = returning in cc)
  entries_same marks act ns (OfNoCall none all) = OfNoCall none all

  backs_same : (act : Act) → AreSameGiven p facts others act → (ns : Needs I) → CallAsks d p facts n id f point fact false act ns → CallAsks d p others n id f point fact false act ns
  backs_same act given ns (OfEntries result g args gs ys enters is called values each) = absurd (let h : false ≡ true = enters in cc)
  backs_same act given ns (OfReturns result g args gs returning is called each) =
      OfReturns result g args gs returning is (called_same g gs called)
      (for_each_same (Returned d p facts n id f point fact result) (Returned d p others n id f point fact result) gs ns
      (λ h callee here c there asked. returned_same result h callee here (given result g args h callee is (may_call d p facts n id f point fact g gs called h c) there) asked) each)
  backs_same act given ns (OfNoCall none all) = OfNoCall none all

  given_by_return : (act : Act) (ns : Needs I) → Given d p facts n id f point fact act ns → Given d p others n id f point fact act ns
  given_by_return act ns (OfReturn e y is val all) = OfReturn e y is (value_same d p n id f point fact facts others same e y val) all
  given_by_return act ns (OfNoValue none all) = OfNoValue none all

  -- ---- handlers

  module _ (levels : AreSameLevels p facts others id) where
    -- what a handler is asked, where the function runs at some levels
    abbrev interrupts : ℕ → ℕ → Func → Needs I
    interrupts running h handler =
        (ByHandler h, Mark true) ∷ (Levels h, LevelSet (if level_of p h == 0 then running else only_level (level_of p h))) ∷ (From h, LevelSet (only_level (level_of p h))) ∷ NeedsAt d p others (entry p h) handler (at_handler d p others n id f point fact)

    handlers_same : (on : Bool) (ns : Needs I) → HandlersAsk d p facts n id f point fact on ns → HandlersAsk d p others n id f point fact on ns
    handlers_same false ns h = h
    handlers_same true ns h =
        subst (λ (hs : List ℕ). ForEach d p others n id f point fact (λ h handler here. here ≡ interrupted d p others n id f point fact h handler) hs ns)
        (ap (λ running. filter (λ h. may_enter running (level_of p h)) (handlers p)) levels)
        (for_each_same (λ h handler here. here ≡ interrupted d p facts n id f point fact h handler) (λ h handler here. here ≡ interrupted d p others n id f point fact h handler) (entering d p facts n id f point fact) ns
        (λ h handler here c there is. is ∙ ap (λ running. interrupts running h handler) levels) h)

    -- ---- stability

    module _ (tracked_same : AreSameTracked p facts others id) where
      -- of a tracked cell whose key has a number
      at_number : (j k : ℕ) → whole_number d p facts n id f point fact j ≡ Some k →
          (levels_of facts.write_levels k ≡ levels_of others.write_levels k) × (one_may_enter (levels_of facts.levels id) (levels_of facts.write_levels k) ≡ true → AreSameWhole p facts others k)
      at_number j k e = by (slice_get (tracked p) j) refl e
        where
          by : (i : Option ℕ) → slice_get (tracked p) j ≡ i → option_and_then (λ i. key_number p (key.Object i)) i ≡ Some k →
              (levels_of facts.write_levels k ≡ levels_of others.write_levels k) × (one_may_enter (levels_of facts.levels id) (levels_of facts.write_levels k) ≡ true → AreSameWhole p facts others k)
          by None at e = absurd (let h : None ≡ Some k = e in cc)
          by (Some i) at e = tracked_same j i k at e

      unstable_same : (j : ℕ) → is_unstable d p facts n id f point fact j ≡ is_unstable d p others n id f point fact j
      unstable_same j = by (whole_number d p facts n id f point fact j) refl
        where
          by : (number : Option ℕ) → whole_number d p facts n id f point fact j ≡ number → is_written d p facts n id f point fact number ≡ is_written d p others n id f point fact number
          by None e = refl
          by (Some k) e = ap (λ running. one_may_enter running (levels_of facts.write_levels k)) levels ∙ ap (λ x. one_may_enter (levels_of others.levels id) x) (at_number j k e).0

      cell_same : (j : ℕ) → is_unstable d p facts n id f point fact j ≡ true → unstable_cell d p facts n id f point fact j ≡ unstable_cell d p others n id f point fact j
      cell_same j written = ap (λ (y : Option (Abs I)). (CellAt n j, Values y)) (by (whole_number d p facts n id f point fact j) refl written)
        where
          by : (number : Option ℕ) → whole_number d p facts n id f point fact j ≡ number → is_written d p facts n id f point fact number ≡ true → option_and_then (slice_get facts.whole) number ≡ option_and_then (slice_get others.whole) number
          by None e w = refl
          by (Some k) e w = (at_number j k e).1 w

      abbrev cells : List ℕ
      cells = numbers 0 (length (tracked p))

      abbrev pairs : List (ℕ × ℕ)
      pairs = each_pair (length (registers f)) (length (tracked p))

      abbrev apart : List (ℕ × ℕ) → Needs I
      apart qs = map (λ q. (Apart n q.0 q.1, Mark true)) qs

      abbrev here : ℕ → Bool
      here j = is_unstable d p facts n id f point fact j

      abbrev others_here : ℕ → Bool
      others_here j = is_unstable d p others n id f point fact j

      all_unstable : unstable d p facts n id f point fact ≡ unstable d p others n id f point fact
      all_unstable =
          ap (λ (ms : Needs I). ms ++ apart (filter (λ (q : ℕ × ℕ). here q.1) pairs))
          (map_same_in (unstable_cell d p facts n id f point fact) (unstable_cell d p others n id f point fact) (filter here cells) (λ j c. cell_same j (from_filter here cells j c).1)
          ∙ ap (map (unstable_cell d p others n id f point fact)) (filter_same here others_here cells unstable_same))
          ∙ ap (λ (qs : List (ℕ × ℕ)). map (unstable_cell d p others n id f point fact) (filter others_here cells) ++ apart qs)
          (filter_same (λ (q : ℕ × ℕ). here q.1) (λ (q : ℕ × ℕ). others_here q.1) pairs (λ q. unstable_same q.1))

  -- ---- each rule

  asked_here : (rule : Rule) (act : Act) (ns : Needs I) → AreSameHere p facts others rule id f act → AskedHere d p facts n id f point fact rule act ns → AskedHere d p others n id f point fact rule act ns
  asked_here Initial act ns alike h = h
  asked_here Start act ns alike h = h
  asked_here Flow act ns alike (flows, are, comes) = (flows, flows_same d p n id f point fact facts others same act flows alike are, comes_to_each_same point.next flows ns comes)
  asked_here Write act ns alike h = written_same act ns h
  asked_here Touch act ns alike h = touched_same alike.0 alike.1 act ns h
  asked_here Call act ns alike h = entries_same alike act ns h
  asked_here Back act ns alike h = backs_same act alike ns h
  asked_here Return act ns alike h = given_by_return act ns h
  asked_here Handler act ns alike h = handlers_same alike fact.on ns h
  asked_here Stability act ns alike h = h ∙ ap (λ (ms : Needs I). if fact.on then ms else []) (all_unstable alike.0 alike.1)

-- ---- each constraint

module _ {I : Type 0} (d : Domain I) (p : Program) (facts others : Facts I) where
  at_fact : (rule : Rule) (n : ℕ) (x : Option (PointFact I)) (ns : Needs I) → AreSameIn p facts others rule n → AskedIn d p facts rule n x ns → AskedIn d p others rule n x ns
  at_fact rule n None ns alike h = h
  at_fact rule n (Some fact) ns alike (id, f, point, is_point, asked) = (id, f, point, is_point, asked_here d p facts others n id f point fact alike.0 rule (act_at (statement_of f point) f) ns (alike.1 id f point is_point) asked)

  in_point : (rule : Rule) (n : ℕ) (ns : Needs I) → AreSameIn p facts others rule n → AskedIn d p facts rule n (fact_at facts n) ns → AskedIn d p others rule n (fact_at others n) ns
  in_point rule n ns alike h = subst (λ (x : Option (PointFact I)). AskedIn d p others rule n x ns) alike.0 (at_fact rule n (fact_at facts n) ns alike h)

  pub asked_same : (c : Constraint) (ns : Needs I) → AreSameFor p facts others c → IsAsked d p facts c ns → IsAsked d p others c ns
  asked_same c ns alike h = by c.rule alike h
    where
      n : ℕ
      n = c.point

      by : (rule : Rule) → AreSameFor p facts others (record { rule = rule; point = c.point }) → IsAsked d p facts (record { rule = rule; point = c.point }) ns → IsAsked d p others (record { rule = rule; point = c.point }) ns
      by Initial alike h = first_sets_same d p facts others alike 0 (keys_of p) ns h
      by Start alike h = started_same d p facts others n ns h
      by Flow alike h = in_point Flow n ns alike h
      by Write alike h = in_point Write n ns alike h
      by Touch alike h = in_point Touch n ns alike h
      by Call alike h = in_point Call n ns alike h
      by Back alike h = in_point Back n ns alike h
      by Return alike h = in_point Return n ns alike h
      by Handler alike h = in_point Handler n ns alike h
      by Stability alike h = in_point Stability n ns alike h
