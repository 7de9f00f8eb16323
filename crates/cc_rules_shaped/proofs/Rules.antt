-- What constraints on accesses of handlers' code, on handlers that may enter, and on cells that they may write ask fits.
use Rattle.std.proofs.Common.{arith, ◌≡◌, inl, inr, ℕ, ◌+◌, ◌<◌, Bool, true, false, true≢false, List, [], ◌∷◌, map, length, Option, Some, None, slice_get, refl, ap, sym, ◌∙◌, subst}
use Rattle.std.specs.Prelude.{option_and_then, if◌then◌else◌}
use Rattle.std.specs.List.{Contains, filter}
use Rattle.std.proofs.lemmas.List.Elements.{All-contains}
use Rattle.std.proofs.lemmas.Option.{slice_get_within}
use Rattle.cc_rules_grow.proofs.CcFlow.Inside.{body_inside}
use Rattle.cc_rules_grow.proofs.CcFlow.Paths.{body_counted}
use Rattle.cc_rules_grow.specs.CcFlow.declared.types.Point.{Point}
use Rattle.cc_rules_grow.specs.CcFlow.Laws.{IsIn}
use Rattle.cc_rules_grow.specs.CcFlow.Points.{body_count, body_points, count_of, flow_of}
use Rattle.cc_rules_grow.proofs.CcFlowSound.Numbered.{point_of}
use Rattle.cc_rules_grow.specs.CcFlowSound.Moves.{entry}
use Rattle.cc_rules_grow.specs.CcPlaces.declared.abs.Abs.{Abs}
use Rattle.cc_rules_grow.specs.CcPlaces.laws.ListLaws.{cons_cases, none_in}
use Rattle.cc_program.specs.declared.func.Func.{Func}
use Rattle.cc_program.specs.declared.program.Program.{Program}
use Rattle.cc_rules_grow.specs.CcRules.Constraints.{Rule, Touch, Handler, Stability}
use Rattle.cc_rules_grow.specs.CcRules.Rules.{act_at, AreNumbers, reads, writes, Touched, ByRead, ByWrite, ByNone, ForEach, entry_levels, at_handler, interrupted, entering, whole_number, is_unstable, unstable_cell, unstable, HandlersAsk, AskedHere, AskedIn}
use Rattle.cc_rules_grow.specs.CcRulesFlows.Acts.{Act}
use Rattle.cc_rules_grow.specs.CcRulesFlows.Nexts.{IsPoint, statement_of}
use Rattle.cc_rules_grow.proofs.Elements.{each_append, each_map, each_at, in_map, some_within}
use Rattle.cc_rules_grow.specs.CcRulesNeeds.declared.needs.Part.{Part}
use Rattle.cc_rules_grow.specs.CcRulesNeeds.declared.needs.Part.TheVariants.{Mark, LevelSet}
use Rattle.cc_rules_grow.specs.CcRulesNeeds.declared.needs.Slot.{Slot}
use Rattle.cc_rules_grow.specs.CcRulesNeeds.declared.needs.Slot.TheVariants.{HandlerReads, HandlerWrites, ReadLevels, WriteLevels, ByHandler, Levels, From, Apart}
use Rattle.cc_rules_grow.specs.CcRulesNeeds.Flowing.{numbers, each_pair}
use Rattle.cc_rules_grow.specs.CcRulesNeeds.Needs.{Needs, Has}
use Rattle.cc_rules_shaped.proofs.Fit.{number_below, pair_below, point_counted, register_typed, Known, HaveThem, fit_append, FitsAlone, fit_each, FlowFits, flow_fits, some_in, cells_fit}
use Rattle.cc_rules_shaped.proofs.Joining.{JoinsTyped}
use Rattle.cc_rules_shaped.proofs.Types.{one_key_type}
use Rattle.cc_rules_shaped.specs.Shaped.{AreSomeIn, IsPointIn, AreFitBehind, AreFit}
use Rattle.cc_rules_grow.proofs.CcState.Lists.{contains_at, from_filter}
use Rattle.cc_rules_grow.proofs.CcState.Numbered.{key_at}
use Rattle.cc_rules_grow.proofs.CcState.Sets.{its_shape}
use Rattle.cc_rules_grow.specs.CcState.Shape.{OfScalar, object_ctype, IsSetIn, IsKeyType, IsPointFact, HaveShape}
use Rattle.cc_rules_grow.specs.CcStateFacts.declared.facts.Facts.{Facts}
use Rattle.cc_rules_grow.specs.CcStateFacts.declared.facts.Key.{Key}
use Rattle.cc_rules_grow.specs.CcStateFacts.declared.facts.Key.TheVariants as key
use Rattle.cc_rules_grow.specs.CcStateFacts.declared.facts.PointFact.{PointFact}
use Rattle.cc_rules_grow.specs.CcStateFacts.Facts.{fact_at, mark_of, levels_of}
use Rattle.cc_rules_grow.specs.CcStateFacts.Levels.{only_level}
use Rattle.cc_rules_grow.specs.CcStateKeys.Keys.{keys_of, key_number}
use Rattle.cc_rules_grow.specs.CcStateKeys.Tracked.{registers, tracked}
use Rattle.cc_rules_grow.specs.CcStateOperators.Domains.{Domain}
use Rattle.cc_rules_grow.specs.CcSteps.Turn.{level_of}
use Rattle.cc_rules_grow.specs.CcSyntax.Values.{ValueType}

-- the entry of a function is a point of it
pub entry_there : {I : Type 0} (d : Domain I) (p : Program) (id : ℕ) (f : Func) → slice_get p.funcs id ≡ Some f → IsPointIn d p (entry p id) f
entry_there d p id f function =
    let first = entry p id in
    let counted = body_counted id first f.body in
    let w = some_within (body_points id first f.body) 0 (omega (arith, counted)) in
    let inside = All-contains (IsIn id first (first + body_count f.body)) (body_points id first f.body) w.0 (body_inside id first f.body) (contains_at (body_points id first f.body) 0 w.0 w.1) in
    let at : slice_get (flow_of p).points (first + 0) ≡ Some w.0 = point_of p id f function 0 (omega arith) ∙ w.1 in
    let same : first + 0 ≡ first = omega arith in
    (id, w.0, record { numbered = subst (λ (n : ℕ). slice_get (flow_of p).points n ≡ Some w.0) same at; own = inside.own; function = function })

module _ {I : Type 0} (d : Domain I) (joins : JoinsTyped d) (p : Program) (facts : Facts I) (shape : HaveShape d p facts) (n id : ℕ) (f : Func) (point : Point) (fact : PointFact I) (is_point : IsPoint p n id f point) (known_fact : IsPointFact d p f fact) where
  counted : n < count_of p
  counted = point_counted p n id f point is_point

  -- ---- for each function

  for_each_fit : (asks : ℕ → Func → Needs I → Type 0) → ((g : ℕ) (callee : Func) (here : Needs I) → slice_get p.funcs g ≡ Some callee → asks g callee here → (known : Known d p) → AreFitBehind d p known here) → (gs : List ℕ) (ns : Needs I) → ForEach d p facts n id f point fact asks gs ns →
      (known : Known d p) → AreFitBehind d p known ns
  for_each_fit asks each [] ns is known = subst (AreFitBehind d p known) (sym is) tt
  for_each_fit asks each (g ∷ gs) ns (callee, here, rest, there, asked, others, is) known =
      subst (AreFitBehind d p known) (sym is) (fit_append d p known here rest (each g callee here there asked known) (for_each_fit asks each gs rest others (λ q. known q × HaveThem d p here q)))

  -- ---- handlers

  handler_flow : (h : ℕ) (handler : Func) → slice_get p.funcs h ≡ Some handler → FlowFits d p (entry p h) handler (at_handler d p facts n id f point fact)
  handler_flow h handler function = record {
    point = entry_there d p h handler function;
    flag = inl refl;
    locals = λ r l. (let (t, is) = register_typed d p handler r l in (t, is, tt));
    cells = cells_fit d p f fact known_fact;
  }

  interrupted_fit : (h : ℕ) (handler : Func) → slice_get p.funcs h ≡ Some handler → (known : Known d p) → AreFitBehind d p known (interrupted d p facts n id f point fact h handler)
  interrupted_fit h handler function known =
      let l = slice_get_within p.funcs h handler function in (
        l,
        λ q i. tt,
        (
          l,
          λ q i unmarked none. absurd (true≢false (sym (i.1 refl) ∙ none)),
          (
            l,
            λ q i unmarked none. absurd (true≢false (sym (i.0.1 refl) ∙ none)),
            flow_fits d p (entry p h) handler (at_handler d p facts n id f point fact) (handler_flow h handler function)
                (λ q. ((known q × Has d.below q (ByHandler h, Mark true)) × Has d.below q (Levels h, LevelSet (entry_levels d p facts n id f point fact (level_of p h)))) × Has d.below q (From h, LevelSet (only_level (level_of p h)))),
          ),
        ),
      )

  pub handlers_fit : (on : Bool) (ns : Needs I) → HandlersAsk d p facts n id f point fact on ns → AreFit d p ns
  handlers_fit false ns is = subst (AreFit d p) (sym is) tt
  handlers_fit true ns each =
      for_each_fit (λ h handler here. here ≡ interrupted d p facts n id f point fact h handler)
      (λ h handler here function is known. subst (AreFitBehind d p known) (sym is) (interrupted_fit h handler function known)) (entering d p facts n id f point fact) ns each (λ q. Unit {0})

  -- ---- cells that they may write

  abbrev whole_set : Option ℕ → Option (Abs I)
  whole_set number = option_and_then (slice_get facts.whole) number

  key_set : (i : ℕ) (t : ValueType) → ((k : ℕ) → key_number p (key.Object i) ≡ Some k → IsKeyType d p k t) → (number : Option ℕ) → key_number p (key.Object i) ≡ number → AreSomeIn d p t (whole_set number)
  key_set i t own None e = tt
  key_set i t own (Some k) e =
      let at = key_at p (key.Object i) k e in
      let w = shape.whole.there k (slice_get_within (keys_of p) k (key.Object i) at) in
      some_in d p t w.1 (slice_get facts.whole k) w.2.1 (subst (λ (u : ValueType). IsSetIn p d u w.1) (one_key_type d p k w.0 t w.2.0 (own k e)) w.2.2)

  cell_fits : (j : ℕ) → j < length (tracked p) → FitsAlone d p (λ q. Unit {0}) (unstable_cell d p facts n id f point fact j)
  cell_fits j l =
      let w = known_fact.cells.there j l in
      let (i, o, at, is, scalar) = w.2.0 in
      let set = key_set i w.0 (λ k e. (key.Object i, o.ctype, key_at p (key.Object i) k e, ap object_ctype is, OfScalar scalar)) (key_number p (key.Object i)) refl in
      let here : AreSomeIn d p w.0 (whole_set (whole_number d p facts n id f point fact j)) = subst (λ (x : Option ℕ). AreSomeIn d p w.0 (whole_set (option_and_then (λ q. key_number p (key.Object q)) x))) (sym at) set in
      ((w.0, counted, w.2.0, here), λ q k. tt)

  unstable_fit : AreFit d p (unstable d p facts n id f point fact)
  unstable_fit = fit_each d p (λ q. Unit {0}) (unstable d p facts n id f point fact) (each_append (FitsAlone d p (λ q. Unit {0}))
      (map (unstable_cell d p facts n id f point fact) (filter (is_unstable d p facts n id f point fact) (numbers 0 (length (tracked p)))))
      (map (λ q. (Apart n q.0 q.1, Mark true)) (filter (λ (q : ℕ × ℕ). is_unstable d p facts n id f point fact q.1) (each_pair (length (registers f)) (length (tracked p)))))
      (each_map (FitsAlone d p (λ q. Unit {0})) (unstable_cell d p facts n id f point fact) (filter (is_unstable d p facts n id f point fact) (numbers 0 (length (tracked p))))
      (λ j c. (let l = number_below 0 (length (tracked p)) j (from_filter (is_unstable d p facts n id f point fact) (numbers 0 (length (tracked p))) j c).0 in cell_fits j (omega (arith, l)))))
      (each_map (FitsAlone d p (λ q. Unit {0})) (λ (q : ℕ × ℕ). (Apart n q.0 q.1, Mark true)) (filter (λ (q : ℕ × ℕ). is_unstable d p facts n id f point fact q.1) (each_pair (length (registers f)) (length (tracked p))))
      (λ q c.
      (let l = pair_below (length (registers f)) (length (tracked p)) q (from_filter (λ (q : ℕ × ℕ). is_unstable d p facts n id f point fact q.1) (each_pair (length (registers f)) (length (tracked p))) q c).0 in
      ((f, (id, point, is_point), l.0, l.1), λ g k. tt)))))

  pub stability_fit : (on : Bool) (ns : Needs I) → ns ≡ (if on then unstable d p facts n id f point fact else []) → AreFit d p ns
  stability_fit true ns is = subst (AreFit d p) (sym is) unstable_fit
  stability_fit false ns is = subst (AreFit d p) (sym is) tt

  -- ---- keys that handlers' code accesses

  keys_there : (keys : List Key) (ks : List ℕ) → AreNumbers d p facts n id f point fact keys ks → (k : ℕ) → Contains ks k → k < length (keys_of p)
  keys_there [] ks is k c = absurd (none_in k (subst (λ (l : List ℕ). Contains l k) is c))
  keys_there (q ∷ keys) ks (number, rest, found, more, is) k c = elim (cons_cases number rest k (subst (λ (l : List ℕ). Contains l k) is c)) [
    | inl e ↦ subst (λ (i : ℕ). i < length (keys_of p)) e (slice_get_within (keys_of p) number q (key_at p q number found))
    | inr r ↦ keys_there keys rest more k r
  ]

  module _ (ks : List ℕ) (there : (k : ℕ) → Contains ks k → k < length (keys_of p)) where
    abbrev read_mark : ℕ → Slot × Part I
    read_mark k = (HandlerReads k, Mark true)

    abbrev write_mark : ℕ → Slot × Part I
    write_mark k = (HandlerWrites k, Mark true)

    abbrev read_levels : ℕ → Slot × Part I
    read_levels k = (ReadLevels k, LevelSet (levels_of facts.from id))

    abbrev write_levels : ℕ → Slot × Part I
    write_levels k = (WriteLevels k, LevelSet (levels_of facts.from id))

    has_mark : (mark : ℕ → Slot × Part I) (g : Facts I) → HaveThem d p (map mark ks) g → (k : ℕ) → Contains ks k → Has d.below g (mark k)
    has_mark mark g h k c = each_at (Has d.below g) (map mark ks) (mark k) h (in_map mark ks k c)

    reads_fit : AreFit d p (reads d p facts n id f point fact ks)
    reads_fit = fit_append d p (λ q. Unit {0}) (map read_mark ks) (map read_levels ks)
        (fit_each d p (λ q. Unit {0}) (map read_mark ks) (each_map (FitsAlone d p (λ q. Unit {0})) read_mark ks (λ k c. (there k c, λ g i. tt))))
        (fit_each d p (λ q. Unit {0} × HaveThem d p (map read_mark ks) q) (map read_levels ks)
        (each_map (FitsAlone d p (λ q. Unit {0} × HaveThem d p (map read_mark ks) q)) read_levels ks (λ k c. (there k c, λ g i none unmarked. absurd (true≢false (sym (has_mark read_mark g i.1 k c refl) ∙ none))))))

    writes_fit : AreFit d p (writes d p facts n id f point fact ks)
    writes_fit = fit_append d p (λ q. Unit {0}) (map write_mark ks) (map write_levels ks)
        (fit_each d p (λ q. Unit {0}) (map write_mark ks) (each_map (FitsAlone d p (λ q. Unit {0})) write_mark ks (λ k c. (there k c, λ g i. tt))))
        (fit_each d p (λ q. Unit {0} × HaveThem d p (map write_mark ks) q) (map write_levels ks)
        (each_map (FitsAlone d p (λ q. Unit {0} × HaveThem d p (map write_mark ks) q)) write_levels ks (λ k c. (there k c, λ g i unmarked none. absurd (true≢false (sym (has_mark write_mark g i.1 k c refl) ∙ none))))))

  where_marked : (b : Bool) (x ns : Needs I) → AreFit d p x → ns ≡ (if b then x else []) → AreFit d p ns
  where_marked true x ns h is = subst (AreFit d p) (sym is) h
  where_marked false x ns h is = subst (AreFit d p) (sym is) tt

  pub touched_fit : (act : Act) (ns : Needs I) → Touched d p facts n id f point fact act ns → AreFit d p ns
  touched_fit act ns (ByRead r a ks is (keys, named, number) same) = where_marked (mark_of facts.by_handler id) (reads d p facts n id f point fact ks) ns (reads_fit ks (keys_there keys ks number)) same
  touched_fit act ns (ByWrite a e ks is (keys, named, number) same) = where_marked (mark_of facts.by_handler id) (writes d p facts n id f point fact ks) ns (writes_fit ks (keys_there keys ks number)) same
  touched_fit act ns (ByNone no_read no_write is) = subst (AreFit d p) (sym is) tt

-- ---- of each constraint

module _ {I : Type 0} (d : Domain I) (joins : JoinsTyped d) (p : Program) (facts : Facts I) (shape : HaveShape d p facts) (n : ℕ) where
  point_fact : (id : ℕ) (f : Func) (point : Point) (fact : PointFact I) → fact_at facts n ≡ Some fact → IsPoint p n id f point → IsPointFact d p f fact
  point_fact id f point fact e h = its_shape d p facts shape n point f (record { numbered = h.numbered; function = ap (slice_get p.funcs) h.own ∙ h.function }) fact e

  in_fact : (rule : Rule) → ((id : ℕ) (f : Func) (point : Point) (fact : PointFact I) (ns : Needs I) → IsPoint p n id f point → IsPointFact d p f fact → AskedHere d p facts n id f point fact rule (act_at (statement_of f point) f) ns → AreFit d p ns) →
      (x : Option (PointFact I)) (ns : Needs I) → fact_at facts n ≡ x → AskedIn d p facts rule n x ns → AreFit d p ns
  in_fact rule here None ns e is = subst (AreFit d p) (sym is) tt
  in_fact rule here (Some fact) ns e (id, f, point, is_point, asked) = here id f point fact ns is_point (point_fact id f point fact e is_point) asked

  pub touch_fit : (ns : Needs I) → AskedIn d p facts Touch n (fact_at facts n) ns → AreFit d p ns
  touch_fit ns asked = in_fact Touch (λ id f point fact ms is_point known here. touched_fit d joins p facts shape n id f point fact is_point known (act_at (statement_of f point) f) ms here) (fact_at facts n) ns refl asked

  pub handler_fit : (ns : Needs I) → AskedIn d p facts Handler n (fact_at facts n) ns → AreFit d p ns
  handler_fit ns asked = in_fact Handler (λ id f point fact ms is_point known here. handlers_fit d joins p facts shape n id f point fact is_point known fact.on ms here) (fact_at facts n) ns refl asked

  pub unstable_cells_fit : (ns : Needs I) → AskedIn d p facts Stability n (fact_at facts n) ns → AreFit d p ns
  unstable_cells_fit ns asked = in_fact Stability (λ id f point fact ms is_point known here. stability_fit d joins p facts shape n id f point fact is_point known fact.on ms here) (fact_at facts n) ns refl asked
