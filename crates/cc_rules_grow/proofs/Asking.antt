-- What is asked by what a statement writes, by which keys it accesses, by what is returned, and by which handlers may enter, grows with the
-- facts.
use Rattle.std.proofs.Common.{◌≡◌, inl, inr, ℕ, Bool, true, false, true≢false, List, [], ◌∷◌, map, length, cond, Contains, Option, Some, None, slice_get, refl, ap, sym, ◌∙◌, subst}
use Rattle.std.specs.Prelude.{◌==◌, option_and_then, if◌then◌else◌}
use Rattle.std.specs.List.{filter}
use Rattle.std.proofs.lemmas.Option.{same_Some}
use Rattle.cc_rules.specs.CcFlow.declared.types.Point.{Point}
use Rattle.cc_rules.specs.CcFlowSound.Moves.{entry}
use Rattle.cc_rules.specs.CcPlaces.Abstract.{IsBelowAbs}
use Rattle.cc_rules.specs.CcPlaces.declared.abs.Abs.{Abs}
use Rattle.cc_rules.specs.CcPlaces.laws.ListLaws.{cons_cases, at_head, behind_head, none_in}
use Rattle.cc_program.specs.declared.expr.Expr.{Expr}
use Rattle.cc_program.specs.declared.expr.Place.{Place}
use Rattle.cc_program.specs.declared.func.Func.{Func}
use Rattle.cc_program.specs.declared.program.Program.{Program}
use Rattle.cc_rules.specs.Rules.{IsValue, AreNumbers, AreKeys, Written, OfWrite, OfNone, reads, writes, Touched, ByRead, ByWrite, ByNone, ForEach, Given, OfReturn, OfNoValue, handlers, entry_levels, at_handler, interrupted, entering, whole_number, is_written, is_unstable, unstable_cell, unstable, HandlersAsk}
use Rattle.cc_rules.specs.CcRulesFlows.Acts.{Act, Sets, Reads, Writes, Calls, Saves, Turns, Restores, Tests, Chooses, Returns, Passes}
use Rattle.cc_rules_grow.proofs.Below.{IsFactBelow, IsFlowBelow, values_of, Had, part_had, flow_had}
use Rattle.cc_rules_grow.proofs.Elements.{Each, each_append, each_split, each_map, each_at, in_map, in_filter}
use Rattle.cc_rules_grow.proofs.Kept.{IsKept}
use Rattle.cc_rules_grow.proofs.Levels.{enters_more, one_enters_more}
use Rattle.cc_rules.specs.CcRulesNeeds.Flowing.{numbers, each_pair}
use Rattle.cc_rules.specs.CcRulesNeeds.declared.needs.Part.{Part}
use Rattle.cc_rules.specs.CcRulesNeeds.declared.needs.Part.TheVariants.{Mark, LevelSet, Values}
use Rattle.cc_rules.specs.CcRulesNeeds.declared.needs.Slot.{Slot}
use Rattle.cc_rules.specs.CcRulesNeeds.declared.needs.Slot.TheVariants.{Whole, HandlerReads, HandlerWrites, ReadLevels, WriteLevels, Result, ByHandler, Levels, From, CellAt, Apart}
use Rattle.cc_rules.specs.CcRulesNeeds.Needs.{Needs, AreValuesBelow, Has, IsBelow}
use Rattle.cc_state_points.proofs.CcState.Lists.{from_filter}
use Rattle.cc_rules.specs.CcStateFacts.declared.facts.Facts.{Facts}
use Rattle.cc_rules.specs.CcStateFacts.declared.facts.Key.{Key}
use Rattle.cc_rules.specs.CcStateFacts.declared.facts.PointFact.{PointFact}
use Rattle.cc_rules.specs.CcStateFacts.Facts.{cell_of, mark_of, levels_of}
use Rattle.cc_rules.specs.CcStateFacts.Levels.{only_level, may_enter, AreLevelsWithin}
use Rattle.cc_rules.specs.CcStateKeys.Keys.{key_number}
use Rattle.cc_rules.specs.CcStateKeys.Tracked.{registers, tracked}
use Rattle.cc_rules.specs.CcStateOperators.Domains.{Domain}
use Rattle.cc_rules.specs.CcStateReads.Reads.{AreNamed, registers_at}
use Rattle.cc_rules.specs.CcSteps.Turn.{level_of}

-- two of what is made of those that pass

map_filter_more : {A B : Type 0} (P : B → Type 0) (g h : A → B) (test more : A → Bool) (xs : List A) → ((x : A) → test x ≡ true → (more x ≡ true) × (P (h x) → P (g x))) → Each P (map h (filter more xs)) → Each P (map g (filter test xs))
map_filter_more P g h test more [] each had = tt
map_filter_more {A = A} {B = B} P g h test more (x ∷ xs) each had = by (λ l. map_filter_more P g h test more xs each l) (test x) (more x) refl refl had
  where
    by : (Each P (map h (filter more xs)) → Each P (map g (filter test xs))) → (a b : Bool) → test x ≡ a → more x ≡ b → Each P (map h (cond b (x ∷ filter more xs) (filter more xs))) → Each P (map g (cond a (x ∷ filter test xs) (filter test xs)))
    by rest true true e i l = ((each x e).1 l.0, rest l.1)
    by rest true false e i l = absurd (true≢false (sym (each x e).0 ∙ i))
    by rest false true e i l = rest l.1
    by rest false false e i l = rest l

module _ {I : Type 0} (d : Domain I) (k : IsKept d) (p : Program) (facts others holder : Facts I) (less : IsBelow d.below facts others) where
  abbrev AreHad : Needs I → Type 0
  AreHad ns = Had d k holder ns

  abbrev has_it : Slot × Part I → Type 0
  has_it need = Has d.below holder need

  -- where all of a list have more
  mapped_more : {A : Type 0} (make more : A → Slot × Part I) (xs ys : List A) → ((x : A) → Contains xs x → Contains ys x) → ((x : A) → has_it (more x) → has_it (make x)) → AreHad (map more ys) → AreHad (map make xs)
  mapped_more make more xs ys within each had = each_map has_it make xs (λ x c. each x (each_at has_it (map more ys) (more x) had (in_map more ys x (within x c))))

  -- ---- for each function

  module _ (n id : ℕ) (f : Func) (point : Point) (fact other : PointFact I) where
    abbrev ForEachHere : (ℕ → Func → Needs I → Type 0) → List ℕ → Needs I → Type 0
    ForEachHere asks gs ns = ForEach d p facts n id f point fact asks gs ns

    abbrev ForEachMore : (ℕ → Func → Needs I → Type 0) → List ℕ → Needs I → Type 0
    ForEachMore asks gs ns = ForEach d p others n id f point other asks gs ns

    for_one : (asks : ℕ → Func → Needs I → Type 0) (gs : List ℕ) (ns : Needs I) → ForEachMore asks gs ns → AreHad ns → (g : ℕ) → Contains gs g → (callee : Func) × (here : Needs I) × (slice_get p.funcs g ≡ Some callee) × asks g callee here × AreHad here
    for_one asks [] ns each had g c = absurd (none_in g c)
    for_one asks (h ∷ gs) ns (callee, here, rest, there, asked, each, is) had g c =
        let (had_here, had_rest) = each_split has_it here rest (subst AreHad is had) in
        elim (cons_cases h gs g c) [
          | inl e ↦ (callee, here, subst (λ (i : ℕ). slice_get p.funcs i ≡ Some callee) e there, subst (λ (i : ℕ). asks i callee here) e asked, had_here)
          | inr r ↦ for_one asks gs rest each had_rest g r
        ]

    pub for_each_more : (asks more : ℕ → Func → Needs I → Type 0) → ((g : ℕ) (callee : Func) (here there : Needs I) → slice_get p.funcs g ≡ Some callee → asks g callee here → more g callee there → AreHad there → AreHad here) → (gs hs : List ℕ) (ns ms : Needs I) → ((g : ℕ) → Contains gs g → Contains hs g) →
        ForEachHere asks gs ns → ForEachMore more hs ms → AreHad ms → AreHad ns
    for_each_more asks more grow [] hs ns ms within is each had = subst AreHad (sym is) tt
    for_each_more asks more grow (g ∷ gs) hs ns ms within (callee, here, rest, there, asked, each, is) each_more had =
        let (callee', here', there', asked', had') = for_one more hs ms each_more had g (within g (at_head g gs)) in
        let same : callee' ≡ callee = same_Some callee' callee (sym there' ∙ there) in
        subst AreHad (sym is)
        (each_append has_it here rest (grow g callee here here' there asked (subst (λ (c : Func). more g c here') same asked') had')
        (for_each_more asks more grow gs hs rest ms (λ h c. within h (behind_head g gs h c)) each each_more had))

    -- ---- handlers that may enter

    running_less : AreLevelsWithin (levels_of facts.levels id) (levels_of others.levels id)
    running_less = less (Levels id)

    entry_levels_less : (level : ℕ) → AreLevelsWithin (entry_levels d p facts n id f point fact level) (entry_levels d p others n id f point other level)
    entry_levels_less level = by (level == 0)
      where
        by : (b : Bool) → AreLevelsWithin (if b then levels_of facts.levels id else only_level level) (if b then levels_of others.levels id else only_level level)
        by true = running_less
        by false = λ l h. h

    module _ (below : IsFactBelow d (length (registers f)) (length (tracked p)) fact other) where
      at_handler_less : (count : ℕ) → IsFlowBelow d count (length (tracked p)) (at_handler d p facts n id f point fact) (at_handler d p others n id f point other)
      at_handler_less count = record {
        off = λ h. h;
        on = λ h. h;
        locals = λ r l. tt;
        cells_below = λ j l. values_of d (cell_of fact j) (cell_of other j) (below.cells_below j l);
        pairs = λ r j h. h;
      }

      interrupted_more : (h : ℕ) (handler : Func) → AreHad (interrupted d p others n id f point other h handler) → AreHad (interrupted d p facts n id f point fact h handler)
      interrupted_more h handler had = (
        had.0,
        (
          part_had d k holder (Levels h) (LevelSet (entry_levels d p facts n id f point fact (level_of p h))) (LevelSet (entry_levels d p others n id f point other (level_of p h))) (entry_levels_less (level_of p h)) had.1.0,
          (
            had.1.1.0,
            flow_had d k holder (entry p h) (length (registers handler)) (length (tracked p)) (at_handler d p facts n id f point fact) (at_handler d p others n id f point other) (at_handler_less (length (registers handler))) had.1.1.1,
          ),
        ),
      )

      enters : (h : ℕ) → Contains (entering d p facts n id f point fact) h → Contains (entering d p others n id f point other) h
      enters h c =
          let (there, may) = from_filter (λ h. may_enter (levels_of facts.levels id) (level_of p h)) (handlers p) h c in
          in_filter (λ h. may_enter (levels_of others.levels id) (level_of p h)) (handlers p) h there (enters_more (levels_of facts.levels id) (levels_of others.levels id) (level_of p h) running_less may)

      pub handlers_more : (on on' : Bool) (ns ms : Needs I) → (on ≡ true → on' ≡ true) → HandlersAsk d p facts n id f point fact on ns → HandlersAsk d p others n id f point other on' ms → AreHad ms → AreHad ns
      handlers_more false on' ns ms h is each had = subst AreHad (sym is) tt
      handlers_more true false ns ms h each is had = absurd (true≢false (sym (h refl)))
      handlers_more true true ns ms h each each' had =
          for_each_more (λ h handler here. here ≡ interrupted d p facts n id f point fact h handler) (λ h handler here. here ≡ interrupted d p others n id f point other h handler)
          (λ g callee here there is asked asked' had'. subst AreHad (sym asked) (interrupted_more g callee (subst AreHad asked' had'))) (entering d p facts n id f point fact) (entering d p others n id f point other) ns ms enters each each' had

      -- ---- cells that they may write

      written_more : (number : Option ℕ) → is_written d p facts n id f point fact number ≡ true → is_written d p others n id f point other number ≡ true
      written_more None e = e
      written_more (Some q) e = one_enters_more (levels_of facts.levels id) (levels_of others.levels id) (levels_of facts.write_levels q) (levels_of others.write_levels q) running_less (less (WriteLevels q)) e

      unstable_more : (j : ℕ) → is_unstable d p facts n id f point fact j ≡ true → is_unstable d p others n id f point other j ≡ true
      unstable_more j e = written_more (whole_number d p facts n id f point fact j) e

      whole_less : (number : Option ℕ) → AreValuesBelow d.below (option_and_then (slice_get facts.whole) number) (option_and_then (slice_get others.whole) number)
      whole_less None = tt
      whole_less (Some q) = less (Whole q)

      cell_less : (j : ℕ) → has_it (unstable_cell d p others n id f point other j) → has_it (unstable_cell d p facts n id f point fact j)
      cell_less j h =
          part_had d k holder (CellAt n j) (Values (option_and_then (slice_get facts.whole) (whole_number d p facts n id f point fact j))) (Values (option_and_then (slice_get others.whole) (whole_number d p facts n id f point fact j)))
          (whole_less (whole_number d p facts n id f point fact j)) h

      pub stability_more : (on on' : Bool) (ns ms : Needs I) → (on ≡ true → on' ≡ true) → ns ≡ (if on then unstable d p facts n id f point fact else []) → ms ≡ (if on' then unstable d p others n id f point other else []) → AreHad ms → AreHad ns
      stability_more false on' ns ms h is is' had = subst AreHad (sym is) tt
      stability_more true false ns ms h is is' had = absurd (true≢false (sym (h refl)))
      stability_more true true ns ms h is is' had =
          let (had_cells, had_pairs) = each_split has_it
          (map (unstable_cell d p others n id f point other) (filter (is_unstable d p others n id f point other) (numbers 0 (length (tracked p)))))
          (map (λ q. (Apart n q.0 q.1, Mark true)) (filter (λ (q : ℕ × ℕ). is_unstable d p others n id f point other q.1) (each_pair (length (registers f)) (length (tracked p))))) (subst AreHad is' had) in
          subst AreHad (sym is)
          (each_append has_it
          (map (unstable_cell d p facts n id f point fact) (filter (is_unstable d p facts n id f point fact) (numbers 0 (length (tracked p)))))
          (map (λ q. (Apart n q.0 q.1, Mark true)) (filter (λ (q : ℕ × ℕ). is_unstable d p facts n id f point fact q.1) (each_pair (length (registers f)) (length (tracked p)))))
          (map_filter_more has_it (unstable_cell d p facts n id f point fact) (unstable_cell d p others n id f point other) (is_unstable d p facts n id f point fact) (is_unstable d p others n id f point other) (numbers 0 (length (tracked p)))
          (λ j e. (unstable_more j e, cell_less j)) had_cells)
          (map_filter_more has_it (λ (q : ℕ × ℕ). (Apart n q.0 q.1, Mark true)) (λ (q : ℕ × ℕ). (Apart n q.0 q.1, Mark true)) (λ (q : ℕ × ℕ). is_unstable d p facts n id f point fact q.1) (λ (q : ℕ × ℕ). is_unstable d p others n id f point other q.1)
          (each_pair (length (registers f)) (length (tracked p))) (λ q e. (unstable_more q.1 e, λ h. h)) had_pairs))

    -- ---- the keys that are accessed

    abbrev Numbers : List Key → List ℕ → Type 0
    Numbers keys ks = AreNumbers d p facts n id f point fact keys ks

    numbers_from : (keys : List Key) (ks : List ℕ) (m : ℕ) → Numbers keys ks → Contains ks m → (q : Key) × Contains keys q × (key_number p q ≡ Some m)
    numbers_from [] ks m is c = absurd (none_in m (subst (λ (l : List ℕ). Contains l m) is c))
    numbers_from (q ∷ keys) ks m (number, rest, found, more, is) c = elim (cons_cases number rest m (subst (λ (l : List ℕ). Contains l m) is c)) [
      | inl e ↦ (q, at_head q keys, found ∙ ap Some e)
      | inr r ↦ let (q', there, found') = numbers_from keys rest m more r in (q', behind_head q keys q' there, found')
    ]

    numbers_to : (keys : List Key) (ks : List ℕ) (m : ℕ) (q : Key) → Numbers keys ks → Contains keys q → key_number p q ≡ Some m → Contains ks m
    numbers_to [] ks m q is c found = absurd (none_in q c)
    numbers_to (q' ∷ keys) ks m q (number, rest, found', more, is) c found = subst (λ (l : List ℕ). Contains l m) (sym is) (elim (cons_cases q' keys q c) [
      | inl e ↦ subst (λ (i : ℕ). Contains (number ∷ rest) i) (same_Some number m (sym found' ∙ (ap (key_number p) e ∙ found))) (at_head number rest)
      | inr r ↦ behind_head number rest m (numbers_to keys rest m q more r found)
    ])

    -- those of a place are among those that it has in greater facts
    abbrev pub NamedMore : Place → Type 0
    NamedMore a = (keys more_keys : List Key) → AreNamed d p id f (registers_at facts f n) a keys → AreNamed d p id f (registers_at others f n) a more_keys → (q : Key) → Contains keys q → Contains more_keys q

    keys_more : (a : Place) → NamedMore a → (ks ls : List ℕ) → AreKeys d p facts n id f point fact a ks → AreKeys d p others n id f point other a ls → (m : ℕ) → Contains ks m → Contains ls m
    keys_more a named ks ls (keys, are_named, number) (keys', are_named', number') m c =
        let (q, there, found) = numbers_from keys ks m number c in
        numbers_to keys' ls m q number' (named keys keys' are_named are_named' q there) found

    abbrev pub ValuesMore : Type 0
    ValuesMore = (e : Expr) (y z : Abs I) → IsValue d p facts n id f point fact e y → IsValue d p others n id f point other e z → IsBelowAbs d.below y z

    abbrev pub PlacesMore : Act → Type 0
    PlacesMore (Writes a e) = NamedMore a
    PlacesMore (Reads r a) = NamedMore a
    PlacesMore act = Unit {0}

    abbrev WrittenAs : (g : Facts I) → PointFact I → Act → Needs I → Type 0
    WrittenAs g x (Writes a e) ns = (y : Abs I) × (ks : List ℕ) × IsValue d p g n id f point x e y × AreKeys d p g n id f point x a ks × (ns ≡ map (λ k. (Whole k, Values (Some y))) ks)
    WrittenAs g x act ns = ns ≡ []

    written_none : (g : Facts I) (x : PointFact I) (act : Act) (ns : Needs I) → ((a : Place) (e : Expr) → act ≡ Writes a e → ⊥) → ns ≡ [] → WrittenAs g x act ns
    written_none g x (Writes a e) ns other is = absurd (other a e refl)
    written_none g x (Sets r e) ns other is = is
    written_none g x (Reads r a) ns other is = is
    written_none g x (Calls r h args) ns other is = is
    written_none g x (Saves r) ns other is = is
    written_none g x (Turns on) ns other is = is
    written_none g x (Restores e) ns other is = is
    written_none g x (Tests e these those) ns other is = is
    written_none g x (Chooses e cases) ns other is = is
    written_none g x (Returns e) ns other is = is
    written_none g x Passes ns other is = is

    written_as : (g : Facts I) (x : PointFact I) (act : Act) (ns : Needs I) → Written d p g n id f point x act ns → WrittenAs g x act ns
    written_as g x act ns (OfWrite a e y ks is val keys same) = subst (λ (z : Act). WrittenAs g x z ns) (sym is) (y, ks, val, keys, same)
    written_as g x act ns (OfNone other is) = written_none g x act ns other is

    written_by : (act : Act) (ns ms : Needs I) → ValuesMore → PlacesMore act → WrittenAs facts fact act ns → WrittenAs others other act ms → AreHad ms → AreHad ns
    written_by (Writes a e) ns ms values named (y, ks, val, keys, is) (y', ls, val', keys', is') had =
        subst AreHad (sym is)
        (mapped_more (λ q. (Whole q, Values (Some y))) (λ q. (Whole q, Values (Some y'))) ks ls (keys_more a named ks ls keys keys')
        (λ q h. part_had d k holder (Whole q) (Values (Some y)) (Values (Some y')) (values e y y' val val') h) (subst AreHad is' had))
    written_by (Sets r e) ns ms values named is l had = subst AreHad (sym is) tt
    written_by (Reads r a) ns ms values named is l had = subst AreHad (sym is) tt
    written_by (Calls r h args) ns ms values named is l had = subst AreHad (sym is) tt
    written_by (Saves r) ns ms values named is l had = subst AreHad (sym is) tt
    written_by (Turns on) ns ms values named is l had = subst AreHad (sym is) tt
    written_by (Restores e) ns ms values named is l had = subst AreHad (sym is) tt
    written_by (Tests e these those) ns ms values named is l had = subst AreHad (sym is) tt
    written_by (Chooses e cases) ns ms values named is l had = subst AreHad (sym is) tt
    written_by (Returns e) ns ms values named is l had = subst AreHad (sym is) tt
    written_by Passes ns ms values named is l had = subst AreHad (sym is) tt

    pub written_grows : (act : Act) (ns ms : Needs I) → ValuesMore → PlacesMore act → Written d p facts n id f point fact act ns → Written d p others n id f point other act ms → AreHad ms → AreHad ns
    written_grows act ns ms values named l m had = written_by act ns ms values named (written_as facts fact act ns l) (written_as others other act ms m) had

    -- ---- marks and levels of keys

    abbrev reads_of : Facts I → PointFact I → List ℕ → Needs I
    reads_of g x ks = reads d p g n id f point x ks

    abbrev writes_of : Facts I → PointFact I → List ℕ → Needs I
    writes_of g x ks = writes d p g n id f point x ks

    from_less : AreLevelsWithin (levels_of facts.from id) (levels_of others.from id)
    from_less = less (From id)

    reads_more : (ks ls : List ℕ) → ((m : ℕ) → Contains ks m → Contains ls m) → AreHad (reads_of others other ls) → AreHad (reads_of facts fact ks)
    reads_more ks ls within had =
        let (marks, levels) = each_split has_it (map (λ q. (HandlerReads q, Mark true)) ls) (map (λ q. (ReadLevels q, LevelSet (levels_of others.from id))) ls) had in
        each_append has_it (map (λ q. (HandlerReads q, Mark true)) ks) (map (λ q. (ReadLevels q, LevelSet (levels_of facts.from id))) ks)
        (mapped_more (λ q. (HandlerReads q, Mark true)) (λ q. (HandlerReads q, Mark true)) ks ls within (λ q h. h) marks)
        (mapped_more (λ q. (ReadLevels q, LevelSet (levels_of facts.from id))) (λ q. (ReadLevels q, LevelSet (levels_of others.from id))) ks ls within
        (λ q h. part_had d k holder (ReadLevels q) (LevelSet (levels_of facts.from id)) (LevelSet (levels_of others.from id)) from_less h) levels)

    writes_more : (ks ls : List ℕ) → ((m : ℕ) → Contains ks m → Contains ls m) → AreHad (writes_of others other ls) → AreHad (writes_of facts fact ks)
    writes_more ks ls within had =
        let (marks, levels) = each_split has_it (map (λ q. (HandlerWrites q, Mark true)) ls) (map (λ q. (WriteLevels q, LevelSet (levels_of others.from id))) ls) had in
        each_append has_it (map (λ q. (HandlerWrites q, Mark true)) ks) (map (λ q. (WriteLevels q, LevelSet (levels_of facts.from id))) ks)
        (mapped_more (λ q. (HandlerWrites q, Mark true)) (λ q. (HandlerWrites q, Mark true)) ks ls within (λ q h. h) marks)
        (mapped_more (λ q. (WriteLevels q, LevelSet (levels_of facts.from id))) (λ q. (WriteLevels q, LevelSet (levels_of others.from id))) ks ls within
        (λ q h. part_had d k holder (WriteLevels q) (LevelSet (levels_of facts.from id)) (LevelSet (levels_of others.from id)) from_less h) levels)

    where_marked : (a b : Bool) (x y ns ms : Needs I) → (a ≡ true → b ≡ true) → (AreHad y → AreHad x) → ns ≡ (if a then x else []) → ms ≡ (if b then y else []) → AreHad ms → AreHad ns
    where_marked false b x y ns ms h l is is' had = subst AreHad (sym is) tt
    where_marked true false x y ns ms h l is is' had = absurd (true≢false (sym (h refl)))
    where_marked true true x y ns ms h l is is' had = subst AreHad (sym is) (l (subst AreHad is' had))

    abbrev TouchedAs : (g : Facts I) → PointFact I → Act → Needs I → Type 0
    TouchedAs g x (Reads r a) ns = (ks : List ℕ) × AreKeys d p g n id f point x a ks × (ns ≡ (if mark_of g.by_handler id then reads_of g x ks else []))
    TouchedAs g x (Writes a e) ns = (ks : List ℕ) × AreKeys d p g n id f point x a ks × (ns ≡ (if mark_of g.by_handler id then writes_of g x ks else []))
    TouchedAs g x act ns = ns ≡ []

    touched_none : (g : Facts I) (x : PointFact I) (act : Act) (ns : Needs I) → ((r : ℕ) (a : Place) → act ≡ Reads r a → ⊥) → ((a : Place) (e : Expr) → act ≡ Writes a e → ⊥) → ns ≡ [] → TouchedAs g x act ns
    touched_none g x (Writes a e) ns no_read no_write is = absurd (no_write a e refl)
    touched_none g x (Reads r a) ns no_read no_write is = absurd (no_read r a refl)
    touched_none g x (Sets r e) ns no_read no_write is = is
    touched_none g x (Calls r h args) ns no_read no_write is = is
    touched_none g x (Saves r) ns no_read no_write is = is
    touched_none g x (Turns on) ns no_read no_write is = is
    touched_none g x (Restores e) ns no_read no_write is = is
    touched_none g x (Tests e these those) ns no_read no_write is = is
    touched_none g x (Chooses e cases) ns no_read no_write is = is
    touched_none g x (Returns e) ns no_read no_write is = is
    touched_none g x Passes ns no_read no_write is = is

    touched_as : (g : Facts I) (x : PointFact I) (act : Act) (ns : Needs I) → Touched d p g n id f point x act ns → TouchedAs g x act ns
    touched_as g x act ns (ByRead r a ks is keys same) = subst (λ (z : Act). TouchedAs g x z ns) (sym is) (ks, keys, same)
    touched_as g x act ns (ByWrite a e ks is keys same) = subst (λ (z : Act). TouchedAs g x z ns) (sym is) (ks, keys, same)
    touched_as g x act ns (ByNone no_read no_write is) = touched_none g x act ns no_read no_write is

    touched_by : (act : Act) (ns ms : Needs I) → PlacesMore act → TouchedAs facts fact act ns → TouchedAs others other act ms → AreHad ms → AreHad ns
    touched_by (Reads r a) ns ms named (ks, keys, is) (ls, keys', is') had =
        where_marked (mark_of facts.by_handler id) (mark_of others.by_handler id) (reads_of facts fact ks) (reads_of others other ls) ns ms (less (ByHandler id)) (reads_more ks ls (keys_more a named ks ls keys keys')) is is' had
    touched_by (Writes a e) ns ms named (ks, keys, is) (ls, keys', is') had =
        where_marked (mark_of facts.by_handler id) (mark_of others.by_handler id) (writes_of facts fact ks) (writes_of others other ls) ns ms (less (ByHandler id)) (writes_more ks ls (keys_more a named ks ls keys keys')) is is' had
    touched_by (Sets r e) ns ms named is l had = subst AreHad (sym is) tt
    touched_by (Calls r h args) ns ms named is l had = subst AreHad (sym is) tt
    touched_by (Saves r) ns ms named is l had = subst AreHad (sym is) tt
    touched_by (Turns on) ns ms named is l had = subst AreHad (sym is) tt
    touched_by (Restores e) ns ms named is l had = subst AreHad (sym is) tt
    touched_by (Tests e these those) ns ms named is l had = subst AreHad (sym is) tt
    touched_by (Chooses e cases) ns ms named is l had = subst AreHad (sym is) tt
    touched_by (Returns e) ns ms named is l had = subst AreHad (sym is) tt
    touched_by Passes ns ms named is l had = subst AreHad (sym is) tt

    pub touched_grows : (act : Act) (ns ms : Needs I) → PlacesMore act → Touched d p facts n id f point fact act ns → Touched d p others n id f point other act ms → AreHad ms → AreHad ns
    touched_grows act ns ms named l m had = touched_by act ns ms named (touched_as facts fact act ns l) (touched_as others other act ms m) had

    -- ---- what is returned

    pub given_grows : (act : Act) (ns ms : Needs I) → ValuesMore → Given d p facts n id f point fact act ns → Given d p others n id f point other act ms → AreHad ms → AreHad ns
    given_grows act ns ms values (OfNoValue never is) l had = subst AreHad (sym is) tt
    given_grows act ns ms values (OfReturn e y is val same) (OfNoValue never is') had = absurd (never e is)
    given_grows act ns ms values (OfReturn e y is val same) (OfReturn e' y' is' val' same') had =
        let same_act : Returns (Some e') ≡ Returns (Some e) = sym is' ∙ is in
        let same_e : e' ≡ e = one_returned e' e same_act in
        subst AreHad (sym same) (part_had d k holder (Result id) (Values (Some y)) (Values (Some y')) (values e y y' val (subst (λ (i : Expr). IsValue d p others n id f point other i y') same_e val')) ((subst AreHad same' had).0), tt)
      where
        one_returned : (e g : Expr) → Returns (Some e) ≡ Returns (Some g) → e ≡ g
        one_returned e g h = cc
