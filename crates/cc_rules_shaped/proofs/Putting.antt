-- Facts that get a part that fits keep the shape.
use Rattle.std.proofs.Common.{◌≡◌, inl, inr, ℕ, zero, suc, ◌<◌, Bool, true, false, true≢false, List, [], ◌∷◌, length, Option, Some, None, slice_get, slice_set, refl, ap, sym, ◌∙◌, subst}
use Rattle.std.specs.Prelude.{unwrap_or}
use Rattle.std.specs.Int.Bits.{or_zero_r}
use Rattle.std.proofs.lemmas.Option.{slice_get_within}
use Rattle.cc_rules_grow.specs.CcFlow.Points.{count_of, flow_of}
use Rattle.cc_rules_grow.specs.CcFlow.declared.types.Point.{Point}
use Rattle.cc_rules_grow.specs.CcPlaces.Abstract.{AreOfOneKind}
use Rattle.cc_rules_grow.specs.CcPlaces.declared.abs.Abs.{Abs}
use Rattle.cc_rules_grow.specs.CcPlaces.declared.abs.Abs.TheVariants as abs
use Rattle.cc_program.specs.declared.func.Func.{Func}
use Rattle.cc_program.specs.declared.program.Program.{Program}
use Rattle.cc_rules_grow.proofs.CcRulesNeeds.Others.{set_at}
use Rattle.cc_rules_grow.specs.CcRulesNeeds.declared.needs.Part.{Part}
use Rattle.cc_rules_grow.specs.CcRulesNeeds.declared.needs.Part.TheVariants.{Mark, LevelSet, Flags, Values}
use Rattle.cc_rules_grow.specs.CcRulesNeeds.declared.needs.Slot.{Slot}
use Rattle.cc_rules_grow.specs.CcRulesNeeds.declared.needs.Slot.TheVariants.{Whole, HandlerReads, HandlerWrites, ReadLevels, WriteLevels, Result, ByMain, ByHandler, Levels, From, Flag, LocalAt, CellAt, Apart}
use Rattle.cc_rules_grow.specs.CcRulesNeeds.Needs.{get}
use Rattle.cc_rules_grow.specs.CcRulesNeeds.Raised.{MayBePut, MayGet, put, IsLeastPart, IsPut}
use Rattle.cc_rules_shaped.proofs.Joining.{JoinsTyped, IsLeastAbove, join_in}
use Rattle.cc_rules_shaped.proofs.Types.{one_key_type, one_result_type}
use Rattle.cc_rules_shaped.specs.Shaped.{is_at_point, Fits, AllowsLevels}
use Rattle.cc_rules_grow.specs.CcState.Shape.{IsSetIn, AreSets, IsPointFact, IsKeyType, IsResultType, HaveShape}
use Rattle.cc_rules_grow.proofs.CcStateFacts.LevelBits.{or_from_within}
use Rattle.cc_rules_grow.specs.CcStateFacts.declared.facts.Facts.{Facts}
use Rattle.cc_rules_grow.specs.CcStateFacts.declared.facts.PointFact.{PointFact}
use Rattle.cc_rules_grow.specs.CcStateFacts.Facts.{mark_of, levels_of}
use Rattle.cc_rules_grow.specs.CcStateFacts.Levels.{AreLevelsWithin}
use Rattle.cc_rules_grow.specs.CcStateKeys.Keys.{keys_of}
use Rattle.cc_rules_grow.specs.CcStateOperators.Domains.{Domain}
use Rattle.cc_rules_grow.specs.CcSyntax.Values.{ValueType, NoValue, Integer, ToObject, ToFunction}

-- ---- lists in which an element is another one

pub set_length : {A : Type 0} (xs : List A) (k : ℕ) (y : A) → length (slice_set xs k y) ≡ length xs
set_length [] k y = refl
set_length (x ∷ xs) zero y = refl
set_length (x ∷ xs) (suc k) y = ap suc (set_length xs k y)

none_within : (z : ℕ) → AreLevelsWithin z 0 → z ≡ 0
none_within z h = sym (or_zero_r z) ∙ or_from_within z 0 h

-- two lists of marks, and two of levels: what has no mark has no levels
record AreMarked (count : ℕ) (marks more : List Bool) (levels others : List ℕ) : Type 0 where
  marks_each : length marks ≡ count
  more_each : length more ≡ count
  levels_each : length levels ≡ count
  others_each : length others ≡ count
  marked : (n : ℕ) → mark_of marks n ≡ false → mark_of more n ≡ false → (levels_of levels n ≡ 0) × (levels_of others n ≡ 0)

-- a mark that is set does not take one away
still_none : (marks : List Bool) (k : ℕ) (b : Bool) (n : ℕ) → k < length marks → (mark_of marks k ≡ true → b ≡ true) → mark_of (slice_set marks k b) n ≡ false → mark_of marks n ≡ false
still_none marks k b n l rises h = elim (set_at marks k b n l) [
  | inl e ↦ by (mark_of marks n) refl e.0 (sym (ap (λ (x : Option Bool). unwrap_or x false) e.1) ∙ h)
  | inr e ↦ sym (ap (λ (x : Option Bool). unwrap_or x false) e) ∙ h
]
  where
    by : (m : Bool) → mark_of marks n ≡ m → n ≡ k → b ≡ false → mark_of marks n ≡ false
    by false e at is = e
    by true e at is = absurd (true≢false (sym (rises (ap (mark_of marks) (sym at) ∙ e)) ∙ is))

levels_there : (levels : List ℕ) (k z n : ℕ) → k < length levels → (n ≡ k → z ≡ 0) → levels_of levels n ≡ 0 → levels_of (slice_set levels k z) n ≡ 0
levels_there levels k z n l none h = elim (set_at levels k z n l) [
  | inl e ↦ ap (λ (x : Option ℕ). unwrap_or x 0) e.1 ∙ none e.0
  | inr e ↦ ap (λ (x : Option ℕ). unwrap_or x 0) e ∙ h
]

module _ (count : ℕ) (marks more : List Bool) (levels others : List ℕ) (are : AreMarked count marks more levels others) (k : ℕ) (l : k < count) where
  first_mark : (b : Bool) → (mark_of marks k ≡ true → b ≡ true) → AreMarked count (slice_set marks k b) more levels others
  first_mark b rises = record {
    marks_each = set_length marks k b ∙ are.marks_each;
    more_each = are.more_each;
    levels_each = are.levels_each;
    others_each = are.others_each;
    marked = λ n h g. are.marked n (still_none marks k b n (subst (λ (c : ℕ). k < c) (sym are.marks_each) l) rises h) g;
  }

  second_mark : (b : Bool) → (mark_of more k ≡ true → b ≡ true) → AreMarked count marks (slice_set more k b) levels others
  second_mark b rises = record {
    marks_each = are.marks_each;
    more_each = set_length more k b ∙ are.more_each;
    levels_each = are.levels_each;
    others_each = are.others_each;
    marked = λ n h g. are.marked n h (still_none more k b n (subst (λ (c : ℕ). k < c) (sym are.more_each) l) rises g);
  }

  first_levels : (z : ℕ) → (mark_of marks k ≡ false → mark_of more k ≡ false → z ≡ 0) → AreMarked count marks more (slice_set levels k z) others
  first_levels z none = record {
    marks_each = are.marks_each;
    more_each = are.more_each;
    levels_each = set_length levels k z ∙ are.levels_each;
    others_each = are.others_each;
    marked = λ n h g. (let w = are.marked n h g in (levels_there levels k z n (subst (λ (c : ℕ). k < c) (sym are.levels_each) l) (λ e. none (ap (mark_of marks) (sym e) ∙ h) (ap (mark_of more) (sym e) ∙ g)) w.0, w.1));
  }

  second_levels : (z : ℕ) → (mark_of marks k ≡ false → mark_of more k ≡ false → z ≡ 0) → AreMarked count marks more levels (slice_set others k z)
  second_levels z none = record {
    marks_each = are.marks_each;
    more_each = are.more_each;
    levels_each = are.levels_each;
    others_each = set_length others k z ∙ are.others_each;
    marked = λ n h g. (let w = are.marked n h g in (w.0, levels_there others k z n (subst (λ (c : ℕ). k < c) (sym are.others_each) l) (λ e. none (ap (mark_of marks) (sym e) ∙ h) (ap (mark_of more) (sym e) ∙ g)) w.1));
  }

module _ {I : Type 0} (d : Domain I) (o : JoinsTyped d) (p : Program) where
  -- ---- the parts of the shape

  abbrev AreWhole : List (Abs I) → Type 0
  AreWhole sets = (length sets ≡ length (keys_of p)) × AreSets d p (length (keys_of p)) (slice_get sets) (IsKeyType d p)

  abbrev AreResults : List (Abs I) → Type 0
  AreResults sets = (length sets ≡ length p.funcs) × AreSets d p (length p.funcs) (slice_get sets) (IsResultType d p)

  abbrev pub ArePoints : List (Option (PointFact I)) → Type 0
  ArePoints at =
      (length at ≡ count_of p) ×
      ((n : ℕ) (fact : PointFact I) (point : Point) (f : Func) → slice_get at n ≡ Some (Some fact) → slice_get (flow_of p).points n ≡ Some point → slice_get p.funcs point.func ≡ Some f → IsPointFact d p f fact)

  made : (g : Facts I) → g.keys ≡ keys_of p → AreWhole g.whole → AreResults g.results → AreMarked (length p.funcs) g.by_main g.by_handler g.levels g.from →
      AreMarked (length (keys_of p)) g.handler_reads g.handler_writes g.read_levels g.write_levels → ArePoints g.at → HaveShape d p g
  made g keys whole results functions of_keys points = record {
    keys = keys;
    whole_count = whole.0;
    whole = whole.1;
    result_count = results.0;
    results = results.1;
    by_main = functions.marks_each;
    by_handler = functions.more_each;
    levels = functions.levels_each;
    from = functions.others_each;
    handler_reads = of_keys.marks_each;
    handler_writes = of_keys.more_each;
    read_levels = of_keys.levels_each;
    write_levels = of_keys.others_each;
    levels_marked = functions.marked;
    touches_marked = of_keys.marked;
    points = points.0;
    point_facts = points.1;
  }

  -- ---- a set that gets values of its type

  of_one_kind : (t : ValueType) (x y : Abs I) → IsSetIn p d t x → IsSetIn p d t y → AreOfOneKind x y
  of_one_kind t (abs.Ints x) (abs.Ints y) h l = tt
  of_one_kind t (abs.Addrs r) (abs.Addrs s) h l = tt
  of_one_kind NoValue (abs.Ints x) (abs.Addrs s) h l = absurd l
  of_one_kind (Integer t) (abs.Ints x) (abs.Addrs s) h l = absurd l
  of_one_kind (ToObject c v to) (abs.Ints x) (abs.Addrs s) h l = absurd h
  of_one_kind (ToFunction sig) (abs.Ints x) (abs.Addrs s) h l = absurd h
  of_one_kind NoValue (abs.Addrs r) (abs.Ints y) h l = absurd h
  of_one_kind (Integer t) (abs.Addrs r) (abs.Ints y) h l = absurd h
  of_one_kind (ToObject c v to) (abs.Addrs r) (abs.Ints y) h l = absurd l
  of_one_kind (ToFunction sig) (abs.Addrs r) (abs.Ints y) h l = absurd l

  -- one of the sets gets the least that has it and more of its type
  module _ (count : ℕ) (sets : List (Abs I)) (IsType : ℕ → ValueType → Type 0) (one : (n : ℕ) (t u : ValueType) → IsType n t → IsType n u → t ≡ u) (are : AreSets d p count (slice_get sets) IsType) (each : length sets ≡ count) where
    held_in : (k : ℕ) → k < count → (t : ValueType) → IsType k t → (x : Abs I) × (slice_get sets k ≡ Some x) × IsSetIn p d t x
    held_in k l t is =
        let w = are.there k l in
        (w.1, w.2.1, subst (λ (u : ValueType). IsSetIn p d u w.1) (one k w.0 t w.2.0 is) w.2.2)

    may_be_put : (k : ℕ) → k < count → (t : ValueType) (y : Abs I) → IsType k t → IsSetIn p d t y → MayBePut sets k y
    may_be_put k l t y is h = let (x, there, g) = held_in k l t is in (x, there, of_one_kind t x y g h)

    sets_with : (k : ℕ) → k < count → (t : ValueType) (z : Abs I) → IsType k t → IsSetIn p d t z → AreSets d p count (slice_get (slice_set sets k z)) IsType
    sets_with k l t z is h = record { there = there }
      where
        there : (n : ℕ) → n < count → (u : ValueType) × (y : Abs I) × (IsType n u × (slice_get (slice_set sets k z) n ≡ Some y) × IsSetIn p d u y)
        there n q = elim (set_at sets k z n (subst (λ (c : ℕ). k < c) (sym each) l)) [
          | inl e ↦ (t, z, (subst (λ (i : ℕ). IsType i t) (sym e.0) is, e.1, h))
          | inr e ↦ let w = are.there n q in (w.0, w.1, (w.2.0, e ∙ w.2.1, w.2.2))
        ]

  -- ---- the least part

  least_set : (x y : Abs I) (part : Part I) → IsLeastPart d.below (Values (Some x)) (Values (Some y)) part → (z : Abs I) × (part ≡ Values (Some z)) × IsLeastAbove d o p x y z
  least_set x y (Values (Some z)) l = (z, refl, record { left = l.left; right = l.right; least = λ u a b. l.least (Values (Some u)) a b })
  least_set x y (Values None) l = absurd l.left
  least_set x y (Mark b) l = absurd l.left
  least_set x y (LevelSet q) l = absurd l.left
  least_set x y (Flags off on) l = absurd l.left

  least_mark : (a b : Bool) (part : Part I) → IsLeastPart d.below (Mark a) (Mark b) part → (c : Bool) × (part ≡ Mark c) × (a ≡ true → c ≡ true)
  least_mark a b (Mark c) l = (c, refl, l.left)
  least_mark a b (Values y) l = absurd l.left
  least_mark a b (LevelSet q) l = absurd l.left
  least_mark a b (Flags off on) l = absurd l.left

  least_levels : (x y : ℕ) (part : Part I) → IsLeastPart d.below (LevelSet x) (LevelSet y) part → (z : ℕ) × (part ≡ LevelSet z) × (x ≡ 0 → y ≡ 0 → z ≡ 0)
  least_levels x y (LevelSet z) l = (z, refl, λ h g. none_within z (l.least (LevelSet 0) (subst (λ (i : ℕ). AreLevelsWithin i 0) (sym h) (λ q w. w)) (subst (λ (i : ℕ). AreLevelsWithin i 0) (sym g) (λ q w. w))))
  least_levels x y (Values w) l = absurd l.left
  least_levels x y (Mark b) l = absurd l.left
  least_levels x y (Flags off on) l = absurd l.left

  -- ---- each slot

  module _ (facts : Facts I) (shape : HaveShape d p facts) where
    whole : AreWhole facts.whole
    whole = (shape.whole_count, shape.whole)

    results : AreResults facts.results
    results = (shape.result_count, shape.results)

    functions : AreMarked (length p.funcs) facts.by_main facts.by_handler facts.levels facts.from
    functions = record { marks_each = shape.by_main; more_each = shape.by_handler; levels_each = shape.levels; others_each = shape.from; marked = shape.levels_marked }

    of_keys : AreMarked (length (keys_of p)) facts.handler_reads facts.handler_writes facts.read_levels facts.write_levels
    of_keys = record { marks_each = shape.handler_reads; more_each = shape.handler_writes; levels_each = shape.read_levels; others_each = shape.write_levels; marked = shape.touches_marked }

    points : ArePoints facts.at
    points = (shape.points, shape.point_facts)

    -- facts with other points
    pub with_points : (at : List (Option (PointFact I))) → ArePoints at → HaveShape d p (record facts { at = at })
    with_points at are = made (record facts { at = at }) shape.keys whole results functions of_keys are

    key_there : (k : ℕ) (t : ValueType) → IsKeyType d p k t → k < length (keys_of p)
    key_there k t (key, c, at, is, cell) = slice_get_within (keys_of p) k key at

    function_there : (g : ℕ) (t : ValueType) → IsResultType d p g t → g < length p.funcs
    function_there g t (f, there, is) = slice_get_within p.funcs g f there

    pub may_get : (slot : Slot) (more : Part I) → is_at_point slot ≡ false → Fits d p slot more → MayGet slot more facts
    may_get (Whole k) (Values (Some y)) own (t, is, h) = may_be_put (length (keys_of p)) facts.whole (IsKeyType d p) (one_key_type d p) shape.whole shape.whole_count k (key_there k t is) t y is h
    may_get (Whole k) _ own h = absurd h
    may_get (Result g) (Values (Some y)) own (t, is, h) = may_be_put (length p.funcs) facts.results (IsResultType d p) (one_result_type d p) shape.results shape.result_count g (function_there g t is) t y is h
    may_get (Result g) _ own h = absurd h
    may_get (HandlerReads k) (Mark b) own l = subst (λ (c : ℕ). k < c) (sym shape.handler_reads) l
    may_get (HandlerReads k) _ own h = absurd h
    may_get (HandlerWrites k) (Mark b) own l = subst (λ (c : ℕ). k < c) (sym shape.handler_writes) l
    may_get (HandlerWrites k) _ own h = absurd h
    may_get (ReadLevels k) (LevelSet x) own l = subst (λ (c : ℕ). k < c) (sym shape.read_levels) l
    may_get (ReadLevels k) _ own h = absurd h
    may_get (WriteLevels k) (LevelSet x) own l = subst (λ (c : ℕ). k < c) (sym shape.write_levels) l
    may_get (WriteLevels k) _ own h = absurd h
    may_get (ByMain g) (Mark b) own l = subst (λ (c : ℕ). g < c) (sym shape.by_main) l
    may_get (ByMain g) _ own h = absurd h
    may_get (ByHandler g) (Mark b) own l = subst (λ (c : ℕ). g < c) (sym shape.by_handler) l
    may_get (ByHandler g) _ own h = absurd h
    may_get (Levels g) (LevelSet x) own l = subst (λ (c : ℕ). g < c) (sym shape.levels) l
    may_get (Levels g) _ own h = absurd h
    may_get (From g) (LevelSet x) own l = subst (λ (c : ℕ). g < c) (sym shape.from) l
    may_get (From g) _ own h = absurd h
    may_get (Flag n) more own h = absurd (true≢false own)
    may_get (LocalAt n r) more own h = absurd (true≢false own)
    may_get (CellAt n j) more own h = absurd (true≢false own)
    may_get (Apart n r j) more own h = absurd (true≢false own)

    -- the facts with the least part in place of what was there

    abbrev IsLeastHere : Slot → Part I → Part I → Type 0
    IsLeastHere slot more part = IsLeastPart d.below (get slot facts) more part

    put_whole : (k : ℕ) (y : Abs I) (part : Part I) (t : ValueType) → IsKeyType d p k t → IsSetIn p d t y → IsLeastHere (Whole k) (Values (Some y)) part → HaveShape d p (put (Whole k) part facts)
    put_whole k y part t is h least =
        let l = key_there k t is in
        let (x, there, held) = held_in (length (keys_of p)) facts.whole (IsKeyType d p) (one_key_type d p) shape.whole shape.whole_count k l t is in
        let (z, same, above) = least_set x y part (subst (λ (q : Option (Abs I)). IsLeastPart d.below (Values q) (Values (Some y)) part) there least) in
        subst (λ (q : Part I). HaveShape d p (put (Whole k) q facts)) (sym same)
        (made (put (Whole k) (Values (Some z)) facts) shape.keys (set_length facts.whole k z ∙ shape.whole_count, sets_with (length (keys_of p)) facts.whole (IsKeyType d p) (one_key_type d p) shape.whole shape.whole_count k l t z is (join_in d o p t x y z held h above))
        results functions of_keys points)

    put_result : (g : ℕ) (y : Abs I) (part : Part I) (t : ValueType) → IsResultType d p g t → IsSetIn p d t y → IsLeastHere (Result g) (Values (Some y)) part → HaveShape d p (put (Result g) part facts)
    put_result g y part t is h least =
        let l = function_there g t is in
        let (x, there, held) = held_in (length p.funcs) facts.results (IsResultType d p) (one_result_type d p) shape.results shape.result_count g l t is in
        let (z, same, above) = least_set x y part (subst (λ (q : Option (Abs I)). IsLeastPart d.below (Values q) (Values (Some y)) part) there least) in
        subst (λ (q : Part I). HaveShape d p (put (Result g) q facts)) (sym same)
        (made (put (Result g) (Values (Some z)) facts) shape.keys whole (set_length facts.results g z ∙ shape.result_count, sets_with (length p.funcs) facts.results (IsResultType d p) (one_result_type d p) shape.results shape.result_count g l t z is (join_in d o p t x y z held h above))
        functions of_keys points)

    pub put_shaped : (slot : Slot) (more part : Part I) → is_at_point slot ≡ false → Fits d p slot more → AllowsLevels d p slot more facts → IsLeastHere slot more part → HaveShape d p (put slot part facts)
    put_shaped (Whole k) (Values (Some y)) part own (t, is, h) allowed least = put_whole k y part t is h least
    put_shaped (Whole k) _ part own h allowed least = absurd h
    put_shaped (Result g) (Values (Some y)) part own (t, is, h) allowed least = put_result g y part t is h least
    put_shaped (Result g) _ part own h allowed least = absurd h
    put_shaped (HandlerReads k) (Mark b) part own l allowed least =
        let w = least_mark (mark_of facts.handler_reads k) b part least in
        subst (λ (q : Part I). HaveShape d p (put (HandlerReads k) q facts)) (sym w.1) (made (put (HandlerReads k) (Mark w.0) facts) shape.keys whole results functions (first_mark (length (keys_of p)) facts.handler_reads facts.handler_writes facts.read_levels facts.write_levels of_keys k l w.0 w.2) points)
    put_shaped (HandlerReads k) _ part own h allowed least = absurd h
    put_shaped (HandlerWrites k) (Mark b) part own l allowed least =
        let w = least_mark (mark_of facts.handler_writes k) b part least in
        subst (λ (q : Part I). HaveShape d p (put (HandlerWrites k) q facts)) (sym w.1) (made (put (HandlerWrites k) (Mark w.0) facts) shape.keys whole results functions (second_mark (length (keys_of p)) facts.handler_reads facts.handler_writes facts.read_levels facts.write_levels of_keys k l w.0 w.2) points)
    put_shaped (HandlerWrites k) _ part own h allowed least = absurd h
    put_shaped (ReadLevels k) (LevelSet x) part own l allowed least =
        let w = least_levels (levels_of facts.read_levels k) x part least in
        subst (λ (q : Part I). HaveShape d p (put (ReadLevels k) q facts)) (sym w.1) (made (put (ReadLevels k) (LevelSet w.0) facts) shape.keys whole results functions (first_levels (length (keys_of p)) facts.handler_reads facts.handler_writes facts.read_levels facts.write_levels of_keys k l w.0 (λ m n. w.2 (shape.touches_marked k m n).0 (allowed m n))) points)
    put_shaped (ReadLevels k) _ part own h allowed least = absurd h
    put_shaped (WriteLevels k) (LevelSet x) part own l allowed least =
        let w = least_levels (levels_of facts.write_levels k) x part least in
        subst (λ (q : Part I). HaveShape d p (put (WriteLevels k) q facts)) (sym w.1) (made (put (WriteLevels k) (LevelSet w.0) facts) shape.keys whole results functions (second_levels (length (keys_of p)) facts.handler_reads facts.handler_writes facts.read_levels facts.write_levels of_keys k l w.0 (λ m n. w.2 (shape.touches_marked k m n).1 (allowed m n))) points)
    put_shaped (WriteLevels k) _ part own h allowed least = absurd h
    put_shaped (ByMain g) (Mark b) part own l allowed least =
        let w = least_mark (mark_of facts.by_main g) b part least in
        subst (λ (q : Part I). HaveShape d p (put (ByMain g) q facts)) (sym w.1) (made (put (ByMain g) (Mark w.0) facts) shape.keys whole results (first_mark (length p.funcs) facts.by_main facts.by_handler facts.levels facts.from functions g l w.0 w.2) of_keys points)
    put_shaped (ByMain g) _ part own h allowed least = absurd h
    put_shaped (ByHandler g) (Mark b) part own l allowed least =
        let w = least_mark (mark_of facts.by_handler g) b part least in
        subst (λ (q : Part I). HaveShape d p (put (ByHandler g) q facts)) (sym w.1) (made (put (ByHandler g) (Mark w.0) facts) shape.keys whole results (second_mark (length p.funcs) facts.by_main facts.by_handler facts.levels facts.from functions g l w.0 w.2) of_keys points)
    put_shaped (ByHandler g) _ part own h allowed least = absurd h
    put_shaped (Levels g) (LevelSet x) part own l allowed least =
        let w = least_levels (levels_of facts.levels g) x part least in
        subst (λ (q : Part I). HaveShape d p (put (Levels g) q facts)) (sym w.1) (made (put (Levels g) (LevelSet w.0) facts) shape.keys whole results (first_levels (length p.funcs) facts.by_main facts.by_handler facts.levels facts.from functions g l w.0 (λ m n. w.2 (shape.levels_marked g m n).0 (allowed m n))) of_keys points)
    put_shaped (Levels g) _ part own h allowed least = absurd h
    put_shaped (From g) (LevelSet x) part own l allowed least =
        let w = least_levels (levels_of facts.from g) x part least in
        subst (λ (q : Part I). HaveShape d p (put (From g) q facts)) (sym w.1) (made (put (From g) (LevelSet w.0) facts) shape.keys whole results (second_levels (length p.funcs) facts.by_main facts.by_handler facts.levels facts.from functions g l w.0 (λ m n. w.2 (shape.levels_marked g m n).1 (allowed m n))) of_keys points)
    put_shaped (From g) _ part own h allowed least = absurd h
    put_shaped (Flag n) more part own h allowed least = absurd (true≢false own)
    put_shaped (LocalAt n r) more part own h allowed least = absurd (true≢false own)
    put_shaped (CellAt n j) more part own h allowed least = absurd (true≢false own)
    put_shaped (Apart n r j) more part own h allowed least = absurd (true≢false own)

    pub is_put_shaped : (slot : Slot) (more : Part I) (others : Facts I) → is_at_point slot ≡ false → Fits d p slot more → AllowsLevels d p slot more facts → IsPut d.below slot more facts others → HaveShape d p others
    is_put_shaped slot more others own h allowed is = subst (HaveShape d p) (sym is.is) (put_shaped slot more is.part own h allowed is.least)
