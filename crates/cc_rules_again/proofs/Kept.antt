-- Facts that have one thing as lesser ones have it: they have the shape of both, and lie between them.
use Rattle.std.proofs.Common.{◌≡◌, ◌⊎◌, inl, inr, ℕ, Bool, false, List, length, Option, Some, None, slice_get, refl, sym, ap, ◌∙◌}
use Rattle.std.specs.Prelude.{option_and_then, unwrap_or}
use Rattle.std.proofs.lemmas.List.Elements.{length_all_zip}
use Rattle.std.proofs.lemmas.Option.{same_Some, none-some}
use Rattle.cc_rules_grow.specs.CcFlow.declared.types.Point.{Point}
use Rattle.cc_rules_grow.specs.CcFlow.Points.{flow_of}
use Rattle.cc_rules_grow.specs.CcPlaces.declared.abs.Abs.{Abs}
use Rattle.cc_rules_grow.specs.CcPlaces.Abstract.{AreOfOneKind, IsBelowAbs}
use Rattle.cc_program.specs.declared.func.Func.{Func}
use Rattle.cc_program.specs.declared.program.Program.{Program}
use Rattle.cc_rules_again.proofs.Picked.{picked, length_picked, picked_there, picked_other, is_picked, picked_above, picked_below}
use Rattle.cc_rules_again.specs.Things.{Thing, OfPoint, OfWhole, OfResult, OfReach, OfTouch, thing_of, IsSame}
use Rattle.cc_rules_grow.specs.CcRulesNeeds.declared.needs.Part.{Part}
use Rattle.cc_rules_grow.specs.CcRulesNeeds.declared.needs.Part.TheVariants.{Mark, LevelSet, Values}
use Rattle.cc_rules_grow.specs.CcRulesNeeds.declared.needs.Slot.{Slot}
use Rattle.cc_rules_grow.specs.CcRulesNeeds.declared.needs.Slot.TheVariants as slot
use Rattle.cc_rules_grow.specs.CcRulesNeeds.Needs.{get, flags_in, apart_in}
use Rattle.cc_rules_grow.specs.CcState.Shape.{AreSets, IsKeyType, IsResultType, IsPointFact, HaveShape}
use Rattle.cc_rules_grow.specs.CcStateFacts.declared.facts.Facts.{Facts}
use Rattle.cc_rules_grow.specs.CcStateFacts.declared.facts.PointFact.{PointFact}
use Rattle.cc_rules_grow.specs.CcStateFacts.Facts.{cell_of, local_of, mark_of, levels_of}
use Rattle.cc_rules_grow.specs.CcStateFacts.Levels.{AreLevelsWithin}
use Rattle.cc_rules_grow.specs.CcStateFacts.Orders.{IsMarkBelow, AreKnownAlike, AreAlike, IsKnownBelow, IsBelow}
use Rattle.cc_rules_grow.specs.CcStateFacts.laws.OrderLaws.{kind_itself, point_itself, known_below_itself}
use Rattle.cc_rules_grow.specs.CcStateKeys.Keys.{keys_of}
use Rattle.cc_rules_grow.specs.CcStateOperators.Domains.{Domain}
use Rattle.cc_rules_grow.specs.CcSyntax.Values.{ValueType}

-- where a thing stands in each list
abbrev pub point_place : Thing → Option ℕ
point_place (OfPoint n) = Some n
point_place _ = None

abbrev pub whole_place : Thing → Option ℕ
whole_place (OfWhole k) = Some k
whole_place _ = None

abbrev pub result_place : Thing → Option ℕ
result_place (OfResult g) = Some g
result_place _ = None

abbrev pub reach_place : Thing → Option ℕ
reach_place (OfReach g) = Some g
reach_place _ = None

abbrev pub touch_place : Thing → Option ℕ
touch_place (OfTouch k) = Some k
touch_place _ = None

point_is : (t : Thing) (n : ℕ) → point_place t ≡ Some n → OfPoint n ≡ t
point_is (OfPoint m) n e = ap OfPoint (sym (same_Some m n e))
point_is (OfWhole m) n e = absurd (none-some n e)
point_is (OfResult m) n e = absurd (none-some n e)
point_is (OfReach m) n e = absurd (none-some n e)
point_is (OfTouch m) n e = absurd (none-some n e)

whole_is : (t : Thing) (n : ℕ) → whole_place t ≡ Some n → OfWhole n ≡ t
whole_is (OfPoint m) n e = absurd (none-some n e)
whole_is (OfWhole m) n e = ap OfWhole (sym (same_Some m n e))
whole_is (OfResult m) n e = absurd (none-some n e)
whole_is (OfReach m) n e = absurd (none-some n e)
whole_is (OfTouch m) n e = absurd (none-some n e)

result_is : (t : Thing) (n : ℕ) → result_place t ≡ Some n → OfResult n ≡ t
result_is (OfPoint m) n e = absurd (none-some n e)
result_is (OfWhole m) n e = absurd (none-some n e)
result_is (OfResult m) n e = ap OfResult (sym (same_Some m n e))
result_is (OfReach m) n e = absurd (none-some n e)
result_is (OfTouch m) n e = absurd (none-some n e)

reach_is : (t : Thing) (n : ℕ) → reach_place t ≡ Some n → OfReach n ≡ t
reach_is (OfPoint m) n e = absurd (none-some n e)
reach_is (OfWhole m) n e = absurd (none-some n e)
reach_is (OfResult m) n e = absurd (none-some n e)
reach_is (OfReach m) n e = ap OfReach (sym (same_Some m n e))
reach_is (OfTouch m) n e = absurd (none-some n e)

touch_is : (t : Thing) (n : ℕ) → touch_place t ≡ Some n → OfTouch n ≡ t
touch_is (OfPoint m) n e = absurd (none-some n e)
touch_is (OfWhole m) n e = absurd (none-some n e)
touch_is (OfResult m) n e = absurd (none-some n e)
touch_is (OfReach m) n e = absurd (none-some n e)
touch_is (OfTouch m) n e = ap OfTouch (sym (same_Some m n e))

-- the greater facts, with one thing of the lesser ones
abbrev pub kept : {I : Type 0} → Thing → Facts I → Facts I → Facts I
kept t f g = record {
  keys = g.keys;
  whole = picked (whole_place t) f.whole g.whole;
  results = picked (result_place t) f.results g.results;
  by_main = picked (reach_place t) f.by_main g.by_main;
  by_handler = picked (reach_place t) f.by_handler g.by_handler;
  levels = picked (reach_place t) f.levels g.levels;
  from = picked (reach_place t) f.from g.from;
  handler_reads = picked (touch_place t) f.handler_reads g.handler_reads;
  handler_writes = picked (touch_place t) f.handler_writes g.handler_writes;
  read_levels = picked (touch_place t) f.read_levels g.read_levels;
  write_levels = picked (touch_place t) f.write_levels g.write_levels;
  at = picked (point_place t) f.at g.at;
}

-- ---- their order

mark_left : (a b : Bool) → IsMarkBelow a b → IsMarkBelow a a
mark_left a b h e = e

mark_right : (a b : Bool) → IsMarkBelow a b → IsMarkBelow b b
mark_right a b h e = e

levels_left : (x y : ℕ) → AreLevelsWithin x y → AreLevelsWithin x x
levels_left x y h l e = e

levels_right : (x y : ℕ) → AreLevelsWithin x y → AreLevelsWithin y y
levels_right x y h l e = e

module _ {I : Type 0} (alike below : I → I → Type 0) (self : (x : Abs I) → IsBelowAbs below x x) (t : Thing) (f g : Facts I) where
  pub kept_above : IsBelow below f g → IsBelow below f (kept t f g)
  kept_above h = record {
    whole = picked_above (IsBelowAbs below) (λ x y l. self x) (whole_place t) f.whole g.whole h.whole;
    results = picked_above (IsBelowAbs below) (λ x y l. self x) (result_place t) f.results g.results h.results;
    by_main = picked_above IsMarkBelow mark_left (reach_place t) f.by_main g.by_main h.by_main;
    by_handler = picked_above IsMarkBelow mark_left (reach_place t) f.by_handler g.by_handler h.by_handler;
    levels = picked_above AreLevelsWithin levels_left (reach_place t) f.levels g.levels h.levels;
    from = picked_above AreLevelsWithin levels_left (reach_place t) f.from g.from h.from;
    handler_reads = picked_above IsMarkBelow mark_left (touch_place t) f.handler_reads g.handler_reads h.handler_reads;
    handler_writes = picked_above IsMarkBelow mark_left (touch_place t) f.handler_writes g.handler_writes h.handler_writes;
    read_levels = picked_above AreLevelsWithin levels_left (touch_place t) f.read_levels g.read_levels h.read_levels;
    write_levels = picked_above AreLevelsWithin levels_left (touch_place t) f.write_levels g.write_levels h.write_levels;
    at = picked_above (IsKnownBelow below) (λ x y l. known_below_itself alike below self x) (point_place t) f.at g.at h.at;
  }

  pub kept_below : IsBelow below f g → IsBelow below (kept t f g) g
  kept_below h = record {
    whole = picked_below (IsBelowAbs below) (λ x y l. self y) (whole_place t) f.whole g.whole h.whole;
    results = picked_below (IsBelowAbs below) (λ x y l. self y) (result_place t) f.results g.results h.results;
    by_main = picked_below IsMarkBelow mark_right (reach_place t) f.by_main g.by_main h.by_main;
    by_handler = picked_below IsMarkBelow mark_right (reach_place t) f.by_handler g.by_handler h.by_handler;
    levels = picked_below AreLevelsWithin levels_right (reach_place t) f.levels g.levels h.levels;
    from = picked_below AreLevelsWithin levels_right (reach_place t) f.from g.from h.from;
    handler_reads = picked_below IsMarkBelow mark_right (touch_place t) f.handler_reads g.handler_reads h.handler_reads;
    handler_writes = picked_below IsMarkBelow mark_right (touch_place t) f.handler_writes g.handler_writes h.handler_writes;
    read_levels = picked_below AreLevelsWithin levels_right (touch_place t) f.read_levels g.read_levels h.read_levels;
    write_levels = picked_below AreLevelsWithin levels_right (touch_place t) f.write_levels g.write_levels h.write_levels;
    at = picked_below (IsKnownBelow below) (λ x y l. known_below_itself alike below self y) (point_place t) f.at g.at h.at;
  }

-- ---- their kind

known_right : {I : Type 0} (x y : Option (PointFact I)) → AreKnownAlike x y → AreKnownAlike y y
known_right None None h = tt
known_right None (Some y) h = point_itself y h
known_right (Some x) None h = tt
known_right (Some x) (Some y) h = point_itself y h.2

module _ {I : Type 0} (t : Thing) (f g : Facts I) where
  pub kept_alike : AreAlike f g → AreAlike (kept t f g) g
  kept_alike h = record {
    keys = refl;
    whole = picked_below AreOfOneKind (λ x y l. kind_itself y) (whole_place t) f.whole g.whole h.whole;
    results = picked_below AreOfOneKind (λ x y l. kind_itself y) (result_place t) f.results g.results h.results;
    by_main = length_picked (reach_place t) f.by_main g.by_main;
    by_handler = length_picked (reach_place t) f.by_handler g.by_handler;
    levels = length_picked (reach_place t) f.levels g.levels;
    from = length_picked (reach_place t) f.from g.from;
    handler_reads = length_picked (touch_place t) f.handler_reads g.handler_reads;
    handler_writes = length_picked (touch_place t) f.handler_writes g.handler_writes;
    read_levels = length_picked (touch_place t) f.read_levels g.read_levels;
    write_levels = length_picked (touch_place t) f.write_levels g.write_levels;
    at = picked_below AreKnownAlike known_right (point_place t) f.at g.at h.at;
  }

  -- ---- each slot is that of the one or of the other

  module _ (alike : AreAlike f g) where
    abbrev Either : Slot → Type 0
    Either s = ((get s (kept t f g) ≡ get s f) × (thing_of s ≡ t)) ⊎ (get s (kept t f g) ≡ get s g)

    count_whole : length f.whole ≡ length g.whole
    count_whole = length_all_zip AreOfOneKind f.whole g.whole alike.whole

    count_results : length f.results ≡ length g.results
    count_results = length_all_zip AreOfOneKind f.results g.results alike.results

    count_at : length f.at ≡ length g.at
    count_at = length_all_zip AreKnownAlike f.at g.at alike.at

    of_list : {A : Type 0} (s : Slot) (part : Option A → Part I) (o : Option ℕ) (k : ℕ) (ys xs : List A) → length ys ≡ length xs → (o ≡ Some k → thing_of s ≡ t) →
        ((part (slice_get (picked o ys xs) k) ≡ part (slice_get ys k)) × (thing_of s ≡ t)) ⊎ (part (slice_get (picked o ys xs) k) ≡ part (slice_get xs k))
    of_list s part o k ys xs l is = elim (is_picked o k) [
      | inl e ↦ inl (ap part (picked_there o k ys xs e l), is e)
      | inr differs ↦ inr (ap part (picked_other o k ys xs differs))
    ]

    pub either_slot : (s : Slot) → Either s
    either_slot (slot.Whole k) = of_list (slot.Whole k) (λ o. Values o) (whole_place t) k f.whole g.whole count_whole (whole_is t k)
    either_slot (slot.Result k) = of_list (slot.Result k) (λ o. Values o) (result_place t) k f.results g.results count_results (result_is t k)
    either_slot (slot.ByMain k) = of_list (slot.ByMain k) (λ o. Mark (unwrap_or o false)) (reach_place t) k f.by_main g.by_main alike.by_main (reach_is t k)
    either_slot (slot.ByHandler k) = of_list (slot.ByHandler k) (λ o. Mark (unwrap_or o false)) (reach_place t) k f.by_handler g.by_handler alike.by_handler (reach_is t k)
    either_slot (slot.Levels k) = of_list (slot.Levels k) (λ o. LevelSet (unwrap_or o 0)) (reach_place t) k f.levels g.levels alike.levels (reach_is t k)
    either_slot (slot.From k) = of_list (slot.From k) (λ o. LevelSet (unwrap_or o 0)) (reach_place t) k f.from g.from alike.from (reach_is t k)
    either_slot (slot.HandlerReads k) = of_list (slot.HandlerReads k) (λ o. Mark (unwrap_or o false)) (touch_place t) k f.handler_reads g.handler_reads alike.handler_reads (touch_is t k)
    either_slot (slot.HandlerWrites k) = of_list (slot.HandlerWrites k) (λ o. Mark (unwrap_or o false)) (touch_place t) k f.handler_writes g.handler_writes alike.handler_writes (touch_is t k)
    either_slot (slot.ReadLevels k) = of_list (slot.ReadLevels k) (λ o. LevelSet (unwrap_or o 0)) (touch_place t) k f.read_levels g.read_levels alike.read_levels (touch_is t k)
    either_slot (slot.WriteLevels k) = of_list (slot.WriteLevels k) (λ o. LevelSet (unwrap_or o 0)) (touch_place t) k f.write_levels g.write_levels alike.write_levels (touch_is t k)
    either_slot (slot.Flag n) = of_list (slot.Flag n) (λ o. flags_in (option_and_then (λ (x : Option (PointFact I)). x) o)) (point_place t) n f.at g.at count_at (point_is t n)
    either_slot (slot.LocalAt n r) = of_list (slot.LocalAt n r) (λ o. Values (option_and_then (λ (x : PointFact I). local_of x r) (option_and_then (λ (x : Option (PointFact I)). x) o))) (point_place t) n f.at g.at count_at (point_is t n)
    either_slot (slot.CellAt n j) = of_list (slot.CellAt n j) (λ o. Values (option_and_then (λ (x : PointFact I). cell_of x j) (option_and_then (λ (x : Option (PointFact I)). x) o))) (point_place t) n f.at g.at count_at (point_is t n)
    either_slot (slot.Apart n r j) = of_list (slot.Apart n r j) (λ o. Mark (apart_in (option_and_then (λ (x : Option (PointFact I)). x) o) r j)) (point_place t) n f.at g.at count_at (point_is t n)

-- the thing itself is that of the lesser ones
pub kept_same : {I : Type 0} (p : Program) (t : Thing) (f g : Facts I) → AreAlike f g → IsSame p f (kept t f g) t
kept_same p (OfPoint n) f g alike = sym (ap (option_and_then (λ x. x)) (picked_there (Some n) n f.at g.at refl (length_all_zip AreKnownAlike f.at g.at alike.at)))
kept_same p (OfWhole k) f g alike = sym (picked_there (Some k) k f.whole g.whole refl (length_all_zip AreOfOneKind f.whole g.whole alike.whole))
kept_same p (OfResult k) f g alike = sym (picked_there (Some k) k f.results g.results refl (length_all_zip AreOfOneKind f.results g.results alike.results))
kept_same p (OfReach k) f g alike = record {
  by_main = sym (ap (λ o. unwrap_or o false) (picked_there (Some k) k f.by_main g.by_main refl alike.by_main));
  by_handler = sym (ap (λ o. unwrap_or o false) (picked_there (Some k) k f.by_handler g.by_handler refl alike.by_handler));
  levels = sym (ap (λ o. unwrap_or o 0) (picked_there (Some k) k f.levels g.levels refl alike.levels));
  from = sym (ap (λ o. unwrap_or o 0) (picked_there (Some k) k f.from g.from refl alike.from));
}
kept_same p (OfTouch k) f g alike = record {
  reads = sym (ap (λ o. unwrap_or o false) (picked_there (Some k) k f.handler_reads g.handler_reads refl alike.handler_reads));
  writes = sym (ap (λ o. unwrap_or o false) (picked_there (Some k) k f.handler_writes g.handler_writes refl alike.handler_writes));
  read_levels = sym (ap (λ o. unwrap_or o 0) (picked_there (Some k) k f.read_levels g.read_levels refl alike.read_levels));
  write_levels = sym (ap (λ o. unwrap_or o 0) (picked_there (Some k) k f.write_levels g.write_levels refl alike.write_levels));
}

-- ---- their shape

module _ {I : Type 0} (d : Domain I) (p : Program) (t : Thing) (f g : Facts I) (alike : AreAlike f g) (first : HaveShape d p f) (second : HaveShape d p g) where
  sets_kept : (count : ℕ) (IsType : ℕ → ValueType → Type 0) (o : Option ℕ) (ys xs : List (Abs I)) → length ys ≡ length xs → AreSets d p count (slice_get ys) IsType → AreSets d p count (slice_get xs) IsType → AreSets d p count (slice_get (picked o ys xs)) IsType
  sets_kept count IsType o ys xs l h k = record {
    there = λ n s. elim (is_picked o n) [
      | inl e ↦ let (u, y, (is, at, set)) = h.there n s in (u, y, (is, picked_there o n ys xs e l ∙ at, set))
      | inr differs ↦ let (u, y, (is, at, set)) = k.there n s in (u, y, (is, picked_other o n ys xs differs ∙ at, set))
    ];
  }

  -- marks and levels of one place
  marks_kept : (o : Option ℕ) (a a' b b' : List Bool) (x x' y y' : List ℕ) → length a ≡ length a' → length b ≡ length b' → length x ≡ length x' → length y ≡ length y' →
      ((k : ℕ) → mark_of a k ≡ false → mark_of b k ≡ false → (levels_of x k ≡ 0) × (levels_of y k ≡ 0)) → ((k : ℕ) → mark_of a' k ≡ false → mark_of b' k ≡ false → (levels_of x' k ≡ 0) × (levels_of y' k ≡ 0)) →
      (k : ℕ) → mark_of (picked o a a') k ≡ false → mark_of (picked o b b') k ≡ false → (levels_of (picked o x x') k ≡ 0) × (levels_of (picked o y y') k ≡ 0)
  marks_kept o a a' b b' x x' y y' la lb lx ly h h' k no_a no_b = elim (is_picked o k) [
    | inl e ↦
        let none = h k (sym (ap (λ o. unwrap_or o false) (picked_there o k a a' e la)) ∙ no_a) (sym (ap (λ o. unwrap_or o false) (picked_there o k b b' e lb)) ∙ no_b) in
        (ap (λ o. unwrap_or o 0) (picked_there o k x x' e lx) ∙ none.0, ap (λ o. unwrap_or o 0) (picked_there o k y y' e ly) ∙ none.1)
    | inr differs ↦
        let none = h' k (sym (ap (λ o. unwrap_or o false) (picked_other o k a a' differs)) ∙ no_a) (sym (ap (λ o. unwrap_or o false) (picked_other o k b b' differs)) ∙ no_b) in
        (ap (λ o. unwrap_or o 0) (picked_other o k x x' differs) ∙ none.0, ap (λ o. unwrap_or o 0) (picked_other o k y y' differs) ∙ none.1)
  ]

  point_kept : (n : ℕ) (fact : PointFact I) (point : Point) (func : Func) → slice_get (picked (point_place t) f.at g.at) n ≡ Some (Some fact) → slice_get (flow_of p).points n ≡ Some point → slice_get p.funcs point.func ≡ Some func → IsPointFact d p func fact
  point_kept n fact point func at numbered own = elim (is_picked (point_place t) n) [
    | inl e ↦ first.point_facts n fact point func (sym (picked_there (point_place t) n f.at g.at e (length_all_zip AreKnownAlike f.at g.at alike.at)) ∙ at) numbered own
    | inr differs ↦ second.point_facts n fact point func (sym (picked_other (point_place t) n f.at g.at differs) ∙ at) numbered own
  ]

  pub kept_shape : HaveShape d p (kept t f g)
  kept_shape = record {
    keys = second.keys;
    whole_count = length_picked (whole_place t) f.whole g.whole ∙ second.whole_count;
    whole = sets_kept (length (keys_of p)) (IsKeyType d p) (whole_place t) f.whole g.whole (length_all_zip AreOfOneKind f.whole g.whole alike.whole) first.whole second.whole;
    result_count = length_picked (result_place t) f.results g.results ∙ second.result_count;
    results = sets_kept (length p.funcs) (IsResultType d p) (result_place t) f.results g.results (length_all_zip AreOfOneKind f.results g.results alike.results) first.results second.results;
    by_main = length_picked (reach_place t) f.by_main g.by_main ∙ second.by_main;
    by_handler = length_picked (reach_place t) f.by_handler g.by_handler ∙ second.by_handler;
    levels = length_picked (reach_place t) f.levels g.levels ∙ second.levels;
    from = length_picked (reach_place t) f.from g.from ∙ second.from;
    handler_reads = length_picked (touch_place t) f.handler_reads g.handler_reads ∙ second.handler_reads;
    handler_writes = length_picked (touch_place t) f.handler_writes g.handler_writes ∙ second.handler_writes;
    read_levels = length_picked (touch_place t) f.read_levels g.read_levels ∙ second.read_levels;
    write_levels = length_picked (touch_place t) f.write_levels g.write_levels ∙ second.write_levels;
    levels_marked = marks_kept (reach_place t) f.by_main g.by_main f.by_handler g.by_handler f.levels g.levels f.from g.from alike.by_main alike.by_handler alike.levels alike.from first.levels_marked second.levels_marked;
    touches_marked =
        marks_kept (touch_place t) f.handler_reads g.handler_reads f.handler_writes g.handler_writes f.read_levels g.read_levels f.write_levels g.write_levels alike.handler_reads alike.handler_writes alike.read_levels alike.write_levels first.touches_marked second.touches_marked;
    points = length_picked (point_place t) f.at g.at ∙ second.points;
    point_facts = point_kept;
  }
