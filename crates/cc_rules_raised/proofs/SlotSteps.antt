-- Facts of a program's shape may rise by each part that fits them, and what rises by it are the least ones above them that have it.
use Rattle.std.proofs.Common.{arith, ◌≡◌, ℕ, ◌<◌, true, false, true≢false, [], ◌∷◌, length, Option, Some, None, slice_get, refl, sym, ap, subst, ◌∙◌}
use Rattle.std.specs.Prelude.{option_and_then, is_some}
use Rattle.std.proofs.lemmas.Option.{none-some, same_Some, slice_get_within}
use Rattle.cc_rules_asked.specs.CcFlow.declared.types.Point.{Point}
use Rattle.cc_rules_asked.specs.CcFlow.Points.{count_of}
use Rattle.cc_rules_asked.specs.CcPlaces.declared.abs.Abs.{Abs}
use Rattle.cc_rules_asked.specs.CcPlaces.Abstract.{AreOfOneKind}
use Rattle.cc_program.specs.declared.func.Func.{Func}
use Rattle.cc_program.specs.declared.program.Program.{Program}
use Rattle.cc_rules_asked.specs.CcRulesFlows.Nexts.{IsPoint}
use Rattle.cc_rules_grow.proofs.Elements.{all_each}
use Rattle.cc_rules_asked.proofs.CcRulesNeeds.PutLaws.{is_put_above, is_put_has, is_put_least}
use Rattle.cc_rules_asked.specs.CcRulesNeeds.declared.needs.Part.{Part}
use Rattle.cc_rules_asked.specs.CcRulesNeeds.declared.needs.Part.TheVariants.{Mark, LevelSet, Flags, Values}
use Rattle.cc_rules_asked.specs.CcRulesNeeds.declared.needs.Slot.{Slot}
use Rattle.cc_rules_asked.specs.CcRulesNeeds.declared.needs.Slot.TheVariants.{Whole, HandlerReads, HandlerWrites, ReadLevels, WriteLevels, Result, ByMain, ByHandler, Levels, From, Flag, LocalAt, CellAt, Apart}
use Rattle.cc_rules_asked.specs.CcRulesNeeds.Needs.{Needs, Has, HasAll}
use Rattle.cc_rules_asked.specs.CcRulesNeeds.Points.{ArePointsAlike, IsRaisedAt}
use Rattle.cc_rules_asked.specs.CcRulesNeeds.Raised.{MayGet, IsPut}
use Rattle.cc_rules_raised.proofs.Change.{cell_shaped, apart_shaped, known_shaped, wants_cell, wants_apart, gives_cell, gives_apart}
use Rattle.cc_rules_raised.proofs.Stepping.{IsOrdered, Serves, raised_step, raised_gives}
use Rattle.cc_rules_raised.specs.Completed.{fact_with_cell, fact_apart}
use Rattle.cc_rules_layout.specs.Raisable.{IsRaisableSlot}
use Rattle.cc_rules_raised.specs.Slots.{MayGetCell, MayPart, MayRise, IsRisen}
use Rattle.cc_rules_raised.specs.Steps.{IsStep, IsFit}
use Rattle.cc_rules_shaped.proofs.Joining.{JoinsTyped}
use Rattle.cc_rules_shaped.proofs.Putting.{may_get, is_put_shaped}
use Rattle.cc_rules_shaped.specs.Shaped.{is_at_point}
use Rattle.cc_rules_grow.specs.CcState.Shape.{IsSetIn, IsTrackedType, IsPointFact, HaveShape}
use Rattle.cc_rules_asked.specs.CcStateFacts.declared.facts.Facts.{Facts}
use Rattle.cc_rules_asked.specs.CcStateFacts.declared.facts.PointFact.{PointFact}
use Rattle.cc_rules_asked.specs.CcStateFacts.Facts.{fact_at, cell_at, cell_of}
use Rattle.cc_rules_asked.specs.CcStateKeys.Tracked.{tracked}
use Rattle.cc_rules_asked.specs.CcStateOperators.Domains.{Domain}
use Rattle.cc_state_shape.proofs.Alike.{same_kind, points_alike, one_tracked_type}
use Rattle.cc_state_shape.proofs.Functions.{function_at}
use Rattle.cc_rules_asked.specs.CcSyntax.Values.{ValueType}

pub some_of : {A : Type 0} (o : Option A) → is_some o ≡ true → (x : A) × (o ≡ Some x)
some_of None h = absurd (true≢false (sym h))
some_of (Some x) h = (x, refl)

module _ {I : Type 0} (d : Domain I) (o : IsOrdered d) (joins : JoinsTyped d) (p : Program) (f : Facts I) (shape : HaveShape d p f) where
  -- the function of a point
  pub record IsPointOfOne (n : ℕ) : Type 0 where
    pub id : ℕ
    pub func : Func
    pub point : Point
    pub is : IsPoint p n id func point

  point_one : (n : ℕ) → n < count_of p → IsPointOfOne n
  point_one n l = let (q, g, at, own) = function_at p n l in record { id = q.func; func = g; point = q; is = record { numbered = at; own = refl; function = own } }

  counted : (n : ℕ) (fact : PointFact I) → fact_at f n ≡ Some fact → n < count_of p
  counted n fact e = subst (λ (c : ℕ). n < c) shape.points (slice_get_within f.at n (Some fact) (listed (slice_get f.at n) refl e))
    where
      listed : (x : Option (Option (PointFact I))) → slice_get f.at n ≡ x → option_and_then (λ (q : Option (PointFact I)). q) x ≡ Some fact → slice_get f.at n ≡ Some (Some fact)
      listed None g h = absurd (none-some fact h)
      listed (Some x) g h = g ∙ ap Some h

  -- ---- a cell

  tracked_there : (j : ℕ) (t : ValueType) → IsTrackedType d p j t → j < length (tracked p)
  tracked_there j t (i, x, at, is, scalar) = slice_get_within (tracked p) j i at

  module _ (n j : ℕ) (y : Abs I) (t : ValueType) (is_type : IsTrackedType d p j t) (of_type : IsSetIn p d t y) (fact : PointFact I) (known : fact_at f n ≡ Some fact) where
    own : IsPointOfOne n
    own = point_one n (counted n fact known)

    of_fact : IsPointFact d p own.func fact
    of_fact = known_shaped d p f shape n own.id own.func own.point own.is fact known

    held : (u : ValueType) × (z : Abs I) × (IsTrackedType d p j u × (cell_of fact j ≡ Some z) × IsSetIn p d u z)
    held = of_fact.cells.there j (tracked_there j t is_type)

    with_shaped : IsPointFact d p own.func (fact_with_cell fact j y)
    with_shaped = cell_shaped d p fact j held.1 y held.2.1 own.func t is_type (one_tracked_type d p) of_type of_fact

    held_in : IsSetIn p d t held.1
    held_in = subst (λ (u : ValueType). IsSetIn p d u held.1) (one_tracked_type d p j held.0 t held.2.0 is_type) held.2.2

    cell_known : cell_at f n j ≡ Some held.1
    cell_known = ap (option_and_then (λ (x : PointFact I). cell_of x j)) known ∙ held.2.1

    may_cell : MayGetCell f n j y
    may_cell = record {
      there = subst (λ (c : ℕ). n < c) (sym shape.points) (counted n fact known);
      reached = ap is_some cell_known;
      kind = λ z e. subst (AreOfOneKind y) (same_Some held.1 z (sym cell_known ∙ e)) (same_kind d p t y held.1 of_type held_in);
      alike = λ x e. (let same : fact ≡ x = same_Some fact x (sym known ∙ e) in
          subst (λ (x : PointFact I). ArePointsAlike (fact_with_cell x j y) x) same (points_alike d p own.func (fact_with_cell fact j y) fact with_shaped of_fact).0);
    }

    serves_cell : Serves d o p f n (fact_with_cell fact j y) ((CellAt n j, Values (Some y)) ∷ [])
    serves_cell = record {
      id = own.id;
      func = own.func;
      point = own.point;
      is_point = own.is;
      of_flow = with_shaped;
      gives = λ g h. all_each (Has d.below g) ((CellAt n j, Values (Some y)) ∷ []) (gives_cell d g n j fact held.1 y held.2.1 h, tt);
      wants = λ h s b has. wants_cell d p f h shape s b n own.id own.func own.point own.is fact known j held.1 y held.2.1 with_shaped (first_of_all h has);
    }
      where
        first_of_all : (h : Facts I) → HasAll d.below ((CellAt n j, Values (Some y)) ∷ []) h → Has d.below h (CellAt n j, Values (Some y))
        first_of_all h has = has 0 (CellAt n j, Values (Some y)) (omega arith)

  -- ---- a pair

  module _ (n r j : ℕ) (fact : PointFact I) (known : fact_at f n ≡ Some fact) where
    own_apart : IsPointOfOne n
    own_apart = point_one n (counted n fact known)

    of_apart : IsPointFact d p own_apart.func fact
    of_apart = known_shaped d p f shape n own_apart.id own_apart.func own_apart.point own_apart.is fact known

    may_part : MayPart f n r j
    may_part = record {
      there = subst (λ (c : ℕ). n < c) (sym shape.points) (counted n fact known);
      reached = ap is_some known;
      alike = λ x e. (let same : fact ≡ x = same_Some fact x (sym known ∙ e) in
          subst (λ (x : PointFact I). ArePointsAlike (fact_apart x r j) x) same (points_alike d p own_apart.func (fact_apart fact r j) fact (apart_shaped d p own_apart.func fact r j of_apart) of_apart).0);
    }

    serves_apart : Serves d o p f n (fact_apart fact r j) ((Apart n r j, Mark true) ∷ [])
    serves_apart = record {
      id = own_apart.id;
      func = own_apart.func;
      point = own_apart.point;
      is_point = own_apart.is;
      of_flow = apart_shaped d p own_apart.func fact r j of_apart;
      gives = λ g h. all_each (Has d.below g) ((Apart n r j, Mark true) ∷ []) (gives_apart d g n r j fact h, tt);
      wants = λ h s b has. wants_apart d p f h shape s b n own_apart.id own_apart.func own_apart.point own_apart.is fact known r j (has 0 (Apart n r j, Mark true) (omega arith));
    }

  -- ---- any slot

  pub may_rise : (slot : Slot) (part : Part I) → IsFit d p slot part f → IsRaisableSlot d p f slot → MayRise slot part f
  may_rise (CellAt n j) (Values None) fit may = tt
  may_rise (CellAt n j) (Values (Some y)) fit may =
      let (t, within, is_type, of_type) = fit.fits in
      let (fact, known) = some_of (fact_at f n) may in
      may_cell n j y t is_type of_type fact known
  may_rise (CellAt n j) (Mark b) fit may = absurd fit.fits
  may_rise (CellAt n j) (LevelSet x) fit may = absurd fit.fits
  may_rise (CellAt n j) (Flags off on) fit may = absurd fit.fits
  may_rise (Apart n r j) (Mark b) fit may = let (fact, known) = some_of (fact_at f n) may in may_part n r j fact known
  may_rise (Apart n r j) (Values y) fit may = absurd fit.fits
  may_rise (Apart n r j) (LevelSet x) fit may = absurd fit.fits
  may_rise (Apart n r j) (Flags off on) fit may = absurd fit.fits
  may_rise (Flag n) part fit may = absurd may
  may_rise (LocalAt n r) part fit may = absurd may
  may_rise (Whole k) part fit may = may_get d joins p f shape (Whole k) part refl fit.fits
  may_rise (Result k) part fit may = may_get d joins p f shape (Result k) part refl fit.fits
  may_rise (HandlerReads k) part fit may = may_get d joins p f shape (HandlerReads k) part refl fit.fits
  may_rise (HandlerWrites k) part fit may = may_get d joins p f shape (HandlerWrites k) part refl fit.fits
  may_rise (ReadLevels k) part fit may = may_get d joins p f shape (ReadLevels k) part refl fit.fits
  may_rise (WriteLevels k) part fit may = may_get d joins p f shape (WriteLevels k) part refl fit.fits
  may_rise (ByMain k) part fit may = may_get d joins p f shape (ByMain k) part refl fit.fits
  may_rise (ByHandler k) part fit may = may_get d joins p f shape (ByHandler k) part refl fit.fits
  may_rise (Levels k) part fit may = may_get d joins p f shape (Levels k) part refl fit.fits
  may_rise (From k) part fit may = may_get d joins p f shape (From k) part refl fit.fits

  -- what rises so are the least facts above that have the part, and others
  pub record IsRisenStep (ns : Needs I) (g : Facts I) : Type 0 where
    pub step : IsStep d p ns f g
    pub has : HasAll d.below ns g

  put_risen : (slot : Slot) (part : Part I) (g : Facts I) → is_at_point slot ≡ false → IsFit d p slot part f → IsPut d.below slot part f g → IsRisenStep ((slot, part) ∷ []) g
  put_risen slot part g own fit put =
      let may : MayGet slot part f = may_get d joins p f shape slot part own fit.fits in
      record {
        step = record {
          shape = is_put_shaped d joins p f shape slot part g own fit.fits fit.allowed put;
          above = is_put_above d.below o.itself o.through slot part f g may put;
          least = λ h s b has. is_put_least d.below o.itself o.through slot part f g h may put b (has 0 (slot, part) (omega arith));
        };
        has = all_each (Has d.below g) ((slot, part) ∷ []) (is_put_has d.below o.itself o.through slot part f g may put, tt);
      }

  at_risen : (n : ℕ) (flow : PointFact I) (ns : Needs I) (g : Facts I) → n < length f.at → Serves d o p f n flow ns → IsRaisedAt d.below f n flow g → IsRisenStep ns g
  at_risen n flow ns g l serves raised = record { step = raised_step d o p joins f g shape n flow ns serves l raised; has = raised_gives d o p joins f g shape n flow ns serves l raised }

  pub is_risen : (slot : Slot) (part : Part I) (g : Facts I) → IsFit d p slot part f → IsRaisableSlot d p f slot → IsRisen d.below slot part f g → IsRisenStep ((slot, part) ∷ []) g
  is_risen (CellAt n j) (Values (Some y)) g fit may risen =
      let (t, within, is_type, of_type) = fit.fits in
      at_risen n (fact_with_cell risen.fact j y) ((CellAt n j, Values (Some y)) ∷ []) g (may_cell n j y t is_type of_type risen.fact risen.known).there (serves_cell n j y t is_type of_type risen.fact risen.known) risen.risen
  is_risen (CellAt n j) (Values None) g fit may risen = absurd risen
  is_risen (CellAt n j) (Mark b) g fit may risen = absurd risen
  is_risen (CellAt n j) (LevelSet x) g fit may risen = absurd risen
  is_risen (CellAt n j) (Flags off on) g fit may risen = absurd risen
  is_risen (Apart n r j) (Mark true) g fit may risen =
      at_risen n (fact_apart risen.fact r j) ((Apart n r j, Mark true) ∷ []) g (may_part n r j risen.fact risen.known).there (serves_apart n r j risen.fact risen.known) risen.risen
  is_risen (Apart n r j) (Mark false) g fit may risen = absurd risen
  is_risen (Apart n r j) (Values y) g fit may risen = absurd risen
  is_risen (Apart n r j) (LevelSet x) g fit may risen = absurd risen
  is_risen (Apart n r j) (Flags off on) g fit may risen = absurd risen
  is_risen (Flag n) part g fit may risen = absurd may
  is_risen (LocalAt n r) part g fit may risen = absurd may
  is_risen (Whole k) part g fit may risen = put_risen (Whole k) part g refl fit risen
  is_risen (Result k) part g fit may risen = put_risen (Result k) part g refl fit risen
  is_risen (HandlerReads k) part g fit may risen = put_risen (HandlerReads k) part g refl fit risen
  is_risen (HandlerWrites k) part g fit may risen = put_risen (HandlerWrites k) part g refl fit risen
  is_risen (ReadLevels k) part g fit may risen = put_risen (ReadLevels k) part g refl fit risen
  is_risen (WriteLevels k) part g fit may risen = put_risen (WriteLevels k) part g refl fit risen
  is_risen (ByMain k) part g fit may risen = put_risen (ByMain k) part g refl fit risen
  is_risen (ByHandler k) part g fit may risen = put_risen (ByHandler k) part g refl fit risen
  is_risen (Levels k) part g fit may risen = put_risen (Levels k) part g refl fit risen
  is_risen (From k) part g fit may risen = put_risen (From k) part g refl fit risen
