-- What flows to a point, with an empty set for each register of which it tells nothing, is of the shape of the point's function; and facts of the
-- shape have it where they have all that is needed of what is told.
use Rattle.std.proofs.Common.{arith, ◌≡◌, ℕ, ℤ, zero, suc, ◌+◌, ◌<◌, ◌≤◌, Bool, List, [], ◌∷◌, ◌++◌, length, length-append, drop, Option, Some, None, slice_get, refl, sym, ap, subst, ◌∙◌}
use Rattle.std.specs.Prelude.{option_and_then}
use Rattle.std.specs.List.{AllZip}
use Rattle.std.proofs.lemmas.Option.{none-some, same_Some, slice_get_within}
use Rattle.cc_rules_asked.specs.CcFlow.declared.types.Point.{Point}
use Rattle.cc_rules_asked.specs.CcPlaces.declared.abs.Abs.{Abs}
use Rattle.cc_rules_asked.specs.CcPlaces.Abstract.{IsBelowAbs}
use Rattle.cc_program.specs.declared.func.Func.{Func}
use Rattle.cc_program.specs.declared.program.Program.{Program}
use Rattle.cc_rules_asked.specs.CcRulesFlows.Nexts.{IsPoint}
use Rattle.cc_rules_asked.proofs.CcRulesNeeds.AtPoint.{not_reached}
use Rattle.cc_rules_asked.specs.CcRulesNeeds.Flowing.{of_fact, needs_at}
use Rattle.cc_rules_asked.specs.CcRulesNeeds.declared.needs.Part.{Part}
use Rattle.cc_rules_asked.specs.CcRulesNeeds.declared.needs.Part.TheVariants.{Values}
use Rattle.cc_rules_asked.specs.CcRulesNeeds.declared.needs.Slot.{Slot}
use Rattle.cc_rules_asked.specs.CcRulesNeeds.declared.needs.Slot.TheVariants.{LocalAt}
use Rattle.cc_rules_asked.specs.CcRulesNeeds.Needs.{AreValuesBelow, Has, HasAll}
use Rattle.cc_rules_asked.specs.CcRulesNeeds.Points.{HasFlow}
use Rattle.cc_rules_raised.proofs.Change.{has_flow, flow_parts, known_shaped}
use Rattle.cc_rules_raised.proofs.NeedsAt.{AreParts, all_of, parts_of}
use Rattle.cc_rules_raised.proofs.Stepping.{IsOrdered, Serves}
use Rattle.cc_rules_raised.specs.Completed.{AreKinds, IsCompleted}
use Rattle.cc_rules_layout.specs.Raisable.{IsLaidOutFor}
use Rattle.cc_rules_shaped.proofs.Fit.{register_typed}
use Rattle.cc_rules_shaped.specs.Shaped.{AreSomeIn, IsPointIn, Fits}
use Rattle.cc_rules_grow.specs.CcState.Shape.{IsSetIn, IsRegisterType, IsPointFact, HaveShape}
use Rattle.cc_rules_asked.specs.CcStateFacts.declared.facts.Facts.{Facts}
use Rattle.cc_rules_asked.specs.CcStateFacts.declared.facts.PointFact.{PointFact}
use Rattle.cc_rules_asked.specs.CcStateFacts.Facts.{fact_at, cell_of, local_of}
use Rattle.cc_rules_asked.specs.CcStateKeys.Tracked.{registers, tracked}
use Rattle.cc_rules_asked.specs.CcStateOperators.Domains.{Domain}
use Rattle.cc_rules_asked.specs.CcStateReads.Reads.{is_pointer}
use Rattle.cc_state_shape.proofs.Alike.{same_kind}
use Rattle.cc_state_shape.proofs.Lowering.{none_in, none_below}
use Rattle.cc_state_shape.specs.Empty.{IsNone}
use Rattle.cc_rules_asked.specs.CcSyntax.Values.{ValueType}

module _ {I : Type 0} (d : Domain I) (by_members : (x y : I) → ((n : ℤ) → d.has x n → d.has y n) → d.below x y) (p : Program) where
  one_function : (n id : ℕ) (f : Func) (point : Point) (g : Func) → IsPoint p n id f point → IsPointIn d p n g → g ≡ f
  one_function n id f point g h (id', point', l) =
      let one : point' ≡ point = same_Some point' point (sym l.numbered ∙ h.numbered) in
      let number : id' ≡ id = sym l.own ∙ (ap (λ (x : Point). x.func) one ∙ h.own) in
      same_Some g f (sym l.function ∙ (ap (slice_get p.funcs) number ∙ h.function))

  some_is_in : (t : ValueType) (y : Abs I) (o : Option (Abs I)) → o ≡ Some y → AreSomeIn d p t o → IsSetIn p d t y
  some_is_in t y o e h = subst (λ (x : Option (Abs I)). AreSomeIn d p t x) e h

  abbrev FitsOne : Slot × Part I → Type 0
  FitsOne need = Fits d p need.0 need.1

  module _ (n id : ℕ) (func : Func) (q : Point) (is : IsPoint p n id func q) (told made : PointFact I) (laid : IsLaidOutFor d p func told) (done : IsCompleted d p func told made)
      (fits : AreParts FitsOne n (length (registers func)) (length (tracked p)) (of_fact told)) where
    abbrev whole : PointFact I
    whole = record told { locals = made.locals }

    -- a register of which something is told, and one of which nothing is
    register_in : (r : ℕ) → r < length (registers func) → (o : Option (Abs I)) → slice_get told.locals r ≡ o → (t : ValueType) × (y : Abs I) × (IsRegisterType d p func r t × (slice_get made.locals r ≡ Some y) × IsSetIn p d t y)
    register_in r l (Some y) e =
        let (g, t, there, of_type, some) = fits.local r l in
        (t, y, (subst (λ (x : Func). IsRegisterType d p x r t) (one_function n id func q g is there) of_type, done.told r y e, some_is_in t y (slice_get told.locals r) e some))
    register_in r l None e =
        let (t, of_type) = register_typed d p func r l in
        let (y, at, none) = done.others r t e of_type in
        (t, y, (of_type, at, none_in d by_members p t y none))

    whole_shaped : IsPointFact d p func whole
    whole_shaped = record {
      flag = fits.flag.1;
      local_count = done.each;
      locals = record { there = λ r l. register_in r l (slice_get told.locals r) refl };
      rows = laid.rows;
      cells = record {
        there = λ j l.
            (let (t, within, of_type, some) = fits.cell j l in
            let (y, at) = laid.cells j l in
            (t, y, (of_type, at, some_is_in t y (cell_of told j) at some)));
      };
      pairs_in_range = laid.pairs_in_range;
      pairs_ascend = laid.pairs_ascend;
    }

    pub completed_shaped : IsPointFact d p func made
    completed_shaped = subst (IsPointFact d p func) (sym done.is) whole_shaped

    -- facts that have what is told have all of it
    module _ (h : Facts I) (shape : HaveShape d p h) (x : PointFact I) (e : fact_at h n ≡ Some x) (parts : AreParts (Has d.below h) n (length (registers func)) (length (tracked p)) (of_fact told)) where
      local_has : (r : ℕ) → r < length (registers func) → (o : Option (Abs I)) → slice_get told.locals r ≡ o → Has d.below h (LocalAt n r, Values (slice_get made.locals r))
      local_has r l (Some y) k =
          let part : Has d.below h (LocalAt n r, Values (slice_get told.locals r)) = parts.local r l in
          subst (λ (o : Option (Abs I)). Has d.below h (LocalAt n r, Values o)) (sym (done.told r y k)) (subst (λ (o : Option (Abs I)). Has d.below h (LocalAt n r, Values o)) k part)
      local_has r l None k =
          let of_x = known_shaped d p h shape n id func q is x e in
          let w = of_x.locals.there r l in
          let (y, at, none) = done.others r w.0 k w.2.0 in
          let below : IsBelowAbs d.below y w.1 = none_below d by_members p (is_pointer w.0) y w.1 none (same_kind d p w.0 y w.1 (none_in d by_members p w.0 y none) w.2.2) in
          let held : AreValuesBelow d.below (Some y) (local_of x r) = subst (λ (o : Option (Abs I)). AreValuesBelow d.below (Some y) o) (sym w.2.1) below in
          subst (λ (o : Option (Abs I)). Has d.below h (LocalAt n r, Values o)) (sym at)
          (subst (λ (o : Option (PointFact I)). AreValuesBelow d.below (Some y) (option_and_then (λ fact. local_of fact r) o)) (sym e) held)

      whole_parts : AreParts (Has d.below h) n (length (registers func)) (length (tracked p)) (of_fact whole)
      whole_parts = record {
        flag = parts.flag;
        local = λ r l. local_has r l (slice_get told.locals r) refl;
        cell = parts.cell;
        apart = parts.apart;
      }

      wants : HasFlow d.below made (fact_at h n)
      wants = subst (λ (m : PointFact I). HasFlow d.below m (fact_at h n)) (sym done.is) (has_flow d p h shape n id func q is whole x e whole_shaped whole_parts)

    told_has : (g : Facts I) → AreParts (Has d.below g) n (length (registers func)) (length (tracked p)) (of_fact whole) → (r : ℕ) → r < length (registers func) → (o : Option (Abs I)) → slice_get told.locals r ≡ o → Has d.below g (LocalAt n r, Values (slice_get told.locals r))
    told_has g parts r l None k = subst (λ (o : Option (Abs I)). Has d.below g (LocalAt n r, Values o)) (sym k) tt
    told_has g parts r l (Some y) k =
        let part : Has d.below g (LocalAt n r, Values (slice_get made.locals r)) = parts.local r l in
        subst (λ (o : Option (Abs I)). Has d.below g (LocalAt n r, Values o)) (sym k) (subst (λ (o : Option (Abs I)). Has d.below g (LocalAt n r, Values o)) (done.told r y k) part)

    abbrev ns : List (Slot × Part I)
    ns = needs_at n (length (registers func)) (length (tracked p)) (of_fact told)

    gives : (g : Facts I) → HasFlow d.below made (fact_at g n) → HasAll d.below ns g
    gives g h =
        let parts : AreParts (Has d.below g) n (length (registers func)) (length (tracked p)) (of_fact whole) = flow_parts d g n (length (registers func)) (length (tracked p)) whole (subst (λ (m : PointFact I). HasFlow d.below m (fact_at g n)) done.is h) in
        all_of (Has d.below g) n (length (registers func)) (length (tracked p)) (of_fact told) (record {
          flag = parts.flag;
          local = λ r l. told_has g parts r l (slice_get told.locals r) refl;
          cell = parts.cell;
          apart = parts.apart;
        })

    wanted : (h : Facts I) → HaveShape d p h → HasAll d.below ns h → (o : Option (PointFact I)) → fact_at h n ≡ o → HasFlow d.below made (fact_at h n)
    wanted h shape has None e = absurd (not_reached d.below h n (length (registers func)) (length (tracked p)) told e fits.flag.1 has)
    wanted h shape has (Some x) e = wants h shape x e (parts_of (Has d.below h) n (length (registers func)) (length (tracked p)) (of_fact told) has)

    pub completed_serves : (o : IsOrdered d) (f : Facts I) → Serves d o p f n made ns
    completed_serves o f = record {
      id = id;
      func = func;
      point = q;
      is_point = is;
      of_flow = completed_shaped;
      gives = gives;
      wants = λ h shape b has. wanted h shape has (fact_at h n) refl;
    }

-- what tells of all registers is complete
pub complete_itself : {I : Type 0} (d : Domain I) (p : Program) (f : Func) (told : PointFact I) → length told.locals ≡ length (registers f) → IsCompleted d p f told told
complete_itself d p f told e = record {
  is = refl;
  each = e;
  told = λ r y k. k;
  others = λ r t k (i, l, at, is, scalar). absurd (past told.locals r (subst (λ (c : ℕ). r < c) (sym e) (slice_get_within (registers f) r i at)) k);
}
  where
    past : {A : Type 0} (xs : List A) (r : ℕ) → r < length xs → slice_get xs r ≡ None → ⊥
    past [] r l k = omega (arith, l)
    past (x ∷ xs) zero l k = let h : Some x ≡ None = k in absurd (none-some x (sym h))
    past (x ∷ xs) (suc r) l k = past xs r (omega (arith, l)) k

-- ---- the empty sets behind what is told

module _ {I : Type 0} (d : Domain I) (p : Program) where
  front_there : {A : Type 0} (xs ys : List A) (r : ℕ) (y : A) → slice_get xs r ≡ Some y → slice_get (xs ++ ys) r ≡ Some y
  front_there [] ys r y e = absurd (none-some y e)
  front_there (x ∷ xs) ys zero y e = e
  front_there (x ∷ xs) ys (suc r) y e = front_there xs ys r y e

  behind_there : (kinds : List Bool) (xs nones : List (Abs I)) → AllZip (IsNone d.has) (drop (length xs) kinds) nones → (r : ℕ) (b : Bool) → slice_get xs r ≡ None → slice_get kinds r ≡ Some b → (y : Abs I) × (slice_get (xs ++ nones) r ≡ Some y) × IsNone d.has b y
  behind_there kinds [] nones h r b e k = at kinds nones h r k
    where
      at : (kinds : List Bool) (nones : List (Abs I)) → AllZip (IsNone d.has) kinds nones → (r : ℕ) → slice_get kinds r ≡ Some b → (y : Abs I) × (slice_get nones r ≡ Some y) × IsNone d.has b y
      at [] nones h r k = absurd (none-some b k)
      at (c ∷ kinds) [] h r k = absurd h
      at (c ∷ kinds) (y ∷ nones) h zero k = (y, refl, subst (λ (a : Bool). IsNone d.has a y) (same_Some c b k) h.0)
      at (c ∷ kinds) (y ∷ nones) h (suc r) k = at kinds nones h.1 r k
  behind_there [] (x ∷ xs) nones h r b e k = absurd (none-some b k)
  behind_there (c ∷ kinds) (x ∷ xs) nones h zero b e k = let g : Some x ≡ None = e in absurd (none-some x (sym g))
  behind_there (c ∷ kinds) (x ∷ xs) nones h (suc r) b e k = behind_there kinds xs nones h r b e k

  zip_length : {A B : Type 0} (R : A → B → Type 0) (xs : List A) (ys : List B) → AllZip R xs ys → length xs ≡ length ys
  zip_length R [] [] h = refl
  zip_length R [] (y ∷ ys) h = absurd h
  zip_length R (x ∷ xs) [] h = absurd h
  zip_length R (x ∷ xs) (y ∷ ys) h = ap suc (zip_length R xs ys h.1)

  drop_length : {A : Type 0} (xs : List A) (n : ℕ) → n ≤ length xs → n + length (drop n xs) ≡ length xs
  drop_length xs zero l = omega arith
  drop_length [] (suc n) l = absurd (omega (arith, l))
  drop_length (x ∷ xs) (suc n) l = let e = drop_length xs n (omega (arith, l)) in omega (arith, e)

  pub completed_by : (f : Func) (told made : PointFact I) (kinds : List Bool) (nones : List (Abs I)) → AreKinds d p f kinds → length told.locals ≤ length (registers f) → AllZip (IsNone d.has) (drop (length told.locals) kinds) nones →
      made ≡ record told { locals = told.locals ++ nones } → IsCompleted d p f told made
  completed_by f told made kinds nones are few zip is =
      let locals : made.locals ≡ told.locals ++ nones = ap (λ (m : PointFact I). m.locals) is in
      record {
        is = is ∙ ap (λ (sets : List (Abs I)). record told { locals = sets }) (sym locals);
        each =
            (let a = zip_length (IsNone d.has) (drop (length told.locals) kinds) nones zip in
            let b = drop_length kinds (length told.locals) (subst (λ (c : ℕ). length told.locals ≤ c) (sym are.each) few) in
            let c = are.each in
            let e = length-append told.locals nones in
            let l = ap length locals in
            omega (arith, a, b, c, e, l));
        told = λ r y e. ap (λ sets. slice_get sets r) locals ∙ front_there told.locals nones r y e;
        others = λ r t e of_type.
            (let (y, at, none) = behind_there kinds told.locals nones zip r (is_pointer t) e (are.kind r t of_type) in
            (y, ap (λ sets. slice_get sets r) locals ∙ at, none));
      }
