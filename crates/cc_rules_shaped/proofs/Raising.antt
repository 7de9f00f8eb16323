-- Facts in which a point rises by what is of the shape of its function keep the shape.
use Rattle.std.proofs.Common.{◌≡◌, ◌⊎◌, inl, inr, ℕ, zero, suc, ◌+◌, ◌/◌, ◌%◌, ◌<◌, Bool, true, false, ◌||◌, List, [], ◌∷◌, length, length-append, Option, Some, None, slice_get, slice_set, refl, ap, sym, ◌∙◌, subst}
use Rattle.std.specs.Prelude.{option_and_then}
use Rattle.std.specs.List.{AllPairs, Contains, flat_map}
use Rattle.std.proofs.lemmas.List.Kept.{AllPairs-filter}
use Rattle.std.proofs.lemmas.Option.{same_Some, none-some}
use Rattle.cc_rules_grow.specs.CcFlow.Points.{flow_of}
use Rattle.cc_rules_grow.specs.CcFlow.declared.types.Point.{Point}
use Rattle.cc_rules_grow.specs.CcLattice.Tables.{AreJoins}
use Rattle.cc_rules_grow.specs.CcPlaces.declared.abs.Abs.{Abs}
use Rattle.cc_program.specs.declared.func.Func.{Func}
use Rattle.cc_program.specs.declared.program.Program.{Program}
use Rattle.cc_rules_grow.specs.CcRulesFlows.Nexts.{IsPoint}
use Rattle.cc_rules_grow.proofs.CcRulesNeeds.Puts.{below_alike}
use Rattle.cc_rules_grow.specs.CcRulesNeeds.Points.{is_same, IsJoin, IsRowJoin, IsPointJoin, IsWithFlow, IsRaisedAt}
use Rattle.cc_rules_shaped.proofs.Joining.{JoinsTyped, IsLeastAbove, join_in}
use Rattle.cc_rules_shaped.proofs.Types.{one_register_type, one_tracked_type}
use Rattle.cc_rules_shaped.proofs.Putting.{set_length, with_points}
use Rattle.cc_rules_grow.proofs.CcState.Lists.{from_filter}
use Rattle.cc_rules_grow.specs.CcState.Shape.{IsSetIn, AreSets, AreRows, IsBefore, IsRegisterType, IsTrackedType, IsPointFact, HaveShape}
use Rattle.cc_rules_grow.specs.CcStateFacts.declared.facts.Facts.{Facts}
use Rattle.cc_rules_grow.specs.CcStateFacts.declared.facts.PointFact.{PointFact}
use Rattle.cc_rules_grow.specs.CcStateFacts.declared.facts.Row.{Row}
use Rattle.cc_rules_grow.specs.CcStateFacts.Facts.{row_length, fact_at, cell_of, local_of}
use Rattle.cc_rules_grow.specs.CcStateKeys.Tracked.{registers, tracked}
use Rattle.cc_rules_grow.specs.CcStateOperators.Domains.{Domain}
use Rattle.cc_rules_grow.specs.CcSyntax.Values.{ValueType}

-- ---- lists

set_cases : {A : Type 0} (xs : List A) (k : ℕ) (y : A) (n : ℕ) → ((n ≡ k) × (slice_get (slice_set xs k y) n ≡ Some y)) ⊎ (slice_get (slice_set xs k y) n ≡ slice_get xs n)
set_cases [] k y n = inr refl
set_cases (x ∷ xs) zero y zero = inl (refl, refl)
set_cases (x ∷ xs) zero y (suc n) = inr refl
set_cases (x ∷ xs) (suc k) y zero = inr refl
set_cases (x ∷ xs) (suc k) y (suc n) = elim (set_cases xs k y n) [ inl e ↦ inl (ap suc e.0, e.1) | inr e ↦ inr e ]

module _ {A : Type 0} (R : A → A → A → Type 0) where
  joins_length : (xs ys zs : List A) → AreJoins R xs ys zs → length zs ≡ length xs
  joins_length [] [] [] h = refl
  joins_length (x ∷ xs) (y ∷ ys) (z ∷ zs) h = ap suc (joins_length xs ys zs h.1)
  joins_length [] [] (z ∷ zs) h = absurd h
  joins_length [] (y ∷ ys) zs h = absurd h
  joins_length (x ∷ xs) [] zs h = absurd h
  joins_length (x ∷ xs) (y ∷ ys) [] h = absurd h

  -- what both are at a place
  joins_at : (xs ys zs : List A) → AreJoins R xs ys zs → (n : ℕ) (x : A) → slice_get xs n ≡ Some x → (y : A) × (z : A) × (slice_get ys n ≡ Some y) × (slice_get zs n ≡ Some z) × R x y z
  joins_at (a ∷ xs) (b ∷ ys) (c ∷ zs) h zero x e = (b, c, refl, refl, subst (λ (q : A). R q b c) (same_Some a x e) h.0)
  joins_at (a ∷ xs) (b ∷ ys) (c ∷ zs) h (suc n) x e = joins_at xs ys zs h.1 n x e
  joins_at [] [] [] h n x e = absurd (none-some x e)
  joins_at [] [] (z ∷ zs) h n x e = absurd h
  joins_at [] (b ∷ ys) zs h n x e = absurd h
  joins_at (a ∷ xs) [] zs h n x e = absurd h
  joins_at (a ∷ xs) (b ∷ ys) [] h n x e = absurd h

  joins_back : (xs ys zs : List A) → AreJoins R xs ys zs → (n : ℕ) (z : A) → slice_get zs n ≡ Some z → (x : A) × (y : A) × (slice_get xs n ≡ Some x) × R x y z
  joins_back (a ∷ xs) (b ∷ ys) (c ∷ zs) h zero z e = (a, b, refl, subst (λ (q : A). R a b q) (same_Some c z e) h.0)
  joins_back (a ∷ xs) (b ∷ ys) (c ∷ zs) h (suc n) z e = joins_back xs ys zs h.1 n z e
  joins_back [] [] [] h n z e = absurd (none-some z e)
  joins_back [] [] (c ∷ zs) h n z e = absurd h
  joins_back [] (b ∷ ys) zs h n z e = absurd h
  joins_back (a ∷ xs) [] zs h n z e = absurd h
  joins_back (a ∷ xs) (b ∷ ys) [] h n z e = absurd h

module _ {I : Type 0} (d : Domain I) (o : JoinsTyped d) (p : Program) where
  abbrev SetJoin : Abs I → Abs I → Abs I → Type 0
  SetJoin x y z = IsJoin d.below x y z

  least_of : (x y z : Abs I) → SetJoin x y z → IsLeastAbove d o p x y z
  least_of x y z h = record { left = h.left; right = h.right; least = λ u a b. h.least u (below_alike d.below x u a) (below_alike d.below y u b) a b }

  -- ---- rows

  row_length_same : (x y z : Row I) → IsRowJoin d.below x y z → length z.cells ≡ length x.cells
  row_length_same x y z h = joins_length SetJoin x.cells y.cells z.cells h

  cells_count : (xs ys zs : List (Row I)) → AreJoins (IsRowJoin d.below) xs ys zs → length (flat_map (λ (row : Row I). row.cells) zs) ≡ length (flat_map (λ (row : Row I). row.cells) xs)
  cells_count [] [] [] h = refl
  cells_count (x ∷ xs) (y ∷ ys) (z ∷ zs) h =
      length-append z.cells (flat_map (λ (row : Row I). row.cells) zs)
      ∙ (ap (λ (n : ℕ). n + length (flat_map (λ (row : Row I). row.cells) zs)) (row_length_same x y z h.0)
      ∙ (ap (λ (n : ℕ). length x.cells + n) (cells_count xs ys zs h.1) ∙ sym (length-append x.cells (flat_map (λ (row : Row I). row.cells) xs))))
  cells_count [] [] (z ∷ zs) h = absurd h
  cells_count [] (y ∷ ys) zs h = absurd h
  cells_count (x ∷ xs) [] zs h = absurd h
  cells_count (x ∷ xs) (y ∷ ys) [] h = absurd h

  rows_joined : (count : ℕ) (xs ys zs : List (Row I)) → AreJoins (IsRowJoin d.below) xs ys zs → AreRows d p count xs → AreRows d p count zs
  rows_joined count xs ys zs h (each, (some, full)) = (
    cells_count xs ys zs h ∙ each,
    (
      λ n row e. (let (x, y, at, j) = joins_back (IsRowJoin d.below) xs ys zs h n row e in subst (λ (c : ℕ). 0 < c) (sym (row_length_same x y row j)) (some n x at)),
      λ n row next e g.
          (let (x, y, at, j) = joins_back (IsRowJoin d.below) xs ys zs h n row e in
          let (x', y', at', j') = joins_back (IsRowJoin d.below) xs ys zs h (n + 1) next g in
          row_length_same x y row j ∙ full n x x' at at'),
    ),
  )

  -- the cell in a row
  in_row : (i : ℕ) (o : Option (Row I)) → Option (Abs I)
  in_row i o = option_and_then (λ (row : Row I). slice_get row.cells i) o

  then_there : {A B : Type 0} (f : A → Option B) (a : Option A) (w : B) → option_and_then f a ≡ Some w → (x : A) × (a ≡ Some x) × (f x ≡ Some w)
  then_there f None w h = absurd (none-some w h)
  then_there f (Some x) w h = (x, refl, h)

  cell_joined : (a b c : PointFact I) → AreJoins (IsRowJoin d.below) a.rows b.rows c.rows → (j : ℕ) (x : Abs I) → cell_of a j ≡ Some x → (y : Abs I) × (z : Abs I) × (cell_of b j ≡ Some y) × (cell_of c j ≡ Some z) × SetJoin x y z
  cell_joined a b c h j x e =
      let (row, at, there) = then_there (λ (row : Row I). slice_get row.cells (j % row_length)) (slice_get a.rows (j / row_length)) x e in
      let (row', both, at', at_both, joined) = joins_at (IsRowJoin d.below) a.rows b.rows c.rows h (j / row_length) row at in
      let (y, z, y_there, z_there, is) = joins_at SetJoin row.cells row'.cells both.cells joined (j % row_length) x there in (
        y,
        z,
        ap (option_and_then (λ (row : Row I). slice_get row.cells (j % row_length))) at' ∙ y_there,
        ap (option_and_then (λ (row : Row I). slice_get row.cells (j % row_length))) at_both ∙ z_there,
        is,
      )

  -- ---- sets, one for each

  sets_joined : (count : ℕ) (a b c : ℕ → Option (Abs I)) (IsType : ℕ → ValueType → Type 0) → ((n : ℕ) (t u : ValueType) → IsType n t → IsType n u → t ≡ u) →
      ((n : ℕ) (x : Abs I) → a n ≡ Some x → (y : Abs I) × (z : Abs I) × (b n ≡ Some y) × (c n ≡ Some z) × SetJoin x y z) → AreSets d p count a IsType → AreSets d p count b IsType → AreSets d p count c IsType
  sets_joined count a b c IsType one joined h l = record { there = there }
    where
      there : (n : ℕ) → n < count → (t : ValueType) × (z : Abs I) × (IsType n t × (c n ≡ Some z) × IsSetIn p d t z)
      there n q =
          let v = h.there n q in
          let w = l.there n q in
          let (y, z, y_there, z_there, is) = joined n v.1 v.2.1 in
          let same : w.1 ≡ y = same_Some w.1 y (sym w.2.1 ∙ y_there) in
          let of_type : IsSetIn p d v.0 y = subst (λ (t : ValueType). IsSetIn p d t y) (one n w.0 v.0 w.2.0 v.2.0) (subst (IsSetIn p d w.0) same w.2.2) in
          (v.0, z, (v.2.0, z_there, join_in d o p v.0 v.1 y z v.2.2 of_type (least_of v.1 y z is)))

  either_way : (a b u v : Bool) → (a ≡ true) ⊎ (b ≡ true) → ((a || u) ≡ true) ⊎ ((b || v) ≡ true)
  either_way true b u v h = inl refl
  either_way false true u v h = inr refl
  either_way false false u v (inl e) = inl (absurd (let k : false ≡ true = e in cc))
  either_way false false u v (inr e) = inl (absurd (let k : false ≡ true = e in cc))

  joined_shaped : (f : Func) (fact flow both : PointFact I) → IsPointFact d p f fact → IsPointFact d p f flow → IsPointJoin d.below fact flow both → IsPointFact d p f both
  joined_shaped f fact flow both h l j = record {
    flag = elim (either_way fact.off fact.on flow.off flow.on h.flag) [ inl e ↦ inl (j.off ∙ e) | inr e ↦ inr (j.on ∙ e) ];
    local_count = joins_length SetJoin fact.locals flow.locals both.locals j.locals ∙ h.local_count;
    locals = sets_joined (length (registers f)) (local_of fact) (local_of flow) (local_of both) (IsRegisterType d p f) (one_register_type d p f) (λ n x e. joins_at SetJoin fact.locals flow.locals both.locals j.locals n x e) h.locals l.locals;
    rows = rows_joined (length (tracked p)) fact.rows flow.rows both.rows j.rows h.rows;
    cells = sets_joined (length (tracked p)) (cell_of fact) (cell_of flow) (cell_of both) (IsTrackedType d p) (one_tracked_type d p) (λ n x e. cell_joined fact flow both j.rows n x e) h.cells l.cells;
    pairs_in_range = λ pair c. h.pairs_in_range pair (from_filter (is_same flow) fact.same pair (subst (λ (s : List (ℕ × ℕ)). Contains s pair) j.same c)).0;
    pairs_ascend = subst (AllPairs (IsBefore d p)) (sym j.same) (AllPairs-filter (IsBefore d p) (is_same flow) fact.same h.pairs_ascend);
  }

  with_flow : (f : Func) (known : Option (PointFact I)) (flow both : PointFact I) → ((fact : PointFact I) → known ≡ Some fact → IsPointFact d p f fact) → IsPointFact d p f flow → IsWithFlow d.below known flow both → IsPointFact d p f both
  with_flow f None flow both h l j = subst (IsPointFact d p f) (sym j) l
  with_flow f (Some fact) flow both h l j = joined_shaped f fact flow both (h fact refl) l j

  -- ---- facts

  listed : (at : List (Option (PointFact I))) (n : ℕ) (fact : PointFact I) (x : Option (Option (PointFact I))) → slice_get at n ≡ x → option_and_then (λ (q : Option (PointFact I)). q) x ≡ Some fact → slice_get at n ≡ Some (Some fact)
  listed at n fact None e h = absurd (none-some fact h)
  listed at n fact (Some x) e h = e ∙ ap Some h

  pub raised_shaped : (facts others : Facts I) → HaveShape d p facts → (n id : ℕ) (f : Func) (point : Point) (flow : PointFact I) → IsPoint p n id f point → IsPointFact d p f flow → IsRaisedAt d.below facts n flow others → HaveShape d p others
  raised_shaped facts others shape n id f point flow is_point of_flow raised =
      subst (HaveShape d p) (sym raised.is) (with_points d o p facts shape (slice_set facts.at n (Some raised.both)) (set_length facts.at n (Some raised.both) ∙ shape.points, each))
    where
      function : slice_get p.funcs point.func ≡ Some f
      function = ap (slice_get p.funcs) is_point.own ∙ is_point.function

      of_both : IsPointFact d p f raised.both
      of_both = with_flow f (fact_at facts n) flow raised.both (λ fact e. shape.point_facts n fact point f (listed facts.at n fact (slice_get facts.at n) refl e) is_point.numbered function) of_flow raised.risen

      each : (m : ℕ) (fact : PointFact I) (q : Point) (g : Func) → slice_get (slice_set facts.at n (Some raised.both)) m ≡ Some (Some fact) → slice_get (flow_of p).points m ≡ Some q → slice_get p.funcs q.func ≡ Some g → IsPointFact d p g fact
      each m fact q g e numbered its = elim (set_cases facts.at n (Some raised.both) m) [
        | inl h ↦
            let same : raised.both ≡ fact = same_Some raised.both fact (same_Some (Some raised.both) (Some fact) (sym h.1 ∙ e)) in
            let one : q ≡ point = same_Some q point (sym numbered ∙ (ap (slice_get (flow_of p).points) h.0 ∙ is_point.numbered)) in
            let one_function : f ≡ g = same_Some f g (sym function ∙ (ap (λ (x : Point). slice_get p.funcs x.func) (sym one) ∙ its)) in
            subst (λ (x : Func). IsPointFact d p x fact) one_function (subst (IsPointFact d p f) same of_both)
        | inr h ↦ shape.point_facts m fact q g (sym h ∙ e) numbered its
      ]
