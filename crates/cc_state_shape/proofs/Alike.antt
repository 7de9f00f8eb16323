-- Facts of one program's shape are of one kind: at each place there are sets of the same type.
use Rattle.std.proofs.Common.{arith, ◌≡◌, ℕ, zero, suc, ◌/◌, ◌%◌, ◌<◌, List, [], ◌∷◌, AllPairs, length, Option, Some, None, get_or, slice_get, refl, sym, ap, subst, ◌∙◌}
use Rattle.std.specs.Prelude.{option_and_then, IfSome}
use Rattle.std.specs.List.{AllByRecursion}
use Rattle.std.proofs.lemmas.List.{get_or_default}
use Rattle.std.proofs.lemmas.Option.{none-some, same_Some, slice_get_within, get_or_from_slice_get}
use Rattle.cc_state_reads.specs.CcFlow.Points.{count_of}
use Rattle.cc_state_reads.specs.CcPlaces.declared.abs.Abs.{Abs}
use Rattle.cc_state_reads.specs.CcPlaces.declared.abs.Abs.TheVariants as abs
use Rattle.cc_state_reads.specs.CcPlaces.Abstract.{AreOfOneKind}
use Rattle.cc_program.specs.declared.func.Func.{Func}
use Rattle.cc_program.specs.declared.object.Object.{Object}
use Rattle.cc_program.specs.declared.program.Program.{Program}
use Rattle.cc_program.specs.declared.types.CType.{CType}
use Rattle.cc_program.specs.declared.types.Sig.{out-Sig}
use Rattle.cc_rules_needs.proofs.Zips.{AreSome, zip_from}
use Rattle.cc_rules_needs.specs.Points.{IsFactOf, IsWellFormed, AreWellFormed}
use Rattle.cc_state.proofs.CellTypes.{one_type}
use Rattle.cc_state.specs.Shape.{IsCellType, ctype_of, IsSetIn, AreSets, IsBefore, IsRegisterType, IsTrackedType, IsKeyType, IsResultType, IsPointFact, HaveShape}
use Rattle.cc_state_reads.specs.CcStateFacts.declared.facts.Facts.{Facts}
use Rattle.cc_state_reads.specs.CcStateFacts.declared.facts.PointFact.{PointFact}
use Rattle.cc_state_reads.specs.CcStateFacts.declared.facts.Row.{Row}
use Rattle.cc_state_reads.specs.CcStateFacts.Facts.{fact_at, cell_of, local_of}
use Rattle.cc_state_reads.specs.CcStateFacts.Orders.{AreAlike, ArePointsAlike, AreOrderly, AreKnownAlike, Ascend}
use Rattle.cc_state_reads.specs.CcStateFacts.Orders as orders
use Rattle.cc_state_reads.specs.CcStateKeys.Keys.{keys_of}
use Rattle.cc_state_reads.specs.CcStateKeys.Tracked.{registers, tracked}
use Rattle.cc_state_reads.specs.CcStateOperators.Domains.{Domain}
use Rattle.cc_state_shape.proofs.Functions.{function_at}
use Rattle.cc_state_shape.proofs.Rows.{AreChunks, chunks, chunk_at, rows_alike}
use Rattle.cc_state_reads.specs.CcSyntax.Types.{Named}
use Rattle.cc_state_reads.specs.CcSyntax.Values.{ValueType, NoValue, Integer, ToObject, ToFunction, result_value, scalar_value}

pub same_kind : {I : Type 0} (d : Domain I) (p : Program) (t : ValueType) (x y : Abs I) → IsSetIn p d t x → IsSetIn p d t y → AreOfOneKind x y
same_kind d p t (abs.Ints x) (abs.Ints y) h l = tt
same_kind d p t (abs.Addrs r) (abs.Addrs s) h l = tt
same_kind d p NoValue (abs.Ints x) (abs.Addrs s) h l = absurd l
same_kind d p (Integer t) (abs.Ints x) (abs.Addrs s) h l = absurd l
same_kind d p (ToObject c v to) (abs.Ints x) (abs.Addrs s) h l = absurd h
same_kind d p (ToFunction sig) (abs.Ints x) (abs.Addrs s) h l = absurd h
same_kind d p NoValue (abs.Addrs r) (abs.Ints y) h l = absurd h
same_kind d p (Integer t) (abs.Addrs r) (abs.Ints y) h l = absurd h
same_kind d p (ToObject c v to) (abs.Addrs r) (abs.Ints y) h l = absurd l
same_kind d p (ToFunction sig) (abs.Addrs r) (abs.Ints y) h l = absurd l

-- ---- pairs

first_before : (P : ℕ × ℕ → ℕ × ℕ → Type 0) (a : ℕ × ℕ) (pairs : List (ℕ × ℕ)) → ((j : ℕ) (b : ℕ × ℕ) → slice_get pairs j ≡ Some b → P a b) → AllByRecursion (P a) pairs
first_before P a [] h = tt
first_before P a (b ∷ pairs) h = (h zero b refl, first_before P a pairs (λ j c e. h (suc j) c e))

module _ {I : Type 0} (d : Domain I) (p : Program) where
  pub ascends : (pairs : List (ℕ × ℕ)) → AllPairs (IsBefore d p) pairs → Ascend pairs
  ascends [] h = tt
  ascends (a ∷ pairs) h = (first_before orders.IsBefore a pairs (λ j b e. behind j b e), ascends pairs (λ i j c k l. h (suc i) (suc j) c (omega (arith, k)) (omega (arith, l))))
    where
      behind : (j : ℕ) (b : ℕ × ℕ) → slice_get pairs j ≡ Some b → orders.IsBefore a b
      behind j b e = subst (λ c. orders.IsBefore a c) (get_or_from_slice_get pairs j b b e) (h zero (suc j) b (omega arith) (let l = slice_get_within pairs j b e in omega (arith, l)))

  -- ---- types

  pub one_key_type : (k : ℕ) (t u : ValueType) → IsKeyType d p k t → IsKeyType d p k u → t ≡ u
  one_key_type k t u (key, c, at, is, cell) (key', c', at', is', cell') =
      let same_key : key' ≡ key = same_Some key' key (sym at' ∙ at) in
      let same : c' ≡ c = same_Some c' c (sym is' ∙ (ap (ctype_of p) same_key ∙ is)) in
      one_type c t u cell (subst (λ (x : CType). IsCellType x u) same cell')

  pub one_result_type : (g : ℕ) (t u : ValueType) → IsResultType d p g t → IsResultType d p g u → t ≡ u
  one_result_type g t u (f, there, is) (f', there', is') =
      let same : f' ≡ f = same_Some f' f (sym there' ∙ there) in
      same_Some t u (sym is ∙ (ap (λ (x : Func). result_value (out-Sig x.sig).result) (sym same) ∙ is'))

  pub one_register_type : (f : Func) (n : ℕ) (t u : ValueType) → IsRegisterType d p f n t → IsRegisterType d p f n u → t ≡ u
  one_register_type f n t u (r, l, at, is, scalar) (r', l', at', is', scalar') =
      let same : r' ≡ r = same_Some r' r (sym at' ∙ at) in
      let one : l' ≡ l = same_Some l' l (sym is' ∙ (ap (slice_get f.locals) same ∙ is)) in
      same_Some t u (sym scalar ∙ (ap (λ (x : Named). scalar_value x.1) (sym one) ∙ scalar'))

  pub one_tracked_type : (n : ℕ) (t u : ValueType) → IsTrackedType d p n t → IsTrackedType d p n u → t ≡ u
  one_tracked_type n t u (i, x, at, is, scalar) (i', x', at', is', scalar') =
      let same : i' ≡ i = same_Some i' i (sym at' ∙ at) in
      let one : x' ≡ x = same_Some x' x (sym is' ∙ (ap (slice_get p.objects) same ∙ is)) in
      same_Some t u (sym scalar ∙ (ap (λ (q : Object). scalar_value q.ctype) (sym one) ∙ scalar'))

  -- ---- sets, one for each of some things

  some_alike : (o u : Option (Abs I)) (x y : Abs I) → o ≡ Some x → u ≡ Some y → AreOfOneKind x y → AreSome AreOfOneKind o u
  some_alike o u x y e f h = subst (λ (a : Option (Abs I)). AreSome AreOfOneKind a u) (sym e) (subst (λ (b : Option (Abs I)). AreSome AreOfOneKind (Some x) b) (sym f) h)

  module _ (count : ℕ) (get other : ℕ → Option (Abs I)) (IsType : ℕ → ValueType → Type 0) (one : (n : ℕ) (t u : ValueType) → IsType n t → IsType n u → t ≡ u) (h : AreSets d p count get IsType) (k : AreSets d p count other IsType) where
    sets_alike : (n : ℕ) → n < count → AreSome AreOfOneKind (get n) (other n)
    sets_alike n l =
        let v = h.there n l in
        let w = k.there n l in
        some_alike (get n) (other n) v.1 w.1 v.2.1 w.2.1 (same_kind d p v.0 v.1 w.1 v.2.2 (subst (λ (t : ValueType). IsSetIn p d t w.1) (one n w.0 v.0 w.2.0 v.2.0) w.2.2))

  -- ---- points

  there_in : {A : Type 0} (xs : List A) (n : ℕ) (x : A) (o : Option A) → slice_get xs n ≡ o → o ≡ Some x → n < length xs
  there_in xs n x o e f = slice_get_within xs n x (e ∙ f)

  row_there : (o : Option (Row I)) (i : ℕ) (y : Abs I) → option_and_then (λ (row : Row I). slice_get row.cells i) o ≡ Some y → (row : Row I) × (o ≡ Some row)
  row_there None i y e = absurd (none-some y e)
  row_there (Some row) i y e = (row, refl)

  pub chunks_of : (f : Func) (x : PointFact I) → IsPointFact d p f x → AreChunks (length (tracked p)) x.rows
  chunks_of f x h = chunks x.rows (length (tracked p)) h.rows.0 h.rows.1.0 h.rows.1.1 within
    where
      within : (j : ℕ) → j < length (tracked p) → j / 16 < length x.rows
      within j l = let v = h.cells.there j l in let (row, e) = row_there (slice_get x.rows (j / 16)) (j % 16) v.1 v.2.1 in slice_get_within x.rows (j / 16) row e

  pub points_alike : (f : Func) (x y : PointFact I) → IsPointFact d p f x → IsPointFact d p f y → ArePointsAlike x y × AreOrderly x × AreOrderly y
  points_alike f x y h k = (
    record {
      locals = zip_from AreOfOneKind x.locals y.locals (h.local_count ∙ sym k.local_count)
          (λ n l. sets_alike (length (registers f)) (local_of x) (local_of y) (IsRegisterType d p f) (one_register_type f) h.locals k.locals n (subst (λ (c : ℕ). n < c) h.local_count l));
      rows = rows_alike x y (length (tracked p)) (chunks_of f x h) (chunks_of f y k) (sets_alike (length (tracked p)) (cell_of x) (cell_of y) (IsTrackedType d p) one_tracked_type h.cells k.cells);
    },
    ascends x.same h.pairs_ascend,
    ascends y.same k.pairs_ascend,
  )

  pub fact_of : (f : Func) (x : PointFact I) → IsPointFact d p f x → IsFactOf (length (registers f)) (length (tracked p)) x
  fact_of f x h = record {
    each = h.local_count;
    within = λ n i row e l. (let t = chunk_at x.rows (length (tracked p)) (chunks_of f x h) n row e in let short = t.0 in let inside = t.1 in (omega (arith, l, short), omega (arith, l, inside)));
    between = λ k e l. h.pairs_in_range (get_or x.same k e) (k, l, sym (get_or_default x.same k e (get_or x.same k e) l));
  }

  pub well_formed_point : (f : Func) (x : PointFact I) → IsPointFact d p f x → IsWellFormed x
  well_formed_point f x h = record { within = λ n row e. (chunk_at x.rows (length (tracked p)) (chunks_of f x h) n row e).0; flag = h.flag }

  -- ---- facts

  point_known : (facts : Facts I) → HaveShape d p facts → (n : ℕ) (x : PointFact I) → slice_get facts.at n ≡ Some (Some x) → (f : Func) × IsPointFact d p f x
  point_known facts shape n x e =
      let l : n < count_of p = subst (λ (c : ℕ). n < c) shape.points (slice_get_within facts.at n (Some x) e) in
      let (q, f, numbered, its) = function_at p n l in
      (f, shape.point_facts n x q f e numbered its)

  module _ (f g : Facts I) (shape : HaveShape d p f) (other : HaveShape d p g) where
    known_alike : (n : ℕ) → n < count_of p → (x y : Option (PointFact I)) → slice_get f.at n ≡ Some x → slice_get g.at n ≡ Some y → AreKnownAlike x y
    known_alike n l None None e h = tt
    known_alike n l None (Some y) e h = let (k, of_y) = point_known g other n y h in ascends y.same of_y.pairs_ascend
    known_alike n l (Some x) None e h = let (k, of_x) = point_known f shape n x e in ascends x.same of_x.pairs_ascend
    known_alike n l (Some x) (Some y) e h =
        let (q, k, numbered, its) = function_at p n l in
        points_alike k x y (shape.point_facts n x q k e numbered its) (other.point_facts n y q k h numbered its)

    at_alike : (n : ℕ) → n < length f.at → (x y : Option (Option (PointFact I))) → slice_get f.at n ≡ x → slice_get g.at n ≡ y → AreSome AreKnownAlike x y
    at_alike n l None y e h = tt
    at_alike n l (Some x) None e h = absurd (no_more g.at n (subst (λ (c : ℕ). n < c) (shape.points ∙ sym other.points) l) h)
      where
        no_more : {A : Type 0} (xs : List A) (i : ℕ) → i < length xs → slice_get xs i ≡ None → ⊥
        no_more [] i l h = omega (arith, l)
        no_more (x ∷ xs) zero l h = let k : Some x ≡ None = h in absurd (none-some x (sym k))
        no_more (x ∷ xs) (suc i) l h = no_more xs i (omega (arith, l)) h
    at_alike n l (Some x) (Some y) e h = known_alike n (subst (λ (c : ℕ). n < c) shape.points l) x y e h

    pub facts_alike : AreAlike f g
    facts_alike = record {
      keys = shape.keys ∙ sym other.keys;
      whole = zip_from AreOfOneKind f.whole g.whole (shape.whole_count ∙ sym other.whole_count)
          (λ n l. sets_alike (length (keys_of p)) (slice_get f.whole) (slice_get g.whole) (IsKeyType d p) one_key_type shape.whole other.whole n (subst (λ (c : ℕ). n < c) shape.whole_count l));
      results = zip_from AreOfOneKind f.results g.results (shape.result_count ∙ sym other.result_count)
          (λ n l. sets_alike (length p.funcs) (slice_get f.results) (slice_get g.results) (IsResultType d p) one_result_type shape.results other.results n (subst (λ (c : ℕ). n < c) shape.result_count l));
      by_main = shape.by_main ∙ sym other.by_main;
      by_handler = shape.by_handler ∙ sym other.by_handler;
      levels = shape.levels ∙ sym other.levels;
      from = shape.from ∙ sym other.from;
      handler_reads = shape.handler_reads ∙ sym other.handler_reads;
      handler_writes = shape.handler_writes ∙ sym other.handler_writes;
      read_levels = shape.read_levels ∙ sym other.read_levels;
      write_levels = shape.write_levels ∙ sym other.write_levels;
      at = zip_from AreKnownAlike f.at g.at (shape.points ∙ sym other.points) (λ n l. at_alike n l (slice_get f.at n) (slice_get g.at n) refl refl);
    }

  listed : (at : List (Option (PointFact I))) (n : ℕ) (x : PointFact I) (o : Option (Option (PointFact I))) → slice_get at n ≡ o → option_and_then (λ (q : Option (PointFact I)). q) o ≡ Some x → slice_get at n ≡ Some (Some x)
  listed at n x None e h = absurd (none-some x h)
  listed at n x (Some o) e h = e ∙ ap Some h

  pub well_formed : (facts : Facts I) → HaveShape d p facts → AreWellFormed facts
  well_formed facts shape n = by (fact_at facts n) refl
    where
      by : (o : Option (PointFact I)) → fact_at facts n ≡ o → IfSome o IsWellFormed
      by None e = tt
      by (Some x) e = let (f, of_x) = point_known facts shape n x (listed facts.at n x (slice_get facts.at n) refl e) in well_formed_point f x of_x
