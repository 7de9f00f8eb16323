-- What is known at points, and the parts of the shape of facts.
use Rattle.std.proofs.Common.{arith, ◌≡◌, ◌↔◌, ◌<◌, ◌≤◌, eqb, ℕ, Bool, true, IsTrue, List, length, map, Option, Some, None, refl, ap, sym, ◌∙◌, subst, slice_get}
use Rattle.std.specs.Option.{option_map}
use Rattle.std.proofs.lemmas.Option.{same_Some, none-some, slice_get_within, slice_get-map}
use Rattle.cc_state_reads.proofs.CcFlow.Paths.{all_counted}
use Rattle.cc_state_reads.specs.CcFlow.declared.types.Flow.{Flow}
use Rattle.cc_state_reads.specs.CcFlow.declared.types.Point.{Point}
use Rattle.cc_state_reads.specs.CcFlow.Points.{count_of, flow_of}
use Rattle.cc_program.specs.declared.func.Func.{Func}
use Rattle.cc_program.specs.declared.program.Program.{Program}
use Rattle.cc_state.specs.Shape.{IsPointFact, HaveShape}
use Rattle.cc_state_reads.specs.CcStateFacts.declared.facts.Facts.{Facts}
use Rattle.cc_state_reads.specs.CcStateFacts.declared.facts.Key.{Key}
use Rattle.cc_state_reads.specs.CcStateFacts.declared.facts.PointFact.{PointFact}
use Rattle.cc_state_reads.specs.CcStateKeys.Keys.{keys_of}
use Rattle.cc_state_reads.specs.CcStateKeys.Tracked.{registers, tracked}
use Rattle.cc_state_reads.specs.CcStateOperators.Domains.{Domain}
use Rattle.cc_state_shaped.specs.Parts.{IsFlagged, HaveLocals, HaveCells, HavePairs, IsFactIn, IsFactAt, IsKnownAt, AreKnown, HaveKeySets, HaveResultSets, HavePoints, AreByFunction, AreByKey, HaveMarks}

module _ {I : Type 0} (d : Domain I) (p : Program) where
  -- ---- at one point

  -- with so many registers and cells
  abbrev pub HasAll : Func → PointFact I → ℕ → ℕ → Type 0
  HasAll f fact registers cells = (HaveLocals d p f fact × HaveCells d p fact) × (IsFlagged fact × HavePairs fact registers cells)

  point_into : (f : Func) (fact : PointFact I) → HasAll f fact (length (registers f)) (length (tracked p)) → IsPointFact d p f fact
  point_into f fact h = record { flag = h.1.0; local_count = h.0.0.0; locals = h.0.0.1; rows = h.0.1.0; cells = h.0.1.1; pairs_in_range = h.1.1.0; pairs_ascend = h.1.1.1 }

  point_from : (f : Func) (fact : PointFact I) → IsPointFact d p f fact → HasAll f fact (length (registers f)) (length (tracked p))
  point_from f fact s = (((s.local_count, s.locals), (s.rows, s.cells)), (s.flag, (s.pairs_in_range, s.pairs_ascend)))

  pub as_point : (f : Func) (fact : PointFact I) (n m : ℕ) (b : Bool) → n ≡ length (registers f) → m ≡ length (tracked p) → (IsTrue b ↔ HasAll f fact n m) → (IsTrue b ↔ IsPointFact d p f fact)
  as_point f fact n m b e i h =
      let k = subst (λ c. IsTrue b ↔ HasAll f fact (length (registers f)) c) i (subst (λ r. IsTrue b ↔ HasAll f fact r m) e h) in
      ((λ t. point_into f fact (k.0 t)), (λ s. k.1 (point_from f fact s)))

  -- in a function that is there, or is not
  pub in_none : (id : ℕ) (fact : PointFact I) → slice_get p.funcs id ≡ None → (IsTrue true ↔ IsFactIn d p id fact)
  in_none id fact e = ((λ t f k. absurd (none-some f (sym e ∙ k))), (λ h. refl))

  pub in_some : (id : ℕ) (fact : PointFact I) (f : Func) (b : Bool) → slice_get p.funcs id ≡ Some f → (IsTrue b ↔ IsPointFact d p f fact) → (IsTrue b ↔ IsFactIn d p id fact)
  in_some id fact f b e h = ((λ t g k. subst (λ (x : Func). IsPointFact d p x fact) (same_Some f g (sym e ∙ k)) (h.0 t)), (λ k. h.1 (k f e)))

  -- at a point that is there, or is not
  pub at_none : (n : ℕ) (fact : PointFact I) → slice_get (flow_of p).points n ≡ None → (IsTrue true ↔ IsFactAt d p n fact)
  at_none n fact e = ((λ t q k. absurd (none-some q (sym e ∙ k))), (λ h. refl))

  pub at_some : (n : ℕ) (fact : PointFact I) (q : Point) (b : Bool) → slice_get (flow_of p).points n ≡ Some q → (IsTrue b ↔ IsFactIn d p q.func fact) → (IsTrue b ↔ IsFactAt d p n fact)
  at_some n fact q b e h = ((λ t r k. subst (λ (x : Point). IsFactIn d p x.func fact) (same_Some q r (sym e ∙ k)) (h.0 t)), (λ k. h.1 (k q e)))

  -- ---- at all

  abbrev pub IsKnownIn : ℕ → Option (Option (PointFact I)) → Type 0
  IsKnownIn n o = (fact : PointFact I) → o ≡ Some (Some fact) → IsFactAt d p n fact

  pub known_into : (n : ℕ) (o : Option (Option (PointFact I))) (known : Option (PointFact I)) → o ≡ Some known → IsKnownAt d p n known → IsKnownIn n o
  known_into n o None e h = λ fact k. absurd (let f : None ≡ Some fact = same_Some None (Some fact) (sym e ∙ k) in none-some fact f)
  known_into n o (Some x) e h = λ fact k. subst (IsFactAt d p n) (let f : Some x ≡ Some fact = same_Some (Some x) (Some fact) (sym e ∙ k) in same_Some x fact f) h

  pub known_from : (n : ℕ) (at : List (Option (PointFact I))) (known : Option (PointFact I)) → slice_get at n ≡ Some known → AreKnown d p at → IsKnownAt d p n known
  known_from n at None e h = tt
  known_from n at (Some x) e h = λ q k f g. h n x q f e k g

  pub known_all : (count : ℕ) (at : List (Option (PointFact I))) → length at ≤ count → ((n : ℕ) → n < count → IsKnownIn n (slice_get at n)) → AreKnown d p at
  known_all count at l h n fact q f e k g = h n (let m = slice_get_within at n (Some fact) e in omega (arith, l, m)) fact e q k f g

  -- ---- facts

  -- with these keys
  abbrev pub HaveAll : Facts I → List Key → Type 0
  HaveAll facts keys = ((facts.keys ≡ keys) × (AreByFunction facts (length p.funcs) × AreByKey facts (length keys) × HaveMarks facts)) × ((HaveKeySets d p facts × HaveResultSets d p facts) × HavePoints d p facts)

  shape_into : (facts : Facts I) → HaveAll facts (keys_of p) → HaveShape d p facts
  shape_into facts h = record {
    keys = h.0.0;
    whole_count = h.1.0.0.0;
    whole = h.1.0.0.1;
    result_count = h.1.0.1.0;
    results = h.1.0.1.1;
    by_main = h.0.1.0.0;
    by_handler = h.0.1.0.1;
    levels = h.0.1.0.2;
    from = h.0.1.0.3;
    handler_reads = h.0.1.1.0;
    handler_writes = h.0.1.1.1;
    read_levels = h.0.1.1.2;
    write_levels = h.0.1.1.3;
    levels_marked = λ g a b. (h.0.1.2.0 g a b, h.0.1.2.1 g a b);
    touches_marked = λ k a b. (h.0.1.2.2 k a b, h.0.1.2.3 k a b);
    points = h.1.1.0;
    point_facts = h.1.1.1;
  }

  shape_from : (facts : Facts I) → HaveShape d p facts → HaveAll facts (keys_of p)
  shape_from facts s = (
    (
      s.keys,
      (
        (s.by_main, s.by_handler, s.levels, s.from),
        (s.handler_reads, s.handler_writes, s.read_levels, s.write_levels),
        ((λ g a b. (s.levels_marked g a b).0), (λ g a b. (s.levels_marked g a b).1), (λ k a b. (s.touches_marked k a b).0), (λ k a b. (s.touches_marked k a b).1)),
      ),
    ),
    (((s.whole_count, s.whole), (s.result_count, s.results)), (s.points, s.point_facts)),
  )

  pub as_shape : (facts : Facts I) (keys : List Key) (b : Bool) → keys ≡ keys_of p → (IsTrue b ↔ HaveAll facts keys) → (IsTrue b ↔ HaveShape d p facts)
  as_shape facts keys b e h =
      let k = subst (λ ks. IsTrue b ↔ HaveAll facts ks) e h in
      ((λ t. shape_into facts (k.0 t)), (λ s. k.1 (shape_from facts s)))

  -- as many places as points, or not so many
  pub so_many_points : (at known : List (Option (PointFact I))) (n : ℕ) (b : Bool) → known ≡ at → n ≡ count_of p → length known ≡ n → (IsTrue b ↔ AreKnown d p known) → (IsTrue b ↔ ((length at ≡ count_of p) × AreKnown d p at))
  so_many_points at known n b is e i h = subst (λ ls. IsTrue b ↔ ((length ls ≡ count_of p) × AreKnown d p ls)) is ((λ t. (i ∙ e, h.0 t)), (λ s. h.1 s.1))

  same_number : (n m : ℕ) → eqb n m ≡ true → n ≡ m
  same_number n m h = grind arith

  pub not_so_many_points : (at known : List (Option (PointFact I))) (n : ℕ) → known ≡ at → n ≡ count_of p → (length known ≡ n → ⊥) → (IsTrue (eqb (length known) n) ↔ ((length at ≡ count_of p) × AreKnown d p at))
  not_so_many_points at known n is e refuted = ((λ t. absurd (refuted (same_number (length known) n t))), (λ s. absurd (refuted (ap length is ∙ (s.0 ∙ sym e)))))

  pub points_counted : (flow : Flow) → flow ≡ flow_of p → length flow.points ≡ count_of p
  points_counted flow e = ap (λ (f : Flow). length f.points) e ∙ all_counted p

-- the registers of a function by its id
pub registers_in : (p : Program) (lists : List (List ℕ)) (id : ℕ) → lists ≡ map registers p.funcs → slice_get lists id ≡ option_map registers (slice_get p.funcs id)
registers_in p lists id e = ap (λ ls. slice_get ls id) e ∙ slice_get-map registers p.funcs id
