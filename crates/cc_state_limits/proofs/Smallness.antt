-- Facts of a program's shape have no more sets, rows and pairs than the limits allow, and few members in each that a memory holds.
use Rattle.std.proofs.Common.{arith, ◌≡◌, ℕ, ◌-◌, ◌*◌, ◌^◌, ◌<◌, ◌≤◌, List, [], ◌∷◌, All, length, get_or, sum_by, mul-le-mul, Option, Some, None, slice_get, sym, ap, subst}
use Rattle.std.specs.List.{AllByRecursion}
use Rattle.std.proofs.lemmas.Bool.{ltb-true}
use Rattle.std.proofs.lemmas.List.Elements.{recursion_from_All, All-weaker}
use Rattle.std.proofs.lemmas.List.{get_or_default}
use Rattle.std.proofs.lemmas.List.Sums.{get_or-le-sum_by}
use Rattle.std.proofs.lemmas.Option.{slice_get-get_or, slice_get_within, get_or_from_slice_get}
use Rattle.cc_state_reads.specs.CcFlow.declared.types.Point.{Point}
use Rattle.cc_state_reads.specs.CcFlow.Points.{flow_of}
use Rattle.cc_state_reads.specs.CcPlaces.declared.abs.Abs.{Abs}
use Rattle.cc_state_reads.specs.CcPlaces.declared.abs.Abs.TheVariants as abs
use Rattle.cc_program.specs.declared.func.Func.{Func}
use Rattle.cc_program.specs.declared.program.Program.{Program}
use Rattle.cc_state.specs.Covered.{IsInLimits}
use Rattle.cc_state.specs.Shape.{IsPointFact, HaveShape}
use Rattle.cc_state_reads.specs.CcStateFacts.declared.facts.Facts.{Facts}
use Rattle.cc_state_reads.specs.CcStateFacts.declared.facts.PointFact.{PointFact}
use Rattle.cc_state_reads.specs.CcStateFacts.declared.facts.Row.{Row}
use Rattle.cc_state_reads.proofs.CcStateKeys.FactCounts.{few_tracked}
use Rattle.cc_state_reads.specs.CcStateKeys.Counts.{register_count, facts_at}
use Rattle.cc_state_reads.specs.CcStateKeys.Tracked.{registers, tracked}
use Rattle.cc_state_limits.proofs.PairCounts.{IsInRange, few_pairs}
use Rattle.cc_state_limits.specs.Held.{most_members, IsHeldSet, IsHeldRow, IsHeldPoint, IsHeldKnown, AreHeld}
use Rattle.cc_state_reads.specs.CcStateOperators.Domains.{Domain}
use Rattle.cc_state_room.specs.Small.{HasFew, IsSmallRow, IsSmallPoint, IsSmallKnown, AreSmall}
use Rattle.cc_state_shape.proofs.Alike.{chunks_of, ascends}
use Rattle.cc_state_shape.proofs.Functions.{function_at}
use Rattle.cc_state_shape.proofs.Rows.{AreChunks, chunk_at}

module _ {I : Type 0} where
  -- no more rows than cells
  few_chunks : (rows : List (Row I)) (c : ℕ) → AreChunks c rows → length rows ≤ c
  few_chunks [] c h = omega arith
  few_chunks (row ∷ rows) c h = let l = few_chunks rows (c - 16) h.2 in let some : 0 < c = h.0 in omega (arith, l, some)

  has_few : (y : Abs I) → IsHeldSet y → HasFew most_members y
  has_few (abs.Ints x) h = tt
  has_few (abs.Addrs s) h = λ e. h

  all_few : (sets : List (Abs I)) → All IsHeldSet sets → All (HasFew most_members) sets
  all_few sets h = All-weaker IsHeldSet (HasFew most_members) has_few sets h

product : (a b : ℕ) → a ≤ 2 ^ 22 → b ≤ 128 → a * b ≤ 2 ^ 40
product a b h k = let m = mul-le-mul h k in omega (arith, m)

module _ {I : Type 0} (d : Domain I) (p : Program) where
  module _ (f : Func) (fact : PointFact I) (shape : IsPointFact d p f fact) (is : IsHeldPoint fact) (few_registers : length (registers f) ≤ 2 ^ 22) where
    small_row : (q : ℕ) (row : Row I) → slice_get fact.rows q ≡ Some row → IsHeldRow row → IsSmallRow most_members row
    small_row q row e h = record { short = (chunk_at fact.rows (length (tracked p)) (chunks_of d p f fact shape) q row e).0; cells = all_few row.cells h }

    in_range : AllByRecursion (IsInRange (length (registers f)) (length (tracked p))) fact.same
    in_range = recursion_from_All (IsInRange (length (registers f)) (length (tracked p))) fact.same
        (λ k e l. shape.pairs_in_range (get_or fact.same k e) (k, l, sym (get_or_default fact.same k e (get_or fact.same k e) l)))

    small_point : IsSmallPoint most_members fact
    small_point = record {
      few_locals = (let e = shape.local_count in omega (arith, e, few_registers));
      locals = all_few fact.locals is.locals;
      few_rows = (let l = few_chunks fact.rows (length (tracked p)) (chunks_of d p f fact shape) in let t = few_tracked p in omega (arith, l, t));
      rows = λ q e l. small_row q (get_or fact.rows q e) (slice_get-get_or fact.rows q e l) (is.rows q e l);
      few_pairs = (let n = few_pairs (length (registers f)) (length (tracked p)) fact.same (ascends d p fact.same shape.pairs_ascend) in_range in let m = product (length (registers f)) (length (tracked p)) few_registers (few_tracked p) in omega (arith, n, m));
    }

  module _ (facts : Facts I) (limits : IsInLimits d p facts) (shape : HaveShape d p facts) where
    few_at : (n : ℕ) (q : Point) (f : Func) → slice_get (flow_of p).points n ≡ Some q → slice_get p.funcs q.func ≡ Some f → length (registers f) ≤ 2 ^ 22
    few_at n q f numbered own =
        let l = slice_get_within (flow_of p).points n q numbered in
        let one : facts_at p q ≤ sum_by (facts_at p) (flow_of p).points = subst (λ (x : Point). facts_at p x ≤ sum_by (facts_at p) (flow_of p).points) (get_or_from_slice_get (flow_of p).points n q q numbered) (get_or-le-sum_by (facts_at p) (flow_of p).points n q l) in
        let count : register_count (slice_get p.funcs q.func) ≡ length (registers f) = ap register_count own in
        let all = limits.few_facts in
        omega (arith, one, count, all)

    small_known : (n : ℕ) (known : Option (PointFact I)) → slice_get facts.at n ≡ Some known → IsHeldKnown known → IsSmallKnown most_members known
    small_known n None e h = tt
    small_known n (Some fact) e h =
        let (q, f, numbered, own) = function_at p n (subst (λ (c : ℕ). n < c) shape.points (slice_get_within facts.at n (Some fact) e)) in
        small_point f fact (shape.point_facts n fact q f e numbered own) h (few_at n q f numbered own)

    pub facts_small : AreHeld facts → AreSmall most_members facts
    facts_small is = record {
      few_keys = (let c = shape.whole_count in let all = limits.few_facts in omega (arith, c, all));
      whole = all_few facts.whole is.whole;
      few_functions = (let c = shape.result_count in let l = ltb-true (length p.funcs) 4294967296 limits.normal.sound.few_funcs in omega (arith, c, l));
      results = all_few facts.results is.results;
      levels = is.levels.levels;
      from = is.levels.from;
      read_levels = is.levels.read_levels;
      write_levels = is.levels.write_levels;
      few_points = (let c = shape.points in let l = limits.few_points in omega (arith, c, l));
      at = λ n e l. small_known n (get_or facts.at n e) (slice_get-get_or facts.at n e l) (is.at n e l);
    }
