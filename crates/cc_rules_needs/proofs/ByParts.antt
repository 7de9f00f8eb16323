-- Facts that are below others part by part are so slot by slot, and the other way round where they are of one kind.
use Rattle.std.proofs.Common.{arith, ◌≡◌, inl, inr, ℕ, zero, suc, ◌*◌, ◌+◌, ◌<◌, ◌≤◌, Bool, true, false, true≢false, not, ◌&&◌, nat_eq, List, [], ◌∷◌, length, Option, Some, None, slice_get, refl, sym, ap, ◌∙◌}
use Rattle.std.specs.Prelude.{option_and_then, unwrap_or, IfSome}
use Rattle.std.specs.List.{AllZip}
use Rattle.std.proofs.lemmas.List.Elements.{length_all_zip}
use Rattle.std.proofs.lemmas.Map.Keys.{any_passes_from_place}
use Rattle.cc_lattice.specs.Systems.{IsRaised}
use Rattle.cc_places.specs.declared.abs.Abs.{Abs}
use Rattle.cc_places.specs.Abstract.{AreOfOneKind, IsBelowAbs}
use Rattle.cc_rules_needs.specs.Needs.{Whole, HandlerReads, HandlerWrites, ReadLevels, WriteLevels, Result, ByMain, ByHandler, Levels, From, Flag, LocalAt, CellAt, Apart, AreValuesBelow, IsBelow}
use Rattle.cc_rules_needs.specs.Points.{is_same, ArePointsAlike, IsPointBelow, IsWellFormed, AreWellFormed}
use Rattle.cc_rules_needs.proofs.AtPoint.{passes_each, all_at, some_values, values_some, rows_from, itself_true}
use Rattle.cc_rules_needs.proofs.RaisedPoints.{AreKnown, known_none, known_below}
use Rattle.cc_rules_needs.proofs.Zips.{AreSome, some_at, zip_from}
use Rattle.cc_state_facts.specs.declared.facts.Facts.{Facts}
use Rattle.cc_state_facts.specs.declared.facts.PointFact.{PointFact}
use Rattle.cc_state_facts.specs.Facts.{row_length, fact_at, has_pair, mark_of, levels_of}
use Rattle.cc_state_facts.specs.Levels.{has_level, AreLevelsWithin}
use Rattle.cc_state_facts.specs.Orders.{AreAlike, AreKnownAlike, IsKnownBelow, IsMarkBelow}
use Rattle.cc_state_facts.specs.Orders.{IsBelow as IsBelowByParts}

-- ---- marks and levels, by their places

some_marks : (x y : Option Bool) → AreSome IsMarkBelow x y → unwrap_or x false ≡ true → unwrap_or y false ≡ true
some_marks None y h e = absurd (true≢false (sym e))
some_marks (Some x) None h e = absurd h
some_marks (Some x) (Some y) h e = h e

no_level : (l : ℕ) → has_level 0 l ≡ true → ⊥
no_level l h = grind arith

some_levels : (x y : Option ℕ) → AreSome AreLevelsWithin x y → AreLevelsWithin (unwrap_or x 0) (unwrap_or y 0)
some_levels None y h l e = absurd (no_level l e)
some_levels (Some x) None h l e = absurd h
some_levels (Some x) (Some y) h l e = h l e

marks_at : (xs ys : List Bool) → AllZip IsMarkBelow xs ys → (n : ℕ) → mark_of xs n ≡ true → mark_of ys n ≡ true
marks_at xs ys h n = some_marks (slice_get xs n) (slice_get ys n) (some_at IsMarkBelow xs ys h n)

levels_at : (xs ys : List ℕ) → AllZip AreLevelsWithin xs ys → (n : ℕ) → AreLevelsWithin (levels_of xs n) (levels_of ys n)
levels_at xs ys h n = some_levels (slice_get xs n) (slice_get ys n) (some_at AreLevelsWithin xs ys h n)

marks_from : (xs ys : List Bool) → length xs ≡ length ys → ((n : ℕ) → mark_of xs n ≡ true → mark_of ys n ≡ true) → AllZip IsMarkBelow xs ys
marks_from [] [] e h = tt
marks_from [] (y ∷ ys) e h = absurd (let f : zero ≡ suc (length ys) = e in omega (arith, f))
marks_from (x ∷ xs) [] e h = absurd (let f : suc (length xs) ≡ zero = e in omega (arith, f))
marks_from (x ∷ xs) (y ∷ ys) e h = (h zero, marks_from xs ys (let f : suc (length xs) ≡ suc (length ys) = e in omega (arith, f)) (λ n. h (suc n)))

levels_from : (xs ys : List ℕ) → length xs ≡ length ys → ((n : ℕ) → AreLevelsWithin (levels_of xs n) (levels_of ys n)) → AllZip AreLevelsWithin xs ys
levels_from [] [] e h = tt
levels_from [] (y ∷ ys) e h = absurd (let f : zero ≡ suc (length ys) = e in omega (arith, f))
levels_from (x ∷ xs) [] e h = absurd (let f : suc (length xs) ≡ zero = e in omega (arith, f))
levels_from (x ∷ xs) (y ∷ ys) e h = (h zero, levels_from xs ys (let f : suc (length xs) ≡ suc (length ys) = e in omega (arith, f)) (λ n. h (suc n)))

module _ {I : Type 0} (below : I → I → Type 0) (abs_itself : (x : Abs I) → IsBelowAbs below x x) (abs_through : (x y z : Abs I) → IsBelowAbs below x y → IsBelowAbs below y z → IsBelowAbs below x z) where
  sets_at : (xs ys : List (Abs I)) → AllZip (IsBelowAbs below) xs ys → (n : ℕ) → AreValuesBelow below (slice_get xs n) (slice_get ys n)
  sets_at xs ys h n = some_values below (slice_get xs n) (slice_get ys n) (some_at (IsBelowAbs below) xs ys h n)

  sets_from : (xs ys : List (Abs I)) → AllZip AreOfOneKind xs ys → ((n : ℕ) → AreValuesBelow below (slice_get xs n) (slice_get ys n)) → AllZip (IsBelowAbs below) xs ys
  sets_from xs ys a h = zip_from (IsBelowAbs below) xs ys (length_all_zip AreOfOneKind xs ys a) (λ n l. values_some below (slice_get xs n) (slice_get ys n) (h n))

  -- ---- points

  abbrev known_of : Option (Option (PointFact I)) → Option (PointFact I)
  known_of o = option_and_then (λ (fact : Option (PointFact I)). fact) o

  known_at : (x y : Option (Option (PointFact I))) → AreSome (IsKnownBelow below) x y → AreKnown below abs_itself abs_through (known_of x) (known_of y)
  known_at None y h = known_none below abs_itself abs_through (known_of y)
  known_at (Some None) y h = known_none below abs_itself abs_through (known_of y)
  known_at (Some (Some x)) None h = absurd h
  known_at (Some (Some x)) (Some None) h = absurd h
  known_at (Some (Some x)) (Some (Some y)) h = known_below below abs_itself abs_through x y h

  module _ (x y : PointFact I) (k : AreKnown below abs_itself abs_through (Some x) (Some y)) where
    same_from : (p : ℕ × ℕ) (i : ℕ) → slice_get y.same i ≡ Some p → (b : Bool) → is_same x p ≡ b → b ≡ true
    same_from p i at true n = refl
    same_from p i at false n =
        let none : not (has_pair y p.0 p.1) ≡ true = k.apart p.0 p.1 (ap not n) in
        let one : has_pair y p.0 p.1 ≡ true = any_passes_from_place (λ pair. nat_eq pair.0 p.0 && nat_eq pair.1 p.1) y.same i p at (itself_true p.0 p.1) in
        absurd (true≢false (sym none ∙ ap not one))

    point_from : ArePointsAlike x y → IsWellFormed x → IsPointBelow below x y
    point_from a w = record {
      off = k.flag.0;
      on = k.flag.1;
      locals = sets_from x.locals y.locals a.locals k.local;
      rows = rows_from below x y a.rows (λ q row e i l. (inside i (length row.cells) l (w.within q row e), k.cell (row_length * q + i)));
      same = passes_each (is_same x) y.same (all_at (λ p. is_same x p ≡ true) y.same (λ i p at. same_from p i at (is_same x p) refl));
    }
      where
        inside : (i n : ℕ) → i < n → n ≤ 16 → i < 16
        inside i n l m = omega (arith, l, m)

  known_from : (x y : Option (Option (PointFact I))) → AreSome AreKnownAlike x y → IfSome (known_of x) IsWellFormed → AreKnown below abs_itself abs_through (known_of x) (known_of y) → AreSome (IsKnownBelow below) x y
  known_from None y a w k = tt
  known_from (Some x) None a w k = absurd a
  known_from (Some None) (Some y) a w k = tt
  known_from (Some (Some x)) (Some None) a w k = elim w.flag [ inl off ↦ absurd (true≢false (sym (k.flag.0 off))) | inr on ↦ absurd (true≢false (sym (k.flag.1 on))) ]
  known_from (Some (Some x)) (Some (Some y)) a w k = point_from x y k a.0 w

  -- ---- facts

  pub slots_below : (f g : Facts I) → IsBelowByParts below f g → IsBelow below f g
  slots_below f g h (Whole k) = sets_at f.whole g.whole h.whole k
  slots_below f g h (HandlerReads k) = marks_at f.handler_reads g.handler_reads h.handler_reads k
  slots_below f g h (HandlerWrites k) = marks_at f.handler_writes g.handler_writes h.handler_writes k
  slots_below f g h (ReadLevels k) = levels_at f.read_levels g.read_levels h.read_levels k
  slots_below f g h (WriteLevels k) = levels_at f.write_levels g.write_levels h.write_levels k
  slots_below f g h (Result n) = sets_at f.results g.results h.results n
  slots_below f g h (ByMain n) = marks_at f.by_main g.by_main h.by_main n
  slots_below f g h (ByHandler n) = marks_at f.by_handler g.by_handler h.by_handler n
  slots_below f g h (Levels n) = levels_at f.levels g.levels h.levels n
  slots_below f g h (From n) = levels_at f.from g.from h.from n
  slots_below f g h (Flag n) = (known_at (slice_get f.at n) (slice_get g.at n) (some_at (IsKnownBelow below) f.at g.at h.at n)).flag
  slots_below f g h (LocalAt n r) = (known_at (slice_get f.at n) (slice_get g.at n) (some_at (IsKnownBelow below) f.at g.at h.at n)).local r
  slots_below f g h (CellAt n j) = (known_at (slice_get f.at n) (slice_get g.at n) (some_at (IsKnownBelow below) f.at g.at h.at n)).cell j
  slots_below f g h (Apart n r j) = (known_at (slice_get f.at n) (slice_get g.at n) (some_at (IsKnownBelow below) f.at g.at h.at n)).apart r j

  known_slots : (f g : Facts I) → IsBelow below f g → (n : ℕ) → AreKnown below abs_itself abs_through (fact_at f n) (fact_at g n)
  known_slots f g h n = record { flag = h (Flag n); local = λ r. h (LocalAt n r); cell = λ j. h (CellAt n j); apart = λ r j. h (Apart n r j) }

  pub parts_below : (f g : Facts I) → AreAlike f g → AreWellFormed f → IsBelow below f g → IsBelowByParts below f g
  parts_below f g a w h = record {
    whole = sets_from f.whole g.whole a.whole (λ n. h (Whole n));
    results = sets_from f.results g.results a.results (λ n. h (Result n));
    by_main = marks_from f.by_main g.by_main a.by_main (λ n. h (ByMain n));
    by_handler = marks_from f.by_handler g.by_handler a.by_handler (λ n. h (ByHandler n));
    levels = levels_from f.levels g.levels a.levels (λ n. h (Levels n));
    from = levels_from f.from g.from a.from (λ n. h (From n));
    handler_reads = marks_from f.handler_reads g.handler_reads a.handler_reads (λ n. h (HandlerReads n));
    handler_writes = marks_from f.handler_writes g.handler_writes a.handler_writes (λ n. h (HandlerWrites n));
    read_levels = levels_from f.read_levels g.read_levels a.read_levels (λ n. h (ReadLevels n));
    write_levels = levels_from f.write_levels g.write_levels a.write_levels (λ n. h (WriteLevels n));
    at = zip_from (IsKnownBelow below) f.at g.at (length_all_zip AreKnownAlike f.at g.at a.at)
        (λ n l. known_from (slice_get f.at n) (slice_get g.at n) (some_at AreKnownAlike f.at g.at a.at n) (w n) (known_slots f g h n));
  }

  -- ---- the least facts above others

  module _ (fits : Facts I → Type 0) (asks : Facts I → Facts I → Type 0) (f g : Facts I) (alike : AreAlike f g) (first : AreWellFormed f) (second : AreWellFormed g) (each : (h : Facts I) → fits h → AreAlike f h × AreAlike g h) where
    pub raised_by_parts : IsRaised fits (IsBelow below) asks f g → IsRaised fits (IsBelowByParts below) asks f g
    raised_by_parts r = record {
      above = parts_below f g alike first r.above;
      has = r.has;
      least = λ h k b m. parts_below g h (each h k).1 second (r.least h k (slots_below f h b) m);
    }

    pub raised_by_slots : IsRaised fits (IsBelowByParts below) asks f g → IsRaised fits (IsBelow below) asks f g
    raised_by_slots r = record {
      above = slots_below f g r.above;
      has = r.has;
      least = λ h k b m. slots_below g h (r.least h k (parts_below f h (each h k).0 first b) m);
    }
