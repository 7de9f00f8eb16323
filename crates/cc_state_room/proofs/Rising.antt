-- Facts that have risen have less room: part by part.
use Rattle.std.proofs.Common.{◌≡◌, ◌≢◌, ℕ, ◌^◌, ◌<◌, ◌≤◌, Bool, true, false, List, [], ◌∷◌, All, length, Option, Some, None, refl, sym, ap, ◌∙◌, arith}
use Rattle.std.specs.List.{AllZip}
use Rattle.std.proofs.lemmas.Nat.{le_or_l}
use Rattle.cc_places.specs.declared.abs.Abs.{Abs}
use Rattle.cc_places.specs.declared.abs.Abs.TheVariants as abs
use Rattle.cc_places.specs.Abstract.{IsBelowAbs}
use Rattle.cc_places.specs.laws.SetLaws.{room_falls}
use Rattle.cc_state_facts.proofs.LevelBits.{or_from_within}
use Rattle.cc_state_facts.specs.declared.facts.Facts.{Facts}
use Rattle.cc_state_facts.specs.declared.facts.Key.{Key}
use Rattle.cc_state_facts.specs.declared.facts.PointFact.{PointFact}
use Rattle.cc_state_facts.specs.declared.facts.Row.{Row}
use Rattle.cc_state_facts.specs.Levels.{AreLevelsWithin}
use Rattle.cc_state_facts.specs.Orders.{IsMarkBelow, AreMarksBelow, AreLevelSetsBelow, AreSetsBelow, AreRowsBelow, IsPointBelow, AreOrderly, AreKnownAlike, IsKnownBelow, AreAlike, IsBelow}
use Rattle.cc_state_room.specs.Room.{room_of_mark, room_of_marks, room_of_levels, room_of_level_sets, room_of_set, room_of_sets, room_of_row, room_of_rows, room_of_point, room_of_known, room_of_points, room_of}
use Rattle.cc_state_room.specs.Small.{IsByte, HasFew, IsSmallRow, IsSmallPoint, IsSmallKnown, AreSmall}
use Rattle.cc_state_room.proofs.Falling.{Falls, sum_of, of_pair, of_parts, of_list, zip_falls, zip_both}
use Rattle.cc_state_room.proofs.Pairs.{fewer}
use Rattle.cc_state_room.proofs.Bounds.{point_most}

-- ---- marks and levels

mark_falls : (a b : Bool) → IsMarkBelow a b → Falls room_of_mark a b
mark_falls true true h n = absurd (n refl)
mark_falls true false h n = absurd (n (sym (h refl)))
mark_falls false true h n = omega arith
mark_falls false false h n = absurd (n refl)

any_mark : (xs ys : List Bool) → AllZip IsMarkBelow xs ys → AllZip (Falls room_of_mark) xs ys
any_mark [] [] h = tt
any_mark [] (y ∷ ys) h = absurd h
any_mark (x ∷ xs) [] h = absurd h
any_mark (x ∷ xs) (y ∷ ys) h = (mark_falls x y h.0, any_mark xs ys h.1)

marks_fall : (xs ys : List Bool) → AreMarksBelow xs ys → Falls room_of_marks xs ys
marks_fall xs ys h = of_list room_of_mark xs ys (any_mark xs ys h)

levels_fall : (x y : ℕ) → AreLevelsWithin x y → IsByte y → Falls room_of_levels x y
levels_fall x y w b n =
    let e = or_from_within x y w in
    let l = le_or_l x y in
    omega (arith, e, l, b, n)

level_sets_fall : (xs ys : List ℕ) → AreLevelSetsBelow xs ys → All IsByte ys → Falls room_of_level_sets xs ys
level_sets_fall xs ys h k = of_list room_of_levels xs ys (zip_falls AreLevelsWithin IsByte room_of_levels levels_fall xs ys h k)

-- ---- sets, rows and points, over a domain

abbrev RowParts : {I : Type 0} → Row I → List (Abs I)
RowParts row = row.cells

abbrev PointParts : Type 0 → Type 0
PointParts I = (((Bool × Bool) × List (Abs I)) × List (Row I)) × List (ℕ × ℕ)

abbrev point_parts : {I : Type 0} → PointFact I → PointParts I
point_parts fact = ((((fact.off, fact.on), fact.locals), fact.rows), fact.same)

abbrev point_of : {I : Type 0} → PointParts I → PointFact I
point_of z = record { off = z.0.0.0.0; on = z.0.0.0.1; locals = z.0.0.1; rows = z.0.1; same = z.1 }

module _ {I : Type 0} (below : I → I → Type 0) (most : ℕ) (room : I → ℕ) (few : most < 2 ^ 64) (bounded : (x : I) → room x ≤ 2 ^ 70) (falls : (x y : I) → below x y → x ≢ y → room y < room x) where
  set_falls : (x y : Abs I) → IsBelowAbs below x y → HasFew most y → Falls (room_of_set most room) x y
  set_falls (abs.Ints x) (abs.Ints y) h k n = falls x y h (λ e. n (ap abs.Ints e))
  set_falls (abs.Ints x) (abs.Addrs t) h k n = absurd h
  set_falls (abs.Addrs s) (abs.Ints y) h k n = absurd h
  set_falls (abs.Addrs s) (abs.Addrs t) h k n = room_falls most s t h (λ e. n (ap abs.Addrs e)) k

  sets_fall : (xs ys : List (Abs I)) → AreSetsBelow below xs ys → All (HasFew most) ys → Falls (room_of_sets most room) xs ys
  sets_fall xs ys h k = of_list (room_of_set most room) xs ys (zip_falls (IsBelowAbs below) (HasFew most) (room_of_set most room) set_falls xs ys h k)

  row_falls : (x y : Row I) → AreRowsBelow below x y → IsSmallRow most y → Falls (room_of_row most room) x y
  row_falls x y h k = of_parts (room_of_sets most room) RowParts x y (λ e. ap (λ (cells : List (Abs I)). record { cells = cells }) e) (sets_fall x.cells y.cells h k.cells)

  rows_fall : (xs ys : List (Row I)) → AllZip (AreRowsBelow below) xs ys → All (IsSmallRow most) ys → Falls (room_of_rows most room) xs ys
  rows_fall xs ys h k = of_list (room_of_row most room) xs ys (zip_falls (AreRowsBelow below) (IsSmallRow most) (room_of_row most room) row_falls xs ys h k)

  point_falls : (x y : PointFact I) → IsPointBelow below x y → AreOrderly x → AreOrderly y → IsSmallPoint most y → Falls (room_of_point most room) x y
  point_falls x y h a b k =
      let flags = of_pair room_of_mark room_of_mark x.off y.off x.on y.on (mark_falls x.off y.off h.off) (mark_falls x.on y.on h.on) in
      let locals = of_pair (sum_of room_of_mark room_of_mark) (room_of_sets most room) (x.off, x.on) (y.off, y.on) x.locals y.locals flags (sets_fall x.locals y.locals h.locals k.locals) in
      let rows = of_pair (sum_of (sum_of room_of_mark room_of_mark) (room_of_sets most room)) (room_of_rows most room) ((x.off, x.on), x.locals) ((y.off, y.on), y.locals) x.rows y.rows locals (rows_fall x.rows y.rows h.rows k.rows) in
      let all = of_pair (sum_of (sum_of (sum_of room_of_mark room_of_mark) (room_of_sets most room)) (room_of_rows most room)) length
      (((x.off, x.on), x.locals), x.rows) (((y.off, y.on), y.locals), y.rows) x.same y.same rows (fewer x.same y.same a b h.same) in
      of_parts (sum_of (sum_of (sum_of (sum_of room_of_mark room_of_mark) (room_of_sets most room)) (room_of_rows most room)) length) point_parts x y (λ e. ap point_of e) all

  known_falls : (x y : Option (PointFact I)) → IsKnownBelow below x y × AreKnownAlike x y → IsSmallKnown most y → Falls (room_of_known most room) x y
  known_falls None None h k n = absurd (n refl)
  known_falls None (Some y) h k n = point_most most room few bounded y k
  known_falls (Some x) None h k n = absurd h.0
  known_falls (Some x) (Some y) h k n = point_falls x y h.0 h.1.1 h.1.2 k (λ e. n (ap Some e))

  points_fall : (xs ys : List (Option (PointFact I))) → AllZip (IsKnownBelow below) xs ys → AllZip AreKnownAlike xs ys → All (IsSmallKnown most) ys → Falls (room_of_points most room) xs ys
  points_fall xs ys h a k =
      let R : Option (PointFact I) → Option (PointFact I) → Type 0 = λ x y. IsKnownBelow below x y × AreKnownAlike x y in
      of_list (room_of_known most room) xs ys (zip_falls R (IsSmallKnown most) (room_of_known most room) known_falls xs ys (zip_both (IsKnownBelow below) AreKnownAlike xs ys h a) k)

-- ---- facts

abbrev FourParts : Type 0 → Type 0
FourParts A = ((A × A) × A) × A

abbrev FactsParts : Type 0 → Type 0
FactsParts I = (((List (Abs I) × List (Abs I)) × FourParts (List Bool)) × FourParts (List ℕ)) × List (Option (PointFact I))

abbrev four_sum : {A : Type 0} → (A → ℕ) → FourParts A → ℕ
four_sum r = sum_of (sum_of (sum_of r r) r) r

abbrev facts_parts : {I : Type 0} → Facts I → FactsParts I
facts_parts f = ((((f.whole, f.results), (((f.by_main, f.by_handler), f.handler_reads), f.handler_writes)), (((f.levels, f.from), f.read_levels), f.write_levels)), f.at)

abbrev facts_of : {I : Type 0} → List Key → FactsParts I → Facts I
facts_of keys z = record {
  keys = keys;
  whole = z.0.0.0.0;
  results = z.0.0.0.1;
  by_main = z.0.0.1.0.0.0;
  by_handler = z.0.0.1.0.0.1;
  levels = z.0.1.0.0.0;
  from = z.0.1.0.0.1;
  handler_reads = z.0.0.1.0.1;
  handler_writes = z.0.0.1.1;
  read_levels = z.0.1.0.1;
  write_levels = z.0.1.1;
  at = z.1;
}

facts_same : {I : Type 0} (f g : Facts I) → f.keys ≡ g.keys → facts_parts f ≡ facts_parts g → f ≡ g
facts_same f g k e = ap (λ keys. facts_of keys (facts_parts f)) k ∙ ap (λ z. facts_of g.keys z) e

four_fall : {A : Type 0} (r : A → ℕ) (a b c d a' b' c' d' : A) → Falls r a a' → Falls r b b' → Falls r c c' → Falls r d d' → Falls (four_sum r) (((a, b), c), d) (((a', b'), c'), d')
four_fall r a b c d a' b' c' d' p q s t =
    let two = of_pair r r a a' b b' p q in
    let three = of_pair (sum_of r r) r (a, b) (a', b') c c' two s in
    of_pair (sum_of (sum_of r r) r) r ((a, b), c) ((a', b'), c') d d' three t

module _ {I : Type 0} (below : I → I → Type 0) (most : ℕ) (room : I → ℕ) (few : most < 2 ^ 64) (bounded : (x : I) → room x ≤ 2 ^ 70) (falls : (x y : I) → below x y → x ≢ y → room y < room x) where
  pub facts_fall : (f g : Facts I) → AreAlike f g → AreSmall most g → IsBelow below f g → Falls (room_of most room) f g
  facts_fall f g alike small h =
      let sets : List (Abs I) → ℕ = room_of_sets most room in
      let points : List (Option (PointFact I)) → ℕ = room_of_points most room in
      let values = of_pair sets sets f.whole g.whole f.results g.results
      (sets_fall below most room few bounded falls f.whole g.whole h.whole small.whole) (sets_fall below most room few bounded falls f.results g.results h.results small.results) in
      let marks = four_fall room_of_marks f.by_main f.by_handler f.handler_reads f.handler_writes g.by_main g.by_handler g.handler_reads g.handler_writes
      (marks_fall f.by_main g.by_main h.by_main) (marks_fall f.by_handler g.by_handler h.by_handler)
      (marks_fall f.handler_reads g.handler_reads h.handler_reads) (marks_fall f.handler_writes g.handler_writes h.handler_writes) in
      let levels = four_fall room_of_level_sets f.levels f.from f.read_levels f.write_levels g.levels g.from g.read_levels g.write_levels
      (level_sets_fall f.levels g.levels h.levels small.levels) (level_sets_fall f.from g.from h.from small.from)
      (level_sets_fall f.read_levels g.read_levels h.read_levels small.read_levels) (level_sets_fall f.write_levels g.write_levels h.write_levels small.write_levels) in
      let at = points_fall below most room few bounded falls f.at g.at h.at alike.at small.at in
      let first = of_pair (sum_of sets sets) (four_sum room_of_marks) (facts_parts f).0.0.0 (facts_parts g).0.0.0 (facts_parts f).0.0.1 (facts_parts g).0.0.1 values marks in
      let second = of_pair (sum_of (sum_of sets sets) (four_sum room_of_marks)) (four_sum room_of_level_sets) (facts_parts f).0.0 (facts_parts g).0.0 (facts_parts f).0.1 (facts_parts g).0.1 first levels in
      let third = of_pair (sum_of (sum_of (sum_of sets sets) (four_sum room_of_marks)) (four_sum room_of_level_sets)) points (facts_parts f).0 (facts_parts g).0 f.at g.at second at in
      of_parts (sum_of (sum_of (sum_of (sum_of sets sets) (four_sum room_of_marks)) (four_sum room_of_level_sets)) points) facts_parts f g (facts_same f g alike.keys) third
