-- Facts are ordered, since their parts are: each law of facts from that of the parts.
use Rattle.std.specs.Prelude.{◌≡◌, ℕ, Bool, true, false, List, Option, Some, None, refl}
use Rattle.std.specs.List.{AllZip}
use Rattle.std.specs.Int.{bit_at}
use Rattle.std.proofs.Common.{arith, ap, sym, subst, ◌∙◌, nat_eq, ◌<◌}
use Rattle.std.proofs.lemmas.Nat.Bits.{same_from_bits}
use Rattle.cc_places.specs.declared.abs.Abs.{Abs}
use Rattle.cc_places.specs.declared.abs.Abs.TheVariants as abs
use Rattle.cc_places.specs.Abstract.{AreOfOneKind, IsBelowAbs}
use Rattle.cc_places.specs.laws.AbstractLaws.{kind_back, abs_itself, abs_through, abs_same}
use Rattle.cc_state_facts.specs.declared.facts.Facts.{Facts}
use Rattle.cc_state_facts.specs.declared.facts.Key.{Key}
use Rattle.cc_state_facts.specs.declared.facts.PointFact.{PointFact}
use Rattle.cc_state_facts.specs.declared.facts.Row.{Row}
use Rattle.cc_state_facts.specs.Levels.{AreLevelsWithin}
use Rattle.cc_state_facts.specs.Orders.{IsMarkBelow, AreOrderly, AreRowsAlike, ArePointsAlike, AreKnownAlike, AreAlike, AreRowsBelow, IsKnownBelow, IsBelow}
use Rattle.cc_state_facts.specs.laws.Pairs.{itself, through, pairs_same}
use Rattle.cc_state_facts.specs.laws.Places.{zip_itself, zip_left, zip_back, zip_through, zip_same}

-- ---- of one kind

pub kind_itself : {I : Type 0} (x : Abs I) → AreOfOneKind x x
kind_itself (abs.Ints x) = tt
kind_itself (abs.Addrs s) = tt

module _ {I : Type 0} where
  row_itself : (x : Row I) → AreRowsAlike x x
  row_itself x = zip_itself AreOfOneKind kind_itself x.cells

  pub point_itself : (x : PointFact I) → AreOrderly x → ArePointsAlike x x × AreOrderly x × AreOrderly x
  point_itself x h = (record { locals = zip_itself AreOfOneKind kind_itself x.locals; rows = zip_itself AreRowsAlike row_itself x.rows }, h, h)

  known_itself : (x y : Option (PointFact I)) → AreKnownAlike x y → AreKnownAlike x x
  known_itself None y h = tt
  known_itself (Some x) None h = point_itself x h
  known_itself (Some x) (Some y) h = point_itself x h.1

  pub row_back : (x y : Row I) → AreRowsAlike x y → AreRowsAlike y x
  row_back x y h = zip_back AreOfOneKind AreOfOneKind kind_back x.cells y.cells h

  pub point_back : (x y : PointFact I) → ArePointsAlike x y → ArePointsAlike y x
  point_back x y h = record { locals = zip_back AreOfOneKind AreOfOneKind kind_back x.locals y.locals h.locals; rows = zip_back AreRowsAlike AreRowsAlike row_back x.rows y.rows h.rows }

  known_back : (x y : Option (PointFact I)) → AreKnownAlike x y → AreKnownAlike y x
  known_back None None h = tt
  known_back None (Some y) h = h
  known_back (Some x) None h = h
  known_back (Some x) (Some y) h = (point_back x y h.0, h.2, h.1)

  pub alike_with_itself : (x y : Facts I) → AreAlike x y → AreAlike x x
  alike_with_itself x y h = record {
    keys = refl;
    whole = zip_itself AreOfOneKind kind_itself x.whole;
    results = zip_itself AreOfOneKind kind_itself x.results;
    by_main = refl;
    by_handler = refl;
    levels = refl;
    from = refl;
    handler_reads = refl;
    handler_writes = refl;
    read_levels = refl;
    write_levels = refl;
    at = zip_left AreKnownAlike AreKnownAlike known_itself x.at y.at h.at;
  }

  pub alike_both_ways : (x y : Facts I) → AreAlike x y → AreAlike y x
  alike_both_ways x y h = record {
    keys = sym h.keys;
    whole = zip_back AreOfOneKind AreOfOneKind kind_back x.whole y.whole h.whole;
    results = zip_back AreOfOneKind AreOfOneKind kind_back x.results y.results h.results;
    by_main = sym h.by_main;
    by_handler = sym h.by_handler;
    levels = sym h.levels;
    from = sym h.from;
    handler_reads = sym h.handler_reads;
    handler_writes = sym h.handler_writes;
    read_levels = sym h.read_levels;
    write_levels = sym h.write_levels;
    at = zip_back AreKnownAlike AreKnownAlike known_back x.at y.at h.at;
  }

-- ---- marks and levels

mark_itself : (a : Bool) → IsMarkBelow a a
mark_itself a h = h

mark_through : (a b c : Bool) → IsMarkBelow a b → IsMarkBelow b c → IsMarkBelow a c
mark_through a b c f g h = g (f h)

mark_same : (a b : Bool) → IsMarkBelow a b → IsMarkBelow b a → a ≡ b
mark_same true b f g = sym (f refl)
mark_same false true f g = g refl
mark_same false false f g = refl

levels_itself : (x : ℕ) → AreLevelsWithin x x
levels_itself x l h = h

levels_through : (x y z : ℕ) → AreLevelsWithin x y → AreLevelsWithin y z → AreLevelsWithin x z
levels_through x y z f g l h = g l (f l h)

one_of : (p : ℕ) → nat_eq p 1 ≡ true → p ≡ 1
one_of p h = grind arith

of_one : (p : ℕ) → p ≡ 1 → nat_eq p 1 ≡ true
of_one p e = subst (λ n. nat_eq n 1 ≡ true) (sym e) refl

bits_same : (p q : ℕ) → p < 2 → q < 2 → (p ≡ 1 → q ≡ 1) → (q ≡ 1 → p ≡ 1) → p ≡ q
bits_same p q kp kq f g = grind (arith, f, g)

bit_below : (n i : ℕ) → bit_at n i < 2
bit_below n i = omega arith

levels_same : (x y : ℕ) → AreLevelsWithin x y → AreLevelsWithin y x → x ≡ y
levels_same x y f g = same_from_bits x y (λ i. bits_same (bit_at x i) (bit_at y i) (bit_below x i) (bit_below y i) (λ e. one_of (bit_at y i) (f i (of_one (bit_at x i) e))) (λ e. one_of (bit_at x i) (g i (of_one (bit_at y i) e))))

-- ---- from their parts

abbrev row_of : {I : Type 0} → List (Abs I) → Row I
row_of cells = record { cells = cells }

abbrev point_of : {I : Type 0} → Bool → Bool → List (Abs I) → List (Row I) → List (ℕ × ℕ) → PointFact I
point_of off on locals rows same = record { off = off; on = on; locals = locals; rows = rows; same = same }

five : {A B C D E F : Type 0} (make : A → B → C → D → E → F) {a a' : A} {b b' : B} {c c' : C} {d d' : D} {e e' : E} → a ≡ a' → b ≡ b' → c ≡ c' → d ≡ d' → e ≡ e' → make a b c d e ≡ make a' b' c' d' e'
five make {a' = a'} {b = b} {b' = b'} {c = c} {c' = c'} {d = d} {d' = d'} {e = e} p q r s t =
    ap (λ x. make x b c d e) p ∙ ap (λ x. make a' x c d e) q ∙ ap (λ x. make a' b' x d e) r ∙ ap (λ x. make a' b' c' x e) s ∙ ap (λ x. make a' b' c' d' x) t

-- facts with other marks and levels, and with other sets and points
abbrev with_marks : {I : Type 0} → Facts I → List Bool → List Bool → List Bool → List Bool → List Key → Facts I
with_marks x a b c d keys = record x { by_main = a; by_handler = b; handler_reads = c; handler_writes = d; keys = keys }

abbrev with_levels : {I : Type 0} → Facts I → List ℕ → List ℕ → List ℕ → List ℕ → Facts I
with_levels x a b c d = record x { levels = a; from = b; read_levels = c; write_levels = d }

abbrev with_sets : {I : Type 0} → Facts I → List (Abs I) → List (Abs I) → List (Option (PointFact I)) → Facts I
with_sets x a b c = record x { whole = a; results = b; at = c }

-- ---- facts, over a domain

module _ {I : Type 0} (alike below : I → I → Type 0) where
  module _ (self : (x : Abs I) → IsBelowAbs below x x) where
    row_below_itself : (x : Row I) → AreRowsBelow below x x
    row_below_itself x = zip_itself (IsBelowAbs below) self x.cells

    pub known_below_itself : (x : Option (PointFact I)) → IsKnownBelow below x x
    known_below_itself None = tt
    known_below_itself (Some x) = record { off = λ h. h; on = λ h. h; locals = zip_itself (IsBelowAbs below) self x.locals; rows = zip_itself (AreRowsBelow below) row_below_itself x.rows; same = itself x.same }

    facts_itself : (x : Facts I) → IsBelow below x x
    facts_itself x = record {
      whole = zip_itself (IsBelowAbs below) self x.whole;
      results = zip_itself (IsBelowAbs below) self x.results;
      by_main = zip_itself IsMarkBelow mark_itself x.by_main;
      by_handler = zip_itself IsMarkBelow mark_itself x.by_handler;
      levels = zip_itself AreLevelsWithin levels_itself x.levels;
      from = zip_itself AreLevelsWithin levels_itself x.from;
      handler_reads = zip_itself IsMarkBelow mark_itself x.handler_reads;
      handler_writes = zip_itself IsMarkBelow mark_itself x.handler_writes;
      read_levels = zip_itself AreLevelsWithin levels_itself x.read_levels;
      write_levels = zip_itself AreLevelsWithin levels_itself x.write_levels;
      at = zip_itself (IsKnownBelow below) known_below_itself x.at;
    }

  module _ (each : (x y z : Abs I) → IsBelowAbs below x y → IsBelowAbs below y z → IsBelowAbs below x z) where
    row_below_through : (x y z : Row I) → AreRowsBelow below x y → AreRowsBelow below y z → AreRowsBelow below x z
    row_below_through x y z h k = zip_through (IsBelowAbs below) each x.cells y.cells z.cells h k

    known_below_through : (x y z : Option (PointFact I)) → IsKnownBelow below x y → IsKnownBelow below y z → IsKnownBelow below x z
    known_below_through None y z h k = tt
    known_below_through (Some x) None z h k = absurd h
    known_below_through (Some x) (Some y) None h k = absurd k
    known_below_through (Some x) (Some y) (Some z) h k = record {
      off = λ e. k.off (h.off e);
      on = λ e. k.on (h.on e);
      locals = zip_through (IsBelowAbs below) each x.locals y.locals z.locals h.locals k.locals;
      rows = zip_through (AreRowsBelow below) row_below_through x.rows y.rows z.rows h.rows k.rows;
      same = through x.same y.same z.same h.same k.same;
    }

    facts_through : (x y z : Facts I) → IsBelow below x y → IsBelow below y z → IsBelow below x z
    facts_through x y z h k = record {
      whole = zip_through (IsBelowAbs below) each x.whole y.whole z.whole h.whole k.whole;
      results = zip_through (IsBelowAbs below) each x.results y.results z.results h.results k.results;
      by_main = zip_through IsMarkBelow mark_through x.by_main y.by_main z.by_main h.by_main k.by_main;
      by_handler = zip_through IsMarkBelow mark_through x.by_handler y.by_handler z.by_handler h.by_handler k.by_handler;
      levels = zip_through AreLevelsWithin levels_through x.levels y.levels z.levels h.levels k.levels;
      from = zip_through AreLevelsWithin levels_through x.from y.from z.from h.from k.from;
      handler_reads = zip_through IsMarkBelow mark_through x.handler_reads y.handler_reads z.handler_reads h.handler_reads k.handler_reads;
      handler_writes = zip_through IsMarkBelow mark_through x.handler_writes y.handler_writes z.handler_writes h.handler_writes k.handler_writes;
      read_levels = zip_through AreLevelsWithin levels_through x.read_levels y.read_levels z.read_levels h.read_levels k.read_levels;
      write_levels = zip_through AreLevelsWithin levels_through x.write_levels y.write_levels z.write_levels h.write_levels k.write_levels;
      at = zip_through (IsKnownBelow below) known_below_through x.at y.at z.at h.at k.at;
    }

  module _ (each : (x y : Abs I) → IsBelowAbs below x y → IsBelowAbs below y x → x ≡ y) where
    set_same : (x y : Abs I) → AreOfOneKind x y → IsBelowAbs below x y → IsBelowAbs below y x → x ≡ y
    set_same x y h a b = each x y a b

    row_same : (x y : Row I) → AreRowsAlike x y → AreRowsBelow below x y → AreRowsBelow below y x → x ≡ y
    row_same x y h a b = ap row_of (zip_same AreOfOneKind (IsBelowAbs below) set_same x.cells y.cells h a b)

    known_same : (x y : Option (PointFact I)) → AreKnownAlike x y → IsKnownBelow below x y → IsKnownBelow below y x → x ≡ y
    known_same None None h a b = refl
    known_same None (Some y) h a b = absurd b
    known_same (Some x) None h a b = absurd a
    known_same (Some x) (Some y) h a b = ap Some (five point_of (mark_same x.off y.off a.off b.off) (mark_same x.on y.on a.on b.on)
        (zip_same AreOfOneKind (IsBelowAbs below) set_same x.locals y.locals h.0.locals a.locals b.locals)
        (zip_same AreRowsAlike (AreRowsBelow below) row_same x.rows y.rows h.0.rows a.rows b.rows)
        (pairs_same x.same y.same h.1 h.2 a.same b.same))

    marks_same : (xs ys : List Bool) → AllZip IsMarkBelow xs ys → AllZip IsMarkBelow ys xs → xs ≡ ys
    marks_same xs ys a b = zip_same IsMarkBelow IsMarkBelow (λ x y k f g. mark_same x y f g) xs ys a a b

    level_sets_same : (xs ys : List ℕ) → AllZip AreLevelsWithin xs ys → AllZip AreLevelsWithin ys xs → xs ≡ ys
    level_sets_same xs ys a b = zip_same AreLevelsWithin AreLevelsWithin (λ x y k f g. levels_same x y f g) xs ys a a b

    all_same : (x y : Facts I) → AreAlike x y → IsBelow below x y → IsBelow below y x → x ≡ y
    all_same x y h a b =
        let z : Facts I = with_marks x y.by_main y.by_handler y.handler_reads y.handler_writes y.keys in
        let w : Facts I = with_levels z y.levels y.from y.read_levels y.write_levels in
        five (with_marks x) (marks_same x.by_main y.by_main a.by_main b.by_main) (marks_same x.by_handler y.by_handler a.by_handler b.by_handler)
        (marks_same x.handler_reads y.handler_reads a.handler_reads b.handler_reads) (marks_same x.handler_writes y.handler_writes a.handler_writes b.handler_writes) h.keys
        ∙ (ap (λ l. with_levels z l x.from x.read_levels x.write_levels) (level_sets_same x.levels y.levels a.levels b.levels)
        ∙ (ap (λ l. with_levels z y.levels l x.read_levels x.write_levels) (level_sets_same x.from y.from a.from b.from)
        ∙ (ap (λ l. with_levels z y.levels y.from l x.write_levels) (level_sets_same x.read_levels y.read_levels a.read_levels b.read_levels)
        ∙ (ap (λ l. with_levels z y.levels y.from y.read_levels l) (level_sets_same x.write_levels y.write_levels a.write_levels b.write_levels)
        ∙ (ap (λ l. with_sets w l x.results x.at) (zip_same AreOfOneKind (IsBelowAbs below) set_same x.whole y.whole h.whole a.whole b.whole)
        ∙ (ap (λ l. with_sets w y.whole l x.at) (zip_same AreOfOneKind (IsBelowAbs below) set_same x.results y.results h.results a.results b.results)
        ∙ ap (λ l. with_sets w y.whole y.results l) (zip_same AreKnownAlike (IsKnownBelow below) known_same x.at y.at h.at a.at b.at)))))))

-- ---- the laws, from those of the domain

abbrev pub Transits : {I : Type 0} → (I → I → Type 0) → (I → I → Type 0) → Type 0
Transits {I} alike below = (a b c : I) → alike a b → alike b c → alike a c → below a b → below b c → below a c

pub below_with_itself : {I : Type 0} (alike below : I → I → Type 0) → ((a : I) → alike a a → below a a) → ((a b : I) → alike a b) → (x : Facts I) → AreAlike x x → IsBelow below x x
below_with_itself alike below each all x h = facts_itself alike below (abs_itself alike below each all) x

pub below_in_turn : {I : Type 0} (alike below : I → I → Type 0) → Transits alike below → ((a b : I) → alike a b) → (x y z : Facts I) → IsBelow below x y → IsBelow below y z → IsBelow below x z
below_in_turn alike below each all x y z h k = facts_through alike below (abs_through alike below each all) x y z h k

pub facts_same : {I : Type 0} (alike below : I → I → Type 0) → ((a b : I) → alike a b → below a b → below b a → a ≡ b) → ((a b : I) → alike a b) → (x y : Facts I) → AreAlike x y → IsBelow below x y → IsBelow below y x → x ≡ y
facts_same alike below each all x y h a b = all_same alike below (abs_same alike below each all) x y h a b
