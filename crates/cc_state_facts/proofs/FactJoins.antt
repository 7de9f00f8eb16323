-- Facts whose parts are the joins of those of two others are the join of these.
use Rattle.std.proofs.Common.{arith, ◌≡◌, ℕ, suc, Bool, true, false, ◌||◌, List, [], ◌∷◌, length, Option, Some, None, refl, sym, ap, subst, ◌∙◌}
use Rattle.std.specs.List.{AllZip, list_all}
use Rattle.cc_lattice.specs.Orders.{IsLeastUpperBound}
use Rattle.cc_lattice.specs.Tables.{AreJoins}
use Rattle.cc_places.specs.declared.abs.Abs.{Abs}
use Rattle.cc_places.specs.Abstract.{AreOfOneKind, IsBelowAbs}
use Rattle.cc_state_facts.specs.declared.facts.Facts.{Facts}
use Rattle.cc_state_facts.specs.declared.facts.PointFact.{PointFact}
use Rattle.cc_state_facts.specs.declared.facts.Row.{Row}
use Rattle.cc_state_facts.specs.Levels.{AreLevelsWithin}
use Rattle.cc_state_facts.specs.Orders.{IsMarkBelow, Ascend, is_same, AreRowsAlike, AreKnownAlike, AreAlike, AreRowsBelow, IsKnownBelow, IsBelow, IsJoin, IsRowJoin, IsKnownJoin, IsMarkJoin, IsLevelJoin, AreJoined}
use Rattle.cc_state_facts.specs.laws.OrderLaws.{point_itself, known_below_itself}
use Rattle.cc_state_facts.specs.laws.Pairs.{kept_ascend, common_first, common_second, common_all}
use Rattle.cc_state_facts.proofs.LevelBits.{or_left, or_right, or_least}

-- ---- place by place, where the first two parts are of one kind

module _ {A : Type 0} (K : A → A → Type 0) (J : A → A → A → Type 0) where
  joins_first : (R : A → A → Type 0) → ((x y j : A) → K x y → J x y j → R x j) → (xs ys js : List A) → AllZip K xs ys → AreJoins J xs ys js → AllZip R xs js
  joins_first R each [] [] [] k h = tt
  joins_first R each [] [] (c ∷ js) k h = absurd h
  joins_first R each [] (b ∷ ys) js k h = absurd k
  joins_first R each (a ∷ xs) [] js k h = absurd k
  joins_first R each (a ∷ xs) (b ∷ ys) [] k h = absurd h
  joins_first R each (a ∷ xs) (b ∷ ys) (c ∷ js) k h = (each a b c k.0 h.0, joins_first R each xs ys js k.1 h.1)

  joins_second : (R : A → A → Type 0) → ((x y j : A) → K x y → J x y j → R y j) → (xs ys js : List A) → AllZip K xs ys → AreJoins J xs ys js → AllZip R ys js
  joins_second R each [] [] [] k h = tt
  joins_second R each [] [] (c ∷ js) k h = absurd h
  joins_second R each [] (b ∷ ys) js k h = absurd k
  joins_second R each (a ∷ xs) [] js k h = absurd k
  joins_second R each (a ∷ xs) (b ∷ ys) [] k h = absurd h
  joins_second R each (a ∷ xs) (b ∷ ys) (c ∷ js) k h = (each a b c k.0 h.0, joins_second R each xs ys js k.1 h.1)

  joins_least : (R : A → A → Type 0) → ((x y j u : A) → J x y j → K x u → K y u → R x u → R y u → R j u) → (xs ys js us : List A) → AreJoins J xs ys js → AllZip K xs us → AllZip K ys us → AllZip R xs us → AllZip R ys us → AllZip R js us
  joins_least R each [] [] [] us h xk yk xb yb = xb
  joins_least R each [] [] (c ∷ js) us h xk yk xb yb = absurd h
  joins_least R each [] (b ∷ ys) js us h xk yk xb yb = absurd h
  joins_least R each (a ∷ xs) [] js us h xk yk xb yb = absurd h
  joins_least R each (a ∷ xs) (b ∷ ys) [] us h xk yk xb yb = absurd h
  joins_least R each (a ∷ xs) (b ∷ ys) (c ∷ js) [] h xk yk xb yb = absurd xk
  joins_least R each (a ∷ xs) (b ∷ ys) (c ∷ js) (u ∷ us) h xk yk xb yb = (each a b c u h.0 xk.0 yk.0 xb.0 yb.0, joins_least R each xs ys js us h.1 xk.1 yk.1 xb.1 yb.1)

abbrev Any : {A : Type 0} → A → A → Type 0
Any x y = Unit {0}

any_zip : {A : Type 0} (xs ys : List A) → length xs ≡ length ys → AllZip Any xs ys
any_zip [] [] e = tt
any_zip [] (y ∷ ys) e = absurd (let f : 0 ≡ suc (length ys) = e in omega (arith, f))
any_zip (x ∷ xs) [] e = absurd (let f : suc (length xs) ≡ 0 = e in omega (arith, f))
any_zip (x ∷ xs) (y ∷ ys) e = (tt, any_zip xs ys (let f : suc (length xs) ≡ suc (length ys) = e in omega (arith, f)))

any_length : {A : Type 0} (xs ys : List A) → AllZip Any xs ys → length xs ≡ length ys
any_length [] [] h = refl
any_length [] (y ∷ ys) h = absurd h
any_length (x ∷ xs) [] h = absurd h
any_length (x ∷ xs) (y ∷ ys) h = ap suc (any_length xs ys h.1)

-- ---- marks and levels

mark_left : (a b c : Bool) → Any a b → IsMarkJoin a b c → IsMarkBelow a c
mark_left a b c k e h = e ∙ ap (λ d. d || b) h

mark_right : (a b c : Bool) → Any a b → IsMarkJoin a b c → IsMarkBelow b c
mark_right true b c k e h = e
mark_right false b c k e h = e ∙ h

mark_least : (a b c u : Bool) → IsMarkJoin a b c → Any a u → Any b u → IsMarkBelow a u → IsMarkBelow b u → IsMarkBelow c u
mark_least true b c u e k l f g h = f refl
mark_least false b c u e k l f g h = g (sym e ∙ h)

level_left : (x y z : ℕ) → Any x y → IsLevelJoin x y z → AreLevelsWithin x z
level_left x y z k e = subst (AreLevelsWithin x) (sym e) (or_left x y)

level_right : (x y z : ℕ) → Any x y → IsLevelJoin x y z → AreLevelsWithin y z
level_right x y z k e = subst (AreLevelsWithin y) (sym e) (or_right x y)

level_least : (x y z u : ℕ) → IsLevelJoin x y z → Any x u → Any y u → AreLevelsWithin x u → AreLevelsWithin y u → AreLevelsWithin z u
level_least x y z u e k l f g = subst (λ w. AreLevelsWithin w u) (sym e) (or_least x y u f g)

-- ---- over a domain

module _ {I : Type 0} (below : I → I → Type 0) (self : (x : Abs I) → IsBelowAbs below x x) where
  set_left_alike : (x y j : Abs I) → AreOfOneKind x y → IsJoin below x y j → AreOfOneKind x j
  set_left_alike x y j k h = h.left_alike

  set_right_alike : (x y j : Abs I) → AreOfOneKind x y → IsJoin below x y j → AreOfOneKind y j
  set_right_alike x y j k h = h.right_alike

  set_left : (x y j : Abs I) → AreOfOneKind x y → IsJoin below x y j → IsBelowAbs below x j
  set_left x y j k h = h.left

  set_right : (x y j : Abs I) → AreOfOneKind x y → IsJoin below x y j → IsBelowAbs below y j
  set_right x y j k h = h.right

  set_least : (x y j u : Abs I) → IsJoin below x y j → AreOfOneKind x u → AreOfOneKind y u → IsBelowAbs below x u → IsBelowAbs below y u → IsBelowAbs below j u
  set_least x y j u h = h.least u

  row_left_alike : (x y j : Row I) → AreRowsAlike x y → IsRowJoin below x y j → AreRowsAlike x j
  row_left_alike x y j k h = joins_first AreOfOneKind (IsJoin below) AreOfOneKind set_left_alike x.cells y.cells j.cells k h

  row_right_alike : (x y j : Row I) → AreRowsAlike x y → IsRowJoin below x y j → AreRowsAlike y j
  row_right_alike x y j k h = joins_second AreOfOneKind (IsJoin below) AreOfOneKind set_right_alike x.cells y.cells j.cells k h

  row_left : (x y j : Row I) → AreRowsAlike x y → IsRowJoin below x y j → AreRowsBelow below x j
  row_left x y j k h = joins_first AreOfOneKind (IsJoin below) (IsBelowAbs below) set_left x.cells y.cells j.cells k h

  row_right : (x y j : Row I) → AreRowsAlike x y → IsRowJoin below x y j → AreRowsBelow below y j
  row_right x y j k h = joins_second AreOfOneKind (IsJoin below) (IsBelowAbs below) set_right x.cells y.cells j.cells k h

  row_least : (x y j u : Row I) → IsRowJoin below x y j → AreRowsAlike x u → AreRowsAlike y u → AreRowsBelow below x u → AreRowsBelow below y u → AreRowsBelow below j u
  row_least x y j u h = joins_least AreOfOneKind (IsJoin below) (IsBelowAbs below) set_least x.cells y.cells j.cells u.cells h

  -- ---- what is known at a point

  known_left_alike : (x y j : Option (PointFact I)) → AreKnownAlike x y → IsKnownJoin below x y j → AreKnownAlike x j
  known_left_alike None None j k e = subst (λ (z : Option (PointFact I)). AreKnownAlike None z) (sym e) tt
  known_left_alike None (Some y) j k e = subst (λ (z : Option (PointFact I)). AreKnownAlike None z) (sym e) k
  known_left_alike (Some x) None j k e = subst (λ (z : Option (PointFact I)). AreKnownAlike (Some x) z) (sym e) (point_itself x k)
  known_left_alike (Some x) (Some y) None k h = absurd h
  known_left_alike (Some x) (Some y) (Some j) k h = (
    record {
      locals = joins_first AreOfOneKind (IsJoin below) AreOfOneKind set_left_alike x.locals y.locals j.locals k.0.locals h.locals;
      rows = joins_first AreRowsAlike (IsRowJoin below) AreRowsAlike row_left_alike x.rows y.rows j.rows k.0.rows h.rows;
    },
    k.1,
    subst Ascend (sym h.same) (kept_ascend (is_same y) x.same k.1),
  )

  known_right_alike : (x y j : Option (PointFact I)) → AreKnownAlike x y → IsKnownJoin below x y j → AreKnownAlike y j
  known_right_alike None None j k e = subst (λ (z : Option (PointFact I)). AreKnownAlike None z) (sym e) tt
  known_right_alike None (Some y) j k e = subst (λ (z : Option (PointFact I)). AreKnownAlike (Some y) z) (sym e) (point_itself y k)
  known_right_alike (Some x) None j k e = subst (λ (z : Option (PointFact I)). AreKnownAlike None z) (sym e) k
  known_right_alike (Some x) (Some y) None k h = absurd h
  known_right_alike (Some x) (Some y) (Some j) k h = (
    record {
      locals = joins_second AreOfOneKind (IsJoin below) AreOfOneKind set_right_alike x.locals y.locals j.locals k.0.locals h.locals;
      rows = joins_second AreRowsAlike (IsRowJoin below) AreRowsAlike row_right_alike x.rows y.rows j.rows k.0.rows h.rows;
    },
    k.2,
    subst Ascend (sym h.same) (kept_ascend (is_same y) x.same k.1),
  )

  known_left : (x y j : Option (PointFact I)) → AreKnownAlike x y → IsKnownJoin below x y j → IsKnownBelow below x j
  known_left None y j k h = tt
  known_left (Some x) None j k e = subst (λ (z : Option (PointFact I)). IsKnownBelow below (Some x) z) (sym e) (known_below_itself below below self (Some x))
  known_left (Some x) (Some y) None k h = absurd h
  known_left (Some x) (Some y) (Some j) k h = record {
    off = mark_left x.off y.off j.off tt h.off;
    on = mark_left x.on y.on j.on tt h.on;
    locals = joins_first AreOfOneKind (IsJoin below) (IsBelowAbs below) set_left x.locals y.locals j.locals k.0.locals h.locals;
    rows = joins_first AreRowsAlike (IsRowJoin below) (AreRowsBelow below) row_left x.rows y.rows j.rows k.0.rows h.rows;
    same = subst (λ (ps : List (ℕ × ℕ)). list_all (is_same x) ps ≡ true) (sym h.same) (common_first x.same y.same);
  }

  known_right : (x y j : Option (PointFact I)) → AreKnownAlike x y → IsKnownJoin below x y j → IsKnownBelow below y j
  known_right x None j k h = tt
  known_right None (Some y) j k e = subst (λ (z : Option (PointFact I)). IsKnownBelow below (Some y) z) (sym e) (known_below_itself below below self (Some y))
  known_right (Some x) (Some y) None k h = absurd h
  known_right (Some x) (Some y) (Some j) k h = record {
    off = mark_right x.off y.off j.off tt h.off;
    on = mark_right x.on y.on j.on tt h.on;
    locals = joins_second AreOfOneKind (IsJoin below) (IsBelowAbs below) set_right x.locals y.locals j.locals k.0.locals h.locals;
    rows = joins_second AreRowsAlike (IsRowJoin below) (AreRowsBelow below) row_right x.rows y.rows j.rows k.0.rows h.rows;
    same = subst (λ (ps : List (ℕ × ℕ)). list_all (is_same y) ps ≡ true) (sym h.same) (common_second x.same y.same);
  }

  known_least : (x y j u : Option (PointFact I)) → IsKnownJoin below x y j → AreKnownAlike x u → AreKnownAlike y u → IsKnownBelow below x u → IsKnownBelow below y u → IsKnownBelow below j u
  known_least None y j u e k l f g = subst (λ (z : Option (PointFact I)). IsKnownBelow below z u) (sym e) g
  known_least (Some x) None j u e k l f g = subst (λ (z : Option (PointFact I)). IsKnownBelow below z u) (sym e) f
  known_least (Some x) (Some y) None u h k l f g = absurd h
  known_least (Some x) (Some y) (Some j) None h k l f g = absurd f
  known_least (Some x) (Some y) (Some j) (Some u) h k l f g = record {
    off = mark_least x.off y.off j.off u.off h.off tt tt f.off g.off;
    on = mark_least x.on y.on j.on u.on h.on tt tt f.on g.on;
    locals = joins_least AreOfOneKind (IsJoin below) (IsBelowAbs below) set_least x.locals y.locals j.locals u.locals h.locals k.0.locals l.0.locals f.locals g.locals;
    rows = joins_least AreRowsAlike (IsRowJoin below) (AreRowsBelow below) row_least x.rows y.rows j.rows u.rows h.rows k.0.rows l.0.rows f.rows g.rows;
    same = subst (λ (ps : List (ℕ × ℕ)). list_all (λ q. is_same (record j { same = ps }) q) u.same ≡ true) (sym h.same) (common_all x.same y.same u.same f.same g.same);
  }

  -- ---- facts

  length_first : {A : Type 0} (J : A → A → A → Type 0) (xs ys js : List A) → length xs ≡ length ys → AreJoins J xs ys js → length xs ≡ length js
  length_first J xs ys js e h = any_length xs js (joins_first Any J Any (λ x y j k h. tt) xs ys js (any_zip xs ys e) h)

  length_second : {A : Type 0} (J : A → A → A → Type 0) (xs ys js : List A) → length xs ≡ length ys → AreJoins J xs ys js → length ys ≡ length js
  length_second J xs ys js e h = sym e ∙ length_first J xs ys js e h

  marks_left : (xs ys js : List Bool) → length xs ≡ length ys → AreJoins IsMarkJoin xs ys js → AllZip IsMarkBelow xs js
  marks_left xs ys js e h = joins_first Any IsMarkJoin IsMarkBelow mark_left xs ys js (any_zip xs ys e) h

  marks_right : (xs ys js : List Bool) → length xs ≡ length ys → AreJoins IsMarkJoin xs ys js → AllZip IsMarkBelow ys js
  marks_right xs ys js e h = joins_second Any IsMarkJoin IsMarkBelow mark_right xs ys js (any_zip xs ys e) h

  marks_least : (xs ys js us : List Bool) → AreJoins IsMarkJoin xs ys js → length xs ≡ length us → length ys ≡ length us → AllZip IsMarkBelow xs us → AllZip IsMarkBelow ys us → AllZip IsMarkBelow js us
  marks_least xs ys js us h k l f g = joins_least Any IsMarkJoin IsMarkBelow mark_least xs ys js us h (any_zip xs us k) (any_zip ys us l) f g

  sets_left : (xs ys js : List ℕ) → length xs ≡ length ys → AreJoins IsLevelJoin xs ys js → AllZip AreLevelsWithin xs js
  sets_left xs ys js e h = joins_first Any IsLevelJoin AreLevelsWithin level_left xs ys js (any_zip xs ys e) h

  sets_right : (xs ys js : List ℕ) → length xs ≡ length ys → AreJoins IsLevelJoin xs ys js → AllZip AreLevelsWithin ys js
  sets_right xs ys js e h = joins_second Any IsLevelJoin AreLevelsWithin level_right xs ys js (any_zip xs ys e) h

  sets_least : (xs ys js us : List ℕ) → AreJoins IsLevelJoin xs ys js → length xs ≡ length us → length ys ≡ length us → AllZip AreLevelsWithin xs us → AllZip AreLevelsWithin ys us → AllZip AreLevelsWithin js us
  sets_least xs ys js us h k l f g = joins_least Any IsLevelJoin AreLevelsWithin level_least xs ys js us h (any_zip xs us k) (any_zip ys us l) f g

  joined_left_alike : (x y j : Facts I) → AreAlike x y → AreJoined below x y j → AreAlike x j
  joined_left_alike x y j k h = record {
    keys = sym h.keys;
    whole = joins_first AreOfOneKind (IsJoin below) AreOfOneKind set_left_alike x.whole y.whole j.whole k.whole h.whole;
    results = joins_first AreOfOneKind (IsJoin below) AreOfOneKind set_left_alike x.results y.results j.results k.results h.results;
    by_main = length_first IsMarkJoin x.by_main y.by_main j.by_main k.by_main h.by_main;
    by_handler = length_first IsMarkJoin x.by_handler y.by_handler j.by_handler k.by_handler h.by_handler;
    levels = length_first IsLevelJoin x.levels y.levels j.levels k.levels h.levels;
    from = length_first IsLevelJoin x.from y.from j.from k.from h.from;
    handler_reads = length_first IsMarkJoin x.handler_reads y.handler_reads j.handler_reads k.handler_reads h.handler_reads;
    handler_writes = length_first IsMarkJoin x.handler_writes y.handler_writes j.handler_writes k.handler_writes h.handler_writes;
    read_levels = length_first IsLevelJoin x.read_levels y.read_levels j.read_levels k.read_levels h.read_levels;
    write_levels = length_first IsLevelJoin x.write_levels y.write_levels j.write_levels k.write_levels h.write_levels;
    at = joins_first AreKnownAlike (IsKnownJoin below) AreKnownAlike known_left_alike x.at y.at j.at k.at h.at;
  }

  joined_right_alike : (x y j : Facts I) → AreAlike x y → AreJoined below x y j → AreAlike y j
  joined_right_alike x y j k h = record {
    keys = sym k.keys ∙ sym h.keys;
    whole = joins_second AreOfOneKind (IsJoin below) AreOfOneKind set_right_alike x.whole y.whole j.whole k.whole h.whole;
    results = joins_second AreOfOneKind (IsJoin below) AreOfOneKind set_right_alike x.results y.results j.results k.results h.results;
    by_main = length_second IsMarkJoin x.by_main y.by_main j.by_main k.by_main h.by_main;
    by_handler = length_second IsMarkJoin x.by_handler y.by_handler j.by_handler k.by_handler h.by_handler;
    levels = length_second IsLevelJoin x.levels y.levels j.levels k.levels h.levels;
    from = length_second IsLevelJoin x.from y.from j.from k.from h.from;
    handler_reads = length_second IsMarkJoin x.handler_reads y.handler_reads j.handler_reads k.handler_reads h.handler_reads;
    handler_writes = length_second IsMarkJoin x.handler_writes y.handler_writes j.handler_writes k.handler_writes h.handler_writes;
    read_levels = length_second IsLevelJoin x.read_levels y.read_levels j.read_levels k.read_levels h.read_levels;
    write_levels = length_second IsLevelJoin x.write_levels y.write_levels j.write_levels k.write_levels h.write_levels;
    at = joins_second AreKnownAlike (IsKnownJoin below) AreKnownAlike known_right_alike x.at y.at j.at k.at h.at;
  }

  joined_left : (x y j : Facts I) → AreAlike x y → AreJoined below x y j → IsBelow below x j
  joined_left x y j k h = record {
    whole = joins_first AreOfOneKind (IsJoin below) (IsBelowAbs below) set_left x.whole y.whole j.whole k.whole h.whole;
    results = joins_first AreOfOneKind (IsJoin below) (IsBelowAbs below) set_left x.results y.results j.results k.results h.results;
    by_main = marks_left x.by_main y.by_main j.by_main k.by_main h.by_main;
    by_handler = marks_left x.by_handler y.by_handler j.by_handler k.by_handler h.by_handler;
    levels = sets_left x.levels y.levels j.levels k.levels h.levels;
    from = sets_left x.from y.from j.from k.from h.from;
    handler_reads = marks_left x.handler_reads y.handler_reads j.handler_reads k.handler_reads h.handler_reads;
    handler_writes = marks_left x.handler_writes y.handler_writes j.handler_writes k.handler_writes h.handler_writes;
    read_levels = sets_left x.read_levels y.read_levels j.read_levels k.read_levels h.read_levels;
    write_levels = sets_left x.write_levels y.write_levels j.write_levels k.write_levels h.write_levels;
    at = joins_first AreKnownAlike (IsKnownJoin below) (IsKnownBelow below) known_left x.at y.at j.at k.at h.at;
  }

  joined_right : (x y j : Facts I) → AreAlike x y → AreJoined below x y j → IsBelow below y j
  joined_right x y j k h = record {
    whole = joins_second AreOfOneKind (IsJoin below) (IsBelowAbs below) set_right x.whole y.whole j.whole k.whole h.whole;
    results = joins_second AreOfOneKind (IsJoin below) (IsBelowAbs below) set_right x.results y.results j.results k.results h.results;
    by_main = marks_right x.by_main y.by_main j.by_main k.by_main h.by_main;
    by_handler = marks_right x.by_handler y.by_handler j.by_handler k.by_handler h.by_handler;
    levels = sets_right x.levels y.levels j.levels k.levels h.levels;
    from = sets_right x.from y.from j.from k.from h.from;
    handler_reads = marks_right x.handler_reads y.handler_reads j.handler_reads k.handler_reads h.handler_reads;
    handler_writes = marks_right x.handler_writes y.handler_writes j.handler_writes k.handler_writes h.handler_writes;
    read_levels = sets_right x.read_levels y.read_levels j.read_levels k.read_levels h.read_levels;
    write_levels = sets_right x.write_levels y.write_levels j.write_levels k.write_levels h.write_levels;
    at = joins_second AreKnownAlike (IsKnownJoin below) (IsKnownBelow below) known_right x.at y.at j.at k.at h.at;
  }

  joined_least : (x y j u : Facts I) → AreJoined below x y j → AreAlike x u → AreAlike y u → IsBelow below x u → IsBelow below y u → IsBelow below j u
  joined_least x y j u h k l f g = record {
    whole = joins_least AreOfOneKind (IsJoin below) (IsBelowAbs below) set_least x.whole y.whole j.whole u.whole h.whole k.whole l.whole f.whole g.whole;
    results = joins_least AreOfOneKind (IsJoin below) (IsBelowAbs below) set_least x.results y.results j.results u.results h.results k.results l.results f.results g.results;
    by_main = marks_least x.by_main y.by_main j.by_main u.by_main h.by_main k.by_main l.by_main f.by_main g.by_main;
    by_handler = marks_least x.by_handler y.by_handler j.by_handler u.by_handler h.by_handler k.by_handler l.by_handler f.by_handler g.by_handler;
    levels = sets_least x.levels y.levels j.levels u.levels h.levels k.levels l.levels f.levels g.levels;
    from = sets_least x.from y.from j.from u.from h.from k.from l.from f.from g.from;
    handler_reads = marks_least x.handler_reads y.handler_reads j.handler_reads u.handler_reads h.handler_reads k.handler_reads l.handler_reads f.handler_reads g.handler_reads;
    handler_writes = marks_least x.handler_writes y.handler_writes j.handler_writes u.handler_writes h.handler_writes k.handler_writes l.handler_writes f.handler_writes g.handler_writes;
    read_levels = sets_least x.read_levels y.read_levels j.read_levels u.read_levels h.read_levels k.read_levels l.read_levels f.read_levels g.read_levels;
    write_levels = sets_least x.write_levels y.write_levels j.write_levels u.write_levels h.write_levels k.write_levels l.write_levels f.write_levels g.write_levels;
    at = joins_least AreKnownAlike (IsKnownJoin below) (IsKnownBelow below) known_least x.at y.at j.at u.at h.at k.at l.at f.at g.at;
  }

  pub joined_facts : (x y j : Facts I) → AreAlike x y → AreJoined below x y j → IsLeastUpperBound AreAlike (IsBelow below) x y j
  joined_facts x y j k h = record {
    left_alike = joined_left_alike x y j k h;
    right_alike = joined_right_alike x y j k h;
    left = joined_left x y j k h;
    right = joined_right x y j k h;
    least = λ u a b c d. joined_least x y j u h a b c d;
  }
