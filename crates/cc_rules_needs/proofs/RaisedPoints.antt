-- A point that is raised by what flows there: the facts are the least ones above the old ones that have it.
use Rattle.std.proofs.Common.{◌≡◌, ◌⊎◌, inl, inr, ℕ, zero, suc, ◌/◌, ◌%◌, ◌<◌, Bool, true, false, true≢false, not, cond, ◌&&◌, ◌||◌, nat_eq, List, [], ◌∷◌, length, Option, Some, None, slice_get, slice_set, refl, sym, ap, subst, ◌∙◌}
use Rattle.std.specs.Prelude.{option_and_then}
use Rattle.std.specs.List.{AllZip, filter, list_any}
use Rattle.std.proofs.lemmas.Map.Views.{any-filter_same}
use Rattle.cc_lattice.specs.Tables.{AreJoins}
use Rattle.cc_places.specs.declared.abs.Abs.{Abs}
use Rattle.cc_places.specs.Abstract.{IsBelowAbs}
use Rattle.cc_rules_needs.specs.Needs.{Flag, LocalAt, CellAt, Apart, Part, Mark, Flags, Values, flags_in, apart_in, get, AreValuesBelow, IsBelowPart, IsBelow}
use Rattle.cc_rules_needs.specs.Points.{is_same, AreRowsBelow, IsJoin, IsRowJoin, IsPointBelow, IsPointJoin, HasFlow, IsWithFlow, IsRaisedAt}
use Rattle.cc_rules_needs.proofs.AtPoint.{Each, each_passes, passes_each, some_values, row_values, none_of, same_numbers, all_at, itself_true}
use Rattle.cc_rules_needs.proofs.Others.{AtOrOther, set_at, set_there}
use Rattle.cc_rules_needs.proofs.Puts.{below_alike}
use Rattle.cc_rules_needs.proofs.Through.{values_itself, part_itself}
use Rattle.cc_rules_needs.proofs.Zips.{some_at}
use Rattle.std.proofs.lemmas.Map.Keys.{any_passes_from_place}
use Rattle.cc_state_facts.specs.declared.facts.Facts.{Facts}
use Rattle.cc_state_facts.specs.declared.facts.PointFact.{PointFact}
use Rattle.cc_state_facts.specs.declared.facts.Row.{Row}
use Rattle.cc_state_facts.specs.Facts.{fact_at, cell_of, local_of, has_pair}
use Rattle.cc_state_facts.specs.laws.Places.{zip_itself}

true_or_false : (b : Bool) → (b ≡ true) ⊎ (b ≡ false)
true_or_false true = inl refl
true_or_false false = inr refl

not_true : {A : Type 0} → false ≡ true → A
not_true h = absurd (true≢false (sym h))

false_of_not : (b : Bool) → not b ≡ true → b ≡ false
false_of_not true h = not_true h
false_of_not false h = refl

module _ {I : Type 0} (below : I → I → Type 0) (abs_itself : (x : Abs I) → IsBelowAbs below x x) (abs_through : (x y z : Abs I) → IsBelowAbs below x y → IsBelowAbs below y z → IsBelowAbs below x z) where
  -- ---- what is known at a point is below what is known there in other facts, slot by slot

  abbrev local_in : Option (PointFact I) → ℕ → Option (Abs I)
  local_in o r = option_and_then (λ x. local_of x r) o

  abbrev cell_in : Option (PointFact I) → ℕ → Option (Abs I)
  cell_in o j = option_and_then (λ x. cell_of x j) o

  pub record AreKnown (o p : Option (PointFact I)) : Type 0 where
    pub flag : IsBelowPart below (flags_in o) (flags_in p)
    pub local : (r : ℕ) → AreValuesBelow below (local_in o r) (local_in p r)
    pub cell : (j : ℕ) → AreValuesBelow below (cell_in o j) (cell_in p j)
    pub apart : (r j : ℕ) → apart_in o r j ≡ true → apart_in p r j ≡ true

  known_itself : (o : Option (PointFact I)) → AreKnown o o
  known_itself o = record { flag = part_itself below abs_itself abs_through (flags_in o); local = λ r. values_itself below abs_itself abs_through (local_in o r); cell = λ j. values_itself below abs_itself abs_through (cell_in o j); apart = λ r j h. h }

  no_flags_below : (p : Option (PointFact I)) → IsBelowPart below (Flags false false) (flags_in p)
  no_flags_below None = ((λ h. h), (λ h. h))
  no_flags_below (Some y) = ((λ h. not_true h), (λ h. not_true h))

  pub known_none : (p : Option (PointFact I)) → AreKnown None p
  known_none p = record { flag = no_flags_below p; local = λ r. tt; cell = λ j. tt; apart = λ r j h. not_true h }

  pub known_below : (x y : PointFact I) → IsPointBelow below x y → AreKnown (Some x) (Some y)
  known_below x y h = record {
    flag = (h.off, h.on);
    local = λ r. some_values below (local_of x r) (local_of y r) (some_at (IsBelowAbs below) x.locals y.locals h.locals r);
    cell = λ j. row_values below (j % 16) (slice_get x.rows (j / 16)) (slice_get y.rows (j / 16)) (some_at (AreRowsBelow below) x.rows y.rows h.rows (j / 16));
    apart = λ r j n. ap not (none_of (has_pair x) y.same (each_passes (is_same x) y.same h.same) r j (false_of_not (has_pair x r j) n));
  }

  -- ---- a join is above both, and the least such

  joins_first : {A : Type 0} (J : A → A → A → Type 0) (R : A → A → Type 0) → ((x y j : A) → J x y j → R x j) → (xs ys js : List A) → AreJoins J xs ys js → AllZip R xs js
  joins_first J R each [] [] [] h = tt
  joins_first J R each [] [] (c ∷ js) h = absurd h
  joins_first J R each [] (b ∷ ys) js h = absurd h
  joins_first J R each (a ∷ xs) [] js h = absurd h
  joins_first J R each (a ∷ xs) (b ∷ ys) [] h = absurd h
  joins_first J R each (a ∷ xs) (b ∷ ys) (c ∷ js) h = (each a b c h.0, joins_first J R each xs ys js h.1)

  joins_second : {A : Type 0} (J : A → A → A → Type 0) (R : A → A → Type 0) → ((x y j : A) → J x y j → R y j) → (xs ys js : List A) → AreJoins J xs ys js → AllZip R ys js
  joins_second J R each [] [] [] h = tt
  joins_second J R each [] [] (c ∷ js) h = absurd h
  joins_second J R each [] (b ∷ ys) js h = absurd h
  joins_second J R each (a ∷ xs) [] js h = absurd h
  joins_second J R each (a ∷ xs) (b ∷ ys) [] h = absurd h
  joins_second J R each (a ∷ xs) (b ∷ ys) (c ∷ js) h = (each a b c h.0, joins_second J R each xs ys js h.1)

  kept_all : {A : Type 0} (P : A → Type 0) (f : A → Bool) (xs : List A) → Each P xs → Each P (filter f xs)
  kept_all P f [] h = tt
  kept_all P f (x ∷ xs) h = kept_one P f x xs (f x) h.0 (kept_all P f xs h.1)
    where
      kept_one : {A : Type 0} (P : A → Type 0) (f : A → Bool) (x : A) (xs : List A) (b : Bool) → P x → Each P (filter f xs) → Each P (cond b (x ∷ filter f xs) (filter f xs))
      kept_one P f x xs true k h = (k, h)
      kept_one P f x xs false k h = h

  kept_pass : {A : Type 0} (f : A → Bool) (xs : List A) → Each (λ x. f x ≡ true) (filter f xs)
  kept_pass f [] = tt
  kept_pass f (x ∷ xs) = pass_one f x xs (f x) refl (kept_pass f xs)
    where
      pass_one : {A : Type 0} (f : A → Bool) (x : A) (xs : List A) (b : Bool) → f x ≡ b → Each (λ x. f x ≡ true) (filter f xs) → Each (λ x. f x ≡ true) (cond b (x ∷ filter f xs) (filter f xs))
      pass_one f x xs true e h = (e, h)
      pass_one f x xs false e h = h

  own_pairs : (x : PointFact I) → Each (λ pair. is_same x pair ≡ true) x.same
  own_pairs x = all_at (λ pair. is_same x pair ≡ true) x.same (λ i p e. any_passes_from_place (λ pair. nat_eq pair.0 p.0 && nat_eq pair.1 p.1) x.same i p e (itself_true p.0 p.1))

  or_left : (a b c : Bool) → c ≡ (a || b) → a ≡ true → c ≡ true
  or_left a b c e h = e ∙ ap (λ d. d || b) h

  or_right : (a b c : Bool) → c ≡ (a || b) → b ≡ true → c ≡ true
  or_right true b c e h = e
  or_right false b c e h = e ∙ h

  join_first : (x y z : PointFact I) → IsPointJoin below x y z → IsPointBelow below x z
  join_first x y z h = record {
    off = or_left x.off y.off z.off h.off;
    on = or_left x.on y.on z.on h.on;
    locals = joins_first (IsJoin below) (IsBelowAbs below) (λ a b c k. k.left) x.locals y.locals z.locals h.locals;
    rows = joins_first (IsRowJoin below) (AreRowsBelow below) (λ a b c k. joins_first (IsJoin below) (IsBelowAbs below) (λ d e f m. m.left) a.cells b.cells c.cells k) x.rows y.rows z.rows h.rows;
    same = passes_each (is_same x) z.same (subst (λ (same : List (ℕ × ℕ)). Each (λ pair. is_same x pair ≡ true) same) (sym h.same) (kept_all (λ pair. is_same x pair ≡ true) (is_same y) x.same (own_pairs x)));
  }

  pub join_second : (x y z : PointFact I) → IsPointJoin below x y z → IsPointBelow below y z
  join_second x y z h = record {
    off = or_right x.off y.off z.off h.off;
    on = or_right x.on y.on z.on h.on;
    locals = joins_second (IsJoin below) (IsBelowAbs below) (λ a b c k. k.right) x.locals y.locals z.locals h.locals;
    rows = joins_second (IsRowJoin below) (AreRowsBelow below) (λ a b c k. joins_second (IsJoin below) (IsBelowAbs below) (λ d e f m. m.right) a.cells b.cells c.cells k) x.rows y.rows z.rows h.rows;
    same = passes_each (is_same y) z.same (subst (λ (same : List (ℕ × ℕ)). Each (λ pair. is_same y pair ≡ true) same) (sym h.same) (kept_pass (is_same y) x.same));
  }

  -- by position
  abbrev JoinSome : {A : Type 0} → (A → A → A → Type 0) → Option A → Option A → Option A → Type 0
  JoinSome J None None None = Unit {0}
  JoinSome J (Some x) (Some y) (Some z) = J x y z
  JoinSome J _ _ _ = ⊥

  joins_at : {A : Type 0} (J : A → A → A → Type 0) (xs ys zs : List A) → AreJoins J xs ys zs → (n : ℕ) → JoinSome J (slice_get xs n) (slice_get ys n) (slice_get zs n)
  joins_at J [] [] [] h n = tt
  joins_at J [] [] (c ∷ js) h n = absurd h
  joins_at J [] (b ∷ ys) js h n = absurd h
  joins_at J (a ∷ xs) [] js h n = absurd h
  joins_at J (a ∷ xs) (b ∷ ys) [] h n = absurd h
  joins_at J (a ∷ xs) (b ∷ ys) (c ∷ js) h zero = h.0
  joins_at J (a ∷ xs) (b ∷ ys) (c ∷ js) h (suc n) = joins_at J xs ys js h.1 n

  least_some : (x y z w : Option (Abs I)) → JoinSome (IsJoin below) x y z → AreValuesBelow below x w → AreValuesBelow below y w → AreValuesBelow below z w
  least_some None None None w j f g = tt
  least_some (Some x) (Some y) (Some z) None j f g = f
  least_some (Some x) (Some y) (Some z) (Some w) j f g = j.least w (below_alike below x w f) (below_alike below y w g) f g
  least_some None None (Some z) w j f g = absurd j
  least_some None (Some y) z w j f g = absurd j
  least_some (Some x) None z w j f g = absurd j
  least_some (Some x) (Some y) None w j f g = absurd j

  row_at : (i : ℕ) (x y z : Option (Row I)) → JoinSome (IsRowJoin below) x y z → JoinSome (IsJoin below) (option_and_then (λ (row : Row I). slice_get row.cells i) x) (option_and_then (λ (row : Row I). slice_get row.cells i) y) (option_and_then (λ (row : Row I). slice_get row.cells i) z)
  row_at i None None None j = tt
  row_at i (Some x) (Some y) (Some z) j = joins_at (IsJoin below) x.cells y.cells z.cells j i
  row_at i None None (Some z) j = absurd j
  row_at i None (Some y) z j = absurd j
  row_at i (Some x) None z j = absurd j
  row_at i (Some x) (Some y) None j = absurd j

  either : {A : Type 0} (a b c : Bool) → c ≡ (a || b) → c ≡ true → (a ≡ true → A) → (b ≡ true → A) → A
  either true b c e h f g = f refl
  either false b c e h f g = g (sym e ∙ h)

  flags_least : (x y z : PointFact I) (p : Part I) → IsPointJoin below x y z → IsBelowPart below (Flags x.off x.on) p → IsBelowPart below (Flags y.off y.on) p → IsBelowPart below (Flags z.off z.on) p
  flags_least x y z (Flags off on) j f g = ((λ h. either x.off y.off z.off j.off h f.0 g.0), (λ h. either x.on y.on z.on j.on h f.1 g.1))
  flags_least x y z (Mark a) j f g = absurd f
  flags_least x y z (Values v) j f g = absurd f
  flags_least x y z _ j f g = absurd f

  both_apart : (x y z : PointFact I) → IsPointJoin below x y z → (r j : ℕ) → has_pair z r j ≡ (has_pair y r j && has_pair x r j)
  both_apart x y z h r j = ap (list_any (λ pair. nat_eq pair.0 r && nat_eq pair.1 j)) h.same ∙ any-filter_same (λ pair. nat_eq pair.0 r && nat_eq pair.1 j) (is_same y) (has_pair y r j) (alike y r j) x.same
    where
      alike : (y : PointFact I) (r j : ℕ) (p : ℕ × ℕ) → (nat_eq p.0 r && nat_eq p.1 j) ≡ true → is_same y p ≡ has_pair y r j
      alike y r j p e = let t = same_numbers (has_pair y) p.0 p.1 r j e in ap (λ a. has_pair y a p.1) t.0 ∙ ap (λ b. has_pair y r b) t.1

  apart_least : (a b c d : Bool) → c ≡ (b && a) → (not a ≡ true → d ≡ true) → (not b ≡ true → d ≡ true) → not c ≡ true → d ≡ true
  apart_least a false c d e f g h = g refl
  apart_least false true c d e f g h = f refl
  apart_least true true c d e f g h = not_true (sym (ap not e) ∙ h)

  known_join : (x y z : PointFact I) (p : Option (PointFact I)) → IsPointJoin below x y z → AreKnown (Some x) p → AreKnown (Some y) p → AreKnown (Some z) p
  known_join x y z p h f g = record {
    flag = flags_least x y z (flags_in p) h f.flag g.flag;
    local = λ r. least_some (local_of x r) (local_of y r) (local_of z r) (local_in p r) (joins_at (IsJoin below) x.locals y.locals z.locals h.locals r) (f.local r) (g.local r);
    cell = λ j. least_some (cell_of x j) (cell_of y j) (cell_of z j) (cell_in p j)
        (row_at (j % 16) (slice_get x.rows (j / 16)) (slice_get y.rows (j / 16)) (slice_get z.rows (j / 16)) (joins_at (IsRowJoin below) x.rows y.rows z.rows h.rows (j / 16))) (f.cell j) (g.cell j);
    apart = λ r j. apart_least (has_pair x r j) (has_pair y r j) (has_pair z r j) (apart_in p r j) (both_apart x y z h r j) (f.apart r j) (g.apart r j);
  }

  -- ---- facts in which one point is another

  abbrev AtPoint : Facts I → ℕ → PointFact I → ℕ → Type 0
  AtPoint f k both n = ((n ≡ k) × (fact_at (record f { at = slice_set f.at k (Some both) }) n ≡ Some both)) ⊎ (fact_at (record f { at = slice_set f.at k (Some both) }) n ≡ fact_at f n)

  fact_or_other : (f : Facts I) (k : ℕ) (both : PointFact I) (n : ℕ) → k < length f.at → AtPoint f k both n
  fact_or_other f k both n l = from (set_at f.at k (Some both) n l)
    where
      from : AtOrOther f.at k (Some both) n → AtPoint f k both n
      from (inl e) = inl (e.0, ap (option_and_then (λ (x : Option (PointFact I)). x)) e.1)
      from (inr e) = inr (ap (option_and_then (λ (x : Option (PointFact I)). x)) e)

  -- facts that differ in their points alone are below others where their points are
  by_points : (f g : Facts I) (h : Facts I) (at : List (Option (PointFact I))) → g ≡ record f { at = at } → IsBelow below f h → ((n : ℕ) → AreKnown (fact_at g n) (fact_at h n)) → IsBelow below g h
  by_points f g h at e b known (Flag n) = (known n).flag
  by_points f g h at e b known (LocalAt n r) = (known n).local r
  by_points f g h at e b known (CellAt n j) = (known n).cell j
  by_points f g h at e b known (Apart n r j) = (known n).apart r j
  by_points f g h at e b known s = subst (λ (x : Facts I). IsBelowPart below (get s x) (get s h)) (sym e) (b s)

  above_by_points : (f g : Facts I) (at : List (Option (PointFact I))) → g ≡ record f { at = at } → ((n : ℕ) → AreKnown (fact_at f n) (fact_at g n)) → IsBelow below f g
  above_by_points f g at e known (Flag n) = (known n).flag
  above_by_points f g at e known (LocalAt n r) = (known n).local r
  above_by_points f g at e known (CellAt n j) = (known n).cell j
  above_by_points f g at e known (Apart n r j) = (known n).apart r j
  above_by_points f g at e known s = subst (λ (x : Facts I). IsBelowPart below (get s f) (get s x)) (sym e) (part_itself below abs_itself abs_through (get s f))

  known_from : (f h : Facts I) → IsBelow below f h → (n : ℕ) → AreKnown (fact_at f n) (fact_at h n)
  known_from f h b n = record { flag = b (Flag n); local = λ r. b (LocalAt n r); cell = λ j. b (CellAt n j); apart = λ r j. b (Apart n r j) }

  point_itself : (x : PointFact I) → IsPointBelow below x x
  point_itself x = record {
    off = λ h. h;
    on = λ h. h;
    locals = zip_itself (IsBelowAbs below) abs_itself x.locals;
    rows = zip_itself (AreRowsBelow below) (λ row. zip_itself (IsBelowAbs below) abs_itself row.cells) x.rows;
    same = passes_each (is_same x) x.same (own_pairs x);
  }

  with_above : (flow both : PointFact I) (o : Option (PointFact I)) → IsWithFlow below o flow both → AreKnown o (Some both)
  with_above flow both None e = known_none (Some both)
  with_above flow both (Some x) j = known_below x both (join_first x flow both j)

  with_has : (flow both : PointFact I) (o : Option (PointFact I)) → IsWithFlow below o flow both → IsPointBelow below flow both
  with_has flow both None e = subst (λ (x : PointFact I). IsPointBelow below flow x) (sym e) (point_itself flow)
  with_has flow both (Some x) j = join_second x flow both j

  with_least : (flow both : PointFact I) (o p : Option (PointFact I)) → IsWithFlow below o flow both → AreKnown o p → AreKnown (Some flow) p → AreKnown (Some both) p
  with_least flow both None p e f g = subst (λ (x : PointFact I). AreKnown (Some x) p) (sym e) g
  with_least flow both (Some x) p j f g = known_join x flow both p j f g

  flow_known : (flow : PointFact I) (p : Option (PointFact I)) → HasFlow below flow p → AreKnown (Some flow) p
  flow_known flow None h = absurd h
  flow_known flow (Some y) h = known_below flow y h

  module _ (f g : Facts I) (k : ℕ) (flow : PointFact I) (l : k < length f.at) (r : IsRaisedAt below f k flow g) where
    abbrev AtOther : Facts I → ℕ → Type 0
    AtOther x n = ((n ≡ k) × (fact_at x n ≡ Some r.both)) ⊎ (fact_at x n ≡ fact_at f n)

    at_other : (n : ℕ) → AtOther g n
    at_other n = subst (λ (x : Facts I). AtOther x n) (sym r.is) (fact_or_other f k r.both n l)

    above_at : (n : ℕ) → AtOther g n → AreKnown (fact_at f n) (fact_at g n)
    above_at n (inl e) = subst (λ (o : Option (PointFact I)). AreKnown (fact_at f n) o) (sym e.1) (subst (λ m. AreKnown (fact_at f m) (Some r.both)) (sym e.0) (with_above flow r.both (fact_at f k) r.risen))
    above_at n (inr e) = subst (λ (o : Option (PointFact I)). AreKnown (fact_at f n) o) (sym e) (known_itself (fact_at f n))

    pub raised_above : IsBelow below f g
    raised_above = above_by_points f g (slice_set f.at k (Some r.both)) r.is (λ n. above_at n (at_other n))

    raised_there : fact_at g k ≡ Some r.both
    raised_there = ap (λ (x : Facts I). fact_at x k) r.is ∙ ap (option_and_then (λ (x : Option (PointFact I)). x)) (set_there f.at k (Some r.both) l)

    pub raised_has : HasFlow below flow (fact_at g k)
    raised_has = subst (λ (o : Option (PointFact I)). HasFlow below flow o) (sym raised_there) (with_has flow r.both (fact_at f k) r.risen)

    least_at : (h : Facts I) → IsBelow below f h → HasFlow below flow (fact_at h k) → (n : ℕ) → AtOther g n → AreKnown (fact_at g n) (fact_at h n)
    least_at h b has n (inl e) = subst (λ (o : Option (PointFact I)). AreKnown o (fact_at h n)) (sym e.1) (subst (λ m. AreKnown (Some r.both) (fact_at h m)) (sym e.0) (with_least flow r.both (fact_at f k) (fact_at h k) r.risen (known_from f h b k) (flow_known flow (fact_at h k) has)))
    least_at h b has n (inr e) = subst (λ (o : Option (PointFact I)). AreKnown o (fact_at h n)) (sym e) (known_from f h b n)

    pub raised_least : (h : Facts I) → IsBelow below f h → HasFlow below flow (fact_at h k) → IsBelow below g h
    raised_least h b has = by_points f g h (slice_set f.at k (Some r.both)) r.is b (λ n. least_at h b has n (at_other n))
