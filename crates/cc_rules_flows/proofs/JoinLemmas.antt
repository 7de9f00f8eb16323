-- Facts that are joined one after the other are told together.
use Rattle.std.proofs.Common.{arith, ◌≡◌, ◌⊎◌, inl, inr, ◌<◌, ◌+◌, ◌==◌, ℕ, zero, suc, Bool, true, false, true≢false, cond, ◌&&◌, ◌||◌, nat_eq, eqb, List, [], ◌∷◌, ◌++◌, map, length, take, get_or, Option, Some, None, IfSome, option_and_then, slice_get, refl, ap, sym, subst, ◌∙◌, ◌/◌, ◌%◌}
use Rattle.std.specs.List.{AllZip, Contains, filter, list_all, list_any}
use Rattle.std.proofs.lemmas.Bool.{eqb-true, eq-eqb}
use Rattle.std.proofs.lemmas.List.{take_more}
use Rattle.std.proofs.lemmas.List.Elements.{Contains-append_left, Contains-get_or, Contains-push, Contains-push_cases, All-filter, All-same, filter-append}
use Rattle.std.proofs.lemmas.List.Folds.{list_all-append, list_any-append}
use Rattle.std.proofs.lemmas.Map.Views.{any-filter_same}
use Rattle.cc_state_reads.specs.CcLattice.Orders.{IsLeastUpperBound}
use Rattle.cc_state_reads.specs.CcLattice.Tables.{AreJoins}
use Rattle.cc_state_reads.specs.CcPlaces.declared.abs.Abs.{Abs}
use Rattle.cc_state_reads.specs.CcPlaces.declared.abs.Abs.TheVariants as abs
use Rattle.cc_state_reads.specs.CcPlaces.Abstract.{AreOfOneKind, IsBelowAbs}
use Rattle.cc_state_reads.specs.CcPlaces.laws.AbstractLaws.{kind_back}
use Rattle.cc_rules_flows.specs.Joins.{flows_to, AreAlikeAt, IsWithTold, IsTogether, IsAsThoseAt}
use Rattle.cc_rules_flows.specs.Kept.{AreAsLong, KeepsShape}
use Rattle.cc_rules_flows.specs.Known.{Tells, AreTold}
use Rattle.cc_rules_flows.proofs.ShapeLemmas.{keeps}
use Rattle.cc_rules_needs.specs.Flowing.{Flowing, of_fact, IsUpper, IsLeastOver, IsJoined}
use Rattle.cc_rules_needs.specs.Points.{IsFactOf, IsWithFlow}
use Rattle.cc_state_reads.specs.CcStateFacts.declared.facts.PointFact.{PointFact}
use Rattle.cc_state_reads.specs.CcStateFacts.declared.facts.Row.{Row}
use Rattle.cc_state_reads.specs.CcStateFacts.Facts.{cell_of, local_of, has_pair, row_length}
use Rattle.cc_state_reads.specs.CcStateFacts.Orders.{AreRowsAlike, ArePointsAlike, AreOrderly, Ascend, is_same, IsJoin, IsRowJoin, IsPointJoin}
use Rattle.cc_state_reads.specs.CcStateFacts.laws.OrderLaws.{kind_itself, point_back}
use Rattle.cc_state_reads.specs.CcStateFacts.laws.Pairs.{kept_ascend}
use Rattle.cc_state_reads.specs.CcStateFacts.laws.Places.{zip_itself, zip_through}

-- ---- of one kind

kind_through : {I : Type 0} (x y z : Abs I) → AreOfOneKind x y → AreOfOneKind y z → AreOfOneKind x z
kind_through (abs.Ints a) (abs.Ints b) z h k = k
kind_through (abs.Ints a) (abs.Addrs t) z h k = absurd h
kind_through (abs.Addrs s) (abs.Ints b) z h k = absurd h
kind_through (abs.Addrs s) (abs.Addrs t) z h k = k

kind_of_below : {I : Type 0} (below : I → I → Type 0) (x y : Abs I) → IsBelowAbs below x y → AreOfOneKind x y
kind_of_below below (abs.Ints a) (abs.Ints b) h = tt
kind_of_below below (abs.Ints a) (abs.Addrs t) h = absurd h
kind_of_below below (abs.Addrs s) (abs.Ints b) h = absurd h
kind_of_below below (abs.Addrs s) (abs.Addrs t) h = tt

module _ {I : Type 0} where
  row_through : (x y z : Row I) → AreRowsAlike x y → AreRowsAlike y z → AreRowsAlike x z
  row_through x y z h k = zip_through AreOfOneKind kind_through x.cells y.cells z.cells h k

  point_through : (x y z : PointFact I) → ArePointsAlike x y → ArePointsAlike y z → ArePointsAlike x z
  point_through x y z h k = record {
    locals = zip_through AreOfOneKind kind_through x.locals y.locals z.locals h.locals k.locals;
    rows = zip_through AreRowsAlike row_through x.rows y.rows z.rows h.rows k.rows;
  }

  point_itself : (x : PointFact I) → ArePointsAlike x x
  point_itself x = record { locals = zip_itself AreOfOneKind kind_itself x.locals; rows = zip_itself AreRowsAlike (λ row. zip_itself AreOfOneKind kind_itself row.cells) x.rows }

-- ---- joins place by place

first_zip : {A : Type 0} (J : A → A → A → Type 0) (R : A → A → Type 0) → ((x y j : A) → J x y j → R x j) → (xs ys js : List A) → AreJoins J xs ys js → AllZip R xs js
first_zip J R each [] [] [] h = tt
first_zip J R each [] [] (c ∷ js) h = absurd h
first_zip J R each [] (b ∷ ys) js h = absurd h
first_zip J R each (a ∷ xs) [] js h = absurd h
first_zip J R each (a ∷ xs) (b ∷ ys) [] h = absurd h
first_zip J R each (a ∷ xs) (b ∷ ys) (c ∷ js) h = (each a b c h.0, first_zip J R each xs ys js h.1)

zip_long : {A B : Type 0} (R : A → B → Type 0) (xs : List A) (ys : List B) → AllZip R xs ys → length ys ≡ length xs
zip_long R [] [] h = refl
zip_long R [] (y ∷ ys) h = absurd h
zip_long R (x ∷ xs) [] h = absurd h
zip_long R (x ∷ xs) (y ∷ ys) h = ap suc (zip_long R xs ys h.1)

abbrev IsJoinIn : {A : Type 0} → (A → A → A → Type 0) → Option A → Option A → Option A → Type 0
IsJoinIn J (Some x) (Some y) (Some j) = J x y j
IsJoinIn J None None None = Unit {0}
IsJoinIn J _ _ _ = ⊥

join_at : {A : Type 0} (J : A → A → A → Type 0) (xs ys js : List A) (n : ℕ) → AreJoins J xs ys js → IsJoinIn J (slice_get xs n) (slice_get ys n) (slice_get js n)
join_at J [] [] [] n h = tt
join_at J [] [] (c ∷ js) n h = absurd h
join_at J [] (b ∷ ys) js n h = absurd h
join_at J (a ∷ xs) [] js n h = absurd h
join_at J (a ∷ xs) (b ∷ ys) [] n h = absurd h
join_at J (a ∷ xs) (b ∷ ys) (c ∷ js) zero h = h.0
join_at J (a ∷ xs) (b ∷ ys) (c ∷ js) (suc n) h = join_at J xs ys js n h.1

-- ---- tests

or_false : (a : Bool) → a ≡ (a || false)
or_false true = refl
or_false false = refl

and_true : (a : Bool) → a ≡ (a && true)
and_true true = refl
and_true false = refl

and_turned : (a b : Bool) → (a && b) ≡ (b && (a && true))
and_turned true true = refl
and_turned true false = refl
and_turned false true = refl
and_turned false false = refl

maps_both : {A B : Type 0} (f : A → B) (xs : List A) (y : A) → map f (xs ++ y ∷ []) ≡ map f xs ++ f y ∷ []
maps_both f [] y = refl
maps_both f (x ∷ xs) y = ap (λ zs. f x ∷ zs) (maps_both f xs y)

pair_is : (a b q j : ℕ) → (nat_eq a q && nat_eq b j) ≡ true → (a ≡ q) × (b ≡ j)
pair_is a b q j h = (grind arith, grind arith)

abbrev is_in : List (ℕ × ℕ) → ℕ → ℕ → Bool
is_in pairs q j = list_any (λ pair. nat_eq pair.0 q && nat_eq pair.1 j) pairs

module _ {I : Type 0} where
  pairs_common : (y : PointFact I) (pairs : List (ℕ × ℕ)) (q j : ℕ) → is_in (filter (is_same y) pairs) q j ≡ (has_pair y q j && is_in pairs q j)
  pairs_common y pairs q j =
      any-filter_same (λ pair. nat_eq pair.0 q && nat_eq pair.1 j) (is_same y) (has_pair y q j)
      (λ k e. let t = pair_is k.0 k.1 q j e in ap (λ a. has_pair y a k.1) t.0 ∙ ap (λ b. has_pair y q b) t.1) pairs

-- ---- the least set above several

none_in : {A : Type 0} (x : A) → Contains [] x → ⊥
none_in x c = let l = c.1 in omega (arith, l)

-- ---- what is told of a point

abbrev pub facts_to : {I : Type 0} → ℕ → List (ℕ × PointFact I) → List (PointFact I)
facts_to k told = map (λ a. a.1) (filter (λ a. a.0 == k) told)

pub item_in : {A : Type 0} (xs : List A) (i : ℕ) (a : A) → i < length xs → a ≡ get_or xs i a → Contains xs a
item_in xs i a l is = subst (Contains xs) (sym is) (Contains-get_or xs i a l)

module _ {I : Type 0} (below : I → I → Type 0) where
  -- facts that are joined
  pub record AreJoinedTo (facts : List (PointFact I)) (z : PointFact I) : Type 0 where
    pub off : z.off ≡ list_any (λ (x : PointFact I). x.off) facts
    pub on : z.on ≡ list_any (λ (x : PointFact I). x.on) facts
    pub locals : (r : ℕ) → IsLeastOver below (map (λ (x : PointFact I). local_of x r) facts) (local_of z r)
    pub cells : (j : ℕ) → IsLeastOver below (map (λ (x : PointFact I). cell_of x j) facts) (cell_of z j)
    pub pairs : (r j : ℕ) → has_pair z r j ≡ list_all (λ (x : PointFact I). has_pair x r j) facts

  pub record IsKnownTo (k : ℕ) (told : List (ℕ × PointFact I)) (facts : List (PointFact I)) (z : PointFact I) : Type 0 where
    pub joined : AreJoinedTo facts z
    pub some : (x : PointFact I) × (rest : List (PointFact I)) × (facts ≡ x ∷ rest)
    pub like : IsAsThoseAt k told z

  abbrev pub AreKnownTo : ℕ → List (ℕ × PointFact I) → List (PointFact I) → Option (PointFact I) → Type 0
  AreKnownTo k told facts None = facts ≡ []
  AreKnownTo k told facts (Some z) = IsKnownTo k told facts z

  module _ (self : (x : Abs I) → IsBelowAbs below x x) (through : (x y z : Abs I) → IsBelowAbs below x y → IsBelowAbs below y z → IsBelowAbs below x z) where
    least_of_one : (y : Option (Abs I)) → IsLeastOver below (y ∷ []) y
    least_of_one None = λ x c. none_of_one x (Contains-push_cases [] None (Some x) c)
      where
        none_of_one : (x : Abs I) → Contains [] (Some x) ⊎ (None ≡ Some x) → ⊥
        none_of_one x (inl c) = none_in (Some x) c
        none_of_one x (inr e) = cc
    least_of_one (Some y) = (λ x c. is_that x (Contains-push_cases [] (Some y) (Some x) c), λ u h. (h y (Contains-push [] (Some y))).1)
      where
        is_that : (x : Abs I) → Contains [] (Some x) ⊎ (Some y ≡ Some x) → AreOfOneKind x y × IsBelowAbs below x y
        is_that x (inl c) = absurd (none_in (Some x) c)
        is_that x (inr e) = let s : y ≡ x = cc in (subst (λ w. AreOfOneKind w y) s (kind_itself y), subst (λ w. IsBelowAbs below w y) s (self y))

    upper_more : (ys : List (Option (Abs I))) (z y w x : Abs I) → IsUpper below ys z → IsJoin below z y w → Contains ys (Some x) ⊎ (Some y ≡ Some x) → AreOfOneKind x w × IsBelowAbs below x w
    upper_more ys z y w x h j (inl c) = let t = h x c in (kind_through x z w t.0 j.left_alike, through x z w t.1 j.left)
    upper_more ys z y w x h j (inr e) = let s : y ≡ x = cc in (subst (λ v. AreOfOneKind v w) s j.right_alike, subst (λ v. IsBelowAbs below v w) s j.right)

    least_more : (ys : List (Option (Abs I))) (z y w : Option (Abs I)) → IsLeastOver below ys z → IsJoinIn (IsJoin below) z y w → IsLeastOver below (ys ++ y ∷ []) w
    least_more ys None None None h j = λ x c. none_more x (Contains-push_cases ys None (Some x) c)
      where
        none_more : (x : Abs I) → Contains ys (Some x) ⊎ (None ≡ Some x) → ⊥
        none_more x (inl c) = h x c
        none_more x (inr e) = cc
    least_more ys None None (Some w) h j = absurd j
    least_more ys None (Some y) w h j = absurd j
    least_more ys (Some z) None w h j = absurd j
    least_more ys (Some z) (Some y) None h j = absurd j
    least_more ys (Some z) (Some y) (Some w) h j = (
      λ x c. upper_more ys z y w x h.0 j (Contains-push_cases ys (Some y) (Some x) c),
      λ u up.
          let lz = h.1 u (λ x c. up x (Contains-append_left ys (Some y ∷ []) (Some x) c)) in
          let ty = up y (Contains-push ys (Some y)) in
          j.least u (kind_of_below below z u lz) ty.0 lz ty.1,
    )

    -- ---- facts that are joined

    joined_one : (y : PointFact I) → AreJoinedTo (y ∷ []) y
    joined_one y = record {
      off = or_false y.off;
      on = or_false y.on;
      locals = λ r. least_of_one (local_of y r);
      cells = λ j. least_of_one (cell_of y j);
      pairs = λ r j. and_true (has_pair y r j);
    }

    cells_at : (z y w : Option (Row I)) (n : ℕ) → IsJoinIn (IsRowJoin below) z y w →
        IsJoinIn (IsJoin below) (option_and_then (λ (row : Row I). slice_get row.cells n) z) (option_and_then (λ (row : Row I). slice_get row.cells n) y) (option_and_then (λ (row : Row I). slice_get row.cells n) w)
    cells_at None None None n h = tt
    cells_at None None (Some w) n h = absurd h
    cells_at None (Some y) w n h = absurd h
    cells_at (Some z) None w n h = absurd h
    cells_at (Some z) (Some y) None n h = absurd h
    cells_at (Some z) (Some y) (Some w) n h = join_at (IsJoin below) z.cells y.cells w.cells n h

    joined_more : (facts : List (PointFact I)) (z y w : PointFact I) → AreJoinedTo facts z → IsPointJoin below z y w → AreJoinedTo (facts ++ y ∷ []) w
    joined_more facts z y w h j = record {
      off = j.off ∙ ap (λ b. b || y.off) h.off ∙ ap (λ b. list_any (λ (x : PointFact I). x.off) facts || b) (or_false y.off) ∙ sym (list_any-append (λ (x : PointFact I). x.off) facts (y ∷ []));
      on = j.on ∙ ap (λ b. b || y.on) h.on ∙ ap (λ b. list_any (λ (x : PointFact I). x.on) facts || b) (or_false y.on) ∙ sym (list_any-append (λ (x : PointFact I). x.on) facts (y ∷ []));
      locals = λ r. subst (λ ys. IsLeastOver below ys (local_of w r)) (sym (maps_both (λ (x : PointFact I). local_of x r) facts y))
          (least_more (map (λ (x : PointFact I). local_of x r) facts) (local_of z r) (local_of y r) (local_of w r) (h.locals r) (join_at (IsJoin below) z.locals y.locals w.locals r j.locals));
      cells = λ c. subst (λ ys. IsLeastOver below ys (cell_of w c)) (sym (maps_both (λ (x : PointFact I). cell_of x c) facts y))
          (least_more (map (λ (x : PointFact I). cell_of x c) facts) (cell_of z c) (cell_of y c) (cell_of w c) (h.cells c)
          (cells_at (slice_get z.rows (c / row_length)) (slice_get y.rows (c / row_length)) (slice_get w.rows (c / row_length)) (c % row_length) (join_at (IsRowJoin below) z.rows y.rows w.rows (c / row_length) j.rows)));
      pairs = λ r c. ap (λ ps. is_in ps r c) j.same ∙ pairs_common y z.same r c ∙ and_turned (has_pair y r c) (has_pair z r c) ∙ ap (λ b. b && (has_pair y r c && true)) (h.pairs r c)
          ∙ sym (list_all-append (λ (x : PointFact I). has_pair x r c) facts (y ∷ []));
    }

    -- ---- what the join of two is like

    set_long : (x y j : Abs I) → IsJoin below x y j → AreOfOneKind x j
    set_long x y j h = h.left_alike

    row_alike : (x y j : Row I) → IsRowJoin below x y j → AreRowsAlike x j
    row_alike x y j h = first_zip (IsJoin below) AreOfOneKind set_long x.cells y.cells j.cells h

    join_alike : (z y w : PointFact I) → IsPointJoin below z y w → ArePointsAlike z w
    join_alike z y w j = record { locals = first_zip (IsJoin below) AreOfOneKind set_long z.locals y.locals w.locals j.locals; rows = first_zip (IsRowJoin below) AreRowsAlike row_alike z.rows y.rows w.rows j.rows }

    row_long : (x y j : Row I) → IsRowJoin below x y j → AreAsLong x j
    row_long x y j h = sym (zip_long AreOfOneKind x.cells j.cells (row_alike x y j h))

    join_shaped : (registers cells : ℕ) (z y w : PointFact I) → IsPointJoin below z y w → KeepsShape registers cells z w
    join_shaped registers cells z y w j =
        let P = λ (pair : ℕ × ℕ). (pair.0 < registers) × (pair.1 < cells) in
        keeps registers cells z w (zip_long AreOfOneKind z.locals w.locals (join_alike z y w j).locals) (first_zip (IsRowJoin below) AreAsLong row_long z.rows y.rows w.rows j.rows)
        (λ o. subst Ascend (sym j.same) (kept_ascend (is_same y) z.same o))
        (λ b. All-same P w.same (filter (is_same y) z.same) j.same (All-filter (is_same y) P z.same b))

    as_first : (k : ℕ) (told : List (ℕ × PointFact I)) (y : PointFact I) → AreAlikeAt k told → Contains told (k, y) → IsAsThoseAt k told y
    as_first k told y a c = record { alike = λ x i. a x y i c; orderly = λ o. o y c; of = λ registers cells f. f y c }

    as_more : (k : ℕ) (told : List (ℕ × PointFact I)) (z y w : PointFact I) → IsAsThoseAt k told z → IsPointJoin below z y w → IsAsThoseAt k told w
    as_more k told z y w h j = record {
      alike = λ x i. point_through x z w (h.alike x i) (join_alike z y w j);
      orderly = λ o. (join_shaped 0 0 z y w j).orderly (h.orderly o);
      of = λ registers cells f. (join_shaped registers cells z y w j).of (h.of registers cells f);
    }

    known_more : (k : ℕ) (told : List (ℕ × PointFact I)) (facts : List (PointFact I)) (known : Option (PointFact I)) (y w : PointFact I) → AreAlikeAt k told → Contains told (k, y) → AreKnownTo k told facts known →
        IsWithFlow below known y w → IsKnownTo k told (facts ++ y ∷ []) w
    known_more k told facts None y w a c h f = subst (IsKnownTo k told (facts ++ y ∷ [])) (sym f) (subst (λ xs. IsKnownTo k told (xs ++ y ∷ []) y) (sym h)
        (record { joined = joined_one y; some = (y, [], refl); like = as_first k told y a c }))
    known_more k told facts (Some z) y w a c h f = record {
      joined = joined_more facts z y w h.joined f;
      some = (h.some.0, h.some.1 ++ y ∷ [], ap (λ xs. xs ++ y ∷ []) h.some.2);
      like = as_more k told z y w h.like f;
    }

    told_more : (k : ℕ) (told : List (ℕ × PointFact I)) (a : ℕ × PointFact I) (b : Bool) → (a.0 == k) ≡ b → facts_to k (told ++ a ∷ []) ≡ facts_to k told ++ cond b (a.1 ∷ []) []
    told_more k told a b e =
        ap (map (λ (x : ℕ × PointFact I). x.1)) (filter-append (λ (x : ℕ × PointFact I). x.0 == k) told (a ∷ []) ∙ ap (λ b. filter (λ (x : ℕ × PointFact I). x.0 == k) told ++ cond b (a ∷ []) []) e) ∙ maps_cond b
      where
        no_more : (xs : List (PointFact I)) → xs ++ [] ≡ xs
        no_more [] = refl
        no_more (x ∷ xs) = ap (λ ys. x ∷ ys) (no_more xs)

        no_told : (xs : List (ℕ × PointFact I)) → xs ++ [] ≡ xs
        no_told [] = refl
        no_told (x ∷ xs) = ap (λ ys. x ∷ ys) (no_told xs)

        maps_cond : (b : Bool) → map (λ (x : ℕ × PointFact I). x.1) (filter (λ (x : ℕ × PointFact I). x.0 == k) told ++ cond b (a ∷ []) []) ≡ facts_to k told ++ cond b (a.1 ∷ []) []
        maps_cond true = maps_both (λ (x : ℕ × PointFact I). x.1) (filter (λ (x : ℕ × PointFact I). x.0 == k) told) a
        maps_cond false = ap (map (λ (x : ℕ × PointFact I). x.1)) (no_told (filter (λ (x : ℕ × PointFact I). x.0 == k) told)) ∙ sym (no_more (facts_to k told))

    known_by : (k : ℕ) (told : List (ℕ × PointFact I)) (front : List (ℕ × PointFact I)) (a : ℕ × PointFact I) (known both : Option (PointFact I)) (b : Bool) → (a.0 == k) ≡ b → AreAlikeAt k told → Contains told a →
        AreKnownTo k told (facts_to k front) known → IsWithTold below k known a both → AreKnownTo k told (facts_to k front ++ cond b (a.1 ∷ []) []) both
    known_by k told front a known both true e l c h w =
        let s : a.0 ≡ k = eqb-true a.0 k e in
        let t = w.0 s in
        let i : Contains told (k, a.1) = subst (λ n. Contains told (n, a.1)) s c in
        subst (AreKnownTo k told (facts_to k front ++ a.1 ∷ [])) (sym t.1) (known_more k told (facts_to k front) known a.1 t.0 l i h t.2)
    known_by k told front a known both false e l c h w =
        let s : both ≡ known = w.1 (λ m. true≢false (sym (eq-eqb a.0 k m) ∙ e)) in
        subst (λ xs. AreKnownTo k told xs both) (sym (none_behind (facts_to k front))) (subst (AreKnownTo k told (facts_to k front)) (sym s) h)
      where
        none_behind : (xs : List (PointFact I)) → xs ++ [] ≡ xs
        none_behind [] = refl
        none_behind (x ∷ xs) = ap (λ ys. x ∷ ys) (none_behind xs)

    pub known_next : (k : ℕ) (told : List (ℕ × PointFact I)) (i : ℕ) (a : ℕ × PointFact I) (known both : Option (PointFact I)) → AreAlikeAt k told → i < length told → a ≡ get_or told i a → Contains told a →
        AreKnownTo k told (facts_to k (take i told)) known → IsWithTold below k known a both → AreKnownTo k told (facts_to k (take (i + 1) told)) both
    known_next k told i a known both l n is c h w =
        let more : take (i + 1) told ≡ take i told ++ a ∷ [] = take_more told i a n ∙ ap (λ x. take i told ++ x ∷ []) (sym is) in
        subst (λ xs. AreKnownTo k told xs both) (sym (ap (facts_to k) more ∙ told_more k (take i told) a (a.0 == k) refl))
        (known_by k told (take i told) a known both (a.0 == k) refl l c h w)

    -- what is known is like the next fact of the point
    pub like_next : (k : ℕ) (told : List (ℕ × PointFact I)) (facts : List (PointFact I)) (known : Option (PointFact I)) (a : ℕ × PointFact I) → Contains told a → AreKnownTo k told facts known → a.0 ≡ k →
        IfSome known (λ z. ArePointsAlike z a.1)
    like_next k told facts None a c h e = tt
    like_next k told facts (Some z) a c h e = point_back a.1 z (h.like.alike a.1 (subst (λ n. Contains told (n, a.1)) e c))

    -- ---- flows that facts tell

    told_by : (k : ℕ) (a : ℕ × PointFact I) (f : ℕ × Flowing I) (told : List (ℕ × PointFact I)) (flows : List (ℕ × Flowing I)) (b : Bool) → (a.0 == k) ≡ b → (f.0 == k) ≡ b → Tells a.1 f.1 →
        AllZip Tells (map (λ (x : ℕ × PointFact I). x.1) told) (map (λ (x : ℕ × Flowing I). x.1) flows) →
        AllZip Tells (map (λ (x : ℕ × PointFact I). x.1) (cond (a.0 == k) (a ∷ told) told)) (map (λ (x : ℕ × Flowing I). x.1) (cond (f.0 == k) (f ∷ flows) flows))
    told_by k a f told flows b e g t h =
        subst (λ c. AllZip Tells (map (λ (x : ℕ × PointFact I). x.1) (cond c (a ∷ told) told)) (map (λ (x : ℕ × Flowing I). x.1) (cond (f.0 == k) (f ∷ flows) flows))) (sym e)
        (subst (λ c. AllZip Tells (map (λ (x : ℕ × PointFact I). x.1) (cond b (a ∷ told) told)) (map (λ (x : ℕ × Flowing I). x.1) (cond c (f ∷ flows) flows))) (sym g) (either b))
      where
        either : (b : Bool) → AllZip Tells (map (λ (x : ℕ × PointFact I). x.1) (cond b (a ∷ told) told)) (map (λ (x : ℕ × Flowing I). x.1) (cond b (f ∷ flows) flows))
        either true = (t, h)
        either false = h

    told_to : (k : ℕ) (told : List (ℕ × PointFact I)) (flows : List (ℕ × Flowing I)) → AreTold told flows → AllZip Tells (facts_to k told) (flows_to k flows)
    told_to k [] [] h = tt
    told_to k [] (f ∷ flows) h = absurd h
    told_to k (a ∷ told) [] h = absurd h
    told_to k (a ∷ told) (f ∷ flows) h =
        told_by k a f (filter (λ (x : ℕ × PointFact I). x.0 == k) told) (filter (λ (x : ℕ × Flowing I). x.0 == k) flows) (a.0 == k) refl (ap (λ n. n == k) (sym h.0.0)) h.0.1 (told_to k told flows h.1)

    same_maps : {B : Type 0} (f : PointFact I → B) (g : Flowing I → B) → ((x : PointFact I) (y : Flowing I) → Tells x y → f x ≡ g y) → (xs : List (PointFact I)) (ys : List (Flowing I)) → AllZip Tells xs ys → map f xs ≡ map g ys
    same_maps f g each [] [] h = refl
    same_maps f g each [] (y ∷ ys) h = absurd h
    same_maps f g each (x ∷ xs) [] h = absurd h
    same_maps f g each (x ∷ xs) (y ∷ ys) h = ap (λ z. z ∷ map f xs) (each x y h.0) ∙ ap (λ zs. g y ∷ zs) (same_maps f g each xs ys h.1)

    same_any : (f : PointFact I → Bool) (g : Flowing I → Bool) → ((x : PointFact I) (y : Flowing I) → Tells x y → f x ≡ g y) → (xs : List (PointFact I)) (ys : List (Flowing I)) → AllZip Tells xs ys → list_any f xs ≡ list_any g ys
    same_any f g each [] [] h = refl
    same_any f g each [] (y ∷ ys) h = absurd h
    same_any f g each (x ∷ xs) [] h = absurd h
    same_any f g each (x ∷ xs) (y ∷ ys) h = ap (λ b. b || list_any f xs) (each x y h.0) ∙ ap (λ b. g y || b) (same_any f g each xs ys h.1)

    same_all : (f : PointFact I → Bool) (g : Flowing I → Bool) → ((x : PointFact I) (y : Flowing I) → Tells x y → f x ≡ g y) → (xs : List (PointFact I)) (ys : List (Flowing I)) → AllZip Tells xs ys → list_all f xs ≡ list_all g ys
    same_all f g each [] [] h = refl
    same_all f g each [] (y ∷ ys) h = absurd h
    same_all f g each (x ∷ xs) [] h = absurd h
    same_all f g each (x ∷ xs) (y ∷ ys) h = ap (λ b. b && list_all f xs) (each x y h.0) ∙ ap (λ b. g y && b) (same_all f g each xs ys h.1)

    joined_flows : (facts : List (PointFact I)) (flows : List (Flowing I)) (z : PointFact I) → AllZip Tells facts flows → AreJoinedTo facts z → IsJoined below flows (of_fact z)
    joined_flows facts flows z t h = record {
      off = h.off ∙ same_any (λ (x : PointFact I). x.off) (λ (y : Flowing I). y.off) (λ x y t. t.off) facts flows t;
      on = h.on ∙ same_any (λ (x : PointFact I). x.on) (λ (y : Flowing I). y.on) (λ x y t. t.on) facts flows t;
      locals = λ r. subst (λ ys. IsLeastOver below ys (local_of z r)) (same_maps (λ (x : PointFact I). local_of x r) (λ (y : Flowing I). y.local r) (λ x y t. t.locals r) facts flows t) (h.locals r);
      cells = λ j. subst (λ ys. IsLeastOver below ys (cell_of z j)) (same_maps (λ (x : PointFact I). cell_of x j) (λ (y : Flowing I). y.cell j) (λ x y t. t.cells j) facts flows t) (h.cells j);
      pairs = λ r j. h.pairs r j ∙ same_all (λ (x : PointFact I). has_pair x r j) (λ (y : Flowing I). y.pair r j) (λ x y t. t.pairs r j) facts flows t;
    }

    together : (k : ℕ) (told : List (ℕ × PointFact I)) (facts : List (PointFact I)) (flows : List (Flowing I)) (both : Option (PointFact I)) → AllZip Tells facts flows → AreKnownTo k told facts both → IsTogether below flows both
    together k told [] [] None t h = refl
    together k told [] [] (Some z) t h = let e = h.some.2 in absurd (cc)
    together k told [] (f ∷ flows) both t h = absurd t
    together k told (a ∷ facts) [] both t h = absurd t
    together k told (a ∷ facts) (f ∷ flows) None t h = absurd (cc)
    together k told (a ∷ facts) (f ∷ flows) (Some z) t h = (z, refl, joined_flows (a ∷ facts) (f ∷ flows) z t h.joined)

    pub all_together : (k : ℕ) (told : List (ℕ × PointFact I)) (both : Option (PointFact I)) → AreKnownTo k told (facts_to k told) both → (flows : List (ℕ × Flowing I)) → AreTold told flows → IsTogether below (flows_to k flows) both
    all_together k told both h flows t = together k told (facts_to k told) (flows_to k flows) both (told_to k told flows t) h

    pub as_those : (k : ℕ) (told : List (ℕ × PointFact I)) (facts : List (PointFact I)) (both : Option (PointFact I)) → AreKnownTo k told facts both → IfSome both (IsAsThoseAt k told)
    as_those k told facts None h = tt
    as_those k told facts (Some z) h = h.like
