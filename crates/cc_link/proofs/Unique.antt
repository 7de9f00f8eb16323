-- Sources link to at most one program: which structures are one type says for each of them which number it has.
use Rattle.std.proofs.Common.{◌≡◌, ◌∙◌, ◌+◌, ◌<◌, ◌≤◌, ◌⊎◌, inl, inr, ℕ, zero, suc, Bool, true, false, cond, List, [], ◌∷◌, ◌++◌, length, get_or, map, Option, Some, None, refl, ap, sym, subst, true≢false, arith}
use Rattle.std.specs.Prelude.{◌↔◌, ◌≢◌, filter, nat_eq, not, slice_get, unwrap_or}
use Rattle.std.specs.List.{Contains}
use Rattle.std.proofs.lemmas.Bool.{eqb-true, eq-eqb, ne_eqb}
use Rattle.std.proofs.lemmas.Bool.Decides.{eqb_tells}
use Rattle.std.proofs.lemmas.Option.{unwrap_or-slice_get}
use Rattle.cc_structures.specs.Structures.{Known, Numbering, known_in, known_from, structures, number_of, numbers_of, has_one_number, firsts_of, HavePositions, is_complete, in_program_order, Fits, IsOne, AreNumbered}
use Rattle.cc_unit.specs.Renumbered.{structure_by}
use Rattle.cc_unit.specs.declared.unit.TypedUnit.{TypedUnit}
use Rattle.cc_unit.specs.declared.unit.UnitStructure.{UnitStructure}

-- ---- elements of lists

abbrev Every : {X : Type 0} → (X → Type 0) → List X → Type 0
Every P [] = Unit {0}
Every P (x ∷ xs) = P x × Every P xs

abbrev In : {X : Type 0} → X → List X → Type 0
In x [] = ⊥
In x (y ∷ ys) = (x ≡ y) ⊎ In x ys

every_filter : {X : Type 0} (P : X → Type 0) (p : X → Bool) (xs : List X) → Every P xs → Every P (filter p xs)
every_filter P p [] e = tt
every_filter P p (x ∷ xs) e = by (p x) (every_filter P p xs e.1)
  where
    by : (b : Bool) → Every P (filter p xs) → Every P (cond b (x ∷ filter p xs) (filter p xs))
    by true rest = (e.0, rest)
    by false rest = rest

every_append : {X : Type 0} (P : X → Type 0) (xs ys : List X) → Every P xs → Every P ys → Every P (xs ++ ys)
every_append P [] ys e f = f
every_append P (x ∷ xs) ys e f = (e.0, every_append P xs ys e.1 f)

every_in : {X : Type 0} (P : X → Type 0) (x : X) (xs : List X) → Every P xs → In x xs → P x
every_in P x [] e h = absurd h
every_in P x (y ∷ ys) e (inl same) = subst P (sym same) e.0
every_in P x (y ∷ ys) e (inr later) = every_in P x ys e.1 later

in_filter : {X : Type 0} (p : X → Bool) (x : X) (xs : List X) → In x xs → p x ≡ true → In x (filter p xs)
in_filter p x [] h passes = absurd h
in_filter p x (y ∷ ys) (inl same) passes = by (p y) refl
  where
    by : (b : Bool) → p y ≡ b → In x (cond b (y ∷ filter p ys) (filter p ys))
    by true e = inl same
    by false e = absurd (true≢false (sym (ap p (sym same) ∙ passes) ∙ e))
in_filter p x (y ∷ ys) (inr later) passes = by (p y) (in_filter p x ys later passes)
  where
    by : (b : Bool) → In x (filter p ys) → In x (cond b (y ∷ filter p ys) (filter p ys))
    by true rest = inr rest
    by false rest = rest

in_left : {X : Type 0} (x : X) (xs ys : List X) → In x xs → In x (xs ++ ys)
in_left x [] ys h = absurd h
in_left x (z ∷ zs) ys (inl same) = inl same
in_left x (z ∷ zs) ys (inr later) = inr (in_left x zs ys later)

in_right : {X : Type 0} (x : X) (xs ys : List X) → In x ys → In x (xs ++ ys)
in_right x [] ys h = h
in_right x (z ∷ zs) ys h = inr (in_right x zs ys h)

-- ---- the first of each number

module _ (n m : Numbering) (P : Known → Type 0)
    (alike : (s t : Known) → P s → P t → (number_of n s ≡ number_of n t → number_of m s ≡ number_of m t) × (number_of m s ≡ number_of m t → number_of n s ≡ number_of n t)) where
  same_test : (s t : Known) → P s → P t → nat_eq (number_of n s) (number_of n t) ≡ nat_eq (number_of m s) (number_of m t)
  same_test s t p q = by (eqb_tells (number_of n s) (number_of n t))
    where
      by : ((nat_eq (number_of n s) (number_of n t) ≡ true) × (number_of n s ≡ number_of n t)) ⊎ ((nat_eq (number_of n s) (number_of n t) ≡ false) × (number_of n s ≢ number_of n t)) →
          nat_eq (number_of n s) (number_of n t) ≡ nat_eq (number_of m s) (number_of m t)
      by (inl h) = h.0 ∙ sym (eq-eqb (number_of m s) (number_of m t) ((alike s t p q).0 h.1))
      by (inr h) = h.0 ∙ sym (ne_eqb (number_of m s) (number_of m t) (λ e. h.1 ((alike s t p q).1 e)))

  same_filter : (s : Known) (ts : List Known) → P s → Every P ts → filter (λ t. not (nat_eq (number_of n s) (number_of n t))) ts ≡ filter (λ t. not (nat_eq (number_of m s) (number_of m t))) ts
  same_filter s [] p e = refl
  same_filter s (t ∷ ts) p e =
      ap (λ b. cond (not b) (t ∷ filter (λ t. not (nat_eq (number_of n s) (number_of n t))) ts) (filter (λ t. not (nat_eq (number_of n s) (number_of n t))) ts)) (same_test s t p e.0)
      ∙ ap (λ l. cond (not (nat_eq (number_of m s) (number_of m t))) (t ∷ l) l) (same_filter s ts p e.1)

  every_first : (ss : List Known) → Every P ss → Every P (firsts_of n ss)
  every_first [] e = tt
  every_first (s ∷ ss) e = (e.0, every_filter P (λ t. not (nat_eq (number_of n s) (number_of n t))) (firsts_of n ss) (every_first ss e.1))

  pub same_firsts : (ss : List Known) → Every P ss → firsts_of n ss ≡ firsts_of m ss
  same_firsts [] e = refl
  same_firsts (s ∷ ss) e =
      ap (λ l. s ∷ l) (same_filter s (firsts_of n ss) e.0 (every_first ss e.1)
      ∙ ap (filter (λ t. not (nat_eq (number_of m s) (number_of m t)))) (same_firsts ss e.1))

-- each structure has the number of a first one
abbrev HasFirst : Numbering → Known → List Known → Type 0
HasFirst n s firsts = (t : Known) × (In t firsts × (number_of n s ≡ number_of n t))

has_first : (n : Numbering) (s : Known) (ss : List Known) → In s ss → HasFirst n s (firsts_of n ss)
has_first n s [] h = absurd h
has_first n s (x ∷ xs) (inl same) = (x, (inl refl, ap (number_of n) same))
has_first n s (x ∷ xs) (inr later) = by (has_first n s xs later)
  where
    or_itself : (t : Known) → In t (firsts_of n xs) → number_of n s ≡ number_of n t → (b : Bool) → nat_eq (number_of n x) (number_of n t) ≡ b → HasFirst n s (firsts_of n (x ∷ xs))
    or_itself t there same true e = (x, (inl refl, same ∙ sym (eqb-true (number_of n x) (number_of n t) e)))
    or_itself t there same false e = (t, (inr (in_filter (λ t. not (nat_eq (number_of n x) (number_of n t))) t (firsts_of n xs) there (ap not e)), same))

    by : HasFirst n s (firsts_of n xs) → HasFirst n s (firsts_of n (x ∷ xs))
    by (t, (there, same)) = or_itself t there same (nat_eq (number_of n x) (number_of n t)) refl

-- ---- positions

same_positions : (n m : Numbering) (i : ℕ) (ss : List Known) → HavePositions n i ss → HavePositions m i ss → Every (λ s. number_of n s ≡ number_of m s) ss
same_positions n m i [] h k = tt
same_positions n m i (s ∷ ss) h k = (h.0 ∙ sym k.0, same_positions n m (suc i) ss h.1 k.1)

-- ---- all structures

contains_in : {X : Type 0} (x : X) (xs : List X) → In x xs → Contains xs x
contains_in x [] h = absurd h
contains_in x (y ∷ ys) (inl same) = (0, omega arith, sym same)
contains_in x (y ∷ ys) (inr later) = let c = contains_in x ys later in (suc c.0, omega (arith, c.1), c.2)

each_of : {X : Type 0} (P : X → Type 0) (xs : List X) → ((x : X) → In x xs → P x) → Every P xs
each_of P [] all = tt
each_of P (x ∷ xs) all = (all x (inl refl), each_of P xs (λ y h. all y (inr h)))

in_program : (units : List TypedUnit) (s : Known) → In s (structures units) → In s (in_program_order units)
in_program units s h = by (is_complete s) refl
  where
    by : (b : Bool) → is_complete s ≡ b → In s (in_program_order units)
    by true e = in_right s (filter (λ t. not (is_complete t)) (structures units)) (filter is_complete (structures units)) (in_filter is_complete s (structures units) h e)
    by false e = in_left s (filter (λ t. not (is_complete t)) (structures units)) (filter is_complete (structures units)) (in_filter (λ t. not (is_complete t)) s (structures units) h (ap not e))

every_program : (P : Known → Type 0) (units : List TypedUnit) → Every P (structures units) → Every P (in_program_order units)
every_program P units e =
    every_append P (filter (λ t. not (is_complete t)) (structures units)) (filter is_complete (structures units))
    (every_filter P (λ t. not (is_complete t)) (structures units) e) (every_filter P is_complete (structures units) e)

-- ---- rows of numbers

same_numbers : (xs ys : List ℕ) → length xs ≡ length ys → ((i : ℕ) → i < length xs → get_or xs i 0 ≡ get_or ys i 0) → xs ≡ ys
same_numbers [] [] len at = refl
same_numbers [] (y ∷ ys) len at = absurd (omega (arith, len))
same_numbers (x ∷ xs) [] len at = absurd (omega (arith, len))
same_numbers (x ∷ xs) (y ∷ ys) len at =
    let front : x ≡ y = at 0 (omega arith) in
    let rest : xs ≡ ys = same_numbers xs ys (omega (arith, len)) (λ i h. at (suc i) (omega (arith, h))) in
    ap (λ z. z ∷ xs) front ∙ ap (λ zs. y ∷ zs) rest

same_rows : (rows others : List (List ℕ)) → map length rows ≡ map length others → ((t i : ℕ) → t < length rows → i < length (get_or rows t []) → get_or (get_or rows t []) i 0 ≡ get_or (get_or others t []) i 0) → rows ≡ others
same_rows [] [] len at = refl
same_rows [] (y ∷ ys) len at = absurd (cc)
same_rows (x ∷ xs) [] len at = absurd (cc)
same_rows (x ∷ xs) (y ∷ ys) len at =
    let front : length x ≡ length y = cc in
    let behind : map length xs ≡ map length ys = cc in
    let first : x ≡ y = same_numbers x y front (λ i h. at 0 i (omega arith) h) in
    let rest : xs ≡ ys = same_rows xs ys behind (λ t i h k. at (suc t) i (omega (arith, h)) k) in
    ap (λ z. z ∷ xs) first ∙ ap (λ zs. y ∷ zs) rest

-- ---- the structure at a position

abbrev At : ℕ → ℕ → Known → Type 0
At text position s = (s.text ≡ text) × (s.position ≡ position)

known_in_at : (text first : ℕ) (ss : List UnitStructure) (i : ℕ) → i < length ss → (s : Known) × (In s (known_in text first ss) × At text (first + i) s)
known_in_at text first [] i h = absurd (omega (arith, h))
known_in_at text first (x ∷ xs) zero h = (record { text = text; position = first; structure = x }, (inl refl, (refl, omega arith)))
known_in_at text first (x ∷ xs) (suc i) h =
    let k = known_in_at text (suc first) xs i (omega (arith, h)) in
    (k.0, (inr k.1.0, (k.1.1.0, let e = k.1.1.1 in omega (arith, e))))

no_unit : TypedUnit
no_unit = record { structures = []; names = [] }

known_at : (base : ℕ) (units : List TypedUnit) (t i : ℕ) (row : ℕ) → get_or (map (λ (u : TypedUnit). length u.structures) units) t 0 ≡ row → i < row → (s : Known) × (In s (known_from base units) × At (base + t) i s)
known_at base [] t i row is h = absurd (omega (arith, is, h))
known_at base (u ∷ us) zero i row is h =
    let k = known_in_at base 0 u.structures i (omega (arith, is, h)) in
    (k.0, (in_left k.0 (known_in base 0 u.structures) (known_from (suc base) us) k.1.0, ((let e = k.1.1.0 in omega (arith, e)), (let e = k.1.1.1 in omega (arith, e)))))
known_at base (u ∷ us) (suc t) i row is h =
    let k = known_at (suc base) us t i row is h in
    (k.0, (in_right k.0 (known_in base 0 u.structures) (known_from (suc base) us) k.1.0, ((let e = k.1.1.0 in omega (arith, e)), k.1.1.1)))

by_default : (o : Option ℕ) → structure_by o ≡ unwrap_or o 0
by_default None = refl
by_default (Some i) = refl

-- the number of a structure, in rows
number_is : (n : Numbering) (s : Known) (t i : ℕ) → At t i s → number_of n s ≡ get_or (get_or n t []) i 0
number_is n s t i at =
    ap (λ k. structure_by (slice_get (numbers_of n k) s.position)) at.0
    ∙ (ap (λ k. structure_by (slice_get (numbers_of n t) k)) at.1
    ∙ (by_default (slice_get (numbers_of n t) i)
    ∙ (unwrap_or-slice_get (numbers_of n t) i 0
    ∙ ap (λ row. get_or row i 0) (unwrap_or-slice_get n t []))))

lengths_at : (rows : List (List ℕ)) (t : ℕ) → get_or (map length rows) t 0 ≡ length (get_or rows t [])
lengths_at [] t = refl
lengths_at (x ∷ xs) zero = refl
lengths_at (x ∷ xs) (suc t) = lengths_at xs t

zero_left : (t : ℕ) → 0 + t ≡ t
zero_left t = omega arith

-- ---- one numbering

module _ (units : List TypedUnit) (n m : Numbering) (f g : List Known) (a : AreNumbered units n f) (b : AreNumbered units m g) where
  abbrev There : Known → Type 0
  There s = Contains (structures units) s

  alike : (s t : Known) → There s → There t → (number_of n s ≡ number_of n t → number_of m s ≡ number_of m t) × (number_of m s ≡ number_of m t → number_of n s ≡ number_of n t)
  alike s t p q = ((λ e. (b.one s t p q).1 ((a.one s t p q).0 e)), (λ e. (a.one s t p q).1 ((b.one s t p q).0 e)))

  every_there : Every There (in_program_order units)
  every_there = every_program There units (each_of There (structures units) (λ x h. contains_in x (structures units) h))

  pub one_firsts : f ≡ g
  one_firsts = a.first ∙ (same_firsts n m There alike (in_program_order units) every_there ∙ sym b.first)

  firsts_agree : Every (λ s. number_of n s ≡ number_of m s) f
  firsts_agree = same_positions n m 0 f a.position (subst (HavePositions m 0) (sym one_firsts) b.position)

  firsts_there : Every There f
  firsts_there = subst (Every There) (sym a.first) (every_first n m There alike (in_program_order units) every_there)

  one_number : (s : Known) → In s (structures units) → number_of n s ≡ number_of m s
  one_number s h = by (subst (HasFirst n s) (sym a.first) (has_first n s (in_program_order units) (in_program units s h)))
    where
      by : HasFirst n s f → number_of n s ≡ number_of m s
      by (t, (there, same)) =
          same ∙ (every_in (λ s. number_of n s ≡ number_of m s) t f firsts_agree there
          ∙ sym ((alike s t (contains_in s (structures units) h) (every_in There t f firsts_there there)).0 same))

  one_at : (t i : ℕ) → t < length n → i < length (get_or n t []) → get_or (get_or n t []) i 0 ≡ get_or (get_or m t []) i 0
  unfolding structures
  one_at t i h k =
      let lens : get_or (map (λ (u : TypedUnit). length u.structures) units) t 0 ≡ length (get_or n t []) = ap (λ l. get_or l t 0) (sym a.each) ∙ lengths_at n t in
      by (known_at 0 units t i (length (get_or n t [])) lens k)
    where
      by : (s : Known) × (In s (structures units) × At (0 + t) i s) → get_or (get_or n t []) i 0 ≡ get_or (get_or m t []) i 0
      by (s, (there, at)) = sym (number_is n s t i (at.0 ∙ zero_left t, at.1)) ∙ (one_number s there ∙ number_is m s t i (at.0 ∙ zero_left t, at.1))

  pub one_numbering : n ≡ m
  one_numbering = same_rows n m (a.each ∙ sym b.each) one_at
