-- A cell, as one register after the other leaves it.
use Rattle.std.proofs.Common.{arith, ◌≡◌, ◌⊎◌, inl, inr, ⊎_elim, ◌+◌, ◌<◌, ◌≤◌, ◌==◌, ℕ, zero, suc, ℤ, Bool, true, false, if◌then◌else◌, List, [], ◌∷◌, ◌++◌, length, take, get_or, Option, Some, None, slice_get, refl, ap, sym, subst, ◌∙◌}
use Rattle.std.specs.List.{filter}
use Rattle.std.proofs.lemmas.List.{append_assoc, length-take-le, take_more}
use Rattle.cc_rules_flows.specs.CcPlaces.declared.abs.Abs.{Abs}
use Rattle.cc_rules_flows.specs.CcPlaces.laws.ListLaws.{all_taken}
use Rattle.cc_rules_sides.specs.Refined.{AreWorkedOf, IsCellLeft, IsLeftByIn, IsLeftMore, equal_from}
use Rattle.cc_rules_sides.proofs.Unique.{KeepsMore, left_by_more, one_left_by}
use Rattle.cc_rules_tests.specs.declared.tested.Tested.{Tested}
use Rattle.cc_rules_tests.specs.Tested.{IsExplicitIn, IsLeftAlikeIn, IsOfRegisterIn, IsWorkedAt, test_of}
use Rattle.cc_rules_flows.specs.CcStateFacts.declared.facts.PointFact.{PointFact}
use Rattle.cc_rules_flows.specs.CcStateFacts.Facts.{has_pair}
use Rattle.cc_rules_flows.specs.CcStateOperators.Domains.{Domain}
use Rattle.cc_rules_flows.proofs.CcStateValues.Same.{IsOrdered}
use Rattle.cc_rules_flows.specs.CcStateValues.Contexts.{set_in}

-- a list that ends with an element, split at one of its elements

same_head : {A : Type 0} (x y : A) (xs ys : List A) → x ∷ xs ≡ y ∷ ys → x ≡ y
same_head x y xs ys h = cc

same_rest : {A : Type 0} (x y : A) (xs ys : List A) → x ∷ xs ≡ y ∷ ys → xs ≡ ys
same_rest x y xs ys h = cc

no_end : {A B : Type 0} (q : A) (xs behind : List A) → [] ≡ xs ++ q ∷ behind → B
no_end q [] behind h = absurd (cc)
no_end q (x ∷ xs) behind h = absurd (cc)

abbrev IsSplit : {A : Type 0} → List A → List A → A → A → Type 0
IsSplit {A = A} rs before r q = ((rs ≡ before) × (r ≡ q)) ⊎ ((b : List A) × (rs ≡ before ++ q ∷ b))

pub last_cases : {A : Type 0} (rs before behind : List A) (r q : A) → rs ++ r ∷ [] ≡ before ++ q ∷ behind → IsSplit rs before r q
last_cases [] [] behind r q h = inl (refl, same_head r q [] behind h)
last_cases [] (x ∷ xs) behind r q h = no_end q xs behind (same_rest r x [] (xs ++ q ∷ behind) h)
last_cases (p ∷ ps) [] behind r q h = inr (ps, ap (λ v. v ∷ ps) (same_head p q (ps ++ r ∷ []) behind h))
last_cases (p ∷ ps) (x ∷ xs) behind r q h =
    let head : p ≡ x = same_head p x (ps ++ r ∷ []) (xs ++ q ∷ behind) h in
    ⊎_elim (λ w. inl (let rest : ps ≡ xs = w.0 in cc, w.1)) (λ w. inr (w.0, (let rest : ps ≡ xs ++ q ∷ w.0 = w.1 in cc))) (last_cases ps xs behind r q (same_rest p x (ps ++ r ∷ []) (xs ++ q ∷ behind) h))

module _ {I : Type 0} (fact : PointFact I) (cell : ℕ) where
  abbrev pub if_equal : ℕ → ℕ → List ℕ
  if_equal number r = if has_pair fact number cell then r ∷ [] else []

  equal_append : (n : ℕ) (xs ys : List ℕ) → equal_from fact cell n (xs ++ ys) ≡ equal_from fact cell n xs ++ equal_from fact cell (n + length xs) ys
  equal_append n [] ys = let e : n ≡ n + 0 = omega arith in ap (λ k. equal_from fact cell k ys) e
  equal_append n (x ∷ xs) ys =
      let e : (n + 1) + length xs ≡ n + suc (length xs) = omega arith in
      ap (λ zs. if_equal n x ++ zs) (equal_append (n + 1) xs ys ∙ ap (λ k. equal_from fact cell (n + 1) xs ++ equal_from fact cell k ys) e) ∙ sym (append_assoc (if_equal n x) (equal_from fact cell (n + 1) xs) (equal_from fact cell (n + suc (length xs)) ys))

  nil_behind : (xs : List ℕ) → xs ++ [] ≡ xs
  nil_behind [] = refl
  nil_behind (x ∷ xs) = ap (λ ys. x ∷ ys) (nil_behind xs)

  -- one register more
  pub equal_more : (xs : List ℕ) (i r : ℕ) → i < length xs → r ≡ get_or xs i r → equal_from fact cell 0 (take (i + 1) xs) ≡ equal_from fact cell 0 (take i xs) ++ if_equal i r
  equal_more xs i r l e =
      let taken = length-take-le i xs (omega (arith, l)) in
      let k : 0 + length (take i xs) ≡ i = omega (arith, taken) in
      ap (equal_from fact cell 0) (take_more xs i r l ∙ ap (λ z. take i xs ++ z ∷ []) (sym e))
      ∙ (equal_append 0 (take i xs) (r ∷ []) ∙ ap (λ zs. equal_from fact cell 0 (take i xs) ++ zs) (ap (λ z. equal_from fact cell z (r ∷ [])) k ∙ nil_behind (if_equal i r)))

  -- no register equals it
  pub none_equal : (n : ℕ) (xs : List ℕ) → ((m : ℕ) → has_pair fact m cell ≡ false) → equal_from fact cell n xs ≡ []
  none_equal n [] h = refl
  none_equal n (x ∷ xs) h = ap (λ b. (if b then x ∷ [] else []) ++ equal_from fact cell (n + 1) xs) (h n) ∙ none_equal (n + 1) xs h

  -- as the definition of what flows has it
  pub as_filter : (test : ℕ → Bool) (n : ℕ) (xs : List ℕ) → ((k r : ℕ) → slice_get xs k ≡ Some r → test r ≡ has_pair fact (n + k) cell) → filter test xs ≡ equal_from fact cell n xs
  as_filter test n [] h = refl
  as_filter test n (x ∷ xs) h =
      let here : test x ≡ has_pair fact n cell = h 0 x refl ∙ ap (λ m. has_pair fact m cell) (plus_none n) in
      by_test (test x) (has_pair fact n cell) here (as_filter test (n + 1) xs (λ k r e. h (suc k) r e ∙ ap (λ m. has_pair fact m cell) (one_more n k)))
    where
      plus_none : (m : ℕ) → m + 0 ≡ m
      plus_none m = omega arith

      one_more : (m k : ℕ) → m + suc k ≡ (m + 1) + k
      one_more m k = omega arith

      by_test : (a b : Bool) → a ≡ b → filter test xs ≡ equal_from fact cell (n + 1) xs → (if a then x ∷ filter test xs else filter test xs) ≡ (if b then x ∷ [] else []) ++ equal_from fact cell (n + 1) xs
      by_test true true e k = ap (λ ys. x ∷ ys) k
      by_test false false e k = k
      by_test true false e k = absurd (cc)
      by_test false true e k = absurd (cc)

module _ {I : Type 0} (d : Domain I) (o : IsOrdered d) (keeps : KeepsMore d) (t : Tested I) where
  -- the set as it is, where no register equals the cell
  pub none_left : (y z : Abs I) → z ≡ y → IsCellLeft d t [] y z
  none_left y z e = record { left = e; worked = λ r before behind u m h. no_end r before behind h }

  one_left : (rs : List ℕ) (y u v : Abs I) → IsLeftByIn d t rs y u → IsLeftByIn d t rs y v → u ≡ v
  one_left rs y u v h k = one_left_by d o keeps t.context.now.program.now t.context.now.id t.context.now.func.now (set_in t.context.now) t.expression.now (test_of t.test) rs y u v h k

  -- and as one register more leaves it
  pub more_left : (rs : List ℕ) (r : ℕ) (y u z : Abs I) → IsCellLeft d t rs y u → IsLeftAlikeIn d t r u z → (IsOfRegisterIn d t r u → (m : ℤ) → IsExplicitIn d t.context.now u m → IsWorkedAt d t r m) → IsCellLeft d t (rs ++ r ∷ []) y z
  more_left rs r y u z h k worked = record {
    left = left_by_more d o keeps t.context.now.program.now t.context.now.id t.context.now.func.now (set_in t.context.now) t.expression.now (test_of t.test) rs r y u z h.left k;
    worked = λ q before behind v m e left of explicit. ⊎_elim
        (λ w. last q before v m w.0 w.1 left of explicit)
        (λ w. h.worked q before w.0 v m w.1 left of explicit)
        (last_cases rs before behind r q e);
  }
    where
      last : (q : ℕ) (before : List ℕ) (v : Abs I) (m : ℤ) → rs ≡ before → r ≡ q → IsLeftByIn d t before y v → IsOfRegisterIn d t q v → IsExplicitIn d t.context.now v m → IsWorkedAt d t q m
      last q before v m e i left of explicit =
          let same : v ≡ u = one_left rs y v u (subst (λ bs. IsLeftByIn d t bs y v) (sym e) left) h.left in
          subst (λ p. IsWorkedAt d t p m) i (worked (subst (λ s. IsOfRegisterIn d t r s) same (subst (λ p. IsOfRegisterIn d t p v) (sym i) of)) m (subst (λ s. IsExplicitIn d t.context.now s m) same explicit))

-- a register that does not equal the cell
pub unequal_more : {I : Type 0} (fact : PointFact I) (cell : ℕ) (xs : List ℕ) (i r : ℕ) → i < length xs → r ≡ get_or xs i r → has_pair fact i cell ≡ false → equal_from fact cell 0 (take (i + 1) xs) ≡ equal_from fact cell 0 (take i xs)
unequal_more fact cell xs i r l e none = equal_more fact cell xs i r l e ∙ (ap (λ (b : Bool). equal_from fact cell 0 (take i xs) ++ (if b then r ∷ [] else [])) none ∙ nil_behind fact cell (equal_from fact cell 0 (take i xs)))

pub equals_more : {I : Type 0} (fact : PointFact I) (cell : ℕ) (xs : List ℕ) (i r : ℕ) → i < length xs → r ≡ get_or xs i r → has_pair fact i cell ≡ true → equal_from fact cell 0 (take (i + 1) xs) ≡ equal_from fact cell 0 (take i xs) ++ r ∷ []
equals_more fact cell xs i r l e one = equal_more fact cell xs i r l e ∙ ap (λ (b : Bool). equal_from fact cell 0 (take i xs) ++ (if b then r ∷ [] else [])) one

-- one register more, where it equals the cell
module _ {I : Type 0} (d : Domain I) (o : IsOrdered d) (keeps : KeepsMore d) (t : Tested I) (fact : PointFact I) (cell : ℕ) where
  abbrev LeftSoFar : ℕ → Abs I → Abs I → Type 0
  LeftSoFar i y z = IsCellLeft d t (equal_from fact cell 0 (take i t.context.now.registers.now)) y z

  pub one_on : (i r : ℕ) (y u z : Abs I) (b : Bool) → i < length t.context.now.registers.now → r ≡ get_or t.context.now.registers.now i r → b ≡ has_pair fact i cell → LeftSoFar i y u → IsLeftMore d t b r u z → LeftSoFar (i + 1) y z
  one_on i r y u z true l e is h k =
      subst (λ rs. IsCellLeft d t rs y z) (sym (equals_more fact cell t.context.now.registers.now i r l e (sym is)))
      (more_left d o keeps t (equal_from fact cell 0 (take i t.context.now.registers.now)) r y u z h k.0 k.1)
  one_on i r y u z false l e is h k =
      subst (λ rs. IsCellLeft d t rs y z) (sym (unequal_more fact cell t.context.now.registers.now i r l e (sym is)))
      (subst (λ v. LeftSoFar i y v) (sym k) h)

  pub all_on : (i : ℕ) (y z : Abs I) → length t.context.now.registers.now ≤ i → LeftSoFar i y z → IsCellLeft d t (equal_from fact cell 0 t.context.now.registers.now) y z
  all_on i y z l h = subst (λ xs. IsCellLeft d t (equal_from fact cell 0 xs) y z) (all_taken t.context.now.registers.now i l) h
