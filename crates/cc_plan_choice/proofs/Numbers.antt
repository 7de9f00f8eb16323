-- The slots that pass a test: they ascend, and a slot is among them exactly where it passes.
use Rattle.std.proofs.Common.{◌≡◌, ◌≤◌, ◌<◌, ◌+◌, ◌∙◌, ◌==◌, ◌&&◌, ◌||◌, nat_le, ℕ, zero, suc, Bool, true, false, if◌then◌else◌, List, [], ◌∷◌, Some, None, slice_get, refl, ap, subst, arith}
use Rattle.std.proofs.lemmas.Bool.{and_parts}
use Rattle.std.proofs.lemmas.Bool.Decides.{nat_tests}
use Rattle.cc_plan_choice.specs.Fates.{numbers}
use Rattle.cc_plan_legal.specs.declared.candidate.Candidate.{Candidate}
use Rattle.cc_plan_legal.specs.Legality.{is_among}
use Rattle.cc_plan_legal.specs.Plans.{ascends_from}

le_true : (a b : ℕ) → nat_le a b ≡ true → a ≤ b
le_true a b h = grind (arith, nat_tests)

is_le : (a b : ℕ) → a ≤ b → nat_le a b ≡ true
is_le a b h = grind (arith, nat_tests)

is_same : (a b : ℕ) → a ≡ b → (a == b) ≡ true
is_same a b h = grind (arith, nat_tests)

is_other : (a b : ℕ) → a < b → (a == b) ≡ false
is_other a b h = grind (arith, nat_tests)

both : (p q : Bool) → p ≡ true → q ≡ true → p && q ≡ true
both true q e h = h
both false q e h = absurd (cc)

-- numbers that ascend from one ascend from each that is no greater
pub ascends_below : (least n : ℕ) (xs : List ℕ) → least ≤ n → ascends_from n xs ≡ true → ascends_from least xs ≡ true
ascends_below least n [] l h = refl
ascends_below least n (x ∷ xs) l h =
    let parts = and_parts (nat_le n x) (ascends_from (x + 1) xs) h in
    let m = le_true n x parts.0 in
    both (nat_le least x) (ascends_from (x + 1) xs) (is_le least x (omega (arith, m))) parts.1

module _ (p : ℕ → Candidate → Bool) where
  ascends_step : (n : ℕ) (rest : List ℕ) → ascends_from (n + 1) rest ≡ true → (b : Bool) → ascends_from n (if b then n ∷ rest else rest) ≡ true
  ascends_step n rest h true = both (nat_le n n) (ascends_from (n + 1) rest) (is_le n n (omega arith)) h
  ascends_step n rest h false = ascends_below n (n + 1) rest (omega arith) h

  pub ascends_numbers : (n : ℕ) (cs : List Candidate) → ascends_from n (numbers p n cs) ≡ true
  ascends_numbers n [] = refl
  ascends_numbers n (c ∷ cs) = ascends_step n (numbers p (n + 1) cs) (ascends_numbers (n + 1) cs) (p n c)

  below_step : (m n : ℕ) (rest : List ℕ) → m < n → is_among rest m ≡ false → (b : Bool) → is_among (if b then n ∷ rest else rest) m ≡ false
  below_step m n rest l h true = ap (λ (b : Bool). b || is_among rest m) (other n m l) ∙ h
    where
      other : (n m : ℕ) → m < n → (n == m) ≡ false
      other n m l = grind (arith, nat_tests)
  below_step m n rest l h false = h

  none_below : (m n : ℕ) (cs : List Candidate) → m < n → is_among (numbers p n cs) m ≡ false
  none_below m n [] l = refl
  none_below m n (c ∷ cs) l = below_step m n (numbers p (n + 1) cs) l (none_below m (n + 1) cs (omega arith)) (p n c)

  here_step : (n : ℕ) (rest : List ℕ) → is_among rest n ≡ false → (b : Bool) → is_among (if b then n ∷ rest else rest) n ≡ b
  here_step n rest h true = ap (λ (b : Bool). b || is_among rest n) (is_same n n refl)
  here_step n rest h false = h

  behind_step : (n m : ℕ) (rest : List ℕ) (r : Bool) → n < m → is_among rest m ≡ r → (b : Bool) → is_among (if b then n ∷ rest else rest) m ≡ r
  behind_step n m rest r l h true = ap (λ (b : Bool). b || is_among rest m) (is_other n m l) ∙ h
  behind_step n m rest r l h false = h

  among_from : (n : ℕ) (cs : List Candidate) (i : ℕ) (c : Candidate) → slice_get cs i ≡ Some c → is_among (numbers p n cs) (n + i) ≡ p (n + i) c
  among_from n [] i c s = let f : None ≡ Some c = s in absurd (cc)
  among_from n (d ∷ cs) zero c s =
      let f : Some d ≡ Some c = s in
      let k : d ≡ c = cc in
      let z : n ≡ n + 0 = omega arith in
      subst (λ (m : ℕ). is_among (numbers p n (d ∷ cs)) m ≡ p m c) z (here_step n (numbers p (n + 1) cs) (none_below n (n + 1) cs (omega arith)) (p n d) ∙ ap (p n) k)
  among_from n (d ∷ cs) (suc i) c s =
      let z : n + 1 + i ≡ n + suc i = omega arith in
      let h = subst (λ (m : ℕ). is_among (numbers p (n + 1) cs) m ≡ p m c) z (among_from (n + 1) cs i c s) in
      behind_step n (n + suc i) (numbers p (n + 1) cs) (p (n + suc i) c) (omega arith) h (p n d)

  -- a slot is among them exactly where it passes
  pub among_numbers : (cs : List Candidate) (n : ℕ) (c : Candidate) → slice_get cs n ≡ Some c → is_among (numbers p 0 cs) n ≡ p n c
  among_numbers cs n c s = let z : 0 + n ≡ n = omega arith in subst (λ (m : ℕ). is_among (numbers p 0 cs) m ≡ p m c) z (among_from 0 cs n c s)
