-- The registers of a function ascend, so each stands at one position.
use Rattle.std.proofs.Common.{arith, ◌≡◌, ◌==◌, ◌+◌, ◌≤◌, ◌<◌, ℕ, zero, suc, Bool, true, false, not, cond, List, [], ◌∷◌, ◌++◌, length, Option, Some, None, slice_get, refl, ap, subst, ◌∙◌}
use Rattle.std.specs.Prelude.{nat_lt}
use Rattle.std.specs.List.{position, position_or_len}
use Rattle.std.proofs.lemmas.Bool.{lt-ltb}
use Rattle.std.proofs.lemmas.Bool.Decides.{nat_tests}
use Rattle.std.proofs.lemmas.Option.{same_Some}
use Rattle.cc_program.specs.declared.func.Func.{Func}
use Rattle.cc_rules_flows.specs.CcStateKeys.Lists.{made_from, only_if}
use Rattle.cc_rules_flows.specs.CcStateKeys.Tracked.{registers, register_number}
use Rattle.cc_rules_flows.specs.CcSyntax.Registers.{is_register}

shifted : (n m : ℕ) → nat_lt (1 + n) (suc m) ≡ nat_lt n m
shifted n m = grind (arith, nat_tests)

same : (n r : ℕ) → n ≡ r → (n == r) ≡ true
same n r h = grind (arith, nat_tests)

other : (n r : ℕ) → n < r → (n == r) ≡ false
other n r h = grind (arith, nat_tests)

later : (b : Bool) (q k : ℕ) → cond b (Some q) None ≡ Some k → cond b (Some (1 + q)) None ≡ Some (suc k)
later true q k h = let e : q ≡ k = same_Some q k h in let s : 1 + q ≡ suc k = omega (arith, e) in ap Some s
later false q k h = absurd (cc)

no_item : {B : Type 0} (k r : ℕ) → slice_get {X = ℕ} [] k ≡ Some r → B
no_item k r h = absurd (cc)

module _ (r : ℕ) where
  abbrev place : List ℕ → ℕ
  place xs = position_or_len (λ q. q == r) xs

  abbrev found : ℕ → List ℕ → Bool → Option ℕ
  found x xs b = cond (nat_lt (cond (not b) (1 + place xs) 0) (length (x ∷ xs))) (Some (cond (not b) (1 + place xs) 0)) None

  at_first : (x : ℕ) (xs : List ℕ) → found x xs true ≡ Some 0
  at_first x xs = ap (λ b. cond b (Some 0) None) (lt-ltb 0 (length (x ∷ xs)) (omega arith))

  at_later : (x : ℕ) (xs : List ℕ) (k : ℕ) → position (λ q. q == r) xs ≡ Some k → found x xs false ≡ Some (suc k)
  at_later x xs k h = ap (λ b. cond b (Some (1 + place xs)) None) (shifted (place xs) (length xs)) ∙ later (nat_lt (place xs) (length xs)) (place xs) k h

  position_first : (x : ℕ) (xs : List ℕ) → (x == r) ≡ true → position (λ q. q == r) (x ∷ xs) ≡ Some 0
  position_first x xs e = ap (found x xs) e ∙ at_first x xs

  position_later : (x : ℕ) (xs : List ℕ) (k : ℕ) → (x == r) ≡ false → position (λ q. q == r) xs ≡ Some k → position (λ q. q == r) (x ∷ xs) ≡ Some (suc k)
  position_later x xs k e h = ap (found x xs) e ∙ at_later x xs k h

-- what is known of a number at a position of numbers that ascend from n on
record IsNumbered (P : ℕ → Type 0) (n : ℕ) (xs : List ℕ) (k r : ℕ) : Type 0 where
  pub least : n ≤ r
  pub passes : P r
  pub place : position (λ q. q == r) xs ≡ Some k

numbered_on : (P : ℕ → Type 0) (b : Bool) (n : ℕ) (rest : List ℕ) (k r : ℕ) → (b ≡ true → P n) → ((j : ℕ) → slice_get rest j ≡ Some r → IsNumbered P (n + 1) rest j r) →
    slice_get (only_if b n ++ rest) k ≡ Some r → IsNumbered P n (only_if b n ++ rest) k r
numbered_on P true n rest zero r p more h =
    let e : n ≡ r = same_Some n r h in
    record { least = omega (arith, e); passes = subst P e (p refl); place = position_first r n rest (same n r e) }
numbered_on P true n rest (suc j) r p more h =
    let w = more j h in
    let l = w.least in
    record { least = omega (arith, l); passes = w.passes; place = position_later r n rest j (other n r (omega (arith, l))) w.place }
numbered_on P false n rest k r p more h =
    let w = more k h in
    let l = w.least in
    record { least = omega (arith, l); passes = w.passes; place = w.place }

numbered : {A : Type 0} (P : ℕ → Type 0) (test : ℕ → A → Bool) → ((n : ℕ) (a : A) → test n a ≡ true → P n) → (n : ℕ) (xs : List A) (k r : ℕ) →
    slice_get (made_from test (λ m. m) n xs) k ≡ Some r → IsNumbered P n (made_from test (λ m. m) n xs) k r
numbered P test p n [] k r h = no_item k r h
numbered P test p n (a ∷ xs) k r h = numbered_on P (test n a) n (made_from test (λ m. m) (n + 1) xs) k r (p n a) (λ j g. numbered P test p (n + 1) xs j r g) h

module _ (f : Func) (k r : ℕ) (h : slice_get (registers f) k ≡ Some r) where
  all : IsNumbered (λ n. is_register f n ≡ true) 0 (registers f) k r
  all = numbered (λ n. is_register f n ≡ true) (λ n l. is_register f n) (λ n l e. e) 0 f.locals k r h

  pub register_numbered : register_number f r ≡ Some k
  register_numbered = all.place

  pub register_is : is_register f r ≡ true
  register_is = all.passes
