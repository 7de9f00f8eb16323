-- A list where those that pass a test stand in front of all others.
use Rattle.std.proofs.Common.{arith, ◌≡◌, ◌<◌, ◌≤◌, ℕ, zero, suc, Bool, true, false, cond, not, List, [], ◌∷◌, length, Some, refl, ap, sym, ◌∙◌, slice_get}
use Rattle.std.specs.Prelude.{if◌then◌else◌}
use Rattle.std.specs.List.{list_any, filter}
use Rattle.std.proofs.lemmas.Option.{slice_get_within}
use Rattle.cc_type.specs.CcSyntax.Lists.{come_first}
use Rattle.cc_shown_names.proofs.Names.{neither}

not-false : (b : Bool) → not b ≡ true → b ≡ false
not-false true h = absurd (cc)
not-false false h = refl

not-true : (b : Bool) → (b ≡ true → ⊥) → b ≡ false
not-true true h = absurd (h refl)
not-true false h = refl

module _ {A : Type 0} (test : A → Bool) where
  no-any : (xs : List A) (i : ℕ) (x : A) → list_any test xs ≡ false → slice_get xs i ≡ Some x → test x ≡ false
  no-any [] i x h e = absurd (cc)
  no-any (y ∷ ys) zero x h e = let k : y ≡ x = cc in ap test (sym k) ∙ (neither (test y) (list_any test ys) h).0
  no-any (y ∷ ys) (suc i) x h e = no-any ys i x (neither (test y) (list_any test ys) h).1 e

  filter-none : (xs : List A) → list_any test xs ≡ false → filter test xs ≡ []
  filter-none [] h = refl
  filter-none (y ∷ ys) h =
      let q = neither (test y) (list_any test ys) h in
      ap (λ b. cond b (y ∷ filter test ys) (filter test ys)) q.0 ∙ filter-none ys q.1

  there-by : (y : A) (ys : List A) (i : ℕ) (x : A) (b : Bool) → (if b then come_first test ys else not (list_any test ys)) ≡ true → slice_get ys i ≡ Some x → test x ≡ true → (come_first test ys ≡ true → slice_get (filter test ys) i ≡ Some x) →
      slice_get (cond b (y ∷ filter test ys) (filter test ys)) (suc i) ≡ Some x
  there-by y ys i x true h e t next = next h
  there-by y ys i x false h e t next = absurd (let g : true ≡ false = sym t ∙ no-any ys i x (not-false (list_any test ys) h) e in cc)

  pub passing-there : (xs : List A) (i : ℕ) (x : A) → come_first test xs ≡ true → slice_get xs i ≡ Some x → test x ≡ true → slice_get (filter test xs) i ≡ Some x
  passing-there [] i x h e t = absurd (cc)
  passing-there (y ∷ ys) zero x h e t =
      let k : y ≡ x = cc in
      ap (λ b. slice_get (cond b (y ∷ filter test ys) (filter test ys)) 0) (ap test k ∙ t) ∙ ap Some k
  passing-there (y ∷ ys) (suc i) x h e t = there-by y ys i x (test y) h e t (λ k. passing-there ys i x k e t)

  -- behind them none passes
  pub none-behind : (xs : List A) (i : ℕ) (x : A) → come_first test xs ≡ true → slice_get xs i ≡ Some x → length (filter test xs) ≤ i → test x ≡ false
  none-behind xs i x h e l =
      not-true (test x) (λ t. let k = slice_get_within (filter test xs) i x (passing-there xs i x h e t) in absurd (omega (arith, k, l)))

  before-by : (y x : A) (ys : List A) (i : ℕ) (b : Bool) → (if b then come_first test ys else not (list_any test ys)) ≡ true → suc i < length (cond b (y ∷ filter test ys) (filter test ys)) → (come_first test ys ≡ true → i < length (filter test ys) → test x ≡ true) → test x ≡ true
  before-by y x ys i true h l next = next h (omega (arith, l))
  before-by y x ys i false h l next = let n : length (filter test ys) ≡ 0 = ap length (filter-none ys (not-false (list_any test ys) h)) in absurd (omega (arith, l, n))

  first-by : (y : A) (ys : List A) (b : Bool) → test y ≡ b → (if b then come_first test ys else not (list_any test ys)) ≡ true → 0 < length (cond b (y ∷ filter test ys) (filter test ys)) → test y ≡ true
  first-by y ys true e h l = e
  first-by y ys false e h l = let n : length (filter test ys) ≡ 0 = ap length (filter-none ys (not-false (list_any test ys) h)) in absurd (omega (arith, l, n))

  pub passes-before : (xs : List A) (i : ℕ) (x : A) → come_first test xs ≡ true → slice_get xs i ≡ Some x → i < length (filter test xs) → test x ≡ true
  passes-before [] i x h e l = absurd (cc)
  passes-before (y ∷ ys) zero x h e l = let k : y ≡ x = cc in ap test (sym k) ∙ first-by y ys (test y) refl h l
  passes-before (y ∷ ys) (suc i) x h e l = before-by y x ys i (test y) h l (λ k m. passes-before ys i x k e m)
