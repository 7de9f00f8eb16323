-- Numbers from one on that pass a test.
use Rattle.std.proofs.Common.{arith, ◌≡◌, ◌⊎◌, inl, inr, ℕ, zero, suc, ◌+◌, ◌<◌, ◌≤◌, Bool, true, false, true≢false, cond, List, [], ◌∷◌, ◌++◌, map, length, take, get_or, append_assoc, append-nil, refl, sym, ap, ◌∙◌}
use Rattle.std.specs.Prelude.{◌==◌}
use Rattle.std.specs.List.{All, filter}
use Rattle.std.proofs.lemmas.Bool.{cases_eq}
use Rattle.std.proofs.lemmas.List.{map-append}
use Rattle.std.proofs.lemmas.List.Elements.{All-nil, All-cons, All-filter, filter_more}
use Rattle.cc_rules_asked.proofs.StabilityLemmas.{numbers_put}
use Rattle.cc_rules_asked.specs.CcRulesNeeds.Flowing.{numbers}

-- a test that passes or not
pub passes_or : (b : Bool) → (b ≡ true) ⊎ (b ≡ false)
passes_or true = inl refl
passes_or false = inr refl

pub not_passed : (b : Bool) → (b ≡ true → ⊥) → b ≡ false
not_passed true h = absurd (h refl)
not_passed false h = refl

pub is_itself : (n : ℕ) → (n == n) ≡ true
is_itself n = grind arith

pub are_equal : (m n : ℕ) → (m == n) ≡ true → m ≡ n
are_equal m n h = grind (arith, h)

pub either_way : (m n : ℕ) → (m == n) ≡ (n == m)
either_way m n = grind arith

-- one more is put where it passes
pub kept : {A : Type 0} (b : Bool) (x : A) (xs : List A) → b ≡ true → cond b (x ∷ xs) xs ≡ x ∷ xs
kept b x xs h = ap (λ b. cond b (x ∷ xs) xs) h

pub left : {A : Type 0} (b : Bool) (x : A) (xs : List A) → b ≡ false → cond b (x ∷ xs) xs ≡ xs
left b x xs h = ap (λ b. cond b (x ∷ xs) xs) h

-- ---- none, and one

pub none_passes : (test : ℕ → Bool) (k n : ℕ) → ((g : ℕ) → k ≤ g → g < k + n → test g ≡ false) → filter test (numbers k n) ≡ []
none_passes test k zero h = refl
none_passes test k (suc n) h = left (test k) k (filter test (numbers (suc k) n)) (h k (omega arith) (omega arith)) ∙ none_passes test (suc k) n (λ g l m. h g (omega (arith, l)) (omega (arith, m)))

one_from : (test : ℕ → Bool) (x k n : ℕ) → k ≤ x → x < k + n → ((g : ℕ) → test g ≡ true → g ≡ x) → filter test (numbers k n) ≡ cond (test x) (x ∷ []) []
one_from test x k zero l m only = absurd (omega (arith, l, m))
one_from test x k (suc n) l m only = elim (cases_eq k x) [
  | inl e ↦
      ap (λ ys. cond (test k) (k ∷ ys) ys) (none_passes test (suc k) n (λ g a b. not_passed (test g) (λ t. let f : g ≡ x = only g t in absurd (omega (arith, a, e, f)))))
      ∙ ap (λ y. cond (test y) (y ∷ []) []) e
  | inr differs ↦ left (test k) k (filter test (numbers (suc k) n)) (not_passed (test k) (λ t. differs (only k t))) ∙ one_from test x (suc k) n (omega (arith, l, differs)) (omega (arith, m)) only
]

pub one_passes : (test : ℕ → Bool) (x n : ℕ) → x < n → ((g : ℕ) → test g ≡ true → g ≡ x) → filter test (numbers 0 n) ≡ cond (test x) (x ∷ []) []
one_passes test x n l only = one_from test x 0 n (omega arith) (omega (arith, l)) only

-- ---- those that pass one test among those that pass another

within_by : (b c : Bool) (x : ℕ) (test : ℕ → Bool) (xs : List ℕ) (ys : List ℕ) → b ≡ test x → (b ≡ true → c ≡ true) → filter test xs ≡ ys → filter test (cond c (x ∷ xs) xs) ≡ cond b (x ∷ ys) ys
within_by true true x test xs ys e h r = kept (test x) x (filter test xs) (sym e) ∙ ap (λ zs. x ∷ zs) r
within_by true false x test xs ys e h r = absurd (true≢false (sym (h refl)))
within_by false true x test xs ys e h r = left (test x) x (filter test xs) (sym e) ∙ r
within_by false false x test xs ys e h r = r

pub filter_within : (test other : ℕ → Bool) → ((n : ℕ) → test n ≡ true → other n ≡ true) → (xs : List ℕ) → filter test (filter other xs) ≡ filter test xs
filter_within test other h [] = refl
filter_within test other h (x ∷ xs) = within_by (test x) (other x) x test (filter other xs) (filter test xs) refl (h x) (filter_within test other h xs)

-- ---- bounds

small_by : (b : Bool) (x m : ℕ) (xs : List ℕ) → x ≤ m → All (λ n. n ≤ m) xs → All (λ n. n ≤ m) (cond b (x ∷ xs) xs)
small_by true x m xs l h = All-cons (λ n. n ≤ m) x xs l h
small_by false x m xs l h = h

pub small_from : (test : ℕ → Bool) (m k n : ℕ) → k + n ≤ m → All (λ x. x ≤ m) (filter test (numbers k n))
small_from test m k zero l = All-nil (λ x. x ≤ m)
small_from test m k (suc n) l = small_by (test k) k m (filter test (numbers (suc k) n)) (omega (arith, l)) (small_from test m (suc k) n (omega (arith, l)))

pub small_those : (test : ℕ → Bool) (m : ℕ) (xs : List ℕ) → All (λ x. x ≤ m) xs → All (λ x. x ≤ m) (filter test xs)
small_those test m xs h = All-filter test (λ x. x ≤ m) xs h

-- ---- a loop over numbers, and over some of a list

pub made_on : {A : Type 0} (f : ℕ → A) (n : ℕ) (now new : List A) → now ≡ map f (numbers 0 n) → new ≡ now ++ f n ∷ [] → new ≡ map f (numbers 0 (n + 1))
made_on f n now new h e = e ∙ (ap (λ xs. xs ++ f n ∷ []) h ∙ sym (ap (map f) (numbers_put n) ∙ map-append f (numbers 0 n) (n ∷ [])))

pub put_kept : (f : ℕ → ℕ) (test : ℕ → Bool) (xs : List ℕ) (i : ℕ) (old now new : List ℕ) → i < length xs → now ≡ old ++ map f (filter test (take i xs)) → test (get_or xs i 0) ≡ true → new ≡ now ++ f (get_or xs i 0) ∷ [] →
    new ≡ old ++ map f (filter test (take (i + 1) xs))
put_kept f test xs i old now new l h t e =
    e ∙ (ap (λ ys. ys ++ f (get_or xs i 0) ∷ []) h
    ∙ (append_assoc old (map f (filter test (take i xs))) (f (get_or xs i 0) ∷ [])
    ∙ ap (λ ys. old ++ ys) (sym (ap (map f) (filter_more test xs i 0 l ∙ ap (λ b. filter test (take i xs) ++ cond b (get_or xs i 0 ∷ []) []) t) ∙ map-append f (filter test (take i xs)) (get_or xs i 0 ∷ [])))))

pub put_left : (f : ℕ → ℕ) (test : ℕ → Bool) (xs : List ℕ) (i : ℕ) (old now new : List ℕ) → i < length xs → now ≡ old ++ map f (filter test (take i xs)) → test (get_or xs i 0) ≡ false → new ≡ now →
    new ≡ old ++ map f (filter test (take (i + 1) xs))
put_left f test xs i old now new l h t e =
    e ∙ (h ∙ ap (λ ys. old ++ map f ys) (sym (filter_more test xs i 0 l ∙ (ap (λ b. filter test (take i xs) ++ cond b (get_or xs i 0 ∷ []) []) t ∙ append-nil (filter test (take i xs))))))
