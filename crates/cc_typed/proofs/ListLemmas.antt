-- A test of each element of a list, as far as a loop has come. The test of a statement takes two flags more.
use Rattle.std.proofs.Common.{◌≡◌, ◌<◌, ◌+◌, ℕ, Bool, true, false, ◌&&◌, ◌||◌, List, map, take, length, get_or, ap, sym, ◌∙◌, refl, [], ◌∷◌}
use Rattle.std.specs.List.{list_all, list_any}
use Rattle.std.proofs.lemmas.List.Folds.{list_all_at, list_all_more, list_all-map, list_any_at, list_any_more}

pub all_tests-stop : {A : Type 0} (test : A → Bool → Bool → Bool) (b c : Bool) (xs : List A) (i : ℕ) (x : A) → i < length xs → x ≡ get_or xs i x → test x b c ≡ false →
    false ≡ list_all (λ g. g b c) (map test xs)
all_tests-stop test b c xs i x h e k =
    sym (list_all-map (λ g. g b c) test xs ∙ list_all_at (λ y. test y b c) xs i x h (ap (λ y. test y b c) (sym e) ∙ k))

pub all_tests-more : {A : Type 0} (test : A → Bool → Bool → Bool) (b c : Bool) (xs : List A) (i : ℕ) (d : A) → i < length xs → list_all (λ g. g b c) (map test (take i xs)) ≡ true → test (get_or xs i d) b c ≡ true →
    list_all (λ g. g b c) (map test (take (i + 1) xs)) ≡ true
all_tests-more test b c xs i d h k l =
    list_all-map (λ g. g b c) test (take (i + 1) xs) ∙ list_all_more (λ x. test x b c) xs i d h
    ∙ ap (λ y. y && test (get_or xs i d) b c) (sym (list_all-map (λ g. g b c) test (take i xs)) ∙ k) ∙ l

-- whether one of the results is true
any-map : {A : Type 0} (test : A → Bool) (xs : List A) → list_any (λ b. b) (map test xs) ≡ list_any test xs
any-map test [] = refl
any-map test (x ∷ xs) = ap (λ b. test x || b) (any-map test xs)

pub any_held : {A : Type 0} (test : A → Bool) (xs : List A) (i : ℕ) (x : A) → i < length xs → x ≡ get_or xs i x → test x ≡ true → true ≡ list_any (λ b. b) (map test xs)
any_held test xs i x h e k = sym (any-map test xs ∙ list_any_at test xs i x h (ap test (sym e) ∙ k))

pub any_more : {A : Type 0} (test : A → Bool) (xs : List A) (i : ℕ) (d : A) → i < length xs → list_any (λ b. b) (map test (take i xs)) ≡ false → test (get_or xs i d) ≡ false → list_any (λ b. b) (map test (take (i + 1) xs)) ≡ false
any_more test xs i d h k l =
    any-map test (take (i + 1) xs) ∙ list_any_more test xs i d h ∙ ap (λ y. y || test (get_or xs i d)) (sym (any-map test (take i xs)) ∙ k) ∙ l

all-map : {A : Type 0} (test : A → Bool) (xs : List A) → list_all (λ b. b) (map test xs) ≡ list_all test xs
all-map test [] = refl
all-map test (x ∷ xs) = ap (λ b. test x && b) (all-map test xs)

pub all_fails : {A : Type 0} (test : A → Bool) (xs : List A) (i : ℕ) (x : A) → i < length xs → x ≡ get_or xs i x → test x ≡ false → false ≡ list_all (λ b. b) (map test xs)
all_fails test xs i x h e k = sym (all-map test xs ∙ list_all_at test xs i x h (ap test (sym e) ∙ k))

pub all_more : {A : Type 0} (test : A → Bool) (xs : List A) (i : ℕ) (d : A) → i < length xs → list_all (λ b. b) (map test (take i xs)) ≡ true → test (get_or xs i d) ≡ true → list_all (λ b. b) (map test (take (i + 1) xs)) ≡ true
all_more test xs i d h k l =
    all-map test (take (i + 1) xs) ∙ list_all_more test xs i d h ∙ ap (λ y. y && test (get_or xs i d)) (sym (all-map test (take i xs)) ∙ k) ∙ l

-- a test of what a function gives for each element
pub mapped_fails : {A B : Type 0} (p : B → Bool) (f : A → B) (xs : List A) (i : ℕ) (x : A) → i < length xs → x ≡ get_or xs i x → p (f x) ≡ false → false ≡ list_all p (map f xs)
mapped_fails p f xs i x h e k = sym (list_all-map p f xs ∙ list_all_at (λ y. p (f y)) xs i x h (ap (λ y. p (f y)) (sym e) ∙ k))

pub mapped_more : {A B : Type 0} (p : B → Bool) (f : A → B) (xs : List A) (i : ℕ) (d : A) → i < length xs → list_all p (map f (take i xs)) ≡ true → p (f (get_or xs i d)) ≡ true → list_all p (map f (take (i + 1) xs)) ≡ true
mapped_more p f xs i d h k l =
    list_all-map p f (take (i + 1) xs) ∙ list_all_more (λ y. p (f y)) xs i d h ∙ ap (λ y. y && p (f (get_or xs i d))) (sym (list_all-map p f (take i xs)) ∙ k) ∙ l

pub ruleset of_tests = (all_tests-more)

pub ruleset of_any = (any_held, any_more)

pub ruleset of_all = (all_fails, all_more)

pub ruleset of_mapped = (mapped_fails, mapped_more)
