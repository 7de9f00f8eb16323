-- Names that are distinct: no name stands more than once among them, so they may stand in another order.
use Rattle.std.proofs.Common.{◌≡◌, ◌∙◌, ◌≤◌, ◌+◌, ℕ, Bool, true, false, List, [], ◌∷◌, ◌++◌, refl, ap, arith}
use Rattle.std.specs.List.{list_any}
use Rattle.std.specs.Prelude.{not, ◌||◌, ◌&&◌}
use Rattle.std.specs.Str.{bytes_eq}
use Rattle.std.proofs.lemmas.Slice.Eq.{bytes_eq-Decides}
use Rattle.cc_program.specs.CcWords.Names.{are_distinct}

abbrev pub one : Bool → ℕ
one true = 1
one false = 0

-- how often a name stands in a list
unfoldable pub times : List ℕ → List (List ℕ) → ℕ
times x [] = 0
times x (y ∷ ys) = one (bytes_eq x y) + times x ys

pub times-append : (x : List ℕ) (xs ys : List (List ℕ)) → times x (xs ++ ys) ≡ times x xs + times x ys
unfolding times
times-append x [] ys = omega arith
times-append x (z ∷ zs) ys = let r = times-append x zs ys in omega (arith, r)

pub times-one : (x y : List ℕ) → times x (y ∷ []) ≡ one (bytes_eq x y)
unfolding times
times-one x y = omega arith

pub times-nil : (x : List ℕ) → times x [] ≡ 0
unfolding times
times-nil x = refl

pub same : (x y : List ℕ) → bytes_eq x y ≡ true → x ≡ y
same x y h = (bytes_eq-Decides x y).0 h

pub same_self : (x : List ℕ) → bytes_eq x x ≡ true
same_self x = (bytes_eq-Decides x x).1 refl

pub or-false : (a b : Bool) → (a || b) ≡ false → (a ≡ false) × (b ≡ false)
or-false true b h = cc h
or-false false b h = (refl, h)

pub and-true : (a b : Bool) → (a && b) ≡ true → (a ≡ true) × (b ≡ true)
and-true true b h = (refl, h)
and-true false b h = cc h

pub not-true : (a : Bool) → not a ≡ true → a ≡ false
not-true true h = cc h
not-true false h = refl

-- a name that is not there
pub times-none : (x : List ℕ) (xs : List (List ℕ)) → list_any (bytes_eq x) xs ≡ false → times x xs ≡ 0
unfolding times
times-none x [] h = refl
times-none x (y ∷ ys) h =
    let k = or-false (bytes_eq x y) (list_any (bytes_eq x) ys) h in
    let r = times-none x ys k.1 in
    rw (k.0, r) refl

none-times : (x : List ℕ) (xs : List (List ℕ)) → times x xs ≡ 0 → list_any (bytes_eq x) xs ≡ false
unfolding times
none-times x [] h = refl
none-times x (y ∷ ys) h = by (bytes_eq x y) refl (none-times x ys)
  where
    by : (b : Bool) → bytes_eq x y ≡ b → (times x ys ≡ 0 → list_any (bytes_eq x) ys ≡ false) → list_any (bytes_eq x) (y ∷ ys) ≡ false
    by true e more = absurd (let k = rw e at h in omega (arith, k))
    by false e more = rw e (more (let k = rw e at h in omega (arith, k)))

pub at_most_once : (xs : List (List ℕ)) → are_distinct xs ≡ true → (x : List ℕ) → times x xs ≤ 1
unfolding times
at_most_once [] h x = omega arith
at_most_once (y ∷ ys) h x =
    let k = and-true (not (list_any (bytes_eq y) ys)) (are_distinct ys) h in
    by (bytes_eq x y) refl (at_most_once ys k.1 x) (not-true (list_any (bytes_eq y) ys) k.0)
  where
    by : (b : Bool) → bytes_eq x y ≡ b → times x ys ≤ 1 → list_any (bytes_eq y) ys ≡ false → one (bytes_eq x y) + times x ys ≤ 1
    by true e r n =
        let z = times-none x ys (ap (λ w. list_any (bytes_eq w) ys) (same x y e) ∙ n) in
        rw (e, z) (omega arith)
    by false e r n = rw e (omega (arith, r))

pub apart : (xs : List (List ℕ)) → ((x : List ℕ) → times x xs ≤ 1) → are_distinct xs ≡ true
unfolding times
apart [] h = refl
apart (y ∷ ys) h =
    let self : bytes_eq y y ≡ true = same_self y in
    let k = rw self at (h y) in
    let z : times y ys ≡ 0 = omega (arith, k) in
    let first = none-times y ys z in
    let rest = apart ys (λ x. let m = h x in fewer (bytes_eq x y) (times x ys) m) in
    rw (first, rest) refl
  where
    fewer : (b : Bool) (n : ℕ) → one b + n ≤ 1 → n ≤ 1
    fewer true n m = omega (arith, m)
    fewer false n m = omega (arith, m)

-- one name more, which is not there
pub apart-more : (xs : List (List ℕ)) (y : List ℕ) → are_distinct xs ≡ true → list_any (bytes_eq y) xs ≡ false → are_distinct (xs ++ y ∷ []) ≡ true
apart-more xs y h n = apart (xs ++ y ∷ []) (λ x. by x (bytes_eq x y) refl (at_most_once xs h x))
  where
    by : (x : List ℕ) (b : Bool) → bytes_eq x y ≡ b → times x xs ≤ 1 → times x (xs ++ y ∷ []) ≤ 1
    by x true e r =
        let z = times-none x xs (ap (λ w. list_any (bytes_eq w) xs) (same x y e) ∙ n) in
        rw (times-append x xs (y ∷ []), times-one x y, e, z) (omega arith)
    by x false e r = rw (times-append x xs (y ∷ []), times-one x y, e) (omega (arith, r))
