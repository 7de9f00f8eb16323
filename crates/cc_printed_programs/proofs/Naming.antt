-- Names that are apart from one another and from those in front stay as they are wished for; parts of lists of distinct names.
use Rattle.std.proofs.Common.{◌≡◌, ◌∙◌, ◌⊎◌, inl, inr, ℕ, Bool, true, false, true≢false, not, ◌||◌, List, [], ◌∷◌, ◌++◌, map, refl, ap, sym, subst}
use Rattle.std.specs.List.{list_any}
use Rattle.std.specs.Str.{bytes_eq}
use Rattle.std.proofs.lemmas.List.Folds.{list_any-append}
use Rattle.cc_given_names.proofs.Among.{same-text, itself, absent-both, left-absent, right-absent}
use Rattle.cc_names.specs.Names.{Own, is_among, name_for, names_for}
use Rattle.cc_structures.proofs.Elements.{In, any-in, in-any, in-cases}
use Rattle.cc_type.proofs.CcSyntax.Prefixes.{both_true}
use Rattle.cc_program.specs.CcWords.Names.{are_distinct}

not-true : (b : Bool) → (b ≡ true → ⊥) → b ≡ false
not-true true h = absurd (h refl)
not-true false h = refl

negated : (b : Bool) → not b ≡ true → b ≡ false
negated true h = absurd (true≢false (sym h))
negated false h = refl

-- ---- lists of names

pub among-in : (xs : List (List ℕ)) (x : List ℕ) → In x xs → is_among x xs ≡ true
among-in xs x h = any-in (bytes_eq x) xs x h (itself x)

pub in-among : (xs : List (List ℕ)) (x : List ℕ) → is_among x xs ≡ true → In x xs
in-among xs x h = let r = in-any (bytes_eq x) xs h in subst (λ (y : List ℕ). In y xs) (sym (same-text x r.0 r.1.1)) r.1.0

-- no name of the first list is in the second
abbrev pub Apart : List (List ℕ) → List (List ℕ) → Type 0
Apart xs ys = (x : List ℕ) → In x xs → is_among x ys ≡ false

pub flipped : (xs ys : List (List ℕ)) → Apart xs ys → Apart ys xs
flipped xs ys h y i = not-true (is_among y xs) (λ e. true≢false (sym (among-in ys y i) ∙ h y (in-among xs y e)))

pub record Parts (xs ys : List (List ℕ)) : Type 0 where
  pub left : are_distinct xs ≡ true
  pub right : are_distinct ys ≡ true
  pub apart : Apart xs ys

both-false : (a b : Bool) → a || b ≡ false → (a ≡ false) × (b ≡ false)
both-false true b h = absurd (true≢false h)
both-false false b h = (refl, h)

pub parted : (xs ys : List (List ℕ)) → are_distinct (xs ++ ys) ≡ true → Parts xs ys
parted [] ys h = record { left = refl; right = h; apart = λ x i. absurd i }
parted (x ∷ xs) ys h =
    let b = both_true (not (list_any (bytes_eq x) (xs ++ ys))) (are_distinct (xs ++ ys)) h in
    let n = both-false (list_any (bytes_eq x) xs) (list_any (bytes_eq x) ys) (sym (list_any-append (bytes_eq x) xs ys) ∙ negated (list_any (bytes_eq x) (xs ++ ys)) b.0) in
    let r = parted xs ys b.1 in
    record { left = rw (n.0, r.left) refl; right = r.right; apart = by n.1 r.apart }
  where
    by : is_among x ys ≡ false → Apart xs ys → Apart (x ∷ xs) ys
    by n h y (inl e) = subst (λ (z : List ℕ). is_among z ys ≡ false) e n
    by n h y (inr i) = h y i

pub joined : (xs ys : List (List ℕ)) → are_distinct xs ≡ true → are_distinct ys ≡ true → Apart xs ys → are_distinct (xs ++ ys) ≡ true
joined [] ys d e h = e
joined (x ∷ xs) ys d e h =
    let b = both_true (not (list_any (bytes_eq x) xs)) (are_distinct xs) d in
    let n : list_any (bytes_eq x) (xs ++ ys) ≡ false = absent-both x xs ys (negated (list_any (bytes_eq x) xs) b.0) (h x (inl refl)) in
    rw (n, joined xs ys b.1 e (λ y i. h y (inr i))) refl

pub apart-left : (xs ys zs : List (List ℕ)) → Apart xs (ys ++ zs) → Apart xs ys
apart-left xs ys zs h x i = left-absent x ys zs (h x i)

pub apart-right : (xs ys zs : List (List ℕ)) → Apart xs (ys ++ zs) → Apart xs zs
apart-right xs ys zs h x i = right-absent x ys zs (h x i)

pub apart-both : (xs ys zs : List (List ℕ)) → Apart xs ys → Apart xs zs → Apart xs (ys ++ zs)
apart-both xs ys zs h k x i = absent-both x ys zs (h x i) (k x i)

pub both-apart : (xs ys zs : List (List ℕ)) → Apart xs zs → Apart ys zs → Apart (xs ++ ys) zs
both-apart xs ys zs h k x i = by (in-cases xs ys x i)
  where
    by : In x xs ⊎ In x ys → is_among x zs ≡ false
    by (inl a) = h x a
    by (inr b) = k x b

-- ---- names that stay

pub stay : (reserved given space xs : List (List ℕ)) → are_distinct xs ≡ true → Apart xs space → names_for reserved given space (map Own xs) ≡ xs
unfolding names_for
stay reserved given space [] d h = refl
stay reserved given space (x ∷ xs) d h =
    let own : name_for reserved given space (Own x) ≡ x = rw (h x (inl refl)) refl in
    let p = parted (x ∷ []) xs d in
    let rest = stay reserved (given ++ x ∷ []) (space ++ x ∷ []) xs p.right (apart-both xs space (x ∷ []) (λ y i. h y (inr i)) (flipped (x ∷ []) xs p.apart)) in
    ap (λ (z : List ℕ). z ∷ names_for reserved (given ++ z ∷ []) (space ++ z ∷ []) (map Own xs)) own ∙ ap (λ (zs : List (List ℕ)). x ∷ zs) rest
