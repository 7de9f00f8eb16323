-- Two lists of parts, read from their beginnings: one place more, and one place of all.
use Rattle.std.proofs.Common.{◌≡◌, ℕ, ◌+◌, ◌<◌, ◌≤◌, List, [], ◌∷◌, ◌++◌, length, get_or, take, sym, ap, subst, ◌∙◌, arith}
use Rattle.std.specs.List.{AllZip}
use Rattle.std.proofs.lemmas.List.{take_more, take_all}
use Rattle.std.proofs.lemmas.List.Elements.{AllZip-push, AllZip-get_or}

-- the beginning of a list with the element that was read behind it
pub take_read : {A : Type 0} (xs : List A) (i : ℕ) (x : A) → i < length xs → x ≡ get_or xs i x → take (i + 1) xs ≡ take i xs ++ x ∷ []
take_read xs i x l e = take_more xs i x l ∙ ap (λ a. take i xs ++ a ∷ []) (sym e)

pub zip_more : {A : Type 0} (R : A → A → Type 0) (xs ys : List A) (i : ℕ) (x y : A) → i < length xs → i < length ys
    → x ≡ get_or xs i x → y ≡ get_or ys i y → AllZip R (take i xs) (take i ys) → R x y → AllZip R (take (i + 1) xs) (take (i + 1) ys)
zip_more R xs ys i x y lx ly ex ey h k =
    let tx : take (i + 1) xs ≡ take i xs ++ x ∷ [] = take_read xs i x lx ex in
    let ty : take (i + 1) ys ≡ take i ys ++ y ∷ [] = take_read ys i y ly ey in
    subst (λ ls. AllZip R ls (take (i + 1) ys)) (sym tx) (subst (λ ls. AllZip R (take i xs ++ x ∷ []) ls) (sym ty) (AllZip-push R (take i xs) (take i ys) x y h k))

pub zip_at : {A : Type 0} (R : A → A → Type 0) (xs ys : List A) (i : ℕ) (x y : A) → AllZip R xs ys → i < length xs
    → x ≡ get_or xs i x → y ≡ get_or ys i y → R x y
zip_at R xs ys i x y h l ex ey = subst (λ a. R a y) (sym ex) (subst (λ a. R (get_or xs i x) a) (sym ey) (AllZip-get_or R xs ys i x y h l))

-- the beginnings that are all
pub zip_all : {A : Type 0} (R : A → A → Type 0) (xs ys : List A) (i : ℕ) → length xs ≤ i → length xs ≡ length ys → AllZip R (take i xs) (take i ys) → AllZip R xs ys
zip_all R xs ys i h e k =
    let tx : take i xs ≡ xs = take_all i xs h in
    let ty : take i ys ≡ ys = take_all i ys (omega arith) in
    subst (λ ls. AllZip R ls ys) tx (subst (λ ls. AllZip R (take i xs) ls) ty k)
