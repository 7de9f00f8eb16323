-- Lists that are compared place by place.
use Rattle.std.specs.Prelude.{◌≡◌, List, [], ◌∷◌, refl}
use Rattle.std.specs.List.{AllZip}
use Rattle.std.proofs.Common.{ap, ◌∙◌}

pub zip_itself : {A : Type 0} (R : A → A → Type 0) → ((x : A) → R x x) → (xs : List A) → AllZip R xs xs
zip_itself R each [] = tt
zip_itself R each (x ∷ xs) = (each x, zip_itself R each xs)

pub zip_left : {A B : Type 0} (R : A → B → Type 0) (S : A → A → Type 0) → ((x : A) (y : B) → R x y → S x x) → (xs : List A) (ys : List B) → AllZip R xs ys → AllZip S xs xs
zip_left R S each [] ys h = tt
zip_left R S each (x ∷ xs) [] h = absurd h
zip_left R S each (x ∷ xs) (y ∷ ys) h = (each x y h.0, zip_left R S each xs ys h.1)

pub zip_back : {A B : Type 0} (R : A → B → Type 0) (S : B → A → Type 0) → ((x : A) (y : B) → R x y → S y x) → (xs : List A) (ys : List B) → AllZip R xs ys → AllZip S ys xs
zip_back R S each [] [] h = tt
zip_back R S each [] (y ∷ ys) h = absurd h
zip_back R S each (x ∷ xs) [] h = absurd h
zip_back R S each (x ∷ xs) (y ∷ ys) h = (each x y h.0, zip_back R S each xs ys h.1)

pub zip_through : {A : Type 0} (R : A → A → Type 0) → ((x y z : A) → R x y → R y z → R x z) → (xs ys zs : List A) → AllZip R xs ys → AllZip R ys zs → AllZip R xs zs
zip_through R each [] [] zs h k = k
zip_through R each [] (y ∷ ys) zs h k = absurd h
zip_through R each (x ∷ xs) [] zs h k = absurd h
zip_through R each (x ∷ xs) (y ∷ ys) [] h k = absurd k
zip_through R each (x ∷ xs) (y ∷ ys) (z ∷ zs) h k = (each x y z h.0 k.0, zip_through R each xs ys zs h.1 k.1)

cons_same : {A : Type 0} {x y : A} {xs ys : List A} → x ≡ y → xs ≡ ys → x ∷ xs ≡ y ∷ ys
cons_same {y = y} {xs = xs} h k = ap (λ a. a ∷ xs) h ∙ ap (λ ls. y ∷ ls) k

-- of places that are related there and back, and of one kind
pub zip_same : {A : Type 0} (K R : A → A → Type 0) → ((x y : A) → K x y → R x y → R y x → x ≡ y) → (xs ys : List A) → AllZip K xs ys → AllZip R xs ys → AllZip R ys xs → xs ≡ ys
zip_same K R each [] [] k h b = refl
zip_same K R each [] (y ∷ ys) k h b = absurd h
zip_same K R each (x ∷ xs) [] k h b = absurd h
zip_same K R each (x ∷ xs) (y ∷ ys) k h b = cons_same (each x y k.0 h.0 b.0) (zip_same K R each xs ys k.1 h.1 b.1)
