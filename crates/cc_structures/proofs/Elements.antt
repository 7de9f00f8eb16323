-- The elements of a list by recursion.
use Rattle.std.proofs.Common.{◌≡◌, ◌∙◌, ◌⊎◌, inl, inr, ◌<◌, ℕ, zero, suc, Bool, true, false, List, [], ◌∷◌, ◌++◌, length, get_or, map, refl, ap, sym, subst, true≢false, arith}
use Rattle.std.specs.List.{list_any, Contains}
use Rattle.std.specs.Prelude.{◌||◌}

abbrev pub In : {X : Type 0} → X → List X → Type 0
In x [] = ⊥
In x (y ∷ ys) = (y ≡ x) ⊎ In x ys

pub in-at : {X : Type 0} (xs : List X) (k : ℕ) (x : X) → k < length xs → get_or xs k x ≡ x → In x xs
in-at [] k x low is = absurd (omega (arith, low))
in-at (y ∷ ys) zero x low is = inl is
in-at (y ∷ ys) (suc k) x low is = inr (in-at ys k x (omega (arith, low)) is)

pub in-of : {X : Type 0} (xs : List X) (x : X) → Contains xs x → In x xs
in-of xs x c = in-at xs c.0 x c.1 c.2

pub contains-of : {X : Type 0} (xs : List X) (x : X) → In x xs → Contains xs x
contains-of [] x h = absurd h
contains-of (y ∷ ys) x (inl e) = (zero, omega arith, e)
contains-of (y ∷ ys) x (inr h) = let c = contains-of ys x h in let low = c.1 in (suc c.0, omega (arith, low), c.2)

pub in-left : {X : Type 0} (xs ys : List X) (x : X) → In x xs → In x (xs ++ ys)
in-left [] ys x h = absurd h
in-left (z ∷ zs) ys x (inl e) = inl e
in-left (z ∷ zs) ys x (inr h) = inr (in-left zs ys x h)

pub in-right : {X : Type 0} (xs ys : List X) (x : X) → In x ys → In x (xs ++ ys)
in-right [] ys x h = h
in-right (z ∷ zs) ys x h = inr (in-right zs ys x h)

pub in-cases : {X : Type 0} (xs ys : List X) (x : X) → In x (xs ++ ys) → In x xs ⊎ In x ys
in-cases [] ys x h = inr h
in-cases (z ∷ zs) ys x (inl e) = inl (inl e)
in-cases (z ∷ zs) ys x (inr h) = elim (in-cases zs ys x h) [ inl l ↦ inl (inr l) | inr r ↦ inr r ]

pub in-map : {X Y : Type 0} (f : X → Y) (xs : List X) (x : X) → In x xs → In (f x) (map f xs)
in-map f [] x h = absurd h
in-map f (z ∷ zs) x (inl e) = inl (ap f e)
in-map f (z ∷ zs) x (inr h) = inr (in-map f zs x h)

pub in-map_from : {X Y : Type 0} (f : X → Y) (xs : List X) (y : Y) → In y (map f xs) → (x : X) × (In x xs × (f x ≡ y))
in-map_from f [] y h = absurd h
in-map_from f (z ∷ zs) y (inl e) = (z, (inl refl, e))
in-map_from f (z ∷ zs) y (inr h) = let r = in-map_from f zs y h in (r.0, (inr r.1.0, r.1.1))

-- an element that passes a test
pub any-in : {X : Type 0} (p : X → Bool) (xs : List X) (x : X) → In x xs → p x ≡ true → list_any p xs ≡ true
any-in p [] x h e = absurd h
any-in p (y ∷ ys) x (inl s) e = let t : p y ≡ true = ap p s ∙ e in rw t refl
any-in p (y ∷ ys) x (inr h) e = by (p y) (any-in p ys x h e)
  where
    by : (b : Bool) → list_any p ys ≡ true → (b || list_any p ys) ≡ true
    by true h = refl
    by false h = h

pub in-any : {X : Type 0} (p : X → Bool) (xs : List X) → list_any p xs ≡ true → (x : X) × (In x xs × (p x ≡ true))
in-any p [] h = absurd (true≢false (sym h))
in-any {X = X} p (y ∷ ys) h = by (p y) refl h (in-any p ys)
  where
    by : (b : Bool) → p y ≡ b → (b || list_any p ys) ≡ true → (list_any p ys ≡ true → (x : X) × (In x ys × (p x ≡ true))) → (x : X) × (In x (y ∷ ys) × (p x ≡ true))
    by true e h rest = (y, (inl refl, e))
    by false e h rest = let r = rest h in (r.0, (inr r.1.0, r.1.1))

-- what two functions give alike on a list, they give alike on each element
pub same-at : {X Y : Type 0} (f g : X → Y) (xs : List X) (x : X) → map f xs ≡ map g xs → In x xs → f x ≡ g x
same-at f g [] x e h = absurd h
same-at f g (y ∷ ys) x e (inl s) = subst (λ z. f z ≡ g z) s (heads (f y) (g y) (map f ys) (map g ys) e)
  where
    heads : {Z : Type 0} (a b : Z) (fs bs : List Z) → a ∷ fs ≡ b ∷ bs → a ≡ b
    heads a b fs bs e = cc e
same-at f g (y ∷ ys) x e (inr h) = same-at f g ys x (tails (f y) (g y) (map f ys) (map g ys) e) h
  where
    tails : {Z : Type 0} (a b : Z) (fs bs : List Z) → a ∷ fs ≡ b ∷ bs → fs ≡ bs
    tails a b fs bs e = cc e

pub all-same : {X Y : Type 0} (f g : X → Y) (xs : List X) → ((x : X) → In x xs → f x ≡ g x) → map f xs ≡ map g xs
all-same f g [] h = refl
all-same f g (y ∷ ys) h = rw (h y (inl refl), all-same f g ys (λ x i. h x (inr i))) refl

pub map-both : {X Y Z : Type 0} (f : X → Y) (g : Y → Z) (xs : List X) → map g (map f xs) ≡ map (λ x. g (f x)) xs
map-both f g [] = refl
map-both f g (x ∷ xs) = ap (λ zs. g (f x) ∷ zs) (map-both f g xs)

pub length-map_of : {X Y : Type 0} (f : X → Y) (xs : List X) → length (map f xs) ≡ length xs
length-map_of f [] = refl
length-map_of f (x ∷ xs) = ap suc (length-map_of f xs)

-- two lists with the same images: what the first maps to, the second has
pub beside : {X K V : Type 0} (v : K → V) (f : X → V) (ks : List K) (xs : List X) (g : X → ℕ) (p : K → ℕ) →
    map v ks ≡ map f xs → map g xs ≡ map p ks → (x : X) → In x xs → (k : K) × (In k ks × ((v k ≡ f x) × (g x ≡ p k)))
beside v f ks [] g p e q x h = absurd h
beside v f [] (y ∷ ys) g p e q x h = absurd (nothing (f y) (map f ys) e)
  where
    nothing : {Z : Type 0} (z : Z) (zs : List Z) → [] ≡ z ∷ zs → ⊥
    nothing z zs e = cc e
beside v f (k ∷ ks) (y ∷ ys) g p e q x (inl s) =
    let e0 : v k ≡ f y = cc e in
    let q0 : g y ≡ p k = cc q in
    (k, (inl refl, (e0 ∙ ap f s, sym (ap g s) ∙ q0)))
beside v f (k ∷ ks) (y ∷ ys) g p e q x (inr h) =
    let e1 : map v ks ≡ map f ys = cc e in
    let q1 : map g ys ≡ map p ks = cc q in
    let r = beside v f ks ys g p e1 q1 x h in
    (r.0, (inr r.1.0, r.1.1))
