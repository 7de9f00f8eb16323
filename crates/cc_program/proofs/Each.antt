-- What holds of each element of a list, and of what an option holds.
use Rattle.std.proofs.Common.{List, [], ◌∷◌, map, Option, Some, None, option_map}

abbrev pub Each : {A : Type 0} → (A → Type 0) → List A → Type 0
Each P [] = Unit {0}
Each P (x ∷ xs) = P x × Each P xs

abbrev pub Held : {A : Type 0} → (A → Type 0) → Option A → Type 0
Held P None = Unit {0}
Held P (Some x) = P x

-- what holds of all holds of each
pub each_of : {A : Type 0} → (P : A → Type 0) → ((x : A) → P x) → (xs : List A) → Each P xs
each_of P h [] = tt
each_of P h (x ∷ xs) = (h x, each_of P h xs)

pub held_of : {A : Type 0} → (P : A → Type 0) → ((x : A) → P x) → (x : Option A) → Held P x
held_of P h None = tt
held_of P h (Some x) = h x

-- of values that are kept beside their proofs
pub each_kept : {A : Type 0} → (P : A → Type 0) → (xs : List ((x : A) × P x)) → Each P (map (λ x. x.0) xs)
each_kept P [] = tt
each_kept P (x ∷ xs) = (x.1, each_kept P xs)

pub held_kept : {A : Type 0} → (P : A → Type 0) → (x : Option ((x : A) × P x)) → Held P (option_map (λ x. x.0) x)
held_kept P None = tt
held_kept P (Some x) = x.1
