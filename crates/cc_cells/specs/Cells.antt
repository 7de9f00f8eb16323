-- The scalars of objects and of locals: for each one the list of its scalars, in order of path (C99 6.2.5, 21).
use Rattle.std.specs.Prelude.{ℕ, List, map, Option, Some, None, option_and_then, slice_get, slice_set, Vec}
use Rattle.std.specs.declared.alloc.Global.{Global}

-- the scalar at a position of an object
abbrev pub scalar_in : {A : Type 0} → List (List A) → ℕ → ℕ → Option A
scalar_in cells object position = option_and_then (λ scalars. slice_get scalars position) (slice_get cells object)

-- the scalars once the one at a position of an object is another
abbrev pub set_scalar : {A : Type 0} → List (List A) → ℕ → ℕ → A → Option (List A) → List (List A)
set_scalar cells object position v None = cells
set_scalar cells object position v (Some scalars) = slice_set cells object (slice_set scalars position v)

abbrev pub with_scalar : {A : Type 0} → List (List A) → ℕ → ℕ → A → List (List A)
with_scalar cells object position v = set_scalar cells object position v (slice_get cells object)

-- the scalars that vectors hold
unfoldable pub cells_of : {A : Type 0} → List (Vec A Global) → List (List A)
cells_of cells = map (λ v. v.items) cells
