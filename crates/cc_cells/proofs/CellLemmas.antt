-- Scalars in vectors: the view by `map` commutes with a look-up and with a write.
use Rattle.std.proofs.Common.{◌≡◌, ◌<◌, ◌≤◌, ◌^◌, ℕ, arith, List, ap, sym, ◌∙◌, length, Some, None, slice_get, slice_set, get_or, map, Vec}
use Rattle.std.specs.declared.alloc.Global.{Global}
use Rattle.std.specs.Prelude.{option_and_then}
use Rattle.std.specs.Option.{option_map}
use Rattle.std.proofs.lemmas.Option.{slice_get-map, slice_get_past, slice_get-get_or}
use Rattle.std.proofs.lemmas.List.{map-set, set_past}
use Rattle.cc_cells.specs.Counts.{counted}
use Rattle.cc_cells.specs.Cells.{scalar_in, set_scalar, with_scalar}
use Rattle.cc_cells.specs.Cells.{cells_of}

look_up : {A : Type 0} (cells : List (Vec A Global)) (i : ℕ) → slice_get (cells_of cells) i ≡ option_map (λ v. v.items) (slice_get cells i)
unfolding cells_of
look_up cells i = slice_get-map (λ v. v.items) cells i

pub scalar-none : {A : Type 0} (cells : List (Vec A Global)) (i k : ℕ) → None ≡ slice_get cells i → scalar_in (cells_of cells) i k ≡ None
scalar-none cells i k h = ap (option_and_then (λ s. slice_get s k)) (look_up cells i ∙ ap (option_map (λ v. v.items)) (sym h))

pub scalar-some : {A : Type 0} (cells : List (Vec A Global)) (i k : ℕ) (v : Vec A Global) → Some v ≡ slice_get cells i → scalar_in (cells_of cells) i k ≡ slice_get v.items k
scalar-some cells i k v h = ap (option_and_then (λ s. slice_get s k)) (look_up cells i ∙ ap (option_map (λ v. v.items)) (sym h))

pub with_scalar-set : {A : Type 0} (cells : List (Vec A Global)) (i k : ℕ) (x : A) (old new : Vec A Global) → i < length cells → old ≡ get_or cells i old → new.items ≡ slice_set old.items k x →
    cells_of (slice_set cells i new) ≡ with_scalar (cells_of cells) i k x
unfolding cells_of
with_scalar-set cells i k x old new h e f =
    let there : slice_get (map (λ v. v.items) cells) i ≡ Some old.items = slice_get-map (λ v. v.items) cells i ∙ ap (option_map (λ v. v.items)) (slice_get-get_or cells i old h ∙ ap Some (sym e)) in
    map-set (λ v. v.items) cells i new ∙ ap (slice_set (map (λ v. v.items) cells) i) f ∙ ap (set_scalar (map (λ v. v.items) cells) i k x) (sym there)

pub with_scalar-past : {A : Type 0} (cells : List (Vec A Global)) (i k : ℕ) (x : A) → length cells ≤ i → with_scalar (cells_of cells) i k x ≡ cells_of cells
with_scalar-past cells i k x h =
    ap (set_scalar (cells_of cells) i k x) (look_up cells i ∙ ap (option_map (λ v. v.items)) (slice_get_past cells i h))

-- a position that is in a list is that number itself
pub number-within : (n k length : ℕ) → counted n ≡ k → k < length → length < 2 ^ 64 → n ≡ k
number-within n k l h b c = omega (arith, h, b, c)

-- and one past it is that of a number past it
pub number-past : (n k length : ℕ) → counted n ≡ k → length ≤ k → length ≤ n
number-past n k l h b = omega (arith, h, b)

pub read-past : {A : Type 0} (xs : List A) (n k : ℕ) → counted n ≡ k → length xs ≤ k → slice_get xs n ≡ None
read-past xs n k h b = slice_get_past xs n (number-past n k (length xs) h b)

pub read-within : {A : Type 0} (xs : List A) (n k : ℕ) (x : A) → counted n ≡ k → k < length xs → length xs < 2 ^ 64 → x ≡ get_or xs k x → slice_get xs n ≡ Some x
read-within xs n k x h b c e = ap (slice_get xs) (number-within n k (length xs) h b c) ∙ slice_get-get_or xs k x b ∙ ap Some (sym e)

pub written-within : {A : Type 0} (xs : List A) (n k : ℕ) (x : A) → counted n ≡ k → k < length xs → length xs < 2 ^ 64 → slice_set xs n x ≡ slice_set xs k x
written-within xs n k x h b c = ap (λ i. slice_set xs i x) (number-within n k (length xs) h b c)

pub written-past : {A : Type 0} (xs : List A) (n k : ℕ) (x : A) → counted n ≡ k → length xs ≤ k → slice_set xs n x ≡ xs
written-past xs n k x h b = set_past xs n x (number-past n k (length xs) h b)

pub ruleset of_positions = (read-past, read-within, written-within, written-past)

pub ruleset of_cells = (scalar-none, scalar-some, with_scalar-set, with_scalar-past)
