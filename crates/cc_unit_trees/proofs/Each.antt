-- What holds of each element of a list that is put together.
use Rattle.std.proofs.Common.{◌≡◌, ℕ, ◌+◌, Bool, true, false, cond, List, [], ◌∷◌, ◌++◌, map, take, refl}
use Rattle.std.specs.List.{filter}
use Rattle.cc_unit_trees.specs.Externals.{in_front_if, announced}
use Rattle.cc_print.specs.Units.{first_naming, is_in_parameters}
use Rattle.cc_program.specs.declared.types.Structure.{Structure}
use Rattle.cc_program.proofs.Each.{Each}

module _ {A : Type 0} (P : A → Type 0) where
  pub each-append : (xs ys : List A) → Each P xs → Each P ys → Each P (xs ++ ys)
  each-append [] ys h k = k
  each-append (x ∷ xs) ys h k = (h.0, each-append xs ys h.1 k)

  pub each-mapped : {B : Type 0} (g : B → A) (xs : List B) → Each (λ x. P (g x)) xs → Each P (map g xs)
  each-mapped g [] h = tt
  each-mapped g (x ∷ xs) h = (h.0, each-mapped g xs h.1)

  -- those that pass a test
  pub each-passing : (test : A → Bool) (xs : List A) → Each (λ x. test x ≡ true → P x) xs → Each P (filter test xs)
  each-passing test [] h = tt
  each-passing test (x ∷ xs) h = by (test x) refl (each-passing test xs h.1) where
    by : (t : Bool) → test x ≡ t → Each P (filter test xs) → Each P (cond t (x ∷ filter test xs) (filter test xs))
    by true e k = (h.0 e, k)
    by false e k = k

module _ (P : Structure → Type 0) where
  in-front : (b : Bool) (s : Structure) (ss : List Structure) → P s → Each P ss → Each P (in_front_if b s ss)
  in-front true s ss h k = (h, k)
  in-front false s ss h k = k

  pub each-announced : (all : List Structure) (i : ℕ) (rest : List Structure) → Each P rest → Each P (announced all i rest)
  each-announced all i [] h = tt
  each-announced all i (s ∷ rest) h = in-front (is_in_parameters (first_naming i (take i all))) s (announced all (i + 1) rest) h.0 (each-announced all (i + 1) rest h.1)
