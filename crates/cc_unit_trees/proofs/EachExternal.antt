-- The pieces of a list that is put together.
use Rattle.std.proofs.Common.{◌≡◌, Bool, true, false, cond, List, [], ◌∷◌, ◌++◌, map, refl, ap, sym, ◌∙◌}
use Rattle.std.specs.List.{filter}
use Rattle.cc_pieces.specs.Pieces.{Pieces}
use Rattle.cc_print.specs.Units.{each}

module _ {A : Type 0} where
  pub each-same : (f g : A → Pieces → Pieces) → ((x : A) (ps : Pieces) → f x ps ≡ g x ps) → (xs : List A) (ps : Pieces) → each f xs ps ≡ each g xs ps
  each-same f g h [] ps = refl
  each-same f g h (x ∷ xs) ps = h x (each f xs ps) ∙ ap (g x) (each-same f g h xs ps)

  pub each-append : (f : A → Pieces → Pieces) (xs ys : List A) (ps : Pieces) → each f (xs ++ ys) ps ≡ each f xs (each f ys ps)
  each-append f [] ys ps = refl
  each-append f (x ∷ xs) ys ps = ap (f x) (each-append f xs ys ps)

  pub each-map : {B : Type 0} (f : B → Pieces → Pieces) (g : A → B) (xs : List A) (ps : Pieces) → each f (map g xs) ps ≡ each (λ x. f (g x)) xs ps
  each-map f g [] ps = refl
  each-map f g (x ∷ xs) ps = ap (f (g x)) (each-map f g xs ps)

  -- those that pass a test
  pub each-filter : (test : A → Bool) (line : A → Pieces → Pieces) (all : A → Pieces → Pieces) → ((x : A) (ps : Pieces) → test x ≡ true → all x ps ≡ line x ps) → ((x : A) (ps : Pieces) → test x ≡ false → all x ps ≡ ps) →
      (xs : List A) (ps : Pieces) → each line (filter test xs) ps ≡ each all xs ps
  each-filter test line all yes_so no_so [] ps = refl
  each-filter test line all yes_so no_so (x ∷ xs) ps = by (test x) refl (each-filter test line all yes_so no_so xs ps) where
    by : (t : Bool) → test x ≡ t → each line (filter test xs) ps ≡ each all xs ps → each line (cond t (x ∷ filter test xs) (filter test xs)) ps ≡ all x (each all xs ps)
    by true e k = ap (line x) k ∙ sym (yes_so x (each all xs ps) e)
    by false e k = k ∙ sym (no_so x (each all xs ps) e)
