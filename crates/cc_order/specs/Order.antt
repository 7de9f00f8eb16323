-- A list in the order that a test gives, where elements of which none is before the other keep their order.
use Rattle.std.specs.Prelude.{Bool, List, [], ◌∷◌, if◌then◌else◌}

module _ {X : Type 0} (before : X → X → Bool) where
  -- in front of the first element that is not before it
  abbrev pub inserted : X → List X → List X
  inserted x [] = x ∷ []
  inserted x (y ∷ ys) = if before y x then y ∷ inserted x ys else x ∷ y ∷ ys

  unfoldable pub in_order : List X → List X
  in_order [] = []
  in_order (x ∷ xs) = inserted x (in_order xs)
