-- Names that are given, worked out.
use Rattle.std.proofs.Common.{◌≡◌, [], ◌∷◌, refl}
use Rattle.std.specs.Prelude.{codes}
use Rattle.cc_names.specs.Names.{Own, Numbered, with_number, names_for}

-- a name that is there has the number 2
second : names_for [] [] [] (Own (codes "n") ∷ Own (codes "n") ∷ []) ≡ codes "n" ∷ with_number (codes "n") 2 ∷ []
unfolding names_for
second = refl

-- where no number is taken, a name that is numbered has 1
first : names_for [] [] [] (Numbered (codes "text") ∷ []) ≡ with_number (codes "text") 1 ∷ []
unfolding names_for
first = refl
