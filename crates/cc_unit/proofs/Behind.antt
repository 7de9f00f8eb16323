-- What is spoken of by a list is what each of its elements speaks of, one behind the other.
use Rattle.std.proofs.Common.{◌≡◌, ◌∙◌, ℕ, List, [], ◌∷◌, ◌++◌, refl, ap, sym, map, append_assoc}
use Rattle.std.proofs.lemmas.Grind.{flat_map-append}
use Rattle.std.proofs.lemmas.List.{append-nil, map-append}
use Rattle.cc_unit.specs.Mentioned.{all_of}

-- an element more
pub all_of_more : {A : Type 0} (f : A → List ℕ) (bs : List ℕ) (xs : List A) (x : A) → (bs ++ all_of (map f xs)) ++ f x ≡ bs ++ all_of (map f (xs ++ x ∷ []))
all_of_more f bs xs x =
    append_assoc bs (all_of (map f xs)) (f x)
    ∙ ap (λ l. bs ++ l) (sym (ap all_of (map-append f xs (x ∷ [])) ∙ (flat_map-append (λ l. l) (map f xs) (f x ∷ []) ∙ ap (λ l. all_of (map f xs) ++ l) (append-nil (f x)))))

pub ruleset of_spoken = (append_assoc, append-nil, all_of_more)
