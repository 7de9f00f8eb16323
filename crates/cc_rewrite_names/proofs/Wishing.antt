-- Wishes for names with numbers, one more at a time.
use Rattle.std.proofs.Common.{◌≡◌, ◌∙◌, ◌+◌, ◌++◌, ℕ, List, [], ◌∷◌, replicate, ap}
use Rattle.std.proofs.lemmas.List.{map-append, replicate_more}
use Rattle.cc_names.specs.Names.{Wish, Numbered}
use Rattle.cc_names.specs.View.{wish_of, wishes_of}
use Rattle.cc_names.specs.declared.wish.Wish.{Wish as WishOf}

pub wished_more : (ws next : List WishOf) (w : WishOf) (base : List ℕ) (n : ℕ) → next ≡ ws ++ w ∷ [] → wish_of w ≡ Numbered base → wishes_of ws ≡ replicate n (Numbered base) → wishes_of next ≡ replicate (n + 1) (Numbered base)
unfolding wishes_of
wished_more ws next w base n is e h =
    ap wishes_of is
    ∙ (map-append wish_of ws (w ∷ [])
    ∙ (ap (λ (xs : List Wish). xs ++ wish_of w ∷ []) h
    ∙ (ap (λ (x : Wish). replicate n (Numbered base) ++ x ∷ []) e ∙ replicate_more n (Numbered base))))
