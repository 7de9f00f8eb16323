-- One more access behind those of a key.
use Rattle.std.proofs.Common.{◌≡◌, ◌<◌, ℕ, zero, suc, Bool, false, List, [], ◌∷◌, ◌++◌, length, get_or, refl, ap, sym, ◌∙◌}
use Rattle.std.specs.Prelude.{slice_set, slice_index_or, if◌then◌else◌}
use Rattle.std.proofs.lemmas.List.{get_or_default}
use Rattle.cc_slots_accesses.specs.declared.access.Access.{Access}
use Rattle.cc_slots_accesses.specs.Puts.{ends_at, put_behind}

set-set : {A : Type 0} (l : List A) (i : ℕ) (a b : A) → slice_set (slice_set l i a) i b ≡ slice_set l i b
set-set [] i a b = refl
set-set (x ∷ l) zero a b = refl
set-set (x ∷ l) (suc i) a b = ap (λ m. x ∷ m) (set-set l i a b)

pub put-is : (lists : List (List Access)) (n : ℕ) (middle new list own first shown : List Access) (it : Access) (b : Bool) → n < length lists → own ≡ get_or lists n own → list ≡ get_or lists n own → shown ≡ get_or lists n first →
    b ≡ ends_at shown it.point → b ≡ false → new ≡ list ++ it ∷ [] → slice_set (slice_set lists n middle) n new ≡ slice_set lists n (put_behind (slice_index_or lists n []) it)
put-is lists n middle new list own first shown it b lt is e s h f k =
    let there : slice_index_or lists n [] ≡ own = get_or_default lists n [] own lt ∙ sym is in
    let same : shown ≡ own = s ∙ get_or_default lists n first own lt ∙ sym is in
    let no : ends_at own it.point ≡ false = ap (λ (l : List Access). ends_at l it.point) (sym same) ∙ (sym h ∙ f) in
    let step : put_behind (slice_index_or lists n []) it ≡ own ++ it ∷ [] = ap (λ l. put_behind l it) there ∙ ap (λ c. if c then own else own ++ it ∷ []) no in
    set-set lists n middle new ∙ ap (λ l. slice_set lists n l) (k ∙ ap (λ l. l ++ it ∷ []) (e ∙ sym is) ∙ sym step)
