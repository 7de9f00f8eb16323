-- Names for wishes, one more at a time.
use Rattle.std.proofs.Common.{◌≡◌, ◌∙◌, ◌<◌, ◌≤◌, ◌+◌, ℕ, zero, suc, List, [], ◌∷◌, ◌++◌, length, get_or, drop, map, refl, ap, sym, append_assoc, drop-cons, arith}
use Rattle.std.proofs.lemmas.List.{append-nil}
use Rattle.std.proofs.lemmas.List.Folds.{list_any-append}
use Rattle.std.specs.Prelude.{◌||◌}
use Rattle.std.specs.Str.{bytes_eq}
use Rattle.cc_names.specs.Names.{Wish, Own, Numbered, name_for, names_for}
use Rattle.cc_names.specs.View.{HaveSame, has_wished, wish_of, wishes_of}
use Rattle.cc_names.specs.declared.wish.Wish.{Wish as WishOf}

pub wishes-next : (ws : List WishOf) (i : ℕ) (w : WishOf) → i < length ws → wishes_of (drop i ws) ≡ wish_of (get_or ws i w) ∷ wishes_of (drop (i + 1) ws)
unfolding wishes_of
wishes-next ws i w h =
    let e : suc i ≡ i + 1 = omega arith in
    ap (map wish_of) (drop-cons ws i w h) ∙ ap (λ k. wish_of (get_or ws i w) ∷ map wish_of (drop k ws)) e

pub names-next : (reserved given had done : List (List ℕ)) (w : Wish) (ws : List Wish) (x : List ℕ) → x ≡ name_for reserved (given ++ done) (had ++ done) w →
    done ++ names_for reserved (given ++ done) (had ++ done) (w ∷ ws) ≡ (done ++ x ∷ []) ++ names_for reserved (given ++ (done ++ x ∷ [])) (had ++ (done ++ x ∷ [])) ws
unfolding names_for
names-next reserved given had done w ws x is =
    rw (sym is, append_assoc given done (x ∷ []), append_assoc had done (x ∷ [])) (sym (append_assoc done (x ∷ []) (names_for reserved (given ++ (done ++ x ∷ [])) (had ++ (done ++ x ∷ [])) ws)))

pub names-none : (reserved given had : List (List ℕ)) → names_for reserved given had [] ≡ []
unfolding names_for
names-none reserved given had = refl

pub wishes-none : wishes_of [] ≡ []
unfolding wishes_of
wishes-none = refl

pub names-start : (reserved given had : List (List ℕ)) (ws : List Wish) → names_for reserved given had ws ≡ [] ++ names_for reserved (given ++ []) (had ++ []) ws
names-start reserved given had ws = rw (append-nil given, append-nil had) refl

drop-past : {X : Type 0} (xs : List X) (i : ℕ) → length xs ≤ i → drop i xs ≡ []
drop-past [] zero h = refl
drop-past [] (suc i) h = refl
drop-past (x ∷ xs) zero h = absurd (omega (arith, h))
drop-past (x ∷ xs) (suc i) h = drop-past xs i (omega (arith, h))

pub wishes-done : (ws : List WishOf) (i : ℕ) → length ws ≤ i → wishes_of (drop i ws) ≡ []
wishes-done ws i h = ap wishes_of (drop-past ws i h) ∙ wishes-none

-- ---- whether the name of a wish is there

pub wished-same : (xs ys : List (List ℕ)) (w : Wish) → HaveSame xs ys → has_wished xs w ≡ has_wished ys w
wished-same xs ys (Own x) h = h x
wished-same xs ys (Numbered base) h = refl

-- in one of two lists
pub wished-append : (xs ys : List (List ℕ)) (w : Wish) → has_wished (xs ++ ys) w ≡ (has_wished xs w || has_wished ys w)
wished-append xs ys (Own x) = list_any-append (bytes_eq x) xs ys
wished-append xs ys (Numbered base) = refl

pub wished-both : (outer inner had done : List (List ℕ)) (w : Wish) → HaveSame outer had → HaveSame inner done → (has_wished outer w || has_wished inner w) ≡ has_wished (had ++ done) w
wished-both outer inner had done w h k =
    ap (λ b. b || has_wished inner w) (wished-same outer had w h)
    ∙ (ap (λ b. has_wished had w || b) (wished-same inner done w k) ∙ sym (wished-append had done w))
