-- The activations that vectors hold, as they grow: what is pushed last is the first of the view.
use Rattle.std.proofs.Common.{◌≡◌, ◌<◌, ◌≤◌, ◌-◌, ◌+◌, suc, List, [], ◌∷◌, ◌++◌, refl, ap, sym, ◌∙◌, length, take, get_or, slice_set, arith}
use Rattle.std.proofs.Math.Seq.{take-suc-set}
use Rattle.std.proofs.lemmas.List.{map-append, reverse-append, take_all, take_more, length-set}
use Rattle.cc_steps.specs.declared.activation.Activation.{Activation}
use Rattle.cc_steps.specs.View.{active_of, actives_of}

pub actives_of-push : (xs : List Activation) (x : Activation) → actives_of (xs ++ x ∷ []) ≡ active_of x ∷ actives_of xs
unfolding actives_of
actives_of-push xs x = simp (map-append, reverse-append)

pub actives_of-nil : actives_of [] ≡ []
unfolding actives_of
actives_of-nil = refl

pub ruleset of_push = (actives_of-push, actives_of-nil)

-- the last one, and the rest
pub actives_of-last : (xs : List Activation) (d : Activation) → 0 < length xs → actives_of xs ≡ active_of (get_or xs (length xs - 1) d) ∷ actives_of (take (length xs - 1) xs)
actives_of-last xs d h =
    let below : length xs - 1 < length xs = omega arith in
    let whole : length xs ≤ length xs - 1 + 1 = omega arith in
    let e : xs ≡ take (length xs - 1) xs ++ get_or xs (length xs - 1) d ∷ [] = sym (take_all (length xs - 1 + 1) xs whole) ∙ take_more xs (length xs - 1) d below in
    ap actives_of e ∙ actives_of-push (take (length xs - 1) xs) (get_or xs (length xs - 1) d)

pub actives_of-set : (xs : List Activation) (a : Activation) → 0 < length xs → actives_of (slice_set xs (length xs - 1) a) ≡ active_of a ∷ actives_of (take (length xs - 1) xs)
actives_of-set xs a h =
    let below : length xs - 1 < length xs = omega arith in
    let whole : length (slice_set xs (length xs - 1) a) ≤ suc (length xs - 1) = omega (arith, length-set xs (length xs - 1) a) in
    let e : slice_set xs (length xs - 1) a ≡ take (length xs - 1) xs ++ a ∷ [] = sym (take_all (suc (length xs - 1)) (slice_set xs (length xs - 1) a) whole) ∙ take-suc-set xs (length xs - 1) a below in
    ap actives_of e ∙ actives_of-push (take (length xs - 1) xs) a

pub actives_of-empty : (xs : List Activation) → length xs ≡ 0 → actives_of xs ≡ []
actives_of-empty [] h = actives_of-nil
actives_of-empty (x ∷ xs) h = absurd (omega arith)

pub ruleset of_last = (actives_of-push, actives_of-empty, actives_of-last, actives_of-set)
