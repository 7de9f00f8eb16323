-- First positions in a list, one more number at a time.
use Rattle.std.proofs.Common.{◌≡◌, ◌∙◌, ◌<◌, ◌≤◌, ◌+◌, ◌⊎◌, inl, inr, ℕ, Bool, true, false, cond, List, [], ◌∷◌, ◌++◌, length, get_or, Option, Some, None, refl, ap, sym, subst, arith, length-append}
use Rattle.std.specs.Prelude.{◌≢◌, nat_eq, nat_lt, position, take}
use Rattle.std.specs.List.{position_or_len}
use Rattle.std.specs.Option.{is_none}
use Rattle.std.proofs.Math.ListN.{set, length-set}
use Rattle.std.proofs.lemmas.Bool.Decides.{nat_tests, eqb_tells}
use Rattle.std.proofs.lemmas.List.{get_or-set_same, get_or-set_other, get_or_default, take_more, length-take-le}
use Rattle.std.proofs.lemmas.List.Folds.{position_or_len_push}
use Rattle.std.proofs.lemmas.List.Sums.{prefix_len-le-length}
use Rattle.cc_order.specs.Places.{with_position}

-- ---- a list that is one longer

abbrev pub or_else : Option ℕ → Option ℕ → Option ℕ
or_else None other = other
or_else (Some i) other = Some i

abbrev within : ℕ → ℕ → Option ℕ
within n l = cond (nat_lt n l) (Some n) None

within_more : (b : Bool) (n l : ℕ) → n ≤ l → within (cond (nat_eq n l) (l + cond b 0 1) n) (l + 1) ≡ or_else (within n l) (cond b (Some l) None)
within_more true n l h = grind (arith, nat_tests)
within_more false n l h = grind (arith, nat_tests)

-- the element at the end is looked at where none before it passes
pub position_push : {X : Type 0} (p : X → Bool) (xs : List X) (x : X) → position p (xs ++ x ∷ []) ≡ or_else (position p xs) (cond (p x) (Some (length xs)) None)
position_push p xs x =
    ap (λ n. within n (length (xs ++ x ∷ []))) (position_or_len_push p xs x)
    ∙ (ap (within (cond (nat_eq (position_or_len p xs) (length xs)) (length xs + cond (p x) 0 1) (position_or_len p xs))) (length-append xs (x ∷ []))
    ∙ within_more (p x) (position_or_len p xs) (length xs) (prefix_len-le-length _ xs))

-- ---- a position that is told

told_here : (ps : List (Option ℕ)) (k i : ℕ) → k < length ps → (o : Option ℕ) → get_or ps k None ≡ o → get_or (cond (is_none o) (set ps k (Some i)) ps) k None ≡ or_else o (Some i)
told_here ps k i h None e = get_or-set_same ps k (Some i) None h
told_here ps k i h (Some j) e = e

told_elsewhere : (ps : List (Option ℕ)) (x k i : ℕ) → k ≢ x → (b : Bool) (o : Option ℕ) → get_or ps k None ≡ o → get_or (cond b (set ps x (Some i)) ps) k None ≡ or_else o None
told_elsewhere ps x k i h true None e = get_or-set_other ps x k (Some i) None h ∙ e
told_elsewhere ps x k i h true (Some j) e = get_or-set_other ps x k (Some i) None h ∙ e
told_elsewhere ps x k i h false None e = e
told_elsewhere ps x k i h false (Some j) e = e

told_at : (ps : List (Option ℕ)) (x i k : ℕ) → k < length ps → get_or (with_position ps x i) k None ≡ or_else (get_or ps k None) (cond (nat_eq k x) (Some i) None)
told_at ps x i k h = by (eqb_tells k x)
  where
    by : ((nat_eq k x ≡ true) × (k ≡ x)) ⊎ ((nat_eq k x ≡ false) × (k ≢ x)) → get_or (with_position ps x i) k None ≡ or_else (get_or ps k None) (cond (nat_eq k x) (Some i) None)
    by (inl (t, same)) =
        rw t
        (subst (λ y. get_or (with_position ps y i) k None ≡ or_else (get_or ps k None) (Some i)) same
        (ap (λ o. get_or (cond (is_none o) (set ps k (Some i)) ps) k None) (get_or_default ps k (Some 0) None h)
        ∙ told_here ps k i h (get_or ps k None) refl))
    by (inr (f, apart)) =
        rw f (told_elsewhere ps x k i apart (is_none (get_or ps x (Some 0))) (get_or ps k None) refl)

length_told : (b : Bool) (ps : List (Option ℕ)) (x i : ℕ) → length (cond b (set ps x (Some i)) ps) ≡ length ps
length_told true ps x i = length-set ps x (Some i)
length_told false ps x i = refl

pub length_with : (ps : List (Option ℕ)) (x i : ℕ) → length (with_position ps x i) ≡ length ps
length_with ps x i = length_told (is_none (get_or ps x (Some 0))) ps x i

-- ---- the step of the loop

pub positions_more : (ps : List (Option ℕ)) (numbers : List ℕ) (count i x : ℕ) → length ps ≡ count → i < length numbers → x ≡ get_or numbers i x →
    ((k : ℕ) → k < count → get_or ps k None ≡ position (nat_eq k) (take i numbers)) →
    (k : ℕ) → k < count → get_or (with_position ps x i) k None ≡ position (nat_eq k) (take (i + 1) numbers)
positions_more ps numbers count i x len h is told k below =
    told_at ps x i k (omega (arith, len, below))
    ∙ (ap (λ o. or_else o (cond (nat_eq k x) (Some i) None)) (told k below)
    ∙ (ap (λ n. or_else (position (nat_eq k) (take i numbers)) (cond (nat_eq k x) (Some n) None)) (sym (length-take-le i numbers (omega (arith, h))))
    ∙ (sym (position_push (nat_eq k) (take i numbers) x)
    ∙ ap (λ l. position (nat_eq k) l) (ap (λ y. take i numbers ++ y ∷ []) is ∙ sym (take_more numbers i x h)))))
