-- The newest activation with a number: what is read and written of a stack by the number is read and written there.
use Rattle.std.proofs.Common.{arith, ◌≡◌, ◌≢◌, ◌==◌, ◌<◌, ◌≤◌, ◌-◌, ℕ, zero, suc, Bool, true, false, if◌then◌else◌, List, [], ◌∷◌, ◌++◌, refl, ap, sym, subst, ◌∙◌, append_assoc, length, take, drop, get_or, slice_set, Some}
use Rattle.std.proofs.lemmas.Bool.{ne_eqb, eq-eqb}
use Rattle.std.proofs.lemmas.List.{map-append, reverse-append, append-nil, take-append-drop, take-set, drop-set-lt, get_or-set_same, length-set, drop_all}
use Rattle.cc_program.specs.declared.value.Value.{Value}
use Rattle.cc_cells.specs.Cells.{scalar_in, with_scalar, cells_of}
use Rattle.cc_steps.specs.declared.activation.Activation.{Activation}
use Rattle.cc_steps.specs.declared.content.Content.TheVariants.{Gone}
use Rattle.cc_steps.specs.Access.{content, local_content, is_open, with_local, with_locals}
use Rattle.cc_steps.specs.State.{Active}
use Rattle.cc_steps.specs.View.{active_of, actives_of, NoneHas, IsNewest}
use Rattle.cc_steps.proofs.StackLemmas.{actives_of-nil}

actives_of-append : (xs ys : List Activation) → actives_of (xs ++ ys) ≡ actives_of ys ++ actives_of xs
unfolding actives_of
actives_of-append xs ys = simp (map-append, reverse-append)

actives_of-one : (x : Activation) → actives_of (x ∷ []) ≡ active_of x ∷ []
unfolding actives_of
actives_of-one x = refl

actives_of-cons : (x : Activation) (xs : List Activation) → actives_of (x ∷ xs) ≡ actives_of xs ++ active_of x ∷ []
actives_of-cons x xs = actives_of-append (x ∷ []) xs ∙ ap (λ stack. actives_of xs ++ stack) (actives_of-one x)

-- one more in front
onto : (x : Activation) (xs : List Activation) (below : List Active) → actives_of (x ∷ xs) ++ below ≡ actives_of xs ++ active_of x ∷ below
onto x xs below = ap (λ stack. stack ++ below) (actives_of-cons x xs) ∙ append_assoc (actives_of xs) (active_of x ∷ []) below

-- what none of the activations above has is looked for below
module _ (number : ℕ) where
  skip_open : (xs : List Activation) (below : List Active) → NoneHas number xs → is_open (actives_of xs ++ below) number ≡ is_open below number
  skip_open [] below h = ap (λ stack. is_open (stack ++ below) number) actives_of-nil
  skip_open (x ∷ xs) below h =
      ap (λ stack. is_open stack number) (onto x xs below) ∙ skip_open xs (active_of x ∷ below) h.1
      ∙ ap (λ (b : Bool). if b then true else is_open below number) (ne_eqb x.number number h.0)

  skip_content : (xs : List Activation) (below : List Active) (local n : ℕ) → NoneHas number xs → local_content (actives_of xs ++ below) number local n ≡ local_content below number local n
  skip_content [] below local n h = ap (λ stack. local_content (stack ++ below) number local n) actives_of-nil
  skip_content (x ∷ xs) below local n h =
      ap (λ stack. local_content stack number local n) (onto x xs below) ∙ skip_content xs (active_of x ∷ below) local n h.1
      ∙ ap (λ (b : Bool). if b then content (scalar_in (active_of x).locals local n) else local_content below number local n) (ne_eqb x.number number h.0)

  skip_written : (xs : List Activation) (below : List Active) (local n : ℕ) (v : Value) → NoneHas number xs →
      with_local (actives_of xs ++ below) number local n v ≡ actives_of xs ++ with_local below number local n v
  skip_written [] below local n v h =
      ap (λ stack. with_local (stack ++ below) number local n v) actives_of-nil ∙ ap (λ stack. stack ++ with_local below number local n v) (sym actives_of-nil)
  skip_written (x ∷ xs) below local n v h =
      ap (λ stack. with_local stack number local n v) (onto x xs below) ∙ skip_written xs (active_of x ∷ below) local n v h.1
      ∙ ap (λ (b : Bool). actives_of xs ++ (if b then with_locals (active_of x) (with_scalar (active_of x).locals local n (Some v)) ∷ below else active_of x ∷ with_local below number local n v)) (ne_eqb x.number number h.0)
      ∙ sym (onto x xs (with_local below number local n v))

drop_here : {A : Type 0} (xs : List A) (i : ℕ) (d : A) → i < length xs → drop i xs ≡ get_or xs i d ∷ drop (suc i) xs
drop_here [] i d h = absurd (omega (arith, h))
drop_here (x ∷ xs) zero d h = refl
drop_here (x ∷ xs) (suc i) d h = drop_here xs i d (omega (arith, h))

-- the activations above one, that one, and those below it
apart : (xs : List Activation) (i : ℕ) (d : Activation) → i < length xs → actives_of xs ≡ actives_of (drop (suc i) xs) ++ active_of (get_or xs i d) ∷ actives_of (take i xs)
apart xs i d h =
    ap actives_of (sym (take-append-drop i xs) ∙ ap (λ ys. take i xs ++ ys) (drop_here xs i d h))
    ∙ actives_of-append (take i xs) (get_or xs i d ∷ drop (suc i) xs)
    ∙ onto (get_or xs i d) (drop (suc i) xs) (actives_of (take i xs))

none_whole : (xs : List Activation) (number : ℕ) → NoneHas number (drop 0 xs) → NoneHas number xs
none_whole [] number h = h
none_whole (x ∷ xs) number h = h

-- as far as a search has come
pub none_yet : (xs : List Activation) (number : ℕ) → NoneHas number (drop (length xs) xs)
none_yet xs number = subst (NoneHas number) (sym (drop_all (length xs) xs (omega arith))) tt

pub none_more : (xs : List Activation) (number i : ℕ) (a : Activation) → 0 < i → i ≤ length xs → a ≡ get_or xs (i - 1) a → a.number ≢ number → NoneHas number (drop i xs) →
    NoneHas number (drop (i - 1) xs)
none_more xs number i a b c e h none =
    let k : suc (i - 1) ≡ i = omega (arith, b) in
    let other : (get_or xs (i - 1) a).number ≢ number = subst (λ (x : Activation). x.number ≢ number) e h in
    subst (NoneHas number) (sym (drop_here xs (i - 1) a (omega (arith, b, c)))) (other, subst (λ j. NoneHas number (drop j xs)) (sym k) none)

pub none_at_all : (xs : List Activation) (number i : ℕ) → i ≤ 0 → NoneHas number (drop i xs) → NoneHas number xs
none_at_all xs number i b h = let e : i ≡ 0 = omega (arith, b) in none_whole xs number (subst (λ j. NoneHas number (drop j xs)) e h)

same_there : {A : Type 0} (xs : List A) (i : ℕ) (d e : A) → i < length xs → get_or xs i d ≡ get_or xs i e
same_there [] i d e h = absurd (omega (arith, h))
same_there (x ∷ xs) zero d e h = refl
same_there (x ∷ xs) (suc i) d e h = same_there xs i d e (omega (arith, h))

pub found : (xs : List Activation) (number i : ℕ) (a : Activation) → 0 < i → i ≤ length xs → a ≡ get_or xs (i - 1) a → a.number ≡ number → NoneHas number (drop i xs) → IsNewest xs number (i - 1)
found xs number i a b c e h none =
    let k : suc (i - 1) ≡ i = omega (arith, b) in
    record {
      within = omega (arith, b, c);
      here = λ d. ap (λ (x : Activation). x.number) (same_there xs (i - 1) d a (omega (arith, b, c)) ∙ sym e) ∙ h;
      above = subst (λ j. NoneHas number (drop j xs)) (sym k) none;
    }

pub ruleset of_search = (none_yet, none_more, none_at_all, found)

-- what is there
pub open-none : (xs : List Activation) (number : ℕ) → NoneHas number xs → is_open (actives_of xs) number ≡ false
open-none xs number h = ap (λ stack. is_open stack number) (sym (append-nil (actives_of xs))) ∙ skip_open number xs [] h

pub open-found : (xs : List Activation) (number i : ℕ) (d : Activation) → IsNewest xs number i → is_open (actives_of xs) number ≡ true
open-found xs number i d h =
    ap (λ stack. is_open stack number) (apart xs i d h.within)
    ∙ skip_open number (drop (suc i) xs) (active_of (get_or xs i d) ∷ actives_of (take i xs)) h.above
    ∙ ap (λ (n : ℕ). if n == number then true else is_open (actives_of (take i xs)) number) (h.here d)
    ∙ ap (λ (b : Bool). if b then true else is_open (actives_of (take i xs)) number) (eq-eqb number number refl)

pub content-none : (xs : List Activation) (number local n : ℕ) → NoneHas number xs → local_content (actives_of xs) number local n ≡ Gone
content-none xs number local n h = ap (λ stack. local_content stack number local n) (sym (append-nil (actives_of xs))) ∙ skip_content number xs [] local n h

pub content-found : (xs : List Activation) (number i local n : ℕ) (a : Activation) → IsNewest xs number i → a ≡ get_or xs i a →
    local_content (actives_of xs) number local n ≡ content (scalar_in (cells_of a.locals.items) local n)
content-found xs number i local n a h e =
    let below = actives_of (take i xs) in
    ap (λ stack. local_content stack number local n) (apart xs i a h.within)
    ∙ skip_content number (drop (suc i) xs) (active_of (get_or xs i a) ∷ below) local n h.above
    ∙ ap (λ (m : ℕ). if m == number then content (scalar_in (active_of (get_or xs i a)).locals local n) else local_content below number local n) (h.here a)
    ∙ ap (λ (b : Bool). if b then content (scalar_in (active_of (get_or xs i a)).locals local n) else local_content below number local n) (eq-eqb number number refl)
    ∙ ap (λ (x : Activation). content (scalar_in (active_of x).locals local n)) (sym e)

pub written-none : (xs : List Activation) (number local n : ℕ) (v : Value) → NoneHas number xs → with_local (actives_of xs) number local n v ≡ actives_of xs
written-none xs number local n v h =
    ap (λ stack. with_local stack number local n v) (sym (append-nil (actives_of xs))) ∙ skip_written number xs [] local n v h ∙ append-nil (actives_of xs)

pub written-found : (xs : List Activation) (number i local n : ℕ) (v : Value) (old new : Activation) → IsNewest xs number i → old ≡ get_or xs i old →
    active_of new ≡ with_locals (active_of old) (with_scalar (cells_of old.locals.items) local n (Some v)) → actives_of (slice_set xs i new) ≡ with_local (actives_of xs) number local n v
written-found xs number i local n v old new h e w =
    let above = drop (suc i) xs in
    let below = actives_of (take i xs) in
    let there : i < length (slice_set xs i new) = omega (arith, h.within, length-set xs i new) in
    let these : actives_of (slice_set xs i new) ≡ actives_of above ++ active_of new ∷ below =
    apart (slice_set xs i new) i old there
    ∙ ap (λ (a : Activation). actives_of (drop (suc i) (slice_set xs i new)) ++ active_of a ∷ actives_of (take i (slice_set xs i new))) (get_or-set_same xs i new old h.within)
    ∙ ap (λ stack. actives_of stack ++ active_of new ∷ actives_of (take i (slice_set xs i new))) (drop-set-lt (suc i) xs i new (omega arith))
    ∙ ap (λ stack. actives_of above ++ active_of new ∷ actives_of stack) (take-set xs i new) in
    let those : with_local (actives_of xs) number local n v ≡ actives_of above ++ with_locals (active_of old) (with_scalar (active_of old).locals local n (Some v)) ∷ below =
    ap (λ stack. with_local stack number local n v) (apart xs i old h.within)
    ∙ skip_written number above (active_of (get_or xs i old) ∷ below) local n v h.above
    ∙ ap (λ (m : ℕ). actives_of above ++ (if m == number then with_locals (active_of (get_or xs i old)) (with_scalar (active_of (get_or xs i old)).locals local n (Some v)) ∷ below else active_of (get_or xs i old) ∷ with_local below number local n v)) (h.here old)
    ∙ ap (λ (b : Bool). actives_of above ++ (if b then with_locals (active_of (get_or xs i old)) (with_scalar (active_of (get_or xs i old)).locals local n (Some v)) ∷ below else active_of (get_or xs i old) ∷ with_local below number local n v)) (eq-eqb number number refl)
    ∙ ap (λ (x : Activation). actives_of above ++ with_locals (active_of x) (with_scalar (active_of x).locals local n (Some v)) ∷ below) (sym e) in
    these ∙ ap (λ (a : Active). actives_of above ++ a ∷ below) w ∙ sym those

pub ruleset of_newest = (open-none, open-found, content-none, content-found, written-none, written-found)
