-- Lists of parts, judged from left to right, as a loop takes them.
use Rattle.std.proofs.Common.{◌≡◌, ◌∙◌, ◌+◌, ◌<◌, ◌≤◌, ℕ, suc, List, [], ◌∷◌, ◌++◌, Option, Some, None, Ok, Err, length, get_or, drop, refl, ap, sym, arith, append_assoc, drop-cons, drop_of_length-le}
use Rattle.std.proofs.lemmas.List.{append-nil}
use Rattle.cc_operands.specs.Verdicts.{Judged, judge_then, some_or}
use Rattle.cc_operands.specs.declared.rule.Rule.{Rule}
use Rattle.cc_specifiers.specs.Places.{JudgedAt, ahead, behind, at_then}
use Rattle.cc_tree.specs.declared.at.At.{At}

pub ahead-none : {A : Type 0} (j : Judged (List A)) → ahead [] j ≡ j
ahead-none (Ok r) = refl
ahead-none (Err e) = refl

pub ahead-end : {A : Type 0} (a : List A) → ahead a (Ok []) ≡ Ok a
ahead-end a = rw (append-nil a) refl

pub ahead-more : {A : Type 0} (a : List A) (x : A) (j : Judged (List A)) → ahead a (ahead (x ∷ []) j) ≡ ahead (a ++ x ∷ []) j
ahead-more a x (Ok r) = rw (append_assoc a (x ∷ []) r) refl
ahead-more a x (Err e) = refl

pub behind-none : {A : Type 0} (j : JudgedAt (List A)) → behind [] j ≡ j
behind-none (Ok r) = refl
behind-none (Err e) = refl

pub behind-end : {A : Type 0} (a : List A) → behind a (Ok []) ≡ Ok a
behind-end a = rw (append-nil a) refl

pub behind-more : {A : Type 0} (a : List A) (x : A) (j : JudgedAt (List A)) → behind a (behind (x ∷ []) j) ≡ behind (a ++ x ∷ []) j
behind-more a x (Ok r) = rw (append_assoc a (x ∷ []) r) refl
behind-more a x (Err e) = refl

-- an element, and what stands behind it
from-item : {X : Type 0} (xs : List X) (i : ℕ) (x : X) → i < length xs → x ≡ get_or xs i x → drop i xs ≡ x ∷ drop (i + 1) xs
from-item xs i x low is = drop-cons xs i x low ∙ (ap (λ y. y ∷ drop (suc i) xs) (sym is) ∙ ap (λ k. x ∷ drop k xs) (next i))
  where
    next : (n : ℕ) → suc n ≡ n + 1
    next n = omega arith

-- ---- each element is something, or the rule is broken

module _ {X A : Type 0} (rule : Rule) (f : X → Option A) (all : List X → Judged (List A)) (nil : all [] ≡ Ok [])
    (cons : (x : X) (xs : List X) → all (x ∷ xs) ≡ judge_then (some_or rule (f x)) (λ a. ahead (a ∷ []) (all xs))) (xs : List X) (i : ℕ) (out : List A) (before : ahead out (all (drop i xs)) ≡ all xs) where
  here : (x : X) → i < length xs → x ≡ get_or xs i x → (o : Option A) → f x ≡ o → ahead out (judge_then (some_or rule o) (λ a. ahead (a ∷ []) (all (drop (i + 1) xs)))) ≡ all xs
  here x low is o e =
      ap (λ p. ahead out (judge_then (some_or rule p) (λ a. ahead (a ∷ []) (all (drop (i + 1) xs))))) (sym e)
      ∙ (ap (ahead out) (sym (ap all (from-item xs i x low is) ∙ cons x (drop (i + 1) xs))) ∙ before)

  pub each-more : (x : X) → i < length xs → x ≡ get_or xs i x → (a : A) → f x ≡ Some a → (new : List A) → new ≡ out ++ a ∷ [] → ahead new (all (drop (i + 1) xs)) ≡ all xs
  each-more x low is a e new pushed = ap (λ o. ahead o (all (drop (i + 1) xs))) pushed ∙ (sym (ahead-more out a (all (drop (i + 1) xs))) ∙ here x low is (Some a) e)

  pub each-breaks : (x : X) → i < length xs → x ≡ get_or xs i x → f x ≡ None → all xs ≡ Err rule
  each-breaks x low is e = sym (here x low is None e)

  pub each-end : length xs ≤ i → all xs ≡ Ok out
  each-end past = sym before ∙ (ap (λ ys. ahead out (all ys)) (drop_of_length-le xs past) ∙ (ap (ahead out) nil ∙ ahead-end out))

-- ---- each element is judged at its place

module _ {X M A : Type 0} (f : X → JudgedAt M) (made : X → M → A) (all : List X → JudgedAt (List A)) (nil : all [] ≡ Ok [])
    (cons : (x : X) (xs : List X) → all (x ∷ xs) ≡ at_then (f x) (λ m. behind (made x m ∷ []) (all xs))) (xs : List X) (i : ℕ) (out : List A) (before : behind out (all (drop i xs)) ≡ all xs) where
  there : (x : X) → i < length xs → x ≡ get_or xs i x → (j : JudgedAt M) → f x ≡ j → behind out (at_then j (λ m. behind (made x m ∷ []) (all (drop (i + 1) xs)))) ≡ all xs
  there x low is j e =
      ap (λ k. behind out (at_then k (λ m. behind (made x m ∷ []) (all (drop (i + 1) xs))))) (sym e)
      ∙ (ap (behind out) (sym (ap all (from-item xs i x low is) ∙ cons x (drop (i + 1) xs))) ∙ before)

  pub judged-more : (x : X) → i < length xs → x ≡ get_or xs i x → (m : M) → f x ≡ Ok m → (new : List A) → new ≡ out ++ made x m ∷ [] → behind new (all (drop (i + 1) xs)) ≡ all xs
  judged-more x low is m e new pushed = ap (λ o. behind o (all (drop (i + 1) xs))) pushed ∙ (sym (behind-more out (made x m) (all (drop (i + 1) xs))) ∙ there x low is (Ok m) e)

  pub judged-breaks : (x : X) → i < length xs → x ≡ get_or xs i x → (broken : At Rule) → f x ≡ Err broken → all xs ≡ Err broken
  judged-breaks x low is broken e = sym (there x low is (Err broken) e)

  pub judged-end : length xs ≤ i → all xs ≡ Ok out
  judged-end past = sym before ∙ (ap (λ ys. behind out (all ys)) (drop_of_length-le xs past) ∙ (ap (behind out) nil ∙ behind-end out))

pub ruleset of_lists = (ahead-none, ahead-end, ahead-more, behind-none, behind-end, behind-more)
