-- Marks in order: the last of them, and those in front; what waits has used all.
use Rattle.std.proofs.Common.{◌≡◌, ◌⊎◌, inl, inr, List, [], ◌∷◌, ◌++◌, refl, ap, sym, ◌∙◌, append_assoc, append-nil}
use Rattle.cc_eval.specs.declared.action.Action.{Action}
use Rattle.cc_eval.specs.declared.mark.Mark.{Mark}
use Rattle.cc_eval.specs.Marks.{UsesFirst, IsUsed, Stays, UsesAll}
use Rattle.cc_eval.specs.Progress.{Progress, Known, Waits, Traps, Get}

pub nothing_in : (front back : List Mark) (m : Mark) → [] ≡ front ++ m ∷ back → ⊥
nothing_in [] back m h = absurd (cc)
nothing_in (x ∷ front) back m h = absurd (cc)

head_same : (x y : Mark) (xs ys : List Mark) → x ∷ xs ≡ y ∷ ys → x ≡ y
head_same x y xs ys h = cc

tail_same : (x y : Mark) (xs ys : List Mark) → x ∷ xs ≡ y ∷ ys → xs ≡ ys
tail_same x y xs ys h = cc

-- the last of marks, or one in front of it
abbrev pub IsLast : List Mark → Mark → List Mark → Mark → Type 0
IsLast ms m front n = ((front ≡ ms) × (n ≡ m)) ⊎ ((mid : List Mark) × (ms ≡ front ++ n ∷ mid))

one_further : (x y m n : Mark) (ms front : List Mark) → y ≡ x → IsLast ms m front n → IsLast (y ∷ ms) m (x ∷ front) n
one_further x y m n ms front e (inl h) = inl (ap (λ (z : Mark). z ∷ front) (sym e) ∙ ap (λ (zs : List Mark). y ∷ zs) h.0, h.1)
one_further x y m n ms front e (inr h) = inr (h.0, ap (λ (z : Mark). z ∷ ms) e ∙ ap (λ (zs : List Mark). x ∷ zs) h.1)

pub last_or_not : (ms : List Mark) (m : Mark) (front back : List Mark) (n : Mark) → ms ++ m ∷ [] ≡ front ++ n ∷ back → IsLast ms m front n
last_or_not [] m [] back n h = inl (refl, sym (head_same m n [] back h))
last_or_not [] m (x ∷ front) back n h = absurd (nothing_in front back n (tail_same m x [] (front ++ n ∷ back) h))
last_or_not (y ∷ ms) m [] back n h = inr (ms, ap (λ (z : Mark). z ∷ ms) (head_same y n (ms ++ m ∷ []) back h))
last_or_not (y ∷ ms) m (x ∷ front) back n h =
    one_further x y m n ms front (head_same y x (ms ++ m ∷ []) (front ++ n ∷ back) h) (last_or_not ms m front back n (tail_same y x (ms ++ m ∷ []) (front ++ n ∷ back) h))

module _ {A : Type 0} (g : Get A) (uses : UsesFirst g) where
  used_under : (outcome : List Mark → Progress A) (ms rest more : List Mark) → IsUsed g outcome ms rest → g (ms ++ more) ≡ outcome (rest ++ more)
  used_under outcome ms rest more u = ap g (ap (λ (ns : List Mark). ns ++ more) u.1 ∙ append_assoc u.0 rest more) ∙ u.2 (rest ++ more)

  pub stays : Stays g
  stays = record {
    known = λ ms rest more a h. used_under (Known a) ms rest more (uses.known a ms rest h);
    traps = λ ms rest more h. used_under Traps ms rest more (uses.traps ms rest h);
  }

  waited : (front back : List Mark) (action : Action) (q : Progress A) → g front ≡ q → g (front ++ back) ≡ Waits action → (first : Action) × (g front ≡ Waits first)
  waited front back action (Known a rest) e h = let k = stays.known front rest back a e in absurd (cc)
  waited front back action (Waits first) e h = (first, e)
  waited front back action (Traps rest) e h = let k = stays.traps front rest back e in absurd (cc)

  -- what is used of the marks in front gives the same there
  in_front : (outcome : List Mark → Progress A) (ms : List Mark) (m : Mark) (u : List Mark) (x : Mark) (rest : List Mark) → ((more : List Mark) → g (u ++ more) ≡ outcome more) → IsLast ms m u x →
      (left : List Mark) × (g ms ≡ outcome left)
  in_front outcome ms m u x rest all (inl h) = ([], ap g (sym h.0 ∙ sym (append-nil u)) ∙ all [])
  in_front outcome ms m u x rest all (inr h) = (x ∷ h.0, ap g h.1 ∙ all (x ∷ h.0))

  none_known : (ms rest : List Mark) (m : Mark) (action : Action) (a : A) → g ms ≡ Waits action → IsUsed g (Known a) (ms ++ m ∷ []) rest → rest ≡ []
  none_known ms [] m action a h u = refl
  none_known ms (x ∷ rest) m action a h u = let k = (in_front (Known a) ms m u.0 x rest u.2 (last_or_not ms m u.0 rest x u.1)).1 in absurd (cc)

  none_traps : (ms rest : List Mark) (m : Mark) (action : Action) → g ms ≡ Waits action → IsUsed g Traps (ms ++ m ∷ []) rest → rest ≡ []
  none_traps ms [] m action h u = refl
  none_traps ms (x ∷ rest) m action h u = let k = (in_front Traps ms m u.0 x rest u.2 (last_or_not ms m u.0 rest x u.1)).1 in absurd (cc)

  pub uses_all : UsesAll g
  uses_all = record {
    before = λ front back action h. waited front back action (g front) refl h;
    known = λ ms rest m action a h k. none_known ms rest m action a h (uses.known a (ms ++ m ∷ []) rest k);
    traps = λ ms rest m action h k. none_traps ms rest m action h (uses.traps (ms ++ m ∷ []) rest k);
  }
