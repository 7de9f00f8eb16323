-- Names that are given, and those that no new one is, one more at a time.
use Rattle.std.proofs.Common.{◌≡◌, ◌∙◌, ◌+◌, ◌<◌, ◌≤◌, ◌⊎◌, inl, inr, ℕ, zero, suc, Bool, true, false, cond, List, [], ◌∷◌, ◌++◌, length, get_or, take, drop, map, Option, Some, None, refl, ap, sym, subst, arith, append_assoc, drop-cons}
use Rattle.std.specs.Prelude.{flat_map, nat_eq, nat_lt, filter, ◌&&◌, position}
use Rattle.std.proofs.Math.ListN.{get_or-eq_default}
use Rattle.std.specs.List.{list_all, position_or_len}
use Rattle.std.proofs.lemmas.List.{append-nil, map-append, take_more}
use Rattle.std.proofs.lemmas.Grind.{flat_map-append}
use Rattle.std.proofs.lemmas.Bool.{cases_lt, lt-ltb, le-ltb, ltb-true, ne_eqb}
use Rattle.cc_definitions.specs.Definitions.{thing_at, numbers_below, numbers_of, is_named_by, named}
use Rattle.cc_linked_names.specs.Given.{tag_wish, local_wishes, locals_for}
use Rattle.cc_names.specs.Names.{Wish, names_for}
use Rattle.cc_names.proofs.Takings.{same-with}
use Rattle.cc_names.specs.View.{HaveSame, with_name, wish_of, wishes_of}
use Rattle.cc_names.specs.declared.wish.Wish.{Wish as WishOf}
use Rattle.cc_structures.specs.View.{known_of, knowns_of}
use Rattle.cc_structures.specs.declared.known.Known.{Known as KnownOf}
use Rattle.cc_things.specs.Things.{Thing}

take_end : {X : Type 0} (xs : List X) (i : ℕ) → length xs ≤ i → take i xs ≡ xs
take_end [] zero h = refl
take_end [] (suc i) h = refl
take_end (x ∷ xs) zero h = absurd (omega (arith, h))
take_end (x ∷ xs) (suc i) h = ap (λ l. x ∷ l) (take_end xs i (omega (arith, h)))

pub wishes_more : (ws : List WishOf) (w : WishOf) → wishes_of (ws ++ w ∷ []) ≡ wishes_of ws ++ wish_of w ∷ []
unfolding wishes_of
wishes_more ws w = map-append wish_of ws (w ∷ [])

pub wishes_nil : wishes_of [] ≡ []
unfolding wishes_of
wishes_nil = refl

pub tags_wished : (ks : List KnownOf) → map tag_wish (knowns_of ks) ≡ map (λ k. tag_wish (known_of k)) ks
unfolding knowns_of
tags_wished [] = refl
tags_wished (k ∷ ks) = ap (λ ws. tag_wish (known_of k) ∷ ws) (tags_wished ks)

module _ {X : Type 0} (f : X → Wish) (xs : List X) where
  pub wished_more : (i : ℕ) (x : X) (before after : List WishOf) (w : WishOf) → i < length xs → x ≡ get_or xs i x → wish_of w ≡ f x → after ≡ before ++ w ∷ [] → wishes_of before ≡ map f (take i xs) → wishes_of after ≡ map f (take (i + 1) xs)
  wished_more i x before after w h is told all front =
      ap wishes_of all
      ∙ (wishes_more before w
      ∙ (ap (λ l. l ++ wish_of w ∷ []) front
      ∙ (ap (λ v. map f (take i xs) ++ v ∷ []) told
      ∙ (sym (map-append f (take i xs) (x ∷ [])) ∙ ap (map f) (sym (take_more xs i x h ∙ ap (λ y. take i xs ++ y ∷ []) (sym is)))))))

  pub wished_end : (i : ℕ) (ws : List WishOf) → length xs ≤ i → wishes_of ws ≡ map f (take i xs) → wishes_of ws ≡ map f xs
  wished_end i ws h front = front ∙ ap (map f) (take_end xs i h)

pub ruleset of_wishes = (wishes_more, wishes_nil, tags_wished)

-- ---- numbers of things are below their count

pub all_append : (p : ℕ → Bool) (xs ys : List ℕ) → list_all p xs ≡ true → list_all p ys ≡ true → list_all p (xs ++ ys) ≡ true
all_append p [] ys h k = k
all_append p (x ∷ xs) ys h k = by (p x) h (λ l. all_append p xs ys l k)
  where
    by : (b : Bool) → (b && list_all p xs) ≡ true → (list_all p xs ≡ true → list_all p (xs ++ ys) ≡ true) → (b && list_all p (xs ++ ys)) ≡ true
    by true h rest = rest h
    by false h rest = absurd (cc)

pub all_filtered : (p q : ℕ → Bool) (xs : List ℕ) → list_all p xs ≡ true → list_all p (filter q xs) ≡ true
all_filtered p q [] h = refl
all_filtered p q (x ∷ xs) h = by (p x) (q x) h refl (all_filtered p q xs)
  where
    by : (b c : Bool) → (b && list_all p xs) ≡ true → p x ≡ b → (list_all p xs ≡ true → list_all p (filter q xs) ≡ true) → list_all p (cond c (x ∷ filter q xs) (filter q xs)) ≡ true
    by true true h e rest = rw (e, rest h) refl
    by true false h e rest = rest h
    by false c h e rest = absurd (cc)

pub below_all : (n m : ℕ) → n ≤ m → list_all (λ k. nat_lt k m) (numbers_below n) ≡ true
below_all zero m h = refl
below_all (suc n) m h =
    all_append (λ k. nat_lt k m) (numbers_below n) (n ∷ []) (below_all n m (omega (arith, h)))
    (let l : nat_lt n m ≡ true = lt-ltb n m (omega (arith, h)) in rw l refl)

not_there : (k : ℕ) (xs : List ℕ) (m : ℕ) → m ≤ k → list_all (λ j. nat_lt j m) xs ≡ true → position_or_len (nat_eq k) xs ≡ length xs
not_there k [] m h all = refl
not_there k (x ∷ xs) m h all = by (nat_lt x m) refl all (not_there k xs m h)
  where
    by : (b : Bool) → nat_lt x m ≡ b → (b && list_all (λ j. nat_lt j m) xs) ≡ true → (list_all (λ j. nat_lt j m) xs ≡ true → position_or_len (nat_eq k) xs ≡ length xs) → position_or_len (nat_eq k) (x ∷ xs) ≡ length (x ∷ xs)
    by true e a rest =
        let l : x < m = ltb-true x m e in
        let f : nat_eq k x ≡ false = ne_eqb k x (λ same. omega (arith, h, l, same)) in
        rw (f, rest a) (omega arith)
    by false e a rest = absurd (cc)

-- a number that is none of a thing has no position among such numbers
pub no_position : (k : ℕ) (xs : List ℕ) (m : ℕ) → m ≤ k → list_all (λ j. nat_lt j m) xs ≡ true → position (nat_eq k) xs ≡ None
no_position k xs m h all =
    ap (λ n. cond (nat_lt n (length xs)) (Some n) None) (not_there k xs m h all) ∙ ap (λ b. cond b (Some (length xs)) None) (le-ltb (length xs) (length xs) (omega arith))

pub numbers_below_count : (passes : Thing → Bool) (ts : List Thing) → list_all (λ j. nat_lt j (length ts)) (numbers_of passes ts) ≡ true
numbers_below_count passes ts =
    all_filtered (λ j. nat_lt j (length ts)) (λ k. passes (thing_at ts k)) (numbers_below (length ts)) (below_all (length ts) (length ts) (omega arith))

pub named_below_count : (ts : List Thing) → list_all (λ j. nat_lt j (length ts)) (named ts) ≡ true
named_below_count ts = all_append (λ j. nat_lt j (length ts)) (numbers_of (is_named_by true) ts) (numbers_of (is_named_by false) ts) (numbers_below_count (is_named_by true) ts) (numbers_below_count (is_named_by false) ts)

-- ---- locals, one more function at a time

-- all names of some functions' locals, in order
abbrev pub names_in : List (ℕ × List (List ℕ)) → List (List ℕ)
names_in [] = []
names_in (f ∷ fs) = f.1 ++ names_in fs

pub names_in_more : (fs : List (ℕ × List (List ℕ))) (f : ℕ × List (List ℕ)) → names_in (fs ++ f ∷ []) ≡ names_in fs ++ f.1
names_in_more [] f = append-nil f.1
names_in_more (g ∷ fs) f = ap (λ l. g.1 ++ l) (names_in_more fs f) ∙ sym (append_assoc g.1 (names_in fs) f.1)

module _ (ts : List Thing) (reserved outer : List (List ℕ)) where
  pub locals_more : (given : List (List ℕ)) (functions : List ℕ) (i k : ℕ) (before after : List (ℕ × List (List ℕ))) (names : List (List ℕ)) → i < length functions → k ≡ get_or functions i 0 →
      names ≡ names_for reserved (given ++ names_in before) outer (local_wishes (thing_at ts k)) → after ≡ before ++ (k, names) ∷ [] →
      locals_for ts reserved outer given functions ≡ before ++ locals_for ts reserved outer (given ++ names_in before) (drop i functions) →
      locals_for ts reserved outer given functions ≡ after ++ locals_for ts reserved outer (given ++ names_in after) (drop (i + 1) functions)
  unfolding locals_for
  locals_more given functions i k before after names h is new all front =
      let e : suc i ≡ i + 1 = omega arith in
      let rest = drop (suc i) functions in
      let told = names_for reserved (given ++ names_in before) outer (local_wishes (thing_at ts k)) in
      let grown : (given ++ names_in before) ++ names ≡ given ++ names_in after =
      append_assoc given (names_in before) names ∙ ap (λ l. given ++ l) (sym (names_in_more before (k, names)) ∙ ap names_in (sym all)) in
      front
      ∙ (ap (λ l. before ++ locals_for ts reserved outer (given ++ names_in before) l) (drop-cons functions i 0 h ∙ ap (λ j. j ∷ rest) (sym is))
      ∙ (ap (λ xs. before ++ ((k, xs) ∷ locals_for ts reserved outer ((given ++ names_in before) ++ xs) rest)) (sym new)
      ∙ (ap (λ g. before ++ ((k, names) ∷ locals_for ts reserved outer g rest)) grown
      ∙ (sym (append_assoc before ((k, names) ∷ []) (locals_for ts reserved outer (given ++ names_in after) rest))
      ∙ (ap (λ l. l ++ locals_for ts reserved outer (given ++ names_in after) rest) (sym all)
      ∙ ap (λ j. after ++ locals_for ts reserved outer (given ++ names_in after) (drop j functions)) e)))))

  drop_end : (xs : List ℕ) (i : ℕ) → length xs ≤ i → drop i xs ≡ []
  drop_end [] zero h = refl
  drop_end [] (suc i) h = refl
  drop_end (x ∷ xs) zero h = absurd (omega (arith, h))
  drop_end (x ∷ xs) (suc i) h = drop_end xs i (omega (arith, h))

  locals_none : (given : List (List ℕ)) → locals_for ts reserved outer given [] ≡ []
  unfolding locals_for
  locals_none given = refl

  pub locals_end : (given : List (List ℕ)) (functions : List ℕ) (i : ℕ) (done : List (ℕ × List (List ℕ))) → length functions ≤ i →
      locals_for ts reserved outer given functions ≡ done ++ locals_for ts reserved outer (given ++ names_in done) (drop i functions) → locals_for ts reserved outer given functions ≡ done
  locals_end given functions i done h front =
      front
      ∙ (ap (λ l. done ++ locals_for ts reserved outer (given ++ names_in done) l) (drop_end functions i h)
      ∙ (ap (λ l. done ++ l) (locals_none (given ++ names_in done)) ∙ append-nil done))

-- ---- names that are reserved, and those that a set has

module _ (names : List (List ℕ)) where
  pub reserved_more : (r : List (List ℕ)) (i : ℕ) (x n : List ℕ) → i < length names → n ≡ get_or names i n → x ≡ n → (r ++ take i names) ++ x ∷ [] ≡ r ++ take (i + 1) names
  reserved_more r i x n h is same =
      append_assoc r (take i names) (x ∷ []) ∙ ap (λ l. r ++ l) (ap (λ y. take i names ++ y ∷ []) (same ∙ is) ∙ sym (take_more names i n h))

  pub reserved_end : (r : List (List ℕ)) (i : ℕ) → length names ≤ i → r ++ take i names ≡ r ++ names
  reserved_end r i h = ap (λ l. r ++ l) (take_end names i h)

module _ {X : Type 0} (f : X → List (List ℕ)) (xs : List X) where
  pub all_more : (r : List (List ℕ)) (i : ℕ) (x : X) (l : List (List ℕ)) → i < length xs → x ≡ get_or xs i x → l ≡ f x → (r ++ flat_map f (take i xs)) ++ l ≡ r ++ flat_map f (take (i + 1) xs)
  all_more r i x l h is same =
      append_assoc r (flat_map f (take i xs)) l
      ∙ ap (λ m. r ++ m) (ap (λ m. flat_map f (take i xs) ++ m) (same ∙ sym (append-nil (f x)))
      ∙ (sym (flat_map-append f (take i xs) (x ∷ []))
      ∙ ap (flat_map f) (ap (λ y. take i xs ++ y ∷ []) is ∙ sym (take_more xs i x h))))

  pub all_end : (r : List (List ℕ)) (i : ℕ) → length xs ≤ i → r ++ flat_map f (take i xs) ≡ r ++ flat_map f xs
  all_end r i h = ap (λ l. r ++ flat_map f l) (take_end xs i h)

pub reserved_four : (r : List (List ℕ)) (a b c d : List ℕ) → (((r ++ a ∷ []) ++ b ∷ []) ++ c ∷ []) ++ d ∷ [] ≡ r ++ (a ∷ b ∷ c ∷ d ∷ [])
reserved_four r a b c d = simp append_assoc

four_same : (a b c d : List ℕ) → HaveSame (with_name (with_name (with_name (with_name [] a) b) c) d) (a ∷ b ∷ c ∷ d ∷ [])
four_same a b c d =
    same-with (with_name (with_name (with_name [] a) b) c) (a ∷ b ∷ c ∷ []) d
    (same-with (with_name (with_name [] a) b) (a ∷ b ∷ []) c
    (same-with (with_name [] a) (a ∷ []) b
    (same-with [] [] a (λ x. refl))))

pub four_added : (n₀ n₁ n₂ n₃ n₄ : List (List ℕ)) (a b c d : List ℕ) → n₀ ≡ [] → n₁ ≡ with_name n₀ a → n₂ ≡ with_name n₁ b → n₃ ≡ with_name n₂ c → n₄ ≡ with_name n₃ d → HaveSame n₄ (a ∷ b ∷ c ∷ d ∷ [])
four_added n₀ n₁ n₂ n₃ n₄ a b c d e₀ e₁ e₂ e₃ e₄ =
    subst (λ n. HaveSame n (a ∷ b ∷ c ∷ d ∷ []))
    (sym (e₄ ∙ ap (λ n. with_name n d) (e₃ ∙ ap (λ n. with_name n c) (e₂ ∙ ap (λ n. with_name n b) (e₁ ∙ ap (λ n. with_name n a) e₀)))))
    (four_same a b c d)

-- ---- where the name of a thing stands, by the position that is kept for it

pub position_kept : (ts : List Thing) (n : ℕ) (ps : List (Option ℕ)) → length ps ≡ n → n ≡ length ts → ((k : ℕ) → k < n → get_or ps k None ≡ position (nat_eq k) (named ts)) →
    (k : ℕ) → get_or ps k None ≡ position (nat_eq k) (named ts)
position_kept ts n ps len count known k = by (cases_lt k n)
  where
    by : (k < n) ⊎ (n ≤ k) → get_or ps k None ≡ position (nat_eq k) (named ts)
    by (inl low) = known k low
    by (inr high) =
        get_or-eq_default ps None (omega (arith, len, high))
        ∙ sym (no_position k (named ts) (length ts) (omega (arith, high, count)) (named_below_count ts))
