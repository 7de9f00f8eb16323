-- Loops over lists: what is made of each element.
use Rattle.std.proofs.Common.{◌≡◌, ◌∙◌, ◌+◌, ◌<◌, ◌≤◌, ℕ, zero, suc, Bool, true, false, cond, List, [], ◌∷◌, ◌++◌, length, get_or, take, Option, Some, None, refl, ap, sym, arith}
use Rattle.std.specs.List.{list_any, position_or_len}
use Rattle.std.specs.Prelude.{◌||◌, filter_map, map, nat_lt, option_to_list, position, zip}
use Rattle.std.proofs.lemmas.Bool.{lt-ltb, le-ltb}
use Rattle.std.proofs.lemmas.List.{take_more}
use Rattle.std.proofs.lemmas.List.Folds.{list_any-append}
use Rattle.std.proofs.lemmas.List.Elements.{filter_map-append}
use Rattle.cc_link.specs.Linked.{structure_of}
use Rattle.cc_program.specs.declared.types.Structure.{Structure}
use Rattle.cc_structures.specs.Structures.{Numbering}
use Rattle.cc_structures.specs.View.{known_of, knowns_of}
use Rattle.cc_structures.specs.declared.known.Known.{Known as KnownOf}

take_end : {X : Type 0} (xs : List X) (i : ℕ) → length xs ≤ i → take i xs ≡ xs
take_end [] zero h = refl
take_end [] (suc i) h = refl
take_end (x ∷ xs) zero h = absurd (omega (arith, h))
take_end (x ∷ xs) (suc i) h = ap (λ l. x ∷ l) (take_end xs i (omega (arith, h)))

one_more : {X : Type 0} (xs : List X) (i : ℕ) (x : X) → i < length xs → x ≡ get_or xs i x → take (i + 1) xs ≡ take i xs ++ x ∷ []
one_more xs i x h is = take_more xs i x h ∙ ap (λ y. take i xs ++ y ∷ []) (sym is)

-- ---- what is made of each

made_one : {Y : Type 0} (o : Option Y) → filter_map (λ (x : Option Y). x) (o ∷ []) ≡ option_to_list o
made_one None = refl
made_one (Some y) = refl

module _ {X Y : Type 0} (f : X → Option Y) (xs : List X) where
  made : (o : Option Y) (x : X) → o ≡ f x → filter_map f (x ∷ []) ≡ option_to_list o
  made None x e = ap (λ q. filter_map (λ (x : Option Y). x) (q ∷ [])) (sym e) ∙ made_one None
  made (Some y) x e = ap (λ q. filter_map (λ (x : Option Y). x) (q ∷ [])) (sym e) ∙ made_one (Some y)

  pub made_more : (i : ℕ) (x : X) (o : Option Y) (before after : List Y) → i < length xs → x ≡ get_or xs i x → o ≡ f x → before ≡ filter_map f (take i xs) → after ≡ before ++ option_to_list o → after ≡ filter_map f (take (i + 1) xs)
  made_more i x o before after h is test front all =
      all ∙ (ap (λ l. l ++ option_to_list o) front
      ∙ (ap (λ l. filter_map f (take i xs) ++ l) (sym (made o x test))
      ∙ (sym (filter_map-append f (take i xs) (x ∷ [])) ∙ ap (filter_map f) (sym (one_more xs i x h is)))))

  pub made_end : (i : ℕ) (all : List Y) → length xs ≤ i → all ≡ filter_map f (take i xs) → all ≡ filter_map f xs
  made_end i all h is = is ∙ ap (filter_map f) (take_end xs i h)

-- ---- the position of the first that passes

or_false : (b : Bool) → (b || false) ≡ b
or_false true = refl
or_false false = refl

module _ (p : ℕ → Bool) where
  first_at : (xs : List ℕ) (i : ℕ) → i < length xs → list_any p (take i xs) ≡ false → p (get_or xs i 0) ≡ true → position_or_len p xs ≡ i
  first_at [] i h none passes = absurd (omega (arith, h))
  first_at (x ∷ xs) zero h none passes = rw passes refl
  first_at (x ∷ xs) (suc i) h none passes = by (p x) refl none (λ n. first_at xs i (omega (arith, h)) n passes)
    where
      by : (b : Bool) → p x ≡ b → (b || list_any p (take i xs)) ≡ false → (list_any p (take i xs) ≡ false → position_or_len p xs ≡ i) → position_or_len p (x ∷ xs) ≡ suc i
      by true e n rest = absurd (cc)
      by false e n rest = let r = rest n in rw e (omega (arith, r))

  none_there : (xs : List ℕ) → list_any p xs ≡ false → position_or_len p xs ≡ length xs
  none_there [] none = refl
  none_there (x ∷ xs) none = by (p x) refl none (none_there xs)
    where
      by : (b : Bool) → p x ≡ b → (b || list_any p xs) ≡ false → (list_any p xs ≡ false → position_or_len p xs ≡ length xs) → position_or_len p (x ∷ xs) ≡ length (x ∷ xs)
      by true e n rest = absurd (cc)
      by false e n rest = let r = rest n in rw e (omega (arith, r))

  pub not_yet : (xs : List ℕ) (i : ℕ) → i < length xs → list_any p (take i xs) ≡ false → p (get_or xs i 0) ≡ false → list_any p (take (i + 1) xs) ≡ false
  not_yet xs i h none fails =
      ap (list_any p) (take_more xs i 0 h)
      ∙ (list_any-append p (take i xs) (get_or xs i 0 ∷ []) ∙ (ap (λ b. b || (p (get_or xs i 0) || false)) none ∙ (or_false (p (get_or xs i 0)) ∙ fails)))

  pub position_found : (xs : List ℕ) (i : ℕ) → i < length xs → list_any p (take i xs) ≡ false → p (get_or xs i 0) ≡ true → position p xs ≡ Some i
  position_found xs i h none passes =
      ap (λ n. cond (nat_lt n (length xs)) (Some n) None) (first_at xs i h none passes) ∙ ap (λ b. cond b (Some i) None) (lt-ltb i (length xs) h)

  pub position_missed : (xs : List ℕ) (i : ℕ) → length xs ≤ i → list_any p (take i xs) ≡ false → position p xs ≡ None
  position_missed xs i h none =
      let all : list_any p xs ≡ false = ap (list_any p) (sym (take_end xs i h)) ∙ none in
      ap (λ n. cond (nat_lt n (length xs)) (Some n) None) (none_there xs all) ∙ ap (λ b. cond b (Some (length xs)) None) (le-ltb (length xs) (length xs) (omega arith))

-- ---- structures and their tags

abbrev pub tagged : Numbering → List ℕ × KnownOf → Structure
tagged numbering s = structure_of numbering (s.0, known_of s.1)

-- the structures as the code keeps them
pub with_tags : (numbering : Numbering) (tags : List (List ℕ)) (ks : List KnownOf) → map (tagged numbering) (zip tags ks) ≡ map (structure_of numbering) (zip tags (knowns_of ks))
unfolding knowns_of
with_tags numbering [] ks = refl
with_tags numbering (t ∷ ts) [] = refl
with_tags numbering (t ∷ ts) (k ∷ ks) = ap (λ l. tagged numbering (t, k) ∷ l) (with_tags numbering ts ks)
