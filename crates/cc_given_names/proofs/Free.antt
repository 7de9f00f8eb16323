-- A new name is free: of the numbers that are tried there is one more than names that are taken.
use Rattle.std.proofs.Common.{◌≡◌, ◌∙◌, ◌+◌, ◌≤◌, ℕ, suc, Bool, true, false, true≢false, cond, List, [], ◌∷◌, ◌++◌, length, map, Option, Some, None, refl, ap, sym, arith, length-append}
use Rattle.std.specs.Prelude.{find, unwrap_or, ◌||◌}
use Rattle.std.specs.Str.{bytes_eq}
use Rattle.std.proofs.lemmas.Bool.{or_parts, not-true, not-false}
use Rattle.std.proofs.lemmas.List.{length-map}
use Rattle.std.proofs.lemmas.List.Folds.{list_any-append}
use Rattle.cc_given_names.specs.Spaces.{AreAmong, HaveNumbers}
use Rattle.cc_given_names.proofs.Among.{same-text, absent, absent-both, no-more}
use Rattle.cc_given_names.proofs.Numerals.{names_from, names-distinct, length-numbers}
use Rattle.cc_names.specs.Names.{is_among, is_free, new_name, numbers_from, with_number}

found-passes : (p : ℕ → Bool) (ns : List ℕ) (i : ℕ) → find p ns ≡ Some i → p i ≡ true
found-passes p [] i e = absurd (cc)
found-passes p (n ∷ ns) i e = by (p n) refl e (found-passes p ns i)
  where
    by : (b : Bool) → p n ≡ b → cond b (Some n) (find p ns) ≡ Some i → (find p ns ≡ Some i → p i ≡ true) → p i ≡ true
    by true h k rest = let s : n ≡ i = cc k in sym (ap p s) ∙ h
    by false h k rest = rest k

module _ (reserved given : List (List ℕ)) where
  pub taken-not : (x : List ℕ) → is_free reserved given x ≡ true → (is_among x reserved ≡ false) × (is_among x given ≡ false)
  taken-not x h = or_parts (is_among x reserved) (is_among x given) (not-true (is_among x reserved || is_among x given) h)

  pub free-absent : (space : List (List ℕ)) (x : List ℕ) → AreAmong space (reserved ++ given) → is_free reserved given x ≡ true → is_among x space ≡ false
  free-absent space x h f = let t = taken-not x f in absent x space (reserved ++ given) h (absent-both x reserved given t.0 t.1)

  taken-all : (base : List ℕ) (ns : List ℕ) → find (λ i. is_free reserved given (with_number base i)) ns ≡ None → AreAmong (map (with_number base) ns) (reserved ++ given)
  taken-all base [] e x h = absurd (true≢false (sym h))
  taken-all base (n ∷ ns) e x h = by (is_free reserved given (with_number base n)) refl e (bytes_eq x (with_number base n)) refl h (λ k. taken-all base ns k x)
    where
      by : (b : Bool) → is_free reserved given (with_number base n) ≡ b → cond b (Some n) (find (λ i. is_free reserved given (with_number base i)) ns) ≡ None →
          (c : Bool) → bytes_eq x (with_number base n) ≡ c → (c || is_among x (map (with_number base) ns)) ≡ true →
          (find (λ i. is_free reserved given (with_number base i)) ns ≡ None → is_among x (map (with_number base) ns) ≡ true → is_among x (reserved ++ given) ≡ true) → is_among x (reserved ++ given) ≡ true
      by true f k c g i rest = absurd (cc k)
      by false f k true g i rest = ap (λ (z : List ℕ). is_among z (reserved ++ given)) (same-text x (with_number base n) g)
          ∙ (list_any-append (bytes_eq (with_number base n)) reserved given ∙ not-false (is_among (with_number base n) reserved || is_among (with_number base n) given) f)
      by false f k false g i rest = rest k i

  pub new-free : (base : List ℕ) (k : ℕ) → k ≤ 2 → HaveNumbers (length reserved + length given) → is_free reserved given (new_name reserved given base k) ≡ true
  new-free base k low enough = by (find (λ i. is_free reserved given (with_number base i)) (numbers_from k (suc (length reserved + length given)))) refl
    where
      by : (o : Option ℕ) → find (λ i. is_free reserved given (with_number base i)) (numbers_from k (suc (length reserved + length given))) ≡ o → is_free reserved given (with_number base (unwrap_or o k)) ≡ true
      by (Some i) e = found-passes (λ i. is_free reserved given (with_number base i)) (numbers_from k (suc (length reserved + length given))) i e
      by None e =
          let n = suc (length reserved + length given) in
          let d = names-distinct base k (suc (length reserved + length given)) (omega (arith, low, enough)) in
          let l = no-more (names_from base k (suc (length reserved + length given))) (reserved ++ given) d (taken-all base (numbers_from k (suc (length reserved + length given))) e) in
          let m = length-map (numbers_from k (suc (length reserved + length given))) (with_number base) ∙ length-numbers k (suc (length reserved + length given)) in
          let a = length-append reserved given in
          absurd (omega (arith, l, m, a))
