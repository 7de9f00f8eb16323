-- Characters of a string, one behind the other.
use Rattle.std.proofs.Common.{arith, ◌≡◌, ◌∙◌, ◌+◌, ◌-◌, ◌<◌, ℕ, zero, suc, Bool, List, [], ◌∷◌, ◌++◌, refl, ap, sym, drop, append_assoc, slice_get, Option, Some, None}
use Rattle.cc_initialisers.specs.Initialisers.{Step, char_or_zero, chars_given}
use Rattle.std.proofs.lemmas.List.{append-nil}
use Rattle.cc_initialisers.proofs.Filling.{dropped, gone}
use Rattle.cc_operands.specs.CcSyntax.Values.{ValueType}

module _ (at : ℕ) (constant : Bool) (t : ValueType) (bytes : List ℕ) where
  -- so many characters from the i-th on
  abbrev pub chars_from : ℕ → ℕ → List Step
  chars_from m i = chars_given at constant t m (drop i bytes)

  opened : (m i : ℕ) (o : Option ℕ) → slice_get bytes i ≡ o → chars_from (suc m) i ≡ char_or_zero at constant t o ∷ chars_from m (i + 1)
  opened m i None g =
      let d : drop i bytes ≡ [] = (gone bytes i g).0 in
      let e : drop (i + 1) bytes ≡ [] = (gone bytes i g).1 in
      ap (λ l. chars_given at constant t (suc m) l) d ∙ ap (λ l. char_or_zero at constant t None ∷ chars_given at constant t m l) (sym e)
  opened m i (Some b) g = ap (λ l. chars_given at constant t (suc m) l) (dropped bytes i b g)

  pub character-next : (n i : ℕ) (before after whole : List Step) → i < n → after ≡ before ++ char_or_zero at constant t (slice_get bytes i) ∷ [] →
      before ++ chars_from (n - i) i ≡ whole → after ++ chars_from (n - (i + 1)) (i + 1) ≡ whole
  character-next n i before after whole h a w =
      let k : n - i ≡ suc (n - (i + 1)) = omega arith in
      ap (λ l. l ++ chars_from (n - (i + 1)) (i + 1)) a
      ∙ append_assoc before (char_or_zero at constant t (slice_get bytes i) ∷ []) (chars_from (n - (i + 1)) (i + 1))
      ∙ ap (λ l. before ++ l) (sym (opened (n - (i + 1)) i (slice_get bytes i) refl))
      ∙ ap (λ m. before ++ chars_from m i) (sym k) ∙ w

pub ruleset of_characters = (append-nil, character-next)
