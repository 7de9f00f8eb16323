-- Names that some numbers have, in order: where other numbers have other names they are distinct.
use Rattle.std.proofs.Common.{◌≡◌, ◌∙◌, ◌⊎◌, inl, inr, ℕ, Bool, true, true≢false, List, [], ◌∷◌, ◌++◌, Option, Some, refl, ap, sym, subst}
use Rattle.std.specs.List.{list_all}
use Rattle.std.specs.Str.{bytes_eq}
use Rattle.std.proofs.lemmas.Bool.{and_from, false_from_ne_true, or_cases}
use Rattle.cc_given_names.proofs.Among.{same-text, distinct-cons}
use Rattle.cc_names.specs.Names.{is_among}
use Rattle.cc_structures.proofs.Elements.{In}
use Rattle.cc_program.specs.CcWords.Names.{are_distinct}
use Rattle.cc_linked_programs.proofs.NameNumbers.{Apart}

module _ (name_of : ℕ → Option (List ℕ)) where
  -- a number gives none, or its name
  abbrev pub NamesBy : List ℕ → List (List ℕ) → Type 0
  NamesBy [] xs = xs ≡ []
  NamesBy (k ∷ ks) xs = NamesBy ks xs ⊎ ((x : List ℕ) × (ys : List (List ℕ)) × (xs ≡ x ∷ ys) × (name_of k ≡ Some x) × NamesBy ks ys)

  pub both-by : (ks ls : List ℕ) (xs ys : List (List ℕ)) → NamesBy ks xs → NamesBy ls ys → NamesBy (ks ++ ls) (xs ++ ys)
  both-by [] ls xs ys h g = subst (λ (zs : List (List ℕ)). NamesBy ls (zs ++ ys)) (sym h) g
  both-by (k ∷ ks) ls xs ys (inl h) g = inl (both-by ks ls xs ys h g)
  both-by (k ∷ ks) ls xs ys (inr h) g = inr (h.0, h.1 ++ ys, ap (λ (zs : List (List ℕ)). zs ++ ys) h.2, h.3, both-by ks ls h.1 ys h.4 g)

  pub named-by : (ks : List ℕ) (xs : List (List ℕ)) → NamesBy ks xs → (x : List ℕ) → is_among x xs ≡ true → (k : ℕ) × (In k ks) × (name_of k ≡ Some x)
  named-by [] xs h x i = absurd (true≢false (sym i ∙ ap (is_among x) h))
  named-by (k ∷ ks) xs (inl h) x i = let r = named-by ks xs h x i in (r.0, inr r.1, r.2)
  named-by (k ∷ ks) xs (inr h) x i = by h.0 h.3 (or_cases (bytes_eq x h.0) (is_among x h.1) (sym (ap (is_among x) h.2) ∙ i)) (named-by ks h.1 h.4 x)
    where
      by : {A : Type 0} (y : List ℕ) → name_of k ≡ Some y → (bytes_eq x y ≡ true) ⊎ A → (A → (j : ℕ) × (In j ks) × (name_of j ≡ Some x)) → (j : ℕ) × (In j (k ∷ ks)) × (name_of j ≡ Some x)
      by y e (inl s) rest = (k, inl refl, e ∙ ap Some (sym (same-text x y s)))
      by y e (inr i) rest = let r = rest i in (r.0, inr r.1, r.2)

  pub distinct-by : ((j k : ℕ) (x : List ℕ) → name_of j ≡ Some x → name_of k ≡ Some x → j ≡ k) → (ks : List ℕ) (xs : List (List ℕ)) → Apart ks → NamesBy ks xs → are_distinct xs ≡ true
  distinct-by one [] xs a h = ap are_distinct h
  distinct-by one (k ∷ ks) xs a (inl h) = distinct-by one ks xs a.1 h
  distinct-by one (k ∷ ks) xs a (inr h) =
      ap are_distinct h.2
      ∙ distinct-cons h.0 h.1
      (false_from_ne_true (is_among h.0 h.1) (λ i. let r = named-by ks h.1 h.4 h.0 i in a.0 (subst (λ (n : ℕ). In n ks) (one r.0 k h.0 r.2 h.3) r.1)))
      (distinct-by one ks h.1 a.1 h.4)

  pub all-by : (p : List ℕ → Bool) → ((k : ℕ) (x : List ℕ) → name_of k ≡ Some x → p x ≡ true) → (ks : List ℕ) (xs : List (List ℕ)) → NamesBy ks xs → list_all p xs ≡ true
  all-by p each [] xs h = ap (list_all p) h
  all-by p each (k ∷ ks) xs (inl h) = all-by p each ks xs h
  all-by p each (k ∷ ks) xs (inr h) = ap (list_all p) h.2 ∙ and_from (p h.0) (list_all p h.1) (each k h.0 h.3) (all-by p each ks h.1 h.4)
