-- The sets of registers, one after the other.
use Rattle.std.proofs.Common.{arith, ◌≡◌, ◌⊎◌, inl, inr, ⊎_elim, ◌+◌, ◌<◌, ◌≤◌, ℕ, zero, suc, ℤ, List, [], ◌∷◌, ◌++◌, length, take, get_or, Option, Some, None, slice_get, refl, ap, sym, subst, ◌∙◌}
use Rattle.std.proofs.lemmas.List.{length-append, length-take-le, take_more}
use Rattle.std.proofs.lemmas.Option.{same_Some}
use Rattle.cc_rules_flows.specs.CcPlaces.declared.abs.Abs.{Abs}
use Rattle.cc_rules_sides.specs.Refined.{AreLeft}
use Rattle.cc_rules_tests.specs.declared.tested.Tested.{Tested}
use Rattle.cc_rules_tests.specs.Tested.{IsExplicitIn, IsLeftIn, IsWorkedAt}
use Rattle.cc_rules_flows.specs.CcStateOperators.Domains.{Domain}

no_item : {A B : Type 0} (k : ℕ) (y : A) → slice_get {X = A} [] k ≡ Some y → B
no_item k y h = absurd (cc)

-- an element of a list with one more at its end
pub record IsBefore {A : Type 0} (xs : List A) (k : ℕ) (y : A) : Type 0 where
  pub within : k < length xs
  pub there : slice_get xs k ≡ Some y

pub pushed_cases : {A : Type 0} (xs : List A) (x : A) (k : ℕ) (y : A) → slice_get (xs ++ x ∷ []) k ≡ Some y → IsBefore xs k y ⊎ ((k ≡ length xs) × (x ≡ y))
pushed_cases [] x zero y h = inr (refl, same_Some x y h)
pushed_cases [] x (suc k) y h = no_item k y h
pushed_cases (p ∷ ps) x zero y h = inl (record { within = omega arith; there = h })
pushed_cases (p ∷ ps) x (suc k) y h = ⊎_elim
    (λ w. let l = w.within in inl (record { within = omega (arith, l); there = w.there }))
    (λ w. let e = w.0 in inr (omega (arith, e), w.1))
    (pushed_cases ps x k y h)

module _ {I : Type 0} (d : Domain I) (t : Tested I) where
  pub none_left : (sets : List (Abs I)) → AreLeft d t [] sets []
  none_left sets = record {
    each = refl;
    left = λ number r y z h k l. no_item number r h;
    worked = λ number r y m h k. no_item number r h;
  }

  module _ (registers : List ℕ) (sets left : List (Abs I)) (i r : ℕ) (y z : Abs I) (here : i < length registers) (is : r ≡ get_or registers i r) (set : slice_get sets i ≡ Some y) (so_far : AreLeft d t (take i registers) sets left) where
    long : length (take i registers) ≡ i
    long = length-take-le i registers (omega (arith, here))

    taken : take (i + 1) registers ≡ take i registers ++ r ∷ []
    taken = take_more registers i r here ∙ ap (λ q. take i registers ++ q ∷ []) (sym is)

    register_cases : (k q : ℕ) → slice_get (take (i + 1) registers) k ≡ Some q → IsBefore (take i registers) k q ⊎ ((k ≡ length (take i registers)) × (r ≡ q))
    register_cases k q h = pushed_cases (take i registers) r k q (subst (λ xs. slice_get xs k ≡ Some q) taken h)

    same_set : (k : ℕ) (v : Abs I) → k ≡ length (take i registers) → slice_get sets k ≡ Some v → y ≡ v
    same_set k v e h = same_Some y v (sym set ∙ subst (λ n. slice_get sets n ≡ Some v) (e ∙ long) h)

    longer : length (left ++ z ∷ []) ≡ length (take (i + 1) registers)
    longer =
        let e = so_far.each in
        let a : length (left ++ z ∷ []) ≡ length left + 1 = length-append left (z ∷ []) in
        let b : length (take i registers ++ r ∷ []) ≡ length (take i registers) + 1 = length-append (take i registers) (r ∷ []) in
        a ∙ (ap (λ n. n + 1) e ∙ (sym b ∙ ap length (sym taken)))

    pub one_more : IsLeftIn d t r y z → ((m : ℤ) → IsExplicitIn d t.context.now y m → IsWorkedAt d t r m) → AreLeft d t (take (i + 1) registers) sets (left ++ z ∷ [])
    one_more h worked = record {
      each = longer;
      left = λ k q v w a b c. ⊎_elim
          (λ old. ⊎_elim
          (λ there. so_far.left k q v w old.there b there.there)
          (λ there. absurd (let l = old.within in let e = so_far.each in let n = there.0 in omega (arith, l, e, n)))
          (pushed_cases left z k w c))
          (λ new. ⊎_elim
          (λ there. absurd (let l = there.within in let e = so_far.each in let n = new.0 in omega (arith, l, e, n)))
          (λ there. subst (λ p. IsLeftIn d t p v w) new.1 (subst (λ s. IsLeftIn d t r s w) (same_set k v new.0 b) (subst (λ s. IsLeftIn d t r y s) there.1 h)))
          (pushed_cases left z k w c))
          (register_cases k q a);
      worked = λ k q v m a b explicit. ⊎_elim
          (λ old. so_far.worked k q v m old.there b explicit)
          (λ new. subst (λ p. IsWorkedAt d t p m) new.1 (worked m (subst (λ s. IsExplicitIn d t.context.now s m) (sym (same_set k v new.0 b)) explicit)))
          (register_cases k q a);
    }
