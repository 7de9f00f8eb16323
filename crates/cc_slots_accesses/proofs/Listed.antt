-- What is contained in a list of one and in a list that is filtered; keys that are the same.
use Rattle.std.proofs.Common.{arith, ◌≡◌, ◌<◌, ℕ, zero, suc, Bool, true, false, true≢false, ◌&&◌, List, [], ◌∷◌, Some, refl, ap, sym, ◌∙◌, slice_get}
use Rattle.std.specs.Prelude.{◌==◌, if◌then◌else◌}
use Rattle.std.specs.List.{Contains, filter}
use Rattle.std.proofs.lemmas.Option.{same_Some, none-some, slice_get-get_or, slice_get_within, get_or_from_slice_get}
use Rattle.cc_rules_flows.specs.CcStateFacts.declared.facts.Key.{Key}
use Rattle.cc_rules_flows.specs.CcStateFacts.declared.facts.Key.TheVariants as key
use Rattle.cc_state_keys.specs.Keys.{is_key}

at_contained : {A : Type 0} (xs : List A) (x : A) → Contains xs x → (k : ℕ) × (slice_get xs k ≡ Some x)
at_contained xs x c = (c.0, slice_get-get_or xs c.0 x c.1 ∙ ap Some c.2)

pub contains_at : {A : Type 0} (xs : List A) (k : ℕ) (x : A) → slice_get xs k ≡ Some x → Contains xs x
contains_at xs k x e = (k, slice_get_within xs k x e, get_or_from_slice_get xs k x x e)

pub no_member : {A C : Type 0} (x : A) → Contains [] x → C
no_member x c = absurd (let l : c.0 < 0 = c.1 in omega (arith, l))

pub only_one : {A : Type 0} (y x : A) → Contains (y ∷ []) x → y ≡ x
only_one y x c = by (at_contained (y ∷ []) x c).0 (at_contained (y ∷ []) x c).1
  where
    by : (k : ℕ) → slice_get (y ∷ []) k ≡ Some x → y ≡ x
    by zero e = same_Some y x e
    by (suc k) e = absurd (none-some x e)

pub is_one : {A : Type 0} (y x : A) → y ≡ x → Contains (y ∷ []) x
is_one y x e = contains_at (y ∷ []) 0 x (ap Some e)

pub passes : {A : Type 0} (test : A → Bool) (xs : List A) (x : A) → Contains (filter test xs) x → test x ≡ true
passes test [] x c = no_member x c
passes {A = A} test (y ∷ xs) x c = by (λ k. passes test xs x k) (test y) refl c
  where
    first : (Contains (filter test xs) x → test x ≡ true) → test y ≡ true → (k : ℕ) → slice_get (y ∷ filter test xs) k ≡ Some x → test x ≡ true
    first rest t zero e = ap test (sym (same_Some y x e)) ∙ t
    first rest t (suc k) e = rest (contains_at (filter test xs) k x e)

    by : (Contains (filter test xs) x → test x ≡ true) → (b : Bool) → test y ≡ b → Contains (if b then y ∷ filter test xs else filter test xs) x → test x ≡ true
    by rest true t c = let at = at_contained (y ∷ filter test xs) x c in first rest t at.0 at.1
    by rest false t c = rest c

eq_of : (i j : ℕ) → (i == j) ≡ true → i ≡ j
eq_of i j h = grind (arith, h)

both_eq : (a b m n : ℕ) → ((a == b) && (m == n)) ≡ true → (a ≡ b) × (m ≡ n)
both_eq a b m n h = (grind (arith, h), grind (arith, h))

pub same_key : (k l : Key) → is_key k l ≡ true → k ≡ l
same_key (key.Object i) (key.Object j) h = ap key.Object (eq_of i j h)
same_key (key.Object i) (key.Local g q) h = absurd (true≢false (sym h))
same_key (key.Object i) (key.Member t n) h = absurd (true≢false (sym h))
same_key (key.Local f r) (key.Object j) h = absurd (true≢false (sym h))
same_key (key.Local f r) (key.Local g q) h = let s = both_eq f g r q h in ap (λ n. key.Local n r) s.0 ∙ ap (key.Local g) s.1
same_key (key.Local f r) (key.Member t n) h = absurd (true≢false (sym h))
same_key (key.Member s m) (key.Object j) h = absurd (true≢false (sym h))
same_key (key.Member s m) (key.Local g q) h = absurd (true≢false (sym h))
same_key (key.Member s m) (key.Member t n) h = let e = both_eq s t m n h in ap (λ k. key.Member k m) e.0 ∙ ap (key.Member t) e.1
