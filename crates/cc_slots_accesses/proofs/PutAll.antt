-- An access that is put behind those of the keys that it names, key by key.
use Rattle.std.proofs.Common.{arith, ◌≡◌, ◌≢◌, ◌<◌, ◌≤◌, ◌+◌, ℕ, add-one, Bool, true, false, nat_eq, List, [], ◌∷◌, ◌++◌, length, length-append, take, get_or, Option, Some, None, refl, ap, sym, subst, ◌∙◌, inl, inr}
use Rattle.std.specs.Prelude.{◌⊎◌, ◌-◌, slice_get, slice_set, if◌then◌else◌}
use Rattle.std.specs.List.{Contains}
use Rattle.std.specs.Option.{option_map_or}
use Rattle.std.proofs.Math.Seq.{get_or-append_seam, take-suc}
use Rattle.std.proofs.lemmas.Bool.{cases_lt}
use Rattle.std.proofs.lemmas.Grind.{get_or-set_at}
use Rattle.std.proofs.lemmas.List.{get_or-set_other, length-set}
use Rattle.std.proofs.lemmas.List.Elements.{Contains-append_cases, Contains-append_left, Contains-append_right}
use Rattle.std.proofs.lemmas.List.Quantifiers.{position-Some}
use Rattle.std.proofs.lemmas.Option.{same_Some, slice_get-get_or}
use Rattle.cc_program.specs.declared.program.Program.{Program}
use Rattle.cc_slots_accesses.specs.declared.access.Access.{Access}
use Rattle.cc_slots_accesses.specs.Puts.{ends_at, of_number, put_behind, IsPut}
use Rattle.cc_slots_accesses.proofs.Listed.{is_one, only_one, same_key}
use Rattle.cc_rules_flows.specs.CcStateFacts.declared.facts.Key.{Key}
use Rattle.cc_state_keys.specs.Keys.{is_key, key_number, keys_of}

same_or : (m n : ℕ) → (m ≡ n) ⊎ (m ≢ n)
same_or m n = by (cases_lt m n) (cases_lt n m)
  where
    by : (m < n) ⊎ (n ≤ m) → (n < m) ⊎ (m ≤ n) → (m ≡ n) ⊎ (m ≢ n)
    by (inl h) k = inr (λ e. omega (arith, h, e))
    by (inr h) (inl k) = inr (λ e. omega (arith, k, e))
    by (inr h) (inr k) = inl (omega (arith, h, k))

-- two keys with one number are one
pub one_key : (p : Program) (k l : Key) (n : ℕ) → key_number p k ≡ Some n → key_number p l ≡ Some n → k ≡ l
one_key p k l n h m =
    let first = position-Some (is_key k) (keys_of p) n k h in
    let second = position-Some (is_key l) (keys_of p) n k m in
    same_key k (get_or (keys_of p) n k) first.1 ∙ sym (same_key l (get_or (keys_of p) n k) second.1)

pub number_below : (p : Program) (k : Key) (n : ℕ) → key_number p k ≡ Some n → n < length (keys_of p)
number_below p k n h = (position-Some (is_key k) (keys_of p) n k h).0

-- ---- behind itself an access is not put again

itself : (n : ℕ) → nat_eq n n ≡ true
itself n = grind arith

last-there : (l : List Access) (it : Access) → ends_at (l ++ it ∷ []) it.point ≡ true
last-there l it =
    let long : length (l ++ it ∷ []) - 1 ≡ length l = omega (arith, length-append l (it ∷ [])) in
    let short : length l < length (l ++ it ∷ []) = omega (arith, length-append l (it ∷ [])) in
    ap (λ n. option_map_or (λ (x : Access). nat_eq x.point it.point) (slice_get (l ++ it ∷ []) n) false) long
    ∙ (ap (λ o. option_map_or (λ (x : Access). nat_eq x.point it.point) o false) (slice_get-get_or (l ++ it ∷ []) (length l) it short ∙ ap Some (get_or-append_seam l it [] it)) ∙ itself it.point)

again : (l : List Access) (it : Access) → put_behind (put_behind l it) it ≡ put_behind l it
again l it = by (ends_at l it.point) refl
  where
    by : (b : Bool) → ends_at l it.point ≡ b → put_behind (put_behind l it) it ≡ put_behind l it
    by true h = ap (λ m. put_behind m it) (ap (λ c. if c then l else l ++ it ∷ []) h)
    by false h =
        let more : put_behind l it ≡ l ++ it ∷ [] = ap (λ c. if c then l else l ++ it ∷ []) h in
        ap (λ m. put_behind m it) more ∙ (ap (λ c. if c then l ++ it ∷ [] else (l ++ it ∷ []) ++ it ∷ []) (last-there l it) ∙ sym more)

-- ---- key by key

module _ (p : Program) (it : Access) (old : List (List Access)) where
  pub record ArePut (named : List Key) (now : List (List Access)) : Type 0 where
    pub count : length now ≡ length old
    pub put : (k : Key) (n : ℕ) → key_number p k ≡ Some n → Contains named k → of_number now n ≡ put_behind (of_number old n) it
    pub kept : (k : Key) (n : ℕ) → key_number p k ≡ Some n → (Contains named k → ⊥) → of_number now n ≡ of_number old n
    pub either : (n : ℕ) → (of_number now n ≡ of_number old n) ⊎ (of_number now n ≡ put_behind (of_number old n) it)

  pub none_put : ArePut [] old
  none_put = record { count = refl; put = λ k n h c. absurd (let l : c.0 < 0 = c.1 in omega (arith, l)); kept = λ k n h c. refl; either = λ n. inl refl }

  pub all_put : (named : List Key) (now : List (List Access)) → ArePut named now → IsPut p named it old now
  all_put named now h = record { count = h.count; put = h.put; kept = h.kept }

  module _ (named : List Key) (now new : List (List Access)) (x : Key) (h : ArePut named now) where
    -- a key that the program lacks
    pub lacking : key_number p x ≡ None → new ≡ now → ArePut (named ++ x ∷ []) new
    lacking absent e = subst (ArePut (named ++ x ∷ [])) (sym e) (record {
      count = h.count;
      put = λ k n there m. elim (Contains-append_cases named (x ∷ []) k m) [
        | inl c ↦ h.put k n there c
        | inr c ↦ let none : None ≡ Some n = sym absent ∙ (ap (key_number p) (only_one x k c) ∙ there) in absurd (cc)
      ];
      kept = λ k n there m. h.kept k n there (λ c. m (Contains-append_left named (x ∷ []) k c));
      either = h.either;
    })

    module _ (number : ℕ) (is : key_number p x ≡ Some number) (lt : number < length now) (e : new ≡ slice_set now number (put_behind (of_number now number) it)) where
      there : of_number new number ≡ put_behind (of_number now number) it
      there = ap (λ l. of_number l number) e ∙ get_or-set_at now number number (put_behind (of_number now number) it) [] refl lt

      elsewhere : (n : ℕ) → n ≢ number → of_number new n ≡ of_number now n
      elsewhere n apart = ap (λ l. of_number l n) e ∙ get_or-set_other now number n (put_behind (of_number now number) it) [] apart

      put-there : of_number new number ≡ put_behind (of_number old number) it
      put-there = elim (h.either number) [
        | inl same ↦ there ∙ ap (λ l. put_behind l it) same
        | inr put ↦ there ∙ (ap (λ l. put_behind l it) put ∙ again (of_number old number) it)
      ]

      put-next : (k : Key) (n : ℕ) → key_number p k ≡ Some n → Contains (named ++ x ∷ []) k → (n ≡ number) ⊎ (n ≢ number) → of_number new n ≡ put_behind (of_number old n) it
      put-next k n key m (inl same) = subst (λ i. of_number new i ≡ put_behind (of_number old i) it) (sym same) put-there
      put-next k n key m (inr apart) = elim (Contains-append_cases named (x ∷ []) k m) [
        | inl c ↦ elsewhere n apart ∙ h.put k n key c
        | inr c ↦ absurd (apart (same_Some n number (sym key ∙ (ap (key_number p) (sym (only_one x k c)) ∙ is))))
      ]

      kept-next : (k : Key) (n : ℕ) → key_number p k ≡ Some n → (Contains (named ++ x ∷ []) k → ⊥) → (n ≡ number) ⊎ (n ≢ number) → of_number new n ≡ of_number old n
      kept-next k n key m (inl same) = absurd (m (Contains-append_right named (x ∷ []) k (is_one x k (one_key p x k n (is ∙ ap Some (sym same)) key))))
      kept-next k n key m (inr apart) = elsewhere n apart ∙ h.kept k n key (λ c. m (Contains-append_left named (x ∷ []) k c))

      either-next : (n : ℕ) → (n ≡ number) ⊎ (n ≢ number) → (of_number new n ≡ of_number old n) ⊎ (of_number new n ≡ put_behind (of_number old n) it)
      either-next n (inl same) = inr (subst (λ i. of_number new i ≡ put_behind (of_number old i) it) (sym same) put-there)
      either-next n (inr apart) = elim (h.either n) [
        | inl kept ↦ inl (elsewhere n apart ∙ kept)
        | inr put ↦ inr (elsewhere n apart ∙ put)
      ]

      pub one_put : ArePut (named ++ x ∷ []) new
      one_put = record {
        count = ap length e ∙ (length-set now number (put_behind (of_number now number) it) ∙ h.count);
        put = λ k n key m. put-next k n key m (same_or n number);
        kept = λ k n key m. kept-next k n key m (same_or n number);
        either = λ n. either-next n (same_or n number);
      }

  -- by what one key asks
  pub by_number : (named : List Key) (now new : List (List Access)) (x : Key) → ArePut named now → length now ≡ length (keys_of p) → (key_number p x ≡ None → new ≡ now) →
      ((n : ℕ) → key_number p x ≡ Some n → new ≡ slice_set now n (put_behind (of_number now n) it)) → ArePut (named ++ x ∷ []) new
  by_number named now new x h long none some = by (key_number p x) refl
    where
      by : (o : Option ℕ) → key_number p x ≡ o → ArePut (named ++ x ∷ []) new
      by None e = lacking named now new x h e (none e)
      by (Some n) e = let below = number_below p x n e in one_put named now new x h n e (omega (arith, below, long)) (some n e)

-- one more of a list
pub next_of : {A : Type 0} (P : List A → Type 0) (xs : List A) (i : ℕ) (x : A) → i < length xs → x ≡ get_or xs i x → P (take i xs ++ x ∷ []) → P (take (i + 1) xs)
next_of P xs i x lt is h =
    let more : take (i + 1) xs ≡ take i xs ++ get_or xs i x ∷ [] = rw add-one (take-suc xs i x lt) in
    subst P (sym (more ∙ ap (λ y. take i xs ++ y ∷ []) (sym is))) h
