-- Sets, one for each of some keys, that get the values of these.
use Rattle.std.proofs.Common.{arith, ◌≡◌, ◌<◌, ◌≤◌, ◌+◌, ◌⊎◌, inl, inr, ℕ, zero, suc, ℤ, true, nat_lt, List, [], ◌∷◌, ◌++◌, length, get_or, Option, Some, None, slice_get, slice_set, refl, ap, sym, subst, ◌∙◌}
use Rattle.std.proofs.lemmas.Bool.{cases_lt}
use Rattle.std.proofs.lemmas.List.{length-set}
use Rattle.std.proofs.lemmas.Option.{same_Some, none-some, get_or_from_slice_get, slice_get-get_or, slice_get_within}
use Rattle.cc_rules_asked.specs.CcPlaces.declared.abs.Abs.{Abs}
use Rattle.cc_program.specs.declared.program.Program.{Program}
use Rattle.cc_program.specs.declared.value.Value.{Value}
use Rattle.cc_rules_firsts.proofs.Least.{kind_kept, then_more, none_more, same_more, least_of}
use Rattle.cc_rules_firsts.proofs.RowLemmas.{pushed, longer}
use Rattle.cc_rules_firsts.specs.Firsts.{IsNoneOf, IsWith, IsPutAt, AreNoneOf, MayGetAll, AreWith, AreLeastOf, IsOwn}
use Rattle.cc_rules_grow.proofs.Elements.{some_within}
use Rattle.cc_rules_grow.proofs.CcState.Numbered.{key_at, key_numbered}
use Rattle.cc_rules_asked.specs.CcStateFacts.declared.facts.Key.{Key}
use Rattle.cc_rules_asked.specs.CcStateFacts.declared.facts.Key.TheVariants as key
use Rattle.cc_rules_asked.proofs.CcStateKeys.Orders.{keys_ascend}
use Rattle.cc_rules_asked.specs.CcStateKeys.Keys.{keys_of, key_number}
use Rattle.cc_rules_asked.specs.CcStateKeys.Order.{is_pair_before, is_before}

-- ---- lists with another element at a place

-- what a list has at a place
pub at_place : {A : Type 0} (xs : List A) (i : ℕ) (x : A) → i < length xs → x ≡ get_or xs i x → slice_get xs i ≡ Some x
at_place xs i x l is = slice_get-get_or xs i x l ∙ ap Some (sym is)

set_here : {A : Type 0} (xs : List A) (n : ℕ) (y x : A) → slice_get xs n ≡ Some x → slice_get (slice_set xs n y) n ≡ Some y
set_here [] n y x h = absurd (none-some x h)
set_here (z ∷ zs) zero y x h = refl
set_here (z ∷ zs) (suc n) y x h = set_here zs n y x h

set_elsewhere : {A : Type 0} (xs : List A) (n m : ℕ) (y : A) → (m ≡ n → ⊥) → slice_get (slice_set xs n y) m ≡ slice_get xs m
set_elsewhere [] n m y other = refl
set_elsewhere (z ∷ zs) zero zero y other = absurd (other refl)
set_elsewhere (z ∷ zs) zero (suc m) y other = refl
set_elsewhere (z ∷ zs) (suc n) zero y other = refl
set_elsewhere (z ∷ zs) (suc n) (suc m) y other = set_elsewhere zs n m y (λ e. other (ap suc e))

same_or : (m n : ℕ) → (m ≡ n) ⊎ (m ≡ n → ⊥)
same_or m n = by (cases_lt m n) (cases_lt n m)
  where
    by : (m < n) ⊎ (n ≤ m) → (n < m) ⊎ (m ≤ n) → (m ≡ n) ⊎ (m ≡ n → ⊥)
    by (inl h) k = inr (λ e. omega (arith, h, e))
    by (inr h) (inl k) = inr (λ e. omega (arith, k, e))
    by (inr h) (inr k) = inl (omega (arith, h, k))

-- ---- a key stands once among those of a program

number_itself : (a : ℕ) → nat_lt a a ≡ true → ⊥
number_itself a h = grind arith

pair_itself : (a b : ℕ) → is_pair_before a b a b ≡ true → ⊥
pair_itself a b h = grind arith

before_itself : (k : Key) → is_before k k ≡ true → ⊥
before_itself (key.Object i) h = number_itself i h
before_itself (key.Local f r) h = pair_itself f r h
before_itself (key.Member s m) h = pair_itself s m h

once : (p : Program) (k : Key) (m n : ℕ) → slice_get (keys_of p) m ≡ Some k → slice_get (keys_of p) n ≡ Some k → m ≡ n
once p k m n h l = by (cases_lt m n) (cases_lt n m)
  where
    apart : (i j : ℕ) → slice_get (keys_of p) i ≡ Some k → slice_get (keys_of p) j ≡ Some k → i < j → ⊥
    apart i j a b less =
        before_itself k (subst (λ (z : Key). is_before z k ≡ true) (get_or_from_slice_get (keys_of p) i k k a)
        (subst (λ (z : Key). is_before (get_or (keys_of p) i k) z ≡ true) (get_or_from_slice_get (keys_of p) j k k b) (keys_ascend p i j k less (slice_get_within (keys_of p) j k b))))

    by : (m < n) ⊎ (n ≤ m) → (n < m) ⊎ (m ≤ n) → m ≡ n
    by (inl a) b = absurd (apart m n h l a)
    by (inr a) (inl b) = absurd (apart n m l h b)
    by (inr a) (inr b) = omega (arith, a, b)

-- ---- empty sets

module _ {I : Type 0} (below : I → I → Type 0) (kinds : List (Abs I)) where
  no_set : (m : ℕ) (kind x : Abs I) → slice_get kinds m ≡ Some kind → slice_get [] m ≡ Some x → IsNoneOf below kind x
  no_set m kind x at there = absurd (none-some x there)

  pub no_sets : (sets : List (Abs I)) → sets ≡ [] → AreNoneOf below kinds 0 sets
  no_sets sets e = record { so_many = ap length e; each = λ m kind x at there. no_set m kind x at (subst (λ (xs : List (Abs I)). slice_get xs m ≡ Some x) e there) }

  pub none_behind : (count : ℕ) (own y : Abs I) (sets new : List (Abs I)) → AreNoneOf below kinds count sets → slice_get kinds count ≡ Some own → IsNoneOf below own y → new ≡ sets ++ y ∷ [] → AreNoneOf below kinds (count + 1) new
  none_behind count own y sets new are here is e = record {
    so_many = (let l = ap length e ∙ longer sets y in let c = are.so_many in omega (arith, l, c));
    each = λ m kind x at there. by m kind x at (pushed sets y m x (subst (λ (xs : List (Abs I)). slice_get xs m ≡ Some x) e there));
  }
    where
      by : (m : ℕ) (kind x : Abs I) → slice_get kinds m ≡ Some kind → (slice_get sets m ≡ Some x) ⊎ ((m ≡ length sets) × (y ≡ x)) → IsNoneOf below kind x
      by m kind x at (inl there) = are.each m kind x at there
      by m kind x at (inr (last, same)) =
          let kind_is : own ≡ kind = same_Some own kind (sym here ∙ (ap (slice_get kinds) (sym (last ∙ are.so_many)) ∙ at)) in
          subst (λ (z : Abs I). IsNoneOf below kind z) same (subst (λ (z : Abs I). IsNoneOf below z y) kind_is is)

-- ---- sets that get values

module _ {I : Type 0} (has : I → ℤ → Type 0) (below : I → I → Type 0) where
  pub is_put : (sets new : List (Abs I)) (number : ℕ) (set both : Abs I) (v : Value) → slice_get sets number ≡ Some set → IsWith has below set (λ w. w ≡ v) both → new ≡ slice_set sets number both → IsPutAt has below number v sets new
  is_put sets new number set both v there with_it e = record { set = set; there = there; both = both; with_it = with_it; is = e }

module _ {I : Type 0} (all : List Key) (has : I → ℤ → Type 0) (below : I → I → Type 0) where
  pub none_put : ((x : I) → below x x) → (sets : List (Abs I)) (image : Key → Value → Type 0) → ((m : ℕ) (k : Key) (v : Value) → slice_get all m ≡ Some k → image k v → ⊥) → AreWith all has below image sets sets
  none_put itself sets image none = record {
    count = refl;
    each = λ m k x y at there to. subst (λ (z : Abs I). IsWith has below x (image k) z) (same_Some x y (sym there ∙ to)) (none_more has below itself x (image k) (λ v. none m k v at));
  }

  -- a key that the program lacks
  pub not_own : (p : Program) → all ≡ keys_of p → (own : Key) → key_number p own ≡ None → (its : Option Value) (m : ℕ) (k : Key) (v : Value) → slice_get all m ≡ Some k → IsOwn own its k v → ⊥
  not_own p keys own absent its m k v at h =
      let (n, is) = key_numbered p k (m, subst (λ (ks : List Key). slice_get ks m ≡ Some k) keys at) in
      none-some n (sym absent ∙ (ap (key_number p) h.0 ∙ is))

  pub same_put : (old new : List (Abs I)) (A C : Key → Value → Type 0) → ((k : Key) (v : Value) → C k v → A k v) → ((k : Key) (v : Value) → A k v → C k v) → AreWith all has below A old new → AreWith all has below C old new
  same_put old new A C from into h = record { count = h.count; each = λ m k x y at there to. same_more has below x y (A k) (C k) (from k) (into k) (h.each m k x y at there to) }

  -- what may still be put
  pub may_get : (image A : Key → Value → Type 0) (old new : List (Abs I)) → MayGetAll all image old → AreWith all has below A old new → MayGetAll all image new
  may_get image A old new may h m k y v at there i =
      let (x, before) = some_within old m (let l = slice_get_within new m y there in let c = h.count in omega (arith, l, c)) in
      let fits = may m k x v at before i in
      (fits.0, kind_kept has below x y v (h.each m k x y at before there).alike fits.1)

  pub less_gets : (A C : Key → Value → Type 0) (sets : List (Abs I)) → ((k : Key) (v : Value) → C k v → A k v) → MayGetAll all A sets → MayGetAll all C sets
  less_gets A C sets into may m k x v at there c = may m k x v at there (into k v c)

  -- by the number of a key
  pub put_own : ((x : I) → below x x) → (p : Program) → all ≡ keys_of p → (own : Key) (number : ℕ) → key_number p own ≡ Some number → (v : Value) (old new : List (Abs I)) → IsPutAt has below number v old new → AreWith all has below (IsOwn own (Some v)) old new
  put_own itself p keys own number is v old new put = record { count = ap length put.is ∙ length-set old number put.both; each = λ m k x y at there to. by m k x y at there to (same_or m number) }
    where
      place : slice_get all number ≡ Some own
      place = ap (λ (ks : List Key). slice_get ks number) keys ∙ key_at p own number is

      only : (m : ℕ) (k : Key) → slice_get all m ≡ Some k → own ≡ k → m ≡ number
      only m k at e = once p k m number (subst (λ (ks : List Key). slice_get ks m ≡ Some k) keys at) (subst (λ (ks : List Key). slice_get ks number ≡ Some k) keys (place ∙ ap Some e))

      by : (m : ℕ) (k : Key) (x y : Abs I) → slice_get all m ≡ Some k → slice_get old m ≡ Some x → slice_get new m ≡ Some y → (m ≡ number) ⊎ (m ≡ number → ⊥) → IsWith has below x (IsOwn own (Some v) k) y
      by m k x y at there to (inl same) =
          let set : put.set ≡ x = same_Some put.set x (sym put.there ∙ (ap (slice_get old) (sym same) ∙ there)) in
          let here : slice_get new number ≡ Some put.both = ap (λ (zs : List (Abs I)). slice_get zs number) put.is ∙ set_here old number put.both put.set put.there in
          let both : put.both ≡ y = same_Some put.both y (sym here ∙ (ap (slice_get new) (sym same) ∙ to)) in
          let its_key : own ≡ k = same_Some own k (sym place ∙ (ap (slice_get all) (sym same) ∙ at)) in
          same_more has below x y (λ w. w ≡ v) (IsOwn own (Some v) k) (λ w h. sym (same_Some v w h.1)) (λ w h. (its_key, ap Some (sym h)))
          (subst (λ (z : Abs I). IsWith has below x (λ w. w ≡ v) z) both (subst (λ (z : Abs I). IsWith has below z (λ w. w ≡ v) put.both) set put.with_it))
      by m k x y at there to (inr other) =
          let kept : slice_get new m ≡ slice_get old m = ap (λ (zs : List (Abs I)). slice_get zs m) put.is ∙ set_elsewhere old number m put.both other in
          subst (λ (z : Abs I). IsWith has below x (IsOwn own (Some v) k) z) (same_Some x y (sym there ∙ (sym kept ∙ to))) (none_more has below itself x (IsOwn own (Some v) k) (λ w h. other (only m k at h.0)))

  -- from empty ones on
  pub least_sets : (kinds none sets : List (Abs I)) (image : Key → Value → Type 0) → AreNoneOf below kinds (length kinds) none → AreWith all has below image none sets → AreLeastOf all has below kinds image sets
  least_sets kinds none sets image are h = record {
    count = h.count ∙ are.so_many;
    each = λ m k kind y at there to.
        (let (x, empty) = some_within none m (let l = slice_get_within sets m y to in let c = h.count in omega (arith, l, c)) in
        least_of has below kind x y (image k) (are.each m kind x there empty) (h.each m k x y at empty to));
  }

  -- what may stand in sets may stand in empty ones of their kinds
  pub none_may_get : (kinds none : List (Abs I)) (image : Key → Value → Type 0) → AreNoneOf below kinds (length kinds) none → MayGetAll all image kinds → MayGetAll all image none
  none_may_get kinds none image are may m k x v at there i =
      let (kind, own) = some_within kinds m (let l = slice_get_within none m x there in let c = are.so_many in omega (arith, l, c)) in
      let fits = may m k kind v at own i in
      (fits.0, kind_kept has below kind x v (are.each m kind x own there).alike fits.1)

  module _ (below_has : (x y : I) → below x y → (n : ℤ) → has x n → has y n) (through : (x y z : I) → below x y → below y z → below x z) where
    pub then_put : (old mid new : List (Abs I)) (A B C : Key → Value → Type 0) → ((k : Key) (v : Value) → C k v → A k v ⊎ B k v) → ((k : Key) (v : Value) → A k v → C k v) → ((k : Key) (v : Value) → B k v → C k v) →
        AreWith all has below A old mid → AreWith all has below B mid new → AreWith all has below C old new
    then_put old mid new A B C split first second h k = record {
      count = k.count ∙ h.count;
      each = λ m q x z at there to.
          (let (y, between) = some_within mid m (let l = slice_get_within old m x there in let c = h.count in omega (arith, l, c)) in
          then_more has below below_has through x y z (A q) (B q) (C q) (split q) (first q) (second q) (h.each m q x y at there between) (k.each m q y z at between to));
    }
