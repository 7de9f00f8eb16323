-- Lists as far as a loop over others has come.
use Rattle.std.proofs.Common.{arith, ◌≡◌, ◌<◌, ◌≤◌, ◌+◌, ℕ, zero, suc, add-one, zero-add, Bool, true, false, ◌&&◌, nat_lt, List, [], ◌∷◌, ◌++◌, length, length-append, take, take_all, get_or, map, append_assoc, refl, ap, sym, ◌∙◌}
use Rattle.std.proofs.lemmas.List.{append-nil, length-take, take-append-le}
use Rattle.std.specs.List.{flat_map}
use Rattle.cc_state_keys.specs.Lists.{only_if, made_from, all_from}

-- two lists that were put behind others, one after the other
pub grown : {B : Type 0} (old first now second new both : List B) → now ≡ old ++ first → new ≡ now ++ second → both ≡ first ++ second → new ≡ old ++ both
grown old first now second new both h k e = k ∙ ap (λ l. l ++ second) h ∙ append_assoc old first second ∙ ap (λ l. old ++ l) (sym e)

-- and three
pub grown_thrice : {B : Type 0} (old first now second then third new all : List B) → now ≡ old ++ first → then ≡ now ++ second → new ≡ then ++ third → all ≡ first ++ (second ++ third) → new ≡ old ++ all
grown_thrice old first now second then third new all h k m e =
    grown old first now (second ++ third) new all h (m ∙ ap (λ l. l ++ third) k ∙ append_assoc now second third) e

-- what was put behind others for the things of a list, where a loop has come to their end
pub whole : {A B : Type 0} (f : List A → List B) (old now : List B) (xs ys : List A) (i : ℕ) → now ≡ old ++ f (take i xs) → length xs ≤ i → xs ≡ ys → now ≡ old ++ f ys
whole f old now xs ys i h past e = h ∙ ap (λ zs. old ++ f zs) (take_all i xs past ∙ e)

-- one more behind the first n of some
more_of : {B : Type 0} (n : ℕ) (xs : List B) (x : B) → length (take n xs) < n → take n (xs ++ x ∷ []) ≡ take n xs ++ x ∷ []
more_of n xs x h =
    let short : length xs < n = omega (arith, h, length-take n xs) in
    let all : length (xs ++ x ∷ []) ≤ n = omega (arith, length-append xs (x ∷ [])) in
    take_all n (xs ++ x ∷ []) all ∙ ap (λ l. l ++ x ∷ []) (sym (take_all n xs (omega arith)))

no_more_of : {B : Type 0} (n : ℕ) (xs ys : List B) → n ≤ length (take n xs) → take n (xs ++ ys) ≡ take n xs
no_more_of n xs ys h = let long : n ≤ length xs = omega (arith, h, length-take n xs) in take-append-le n xs ys long

below : (m n : ℕ) → nat_lt m n ≡ true → m < n
below m n h = grind arith

not-below : (m n : ℕ) → nat_lt m n ≡ false → n ≤ m
not-below m n h = grind arith

capped-by : {B : Type 0} (n : ℕ) (xs : List B) (b c : Bool) (x : B) → nat_lt (length (take n xs)) n ≡ c → take n xs ++ only_if (c && b) x ≡ take n (xs ++ only_if b x)
capped-by n xs true true x h = sym (more_of n xs x (below (length (take n xs)) n h))
capped-by n xs true false x h = append-nil (take n xs) ∙ sym (no_more_of n xs (x ∷ []) (not-below (length (take n xs)) n h))
capped-by n xs false true x h = append-nil (take n xs) ∙ ap (take n) (sym (append-nil xs))
capped-by n xs false false x h = append-nil (take n xs) ∙ ap (take n) (sym (append-nil xs))

capped : {B : Type 0} (n : ℕ) (xs now new : List B) (b : Bool) (x : B) → now ≡ take n xs → new ≡ now ++ only_if (nat_lt (length now) n && b) x → new ≡ take n (xs ++ only_if b x)
capped n xs now new b x h k =
    k ∙ ap (λ l. l ++ only_if (nat_lt (length l) n && b) x) h ∙ capped-by n xs b (nat_lt (length (take n xs)) n) x refl

module _ {A B : Type 0} (passes : ℕ → A → Bool) (make : ℕ → B) where
  made-from : (n : ℕ) (xs : List A) (i : ℕ) (d : A) → i < length xs → made_from passes make n (take (suc i) xs) ≡ made_from passes make n (take i xs) ++ only_if (passes (n + i) (get_or xs i d)) (make (n + i))
  made-from n [] i d h = absurd (omega (arith, h))
  made-from n (x ∷ xs) zero d h = append-nil (only_if (passes n x) (make n)) ∙ ap (λ m. only_if (passes m x) (make m)) (let e : n ≡ n + 0 = omega arith in e)
  made-from n (x ∷ xs) (suc i) d h =
      let own = only_if (passes n x) (make n) in
      ap (λ l. own ++ l) (made-from (n + 1) xs i d (omega (arith, h)) ∙ ap (λ m. made_from passes make (n + 1) (take i xs) ++ only_if (passes m (get_or xs i d)) (make m)) (let e : n + 1 + i ≡ n + suc i = omega arith in e))
      ∙ sym (append_assoc own (made_from passes make (n + 1) (take i xs)) (only_if (passes (n + suc i) (get_or xs i d)) (make (n + suc i))))

  made-on : (xs : List A) (i : ℕ) (d : A) → i < length xs → made_from passes make 0 (take (i + 1) xs) ≡ made_from passes make 0 (take i xs) ++ only_if (passes i (get_or xs i d)) (make i)
  made-on xs i d h = rw add-one (made-from 0 xs i d h ∙ ap (λ m. made_from passes make 0 (take i xs) ++ only_if (passes m (get_or xs i d)) (make m)) (zero-add i))

  pub made-next : (xs : List A) (i : ℕ) (x : A) → i < length xs → x ≡ get_or xs i x → made_from passes make 0 (take (i + 1) xs) ≡ made_from passes make 0 (take i xs) ++ only_if (passes i x) (make i)
  made-next xs i x h e = made-on xs i x h ∙ ap (λ y. made_from passes make 0 (take i xs) ++ only_if (passes i y) (make i)) (sym e)

  -- one more is put behind those that are made of the first things
  pub made_grown : (old now new : List B) (xs : List A) (i : ℕ) (x : A) (b : Bool) → now ≡ old ++ made_from passes make 0 (take i xs) → new ≡ now ++ only_if b (make i) → b ≡ passes i x → i < length xs → x ≡ get_or xs i x →
      new ≡ old ++ made_from passes make 0 (take (i + 1) xs)
  made_grown old now new xs i x b h k e lt is =
      grown old (made_from passes make 0 (take i xs)) now (only_if (passes i x) (make i)) new (made_from passes make 0 (take (i + 1) xs)) h (k ∙ ap (λ c. now ++ only_if c (make i)) e) (made-next xs i x lt is)

  -- and the same of the first n of those
  pub made_capped : (n : ℕ) (now new : List B) (xs : List A) (i : ℕ) (x : A) (b : Bool) → now ≡ take n (made_from passes make 0 (take i xs)) → new ≡ now ++ only_if b (make i) → b ≡ (nat_lt (length now) n && passes i x) →
      i < length xs → x ≡ get_or xs i x → new ≡ take n (made_from passes make 0 (take (i + 1) xs))
  made_capped n now new xs i x b h k e lt is =
      capped n (made_from passes make 0 (take i xs)) now new (passes i x) (make i) h (k ∙ ap (λ c. now ++ only_if c (make i)) e) ∙ ap (take n) (sym (made-next xs i x lt is))

module _ {A B : Type 0} (lists : ℕ → A → List B) where
  listed-from : (n : ℕ) (xs : List A) (i : ℕ) (d : A) → i < length xs → all_from lists n (take (suc i) xs) ≡ all_from lists n (take i xs) ++ lists (n + i) (get_or xs i d)
  listed-from n [] i d h = absurd (omega (arith, h))
  listed-from n (x ∷ xs) zero d h = append-nil (lists n x) ∙ ap (λ m. lists m x) (let e : n ≡ n + 0 = omega arith in e)
  listed-from n (x ∷ xs) (suc i) d h =
      ap (λ l. lists n x ++ l) (listed-from (n + 1) xs i d (omega (arith, h)) ∙ ap (λ m. all_from lists (n + 1) (take i xs) ++ lists m (get_or xs i d)) (let e : n + 1 + i ≡ n + suc i = omega arith in e))
      ∙ sym (append_assoc (lists n x) (all_from lists (n + 1) (take i xs)) (lists (n + suc i) (get_or xs i d)))

  pub all-next : (xs : List A) (i : ℕ) (x : A) → i < length xs → x ≡ get_or xs i x → all_from lists 0 (take (i + 1) xs) ≡ all_from lists 0 (take i xs) ++ lists i x
  all-next xs i x h e =
      rw add-one (listed-from 0 xs i x h
      ∙ ap (λ m. all_from lists 0 (take i xs) ++ lists m (get_or xs i x)) (zero-add i)
      ∙ ap (λ y. all_from lists 0 (take i xs) ++ lists i y) (sym e))

  pub all_grown : (old now new : List B) (xs : List A) (i : ℕ) (x : A) → now ≡ old ++ all_from lists 0 (take i xs) → new ≡ now ++ lists i x → i < length xs → x ≡ get_or xs i x → new ≡ old ++ all_from lists 0 (take (i + 1) xs)
  all_grown old now new xs i x h k lt is =
      grown old (all_from lists 0 (take i xs)) now (lists i x) new (all_from lists 0 (take (i + 1) xs)) h k (all-next xs i x lt is)

module _ {A B : Type 0} (list : A → List B) where
  flat-from : (xs : List A) (i : ℕ) (d : A) → i < length xs → flat_map list (take (suc i) xs) ≡ flat_map list (take i xs) ++ list (get_or xs i d)
  flat-from [] i d h = absurd (omega (arith, h))
  flat-from (x ∷ xs) zero d h = append-nil (list x)
  flat-from (x ∷ xs) (suc i) d h =
      ap (λ l. list x ++ l) (flat-from xs i d (omega (arith, h))) ∙ sym (append_assoc (list x) (flat_map list (take i xs)) (list (get_or xs i d)))

  pub flat-next : (xs : List A) (i : ℕ) (x : A) → i < length xs → x ≡ get_or xs i x → flat_map list (take (i + 1) xs) ≡ flat_map list (take i xs) ++ list x
  flat-next xs i x h e = rw add-one (flat-from xs i x h ∙ ap (λ y. flat_map list (take i xs) ++ list y) (sym e))

  -- of lists that are there
  pub flat-mapped : (xs : List A) → flat_map (λ (l : List B). l) (map list xs) ≡ flat_map list xs
  flat-mapped [] = refl
  flat-mapped (x ∷ xs) = ap (λ l. list x ++ l) (flat-mapped xs)

  pub mapped-next : (xs : List A) (i : ℕ) (x : A) → i < length xs → x ≡ get_or xs i x →
      flat_map (λ (l : List B). l) (map list (take (i + 1) xs)) ≡ flat_map (λ (l : List B). l) (map list (take i xs)) ++ list x
  mapped-next xs i x h e = flat-mapped (take (i + 1) xs) ∙ flat-next xs i x h e ∙ ap (λ l. l ++ list x) (sym (flat-mapped (take i xs)))

  pub flat_grown : (old now new : List B) (xs : List A) (i : ℕ) (x : A) → now ≡ old ++ flat_map list (take i xs) → new ≡ now ++ list x → i < length xs → x ≡ get_or xs i x → new ≡ old ++ flat_map list (take (i + 1) xs)
  flat_grown old now new xs i x h k lt is =
      grown old (flat_map list (take i xs)) now (list x) new (flat_map list (take (i + 1) xs)) h k (flat-next xs i x lt is)

  pub mapped_grown : (old now new : List B) (xs : List A) (i : ℕ) (x : A) → now ≡ old ++ flat_map (λ (l : List B). l) (map list (take i xs)) → new ≡ now ++ list x → i < length xs → x ≡ get_or xs i x →
      new ≡ old ++ flat_map (λ (l : List B). l) (map list (take (i + 1) xs))
  mapped_grown old now new xs i x h k lt is =
      grown old (flat_map (λ (l : List B). l) (map list (take i xs))) now (list x) new (flat_map (λ (l : List B). l) (map list (take (i + 1) xs))) h k (mapped-next xs i x lt is)

-- a thing at a place in a list
thing_at : {A : Type 0} (xs : List A) (i : ℕ) → i < length xs → A
thing_at [] i h = absurd (omega (arith, h))
thing_at (x ∷ xs) zero h = x
thing_at (x ∷ xs) (suc i) h = thing_at xs i (omega (arith, h))

-- of things that pass by their numbers alone
pub numbers_put : {A B : Type 0} (passes : ℕ → Bool) (make : ℕ → B) (now new : List B) (xs : List A) (i : ℕ) (b : Bool) → now ≡ made_from (λ n (x : A). passes n) make 0 (take i xs) → new ≡ now ++ only_if b (make i) → b ≡ passes i →
    i < length xs → new ≡ made_from (λ n (x : A). passes n) make 0 (take (i + 1) xs)
numbers_put {A = A} passes make now new xs i b h k e lt =
    k ∙ ap (λ c. now ++ only_if c (make i)) e ∙ ap (λ l. l ++ only_if (passes i) (make i)) h ∙ sym (made-on (λ n (x : A). passes n) make xs i (thing_at xs i lt) lt)

-- what stands at a place in a list stands there in an equal one
pub get_same : {A : Type 0} (xs ys : List A) (i : ℕ) (x : A) → xs ≡ ys → x ≡ get_or xs i x → x ≡ get_or ys i x
get_same xs ys i x e h = h ∙ ap (λ zs. get_or zs i x) e
