-- The keys of a program ascend, and where a key stands in ascending ones.
use Rattle.std.proofs.Common.{arith, ◌≡◌, ◌<◌, ◌≤◌, ◌+◌, ℕ, ◌==◌, Bool, true, false, ◌&&◌, nat_lt, List, [], ◌∷◌, ◌++◌, length, get_or, Some, None, refl, ap, sym, ◌∙◌, subst}
use Rattle.std.specs.Prelude.{cond, position, slice_get}
use Rattle.std.specs.List.{All, position_or_len}
use Rattle.std.specs.List.Sorted.{IsPartitionPoint, IsPartitionedBy}
use Rattle.std.proofs.lemmas.List.Elements.{All-append, All-cons, All-head, All-tail}
use Rattle.std.proofs.lemmas.List.Kept.{AllPairs-cons}
use Rattle.std.proofs.lemmas.List.Sums.{position_or_len_is}
use Rattle.std.proofs.lemmas.Option.{get_or_from_slice_get, slice_get-get_or, slice_get_within}
use Rattle.cc_program.specs.declared.program.Program.{Program}
use Rattle.cc_state_facts.specs.declared.facts.Key.{Key}
use Rattle.cc_state_facts.specs.declared.facts.Key.TheVariants as key
use Rattle.cc_state_keys.specs.Keys.{is_key, keys_of, has_object_key, has_local_key, has_member_key, local_keys, member_keys}
use Rattle.cc_state_keys.specs.Lists.{only_if, made_from, all_from}
use Rattle.cc_state_keys.specs.Order.{is_pair_before, is_before, Ascend}

-- ---- tests

pairs_through : (a b c d e f : ℕ) → is_pair_before a b c d ≡ true → is_pair_before c d e f ≡ true → is_pair_before a b e f ≡ true
pairs_through a b c d e f h k = grind arith

pair_itself : (a b : ℕ) → is_pair_before a b a b ≡ true → ⊥
pair_itself a b h = grind arith

number_itself : (a : ℕ) → nat_lt a a ≡ true → ⊥
number_itself a h = grind arith

numbers_through : (a b c : ℕ) → nat_lt a b ≡ true → nat_lt b c ≡ true → nat_lt a c ≡ true
numbers_through a b c h k = grind arith

same_number : (a b : ℕ) → (a == b) ≡ true → a ≡ b
same_number a b h = grind arith

same_pair : (a b c d : ℕ) → (a == c) && (b == d) ≡ true → (a ≡ c) × (b ≡ d)
same_pair a b c d h = (grind arith, grind arith)

pub same_key : (k l : Key) → is_key k l ≡ true → k ≡ l
same_key (key.Object i) (key.Object j) h = ap (λ n. key.Object n) (same_number i j h)
same_key (key.Object i) (key.Local g q) h = absurd (cc)
same_key (key.Object i) (key.Member t n) h = absurd (cc)
same_key (key.Local f r) (key.Object j) h = absurd (cc)
same_key (key.Local f r) (key.Local g q) h = let e = same_pair f r g q h in ap (λ n. key.Local n r) e.0 ∙ ap (λ n. key.Local g n) e.1
same_key (key.Local f r) (key.Member t n) h = absurd (cc)
same_key (key.Member s m) (key.Object j) h = absurd (cc)
same_key (key.Member s m) (key.Local g q) h = absurd (cc)
same_key (key.Member s m) (key.Member t n) h = let e = same_pair s m t n h in ap (λ a. key.Member a m) e.0 ∙ ap (λ a. key.Member t a) e.1

before_itself : (k : Key) → is_before k k ≡ true → ⊥
before_itself (key.Object i) h = number_itself i h
before_itself (key.Local f r) h = pair_itself f r h
before_itself (key.Member s m) h = pair_itself s m h

before_through : (k l m : Key) → is_before k l ≡ true → is_before l m ≡ true → is_before k m ≡ true
before_through (key.Object i) (key.Object j) (key.Object n) h k = numbers_through i j n h k
before_through (key.Object i) l (key.Local g q) h k = refl
before_through (key.Object i) l (key.Member t n) h k = refl
before_through (key.Object i) (key.Local g q) (key.Object n) h k = absurd (cc)
before_through (key.Object i) (key.Member t m) (key.Object n) h k = absurd (cc)
before_through (key.Local f r) (key.Object j) m h k = absurd (cc)
before_through (key.Local f r) (key.Local g q) (key.Object n) h k = absurd (cc)
before_through (key.Local f r) (key.Local g q) (key.Local a b) h k = pairs_through f r g q a b h k
before_through (key.Local f r) (key.Local g q) (key.Member t n) h k = refl
before_through (key.Local f r) (key.Member t n) (key.Object j) h k = absurd (cc)
before_through (key.Local f r) (key.Member t n) (key.Local a b) h k = absurd (cc)
before_through (key.Local f r) (key.Member t n) (key.Member u v) h k = refl
before_through (key.Member s m) (key.Object j) l h k = absurd (cc)
before_through (key.Member s m) (key.Local g q) l h k = absurd (cc)
before_through (key.Member s m) (key.Member t n) (key.Object j) h k = absurd (cc)
before_through (key.Member s m) (key.Member t n) (key.Local a b) h k = absurd (cc)
before_through (key.Member s m) (key.Member t n) (key.Member u v) h k = pairs_through s m t n u v h k

-- what stands before a key is another one
other_before : (k l : Key) → is_before l k ≡ true → is_key k l ≡ false
other_before k l h = by (is_key k l) refl
  where
    by : (b : Bool) → is_key k l ≡ b → is_key k l ≡ false
    by true e = absurd (before_itself k (subst (λ z. is_before z k ≡ true) (sym (same_key k l e)) h))
    by false e = e

-- ---- the keys of a program ascend

abbrev Rise : List Key → Type 0
Rise [] = Unit {0}
Rise (k ∷ keys) = All (λ l. is_before k l ≡ true) keys × Rise keys

abbrev StandBefore : List Key → List Key → Type 0
StandBefore xs ys = All (λ k. All (λ l. is_before k l ≡ true) ys) xs

none_all : {X : Type 0} (P : X → Type 0) → All P []
none_all P j d l = absurd (omega (arith, l))

rise_append : (xs ys : List Key) → Rise xs → Rise ys → StandBefore xs ys → Rise (xs ++ ys)
rise_append [] ys h k b = k
rise_append (x ∷ xs) ys h k b =
    (All-append (λ l. is_before x l ≡ true) xs ys h.0 (All-head (λ z. All (λ l. is_before z l ≡ true) ys) x xs b), rise_append xs ys h.1 k (All-tail (λ z. All (λ l. is_before z l ≡ true) ys) x xs b))

ascend_from : (keys : List Key) → Rise keys → Ascend keys
ascend_from [] h = λ i j d l m. absurd (omega (arith, m))
ascend_from (k ∷ keys) h = AllPairs-cons (λ a b. is_before a b ≡ true) k keys h.0 (ascend_from keys h.1)

only_all : {X : Type 0} (P : X → Type 0) (b : Bool) (y : X) → P y → All P (only_if b y)
only_all P true y h = All-cons P y [] h (none_all P)
only_all P false y h = none_all P

only_rise : (b : Bool) (y : Key) → Rise (only_if b y)
only_rise true y = (none_all (λ l. is_before y l ≡ true), tt)
only_rise false y = tt

module _ {A : Type 0} (passes : ℕ → A → Bool) (make : ℕ → Key) where
  made_after : (P : Key → Type 0) (n : ℕ) (xs : List A) → ((j : ℕ) → n ≤ j → P (make j)) → All P (made_from passes make n xs)
  made_after P n [] h = none_all P
  made_after P n (x ∷ xs) h =
      All-append P (only_if (passes n x) (make n)) (made_from passes make (n + 1) xs) (only_all P (passes n x) (make n) (h n (omega arith))) (made_after P (n + 1) xs (λ j l. h j (omega (arith, l))))

  made_rise : ((i j : ℕ) → i < j → is_before (make i) (make j) ≡ true) → (n : ℕ) (xs : List A) → Rise (made_from passes make n xs)
  made_rise each n [] = tt
  made_rise each n (x ∷ xs) =
      let rest = made_from passes make (n + 1) xs in
      rise_append (only_if (passes n x) (make n)) rest (only_rise (passes n x) (make n)) (made_rise each (n + 1) xs)
      (only_all (λ k. All (λ l. is_before k l ≡ true) rest) (passes n x) (make n) (made_after (λ l. is_before (make n) l ≡ true) (n + 1) xs (λ j l. each n j (omega (arith, l)))))

module _ {A : Type 0} (lists : ℕ → A → List Key) where
  all_after : (P : Key → Type 0) (n : ℕ) (xs : List A) → ((j : ℕ) (x : A) → n ≤ j → All P (lists j x)) → All P (all_from lists n xs)
  all_after P n [] h = none_all P
  all_after P n (x ∷ xs) h = All-append P (lists n x) (all_from lists (n + 1) xs) (h n x (omega arith)) (all_after P (n + 1) xs (λ j y l. h j y (omega (arith, l))))

  all_rise : ((j : ℕ) (x : A) → Rise (lists j x)) → ((i j : ℕ) (x y : A) → i < j → StandBefore (lists i x) (lists j y)) → (n : ℕ) (xs : List A) → Rise (all_from lists n xs)
  all_rise each cross n [] = tt
  all_rise each cross n (x ∷ xs) =
      rise_append (lists n x) (all_from lists (n + 1) xs) (each n x) (all_rise each cross (n + 1) xs)
      (λ i d l. all_after (λ k. is_before (get_or (lists n x) i d) k ≡ true) (n + 1) xs (λ j y h. cross n j x y (omega (arith, h)) i d l))

less : (i j : ℕ) → i < j → nat_lt i j ≡ true
less i j h = grind arith

second_less : (a i j : ℕ) → i < j → is_pair_before a i a j ≡ true
second_less a i j h = grind arith

first_less : (a b i j : ℕ) → a < b → is_pair_before a i b j ≡ true
first_less a b i j h = grind arith

module _ (p : Program) where
  abbrev objects : List Key
  objects = made_from has_object_key key.Object 0 p.objects

  abbrev locals : List Key
  locals = all_from local_keys 0 p.funcs

  abbrev members : List Key
  members = all_from member_keys 0 p.structures

  locals_rise : Rise locals
  locals_rise =
      all_rise local_keys (λ id f. made_rise (has_local_key f) (key.Local id) (λ i j l. second_less id i j l) 0 f.locals)
      (λ a b f g l. made_after (has_local_key f) (key.Local a) (λ k. All (λ m. is_before k m ≡ true) (local_keys b g)) 0 f.locals
      (λ r h. made_after (has_local_key g) (key.Local b) (λ m. is_before (key.Local a r) m ≡ true) 0 g.locals (λ q k. first_less a b r q l)))
      0 p.funcs

  members_rise : Rise members
  members_rise =
      all_rise member_keys (λ id s. made_rise has_member_key (key.Member id) (λ i j l. second_less id i j l) 0 s.members)
      (λ a b s t l. made_after has_member_key (key.Member a) (λ k. All (λ m. is_before k m ≡ true) (member_keys b t)) 0 s.members
      (λ r h. made_after has_member_key (key.Member b) (λ m. is_before (key.Member a r) m ≡ true) 0 t.members (λ q k. first_less a b r q l)))
      0 p.structures

  before_members : (k : Key) → ((s m : ℕ) → is_before k (key.Member s m) ≡ true) → All (λ l. is_before k l ≡ true) members
  before_members k h = all_after member_keys (λ l. is_before k l ≡ true) 0 p.structures (λ s t l. made_after has_member_key (key.Member s) (λ m. is_before k m ≡ true) 0 t.members (λ m e. h s m))

  before_locals : (k : Key) → ((g q : ℕ) → is_before k (key.Local g q) ≡ true) → All (λ l. is_before k l ≡ true) locals
  before_locals k h = all_after local_keys (λ l. is_before k l ≡ true) 0 p.funcs (λ g f l. made_after (has_local_key f) (key.Local g) (λ m. is_before k m ≡ true) 0 f.locals (λ q e. h g q))

  pub keys_ascend : Ascend (keys_of p)
  keys_ascend =
      ascend_from (keys_of p)
      (rise_append objects (locals ++ members) (made_rise has_object_key key.Object less 0 p.objects)
      (rise_append locals members locals_rise members_rise
      (all_after local_keys (λ k. All (λ l. is_before k l ≡ true) members) 0 p.funcs
      (λ g f l. made_after (has_local_key f) (key.Local g) (λ k. All (λ m. is_before k m ≡ true) members) 0 f.locals (λ q e. before_members (key.Local g q) (λ s m. refl)))))
      (made_after has_object_key key.Object (λ k. All (λ l. is_before k l ≡ true) (locals ++ members)) 0 p.objects
      (λ i e. All-append (λ l. is_before (key.Object i) l ≡ true) locals members (before_locals (key.Object i) (λ g q. refl)) (before_members (key.Object i) (λ s m. refl)))))

-- ---- where a key stands

pub parted : (keys : List Key) (k : Key) → Ascend keys → IsPartitionedBy (λ l. is_before l k) keys
parted keys k up i j d l m h = by (nat_lt i j) refl
  where
    by : (b : Bool) → nat_lt i j ≡ b → is_before (get_or keys i d) k ≡ true
    by true e = before_through (get_or keys i d) (get_or keys j d) k (up i j d (grind arith) m) h
    by false e = let same : i ≡ j = grind arith in subst (λ n. is_before (get_or keys n d) k ≡ true) (sym same) h

module _ {X : Type 0} (test : X → Bool) (xs : List X) where
  position_at : (i : ℕ) → position_or_len test xs ≡ i → i < length xs → position test xs ≡ Some i
  position_at i e l = subst (λ n. cond (nat_lt n (length xs)) (Some n) None ≡ Some i) (sym e) (subst (λ b. cond b (Some i) None ≡ Some i) (sym (less i (length xs) l)) refl)

  position_past : position_or_len test xs ≡ length xs → position test xs ≡ None
  position_past e = subst (λ n. cond (nat_lt n (length xs)) (Some n) None ≡ None) (sym e) (subst (λ b. cond b (Some (length xs)) None ≡ None) (sym (not_less (length xs))) refl)
    where
      not_less : (n : ℕ) → nat_lt n n ≡ false
      not_less n = grind arith

module _ (keys : List Key) (k : Key) (i : ℕ) (within : i ≤ length keys) (up : Ascend keys) (point : IsPartitionPoint (λ l. is_before l k ≡ true) (λ l. is_before l k ≡ false) keys i) where
  earlier : (j : ℕ) → j < i → is_key k (get_or keys j k) ≡ false
  earlier j l = other_before k (get_or keys j k) (point.0 j k (omega arith) l)

  pub stands_at : (x : Key) → slice_get keys i ≡ Some x → is_key k x ≡ true → position (is_key k) keys ≡ Some i
  stands_at x e h =
      let l = slice_get_within keys i x e in
      let at_i : is_key k (get_or keys i k) ≡ true = subst (λ z. is_key k z ≡ true) (sym (get_or_from_slice_get keys i x k e)) h in
      position_at (is_key k) keys i (position_or_len_is (is_key k) keys i k within earlier (λ m. at_i)) l

  later : (j : ℕ) → i < j → j < length keys → is_key k (get_or keys j k) ≡ false
  later j l m = by (is_key k (get_or keys j k)) refl
    where
      clash : {A : Type 0} (b : Bool) → b ≡ true → b ≡ false → A
      clash true h e = absurd (cc)
      clash false h e = absurd (cc)

      by : (b : Bool) → is_key k (get_or keys j k) ≡ b → is_key k (get_or keys j k) ≡ false
      by true e =
          clash (is_before (get_or keys i k) k) (subst (λ z. is_before (get_or keys i k) z ≡ true) (sym (same_key k (get_or keys j k) e)) (up i j k l m)) (point.1 i k (omega arith) (omega (arith, l, m)))
      by false e = e

  nowhere : (i < length keys → is_key k (get_or keys i k) ≡ false) → position (is_key k) keys ≡ None
  nowhere here = position_past (is_key k) keys (position_or_len_is (is_key k) keys (length keys) k (omega arith) each (λ l. absurd (omega (arith, l))))
    where
      each : (j : ℕ) → j < length keys → is_key k (get_or keys j k) ≡ false
      each j l = by (nat_lt j i) (nat_lt i j) refl refl
        where
          by : (a b : Bool) → nat_lt j i ≡ a → nat_lt i j ≡ b → is_key k (get_or keys j k) ≡ false
          by true b e f = earlier j (grind arith)
          by false true e f = later j (grind arith) l
          by false false e f =
              let same : i ≡ j = grind arith in
              subst (λ n. is_key k (get_or keys n k) ≡ false) same (here (omega (arith, l, same)))

  pub stands_nowhere : (x : Key) → slice_get keys i ≡ Some x → is_key k x ≡ false → position (is_key k) keys ≡ None
  stands_nowhere x e h = nowhere (λ l. subst (λ z. is_key k z ≡ false) (sym (get_or_from_slice_get keys i x k e)) h)

  pub stands_past : slice_get keys i ≡ None → position (is_key k) keys ≡ None
  stands_past e = nowhere (λ l. let z : Some (get_or keys i k) ≡ None = sym (slice_get-get_or keys i k l) ∙ e in absurd (cc))
