-- Where one of what has a place in memory of its own changes, and others come behind, what is found of it.
use Rattle.std.proofs.Common.{◌≡◌, ◌⊎◌, inl, inr, ℕ, zero, suc, ◌+◌, Bool, true, false, cond, not, ◌&&◌, List, [], ◌∷◌, ◌++◌, map, length, position, Option, Some, None, option_map, Err, refl, ap, sym, ◌∙◌, slice_get, nat_lt, nat_eq}
use Rattle.std.specs.Prelude.{if◌then◌else◌}
use Rattle.std.specs.List.{prefix_len}
use Rattle.cc_type.specs.CcDesignators.Designators.{TypedExpr}
use Rattle.cc_type.specs.CcOperands.Verdicts.{Judged}
use Rattle.cc_type.specs.CcOperands.declared.rule.Rule.TheVariants as rule
use Rattle.cc_type.specs.CcTypedTerms.Primary.{linked_by, linked}
use Rattle.cc_type.specs.CcScopes.Linked.{is_linked, has_name, linked_from}
use Rattle.cc_type.specs.CcScopes.State.{Name, change_at}
use Rattle.cc_type.specs.CcScopes.declared.unit.Declared.{Declared}
use Rattle.cc_type.specs.CcSyntax.Normal.{next_of}

-- ---- one of a list changes

module _ {A : Type 0} (change : A → A) where
  pub mapped-still : {B : Type 0} → (f : A → B) (xs : List A) (k : ℕ) → ((x : A) → slice_get xs k ≡ Some x → f (change x) ≡ f x) → map f (change_at k change xs) ≡ map f xs
  mapped-still f [] zero h = refl
  mapped-still f [] (suc k) h = refl
  mapped-still f (x ∷ xs) zero h = ap (λ y. y ∷ map f xs) (h x refl)
  mapped-still f (x ∷ xs) (suc k) h = ap (λ ys. f x ∷ ys) (mapped-still f xs k h)

  pub length-changed : (xs : List A) (k : ℕ) → length (change_at k change xs) ≡ length xs
  length-changed [] zero = refl
  length-changed [] (suc k) = refl
  length-changed (x ∷ xs) zero = refl
  length-changed (x ∷ xs) (suc k) = ap suc (length-changed xs k)

  pub changed-there : (xs : List A) (k : ℕ) (x : A) → slice_get xs k ≡ Some x → slice_get (change_at k change xs) k ≡ Some (change x)
  changed-there [] zero x h = absurd (cc)
  changed-there [] (suc k) x h = absurd (cc)
  changed-there (y ∷ xs) zero x h = let e : y ≡ x = cc in ap (λ z. Some (change z)) e
  changed-there (y ∷ xs) (suc k) x h = changed-there xs k x h

  pub changed-other : (xs : List A) (k j : ℕ) → (j ≡ k) ⊎ (slice_get (change_at k change xs) j ≡ slice_get xs j)
  changed-other [] zero j = inr refl
  changed-other [] (suc k) j = inr refl
  changed-other (x ∷ xs) zero zero = inl refl
  changed-other (x ∷ xs) zero (suc j) = inr refl
  changed-other (x ∷ xs) (suc k) zero = inr refl
  changed-other (x ∷ xs) (suc k) (suc j) = further (changed-other xs k j) where
    further : (j ≡ k) ⊎ (slice_get (change_at k change xs) j ≡ slice_get xs j) → (suc j ≡ suc k) ⊎ (slice_get (change_at k change xs) j ≡ slice_get xs j)
    further (inl e) = inl (ap suc e)
    further (inr e) = inr e

  pub unchanged : ((x : A) → change x ≡ x) → (xs : List A) (k : ℕ) → change_at k change xs ≡ xs
  unchanged h [] zero = refl
  unchanged h [] (suc k) = refl
  unchanged h (x ∷ xs) zero = ap (λ y. y ∷ xs) (h x)
  unchanged h (x ∷ xs) (suc k) = ap (λ ys. x ∷ ys) (unchanged h xs k)

-- ---- what a test finds

module _ {A : Type 0} (test : A → Bool) where
  prefix-mapped : (xs : List A) → prefix_len (λ x. not (test x)) xs ≡ prefix_len (λ b. not b) (map test xs)
  prefix-mapped [] = refl
  prefix-mapped (x ∷ xs) = ap (λ m. cond (not (test x)) (1 + m) 0) (prefix-mapped xs)

  length-mapped : (xs : List A) → length xs ≡ length (map test xs)
  length-mapped [] = refl
  length-mapped (x ∷ xs) = ap suc (length-mapped xs)

  position-mapped : (xs : List A) → position test xs ≡ position (λ b. b) (map test xs)
  position-mapped xs =
      ap (λ m. cond (nat_lt m (length xs)) (Some m) None) (prefix-mapped xs)
      ∙ ap (λ l. cond (nat_lt (prefix_len (λ b. not b) (map test xs)) l) (Some (prefix_len (λ b. not b) (map test xs))) None) (length-mapped xs)

  pub position-same : (xs ys : List A) → map test xs ≡ map test ys → position test xs ≡ position test ys
  position-same xs ys h = position-mapped xs ∙ ap (λ bs. position (λ b. b) bs) h ∙ sym (position-mapped ys)

-- ---- which names have linkage

abbrev is_linked_as : Name → Declared → Bool
is_linked_as x d = is_linked d.linkage && has_name x d.name

abbrev first_true : ℕ → List Bool → Option ℕ
first_true i [] = None
first_true i (b ∷ bs) = if b then Some i else first_true (suc i) bs

linked-mapped : (i : ℕ) (x : Name) (ds : List Declared) → linked_from i x ds ≡ first_true i (map (is_linked_as x) ds)
linked-mapped i x [] = refl
linked-mapped i x (d ∷ ds) = ap (λ o. if is_linked_as x d then Some i else o) (linked-mapped (suc i) x ds)

pub linked-same : (x : Name) (ds es : List Declared) → map (is_linked_as x) ds ≡ map (is_linked_as x) es → linked_from 0 x ds ≡ linked_from 0 x es
linked-same x ds es h = linked-mapped 0 x ds ∙ ap (λ bs. first_true 0 bs) h ∙ sym (linked-mapped 0 x es)

stays-by : (b : Bool) (i k : ℕ) (o r : Option ℕ) → (o ≡ Some k → r ≡ Some k) → (if b then Some i else o) ≡ Some k → (if b then Some i else r) ≡ Some k
stays-by true i k o r f h = h
stays-by false i k o r f h = f h

linked-stays : (i : ℕ) (x : Name) (ds es : List Declared) (k : ℕ) → linked_from i x ds ≡ Some k → linked_from i x (ds ++ es) ≡ Some k
linked-stays i x [] es k h = absurd (cc)
linked-stays i x (d ∷ ds) es k h = stays-by (is_linked_as x d) i k (linked_from (suc i) x ds) (linked_from (suc i) x (ds ++ es)) (linked-stays (suc i) x ds es k) h

pub linked-behind : (x : Name) (ds es : List Declared) (k : ℕ) → linked_from 0 x ds ≡ Some k → linked_from 0 x (ds ++ es) ≡ Some k
linked-behind x ds es k h = linked-stays 0 x ds es k h

pub stays-there : {A : Type 0} → (xs ys : List A) (i : ℕ) (x : A) → slice_get xs i ≡ Some x → slice_get (xs ++ ys) i ≡ Some x
stays-there [] ys i x h = absurd (cc)
stays-there (y ∷ xs) ys zero x h = h
stays-there (y ∷ xs) ys (suc i) x h = stays-there xs ys i x h

-- ---- what is linked

abbrev found_or : Option (Judged TypedExpr) → Judged TypedExpr
found_or None = Err rule.Undeclared
found_or (Some r) = r

abbrev linked_as : ℕ → Declared → Judged TypedExpr
linked_as i d = linked_by i d.ctype d.kind

linked-option : (i : ℕ) (o : Option Declared) → linked i o ≡ found_or (option_map (linked_as i) o)
linked-option i None = refl
linked-option i (Some d) = refl

get-mapped : {A B : Type 0} → (f : A → B) (xs : List A) (i : ℕ) → slice_get (map f xs) i ≡ option_map f (slice_get xs i)
get-mapped f [] zero = refl
get-mapped f [] (suc i) = refl
get-mapped f (x ∷ xs) zero = refl
get-mapped f (x ∷ xs) (suc i) = get-mapped f xs i

linked-get : (i : ℕ) (ds : List Declared) → linked i (slice_get ds i) ≡ found_or (slice_get (map (linked_as i) ds) i)
linked-get i ds = linked-option i (slice_get ds i) ∙ ap found_or (sym (get-mapped (linked_as i) ds i))

pub linked-there : (i : ℕ) (ds es : List Declared) → map (linked_as i) ds ≡ map (linked_as i) es → linked i (slice_get ds i) ≡ linked i (slice_get es i)
linked-there i ds es h = linked-get i ds ∙ ap (λ rs. found_or (slice_get rs i)) h ∙ sym (linked-get i es)

-- ---- numbers in order, in parts

parted-by : (b c : Bool) (a i m : ℕ) (is js : List ℕ) → ((a : ℕ) → next_of a (is ++ js) ≡ Some m → (k : ℕ) × (next_of a is ≡ Some k) × (next_of k js ≡ Some m)) →
    (if b then next_of a (is ++ js) else (if c then next_of (a + 1) (is ++ js) else None)) ≡ Some m → (k : ℕ) × ((if b then next_of a is else (if c then next_of (a + 1) is else None)) ≡ Some k) × (next_of k js ≡ Some m)
parted-by true c a i m is js f h = f a h
parted-by false true a i m is js f h = f (a + 1) h
parted-by false false a i m is js f h = absurd (cc)

pub next-parted : (is js : List ℕ) (a m : ℕ) → next_of a (is ++ js) ≡ Some m → (k : ℕ) × (next_of a is ≡ Some k) × (next_of k js ≡ Some m)
next-parted [] js a m h = (a, refl, h)
next-parted (i ∷ is) js a m h = parted-by (nat_lt i a) (nat_eq i a) a i m is js (λ a. next-parted is js a m) h
