-- A fact that a statement changes keeps its shape.
use Rattle.std.proofs.Common.{arith, ◌≡◌, ◌⊎◌, inl, inr, ◌<◌, ◌+◌, ◌*◌, ◌≤◌, ℕ, zero, suc, Bool, true, false, true≢false, cond, ◌&&◌, ◌||◌, nat_eq, nat_lt, All, List, [], ◌∷◌, ◌++◌, length, Option, Some, None, slice_get, slice_set, refl, ap, sym, subst, ◌∙◌}
use Rattle.std.specs.List.{AllByRecursion, AllZip, filter}
use Rattle.std.proofs.lemmas.List.Elements.{All-cons, All-append, All-filter, All-same}
use Rattle.cc_state_reads.specs.CcPlaces.declared.abs.Abs.{Abs}
use Rattle.cc_rules_flows.specs.Kept.{AreAsLong, IsAsLarge, KeepsShape}
use Rattle.cc_rules_flows.specs.Known.{comes_before, with_between}
use Rattle.cc_rules_needs.specs.Points.{IsFactOf}
use Rattle.cc_state_reads.specs.CcStateFacts.declared.facts.PointFact.{PointFact}
use Rattle.cc_state_reads.specs.CcStateFacts.declared.facts.Row.{Row}
use Rattle.cc_state_reads.specs.CcStateFacts.Facts.{row_length}
use Rattle.cc_state_reads.specs.CcStateFacts.Orders.{IsBefore, Ascend, AreOrderly}
use Rattle.cc_state_reads.specs.CcStateFacts.laws.Pairs.{kept_ascend}
use Rattle.cc_state_reads.specs.CcStateFacts.laws.Places.{zip_itself, zip_through}

-- ---- lists that are as long

pub set_long : {A : Type 0} (xs : List A) (k : ℕ) (y : A) → length (slice_set xs k y) ≡ length xs
set_long [] k y = refl
set_long (x ∷ xs) zero y = refl
set_long (x ∷ xs) (suc k) y = ap suc (set_long xs k y)

same_of : {A : Type 0} (x y : A) → Some x ≡ Some y → x ≡ y
same_of x y e = cc

abbrev ArePairsOf : ℕ → ℕ → List (ℕ × ℕ) → Type 0
ArePairsOf registers cells pairs = All (λ (pair : ℕ × ℕ). (pair.0 < registers) × (pair.1 < cells)) pairs

module _ {I : Type 0} where
  rows_itself : (rows : List (Row I)) → AllZip AreAsLong rows rows
  rows_itself rows = zip_itself AreAsLong (λ row. refl) rows

  put_row : (rows : List (Row I)) (k : ℕ) (row made : Row I) → slice_get rows k ≡ Some row → length made.cells ≡ length row.cells → AllZip AreAsLong rows (slice_set rows k made)
  put_row [] k row made h e = tt
  put_row (x ∷ rows) zero row made h e = (ap (λ (r : Row I). length r.cells) (same_of x row h) ∙ sym e, rows_itself rows)
  put_row (x ∷ rows) (suc k) row made h e = (refl, put_row rows k row made h e)

  old_row : (xs ys : List (Row I)) (n : ℕ) (y : Row I) → AllZip AreAsLong xs ys → slice_get ys n ≡ Some y → (x : Row I) × (slice_get xs n ≡ Some x) × AreAsLong x y
  old_row [] [] n y h e = absurd (cc)
  old_row [] (y' ∷ ys) n y h e = absurd h
  old_row (x ∷ xs) [] n y h e = absurd h
  old_row (x ∷ xs) (y' ∷ ys) zero y h e = (x, refl, h.0 ∙ ap (λ (r : Row I). length r.cells) (same_of y' y e))
  old_row (x ∷ xs) (y' ∷ ys) (suc n) y h e = old_row xs ys n y h.1 e

  -- ---- facts

  within_rows : (registers cells : ℕ) (old new : PointFact I) → AllZip AreAsLong old.rows new.rows → IsFactOf registers cells old →
      (n i : ℕ) (row : Row I) → slice_get new.rows n ≡ Some row → i < length row.cells → (i < row_length) × (row_length * n + i < cells)
  within_rows registers cells old new rows f n i row at l =
      let t = old_row old.rows new.rows n row rows at in
      f.within n i t.0 t.1 (subst (λ k. i < k) (sym t.2) l)

  pub keeps : (registers cells : ℕ) (old new : PointFact I) → length new.locals ≡ length old.locals → AllZip AreAsLong old.rows new.rows → (Ascend old.same → Ascend new.same) →
      (ArePairsOf registers cells old.same → ArePairsOf registers cells new.same) → KeepsShape registers cells old new
  keeps registers cells old new locals rows ascend between = record {
    large = record { locals = locals; rows = rows };
    orderly = ascend;
    of = λ f. record { each = locals ∙ f.each; within = within_rows registers cells old new rows f; between = between f.between };
  }

  pub kept_itself : (registers cells : ℕ) (fact : PointFact I) → KeepsShape registers cells fact fact
  kept_itself registers cells fact = record { large = record { locals = refl; rows = rows_itself fact.rows }; orderly = λ h. h; of = λ h. h }

  long_through : (x y z : Row I) → AreAsLong x y → AreAsLong y z → AreAsLong x z
  long_through x y z h k = h ∙ k

  pub kept_through : (registers cells : ℕ) (a b c : PointFact I) → KeepsShape registers cells a b → KeepsShape registers cells b c → KeepsShape registers cells a c
  kept_through registers cells a b c h k = record {
    large = record { locals = k.large.locals ∙ h.large.locals; rows = zip_through AreAsLong long_through a.rows b.rows c.rows h.large.rows k.large.rows };
    orderly = λ o. k.orderly (h.orderly o);
    of = λ f. k.of (h.of f);
  }

  rows_same : (xs ys : List (Row I)) → ys ≡ xs → AllZip AreAsLong xs ys
  rows_same xs ys e = subst (AllZip AreAsLong xs) (sym e) (rows_itself xs)

  -- ---- a register or a cell gets a set, and the flag is set

  pub local_kept : (registers cells : ℕ) (old new : PointFact I) (r : ℕ) (y : Abs I) (test : ℕ × ℕ → Bool) → new.rows ≡ old.rows → new.locals ≡ slice_set old.locals r y → new.same ≡ filter test old.same →
      KeepsShape registers cells old new
  local_kept registers cells old new r y test rows locals same = keeps registers cells old new
      (ap length locals ∙ set_long old.locals r y) (rows_same old.rows new.rows rows)
      (λ o. subst Ascend (sym same) (kept_ascend test old.same o))
      (λ b. All-same (λ (pair : ℕ × ℕ). (pair.0 < registers) × (pair.1 < cells)) new.same (filter test old.same) same (All-filter test (λ (pair : ℕ × ℕ). (pair.0 < registers) × (pair.1 < cells)) old.same b))

  pub cell_kept : (registers cells : ℕ) (old new : PointFact I) (k at : ℕ) (row made : Row I) (y : Abs I) (test : ℕ × ℕ → Bool) → slice_get old.rows k ≡ Some row → made.cells ≡ slice_set row.cells at y →
      new.locals ≡ old.locals → new.rows ≡ slice_set old.rows k made → new.same ≡ filter test old.same → KeepsShape registers cells old new
  cell_kept registers cells old new k at row made y test there is locals rows same = keeps registers cells old new
      (ap length locals)
      (subst (AllZip AreAsLong old.rows) (sym rows) (put_row old.rows k row made there (ap length is ∙ set_long row.cells at y)))
      (λ o. subst Ascend (sym same) (kept_ascend test old.same o))
      (λ b. All-same (λ (pair : ℕ × ℕ). (pair.0 < registers) × (pair.1 < cells)) new.same (filter test old.same) same (All-filter test (λ (pair : ℕ × ℕ). (pair.0 < registers) × (pair.1 < cells)) old.same b))

  pub flags_kept : (registers cells : ℕ) (old : PointFact I) (off on : Bool) → KeepsShape registers cells old (record old { off = off; on = on })
  flags_kept registers cells old off on = record {
    large = record { locals = refl; rows = rows_itself old.rows };
    orderly = λ o. o;
    of = λ f. record { each = f.each; within = f.within; between = f.between };
  }

-- ---- a pair is put between others

before_by : (a b : ℕ × ℕ) (c : Bool) → nat_lt a.0 b.0 ≡ c → (c || (nat_eq a.0 b.0 && nat_lt a.1 b.1)) ≡ true → IsBefore a b
before_by a b true e h = inl (grind arith)
before_by a b false e h = inr (grind arith, grind arith)

is_before : (a b : ℕ × ℕ) → comes_before a b ≡ true → IsBefore a b
is_before a b h = before_by a b (nat_lt a.0 b.0) refl h

before_through : (a b c : ℕ × ℕ) → IsBefore a b → IsBefore b c → IsBefore a c
before_through a b c (inl h) (inl k) = inl (omega (arith, h, k))
before_through a b c (inl h) (inr k) = inl (subst (λ n. a.0 < n) k.0 h)
before_through a b c (inr h) (inl k) = inl (subst (λ n. n < c.0) (sym h.0) k)
before_through a b c (inr h) (inr k) = let l = h.1 in let m = k.1 in inr (h.0 ∙ k.0, omega (arith, l, m))

passed_by : {A : Type 0} (P : A → Type 0) (test : A → Bool) (x : A) (rest : List A) (b : Bool) → test x ≡ b → (test x ≡ true → P x) → AllByRecursion P rest → AllByRecursion P (cond b (x ∷ rest) rest)
passed_by P test x rest true e f h = (f e, h)
passed_by P test x rest false e f h = h

passed : {A : Type 0} (P : A → Type 0) (test : A → Bool) → ((x : A) → test x ≡ true → P x) → (xs : List A) → AllByRecursion P (filter test xs)
passed P test f [] = tt
passed P test f (x ∷ xs) = passed_by P test x (filter test xs) (test x) refl (f x) (passed P test f xs)

all_more : {A : Type 0} (P Q : A → Type 0) → ((x : A) → P x → Q x) → (xs : List A) → AllByRecursion P xs → AllByRecursion Q xs
all_more P Q f [] h = tt
all_more P Q f (x ∷ xs) h = (f x h.0, all_more P Q f xs h.1)

all_both : {A : Type 0} (P : A → Type 0) (xs ys : List A) → AllByRecursion P xs → AllByRecursion P ys → AllByRecursion P (xs ++ ys)
all_both P [] ys h k = k
all_both P (x ∷ xs) ys h k = (h.0, all_both P xs ys h.1 k)

ascend_around : (p : ℕ × ℕ) (xs ys : List (ℕ × ℕ)) → Ascend xs → Ascend ys → AllByRecursion (λ x. IsBefore x p) xs → AllByRecursion (IsBefore p) ys → Ascend (xs ++ p ∷ ys)
ascend_around p [] ys a b h k = (k, b)
ascend_around p (x ∷ xs) ys a b h k =
    (all_both (IsBefore x) xs (p ∷ ys) a.0 (h.0, all_more (IsBefore p) (IsBefore x) (λ y m. before_through x p y h.0 m) ys k), ascend_around p xs ys a.1 b h.1 k)

ascend_between : (p : ℕ × ℕ) (pairs : List (ℕ × ℕ)) → Ascend pairs → Ascend (with_between p pairs)
ascend_between p pairs o =
    ascend_around p (filter (λ q. comes_before q p) pairs) (filter (comes_before p) pairs) (kept_ascend (λ q. comes_before q p) pairs o) (kept_ascend (comes_before p) pairs o)
    (passed (λ x. IsBefore x p) (λ q. comes_before q p) (λ x e. is_before x p e) pairs) (passed (IsBefore p) (comes_before p) (λ x e. is_before p x e) pairs)

module _ {I : Type 0} where
  pub pair_kept : (registers cells : ℕ) (old new : PointFact I) (r cell : ℕ) → r < registers → cell < cells → new.locals ≡ old.locals → new.rows ≡ old.rows → new.same ≡ with_between (r, cell) old.same →
      KeepsShape registers cells old new
  pair_kept registers cells old new r cell lr lc locals rows same =
      let P = λ (pair : ℕ × ℕ). (pair.0 < registers) × (pair.1 < cells) in
      keeps registers cells old new (ap length locals) (rows_same old.rows new.rows rows)
      (λ o. subst Ascend (sym same) (ascend_between (r, cell) old.same o))
      (λ b. All-same P new.same (with_between (r, cell) old.same) same
      (All-append P (filter (λ q. comes_before q (r, cell)) old.same) ((r, cell) ∷ filter (comes_before (r, cell)) old.same) (All-filter (λ q. comes_before q (r, cell)) P old.same b)
      (All-cons P (r, cell) (filter (comes_before (r, cell)) old.same) (lr, lc) (All-filter (comes_before (r, cell)) P old.same b))))
