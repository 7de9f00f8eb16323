-- One step of the solver: a constraint is taken from the lists, and either it is met, or it raises the
-- facts and is listed again with those that it may have broken, unless it settles.
use Rattle.std.proofs.Common.{◌≡◌, ℕ, zero, suc, ◌-◌, ◌<◌, ◌≤◌, ◌⊎◌, Bool, true, false, true≢false, List, [], ◌∷◌, ◌++◌, length, replicate, Some, slice_get, slice_set, inl, inr, ⊎_elim, refl, sym, ap, subst, ◌∙◌, arith}
use Rattle.std.specs.List.{Contains, All}
use Rattle.std.proofs.lemmas.Bool.{cases_lt}
use Rattle.std.proofs.lemmas.List.{length-set}
use Rattle.std.proofs.lemmas.List.Elements.{Contains-append_left, Contains-append_right, Contains-append_cases, Contains-push, Contains-push_cases, All-cons, All-contains}
use Rattle.std.proofs.lemmas.Option.{same_Some, none-some}
use Rattle.cc_fix.specs.declared.work.Work.{Work}
use Rattle.cc_fix.specs.Work.{listed, itself_unless, IsPending, IsWork, AreAll, ArePut, IsPushed}

same_or : (i j : ℕ) → (j ≡ i) ⊎ (j ≡ i → ⊥)
same_or zero zero = inl refl
same_or zero (suc j) = inr (λ e. omega (arith, e))
same_or (suc i) zero = inr (λ e. omega (arith, e))
same_or (suc i) (suc j) = ⊎_elim (λ e. inl (ap suc e)) (λ n. inr (λ e. n (omega (arith, e)))) (same_or i j)

-- ---- marks

set_here : (marks : List Bool) (n : ℕ) (b : Bool) → n < length marks → slice_get (slice_set marks n b) n ≡ Some b
set_here [] n b l = absurd (omega (arith, l))
set_here (a ∷ marks) zero b l = refl
set_here (a ∷ marks) (suc n) b l = set_here marks n b (omega (arith, l))

set_elsewhere : (marks : List Bool) (n m : ℕ) (b : Bool) → (m ≡ n → ⊥) → slice_get (slice_set marks n b) m ≡ slice_get marks m
set_elsewhere [] n m b other = refl
set_elsewhere (a ∷ marks) zero zero b other = absurd (other refl)
set_elsewhere (a ∷ marks) zero (suc m) b other = refl
set_elsewhere (a ∷ marks) (suc n) zero b other = refl
set_elsewhere (a ∷ marks) (suc n) (suc m) b other = set_elsewhere marks n m b (λ e. other (ap suc e))

none_pending : (n j : ℕ) → IsPending (replicate n false) j → ⊥
none_pending zero j e = none-some true e
none_pending (suc n) zero e = true≢false (sym (same_Some false true e))
none_pending (suc n) (suc j) e = none_pending n j e

length_none : (n : ℕ) → length (replicate n false) ≡ n
length_none zero = refl
length_none (suc n) = ap suc (length_none n)

-- ---- the lists

module _ (i : ℕ) (later first : List ℕ) where
  first_stays : (j : ℕ) → Contains (later ++ first) j → Contains (later ++ (first ++ i ∷ [])) j
  first_stays j h = ⊎_elim (λ a. Contains-append_left later (first ++ i ∷ []) j a) (λ b. Contains-append_right later (first ++ i ∷ []) j (Contains-append_left first (i ∷ []) j b)) (Contains-append_cases later first j h)

  first_there : Contains (later ++ (first ++ i ∷ [])) i
  first_there = Contains-append_right later (first ++ i ∷ []) i (Contains-push first i)

  first_known : (j : ℕ) → Contains (later ++ (first ++ i ∷ [])) j → Contains (later ++ first) j ⊎ (i ≡ j)
  first_known j h =
      ⊎_elim (λ a. inl (Contains-append_left later first j a)) (λ b. ⊎_elim (λ c. inl (Contains-append_right later first j c)) inr (Contains-push_cases first i j b)) (Contains-append_cases later (first ++ i ∷ []) j h)

  later_stays : (j : ℕ) → Contains (later ++ first) j → Contains ((later ++ i ∷ []) ++ first) j
  later_stays j h = ⊎_elim (λ a. Contains-append_left (later ++ i ∷ []) first j (Contains-append_left later (i ∷ []) j a)) (λ b. Contains-append_right (later ++ i ∷ []) first j b) (Contains-append_cases later first j h)

  later_there : Contains ((later ++ i ∷ []) ++ first) i
  later_there = Contains-append_left (later ++ i ∷ []) first i (Contains-push later i)

  later_known : (j : ℕ) → Contains ((later ++ i ∷ []) ++ first) j → Contains (later ++ first) j ⊎ (i ≡ j)
  later_known j h =
      ⊎_elim (λ a. ⊎_elim (λ c. inl (Contains-append_left later first j c)) inr (Contains-push_cases later i j a)) (λ b. inl (Contains-append_right later first j b)) (Contains-append_cases (later ++ i ∷ []) first j h)

pub later_pushed : (i : ℕ) (old new : Work) → new.pending.items ≡ old.pending.items → new.first.items ≡ old.first.items → new.later.items ≡ old.later.items ++ i ∷ [] → IsPushed i old new
later_pushed i old new p f l =
    let is : listed new ≡ (old.later.items ++ i ∷ []) ++ old.first.items = ap (λ (xs : List ℕ). xs ++ new.first.items) l ∙ ap (λ (xs : List ℕ). (old.later.items ++ i ∷ []) ++ xs) f in
    record {
      pending = p;
      stays = λ j h. subst (λ (xs : List ℕ). Contains xs j) (sym is) (later_stays i old.later.items old.first.items j h);
      there = subst (λ (xs : List ℕ). Contains xs i) (sym is) (later_there i old.later.items old.first.items);
      known = λ j h. later_known i old.later.items old.first.items j (subst (λ (xs : List ℕ). Contains xs j) is h);
    }

pub first_pushed : (i : ℕ) (old new : Work) → new.pending.items ≡ old.pending.items → new.first.items ≡ old.first.items ++ i ∷ [] → new.later.items ≡ old.later.items → IsPushed i old new
first_pushed i old new p f l =
    let is : listed new ≡ old.later.items ++ (old.first.items ++ i ∷ []) = ap (λ (xs : List ℕ). xs ++ new.first.items) l ∙ ap (λ (xs : List ℕ). old.later.items ++ xs) f in
    record {
      pending = p;
      stays = λ j h. subst (λ (xs : List ℕ). Contains xs j) (sym is) (first_stays i old.later.items old.first.items j h);
      there = subst (λ (xs : List ℕ). Contains xs i) (sym is) (first_there i old.later.items old.first.items);
      known = λ j h. first_known i old.later.items old.first.items j (subst (λ (xs : List ℕ). Contains xs j) is h);
    }

one_only : (i j : ℕ) → Contains (i ∷ []) j → i ≡ j
one_only i j h = ⊎_elim (λ (c : Contains [] j). absurd (let l : c.0 < 0 = c.1 in omega (arith, l))) (λ e. e) (Contains-push_cases [] i j h)

one_is : (i : ℕ) → Contains (i ∷ []) i
one_is i = Contains-push [] i

-- one that is pending already
pub put_again : (i : ℕ) (pending : List Bool) (list : List ℕ) → IsPending pending i → ArePut (i ∷ []) pending list pending list
put_again i pending list there = record {
  count = refl;
  kept = λ j h. h;
  put = λ j h. subst (IsPending pending) (one_only i j h) there;
  stays = λ j h. h;
  lists = λ j h. inl h;
  known = λ j h. inl h;
}

-- one that is not
pub put_one : (i : ℕ) (pending : List Bool) (was is : List ℕ) → i < length pending → ((j : ℕ) → Contains was j → Contains is j) → Contains is i → ((j : ℕ) → Contains is j → Contains was j ⊎ (i ≡ j)) → ArePut (i ∷ []) pending was (slice_set pending i true) is
put_one i pending was is l stays there known = record {
  count = length-set pending i true;
  kept = λ j h. kept j h (same_or i j);
  put = λ j h. subst (IsPending (slice_set pending i true)) (one_only i j h) (set_here pending i true l);
  stays = stays;
  lists = λ j h. lists j h (same_or i j);
  known = λ j h. ⊎_elim inl (λ e. inr (subst (Contains (i ∷ [])) e (one_is i))) (known j h);
}
  where
    kept : (j : ℕ) → IsPending pending j → (j ≡ i) ⊎ (j ≡ i → ⊥) → IsPending (slice_set pending i true) j
    kept j h (inl e) = subst (IsPending (slice_set pending i true)) (sym e) (set_here pending i true l)
    kept j h (inr other) = set_elsewhere pending i j true other ∙ h

    lists : (j : ℕ) → IsPending (slice_set pending i true) j → (j ≡ i) ⊎ (j ≡ i → ⊥) → IsPending pending j ⊎ Contains is j
    lists j h (inl e) = inr (subst (Contains is) (sym e) there)
    lists j h (inr other) = inl (sym (set_elsewhere pending i j true other) ∙ h)

-- by what is pushed once the mark is set
pub put_pushed : (i : ℕ) (old marked new : Work) → IsPushed i marked new → i < length old.pending.items → marked.pending.items ≡ slice_set old.pending.items i true → listed marked ≡ listed old →
    ArePut (i ∷ []) old.pending.items (listed old) new.pending.items (listed new)
put_pushed i old marked new h l mark same =
    subst (λ (marks : List Bool). ArePut (i ∷ []) old.pending.items (listed old) marks (listed new)) (sym (h.pending ∙ mark))
    (put_one i old.pending.items (listed old) (listed new) l (λ j c. h.stays j (subst (λ (xs : List ℕ). Contains xs j) (sym same) c)) h.there
    (λ j c. ⊎_elim (λ a. inl (subst (λ (xs : List ℕ). Contains xs j) same a)) inr (h.known j c)))

pub put_none : (pending : List Bool) (list : List ℕ) → ArePut [] pending list pending list
put_none pending list = record {
  count = refl;
  kept = λ j h. h;
  put = λ j (h : Contains [] j). absurd (let l : h.0 < 0 = h.1 in omega (arith, l));
  stays = λ j h. h;
  lists = λ j h. inl h;
  known = λ j h. inl h;
}

-- one after others
pub put_then : (more : List ℕ) (i : ℕ) (old mid new : List Bool) (was between is : List ℕ) → ArePut more old was mid between → ArePut (i ∷ []) mid between new is → ArePut (more ++ i ∷ []) old was new is
put_then more i old mid new was between is h k = record {
  count = k.count ∙ h.count;
  kept = λ j a. k.kept j (h.kept j a);
  put = λ j c. ⊎_elim (λ a. k.kept j (h.put j a)) (λ b. k.put j b) (Contains-append_cases more (i ∷ []) j c);
  stays = λ j a. k.stays j (h.stays j a);
  lists = λ j a. ⊎_elim (λ b. ⊎_elim inl (λ c. inr (k.stays j c)) (h.lists j b)) inr (k.lists j a);
  known = λ j a. ⊎_elim (λ b. ⊎_elim inl (λ c. inr (Contains-append_left more (i ∷ []) j c)) (h.known j b)) (λ c. inr (Contains-append_right more (i ∷ []) j c)) (k.known j a);
}

-- ---- a step

module _ {F : Type 0} (count : ℕ) (asks : ℕ → F → F → Type 0) (i : ℕ) (f : F) (pending : List Bool) (list : List ℕ) (work : IsWork count asks f pending (list ++ i ∷ [])) where
  abbrev closed : List Bool
  closed = slice_set pending i false

  pub taken_counts : i < count
  taken_counts = work.known i (Contains-push list i)

  pub within : i < length pending
  within = let e = work.counts in let l = taken_counts in omega (arith, e, l)

  closed_lists : (j : ℕ) → IsPending closed j → (j ≡ i) ⊎ (j ≡ i → ⊥) → Contains list j
  closed_lists j h (inl e) = absurd (true≢false (sym (same_Some false true (sym (set_here pending i false within) ∙ subst (IsPending closed) e h))))
  closed_lists j h (inr other) =
      ⊎_elim (λ c. c) (λ e. absurd (other (sym e))) (Contains-push_cases list i j (work.lists j (sym (set_elsewhere pending i j false other) ∙ h)))

  -- the constraint is met
  pub work_kept : asks i f f → IsWork count asks f closed list
  work_kept met = record {
    counts = length-set pending i false ∙ work.counts;
    known = λ j h. work.known j (Contains-append_left list (i ∷ []) j h);
    lists = λ j h. closed_lists j h (same_or i j);
    met = λ j l. by j (work.met j l) (same_or i j);
  }
    where
      by : (j : ℕ) → asks j f f ⊎ IsPending pending j → (j ≡ i) ⊎ (j ≡ i → ⊥) → asks j f f ⊎ IsPending closed j
      by j h (inl e) = inl (subst (λ (k : ℕ). asks k f f) (sym e) met)
      by j (inl h) (inr other) = inl h
      by j (inr h) (inr other) = inr (set_elsewhere pending i j false other ∙ h)

  -- it raised the facts
  pub work_raised : (g : F) (again : List ℕ) (new : List Bool) (is : List ℕ) → asks i g g ⊎ Contains again i → ((j : ℕ) → j < count → asks j f f → asks j g g ⊎ Contains again j) → All (λ j. j < count) again → ArePut again closed list new is → IsWork count asks g new is
  work_raised g again new is itself law all put = record {
    counts = put.count ∙ (length-set pending i false ∙ work.counts);
    known = λ j h. ⊎_elim (λ a. work.known j (Contains-append_left list (i ∷ []) j a)) (known j) (put.known j h);
    lists = λ j h. ⊎_elim (λ a. put.stays j (closed_lists j a (same_or i j))) (λ c. c) (put.lists j h);
    met = λ j l. by j l (work.met j l) (same_or i j);
  }
    where
      known : (j : ℕ) → Contains again j → j < count
      known j h = All-contains (λ k. k < count) again j all h

      by : (j : ℕ) → j < count → asks j f f ⊎ IsPending pending j → (j ≡ i) ⊎ (j ≡ i → ⊥) → asks j g g ⊎ IsPending new j
      by j l h (inl e) = subst (λ (k : ℕ). asks k g g ⊎ IsPending new k) (sym e) (⊎_elim inl (λ c. inr (put.put i c)) itself)
      by j l (inl met) (inr other) = ⊎_elim inl (λ c. inr (put.put j c)) (law j l met)
      by j l (inr h) (inr other) = inr (put.kept j (set_elsewhere pending i j false other ∙ h))

-- ---- what a constraint that raised facts has listed: itself, unless it settles, and others

pub itself_put : {A : Type 0} (settles : Bool) (i : ℕ) (again : List ℕ) → (settles ≡ true → A ⊎ Contains again i) → A ⊎ Contains (itself_unless settles i ++ again) i
itself_put true i again law = law refl
itself_put false i again law = inr (Contains-append_left (i ∷ []) again i (one_is i))

pub others_put : {A : Type 0} (settles : Bool) (i j : ℕ) (again : List ℕ) → A ⊎ Contains again j → A ⊎ Contains (itself_unless settles i ++ again) j
others_put settles i j again law = ⊎_elim inl (λ c. inr (Contains-append_right (itself_unless settles i) again j c)) law

pub all_put : (settles : Bool) (i count : ℕ) (again : List ℕ) → i < count → All (λ j. j < count) again → All (λ j. j < count) (itself_unless settles i ++ again)
all_put true i count again l all = all
all_put false i count again l all = All-cons (λ j. j < count) i again l all

-- ---- at first: those from one on are pending

pub record AreFrom (n count : ℕ) (pending : List Bool) (list : List ℕ) : Type 0 where
  pub counts : length pending ≡ count
  pub known : (j : ℕ) → Contains list j → j < count
  pub lists : (j : ℕ) → IsPending pending j → Contains list j
  pub all : (j : ℕ) → n ≤ j → j < count → IsPending pending j

pub from_none : (count : ℕ) (pending : List Bool) (list : List ℕ) → pending ≡ replicate count false → list ≡ [] → AreFrom count count pending list
from_none count pending list e none = record {
  counts = ap length e ∙ length_none count;
  known = λ j h. absurd (let c : Contains [] j = subst (λ (xs : List ℕ). Contains xs j) none h in let k : c.0 < 0 = c.1 in omega (arith, k));
  lists = λ j h. absurd (none_pending count j (subst (λ (marks : List Bool). IsPending marks j) e h));
  all = λ j l k. absurd (omega (arith, l, k));
}

pub one_lower : (n count : ℕ) (pending new : List Bool) (list is : List ℕ) → 0 < n → n ≤ count → AreFrom n count pending list → ArePut ((n - 1) ∷ []) pending list new is → AreFrom (n - 1) count new is
one_lower n count pending new list is some few are put = record {
  counts = put.count ∙ are.counts;
  known = λ j h. ⊎_elim (λ a. are.known j a) (λ b. let e = one_only (n - 1) j b in omega (arith, e, some, few)) (put.known j h);
  lists = λ j h. ⊎_elim (λ a. put.stays j (are.lists j a)) (λ c. c) (put.lists j h);
  all = λ j l k. by j l k (cases_lt j n);
}
  where
    by : (j : ℕ) → n - 1 ≤ j → j < count → (j < n) ⊎ (n ≤ j) → IsPending new j
    by j l k (inl less) = let e : n - 1 ≡ j = omega (arith, l, less, some) in put.put j (subst (Contains ((n - 1) ∷ [])) e (one_is (n - 1)))
    by j l k (inr more) = put.kept j (are.all j more k)

pub from_all : (n count : ℕ) (pending : List Bool) (list : List ℕ) → n ≡ 0 → AreFrom n count pending list → AreAll count pending list
from_all n count pending list e are = record { counts = are.counts; known = are.known; lists = are.lists; all = λ j l. are.all j (omega (arith, e)) l }
