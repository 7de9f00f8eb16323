-- Numbers along the program's order: what stands before the first structure of a number has no greater number.
use Rattle.std.proofs.Common.{◌≡◌, ◌∙◌, ◌⊎◌, inl, inr, ◌≤◌, ◌+◌, ℕ, zero, suc, Bool, true, false, true≢false, not, ◌&&◌, cond, nat_eq, List, [], ◌∷◌, ◌++◌, filter, Some, slice_get, refl, ap, sym, subst, arith}
use Rattle.std.proofs.lemmas.Bool.{eqb-true}
use Rattle.cc_structures.specs.Structures.{Known, Numbering, structures, number_of, firsts_of, HavePositions, is_complete, in_program_order}
use Rattle.cc_structures.proofs.Elements.{In}
use Rattle.cc_structures.proofs.OrderLemmas.{filter-both, filter-all, in-filter, filter-in}
use Rattle.cc_structures.proofs.SourceLemmas.{IsBefore, AreOrdered, are-ordered}
use Rattle.cc_unit.specs.declared.unit.TypedUnit.{TypedUnit}

both : (a b : Bool) → a ≡ true → b ≡ true → (a && b) ≡ true
both a b h k = rw (h, k) refl

-- what is filtered passes
pub filter-passes : {X : Type 0} (p : X → Bool) (xs : List X) (x : X) → In x (filter p xs) → p x ≡ true
filter-passes p [] x h = absurd h
filter-passes {X = X} p (y ∷ ys) x h = by (p y) refl h (filter-passes p ys x)
  where
    by : (b : Bool) → p y ≡ b → In x (cond b (y ∷ filter p ys) (filter p ys)) → (In x (filter p ys) → p x ≡ true) → p x ≡ true
    by true e (inl s) rest = sym (ap p s) ∙ e
    by true e (inr i) rest = rest i
    by false e i rest = rest i

-- in front of a list, f not among them, x stands before f
abbrev pub StandsBefore : Known → Known → List Known → Type 0
StandsBefore x f [] = ⊥
StandsBefore x f (s ∷ ss) = ((s ≡ x) × In f ss) ⊎ ((s ≡ f → ⊥) × StandsBefore x f ss)

pub stands-behind : (x f : Known) (front ss : List Known) → ((s : Known) → In s front → s ≡ f → ⊥) → StandsBefore x f ss → StandsBefore x f (front ++ ss)
stands-behind x f [] ss no_f h = h
stands-behind x f (s ∷ front) ss no_f h = inr (no_f s (inl refl), stands-behind x f front ss (λ t i. no_f t (inr i)) h)

no-cycle : (s x f : Known) → IsBefore s x → IsBefore x f → s ≡ f → ⊥
no-cycle s x f a b e = by a b (ap (λ (k : Known). k.text) e) (ap (λ (k : Known). k.position) e)
  where
    by : IsBefore s x → IsBefore x f → s.text ≡ f.text → s.position ≡ f.position → ⊥
    by (inl h) (inl k) t p = omega (arith, h, k, t)
    by (inl h) (inr k) t p = let u = k.0 in omega (arith, h, u, t)
    by (inr h) (inl k) t p = let u = h.0 in omega (arith, k, u, t)
    by (inr h) (inr k) t p = let u = h.1 in let v = k.1 in omega (arith, u, v, p)

irreflexive : (x f : Known) → IsBefore x f → x ≡ f → ⊥
irreflexive x f b e = by b (ap (λ (k : Known). k.text) e) (ap (λ (k : Known). k.position) e)
  where
    by : IsBefore x f → x.text ≡ f.text → x.position ≡ f.position → ⊥
    by (inl h) t p = omega (arith, h, t)
    by (inr h) t p = let u = h.1 in omega (arith, u, p)

pub sorted-before : (ss : List Known) → AreOrdered ss → (x f : Known) → In x ss → In f ss → IsBefore x f → StandsBefore x f ss
sorted-before [] a x f hx hf b = absurd hx
sorted-before (s ∷ ss) a x f (inl e) (inl d) b = absurd (irreflexive x f b (sym e ∙ d))
sorted-before (s ∷ ss) a x f (inl e) (inr j) b = inl (e, j)
sorted-before (s ∷ ss) a x f (inr i) (inl d) b = absurd (no-cycle s x f (a.0 x i) b d)
sorted-before (s ∷ ss) a x f (inr i) (inr j) b = inr (no-cycle s x f (a.0 x i) b, sorted-before ss a.1 x f i j b)

ordered-filter : (p : Known → Bool) (ss : List Known) → AreOrdered ss → AreOrdered (filter p ss)
ordered-filter p [] a = tt
ordered-filter p (s ∷ ss) a = by (p s) (ordered-filter p ss a.1)
  where
    by : (b : Bool) → AreOrdered (filter p ss) → AreOrdered (cond b (s ∷ filter p ss) (filter p ss))
    by true rest = (λ t h. a.0 t (in-filter p ss t h), rest)
    by false rest = rest

module _ (numbering : Numbering) where
  abbrev at : Known → ℕ
  at s = number_of numbering s

  abbrev apart : Known → Known → Bool
  apart s t = not (nat_eq (at s) (at t))

  -- ---- positions

  pub low : (i : ℕ) (fs : List Known) → HavePositions numbering i fs → (f : Known) → In f fs → i ≤ at f
  low i [] h f a = absurd a
  low i (s ∷ fs) h f (inl e) = let here = h.0 in let same = ap at e in omega (arith, here, same)
  low i (s ∷ fs) h f (inr a) = let rest = low (suc i) fs h.1 f a in omega (arith, rest)

  -- each has its number as its position
  pub position-at : (i : ℕ) (fs : List Known) (k : ℕ) (f : Known) → HavePositions numbering i fs → slice_get fs k ≡ Some f → (at f ≡ i + k) × In f fs
  position-at i [] k f h e = absurd (cc)
  position-at i (s ∷ fs) zero f h e =
      let same : s ≡ f = cc e in
      let here = h.0 in
      let is = ap at same in
      (omega (arith, here, is), inl same)
  position-at i (s ∷ fs) (suc k) f h e =
      let r = position-at (suc i) fs k f h.1 e in
      let is = r.0 in
      (omega (arith, is), inr r.1)

  pub at-position : (i : ℕ) (fs : List Known) (f : Known) → HavePositions numbering i fs → In f fs → (k : ℕ) × ((at f ≡ i + k) × (slice_get fs k ≡ Some f))
  at-position i [] f h a = absurd a
  at-position i (s ∷ fs) f h (inl e) = let here = h.0 in let is = ap at e in (0, (omega (arith, here, is), ap Some e))
  at-position i (s ∷ fs) f h (inr a) =
      let r = at-position (suc i) fs f h.1 a in
      let is = r.1.0 in
      (suc r.0, (omega (arith, is), r.1.1))

  -- each structure has the number of one of the firsts
  pub first-there : (ss : List Known) (x : Known) → In x ss → (f : Known) × (In f (firsts_of numbering ss) × (at f ≡ at x))
  first-there [] x h = absurd h
  first-there (s ∷ ss) x (inl e) = (s, (inl refl, ap at e))
  first-there (s ∷ ss) x (inr i) = let r = first-there ss x i in by r (nat_eq (at s) (at r.0)) refl
    where
      by : (r : (f : Known) × (In f (firsts_of numbering ss) × (at f ≡ at x))) → (b : Bool) → nat_eq (at s) (at r.0) ≡ b → (f : Known) × (In f (firsts_of numbering (s ∷ ss)) × (at f ≡ at x))
      by r true e = (s, (inl refl, eqb-true (at s) (at r.0) e ∙ r.1.1))
      by r false e = (r.0, (inr (filter-in (apart s) (firsts_of numbering ss) r.0 r.1.0 (ap not e)), r.1.1))

  -- ---- what stands before

  abbrev SameTest : (Known → Bool) → Type 0
  SameTest p = (x y : Known) → at x ≡ at y → p x ≡ p y

  -- the first of a list that passes, where the rest is told
  head-at : (p : Known → Bool) (s : Known) (fs : List Known) (i : ℕ) → p s ≡ true → HavePositions numbering i (filter p (s ∷ fs)) → at s ≡ i
  head-at p s fs i ps h = (subst (λ b. HavePositions numbering i (cond b (s ∷ filter p fs) (filter p fs))) ps h).0

  tail-at : (p : Known → Bool) (s : Known) (fs : List Known) (i : ℕ) → HavePositions numbering i (filter p (s ∷ fs)) → (j : ℕ) × HavePositions numbering j (filter p fs)
  tail-at p s fs i h = by (p s) h
    where
      by : (b : Bool) → HavePositions numbering i (cond b (s ∷ filter p fs) (filter p fs)) → (j : ℕ) × HavePositions numbering j (filter p fs)
      by true h = (suc i, h.1)
      by false h = (i, h)

  abbrev More : List Known → Known → Known → Type 0
  More ss x f = (q : Known → Bool) → SameTest q → (j : ℕ) → HavePositions numbering j (filter q (firsts_of numbering ss)) → StandsBefore x f ss → In f (firsts_of numbering ss) → q x ≡ true → q f ≡ true → at x ≤ at f

  none-greater : (ss : List Known) (p : Known → Bool) → SameTest p → (i : ℕ) (x f : Known) → HavePositions numbering i (filter p (firsts_of numbering ss)) → StandsBefore x f ss → In f (firsts_of numbering ss) → p x ≡ true → p f ≡ true → at x ≤ at f
  none-greater [] p same i x f h b a px pf = absurd b
  none-greater (s ∷ ss) p same i x f h b a px pf = by (λ q keeps j k rest i_f qx qf. none-greater ss q keeps j x f k rest i_f qx qf) b a
    where
      bound : at s ≡ at x → at x ≤ at f
      bound e =
          let least = low i (filter p (firsts_of numbering (s ∷ ss))) h f (filter-in p (firsts_of numbering (s ∷ ss)) f a pf) in
          let here = head-at p s (filter (apart s) (firsts_of numbering ss)) i (same s x e ∙ px) h in
          omega (arith, least, here, e)

      later : More ss x f → In f (filter (apart s) (firsts_of numbering ss)) → StandsBefore x f ss → (c : Bool) → nat_eq (at s) (at x) ≡ c → at x ≤ at f
      later more i_f rest true e = bound (eqb-true (at s) (at x) e)
      later more i_f rest false e =
          let tail = tail-at p s (filter (apart s) (firsts_of numbering ss)) i h in
          more (λ k. apart s k && p k) (λ y z d. ap (λ (n : ℕ). not (nat_eq (at s) n) && p y) d ∙ ap (λ (q : Bool). apart s z && q) (same y z d)) tail.0
          (subst (HavePositions numbering tail.0) (filter-both p (apart s) (firsts_of numbering ss)) tail.1) rest (in-filter (apart s) (firsts_of numbering ss) f i_f)
          (both (apart s x) (p x) (ap not e) px) (both (apart s f) (p f) (filter-passes (apart s) (firsts_of numbering ss) f i_f) pf)

      by : More ss x f → ((s ≡ x) × In f ss) ⊎ ((s ≡ f → ⊥) × StandsBefore x f ss) → In f (s ∷ filter (apart s) (firsts_of numbering ss)) → at x ≤ at f
      by more (inl e) a = bound (ap at e.0)
      by more (inr r) (inl e) = absurd (r.0 e)
      by more (inr r) (inr i_f) = later more i_f r.1 (nat_eq (at s) (at x)) refl

  pub before-lower : (units : List TypedUnit) (x f : Known) → HavePositions numbering 0 (firsts_of numbering (in_program_order units)) → In x (structures units) → In f (structures units) → is_complete x ≡ true → is_complete f ≡ true →
      IsBefore x f → In f (firsts_of numbering (in_program_order units)) → at x ≤ at f
  before-lower units x f h hx hf cx cf b a =
      let all = structures units in
      let complete = filter is_complete all in
      let sorted = sorted-before complete (ordered-filter is_complete all (are-ordered units)) x f (filter-in is_complete all x hx cx) (filter-in is_complete all f hf cf) b in
      none-greater (in_program_order units) (λ (k : Known). true) (λ y z d. refl) 0 x f
      (subst (HavePositions numbering 0) (sym (filter-all (λ (k : Known). true) (firsts_of numbering (in_program_order units)) (λ y i. refl))) h)
      (stands-behind x f (filter (λ (s : Known). not (is_complete s)) all) complete (λ s i e. not-named s i e) sorted) a refl refl
    where
      not-named : (s : Known) → In s (filter (λ (s : Known). not (is_complete s)) (structures units)) → s ≡ f → ⊥
      not-named s i e =
          let named = filter-passes (λ (s : Known). not (is_complete s)) (structures units) s i in
          true≢false (sym named ∙ ap not (ap is_complete e ∙ cf))
