-- Where numbers stand in the order of a unit.
use Rattle.std.proofs.Common.{◌≡◌, ◌∙◌, ◌⊎◌, inl, inr, ◌+◌, ◌<◌, ◌≤◌, ℕ, zero, suc, Bool, true, false, true≢false, cond, List, [], ◌∷◌, Option, Some, None, is_some, slice_get, refl, ap, sym, subst, arith}
use Rattle.std.specs.Prelude.{nat_eq}
use Rattle.std.proofs.lemmas.Bool.{eq-eqb, eqb-true}
use Rattle.cc_numbering.specs.Numbers.{only_named, place_from, places_from, unless}
use Rattle.cc_terms.specs.CcScopes.State.{KnownStructure}
use Rattle.cc_sound_terms.specs.Ordered.{is_among}
use Rattle.cc_structures.proofs.Elements.{In, any-in, in-any, in-cases, in-left, in-right}
use Rattle.cc_terms.specs.CcSyntax.Types.{Named}

pub among-in : (front : List ℕ) (i : ℕ) → is_among front i ≡ true → In i front
among-in front i h = let r = in-any (nat_eq i) front h in subst (λ (j : ℕ). In j front) (sym (eqb-true i r.0 r.1.1)) r.1.0

pub in-among : (front : List ℕ) (i : ℕ) → In i front → is_among front i ≡ true
in-among front i h = any-in (nat_eq i) front i h (eq-eqb i i refl)

-- ---- places

pub record Placed (n : ℕ) (js : List ℕ) (i : ℕ) : Type 0 where
  pub at : ℕ
  pub is : place_from n js i ≡ n + at
  pub there : slice_get js at ≡ Some i
  pub first : (q : ℕ) → slice_get js q ≡ Some i → at ≤ q

pub placed : (n : ℕ) (js : List ℕ) (i : ℕ) → In i js → Placed n js i
placed n [] i h = absurd h
placed n (j ∷ js) i h = by (nat_eq i j) refl (λ g. placed (suc n) js i g)
  where
    same : (a b : ℕ) → Some a ≡ Some b → a ≡ b
    same a b e = cc e

    behind : nat_eq i j ≡ false → (j ≡ i) ⊎ In i js → In i js
    behind e (inl s) = absurd (true≢false (sym (eq-eqb i j (sym s)) ∙ e))
    behind e (inr g) = g

    not_here : nat_eq i j ≡ false → (q : ℕ) (r : Placed (suc n) js i) → slice_get (j ∷ js) q ≡ Some i → suc r.at ≤ q
    not_here e zero r g = absurd (true≢false (sym (eq-eqb i j (sym (same j i g))) ∙ e))
    not_here e (suc q) r g = let low = r.first q g in omega (arith, low)

    here : nat_eq i j ≡ true → Placed n (j ∷ js) i
    here e = record {
      at = 0;
      is = ap (λ (c : Bool). cond c n (place_from (suc n) js i)) e ∙ plus n;
      there = ap (λ (k : ℕ). Some k) (sym (eqb-true i j e));
      first = λ q g. omega arith;
    }
      where
        plus : (n : ℕ) → n ≡ n + 0
        plus n = omega arith

    later : nat_eq i j ≡ false → Placed (suc n) js i → Placed n (j ∷ js) i
    later e r = record { at = suc r.at; is = ap (λ (c : Bool). cond c n (place_from (suc n) js i)) e ∙ (r.is ∙ plus n r.at); there = r.there; first = λ q g. not_here e q r g }
      where
        plus : (n m : ℕ) → suc n + m ≡ n + suc m
        plus n m = omega arith

    by : (b : Bool) → nat_eq i j ≡ b → (In i js → Placed (suc n) js i) → Placed n (j ∷ js) i
    by true e rest = here e
    by false e rest = later e (rest (behind e h))

pub places-at : (i n : ℕ) (order : List ℕ) (k : ℕ) → k < n → slice_get (places_from i n order) k ≡ Some (place_from 0 order (i + k))
places-at i zero order k low = absurd (omega (arith, low))
places-at i (suc n) order zero low = ap (λ (j : ℕ). Some (place_from 0 order j)) (plus i)
  where
    plus : (n : ℕ) → n ≡ n + 0
    plus n = omega arith
places-at i (suc n) order (suc k) low = places-at (suc i) n order k (omega (arith, low)) ∙ ap (λ (j : ℕ). Some (place_from 0 order j)) (plus i k)
  where
    plus : (n m : ℕ) → suc n + m ≡ n + suc m
    plus n m = omega arith

-- ---- those that are only named

pub in-only : (i : ℕ) (ks : List KnownStructure) (r : ℕ) (k : KnownStructure) → slice_get ks r ≡ Some k → k.members ≡ None → In (i + r) (only_named i ks)
in-only i [] r k e n = absurd (cc)
in-only i (x ∷ ks) zero k e n = in-left (unless (is_some x.members) i) (only_named (suc i) ks) (i + 0) (subst (λ (o : Option (List Named)). In (i + 0) (unless (is_some o) i)) (sym none) (inl (plus i)))
  where
    same : (a b : KnownStructure) → Some a ≡ Some b → a ≡ b
    same a b e = cc e

    none : x.members ≡ None
    none = ap (λ (y : KnownStructure). y.members) (same x k e) ∙ n

    plus : (n : ℕ) → n ≡ n + 0
    plus n = omega arith
in-only i (x ∷ ks) (suc r) k e n = in-right (unless (is_some x.members) i) (only_named (suc i) ks) (i + suc r) (subst (λ (j : ℕ). In j (only_named (suc i) ks)) (plus i r) (in-only (suc i) ks r k e n))
  where
    plus : (n m : ℕ) → suc n + m ≡ n + suc m
    plus n m = omega arith

pub record OnlyNamed (i : ℕ) (ks : List KnownStructure) (j : ℕ) : Type 0 where
  pub at : ℕ
  pub is : j ≡ i + at
  pub structure : KnownStructure
  pub there : slice_get ks at ≡ Some structure
  pub none : structure.members ≡ None

pub only-in : (i : ℕ) (ks : List KnownStructure) (j : ℕ) → In j (only_named i ks) → OnlyNamed i ks j
only-in i [] j h = absurd h
only-in i (x ∷ ks) j h = by x.members refl (in-cases (unless (is_some x.members) i) (only_named (suc i) ks) j h) (only-in (suc i) ks j)
  where
    here : (o : Option (List Named)) → x.members ≡ o → In j (unless (is_some o) i) → OnlyNamed i (x ∷ ks) j
    here (Some ms) e g = absurd g
    here None e (inl s) = record { at = 0; is = plus j i s; structure = x; there = refl; none = e }
      where
        plus : (j i : ℕ) → i ≡ j → j ≡ i + 0
        plus j i s = omega (arith, s)
    here None e (inr g) = absurd g

    by : (o : Option (List Named)) → x.members ≡ o → In j (unless (is_some x.members) i) ⊎ In j (only_named (suc i) ks) → (In j (only_named (suc i) ks) → OnlyNamed (suc i) ks j) → OnlyNamed i (x ∷ ks) j
    by o e (inl g) rest = here o e (subst (λ (p : Option (List Named)). In j (unless (is_some p) i)) e g)
    by o e (inr g) rest = let r = rest g in record { at = suc r.at; is = plus j i r.at r.is; structure = r.structure; there = r.there; none = r.none }
      where
        plus : (j i m : ℕ) → j ≡ suc i + m → j ≡ i + suc m
        plus j i m s = omega (arith, s)
