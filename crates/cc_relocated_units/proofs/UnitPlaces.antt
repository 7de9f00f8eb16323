-- A structure of a source stands in its unit at its position, and each that stands there is one of the sources'.
use Rattle.std.proofs.Common.{◌≡◌, ◌∙◌, ◌⊎◌, inl, inr, ◌+◌, ℕ, zero, suc, List, [], ◌∷◌, map, Some, slice_get, ap, sym, subst, arith}
use Rattle.cc_structures.specs.Structures.{Known, known_in, structures}
use Rattle.cc_structures.proofs.Elements.{In, in-left, in-right, in-cases, in-map, in-map_from}
use Rattle.cc_structures.proofs.SourceLemmas.{in_next, structures-cons, structures-none}
use Rattle.cc_unit.specs.declared.unit.TypedUnit.{TypedUnit}
use Rattle.cc_unit.specs.declared.unit.UnitStructure.{UnitStructure}

abbrev pub known : ℕ → ℕ → UnitStructure → Known
known t i s = record { text = t; position = i; structure = s }

-- ---- in one unit

pub record IsPlaced (t i : ℕ) (ss : List UnitStructure) (s : Known) : Type 0 where
  pub text : s.text ≡ t
  pub place : ℕ
  pub position : s.position ≡ i + place
  pub there : slice_get ss place ≡ Some s.structure

placed-in : (t i : ℕ) (ss : List UnitStructure) (s : Known) → In s (known_in t i ss) → IsPlaced t i ss s
placed-in t i [] s h = absurd h
placed-in t i (x ∷ ss) s (inl e) =
    let position = ap (λ (k : Known). k.position) e in
    record { text = sym (ap (λ (k : Known). k.text) e); place = 0; position = omega (arith, position); there = ap (λ (k : Known). Some k.structure) e }
placed-in t i (x ∷ ss) s (inr h) =
    let r = placed-in t (suc i) ss s h in
    let position = r.position in
    record { text = r.text; place = suc r.place; position = omega (arith, position); there = r.there }

in-placed : (t i : ℕ) (ss : List UnitStructure) (k : ℕ) (x : UnitStructure) → slice_get ss k ≡ Some x → In (known t (i + k) x) (known_in t i ss)
in-placed t i [] k x e = absurd (cc)
in-placed t i (s ∷ ss) zero x e =
    let same : s ≡ x = cc e in
    inl (ap (λ (y : UnitStructure). known t i y) same ∙ ap (λ n. known t n x) (plus i))
  where
    plus : (n : ℕ) → n ≡ n + 0
    plus n = omega arith
in-placed t i (s ∷ ss) (suc k) x e = inr (subst (λ n. In (known t n x) (known_in t (suc i) ss)) (plus i k) (in-placed t (suc i) ss k x e))
  where
    plus : (n m : ℕ) → suc n + m ≡ n + suc m
    plus n m = omega arith

-- ---- in all

pub record IsIn (units : List TypedUnit) (s : Known) (u : TypedUnit) : Type 0 where
  pub unit : slice_get units s.text ≡ Some u
  pub place : slice_get u.structures s.position ≡ Some s.structure

pub unit-of : (units : List TypedUnit) (s : Known) → In s (structures units) → (u : TypedUnit) × IsIn units s u
unit-of [] s h = absurd (subst (In s) structures-none h)
unit-of (u ∷ us) s h = by (in-cases (known_in 0 0 u.structures) (map in_next (structures us)) s (subst (In s) (structures-cons u us) h)) (λ r i. unit-of us r i)
  where
    same-place : (p n : ℕ) → p ≡ 0 + n → p ≡ n
    same-place p n e = omega (arith, e)

    by : In s (known_in 0 0 u.structures) ⊎ In s (map in_next (structures us)) → ((r : Known) → In r (structures us) → (v : TypedUnit) × IsIn us r v) → (v : TypedUnit) × IsIn (u ∷ us) s v
    by (inl i) more =
        let r = placed-in 0 0 u.structures s i in
        (u, record { unit = ap (slice_get (u ∷ us)) r.text; place = ap (slice_get u.structures) (same-place s.position r.place r.position) ∙ r.there })
    by (inr i) more =
        let r = in-map_from in_next (structures us) s i in
        let rest = more r.0 r.1.0 in (
          rest.0,
          record {
            unit = sym (ap (λ (k : Known). slice_get (u ∷ us) k.text) r.1.1) ∙ rest.1.unit;
            place = sym (ap (λ (k : Known). slice_get rest.0.structures k.position) r.1.1) ∙ (rest.1.place ∙ ap (λ (k : Known). Some k.structure) r.1.1);
          },
        )

pub in-unit : (units : List TypedUnit) (t i : ℕ) (u : TypedUnit) (x : UnitStructure) → slice_get units t ≡ Some u → slice_get u.structures i ≡ Some x → In (known t i x) (structures units)
in-unit [] t i u x e h = absurd (cc)
in-unit (v ∷ us) zero i u x e h =
    let same : v ≡ u = cc e in
    let there : slice_get v.structures i ≡ Some x = ap (λ (w : TypedUnit). slice_get w.structures i) same ∙ h in
    subst (In (known 0 i x)) (sym (structures-cons v us))
    (in-left (known_in 0 0 v.structures) (map in_next (structures us)) (known 0 i x) (subst (λ n. In (known 0 n x) (known_in 0 0 v.structures)) (plus i) (in-placed 0 0 v.structures i x there)))
  where
    plus : (n : ℕ) → 0 + n ≡ n
    plus n = omega arith
in-unit (v ∷ us) (suc t) i u x e h =
    subst (In (known (suc t) i x)) (sym (structures-cons v us))
    (in-right (known_in 0 0 v.structures) (map in_next (structures us)) (known (suc t) i x) (in-map in_next (structures us) (known t i x) (in-unit us t i u x e h)))
