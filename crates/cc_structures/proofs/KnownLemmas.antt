-- Structures source by source, one more at a time.
use Rattle.std.proofs.Common.{◌≡◌, ◌∙◌, ◌+◌, ◌<◌, ℕ, zero, suc, List, [], ◌∷◌, ◌++◌, length, map, get_or, take, refl, ap, sym, arith, append_assoc, zero-add, length-take-le}
use Rattle.std.proofs.lemmas.List.{map-append, append-nil, take_more}
use Rattle.cc_structures.specs.Structures.{Known, known_in, known_from, structures}
use Rattle.cc_structures.specs.View.{units_of, known_of, knowns_of}
use Rattle.cc_structures.specs.declared.known.Known.{Known as KnownOf}
use Rattle.cc_things.specs.declared.text.Text.{Text}
use Rattle.cc_unit.specs.declared.unit.TypedUnit.{TypedUnit}
use Rattle.cc_unit.specs.declared.unit.UnitStructure.{UnitStructure}

abbrev pub known : ℕ → ℕ → UnitStructure → Known
known t i s = record { text = t; position = i; structure = s }

known_in-append : (t i : ℕ) (ss : List UnitStructure) (s : UnitStructure) → known_in t i (ss ++ s ∷ []) ≡ known_in t i ss ++ known t (i + length ss) s ∷ []
known_in-append t i [] s = let e : i + 0 ≡ i = omega arith in rw e refl
known_in-append t i (x ∷ ss) s =
    let e : i + suc (length ss) ≡ suc i + length ss = omega arith in
    rw (e, known_in-append t (suc i) ss s) refl

-- a structure more
pub known_in-more : (t : ℕ) (ss : List UnitStructure) (s : UnitStructure) → known_in t 0 (ss ++ s ∷ []) ≡ known_in t 0 ss ++ known t (length ss) s ∷ []
known_in-more t ss s = known_in-append t 0 ss s ∙ ap (λ n. known_in t 0 ss ++ known t n s ∷ []) (zero-add (length ss))

known_from-append : (t : ℕ) (us : List TypedUnit) (u : TypedUnit) → known_from t (us ++ u ∷ []) ≡ known_from t us ++ known_in (t + length us) 0 u.structures
known_from-append t [] u = let e : t + 0 ≡ t = omega arith in rw e (append-nil (known_in t 0 u.structures))
known_from-append t (x ∷ us) u =
    let e : t + suc (length us) ≡ suc t + length us = omega arith in
    rw (e, known_from-append (suc t) us u) (sym (append_assoc (known_in t 0 x.structures) (known_from (suc t) us) (known_in (suc t + length us) 0 u.structures)))

length-units : (xs : List Text) → length (units_of xs) ≡ length xs
length-units [] = refl
length-units (x ∷ xs) = ap suc (length-units xs)

-- a source more
pub structures-more : (xs : List Text) (x : Text) → structures (units_of (xs ++ x ∷ [])) ≡ structures (units_of xs) ++ known_in (length xs) 0 x.unit.structures
unfolding structures
structures-more xs x =
    ap (known_from 0) (map-append (λ (y : Text). y.unit) xs (x ∷ []))
    ∙ (known_from-append 0 (units_of xs) x.unit ∙ ap (λ n. known_from 0 (units_of xs) ++ known_in n 0 x.unit.structures) (zero-add (length (units_of xs)) ∙ length-units xs))

pub structures-nil : structures [] ≡ []
unfolding structures
structures-nil = refl

pub knowns-more : (ss : List KnownOf) (s : KnownOf) → knowns_of (ss ++ s ∷ []) ≡ knowns_of ss ++ known_of s ∷ []
unfolding knowns_of
knowns-more ss s = map-append known_of ss (s ∷ [])

pub knowns-nil : knowns_of [] ≡ []
unfolding knowns_of
knowns-nil = refl

-- ---- as the loops have it

pub knowns-put : (text : ℕ) (structures : List UnitStructure) (i : ℕ) (s : UnitStructure) (k : KnownOf) (old new : List KnownOf) (base : List Known) → new ≡ old ++ k ∷ [] → knowns_of old ≡ base ++ known_in text 0 (take i structures) →
    i < length structures → s ≡ get_or structures i s → known_of k ≡ known text i s → knowns_of new ≡ base ++ known_in text 0 (take (i + 1) structures)
knowns-put text structures i s k old new base pushed before low is view =
    ap knowns_of pushed
    ∙ (knowns-more old k
    ∙ (ap (λ l. l ++ known_of k ∷ []) before
    ∙ (append_assoc base (known_in text 0 (take i structures)) (known_of k ∷ [])
    ∙ ap (λ l. base ++ l) (sym
    (ap (known_in text 0) (take_more structures i s low ∙ ap (λ x. take i structures ++ x ∷ []) (sym is))
    ∙ (known_in-more text (take i structures) s
    ∙ ap (λ x. known_in text 0 (take i structures) ++ x ∷ []) (ap (λ n. known text n s) (length-take-le i structures (omega (arith, low))) ∙ sym view)))))))

pub source-more : (texts : List Text) (i text : ℕ) (x : Text) (old new : List KnownOf) → knowns_of new ≡ knowns_of old ++ known_in text 0 x.unit.structures → knowns_of old ≡ structures (units_of (take i texts)) →
    text ≡ i → i < length texts → x ≡ get_or texts i x → knowns_of new ≡ structures (units_of (take (i + 1) texts))
source-more texts i text x old new put before counted low is =
    put
    ∙ (ap (λ l. l ++ known_in text 0 x.unit.structures) before
    ∙ sym (ap (λ l. structures (units_of l)) (take_more texts i x low ∙ ap (λ y. take i texts ++ y ∷ []) (sym is))
    ∙ (structures-more (take i texts) x ∙ ap (λ n. structures (units_of (take i texts)) ++ known_in n 0 x.unit.structures) (length-take-le i texts (omega (arith, low)) ∙ sym counted))))

pub ruleset of_knowns = (known_in-more, structures-more, structures-nil, knowns-more, knowns-nil, append-nil, append_assoc)
