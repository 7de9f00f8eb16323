-- Flows that are all the same are joined by the same.
use Rattle.std.proofs.Common.{arith, ◌≡◌, ◌<◌, ℕ, zero, suc, Bool, true, false, ◌&&◌, ◌||◌, List, [], ◌∷◌, map, length, get_or, Contains, Option, Some, None, refl, ap, sym, subst, ◌∙◌}
use Rattle.std.specs.List.{list_all, list_any}
use Rattle.cc_rules_asked.specs.CcPlaces.declared.abs.Abs.{Abs}
use Rattle.cc_rules_asked.specs.CcPlaces.Abstract.{AreOfOneKind, IsBelowAbs}
use Rattle.cc_rules_asked.specs.CcRulesFlows.Known.{Tells}
use Rattle.cc_rules_asked.specs.CcRulesNeeds.Flowing.{Flowing, of_fact, IsJoined, IsLeastOver}
use Rattle.cc_rules_asked.specs.CcStateFacts.declared.facts.PointFact.{PointFact}

-- each is that one
abbrev pub Same : {A : Type 0} → A → List A → Type 0
Same x [] = Unit {0}
Same x (a ∷ rest) = (a ≡ x) × Same x rest

or_both : (a b : Bool) → a ≡ b → (a || b) ≡ b
or_both true b h = h
or_both false b h = refl

or_none : (a b : Bool) → a ≡ b → (a || false) ≡ b
or_none true b h = h
or_none false b h = h

and_both : (a b : Bool) → a ≡ b → (a && b) ≡ b
and_both true b h = refl
and_both false b h = h

and_all : (a b : Bool) → a ≡ b → (a && true) ≡ b
and_all true b h = h
and_all false b h = h

any_same : {A : Type 0} (f : A → Bool) (x a : A) (rest : List A) → Same x (a ∷ rest) → list_any f (a ∷ rest) ≡ f x
any_same f x a [] s = or_none (f a) (f x) (ap f s.0)
any_same f x a (b ∷ rest) s = ap (λ c. f a || c) (any_same f x b rest s.1) ∙ or_both (f a) (f x) (ap f s.0)

all_same : {A : Type 0} (f : A → Bool) (x a : A) (rest : List A) → Same x (a ∷ rest) → list_all f (a ∷ rest) ≡ f x
all_same f x a [] s = and_all (f a) (f x) (ap f s.0)
all_same f x a (b ∷ rest) s = ap (λ c. f a && c) (all_same f x b rest s.1) ∙ and_both (f a) (f x) (ap f s.0)

mapped : {A B : Type 0} (f : A → B) (x : A) (rest : List A) → Same x rest → Same (f x) (map f rest)
mapped f x [] s = tt
mapped f x (a ∷ rest) s = (ap f s.0, mapped f x rest s.1)

found_at : {A : Type 0} (x v : A) (rest : List A) (k : ℕ) → Same x rest → k < length rest → get_or rest k v ≡ v → v ≡ x
found_at x v [] k s l e = absurd (omega (arith, l))
found_at x v (a ∷ rest) zero s l e = sym e ∙ s.0
found_at x v (a ∷ rest) (suc k) s l e = found_at x v rest k s.1 (omega (arith, l)) e

found : {A : Type 0} (x v : A) (rest : List A) → Same x rest → Contains rest v → v ≡ x
found x v rest s c = found_at x v rest c.0 s c.1 c.2

first : {A : Type 0} (x a : A) (rest : List A) → a ≡ x → Contains (a ∷ rest) x
first x a rest e = (0, omega arith, e)

module _ {I : Type 0} (below : I → I → Type 0) (kind : (x : Abs I) → AreOfOneKind x x) (itself : (x : Abs I) → IsBelowAbs below x x) where
  as_one : (x z : Abs I) → Some x ≡ Some z → AreOfOneKind x z × IsBelowAbs below x z
  as_one x z e =
      let same : x ≡ z = cc in
      subst (λ y. AreOfOneKind x y × IsBelowAbs below x y) same (kind x, itself x)

  least_of : (o a : Option (Abs I)) (rest : List (Option (Abs I))) → Same o (a ∷ rest) → IsLeastOver below (a ∷ rest) o
  least_of None a rest s = λ x c. let e : Some x ≡ None = found None (Some x) (a ∷ rest) s c in absurd (cc)
  least_of (Some z) a rest s = ((λ x c. as_one x z (found (Some z) (Some x) (a ∷ rest) s c)), (λ u h. (h z (first (Some z) a rest s.0)).1))

  pub joined_same : (flow a : Flowing I) (rest : List (Flowing I)) (fact : PointFact I) → Same flow (a ∷ rest) → Tells fact flow → IsJoined below (a ∷ rest) (of_fact fact)
  joined_same flow a rest fact s t = record {
    off = t.off ∙ sym (any_same (λ (x : Flowing I). x.off) flow a rest s);
    on = t.on ∙ sym (any_same (λ (x : Flowing I). x.on) flow a rest s);
    locals = λ r. subst (IsLeastOver below (map (λ (x : Flowing I). x.local r) (a ∷ rest))) (sym (t.locals r)) (least_of (flow.local r) (a.local r) (map (λ (x : Flowing I). x.local r) rest) (mapped (λ (x : Flowing I). x.local r) flow (a ∷ rest) s));
    cells = λ j. subst (IsLeastOver below (map (λ (x : Flowing I). x.cell j) (a ∷ rest))) (sym (t.cells j)) (least_of (flow.cell j) (a.cell j) (map (λ (x : Flowing I). x.cell j) rest) (mapped (λ (x : Flowing I). x.cell j) flow (a ∷ rest) s));
    pairs = λ r j. t.pairs r j ∙ sym (all_same (λ (x : Flowing I). x.pair r j) flow a rest s);
  }
