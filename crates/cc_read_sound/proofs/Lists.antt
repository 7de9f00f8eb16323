-- Names that have linkage: which entry they speak of, where more is declared behind, and where an entry is told more of.
use Rattle.std.proofs.Common.{arith, ◌≡◌, ◌+◌, ℕ, zero, suc, Bool, true, false, ◌&&◌, List, [], ◌∷◌, ◌++◌, length, Option, Some, None, refl, ap, sym, ◌∙◌, subst}
use Rattle.std.specs.Prelude.{slice_get, if◌then◌else◌}
use Rattle.std.specs.Str.{bytes_eq}
use Rattle.std.proofs.lemmas.Slice.Eq.{bytes_eq-Decides}
use Rattle.cc_type.specs.CcScopes.Linked.{has_name, is_linked, linked_from}
use Rattle.cc_type.specs.CcScopes.State.{Name, change_at}
use Rattle.cc_type.specs.CcScopes.declared.unit.Declared.{Declared}
use Rattle.cc_type.proofs.CcSyntax.Prefixes.{both_true}

pub same_some : {A : Type 0} (a b : A) → Some a ≡ Some b → a ≡ b
same_some a b h = cc

-- ---- one that is found stays found

pub linked_front : (j : ℕ) (x : Name) (xs ys : List Declared) (i : ℕ) → linked_from j x xs ≡ Some i → linked_from j x (xs ++ ys) ≡ Some i
linked_front j x [] ys i h = absurd (cc)
linked_front j x (d ∷ ds) ys i h = of_test (is_linked d.linkage && has_name x d.name) h (linked_front (suc j) x ds ys i)
  where
    of_test : (b : Bool) → (if b then Some j else linked_from (suc j) x ds) ≡ Some i → (linked_from (suc j) x ds ≡ Some i → linked_from (suc j) x (ds ++ ys) ≡ Some i) → (if b then Some j else linked_from (suc j) x (ds ++ ys)) ≡ Some i
    of_test true h f = h
    of_test false h f = f h

-- ---- a new one is found

pub linked_last : (j : ℕ) (x : Name) (xs : List Declared) (d : Declared) → linked_from j x xs ≡ None → is_linked d.linkage ≡ true → has_name x d.name ≡ true → linked_from j x (xs ++ d ∷ []) ≡ Some (j + length xs)
linked_last j x [] d h l n =
    let e : j ≡ j + 0 = omega arith in
    ap (λ (b : Bool). if b then Some j else None) (both (is_linked d.linkage) (has_name x d.name) l n) ∙ ap Some e
  where
    both : (a b : Bool) → a ≡ true → b ≡ true → a && b ≡ true
    both true b h k = k
    both false b h k = absurd (cc)
linked_last j x (c ∷ xs) d h l n = of_test (is_linked c.linkage && has_name x c.name) h (λ k. linked_last (suc j) x xs d k l n)
  where
    of_test : (b : Bool) → (if b then Some j else linked_from (suc j) x xs) ≡ None → (linked_from (suc j) x xs ≡ None → linked_from (suc j) x (xs ++ d ∷ []) ≡ Some (suc j + length xs)) →
        (if b then Some j else linked_from (suc j) x (xs ++ d ∷ [])) ≡ Some (j + suc (length xs))
    of_test true h f = absurd (cc)
    of_test false h f = let e : suc j + length xs ≡ j + suc (length xs) = omega arith in f h ∙ ap Some e

-- ---- where an entry keeps its name and its linkage

pub record KeepsName (d e : Declared) : Type 0 where
  pub name : e.name ≡ d.name
  pub linkage : e.linkage ≡ d.linkage

pub linked_changed : (j : ℕ) (x : Name) (xs : List Declared) (i : ℕ) (change : Declared → Declared) → ((d : Declared) → KeepsName d (change d)) → linked_from j x (change_at i change xs) ≡ linked_from j x xs
linked_changed j x [] i change f = refl
linked_changed j x (d ∷ ds) zero change f =
    ap (λ (o : Option Name). if is_linked (change d).linkage && has_name x o then Some j else linked_from (suc j) x ds) (f d).name
    ∙ ap (λ l. if is_linked l && has_name x d.name then Some j else linked_from (suc j) x ds) (f d).linkage
linked_changed j x (d ∷ ds) (suc i) change f =
    ap (λ (o : Option ℕ). if is_linked d.linkage && has_name x d.name then Some j else o) (linked_changed (suc j) x ds i change f)

-- ---- what is found has the name

pub record IsLinkedAt (x : Name) (names : List Declared) (n : ℕ) : Type 0 where
  pub declared : Declared
  pub at : slice_get names n ≡ Some declared
  pub named : declared.name ≡ Some x
  pub linked : is_linked declared.linkage ≡ true

same_named : (x : Name) (o : Option Name) → has_name x o ≡ true → o ≡ Some x
same_named x None h = absurd (cc)
same_named x (Some y) h = ap Some (sym ((bytes_eq-Decides x y).0 h))

pub has_own_name : (x : Name) (o : Option Name) → o ≡ Some x → has_name x o ≡ true
has_own_name x o e = ap (has_name x) e ∙ (bytes_eq-Decides x x).1 refl

record IsFound (x : Name) (ds : List Declared) (i n : ℕ) : Type 0 where
  before : ℕ
  place : n ≡ i + before
  there : IsLinkedAt x ds before

found_from : (x : Name) (ds : List Declared) (i n : ℕ) → linked_from i x ds ≡ Some n → IsFound x ds i n
found_from x [] i n h = absurd (cc)
found_from x (d ∷ ds) i n h = of_test (is_linked d.linkage && has_name x d.name) refl h (found_from x ds (suc i) n)
  where
    here : is_linked d.linkage && has_name x d.name ≡ true → i ≡ n → IsFound x (d ∷ ds) i n
    here e f =
        let b = both_true (is_linked d.linkage) (has_name x d.name) e in
        record { before = 0; place = omega (arith, f); there = record { declared = d; at = refl; named = same_named x d.name b.1; linked = b.0 } }

    later : IsFound x ds (suc i) n → IsFound x (d ∷ ds) i n
    later f = let p = f.place in record { before = suc f.before; place = omega (arith, p); there = record { declared = f.there.declared; at = f.there.at; named = f.there.named; linked = f.there.linked } }

    of_test : (b : Bool) → is_linked d.linkage && has_name x d.name ≡ b → (if b then Some i else linked_from (suc i) x ds) ≡ Some n → (linked_from (suc i) x ds ≡ Some n → IsFound x ds (suc i) n) → IsFound x (d ∷ ds) i n
    of_test true e g f = here e (same_some i n g)
    of_test false e g f = later (f g)

pub linked_there : (x : Name) (names : List Declared) (n : ℕ) → linked_from 0 x names ≡ Some n → IsLinkedAt x names n
linked_there x names n h =
    let f = found_from x names 0 n h in
    let p = f.place in
    let e : f.before ≡ n = omega (arith, p) in
    subst (IsLinkedAt x names) e f.there
