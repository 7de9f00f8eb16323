-- The structures of the program that are only named stand in front.
use Rattle.std.proofs.Common.{◌≡◌, ◌∙◌, ◌<◌, ℕ, suc, Bool, true, false, not, ◌&&◌, cond, nat_eq, List, [], ◌∷◌, ◌++◌, length, map, zip, filter, Option, Some, None, unwrap_or, is_some, refl, ap, sym, subst, arith, inl, inr}
use Rattle.std.specs.List.{list_any}
use Rattle.std.proofs.lemmas.Bool.{eqb-true}
use Rattle.cc_relocation.specs.Relocated.{member_with}
use Rattle.cc_structures.specs.Structures.{Known, Numbering, structures, numbers_of, number_of, firsts_of, is_complete, in_program_order, AreNumbered}
use Rattle.cc_structures.proofs.Elements.{In}
use Rattle.cc_structures.proofs.OrderLemmas.{filter-both, filter-all, in-filter, in-firsts, from-order}
use Rattle.cc_operands.specs.CcSyntax.Lists.{come_first}
use Rattle.cc_operands.specs.CcSyntax.Sound.{is_only_named}
use Rattle.cc_operands.specs.CcSyntax.Types.{Named}
use Rattle.cc_unit.specs.declared.unit.TypedUnit.{TypedUnit}
use Rattle.cc_relocated_units.specs.Linked.{linked, structure_of, HasMembers}
use Rattle.cc_relocated_units.proofs.ProgramOrder.{filter-passes}

any-none : {X : Type 0} (test : X → Bool) (xs : List X) → ((x : X) → In x xs → test x ≡ false) → list_any test xs ≡ false
any-none test [] h = refl
any-none test (x ∷ xs) h = rw (h x (inl refl), any-none test xs (λ y i. h y (inr i))) refl

none-first : {X : Type 0} (test : X → Bool) (xs : List X) → ((x : X) → In x xs → test x ≡ false) → come_first test xs ≡ true
none-first test [] h = refl
none-first test (x ∷ xs) h = rw (h x (inl refl), any-none test xs (λ y i. h y (inr i))) refl

module _ (numbering : Numbering) (test : Known → Bool) where
  abbrev apart : Known → Known → Bool
  apart s t = not (nat_eq (number_of numbering s) (number_of numbering t))

  firsts-first : (named complete : List Known) → ((s : Known) → In s named → test s ≡ true) → ((s : Known) → In s complete → test s ≡ false) → (p : Known → Bool) → come_first test (filter p (firsts_of numbering (named ++ complete))) ≡ true
  firsts-first [] complete passing failing p =
      none-first test (filter p (firsts_of numbering complete)) (λ x i. failing x (in-firsts numbering complete x (in-filter p (firsts_of numbering complete) x i)))
  firsts-first (s ∷ named) complete passing failing p =
      by (p s) (ap (come_first test) (filter-both p (apart s) (firsts_of numbering (named ++ complete))) ∙ firsts-first named complete (λ x i. passing x (inr i)) failing (λ x. apart s x && p x))
    where
      by : (b : Bool) → come_first test (filter p (filter (apart s) (firsts_of numbering (named ++ complete)))) ≡ true →
          come_first test (cond b (s ∷ filter p (filter (apart s) (firsts_of numbering (named ++ complete)))) (filter p (filter (apart s) (firsts_of numbering (named ++ complete))))) ≡ true
      by true h = rw (passing s (inl refl)) h
      by false h = h

never-zero : (n : ℕ) → nat_eq (suc n) 0 ≡ false
never-zero n = by (nat_eq (suc n) 0) refl
  where
    by : (b : Bool) → nat_eq (suc n) 0 ≡ b → nat_eq (suc n) 0 ≡ false
    by true e = let same = eqb-true (suc n) 0 e in absurd (omega (arith, same))
    by false e = e

-- a structure of the program has members where it is complete
only-named : (numbers : List ℕ) (o : Option (List Named)) → (is_some o ≡ true → 0 < length (unwrap_or o [])) → nat_eq (length (map (member_with numbers) (unwrap_or o []))) 0 ≡ not (is_some o)
only-named numbers None h = refl
only-named numbers (Some []) h = let low = h refl in absurd (omega (arith, low))
only-named numbers (Some (m ∷ ms)) h = never-zero (length (map (member_with numbers) ms))

module _ {A B C : Type 0} (g : A × B → C) (new : C → Bool) (old : B → Bool) where
  any-mapped : (ts : List A) (fs : List B) → length ts ≡ length fs → ((t : A) (f : B) → In f fs → new (g (t, f)) ≡ old f) → list_any new (map g (zip ts fs)) ≡ list_any old fs
  any-mapped [] [] h same = refl
  any-mapped [] (f ∷ fs) h same = absurd (omega (arith, h))
  any-mapped (t ∷ ts) [] h same = absurd (omega (arith, h))
  any-mapped (t ∷ ts) (f ∷ fs) h same = rw (same t f (inl refl), any-mapped ts fs (omega (arith, h)) (λ u x i. same u x (inr i))) refl

  first-mapped : (ts : List A) (fs : List B) → length ts ≡ length fs → ((t : A) (f : B) → In f fs → new (g (t, f)) ≡ old f) → come_first new (map g (zip ts fs)) ≡ come_first old fs
  first-mapped [] [] h same = refl
  first-mapped [] (f ∷ fs) h same = absurd (omega (arith, h))
  first-mapped (t ∷ ts) [] h same = absurd (omega (arith, h))
  first-mapped (t ∷ ts) (f ∷ fs) h same =
      rw (same t f (inl refl), first-mapped ts fs (omega (arith, h)) (λ u x i. same u x (inr i)), any-mapped ts fs (omega (arith, h)) (λ u x i. same u x (inr i))) refl

pub named-first : (units : List TypedUnit) (numbering : Numbering) (firsts : List Known) (tags : List (List ℕ)) → AreNumbered units numbering firsts → length tags ≡ length firsts →
    ((s : Known) → In s (structures units) → HasMembers s.structure) → come_first is_only_named (linked numbering tags firsts) ≡ true
named-first units numbering firsts tags are as_many members =
    first-mapped (structure_of numbering) is_only_named (λ (s : Known). not (is_complete s)) tags firsts as_many (λ t f i.
    only-named (numbers_of numbering f.text) f.structure.members (members f (from-order (structures units) f (in-firsts numbering (in_program_order units) f (subst (In f) are.first i)))))
    ∙ (ap (come_first (λ (s : Known). not (is_complete s))) (are.first ∙ sym (filter-all (λ (k : Known). true) (firsts_of numbering (in_program_order units)) (λ k i. refl)))
    ∙ firsts-first numbering (λ (s : Known). not (is_complete s)) (filter (λ (s : Known). not (is_complete s)) (structures units)) (filter is_complete (structures units))
    (λ s i. filter-passes (λ (s : Known). not (is_complete s)) (structures units) s i) (λ s i. ap not (filter-passes is_complete (structures units) s i)) (λ (k : Known). true))
