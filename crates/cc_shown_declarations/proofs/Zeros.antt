-- Leaves that are all zero or null are first values of any type; and what an object's first values are, where some are left out.
use Rattle.std.proofs.Common.{◌≡◌, ℕ, ℤ, pos, zero, suc, Bool, true, false, ◌&&◌, inl, inr, List, [], ◌∷◌, map, replicate, refl, ap, sym, ◌∙◌, subst}
use Rattle.std.specs.Prelude.{if◌then◌else◌}
use Rattle.std.specs.List.{list_all}
use Rattle.std.specs.Ordering.{int_eq}
use Rattle.std.proofs.lemmas.Bool.Decides.{Decides-int_eq}
use Rattle.cc_program.specs.CcNum.declared.int_type.IntType.{IntType}
use Rattle.cc_program.specs.CcNum.Integers.{is_value_of}
use Rattle.cc_operand_types.proofs.Constants.{truth_fits}
use Rattle.cc_type.specs.CcTypedTerms.Primary.{leaves_or_none}
use Rattle.cc_program.specs.declared.program.Program.{Program}
use Rattle.cc_program.specs.declared.types.CType.{CType}
use Rattle.cc_program.specs.declared.value.Address.{Address}
use Rattle.cc_program.specs.declared.value.Address.TheVariants as address
use Rattle.cc_program.specs.declared.value.Leaf.{Leaf}
use Rattle.cc_program.specs.declared.value.Leaf.TheVariants as leaf
use Rattle.cc_type.specs.CcSyntax.Initial.{is_zero, OfInteger, OfPointer, OfArray, OfStructure, NoElement, Element, NoMember, Member}
use Rattle.cc_type.specs.CcSyntax.Programs.{AreLeaves, AreElements, AreMembers, is_address, IsInitial}
use Rattle.cc_type.specs.CcSyntax.Types.{Named}
use Rattle.cc_type.specs.CcSyntax.Values.{pointer_to}
use Rattle.cc_type.proofs.CcSyntax.Prefixes.{both_true}
use Rattle.cc_tree.specs.declared.at.At.{At}
use Rattle.cc_tree.specs.declared.unit.Given.{Given}
use Rattle.cc_unit_trees.specs.Values.{ShowsGiven, ShowsNumber, ShowsPointer, ShowsArray, ShowsStructure, ShowsEach, ShowsNone, ShowsMore, StartsWith}
use Rattle.cc_shown_expressions.specs.OperationNumbers.{Numbers}
use Rattle.cc_shown_declarations.specs.Numbers.{leaf_numbered}

zero-value : (p : Program) (i : IntType) (n : ℤ) → int_eq n (pos 0) ≡ true → is_value_of i p.target n ≡ true
zero-value p i n h = subst (λ (k : ℤ). is_value_of i p.target k ≡ true) (sym ((Decides-int_eq n (pos 0)).0 h)) (truth_fits i p.target false)

module _ (p : Program) where
  null-address : (to : CType) (a : Address) → is_zero (leaf.Place a) ≡ true → is_address p (pointer_to to) a ≡ true
  null-address to address.Null h = refl
  null-address to (address.Func i) h = absurd (cc)
  null-address to (address.At object path index count) h = absurd (cc)

  abbrev AllZero : List Leaf → Type 0
  AllZero ls = list_all is_zero ls ≡ true

  mutual
    pub zeros : (t : CType) (ls rest : List Leaf) (g : Given) → ShowsGiven p t ls rest g → AllZero ls → AreLeaves p t ls rest × AllZero rest
    zeros _ _ _ _ (ShowsNumber t i n rest x e h) z =
        let q = both_true (int_eq n (pos 0)) (list_all is_zero rest) z in
        (OfInteger t i n rest e (zero-value p i n q.0), q.1)
    zeros _ _ _ _ (ShowsPointer t to a rest x e h) z =
        let q = both_true (is_zero (leaf.Place a)) (list_all is_zero rest) z in
        (OfPointer t to a rest e (null-address to a q.0), q.1)
    zeros _ _ _ _ (ShowsArray t of n ls rest gs e h) z =
        let q = zero-elements of n (replicate n of) ls rest gs h refl z in
        (OfArray t of n ls rest e q.0, q.1)
    zeros _ _ _ _ (ShowsStructure t i r ls rest gs e there h) z =
        let q = zero-members r.members (map (λ (l : Named). l.1) r.members) ls rest gs h refl z in
        (OfStructure t i r ls rest e there q.0, q.1)

    zero-elements : (of : CType) (n : ℕ) (ts : List CType) (ls rest : List Leaf) (gs : List (At Given)) → ShowsEach p ts ls rest gs → ts ≡ replicate n of → AllZero ls → AreElements p of n ls rest × AllZero rest
    zero-elements of zero _ _ _ _ (ShowsNone rest) e z = (NoElement of rest, z)
    zero-elements of (suc n) _ _ _ _ (ShowsNone rest) e z = absurd (cc)
    zero-elements of zero _ _ _ _ (ShowsMore t ts ls between rest g gs hg hs) e z = absurd (cc)
    zero-elements of (suc n) _ _ _ _ (ShowsMore t ts ls between rest g gs hg hs) e z =
        let head : t ≡ of = cc in
        let tail : ts ≡ replicate n of = cc in
        let q = zeros t ls between g.node hg z in
        let r = zero-elements of n ts between rest gs hs tail q.1 in
        (Element of n ls between rest (subst (λ (u : CType). AreLeaves p u ls between) head q.0) r.0, r.1)

    zero-members : (ms : List Named) (ts : List CType) (ls rest : List Leaf) (gs : List (At Given)) → ShowsEach p ts ls rest gs → ts ≡ map (λ (l : Named). l.1) ms → AllZero ls → AreMembers p ms ls rest × AllZero rest
    zero-members [] _ _ _ _ (ShowsNone rest) e z = (NoMember rest, z)
    zero-members (m ∷ ms) _ _ _ _ (ShowsNone rest) e z = absurd (cc)
    zero-members [] _ _ _ _ (ShowsMore t ts ls between rest g gs hg hs) e z = absurd (cc)
    zero-members (m ∷ ms) _ _ _ _ (ShowsMore t ts ls between rest g gs hg hs) e z =
        let head : t ≡ m.1 = cc in
        let tail : ts ≡ map (λ (l : Named). l.1) ms = cc in
        let q = zeros t ls between g.node hg z in
        let r = zero-members ms ts between rest gs hs tail q.1 in
        (Member m ms ls between rest (subst (λ (u : CType). AreLeaves p u ls between) head q.0) r.0, r.1)

  -- ---- those with which an object starts

  -- what is shown of an object's first values fits its type
  pub start-fits : (t : CType) (ls own : List Leaf) (g : Given) → IsInitial p t own → StartsWith p ls own → ShowsGiven p t ls [] g → AreLeaves p t ls []
  start-fits t ls own g (inl none) (inl same) h = (zeros t ls [] g h (ap (list_all is_zero) (same ∙ none))).0
  start-fits t ls own g (inr fits) (inl same) h = subst (λ (ls : List Leaf). AreLeaves p t ls []) (sym same) fits.0
  start-fits t ls own g initial (inr z) h = (zeros t ls [] g h z.1).0

  zero-numbered : (n : Numbers) (l : Leaf) → is_zero (leaf_numbered n l) ≡ is_zero l
  zero-numbered n (leaf.Int k) = refl
  zero-numbered n (leaf.Place address.Null) = refl
  zero-numbered n (leaf.Place (address.Func f)) = refl
  zero-numbered n (leaf.Place (address.At object path index count)) = refl

  zeros-numbered : (n : Numbers) (ls : List Leaf) → list_all is_zero (map (leaf_numbered n) ls) ≡ list_all is_zero ls
  zeros-numbered n [] = refl
  zeros-numbered n (l ∷ ls) = ap (λ (b : Bool). b && list_all is_zero (map (leaf_numbered n) ls)) (zero-numbered n l) ∙ ap (λ (b : Bool). is_zero l && b) (zeros-numbered n ls)

  or-none : (ls : List Leaf) (b : Bool) → list_all is_zero ls ≡ b → leaves_or_none ls ≡ (if b then [] else ls)
  or-none ls b h = ap (λ (c : Bool). if c then [] else ls) h

  -- and the object keeps those that it has
  pub start-kept : (n : Numbers) (t : CType) (ls own : List Leaf) → IsInitial p t own → StartsWith p ls own → leaves_or_none (map (leaf_numbered n) ls) ≡ map (leaf_numbered n) own
  start-kept n t ls own (inl none) (inl same) =
      or-none (map (leaf_numbered n) ls) true (zeros-numbered n ls ∙ ap (list_all is_zero) (same ∙ none)) ∙ sym (ap (map (leaf_numbered n)) none)
  start-kept n t ls own (inr fits) (inl same) =
      or-none (map (leaf_numbered n) ls) false (zeros-numbered n ls ∙ ap (list_all is_zero) same ∙ fits.1) ∙ ap (map (leaf_numbered n)) same
  start-kept n t ls own initial (inr z) =
      or-none (map (leaf_numbered n) ls) true (zeros-numbered n ls ∙ z.1) ∙ sym (ap (map (leaf_numbered n)) z.0)
