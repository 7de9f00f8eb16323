-- First values by the places of an order are first values of the program with the objects of that order, where they name no others.
use Rattle.std.proofs.Common.{◌≡◌, ◌∙◌, ◌∷◌, ◌&&◌, inl, inr, arith, ℕ, suc, true, List, [], length, map, Option, Some, None, option_map, slice_get, refl, ap, sym}
use Rattle.std.specs.List.{All, list_all}
use Rattle.std.proofs.lemmas.Option.{slice_get-map}
use Rattle.cc_lower_numbers.specs.Order.{place_in}
use Rattle.cc_program.specs.declared.func.Func.{Func}
use Rattle.cc_program.specs.declared.object.Object.{Object}
use Rattle.cc_program.specs.declared.program.Program.{Program}
use Rattle.cc_program.specs.declared.types.CType.{CType}
use Rattle.cc_program.specs.declared.value.Address.{Address}
use Rattle.cc_program.specs.declared.value.Address.TheVariants as address
use Rattle.cc_program.specs.declared.value.Leaf.{Leaf}
use Rattle.cc_program.specs.declared.value.Leaf.TheVariants as leaf
use Rattle.cc_program.specs.declared.value.Root.TheVariants as root
use Rattle.cc_eval.specs.CcSyntax.Expressions.{of_one}
use Rattle.cc_eval.specs.CcSyntax.Initial.{place_at, names, is_zero, is_address, AreLeaves, AreElements, AreMembers, OfInteger, OfPointer, OfArray, OfStructure, NoElement, Element, NoMember, Member, IsInitial}
use Rattle.cc_eval.specs.CcSyntax.Operators.{function_type}
use Rattle.cc_eval.specs.CcSyntax.Types.{Named}
use Rattle.cc_eval.specs.CcSyntax.Values.{ValueType, PlaceType, pointer_to, is_assignable_some, object_place}
use Rattle.cc_eval.specs.CcSyntax.Views.{View, of_program}
use Rattle.cc_rewrite_renamed.specs.Names.{names_in_address, names_in_leaf}
use Rattle.cc_rewrite_renamed.specs.Objects.{address_renamed, leaf_renamed, func_renamed}
use Rattle.cc_rewrite_renamed.specs.Orders.{is_in, NamesInObject, IsOrderOf}
use Rattle.cc_rewrite_renamed.proofs.Places.{static_same}
use Rattle.cc_rewrite_renamed.proofs.Sources.{leads_back, number, ordered, renamed}

module _ (order : List ℕ) (p : Program) (h : IsOrderOf order p) where
  abbrev place : ℕ → ℕ
  place i = place_in 0 order i

  abbrev v : View
  v = of_program p

  abbrev w : View
  w = of_program (ordered order p h)

  statics_same : (i : ℕ) → is_in order i ≡ true → w.statics (place i) ≡ v.statics i
  statics_same i k =
      sym (static_same (number order p h) p.objects (ordered order p h) (renamed order p h) (place i))
      ∙ ap (λ (n : ℕ). option_map (λ (o : Object). object_place o.ctype) (slice_get p.objects n)) (leads_back order (length p.objects) i k)

  function_same : (f : Option Func) → function_type (option_map (func_renamed (place_in 0 order)) f) ≡ function_type f
  function_same None = refl
  function_same (Some f) = refl

  pub functions_same : (i : ℕ) → w.functions i ≡ v.functions i
  functions_same i = ap function_type (slice_get-map (func_renamed (place_in 0 order)) p.funcs i) ∙ function_same (slice_get p.funcs i)

  address_same : (to : ValueType) (a : Address) → names_in_address (is_in order) a ≡ true → is_address w to (address_renamed (place_in 0 order) a) ≡ is_address v to a
  address_same to address.Null k = refl
  address_same to (address.Func f) k = ap (is_assignable_some (Some to)) (functions_same f)
  address_same to (address.At (root.Static i) path index count) k = ap (λ (t : Option PlaceType). names to path index count (of_one t (place_at v.structures path))) (statics_same i k)
  address_same to (address.At (root.Auto number func local) path index count) k = refl

  abbrev change : Leaf → Leaf
  change l = leaf_renamed (place_in 0 order) l

  abbrev AreIn : List Leaf → Type 0
  AreIn [] = Unit {0}
  AreIn (l ∷ ls) = (names_in_leaf (is_in order) l ≡ true) × AreIn ls

  mutual
    leaves_same : (t : CType) (leaves rest : List Leaf) → AreLeaves v t leaves rest → AreIn leaves → AreLeaves w t (map change leaves) (map change rest) × AreIn rest
    leaves_same _ _ _ (OfInteger t i n rest e k) a = (OfInteger t i n (map change rest) e k, a.1)
    leaves_same _ _ _ (OfPointer t to x rest e k) a = (OfPointer t to (address_renamed (place_in 0 order) x) (map change rest) e (address_same (pointer_to to) x a.0 ∙ k), a.1)
    leaves_same _ _ _ (OfArray t of n leaves rest e q) a = let s = elements_same of n leaves rest q a in (OfArray t of n (map change leaves) (map change rest) e s.0, s.1)
    leaves_same _ _ _ (OfStructure t i s leaves rest e k q) a = let u = members_same s.members leaves rest q a in (OfStructure t i s (map change leaves) (map change rest) e k u.0, u.1)

    elements_same : (of : CType) (n : ℕ) (leaves rest : List Leaf) → AreElements v of n leaves rest → AreIn leaves → AreElements w of n (map change leaves) (map change rest) × AreIn rest
    elements_same _ _ _ _ (NoElement of rest) a = (NoElement of (map change rest), a)
    elements_same _ _ _ _ (Element of n leaves between rest x y) a =
        let s = leaves_same of leaves between x a in let u = elements_same of n between rest y s.1 in (Element of n (map change leaves) (map change between) (map change rest) s.0 u.0, u.1)

    members_same : (ms : List Named) (leaves rest : List Leaf) → AreMembers v ms leaves rest → AreIn leaves → AreMembers w ms (map change leaves) (map change rest) × AreIn rest
    members_same _ _ _ (NoMember rest) a = (NoMember (map change rest), a)
    members_same _ _ _ (Member m ms leaves between rest x y) a =
        let s = leaves_same m.1 leaves between x a in let u = members_same ms between rest y s.1 in (Member m ms (map change leaves) (map change between) (map change rest) s.0 u.0, u.1)

  zero_same : (l : Leaf) → is_zero (change l) ≡ is_zero l
  zero_same (leaf.Int n) = refl
  zero_same (leaf.Place address.Null) = refl
  zero_same (leaf.Place (address.Func f)) = refl
  zero_same (leaf.Place (address.At object path index count)) = refl

  zeros_same : (ls : List Leaf) → list_all is_zero (map change ls) ≡ list_all is_zero ls
  zeros_same [] = refl
  zeros_same (l ∷ ls) = λ i. zero_same l i && zeros_same ls i

  are_in : (ls : List Leaf) → All (λ l. names_in_leaf (is_in order) l ≡ true) ls → AreIn ls
  are_in [] a = tt
  are_in (l ∷ ls) a = (a 0 l (omega arith), are_in ls (λ k d lt. a (suc k) d (omega (arith, lt))))

  pub initial_same : (o : Object) → NamesInObject order o → IsInitial v o.ctype o.init → IsInitial w o.ctype (map change o.init)
  initial_same o k (inl e) = inl (ap (map change) e)
  initial_same o k (inr (x, n)) = inr ((leaves_same o.ctype o.init [] x (are_in o.init k)).0, zeros_same o.init ∙ n)
