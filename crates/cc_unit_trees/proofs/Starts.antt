-- The two cases of an object's first values: it has leaves of its own, or all its scalars start as zero or null, and the
-- text has a zero or null for each.
use Rattle.std.proofs.Common.{arith, ◌≡◌, ◌<◌, ◌-◌, inl, inr, ℕ, zero, suc, ℤ, pos, ◌≤ℤ◌, Bool, true, false, nat_eq, cond, List, [], ◌∷◌, ◌++◌, take, length, length-append, Option, Some, None, slice_get, refl, ap, sym, ◌∙◌, subst, append_assoc, true≢false}
use Rattle.std.proofs.lemmas.Bool.Decides.{nat_tests, Decides-int_eq}
use Rattle.std.proofs.lemmas.Int.{ints}
use Rattle.std.proofs.Math.Seq.{take-length}
use Rattle.std.specs.List.{All, list_all}
use Rattle.cc_program.specs.CcNum.declared.int_type.IntType.{IntType}
use Rattle.cc_program.specs.CcNum.declared.int_type.IntType.TheVariants as int
use Rattle.cc_program.specs.CcNum.declared.target.Target.{Target}
use Rattle.cc_program.specs.CcNum.Integers.{is_signed, bits_of, least_of_bits, most_of_bits, is_value_of}
use Rattle.cc_program.proofs.CcNum.ResultLaws.{is_value_from}
use Rattle.cc_lex.proofs.Booleans.{and-true, both-true}
use Rattle.cc_pieces.specs.Constants.{constant}
use Rattle.cc_pieces.specs.Pieces.{Pieces, flat}
use Rattle.cc_expression_trees.specs.Parts.{Fits}
use Rattle.cc_print.specs.Values.{Filled, filled, scalar, int_leaf, pointer_leaf, address_text, filler, value}
use Rattle.cc_program.specs.declared.object.Object.{Object}
use Rattle.cc_program.specs.declared.program.Program.{Program}
use Rattle.cc_program.specs.declared.types.CType.{CType}
use Rattle.cc_program.specs.declared.types.Shape.{Shape, out-Shape, roll-Shape, out-roll-Shape}
use Rattle.cc_program.specs.declared.types.Shape.TheOpen as shape
use Rattle.cc_program.specs.declared.types.Sig.{Sig, roll-Sig}
use Rattle.cc_program.specs.declared.types.Structure.{Structure}
use Rattle.cc_program.specs.declared.value.Address.{Address}
use Rattle.cc_program.specs.declared.value.Address.TheVariants as address
use Rattle.cc_program.specs.declared.value.Leaf.{Leaf}
use Rattle.cc_program.specs.declared.value.Leaf.TheVariants as leaf
use Rattle.cc_program.proofs.TypeInduction.{with_shape, TypeParts, SigParts, by_type}
use Rattle.cc_typed.specs.CcSyntax.Initial.{OfInteger, OfPointer, OfArray, OfStructure, NoElement, Element, NoMember, Member, is_zero}
use Rattle.cc_typed.specs.CcSyntax.Programs.{IsInitial, AreLeaves, AreElements, AreMembers}
use Rattle.cc_typed.specs.CcSyntax.Sound.{is_object, IsSound}
use Rattle.cc_typed.specs.CcSyntax.Types.{Named, has_members, is_complete}
use Rattle.cc_typed.proofs.CcSyntax.Parts.{all_at}
use Rattle.cc_typed.proofs.CcSyntax.Prefixes.{get_taken}
use Rattle.cc_tree.specs.declared.unit.Given.{Given}
use Rattle.cc_expression_trees.specs.Soft.{IsSoft}
use Rattle.cc_unit_trees.specs.ValueNames.{HasUnitNames}
use Rattle.cc_unit_trees.specs.ReadValues.{ReadsGiven}
use Rattle.cc_unit_trees.specs.Values.{ShowsGiven, ShowsInitial, ShowsFirst}
use Rattle.cc_unit_trees.proofs.Givens.{IsSource, Fills, given-fills, all-head, all-tail}
use Rattle.cc_unit_trees.proofs.Known.{all-at, array-complete, structure-complete, no-void, no-func, in-order, complete-object}

-- ---- leaves of its own

suc-other : (k : ℕ) → nat_eq (suc k) 0 ≡ false
suc-other k = grind (arith, nat_tests)

module _ (p : Program) (leaves : List Leaf) where
  scalar-some : (value : Option Leaf → Pieces → Pieces) (n k : ℕ) → n ≡ suc k → (ps : Pieces) → scalar p leaves value n ps ≡ filled k (value (slice_get leaves k) ps)
  scalar-some value n k e ps =
      let less : suc k - 1 ≡ k = omega arith in
      ap (λ (j : ℕ). scalar p leaves value j ps) e
      ∙ ap (λ (t : Bool). cond t (filled 0 (value None ps)) (filled (suc k - 1) (value (slice_get leaves (suc k - 1)) ps))) (suc-other k)
      ∙ ap (λ (j : ℕ). filled j (value (slice_get leaves j) ps)) less

  abbrev Own : List Leaf → Type 0
  Own xs = (front : List Leaf) × (leaves ≡ front ++ xs)

  abbrev own_left : List Leaf → ℕ
  own_left xs = length leaves - length xs

  get-at : (front : List Leaf) (x : Leaf) (rest : List Leaf) → slice_get (front ++ x ∷ rest) (length front) ≡ Some x
  get-at [] x rest = refl
  get-at (y ∷ front) x rest = get-at front x rest

  own-scalar : (value : Option Leaf → Pieces → Pieces) (l : Leaf) (rest : List Leaf) → Own (l ∷ rest) → (ps : Pieces) → scalar p leaves value (own_left rest) ps ≡ filled (own_left (l ∷ rest)) (value (Some l) ps)
  own-scalar value l rest h ps =
      let n : length leaves ≡ length (h.0 ++ l ∷ rest) = ap length h.1 in
      let m = length-append h.0 (l ∷ rest) in
      let more : own_left rest ≡ suc (length h.0) = omega (arith, n, m) in
      let here : length h.0 ≡ own_left (l ∷ rest) = omega (arith, n, m) in
      let got : slice_get leaves (length h.0) ≡ Some l = ap (λ ls. slice_get ls (length h.0)) h.1 ∙ get-at h.0 l rest in
      scalar-some value (own_left rest) (length h.0) more ps ∙ ap (λ (o : Option Leaf). filled (length h.0) (value o ps)) got ∙ ap (λ (k : ℕ). filled k (value (Some l) ps)) here

  own-source : IsSource p leaves Own own_left
  own-source = record {
    tails = λ l rest h. (h.0 ++ l ∷ [], h.1 ∙ sym (append_assoc h.0 (l ∷ []) rest));
    ints = λ i n rest h ps. own-scalar (int_leaf p i) (leaf.Int n) rest h ps;
    places = λ to a rest h ps. own-scalar (pointer_leaf p to) (leaf.Place a) rest h ps;
  }

-- ---- none: all are zero or null

abbrev AllZero : List Leaf → Type 0
AllZero xs = list_all is_zero xs ≡ true

abbrev none_left : List Leaf → ℕ
none_left xs = 0

zero-number : (n : ℤ) → is_zero (leaf.Int n) ≡ true → n ≡ pos 0
zero-number n h = (Decides-int_eq n (pos 0)).0 h

module _ (p : Program) where
  zero-place : (to : CType) (a : Address) → is_zero (leaf.Place a) ≡ true → (ps : Pieces) → pointer_leaf p to None ps ≡ address_text p to a ps
  zero-place to address.Null h ps = refl
  zero-place to (address.Func i) h ps = absurd (true≢false (sym h))
  zero-place to (address.At object path index count) h ps = absurd (true≢false (sym h))

  zero-source : IsSource p [] AllZero none_left
  zero-source = record {
    tails = λ l rest h. (and-true (is_zero l) (list_all is_zero rest) h).1;
    ints = λ i n rest h ps. ap (λ (k : ℤ). filled 0 (constant p.target k i ps)) (sym (zero-number n (and-true (is_zero (leaf.Int n)) (list_all is_zero rest) h).0));
    places = λ to a rest h ps. ap (filled 0) (zero-place to a (and-true (is_zero (leaf.Place a)) (list_all is_zero rest) h).0 ps);
  }

-- ---- each complete type has such leaves

zero-least : (s : Bool) (w : ℕ) → least_of_bits s w ≤ℤ pos 0
zero-least true w = omega (arith, ints)
zero-least false w = omega (arith, ints)

zero-most : (s : Bool) (w : ℕ) → pos 0 ≤ℤ most_of_bits s w
zero-most true w = omega (arith, ints)
zero-most false w = omega (arith, ints)

zero-value : (t : IntType) (target : Target) → is_value_of t target (pos 0) ≡ true
zero-value int.Bool target = is_value_from int.Bool target (pos 0) (record { least = omega (arith, ints); most = omega (arith, ints) })
zero-value t target = is_value_from t target (pos 0) (record { least = zero-least (is_signed t target) (bits_of t target); most = zero-most (is_signed t target) (bits_of t target) })

module _ (p : Program) (sound : IsSound p) where
  abbrev known : ℕ → List Structure
  known k = take k p.structures

  record Zeros (A : List Leaf → List Leaf → Type 0) (rest : List Leaf) : Type 0 where
    leaves : List Leaf
    are : A leaves rest
    zeros : AllZero rest → AllZero leaves

  abbrev HasZeros : ℕ → CType → Type 0
  HasZeros k t = is_complete (known k) t ≡ true → (rest : List Leaf) → Zeros (AreLeaves p t) rest

  abbrev Any : Sig → Type 0
  Any s = Unit {0}

  element-zeros : (k : ℕ) (of : CType) → HasZeros k of → is_complete (known k) of ≡ true → (n : ℕ) (rest : List Leaf) → Zeros (AreElements p of n) rest
  element-zeros k of h c zero rest = record { leaves = rest; are = NoElement of rest; zeros = λ z. z }
  element-zeros k of h c (suc n) rest =
      let more = element-zeros k of h c n rest in
      let first = h c more.leaves in
      record { leaves = first.leaves; are = Element of n first.leaves more.leaves rest first.are more.are; zeros = λ z. first.zeros (more.zeros z) }

  member-zeros : (i : ℕ) → ((t : CType) → HasZeros i t) → (ms : List Named) → All (λ l. is_complete (known i) l.1 ≡ true) ms → (rest : List Leaf) → Zeros (AreMembers p ms) rest
  member-zeros i h [] c rest = record { leaves = rest; are = NoMember rest; zeros = λ z. z }
  member-zeros i h (l ∷ ms) c rest =
      let more = member-zeros i h ms (all-tail (λ l. is_complete (known i) l.1 ≡ true) l ms c) rest in
      let first = h l.1 (all-head (λ l. is_complete (known i) l.1 ≡ true) l ms c) more.leaves in
      record { leaves = first.leaves; are = Member l ms first.leaves more.leaves rest first.are more.are; zeros = λ z. first.zeros (more.zeros z) }

  structure-zeros : (k : ℕ) → ((i : ℕ) → i < k → (t : CType) → HasZeros i t) → (t : CType) (i : ℕ) → out-Shape t.shape ≡ shape.Struct i → (o : Option Structure) → slice_get (known k) i ≡ o → has_members o ≡ true → (rest : List Leaf) → Zeros (AreLeaves p t) rest
  structure-zeros k before t i e None f h rest = absurd (true≢false (sym h))
  structure-zeros k before t i e (Some s) f h rest =
      let g = get_taken p.structures k i s f in
      let z = member-zeros i (before i g.0) s.members (in-order p sound i s g.1) rest in
      record { leaves = z.leaves; are = OfStructure t i s z.leaves rest e g.1 z.are; zeros = z.zeros }

  zeros-made : (k : ℕ) → ((i : ℕ) → i < k → (t : CType) → HasZeros i t) → (c v : Bool) (x : shape.Shape-F Shape CType Sig) → TypeParts (HasZeros k) Any x → HasZeros k (with_shape c v (roll-Shape x))
  zeros-made k before c v shape.Void h g rest = absurd (no-void (known k) (with_shape c v (roll-Shape shape.Void)) (out-roll-Shape shape.Void) g)
  zeros-made k before c v (shape.Func s) h g rest = absurd (no-func (known k) (with_shape c v (roll-Shape (shape.Func s))) s (out-roll-Shape (shape.Func s)) g)
  zeros-made k before c v (shape.Int i) h g rest = record {
    leaves = leaf.Int (pos 0) ∷ rest;
    are = OfInteger (with_shape c v (roll-Shape (shape.Int i))) i (pos 0) rest (out-roll-Shape (shape.Int i)) (zero-value i p.target);
    zeros = λ z. both-true (is_zero (leaf.Int (pos 0))) (list_all is_zero rest) refl z;
  }
  zeros-made k before c v (shape.Pointer to) h g rest = record {
    leaves = leaf.Place address.Null ∷ rest;
    are = OfPointer (with_shape c v (roll-Shape (shape.Pointer to))) to address.Null rest (out-roll-Shape (shape.Pointer to)) refl;
    zeros = λ z. z;
  }
  zeros-made k before c v (shape.Array of n) h g rest =
      let t = with_shape c v (roll-Shape (shape.Array of n)) in
      let z = element-zeros k of h (array-complete (known k) t of n (out-roll-Shape (shape.Array of n)) g).1 n rest in
      record { leaves = z.leaves; are = OfArray t of n z.leaves rest (out-roll-Shape (shape.Array of n)) z.are; zeros = z.zeros }
  zeros-made k before c v (shape.Struct i) h g rest =
      let t = with_shape c v (roll-Shape (shape.Struct i)) in
      structure-zeros k before t i (out-roll-Shape (shape.Struct i)) (slice_get (known k) i) refl (structure-complete (known k) t i (out-roll-Shape (shape.Struct i)) g) rest

  sig-made : (x : shape.Sig-F Shape CType Sig) (k : ℕ) → SigParts (HasZeros k) Any x → Any (roll-Sig x)
  sig-made x k h = tt

  zeros-at : (k : ℕ) → ((i : ℕ) → i < k → (t : CType) → HasZeros i t) → (t : CType) → HasZeros k t
  zeros-at k before = by_type (HasZeros k) Any (zeros-made k before) (λ x h. sig-made x k h)

  zeros-below : (k i : ℕ) → i < k → (t : CType) → HasZeros i t
  zeros-below zero i l t = absurd (omega (arith, l))
  zeros-below (suc k) i l t = zeros-at i (λ j m. zeros-below k j (omega (arith, l, m))) t

  zeros-of : (k : ℕ) (t : CType) → HasZeros k t
  zeros-of k t = zeros-at k (zeros-below k) t

  -- ---- an object's value

  pub record Values (o : Object) (ps : Pieces) : Type 0 where
    pub reads : (at : ℕ) → ReadsGiven (ShowsInitial p o) at (value p o ps) ps
    pub fits : HasUnitNames p → Fits ps → IsSoft (flat ps) → Fits (value p o ps)

  given-values : (o : Object) (leaves : List Leaf) (a b : ℕ) (ps : Pieces) → (f : Filled → Filled) → Fills p (ShowsGiven p o.ctype leaves []) f a b ps → ((g : Given) → ShowsGiven p o.ctype leaves [] g → ShowsInitial p o g) →
      value p o ps ≡ (f (filled b ps)).text → Values o ps
  given-values o leaves a b ps f h shows e =
      let same : h.text ≡ value p o ps = sym (e ∙ ap (λ (s : Filled). s.text) h.is) in
      record {
        reads = λ at.
            let r = h.reads at in
            subst (λ qs. ReadsGiven (ShowsInitial p o) at qs ps) same (record { given = r.given; shows = shows r.given.node r.shows; next = r.next; is = r.is });
        fits = λ names g s. subst Fits same (h.fits names g s);
      }

  all-known : known (length p.structures) ≡ p.structures
  all-known = take-length p.structures

  own-values : (o : Object) → is_complete p.structures o.ctype ≡ true → AreLeaves p o.ctype o.init [] → (ps : Pieces) → Values o ps
  own-values o c h ps =
      let k = length p.structures in
      let c' = subst (λ ss. is_complete ss o.ctype ≡ true) (sym all-known) c in
      let none : length o.init - 0 ≡ length o.init = omega arith in
      let r = given-fills p sound o.init (Own p o.init) (own_left p o.init) (own-source p o.init) k h c' ([], refl) ps in
      given-values o o.init (own_left p o.init o.init) (length o.init - 0) ps (filler p o.init (known k) o.ctype) r (λ g s. ShowsFirst o.init g (inl refl) s)
      (ap (λ (ss : List Structure). (filler p o.init ss o.ctype (filled (length o.init) ps)).text) (sym all-known) ∙ ap (λ (n : ℕ). (filler p o.init (known k) o.ctype (filled n ps)).text) (sym none))

  zero-values : (o : Object) → is_complete p.structures o.ctype ≡ true → o.init ≡ [] → (ps : Pieces) → Values o ps
  zero-values o c h ps =
      let k = length p.structures in
      let c' = subst (λ ss. is_complete ss o.ctype ≡ true) (sym all-known) c in
      let z = zeros-of k o.ctype c' [] in
      let r = given-fills p sound [] AllZero none_left (zero-source p) k z.are c' (z.zeros refl) ps in
      given-values o z.leaves (none_left z.leaves) (none_left []) ps (filler p [] (known k) o.ctype) r (λ g s. ShowsFirst z.leaves g (inr (h, z.zeros refl)) s)
      (ap (λ (ls : List Leaf). (filler p ls p.structures o.ctype (filled (length ls) ps)).text) h ∙ ap (λ (ss : List Structure). (filler p [] ss o.ctype (filled 0 ps)).text) (sym all-known))

  initial-values : (o : Object) → is_complete p.structures o.ctype ≡ true → IsInitial p o.ctype o.init → (ps : Pieces) → Values o ps
  initial-values o c (inl h) ps = zero-values o c h ps
  initial-values o c (inr h) ps = own-values o c h.0 ps

  pub object-values : (i : ℕ) (o : Object) → slice_get p.objects i ≡ Some o → (ps : Pieces) → Values o ps
  object-values i o h ps = initial-values o (complete-object p sound o (all-at (is_object p) p.objects i o sound.objects h)) (all_at (λ o. IsInitial p o.ctype o.init) p.objects i o h sound.initial) ps
