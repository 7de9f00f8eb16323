-- A slot has no more scalars in RAM than that has bytes.
use Rattle.std.proofs.Common.{arith, ◌≡◌, ◌≤◌, ◌+◌, ◌*◌, ◌||◌, ℕ, zero, suc, Bool, true, false, true≢false, nat_eq, IsTrue, List, [], ◌∷◌, map, fold, Option, Some, None, unwrap_or, slice_get, refl, ap, sym, subst, ◌∙◌, if◌then◌else◌}
use Rattle.std.specs.Prelude.{is_some}
use Rattle.std.specs.Option.{option_map_or}
use Rattle.std.proofs.Math.Nat.{mul-le-mul_left}
use Rattle.std.proofs.lemmas.Option.{none-some, same_Some}
use Rattle.cc_layout.specs.Seats.{end_with, layout_in, ram}
use Rattle.cc_program.specs.CcNum.declared.int_type.IntType.{IntType}
use Rattle.cc_program.specs.CcNum.declared.int_type.IntType.TheVariants as int
use Rattle.cc_program.specs.CcNum.declared.target.Target.{Target}
use Rattle.cc_program.specs.CcNum.Integers.{bytes_of}
use Rattle.cc_program.specs.Qualifiers.{is_const}
use Rattle.cc_program.specs.declared.object.Object.{Object}
use Rattle.cc_program.specs.declared.program.Program.{Program}
use Rattle.cc_program.specs.declared.types.CType.{CType}
use Rattle.cc_program.specs.declared.types.Shape.{Shape, out-Shape}
use Rattle.cc_program.specs.declared.types.Shape.TheOpen as shape
use Rattle.cc_program.specs.declared.types.Sig.{Sig}
use Rattle.cc_program.specs.declared.types.Structure.{Structure}
use Rattle.cc_program.proofs.Each.{Each}
use Rattle.cc_slots.specs.Counts.{scalar_count, scalars_of}
use Rattle.cc_slots_accesses.specs.Arrays.{length_of, length_shape}
use Rattle.cc_slots_structures.proofs.CopySizes.{IsLarge, copies_less, ram_copies}
use Rattle.cc_state_points.specs.CcState.Shape.{IsSlot, declared_type, member_ctype, object_ctype, is_row_shape, is_scalar_type, is_slot_type}
use Rattle.cc_state_points.specs.CcStateFacts.declared.facts.Key.{Key}
use Rattle.cc_state_points.specs.CcStateFacts.declared.facts.Key.TheVariants as key
use Rattle.cc_state_points.specs.CcSyntax.declared.sizes.Layout.{Layout}
use Rattle.cc_state_points.specs.CcSyntax.Layout.{end_behind, end_of, greatest_align, layouts, next_layout, shape_layout, structure, type_layout}
use Rattle.cc_state_points.specs.CcSyntax.Types.{Named}
use Rattle.cc_state_points.specs.CcSyntax.Values.{scalar_shape}
use Rattle.cc_state_points.proofs.CcSyntax.Alignment.{aligned_low}
use Rattle.cc_state_points.proofs.CcSyntax.TypeLayouts.{layout-opens, parts_layout}
use Rattle.cc_state_points.proofs.CcSyntax.Whole.{IsWhole, layouts-whole, structure-whole, type-whole}

-- ---- scalars have bytes

pointers : (n : ℕ) → IsTrue (nat_eq n 2 || nat_eq n 4) → 1 ≤ n
pointers n h = grind arith

integers : (t : IntType) (target : Target) → 1 ≤ bytes_of t target
integers int.Bool target = omega arith
integers int.Char target = omega arith
integers int.SChar target = omega arith
integers int.UChar target = omega arith
integers int.Short target = omega arith
integers int.UShort target = omega arith
integers int.Int target = pointers target.int_bytes target.int
integers int.UInt target = pointers target.int_bytes target.int
integers int.Long target = omega arith
integers int.ULong target = omega arith
integers int.LongLong target = omega arith
integers int.ULongLong target = omega arith

module _ (target : Target) (ls : List Layout) where
  of_shape : (x : shape.Shape-F Shape CType Sig) → is_some (scalar_shape x) ≡ true → 1 ≤ (shape_layout target ls (parts_layout target ls x)).size
  of_shape (shape.Int i) h = integers i target
  of_shape (shape.Pointer to) h = pointers target.pointer_bytes target.pointer
  of_shape shape.Void h = absurd (true≢false (sym h))
  of_shape (shape.Array of n) h = absurd (true≢false (sym h))
  of_shape (shape.Struct s) h = absurd (true≢false (sym h))
  of_shape (shape.Func sig) h = absurd (true≢false (sym h))

  scalar_size : (t : CType) → is_scalar_type t ≡ true → 1 ≤ (type_layout target ls t).size
  scalar_size t h = subst (λ (l : Layout). 1 ≤ l.size) (sym (layout-opens target ls t)) (of_shape (out-Shape t.shape) h)

  -- an array of scalars has as many bytes as elements
  times : (n s : ℕ) → 1 ≤ s → n ≤ n * s
  times n s h = let k : n * 1 ≤ n * s = mul-le-mul_left n h in omega (arith, k)

  row_shape : (x : shape.Shape-F Shape CType Sig) → is_row_shape x ≡ true → unwrap_or (length_shape x) 1 ≤ (shape_layout target ls (parts_layout target ls x)).size
  row_shape (shape.Array of n) h = times n (type_layout target ls of).size (scalar_size of h)
  row_shape shape.Void h = absurd (true≢false (sym h))
  row_shape (shape.Int i) h = absurd (true≢false (sym h))
  row_shape (shape.Pointer to) h = absurd (true≢false (sym h))
  row_shape (shape.Struct s) h = absurd (true≢false (sym h))
  row_shape (shape.Func sig) h = absurd (true≢false (sym h))

  one_shape : (x : shape.Shape-F Shape CType Sig) → is_some (scalar_shape x) ≡ true → unwrap_or (length_shape x) 1 ≤ 1
  one_shape (shape.Int i) h = omega arith
  one_shape (shape.Pointer to) h = omega arith
  one_shape shape.Void h = omega arith
  one_shape (shape.Array of n) h = absurd (true≢false (sym h))
  one_shape (shape.Struct s) h = omega arith
  one_shape (shape.Func sig) h = omega arith

  object_size : (t : CType) (scalar : Bool) → is_scalar_type t ≡ scalar → (scalar || is_row_shape (out-Shape t.shape)) ≡ true → unwrap_or (length_of t) 1 ≤ (type_layout target ls t).size
  object_size t true e h = let one = one_shape (out-Shape t.shape) e in let size = scalar_size t e in omega (arith, one, size)
  object_size t false e h = subst (λ (l : Layout). unwrap_or (length_of t) 1 ≤ l.size) (sym (layout-opens target ls t)) (row_shape (out-Shape t.shape) h)

  -- ---- a structure has the bytes of each of its members

  abbrev own : Named → Layout
  own m = type_layout target ls m.1

  module _ (wholes : Each IsWhole ls) where
    own_low : (m : Named) (end : ℕ) → end + (own m).size ≤ end_behind end (own m)
    own_low m end = let low = aligned_low (own m).align end (type-whole target ls wholes m.1).align in omega (arith, low)

    start_low : (members : List Named) (end : ℕ) → end ≤ fold end_behind end (map own members)
    start_low [] end = omega arith
    start_low (m ∷ members) end = let head = own_low m end in let rest = start_low members (end_behind end (own m)) in omega (arith, head, rest)

    member_low : (members : List Named) (end k : ℕ) (m : Named) → slice_get members k ≡ Some m → (own m).size ≤ fold end_behind end (map own members)
    member_low [] end k m h = absurd (none-some m h)
    member_low (n ∷ members) end zero m h =
        let head = own_low n end in
        let rest = start_low members (end_behind end (own n)) in
        subst (λ (x : Named). (own x).size ≤ fold end_behind end (map own (n ∷ members))) (same_Some n m h) (omega (arith, head, rest))
    member_low (n ∷ members) end (suc k) m h = member_low members (end_behind end (own n)) k m h

    each_whole : (members : List Named) → Each IsWhole (map own members)
    each_whole [] = tt
    each_whole (m ∷ members) = (type-whole target ls wholes m.1, each_whole members)

    structure_size : (s : Structure) (k : ℕ) (m : Named) → slice_get s.members k ≡ Some m → is_scalar_type m.1 ≡ true → 1 ≤ (next_layout target ls s).size
    unfolding structure
    structure_size s k m h scalar =
        let size = scalar_size m.1 scalar in
        let inside = member_low s.members 0 k m h in
        let low = aligned_low (greatest_align (map own s.members)) (end_of (map own s.members)) (structure-whole (map own s.members) (each_whole s.members)).align in
        omega (arith, size, inside, low)

-- ---- RAM has the bytes of each object that is not const

module _ (p : Program) where
  abbrev all : List Layout
  all = layouts p.target p.structures

  object_low : (o : Object) (end : ℕ) → end + (layout_in p o).size ≤ end_behind end (layout_in p o)
  object_low o end = let low = aligned_low (layout_in p o).align end (type-whole p.target all (layouts-whole p.target p.structures) o.ctype).align in omega (arith, low)

  with_low : (o : Object) (end : ℕ) (b : Bool) → end ≤ (if b then end else end_behind end (layout_in p o))
  with_low o end true = omega arith
  with_low o end false = let low = object_low o end in omega (arith, low)

  objects_low : (objects : List Object) (end : ℕ) → end ≤ fold (end_with p) end objects
  objects_low [] end = omega arith
  objects_low (o ∷ objects) end = let head = with_low o end (is_const o.ctype) in let rest = objects_low objects (end_with p end o) in omega (arith, head, rest)

  one_low : (objects : List Object) (end k : ℕ) (o : Object) → slice_get objects k ≡ Some o → is_const o.ctype ≡ false → (layout_in p o).size ≤ fold (end_with p) end objects
  one_low [] end k o h e = absurd (none-some o h)
  one_low (n ∷ objects) end zero o h e =
      let same = same_Some n o h in
      let head : end_with p end n ≡ end_behind end (layout_in p n) = ap (λ (b : Bool). if b then end else end_behind end (layout_in p n)) (ap (λ (x : Object). is_const x.ctype) same ∙ e) in
      let low = object_low n end in
      let rest = objects_low objects (end_with p end n) in
      subst (λ (x : Object). (layout_in p x).size ≤ fold (end_with p) end (n ∷ objects)) same (omega (arith, head, low, rest))
  one_low (n ∷ objects) end (suc k) o h e = one_low objects (end_with p end n) k o h e

  object_count : (o : Object) (i : ℕ) → slice_get p.objects i ≡ Some o → is_slot_type (key.Object i) o.ctype ≡ true → (b : Bool) → is_const o.ctype ≡ b → (if b then 0 else unwrap_or (length_of o.ctype) 1) ≤ ram p
  unfolding ram
  object_count o i h slot true e = omega arith
  object_count o i h slot false e =
      let size = object_size p.target all o.ctype (is_scalar_type o.ctype) refl slot in
      let low = one_low p.objects 0 i o h e in
      omega (arith, size, low)

  of_object : (o : Option Object) (i : ℕ) (t : CType) → slice_get p.objects i ≡ o → object_ctype o ≡ Some t → is_slot_type (key.Object i) t ≡ true → option_map_or scalars_of o 0 ≤ ram p
  of_object None i t h e slot = omega arith
  of_object (Some o) i t h e slot = object_count o i h (subst (λ (x : CType). is_slot_type (key.Object i) x ≡ true) (sym (same_Some o.ctype t e)) slot) (is_const o.ctype) refl

member_of : (o : Option Named) (t : CType) → declared_type o ≡ Some t → (n : Named) × (o ≡ Some n) × (n.1 ≡ t)
member_of None t h = absurd (none-some t h)
member_of (Some n) t h = (n, refl, same_Some n.1 t h)

pub count_low : (p : Program) (k : Key) → IsSlot p k → scalar_count p k ≤ ram p
count_low p (key.Object i) (t, e, slot) = of_object p (slice_get p.objects i) i t refl e slot
count_low p (key.Local f r) (t, e, slot) = absurd (true≢false (sym slot))
count_low p (key.Member s m) (t, e, slot) = ram_copies p s (copies_less p.target s p.structures large)
  where
    large : (x : Structure) → slice_get p.structures s ≡ Some x → IsLarge p.target s x
    large x there = λ ls wholes.
        let n = member_of (slice_get x.members m) t (sym (ap (member_ctype m) there) ∙ e) in
        structure_size p.target ls wholes x m n.0 n.1 (subst (λ (c : CType). is_scalar_type c ≡ true) (sym n.2) slot)
