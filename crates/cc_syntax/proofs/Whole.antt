-- Each size is a multiple of its alignment, which is 1, 2 or 4.
use Rattle.std.proofs.Common.{arith, ◌≡◌, ◌*◌, ◌/◌, ◌%◌, ◌⊎◌, inl, inr, ℕ, zero, suc, ◌||◌, min, max, fold, nat_eq, IsTrue, List, [], ◌∷◌, ◌++◌, map, refl, ap, sym, ◌∙◌, subst, unwrap_or, slice_get}
use Rattle.std.proofs.Math.Nat.{mul_assoc, mul-mod_left}
use Rattle.std.proofs.lemmas.Nat.{div-add-mod'}
use Rattle.cc_program.specs.CcNum.declared.int_type.IntType.{IntType}
use Rattle.cc_program.specs.CcNum.declared.int_type.IntType.TheVariants as int
use Rattle.cc_program.specs.CcNum.declared.target.Target.{Target}
use Rattle.cc_program.specs.CcNum.Integers.{bytes_of}
use Rattle.cc_program.specs.declared.types.CType.{CType}
use Rattle.cc_program.specs.declared.types.Shape.{Shape}
use Rattle.cc_program.specs.declared.types.Shape.TheOpen as shape
use Rattle.cc_program.specs.declared.types.Sig.{Sig}
use Rattle.cc_program.specs.declared.types.Structure.{Structure}
use Rattle.cc_program.proofs.Each.{Each}
use Rattle.cc_program.proofs.TypeInduction.{TypeParts, by_type}
use Rattle.cc_syntax.specs.declared.sizes.Layout.{Layout}
use Rattle.cc_syntax.specs.Layout.{IsAlign, end_of, greatest_align, structure, scalar, nothing, shape_layout, type_layout, next_layout, layouts}
use Rattle.cc_syntax.proofs.Alignment.{align_cases, aligned_multiple, max_align}
use Rattle.cc_syntax.proofs.TypeLayouts.{parts_layout, layout-roll}

pub record IsWhole (l : Layout) : Type 0 where
  pub align : IsAlign l.align
  pub size : l.size % l.align ≡ 0

-- what a target allows
align_tested : (n : ℕ) → IsTrue (nat_eq n 1 || nat_eq n 2 || nat_eq n 4) → IsAlign n
align_tested n h = grind arith

two_or_four : (n : ℕ) → IsTrue (nat_eq n 2 || nat_eq n 4) → (n ≡ 2) ⊎ (n ≡ 4)
two_or_four n h = grind arith

abbrev IsScalarSize : ℕ → Type 0
IsScalarSize n = IsAlign n ⊎ (n ≡ 8)

wide : (n : ℕ) → (n ≡ 2) ⊎ (n ≡ 4) → IsScalarSize n
wide n (inl h) = inl (inr (inl h))
wide n (inr h) = inl (inr (inr h))

bytes-size : (t : IntType) (target : Target) → IsScalarSize (bytes_of t target)
bytes-size int.Bool target = inl (inl refl)
bytes-size int.Char target = inl (inl refl)
bytes-size int.SChar target = inl (inl refl)
bytes-size int.UChar target = inl (inl refl)
bytes-size int.Short target = inl (inr (inl refl))
bytes-size int.UShort target = inl (inr (inl refl))
bytes-size int.Int target = wide target.int_bytes (two_or_four target.int_bytes target.int)
bytes-size int.UInt target = wide target.int_bytes (two_or_four target.int_bytes target.int)
bytes-size int.Long target = inl (inr (inr refl))
bytes-size int.ULong target = inl (inr (inr refl))
bytes-size int.LongLong target = inr refl
bytes-size int.ULongLong target = inr refl

abbrev IsWholeAt : ℕ → ℕ → Type 0
IsWholeAt size align = IsWhole (record { size = size; align = min size align })

pick1 : (size : ℕ) → IsScalarSize size → IsWholeAt size 1
pick1 size (inl h) = align_cases (λ n. IsWholeAt n 1) (record { align = inl refl; size = refl }) (record { align = inl refl; size = refl }) (record { align = inl refl; size = refl }) size h
pick1 size (inr h) = subst (λ n. IsWholeAt n 1) (sym h) (record { align = inl refl; size = refl })

pick2 : (size : ℕ) → IsScalarSize size → IsWholeAt size 2
pick2 size (inl h) = align_cases (λ n. IsWholeAt n 2) (record { align = inl refl; size = refl }) (record { align = inr (inl refl); size = refl }) (record { align = inr (inl refl); size = refl }) size h
pick2 size (inr h) = subst (λ n. IsWholeAt n 2) (sym h) (record { align = inr (inl refl); size = refl })

pick4 : (size : ℕ) → IsScalarSize size → IsWholeAt size 4
pick4 size (inl h) = align_cases (λ n. IsWholeAt n 4) (record { align = inl refl; size = refl }) (record { align = inr (inl refl); size = refl }) (record { align = inr (inr refl); size = refl }) size h
pick4 size (inr h) = subst (λ n. IsWholeAt n 4) (sym h) (record { align = inr (inr refl); size = refl })

scalar-whole : (size : ℕ) (target : Target) → IsScalarSize size → IsWhole (scalar size target)
scalar-whole size target h = align_cases (λ a. IsWholeAt size a) (pick1 size h) (pick2 size h) (pick4 size h) target.align_max (align_tested target.align_max target.align)

nothing-whole : IsWhole nothing
nothing-whole = record { align = inl refl; size = refl }

-- structures
greatest-align : (a : ℕ) (ms : List Layout) → IsAlign a → Each IsWhole ms → IsAlign (fold (λ align (object : Layout). max align object.align) a ms)
greatest-align a [] h ws = h
greatest-align a (m ∷ ms) h ws = greatest-align (max a m.align) ms (max_align a m.align h ws.0.align) ws.1

pub structure-whole : (ms : List Layout) → Each IsWhole ms → IsWhole (structure ms)
unfolding structure
structure-whole ms ws =
    let a = greatest-align 1 ms (inl refl) ws in
    record { align = a; size = aligned_multiple (greatest_align ms) (end_of ms) a }

multiple : (n size a : ℕ) → size % a ≡ 0 → (n * size) % a ≡ 0
multiple n size a h =
    let e : size ≡ size / a * a = omega (arith, div-add-mod' size a, h) in
    ap (λ m. (n * m) % a) e ∙ ap (λ m. m % a) (sym (mul_assoc n (size / a) a)) ∙ mul-mod_left (n * (size / a)) a

looked_up : (ls : List Layout) (i : ℕ) → Each IsWhole ls → IsWhole (unwrap_or (slice_get ls i) nothing)
looked_up [] i ws = nothing-whole
looked_up (l ∷ ls) zero ws = ws.0
looked_up (l ∷ ls) (suc i) ws = looked_up ls i ws.1

each_map : {A : Type 0} → (f : A → Layout) → ((x : A) → IsWhole (f x)) → (xs : List A) → Each IsWhole (map f xs)
each_map f h [] = tt
each_map f h (x ∷ xs) = (h x, each_map f h xs)

module _ (target : Target) where
  shape-whole : (ls : List Layout) → Each IsWhole ls → (x : shape.Shape-F Shape CType Sig) → TypeParts (λ t. IsWhole (type_layout target ls t)) (λ s. Unit {0}) x → IsWhole (shape_layout target ls (parts_layout target ls x))
  shape-whole ls ws shape.Void h = nothing-whole
  shape-whole ls ws (shape.Int t) h = scalar-whole (bytes_of t target) target (bytes-size t target)
  shape-whole ls ws (shape.Pointer t) h = scalar-whole target.pointer_bytes target (wide target.pointer_bytes (two_or_four target.pointer_bytes target.pointer))
  shape-whole ls ws (shape.Array t n) h = record { align = h.align; size = multiple n (type_layout target ls t).size (type_layout target ls t).align h.size }
  shape-whole ls ws (shape.Struct s) h = looked_up ls s ws
  shape-whole ls ws (shape.Func s) h = nothing-whole

  pub type-whole : (ls : List Layout) → Each IsWhole ls → (t : CType) → IsWhole (type_layout target ls t)
  type-whole ls ws = by_type (λ t. IsWhole (type_layout target ls t)) (λ s. Unit {0})
      (λ constant volatile x h. subst IsWhole (sym (layout-roll target ls constant volatile x)) (shape-whole ls ws x h)) (λ x h. tt)

  each_append : (ls : List Layout) (l : Layout) → Each IsWhole ls → IsWhole l → Each IsWhole (ls ++ l ∷ [])
  each_append [] l ws w = (w, tt)
  each_append (k ∷ ls) l ws w = (ws.0, each_append ls l ws.1 w)

  from-whole : (before : List Layout) (structures : List Structure) → Each IsWhole before → Each IsWhole (fold (λ before s. before ++ next_layout target before s ∷ []) before structures)
  from-whole before [] ws = ws
  from-whole before (s ∷ structures) ws =
      from-whole (before ++ next_layout target before s ∷ []) structures
      (each_append before (next_layout target before s) ws (structure-whole _ (each_map (λ m. type_layout target before m.1) (λ m. type-whole before ws m.1) s.members)))

  pub layouts-whole : (structures : List Structure) → Each IsWhole (layouts target structures)
  unfolding layouts
  layouts-whole structures = from-whole [] structures tt

  pub whole : (t : CType) (structures : List Structure) → IsWhole (type_layout target (layouts target structures) t)
  whole t structures = type-whole (layouts target structures) (layouts-whole structures) t
