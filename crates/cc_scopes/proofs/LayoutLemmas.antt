-- Layouts of types with sizes as 64 bits hold them, and those of structures, member by member.
use Rattle.std.proofs.Common.{arith, ◌≡◌, ◌∙◌, ◌<◌, ◌≤◌, ◌+◌, ◌*◌, ◌-◌, ◌^◌, ◌⊎◌, inl, inr, ℕ, zero, suc, min, max, Some, List, [], ◌∷◌, ◌++◌, map, length, take, take_all, refl, ap, sym, unwrap_or, slice_get}
use Rattle.std.proofs.Math.Nat.{zero-mul}
use Rattle.std.proofs.lemmas.List.{take_more, map-append}
use Rattle.std.proofs.lemmas.List.Sums.{fold-append}
use Rattle.std.proofs.lemmas.Option.{slice_get_within, get_or_from_slice_get}
use Rattle.std.specs.Int.{next_multiple_of}
use Rattle.cc_program.specs.CcNum.declared.int_type.IntType.{IntType}
use Rattle.cc_program.specs.CcNum.declared.target.Target.{Target}
use Rattle.cc_program.specs.CcNum.Integers.{bytes_of}
use Rattle.cc_program.specs.declared.types.CType.{CType}
use Rattle.cc_program.specs.declared.types.Shape.{Shape, Void, Int, Pointer, Array, Struct, Func, out-Shape}
use Rattle.cc_program.specs.declared.types.Shape.TheOpen as shape
use Rattle.cc_program.specs.declared.types.Shape.TheVariants.{outs-Void, outs-Int, outs-Pointer, outs-Array, outs-Struct, outs-Func}
use Rattle.cc_program.specs.declared.types.Sig.{Sig}
use Rattle.cc_operands.proofs.CcSyntax.TypeLayouts.{parts_layout, layout-opens}
use Rattle.cc_operands.specs.CcSyntax.declared.sizes.Layout.{Layout}
use Rattle.cc_operands.specs.CcSyntax.Layout.{aligned, end_behind, end_of, greatest_align, nothing, scalar, shape_layout, structure, type_layout}
use Rattle.cc_operands.specs.CcSyntax.Types.{Named}
use Rattle.cc_scopes.specs.Layouts.{saturated}

-- ---- sizes that 64 bits hold

below_or_above : (s m : ℕ) → (s ≤ m) ⊎ (m < s)
below_or_above zero m = inl (omega arith)
below_or_above (suc s) zero = inr (omega arith)
below_or_above (suc s) (suc m) = elim (below_or_above s m) [ inl h ↦ inl (omega arith) | inr h ↦ inr (omega arith) ]

min-below : (s m : ℕ) → s ≤ m → min s m ≡ s
min-below s m h = omega arith

min-above : (s m : ℕ) → m ≤ s → min s m ≡ m
min-above s m h = omega arith

times-above : (n s m : ℕ) → m < s → min (n * m) m ≡ min (n * s) m
times-above zero s m h = ap (λ n. min n m) (zero-mul m ∙ sym (zero-mul s))
times-above (suc n) s m h = min-above (suc n * m) m (omega arith) ∙ sym (min-above (suc n * s) m (omega arith))

-- n times what is held, held
pub held-times : (n s m : ℕ) → min (n * min s m) m ≡ min (n * s) m
held-times n s m = elim (below_or_above s m) [ inl h ↦ ap (λ x. min (n * x) m) (min-below s m h) | inr h ↦ ap (λ x. min (n * x) m) (min-above s m (omega arith)) ∙ times-above n s m h ]

pub saturated-small : (l : Layout) → l.size ≤ 2 ^ 64 - 1 → l ≡ saturated l
saturated-small l h = ap (λ s. record { size = s; align = l.align }) (sym (min-below l.size (2 ^ 64 - 1) h))

-- ---- by the shape of a type

module _ (layouts : List Layout) (target : Target) (t : CType) where
  opened : (x : shape.Shape-F Shape CType Sig) → out-Shape t.shape ≡ x → type_layout target layouts t ≡ shape_layout target layouts (parts_layout target layouts x)
  opened x h = layout-opens target layouts t ∙ ap (λ y. shape_layout target layouts (parts_layout target layouts y)) h

  pub held-Void : t.shape ≡ Void → nothing ≡ saturated (type_layout target layouts t)
  held-Void h = ap saturated (sym (opened shape.Void (ap out-Shape h ∙ outs-Void)))

  pub held-Func : (sig : Sig) → t.shape ≡ Func sig → nothing ≡ saturated (type_layout target layouts t)
  held-Func sig h = ap saturated (sym (opened (shape.Func sig) (ap out-Shape h ∙ outs-Func sig)))

  pub held-Int : (i : IntType) → t.shape ≡ Int i → bytes_of i target ≤ 2 ^ 64 - 1 → scalar (bytes_of i target) target ≡ saturated (type_layout target layouts t)
  held-Int i h small = saturated-small (scalar (bytes_of i target) target) small ∙ ap saturated (sym (opened (shape.Int i) (ap out-Shape h ∙ outs-Int i)))

  pub held-Pointer : (to : CType) → t.shape ≡ Pointer to → target.pointer_bytes ≤ 2 ^ 64 - 1 → scalar target.pointer_bytes target ≡ saturated (type_layout target layouts t)
  held-Pointer to h small = saturated-small (scalar target.pointer_bytes target) small ∙ ap saturated (sym (opened (shape.Pointer to) (ap out-Shape h ∙ outs-Pointer to)))

  pub held-Struct : (i : ℕ) → t.shape ≡ Struct i → (unwrap_or (slice_get layouts i) nothing).size ≤ 2 ^ 64 - 1 → unwrap_or (slice_get layouts i) nothing ≡ saturated (type_layout target layouts t)
  held-Struct i h small = saturated-small (unwrap_or (slice_get layouts i) nothing) small ∙ ap saturated (sym (opened (shape.Struct i) (ap out-Shape h ∙ outs-Struct i)))

  pub held-Array : (e : CType) (n : ℕ) → t.shape ≡ Array e n → (l : Layout) → l ≡ saturated (type_layout target layouts e)
      → record { size = min (n * l.size) (2 ^ 64 - 1); align = l.align } ≡ saturated (type_layout target layouts t)
  held-Array e n h l is =
      ap (λ (x : Layout). record { size = min (n * x.size) (2 ^ 64 - 1); align = x.align }) is
      ∙ (ap (λ s. record { size = s; align = (type_layout target layouts e).align }) (held-times n (type_layout target layouts e).size (2 ^ 64 - 1))
      ∙ ap saturated (sym (opened (shape.Array e n) (ap out-Shape h ∙ outs-Array e n))))

-- ---- structures

-- the members up to one are laid
pub record Laid (layouts : List Layout) (target : Target) (members : List Named) (i end align : ℕ) : Type 0 where
  pub ends : end ≡ end_of (map (λ m. type_layout target layouts m.1) (take i members))
  pub greatest : align ≡ greatest_align (map (λ m. type_layout target layouts m.1) (take i members))

module _ (layouts : List Layout) (target : Target) (members : List Named) where
  abbrev laid : ℕ → List Layout
  laid i = map (λ m. type_layout target layouts m.1) (take i members)

  pub laid-start : Laid layouts target members 0 0 1
  laid-start = record { ends = refl; greatest = refl }

  laid-one : (i : ℕ) (m : Named) → slice_get members i ≡ Some m → laid (i + 1) ≡ laid i ++ type_layout target layouts m.1 ∷ []
  laid-one i m h =
      let b = slice_get_within members i m h in
      ap (map (λ (m : Named). type_layout target layouts m.1)) (take_more members i m b ∙ ap (λ (x : Named). take i members ++ x ∷ []) (get_or_from_slice_get members i m m h))
      ∙ map-append (λ (m : Named). type_layout target layouts m.1) (take i members) (m ∷ [])

  -- a size that is held, and is not the greatest, is the size itself
  held_is : (s : ℕ) (n : ℕ) → n ≡ min s (2 ^ 64 - 1) → (n ≡ 2 ^ 64 - 1 → ⊥) → n ≡ s
  held_is s n e h = elim (below_or_above s (2 ^ 64 - 1)) [ inl k ↦ e ∙ min-below s (2 ^ 64 - 1) k | inr k ↦ absurd (h (e ∙ min-above s (2 ^ 64 - 1) (omega arith))) ]

  held_layout : (l k : Layout) → l ≡ saturated k → (l.size ≡ 2 ^ 64 - 1 → ⊥) → l ≡ k
  held_layout l k e h = λ j. record { size = held_is k.size l.size (ap (λ (x : Layout). x.size) e) h j; align = ap (λ (x : Layout). x.align) e j }

  pub laid-more : (i end align : ℕ) (m : Named) (l : Layout) → slice_get members i ≡ Some m → l ≡ saturated (type_layout target layouts m.1) → (l.size ≡ 2 ^ 64 - 1 → ⊥)
      → Laid layouts target members i end align → Laid layouts target members (i + 1) (next_multiple_of end l.align + l.size) (max align l.align)
  unfolding aligned
  laid-more i end align m l h e held before =
      let k : l ≡ type_layout target layouts m.1 = held_layout l (type_layout target layouts m.1) e held in
      let step : laid (i + 1) ≡ laid i ++ l ∷ [] = laid-one i m h ∙ ap (λ (x : Layout). laid i ++ x ∷ []) (sym k) in
      record {
        ends = ap (λ (n : ℕ). end_behind n l) before.ends ∙ sym (ap end_of step ∙ fold-append end_behind 0 (laid i) (l ∷ []));
        greatest = ap (λ (a : ℕ). max a l.align) before.greatest ∙ sym (ap greatest_align step ∙ fold-append (λ a (m : Layout). max a m.align) 1 (laid i) (l ∷ []));
      }

  pub laid-all : (i end align size : ℕ) → Laid layouts target members i end align → length members ≤ i → size ≡ next_multiple_of end align
      → record { size = size; align = align } ≡ structure (map (λ m. type_layout target layouts m.1) members)
  unfolding structure aligned
  laid-all i end align size before past e =
      let all : laid i ≡ map (λ m. type_layout target layouts m.1) members = ap (map (λ (m : Named). type_layout target layouts m.1)) (take_all i members past) in
      let a : align ≡ greatest_align (map (λ m. type_layout target layouts m.1) members) = before.greatest ∙ ap greatest_align all in
      let n : end ≡ end_of (map (λ m. type_layout target layouts m.1) members) = before.ends ∙ ap end_of all in
      rw (e, a, n) refl

pub ruleset of_layouts = (held-Void, held-Func, held-Int, held-Pointer, held-Struct, held-Array)

pub ruleset of_structures = (laid-start, laid-more, laid-all)
