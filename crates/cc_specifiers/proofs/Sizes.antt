-- The bytes of an array are few exactly where its elements' are, and those of all of them.
use Rattle.std.proofs.Common.{arith, ◌≡◌, ◌<◌, ◌≤◌, ◌*◌, ◌&&◌, ℕ, zero, Bool, true, false, List, Option, Some, None, refl, ap, sym, ◌∙◌, nat_lt}
use Rattle.std.specs.Prelude.{is_some, if◌then◌else◌}
use Rattle.std.proofs.Math.Nat.{le-mul_of_pos_right}
use Rattle.cc_program.specs.CcNum.declared.target.Target.{Target}
use Rattle.cc_program.specs.declared.types.CType.{CType}
use Rattle.cc_program.specs.declared.types.Shape.{Array, out-Shape}
use Rattle.cc_program.specs.declared.types.Shape.TheOpen as shape
use Rattle.cc_program.specs.declared.types.Shape.TheVariants.{outs-Array}
use Rattle.cc_program.specs.declared.types.Structure.{Structure}
use Rattle.cc_syntax.specs.Kinds.{is_small}
use Rattle.cc_syntax.specs.Layout.{shape_layout}
use Rattle.cc_syntax.specs.Types.{is_complete, complete_shape}
use Rattle.cc_syntax.specs.declared.sizes.Layout.{Layout}
use Rattle.cc_syntax.proofs.TypeLayouts.{parts_layout, layout-opens, parts_complete, complete-opens}
use Rattle.cc_specifiers.specs.Objects.{array_size, size_of, object_size}

abbrev sized : Bool → ℕ → Option ℕ
sized c s = if c && is_small s then Some s else None

positive : (n : ℕ) → nat_lt 0 n ≡ true → zero < n
positive n h = grind arith

commuted : (n s : ℕ) → s ≤ s * n → s ≤ n * s
commuted n s h = grind arith

too_big : (s p : ℕ) → s ≤ p → is_small s ≡ false → is_small p ≡ false
too_big s p h k = grind arith

too_many : (n s : ℕ) → nat_lt 0 n ≡ true → is_small s ≡ false → is_small (n * s) ≡ false
too_many n s h k = too_big s (n * s) (commuted n s (le-mul_of_pos_right s (positive n h))) k

array_by : (b c k d : Bool) (s m : ℕ) → (b ≡ true → k ≡ false → d ≡ false) → (if c && k then (if b then (if d then Some m else None) else None) else None) ≡ (if (b && c) && d then Some m else None)
array_by true true true true s m f = refl
array_by true true true false s m f = refl
array_by true true false true s m f = cc (f refl refl)
array_by true true false false s m f = refl
array_by true false k d s m f = refl
array_by false true true d s m f = refl
array_by false true false d s m f = refl
array_by false false k d s m f = refl

inside : (n s : ℕ) (e : Bool) → array_size n (if e then Some s else None) ≡ (if e then array_size n (Some s) else None)
inside n s true = refl
inside n s false = refl

pub array_sized : (n s : ℕ) (c : Bool) → array_size n (sized c s) ≡ sized (nat_lt 0 n && c) (n * s)
array_sized n s c = inside n s (c && is_small s) ∙ array_by (nat_lt 0 n) c (is_small s) (is_small (n * s)) s (n * s) (too_many n s)

pub sized_some : (c : Bool) (s : ℕ) → is_some (if c then Some s else None) ≡ c
sized_some true s = refl
sized_some false s = refl

module _ (target : Target) (structures : List Structure) (layouts : List Layout) (t of : CType) (n : ℕ) where
  opened : t.shape ≡ Array of n → out-Shape t.shape ≡ shape.Array of n
  opened h = ap out-Shape h ∙ outs-Array of n

  complete_is : t.shape ≡ Array of n → is_complete structures t ≡ (nat_lt 0 n && is_complete structures of)
  complete_is h = complete-opens structures t ∙ ap (λ y. complete_shape structures (parts_complete structures y)) (opened h)

  size_is : t.shape ≡ Array of n → size_of target structures layouts t ≡ n * size_of target structures layouts of
  size_is h = ap (λ l. l.size) (layout-opens target layouts t ∙ ap (λ y. shape_layout target layouts (parts_layout target layouts y)) (opened h))

  pub array_object : (o r : Option ℕ) → t.shape ≡ Array of n → o ≡ object_size target structures layouts of → r ≡ array_size n o → r ≡ object_size target structures layouts t
  array_object o r h e f =
      f ∙ ap (array_size n) e ∙ array_sized n (size_of target structures layouts of) (is_complete structures of)
      ∙ ap (λ c. sized c (n * size_of target structures layouts of)) (sym (complete_is h))
      ∙ ap (λ m. sized (is_complete structures t) m) (sym (size_is h))

pub ruleset of_sizes = (sized_some)
