-- How many scalars a type has, by its shape, and how numbers are counted.
use Rattle.std.proofs.Common.{arith, ◌≡◌, ◌<◌, ◌≤◌, ◌+◌, ◌*◌, ◌^◌, ◌-◌, ◌⊎◌, inl, inr, ℕ, zero, suc, min, List, [], ◌∷◌, ◌++◌, length, length-append, replicate, take, ap, sym, ◌∙◌, unwrap_or, slice_get, get_or}
use Rattle.std.specs.List.{flat_map}
use Rattle.cc_program.specs.CcNum.declared.int_type.IntType.{IntType}
use Rattle.cc_program.specs.declared.types.CType.{CType, fold_out-CType}
use Rattle.cc_program.specs.declared.types.Shape.{Shape, Void, Int, Pointer, Array, Struct, Func, fold-Shape, fold_out-Shape, out-Shape, map-Shape}
use Rattle.cc_program.specs.declared.types.Shape.TheOpen as shape
use Rattle.cc_program.specs.declared.types.Shape.TheVariants.{outs-Void, outs-Int, outs-Pointer, outs-Array, outs-Struct, outs-Func}
use Rattle.cc_program.specs.declared.types.Sig.{Sig, fold-Sig}
use Rattle.cc_program.specs.declared.types.Structure.{Structure}
use Rattle.cc_program.specs.declared.value.Value.{Value}
use Rattle.cc_typed.specs.CcSyntax.Types.{Named}
use Rattle.cc_typed.proofs.CcSyntax.Shapes.{read_at}
use Rattle.cc_cells.specs.Counts.{counted, count_of, member_count}
use Rattle.cc_cells.specs.Scalars.{shape_zeros, zeros_over, member_zeros, structure_zeros}
use Rattle.cc_cells.proofs.ScalarLemmas.{members_more}
use Rattle.cc_cells.proofs.StructureLemmas.{zeros-at, zeros-past}

module _ (structures : List (List Value)) where
  abbrev parts_zeros : shape.Shape-F Shape CType Sig → shape.Shape-F (List Value) (List Value) (Unit {0})
  parts_zeros x = map-Shape Shape CType Sig (List Value) (List Value) (Unit {0})
      (fold-Shape (List Value) (List Value) (Unit {0}) (shape_zeros structures) (λ t. t.shape) (λ s. tt))
      (zeros_over structures)
      (fold-Sig (List Value) (List Value) (Unit {0}) (shape_zeros structures) (λ t. t.shape) (λ s. tt)) x

  zeros-opens : (t : CType) → zeros_over structures t ≡ shape_zeros structures (parts_zeros (out-Shape t.shape))
  unfolding zeros_over
  zeros-opens t =
      fold_out-CType (List Value) (List Value) (Unit {0}) (shape_zeros structures) (λ t. t.shape) (λ s. tt) t
      ∙ fold_out-Shape (List Value) (List Value) (Unit {0}) (shape_zeros structures) (λ t. t.shape) (λ s. tt) t.shape

one_more : (n a : ℕ) → suc n * a ≡ a + n * a
one_more n a = grind arith

length-repeats : (n : ℕ) (xs : List Value) → length (flat_map (λ zeros. zeros) (replicate n xs)) ≡ n * length xs
length-repeats zero xs = omega arith
length-repeats (suc n) xs = let r = length-repeats n xs in length-append xs (flat_map (λ zeros. zeros) (replicate n xs)) ∙ (omega (arith, r) ∙ sym (one_more n (length xs)))

module _ (structures : List Structure) (t : CType) where
  opened : (x : shape.Shape-F Shape CType Sig) → out-Shape t.shape ≡ x →
      count_of structures t ≡ length (shape_zeros (structure_zeros structures) (parts_zeros (structure_zeros structures) x))
  opened x h = ap length (zeros-opens (structure_zeros structures) t ∙ ap (λ y. shape_zeros (structure_zeros structures) (parts_zeros (structure_zeros structures) y)) h)

  pub count-Void : t.shape ≡ Void → count_of structures t ≡ 0
  count-Void h = opened shape.Void (ap out-Shape h ∙ outs-Void)

  pub count-Int : (i : IntType) → t.shape ≡ Int i → count_of structures t ≡ 1
  count-Int i h = opened (shape.Int i) (ap out-Shape h ∙ outs-Int i)

  pub count-Pointer : (to : CType) → t.shape ≡ Pointer to → count_of structures t ≡ 1
  count-Pointer to h = opened (shape.Pointer to) (ap out-Shape h ∙ outs-Pointer to)

  pub count-Func : (s : Sig) → t.shape ≡ Func s → count_of structures t ≡ 0
  count-Func s h = opened (shape.Func s) (ap out-Shape h ∙ outs-Func s)

  pub count-Array : (e : CType) (n : ℕ) → t.shape ≡ Array e n → count_of structures t ≡ n * count_of structures e
  count-Array e n h = opened (shape.Array e n) (ap out-Shape h ∙ outs-Array e n) ∙ length-repeats n (zeros_over (structure_zeros structures) e)

  pub count-Struct : (i : ℕ) (s : Structure) → t.shape ≡ Struct i → i < length structures → s ≡ get_or structures i s → count_of structures t ≡ member_count (take i structures) s.members
  count-Struct i s h b g = opened (shape.Struct i) (ap out-Shape h ∙ outs-Struct i) ∙ ap (λ l. length (unwrap_or l [])) (zeros-at structures i s (read_at structures i s g b))

  pub count-past : (i : ℕ) → t.shape ≡ Struct i → length structures ≤ i → count_of structures t ≡ 0
  count-past i h b = opened (shape.Struct i) (ap out-Shape h ∙ outs-Struct i) ∙ ap (λ l. length (unwrap_or l [])) (zeros-past structures i b)

pub counted_sum : (a b : ℕ) → counted (counted a + counted b) ≡ counted (a + b)
counted_sum a b = omega arith

at_least : (n a b : ℕ) → b ≤ a → b ≤ suc n * a
at_least n a b h = let e = one_more n a in omega (arith, e, h)

by_bound : (n a : ℕ) → (a ≤ 2 ^ 64 - 1) ⊎ (2 ^ 64 - 1 ≤ a) → counted (suc n * counted a) ≡ counted (suc n * a)
by_bound n a (inl h) = ap (λ (b : ℕ). counted (suc n * b)) (omega (arith, h))
by_bound n a (inr h) =
    let these = at_least n (counted a) (2 ^ 64 - 1) (omega (arith, h)) in
    let those = at_least n a (2 ^ 64 - 1) h in
    omega (arith, these, those)

one_more_each : (a b : ℕ) → (a ≤ b) ⊎ (b ≤ a) → (suc a ≤ suc b) ⊎ (suc b ≤ suc a)
one_more_each a b (inl h) = inl (omega (arith, h))
one_more_each a b (inr h) = inr (omega (arith, h))

one_or_other : (a b : ℕ) → (a ≤ b) ⊎ (b ≤ a)
one_or_other zero b = inl (omega arith)
one_or_other (suc a) zero = inr (omega arith)
one_or_other (suc a) (suc b) = one_more_each a b (one_or_other a b)

pub counted_product : (n a : ℕ) → counted (n * counted a) ≡ counted (n * a)
counted_product zero a = ap counted (omega arith)
counted_product (suc n) a = by_bound n a (one_or_other a (2 ^ 64 - 1))

pub count_more : (structures : List Structure) (members : List Named) (i : ℕ) (d : Named) → i < length members →
    counted (member_count structures (take (i + 1) members)) ≡ counted (counted (member_count structures (take i members)) + counted (count_of structures (get_or members i d).1))
count_more structures members i d h =
    ap counted (ap length (members_more (structure_zeros structures) members i d h) ∙ length-append (member_zeros (structure_zeros structures) (take i members)) (zeros_over (structure_zeros structures) (get_or members i d).1))
    ∙ sym (counted_sum (member_count structures (take i members)) (count_of structures (get_or members i d).1))

pub ruleset of_counts = (count-Void, count-Int, count-Pointer, count-Func, count-Array, count-Struct, count-past, counted_product)

pub ruleset of_members = (count_more)

pub ruleset of_sums = (counted_sum)
