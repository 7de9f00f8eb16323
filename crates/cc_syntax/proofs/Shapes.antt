-- The layout of a type, and what having a size says of it, for each kind of type.
use Rattle.std.proofs.Common.{arith, ◌≡◌, ◌<◌, ◌≤◌, ◌*◌, ◌^◌, ℕ, suc, true, List, [], ◌∷◌, map, length, take, get_or, refl, ap, sym, ◌∙◌, Option, Some, None, unwrap_or, slice_get}
use Rattle.std.specs.List.{All}
use Rattle.std.proofs.lemmas.List.Elements.{Contains-get_or}
use Rattle.std.proofs.lemmas.Option.{slice_get_within, slice_get-get_or}
use Rattle.cc_program.specs.CcNum.declared.int_type.IntType.{IntType}
use Rattle.cc_program.specs.CcNum.declared.target.Target.{Target}
use Rattle.cc_program.specs.CcNum.Integers.{bytes_of}
use Rattle.cc_program.specs.declared.types.CType.{CType}
use Rattle.cc_program.specs.declared.types.Shape.{Shape, Void, Int, Pointer, Array, Struct, Func, out-Shape}
use Rattle.cc_program.specs.declared.types.Shape.TheOpen as shape
use Rattle.cc_program.specs.declared.types.Shape.TheVariants.{outs-Void, outs-Int, outs-Pointer, outs-Array, outs-Struct, outs-Func}
use Rattle.cc_program.specs.declared.types.Sig.{Sig}
use Rattle.cc_program.specs.declared.types.Structure.{Structure}
use Rattle.cc_syntax.specs.Layout.{scalar, nothing, structure, shape_layout, layouts, layout_of, size_of, member_layouts, HasSize, IsSmall}
use Rattle.cc_syntax.specs.Types.{Named, has_members, complete_shape, IsInOrder}
use Rattle.cc_syntax.proofs.TypeLayouts.{parts_layout, layout-opens, parts_complete, complete-opens}
use Rattle.cc_syntax.proofs.Prefixes.{layouts-at, layout-taken}
use Rattle.cc_syntax.proofs.Parts.{all_at, element_sized, element_small, member_sized, member_small}

pub product_fits : (n size : ℕ) → n < 2 ^ 32 → size ≤ 4294967295 → n * size < 2 ^ 64
product_fits n size h k = grind arith

module _ (t : CType) (structures : List Structure) (target : Target) where
  opened : (x : shape.Shape-F Shape CType Sig) → out-Shape t.shape ≡ x → layout_of t structures target ≡ shape_layout target (layouts target structures) (parts_layout target (layouts target structures) x)
  opened x h = layout-opens target (layouts target structures) t ∙ ap (λ y. shape_layout target (layouts target structures) (parts_layout target (layouts target structures) y)) h

  complete_at : (x : shape.Shape-F Shape CType Sig) → out-Shape t.shape ≡ x → HasSize t structures target → complete_shape structures (parts_complete structures x) ≡ true
  complete_at x h sized = sym (complete-opens structures t ∙ ap (λ y. complete_shape structures (parts_complete structures y)) h) ∙ sized.complete

  pub layout-Int : (i : IntType) → t.shape ≡ Int i → layout_of t structures target ≡ scalar (bytes_of i target) target
  layout-Int i h = opened (shape.Int i) (ap out-Shape h ∙ outs-Int i)

  pub layout-Pointer : (to : CType) → t.shape ≡ Pointer to → layout_of t structures target ≡ scalar target.pointer_bytes target
  layout-Pointer to h = opened (shape.Pointer to) (ap out-Shape h ∙ outs-Pointer to)

  pub layout-Array : (e : CType) (n : ℕ) → t.shape ≡ Array e n →
      layout_of t structures target ≡ record { size = n * (layout_of e structures target).size; align = (layout_of e structures target).align }
  layout-Array e n h = opened (shape.Array e n) (ap out-Shape h ∙ outs-Array e n)

  pub layout-Struct : (i : ℕ) (s : Structure) → t.shape ≡ Struct i → slice_get structures i ≡ Some s → layout_of t structures target ≡ structure (member_layouts s.members (take i structures) target)
  layout-Struct i s h g = opened (shape.Struct i) (ap out-Shape h ∙ outs-Struct i) ∙ ap (λ l. unwrap_or l nothing) (layouts-at target structures i s g)

  pub void_has_none : t.shape ≡ Void → HasSize t structures target → ⊥
  void_has_none h sized = let c = complete_at shape.Void (ap out-Shape h ∙ outs-Void) sized in absurd (cc)

  pub function_has_none : (s : Sig) → t.shape ≡ Func s → HasSize t structures target → ⊥
  function_has_none s h sized = let c = complete_at (shape.Func s) (ap out-Shape h ∙ outs-Func s) sized in absurd (cc)

  pub sized-Array : (e : CType) (n : ℕ) → t.shape ≡ Array e n → HasSize t structures target → HasSize e structures target
  sized-Array e n h sized = element_sized structures target t e n (ap out-Shape h ∙ outs-Array e n) sized

  pub fits-Array : (e : CType) (n : ℕ) → t.shape ≡ Array e n → HasSize t structures target → n < 2 ^ 32 → n * (layout_of e structures target).size < 2 ^ 64
  fits-Array e n h sized m = product_fits n (size_of e structures target) m (element_small structures target t e n (ap out-Shape h ∙ outs-Array e n) sized)

  there : (i : ℕ) (o : Option Structure) → slice_get structures i ≡ o → has_members o ≡ true → i < length structures
  there i None e h = absurd (cc)
  there i (Some s) e h = slice_get_within structures i s e

  pub struct_there : (i : ℕ) → t.shape ≡ Struct i → HasSize t structures target → i < length structures
  struct_there i h sized = there i (slice_get structures i) refl (complete_at (shape.Struct i) (ap out-Shape h ∙ outs-Struct i) sized)

  pub members_short : (i : ℕ) (s : Structure) → slice_get structures i ≡ Some s → HasSize t structures target → length s.members < 2 ^ 32
  members_short i s g sized = all_at (λ (s : Structure). length s.members < 2 ^ 32) structures i s g sized.short

  pub members_small : (i : ℕ) (s : Structure) → t.shape ≡ Struct i → slice_get structures i ≡ Some s → HasSize t structures target → All (λ m. IsSmall m.1 (take i structures) target) s.members
  members_small i s h g sized k d b =
      let o = ap out-Shape h ∙ outs-Struct i in
      let m = get_or s.members k d in
      let c = Contains-get_or s.members k d b in
      record { sized = member_sized structures target t i s m o g c sized; bytes = member_small structures target t i s m o g c sized }

-- what an index reads
pub read_at : {A : Type 0} → (xs : List A) (i : ℕ) (x : A) → x ≡ get_or xs i x → i < length xs → slice_get xs i ≡ Some x
read_at xs i x h b = slice_get-get_or xs i x b ∙ ap Some (sym h)

pub ruleset of_shapes = (layout-Int, layout-Pointer, layout-Array, layout-Struct, void_has_none, function_has_none, sized-Array, fits-Array, struct_there, members_short, members_small, read_at)

map_same : {A B : Type 0} → (f g : A → B) (xs : List A) → All (λ x. f x ≡ g x) xs → map f xs ≡ map g xs
map_same f g [] all = refl
map_same f g (x ∷ xs) all = let head = all 0 x (omega arith) in let tail = map_same f g xs (λ k d h. all (suc k) d (omega (arith, h))) in rw (head, tail) refl

-- a structure's layout is that of its members over all the structures
pub layout-structure : (t : CType) (i : ℕ) (s : Structure) (structures : List Structure) (target : Target) → IsInOrder structures → t.shape ≡ Struct i → slice_get structures i ≡ Some s →
    layout_of t structures target ≡ structure (member_layouts s.members structures target)
layout-structure t i s structures target order h g =
    layout-Struct t structures target i s h g
    ∙ ap structure (map_same (λ (m : Named). layout_of m.1 (take i structures) target) (λ (m : Named). layout_of m.1 structures target) s.members (λ k d b. layout-taken target structures i (get_or s.members k d).1 (order i s g k d b)))
