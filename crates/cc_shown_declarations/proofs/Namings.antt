-- Which structures a type names: in its words, or anywhere; opened at a level, and through declarators.
use Rattle.std.proofs.Common.{◌≡◌, ℕ, Bool, true, false, not, ◌||◌, List, map, Option, Some, None, refl, ap, sym, ◌∙◌, subst, nat_eq}
use Rattle.std.specs.Prelude.{if◌then◌else◌}
use Rattle.cc_print.specs.Units.{any_true, base_step as named_step, is_base, named_in_sig, is_named_in, is_named_by, naming}
use Rattle.cc_program.specs.declared.types.CType.{CType, fold_out-CType}
use Rattle.cc_program.specs.declared.types.Shape.{Shape, out-Shape, roll-Shape, out-roll-Shape, map-Shape, fold-Shape, fold_out-Shape}
use Rattle.cc_program.specs.declared.types.Shape.TheOpen as shape
use Rattle.cc_program.specs.declared.types.Sig.{Sig, out-Sig, out-roll-Sig, fold-Sig, fold_out-Sig}
use Rattle.cc_program.proofs.TypeInduction.{with_shape, TypeParts, by_type}
use Rattle.cc_program.specs.declared.types.Structure.{Structure}
use Rattle.cc_tree.specs.declared.tree.Declr.{Declr}
use Rattle.cc_expression_trees.specs.Types.{Core, Declares, DeclaresNothing, DeclaresName, DeclaresFunction, InParens, DeclaresPointer, DeclaresArray, DeclaresFunc}
use Rattle.cc_shown_declarations.specs.Order.{base_step, base_of}
use Rattle.cc_shown_declarations.proofs.Orders.{same, or-left}

-- ---- the words of a type

abbrev O : Type 0
O = Option ℕ

abbrev pub base_in : shape.Shape-F Shape CType Sig → O
base_in shape.Void = None
base_in (shape.Int t) = None
base_in (shape.Pointer to) = base_of to
base_in (shape.Array of n) = base_of of
base_in (shape.Struct i) = Some i
base_in (shape.Func sig) = base_of (out-Sig sig).result

sig-base : (sig : Sig) → fold-Sig O O O base_step (λ t. t.shape) (λ s. s.result) sig ≡ base_of (out-Sig sig).result
unfolding base_of
sig-base sig = fold_out-Sig O O O base_step (λ t. t.shape) (λ s. s.result) sig

abbrev base_parts : shape.Shape-F Shape CType Sig → shape.Shape-F O O O
base_parts x = map-Shape Shape CType Sig O O O (fold-Shape O O O base_step (λ t. t.shape) (λ s. s.result)) base_of (fold-Sig O O O base_step (λ t. t.shape) (λ s. s.result)) x

base-level : (x : shape.Shape-F Shape CType Sig) → base_step (base_parts x) ≡ base_in x
base-level shape.Void = refl
base-level (shape.Int t) = refl
base-level (shape.Pointer to) = refl
base-level (shape.Array of n) = refl
base-level (shape.Struct i) = refl
base-level (shape.Func sig) = sig-base sig

base-opens : (t : CType) → base_of t ≡ base_step (base_parts (out-Shape t.shape))
unfolding base_of
base-opens t = fold_out-CType O O O base_step (λ t. t.shape) (λ s. s.result) t ∙ fold_out-Shape O O O base_step (λ t. t.shape) (λ s. s.result) t.shape

pub base-at : (t : CType) (x : shape.Shape-F Shape CType Sig) → out-Shape t.shape ≡ x → base_of t ≡ base_in x
base-at t x e = base-opens t ∙ base-level (out-Shape t.shape) ∙ ap base_in e

-- ---- and the structures that it names at all

module _ (j : ℕ) where
  abbrev base_in_is : shape.Shape-F Shape CType Sig → Bool
  base_in_is shape.Void = false
  base_in_is (shape.Int t) = false
  base_in_is (shape.Pointer to) = is_base j to
  base_in_is (shape.Array of n) = is_base j of
  base_in_is (shape.Struct i) = nat_eq j i
  base_in_is (shape.Func sig) = is_base j (out-Sig sig).result

  sig-is-base : (sig : Sig) → fold-Sig Bool Bool Bool (named_step j) (λ t. t.shape) (λ s. s.result) sig ≡ is_base j (out-Sig sig).result
  unfolding is_base
  sig-is-base sig = fold_out-Sig Bool Bool Bool (named_step j) (λ t. t.shape) (λ s. s.result) sig

  abbrev is_base_parts : shape.Shape-F Shape CType Sig → shape.Shape-F Bool Bool Bool
  is_base_parts x = map-Shape Shape CType Sig Bool Bool Bool (fold-Shape Bool Bool Bool (named_step j) (λ t. t.shape) (λ s. s.result)) (is_base j) (fold-Sig Bool Bool Bool (named_step j) (λ t. t.shape) (λ s. s.result)) x

  is-base-level : (x : shape.Shape-F Shape CType Sig) → named_step j (is_base_parts x) ≡ base_in_is x
  is-base-level shape.Void = refl
  is-base-level (shape.Int t) = refl
  is-base-level (shape.Pointer to) = refl
  is-base-level (shape.Array of n) = refl
  is-base-level (shape.Struct i) = refl
  is-base-level (shape.Func sig) = sig-is-base sig

  is-base-opens : (t : CType) → is_base j t ≡ named_step j (is_base_parts (out-Shape t.shape))
  unfolding is_base
  is-base-opens t = fold_out-CType Bool Bool Bool (named_step j) (λ t. t.shape) (λ s. s.result) t ∙ fold_out-Shape Bool Bool Bool (named_step j) (λ t. t.shape) (λ s. s.result) t.shape

  is-base-at : (t : CType) (x : shape.Shape-F Shape CType Sig) → out-Shape t.shape ≡ x → is_base j t ≡ base_in_is x
  is-base-at t x e = is-base-opens t ∙ is-base-level (out-Shape t.shape) ∙ ap base_in_is e

  abbrev pub named_level : shape.Shape-F Shape CType Sig → Bool
  named_level shape.Void = false
  named_level (shape.Int t) = false
  named_level (shape.Pointer to) = is_named_in j to
  named_level (shape.Array of n) = is_named_in j of
  named_level (shape.Struct i) = nat_eq j i
  named_level (shape.Func sig) = is_named_in j (out-Sig sig).result || any_true (map (is_named_in j) (out-Sig sig).params)

  sig-named : (sig : Sig) → is_named_by j sig ≡ (is_named_in j (out-Sig sig).result || any_true (map (is_named_in j) (out-Sig sig).params))
  unfolding is_named_in is_named_by
  sig-named sig = fold_out-Sig Bool Bool Bool (named_step j) (λ t. t.shape) named_in_sig sig

  abbrev named_parts : shape.Shape-F Shape CType Sig → shape.Shape-F Bool Bool Bool
  named_parts x = map-Shape Shape CType Sig Bool Bool Bool (fold-Shape Bool Bool Bool (named_step j) (λ t. t.shape) named_in_sig) (is_named_in j) (is_named_by j) x

  named-level : (x : shape.Shape-F Shape CType Sig) → named_step j (named_parts x) ≡ named_level x
  named-level shape.Void = refl
  named-level (shape.Int t) = refl
  named-level (shape.Pointer to) = refl
  named-level (shape.Array of n) = refl
  named-level (shape.Struct i) = refl
  named-level (shape.Func sig) = sig-named sig

  named-opens : (t : CType) → is_named_in j t ≡ named_step j (named_parts (out-Shape t.shape))
  unfolding is_named_in is_named_by
  named-opens t = fold_out-CType Bool Bool Bool (named_step j) (λ t. t.shape) named_in_sig t ∙ fold_out-Shape Bool Bool Bool (named_step j) (λ t. t.shape) named_in_sig t.shape

  pub named-at : (t : CType) (x : shape.Shape-F Shape CType Sig) → out-Shape t.shape ≡ x → is_named_in j t ≡ named_level x
  named-at t x e = named-opens t ∙ named-level (out-Shape t.shape) ∙ ap named_level e

  -- ---- the words of a type name the structure where they are said to

  abbrev IsBase : CType → Type 0
  IsBase t = is_base j t ≡ true → base_of t ≡ Some j

  abbrev ResultIsBase : Sig → Type 0
  ResultIsBase s = IsBase (out-Sig s).result

  no-base : (t : CType) (x : shape.Shape-F Shape CType Sig) → out-Shape t.shape ≡ x → base_in_is x ≡ false → is_base j t ≡ true → ⊥
  no-base t x e h k = let g : false ≡ true = sym h ∙ sym (is-base-at t x e) ∙ k in absurd (cc)

  base-by : (t : CType) (x : shape.Shape-F Shape CType Sig) → out-Shape t.shape ≡ x → TypeParts IsBase ResultIsBase x → IsBase t
  base-by t shape.Void e h k = absurd (no-base t shape.Void e refl k)
  base-by t (shape.Int i) e h k = absurd (no-base t (shape.Int i) e refl k)
  base-by t (shape.Pointer to) e h k = base-at t (shape.Pointer to) e ∙ h (sym (is-base-at t (shape.Pointer to) e) ∙ k)
  base-by t (shape.Array of n) e h k = base-at t (shape.Array of n) e ∙ h (sym (is-base-at t (shape.Array of n) e) ∙ k)
  base-by t (shape.Struct i) e h k = base-at t (shape.Struct i) e ∙ ap (λ n. Some n) (sym (same j i (sym (is-base-at t (shape.Struct i) e) ∙ k)))
  base-by t (shape.Func sig) e h k = base-at t (shape.Func sig) e ∙ h (sym (is-base-at t (shape.Func sig) e) ∙ k)

  pub base-named : (t : CType) → is_base j t ≡ true → base_of t ≡ Some j
  base-named = by_type IsBase ResultIsBase (λ constant volatile x h. base-by (with_shape constant volatile (roll-Shape x)) x (out-roll-Shape x) h)
      (λ x h. subst (λ (y : shape.Sig-F Shape CType Sig). IsBase y.result) (sym (out-roll-Sig x)) h.0)

-- ---- through declarators

pub declared-base : (structures : List Structure) (b t : CType) (d : Declr) (core : Core) → Declares structures b d core t → base_of b ≡ base_of t
declared-base structures _ _ _ _ (DeclaresNothing t) = refl
declared-base structures _ _ _ _ (DeclaresName t x) = refl
declared-base structures _ _ _ _ (DeclaresFunction t x es ps at h) = refl
declared-base structures _ _ _ _ (InParens b t d core r) = declared-base structures b t d.node core r
declared-base structures _ _ _ _ (DeclaresPointer c b t d core e r) = sym (base-at c (shape.Pointer b) e) ∙ declared-base structures c t d.node core r
declared-base structures _ _ _ _ (DeclaresArray c b t n d core at e f g r) = sym (base-at c (shape.Array b n) e) ∙ declared-base structures c t d.node core r
declared-base structures _ _ _ _ (DeclaresFunc c t sig ps d core e f g k r) = sym (base-at c (shape.Func sig) e) ∙ declared-base structures c t d.node core r

-- what the type of the specifiers names, the declared type does
pub named-inside : (structures : List Structure) (j : ℕ) (b t : CType) (d : Declr) (core : Core) → Declares structures b d core t → is_named_in j b ≡ true → is_named_in j t ≡ true
named-inside structures j _ _ _ _ (DeclaresNothing t) h = h
named-inside structures j _ _ _ _ (DeclaresName t x) h = h
named-inside structures j _ _ _ _ (DeclaresFunction t x es ps at k) h = h
named-inside structures j _ _ _ _ (InParens b t d core r) h = named-inside structures j b t d.node core r h
named-inside structures j _ _ _ _ (DeclaresPointer c b t d core e r) h = named-inside structures j c t d.node core r (named-at j c (shape.Pointer b) e ∙ h)
named-inside structures j _ _ _ _ (DeclaresArray c b t n d core at e f g r) h = named-inside structures j c t d.node core r (named-at j c (shape.Array b n) e ∙ h)
named-inside structures j _ _ _ _ (DeclaresFunc c t sig ps d core e f g k r) h =
    named-inside structures j c t d.node core r (named-at j c (shape.Func sig) e ∙ or-left (is_named_in j (out-Sig sig).result) (any_true (map (is_named_in j) (out-Sig sig).params)) h)

-- where the naming of a structure by a type is
naming-by : (j : ℕ) (t : CType) (b : Bool) → is_named_in j t ≡ true → (if b then Some false else (if is_named_in j t then Some true else None)) ≡ Some (not b)
naming-by j t true h = refl
naming-by j t false h = ap (λ (c : Bool). if c then Some true else None) h

pub naming-is : (j : ℕ) (t : CType) → is_named_in j t ≡ true → naming j t ≡ Some (not (is_base j t))
naming-is j t h = naming-by j t (is_base j t) h
