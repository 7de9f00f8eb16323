-- The type of an object is complete where its initialiser begins, or its element's is, where that gives the bound (C99 6.7.5.2, 1; 6.7.8, 3 and 22).
use Rattle.std.proofs.Common.{◌≡◌, ℕ, zero, suc, Bool, true, false, not, ◌&&◌, ◌||◌, List, [], ◌∷◌, map, Option, Some, None, Ok, Err, refl, ap, sym, ◌∙◌, subst, arith, leb-true, lt-ltb}
use Rattle.std.specs.Prelude.{nat_le, nat_lt, slice_get, if◌then◌else◌}
use Rattle.cc_type.specs.CcInitialisers.Initialisers.{bound_given}
use Rattle.cc_type.specs.CcLinkage.Linkage.{is_visible, agrees, same_element, may_be_by, may_be, agrees_with, repeats, is_free_for, may_be_declared, may_be_main}
use Rattle.cc_type.specs.CcLinkage.declared.linkage.DeclaredAs.{DeclaredAs}
use Rattle.cc_program.specs.CcNum.declared.target.Target.{Target}
use Rattle.cc_type.specs.CcObjects.Names.{object_judged, linked_judged}
use Rattle.cc_type.specs.CcObjects.Types.{element_or, element_type, with_bound, contents_in, type_given, is_object_in, is_complete_or_unbounded, composite_of, composite_by, composite}
use Rattle.cc_operand_types.proofs.Operands.{must_ok}
use Rattle.cc_type.specs.CcOperands.Qualified.{plain, unqualified}
use Rattle.cc_type.specs.CcOperands.Verdicts.{must}
use Rattle.cc_type.specs.CcOperands.declared.rule.Rule.{Rule}
use Rattle.cc_type.specs.CcOperands.declared.rule.Rule.TheVariants as rule
use Rattle.cc_program.specs.declared.program.Roles.{Roles}
use Rattle.cc_program.specs.declared.types.CType.{CType}
use Rattle.cc_program.specs.declared.types.Shape.{Shape, Pointer, Array, out-Shape}
use Rattle.cc_program.specs.declared.types.Shape.TheOpen as shape
use Rattle.cc_program.specs.declared.types.Shape.TheVariants.{outs-Array, outs-Pointer, outs-Func}
use Rattle.cc_program.specs.declared.types.Sig.{Sig, roll-Sig}
use Rattle.cc_program.specs.declared.types.Structure.{Structure}
use Rattle.cc_type.specs.CcScopes.Linked.{linked_name}
use Rattle.cc_type.specs.CcScopes.State.{State, Name, Scope, structures_of, layouts_of, named_here}
use Rattle.cc_type.specs.CcScopes.declared.unit.Declared.{Declared}
use Rattle.cc_sound_declarations.proofs.Names.{object_is}
use Rattle.cc_sound_terms.proofs.Founds.{then_judged}
use Rattle.cc_type.specs.CcSpecifiers.Bounds.{is_bound}
use Rattle.cc_type.specs.CcSpecifiers.Declarators.{function_to, bound_or_none, derive_one, derive, broken_unless, breach, fault_or, derived_further, derived, type_found, is_unbounded_shape, is_unbounded}
use Rattle.cc_type.specs.CcSpecifiers.Objects.{is_object, size_of}
use Rattle.cc_type.specs.CcSpecifiers.Places.{JudgedAt}
use Rattle.cc_type.specs.CcSpecifiers.declared.derivation.Allowed.{Allowed}
use Rattle.cc_type.specs.CcSpecifiers.declared.derivation.Derivation.{Derivation}
use Rattle.cc_type.specs.CcSpecifiers.declared.derivation.Derivation.TheVariants as to
use Rattle.cc_type.specs.CcSpecifiers.declared.derivation.Parameter.{Parameter}
use Rattle.cc_type.proofs.CcSyntax.Prefixes.{both_true}
use Rattle.cc_type.proofs.CcSyntax.SameLemmas.{compared}
use Rattle.cc_type.proofs.CcSyntax.TypeLayouts.{parts_complete, complete-opens}
use Rattle.cc_type.specs.CcSyntax.Initial.{bound_shape}
use Rattle.cc_type.specs.CcSyntax.Kinds.{is_small}
use Rattle.cc_type.specs.CcSyntax.SameTypes.{same_type}
use Rattle.cc_type.specs.CcSyntax.Types.{complete_shape, is_complete}
use Rattle.cc_type.specs.CcSyntax.declared.sizes.Layout.{Layout}
use Rattle.cc_tree.specs.declared.at.At.{At}
use Rattle.cc_tree.specs.declared.unit.Given.{Given}

some_is : {A : Type 0} (a b : A) → Some a ≡ Some b → a ≡ b
some_is a b h = cc

-- ---- complete, or an array of what is complete

module _ (structures : List Structure) where
  pub data IsCompletable (t : CType) : Type 0 where
    Whole : is_complete structures t ≡ true → IsCompletable t
    Elements : (of : CType) (n : ℕ) → out-Shape t.shape ≡ shape.Array of n → is_complete structures of ≡ true → IsCompletable t

  array_complete : (t of : CType) (n : ℕ) → out-Shape t.shape ≡ shape.Array of n → nat_lt 0 n ≡ true → is_complete structures of ≡ true → is_complete structures t ≡ true
  array_complete t of n e b h =
      complete-opens structures t ∙ ap (λ (y : shape.Shape-F Shape CType Sig). complete_shape structures (parts_complete structures y)) e ∙ and_true (nat_lt 0 n) (is_complete structures of) b h
    where
      and_true : (a b : Bool) → a ≡ true → b ≡ true → a && b ≡ true
      and_true true b h k = k
      and_true false b h k = absurd (cc)

  -- ---- what a declarator derives

  unless_broken : (good : Bool) (broken : Rule) (at : ℕ) (next : JudgedAt CType) (t : CType) → fault_or at (broken_unless good broken) next ≡ Ok t → (good ≡ true) × (next ≡ Ok t)
  unless_broken true broken at next t h = (refl, h)
  unless_broken false broken at next t h = absurd (cc)

  unfaulted : (at : ℕ) (o : Option Rule) (j : JudgedAt CType) (t : CType) → fault_or at o j ≡ Ok t → j ≡ Ok t
  unfaulted at None j t h = h
  unfaulted at (Some broken) j t h = absurd (cc)

  abbrev ok_at : CType → JudgedAt CType
  ok_at t = Ok t

  at_is : (a b : CType) → ok_at a ≡ Ok b → a ≡ b
  at_is a b h = cc

  further_is : (d : Derivation Scope) (j : JudgedAt CType) (t : CType) → derived_further d j ≡ Ok t → (u : CType) × (j ≡ Ok u) × (t ≡ derive_one d u)
  further_is d (Ok u) t h = (u, refl, sym (at_is (derive_one d u) t h))
  further_is d (Err fault) t h = absurd (cc)

  module _ (target : Target) (layouts : List Layout) where
    -- behind all derivations the type is as they derive it
    derives : (void : Bool) (base : CType) (ds : List (At (Derivation Scope))) (t : CType) → derived target structures layouts void base ds ≡ Ok t → derive base ds ≡ t
    derives void base [] t h = at_is base t h
    derives void base (d ∷ ds) t h =
        let a = unfaulted d.at (breach target structures layouts void (derive base ds) d.node) (derived_further d.node (derived target structures layouts false base ds)) t h in
        let b = further_is d.node (derived target structures layouts false base ds) t a in
        ap (derive_one d.node) (derives false base ds b.0 b.1) ∙ sym b.2

    no_array : (c w : Bool) (u : CType) → is_unbounded (record { constant = c; volatile = w; shape = Pointer u }) ≡ true → ⊥
    no_array c w u h = let e : false ≡ true = sym (ap is_unbounded_shape (outs-Pointer u)) ∙ h in absurd (cc)

    no_function_array : (u : CType) (ps : List Parameter) → is_unbounded (function_to u ps) ≡ true → ⊥
    no_function_array u ps h = let e : false ≡ true = sym (ap is_unbounded_shape (outs-Func (roll-Sig (record { result = u; params = map (λ p. unqualified p.ctype) ps })))) ∙ h in absurd (cc)

    first_complete : (void : Bool) (base : CType) (d : At (Derivation Scope)) (k : Derivation Scope) (ds : List (At (Derivation Scope))) (t : CType) → d.node ≡ k → derived target structures layouts void base (d ∷ ds) ≡ Ok t → is_unbounded t ≡ true → IsCompletable t
    first_complete void base d (to.Array n) ds t e h u =
        let f = ap (λ (k : Derivation Scope). fault_or d.at (breach target structures layouts void (derive base ds) k) (derived_further k (derived target structures layouts false base ds))) (sym e) ∙ h in
        let a = unless_broken (is_object target structures layouts (derive base ds)) rule.NoObjectType d.at (derived_further {S = Scope} (to.Array n) (derived target structures layouts false base ds)) t f in
        let b = further_is (to.Array n) (derived target structures layouts false base ds) t a.1 in
        let of = derive base ds in
        let whole : t ≡ plain (Array of (bound_or_none n)) = b.2 ∙ ap (λ (z : CType). plain (Array z (bound_or_none n))) (sym (derives false base ds b.0 b.1)) in
        Elements of (bound_or_none n) (ap (λ (z : CType). out-Shape z.shape) whole ∙ outs-Array of (bound_or_none n)) (both_true (is_complete structures of) (is_small (size_of target structures layouts of)) a.0).0
    first_complete void base d (to.Pointer c w) ds t e h u =
        let f = ap (λ (k : Derivation Scope). fault_or d.at (breach target structures layouts void (derive base ds) k) (derived_further k (derived target structures layouts false base ds))) (sym e) ∙ h in
        let a = unfaulted d.at (breach target structures layouts {S = Scope} void (derive base ds) (to.Pointer c w)) (derived_further {S = Scope} (to.Pointer c w) (derived target structures layouts false base ds)) t f in
        let b = further_is (to.Pointer c w) (derived target structures layouts false base ds) t a in
        absurd (no_array c w b.0 (ap is_unbounded (sym b.2) ∙ u))
    first_complete void base d (to.Function ps scope) ds t e h u =
        let f = ap (λ (k : Derivation Scope). fault_or d.at (breach target structures layouts void (derive base ds) k) (derived_further k (derived target structures layouts false base ds))) (sym e) ∙ h in
        let a = unfaulted d.at (breach target structures layouts {S = Scope} void (derive base ds) (to.Function ps scope)) (derived_further {S = Scope} (to.Function ps scope) (derived target structures layouts false base ds)) t f in
        let b = further_is (to.Function ps scope) (derived target structures layouts false base ds) t a in
        absurd (no_function_array b.0 ps (ap is_unbounded (sym b.2) ∙ u))

    pub unbounded_completable : (allowed : Allowed) (base : CType) (ds : List (At (Derivation Scope))) (t : CType) → type_found target structures layouts allowed base ds ≡ Ok t → is_unbounded base ≡ false → is_unbounded t ≡ true → IsCompletable t
    unbounded_completable allowed base [] t h b u = let c : false ≡ true = sym b ∙ ap is_unbounded (at_is base t h) ∙ u in absurd (cc)
    unbounded_completable allowed base (d ∷ ds) t h b u = first_complete allowed.void base d d.node ds t refl h u

  -- ---- the type of an object that is given an initialiser

  positive : (n : ℕ) → is_bound n ≡ true → nat_lt 0 n ≡ true
  positive n h =
      let b = leb-true 1 n (both_true (nat_le 1 n) (nat_le n 65535) h).0 in
      lt-ltb 0 n b

  element_is : (t of : CType) (n : ℕ) → out-Shape t.shape ≡ shape.Array of n → element_type t ≡ of
  element_is t of n e = ap (element_or t) e

  bounded_complete : (t of : CType) (n : ℕ) (m : ℕ) → out-Shape t.shape ≡ shape.Array of n → is_complete structures of ≡ true → is_bound m ≡ true → is_complete structures (with_bound t m) ≡ true
  bounded_complete t of n m e h b =
      array_complete (with_bound t m) (element_type t) m (outs-Array (element_type t) m) (positive m b) (ap (is_complete structures) (element_is t of n e) ∙ h)

  said_bound : (b c : Bool) → b ≡ true → not b || c ≡ true → c ≡ true
  said_bound true c e h = h
  said_bound false c e h = absurd (cc)

  bounded_shape : (of : CType) (n : ℕ) → is_unbounded_shape (shape.Array of n) ≡ false → nat_lt 0 n ≡ true
  bounded_shape of zero h = absurd (cc)
  bounded_shape of (suc n) h = lt-ltb 0 (suc n) (omega arith)

  no_bound : (t : CType) → is_complete structures t ≡ true → is_unbounded t ≡ false
  no_bound t h = by_shape (out-Shape t.shape) (sym (complete-opens structures t) ∙ h)
    where
      by_shape : (y : shape.Shape-F Shape CType Sig) → complete_shape structures (parts_complete structures y) ≡ true → is_unbounded_shape y ≡ false
      by_shape (shape.Array of zero) g = absurd (cc)
      by_shape (shape.Array of (suc n)) g = refl
      by_shape shape.Void g = refl
      by_shape (shape.Int i) g = refl
      by_shape (shape.Pointer u) g = refl
      by_shape (shape.Struct i) g = refl
      by_shape (shape.Func s) g = refl

  abbrev bound_in : CType → ℕ
  bound_in u = bound_or_none (bound_shape (out-Shape u.shape))

  given_complete : (t : CType) (n : ℕ) (b : Bool) → is_unbounded t ≡ b → not (is_unbounded t) || is_bound (bound_in (if b then with_bound t n else t)) ≡ true → IsCompletable t → is_complete structures (if b then with_bound t n else t) ≡ true
  given_complete t n true e h (Whole c) = let f : false ≡ true = sym (no_bound t c) ∙ e in absurd (cc)
  given_complete t n true e h (Elements of m f c) =
      let g = said_bound (is_unbounded t) (is_bound (bound_in (with_bound t n))) e h in
      bounded_complete t of m n f c (ap is_bound (sym (ap (λ (y : shape.Shape-F Shape CType Sig). bound_or_none (bound_shape y)) (outs-Array (element_type t) n))) ∙ g)
  given_complete t n false e h (Whole c) = c
  given_complete t n false e h (Elements of m f c) = array_complete t of m f (bounded_shape of m (ap is_unbounded_shape (sym f) ∙ e)) c

pub type_complete : (t : CType) (g : At Given) (s : State) → not (is_unbounded t) || is_bound (bound_or_none (bound_shape (out-Shape (type_given t (Some g) s).shape))) ≡ true → IsCompletable (structures_of s) t → is_complete (structures_of s) (type_given t (Some g) s) ≡ true
type_complete t g s h c = given_complete (structures_of s) t (bound_given (contents_in (element_type t) s) g.node) (is_unbounded t) refl h c

-- complete or without a bound, where that derives it
pub judged_completable : (target : Target) (t : CType) (s : State) → is_complete_or_unbounded target s t ≡ true → (is_unbounded t ≡ true → IsCompletable (structures_of s) t) → IsCompletable (structures_of s) t
judged_completable target t s h f = by_bound (is_unbounded t) refl h
  where
    by_bound : (b : Bool) → is_unbounded t ≡ b → b || is_object_in target s t ≡ true → IsCompletable (structures_of s) t
    by_bound true e g = f e
    by_bound false e g = Whole (both_true (is_complete (structures_of s) t) (is_small (size_of target (structures_of s) (layouts_of s) t)) g).0

-- ---- the composite type (6.2.7, 4)

linked_may : (target : Target) (roles : Roles) (asked : DeclaredAs) (x : Name) (t u : CType) (s : State) → linked_judged target roles asked x t s ≡ Ok u → may_be_declared asked x t s ≡ true
linked_may target roles asked x t u s h =
    let a = then_judged (object_judged target roles x t s) (λ t. must (may_be_main x t) rule.MainOrIntrinsic (must (may_be_declared asked x t s) rule.DeclaredTwice (Ok t))) u h in
    let b = must_ok (may_be_main x a.0) rule.MainOrIntrinsic (must (may_be_declared asked x a.0 s) rule.DeclaredTwice (Ok a.0)) u a.2 in
    let c = must_ok (may_be_declared asked x a.0 s) rule.DeclaredTwice (Ok a.0) u b.1 in
    subst (λ (z : CType). may_be_declared asked x z s ≡ true) (sym (same_object t a.0 a.1)) c.0
  where
    same_object : (t u : CType) → object_judged target roles x t s ≡ Ok u → t ≡ u
    same_object t u g = (object_is target roles x t u s g).0

same_elements : (structures : List Structure) (of u : CType) (y : shape.Shape-F Shape CType Sig) → out-Shape u.shape ≡ y → is_complete structures of ≡ true → same_element of y ≡ true → IsCompletable structures u
same_elements structures of u (shape.Array other n) e c h = Elements other n e (ap (is_complete structures) (sym ((compared of).same other h)) ∙ c)
same_elements structures of u shape.Void e c h = absurd (cc)
same_elements structures of u (shape.Int i) e c h = absurd (cc)
same_elements structures of u (shape.Pointer to) e c h = absurd (cc)
same_elements structures of u (shape.Struct i) e c h = absurd (cc)
same_elements structures of u (shape.Func s) e c h = absurd (cc)

unbounded_of : (y : shape.Shape-F Shape CType Sig) (of : CType) (n : ℕ) → y ≡ shape.Array of n → is_unbounded_shape y ≡ true → y ≡ shape.Array of 0
unbounded_of y of zero e h = e
unbounded_of y of (suc n) e h = let f : false ≡ true = sym (ap is_unbounded_shape e) ∙ h in absurd (cc)

other_completable : (structures : List Structure) (t u : CType) → is_unbounded t ≡ true → may_be t u ≡ true → IsCompletable structures t → IsCompletable structures u
other_completable structures t u e h (Whole c) = let f : false ≡ true = sym (no_bound structures t c) ∙ e in absurd (cc)
other_completable structures t u e h (Elements of n f c) =
    same_elements structures of u (out-Shape u.shape) refl c (ap (may_be_by t u) (sym (unbounded_of (out-Shape t.shape) of n f e)) ∙ h)

composite_if : (structures : List Structure) (asked : DeclaredAs) (t : CType) (visible : Bool) (o : Option Declared) → agrees_with asked visible t o ≡ true → IsCompletable structures t → IsCompletable structures (composite_of t visible o)
composite_if structures asked t visible None h c = absurd (cc)
composite_if structures asked t visible (Some d) h c = by_bound (visible && is_unbounded t) refl
  where
    by_bound : (b : Bool) → visible && is_unbounded t ≡ b → IsCompletable structures (if b then d.ctype else t)
    by_bound true e = other_completable structures t d.ctype (both_true visible (is_unbounded t) e).1 (both_true (agrees asked visible d.linkage) (may_be t d.ctype) h).1 c
    by_bound false e = c

composite_known : (asked : DeclaredAs) (x : Name) (t : CType) (s : State) (o : Option ℕ) → repeats asked x t s o ≡ true → IsCompletable (structures_of s) t → IsCompletable (structures_of s) (composite_by x t s o)
composite_known asked x t s None h c = c
composite_known asked x t s (Some i) h c = composite_if (structures_of s) asked t (is_visible i x s) (slice_get s.names i) h c

pub composite_completable : (target : Target) (roles : Roles) (asked : DeclaredAs) (x : Name) (t u : CType) (s : State) → linked_judged target roles asked x t s ≡ Ok u → IsCompletable (structures_of s) t → IsCompletable (structures_of s) (composite x t s)
composite_completable target roles asked x t u s h c =
    composite_known asked x t s (linked_name x s) (both_true (is_free_for (linked_name x s) (named_here x s)) (repeats asked x t s (linked_name x s)) (linked_may target roles asked x t u s h)).1 c
