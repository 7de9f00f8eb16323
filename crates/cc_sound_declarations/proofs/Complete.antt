-- The type of an object to which an initialiser gives its bound is complete, as its element is: of an array without a bound that is judged where its declarator is read.
use Rattle.std.proofs.Common.{◌≡◌, ◌<◌, ℕ, Bool, true, false, not, ◌&&◌, ◌||◌, List, [], ◌∷◌, Option, Some, None, Ok, Err, refl, ap, sym, ◌∙◌, subst, leb-true, lt-ltb}
use Rattle.std.specs.Prelude.{nat_le, nat_lt, if◌then◌else◌}
use Rattle.cc_typed_bodies.specs.CcInitialisers.Initialisers.{bound_given}
use Rattle.cc_program.specs.CcNum.declared.target.Target.{Target}
use Rattle.cc_typed_bodies.specs.CcObjects.Types.{element_or, element_type, with_bound, contents_in, type_given, is_object_in, is_complete_or_unbounded}
use Rattle.cc_typed_bodies.specs.CcOperands.Qualified.{plain}
use Rattle.cc_typed_bodies.specs.CcOperands.declared.rule.Rule.{Rule}
use Rattle.cc_program.specs.declared.types.CType.{CType}
use Rattle.cc_program.specs.declared.types.Shape.{Shape, Array, out-Shape}
use Rattle.cc_program.specs.declared.types.Shape.TheOpen as shape
use Rattle.cc_program.specs.declared.types.Shape.TheVariants.{outs-Pointer, outs-Array, outs-Func}
use Rattle.cc_program.specs.declared.types.Sig.{Sig, roll-Sig}
use Rattle.cc_program.specs.declared.types.Structure.{Structure}
use Rattle.cc_typed_bodies.specs.CcScopes.State.{State, Scope, structures_of, layouts_of}
use Rattle.cc_typed_bodies.specs.CcSpecifiers.Bounds.{is_bound}
use Rattle.cc_typed_bodies.specs.CcSpecifiers.Declarators.{bound_or_none, function_to, derive_one, derive, is_unbounded_shape, is_unbounded, broken_unless, breach, fault_or, derived_further, derived}
use Rattle.cc_typed_bodies.specs.CcSpecifiers.Objects.{size_of, is_object}
use Rattle.cc_typed_bodies.specs.CcSpecifiers.Places.{JudgedAt}
use Rattle.cc_typed_bodies.specs.CcSpecifiers.declared.derivation.Derivation.{Derivation}
use Rattle.cc_typed_bodies.specs.CcSpecifiers.declared.derivation.Derivation.TheVariants as to
use Rattle.cc_typed_bodies.specs.CcSpecifiers.declared.derivation.Parameter.{Parameter}
use Rattle.cc_typed_bodies.proofs.CcSyntax.Prefixes.{both_true}
use Rattle.cc_typed_bodies.proofs.CcSyntax.TypeLayouts.{parts_complete, complete-opens}
use Rattle.cc_typed_bodies.specs.CcSyntax.Initial.{bound_shape}
use Rattle.cc_typed_bodies.specs.CcSyntax.Kinds.{is_small}
use Rattle.cc_typed_bodies.specs.CcSyntax.Types.{complete_shape, is_complete}
use Rattle.cc_typed_bodies.specs.CcSyntax.declared.sizes.Layout.{Layout}
use Rattle.cc_tree.specs.declared.at.At.{At}
use Rattle.cc_tree.specs.declared.unit.Given.{Given}

both : (a b : Bool) → a ≡ true → b ≡ true → a && b ≡ true
both true b h k = k
both false b h k = absurd (cc)

abbrev ok_at : CType → JudgedAt CType
ok_at t = Ok t

ok_type : (t u : CType) → ok_at t ≡ Ok u → t ≡ u
ok_type t u h = cc

-- ---- arrays

positive : (n : ℕ) → is_bound n ≡ true → nat_lt 0 n ≡ true
positive n h = lt-ltb 0 n (leb-true 1 n (both_true (nat_le 1 n) (nat_le n 65535) h).0)

array_complete : (structures : List Structure) (of : CType) (n : ℕ) → nat_lt 0 n ≡ true → is_complete structures of ≡ true → is_complete structures (plain (Array of n)) ≡ true
array_complete structures of n h k =
    complete-opens structures (plain (Array of n)) ∙ ap (λ y. complete_shape structures (parts_complete structures y)) (outs-Array of n) ∙ both (nat_lt 0 n) (is_complete structures of) h k

bound_is : (t : CType) (n : ℕ) → bound_or_none (bound_shape (out-Shape (with_bound t n).shape)) ≡ n
bound_is t n = ap (λ (y : shape.Shape-F Shape CType Sig). bound_or_none (bound_shape y)) (outs-Array (element_type t) n)

pub given_complete : (target : Target) (t : CType) (g : At Given) (s : State) → (is_unbounded t ≡ true → is_complete (structures_of s) (element_type t) ≡ true) → is_complete_or_unbounded target s t ≡ true →
    not (is_unbounded t) || is_bound (bound_or_none (bound_shape (out-Shape (type_given t (Some g) s).shape))) ≡ true → is_complete (structures_of s) (type_given t (Some g) s) ≡ true
given_complete target t g s f o b = of_test (is_unbounded t) f o b
  where
    n : ℕ
    n = bound_given (contents_in (element_type t) s) g.node

    of_test : (c : Bool) → (c ≡ true → is_complete (structures_of s) (element_type t) ≡ true) → c || is_object_in target s t ≡ true →
        not c || is_bound (bound_or_none (bound_shape (out-Shape (if c then with_bound t (bound_given (contents_in (element_type t) s) g.node) else t).shape))) ≡ true →
        is_complete (structures_of s) (if c then with_bound t (bound_given (contents_in (element_type t) s) g.node) else t) ≡ true
    of_test true f o b =
        array_complete (structures_of s) (element_type t) (bound_given (contents_in (element_type t) s) g.node)
        (positive (bound_given (contents_in (element_type t) s) g.node) (sym (ap is_bound (bound_is t (bound_given (contents_in (element_type t) s) g.node))) ∙ b)) (f refl)
    of_test false f o b = (both_true (is_complete (structures_of s) t) (is_small (size_of target (structures_of s) (layouts_of s) t)) o).0

-- ---- an array without a bound has a complete element

not_broken : (at : ℕ) (o : Option Rule) (j : JudgedAt CType) (t : CType) → fault_or at o j ≡ Ok t → (o ≡ None) × (j ≡ Ok t)
not_broken at None j t h = (refl, h)
not_broken at (Some broken) j t h = absurd (cc)

good_unless : (b : Bool) (broken : Rule) → broken_unless b broken ≡ None → b ≡ true
good_unless true broken h = refl
good_unless false broken h = absurd (cc)

module _ (target : Target) (structures : List Structure) (layouts : List Layout) where
  further_is : (d : Derivation Scope) (j : JudgedAt CType) (t of : CType) → ((u : CType) → j ≡ Ok u → u ≡ of) → derived_further d j ≡ Ok t → t ≡ derive_one d of
  further_is d (Ok u) t of f h = sym (ok_type (derive_one d u) t h) ∙ ap (derive_one d) (f u refl)
  further_is d (Err fault) t of f h = absurd (cc)

  pub derived_is : (void : Bool) (base : CType) (ds : List (At (Derivation Scope))) (t : CType) → derived target structures layouts void base ds ≡ Ok t → t ≡ derive base ds
  derived_is void base [] t h = sym (ok_type base t h)
  derived_is void base (d ∷ ds) t h =
      further_is d.node (derived target structures layouts false base ds) t (derive base ds) (λ u e. derived_is false base ds u e)
      (not_broken d.at (breach target structures layouts void (derive base ds) d.node) (derived_further d.node (derived target structures layouts false base ds)) t h).1

  by_derivation : (void : Bool) (d : Derivation Scope) (of t : CType) → breach target structures layouts void of d ≡ None → t ≡ derive_one d of → is_unbounded t ≡ true → is_complete structures (element_type t) ≡ true
  by_derivation void (to.Pointer constant volatile) of t b e u = let c : false ≡ true = sym (ap is_unbounded_shape (outs-Pointer of)) ∙ sym (ap is_unbounded e) ∙ u in absurd (cc)
  by_derivation void (to.Array n) of t b e u =
      let o = good_unless (is_object target structures layouts of) _ b in
      ap (λ (y : CType). is_complete structures (element_type y)) e
      ∙ ap (λ (y : shape.Shape-F Shape CType Sig). is_complete structures (element_or (plain (Array of (bound_or_none n))) y)) (outs-Array of (bound_or_none n))
      ∙ (both_true (is_complete structures of) (is_small (size_of target structures layouts of)) o).0
  by_derivation void (to.Function ps scope) of t b e u =
      let c : false ≡ true = sym (function_bounded of ps) ∙ sym (ap is_unbounded e) ∙ u in absurd (cc)
    where
      function_bounded : (of : CType) (ps : List Parameter) → is_unbounded (function_to of ps) ≡ false
      function_bounded of ps = ap is_unbounded_shape (outs-Func _)

  pub element_complete : (void : Bool) (base : CType) (ds : List (At (Derivation Scope))) (t : CType) → derived target structures layouts void base ds ≡ Ok t → is_unbounded base ≡ false → is_unbounded t ≡ true →
      is_complete structures (element_type t) ≡ true
  element_complete void base [] t h b u = let c : true ≡ false = sym u ∙ ap is_unbounded (sym (ok_type base t h)) ∙ b in absurd (cc)
  element_complete void base (d ∷ ds) t h b u =
      by_derivation void d.node (derive base ds) t
      (not_broken d.at (breach target structures layouts void (derive base ds) d.node) (derived_further d.node (derived target structures layouts false base ds)) t h).0
      (derived_is void base (d ∷ ds) t h) u
