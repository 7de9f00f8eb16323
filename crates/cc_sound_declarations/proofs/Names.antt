-- What is judged of names that are declared, and how an entry is told more of.
use Rattle.std.proofs.Common.{◌≡◌, Bool, true, false, not, ◌&&◌, Option, Ok, Err, ◌∙◌}
use Rattle.std.specs.Prelude.{is_some, if◌then◌else◌}
use Rattle.cc_typed_bodies.specs.CcTypedTerms.Names.{new_name}
use Rattle.cc_typed_bodies.specs.CcLinkage.Linkage.{may_be_declared, may_be_main}
use Rattle.cc_typed_bodies.specs.CcLinkage.declared.linkage.DeclaredAs.{DeclaredAs}
use Rattle.cc_program.specs.CcNum.declared.target.Target.{Target}
use Rattle.cc_typed_bodies.specs.CcObjects.Names.{function_judged, is_prototype, prototype_judged, typedef_judged, object_judged, linked_judged, local_judged, name_judged}
use Rattle.cc_typed_bodies.specs.CcObjects.Types.{is_complete_or_unbounded}
use Rattle.cc_typed_bodies.specs.CcObjects.declared.category.Category.{Category}
use Rattle.cc_typed_bodies.specs.CcObjects.declared.category.Category.TheVariants as declares
use Rattle.cc_typed_bodies.specs.CcOperands.Verdicts.{must}
use Rattle.cc_typed_bodies.specs.CcOperands.declared.rule.Rule.TheVariants as rule
use Rattle.cc_operand_types.proofs.Operands.{given, ok_is, must_ok}
use Rattle.cc_typed_bodies.specs.CcTypedTerms.Primary.{intrinsic_named, is_intrinsic}
use Rattle.cc_program.specs.declared.func.Entry.{Entry}
use Rattle.cc_program.specs.declared.program.Roles.{Roles}
use Rattle.cc_program.specs.declared.types.CType.{CType}
use Rattle.cc_typed_bodies.specs.CcScopes.State.{State, Name}
use Rattle.cc_sound_terms.proofs.Founds.{then_judged}

type_same : (t u : CType) → given t ≡ Ok u → t ≡ u
type_same t u h = ok_is h

-- an object, with a complete type, where its initialiser does not complete it
abbrev pub IsOfObject : Category → Type 0
IsOfObject declares.Typedef = ⊥
IsOfObject (declares.Function asked) = ⊥
IsOfObject (declares.Linked asked) = Unit {0}
IsOfObject declares.StaticLocal = Unit {0}
IsOfObject declares.Automatic = Unit {0}

pub record IsJudged (target : Target) (c : Category) (t u : CType) (s : State) : Type 0 where
  pub same : t ≡ u
  pub object : IsOfObject c → is_complete_or_unbounded target s t ≡ true

module _ (target : Target) (roles : Roles) where
  pub object_is : (x : Name) (t u : CType) (s : State) → object_judged target roles x t s ≡ Ok u → (t ≡ u) × (is_complete_or_unbounded target s t ≡ true)
  object_is x t u s h = by_name (is_intrinsic roles x) h
    where
      by_name : (b : Bool) → (if b then Err rule.MainOrIntrinsic else must (is_complete_or_unbounded target s t) rule.NoObjectType (Ok t)) ≡ Ok u → (t ≡ u) × (is_complete_or_unbounded target s t ≡ true)
      by_name true g = absurd (cc)
      by_name false g = let m = must_ok (is_complete_or_unbounded target s t) rule.NoObjectType (Ok t) u g in (type_same t u m.1, m.0)

  typedef_is : (x : Name) (t u : CType) (s : State) → typedef_judged roles x t s ≡ Ok u → t ≡ u
  typedef_is x t u s h = let a = then_judged (new_name roles x s) (λ x. Ok t) u h in type_same t u a.2

  function_is : (asked : DeclaredAs) (x : Name) (t u : CType) (s : State) → function_judged asked x t s ≡ Ok u → t ≡ u
  function_is asked x t u s h =
      let a = must_ok (may_be_main x t) rule.MainOrIntrinsic (must (may_be_declared asked x t s) rule.DeclaredTwice (Ok t)) u h in
      let b = must_ok (may_be_declared asked x t s) rule.DeclaredTwice (Ok t) u a.1 in
      type_same t u b.1

  prototype_is : (asked : DeclaredAs) (x : Name) (t u : CType) (entry : Option Entry) (s : State) → prototype_judged roles asked x t entry s ≡ Ok u → t ≡ u
  prototype_is asked x t u entry s h = by_name (is_intrinsic roles x) h
    where
      by_name : (b : Bool) → (if b then must (is_prototype t (intrinsic_named roles x) && not (is_some entry)) rule.MainOrIntrinsic (Ok t) else function_judged asked x t s) ≡ Ok u → t ≡ u
      by_name true g = type_same t u (must_ok (is_prototype t (intrinsic_named roles x) && not (is_some entry)) rule.MainOrIntrinsic (Ok t) u g).1
      by_name false g = function_is asked x t u s g

  linked_is : (asked : DeclaredAs) (x : Name) (t u : CType) (s : State) → linked_judged target roles asked x t s ≡ Ok u → (t ≡ u) × (is_complete_or_unbounded target s t ≡ true)
  linked_is asked x t u s h =
      let a = then_judged (object_judged target roles x t s) (λ t. must (may_be_main x t) rule.MainOrIntrinsic (must (may_be_declared asked x t s) rule.DeclaredTwice (Ok t))) u h in
      let o = object_is x t a.0 s a.1 in
      let b = must_ok (may_be_main x a.0) rule.MainOrIntrinsic (must (may_be_declared asked x a.0 s) rule.DeclaredTwice (Ok a.0)) u a.2 in
      let c = must_ok (may_be_declared asked x a.0 s) rule.DeclaredTwice (Ok a.0) u b.1 in
      (o.0 ∙ type_same a.0 u c.1, o.1)

  local_is : (x : Name) (t u : CType) (s : State) → local_judged target roles x t s ≡ Ok u → (t ≡ u) × (is_complete_or_unbounded target s t ≡ true)
  local_is x t u s h =
      let a = then_judged (object_judged target roles x t s) (λ t. typedef_judged roles x t s) u h in
      let o = object_is x t a.0 s a.1 in
      (o.0 ∙ typedef_is x a.0 u s a.2, o.1)

  pub name_is : (c : Category) (x : Name) (t u : CType) (entry : Option Entry) (s : State) → name_judged target roles c x t entry s ≡ Ok u → IsJudged target c t u s
  name_is declares.Typedef x t u entry s h = record { same = typedef_is x t u s h; object = λ o. absurd o }
  name_is (declares.Function asked) x t u entry s h = record { same = prototype_is asked x t u entry s h; object = λ o. absurd o }
  name_is (declares.Linked asked) x t u entry s h = let a = linked_is asked x t u s h in record { same = a.0; object = λ o. a.1 }
  name_is declares.StaticLocal x t u entry s h = let a = local_is x t u s h in record { same = a.0; object = λ o. a.1 }
  name_is declares.Automatic x t u entry s h = let a = local_is x t u s h in record { same = a.0; object = λ o. a.1 }
