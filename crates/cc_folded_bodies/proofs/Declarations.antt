-- The assignments by which a declaration initialises automatic objects are folded (C99 6.7, 6.7.8).
use Rattle.std.proofs.Common.{◌≡◌, ℕ, Bool, true, false, List, [], ◌∷◌, ◌++◌, map, length, Option, Some, None, Ok, subst}
use Rattle.std.specs.Prelude.{slice_get, if◌then◌else◌}
use Rattle.cc_typed_bodies.specs.CcInitialisers.Initialisers.{here as given_here, initialised, refused_by}
use Rattle.cc_typed_bodies.specs.CcInitialisers.Scalars.{scalars_from}
use Rattle.cc_typed_bodies.specs.CcLinkage.Linkage.{declared}
use Rattle.cc_typed_bodies.specs.CcLinkage.declared.linkage.DeclaredAs.{DeclaredAs}
use Rattle.cc_typed_bodies.specs.CcLinkage.declared.linkage.DeclaredAs.TheVariants.{AsStatic, AsObject, AsExtern}
use Rattle.cc_program.specs.CcNum.declared.target.Target.{Target}
use Rattle.cc_typed_bodies.specs.CcObjects.Categories.{category_of, entity_of, setting_of}
use Rattle.cc_typed_bodies.specs.CcObjects.Linked.{object_declared, with_static, with_automatic}
use Rattle.cc_typed_bodies.specs.CcObjects.Names.{name_judged}
use Rattle.cc_typed_bodies.specs.CcObjects.Tags.{in_front, aliased}
use Rattle.cc_typed_bodies.specs.CcObjects.Types.{contents_in, type_given, given_incomplete, completed_type, type_agrees, composite}
use Rattle.cc_typed_bodies.specs.CcObjects.Values.{expr_given, no_expr, assignments}
use Rattle.cc_typed_bodies.specs.CcObjects.declared.category.Category.{Category}
use Rattle.cc_typed_bodies.specs.CcObjects.declared.category.Category.TheVariants as declares
use Rattle.cc_typed_bodies.specs.CcOperands.Qualified.{is_function_type, without_const}
use Rattle.cc_typed_bodies.specs.CcOperands.declared.rule.Rule.TheVariants as rule
use Rattle.cc_program.proofs.Each.{Each}
use Rattle.cc_program.specs.declared.expr.Expr.{Expr}
use Rattle.cc_program.specs.declared.expr.Place.{Local}
use Rattle.cc_program.specs.declared.program.Roles.{Roles}
use Rattle.cc_program.specs.declared.types.CType.{CType}
use Rattle.cc_typed_bodies.specs.CcScopes.Definitions.{tentative_at, defined_at, with_values}
use Rattle.cc_typed_bodies.specs.CcScopes.State.{State, Name, bind, change_name, with_unfinished}
use Rattle.cc_typed_bodies.specs.CcScopes.Verdicts.{whole, and_then}
use Rattle.cc_typed_bodies.specs.CcScopes.declared.designated.Designated.TheVariants as means
use Rattle.cc_typed_bodies.specs.CcSpecifiers.Attributes.{entry_by}
use Rattle.cc_typed_bodies.specs.CcSpecifiers.Modes.{modes_judged}
use Rattle.cc_typed_bodies.specs.CcSpecifiers.declared.attribute.Attribute.{Attribute}
use Rattle.cc_typed_bodies.specs.CcSpecifiers.declared.specifier.Specified.{Specified}
use Rattle.cc_typed_bodies.specs.CcSpecifiers.declared.storage.Where.{Where}
use Rattle.cc_typed_bodies.specs.CcTerms.Specifiers.{specified_found}
use Rattle.cc_typed_bodies.specs.CcTerms.Terms.{spec_here, declr_of}
use Rattle.cc_tree.specs.declared.at.At.{At}
use Rattle.cc_tree.specs.declared.unit.Decl.{Decl}
use Rattle.cc_tree.specs.declared.unit.Given.{Given}
use Rattle.cc_tree.specs.declared.unit.Init.{Init}
use Rattle.cc_typed_bodies.specs.Declarations.{marked, init_allowed, declared_left, declared_with, named_found, init_found, init_next, inits_found, declaration}
use Rattle.cc_typed_bodies.specs.Functions.{typedef_left, with_function, function_refused}
use Rattle.cc_typed_bodies.specs.Objects.{leaves_found, exprs_found, linked_defined, linked_given, static_given, automatic_given}
use Rattle.cc_typed_bodies.specs.Plans.{steps_done}
use Rattle.cc_typed_bodies.specs.CcTypedTerms.Declarators.{derived_type}
use Rattle.cc_typed_bodies.specs.CcTypedTerms.Primary.{is_intrinsic, leaves_or_none}
use Rattle.cc_typed_bodies.specs.CcUnit.declared.unit.UnitKind.TheVariants as kind
use Rattle.cc_folded_operands.proofs.Opened.{local_folded}
use Rattle.cc_folded_terms.proofs.Founds.{answer, answer_is, then_found, each_append, in_turn_found}
use Rattle.cc_folded_bodies.proofs.Initialisers.{scalars_folded, assignments_folded, steps_folded}
use Rattle.cc_folded_bodies.proofs.Statements.{Folded}

module _ (target : Target) (roles : Roles) where
  abbrev pub AreFoldedExprs : List Expr → Type 0
  AreFoldedExprs es = Each (Folded target) es

  nothing_is : (s : State) (r : List Expr × State) → answer {A = List Expr} [] s ≡ Ok r → AreFoldedExprs r.0
  nothing_is s r h = subst AreFoldedExprs (answer_is [] s r h) tt

  typedef_folded : (at : ℕ) (x : Name) (t : CType) (marks : List (At (List Attribute))) (s : State) (r : List Expr × State) → typedef_left target at x t marks s ≡ Ok r → AreFoldedExprs r.0
  typedef_folded at x t marks s r h =
      let y = then_found (whole at s (modes_judged target marks t)) (λ t s. Ok ([], bind x (means.TypeNamed t) s)) r h in nothing_is (bind x (means.TypeNamed y.0.0) y.0.1) r y.2

  refused_folded : (g : Option (At Given)) (s : State) (r : List Expr × State) → function_refused target roles g s ≡ Ok r → AreFoldedExprs r.0
  refused_folded None s r h = nothing_is s r h
  refused_folded (Some g) s r h = steps_folded target roles (refused_by rule.InitialiserShape (given_here g)) s r h

  function_by : (b : Bool) (asked : DeclaredAs) (x : Name) (t : CType) (marks : List (At (List Attribute))) (g : Option (At Given)) (s : State) (r : List Expr × State) →
      (if b then function_refused target roles g s else function_refused target roles g (with_function (entry_by marks) (declared x asked t (kind.Func None None) s))) ≡ Ok r → AreFoldedExprs r.0
  function_by true asked x t marks g s r h = refused_folded g s r h
  function_by false asked x t marks g s r h = refused_folded g (with_function (entry_by marks) (declared x asked t (kind.Func None None) s)) r h

  defined_folded : (at : ℕ) (t u : CType) (n : ℕ) (g : At Given) (s : State) (r : List Expr × State) → linked_defined target roles at t u n g s ≡ Ok r → AreFoldedExprs r.0
  defined_folded at t u n g s r h =
      let y = then_found (leaves_found target roles at n t u g s) (λ values s. and_then (whole at s (type_agrees u (slice_get s.names n))) (λ u s. Ok ([], change_name n (defined_at at u (kind.Object (leaves_or_none values))) s))) r h in
      let z = then_found (whole at y.0.1 (type_agrees u (slice_get y.0.1.names n))) (λ u s. Ok ([], change_name n (defined_at at u (kind.Object (leaves_or_none y.0.0))) s)) r y.2 in
      nothing_is (change_name n (defined_at at z.0.0 (kind.Object (leaves_or_none y.0.0))) z.0.1) r z.2

  linked_folded : (at : ℕ) (asked : DeclaredAs) (t u : CType) (n : ℕ) (g : Option (At Given)) (s : State) (r : List Expr × State) → linked_given target roles at asked t u n g s ≡ Ok r → AreFoldedExprs r.0
  linked_folded at asked t u n (Some g) s r h = defined_folded at t u n g s r h
  linked_folded at AsExtern t u n None s r h = nothing_is s r h
  linked_folded at AsStatic t u n None s r h = nothing_is (change_name n (tentative_at at) s) r h
  linked_folded at AsObject t u n None s r h = nothing_is (change_name n (tentative_at at) s) r h

  static_folded : (at : ℕ) (t u : CType) (n : ℕ) (g : Option (At Given)) (s : State) (r : List Expr × State) → static_given target roles at t u n g s ≡ Ok r → AreFoldedExprs r.0
  static_folded at t u n None s r h = nothing_is s r h
  static_folded at t u n (Some g) s r h =
      let y = then_found (leaves_found target roles at n t u g s) (λ values s. Ok ([], change_name n (with_values (leaves_or_none values)) s)) r h in nothing_is (change_name n (with_values (leaves_or_none y.0.0)) y.0.1) r y.2

  values_folded : (at n : ℕ) (t u : CType) (g : At Given) (s : State) (r : List Expr × State) → exprs_found target roles at n t u g s ≡ Ok r → AreFoldedExprs r.0
  values_folded at n t u g s r h =
      let steps = initialised (contents_in (without_const u) s) (given_here g) in
      let y = then_found (steps_done target roles Expr (expr_given target) no_expr steps (given_incomplete t (Local n) s)) (λ xs s. and_then (whole at s (completed_type target t u s)) (λ u s. Ok (xs, with_unfinished None s))) r h in
      let z = then_found (whole at y.0.1 (completed_type target t u y.0.1)) (λ u s. Ok (y.0.0, with_unfinished None s)) r y.2 in
      subst AreFoldedExprs (answer_is y.0.0 (with_unfinished None z.0.1) r z.2) (steps_folded target roles steps (given_incomplete t (Local n) s) y.0 y.1)

  automatic_folded : (at : ℕ) (t u : CType) (n : ℕ) (g : Option (At Given)) (s : State) (r : List Expr × State) → automatic_given target roles at t u n g s ≡ Ok r → AreFoldedExprs r.0
  automatic_folded at t u n None s r h = nothing_is s r h
  automatic_folded at t u n (Some g) s r h =
      let y = then_found (exprs_found target roles at n t u g s) (λ values s. Ok (assignments (scalars_from target (contents_in (without_const u) s) 0 (Local n)) values, s)) r h in
      let places = scalars_from target (contents_in (without_const u) y.0.1) 0 (Local n) in
      subst AreFoldedExprs (answer_is (assignments places y.0.0) y.0.1 r y.2)
      (assignments_folded target places y.0.0 (scalars_folded target (contents_in (without_const u) y.0.1) 0 (Local n) (local_folded target n)) (values_folded at n t u g s y.0 y.1))

  module _ (defined : List Name) where
    left_folded : (at : ℕ) (c : Category) (x : Name) (t : CType) (marks : List (At (List Attribute))) (g : Option (At Given)) (s : State) (r : List Expr × State) → declared_left target roles defined at c x t marks g s ≡ Ok r → AreFoldedExprs r.0
    left_folded at declares.Typedef x t marks g s r h = typedef_folded at x t marks s r h
    left_folded at (declares.Function asked) x t marks g s r h = function_by (is_intrinsic roles x) asked x t marks g s r h
    left_folded at (declares.Linked asked) x t marks g s r h =
        let u = type_given (composite x t s) g s in
        let known = object_declared defined asked x u s in
        linked_folded at asked (composite x t s) u known.0 g known.1 r h
    left_folded at declares.StaticLocal x t marks g s r h = let u = type_given t g s in static_folded at t u (length s.names) g (with_static at x u s) r h
    left_folded at declares.Automatic x t marks g s r h = let u = type_given t g s in automatic_folded at t u (length s.locals) g (with_automatic x u s) r h

    with_folded : (at : ℕ) (c : Category) (x : Name) (t : CType) (marks : List (At (List Attribute))) (g : Option (At Given)) (s : State) (r : List Expr × State) → declared_with target roles defined at c x t marks g s ≡ Ok r → AreFoldedExprs r.0
    with_folded at c x t marks g s r h =
        let y = then_found (whole at s (name_judged target roles c x t (entry_by marks) s)) (λ t s. declared_left target roles defined at c x t marks g s) r h in left_folded at c x y.0.0 marks g y.0.1 r y.2

    named_folded : (at : ℕ) (c : Category) (t : CType) (before : List (At (List Attribute))) (i : Init) (x : Option Name) (s : State) (r : List Expr × State) → named_found target roles defined at c t before i x s ≡ Ok r → AreFoldedExprs r.0
    named_folded at c t before i None s r h = nothing_is s r h
    named_folded at c t before i (Some x) s r h =
        let y = then_found (marked (entity_of c) before i s) (λ marks s. declared_with target roles defined at c x t marks i.value s) r h in with_folded at c x t y.0.0 i.value y.0.1 r y.2

    init_folded : (place : Where) (base : Specified) (i : At Init) (s : State) (r : List Expr × State) → init_found target roles defined place base i s ≡ Ok r → AreFoldedExprs r.0
    init_folded place base i s r h =
        let c = category_of place base.specs.storage (is_function_type base.ctype) i.node.declr.node in
        let d = then_found (declr_of target roles i.node.declr.node (init_allowed i.node) i.node.declr.at s)
        (λ d s. and_then (derived_type target (init_allowed i.node) base.ctype d s) (λ t s. named_found target roles defined i.at c t base.specs.marks i.node d.name s)) r h in
        let t = then_found (derived_type target (init_allowed i.node) base.ctype d.0.0 d.0.1) (λ t s. named_found target roles defined i.at c t base.specs.marks i.node d.0.0.name s) r d.2 in
        named_folded i.at c t.0.0 base.specs.marks i.node d.0.0.name t.0.1 r t.2

    next_folded : (place : Where) (base : Specified) (i : At Init) → Unit {0} → (before : List Expr) (s : State) (r : List Expr × State) → AreFoldedExprs before → init_next target roles defined place base i before s ≡ Ok r → AreFoldedExprs r.0
    next_folded place base i u before s r k h =
        let y = then_found (init_found target roles defined place base i s) (λ es s. Ok (before ++ es, s)) r h in
        subst AreFoldedExprs (answer_is (before ++ y.0.0) y.0.1 r y.2) (each_append (Folded target) before y.0.0 k (init_folded place base i s y.0 y.1))

    any_init : (is : List (At Init)) → Each (λ (x : At Init). Unit {0}) is
    any_init [] = tt
    any_init (x ∷ xs) = (tt, any_init xs)

    pub declaration_folded : (place : Where) (d : Decl) (s : State) (r : List Expr × State) → declaration target roles defined place d s ≡ Ok r → AreFoldedExprs r.0
    unfolding declaration
    declaration_folded place d s r h =
        let base = then_found (specified_found (setting_of place d s) (map (spec_here target roles) d.specs) (in_front d s)) (λ base s. inits_found target roles defined place base d.inits (aliased d base s)) r h in
        in_turn_found (init_next target roles defined place base.0.0) (λ (x : At Init). Unit {0}) AreFoldedExprs (next_folded place base.0.0) d.inits (any_init d.inits) [] (aliased d base.0.0 base.0.1) r tt base.2
