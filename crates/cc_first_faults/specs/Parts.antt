-- The parts of a construct in the order in which they are read, each with what is known in front of it (C99 6.5, 6.7).
use Rattle.std.specs.Prelude.{ℕ, pos, Bool, true, false, not, ◌||◌, is_some, List, [], ◌∷◌, ◌++◌, map, length, Option, Some, None, if◌then◌else◌}
use Rattle.cc_typed_bodies.specs.CcTypedTerms.Declarators.{derived_type}
use Rattle.cc_typed_bodies.specs.CcDesignators.Designators.{TypedExpr}
use Rattle.cc_typed_bodies.specs.CcDesignators.Postfix.{is_array_place}
use Rattle.cc_typed_bodies.specs.CcInitialisers.Initialisers.{Step, Give, Character, Zero, Visit, Break, here as given_here, initialised, refused_by}
use Rattle.cc_typed_bodies.specs.CcLinkage.Linkage.{declared}
use Rattle.cc_typed_bodies.specs.CcLinkage.declared.linkage.DeclaredAs.{DeclaredAs}
use Rattle.cc_program.specs.CcNum.declared.target.Target.{Target}
use Rattle.cc_typed_bodies.specs.CcObjects.Categories.{category_of, entity_of, setting_of}
use Rattle.cc_typed_bodies.specs.CcObjects.Linked.{object_declared, with_static, with_automatic}
use Rattle.cc_typed_bodies.specs.CcObjects.Names.{name_judged}
use Rattle.cc_typed_bodies.specs.CcObjects.Tags.{in_front, aliased}
use Rattle.cc_typed_bodies.specs.CcObjects.Types.{contents_in, type_given, given_incomplete, composite}
use Rattle.cc_typed_bodies.specs.CcObjects.Values.{leaf_given, no_leaf, expr_given, no_expr}
use Rattle.cc_typed_bodies.specs.CcObjects.declared.category.Category.{Category}
use Rattle.cc_typed_bodies.specs.CcObjects.declared.category.Category.TheVariants as declares
use Rattle.cc_typed_bodies.specs.CcOperands.Operands.{Operand}
use Rattle.cc_typed_bodies.specs.CcOperands.Qualified.{is_function_type, without_const}
use Rattle.cc_typed_bodies.specs.CcOperands.declared.rule.Rule.TheVariants as rule
use Rattle.cc_typed_bodies.specs.CcTypedTerms.Devices.{cast_constant}
use Rattle.cc_typed_bodies.specs.CcTypedTerms.Operators.{prefix_of, intrinsic_in}
use Rattle.cc_typed_bodies.specs.CcTypedTerms.Primary.{is_intrinsic}
use Rattle.cc_typed_bodies.specs.CcTypedTerms.Values.{value_found, designated_found}
use Rattle.cc_typed_bodies.specs.CcTypedTerms.declared.prefix.Prefix.{Prefix}
use Rattle.cc_typed_bodies.specs.CcTypedTerms.declared.prefix.Prefix.TheVariants as prefix
use Rattle.cc_program.specs.declared.expr.Expr.{Expr}
use Rattle.cc_program.specs.declared.expr.Place.{Local, Static}
use Rattle.cc_program.specs.declared.program.Roles.{Roles}
use Rattle.cc_program.specs.declared.types.CType.{CType}
use Rattle.cc_program.specs.declared.value.Leaf.{Leaf}
use Rattle.cc_typed_bodies.specs.CcScopes.State.{State, Name, Scope, empty, entered}
use Rattle.cc_typed_bodies.specs.CcScopes.Structures.{in_list}
use Rattle.cc_typed_bodies.specs.CcScopes.Verdicts.{whole}
use Rattle.cc_typed_bodies.specs.CcUnit.declared.unit.UnitKind.TheVariants as kind
use Rattle.cc_typed_bodies.specs.CcSpecifiers.Attributes.{entry_by}
use Rattle.cc_typed_bodies.specs.CcSpecifiers.Declarators.{derive}
use Rattle.cc_typed_bodies.specs.CcSpecifiers.Derivations.{nothing_more, in_parameter, in_type_name, is_next_to_name}
use Rattle.cc_typed_bodies.specs.CcSpecifiers.Specifiers.{no_specifier}
use Rattle.cc_typed_bodies.specs.CcSpecifiers.Storage.{setting}
use Rattle.cc_typed_bodies.specs.CcSpecifiers.declared.attribute.Attribute.{Attribute}
use Rattle.cc_typed_bodies.specs.CcSpecifiers.declared.attribute.Entity.{Entity}
use Rattle.cc_typed_bodies.specs.CcSpecifiers.declared.attribute.Entity.TheVariants as entity
use Rattle.cc_typed_bodies.specs.CcSpecifiers.declared.derivation.Allowed.{Allowed}
use Rattle.cc_typed_bodies.specs.CcSpecifiers.declared.derivation.Declarator.{Declarator}
use Rattle.cc_typed_bodies.specs.CcSpecifiers.declared.derivation.Derivation.{Derivation}
use Rattle.cc_typed_bodies.specs.CcSpecifiers.declared.derivation.Parameter.{Parameter}
use Rattle.cc_typed_bodies.specs.CcSpecifiers.declared.specifier.Specified.{Specified}
use Rattle.cc_typed_bodies.specs.CcSpecifiers.declared.storage.Setting.{Setting}
use Rattle.cc_typed_bodies.specs.CcSpecifiers.declared.storage.Where.{Where}
use Rattle.cc_typed_bodies.specs.CcSpecifiers.declared.storage.Where.TheVariants as stands
use Rattle.cc_typed_bodies.specs.CcTerms.Members.{member_found}
use Rattle.cc_typed_bodies.specs.CcTerms.Operations.{subscript_base, callee}
use Rattle.cc_typed_bodies.specs.CcTerms.Specifiers.{specifier_found, specified_found}
use Rattle.cc_typed_bodies.specs.CcTerms.Structures.{structure_opened, members_found}
use Rattle.cc_typed_bodies.specs.CcTerms.Terms.{tree_of, declr_of, param_of, members_of, enumr_of, type_name_of, here, declr_here, spec_here, members_here}
use Rattle.cc_typed_bodies.specs.CcSyntax.Types.{Named}
use Rattle.cc_tree.specs.declared.at.At.{At}
use Rattle.cc_tree.specs.declared.tree.Attr.{Attr}
use Rattle.cc_tree.specs.declared.tree.Declr.{Declr, out-Declr}
use Rattle.cc_tree.specs.declared.tree.Declr.TheOpen as one
use Rattle.cc_tree.specs.declared.tree.Enumr.{Enumr, out-Enumr}
use Rattle.cc_tree.specs.declared.tree.MemberDecl.{MemberDecl, out-MemberDecl}
use Rattle.cc_tree.specs.declared.tree.Param.{Param, out-Param}
use Rattle.cc_tree.specs.declared.tree.Params.{Params, out-Params}
use Rattle.cc_tree.specs.declared.tree.Spec.{Spec, out-Spec}
use Rattle.cc_tree.specs.declared.tree.Tree.{Tree, out-Tree}
use Rattle.cc_tree.specs.declared.tree.TypeName.{TypeName, out-TypeName}
use Rattle.cc_tree.specs.declared.unit.Decl.{Decl}
use Rattle.cc_tree.specs.declared.unit.Given.{Given}
use Rattle.cc_tree.specs.declared.unit.Init.{Init}
use Rattle.cc_typed_bodies.specs.Declarations.{init_allowed, init_next, marked}
use Rattle.cc_typed_bodies.specs.Functions.{with_function}
use Rattle.cc_typed_bodies.specs.Plans.{step_done}
use Rattle.cc_first_faults.specs.FirstFaults.{after, parts_in_turn}
use Rattle.cc_first_faults.specs.Constructs.{Construct, Expression, ValueOf, DesignatedBy, Valued, Designated, TypeNamed, Specifiers, SpecifierBehind, Specifier, OneAttribute, MembersBehind, MemberBehind, ConstantBehind, Declaring, Suffixed, Derived, ParameterList, ParameterBehind, ParameterNamed, Declaration, Declared, NameDeclared, LeafGiven, ScalarAssigned}

abbrev pub Parts : Type 0
Parts = List (Construct × State)

-- ---- attributes, and what a declarator derives, from the derivation next to the name on: they declare nothing

abbrev pub attribute_parts : List Entity → List (At Attr) → State → Parts
attribute_parts entities xs s = map (λ x. (OneAttribute entities x, s)) xs

-- the derivations behind one tell of which type it is
abbrev pub derivation_parts : Bool → CType → List (At (Derivation Scope)) → State → Parts
derivation_parts void base [] s = []
derivation_parts void base (d ∷ ds) s = (Derived void (derive base ds) d, s) ∷ derivation_parts false base ds s

-- ---- in expressions (6.5.2, 6.5.3), at the bound of an array (6.7.5.2), in a step of an initialiser (6.7.8)

-- what a prefix is applied to: a device is behind `*` alone
abbrev pub prefixed_parts : ℕ → TypedExpr → State → Prefix → Parts
prefixed_parts at x s prefix.Star = if is_some (cast_constant x) then [] else (Valued at x, s) ∷ []
prefixed_parts at x s prefix.Amp = (Designated x, s) ∷ []
prefixed_parts at x s (prefix.Step down) = (Designated x, s) ∷ []
prefixed_parts at x s prefix.OnValue = (Valued at x, s) ∷ []

-- an array's place is subscripted as it is, and an intrinsic called (6.5.2)
abbrev pub subscripted_parts : ℕ → TypedExpr → State → Parts
subscripted_parts at x s = if is_array_place x then [] else (Valued at x, s) ∷ []

abbrev pub called_parts : ℕ → TypedExpr → State → Parts
called_parts at x s = if is_some (intrinsic_in x) then [] else (Valued at x, s) ∷ []

abbrev pub bound_parts : Option (At Tree) → State → Parts
bound_parts None s = []
bound_parts (Some e) s = (ValueOf e, s) ∷ []

abbrev pub step_parts : Step → State → Parts
step_parts (Give constant t e) s = (ValueOf e, s) ∷ []
step_parts (Character at constant t byte) s = []
step_parts (Zero at constant t) s = []
step_parts (Visit e) s = (ValueOf e, s) ∷ []
step_parts (Break at rule) s = []

module _ (target : Target) (roles : Roles) where
  -- ---- a part, and those behind it, which stand in what it is found to be

  abbrev pub expression_part : At Tree → State → (TypedExpr → State → Parts) → Parts
  expression_part e s rest = (Expression e, s) ∷ after (tree_of target roles e.node e.at s) rest

  abbrev pub value_part : At Tree → State → (Operand → State → Parts) → Parts
  value_part e s rest = (ValueOf e, s) ∷ after (value_found (here target roles e) s) rest

  abbrev pub designator_part : At Tree → State → (TypedExpr → State → Parts) → Parts
  designator_part e s rest = (DesignatedBy e, s) ∷ after (designated_found (here target roles e) s) rest

  abbrev pub specifiers_part : Setting → List (At Spec) → State → (Specified → State → Parts) → Parts
  specifiers_part setting xs s rest = (Specifiers setting xs, s) ∷ after (specified_found setting (map (spec_here target roles) xs) s) rest

  abbrev pub declarator_part : Allowed → At Declr → State → (Declarator Scope → State → Parts) → Parts
  declarator_part allowed d s rest = (Declaring allowed d, s) ∷ after (declr_of target roles d.node allowed d.at s) rest

  -- ---- expressions (6.5)

  -- values from left to right
  abbrev pub value_parts : List (At Tree) → State → Parts
  value_parts [] s = []
  value_parts (e ∷ es) s = value_part e s (λ x s. value_parts es s)

  abbrev pub expression_parts : one.Tree-F Declr Params Spec Tree Enumr MemberDecl Param TypeName → State → Parts
  expression_parts (one.Tree::Named x) s = []
  expression_parts (one.Number n suffix) s = []
  expression_parts (one.Character byte) s = []
  expression_parts (one.Text bytes) s = []
  expression_parts (one.Tree::Paren e) s = (Expression e, s) ∷ []
  expression_parts (one.Extension e) s = (Expression e, s) ∷ []
  expression_parts (one.Comma a b) s = value_parts (a ∷ b ∷ []) s
  expression_parts (one.Assign o a b) s = designator_part a s (λ x s. (ValueOf b, s) ∷ [])
  expression_parts (one.Choose c a b) s = value_parts (c ∷ a ∷ b ∷ []) s
  expression_parts (one.Binary o a b) s = value_parts (a ∷ b ∷ []) s
  expression_parts (one.Prefix o e) s = expression_part e s (λ x s. prefixed_parts e.at x s (prefix_of o))
  expression_parts (one.Postfix e o) s = (DesignatedBy e, s) ∷ []
  expression_parts (one.SizeOf e) s = (DesignatedBy e, s) ∷ []
  expression_parts (one.SizeOfType t) s = (TypeNamed false t, s) ∷ []
  expression_parts (one.Cast t e) s = (TypeNamed true t, s) ∷ after (type_name_of target roles t true s) (λ t s. (ValueOf e, s) ∷ [])
  expression_parts (one.Subscript a i) s =
      expression_part a s (λ x s. subscripted_parts a.at x s ++ after (subscript_base a.at x s) (λ x s. (ValueOf i, s) ∷ []))
  expression_parts (one.Call f args) s =
      expression_part f s (λ x s. called_parts f.at x s ++ after (callee f.at x s) (λ x s. value_parts args s))
  expression_parts (one.Member e x) s = (DesignatedBy e, s) ∷ []
  expression_parts (one.Arrow e x) s = (ValueOf e, s) ∷ []

  -- ---- specifiers, structures, enumerations (6.7.2)

  abbrev pub specifiers_parts : Setting → List (At Spec) → State → Parts
  specifiers_parts setting xs s = parts_in_turn (λ x. specifier_found setting (spec_here target roles x)) (λ x specs. SpecifierBehind setting specs x) xs no_specifier s

  abbrev pub member_parts : CType → List (At Declr) → List Named → State → Parts
  member_parts base ds before s = parts_in_turn (λ d. member_found target base (declr_here target roles d)) (λ d before. MemberBehind base before d) ds before s

  abbrev pub content_parts : List (At MemberDecl) → State → Parts
  content_parts ds s = parts_in_turn (λ d. members_of target roles d.node) (λ d before. MembersBehind before d) ds [] s

  abbrev pub constant_parts : List (At Enumr) → State → Parts
  constant_parts cs s = parts_in_turn (λ c next. enumr_of target roles c.node next c.at) (λ c next. ConstantBehind next c) cs (pos 0) s

  abbrev pub structure_parts : Option Name → List (At MemberDecl) → List (At Attr) → List (At Attr) → State → Parts
  structure_parts tag ds front behind s =
      attribute_parts (entity.Structure ∷ []) front s ++ after (structure_opened tag front s) (λ new s.
      content_parts ds s ++ after (members_found (map (members_here target roles) ds) s) (λ ms s. attribute_parts (entity.Structure ∷ []) behind s))

  abbrev pub specifier_parts : one.Spec-F Declr Params Spec Tree Enumr MemberDecl Param TypeName → State → Parts
  specifier_parts (one.Word x) s = []
  specifier_parts (one.Spec::Named x) s = []
  specifier_parts (one.Struct tag None front behind) s = []
  specifier_parts (one.Struct tag (Some ds) front behind) s = structure_parts tag ds front behind s
  specifier_parts (one.Enum tag None) s = []
  specifier_parts (one.Enum tag (Some cs)) s = constant_parts cs (in_list tag s)
  specifier_parts (one.Attr a) s = []

  -- ---- declarators (6.7.5)

  abbrev pub declaring_parts : Allowed → one.Declr-F Declr Params Spec Tree Enumr MemberDecl Param TypeName → State → Parts
  declaring_parts allowed one.Nothing s = []
  declaring_parts allowed (one.Declr::Named x) s = []
  declaring_parts allowed (one.Declr::Paren d) s = (Declaring allowed d, s) ∷ []
  declaring_parts allowed (one.Pointer words d) s = (Declaring allowed d, s) ∷ []
  declaring_parts allowed (one.Array d n) s = declarator_part allowed d s (λ x s. (Suffixed false x.derivations, s) ∷ bound_parts n s)
  declaring_parts allowed (one.Func d ps) s =
      declarator_part allowed d s (λ x s. (Suffixed true x.derivations, s) ∷ (ParameterList (allowed.unnamed || not (is_next_to_name x.derivations)) ps, s) ∷ [])

  -- a declarator, and what it derives of this type
  abbrev pub declarator_parts : Allowed → CType → At Declr → State → Parts
  declarator_parts allowed base d s = declarator_part allowed d s (λ x s. derivation_parts allowed.void base x.derivations s)

  -- ---- parameters (6.7.5.3), type names (6.7.6), members (6.7.2.1)

  abbrev pub list_parts : Bool → one.Params-F Declr Params Spec Tree Enumr MemberDecl Param TypeName → State → Parts
  list_parts unnamed one.Empty s = []
  list_parts unnamed one.Void s = []
  list_parts unnamed (one.Many ps) s = parts_in_turn (λ p. param_of target roles p.node unnamed) (λ p before. ParameterBehind unnamed before p) ps [] (entered empty s)

  abbrev pub parameter_parts : Bool → List Parameter → one.Param-F Declr Params Spec Tree Enumr MemberDecl Param TypeName → State → Parts
  parameter_parts unnamed before p s =
      specifiers_part (setting stands.AsParameter entity.Parameter) p.specs s (λ base s.
      declarator_part in_parameter p.declr s (λ x s. (ParameterNamed unnamed before base.ctype p.declr.at x, s) ∷ []))

  abbrev pub type_name_parts : Bool → one.TypeName-F Declr Params Spec Tree Enumr MemberDecl Param TypeName → State → Parts
  type_name_parts cast t s = specifiers_part (setting stands.InTypeName entity.Nothing) t.specs s (λ base s. declarator_parts (in_type_name cast) base.ctype t.declr s)

  abbrev pub members_parts : List Named → one.MemberDecl-F Declr Params Spec Tree Enumr MemberDecl Param TypeName → State → Parts
  members_parts before d s = specifiers_part (setting stands.AsMember entity.Member) d.specs s (λ base s. member_parts base.ctype d.declrs before s)

  -- ---- initialisers (6.7.8)

  abbrev pub leaf_parts : List Step → State → Parts
  leaf_parts steps s = parts_in_turn (step_done target roles Leaf (leaf_given target) no_leaf) (λ step before. LeafGiven step) steps [] s

  abbrev pub assignment_parts : List Step → State → Parts
  assignment_parts steps s = parts_in_turn (step_done target roles Expr (expr_given target) no_expr) (λ step before. ScalarAssigned step) steps [] s

  -- that of a function
  abbrev pub refused_parts : Option (At Given) → State → Parts
  refused_parts None s = []
  refused_parts (Some g) s = assignment_parts (refused_by rule.InitialiserShape (given_here g)) s

  -- that of the object with this number, which is declared with the type t and has the type u
  abbrev pub static_parts : CType → CType → Option (At Given) → ℕ × State → Parts
  static_parts t u None known = []
  static_parts t u (Some g) known = leaf_parts (initialised (contents_in u known.1) (given_here g)) (given_incomplete t (Static known.0) known.1)

  abbrev pub automatic_parts : CType → CType → Option (At Given) → ℕ × State → Parts
  automatic_parts t u None known = []
  automatic_parts t u (Some g) known = assignment_parts (initialised (contents_in (without_const u) known.1) (given_here g)) (given_incomplete t (Local known.0) known.1)

  -- ---- what is left of a declarator (6.7)

  -- an intrinsic is not declared
  abbrev pub function_parts : DeclaredAs → CType → Name → List (At (List Attribute)) → Option (At Given) → State → Parts
  function_parts asked t x marks value s =
      if is_intrinsic roles x then refused_parts value s
      else refused_parts value (with_function (entry_by marks) (declared x asked t (kind.Func None None) s))

  module _ (defined : List Name) where
    -- of the types t and, by its initialiser, u
    abbrev pub linked_parts : DeclaredAs → Name → CType → CType → Option (At Given) → State → Parts
    linked_parts asked x t u value s = static_parts t u value (object_declared defined asked x u s)

    abbrev pub static_local_parts : ℕ → Name → CType → CType → Option (At Given) → State → Parts
    static_local_parts at x t u value s = static_parts t u value (length s.names, with_static at x u s)

    abbrev pub automatic_local_parts : Name → CType → CType → Option (At Given) → State → Parts
    automatic_local_parts x t u value s = automatic_parts t u value (length s.locals, with_automatic x u s)

    -- a mode that does not fit is a fault of the declarator
    abbrev pub left_parts : ℕ → Category → CType → Name → List (At (List Attribute)) → Option (At Given) → State → Parts
    left_parts at declares.Typedef t x marks value s = []
    left_parts at (declares.Function asked) t x marks value s = function_parts asked t x marks value s
    left_parts at (declares.Linked asked) t x marks value s = linked_parts asked x (composite x t s) (type_given (composite x t s) value s) value s
    left_parts at declares.StaticLocal t x marks value s = static_local_parts at x t (type_given t value s) value s
    left_parts at declares.Automatic t x marks value s = automatic_local_parts x t (type_given t value s) value s

    -- ---- declarators, each with its attributes, its name and its initialiser, and declarations (6.7)

    abbrev pub named_parts : ℕ → Category → CType → List (At (List Attribute)) → Init → Option Name → State → Parts
    named_parts at c t before i None s = []
    named_parts at c t before i (Some x) s =
        attribute_parts (entity_of c ∷ []) i.attrs s ++ after (marked (entity_of c) before i s) (λ marks s.
        (NameDeclared at c t x marks, s) ∷ after (whole at s (name_judged target roles c x t (entry_by marks) s)) (λ u s. left_parts at c u x marks i.value s))

    abbrev pub declared_parts : Where → Specified → At Init → State → Parts
    declared_parts place base i s =
        declarator_part (init_allowed i.node) i.node.declr s (λ d s.
        derivation_parts false base.ctype d.derivations s ++ after (derived_type target (init_allowed i.node) base.ctype d s) (λ t s.
        named_parts i.at (category_of place base.specs.storage (is_function_type base.ctype) i.node.declr.node) t base.specs.marks i.node d.name s))

    abbrev pub declaration_parts : Where → Decl → State → Parts
    declaration_parts place d s =
        specifiers_part (setting_of place d s) d.specs (in_front d s) (λ base s.
        parts_in_turn (init_next target roles defined place base) (λ i before. Declared place base i) d.inits [] (aliased d base s))

    -- ---- all constructs

    abbrev pub parts : Construct → State → Parts
    parts (Expression e) s = expression_parts (out-Tree e.node) s
    parts (ValueOf e) s = expression_part e s (λ x s. (Valued e.at x, s) ∷ [])
    parts (DesignatedBy e) s = expression_part e s (λ x s. (Designated x, s) ∷ [])
    parts (Valued at x) s = []
    parts (Designated x) s = []
    parts (TypeNamed cast t) s = type_name_parts cast (out-TypeName t) s
    parts (Specifiers setting xs) s = specifiers_parts setting xs s
    parts (SpecifierBehind setting specs x) s = (Specifier x, s) ∷ []
    parts (Specifier x) s = specifier_parts (out-Spec x.node) s
    parts (OneAttribute entities x) s = []
    parts (MembersBehind before d) s = members_parts before (out-MemberDecl d.node) s
    parts (MemberBehind base before d) s = declarator_parts nothing_more base d s
    parts (ConstantBehind next c) s = bound_parts (out-Enumr c.node).value s
    parts (Declaring allowed d) s = declaring_parts allowed (out-Declr d.node) s
    parts (Suffixed function ds) s = []
    parts (Derived void t d) s = []
    parts (ParameterList unnamed ps) s = list_parts unnamed (out-Params ps) s
    parts (ParameterBehind unnamed before p) s = parameter_parts unnamed before (out-Param p.node) s
    parts (ParameterNamed unnamed before base at x) s = derivation_parts false base x.derivations s
    parts (Declaration place d) s = declaration_parts place d s
    parts (Declared place base i) s = declared_parts place base i s
    parts (NameDeclared at c t x marks) s = []
    parts (LeafGiven step) s = step_parts step s
    parts (ScalarAssigned step) s = step_parts step s
