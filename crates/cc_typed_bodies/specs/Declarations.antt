-- Declarations (C99 6.7): what they leave known, and the assignments by which automatic objects are initialised. The
-- names are those of the objects that the unit defines.
use Rattle.std.specs.Prelude.{ℕ, true, false, is_some, List, [], ◌∷◌, ◌++◌, map, Option, Some, None, Ok}
use Rattle.cc_typed_terms.specs.Declarators.{derived_type}
use Rattle.cc_typed_terms.specs.Located.{located}
use Rattle.cc_program.specs.CcNum.declared.target.Target.{Target}
use Rattle.cc_terms.specs.CcOperands.Qualified.{is_function_type}
use Rattle.cc_program.specs.declared.expr.Expr.{Expr}
use Rattle.cc_program.specs.declared.program.Roles.{Roles}
use Rattle.cc_program.specs.declared.types.CType.{CType}
use Rattle.cc_objects.specs.Categories.{category_of, entity_of, setting_of}
use Rattle.cc_objects.specs.Names.{name_judged}
use Rattle.cc_objects.specs.Tags.{in_front, aliased}
use Rattle.cc_objects.specs.declared.category.Category.{Category}
use Rattle.cc_objects.specs.declared.category.Category.TheVariants as declares
use Rattle.cc_scopes.specs.State.{State, Name}
use Rattle.cc_scopes.specs.Verdicts.{Found, whole, and_then}
use Rattle.cc_terms.specs.CcSpecifiers.Attributes.{attributes, entry_by}
use Rattle.cc_terms.specs.CcSpecifiers.declared.attribute.Attribute.{Attribute}
use Rattle.cc_terms.specs.CcSpecifiers.declared.attribute.Entity.{Entity}
use Rattle.cc_terms.specs.CcSpecifiers.declared.derivation.Allowed.{Allowed}
use Rattle.cc_terms.specs.CcSpecifiers.declared.specifier.Specified.{Specified}
use Rattle.cc_terms.specs.CcSpecifiers.declared.storage.Where.{Where}
use Rattle.cc_terms.specs.Declarators.{declarator}
use Rattle.cc_terms.specs.InTurn.{in_turn}
use Rattle.cc_terms.specs.Specifiers.{specified_found}
use Rattle.cc_terms.specs.Terms.{spec_here, declr_here}
use Rattle.cc_tree.specs.declared.at.At.{At}
use Rattle.cc_tree.specs.declared.unit.Decl.{Decl}
use Rattle.cc_tree.specs.declared.unit.Given.{Given}
use Rattle.cc_tree.specs.declared.unit.Init.{Init}
use Rattle.cc_typed_bodies.specs.Functions.{typedef_left, function_left}
use Rattle.cc_typed_bodies.specs.Objects.{linked_left, static_left, automatic_left}

-- the attributes of the specifiers, and behind them those of a declarator, which are said of this
abbrev pub marked : Entity → List (At (List Attribute)) → Init → State → Found (List (At (List Attribute)))
marked e before i s = and_then (located s (attributes (e ∷ []) i.attrs)) (λ marks s. Ok (before ++ marks, s))

abbrev pub init_allowed : Init → Allowed
init_allowed i = record { unbounded = is_some i.value; void = false; unnamed = true }

module _ (target : Target) (roles : Roles) (defined : List Name) where
  -- what is left of a declarator, with what its attributes say
  abbrev pub declared_left : ℕ → Category → Name → CType → List (At (List Attribute)) → Option (At Given) → State → Found (List Expr)
  declared_left at declares.Typedef x t marks value s = typedef_left target at x t marks s
  declared_left at (declares.Function asked) x t marks value s = function_left target roles asked x t marks value s
  declared_left at (declares.Linked asked) x t marks value s = linked_left target roles defined at asked x t value s
  declared_left at declares.StaticLocal x t marks value s = static_left target roles at x t value s
  declared_left at declares.Automatic x t marks value s = automatic_left target roles at x t value s

  abbrev pub declared_with : ℕ → Category → Name → CType → List (At (List Attribute)) → Option (At Given) → State → Found (List Expr)
  declared_with at c x t marks value s = and_then (whole at s (name_judged target roles c x t (entry_by marks) s)) (λ t s. declared_left at c x t marks value s)

  -- the attributes of a declarator are judged before what it declares, and that before the initialiser
  abbrev pub named_found : ℕ → Category → CType → List (At (List Attribute)) → Init → Option Name → State → Found (List Expr)
  named_found at c t before i None s = Ok ([], s)
  named_found at c t before i (Some x) s = and_then (marked (entity_of c) before i s) (λ marks s. declared_with at c x t marks i.value s)

  abbrev pub init_found : Where → Specified → At Init → State → Found (List Expr)
  init_found place base i s =
      declarator (init_allowed i.node) (declr_here target roles i.node.declr) s (λ d s.
      and_then (derived_type target (init_allowed i.node) base.ctype d s) (λ t s.
      named_found i.at (category_of place base.specs.storage (is_function_type base.ctype) i.node.declr.node) t base.specs.marks i.node d.name s))

  -- behind what those before it assign
  abbrev pub init_next : Where → Specified → At Init → List Expr → State → Found (List Expr)
  init_next place base i before s = and_then (init_found place base i s) (λ es s. Ok (before ++ es, s))

  abbrev pub inits_found : Where → Specified → List (At Init) → State → Found (List Expr)
  inits_found place base is s = in_turn (init_next place base) is [] s

  -- ---- a declaration (6.7)

  unfoldable pub declaration : Where → Decl → State → Found (List Expr)
  declaration place d s =
      and_then (specified_found (setting_of place d s) (map (spec_here target roles) d.specs) (in_front d s)) (λ base s.
      inits_found place base d.inits (aliased d base s))
