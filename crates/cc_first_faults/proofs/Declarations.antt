-- The law of declarations, and of all constructs.
use Rattle.std.proofs.Common.{ℕ, false, List, [], ◌∷◌, ◌++◌, map, Option, Some, None, refl}
use Rattle.cc_typed_bodies.specs.CcTypedTerms.Declarators.{derived_type}
use Rattle.cc_typed_bodies.specs.CcTypedTerms.Located.{located}
use Rattle.cc_typed_bodies.specs.CcTypedTerms.Specifiers.{begin}
use Rattle.cc_program.specs.CcNum.declared.target.Target.{Target}
use Rattle.cc_typed_bodies.specs.CcObjects.Categories.{category_of, entity_of, setting_of}
use Rattle.cc_typed_bodies.specs.CcObjects.Names.{name_judged}
use Rattle.cc_typed_bodies.specs.CcObjects.Tags.{in_front, aliased}
use Rattle.cc_typed_bodies.specs.CcObjects.declared.category.Category.{Category}
use Rattle.cc_typed_bodies.specs.CcOperands.Qualified.{is_function_type}
use Rattle.cc_program.proofs.Each.{Each, each_of}
use Rattle.cc_program.specs.declared.program.Roles.{Roles}
use Rattle.cc_program.specs.declared.types.CType.{CType}
use Rattle.cc_typed_bodies.specs.CcScopes.State.{State, Name}
use Rattle.cc_typed_bodies.specs.CcScopes.Verdicts.{whole}
use Rattle.cc_typed_bodies.specs.CcSpecifiers.Attributes.{attribute_judged, attributes, entry_by}
use Rattle.cc_typed_bodies.specs.CcSpecifiers.declared.attribute.Attribute.{Attribute}
use Rattle.cc_typed_bodies.specs.CcSpecifiers.declared.attribute.Entity.{Entity}
use Rattle.cc_typed_bodies.specs.CcSpecifiers.declared.derivation.Allowed.{Allowed}
use Rattle.cc_tree.specs.declared.tree.Declr.{Declr}
use Rattle.cc_typed_bodies.specs.CcSpecifiers.declared.specifier.Specified.{Specified}
use Rattle.cc_typed_bodies.specs.CcSpecifiers.declared.storage.Where.{Where}
use Rattle.cc_typed_bodies.specs.CcTerms.Specifiers.{specified_found}
use Rattle.cc_typed_bodies.specs.CcTerms.Terms.{declr_of, spec_here}
use Rattle.cc_tree.specs.declared.at.At.{At}
use Rattle.cc_tree.specs.declared.tree.Spec.{Spec}
use Rattle.cc_tree.specs.declared.unit.Decl.{Decl}
use Rattle.cc_tree.specs.declared.unit.Init.{Init}
use Rattle.cc_typed_bodies.specs.Declarations.{declaration, init_allowed, init_found, init_next, marked, named_found}
use Rattle.cc_first_faults.specs.Constructs.{Construct, Expression, ValueOf, DesignatedBy, Valued, Designated, TypeNamed, Specifiers, SpecifierBehind, Specifier, OneAttribute, MembersBehind, MemberBehind, ConstantBehind, Declaring, Suffixed, Derived, ParameterList, ParameterBehind, ParameterNamed, Declaration, Declared, NameDeclared, LeafGiven, ScalarAssigned}
use Rattle.cc_first_faults.specs.Parts.{attribute_parts, derivation_parts, named_parts}
use Rattle.cc_first_faults.proofs.Declarators.{attributes-told, derivations-told, behind-law, specifiers-law, specifiers-told, named-law, HasLaw}
use Rattle.cc_first_faults.proofs.Expressions.{value-law, designator-law}
use Rattle.cc_first_faults.proofs.Induction.{OfTree, OfDeclr}
use Rattle.cc_first_faults.proofs.Initialisers.{leaf-law, assignment-law, left-told}
use Rattle.cc_first_faults.proofs.Lawful.{own-whole, same-state}
use Rattle.cc_first_faults.proofs.Laws.{Law, Told, first, single, followed, last, each}
use Rattle.cc_first_faults.proofs.Structures.{member-law}
use Rattle.cc_first_faults.proofs.Trees.{every-tree, every-declr, every-params, every-spec, every-enumr, every-members, every-param, every-type_name}
use Rattle.cc_first_faults.proofs.Typed.{valued-law, designated-law, suffixed-law, derived-law}

-- with what holds of it
abbrev kept : {A : Type 0} (P : A → Type 0) → ((x : A) → P x) → At A → At ((x : A) × P x)
kept P h x = record { at = x.at; node = (x.node, h x.node) }

module _ (target : Target) (roles : Roles) (defined : List Name) where
  has-law : (xs : List (At Spec)) → Each (HasLaw target roles defined) xs
  has-law xs = each_of (HasLaw target roles defined) (λ x s. first target roles defined (Specifier x) s (every-spec target roles defined x.node x.at s)) xs

  -- ---- what a declarator declares

  marked-told : (at : ℕ) (e : Entity) (before : List (At (List Attribute))) (i : Init) (s : State) → Told target roles defined at (attribute_parts (e ∷ []) i.attrs s) (marked e before i s)
  marked-told at e before i s =
      last target roles defined at (attribute_parts (e ∷ []) i.attrs s) (located s (attributes (e ∷ []) i.attrs)) _ (attributes-told target roles defined at (e ∷ []) i.attrs s) (λ marks t. tt)

  named-told : (at : ℕ) (c : Category) (t : CType) (before : List (At (List Attribute))) (i : Init) (x : Option Name) (s : State) →
      Told target roles defined at (named_parts target roles defined at c t before i x s) (named_found target roles defined at c t before i x s)
  named-told at c t before i None s = tt
  named-told at c t before i (Some x) s =
      followed target roles defined at (attribute_parts (entity_of c ∷ []) i.attrs s) (marked (entity_of c) before i s) _ _ (marked-told at (entity_of c) before i s)
      (λ marks s. followed target roles defined at ((NameDeclared at c t x marks, s) ∷ []) (whole at s (name_judged target roles c x t (entry_by marks) s)) _ _
      (single target roles defined at (NameDeclared at c t x marks) s (whole at s (name_judged target roles c x t (entry_by marks) s)) refl
      (first target roles defined (NameDeclared at c t x marks) s (own-whole at s (name_judged target roles c x t (entry_by marks) s))))
      (λ u s. left-told target roles defined at c u x marks i.value s))

  -- ---- declarators

  declr-told : (at : ℕ) (allowed : Allowed) (d : At Declr) (s : State) → Told target roles defined at ((Declaring allowed d, s) ∷ []) (declr_of target roles d.node allowed d.at s)
  declr-told at allowed d s = single target roles defined at (Declaring allowed d) s (declr_of target roles d.node allowed d.at s) refl (first target roles defined (Declaring allowed d) s (every-declr target roles defined d.node d.at allowed s))

  pub declared-law : (place : Where) (base : Specified) (i : At Init) (s : State) → Law target roles defined (Declared place base i) s
  declared-law place base i s =
      followed target roles defined i.at ((Declaring (init_allowed i.node) i.node.declr, s) ∷ []) (declr_of target roles i.node.declr.node (init_allowed i.node) i.node.declr.at s) _ _ (declr-told i.at (init_allowed i.node) i.node.declr s)
      (λ d s. followed target roles defined i.at (derivation_parts false base.ctype d.derivations s) (derived_type target (init_allowed i.node) base.ctype d s) _ _ (derivations-told target roles defined i.at false base.ctype d.derivations s)
      (λ t s. named-told i.at (category_of place base.specs.storage (is_function_type base.ctype) i.node.declr.node) t base.specs.marks i.node d.name s))

  pub declaration-law : (place : Where) (d : Decl) (s : State) → Law target roles defined (Declaration place d) s
  unfolding declaration
  declaration-law place d s =
      followed target roles defined (begin d.specs) ((Specifiers (setting_of place d s) d.specs, in_front d s) ∷ [])
      (specified_found (setting_of place d s) (map (spec_here target roles) d.specs) (in_front d s)) _ _
      (specifiers-told target roles defined (begin d.specs) (setting_of place d s) d.specs (has-law d.specs) (in_front d s))
      (λ base t. each target roles defined (begin d.specs) (init_next target roles defined place base) (λ i before. Declared place base i)
      (λ i before s. same-state (init_found target roles defined place base i s) (λ es. before ++ es)) d.inits
      (λ i before s. first target roles defined (Declared place base i) s (declared-law place base i s)) [] (aliased d base t))

  -- ---- all constructs

  pub law : (c : Construct) (s : State) → Law target roles defined c s
  law (Expression e) s = every-tree target roles defined e.node e.at s
  law (ValueOf e) s = value-law target roles defined (kept (OfTree target roles defined) (every-tree target roles defined) e) s
  law (DesignatedBy e) s = designator-law target roles defined (kept (OfTree target roles defined) (every-tree target roles defined) e) s
  law (Valued at x) s = valued-law target roles defined at x s
  law (Designated x) s = designated-law target roles defined x s
  law (TypeNamed cast t) s = every-type_name target roles defined t cast s
  law (Specifiers setting xs) s = specifiers-law target roles defined setting xs (has-law xs) s
  law (SpecifierBehind setting specs x) s = behind-law target roles defined setting specs x s (first target roles defined (Specifier x) s (every-spec target roles defined x.node x.at s))
  law (Specifier x) s = every-spec target roles defined x.node x.at s
  law (OneAttribute entities x) s = own-whole x.at s (attribute_judged entities x.node.words)
  law (MembersBehind before d) s = every-members target roles defined d.node d.at before s
  law (MemberBehind base before d) s = member-law target roles defined base before (kept (OfDeclr target roles defined) (every-declr target roles defined) d) s
  law (ConstantBehind next c) s = every-enumr target roles defined c.node c.at next s
  law (Declaring allowed d) s = every-declr target roles defined d.node d.at allowed s
  law (Suffixed function ds) s = suffixed-law target roles defined function ds s
  law (Derived void t d) s = derived-law target roles defined void t d s
  law (ParameterList unnamed ps) s = every-params target roles defined ps unnamed s
  law (ParameterBehind unnamed before p) s = every-param target roles defined p.node p.at unnamed before s
  law (ParameterNamed unnamed before base at x) s = named-law target roles defined unnamed before base at x s
  law (Declaration place d) s = declaration-law place d s
  law (Declared place base i) s = declared-law place base i s
  law (NameDeclared at c t x marks) s = own-whole at s (name_judged target roles c x t (entry_by marks) s)
  law (LeafGiven x) s = leaf-law target roles defined x s
  law (ScalarAssigned x) s = assignment-law target roles defined x s
