-- The assignments by which a declaration initialises automatic objects access each device without a name that it declares (C99 6.7, 6.7.8).
use Rattle.std.proofs.Common.{◌≡◌, ℕ, Bool, true, false, ◌||◌, List, [], ◌∷◌, ◌++◌, map, length, Option, Some, None, Ok, refl, ap, sym, ◌∙◌, subst}
use Rattle.std.specs.Prelude.{slice_get, is_some, if◌then◌else◌}
use Rattle.std.specs.List.{list_any, list_all}
use Rattle.cc_accessed_operands.specs.Accessed.{accesses}
use Rattle.cc_accessed_operands.proofs.Accesses.{no}
use Rattle.cc_accessed_terms.specs.Accounted.{is_numbered_kind, Accounts, DeclaresNone}
use Rattle.cc_accessed_terms.proofs.Accounts.{accounts_itself, accounts_more, accounts_behind, accounts_before, none_accounts}
use Rattle.cc_accessed_terms.proofs.Founds.{answer, then_found, whole_found, located_found}
use Rattle.cc_accessed_terms.proofs.Terms.{declr_declares, specifiers_declare}
use Rattle.cc_type.specs.CcInitialisers.Initialisers.{here as given_here, refused_by}
use Rattle.cc_type.specs.CcInitialisers.Scalars.{scalars_from}
use Rattle.cc_type.specs.CcLinkage.Linkage.{declared}
use Rattle.cc_type.specs.CcLinkage.declared.linkage.DeclaredAs.{DeclaredAs}
use Rattle.cc_type.specs.CcLinkage.declared.linkage.DeclaredAs.TheVariants.{AsStatic, AsObject, AsExtern}
use Rattle.cc_program.specs.CcNum.declared.target.Target.{Target}
use Rattle.cc_type.specs.CcObjects.Categories.{category_of, category_by, function_category, file_category, entity_of, setting_of, is_given}
use Rattle.cc_type.specs.CcObjects.Linked.{object_declared, with_static, with_automatic}
use Rattle.cc_type.specs.CcObjects.Names.{name_judged}
use Rattle.cc_type.specs.CcObjects.Tags.{in_front, aliased}
use Rattle.cc_type.specs.CcObjects.Types.{contents_in, type_given, type_agrees, composite}
use Rattle.cc_type.specs.CcObjects.Values.{assignments}
use Rattle.cc_type.specs.CcObjects.declared.category.Category.{Category}
use Rattle.cc_type.specs.CcObjects.declared.category.Category.TheVariants as declares
use Rattle.cc_type.specs.CcOperands.Qualified.{is_function_type, without_const}
use Rattle.cc_type.specs.CcOperands.declared.rule.Rule.TheVariants as rule
use Rattle.cc_program.proofs.Each.{Each, each_of}
use Rattle.cc_program.specs.declared.expr.Expr.{Expr}
use Rattle.cc_program.specs.declared.expr.Place.{Local, Static}
use Rattle.cc_program.specs.declared.program.Roles.{Roles}
use Rattle.cc_program.specs.declared.types.CType.{CType}
use Rattle.cc_type.specs.CcScopes.Definitions.{tentative_at, defined_at, with_values}
use Rattle.cc_type.specs.CcScopes.State.{State, Name, bind, change_name, structures_of, layouts_of}
use Rattle.cc_type.specs.CcScopes.Verdicts.{whole, and_then}
use Rattle.cc_type.specs.CcScopes.declared.designated.Designated.TheVariants as means
use Rattle.cc_type.specs.CcScopes.declared.unit.Declared.{Declared}
use Rattle.cc_sound_declarations.specs.Ranges.{decl_fits, init_fits, value_fits, given_in_range}
use Rattle.cc_sound_terms.specs.Ranges.{all_fit, declr_in_range, spec_in_range}
use Rattle.cc_type.specs.CcSpecifiers.Attributes.{attributes, entry_by}
use Rattle.cc_type.specs.CcSpecifiers.Declarators.{declares_function, type_found}
use Rattle.cc_type.specs.CcSpecifiers.Modes.{modes_judged}
use Rattle.cc_type.specs.CcSpecifiers.declared.attribute.Attribute.{Attribute}
use Rattle.cc_type.specs.CcSpecifiers.declared.attribute.Entity.{Entity}
use Rattle.cc_type.specs.CcSpecifiers.declared.specifier.Specified.{Specified}
use Rattle.cc_type.specs.CcSpecifiers.declared.storage.Where.{Where}
use Rattle.cc_type.specs.CcSpecifiers.declared.storage.Where.TheVariants as stands
use Rattle.cc_type.proofs.CcSyntax.Prefixes.{both_true}
use Rattle.cc_type.specs.CcTerms.InTurn.{in_turn}
use Rattle.cc_type.specs.CcTerms.Specifiers.{specified_found}
use Rattle.cc_type.specs.CcTerms.Terms.{spec_here, declr_of}
use Rattle.cc_tree.specs.declared.at.At.{At}
use Rattle.cc_tree.specs.declared.tree.Spec.{Spec}
use Rattle.cc_tree.specs.declared.unit.Decl.{Decl}
use Rattle.cc_tree.specs.declared.unit.Given.{Given}
use Rattle.cc_tree.specs.declared.unit.Init.{Init}
use Rattle.cc_type.specs.CcTypedBodies.Declarations.{marked, init_allowed, declared_left, declared_with, named_found, init_found, init_next, inits_found, declaration}
use Rattle.cc_type.specs.CcTypedBodies.Functions.{typedef_left, with_function, function_refused}
use Rattle.cc_type.specs.CcTypedBodies.Objects.{leaves_found, exprs_found, linked_defined, linked_given, static_given, automatic_given}
use Rattle.cc_type.specs.CcTypedTerms.Declarators.{derived_type}
use Rattle.cc_type.specs.CcTypedTerms.Located.{located}
use Rattle.cc_type.specs.CcTypedTerms.Primary.{is_intrinsic, leaves_or_none}
use Rattle.cc_type.specs.CcUnit.declared.unit.UnitKind.TheVariants as kind
use Rattle.cc_program.specs.CcWords.declared.word.Word.{Word}
use Rattle.cc_program.specs.CcWords.declared.word.Word.TheVariants as w
use Rattle.cc_accessed_bodies.proofs.Founds.{ends, any_front, any_behind, GoesOn, in_turn_goes_on}
use Rattle.cc_accessed_bodies.proofs.Objects.{leaves_declare_none, values_given}
use Rattle.cc_accessed_bodies.proofs.States.{front_names, aliased_names, change_declares, function_declares, object_declares, static_declares}
use Rattle.cc_accessed_bodies.proofs.Steps.{exprs_unbroken, assignments_keep}
use Rattle.cc_accessed_bodies.proofs.Taken.{refused_unbroken}

-- a declaration that assigns nothing, and declares no device without a name
pub record AssignsNone (s : State) (r : List Expr × State) : Type 0 where
  pub nothing : r.0 ≡ []
  pub accounts : DeclaresNone s r.1

abbrev AssignsAll : State → List Expr × State → Type 0
AssignsAll s r = Accounts (λ i. list_any (accesses i) r.0) s r.1

none_assigns : (s : State) (r : List Expr × State) → AssignsNone s r → AssignsAll s r
none_assigns s r h = none_accounts (λ i. list_any (accesses i) r.0) s r.1 h.accounts

ends_assigns_none : (s t : State) (r : List Expr × State) → DeclaresNone s t → answer {A = List Expr} [] t ≡ Ok r → AssignsNone s r
ends_assigns_none s t r d h = ends (AssignsNone s) [] t r h (record { nothing = refl; accounts = d })

none_behind : (s t : State) (r : List Expr × State) → DeclaresNone s t → AssignsNone t r → AssignsNone s r
none_behind s t r d h = record { nothing = h.nothing; accounts = accounts_behind (λ i. false) s t r.1 d h.accounts }

both_false : (a b : Bool) → (a || b) ≡ false → (a ≡ false) × (b ≡ false)
both_false true b h = no (sym h)
both_false false b h = (refl, h)

same_names : (s t : State) → t.names ≡ s.names → DeclaresNone s t
same_names s t e = accounts_itself (λ i. false) s t e

module _ (target : Target) (roles : Roles) where
  -- ---- typedefs and functions

  typedef_assigns_none : (at : ℕ) (x : Name) (t : CType) (marks : List (At (List Attribute))) (s : State) (r : List Expr × State) → typedef_left target at x t marks s ≡ Ok r → AssignsNone s r
  typedef_assigns_none at x t marks s r h =
      let y = then_found (whole at s (modes_judged target marks t)) (λ t s. Ok ([], bind x (means.TypeNamed t) s)) r h in
      let e = whole_found at s (modes_judged target marks t) y.0 y.1 in
      ends_assigns_none s (bind x (means.TypeNamed y.0.0) y.0.1) r (same_names s (bind x (means.TypeNamed y.0.0) y.0.1) (ap (λ (v : State). v.names) e.1)) y.2

  refused_assigns_none : (g : Option (At Given)) (s : State) (r : List Expr × State) → function_refused target roles g s ≡ Ok r → AssignsNone s r
  refused_assigns_none None s r h = ends_assigns_none s s r (same_names s s refl) h
  refused_assigns_none (Some g) s r h = absurd (refused_unbroken rule.InitialiserShape (given_here g) (exprs_unbroken target roles (refused_by rule.InitialiserShape (given_here g)) s r h))

  function_assigns_none : (b : Bool) (asked : DeclaredAs) (x : Name) (t : CType) (marks : List (At (List Attribute))) (g : Option (At Given)) (s : State) (r : List Expr × State) →
      (if b then function_refused target roles g s else function_refused target roles g (with_function (entry_by marks) (declared x asked t (kind.Func None None) s))) ≡ Ok r → AssignsNone s r
  function_assigns_none true asked x t marks g s r h = refused_assigns_none g s r h
  function_assigns_none false asked x t marks g s r h =
      let known = with_function (entry_by marks) (declared x asked t (kind.Func None None) s) in none_behind s known r (function_declares (entry_by marks) x asked t s) (refused_assigns_none g known r h)

  -- ---- objects with linkage, and static ones of a block

  changed_assigns_none : (n : ℕ) (change : Declared → Declared) → ((d : Declared) → is_numbered_kind (change d).kind ≡ true → is_numbered_kind d.kind ≡ true) → (s t : State) (r : List Expr × State) → DeclaresNone s t → answer {A = List Expr} [] (change_name n change t) ≡ Ok r → AssignsNone s r
  changed_assigns_none n change f s t r d h = ends_assigns_none s (change_name n change t) r (accounts_behind (λ i. false) s t (change_name n change t) d (change_declares change f n t)) h

  defined_assigns_none : (at : ℕ) (t u : CType) (n : ℕ) (g : At Given) (s : State) (r : List Expr × State) → linked_defined target roles at t u n g s ≡ Ok r → AssignsNone s r
  defined_assigns_none at t u n g s r h =
      let y = then_found (leaves_found target roles at n t u g s) (λ values s. and_then (whole at s (type_agrees u (slice_get s.names n))) (λ u s. Ok ([], change_name n (defined_at at u (kind.Object (leaves_or_none values))) s))) r h in
      let z = then_found (whole at y.0.1 (type_agrees u (slice_get y.0.1.names n))) (λ u s. Ok ([], change_name n (defined_at at u (kind.Object (leaves_or_none y.0.0))) s)) r y.2 in
      let e = whole_found at y.0.1 (type_agrees u (slice_get y.0.1.names n)) z.0 z.1 in
      changed_assigns_none n (defined_at at z.0.0 (kind.Object (leaves_or_none y.0.0))) (λ d k. no k) s z.0.1 r (subst (λ (v : State). DeclaresNone s v) (sym e.1) (leaves_declare_none target roles at n t u g s y.0 y.1)) z.2

  linked_assigns_none : (at : ℕ) (asked : DeclaredAs) (t u : CType) (n : ℕ) (g : Option (At Given)) (s : State) (r : List Expr × State) → linked_given target roles at asked t u n g s ≡ Ok r → AssignsNone s r
  linked_assigns_none at asked t u n (Some g) s r h = defined_assigns_none at t u n g s r h
  linked_assigns_none at AsExtern t u n None s r h = ends_assigns_none s s r (same_names s s refl) h
  linked_assigns_none at AsStatic t u n None s r h = changed_assigns_none n (tentative_at at) (λ d k. k) s s r (same_names s s refl) h
  linked_assigns_none at AsObject t u n None s r h = changed_assigns_none n (tentative_at at) (λ d k. k) s s r (same_names s s refl) h

  static_assigns_none : (at : ℕ) (t u : CType) (n : ℕ) (g : Option (At Given)) (s : State) (r : List Expr × State) → static_given target roles at t u n g s ≡ Ok r → AssignsNone s r
  static_assigns_none at t u n None s r h = ends_assigns_none s s r (same_names s s refl) h
  static_assigns_none at t u n (Some g) s r h =
      let y = then_found (leaves_found target roles at n t u g s) (λ values s. Ok ([], change_name n (with_values (leaves_or_none values)) s)) r h in
      changed_assigns_none n (with_values (leaves_or_none y.0.0)) (λ d k. no k) s y.0.1 r (leaves_declare_none target roles at n t u g s y.0 y.1) y.2

  -- ---- automatic objects

  automatic_assigns : (at : ℕ) (t u : CType) (n : ℕ) (g : At Given) → given_in_range g.node ≡ true → (s : State) (r : List Expr × State) → automatic_given target roles at t u n (Some g) s ≡ Ok r → AssignsAll s r
  automatic_assigns at t u n g f s r h =
      let y = then_found (exprs_found target roles at n t u g s) (λ values s. Ok (assignments (scalars_from target (contents_in (without_const u) s) 0 (Local n)) values, s)) r h in
      let places = scalars_from target (contents_in (without_const u) y.0.1) 0 (Local n) in
      let given = values_given target roles at n t u g f s y.0 y.1 in
      ends (AssignsAll s) (assignments places y.0.0) y.0.1 r y.2
      (accounts_more (λ i. list_any (accesses i) y.0.0) (λ i. list_any (accesses i) (assignments places y.0.0)) s y.0.1 (λ i k. assignments_keep i places y.0.0 given.fits k) given.accounts)

  -- ---- each category

  -- what assigns nothing
  abbrev IsUnassigned : Category → Option (At Given) → Type 0
  IsUnassigned declares.Typedef g = Unit {0}
  IsUnassigned (declares.Function asked) g = Unit {0}
  IsUnassigned (declares.Linked asked) g = Unit {0}
  IsUnassigned declares.StaticLocal g = Unit {0}
  IsUnassigned declares.Automatic None = Unit {0}
  IsUnassigned declares.Automatic (Some g) = ⊥

  unvalued_unassigned : (c : Category) → IsUnassigned c None
  unvalued_unassigned declares.Typedef = tt
  unvalued_unassigned (declares.Function asked) = tt
  unvalued_unassigned (declares.Linked asked) = tt
  unvalued_unassigned declares.StaticLocal = tt
  unvalued_unassigned declares.Automatic = tt

  function_is_unassigned : (x : Option Word) (g : Option (At Given)) → IsUnassigned (function_category x) g
  function_is_unassigned None g = tt
  function_is_unassigned (Some w.Typedef) g = tt
  function_is_unassigned (Some w.Static) g = tt
  function_is_unassigned (Some x) g = tt

  file_is_unassigned : (x : Option Word) (g : Option (At Given)) → IsUnassigned (file_category x) g
  file_is_unassigned None g = tt
  file_is_unassigned (Some w.Typedef) g = tt
  file_is_unassigned (Some w.Static) g = tt
  file_is_unassigned (Some w.Extern) g = tt
  file_is_unassigned (Some x) g = tt

  external_is_unassigned : (x : Option Word) (function : Bool) (g : Option (At Given)) → IsUnassigned (category_by stands.AtFile x function) g
  external_is_unassigned x true g = function_is_unassigned x g
  external_is_unassigned x false g = file_is_unassigned x g

  module _ (defined : List Name) where
    left_assigns_none : (at : ℕ) (c : Category) (g : Option (At Given)) → IsUnassigned c g → (x : Name) (t : CType) (marks : List (At (List Attribute))) (s : State) (r : List Expr × State) → declared_left target roles defined at c x t marks g s ≡ Ok r → AssignsNone s r
    left_assigns_none at declares.Typedef g a x t marks s r h = typedef_assigns_none at x t marks s r h
    left_assigns_none at (declares.Function asked) g a x t marks s r h = function_assigns_none (is_intrinsic roles x) asked x t marks g s r h
    left_assigns_none at (declares.Linked asked) g a x t marks s r h =
        let u = type_given (composite x t s) g s in
        let known = object_declared defined asked x u s in
        none_behind s known.1 r (object_declares defined x asked u s) (linked_assigns_none at asked (composite x t s) u known.0 g known.1 r h)
    left_assigns_none at declares.StaticLocal g a x t marks s r h =
        let u = type_given t g s in none_behind s (with_static at x u s) r (static_declares at x u s) (static_assigns_none at t u (length s.names) g (with_static at x u s) r h)
    left_assigns_none at declares.Automatic None a x t marks s r h = let known = with_automatic x t s in ends_assigns_none s known r (same_names s known refl) h
    left_assigns_none at declares.Automatic (Some g) a x t marks s r h = absurd a

    left_assigns : (at : ℕ) (c : Category) (g : Option (At Given)) → value_fits g ≡ true → (x : Name) (t : CType) (marks : List (At (List Attribute))) (s : State) (r : List Expr × State) → declared_left target roles defined at c x t marks g s ≡ Ok r → AssignsAll s r
    left_assigns at declares.Automatic (Some g) f x t marks s r h =
        let u = type_given t (Some g) s in
        let known = with_automatic x u s in
        accounts_behind (λ i. list_any (accesses i) r.0) s known r.1 (same_names s known refl) (automatic_assigns at t u (length s.locals) g f known r h)
    left_assigns at declares.Automatic None f x t marks s r h = none_assigns s r (left_assigns_none at declares.Automatic None tt x t marks s r h)
    left_assigns at declares.Typedef g f x t marks s r h = none_assigns s r (left_assigns_none at declares.Typedef g tt x t marks s r h)
    left_assigns at (declares.Function asked) g f x t marks s r h = none_assigns s r (left_assigns_none at (declares.Function asked) g tt x t marks s r h)
    left_assigns at (declares.Linked asked) g f x t marks s r h = none_assigns s r (left_assigns_none at (declares.Linked asked) g tt x t marks s r h)
    left_assigns at declares.StaticLocal g f x t marks s r h = none_assigns s r (left_assigns_none at declares.StaticLocal g tt x t marks s r h)

    -- ---- a declarator with its initialiser; what is so of what it declares stays so behind its attributes and its type

    module _ (P : State → List Expr × State → Type 0) (behind : (s t : State) (r : List Expr × State) → DeclaresNone s t → P t r → P s r) (unassigned : (s : State) (r : List Expr × State) → AssignsNone s r → P s r) where
      with_is : (at : ℕ) (c : Category) (g : Option (At Given)) → ((x : Name) (t : CType) (marks : List (At (List Attribute))) (s : State) (r : List Expr × State) → declared_left target roles defined at c x t marks g s ≡ Ok r → P s r) →
          (x : Name) (t : CType) (marks : List (At (List Attribute))) (s : State) (r : List Expr × State) → declared_with target roles defined at c x t marks g s ≡ Ok r → P s r
      with_is at c g f x t marks s r h =
          let y = then_found (whole at s (name_judged target roles c x t (entry_by marks) s)) (λ t s. declared_left target roles defined at c x t marks g s) r h in
          let e = whole_found at s (name_judged target roles c x t (entry_by marks) s) y.0 y.1 in
          behind s y.0.1 r (same_names s y.0.1 (ap (λ (v : State). v.names) e.1)) (f x y.0.0 marks y.0.1 r y.2)

      marked_declares : (e : Entity) (before : List (At (List Attribute))) (i : Init) (s : State) (r : List (At (List Attribute)) × State) → marked e before i s ≡ Ok r → DeclaresNone s r.1
      marked_declares e before i s r h =
          let y = then_found (located s (attributes (e ∷ []) i.attrs)) (λ marks s. Ok (before ++ marks, s)) r h in
          ends (λ (z : List (At (List Attribute)) × State). DeclaresNone s z.1) (before ++ y.0.0) y.0.1 r y.2 (same_names s y.0.1 (ap (λ (v : State). v.names) (located_found s (attributes (e ∷ []) i.attrs) y.0 y.1).1))

      named_is : (at : ℕ) (c : Category) (i : Init) → ((x : Name) (t : CType) (marks : List (At (List Attribute))) (s : State) (r : List Expr × State) → declared_left target roles defined at c x t marks i.value s ≡ Ok r → P s r) →
          (t : CType) (before : List (At (List Attribute))) (x : Option Name) (s : State) (r : List Expr × State) → named_found target roles defined at c t before i x s ≡ Ok r → P s r
      named_is at c i f t before None s r h = unassigned s r (ends_assigns_none s s r (same_names s s refl) h)
      named_is at c i f t before (Some x) s r h =
          let y = then_found (marked (entity_of c) before i s) (λ marks s. declared_with target roles defined at c x t marks i.value s) r h in
          behind s y.0.1 r (marked_declares (entity_of c) before i s y.0 y.1) (with_is at c i.value f x t y.0.0 y.0.1 r y.2)

      abbrev category_in : Where → Specified → At Init → Category
      category_in place base i = category_of place base.specs.storage (is_function_type base.ctype) i.node.declr.node

      init_is : (place : Where) (base : Specified) (i : At Init) →
          ((x : Name) (t : CType) (marks : List (At (List Attribute))) (s : State) (r : List Expr × State) → declared_left target roles defined i.at (category_in place base i) x t marks i.node.value s ≡ Ok r → P s r) →
          (s : State) (r : List Expr × State) → init_found target roles defined place base i s ≡ Ok r → P s r
      init_is place base i f s r h =
          let c = category_in place base i in
          let d = then_found (declr_of target roles i.node.declr.node (init_allowed i.node) i.node.declr.at s)
          (λ d s. and_then (derived_type target (init_allowed i.node) base.ctype d s) (λ t s. named_found target roles defined i.at c t base.specs.marks i.node d.name s)) r h in
          let t = then_found (derived_type target (init_allowed i.node) base.ctype d.0.0 d.0.1) (λ t s. named_found target roles defined i.at c t base.specs.marks i.node d.0.0.name s) r d.2 in
          let e = located_found d.0.1 (type_found target (structures_of d.0.1) (layouts_of d.0.1) (init_allowed i.node) base.ctype d.0.0.derivations) t.0 t.1 in
          behind s d.0.1 r (declr_declares target roles i.node.declr.node (init_allowed i.node) i.node.declr.at s d.0 d.1)
          (behind d.0.1 t.0.1 r (same_names d.0.1 t.0.1 (ap (λ (v : State). v.names) e.1)) (named_is i.at c i.node f t.0.0 base.specs.marks d.0.0.name t.0.1 r t.2))

    -- ---- declarators one behind another

    abbrev all_access : List Expr → ℕ → Bool
    all_access es i = list_any (accesses i) es

    next_goes_on : (place : Where) (base : Specified) (i : At Init) → init_fits i ≡ true → (before : List Expr) (s : State) (r : List Expr × State) → init_next target roles defined place base i before s ≡ Ok r → GoesOn all_access before s r
    next_goes_on place base i f before s r h =
        let y = then_found (init_found target roles defined place base i s) (λ es s. Ok (before ++ es, s)) r h in
        let assigns = init_is AssignsAll (λ s t r d a. accounts_behind (λ j. list_any (accesses j) r.0) s t r.1 d a) none_assigns place base i
        (left_assigns i.at (category_of place base.specs.storage (is_function_type base.ctype) i.node.declr.node) i.node.value (both_true (declr_in_range i.node.declr.node) (value_fits i.node.value) f).1) s y.0 y.1 in
        ends (GoesOn all_access before s) (before ++ y.0.0) y.0.1 r y.2 (record {
          kept = λ j k. any_front (accesses j) before y.0.0 k;
          accounts = accounts_more (all_access y.0.0) (all_access (before ++ y.0.0)) s y.0.1 (λ j k. any_behind (accesses j) before y.0.0 k) assigns;
        })

    each_fits : (is : List (At Init)) → list_all init_fits is ≡ true → Each (λ (i : At Init). init_fits i ≡ true) is
    each_fits [] h = tt
    each_fits (i ∷ is) h = let b = both_true (init_fits i) (list_all init_fits is) h in (b.0, each_fits is b.1)

    pub declaration_accounts : (place : Where) (d : Decl) → decl_fits d ≡ true → (s : State) (r : List Expr × State) → declaration target roles defined place d s ≡ Ok r → AssignsAll s r
    unfolding declaration
    declaration_accounts place d f s r h =
        let base = then_found (specified_found (setting_of place d s) (map (spec_here target roles) d.specs) (in_front d s)) (λ base s. inits_found target roles defined place base d.inits (aliased d base s)) r h in
        let start = aliased d base.0.0 base.0.1 in
        let fit = each_fits d.inits (both_true (all_fit (map (λ (x : At Spec). record { at = x.at; node = spec_in_range x.node }) d.specs)) (list_all init_fits d.inits) f).1 in
        let rest = in_turn_goes_on (init_next target roles defined place base.0.0) all_access (λ (i : At Init). init_fits i ≡ true) (next_goes_on place base.0.0) d.inits fit [] start r base.2 in
        let front = accounts_behind (λ i. false) s (in_front d s) base.0.1 (same_names s (in_front d s) (front_names d s)) (specifiers_declare target roles (setting_of place d s) d.specs (in_front d s) base.0 base.1) in
        accounts_behind (all_access r.0) s start r.1 (accounts_before (λ i. false) s base.0.1 start front (same_names base.0.1 start (aliased_names d base.0.0 base.0.1))) rest.accounts

    -- ---- declarations that assign nothing

    nothing_next : (place : Where) (base : Specified) (i : At Init) → IsUnassigned (category_of place base.specs.storage (is_function_type base.ctype) i.node.declr.node) i.node.value →
        (before : List Expr) (s : State) (r : List Expr × State) → before ≡ [] → init_next target roles defined place base i before s ≡ Ok r → r.0 ≡ []
    nothing_next place base i a before s r e h =
        let y = then_found (init_found target roles defined place base i s) (λ es s. Ok (before ++ es, s)) r h in
        let z = init_is (λ s r. r.0 ≡ []) (λ s t r d k. k) (λ s r k. k.nothing) place base i
        (λ x t marks s r k. (left_assigns_none i.at (category_of place base.specs.storage (is_function_type base.ctype) i.node.declr.node) i.node.value a x t marks s r k).nothing) s y.0 y.1 in
        ends (λ (v : List Expr × State). v.0 ≡ []) (before ++ y.0.0) y.0.1 r y.2 (ap (λ es. es ++ y.0.0) e ∙ z)

    nothing_inits : (place : Where) (base : Specified) (is : List (At Init)) → Each (λ (i : At Init). IsUnassigned (category_of place base.specs.storage (is_function_type base.ctype) i.node.declr.node) i.node.value) is →
        (before : List Expr) (s : State) (r : List Expr × State) → before ≡ [] → in_turn (init_next target roles defined place base) is before s ≡ Ok r → r.0 ≡ []
    nothing_inits place base [] a before s r e h = ends (λ (v : List Expr × State). v.0 ≡ []) before s r h e
    nothing_inits place base (i ∷ is) a before s r e h =
        let y = then_found (init_next target roles defined place base i before s) (in_turn (init_next target roles defined place base) is) r h in
        nothing_inits place base is a.1 y.0.0 y.0.1 r (nothing_next place base i a.0 before s y.0 e y.1) y.2

    assigns_nothing : (place : Where) (d : Decl) → ((base : Specified) → Each (λ (i : At Init). IsUnassigned (category_of place base.specs.storage (is_function_type base.ctype) i.node.declr.node) i.node.value) d.inits) →
        (s : State) (r : List Expr × State) → declaration target roles defined place d s ≡ Ok r → r.0 ≡ []
    unfolding declaration
    assigns_nothing place d a s r h =
        let base = then_found (specified_found (setting_of place d s) (map (spec_here target roles) d.specs) (in_front d s)) (λ base s. inits_found target roles defined place base d.inits (aliased d base s)) r h in
        nothing_inits place base.0.0 d.inits (a base.0.0) [] (aliased d base.0.0 base.0.1) r refl base.2

    pub external_assigns_nothing : (d : Decl) (s : State) (r : List Expr × State) → declaration target roles defined stands.AtFile d s ≡ Ok r → r.0 ≡ []
    external_assigns_nothing d s r h = assigns_nothing stands.AtFile d (λ base. each_of (λ (i : At Init). IsUnassigned (category_of stands.AtFile base.specs.storage (is_function_type base.ctype) i.node.declr.node) i.node.value)
        (λ i. external_is_unassigned base.specs.storage (declares_function (is_function_type base.ctype) i.node.declr.node) i.node.value) d.inits) s r h

    unvalued : (c : Category) (g : Option (At Given)) → is_some g ≡ false → IsUnassigned c g
    unvalued c None h = unvalued_unassigned c
    unvalued c (Some g) h = no (sym h)

    each_unvalued : (place : Where) (base : Specified) (is : List (At Init)) → list_any is_given is ≡ false → Each (λ (i : At Init). IsUnassigned (category_of place base.specs.storage (is_function_type base.ctype) i.node.declr.node) i.node.value) is
    each_unvalued place base [] h = tt
    each_unvalued place base (i ∷ is) h =
        let b = both_false (is_given i) (list_any is_given is) h in
        (unvalued (category_of place base.specs.storage (is_function_type base.ctype) i.node.declr.node) i.node.value b.0, each_unvalued place base is b.1)

    pub unvalued_assigns_nothing : (place : Where) (d : Decl) → list_any is_given d.inits ≡ false → (s : State) (r : List Expr × State) → declaration target roles defined place d s ≡ Ok r → r.0 ≡ []
    unvalued_assigns_nothing place d e s r h = assigns_nothing place d (λ base. each_unvalued place base d.inits e) s r h
