-- What a declarator leaves of first values, by what it declares.
use Rattle.std.proofs.Common.{◌≡◌, ℕ, Bool, true, false, not, ◌&&◌, ◌||◌, inl, List, [], ◌∷◌, ◌++◌, length, Option, Some, None, Ok, refl, ap, sym, ◌∙◌, subst}
use Rattle.std.specs.Prelude.{is_some, slice_get, if◌then◌else◌}
use Rattle.std.specs.List.{list_any}
use Rattle.std.specs.Str.{bytes_eq}
use Rattle.cc_type.specs.CcTypedTerms.Declarators.{derived_type}
use Rattle.cc_type.specs.CcTypedTerms.Located.{located}
use Rattle.cc_read_sound.proofs.DeclaratorNames.{declarator_name}
use Rattle.cc_read_sound.proofs.ExternalEntries.{entries_stay}
use Rattle.cc_read_sound.proofs.Linked.{IsDefinition, type_by, known_by, external_definition}
use Rattle.cc_read_sound.specs.External.{AreEntries}
use Rattle.cc_read_sound.specs.Values.{HasInitial, AreInitial, HasContents}
use Rattle.cc_read_sound.proofs.Completed.{IsCompletable, type_complete, judged_completable, unbounded_completable, composite_completable}
use Rattle.cc_read_sound.proofs.Filled.{IsFilled, is_filled}
use Rattle.cc_read_sound.proofs.InitialisedNames.{one_more, one_changed, one_told, entry_initial, new_initial}
use Rattle.cc_read_sound.proofs.Strings.{expression_initial}
use Rattle.cc_read_sound.proofs.Through.{contents_back, knows_over, knows_behind, knows_until}
use Rattle.cc_read_sound.specs.Initialises.{Initialises}
use Rattle.cc_type.specs.CcInitialisers.Contents.{Contents}
use Rattle.cc_type.specs.CcInitialisers.Initialisers.{here as given_here, initialised}
use Rattle.cc_type.specs.CcInitialisers.Scalars.{scalars_from}
use Rattle.cc_type.specs.CcLinkage.Linkage.{new_declared, declared_by, declared}
use Rattle.cc_type.specs.CcLinkage.declared.linkage.DeclaredAs.{DeclaredAs}
use Rattle.cc_type.specs.CcLinkage.declared.linkage.DeclaredAs.TheVariants.{AsStatic, AsObject, AsExtern}
use Rattle.cc_type.specs.CcObjects.Categories.{entity_of}
use Rattle.cc_type.specs.CcObjects.Linked.{is_extern, object_kind, static_object, with_static, with_automatic}
use Rattle.cc_type.specs.CcObjects.Names.{linked_judged, name_judged}
use Rattle.cc_type.specs.CcObjects.Types.{contents_in, type_given, given_incomplete, is_complete_or_unbounded, composite_by, composite}
use Rattle.cc_type.specs.CcObjects.Values.{leaf_given, expr_given, no_leaf, no_expr, assignments}
use Rattle.cc_type.specs.CcObjects.declared.category.Category.{Category}
use Rattle.cc_type.specs.CcObjects.declared.category.Category.TheVariants as declares
use Rattle.cc_type.specs.CcOperands.Qualified.{is_function_type, without_const}
use Rattle.cc_type.specs.CcTypedTerms.Primary.{is_intrinsic, leaves_or_none}
use Rattle.cc_program.proofs.Each.{Each}
use Rattle.cc_program.specs.declared.expr.Expr.{Expr}
use Rattle.cc_program.specs.declared.expr.Place.{Place, Local, Static}
use Rattle.cc_program.specs.declared.func.Entry.{Entry}
use Rattle.cc_program.specs.declared.program.Roles.{Roles}
use Rattle.cc_program.specs.declared.types.CType.{CType}
use Rattle.cc_program.specs.declared.types.Shape.{out-Shape}
use Rattle.cc_program.specs.declared.value.Leaf.{Leaf}
use Rattle.cc_type.specs.CcScopes.Definitions.{tentative_at, defined_at, with_entry, with_values}
use Rattle.cc_type.specs.CcScopes.Linked.{linked_name}
use Rattle.cc_type.specs.CcScopes.State.{State, Name, Scope, KnownStructure, structures_of, layouts_of, bind, with_declared, with_unfinished, change_at, change_name}
use Rattle.cc_type.specs.CcScopes.Verdicts.{whole, and_then}
use Rattle.cc_type.specs.CcScopes.declared.designated.Designated.TheVariants as means
use Rattle.cc_type.specs.CcScopes.declared.unit.Declared.{Declared}
use Rattle.cc_operand_types.specs.Typed.{is_pointed_kind}
use Rattle.cc_sound_declarations.proofs.Blocks.{Category_of}
use Rattle.cc_sound_declarations.proofs.Given.{goes_as}
use Rattle.cc_sound_declarations.proofs.Initialised.{StepFits}
use Rattle.cc_sound_declarations.proofs.Left.{IsInitialised, initial_is, initialised_goes, bound_linked, declared_goes, refused_leaves, values_kept}
use Rattle.cc_sound_declarations.proofs.Lists.{initialised_fits}
use Rattle.cc_sound_declarations.proofs.Names.{IsOfObject, name_is}
use Rattle.cc_sound_declarations.proofs.Types.{standing_bounded}
use Rattle.cc_sound_declarations.specs.Ranges.{given_in_range, value_fits, init_fits}
use Rattle.cc_sound_declarations.proofs.Declaring.{of_extends}
use Rattle.cc_sound_declarations.proofs.Steps.{changed}
use Rattle.cc_sound_declarations.specs.Declaring.{DeclaresGiven}
use Rattle.cc_sound_terms.proofs.Cycle.{declr_holds}
use Rattle.cc_sound_terms.proofs.Founds.{answer_is, then_found, whole_found, located_found}
use Rattle.cc_sound_terms.proofs.Growth.{all_kept, changed_there, get_last, structures_through}
use Rattle.cc_sound_terms.specs.Behind.{NamesKept}
use Rattle.cc_sound_terms.specs.Growing.{StructuresKept}
use Rattle.cc_sound_terms.specs.Knowing.{Stands, KnowsAs}
use Rattle.cc_sound_terms.specs.Ordered.{IsOrdered}
use Rattle.cc_sound_terms.specs.Ranges.{declr_in_range}
use Rattle.cc_sound_terms.specs.Typing.{Knows}
use Rattle.cc_type.specs.CcSpecifiers.Attributes.{attributes, entry_by}
use Rattle.cc_type.specs.CcSpecifiers.Declarators.{is_unbounded, type_found}
use Rattle.cc_type.specs.CcSpecifiers.Modes.{modes_judged}
use Rattle.cc_type.specs.CcSpecifiers.declared.attribute.Attribute.{Attribute}
use Rattle.cc_type.specs.CcSpecifiers.declared.specifier.Specified.{Specified}
use Rattle.cc_type.specs.CcSpecifiers.declared.storage.Where.{Where}
use Rattle.cc_type.proofs.CcSyntax.Prefixes.{both_true}
use Rattle.cc_type.specs.CcSyntax.Initial.{IsInitial}
use Rattle.cc_type.specs.CcSyntax.Types.{Named, is_complete}
use Rattle.cc_type.specs.CcSyntax.Values.{object_place}
use Rattle.cc_type.specs.CcSyntax.Views.{View, kind_in}
use Rattle.cc_type.specs.CcTerms.Terms.{declr_of}
use Rattle.cc_tree.specs.Scopes.{name_of}
use Rattle.cc_tree.specs.declared.at.At.{At}
use Rattle.cc_tree.specs.declared.unit.Given.{Given}
use Rattle.cc_tree.specs.declared.unit.Init.{Init}
use Rattle.cc_type.specs.CcTypedBodies.Declarations.{marked, init_allowed, declared_left, declared_with, named_found, init_found}
use Rattle.cc_type.specs.CcTypedBodies.Functions.{typedef_left, with_function, function_refused, function_left}
use Rattle.cc_type.specs.CcTypedBodies.Objects.{leaves_found, exprs_found, linked_defined, linked_given, linked_left, static_left, automatic_left}
use Rattle.cc_type.specs.CcUnit.declared.unit.UnitKind.{UnitKind}
use Rattle.cc_type.specs.CcUnit.declared.unit.UnitKind.TheVariants as kind

some_is : {A : Type 0} (a b : A) → Some a ≡ Some b → a ≡ b
some_is a b h = cc

module _ (v : View) (roles : Roles) (defined : List Name) (D : List Named) where
  -- where P is known of the parts
  pub record Keeps (P : Type 0) (s t : State) : Type 0 where
    pub kept : StructuresKept s.structures t.structures
    pub initial : P → Initialises v D s t

  module _ (P : Type 0) where
    keeps_as : (s t u : State) → u ≡ t → Keeps P s t → Keeps P s u
    keeps_as s t u e k = subst (Keeps P s) (sym e) k

    plainly : (s t : State) → StructuresKept s.structures t.structures → (AreInitial v s.names → AreInitial v t.names) → Keeps P s t
    plainly s t k f = record { kept = k; initial = λ p w c o i. f i }

    -- ---- typedefs, functions, automatic objects

    typedef_keeps : (at : ℕ) (x : Name) (t : CType) (marks : List (At (List Attribute))) (s : State) (r : List Expr × State) → typedef_left v.target at x t marks s ≡ Ok r → Keeps P s r.1
    typedef_keeps at x t marks s r h =
        let a = then_found (whole at s (modes_judged v.target marks t)) (λ t s. Ok ([], bind x (means.TypeNamed t) s)) r h in
        let e = whole_found at s (modes_judged v.target marks t) a.0 a.1 in
        let b = answer_is [] (bind x (means.TypeNamed a.0.0) a.0.1) r a.2 in
        keeps_as s (bind x (means.TypeNamed a.0.0) s) r.1 (b.1 ∙ ap (bind x (means.TypeNamed a.0.0)) e.1) (plainly s (bind x (means.TypeNamed a.0.0) s) (all_kept s.structures) (λ i. i))

    -- a name that is known, or a new one
    known_initial : (x : Name) (asked : DeclaredAs) (t : CType) (k : UnitKind) (s : State) (o : Option ℕ) → HasInitial v t k → AreInitial v s.names → AreInitial v (declared_by x asked t k s o).1.names
    known_initial x asked t k s (Some i) n h = h
    known_initial x asked t k s None n h = one_more v s.names (new_declared x asked t k) h n

    known_kept : (x : Name) (asked : DeclaredAs) (t : CType) (k : UnitKind) (s : State) (o : Option ℕ) → StructuresKept s.structures (declared_by x asked t k s o).1.structures
    known_kept x asked t k s (Some i) = all_kept s.structures
    known_kept x asked t k s None = all_kept s.structures

    function_if : (asked : DeclaredAs) (x : Name) (t : CType) (marks : List (At (List Attribute))) (value : Option (At Given)) (s : State) (r : List Expr × State) (b : Bool) →
        (if b then function_refused v.target roles value s else function_refused v.target roles value (with_function (entry_by marks) (declared x asked t (kind.Func None None) s))) ≡ Ok r → Keeps P s r.1
    function_if asked x t marks value s r true g = keeps_as s s r.1 (refused_leaves v roles defined P D value s r g) (plainly s s (all_kept s.structures) (λ i. i))
    function_if asked x t marks value s r false g =
        let known = declared x asked t (kind.Func None None) s in
        let after = with_function (entry_by marks) known in
        keeps_as s after r.1 (refused_leaves v roles defined P D value after r g)
        (plainly s after (known_kept x asked t (kind.Func None None) s (linked_name x s))
        (λ i. one_told v known.1.names known.0 (with_entry (entry_by marks)) (λ d j. entry_initial v (entry_by marks) d.ctype d.kind j) (known_initial x asked t (kind.Func None None) s (linked_name x s) tt i)))

    function_keeps : (asked : DeclaredAs) (x : Name) (t : CType) (marks : List (At (List Attribute))) (value : Option (At Given)) (s : State) (r : List Expr × State) → function_left v.target roles asked x t marks value s ≡ Ok r → Keeps P s r.1
    function_keeps asked x t marks value s r h = function_if asked x t marks value s r (is_intrinsic roles x) h

    begun_kept : (b : Bool) (a : Option Place) (s t : State) → StructuresKept (if b then with_unfinished a s else s).structures t.structures → StructuresKept s.structures t.structures
    begun_kept true a s t k = k
    begun_kept false a s t k = k

    begun_initial : (b : Bool) (a : Option Place) (s : State) → AreInitial v s.names → AreInitial v (if b then with_unfinished a s else s).names
    begun_initial true a s i = i
    begun_initial false a s i = i

    -- where no first values are given
    abbrev Plain : State → State → Type 0
    Plain s t = StructuresKept s.structures t.structures × (AreInitial v s.names → AreInitial v t.names)

    initialised_plain : (X : Type 0) (t u : CType) (a : Place) (s : State) (r : X × State) → IsInitialised v roles defined X t u a s r → Plain s r.1
    initialised_plain X t u a s r i =
        subst (Plain s) (sym i.last)
        (begun_kept (is_unbounded t) (Some a) s i.middle i.grown.grows.structures, λ h. expression_initial v (given_incomplete t a s) i.middle i.grown (begun_initial (is_unbounded t) (Some a) s h))

    automatic_keeps : (at : ℕ) (x : Name) (t : CType) (value : Option (At Given)) (s : State) (r : List Expr × State) → value_fits value ≡ true → automatic_left v.target roles at x t value s ≡ Ok r → Keeps P s r.1
    automatic_keeps at x t None s r f h = keeps_as s (with_automatic x t s) r.1 (answer_is [] (with_automatic x t s) r h).1 (plainly s (with_automatic x t s) (all_kept s.structures) (λ i. i))
    automatic_keeps at x t (Some g) s r f h =
        let u = type_given t (Some g) s in
        let n = length s.locals in
        let start = with_automatic x u s in
        let a = then_found (exprs_found v.target roles at n t u g start) (λ values s. Ok (assignments (scalars_from v.target (contents_in (without_const u) s) 0 (Local n)) values, s)) r h in
        let i = initial_is v roles defined Expr (expr_given v.target) no_expr at (Local n) t u (without_const u) g start a.0 (initialised_fits g f (contents_in (without_const u) start)) a.1 in
        let e = answer_is (assignments (scalars_from v.target (contents_in (without_const u) a.0.1) 0 (Local n)) a.0.0) a.0.1 r a.2 in
        let k = initialised_plain (List Expr) t u (Local n) start a.0 i in
        keeps_as s a.0.1 r.1 e.1 (plainly s a.0.1 k.0 k.1)

    -- ---- names with linkage that are given nothing

    linked_plain : (at : ℕ) (asked : DeclaredAs) (t w : CType) (n : ℕ) (s : State) (r : List Expr × State) → linked_given v.target roles at asked w t n None s ≡ Ok r → Plain s r.1
    linked_plain at AsExtern t w n s r h = subst (Plain s) (sym (answer_is [] s r h).1) (all_kept s.structures, λ i. i)
    linked_plain at AsStatic t w n s r h = subst (Plain s) (sym (answer_is [] (change_name n (tentative_at at) s) r h).1) (all_kept s.structures, λ i. one_told v s.names n (tentative_at at) (λ d j. j) i)
    linked_plain at AsObject t w n s r h = subst (Plain s) (sym (answer_is [] (change_name n (tentative_at at) s) r h).1) (all_kept s.structures, λ i. one_told v s.names n (tentative_at at) (λ d j. j) i)

    -- ---- what is known and ordered behind a name that is declared

    knows_declared : (s : State) (d : Declared) (u : State) → Knows v D s u → Knows v D (with_declared d s) u
    knows_declared s d u k = record { types = record { structures = k.types.structures; types = k.types.types; tags = k.types.tags }; names = k.names; objects = k.objects; members = k.members }

    ordered_declared : (s : State) (d : Declared) → IsOrdered s → IsOrdered (with_declared d s)
    ordered_declared s d o = record { listed = o.listed; order = o.order; tags = o.tags }

    ordered_start : (s : State) (d : Declared) (x : Name) (n : ℕ) → IsOrdered s → IsOrdered (bind x (means.Linked n) (with_declared d s))
    ordered_start s d x n o = (bound_linked v roles defined (Unit {0}) D x n (with_declared d s)).ordered (ordered_declared s d o)

    ordered_known : (x : Name) (asked : DeclaredAs) (t : CType) (k : UnitKind) (s : State) (o : Option ℕ) → IsOrdered s → IsOrdered (declared_by x asked t k s o).1
    ordered_known x asked t k s (Some i) h = (bound_linked v roles defined (Unit {0}) D x i s).ordered h
    ordered_known x asked t k s None h = ordered_start s (new_declared x asked t k) x (length s.names) h

    complete_known : (x : Name) (asked : DeclaredAs) (t : CType) (k : UnitKind) (s : State) (o : Option ℕ) → is_complete (structures_of s) t ≡ true → is_complete (structures_of (declared_by x asked t k s o).1) t ≡ true
    complete_known x asked t k s (Some i) h = h
    complete_known x asked t k s None h = h

    known_start : (x : Name) (asked : DeclaredAs) (t : CType) (k : UnitKind) (s : State) (o : Option ℕ) (u : State) → StructuresKept (declared_by x asked t k s o).1.structures u.structures → Knows v D s u → Knows v D (declared_by x asked t k s o).1 u
    known_start x asked t k s (Some i) u kept w = knows_over v defined (Unit {0}) s (bind x (means.Linked i) s) u D D tt (bound_linked v roles defined (Unit {0}) D x i s) kept w
    known_start x asked t k s None u kept w =
        let d = with_declared (new_declared x asked t k) s in
        knows_over v defined (Unit {0}) d (bind x (means.Linked (length s.names)) d) u D D tt (bound_linked v roles defined (Unit {0}) D x (length s.names) d) kept (knows_declared s (new_declared x asked t k) u w)

    -- ---- an object that is given an initialiser

    -- the type of an entry's object, over a view that knows entries
    abbrev IsKnown : CType → ℕ → Type 0
    IsKnown u n = (v.statics n ≡ Some (object_place u)) × (is_pointed_kind false (kind_in v u) ≡ true)

    known_as : (n : ℕ) (t : CType) (k : UnitKind) (leaves : List Leaf) → k ≡ kind.Object leaves → KnowsAs v n t k → IsKnown t n
    known_as n t k leaves e w = subst (KnowsAs v n t) e w

    -- the values of an object of a type that is complete where they begin
    values_initial : (at n : ℕ) (t u : CType) (g : At Given) (s : State) (values : List Leaf × State) (end : State) → IsFilled v roles D t u s values → StructuresKept values.1.structures end.structures → NamesKept values.1.names end.names →
        is_complete (structures_of s) u ≡ true → IsKnown u n → Knows v D s end → HasContents v end.structures → IsOrdered s → IsInitial v u (leaves_or_none values.0)
    values_initial at n t u g s values end filled kept names complete known k w o =
        filled.first (knows_until v s values.1 end D kept names k)
        (contents_back v s.structures end.structures (structures_through s.structures values.1.structures end.structures filled.kept kept) w) o complete n known.0 known.1

    static_some : (at : ℕ) (x : Name) (t : CType) (g : At Given) (s : State) (r : List Expr × State) → given_in_range g.node ≡ true → (P → IsCompletable (structures_of s) t) → static_left v.target roles at x t (Some g) s ≡ Ok r → Keeps P s r.1
    static_some at x t g s r f c h =
        let u = type_given t (Some g) s in
        let n = length s.names in
        let declared = with_declared (static_object at x u) s in
        let start = with_static at x u s in
        let a = then_found (leaves_found v.target roles at n t u g start) (λ values s. Ok ([], change_name n (with_values (leaves_or_none values)) s)) r h in
        let leaves = leaves_or_none a.0.0 in
        let change = with_values leaves in
        let end = change_name n change a.0.1 in
        let e = answer_is [] end r a.2 in
        let fits = initialised_fits g f (contents_in u start) in
        let i = initial_is v roles defined Leaf (leaf_given v.target) no_leaf at (Static n) t u u g start a.0 fits a.1 in
        let whole = initialised_goes v roles defined (Unit {0}) (List Leaf) t u (Static n) start a.0 D i in
        let filled = is_filled v roles D at n t u g f start a.0 a.1 in
        let entry = whole.names n (static_object at x u) (get_last s.names (static_object at x u)) in
        let closed = changed v defined (Unit {0}) n change a.0.1 D (λ d j. values_kept start.names a.0.1.names n (static_object at x u) [] leaves whole.names (get_last s.names (static_object at x u)) refl d j) in
        let there = changed_there a.0.1.names n change entry.0 entry.1 in
        keeps_as s end r.1 e.1
        (record {
          kept = filled.kept;
          initial = λ p k w o z.
              let named = known_as n entry.0.ctype (kind.Object leaves) leaves refl (k.names n (change entry.0) there) in
              let known = subst (λ (y : CType). IsKnown y n) entry.2.ctype named in
              let complete = type_complete t g s filled.bound (c p) in
              let first = knows_over v defined (Unit {0}) declared start end D D tt (bound_linked v roles defined (Unit {0}) D x n declared) filled.kept (knows_declared s (static_object at x u) end k) in
              let value = values_initial at n t u g start a.0 end filled closed.structures closed.names complete known first w (ordered_start s (static_object at x u) x n o) in
              one_changed v a.0.1.names n change entry.0 (filled.names (one_more v s.names (static_object at x u) z (inl refl))) entry.1 (subst (λ (y : CType). IsInitial v y leaves) (sym entry.2.ctype) value);
        })

    -- ---- one with linkage

    external_keeps : (at : ℕ) (asked : DeclaredAs) (x : Name) (t : CType) (g : At Given) (s : State) (o : Option ℕ) (r : List Expr × State) → linked_name x s ≡ o → AreEntries v.target defined s.names → list_any (bytes_eq x) defined ≡ true → given_in_range g.node ≡ true →
        (P → IsCompletable (structures_of s) (composite_by x t s o)) →
        linked_defined v.target roles at (composite_by x t s o) (type_by v roles defined D at asked x t g s o) (known_by v roles defined D at asked x t g s o).0 g (known_by v roles defined D at asked x t g s o).1 ≡ Ok r → Keeps P s r.1
    external_keeps at asked x t g s o r known entries among f c h =
        let u = type_by v roles defined D at asked x t g s o in
        let start = known_by v roles defined D at asked x t g s o in
        let d = external_definition v roles defined D at asked x t g s (Unit {0}) o r known entries among (initialised_fits g f) h in
        let filled = is_filled v roles D at start.0 (composite_by x t s o) u g f start.1 d.values d.found in
        let leaves = leaves_or_none d.values.0 in
        let change = defined_at at d.type (kind.Object leaves) in
        let end = change_name start.0 change d.values.1 in
        let there = changed_there d.values.1.names start.0 change d.entry d.there in
        let closed = goes_as v defined (Unit {0}) D D d.values.1 r.1 end (sym d.last) d.closed in
        let kept = structures_through s.structures start.1.structures d.values.1.structures (known_kept x asked u (object_kind defined asked x u) s o) filled.kept in
        keeps_as s end r.1 d.last
        (record {
          kept = kept;
          initial = λ p k w ordered z.
              let known = subst (λ (y : CType). IsKnown y start.0) d.same (k.names start.0 (change d.entry) there) in
              let complete = complete_known x asked u (object_kind defined asked x u) s o (type_complete (composite_by x t s o) g s filled.bound (c p)) in
              let first = known_start x asked u (object_kind defined asked x u) s o end filled.kept k in
              let value = values_initial at start.0 (composite_by x t s o) u g start.1 d.values end filled closed.structures closed.names complete known first w (ordered_known x asked u (object_kind defined asked x u) s o ordered) in
              one_changed v d.values.1.names start.0 change d.entry (filled.names (known_initial x asked u (object_kind defined asked x u) s o (new_initial v x u u (is_extern asked && not (list_any (bytes_eq x) defined)) (out-Shape u.shape)) z)) d.there
              (subst (λ (y : CType). IsInitial v y leaves) (sym d.same) value);
        })

    -- ---- by the category of a name

    -- what is so of an object that is given an initialiser
    record IsReady (c : Category) (x : Name) (t : CType) (value : Option (At Given)) (s : State) : Type 0 where
      statics : (g : At Given) → c ≡ declares.StaticLocal → value ≡ Some g → P → IsCompletable (structures_of s) t
      linked : (asked : DeclaredAs) (g : At Given) → c ≡ declares.Linked asked → value ≡ Some g → P → IsCompletable (structures_of s) (composite x t s)
      external : (asked : DeclaredAs) (g : At Given) → c ≡ declares.Linked asked → value ≡ Some g → AreEntries v.target defined s.names × (list_any (bytes_eq x) defined ≡ true)

    category_keeps : (at : ℕ) (c : Category) (x : Name) (t : CType) (marks : List (At (List Attribute))) (value : Option (At Given)) (s : State) (r : List Expr × State) → value_fits value ≡ true → IsReady c x t value s →
        declared_left v.target roles defined at c x t marks value s ≡ Ok r → Keeps P s r.1
    category_keeps at declares.Typedef x t marks value s r f a h = typedef_keeps at x t marks s r h
    category_keeps at (declares.Function asked) x t marks value s r f a h = function_keeps asked x t marks value s r h
    category_keeps at (declares.Linked asked) x t marks None s r f a h = none_keeps (linked_name x s) h
      where
        none_keeps : (o : Option ℕ) → linked_given v.target roles at asked (composite x t s) (composite x t s) (declared_by x asked (composite x t s) (object_kind defined asked x (composite x t s)) s o).0 None (declared_by x asked (composite x t s) (object_kind defined asked x (composite x t s)) s o).1 ≡ Ok r → Keeps P s r.1
        none_keeps o g =
            let u = composite x t s in
            let known = declared_by x asked u (object_kind defined asked x u) s o in
            let k = linked_plain at asked u u known.0 known.1 r g in
            plainly s r.1 (structures_through s.structures known.1.structures r.1.structures (known_kept x asked u (object_kind defined asked x u) s o) k.0)
            (λ i. k.1 (known_initial x asked u (object_kind defined asked x u) s o (new_initial v x u u (is_extern asked && not (list_any (bytes_eq x) defined)) (out-Shape u.shape)) i))
    category_keeps at (declares.Linked asked) x t marks (Some g) s r f a h =
        let e = a.external asked g refl refl in
        external_keeps at asked x t g s (linked_name x s) r refl e.0 e.1 f (a.linked asked g refl refl) h
    category_keeps at declares.StaticLocal x t marks None s r f a h =
        keeps_as s (with_static at x t s) r.1 (answer_is [] (with_static at x t s) r h).1 (plainly s (with_static at x t s) (all_kept s.structures) (λ i. one_more v s.names (static_object at x t) i (inl refl)))
    category_keeps at declares.StaticLocal x t marks (Some g) s r f a h = static_some at x t g s r f (a.statics g refl refl) h
    category_keeps at declares.Automatic x t marks value s r f a h = automatic_keeps at x t value s r f h

    declared_keeps : (at : ℕ) (c : Category) (x : Name) (t : CType) (marks : List (At (List Attribute))) (value : Option (At Given)) (s : State) (r : List Expr × State) → value_fits value ≡ true →
        ((u : CType) → name_judged v.target roles c x t (entry_by marks) s ≡ Ok u → IsReady c x t value s) → declared_with v.target roles defined at c x t marks value s ≡ Ok r → Keeps P s r.1
    declared_keeps at c x t marks value s r f a h =
        let b = then_found (whole at s (name_judged v.target roles c x t (entry_by marks) s)) (λ t s. declared_left v.target roles defined at c x t marks value s) r h in
        let e = whole_found at s (name_judged v.target roles c x t (entry_by marks) s) b.0 b.1 in
        let j = name_is v.target roles c x t b.0.0 (entry_by marks) s e.0 in
        category_keeps at c x t marks value s r f (a b.0.0 e.0)
        (ap (λ (u : CType). declared_left v.target roles defined at c x u marks value s) j.same ∙ ap (λ (z : State). declared_left v.target roles defined at c x b.0.0 marks value z) (sym e.1) ∙ b.2)

    named_keeps : (at : ℕ) (c : Category) (t : CType) (before : List (At (List Attribute))) (i : Init) (o : Option Name) (s : State) (r : List Expr × State) → value_fits i.value ≡ true →
        ((x : Name) (marks : List (At (List Attribute))) (u : CType) → o ≡ Some x → name_judged v.target roles c x t (entry_by marks) s ≡ Ok u → IsReady c x t i.value s) → named_found v.target roles defined at c t before i o s ≡ Ok r → Keeps P s r.1
    named_keeps at c t before i None s r f a h = keeps_as s s r.1 (answer_is [] s r h).1 (plainly s s (all_kept s.structures) (λ z. z))
    named_keeps at c t before i (Some x) s r f a h =
        let b = then_found (marked (entity_of c) before i s) (λ marks s. declared_with v.target roles defined at c x t marks i.value s) r h in
        let m = then_found (located s (attributes (entity_of c ∷ []) i.attrs)) (λ marks s. Ok (before ++ marks, s)) b.0 b.1 in
        let e = located_found s (attributes (entity_of c ∷ []) i.attrs) m.0 m.1 in
        let n = answer_is (before ++ m.0.0) m.0.1 b.0 m.2 in
        declared_keeps at c x t b.0.0 i.value s r f (λ u j. a x b.0.0 u refl j)
        (ap (λ (z : State). declared_with v.target roles defined at c x t b.0.0 i.value z) (sym (n.1 ∙ e.1)) ∙ b.2)

  -- ---- a declarator, behind its specifiers

  is_linked_judged : (c : Category) (asked : DeclaredAs) (x : Name) (t u : CType) (entry : Option Entry) (s : State) → c ≡ declares.Linked asked → name_judged v.target roles c x t entry s ≡ Ok u → linked_judged v.target roles asked x t s ≡ Ok u
  is_linked_judged c asked x t u entry s e h = ap (λ (z : Category). name_judged v.target roles z x t entry s) (sym e) ∙ h

  object_category : (c d : Category) → c ≡ d → IsOfObject d → IsOfObject c
  object_category c d e h = subst IsOfObject (sym e) h

  pub init_keeps : (place : Where) (base : Specified) (i : At Init) (s : State) (r : List Expr × State) → init_fits i ≡ true →
      ((asked : DeclaredAs) (g : At Given) (x : Name) → Category_of v roles defined 0 place base i ≡ declares.Linked asked → i.node.value ≡ Some g → name_of i.node.declr.node ≡ Some x → AreEntries v.target defined s.names × (list_any (bytes_eq x) defined ≡ true)) →
      init_found v.target roles defined place base i s ≡ Ok r → Keeps (Stands v base.ctype) s r.1
  init_keeps place base i s r f external h =
      let allowed = init_allowed i.node in
      let fit = both_true (declr_in_range i.node.declr.node) (value_fits i.node.value) f in
      let c = Category_of v roles defined 0 place base i in
      let P = Stands v base.ctype in
      let a = then_found (declr_of v.target roles i.node.declr.node allowed i.node.declr.at s)
      (λ d s. and_then (derived_type v.target allowed base.ctype d s) (λ t s. named_found v.target roles defined i.at c t base.specs.marks i.node d.name s)) r h in
      let o = declr_holds v [] roles i.node.declr.node fit.0 allowed i.node.declr.at s a.0 a.1 in
      let b = then_found (derived_type v.target allowed base.ctype a.0.0 a.0.1) (λ t s. named_found v.target roles defined i.at c t base.specs.marks i.node a.0.0.name s) r a.2 in
      let l = located_found a.0.1 (type_found v.target (structures_of a.0.1) (layouts_of a.0.1) allowed base.ctype a.0.0.derivations) b.0 b.1 in
      let named = declarator_name v.target roles i.node.declr.node allowed i.node.declr.at s a.0 a.1 in
      let rest = ap (λ (z : State). named_found v.target roles defined i.at c b.0.0 base.specs.marks i.node a.0.0.name z) (sym l.1) ∙ b.2 in
      let completable = λ (e : Category) (x : Name) (marks : List (At (List Attribute))) (u : CType) (j : name_judged v.target roles c x b.0.0 (entry_by marks) a.0.1 ≡ Ok u) (q : c ≡ e) (k : IsOfObject e) (p : P).
      judged_completable v.target b.0.0 a.0.1 ((name_is v.target roles c x b.0.0 u (entry_by marks) a.0.1 j).object (object_category c e q k))
      (unbounded_completable (structures_of a.0.1) v.target (layouts_of a.0.1) allowed base.ctype a.0.0.derivations b.0.0 l.0 (standing_bounded v base.ctype p)) in
      let entries = λ (w : AreEntries v.target defined s.names). entries_stay v defined (Unit {0}) s a.0.1 D D (of_extends v defined (Unit {0}) s a.0.1 D o.grows) w in
      let last = named_keeps P i.at c b.0.0 base.specs.marks i.node a.0.0.name a.0.1 r fit.1
      (λ x marks u e j. record {
        statics = λ g q k p. completable declares.StaticLocal x marks u j q tt p;
        linked = λ asked g q k p. composite_completable v.target roles asked x b.0.0 u a.0.1 (is_linked_judged c asked x b.0.0 u (entry_by marks) a.0.1 q j) (completable (declares.Linked asked) x marks u j q tt p);
        external = λ asked g q k. let w = external asked g x q k (sym named ∙ e) in (entries w.0, w.1);
      }) rest in
      record {
        kept = structures_through s.structures a.0.1.structures r.1.structures o.grows.grows.structures last.kept;
        initial = λ p k w ordered z. last.initial p (knows_behind v s a.0.1 r.1 D o.grows last.kept k) w (o.grows.ordered ordered) (expression_initial v s a.0.1 o.grows z);
      }
