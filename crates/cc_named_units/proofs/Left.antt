-- What each kind of name adds: a typedef, a function, an object.
use Rattle.std.proofs.Common.{◌≡◌, ◌≤◌, ◌+◌, ℕ, Bool, true, false, ◌&&◌, List, [], ◌∷◌, length, Option, Some, None, Ok, Err, refl, ap, length-append, arith}
use Rattle.std.specs.Prelude.{not, slice_get, if◌then◌else◌}
use Rattle.std.specs.List.{list_any}
use Rattle.std.specs.Str.{bytes_eq}
use Rattle.cc_named_units.specs.Counts.{maybe_count, given_count}
use Rattle.cc_type.specs.CcInitialisers.Initialisers.{here as given_here, initialised, refused_by}
use Rattle.cc_type.specs.CcInitialisers.Scalars.{scalars_from}
use Rattle.cc_type.specs.CcLinkage.Linkage.{new_declared, declared_by, declared, may_be_main, may_be_declared}
use Rattle.cc_type.specs.CcLinkage.declared.linkage.DeclaredAs.{DeclaredAs}
use Rattle.cc_type.specs.CcLinkage.declared.linkage.DeclaredAs.TheVariants.{AsStatic, AsObject, AsExtern}
use Rattle.cc_named_units.proofs.Declarators.{named_more}
use Rattle.cc_named_units.proofs.Adding.{adds_itself, adds_through, adds_more, behind, before, answered, done, judged, bound, unfinished, declared_more, changed}
use Rattle.cc_named_units.specs.Named.{Limits, is_own, HasFewLocals, IsNamedEntry, Adds}
use Rattle.cc_named_units.specs.Names.{maybe_named, given_named}
use Rattle.cc_program.specs.CcNum.declared.target.Target.{Target}
use Rattle.cc_type.specs.CcObjects.Linked.{device_by, is_extern, object_kind, object_declared, static_object, with_static, with_automatic}
use Rattle.cc_type.specs.CcObjects.Names.{typedef_judged, object_judged, name_judged}
use Rattle.cc_type.specs.CcObjects.Types.{is_complete_or_unbounded, contents_in, type_given, given_incomplete, completed_type, type_agrees, composite}
use Rattle.cc_type.specs.CcObjects.Values.{leaf_given, expr_given, no_leaf, no_expr, assignments}
use Rattle.cc_type.specs.CcObjects.declared.category.Category.{Category}
use Rattle.cc_type.specs.CcObjects.declared.category.Category.TheVariants as declares
use Rattle.cc_type.specs.CcOperands.Operands.{Operand}
use Rattle.cc_type.specs.CcOperands.Qualified.{without_const}
use Rattle.cc_type.specs.CcOperands.Verdicts.{Judged, must, judge_then}
use Rattle.cc_type.specs.CcOperands.declared.rule.Rule.TheVariants as rule
use Rattle.cc_type.specs.CcTypedTerms.Primary.{is_intrinsic, leaves_or_none}
use Rattle.cc_program.specs.declared.expr.Expr.{Expr}
use Rattle.cc_program.specs.declared.expr.Place.{Place, Local, Static}
use Rattle.cc_program.specs.declared.func.Entry.{Entry}
use Rattle.cc_program.specs.declared.types.CType.{CType}
use Rattle.cc_program.specs.declared.types.Shape.{Shape, out-Shape}
use Rattle.cc_program.specs.declared.types.Shape.TheOpen as shape
use Rattle.cc_program.specs.declared.types.Sig.{Sig}
use Rattle.cc_program.specs.declared.value.Leaf.{Leaf}
use Rattle.cc_type.specs.CcScopes.Definitions.{tentative_at, defined_at, entry_added, with_entry, with_values}
use Rattle.cc_type.specs.CcScopes.Linked.{linked_name}
use Rattle.cc_type.specs.CcScopes.State.{State, Name, bind, with_declared, with_unfinished, change_name}
use Rattle.cc_type.specs.CcScopes.Verdicts.{whole, and_then}
use Rattle.cc_type.specs.CcScopes.declared.designated.Designated.TheVariants as means
use Rattle.cc_type.specs.CcScopes.declared.unit.Declared.{Declared}
use Rattle.cc_sound_terms.proofs.Founds.{answer, then_judged}
use Rattle.cc_type.specs.CcSpecifiers.Attributes.{entry_by}
use Rattle.cc_type.specs.CcSpecifiers.Declarators.{is_unbounded}
use Rattle.cc_type.specs.CcSpecifiers.Modes.{modes_judged}
use Rattle.cc_type.specs.CcSpecifiers.declared.attribute.Attribute.{Attribute}
use Rattle.cc_type.specs.CcSyntax.Values.{ValueType}
use Rattle.cc_tree.specs.declared.at.At.{At}
use Rattle.cc_tree.specs.declared.unit.Given.{Given}
use Rattle.cc_type.specs.CcTypedBodies.Declarations.{declared_left}
use Rattle.cc_type.specs.CcTypedBodies.Functions.{typedef_left, with_function, function_refused, function_left}
use Rattle.cc_type.specs.CcTypedBodies.Objects.{initial_values, leaves_found, exprs_found, linked_defined, linked_given, linked_left, static_given, static_left, automatic_given, automatic_left}
use Rattle.cc_type.specs.CcTypedBodies.Plans.{steps_done}
use Rattle.cc_type.specs.CcUnit.declared.unit.UnitKind.{UnitKind}
use Rattle.cc_type.specs.CcUnit.declared.unit.UnitKind.TheVariants as kind
use Rattle.cc_program.specs.CcWords.Names.{is_name}
use Rattle.cc_named_units.proofs.DeclarationSteps.{initialiser_named, initialised_named, refused_named}
use Rattle.cc_named_units.proofs.InitialiserTerms.{steps_add}

module _ (most : Limits) where
  -- it may name something, and is no intrinsic's
  abbrev pub IsOwnName : Name → Type 0
  IsOwnName x = (is_name x ≡ true) × (is_own most.roles (Some x) ≡ true)

  -- ---- entries

  added_few : (entry : Option Entry) (k : UnitKind) → HasFewLocals most k → HasFewLocals most (entry_added entry k)
  added_few entry (kind.Func before None) h = h
  added_few entry (kind.Func before (Some f)) h = h
  added_few entry (kind.Object leaves) h = h
  added_few entry (kind.Device d) h = h

  pub entry_named : (entry : Option Entry) (d : Declared) → IsNamedEntry most d → IsNamedEntry most (with_entry entry d)
  entry_named entry d h = record { name = h.name; own = h.own; locals = added_few entry d.kind h.locals }

  tentative_named : (at : ℕ) (d : Declared) → IsNamedEntry most d → IsNamedEntry most (tentative_at at d)
  tentative_named at d h = record { name = h.name; own = h.own; locals = h.locals }

  values_named : (leaves : List Leaf) (d : Declared) → IsNamedEntry most d → IsNamedEntry most (with_values leaves d)
  values_named leaves d h = record { name = h.name; own = h.own; locals = tt }

  pub defined_named : (at : ℕ) (t : CType) (k : UnitKind) (d : Declared) → HasFewLocals most k → IsNamedEntry most d → IsNamedEntry most (defined_at at t k d)
  defined_named at t k d few h = record { name = h.name; own = h.own; locals = few }

  -- ---- names with linkage

  declared_some : (x : Name) (asked : DeclaredAs) (t : CType) (k : UnitKind) (s : State) (o : Option ℕ) → IsOwnName x → HasFewLocals most k → Adds most 1 s (declared_by x asked t k s o).1
  declared_some x asked t k s (Some i) q few = adds_more most 0 1 s (bind x (means.Linked i) s) (omega arith) (bound most x (means.Linked i) s)
  declared_some x asked t k s None q few =
      let t1 = with_declared (new_declared x asked t k) s in
      adds_through most 1 0 1 s t1 (bind x (means.Linked (length s.names)) t1) (omega arith) (declared_more most (new_declared x asked t k) s (record { name = q.0; own = q.1; locals = few })) (bound most x (means.Linked (length s.names)) t1)

  pub declared_adds : (x : Name) (asked : DeclaredAs) (t : CType) (k : UnitKind) (s : State) → IsOwnName x → HasFewLocals most k → Adds most 1 s (declared x asked t k s).1
  declared_adds x asked t k s q few = declared_some x asked t k s (linked_name x s) q few

  pub function_adds : (entry : Option Entry) (x : Name) (asked : DeclaredAs) (t : CType) (s : State) → IsOwnName x → Adds most 1 s (with_function entry (declared x asked t (kind.Func None None) s))
  function_adds entry x asked t s q =
      let known = declared x asked t (kind.Func None None) s in
      adds_through most 1 0 1 s known.1 (change_name known.0 (with_entry entry) known.1) (omega arith) (declared_adds x asked t (kind.Func None None) s q tt) (changed most known.0 (with_entry entry) known.1 (λ d h. entry_named entry d h))

  device_if : (b : Bool) (x : Name) (t : CType) (d : UnitKind) → HasFewLocals most d → HasFewLocals most (if b then d else kind.Object [])
  device_if true x t d h = h
  device_if false x t d h = tt

  device_few : (x : Name) (t : CType) (good : Bool) (y : shape.Shape-F Shape CType Sig) → HasFewLocals most (device_by x t good y)
  device_few x t good (shape.Int i) = device_if (good && t.volatile) x t (kind.Device (record { name = Some x; number = 0; int = i; constant = t.constant })) tt
  device_few x t good shape.Void = tt
  device_few x t good (shape.Pointer to) = tt
  device_few x t good (shape.Array of n) = tt
  device_few x t good (shape.Struct i) = tt
  device_few x t good (shape.Func sig) = tt

  object_adds : (defined : List Name) (asked : DeclaredAs) (x : Name) (t : CType) (s : State) → IsOwnName x → Adds most 1 s (object_declared defined asked x t s).1
  object_adds defined asked x t s q = declared_adds x asked t (object_kind defined asked x t) s q (device_few x t (is_extern asked && not (list_any (bytes_eq x) defined)) (out-Shape t.shape))

  -- ---- objects of blocks

  static_adds : (at : ℕ) (x : Name) (u : CType) (s : State) → IsOwnName x → Adds most 1 s (with_static at x u s)
  static_adds at x u s q =
      let t = with_declared (static_object at x u) s in
      adds_through most 1 0 1 s t (bind x (means.Linked (length s.names)) t) (omega arith) (declared_more most (static_object at x u) s (record { name = q.0; own = q.1; locals = tt })) (bound most x (means.Linked (length s.names)) t)

  automatic_adds : (x : Name) (u : CType) (s : State) → is_name x ≡ true → Adds most 1 s (with_automatic x u s)
  automatic_adds x u s q =
      let e = length-append s.locals ((x, without_const u) ∷ []) in
      record {
        state = λ h. record { structures = h.structures; names = h.names };
        locals = λ h. named_more s.locals x (without_const u) h q;
        few_locals = omega arith;
        few_names = omega arith;
        few_structures = omega arith;
      }

  module _ (target : Target) where
    pub typedef_adds : (at : ℕ) (x : Name) (t : CType) (marks : List (At (List Attribute))) (s : State) (r : List Expr × State) → typedef_left target at x t marks s ≡ Ok r → Adds most 0 s r.1
    typedef_adds at x t marks s r h =
        behind most 0 (whole at s (modes_judged target marks t)) (λ t s. answer [] (bind x (means.TypeNamed t) s)) s r (λ y f. judged most 0 at s (modes_judged target marks t) y f)
        (λ y f. answered most 0 [] y.1 (bind x (means.TypeNamed y.0) y.1) r (bound most x (means.TypeNamed y.0) y.1) f) h

    -- ---- what an initialiser adds

    module _ (X : Type 0) (given : Bool → ValueType → Operand → State → Judged X) (zero_of : Bool → ValueType → Judged X) where
      begun : (b : Bool) (a : Place) (s : State) → Adds most 0 s (if b then with_unfinished (Some a) s else s)
      begun true a s = unfinished most (Some a) s
      begun false a s = adds_itself most 0 s

      initial_adds : (at : ℕ) (a : Place) (t u own : CType) (g : At Given) (s : State) (r : List X × State) → given_named g.node ≡ true → given_count g.node ≤ most.few → initial_values target most.roles X given zero_of at a t u own g s ≡ Ok r →
          Adds most (given_count g.node) s r.1
      initial_adds at a t u own g s r q l h =
          let steps = initialised (contents_in own s) (given_here g) in
          let start = given_incomplete t a s in
          let c = given_count g.node in
          adds_through most 0 c c s start r.1 (omega arith) (begun (is_unbounded t) a s)
          (before most c (steps_done target most.roles X given zero_of steps start) (λ xs s. and_then (whole at s (completed_type target t u s)) (λ u s. answer xs (with_unfinished None s))) start r
          (λ x f. steps_add target most.roles most X given zero_of steps c (initialised_named most.few g q l (contents_in own s)) start x f)
          (λ x f. behind most 0 (whole at x.1 (completed_type target t u x.1)) (λ u s. answer x.0 (with_unfinished None s)) x.1 r (λ y e. judged most 0 at x.1 (completed_type target t u x.1) y e)
          (λ y e. answered most 0 x.0 y.1 (with_unfinished None y.1) r (unfinished most None y.1) e) f) h)

    -- a value whose names may name something, and what it counts
    abbrev pub IsGivenValue : Option (At Given) → Type 0
    IsGivenValue value = (maybe_named given_named value ≡ true) × (maybe_count given_count value ≤ most.few)

    abbrev pub count_of : Option (At Given) → ℕ
    count_of value = maybe_count given_count value

    -- ---- functions

    refused_adds : (value : Option (At Given)) (s : State) (r : List Expr × State) → IsGivenValue value → function_refused target most.roles value s ≡ Ok r → Adds most (count_of value) s r.1
    refused_adds None s r q h = done most 0 [] s r h
    refused_adds (Some g) s r q h =
        steps_add target most.roles most Expr (expr_given target) no_expr (refused_by rule.InitialiserShape (given_here g)) (given_count g.node)
        (refused_named most.few (given_count g.node) rule.InitialiserShape (given_here g) (initialiser_named most.few g.node q.0 q.1)) s r h

    function_if : (b : Bool) (x : Name) (asked : DeclaredAs) (t : CType) (entry : Option Entry) (value : Option (At Given)) (s : State) (r : List Expr × State) → is_intrinsic most.roles x ≡ b → is_name x ≡ true → IsGivenValue value →
        (if b then function_refused target most.roles value s else function_refused target most.roles value (with_function entry (declared x asked t (kind.Func None None) s))) ≡ Ok r → Adds most (1 + count_of value) s r.1
    function_if true x asked t entry value s r e n q h = adds_more most (count_of value) (1 + count_of value) s r.1 (omega arith) (refused_adds value s r q h)
    function_if false x asked t entry value s r e n q h =
        let u = with_function entry (declared x asked t (kind.Func None None) s) in
        adds_through most 1 (count_of value) (1 + count_of value) s u r.1 (omega arith) (function_adds entry x asked t s (n, ap not e)) (refused_adds value u r q h)

    pub function_left_adds : (asked : DeclaredAs) (x : Name) (t : CType) (marks : List (At (List Attribute))) (value : Option (At Given)) (s : State) (r : List Expr × State) → is_name x ≡ true → IsGivenValue value →
        function_left target most.roles asked x t marks value s ≡ Ok r → Adds most (1 + count_of value) s r.1
    function_left_adds asked x t marks value s r n q h = function_if (is_intrinsic most.roles x) x asked t (entry_by marks) value s r refl n q h

    -- ---- objects with linkage

    linked_defined_adds : (at : ℕ) (t u : CType) (n : ℕ) (g : At Given) (s : State) (r : List Expr × State) → given_named g.node ≡ true → given_count g.node ≤ most.few → linked_defined target most.roles at t u n g s ≡ Ok r → Adds most (given_count g.node) s r.1
    linked_defined_adds at t u n g s r q l h =
        before most (given_count g.node) (leaves_found target most.roles at n t u g s) (λ values s. and_then (whole at s (type_agrees u (slice_get s.names n))) (λ u s. answer [] (change_name n (defined_at at u (kind.Object (leaves_or_none values))) s))) s r
        (λ x f. initial_adds Leaf (leaf_given target) no_leaf at (Static n) t u u g s x q l f)
        (λ x f. behind most 0 (whole at x.1 (type_agrees u (slice_get x.1.names n))) (λ u s. answer [] (change_name n (defined_at at u (kind.Object (leaves_or_none x.0))) s)) x.1 r
        (λ y e. judged most 0 at x.1 (type_agrees u (slice_get x.1.names n)) y e)
        (λ y e. answered most 0 [] y.1 (change_name n (defined_at at y.0 (kind.Object (leaves_or_none x.0))) y.1) r
        (changed most n (defined_at at y.0 (kind.Object (leaves_or_none x.0))) y.1 (λ d k. defined_named at y.0 (kind.Object (leaves_or_none x.0)) d tt k)) e) f) h

    linked_given_adds : (at : ℕ) (asked : DeclaredAs) (t u : CType) (n : ℕ) (value : Option (At Given)) (s : State) (r : List Expr × State) → IsGivenValue value → linked_given target most.roles at asked t u n value s ≡ Ok r → Adds most (count_of value) s r.1
    linked_given_adds at AsExtern t u n None s r q h = done most 0 [] s r h
    linked_given_adds at AsStatic t u n None s r q h = answered most 0 [] s (change_name n (tentative_at at) s) r (changed most n (tentative_at at) s (λ d k. tentative_named at d k)) h
    linked_given_adds at AsObject t u n None s r q h = answered most 0 [] s (change_name n (tentative_at at) s) r (changed most n (tentative_at at) s (λ d k. tentative_named at d k)) h
    linked_given_adds at AsExtern t u n (Some g) s r q h = linked_defined_adds at t u n g s r q.0 q.1 h
    linked_given_adds at AsStatic t u n (Some g) s r q h = linked_defined_adds at t u n g s r q.0 q.1 h
    linked_given_adds at AsObject t u n (Some g) s r q h = linked_defined_adds at t u n g s r q.0 q.1 h

    pub linked_left_adds : (defined : List Name) (at : ℕ) (asked : DeclaredAs) (x : Name) (t : CType) (value : Option (At Given)) (s : State) (r : List Expr × State) → IsOwnName x → IsGivenValue value →
        linked_left target most.roles defined at asked x t value s ≡ Ok r → Adds most (1 + count_of value) s r.1
    linked_left_adds defined at asked x t value s r n q h =
        let c = composite x t s in
        let u = type_given c value s in
        let known = object_declared defined asked x u s in
        adds_through most 1 (count_of value) (1 + count_of value) s known.1 r.1 (omega arith) (object_adds defined asked x u s n) (linked_given_adds at asked c u known.0 value known.1 r q h)

    -- ---- static objects of a block

    static_given_adds : (at : ℕ) (t u : CType) (n : ℕ) (value : Option (At Given)) (s : State) (r : List Expr × State) → IsGivenValue value → static_given target most.roles at t u n value s ≡ Ok r → Adds most (count_of value) s r.1
    static_given_adds at t u n None s r q h = done most 0 [] s r h
    static_given_adds at t u n (Some g) s r q h =
        before most (given_count g.node) (leaves_found target most.roles at n t u g s) (λ values s. answer [] (change_name n (with_values (leaves_or_none values)) s)) s r
        (λ x f. initial_adds Leaf (leaf_given target) no_leaf at (Static n) t u u g s x q.0 q.1 f)
        (λ x f. answered most 0 [] x.1 (change_name n (with_values (leaves_or_none x.0)) x.1) r (changed most n (with_values (leaves_or_none x.0)) x.1 (λ d k. values_named (leaves_or_none x.0) d k)) f) h

    pub static_left_adds : (at : ℕ) (x : Name) (t : CType) (value : Option (At Given)) (s : State) (r : List Expr × State) → IsOwnName x → IsGivenValue value → static_left target most.roles at x t value s ≡ Ok r → Adds most (1 + count_of value) s r.1
    static_left_adds at x t value s r n q h =
        let u = type_given t value s in
        adds_through most 1 (count_of value) (1 + count_of value) s (with_static at x u s) r.1 (omega arith) (static_adds at x u s n) (static_given_adds at t u (length s.names) value (with_static at x u s) r q h)

    -- ---- automatic objects

    automatic_given_adds : (at : ℕ) (t u : CType) (n : ℕ) (value : Option (At Given)) (s : State) (r : List Expr × State) → IsGivenValue value → automatic_given target most.roles at t u n value s ≡ Ok r → Adds most (count_of value) s r.1
    automatic_given_adds at t u n None s r q h = done most 0 [] s r h
    automatic_given_adds at t u n (Some g) s r q h =
        before most (given_count g.node) (exprs_found target most.roles at n t u g s) (λ values s. answer (assignments (scalars_from target (contents_in (without_const u) s) 0 (Local n)) values) s) s r
        (λ x f. initial_adds Expr (expr_given target) no_expr at (Local n) t u (without_const u) g s x q.0 q.1 f)
        (λ x f. done most 0 (assignments (scalars_from target (contents_in (without_const u) x.1) 0 (Local n)) x.0) x.1 r f) h

    pub automatic_left_adds : (at : ℕ) (x : Name) (t : CType) (value : Option (At Given)) (s : State) (r : List Expr × State) → is_name x ≡ true → IsGivenValue value → automatic_left target most.roles at x t value s ≡ Ok r → Adds most (1 + count_of value) s r.1
    automatic_left_adds at x t value s r n q h =
        let u = type_given t value s in
        adds_through most 1 (count_of value) (1 + count_of value) s (with_automatic x u s) r.1 (omega arith) (automatic_adds x u s n) (automatic_given_adds at t u (length s.locals) value (with_automatic x u s) r q h)

    -- ---- each category

    own_if : (b : Bool) (next : Judged CType) (y : CType) → (if b then Err rule.MainOrIntrinsic else next) ≡ Ok y → not b ≡ true
    own_if true next y h = absurd (cc)
    own_if false next y h = refl

    object_own : (x : Name) (t : CType) (s : State) (next : CType → Judged CType) (y : CType) → judge_then (object_judged target most.roles x t s) next ≡ Ok y → is_own most.roles (Some x) ≡ true
    object_own x t s next y h =
        let a = then_judged (object_judged target most.roles x t s) next y h in
        own_if (is_intrinsic most.roles x) (must (is_complete_or_unbounded target s t) rule.NoObjectType (Ok t)) a.0 a.1

    module _ (defined : List Name) where
      -- of a name that may be declared so
      pub left_adds : (at : ℕ) (c : Category) (x : Name) (t u : CType) (entry : Option Entry) (s0 : State) (marks : List (At (List Attribute))) (value : Option (At Given)) (s : State) (r : List Expr × State) → is_name x ≡ true →
          name_judged target most.roles c x t entry s0 ≡ Ok u → IsGivenValue value → declared_left target most.roles defined at c x u marks value s ≡ Ok r → Adds most (1 + count_of value) s r.1
      left_adds at declares.Typedef x t u entry s0 marks value s r n j q h = adds_more most 0 (1 + count_of value) s r.1 (omega arith) (typedef_adds at x u marks s r h)
      left_adds at (declares.Function asked) x t u entry s0 marks value s r n j q h = function_left_adds asked x u marks value s r n q h
      left_adds at (declares.Linked asked) x t u entry s0 marks value s r n j q h =
          linked_left_adds defined at asked x u value s r (n, object_own x t s0 (λ t. must (may_be_main x t) rule.MainOrIntrinsic (must (may_be_declared asked x t s0) rule.DeclaredTwice (Ok t))) u j) q h
      left_adds at declares.StaticLocal x t u entry s0 marks value s r n j q h = static_left_adds at x u value s r (n, object_own x t s0 (λ t. typedef_judged most.roles x t s0) u j) q h
      left_adds at declares.Automatic x t u entry s0 marks value s r n j q h = automatic_left_adds at x u value s r n q h
