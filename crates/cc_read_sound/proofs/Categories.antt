-- What is left of a declarator keeps what is so of entries, and what it defines at file scope is settled.
use Rattle.std.proofs.Common.{◌≡◌, ◌⊎◌, inl, inr, ℕ, Bool, true, false, not, ◌&&◌, List, [], ◌∷◌, length, Option, Some, None, Ok, Err, refl, ap, sym, ◌∙◌, subst}
use Rattle.std.specs.Prelude.{is_some, slice_get, if◌then◌else◌}
use Rattle.std.specs.List.{list_any}
use Rattle.std.specs.Str.{bytes_eq}
use Rattle.cc_type.specs.CcTypedTerms.Names.{new_name}
use Rattle.cc_read_sound.proofs.Linked.{IsDefinition, external_definition}
use Rattle.cc_read_sound.specs.External.{AreEntries}
use Rattle.cc_type.specs.CcInitialisers.Initialisers.{here as given_here}
use Rattle.cc_type.specs.CcLinkage.Linkage.{declared, is_free_for, may_be_declared, may_be_main, repeats}
use Rattle.cc_type.specs.CcLinkage.declared.linkage.DeclaredAs.{DeclaredAs}
use Rattle.cc_type.specs.CcLinkage.declared.linkage.DeclaredAs.TheVariants.{AsStatic, AsObject, AsExtern}
use Rattle.cc_type.specs.CcObjects.Linked.{is_extern, object_declared, object_kind, static_object, with_static, with_automatic}
use Rattle.cc_type.specs.CcObjects.Names.{function_judged, is_prototype, linked_judged, local_judged, name_judged, object_judged, prototype_judged, typedef_judged}
use Rattle.cc_type.specs.CcObjects.Types.{composite, composite_by, contents_in, is_complete_or_unbounded, type_given}
use Rattle.cc_type.specs.CcObjects.Values.{assignments, expr_given, leaf_given, no_expr, no_leaf}
use Rattle.cc_type.specs.CcObjects.declared.category.Category.{Category}
use Rattle.cc_type.specs.CcObjects.declared.category.Category.TheVariants as declares
use Rattle.cc_type.specs.CcInitialisers.Scalars.{scalars_from}
use Rattle.cc_operand_types.proofs.Operands.{must_ok, ok_is}
use Rattle.cc_type.specs.CcOperands.Qualified.{is_function_type, without_const}
use Rattle.cc_type.specs.CcOperands.Verdicts.{judge_then, must}
use Rattle.cc_type.specs.CcOperands.declared.rule.Rule.TheVariants as rule
use Rattle.cc_type.specs.CcTypedTerms.Primary.{intrinsic_named, is_intrinsic, leaves_or_none}
use Rattle.cc_program.specs.declared.expr.Expr.{Expr}
use Rattle.cc_program.specs.declared.expr.Place.{Place, Local, Static}
use Rattle.cc_program.specs.declared.func.Entry.{Entry}
use Rattle.cc_program.specs.declared.func.Func.{Func}
use Rattle.cc_program.specs.declared.program.Roles.{Roles}
use Rattle.cc_program.specs.declared.types.CType.{CType}
use Rattle.cc_program.specs.declared.value.Leaf.{Leaf}
use Rattle.cc_type.specs.CcScopes.Definitions.{defined_at, tentative_at, with_values}
use Rattle.cc_type.specs.CcScopes.Linked.{linked_name}
use Rattle.cc_type.specs.CcScopes.State.{State, Name, bind, change_name, named_here}
use Rattle.cc_type.specs.CcScopes.Verdicts.{whole, and_then}
use Rattle.cc_type.specs.CcScopes.declared.designated.Designated.TheVariants as means
use Rattle.cc_type.specs.CcScopes.declared.unit.Declared.{Declared}
use Rattle.cc_sound_declarations.proofs.Initialised.{broken_last}
use Rattle.cc_sound_declarations.proofs.Left.{IsInitialised, initial_is, initialised_goes, object_stays}
use Rattle.cc_sound_declarations.proofs.Lists.{initialised_fits}
use Rattle.cc_sound_declarations.proofs.Names.{name_is}
use Rattle.cc_sound_declarations.proofs.Types.{completed_is}
use Rattle.cc_sound_declarations.specs.Ranges.{given_in_range, value_fits}
use Rattle.cc_read_sound.specs.Definitions.{AreApart}
use Rattle.cc_read_sound.proofs.Declared.{attributed, declared_linked, function_settled, function_well}
use Rattle.cc_read_sound.proofs.Kept.{changed_well, same_well}
use Rattle.cc_read_sound.proofs.Lists.{linked_changed, linked_there, same_some}
use Rattle.cc_read_sound.proofs.Objects.{complete_no_function, defined_counts, given_no_function, initialised_linked, initialised_well, may_be_tentative, may_define, may_fill, object_declared_well, object_no_function, object_there, tentative_counts, with_static_well}
use Rattle.cc_read_sound.specs.Entries.{AreWell, IsDone, IsSettled, is_function_kind}
use Rattle.cc_sound_terms.proofs.Founds.{answer_is, then_found, whole_found, then_judged}
use Rattle.cc_sound_terms.proofs.Growth.{changed_there, get_last}
use Rattle.cc_sound_terms.specs.Behind.{SameKind}
use Rattle.cc_type.specs.CcSpecifiers.Attributes.{entry_by}
use Rattle.cc_type.specs.CcSpecifiers.Modes.{modes_judged}
use Rattle.cc_type.specs.CcSpecifiers.declared.attribute.Attribute.{Attribute}
use Rattle.cc_type.proofs.CcSyntax.Prefixes.{both_true}
use Rattle.cc_type.specs.CcSyntax.Views.{View}
use Rattle.cc_tree.specs.declared.at.At.{At}
use Rattle.cc_tree.specs.declared.unit.Given.{Given}
use Rattle.cc_type.specs.CcTypedBodies.Declarations.{declared_left, declared_with}
use Rattle.cc_type.specs.CcTypedBodies.Functions.{function_left, function_refused, typedef_left, with_function}
use Rattle.cc_type.specs.CcTypedBodies.Objects.{automatic_left, exprs_found, leaves_found, linked_given, linked_left, static_left}
use Rattle.cc_type.specs.CcUnit.declared.unit.UnitKind.{UnitKind}
use Rattle.cc_type.specs.CcUnit.declared.unit.UnitKind.TheVariants as kind

module _ (v : View) (roles : Roles) (defined : List Name) (P : CType → Func → Type 0) where
  abbrev All : List Name → State → Type 0
  All done s = AreWell v.target roles defined P done s

  abbrev Entries : State → Type 0
  Entries s = AreEntries v.target defined s.names

  -- ---- what is judged of names

  pub record IsLinkedName (asked : DeclaredAs) (x : Name) (t : CType) (s : State) : Type 0 where
    pub plain : is_intrinsic roles x ≡ false
    pub agrees : may_be_declared asked x t s ≡ true
    pub whole : is_complete_or_unbounded v.target s t ≡ true

  pub record IsFunctionName (asked : DeclaredAs) (x : Name) (t : CType) (s : State) : Type 0 where
    pub main : may_be_main x t ≡ true
    pub agrees : may_be_declared asked x t s ≡ true

  abbrev pub JudgedAs : Category → Name → CType → State → Type 0
  JudgedAs declares.Typedef x t s = Unit {0}
  JudgedAs (declares.Function asked) x t s = (is_intrinsic roles x ≡ true) ⊎ ((is_intrinsic roles x ≡ false) × IsFunctionName asked x t s)
  JudgedAs (declares.Linked asked) x t s = IsLinkedName asked x t s
  JudgedAs declares.StaticLocal x t s = is_complete_or_unbounded v.target s t ≡ true
  JudgedAs declares.Automatic x t s = is_complete_or_unbounded v.target s t ≡ true

  function_is : (asked : DeclaredAs) (x : Name) (t u : CType) (s : State) → function_judged asked x t s ≡ Ok u → IsFunctionName asked x t s
  function_is asked x t u s h =
      let a = must_ok (may_be_main x t) rule.MainOrIntrinsic (must (may_be_declared asked x t s) rule.DeclaredTwice (Ok t)) u h in
      record { main = a.0; agrees = (must_ok (may_be_declared asked x t s) rule.DeclaredTwice (Ok t) u a.1).0 }

  prototype_by : (b : Bool) (asked : DeclaredAs) (x : Name) (t u : CType) (entry : Option Entry) (s : State) →
      (if b then must (is_prototype t (intrinsic_named roles x) && not (is_some entry)) rule.MainOrIntrinsic (Ok t) else function_judged asked x t s) ≡ Ok u → (b ≡ true) ⊎ ((b ≡ false) × IsFunctionName asked x t s)
  prototype_by true asked x t u entry s h = inl refl
  prototype_by false asked x t u entry s h = inr (refl, function_is asked x t u s h)

  object_by : (b : Bool) (x : Name) (t u : CType) (s : State) → (if b then Err rule.MainOrIntrinsic else must (is_complete_or_unbounded v.target s t) rule.NoObjectType (Ok t)) ≡ Ok u → (b ≡ false) × (is_complete_or_unbounded v.target s t ≡ true)
  object_by true x t u s h = absurd (cc)
  object_by false x t u s h = (refl, (must_ok (is_complete_or_unbounded v.target s t) rule.NoObjectType (Ok t) u h).0)

  same_ok : (t u : CType) (s : State) (x : Name) → object_judged v.target roles x t s ≡ Ok u → t ≡ u
  same_ok t u s x h = of_test (is_intrinsic roles x) h
    where
      of_test : (b : Bool) → (if b then Err rule.MainOrIntrinsic else must (is_complete_or_unbounded v.target s t) rule.NoObjectType (Ok t)) ≡ Ok u → t ≡ u
      of_test true h = absurd (cc)
      of_test false h = let m = must_ok (is_complete_or_unbounded v.target s t) rule.NoObjectType (Ok t) u h in ok_is m.1

  linked_is : (asked : DeclaredAs) (x : Name) (t u : CType) (s : State) → linked_judged v.target roles asked x t s ≡ Ok u → IsLinkedName asked x t s
  linked_is asked x t u s h =
      let a = then_judged (object_judged v.target roles x t s) (λ t. must (may_be_main x t) rule.MainOrIntrinsic (must (may_be_declared asked x t s) rule.DeclaredTwice (Ok t))) u h in
      let o = object_by (is_intrinsic roles x) x t a.0 s a.1 in
      let b = must_ok (may_be_main x a.0) rule.MainOrIntrinsic (must (may_be_declared asked x a.0 s) rule.DeclaredTwice (Ok a.0)) u a.2 in
      let c = must_ok (may_be_declared asked x a.0 s) rule.DeclaredTwice (Ok a.0) u b.1 in
      record { plain = o.0; agrees = ap (λ (w : CType). may_be_declared asked x w s) (same_ok t a.0 s x a.1) ∙ c.0; whole = o.1 }

  local_is : (x : Name) (t u : CType) (s : State) → local_judged v.target roles x t s ≡ Ok u → is_complete_or_unbounded v.target s t ≡ true
  local_is x t u s h =
      let a = then_judged (object_judged v.target roles x t s) (λ t. typedef_judged roles x t s) u h in
      (object_by (is_intrinsic roles x) x t a.0 s a.1).1

  pub judged_as : (c : Category) (x : Name) (t u : CType) (entry : Option Entry) (s : State) → name_judged v.target roles c x t entry s ≡ Ok u → JudgedAs c x t s
  judged_as declares.Typedef x t u entry s h = tt
  judged_as (declares.Function asked) x t u entry s h = prototype_by (is_intrinsic roles x) asked x t u entry s h
  judged_as (declares.Linked asked) x t u entry s h = linked_is asked x t u s h
  judged_as declares.StaticLocal x t u entry s h = local_is x t u s h
  judged_as declares.Automatic x t u entry s h = local_is x t u s h

  -- ---- functions

  refused_same : (value : Option (At Given)) (s : State) (r : List Expr × State) → function_refused v.target roles value s ≡ Ok r → r.1 ≡ s
  refused_same None s r h = (answer_is [] s r h).1
  refused_same (Some g) s r h = absurd (broken_last v roles Expr (expr_given v.target) no_expr (given_here g).node.visited (given_here g).at rule.InitialiserShape [] s r h)

  function_if : (b c : Bool) (value : Option (At Given)) (s t : State) (r : List Expr × State) → c ≡ b → (if c then function_refused v.target roles value s else function_refused v.target roles value t) ≡ Ok r → r.1 ≡ (if b then s else t)
  function_if true true value s t r e h = refused_same value s r h
  function_if false false value s t r e h = refused_same value t r h
  function_if true false value s t r e h = absurd (cc)
  function_if false true value s t r e h = absurd (cc)

  module _ (asked : DeclaredAs) (x : Name) (t : CType) (marks : List (At (List Attribute))) (value : Option (At Given)) (s : State) (r : List Expr × State) (h : function_left v.target roles asked x t marks value s ≡ Ok r) where
    abbrev known : State
    known = with_function (entry_by marks) (declared x asked t (kind.Func None None) s)

    function_keeps : JudgedAs (declares.Function asked) x t s → is_function_type t ≡ true → (done : List Name) → All done s → All done r.1
    function_keeps (inl b) f done w = subst (All done) (sym (function_if true (is_intrinsic roles x) value s known r b h)) w
    function_keeps (inr b) f done w =
        subst (All done) (sym (function_if false (is_intrinsic roles x) value s known r b.0 h)) (function_well v roles defined P x asked t (entry_by marks) s (attributed marks) f b.0 b.1.main done w)

    function_done : JudgedAs (declares.Function asked) x t s → is_function_type t ≡ true → Entries s → AreApart s.names → IsDone v.target roles defined P r.1 x
    function_done (inl b) f entries apart = inl b
    function_done (inr b) f entries apart =
        inr (subst (IsSettled v.target roles defined P x) (sym (function_if false (is_intrinsic roles x) value s known r b.0 h)) (function_settled v roles defined P x asked t (entry_by marks) s entries apart f b.1.agrees))

  -- ---- objects with linkage

  some_none : {A : Type 0} (i : A) → Some i ≡ None → ⊥
  some_none i h = cc

  new_type : (x : Name) (t : CType) (value : Option (At Given)) (s : State) (o : Option ℕ) → is_function_type t ≡ false → o ≡ None → is_function_type (type_given (composite_by x t s o) value s) ≡ false
  new_type x t value s None f e = given_no_function t value s f
  new_type x t value s (Some i) f e = absurd (some_none i e)

  module _ (at : ℕ) (asked : DeclaredAs) (x : Name) (t : CType) (s : State) (r : List Expr × State) (j : IsLinkedName asked x t s) (entries : Entries s) (among : is_extern asked ≡ false → list_any (bytes_eq x) defined ≡ true) where
    not_function : is_function_type t ≡ false
    not_function = object_no_function v.target s t j.whole

    repeated : repeats asked x t s (linked_name x s) ≡ true
    repeated = (both_true (is_free_for (linked_name x s) (named_here x s)) (repeats asked x t s (linked_name x s)) j.agrees).1

    abbrev type : Option (At Given) → CType
    type value = type_given (composite x t s) value s

    abbrev start : Option (At Given) → ℕ × State
    start value = object_declared defined asked x (type value) s

    started_well : (value : Option (At Given)) (done : List Name) → All done s → All done (start value).1
    started_well value done w = object_declared_well v roles defined P asked x (type value) s (linked_name x s) refl j.plain (new_type x t value s (linked_name x s) not_function) among done w

    started_linked : (value : Option (At Given)) → linked_name x (start value).1 ≡ Some (start value).0
    started_linked value = declared_linked v roles defined P x asked (type value) (object_kind defined asked x (type value)) s (linked_name x s) refl

    started_there : (d : Declared) → slice_get (start None).1.names (start None).0 ≡ Some d → (d.name ≡ Some x) × (is_function_kind d.kind ≡ false)
    started_there d h = object_there v roles defined P asked x t (type None) s (linked_name x s) refl entries not_function repeated d h

    -- without an initialiser
    none_by : (how : DeclaredAs) (u : CType) → linked_given v.target roles at how u u (start None).0 None (start None).1 ≡ Ok r → (done : List Name) → All done s → All done r.1
    none_by AsExtern u h done w = subst (All done) (sym (answer_is [] (start None).1 r h).1) (started_well None done w)
    none_by AsStatic u h done w =
        let n = (start None).0 in
        let k = (start None).1 in
        subst (All done) (sym (answer_is [] (change_name n (tentative_at at) k) r h).1) (changed_well v roles defined P n (tentative_at at) k (may_be_tentative v roles defined P at n x k started_there) done (started_well None done w))
    none_by AsObject u h done w =
        let n = (start None).0 in
        let k = (start None).1 in
        subst (All done) (sym (answer_is [] (change_name n (tentative_at at) k) r h).1) (changed_well v roles defined P n (tentative_at at) k (may_be_tentative v roles defined P at n x k started_there) done (started_well None done w))

    tentative_settled : r.1 ≡ change_name (start None).0 (tentative_at at) (start None).1 → IsDone v.target roles defined P r.1 x
    tentative_settled e =
        let n = (start None).0 in
        let k = (start None).1 in
        let l = linked_there x k.names n (started_linked None) in
        inr (subst (IsSettled v.target roles defined P x) (sym e) (record {
          number = n;
          declared = tentative_at at l.declared;
          linked = linked_changed 0 x k.names n (tentative_at at) (λ d. record { name = refl; linkage = refl }) ∙ started_linked None;
          there = changed_there k.names n (tentative_at at) l.declared l.at;
          settled = inr (tentative_counts l.declared.definitions);
        }))

    none_done : (how : DeclaredAs) (u : CType) → is_extern how ≡ false → linked_given v.target roles at how u u (start None).0 None (start None).1 ≡ Ok r → IsDone v.target roles defined P r.1 x
    none_done AsExtern u e h = absurd (cc)
    none_done AsStatic u e h = tentative_settled (answer_is [] (change_name (start None).0 (tentative_at at) (start None).1) r h).1
    none_done AsObject u e h = tentative_settled (answer_is [] (change_name (start None).0 (tentative_at at) (start None).1) r h).1

    -- with one
    module _ (g : At Given) (fit : given_in_range g.node ≡ true) (listed : list_any (bytes_eq x) defined ≡ true) (h : linked_left v.target roles defined at asked x t (Some g) s ≡ Ok r) where
      definition : IsDefinition v roles defined (Unit {0}) [] at (start (Some g)).0 (composite x t s) (type (Some g)) g (start (Some g)).1 r
      definition = external_definition v roles defined [] at asked x t g s (Unit {0}) (linked_name x s) r refl entries listed (initialised_fits g fit) h

      abbrev n : ℕ
      n = (start (Some g)).0

      abbrev change : Declared → Declared
      change = defined_at at definition.type (kind.Object (leaves_or_none definition.values.0))

      defined_type : is_function_type definition.type ≡ false
      defined_type =
          let i = definition.initial in
          ap is_function_type definition.same ∙ complete_no_function v.target i.middle (type (Some g)) (completed_is v (composite x t s) (type (Some g)) i.type i.middle i.completed).1

      some_keeps : (done : List Name) → All done s → All done r.1
      some_keeps done w =
          subst (All done) (sym definition.last)
          (changed_well v roles defined P n change definition.values.1 (may_define v roles defined P at n definition.type (leaves_or_none definition.values.0) definition.values.1 defined_type) done
          (initialised_well v roles defined P (List Leaf) (composite x t s) (type (Some g)) (Static n) (start (Some g)).1 definition.values definition.initial done (started_well (Some g) done w)))

      some_done : IsDone v.target roles defined P r.1 x
      some_done = inr (subst (IsSettled v.target roles defined P x) (sym definition.last) (record {
        number = n;
        declared = change definition.entry;
        linked = linked_changed 0 x definition.values.1.names n change (λ d. record { name = refl; linkage = refl })
            ∙ initialised_linked v roles defined P (List Leaf) (composite x t s) (type (Some g)) (Static n) (start (Some g)).1 definition.values definition.initial x n (started_linked (Some g));
        there = changed_there definition.values.1.names n change definition.entry definition.there;
        settled = inr (defined_counts definition.entry.tentative definition.entry.definitions);
      }))

  -- ---- static and automatic objects of blocks

  static_keeps : (at : ℕ) (x : Name) (t : CType) (value : Option (At Given)) (s : State) (r : List Expr × State) → is_complete_or_unbounded v.target s t ≡ true → value_fits value ≡ true → static_left v.target roles at x t value s ≡ Ok r →
      (done : List Name) → All done s → All done r.1
  static_keeps at x t None s r o f h done w = subst (All done) (sym (answer_is [] (with_static at x t s) r h).1) (with_static_well v roles defined P at x t s (object_no_function v.target s t o) done w)
  static_keeps at x t (Some g) s r o f h done w =
      let u = type_given t (Some g) s in
      let n = length s.names in
      let start = with_static at x u s in
      let a = then_found (leaves_found v.target roles at n t u g start) (λ values s. Ok ([], change_name n (with_values (leaves_or_none values)) s)) r h in
      let i = initial_is v roles defined Leaf (leaf_given v.target) no_leaf at (Static n) t u u g start a.0 (initialised_fits g f (contents_in u start)) a.1 in
      let began = with_static_well v roles defined P at x u s (given_no_function t (Some g) s (object_no_function v.target s t o)) done w in
      let kept = (initialised_goes v roles defined (Unit {0}) (List Leaf) t u (Static n) start a.0 [] i).names n (static_object at x u) (get_last s.names (static_object at x u)) in
      let object = object_stays [] kept.0.kind kept.2.kind in
      let change = with_values (leaves_or_none a.0.0) in
      subst (All done) (sym (answer_is [] (change_name n change a.0.1) r a.2).1)
      (changed_well v roles defined P n change a.0.1
      (may_fill v roles defined P n (leaves_or_none a.0.0) a.0.1 (λ d k. let same : kept.0 ≡ d = same_some kept.0 d (sym kept.1 ∙ k) in (object.0, ap (λ (z : Declared). z.kind) (sym same) ∙ object.1)))
      done (initialised_well v roles defined P (List Leaf) t u (Static n) start a.0 i done began))

  automatic_keeps : (at : ℕ) (x : Name) (t : CType) (value : Option (At Given)) (s : State) (r : List Expr × State) → value_fits value ≡ true → automatic_left v.target roles at x t value s ≡ Ok r → (done : List Name) → All done s → All done r.1
  automatic_keeps at x t None s r f h done w = subst (All done) (sym (answer_is [] (with_automatic x t s) r h).1) (same_well v roles defined P done s (with_automatic x t s) refl w)
  automatic_keeps at x t (Some g) s r f h done w =
      let u = type_given t (Some g) s in
      let n = length s.locals in
      let own = without_const u in
      let start = with_automatic x u s in
      let a = then_found (exprs_found v.target roles at n t u g start) (λ values s. Ok (assignments (scalars_from v.target (contents_in own s) 0 (Local n)) values, s)) r h in
      let i = initial_is v roles defined Expr (expr_given v.target) no_expr at (Local n) t u own g start a.0 (initialised_fits g f (contents_in own start)) a.1 in
      subst (All done) (sym (answer_is (assignments (scalars_from v.target (contents_in own a.0.1) 0 (Local n)) a.0.0) a.0.1 r a.2).1)
      (initialised_well v roles defined P (List Expr) t u (Local n) start a.0 i done (same_well v roles defined P done s start refl w))

  -- ---- all categories

  pub record MayBe (c : Category) (x : Name) (t : CType) (value : Option (At Given)) : Type 0 where
    pub functions : (asked : DeclaredAs) → c ≡ declares.Function asked → is_function_type t ≡ true
    pub among : (asked : DeclaredAs) → c ≡ declares.Linked asked → is_extern asked ≡ false → list_any (bytes_eq x) defined ≡ true
    pub given : (asked : DeclaredAs) (g : At Given) → c ≡ declares.Linked asked → value ≡ Some g → list_any (bytes_eq x) defined ≡ true

  typedef_same : (at : ℕ) (x : Name) (t : CType) (marks : List (At (List Attribute))) (s : State) (r : List Expr × State) → typedef_left v.target at x t marks s ≡ Ok r → r.1.names ≡ s.names
  typedef_same at x t marks s r h =
      let a = then_found (whole at s (modes_judged v.target marks t)) (λ t s. Ok ([], bind x (means.TypeNamed t) s)) r h in
      let e = whole_found at s (modes_judged v.target marks t) a.0 a.1 in
      ap (λ (z : State). z.names) (answer_is [] (bind x (means.TypeNamed a.0.0) a.0.1) r a.2).1 ∙ ap (λ (z : State). z.names) e.1

  pub category_keeps : (at : ℕ) (c : Category) (x : Name) (t : CType) (marks : List (At (List Attribute))) (value : Option (At Given)) (s : State) (r : List Expr × State) → JudgedAs c x t s → MayBe c x t value → value_fits value ≡ true → Entries s →
      declared_left v.target roles defined at c x t marks value s ≡ Ok r → (done : List Name) → All done s → All done r.1
  category_keeps at declares.Typedef x t marks value s r j m f e h done w = same_well v roles defined P done s r.1 (typedef_same at x t marks s r h) w
  category_keeps at (declares.Function asked) x t marks value s r j m f e h done w = function_keeps asked x t marks value s r h j (m.functions asked refl) done w
  category_keeps at (declares.Linked asked) x t marks None s r j m f e h done w = none_by at asked x t s r j e (m.among asked refl) asked (composite x t s) h done w
  category_keeps at (declares.Linked asked) x t marks (Some g) s r j m f e h done w = some_keeps at asked x t s r j e (m.among asked refl) g f (m.given asked g refl refl) h done w
  category_keeps at declares.StaticLocal x t marks value s r j m f e h done w = static_keeps at x t value s r j f h done w
  category_keeps at declares.Automatic x t marks value s r j m f e h done w = automatic_keeps at x t value s r f h done w

  -- what it defines
  abbrev pub Defines : Category → Option (At Given) → Type 0
  Defines declares.Typedef value = ⊥
  Defines (declares.Function asked) value = Unit {0}
  Defines (declares.Linked asked) value = (is_extern asked ≡ false) ⊎ (is_some value ≡ true)
  Defines declares.StaticLocal value = ⊥
  Defines declares.Automatic value = ⊥

  linked_done : (at : ℕ) (asked : DeclaredAs) (x : Name) (t : CType) (value : Option (At Given)) (s : State) (r : List Expr × State) → IsLinkedName asked x t s → MayBe (declares.Linked asked) x t value → value_fits value ≡ true → Entries s →
      linked_left v.target roles defined at asked x t value s ≡ Ok r → (is_extern asked ≡ false) ⊎ (is_some value ≡ true) → IsDone v.target roles defined P r.1 x
  linked_done at asked x t (Some g) s r j m f e h d = some_done at asked x t s r j e (m.among asked refl) g f (m.given asked g refl refl) h
  linked_done at asked x t None s r j m f e h (inl d) = none_done at asked x t s r j e (m.among asked refl) asked (composite x t s) d h
  linked_done at asked x t None s r j m f e h (inr d) = absurd (cc)

  pub category_done : (at : ℕ) (c : Category) (x : Name) (t : CType) (marks : List (At (List Attribute))) (value : Option (At Given)) (s : State) (r : List Expr × State) → JudgedAs c x t s → MayBe c x t value → value_fits value ≡ true → Entries s → AreApart s.names →
      declared_left v.target roles defined at c x t marks value s ≡ Ok r → Defines c value → IsDone v.target roles defined P r.1 x
  category_done at declares.Typedef x t marks value s r j m f e a h d = absurd d
  category_done at (declares.Function asked) x t marks value s r j m f e a h d = function_done asked x t marks value s r h j (m.functions asked refl) e a
  category_done at (declares.Linked asked) x t marks value s r j m f e a h d = linked_done at asked x t value s r j m f e h d
  category_done at declares.StaticLocal x t marks value s r j m f e a h d = absurd d
  category_done at declares.Automatic x t marks value s r j m f e a h d = absurd d
