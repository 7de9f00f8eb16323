-- What a declaration in a function leaves, and the assignments that it gives.
use Rattle.std.proofs.Common.{◌≡◌, ℕ, Bool, true, false, ◌&&◌, List, [], ◌∷◌, ◌++◌, length, map, Option, Some, None, Ok, refl, ap, sym, ◌∙◌, subst}
use Rattle.std.specs.Prelude.{is_some, if◌then◌else◌}
use Rattle.std.specs.List.{list_all, list_any}
use Rattle.cc_typed_bodies.specs.CcTypedTerms.Declarators.{derived_type}
use Rattle.cc_typed_bodies.specs.CcTypedTerms.Located.{located}
use Rattle.cc_typed_bodies.specs.CcInitialisers.Initialisers.{here as given_here}
use Rattle.cc_typed_bodies.specs.CcLinkage.Linkage.{declared}
use Rattle.cc_typed_bodies.specs.CcLinkage.declared.linkage.DeclaredAs.{DeclaredAs}
use Rattle.cc_typed_bodies.specs.CcLinkage.declared.linkage.DeclaredAs.TheVariants.{AsStatic, AsObject, AsExtern}
use Rattle.cc_typed_bodies.specs.CcObjects.Categories.{entity_of, is_given, setting_of}
use Rattle.cc_typed_bodies.specs.CcObjects.Linked.{object_declared, with_static, with_automatic}
use Rattle.cc_typed_bodies.specs.CcObjects.Names.{name_judged}
use Rattle.cc_typed_bodies.specs.CcObjects.Tags.{defines_untagged, is_typedef_word, aliased, in_front}
use Rattle.cc_typed_bodies.specs.CcObjects.Types.{composite, element_type, is_complete_or_unbounded, type_given}
use Rattle.cc_typed_bodies.specs.CcObjects.Values.{expr_given, no_expr}
use Rattle.cc_typed_bodies.specs.CcObjects.declared.category.Category.{Category}
use Rattle.cc_typed_bodies.specs.CcObjects.declared.category.Category.TheVariants as declares
use Rattle.cc_typed_bodies.specs.CcOperands.Qualified.{is_function_type}
use Rattle.cc_typed_bodies.specs.CcOperands.declared.rule.Rule.TheVariants as rule
use Rattle.cc_typed_bodies.specs.CcTypedTerms.Primary.{is_intrinsic, leaves_or_none}
use Rattle.cc_program.proofs.Each.{Each}
use Rattle.cc_program.specs.declared.expr.Expr.{Expr}
use Rattle.cc_program.specs.declared.program.Roles.{Roles}
use Rattle.cc_program.specs.declared.types.CType.{CType}
use Rattle.cc_typed_bodies.specs.CcScopes.Definitions.{tentative_at, with_values}
use Rattle.cc_typed_bodies.specs.CcScopes.Standings.{is_none}
use Rattle.cc_typed_bodies.specs.CcScopes.State.{State, Name, Scope, bind, change_name, structures_of, layouts_of}
use Rattle.cc_typed_bodies.specs.CcScopes.Verdicts.{whole, and_then}
use Rattle.cc_typed_bodies.specs.CcScopes.declared.designated.Designated.TheVariants as means
use Rattle.cc_sound_declarations.specs.Assigns.{AssignsTyped, BodyReached, HasObjects}
use Rattle.cc_sound_declarations.proofs.Automatic.{automatic_given}
use Rattle.cc_sound_declarations.proofs.Complete.{element_complete}
use Rattle.cc_sound_declarations.proofs.Gives.{Gives, Typed, nothing_typed, gives_less, after_goes, after_types, behind_others}
use Rattle.cc_sound_declarations.proofs.Blocks.{Category_of, Derived, IsAllowed, alias_if, category_leaves, front_if, function_is}
use Rattle.cc_sound_declarations.proofs.Forms.{form_is, function_derived}
use Rattle.cc_sound_declarations.proofs.Given.{Leaves, nothing_left, same_declared}
use Rattle.cc_sound_declarations.proofs.Initialised.{broken_last}
use Rattle.cc_sound_declarations.proofs.Names.{IsOfObject, name_is}
use Rattle.cc_sound_declarations.proofs.Storage.{IsInside, IsPlain, plain_inside, specified_fit}
use Rattle.cc_sound_declarations.proofs.Types.{standing_bounded}
use Rattle.cc_sound_declarations.specs.Ranges.{decl_fits, init_fits, value_fits}
use Rattle.cc_sound_declarations.proofs.Declaring.{declares_itself}
use Rattle.cc_sound_declarations.specs.Declaring.{AreDeclared}
use Rattle.cc_sound_terms.proofs.Cycle.{declr_holds}
use Rattle.cc_sound_terms.proofs.Founds.{answer_is, then_found, whole_found, located_found}
use Rattle.cc_sound_terms.proofs.Laws.{specifiers_stand}
use Rattle.cc_sound_terms.proofs.Types.{derived_holds}
use Rattle.cc_sound_terms.specs.Behind.{Extends}
use Rattle.cc_sound_terms.specs.Knowing.{Stands}
use Rattle.cc_sound_terms.specs.Ranges.{all_fit, declr_in_range, spec_in_range}
use Rattle.cc_sound_terms.specs.Standing.{DerivationsStand, IsDerived}
use Rattle.cc_typed_bodies.specs.CcSpecifiers.Attributes.{attributes, entry_by}
use Rattle.cc_typed_bodies.specs.CcSpecifiers.Declarators.{declares_function, form_of, is_unbounded, type_found}
use Rattle.cc_typed_bodies.specs.CcSpecifiers.Modes.{modes_judged}
use Rattle.cc_typed_bodies.specs.CcSpecifiers.declared.attribute.Attribute.{Attribute}
use Rattle.cc_typed_bodies.specs.CcSpecifiers.declared.derivation.Declarator.{Declarator}
use Rattle.cc_typed_bodies.specs.CcSpecifiers.declared.specifier.Specified.{Specified}
use Rattle.cc_typed_bodies.specs.CcSpecifiers.declared.storage.Where.{Where}
use Rattle.cc_typed_bodies.proofs.CcSyntax.Prefixes.{both_true}
use Rattle.cc_typed_bodies.specs.CcSyntax.Types.{Named, is_complete}
use Rattle.cc_typed_bodies.specs.CcSyntax.Views.{View}
use Rattle.cc_typed_bodies.specs.CcTerms.InTurn.{in_turn}
use Rattle.cc_typed_bodies.specs.CcTerms.Specifiers.{specified_found}
use Rattle.cc_typed_bodies.specs.CcTerms.Terms.{spec_here, declr_of}
use Rattle.cc_tree.specs.declared.at.At.{At}
use Rattle.cc_tree.specs.declared.tree.Spec.{Spec}
use Rattle.cc_tree.specs.declared.unit.Decl.{Decl}
use Rattle.cc_tree.specs.declared.unit.Given.{Given}
use Rattle.cc_tree.specs.declared.unit.Init.{Init}
use Rattle.cc_typed_bodies.specs.Declarations.{marked, init_allowed, declared_left, declared_with, named_found, init_found, init_next, inits_found, declaration}
use Rattle.cc_typed_bodies.specs.Functions.{function_left, function_refused, typedef_left, with_function}
use Rattle.cc_typed_bodies.specs.Objects.{automatic_left, leaves_found, linked_given, linked_left, static_left}
use Rattle.cc_typed_bodies.specs.CcUnit.declared.unit.UnitKind.TheVariants as kind

module _ (v : View) (roles : Roles) (defined : List Name) (k : ℕ) where
  -- ---- what declares no automatic object with an initialiser gives nothing

  typedef_nothing : (at : ℕ) (x : Name) (t : CType) (marks : List (At (List Attribute))) (s : State) (r : List Expr × State) → typedef_left v.target at x t marks s ≡ Ok r → r.0 ≡ []
  typedef_nothing at x t marks s r h =
      let a = then_found (whole at s (modes_judged v.target marks t)) (λ t s. Ok ([], bind x (means.TypeNamed t) s)) r h in
      (answer_is [] (bind x (means.TypeNamed a.0.0) a.0.1) r a.2).0

  refused_nothing : (value : Option (At Given)) (s : State) (r : List Expr × State) → function_refused v.target roles value s ≡ Ok r → r.0 ≡ []
  refused_nothing None s r h = (answer_is [] s r h).0
  refused_nothing (Some g) s r h = absurd (broken_last v roles Expr (expr_given v.target) no_expr (given_here g).node.visited (given_here g).at rule.InitialiserShape [] s r h)

  function_nothing : (b : Bool) (value : Option (At Given)) (s t : State) (r : List Expr × State) → (if b then function_refused v.target roles value s else function_refused v.target roles value t) ≡ Ok r → r.0 ≡ []
  function_nothing true value s t r h = refused_nothing value s r h
  function_nothing false value s t r h = refused_nothing value t r h

  linked_nothing : (asked : DeclaredAs) (at : ℕ) (t u : CType) (n : ℕ) (s : State) (r : List Expr × State) → linked_given v.target roles at asked t u n None s ≡ Ok r → r.0 ≡ []
  linked_nothing AsExtern at t u n s r h = (answer_is [] s r h).0
  linked_nothing AsStatic at t u n s r h = (answer_is [] (change_name n (tentative_at at) s) r h).0
  linked_nothing AsObject at t u n s r h = (answer_is [] (change_name n (tentative_at at) s) r h).0

  static_nothing : (at : ℕ) (x : Name) (t : CType) (value : Option (At Given)) (s : State) (r : List Expr × State) → static_left v.target roles at x t value s ≡ Ok r → r.0 ≡ []
  static_nothing at x t None s r h = (answer_is [] (with_static at x t s) r h).0
  static_nothing at x t (Some g) s r h =
      let u = type_given t (Some g) s in
      let n = length s.names in
      let a = then_found (leaves_found v.target roles at n t u g (with_static at x u s)) (λ values s. Ok ([], change_name n (with_values (leaves_or_none values)) s)) r h in
      (answer_is [] (change_name n (with_values (leaves_or_none a.0.0)) a.0.1) r a.2).0

  some_none : {A : Type 0} (x : A) → Some x ≡ None → ⊥
  some_none x h = cc

  -- ---- by the category of a name

  module _ (P : Type 0) (at : ℕ) (x : Name) (t : CType) (marks : List (At (List Attribute))) (value : Option (At Given)) (D : List Named) (s : State) (r : List Expr × State) (has : HasObjects k D s) (f : value_fits value ≡ true)
      (derived : P → Derived v roles defined k value t) where
    -- an array whose bound an initialiser gives has a complete element
    abbrev HasElement : State → Type 0
    HasElement s = P → is_unbounded t ≡ true → is_complete (structures_of s) (element_type t) ≡ true

    leaves_nothing : (c : Category) → IsAllowed v roles defined k c t value → (IsOfObject c → is_complete_or_unbounded v.target s t ≡ true) → declared_left v.target roles defined at c x t marks value s ≡ Ok r → r.0 ≡ [] →
        Gives v defined k (Typed v defined k) P D s r
    leaves_nothing c a o h e =
        gives_less v defined k (Typed v defined k) P (Derived v roles defined k value t) D s r derived
        (nothing_typed v defined k (Derived v roles defined k value t) D s r e (category_leaves v roles defined k at c x t marks value D s r has.declared a f o h))

  category_gives : (P : Type 0) (at : ℕ) (c : Category) (x : Name) (t : CType) (marks : List (At (List Attribute))) (value : Option (At Given)) (D : List Named) (s : State) (r : List Expr × State) → HasObjects k D s →
      IsAllowed v roles defined k c t value → value_fits value ≡ true → (P → Derived v roles defined k value t) → (P → is_unbounded t ≡ true → is_complete (structures_of s) (element_type t) ≡ true) →
      (IsOfObject c → is_complete_or_unbounded v.target s t ≡ true) → declared_left v.target roles defined at c x t marks value s ≡ Ok r → Gives v defined k (Typed v defined k) P D s r
  category_gives P at declares.Typedef x t marks value D s r has a f d el o h =
      leaves_nothing P at x t marks value D s r has f d declares.Typedef a o h (typedef_nothing at x t marks s r h)
  category_gives P at (declares.Function asked) x t marks value D s r has a f d el o h =
      leaves_nothing P at x t marks value D s r has f d (declares.Function asked) a o h
      (function_nothing (is_intrinsic roles x) value s (with_function (entry_by marks) (declared x asked t (kind.Func None None) s)) r h)
  category_gives P at (declares.Linked asked) x t marks None D s r has a f d el o h =
      let c = composite x t s in
      let known = object_declared defined asked x c s in
      leaves_nothing P at x t marks None D s r has f d (declares.Linked asked) a o h (linked_nothing asked at c c known.0 known.1 r h)
  category_gives P at (declares.Linked asked) x t marks (Some g) D s r has a f d el o h = absurd (some_none g (a.linked asked refl))
  category_gives P at declares.StaticLocal x t marks value D s r has a f d el o h =
      leaves_nothing P at x t marks value D s r has f d declares.StaticLocal a o h (static_nothing at x t value s r h)
  category_gives P at declares.Automatic x t marks None D s r has a f d el o h =
      leaves_nothing P at x t marks None D s r has f d declares.Automatic a o h (answer_is [] (with_automatic x t s) r h).0
  category_gives P at declares.Automatic x t marks (Some g) D s r has a f d el o h = automatic_given v roles defined k P at x t g D s r has f d el (o tt) h

  -- ---- a declarator

  declared_gives : (P : Type 0) (at : ℕ) (c : Category) (x : Name) (t : CType) (marks : List (At (List Attribute))) (value : Option (At Given)) (D : List Named) (s : State) (r : List Expr × State) → HasObjects k D s →
      IsAllowed v roles defined k c t value → value_fits value ≡ true → (P → Derived v roles defined k value t) → (P → is_unbounded t ≡ true → is_complete (structures_of s) (element_type t) ≡ true) →
      declared_with v.target roles defined at c x t marks value s ≡ Ok r → Gives v defined k (Typed v defined k) P D s r
  declared_gives P at c x t marks value D s r has a f d el h =
      let b = then_found (whole at s (name_judged v.target roles c x t (entry_by marks) s)) (λ t s. declared_left v.target roles defined at c x t marks value s) r h in
      let e = whole_found at s (name_judged v.target roles c x t (entry_by marks) s) b.0 b.1 in
      let j = name_is v.target roles c x t b.0.0 (entry_by marks) s e.0 in
      category_gives P at c x t marks value D s r has a f d el j.object
      (ap (λ (u : CType). declared_left v.target roles defined at c x u marks value s) j.same ∙ ap (λ (z : State). declared_left v.target roles defined at c x b.0.0 marks value z) (sym e.1) ∙ b.2)

  named_gives : (P : Type 0) (at : ℕ) (c : Category) (t : CType) (before : List (At (List Attribute))) (i : Init) (x : Option Name) (D : List Named) (s : State) (r : List Expr × State) → HasObjects k D s →
      IsAllowed v roles defined k c t i.value → value_fits i.value ≡ true → (P → Derived v roles defined k i.value t) → (P → is_unbounded t ≡ true → is_complete (structures_of s) (element_type t) ≡ true) →
      named_found v.target roles defined at c t before i x s ≡ Ok r → Gives v defined k (Typed v defined k) P D s r
  named_gives P at c t before i None D s r has a f d el h =
      let e = answer_is [] s r h in nothing_typed v defined k P D s r e.0 (subst (λ (z : State). Leaves v defined P D s z) (sym e.1) (nothing_left v defined P D s))
  named_gives P at c t before i (Some x) D s r has a f d el h =
      let b = then_found (marked (entity_of c) before i s) (λ marks s. declared_with v.target roles defined at c x t marks i.value s) r h in
      let m = then_found (located s (attributes (entity_of c ∷ []) i.attrs)) (λ marks s. Ok (before ++ marks, s)) b.0 b.1 in
      let e = located_found s (attributes (entity_of c ∷ []) i.attrs) m.0 m.1 in
      let n = answer_is (before ++ m.0.0) m.0.1 b.0 m.2 in
      declared_gives P at c x t b.0.0 i.value D s r has a f d el
      (ap (λ (z : State). declared_with v.target roles defined at c x t b.0.0 i.value z) (sym (n.1 ∙ e.1)) ∙ b.2)

  same_objects : (D : List Named) (s t : State) → Extends v s t → HasObjects k D s → HasObjects k D t
  same_objects D s t g h = record { declared = same_declared v defined k D s t g h.declared; ordered = g.ordered h.ordered }

  init_gives : (place : Where) (base : Specified) (i : At Init) (D : List Named) (s : State) (r : List Expr × State) → HasObjects k D s → IsInside place → IsPlain place base.specs.storage i → init_fits i ≡ true →
      init_found v.target roles defined place base i s ≡ Ok r → Gives v defined k (Typed v defined k) (Stands v base.ctype) D s r
  init_gives place base i D s r has inside plain f h =
      let allowed = init_allowed i.node in
      let fit = both_true (declr_in_range i.node.declr.node) (value_fits i.node.value) f in
      let c = Category_of v roles defined k place base i in
      let P = Stands v base.ctype in
      let T = Typed v defined k in
      let a = then_found (declr_of v.target roles i.node.declr.node allowed i.node.declr.at s)
      (λ d s. and_then (derived_type v.target allowed base.ctype d s) (λ t s. named_found v.target roles defined i.at c t base.specs.marks i.node d.name s)) r h in
      let o = declr_holds v [] roles i.node.declr.node fit.0 allowed i.node.declr.at s a.0 a.1 in
      let b = then_found (derived_type v.target allowed base.ctype a.0.0 a.0.1) (λ t s. named_found v.target roles defined i.at c t base.specs.marks i.node a.0.0.name s) r a.2 in
      let q = derived_holds v allowed base.ctype a.0.0 a.0.1 b.0 b.1 in
      let l = located_found a.0.1 (type_found v.target (structures_of a.0.1) (layouts_of a.0.1) allowed base.ctype a.0.0.derivations) b.0 b.1 in
      let Q = P × DerivationsStand v allowed.unbounded a.0.0.derivations in
      let R = Q × IsDerived v false (is_some i.node.value) b.0.0 in
      let here = same_objects D a.0.1 b.0.1 q.grows (same_objects D s a.0.1 o.grows has) in
      after_types v defined k T P (Declarator Scope) (λ y. DerivationsStand v allowed.unbounded y.derivations) D s a.0 r (record { grows = o.grows; holds = λ w p. o.holds w })
      (after_types v defined k T Q CType (λ t. IsDerived v false (is_some i.node.value) t) D a.0.1 b.0 r (record { grows = q.grows; holds = λ w p. q.holds w p.1 p.0 })
      (named_gives R i.at c b.0.0 base.specs.marks i.node a.0.0.name D b.0.1 r here
      (record {
        typedefs = λ e. plain.typedefs (declares_function (is_function_type base.ctype) i.node.declr.node) e;
        linked = λ asked e. plain.linked (declares_function (is_function_type base.ctype) i.node.declr.node) asked e;
        functions = λ asked e. function_derived v.target allowed base.ctype a.0.0.derivations a.0.1 b.0.0 (form_of i.node.declr.node) (form_is v.target roles i.node.declr.node allowed i.node.declr.at s a.0 a.1)
            (function_is v roles defined k place base.specs.storage (declares_function (is_function_type base.ctype) i.node.declr.node) asked inside e) l.0;
      }) fit.1 (λ p. p.1)
      (λ p e. subst (λ (z : State). is_complete (structures_of z) (element_type b.0.0) ≡ true) (sym l.1)
      (element_complete v.target (structures_of a.0.1) (layouts_of a.0.1) allowed.void base.ctype a.0.0.derivations b.0.0 l.0 (standing_bounded v base.ctype p.0.0) e)) b.2))

  -- ---- one behind another

  inits_give : (place : Where) (base : Specified) (is : List (At Init)) (before : List Expr) (D : List Named) (s : State) (r : List Expr × State) → HasObjects k D s → IsInside place → Each (IsPlain place base.specs.storage) is → list_all init_fits is ≡ true →
      in_turn (init_next v.target roles defined place base) is before s ≡ Ok r → Gives v defined k (λ L es. AssignsTyped v k L before → AssignsTyped v k L es) (Stands v base.ctype) D s r
  inits_give place base [] before D s r has inside plain f h =
      let e = answer_is before s r h in
      let P = Stands v base.ctype in
      let l = subst (λ (z : State). Leaves v defined P D s z) (sym e.1) (nothing_left v defined P D s) in
      record { objects = l.0; goes = l.1; typed = λ L more g p w prior. subst (AssignsTyped v k L) (sym e.0) prior }
  inits_give place base (i ∷ is) before D s r has inside plain f h =
      let P = Stands v base.ctype in
      let fit = both_true (init_fits i) (list_all init_fits is) f in
      let a = then_found (init_next v.target roles defined place base i before s) (in_turn (init_next v.target roles defined place base) is) r h in
      let b = then_found (init_found v.target roles defined place base i s) (λ es s. Ok (before ++ es, s)) a.0 a.1 in
      let c = answer_is (before ++ b.0.0) b.0.1 a.0 b.2 in
      let first = init_gives place base i D s b.0 has inside plain.0 fit.0 b.1 in
      let next = in_turn (init_next v.target roles defined place base) is in
      let there : HasObjects k first.objects b.0.1 = record { declared = first.goes.locals k has.declared; ordered = first.goes.ordered has.ordered } in
      let rest : next (before ++ b.0.0) b.0.1 ≡ Ok r = ap (λ (es : List Expr). next es b.0.1) (sym c.0) ∙ ap (next a.0.0) (sym c.1) ∙ a.2 in
      behind_others v defined k P before b.0.0 D s b.0.1 r first
      (inits_give place base is (before ++ b.0.0) first.objects b.0.1 r there inside plain.1 fit.1 rest)

  -- ---- a declaration

  pub declaration_reaches : (place : Where) (decl : Decl) (D : List Named) (s : State) (r : List Expr × State) → IsInside place → decl_fits decl ≡ true → HasObjects k D s → declaration v.target roles defined place decl s ≡ Ok r →
      BodyReached v k defined (List Expr) (AssignsTyped v k) D s r
  unfolding declaration
  declaration_reaches place decl D s r inside f has h =
      let fit = both_true (all_fit (map (λ (x : At Spec). record { at = x.at; node = spec_in_range x.node }) decl.specs)) (list_all init_fits decl.inits) f in
      let front = in_front decl s in
      let set = setting_of place decl s in
      let first = front_if v roles defined k (is_none decl.inits) decl D s in
      let a = then_found (specified_found set (map (spec_here v.target roles) decl.specs) front) (λ base s. inits_found v.target roles defined place base decl.inits (aliased decl base s)) r h in
      let o = specifiers_stand v roles set decl.specs fit.0 front a.0 a.1 in
      let P = Stands v a.0.0.ctype in
      let T = λ (L : List Named) (es : List Expr). AssignsTyped v k L [] → AssignsTyped v k L es in
      let next = aliased decl a.0.0 a.0.1 in
      let alias = alias_if v roles defined k P (is_typedef_word a.0.0.specs.storage && defines_untagged decl.specs) decl a.0.0 D a.0.1 in
      let start : HasObjects k D next = record {
        declared = alias.locals k (same_declared v defined k D front a.0.1 o.grows (first.locals k has.declared));
        ordered = alias.ordered (o.grows.ordered (first.ordered has.ordered));
      } in
      let plain = plain_inside set a.0.0.specs decl.inits (list_any is_given decl.inits) (specified_fit set (map (spec_here v.target roles) decl.specs) front a.0 a.1) inside refl refl in
      let all = after_goes v defined k T (Unit {0}) D D s front r first
      (after_types v defined k T (Unit {0}) Specified (λ x. Stands v x.ctype) D front a.0 r (record { grows = o.grows; holds = λ w p. o.holds w })
      (gives_less v defined k T (Unit {0} × P) P D a.0.1 r (λ p. p.1)
      (after_goes v defined k T P D D a.0.1 next r alias
      (inits_give place a.0.0 decl.inits [] D next r start inside plain fit.1 a.2)))) in
      record { objects = all.objects; goes = all.goes; holds = λ L more g w. all.typed L more g tt w refl }
