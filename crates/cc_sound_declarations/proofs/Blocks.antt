-- What a declaration in a function leaves.
use Rattle.std.proofs.Common.{◌≡◌, ℕ, Bool, true, false, ◌&&◌, List, [], ◌∷◌, ◌++◌, map, Option, Some, None, Ok, refl, ap, sym, ◌∙◌}
use Rattle.std.specs.Prelude.{is_some, if◌then◌else◌}
use Rattle.std.specs.List.{list_all, list_any}
use Rattle.cc_typed_bodies.specs.CcTypedTerms.Declarators.{derived_type}
use Rattle.cc_typed_bodies.specs.CcTypedTerms.Located.{located}
use Rattle.cc_typed_bodies.specs.CcLinkage.declared.linkage.DeclaredAs.{DeclaredAs}
use Rattle.cc_typed_bodies.specs.CcObjects.Categories.{block_category, category_by, category_of, entity_of, is_given, setting_of}
use Rattle.cc_typed_bodies.specs.CcObjects.Names.{name_judged}
use Rattle.cc_typed_bodies.specs.CcObjects.Tags.{defines_untagged, aliased_at, first_name, is_typedef_word, aliased, sole_tag, tag_declared, sole_spec, sole_declared, in_front}
use Rattle.cc_typed_bodies.specs.CcObjects.Types.{is_complete_or_unbounded, composite}
use Rattle.cc_typed_bodies.specs.CcObjects.declared.category.Category.{Category}
use Rattle.cc_typed_bodies.specs.CcObjects.declared.category.Category.TheVariants as declares
use Rattle.cc_typed_bodies.specs.CcOperands.Qualified.{plain, is_function_type}
use Rattle.cc_typed_bodies.specs.CcSyntax.Views.{View}
use Rattle.cc_program.proofs.Each.{Each}
use Rattle.cc_program.specs.declared.expr.Expr.{Expr}
use Rattle.cc_program.specs.declared.program.Roles.{Roles}
use Rattle.cc_program.specs.declared.types.CType.{CType}
use Rattle.cc_program.specs.declared.types.Shape.{Shape, Array, out-Shape}
use Rattle.cc_program.specs.declared.types.Shape.TheOpen as shape
use Rattle.cc_program.specs.declared.types.Shape.TheVariants.{outs-Array}
use Rattle.cc_program.specs.declared.types.Sig.{Sig}
use Rattle.cc_typed_bodies.specs.CcScopes.Linked.{linked_name}
use Rattle.cc_typed_bodies.specs.CcScopes.Standings.{with_alias, is_none}
use Rattle.cc_typed_bodies.specs.CcScopes.State.{State, Name, Scope, structures_of, layouts_of}
use Rattle.cc_typed_bodies.specs.CcScopes.Structures.{new_structure, tag_by}
use Rattle.cc_typed_bodies.specs.CcScopes.Verdicts.{whole, and_then}
use Rattle.cc_typed_bodies.specs.CcScopes.State as states
use Rattle.cc_typed_bodies.specs.CcScopes.declared.designated.Tagged.{Tagged}
use Rattle.cc_sound_declarations.specs.Declaring.{AreDeclared, DeclaresGiven, Declares}
use Rattle.cc_sound_declarations.proofs.Declaring.{declares_itself, of_extends}
use Rattle.cc_sound_declarations.proofs.Steps.{restructured}
use Rattle.cc_sound_terms.specs.Behind.{SigStands}
use Rattle.cc_sound_terms.specs.Knowing.{Stands}
use Rattle.cc_sound_terms.specs.Ranges.{all_fit, declr_in_range, spec_in_range}
use Rattle.cc_sound_terms.specs.Standing.{IsDerived, Standing, VoidPointer, Unbounded, DerivationsStand}
use Rattle.cc_sound_terms.proofs.Cycle.{declr_holds}
use Rattle.cc_sound_terms.proofs.Founds.{answer_is, then_found, whole_found, located_found}
use Rattle.cc_sound_terms.proofs.Laws.{specifiers_stand}
use Rattle.cc_sound_terms.proofs.Types.{new_is, derived_holds}
use Rattle.cc_typed_bodies.specs.CcSpecifiers.Attributes.{attributes, entry_by}
use Rattle.cc_typed_bodies.specs.CcSpecifiers.Declarators.{declares_function, form_of, type_found}
use Rattle.cc_typed_bodies.specs.CcSpecifiers.declared.attribute.Attribute.{Attribute}
use Rattle.cc_typed_bodies.specs.CcSpecifiers.declared.derivation.Declarator.{Declarator}
use Rattle.cc_typed_bodies.specs.CcSpecifiers.declared.specifier.Specified.{Specified}
use Rattle.cc_typed_bodies.specs.CcSpecifiers.declared.storage.Where.{Where}
use Rattle.cc_typed_bodies.specs.CcSyntax.SameTypes.{is_func_shape}
use Rattle.cc_typed_bodies.specs.CcSyntax.Types.{Named}
use Rattle.cc_typed_bodies.proofs.CcSyntax.Prefixes.{both_true}
use Rattle.cc_typed_bodies.specs.CcTerms.InTurn.{in_turn}
use Rattle.cc_typed_bodies.specs.CcTerms.Specifiers.{specified_found}
use Rattle.cc_typed_bodies.specs.CcTerms.Terms.{spec_here, declr_of}
use Rattle.cc_tree.specs.declared.at.At.{At}
use Rattle.cc_tree.specs.declared.tree.Spec.{Spec, out-Spec}
use Rattle.cc_tree.specs.declared.unit.Decl.{Decl}
use Rattle.cc_tree.specs.declared.unit.Given.{Given}
use Rattle.cc_tree.specs.declared.unit.Init.{Init}
use Rattle.cc_typed_bodies.specs.Declarations.{marked, init_allowed, declared_left, declared_with, named_found, init_found, init_next, inits_found, declaration}
use Rattle.cc_program.specs.CcWords.declared.word.Word.{Word}
use Rattle.cc_program.specs.CcWords.declared.word.Word.TheVariants as w
use Rattle.cc_sound_declarations.specs.Ranges.{value_fits, init_fits, decl_fits}
use Rattle.cc_sound_declarations.proofs.Forms.{form_is, function_derived}
use Rattle.cc_sound_declarations.proofs.Given.{Leaves, left_as, nothing_left, then_left, left_from, same_declared, behind_types}
use Rattle.cc_sound_declarations.proofs.Left.{typedef_leaves, function_leaves, linked_by_none, static_none, static_some, automatic_none, automatic_some}
use Rattle.cc_sound_declarations.proofs.Lists.{initialised_fits}
use Rattle.cc_sound_declarations.proofs.Names.{IsOfObject, name_is}
use Rattle.cc_sound_declarations.proofs.Storage.{specified_fit, IsInside, Block, For, IsPlain, plain_inside}
use Rattle.cc_sound_declarations.proofs.Types.{complete_stands, plainly_derived, function_stands}

function_array : (of : CType) → is_function_type (plain (Array of 0)) ≡ false
function_array of = ap (is_func_shape (λ sig. true)) (outs-Array of 0)

module _ (v : View) (roles : Roles) (defined : List Name) (k : ℕ) where
  pub sig_derived : (unbounded : Bool) (t : CType) → is_function_type t ≡ true → IsDerived v false unbounded t → SigStands v (out-Shape t.shape)
  sig_derived unbounded t f (Standing s) = function_stands v t s f
  sig_derived unbounded t f (VoidPointer to h e g i) = absurd (cc)
  sig_derived unbounded t f (Unbounded of h e g) = let c : true ≡ false = sym f ∙ ap is_function_type e ∙ function_array of in absurd (cc)

  -- ---- what is left, by the category of a name

  abbrev pub Derived : Option (At Given) → CType → Type 0
  Derived value t = IsDerived v false (is_some value) t

  pub record IsAllowed (c : Category) (t : CType) (value : Option (At Given)) : Type 0 where
    pub typedefs : c ≡ declares.Typedef → value ≡ None
    pub linked : (asked : DeclaredAs) → c ≡ declares.Linked asked → value ≡ None
    pub functions : (asked : DeclaredAs) → c ≡ declares.Function asked → is_function_type t ≡ true

  some_none : {A : Type 0} (x : A) → Some x ≡ None → ⊥
  some_none x h = cc

  pub category_leaves : (at : ℕ) (c : Category) (x : Name) (t : CType) (marks : List (At (List Attribute))) (value : Option (At Given)) (D : List Named) (s : State) (r : List Expr × State) → AreDeclared k D s → IsAllowed c t value → value_fits value ≡ true →
      (IsOfObject c → is_complete_or_unbounded v.target s t ≡ true) → declared_left v.target roles defined at c x t marks value s ≡ Ok r → Leaves v defined (Derived value t) D s r.1
  category_leaves at declares.Typedef x t marks None D s r d a f o h = typedef_leaves v roles defined at x t marks D s r h
  category_leaves at declares.Typedef x t marks (Some g) D s r d a f o h = absurd (some_none g (a.typedefs refl))
  category_leaves at (declares.Function asked) x t marks value D s r d a f o h =
      function_leaves v roles defined (Derived value t) D asked x t marks value s r (a.functions asked refl) (λ p. sig_derived (is_some value) t (a.functions asked refl) p) h
  category_leaves at (declares.Linked asked) x t marks None D s r d a f o h =
      linked_by_none v roles defined (Derived None t) D at asked x t (composite x t s) s (linked_name x s) r (λ p w. complete_stands v t s w (plainly_derived v t p) (o tt)) h
  category_leaves at (declares.Linked asked) x t marks (Some g) D s r d a f o h = absurd (some_none g (a.linked asked refl))
  category_leaves at declares.StaticLocal x t marks None D s r d a f o h = static_none v roles defined D at x t s r (o tt) h
  category_leaves at declares.StaticLocal x t marks (Some g) D s r d a f o h = static_some v roles defined D at x t g s r (initialised_fits g f) h
  category_leaves at declares.Automatic x t marks None D s r d a f o h = automatic_none v roles defined D k at x t s r d (o tt) h
  category_leaves at declares.Automatic x t marks (Some g) D s r d a f o h = automatic_some v roles defined D k at x t g s r d (initialised_fits g f) h

  -- ---- a declarator

  pub declared_leaves : (at : ℕ) (c : Category) (x : Name) (t : CType) (marks : List (At (List Attribute))) (value : Option (At Given)) (D : List Named) (s : State) (r : List Expr × State) → AreDeclared k D s → IsAllowed c t value → value_fits value ≡ true →
      declared_with v.target roles defined at c x t marks value s ≡ Ok r → Leaves v defined (Derived value t) D s r.1
  declared_leaves at c x t marks value D s r d a f h =
      let b = then_found (whole at s (name_judged v.target roles c x t (entry_by marks) s)) (λ t s. declared_left v.target roles defined at c x t marks value s) r h in
      let e = whole_found at s (name_judged v.target roles c x t (entry_by marks) s) b.0 b.1 in
      let j = name_is v.target roles c x t b.0.0 (entry_by marks) s e.0 in
      category_leaves at c x t marks value D s r d a f j.object
      (ap (λ (u : CType). declared_left v.target roles defined at c x u marks value s) j.same ∙ ap (λ (z : State). declared_left v.target roles defined at c x b.0.0 marks value z) (sym e.1) ∙ b.2)

  named_leaves : (at : ℕ) (c : Category) (t : CType) (before : List (At (List Attribute))) (i : Init) (x : Option Name) (D : List Named) (s : State) (r : List Expr × State) → AreDeclared k D s → IsAllowed c t i.value → value_fits i.value ≡ true →
      named_found v.target roles defined at c t before i x s ≡ Ok r → Leaves v defined (Derived i.value t) D s r.1
  named_leaves at c t before i None D s r d a f h = left_as v defined (Derived i.value t) D s s r.1 (answer_is [] s r h).1 (nothing_left v defined (Derived i.value t) D s)
  named_leaves at c t before i (Some x) D s r d a f h =
      let b = then_found (marked (entity_of c) before i s) (λ marks s. declared_with v.target roles defined at c x t marks i.value s) r h in
      let m = then_found (located s (attributes (entity_of c ∷ []) i.attrs)) (λ marks s. Ok (before ++ marks, s)) b.0 b.1 in
      let e = located_found s (attributes (entity_of c ∷ []) i.attrs) m.0 m.1 in
      let n = answer_is (before ++ m.0.0) m.0.1 b.0 m.2 in
      declared_leaves at c x t b.0.0 i.value D s r d a f
      (ap (λ (z : State). declared_with v.target roles defined at c x t b.0.0 i.value z) (sym (n.1 ∙ e.1)) ∙ b.2)

  abbrev pub Category_of : Where → Specified → At Init → Category
  Category_of place base i = category_of place base.specs.storage (is_function_type base.ctype) i.node.declr.node

  pub function_is : (place : Where) (storage : Option Word) (b : Bool) (asked : DeclaredAs) → IsInside place → category_by place storage b ≡ declares.Function asked → b ≡ true
  function_is place storage true asked i h = refl
  function_is _ storage false asked Block h = absurd (no_block storage asked h)
    where
      no_block : (x : Option Word) (asked : DeclaredAs) → block_category x ≡ declares.Function asked → ⊥
      no_block None asked h = absurd (cc)
      no_block (Some w.Typedef) asked h = absurd (cc)
      no_block (Some w.Static) asked h = absurd (cc)
      no_block (Some w.Extern) asked h = absurd (cc)
      no_block (Some x) asked h = absurd (cc)
  function_is _ storage false asked For h = absurd (no_for storage asked h)
    where
      no_for : (x : Option Word) (asked : DeclaredAs) → block_category x ≡ declares.Function asked → ⊥
      no_for None asked h = absurd (cc)
      no_for (Some w.Typedef) asked h = absurd (cc)
      no_for (Some w.Static) asked h = absurd (cc)
      no_for (Some w.Extern) asked h = absurd (cc)
      no_for (Some x) asked h = absurd (cc)

  pub init_leaves : (place : Where) (base : Specified) (i : At Init) (D : List Named) (s : State) (r : List Expr × State) → AreDeclared k D s → IsInside place → IsPlain place base.specs.storage i → init_fits i ≡ true →
      init_found v.target roles defined place base i s ≡ Ok r → Leaves v defined (Stands v base.ctype) D s r.1
  init_leaves place base i D s r d inside plain f h =
      let allowed = init_allowed i.node in
      let fit = both_true (declr_in_range i.node.declr.node) (value_fits i.node.value) f in
      let c = Category_of place base i in
      let P = Stands v base.ctype in
      let a = then_found (declr_of v.target roles i.node.declr.node allowed i.node.declr.at s)
      (λ d s. and_then (derived_type v.target allowed base.ctype d s) (λ t s. named_found v.target roles defined i.at c t base.specs.marks i.node d.name s)) r h in
      let o = declr_holds v [] roles i.node.declr.node fit.0 allowed i.node.declr.at s a.0 a.1 in
      let b = then_found (derived_type v.target allowed base.ctype a.0.0 a.0.1) (λ t s. named_found v.target roles defined i.at c t base.specs.marks i.node a.0.0.name s) r a.2 in
      let q = derived_holds v allowed base.ctype a.0.0 a.0.1 b.0 b.1 in
      let l = located_found a.0.1 (type_found v.target (structures_of a.0.1) (layouts_of a.0.1) allowed base.ctype a.0.0.derivations) b.0 b.1 in
      let Q = P × DerivationsStand v allowed.unbounded a.0.0.derivations in
      let R = Q × IsDerived v false (is_some i.node.value) b.0.0 in
      let here = same_declared v defined k D a.0.1 b.0.1 q.grows (same_declared v defined k D s a.0.1 o.grows d) in
      behind_types v defined P (Declarator Scope) (λ y. DerivationsStand v allowed.unbounded y.derivations) D s a.0 r.1 (record { grows = o.grows; holds = λ w p. o.holds w })
      (behind_types v defined Q CType (λ t. IsDerived v false (is_some i.node.value) t) D a.0.1 b.0 r.1 (record { grows = q.grows; holds = λ w p. q.holds w p.1 p.0 })
      (left_from v defined R (Derived i.node.value b.0.0) D b.0.1 r.1 (λ p. p.1)
      (named_leaves i.at c b.0.0 base.specs.marks i.node a.0.0.name D b.0.1 r here
      (record {
        typedefs = λ e. plain.typedefs (declares_function (is_function_type base.ctype) i.node.declr.node) e;
        linked = λ asked e. plain.linked (declares_function (is_function_type base.ctype) i.node.declr.node) asked e;
        functions = λ asked e. function_derived v.target allowed base.ctype a.0.0.derivations a.0.1 b.0.0 (form_of i.node.declr.node) (form_is v.target roles i.node.declr.node allowed i.node.declr.at s a.0 a.1)
            (function_is place base.specs.storage (declares_function (is_function_type base.ctype) i.node.declr.node) asked inside e) l.0;
      }) fit.1 b.2)))

  pub inits_leave : (place : Where) (base : Specified) (is : List (At Init)) (before : List Expr) (D : List Named) (s : State) (r : List Expr × State) → AreDeclared k D s → IsInside place → Each (IsPlain place base.specs.storage) is → list_all init_fits is ≡ true →
      in_turn (init_next v.target roles defined place base) is before s ≡ Ok r → Leaves v defined (Stands v base.ctype) D s r.1
  inits_leave place base [] before D s r d inside plain f h = left_as v defined (Stands v base.ctype) D s s r.1 (answer_is before s r h).1 (nothing_left v defined (Stands v base.ctype) D s)
  inits_leave place base (i ∷ is) before D s r d inside plain f h =
      let fit = both_true (init_fits i) (list_all init_fits is) f in
      let a = then_found (init_next v.target roles defined place base i before s) (in_turn (init_next v.target roles defined place base) is) r h in
      let b = then_found (init_found v.target roles defined place base i s) (λ es s. Ok (before ++ es, s)) a.0 a.1 in
      let c = answer_is (before ++ b.0.0) b.0.1 a.0 b.2 in
      let first = left_as v defined (Stands v base.ctype) D s b.0.1 a.0.1 c.1 (init_leaves place base i D s b.0 d inside plain.0 fit.0 b.1) in
      then_left v defined (Stands v base.ctype) D first.0 s a.0.1 r.1 first.1
      (inits_leave place base is a.0.0 first.0 a.0.1 r (first.1.locals k d) inside plain.1 fit.1 a.2)

  -- ---- a declaration

  tag_goes : (x : Name) (D : List Named) (s : State) (o : Option Tagged) → Declares v defined s D (tag_by x s o) D
  tag_goes x D s None = of_extends v defined (Unit {0}) s (new_structure (Some x) s).1 D (new_is v (Some x) s).grows
  tag_goes x D s (Some t) = declares_itself v defined (Unit {0}) s D

  declared_goes : (x : Option Name) (D : List Named) (s : State) → Declares v defined s D (tag_declared x s) D
  declared_goes None D s = declares_itself v defined (Unit {0}) s D
  declared_goes (Some x) D s = tag_goes x D s (states.tagged_here x s)

  sole_goes : (x : Option Spec) (D : List Named) (s : State) → Declares v defined s D (sole_declared x s) D
  sole_goes None D s = declares_itself v defined (Unit {0}) s D
  sole_goes (Some x) D s = declared_goes (sole_tag (out-Spec x)) D s

  pub front_if : (b : Bool) (d : Decl) (D : List Named) (s : State) → Declares v defined s D (if b then sole_declared (sole_spec d.specs) s else s) D
  front_if true d D s = sole_goes (sole_spec d.specs) D s
  front_if false d D s = declares_itself v defined (Unit {0}) s D

  alias_at : (P : Type 0) (x : Option Name) (D : List Named) (s : State) (y : shape.Shape-F Shape CType Sig) → DeclaresGiven v defined P s D (aliased_at x s y) D
  alias_at P x D s (shape.Struct i) = restructured v defined P i (with_alias x) s D (λ k. refl) (λ k. refl)
  alias_at P x D s shape.Void = declares_itself v defined P s D
  alias_at P x D s (shape.Int t) = declares_itself v defined P s D
  alias_at P x D s (shape.Pointer to) = declares_itself v defined P s D
  alias_at P x D s (shape.Array of n) = declares_itself v defined P s D
  alias_at P x D s (shape.Func sig) = declares_itself v defined P s D

  pub alias_if : (P : Type 0) (b : Bool) (d : Decl) (base : Specified) (D : List Named) (s : State) → DeclaresGiven v defined P s D (if b then aliased_at (first_name d.inits) s (out-Shape base.ctype.shape) else s) D
  alias_if P true d base D s = alias_at P (first_name d.inits) D s (out-Shape base.ctype.shape)
  alias_if P false d base D s = declares_itself v defined P s D

  inside_setting : (place : Where) (d : Decl) (s : State) → IsInside place → IsInside (setting_of place d s).place
  inside_setting place d s i = i

  pub declaration_leaves : (place : Where) (decl : Decl) (D : List Named) (s : State) (r : List Expr × State) → IsInside place → decl_fits decl ≡ true → AreDeclared k D s → declaration v.target roles defined place decl s ≡ Ok r →
      (E : List Named) × Declares v defined s D r.1 E
  unfolding declaration
  declaration_leaves place decl D s r inside f d h =
      let fit = both_true (all_fit (map (λ (x : At Spec). record { at = x.at; node = spec_in_range x.node }) decl.specs)) (list_all init_fits decl.inits) f in
      let front = in_front decl s in
      let set = setting_of place decl s in
      let first = front_if (is_none decl.inits) decl D s in
      let a = then_found (specified_found set (map (spec_here v.target roles) decl.specs) front) (λ base s. inits_found v.target roles defined place base decl.inits (aliased decl base s)) r h in
      let o = specifiers_stand v roles set decl.specs fit.0 front a.0 a.1 in
      let P = Stands v a.0.0.ctype in
      let next = aliased decl a.0.0 a.0.1 in
      let alias = alias_if P (is_typedef_word a.0.0.specs.storage && defines_untagged decl.specs) decl a.0.0 D a.0.1 in
      let start = alias.locals k (same_declared v defined k D front a.0.1 o.grows (first.locals k d)) in
      let plain = plain_inside set a.0.0.specs decl.inits (list_any is_given decl.inits) (specified_fit set (map (spec_here v.target roles) decl.specs) front a.0 a.1) inside refl refl in
      then_left v defined (Unit {0}) D D s front r.1 first
      (behind_types v defined (Unit {0}) Specified (λ x. Stands v x.ctype) D front a.0 r.1 (record { grows = o.grows; holds = λ w p. o.holds w })
      (left_from v defined (Unit {0} × P) P D a.0.1 r.1 (λ p. p.1)
      (then_left v defined P D D a.0.1 next r.1 alias
      (inits_leave place a.0.0 decl.inits [] D next r start inside plain fit.1 a.2))))
