-- Declarations, in a block and at file scope, keep functions with their bodies.
use Rattle.std.proofs.Common.{◌≡◌, ℕ, Bool, true, false, ◌&&◌, List, [], ◌∷◌, ◌++◌, length, map, Option, Some, None, Ok, refl, ap, sym, ◌∙◌, subst}
use Rattle.std.specs.Prelude.{slice_get, if◌then◌else◌}
use Rattle.std.specs.List.{list_all, list_any}
use Rattle.std.specs.Str.{bytes_eq}
use Rattle.cc_type.specs.CcInitialisers.Scalars.{scalars_from}
use Rattle.cc_type.specs.CcLinkage.Linkage.{declared, declared_by, new_declared}
use Rattle.cc_type.specs.CcLinkage.declared.linkage.DeclaredAs.{DeclaredAs}
use Rattle.cc_type.specs.CcLinkage.declared.linkage.DeclaredAs.TheVariants.{AsStatic, AsObject, AsExtern}
use Rattle.cc_type.specs.CcObjects.Categories.{entity_of, is_given, setting_of}
use Rattle.cc_type.specs.CcObjects.Linked.{object_kind, static_object, with_automatic, with_static}
use Rattle.cc_type.specs.CcObjects.Names.{name_judged}
use Rattle.cc_type.specs.CcObjects.Tags.{aliased, aliased_at, defines_untagged, first_name, in_front, is_typedef_word, sole_declared, sole_spec, sole_tag, tag_declared}
use Rattle.cc_type.specs.CcObjects.Types.{composite, composite_by, contents_in, given_incomplete, type_given}
use Rattle.cc_type.specs.CcObjects.Values.{assignments, expr_given, leaf_given, no_expr, no_leaf}
use Rattle.cc_type.specs.CcObjects.declared.category.Category.{Category}
use Rattle.cc_type.specs.CcObjects.declared.category.Category.TheVariants as declares
use Rattle.cc_type.specs.CcOperands.Qualified.{is_function_type, without_const}
use Rattle.cc_program.proofs.Each.{Each}
use Rattle.cc_program.specs.declared.expr.Expr.{Expr}
use Rattle.cc_program.specs.declared.expr.Place.{Place, Local, Static}
use Rattle.cc_program.specs.declared.func.Entry.{Entry}
use Rattle.cc_program.specs.declared.program.Roles.{Roles}
use Rattle.cc_program.specs.declared.types.CType.{CType}
use Rattle.cc_program.specs.declared.types.Shape.{Shape, out-Shape}
use Rattle.cc_program.specs.declared.types.Shape.TheOpen as shape
use Rattle.cc_program.specs.declared.types.Sig.{Sig}
use Rattle.cc_program.specs.declared.value.Leaf.{Leaf}
use Rattle.cc_read_accessed.proofs.Keeping.{Keeps, keeps_as, keeps_changed, keeps_declared, keeps_entry, keeps_extends, keeps_itself, keeps_names, keeps_tentative, keeps_through, known_keeps, named_once, named_at, object_at, object_stays_so, some_is, was_object}
use Rattle.cc_read_sound.proofs.DeclaratorNames.{declarator_name}
use Rattle.cc_read_sound.proofs.DefinedNames.{IsExternal, all_external}
use Rattle.cc_read_sound.proofs.ExternalDeclarations.{init_stays}
use Rattle.cc_read_sound.proofs.ExternalEntries.{entries_stay}
use Rattle.cc_read_sound.proofs.Linked.{external_definition, known_by, type_by}
use Rattle.cc_read_sound.proofs.Lists.{linked_there}
use Rattle.cc_read_sound.proofs.StorageClasses.{storage_is}
use Rattle.cc_read_sound.specs.External.{AreAmong, AreEntries}
use Rattle.cc_type.specs.CcScopes.Definitions.{defined_at, tentative_at, with_entry, with_values}
use Rattle.cc_type.specs.CcScopes.Linked.{linked_name}
use Rattle.cc_type.specs.CcScopes.Standings.{is_none}
use Rattle.cc_type.specs.CcScopes.State.{State, Name, bind, change_name, layouts_of, structures_of, tagged_here, with_declared, with_unfinished}
use Rattle.cc_type.specs.CcScopes.Structures.{tag_by}
use Rattle.cc_type.specs.CcScopes.Verdicts.{and_then, whole}
use Rattle.cc_type.specs.CcScopes.declared.designated.Designated.TheVariants as means
use Rattle.cc_type.specs.CcScopes.declared.designated.Tagged.{Tagged}
use Rattle.cc_type.specs.CcScopes.declared.unit.Declared.{Declared}
use Rattle.cc_sound_declarations.proofs.Blocks.{Category_of, alias_if, front_if}
use Rattle.cc_sound_declarations.proofs.Declaring.{of_extends}
use Rattle.cc_sound_declarations.proofs.Given.{goes_as}
use Rattle.cc_sound_declarations.proofs.Left.{IsInitialised, initial_is, initialised_goes, object_stays, refused_leaves}
use Rattle.cc_sound_declarations.proofs.Lists.{initialised_fits}
use Rattle.cc_sound_declarations.proofs.Names.{name_is}
use Rattle.cc_sound_declarations.proofs.Storage.{IsInside, IsPlain, plain_inside, specified_fit, typedef_plain}
use Rattle.cc_sound_declarations.specs.Ranges.{decl_fits, given_in_range, init_fits, value_fits}
use Rattle.cc_sound_terms.proofs.Cycle.{declr_holds}
use Rattle.cc_sound_terms.proofs.Founds.{answer_is, located_found, then_found, whole_found}
use Rattle.cc_sound_terms.proofs.Growth.{changed_there, get_last}
use Rattle.cc_sound_terms.proofs.Laws.{specifiers_stand}
use Rattle.cc_sound_terms.specs.Knowing.{Stands}
use Rattle.cc_sound_terms.specs.Ranges.{all_fit, declr_in_range, spec_in_range}
use Rattle.cc_type.specs.CcSpecifiers.Attributes.{attributes, entry_by, is_function}
use Rattle.cc_type.specs.CcSpecifiers.Declarators.{declares_function, is_unbounded, type_found}
use Rattle.cc_type.specs.CcSpecifiers.Modes.{modes_judged}
use Rattle.cc_type.specs.CcSpecifiers.declared.attribute.Attribute.{Attribute}
use Rattle.cc_type.specs.CcSpecifiers.declared.specifier.Specified.{Specified}
use Rattle.cc_type.specs.CcSpecifiers.declared.storage.Where.{Where}
use Rattle.cc_type.specs.CcSpecifiers.declared.storage.Where.TheVariants as place
use Rattle.cc_type.proofs.CcSyntax.Prefixes.{both_true}
use Rattle.cc_type.specs.CcSyntax.Views.{View}
use Rattle.cc_type.specs.CcTerms.InTurn.{in_turn}
use Rattle.cc_type.specs.CcTerms.Specifiers.{specified_found}
use Rattle.cc_type.specs.CcTerms.Terms.{declr_of, spec_here}
use Rattle.cc_tree.specs.Scopes.{name_of}
use Rattle.cc_tree.specs.declared.at.At.{At}
use Rattle.cc_tree.specs.declared.tree.Spec.{Spec, out-Spec}
use Rattle.cc_tree.specs.declared.unit.Decl.{Decl}
use Rattle.cc_tree.specs.declared.unit.Given.{Given}
use Rattle.cc_tree.specs.declared.unit.Init.{Init}
use Rattle.cc_tree.specs.declared.unit.Item.TheVariants as item
use Rattle.cc_type.specs.Defined.{defined_by, defined_with}
use Rattle.cc_type.specs.CcTypedBodies.Declarations.{declaration, declared_left, declared_with, init_allowed, init_found, init_next, inits_found, marked, named_found}
use Rattle.cc_type.specs.CcTypedBodies.Functions.{function_refused, typedef_left, with_function}
use Rattle.cc_type.specs.CcTypedBodies.Objects.{automatic_left, exprs_found, leaves_found, linked_defined, linked_given, static_left}
use Rattle.cc_type.specs.CcTypedTerms.Declarators.{derived_type}
use Rattle.cc_type.specs.CcTypedTerms.Located.{located}
use Rattle.cc_type.specs.CcTypedTerms.Primary.{is_intrinsic, leaves_or_none}
use Rattle.cc_type.specs.CcUnit.declared.unit.UnitKind.{UnitKind}
use Rattle.cc_type.specs.CcUnit.declared.unit.UnitKind.TheVariants as kind
use Rattle.cc_program.specs.CcWords.declared.word.Word.{Word}
use Rattle.cc_program.specs.CcWords.declared.word.Word.TheVariants as w

some_none : {A : Type 0} (x : A) (o : Option A) → o ≡ None → o ≡ Some x → ⊥
some_none x o e f = let c : None ≡ Some x = sym e ∙ f in absurd (cc)

-- ---- tags and aliases declare no names

tag_names : (x : Name) (s : State) (o : Option Tagged) → (tag_by x s o).names ≡ s.names
tag_names x s None = refl
tag_names x s (Some t) = refl

declared_names : (x : Option Name) (s : State) → (tag_declared x s).names ≡ s.names
declared_names None s = refl
declared_names (Some x) s = tag_names x s (tagged_here x s)

sole_names : (x : Option Spec) (s : State) → (sole_declared x s).names ≡ s.names
sole_names None s = refl
sole_names (Some x) s = declared_names (sole_tag (out-Spec x)) s

front_names : (b : Bool) (d : Decl) (s : State) → (if b then sole_declared (sole_spec d.specs) s else s).names ≡ s.names
front_names true d s = sole_names (sole_spec d.specs) s
front_names false d s = refl

alias_names : (x : Option Name) (s : State) (y : shape.Shape-F Shape CType Sig) → (aliased_at x s y).names ≡ s.names
alias_names x s (shape.Struct i) = refl
alias_names x s shape.Void = refl
alias_names x s (shape.Int t) = refl
alias_names x s (shape.Pointer to) = refl
alias_names x s (shape.Array of n) = refl
alias_names x s (shape.Func sig) = refl

aliased_names : (b : Bool) (x : Option Name) (s : State) (y : shape.Shape-F Shape CType Sig) → (if b then aliased_at x s y else s).names ≡ s.names
aliased_names true x s y = alias_names x s y
aliased_names false x s y = refl

module _ (v : View) (roles : Roles) (defined : List Name) where
  -- ---- typedefs and functions

  typedef_keeps : (at : ℕ) (x : Name) (t : CType) (marks : List (At (List Attribute))) (s : State) (r : List Expr × State) → typedef_left v.target at x t marks s ≡ Ok r → Keeps s r.1
  typedef_keeps at x t marks s r h =
      let a = then_found (whole at s (modes_judged v.target marks t)) (λ t s. Ok ([], bind x (means.TypeNamed t) s)) r h in
      let e = whole_found at s (modes_judged v.target marks t) a.0 a.1 in
      keeps_names s r.1 (ap (λ (z : State). z.names) (answer_is [] (bind x (means.TypeNamed a.0.0) a.0.1) r a.2).1 ∙ ap (λ (z : State). z.names) e.1)

  pub function_known : (x : Name) (asked : DeclaredAs) (t : CType) (entry : Option Entry) (s : State) → Keeps s (with_function entry (declared x asked t (kind.Func None None) s))
  function_known x asked t entry s =
      let known = declared x asked t (kind.Func None None) s in
      keeps_through s known.1 (change_name known.0 (with_entry entry) known.1) (known_keeps v x asked t (kind.Func None None) s (linked_name x s)) (keeps_entry known.0 entry known.1)

  function_if : (b : Bool) (value : Option (At Given)) (s t : State) (r : List Expr × State) → Keeps s t → (if b then function_refused v.target roles value s else function_refused v.target roles value t) ≡ Ok r → Keeps s r.1
  function_if true value s t r k h = keeps_as s s r.1 (refused_leaves v roles defined (Unit {0}) [] value s r h) (keeps_itself s)
  function_if false value s t r k h = keeps_as s t r.1 (refused_leaves v roles defined (Unit {0}) [] value t r h) k

  -- ---- what an initialiser adds

  begun_names : (b : Bool) (a : Option Place) (s : State) → (if b then with_unfinished a s else s).names ≡ s.names
  begun_names true a s = refl
  begun_names false a s = refl

  initialised_keeps : (X : Type 0) (t u : CType) (a : Place) (s : State) (r : X × State) → IsInitialised v roles defined X t u a s r → Keeps s r.1
  initialised_keeps X t u a s r i =
      keeps_through s (given_incomplete t a s) r.1 (keeps_names s (given_incomplete t a s) (begun_names (is_unbounded t) (Some a) s))
      (keeps_through (given_incomplete t a s) i.middle r.1 (keeps_extends v (given_incomplete t a s) i.middle i.grown) (keeps_names i.middle r.1 (ap (λ (z : State). z.names) i.last)))

  -- ---- automatic objects, and static ones of blocks

  automatic_keeps : (at : ℕ) (x : Name) (t : CType) (value : Option (At Given)) (s : State) (r : List Expr × State) → value_fits value ≡ true → automatic_left v.target roles at x t value s ≡ Ok r → Keeps s r.1
  automatic_keeps at x t None s r f h = keeps_names s r.1 (ap (λ (z : State). z.names) (answer_is [] (with_automatic x t s) r h).1)
  automatic_keeps at x t (Some g) s r f h =
      let u = type_given t (Some g) s in
      let n = length s.locals in
      let start = with_automatic x u s in
      let a = then_found (exprs_found v.target roles at n t u g start) (λ values s. Ok (assignments (scalars_from v.target (contents_in (without_const u) s) 0 (Local n)) values, s)) r h in
      let i = initial_is v roles defined Expr (expr_given v.target) no_expr at (Local n) t u (without_const u) g start a.0 (initialised_fits g f (contents_in (without_const u) start)) a.1 in
      let e = answer_is (assignments (scalars_from v.target (contents_in (without_const u) a.0.1) 0 (Local n)) a.0.0) a.0.1 r a.2 in
      keeps_as s a.0.1 r.1 e.1 (keeps_through s start a.0.1 (keeps_names s start refl) (initialised_keeps (List Expr) t u (Local n) start a.0 i))

  static_begins : (at : ℕ) (x : Name) (u : CType) (s : State) → Keeps s (with_static at x u s)
  static_begins at x u s =
      let d = static_object at x u in
      let start = with_declared d s in
      keeps_through s start (bind x (means.Linked (length s.names)) start) (keeps_declared v d s x refl) (keeps_names start (bind x (means.Linked (length s.names)) start) refl)

  static_keeps : (at : ℕ) (x : Name) (t : CType) (value : Option (At Given)) (s : State) (r : List Expr × State) → value_fits value ≡ true → static_left v.target roles at x t value s ≡ Ok r → Keeps s r.1
  static_keeps at x t None s r f h = keeps_as s (with_static at x t s) r.1 (answer_is [] (with_static at x t s) r h).1 (static_begins at x t s)
  static_keeps at x t (Some g) s r f h =
      let u = type_given t (Some g) s in
      let n = length s.names in
      let start = with_static at x u s in
      let a = then_found (leaves_found v.target roles at n t u g start) (λ values s. Ok ([], change_name n (with_values (leaves_or_none values)) s)) r h in
      let i = initial_is v roles defined Leaf (leaf_given v.target) no_leaf at (Static n) t u u g start a.0 (initialised_fits g f (contents_in u start)) a.1 in
      let kept = (initialised_goes v roles defined (Unit {0}) (List Leaf) t u (Static n) start a.0 [] i).names n (static_object at x u) (get_last s.names (static_object at x u)) in
      let object = object_stays [] kept.0.kind kept.2.kind in
      let change = with_values (leaves_or_none a.0.0) in
      keeps_as s (change_name n change a.0.1) r.1 (answer_is [] (change_name n change a.0.1) r a.2).1
      (keeps_through s start (change_name n change a.0.1) (static_begins at x u s)
      (keeps_through start a.0.1 (change_name n change a.0.1) (initialised_keeps (List Leaf) t u (Static n) start a.0 i)
      (keeps_changed n change a.0.1 (λ d k. object_stays_so d (change d) object.0 refl (object_at a.0.1.names n kept.0 d object.0 kept.1 k object.1)) (λ d k o. o))))

  -- ---- objects with linkage

  linked_none : (at : ℕ) (asked : DeclaredAs) (t u : CType) (n : ℕ) (s : State) (r : List Expr × State) → linked_given v.target roles at asked t u n None s ≡ Ok r → Keeps s r.1
  linked_none at AsExtern t u n s r h = keeps_as s s r.1 (answer_is [] s r h).1 (keeps_itself s)
  linked_none at AsStatic t u n s r h = keeps_as s (change_name n (tentative_at at) s) r.1 (answer_is [] (change_name n (tentative_at at) s) r h).1 (keeps_tentative n at s)
  linked_none at AsObject t u n s r h = keeps_as s (change_name n (tentative_at at) s) r.1 (answer_is [] (change_name n (tentative_at at) s) r h).1 (keeps_tentative n at s)

  -- an entry of that name
  record IsNamedAt (x : Name) (names : List Declared) (n : ℕ) : Type 0 where
    declared : Declared
    at : slice_get names n ≡ Some declared
    named : declared.name ≡ Some x

  known_named : (x : Name) (asked : DeclaredAs) (t : CType) (k : UnitKind) (s : State) (o : Option ℕ) → linked_name x s ≡ o → IsNamedAt x (declared_by x asked t k s o).1.names (declared_by x asked t k s o).0
  known_named x asked t k s (Some i) e = let l = linked_there x s.names i e in record { declared = l.declared; at = l.at; named = l.named }
  known_named x asked t k s None e = record { declared = new_declared x asked t k; at = get_last s.names (new_declared x asked t k); named = refl }

  linked_some : (at : ℕ) (asked : DeclaredAs) (x : Name) (t : CType) (g : At Given) (s : State) (o : Option ℕ) (r : List Expr × State) → linked_name x s ≡ o → AreEntries v.target defined s.names → list_any (bytes_eq x) defined ≡ true → given_in_range g.node ≡ true →
      linked_defined v.target roles at (composite_by x t s o) (type_by v roles defined [] at asked x t g s o) (known_by v roles defined [] at asked x t g s o).0 g (known_by v roles defined [] at asked x t g s o).1 ≡ Ok r → Keeps s r.1
  linked_some at asked x t g s o r known entries among f h =
      let u = type_by v roles defined [] at asked x t g s o in
      let start = known_by v roles defined [] at asked x t g s o in
      let d = external_definition v roles defined [] at asked x t g s (Unit {0}) o r known entries among (initialised_fits g f) h in
      let change = defined_at at d.type (kind.Object (leaves_or_none d.values.0)) in
      let end = change_name start.0 change d.values.1 in
      let closed = goes_as v defined (Unit {0}) [] [] d.values.1 r.1 end (sym d.last) d.closed in
      let last = closed.names start.0 d.entry d.there in
      let changed : change d.entry ≡ last.0 = some_is (change d.entry) last.0 (sym (changed_there d.values.1.names start.0 change d.entry d.there) ∙ last.1) in
      let object = was_object d.entry.kind last.0.kind (leaves_or_none d.values.0) last.2.kind (ap (λ (z : Declared). z.kind) (sym changed)) in
      let first = known_named x asked u (object_kind defined asked x u) s o known in
      let filled = d.filled.names start.0 first.declared first.at in
      let named : d.entry.name ≡ Some x = named_at d.values.1.names start.0 filled.0 d.entry x filled.1 d.there (filled.2.name ∙ first.named) in
      keeps_as s end r.1 d.last
      (keeps_through s start.1 end (known_keeps v x asked u (object_kind defined asked x u) s o)
      (keeps_through start.1 d.values.1 end (initialised_keeps (List Leaf) (composite_by x t s o) u (Static start.0) start.1 d.values d.initial)
      (keeps_changed start.0 change d.values.1
      (λ y k. object_stays_so y (change y) object.0 refl (object_at d.values.1.names start.0 d.entry y object.0 d.there k object.1))
      (λ y k i. named_once (change y) x (named_at d.values.1.names start.0 d.entry y x d.there k named)))))

  -- ---- by the category of a name

  -- an object with linkage that is given an initialiser is one that the unit defines
  abbrev IsReady : Category → Name → Option (At Given) → State → Type 0
  IsReady c x value s = (asked : DeclaredAs) (g : At Given) → c ≡ declares.Linked asked → value ≡ Some g → AreEntries v.target defined s.names × (list_any (bytes_eq x) defined ≡ true)

  category_keeps : (at : ℕ) (c : Category) (x : Name) (t : CType) (marks : List (At (List Attribute))) (value : Option (At Given)) (s : State) (r : List Expr × State) → value_fits value ≡ true → IsReady c x value s →
      declared_left v.target roles defined at c x t marks value s ≡ Ok r → Keeps s r.1
  category_keeps at declares.Typedef x t marks value s r f a h = typedef_keeps at x t marks s r h
  category_keeps at (declares.Function asked) x t marks value s r f a h =
      function_if (is_intrinsic roles x) value s (with_function (entry_by marks) (declared x asked t (kind.Func None None) s)) r (function_known x asked t (entry_by marks) s) h
  category_keeps at (declares.Linked asked) x t marks None s r f a h =
      let u = composite x t s in
      let known = declared_by x asked u (object_kind defined asked x u) s (linked_name x s) in
      keeps_through s known.1 r.1 (known_keeps v x asked u (object_kind defined asked x u) s (linked_name x s)) (linked_none at asked u u known.0 known.1 r h)
  category_keeps at (declares.Linked asked) x t marks (Some g) s r f a h = let e = a asked g refl refl in linked_some at asked x t g s (linked_name x s) r refl e.0 e.1 f h
  category_keeps at declares.StaticLocal x t marks value s r f a h = static_keeps at x t value s r f h
  category_keeps at declares.Automatic x t marks value s r f a h = automatic_keeps at x t value s r f h

  declared_keeps : (at : ℕ) (c : Category) (x : Name) (t : CType) (marks : List (At (List Attribute))) (value : Option (At Given)) (s : State) (r : List Expr × State) → value_fits value ≡ true → IsReady c x value s →
      declared_with v.target roles defined at c x t marks value s ≡ Ok r → Keeps s r.1
  declared_keeps at c x t marks value s r f a h =
      let b = then_found (whole at s (name_judged v.target roles c x t (entry_by marks) s)) (λ t s. declared_left v.target roles defined at c x t marks value s) r h in
      let e = whole_found at s (name_judged v.target roles c x t (entry_by marks) s) b.0 b.1 in
      let j = name_is v.target roles c x t b.0.0 (entry_by marks) s e.0 in
      category_keeps at c x t marks value s r f a
      (ap (λ (u : CType). declared_left v.target roles defined at c x u marks value s) j.same ∙ ap (λ (z : State). declared_left v.target roles defined at c x b.0.0 marks value z) (sym e.1) ∙ b.2)

  named_keeps : (at : ℕ) (c : Category) (t : CType) (before : List (At (List Attribute))) (i : Init) (o : Option Name) (s : State) (r : List Expr × State) → value_fits i.value ≡ true → ((x : Name) → o ≡ Some x → IsReady c x i.value s) →
      named_found v.target roles defined at c t before i o s ≡ Ok r → Keeps s r.1
  named_keeps at c t before i None s r f a h = keeps_as s s r.1 (answer_is [] s r h).1 (keeps_itself s)
  named_keeps at c t before i (Some x) s r f a h =
      let b = then_found (marked (entity_of c) before i s) (λ marks s. declared_with v.target roles defined at c x t marks i.value s) r h in
      let m = then_found (located s (attributes (entity_of c ∷ []) i.attrs)) (λ marks s. Ok (before ++ marks, s)) b.0 b.1 in
      let e = located_found s (attributes (entity_of c ∷ []) i.attrs) m.0 m.1 in
      let n = answer_is (before ++ m.0.0) m.0.1 b.0 m.2 in
      declared_keeps at c x t b.0.0 i.value s r f (a x refl)
      (ap (λ (z : State). declared_with v.target roles defined at c x t b.0.0 i.value z) (sym (n.1 ∙ e.1)) ∙ b.2)

  init_keeps : (stands : Where) (base : Specified) (i : At Init) (s : State) (r : List Expr × State) → init_fits i ≡ true →
      ((asked : DeclaredAs) (g : At Given) (x : Name) → Category_of v roles defined 0 stands base i ≡ declares.Linked asked → i.node.value ≡ Some g → name_of i.node.declr.node ≡ Some x → AreEntries v.target defined s.names × (list_any (bytes_eq x) defined ≡ true)) →
      init_found v.target roles defined stands base i s ≡ Ok r → Keeps s r.1
  init_keeps stands base i s r f external h =
      let allowed = init_allowed i.node in
      let fit = both_true (declr_in_range i.node.declr.node) (value_fits i.node.value) f in
      let c = Category_of v roles defined 0 stands base i in
      let a = then_found (declr_of v.target roles i.node.declr.node allowed i.node.declr.at s)
      (λ d s. and_then (derived_type v.target allowed base.ctype d s) (λ t s. named_found v.target roles defined i.at c t base.specs.marks i.node d.name s)) r h in
      let o = declr_holds v [] roles i.node.declr.node fit.0 allowed i.node.declr.at s a.0 a.1 in
      let b = then_found (derived_type v.target allowed base.ctype a.0.0 a.0.1) (λ t s. named_found v.target roles defined i.at c t base.specs.marks i.node a.0.0.name s) r a.2 in
      let l = located_found a.0.1 (type_found v.target (structures_of a.0.1) (layouts_of a.0.1) allowed base.ctype a.0.0.derivations) b.0 b.1 in
      let named = declarator_name v.target roles i.node.declr.node allowed i.node.declr.at s a.0 a.1 in
      let rest = ap (λ (z : State). named_found v.target roles defined i.at c b.0.0 base.specs.marks i.node a.0.0.name z) (sym l.1) ∙ b.2 in
      let entries = λ (q : AreEntries v.target defined s.names). entries_stay v defined (Unit {0}) s a.0.1 [] [] (of_extends v defined (Unit {0}) s a.0.1 [] o.grows) q in
      keeps_through s a.0.1 r.1 (keeps_extends v s a.0.1 o.grows)
      (named_keeps i.at c b.0.0 base.specs.marks i.node a.0.0.name a.0.1 r fit.1 (λ x e asked g q k. let u = external asked g x q k (sym named ∙ e) in (entries u.0, u.1)) rest)

  -- ---- declarators, one behind another

  inits_inside : (stands : Where) (base : Specified) (is : List (At Init)) (before : List Expr) (s : State) (r : List Expr × State) → Each (IsPlain stands base.specs.storage) is → list_all init_fits is ≡ true →
      in_turn (init_next v.target roles defined stands base) is before s ≡ Ok r → Keeps s r.1
  inits_inside stands base [] before s r plain f h = keeps_as s s r.1 (answer_is before s r h).1 (keeps_itself s)
  inits_inside stands base (i ∷ is) before s r plain f h =
      let fit = both_true (init_fits i) (list_all init_fits is) f in
      let a = then_found (init_next v.target roles defined stands base i before s) (in_turn (init_next v.target roles defined stands base) is) r h in
      let b = then_found (init_found v.target roles defined stands base i s) (λ es s. Ok (before ++ es, s)) a.0 a.1 in
      let c = answer_is (before ++ b.0.0) b.0.1 a.0 b.2 in
      let first = init_keeps stands base i s b.0 fit.0 (λ asked g x e l n. absurd (some_none g i.node.value (plain.0.linked (declares_function (is_function_type base.ctype) i.node.declr.node) asked e) l)) b.1 in
      keeps_through s a.0.1 r.1 (keeps_as s b.0.1 a.0.1 c.1 first) (inits_inside stands base is a.0.0 a.0.1 r plain.1 fit.1 a.2)

  inits_file : (base : Specified) (is : List (At Init)) (before : List Expr) (s : State) (r : List Expr × State) → AreEntries v.target defined s.names → Each (IsExternal defined base.specs.storage) is → list_all init_fits is ≡ true →
      in_turn (init_next v.target roles defined place.AtFile base) is before s ≡ Ok r → Keeps s r.1
  inits_file base [] before s r entries external f h = keeps_as s s r.1 (answer_is before s r h).1 (keeps_itself s)
  inits_file base (i ∷ is) before s r entries external f h =
      let fit = both_true (init_fits i) (list_all init_fits is) f in
      let a = then_found (init_next v.target roles defined place.AtFile base i before s) (in_turn (init_next v.target roles defined place.AtFile base) is) r h in
      let b = then_found (init_found v.target roles defined place.AtFile base i s) (λ es s. Ok (before ++ es, s)) a.0 a.1 in
      let c = answer_is (before ++ b.0.0) b.0.1 a.0 b.2 in
      let goes = init_stays v roles defined [] base i s b.0 entries external.0 fit.0 b.1 in
      let there = subst (λ (z : State). AreEntries v.target defined z.names) (sym c.1) (entries_stay v defined (Stands v base.ctype) s b.0.1 [] [] goes entries) in
      let first = init_keeps place.AtFile base i s b.0 fit.0 (λ asked g x e l n. (entries, external.0.given g x l n)) b.1 in
      keeps_through s a.0.1 r.1 (keeps_as s b.0.1 a.0.1 c.1 first) (inits_file base is a.0.0 a.0.1 r there external.1 fit.1 a.2)

  -- ---- a declaration

  module _ (stands : Where) (decl : Decl) (s : State) (r : List Expr × State) (fits : all_fit (map (λ (x : At Spec). record { at = x.at; node = spec_in_range x.node }) decl.specs) ≡ true)
      (base : Specified × State) (found : specified_found (setting_of stands decl s) (map (spec_here v.target roles) decl.specs) (in_front decl s) ≡ Ok base) where
    all_keep : Keeps (aliased decl base.0 base.1) r.1 → Keeps s r.1
    all_keep inits =
        let front = in_front decl s in
        let next = aliased decl base.0 base.1 in
        let o = specifiers_stand v roles (setting_of stands decl s) decl.specs fits front base found in
        keeps_through s front r.1 (keeps_names s front (front_names (is_none decl.inits) decl s))
        (keeps_through front base.1 r.1 (keeps_extends v front base.1 o.grows)
        (keeps_through base.1 next r.1 (keeps_names base.1 next (aliased_names (is_typedef_word base.0.specs.storage && defines_untagged decl.specs) (first_name decl.inits) base.1 (out-Shape base.0.ctype.shape))) inits))

  pub block_keeps : (stands : Where) (decl : Decl) (s : State) (r : List Expr × State) → IsInside stands → decl_fits decl ≡ true → declaration v.target roles defined stands decl s ≡ Ok r → Keeps s r.1
  unfolding declaration
  block_keeps stands decl s r inside f h =
      let fit = both_true (all_fit (map (λ (x : At Spec). record { at = x.at; node = spec_in_range x.node }) decl.specs)) (list_all init_fits decl.inits) f in
      let front = in_front decl s in
      let set = setting_of stands decl s in
      let a = then_found (specified_found set (map (spec_here v.target roles) decl.specs) front) (λ base s. inits_found v.target roles defined stands base decl.inits (aliased decl base s)) r h in
      let plain = plain_inside set a.0.0.specs decl.inits (list_any is_given decl.inits) (specified_fit set (map (spec_here v.target roles) decl.specs) front a.0 a.1) inside refl refl in
      all_keep stands decl s r fit.0 a.0 a.1 (inits_inside stands a.0.0 decl.inits [] (aliased decl a.0.0 a.0.1) r plain fit.1 a.2)

  pub file_keeps : (decl : Decl) (s : State) (r : List Expr × State) → decl_fits decl ≡ true → AreEntries v.target defined s.names → AreAmong (defined_by (item.Decl decl)) defined → declaration v.target roles defined place.AtFile decl s ≡ Ok r → Keeps s r.1
  unfolding declaration
  file_keeps decl s r f entries among h =
      let fit = both_true (all_fit (map (λ (x : At Spec). record { at = x.at; node = spec_in_range x.node }) decl.specs)) (list_all init_fits decl.inits) f in
      let front = in_front decl s in
      let set = setting_of place.AtFile decl s in
      let first = front_if v roles defined 0 (is_none decl.inits) decl [] s in
      let a = then_found (specified_found set (map (spec_here v.target roles) decl.specs) front) (λ base s. inits_found v.target roles defined place.AtFile base decl.inits (aliased decl base s)) r h in
      let o = specifiers_stand v roles set decl.specs fit.0 front a.0 a.1 in
      let next = aliased decl a.0.0 a.0.1 in
      let alias = alias_if v roles defined 0 (Unit {0}) (is_typedef_word a.0.0.specs.storage && defines_untagged decl.specs) decl a.0.0 [] a.0.1 in
      let stored = storage_is set v.target roles decl.specs front a.0 a.1 in
      let class_fits = specified_fit set (map (spec_here v.target roles) decl.specs) front a.0 a.1 in
      let given = λ (e : a.0.0.specs.storage ≡ Some w.Typedef). typedef_plain place.AtFile (list_any is_function set.entities) (list_any is_given decl.inits) (class_fits w.Typedef e) in
      let external = all_external defined a.0.0.specs.storage decl.inits given (subst (λ (x : Option Word). AreAmong (defined_with x decl.inits) defined) (sym stored) among) in
      let front_entries = entries_stay v defined (Unit {0}) s front [] [] first entries in
      let found_entries = entries_stay v defined (Unit {0}) front a.0.1 [] [] (of_extends v defined (Unit {0}) front a.0.1 [] o.grows) front_entries in
      let next_entries = entries_stay v defined (Unit {0}) a.0.1 next [] [] alias found_entries in
      all_keep place.AtFile decl s r fit.0 a.0 a.1 (inits_file a.0.0 decl.inits [] next r next_entries external fit.1 a.2)
