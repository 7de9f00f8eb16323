-- A declaration keeps what is so of entries, where its declarators may stand there; and what they define is done.
use Rattle.std.proofs.Common.{◌≡◌, ◌⊎◌, inl, inr, ℕ, Bool, true, false, ◌&&◌, List, [], ◌∷◌, ◌++◌, map, Option, Some, None, Ok, refl, ap, sym, ◌∙◌, subst, append_assoc}
use Rattle.std.specs.Prelude.{flat_map, is_some, if◌then◌else◌}
use Rattle.std.specs.List.{list_all, list_any}
use Rattle.std.specs.Str.{bytes_eq}
use Rattle.cc_type.specs.CcTypedTerms.Declarators.{derived_type}
use Rattle.cc_type.specs.CcTypedTerms.Located.{located}
use Rattle.cc_read_sound.proofs.DeclaratorNames.{declarator_name}
use Rattle.cc_type.specs.CcLinkage.declared.linkage.DeclaredAs.{DeclaredAs}
use Rattle.cc_type.specs.CcObjects.Categories.{category_by, entity_of, setting_of}
use Rattle.cc_type.specs.CcObjects.Linked.{is_extern}
use Rattle.cc_type.specs.CcObjects.Names.{name_judged}
use Rattle.cc_type.specs.CcObjects.Tags.{aliased, aliased_at, defines_untagged, first_name, in_front, is_typedef_word, sole_declared, sole_spec, sole_tag, tag_declared}
use Rattle.cc_type.specs.CcObjects.declared.category.Category.{Category}
use Rattle.cc_type.specs.CcObjects.declared.category.Category.TheVariants as declares
use Rattle.cc_type.specs.CcOperands.Qualified.{is_function_type}
use Rattle.cc_program.proofs.Each.{Each}
use Rattle.cc_program.specs.declared.expr.Expr.{Expr}
use Rattle.cc_program.specs.declared.func.Func.{Func}
use Rattle.cc_program.specs.declared.program.Roles.{Roles}
use Rattle.cc_program.specs.declared.types.CType.{CType}
use Rattle.cc_program.specs.declared.types.Shape.{Shape, out-Shape}
use Rattle.cc_program.specs.declared.types.Shape.TheOpen as shape
use Rattle.cc_program.specs.declared.types.Sig.{Sig}
use Rattle.cc_type.specs.CcScopes.Standings.{is_none}
use Rattle.cc_type.specs.CcScopes.State.{State, Name, structures_of, layouts_of}
use Rattle.cc_type.specs.CcScopes.State as states
use Rattle.cc_type.specs.CcScopes.Structures.{tag_by}
use Rattle.cc_type.specs.CcScopes.Verdicts.{whole, and_then}
use Rattle.cc_type.specs.CcScopes.declared.designated.Tagged.{Tagged}
use Rattle.cc_sound_declarations.proofs.Forms.{form_is, function_derived}
use Rattle.cc_sound_declarations.proofs.Names.{name_is}
use Rattle.cc_sound_declarations.specs.Ranges.{decl_fits, init_fits, value_fits}
use Rattle.cc_read_sound.proofs.Categories.{Defines, JudgedAs, MayBe, category_done, category_keeps, judged_as}
use Rattle.cc_read_sound.proofs.Kept.{apart_of, entries_of, extends_well, more_done, same_well}
use Rattle.cc_read_sound.specs.Entries.{AreWell, IsDone}
use Rattle.cc_sound_terms.proofs.Cycle.{declr_holds}
use Rattle.cc_sound_terms.proofs.Founds.{answer_is, then_found, whole_found, located_found}
use Rattle.cc_sound_terms.proofs.Laws.{specifiers_stand}
use Rattle.cc_sound_terms.proofs.Types.{derived_holds}
use Rattle.cc_sound_terms.specs.Ranges.{all_fit, declr_in_range, spec_in_range}
use Rattle.cc_type.specs.CcSpecifiers.Attributes.{attributes, entry_by}
use Rattle.cc_type.specs.CcSpecifiers.Declarators.{declares_function, form_of, type_found}
use Rattle.cc_type.specs.CcSpecifiers.declared.attribute.Attribute.{Attribute}
use Rattle.cc_type.specs.CcSpecifiers.declared.specifier.Specified.{Specified}
use Rattle.cc_type.specs.CcSpecifiers.declared.storage.Where.{Where}
use Rattle.cc_type.proofs.CcSyntax.Prefixes.{both_true}
use Rattle.cc_type.specs.CcSyntax.Views.{View}
use Rattle.cc_type.specs.CcTerms.InTurn.{in_turn}
use Rattle.cc_type.specs.CcTerms.Specifiers.{specified_found}
use Rattle.cc_type.specs.CcTerms.Terms.{spec_here, declr_of}
use Rattle.cc_tree.specs.Scopes.{name_of}
use Rattle.cc_tree.specs.declared.at.At.{At}
use Rattle.cc_tree.specs.declared.tree.Spec.{Spec, out-Spec}
use Rattle.cc_tree.specs.declared.unit.Decl.{Decl}
use Rattle.cc_tree.specs.declared.unit.Given.{Given}
use Rattle.cc_tree.specs.declared.unit.Init.{Init}
use Rattle.cc_type.specs.CcTypedBodies.Declarations.{marked, init_allowed, declared_left, declared_with, named_found, init_found, init_next, inits_found, declaration}
use Rattle.cc_program.specs.CcWords.declared.word.Word.{Word}

pub append_nothing : {A : Type 0} (xs : List A) → xs ++ [] ≡ xs
append_nothing [] = refl
append_nothing (x ∷ xs) = ap (λ ys. x ∷ ys) (append_nothing xs)

module _ (v : View) (roles : Roles) (defined : List Name) (P : CType → Func → Type 0) where
  abbrev All : List Name → State → Type 0
  All done s = AreWell v.target roles defined P done s

  -- a declarator that may stand there, and the names that it defines
  pub record IsInit (place : Where) (storage : Option Word) (defines : At Init → List Name) (i : At Init) : Type 0 where
    pub functions : (b : Bool) (asked : DeclaredAs) → category_by place storage b ≡ declares.Function asked → b ≡ true
    pub among : (b : Bool) (asked : DeclaredAs) (x : Name) → category_by place storage b ≡ declares.Linked asked → is_extern asked ≡ false → name_of i.node.declr.node ≡ Some x → list_any (bytes_eq x) defined ≡ true
    pub given : (b : Bool) (asked : DeclaredAs) (g : At Given) (x : Name) → category_by place storage b ≡ declares.Linked asked → i.node.value ≡ Some g → name_of i.node.declr.node ≡ Some x → list_any (bytes_eq x) defined ≡ true
    pub named : (b : Bool) (x : Name) → name_of i.node.declr.node ≡ Some x → Each (λ y. (y ≡ x) × Defines v roles defined P (category_by place storage b) i.node.value) (defines i)
    pub nameless : name_of i.node.declr.node ≡ None → defines i ≡ []

  module _ (place : Where) (storage : Option Word) (defines : At Init → List Name) where
    -- ---- a declarator

    declared_keeps : (at : ℕ) (c : Category) (x : Name) (t : CType) (marks : List (At (List Attribute))) (value : Option (At Given)) (s : State) (r : List Expr × State) → MayBe v roles defined P c x t value → value_fits value ≡ true →
        declared_with v.target roles defined at c x t marks value s ≡ Ok r → (xs : List Name) → Each (λ y. (y ≡ x) × Defines v roles defined P c value) xs → (done : List Name) → All done s → All (done ++ xs) r.1
    declared_keeps at c x t marks value s r m f h xs e done w =
        let b = then_found (whole at s (name_judged v.target roles c x t (entry_by marks) s)) (λ t s. declared_left v.target roles defined at c x t marks value s) r h in
        let q = whole_found at s (name_judged v.target roles c x t (entry_by marks) s) b.0 b.1 in
        let j = name_is v.target roles c x t b.0.0 (entry_by marks) s q.0 in
        let judged = judged_as v roles defined P c x t b.0.0 (entry_by marks) s q.0 in
        let left : declared_left v.target roles defined at c x t marks value s ≡ Ok r =
        ap (λ (u : CType). declared_left v.target roles defined at c x u marks value s) j.same ∙ ap (λ (z : State). declared_left v.target roles defined at c x b.0.0 marks value z) (sym q.1) ∙ b.2 in
        let entries = entries_of v roles defined P done s w in
        more_done v roles defined P done xs r.1 (each_done xs (λ d. category_done v roles defined P at c x t marks value s r judged m f entries (apart_of v roles defined P done s w) left d) e)
        (category_keeps v roles defined P at c x t marks value s r judged m f entries left done w)
      where
        each_done : (ys : List Name) → (Defines v roles defined P c value → IsDone v.target roles defined P r.1 x) → Each (λ y. (y ≡ x) × Defines v roles defined P c value) ys → Each (IsDone v.target roles defined P r.1) ys
        each_done [] g h = tt
        each_done (y ∷ ys) g h = (subst (IsDone v.target roles defined P r.1) (sym h.0.0) (g h.0.1), each_done ys g h.1)

    named_keeps : (at : ℕ) (c : Category) (t : CType) (before : List (At (List Attribute))) (i : Init) (o : Option Name) (s : State) (r : List Expr × State) → ((x : Name) → o ≡ Some x → MayBe v roles defined P c x t i.value) → value_fits i.value ≡ true →
        named_found v.target roles defined at c t before i o s ≡ Ok r → (xs : List Name) → ((x : Name) → o ≡ Some x → Each (λ y. (y ≡ x) × Defines v roles defined P c i.value) xs) → (o ≡ None → xs ≡ []) → (done : List Name) → All done s → All (done ++ xs) r.1
    named_keeps at c t before i None s r m f h xs e n done w =
        subst (λ (ys : List Name). All (done ++ ys) r.1) (sym (n refl)) (subst (λ (ys : List Name). All ys r.1) (sym (append_nothing done)) (subst (All done) (sym (answer_is [] s r h).1) w))
    named_keeps at c t before i (Some x) s r m f h xs e n done w =
        let b = then_found (marked (entity_of c) before i s) (λ marks s. declared_with v.target roles defined at c x t marks i.value s) r h in
        let k = then_found (located s (attributes (entity_of c ∷ []) i.attrs)) (λ marks s. Ok (before ++ marks, s)) b.0 b.1 in
        let q = located_found s (attributes (entity_of c ∷ []) i.attrs) k.0 k.1 in
        let l = answer_is (before ++ k.0.0) k.0.1 b.0 k.2 in
        declared_keeps at c x t b.0.0 i.value s r (m x refl) f
        (ap (λ (z : State). declared_with v.target roles defined at c x t b.0.0 i.value z) (sym (l.1 ∙ q.1)) ∙ b.2) xs (e x refl) done w

    init_keeps : (base : Specified) → base.specs.storage ≡ storage → (i : At Init) (s : State) (r : List Expr × State) → IsInit place storage defines i → init_fits i ≡ true → init_found v.target roles defined place base i s ≡ Ok r →
        (done : List Name) → All done s → All (done ++ defines i) r.1
    init_keeps base same i s r init f h done w =
        let allowed = init_allowed i.node in
        let fit = both_true (declr_in_range i.node.declr.node) (value_fits i.node.value) f in
        let function = declares_function (is_function_type base.ctype) i.node.declr.node in
        let c = category_by place base.specs.storage function in
        let e : c ≡ category_by place storage function = ap (λ (o : Option Word). category_by place o function) same in
        let a = then_found (declr_of v.target roles i.node.declr.node allowed i.node.declr.at s)
        (λ d s. and_then (derived_type v.target allowed base.ctype d s) (λ t s. named_found v.target roles defined i.at c t base.specs.marks i.node d.name s)) r h in
        let o = declr_holds v [] roles i.node.declr.node fit.0 allowed i.node.declr.at s a.0 a.1 in
        let b = then_found (derived_type v.target allowed base.ctype a.0.0 a.0.1) (λ t s. named_found v.target roles defined i.at c t base.specs.marks i.node a.0.0.name s) r a.2 in
        let q = derived_holds v allowed base.ctype a.0.0 a.0.1 b.0 b.1 in
        let l = located_found a.0.1 (type_found v.target (structures_of a.0.1) (layouts_of a.0.1) allowed base.ctype a.0.0.derivations) b.0 b.1 in
        let named = declarator_name v.target roles i.node.declr.node allowed i.node.declr.at s a.0 a.1 in
        named_keeps i.at c b.0.0 base.specs.marks i.node a.0.0.name b.0.1 r
        (λ x n. record {
          functions = λ asked k. function_derived v.target allowed base.ctype a.0.0.derivations a.0.1 b.0.0 (form_of i.node.declr.node) (form_is v.target roles i.node.declr.node allowed i.node.declr.at s a.0 a.1)
              (init.functions function asked (sym e ∙ k)) l.0;
          among = λ asked k g. init.among function asked x (sym e ∙ k) g (sym named ∙ n);
          given = λ asked g k z. init.given function asked g x (sym e ∙ k) z (sym named ∙ n);
        }) fit.1 b.2 (defines i)
        (λ x n. subst (λ (d : Category). Each (λ y. (y ≡ x) × Defines v roles defined P d i.node.value) (defines i)) (sym e) (init.named function x (sym named ∙ n)))
        (λ n. init.nameless (sym named ∙ n)) done
        (extends_well v roles defined P done a.0.1 b.0.1 q.grows (extends_well v roles defined P done s a.0.1 o.grows w))

    inits_keep : (base : Specified) → base.specs.storage ≡ storage → (is : List (At Init)) (before : List Expr) (s : State) (r : List Expr × State) → Each (IsInit place storage defines) is → list_all init_fits is ≡ true →
        in_turn (init_next v.target roles defined place base) is before s ≡ Ok r → (done : List Name) → All done s → All (done ++ flat_map defines is) r.1
    inits_keep base same [] before s r init f h done w =
        subst (λ (ys : List Name). All ys r.1) (sym (append_nothing done)) (subst (All done) (sym (answer_is before s r h).1) w)
    inits_keep base same (i ∷ is) before s r init f h done w =
        let fit = both_true (init_fits i) (list_all init_fits is) f in
        let a = then_found (init_next v.target roles defined place base i before s) (in_turn (init_next v.target roles defined place base) is) r h in
        let b = then_found (init_found v.target roles defined place base i s) (λ es s. Ok (before ++ es, s)) a.0 a.1 in
        let c = answer_is (before ++ b.0.0) b.0.1 a.0 b.2 in
        let first = subst (All (done ++ defines i)) (sym c.1) (init_keeps base same i s b.0 init.0 fit.0 b.1 done w) in
        subst (λ (ys : List Name). All ys r.1) (append_assoc done (defines i) (flat_map defines is)) (inits_keep base same is a.0.0 a.0.1 r init.1 fit.1 a.2 (done ++ defines i) first)

  -- ---- tags and aliases are no entries

  tag_names : (x : Name) (s : State) (o : Option Tagged) → (tag_by x s o).names ≡ s.names
  tag_names x s None = refl
  tag_names x s (Some t) = refl

  declared_names : (x : Option Name) (s : State) → (tag_declared x s).names ≡ s.names
  declared_names None s = refl
  declared_names (Some x) s = tag_names x s (states.tagged_here x s)

  sole_names : (x : Option Spec) (s : State) → (sole_declared x s).names ≡ s.names
  sole_names None s = refl
  sole_names (Some x) s = declared_names (sole_tag (out-Spec x)) s

  front_names : (b : Bool) (d : Decl) (s : State) → (if b then sole_declared (sole_spec d.specs) s else s).names ≡ s.names
  front_names true d s = sole_names (sole_spec d.specs) s
  front_names false d s = refl

  alias_at : (x : Option Name) (s : State) (y : shape.Shape-F Shape CType Sig) → (aliased_at x s y).names ≡ s.names
  alias_at x s (shape.Struct i) = refl
  alias_at x s shape.Void = refl
  alias_at x s (shape.Int t) = refl
  alias_at x s (shape.Pointer to) = refl
  alias_at x s (shape.Array of n) = refl
  alias_at x s (shape.Func sig) = refl

  alias_names : (b : Bool) (d : Decl) (base : Specified) (s : State) → (if b then aliased_at (first_name d.inits) s (out-Shape base.ctype.shape) else s).names ≡ s.names
  alias_names true d base s = alias_at (first_name d.inits) s (out-Shape base.ctype.shape)
  alias_names false d base s = refl

  -- ---- a declaration

  pub declaration_keeps : (place : Where) (defines : Option Word → At Init → List Name) (decl : Decl) (s : State) (r : List Expr × State) → decl_fits decl ≡ true →
      ((base : Specified) (t : State) → specified_found (setting_of place decl s) (map (spec_here v.target roles) decl.specs) (in_front decl s) ≡ Ok (base, t) → Each (IsInit place base.specs.storage (defines base.specs.storage)) decl.inits) →
      declaration v.target roles defined place decl s ≡ Ok r → (done : List Name) → All done s →
      (storage : Option Word) → ((base : Specified) (t : State) → specified_found (setting_of place decl s) (map (spec_here v.target roles) decl.specs) (in_front decl s) ≡ Ok (base, t) → base.specs.storage ≡ storage) →
      All (done ++ flat_map (defines storage) decl.inits) r.1
  unfolding declaration
  declaration_keeps place defines decl s r f init h done w storage same =
      let fit = both_true (all_fit (map (λ (x : At Spec). record { at = x.at; node = spec_in_range x.node }) decl.specs)) (list_all init_fits decl.inits) f in
      let front = in_front decl s in
      let set = setting_of place decl s in
      let a = then_found (specified_found set (map (spec_here v.target roles) decl.specs) front) (λ base s. inits_found v.target roles defined place base decl.inits (aliased decl base s)) r h in
      let o = specifiers_stand v roles set decl.specs fit.0 front a.0 a.1 in
      let next = aliased decl a.0.0 a.0.1 in
      let e = same a.0.0 a.0.1 a.1 in
      let begun = same_well v roles defined P done a.0.1 next (alias_names (is_typedef_word a.0.0.specs.storage && defines_untagged decl.specs) decl a.0.0 a.0.1)
      (extends_well v roles defined P done front a.0.1 o.grows (same_well v roles defined P done s front (front_names (is_none decl.inits) decl s) w)) in
      inits_keep place storage (defines storage) a.0.0 e decl.inits [] next r (subst (λ (z : Option Word). Each (IsInit place z (defines z)) decl.inits) e (init a.0.0 a.0.1 a.1)) fit.1 a.2 done begun
