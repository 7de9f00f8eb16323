-- What declarations leave of first values, in a block and at file scope.
use Rattle.std.proofs.Common.{◌≡◌, ℕ, Bool, true, false, ◌&&◌, List, [], ◌∷◌, ◌++◌, map, Option, Some, None, Ok, refl, ap, sym, ◌∙◌, subst}
use Rattle.std.specs.Prelude.{is_some, if◌then◌else◌}
use Rattle.std.specs.List.{list_all, list_any}
use Rattle.std.specs.Str.{bytes_eq}
use Rattle.cc_read_sound.proofs.ExternalDeclarations.{init_stays}
use Rattle.cc_read_sound.proofs.DefinedNames.{IsExternal, all_external}
use Rattle.cc_read_sound.proofs.ExternalEntries.{entries_stay}
use Rattle.cc_read_sound.proofs.StorageClasses.{storage_is}
use Rattle.cc_read_sound.specs.External.{AreAmong, AreEntries}
use Rattle.cc_read_sound.specs.Values.{AreInitial}
use Rattle.cc_read_sound.proofs.Declarators.{Keeps, init_keeps}
use Rattle.cc_read_sound.proofs.Strings.{expression_initial}
use Rattle.cc_read_sound.proofs.Through.{initialises_given, knows_over, knows_behind}
use Rattle.cc_read_sound.specs.Initialises.{Initialises}
use Rattle.cc_type.specs.CcObjects.Categories.{is_given, setting_of}
use Rattle.cc_type.specs.CcObjects.Tags.{defines_untagged, aliased_at, first_name, is_typedef_word, aliased, sole_tag, tag_declared, sole_spec, sole_declared, in_front}
use Rattle.cc_type.specs.CcOperands.Qualified.{is_function_type}
use Rattle.cc_program.proofs.Each.{Each}
use Rattle.cc_program.specs.declared.expr.Expr.{Expr}
use Rattle.cc_program.specs.declared.program.Roles.{Roles}
use Rattle.cc_program.specs.declared.types.CType.{CType}
use Rattle.cc_program.specs.declared.types.Shape.{Shape, out-Shape}
use Rattle.cc_program.specs.declared.types.Shape.TheOpen as shape
use Rattle.cc_program.specs.declared.types.Sig.{Sig}
use Rattle.cc_type.specs.CcScopes.Standings.{is_none}
use Rattle.cc_type.specs.CcScopes.State.{State, Name, tagged_here}
use Rattle.cc_type.specs.CcScopes.Structures.{tag_by}
use Rattle.cc_type.specs.CcScopes.declared.designated.Tagged.{Tagged}
use Rattle.cc_sound_declarations.proofs.Blocks.{front_if, alias_if, init_leaves}
use Rattle.cc_sound_declarations.proofs.Given.{goes_as, left_as, Leaves, same_declared}
use Rattle.cc_sound_declarations.proofs.Storage.{IsInside, IsPlain, plain_inside, specified_fit, typedef_plain}
use Rattle.cc_sound_declarations.specs.Ranges.{init_fits, decl_fits}
use Rattle.cc_sound_declarations.proofs.Declaring.{declares_itself, declares_through, of_extends}
use Rattle.cc_sound_declarations.specs.Declaring.{AreDeclared, DeclaresGiven}
use Rattle.cc_sound_terms.proofs.Behind.{known_first}
use Rattle.cc_sound_terms.proofs.Founds.{answer_is, then_found}
use Rattle.cc_sound_terms.proofs.Growth.{structures_through}
use Rattle.cc_sound_terms.proofs.Laws.{specifiers_stand}
use Rattle.cc_sound_terms.specs.Growing.{StructuresKept}
use Rattle.cc_sound_terms.specs.Knowing.{Stands}
use Rattle.cc_sound_terms.specs.Ranges.{all_fit, spec_in_range}
use Rattle.cc_type.specs.CcSpecifiers.Attributes.{is_function}
use Rattle.cc_type.specs.CcSpecifiers.Declarators.{declares_function}
use Rattle.cc_type.specs.CcSpecifiers.declared.specifier.Specified.{Specified}
use Rattle.cc_type.specs.CcSpecifiers.declared.storage.Where.{Where}
use Rattle.cc_type.specs.CcSpecifiers.declared.storage.Where.TheVariants as place
use Rattle.cc_type.proofs.CcSyntax.Prefixes.{both_true}
use Rattle.cc_type.specs.CcSyntax.Types.{Named}
use Rattle.cc_type.specs.CcSyntax.Views.{View}
use Rattle.cc_type.specs.CcTerms.InTurn.{in_turn}
use Rattle.cc_type.specs.CcTerms.Specifiers.{specified_found}
use Rattle.cc_type.specs.CcTerms.Terms.{spec_here}
use Rattle.cc_tree.specs.declared.at.At.{At}
use Rattle.cc_tree.specs.declared.tree.Spec.{Spec, out-Spec}
use Rattle.cc_tree.specs.declared.unit.Decl.{Decl}
use Rattle.cc_tree.specs.declared.unit.Given.{Given}
use Rattle.cc_tree.specs.declared.unit.Init.{Init}
use Rattle.cc_tree.specs.declared.unit.Item.TheVariants as item
use Rattle.cc_type.specs.Defined.{defined_with, defined_by}
use Rattle.cc_type.specs.CcTypedBodies.Declarations.{init_found, init_next, inits_found, declaration}
use Rattle.cc_program.specs.CcWords.declared.word.Word.{Word}
use Rattle.cc_program.specs.CcWords.declared.word.Word.TheVariants as w

some_none : {A : Type 0} (x : A) (o : Option A) → o ≡ None → o ≡ Some x → ⊥
some_none x o e f = let c : None ≡ Some x = sym e ∙ f in absurd (cc)

-- ---- tags and aliases declare no names

tag_names : (x : Name) (s : State) (o : Option Tagged) → (tag_by x s o).names ≡ s.names
tag_names x s None = refl
tag_names x s (Some t) = refl

declared_names : (x : Option Name) (s : State) → (tag_declared x s).names ≡ s.names
declared_names None s = refl
declared_names (Some x) s = tag_names x s (tagged_here x s)

sole_names : (x : Option Spec) (s : State) → (sole_declared x s).names ≡ s.names
sole_names None s = refl
sole_names (Some x) s = declared_names (sole_tag (out-Spec x)) s

front_names : (b : Bool) (d : Decl) (s : State) → (if b then sole_declared (sole_spec d.specs) s else s).names ≡ s.names
front_names true d s = sole_names (sole_spec d.specs) s
front_names false d s = refl

alias_names : (x : Option Name) (s : State) (y : shape.Shape-F Shape CType Sig) → (aliased_at x s y).names ≡ s.names
alias_names x s (shape.Struct i) = refl
alias_names x s shape.Void = refl
alias_names x s (shape.Int t) = refl
alias_names x s (shape.Pointer to) = refl
alias_names x s (shape.Array of n) = refl
alias_names x s (shape.Func sig) = refl

aliased_names : (b : Bool) (x : Option Name) (s : State) (y : shape.Shape-F Shape CType Sig) → (if b then aliased_at x s y else s).names ≡ s.names
aliased_names true x s y = alias_names x s y
aliased_names false x s y = refl

module _ (v : View) (roles : Roles) (defined : List Name) where
  -- ---- declarators, one behind another

  record InitsKeep (P : Type 0) (D : List Named) (s t : State) : Type 0 where
    objects : List Named
    goes : DeclaresGiven v defined P s D t objects
    initial : P → Initialises v D s t

  keep_nothing : (P : Type 0) (D : List Named) (s t : State) → t ≡ s → InitsKeep P D s t
  keep_nothing P D s t e = subst (InitsKeep P D s) (sym e) (record { objects = D; goes = declares_itself v defined P s D; initial = λ p k w o i. i })

  keep_both : (P : Type 0) (D E : List Named) (s t u : State) → DeclaresGiven v defined P s D t E → (P → Initialises v D s t) → InitsKeep P E t u → InitsKeep P D s u
  keep_both P D E s t u a f b = record {
    objects = b.objects;
    goes = declares_through v defined P s t u D E b.objects a b.goes;
    initial = λ p. initialises_given v defined P s t u D E b.objects p a b.goes (f p) (b.initial p);
  }

  inits_block : (k : ℕ) (stands : Where) (base : Specified) (is : List (At Init)) (before : List Expr) (D : List Named) (s : State) (r : List Expr × State) → AreDeclared k D s → IsInside stands → Each (IsPlain stands base.specs.storage) is → list_all init_fits is ≡ true →
      in_turn (init_next v.target roles defined stands base) is before s ≡ Ok r → InitsKeep (Stands v base.ctype) D s r.1
  inits_block k stands base [] before D s r d inside plain f h = keep_nothing (Stands v base.ctype) D s r.1 (answer_is before s r h).1
  inits_block k stands base (i ∷ is) before D s r d inside plain f h =
      let P = Stands v base.ctype in
      let fit = both_true (init_fits i) (list_all init_fits is) f in
      let a = then_found (init_next v.target roles defined stands base i before s) (in_turn (init_next v.target roles defined stands base) is) r h in
      let b = then_found (init_found v.target roles defined stands base i s) (λ es s. Ok (before ++ es, s)) a.0 a.1 in
      let c = answer_is (before ++ b.0.0) b.0.1 a.0 b.2 in
      let first = left_as v defined P D s b.0.1 a.0.1 c.1 (init_leaves v roles defined k stands base i D s b.0 d inside plain.0 fit.0 b.1) in
      let keeps = init_keeps v roles defined D stands base i s b.0 fit.0 (λ asked g x e l n. absurd (some_none g i.node.value (plain.0.linked (declares_function (is_function_type base.ctype) i.node.declr.node) asked e) l)) b.1 in
      keep_both P D first.0 s a.0.1 r.1 first.1 (λ p. subst (Initialises v D s) (sym c.1) (keeps.initial p))
      (inits_block k stands base is a.0.0 first.0 a.0.1 r (first.1.locals k d) inside plain.1 fit.1 a.2)

  inits_file : (base : Specified) (is : List (At Init)) (before : List Expr) (D : List Named) (s : State) (r : List Expr × State) → AreEntries v.target defined s.names → Each (IsExternal defined base.specs.storage) is → list_all init_fits is ≡ true →
      in_turn (init_next v.target roles defined place.AtFile base) is before s ≡ Ok r → InitsKeep (Stands v base.ctype) D s r.1
  inits_file base [] before D s r entries external f h = keep_nothing (Stands v base.ctype) D s r.1 (answer_is before s r h).1
  inits_file base (i ∷ is) before D s r entries external f h =
      let P = Stands v base.ctype in
      let fit = both_true (init_fits i) (list_all init_fits is) f in
      let a = then_found (init_next v.target roles defined place.AtFile base i before s) (in_turn (init_next v.target roles defined place.AtFile base) is) r h in
      let b = then_found (init_found v.target roles defined place.AtFile base i s) (λ es s. Ok (before ++ es, s)) a.0 a.1 in
      let c = answer_is (before ++ b.0.0) b.0.1 a.0 b.2 in
      let first = goes_as v defined P D D s b.0.1 a.0.1 c.1 (init_stays v roles defined D base i s b.0 entries external.0 fit.0 b.1) in
      let keeps = init_keeps v roles defined D place.AtFile base i s b.0 fit.0 (λ asked g x e l n. (entries, external.0.given g x l n)) b.1 in
      keep_both P D D s a.0.1 r.1 first (λ p. subst (Initialises v D s) (sym c.1) (keeps.initial p))
      (inits_file base is a.0.0 D a.0.1 r (entries_stay v defined P s a.0.1 D D first entries) external.1 fit.1 a.2)

  -- ---- a declaration

  module _ (stands : Where) (decl : Decl) (D : List Named) (s : State) (r : List Expr × State) (fits : all_fit (map (λ (x : At Spec). record { at = x.at; node = spec_in_range x.node }) decl.specs) ≡ true)
      (base : Specified × State) (found : specified_found (setting_of stands decl s) (map (spec_here v.target roles) decl.specs) (in_front decl s) ≡ Ok base) where
    abbrev front : State
    front = in_front decl s

    abbrev next : State
    next = aliased decl base.0 base.1

    abbrev P : Type 0
    P = Stands v base.0.ctype

    all_initialises : InitsKeep P D next r.1 → Initialises v D s r.1
    all_initialises inits =
        let first = front_if v roles defined 0 (is_none decl.inits) decl D s in
        let o = specifiers_stand v roles (setting_of stands decl s) decl.specs fits front base found in
        let alias = alias_if v roles defined 0 P (is_typedef_word base.0.specs.storage && defines_untagged decl.specs) decl base.0 D base.1 in
        let last = inits.goes.structures in
        let behind = structures_through base.1.structures next.structures r.1.structures alias.structures last in
        let whole = structures_through front.structures base.1.structures r.1.structures o.grows.grows.structures behind in
        λ k w ordered i.
        let k1 = knows_over v defined (Unit {0}) s front r.1 D D tt first whole k in
        let k2 = knows_behind v front base.1 r.1 D o.grows behind k1 in
        let p = o.holds (known_first v front base.1 r.1 behind k1.types) in
        let k3 = knows_over v defined P base.1 next r.1 D D p alias last k2 in
        let i1 = subst (AreInitial v) (sym (front_names (is_none decl.inits) decl s)) i in
        let i2 = expression_initial v front base.1 o.grows i1 in
        let i3 = subst (AreInitial v) (sym (aliased_names (is_typedef_word base.0.specs.storage && defines_untagged decl.specs) (first_name decl.inits) base.1 (out-Shape base.0.ctype.shape))) i2 in
        inits.initial p k3 w (alias.ordered (o.grows.ordered (first.ordered ordered))) i3

  pub block_initialises : (k : ℕ) (stands : Where) (decl : Decl) (D : List Named) (s : State) (r : List Expr × State) → IsInside stands → decl_fits decl ≡ true → AreDeclared k D s → declaration v.target roles defined stands decl s ≡ Ok r → Initialises v D s r.1
  unfolding declaration
  block_initialises k stands decl D s r inside f d h =
      let fit = both_true (all_fit (map (λ (x : At Spec). record { at = x.at; node = spec_in_range x.node }) decl.specs)) (list_all init_fits decl.inits) f in
      let front = in_front decl s in
      let set = setting_of stands decl s in
      let first = front_if v roles defined k (is_none decl.inits) decl D s in
      let a = then_found (specified_found set (map (spec_here v.target roles) decl.specs) front) (λ base s. inits_found v.target roles defined stands base decl.inits (aliased decl base s)) r h in
      let o = specifiers_stand v roles set decl.specs fit.0 front a.0 a.1 in
      let P = Stands v a.0.0.ctype in
      let next = aliased decl a.0.0 a.0.1 in
      let alias = alias_if v roles defined k P (is_typedef_word a.0.0.specs.storage && defines_untagged decl.specs) decl a.0.0 D a.0.1 in
      let start = alias.locals k (same_declared v defined k D front a.0.1 o.grows (first.locals k d)) in
      let plain = plain_inside set a.0.0.specs decl.inits (list_any is_given decl.inits) (specified_fit set (map (spec_here v.target roles) decl.specs) front a.0 a.1) inside refl refl in
      all_initialises stands decl D s r fit.0 a.0 a.1 (inits_block k stands a.0.0 decl.inits [] D next r start inside plain fit.1 a.2)

  pub file_initialises : (decl : Decl) (D : List Named) (s : State) (r : List Expr × State) → decl_fits decl ≡ true → AreEntries v.target defined s.names → AreAmong (defined_by (item.Decl decl)) defined → declaration v.target roles defined place.AtFile decl s ≡ Ok r → Initialises v D s r.1
  unfolding declaration
  file_initialises decl D s r f entries among h =
      let fit = both_true (all_fit (map (λ (x : At Spec). record { at = x.at; node = spec_in_range x.node }) decl.specs)) (list_all init_fits decl.inits) f in
      let front = in_front decl s in
      let set = setting_of place.AtFile decl s in
      let first = front_if v roles defined 0 (is_none decl.inits) decl D s in
      let a = then_found (specified_found set (map (spec_here v.target roles) decl.specs) front) (λ base s. inits_found v.target roles defined place.AtFile base decl.inits (aliased decl base s)) r h in
      let o = specifiers_stand v roles set decl.specs fit.0 front a.0 a.1 in
      let P = Stands v a.0.0.ctype in
      let next = aliased decl a.0.0 a.0.1 in
      let alias = alias_if v roles defined 0 P (is_typedef_word a.0.0.specs.storage && defines_untagged decl.specs) decl a.0.0 D a.0.1 in
      let stored = storage_is set v.target roles decl.specs front a.0 a.1 in
      let class_fits = specified_fit set (map (spec_here v.target roles) decl.specs) front a.0 a.1 in
      let given = λ (e : a.0.0.specs.storage ≡ Some w.Typedef). typedef_plain place.AtFile (list_any is_function set.entities) (list_any is_given decl.inits) (class_fits w.Typedef e) in
      let external = all_external defined a.0.0.specs.storage decl.inits given (subst (λ (x : Option Word). AreAmong (defined_with x decl.inits) defined) (sym stored) among) in
      let front_entries = entries_stay v defined (Unit {0}) s front D D first entries in
      let found_entries = entries_stay v defined (Unit {0}) front a.0.1 D D (of_extends v defined (Unit {0}) front a.0.1 D o.grows) front_entries in
      let next_entries = entries_stay v defined P a.0.1 next D D alias found_entries in
      all_initialises place.AtFile decl D s r fit.0 a.0 a.1 (inits_file a.0.0 decl.inits [] D next r next_entries external fit.1 a.2)
