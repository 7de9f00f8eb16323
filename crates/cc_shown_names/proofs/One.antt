-- A declaration of one thing at file scope, behind words of a storage class or attributes.
use Rattle.std.proofs.Common.{◌≡◌, ℕ, Bool, true, false, not, ◌&&◌, ◌||◌, List, [], ◌∷◌, ◌++◌, map, Option, Some, None, Ok, Err, refl, ap, ◌∙◌}
use Rattle.std.specs.Prelude.{if◌then◌else◌}
use Rattle.std.specs.Option.{is_some}
use Rattle.std.specs.Str.{bytes_eq}
use Rattle.std.proofs.lemmas.List.{map-append}
use Rattle.cc_type.specs.CcTypedTerms.Declarators.{derived_type}
use Rattle.cc_type.specs.CcTypedTerms.Located.{located}
use Rattle.cc_type.specs.CcTypedTerms.Specifiers.{begin}
use Rattle.cc_type.specs.CcLinkage.Linkage.{is_main_shape, may_be_main, may_be_declared}
use Rattle.cc_type.specs.CcLinkage.declared.linkage.DeclaredAs.{DeclaredAs}
use Rattle.cc_type.specs.CcObjects.Categories.{file_category, category_by, category_of, setting_of}
use Rattle.cc_type.specs.CcObjects.Names.{object_judged, name_judged}
use Rattle.cc_type.specs.CcObjects.Tags.{is_typedef_word, defines_untagged, aliased, aliased_at, first_name}
use Rattle.cc_type.specs.CcObjects.Types.{is_complete_or_unbounded, is_object_in}
use Rattle.cc_type.specs.CcObjects.declared.category.Category.{Category}
use Rattle.cc_type.specs.CcObjects.declared.category.Category.TheVariants as declares
use Rattle.cc_type.specs.CcOperands.Qualified.{is_function_type}
use Rattle.cc_type.specs.CcOperands.Verdicts.{Judged, must, judge_then}
use Rattle.cc_type.specs.CcOperands.declared.rule.Rule.TheVariants as rule
use Rattle.cc_type.specs.CcTypedTerms.Primary.{intrinsic_named}
use Rattle.cc_program.specs.declared.expr.Expr.{Expr}
use Rattle.cc_program.specs.declared.func.Entry.{Entry}
use Rattle.cc_program.specs.declared.program.Program.{Program}
use Rattle.cc_program.specs.declared.types.CType.{CType}
use Rattle.cc_program.specs.declared.types.Shape.{out-Shape}
use Rattle.cc_type.specs.CcScopes.State.{State, Scope, Name, structures_of, layouts_of}
use Rattle.cc_type.specs.CcScopes.Verdicts.{Found, whole, and_then, checked}
use Rattle.cc_type.specs.CcSpecifiers.Declarators.{type_found, is_unbounded}
use Rattle.cc_type.specs.CcSpecifiers.Places.{JudgedAt}
use Rattle.cc_type.specs.CcSpecifiers.Specifiers.{no_specifier, specified}
use Rattle.cc_type.specs.CcSpecifiers.declared.attribute.Attribute.{Attribute}
use Rattle.cc_type.specs.CcSpecifiers.declared.derivation.Declarator.{Declarator}
use Rattle.cc_type.specs.CcSpecifiers.declared.derivation.Derivation.{Derivation}
use Rattle.cc_type.specs.CcSpecifiers.declared.specifier.Base.{Base}
use Rattle.cc_type.specs.CcSpecifiers.declared.specifier.Specified.{Specified}
use Rattle.cc_type.specs.CcSpecifiers.declared.specifier.Specs.{Specs}
use Rattle.cc_type.specs.CcSpecifiers.declared.storage.Setting.{Setting}
use Rattle.cc_type.specs.CcSpecifiers.declared.storage.Where.TheVariants as stands
use Rattle.cc_type.specs.CcSyntax.Kinds.{is_object_type}
use Rattle.cc_type.specs.CcSyntax.Programs.{kind_in}
use Rattle.cc_type.specs.CcSyntax.Sizes.{AreSized}
use Rattle.cc_type.specs.CcSyntax.Sound.{main_name}
use Rattle.cc_type.specs.CcTerms.InTurn.{in_turn}
use Rattle.cc_type.specs.CcTerms.Specifiers.{specifier_found, specifiers_found, specified_found}
use Rattle.cc_type.specs.CcTerms.Terms.{spec_here, declr_of}
use Rattle.cc_tree.specs.declared.at.At.{At}
use Rattle.cc_tree.specs.declared.tree.Declr.{Declr}
use Rattle.cc_tree.specs.declared.tree.Spec.{Spec}
use Rattle.cc_tree.specs.declared.unit.Decl.{Decl}
use Rattle.cc_tree.specs.declared.unit.Given.{Given}
use Rattle.cc_tree.specs.declared.unit.Init.{Init}
use Rattle.cc_tree.specs.declared.unit.Item.TheVariants as item
use Rattle.cc_expression_trees.specs.Types.{ShowsBase, Declares, Plain}
use Rattle.cc_type.specs.Units.{item_found}
use Rattle.cc_type.specs.CcTypedBodies.Declarations.{init_allowed, named_found, init_found, inits_found, declaration}
use Rattle.cc_program.specs.CcWords.declared.word.Word.{Word}
use Rattle.cc_shown_names.proofs.ObjectTypes.{object-kind, object-stands}
use Rattle.cc_shown_names.proofs.Forms.{no-function}
use Rattle.cc_shown_expressions.specs.Known.{KnowsStructures}
use Rattle.cc_shown_expressions.specs.Numbers.{type_numbered}
use Rattle.cc_shown_expressions.proofs.Bases.{base-found}
use Rattle.cc_shown_expressions.proofs.Complete.{object-numbered}
use Rattle.cc_shown_expressions.proofs.Declared.{declared as found-declared}
use Rattle.cc_shown_expressions.proofs.Derived.{fits-derived}
use Rattle.cc_shown_expressions.proofs.Words.{start, reached, in-turn-append}

abbrev pub init_of : At Declr → ℕ → Option (At Given) → At Init
init_of d at value = record { at = at; node = record { declr = d; attrs = []; value = value } }

abbrev pub decl_of : List (At Spec) → At Declr → ℕ → Option (At Given) → Decl
decl_of ss d at value = record { specs = ss; inits = init_of d at value ∷ [] }

or-true : (b : Bool) → b || true ≡ true
or-true true = refl
or-true false = refl

module _ (p : Program) (number : ℕ → ℕ) (defined : List Name) (s : State) (known : KnowsStructures p number s) where
  abbrev numbered : CType → CType
  numbered t = type_numbered number t

  -- ---- specifiers

  abbrev pub Leads : Setting → Option Word → List (At (List Attribute)) → List (At Spec) → Type 0
  Leads setting storage marks qs = in_turn (specifier_found setting) (map (spec_here p.target p.roles) qs) no_specifier s ≡ Ok (start storage marks, s)

  pub record BehindFound (setting : Setting) (storage : Option Word) (marks : List (At (List Attribute))) (b : CType) (ss : List (At Spec)) : Type 0 where
    pub base : Base
    pub is : specified_found setting (map (spec_here p.target p.roles) ss) s ≡ Ok (record { specs = reached storage marks b.constant b.volatile base; ctype = numbered b }, s)

  pub behind-found : (setting : Setting) (storage : Option Word) (marks : List (At (List Attribute))) (b : CType) (qs ss : List (At Spec)) → Leads setting storage marks qs → ShowsBase p.structures b ss → BehindFound setting storage marks b (qs ++ ss)
  behind-found setting storage marks b qs ss lead h =
      let f = base-found p number p.roles s known setting storage marks b ss h in
      let specs = reached storage marks b.constant b.volatile f.base in
      let place = begin (map (spec_here p.target p.roles) (qs ++ ss)) in
      let turn : specifiers_found setting (map (spec_here p.target p.roles) (qs ++ ss)) s ≡ Ok (specs, s) =
      ap (λ ys. in_turn (specifier_found setting) ys no_specifier s) (map-append (spec_here p.target p.roles) qs ss)
      ∙ in-turn-append (specifier_found setting) (map (spec_here p.target p.roles) qs) (map (spec_here p.target p.roles) ss) no_specifier (start storage marks) s s lead ∙ f.is in
      record {
        base = f.base;
        is = ap (λ (m : Found Specs). and_then m (λ specs s. whole place s (specified specs))) turn
            ∙ ap (λ (m : Judged CType). whole place s (judge_then m (λ t. Ok (record { specs = specs; ctype = t })))) f.typed;
      }

  -- ---- the declaration

  pub record IsDeclarator (d : At Declr) (at : ℕ) (value : Option (At Given)) (x : Name) (b t : CType) : Type 0 where
    pub derivations : List (At (Derivation Scope))
    pub is : declr_of p.target p.roles d.node (init_allowed (init_of d at value).node) d.at s ≡ Ok (record { name = Some x; derivations = derivations }, s)
    pub typed : type_found p.target (structures_of s) (layouts_of s) (init_allowed (init_of d at value).node) (numbered b) derivations ≡ Ok t

  module _ (ss : List (At Spec)) (d : At Declr) (at : ℕ) (value : Option (At Given)) (x : Name) (b t : CType) (storage : Option Word) (marks : List (At (List Attribute))) (c : Category) (u : State)
      (behind : BehindFound (setting_of stands.AtFile (decl_of ss d at value) s) storage marks b ss) (untyped : is_typedef_word storage ≡ false) (declarator : IsDeclarator d at value x b t)
      (category : category_of stands.AtFile storage (is_function_type (numbered b)) d.node ≡ c) (named : named_found p.target p.roles defined at c t marks (init_of d at value).node (Some x) s ≡ Ok ([], u)) where
    abbrev init : At Init
    init = init_of d at value

    abbrev base : Specified
    base = record { specs = reached storage marks b.constant b.volatile behind.base; ctype = numbered b }

    init-is : init_found p.target p.roles defined stands.AtFile base init s ≡ Ok ([], u)
    init-is =
        let k = category_of stands.AtFile storage (is_function_type (numbered b)) d.node in
        ap (λ (r : Found (Declarator Scope)). and_then r (λ y s. and_then (derived_type p.target (init_allowed init.node) (numbered b) y s) (λ t s. named_found p.target p.roles defined at k t marks init.node y.name s))) declarator.is
        ∙ ap (λ (j : JudgedAt CType). and_then (located s j) (λ t s. named_found p.target p.roles defined at k t marks init.node (Some x) s)) declarator.typed
        ∙ ap (λ k. named_found p.target p.roles defined at k t marks init.node (Some x) s) category ∙ named

    inits-is : inits_found p.target p.roles defined stands.AtFile base (init ∷ []) s ≡ Ok ([], u)
    inits-is = ap (λ (r : Found (List Expr)). and_then (and_then r (λ es s. Ok ([] ++ es, s))) (λ es s. Ok (es, s))) init-is

    declaration-is : declaration p.target p.roles defined stands.AtFile (decl_of ss d at value) s ≡ Ok ([], u)
    unfolding declaration
    declaration-is =
        ap (λ (r : Found Specified). and_then r (λ base s. inits_found p.target p.roles defined stands.AtFile base (init ∷ []) (aliased (decl_of ss d at value) base s))) behind.is
        ∙ ap (λ o. inits_found p.target p.roles defined stands.AtFile base (init ∷ []) (if o && defines_untagged ss then aliased_at (first_name (init ∷ [])) s (out-Shape (numbered b).shape) else s)) untyped
        ∙ inits-is

    pub one-found : item_found p.target p.roles defined (item.Decl (decl_of ss d at value)) s ≡ Ok (checked, u)
    one-found = ap (λ (r : Found (List Expr)). and_then r (λ es s. Ok (checked, s))) declaration-is

  -- ---- an object with linkage may be declared so

  module _ (sized : AreSized p.structures p.target) (x : Name) (t : CType) (fits : is_object_type (kind_in p t) ≡ true) (own : intrinsic_named p.roles x ≡ None) (other : bytes_eq x main_name ≡ false) where
    pub object-there : is_object_in p.target s (numbered t) ≡ true
    object-there = let q = object-kind (kind_in p t) fits in object-numbered p number s known sized t q.0 q.1 q.2 q.3 q.4

    object-is : object_judged p.target p.roles x (numbered t) s ≡ Ok (numbered t)
    object-is =
        ap (λ o. if is_some o then Err rule.MainOrIntrinsic else must (is_complete_or_unbounded p.target s (numbered t)) rule.NoObjectType (Ok (numbered t))) own
        ∙ ap (λ b. must (is_unbounded (numbered t) || b) rule.NoObjectType (Ok (numbered t))) object-there
        ∙ ap (λ b. must b rule.NoObjectType (Ok (numbered t))) (or-true (is_unbounded (numbered t)))

    main-is : may_be_main x (numbered t) ≡ true
    main-is = ap (λ b. not b || is_main_shape (out-Shape (numbered t).shape)) other

    pub linked-is : (asked : DeclaredAs) (entry : Option Entry) → may_be_declared asked x (numbered t) s ≡ true → name_judged p.target p.roles (declares.Linked asked) x (numbered t) entry s ≡ Ok (numbered t)
    linked-is asked entry free =
        ap (λ (j : Judged CType). judge_then j (λ t. must (may_be_main x t) rule.MainOrIntrinsic (must (may_be_declared asked x t s) rule.DeclaredTwice (Ok t)))) object-is
        ∙ ap (λ b. must b rule.MainOrIntrinsic (must (may_be_declared asked x (numbered t) s) rule.DeclaredTwice (Ok (numbered t)))) main-is
        ∙ ap (λ b. must b rule.DeclaredTwice (Ok (numbered t))) free

    -- ---- its declarator

    pub object-declarator : (d : At Declr) (at : ℕ) (value : Option (At Given)) (b : CType) → Declares p.structures b d.node (Plain (Some x)) t → IsDeclarator d at value x b (numbered t)
    object-declarator d at value b h =
        let q = found-declared p number p.roles sized s known b t d.node (Plain (Some x)) (Some x) h refl (object-stands (kind_in p t) fits) (init_allowed (init_of d at value).node) refl d.at in
        record {
          derivations = q.derivations;
          is = q.is;
          typed = fits-derived p.target (structures_of s) (layouts_of s) false (numbered b) q.derivations (numbered t) q.fits;
        }

    pub object-category : (d : Declr) (b : CType) (storage : Option Word) → Declares p.structures b d (Plain (Some x)) t → category_of stands.AtFile storage (is_function_type (numbered b)) d ≡ file_category storage
    object-category d b storage h = ap (λ f. category_by stands.AtFile storage f) (no-function p number b t d (Some x) h fits)
