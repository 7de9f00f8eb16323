-- Lines that show automatic objects declare them, and give no statement (C99 6.7).
use Rattle.std.proofs.Common.{◌≡◌, ℕ, ◌+◌, Bool, true, false, not, ◌&&◌, ◌||◌, List, [], ◌∷◌, ◌++◌, map, Option, Some, None, Ok, Err, refl, ap, ◌∙◌}
use Rattle.std.specs.Prelude.{if◌then◌else◌}
use Rattle.std.specs.Option.{is_some}
use Rattle.cc_type.specs.CcTypedTerms.Located.{located}
use Rattle.cc_type.specs.CcTypedTerms.Declarators.{derived_type}
use Rattle.cc_unit_trees.specs.Units.{ShowsDecl, ShowsOne}
use Rattle.cc_type.specs.CcObjects.Categories.{category_of, category_by, setting_of}
use Rattle.cc_type.specs.CcObjects.Linked.{with_automatic}
use Rattle.cc_type.specs.CcObjects.Names.{object_judged, typedef_judged, name_judged}
use Rattle.cc_type.specs.CcObjects.Tags.{is_typedef_word, defines_untagged, aliased, aliased_at, first_name}
use Rattle.cc_type.specs.CcObjects.Types.{is_complete_or_unbounded, is_object_in}
use Rattle.cc_type.specs.CcObjects.declared.category.Category.{Category}
use Rattle.cc_type.specs.CcObjects.declared.category.Category.TheVariants as declares
use Rattle.cc_type.specs.CcOperands.Qualified.{is_function_type}
use Rattle.cc_type.specs.CcOperands.Verdicts.{Judged, must, judge_then}
use Rattle.cc_type.specs.CcOperands.declared.rule.Rule.TheVariants as rule
use Rattle.cc_type.specs.CcTypedTerms.Primary.{intrinsic_named}
use Rattle.cc_program.specs.declared.expr.Expr.{Expr}
use Rattle.cc_program.specs.declared.program.Program.{Program}
use Rattle.cc_program.specs.declared.stmt.Stmt.{Do}
use Rattle.cc_program.specs.declared.types.CType.{CType}
use Rattle.cc_program.specs.declared.types.Shape.{out-Shape}
use Rattle.cc_type.specs.CcScopes.State.{State, Scope, Name, named_here, structures_of, layouts_of}
use Rattle.cc_type.specs.CcScopes.Verdicts.{Found, whole, and_then}
use Rattle.cc_type.specs.CcSpecifiers.Declarators.{type_found, is_unbounded}
use Rattle.cc_type.specs.CcSpecifiers.Places.{JudgedAt}
use Rattle.cc_type.specs.CcSpecifiers.declared.attribute.Attribute.{Attribute}
use Rattle.cc_type.specs.CcSpecifiers.declared.derivation.Allowed.{Allowed}
use Rattle.cc_type.specs.CcSpecifiers.declared.derivation.Declarator.{Declarator}
use Rattle.cc_type.specs.CcSpecifiers.declared.specifier.Specified.{Specified}
use Rattle.cc_type.specs.CcSpecifiers.declared.storage.Where.TheVariants as stands
use Rattle.cc_type.specs.CcSyntax.Kinds.{Kind, bytes_in, is_small, is_object_kind, is_object_type}
use Rattle.cc_type.specs.CcSyntax.Programs.{kind_in}
use Rattle.cc_type.specs.CcSyntax.Sizes.{AreSized}
use Rattle.cc_tree.specs.declared.at.At.{At}
use Rattle.cc_tree.specs.declared.tree.Declr.{Declr}
use Rattle.cc_tree.specs.declared.tree.Spec.{Spec}
use Rattle.cc_tree.specs.declared.unit.Decl.{Decl}
use Rattle.cc_tree.specs.declared.unit.Init.{Init}
use Rattle.cc_tree.specs.declared.unit.Line as line
use Rattle.cc_tree.specs.declared.unit.Line.TheOpen as one_line
use Rattle.cc_tree.specs.declared.unit.Line.TheVariants as line_rolls
use Rattle.cc_expression_trees.specs.Types.{ShowsWords, NoWord, MoreWords, ShowsBase, Declares, Plain}
use Rattle.cc_type.specs.CcTypedBodies.Parts.{declared_found}
use Rattle.cc_type.specs.CcTypedBodies.Declarations.{declared_left, named_found, init_found, inits_found, declaration}
use Rattle.cc_type.specs.CcTypedStatements.declared.jumps.Jumps.{Jumps}
use Rattle.cc_program.specs.CcWords.declared.word.Word.{Word}
use Rattle.cc_shown_expressions.specs.OperationNumbers.{Numbers}
use Rattle.cc_shown_names.proofs.Lines.{meaning, line-at}
use Rattle.cc_shown_expressions.specs.Known.{KnowsStructures}
use Rattle.cc_shown_expressions.specs.Numbers.{type_numbered}
use Rattle.cc_shown_expressions.proofs.Bases.{specified-found}
use Rattle.cc_shown_expressions.proofs.Complete.{object-numbered}
use Rattle.cc_shown_expressions.proofs.Declared.{declared}
use Rattle.cc_shown_expressions.proofs.Derived.{fits-derived}
use Rattle.cc_shown_names.proofs.Forms.{no-function}

no-words : (xs : List Word) (qs : List (At Spec)) → ShowsWords xs qs → xs ≡ [] → qs ≡ []
no-words _ _ NoWord h = refl
no-words _ _ (MoreWords x xs at ss r) h = absurd (cc)

or-true : (b : Bool) → b || true ≡ true
or-true true = refl
or-true false = refl

abbrev IsObjectKind : Option Kind → Type 0
IsObjectKind k = (kind : Kind) × (size : ℕ) × (k ≡ Some kind) × (bytes_in kind ≡ Some size) × (is_small size ≡ true)

object-size : (kind : Kind) (o : Option ℕ) → bytes_in kind ≡ o → is_object_kind o ≡ true → IsObjectKind (Some kind)
object-size kind None e h = absurd (cc)
object-size kind (Some n) e h = (kind, n, refl, e, h)

object-kind : (k : Option Kind) → is_object_type k ≡ true → IsObjectKind k
object-kind None h = absurd (cc)
object-kind (Some kind) h = object-size kind (bytes_in kind) refl h

object-stands : (k : Option Kind) → is_object_type k ≡ true → is_some k ≡ true
object-stands None h = absurd (cc)
object-stands (Some kind) h = refl

module _ (p : Program) (n : Numbers) (defined : List Name) (sized : AreSized p.structures p.target) where
  abbrev numbered : CType → CType
  numbered t = type_numbered n.structure t

  module _ (s : State) (known : KnowsStructures p n.structure s) (x : Name) (t : CType) (fits : is_object_type (kind_in p t) ≡ true) (own : intrinsic_named p.roles x ≡ None) (new : named_here x s ≡ None) where
    -- ---- the name may be declared so

    object-there : is_object_in p.target s (numbered t) ≡ true
    object-there = let q = object-kind (kind_in p t) fits in object-numbered p n.structure s known sized t q.0 q.1 q.2 q.3 q.4

    object-is : object_judged p.target p.roles x (numbered t) s ≡ Ok (numbered t)
    object-is =
        ap (λ o. if is_some o then Err rule.MainOrIntrinsic else must (is_complete_or_unbounded p.target s (numbered t)) rule.NoObjectType (Ok (numbered t))) own
        ∙ ap (λ b. must (is_unbounded (numbered t) || b) rule.NoObjectType (Ok (numbered t))) object-there
        ∙ ap (λ b. must b rule.NoObjectType (Ok (numbered t))) (or-true (is_unbounded (numbered t)))

    new-is : typedef_judged p.roles x (numbered t) s ≡ Ok (numbered t)
    new-is =
        ap (λ o. judge_then (if is_some o then Err rule.MainOrIntrinsic else must (not (is_some (named_here x s))) rule.DeclaredTwice (Ok x)) (λ x. Ok (numbered t))) own
        ∙ ap (λ o. judge_then (must (not (is_some o)) rule.DeclaredTwice (Ok x)) (λ x. Ok (numbered t))) new

    name-is : name_judged p.target p.roles declares.Automatic x (numbered t) None s ≡ Ok (numbered t)
    name-is = ap (λ (j : Judged CType). judge_then j (λ t. typedef_judged p.roles x t s)) object-is ∙ new-is

    -- ---- the declaration

    abbrev behind : State
    behind = with_automatic x (numbered t) s

    abbrev init : Declr → ℕ → ℕ → At Init
    init d at i = record { at = at; node = record { declr = record { at = i; node = d }; attrs = []; value = None } }

    abbrev allowed : Allowed
    allowed = record { unbounded = false; void = false; unnamed = true }

    named-is : (at : ℕ) (c : Category) (marks : List (At (List Attribute))) (d : Declr) (i k : ℕ) → c ≡ declares.Automatic → marks ≡ [] → named_found p.target p.roles defined at c (numbered t) marks (init d i k).node (Some x) s ≡ Ok ([], behind)
    named-is at c marks d i k e m =
        ap (λ c. named_found p.target p.roles defined at c (numbered t) marks (init d i k).node (Some x) s) e
        ∙ ap (λ marks. named_found p.target p.roles defined at declares.Automatic (numbered t) marks (init d i k).node (Some x) s) m
        ∙ ap (λ (j : Judged CType). and_then (whole at s j) (λ t s. declared_left p.target p.roles defined at declares.Automatic x t [] None s)) name-is

    init-is : (base : Specified) (b : CType) (d : Declr) (at i : ℕ) → Declares p.structures b d (Plain (Some x)) t → base.ctype ≡ numbered b → base.specs.storage ≡ None → base.specs.marks ≡ [] → init_found p.target p.roles defined stands.InBlock base (init d at i) s ≡ Ok ([], behind)
    init-is base b d at i h typed plain unmarked =
        let q = declared p n.structure p.roles sized s known b t d (Plain (Some x)) (Some x) h refl (object-stands (kind_in p t) fits) allowed refl i in
        let ds = q.derivations in
        let f = fits-derived p.target (structures_of s) (layouts_of s) false (numbered b) ds (numbered t) q.fits in
        let c = category_of stands.InBlock base.specs.storage (is_function_type base.ctype) d in
        let automatic : c ≡ declares.Automatic =
        ap (λ t. category_of stands.InBlock base.specs.storage (is_function_type t) d) typed
        ∙ ap (λ w. category_of stands.InBlock w (is_function_type (numbered b)) d) plain
        ∙ ap (λ b. category_by stands.InBlock None b) (no-function p n.structure b t d (Some x) h fits) in
        ap (λ (r : Found (Declarator Scope)). and_then r (λ y s. and_then (derived_type p.target allowed base.ctype y s) (λ t s. named_found p.target p.roles defined at c t base.specs.marks (init d at i).node y.name s))) q.is
        ∙ ap (λ (u : CType). and_then (located s (type_found p.target (structures_of s) (layouts_of s) allowed u ds)) (λ t s. named_found p.target p.roles defined at c t base.specs.marks (init d at i).node (Some x) s)) typed
        ∙ ap (λ (j : JudgedAt CType). and_then (located s j) (λ t s. named_found p.target p.roles defined at c t base.specs.marks (init d at i).node (Some x) s)) f
        ∙ named-is at c base.specs.marks d at i automatic unmarked

    inits-is : (base : Specified) (b : CType) (d : Declr) (at i : ℕ) → Declares p.structures b d (Plain (Some x)) t → base.ctype ≡ numbered b → base.specs.storage ≡ None → base.specs.marks ≡ [] → inits_found p.target p.roles defined stands.InBlock base (init d at i ∷ []) s ≡ Ok ([], behind)
    inits-is base b d at i h typed plain unmarked =
        ap (λ (r : Found (List Expr)). and_then (and_then r (λ es s. Ok ([] ++ es, s))) (λ es s. Ok (es, s))) (init-is base b d at i h typed plain unmarked)

    abbrev decl : List (At Spec) → Declr → ℕ → ℕ → Decl
    decl ss d at i = record { specs = ss; inits = init d at i ∷ [] }

    declaration-is : (b : CType) (ss : List (At Spec)) (d : Declr) (at i : ℕ) → ShowsBase p.structures b ss → Declares p.structures b d (Plain (Some x)) t → declaration p.target p.roles defined stands.InBlock (decl ss d at i) s ≡ Ok ([], behind)
    unfolding declaration
    declaration-is b ss d at i base h =
        let whole_decl = decl ss d at i in
        let f = specified-found p n.structure p.roles s known (setting_of stands.InBlock whole_decl s) b ss base in
        let found : Specified = record { specs = f.specs; ctype = numbered b } in
        ap (λ (r : Found Specified). and_then r (λ base s. inits_found p.target p.roles defined stands.InBlock base whole_decl.inits (aliased whole_decl base s))) f.is
        ∙ ap (λ o. inits_found p.target p.roles defined stands.InBlock found whole_decl.inits (if is_typedef_word o && defines_untagged ss then aliased_at (first_name whole_decl.inits) s (out-Shape (numbered b).shape) else s)) f.plain
        ∙ inits-is found b d at i h refl f.plain f.unmarked

    declared-is : (b : CType) (ss : List (At Spec)) (d : Declr) (at i : ℕ) → ShowsBase p.structures b ss → Declares p.structures b d (Plain (Some x)) t → declared_found p.target p.roles defined (decl ss d at i) s ≡ Ok ([], behind)
    unfolding declared_found
    declared-is b ss d at i base h = ap (λ (r : Found (List Expr)). and_then r (λ es s. Ok (map Do es, s))) (declaration-is b ss d at i base h)

    shown-declared : (d : Decl) → ShowsDecl p.structures [] (Plain (Some x)) t d → declared_found p.target p.roles defined d s ≡ Ok ([], behind)
    shown-declared _ (ShowsOne b qs ss d at words base h) =
        ap (λ qs. declared_found p.target p.roles defined (decl (qs ++ ss) d.node at d.at) s) (no-words [] qs words refl) ∙ declared-is b ss d.node at d.at base h

    -- its line
    pub local-line : (result : CType) (d : Decl) → ShowsDecl p.structures [] (Plain (Some x)) t d → (j : Jumps) (at : ℕ) → (meaning p n defined result (line.Decl d)).line j at s ≡ Ok ([], behind)
    local-line result d h j at = line-at p n defined result (line.Decl d) (one_line.Decl d) (line_rolls.outs-Decl d) j at s ∙ shown-declared d h
