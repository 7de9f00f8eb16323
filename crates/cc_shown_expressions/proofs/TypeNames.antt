-- The names of types are typed to the types that they show (C99 6.7.6). `void *`, of which a null may be, is named by casts alone.
use Rattle.std.proofs.Common.{◌≡◌, ℕ, Bool, true, false, not, ◌&&◌, ◌||◌, List, [], ◌∷◌, map, Option, None, Ok, refl, ap, sym, ◌∙◌}
use Rattle.cc_terms.specs.CcTypedTerms.Declarators.{derived_type}
use Rattle.cc_terms.specs.CcTypedTerms.Located.{located}
use Rattle.cc_program.specs.CcNum.declared.target.Target.{Target}
use Rattle.cc_terms.specs.CcOperands.declared.rule.Rule.TheVariants as rule
use Rattle.cc_program.specs.declared.program.Program.{Program}
use Rattle.cc_program.specs.declared.program.Roles.{Roles}
use Rattle.cc_program.specs.declared.types.CType.{CType}
use Rattle.cc_program.specs.declared.types.Shape.{out-Shape}
use Rattle.cc_program.specs.declared.types.Shape.TheOpen as shape
use Rattle.cc_program.specs.declared.types.Sig.{Sig}
use Rattle.cc_terms.specs.CcScopes.State.{State, Scope, structures_of, layouts_of}
use Rattle.cc_terms.specs.CcScopes.Verdicts.{Found, and_then}
use Rattle.cc_terms.specs.CcSpecifiers.Declarators.{derive_one, fault_or, broken_unless, derived}
use Rattle.cc_terms.specs.CcSpecifiers.Derivations.{in_type_name, with_derivation, pointer_derivation}
use Rattle.cc_terms.specs.CcSpecifiers.Storage.{setting}
use Rattle.cc_terms.specs.CcSpecifiers.declared.attribute.Entity.TheVariants as entity
use Rattle.cc_terms.specs.CcSpecifiers.declared.derivation.Allowed.{Allowed}
use Rattle.cc_terms.specs.CcSpecifiers.declared.derivation.Declarator.{Declarator}
use Rattle.cc_terms.specs.CcSpecifiers.declared.specifier.Specified.{Specified}
use Rattle.cc_terms.specs.CcSpecifiers.declared.storage.Where.TheVariants as stands
use Rattle.cc_terms.specs.CcSyntax.SameTypes.{is_void_shape}
use Rattle.cc_terms.specs.CcSyntax.Sizes.{AreSized}
use Rattle.cc_terms.specs.CcSyntax.Values.{is_void}
use Rattle.cc_terms.specs.Constants.{enumr_step}
use Rattle.cc_terms.specs.Declarators.{declarator, declr_step, params_step, param_step, type_name_step}
use Rattle.cc_terms.specs.Expressions.{tree_step}
use Rattle.cc_terms.specs.Meanings.{TreeMeaning, DeclrMeaning, ParamsMeaning, ParamMeaning, SpecMeaning, MembersMeaning, EnumrMeaning, TypeNameMeaning}
use Rattle.cc_terms.specs.Members.{members_step}
use Rattle.cc_terms.specs.Specifiers.{specified_found, spec_step}
use Rattle.cc_terms.specs.Terms.{tree_of, declr_of, params_of, param_of, spec_of, members_of, enumr_of, type_name_of, declr_here, spec_here}
use Rattle.cc_tree.specs.declared.at.At.{At}
use Rattle.cc_tree.specs.declared.tree.Declr as declr
use Rattle.cc_tree.specs.declared.tree.Declr.{Declr}
use Rattle.cc_tree.specs.declared.tree.Declr.TheOpen as one
use Rattle.cc_tree.specs.declared.tree.Declr.TheVariants as declr_rolls
use Rattle.cc_tree.specs.declared.tree.Spec.{Spec}
use Rattle.cc_tree.specs.declared.tree.TypeName.{TypeName, fold_out-TypeName}
use Rattle.cc_expression_trees.specs.Types.{qualifier_words, Core, Plain, ShowsBase, ShowsVoid, ShowsInt, ShowsStructure, Declares, DeclaresNothing, DeclaresName, DeclaresFunction, InParens, DeclaresPointer, DeclaresArray, DeclaresFunc, ShowsTypeName, NamesType}
use Rattle.cc_shown_expressions.specs.Known.{KnowsStructures}
use Rattle.cc_shown_expressions.specs.Numbers.{type_numbered}
use Rattle.cc_shown_expressions.proofs.Bases.{specified-found}
use Rattle.cc_shown_expressions.proofs.Declared.{declr-at, declared, pointer-type}
use Rattle.cc_shown_expressions.proofs.Derived.{Derivations, fits-derived}
use Rattle.cc_shown_expressions.proofs.Kept.{void-numbered}
use Rattle.cc_shown_expressions.proofs.Numbering.{constant-kept, volatile-kept}
use Rattle.cc_shown_expressions.proofs.Standing.{Stands}

pub type-name-at : (target : Target) (roles : Roles) (ss : List (At Spec)) (d : At Declr) (cast : Bool) (s : State) → type_name_of target roles (record { specs = ss; declr = d }) cast s
    ≡ and_then (specified_found (setting stands.InTypeName entity.Nothing) (map (spec_here target roles) ss) s) (λ base s.
    declarator (in_type_name cast) (declr_here target roles d) s (λ d s. derived_type target (in_type_name cast) base.ctype d s))
unfolding declr_of params_of spec_of tree_of enumr_of members_of param_of type_name_of
type-name-at target roles ss d cast s = ap (λ (m : TypeNameMeaning). m cast s) (fold_out-TypeName DeclrMeaning ParamsMeaning SpecMeaning TreeMeaning EnumrMeaning MembersMeaning ParamMeaning TypeNameMeaning declr_step params_step (spec_step target) (tree_step target roles) (enumr_step target roles) (members_step target) (param_step target roles) (type_name_step target) (record { specs = ss; declr = d }))

module _ (p : Program) (number : ℕ → ℕ) (roles : Roles) (sized : AreSized p.structures p.target) (s : State) (known : KnowsStructures p number s) where
  abbrev numbered : CType → CType
  numbered t = type_numbered number t

  -- by what its declarator gives
  name-by : (cast : Bool) (b u : CType) (ss : List (At Spec)) (d : At Declr) (x : Option (List ℕ)) (ds : Derivations) → ShowsBase p.structures b ss → declr_of p.target roles d.node (in_type_name cast) d.at s ≡ Ok (record { name = x; derivations = ds }, s) →
      derived p.target (structures_of s) (layouts_of s) cast (numbered b) ds ≡ Ok u → type_name_of p.target roles (record { specs = ss; declr = d }) cast s ≡ Ok (u, s)
  name-by cast b u ss d x ds hb hd h =
      let sf = specified-found p number roles s known (setting stands.InTypeName entity.Nothing) b ss hb in
      type-name-at p.target roles ss d cast s
      ∙ ap (λ (m : Found Specified). and_then m (λ base s. declarator (in_type_name cast) (declr_here p.target roles d) s (λ d s. derived_type p.target (in_type_name cast) base.ctype d s))) sf.is
      ∙ ap (λ (m : Found (Declarator Scope)). and_then m (λ d s. derived_type p.target (in_type_name cast) (numbered b) d s)) hd
      ∙ ap (located s) h

  pub type-name-found : (t : CType) (type : TypeName) → ShowsTypeName p.structures t type → Stands p t → (cast : Bool) → type_name_of p.target roles type cast s ≡ Ok (numbered t, s)
  type-name-found _ _ (NamesType b t ss d hb hd) h cast =
      let q = declared p number roles sized s known b t d.node (Plain None) None hd refl h (in_type_name cast) refl d.at in
      name-by cast b (numbered t) ss d None q.derivations hb q.is (fits-derived p.target (structures_of s) (layouts_of s) cast (numbered b) q.derivations (numbered t) q.fits)

  -- ---- pointers to void

  module _ (t w : CType) (to_void : out-Shape t.shape ≡ shape.Pointer w) (void : out-Shape w.shape ≡ shape.Void) where
    -- the declarator of the type itself, or of what it points to
    data VoidFound (d : Declr) (allowed : Allowed) (at : ℕ) (b : CType) : Type 0 where
      Whole : b ≡ t → declr_of p.target roles d allowed at s ≡ Ok (record { name = None; derivations = [] }, s) → VoidFound d allowed at b
      Behind : (k : ℕ) → b ≡ w → declr_of p.target roles d allowed at s ≡ Ok (record { name = None; derivations = record { at = k; node = pointer_derivation (qualifier_words t.constant t.volatile) } ∷ [] }, s) → VoidFound d allowed at b

    inside : (d : At Declr) (allowed : Allowed) (at : ℕ) (b : CType) → VoidFound d.node allowed d.at b → VoidFound (declr.Paren d) allowed at b
    inside d allowed at b (Whole e h) = Whole e (declr-at p.target roles (declr.Paren d) (one.Declr::Paren d) (declr_rolls.outs-Paren d) allowed at s ∙ h)
    inside d allowed at b (Behind k e h) = Behind k e (declr-at p.target roles (declr.Paren d) (one.Declr::Paren d) (declr_rolls.outs-Paren d) allowed at s ∙ h)

    pointer-shape : (c b : CType) → c ≡ t → out-Shape c.shape ≡ shape.Pointer b → b ≡ w
    pointer-shape c b e f = let g : out-Shape t.shape ≡ shape.Pointer b = ap (λ (u : CType). out-Shape u.shape) (sym e) ∙ f in cc

    no-pointer : (c b : CType) → c ≡ w → out-Shape c.shape ≡ shape.Pointer b → ⊥
    no-pointer c b e f = let g : out-Shape w.shape ≡ shape.Pointer b = ap (λ (u : CType). out-Shape u.shape) (sym e) ∙ f in absurd (cc)

    no-array : (c u b : CType) (n : ℕ) → c ≡ u → (out-Shape u.shape ≡ shape.Array b n → ⊥) → out-Shape c.shape ≡ shape.Array b n → ⊥
    no-array c u b n e h f = h (ap (λ (u : CType). out-Shape u.shape) (sym e) ∙ f)

    no-function : (c u : CType) (sig : Sig) → c ≡ u → (out-Shape u.shape ≡ shape.Func sig → ⊥) → out-Shape c.shape ≡ shape.Func sig → ⊥
    no-function c u sig e h f = h (ap (λ (u : CType). out-Shape u.shape) (sym e) ∙ f)

    pointer-void : (c b : CType) (d : At Declr) (allowed : Allowed) (at : ℕ) → out-Shape c.shape ≡ shape.Pointer b → VoidFound d.node allowed d.at c → VoidFound (declr.Pointer (qualifier_words c.constant c.volatile) d) allowed at b
    pointer-void c b d allowed at e (Whole f h) =
        let words = qualifier_words c.constant c.volatile in
        Behind at (pointer-shape c b f e)
        (declr-at p.target roles (declr.Pointer words d) (one.Pointer words d) (declr_rolls.outs-Pointer words d) allowed at s
        ∙ ap (λ (m : Found (Declarator Scope)). and_then m (λ x s. Ok (with_derivation at (pointer_derivation words) x, s))) h
        ∙ ap (λ (u : CType). Ok (record { name = None; derivations = record { at = at; node = pointer_derivation (qualifier_words u.constant u.volatile) } ∷ [] }, s)) f)
    pointer-void c b d allowed at e (Behind k f h) = absurd (no-pointer c b f e)

    array-void : (c b : CType) (n : ℕ) (d : At Declr) (allowed : Allowed) → out-Shape c.shape ≡ shape.Array b n → VoidFound d.node allowed d.at c → ⊥
    array-void c b n d allowed e (Whole f h) = no-array c t b n f (λ g. absurd (cc)) e
    array-void c b n d allowed e (Behind k f h) = no-array c w b n f (λ g. absurd (cc)) e

    function-void : (c : CType) (sig : Sig) (d : At Declr) (allowed : Allowed) → out-Shape c.shape ≡ shape.Func sig → VoidFound d.node allowed d.at c → ⊥
    function-void c sig d allowed e (Whole f h) = no-function c t sig f (λ g. absurd (cc)) e
    function-void c sig d allowed e (Behind k f h) = no-function c w sig f (λ g. absurd (cc)) e

    void-declared : (b u : CType) (d : Declr) (core : Core) → Declares p.structures b d core u → core ≡ Plain None → u ≡ t → (allowed : Allowed) (at : ℕ) → VoidFound d allowed at b
    void-declared _ _ _ _ (DeclaresNothing u) c e allowed at = Whole e (declr-at p.target roles declr.Nothing one.Nothing declr_rolls.outs-Nothing allowed at s)
    void-declared _ _ _ _ (DeclaresName u x) c e allowed at = absurd (cc)
    void-declared _ _ _ _ (DeclaresFunction u x entries ps k r) c e allowed at = absurd (cc)
    void-declared _ _ _ _ (InParens b u d core r) c e allowed at = inside d allowed at b (void-declared b u d.node core r c e allowed d.at)
    void-declared _ _ _ _ (DeclaresPointer c b u d core f r) k e allowed at = pointer-void c b d allowed at f (void-declared c u d.node core r k e allowed d.at)
    void-declared _ _ _ _ (DeclaresArray c b u n d core k f g h r) l e allowed at = absurd (array-void c b n d allowed f (void-declared c u d.node core r l e allowed d.at))
    void-declared _ _ _ _ (DeclaresFunc c u sig ps d core f g h k r) l e allowed at = absurd (function-void c sig d allowed f (void-declared c u d.node core r l e allowed d.at))

    no-base : (b : CType) (ss : List (At Spec)) → ShowsBase p.structures b ss → b ≡ t → ⊥
    no-base _ _ (ShowsVoid b qs ss e r k) f = let g : out-Shape t.shape ≡ shape.Void = ap (λ (u : CType). out-Shape u.shape) (sym f) ∙ e in absurd (cc)
    no-base _ _ (ShowsInt b i qs ss e r k) f = let g : out-Shape t.shape ≡ shape.Int i = ap (λ (u : CType). out-Shape u.shape) (sym f) ∙ e in absurd (cc)
    no-base _ _ (ShowsStructure b i u qs at e g r) f = let h : out-Shape t.shape ≡ shape.Struct i = ap (λ (u : CType). out-Shape u.shape) (sym f) ∙ e in absurd (cc)

    module _ (constant : w.constant ≡ false) (volatile : w.volatile ≡ false) where
      plain-void : (numbered w).constant || (numbered w).volatile ≡ false
      plain-void = ap (λ (c : Bool). c || (numbered w).volatile) (constant-kept number w ∙ constant) ∙ volatile-kept number w ∙ volatile

      void-derived : (k : ℕ) → derived p.target (structures_of s) (layouts_of s) {S = Scope} true (numbered w) (record { at = k; node = pointer_derivation (qualifier_words t.constant t.volatile) } ∷ []) ≡ Ok (numbered t)
      void-derived k =
          ap (λ (b : Bool). fault_or k (broken_unless (not (is_void (numbered w)) || (true && not b)) rule.PointerToVoid) (Ok (derive_one {S = Scope} (pointer_derivation (qualifier_words t.constant t.volatile)) (numbered w)))) plain-void
          ∙ ap (λ (b : Bool). fault_or k (broken_unless (not b || (true && not false)) rule.PointerToVoid) (Ok (derive_one {S = Scope} (pointer_derivation (qualifier_words t.constant t.volatile)) (numbered w)))) (void-numbered number w ∙ ap is_void_shape void)
          ∙ ap (λ (u : CType). Ok u) (pointer-type p number roles sized t w to_void)

      void-by : (b : CType) (ss : List (At Spec)) (d : At Declr) → ShowsBase p.structures b ss → VoidFound d.node (in_type_name true) d.at b → type_name_of p.target roles (record { specs = ss; declr = d }) true s ≡ Ok (numbered t, s)
      void-by b ss d hb (Whole e h) = absurd (no-base b ss hb e)
      void-by b ss d hb (Behind k e h) =
          name-by true b (numbered t) ss d None (record { at = k; node = pointer_derivation (qualifier_words t.constant t.volatile) } ∷ []) hb h
          (ap (λ (u : CType). derived p.target (structures_of s) (layouts_of s) {S = Scope} true (numbered u) (record { at = k; node = pointer_derivation (qualifier_words t.constant t.volatile) } ∷ [])) e ∙ void-derived k)

      void-shown : (u : CType) (type : TypeName) → ShowsTypeName p.structures u type → u ≡ t → type_name_of p.target roles type true s ≡ Ok (numbered t, s)
      void-shown _ _ (NamesType b u ss d hb hd) e = void-by b ss d hb (void-declared b u d.node (Plain None) hd refl e (in_type_name true) d.at)

      pub void-name-found : (type : TypeName) → ShowsTypeName p.structures t type → type_name_of p.target roles type true s ≡ Ok (numbered t, s)
      void-name-found type h = void-shown t type h refl
