-- Declarators declare what they show: from the type of the specifiers outwards, derivation by derivation. Those of parameters
-- leave what is known as it is.
use Rattle.std.proofs.Common.{◌≡◌, ℕ, Bool, true, false, not, ◌||◌, List, [], ◌∷◌, ◌++◌, map, length, Option, Some, None, Ok, refl, ap, sym, ◌∙◌, subst, append_assoc}
use Rattle.std.proofs.lemmas.List.{append-nil}
use Rattle.std.specs.Prelude.{pos}
use Rattle.std.specs.List.{list_all, list_any}
use Rattle.cc_terms.specs.CcTypedTerms.Located.{located}
use Rattle.cc_terms.specs.CcTypedTerms.Parameters.{parameter, parameter_bound}
use Rattle.cc_program.specs.CcNum.declared.int_type.IntType.{IntType}
use Rattle.cc_program.specs.CcNum.declared.target.Target.{Target}
use Rattle.cc_terms.specs.CcOperands.Operands.{Operand, integer, constant_at, number_type}
use Rattle.cc_terms.specs.CcOperands.Qualified.{plain, unqualified}
use Rattle.cc_terms.specs.CcOperands.Verdicts.{Judged, must, judge_then}
use Rattle.cc_terms.specs.CcOperands.declared.rule.Rule.TheVariants as rule
use Rattle.cc_terms.specs.CcTypedTerms.Values.{valued, value_found}
use Rattle.cc_program.specs.declared.expr.Expr.{Expr}
use Rattle.cc_program.specs.declared.expr.Place.{Place}
use Rattle.cc_program.specs.declared.expr.Expr.TheOpen as expr
use Rattle.cc_program.specs.declared.expr.Expr.TheVariants as expr_rolls
use Rattle.cc_program.specs.declared.program.Program.{Program}
use Rattle.cc_program.specs.declared.program.Roles.{Roles}
use Rattle.cc_program.specs.declared.types.CType.{CType}
use Rattle.cc_program.specs.declared.types.Shape.{Shape, Pointer, Array, Func, out-Shape}
use Rattle.cc_program.specs.declared.types.Shape.TheOpen as shape
use Rattle.cc_program.specs.declared.types.Shape.TheVariants.{outs-Pointer, outs-Array, outs-Func}
use Rattle.cc_program.specs.declared.types.Sig.{Sig, out-Sig, roll-Sig, roll-out-Sig}
use Rattle.cc_terms.specs.CcScopes.State.{State, Scope, empty, entered, structures_of, layouts_of}
use Rattle.cc_terms.specs.CcScopes.Verdicts.{Found, whole, and_then}
use Rattle.cc_terms.specs.CcSpecifiers.Bounds.{is_bound, bound_in, bound_judged}
use Rattle.cc_terms.specs.CcSpecifiers.Declarators.{derive_one, breach, function_to, result_breach, broken_unless}
use Rattle.cc_terms.specs.CcSpecifiers.Derivations.{in_parameter, with_derivation, is_next_to_name, suffix_found, says_const, says_volatile, pointer_derivation}
use Rattle.cc_terms.specs.CcSpecifiers.Parameters.{adjusted_by, adjusted, parameter_by, parameter_type}
use Rattle.cc_terms.specs.CcSpecifiers.Places.{JudgedAt, Checked}
use Rattle.cc_terms.specs.CcSpecifiers.Storage.{setting}
use Rattle.cc_terms.specs.CcSpecifiers.declared.attribute.Entity.TheVariants as entity
use Rattle.cc_terms.specs.CcSpecifiers.declared.derivation.Allowed.{Allowed}
use Rattle.cc_terms.specs.CcSpecifiers.declared.derivation.Declarator.{Declarator}
use Rattle.cc_terms.specs.CcSpecifiers.declared.derivation.Derivation.TheVariants as to
use Rattle.cc_terms.specs.CcSpecifiers.declared.derivation.Parameter.{Parameter}
use Rattle.cc_terms.specs.CcSpecifiers.declared.specifier.Specified.{Specified}
use Rattle.cc_terms.specs.CcSpecifiers.declared.storage.Where.TheVariants as stands
use Rattle.cc_terms.specs.CcSyntax.Kinds.{is_plain_scalar, is_sig, extent_in}
use Rattle.cc_terms.specs.CcSyntax.Programs.{kind_in}
use Rattle.cc_terms.specs.CcSyntax.Sizes.{AreSized}
use Rattle.cc_terms.specs.CcSyntax.Values.{is_void}
use Rattle.cc_terms.proofs.CcSyntax.Prefixes.{both_true}
use Rattle.cc_terms.specs.Constants.{enumr_step}
use Rattle.cc_terms.specs.Declarators.{declarator, with_bound, bounded, declr_step, with_scope, params_step, parameter_declared, param_step, type_name_step}
use Rattle.cc_terms.specs.Expressions.{tree_step}
use Rattle.cc_terms.specs.InTurn.{in_turn, one_more}
use Rattle.cc_terms.specs.Meanings.{TreeMeaning, DeclrMeaning, ParamsMeaning, ParamMeaning, SpecMeaning, MembersMeaning, EnumrMeaning, TypeNameMeaning}
use Rattle.cc_terms.specs.Members.{members_step}
use Rattle.cc_terms.specs.Specifiers.{specified_found, spec_step}
use Rattle.cc_terms.specs.Terms.{tree_of, declr_of, params_of, param_of, spec_of, members_of, enumr_of, type_name_of, here, declr_here, spec_here, param_here}
use Rattle.cc_terms.proofs.Arms.{tree_in, tree-out}
use Rattle.cc_tree.specs.declared.at.At.{At}
use Rattle.cc_tree.specs.declared.tree.Declr as declr
use Rattle.cc_tree.specs.declared.tree.Declr.{Declr, out-Declr, map-Declr, fold_out-Declr}
use Rattle.cc_tree.specs.declared.tree.Declr.TheOpen as one
use Rattle.cc_tree.specs.declared.tree.Declr.TheVariants as declr_rolls
use Rattle.cc_tree.specs.declared.tree.Enumr.{Enumr}
use Rattle.cc_tree.specs.declared.tree.MemberDecl.{MemberDecl}
use Rattle.cc_tree.specs.declared.tree.Param.{Param, fold_out-Param}
use Rattle.cc_tree.specs.declared.tree.Params as params
use Rattle.cc_tree.specs.declared.tree.Params.{Params, out-Params, map-Params, fold_out-Params}
use Rattle.cc_tree.specs.declared.tree.Params.TheVariants as params_rolls
use Rattle.cc_tree.specs.declared.tree.Spec.{Spec}
use Rattle.cc_tree.specs.declared.tree.Tree as tree
use Rattle.cc_tree.specs.declared.tree.Tree.{Tree, out-Tree}
use Rattle.cc_tree.specs.declared.tree.Tree.TheVariants as tree_rolls
use Rattle.cc_tree.specs.declared.tree.TypeName.{TypeName}
use Rattle.cc_tree.specs.Tokens.{Name}
use Rattle.cc_expression_trees.specs.Types.{qualifier_words, plain_suffix, Core, Plain, unnamed, ShowsBase, Declares, DeclaresNothing, DeclaresName, DeclaresFunction, InParens, DeclaresPointer, DeclaresArray, DeclaresFunc, ShowsParams, ShowsNone, ShowsSome, ShowsParamList, NoParam, MoreParams}
use Rattle.cc_shown_expressions.specs.Known.{KnowsStructures}
use Rattle.cc_shown_expressions.specs.Numbers.{type_numbered, sig_numbered}
use Rattle.cc_shown_expressions.proofs.Bases.{type-of-fields, shape-of-level, specified-found}
use Rattle.cc_shown_expressions.proofs.Complete.{object-numbered}
use Rattle.cc_shown_expressions.proofs.Derived.{Derivations, Fits, Itself, Further, fits-derived, suffix-function, suffix-array}
use Rattle.cc_shown_expressions.proofs.Kept.{void-numbered}
use Rattle.cc_shown_expressions.proofs.Numbering.{level, shape-level, level-at, constant-kept, volatile-kept, sig-level}
use Rattle.cc_shown_expressions.proofs.Standing.{Stands, ScalarShape, IsInteger, IsPointer, pointed-stands, pointed-not-void, element-is, element-stands, signature-stands, signature-parts, result-stands, result-breaks, scalar-shape, scalar-plain, scalar-stands}

-- ---- the words of a pointer's qualifiers

const-said : (c v : Bool) → list_any says_const (qualifier_words c v) ≡ c
const-said true true = refl
const-said true false = refl
const-said false true = refl
const-said false false = refl

volatile-said : (c v : Bool) → list_any says_volatile (qualifier_words c v) ≡ v
volatile-said true true = refl
volatile-said true false = refl
volatile-said false true = refl
volatile-said false false = refl

-- ---- meanings at a level

module _ (target : Target) (roles : Roles) where
  abbrev pub declr_in : one.Declr-F Declr Params Spec Tree Enumr MemberDecl Param TypeName → DeclrMeaning
  declr_in x = declr_step (map-Declr Declr Params Spec Tree Enumr MemberDecl Param TypeName DeclrMeaning ParamsMeaning SpecMeaning TreeMeaning EnumrMeaning MembersMeaning ParamMeaning TypeNameMeaning (declr_of target roles) (params_of target roles) (spec_of target roles) (tree_of target roles) (enumr_of target roles) (members_of target roles) (param_of target roles) (type_name_of target roles) x)

  declr-out : (x : Declr) → declr_of target roles x ≡ declr_in (out-Declr x)
  unfolding declr_of params_of spec_of tree_of enumr_of members_of param_of type_name_of
  declr-out x = fold_out-Declr DeclrMeaning ParamsMeaning SpecMeaning TreeMeaning EnumrMeaning MembersMeaning ParamMeaning TypeNameMeaning declr_step params_step (spec_step target) (tree_step target roles) (enumr_step target roles) (members_step target) (param_step target roles) (type_name_step target) x

  pub declr-at : (x : Declr) (y : one.Declr-F Declr Params Spec Tree Enumr MemberDecl Param TypeName) → out-Declr x ≡ y → (allowed : Allowed) (at : ℕ) (s : State) → declr_of target roles x allowed at s ≡ declr_in y allowed at s
  declr-at x y e allowed at s = ap (λ (m : DeclrMeaning). m allowed at s) (declr-out x ∙ ap declr_in e)

  abbrev params_in : one.Params-F Declr Params Spec Tree Enumr MemberDecl Param TypeName → ParamsMeaning
  params_in x = params_step (map-Params Declr Params Spec Tree Enumr MemberDecl Param TypeName DeclrMeaning ParamsMeaning SpecMeaning TreeMeaning EnumrMeaning MembersMeaning ParamMeaning TypeNameMeaning (declr_of target roles) (params_of target roles) (spec_of target roles) (tree_of target roles) (enumr_of target roles) (members_of target roles) (param_of target roles) (type_name_of target roles) x)

  params-out : (x : Params) → params_of target roles x ≡ params_in (out-Params x)
  unfolding declr_of params_of spec_of tree_of enumr_of members_of param_of type_name_of
  params-out x = fold_out-Params DeclrMeaning ParamsMeaning SpecMeaning TreeMeaning EnumrMeaning MembersMeaning ParamMeaning TypeNameMeaning declr_step params_step (spec_step target) (tree_step target roles) (enumr_step target roles) (members_step target) (param_step target roles) (type_name_step target) x

  pub params-at : (x : Params) (y : one.Params-F Declr Params Spec Tree Enumr MemberDecl Param TypeName) → out-Params x ≡ y → (unnamed : Bool) (s : State) → params_of target roles x unnamed s ≡ params_in y unnamed s
  params-at x y e unnamed s = ap (λ (m : ParamsMeaning). m unnamed s) (params-out x ∙ ap params_in e)

  pub param-at : (ss : List (At Spec)) (d : At Declr) (unnamed : Bool) (before : List Parameter) (s : State) → param_of target roles (record { specs = ss; declr = d }) unnamed before s
      ≡ and_then (specified_found (setting stands.AsParameter entity.Parameter) (map (spec_here target roles) ss) s) (λ base s.
      declarator in_parameter (declr_here target roles d) s (λ x s. parameter_declared target roles unnamed before base.ctype d.at x s))
  unfolding declr_of params_of spec_of tree_of enumr_of members_of param_of type_name_of
  param-at ss d unnamed before s = ap (λ (m : ParamMeaning). m unnamed before s) (fold_out-Param DeclrMeaning ParamsMeaning SpecMeaning TreeMeaning EnumrMeaning MembersMeaning ParamMeaning TypeNameMeaning declr_step params_step (spec_step target) (tree_step target roles) (enumr_step target roles) (members_step target) (param_step target roles) (type_name_step target) (record { specs = ss; declr = d }))

  number-found : (at n : ℕ) (s : State) → value_found (here target roles (record { at = at; node = tree.Number n (plain_suffix n) })) s ≡ Ok (integer (pos n) (number_type target n (plain_suffix n)), s)
  number-found at n s =
      ap (λ (m : TreeMeaning). and_then (m at s) (λ x s. valued at x s)) (tree-out target roles (tree.Number n (plain_suffix n)) ∙ ap (tree_in target roles) (tree_rolls.outs-Number n (plain_suffix n)))

  bound-is : (n : ℕ) (t : IntType) → is_bound n ≡ true → bound_judged (integer (pos n) t) ≡ Ok n
  bound-is n t h = ap (λ (x : expr.Expr-F Expr Place). bound_in (constant_at x)) (expr_rolls.outs-Const (pos n) t) ∙ ap (λ (b : Bool). must b rule.ArrayBound (Ok n)) h

  -- an array's bound behind a declarator
  pub bound-found : (at k n : ℕ) (allowed : Allowed) (d : Declarator Scope) (s : State) → is_bound n ≡ true →
      bounded at allowed d (Some (here target roles (record { at = k; node = tree.Number n (plain_suffix n) }))) s ≡ Ok (with_derivation at (to.Array (Some n)) d, s)
  bound-found at k n allowed d s h =
      ap (λ (m : Found Operand). and_then m (λ x s. whole at s (with_bound at d x))) (number-found k n s)
      ∙ ap (λ (j : Judged ℕ). whole at s (judge_then j (λ n. Ok (with_derivation at (to.Array (Some n)) d)))) (bound-is n (number_type target n (plain_suffix n)) h)

-- the parameters that a list of them has become
pub data AreParameters (number : ℕ → ℕ) : List (Option Name × CType) → List Parameter → Type 0 where
  NoParameter : AreParameters number [] []
  MoreParameters : (x : Option Name) (t : CType) (at : ℕ) (es : List (Option Name × CType)) (ps : List Parameter) → AreParameters number es ps →
      AreParameters number ((x, t) ∷ es) (record { name = x; ctype = type_numbered number t; at = at } ∷ ps)

module _ (p : Program) (number : ℕ → ℕ) (roles : Roles) (sized : AreSized p.structures p.target) where
  abbrev numbered : CType → CType
  numbered t = type_numbered number t

  -- ---- the type behind a derivation

  pub pointer-type : (c b : CType) → out-Shape c.shape ≡ shape.Pointer b → derive_one {S = Scope} (pointer_derivation (qualifier_words c.constant c.volatile)) (numbered b) ≡ numbered c
  pointer-type c b e =
      type-of-fields (derive_one {S = Scope} (pointer_derivation (qualifier_words c.constant c.volatile)) (numbered b)) (numbered c) (const-said c.constant c.volatile ∙ sym (constant-kept number c)) (volatile-said c.constant c.volatile ∙ sym (volatile-kept number c))
      (shape-of-level (Pointer (numbered b)) (numbered c).shape (outs-Pointer (numbered b) ∙ sym (level-at number c (shape.Pointer b) e)))

  array-type : (c b : CType) (n : ℕ) → out-Shape c.shape ≡ shape.Array b n → c.constant ≡ false → c.volatile ≡ false → derive_one {S = Scope} (to.Array (Some n)) (numbered b) ≡ numbered c
  array-type c b n e f g =
      type-of-fields (plain (Array (numbered b) n)) (numbered c) (sym (constant-kept number c ∙ f)) (sym (volatile-kept number c ∙ g))
      (shape-of-level (Array (numbered b) n) (numbered c).shape (outs-Array (numbered b) n ∙ sym (level-at number c (shape.Array b n) e)))

  abbrev AllPlain : List CType → Type 0
  AllPlain ts = list_all is_plain_scalar (map (kind_in p) ts) ≡ true

  unqualified-is : (t : CType) → is_plain_scalar (kind_in p t) ≡ true → unqualified (numbered t) ≡ numbered t
  unqualified-is t h =
      let q = scalar-plain p t h in
      type-of-fields (unqualified (numbered t)) (numbered t) (sym (constant-kept number t ∙ q.0)) (sym (volatile-kept number t ∙ q.1)) refl

  parameter-types : (ts : List CType) (ps : List Parameter) → AllPlain ts → AreParameters number (unnamed ts) ps → map (λ p. unqualified p.ctype) ps ≡ map numbered ts
  parameter-types [] _ h NoParameter = refl
  parameter-types (t ∷ ts) _ h (MoreParameters x u at es ps r) =
      let q = both_true (is_plain_scalar (kind_in p t)) (list_all is_plain_scalar (map (kind_in p) ts)) h in
      ap (λ (u : CType). u ∷ map (λ (p : Parameter). unqualified p.ctype) ps) (unqualified-is t q.0) ∙ ap (λ us. numbered t ∷ us) (parameter-types ts ps q.1 r)

  signature-is : (sig : Sig) (ps : List Parameter) → map (λ (p : Parameter). unqualified p.ctype) ps ≡ map numbered (out-Sig sig).params → roll-Sig (record { result = numbered (out-Sig sig).result; params = map (λ p. unqualified p.ctype) ps }) ≡ sig_numbered number sig
  signature-is sig ps h = ap (λ us. roll-Sig (record { result = numbered (out-Sig sig).result; params = us })) h ∙ ap roll-Sig (sym (sig-level number sig)) ∙ roll-out-Sig (sig_numbered number sig)

  -- a function with these parameters
  pub function-is : (sig : Sig) (ps : List Parameter) → map (λ (p : Parameter). unqualified p.ctype) ps ≡ map numbered (out-Sig sig).params → function_to (numbered (out-Sig sig).result) ps ≡ plain (Func (sig_numbered number sig))
  function-is sig ps h = ap (λ (g : Sig). plain (Func g)) (signature-is sig ps h)

  function-type : (c : CType) (sig : Sig) (ps : List Parameter) → out-Shape c.shape ≡ shape.Func sig → c.constant ≡ false → c.volatile ≡ false → map (λ (p : Parameter). unqualified p.ctype) ps ≡ map numbered (out-Sig sig).params →
      function_to (numbered (out-Sig sig).result) ps ≡ numbered c
  function-type c sig ps e f g h =
      function-is sig ps h
      ∙ type-of-fields (plain (Func (sig_numbered number sig))) (numbered c) (sym (constant-kept number c ∙ f)) (sym (volatile-kept number c ∙ g))
      (shape-of-level (Func (sig_numbered number sig)) (numbered c).shape (outs-Func (sig_numbered number sig) ∙ sym (level-at number c (shape.Func sig) e)))

  -- ---- a declarator stands behind specifiers of a type that may stand

  pub base-stands : (b t : CType) (d : Declr) (core : Core) → Declares p.structures b d core t → Stands p t → Stands p b
  base-stands _ _ _ _ (DeclaresNothing t) h = h
  base-stands _ _ _ _ (DeclaresName t x) h = h
  base-stands _ _ _ _ (DeclaresFunction t x entries ps at r) h = h
  base-stands _ _ _ _ (InParens b t d core r) h = base-stands b t d.node core r h
  base-stands _ _ _ _ (DeclaresPointer c b t d core e r) h = pointed-stands p c b e (base-stands c t d.node core r h)
  base-stands _ _ _ _ (DeclaresArray c b t n d core at e f g r) h = element-stands p c b n e (base-stands c t d.node core r h)
  base-stands _ _ _ _ (DeclaresFunc c t sig ps d core e f g k r) h =
      result-stands p (kind_in p (out-Sig sig).result) (signature-parts p sig (signature-stands p c sig e (base-stands c t d.node core r h))).0

  -- ---- parameters of an adjusted type

  parameter-level : (t : CType) (x : shape.Shape-F Shape CType Sig) → ScalarShape p x → out-Shape t.shape ≡ level number x → parameter_type t ≡ Ok t
  parameter-level t _ (IsInteger x i f) e =
      let o : out-Shape t.shape ≡ shape.Int i = e ∙ ap (level number) f in
      let a : adjusted t ≡ t = ap (adjusted_by t) o in
      ap (λ (u : CType). parameter_by u (out-Shape u.shape)) a ∙ ap (parameter_by t) o
  parameter-level t _ (IsPointer x to f) e =
      let o : out-Shape t.shape ≡ shape.Pointer (numbered to) = e ∙ ap (level number) f in
      let a : adjusted t ≡ t = ap (adjusted_by t) o in
      ap (λ (u : CType). parameter_by u (out-Shape u.shape)) a ∙ ap (parameter_by t) o

  pub parameter-is : (t : CType) → is_plain_scalar (kind_in p t) ≡ true → parameter_type (numbered t) ≡ Ok (numbered t)
  parameter-is t h = parameter-level (numbered t) (out-Shape t.shape) (scalar-shape p t h) (shape-level number t)

  -- what is known at a place
  abbrev Known : State → Type 0
  Known s = KnowsStructures p number s

  abbrev FitsIn : State → CType → Derivations → CType → Type 0
  FitsIn s b ds t = Fits p.target (structures_of s) (layouts_of s) b ds t

  -- behind specifiers of a type it declares a name with another one
  pub record DeclaredAs (s : State) (d : Declr) (allowed : Allowed) (at : ℕ) (x : Option Name) (b t : CType) : Type 0 where
    pub derivations : Derivations
    pub is : declr_of p.target roles d allowed at s ≡ Ok (record { name = x; derivations = derivations }, s)
    pub fits : FitsIn s (numbered b) derivations t

  -- parameters without names, and their scope, which is empty
  record UnnamedFound (s : State) (ps : Params) (ts : List CType) : Type 0 where
    parameters : List Parameter
    are : AreParameters number (unnamed ts) parameters
    is : params_of p.target roles ps true s ≡ Ok ((parameters, empty), s)

  record UnnamedInTurn (s : State) (before : List Parameter) (ps : List (At Param)) (ts : List CType) : Type 0 where
    parameters : List Parameter
    are : AreParameters number (unnamed ts) parameters
    is : in_turn (λ (p : At ParamMeaning) before s. p.node true before s) (map (param_here p.target roles) ps) before s ≡ Ok (before ++ parameters, s)

  pointer-breaks : (s : State) (b : CType) → is_void b ≡ false → (c v : Bool) → breach p.target (structures_of s) (layouts_of s) {S = Scope} false (numbered b) (to.Pointer c v) ≡ None
  pointer-breaks s b h c v = ap (λ (t : Bool). broken_unless (not t || false) rule.PointerToVoid) (void-numbered number b ∙ h)

  flag-true : (b : Bool) → true || b ≡ true
  flag-true b = refl

  -- one more parameter, of a type that is found
  parameter-one : (s : State) (before : List Parameter) (b t : CType) (at : ℕ) (ds : Derivations) → is_plain_scalar (kind_in p t) ≡ true → FitsIn s (numbered b) ds (numbered t) →
      parameter_declared p.target roles true before (numbered b) at (record { name = None; derivations = ds }) s ≡ Ok (before ++ record { name = None; ctype = numbered t; at = at } ∷ [], s)
  parameter-one s before b t at ds h f =
      ap (λ (j : JudgedAt CType). and_then (located s j) (λ t s. and_then (whole at s (parameter_type t)) (λ t s. one_more before (parameter_bound roles true (length before) (parameter at None t) s None)))) (fits-derived p.target (structures_of s) (layouts_of s) false (numbered b) ds (numbered t) f)
      ∙ ap (λ (j : Judged CType). and_then (whole at s j) (λ t s. one_more before (parameter_bound roles true (length before) (parameter at None t) s None))) (parameter-is t h)

  array-breaks : (s : State) → Known s → (c b : CType) (n : ℕ) → out-Shape c.shape ≡ shape.Array b n → Stands p c → breach p.target (structures_of s) (layouts_of s) {S = Scope} false (numbered b) (to.Array (Some n)) ≡ None
  array-breaks s known c b n e h =
      let k = element-is p c b n e h in
      ap (λ (t : Bool). broken_unless t rule.NoObjectType) (object-numbered p number s known sized b k.kind k.size k.is k.bytes k.small)

  abbrev found_at : At ParamMeaning → List Parameter → State → Found (List Parameter)
  found_at x before s = x.node true before s

  one-name : (x : Option Name) (t u : CType) (es fs : List (Option Name × CType)) → (x, t) ∷ es ≡ (None, u) ∷ fs → (x ≡ None) × (t ≡ u) × (es ≡ fs)
  one-name x t u es fs h =
      let q : ◌≡◌ {A = Option Name × CType} (x, t) (None, u) = cc in
      let r : es ≡ fs = cc in
      (ap (λ (y : Option Name × CType). y.0) q, ap (λ (y : Option Name × CType). y.1) q, r)

  core-name : (x y : Option Name) → Plain x ≡ Plain y → x ≡ y
  core-name x y h = cc

  -- behind its inside
  pointer-found : (s : State) (c b t : CType) (d : At Declr) (x : Option Name) (allowed : Allowed) (at : ℕ) → out-Shape c.shape ≡ shape.Pointer b → is_void b ≡ false → DeclaredAs s d.node allowed d.at x c t →
      DeclaredAs s (declr.Pointer (qualifier_words c.constant c.volatile) d) allowed at x b t
  pointer-found s c b t d x allowed at e v q =
      let words = qualifier_words c.constant c.volatile in
      record {
        derivations = q.derivations ++ record { at = at; node = pointer_derivation words } ∷ [];
        is = declr-at p.target roles (declr.Pointer words d) (one.Pointer words d) (declr_rolls.outs-Pointer words d) allowed at s
            ∙ ap (λ (m : Found (Declarator Scope)). and_then m (λ x s. Ok (with_derivation at (pointer_derivation words) x, s))) q.is;
        fits = Further at (pointer_derivation words) (numbered b) t q.derivations (pointer-breaks s b v (list_any says_const words) (list_any says_volatile words))
            (subst (λ (u : CType). FitsIn s u q.derivations t) (sym (pointer-type c b e)) q.fits);
      }

  array-found : (s : State) (known : Known s) (c b t : CType) (n k : ℕ) (d : At Declr) (x : Option Name) (allowed : Allowed) (at : ℕ) → out-Shape c.shape ≡ shape.Array b n → c.constant ≡ false → c.volatile ≡ false → Stands p c →
      DeclaredAs s d.node allowed d.at x c t → DeclaredAs s (declr.Array d (Some (record { at = k; node = tree.Number n (plain_suffix n) }))) allowed at x b t
  array-found s known c b t n k d x allowed at e f g h q =
      let bound : At Tree = record { at = k; node = tree.Number n (plain_suffix n) } in
      let inner : Declarator Scope = record { name = x; derivations = q.derivations } in
      record {
        derivations = q.derivations ++ record { at = at; node = to.Array (Some n) } ∷ [];
        is = declr-at p.target roles (declr.Array d (Some bound)) (one.Array d (Some bound)) (declr_rolls.outs-Array d (Some bound)) allowed at s
            ∙ ap (λ (m : Found (Declarator Scope)). and_then m (λ x s. and_then (located s (suffix_found false x.derivations)) (λ done s. bounded at allowed x (Some (here p.target roles bound)) s))) q.is
            ∙ ap (λ (j : JudgedAt Checked). and_then (located s j) (λ done s. bounded at allowed inner (Some (here p.target roles bound)) s)) (suffix-array p.target (structures_of s) (layouts_of s) (numbered c) t (numbered b) n q.derivations (level-at number c (shape.Array b n) e) q.fits)
            ∙ bound-found p.target roles at k n allowed inner s (element-is p c b n e h).bound;
        fits = Further at (to.Array (Some n)) (numbered b) t q.derivations (array-breaks s known c b n e h) (subst (λ (u : CType). FitsIn s u q.derivations t) (sym (array-type c b n e f g)) q.fits);
      }

  function-found : (s : State) (c t : CType) (sig : Sig) (ps : Params) (d : At Declr) (x : Option Name) (allowed : Allowed) (at : ℕ) → out-Shape c.shape ≡ shape.Func sig → c.constant ≡ false → c.volatile ≡ false → is_sig p.target (extent_in p.structures p.target) sig ≡ true →
      (flag : (ds : Derivations) → declr_of p.target roles d.node allowed d.at s ≡ Ok (record { name = x; derivations = ds }, s) → allowed.unnamed || not (is_next_to_name ds) ≡ true) →
      DeclaredAs s d.node allowed d.at x c t → UnnamedFound s ps (out-Sig sig).params → DeclaredAs s (declr.Func d ps) allowed at x (out-Sig sig).result t
  function-found s c t sig ps d x allowed at e f g h flag q v =
      let inner : Declarator Scope = record { name = x; derivations = q.derivations } in
      let parts = signature-parts p sig h in
      record {
        derivations = q.derivations ++ record { at = at; node = to.Function v.parameters empty } ∷ [];
        is = declr-at p.target roles (declr.Func d ps) (one.Func d ps) (declr_rolls.outs-Func d ps) allowed at s
            ∙ ap (λ (m : Found (Declarator Scope)). and_then m (λ x s. and_then (located s (suffix_found true x.derivations)) (λ done s. and_then (params_of p.target roles ps (allowed.unnamed || not (is_next_to_name x.derivations)) s) (λ ps s. Ok (with_derivation at (to.Function ps.0 ps.1) x, s))))) q.is
            ∙ ap (λ (j : JudgedAt Checked). and_then (located s j) (λ done s. and_then (params_of p.target roles ps (allowed.unnamed || not (is_next_to_name q.derivations)) s) (λ ps s. Ok (with_derivation at (to.Function ps.0 ps.1) inner, s)))) (suffix-function p.target (structures_of s) (layouts_of s) (numbered c) t q.derivations (sig_numbered number sig) (level-at number c (shape.Func sig) e) q.fits)
            ∙ ap (λ (b : Bool). and_then (params_of p.target roles ps b s) (λ ps s. Ok (with_derivation at (to.Function ps.0 ps.1) inner, s))) (flag q.derivations q.is)
            ∙ ap (λ (m : Found (List Parameter × Scope)). and_then m (λ ps s. Ok (with_derivation at (to.Function ps.0 ps.1) inner, s))) v.is;
        fits = Further at (to.Function v.parameters empty) (numbered (out-Sig sig).result) t q.derivations (ap result_breach (shape-level number (out-Sig sig).result) ∙ result-breaks p number (out-Sig sig).result parts.0)
            (subst (λ (u : CType). FitsIn s u q.derivations t) (sym (function-type c sig v.parameters e f g (parameter-types (out-Sig sig).params v.parameters parts.1 v.are))) q.fits);
      }

  unnamed-flag : (allowed : Allowed) (b : Bool) → allowed.unnamed ≡ true → allowed.unnamed || b ≡ true
  unnamed-flag allowed b h = ap (λ (a : Bool). a || b) h

  many-found : (s : State) (ps : List (At Param)) (ts : List CType) → UnnamedInTurn (entered empty s) [] ps ts → UnnamedFound s (params.Many ps) ts
  many-found s ps ts q = record {
    parameters = q.parameters;
    are = q.are;
    is = params-at p.target roles (params.Many ps) (one.Many ps) (params_rolls.outs-Many ps) true s ∙ ap with_scope q.is;
  }

  turn-found : (s : State) (before : List Parameter) (b t : CType) (ss : List (At Spec)) (d : At Declr) (at : ℕ) (ps : List (At Param)) (ts : List CType) → Known s → ShowsBase p.structures b ss → is_plain_scalar (kind_in p t) ≡ true →
      DeclaredAs s d.node in_parameter d.at None b (numbered t) → ((before : List Parameter) → UnnamedInTurn s before ps ts) → UnnamedInTurn s before (record { at = at; node = record { specs = ss; declr = d } } ∷ ps) (t ∷ ts)
  turn-found s before b t ss d at ps ts known hb h q next =
      let sf = specified-found p number roles s known (setting stands.AsParameter entity.Parameter) b ss hb in
      let one : Parameter = record { name = None; ctype = numbered t; at = d.at } in
      let rest = next (before ++ one ∷ []) in
      record {
        parameters = one ∷ rest.parameters;
        are = MoreParameters None t d.at (unnamed ts) rest.parameters rest.are;
        is = ap (λ (m : Found (List Parameter)). and_then m (in_turn found_at (map (param_here p.target roles) ps)))
            (param-at p.target roles ss d true before s
            ∙ ap (λ (m : Found Specified). and_then m (λ base s. declarator in_parameter (declr_here p.target roles d) s (λ x s. parameter_declared p.target roles true before base.ctype d.at x s))) sf.is
            ∙ ap (λ (m : Found (Declarator Scope)). and_then m (λ x s. parameter_declared p.target roles true before (numbered b) d.at x s)) q.is
            ∙ parameter-one s before b t d.at q.derivations h q.fits)
            ∙ rest.is ∙ ap (λ (xs : List Parameter). Ok (xs, s)) (append_assoc before (one ∷ []) rest.parameters);
      }

  entered-known : (s : State) → Known s → Known (entered empty s)
  entered-known s known = record { tags = known.tags; structures = known.structures; layouts = known.layouts }

  no-types : (ts : List CType) → [] ≡ unnamed ts → ts ≡ []
  no-types [] h = refl
  no-types (t ∷ ts) h = absurd (cc)

  nothing-found : (s : State) (ts : List CType) → ts ≡ [] → UnnamedFound s params.Void ts
  nothing-found s ts h = record {
    parameters = [];
    are = subst (λ (us : List CType). AreParameters number (unnamed us) []) (sym h) NoParameter;
    is = params-at p.target roles params.Void one.Void params_rolls.outs-Void true s;
  }

  nothing-turn : (s : State) (before : List Parameter) (ts : List CType) → ts ≡ [] → UnnamedInTurn s before [] ts
  nothing-turn s before ts h = record {
    parameters = [];
    are = subst (λ (us : List CType). AreParameters number (unnamed us) []) (sym h) NoParameter;
    is = ap (λ (xs : List Parameter). Ok (xs, s)) (sym (append-nil before));
  }

  mutual
    pub declared : (s : State) → Known s → (b t : CType) (d : Declr) (core : Core) (x : Option Name) → Declares p.structures b d core t → core ≡ Plain x → Stands p t → (allowed : Allowed) → allowed.unnamed ≡ true → (at : ℕ) → DeclaredAs s d allowed at x b (numbered t)
    declared s known _ _ _ _ x (DeclaresNothing t) c h allowed u at = record {
      derivations = [];
      is = declr-at p.target roles declr.Nothing one.Nothing declr_rolls.outs-Nothing allowed at s ∙ ap (λ (o : Option Name). Ok (record { name = o; derivations = [] }, s)) (core-name None x c);
      fits = Itself (numbered t);
    }
    declared s known _ _ _ _ x (DeclaresName t y) c h allowed u at = record {
      derivations = [];
      is = declr-at p.target roles (declr.Named y) (one.Declr::Named y) (declr_rolls.outs-Named y) allowed at s ∙ ap (λ (o : Option Name). Ok (record { name = o; derivations = [] }, s)) (core-name (Some y) x c);
      fits = Itself (numbered t);
    }
    declared s known _ _ _ _ x (DeclaresFunction t y entries ps k r) c h allowed u at = absurd (cc)
    declared s known _ _ _ _ x (InParens b t d core r) c h allowed u at =
        let q = declared s known b t d.node core x r c h allowed u d.at in
        record { derivations = q.derivations; is = declr-at p.target roles (declr.Paren d) (one.Declr::Paren d) (declr_rolls.outs-Paren d) allowed at s ∙ q.is; fits = q.fits }
    declared s known _ _ _ _ x (DeclaresPointer c b t d core e r) k h allowed u at =
        pointer-found s c b (numbered t) d x allowed at e (pointed-not-void p c b e (base-stands c t d.node core r h)) (declared s known c t d.node core x r k h allowed u d.at)
    declared s known _ _ _ _ x (DeclaresArray c b t n d core k e f g r) l h allowed u at =
        array-found s known c b (numbered t) n k d x allowed at e f g (base-stands c t d.node core r h) (declared s known c t d.node core x r l h allowed u d.at)
    declared s known _ _ _ _ x (DeclaresFunc c t sig ps d core e f g k r) l h allowed u at =
        let sound = signature-stands p c sig e (base-stands c t d.node core r h) in
        function-found s c (numbered t) sig ps d x allowed at e f g sound (λ ds i. unnamed-flag allowed (not (is_next_to_name ds)) u) (declared s known c t d.node core x r l h allowed u d.at)
        (unnamed-found s known (out-Sig sig).params (unnamed (out-Sig sig).params) ps k refl (signature-parts p sig sound).1)

    unnamed-found : (s : State) → Known s → (ts : List CType) (es : List (Option Name × CType)) (ps : Params) → ShowsParams p.structures es ps → es ≡ unnamed ts → AllPlain ts → UnnamedFound s ps ts
    unnamed-found s known ts _ _ ShowsNone e h = nothing-found s ts (no-types ts e)
    unnamed-found s known ts _ _ (ShowsSome x es ps r) e h = many-found s ps ts (unnamed-turn (entered empty s) (entered-known s known) ts (x ∷ es) ps r e h [])

    unnamed-turn : (s : State) → Known s → (ts : List CType) (es : List (Option Name × CType)) (ps : List (At Param)) → ShowsParamList p.structures es ps → es ≡ unnamed ts → AllPlain ts → (before : List Parameter) → UnnamedInTurn s before ps ts
    unnamed-turn s known ts _ _ NoParam e h before = nothing-turn s before ts (no-types ts e)
    unnamed-turn s known [] _ _ (MoreParams x b t ss d at es ps hb hd hr) e h before = absurd (cc)
    unnamed-turn s known (u ∷ us) _ _ (MoreParams x b t ss d at es ps hb hd hr) e h before =
        let q = one-name x t u es (unnamed us) e in
        let k = both_true (is_plain_scalar (kind_in p u)) (list_all is_plain_scalar (map (kind_in p) us)) h in
        let same : is_plain_scalar (kind_in p t) ≡ true = ap (λ (v : CType). is_plain_scalar (kind_in p v)) q.1 ∙ k.0 in
        subst (λ (v : CType). UnnamedInTurn s before (record { at = at; node = record { specs = ss; declr = d } } ∷ ps) (v ∷ us)) q.1
        (turn-found s before b t ss d at ps us known hb same (declared s known b t d.node (Plain x) None hd (ap Plain q.0) (scalar-stands p (kind_in p t) same) in_parameter refl d.at)
        (λ before. unnamed-turn s known us es ps hr q.2 k.1 before))
