-- Declarations of types that no structure stands in: they show the same over no structures at all.
use Rattle.std.proofs.Common.{◌≡◌, Bool, true, false, List, [], ◌∷◌, Option, refl, ap, sym, ◌∙◌, subst}
use Rattle.cc_expression_trees.specs.Types.{Core, Plain, Function, ShowsBase, ShowsVoid, ShowsInt, ShowsStructure, Declares, DeclaresNothing, DeclaresName, DeclaresFunction, InParens, DeclaresPointer, DeclaresArray, DeclaresFunc, ShowsParams, ShowsNone, ShowsSome, ShowsParamList, NoParam, MoreParams}
use Rattle.cc_program.specs.declared.types.CType.{CType}
use Rattle.cc_program.specs.declared.types.Shape.{Shape, out-Shape}
use Rattle.cc_program.specs.declared.types.Shape.TheOpen as shape
use Rattle.cc_program.specs.declared.types.Sig.{Sig}
use Rattle.cc_program.specs.declared.types.Structure.{Structure}
use Rattle.cc_tree.specs.Tokens.{Name}
use Rattle.cc_tree.specs.declared.at.At.{At}
use Rattle.cc_tree.specs.declared.tree.Declr.{Declr}
use Rattle.cc_tree.specs.declared.tree.Param.{Param}
use Rattle.cc_tree.specs.declared.tree.Params.{Params}
use Rattle.cc_tree.specs.declared.tree.Spec.{Spec}

abbrev is_basic_shape : shape.Shape-F Shape CType Sig → Bool
is_basic_shape shape.Void = true
is_basic_shape (shape.Int i) = true
is_basic_shape (shape.Pointer to) = false
is_basic_shape (shape.Array of n) = false
is_basic_shape (shape.Struct i) = false
is_basic_shape (shape.Func sig) = false

abbrev pub IsBasic : CType → Type 0
IsBasic t = is_basic_shape (out-Shape t.shape) ≡ true

-- by its shape it is another type
derived : (c t : CType) (x : shape.Shape-F Shape CType Sig) → out-Shape c.shape ≡ x → is_basic_shape x ≡ false → c ≡ t → IsBasic t → ⊥
derived c t x e h same basic =
    let k : is_basic_shape (out-Shape c.shape) ≡ true = subst IsBasic (sym same) basic in
    let g : true ≡ false = sym k ∙ ap is_basic_shape e ∙ h in
    absurd (cc)

pub base-same : (structures : List Structure) (b t : CType) (d : Declr) (core : Core) → Declares structures b d core t → IsBasic t → b ≡ t
base-same structures _ _ _ _ (DeclaresNothing t) basic = refl
base-same structures _ _ _ _ (DeclaresName t x) basic = refl
base-same structures _ _ _ _ (DeclaresFunction t x es ps at r) basic = refl
base-same structures _ _ _ _ (InParens b t d core r) basic = base-same structures b t d.node core r basic
base-same structures _ _ _ _ (DeclaresPointer c b t d core e r) basic = absurd (derived c t (shape.Pointer b) e refl (base-same structures c t d.node core r basic) basic)
base-same structures _ _ _ _ (DeclaresArray c b t n d core at e f g r) basic = absurd (derived c t (shape.Array b n) e refl (base-same structures c t d.node core r basic) basic)
base-same structures _ _ _ _ (DeclaresFunc c t sig ps d core e f g k r) basic = absurd (derived c t (shape.Func sig) e refl (base-same structures c t d.node core r basic) basic)

pub base-alone : (structures : List Structure) (b : CType) (ss : List (At Spec)) → ShowsBase structures b ss → IsBasic b → ShowsBase [] b ss
base-alone structures _ _ (ShowsVoid b qs ss e r k) basic = ShowsVoid b qs ss e r k
base-alone structures _ _ (ShowsInt b i qs ss e r k) basic = ShowsInt b i qs ss e r k
base-alone structures _ _ (ShowsStructure b i s qs at e f r) basic = absurd (let g : false ≡ true = sym (ap is_basic_shape e) ∙ basic in cc)

-- of an object or a parameter
plain-alone : (structures : List Structure) (b t : CType) (d : Declr) (core : Core) (x : Option Name) → Declares structures b d core t → core ≡ Plain x → IsBasic t → Declares [] b d core t
plain-alone structures _ _ _ _ x (DeclaresNothing t) c basic = DeclaresNothing t
plain-alone structures _ _ _ _ x (DeclaresName t y) c basic = DeclaresName t y
plain-alone structures _ _ _ _ x (DeclaresFunction t y es ps at r) c basic = absurd (cc)
plain-alone structures _ _ _ _ x (InParens b t d core r) c basic = InParens b t d core (plain-alone structures b t d.node core x r c basic)
plain-alone structures _ _ _ _ x (DeclaresPointer k b t d core e r) c basic = absurd (derived k t (shape.Pointer b) e refl (base-same structures k t d.node core r basic) basic)
plain-alone structures _ _ _ _ x (DeclaresArray k b t n d core at e f g r) c basic = absurd (derived k t (shape.Array b n) e refl (base-same structures k t d.node core r basic) basic)
plain-alone structures _ _ _ _ x (DeclaresFunc k t sig ps d core e f g l r) c basic = absurd (derived k t (shape.Func sig) e refl (base-same structures k t d.node core r basic) basic)

abbrev pub AllBasic : List (Option Name × CType) → Type 0
AllBasic [] = Unit {0}
AllBasic (e ∷ es) = IsBasic e.1 × AllBasic es

list-alone : (structures : List Structure) (es : List (Option Name × CType)) (ps : List (At Param)) → ShowsParamList structures es ps → AllBasic es → ShowsParamList [] es ps
list-alone structures _ _ NoParam basic = NoParam
list-alone structures _ _ (MoreParams x b t ss d at es ps hb hd r) basic =
    MoreParams x b t ss d at es ps (base-alone structures b ss hb (subst IsBasic (sym (base-same structures b t d.node (Plain x) hd basic.0)) basic.0)) (plain-alone structures b t d.node (Plain x) x hd refl basic.0)
    (list-alone structures es ps r basic.1)

params-alone : (structures : List Structure) (es : List (Option Name × CType)) (ps : Params) → ShowsParams structures es ps → AllBasic es → ShowsParams [] es ps
params-alone structures _ _ ShowsNone basic = ShowsNone
params-alone structures _ _ (ShowsSome e es ps r) basic = ShowsSome e es ps (list-alone structures (e ∷ es) ps r basic)

entries-same : (x y : Name) (es fs : List (Option Name × CType)) → Function y fs ≡ Function x es → es ≡ fs
entries-same x y es fs h = cc

pub function-alone : (structures : List Structure) (b t : CType) (d : Declr) (core : Core) (x : Name) (es : List (Option Name × CType)) → Declares structures b d core t → core ≡ Function x es → IsBasic t → AllBasic es → Declares [] b d core t
function-alone structures _ _ _ _ x es (DeclaresNothing t) c basic all = absurd (cc)
function-alone structures _ _ _ _ x es (DeclaresName t y) c basic all = absurd (cc)
function-alone structures _ _ _ _ x es (DeclaresFunction t y fs ps at r) c basic all = DeclaresFunction t y fs ps at (params-alone structures fs ps r (subst AllBasic (entries-same x y es fs c) all))
function-alone structures _ _ _ _ x es (InParens b t d core r) c basic all = InParens b t d core (function-alone structures b t d.node core x es r c basic all)
function-alone structures _ _ _ _ x es (DeclaresPointer k b t d core e r) c basic all = absurd (derived k t (shape.Pointer b) e refl (base-same structures k t d.node core r basic) basic)
function-alone structures _ _ _ _ x es (DeclaresArray k b t n d core at e f g r) c basic all = absurd (derived k t (shape.Array b n) e refl (base-same structures k t d.node core r basic) basic)
function-alone structures _ _ _ _ x es (DeclaresFunc k t sig ps d core e f g l r) c basic all = absurd (derived k t (shape.Func sig) e refl (base-same structures k t d.node core r basic) basic)
