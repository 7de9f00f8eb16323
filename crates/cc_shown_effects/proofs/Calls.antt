-- Trees that show calls of a program are typed to them: what is called is a function or a register, and its parameters take the
-- arguments.
use Rattle.std.proofs.Common.{◌≡◌, ℕ, Bool, true, false, not, ◌&&◌, List, [], ◌∷◌, map, Option, Some, None, Ok, refl, ap, sym, ◌∙◌, subst, slice_get}
use Rattle.std.specs.Prelude.{option_map, if◌then◌else◌}
use Rattle.std.specs.List.{list_all}
use Rattle.std.specs.Option.{is_some}
use Rattle.cc_typed_bodies.specs.CcDesignators.Calls.{passed, result_of}
use Rattle.cc_typed_bodies.specs.CcDesignators.Designators.{TypedExpr, IsValue}
use Rattle.cc_typed_bodies.specs.CcOperands.Operands.{Operand, operand}
use Rattle.cc_typed_bodies.specs.CcOperands.Verdicts.{Judged, judge_then}
use Rattle.cc_typed_bodies.specs.CcTypedTerms.Values.{gives}
use Rattle.cc_program.specs.declared.expr.Expr.{Expr, Call, out-Expr}
use Rattle.cc_program.specs.declared.expr.Expr.TheOpen as one
use Rattle.cc_program.specs.declared.expr.Intr.{Intr}
use Rattle.cc_program.specs.declared.expr.Place.{Place, out-Place}
use Rattle.cc_program.specs.declared.func.Func.{Func}
use Rattle.cc_program.specs.declared.program.Program.{Program}
use Rattle.cc_program.specs.declared.types.CType.{CType}
use Rattle.cc_program.specs.declared.types.Shape.{Shape, out-Shape}
use Rattle.cc_program.specs.declared.types.Shape.TheOpen as shape
use Rattle.cc_program.specs.declared.types.Sig.{Sig, out-Sig}
use Rattle.cc_typed_bodies.specs.CcScopes.State.{State}
use Rattle.cc_typed_bodies.specs.CcScopes.Verdicts.{Found, and_then}
use Rattle.cc_typed_bodies.specs.CcSyntax.Effects.{Effects, PlaceEffects, no_one, is_soft, place_effects_of}
use Rattle.cc_typed_bodies.specs.CcSyntax.Programs.{type_of, place_type, kind_in}
use Rattle.cc_typed_bodies.specs.CcSyntax.Forms.{form_at, form_of}
use Rattle.cc_typed_bodies.specs.CcSyntax.Kinds.{is_plain_scalar}
use Rattle.cc_typed_bodies.specs.CcSyntax.Normal.{is_operand, is_callee, is_register_place}
use Rattle.cc_typed_bodies.specs.CcSyntax.Operators.{is_handler, function_type, call_type}
use Rattle.cc_typed_bodies.specs.CcSyntax.Sizes.{AreSized}
use Rattle.cc_typed_bodies.specs.CcSyntax.Sound.{IsSound, IsFunc}
use Rattle.cc_typed_bodies.specs.CcSyntax.Types.{Named}
use Rattle.cc_typed_bodies.specs.CcSyntax.Values.{ValueType, NoValue, Integer, ToObject, ToFunction, PlaceType, object_place, scalar_shape, pointer_shape, pointer_to, read_from, result_value, are_assignable}
use Rattle.cc_typed_bodies.proofs.CcSyntax.Parts.{all_at}
use Rattle.cc_typed_bodies.specs.CcTerms.Expressions.{arguments_found}
use Rattle.cc_typed_bodies.specs.CcTerms.Operations.{callee, callee_by, call_judged}
use Rattle.cc_typed_bodies.specs.CcTerms.Terms.{tree_of, here}
use Rattle.cc_tree.specs.declared.at.At.{At}
use Rattle.cc_tree.specs.declared.tree.Declr.TheOpen as trees
use Rattle.cc_tree.specs.declared.tree.Tree as tree
use Rattle.cc_tree.specs.declared.tree.Tree.{Tree}
use Rattle.cc_tree.specs.declared.tree.Tree.TheVariants as tree_rolls
use Rattle.cc_bodies.specs.Stmts.{parameters_of}
use Rattle.cc_expression_trees.specs.Exprs.{ShowsExpr}
use Rattle.cc_unit_trees.specs.Effects.{ShowsArguments}
use Rattle.cc_shown_effects.proofs.Arguments.{ArgumentsFound, arguments-found}
use Rattle.cc_shown_expressions.proofs.Shown.{expr-shown}
use Rattle.cc_shown_expressions.specs.KnownNames.{KnowsNames, TypesStand}
use Rattle.cc_shown_expressions.specs.Normal.{HasOperand}
use Rattle.cc_shown_expressions.specs.OperationNumbers.{Numbers, expr_numbered}
use Rattle.cc_shown_expressions.specs.Typed.{operand_of, IsTypedAs}
use Rattle.cc_shown_expressions.proofs.Fits.{object-place-fits}
use Rattle.cc_shown_expressions.proofs.Levels.{one-is, when-is, type-at, place-at, effects-at, place-effects-at, folded-at, place-folding-at, expr-at}
use Rattle.cc_shown_expressions.proofs.Trees.{tree-at}
use Rattle.cc_shown_expressions.specs.Numbers.{type_numbered, value_numbered}
use Rattle.cc_shown_expressions.proofs.Kept.{result-at}
use Rattle.cc_shown_expressions.proofs.Numbering.{sig-level}
use Rattle.cc_shown_expressions.proofs.Standing.{pointed-stands, signature-stands, signature-parts}

-- ---- lists and options

all-mapped : {A B : Type 0} → (test : B → Bool) (g : A → B) (xs : List A) → list_all test (map g xs) ≡ list_all (λ x. test (g x)) xs
all-mapped test g [] = refl
all-mapped test g (x ∷ xs) = ap (λ (b : Bool). test (g x) && b) (all-mapped test g xs)

chosen-is : {A : Type 0} → (b : Bool) (o : Option A) (x : A) → (if b then o else None) ≡ Some x → (b ≡ true) × (o ≡ Some x)
chosen-is true o x h = (refl, h)
chosen-is false o x h = absurd (cc)

soft-register : (o : Option ℕ) → is_some o ≡ true → is_soft o no_one ≡ true
soft-register None h = absurd (cc)
soft-register (Some r) h = refl

-- a pointer to a function, by what it points to
function-level : (t : CType) (x : shape.Shape-F Shape CType Sig) (sig : Sig) → pointer_shape t x ≡ ToFunction sig → x ≡ shape.Func sig
function-level t (shape.Func s) sig h = let e : s ≡ sig = cc in ap (λ (s : Sig). shape.Func s) e
function-level t shape.Void sig h = absurd (cc)
function-level t (shape.Int i) sig h = absurd (cc)
function-level t (shape.Pointer to) sig h = absurd (cc)
function-level t (shape.Array of n) sig h = absurd (cc)
function-level t (shape.Struct i) sig h = absurd (cc)

module _ (p : Program) (f : Func) (sound : IsSound p) (stand : TypesStand p f) where
  abbrev plain_scalar : CType → Bool
  plain_scalar t = is_plain_scalar (kind_in p t)

  pub record CalleeParts (g : Expr) (sig : Sig) : Type 0 where
    pub operand : HasOperand p f g (ToFunction sig)
    pub parameters : list_all (λ t. is_plain_scalar (kind_in p t)) (out-Sig sig).params ≡ true

  function-callee : (g : Expr) (i : ℕ) (sig : Sig) (o : Option Func) → out-Expr g ≡ one.FuncAddr i → slice_get p.funcs i ≡ o → function_type o ≡ Some (ToFunction sig) → type_of p f.locals g ≡ Some (ToFunction sig) → CalleeParts g sig
  function-callee g i sig None h there k t = absurd (cc)
  function-callee g i sig (Some c) h there k t =
      let w = when-is (not (is_handler c)) (ToFunction c.sig) (ToFunction sig) k in
      let typed : ToFunction sig ≡ ToFunction c.sig = w.1 in
      let same : c.sig ≡ sig = cc in
      record {
        operand = record { typed = t; scalar = refl; pure = ap (λ (e : Effects). e.pure no_one) (effects-at p f g (one.FuncAddr i) h); folded = folded-at p.target g (one.FuncAddr i) h };
        parameters = subst (λ (s : Sig). list_all plain_scalar (out-Sig s).params ≡ true) same (all_at (IsFunc p) p.funcs i c there sound.funcs).parameters;
      }

  pointer-parameters : (l : Named) (x : shape.Shape-F Shape CType Sig) (sig : Sig) → is_some (kind_in p l.1) ≡ true → out-Shape l.1.shape ≡ x → scalar_shape x ≡ Some (ToFunction sig) → list_all plain_scalar (out-Sig sig).params ≡ true
  pointer-parameters l (shape.Pointer to) sig k e h =
      let same : pointer_to to ≡ ToFunction sig = cc in
      let inner = pointed-stands p l.1 to e k in
      sym (all-mapped is_plain_scalar (kind_in p) (out-Sig sig).params) ∙ (signature-parts p sig (signature-stands p to sig (function-level to (out-Shape to.shape) sig same) inner)).1
  pointer-parameters l (shape.Int i) sig k e h = absurd (cc)
  pointer-parameters l shape.Void sig k e h = absurd (cc)
  pointer-parameters l (shape.Array of n) sig k e h = absurd (cc)
  pointer-parameters l (shape.Struct i) sig k e h = absurd (cc)
  pointer-parameters l (shape.Func s) sig k e h = absurd (cc)

  local-parameters : (r : ℕ) (o : Option Named) (sig : Sig) (t : PlaceType) → slice_get f.locals r ≡ o → option_map (λ (l : Named). object_place l.1) o ≡ Some t → read_from t ≡ Some (ToFunction sig) → list_all plain_scalar (out-Sig sig).params ≡ true
  local-parameters r None sig t there k h = absurd (cc)
  local-parameters r (Some l) sig t there k h =
      let e : object_place l.1 ≡ t = cc in
      pointer-parameters l (out-Shape l.1.shape) sig (object-place-fits p l.1 (stand.locals r l there)).1 refl (subst (λ (q : PlaceType). read_from q ≡ Some (ToFunction sig)) (sym e) h)

  register-callee : (g : Expr) (a : Place) (y : one.Place-F Expr Place) (sig : Sig) → out-Expr g ≡ one.Load a → out-Place a ≡ y → is_register_place p.target f a ≡ true → type_of p f.locals g ≡ Some (ToFunction sig) → CalleeParts g sig
  register-callee g a (one.Local r) sig h e register t =
      let q = one-is (place_type p f.locals a) read_from (ToFunction sig) (sym (type-at p f g (one.Load a) h) ∙ t) in
      record {
        operand = record {
          typed = t;
          scalar = refl;
          pure = ap (λ (e : Effects). e.pure no_one) (effects-at p f g (one.Load a) h) ∙ soft-register (place_effects_of f a).register register;
          folded = folded-at p.target g (one.Load a) h ∙ place-folding-at p.target a (one.Local r) e;
        };
        parameters = local-parameters r (slice_get f.locals r) sig q.0 refl (sym (place-at p f a (one.Local r) e) ∙ q.1) q.2;
      }
  register-callee g a (one.Static i) sig h e register t = let z : true ≡ false = sym register ∙ ap (λ (q : PlaceEffects). is_some q.register) (place-effects-at p f a (one.Static i) e) in absurd (cc)
  register-callee g a (one.Device i) sig h e register t = let z : true ≡ false = sym register ∙ ap (λ (q : PlaceEffects). is_some q.register) (place-effects-at p f a (one.Device i) e) in absurd (cc)
  register-callee g a (one.Element b i) sig h e register t = let z : true ≡ false = sym register ∙ ap (λ (q : PlaceEffects). is_some q.register) (place-effects-at p f a (one.Element b i) e) in absurd (cc)
  register-callee g a (one.Member b i) sig h e register t = let z : true ≡ false = sym register ∙ ap (λ (q : PlaceEffects). is_some q.register) (place-effects-at p f a (one.Member b i) e) in absurd (cc)
  register-callee g a (one.Deref b) sig h e register t = let z : true ≡ false = sym register ∙ ap (λ (q : PlaceEffects). is_some q.register) (place-effects-at p f a (one.Deref b) e) in absurd (cc)

  callee-by : (g : Expr) (y : one.Expr-F Expr Place) (sig : Sig) → out-Expr g ≡ y → is_callee p.target f (form_at y) ≡ true → type_of p f.locals g ≡ Some (ToFunction sig) → CalleeParts g sig
  callee-by g (one.FuncAddr i) sig h k t = function-callee g i sig (slice_get p.funcs i) h refl (sym (type-at p f g (one.FuncAddr i) h) ∙ t) t
  callee-by g (one.Load a) sig h k t = register-callee g a (out-Place a) sig h refl k t
  callee-by g _ sig h k t = absurd (cc)

  pub callee-parts : (g : Expr) (sig : Sig) → is_callee p.target f (form_of g) ≡ true → type_of p f.locals g ≡ Some (ToFunction sig) → CalleeParts g sig
  callee-parts g sig k t = callee-by g (out-Expr g) sig refl k t

  -- ---- the type of a call

  pub record CallParts (g : Expr) (args : List Expr) (v : ValueType) : Type 0 where
    pub sig : Sig
    pub typed : type_of p f.locals g ≡ Some (ToFunction sig)
    pub assignable : are_assignable (out-Sig sig).params (map (type_of p f.locals) args) ≡ true
    pub result : result_value (out-Sig sig).result ≡ Some v

  call-by : (g : Expr) (args : List Expr) (v c : ValueType) → type_of p f.locals g ≡ Some c → call_type c (map (type_of p f.locals) args) ≡ Some v → CallParts g args v
  call-by g args v NoValue t h = absurd (cc)
  call-by g args v (Integer i) t h = absurd (cc)
  call-by g args v (ToObject a b u) t h = absurd (cc)
  call-by g args v (ToFunction sig) t h =
      let q = chosen-is (are_assignable (out-Sig sig).params (map (type_of p f.locals) args)) (result_value (out-Sig sig).result) v h in
      record { sig = sig; typed = t; assignable = q.0; result = q.1 }

  pub call-parts : (e g : Expr) (args : List Expr) (v : ValueType) → out-Expr e ≡ one.Call g args → type_of p f.locals e ≡ Some v → CallParts g args v
  call-parts e g args v h t =
      let q = one-is (type_of p f.locals g) (λ c. call_type c (map (type_of p f.locals) args)) v (sym (type-at p f e (one.Call g args) h) ∙ t) in
      call-by g args v q.0 q.1 q.2

  -- ---- a call

  module _ (n : Numbers) (sized : AreSized p.structures p.target) (s : State) (names : KnowsNames p f n s) where
    call-tree : (e g : Expr) (args : List Expr) (v : ValueType) (sig : Sig) (x : At Tree) (xs : List (At Tree)) (at : ℕ) → out-Expr e ≡ one.Call g args → result_value (out-Sig sig).result ≡ Some v → (q : IsTypedAs p n s x.node x.at g (ToFunction sig)) →
        (a : ArgumentsFound p f n sized stand s names (out-Sig sig).params args xs) → tree_of p.target p.roles (tree.Call x xs) at s ≡ Ok (IsValue (operand (expr_numbered n e) (value_numbered n.structure v)), s)
    call-tree e g args v sig x xs at h result q a =
        let called = operand_of p n g (ToFunction sig) in
        let next = λ (y : TypedExpr) (s : State). and_then (arguments_found (map (here p.target p.roles) xs) s) (λ ys s. gives at s (call_judged p.target y ys)) in
        tree-at p n s (tree.Call x xs) (trees.Call x xs) (tree_rolls.outs-Call x xs) at
        ∙ ap (λ (r : Found TypedExpr). and_then r (λ y s. and_then (callee x.at y s) next)) q.is
        ∙ ap (λ (i : Option Intr). and_then (callee_by x.at q.found s i) next) q.intrinsic
        ∙ ap (λ (r : Found Operand). and_then (and_then r (λ y s. Ok (IsValue y, s))) next) (q.value x.at)
        ∙ ap (λ (r : Found (List Operand)). and_then r (λ ys s. gives at s (call_judged p.target (IsValue called) ys))) (a.is [])
        ∙ ap (λ (y : shape.Sig-F Shape CType Sig). gives at s (judge_then (passed p.target y.params a.operands) (λ es. result_of (Call (expr_numbered n g) es) (result_value y.result)))) (sig-level n.structure sig)
        ∙ ap (λ (j : Judged (List Expr)). gives at s (judge_then j (λ es. result_of (Call (expr_numbered n g) es) (result_value (type_numbered n.structure (out-Sig sig).result))))) a.passed
        ∙ ap (λ (o : Option ValueType). gives at s (result_of (Call (expr_numbered n g) (map (expr_numbered n) args)) o)) (result-at n.structure (out-Sig sig).result v result)
        ∙ ap (λ (z : Expr). Ok (IsValue (operand z (value_numbered n.structure v)), s)) (sym (expr-at n e (one.Call g args) h))

    pub call-shown : (e g : Expr) (args : List Expr) (v : ValueType) (x : At Tree) (xs : List (At Tree)) (at : ℕ) → out-Expr e ≡ one.Call g args → type_of p f.locals e ≡ Some v → ShowsExpr p f g x.node → ShowsArguments p f (parameters_of (type_of p f.locals g)) args xs →
        is_callee p.target f (form_of g) ≡ true → list_all (is_operand p.target f) args ≡ true → tree_of p.target p.roles (tree.Call x xs) at s ≡ Ok (IsValue (operand (expr_numbered n e) (value_numbered n.structure v)), s)
    call-shown e g args v x xs at h t shown passed callee operands =
        let q = call-parts e g args v h t in
        let c = callee-parts g q.sig callee q.typed in
        call-tree e g args v q.sig x xs at h q.result (expr-shown p f n s sized names stand g x.node shown x.at (ToFunction q.sig) c.operand).typed
        (arguments-found p f n sized stand s names (out-Sig q.sig).params args xs (subst (λ (ts : List CType). ShowsArguments p f ts args xs) (ap parameters_of q.typed) passed) operands q.assignable c.parameters)
