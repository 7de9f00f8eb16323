-- Trees of `=` that show assignments of a program are typed to them: the place, then the right side behind what the place has
-- declared.
use Rattle.std.proofs.Common.{◌≡◌, ℕ, zero, suc, Bool, true, false, ◌&&◌, ◌||◌, List, [], ◌∷◌, ◌++◌, Option, Some, None, Ok, refl, ap, sym, ◌∙◌, subst, slice_get}
use Rattle.cc_bodies.specs.Stmts.{taker}
use Rattle.cc_typed_bodies.specs.CcDesignators.Assignments.{assign_of}
use Rattle.cc_typed_bodies.specs.CcDesignators.Designators.{TypedExpr, IsPlace, IsValue, loaded, value_at}
use Rattle.cc_typed_bodies.specs.CcLex.declared.token.Mark.{Mark}
use Rattle.cc_typed_bodies.specs.CcLex.declared.token.Mark.TheVariants as m
use Rattle.cc_shown_expressions.specs.Assigned.{AssignedAs}
use Rattle.cc_shown_expressions.proofs.ChoiceRules.{assign-rule}
use Rattle.cc_typed_bodies.specs.CcOperands.Assignments.{stored_at}
use Rattle.cc_typed_bodies.specs.CcOperands.Operands.{Operand, operand, constant_at, is_zero_constant, is_to_void, is_null_at, is_null_constant}
use Rattle.cc_typed_bodies.specs.CcOperands.Verdicts.{Judged, judge_then}
use Rattle.cc_typed_bodies.specs.CcTypedTerms.Primary.{linked, designates, named_by, named, intrinsic_named}
use Rattle.cc_typed_bodies.specs.CcTypedTerms.Values.{designating, gives, valued, value_found}
use Rattle.cc_program.specs.declared.expr.Expr.{Expr, Load, Assign, out-Expr}
use Rattle.cc_program.specs.declared.expr.Expr.TheOpen as one
use Rattle.cc_program.specs.declared.expr.Expr.TheVariants as expr_rolls
use Rattle.cc_program.specs.declared.expr.Intr.{Intr}
use Rattle.cc_program.specs.declared.expr.Place.{Place}
use Rattle.cc_program.specs.declared.func.Func.{Func}
use Rattle.cc_program.specs.declared.program.Program.{Program}
use Rattle.cc_program.specs.declared.program.Roles.{Roles}
use Rattle.cc_program.specs.declared.types.CType.{CType}
use Rattle.cc_program.specs.declared.types.Shape.{Shape, out-Shape}
use Rattle.cc_program.specs.declared.types.Shape.TheOpen as shape
use Rattle.cc_program.specs.declared.types.Sig.{Sig}
use Rattle.cc_typed_bodies.specs.CcScopes.State.{State, Name, designated, with_declared, structures_of}
use Rattle.cc_typed_bodies.specs.CcScopes.Verdicts.{Found, whole, and_then}
use Rattle.cc_typed_bodies.specs.CcScopes.declared.designated.Designated.{Designated}
use Rattle.cc_typed_bodies.specs.CcScopes.declared.designated.Designated.TheVariants as means
use Rattle.cc_typed_bodies.specs.CcScopes.declared.unit.Declared.{Declared}
use Rattle.cc_typed_bodies.specs.CcSyntax.Sizes.{AreSized}
use Rattle.cc_typed_bodies.specs.CcSyntax.Sound.{IsSound}
use Rattle.cc_typed_bodies.specs.CcSyntax.Values.{ValueType, Integer, PlaceType, DevicePlace, ObjectPlace, FunctionPlace, scalar_shape, scalar_value, pointer_to, read_from, written_to, is_assignable}
use Rattle.cc_typed_bodies.specs.CcTerms.Terms.{tree_of, here}
use Rattle.cc_tree.specs.declared.at.At.{At}
use Rattle.cc_tree.specs.declared.tree.Declr.TheOpen as trees
use Rattle.cc_tree.specs.declared.tree.Tree as tree
use Rattle.cc_tree.specs.declared.tree.Tree.{Tree}
use Rattle.cc_tree.specs.declared.tree.Tree.TheVariants as tree_rolls
use Rattle.cc_expression_trees.specs.Exprs.{IsBinary, AnOperation, AMovement, ADifference, AComparison, ABoth, AnEither, ShowsExpr, InParens, ShowsConstant, ShowsNarrow, ShowsNull, ShowsFunction, ShowsRead, ShowsAddress, ShowsUnary, ShowsConversion, ShowsQualified, ShowsBinary, ShowsChoice, ShowsPlace, ShowsValue, ValueInParens, ValueOf, NarrowValue, NullValue}
use Rattle.cc_shown_effects.specs.Accesses.{Accesses, NoneNumbered, Known, First}
use Rattle.cc_shown_effects.specs.Taken.{IsTakenFrom}
use Rattle.cc_shown_effects.proofs.Devices.{place-accessed}
use Rattle.cc_shown_expressions.proofs.Constants.{paren-tree}
use Rattle.cc_shown_expressions.specs.Taken.{IsTakenAs}
use Rattle.cc_shown_expressions.proofs.Shown.{place-shown}
use Rattle.cc_shown_expressions.proofs.Values.{value-taken}
use Rattle.cc_shown_expressions.specs.Fits.{FitsValue, FitsPlace}
use Rattle.cc_shown_expressions.specs.KnownNames.{KnowsNames, TypesStand}
use Rattle.cc_shown_expressions.specs.Normal.{HasOperand, HasPlace}
use Rattle.cc_shown_expressions.specs.OperationNumbers.{Numbers, expr_numbered, place_numbered}
use Rattle.cc_shown_expressions.proofs.Fits.{read-fits}
use Rattle.cc_shown_expressions.proofs.Levels.{expr-at}
use Rattle.cc_shown_expressions.proofs.Trees.{tree-at}
use Rattle.cc_shown_expressions.specs.Known.{KnowsStructures}
use Rattle.cc_shown_expressions.specs.Numbers.{value_numbered, place_type_numbered}
use Rattle.cc_shown_expressions.proofs.Kept.{read-at, written-at, assignable-numbered}

-- ---- what is known stays known where one thing more is declared

stays-there : {A : Type 0} → (xs ys : List A) (i : ℕ) (x : A) → slice_get xs i ≡ Some x → slice_get (xs ++ ys) i ≡ Some x
stays-there [] ys i x h = absurd (cc)
stays-there (y ∷ xs) ys zero x h = h
stays-there (y ∷ xs) ys (suc i) x h = stays-there xs ys i x h

linked-by : (names : List Declared) (d : Declared) (i : ℕ) (r : TypedExpr) (o : Option Declared) → slice_get names i ≡ o → linked i o ≡ Ok r → linked i (slice_get (names ++ d ∷ []) i) ≡ Ok r
linked-by names d i r None e h = absurd (cc)
linked-by names d i r (Some x) e h = ap (linked i) (stays-there names (d ∷ []) i x e) ∙ h

designates-still : (s : State) (d : Declared) (r : TypedExpr) (o : Option Designated) → designates s o ≡ Ok r → designates (with_declared d s) o ≡ Ok r
designates-still s d r None h = h
designates-still s d r (Some (means.Linked i)) h = linked-by s.names d i r (slice_get s.names i) refl h
designates-still s d r (Some (means.Automatic i t)) h = h
designates-still s d r (Some (means.TypeNamed t)) h = h
designates-still s d r (Some (means.Enumerator k)) h = h

named-by : (at : ℕ) (x : Name) (s : State) (d : Declared) (r : TypedExpr) (i : Option Intr) → named_by at x s i ≡ Ok r → named_by at x (with_declared d s) i ≡ Ok r
named-by at x s d r (Some i) h = h
named-by at x s d r None h = designates-still s d r (designated x s.scopes) h

named-still : (roles : Roles) (at : ℕ) (x : Name) (s : State) (d : Declared) (r : TypedExpr) → named roles at x s ≡ Ok r → named roles at x (with_declared d s) ≡ Ok r
named-still roles at x s d r h = named-by at x s d r (intrinsic_named roles x) h

structures-still : (p : Program) (number : ℕ → ℕ) (s : State) (d : Declared) → KnowsStructures p number s → KnowsStructures p number (with_declared d s)
structures-still p number s d k = record { tags = k.tags; structures = k.structures; layouts = k.layouts }

names-still : (p : Program) (f : Func) (n : Numbers) (s : State) (d : Declared) → KnowsNames p f n s → KnowsNames p f n (with_declared d s)
names-still p f n s d k = record {
  structures = structures-still p n.structure s d k.structures;
  locals = λ i l e at. named-still p.roles at l.0 s d _ (k.locals i l e at);
  objects = λ i o e at. named-still p.roles at o.name s d _ (k.objects i o e at);
  devices = λ i c x e h at. named-still p.roles at x s d _ (k.devices i c x e h at);
  funcs = λ i g e at. named-still p.roles at g.name s d _ (k.funcs i g e at);
}

pub names-behind : (p : Program) (f : Func) (n : Numbers) (s u : State) (a : Place) → KnowsNames p f n s → Accesses p n s a u → KnowsNames p f n u
names-behind p f n s _ a k (NoneNumbered h) = k
names-behind p f n s _ a k (Known i d o there none known) = k
names-behind p f n s _ a k (First i d o there none unknown next) = names-still p f n s _ k

-- ---- what is read

value-level : (a : Place) (c v : Bool) (x : shape.Shape-F Shape CType Sig) (w : ValueType) → scalar_shape x ≡ Some w → loaded a c v x ≡ Ok (operand (Load a) w)
value-level a c v (shape.Int t) w h = let e : Integer t ≡ w = cc in ap (λ (u : ValueType). Ok (operand (Load a) u)) e
value-level a c v (shape.Pointer to) w h = let e : pointer_to to ≡ w = cc in ap (λ (u : ValueType). Ok (operand (Load a) u)) e
value-level a c v shape.Void w h = absurd (cc)
value-level a c v (shape.Array of n) w h = absurd (cc)
value-level a c v (shape.Struct i) w h = absurd (cc)
value-level a c v (shape.Func s) w h = absurd (cc)

value-read : (a : Place) (t : PlaceType) (w : ValueType) → read_from t ≡ Some w → value_at a t ≡ Ok (operand (Load a) w)
value-read a (DevicePlace c t) w h = let e : Integer t ≡ w = cc in ap (λ (u : ValueType). Ok (operand (Load a) u)) e
value-read a (ObjectPlace c v t) w h = value-level a c v (out-Shape t.shape) w h
value-read a (FunctionPlace s) w h = absurd (cc)

pub and-false : (b : Bool) → b && false ≡ false
and-false true = refl
and-false false = refl

load-no-null : (a : Place) (v : ValueType) → is_null_constant (operand (Load a) v) ≡ false
load-no-null a v = ap (λ (y : one.Expr-F Expr Place). is_zero_constant (constant_at y) || (is_to_void v && is_null_at y)) (expr_rolls.outs-Load a) ∙ and-false (is_to_void v)

no-binary : (level : one.Expr-F Expr Place) (o : Mark) (a b : Expr) (c : Place) → IsBinary level o a b → level ≡ one.Load c → ⊥
no-binary _ _ _ _ c (AnOperation o t a b) h = absurd (cc)
no-binary _ _ _ _ c (AMovement a b back) h = absurd (cc)
no-binary _ _ _ _ c (ADifference a b) h = absurd (cc)
no-binary _ _ _ _ c (AComparison o a b) h = absurd (cc)
no-binary _ _ _ _ c (ABoth a b) h = absurd (cc)
no-binary _ _ _ _ c (AnEither a b) h = absurd (cc)

-- ---- what is written

pub written-fits : (p : Program) (t : PlaceType) (w : ValueType) → FitsPlace p t → written_to t ≡ Some w → FitsValue p w
written-fits p (DevicePlace true i) w k h = absurd (cc)
written-fits p (DevicePlace false i) w k h = let e : Integer i ≡ w = cc in subst (FitsValue p) e tt
written-fits p (ObjectPlace true v t) w k h = absurd (cc)
written-fits p (ObjectPlace false v t) w k h = read-fits p (ObjectPlace false v t) w k h
written-fits p (FunctionPlace s) w k h = absurd (cc)

pub takes-written : (q : PlaceType) (w : ValueType) → written_to q ≡ Some w → (t : CType) → taker (Some q) ≡ Some t → scalar_value t ≡ Some w
takes-written (DevicePlace c i) w h t e = absurd (cc)
takes-written (ObjectPlace true v u) w h t e = absurd (cc)
takes-written (ObjectPlace false v u) w h t e = let same : u ≡ t = cc in subst (λ (t : CType). scalar_value t ≡ Some w) same h
takes-written (FunctionPlace s) w h t e = absurd (cc)

module _ (p : Program) (f : Func) (n : Numbers) (sound : IsSound p) (sized : AreSized p.structures p.target) (stand : TypesStand p f) where
  abbrev place : PlaceType → PlaceType
  place t = place_type_numbered n.structure t

  abbrev value : ValueType → ValueType
  value v = value_numbered n.structure v

  -- the rule
  pub assign-tree : (s u z : State) (x y : At Tree) (at : ℕ) (a : Place) (t : PlaceType) (r : Expr) (w : ValueType) → tree_of p.target p.roles x.node x.at s ≡ Ok (IsPlace (place_numbered n a) (place t), u) → written_to t ≡ Some w → IsTakenFrom p n u z y.node y.at r w →
      tree_of p.target p.roles (tree.Assign m.Assign x y) at s ≡ Ok (IsValue (operand (Assign (place_numbered n a) (expr_numbered n r)) (value w)), z)
  assign-tree s u z x y at a t r w h k q =
      let b = IsPlace (place_numbered n a) (place t) in
      tree-at p n s (tree.Assign m.Assign x y) (trees.Assign m.Assign x y) (tree_rolls.outs-Assign m.Assign x y) at
      ∙ ap (λ (r : Found TypedExpr). and_then (and_then r designating) (λ a s. and_then (value_found (here p.target p.roles y) s) (λ y s. gives at s (assign_of p.target (structures_of s) m.Assign a y)))) h
      ∙ ap (λ (r : Found TypedExpr). and_then (and_then r (valued y.at)) (λ y s. gives at s (assign_of p.target (structures_of s) m.Assign b y))) q.is
      ∙ ap (λ (r : Found Operand). and_then r (λ y s. gives at s (assign_of p.target (structures_of s) m.Assign b y))) (q.value y.at)
      ∙ ap (λ (o : Option ValueType). gives at z (stored_at p.target (place_numbered n a) o q.operand)) (written-at n.structure t w k)
      ∙ ap (λ (j : Judged Operand). gives at z (judge_then j (λ y. Ok (operand (Assign (place_numbered n a) y.value) (value w))))) q.assigned.is
      ∙ ap (λ (e : Expr). Ok (IsValue (operand (Assign (place_numbered n a) e) (value w)), z)) q.assigned.value

  pub taken-from : (s : State) (x : Tree) (at : ℕ) (e : Expr) (w : ValueType) → IsTakenAs p n s x at e w → IsTakenFrom p n s s x at e w
  taken-from s x at e w q = record { found = q.found; is = q.is; operand = q.operand; value = q.value; assigned = q.assigned }

  pub place-fits : (s : State) (names : KnowsNames p f n s) (a : Place) (x : Tree) (at : ℕ) (t : PlaceType) → ShowsPlace p f a x → HasPlace p f a t → FitsPlace p t
  place-fits s names a x at (DevicePlace c i) h k = tt
  place-fits s names a x at (ObjectPlace c v t) h k = (place-shown p f n s sized names stand a x h at (ObjectPlace c v t) k refl).fits
  place-fits s names a x at (FunctionPlace g) h k = tt

  -- an operand is assigned
  pub operand-assigned : (s u : State) (x y : At Tree) (at : ℕ) (a : Place) (t : PlaceType) (r : Expr) (v w : ValueType) → KnowsNames p f n s → ShowsPlace p f a x.node → ShowsValue p f (taker (Some t)) r y.node → HasPlace p f a t → written_to t ≡ Some w →
      HasOperand p f r v → is_assignable w v ≡ true → Accesses p n s a u → tree_of p.target p.roles (tree.Assign m.Assign x y) at s ≡ Ok (IsValue (operand (Assign (place_numbered n a) (expr_numbered n r)) (value w)), u)
  operand-assigned s u x y at a t r v w names h g k written o fits acc =
      assign-tree s u u x y at a t r w (place-accessed p f n s sound sized names stand a x.node h x.at t k u acc) written
      (taken-from u y.node y.at r w (value-taken p f n u sized (names-behind p f n s u a names acc) stand (taker (Some t)) r y.node g y.at v w o (written-fits p t w (place-fits s names a x.node x.at t h k) written) fits (takes-written t w written)))

  -- ---- a place is read

  module _ (s : State) (names : KnowsNames p f n s) (b : Place) (q : PlaceType) (k : HasPlace p f b q) (u : State) (acc : Accesses p n s b u) where
    abbrev ReadFrom : Tree → ℕ → Type 0
    ReadFrom x at = tree_of p.target p.roles x at s ≡ Ok (IsPlace (place_numbered n b) (place q), u)

    same-read : (a : Place) (x : Tree) (at : ℕ) → ShowsPlace p f a x → a ≡ b → ReadFrom x at
    same-read a x at h e = place-accessed p f n s sound sized names stand b x (subst (λ (c : Place). ShowsPlace p f c x) e h) at q k u acc

    expr-read : (e : Expr) (x : Tree) → ShowsExpr p f e x → out-Expr e ≡ one.Load b → (at : ℕ) → ReadFrom x at
    expr-read _ _ (InParens e x h) o at = paren-tree p.target p.roles s x at ∙ expr-read e x.node h o x.at
    expr-read _ _ (ShowsRead e a x i h) o at = let same : one.Load a ≡ one.Load b = sym i ∙ o in let e : a ≡ b = cc in same-read a x at h e
    expr-read _ _ (ShowsConstant e c t x i wide h) o at = absurd (cc)
    expr-read _ _ (ShowsNarrow e c t type x i narrow named h) o at = absurd (cc)
    expr-read _ _ (ShowsNull e t type x i named z) o at = absurd (cc)
    expr-read _ _ (ShowsFunction e i g j there) o at = absurd (cc)
    expr-read _ _ (ShowsAddress e a x i h) o at = absurd (cc)
    expr-read _ _ (ShowsUnary e c t a x i h) o at = absurd (cc)
    expr-read _ _ (ShowsConversion e t a type x i named h) o at = absurd (cc)
    expr-read _ _ (ShowsQualified e t a type x i named h) o at = absurd (cc)
    expr-read _ _ (ShowsBinary e level c d g x y i binary h l) o at = absurd (no-binary level c d g b binary (sym i ∙ o))
    expr-read _ _ (ShowsChoice e c a d x y z i h g l) o at = absurd (cc)

    value-read-from : (to : Option CType) (e : Expr) (x : Tree) → ShowsValue p f to e x → out-Expr e ≡ one.Load b → (at : ℕ) → ReadFrom x at
    value-read-from _ _ _ (ValueInParens to e x h) o at = paren-tree p.target p.roles s x at ∙ value-read-from to e x.node h o x.at
    value-read-from _ _ _ (ValueOf to e x h) o at = expr-read e x h o at
    value-read-from _ _ _ (NarrowValue to e c t x i narrow h) o at = absurd (cc)
    value-read-from _ _ _ (NullValue to e t x i l z) o at = absurd (cc)

    pub read-taken : (to : Option CType) (e : Expr) (x : Tree) (at : ℕ) (v w : ValueType) → ShowsValue p f to e x → out-Expr e ≡ one.Load b → read_from q ≡ Some v → is_assignable w v ≡ true → IsTakenFrom p n s u x at e w
    read-taken to e x at v w h o r fits = record {
      found = IsPlace (place_numbered n b) (place q);
      is = value-read-from to e x h o at;
      operand = operand (Load (place_numbered n b)) (value v);
      value = λ i. ap (whole i u) (value-read (place_numbered n b) (place q) (value v) (read-at n.structure q v r));
      assigned = subst (λ (z : Expr). AssignedAs p.target (value w) (operand (Load (place_numbered n b)) (value v)) z) (sym (expr-at n e (one.Load b) o))
          (assign-rule p.target (value w) (operand (Load (place_numbered n b)) (value v)) refl (λ i. load-no-null (place_numbered n b) (value v)) (assignable-numbered n.structure w v fits));
    }

  pub read-assigned : (s u z : State) (x y : At Tree) (at : ℕ) (a b : Place) (t q : PlaceType) (to : Option CType) (r : Expr) (v w : ValueType) → KnowsNames p f n s → ShowsPlace p f a x.node → ShowsValue p f to r y.node → out-Expr r ≡ one.Load b → HasPlace p f a t → written_to t ≡ Some w →
      HasPlace p f b q → read_from q ≡ Some v → is_assignable w v ≡ true → Accesses p n s a u → Accesses p n u b z → tree_of p.target p.roles (tree.Assign m.Assign x y) at s ≡ Ok (IsValue (operand (Assign (place_numbered n a) (expr_numbered n r)) (value w)), z)
  read-assigned s u z x y at a b t q to r v w names h g o k written l read fits acc more =
      assign-tree s u z x y at a t r w (place-accessed p f n s sound sized names stand a x.node h x.at t k u acc) written
      (read-taken u (names-behind p f n s u a names acc) b q l z more to r y.node y.at v w g o read fits)
