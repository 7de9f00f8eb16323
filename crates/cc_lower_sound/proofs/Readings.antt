-- What is asked of the parts that lowering makes, so that all that it makes is as it should be: of operands and places by the types of
-- their sources, of right sides, calls and statements.
use Rattle.std.proofs.Common.{◌≡◌, ℕ, ℤ, Bool, true, List, [], ◌∷◌, Option, Some, None}
use Rattle.cc_program.specs.CcNum.declared.int_type.IntType.{IntType}
use Rattle.cc_program.specs.CcNum.declared.op.BinOp.{BinOp}
use Rattle.cc_program.specs.CcNum.declared.op.UnOp.{UnOp}
use Rattle.cc_program.specs.CcNum.Integers.{is_value_of}
use Rattle.cc_lower_expressions.specs.Expressions.{Piece, piece, Lowering, PlaceLowering, temp, set, is_callee, folded_un, folded_bin, folded_conv}
use Rattle.cc_lower_expressions.specs.Temporaries.{declared_type, is_same_type}
use Rattle.cc_operands.specs.Operands.{is_pointer, null_of}
use Rattle.cc_program.specs.declared.expr.Expr.{Expr, Const, Load, AddrOf, Qualify, Move, Gap, Compare, Assign, Call, Intr, roll-Expr}
use Rattle.cc_program.specs.declared.expr.Expr.TheOpen as one
use Rattle.cc_program.specs.declared.expr.Intr.{Intr as Intrinsic}
use Rattle.cc_program.specs.declared.expr.Place.{Place, Local, Element, Member, Deref, roll-Place, out-Place}
use Rattle.cc_program.specs.declared.func.Func.{Func}
use Rattle.cc_program.specs.declared.program.Program.{Program}
use Rattle.cc_program.specs.declared.stmt.Stmt.{Stmt, Do, If}
use Rattle.cc_program.specs.declared.types.CType.{CType}
use Rattle.cc_program.specs.declared.types.Sig.{Sig, out-Sig}
use Rattle.cc_program.proofs.Each.{Each}
use Rattle.cc_program.proofs.ExprInduction.{Parts, PlaceParts}
use Rattle.cc_eval.specs.CcSyntax.Effects.{Registers, effects_of, place_effects_of}
use Rattle.cc_eval.specs.CcSyntax.Expressions.{type_of, place_type, qualified_type}
use Rattle.cc_eval.specs.CcSyntax.Forms.{form_of}
use Rattle.cc_eval.specs.CcSyntax.Operators.{unary_type, binary_type, conversion_type, moved_type, gap_type, comparison_type, intrinsic_type, subscript_type}
use Rattle.cc_eval.specs.CcSyntax.Registers.{is_register}
use Rattle.cc_eval.specs.CcSyntax.Values.{ValueType, NoValue, Integer, ToObject, ToFunction, PlaceType, result_value, is_scalar, is_assignable, is_assignable_some, scalar_value, read_from, written_to, address_of, pointed_to, member_of}
use Rattle.cc_eval.specs.CcSyntax.Views.{View, of_program}
use Rattle.cc_eval.proofs.CcSyntax.AlikeLemmas.{alike_itself, implies_itself, assignable_object, function_itself}
use Rattle.cc_eval.proofs.CcSyntax.SameLemmas.{int_itself}
use Rattle.cc_lower_sound.proofs.Pieces.{Any, Gives}

-- a pointer to a function of such parameters, which gives a value of the last type
pub data CallOf : ValueType → List CType → ValueType → Type 0 where
  OfSig : (sig : Sig) (r : ValueType) → result_value (out-Sig sig).result ≡ Some r → CallOf (ToFunction sig) (out-Sig sig).params r

-- the local that a place is, if it is one
abbrev pub local_of : one.Place-F Expr Place → Option ℕ
local_of (one.Local r) = Some r
local_of (one.Static i) = None
local_of (one.Device d) = None
local_of (one.Element a i) = None
local_of (one.Member a m) = None
local_of (one.Deref e) = None

-- two places are one local, or none is a local
abbrev pub SameLocal : Place → Place → Type 0
SameLocal a b = local_of (out-Place a) ≡ local_of (out-Place b)

-- a reading of what lowering makes: what it is to be an operand, a place, a right side or a call by the type of its source, a statement, a
-- temporary of a type, and a register that takes values of a type; what sources are; which types may stand, and which may be declared
pub record Reading : Type 1 where
  pub Val : ValueType → Expr → Type 0
  pub Pla : PlaceType → Place → Type 0
  pub Right : ValueType → Expr → Type 0
  pub Calls : ValueType → Expr → Type 0
  pub Stm : Stmt → Type 0
  pub Temp : ℕ → ValueType → Type 0
  pub Takes : ℕ → ValueType → Type 0
  pub Old : Expr → Type 0
  pub OldPlace : Place → Type 0
  pub stands : ValueType → Bool
  pub declares : ValueType → Bool

pub assigns_itself : (t : ValueType) → is_scalar t ≡ true → is_assignable t t ≡ true
assigns_itself NoValue h = absurd (cc)
assigns_itself (Integer s) h = int_itself s
assigns_itself (ToObject c v t) h = assignable_object c v t c v t (alike_itself t) (implies_itself c) (implies_itself v)
assigns_itself (ToFunction s) h = function_itself s

module _ (p : Program) (f : Func) where
  abbrev pub view : View
  view = of_program p

  abbrev pub typed : Expr → Option ValueType
  typed e = type_of view f.locals e

  abbrev pub placed : Place → Option PlaceType
  placed a = place_type view f.locals a

  module _ (w : Reading) where
    -- values, for parameters of these types
    pub data AllVal : List CType → List Expr → Type 0 where
      NoneLeft : AllVal [] []
      More : (t : CType) (u : ValueType) (e : Expr) (ts : List CType) (es : List Expr) → is_assignable_some (scalar_value t) (Some u) ≡ true → w.Val u e → AllVal ts es → AllVal (t ∷ ts) (e ∷ es)

    pub record Laws : Type 0 where
      -- sources
      pub parts : (x : one.Expr-F Expr Place) → w.Old (roll-Expr x) → Parts w.Old w.OldPlace x
      pub place_parts : (x : one.Place-F Expr Place) → w.OldPlace (roll-Place x) → PlaceParts w.Old w.OldPlace x
      pub itself : (e : Expr) (t : ValueType) (later : Registers) → typed e ≡ Some t → w.Old e → (effects_of f e).pure later ≡ true → w.Val t e
      pub place_itself : (a : Place) (t : PlaceType) (later : Registers) → placed a ≡ Some t → w.OldPlace a → (place_effects_of f a).pure later ≡ true → w.Pla t a
      -- operands
      pub number : (n : ℤ) (i : IntType) → is_value_of i p.target n ≡ true → w.Val (Integer i) (Const n i)
      pub null : (t : ValueType) → is_pointer t ≡ true → w.stands t ≡ true → w.Val t (null_of t)
      pub temporary : (n : ℕ) (t : ValueType) → w.Temp n t → is_scalar t ≡ true → w.declares t ≡ true → w.Val t (temp n)
      pub register : (r : ℕ) (a : PlaceType) (t : ValueType) → is_register f r ≡ true → w.Pla a (Local r) → read_from a ≡ Some t → w.Val t (Load (Local r))
      pub address : (a : PlaceType) (b x : Place) (t : ValueType) → w.Pla a b → SameLocal b x → typed (roll-Expr (one.AddrOf x)) ≡ Some t → w.Old (roll-Expr (one.AddrOf x)) → address_of a ≡ Some t → w.Val t (AddrOf b)
      pub unary : (o : UnOp) (i : IntType) (t r : ValueType) (e : Expr) → w.Val t e → unary_type p.target o i t ≡ Some r → w.Val r (folded_un p f declared_type is_same_type o i e)
      pub binary : (o : BinOp) (i : IntType) (t u r : ValueType) (e g : Expr) → w.Val t e → w.Val u g → binary_type p.target o i t u ≡ Some r → w.Val r (folded_bin p f declared_type is_same_type o i e g)
      pub conversion : (i : IntType) (t r : ValueType) (e : Expr) → w.Val t e → conversion_type i t ≡ Some r → w.Val r (folded_conv p f declared_type is_same_type i e)
      pub qualified : (c : CType) (t r : ValueType) (e : Expr) → w.Val t e → qualified_type view c t ≡ Some r → w.Val r (Qualify c e)
      pub moved : (t u r : ValueType) (e g : Expr) (back : Bool) → w.Val t e → w.Val u g → moved_type p.structures t u ≡ Some r → w.Val r (Move e g back)
      pub gap : (t u r : ValueType) (e g : Expr) → w.Val t e → w.Val u g → gap_type p.structures p.target t u ≡ Some r → w.Val r (Gap e g)
      pub compared : (o : BinOp) (t u r : ValueType) (e g : Expr) → w.Val t e → w.Val u g → comparison_type o t u ≡ Some r → w.Val r (Compare o e g)
      -- places
      pub element : (a r : PlaceType) (t : ValueType) (b : Place) (e : Expr) → w.Pla a b → w.Val t e → subscript_type a t ≡ Some r → w.Pla r (Element b e)
      pub member : (a r : PlaceType) (b : Place) (m : ℕ) → w.Pla a b → member_of p.structures m a ≡ Some r → w.Pla r (Member b m)
      pub pointed : (t : ValueType) (r : PlaceType) (e : Expr) → w.Val t e → pointed_to t ≡ Some r → w.Pla r (Deref e)
      -- right sides
      pub read : (a : PlaceType) (t : ValueType) (b : Place) → w.Pla a b → read_from a ≡ Some t → w.Right t (Load b)
      pub called : (t : ValueType) (e : Expr) → w.Calls t e → w.Right t e
      pub call : (t r : ValueType) (h : Expr) (ts : List CType) (es : List Expr) → is_callee f (form_of h) ≡ true → w.Val t h → CallOf t ts r → AllVal ts es → w.Calls r (Call h es)
      pub call_by : (t r : ValueType) (n : ℕ) (ts : List CType) (es : List Expr) → w.Temp n t → is_scalar t ≡ true → w.declares t ≡ true → CallOf t ts r → AllVal ts es → w.Calls r (Call (temp n) es)
      pub callee : (t r : ValueType) (ts : List CType) → CallOf t ts r → w.stands t ≡ true → w.declares t ≡ true
      pub intrinsic : (i : Intrinsic) (r : ValueType) → intrinsic_type i None ≡ Some r → w.Calls r (Intr i None)
      pub restore : (i : Intrinsic) (t r : ValueType) (e : Expr) → w.Val t e → intrinsic_type i (Some (Some t)) ≡ Some r → w.Calls r (Intr i (Some e))
      -- statements
      pub put : (n : ℕ) (t : ValueType) (e : Expr) → w.Takes n t → w.Val t e → w.Stm (set n e)
      pub put_right : (n : ℕ) (t : ValueType) (e : Expr) → w.Takes n t → w.Right t e → w.Stm (set n e)
      pub assign : (a : PlaceType) (to t : ValueType) (b : Place) (e : Expr) → w.Pla a b → written_to a ≡ Some to → is_assignable to t ≡ true → w.Val t e → w.Stm (Do (Assign b e))
      pub alone : (t : ValueType) (e : Expr) → w.Calls t e → w.Stm (Do e)
      pub fork : (t : ValueType) (c : Expr) (xs ys : List Stmt) → is_scalar t ≡ true → w.Val t c → Each w.Stm xs → Each w.Stm ys → w.Stm (If c xs ys)
      -- registers that take values
      pub takes : (n : ℕ) (to t : ValueType) → w.Temp n to → is_scalar to ≡ true → w.declares to ≡ true → is_assignable to t ≡ true → w.Takes n t
      pub takes_local : (r : ℕ) (a : PlaceType) (to t : ValueType) → is_register f r ≡ true → w.Pla a (Local r) → written_to a ≡ Some to → is_assignable to t ≡ true → w.Takes r t

    -- a temporary takes values of its own type
    pub takes_own : Laws → (n : ℕ) (t : ValueType) → w.Temp n t → is_scalar t ≡ true → w.declares t ≡ true → w.Takes n t
    takes_own laws n t d s k = laws.takes n t t d s k (assigns_itself t s)

    -- ---- what is shown of what lowering makes

    abbrev pub Makes : (P : Type 0) {A : Type 0} → (A → Type 0) → (ℕ → Piece A) → Type 0
    Makes P V m = Gives w.declares w.Temp w.Stm P V m

    -- of an expression whose source has the type
    pub record IsLowered (t : ValueType) (l : Lowering) : Type 0 where
      pub ctype : l.ctype ≡ Some t
      pub operand : is_scalar t ≡ true → (later : Registers) → Makes (Unit {0}) (w.Val t) (l.operand later)
      pub whole : is_scalar t ≡ true → (o : Option ValueType) (n : ℕ) (later : Registers) → Makes (w.Takes n t) Any (l.whole o n later)
      pub effect : (later : Registers) → Makes (Unit {0}) Any (l.effect later)

    pub record IsLoweredPlace (t : PlaceType) (l : PlaceLowering) : Type 0 where
      pub ctype : l.ctype ≡ Some t
      pub operands : (later : Registers) → Makes (Unit {0}) (w.Pla t) (l.operands later)
      pub same : (later : Registers) (k : ℕ) → SameLocal (l.operands later k).value l.itself
      pub local : (r : ℕ) → l.effects.register ≡ Some r → (is_register f r ≡ true) × ((later : Registers) (k : ℕ) → l.operands later k ≡ piece [] [] (Local r))
