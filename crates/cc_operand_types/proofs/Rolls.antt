-- The type of each expression and each place, from those of its parts.
use Rattle.std.proofs.Common.{◌≡◌, ℕ, ℤ, Bool, List, Option, Some, map, refl, ap, sym, ◌∙◌}
use Rattle.cc_program.specs.CcNum.declared.int_type.IntType.{IntType}
use Rattle.cc_program.specs.CcNum.declared.op.BinOp.{BinOp}
use Rattle.cc_program.specs.CcNum.declared.op.UnOp.{UnOp}
use Rattle.cc_program.specs.declared.expr.Expr.{Expr, Const, Null, Load, AddrOf, Un, Bin, Conv, Qualify, Move, Gap, Compare, Both, Either, Choose, Assign, Change, After, Call, Seq, roll-Expr, map-Expr, fold-roll-Expr}
use Rattle.cc_program.specs.declared.expr.Expr.TheOpen as one
use Rattle.cc_program.specs.declared.expr.Expr.TheVariants.{rolls-Const, rolls-Null, rolls-Load, rolls-AddrOf, rolls-Un, rolls-Bin, rolls-Conv, rolls-Qualify, rolls-Move, rolls-Gap, rolls-Compare, rolls-Both, rolls-Either, rolls-Choose, rolls-Assign, rolls-Change, rolls-After, rolls-Call, rolls-Seq}
use Rattle.cc_program.specs.declared.expr.Place.{Place, Element, Member, Deref, roll-Place, map-Place, fold-roll-Place}
use Rattle.cc_program.specs.declared.expr.Place.TheVariants.{rolls-Element, rolls-Member, rolls-Deref}
use Rattle.cc_program.specs.declared.types.CType.{CType}
use Rattle.cc_operands.specs.CcSyntax.Expressions.{of_one, of_two, expr_step, place_step, type_of, place_type, null_type, qualified_type}
use Rattle.cc_operands.specs.CcSyntax.Operators.{constant_type, unary_type, binary_type, conversion_type, moved_type, gap_type, comparison_type, logical_type, choice_type, assignment_type, change_type, after_type, call_type, subscript_type}
use Rattle.cc_operands.specs.CcSyntax.Types.{Named}
use Rattle.cc_operands.specs.CcSyntax.Values.{ValueType, PlaceType, read_from, written_to, address_of, pointed_to, member_of}
use Rattle.cc_operands.specs.CcSyntax.Views.{View}

pub one_there : {A B : Type 0} (a : Option A) (f : A → Option B) (x : A) (r : Option B) → a ≡ Some x → f x ≡ r → of_one a f ≡ r
one_there a f x r h e = rw h e

pub two_there : {A B C : Type 0} (a : Option A) (b : Option B) (f : A → B → Option C) (x : A) (y : B) (r : Option C) → a ≡ Some x → b ≡ Some y → f x y ≡ r → of_two a b f ≡ r
two_there a b f x y r h k e = rw (h, k) e

module _ (p : View) (locals : List Named) where
  abbrev type : Expr → Option ValueType
  type e = type_of p locals e

  abbrev place : Place → Option PlaceType
  place a = place_type p locals a

  pub expr-roll : (e : Expr) (x : one.Expr-F Expr Place) → roll-Expr x ≡ e → type_of p locals e ≡ expr_step p locals (map-Expr Expr Place (Option ValueType) (Option PlaceType) (type_of p locals) (place_type p locals) x)
  unfolding type_of place_type
  expr-roll e x h = ap (type_of p locals) (sym h) ∙ fold-roll-Expr (Option ValueType) (Option PlaceType) (expr_step p locals) (place_step p locals) x

  pub place-roll : (a : Place) (x : one.Place-F Expr Place) → roll-Place x ≡ a → place_type p locals a ≡ place_step p locals (map-Place Expr Place (Option ValueType) (Option PlaceType) (type_of p locals) (place_type p locals) x)
  unfolding type_of place_type
  place-roll a x h = ap (place_type p locals) (sym h) ∙ fold-roll-Place (Option ValueType) (Option PlaceType) (expr_step p locals) (place_step p locals) x

  pub type-Const : (n : ℤ) (t : IntType) → type (Const n t) ≡ constant_type p.target n t
  type-Const n t = expr-roll (Const n t) (one.Const n t) (rolls-Const n t)

  pub type-Null : (t : CType) → type (Null t) ≡ null_type p t
  type-Null t = expr-roll (Null t) (one.Null t) (rolls-Null t)

  pub type-Load : (a : Place) (t : PlaceType) (r : Option ValueType) → place a ≡ Some t → read_from t ≡ r → type (Load a) ≡ r
  type-Load a t r h e = expr-roll (Load a) (one.Load a) (rolls-Load a) ∙ one_there (place a) read_from t r h e

  pub type-AddrOf : (a : Place) (t : PlaceType) (r : Option ValueType) → place a ≡ Some t → address_of t ≡ r → type (AddrOf a) ≡ r
  type-AddrOf a t r h e = expr-roll (AddrOf a) (one.AddrOf a) (rolls-AddrOf a) ∙ one_there (place a) address_of t r h e

  pub type-Un : (o : UnOp) (t : IntType) (a : Expr) (u : ValueType) (r : Option ValueType) → type a ≡ Some u → unary_type p.target o t u ≡ r → type (Un o t a) ≡ r
  type-Un o t a u r h e = expr-roll (Un o t a) (one.Un o t a) (rolls-Un o t a) ∙ one_there (type a) (unary_type p.target o t) u r h e

  pub type-Bin : (o : BinOp) (t : IntType) (a b : Expr) (u v : ValueType) (r : Option ValueType) → type a ≡ Some u → type b ≡ Some v → binary_type p.target o t u v ≡ r → type (Bin o t a b) ≡ r
  type-Bin o t a b u v r h k e = expr-roll (Bin o t a b) (one.Bin o t a b) (rolls-Bin o t a b) ∙ two_there (type a) (type b) (binary_type p.target o t) u v r h k e

  pub type-Conv : (t : IntType) (a : Expr) (u : ValueType) (r : Option ValueType) → type a ≡ Some u → conversion_type t u ≡ r → type (Conv t a) ≡ r
  type-Conv t a u r h e = expr-roll (Conv t a) (one.Conv t a) (rolls-Conv t a) ∙ one_there (type a) (conversion_type t) u r h e

  pub type-Qualify : (t : CType) (a : Expr) (u : ValueType) (r : Option ValueType) → type a ≡ Some u → qualified_type p t u ≡ r → type (Qualify t a) ≡ r
  type-Qualify t a u r h e = expr-roll (Qualify t a) (one.Qualify t a) (rolls-Qualify t a) ∙ one_there (type a) (qualified_type p t) u r h e

  pub type-Move : (a b : Expr) (back : Bool) (u v : ValueType) (r : Option ValueType) → type a ≡ Some u → type b ≡ Some v → moved_type p.structures u v ≡ r → type (Move a b back) ≡ r
  type-Move a b back u v r h k e = expr-roll (Move a b back) (one.Move a b back) (rolls-Move a b back) ∙ two_there (type a) (type b) (moved_type p.structures) u v r h k e

  pub type-Gap : (a b : Expr) (u v : ValueType) (r : Option ValueType) → type a ≡ Some u → type b ≡ Some v → gap_type p.structures p.target u v ≡ r → type (Gap a b) ≡ r
  type-Gap a b u v r h k e = expr-roll (Gap a b) (one.Gap a b) (rolls-Gap a b) ∙ two_there (type a) (type b) (gap_type p.structures p.target) u v r h k e

  pub type-Compare : (o : BinOp) (a b : Expr) (u v : ValueType) (r : Option ValueType) → type a ≡ Some u → type b ≡ Some v → comparison_type o u v ≡ r → type (Compare o a b) ≡ r
  type-Compare o a b u v r h k e = expr-roll (Compare o a b) (one.Compare o a b) (rolls-Compare o a b) ∙ two_there (type a) (type b) (comparison_type o) u v r h k e

  pub type-Both : (a b : Expr) (u v : ValueType) (r : Option ValueType) → type a ≡ Some u → type b ≡ Some v → logical_type u v ≡ r → type (Both a b) ≡ r
  type-Both a b u v r h k e = expr-roll (Both a b) (one.Both a b) (rolls-Both a b) ∙ two_there (type a) (type b) logical_type u v r h k e

  pub type-Either : (a b : Expr) (u v : ValueType) (r : Option ValueType) → type a ≡ Some u → type b ≡ Some v → logical_type u v ≡ r → type (Either a b) ≡ r
  type-Either a b u v r h k e = expr-roll (Either a b) (one.Either a b) (rolls-Either a b) ∙ two_there (type a) (type b) logical_type u v r h k e

  pub type-Choose : (c a b : Expr) (s u v : ValueType) (r : Option ValueType) → type c ≡ Some s → type a ≡ Some u → type b ≡ Some v → choice_type p.target s u v ≡ r → type (Choose c a b) ≡ r
  type-Choose c a b s u v r h k l e =
      expr-roll (Choose c a b) (one.Choose c a b) (rolls-Choose c a b)
      ∙ one_there (type c) (λ s. of_two (type a) (type b) (choice_type p.target s)) s r h (two_there (type a) (type b) (choice_type p.target s) u v r k l e)

  pub type-Assign : (a : Place) (e : Expr) (t : PlaceType) (to u : ValueType) (r : Option ValueType) → place a ≡ Some t → written_to t ≡ Some to → type e ≡ Some u → assignment_type to u ≡ r → type (Assign a e) ≡ r
  type-Assign a e t to u r h w k l =
      expr-roll (Assign a e) (one.Assign a e) (rolls-Assign a e) ∙ two_there (of_one (place a) written_to) (type e) assignment_type to u r (one_there (place a) written_to t (Some to) h w) k l

  pub type-Change : (a : Place) (o : BinOp) (i : IntType) (e : Expr) (t : PlaceType) (to u : ValueType) (r : Option ValueType) →
      place a ≡ Some t → written_to t ≡ Some to → type e ≡ Some u → change_type p.structures p.target o i to u ≡ r → type (Change a o i e) ≡ r
  type-Change a o i e t to u r h w k l =
      expr-roll (Change a o i e) (one.Change a o i e) (rolls-Change a o i e)
      ∙ two_there (of_one (place a) written_to) (type e) (change_type p.structures p.target o i) to u r (one_there (place a) written_to t (Some to) h w) k l

  pub type-After : (a : Place) (down : Bool) (t : PlaceType) (to : ValueType) (r : Option ValueType) → place a ≡ Some t → written_to t ≡ Some to → after_type p.structures to ≡ r → type (After a down) ≡ r
  type-After a down t to r h w l =
      expr-roll (After a down) (one.After a down) (rolls-After a down) ∙ one_there (of_one (place a) written_to) (after_type p.structures) to r (one_there (place a) written_to t (Some to) h w) l

  pub type-Call : (f : Expr) (args : List Expr) (u : ValueType) (r : Option ValueType) → type f ≡ Some u → call_type u (map (type_of p locals) args) ≡ r → type (Call f args) ≡ r
  type-Call f args u r h e = expr-roll (Call f args) (one.Call f args) (rolls-Call f args) ∙ one_there (type f) (λ f. call_type f (map (type_of p locals) args)) u r h e

  pub type-Seq : (a b : Expr) (u v : ValueType) → type a ≡ Some u → type b ≡ Some v → type (Seq a b) ≡ Some v
  type-Seq a b u v h k = expr-roll (Seq a b) (one.Seq a b) (rolls-Seq a b) ∙ two_there (type a) (type b) (λ a b. Some b) u v (Some v) h k refl

  pub place-Element : (a : Place) (i : Expr) (t : PlaceType) (u : ValueType) (r : Option PlaceType) → place a ≡ Some t → type i ≡ Some u → subscript_type t u ≡ r → place (Element a i) ≡ r
  place-Element a i t u r h k e = place-roll (Element a i) (one.Element a i) (rolls-Element a i) ∙ two_there (place a) (type i) subscript_type t u r h k e

  pub place-Member : (a : Place) (m : ℕ) (t : PlaceType) (r : Option PlaceType) → place a ≡ Some t → member_of p.structures m t ≡ r → place (Member a m) ≡ r
  place-Member a m t r h e = place-roll (Member a m) (one.Member a m) (rolls-Member a m) ∙ one_there (place a) (member_of p.structures m) t r h e

  pub place-Deref : (e : Expr) (u : ValueType) (r : Option PlaceType) → type e ≡ Some u → pointed_to u ≡ r → place (Deref e) ≡ r
  place-Deref e u r h k = place-roll (Deref e) (one.Deref e) (rolls-Deref e) ∙ one_there (type e) pointed_to u r h k
