-- What an expression does next, opened at its top.
use Rattle.std.proofs.Common.{◌≡◌, refl, sym, ◌∙◌, List, map, Result, Ok, Err, IfOk}
use Rattle.cc_program.specs.CcNum.declared.int_type.IntType.{IntType}
use Rattle.cc_program.specs.CcNum.declared.op.BinOp.{BinOp}
use Rattle.cc_program.specs.CcNum.declared.op.UnOp.{UnOp}
use Rattle.cc_program.specs.declared.expr.Expr.{Expr, Load, AddrOf, Un, Bin, Conv, Move, Gap, Compare, Both, Either, Choose, Assign, Change, After, Call, Seq}
use Rattle.cc_program.specs.declared.expr.Expr.TheVariants.{rolls-Load, rolls-AddrOf, rolls-Un, rolls-Bin, rolls-Conv, rolls-Move, rolls-Gap, rolls-Compare, rolls-Both, rolls-Either, rolls-Choose, rolls-Assign, rolls-Change, rolls-After, rolls-Call, rolls-Seq}
use Rattle.cc_program.specs.declared.expr.Expr.TheOpen as one
use Rattle.cc_program.specs.declared.expr.Place.{Place}
use Rattle.cc_eval.specs.declared.mark.Mark.{Mark}
use Rattle.cc_eval.specs.Context.{Context}
use Rattle.cc_syntax.specs.Effects.{Registers}
use Rattle.cc_eval.specs.Eval.{meaning, designation, both_values, place_and_value, both, either, chosen_arm, called, sequence}
use Rattle.cc_eval.specs.declared.operators.AtPlace.{AtPlace}
use Rattle.cc_eval.specs.declared.operators.AtPlace.TheVariants as at_place
use Rattle.cc_eval.specs.declared.operators.OneOperand.{OneOperand}
use Rattle.cc_eval.specs.declared.operators.OneOperand.TheVariants as one_operand
use Rattle.cc_eval.specs.declared.operators.ToPlace.{ToPlace}
use Rattle.cc_eval.specs.declared.operators.ToPlace.TheVariants as to_place
use Rattle.cc_eval.specs.declared.operators.TwoOperands.{TwoOperands}
use Rattle.cc_eval.specs.declared.operators.TwoOperands.TheVariants as two
use Rattle.cc_eval.specs.Operands.{one_gives, two_give, place_gives, change_gives}
use Rattle.cc_eval.specs.Progress.{Progress, and_then}
use Rattle.cc_program.specs.declared.value.Value.{Value}
use Rattle.std.specs.Prelude.{Option, Bool}
use Rattle.cc_eval.proofs.Opened.{opened_as}

-- an outcome that is the same as another one
pub same_outcome : {A E B : Type 0} (r : Result A E) (f : A → B) (x y : B) → x ≡ y → IfOk r (λ s. f s ≡ x) → IfOk r (λ s. f s ≡ y)
same_outcome (Ok a) f x y e h = h ∙ e
same_outcome (Err a) f x y e h = tt

module _ (c : Context) where
  pub both_level : (e a b : Expr) → e ≡ Both a b → (later : Registers) (ms : List Mark) →
      both ((meaning c e).effects.pure later) (meaning c a) (meaning c b) later ms ≡ (meaning c e).next later ms
  both_level e a b h later ms = rw (opened_as c e (one.Both a b) (h ∙ sym (rolls-Both a b))) refl

  pub either_level : (e a b : Expr) → e ≡ Either a b → (later : Registers) (ms : List Mark) →
      either ((meaning c e).effects.pure later) (meaning c a) (meaning c b) later ms ≡ (meaning c e).next later ms
  either_level e a b h later ms = rw (opened_as c e (one.Either a b) (h ∙ sym (rolls-Either a b))) refl

  pub choose_level : (e d a b : Expr) → e ≡ Choose d a b → (later : Registers) (ms : List Mark) →
      chosen_arm ((meaning c e).effects.pure later) (meaning c d) (meaning c a) (meaning c b) later ms ≡ (meaning c e).next later ms
  choose_level e d a b h later ms = rw (opened_as c e (one.Choose d a b) (h ∙ sym (rolls-Choose d a b))) refl

  pub call_level : (e f : Expr) (args : List Expr) → e ≡ Call f args → (later : Registers) (ms : List Mark) →
      called (meaning c f) (map (meaning c) args) later ms ≡ (meaning c e).next later ms
  call_level e f args h later ms = rw (opened_as c e (one.Call f args) (h ∙ sym (rolls-Call f args))) refl

  abbrev pub two_next : TwoOperands → Expr → Expr → Registers → List Mark → Progress (Option Value)
  two_next kind a b later ms = and_then (both_values (meaning c a) (meaning c b) later ms) (two_give kind c.program.target)

  pub bin_level : (e : Expr) (o : BinOp) (t : IntType) (a b : Expr) → e ≡ Bin o t a b → (later : Registers) (ms : List Mark) → two_next (two.Operator o t) a b later ms ≡ (meaning c e).next later ms
  bin_level e o t a b h later ms = rw (opened_as c e (one.Bin o t a b) (h ∙ sym (rolls-Bin o t a b))) refl

  pub move_level : (e a b : Expr) (back : Bool) → e ≡ Move a b back → (later : Registers) (ms : List Mark) → two_next (two.Movement back) a b later ms ≡ (meaning c e).next later ms
  move_level e a b back h later ms = rw (opened_as c e (one.Move a b back) (h ∙ sym (rolls-Move a b back))) refl

  pub gap_level : (e a b : Expr) → e ≡ Gap a b → (later : Registers) (ms : List Mark) → two_next two.Difference a b later ms ≡ (meaning c e).next later ms
  gap_level e a b h later ms = rw (opened_as c e (one.Gap a b) (h ∙ sym (rolls-Gap a b))) refl

  pub compare_level : (e : Expr) (o : BinOp) (a b : Expr) → e ≡ Compare o a b → (later : Registers) (ms : List Mark) → two_next (two.Comparison o) a b later ms ≡ (meaning c e).next later ms
  compare_level e o a b h later ms = rw (opened_as c e (one.Compare o a b) (h ∙ sym (rolls-Compare o a b))) refl

  -- by the contract of what is called for each kind
  abbrev pub one_next : OneOperand → Expr → Registers → List Mark → Progress (Option Value)
  one_next kind a later ms = and_then ((meaning c a).next later ms) (one_gives kind c.program.target)

  abbrev pub place_next : AtPlace → Place → Registers → List Mark → Progress (Option Value)
  place_next kind a later ms = and_then ((designation c a).leads later ms) (place_gives c kind (designation c a) later)

  abbrev pub change_next : ToPlace → Place → Expr → Registers → List Mark → Progress (Option Value)
  change_next kind a e later ms = and_then (place_and_value (designation c a) (meaning c e) later ms) (change_gives c kind (designation c a) later)

  pub load_level : (e : Expr) (a : Place) → e ≡ Load a → (later : Registers) (ms : List Mark) → place_next at_place.Load a later ms ≡ (meaning c e).next later ms
  load_level e a h later ms = rw (opened_as c e (one.Load a) (h ∙ sym (rolls-Load a))) refl

  pub address_level : (e : Expr) (a : Place) → e ≡ AddrOf a → (later : Registers) (ms : List Mark) → place_next at_place.Address a later ms ≡ (meaning c e).next later ms
  address_level e a h later ms = rw (opened_as c e (one.AddrOf a) (h ∙ sym (rolls-AddrOf a))) refl

  pub after_level : (e : Expr) (a : Place) (down : Bool) → e ≡ After a down → (later : Registers) (ms : List Mark) → place_next (at_place.Step down) a later ms ≡ (meaning c e).next later ms
  after_level e a down h later ms = rw (opened_as c e (one.After a down) (h ∙ sym (rolls-After a down))) refl

  pub un_level : (e : Expr) (o : UnOp) (t : IntType) (a : Expr) → e ≡ Un o t a → (later : Registers) (ms : List Mark) → one_next (one_operand.Operator o t) a later ms ≡ (meaning c e).next later ms
  un_level e o t a h later ms = rw (opened_as c e (one.Un o t a) (h ∙ sym (rolls-Un o t a))) refl

  pub conv_level : (e : Expr) (t : IntType) (a : Expr) → e ≡ Conv t a → (later : Registers) (ms : List Mark) → one_next (one_operand.Conversion t) a later ms ≡ (meaning c e).next later ms
  conv_level e t a h later ms = rw (opened_as c e (one.Conv t a) (h ∙ sym (rolls-Conv t a))) refl

  pub assign_level : (e : Expr) (a : Place) (b : Expr) → e ≡ Assign a b → (later : Registers) (ms : List Mark) → change_next to_place.Assign a b later ms ≡ (meaning c e).next later ms
  assign_level e a b h later ms = rw (opened_as c e (one.Assign a b) (h ∙ sym (rolls-Assign a b))) refl

  pub change_level : (e : Expr) (a : Place) (o : BinOp) (t : IntType) (b : Expr) → e ≡ Change a o t b → (later : Registers) (ms : List Mark) → change_next (to_place.Change o t) a b later ms ≡ (meaning c e).next later ms
  change_level e a o t b h later ms = rw (opened_as c e (one.Change a o t b) (h ∙ sym (rolls-Change a o t b))) refl

  pub seq_level : (e a b : Expr) → e ≡ Seq a b → (later : Registers) (ms : List Mark) → sequence (meaning c a) (meaning c b) later ms ≡ (meaning c e).next later ms
  seq_level e a b h later ms = rw (opened_as c e (one.Seq a b) (h ∙ sym (rolls-Seq a b))) refl
