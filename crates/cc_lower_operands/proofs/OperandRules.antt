-- What an expression of each kind becomes, as the code makes it: as an operand.
use Rattle.std.proofs.Common.{◌≡◌, ◌+◌, ℕ, ℤ, Bool, true, false, List, [], ◌∷◌, ◌++◌, map, length, Option, Some, None, refl, ap, sym, ◌∙◌, subst}
use Rattle.std.specs.Prelude.{pos, if◌then◌else◌}
use Rattle.cc_program.specs.CcNum.declared.int_type.IntType.{IntType}
use Rattle.cc_program.specs.CcNum.declared.int_type.IntType.TheVariants as int
use Rattle.cc_program.specs.CcNum.declared.op.BinOp.{BinOp}
use Rattle.cc_program.specs.CcNum.declared.op.UnOp.{UnOp}
use Rattle.cc_program.specs.declared.expr.Expr.{Expr, Const, Null, FuncAddr, Load, AddrOf, Un, Bin, Conv, Qualify, Move, Gap, Compare, Both, Either, Choose, Assign, Change, After, Call, Intr, Seq, out-Expr}
use Rattle.cc_program.specs.declared.expr.Expr.TheVariants.{rolls-Const, rolls-Null, rolls-FuncAddr, outs-Const, outs-Null, outs-FuncAddr, outs-Load, outs-AddrOf, outs-Un, outs-Bin, outs-Conv, outs-Qualify, outs-Move, outs-Gap, outs-Compare, outs-Both, outs-Either, outs-Choose, outs-Assign, outs-Change, outs-After, outs-Call, outs-Intr, outs-Seq}
use Rattle.cc_program.specs.declared.expr.Expr.TheOpen as one
use Rattle.cc_program.specs.declared.expr.Intr.{Intr as Intrinsic}
use Rattle.cc_program.specs.declared.expr.Place.{Place, Local, Static, Device, Element, Member, Deref, out-Place}
use Rattle.cc_program.specs.declared.expr.Place.TheVariants.{rolls-Local, rolls-Static, rolls-Device, outs-Local, outs-Static, outs-Device, outs-Element, outs-Member, outs-Deref}
use Rattle.cc_program.specs.declared.func.Func.{Func}
use Rattle.cc_program.specs.declared.program.Program.{Program}
use Rattle.cc_program.specs.declared.stmt.Stmt.{Do, If}
use Rattle.cc_program.specs.declared.types.CType.{CType}
use Rattle.cc_eval.specs.CcSyntax.Effects.{Registers, Effects, also, effects_of}
use Rattle.cc_eval.specs.CcSyntax.Programs.{type_of}
use Rattle.cc_eval.specs.CcSyntax.Values.{ValueType}
use Rattle.cc_lower_expressions.specs.Expressions.{piece, Make, done, ◌>>=◌, onto, emit, into, set, temp, Lowers, Lowering, PlaceLowering, lowering, place_lowering, place_and, unless_pure, both_value, either_value, choose_value, changed, int_value, arm_as, arm_of, branch, truth_of, read_at, from_one, intr_operand, call, right_value}
use Rattle.cc_eval.specs.Eval.{sum_or_difference, one_more_type}
use Rattle.cc_lower_expressions.specs.Temporaries.{declared_type, is_same_type}
use Rattle.cc_lower_accesses.specs.Modes.{value_type, operand_of, effect_of, place_of, pair_of, placed_of, one_in, one_of, two_in, two_of, read_of, new_of, changed_of, stepped_of, step_value_of, calling_of, intrinsic_of, arm_in, both_of, either_of, condition_in, chosen_of, assigned_of}
use Rattle.cc_lower_operands.proofs.Itself.{itself}
use Rattle.cc_lower_accesses.proofs.Opened.{branch-is, none-behind, level, place_level, low-at, place-low-at, low-type, low-effects, value-is, read-is}

module _ (p : Program) (f : Func) where
  abbrev low : Expr → Lowering
  low e = lowering p f declared_type is_same_type e

  abbrev place_low : Place → PlaceLowering
  place_low a = place_lowering p f declared_type is_same_type a

  operand-at : (e : Expr) (x : one.Expr-F Expr Place) → out-Expr e ≡ x → (L : Registers) (k : ℕ) → operand_of p f e L k ≡ (level p f x).operand L k
  unfolding operand_of
  operand-at e x h L k = ap (λ (l : Lowering). l.operand L k) (low-at p f e x h)

  -- ---- what stays as it is

  pub operand-Const : (n : ℤ) (t : IntType) (L : Registers) (k : ℕ) → operand_of p f (Const n t) L k ≡ piece [] [] (Const n t)
  operand-Const n t L k = operand-at (Const n t) (one.Const n t) (outs-Const n t) L k ∙ ap (piece [] []) (rolls-Const n t)

  pub operand-Null : (t : CType) (L : Registers) (k : ℕ) → operand_of p f (Null t) L k ≡ piece [] [] (Null t)
  operand-Null t L k = operand-at (Null t) (one.Null t) (outs-Null t) L k ∙ ap (piece [] []) (rolls-Null t)

  pub operand-FuncAddr : (g : ℕ) (L : Registers) (k : ℕ) → operand_of p f (FuncAddr g) L k ≡ piece [] [] (FuncAddr g)
  operand-FuncAddr g L k = operand-at (FuncAddr g) (one.FuncAddr g) (outs-FuncAddr g) L k ∙ ap (piece [] []) (rolls-FuncAddr g)

  -- ---- operators

  pub operand-Load : (a : Place) (L : Registers) (k : ℕ) →
      operand_of p f (Load a) L k ≡ (let x = place_of p f a L k in let y = read_of p f a L x.value (k + length x.temps) in piece (x.temps ++ y.temps) (x.stmts ++ y.stmts) y.value)
  unfolding place_of
  operand-Load a L k =
      operand-at (Load a) (one.Load a) (outs-Load a) L k ∙
      ap (λ (m : Make Expr). onto ((place_low a).operands L k) (m (k + length ((place_low a).operands L k).temps))) (read-is p f a L ((place_low a).operands L k).value)

  pub operand-AddrOf : (a : Place) (L : Registers) (k : ℕ) → operand_of p f (AddrOf a) L k ≡ (let x = place_of p f a L k in piece x.temps x.stmts (AddrOf x.value))
  unfolding place_of
  operand-AddrOf a L k = operand-at (AddrOf a) (one.AddrOf a) (outs-AddrOf a) L k

  one-at : (e : Expr) (x : one.Expr-F Expr Place) → out-Expr e ≡ x → (v : Expr) → one_in p f x v ≡ one_of p f e v
  unfolding one_of
  one-at e x h v = sym (ap (λ (y : one.Expr-F Expr Place). one_in p f y v) h)

  two-at : (e : Expr) (x : one.Expr-F Expr Place) → out-Expr e ≡ x → (v w : Expr) → two_in p f x v w ≡ two_of p f e v w
  unfolding two_of
  two-at e x h v w = sym (ap (λ (y : one.Expr-F Expr Place). two_in p f y v w) h)

  pub operand-Un : (o : UnOp) (t : IntType) (a : Expr) (L : Registers) (k : ℕ) → operand_of p f (Un o t a) L k ≡ (let x = operand_of p f a L k in piece x.temps x.stmts (one_of p f (Un o t a) x.value))
  unfolding operand_of
  operand-Un o t a L k =
      operand-at (Un o t a) (one.Un o t a) (outs-Un o t a) L k ∙ (let x = (low a).operand L k in ap (piece x.temps x.stmts) (one-at (Un o t a) (one.Un o t a) (outs-Un o t a) x.value))

  pub operand-Conv : (t : IntType) (a : Expr) (L : Registers) (k : ℕ) → operand_of p f (Conv t a) L k ≡ (let x = operand_of p f a L k in piece x.temps x.stmts (one_of p f (Conv t a) x.value))
  unfolding operand_of
  operand-Conv t a L k =
      operand-at (Conv t a) (one.Conv t a) (outs-Conv t a) L k ∙ (let x = (low a).operand L k in ap (piece x.temps x.stmts) (one-at (Conv t a) (one.Conv t a) (outs-Conv t a) x.value))

  pub operand-Qualify : (t : CType) (a : Expr) (L : Registers) (k : ℕ) → operand_of p f (Qualify t a) L k ≡ (let x = operand_of p f a L k in piece x.temps x.stmts (one_of p f (Qualify t a) x.value))
  unfolding operand_of
  operand-Qualify t a L k =
      operand-at (Qualify t a) (one.Qualify t a) (outs-Qualify t a) L k ∙ (let x = (low a).operand L k in ap (piece x.temps x.stmts) (one-at (Qualify t a) (one.Qualify t a) (outs-Qualify t a) x.value))

  pub operand-Bin : (o : BinOp) (t : IntType) (a b : Expr) (L : Registers) (k : ℕ) → operand_of p f (Bin o t a b) L k ≡ (let x = pair_of p f a b L k in piece x.temps x.stmts (two_of p f (Bin o t a b) x.value.0 x.value.1))
  unfolding pair_of
  operand-Bin o t a b L k =
      operand-at (Bin o t a b) (one.Bin o t a b) (outs-Bin o t a b) L k ∙ (let x = pair_of p f a b L k in ap (piece x.temps x.stmts) (two-at (Bin o t a b) (one.Bin o t a b) (outs-Bin o t a b) x.value.0 x.value.1))

  pub operand-Move : (a b : Expr) (back : Bool) (L : Registers) (k : ℕ) → operand_of p f (Move a b back) L k ≡ (let x = pair_of p f a b L k in piece x.temps x.stmts (two_of p f (Move a b back) x.value.0 x.value.1))
  unfolding pair_of
  operand-Move a b back L k =
      operand-at (Move a b back) (one.Move a b back) (outs-Move a b back) L k ∙ (let x = pair_of p f a b L k in ap (piece x.temps x.stmts) (two-at (Move a b back) (one.Move a b back) (outs-Move a b back) x.value.0 x.value.1))

  pub operand-Gap : (a b : Expr) (L : Registers) (k : ℕ) → operand_of p f (Gap a b) L k ≡ (let x = pair_of p f a b L k in piece x.temps x.stmts (two_of p f (Gap a b) x.value.0 x.value.1))
  unfolding pair_of
  operand-Gap a b L k =
      operand-at (Gap a b) (one.Gap a b) (outs-Gap a b) L k ∙ (let x = pair_of p f a b L k in ap (piece x.temps x.stmts) (two-at (Gap a b) (one.Gap a b) (outs-Gap a b) x.value.0 x.value.1))

  pub operand-Compare : (o : BinOp) (a b : Expr) (L : Registers) (k : ℕ) → operand_of p f (Compare o a b) L k ≡ (let x = pair_of p f a b L k in piece x.temps x.stmts (two_of p f (Compare o a b) x.value.0 x.value.1))
  unfolding pair_of
  operand-Compare o a b L k =
      operand-at (Compare o a b) (one.Compare o a b) (outs-Compare o a b) L k ∙ (let x = pair_of p f a b L k in ap (piece x.temps x.stmts) (two-at (Compare o a b) (one.Compare o a b) (outs-Compare o a b) x.value.0 x.value.1))

  -- ---- branches

  if_pure : (c : Bool) (v : Expr) (m : Make Expr) (k : ℕ) → c ≡ true → (if c then done v else m) k ≡ piece [] [] v
  if_pure c v m k h = ap (λ (b : Bool). (if b then done v else m) k) h

  if_impure : (c : Bool) (v : Expr) (m : Make Expr) (k : ℕ) → c ≡ false → (if c then done v else m) k ≡ m k
  if_impure c v m k h = ap (λ (b : Bool). (if b then done v else m) k) h

  pure-stays : (e : Expr) (m : Lowers Expr) → ((L : Registers) (k : ℕ) → (low e).operand L k ≡ unless_pure (low e).effects (low e).itself m L k) →
      (L : Registers) (k : ℕ) → (effects_of f e).pure L ≡ true → operand_of p f e L k ≡ piece [] [] e
  unfolding operand_of
  pure-stays e m h L k is = h L k ∙ if_pure ((low e).effects.pure L) (low e).itself (m L) k (ap (λ (w : Effects). w.pure L) (low-effects p f e) ∙ is) ∙ ap (piece [] []) (itself p f declared_type is_same_type e)

  impure-goes : (e : Expr) (m : Lowers Expr) → ((L : Registers) (k : ℕ) → (low e).operand L k ≡ unless_pure (low e).effects (low e).itself m L k) →
      (L : Registers) (k : ℕ) → (effects_of f e).pure L ≡ false → operand_of p f e L k ≡ m L k
  unfolding operand_of
  impure-goes e m h L k is = h L k ∙ if_impure ((low e).effects.pure L) (low e).itself (m L) k (ap (λ (w : Effects). w.pure L) (low-effects p f e) ∙ is)

  both-branches : (a b : Expr) (L : Registers) (k : ℕ) →
      (low (Both a b)).operand L k ≡ unless_pure (low (Both a b)).effects (low (Both a b)).itself (both_value p f declared_type is_same_type (low a) (low b)) L k
  both-branches a b L k =
      subst (λ (l : Lowering). l.operand L k ≡ unless_pure l.effects l.itself (both_value p f declared_type is_same_type (low a) (low b)) L k) (sym (low-at p f (Both a b) (one.Both a b) (outs-Both a b))) refl

  pub operand-Both-pure : (a b : Expr) (L : Registers) (k : ℕ) → (effects_of f (Both a b)).pure L ≡ true → operand_of p f (Both a b) L k ≡ piece [] [] (Both a b)
  operand-Both-pure a b L k h = pure-stays (Both a b) (both_value p f declared_type is_same_type (low a) (low b)) (both-branches a b) L k h

  pub operand-Both : (a b : Expr) (L : Registers) (k : ℕ) → (effects_of f (Both a b)).pure L ≡ false → operand_of p f (Both a b) L k ≡ both_of p f a b L k
  unfolding both_of
  operand-Both a b L k h = impure-goes (Both a b) (both_value p f declared_type is_same_type (low a) (low b)) (both-branches a b) L k h

  either-branches : (a b : Expr) (L : Registers) (k : ℕ) →
      (low (Either a b)).operand L k ≡ unless_pure (low (Either a b)).effects (low (Either a b)).itself (either_value p f declared_type is_same_type (low a) (low b)) L k
  either-branches a b L k =
      subst (λ (l : Lowering). l.operand L k ≡ unless_pure l.effects l.itself (either_value p f declared_type is_same_type (low a) (low b)) L k) (sym (low-at p f (Either a b) (one.Either a b) (outs-Either a b))) refl

  pub operand-Either-pure : (a b : Expr) (L : Registers) (k : ℕ) → (effects_of f (Either a b)).pure L ≡ true → operand_of p f (Either a b) L k ≡ piece [] [] (Either a b)
  operand-Either-pure a b L k h = pure-stays (Either a b) (either_value p f declared_type is_same_type (low a) (low b)) (either-branches a b) L k h

  pub operand-Either : (a b : Expr) (L : Registers) (k : ℕ) → (effects_of f (Either a b)).pure L ≡ false → operand_of p f (Either a b) L k ≡ either_of p f a b L k
  unfolding either_of
  operand-Either a b L k h = impure-goes (Either a b) (either_value p f declared_type is_same_type (low a) (low b)) (either-branches a b) L k h

  choose-branches : (c a b : Expr) (L : Registers) (k : ℕ) →
      (low (Choose c a b)).operand L k ≡ unless_pure (low (Choose c a b)).effects (low (Choose c a b)).itself (choose_value (low (Choose c a b)).ctype (low c) (low a) (low b)) L k
  choose-branches c a b L k =
      subst (λ (l : Lowering). l.operand L k ≡ unless_pure l.effects l.itself (choose_value l.ctype (low c) (low a) (low b)) L k) (sym (low-at p f (Choose c a b) (one.Choose c a b) (outs-Choose c a b))) refl

  pub operand-Choose-pure : (c a b : Expr) (L : Registers) (k : ℕ) → (effects_of f (Choose c a b)).pure L ≡ true → operand_of p f (Choose c a b) L k ≡ piece [] [] (Choose c a b)
  operand-Choose-pure c a b L k h = pure-stays (Choose c a b) (choose_value (low (Choose c a b)).ctype (low c) (low a) (low b)) (choose-branches c a b) L k h

  pub operand-Choose : (c a b : Expr) (L : Registers) (k : ℕ) →
      (effects_of f (Choose c a b)).pure L ≡ false → operand_of p f (Choose c a b) L k ≡ chosen_of p f (type_of p f.locals (Choose c a b)) c a b L k
  unfolding chosen_of
  operand-Choose c a b L k h =
      impure-goes (Choose c a b) (choose_value (low (Choose c a b)).ctype (low c) (low a) (low b)) (choose-branches c a b) L k h ∙
      ap (λ (t : Option ValueType). choose_value t (low c) (low a) (low b) L k) (low-type p f (Choose c a b))

  pub condition-is : (c a b : Expr) (L : Registers) (k : ℕ) → condition_in p f c a b L k ≡ operand_of p f c (also (effects_of f a).assigned (also (effects_of f b).assigned L)) k
  unfolding condition_in operand_of
  condition-is c a b L k =
      ap (λ (w : Effects). (low c).operand (also w.assigned (also (low b).effects.assigned L)) k) (low-effects p f a) ∙
      ap (λ (w : Effects). (low c).operand (also (effects_of f a).assigned (also w.assigned L)) k) (low-effects p f b)

  pub arm-is : (b : Expr) (L : Registers) (n k : ℕ) →
      arm_in p f b L n k ≡ (let x = operand_of p f b L k in piece x.temps (x.stmts ++ set n (truth_of p f declared_type is_same_type (type_of p f.locals b) x.value) ∷ []) tt)
  unfolding arm_in operand_of
  arm-is b L n k =
      let x = (low b).operand L k in
      none-behind x.temps (x.stmts ++ set n (truth_of p f declared_type is_same_type (low b).ctype x.value) ∷ []) tt ∙
      ap (λ (t : Option ValueType). piece x.temps (x.stmts ++ set n (truth_of p f declared_type is_same_type t x.value) ∷ []) tt) (low-type p f b)

  pub both-is : (a b : Expr) (L : Registers) (k : ℕ) →
      both_of p f a b L k ≡
      (let x = operand_of p f a (also (effects_of f b).assigned L) k in let n = k + length x.temps in let y = arm_in p f b L n (n + 1) in
      piece (x.temps ++ int_value ∷ (y.temps ++ [])) (x.stmts ++ If x.value y.stmts (set n (Const (pos 0) int.Int) ∷ []) ∷ []) (temp n))
  unfolding both_of operand_of arm_in
  both-is a b L k =
      ap (λ (w : Effects). branch int_value ((low a).operand (also w.assigned L)) (arm_of p f declared_type is_same_type (low b) L) (arm_as 0) k) (low-effects p f b) ∙
      branch-is int_value ((low a).operand (also (effects_of f b).assigned L)) (arm_of p f declared_type is_same_type (low b) L) (arm_as 0) k

  pub either-is : (a b : Expr) (L : Registers) (k : ℕ) →
      either_of p f a b L k ≡
      (let x = operand_of p f a (also (effects_of f b).assigned L) k in let n = k + length x.temps in let y = arm_in p f b L n (n + 1 + 0) in
      piece (x.temps ++ int_value ∷ y.temps) (x.stmts ++ If x.value (set n (Const (pos 1) int.Int) ∷ []) y.stmts ∷ []) (temp n))
  unfolding either_of operand_of arm_in
  either-is a b L k =
      ap (λ (w : Effects). branch int_value ((low a).operand (also w.assigned L)) (arm_as 1) (arm_of p f declared_type is_same_type (low b) L) k) (low-effects p f b) ∙
      branch-is int_value ((low a).operand (also (effects_of f b).assigned L)) (arm_as 1) (arm_of p f declared_type is_same_type (low b) L) k

  -- ---- assignments

  pub operand-Assign : (a : Place) (e : Expr) (L : Registers) (k : ℕ) → operand_of p f (Assign a e) L k ≡ assigned_of p f a e L k
  unfolding assigned_of
  operand-Assign a e L k = operand-at (Assign a e) (one.Assign a e) (outs-Assign a e) L k

  -- with what is read from the place, and its type
  change_by : Option ValueType → (Place → Make Expr) → BinOp → IntType → Place × Expr → Make Expr
  change_by own read o t x = read x.0 >>= (λ old. done (changed p f declared_type is_same_type o t own old x.1)) >>= (λ v. into own v >>= (λ n. emit (Do (Assign x.0 n)) >>= (λ u. done n)))

  pub operand-Change : (a : Place) (o : BinOp) (t : IntType) (e : Expr) (L : Registers) (k : ℕ) →
      operand_of p f (Change a o t e) L k ≡
      (let x = placed_of p f a e L k in let y = changed_of p f a o t x.value.0 x.value.1 L (k + length x.temps) in piece (x.temps ++ y.temps) (x.stmts ++ y.stmts) y.value)
  unfolding placed_of changed_of new_of change_by
  operand-Change a o t e L k =
      operand-at (Change a o t e) (one.Change a o t e) (outs-Change a o t e) L k ∙
      (let x = place_and (place_low a) (low e) L k in
      ap (λ (own : Option ValueType). onto x (change_by own (read_at (place_low a) L) o t x.value (k + length x.temps))) (value-is p f a) ∙
      ap (λ (m : Make Expr). onto x ((m >>= (λ old. done (changed p f declared_type is_same_type o t (value_type p f a) old x.value.1)) >>= (λ v. into (value_type p f a) v >>= (λ n. emit (Do (Assign x.value.0 n)) >>= (λ u. done n)))) (k + length x.temps))) (read-is p f a L x.value.0))

  step_by : Option ValueType → Bool → Place → Make Expr
  step_by own down b =
      into own (Load b) >>= (λ old. emit (Do (Assign b (changed p f declared_type is_same_type (sum_or_difference down) (one_more_type p.target own) own old (Const (pos 1) (one_more_type p.target own))))) >>= (λ u. done old))

  pub operand-After : (a : Place) (down : Bool) (L : Registers) (k : ℕ) →
      operand_of p f (After a down) L k ≡
      (let x = place_of p f a L k in let y = step_value_of p f a down x.value (k + length x.temps) in piece (x.temps ++ y.temps) (x.stmts ++ y.stmts) y.value)
  unfolding place_of step_value_of stepped_of step_by
  operand-After a down L k =
      operand-at (After a down) (one.After a down) (outs-After a down) L k ∙
      (let x = (place_low a).operands L k in ap (λ (own : Option ValueType). onto x (step_by own down x.value (k + length x.temps))) (value-is p f a))

  -- ---- calls, and a comma

  pub operand-Call : (g : Expr) (args : List Expr) (L : Registers) (k : ℕ) →
      operand_of p f (Call g args) L k ≡
      (let x = calling_of p f g args L k in let n = k + length x.temps in piece (x.temps ++ type_of p f.locals (Call g args) ∷ []) (x.stmts ++ set n x.value ∷ []) (temp n))
  unfolding operand_of calling_of
  operand-Call g args L k =
      subst (λ (l : Lowering). l.operand L k ≡ right_value l.ctype (call p f declared_type is_same_type (low g) (map low args)) L k) (sym (low-at p f (Call g args) (one.Call g args) (outs-Call g args))) refl ∙
      ap (λ (t : Option ValueType). right_value t (call p f declared_type is_same_type (low g) (map low args)) L k) (low-type p f (Call g args))

  pub operand-Intr : (i : Intrinsic) (a : Option Expr) (L : Registers) (k : ℕ) →
      operand_of p f (Intr i a) L k ≡
      (let x = intrinsic_of p f i a L k in let n = k + length x.temps in piece (x.temps ++ type_of p f.locals (Intr i a) ∷ []) (x.stmts ++ set n x.value ∷ []) (temp n))
  unfolding operand_of intrinsic_of
  operand-Intr i None L k =
      subst (λ (l : Lowering). l.operand L k ≡ right_value l.ctype (from_one (Intr i) (intr_operand None)) L k) (sym (low-at p f (Intr i None) (one.Intr i None) (outs-Intr i None))) refl ∙
      ap (λ (t : Option ValueType). right_value t (from_one (Intr i) (intr_operand None)) L k) (low-type p f (Intr i None))
  operand-Intr i (Some a) L k =
      subst (λ (l : Lowering). l.operand L k ≡ right_value l.ctype (from_one (Intr i) (intr_operand (Some (low a)))) L k) (sym (low-at p f (Intr i (Some a)) (one.Intr i (Some a)) (outs-Intr i (Some a)))) refl ∙
      ap (λ (t : Option ValueType). right_value t (from_one (Intr i) (intr_operand (Some (low a)))) L k) (low-type p f (Intr i (Some a)))

  pub operand-Seq : (a b : Expr) (L : Registers) (k : ℕ) →
      operand_of p f (Seq a b) L k ≡
      (let x = effect_of p f a (also (effects_of f b).assigned L) k in let y = operand_of p f b L (k + length x.temps) in piece (x.temps ++ y.temps) (x.stmts ++ y.stmts) y.value)
  unfolding operand_of effect_of
  operand-Seq a b L k =
      operand-at (Seq a b) (one.Seq a b) (outs-Seq a b) L k ∙ ap (λ (w : Effects). ((low a).effect (also w.assigned L) >>= (λ u. (low b).operand L)) k) (low-effects p f b)

  pub intrinsic-None : (i : Intrinsic) (L : Registers) (k : ℕ) → intrinsic_of p f i None L k ≡ piece [] [] (Intr i None)
  unfolding intrinsic_of
  intrinsic-None i L k = refl

  pub intrinsic-Some : (i : Intrinsic) (a : Expr) (L : Registers) (k : ℕ) → intrinsic_of p f i (Some a) L k ≡ (let x = operand_of p f a L k in piece x.temps x.stmts (Intr i (Some x.value)))
  unfolding intrinsic_of operand_of
  intrinsic-Some i a L k = refl

  -- ---- places

  place-at : (a : Place) (x : one.Place-F Expr Place) → out-Place a ≡ x → (L : Registers) (k : ℕ) → place_of p f a L k ≡ (place_level p f x).operands L k
  unfolding place_of
  place-at a x h L k = ap (λ (l : PlaceLowering). l.operands L k) (place-low-at p f a x h)

  pub place-Local : (r : ℕ) (L : Registers) (k : ℕ) → place_of p f (Local r) L k ≡ piece [] [] (Local r)
  place-Local r L k = place-at (Local r) (one.Local r) (outs-Local r) L k ∙ ap (piece [] []) (rolls-Local r)

  pub place-Static : (r : ℕ) (L : Registers) (k : ℕ) → place_of p f (Static r) L k ≡ piece [] [] (Static r)
  place-Static r L k = place-at (Static r) (one.Static r) (outs-Static r) L k ∙ ap (piece [] []) (rolls-Static r)

  pub place-Device : (r : ℕ) (L : Registers) (k : ℕ) → place_of p f (Device r) L k ≡ piece [] [] (Device r)
  place-Device r L k = place-at (Device r) (one.Device r) (outs-Device r) L k ∙ ap (piece [] []) (rolls-Device r)

  pub place-Element : (a : Place) (e : Expr) (L : Registers) (k : ℕ) → place_of p f (Element a e) L k ≡ (let x = placed_of p f a e L k in piece x.temps x.stmts (Element x.value.0 x.value.1))
  unfolding placed_of
  place-Element a e L k = place-at (Element a e) (one.Element a e) (outs-Element a e) L k

  pub place-Member : (a : Place) (m : ℕ) (L : Registers) (k : ℕ) → place_of p f (Member a m) L k ≡ (let x = place_of p f a L k in piece x.temps x.stmts (Member x.value m))
  unfolding place_of
  place-Member a m L k = place-at (Member a m) (one.Member a m) (outs-Member a m) L k

  pub place-Deref : (e : Expr) (L : Registers) (k : ℕ) → place_of p f (Deref e) L k ≡ (let x = operand_of p f e L k in piece x.temps x.stmts (Deref x.value))
  unfolding operand_of
  place-Deref e L k = place-at (Deref e) (one.Deref e) (outs-Deref e) L k
