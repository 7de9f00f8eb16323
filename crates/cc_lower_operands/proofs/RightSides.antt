-- What an expression of each kind becomes, as the code makes it: as a whole right side, and as an expression statement.
use Rattle.std.proofs.Common.{◌≡◌, ◌+◌, ℕ, Bool, true, false, List, [], ◌∷◌, ◌++◌, map, length, Option, Some, None, refl, ap, sym, ◌∙◌, subst}
use Rattle.std.specs.Prelude.{pos, is_some, if◌then◌else◌}
use Rattle.cc_program.specs.CcNum.declared.int_type.IntType.{IntType}
use Rattle.cc_program.specs.CcNum.declared.op.BinOp.{BinOp}
use Rattle.cc_program.specs.declared.expr.Expr.{Expr, Const, Load, Both, Either, Choose, Assign, Change, After, Call, Intr, Seq, roll-Expr, out-Expr, roll-out-Expr}
use Rattle.cc_program.specs.declared.expr.Expr.TheVariants.{rolls-Load, rolls-Both, rolls-Either, rolls-Choose, rolls-Assign, rolls-Change, rolls-After, rolls-Call, rolls-Intr, rolls-Seq, outs-Load, outs-Both, outs-Either, outs-Choose, outs-Assign, outs-Change, outs-After, outs-Call, outs-Intr, outs-Seq}
use Rattle.cc_program.specs.declared.expr.Expr.TheOpen as one
use Rattle.cc_program.specs.declared.expr.Intr.{Intr as Intrinsic}
use Rattle.cc_program.specs.declared.expr.Place.{Place}
use Rattle.cc_program.specs.declared.func.Func.{Func}
use Rattle.cc_program.specs.declared.program.Program.{Program}
use Rattle.cc_program.specs.declared.stmt.Stmt.{Do}
use Rattle.cc_eval.specs.CcSyntax.Effects.{Registers, Effects, PlaceEffects, also, effects_of, place_effects_of}
use Rattle.cc_eval.specs.CcSyntax.Programs.{type_of}
use Rattle.cc_eval.specs.CcSyntax.Values.{ValueType}
use Rattle.cc_lower_expressions.specs.Expressions.{piece, Make, done, ◌>>=◌, onto, emit, into, set, Lowers, Lowering, PlaceLowering, lowering, place_lowering, place_and, choose_void, changed, unused, mapped, number_of, choose_alone, value_of, read_at, from_one, intr_operand, call, whole_by, whole_right, is_void_value, branch_alone, effect_by}
use Rattle.cc_eval.specs.Eval.{sum_or_difference, one_more_type}
use Rattle.cc_lower_expressions.specs.Temporaries.{declared_type, is_same_type}
use Rattle.cc_lower_accesses.specs.Modes.{value_type, operand_of, whole_of, effect_of, place_of, placed_of, right_of, whole_read_of, new_of, change_of, stepped_of, step_of, calling_of, intrinsic_of, chosen_void_of}
use Rattle.cc_lower_operands.specs.Branches.{alone_of}
use Rattle.cc_lower_accesses.proofs.Opened.{then-assoc, none-behind, level, low-at, low-type, low-effects, place-low-effects, value-is, read-is}

module _ (p : Program) (f : Func) where
  abbrev low : Expr → Lowering
  low e = lowering p f declared_type is_same_type e

  abbrev place_low : Place → PlaceLowering
  place_low a = place_lowering p f declared_type is_same_type a

  whole-at : (e : Expr) (x : one.Expr-F Expr Place) → out-Expr e ≡ x → (t : Option ValueType) (n : ℕ) (L : Registers) (k : ℕ) → whole_of p f e t n L k ≡ (level p f x).whole t n L k
  unfolding whole_of
  whole-at e x h t n L k = ap (λ (l : Lowering). l.whole t n L k) (low-at p f e x h)

  -- ---- a whole right side

  read_by : Bool → Option ValueType → (Place → Make Expr) → Make Place → Option ValueType → ℕ → Make (Unit {0})
  read_by is own read ops t n =
      if is then ((ops >>= read) >>= (λ v. emit (set n v))) else (λ k. mapped Load (ops k)) >>= (λ e. if is_same_type own t then emit (set n e) else (into own e >>= (λ v. emit (set n v))))

  read_behind : Bool → Option ValueType → (Place → Make Expr) → Place → Option ValueType → ℕ → Make (Unit {0})
  read_behind is own read b t n =
      if is then (read b >>= (λ v. emit (set n v))) else (if is_same_type own t then emit (set n (Load b)) else (into own (Load b) >>= (λ v. emit (set n v))))

  read-split : (is : Bool) (own : Option ValueType) (read : Place → Make Expr) (ops : Make Place) (t : Option ValueType) (n k : ℕ) →
      read_by is own read ops t n k ≡ onto (ops k) (read_behind is own read (ops k).value t n (k + length (ops k).temps))
  unfolding read_by read_behind
  read-split true own read ops t n k =
      let x = ops k in let y = read x.value (k + length x.temps) in
      then-assoc x y (piece [] (set n y.value ∷ []) tt)
  read-split false own read ops t n k = refl

  pub whole-Load : (a : Place) (t : Option ValueType) (n : ℕ) (L : Registers) (k : ℕ) →
      whole_of p f (Load a) t n L k ≡
      (let x = place_of p f a L k in let y = whole_read_of p f a x.value t n L (k + length x.temps) in piece (x.temps ++ y.temps) (x.stmts ++ y.stmts) tt)
  unfolding whole_read_of right_of place_of read_behind read_by
  whole-Load a t n L k =
      whole-at (Load a) (one.Load a) (outs-Load a) t n L k ∙
      read-split (is_some (place_low a).effects.register) (value_of (place_low a)) (read_at (place_low a) L) ((place_low a).operands L) t n k ∙
      (let x = (place_low a).operands L k in
      ap (λ (w : PlaceEffects). onto x (read_behind (is_some w.register) (value_of (place_low a)) (read_at (place_low a) L) x.value t n (k + length x.temps))) (place-low-effects p f a) ∙
      ap (λ (own : Option ValueType). onto x (read_behind (is_some (place_effects_of f a).register) own (read_at (place_low a) L) x.value t n (k + length x.temps))) (value-is p f a) ∙
      ap (λ (m : Make Expr). onto x ((if is_some (place_effects_of f a).register then (m >>= (λ v. emit (set n v))) else (if is_same_type (value_type p f a) t then emit (set n (Load x.value)) else (into (value_type p f a) (Load x.value) >>= (λ v. emit (set n v))))) (k + length x.temps))) (read-is p f a L x.value))

  pub whole-Call : (g : Expr) (args : List Expr) (t : Option ValueType) (n : ℕ) (L : Registers) (k : ℕ) →
      whole_of p f (Call g args) t n L k ≡
      (let x = calling_of p f g args L k in let y = right_of p f (type_of p f.locals (Call g args)) x.value t n (k + length x.temps) in piece (x.temps ++ y.temps) (x.stmts ++ y.stmts) tt)
  unfolding whole_of calling_of right_of
  whole-Call g args t n L k =
      subst (λ (l : Lowering). l.whole t n L k ≡ whole_right p f declared_type is_same_type l.ctype (call p f declared_type is_same_type (low g) (map low args)) t n L k) (sym (low-at p f (Call g args) (one.Call g args) (outs-Call g args))) refl ∙
      ap (λ (own : Option ValueType). whole_right p f declared_type is_same_type own (call p f declared_type is_same_type (low g) (map low args)) t n L k) (low-type p f (Call g args))

  whole-Intr-by : (i : Intrinsic) (a : Option Expr) (b : Option Lowering) → ((low (Intr i a)).whole ≡ whole_right p f declared_type is_same_type (low (Intr i a)).ctype (from_one (Intr i) (intr_operand b))) →
      (t : Option ValueType) (n : ℕ) (L : Registers) (k : ℕ) →
      (low (Intr i a)).whole t n L k ≡
      (let x = from_one (Intr i) (intr_operand b) L k in let y = right_of p f (type_of p f.locals (Intr i a)) x.value t n (k + length x.temps) in piece (x.temps ++ y.temps) (x.stmts ++ y.stmts) tt)
  unfolding right_of
  whole-Intr-by i a b h t n L k =
      ap (λ (m : Option ValueType → ℕ → Lowers (Unit {0})). m t n L k) h ∙
      ap (λ (own : Option ValueType). whole_right p f declared_type is_same_type own (from_one (Intr i) (intr_operand b)) t n L k) (low-type p f (Intr i a))

  pub whole-Intr : (i : Intrinsic) (a : Option Expr) (t : Option ValueType) (n : ℕ) (L : Registers) (k : ℕ) →
      whole_of p f (Intr i a) t n L k ≡
      (let x = intrinsic_of p f i a L k in let y = right_of p f (type_of p f.locals (Intr i a)) x.value t n (k + length x.temps) in piece (x.temps ++ y.temps) (x.stmts ++ y.stmts) tt)
  unfolding whole_of intrinsic_of
  whole-Intr i None t n L k =
      whole-Intr-by i None None (subst (λ (l : Lowering). l.whole ≡ whole_right p f declared_type is_same_type l.ctype (from_one (Intr i) (intr_operand None))) (sym (low-at p f (Intr i None) (one.Intr i None) (outs-Intr i None))) refl) t n L k
  whole-Intr i (Some a) t n L k =
      whole-Intr-by i (Some a) (Some (low a)) (subst (λ (l : Lowering). l.whole ≡ whole_right p f declared_type is_same_type l.ctype (from_one (Intr i) (intr_operand (Some (low a))))) (sym (low-at p f (Intr i (Some a)) (one.Intr i (Some a)) (outs-Intr i (Some a)))) refl) t n L k

  pub whole-Seq : (a b : Expr) (t : Option ValueType) (n : ℕ) (L : Registers) (k : ℕ) →
      whole_of p f (Seq a b) t n L k ≡
      (let x = effect_of p f a (also (effects_of f b).assigned L) k in let y = whole_of p f b t n L (k + length x.temps) in piece (x.temps ++ y.temps) (x.stmts ++ y.stmts) tt)
  unfolding whole_of effect_of
  whole-Seq a b t n L k =
      whole-at (Seq a b) (one.Seq a b) (outs-Seq a b) t n L k ∙ ap (λ (w : Effects). ((low a).effect (also w.assigned L) >>= (λ u. (low b).whole t n L)) k) (low-effects p f b)

  -- all others are operands first
  whole-by-operand : (x : one.Expr-F Expr Place) →
      ((a : Place) → x ≡ one.Load a → ⊥) → ((g : Expr) (args : List Expr) → x ≡ one.Call g args → ⊥) →
      ((i : Intrinsic) (a : Option Expr) → x ≡ one.Intr i a → ⊥) → ((a b : Expr) → x ≡ one.Seq a b → ⊥) →
      (level p f x).whole ≡ whole_by (level p f x).operand
  whole-by-operand (one.Const n t) load call intr seq = refl
  whole-by-operand (one.Null t) load call intr seq = refl
  whole-by-operand (one.FuncAddr g) load call intr seq = refl
  whole-by-operand (one.Load a) load call intr seq = absurd (load a refl)
  whole-by-operand (one.AddrOf a) load call intr seq = refl
  whole-by-operand (one.Un o t a) load call intr seq = refl
  whole-by-operand (one.Bin o t a b) load call intr seq = refl
  whole-by-operand (one.Conv t a) load call intr seq = refl
  whole-by-operand (one.Qualify t a) load call intr seq = refl
  whole-by-operand (one.Move a b back) load call intr seq = refl
  whole-by-operand (one.Gap a b) load call intr seq = refl
  whole-by-operand (one.Compare o a b) load call intr seq = refl
  whole-by-operand (one.Both a b) load call intr seq = refl
  whole-by-operand (one.Either a b) load call intr seq = refl
  whole-by-operand (one.Choose c a b) load call intr seq = refl
  whole-by-operand (one.Assign a e) load call intr seq = refl
  whole-by-operand (one.Change a o t e) load call intr seq = refl
  whole-by-operand (one.After a down) load call intr seq = refl
  whole-by-operand (one.Call g args) load call intr seq = absurd (call g args refl)
  whole-by-operand (one.Intr i a) load call intr seq = absurd (intr i a refl)
  whole-by-operand (one.Seq a b) load call intr seq = absurd (seq a b refl)

  pub whole-other : (e : Expr) →
      ((a : Place) → e ≡ Load a → ⊥) → ((g : Expr) (args : List Expr) → e ≡ Call g args → ⊥) →
      ((i : Intrinsic) (a : Option Expr) → e ≡ Intr i a → ⊥) → ((a b : Expr) → e ≡ Seq a b → ⊥) →
      (t : Option ValueType) (n : ℕ) (L : Registers) (k : ℕ) → whole_of p f e t n L k ≡ (operand_of p f e L >>= (λ v. emit (set n v))) k
  unfolding whole_of operand_of
  whole-other e load call intr seq t n L k =
      let is : (x : one.Expr-F Expr Place) → out-Expr e ≡ x → e ≡ roll-Expr x = λ x h. sym (roll-out-Expr e) ∙ ap roll-Expr h in
      ap (λ (l : Lowering). l.whole t n L k) (low-at p f e (out-Expr e) refl) ∙
      ap (λ (m : Option ValueType → ℕ → Lowers (Unit {0})). m t n L k)
      (whole-by-operand (out-Expr e)
      (λ a h. load a (is (one.Load a) h ∙ rolls-Load a))
      (λ g args h. call g args (is (one.Call g args) h ∙ rolls-Call g args))
      (λ i a h. intr i a (is (one.Intr i a) h ∙ rolls-Intr i a))
      (λ a b h. seq a b (is (one.Seq a b) h ∙ rolls-Seq a b))) ∙
      sym (ap (λ (l : Lowering). whole_by l.operand t n L k) (low-at p f e (out-Expr e) refl))

  -- ---- an expression statement

  effect-at : (e : Expr) (x : one.Expr-F Expr Place) → out-Expr e ≡ x → (L : Registers) (k : ℕ) → effect_of p f e L k ≡ (level p f x).effect L k
  unfolding effect_of
  effect-at e x h L k = ap (λ (l : Lowering). l.effect L k) (low-at p f e x h)

  pub effect-Load : (a : Place) (L : Registers) (k : ℕ) →
      effect_of p f (Load a) L k ≡
      (let x = place_of p f a L (k + 1) in let y = whole_read_of p f a x.value (value_type p f a) k L (k + 1 + length x.temps) in piece (value_type p f a ∷ (x.temps ++ y.temps)) (x.stmts ++ y.stmts) tt)
  unfolding whole_of
  effect-Load a L k =
      effect-at (Load a) (one.Load a) (outs-Load a) L k ∙
      ap (λ (t : Option ValueType). onto (piece (t ∷ []) [] k) ((level p f (one.Load a)).whole t k L (k + 1))) (value-is p f a) ∙
      ap (onto (piece (value_type p f a ∷ []) [] k)) (sym (whole-at (Load a) (one.Load a) (outs-Load a) (value_type p f a) k L (k + 1)) ∙ whole-Load a (value_type p f a) k L (k + 1))

  -- those that are branches
  branch-splits : (c : Bool) (t : Option ValueType) (m : Make Expr) (k : ℕ) → (if c then (m >>= unused t) else (m >>= (λ v. done tt))) k ≡ (m >>= alone_of c t) k
  branch-splits true t m k = refl
  branch-splits false t m k = refl

  alone-by : (e : Expr) (L : Registers) (k : ℕ) → (low e).effect L k ≡ branch_alone (low e).effects (low e).ctype (low e).operand L k →
      effect_of p f e L k ≡ (operand_of p f e L >>= alone_of ((effects_of f e).pure L) (type_of p f.locals e)) k
  unfolding effect_of operand_of
  alone-by e L k h =
      h ∙ branch-splits ((low e).effects.pure L) (low e).ctype ((low e).operand L) k ∙
      ap (λ (w : Effects). ((low e).operand L >>= alone_of (w.pure L) (low e).ctype) k) (low-effects p f e) ∙
      ap (λ (t : Option ValueType). ((low e).operand L >>= alone_of ((effects_of f e).pure L) t) k) (low-type p f e)

  pub effect-Both : (a b : Expr) (L : Registers) (k : ℕ) →
      effect_of p f (Both a b) L k ≡ (operand_of p f (Both a b) L >>= alone_of ((effects_of f (Both a b)).pure L) (type_of p f.locals (Both a b))) k
  effect-Both a b L k = alone-by (Both a b) L k (subst (λ (l : Lowering). l.effect L k ≡ branch_alone l.effects l.ctype l.operand L k) (sym (low-at p f (Both a b) (one.Both a b) (outs-Both a b))) refl)

  pub effect-Either : (a b : Expr) (L : Registers) (k : ℕ) →
      effect_of p f (Either a b) L k ≡ (operand_of p f (Either a b) L >>= alone_of ((effects_of f (Either a b)).pure L) (type_of p f.locals (Either a b))) k
  effect-Either a b L k = alone-by (Either a b) L k (subst (λ (l : Lowering). l.effect L k ≡ branch_alone l.effects l.ctype l.operand L k) (sym (low-at p f (Either a b) (one.Either a b) (outs-Either a b))) refl)

  pub effect-Choose-void : (c a b : Expr) (L : Registers) (k : ℕ) → is_void_value (type_of p f.locals (Choose c a b)) ≡ true → effect_of p f (Choose c a b) L k ≡ chosen_void_of p f c a b L k
  unfolding effect_of chosen_void_of
  effect-Choose-void c a b L k h =
      subst (λ (l : Lowering). l.effect L k ≡ choose_alone l.effects l.ctype l.operand (choose_void (low c) (low a) (low b)) L k) (sym (low-at p f (Choose c a b) (one.Choose c a b) (outs-Choose c a b))) refl ∙
      (let l = low (Choose c a b) in ap (λ (v : Bool). (if v then choose_void (low c) (low a) (low b) L else branch_alone l.effects l.ctype l.operand L) k) (ap is_void_value (low-type p f (Choose c a b)) ∙ h))

  choose-alone : (c a b : Expr) (L : Registers) (k : ℕ) → is_void_value (type_of p f.locals (Choose c a b)) ≡ false →
      (low (Choose c a b)).effect L k ≡ branch_alone (low (Choose c a b)).effects (low (Choose c a b)).ctype (low (Choose c a b)).operand L k
  choose-alone c a b L k h =
      subst (λ (l : Lowering). l.effect L k ≡ choose_alone l.effects l.ctype l.operand (choose_void (low c) (low a) (low b)) L k) (sym (low-at p f (Choose c a b) (one.Choose c a b) (outs-Choose c a b))) refl ∙
      (let l = low (Choose c a b) in ap (λ (v : Bool). (if v then choose_void (low c) (low a) (low b) L else branch_alone l.effects l.ctype l.operand L) k) (ap is_void_value (low-type p f (Choose c a b)) ∙ h))

  pub effect-Choose : (c a b : Expr) (L : Registers) (k : ℕ) → is_void_value (type_of p f.locals (Choose c a b)) ≡ false →
      effect_of p f (Choose c a b) L k ≡ (operand_of p f (Choose c a b) L >>= alone_of ((effects_of f (Choose c a b)).pure L) (type_of p f.locals (Choose c a b))) k
  effect-Choose c a b L k v = alone-by (Choose c a b) L k (choose-alone c a b L k v)

  -- ---- assignments

  assign_by : Option ℕ → Option ValueType → Place → Expr → Registers → Make (Unit {0})
  assign_by r t a e L = if is_some r then (low e).whole t (number_of r) L else (place_and (place_low a) (low e) L >>= (λ x. emit (Do (Assign x.0 x.1))))

  assign-opens : (a : Place) (e : Expr) (L : Registers) (k : ℕ) → effect_of p f (Assign a e) L k ≡ assign_by (place_effects_of f a).register (value_type p f a) a e L k
  unfolding assign_by
  assign-opens a e L k =
      effect-at (Assign a e) (one.Assign a e) (outs-Assign a e) L k ∙
      ap (λ (w : PlaceEffects). assign_by w.register (value_of (place_low a)) a e L k) (place-low-effects p f a) ∙
      ap (λ (t : Option ValueType). assign_by (place_effects_of f a).register t a e L k) (value-is p f a)

  pub effect-Assign-register : (a : Place) (e : Expr) (r : ℕ) (L : Registers) (k : ℕ) → (place_effects_of f a).register ≡ Some r →
      effect_of p f (Assign a e) L k ≡ whole_of p f e (value_type p f a) r L k
  unfolding assign_by whole_of
  effect-Assign-register a e r L k h = assign-opens a e L k ∙ ap (λ (s : Option ℕ). assign_by s (value_type p f a) a e L k) h

  pub effect-Assign : (a : Place) (e : Expr) (L : Registers) (k : ℕ) → (place_effects_of f a).register ≡ None →
      effect_of p f (Assign a e) L k ≡ (let x = placed_of p f a e L k in piece x.temps (x.stmts ++ Do (Assign x.value.0 x.value.1) ∷ []) tt)
  unfolding assign_by placed_of
  effect-Assign a e L k h =
      (let x = place_and (place_low a) (low e) L k in
      assign-opens a e L k ∙ ap (λ (s : Option ℕ). assign_by s (value_type p f a) a e L k) h ∙ none-behind x.temps (x.stmts ++ Do (Assign x.value.0 x.value.1) ∷ []) tt)

  alone_by : Option ValueType → (Place → Make Expr) → BinOp → IntType → Place × Expr → Make (Unit {0})
  alone_by own read o t x = read x.0 >>= (λ old. done (changed p f declared_type is_same_type o t own old x.1)) >>= (λ v. emit (Do (Assign x.0 v)))

  pub effect-Change : (a : Place) (o : BinOp) (t : IntType) (e : Expr) (L : Registers) (k : ℕ) →
      effect_of p f (Change a o t e) L k ≡
      (let x = placed_of p f a e L k in let y = change_of p f a o t x.value.0 x.value.1 L (k + length x.temps) in piece (x.temps ++ y.temps) (x.stmts ++ y.stmts) tt)
  unfolding placed_of change_of new_of alone_by
  effect-Change a o t e L k =
      effect-at (Change a o t e) (one.Change a o t e) (outs-Change a o t e) L k ∙
      (let x = place_and (place_low a) (low e) L k in
      ap (λ (own : Option ValueType). onto x (alone_by own (read_at (place_low a) L) o t x.value (k + length x.temps))) (value-is p f a) ∙
      ap (λ (m : Make Expr). onto x ((m >>= (λ old. done (changed p f declared_type is_same_type o t (value_type p f a) old x.value.1)) >>= (λ v. emit (Do (Assign x.value.0 v)))) (k + length x.temps))) (read-is p f a L x.value.0))

  step_alone_by : Option ValueType → (Place → Make Expr) → Bool → Place → Make (Unit {0})
  step_alone_by own read down b =
      read b >>= (λ old. emit (Do (Assign b (changed p f declared_type is_same_type (sum_or_difference down) (one_more_type p.target own) own old (Const (pos 1) (one_more_type p.target own))))))

  pub effect-After : (a : Place) (down : Bool) (L : Registers) (k : ℕ) →
      effect_of p f (After a down) L k ≡
      (let x = place_of p f a L k in let y = step_of p f a down x.value L (k + length x.temps) in piece (x.temps ++ y.temps) (x.stmts ++ y.stmts) tt)
  unfolding place_of step_of stepped_of step_alone_by
  effect-After a down L k =
      effect-at (After a down) (one.After a down) (outs-After a down) L k ∙
      (let x = (place_low a).operands L k in
      ap (λ (own : Option ValueType). onto x (step_alone_by own (read_at (place_low a) L) down x.value (k + length x.temps))) (value-is p f a) ∙
      ap (λ (m : Make Expr). onto x ((m >>= (λ old. emit (Do (Assign x.value (stepped_of p f a down old))))) (k + length x.temps))) (read-is p f a L x.value))

  -- ---- calls, and a comma

  pub effect-Call : (g : Expr) (args : List Expr) (L : Registers) (k : ℕ) →
      effect_of p f (Call g args) L k ≡ (let x = calling_of p f g args L k in piece x.temps (x.stmts ++ Do x.value ∷ []) tt)
  unfolding calling_of
  effect-Call g args L k =
      effect-at (Call g args) (one.Call g args) (outs-Call g args) L k ∙
      (let x = calling_of p f g args L k in none-behind x.temps (x.stmts ++ Do x.value ∷ []) tt)

  pub effect-Intr : (i : Intrinsic) (a : Option Expr) (L : Registers) (k : ℕ) →
      effect_of p f (Intr i a) L k ≡ (let x = intrinsic_of p f i a L k in piece x.temps (x.stmts ++ Do x.value ∷ []) tt)
  unfolding intrinsic_of
  effect-Intr i None L k = effect-at (Intr i None) (one.Intr i None) (outs-Intr i None) L k
  effect-Intr i (Some a) L k =
      effect-at (Intr i (Some a)) (one.Intr i (Some a)) (outs-Intr i (Some a)) L k ∙
      (let x = intrinsic_of p f i (Some a) L k in none-behind x.temps (x.stmts ++ Do x.value ∷ []) tt)

  pub effect-Seq : (a b : Expr) (L : Registers) (k : ℕ) →
      effect_of p f (Seq a b) L k ≡
      (let x = effect_of p f a (also (effects_of f b).assigned L) k in let y = effect_of p f b L (k + length x.temps) in piece (x.temps ++ y.temps) (x.stmts ++ y.stmts) tt)
  unfolding effect_of
  effect-Seq a b L k =
      effect-at (Seq a b) (one.Seq a b) (outs-Seq a b) L k ∙ ap (λ (w : Effects). ((low a).effect (also w.assigned L) >>= (λ u. (low b).effect L)) k) (low-effects p f b)

  -- all others are operands first, which nobody uses
  effect-by-operand : (x : one.Expr-F Expr Place) →
      ((a : Place) → x ≡ one.Load a → ⊥) → ((a b : Expr) → x ≡ one.Both a b → ⊥) → ((a b : Expr) → x ≡ one.Either a b → ⊥) →
      ((c a b : Expr) → x ≡ one.Choose c a b → ⊥) → ((a : Place) (e : Expr) → x ≡ one.Assign a e → ⊥) →
      ((a : Place) (o : BinOp) (t : IntType) (e : Expr) → x ≡ one.Change a o t e → ⊥) → ((a : Place) (down : Bool) → x ≡ one.After a down → ⊥) →
      ((g : Expr) (args : List Expr) → x ≡ one.Call g args → ⊥) → ((i : Intrinsic) (a : Option Expr) → x ≡ one.Intr i a → ⊥) → ((a b : Expr) → x ≡ one.Seq a b → ⊥) →
      (level p f x).effect ≡ effect_by (level p f x).ctype (level p f x).operand
  effect-by-operand (one.Const n t) load both either choose assign change after call intr seq = refl
  effect-by-operand (one.Null t) load both either choose assign change after call intr seq = refl
  effect-by-operand (one.FuncAddr g) load both either choose assign change after call intr seq = refl
  effect-by-operand (one.Load a) load both either choose assign change after call intr seq = absurd (load a refl)
  effect-by-operand (one.AddrOf a) load both either choose assign change after call intr seq = refl
  effect-by-operand (one.Un o t a) load both either choose assign change after call intr seq = refl
  effect-by-operand (one.Bin o t a b) load both either choose assign change after call intr seq = refl
  effect-by-operand (one.Conv t a) load both either choose assign change after call intr seq = refl
  effect-by-operand (one.Qualify t a) load both either choose assign change after call intr seq = refl
  effect-by-operand (one.Move a b back) load both either choose assign change after call intr seq = refl
  effect-by-operand (one.Gap a b) load both either choose assign change after call intr seq = refl
  effect-by-operand (one.Compare o a b) load both either choose assign change after call intr seq = refl
  effect-by-operand (one.Both a b) load both either choose assign change after call intr seq = absurd (both a b refl)
  effect-by-operand (one.Either a b) load both either choose assign change after call intr seq = absurd (either a b refl)
  effect-by-operand (one.Choose c a b) load both either choose assign change after call intr seq = absurd (choose c a b refl)
  effect-by-operand (one.Assign a e) load both either choose assign change after call intr seq = absurd (assign a e refl)
  effect-by-operand (one.Change a o t e) load both either choose assign change after call intr seq = absurd (change a o t e refl)
  effect-by-operand (one.After a down) load both either choose assign change after call intr seq = absurd (after a down refl)
  effect-by-operand (one.Call g args) load both either choose assign change after call intr seq = absurd (call g args refl)
  effect-by-operand (one.Intr i a) load both either choose assign change after call intr seq = absurd (intr i a refl)
  effect-by-operand (one.Seq a b) load both either choose assign change after call intr seq = absurd (seq a b refl)

  pub effect-other : (e : Expr) →
      ((a : Place) → e ≡ Load a → ⊥) → ((a b : Expr) → e ≡ Both a b → ⊥) → ((a b : Expr) → e ≡ Either a b → ⊥) →
      ((c a b : Expr) → e ≡ Choose c a b → ⊥) → ((a : Place) (v : Expr) → e ≡ Assign a v → ⊥) →
      ((a : Place) (o : BinOp) (t : IntType) (v : Expr) → e ≡ Change a o t v → ⊥) → ((a : Place) (down : Bool) → e ≡ After a down → ⊥) →
      ((g : Expr) (args : List Expr) → e ≡ Call g args → ⊥) → ((i : Intrinsic) (a : Option Expr) → e ≡ Intr i a → ⊥) → ((a b : Expr) → e ≡ Seq a b → ⊥) →
      (L : Registers) (k : ℕ) → effect_of p f e L k ≡ (operand_of p f e L >>= unused (type_of p f.locals e)) k
  unfolding effect_of operand_of
  effect-other e load both either choose assign change after call intr seq L k =
      let is : (x : one.Expr-F Expr Place) → out-Expr e ≡ x → e ≡ roll-Expr x = λ x h. sym (roll-out-Expr e) ∙ ap roll-Expr h in
      ap (λ (l : Lowering). l.effect L k) (low-at p f e (out-Expr e) refl) ∙
      ap (λ (m : Lowers (Unit {0})). m L k)
      (effect-by-operand (out-Expr e)
      (λ a h. load a (is (one.Load a) h ∙ rolls-Load a))
      (λ a b h. both a b (is (one.Both a b) h ∙ rolls-Both a b))
      (λ a b h. either a b (is (one.Either a b) h ∙ rolls-Either a b))
      (λ c a b h. choose c a b (is (one.Choose c a b) h ∙ rolls-Choose c a b))
      (λ a v h. assign a v (is (one.Assign a v) h ∙ rolls-Assign a v))
      (λ a o t v h. change a o t v (is (one.Change a o t v) h ∙ rolls-Change a o t v))
      (λ a down h. after a down (is (one.After a down) h ∙ rolls-After a down))
      (λ g args h. call g args (is (one.Call g args) h ∙ rolls-Call g args))
      (λ i a h. intr i a (is (one.Intr i a) h ∙ rolls-Intr i a))
      (λ a b h. seq a b (is (one.Seq a b) h ∙ rolls-Seq a b))) ∙
      sym (ap (λ (l : Lowering). effect_by l.ctype l.operand L k) (low-at p f e (out-Expr e) refl)) ∙
      ap (λ (t : Option ValueType). ((low e).operand L >>= unused t) k) (low-type p f e)
