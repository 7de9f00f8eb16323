-- What each construct gives once its parts are made: as an operand, and as a place.
use Rattle.std.proofs.Common.{◌≡◌, ◌+◌, ◌⊎◌, inl, inr, ℕ, ℤ, Bool, true, false, List, [], ◌∷◌, ◌++◌, length, Option, Result, Ok, Err, IfOk, refl, ap, sym, ◌∙◌, arith}
use Rattle.std.specs.Prelude.{pos, OnOk}
use Rattle.std.proofs.lemmas.List.{append-nil}
use Rattle.cc_program.specs.CcNum.declared.int_type.IntType.{IntType}
use Rattle.cc_program.specs.CcNum.declared.int_type.IntType.TheVariants as int
use Rattle.cc_program.specs.CcNum.declared.op.BinOp.{BinOp}
use Rattle.cc_program.specs.CcNum.declared.op.UnOp.{UnOp}
use Rattle.cc_program.specs.declared.expr.Expr.{Expr, Const, Null, FuncAddr, Load, AddrOf, Un, Bin, Conv, Qualify, Move, Gap, Compare, Both, Either, Choose, Assign, Change, After, Call, Intr, Seq}
use Rattle.cc_program.specs.declared.expr.Intr.{Intr as Intrinsic}
use Rattle.cc_program.specs.declared.expr.Place.{Place, Local, Static, Device, Element, Member, Deref}
use Rattle.cc_program.specs.declared.func.Func.{Func}
use Rattle.cc_program.specs.declared.program.Program.{Program}
use Rattle.cc_program.specs.declared.stmt.Stmt.{Stmt, If}
use Rattle.cc_program.specs.declared.types.CType.{CType}
use Rattle.cc_eval.specs.CcSyntax.Effects.{Registers, also, effects_of}
use Rattle.cc_eval.specs.CcSyntax.Programs.{type_of}
use Rattle.cc_eval.specs.CcSyntax.Types.{Named}
use Rattle.cc_eval.specs.CcSyntax.Values.{ValueType}
use Rattle.cc_lower_expressions.specs.Expressions.{Temps, piece, Make, done, ◌>>=◌, into, set, temp, mapped, int_value}
use Rattle.cc_lower_accesses.specs.Modes.{operand_of, effect_of, place_of, pair_of, placed_of, one_of, two_of, read_of, changed_of, step_value_of, calling_of, intrinsic_of, arm_in, both_of, either_of, chosen_of, assigned_of}
use Rattle.cc_lower_operands.specs.Branches.{decided_of}
use Rattle.cc_lower_operands.specs.Made.{IsMade}
use Rattle.cc_lower_operands.proofs.OperandRules.{operand-Const, operand-Null, operand-FuncAddr, operand-Load, operand-AddrOf, operand-Un, operand-Conv, operand-Qualify, operand-Bin, operand-Move, operand-Gap, operand-Compare, operand-Both-pure, operand-Both, operand-Either-pure, operand-Either, operand-Choose-pure, operand-Choose, operand-Assign, operand-Change, operand-After, operand-Call, operand-Intr, operand-Seq, both-is, either-is, place-Local, place-Static, place-Device, place-Element, place-Member, place-Deref}
use Rattle.cc_lower_operands.proofs.Steps.{Gives, no_locals, made_as, made_kept, gives_as, gives_then, gives_mapped, stays}

-- the kinds of one arm
abbrev pub Leaf : Expr → Type 0
Leaf e = ((n : ℤ) × (t : IntType) × (e ≡ Const n t)) ⊎ (((t : CType) × (e ≡ Null t)) ⊎ ((g : ℕ) × (e ≡ FuncAddr g)))

abbrev pub One : Expr → Expr → Type 0
One e a = ((o : UnOp) × (t : IntType) × (e ≡ Un o t a)) ⊎ (((t : IntType) × (e ≡ Conv t a)) ⊎ ((t : CType) × (e ≡ Qualify t a)))

abbrev pub Two : Expr → Expr → Expr → Type 0
Two e a b = ((o : BinOp) × (t : IntType) × (e ≡ Bin o t a b)) ⊎ (((back : Bool) × (e ≡ Move a b back)) ⊎ ((e ≡ Gap a b) ⊎ ((o : BinOp) × (e ≡ Compare o a b))))

module _ (p : Program) (f : Func) where
  leaf-is : (e : Expr) → Leaf e → (L : Registers) (k : ℕ) → operand_of p f e L k ≡ piece [] [] e
  leaf-is e (inl w) L k = rw w.2 (operand-Const p f w.0 w.1 L k)
  leaf-is e (inr (inl w)) L k = rw w.1 (operand-Null p f w.0 L k)
  leaf-is e (inr (inr w)) L k = rw w.1 (operand-FuncAddr p f w.0 L k)

  pub leaf-arm : {E : Type 0} (L : Registers) (r : Result Expr E) (e : Expr) (l : List Named) (o : List Stmt) → Leaf e → IfOk r (λ v. v ≡ e) → Gives r (operand_of p f e L) l l o o
  leaf-arm L r e l o is h = stays r (operand_of p f e L) e l o (leaf-is e is L (length l)) h

  pub load-arm : {E : Type 0} {e : Expr} {a g g' b : Place} {l l' : List Named} {o o' : List Stmt} (L : Registers) (r : Result Expr E) (l'' : List Named) (o'' : List Stmt) → e ≡ Load a → g ≡ a → g' ≡ a →
      IsMade (place_of p f g L) b l l' o o' → Gives r (read_of p f g' L b) l' l'' o' o'' → Gives r (operand_of p f e L) l l'' o o''
  load-arm {e = e} {a = a} {g = g} {g' = g'} {l = l} {o = o} L r l'' o'' is at at' h i =
      gives_as r (operand_of p f e L) (place_of p f g L >>= read_of p f g' L) l l'' o o'' (rw (is, at, at') (operand-Load p f a L (length l))) (gives_then r l'' o'' (read_of p f g' L) h i)

  pub address-arm : {E : Type 0} {e : Expr} {a g b : Place} {l l' : List Named} {o o' : List Stmt} (L : Registers) (r : Result Expr E) → e ≡ AddrOf a → g ≡ a →
      IsMade (place_of p f g L) b l l' o o' → IfOk r (λ v. v ≡ AddrOf b) → Gives r (operand_of p f e L) l l' o o'
  address-arm {e = e} {a = a} {g = g} {l = l} {l' = l'} {o = o} {o' = o'} L r is at h i =
      gives_as r (operand_of p f e L) (λ k. mapped AddrOf (place_of p f g L k)) l l' o o' (rw (is, at) (operand-AddrOf p f a L (length l))) (gives_mapped r AddrOf h i)

  one-is : (e a : Expr) → One e a → (L : Registers) (k : ℕ) → operand_of p f e L k ≡ mapped (one_of p f e) (operand_of p f a L k)
  one-is e a (inl w) L k = rw w.2 (operand-Un p f w.0 w.1 a L k)
  one-is e a (inr (inl w)) L k = rw w.1 (operand-Conv p f w.0 a L k)
  one-is e a (inr (inr w)) L k = rw w.1 (operand-Qualify p f w.0 a L k)

  pub one-arm : {E : Type 0} {a g x : Expr} {l l' : List Named} {o o' : List Stmt} (L : Registers) (r : Result Expr E) (e : Expr) → One e a → g ≡ a →
      IsMade (operand_of p f g L) x l l' o o' → IfOk r (λ v. v ≡ one_of p f e x) → Gives r (operand_of p f e L) l l' o o'
  one-arm {a = a} {g = g} {l = l} {l' = l'} {o = o} {o' = o'} L r e is at h i =
      gives_as r (operand_of p f e L) (λ k. mapped (one_of p f e) (operand_of p f g L k)) l l' o o' (rw at (one-is e a is L (length l))) (gives_mapped r (one_of p f e) h i)

  two-is : (e a b : Expr) → Two e a b → (L : Registers) (k : ℕ) → operand_of p f e L k ≡ mapped (λ z. two_of p f e z.0 z.1) (pair_of p f a b L k)
  two-is e a b (inl w) L k = rw w.2 (operand-Bin p f w.0 w.1 a b L k)
  two-is e a b (inr (inl w)) L k = rw w.1 (operand-Move p f a b w.0 L k)
  two-is e a b (inr (inr (inl w))) L k = rw w (operand-Gap p f a b L k)
  two-is e a b (inr (inr (inr w))) L k = rw w.1 (operand-Compare p f w.0 a b L k)

  pub two-arm : {E : Type 0} {a b g h x y : Expr} {l l' : List Named} {o o' : List Stmt} (L : Registers) (r : Result Expr E) (e : Expr) → Two e a b → g ≡ a → h ≡ b →
      IsMade (pair_of p f g h L) (x, y) l l' o o' → IfOk r (λ v. v ≡ two_of p f e x y) → Gives r (operand_of p f e L) l l' o o'
  two-arm {a = a} {b = b} {g = g} {h = h} {l = l} {l' = l'} {o = o} {o' = o'} L r e is at at' i j =
      gives_as r (operand_of p f e L) (λ k. mapped (λ z. two_of p f e z.0 z.1) (pair_of p f g h L k)) l l' o o' (rw (at, at') (two-is e a b is L (length l))) (gives_mapped r (λ z. two_of p f e z.0 z.1) i j)

  -- ---- branches

  known : (e x : Expr) (L : Registers) (c d : Bool) → e ≡ x → c ≡ (effects_of f e).pure L → c ≡ d → (effects_of f x).pure L ≡ d
  known e x L c d is h i = ap (λ (z : Expr). (effects_of f z).pure L) (sym is) ∙ sym h ∙ i

  pub both-stays : {E : Type 0} {e : Expr} {c : Bool} (L : Registers) (r : Result Expr E) (a b : Expr) (l : List Named) (o : List Stmt) →
      e ≡ Both a b → c ≡ (effects_of f e).pure L → c ≡ true → IfOk r (λ v. v ≡ e) → Gives r (operand_of p f e L) l l o o
  both-stays {e = e} {c = c} L r a b l o is h i j =
      let q = known e (Both a b) L c true is h i in stays r (operand_of p f e L) e l o (rw is (operand-Both-pure p f a b L (length l) q)) j

  pub either-stays : {E : Type 0} {e : Expr} {c : Bool} (L : Registers) (r : Result Expr E) (a b : Expr) (l : List Named) (o : List Stmt) →
      e ≡ Either a b → c ≡ (effects_of f e).pure L → c ≡ true → IfOk r (λ v. v ≡ e) → Gives r (operand_of p f e L) l l o o
  either-stays {e = e} {c = c} L r a b l o is h i j =
      let q = known e (Either a b) L c true is h i in stays r (operand_of p f e L) e l o (rw is (operand-Either-pure p f a b L (length l) q)) j

  pub choose-stays : {E : Type 0} {e : Expr} {c : Bool} (L : Registers) (r : Result Expr E) (d a b : Expr) (l : List Named) (o : List Stmt) →
      e ≡ Choose d a b → c ≡ (effects_of f e).pure L → c ≡ true → IfOk r (λ v. v ≡ e) → Gives r (operand_of p f e L) l l o o
  choose-stays {e = e} {c = c} L r d a b l o is h i j =
      let q = known e (Choose d a b) L c true is h i in stays r (operand_of p f e L) e l o (rw is (operand-Choose-pure p f d a b L (length l) q)) j

  -- behind the condition, the register and the arm
  abbrev then_both : Expr × ℕ × List Stmt → Make Expr
  then_both d k = piece [] (If d.0 d.2 (set d.1 (Const (pos 0) int.Int) ∷ []) ∷ []) (temp d.1)

  abbrev then_either : Expr × ℕ × List Stmt → Make Expr
  then_either d k = piece [] (If d.0 (set d.1 (Const (pos 1) int.Int) ∷ []) d.2 ∷ []) (temp d.1)

  no_more : (ts us : Temps) (ss : List Stmt) (s : Stmt) (v : Expr) → piece (ts ++ int_value ∷ us) (ss ++ s ∷ []) v ≡ piece ((ts ++ int_value ∷ us) ++ []) ((ss ++ []) ++ s ∷ []) v
  no_more ts us ss s v =
      sym (ap (λ (z : Temps). piece z ((ss ++ []) ++ s ∷ []) v) (append-nil (ts ++ int_value ∷ us)) ∙ ap (λ (z : List Stmt). piece (ts ++ int_value ∷ us) (z ++ s ∷ []) v) (append-nil ss))

  both-decided : (a b : Expr) (L : Registers) (k : ℕ) → both_of p f a b L k ≡ (decided_of p f a b L >>= then_both) k
  unfolding decided_of
  both-decided a b L k =
      let x = operand_of p f a (also (effects_of f b).assigned L) k in let n = k + length x.temps in let y = arm_in p f b L n (n + 1) in
      both-is p f a b L k ∙
      ap (λ (z : Temps). piece (x.temps ++ int_value ∷ z) (x.stmts ++ If x.value y.stmts (set n (Const (pos 0) int.Int) ∷ []) ∷ []) (temp n)) (append-nil y.temps) ∙
      no_more x.temps y.temps x.stmts (If x.value y.stmts (set n (Const (pos 0) int.Int) ∷ [])) (temp n)

  either-decided : (a b : Expr) (L : Registers) (k : ℕ) → either_of p f a b L k ≡ (decided_of p f a b L >>= then_either) k
  unfolding decided_of
  either-decided a b L k =
      let x = operand_of p f a (also (effects_of f b).assigned L) k in let n = k + length x.temps in let y = arm_in p f b L n (n + 1) in
      let e : n + 1 + 0 ≡ n + 1 = omega arith in
      either-is p f a b L k ∙
      ap (λ (m : ℕ). piece (x.temps ++ int_value ∷ (arm_in p f b L n m).temps) (x.stmts ++ If x.value (set n (Const (pos 1) int.Int) ∷ []) (arm_in p f b L n m).stmts ∷ []) (temp n)) e ∙
      no_more x.temps y.temps x.stmts (If x.value (set n (Const (pos 1) int.Int) ∷ []) y.stmts) (temp n)

  -- an `if` and the register that it sets
  after_if : {E : Type 0} (r : Result Expr E) (s : Stmt) (n : ℕ) (l : List Named) (o o' : List Stmt) →
      IfOk r (λ v. v ≡ temp n) → OnOk r (o' ≡ o ++ s ∷ []) → Gives r (λ k. piece [] (s ∷ []) (temp n)) l l o o'
  after_if (Ok v) s n l o o' h i = record { value = h; locals = no_locals l; statements = i }
  after_if (Err e) s n l o o' h i = tt

  pub both-arm : {E : Type 0} {e a b g h x : Expr} {c : Bool} {n : ℕ} {s : List Stmt} {l l' : List Named} {o o' : List Stmt} (L : Registers) (r : Result Expr E) (o'' : List Stmt) →
      e ≡ Both a b → g ≡ a → h ≡ b → c ≡ (effects_of f e).pure L → c ≡ false → IsMade (decided_of p f g h L) (x, n, s) l l' o o' →
      IfOk r (λ v. v ≡ temp n) → OnOk r (o'' ≡ o' ++ If x s (set n (Const (pos 0) int.Int) ∷ []) ∷ []) → Gives r (operand_of p f e L) l l' o o''
  both-arm {e = e} {a = a} {b = b} {g = g} {h = h} {x = x} {c = c} {n = n} {s = s} {l = l} {l' = l'} {o = o} {o' = o'} L r o'' is at at' pure isnt m i j =
      let q = known e (Both a b) L c false is pure isnt in
      gives_as r (operand_of p f e L) (decided_of p f g h L >>= then_both) l l' o o'' (rw (is, at, at') (operand-Both p f a b L (length l) q ∙ both-decided a b L (length l)))
      (gives_then r l' o'' then_both m (after_if r (If x s (set n (Const (pos 0) int.Int) ∷ [])) n l' o' o'' i j))

  pub either-arm : {E : Type 0} {e a b g h x : Expr} {c : Bool} {n : ℕ} {s : List Stmt} {l l' : List Named} {o o' : List Stmt} (L : Registers) (r : Result Expr E) (o'' : List Stmt) →
      e ≡ Either a b → g ≡ a → h ≡ b → c ≡ (effects_of f e).pure L → c ≡ false → IsMade (decided_of p f g h L) (x, n, s) l l' o o' →
      IfOk r (λ v. v ≡ temp n) → OnOk r (o'' ≡ o' ++ If x (set n (Const (pos 1) int.Int) ∷ []) s ∷ []) → Gives r (operand_of p f e L) l l' o o''
  either-arm {e = e} {a = a} {b = b} {g = g} {h = h} {x = x} {c = c} {n = n} {s = s} {l = l} {l' = l'} {o = o} {o' = o'} L r o'' is at at' pure isnt m i j =
      let q = known e (Either a b) L c false is pure isnt in
      gives_as r (operand_of p f e L) (decided_of p f g h L >>= then_either) l l' o o'' (rw (is, at, at') (operand-Either p f a b L (length l) q ∙ either-decided a b L (length l)))
      (gives_then r l' o'' then_either m (after_if r (If x (set n (Const (pos 1) int.Int) ∷ []) s) n l' o' o'' i j))

  pub choose-arm : {E : Type 0} {e d a b d' a' b' : Expr} {c : Bool} {t : Option ValueType} (L : Registers) (r : Result Expr E) (l : List Named) (l' : List Named) (o : List Stmt) (o' : List Stmt) →
      e ≡ Choose d a b → d' ≡ d → a' ≡ a → b' ≡ b → c ≡ (effects_of f e).pure L → c ≡ false → t ≡ type_of p f.locals e →
      Gives r (chosen_of p f t d' a' b' L) l l' o o' → Gives r (operand_of p f e L) l l' o o'
  choose-arm {e = e} {d = d} {a = a} {b = b} {d' = d'} {a' = a'} {b' = b'} {c = c} {t = t} L r l l' o o' is at at' at'' pure isnt own h =
      let q = known e (Choose d a b) L c false is pure isnt in
      let u : type_of p f.locals (Choose d a b) ≡ t = ap (λ (z : Expr). type_of p f.locals z) (sym is) ∙ sym own in
      gives_as r (operand_of p f e L) (chosen_of p f t d' a' b' L) l l' o o'
      (rw (is, at, at', at'') (operand-Choose p f d a b L (length l) q ∙ ap (λ (z : Option ValueType). chosen_of p f z d a b L (length l)) u)) h

  -- ---- assignments, calls, and a comma

  pub assign-arm : {E : Type 0} {e v h : Expr} {a g : Place} (L : Registers) (r : Result Expr E) (l : List Named) (l' : List Named) (o : List Stmt) (o' : List Stmt) → e ≡ Assign a v → g ≡ a → h ≡ v →
      Gives r (assigned_of p f g h L) l l' o o' → Gives r (operand_of p f e L) l l' o o'
  assign-arm {e = e} {v = v} {h = h} {a = a} {g = g} L r l l' o o' is at at' i =
      gives_as r (operand_of p f e L) (assigned_of p f g h L) l l' o o' (rw (is, at, at') (operand-Assign p f a v L (length l))) i

  pub change-arm : {E : Type 0} {e v h x : Expr} {a g g' b : Place} {op : BinOp} {t : IntType} {l l' : List Named} {o o' : List Stmt} (L : Registers) (r : Result Expr E) (l'' : List Named) (o'' : List Stmt) →
      e ≡ Change a op t v → g ≡ a → h ≡ v → g' ≡ a → IsMade (placed_of p f g h L) (b, x) l l' o o' →
      Gives r (changed_of p f g' op t b x L) l' l'' o' o'' → Gives r (operand_of p f e L) l l'' o o''
  change-arm {e = e} {v = v} {h = h} {a = a} {g = g} {g' = g'} {op = op} {t = t} {l = l} {o = o} L r l'' o'' is at at' at'' i j =
      gives_as r (operand_of p f e L) (placed_of p f g h L >>= (λ z. changed_of p f g' op t z.0 z.1 L)) l l'' o o''
      (rw (is, at, at', at'') (operand-Change p f a op t v L (length l))) (gives_then r l'' o'' (λ z. changed_of p f g' op t z.0 z.1 L) i j)

  pub after-arm : {E : Type 0} {e : Expr} {a g g' b : Place} {down : Bool} {l l' : List Named} {o o' : List Stmt} (L : Registers) (r : Result Expr E) (l'' : List Named) (o'' : List Stmt) →
      e ≡ After a down → g ≡ a → g' ≡ a → IsMade (place_of p f g L) b l l' o o' → Gives r (step_value_of p f g' down b) l' l'' o' o'' → Gives r (operand_of p f e L) l l'' o o''
  after-arm {e = e} {a = a} {g = g} {g' = g'} {down = down} {l = l} {o = o} L r l'' o'' is at at' h i =
      gives_as r (operand_of p f e L) (place_of p f g L >>= step_value_of p f g' down) l l'' o o''
      (rw (is, at, at') (operand-After p f a down L (length l))) (gives_then r l'' o'' (step_value_of p f g' down) h i)

  pub call-arm : {E : Type 0} {e g g' x : Expr} {t : Option ValueType} {l l' : List Named} {o o' : List Stmt} (L : Registers) (r : Result Expr E) (args : List Expr) (l'' : List Named) (o'' : List Stmt) →
      e ≡ Call g args → g' ≡ g → t ≡ type_of p f.locals e → IsMade (calling_of p f g' args L) x l l' o o' → Gives r (into t x) l' l'' o' o'' → Gives r (operand_of p f e L) l l'' o o''
  call-arm {e = e} {g = g} {g' = g'} {t = t} {l = l} {o = o} L r args l'' o'' is at own h i =
      let u : type_of p f.locals (Call g args) ≡ t = ap (λ (z : Expr). type_of p f.locals z) (sym is) ∙ sym own in
      gives_as r (operand_of p f e L) (calling_of p f g' args L >>= into t) l l'' o o''
      (rw (is, at) (operand-Call p f g args L (length l) ∙ ap (λ (z : Option ValueType). (calling_of p f g args L >>= into z) (length l)) u)) (gives_then r l'' o'' (into t) h i)

  pub intr-arm : {E : Type 0} {e x : Expr} {t : Option ValueType} {l l' : List Named} {o o' : List Stmt} (L : Registers) (r : Result Expr E) (n : Intrinsic) (a : Option Expr) (l'' : List Named) (o'' : List Stmt) →
      e ≡ Intr n a → t ≡ type_of p f.locals e → IsMade (intrinsic_of p f n a L) x l l' o o' → Gives r (into t x) l' l'' o' o'' → Gives r (operand_of p f e L) l l'' o o''
  intr-arm {e = e} {t = t} {l = l} {o = o} L r n a l'' o'' is own h i =
      let u : type_of p f.locals (Intr n a) ≡ t = ap (λ (z : Expr). type_of p f.locals z) (sym is) ∙ sym own in
      gives_as r (operand_of p f e L) (intrinsic_of p f n a L >>= into t) l l'' o o''
      (rw is (operand-Intr p f n a L (length l) ∙ ap (λ (z : Option ValueType). (intrinsic_of p f n a L >>= into z) (length l)) u)) (gives_then r l'' o'' (into t) h i)

  pub seq-arm : {E : Type 0} {e a b g h h' : Expr} {u : Unit {0}} {l l' : List Named} {o o' : List Stmt} (L : Registers) (r : Result Expr E) (l'' : List Named) (o'' : List Stmt) → e ≡ Seq a b → g ≡ a → h ≡ b → h' ≡ b →
      IsMade (effect_of p f g (also (effects_of f h).assigned L)) u l l' o o' → Gives r (operand_of p f h' L) l' l'' o' o'' → Gives r (operand_of p f e L) l l'' o o''
  seq-arm {e = e} {a = a} {b = b} {g = g} {h = h} {h' = h'} {l = l} {o = o} L r l'' o'' is at at' at'' i j =
      gives_as r (operand_of p f e L) (effect_of p f g (also (effects_of f h).assigned L) >>= (λ v. operand_of p f h' L)) l l'' o o''
      (rw (is, at, at', at'') (operand-Seq p f a b L (length l))) (gives_then r l'' o'' (λ v. operand_of p f h' L) i j)

  -- ---- places

  pub local-arm : {a : Place} {n : ℕ} {l : List Named} {o : List Stmt} (L : Registers) → a ≡ Local n → IsMade (place_of p f a L) (Local n) l l o o
  local-arm {a = a} {n = n} {l = l} {o = o} L is = made_as (done (Local n)) (rw is (place-Local p f n L (length l))) (made_kept (Local n) (Local n) l o refl)

  pub static-arm : {a : Place} {n : ℕ} {l : List Named} {o : List Stmt} (L : Registers) → a ≡ Static n → IsMade (place_of p f a L) (Static n) l l o o
  static-arm {a = a} {n = n} {l = l} {o = o} L is = made_as (done (Static n)) (rw is (place-Static p f n L (length l))) (made_kept (Static n) (Static n) l o refl)

  pub device-arm : {a : Place} {n : ℕ} {l : List Named} {o : List Stmt} (L : Registers) → a ≡ Device n → IsMade (place_of p f a L) (Device n) l l o o
  device-arm {a = a} {n = n} {l = l} {o = o} L is = made_as (done (Device n)) (rw is (place-Device p f n L (length l))) (made_kept (Device n) (Device n) l o refl)

  pub element-arm : {E : Type 0} {a b b' c : Place} {i i' x : Expr} {l l' : List Named} {o o' : List Stmt} (L : Registers) (r : Result Place E) → a ≡ Element b i → b' ≡ b → i' ≡ i →
      IsMade (placed_of p f b' i' L) (c, x) l l' o o' → IfOk r (λ v. v ≡ Element c x) → Gives r (place_of p f a L) l l' o o'
  element-arm {a = a} {b = b} {b' = b'} {i = i} {i' = i'} {l = l} {l' = l'} {o = o} {o' = o'} L r is at at' h j =
      gives_as r (place_of p f a L) (λ k. mapped (λ z. Element z.0 z.1) (placed_of p f b' i' L k)) l l' o o' (rw (is, at, at') (place-Element p f b i L (length l))) (gives_mapped r (λ z. Element z.0 z.1) h j)

  pub member-arm : {E : Type 0} {a b b' c : Place} {m : ℕ} {l l' : List Named} {o o' : List Stmt} (L : Registers) (r : Result Place E) → a ≡ Member b m → b' ≡ b →
      IsMade (place_of p f b' L) c l l' o o' → IfOk r (λ v. v ≡ Member c m) → Gives r (place_of p f a L) l l' o o'
  member-arm {a = a} {b = b} {b' = b'} {m = m} {l = l} {l' = l'} {o = o} {o' = o'} L r is at h j =
      gives_as r (place_of p f a L) (λ k. mapped (λ z. Member z m) (place_of p f b' L k)) l l' o o' (rw (is, at) (place-Member p f b m L (length l))) (gives_mapped r (λ z. Member z m) h j)

  pub deref-arm : {E : Type 0} {a : Place} {e e' x : Expr} {l l' : List Named} {o o' : List Stmt} (L : Registers) (r : Result Place E) → a ≡ Deref e → e' ≡ e →
      IsMade (operand_of p f e' L) x l l' o o' → IfOk r (λ v. v ≡ Deref x) → Gives r (place_of p f a L) l l' o o'
  deref-arm {a = a} {e = e} {e' = e'} {l = l} {l' = l'} {o = o} {o' = o'} L r is at h j =
      gives_as r (place_of p f a L) (λ k. mapped Deref (operand_of p f e' L k)) l l' o o' (rw (is, at) (place-Deref p f e L (length l))) (gives_mapped r Deref h j)
