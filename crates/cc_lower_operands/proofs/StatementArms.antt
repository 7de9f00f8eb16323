-- What each construct gives once its parts are made: as a whole right side, and as an expression statement.
use Rattle.std.proofs.Common.{◌≡◌, ◌⊎◌, inl, inr, ℕ, Bool, true, false, List, [], ◌∷◌, ◌++◌, length, Option, Some, None, Result, Ok, Err, refl, ap, sym, ◌∙◌}
use Rattle.std.specs.Prelude.{OnOk}
use Rattle.cc_program.specs.CcNum.declared.int_type.IntType.{IntType}
use Rattle.cc_program.specs.CcNum.declared.op.BinOp.{BinOp}
use Rattle.cc_program.specs.declared.expr.Expr.{Expr, Load, Both, Either, Choose, Assign, Change, After, Call, Intr, Seq}
use Rattle.cc_program.specs.declared.expr.Intr.{Intr as Intrinsic}
use Rattle.cc_program.specs.declared.expr.Place.{Place}
use Rattle.cc_program.specs.declared.func.Func.{Func}
use Rattle.cc_program.specs.declared.program.Program.{Program}
use Rattle.cc_program.specs.declared.stmt.Stmt.{Stmt, Do}
use Rattle.cc_eval.specs.CcSyntax.Effects.{Registers, also, effects_of, place_effects_of}
use Rattle.cc_eval.specs.CcSyntax.Programs.{type_of}
use Rattle.cc_eval.specs.CcSyntax.Types.{Named}
use Rattle.cc_eval.specs.CcSyntax.Values.{ValueType}
use Rattle.cc_lower_expressions.specs.Expressions.{piece, ◌>>=◌, fresh, emit, set, unused, is_void_value}
use Rattle.cc_lower_accesses.specs.Modes.{as_locals, value_type, operand_of, whole_of, effect_of, place_of, placed_of, right_of, whole_read_of, change_of, step_of, calling_of, intrinsic_of, chosen_void_of}
use Rattle.cc_lower_operands.specs.Branches.{alone_of}
use Rattle.cc_lower_operands.specs.Made.{IsMade}
use Rattle.cc_lower_operands.proofs.RightSides.{whole-Load, whole-Call, whole-Intr, whole-Seq, whole-other, effect-Load, effect-Both, effect-Either, effect-Choose-void, effect-Choose, effect-Assign-register, effect-Assign, effect-Change, effect-After, effect-Call, effect-Intr, effect-Seq, effect-other}
use Rattle.cc_lower_operands.proofs.Steps.{Gives, no_locals, made_fresh, gives_as, gives_then, gives_behind}

-- a statement behind others
emits : {E : Type 0} (r : Result (Unit {0}) E) (s : Stmt) (l : List Named) (o o' : List Stmt) → (l ≡ l ++ as_locals []) → OnOk r (o' ≡ o ++ s ∷ []) → Gives r (emit s) l l o o'
emits (Ok v) s l o o' h i = record { value = refl; locals = h; statements = i }
emits (Err e) s l o o' h i = tt

module _ (p : Program) (f : Func) where
  -- ---- a whole right side

  pub whole-load-arm : {E : Type 0} {e : Expr} {a g g' b : Place} {l l' : List Named} {o o' : List Stmt} (L : Registers) (r : Result (Unit {0}) E) (t : Option ValueType) (n : ℕ) (l'' : List Named) (o'' : List Stmt) →
      e ≡ Load a → g ≡ a → g' ≡ a → IsMade (place_of p f g L) b l l' o o' → Gives r (whole_read_of p f g' b t n L) l' l'' o' o'' → Gives r (whole_of p f e t n L) l l'' o o''
  whole-load-arm {e = e} {a = a} {g = g} {g' = g'} {l = l} {o = o} L r t n l'' o'' is at at' h i =
      gives_as r (whole_of p f e t n L) (place_of p f g L >>= (λ b. whole_read_of p f g' b t n L)) l l'' o o''
      (rw (is, at, at') (whole-Load p f a t n L (length l))) (gives_then r l'' o'' (λ b. whole_read_of p f g' b t n L) h i)

  pub whole-call-arm : {E : Type 0} {e g g' x : Expr} {own : Option ValueType} {l l' : List Named} {o o' : List Stmt} (L : Registers) (r : Result (Unit {0}) E) (args : List Expr) (t : Option ValueType) (n : ℕ) (l'' : List Named) (o'' : List Stmt) →
      e ≡ Call g args → g' ≡ g → own ≡ type_of p f.locals e → IsMade (calling_of p f g' args L) x l l' o o' →
      Gives r (right_of p f own x t n) l' l'' o' o'' → Gives r (whole_of p f e t n L) l l'' o o''
  whole-call-arm {e = e} {g = g} {g' = g'} {own = own} {l = l} {o = o} L r args t n l'' o'' is at owns h i =
      let u : type_of p f.locals (Call g args) ≡ own = ap (λ (z : Expr). type_of p f.locals z) (sym is) ∙ sym owns in
      gives_as r (whole_of p f e t n L) (calling_of p f g' args L >>= (λ v. right_of p f own v t n)) l l'' o o''
      (rw (is, at) (whole-Call p f g args t n L (length l) ∙ ap (λ (z : Option ValueType). (calling_of p f g args L >>= (λ v. right_of p f z v t n)) (length l)) u))
      (gives_then r l'' o'' (λ v. right_of p f own v t n) h i)

  pub whole-intr-arm : {E : Type 0} {e x : Expr} {own : Option ValueType} {l l' : List Named} {o o' : List Stmt} (L : Registers) (r : Result (Unit {0}) E) (m : Intrinsic) (a : Option Expr) (t : Option ValueType) (n : ℕ) (l'' : List Named) (o'' : List Stmt) →
      e ≡ Intr m a → own ≡ type_of p f.locals e → IsMade (intrinsic_of p f m a L) x l l' o o' →
      Gives r (right_of p f own x t n) l' l'' o' o'' → Gives r (whole_of p f e t n L) l l'' o o''
  whole-intr-arm {e = e} {own = own} {l = l} {o = o} L r m a t n l'' o'' is owns h i =
      let u : type_of p f.locals (Intr m a) ≡ own = ap (λ (z : Expr). type_of p f.locals z) (sym is) ∙ sym owns in
      gives_as r (whole_of p f e t n L) (intrinsic_of p f m a L >>= (λ v. right_of p f own v t n)) l l'' o o''
      (rw is (whole-Intr p f m a t n L (length l) ∙ ap (λ (z : Option ValueType). (intrinsic_of p f m a L >>= (λ v. right_of p f z v t n)) (length l)) u))
      (gives_then r l'' o'' (λ v. right_of p f own v t n) h i)

  pub whole-seq-arm : {E : Type 0} {e a b g h h' : Expr} {u : Unit {0}} {l l' : List Named} {o o' : List Stmt} (L : Registers) (r : Result (Unit {0}) E) (t : Option ValueType) (n : ℕ) (l'' : List Named) (o'' : List Stmt) →
      e ≡ Seq a b → g ≡ a → h ≡ b → h' ≡ b → IsMade (effect_of p f g (also (effects_of f h).assigned L)) u l l' o o' →
      Gives r (whole_of p f h' t n L) l' l'' o' o'' → Gives r (whole_of p f e t n L) l l'' o o''
  whole-seq-arm {e = e} {a = a} {b = b} {g = g} {h = h} {h' = h'} {l = l} {o = o} L r t n l'' o'' is at at' at'' i j =
      gives_as r (whole_of p f e t n L) (effect_of p f g (also (effects_of f h).assigned L) >>= (λ v. whole_of p f h' t n L)) l l'' o o''
      (rw (is, at, at', at'') (whole-Seq p f a b t n L (length l))) (gives_then r l'' o'' (λ v. whole_of p f h' t n L) i j)

  pub whole-default-arm : {E : Type 0} {e x : Expr} {l l' : List Named} {o o' : List Stmt} (L : Registers) (r : Result (Unit {0}) E) (t : Option ValueType) (n : ℕ) (o'' : List Stmt) →
      ((a : Place) → e ≡ Load a → ⊥) → ((g : Expr) (args : List Expr) → e ≡ Call g args → ⊥) → ((i : Intrinsic) (a : Option Expr) → e ≡ Intr i a → ⊥) → ((a b : Expr) → e ≡ Seq a b → ⊥) →
      IsMade (operand_of p f e L) x l l' o o' → OnOk r (o'' ≡ o' ++ set n x ∷ []) → Gives r (whole_of p f e t n L) l l' o o''
  whole-default-arm {e = e} {x = x} {l = l} {l' = l'} {o = o} {o' = o'} L r t n o'' load call intr seq h i =
      gives_as r (whole_of p f e t n L) (operand_of p f e L >>= (λ v. emit (set n v))) l l' o o'' (whole-other p f e load call intr seq t n L (length l))
      (gives_then r l' o'' (λ v. emit (set n v)) h (emits r (set n x) l' o' o'' (no_locals l') i))

  -- ---- an expression statement

  pub effect-load-arm : {E : Type 0} {e : Expr} {a g0 g g' b : Place} {t : Option ValueType} {n : ℕ} {l1 l' : List Named} {o o' : List Stmt} (L : Registers) (r : Result (Unit {0}) E) (l : List Named) (l'' : List Named) (o'' : List Stmt) →
      e ≡ Load a → g0 ≡ a → g ≡ a → g' ≡ a → t ≡ value_type p f g0 → n ≡ length l → l1 ≡ l ++ as_locals (t ∷ []) →
      IsMade (place_of p f g L) b l1 l' o o' → Gives r (whole_read_of p f g' b t n L) l' l'' o' o'' → Gives r (effect_of p f e L) l l'' o o''
  effect-load-arm {e = e} {a = a} {g0 = g0} {g = g} {g' = g'} {t = t} {n = n} {l1 = l1} {o = o} L r l l'' o'' is at0 at at' own i j h k =
      let u : value_type p f a ≡ t = ap (λ (z : Place). value_type p f z) (sym at0) ∙ sym own in
      gives_as r (effect_of p f e L) (fresh t >>= (λ m. place_of p f g L >>= (λ b. whole_read_of p f g' b t m L))) l l'' o o''
      (rw (is, at, at') (effect-Load p f a L (length l) ∙ ap (λ (z : Option ValueType). (fresh z >>= (λ m. place_of p f a L >>= (λ b. whole_read_of p f a b z m L))) (length l)) u))
      (gives_then r l'' o'' (λ m. place_of p f g L >>= (λ b. whole_read_of p f g' b t m L)) (made_fresh t n l l1 o i j) (gives_then r l'' o'' (λ b. whole_read_of p f g' b t n L) h k))

  branch-is-alone : (e : Expr) → ((a : Expr) × (b : Expr) × (e ≡ Both a b)) ⊎ ((a : Expr) × (b : Expr) × (e ≡ Either a b)) → (L : Registers) (k : ℕ) →
      effect_of p f e L k ≡ (operand_of p f e L >>= alone_of ((effects_of f e).pure L) (type_of p f.locals e)) k
  branch-is-alone e (inl w) L k = rw w.2 (effect-Both p f w.0 w.1 L k)
  branch-is-alone e (inr w) L k = rw w.2 (effect-Either p f w.0 w.1 L k)

  alone_as : (e : Expr) (c : Bool) (t : Option ValueType) (L : Registers) → c ≡ (effects_of f e).pure L → t ≡ type_of p f.locals e → (k : ℕ) →
      (operand_of p f e L >>= alone_of ((effects_of f e).pure L) (type_of p f.locals e)) k ≡ (operand_of p f e L >>= alone_of c t) k
  alone_as e c t L h i k =
      ap (λ (z : Bool). (operand_of p f e L >>= alone_of z (type_of p f.locals e)) k) (sym h) ∙ ap (λ (z : Option ValueType). (operand_of p f e L >>= alone_of c z) k) (sym i)

  pub effect-branch-arm : {E : Type 0} {x : Expr} {c : Bool} {t : Option ValueType} {l l' : List Named} {o o' : List Stmt} (L : Registers) (r : Result (Unit {0}) E) (e : Expr) (l'' : List Named) (o'' : List Stmt) →
      ((a : Expr) × (b : Expr) × (e ≡ Both a b)) ⊎ ((a : Expr) × (b : Expr) × (e ≡ Either a b)) → c ≡ (effects_of f e).pure L → t ≡ type_of p f.locals e →
      IsMade (operand_of p f e L) x l l' o o' → Gives r (alone_of c t x) l' l'' o' o'' → Gives r (effect_of p f e L) l l'' o o''
  effect-branch-arm {c = c} {t = t} {l = l} {o = o} L r e l'' o'' is pure own h i =
      gives_as r (effect_of p f e L) (operand_of p f e L >>= alone_of c t) l l'' o o'' (branch-is-alone e is L (length l) ∙ alone_as e c t L pure own (length l)) (gives_then r l'' o'' (alone_of c t) h i)

  choose-is-alone : (e d a b : Expr) → e ≡ Choose d a b → (L : Registers) (k : ℕ) → is_void_value (type_of p f.locals (Choose d a b)) ≡ false →
      effect_of p f e L k ≡ (operand_of p f e L >>= alone_of ((effects_of f e).pure L) (type_of p f.locals e)) k
  choose-is-alone e d a b is L k h = rw is (effect-Choose p f d a b L k h)

  void-is : (e x : Expr) (t : Option ValueType) (c d : Bool) → e ≡ x → t ≡ type_of p f.locals e → c ≡ is_void_value t → c ≡ d → is_void_value (type_of p f.locals x) ≡ d
  void-is e x t c d is own h i = ap (λ (z : Expr). is_void_value (type_of p f.locals z)) (sym is) ∙ ap is_void_value (sym own) ∙ sym h ∙ i

  pub effect-choose-arm : {E : Type 0} {e x : Expr} {v c : Bool} {t : Option ValueType} {l l' : List Named} {o o' : List Stmt} (L : Registers) (r : Result (Unit {0}) E) (d a b : Expr) (l'' : List Named) (o'' : List Stmt) →
      e ≡ Choose d a b → t ≡ type_of p f.locals e → v ≡ is_void_value t → v ≡ false → c ≡ (effects_of f e).pure L →
      IsMade (operand_of p f e L) x l l' o o' → Gives r (alone_of c t x) l' l'' o' o'' → Gives r (effect_of p f e L) l l'' o o''
  effect-choose-arm {e = e} {v = v} {c = c} {t = t} {l = l} {o = o} L r d a b l'' o'' is own void isnt pure h i =
      let q = void-is e (Choose d a b) t v false is own void isnt in
      gives_as r (effect_of p f e L) (operand_of p f e L >>= alone_of c t) l l'' o o''
      (choose-is-alone e d a b is L (length l) q ∙ alone_as e c t L pure own (length l)) (gives_then r l'' o'' (alone_of c t) h i)

  pub effect-void-arm : {E : Type 0} {e d a b d' a' b' : Expr} {v : Bool} {t : Option ValueType} (L : Registers) (r : Result (Unit {0}) E) (l : List Named) (l' : List Named) (o : List Stmt) (o' : List Stmt) →
      e ≡ Choose d a b → d' ≡ d → a' ≡ a → b' ≡ b → t ≡ type_of p f.locals e → v ≡ is_void_value t → v ≡ true →
      Gives r (chosen_void_of p f d' a' b' L) l l' o o' → Gives r (effect_of p f e L) l l' o o'
  effect-void-arm {e = e} {d = d} {a = a} {b = b} {d' = d'} {a' = a'} {b' = b'} {v = v} {t = t} L r l l' o o' is at at' at'' own void is_so h =
      let q = void-is e (Choose d a b) t v true is own void is_so in
      gives_as r (effect_of p f e L) (chosen_void_of p f d' a' b' L) l l' o o' (rw (is, at, at', at'') (effect-Choose-void p f d a b L (length l) q)) h

  pub effect-register-arm : {E : Type 0} {e w h : Expr} {a g g' : Place} {n : ℕ} {s : Option ℕ} {t : Option ValueType} (L : Registers) (r : Result (Unit {0}) E) (l : List Named) (l' : List Named) (o : List Stmt) (o' : List Stmt) →
      e ≡ Assign a w → g ≡ a → s ≡ (place_effects_of f g).register → s ≡ Some n → g' ≡ a → t ≡ value_type p f g' → h ≡ w →
      Gives r (whole_of p f h t n L) l l' o o' → Gives r (effect_of p f e L) l l' o o'
  effect-register-arm {e = e} {w = w} {h = h} {a = a} {g = g} {g' = g'} {n = n} {s = s} {t = t} L r l l' o o' is at reg some at' own at'' i =
      let q : (place_effects_of f a).register ≡ Some n = ap (λ (z : Place). (place_effects_of f z).register) (sym at) ∙ sym reg ∙ some in
      let u : value_type p f a ≡ t = ap (λ (z : Place). value_type p f z) (sym at') ∙ sym own in
      gives_as r (effect_of p f e L) (whole_of p f h t n L) l l' o o' (rw (is, at'') (effect-Assign-register p f a w n L (length l) q ∙ ap (λ (z : Option ValueType). whole_of p f w z n L (length l)) u)) i

  pub effect-assign-arm : {E : Type 0} {e w h x : Expr} {a g g' c : Place} {s : Option ℕ} {l l' : List Named} {o o' : List Stmt} (L : Registers) (r : Result (Unit {0}) E) (o'' : List Stmt) →
      e ≡ Assign a w → g ≡ a → s ≡ (place_effects_of f g).register → s ≡ None → g' ≡ a → h ≡ w → IsMade (placed_of p f g' h L) (c, x) l l' o o' →
      OnOk r (o'' ≡ o' ++ Do (Assign c x) ∷ []) → Gives r (effect_of p f e L) l l' o o''
  effect-assign-arm {e = e} {w = w} {h = h} {x = x} {a = a} {g = g} {g' = g'} {c = c} {s = s} {l = l} {l' = l'} {o = o} {o' = o'} L r o'' is at reg none at' at'' i j =
      let q : (place_effects_of f a).register ≡ None = ap (λ (z : Place). (place_effects_of f z).register) (sym at) ∙ sym reg ∙ none in
      gives_as r (effect_of p f e L) (λ k. piece (placed_of p f g' h L k).temps ((placed_of p f g' h L k).stmts ++ Do (Assign (placed_of p f g' h L k).value.0 (placed_of p f g' h L k).value.1) ∷ []) tt) l l' o o''
      (rw (is, at', at'') (effect-Assign p f a w L (length l) q)) (gives_behind r o'' (λ z. Do (Assign z.0 z.1)) i j)

  pub effect-change-arm : {E : Type 0} {e w h x : Expr} {a g g' b : Place} {op : BinOp} {t : IntType} {l l' : List Named} {o o' : List Stmt} (L : Registers) (r : Result (Unit {0}) E) (l'' : List Named) (o'' : List Stmt) →
      e ≡ Change a op t w → g ≡ a → h ≡ w → g' ≡ a → IsMade (placed_of p f g h L) (b, x) l l' o o' →
      Gives r (change_of p f g' op t b x L) l' l'' o' o'' → Gives r (effect_of p f e L) l l'' o o''
  effect-change-arm {e = e} {w = w} {h = h} {a = a} {g = g} {g' = g'} {op = op} {t = t} {l = l} {o = o} L r l'' o'' is at at' at'' i j =
      gives_as r (effect_of p f e L) (placed_of p f g h L >>= (λ z. change_of p f g' op t z.0 z.1 L)) l l'' o o''
      (rw (is, at, at', at'') (effect-Change p f a op t w L (length l))) (gives_then r l'' o'' (λ z. change_of p f g' op t z.0 z.1 L) i j)

  pub effect-after-arm : {E : Type 0} {e : Expr} {a g g' b : Place} {down : Bool} {l l' : List Named} {o o' : List Stmt} (L : Registers) (r : Result (Unit {0}) E) (l'' : List Named) (o'' : List Stmt) →
      e ≡ After a down → g ≡ a → g' ≡ a → IsMade (place_of p f g L) b l l' o o' → Gives r (step_of p f g' down b L) l' l'' o' o'' → Gives r (effect_of p f e L) l l'' o o''
  effect-after-arm {e = e} {a = a} {g = g} {g' = g'} {down = down} {l = l} {o = o} L r l'' o'' is at at' h i =
      gives_as r (effect_of p f e L) (place_of p f g L >>= (λ b. step_of p f g' down b L)) l l'' o o''
      (rw (is, at, at') (effect-After p f a down L (length l))) (gives_then r l'' o'' (λ b. step_of p f g' down b L) h i)

  pub effect-call-arm : {E : Type 0} {e g g' x : Expr} {l l' : List Named} {o o' : List Stmt} (L : Registers) (r : Result (Unit {0}) E) (args : List Expr) (o'' : List Stmt) →
      e ≡ Call g args → g' ≡ g → IsMade (calling_of p f g' args L) x l l' o o' → OnOk r (o'' ≡ o' ++ Do x ∷ []) → Gives r (effect_of p f e L) l l' o o''
  effect-call-arm {e = e} {g = g} {g' = g'} {l = l} {l' = l'} {o = o} L r args o'' is at h i =
      gives_as r (effect_of p f e L) (λ k. piece (calling_of p f g' args L k).temps ((calling_of p f g' args L k).stmts ++ Do (calling_of p f g' args L k).value ∷ []) tt) l l' o o''
      (rw (is, at) (effect-Call p f g args L (length l))) (gives_behind r o'' Do h i)

  pub effect-intr-arm : {E : Type 0} {e x : Expr} {l l' : List Named} {o o' : List Stmt} (L : Registers) (r : Result (Unit {0}) E) (m : Intrinsic) (a : Option Expr) (o'' : List Stmt) →
      e ≡ Intr m a → IsMade (intrinsic_of p f m a L) x l l' o o' → OnOk r (o'' ≡ o' ++ Do x ∷ []) → Gives r (effect_of p f e L) l l' o o''
  effect-intr-arm {e = e} {l = l} {l' = l'} {o = o} L r m a o'' is h i =
      gives_as r (effect_of p f e L) (λ k. piece (intrinsic_of p f m a L k).temps ((intrinsic_of p f m a L k).stmts ++ Do (intrinsic_of p f m a L k).value ∷ []) tt) l l' o o''
      (rw is (effect-Intr p f m a L (length l))) (gives_behind r o'' Do h i)

  pub effect-seq-arm : {E : Type 0} {e a b g h h' : Expr} {u : Unit {0}} {l l' : List Named} {o o' : List Stmt} (L : Registers) (r : Result (Unit {0}) E) (l'' : List Named) (o'' : List Stmt) →
      e ≡ Seq a b → g ≡ a → h ≡ b → h' ≡ b → IsMade (effect_of p f g (also (effects_of f h).assigned L)) u l l' o o' →
      Gives r (effect_of p f h' L) l' l'' o' o'' → Gives r (effect_of p f e L) l l'' o o''
  effect-seq-arm {e = e} {a = a} {b = b} {g = g} {h = h} {h' = h'} {l = l} {o = o} L r l'' o'' is at at' at'' i j =
      gives_as r (effect_of p f e L) (effect_of p f g (also (effects_of f h).assigned L) >>= (λ v. effect_of p f h' L)) l l'' o o''
      (rw (is, at, at', at'') (effect-Seq p f a b L (length l))) (gives_then r l'' o'' (λ v. effect_of p f h' L) i j)

  pub effect-default-arm : {E : Type 0} {e x : Expr} {t : Option ValueType} {l l' : List Named} {o o' : List Stmt} (L : Registers) (r : Result (Unit {0}) E) (l'' : List Named) (o'' : List Stmt) →
      ((a : Place) → e ≡ Load a → ⊥) → ((a b : Expr) → e ≡ Both a b → ⊥) → ((a b : Expr) → e ≡ Either a b → ⊥) →
      ((c a b : Expr) → e ≡ Choose c a b → ⊥) → ((a : Place) (v : Expr) → e ≡ Assign a v → ⊥) →
      ((a : Place) (o : BinOp) (t : IntType) (v : Expr) → e ≡ Change a o t v → ⊥) → ((a : Place) (down : Bool) → e ≡ After a down → ⊥) →
      ((g : Expr) (args : List Expr) → e ≡ Call g args → ⊥) → ((i : Intrinsic) (a : Option Expr) → e ≡ Intr i a → ⊥) → ((a b : Expr) → e ≡ Seq a b → ⊥) →
      t ≡ type_of p f.locals e → IsMade (operand_of p f e L) x l l' o o' → Gives r (unused t x) l' l'' o' o'' → Gives r (effect_of p f e L) l l'' o o''
  effect-default-arm {e = e} {t = t} {l = l} {o = o} L r l'' o'' load both either choose assign change after call intr seq own h i =
      gives_as r (effect_of p f e L) (operand_of p f e L >>= unused t) l l'' o o''
      (effect-other p f e load both either choose assign change after call intr seq L (length l) ∙ ap (λ (z : Option ValueType). (operand_of p f e L >>= unused z) (length l)) (sym own))
      (gives_then r l'' o'' (unused t) h i)
