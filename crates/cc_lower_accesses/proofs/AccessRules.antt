-- Reads, writes and changes of places, calls and arguments, as the code makes them; and the locals of temporaries.
use Rattle.std.proofs.Common.{arith, ◌≡◌, ◌+◌, ℕ, Bool, true, false, List, [], ◌∷◌, ◌++◌, map, length, Option, Some, None, refl, ap, sym, ◌∙◌, append_assoc}
use Rattle.std.specs.Prelude.{is_some, if◌then◌else◌}
use Rattle.std.proofs.lemmas.List.{append-nil, length-append, map-append, length-map}
use Rattle.cc_program.specs.CcNum.declared.int_type.IntType.{IntType}
use Rattle.cc_program.specs.CcNum.declared.op.BinOp.{BinOp}
use Rattle.cc_program.specs.declared.expr.Expr.{Expr, Load, Assign, Call, out-Expr}
use Rattle.cc_program.specs.declared.expr.Place.{Place}
use Rattle.cc_program.specs.declared.func.Func.{Func}
use Rattle.cc_program.specs.declared.program.Program.{Program}
use Rattle.cc_program.specs.declared.stmt.Stmt.{Stmt, Do}
use Rattle.cc_syntax.specs.Effects.{Registers, Effects, also, is_soft, effects_of, place_effects_of, all_assigned}
use Rattle.cc_syntax.specs.Forms.{form_of}
use Rattle.cc_syntax.specs.Programs.{type_of}
use Rattle.cc_syntax.specs.Types.{Named}
use Rattle.cc_syntax.specs.Values.{ValueType}
use Rattle.cc_lower_expressions.specs.Expressions.{Temps, Piece, piece, done, ◌>>=◌, emit, into, set, temp, lowering, mapped, from_two, is_callee, is_idle, unused, called, arguments, all_args, changed}
use Rattle.cc_lower_expressions.specs.Temporaries.{declared_type, is_same_type}
use Rattle.cc_lower_accesses.specs.Modes.{as_locals, value_type, operand_of, read_of, right_of, whole_read_of, new_of, changed_of, change_of, stepped_of, step_value_of, step_of, arguments_of, callee_of, calling_of}
use Rattle.cc_lower_accesses.proofs.Opened.{none-behind, low-type, low-effects}

-- ---- locals

pub locals-none : as_locals [] ≡ []
unfolding as_locals
locals-none = refl

pub locals-append : (x y : Temps) → as_locals (x ++ y) ≡ as_locals x ++ as_locals y
unfolding as_locals
locals-append x y = map-append (λ (t : Option ValueType). ([], declared_type t)) x y

pub locals-cons : (t : Option ValueType) (x : Temps) → as_locals (t ∷ x) ≡ as_locals (t ∷ []) ++ as_locals x
unfolding as_locals
locals-cons t x = refl

pub locals-length : (l : List Named) (x : Temps) → length (l ++ as_locals x) ≡ length l + length x
unfolding as_locals
locals-length l x = length-append l (as_locals x) ∙ ap (λ (n : ℕ). length l + n) (length-map x (λ (t : Option ValueType). ([], declared_type t)))

pub ruleset locals_rules = (locals-none, locals-append, locals-cons, locals-length, length-append, append_assoc, append-nil)

-- ---- values that nobody uses

pub unused-idle : (t : Option ValueType) (v : Expr) (k : ℕ) → is_idle (out-Expr v) ≡ true → unused t v k ≡ piece [] [] tt
unused-idle t v k h = ap (λ (c : Bool). (if c then done tt else (into t v >>= (λ u. done tt))) k) h

pub unused-kept : (t : Option ValueType) (v : Expr) (k : ℕ) → is_idle (out-Expr v) ≡ false → unused t v k ≡ piece (t ∷ []) (set k v ∷ []) tt
unused-kept t v k h = ap (λ (c : Bool). (if c then done tt else (into t v >>= (λ u. done tt))) k) h

module _ (p : Program) (f : Func) where
  -- ---- reads

  pub read-soft : (a : Place) (L : Registers) (b : Place) (k : ℕ) → is_soft (place_effects_of f a).register L ≡ true → read_of p f a L b k ≡ piece [] [] (Load b)
  unfolding read_of
  read-soft a L b k h = ap (λ (c : Bool). (if c then done (Load b) else into (value_type p f a) (Load b)) k) h

  pub read-hard : (a : Place) (L : Registers) (b : Place) (k : ℕ) →
      is_soft (place_effects_of f a).register L ≡ false → read_of p f a L b k ≡ piece (value_type p f a ∷ []) (set k (Load b) ∷ []) (temp k)
  unfolding read_of
  read-hard a L b k h = ap (λ (c : Bool). (if c then done (Load b) else into (value_type p f a) (Load b)) k) h

  pub right-same : (own : Option ValueType) (e : Expr) (t : Option ValueType) (n k : ℕ) → is_same_type own t ≡ true → right_of p f own e t n k ≡ piece [] (set n e ∷ []) tt
  unfolding right_of
  right-same own e t n k h = ap (λ (c : Bool). (if c then emit (set n e) else (into own e >>= (λ v. emit (set n v)))) k) h

  pub right-other : (own : Option ValueType) (e : Expr) (t : Option ValueType) (n k : ℕ) →
      is_same_type own t ≡ false → right_of p f own e t n k ≡ piece (own ∷ []) (set k e ∷ set n (temp k) ∷ []) tt
  unfolding right_of
  right-other own e t n k h = ap (λ (c : Bool). (if c then emit (set n e) else (into own e >>= (λ v. emit (set n v)))) k) h

  pub whole-read-register : (a b : Place) (t : Option ValueType) (n : ℕ) (L : Registers) (k : ℕ) → is_some (place_effects_of f a).register ≡ true →
      whole_read_of p f a b t n L k ≡ (let x = read_of p f a L b k in piece x.temps (x.stmts ++ set n x.value ∷ []) tt)
  unfolding whole_read_of
  whole-read-register a b t n L k h =
      (let x = read_of p f a L b k in
      ap (λ (c : Bool). (if c then (read_of p f a L b >>= (λ v. emit (set n v))) else right_of p f (value_type p f a) (Load b) t n) k) h ∙ none-behind x.temps (x.stmts ++ set n x.value ∷ []) tt)

  pub whole-read-other : (a b : Place) (t : Option ValueType) (n : ℕ) (L : Registers) (k : ℕ) → is_some (place_effects_of f a).register ≡ false →
      whole_read_of p f a b t n L k ≡ right_of p f (value_type p f a) (Load b) t n k
  unfolding whole_read_of
  whole-read-other a b t n L k h = ap (λ (c : Bool). (if c then (read_of p f a L b >>= (λ v. emit (set n v))) else right_of p f (value_type p f a) (Load b) t n) k) h

  -- ---- changes

  pub new-is : (a : Place) (o : BinOp) (t : IntType) (b : Place) (x : Expr) (L : Registers) (k : ℕ) →
      new_of p f a o t b x L k ≡ (let y = read_of p f a L b k in piece y.temps y.stmts (changed p f declared_type is_same_type o t (value_type p f a) y.value x))
  unfolding new_of
  new-is a o t b x L k =
      (let y = read_of p f a L b k in let v = changed p f declared_type is_same_type o t (value_type p f a) y.value x in
      none-behind y.temps (y.stmts ++ []) v ∙ ap (λ (ss : List Stmt). piece y.temps ss v) (append-nil y.stmts))

  pub changed-is : (a : Place) (o : BinOp) (t : IntType) (b : Place) (x : Expr) (L : Registers) (k : ℕ) →
      changed_of p f a o t b x L k ≡
      (let y = new_of p f a o t b x L k in let n = k + length y.temps in
      piece (y.temps ++ value_type p f a ∷ []) (y.stmts ++ set n y.value ∷ Do (Assign b (temp n)) ∷ []) (temp n))
  unfolding changed_of
  changed-is a o t b x L k = refl

  pub change-is : (a : Place) (o : BinOp) (t : IntType) (b : Place) (x : Expr) (L : Registers) (k : ℕ) →
      change_of p f a o t b x L k ≡ (let y = new_of p f a o t b x L k in piece y.temps (y.stmts ++ Do (Assign b y.value) ∷ []) tt)
  unfolding change_of
  change-is a o t b x L k = (let y = new_of p f a o t b x L k in none-behind y.temps (y.stmts ++ Do (Assign b y.value) ∷ []) tt)

  pub step-value-is : (a : Place) (down : Bool) (b : Place) (k : ℕ) →
      step_value_of p f a down b k ≡ piece (value_type p f a ∷ []) (set k (Load b) ∷ Do (Assign b (stepped_of p f a down (temp k))) ∷ []) (temp k)
  unfolding step_value_of
  step-value-is a down b k = refl

  pub step-is : (a : Place) (down : Bool) (b : Place) (L : Registers) (k : ℕ) →
      step_of p f a down b L k ≡ (let y = read_of p f a L b k in piece y.temps (y.stmts ++ Do (Assign b (stepped_of p f a down y.value)) ∷ []) tt)
  unfolding step_of
  step-is a down b L k = (let y = read_of p f a L b k in none-behind y.temps (y.stmts ++ Do (Assign b (stepped_of p f a down y.value)) ∷ []) tt)

  -- ---- calls

  pub callee-stays : (t : Option ValueType) (e : Expr) (k : ℕ) → is_callee f (form_of e) ≡ true → callee_of p f t e k ≡ piece [] [] e
  unfolding callee_of
  callee-stays t e k h = ap (λ (c : Bool). (if c then done e else into t e) k) h

  pub callee-goes : (t : Option ValueType) (e : Expr) (k : ℕ) → is_callee f (form_of e) ≡ false → callee_of p f t e k ≡ piece (t ∷ []) (set k e ∷ []) (temp k)
  unfolding callee_of
  callee-goes t e k h = ap (λ (c : Bool). (if c then done e else into t e) k) h

  called-by : (c : Bool) (t : Option ValueType) (z : Piece (Expr × List Expr)) (n : ℕ) →
      (if c then mapped (λ x. Call x.0 x.1) z else piece (z.temps ++ t ∷ []) (z.stmts ++ set n z.value.0 ∷ []) (Call (temp n) z.value.1)) ≡
      (let y = (if c then done z.value.0 else into t z.value.0) n in piece (z.temps ++ y.temps) (z.stmts ++ y.stmts) (Call y.value z.value.1))
  called-by true t z n =
      sym (none-behind z.temps (z.stmts ++ []) (Call z.value.0 z.value.1) ∙ ap (λ (ss : List Stmt). piece z.temps ss (Call z.value.0 z.value.1)) (append-nil z.stmts))
  called-by false t z n = refl

  args-effects : (args : List Expr) → all_args (map (lowering p f declared_type is_same_type) args) ≡ all_assigned (map (effects_of f) args)
  args-effects [] = refl
  args-effects (a ∷ args) =
      ap (λ (w : Effects). also w.assigned (all_args (map (lowering p f declared_type is_same_type) args))) (low-effects p f a) ∙
      ap (also (effects_of f a).assigned) (args-effects args)

  pub calling-is : (g : Expr) (args : List Expr) (L : Registers) (k : ℕ) →
      calling_of p f g args L k ≡
      (let x = operand_of p f g (also (all_assigned (map (effects_of f) args)) L) k in let y = arguments_of p f args L (k + length x.temps) in
      let z = callee_of p f (type_of p f.locals g) x.value (k + length (x.temps ++ y.temps)) in
      piece (x.temps ++ y.temps ++ z.temps) (x.stmts ++ y.stmts ++ z.stmts) (Call z.value y.value))
  unfolding calling_of operand_of arguments_of callee_of
  calling-is g args L k =
      (let l = lowering p f declared_type is_same_type g in let ls = map (lowering p f declared_type is_same_type) args in
      ap (λ (w : Registers). called p f declared_type is_same_type l.ctype (from_two (λ e xs. (e, xs)) w l.operand (arguments ls) L k) k) (args-effects args) ∙
      (let z = from_two (λ e xs. (e, xs)) (all_assigned (map (effects_of f) args)) l.operand (arguments ls) L k in
      called-by (is_callee f (form_of z.value.0)) l.ctype z (k + length z.temps) ∙
      ap (λ (t : Option ValueType). let y = (if is_callee f (form_of z.value.0) then done z.value.0 else into t z.value.0) (k + length z.temps) in piece (z.temps ++ y.temps) (z.stmts ++ y.stmts) (Call y.value z.value.1)) (low-type p f g)))

  pub arguments-none : (L : Registers) (k : ℕ) → arguments_of p f [] L k ≡ piece [] [] []
  unfolding arguments_of
  arguments-none L k = refl

  pub arguments-one : (a : Expr) (args : List Expr) (L : Registers) (k : ℕ) →
      arguments_of p f (a ∷ args) L k ≡
      (let x = operand_of p f a (also (all_assigned (map (effects_of f) args)) L) k in let y = arguments_of p f args L (k + length x.temps) in
      piece (x.temps ++ y.temps) (x.stmts ++ y.stmts) (x.value ∷ y.value))
  unfolding arguments_of operand_of
  arguments-one a args L k =
      (let l = lowering p f declared_type is_same_type a in let ls = map (lowering p f declared_type is_same_type) args in
      ap (λ (w : Registers). from_two (λ x xs. x ∷ xs) w l.operand (arguments ls) L k) (args-effects args))

pub ruleset access_rules = (unused-idle, unused-kept, read-soft, read-hard, right-same, right-other, whole-read-register, whole-read-other, new-is, changed-is, change-is, step-value-is, step-is, callee-stays, callee-goes)

pub ruleset call_rules = (calling-is, arguments-none, arguments-one)
