-- What expressions are lowered to is code: expression statements that ask for a step, and `if`s of those.
use Rattle.std.proofs.Common.{◌≡◌, ℕ, ◌+◌, Bool, true, false, ◌&&◌, List, [], ◌∷◌, ◌++◌, map, length, Option, Some, None, is_some, refl, sym, ap, ◌∙◌, subst, if◌then◌else◌}
use Rattle.std.specs.Prelude.{pos}
use Rattle.cc_program.specs.declared.expr.Expr.{Expr, Const, Load, Move, Gap, Compare, Assign, Call, Intr, out-Expr, roll-Expr, map-Expr, fold-roll-Expr}
use Rattle.cc_program.specs.declared.expr.Expr.TheOpen as one
use Rattle.cc_program.specs.declared.expr.Expr.TheVariants.{outs-Assign, outs-Call, outs-Intr}
use Rattle.cc_program.specs.declared.expr.Place.{Place, Local, Element, roll-Place, map-Place, fold-roll-Place}
use Rattle.cc_program.specs.declared.func.Func.{Func}
use Rattle.cc_program.specs.declared.program.Program.{Program}
use Rattle.cc_program.specs.declared.stmt.Stmt.{Stmt, Do, If, fold-roll-Stmt}
use Rattle.cc_program.specs.declared.stmt.Stmt.TheVariants.{rolls-Do, rolls-If}
use Rattle.cc_program.specs.declared.stmt.Stmt.TheOpen as is
use Rattle.cc_program.specs.declared.types.CType.{CType}
use Rattle.cc_program.proofs.Each.{Each}
use Rattle.cc_program.proofs.ExprInduction.{Parts, PlaceParts, by_expr}
use Rattle.cc_program.specs.CcNum.declared.int_type.IntType.{IntType}
use Rattle.cc_program.specs.CcNum.declared.int_type.IntType.TheVariants as int
use Rattle.cc_program.specs.CcNum.declared.op.BinOp.{BinOp}
use Rattle.cc_states.specs.CcSyntax.Effects.{Registers, Effects, also, is_soft}
use Rattle.cc_states.specs.CcSyntax.Forms.{form_at, form_of}
use Rattle.cc_states.specs.CcSyntax.Values.{ValueType}
use Rattle.cc_lower_expressions.specs.Expressions.{Piece, piece, Make, Lowers, done, ◌>>=◌, fresh, emit, fork, into, temp, set, mapped, with_both, from_one, from_two, branch, unused, whole_by, effect_by, whole_right, whole_read, is_callee, read, read_at, call, arguments, all_args, intr_operand, place_and, changed, change, assigned_value, changed_value, change_alone, step_value, step_alone, stepped, both_value, either_value, choose_value, choose_void, condition_of, arm_of, arm_as, int_value, truth_of, folded_bin, number_of, is_idle, branch_alone, is_void_value, value_of, Lowering, PlaceLowering, lower_step, place_lower_step, lowering, place_lowering, operand_at, whole_at, effect_at, effects_at, type_at, itself_at}
use Rattle.cc_lower_expressions_follows.specs.Region.{is_code, are_code, code_step, is_step}

both_hold : (a b : Bool) → a ≡ true → b ≡ true → (a && b) ≡ true
both_hold true b h k = k
both_hold false b h k = absurd (cc)

each_holds : (a b : Bool) → (a && b) ≡ true → (a ≡ true) × (b ≡ true)
each_holds true b h = (refl, h)
each_holds false b h = absurd (cc)

code_append : (xs ys : List Stmt) → are_code xs ≡ true → are_code ys ≡ true → are_code (xs ++ ys) ≡ true
code_append [] ys h k = k
code_append (x ∷ xs) ys h k = let p = each_holds (is_code x) (are_code xs) h in both_hold (is_code x) (are_code (xs ++ ys)) p.0 (code_append xs ys p.1 k)

code-Do : (e : Expr) → is_code (Do e) ≡ is_step (form_of e)
unfolding is_code
code-Do e = ap is_code (sym (rolls-Do e)) ∙ fold-roll-Stmt Bool Bool code_step (λ c. false) (is.Do e)

code-If : (e : Expr) (a b : List Stmt) → is_code (If e a b) ≡ are_code a && are_code b
unfolding is_code
code-If e a b = ap is_code (sym (rolls-If e a b)) ∙ fold-roll-Stmt Bool Bool code_step (λ c. false) (is.If e a b)

code_put : (a : Place) (e : Expr) → is_code (Do (Assign a e)) ≡ true
code_put a e = code-Do (Assign a e) ∙ ap (λ (x : one.Expr-F Expr Place). is_step (form_at x)) (outs-Assign a e)

one_code : (s : Stmt) → is_code s ≡ true → are_code (s ∷ []) ≡ true
one_code s h = both_hold (is_code s) true h refl

-- ---- pieces

abbrev pub IsMade : {A : Type 0} → Make A → Type 0
IsMade m = (k : ℕ) → are_code (m k).stmts ≡ true

module _ {A B : Type 0} where
  made_then : (m : Make A) (f : A → Make B) → IsMade m → ((x : A) → IsMade (f x)) → IsMade (m >>= f)
  made_then m f h g k = code_append (m k).stmts (f (m k).value (k + length (m k).temps)).stmts (h k) (g (m k).value (k + length (m k).temps))

  made_mapped : (f : A → B) (m : Make A) → IsMade m → IsMade (λ k. mapped f (m k))
  made_mapped f m h k = h k

made_fresh : {B : Type 0} (t : Option ValueType) (f : ℕ → Make B) → ((n : ℕ) → IsMade (f n)) → IsMade (fresh t >>= f)
made_fresh t f h k = h k (k + 1)

made_both : {A B C : Type 0} (f : A → B → C) (a : Make A) (b : Make B) → IsMade a → IsMade b → IsMade (with_both f a b)
made_both f a b h g k = code_append (a k).stmts (b (k + length (a k).temps)).stmts (h k) (g (k + length (a k).temps))

made_if : {A : Type 0} (c : Bool) (a b : Make A) → IsMade a → IsMade b → IsMade (if c then a else b)
made_if true a b h g = h
made_if false a b h g = g

made_put : (a : Place) (e : Expr) → IsMade (emit (Do (Assign a e)))
made_put a e k = one_code (Do (Assign a e)) (code_put a e)

made_set : (n : ℕ) (e : Expr) → IsMade (emit (set n e))
made_set n e = made_put (Local n) e

made_into : (t : Option ValueType) (e : Expr) → IsMade (into t e)
made_into t e k = one_code (set k e) (code_put (Local k) e)

made_fork : (c : Expr) (these those : Make (Unit {0})) → IsMade these → IsMade those → IsMade (fork c these those)
made_fork c these those h g k =
    one_code (If c (these k).stmts (those (k + length (these k).temps)).stmts)
    (code-If c (these k).stmts (those (k + length (these k).temps)).stmts ∙ both_hold (are_code (these k).stmts) (are_code (those (k + length (these k).temps)).stmts) (h k) (g (k + length (these k).temps)))

made_branch : (t : Option ValueType) (c : Make Expr) (these those : ℕ → Make (Unit {0})) → IsMade c → ((n : ℕ) → IsMade (these n)) → ((n : ℕ) → IsMade (those n)) → IsMade (branch t c these those)
made_branch t c these those h f g =
    made_then c (λ v. fresh t >>= (λ n. fork v (these n) (those n) >>= (λ u. done (temp n)))) h
    (λ v. made_fresh t (λ n. fork v (these n) (those n) >>= (λ u. done (temp n)))
    (λ n. made_then (fork v (these n) (those n)) (λ u. done (temp n)) (made_fork v (these n) (those n) (f n) (g n)) (λ u k. refl)))

abbrev nothing : Make (Unit {0})
nothing = done tt

made_unused : (t : Option ValueType) (v : Expr) (b : Bool) → IsMade (if b then nothing else (into t v >>= (λ u. nothing)))
made_unused t v b = made_if b nothing (into t v >>= (λ u. nothing)) (λ k. refl) (made_then (into t v) (λ u. nothing) (made_into t v) (λ u k. refl))

abbrev pub AreMade : {A : Type 0} → Lowers A → Type 0
AreMade op = (later : Registers) → IsMade (op later)

abbrev AreWhole : (Option ValueType → ℕ → Lowers (Unit {0})) → Type 0
AreWhole op = (t : Option ValueType) (n : ℕ) (later : Registers) → IsMade (op t n later)

made_by : (op : Lowers Expr) → AreMade op → AreWhole (whole_by op)
made_by op h t n later = made_then (op later) (λ v. emit (set n v)) (h later) (λ v. made_set n v)

made_effect_by : (t : Option ValueType) (op : Lowers Expr) → AreMade op → AreMade (effect_by t op)
made_effect_by t op h later = made_then (op later) (unused t) (h later) (λ v. made_unused t v (is_idle (out-Expr v)))

pub record HasCode (l : Lowering) : Type 0 where
  pub operand : AreMade l.operand
  pub whole : AreWhole l.whole
  pub effect : AreMade l.effect

-- ---- what is read, assigned, called

read_at_made : (a : PlaceLowering) (later : Registers) (b : Place) (soft : Bool) → IsMade (if soft then done (Load b) else into (value_of a) (Load b))
read_at_made a later b soft = made_if soft (done (Load b)) (into (value_of a) (Load b)) (λ k. refl) (made_into (value_of a) (Load b))

read_made : (a : PlaceLowering) → AreMade a.operands → AreMade (read a)
read_made a h later = made_then (a.operands later) (read_at a later) (h later) (λ b. read_at_made a later b (is_soft a.effects.register later))

place_and_made : (a : PlaceLowering) (e : Lowering) → AreMade a.operands → HasCode e → AreMade (place_and a e)
place_and_made a e h g later = made_both {C = Place × Expr} (λ b v. (b, v)) (a.operands (also e.effects.assigned later)) (e.operand later) (h (also e.effects.assigned later)) (g.operand later)

two_made : {C : Type 0} (j : Expr → Expr → C) (a b : Lowering) → HasCode a → HasCode b → AreMade (from_two j b.effects.assigned a.operand b.operand)
two_made j a b h g later = made_both j (a.operand (also b.effects.assigned later)) (b.operand later) (h.operand (also b.effects.assigned later)) (g.operand later)

assigned_made : (a : PlaceLowering) (e : Lowering) → AreMade a.operands → HasCode e → AreMade (assigned_value a e)
assigned_made a e h g later =
    made_then (a.operands (also e.effects.assigned later)) (λ b. fresh (value_of a) >>= (λ n. e.whole (value_of a) n later >>= (λ u. emit (Do (Assign b (temp n))) >>= (λ u. done (temp n))))) (h (also e.effects.assigned later))
    (λ b. made_fresh (value_of a) (λ n. e.whole (value_of a) n later >>= (λ u. emit (Do (Assign b (temp n))) >>= (λ u. done (temp n))))
    (λ n. made_then (e.whole (value_of a) n later) (λ u. emit (Do (Assign b (temp n))) >>= (λ u. done (temp n))) (g.whole (value_of a) n later)
    (λ u. made_then (emit (Do (Assign b (temp n)))) (λ u. done (temp n)) (made_put b (temp n)) (λ u k. refl))))

assignment_made : (a : PlaceLowering) (e : Lowering) (n : ℕ) (own : Bool) → AreMade a.operands → HasCode e → (later : Registers) →
    IsMade (if own then e.whole (value_of a) n later else (place_and a e later >>= (λ x. emit (Do (Assign x.0 x.1)))))
assignment_made a e n own h g later =
    made_if own (e.whole (value_of a) n later) (place_and a e later >>= (λ x. emit (Do (Assign x.0 x.1)))) (g.whole (value_of a) n later)
    (made_then (place_and a e later) (λ x. emit (Do (Assign x.0 x.1))) (place_and_made a e h g later) (λ x. made_put x.0 x.1))

condition_made : (c a b : Lowering) → HasCode c → AreMade (condition_of c a b)
condition_made c a b h later = h.operand (also a.effects.assigned (also b.effects.assigned later))

choose_made : (t : Option ValueType) (c a b : Lowering) → HasCode c → HasCode a → HasCode b → AreMade (choose_value t c a b)
choose_made t c a b h g i later =
    made_branch t (condition_of c a b later) (λ n. a.whole t n (also b.effects.assigned later)) (λ n. b.whole t n later) (condition_made c a b h later) (λ n. g.whole t n (also b.effects.assigned later)) (λ n. i.whole t n later)

void_made : (c a b : Lowering) → HasCode c → HasCode a → HasCode b → AreMade (choose_void c a b)
void_made c a b h g i later =
    made_then (condition_of c a b later) (λ v. fork v (a.effect (also b.effects.assigned later)) (b.effect later)) (condition_made c a b h later)
    (λ v. made_fork v (a.effect (also b.effects.assigned later)) (b.effect later) (g.effect (also b.effects.assigned later)) (i.effect later))

alone_made : (pure : Bool) (t : Option ValueType) (op : Lowers Expr) → AreMade op → (later : Registers) → IsMade (if pure then effect_by t op later else (op later >>= (λ v. nothing)))
alone_made pure t op h later = made_if pure (effect_by t op later) (op later >>= (λ v. nothing)) (made_effect_by t op h later) (made_then (op later) (λ v. nothing) (h later) (λ v k. refl))

-- a value that asks for a step
abbrev AreSteps : Make Expr → Type 0
AreSteps m = (k : ℕ) → is_step (form_of (m k).value) ≡ true

step_made : (m : Make Expr) → IsMade m → AreSteps m → IsMade (m >>= (λ e. emit (Do e)))
step_made m h g k = code_append (m k).stmts (Do (m k).value ∷ []) (h k) (one_code (Do (m k).value) (code-Do (m k).value ∙ g k))

call_steps : (g : Expr) (xs : List Expr) → is_step (form_of (Call g xs)) ≡ true
call_steps g xs = ap (λ (x : one.Expr-F Expr Place). is_step (form_at x)) (outs-Call g xs)

module _ (p : Program) (f : Func) (declares : Option ValueType → CType) (is_same : Option ValueType → Option ValueType → Bool) where
  right_made : (own : Option ValueType) (right : Lowers Expr) → AreMade right → AreWhole (whole_right p f declares is_same own right)
  right_made own right h t n later =
      made_then (right later) (λ e. if is_same own t then emit (set n e) else (into own e >>= (λ v. emit (set n v)))) (h later)
      (λ e. made_if (is_same own t) (emit (set n e)) (into own e >>= (λ v. emit (set n v))) (made_set n e) (made_then (into own e) (λ v. emit (set n v)) (made_into own e) (λ v. made_set n v)))

  whole_read_made : (a : PlaceLowering) → AreMade a.operands → AreWhole (whole_read p f declares is_same a)
  whole_read_made a h t n later =
      made_if (is_some a.effects.register) (whole_by (read a) t n later) (whole_right p f declares is_same (value_of a) (from_one Load a.operands) t n later)
      (made_by (read a) (read_made a h) t n later) (right_made (value_of a) (from_one Load a.operands) (λ later k. h later k) t n later)

  change_made : (a : PlaceLowering) (o : BinOp) (t : IntType) (x : Place × Expr) (later : Registers) → IsMade (change p f declares is_same a o t x later)
  change_made a o t x later = made_then (read_at a later x.0) (λ old. done (changed p f declares is_same o t (value_of a) old x.1)) (read_at_made a later x.0 (is_soft a.effects.register later)) (λ old k. refl)

  changed_made : (a : PlaceLowering) (o : BinOp) (t : IntType) (e : Lowering) → AreMade a.operands → HasCode e → AreMade (changed_value p f declares is_same a o t e)
  changed_made a o t e h g later =
      made_then (place_and a e later) (λ x. change p f declares is_same a o t x later >>= (λ v. into (value_of a) v >>= (λ n. emit (Do (Assign x.0 n)) >>= (λ u. done n)))) (place_and_made a e h g later)
      (λ x. made_then (change p f declares is_same a o t x later) (λ v. into (value_of a) v >>= (λ n. emit (Do (Assign x.0 n)) >>= (λ u. done n))) (change_made a o t x later)
      (λ v. made_then (into (value_of a) v) (λ n. emit (Do (Assign x.0 n)) >>= (λ u. done n)) (made_into (value_of a) v)
      (λ n. made_then (emit (Do (Assign x.0 n))) (λ u. done n) (made_put x.0 n) (λ u k. refl))))

  change_alone_made : (a : PlaceLowering) (o : BinOp) (t : IntType) (e : Lowering) → AreMade a.operands → HasCode e → AreMade (change_alone p f declares is_same a o t e)
  change_alone_made a o t e h g later =
      made_then (place_and a e later) (λ x. change p f declares is_same a o t x later >>= (λ v. emit (Do (Assign x.0 v)))) (place_and_made a e h g later)
      (λ x. made_then (change p f declares is_same a o t x later) (λ v. emit (Do (Assign x.0 v))) (change_made a o t x later) (λ v. made_put x.0 v))

  step_value_made : (a : PlaceLowering) (down : Bool) → AreMade a.operands → AreMade (step_value p f declares is_same a down)
  step_value_made a down h later =
      made_then (a.operands later) (λ b. into (value_of a) (Load b) >>= (λ old. emit (Do (Assign b (stepped p f declares is_same a down old))) >>= (λ u. done old))) (h later)
      (λ b. made_then (into (value_of a) (Load b)) (λ old. emit (Do (Assign b (stepped p f declares is_same a down old))) >>= (λ u. done old)) (made_into (value_of a) (Load b))
      (λ old. made_then (emit (Do (Assign b (stepped p f declares is_same a down old)))) (λ u. done old) (made_put b (stepped p f declares is_same a down old)) (λ u k. refl)))

  step_alone_made : (a : PlaceLowering) (down : Bool) → AreMade a.operands → AreMade (step_alone p f declares is_same a down)
  step_alone_made a down h later =
      made_then (a.operands later) (λ b. read_at a later b >>= (λ old. emit (Do (Assign b (stepped p f declares is_same a down old))))) (h later)
      (λ b. made_then (read_at a later b) (λ old. emit (Do (Assign b (stepped p f declares is_same a down old)))) (read_at_made a later b (is_soft a.effects.register later)) (λ old. made_put b (stepped p f declares is_same a down old)))

  arm_made : (b : Lowering) → HasCode b → (later : Registers) (n : ℕ) → IsMade (arm_of p f declares is_same b later n)
  arm_made b h later n = made_then (b.operand later) (λ v. emit (set n (truth_of p f declares is_same b.ctype v))) (h.operand later) (λ v. made_set n (truth_of p f declares is_same b.ctype v))

  -- ---- calls

  called_code : (t : Option ValueType) (z : Piece (Expr × List Expr)) (n : ℕ) (b : Bool) → are_code z.stmts ≡ true →
      are_code (if b then mapped (λ (x : Expr × List Expr). Call x.0 x.1) z else piece (z.temps ++ t ∷ []) (z.stmts ++ set n z.value.0 ∷ []) (Call (temp n) z.value.1)).stmts ≡ true
  called_code t z n true h = h
  called_code t z n false h = code_append z.stmts (set n z.value.0 ∷ []) h (made_set n z.value.0 0)

  called_steps : (t : Option ValueType) (z : Piece (Expr × List Expr)) (n : ℕ) (b : Bool) →
      is_step (form_of (if b then mapped (λ (x : Expr × List Expr). Call x.0 x.1) z else piece (z.temps ++ t ∷ []) (z.stmts ++ set n z.value.0 ∷ []) (Call (temp n) z.value.1)).value) ≡ true
  called_steps t z n true = call_steps z.value.0 z.value.1
  called_steps t z n false = call_steps (temp n) z.value.1

  module _ (g : Lowering) (args : List Lowering) where
    abbrev parts : Lowers (Expr × List Expr)
    parts = from_two (λ e xs. (e, xs)) (all_args args) g.operand (arguments args)

    call_made : HasCode g → AreMade (arguments args) → AreMade (call p f declares is_same g args)
    call_made h i later k =
        called_code g.ctype (parts later k) (k + length (parts later k).temps) (is_callee f (form_of (parts later k).value.0))
        (made_both {C = Expr × List Expr} (λ e xs. (e, xs)) (g.operand (also (all_args args) later)) (arguments args later) (h.operand (also (all_args args) later)) (i later) k)

    call_is_step : (later : Registers) → AreSteps (call p f declares is_same g args later)
    call_is_step later k = called_steps g.ctype (parts later k) (k + length (parts later k).temps) (is_callee f (form_of (parts later k).value.0))

  -- ---- a case for each variant

  abbrev low : Expr → Lowering
  low e = lowering p f declares is_same e

  abbrev place_low : Place → PlaceLowering
  place_low a = place_lowering p f declares is_same a

  abbrev P : Expr → Type 0
  P e = HasCode (low e)

  abbrev Q : Place → Type 0
  Q a = AreMade (place_low a).operands

  abbrev level : one.Expr-F Expr Place → one.Expr-F Lowering PlaceLowering
  level x = map-Expr Expr Place Lowering PlaceLowering low place_low x

  args_made : (es : List Expr) → Each P es → AreMade (arguments (map low es))
  args_made [] h later = λ k. refl
  args_made (e ∷ es) h later = made_both {C = List Expr} (λ x xs. x ∷ xs) ((low e).operand (also (all_args (map low es)) later)) (arguments (map low es) later) (h.0.operand (also (all_args (map low es)) later)) (args_made es h.1 later)

  pure_or : (whole : Effects) (itself : Expr) (op : Lowers Expr) → AreMade op → (later : Registers) → IsMade (if whole.pure later then done itself else op later)
  pure_or whole itself op h later = made_if (whole.pure later) (done itself) (op later) (λ k. refl) (h later)

  into_made : (t : Option ValueType) (op : Lowers Expr) → AreMade op → (later : Registers) → IsMade (op later >>= into t)
  into_made t op h later = made_then (op later) (into t) (h later) (λ e. made_into t e)

  operand_level : (whole : Effects) (t : Option ValueType) (itself : Expr) (x : one.Expr-F Expr Place) → Parts P Q x → AreMade (operand_at p f declares is_same whole t itself (level x))
  operand_level whole t itself (one.Const n i) h = λ later k. refl
  operand_level whole t itself (one.Null i) h = λ later k. refl
  operand_level whole t itself (one.FuncAddr g) h = λ later k. refl
  operand_level whole t itself (one.Load a) h = read_made (place_low a) h
  operand_level whole t itself (one.AddrOf a) h = λ later k. h later k
  operand_level whole t itself (one.Un o i a) h = λ later k. h.operand later k
  operand_level whole t itself (one.Bin o i a b) h = two_made (folded_bin p f declares is_same o i) (low a) (low b) h.0 h.1
  operand_level whole t itself (one.Conv i a) h = λ later k. h.operand later k
  operand_level whole t itself (one.Qualify c a) h = λ later k. h.operand later k
  operand_level whole t itself (one.Move a b back) h = two_made (λ x y. Move x y back) (low a) (low b) h.0 h.1
  operand_level whole t itself (one.Gap a b) h = two_made Gap (low a) (low b) h.0 h.1
  operand_level whole t itself (one.Compare o a b) h = two_made (Compare o) (low a) (low b) h.0 h.1
  operand_level whole t itself (one.Both a b) h =
      pure_or whole itself (both_value p f declares is_same (low a) (low b))
      (λ later. made_branch int_value ((low a).operand (also (low b).effects.assigned later)) (arm_of p f declares is_same (low b) later) (arm_as 0) (h.0.operand (also (low b).effects.assigned later)) (arm_made (low b) h.1 later) (λ n. made_set n (Const (pos 0) int.Int)))
  operand_level whole t itself (one.Either a b) h =
      pure_or whole itself (either_value p f declares is_same (low a) (low b))
      (λ later. made_branch int_value ((low a).operand (also (low b).effects.assigned later)) (arm_as 1) (arm_of p f declares is_same (low b) later) (h.0.operand (also (low b).effects.assigned later)) (λ n. made_set n (Const (pos 1) int.Int)) (arm_made (low b) h.1 later))
  operand_level whole t itself (one.Choose c a b) h = pure_or whole itself (choose_value t (low c) (low a) (low b)) (choose_made t (low c) (low a) (low b) h.0 h.1 h.2)
  operand_level whole t itself (one.Assign a e) h = assigned_made (place_low a) (low e) h.0 h.1
  operand_level whole t itself (one.Change a o i e) h = changed_made (place_low a) o i (low e) h.0 h.1
  operand_level whole t itself (one.After a down) h = step_value_made (place_low a) down h
  operand_level whole t itself (one.Call g es) h = into_made t (call p f declares is_same (low g) (map low es)) (call_made (low g) (map low es) h.0 (args_made es h.1))
  operand_level whole t itself (one.Intr i None) h = into_made t (from_one (Intr i) (intr_operand None)) (λ later k. refl)
  operand_level whole t itself (one.Intr i (Some a)) h = into_made t (from_one (Intr i) (intr_operand (Some (low a)))) (λ later k. h.operand later k)
  operand_level whole t itself (one.Seq a b) h = λ later. made_then ((low a).effect (also (low b).effects.assigned later)) (λ u. (low b).operand later) (h.0.effect (also (low b).effects.assigned later)) (λ u. h.1.operand later)

  whole_level : (t : Option ValueType) (op : Lowers Expr) → AreMade op → (x : one.Expr-F Expr Place) → Parts P Q x → AreWhole (whole_at p f declares is_same t op (level x))
  whole_level t op o (one.Const n i) h = made_by op o
  whole_level t op o (one.Null i) h = made_by op o
  whole_level t op o (one.FuncAddr g) h = made_by op o
  whole_level t op o (one.Load a) h = whole_read_made (place_low a) h
  whole_level t op o (one.AddrOf a) h = made_by op o
  whole_level t op o (one.Un q i a) h = made_by op o
  whole_level t op o (one.Bin q i a b) h = made_by op o
  whole_level t op o (one.Conv i a) h = made_by op o
  whole_level t op o (one.Qualify c a) h = made_by op o
  whole_level t op o (one.Move a b back) h = made_by op o
  whole_level t op o (one.Gap a b) h = made_by op o
  whole_level t op o (one.Compare q a b) h = made_by op o
  whole_level t op o (one.Both a b) h = made_by op o
  whole_level t op o (one.Either a b) h = made_by op o
  whole_level t op o (one.Choose c a b) h = made_by op o
  whole_level t op o (one.Assign a e) h = made_by op o
  whole_level t op o (one.Change a q i e) h = made_by op o
  whole_level t op o (one.After a down) h = made_by op o
  whole_level t op o (one.Call g es) h = right_made t (call p f declares is_same (low g) (map low es)) (call_made (low g) (map low es) h.0 (args_made es h.1))
  whole_level t op o (one.Intr i None) h = right_made t (from_one (Intr i) (intr_operand None)) (λ later k. refl)
  whole_level t op o (one.Intr i (Some a)) h = right_made t (from_one (Intr i) (intr_operand (Some (low a)))) (λ later k. h.operand later k)
  whole_level t op o (one.Seq a b) h = λ u n later. made_then ((low a).effect (also (low b).effects.assigned later)) (λ x. (low b).whole u n later) (h.0.effect (also (low b).effects.assigned later)) (λ x. h.1.whole u n later)

  effect_level : (whole : Effects) (t : Option ValueType) (op : Lowers Expr) → AreMade op → (x : one.Expr-F Expr Place) → Parts P Q x → AreMade (effect_at p f declares is_same whole t op (level x))
  effect_level whole t op o (one.Const n i) h = made_effect_by t op o
  effect_level whole t op o (one.Null i) h = made_effect_by t op o
  effect_level whole t op o (one.FuncAddr g) h = made_effect_by t op o
  effect_level whole t op o (one.Load a) h = λ later. made_fresh (value_of (place_low a)) (λ n. whole_read p f declares is_same (place_low a) (value_of (place_low a)) n later) (λ n. whole_read_made (place_low a) h (value_of (place_low a)) n later)
  effect_level whole t op o (one.AddrOf a) h = made_effect_by t op o
  effect_level whole t op o (one.Un q i a) h = made_effect_by t op o
  effect_level whole t op o (one.Bin q i a b) h = made_effect_by t op o
  effect_level whole t op o (one.Conv i a) h = made_effect_by t op o
  effect_level whole t op o (one.Qualify c a) h = made_effect_by t op o
  effect_level whole t op o (one.Move a b back) h = made_effect_by t op o
  effect_level whole t op o (one.Gap a b) h = made_effect_by t op o
  effect_level whole t op o (one.Compare q a b) h = made_effect_by t op o
  effect_level whole t op o (one.Both a b) h = λ later. alone_made (whole.pure later) t op o later
  effect_level whole t op o (one.Either a b) h = λ later. alone_made (whole.pure later) t op o later
  effect_level whole t op o (one.Choose c a b) h =
      λ later. made_if (is_void_value t) (choose_void (low c) (low a) (low b) later) (branch_alone whole t op later) (void_made (low c) (low a) (low b) h.0 h.1 h.2 later) (alone_made (whole.pure later) t op o later)
  effect_level whole t op o (one.Assign a e) h = assignment_made (place_low a) (low e) (number_of (place_low a).effects.register) (is_some (place_low a).effects.register) h.0 h.1
  effect_level whole t op o (one.Change a q i e) h = change_alone_made (place_low a) q i (low e) h.0 h.1
  effect_level whole t op o (one.After a down) h = step_alone_made (place_low a) down h
  effect_level whole t op o (one.Call g es) h = λ later. step_made (call p f declares is_same (low g) (map low es) later) (call_made (low g) (map low es) h.0 (args_made es h.1) later) (call_is_step (low g) (map low es) later)
  effect_level whole t op o (one.Intr i None) h = λ later. step_made (from_one (Intr i) (intr_operand None) later) (λ k. refl) (λ k. ap (λ (x : one.Expr-F Expr Place). is_step (form_at x)) (outs-Intr i None))
  effect_level whole t op o (one.Intr i (Some a)) h =
      λ later. step_made (from_one (Intr i) (intr_operand (Some (low a))) later) (λ k. h.operand later k) (λ k. ap (λ (x : one.Expr-F Expr Place). is_step (form_at x)) (outs-Intr i (Some ((low a).operand later k).value)))
  effect_level whole t op o (one.Seq a b) h = λ later. made_then ((low a).effect (also (low b).effects.assigned later)) (λ u. (low b).effect later) (h.0.effect (also (low b).effects.assigned later)) (λ u. h.1.effect later)

  place_level : (itself : Place) (x : one.Place-F Expr Place) → PlaceParts P Q x → AreMade (place_lower_step p f declares is_same (map-Place Expr Place Lowering PlaceLowering low place_low x)).operands
  place_level itself (one.Local r) h = λ later k. refl
  place_level itself (one.Static i) h = λ later k. refl
  place_level itself (one.Device d) h = λ later k. refl
  place_level itself (one.Element a e) h = λ later. made_both Element ((place_low a).operands (also (low e).effects.assigned later)) ((low e).operand later) (h.0 (also (low e).effects.assigned later)) (h.1.operand later)
  place_level itself (one.Member a m) h = λ later k. h later k
  place_level itself (one.Deref e) h = λ later k. h.operand later k

  made : (x : one.Expr-F Expr Place) → Parts P Q x → P (roll-Expr x)
  unfolding lowering place_lowering
  made x h =
      let o = operand_level (effects_at p f declares is_same (level x)) (type_at p f declares is_same (level x)) (itself_at p f declares is_same (level x)) x h in
      subst HasCode (sym (fold-roll-Expr Lowering PlaceLowering (lower_step p f declares is_same) (place_lower_step p f declares is_same) x)) (record {
        operand = o;
        whole = whole_level (type_at p f declares is_same (level x)) (operand_at p f declares is_same (effects_at p f declares is_same (level x)) (type_at p f declares is_same (level x)) (itself_at p f declares is_same (level x)) (level x)) o x h;
        effect = effect_level (effects_at p f declares is_same (level x)) (type_at p f declares is_same (level x)) (operand_at p f declares is_same (effects_at p f declares is_same (level x)) (type_at p f declares is_same (level x)) (itself_at p f declares is_same (level x)) (level x)) o x h;
      })

  place_made : (x : one.Place-F Expr Place) → PlaceParts P Q x → Q (roll-Place x)
  unfolding lowering place_lowering
  place_made x h = subst (λ (a : PlaceLowering). AreMade a.operands) (sym (fold-roll-Place Lowering PlaceLowering (lower_step p f declares is_same) (place_lower_step p f declares is_same) x)) (place_level (roll-Place x) x h)

  -- every lowered expression is code
  pub lowered_code : (e : Expr) → HasCode (low e)
  lowered_code e = by_expr P Q made place_made e
