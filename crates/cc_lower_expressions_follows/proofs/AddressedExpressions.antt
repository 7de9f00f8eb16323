-- A lowered expression takes the addresses of the locals of which its source takes them.
use Rattle.std.proofs.Common.{◌≡◌, ℕ, ℤ, pos, Bool, true, false, ◌||◌, List, map, Option, Some, None, refl, ap, sym, ◌∙◌, if◌then◌else◌}
use Rattle.std.specs.Prelude.{is_some}
use Rattle.std.specs.List.{list_any}
use Rattle.cc_program.specs.CcNum.declared.int_type.IntType.{IntType}
use Rattle.cc_program.specs.CcNum.declared.op.BinOp.{BinOp}
use Rattle.cc_program.specs.CcNum.declared.op.BinOp.TheVariants as op
use Rattle.cc_program.specs.CcNum.declared.op.UnOp.{UnOp}
use Rattle.cc_program.specs.CcNum.Promotions.{promoted}
use Rattle.cc_program.specs.declared.expr.Expr.{Expr, Const, Null, Load, Un, Bin, Conv, Move, Compare, Assign, Call, Intr, out-Expr, roll-Expr, roll-out-Expr, map-Expr}
use Rattle.cc_program.specs.declared.expr.Expr.TheOpen as one
use Rattle.cc_program.specs.declared.expr.Expr.TheVariants.{rolls-Const, rolls-Null, rolls-Un, rolls-Bin, rolls-Conv, rolls-Move, rolls-Compare, rolls-Call, rolls-Intr}
use Rattle.cc_program.specs.declared.expr.Intr.{Intr as IntrKind}
use Rattle.cc_program.specs.declared.expr.Place.{Place}
use Rattle.cc_program.specs.declared.func.Func.{Func}
use Rattle.cc_program.specs.declared.program.Program.{Program}
use Rattle.cc_program.specs.declared.stmt.Stmt.{Do}
use Rattle.cc_program.specs.declared.types.CType.{CType}
use Rattle.cc_states.specs.CcSyntax.Effects.{Registers, is_soft, also}
use Rattle.cc_states.specs.CcSyntax.Folding.{Constant, NoConstant, Value as ConstantOf, Traps, unary_constant, binary_constant, converted_constant}
use Rattle.cc_states.specs.CcSyntax.Forms.{form_at, form_of}
use Rattle.cc_states.specs.CcSyntax.Operators.{unary_result}
use Rattle.cc_states.specs.CcSyntax.Registers.{PlaceUse, address_step, is_address_taken, place_use}
use Rattle.cc_states.specs.CcSyntax.SameTypes.{same_int}
use Rattle.cc_states.specs.CcSyntax.Values.{ValueType, NoValue, Integer, ToObject, ToFunction}
use Rattle.cc_states.specs.CcEval.Eval.{is_back, sum_or_difference}
use Rattle.cc_lower_expressions.specs.Expressions.{Make, Lowers, Lowering, PlaceLowering, done, ◌>>=◌, fresh, emit, into, temp, set, from_one, is_idle, value_of, number_of, constant_in, constant_or, binary_type, whole_by, unused, effect_by, place_and, read_at, read, assigned_value, assignment, right_value, right_alone, folded_un, folded_bin, folded_conv, conv_unless, truth_of, changed, whole_right, whole_read, read_unused, change, changed_value, change_alone, step_type, stepped, step_value, step_alone}
use Rattle.cc_lower_expressions_follows.proofs.Addressed.{takes, place_takes, takes-rolled, takes-Load, takes-temp, taken-Do, taken-put, taken-set, Has, no_more, has_done, has_emit, has_into, has_into_with, has_then, has_fresh, has_both, has_mapped, has_behind, has_before, or_none, or_same, or_again, or_twice, or_turned}
use Rattle.cc_lower_expressions_follows.proofs.NumberLaws.{unary_folds, binary_folds, conversion_folds}

module _ (r : ℕ) where
  abbrev level : one.Expr-F Expr Place → Bool
  level x = address_step r (map-Expr Expr Place Bool PlaceUse (is_address_taken r) (place_use r) x)

  at : (e : Expr) (x : one.Expr-F Expr Place) → roll-Expr x ≡ e → takes r e ≡ level x
  at e x h = ap (is_address_taken r) (sym h) ∙ takes-rolled r x

  pub takes-Const : (n : ℤ) (t : IntType) → takes r (Const n t) ≡ false
  takes-Const n t = at (Const n t) (one.Const n t) (rolls-Const n t)

  pub takes-Compare : (o : BinOp) (a b : Expr) → takes r (Compare o a b) ≡ takes r a || takes r b
  takes-Compare o a b = at (Compare o a b) (one.Compare o a b) (rolls-Compare o a b)

  takes-Null : (t : CType) → takes r (Null t) ≡ false
  takes-Null t = at (Null t) (one.Null t) (rolls-Null t)

  takes-Un : (o : UnOp) (t : IntType) (a : Expr) → takes r (Un o t a) ≡ takes r a
  takes-Un o t a = at (Un o t a) (one.Un o t a) (rolls-Un o t a)

  takes-Conv : (t : IntType) (a : Expr) → takes r (Conv t a) ≡ takes r a
  takes-Conv t a = at (Conv t a) (one.Conv t a) (rolls-Conv t a)

  takes-Bin : (o : BinOp) (t : IntType) (a b : Expr) → takes r (Bin o t a b) ≡ takes r a || takes r b
  takes-Bin o t a b = at (Bin o t a b) (one.Bin o t a b) (rolls-Bin o t a b)

  pub takes-Move : (a b : Expr) (back : Bool) → takes r (Move a b back) ≡ takes r a || takes r b
  takes-Move a b back = at (Move a b back) (one.Move a b back) (rolls-Move a b back)

  abbrev pub list_takes : List Expr → Bool
  list_takes xs = list_any (λ b. b) (map (is_address_taken r) xs)

  pub takes-Call : (g : Expr) (xs : List Expr) → takes r (Call g xs) ≡ takes r g || list_takes xs
  takes-Call g xs = at (Call g xs) (one.Call g xs) (rolls-Call g xs)

  abbrev pub optional_takes : Option Expr → Bool
  optional_takes None = false
  optional_takes (Some e) = takes r e

  pub takes-Intr : (i : IntrKind) (a : Option Expr) → takes r (Intr i a) ≡ optional_takes a
  takes-Intr i None = at (Intr i None) (one.Intr i None) (rolls-Intr i None)
  takes-Intr i (Some a) = at (Intr i (Some a)) (one.Intr i (Some a)) (rolls-Intr i (Some a))

  -- ---- constants take nothing

  idle_level : (x : one.Expr-F Expr Place) → is_idle x ≡ true → level x ≡ false
  idle_level (one.Const n t) h = refl
  idle_level (one.Null t) h = refl
  idle_level x h = absurd (cc)

  constant_level : (n : ℤ) (x : one.Expr-F Expr Place) → constant_in (form_at x) ≡ ConstantOf n → level x ≡ false
  constant_level n (one.Const m t) h = refl
  constant_level n x h = absurd (cc)

  takes-out : (e : Expr) → takes r e ≡ level (out-Expr e)
  takes-out e = at e (out-Expr e) (roll-out-Expr e)

  constant_takes : (e : Expr) (n : ℤ) → constant_in (form_of e) ≡ ConstantOf n → takes r e ≡ false
  constant_takes e n h = takes-out e ∙ constant_level n (out-Expr e) h

  folded : (c : Constant) (t : IntType) (e : Expr) → ((m : ℤ) → c ≡ ConstantOf m → takes r e ≡ false) → takes r (constant_or t c e) ≡ takes r e
  folded NoConstant t e h = refl
  folded (ConstantOf m) t e h = takes-Const m t ∙ sym (h m refl)
  folded Traps t e h = refl

  module _ (p : Program) (f : Func) (declares : Option ValueType → CType) (is_same : Option ValueType → Option ValueType → Bool) where
    pub takes-un : (o : UnOp) (t : IntType) (e : Expr) → takes r (folded_un p f declares is_same o t e) ≡ takes r e
    takes-un o t e =
        folded (unary_constant p.target o t (constant_in (form_of e))) (unary_result o t) (Un o t e)
        (λ m h. let c = unary_folds p.target o t (constant_in (form_of e)) m h in takes-Un o t e ∙ constant_takes e c.0 c.1) ∙ takes-Un o t e

    pub takes-conv : (t : IntType) (e : Expr) → takes r (folded_conv p f declares is_same t e) ≡ takes r e
    takes-conv t e =
        folded (converted_constant p.target t (constant_in (form_of e))) t (Conv t e)
        (λ m h. let c = conversion_folds p.target t (constant_in (form_of e)) m h in takes-Conv t e ∙ constant_takes e c.0 c.1) ∙ takes-Conv t e

    neither : (a b : Bool) → a ≡ false → b ≡ false → a || b ≡ false
    neither a b h k = rw (h, k) refl

    pub takes-bin : (o : BinOp) (t : IntType) (a b : Expr) → takes r (folded_bin p f declares is_same o t a b) ≡ takes r a || takes r b
    takes-bin o t a b =
        folded (binary_constant p.target o t (constant_in (form_of a)) (constant_in (form_of b))) (binary_type o t) (Bin o t a b)
        (λ m h.
        let c = binary_folds p.target o t (constant_in (form_of a)) (constant_in (form_of b)) m h in
        takes-Bin o t a b ∙ neither (takes r a) (takes r b) (constant_takes a c.0 c.2) (constant_takes b c.1 c.3)) ∙ takes-Bin o t a b

    unless_by : (b : Bool) (t : IntType) (e : Expr) → takes r (if b then e else folded_conv p f declares is_same t e) ≡ takes r e
    unless_by true t e = refl
    unless_by false t e = takes-conv t e

    pub takes-unless : (s t : IntType) (e : Expr) → takes r (conv_unless p f declares is_same s t e) ≡ takes r e
    takes-unless s t e = unless_by (same_int s t) t e

    by_null : (e : Expr) (t : CType) → takes r (Compare op.Ne e (Null t)) ≡ takes r e
    by_null e t = takes-Compare op.Ne e (Null t) ∙ ap (λ (b : Bool). takes r e || b) (takes-Null t) ∙ or_none (takes r e)

    pub takes-truth : (t : Option ValueType) (e : Expr) → takes r (truth_of p f declares is_same t e) ≡ takes r e
    takes-truth None e = refl
    takes-truth (Some NoValue) e = refl
    takes-truth (Some (Integer t)) e =
        takes-bin op.Ne (promoted t p.target) (conv_unless p f declares is_same t (promoted t p.target) e) (Const (pos 0) (promoted t p.target)) ∙
        ap (λ (b : Bool). takes r (conv_unless p f declares is_same t (promoted t p.target) e) || b) (takes-Const (pos 0) (promoted t p.target)) ∙
        or_none (takes r (conv_unless p f declares is_same t (promoted t p.target) e)) ∙ takes-unless t (promoted t p.target) e
    takes-truth (Some (ToObject constant volatile t)) e = by_null e (declares (Some (ToObject constant volatile t)))
    takes-truth (Some (ToFunction sig)) e = by_null e (declares (Some (ToFunction sig)))

    -- the types of places that `op=`, `++` and `--` change
    abbrev pub may_change : Option ValueType → Bool
    may_change None = false
    may_change (Some NoValue) = false
    may_change (Some (Integer t)) = true
    may_change (Some (ToObject constant volatile t)) = true
    may_change (Some (ToFunction sig)) = false

    pub takes-changed : (o : BinOp) (t : IntType) (own : Option ValueType) → may_change own ≡ true → (old b : Expr) → takes r (changed p f declares is_same o t own old b) ≡ takes r old || takes r b
    takes-changed o t None h old b = absurd (cc)
    takes-changed o t (Some NoValue) h old b = absurd (cc)
    takes-changed o t (Some (Integer s)) h old b =
        takes-unless t s (folded_bin p f declares is_same o t (conv_unless p f declares is_same s t old) b) ∙ takes-bin o t (conv_unless p f declares is_same s t old) b ∙ ap (λ (x : Bool). x || takes r b) (takes-unless s t old)
    takes-changed o t (Some (ToObject constant volatile to)) h old b = takes-Move old b (is_back o)
    takes-changed o t (Some (ToFunction sig)) h old b = absurd (cc)

    takes-stepped : (a : PlaceLowering) (down : Bool) → may_change (value_of a) ≡ true → (old : Expr) → takes r (stepped p f declares is_same a down old) ≡ takes r old
    takes-stepped a down h old =
        takes-changed (sum_or_difference down) (step_type p f declares is_same a) (value_of a) h old (Const (pos 1) (step_type p f declares is_same a)) ∙
        ap (λ (b : Bool). takes r old || b) (takes-Const (pos 1) (step_type p f declares is_same a)) ∙ or_none (takes r old)

    -- ---- what is made of parts

    pub record SameTaken (taken : Bool) (l : Lowering) : Type 0 where
      pub itself : takes r l.itself ≡ taken
      pub operand : (later : Registers) → Has r (takes r) taken (l.operand later)
      pub whole : (t : Option ValueType) (n : ℕ) (later : Registers) → Has r (no_more r) taken (l.whole t n later)
      pub effect : (later : Registers) → Has r (no_more r) taken (l.effect later)

    pub record SamePlace (taken is_it : Bool) (l : PlaceLowering) : Type 0 where
      pub operands : (later : Registers) → Has r (place_takes r) taken (l.operands later)
      pub named : (later : Registers) (k : ℕ) → (place_use r (l.operands later k).value).is_local ≡ is_it
      pub register : (i : ℕ) → l.effects.register ≡ Some i → taken ≡ false

    pub sets : (n : ℕ) (v : Expr) → Has r (no_more r) (takes r v) (emit (set n v))
    sets n v = (λ count. (has_emit r (set n v)) count ∙ (taken-set r n v))

    puts : (b : Place) (v : Expr) → Has r (no_more r) (place_takes r b || takes r v) (emit (Do (Assign b v)))
    puts b v = (λ count. (has_emit r (Do (Assign b v))) count ∙ (taken-put r b v))

    -- nothing more is done
    abbrev pub stop : Make (Unit {0})
    stop = done tt

    pub stopped : Has r (no_more r) false stop
    stopped count = refl

    -- ---- by default

    module _ (taken : Bool) (operand : Lowers Expr) (h : (later : Registers) → Has r (takes r) taken (operand later)) where
      pub whole_default : (t : Option ValueType) (n : ℕ) (later : Registers) → Has r (no_more r) taken (whole_by operand t n later)
      whole_default t n later = has_then r (takes r) (no_more r) taken (operand later) (λ v. emit (set n v)) (h later) (λ v. sets n v)

      pub unused_by : (t : Option ValueType) (v : Expr) (b : Bool) → is_idle (out-Expr v) ≡ b → Has r (no_more r) (takes r v) (if b then stop else (into t v >>= (λ u. stop)))
      unused_by t v true e k = sym (takes-out v ∙ idle_level (out-Expr v) e)
      unused_by t v false e k = has_then r (no_more r) (no_more r) (takes r v) (into t v) (λ u. stop) (has_into r (no_more r) (λ n. refl) t v) (λ u. stopped) k

      pub effect_default : (t : Option ValueType) (later : Registers) → Has r (no_more r) taken (effect_by t operand later)
      effect_default t later = has_then r (takes r) (no_more r) taken (operand later) (unused t) (h later) (λ v. unused_by t v (is_idle (out-Expr v)) refl)

      pub value_right : (t : Option ValueType) (later : Registers) → Has r (takes r) taken (right_value t operand later)
      value_right t later = has_then r (takes r) (takes r) taken (operand later) (into t) (h later) (λ e. has_into r (takes r) (takes-temp r) t e)

      pub alone_right : (later : Registers) → Has r (no_more r) taken (right_alone operand later)
      alone_right later =
          has_then r (takes r) (no_more r) taken (operand later) (λ e. emit (Do e)) (h later) (λ e. (λ count. (has_emit r (Do e)) count ∙ (taken-Do r e)))

      right_by : (own : Option ValueType) (n : ℕ) (e : Expr) (b : Bool) → Has r (no_more r) (takes r e) (if b then emit (set n e) else (into own e >>= (λ v. emit (set n v))))
      right_by own n e true = sets n e
      right_by own n e false = has_then r (takes r) (no_more r) (takes r e) (into own e) (λ v. emit (set n v)) (has_into r (takes r) (takes-temp r) own e) (λ v. sets n v)

      pub whole_right_same : (own t : Option ValueType) (n : ℕ) (later : Registers) → Has r (no_more r) taken (whole_right p f declares is_same own operand t n later)
      whole_right_same own t n later =
          has_then r (takes r) (no_more r) taken (operand later) (λ e. if is_same own t then emit (set n e) else (into own e >>= (λ v. emit (set n v)))) (h later) (λ e. right_by own n e (is_same own t))

    -- ---- reads

    module _ (taken is_it : Bool) (a : PlaceLowering) (h : SamePlace taken is_it a) where
      read_by : (b : Place) (soft : Bool) → Has r (takes r) (place_takes r b) (if soft then done (Load b) else into (value_of a) (Load b))
      read_by b true = (λ count. (has_done r (takes r) (Load b)) count ∙ (takes-Load r b))
      read_by b false = (λ count. (has_into r (takes r) (takes-temp r) (value_of a) (Load b)) count ∙ (takes-Load r b))

      reads : (later : Registers) (b : Place) → Has r (takes r) (place_takes r b) (read_at a later b)
      reads later b = read_by b (is_soft a.effects.register later)

      pub read_same : (later : Registers) → Has r (takes r) taken (read a later)
      read_same later = has_then r (place_takes r) (takes r) taken (a.operands later) (read_at a later) (h.operands later) (reads later)

      loads : (later : Registers) → Has r (takes r) taken (from_one Load a.operands later)
      loads later = has_mapped r Load (place_takes r) (takes r) (takes-Load r) taken (a.operands later) (h.operands later)

      whole_by_register : (o : Bool) (t : Option ValueType) (n : ℕ) (later : Registers) →
          Has r (no_more r) taken (if o then whole_by (read a) t n later else whole_right p f declares is_same (value_of a) (from_one Load a.operands) t n later)
      whole_by_register true t n later = whole_default taken (read a) read_same t n later
      whole_by_register false t n later = whole_right_same taken (from_one Load a.operands) loads (value_of a) t n later

      pub whole_read_same : (t : Option ValueType) (n : ℕ) (later : Registers) → Has r (no_more r) taken (whole_read p f declares is_same a t n later)
      whole_read_same t n later = whole_by_register (is_some a.effects.register) t n later

      pub unused_read : (later : Registers) → Has r (no_more r) taken (read_unused p f declares is_same a later)
      unused_read later = has_fresh r (no_more r) taken (value_of a) (λ n. whole_read p f declares is_same a (value_of a) n later) (λ n. whole_read_same (value_of a) n later)

      -- ---- `++` and `--`

      module _ (down : Bool) (may : may_change (value_of a) ≡ true) where
        abbrev new : Expr → Expr
        new old = stepped p f declares is_same a down old

        put_old : (b : Place) (old : Expr) → Has r (takes r) ((place_takes r b || takes r (new old)) || takes r old) (emit (Do (Assign b (new old))) >>= (λ u. done old))
        put_old b old =
            has_then r (λ (u : Unit {0}). false || takes r old) (takes r) ((place_takes r b || takes r (new old)) || takes r old) (emit (Do (Assign b (new old)))) (λ u. done old)
            (has_behind r (no_more r) (place_takes r b || takes r (new old)) (takes r old) (emit (Do (Assign b (new old)))) (puts b (new old))) (λ u. has_done r (takes r) old)

        at_temp : (b : Place) (n : ℕ) → (place_takes r b || takes r (new (temp n))) || takes r (temp n) ≡ place_takes r b
        at_temp b n =
            ap (λ (x : Bool). (place_takes r b || x) || takes r (temp n)) (takes-stepped a down may (temp n) ∙ takes-temp r n) ∙ ap (λ (x : Bool). (place_takes r b || false) || x) (takes-temp r n) ∙
            or_none (place_takes r b || false) ∙ or_none (place_takes r b)

        pub step_value_same : (later : Registers) → Has r (takes r) taken (step_value p f declares is_same a down later)
        step_value_same later =
            has_then r (place_takes r) (takes r) taken (a.operands later) (λ b. into (value_of a) (Load b) >>= (λ old. emit (Do (Assign b (new old))) >>= (λ u. done old))) (h.operands later)
            (λ b. (λ count. (has_then r (λ old. (place_takes r b || takes r (new old)) || takes r old) (takes r) (takes r (Load b) || place_takes r b) (into (value_of a) (Load b)) (λ old. emit (Do (Assign b (new old))) >>= (λ u. done old))
            (has_into_with r (λ old. (place_takes r b || takes r (new old)) || takes r old) (place_takes r b) (at_temp b) (value_of a) (Load b)) (λ old. put_old b old)) count ∙ (ap (λ (x : Bool). x || place_takes r b) (takes-Load r b) ∙ or_same (place_takes r b))))

        pub step_alone_same : (later : Registers) → Has r (no_more r) taken (step_alone p f declares is_same a down later)
        step_alone_same later =
            has_then r (place_takes r) (no_more r) taken (a.operands later) (λ b. read_at a later b >>= (λ old. emit (Do (Assign b (new old))))) (h.operands later)
            (λ b. (λ count. (has_then r (λ old. place_takes r b || takes r old) (no_more r) (place_takes r b || place_takes r b) (read_at a later b) (λ old. emit (Do (Assign b (new old))))
            (has_before r (takes r) (place_takes r b) (place_takes r b) (read_at a later b) (reads later b))
            (λ old. (λ count. (puts b (new old)) count ∙ (ap (λ (x : Bool). place_takes r b || x) (takes-stepped a down may old))))) count ∙ (or_same (place_takes r b))))

      -- ---- assignments

      module _ (value : Bool) (e : Lowering) (k : SameTaken value e) where
        pairs : (later : Registers) → Has r (λ x. place_takes r x.0 || takes r x.1) (taken || value) (place_and a e later)
        pairs later =
            has_both r {C = Place × Expr} (λ b v. (b, v)) (place_takes r) (takes r) (λ x. place_takes r x.0 || takes r x.1) (λ b v. refl) taken value (a.operands (also e.effects.assigned later)) (e.operand later)
            (h.operands (also e.effects.assigned later)) (k.operand later)

        put_temp : (b : Place) (n : ℕ) → Has r (takes r) (place_takes r b) (emit (Do (Assign b (temp n))) >>= (λ u. done (temp n)))
        put_temp b n =
            (λ count. (has_then r (no_more r) (takes r) (place_takes r b || takes r (temp n)) (emit (Do (Assign b (temp n)))) (λ u. done (temp n)) (puts b (temp n))
            (λ u. (λ count. (has_done r (takes r) (temp n)) count ∙ (takes-temp r n)))) count ∙ (ap (λ (x : Bool). place_takes r b || x) (takes-temp r n) ∙ or_none (place_takes r b)))

        pub assigned_same : (later : Registers) → Has r (takes r) (taken || value) (assigned_value a e later)
        assigned_same later =
            (λ count. (has_then r (λ b. value || place_takes r b) (takes r) (value || taken) (a.operands (also e.effects.assigned later))
            (λ b. fresh (value_of a) >>= (λ n. e.whole (value_of a) n later >>= (λ u. emit (Do (Assign b (temp n))) >>= (λ u. done (temp n)))))
            (has_before r (place_takes r) taken value (a.operands (also e.effects.assigned later)) (h.operands (also e.effects.assigned later)))
            (λ b. has_fresh r (takes r) (value || place_takes r b) (value_of a) (λ n. e.whole (value_of a) n later >>= (λ u. emit (Do (Assign b (temp n))) >>= (λ u. done (temp n))))
            (λ n. has_then r (λ (u : Unit {0}). false || place_takes r b) (takes r) (value || place_takes r b) (e.whole (value_of a) n later) (λ u. emit (Do (Assign b (temp n))) >>= (λ u. done (temp n)))
            (has_behind r (no_more r) value (place_takes r b) (e.whole (value_of a) n later) (k.whole (value_of a) n later)) (λ u. put_temp b n)))) count ∙ (or_turned value taken))

        assignment_by : (o : Option ℕ) → a.effects.register ≡ o → (later : Registers) →
            Has r (no_more r) (taken || value) (if is_some o then e.whole (value_of a) (number_of o) later else (place_and a e later >>= (λ x. emit (Do (Assign x.0 x.1)))))
        assignment_by None i later = has_then r (λ x. place_takes r x.0 || takes r x.1) (no_more r) (taken || value) (place_and a e later) (λ x. emit (Do (Assign x.0 x.1))) (pairs later) (λ x. puts x.0 x.1)
        assignment_by (Some n) i later =
            (λ count. (k.whole (value_of a) n later) count ∙ (sym (ap (λ (x : Bool). x || value) (h.register n i))))

        pub assignment_same : (later : Registers) → Has r (no_more r) (taken || value) (assignment a e later)
        assignment_same later = assignment_by a.effects.register refl later

        -- ---- `op=`

        module _ (o : BinOp) (t : IntType) (may : may_change (value_of a) ≡ true) where
          changes : (later : Registers) (x : Place × Expr) → Has r (takes r) (place_takes r x.0 || takes r x.1) (change p f declares is_same a o t x later)
          changes later x =
              has_then r (λ old. takes r old || takes r x.1) (takes r) (place_takes r x.0 || takes r x.1) (read_at a later x.0) (λ old. done (changed p f declares is_same o t (value_of a) old x.1))
              (has_behind r (takes r) (place_takes r x.0) (takes r x.1) (read_at a later x.0) (reads later x.0))
              (λ old. (λ count. (has_done r (takes r) (changed p f declares is_same o t (value_of a) old x.1)) count ∙ (takes-changed o t (value_of a) may old x.1)))

          put_itself : (b : Place) (n : Expr) → Has r (takes r) ((place_takes r b || takes r n) || takes r n) (emit (Do (Assign b n)) >>= (λ u. done n))
          put_itself b n =
              has_then r (λ (u : Unit {0}). false || takes r n) (takes r) ((place_takes r b || takes r n) || takes r n) (emit (Do (Assign b n))) (λ u. done n)
              (has_behind r (no_more r) (place_takes r b || takes r n) (takes r n) (emit (Do (Assign b n))) (puts b n)) (λ u. has_done r (takes r) n)

          temp_itself : (b : Place) (n : ℕ) → (place_takes r b || takes r (temp n)) || takes r (temp n) ≡ place_takes r b
          temp_itself b n = ap (λ (x : Bool). (place_takes r b || x) || x) (takes-temp r n) ∙ or_none (place_takes r b || false) ∙ or_none (place_takes r b)

          back : (b : Place) (v : Expr) → Has r (takes r) (takes r v || place_takes r b) (into (value_of a) v >>= (λ n. emit (Do (Assign b n)) >>= (λ u. done n)))
          back b v =
              has_then r (λ n. (place_takes r b || takes r n) || takes r n) (takes r) (takes r v || place_takes r b) (into (value_of a) v) (λ n. emit (Do (Assign b n)) >>= (λ u. done n))
              (has_into_with r (λ n. (place_takes r b || takes r n) || takes r n) (place_takes r b) (temp_itself b) (value_of a) v) (λ n. put_itself b n)

          pub changed_same : (later : Registers) → Has r (takes r) (taken || value) (changed_value p f declares is_same a o t e later)
          changed_same later =
              has_then r (λ x. place_takes r x.0 || takes r x.1) (takes r) (taken || value) (place_and a e later)
              (λ x. change p f declares is_same a o t x later >>= (λ v. into (value_of a) v >>= (λ n. emit (Do (Assign x.0 n)) >>= (λ u. done n)))) (pairs later)
              (λ x. (λ count. (has_then r (λ v. takes r v || place_takes r x.0) (takes r) ((place_takes r x.0 || takes r x.1) || place_takes r x.0) (change p f declares is_same a o t x later)
              (λ v. into (value_of a) v >>= (λ n. emit (Do (Assign x.0 n)) >>= (λ u. done n)))
              (has_behind r (takes r) (place_takes r x.0 || takes r x.1) (place_takes r x.0) (change p f declares is_same a o t x later) (changes later x)) (λ v. back x.0 v)) count ∙ (or_again (place_takes r x.0) (takes r x.1))))

          pub change_alone_same : (later : Registers) → Has r (no_more r) (taken || value) (change_alone p f declares is_same a o t e later)
          change_alone_same later =
              has_then r (λ x. place_takes r x.0 || takes r x.1) (no_more r) (taken || value) (place_and a e later)
              (λ x. change p f declares is_same a o t x later >>= (λ v. emit (Do (Assign x.0 v)))) (pairs later)
              (λ x. (λ count. (has_then r (λ v. place_takes r x.0 || takes r v) (no_more r) (place_takes r x.0 || (place_takes r x.0 || takes r x.1)) (change p f declares is_same a o t x later) (λ v. emit (Do (Assign x.0 v)))
              (has_before r (takes r) (place_takes r x.0 || takes r x.1) (place_takes r x.0) (change p f declares is_same a o t x later) (changes later x)) (λ v. puts x.0 v)) count ∙ (or_twice (place_takes r x.0) (takes r x.1))))
