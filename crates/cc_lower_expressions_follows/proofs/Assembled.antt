-- The pieces of the lemmas are those of the pass: for each way, what the pass makes satisfies the claim.
use Rattle.std.proofs.Common.{◌≡◌, ◌≤◌, ℕ, suc, ◌+◌, pos, Bool, true, false, List, [], ◌∷◌, ◌++◌, length, Option, None, refl, ap, sym, ◌∙◌, subst, arith, if◌then◌else◌, append-nil}
use Rattle.cc_program.specs.CcNum.declared.int_type.IntType.TheVariants as int
use Rattle.cc_program.specs.declared.program.Program.{Program}
use Rattle.cc_program.specs.declared.func.Func.{Func}
use Rattle.cc_program.specs.declared.types.CType.{CType}
use Rattle.cc_program.specs.declared.stmt.Stmt.{Stmt, Do, If}
use Rattle.cc_program.specs.declared.expr.Expr.{Expr, Assign, Const, out-Expr}
use Rattle.cc_program.specs.declared.value.Value.{Value}
use Rattle.cc_states.specs.CcSyntax.Effects.{Registers, also, Effects}
use Rattle.cc_states.specs.CcSyntax.Values.{ValueType}
use Rattle.cc_states.specs.CcEval.Eval.{Meaning, Designation, assigned as assigned_next, both, either, chosen_arm}
use Rattle.cc_states.specs.CcValues.Values.{truth, of_truth}
use Rattle.cc_lower_expressions.specs.Expressions.{Piece, piece, done, unless_pure, branch_alone, unused, is_idle, ◌>>=◌, Lowers, Lowering, PlaceLowering, temp, set, value_of, int_value, assigned_value, both_value, either_value, choose_value, truth_of}
use Rattle.cc_lower_expressions_follows.specs.Trees.{Regs, Setting, context_p, Sim}
use Rattle.cc_lower_expressions_follows.specs.Relation.{code_tree, Alike, Declared, Agree, Gives}
use Rattle.cc_lower_expressions_follows.specs.Claims.{Worked, good, IsOperand, Operands, Effects as Alone, IsRight, IsRightPlace}
use Rattle.cc_lower_expressions_follows.proofs.Answered.{AllAnswers}
use Rattle.cc_lower_expressions_follows.proofs.Assignments.{made, assigned_operand}
use Rattle.cc_lower_expressions_follows.proofs.Defaults.{effect_at}
use Rattle.cc_lower_expressions_follows.proofs.Forks.{IsForked, operand_both, operand_either, operand_choose}
use Rattle.cc_lower_expressions_follows.proofs.Operands.{declared_left, declared_right}

-- as an operand, and alone
abbrev pub BothModes : Setting → Meaning → Effects → Expr → Option ValueType → Lowers Expr → Type 0
BothModes w m whole itself t imp = Operands w m (unless_pure whole itself imp) × Alone w m (branch_alone whole t (unless_pure whole itself imp))

-- what stays as it is where it is pure
module _ (w : Setting) (alike : Alike w) (m : Meaning) (itself : Expr) (imp : Lowers Expr) (pure : (later : Registers) (k : ℕ) → m.effects.pure later ≡ true → IsOperand w m later k (piece [] [] itself))
    (impure : (later : Registers) (k : ℕ) → w.base ≤ k → m.effects.pure later ≡ false → Declared w k (imp later k).temps → IsForked w alike m later k (imp later k)) (t : Option ValueType) where
  abbrev one_of : Bool → Registers → ℕ → Piece Expr
  one_of z later k = (if z then done itself else imp later) k

  by_pure : (later : Registers) (k : ℕ) → w.base ≤ k → (z : Bool) → m.effects.pure later ≡ z → Declared w k (one_of z later k).temps → IsOperand w m later k (one_of z later k)
  by_pure later k above true e declared = pure later k e
  by_pure later k above false e declared = (impure later k above e declared).0

  abbrev alone_of : Bool → Registers → ℕ → Piece (Unit {0})
  alone_of z later k = (if z then (one_of z later >>= unused t) else (one_of z later >>= (λ v. done tt))) k

  by_alone : (later : Registers) (k : ℕ) → w.base ≤ k → (z : Bool) → m.effects.pure later ≡ z → Declared w k (alone_of z later k).temps →
      (r s : Regs) → Agree w r s → Sim w (Worked w m.effects.assigned k s) (good (m.next later)) r (code_tree w (alone_of z later k).stmts) s
  by_alone later k above true e declared r s y = effect_at w alike m t later k above (piece [] [] itself) (λ d. pure later k e) (is_idle (out-Expr itself)) refl declared r s y
  by_alone later k above false e declared r s y =
      subst (λ (xs : List Stmt). Sim w (Worked w m.effects.assigned k s) (good (m.next later)) r (code_tree w xs) s) (sym (append-nil (imp later k).stmts))
      ((impure later k above e (declared_left w k (imp later k).temps [] declared)).1 r s y)

  pub perhaps_pure : BothModes w m m.effects itself t imp
  perhaps_pure = ((λ later k above. by_pure later k above (m.effects.pure later) refl), (λ later k above. by_alone later k above (m.effects.pure later) refl))

module _ (w : Setting) (alike : Alike w) where
  -- rule 5: the value of an assignment to a place that is no register
  pub right_assigned : (d : Designation) (l : PlaceLowering) (e : Meaning) (le : Lowering) → IsRightPlace w d l → IsRight w e le → d.effects.register ≡ None →
      (m : Meaning) → m.effects.assigned ≡ also d.effects.assigned e.effects.assigned → m.ctype ≡ value_of l → ((later : Registers) → m.next later ≡ assigned_next (context_p w) d e later) → Operands w m (assigned_value l le)
  right_assigned d l e le right righte none m same typed next later k above =
      subst (λ (x : Piece Expr). Declared w k x.temps → IsOperand w m later k x) (sym as_made) (assigned_operand w alike d l e le right righte none m same typed next later k above)
    where
      as_made : assigned_value l le later k ≡ made w alike d l e le right righte none m same typed next later k above
      as_made = ap (λ (q : Registers).
          let x = l.operands (also q later) k in
          let y = le.whole (value_of l) (k + length x.temps) later (k + length x.temps + 1) in
          piece (x.temps ++ (value_of l ∷ (y.temps ++ []))) (x.stmts ++ (y.stmts ++ Do (Assign x.value (temp (k + length x.temps))) ∷ [])) (temp (k + length x.temps))) (ap (λ (z : Effects). z.assigned) righte.effects)

  -- rule 3: an `&&`, pure or not
  module _ (p : Program) (f : Func) (declares : Option ValueType → CType) (is_same : Option ValueType → Option ValueType → Bool) where
    module _ (a b m : Meaning) (la lb : Lowering) (ra : IsRight w a la) (rb : IsRight w b lb) (itself : Expr) (T : Option Value → Type 0)
        (same : m.effects.assigned ≡ also a.effects.assigned b.effects.assigned) (typed : m.ctype ≡ int_value) (next : (later : Registers) → m.next later ≡ both (m.effects.pure later) a b later)
        (pure : (later : Registers) (k : ℕ) → m.effects.pure later ≡ true → IsOperand w m later k (piece [] [] itself))
        (all : (later : Registers) → AllAnswers w.p w.openings T (b.next later))
        (truths : (x : Expr) (v : Option Value) (s : Regs) → Gives w x v s → T v → Gives w (truth_of p f declares is_same lb.ctype x) (of_truth (truth v)) s) where
      abbrev of_both : Registers → Registers → ℕ → Piece Expr
      of_both q later k =
          let c = la.operand (also q later) k in
          let n = k + length c.temps in
          let x = lb.operand later (n + 1) in
          piece (c.temps ++ (int_value ∷ (((x.temps ++ []) ++ []) ++ []))) (c.stmts ++ If c.value (x.stmts ++ set n (truth_of p f declares is_same lb.ctype x.value) ∷ []) (set n (Const (pos 0) int.Int) ∷ []) ∷ []) (temp n)

      impure : (later : Registers) (k : ℕ) → w.base ≤ k → m.effects.pure later ≡ false → Declared w k (of_both b.effects.assigned later k).temps → IsForked w alike m later k (of_both b.effects.assigned later k)
      impure later k above not_pure declared =
          let c = la.operand (also b.effects.assigned later) k in
          let n = k + length c.temps in
          let x = lb.operand later (n + 1) in
          let behind = declared_right w k c.temps (int_value ∷ (((x.temps ++ []) ++ []) ++ [])) declared in
          let inside = declared_left w (suc n) x.temps [] (declared_left w (suc n) (x.temps ++ []) [] (declared_left w (suc n) ((x.temps ++ []) ++ []) [] behind.1)) in
          operand_both w alike a b m later k above c x n refl int_value (truth_of p f declares is_same lb.ctype x.value) T same typed behind.0
          (next later ∙ ap (λ (z : Bool). both z a b later) not_pure)
          (ra.operand (also b.effects.assigned later) k above (declared_left w k c.temps (int_value ∷ (((x.temps ++ []) ++ []) ++ [])) declared))
          (rb.operand later (n + 1) (omega (arith, above)) (subst (λ j. Declared w j x.temps) one_more inside)) (all later) (truths x.value)
        where
          one_more : {n : ℕ} → suc n ≡ n + 1
          one_more = omega arith

      pub right_both : (whole : Effects) (v : Option ValueType) → whole ≡ m.effects → BothModes w m whole itself v (both_value p f declares is_same la lb)
      right_both whole v e =
          subst (λ (z : Effects). BothModes w m z itself v (both_value p f declares is_same la lb)) (sym e)
          (subst (λ (z : Effects). BothModes w m m.effects itself v (λ later k. of_both z.assigned later k)) (sym rb.effects) (perhaps_pure w alike m itself (of_both b.effects.assigned) pure impure v))

    -- an `||`
    module _ (a b m : Meaning) (la lb : Lowering) (ra : IsRight w a la) (rb : IsRight w b lb) (itself : Expr) (T : Option Value → Type 0)
        (same : m.effects.assigned ≡ also a.effects.assigned b.effects.assigned) (typed : m.ctype ≡ int_value) (next : (later : Registers) → m.next later ≡ either (m.effects.pure later) a b later)
        (pure : (later : Registers) (k : ℕ) → m.effects.pure later ≡ true → IsOperand w m later k (piece [] [] itself))
        (all : (later : Registers) → AllAnswers w.p w.openings T (b.next later))
        (truths : (x : Expr) (v : Option Value) (s : Regs) → Gives w x v s → T v → Gives w (truth_of p f declares is_same lb.ctype x) (of_truth (truth v)) s) where
      abbrev of_either : Registers → Registers → ℕ → Piece Expr
      of_either q later k =
          let c = la.operand (also q later) k in
          let n = k + length c.temps in
          let x = lb.operand later (n + 1 + 0) in
          piece (c.temps ++ (int_value ∷ (([] ++ (x.temps ++ [])) ++ []))) (c.stmts ++ If c.value (set n (Const (pos 1) int.Int) ∷ []) (x.stmts ++ set n (truth_of p f declares is_same lb.ctype x.value) ∷ []) ∷ []) (temp n)

      either_impure : (later : Registers) (k : ℕ) → w.base ≤ k → m.effects.pure later ≡ false → Declared w k (of_either b.effects.assigned later k).temps → IsForked w alike m later k (of_either b.effects.assigned later k)
      either_impure later k above not_pure declared =
          let c = la.operand (also b.effects.assigned later) k in
          let n = k + length c.temps in
          let x = lb.operand later (n + 1 + 0) in
          let behind = declared_right w k c.temps (int_value ∷ ((x.temps ++ []) ++ [])) declared in
          let inside = declared_left w (suc n) x.temps [] (declared_left w (suc n) (x.temps ++ []) [] behind.1) in
          operand_either w alike a b m later k above c x n refl int_value (truth_of p f declares is_same lb.ctype x.value) T same typed behind.0
          (next later ∙ ap (λ (z : Bool). either z a b later) not_pure)
          (ra.operand (also b.effects.assigned later) k above (declared_left w k c.temps (int_value ∷ ((x.temps ++ []) ++ [])) declared))
          (n + 1 + 0) (omega arith) (rb.operand later (n + 1 + 0) (omega (arith, above)) (subst (λ j. Declared w j x.temps) one_more_none inside)) (all later) (truths x.value)
        where
          one_more_none : {n : ℕ} → suc n ≡ n + 1 + 0
          one_more_none = omega arith

      pub right_either : (whole : Effects) (v : Option ValueType) → whole ≡ m.effects → BothModes w m whole itself v (either_value p f declares is_same la lb)
      right_either whole v e =
          subst (λ (z : Effects). BothModes w m z itself v (either_value p f declares is_same la lb)) (sym e)
          (subst (λ (z : Effects). BothModes w m m.effects itself v (λ later k. of_either z.assigned later k)) (sym rb.effects) (perhaps_pure w alike m itself (of_either b.effects.assigned) pure either_impure v))

    -- a `?:` that has a value
    module _ (d a b m : Meaning) (ld la lb : Lowering) (rd : IsRight w d ld) (ra : IsRight w a la) (rb : IsRight w b lb) (itself : Expr) (t : Option ValueType)
        (same : m.effects.assigned ≡ also d.effects.assigned (also a.effects.assigned b.effects.assigned)) (typed : m.ctype ≡ t) (next : (later : Registers) → m.next later ≡ chosen_arm (m.effects.pure later) d a b later)
        (pure : (later : Registers) (k : ℕ) → m.effects.pure later ≡ true → IsOperand w m later k (piece [] [] itself)) where
      abbrev of_choose : Registers → Registers → Registers → ℕ → Piece Expr
      of_choose q1 q2 later k =
          let c = ld.operand (also q1 (also q2 later)) k in
          let n = k + length c.temps in
          let x = la.whole t n (also q2 later) (n + 1) in
          let y = lb.whole t n later (n + 1 + length x.temps) in
          piece (c.temps ++ (t ∷ ((x.temps ++ y.temps) ++ []))) (c.stmts ++ If c.value x.stmts y.stmts ∷ []) (temp n)

      choose_impure : (later : Registers) (k : ℕ) → w.base ≤ k → m.effects.pure later ≡ false → Declared w k (of_choose a.effects.assigned b.effects.assigned later k).temps →
          IsForked w alike m later k (of_choose a.effects.assigned b.effects.assigned later k)
      choose_impure later k above not_pure declared =
          let c = ld.operand (also a.effects.assigned (also b.effects.assigned later)) k in
          let n = k + length c.temps in
          let x = la.whole t n (also b.effects.assigned later) (n + 1) in
          let y = lb.whole t n later (n + 1 + length x.temps) in
          let behind = declared_right w k c.temps (t ∷ ((x.temps ++ y.temps) ++ [])) declared in
          let inside = subst (λ j. Declared w j (x.temps ++ y.temps)) one_more_choose (declared_left w (suc n) (x.temps ++ y.temps) [] behind.1) in
          operand_choose w alike d a b m later k above c n refl t x y (n + 1) (n + 1 + length x.temps) (omega arith) (omega arith) same typed behind.0
          (next later ∙ ap (λ (z : Bool). chosen_arm z d a b later) not_pure)
          (rd.operand (also a.effects.assigned (also b.effects.assigned later)) k above (declared_left w k c.temps (t ∷ ((x.temps ++ y.temps) ++ [])) declared))
          (λ r s z. ra.whole t n (also b.effects.assigned later) (n + 1) (omega (arith, above)) (omega arith) behind.0.register (declared_left w (n + 1) x.temps y.temps inside) r s z)
          (λ r s z. rb.whole t n later (n + 1 + length x.temps) (omega (arith, above)) (omega arith) behind.0.register (declared_right w (n + 1) x.temps y.temps inside) r s z)
        where
          one_more_choose : {n : ℕ} → suc n ≡ n + 1
          one_more_choose = omega arith

      pub right_choose : (whole : Effects) → whole ≡ m.effects → BothModes w m whole itself t (choose_value t ld la lb)
      right_choose whole e =
          subst (λ (z : Effects). BothModes w m z itself t (choose_value t ld la lb)) (sym e)
          (subst (λ (z : Effects). BothModes w m m.effects itself t (λ later k. of_choose z.assigned lb.effects.assigned later k)) (sym ra.effects)
          (subst (λ (z : Effects). BothModes w m m.effects itself t (λ later k. of_choose a.effects.assigned z.assigned later k)) (sym rb.effects) (perhaps_pure w alike m itself (of_choose a.effects.assigned b.effects.assigned) pure choose_impure t)))
