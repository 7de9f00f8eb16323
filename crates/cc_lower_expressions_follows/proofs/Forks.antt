-- Expressions that choose, and are not pure.
use Rattle.std.proofs.Common.{◌≡◌, ◌≤◌, ℕ, suc, ◌+◌, pos, Bool, true, false, ◌||◌, [], ◌∷◌, ◌++◌, length, Option, Some, refl, ap, sym, ◌∙◌, subst, arith}
use Rattle.std.proofs.Math.Path.{fun_ext}
use Rattle.std.proofs.lemmas.List.{length-append}
use Rattle.cc_program.specs.CcNum.declared.int_type.IntType.TheVariants as int
use Rattle.cc_program.specs.declared.stmt.Stmt.{If}
use Rattle.cc_program.specs.declared.expr.Expr.{Expr, Const}
use Rattle.cc_program.specs.declared.value.Value.{Value}
use Rattle.cc_program.specs.declared.value.Value.TheVariants.{Int}
use Rattle.cc_states.specs.CcSyntax.Effects.{Registers, no_one, also}
use Rattle.cc_states.specs.CcSyntax.Registers.{is_register}
use Rattle.cc_states.specs.CcSyntax.Values.{ValueType}
use Rattle.cc_states.specs.CcEval.Context.{Context}
use Rattle.cc_states.specs.CcEval.Eval.{Meaning, meaning, choice, as_condition, both, either, chosen_arm}
use Rattle.cc_states.specs.CcEval.Progress.{Get, known, needs}
use Rattle.cc_states.specs.CcValues.Values.{truth, of_truth}
use Rattle.cc_lower_expressions.specs.Expressions.{Piece, piece, temp, set}
use Rattle.cc_lower_expressions_follows.specs.Trees.{Regs, Setting, context_p, context_q, Sim, Done}
use Rattle.cc_lower_expressions_follows.specs.Relation.{code_tree, Alike, IsTemp, Agree, Gives}
use Rattle.cc_lower_expressions_follows.specs.Claims.{After, Written, Worked, good, IsOperand}
use Rattle.cc_lower_expressions_follows.proofs.TreeLaws.{bind-known, sim_bind, sim_weaker}
use Rattle.cc_lower_expressions_follows.proofs.Answered.{AllAnswers, sim_with, And}
use Rattle.cc_lower_expressions_follows.proofs.Branches.{sim_choice}
use Rattle.cc_lower_expressions_follows.proofs.Combined.{sim_one}
use Rattle.cc_lower_expressions_follows.proofs.Frames.{kept_none}
use Rattle.cc_lower_expressions_follows.proofs.Loads.{temp_gives, local_value_unassigning, temp_agrees}
use Rattle.cc_lower_expressions_follows.proofs.Opened.{tree-If}
use Rattle.cc_lower_expressions_follows.proofs.Statements.{tree-set}
use Rattle.cc_lower_expressions_follows.proofs.Values.{gives_Const}
use Rattle.cc_lower_expressions_follows.proofs.Whole.{whole_set}
use Rattle.cc_lower_expressions_follows.specs.Agreement.{TypesAgree}

or_false : (a : Bool) → (a || false) ≡ a
or_false true = refl
or_false false = refl

pub also_none : (a : Registers) → also a no_one ≡ a
also_none a = fun_ext (λ i. or_false (a i))

module _ (w : Setting) (alike : Alike w) where
  abbrev cp : Context
  cp = context_p w

  abbrev cq : Context
  cq = context_q w

  -- the value is of its type, too
  pub with_type : {A : Type 0} (assigned later : Registers) (k n : ℕ) (G : A → Regs → Type 0) (T : A → Type 0) (s0 : Regs) (g : Get A) (r : Regs) (h : Get (Unit {0})) (s : Regs) →
      Sim w (After w assigned later k n G s0) g r h s → AllAnswers w.p w.openings T g → Sim w (After w assigned later k n (λ a t. G a t × T a) s0) g r h s
  with_type assigned later k n G T s0 g r h s d a =
      sim_weaker w (And w (After w assigned later k n G s0) T) (After w assigned later k n (λ a t. G a t × T a) s0)
      (λ v u r' s' y. record { agree = y.0.agree; kept = y.0.kept; value = λ t z. (y.0.value t z, y.1) }) (sim_with w (After w assigned later k n G s0) T d a)

  -- what is not bad
  abbrev pub IsGood : Option Value → Type 0
  IsGood v = (u : Value) × (v ≡ Some u)

  -- an operand that is never bad, and may stand alone
  abbrev pub IsForked : Meaning → Registers → ℕ → Piece Expr → Type 0
  IsForked m later k x = IsOperand w m later k x × ((r s : Regs) → Agree w r s → Sim w (Worked w m.effects.assigned k s) (good (m.next later)) r (code_tree w x.stmts) s)

  module _ (m : Meaning) (later : Registers) (k n : ℕ) (x : Piece Expr) (assigned : (meaning cq x.value).effects.assigned ≡ no_one) (typed : TypesAgree (meaning cq x.value).ctype m.ctype)
      (sim : (r s : Regs) → Agree w r s → Sim w (After w m.effects.assigned later k (length x.temps) (λ v t. Gives w x.value v t × IsGood v) s) (m.next later) r (code_tree w x.stmts) s) where
    forked_alone : (r s : Regs) → Agree w r s → Sim w (Worked w m.effects.assigned k s) (good (m.next later)) r (code_tree w x.stmts) s
    forked_alone r s y =
        subst (λ h. Sim w (Worked w m.effects.assigned k s) (good (m.next later)) r h s) (bind-known (code_tree w x.stmts))
        (sim_bind w (After w m.effects.assigned later k (length x.temps) (λ v t. Gives w x.value v t × IsGood v) s) (Worked w m.effects.assigned k s) (λ v. needs v known) known
        (λ v u r1 s1 z.
        let g = (z.value s1 (record { regs = λ i l e. refl; temps = λ i a b. refl })).1 in
        subst (λ (v : Option Value). Sim w (Worked w m.effects.assigned k s) (needs v known) r1 (known u) s1) (sym g.1) (Done g.0 u refl refl (record { agree = z.agree; kept = z.kept })))
        (sim r s y))

    pub is_forked : IsForked m later k x
    is_forked = (
      record {
        assigned = assigned;
        ctype = typed;
        sim = λ r s y.
            sim_weaker w (After w m.effects.assigned later k (length x.temps) (λ v t. Gives w x.value v t × IsGood v) s) (After w m.effects.assigned later k (length x.temps) (Gives w x.value) s)
            (λ v u r' s' z. record { agree = z.agree; kept = z.kept; value = λ t h. (z.value t h).0 }) (sim r s y);
      },
      forked_alone,
    )

  -- ---- the condition, and two arms that set a temporary

  module _ (c : Piece Expr) (ca aa ab later : Registers) (k : ℕ) (above : w.base ≤ k) (t : Option ValueType) (n : ℕ) (is_n : n ≡ k + length c.temps) (x y : Piece (Unit {0})) (topa topb : ℕ) (above_a : suc n ≤ topa) (above_b : suc n ≤ topb)
      (mc : Get (Option Value)) (these those : Get (Option Value)) (in_n : is_register w.to n ≡ true)
      (da : (r s : Regs) → Agree w r s → Sim w (Written w aa topa n s) (good these) r (code_tree w x.stmts) s)
      (db : (r s : Regs) → Agree w r s → Sim w (Written w ab topb n s) (good those) r (code_tree w y.stmts) s)
      (dc : (r s : Regs) → Agree w r s → Sim w (After w ca (also aa (also ab later)) k (length c.temps) (Gives w c.value) s) mc r (code_tree w c.stmts) s) where
    abbrev pub forked_piece : Piece Expr
    forked_piece = piece (c.temps ++ (t ∷ ((x.temps ++ y.temps) ++ []))) (c.stmts ++ If c.value x.stmts y.stmts ∷ []) (temp n)

    abbrev Good : Option Value → Regs → Type 0
    Good v t = Gives w (temp n) v t × IsGood v

    pub sim_fork : (r s : Regs) → Agree w r s →
        Sim w (After w (also ca (also aa ab)) later k (length forked_piece.temps) Good s) (choice false mc these those) r (code_tree w forked_piece.stmts) s
    sim_fork r s z =
        sim_choice w mc these those ca aa ab later k (length c.temps) (length forked_piece.temps) topa topb fits (λ v t'. Gives w c.value v t') Good above n is_n above_a above_b
        c.stmts x.stmts y.stmts (If c.value x.stmts y.stmts) ((meaning cq c.value).next no_one) (tree-If w c.value x.stmts y.stmts) (λ v t' g. g) (λ x t e. (temp_gives w alike n in_n (Some x) t e, (x, refl))) da db r s (dc r s z)
      where
        fits : suc (length c.temps) ≤ length forked_piece.temps
        fits = let e = length-append c.temps (t ∷ ((x.temps ++ y.temps) ++ [])) in omega (arith, e)

  -- ---- arms

  -- what has a value sets the temporary
  pub arm_set : (x : Piece Expr) (assigned later : Registers) (k n : ℕ) (g : Get (Option Value)) (e : Expr) → is_register w.to n ≡ true →
      (r s : Regs) → Sim w (After w assigned later k (length x.temps) (λ v t. Gives w e v t) s) g r (code_tree w x.stmts) s → Sim w (Written w assigned k n s) (good g) r (code_tree w (x.stmts ++ set n e ∷ [])) s
  arm_set x assigned later k n g e in_n r s d =
      let u = alike.unseen n in_n in
      whole_set w g assigned later k (length x.temps) n ((meaning cq e).next no_one) x.stmts (set n e) (tree-set w n u.0 u.1 u.2 e) in_n r s d

  -- a constant
  pub arm_const : (c : ℕ) (k n : ℕ) → is_register w.to n ≡ true → (r s : Regs) → Agree w r s →
      Sim w (Written w no_one k n s) (good (known (Some (Int (pos c))))) r (code_tree w (set n (Const (pos c) int.Int) ∷ [])) s
  arm_const c k n in_n r s z =
      arm_set (piece [] [] (Const (pos c) int.Int)) no_one no_one k n (known (Some (Int (pos c)))) (Const (pos c) int.Int) in_n r s
      (Done (Some (Int (pos c))) tt refl refl (record { agree = z; kept = kept_none w no_one k s; value = λ t h. gives_Const w (pos c) int.Int t }))

  -- whether a value is not 0
  pub arm_truth : (b : Meaning) (x : Piece Expr) (later : Registers) (k n : ℕ) (T : Option Value → Type 0) (e : Expr) → is_register w.to n ≡ true → IsOperand w b later k x →
      AllAnswers w.p w.openings T (b.next later) → ((v : Option Value) (t : Regs) → Gives w x.value v t → T v → Gives w e (of_truth (truth v)) t) →
      (r s : Regs) → Agree w r s → Sim w (Written w b.effects.assigned k n s) (good (as_condition b later)) r (code_tree w (x.stmts ++ set n e ∷ [])) s
  arm_truth b x later k n T e in_n h all truths r s z =
      arm_set x b.effects.assigned later k n (as_condition b later) e in_n r s
      (sim_one w (b.next later) (λ v. of_truth (truth v)) b.effects.assigned later k (length x.temps) (λ v t. Gives w x.value v t × T v) (λ v t. Gives w e v t) (λ v t y. truths v t y.0 y.1) x.stmts r s
      (with_type b.effects.assigned later k (length x.temps) (Gives w x.value) T s (b.next later) r (code_tree w x.stmts) s (h.sim r s z) all))

  -- ---- `a && b` that is not pure

  module _ (a b m : Meaning) (later : Registers) (k : ℕ) (above : w.base ≤ k) (c x : Piece Expr) (n : ℕ) (is_n : n ≡ k + length c.temps) (t : Option ValueType) (e : Expr) (T : Option Value → Type 0)
      (same : m.effects.assigned ≡ also a.effects.assigned b.effects.assigned) (typed : m.ctype ≡ t) (temp_n : IsTemp w n t)
      (next : m.next later ≡ both false a b later) (ha : IsOperand w a (also b.effects.assigned later) k c) (hb : IsOperand w b later (n + 1) x)
      (all : AllAnswers w.p w.openings T (b.next later)) (truths : (v : Option Value) (s : Regs) → Gives w x.value v s → T v → Gives w e (of_truth (truth v)) s) where
    abbrev first_arm : Piece (Unit {0})
    first_arm = piece (x.temps ++ []) (x.stmts ++ set n e ∷ []) tt

    abbrev second_arm : Piece (Unit {0})
    second_arm = piece [] (set n (Const (pos 0) int.Int) ∷ []) tt

    abbrev pub both_piece : Piece Expr
    both_piece = forked_piece c a.effects.assigned b.effects.assigned no_one later k above t n is_n first_arm second_arm (n + 1) (n + 1) (omega arith) (omega arith) (a.next (also b.effects.assigned later)) (as_condition b later) (known (Some (Int (pos 0)))) temp_n.register
        (arm_truth b x later (n + 1) n T e temp_n.register hb all truths) (arm_const 0 (n + 1) n temp_n.register) (λ r s z. ha.sim r s z)

    pub operand_both : IsForked m later k both_piece
    operand_both =
        is_forked m later k n both_piece (local_value_unassigning w alike n) (temp_agrees w alike n t m.ctype temp_n typed)
        (λ r s z.
        subst (λ (q : Registers). Sim w (After w q later k (length both_piece.temps) (λ v t. Gives w (temp n) v t × IsGood v) s) (m.next later) r (code_tree w both_piece.stmts) s)
        (ap (also a.effects.assigned) (also_none b.effects.assigned) ∙ sym same)
        (subst (λ g. Sim w (After w (also a.effects.assigned (also b.effects.assigned no_one)) later k (length both_piece.temps) (λ v t. Gives w (temp n) v t × IsGood v) s) g r (code_tree w both_piece.stmts) s) (sym next)
        (sim_fork c a.effects.assigned b.effects.assigned no_one later k above t n is_n first_arm second_arm (n + 1) (n + 1) (omega arith) (omega arith) (a.next (also b.effects.assigned later)) (as_condition b later) (known (Some (Int (pos 0))))
        temp_n.register (arm_truth b x later (n + 1) n T e temp_n.register hb all truths) (arm_const 0 (n + 1) n temp_n.register) (λ r s z. ha.sim r s z) r s z)))

  -- ---- `a || b` and `?:` that are not pure

  module _ (m : Meaning) (mc : Get (Option Value)) (these those : Get (Option Value)) (ca aa ab later : Registers) (k : ℕ) (above : w.base ≤ k) (c : Piece Expr) (x y : Piece (Unit {0})) (n : ℕ) (is_n : n ≡ k + length c.temps) (t : Option ValueType)
      (topa topb : ℕ) (above_a : suc n ≤ topa) (above_b : suc n ≤ topb) (same : m.effects.assigned ≡ also ca (also aa ab)) (typed : m.ctype ≡ t) (temp_n : IsTemp w n t) (next : m.next later ≡ choice false mc these those)
      (da : (r s : Regs) → Agree w r s → Sim w (Written w aa topa n s) (good these) r (code_tree w x.stmts) s)
      (db : (r s : Regs) → Agree w r s → Sim w (Written w ab topb n s) (good those) r (code_tree w y.stmts) s)
      (dc : (r s : Regs) → Agree w r s → Sim w (After w ca (also aa (also ab later)) k (length c.temps) (Gives w c.value) s) mc r (code_tree w c.stmts) s) where
    abbrev pub fork_of : Piece Expr
    fork_of = forked_piece c ca aa ab later k above t n is_n x y topa topb above_a above_b mc these those temp_n.register da db dc

    pub operand_fork : IsForked m later k fork_of
    operand_fork =
        is_forked m later k n fork_of (local_value_unassigning w alike n) (temp_agrees w alike n t m.ctype temp_n typed)
        (λ r s z.
        subst (λ (q : Registers). Sim w (After w q later k (length fork_of.temps) (λ v t. Gives w (temp n) v t × IsGood v) s) (m.next later) r (code_tree w fork_of.stmts) s) (sym same)
        (subst (λ g. Sim w (After w (also ca (also aa ab)) later k (length fork_of.temps) (λ v t. Gives w (temp n) v t × IsGood v) s) g r (code_tree w fork_of.stmts) s) (sym next)
        (sim_fork c ca aa ab later k above t n is_n x y topa topb above_a above_b mc these those temp_n.register da db dc r s z)))

  -- `a || b`: the first arm sets 1
  module _ (a b m : Meaning) (later : Registers) (k : ℕ) (above : w.base ≤ k) (c x : Piece Expr) (n : ℕ) (is_n : n ≡ k + length c.temps) (t : Option ValueType) (e : Expr) (T : Option Value → Type 0)
      (same : m.effects.assigned ≡ also a.effects.assigned b.effects.assigned) (typed : m.ctype ≡ t) (temp_n : IsTemp w n t)
      (next : m.next later ≡ either false a b later) (ha : IsOperand w a (also b.effects.assigned later) k c) (j : ℕ) (above_j : suc n ≤ j) (hb : IsOperand w b later j x)
      (all : AllAnswers w.p w.openings T (b.next later)) (truths : (v : Option Value) (s : Regs) → Gives w x.value v s → T v → Gives w e (of_truth (truth v)) s) where
    pub operand_either : IsForked m later k (piece (c.temps ++ (t ∷ (([] ++ (x.temps ++ [])) ++ []))) (c.stmts ++ If c.value (set n (Const (pos 1) int.Int) ∷ []) (x.stmts ++ set n e ∷ []) ∷ []) (temp n))
    operand_either =
        operand_fork m (a.next (also b.effects.assigned later)) (known (Some (Int (pos 1)))) (as_condition b later) a.effects.assigned no_one b.effects.assigned later k above c
        (piece [] (set n (Const (pos 1) int.Int) ∷ []) tt) (piece (x.temps ++ []) (x.stmts ++ set n e ∷ []) tt) n is_n t (n + 1) j (omega arith) above_j same typed temp_n next
        (arm_const 1 (n + 1) n temp_n.register) (arm_truth b x later j n T e temp_n.register hb all truths) (λ r s z. ha.sim r s z)

  -- `c ? a : b`: each arm is the whole right side of the temporary
  module _ (d a b m : Meaning) (later : Registers) (k : ℕ) (above : w.base ≤ k) (c : Piece Expr) (n : ℕ) (is_n : n ≡ k + length c.temps) (t : Option ValueType) (x y : Piece (Unit {0})) (j i : ℕ) (above_j : suc n ≤ j) (above_i : suc n ≤ i)
      (same : m.effects.assigned ≡ also d.effects.assigned (also a.effects.assigned b.effects.assigned)) (typed : m.ctype ≡ t) (temp_n : IsTemp w n t) (next : m.next later ≡ chosen_arm false d a b later)
      (hd : IsOperand w d (also a.effects.assigned (also b.effects.assigned later)) k c)
      (ha : (r s : Regs) → Agree w r s → Sim w (Written w a.effects.assigned j n s) (good (a.next (also b.effects.assigned later))) r (code_tree w x.stmts) s)
      (hb : (r s : Regs) → Agree w r s → Sim w (Written w b.effects.assigned i n s) (good (b.next later)) r (code_tree w y.stmts) s) where
    pub operand_choose : IsForked m later k (piece (c.temps ++ (t ∷ ((x.temps ++ y.temps) ++ []))) (c.stmts ++ If c.value x.stmts y.stmts ∷ []) (temp n))
    operand_choose =
        operand_fork m (d.next (also a.effects.assigned (also b.effects.assigned later))) (a.next (also b.effects.assigned later)) (b.next later) d.effects.assigned a.effects.assigned b.effects.assigned later k above c x y n is_n t j i above_j above_i
        same typed temp_n next ha hb (λ r s z. hd.sim r s z)
