-- What gives a value in a statement of its own, when its operands are lowered: as a value, as a whole right side, and alone.
use Rattle.std.proofs.Common.{◌≡◌, ◌≤◌, ℕ, ◌+◌, Bool, true, false, [], ◌∷◌, ◌++◌, length, Option, Some, None, refl, ap, sym, ◌∙◌, subst}
use Rattle.std.proofs.lemmas.List.{length-append}
use Rattle.cc_program.specs.declared.program.Program.{Program}
use Rattle.cc_program.specs.declared.func.Func.{Func}
use Rattle.cc_program.specs.declared.types.CType.{CType}
use Rattle.cc_program.specs.declared.stmt.Stmt.{Do}
use Rattle.cc_program.specs.declared.expr.Expr.{Expr, Assign}
use Rattle.cc_program.specs.declared.expr.Place.{Local}
use Rattle.cc_program.specs.declared.value.Value.{Value}
use Rattle.cc_states.specs.CcSyntax.Effects.{Registers, no_one}
use Rattle.cc_states.specs.CcSyntax.Registers.{is_register}
use Rattle.cc_states.specs.CcSyntax.Values.{ValueType}
use Rattle.cc_states.specs.CcEval.declared.action.Action.{Action}
use Rattle.cc_states.specs.CcEval.declared.mark.Mark.{Mark}
use Rattle.cc_states.specs.CcEval.Eval.{Meaning, meaning}
use Rattle.cc_states.specs.CcEval.Progress.{Get, known, ask, bind, needs, given}
use Rattle.cc_states.specs.Answers.{IsMarkOf}
use Rattle.cc_lower_expressions.specs.Expressions.{Piece, piece, Lowers, temp, set, whole_right, right_value, right_alone}
use Rattle.cc_lower_expressions_follows.specs.Trees.{IsShared, Regs, Setting, context_q, register_cell, Sim, Runs}
use Rattle.cc_lower_expressions_follows.specs.Relation.{code_tree, stmt_tree, finished, Alike, Declared, IsTemp, Agree, Gives}
use Rattle.cc_lower_expressions_follows.specs.Claims.{After, Written, Worked, good, IsOperand, Operands, Wholes, Effects}
use Rattle.cc_lower_expressions_follows.proofs.Fetched.{sim_taken}
use Rattle.cc_lower_expressions_follows.proofs.Loads.{temp_gives, local_value_unassigning, temp_agrees}
use Rattle.cc_lower_expressions_follows.proofs.Operands.{sim_count, declared_left, declared_right}
use Rattle.cc_lower_expressions_follows.proofs.RightSides.{IsRightSide, whole_right_works}
use Rattle.cc_lower_expressions_follows.proofs.Opened.{tree-Do}
use Rattle.cc_lower_expressions_follows.proofs.Rights.{alone_tree, unit_of, whole_taken, alone_taken}
use Rattle.cc_lower_expressions_follows.proofs.Rules.{take_tree, write}
use Rattle.cc_lower_expressions_follows.proofs.Statements.{assign_local, finished_store}
use Rattle.cc_lower_expressions_follows.proofs.Assigns.{store}
use Rattle.cc_lower_expressions_follows.proofs.TreeLaws.{bind-assoc}
use Rattle.std.proofs.Math.Path.{fun_ext}
use Rattle.cc_states.specs.CcEval.declared.action.Action.TheVariants.{Read, Write, Choose, Call, Flag, Save}

-- a step that reads and writes nothing itself
abbrev pub touches_nothing : Action → Bool
touches_nothing (Read at manner) = false
touches_nothing (Write at is_event v) = false
touches_nothing (Choose b) = false
touches_nothing (Call callee args) = true
touches_nothing (Flag on) = true
touches_nothing Save = true

shared_step : (w : Setting) (a : Action) → touches_nothing a ≡ true → IsShared w a
shared_step w (Read at manner) h = absurd (cc)
shared_step w (Write at is_event v) h = absurd (cc)
shared_step w (Choose b) h = absurd (cc)
shared_step w (Call callee args) h = tt
shared_step w (Flag on) h = tt
shared_step w Save h = tt

-- the statement of q
module _ (w : Setting) (alike : Alike w) {C : Type 0} (action : C → Action) (e : Expr) (left : Get (Option C)) (h : (meaning (context_q w) e).next no_one ≡ bind left (λ c. needs c (λ c. ask (action c) given))) where
  abbrev step_at : Option C → Get (Option Value)
  step_at c = needs c (λ c. ask (action c) given)

  alone_at : (c : Option C) → finished (step_at c) ≡ needs c (λ c. bind (ask (action c) given) (λ v. needs v unit_of))
  alone_at None = refl
  alone_at (Some c) = refl

  pub tree-alone : stmt_tree w (Do e) ≡ alone_tree left action
  tree-alone = tree-Do w e ∙ ap finished h ∙ bind-assoc left step_at (λ v. needs v unit_of) ∙ ap (bind left) (fun_ext alone_at)

  module _ (n : ℕ) where
    abbrev keep : Option Value → Get (Option Value)
    keep v = store (Some (register_cell w n)) false v v

    taking : (c : Option C) → finished (bind (step_at c) keep) ≡ needs c (λ c. bind (ask (action c) given) (λ v. needs v (write (register_cell w n) false)))
    taking None = refl
    taking (Some c) = bind-assoc (ask (action c) given) keep (λ v. needs v (λ x. known tt)) ∙ ap (bind (ask (action c) given)) (fun_ext (λ v. finished_store (register_cell w n) false v))

    pub tree-taken : is_register w.to n ≡ true → stmt_tree w (set n e) ≡ take_tree w left action n
    tree-taken in_n =
        let u = alike.unseen n in_n in
        tree-Do w (Assign (Local n) e) ∙
        ap finished (assign_local w n u.0 u.1 u.2 e) ∙
        ap (λ g. finished (bind g keep)) h ∙
        ap finished (bind-assoc left step_at keep) ∙
        bind-assoc left (λ c. bind (step_at c) keep) (λ v. needs v (λ x. known tt)) ∙
        ap (bind left) (fun_ext taking)

module _ (w : Setting) (alike : Alike w) {C : Type 0} (action : C → Action) (no_choice : (c : C) → touches_nothing (action c) ≡ true)
    (sure : (c : C) (m : Mark) → IsMarkOf w.p w.openings (action c) m → (x : Value) × (given m ≡ Some x)) (m : Meaning) where
  -- behind its statements the value of a piece is one step of both programs
  pub record IsTaken (later : Registers) (k : ℕ) (c : Piece Expr) : Type 0 where
    pub tree : Get (Option C)
    pub left : Get (Option C)
    pub asks : m.next later ≡ bind tree (λ c. needs c (λ c. ask (action c) given))
    pub takes : (n : ℕ) → is_register w.to n ≡ true → stmt_tree w (set n c.value) ≡ take_tree w left action n
    pub does : stmt_tree w (Do c.value) ≡ alone_tree left action
    pub reaches : (r s : Regs) → Agree w r s → Sim w (After w m.effects.assigned later k (length c.temps) (λ c t. Runs w c t left t) s) tree r (code_tree w c.stmts) s

  abbrev Reaches : Get (Option C) → Option C → Regs → Type 0
  Reaches left c t = Runs w c t left t

  module _ (later : Registers) (k : ℕ) (above : w.base ≤ k) (c : Piece Expr) (h : IsTaken later k c) where
    abbrev all_of : Get (Option Value)
    all_of = bind h.tree (λ c. needs c (λ c. ask (action c) given))

    taken_side : IsRightSide w alike m later k c
    taken_side n in_n r s y =
        subst (λ x. Sim w (Written w m.effects.assigned k n s) (good x) r (code_tree w (c.stmts ++ set n c.value ∷ [])) s) (sym h.asks)
        (whole_taken w h.tree (λ c. c) action sure m.effects.assigned later k (length c.temps) (Reaches h.left) c.stmts (set n c.value) h.left (λ o t h. h) (λ o t h c e. shared_step w (action c) (no_choice c)) n in_n (h.takes n in_n) r s (h.reaches r s y))

    taken_alone : (r s : Regs) → Agree w r s → Sim w (Worked w m.effects.assigned k s) (good (m.next later)) r (code_tree w (c.stmts ++ Do c.value ∷ [])) s
    taken_alone r s y =
        subst (λ x. Sim w (Worked w m.effects.assigned k s) (good x) r (code_tree w (c.stmts ++ Do c.value ∷ [])) s) (sym h.asks)
        (alone_taken w h.tree (λ c. c) action sure m.effects.assigned later k (length c.temps) (Reaches h.left) c.stmts (Do c.value) h.left (λ o t h. h) (λ o t h c e. shared_step w (action c) (no_choice c)) h.does r s (h.reaches r s y))

    module _ (t : Option ValueType) (typed : m.ctype ≡ t) (n : ℕ) (is_n : n ≡ k + length c.temps) (temp_n : IsTemp w n t) where
      taken_operand : IsOperand w m later k (piece (c.temps ++ t ∷ []) (c.stmts ++ set n c.value ∷ []) (temp n))
      taken_operand = record {
        assigned = local_value_unassigning w alike n;
        ctype = temp_agrees w alike n t m.ctype temp_n typed;
        sim = λ r s y.
            subst (λ x. Sim w (After w m.effects.assigned later k (length (c.temps ++ t ∷ [])) (Gives w (temp n)) s) x r (code_tree w (c.stmts ++ set n c.value ∷ [])) s) (sym h.asks)
            (sim_count w m.effects.assigned later k (length c.temps + 1) (length (c.temps ++ t ∷ [])) (Gives w (temp n)) s all_of r (code_tree w (c.stmts ++ set n c.value ∷ [])) s (sym (length-append c.temps (t ∷ [])))
            (sim_taken w h.tree (λ c. c) action m.effects.assigned later k (length c.temps) (Reaches h.left) (Gives w (temp n)) above n is_n temp_n.register sure
            c.stmts (set n c.value) h.left (h.takes n temp_n.register) (λ o t h. h) (λ o t h c e. shared_step w (action c) (no_choice c)) (temp_gives w alike n temp_n.register) r s (h.reaches r s y)));
      }

  -- ---- in all three modes

  module _ (p : Program) (f : Func) (declares : Option ValueType → CType) (is_same : Option ValueType → Option ValueType → Bool) (t : Option ValueType) (typed : m.ctype ≡ t) (right : Lowers Expr)
      (h : (later : Registers) (k : ℕ) → w.base ≤ k → Declared w k (right later k).temps → IsTaken later k (right later k)) where
    operand : Operands w m (right_value t right)
    operand later k above declared =
        let c = right later k in
        taken_operand later k above c (h later k above (declared_left w k c.temps (t ∷ []) declared)) t typed (k + length c.temps) refl (declared_right w k c.temps (t ∷ []) declared).0

    alone : Effects w m (right_alone right)
    alone later k above declared r s y = let c = right later k in taken_alone later k above c (h later k above (declared_left w k c.temps [] declared)) r s y

    pub taken_works : Operands w m (right_value t right) × Wholes w m (whole_right p f declares is_same t right) × Effects w m (right_alone right)
    taken_works = (operand, whole_right_works w alike m t right (λ later k above declared. taken_side later k above (right later k) (h later k above declared)) operand is_same, alone)
