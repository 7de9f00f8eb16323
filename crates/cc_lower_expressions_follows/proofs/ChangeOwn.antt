-- `register op= value`: an assignment of the new value, which is an operand.
use Rattle.std.proofs.Common.{◌≡◌, ◌<◌, ◌≤◌, ◌==◌, ◌||◌, ℕ, ◌+◌, Bool, true, false, [], ◌∷◌, ◌++◌, length, Option, Some, refl, ap, sym, ◌∙◌, subst, arith}
use Rattle.std.proofs.Math.Path.{fun_ext}
use Rattle.std.proofs.lemmas.List.{length-append}
use Rattle.cc_program.specs.CcNum.declared.int_type.IntType.{IntType}
use Rattle.cc_program.specs.CcNum.declared.op.BinOp.{BinOp}
use Rattle.cc_program.specs.declared.expr.Expr.{Expr}
use Rattle.cc_program.specs.declared.expr.Place.{Local}
use Rattle.cc_program.specs.declared.value.Value.{Value}
use Rattle.cc_states.specs.CcSyntax.Effects.{Registers, no_one, also, only}
use Rattle.cc_states.specs.CcSyntax.Registers.{is_register}
use Rattle.cc_states.specs.CcSyntax.Values.{ValueType}
use Rattle.cc_states.specs.CcEval.declared.spots.Spot.{Spot}
use Rattle.cc_states.specs.CcEval.Context.{Context}
use Rattle.cc_states.specs.CcEval.Eval.{Meaning, Designation, meaning, designation, fetched, stored, value_type, changed as changed_values, changed_by, changed_with, assigned as assigned_next}
use Rattle.cc_states.specs.CcEval.Progress.{Get, known, bind}
use Rattle.cc_lower_expressions.specs.Expressions.{Piece, piece, temp, set}
use Rattle.cc_lower_expressions_follows.specs.Trees.{Regs, with_reg, Done, Setting, context_p, context_q, Sim}
use Rattle.cc_lower_expressions_follows.specs.Relation.{code_tree, Alike, ValueOf, Agree, Post, Wrote, Gives}
use Rattle.cc_lower_expressions_follows.specs.Claims.{After, Written, Worked, good, IsOperand}
use Rattle.cc_lower_expressions_follows.proofs.Answered.{AllAnswers, And, sim_with}
use Rattle.cc_lower_expressions_follows.proofs.Combined.{sim_then, sim_two, sim_one}
use Rattle.cc_lower_expressions_follows.proofs.Forks.{also_none}
use Rattle.cc_lower_expressions_follows.proofs.Operands.{Unassigning, sim_count}
use Rattle.cc_lower_expressions_follows.proofs.Owned.{Fits, agree_own, own_write, written, assigns, assigned_alone}
use Rattle.cc_lower_expressions_follows.proofs.Sequences.{whole_default}
use Rattle.cc_lower_expressions_follows.proofs.Values.{its_spot, local_leads}
use Rattle.cc_lower_expressions_follows.proofs.TreeLaws.{bind-assoc, bind-known, sim_weaker}
use Rattle.std.proofs.lemmas.Bool.Decides.{nat_tests}
use Rattle.cc_lower_expressions_follows.proofs.Loads.{temp_gives}
use Rattle.cc_lower_expressions_follows.proofs.Rules.{sim_set}
use Rattle.cc_lower_expressions_follows.proofs.Statements.{tree-set}
use Rattle.cc_lower_expressions_follows.proofs.Whole.{wrote_temp, reg_here, reg_other, below_other}
use Rattle.cc_lower_expressions_follows.specs.Agreement.{EqualTypes}

module _ (w : Setting) (alike : Alike w) (i : ℕ) (below : i < w.base) (register : is_register w.from i ≡ true) (o : BinOp) (t : IntType) (e : Meaning) where
  abbrev cp : Context
  cp = context_p w

  abbrev cq : Context
  cq = context_q w

  abbrev d : Designation
  d = designation cp (Local i)

  abbrev new : Option Value → Option Value → Option Value
  new u v = changed_values w.p.target o t (value_type cp d) u v

  abbrev the_read : Registers → Get (Option Value)
  the_read later = bind (d.leads later) (fetched cp d later)

  abbrev value_and_old : Registers → Get (Option Value × Option Value)
  value_and_old later = bind (e.next later) (λ v. bind (the_read later) (λ u. known (v, u)))

  -- the new value, as an operand that has this type
  abbrev pub new_value : Option ValueType → Meaning
  new_value type = record e { ctype = type; next = λ later. bind (value_and_old later) (λ p. known (new p.1 p.0)) }

  -- ---- the same is asked for

  abbrev writing : Option Value → Get (Option Value)
  writing v = stored cp d (its_spot cp i) v v

  abbrev back : Registers → Option Value → Get (Option Value)
  back later v = bind (fetched cp d later (its_spot cp i)) (λ u. writing (new u v))

  by_change : (later : Registers) → changed_by cp d o t e later ≡ bind (e.next later) (back later)
  by_change later =
      ap (λ (g : Get (Option Spot)). bind (bind g (λ s. bind (e.next later) (λ v. known (s, v)))) (changed_with cp d o t later)) (local_leads cp i (also e.effects.assigned later)) ∙
      bind-assoc (e.next later) (λ v. known (its_spot cp i, v)) (changed_with cp d o t later)

  abbrev with_new : Option ValueType → Registers → Option Spot → Get (Option Spot × Option Value)
  with_new type later s = bind ((new_value type).next later) (λ v. known (s, v))

  abbrev store_pair : Option Spot × Option Value → Get (Option Value)
  store_pair p = stored cp d p.0 p.1 p.1

  abbrev paired_old : Registers → Option Value → Get (Option Value × Option Value)
  paired_old later v = bind (the_read later) (λ u. known (v, u))

  abbrev write_new : Option Value × Option Value → Get (Option Value)
  write_new p = writing (new p.1 p.0)

  abbrev to_new : Option Value × Option Value → Get (Option Value)
  to_new p = known (new p.1 p.0)

  by_assignment : (type : Option ValueType) (later : Registers) → assigned_next cp d (new_value type) later ≡ bind (e.next later) (back later)
  by_assignment type later =
      ap (λ (g : Get (Option Spot)). bind (bind g (with_new type later)) store_pair) (local_leads cp i (also e.effects.assigned later)) ∙
      bind-assoc ((new_value type).next later) (λ v. known (its_spot cp i, v)) store_pair ∙
      bind-assoc (value_and_old later) to_new writing ∙
      bind-assoc (e.next later) (paired_old later) write_new ∙
      ap (bind (e.next later)) (fun_ext (λ v.
      bind-assoc (the_read later) (λ u. known (v, u)) write_new ∙
      ap (λ (g : Get (Option Spot)). bind (bind g (fetched cp d later)) (λ u. writing (new u v))) (local_leads cp i later)))

  pub same_change : (type : Option ValueType) (later : Registers) → changed_by cp d o t e later ≡ assigned_next cp d (new_value type) later
  same_change type later = by_change later ∙ sym (by_assignment type later)

  -- ---- the new value is an operand: that of the right side, and then the register is read

  module _ (later : Registers) (k : ℕ) (above : w.base ≤ k) (y z : Piece Expr) (value : IsOperand w e later k y) (v : Expr) (pure : Unassigning w v)
      (read : (r s : Regs) → Agree w r s → Sim w (After w no_one later (k + length y.temps) (length z.temps) (Gives w z.value) s) (the_read later) r (code_tree w z.stmts) s)
      (reads : AllAnswers w.p w.openings (ValueOf w (value_type cp d)) (the_read later))
      (gives : (a b : Option Value) (s : Regs) → Gives w y.value a s → Gives w z.value b s → ValueOf w (value_type cp d) b → Gives w v (new b a) s) where
    -- what is read is of the type of the register
    abbrev Typed-old : Option Value → Regs → Type 0
    Typed-old u s = Gives w z.value u s × ValueOf w (value_type cp d) u

    abbrev Both-operands : Option Value × Option Value → Regs → Type 0
    Both-operands p s = Gives w y.value p.0 s × Typed-old p.1 s

    read_old : (r s : Regs) → Agree w r s → Sim w (After w no_one later (k + length y.temps) (length z.temps) Typed-old s) (the_read later) r (code_tree w z.stmts) s
    read_old r s a =
        sim_weaker w (And w (After w no_one later (k + length y.temps) (length z.temps) (Gives w z.value) s) (ValueOf w (value_type cp d))) (After w no_one later (k + length y.temps) (length z.temps) Typed-old s)
        (λ u x r1 s1 q. record { agree = q.0.agree; kept = q.0.kept; value = λ t h. (q.0.value t h, q.1) })
        (sim_with w (After w no_one later (k + length y.temps) (length z.temps) (Gives w z.value) s) (ValueOf w (value_type cp d)) (read r s a) reads)

    abbrev pub new_piece : Piece Expr
    new_piece = piece (y.temps ++ z.temps) (y.stmts ++ z.stmts) v

    abbrev pub this_value : Meaning
    this_value = new_value (meaning cq v).ctype

    pub new_operand : IsOperand w this_value later k new_piece
    new_operand = record {
      assigned = pure;
      ctype = EqualTypes (meaning cq v).ctype;
      sim = λ r s a.
          sim_count w e.effects.assigned later k (length y.temps + length z.temps) (length (y.temps ++ z.temps)) (Gives w v) s (this_value.next later) r (code_tree w (y.stmts ++ z.stmts)) s (sym (length-append y.temps z.temps))
          (sim_one w (value_and_old later) (λ p. new p.1 p.0) e.effects.assigned later k (length y.temps + length z.temps) (λ p s. Both-operands p s) (Gives w v) (λ p s h. gives p.0 p.1 s h.0 h.1.0 h.1.1) (y.stmts ++ z.stmts) r s
          (subst (λ (q : Registers). Sim w (After w q later k (length y.temps + length z.temps) (λ p s. Both-operands p s) s) (value_and_old later) r (code_tree w (y.stmts ++ z.stmts)) s) (also_none e.effects.assigned)
          (sim_two w (e.next later) (the_read later) (λ v u. (v, u)) e.effects.assigned no_one later k (length y.temps) (length z.temps) (Gives w y.value) Typed-old (λ p s. Both-operands p s) above
          (λ v u s g h. (g, h)) y.stmts z.stmts r s (value.sim r s a) (λ r' s' a'. read_old r' s' a'))));
    }

    -- ---- alone, and as a value

    module _ (all : AllAnswers w.p w.openings (Fits w alike i) (good (this_value.next later))) where
      pub change_own_alone : (r s : Regs) → Agree w r s →
          Sim w (Worked w (also (only (Some i)) e.effects.assigned) k s) (good (changed_by cp d o t e later)) r (code_tree w ((y.stmts ++ z.stmts) ++ set i v ∷ [])) s
      change_own_alone r s a =
          subst (λ g. Sim w (Worked w (also (only (Some i)) e.effects.assigned) k s) (good g) r (code_tree w ((y.stmts ++ z.stmts) ++ set i v ∷ [])) s) (sym (same_change (meaning cq v).ctype later))
          (assigned_alone w alike i below register this_value later k above ((y.stmts ++ z.stmts) ++ set i v ∷ []) all
          (λ r s a. whole_default w alike this_value later k i new_piece (alike.registers i below ∙ register) new_operand r s a) r s a)

      module _ (n : ℕ) (is_n : n ≡ k + length new_piece.temps) (in_n : is_register w.to n ≡ true) where
        abbrev Q : Regs → Option Value → Unit {0} → Regs → Regs → Type 0
        Q s = After w (also (only (Some i)) e.effects.assigned) later k (length new_piece.temps + 1) (Gives w (temp n)) s

        in_q : is_register w.to i ≡ true
        in_q = alike.registers i below ∙ register

        either_false : (a b : Bool) → (a || b) ≡ false → (a ≡ false) × (b ≡ false)
        either_false true b f = absurd (cc)
        either_false false b f = (refl, f)

        differs : (j : ℕ) → w.base ≤ j → (i == j) ≡ false
        differs j l = grind (arith, nat_tests, below)

        both_hold : (s : Regs) (x : Value) (r' s' : Regs) → Wrote w e.effects.assigned k n x s r' s' → Fits w alike i x →
            Post w (also (only (Some i)) e.effects.assigned) later k (length new_piece.temps + 1) (Gives w (temp n) (Some x)) s (with_reg r' i x) (with_reg s' i x)
        both_hold s x r' s' y fits =
            let a = wrote_temp w e.effects.assigned k n x s r' s' (omega (arith, above, is_n)) y in
            record {
              agree = agree_own w alike i below register this_value later r' (with_reg s' i x) x (λ j l f. a.same j l ∙ sym (reg_other s' i j x f)) (reg_here s' i x);
              kept = record {
                regs = λ j l f. let g = either_false (i == j) (e.effects.assigned j) f in y.regs j l (below_other n j (omega (arith, l, above, is_n))) g.1 ∙ sym (reg_other s' i j x g.0);
                temps = λ j l m. y.temps j l m (below_other n j (omega (arith, m, is_n))) ∙ sym (reg_other s' i j x (differs j l));
              };
              value = λ t h. temp_gives w alike n in_n (Some x) t (sym (h.temps n (omega (arith, is_n)) (omega (arith, is_n))) ∙ reg_other s' i n x (differs n (omega (arith, above, is_n))) ∙ y.here);
            }

        set_both : (s : Regs) (x : Value) (r' s' : Regs) → Wrote w e.effects.assigned k n x s r' s' → Fits w alike i x → Sim w (Q s) (written w alike i below register this_value later x) r' (code_tree w (set i (temp n) ∷ [])) s'
        set_both s x r' s' y fits =
            let u = alike.unseen i in_q in
            subst (λ h. Sim w (Q s) (written w alike i below register this_value later x) r' (bind h (λ v. known tt)) s') (sym (tree-set w i u.0 u.1 u.2 (temp n)))
            (sim_set w (Q s) (known tt) ((meaning cq (temp n)).next no_one) i (Some x) (written w alike i below register this_value later x) r' s' in_q (temp_gives w alike n in_n (Some x) s' y.here)
            (λ f. absurd (cc))
            (λ z f. subst (λ g. Sim w (Q s) g r' (known tt) (with_reg s' i z)) (bind-known (written w alike i below register this_value later x))
            (own_write w alike i below register this_value later r' (with_reg s' i z) x (Q s) known (known tt) (subst (λ z. Sim w (Q s) (known (Some x)) (with_reg r' i x) (known tt) (with_reg s' i z)) (same x z f)
            (Done (Some x) tt refl refl (both_hold s x r' s' y fits))))))
          where
            same : (x z : Value) → Some x ≡ Some z → x ≡ z
            same x z h = cc

        pub change_own_value : (r s : Regs) → Agree w r s → Sim w (Q s) (changed_by cp d o t e later) r (code_tree w (((y.stmts ++ z.stmts) ++ set n v ∷ []) ++ set i (temp n) ∷ [])) s
        change_own_value r s a =
            subst (λ g. Sim w (Q s) g r (code_tree w (((y.stmts ++ z.stmts) ++ set n v ∷ []) ++ set i (temp n) ∷ [])) s) (sym (same_change (meaning cq v).ctype later ∙ assigns w alike i below register this_value later))
            (sim_then w (And w (Written w e.effects.assigned k n s) (Fits w alike i)) (Q s) (written w alike i below register this_value later) ((y.stmts ++ z.stmts) ++ set n v ∷ []) (set i (temp n) ∷ []) (good (this_value.next later)) r s
            (sim_with w (Written w e.effects.assigned k n s) (Fits w alike i) (whole_default w alike this_value later k n new_piece in_n new_operand r s a) all)
            (λ x r' s' y. set_both s x r' s' y.0 y.1))
