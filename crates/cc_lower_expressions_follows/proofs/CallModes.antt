-- A call whose callee and arguments are lowered: as a whole right side, as a value, and alone. A callee that is no function and no
-- register goes to a temporary behind the arguments.
use Rattle.std.proofs.Common.{◌≡◌, ◌≤◌, ℕ, ◌+◌, true, List, [], ◌∷◌, ◌++◌, length, Option, Some, None, refl, ap, sym, ◌∙◌, subst, arith}
use Rattle.std.proofs.Math.Path.{fun_ext}
use Rattle.std.proofs.lemmas.List.{length-append}
use Rattle.cc_program.specs.declared.expr.Expr.{Expr}
use Rattle.cc_program.specs.declared.value.Address.{Address}
use Rattle.cc_program.specs.declared.value.Value.{Value}
use Rattle.cc_states.specs.CcSyntax.Effects.{Registers, no_one, also}
use Rattle.cc_states.specs.CcSyntax.Registers.{is_register}
use Rattle.cc_states.specs.CcSyntax.Values.{ValueType}
use Rattle.cc_states.specs.CcEval.Context.{Context}
use Rattle.cc_states.specs.CcEval.Eval.{Meaning, meaning, each, assigned_by, all_good, called}
use Rattle.cc_states.specs.CcEval.Progress.{Get, known, bind, needs}
use Rattle.cc_states.specs.CcValues.Values.{address_in}
use Rattle.cc_lower_expressions.specs.Expressions.{Piece, piece, temp, set}
use Rattle.cc_lower_expressions_follows.specs.Trees.{Regs, with_reg, Setting, context_q, Stuck, Ends, Other, Sim, Done, Runs, Is}
use Rattle.cc_lower_expressions_follows.specs.Relation.{code_tree, Alike, Agree, Post, Gives}
use Rattle.cc_lower_expressions_follows.specs.Claims.{After, IsOperand}
use Rattle.cc_lower_expressions_follows.proofs.TreeLaws.{bind-assoc, runs_bind}
use Rattle.cc_lower_expressions_follows.proofs.Calls.{callee_of, call_step, called-form, AllGive, AllUnassigning, AreArguments, ready, ready_with, none_by, runs_each}
use Rattle.cc_lower_expressions_follows.proofs.Combined.{sim_then, sim_two, sim_one}
use Rattle.cc_lower_expressions_follows.proofs.Fetched.{agree_temp, kept_temp}
use Rattle.cc_lower_expressions_follows.proofs.Frames.{holds_now}
use Rattle.cc_lower_expressions_follows.proofs.Loads.{temp_gives}
use Rattle.cc_lower_expressions_follows.proofs.Operands.{sim_count}
use Rattle.cc_lower_expressions_follows.proofs.Rules.{sim_set}
use Rattle.cc_lower_expressions_follows.proofs.Statements.{tree-set}
use Rattle.cc_lower_expressions_follows.proofs.Whole.{reg_here, reg_other, below_other}

abbrev pub Callee : Type 0
Callee = Option (Address × List Value)

module _ (w : Setting) (alike : Alike w) where
  abbrev cq : Context
  cq = context_q w

  -- what is left of a call reaches this function with these arguments
  abbrev pub Reaches : Expr × List Expr → Callee → Regs → Type 0
  Reaches z c t = Runs w c t (ready w alike z.0 z.1) t

  pub reaches_at : (h : Expr) (xs : List Expr) (v : Option Value) (vs : List (Option Value)) (t : Regs) → AllUnassigning w alike xs → Gives w h v t → AllGive w alike xs vs t →
      Reaches (h, xs) (callee_of (address_in v) (all_good vs)) t
  reaches_at h xs v vs t pure a b =
      runs_bind (Other w) (ready_with w alike h xs)
      (subst (λ (q : Registers). Runs w v t ((meaning cq h).next (also q no_one)) t) (sym (none_by w alike xs pure)) a)
      (runs_bind (Other w) (λ vs. known (callee_of (address_in v) (all_good vs))) (runs_each w alike xs vs t pure b) (Is refl))

  -- ---- the callee and the arguments

  module _ (f m : Meaning) (ms : List Meaning) (later : Registers) (k : ℕ) (above : w.base ≤ k) (x : Piece Expr) (y : Piece (List Expr)) (same : m.effects.assigned ≡ also f.effects.assigned (assigned_by ms))
      (callee : IsOperand w f (also (assigned_by ms) later) k x) (args : AreArguments w alike ms later (k + length x.temps) y) where
    abbrev Both-give : Option Value × List (Option Value) → Regs → Type 0
    Both-give o s = Gives w x.value o.0 s × AllGive w alike y.value o.1 s

    abbrev operands_of : Get (Option Value × List (Option Value))
    operands_of = bind (f.next (also (assigned_by ms) later)) (λ v. bind (each ms later) (λ vs. known (v, vs)))

    abbrev reach : Option Value × List (Option Value) → Callee
    reach o = callee_of (address_in o.0) (all_good o.1)

    called_operands : called f ms later ≡ bind operands_of (λ o. needs (reach o) call_step)
    called_operands =
        ap (bind (f.next (also (assigned_by ms) later))) (fun_ext (λ v.
        ap (bind (each ms later)) (fun_ext (λ vs. called-form (address_in v) (all_good vs))) ∙
        sym (bind-assoc (each ms later) (λ vs. known (v, vs)) (λ o. needs (reach o) call_step)))) ∙
        sym (bind-assoc (f.next (also (assigned_by ms) later)) (λ v. bind (each ms later) (λ vs. known (v, vs))) (λ o. needs (reach o) call_step))

    abbrev pub both_piece : Piece (Expr × List Expr)
    both_piece = piece (x.temps ++ y.temps) (x.stmts ++ y.stmts) (x.value, y.value)

    both_sim : (r s : Regs) → Agree w r s → Sim w (After w m.effects.assigned later k (length both_piece.temps) (λ o s. Both-give o s) s) operands_of r (code_tree w both_piece.stmts) s
    both_sim r s z =
        subst (λ (q : Registers). Sim w (After w q later k (length both_piece.temps) (λ o s. Both-give o s) s) operands_of r (code_tree w both_piece.stmts) s) (sym same)
        (sim_count w (also f.effects.assigned (assigned_by ms)) later k (length x.temps + length y.temps) (length (x.temps ++ y.temps)) (λ o s. Both-give o s) s operands_of r (code_tree w (x.stmts ++ y.stmts)) s
        (sym (length-append x.temps y.temps))
        (sim_two w (f.next (also (assigned_by ms) later)) (each ms later) (λ v vs. (v, vs)) f.effects.assigned (assigned_by ms) later k (length x.temps) (length y.temps)
        (Gives w x.value) (λ vs s. AllGive w alike y.value vs s) (λ o s. Both-give o s) above (λ v vs s g gs. (g, gs)) x.stmts y.stmts r s (callee.sim r s z) (λ r' s' z'. args.sim r' s' z')))

    -- ---- a function or a register is called as it stands

    abbrev pub direct_tree : Get Callee
    direct_tree = bind operands_of (λ o. known (reach o))

    pub direct_next : m.next later ≡ called f ms later → m.next later ≡ bind direct_tree (λ c. needs c call_step)
    direct_next e = e ∙ called_operands ∙ sym (bind-assoc operands_of (λ o. known (reach o)) (λ c. needs c call_step))

    pub direct_sim : (r s : Regs) → Agree w r s → Sim w (After w m.effects.assigned later k (length both_piece.temps) (Reaches both_piece.value) s) direct_tree r (code_tree w both_piece.stmts) s
    direct_sim r s z =
        sim_one w operands_of reach m.effects.assigned later k (length both_piece.temps) (λ o s. Both-give o s) (Reaches both_piece.value) (λ o t h. reaches_at x.value y.value o.0 o.1 t args.assigned h.0 h.1) both_piece.stmts r s (both_sim r s z)

    -- ---- by way of a temporary

    module _ (t : Option ValueType) (n : ℕ) (is_n : n ≡ k + length both_piece.temps) (in_n : is_register w.to n ≡ true) where
      abbrev pub temp_piece : Piece (Expr × List Expr)
      temp_piece = piece (both_piece.temps ++ t ∷ []) (both_piece.stmts ++ set n x.value ∷ []) (temp n, y.value)

      abbrev good_callee : Option Value × List (Option Value) → Get Callee
      good_callee o = needs o.0 (λ v. known (callee_of (address_in (Some v)) (all_good o.1)))

      abbrev pub temp_tree : Get Callee
      temp_tree = bind operands_of good_callee

      good_form : (v : Option Value) (vs : List (Option Value)) → needs (callee_of (address_in v) (all_good vs)) call_step ≡ bind (good_callee (v, vs)) (λ c. needs c call_step)
      good_form None vs = refl
      good_form (Some v) vs = refl

      pub temp_next : m.next later ≡ called f ms later → m.next later ≡ bind temp_tree (λ c. needs c call_step)
      temp_next e = e ∙ called_operands ∙ ap (bind operands_of) (fun_ext (λ o. good_form o.0 o.1)) ∙ sym (bind-assoc operands_of good_callee (λ c. needs c call_step))

      abbrev Result : Regs → Callee → Unit {0} → Regs → Regs → Type 0
      Result s = After w m.effects.assigned later k (length both_piece.temps + 1) (Reaches (temp n, y.value)) s

      set_post : (s : Regs) (o : Option Value × List (Option Value)) (r1 s1 : Regs) (v : Value) → Post w m.effects.assigned later k (length both_piece.temps) (λ s. Both-give o s) s r1 s1 →
          Post w m.effects.assigned later k (length both_piece.temps + 1) (Reaches (temp n, y.value) (callee_of (address_in (Some v)) (all_good o.1))) s r1 (with_reg s1 n v)
      set_post s o r1 s1 v y' = record {
        agree = agree_temp w r1 s1 n v (omega (arith, is_n, above)) y'.agree;
        kept = kept_temp w m.effects.assigned k n s s1 v (omega (arith, is_n, above)) (omega (arith, is_n)) y'.kept;
        value = λ u h. reaches_at (temp n) y.value (Some v) o.1 u args.assigned (temp_gives w alike n in_n (Some v) u (sym (h.temps n (omega (arith, is_n)) (omega (arith, is_n))) ∙ reg_here s1 n v))
            (y'.value u (record {
              regs = λ i l e. sym (reg_other s1 n i v (below_other n i (omega (arith, is_n, above)))) ∙ h.regs i l e;
              temps = λ i a b. sym (reg_other s1 n i v (below_other n i (omega (arith, is_n)))) ∙ h.temps i a (omega arith);
            })).1;
      }

      set_callee : (s : Regs) (o : Option Value × List (Option Value)) (r1 s1 : Regs) → Post w m.effects.assigned later k (length both_piece.temps) (λ s. Both-give o s) s r1 s1 →
          Sim w (Result s) (good_callee o) r1 (code_tree w (set n x.value ∷ [])) s1
      set_callee s o r1 s1 y' =
          let u = alike.unseen n in_n in
          subst (λ h. Sim w (Result s) (good_callee o) r1 (bind h (λ u. known tt)) s1) (sym (tree-set w n u.0 u.1 u.2 x.value))
          (sim_set w (Result s) (known tt) ((meaning cq x.value).next no_one) n o.0 (good_callee o) r1 s1 in_n (holds_now w later k (k + length both_piece.temps) (λ s. Both-give o s) s1 y'.value).0
          (λ e. subst (λ (v : Option Value). Ends w w.from (good_callee (v, o.1)) r1) (sym e) (Stuck [] refl))
          (λ v e. subst (λ (u : Option Value). Sim w (Result s) (good_callee (u, o.1)) r1 (known tt) (with_reg s1 n v)) (sym e) (Done (callee_of (address_in (Some v)) (all_good o.1)) tt refl refl (set_post s o r1 s1 v y'))))

      pub temp_sim : (r s : Regs) → Agree w r s → Sim w (After w m.effects.assigned later k (length temp_piece.temps) (Reaches temp_piece.value) s) temp_tree r (code_tree w temp_piece.stmts) s
      temp_sim r s z =
          sim_count w m.effects.assigned later k (length both_piece.temps + 1) (length temp_piece.temps) (Reaches temp_piece.value) s temp_tree r (code_tree w temp_piece.stmts) s (sym (length-append both_piece.temps (t ∷ [])))
          (sim_then w (After w m.effects.assigned later k (length both_piece.temps) (λ o s. Both-give o s) s) (Result s) good_callee both_piece.stmts (set n x.value ∷ []) operands_of r s (both_sim r s z) (λ o r1 s1 y'. set_callee s o r1 s1 y'))
