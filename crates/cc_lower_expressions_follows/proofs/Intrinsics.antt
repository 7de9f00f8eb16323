-- Intrinsics: a value, a whole right side, and alone.
use Rattle.std.proofs.Common.{true, ◌≡◌, ℕ, Bool, [], length, Option, Some, None, refl, ap, sym, ◌∙◌, subst}
use Rattle.std.proofs.Math.Path.{fun_ext}
use Rattle.cc_program.specs.declared.expr.Expr.{Expr}
use Rattle.cc_program.specs.declared.value.Value.{Value}
use Rattle.cc_states.specs.CcSyntax.Effects.{Registers, no_one}
use Rattle.cc_states.specs.CcEval.declared.action.Action.{Action}
use Rattle.cc_states.specs.CcEval.declared.action.Action.TheVariants.{Flag, Save}
use Rattle.cc_states.specs.CcEval.declared.mark.Mark.{Mark}
use Rattle.cc_states.specs.CcEval.declared.mark.Mark.TheVariants.{Gave, Did, Chose}
use Rattle.cc_states.specs.CcEval.Context.{Context}
use Rattle.cc_states.specs.CcEval.Eval.{Meaning, meaning, restored}
use Rattle.cc_states.specs.CcEval.Progress.{Get, known, ask, bind, needs, given, no_value}
use Rattle.cc_states.specs.Answers.{IsMarkOf}
use Rattle.cc_states.specs.CcValues.Values.{truth}
use Rattle.cc_lower_expressions.specs.Expressions.{Piece, piece}
use Rattle.cc_lower_expressions_follows.specs.Trees.{Setting, context_q, Other, Sim, Done, Runs, Is}
use Rattle.cc_lower_expressions_follows.specs.Relation.{code_tree, Alike, Kept, Gives}
use Rattle.cc_lower_expressions_follows.specs.Claims.{After, IsOperand}
use Rattle.cc_lower_expressions_follows.proofs.Combined.{sim_one}
use Rattle.cc_lower_expressions_follows.proofs.Frames.{kept_none}
use Rattle.cc_lower_expressions_follows.proofs.TakenModes.{touches_nothing, IsTaken, tree-taken, tree-alone}
use Rattle.cc_lower_expressions_follows.proofs.TreeLaws.{bind-assoc, runs_bind}

-- what is asked for
abbrev pub flag_action : Option Bool → Action
flag_action None = Save
flag_action (Some b) = Flag b

pub no_flag_choice : (c : Option Bool) → touches_nothing (flag_action c) ≡ true
no_flag_choice None = refl
no_flag_choice (Some b) = refl

abbrev pub flag_step : Option (Option Bool) → Get (Option Value)
flag_step c = needs c (λ c. ask (flag_action c) given)

abbrev flag_of : Option Bool → Option (Option Bool)
flag_of None = None
flag_of (Some b) = Some (Some b)

flag_form : (t : Option Bool) → needs t (λ b. ask (Flag b) given) ≡ flag_step (flag_of t)
flag_form None = refl
flag_form (Some b) = refl

module _ (w : Setting) (alike : Alike w) where
  abbrev cq : Context
  cq = context_q w

  pub sure_flag : (c : Option Bool) (m : Mark) → IsMarkOf w.p w.openings (flag_action c) m → (x : Value) × (given m ≡ Some x)
  sure_flag None (Gave None) h = absurd (cc)
  sure_flag (Some b) (Gave None) h = absurd (cc)
  sure_flag None (Gave (Some v)) h = (v, refl)
  sure_flag (Some b) (Gave (Some v)) h = (v, refl)
  sure_flag None Did h = (no_value, refl)
  sure_flag (Some b) Did h = (no_value, refl)
  sure_flag None (Chose b) h = absurd (cc)
  sure_flag (Some c) (Chose b) h = absurd (cc)

  abbrev IsFlag : Meaning → Registers → ℕ → Piece Expr → Type 0
  IsFlag m later k c = IsTaken w alike flag_action no_flag_choice sure_flag m later k c

  -- without an operand
  pub flag_alone : (m : Meaning) (later : Registers) (k : ℕ) (e : Expr) (c : Option Bool) → m.effects.assigned ≡ no_one → m.next later ≡ flag_step (Some c) → (meaning cq e).next no_one ≡ flag_step (Some c) → IsFlag m later k (piece [] [] e)
  flag_alone m later k e c pure f g = record {
    tree = known (Some c);
    left = known (Some c);
    asks = f;
    takes = tree-taken w alike flag_action e (known (Some c)) g;
    does = tree-alone w alike flag_action e (known (Some c)) g;
    reaches = λ r s y. Done (Some c) tt refl refl (record { agree = y; kept = subst (λ (q : Registers). Kept w q k s s) (sym pure) (kept_none w no_one k s); value = λ t h. Is refl });
  }

  -- with one
  abbrev reach : Option Value → Option (Option Bool)
  reach v = flag_of (truth v)

  abbrev flag_tree : Get (Option Value) → Get (Option (Option Bool))
  flag_tree g = bind g (λ v. known (reach v))

  restored_form : (g : Get (Option Value)) → bind g (λ v. needs (truth v) (λ b. ask (Flag b) given)) ≡ bind (flag_tree g) flag_step
  restored_form g = ap (bind g) (fun_ext (λ v. flag_form (truth v))) ∙ sym (bind-assoc g (λ v. known (reach v)) flag_step)

  pub flag_with : (a m : Meaning) (later : Registers) (k : ℕ) (x : Piece Expr) (e : Expr) → IsOperand w a later k x → m.effects.assigned ≡ a.effects.assigned → m.next later ≡ restored (Some a) later →
      (meaning cq e).next no_one ≡ restored (Some (meaning cq x.value)) no_one → IsFlag m later k (piece x.temps x.stmts e)
  flag_with a m later k x e h same f g =
      let left = flag_tree ((meaning cq x.value).next no_one) in
      let is = g ∙ restored_form ((meaning cq x.value).next no_one) in
      record {
        tree = flag_tree (a.next later);
        left = left;
        asks = f ∙ restored_form (a.next later);
        takes = tree-taken w alike flag_action e left is;
        does = tree-alone w alike flag_action e left is;
        reaches = λ r s y.
            subst (λ (q : Registers). Sim w (After w q later k (length x.temps) (λ c t. Runs w c t (flag_tree ((meaning cq x.value).next no_one)) t) s) (flag_tree (a.next later)) r (code_tree w x.stmts) s) (sym same)
            (sim_one w (a.next later) reach a.effects.assigned later k (length x.temps) (Gives w x.value) (λ c t. Runs w c t (flag_tree ((meaning cq x.value).next no_one)) t)
            (λ v t i. runs_bind (Other w) (λ v. known (reach v)) i (Is refl)) x.stmts r s (h.sim r s y));
      }
