-- Writes of locals that are no registers, by whichever activation, keep local states that match as they are.
use Rattle.std.proofs.Common.{◌≡◌, ℕ, false, List, ◌∷◌, Some, refl, ap, sym, ◌∙◌, subst}
use Rattle.cc_states.specs.CcCells.Cells.{with_scalar}
use Rattle.cc_states.specs.CcControl.declared.phase.Phase.{Phase}
use Rattle.cc_states.specs.CcControl.declared.phase.Phase.TheVariants.{First}
use Rattle.cc_states.specs.CcEval.declared.mark.Mark.{Mark}
use Rattle.cc_states.specs.CcEval.Progress.{Get, known}
use Rattle.cc_program.specs.declared.expr.Expr.{Expr}
use Rattle.cc_program.specs.declared.stmt.Stmt.{Stmt}
use Rattle.cc_program.specs.declared.value.Value.{Value}
use Rattle.cc_states.specs.CcSyntax.Registers.{is_register}
use Rattle.cc_meaning_simulations.specs.Continuations.{Remainder}
use Rattle.cc_meaning_simulations.specs.Transitions.{ControlState}
use Rattle.cc_meaning_simulations.specs.LocalSteps.{LocalState, Locals, after_write, local_state}
use Rattle.cc_lower_expressions_follows.specs.Trees.{Regs, Setting}
use Rattle.cc_lower_expressions_follows.specs.Registered.{regs_in}
use Rattle.cc_lower_expressions_follows.specs.WholeLists.{AreSame, RunAlike, GivesAlike}
use Rattle.cc_lower_expressions_follows.specs.WholeMatches.{needed, AreAlike, MatchIn, InEffect, InOperand, AtValue, InCondition, AtArm, AtLoop, AtBreak, AtContinue, AtReturn, AtEnd}
use Rattle.cc_lower_expressions_follows.specs.WholePlaces.{AreAt}
use Rattle.cc_lower_expressions_follows.specs.WholeRegion.{StandsInStatement, Working, Left}
use Rattle.cc_lower_expressions_follows.proofs.WholeSteps.{regs_elsewhere, there_elsewhere}

module _ (w : Setting) (Good : Stmt → Type 0) (local i : ℕ) (v : Value) (none_p : is_register w.from local ≡ false) (none_q : is_register w.to local ≡ false) where
  abbrev put : Locals → Locals
  put l = with_scalar l local i (Some v)

  alike_after : (pl ql : Locals) → AreAlike w pl ql → AreAlike w (put pl) (put ql)
  alike_after pl ql h = record {
    same = subst (λ (r : Regs). AreSame w r (regs_in w.to (put ql))) (sym (regs_elsewhere w.from pl local i v none_p)) (subst (AreSame w (regs_in w.from pl)) (sym (regs_elsewhere w.to ql local i v none_q)) h.same);
    has_p = there_elsewhere w.from pl local i v none_p h.has_p;
    has_q = there_elsewhere w.to ql local i v none_q h.has_q;
  }

  module _ {A : Type 0} (Q : A → Unit {0} → Regs → Regs → Type 0) (F : A → Get Value) where
    at_after : (s : Stmt) (rest : List Stmt) (phase : Phase) (around : List Remainder) (e : Expr) (out : List Stmt) (outer : List Remainder) (ms : List Mark) (pc : ControlState) (pl : Locals) (qc : ControlState) (ql : Locals) (g : Get A) (r : Regs) (h : Get (Unit {0})) (t : Regs) →
        AreAt w Q F s rest phase around e out outer ms pc pl qc ql g r h t → AreAt w Q F s rest phase around e out outer ms pc (put pl) qc (put ql) g r h t
    at_after s rest phase around e out outer ms pc pl qc ql g r h t at = record {
      does = at.does;
      stands = at.stands;
      code = at.code;
      regs_p = regs_elsewhere w.from pl local i v none_p ∙ at.regs_p;
      regs_q = regs_elsewhere w.to ql local i v none_q ∙ at.regs_q;
      has_p = there_elsewhere w.from pl local i v none_p at.has_p;
      has_q = there_elsewhere w.to ql local i v none_q at.has_q;
    }

  pub match_after : (q p : LocalState) → MatchIn w Good q p → MatchIn w Good (after_write q local i v) (after_write p local i v)
  match_after _ _ (InEffect s e l l' ps qs ms pc pl qc ql g r h t action d right together at shared eg eh) =
      InEffect s e l l' ps qs ms pc (put pl) qc (put ql) g r h t action d right together (at_after (RunAlike w) known s l First ps e l' qs ms pc pl qc ql g r h t at) shared eg eh
  match_after _ _ (InOperand s u e x l l' ps qs ms pc pl qc ql g r h t action last right together at shared eg eh) =
      InOperand s u e x l l' ps qs ms pc (put pl) qc (put ql) g r h t action last right together (at_after (GivesAlike w x) needed s l First ps e (u ∷ l') qs ms pc pl qc ql g r h t at) shared eg eh
  match_after _ _ (AtValue s u e x l l' ps qs ms ns a j k pl ql last together known_p known_q alike) = AtValue s u e x l l' ps qs ms ns a j k (put pl) (put ql) last together known_p known_q (alike_after pl ql alike)
  match_after _ _ (InCondition s e arm l l' ps qs f x u rest outer ms pc pl qc ql g r h t action d right together guard at shared eg eh) =
      InCondition s e arm l l' ps qs f x u rest outer ms pc (put pl) qc (put ql) g r h t action d right together guard (at_after (GivesAlike w x) f s l First ps e (u ∷ rest) outer ms pc pl qc ql g r h t at) shared eg eh
  match_after _ _ (AtArm s u e x arm these l rest ps outer ms ns a b j k pl ql d f arms around known_p known_q is_a is_b alike) =
      AtArm s u e x arm these l rest ps outer ms ns a b j k (put pl) (put ql) d f arms around known_p known_q is_a is_b (alike_after pl ql alike)
  match_after _ _ (AtLoop s u e body body' l l' ps qs pl ql d f one bodies together alike) = AtLoop s u e body body' l l' ps qs (put pl) (put ql) d f one bodies together (alike_after pl ql alike)
  match_after _ _ (AtBreak s u l l' ps qs pl ql d f around alike) = AtBreak s u l l' ps qs (put pl) (put ql) d f around (alike_after pl ql alike)
  match_after _ _ (AtContinue s u l l' ps qs pl ql d f around alike) = AtContinue s u l l' ps qs (put pl) (put ql) d f around (alike_after pl ql alike)
  match_after _ _ (AtReturn s u l l' ps qs pl ql d f) = AtReturn s u l l' ps qs (put pl) (put ql) d f
  match_after _ _ (AtEnd pl ql) = AtEnd (put pl) (put ql)

-- ---- it is an activation of the function

module _ (w : Setting) (Good : Stmt → Type 0) where
  -- its number, and its function
  pub record IsIn (a : LocalState) : Type 0 where
    pub number : a.control.number ≡ w.number
    pub func : a.control.func ≡ w.id

  stands_in : (s : Stmt) (rest : List Stmt) (phase : Phase) (around : List Remainder) (e : Expr) (ms : List Mark) (pc : ControlState) (pl : Locals) (t : Get Value) → StandsInStatement w s rest phase around e ms pc t → IsIn (local_state pc pl)
  stands_in s rest phase around e ms pc pl t (Working i j u) = record { number = ap (λ (c : ControlState). c.number) i; func = ap (λ (c : ControlState). c.func) i }
  stands_in s rest phase around e ms pc pl t (Left v i j d) = record { number = ap (λ (c : ControlState). c.number) i; func = ap (λ (c : ControlState). c.func) i }

  pub matched_in : (q p : LocalState) → MatchIn w Good q p → IsIn p
  matched_in _ _ (InEffect s e l l' ps qs ms pc pl qc ql g r h t action d right together at shared eg eh) = stands_in s l First ps e ms pc pl _ at.stands
  matched_in _ _ (InOperand s u e x l l' ps qs ms pc pl qc ql g r h t action last right together at shared eg eh) = stands_in s l First ps e ms pc pl _ at.stands
  matched_in _ _ (AtValue s u e x l l' ps qs ms ns a j k pl ql last together known_p known_q alike) = record { number = refl; func = refl }
  matched_in _ _ (InCondition s e arm l l' ps qs f x u rest outer ms pc pl qc ql g r h t action d right together guard at shared eg eh) = stands_in s l First ps e ms pc pl _ at.stands
  matched_in _ _ (AtArm s u e x arm these l rest ps outer ms ns a b j k pl ql d f arms around known_p known_q is_a is_b alike) = record { number = refl; func = refl }
  matched_in _ _ (AtLoop s u e body body' l l' ps qs pl ql d f one bodies together alike) = record { number = refl; func = refl }
  matched_in _ _ (AtBreak s u l l' ps qs pl ql d f around alike) = record { number = refl; func = refl }
  matched_in _ _ (AtContinue s u l l' ps qs pl ql d f around alike) = record { number = refl; func = refl }
  matched_in _ _ (AtReturn s u l l' ps qs pl ql d f) = record { number = refl; func = refl }
  matched_in _ _ (AtEnd pl ql) = record { number = refl; func = refl }
