-- Expressions that are lowered right do what they do from any registers that are the same, whichever activations were opened.
use Rattle.std.proofs.Common.{◌≡◌, ◌≤◌, ◌<◌, ℕ, suc, true, false, List, [], ◌∷◌, ◌+◌, length, Option, Some, refl, subst}
use Rattle.std.specs.Prelude.{slice_get}
use Rattle.cc_states.specs.CcEval.declared.action.Action.TheVariants.{Write}
use Rattle.cc_states.specs.CcEval.declared.mark.Mark.{Mark}
use Rattle.cc_states.specs.CcEval.Eval.{Meaning, meaning}
use Rattle.cc_states.specs.CcEval.Progress.{Get, Waits}
use Rattle.cc_program.specs.declared.expr.Expr.{Expr}
use Rattle.cc_program.specs.declared.stmt.Stmt.{Stmt}
use Rattle.cc_program.specs.declared.value.Value.{Value}
use Rattle.cc_states.specs.Answers.{AreItsMarks, TakesAddressesOf, IsMarkOf}
use Rattle.cc_states.specs.Typed.{HasType, cell_type}
use Rattle.cc_states.proofs.EvalTypes.{meaning_typed}
use Rattle.cc_states.proofs.CcEval.Works.{answers_of}
use Rattle.cc_states.specs.CcSyntax.Effects.{Registers, no_one}
use Rattle.cc_states.specs.CcSyntax.Registers.{is_register}
use Rattle.cc_states.specs.CcSyntax.Values.{ValueType}
use Rattle.cc_lower_expressions.specs.Expressions.{Piece, Temps}
use Rattle.cc_lower_expressions.specs.Statements.{lowered}
use Rattle.cc_lower_expressions.specs.Temporaries.{declared_type, is_same_type}
use Rattle.cc_lower_expressions_follows.specs.Trees.{Regs, Setting, context_p, register_cell, Sim, Done, Left, Right, Both, Fail, Runs, Is, Steps}
use Rattle.cc_lower_expressions_follows.specs.Relation.{Alike, Agree, Declared, Gives, code_tree, stmt_tree}
use Rattle.cc_lower_expressions_follows.specs.Claims.{After, Worked, IsRight, good}
use Rattle.cc_lower_expressions_follows.specs.Old.{is_old}
use Rattle.cc_lower_expressions_follows.specs.Region.{are_code}
use Rattle.cc_lower_expressions_follows.specs.WholeLists.{AreSame, RunAlike, GivesAlike, IsLoweredRight, piece_of, effect_of}
use Rattle.cc_lower_expressions_follows.specs.WholePlaces.{opened_at}
use Rattle.cc_lower_expressions_follows.specs.WholeRegion.{next_p}
use Rattle.cc_lower_expressions_follows.specs.WholeTrees.{Does, Finish, OfP, OfQ, OfBoth, NoMore}
use Rattle.cc_lower_expressions_follows.proofs.Frames.{holds_now}
use Rattle.cc_lower_expressions_follows.proofs.Lowered.{lowered_right}
use Rattle.cc_lower_expressions_follows.proofs.Typing.{TypedExpr}
use Rattle.cc_lower_expressions_follows.proofs.WholeBridge.{quiet_again}
use Rattle.cc_lower_expressions_follows.proofs.WholeCode.{lowered_code}

-- what a simulation does, where less is asked at the ends
module _ (w : Setting) {A B : Type 0} (P Q : A → B → Regs → Regs → Type 0) (weaker : (a : A) (b : B) (r s : Regs) → P a b r s → Q a b r s) where
  pub does_of : {g : Get A} {r : Regs} {h : Get B} {s : Regs} → Sim w P g r h s → Does w Q g r h s
  does_of {r} {s} (Done a b eg eh x) = Finish a b eg eh (weaker a b r s x)
  does_of (Left r' action m e q d) = OfP r' action m e q (λ x. does_of (d x))
  does_of (Right s' action m e q d) = OfQ s' action m e q (does_of d)
  does_of (Both action n eg eh d) = OfBoth action n eg eh (λ m x. does_of (d m x))
  does_of (Fail x y) = NoMore x y

module _ (w : Setting) (openings : List ℕ) where
  abbrev here : Setting
  here = opened_at w openings

  alike_at : Alike w → Alike here
  alike_at a = record { view = a.view; naming = a.naming; places = a.places; registers = a.registers; unseen = a.unseen }

  declared_at : (k : ℕ) (ts : Temps) → Declared w k ts → Declared here k ts
  declared_at k [] h = tt
  declared_at k (t ∷ ts) h = (record { register = h.0.register; ctype = h.0.ctype }, declared_at (suc k) ts h.1)

  code_at : (l : List Stmt) → code_tree here l ≡ code_tree w l
  unfolding stmt_tree
  code_at l = refl

  runs_at : {A : Type 0} (a : A) (t : Regs) {g : Get A} {s : Regs} → Runs here a t g s → Runs w a t g s
  runs_at a t (Is e) = Is e
  runs_at a t {s = s} (Steps u action m e q d) = Steps u action m e (quiet_again here w refl refl w.to action s u m q) (runs_at a t d)

  agree_at : (r s : Regs) → AreSame w r s → Agree here r s
  agree_at r s h = record { same = h }

  module _ (m : Meaning) (x : Piece Expr) (later : Registers) (k : ℕ) (s : Regs) where
    gives_alike : (v : Option Value) (u : Unit {0}) (r' s' : Regs) → After here m.effects.assigned later k (length x.temps) (Gives here x.value) s v u r' s' → GivesAlike w x.value v u r' s'
    gives_alike v u r' s' y = (y.agree.same, runs_at v s' (holds_now here later k (k + length x.temps) (Gives here x.value v) s' y.value))

    run_alike : (v : Value) (u : Unit {0}) (r' s' : Regs) → Worked here m.effects.assigned k s v u r' s' → RunAlike w v u r' s'
    run_alike v u r' s' y = y.agree.same

module _ (w : Setting) (alike : Alike w) (below : (i : ℕ) → is_register w.from i ≡ true → i < w.base) (within : length w.from.locals ≤ w.base) (function : slice_get w.p.funcs w.id ≡ Some w.from)
    (e : Expr) (own : TakesAddressesOf w.from e) (old : is_old w.base e ≡ true) (typed : TypedExpr (context_p w) e) where
  right_at : (openings : List ℕ) → slice_get openings w.number ≡ Some w.id → IsRight (opened_at w openings) (meaning (context_p w) e) (lowered w.p w.from e)
  right_at openings opened = lowered_right (opened_at w openings) (alike_at w openings alike) below declared_type is_same_type (record { function = function; number = opened }) within e own old typed

  -- what it writes to registers has their types
  writes_typed : (openings : List ℕ) → slice_get openings w.number ≡ Some w.id → (ms : List Mark) → AreItsMarks w.p openings (next_p w e) ms → (i : ℕ) (v : Value) → next_p w e ms ≡ Waits (Write (register_cell w i) false v) →
      (t : ValueType) × (cell_type w.p (register_cell w i) ≡ Some t) × HasType w.p openings t v
  writes_typed openings opened ms marks i v waits =
      let y = ((meaning_typed (context_p w) openings (record { function = function; number = opened }) e own typed.0 typed.1 no_one).waits ms (Write (register_cell w i) false v) (answers_of (IsMarkOf w.p openings) (next_p w e) ms marks) waits).0 in
      (y.0, y.1, y.3)

  -- its code as an operand, whichever registers later operands assign
  pub operand_does : (later : Registers) (openings : List ℕ) → slice_get openings w.number ≡ Some w.id → (k : ℕ) → w.base ≤ k → Declared w k ((lowered w.p w.from e).operand later k).temps → (r s : Regs) → AreSame w r s →
      Does (opened_at w openings) (GivesAlike w ((lowered w.p w.from e).operand later k).value) ((meaning (context_p w) e).next later) r (code_tree w ((lowered w.p w.from e).operand later k).stmts) s
  operand_does later openings opened k above declared r s same =
      let x = (lowered w.p w.from e).operand later k in
      subst (λ h. Does (opened_at w openings) (GivesAlike w x.value) ((meaning (context_p w) e).next later) r h s) (code_at w openings x.stmts)
      (does_of (opened_at w openings) (After (opened_at w openings) (meaning (context_p w) e).effects.assigned later k (length x.temps) (Gives (opened_at w openings) x.value) s) (GivesAlike w x.value)
      (gives_alike w openings (meaning (context_p w) e) x later k s)
      (((right_at openings opened).operand later k above (declared_at w openings k x.temps declared)).sim r s (agree_at w openings r s same)))

  lowered_by : ((k : ℕ) → are_code (piece_of w e k).stmts ≡ true) → ((k : ℕ) → are_code (effect_of w e k).stmts ≡ true) → IsLoweredRight w e
  lowered_by operand_code effect_code = record {
    operand = operand_does no_one;
    effect = λ openings opened k above declared r s same.
        let x = effect_of w e k in
        subst (λ h. Does (opened_at w openings) (RunAlike w) (good ((meaning (context_p w) e).next no_one)) r h s) (code_at w openings x.stmts)
        (does_of (opened_at w openings) (Worked (opened_at w openings) (meaning (context_p w) e).effects.assigned k s) (RunAlike w)
        (run_alike w openings (meaning (context_p w) e) (piece_of w e k) no_one k s)
        ((right_at openings opened).effect no_one k above (declared_at w openings k x.temps declared) r s (agree_at w openings r s same)));
    operand_code = operand_code;
    effect_code = effect_code;
    writes = writes_typed;
  }

  pub lowered_here : IsLoweredRight w e
  lowered_here = let code = lowered_code w.p w.from declared_type is_same_type e in lowered_by (code.operand no_one) (code.effect no_one)
