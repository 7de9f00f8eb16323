-- Calls are lowered right: as a value, as a whole right side, and alone.
use Rattle.std.proofs.Common.{◌≡◌, ◌≤◌, ℕ, ◌+◌, Bool, true, false, List, [], ◌∷◌, ◌++◌, length, Option, refl, sym, subst, arith, if◌then◌else◌}
use Rattle.cc_program.specs.declared.program.Program.{Program}
use Rattle.cc_program.specs.declared.func.Func.{Func}
use Rattle.cc_program.specs.declared.types.CType.{CType}
use Rattle.cc_program.specs.declared.expr.Expr.{Expr, Call as Calling}
use Rattle.cc_states.specs.CcSyntax.Effects.{Registers, also}
use Rattle.cc_states.specs.CcSyntax.Forms.{form_of}
use Rattle.cc_states.specs.CcSyntax.Values.{ValueType}
use Rattle.cc_states.specs.CcEval.Eval.{Meaning, assigned_by, called as called_next}
use Rattle.cc_lower_expressions.specs.Expressions.{Piece, mapped, from_two, temp, Lowers, Lowering, arguments, all_args, is_callee, by_temp, called, whole_right, right_value, right_alone}
use Rattle.cc_lower_expressions_follows.specs.Trees.{Setting}
use Rattle.cc_lower_expressions_follows.specs.Relation.{Alike, Declared}
use Rattle.cc_lower_expressions_follows.specs.Claims.{Operands, Wholes, Effects, IsRight}
use Rattle.cc_lower_expressions_follows.proofs.CallModes.{direct_tree, direct_next, direct_sim, temp_tree, temp_next, temp_sim}
use Rattle.cc_lower_expressions_follows.proofs.Calls.{AllRight, args_right, same_assigned, ready, tree-call, tree-call-alone, sure_call}
use Rattle.cc_lower_expressions_follows.proofs.Operands.{declared_left, declared_right}
use Rattle.cc_lower_expressions_follows.proofs.TakenModes.{touches_nothing, IsTaken, taken_works}
use Rattle.cc_program.specs.declared.value.Address.{Address}
use Rattle.cc_program.specs.declared.value.Value.{Value}
use Rattle.cc_states.specs.CcEval.declared.action.Action.{Action}
use Rattle.cc_states.specs.CcEval.declared.action.Action.TheVariants.{Call}

abbrev call_action : Address × List Value → Action
call_action c = Call c.0 c.1

abbrev no_choices : (c : Address × List Value) → touches_nothing (call_action c) ≡ true
no_choices c = refl

module _ (w : Setting) (alike : Alike w) (p : Program) (f : Func) (declares : Option ValueType → CType) (is_same : Option ValueType → Option ValueType → Bool)
    (g m : Meaning) (lg : Lowering) (ms : List Meaning) (ls : List Lowering) (rg : IsRight w g lg) (rs : AllRight w alike ms ls) (t : Option ValueType)
    (same : m.effects.assigned ≡ also g.effects.assigned (assigned_by ms)) (typed : m.ctype ≡ t) (next : (later : Registers) → m.next later ≡ called_next g ms later) where
  abbrev parts : Registers → Registers → ℕ → Piece (Expr × List Expr)
  parts q later k = from_two (λ e xs. (e, xs)) q lg.operand (arguments ls) later k

  abbrev made : Registers → Lowers Expr
  made q later k = called p f declares is_same lg.ctype (parts q later k) k

  abbrev IsCall : Registers → ℕ → Piece Expr → Type 0
  IsCall = IsTaken w alike call_action no_choices (sure_call w alike) m

  abbrev by_callee : Registers → ℕ → Bool → Piece Expr
  by_callee later k b = if b then mapped (λ x. Calling x.0 x.1) (parts (assigned_by ms) later k) else by_temp p f declares is_same lg.ctype (parts (assigned_by ms) later k) (k + length (parts (assigned_by ms) later k).temps)

  called_by : (later : Registers) (k : ℕ) → w.base ≤ k → (b : Bool) → Declared w k (by_callee later k b).temps → IsCall later k (by_callee later k b)
  called_by later k above true declared =
      let x = lg.operand (also (assigned_by ms) later) k in
      let y = arguments ls later (k + length x.temps) in
      let callee = rg.operand (also (assigned_by ms) later) k above (declared_left w k x.temps y.temps declared) in
      let args = args_right w alike ms ls rs later (k + length x.temps) (omega (arith, above)) (declared_right w k x.temps y.temps declared) in
      record {
        left = ready w alike x.value y.value;
        takes = tree-call w alike x.value y.value;
        does = tree-call-alone w alike x.value y.value;
        tree = direct_tree w alike g m ms later k above x y same callee args;
        asks = direct_next w alike g m ms later k above x y same callee args (next later);
        reaches = λ r s a. direct_sim w alike g m ms later k above x y same callee args r s a;
      }
  called_by later k above false declared =
      let x = lg.operand (also (assigned_by ms) later) k in
      let y = arguments ls later (k + length x.temps) in
      let both_declared = declared_left w k (x.temps ++ y.temps) (lg.ctype ∷ []) declared in
      let last = (declared_right w k (x.temps ++ y.temps) (lg.ctype ∷ []) declared).0 in
      let callee = rg.operand (also (assigned_by ms) later) k above (declared_left w k x.temps y.temps both_declared) in
      let args = args_right w alike ms ls rs later (k + length x.temps) (omega (arith, above)) (declared_right w k x.temps y.temps both_declared) in
      let n = k + length (x.temps ++ y.temps) in
      record {
        left = ready w alike (temp n) y.value;
        takes = tree-call w alike (temp n) y.value;
        does = tree-call-alone w alike (temp n) y.value;
        tree = temp_tree w alike g m ms later k above x y same callee args lg.ctype n refl last.register;
        asks = temp_next w alike g m ms later k above x y same callee args lg.ctype n refl last.register (next later);
        reaches = λ r s a. temp_sim w alike g m ms later k above x y same callee args lg.ctype n refl last.register r s a;
      }

  is_call : (later : Registers) (k : ℕ) → w.base ≤ k → Declared w k (made (assigned_by ms) later k).temps → IsCall later k (made (assigned_by ms) later k)
  is_call later k above declared = called_by later k above (is_callee f (form_of (parts (assigned_by ms) later k).value.0)) declared

  abbrev pub AllModes : Lowers Expr → Type 0
  AllModes right = Operands w m (right_value t right) × Wholes w m (whole_right p f declares is_same t right) × Effects w m (right_alone right)

  pub call_works : AllModes (made (all_args ls))
  call_works =
      subst (λ (q : Registers). AllModes (made q)) (sym (same_assigned w alike ms ls rs))
      (taken_works w alike call_action no_choices (sure_call w alike) m p f declares is_same t typed (made (assigned_by ms)) is_call)
