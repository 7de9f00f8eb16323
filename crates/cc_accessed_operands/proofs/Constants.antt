-- What is folded (C99 6.6) has parts that are constant expressions, so that it drops no access.
use Rattle.std.proofs.Common.{◌≡◌, ℕ, pos, Bool, true, false}
use Rattle.std.specs.Prelude.{if◌then◌else◌}
use Rattle.cc_accessed_operands.specs.Accessed.{accesses}
use Rattle.cc_accessed_operands.specs.Kept.{KeepsOperand}
use Rattle.cc_accessed_operands.proofs.Parts.{IsConstant, AccessesNone, never, operand_known, operand_keeps}
use Rattle.cc_program.specs.CcNum.declared.int_type.IntType.{IntType}
use Rattle.cc_program.specs.CcNum.declared.op.BinOp.{BinOp}
use Rattle.cc_program.specs.CcNum.declared.op.UnOp.{UnOp}
use Rattle.cc_program.specs.CcNum.declared.target.Target.{Target}
use Rattle.cc_operands.specs.Operands.{folded}
use Rattle.cc_program.specs.declared.expr.Expr.{Expr, Const}
use Rattle.cc_operands.specs.CcSyntax.Folding.{Constant, NoConstant, Value, Traps, unary_constant, binary_constant, converted_constant, truth_constant, settled, both_constant, either_constant, chosen_constant, is_true}
use Rattle.cc_operands.specs.CcSyntax.Values.{Integer}

-- an operation keeps what its parts access, where as a constant expression it accesses none
pub folded_keeps : (t : IntType) (k : Constant) (e : Expr) (accessed : ℕ → Bool) → ((d : ℕ) → accessed d ≡ true → accesses d e ≡ true) → (IsConstant k → AccessesNone e) → KeepsOperand (folded t k e) accessed
folded_keeps t NoConstant e accessed h none = operand_keeps e (Integer t) accessed h
folded_keeps t (Value n) e accessed h none = record { known = operand_known (Const n t) (Integer t); kept = λ d k. never (h d k) (none tt d) }
folded_keeps t Traps e accessed h none = record { known = λ k. none tt; kept = h }

-- ---- the parts of constant expressions

either_way : {C : Type 0} (b : Bool) (j k : Constant) → (IsConstant j → C) → (IsConstant k → C) → IsConstant (if b then j else k) → C
either_way true j k f g h = f h
either_way false j k f g h = g h

truth_part : (k : Constant) → IsConstant (truth_constant k) → IsConstant k
truth_part NoConstant h = h
truth_part (Value n) h = tt
truth_part Traps h = tt

settled_parts : (j k : Constant) → IsConstant (settled j k) → IsConstant j × IsConstant k
settled_parts NoConstant k h = absurd h
settled_parts (Value n) k h = (tt, h)
settled_parts Traps k h = (tt, h)

module _ (target : Target) where
  pub unary_part : (o : UnOp) (t : IntType) (k : Constant) → IsConstant (unary_constant target o t k) → IsConstant k
  unary_part o t NoConstant h = h
  unary_part o t (Value n) h = tt
  unary_part o t Traps h = tt

  pub converted_part : (t : IntType) (k : Constant) → IsConstant (converted_constant target t k) → IsConstant k
  converted_part t NoConstant h = h
  converted_part t (Value n) h = tt
  converted_part t Traps h = tt

  pub binary_parts : (o : BinOp) (t : IntType) (j k : Constant) → IsConstant (binary_constant target o t j k) → IsConstant j × IsConstant k
  binary_parts o t NoConstant NoConstant h = absurd h
  binary_parts o t NoConstant (Value n) h = absurd h
  binary_parts o t NoConstant Traps h = absurd h
  binary_parts o t (Value m) NoConstant h = absurd h
  binary_parts o t (Value m) (Value n) h = (tt, tt)
  binary_parts o t (Value m) Traps h = (tt, tt)
  binary_parts o t Traps NoConstant h = absurd h
  binary_parts o t Traps (Value n) h = (tt, tt)
  binary_parts o t Traps Traps h = (tt, tt)

pub both_parts : (j k : Constant) → IsConstant (both_constant j k) → IsConstant j × IsConstant k
both_parts NoConstant k h = absurd h
both_parts (Value m) k h = (tt, either_way (is_true m) (truth_constant k) (settled k (Value (pos 0))) (truth_part k) (λ s. (settled_parts k (Value (pos 0)) s).0) h)
both_parts Traps k h = (tt, (settled_parts k Traps h).0)

pub either_parts : (j k : Constant) → IsConstant (either_constant j k) → IsConstant j × IsConstant k
either_parts NoConstant k h = absurd h
either_parts (Value m) k h = (tt, either_way (is_true m) (settled k (Value (pos 1))) (truth_constant k) (λ s. (settled_parts k (Value (pos 1)) s).0) (truth_part k) h)
either_parts Traps k h = (tt, (settled_parts k Traps h).0)

swapped : {A B : Type 0} → A × B → B × A
swapped p = (p.1, p.0)

pub chosen_parts : (i j k : Constant) → IsConstant (chosen_constant i j k) → IsConstant i × IsConstant j × IsConstant k
chosen_parts NoConstant j k h = absurd h
chosen_parts (Value n) j k h = let p = either_way (is_true n) (settled k j) (settled j k) (λ s. swapped (settled_parts k j s)) (settled_parts j k) h in (tt, p.0, p.1)
chosen_parts Traps j k h = let p = settled_parts j (settled k Traps) h in (tt, p.0, (settled_parts k Traps p.1).0)
