-- What stands in a statement of its own as a right side, a read, a call or an intrinsic: as the whole right side of an
-- assignment, by way of a temporary where the types differ; and as a value that nobody uses.
use Rattle.std.proofs.Common.{◌≡◌, ◌≤◌, ℕ, suc, ◌+◌, Bool, true, false, List, [], ◌∷◌, ◌++◌, length, Option, subst, arith, if◌then◌else◌}
use Rattle.std.proofs.lemmas.List.{append_assoc}
use Rattle.cc_program.specs.declared.stmt.Stmt.{Stmt}
use Rattle.cc_program.specs.declared.expr.Expr.{Expr}
use Rattle.cc_program.specs.declared.value.Value.{Value}
use Rattle.cc_states.specs.CcSyntax.Effects.{Registers}
use Rattle.cc_states.specs.CcSyntax.Registers.{is_register}
use Rattle.cc_states.specs.CcSyntax.Values.{ValueType}
use Rattle.cc_states.specs.CcEval.Eval.{Meaning}
use Rattle.cc_lower_expressions.specs.Expressions.{Piece, Lowers, onto, into, emit, set, temp, fresh, ◌>>=◌, right_value}
use Rattle.cc_lower_expressions_follows.specs.Trees.{Regs, Setting, Sim}
use Rattle.cc_lower_expressions_follows.specs.Relation.{code_tree, Alike, Declared, Agree, Wrote, Ran}
use Rattle.cc_lower_expressions_follows.specs.Claims.{Written, Worked, good, Operands, Wholes, Effects}
use Rattle.cc_lower_expressions_follows.proofs.Operands.{declared_left}
use Rattle.cc_lower_expressions_follows.proofs.Sequences.{whole_default}
use Rattle.cc_lower_expressions_follows.proofs.TreeLaws.{sim_weaker}
use Rattle.cc_lower_expressions_follows.proofs.Whole.{wrote_temp, below_other}

module _ (w : Setting) (alike : Alike w) (m : Meaning) where
  -- a right side may be given to each register
  abbrev pub IsRightSide : Registers → ℕ → Piece Expr → Type 0
  IsRightSide later k x = (n : ℕ) → is_register w.to n ≡ true → (r s : Regs) → Agree w r s → Sim w (Written w m.effects.assigned k n s) (good (m.next later)) r (code_tree w (x.stmts ++ set n x.value ∷ [])) s

  module _ (own : Option ValueType) (right : Lowers Expr) (h : (later : Registers) (k : ℕ) → w.base ≤ k → Declared w k (right later k).temps → IsRightSide later k (right later k)) (operand : Operands w m (right_value own right)) where
    abbrev by_same : Registers → ℕ → ℕ → Bool → Piece (Unit {0})
    by_same later k n b = onto (right later k) ((if b then emit (set n (right later k).value) else (into own (right later k).value >>= (λ v. emit (set n v)))) (k + length (right later k).temps))

    works : (later : Registers) (k n : ℕ) → w.base ≤ k → is_register w.to n ≡ true → (b : Bool) → Declared w k (by_same later k n b).temps →
        (r s : Regs) → Agree w r s → Sim w (Written w m.effects.assigned k n s) (good (m.next later)) r (code_tree w (by_same later k n b).stmts) s
    works later k n above in_n true declared r s y = h later k above (declared_left w k (right later k).temps [] declared) n in_n r s y
    works later k n above in_n false declared r s y =
        let x = right later k in
        let j = k + length x.temps in
        subst (λ (xs : List Stmt). Sim w (Written w m.effects.assigned k n s) (good (m.next later)) r (code_tree w xs) s) (append_assoc x.stmts (set j x.value ∷ []) (set n (temp j) ∷ []))
        (whole_default w alike m later k n (onto x (into own x.value j)) in_n (operand later k above declared) r s y)

    pub whole_right_works : (p_same : Option ValueType → Option ValueType → Bool) → Wholes w m (λ t n later k. by_same later k n (p_same own t))
    whole_right_works p_same t n later k above l in_n declared r s y = works later k n above in_n (p_same own t) declared r s y

  -- a value that nobody uses goes to a new temporary
  module _ (own : Option ValueType) (op : Option ValueType → ℕ → Lowers (Unit {0})) (h : Wholes w m op) where
    unused_ran : (k : ℕ) (s : Regs) (u : Value) (r' s' : Regs) → w.base ≤ k → Wrote w m.effects.assigned (k + 1) k u s r' s' → Ran w m.effects.assigned k s r' s'
    unused_ran k s u r' s' above y = record {
      agree = wrote_temp w m.effects.assigned (k + 1) k u s r' s' above y;
      kept = record {
        regs = λ i l a. y.regs i l (below_other k i (omega (arith, above))) a;
        temps = λ i l b. y.temps i l (omega arith) (below_other k i (omega arith));
      };
    }

    pub unused_works : Effects w m (λ later. fresh own >>= (λ n. op own n later))
    unused_works later k above declared r s y =
        sim_weaker w (Written w m.effects.assigned (k + 1) k s) (Worked w m.effects.assigned k s) (λ u v r' s' z. unused_ran k s u r' s' above z)
        (h own k later (k + 1) (omega (arith, above)) (omega arith) declared.0.register (subst (λ j. Declared w j (op own k later (k + 1)).temps) one_more declared.1) r s y)
      where
        one_more : suc k ≡ k + 1
        one_more = omega arith
