-- `place op= value`, as a value and alone, of every place.
use Rattle.std.proofs.Common.{◌≡◌, ◌<◌, ◌≤◌, ℕ, suc, ◌+◌, Bool, true, false, not, List, [], ◌∷◌, ◌++◌, length, Option, Some, None, refl, ap, sym, ◌∙◌, subst, arith, if◌then◌else◌}
use Rattle.std.specs.Prelude.{option_and_then}
use Rattle.std.proofs.lemmas.List.{length-append, append_assoc}
use Rattle.cc_program.specs.CcNum.declared.int_type.IntType.{IntType}
use Rattle.cc_program.specs.CcNum.declared.op.BinOp.{BinOp}
use Rattle.cc_program.specs.declared.program.Program.{Program}
use Rattle.cc_program.specs.declared.func.Func.{Func}
use Rattle.cc_program.specs.declared.types.CType.{CType}
use Rattle.cc_program.specs.declared.stmt.Stmt.{Stmt, Do}
use Rattle.cc_program.specs.declared.expr.Expr.{Expr, Load, Assign}
use Rattle.cc_program.specs.declared.expr.Place.{Place, Local}
use Rattle.cc_program.specs.declared.value.Value.{Value}
use Rattle.cc_states.specs.CcSyntax.Effects.{Registers, no_one, also, only, is_soft, PlaceEffects, Effects as EffectsOf}
use Rattle.cc_states.specs.CcSyntax.Registers.{is_register}
use Rattle.cc_states.specs.CcSyntax.Values.{ValueType, read_from}
use Rattle.cc_states.specs.CcEval.Context.{Context}
use Rattle.cc_states.specs.CcEval.Eval.{Meaning, Designation, meaning, designation, value_type, changed as changed_values, changed_by}
use Rattle.cc_lower_expressions.specs.Expressions.{Piece, piece, onto, joined, into, done, emit, ◌>>=◌, Lowering, PlaceLowering, temp, set, value_of, changed, changed_value, change_alone}
use Rattle.cc_lower_expressions_follows.specs.Trees.{Regs, Setting, context_p, context_q, Sim}
use Rattle.cc_lower_expressions_follows.specs.Relation.{code_tree, Alike, ValueOf, Declared, IsTemp, Agree, Gives}
use Rattle.cc_lower_expressions_follows.specs.Claims.{After, Worked, good, IsOperand, IsLocal, Operands, Effects, IsRight, IsRightPlace}
use Rattle.cc_states.specs.CcEval.Eval.{fetched}
use Rattle.cc_states.specs.CcEval.Progress.{bind}
use Rattle.cc_lower_expressions_follows.proofs.Opened.{at-Local}
use Rattle.cc_lower_expressions_follows.proofs.Answered.{AllAnswers}
use Rattle.cc_lower_expressions_follows.proofs.ChangeOwn.{new_value, change_own_alone, change_own_value}
use Rattle.cc_lower_expressions_follows.proofs.ChangePlaces.{change_alone_there, change_value_there}
use Rattle.cc_lower_expressions_follows.proofs.Loads.{local_value_unassigning, typed_local, soft_read, hard_read, temp_agrees}
use Rattle.cc_lower_expressions_follows.proofs.Operands.{Unassigning, sim_count, declared_left, declared_right}
use Rattle.cc_lower_expressions_follows.proofs.Owned.{Fits}
use Rattle.cc_lower_expressions_follows.specs.Agreement.{TypesAgree}
use Rattle.cc_lower_expressions_follows.proofs.Agreement.{equal_types}

module _ (w : Setting) (alike : Alike w) (o : BinOp) (t : IntType) where
  abbrev cp : Context
  cp = context_p w

  abbrev cq : Context
  cq = context_q w

  abbrev pub change_of : Designation → Option Value → Option Value → Option Value
  change_of d u z = changed_values w.p.target o t (value_type cp d) u z

  -- the expression of the new value gives it, where what was read is of the type of the place
  abbrev pub ChangeLaw : Designation → Meaning → PlaceLowering → Program → Func → (Option ValueType → CType) → (Option ValueType → Option ValueType → Bool) → Type 0
  ChangeLaw d e l p f declares is_same =
      (old b : Expr) → Unassigning w old → Unassigning w b → TypesAgree (meaning cq old).ctype (value_of l) → TypesAgree (meaning cq b).ctype e.ctype →
      Unassigning w (changed p f declares is_same o t (value_of l) old b) ×
      ((u z : Option Value) (s : Regs) → ValueOf w (value_type cp d) u → Gives w old u s → Gives w b z s → Gives w (changed p f declares is_same o t (value_of l) old b) (change_of d u z) s)

  -- and what is written is of the type of the register
  abbrev pub ChangeFits : Designation → Meaning → Type 0
  ChangeFits d e = (i : ℕ) (below : i < w.base) (register : is_register w.from i ≡ true) → d.effects.register ≡ Some i → (type : Option ValueType) (later : Registers) → AllAnswers w.p w.openings (Fits w alike i) (good ((new_value w alike i below register o t e type).next later))

  module _ (d : Designation) (l : PlaceLowering) (right : IsRightPlace w d l) (e : Meaning) (le : Lowering) (righte : IsRight w e le) (m : Meaning)
      (same : m.effects.assigned ≡ also (only d.effects.register) (also d.effects.assigned e.effects.assigned)) (typed : m.ctype ≡ value_of l) (next : (later : Registers) → m.next later ≡ changed_by cp d o t e later)
      (p : Program) (f : Func) (declares : Option ValueType → CType) (is_same : Option ValueType → Option ValueType → Bool) (law : ChangeLaw d e l p f declares is_same)
      (reads : (later : Registers) → AllAnswers w.p w.openings (ValueOf w (value_type cp d)) (bind (d.leads later) (fetched cp d later))) where
    abbrev own : Option ValueType
    own = value_of l

    abbrev new_of : Expr → Expr → Expr
    new_of old b = changed p f declares is_same o t own old b

    abbrev pair : Registers → Registers → ℕ → Piece (Place × Expr)
    pair q later k = joined (λ b v. (b, v)) (l.operands (also q later) k) (le.operand later (k + length (l.operands (also q later) k).temps))

    abbrev old_of : Registers → Option ℕ → Place → ℕ → Piece Expr
    old_of later r b k = (if is_soft r later then done (Load b) else into own (Load b)) k

    abbrev value_at : Registers → ℕ → Option ℕ → Piece (Place × Expr) → Piece Expr
    value_at later k r x =
        onto x (((λ k. old_of later r x.value.0 k) >>= (λ old. done (new_of old x.value.1)) >>= (λ v. into own v >>= (λ n. emit (Do (Assign x.value.0 n)) >>= (λ u. done n)))) (k + length x.temps))

    abbrev alone_at : Registers → ℕ → Option ℕ → Piece (Place × Expr) → Piece (Unit {0})
    alone_at later k r x = onto x (((λ k. old_of later r x.value.0 k) >>= (λ old. done (new_of old x.value.1)) >>= (λ v. emit (Do (Assign x.value.0 v)))) (k + length x.temps))

    -- ---- a place that is no register

    module _ (none : d.effects.register ≡ None) (later : Registers) (k : ℕ) (above : w.base ≤ k) where
      same_none : m.effects.assigned ≡ also d.effects.assigned e.effects.assigned
      same_none = same ∙ ap (λ (r : Option ℕ). also (only r) (also d.effects.assigned e.effects.assigned)) none

      abbrev x : Piece Place
      x = l.operands (also e.effects.assigned later) k

      abbrev y : Piece Expr
      y = le.operand later (k + length x.temps)

      abbrev both : Piece (Place × Expr)
      both = pair e.effects.assigned later k

      counted : (a b : List (Option ValueType)) → k + length (a ++ b) ≡ k + (length a + length b)
      counted a b = ap (λ j. k + j) (length-append a b)

      alone_none : Declared w k (alone_at later k None both).temps → (r s : Regs) → Agree w r s → Sim w (Worked w m.effects.assigned k s) (good (m.next later)) r (code_tree w (alone_at later k None both).stmts) s
      alone_none declared r s i =
          let n = k + length (x.temps ++ y.temps) in
          let front = declared_left w k (x.temps ++ y.temps) (own ∷ []) declared in
          let last = (declared_right w k (x.temps ++ y.temps) (own ∷ []) declared).0 in
          let place = right.operands (also e.effects.assigned later) k above (declared_left w k x.temps y.temps front) in
          let value = righte.operand later (k + length x.temps) (omega (arith, above)) (declared_right w k x.temps y.temps front) in
          let h = law (temp n) y.value (local_value_unassigning w alike n) value.assigned (temp_agrees w alike n own own last refl) value.ctype in
          subst (λ (q : Registers). Sim w (Worked w q k s) (good (m.next later)) r (code_tree w (alone_at later k None both).stmts) s) (sym same_none)
          (subst (λ g. Sim w (Worked w (also d.effects.assigned e.effects.assigned) k s) (good g) r (code_tree w (alone_at later k None both).stmts) s) (sym (next later))
          (change_alone_there w alike d none reads (right.shared none) o t e later k above x y place value n (counted x.temps y.temps) last.register (new_of (temp n) y.value) h.0 h.1 r s i))

      value_none : Declared w k (value_at later k None both).temps → IsOperand w m later k (value_at later k None both)
      value_none declared =
          let n = k + length (x.temps ++ y.temps) in
          let j = n + 1 in
          let front = declared_left w k (x.temps ++ y.temps) (own ∷ own ∷ []) declared in
          let behind = declared_right w k (x.temps ++ y.temps) (own ∷ own ∷ []) declared in
          let last = subst (λ j. IsTemp w j own) one_more behind.1.0 in
          let place = right.operands (also e.effects.assigned later) k above (declared_left w k x.temps y.temps front) in
          let value = righte.operand later (k + length x.temps) (omega (arith, above)) (declared_right w k x.temps y.temps front) in
          let h = law (temp n) y.value (local_value_unassigning w alike n) value.assigned (temp_agrees w alike n own own behind.0 refl) value.ctype in
          record {
            assigned = local_value_unassigning w alike j;
            ctype = temp_agrees w alike j own m.ctype last typed;
            sim = λ r s i.
                subst (λ (q : Registers). Sim w (After w q later k (length (value_at later k None both).temps) (Gives w (temp j)) s) (m.next later) r (code_tree w (value_at later k None both).stmts) s) (sym same_none)
                (subst (λ g. Sim w (After w (also d.effects.assigned e.effects.assigned) later k (length (value_at later k None both).temps) (Gives w (temp j)) s) g r (code_tree w (value_at later k None both).stmts) s) (sym (next later))
                (sim_count w (also d.effects.assigned e.effects.assigned) later k (length x.temps + length y.temps + 2) (length (value_at later k None both).temps) (Gives w (temp j)) s (changed_by cp d o t e later) r (code_tree w (value_at later k None both).stmts) s
                (sym (length-append (x.temps ++ y.temps) (own ∷ own ∷ []) ∙ ap (λ j. j + 2) (length-append x.temps y.temps)))
                (change_value_there w alike d none reads (right.shared none) o t e later k above x y place value n (counted x.temps y.temps) behind.0.register (new_of (temp n) y.value) h.0 h.1 j (ap (λ i. i + 1) (counted x.temps y.temps)) last.register r s i)));
          }
        where
          one_more : {n : ℕ} → suc n ≡ n + 1
          one_more = omega arith

    -- ---- a register

    module _ (i : ℕ) (here : IsLocal w d l i) (some : d.effects.register ≡ Some i) (later : Registers) (k : ℕ) (above : w.base ≤ k)
        (all : (type : Option ValueType) → AllAnswers w.p w.openings (Fits w alike i) (good ((new_value w alike i here.below here.register o t e type).next later))) where
      next_i : m.next later ≡ changed_by cp (designation cp (Local i)) o t e later
      next_i = next later ∙ ap (λ (d : Designation). changed_by cp d o t e later) here.designates

      same_i : m.effects.assigned ≡ also (only (Some i)) e.effects.assigned
      same_i =
          same ∙ ap (λ (r : Option ℕ). also (only r) (also d.effects.assigned e.effects.assigned)) some ∙ ap (λ (d : Designation). also (only (Some i)) (also d.effects.assigned e.effects.assigned)) here.designates ∙
          ap (λ (d : Designation). also (only (Some i)) (also d.effects.assigned e.effects.assigned)) (at-Local cp i)

      again : IsLocal w (designation cp (Local i)) l i
      again = record { below = here.below; register = here.register; designates = refl; itself = here.itself }

      in_q : is_register w.to i ≡ true
      in_q = alike.registers i here.below ∙ here.register

      module _ (y z : Piece Expr) (value : IsOperand w e later k y) (pure : Unassigning w z.value) (is : TypesAgree (meaning cq z.value).ctype own)
          (read : (r s : Regs) → Agree w r s → Sim w (After w no_one later (k + length y.temps) (length z.temps) (Gives w z.value) s) (bind ((designation cp (Local i)).leads later) (fetched cp (designation cp (Local i)) later)) r (code_tree w z.stmts) s) where
        abbrev v : Expr
        v = new_of z.value y.value

        laws : Unassigning w v × ((u a : Option Value) (s : Regs) → ValueOf w (value_type cp d) u → Gives w z.value u s → Gives w y.value a s → Gives w v (change_of d u a) s)
        laws = law z.value y.value pure value.assigned is value.ctype

        gives : (a u : Option Value) (s : Regs) → Gives w y.value a s → Gives w z.value u s → ValueOf w (value_type cp (designation cp (Local i))) u → Gives w v (change_of (designation cp (Local i)) u a) s
        gives a u s g h = subst (λ (d : Designation). ValueOf w (value_type cp d) u → Gives w v (change_of d u a) s) here.designates (λ i. laws.1 u a s i h g)

        reads_i : AllAnswers w.p w.openings (ValueOf w (value_type cp (designation cp (Local i)))) (bind ((designation cp (Local i)).leads later) (fetched cp (designation cp (Local i)) later))
        reads_i = subst (λ (d : Designation). AllAnswers w.p w.openings (ValueOf w (value_type cp d)) (bind (d.leads later) (fetched cp d later))) here.designates (reads later)

        alone_with : (r s : Regs) → Agree w r s → Sim w (Worked w m.effects.assigned k s) (good (m.next later)) r (code_tree w (y.stmts ++ (z.stmts ++ set i v ∷ []))) s
        alone_with r s a =
            subst (λ (q : Registers). Sim w (Worked w q k s) (good (m.next later)) r (code_tree w (y.stmts ++ (z.stmts ++ set i v ∷ []))) s) (sym same_i)
            (subst (λ g. Sim w (Worked w (also (only (Some i)) e.effects.assigned) k s) (good g) r (code_tree w (y.stmts ++ (z.stmts ++ set i v ∷ []))) s) (sym next_i)
            (subst (λ (xs : List Stmt). Sim w (Worked w (also (only (Some i)) e.effects.assigned) k s) (good (changed_by cp (designation cp (Local i)) o t e later)) r (code_tree w xs) s) (append_assoc y.stmts z.stmts (set i v ∷ []))
            (change_own_alone w alike i here.below here.register o t e later k above y z value v laws.0 read reads_i gives (all (meaning cq v).ctype) r s a)))

        module _ (n : ℕ) (is_n : n ≡ k + length (y.temps ++ z.temps)) (in_n : is_register w.to n ≡ true) where
          value_with : (r s : Regs) → Agree w r s →
              Sim w (After w m.effects.assigned later k (length (y.temps ++ z.temps) + 1) (Gives w (temp n)) s) (m.next later) r (code_tree w (y.stmts ++ (z.stmts ++ set n v ∷ set i (temp n) ∷ []))) s
          value_with r s a =
              subst (λ (q : Registers). Sim w (After w q later k (length (y.temps ++ z.temps) + 1) (Gives w (temp n)) s) (m.next later) r (code_tree w (y.stmts ++ (z.stmts ++ set n v ∷ set i (temp n) ∷ []))) s) (sym same_i)
              (subst (λ g. Sim w (After w (also (only (Some i)) e.effects.assigned) later k (length (y.temps ++ z.temps) + 1) (Gives w (temp n)) s) g r (code_tree w (y.stmts ++ (z.stmts ++ set n v ∷ set i (temp n) ∷ []))) s) (sym next_i)
              (subst (λ (xs : List Stmt). Sim w (After w (also (only (Some i)) e.effects.assigned) later k (length (y.temps ++ z.temps) + 1) (Gives w (temp n)) s) (changed_by cp (designation cp (Local i)) o t e later) r (code_tree w xs) s)
              (append_assoc (y.stmts ++ z.stmts) (set n v ∷ []) (set i (temp n) ∷ []) ∙ append_assoc y.stmts z.stmts (set n v ∷ set i (temp n) ∷ []))
              (change_own_value w alike i here.below here.register o t e later k above y z value v laws.0 read reads_i gives (all (meaning cq v).ctype) n is_n in_n r s a)))

      temp_is : TypesAgree (meaning cq (temp i)).ctype own
      temp_is = equal_types (typed_local w alike d later l i here ∙ sym (ap (option_and_then read_from) right.ctype))

      abbrev self_pair : ℕ → Piece (Place × Expr)
      self_pair j = joined (λ b v. (b, v)) (piece [] [] (Local i)) (le.operand later j)

      abbrev alone_by : Bool → ℕ → Piece (Unit {0})
      alone_by b j =
          onto (self_pair j) (((λ k. (if not b then done (Load (Local i)) else into own (Load (Local i))) k) >>= (λ old. done (new_of old (le.operand later j).value)) >>= (λ v. emit (set i v))) (k + length (le.operand later j).temps))

      abbrev IsAlone : Piece (Unit {0}) → Type 0
      IsAlone x = Declared w k x.temps → (r s : Regs) → Agree w r s → Sim w (Worked w m.effects.assigned k s) (good (m.next later)) r (code_tree w x.stmts) s

      alone_some : (b : Bool) → later i ≡ b → IsAlone (alone_by b k)
      alone_some false free declared =
          let y = le.operand later k in
          let value = righte.operand later k above (declared_left w k y.temps [] declared) in
          alone_with y (piece [] [] (temp i)) value (local_value_unassigning w alike i) temp_is (λ r s a. soft_read w alike (designation cp (Local i)) later l i again free r s (k + length y.temps) a)
      alone_some true taken declared =
          let y = le.operand later k in
          let n = k + length y.temps in
          let value = righte.operand later k above (declared_left w k y.temps (own ∷ []) declared) in
          let last = (declared_right w k y.temps (own ∷ []) declared).0 in
          alone_with y (into own (Load (Local i)) n) value (local_value_unassigning w alike n) (temp_agrees w alike n own own last refl)
          (λ r s a. hard_read w alike (designation cp (Local i)) later l i again taken r s n (omega (arith, above)) last.register a)

      abbrev value_by : Bool → ℕ → Piece Expr
      value_by b j =
          onto (self_pair j)
          (((λ k. (if not b then done (Load (Local i)) else into own (Load (Local i))) k) >>= (λ old. done (new_of old (le.operand later j).value)) >>= (λ v. into own v >>= (λ n. emit (Do (Assign (Local i) n)) >>= (λ u. done n))))
          (k + length (le.operand later j).temps))

      abbrev IsFine : Piece Expr → Type 0
      IsFine x = Declared w k x.temps → IsOperand w m later k x

      value_some : (b : Bool) → later i ≡ b → IsFine (value_by b k)
      value_some false free declared =
          let y = le.operand later k in
          let n = k + length y.temps + 0 in
          let value = righte.operand later k above (declared_left w k y.temps (own ∷ []) declared) in
          let last = subst (λ j. IsTemp w j own) (plus_none (k + length y.temps)) (declared_right w k y.temps (own ∷ []) declared).0 in
          let z = piece [] [] (temp i) in
          record {
            assigned = local_value_unassigning w alike n;
            ctype = temp_agrees w alike n own m.ctype last typed;
            sim = λ r s a.
                sim_count w m.effects.assigned later k (length (y.temps ++ []) + 1) (length (y.temps ++ own ∷ [])) (Gives w (temp n)) s (m.next later) r (code_tree w (value_by false k).stmts) s (ap (λ j. j + 1) (length-append y.temps []) ∙ add_none (length y.temps) ∙ sym (length-append y.temps (own ∷ [])))
                (value_with y z value (local_value_unassigning w alike i) temp_is (λ r s a. soft_read w alike (designation cp (Local i)) later l i again free r s (k + length y.temps) a) n
                (reassoc (length y.temps) ∙ ap (λ j. k + j) (sym (length-append y.temps []))) last.register r s a);
          }
        where
          plus_none : (n : ℕ) → n ≡ n + 0
          plus_none n = omega arith

          add_none : (n : ℕ) → n + 0 + 1 ≡ n + 1
          add_none n = omega arith

          reassoc : (n : ℕ) → k + n + 0 ≡ k + (n + 0)
          reassoc n = omega arith
      value_some true taken declared =
          let y = le.operand later k in
          let j = k + length y.temps in
          let n = j + 1 in
          let value = righte.operand later k above (declared_left w k y.temps (own ∷ own ∷ []) declared) in
          let behind = declared_right w k y.temps (own ∷ own ∷ []) declared in
          let last = subst (λ j. IsTemp w j own) one_more behind.1.0 in
          let z = into own (Load (Local i)) j in
          record {
            assigned = local_value_unassigning w alike n;
            ctype = temp_agrees w alike n own m.ctype last typed;
            sim = λ r s a.
                sim_count w m.effects.assigned later k (length (y.temps ++ own ∷ []) + 1) (length (y.temps ++ own ∷ own ∷ [])) (Gives w (temp n)) s (m.next later) r (code_tree w (value_by true k).stmts) s
                (ap (λ j. j + 1) (length-append y.temps (own ∷ [])) ∙ add_one (length y.temps) ∙ sym (length-append y.temps (own ∷ own ∷ [])))
                (value_with y z value (local_value_unassigning w alike j) (temp_agrees w alike j own own behind.0 refl) (λ r s a. hard_read w alike (designation cp (Local i)) later l i again taken r s j (omega (arith, above)) behind.0.register a) n
                (reassoc (length y.temps) ∙ ap (λ j. k + j) (sym (length-append y.temps (own ∷ [])))) last.register r s a);
          }
        where
          one_more : {n : ℕ} → suc n ≡ n + 1
          one_more = omega arith

          add_one : (n : ℕ) → n + 1 + 1 ≡ n + 2
          add_one n = omega arith

          reassoc : (n : ℕ) → k + n + 1 ≡ k + (n + 1)
          reassoc n = omega arith

    -- ---- every place

    module _ (fits : ChangeFits d e) where
      register_is : l.effects.register ≡ d.effects.register
      register_is = ap (λ (e : PlaceEffects). e.register) right.effects

      assigned_is : le.effects.assigned ≡ e.effects.assigned
      assigned_is = ap (λ (e : EffectsOf). e.assigned) righte.effects

      abbrev Fine : Registers → ℕ → Piece Expr → Type 0
      Fine later k x = Declared w k x.temps → IsOperand w m later k x

      abbrev Alone : Registers → ℕ → Piece (Unit {0}) → Type 0
      Alone later k x = Declared w k x.temps → (r s : Regs) → Agree w r s → Sim w (Worked w m.effects.assigned k s) (good (m.next later)) r (code_tree w x.stmts) s

      abbrev pair_from : Registers → ℕ → Piece Place → Piece (Place × Expr)
      pair_from later k x = joined (λ b v. (b, v)) x (le.operand later (k + length x.temps))

      by_value : (later : Registers) (k : ℕ) → w.base ≤ k → (r : Option ℕ) → d.effects.register ≡ r → Fine later k (value_at later k r (pair e.effects.assigned later k))
      by_value later k above None h = value_none h later k above
      by_value later k above (Some i) h =
          let here = right.local i h in
          subst (λ (x : Piece Place). Fine later k (value_at later k (Some i) (pair_from later k x))) (sym (here.itself (also e.effects.assigned later) k))
          (subst (λ j. Fine later k (value_by i here h later k above (λ type. fits i here.below here.register h type later) (later i) j)) (sym plus_zero) (value_some i here h later k above (λ type. fits i here.below here.register h type later) (later i) refl))
        where
          plus_zero : k + 0 ≡ k
          plus_zero = omega arith

      by_alone : (later : Registers) (k : ℕ) → w.base ≤ k → (r : Option ℕ) → d.effects.register ≡ r → Alone later k (alone_at later k r (pair e.effects.assigned later k))
      by_alone later k above None h = alone_none h later k above
      by_alone later k above (Some i) h =
          let here = right.local i h in
          subst (λ (x : Piece Place). Alone later k (alone_at later k (Some i) (pair_from later k x))) (sym (here.itself (also e.effects.assigned later) k))
          (subst (λ j. Alone later k (alone_by i here h later k above (λ type. fits i here.below here.register h type later) (later i) j)) (sym plus_zero) (alone_some i here h later k above (λ type. fits i here.below here.register h type later) (later i) refl))
        where
          plus_zero : k + 0 ≡ k
          plus_zero = omega arith

      pub change_works : Operands w m (changed_value p f declares is_same l o t le) × Effects w m (change_alone p f declares is_same l o t le)
      change_works = (
        (λ later k above.
            subst (λ (q : Registers). Fine later k (value_at later k l.effects.register (pair q later k))) (sym assigned_is)
            (subst (λ (r : Option ℕ). Fine later k (value_at later k r (pair e.effects.assigned later k))) (sym register_is) (by_value later k above d.effects.register refl))),
        (λ later k above.
            subst (λ (q : Registers). Alone later k (alone_at later k l.effects.register (pair q later k))) (sym assigned_is)
            (subst (λ (r : Option ℕ). Alone later k (alone_at later k r (pair e.effects.assigned later k))) (sym register_is) (by_alone later k above d.effects.register refl))),
      )
