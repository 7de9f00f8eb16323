-- Each statement begins beside what it becomes, and so do lists.
use Rattle.std.proofs.Common.{arith, ◌≡◌, ◌≤◌, ◌+◌, ℕ, Bool, true, List, [], ◌∷◌, ◌++◌, length, Some, None, refl, ap, sym, ◌∙◌, subst, append_assoc}
use Rattle.cc_states.specs.CcControl.declared.phase.Phase.TheVariants.{First, Test}
use Rattle.cc_program.specs.declared.expr.Expr.{Expr, out-Expr}
use Rattle.cc_program.specs.declared.stmt.Case.{Case}
use Rattle.cc_program.specs.declared.stmt.Stmt.{Stmt, While, Break, Continue, Return, If, out-Stmt}
use Rattle.cc_program.specs.declared.stmt.Stmt.TheVariants.{outs-If, outs-While, outs-Break, outs-Continue, outs-Return}
use Rattle.cc_program.specs.declared.stmt.Stmt.TheOpen as is
use Rattle.cc_program.proofs.Each.{Each}
use Rattle.cc_states.specs.CcSteps.Runs.{begins_at}
use Rattle.cc_meaning_simulations.specs.Continuations.{Remainder, remainder, resume}
use Rattle.cc_meaning_simulations.specs.LocalSimulations.{Approaches, Arrives}
use Rattle.cc_meaning_simulations.specs.LocalSteps.{LocalState, Locals, local_state}
use Rattle.cc_meaning_simulations.specs.Transitions.{ControlState, is_at_boundary, jump_to}
use Rattle.cc_lower_expressions.specs.Expressions.{Piece, piece, Make}
use Rattle.cc_lower_expressions.specs.Statements.{lower, lower_list}
use Rattle.cc_lower_expressions_follows.specs.Trees.{Setting}
use Rattle.cc_lower_expressions_follows.specs.Relation.{Declared}
use Rattle.cc_lower_expressions_follows.specs.WholeLists.{is_one_at, piece_of, IsLoweredRight, AreLowered, NoneLowered, OneLowered, AreAround, IsLast, LastIf, LastReturn, IsNormal, NormalDo, NormalIf, NormalLoop, NormalSwitch, NormalBreak, NormalContinue, NormalReturn, NormalEnd}
use Rattle.cc_lower_expressions_follows.specs.WholeMatches.{AreAlike, AreTogether, MatchIn, AtLoop, AtBreak, AtContinue, AtReturn}
use Rattle.cc_lower_expressions_follows.specs.WholeRegion.{control_in, nowhere}
use Rattle.cc_lower_expressions_follows.proofs.WholeBridge.{IsLowered}
use Rattle.cc_lower_expressions_follows.proofs.WholeEffects.{effect_begins}
use Rattle.cc_lower_expressions_follows.proofs.WholeLists.{AreBegun, declared_left, declared_right, lists_lowered, begins_there, ends, lower_level}
use Rattle.cc_lower_expressions_follows.proofs.WholeOperands.{operand_begins}

module _ (w : Setting) (hidden : ℕ → ℕ → Bool) (lowered : IsLowered w hidden) (Good : Stmt → Type 0) (Match : LocalState → LocalState → Type 0) (matches : (q p : LocalState) → MatchIn w Good q p → Match q p)
    (normal : (s : Stmt) → Good s → IsNormal w Good (out-Stmt s)) where
  abbrev Begun : List Stmt → List Stmt → List Remainder → List Remainder → Type 0
  Begun l l' ps qs = AreBegun w hidden Good Match matches l l' ps qs

  abbrev low : Stmt → ℕ → Piece (Unit {0})
  low s k = lower w.p w.from s k

  -- what a statement becomes, behind a list
  begins_as : (s : Stmt) (k : ℕ) (l l' : List Stmt) (ps qs : List Remainder) (x : Piece (Unit {0})) → low s k ≡ x → Begun (s ∷ l) (x.stmts ++ l') ps qs → Begun (s ∷ l) ((low s k).stmts ++ l') ps qs
  begins_as s k l l' ps qs x e h = subst (λ (y : Piece (Unit {0})). Begun (s ∷ l) (y.stmts ++ l') ps qs) (sym e) h

  -- its code, and a last statement
  begins_behind : (s u : Stmt) (l l' : List Stmt) (ps qs : List Remainder) (code : List Stmt) → Begun (s ∷ l) (code ++ u ∷ l') ps qs → Begun (s ∷ l) ((code ++ u ∷ []) ++ l') ps qs
  begins_behind s u l l' ps qs code h = subst (λ (m : List Stmt). Begun (s ∷ l) m ps qs) (sym (append_assoc code (u ∷ []) l')) h

  module _ (s : Stmt) (k : ℕ) (l l' : List Stmt) (ps qs : List Remainder) (above : w.base ≤ k) (declared : Declared w k (low s k).temps) (good_one : Good s) (together : AreTogether w Good l l' ps qs) (next : Begun l l' ps qs) where
    abbrev Goal : Type 0
    Goal = Begun (s ∷ l) ((low s k).stmts ++ l') ps qs

    -- ---- an `if` with an `else`

    module _ (e : Expr) (a : List Stmt) (b : Stmt) (bs : List Stmt) (d : out-Stmt s ≡ is.If e a (b ∷ bs)) (right : IsLoweredRight w e) (good_a : Each Good a) (good_b : Each Good (b ∷ bs)) where
      abbrev operand : Piece Expr
      operand = piece_of w e k

      abbrev k_a : ℕ
      k_a = k + length operand.temps

      abbrev these : Piece (Unit {0})
      these = lower_list w.p w.from a k_a

      abbrev k_b : ℕ
      k_b = k_a + length these.temps

      abbrev those : Piece (Unit {0})
      those = lower_list w.p w.from (b ∷ bs) k_b

      abbrev test : Stmt
      test = If operand.value these.stmts those.stmts

      abbrev made : Piece (Unit {0})
      made = piece (operand.temps ++ (these.temps ++ those.temps)) (operand.stmts ++ test ∷ []) tt

      is_made : low s k ≡ made
      is_made = ap (λ (m : Make (Unit {0})). m k) (lower_level w s (is.If e a (b ∷ bs)) d)

      all_declared : Declared w k made.temps
      all_declared = subst (λ (x : Piece (Unit {0})). Declared w k x.temps) is_made declared

      arms_declared : Declared w k_a (these.temps ++ those.temps)
      arms_declared = declared_right w k operand.temps (these.temps ++ those.temps) all_declared

      last_if : IsLast w Good (out-Stmt s) e operand.value (out-Stmt test)
      last_if =
          subst (λ (x : is.Stmt-F Stmt Case). IsLast w Good x e operand.value (out-Stmt test)) (sym d)
          (subst (λ (x : is.Stmt-F Stmt Case). IsLast w Good (is.If e a (b ∷ bs)) e operand.value x) (sym (outs-If operand.value these.stmts those.stmts))
          (LastIf e operand.value a (b ∷ bs) these.stmts those.stmts
          (lists_lowered w Good a k_a (omega (arith, above)) (declared_left w k_a these.temps those.temps arms_declared) good_a)
          (lists_lowered w Good (b ∷ bs) k_b (omega (arith, above)) (declared_right w k_a these.temps those.temps arms_declared) good_b)))

      begins_if : Goal
      begins_if =
          begins_as s k l l' ps qs made is_made
          (begins_behind s test l l' ps qs operand.stmts
          (operand_begins w hidden lowered Good Match matches s test e operand.value l l' ps qs last_if right together k above (declared_left w k operand.temps (these.temps ++ those.temps) all_declared) refl))

    -- ---- `return`

    module _ (e : Expr) (d : out-Stmt s ≡ is.Return (Some e)) (right : IsLoweredRight w e) where
      abbrev given : Piece Expr
      given = piece_of w e k

      abbrev back : Stmt
      back = Return (Some given.value)

      abbrev returned : Piece (Unit {0})
      returned = piece (given.temps ++ []) (given.stmts ++ back ∷ []) tt

      is_returned : low s k ≡ returned
      is_returned = ap (λ (m : Make (Unit {0})). m k) (lower_level w s (is.Return (Some e)) d)

      last_return : IsLast w Good (out-Stmt s) e given.value (out-Stmt back)
      last_return =
          subst (λ (x : is.Stmt-F Stmt Case). IsLast w Good x e given.value (out-Stmt back)) (sym d)
          (subst (λ (x : is.Stmt-F Stmt Case). IsLast w Good (is.Return (Some e)) e given.value x) (sym (outs-Return (Some given.value))) (LastReturn e given.value))

      begins_return : Goal
      begins_return =
          begins_as s k l l' ps qs returned is_returned
          (begins_behind s back l l' ps qs given.stmts
          (operand_begins w hidden lowered Good Match matches s back e given.value l l' ps qs last_return right together k above
          (declared_left w k given.temps [] (subst (λ (x : Piece (Unit {0})). Declared w k x.temps) is_returned declared)) refl))

    -- ---- statements without a full expression

    -- both stand where they begin
    stand : (x y : is.Stmt-F Stmt Case) (u : Stmt) → jump_to w.p (nowhere w) (resume (s ∷ l) ps) ≡ control_in w (remainder (s ∷ l) First) ps [] → jump_to w.q (nowhere w) (resume (u ∷ l') qs) ≡ control_in w (remainder (u ∷ l') First) qs [] → begins_at (out-Stmt u) First ≡ true →
        ((pl ql : Locals) → AreAlike w pl ql → MatchIn w Good (local_state (control_in w (remainder (u ∷ l') First) qs []) ql) (local_state (control_in w (remainder (s ∷ l) First) ps []) pl)) → Begun (s ∷ l) (u ∷ l') ps qs
    stand x y u i j b met = record {
      starts = λ openings opened late pl ql typed alike.
          subst (λ (c : ControlState). Approaches hidden w.q w.p Match late (local_state (jump_to w.q (nowhere w) (resume (u ∷ l') qs)) ql) (local_state c pl)) (sym i)
          (subst (λ (c : ControlState). Approaches hidden w.q w.p Match late (local_state c ql) (local_state (control_in w (remainder (s ∷ l) First) ps []) pl)) (sym j)
          (Arrives late _ _ (matches _ _ (met pl ql alike)) (λ h at. b)));
      boundary = ap is_at_boundary j ∙ b;
    }

    begins_break : out-Stmt s ≡ is.Break → Goal
    begins_break d =
        begins_as s k l l' ps qs (piece [] (Break ∷ []) tt) (ap (λ (m : Make (Unit {0})). m k) (lower_level w s is.Break d))
        (stand is.Break is.Break Break (begins_there w w.p s l ps is.Break d refl refl) (begins_there w w.q Break l' qs is.Break outs-Break refl refl) (ap (λ (x : is.Stmt-F Stmt Case). begins_at x First) outs-Break)
        (λ pl ql alike. AtBreak s Break l l' ps qs pl ql d outs-Break together.around alike))

    begins_continue : out-Stmt s ≡ is.Continue → Goal
    begins_continue d =
        begins_as s k l l' ps qs (piece [] (Continue ∷ []) tt) (ap (λ (m : Make (Unit {0})). m k) (lower_level w s is.Continue d))
        (stand is.Continue is.Continue Continue (begins_there w w.p s l ps is.Continue d refl refl) (begins_there w w.q Continue l' qs is.Continue outs-Continue refl refl) (ap (λ (x : is.Stmt-F Stmt Case). begins_at x First) outs-Continue)
        (λ pl ql alike. AtContinue s Continue l l' ps qs pl ql d outs-Continue together.around alike))

    begins_end : out-Stmt s ≡ is.Return None → Goal
    begins_end d =
        begins_as s k l l' ps qs (piece [] (Return None ∷ []) tt) (ap (λ (m : Make (Unit {0})). m k) (lower_level w s (is.Return None) d))
        (stand (is.Return None) (is.Return None) (Return None) (begins_there w w.p s l ps (is.Return None) d refl refl) (begins_there w w.q (Return None) l' qs (is.Return None) (outs-Return None) refl refl)
        (ap (λ (x : is.Stmt-F Stmt Case). begins_at x First) (outs-Return None)) (λ pl ql alike. AtReturn s (Return None) l l' ps qs pl ql d (outs-Return None)))

    -- ---- `while (1)`

    module _ (e : Expr) (body : List Stmt) (d : out-Stmt s ≡ is.While e body) (one : is_one_at (out-Expr e) ≡ true) (good_body : Each Good body) where
      abbrev inside : Piece (Unit {0})
      inside = lower_list w.p w.from body k

      abbrev loop : Stmt
      loop = While e inside.stmts

      is_loop : low s k ≡ piece inside.temps (loop ∷ []) tt
      is_loop = ap (λ (m : Make (Unit {0})). m k) (lower_level w s (is.While e body) d)

      loop_out : out-Stmt loop ≡ is.While e inside.stmts
      loop_out = outs-While e inside.stmts

      bodies : AreLowered w Good body inside.stmts
      bodies = lists_lowered w Good body k above (subst (λ (x : Piece (Unit {0})). Declared w k x.temps) is_loop declared) good_body

      p_there : jump_to w.p (nowhere w) (resume (s ∷ l) ps) ≡ control_in w (remainder (s ∷ l) Test) ps []
      p_there = begins_there w w.p s l ps (is.While e body) d refl refl

      q_there : jump_to w.q (nowhere w) (resume (loop ∷ l') qs) ≡ control_in w (remainder (loop ∷ l') Test) qs []
      q_there = begins_there w w.q loop l' qs (is.While e inside.stmts) loop_out refl refl

      begins_loop : Goal
      begins_loop = begins_as s k l l' ps qs (piece inside.temps (loop ∷ []) tt) is_loop
          (record {
            starts = λ openings opened late pl ql typed alike.
                subst (λ (c : ControlState). Approaches hidden w.q w.p Match late (local_state (jump_to w.q (nowhere w) (resume (loop ∷ l') qs)) ql) (local_state c pl)) (sym p_there)
                (subst (λ (c : ControlState). Approaches hidden w.q w.p Match late (local_state c ql) (local_state (control_in w (remainder (s ∷ l) Test) ps []) pl)) (sym q_there)
                (Arrives late _ _ (matches _ _ (AtLoop s loop e body inside.stmts l l' ps qs pl ql d loop_out one bodies together alike)) (λ h b. ap (λ (x : is.Stmt-F Stmt Case). begins_at x Test) loop_out)));
            boundary = ap is_at_boundary q_there ∙ ap (λ (x : is.Stmt-F Stmt Case). begins_at x Test) loop_out;
          })

  -- an `if` without `else`, and a `switch`
  abbrev pub BeginsOtherwise : is.Stmt-F Stmt Case → Type 0
  BeginsOtherwise x = (s : Stmt) (k : ℕ) (l l' : List Stmt) (ps qs : List Remainder) → out-Stmt s ≡ x → w.base ≤ k → Declared w k (low s k).temps → Good s → AreTogether w Good l l' ps qs → Begun l l' ps qs → Begun (s ∷ l) ((low s k).stmts ++ l') ps qs

  module _ (guarded : (e : Expr) (a : List Stmt) → IsLoweredRight w e → Each Good a → BeginsOtherwise (is.If e a [])) (switched : (e : Expr) (cases : List Case) → IsLoweredRight w e → Each (λ c. Each Good c.body) cases → BeginsOtherwise (is.Switch e cases)) where
    begins_normal : (s : Stmt) (k : ℕ) (l l' : List Stmt) (ps qs : List Remainder) → w.base ≤ k → Declared w k (low s k).temps → Good s → AreTogether w Good l l' ps qs → Begun l l' ps qs → (x : is.Stmt-F Stmt Case) → out-Stmt s ≡ x → IsNormal w Good x → Begun (s ∷ l) ((low s k).stmts ++ l') ps qs
    begins_normal s k l l' ps qs above declared good_one together next _ d (NormalDo e right) = effect_begins w hidden lowered Good Match matches s e l l' ps qs d right together next k above declared
    begins_normal s k l l' ps qs above declared good_one together next _ d (NormalIf e a [] right good_a good_b) = guarded e a right good_a s k l l' ps qs d above declared good_one together next
    begins_normal s k l l' ps qs above declared good_one together next _ d (NormalIf e a (b ∷ bs) right good_a good_b) = begins_if s k l l' ps qs above declared good_one together next e a b bs d right good_a good_b
    begins_normal s k l l' ps qs above declared good_one together next _ d (NormalLoop e body one good_body) = begins_loop s k l l' ps qs above declared good_one together next e body d one good_body
    begins_normal s k l l' ps qs above declared good_one together next _ d (NormalSwitch e cases right good_cases) = switched e cases right good_cases s k l l' ps qs d above declared good_one together next
    begins_normal s k l l' ps qs above declared good_one together next _ d NormalBreak = begins_break s k l l' ps qs above declared good_one together next d
    begins_normal s k l l' ps qs above declared good_one together next _ d NormalContinue = begins_continue s k l l' ps qs above declared good_one together next d
    begins_normal s k l l' ps qs above declared good_one together next _ d (NormalReturn e right) = begins_return s k l l' ps qs above declared good_one together next e d right
    begins_normal s k l l' ps qs above declared good_one together next _ d NormalEnd = begins_end s k l l' ps qs above declared good_one together next d

    pub lists_begin : (l l' : List Stmt) (ps qs : List Remainder) → AreLowered w Good l l' → AreAround w Good ps qs → Begun [] [] ps qs → Begun l l' ps qs
    lists_begin _ _ ps qs NoneLowered around end = end
    lists_begin _ _ ps qs (OneLowered s k l l' above declared good_one rest) around end =
        begins_normal s k l l' ps qs above declared good_one (record { lists = rest; around = around }) (lists_begin l l' ps qs rest around end) (out-Stmt s) refl (normal s good_one)

    -- wherever p goes on with a list
    pub begins : (l l' : List Stmt) (ps qs : List Remainder) → AreTogether w Good l l' ps qs → Begun l l' ps qs
    begins l l' ps qs h = lists_begin l l' ps qs h.lists h.around (ends w hidden Good Match matches lists_begin ps qs h.around)
