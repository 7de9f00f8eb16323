-- Reads of places, by the three ways to lower them.
use Rattle.std.proofs.Common.{◌≡◌, ◌≤◌, ℕ, ◌+◌, Bool, true, false, not, List, [], ◌∷◌, ◌++◌, length, Option, Some, None, refl, ap, sym, ◌∙◌, subst, arith, if◌then◌else◌}
use Rattle.std.specs.Prelude.{option_and_then}
use Rattle.std.proofs.lemmas.List.{length-append}
use Rattle.cc_program.specs.declared.stmt.Stmt.{Stmt}
use Rattle.cc_program.specs.declared.expr.Expr.{Expr, Load}
use Rattle.cc_program.specs.declared.expr.Place.{Place, Local}
use Rattle.cc_program.specs.declared.value.Cell.{Cell}
use Rattle.cc_program.specs.declared.value.Value.{Value}
use Rattle.cc_states.specs.CcSyntax.Effects.{Registers, no_one, is_soft, PlaceEffects}
use Rattle.cc_states.specs.CcSyntax.Registers.{is_register}
use Rattle.cc_states.specs.CcSyntax.Values.{ValueType, read_from}
use Rattle.cc_states.specs.CcEval.declared.action.Action.TheVariants.{Read}
use Rattle.cc_states.specs.CcEval.declared.action.Manner.{Manner}
use Rattle.cc_states.specs.CcEval.declared.mark.Mark.{Mark}
use Rattle.cc_states.specs.CcEval.declared.mark.Mark.TheVariants.{Gave, Did, Chose}
use Rattle.cc_states.specs.CcEval.declared.spots.Spot.{Spot}
use Rattle.cc_states.specs.CcEval.Context.{Context, is_seen, reached}
use Rattle.cc_states.specs.CcEval.Eval.{Meaning, Designation, meaning, designation, fetched, manner}
use Rattle.cc_states.specs.CcEval.Progress.{Get, Known, known, bind, given, no_value}
use Rattle.cc_states.specs.Answers.{IsMarkOf}
use Rattle.cc_lower_expressions.specs.Expressions.{Piece, piece, onto, done, PlaceLowering, temp, set, into, read, value_of}
use Rattle.cc_lower_expressions_follows.specs.Trees.{Regs, Setting, context_p, context_q, register_cell, Sim, Runs, Is}
use Rattle.cc_lower_expressions_follows.specs.Relation.{code_tree, stmt_tree, Alike, Declared, IsTemp, Agree, Gives, Leads}
use Rattle.cc_lower_expressions_follows.specs.Claims.{IsApart, After, IsOperand, IsPlace, Operands, IsLocal, IsRightPlace, Written, good}
use Rattle.cc_lower_expressions_follows.proofs.TreeLaws.{runs_bind}
use Rattle.cc_lower_expressions_follows.specs.Trees.{Other}
use Rattle.cc_lower_expressions_follows.proofs.Rights.{whole_taken}
use Rattle.cc_lower_expressions_follows.proofs.Fetched.{fetch, of_register, sim_soft, sim_hard, sim_taken}
use Rattle.cc_lower_expressions_follows.proofs.Opened.{at-Load, at-Local}
use Rattle.cc_lower_expressions_follows.proofs.Operands.{declared_left, declared_right, sim_count, Unassigning}
use Rattle.cc_lower_expressions_follows.proofs.Reached.{same_one, same_reached}
use Rattle.cc_lower_expressions_follows.proofs.Rules.{take_tree}
use Rattle.cc_lower_expressions_follows.proofs.Statements.{tree-set, tree-read}
use Rattle.cc_lower_expressions_follows.proofs.Values.{local_next, gives_local}
use Rattle.cc_lower_expressions_follows.specs.Agreement.{TypesAgree}
use Rattle.cc_lower_expressions_follows.proofs.Agreement.{equal_types, types_between, seen_agrees, reached_agrees}
use Rattle.cc_states.specs.Typed.{HasType, cell_type}
use Rattle.cc_lower_expressions_follows.proofs.Answered.{AllAnswers, answer_of}
use Rattle.cc_lower_expressions_follows.proofs.Apart.{Led-apart, led_apart}

module _ (w : Setting) where
  -- what a step that gives no bad value has given
  pub sure_read : (at : Cell) (k : Manner) (m : Mark) → k.may_be_bad ≡ false → IsMarkOf w.p w.openings (Read at k) m → (x : Value) × (given m ≡ Some x)
  sure_read at k (Gave None) e h = absurd (cc)
  sure_read at k (Gave (Some v)) e h = (v, refl)
  sure_read at k Did e h = (no_value, refl)
  sure_read at k (Chose b) e h = absurd (cc)

module _ (w : Setting) (alike : Alike w) where
  abbrev cp : Context
  cp = context_p w

  abbrev cq : Context
  cq = context_q w

  -- ---- temporaries

  pub temp_gives : (n : ℕ) → is_register w.to n ≡ true → (v : Option Value) (t : Regs) → t n ≡ v → Gives w (temp n) v t
  temp_gives n register v t e = let u = alike.unseen n register in subst (λ v. Gives w (temp n) v t) e (gives_local w n u.0 t register u.1 u.2)

  pub temp_unassigning : (a : Place) → (designation cq a).effects.assigned ≡ no_one → Unassigning w (Load a)
  temp_unassigning a e = ap (λ (m : Meaning). m.effects.assigned) (at-Load cq a) ∙ e

  pub load_type : (a : Place) → (meaning cq (Load a)).ctype ≡ option_and_then read_from (designation cq a).ctype
  load_type a = ap (λ (m : Meaning). m.ctype) (at-Load cq a) ∙ same_one (designation cq a).ctype

  -- a temporary, as an operand
  pub temp_agrees : (n : ℕ) (t u : Option ValueType) → IsTemp w n t → u ≡ t → TypesAgree (meaning cq (temp n)).ctype u
  temp_agrees n t u h e = types_between (load_type (Local n)) h.ctype (sym e)

  local_unassigning : (i : ℕ) → (designation cq (Local i)).effects.assigned ≡ no_one
  local_unassigning i = ap (λ (a : Designation). a.effects.assigned) (at-Local cq i)

  pub local_value_unassigning : (i : ℕ) → Unassigning w (temp i)
  local_value_unassigning i = temp_unassigning (Local i) (local_unassigning i)

  -- ---- the three ways

  module _ (d : Designation) (later : Registers) where
    abbrev the_read : Get (Option Value)
    the_read = bind (d.leads later) (fetched cp d later)

    -- a register of p
    module _ (l : PlaceLowering) (i : ℕ) (here : IsLocal w d l i) where
      read_local : the_read ≡ fetch (Some (register_cell w i)) (of_register (not (later i)))
      read_local =
          let e = alike.registers i here.below ∙ here.register in
          let u = alike.unseen i e in
          ap (λ (d : Designation). bind (d.leads later) (fetched cp d later)) here.designates ∙
          sym (ap (λ (m : Meaning). m.next later) (at-Load cp (Local i))) ∙
          local_next cp i here.register u.0 (sym (alike.places i here.below) ∙ u.1) u.2 later

      -- a value of the register's type is what the read may give
      pub register_typed : (T : Option Value → Type 0) → AllAnswers w.p w.openings T the_read → (x : Value) → (t : ValueType) × (cell_type w.p (register_cell w i) ≡ Some t) × HasType w.p w.openings t x → T (Some x)
      register_typed T all x h =
          answer_of w.p w.openings T (Read (register_cell w i) (of_register (not (later i)))) (Gave (Some x)) h (subst (λ (g : Get (Option Value)). AllAnswers w.p w.openings T g) read_local all)

      pub typed_local : (meaning cq (temp i)).ctype ≡ option_and_then read_from d.ctype
      typed_local = load_type (Local i) ∙ ap (option_and_then read_from) (alike.places i here.below ∙ ap (λ (d : Designation). d.ctype) (sym here.designates))

      pub soft_read : later i ≡ false → (r s : Regs) (k : ℕ) → Agree w r s → Sim w (After w no_one later k 0 (Gives w (temp i)) s) the_read r (code_tree w []) s
      soft_read free r s k y =
          let e = alike.registers i here.below ∙ here.register in
          subst (λ g. Sim w (After w no_one later k 0 (Gives w (temp i)) s) g r (code_tree w []) s) (sym (read_local ∙ ap (λ (b : Bool). fetch (Some (register_cell w i)) (of_register (not b))) free))
          (sim_soft w i later k (Gives w (temp i)) here.below here.register (temp_gives i e) free r s y)

      pub hard_read : later i ≡ true → (r s : Regs) (k : ℕ) → w.base ≤ k → is_register w.to k ≡ true → Agree w r s →
          Sim w (After w no_one later k 1 (Gives w (temp k)) s) the_read r (code_tree w (set k (Load (Local i)) ∷ [])) s
      hard_read taken r s k above in_k y =
          let e = alike.registers i here.below ∙ here.register in
          let u = alike.unseen k in_k in
          subst (λ g. Sim w (After w no_one later k 1 (Gives w (temp k)) s) g r (code_tree w (set k (Load (Local i)) ∷ [])) s) (sym (read_local ∙ ap (λ (b : Bool). fetch (Some (register_cell w i)) (of_register (not b))) taken))
          (sim_hard w i later k (Gives w (temp k)) here.below here.register (set k (Load (Local i))) ((meaning cq (Load (Local i))).next no_one) (tree-set w k u.0 u.1 u.2 (Load (Local i))) in_k above
          (λ t. temp_gives i e (t i) t refl) (temp_gives k in_k) r s y)

    -- a place that is no register
    module _ (x : Piece Place) (k : ℕ) (above : w.base ≤ k) (place : IsPlace w d later k x) (none : d.effects.register ≡ None) (shared : AllAnswers w.p w.openings (IsApart w d) (d.leads later))
        (n : ℕ) (in_n : is_register w.to n ≡ true) where
      abbrev b : Designation
      b = designation cq x.value

      same_manner : manner b no_one ≡ manner d later
      same_manner =
          ap (λ (e : Bool). record { is_event = e; may_be_bad = is_soft b.effects.register no_one }) (seen_agrees b.ctype d.ctype place.ctype) ∙
          ap (λ (r : Option ℕ). record { is_event = is_seen d.ctype; may_be_bad = is_soft r no_one }) (place.register ∙ none) ∙
          ap (λ (r : Option ℕ). record { is_event = is_seen d.ctype; may_be_bad = is_soft r later }) (sym none)

      never_bad : (manner d later).may_be_bad ≡ false
      never_bad = ap (λ (r : Option ℕ). is_soft r later) none

      takes : stmt_tree w (set n (Load x.value)) ≡ take_tree w (bind (b.leads no_one) (λ s. known (reached w.q b.ctype s))) (λ c. Read c (manner d later)) n
      takes =
          let u = alike.unseen n in_n in
          tree-read w n u.0 u.1 u.2 x.value ∙ ap (λ (m : Manner). take_tree w (bind (b.leads no_one) (λ s. known (reached w.q b.ctype s))) (λ c. Read c m) n) same_manner

      pub leads_reached : (o : Option Spot) (t : Regs) → Leads w x.value o t → Runs w (reached w.p d.ctype o) t (bind (b.leads no_one) (λ s. known (reached w.q b.ctype s))) t
      leads_reached o t h = runs_bind (Other w) (λ s. known (reached w.q b.ctype s)) h (Is (ap (λ c ms. Known c ms) (reached_agrees w.q b.ctype d.ctype place.ctype o ∙ same_reached w alike d.ctype o)))

      pub place_read : n ≡ k + length x.temps → (r s : Regs) → Agree w r s → Sim w (After w d.effects.assigned later k (length x.temps + 1) (Gives w (temp n)) s) the_read r (code_tree w (x.stmts ++ set n (Load x.value) ∷ [])) s
      place_read is_n r s y =
          sim_taken w (d.leads later) (reached w.p d.ctype) (λ c. Read c (manner d later)) d.effects.assigned later k (length x.temps) (Led-apart w d x.value) (Gives w (temp n)) above n is_n in_n
          (λ c m h. sure_read w c (manner d later) m never_bad h) x.stmts (set n (Load x.value)) (bind (b.leads no_one) (λ s. known (reached w.q b.ctype s))) takes (λ o t h. leads_reached o t h.0) (λ o t h c e. h.1 c e) (temp_gives n in_n) r s (led_apart w d later k x shared place r s y)

      -- as a whole right side
      pub place_whole : (r s : Regs) → Agree w r s → Sim w (Written w d.effects.assigned k n s) (good the_read) r (code_tree w (x.stmts ++ set n (Load x.value) ∷ [])) s
      place_whole r s y =
          whole_taken w (d.leads later) (reached w.p d.ctype) (λ c. Read c (manner d later)) (λ c m h. sure_read w c (manner d later) m never_bad h) d.effects.assigned later k (length x.temps) (Led-apart w d x.value)
          x.stmts (set n (Load x.value)) (bind (b.leads no_one) (λ s. known (reached w.q b.ctype s))) (λ o t h. leads_reached o t h.0) (λ o t h c e. h.1 c e) n in_n takes r s (led_apart w d later k x shared place r s y)

  -- ---- all three

  module _ (d : Designation) (l : PlaceLowering) (right : IsRightPlace w d l) (m : Meaning) (same : m.effects.assigned ≡ d.effects.assigned) (typed : m.ctype ≡ option_and_then read_from d.ctype)
      (next : (later : Registers) → m.next later ≡ bind (d.leads later) (fetched cp d later)) where
    pub register_is : l.effects.register ≡ d.effects.register
    register_is = ap (λ (e : PlaceEffects). e.register) right.effects

    value_is : value_of l ≡ m.ctype
    value_is = ap (option_and_then read_from) right.ctype ∙ sym typed

    temp_typed : (n : ℕ) → IsTemp w n (value_of l) → TypesAgree (meaning cq (temp n)).ctype m.ctype
    temp_typed n h = types_between (load_type (Local n)) h.ctype value_is

    carried : (later : Registers) (k n : ℕ) (e : Expr) (xs : List Stmt) (aa : Registers) (r s : Regs) → m.effects.assigned ≡ aa →
        Sim w (After w aa later k n (Gives w e) s) (bind (d.leads later) (fetched cp d later)) r (code_tree w xs) s → Sim w (After w m.effects.assigned later k n (Gives w e) s) (m.next later) r (code_tree w xs) s
    carried later k n e xs aa r s f h =
        subst (λ (q : Registers). Sim w (After w q later k n (Gives w e) s) (m.next later) r (code_tree w xs) s) (sym f)
        (subst (λ g. Sim w (After w aa later k n (Gives w e) s) g r (code_tree w xs) s) (sym (next later)) h)

    pub read_in_place : (later : Registers) (k : ℕ) → w.base ≤ k → d.effects.register ≡ None → Declared w k (onto (l.operands later k) (into (value_of l) (Load (l.operands later k).value) (k + length (l.operands later k).temps))).temps →
        IsOperand w m later k (onto (l.operands later k) (into (value_of l) (Load (l.operands later k).value) (k + length (l.operands later k).temps)))
    read_in_place later k above none declared =
        let x = l.operands later k in
        let n = k + length x.temps in
        let place = right.operands later k above (declared_left w k x.temps (value_of l ∷ []) declared) in
        let last = (declared_right w k x.temps (value_of l ∷ []) declared).0 in
        record {
          assigned = local_value_unassigning n;
          ctype = temp_typed n last;
          sim = λ r s y.
              carried later k (length (x.temps ++ value_of l ∷ [])) (temp n) (x.stmts ++ set n (Load x.value) ∷ []) d.effects.assigned r s same
              (sim_count w d.effects.assigned later k (length x.temps + 1) (length (x.temps ++ value_of l ∷ [])) (Gives w (temp n)) s (bind (d.leads later) (fetched cp d later)) r (code_tree w (x.stmts ++ set n (Load x.value) ∷ [])) s
              (sym (length-append x.temps (value_of l ∷ []))) (place_read d later x k above place none (right.shared none later) n last.register refl r s y));
        }

    none_of_local : (i : ℕ) (here : IsLocal w d l i) → m.effects.assigned ≡ no_one
    none_of_local i here = same ∙ ap (λ (d : Designation). d.effects.assigned) here.designates ∙ ap (λ (a : Designation). a.effects.assigned) (at-Local cp i)

    read_soft : (later : Registers) (k i : ℕ) (here : IsLocal w d l i) → later i ≡ false → IsOperand w m later k (piece [] [] (temp i))
    read_soft later k i here free = record {
      assigned = local_value_unassigning i;
      ctype = equal_types (typed_local d later l i here ∙ sym typed);
      sim = λ r s y. carried later k 0 (temp i) [] no_one r s (none_of_local i here) (soft_read d later l i here free r s k y);
    }

    read_hard : (later : Registers) (k i : ℕ) (here : IsLocal w d l i) → w.base ≤ k → later i ≡ true → IsTemp w k (value_of l) → IsOperand w m later k (into (value_of l) (Load (Local i)) k)
    read_hard later k i here above taken last = record {
      assigned = local_value_unassigning k;
      ctype = temp_typed k last;
      sim = λ r s y. carried later k 1 (temp k) (set k (Load (Local i)) ∷ []) no_one r s (none_of_local i here) (hard_read d later l i here taken r s k above last.register y);
    }

    abbrev read_as : Registers → ℕ → Option ℕ → Piece Place → Piece Expr
    read_as later k o x = onto x ((if is_soft o later then done (Load x.value) else into (value_of l) (Load x.value)) (k + length x.temps))

    read_none : (later : Registers) (k : ℕ) → d.effects.register ≡ None → read l later k ≡ read_as later k None (l.operands later k)
    read_none later k none = ap (λ (o : Option ℕ). read_as later k o (l.operands later k)) (register_is ∙ none)

    read_some : (later : Registers) (k i : ℕ) (here : IsLocal w d l i) → d.effects.register ≡ Some i → read l later k ≡ read_as later k (Some i) (piece [] [] (Local i))
    read_some later k i here some =
        ap (λ (o : Option ℕ). read_as later k o (l.operands later k)) (register_is ∙ some) ∙ ap (read_as later k (Some i)) (here.itself later k)

    abbrev IsFine : Registers → ℕ → Piece Expr → Type 0
    IsFine later k x = Declared w k x.temps → IsOperand w m later k x

    by_later : (later : Registers) (k i : ℕ) (here : IsLocal w d l i) → w.base ≤ k → (b : Bool) → later i ≡ b →
        IsFine later k (onto (piece [] [] (Local i)) ((if not b then done (Load (Local i)) else into (value_of l) (Load (Local i))) (k + 0)))
    by_later later k i here above false e declared = read_soft later k i here e
    by_later later k i here above true e declared =
        subst (λ j. IsOperand w m later k (into (value_of l) (Load (Local i)) j)) (sym plus_zero) (read_hard later k i here above e declared.0)
      where
        plus_zero : k + 0 ≡ k
        plus_zero = omega arith

    by_register : (later : Registers) (k : ℕ) → w.base ≤ k → (o : Option ℕ) → d.effects.register ≡ o → IsFine later k (read l later k)
    by_register later k above None e = subst (IsFine later k) (sym (read_none later k e)) (read_in_place later k above e)
    by_register later k above (Some i) e =
        let here = right.local i e in
        subst (IsFine later k) (sym (read_some later k i here e)) (by_later later k i here above (later i) refl)

    pub operand_read : Operands w m (read l)
    operand_read later k above = by_register later k above d.effects.register refl
