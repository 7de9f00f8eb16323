-- Calls, and their arguments from left to right.
use Rattle.std.proofs.Common.{◌≡◌, ◌≤◌, ℕ, ◌+◌, true, false, List, [], ◌∷◌, ◌++◌, length, map, Option, Some, None, refl, ap, sym, ◌∙◌, subst, arith}
use Rattle.std.proofs.Math.Path.{fun_ext}
use Rattle.std.proofs.lemmas.List.{length-append}
use Rattle.cc_program.specs.declared.stmt.Stmt.{Do}
use Rattle.cc_program.specs.declared.expr.Expr.{Expr, Call as Calling, Assign}
use Rattle.cc_program.specs.declared.expr.Place.{Local}
use Rattle.cc_program.specs.declared.value.Address.{Address}
use Rattle.cc_program.specs.declared.value.Value.{Value}
use Rattle.cc_states.specs.CcSyntax.Effects.{Registers, no_one, also, Effects}
use Rattle.cc_states.specs.CcSyntax.Registers.{is_register}
use Rattle.cc_states.specs.CcEval.declared.action.Action.TheVariants.{Call}
use Rattle.cc_states.specs.CcEval.declared.mark.Mark.{Mark}
use Rattle.cc_states.specs.CcEval.declared.mark.Mark.TheVariants.{Gave, Did, Chose}
use Rattle.cc_states.specs.CcEval.Context.{Context}
use Rattle.cc_states.specs.CcEval.Eval.{Meaning, meaning, each, assigned_by, all_good, called}
use Rattle.cc_states.specs.CcEval.Progress.{Get, known, ask, bind, needs, given, no_value}
use Rattle.cc_states.specs.Answers.{IsMarkOf}
use Rattle.cc_states.specs.CcValues.Values.{address_in}
use Rattle.cc_lower_expressions.specs.Expressions.{Piece, piece, Lowering, set, arguments, all_args}
use Rattle.cc_lower_expressions_follows.specs.Trees.{Regs, Setting, context_p, context_q, register_cell, Other, Sim, Done, Runs, Is}
use Rattle.cc_lower_expressions_follows.specs.Relation.{code_tree, stmt_tree, finished, Alike, Declared, Agree, Gives}
use Rattle.cc_lower_expressions_follows.specs.Claims.{After, IsRight}
use Rattle.cc_lower_expressions_follows.proofs.TreeLaws.{bind-assoc, runs_bind}
use Rattle.cc_lower_expressions_follows.proofs.Combined.{sim_two}
use Rattle.cc_lower_expressions_follows.proofs.Frames.{kept_none}
use Rattle.cc_lower_expressions_follows.proofs.Opened.{at-Call, tree-Do}
use Rattle.cc_lower_expressions_follows.proofs.Operands.{declared_left, declared_right, sim_count, Unassigning}
use Rattle.cc_lower_expressions_follows.proofs.Rights.{alone_tree, unit_of}
use Rattle.cc_lower_expressions_follows.proofs.Rules.{take_tree, write}
use Rattle.cc_lower_expressions_follows.proofs.Assigns.{store}
use Rattle.cc_lower_expressions_follows.proofs.Statements.{assign_local, finished_store}

-- a callee and arguments that are not bad
abbrev pub with_arguments : Option (List Value) → Address → Option (Address × List Value)
with_arguments None a = None
with_arguments (Some vs) a = Some (a, vs)

abbrev pub callee_of : Option Address → Option (List Value) → Option (Address × List Value)
callee_of None vs = None
callee_of (Some a) vs = with_arguments vs a

abbrev pub call_step : Address × List Value → Get (Option Value)
call_step c = ask (Call c.0 c.1) given

pub called-form : (a : Option Address) (vs : Option (List Value)) → needs a (λ callee. needs vs (λ good. ask (Call callee good) given)) ≡ needs (callee_of a vs) call_step
called-form None vs = refl
called-form (Some a) None = refl
called-form (Some a) (Some vs) = refl

module _ (w : Setting) (alike : Alike w) where
  abbrev cp : Context
  cp = context_p w

  abbrev cq : Context
  cq = context_q w

  -- ---- arguments

  abbrev pub AllGive : List Expr → List (Option Value) → Regs → Type 0
  AllGive [] [] t = Unit {0}
  AllGive [] (v ∷ vs) t = ⊥
  AllGive (e ∷ es) [] t = ⊥
  AllGive (e ∷ es) (v ∷ vs) t = Gives w e v t × AllGive es vs t

  abbrev pub AllUnassigning : List Expr → Type 0
  AllUnassigning [] = Unit {0}
  AllUnassigning (e ∷ es) = Unassigning w e × AllUnassigning es

  pub record AreArguments (ms : List Meaning) (later : Registers) (k : ℕ) (x : Piece (List Expr)) : Type 0 where
    pub assigned : AllUnassigning x.value
    pub sim : (r s : Regs) → Agree w r s → Sim w (After w (assigned_by ms) later k (length x.temps) (λ vs t. AllGive x.value vs t) s) (each ms later) r (code_tree w x.stmts) s

  abbrev pub AllRight : List Meaning → List Lowering → Type 0
  AllRight [] [] = Unit {0}
  AllRight [] (l ∷ ls) = ⊥
  AllRight (m ∷ ms) [] = ⊥
  AllRight (m ∷ ms) (l ∷ ls) = IsRight w m l × AllRight ms ls

  pub same_assigned : (ms : List Meaning) (ls : List Lowering) → AllRight ms ls → all_args ls ≡ assigned_by ms
  same_assigned [] [] h = refl
  same_assigned [] (l ∷ ls) h = absurd h
  same_assigned (m ∷ ms) [] h = absurd h
  same_assigned (m ∷ ms) (l ∷ ls) h = ap (λ (e : Effects). also e.assigned (all_args ls)) h.0.effects ∙ ap (also m.effects.assigned) (same_assigned ms ls h.1)

  abbrev cons_piece : Piece Expr → Piece (List Expr) → Piece (List Expr)
  cons_piece x y = piece (x.temps ++ y.temps) (x.stmts ++ y.stmts) (x.value ∷ y.value)

  pub args_right : (ms : List Meaning) (ls : List Lowering) → AllRight ms ls → (later : Registers) (k : ℕ) → w.base ≤ k → Declared w k (arguments ls later k).temps → AreArguments ms later k (arguments ls later k)
  args_right [] [] h later k above declared = record {
    assigned = tt;
    sim = λ r s y. Done [] tt refl refl (record { agree = y; kept = kept_none w no_one k s; value = λ t z. tt });
  }
  args_right [] (l ∷ ls) h later k above declared = absurd h
  args_right (m ∷ ms) [] h later k above declared = absurd h
  args_right (m ∷ ms) (l ∷ ls) h later k above declared =
      let x = l.operand (also (all_args ls) later) k in
      let j = k + length x.temps in
      let y = arguments ls later j in
      let a = h.0.operand (also (all_args ls) later) k above (declared_left w k x.temps y.temps declared) in
      let b = args_right ms ls h.1 later j (omega (arith, above)) (declared_right w k x.temps y.temps declared) in
      record {
        assigned = (a.assigned, b.assigned);
        sim = λ r s z.
            sim_count w (also m.effects.assigned (assigned_by ms)) later k (length x.temps + length y.temps) (length (x.temps ++ y.temps)) (λ vs t. AllGive (x.value ∷ y.value) vs t) s (each (m ∷ ms) later) r (code_tree w (x.stmts ++ y.stmts)) s
            (sym (length-append x.temps y.temps))
            (sim_two w (m.next (also (assigned_by ms) later)) (each ms later) (λ v vs. v ∷ vs) m.effects.assigned (assigned_by ms) later k (length x.temps) (length y.temps)
            (Gives w x.value) (λ vs t. AllGive y.value vs t) (λ vs t. AllGive (x.value ∷ y.value) vs t) above (λ v vs t g gs. (g, gs)) x.stmts y.stmts r s
            (subst (λ (q : Registers). Sim w (After w m.effects.assigned (also q later) k (length x.temps) (Gives w x.value) s) (m.next (also q later)) r (code_tree w x.stmts) s) (same_assigned ms ls h.1) (a.sim r s z))
            (λ r' s' z'. b.sim r' s' z'));
      }

  pub none_by : (es : List Expr) → AllUnassigning es → assigned_by (map (meaning cq) es) ≡ no_one
  none_by [] h = refl
  none_by (e ∷ es) h = ap (λ (q : Registers). also q (assigned_by (map (meaning cq) es))) h.0 ∙ ap (also no_one) (none_by es h.1)

  pub runs_each : (es : List Expr) (vs : List (Option Value)) (t : Regs) → AllUnassigning es → AllGive es vs t → Runs w vs t (each (map (meaning cq) es) no_one) t
  runs_each [] [] t h g = Is refl
  runs_each [] (v ∷ vs) t h g = absurd g
  runs_each (e ∷ es) [] t h g = absurd g
  runs_each (e ∷ es) (v ∷ vs) t h g =
      runs_bind (Other w) (λ v. bind (each (map (meaning cq) es) no_one) (λ vs. known (v ∷ vs)))
      (subst (λ (q : Registers). Runs w v t ((meaning cq e).next (also q no_one)) t) (sym (none_by es h.1)) g.0)
      (runs_bind (Other w) (λ vs. known (v ∷ vs)) (runs_each es vs t h.1 g.1) (Is refl))

  -- ---- a call in a statement of its own

  module _ (h : Expr) (xs : List Expr) where
    abbrev pub ready_with : Option Value → Get (Option (Address × List Value))
    ready_with v = bind (each (map (meaning cq) xs) no_one) (λ vs. known (callee_of (address_in v) (all_good vs)))

    abbrev pub ready : Get (Option (Address × List Value))
    ready = bind ((meaning cq h).next (also (assigned_by (map (meaning cq) xs)) no_one)) ready_with

    called_ready : called (meaning cq h) (map (meaning cq) xs) no_one ≡ bind ready (λ c. needs c call_step)
    called_ready =
        ap (bind ((meaning cq h).next (also (assigned_by (map (meaning cq) xs)) no_one))) (fun_ext (λ v.
        ap (bind (each (map (meaning cq) xs) no_one)) (fun_ext (λ vs. called-form (address_in v) (all_good vs))) ∙
        sym (bind-assoc (each (map (meaning cq) xs) no_one) (λ vs. known (callee_of (address_in v) (all_good vs))) (λ c. needs c call_step)))) ∙
        sym (bind-assoc ((meaning cq h).next (also (assigned_by (map (meaning cq) xs)) no_one)) ready_with (λ c. needs c call_step))

    alone_at : (c : Option (Address × List Value)) → finished (needs c call_step) ≡ needs c (λ c. bind (ask (Call c.0 c.1) given) (λ v. needs v unit_of))
    alone_at None = refl
    alone_at (Some c) = refl

    pub tree-call-alone : stmt_tree w (Do (Calling h xs)) ≡ alone_tree ready (λ c. Call c.0 c.1)
    tree-call-alone =
        tree-Do w (Calling h xs) ∙
        ap (λ (m : Meaning). finished (m.next no_one)) (at-Call cq h xs) ∙
        ap finished called_ready ∙
        bind-assoc ready (λ c. needs c call_step) (λ v. needs v unit_of) ∙
        ap (bind ready) (fun_ext alone_at)

    module _ (n : ℕ) where
      abbrev keep : Option Value → Get (Option Value)
      keep v = store (Some (register_cell w n)) false v v

      taking : (c : Option (Address × List Value)) → finished (bind (needs c call_step) keep) ≡ needs c (λ c. bind (call_step c) (λ v. needs v (write (register_cell w n) false)))
      taking None = refl
      taking (Some c) = bind-assoc (call_step c) keep (λ v. needs v (λ x. known tt)) ∙ ap (bind (call_step c)) (fun_ext (λ v. finished_store (register_cell w n) false v))

      pub tree-call : is_register w.to n ≡ true → stmt_tree w (set n (Calling h xs)) ≡ take_tree w ready (λ c. Call c.0 c.1) n
      tree-call in_n =
          let u = alike.unseen n in_n in
          tree-Do w (Assign (Local n) (Calling h xs)) ∙
          ap finished (assign_local w n u.0 u.1 u.2 (Calling h xs)) ∙
          ap (λ (m : Meaning). finished (bind (m.next no_one) keep)) (at-Call cq h xs) ∙
          ap (λ g. finished (bind g keep)) called_ready ∙
          ap finished (bind-assoc ready (λ c. needs c call_step) keep) ∙
          bind-assoc ready (λ c. bind (needs c call_step) keep) (λ v. needs v (λ x. known tt)) ∙
          ap (bind ready) (fun_ext taking)

  -- what a call gives is not bad
  pub sure_call : (c : Address × List Value) (m : Mark) → IsMarkOf w.p w.openings (Call c.0 c.1) m → (x : Value) × (given m ≡ Some x)
  sure_call c (Gave None) h = absurd (cc)
  sure_call c (Gave (Some v)) h = (v, refl)
  sure_call c Did h = (no_value, refl)
  sure_call c (Chose b) h = absurd (cc)
