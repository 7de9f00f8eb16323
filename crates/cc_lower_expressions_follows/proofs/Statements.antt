-- The tree of each kind of statement that code has.
use Rattle.std.proofs.Common.{◌≡◌, ℕ, Bool, false, List, [], ◌∷◌, Option, Some, None, refl, ap, sym, ◌∙◌, subst}
use Rattle.std.proofs.Math.Path.{fun_ext}
use Rattle.cc_program.specs.declared.expr.Expr.{Expr, Load, Assign}
use Rattle.cc_program.specs.declared.expr.Place.{Place, Local}
use Rattle.cc_program.specs.declared.stmt.Stmt.{Do}
use Rattle.cc_program.specs.declared.value.Cell.{Cell}
use Rattle.cc_program.specs.declared.value.Value.{Value}
use Rattle.cc_states.specs.CcSyntax.Effects.{Registers, no_one, also}
use Rattle.cc_states.specs.CcSyntax.Values.{PlaceType}
use Rattle.cc_states.specs.CcEval.declared.action.Action.TheVariants.{Read, Write}
use Rattle.cc_states.specs.CcEval.declared.mark.Mark.{Mark}
use Rattle.cc_states.specs.CcEval.declared.spots.Spot.{Spot}
use Rattle.cc_states.specs.CcEval.Context.{Context, is_seen, reached}
use Rattle.cc_states.specs.CcEval.Eval.{Meaning, Designation, meaning, designation, stored, place_and_value, fetched, manner}
use Rattle.cc_states.specs.CcEval.Progress.{Get, known, ask, bind, needs, given}
use Rattle.cc_lower_expressions.specs.Expressions.{set}
use Rattle.cc_lower_expressions_follows.specs.Trees.{Regs, Setting, context_q, register_cell, Other, Runs, Is}
use Rattle.cc_lower_expressions_follows.specs.Relation.{finished, stmt_tree, Gives, Leads}
use Rattle.cc_lower_expressions_follows.proofs.TreeLaws.{bind-assoc, runs_bind}
use Rattle.cc_lower_expressions_follows.proofs.Rules.{set_tree, put_tree, take_tree, write}
use Rattle.cc_lower_expressions_follows.proofs.Assigns.{store}
use Rattle.cc_lower_expressions_follows.proofs.Opened.{at-Load, at-Assign, tree-Do}
use Rattle.cc_lower_expressions_follows.proofs.Values.{its_spot, local_leads}

-- a write whose answer nobody uses
pub finished_store : (c : Cell) (is_event : Bool) (v : Option Value) → finished (store (Some c) is_event v v) ≡ needs v (write c is_event)
finished_store c is_event None = refl
finished_store c is_event (Some x) = fun_ext (at x)
  where
    at : (x : Value) (ms : List Mark) → finished (store (Some c) is_event (Some x) (Some x)) ms ≡ write c is_event x ms
    at x [] = refl
    at x (m ∷ ms) = refl

finished_put : (c : Option Cell) (is_event : Bool) (v : Option Value) → finished (store c is_event v v) ≡ needs c (λ c. needs v (write c is_event))
finished_put None is_event v = refl
finished_put (Some c) is_event v = finished_store c is_event v

module _ (w : Setting) where
  abbrev cq : Context
  cq = context_q w

  -- what is stored in a register
  module _ (n : ℕ) (t : PlaceType) (typed : (designation cq (Local n)).ctype ≡ Some t) (unseen : is_seen (Some t) ≡ false) where
    stored_there : (v : Option Value) → stored cq (designation cq (Local n)) (its_spot cq n) v v ≡ store (Some (register_cell w n)) false v v
    stored_there v =
        ap (λ (u : Option PlaceType). needs (reached w.q u (its_spot cq n)) (λ cell. needs v (λ x. ask (Write cell (is_seen u) x) (λ m. v)))) typed ∙
        ap (λ (b : Bool). store (Some (register_cell w n)) b v v) unseen

    abbrev with_spot : Get (Option Value) → Option Spot → Get (Option Spot × Option Value)
    with_spot e o = bind e (λ v. known (o, v))

    abbrev stored_at : Option Spot × Option Value → Get (Option Value)
    stored_at p = stored cq (designation cq (Local n)) p.0 p.1 p.1

    pub assign_local : (e : Expr) → (meaning cq (Assign (Local n) e)).next no_one ≡ bind ((meaning cq e).next no_one) (λ v. store (Some (register_cell w n)) false v v)
    assign_local e =
        ap (λ (m : Meaning). m.next no_one) (at-Assign cq (Local n) e) ∙
        ap (λ (g : Get (Option Spot)). bind (bind g (with_spot ((meaning cq e).next no_one))) stored_at) (local_leads cq n (also (meaning cq e).effects.assigned no_one)) ∙
        bind-assoc ((meaning cq e).next no_one) (λ v. known (its_spot cq n, v)) stored_at ∙
        ap (bind ((meaning cq e).next no_one)) (fun_ext stored_there)

    pub tree-set : (e : Expr) → stmt_tree w (set n e) ≡ set_tree w ((meaning cq e).next no_one) n
    tree-set e =
        tree-Do w (Assign (Local n) e) ∙
        ap finished (assign_local e) ∙
        bind-assoc ((meaning cq e).next no_one) (λ v. store (Some (register_cell w n)) false v v) (λ v. needs v (λ x. known tt)) ∙
        ap (bind ((meaning cq e).next no_one)) (fun_ext (λ v. finished_store (register_cell w n) false v))

  -- a read in a statement of its own
  read_form : (b : Designation) (n : ℕ) → finished (bind (bind (b.leads no_one) (fetched cq b no_one)) (λ v. store (Some (register_cell w n)) false v v)) ≡
      take_tree w (bind (b.leads no_one) (λ s. known (reached w.q b.ctype s))) (λ c. Read c (manner b no_one)) n
  read_form b n =
      ap finished (bind-assoc (b.leads no_one) (fetched cq b no_one) (λ v. store (Some (register_cell w n)) false v v)) ∙
      bind-assoc (b.leads no_one) (λ s. bind (fetched cq b no_one s) (λ v. store (Some (register_cell w n)) false v v)) (λ v. needs v (λ x. known tt)) ∙
      ap (bind (b.leads no_one)) (fun_ext (λ s. at (reached w.q b.ctype s))) ∙
      sym (bind-assoc (b.leads no_one) (λ s. known (reached w.q b.ctype s)) taking)
    where
      taking : Option Cell → Get (Unit {0})
      taking c = needs c (λ c. bind (ask (Read c (manner b no_one)) given) (λ v. needs v (write (register_cell w n) false)))

      at : (c : Option Cell) → finished (bind (needs c (λ cell. ask (Read cell (manner b no_one)) given)) (λ v. store (Some (register_cell w n)) false v v)) ≡ taking c
      at None = refl
      at (Some c) =
          bind-assoc (ask (Read c (manner b no_one)) given) (λ v. store (Some (register_cell w n)) false v v) (λ v. needs v (λ x. known tt)) ∙
          ap (bind (ask (Read c (manner b no_one)) given)) (fun_ext (λ v. finished_store (register_cell w n) false v))

  pub tree-read : (n : ℕ) (t : PlaceType) → (designation cq (Local n)).ctype ≡ Some t → is_seen (Some t) ≡ false → (b : Place) →
      stmt_tree w (set n (Load b)) ≡ take_tree w (bind ((designation cq b).leads no_one) (λ s. known (reached w.q (designation cq b).ctype s))) (λ c. Read c (manner (designation cq b) no_one)) n
  tree-read n t typed unseen b =
      tree-Do w (Assign (Local n) (Load b)) ∙
      ap finished (assign_local n t typed unseen (Load b)) ∙
      ap (λ (m : Meaning). finished (bind (m.next no_one) (λ v. store (Some (register_cell w n)) false v v))) (at-Load cq b) ∙
      read_form (designation cq b) n

  -- a write to a place
  module _ (b : Designation) (e : Meaning) where
    abbrev pub pair_of : Get (Option Spot × Option Value)
    pair_of = place_and_value b e no_one

    abbrev reached_pair : Option Spot × Option Value → Option Cell × Option Value
    reached_pair p = (reached w.q b.ctype p.0, p.1)

    abbrev pub put_operands : Get (Option Cell × Option Value)
    put_operands = bind pair_of (λ p. known (reached_pair p))

    abbrev putting : Option Cell × Option Value → Get (Unit {0})
    putting v = needs v.0 (λ c. needs v.1 (write c (is_seen b.ctype)))

    put_form : finished (bind pair_of (λ p. stored cq b p.0 p.1 p.1)) ≡ put_tree put_operands (is_seen b.ctype)
    put_form =
        bind-assoc pair_of (λ p. stored cq b p.0 p.1 p.1) (λ v. needs v (λ x. known tt)) ∙
        ap (bind pair_of) (fun_ext (λ p. finished_put (reached w.q b.ctype p.0) (is_seen b.ctype) p.1)) ∙
        sym (bind-assoc pair_of (λ p. known (reached_pair p)) putting)

  pub tree-put : (a : Place) (e : Expr) → stmt_tree w (Do (Assign a e)) ≡ put_tree (put_operands (designation cq a) (meaning cq e)) (is_seen (designation cq a).ctype)
  tree-put a e =
      tree-Do w (Assign a e) ∙
      ap (λ (m : Meaning). finished (m.next no_one)) (at-Assign cq a e) ∙
      put_form (designation cq a) (meaning cq e)

  pub puts_runs : (a : Place) (e : Expr) (o : Option Spot) (v : Option Value) (t : Regs) → (meaning cq e).effects.assigned ≡ no_one → Leads w a o t → Gives w e v t →
      Runs w (reached w.q (designation cq a).ctype o, v) t (put_operands (designation cq a) (meaning cq e)) t
  puts_runs a e o v t pure h g =
      runs_bind (Other w) (λ p. known (reached_pair (designation cq a) (meaning cq e) p))
      (runs_bind (Other w) (λ s. bind ((meaning cq e).next no_one) (λ v. known (s, v)))
      (subst (λ (xs : Registers). Runs w o t ((designation cq a).leads (also xs no_one)) t) (sym pure) h)
      (runs_bind (Other w) (λ v. known (o, v)) g (Is refl)))
      (Is refl)
