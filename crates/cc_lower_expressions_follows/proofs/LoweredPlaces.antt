-- Lowered places, by their kinds.
use Rattle.std.proofs.Common.{◌≡◌, ◌≤◌, ℕ, ◌+◌, [], ◌++◌, length, Option, refl, ap, sym, ◌∙◌, subst}
use Rattle.std.specs.Prelude.{option_map}
use Rattle.std.proofs.lemmas.List.{length-append}
use Rattle.cc_program.specs.declared.expr.Expr.{Expr}
use Rattle.cc_program.specs.declared.expr.Expr.TheOpen as one
use Rattle.cc_program.specs.declared.expr.Place.{Place, Element, Member, Deref}
use Rattle.cc_program.specs.declared.value.Value.{Value}
use Rattle.cc_states.specs.CcSyntax.Effects.{Registers, no_one, also}
use Rattle.cc_states.specs.CcSyntax.Expressions as typing
use Rattle.cc_states.specs.CcSyntax.Expressions.{of_two}
use Rattle.cc_states.specs.CcSyntax.Views.{View, of_program}
use Rattle.cc_states.specs.CcEval.declared.spots.Spot.{Spot}
use Rattle.cc_states.specs.CcEval.declared.spots.Spot.TheVariants as spot
use Rattle.cc_states.specs.CcEval.Context.{Context, member}
use Rattle.cc_states.specs.CcEval.Eval.{Designation, meaning, designation, place_and_value, element_at}
use Rattle.cc_states.specs.CcEval.Progress.{known, bind}
use Rattle.cc_states.specs.CcValues.Values.{address_in}
use Rattle.cc_lower_expressions.specs.Expressions.{Piece, piece, mapped, joined}
use Rattle.cc_lower_expressions_follows.specs.Trees.{Regs, Setting, context_p, context_q, Other, Sim, Done, Runs, Is}
use Rattle.cc_lower_expressions_follows.specs.Relation.{code_tree, Alike, Gives, Leads}
use Rattle.cc_lower_expressions_follows.specs.Claims.{After, IsOperand, IsPlace}
use Rattle.cc_lower_expressions_follows.proofs.Combined.{sim_one}
use Rattle.cc_lower_expressions_follows.proofs.Frames.{kept_none}
use Rattle.cc_lower_expressions_follows.proofs.Opened.{at_place_level, at-Element, at-Member, at-Deref}
use Rattle.cc_lower_expressions_follows.proofs.Operands.{sim_count}
use Rattle.cc_lower_expressions_follows.proofs.Pure.{PurePlace, none_of}
use Rattle.cc_lower_expressions_follows.proofs.PurePlaces.{same_element_at, same_member_at}
use Rattle.cc_lower_expressions_follows.proofs.Puts.{sim_pair}
use Rattle.cc_lower_expressions_follows.proofs.TreeLaws.{bind-known, runs_bind, sim_left}
use Rattle.cc_lower_expressions_follows.proofs.Values.{runs_one}
use Rattle.cc_lower_expressions_follows.proofs.Agreement.{equal_places, places_between, element_places, member_places, deref_places, element_at_agrees, member_agrees}

module _ (w : Setting) (alike : Alike w) where
  abbrev cp : Context
  cp = context_p w

  abbrev cq : Context
  cq = context_q w

  -- a named object or a device
  pub place_itself : (d : Designation) (a : Place) (later : Registers) (k : ℕ) → PurePlace w d (designation cq a) later → IsPlace w d later k (piece [] [] a)
  place_itself d a later k h = record {
    assigned = h.none_q;
    register = h.register;
    ctype = equal_places h.ctype;
    sim = λ r s y.
        let x = h.runs r in
        subst (λ g. Sim w (After w d.effects.assigned later k 0 (Leads w a) s) g r (code_tree w []) s) (bind-known (d.leads later))
        (sim_left w (After w d.effects.assigned later k 0 (Leads w a) s) known x.left
        (Done x.answer tt refl refl (record { agree = y; kept = kept_none w d.effects.assigned k s; value = λ t z. x.right t (λ i l f. y.same i l ∙ z.regs i l f) })));
  }

  -- an element
  pub place_element : (a : Place) (i : Expr) (later : Registers) (k : ℕ) → w.base ≤ k → (x : Piece Place) (y : Piece Expr) → IsPlace w (designation cp a) (also (meaning cp i).effects.assigned later) k x →
      IsOperand w (meaning cp i) later (k + length x.temps) y → IsPlace w (at_place_level cp (one.Element a i)) later k (joined Element x y)
  place_element a i later k above x y h j = record {
    assigned = ap (λ (d : Designation). d.effects.assigned) (at-Element cq x.value y.value) ∙ none_of w (designation cq x.value).effects.assigned (meaning cq y.value).effects.assigned h.assigned j.assigned;
    register = ap (λ (d : Designation). d.effects.register) (at-Element cq x.value y.value);
    ctype =
        places_between (ap (λ (d : Designation). d.ctype) (at-Element cq x.value y.value))
        (element_places (of_program w.q) w.to.locals (designation cq x.value).ctype (designation cp a).ctype (meaning cq y.value).ctype (meaning cp i).ctype h.ctype j.ctype)
        (ap (λ (v : View). typing.place_step v w.to.locals (one.Element (designation cp a).ctype (meaning cp i).ctype)) alike.view);
    sim = λ r s z.
        sim_count w (also (designation cp a).effects.assigned (meaning cp i).effects.assigned) later k (length x.temps + length y.temps) (length (x.temps ++ y.temps)) (Leads w (Element x.value y.value)) s
        ((at_place_level cp (one.Element a i)).leads later) r (code_tree w (x.stmts ++ y.stmts)) s (sym (length-append x.temps y.temps))
        (sim_one w (place_and_value (designation cp a) (meaning cp i) later) (λ p. element_at cp (designation cp a).ctype p.0 p.1) (also (designation cp a).effects.assigned (meaning cp i).effects.assigned) later k
        (length x.temps + length y.temps) (λ p t. Leads w x.value p.0 t × Gives w y.value p.1 t) (Leads w (Element x.value y.value)) leads (x.stmts ++ y.stmts) r s
        (sim_pair w alike (designation cp a) (meaning cp i) later k above x y h j r s z));
  }
    where
      same_at : (p : Option Spot × Option Value) → element_at cq (designation cq x.value).ctype p.0 p.1 ≡ element_at cp (designation cp a).ctype p.0 p.1
      same_at p = element_at_agrees cq (designation cq x.value).ctype (designation cp a).ctype h.ctype p.0 p.1 ∙ sym (same_element_at w alike (designation cp a).ctype p.0 p.1)

      leads : (p : Option Spot × Option Value) (t : Regs) → Leads w x.value p.0 t × Gives w y.value p.1 t → Leads w (Element x.value y.value) (element_at cp (designation cp a).ctype p.0 p.1) t
      leads p t g =
          subst (λ (o : Option Spot). Leads w (Element x.value y.value) o t) (same_at p)
          (subst (λ (d : Designation). Runs w (element_at cq (designation cq x.value).ctype p.0 p.1) t (d.leads no_one) t) (sym (at-Element cq x.value y.value))
          (runs_bind (Other w) (λ p. known (element_at cq (designation cq x.value).ctype p.0 p.1))
          (runs_bind (Other w) (λ s. bind ((meaning cq y.value).next no_one) (λ v. known (s, v)))
          (subst (λ (q : Registers). Runs w p.0 t ((designation cq x.value).leads (also q no_one)) t) (sym j.assigned) g.0)
          (runs_bind (Other w) (λ v. known (p.0, v)) g.1 (Is refl)))
          (Is refl)))

  -- a member
  pub place_member : (a : Place) (m : ℕ) (later : Registers) (k : ℕ) (x : Piece Place) → IsPlace w (designation cp a) later k x → IsPlace w (at_place_level cp (one.Member a m)) later k (mapped (λ b. Member b m) x)
  place_member a m later k x h = record {
    assigned = ap (λ (d : Designation). d.effects.assigned) (at-Member cq x.value m) ∙ h.assigned;
    register = ap (λ (d : Designation). d.effects.register) (at-Member cq x.value m);
    ctype = equal_places (ap (λ (d : Designation). d.ctype) (at-Member cq x.value m) ∙
        member_places (of_program w.q) w.to.locals m (designation cq x.value).ctype (designation cp a).ctype h.ctype ∙ ap (λ (v : View). typing.place_step v w.to.locals (one.Member (designation cp a).ctype m)) alike.view);
    sim = λ r s z.
        sim_one w ((designation cp a).leads later) (λ s. of_two (designation cp a).ctype s (member w.p m)) (designation cp a).effects.assigned later k (length x.temps) (Leads w x.value) (Leads w (Member x.value m)) leads x.stmts r s (h.sim r s z);
  }
    where
      leads : (o : Option Spot) (t : Regs) → Leads w x.value o t → Leads w (Member x.value m) (of_two (designation cp a).ctype o (member w.p m)) t
      leads o t g =
          subst (λ (u : Option Spot). Leads w (Member x.value m) u t) (member_agrees w.q m (designation cq x.value).ctype (designation cp a).ctype h.ctype o ∙ sym (same_member_at w alike m (designation cp a).ctype o))
          (subst (λ (d : Designation). Runs w (of_two (designation cq x.value).ctype o (member w.q m)) t (d.leads no_one) t) (sym (at-Member cq x.value m))
          (runs_bind (Other w) (λ s. known (of_two (designation cq x.value).ctype s (member w.q m))) g (Is refl)))

  -- what a pointer points to
  pub place_deref : (e : Expr) (later : Registers) (k : ℕ) (x : Piece Expr) → IsOperand w (meaning cp e) later k x → IsPlace w (at_place_level cp (one.Deref e)) later k (mapped Deref x)
  place_deref e later k x h = record {
    assigned = ap (λ (d : Designation). d.effects.assigned) (at-Deref cq x.value) ∙ h.assigned;
    register = ap (λ (d : Designation). d.effects.register) (at-Deref cq x.value);
    ctype =
        places_between (ap (λ (d : Designation). d.ctype) (at-Deref cq x.value)) (deref_places (of_program w.q) w.to.locals (meaning cq x.value).ctype (meaning cp e).ctype h.ctype)
        (ap (λ (v : View). typing.place_step v w.to.locals (one.Deref (meaning cp e).ctype)) alike.view);
    sim = λ r s z.
        sim_one w ((meaning cp e).next later) (λ v. option_map spot.Address (address_in v)) (meaning cp e).effects.assigned later k (length x.temps) (Gives w x.value) (Leads w (Deref x.value)) leads x.stmts r s (h.sim r s z);
  }
    where
      leads : (v : Option Value) (t : Regs) → Gives w x.value v t → Leads w (Deref x.value) (option_map spot.Address (address_in v)) t
      leads v t g =
          subst (λ (d : Designation). Runs w (option_map spot.Address (address_in v)) t (d.leads no_one) t) (sym (at-Deref cq x.value)) (runs_one w (λ v. option_map spot.Address (address_in v)) x.value v t g)
