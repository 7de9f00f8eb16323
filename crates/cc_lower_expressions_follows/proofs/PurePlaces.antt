-- Pure expressions that read or name places, and the induction.
use Rattle.std.proofs.Common.{◌≡◌, ◌<◌, ℕ, ℤ, Bool, true, false, not, ◌&&◌, [], Option, Some, None, refl, ap, sym, ◌∙◌, subst, if◌then◌else◌}
use Rattle.std.proofs.Math.Path.{fun_ext}
use Rattle.std.specs.Prelude.{option_map, option_and_then}
use Rattle.cc_program.specs.declared.expr.Expr.{Expr, Load}
use Rattle.cc_program.specs.declared.expr.Expr.TheOpen as one
use Rattle.cc_program.specs.declared.expr.Place.{Place, Local}
use Rattle.cc_program.specs.declared.value.Value.{Value}
use Rattle.cc_program.specs.declared.value.Root.TheVariants as root
use Rattle.cc_states.specs.CcSyntax.Effects.{Registers, no_one, also, is_soft}
use Rattle.cc_states.specs.CcSyntax.Expressions as typing
use Rattle.cc_states.specs.CcSyntax.Expressions.{of_one, of_two}
use Rattle.cc_states.specs.CcSyntax.Registers.{is_register}
use Rattle.cc_states.specs.CcSyntax.Values.{ValueType, PlaceType, read_from}
use Rattle.cc_states.specs.CcSyntax.Views.{View, of_program}
use Rattle.cc_states.specs.CcEval.declared.action.Action.TheVariants.{Read}
use Rattle.cc_states.specs.CcEval.declared.mark.Mark.TheVariants.{Gave}
use Rattle.cc_states.specs.CcEval.declared.spots.Spot.{Spot}
use Rattle.cc_states.specs.CcEval.declared.spots.Spot.TheVariants as spot
use Rattle.cc_states.specs.CcEval.Context.{Context, member}
use Rattle.cc_states.specs.CcEval.Eval.{Meaning, Designation, meaning, designation, choice, place_and_value, element_at, address_of}
use Rattle.cc_states.specs.CcEval.Progress.{known, bind}
use Rattle.cc_states.specs.CcValues.Values.{integer, address_in}
use Rattle.cc_lower_expressions_follows.specs.Trees.{Setting, context_p, context_q, register_cell, Runs, Is, Steps, Reads}
use Rattle.cc_lower_expressions_follows.specs.Relation.{Alike}
use Rattle.cc_lower_expressions_follows.specs.Old.{is_old, is_old_place}
use Rattle.cc_lower_expressions_follows.proofs.Fetched.{fetch, of_register, own_read}
use Rattle.cc_lower_expressions_follows.proofs.Opened.{at_level, at_place_level, at-Load, at-Local}
use Rattle.cc_lower_expressions_follows.proofs.Pure.{Quiet, PureExpr, PurePlace, quiet_known, quiet_then, quiet_choice, quiet_one, before, none_of, both_pure}
use Rattle.cc_lower_expressions_follows.proofs.PureLevels.{same_type_at}
use Rattle.cc_lower_expressions_follows.proofs.Reached.{same_element, same_member}
use Rattle.cc_lower_expressions_follows.proofs.Values.{local_next}

both_true : (a b : Bool) → (a && b) ≡ true → (a ≡ true) × (b ≡ true)
both_true true b h = (refl, h)
both_true false b h = absurd (cc)

module _ (w : Setting) (alike : Alike w) where
  abbrev cp : Context
  cp = context_p w

  abbrev cq : Context
  cq = context_q w

  -- a register, where no later operand assigns it
  quiet_register : (i : ℕ) → i < w.base → is_register w.from i ≡ true → (later : Registers) → later i ≡ false → Quiet w later (fetch (Some (register_cell w i)) (of_register true)) (fetch (Some (register_cell w i)) (of_register true))
  quiet_register i below register later free r =
      record {
        answer = r i;
        left = Steps r (Read (register_cell w i) (of_register true)) (Gave (r i)) refl (own_read w r i true register tt) (Is refl);
        right = λ t o. subst (λ (v : Option Value). Runs w v t (fetch (Some (register_cell w i)) (of_register true)) t) (sym (o i below free))
            (Steps t (Read (register_cell w i) (of_register true)) (Gave (t i)) refl (Reads i (of_register true) refl (alike.registers i below ∙ register) refl tt refl refl) (Is refl));
      }

  pure_register : (i : ℕ) → i < w.base → is_register w.from i ≡ true → (later : Registers) → later i ≡ false → PureExpr w (meaning cp (Load (Local i))) (meaning cq (Load (Local i))) later
  pure_register i below register later free =
      let in_q = alike.registers i below ∙ register in
      let u = alike.unseen i in_q in
      let tp = sym (alike.places i below) ∙ u.1 in
      record {
        none_p = ap (λ (m : Meaning). m.effects.assigned) (at-Load cp (Local i)) ∙ ap (λ (d : Designation). d.effects.assigned) (at-Local cp i);
        none_q = ap (λ (m : Meaning). m.effects.assigned) (at-Load cq (Local i)) ∙ ap (λ (d : Designation). d.effects.assigned) (at-Local cq i);
        pure_q = ap (λ (m : Meaning). m.effects.pure no_one) (at-Load cq (Local i)) ∙ ap (λ (d : Designation). is_soft d.effects.register no_one) (at-Local cq i) ∙ ap (λ (b : Bool). is_soft (if b then Some i else None) no_one) in_q;
        ctype = ap (λ (m : Meaning). m.ctype) (at-Load cq (Local i)) ∙ ap (λ (t : Option PlaceType). of_one t read_from) (alike.places i below) ∙ sym (ap (λ (m : Meaning). m.ctype) (at-Load cp (Local i)));
        runs = subst (λ g. Quiet w later g ((meaning cq (Load (Local i))).next no_one)) (sym (local_next cp i register u.0 tp u.2 later ∙ ap (λ (b : Bool). fetch (Some (register_cell w i)) (of_register (not b))) free))
            (subst (λ g. Quiet w later (fetch (Some (register_cell w i)) (of_register true)) g) (sym (local_next cq i in_q u.0 u.1 u.2 no_one)) (quiet_register i below register later free));
      }

  -- ---- places

  pub record PlaceFacts (a : Place) : Type 0 where
    pub local : (i : ℕ) → (designation cp a).effects.register ≡ Some i → (a ≡ Local i) × (i < w.base) × (is_register w.from i ≡ true)
    pub pure : (later : Registers) → (designation cp a).effects.pure later ≡ true → PurePlace w (designation cp a) (designation cq a) later

  abbrev pub At : Expr → Type 0
  At e = is_old w.base e ≡ true → (later : Registers) → (meaning cp e).effects.pure later ≡ true → PureExpr w (meaning cp e) (meaning cq e) later

  abbrev pub PlaceAt : Place → Type 0
  PlaceAt a = is_old_place w.base a ≡ true → PlaceFacts a

  pub pure_load : (a : Place) → PlaceFacts a → (later : Registers) → (at_level cp (one.Load a)).effects.pure later ≡ true → PureExpr w (at_level cp (one.Load a)) (at_level cq (one.Load a)) later
  pure_load a h later pure = by_register (designation cp a).effects.register refl
    where
      free_of : (b : Bool) → not b ≡ true → b ≡ false
      free_of true e = absurd (cc)
      free_of false e = refl

      by_register : (o : Option ℕ) → (designation cp a).effects.register ≡ o → PureExpr w (at_level cp (one.Load a)) (at_level cq (one.Load a)) later
      by_register None e = let k : false ≡ true = sym (ap (λ (o : Option ℕ). is_soft o later) e) ∙ pure in absurd (cc)
      by_register (Some i) e =
          let k = h.local i e in
          let free = free_of (later i) (sym (ap (λ (o : Option ℕ). is_soft o later) e) ∙ pure) in
          subst (λ (a : Place). PureExpr w (at_level cp (one.Load a)) (at_level cq (one.Load a)) later) (sym k.0)
          (subst (λ (m : Meaning). PureExpr w m (at_level cq (one.Load (Local i))) later) (at-Load cp (Local i))
          (subst (λ (m : Meaning). PureExpr w (meaning cp (Load (Local i))) m later) (at-Load cq (Local i)) (pure_register i k.1 k.2 later free)))

  pub pure_address : (a : Place) → PlaceFacts a → (later : Registers) → (at_level cp (one.AddrOf a)).effects.pure later ≡ true → PureExpr w (at_level cp (one.AddrOf a)) (at_level cq (one.AddrOf a)) later
  pure_address a h later pure =
      let x = h.pure later pure in
      record {
        none_p = x.none_p;
        none_q = x.none_q;
        pure_q = x.pure_q;
        ctype = ap (λ (z : Option PlaceType). typing.expr_step (of_program w.q) w.to.locals (one.AddrOf z)) x.ctype ∙ same_type_at w alike (one.AddrOf (designation cp a).ctype);
        runs = quiet_then w later ((designation cp a).leads later) ((designation cq a).leads no_one) (λ s. known (address_of s)) (λ s. known (address_of s)) x.runs (λ s. quiet_known w later (address_of s));
      }

  -- `?:`
  pub pure_choose : (c a b : Expr) → ((later : Registers) → (meaning cp c).effects.pure later ≡ true → PureExpr w (meaning cp c) (meaning cq c) later) →
      ((later : Registers) → (meaning cp a).effects.pure later ≡ true → PureExpr w (meaning cp a) (meaning cq a) later) →
      ((later : Registers) → (meaning cp b).effects.pure later ≡ true → PureExpr w (meaning cp b) (meaning cq b) later) →
      (later : Registers) → (at_level cp (one.Choose c a b)).effects.pure later ≡ true → PureExpr w (at_level cp (one.Choose c a b)) (at_level cq (one.Choose c a b)) later
  pure_choose c a b hc ha hb later pure =
      let p = both_true ((meaning cp c).effects.pure later) ((meaning cp a).effects.pure later && (meaning cp b).effects.pure later) pure in
      let p' = both_true ((meaning cp a).effects.pure later) ((meaning cp b).effects.pure later) p.1 in
      let x = hc later p.0 in
      let y = ha later p'.0 in
      let z = hb later p'.1 in
      let pq = both_pure w ((meaning cq c).effects.pure no_one) ((meaning cq a).effects.pure no_one && (meaning cq b).effects.pure no_one) x.pure_q (both_pure w ((meaning cq a).effects.pure no_one) ((meaning cq b).effects.pure no_one) y.pure_q z.pure_q) in
      let arms_p = none_of w (meaning cp a).effects.assigned (meaning cp b).effects.assigned y.none_p z.none_p in
      let arms_q = none_of w (meaning cq a).effects.assigned (meaning cq b).effects.assigned y.none_q z.none_q in
      let c_p = (meaning cp c).next (also (meaning cp a).effects.assigned (also (meaning cp b).effects.assigned later)) in
      let c_q = (meaning cq c).next (also (meaning cq a).effects.assigned (also (meaning cq b).effects.assigned no_one)) in
      let a_p = (meaning cp a).next (also (meaning cp b).effects.assigned later) in
      let a_q = (meaning cq a).next (also (meaning cq b).effects.assigned no_one) in
      let b_p = (meaning cp b).next later in
      let b_q = (meaning cq b).next no_one in
      let type_at = λ (u v t : Option ValueType). typing.expr_step (of_program w.q) w.to.locals (one.Choose u v t) in
      record {
        none_p = none_of w (meaning cp c).effects.assigned (also (meaning cp a).effects.assigned (meaning cp b).effects.assigned) x.none_p arms_p;
        none_q = none_of w (meaning cq c).effects.assigned (also (meaning cq a).effects.assigned (meaning cq b).effects.assigned) x.none_q arms_q;
        pure_q = pq;
        ctype = ap (λ (u : Option ValueType). type_at u (meaning cq a).ctype (meaning cq b).ctype) x.ctype ∙ ap (λ (v : Option ValueType). type_at (meaning cp c).ctype v (meaning cq b).ctype) y.ctype ∙
            ap (type_at (meaning cp c).ctype (meaning cp a).ctype) z.ctype ∙ same_type_at w alike (one.Choose (meaning cp c).ctype (meaning cp a).ctype (meaning cp b).ctype);
        runs = subst (λ (z : Bool). Quiet w later (choice z c_p a_p b_p) (choice ((meaning cq c).effects.pure no_one && ((meaning cq a).effects.pure no_one && (meaning cq b).effects.pure no_one)) c_q a_q b_q)) (sym pure)
            (subst (λ (z : Bool). Quiet w later (choice true c_p a_p b_p) (choice z c_q a_q b_q)) (sym pq)
            (quiet_choice w later c_p c_q a_p a_q b_p b_q
            (subst (λ (q : Registers). Quiet w later ((meaning cp c).next (also q (also (meaning cp b).effects.assigned later))) c_q) (sym y.none_p)
            (subst (λ (q : Registers). Quiet w later ((meaning cp c).next (also (meaning cp b).effects.assigned later)) ((meaning cq c).next (also q (also (meaning cq b).effects.assigned no_one)))) (sym y.none_q)
            (before w later (meaning cp c).next (meaning cq c).next (meaning cp b).effects.assigned (meaning cq b).effects.assigned z.none_p z.none_q x.runs)))
            (before w later (meaning cp a).next (meaning cq a).next (meaning cp b).effects.assigned (meaning cq b).effects.assigned z.none_p z.none_q y.runs)
            z.runs));
      }

  -- ---- the kinds of places

  abbrev FactsAt : one.Place-F Expr Place → Type 0
  FactsAt x = (later : Registers) → (at_place_level cp x).effects.pure later ≡ true → PurePlace w (at_place_level cp x) (at_place_level cq x) later

  quiet_spot : (later : Registers) (s : Spot) → Quiet w later (known (Some s)) (known (Some s))
  quiet_spot later s = quiet_known w later (Some s)

  pub pure_local : (r : ℕ) → r < w.base → FactsAt (one.Local r)
  pure_local r below later pure = record {
    none_p = refl;
    none_q = refl;
    pure_q = refl;
    register = ap (λ (b : Bool). if b then Some r else None) (alike.registers r below);
    ctype = sym (ap (λ (d : Designation). d.ctype) (at-Local cq r)) ∙ alike.places r below ∙ ap (λ (d : Designation). d.ctype) (at-Local cp r);
    runs = quiet_spot later (spot.Object (root.Auto w.number w.id r) []);
  }

  pub pure_static : (i : ℕ) → FactsAt (one.Static i)
  pure_static i later pure = record {
    none_p = refl;
    none_q = refl;
    pure_q = refl;
    register = refl;
    ctype = ap (λ (v : View). typing.place_step v w.to.locals (one.Static i)) alike.view;
    runs = quiet_spot later (spot.Object (root.Static i) []);
  }

  pub pure_device : (d : ℕ) → FactsAt (one.Device d)
  pure_device d later pure = record {
    none_p = refl;
    none_q = refl;
    pure_q = refl;
    register = refl;
    ctype = ap (λ (v : View). typing.place_step v w.to.locals (one.Device d)) alike.view;
    runs = quiet_spot later (spot.Device d);
  }

  pub same_element_at : (t : Option PlaceType) (s : Option Spot) (v : Option Value) → element_at cp t s v ≡ element_at cq t s v
  same_element_at None s v = refl
  same_element_at (Some t) None v = refl
  same_element_at (Some t) (Some s) v = ap (λ (f : ℤ → Option Spot). option_and_then f (integer v)) (fun_ext (λ n. sym (same_element w alike n t s)))

  pub pure_element : (a : Place) (i : Expr) → PlaceFacts a → ((later : Registers) → (meaning cp i).effects.pure later ≡ true → PureExpr w (meaning cp i) (meaning cq i) later) → FactsAt (one.Element a i)
  pure_element a i h k later pure =
      let p = both_true ((designation cp a).effects.pure later) ((meaning cp i).effects.pure later) pure in
      let x = h.pure later p.0 in
      let y = k later p.1 in
      record {
        none_p = none_of w (designation cp a).effects.assigned (meaning cp i).effects.assigned x.none_p y.none_p;
        none_q = none_of w (designation cq a).effects.assigned (meaning cq i).effects.assigned x.none_q y.none_q;
        pure_q = both_pure w ((designation cq a).effects.pure no_one) ((meaning cq i).effects.pure no_one) x.pure_q y.pure_q;
        register = refl;
        ctype = ap (λ (z : Option PlaceType). typing.place_step (of_program w.q) w.to.locals (one.Element z (meaning cq i).ctype)) x.ctype ∙
            ap (λ (z : Option ValueType). typing.place_step (of_program w.q) w.to.locals (one.Element (designation cp a).ctype z)) y.ctype ∙
            ap (λ (v : View). typing.place_step v w.to.locals (one.Element (designation cp a).ctype (meaning cp i).ctype)) alike.view;
        runs = quiet_then w later (place_and_value (designation cp a) (meaning cp i) later) (place_and_value (designation cq a) (meaning cq i) no_one)
            (λ p. known (element_at cp (designation cp a).ctype p.0 p.1)) (λ p. known (element_at cq (designation cq a).ctype p.0 p.1))
            (quiet_then w later ((designation cp a).leads (also (meaning cp i).effects.assigned later)) ((designation cq a).leads (also (meaning cq i).effects.assigned no_one))
            (λ s. bind ((meaning cp i).next later) (λ v. known (s, v))) (λ s. bind ((meaning cq i).next no_one) (λ v. known (s, v)))
            (before w later (designation cp a).leads (designation cq a).leads (meaning cp i).effects.assigned (meaning cq i).effects.assigned y.none_p y.none_q x.runs)
            (λ s. quiet_then w later ((meaning cp i).next later) ((meaning cq i).next no_one) (λ v. known (s, v)) (λ v. known (s, v)) y.runs (λ v. quiet_known w later (s, v))))
            (λ p. subst (λ (o : Option Spot). Quiet w later (known (element_at cp (designation cp a).ctype p.0 p.1)) (known o))
            (same_element_at (designation cp a).ctype p.0 p.1 ∙ ap (λ (t : Option PlaceType). element_at cq t p.0 p.1) (sym x.ctype)) (quiet_known w later (element_at cp (designation cp a).ctype p.0 p.1)));
      }

  pub same_member_at : (m : ℕ) (t : Option PlaceType) (s : Option Spot) → of_two t s (member w.p m) ≡ of_two t s (member w.q m)
  same_member_at m None s = refl
  same_member_at m (Some t) None = refl
  same_member_at m (Some t) (Some s) = sym (same_member w alike m t s)

  pub pure_member : (a : Place) (m : ℕ) → PlaceFacts a → FactsAt (one.Member a m)
  pure_member a m h later pure =
      let x = h.pure later pure in
      record {
        none_p = x.none_p;
        none_q = x.none_q;
        pure_q = x.pure_q;
        register = refl;
        ctype = ap (λ (z : Option PlaceType). typing.place_step (of_program w.q) w.to.locals (one.Member z m)) x.ctype ∙ ap (λ (v : View). typing.place_step v w.to.locals (one.Member (designation cp a).ctype m)) alike.view;
        runs = quiet_then w later ((designation cp a).leads later) ((designation cq a).leads no_one) (λ s. known (of_two (designation cp a).ctype s (member w.p m))) (λ s. known (of_two (designation cq a).ctype s (member w.q m))) x.runs
            (λ s. subst (λ (o : Option Spot). Quiet w later (known (of_two (designation cp a).ctype s (member w.p m))) (known o))
            (same_member_at m (designation cp a).ctype s ∙ ap (λ (t : Option PlaceType). of_two t s (member w.q m)) (sym x.ctype)) (quiet_known w later (of_two (designation cp a).ctype s (member w.p m))));
      }

  pub pure_deref : (e : Expr) → ((later : Registers) → (meaning cp e).effects.pure later ≡ true → PureExpr w (meaning cp e) (meaning cq e) later) → FactsAt (one.Deref e)
  pure_deref e h later pure =
      let x = h later pure in
      record {
        none_p = x.none_p;
        none_q = x.none_q;
        pure_q = x.pure_q;
        register = refl;
        ctype = ap (λ (z : Option ValueType). typing.place_step (of_program w.q) w.to.locals (one.Deref z)) x.ctype ∙ ap (λ (v : View). typing.place_step v w.to.locals (one.Deref (meaning cp e).ctype)) alike.view;
        runs = quiet_one w (λ v. option_map spot.Address (address_in v)) (λ v. option_map spot.Address (address_in v)) (meaning cp e) (meaning cq e) later refl x;
      }
