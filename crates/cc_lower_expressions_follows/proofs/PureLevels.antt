-- A pure expression is worked quietly: by induction over expressions and places.
use Rattle.std.proofs.Common.{◌≡◌, ℕ, ℤ, pos, Bool, true, false, ◌&&◌, Option, Some, refl, ap, sym, ◌∙◌, subst}
use Rattle.cc_program.specs.CcNum.declared.int_type.IntType.{IntType}
use Rattle.cc_program.specs.CcNum.declared.target.Target.{Target}
use Rattle.cc_program.specs.declared.expr.Expr.{Expr}
use Rattle.cc_program.specs.declared.expr.Expr.TheOpen as one
use Rattle.cc_program.specs.declared.expr.Place.{Place}
use Rattle.cc_program.specs.declared.types.CType.{CType}
use Rattle.cc_program.specs.declared.value.Value.TheVariants.{Int, Place as PlaceValue}
use Rattle.cc_program.specs.declared.value.Address.TheVariants as address
use Rattle.cc_states.specs.CcSyntax.Effects.{Registers, no_one, also}
use Rattle.cc_states.specs.CcSyntax.Expressions as typing
use Rattle.cc_states.specs.CcSyntax.Values.{ValueType, PlaceType}
use Rattle.cc_states.specs.CcSyntax.Views.{View, of_program}
use Rattle.cc_states.specs.CcEval.Context.{Context}
use Rattle.cc_states.specs.CcEval.Eval.{meaning, choice, as_condition}
use Rattle.cc_states.specs.CcEval.Progress.{known}
use Rattle.cc_states.specs.CcValues.Values.{unary, binary, conversion, movement, gap, comparison, truth, of_truth}
use Rattle.cc_lower_expressions_follows.specs.Trees.{Setting, context_p, context_q}
use Rattle.cc_lower_expressions_follows.specs.Relation.{Alike}
use Rattle.cc_lower_expressions_follows.specs.Old.{is_old}
use Rattle.cc_lower_expressions_follows.proofs.Opened.{at_level}
use Rattle.cc_lower_expressions_follows.proofs.Pure.{Quiet, PureExpr, quiet_known, quiet_choice, quiet_one, quiet_two, before, none_of, both_pure}

both_true : (a b : Bool) → (a && b) ≡ true → (a ≡ true) × (b ≡ true)
both_true true b h = (refl, h)
both_true false b h = absurd (cc)

module _ (w : Setting) (alike : Alike w) where
  abbrev cp : Context
  cp = context_p w

  abbrev cq : Context
  cq = context_q w

  -- no type of an expression hangs on the locals but by its places
  pub same_type_at : (x : one.Expr-F (Option ValueType) (Option PlaceType)) → typing.expr_step (of_program w.q) w.to.locals x ≡ typing.expr_step (of_program w.p) w.from.locals x
  same_type_at (one.Const n t) = ap (λ (v : View). typing.expr_step v w.to.locals (one.Const n t)) alike.view
  same_type_at (one.Null t) = ap (λ (v : View). typing.expr_step v w.to.locals (one.Null t)) alike.view
  same_type_at (one.FuncAddr f) = ap (λ (v : View). typing.expr_step v w.to.locals (one.FuncAddr f)) alike.view
  same_type_at (one.Load a) = ap (λ (v : View). typing.expr_step v w.to.locals (one.Load a)) alike.view
  same_type_at (one.AddrOf a) = ap (λ (v : View). typing.expr_step v w.to.locals (one.AddrOf a)) alike.view
  same_type_at (one.Un o t a) = ap (λ (v : View). typing.expr_step v w.to.locals (one.Un o t a)) alike.view
  same_type_at (one.Bin o t a b) = ap (λ (v : View). typing.expr_step v w.to.locals (one.Bin o t a b)) alike.view
  same_type_at (one.Conv t a) = ap (λ (v : View). typing.expr_step v w.to.locals (one.Conv t a)) alike.view
  same_type_at (one.Qualify t a) = ap (λ (v : View). typing.expr_step v w.to.locals (one.Qualify t a)) alike.view
  same_type_at (one.Move a b back) = ap (λ (v : View). typing.expr_step v w.to.locals (one.Move a b back)) alike.view
  same_type_at (one.Gap a b) = ap (λ (v : View). typing.expr_step v w.to.locals (one.Gap a b)) alike.view
  same_type_at (one.Compare o a b) = ap (λ (v : View). typing.expr_step v w.to.locals (one.Compare o a b)) alike.view
  same_type_at (one.Both a b) = ap (λ (v : View). typing.expr_step v w.to.locals (one.Both a b)) alike.view
  same_type_at (one.Either a b) = ap (λ (v : View). typing.expr_step v w.to.locals (one.Either a b)) alike.view
  same_type_at (one.Choose c a b) = ap (λ (v : View). typing.expr_step v w.to.locals (one.Choose c a b)) alike.view
  same_type_at (one.Assign a e) = ap (λ (v : View). typing.expr_step v w.to.locals (one.Assign a e)) alike.view
  same_type_at (one.Change a o t e) = ap (λ (v : View). typing.expr_step v w.to.locals (one.Change a o t e)) alike.view
  same_type_at (one.After a down) = ap (λ (v : View). typing.expr_step v w.to.locals (one.After a down)) alike.view
  same_type_at (one.Call f args) = ap (λ (v : View). typing.expr_step v w.to.locals (one.Call f args)) alike.view
  same_type_at (one.Intr i a) = ap (λ (v : View). typing.expr_step v w.to.locals (one.Intr i a)) alike.view
  same_type_at (one.Seq a b) = ap (λ (v : View). typing.expr_step v w.to.locals (one.Seq a b)) alike.view

  pub same_target : w.p.target ≡ w.q.target
  same_target = ap (λ (v : View). v.target) (sym alike.view)

  abbrev At : Expr → Type 0
  At e = is_old w.base e ≡ true → (later : Registers) → (meaning cp e).effects.pure later ≡ true → PureExpr w (meaning cp e) (meaning cq e) later

  abbrev AtLevel : one.Expr-F Expr Place → Type 0
  AtLevel x = (later : Registers) → (at_level cp x).effects.pure later ≡ true → PureExpr w (at_level cp x) (at_level cq x) later

  -- two operands

  pub pure_un : (o : _) (t : IntType) (a : Expr) → ((later : Registers) → (meaning cp a).effects.pure later ≡ true → PureExpr w (meaning cp a) (meaning cq a) later) → AtLevel (one.Un o t a)
  pure_un o t a h later pure =
      let x = h later pure in
      record {
        none_p = x.none_p;
        none_q = x.none_q;
        pure_q = x.pure_q;
        ctype = ap (λ (z : Option ValueType). typing.expr_step (of_program w.q) w.to.locals (one.Un o t z)) x.ctype ∙ same_type_at (one.Un o t (meaning cp a).ctype);
        runs = quiet_one w (unary o t w.p.target) (unary o t w.q.target) (meaning cp a) (meaning cq a) later (ap (λ (g : Target). unary o t g) same_target) x;
      }

  pub pure_bin : (o : _) (t : IntType) (a b : Expr) → ((later : Registers) → (meaning cp a).effects.pure later ≡ true → PureExpr w (meaning cp a) (meaning cq a) later) →
      ((later : Registers) → (meaning cp b).effects.pure later ≡ true → PureExpr w (meaning cp b) (meaning cq b) later) → AtLevel (one.Bin o t a b)
  pure_bin o t a b h k later pure =
      let p = both_true ((meaning cp a).effects.pure later) ((meaning cp b).effects.pure later) pure in
      let x = h later p.0 in
      let y = k later p.1 in
      record {
        none_p = none_of w (meaning cp a).effects.assigned (meaning cp b).effects.assigned x.none_p y.none_p;
        none_q = none_of w (meaning cq a).effects.assigned (meaning cq b).effects.assigned x.none_q y.none_q;
        pure_q = both_pure w ((meaning cq a).effects.pure no_one) ((meaning cq b).effects.pure no_one) x.pure_q y.pure_q;
        ctype = ap (λ (z : Option ValueType). typing.expr_step (of_program w.q) w.to.locals (one.Bin o t z (meaning cq b).ctype)) x.ctype ∙
            ap (λ (z : Option ValueType). typing.expr_step (of_program w.q) w.to.locals (one.Bin o t (meaning cp a).ctype z)) y.ctype ∙ same_type_at (one.Bin o t (meaning cp a).ctype (meaning cp b).ctype);
        runs = quiet_two w (binary o t w.p.target) (binary o t w.q.target) (meaning cp a) (meaning cq a) (meaning cp b) (meaning cq b) later (ap (λ (g : Target). binary o t g) same_target) x y;
      }

  -- `&&`: the branch step is taken in both, also where the condition is bad
  pub pure_both : (a b : Expr) → ((later : Registers) → (meaning cp a).effects.pure later ≡ true → PureExpr w (meaning cp a) (meaning cq a) later) →
      ((later : Registers) → (meaning cp b).effects.pure later ≡ true → PureExpr w (meaning cp b) (meaning cq b) later) → AtLevel (one.Both a b)
  pure_both a b h k later pure =
      let p = both_true ((meaning cp a).effects.pure later) ((meaning cp b).effects.pure later) pure in
      let x = h later p.0 in
      let y = k later p.1 in
      let pq = both_pure w ((meaning cq a).effects.pure no_one) ((meaning cq b).effects.pure no_one) x.pure_q y.pure_q in
      let first_p = (meaning cp a).next (also (meaning cp b).effects.assigned later) in
      let first_q = (meaning cq a).next (also (meaning cq b).effects.assigned no_one) in
      let second_p = as_condition (meaning cp b) later in
      let second_q = as_condition (meaning cq b) no_one in
      record {
        none_p = none_of w (meaning cp a).effects.assigned (meaning cp b).effects.assigned x.none_p y.none_p;
        none_q = none_of w (meaning cq a).effects.assigned (meaning cq b).effects.assigned x.none_q y.none_q;
        pure_q = pq;
        ctype = ap (λ (z : Option ValueType). typing.expr_step (of_program w.q) w.to.locals (one.Both z (meaning cq b).ctype)) x.ctype ∙
            ap (λ (z : Option ValueType). typing.expr_step (of_program w.q) w.to.locals (one.Both (meaning cp a).ctype z)) y.ctype ∙ same_type_at (one.Both (meaning cp a).ctype (meaning cp b).ctype);
        runs = subst (λ (z : Bool). Quiet w later (choice z first_p second_p (known (Some (Int (pos 0))))) (choice ((meaning cq a).effects.pure no_one && (meaning cq b).effects.pure no_one) first_q second_q (known (Some (Int (pos 0)))))) (sym pure)
            (subst (λ (z : Bool). Quiet w later (choice true first_p second_p (known (Some (Int (pos 0))))) (choice z first_q second_q (known (Some (Int (pos 0)))))) (sym pq)
            (quiet_choice w later first_p first_q second_p second_q (known (Some (Int (pos 0)))) (known (Some (Int (pos 0))))
            (before w later (meaning cp a).next (meaning cq a).next (meaning cp b).effects.assigned (meaning cq b).effects.assigned y.none_p y.none_q x.runs)
            (quiet_one w (λ v. of_truth (truth v)) (λ v. of_truth (truth v)) (meaning cp b) (meaning cq b) later refl y)
            (quiet_known w later (Some (Int (pos 0))))));
      }

  pub pure_conv : (t : IntType) (a : Expr) → ((later : Registers) → (meaning cp a).effects.pure later ≡ true → PureExpr w (meaning cp a) (meaning cq a) later) → AtLevel (one.Conv t a)
  pure_conv t a h later pure =
      let x = h later pure in
      record {
        none_p = x.none_p;
        none_q = x.none_q;
        pure_q = x.pure_q;
        ctype = ap (λ (z : Option ValueType). typing.expr_step (of_program w.q) w.to.locals (one.Conv t z)) x.ctype ∙ same_type_at (one.Conv t (meaning cp a).ctype);
        runs = quiet_one w (conversion t w.p.target) (conversion t w.q.target) (meaning cp a) (meaning cq a) later (ap (λ (g : Target). conversion t g) same_target) x;
      }

  pub pure_qualify : (t : CType) (a : Expr) → ((later : Registers) → (meaning cp a).effects.pure later ≡ true → PureExpr w (meaning cp a) (meaning cq a) later) → AtLevel (one.Qualify t a)
  pure_qualify t a h later pure =
      let x = h later pure in
      record {
        none_p = x.none_p;
        none_q = x.none_q;
        pure_q = x.pure_q;
        ctype = ap (λ (z : Option ValueType). typing.expr_step (of_program w.q) w.to.locals (one.Qualify t z)) x.ctype ∙ same_type_at (one.Qualify t (meaning cp a).ctype);
        runs = quiet_one w (λ v. v) (λ v. v) (meaning cp a) (meaning cq a) later (refl) x;
      }

  pub pure_move : (back : Bool) (a b : Expr) → ((later : Registers) → (meaning cp a).effects.pure later ≡ true → PureExpr w (meaning cp a) (meaning cq a) later) → ((later : Registers) → (meaning cp b).effects.pure later ≡ true → PureExpr w (meaning cp b) (meaning cq b) later) → AtLevel (one.Move a b back)
  pure_move back a b h k later pure =
      let p = both_true ((meaning cp a).effects.pure later) ((meaning cp b).effects.pure later) pure in
      let x = h later p.0 in
      let y = k later p.1 in
      record {
        none_p = none_of w (meaning cp a).effects.assigned (meaning cp b).effects.assigned x.none_p y.none_p;
        none_q = none_of w (meaning cq a).effects.assigned (meaning cq b).effects.assigned x.none_q y.none_q;
        pure_q = both_pure w ((meaning cq a).effects.pure no_one) ((meaning cq b).effects.pure no_one) x.pure_q y.pure_q;
        ctype = ap (λ (z : Option ValueType). typing.expr_step (of_program w.q) w.to.locals (one.Move z (meaning cq b).ctype back)) x.ctype ∙
            ap (λ (z : Option ValueType). typing.expr_step (of_program w.q) w.to.locals (one.Move (meaning cp a).ctype z back)) y.ctype ∙ same_type_at (one.Move (meaning cp a).ctype (meaning cp b).ctype back);
        runs = quiet_two w (movement back) (movement back) (meaning cp a) (meaning cq a) (meaning cp b) (meaning cq b) later (refl) x y;
      }

  pub pure_gap : (a b : Expr) → ((later : Registers) → (meaning cp a).effects.pure later ≡ true → PureExpr w (meaning cp a) (meaning cq a) later) → ((later : Registers) → (meaning cp b).effects.pure later ≡ true → PureExpr w (meaning cp b) (meaning cq b) later) → AtLevel (one.Gap a b)
  pure_gap a b h k later pure =
      let p = both_true ((meaning cp a).effects.pure later) ((meaning cp b).effects.pure later) pure in
      let x = h later p.0 in
      let y = k later p.1 in
      record {
        none_p = none_of w (meaning cp a).effects.assigned (meaning cp b).effects.assigned x.none_p y.none_p;
        none_q = none_of w (meaning cq a).effects.assigned (meaning cq b).effects.assigned x.none_q y.none_q;
        pure_q = both_pure w ((meaning cq a).effects.pure no_one) ((meaning cq b).effects.pure no_one) x.pure_q y.pure_q;
        ctype = ap (λ (z : Option ValueType). typing.expr_step (of_program w.q) w.to.locals (one.Gap z (meaning cq b).ctype)) x.ctype ∙
            ap (λ (z : Option ValueType). typing.expr_step (of_program w.q) w.to.locals (one.Gap (meaning cp a).ctype z)) y.ctype ∙ same_type_at (one.Gap (meaning cp a).ctype (meaning cp b).ctype);
        runs = quiet_two w (gap w.p.target) (gap w.q.target) (meaning cp a) (meaning cq a) (meaning cp b) (meaning cq b) later (ap gap same_target) x y;
      }

  pub pure_compare : (o : _) (a b : Expr) → ((later : Registers) → (meaning cp a).effects.pure later ≡ true → PureExpr w (meaning cp a) (meaning cq a) later) → ((later : Registers) → (meaning cp b).effects.pure later ≡ true → PureExpr w (meaning cp b) (meaning cq b) later) → AtLevel (one.Compare o a b)
  pure_compare o a b h k later pure =
      let p = both_true ((meaning cp a).effects.pure later) ((meaning cp b).effects.pure later) pure in
      let x = h later p.0 in
      let y = k later p.1 in
      record {
        none_p = none_of w (meaning cp a).effects.assigned (meaning cp b).effects.assigned x.none_p y.none_p;
        none_q = none_of w (meaning cq a).effects.assigned (meaning cq b).effects.assigned x.none_q y.none_q;
        pure_q = both_pure w ((meaning cq a).effects.pure no_one) ((meaning cq b).effects.pure no_one) x.pure_q y.pure_q;
        ctype = ap (λ (z : Option ValueType). typing.expr_step (of_program w.q) w.to.locals (one.Compare o z (meaning cq b).ctype)) x.ctype ∙
            ap (λ (z : Option ValueType). typing.expr_step (of_program w.q) w.to.locals (one.Compare o (meaning cp a).ctype z)) y.ctype ∙ same_type_at (one.Compare o (meaning cp a).ctype (meaning cp b).ctype);
        runs = quiet_two w (comparison o) (comparison o) (meaning cp a) (meaning cq a) (meaning cp b) (meaning cq b) later (refl) x y;
      }

  pub pure_const : (n : ℤ) (t : IntType) → AtLevel (one.Const n t)
  pure_const n t later pure = record { none_p = refl; none_q = refl; pure_q = refl; ctype = same_type_at (one.Const n t); runs = quiet_known w later (Some (Int n)) }

  pub pure_null : (t : CType) → AtLevel (one.Null t)
  pure_null t later pure = record { none_p = refl; none_q = refl; pure_q = refl; ctype = same_type_at (one.Null t); runs = quiet_known w later (Some (PlaceValue address.Null)) }

  pub pure_function : (f : ℕ) → AtLevel (one.FuncAddr f)
  pure_function f later pure = record { none_p = refl; none_q = refl; pure_q = refl; ctype = same_type_at (one.FuncAddr f); runs = quiet_known w later (Some (PlaceValue (address.Func f))) }

  pub pure_either : (a b : Expr) → ((later : Registers) → (meaning cp a).effects.pure later ≡ true → PureExpr w (meaning cp a) (meaning cq a) later) →
      ((later : Registers) → (meaning cp b).effects.pure later ≡ true → PureExpr w (meaning cp b) (meaning cq b) later) → AtLevel (one.Either a b)
  pure_either a b h k later pure =
      let p = both_true ((meaning cp a).effects.pure later) ((meaning cp b).effects.pure later) pure in
      let x = h later p.0 in
      let y = k later p.1 in
      let pq = both_pure w ((meaning cq a).effects.pure no_one) ((meaning cq b).effects.pure no_one) x.pure_q y.pure_q in
      let first_p = (meaning cp a).next (also (meaning cp b).effects.assigned later) in
      let first_q = (meaning cq a).next (also (meaning cq b).effects.assigned no_one) in
      let second_p = as_condition (meaning cp b) later in
      let second_q = as_condition (meaning cq b) no_one in
      record {
        none_p = none_of w (meaning cp a).effects.assigned (meaning cp b).effects.assigned x.none_p y.none_p;
        none_q = none_of w (meaning cq a).effects.assigned (meaning cq b).effects.assigned x.none_q y.none_q;
        pure_q = pq;
        ctype = ap (λ (z : Option ValueType). typing.expr_step (of_program w.q) w.to.locals (one.Either z (meaning cq b).ctype)) x.ctype ∙
            ap (λ (z : Option ValueType). typing.expr_step (of_program w.q) w.to.locals (one.Either (meaning cp a).ctype z)) y.ctype ∙ same_type_at (one.Either (meaning cp a).ctype (meaning cp b).ctype);
        runs = subst (λ (z : Bool). Quiet w later (choice z first_p (known (Some (Int (pos 1)))) second_p) (choice ((meaning cq a).effects.pure no_one && (meaning cq b).effects.pure no_one) first_q (known (Some (Int (pos 1)))) second_q)) (sym pure)
            (subst (λ (z : Bool). Quiet w later (choice true first_p (known (Some (Int (pos 1)))) second_p) (choice z first_q (known (Some (Int (pos 1)))) second_q)) (sym pq)
            (quiet_choice w later first_p first_q (known (Some (Int (pos 1)))) (known (Some (Int (pos 1)))) second_p second_q
            (before w later (meaning cp a).next (meaning cq a).next (meaning cp b).effects.assigned (meaning cq b).effects.assigned y.none_p y.none_q x.runs)
            (quiet_known w later (Some (Int (pos 1))))
            (quiet_one w (λ v. of_truth (truth v)) (λ v. of_truth (truth v)) (meaning cp b) (meaning cq b) later refl y)));
      }
