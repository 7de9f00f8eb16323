-- A `switch` over sound cases is sound.
use Rattle.std.proofs.Common.{◌≡◌, true, not, List, [], ◌∷◌, Option, Some, None, Ok, refl, ap, sym, ◌∙◌, subst}
use Rattle.std.specs.List.{list_all}
use Rattle.cc_program.specs.CcNum.Promotions.{promoted}
use Rattle.cc_program.specs.CcNum.declared.int_type.IntType.{IntType}
use Rattle.cc_type.specs.CcOperands.Operands.{Operand, converted_to}
use Rattle.cc_type.specs.CcOperands.Verdicts.{must, judge_then}
use Rattle.cc_type.specs.CcOperands.declared.rule.Rule.TheVariants as rule
use Rattle.cc_operand_types.proofs.Integers.{promoted_is}
use Rattle.cc_operand_types.proofs.Operands.{given, ok_is, must_ok, value_ok, converted_typed, value_integer}
use Rattle.cc_operand_types.proofs.Stores.{then_ok}
use Rattle.cc_operand_types.specs.Typed.{IsTypedOperand}
use Rattle.cc_type.specs.CcSyntax.Views.{View}
use Rattle.cc_program.specs.declared.expr.Expr.{Expr}
use Rattle.cc_program.specs.declared.stmt.Case.{Case}
use Rattle.cc_program.specs.declared.stmt.Stmt.{Stmt, Switch}
use Rattle.cc_program.specs.declared.types.CType.{CType}
use Rattle.cc_type.proofs.CcSyntax.SameLemmas.{and_true}
use Rattle.cc_type.specs.CcSyntax.Operators.{is_integer, is_promoted}
use Rattle.cc_type.specs.CcSyntax.Statements.{labels_of, labels_fit, label_fits}
use Rattle.cc_type.specs.CcSyntax.Types.{Named}
use Rattle.cc_type.specs.CcSyntax.Values.{ValueType, NoValue, Integer, ToObject, ToFunction}
use Rattle.cc_type.specs.CcTypedStatements.Switch.{switch_type, cases_of, switch_of}
use Rattle.cc_type.specs.CcTypedStatements.declared.cases.Cases.{Cases}
use Rattle.cc_type.specs.CcTypedStatements.declared.jumps.Jumps.{Jumps}
use Rattle.cc_read_sound.specs.Sound.{Keeps, AreSound, AreCases}
use Rattle.cc_read_sound.proofs.KeptStatements.{integer_kept}
use Rattle.cc_read_sound.proofs.Opened.{switch_sound}

integer_there : (t : ValueType) → is_integer t ≡ true → (i : IntType) × (t ≡ Integer i)
integer_there (Integer i) h = (i, refl)
integer_there NoValue h = absurd (cc)
integer_there (ToObject c v t) h = absurd (cc)
integer_there (ToFunction s) h = absurd (cc)

module _ (v : View) (declared : List Named) (typed : Expr → Option ValueType) (keeps : Keeps v declared typed) (result : CType) where
  found_cases : (cases : Option Cases) (cs : List Case) → cases_of cases ≡ Ok cs → (c : Cases) × (cases ≡ Some c) × (c.cases ≡ cs)
  found_cases None cs h = absurd (cc)
  found_cases (Some c) cs h = (c, refl, ok_is (must_ok (not c.statement_first) rule.Switch (Ok c.cases) cs h).1)

  -- the operand has the type in which it is compared
  operand_type : (x : Operand) → IsTypedOperand v declared x → is_integer x.type ≡ true →
      (t : IntType) × (switch_type v.target x.type ≡ t) × (is_promoted v.target t ≡ true) × (typed (converted_to v.target (switch_type v.target x.type) x).value ≡ Some (Integer t))
  operand_type x hx h =
      let i = integer_there x.type h in
      let t = promoted i.0 v.target in
      let e : switch_type v.target x.type ≡ promoted i.0 v.target = ap (switch_type v.target) i.1 in (
        promoted i.0 v.target,
        e,
        promoted_is i.0 v.target,
        ap (λ (t : IntType). typed (converted_to v.target t x).value) e
            ∙ integer_kept v declared typed keeps (converted_to v.target (promoted i.0 v.target) x).value (promoted i.0 v.target)
            (value_integer v declared (promoted i.0 v.target) (converted_to v.target (promoted i.0 v.target) x) (converted_typed v declared (promoted i.0 v.target) i.0 x hx i.1)),
      )

  pub switched_sound : (x : Operand) (cases : Option Cases) (j : Jumps) (ss : List Stmt) → IsTypedOperand v declared x →
      ((c : Cases) → cases ≡ Some c → AreCases v.target typed result (switch_type v.target x.type) j.continues c.cases) → switch_of v.target x cases ≡ Ok ss → AreSound v.target typed result j ss
  switched_sound x cases j ss hx good h =
      let rest = λ (cs : List Case). given (Switch (converted_to v.target (switch_type v.target x.type) x).value cs ∷ []) in
      let m = must_ok (is_integer x.type) rule.Switch (judge_then (cases_of cases) rest) ss
      (value_ok x (must (is_integer x.type) rule.Switch (judge_then (cases_of cases) rest)) ss h).1 in
      let k = then_ok (cases_of cases) rest ss m.1 in
      let c = found_cases cases k.0 k.1 in
      let t = operand_type x hx m.0 in
      let g = subst (λ (cs : List Case). AreCases v.target typed result (switch_type v.target x.type) j.continues cs) c.2 (good c.0 c.1) in
      let fit : list_all (label_fits v.target t.0) (labels_of k.0) ≡ true = ap (λ (i : IntType). list_all (label_fits v.target i) (labels_of k.0)) (sym t.1) ∙ g.fit in
      subst (AreSound v.target typed result j) (ok_is k.2)
      (switch_sound v.target typed result (converted_to v.target (switch_type v.target x.type) x).value k.0 j.breaks j.continues
      (ap (labels_fit v.target (labels_of k.0)) t.3 ∙ and_true (is_promoted v.target t.0) (list_all (label_fits v.target t.0) (labels_of k.0)) t.2 fit)
      g.apart g.labelled g.bodies)
