-- What each construct gives, from what its parts gave.
use Rattle.std.proofs.Common.{◌≡◌, ◌+◌, ◌-◌, List, [], ◌∷◌, ◌++◌, take, drop, length, refl, ap, sym, ◌∙◌, subst, append_assoc}
use Rattle.std.specs.Prelude.{option_map}
use Rattle.std.proofs.lemmas.List.{append-nil}
use Rattle.cc_program.specs.declared.expr.Expr.{Expr}
use Rattle.cc_eval.specs.CcTyped.View.{value_view}
use Rattle.cc_lower_accesses.specs.Assigned.{among}
use Rattle.cc_lower_accesses.specs.Modes.{arguments_of}
use Rattle.cc_lower_operands.specs.Made.{IsMade}
use Rattle.cc_lower_operands.proofs.Arguments.{all-left}
use Rattle.cc_lower_operands.proofs.Arms.{leaf-arm, load-arm, address-arm, one-arm, two-arm, both-stays, either-stays, choose-stays, both-arm, either-arm, choose-arm, assign-arm, change-arm, after-arm, call-arm, intr-arm, seq-arm, local-arm, static-arm, device-arm, element-arm, member-arm, deref-arm}
use Rattle.cc_lower_operands.proofs.StatementArms.{whole-load-arm, whole-call-arm, whole-intr-arm, whole-seq-arm, whole-default-arm, effect-load-arm, effect-branch-arm, effect-choose-arm, effect-void-arm, effect-register-arm, effect-assign-arm, effect-change-arm, effect-after-arm, effect-call-arm, effect-intr-arm, effect-seq-arm, effect-default-arm}
use Rattle.cc_lower_operands.proofs.PartArms.{condition-arm, pair-made, placed-made, one-argument, no-argument, call-made, no-operand, some-operand, decided-made, choose-made, choose-void-made, assigned-made}
use Rattle.cc_lower_operands.proofs.Steps.{gives, gives_unit}
use Rattle.cc_lower_operands.proofs.operands.+lower.Goals as goal

-- ---- operands

pub operand-returns-in-Const : goal.operand-returns-in-Const
operand-returns-in-Const t c =
    leaf-arm c.args.body.program.now c.args.body.func.now (among c.args.later.now) c.copy-in-Const.result c.args.e.now _ _ c.in-Const.is c.copy-in-Const.ensures

pub operand-returns-then-is_pure : goal.operand-returns-then-is_pure
operand-returns-then-is_pure t c =
    both-stays c.args.body.program.now c.args.body.func.now (among c.args.later.now) c.copy.result c.in-Both.a c.in-Both.b _ _ c.in-Both.is c.is_pure.ensures c.if-is_pure.true c.copy.ensures

pub operand-returns-then-is_pure-2 : goal.operand-returns-then-is_pure-2
operand-returns-then-is_pure-2 t c =
    either-stays c.args.body.program.now c.args.body.func.now (among c.args.later.now) c.copy-then-is_pure-2.result c.in-Either.a c.in-Either.b _ _ c.in-Either.is c.is_pure-in-Either.ensures c.if-is_pure-2.true c.copy-then-is_pure-2.ensures

pub operand-returns-then-is_pure-3 : goal.operand-returns-then-is_pure-3
operand-returns-then-is_pure-3 t c =
    choose-stays c.args.body.program.now c.args.body.func.now (among c.args.later.now) c.copy-then-is_pure-3.result c.in-Choose.c c.in-Choose.a c.in-Choose.b _ _ c.in-Choose.is c.is_pure-in-Choose.ensures c.if-is_pure-3.true c.copy-then-is_pure-3.ensures

pub operand-returns-in_ok-b-in-Load : goal.operand-returns-in_ok-b-in-Load
operand-returns-in_ok-b-in-Load t c =
    load-arm c.args.body.program.now c.args.body.func.now (among c.args.later.now) c.read_at.result _ _ c.in-Load.is c.get.ensures c.get-in-Load.ensures c.in_ok-b-in-Load.ensures
    (gives c.read_at.result _ _ _ _ _ c.read_at.ensures.value c.read_at.ensures.locals c.read_at.ensures.statements)

pub operand-returns-in_ok-place-in-AddrOf : goal.operand-returns-in_ok-place-in-AddrOf
operand-returns-in_ok-place-in-AddrOf t c =
    address-arm c.args.body.program.now c.args.body.func.now (among c.args.later.now) c.address.result c.in-AddrOf.is c.get-in-AddrOf.ensures c.in_ok-place-in-AddrOf.ensures c.address.ensures

pub operand-returns-in_ok-x-in-Un : goal.operand-returns-in_ok-x-in-Un
operand-returns-in_ok-x-in-Un t c =
    one-arm c.args.body.program.now c.args.body.func.now (among c.args.later.now) c.with_one.result c.args.e.now c.in-Un.is c.get-in-Un.ensures c.in_ok-x-in-Un.ensures c.with_one.ensures

pub operand-returns-in_ok-x-in-Bin : goal.operand-returns-in_ok-x-in-Bin
operand-returns-in_ok-x-in-Bin t c =
    two-arm c.args.body.program.now c.args.body.func.now (among c.args.later.now) c.with_two.result c.args.e.now c.in-Bin.is c.get-in-Bin.ensures c.get-in-Bin-2.ensures c.in_ok-x-in-Bin.ensures c.with_two.ensures

pub operand-returns-in_ok-x-in-Both : goal.operand-returns-in_ok-x-in-Both
operand-returns-in_ok-x-in-Both t c =
    both-arm c.args.body.program.now c.args.body.func.now (among c.args.later.now) c.both.result _ c.in-Both.is c.get-in-Both.ensures c.get-in-Both-2.ensures c.is_pure.ensures c.if-is_pure.false c.in_ok-x-in-Both.ensures c.both.ensures.value c.both.ensures.statements

pub operand-returns-in_ok-x-in-Either : goal.operand-returns-in_ok-x-in-Either
operand-returns-in_ok-x-in-Either t c =
    either-arm c.args.body.program.now c.args.body.func.now (among c.args.later.now) c.either.result _ c.in-Either.is c.get-in-Either.ensures c.get-in-Either-2.ensures c.is_pure-in-Either.ensures c.if-is_pure-2.false c.in_ok-x-in-Either.ensures c.either.ensures.value c.either.ensures.statements

pub operand-returns-else-is_pure-3 : goal.operand-returns-else-is_pure-3
operand-returns-else-is_pure-3 t c =
    choose-arm c.args.body.program.now c.args.body.func.now (among c.args.later.now) c.choose.result _ _ _ _ c.in-Choose.is c.get-in-Choose.ensures c.get-in-Choose-2.ensures c.get-in-Choose-3.ensures c.is_pure-in-Choose.ensures c.if-is_pure-3.false c.type_of-t.ensures c.choose.ensures

pub operand-returns-in-Assign : goal.operand-returns-in-Assign
operand-returns-in-Assign t c =
    assign-arm c.args.body.program.now c.args.body.func.now (among c.args.later.now) c.assigned_value.result _ _ _ _ c.in-Assign.is c.get-in-Assign.ensures c.get-in-Assign-2.ensures c.assigned_value.ensures

pub operand-returns-in_ok-b-in-Change : goal.operand-returns-in_ok-b-in-Change
operand-returns-in_ok-b-in-Change t c =
    change-arm c.args.body.program.now c.args.body.func.now (among c.args.later.now) c.changed_value.result _ _ c.in-Change.is c.get-in-Change.ensures c.get-in-Change-2.ensures c.get-in-Change-3.ensures c.in_ok-b-in-Change.ensures
    (gives c.changed_value.result _ _ _ _ _ c.changed_value.ensures.value c.changed_value.ensures.locals c.changed_value.ensures.statements)

pub operand-returns-in_ok-b-in-After : goal.operand-returns-in_ok-b-in-After
operand-returns-in_ok-b-in-After t c =
    after-arm c.args.body.program.now c.args.body.func.now (among c.args.later.now) c.stepped_value.result _ _ c.in-After.is c.get-in-After.ensures c.get-in-After-2.ensures c.in_ok-b-in-After.ensures
    (gives c.stepped_value.result _ _ _ _ _ c.stepped_value.ensures.value c.stepped_value.ensures.locals c.stepped_value.ensures.statements)

pub operand-returns-in_ok-x-in-Call : goal.operand-returns-in_ok-x-in-Call
operand-returns-in_ok-x-in-Call t c =
    call-arm c.args.body.program.now c.args.body.func.now (among c.args.later.now) c.into.result c.in-Call.args _ _ c.in-Call.is c.get-in-Call.ensures c.type_of.ensures c.in_ok-x-in-Call.ensures
    (gives c.into.result _ _ _ _ _ c.into.ensures.value c.into.ensures.locals c.into.ensures.statements)

pub operand-returns-in_ok-x-in-Intr : goal.operand-returns-in_ok-x-in-Intr
operand-returns-in_ok-x-in-Intr t c =
    intr-arm c.args.body.program.now c.args.body.func.now (among c.args.later.now) c.into-in-Intr.result c.in-Intr.i c.in-Intr.a _ _ c.in-Intr.is c.type_of-in-Intr.ensures c.in_ok-x-in-Intr.ensures
    (gives c.into-in-Intr.result _ _ _ _ _ c.into-in-Intr.ensures.value c.into-in-Intr.ensures.locals c.into-in-Intr.ensures.statements)

pub operand-returns-in_ok-effect_before-in-Seq : goal.operand-returns-in_ok-effect_before-in-Seq
operand-returns-in_ok-effect_before-in-Seq t c =
    seq-arm c.args.body.program.now c.args.body.func.now (among c.args.later.now) c.operand.result _ _ c.in-Seq.is c.get-in-Seq.ensures c.get-in-Seq-2.ensures c.get-in-Seq-3.ensures c.in_ok-effect_before-in-Seq.ensures c.operand.ensures

-- ---- whole right sides

pub whole-returns-in_ok-b-in-Load : goal.whole-returns-in_ok-b-in-Load
whole-returns-in_ok-b-in-Load t c =
    whole-load-arm c.args.body.program.now c.args.body.func.now (among c.args.later.now) c.whole_read.result (option_map value_view c.args.t) c.args.register _ _ c.in-Load.is c.get.ensures c.get-in-Load.ensures c.in_ok-b-in-Load.ensures
    (gives_unit c.whole_read.result _ _ _ _ _ c.whole_read.ensures.locals c.whole_read.ensures.statements)

pub whole-returns-in_ok-x-in-Call : goal.whole-returns-in_ok-x-in-Call
whole-returns-in_ok-x-in-Call t c =
    whole-call-arm c.args.body.program.now c.args.body.func.now (among c.args.later.now) c.whole_right.result c.in-Call.args (option_map value_view c.args.t) c.args.register _ _ c.in-Call.is c.get-in-Call.ensures c.type_of.ensures c.in_ok-x-in-Call.ensures
    (gives_unit c.whole_right.result _ _ _ _ _ c.whole_right.ensures.locals c.whole_right.ensures.statements)

pub whole-returns-in_ok-x-in-Intr : goal.whole-returns-in_ok-x-in-Intr
whole-returns-in_ok-x-in-Intr t c =
    whole-intr-arm c.args.body.program.now c.args.body.func.now (among c.args.later.now) c.whole_right-in-Intr.result c.in-Intr.i c.in-Intr.a (option_map value_view c.args.t) c.args.register _ _ c.in-Intr.is c.type_of-in-Intr.ensures c.in_ok-x-in-Intr.ensures
    (gives_unit c.whole_right-in-Intr.result _ _ _ _ _ c.whole_right-in-Intr.ensures.locals c.whole_right-in-Intr.ensures.statements)

pub whole-returns-in_ok-effect_before-in-Seq : goal.whole-returns-in_ok-effect_before-in-Seq
whole-returns-in_ok-effect_before-in-Seq t c =
    whole-seq-arm c.args.body.program.now c.args.body.func.now (among c.args.later.now) c.whole.result (option_map value_view c.args.t) c.args.register _ _ c.in-Seq.is c.get-in-Seq.ensures c.get-in-Seq-2.ensures c.get-in-Seq-3.ensures c.in_ok-effect_before-in-Seq.ensures c.whole.ensures

pub whole-returns-in_ok-x-in_default : goal.whole-returns-in_ok-x-in_default
whole-returns-in_ok-x-in_default t c =
    whole-default-arm c.args.body.program.now c.args.body.func.now (among c.args.later.now) c.set.result (option_map value_view c.args.t) c.args.register _ c.in_default.not-Load c.in_default.not-Call c.in_default.not-Intr c.in_default.not-Seq c.in_ok-x-in_default.ensures c.set.ensures

-- ---- expression statements

pub effect-returns-in_ok-b-in-Load : goal.effect-returns-in_ok-b-in-Load
effect-returns-in_ok-b-in-Load t c =
    effect-load-arm c.args.body.program.now c.args.body.func.now (among c.args.later.now) c.whole_read.result c.args.locals.now.items _ _ c.in-Load.is c.get.ensures c.get-in-Load.ensures c.get-in-Load-2.ensures c.value_of-t.ensures c.in_ok-n-in-Load.ensures.number c.in_ok-n-in-Load.ensures.locals c.in_ok-b-in-Load.ensures
    (gives_unit c.whole_read.result _ _ _ _ _ c.whole_read.ensures.locals c.whole_read.ensures.statements)

pub effect-returns-in_ok-x-in-Both : goal.effect-returns-in_ok-x-in-Both
effect-returns-in_ok-x-in-Both t c =
    effect-branch-arm c.args.body.program.now c.args.body.func.now (among c.args.later.now) c.branch_alone-in-Both.result c.args.e.now _ _ c.in-Both.is c.is_pure-is_pure-in-Both.ensures c.type_of-in-Both.ensures c.in_ok-x-in-Both.ensures
    (gives_unit c.branch_alone-in-Both.result _ _ _ _ _ c.branch_alone-in-Both.ensures.locals c.branch_alone-in-Both.ensures.statements)

pub effect-returns-in_ok-x-in-Choose : goal.effect-returns-in_ok-x-in-Choose
effect-returns-in_ok-x-in-Choose t c =
    effect-choose-arm c.args.body.program.now c.args.body.func.now (among c.args.later.now) c.branch_alone.result c.in-Choose.c c.in-Choose.a c.in-Choose.b _ _ c.in-Choose.is c.type_of-t.ensures c.is_void.ensures c.if-is_void.false c.is_pure-is_pure.ensures c.in_ok-x-in-Choose.ensures
    (gives_unit c.branch_alone.result _ _ _ _ _ c.branch_alone.ensures.locals c.branch_alone.ensures.statements)

pub effect-returns-then-is_void : goal.effect-returns-then-is_void
effect-returns-then-is_void t c =
    effect-void-arm c.args.body.program.now c.args.body.func.now (among c.args.later.now) c.choose_void.result _ _ _ _ c.in-Choose.is c.get-then-is_void.ensures c.get-then-is_void-2.ensures c.get-then-is_void-3.ensures c.type_of-t.ensures c.is_void.ensures c.if-is_void.true c.choose_void.ensures

pub effect-returns-in-Some : goal.effect-returns-in-Some
effect-returns-in-Some t c =
    effect-register-arm c.args.body.program.now c.args.body.func.now (among c.args.later.now) c.whole.result _ _ _ _ c.in-Assign.is c.get-in-Assign.ensures c.register_of.ensures c.in-Some.is c.get-in-Some.ensures c.value_of-t-in-Some.ensures c.get-in-Some-2.ensures c.whole.ensures

pub effect-returns-in_ok-b-in-None : goal.effect-returns-in_ok-b-in-None
effect-returns-in_ok-b-in-None t c =
    effect-assign-arm c.args.body.program.now c.args.body.func.now (among c.args.later.now) c.assign.result _ c.in-Assign.is c.get-in-Assign.ensures c.register_of.ensures c.in-None.is c.get-in-None.ensures c.get-in-None-2.ensures c.in_ok-b-in-None.ensures c.assign.ensures

pub effect-returns-in_ok-b-in-Change : goal.effect-returns-in_ok-b-in-Change
effect-returns-in_ok-b-in-Change t c =
    effect-change-arm c.args.body.program.now c.args.body.func.now (among c.args.later.now) c.change_alone.result _ _ c.in-Change.is c.get-in-Change.ensures c.get-in-Change-2.ensures c.get-in-Change-3.ensures c.in_ok-b-in-Change.ensures
    (gives_unit c.change_alone.result _ _ _ _ _ c.change_alone.ensures.locals c.change_alone.ensures.statements)

pub effect-returns-in_ok-b-in-After : goal.effect-returns-in_ok-b-in-After
effect-returns-in_ok-b-in-After t c =
    effect-after-arm c.args.body.program.now c.args.body.func.now (among c.args.later.now) c.step_alone.result _ _ c.in-After.is c.get-in-After.ensures c.get-in-After-2.ensures c.in_ok-b-in-After.ensures
    (gives_unit c.step_alone.result _ _ _ _ _ c.step_alone.ensures.locals c.step_alone.ensures.statements)

pub effect-returns-in_ok-call-in-Call : goal.effect-returns-in_ok-call-in-Call
effect-returns-in_ok-call-in-Call t c =
    effect-call-arm c.args.body.program.now c.args.body.func.now (among c.args.later.now) c.put_right.result c.in-Call.args _ c.in-Call.is c.get-in-Call.ensures c.in_ok-call-in-Call.ensures c.put_right.ensures

pub effect-returns-in_ok-intrinsic-in-Intr : goal.effect-returns-in_ok-intrinsic-in-Intr
effect-returns-in_ok-intrinsic-in-Intr t c =
    effect-intr-arm c.args.body.program.now c.args.body.func.now (among c.args.later.now) c.put_right-in-Intr.result c.in-Intr.i c.in-Intr.a _ c.in-Intr.is c.in_ok-intrinsic-in-Intr.ensures c.put_right-in-Intr.ensures

pub effect-returns-in_ok-effect_before-in-Seq : goal.effect-returns-in_ok-effect_before-in-Seq
effect-returns-in_ok-effect_before-in-Seq t c =
    effect-seq-arm c.args.body.program.now c.args.body.func.now (among c.args.later.now) c.effect.result _ _ c.in-Seq.is c.get-in-Seq.ensures c.get-in-Seq-2.ensures c.get-in-Seq-3.ensures c.in_ok-effect_before-in-Seq.ensures c.effect.ensures

pub effect-returns-in_ok-x-in_default : goal.effect-returns-in_ok-x-in_default
effect-returns-in_ok-x-in_default t c =
    let d = c.in_default in
    effect-default-arm c.args.body.program.now c.args.body.func.now (among c.args.later.now) c.unused.result _ _ d.not-Load d.not-Both d.not-Either d.not-Choose d.not-Assign d.not-Change d.not-After d.not-Call d.not-Intr d.not-Seq c.type_of.ensures c.in_ok-x-in_default.ensures
    (gives_unit c.unused.result _ _ _ _ _ c.unused.ensures.locals c.unused.ensures.statements)

-- ---- places

pub place-returns-in-Local : goal.place-returns-in-Local
place-returns-in-Local t c =
    local-arm c.args.body.program.now c.args.body.func.now (among c.args.later.now) c.in-Local.is

pub place-returns-in-Static : goal.place-returns-in-Static
place-returns-in-Static t c =
    static-arm c.args.body.program.now c.args.body.func.now (among c.args.later.now) c.in-Static.is

pub place-returns-in-Device : goal.place-returns-in-Device
place-returns-in-Device t c =
    device-arm c.args.body.program.now c.args.body.func.now (among c.args.later.now) c.in-Device.is

pub place-returns-in_ok-b-in-Element : goal.place-returns-in_ok-b-in-Element
place-returns-in_ok-b-in-Element t c =
    element-arm c.args.body.program.now c.args.body.func.now (among c.args.later.now) c.element.result c.in-Element.is c.get.ensures c.get-in-Element.ensures c.in_ok-b-in-Element.ensures c.element.ensures

pub place-returns-in_ok-place-in-Member : goal.place-returns-in_ok-place-in-Member
place-returns-in_ok-place-in-Member t c =
    member-arm c.args.body.program.now c.args.body.func.now (among c.args.later.now) c.member.result c.in-Member.is c.get-in-Member.ensures c.in_ok-place-in-Member.ensures c.member.ensures

pub place-returns-in_ok-operand-in-Deref : goal.place-returns-in_ok-operand-in-Deref
place-returns-in_ok-operand-in-Deref t c =
    deref-arm c.args.body.program.now c.args.body.func.now (among c.args.later.now) c.pointed_to.result c.in-Deref.is c.get-in-Deref.ensures c.in_ok-operand-in-Deref.ensures c.pointed_to.ensures

-- ---- parts

pub condition-returns : goal.condition-returns
condition-returns t c =
    condition-arm c.args.body.program.now c.args.body.func.now (among c.args.later.now) c.deref-2.result.now c.in_ok-behind-2.behind.items c.deref.result.now c.in_ok-behind.behind.items c.boxed.result c.args.c.now c.args.a.now c.args.b.now
    c.deref.ensures.value c.in_ok-behind.ensures c.deref-2.ensures.value c.in_ok-behind-2.ensures c.in_ok-operand.ensures c.boxed.ensures

pub pair-returns : goal.pair-returns
pair-returns t c =
    pair-made c.args.body.program.now c.args.body.func.now c.args.a.now c.args.b.now (among c.args.later.now) c.in_ok-x.ensures c.in_ok-y.ensures c.into_inner.ensures

pub placed-returns : goal.placed-returns
placed-returns t c =
    placed-made c.args.body.program.now c.args.body.func.now c.args.a.now c.args.e.now (among c.args.later.now) c.in_ok-b.ensures c.in_ok-x.ensures c.into_inner.ensures

pub arguments-loop-i-preserved : goal.arguments-loop-i-preserved
arguments-loop-i-preserved t c =
    λ rest after behind more.
    let args = c.args.args.now in
    let x = c.in_ok-operand.field-0 in
    let made_of : List Expr → Type 0 = λ z. IsMade (arguments_of c.args.body.program.now c.args.body.func.now args (among c.args.later.now)) z c.args.locals.now.items after c.args.out.now.items behind in
    subst made_of (sym (ap (λ (z : List Expr). z ++ rest) c.in_ok-push.ensures.items ∙ append_assoc c.loop-i.values.items (x ∷ []) rest))
    (c.loop-i.invariant (x ∷ rest) after behind
    (one-argument c.args.body.program.now c.args.body.func.now args c.loop-i.i c.index-args-i.result x (among c.args.later.now) c.deref.result.now c.in_ok-behind.behind.items
    (take (length args - (c.loop-i.i + 1)) (drop (c.loop-i.i + 1) args)) rest after behind
    c.loop-i-test.true c.index-args-i.is c.deref.ensures.value c.in_ok-behind.ensures (all-left (c.loop-i.i + 1) args) c.in_ok-operand.ensures more))

pub arguments-returns : goal.arguments-returns
arguments-returns t c =
    let args = c.args.args.now in
    let made_of : List Expr → Type 0 = λ z. IsMade (arguments_of c.args.body.program.now c.args.body.func.now args (among c.args.later.now)) z c.args.locals.now.items c.loop-i.locals.items c.args.out.now.items c.loop-i.out.items in
    subst made_of (append-nil c.loop-i.values.items)
    (c.loop-i.invariant [] c.loop-i.locals.items c.loop-i.out.items
    (no-argument c.args.body.program.now c.args.body.func.now args c.loop-i.i (among c.args.later.now) c.loop-i.locals.items c.loop-i.out.items c.loop-i-test.false))

pub call-returns : goal.call-returns
call-returns t c =
    call-made c.args.body.program.now c.args.body.func.now (among c.args.later.now) c.deref.result.now c.in_ok-behind.behind.items c.called.result c.args.g.now _ _ c.deref.ensures.value c.in_ok-behind.ensures c.all.ensures c.all-2.ensures
    c.in_ok-operand.ensures c.in_ok-callee.ensures c.in_ok-values.ensures c.called.ensures.value c.called.ensures.locals c.called.ensures.statements

pub intrinsic-returns-in-None : goal.intrinsic-returns-in-None
intrinsic-returns-in-None t c =
    no-operand c.args.body.program.now c.args.body.func.now (among c.args.later.now) c.in-None.is

pub intrinsic-returns-in_ok-operand-in-Some : goal.intrinsic-returns-in_ok-operand-in-Some
intrinsic-returns-in_ok-operand-in-Some t c =
    some-operand c.args.body.program.now c.args.body.func.now (among c.args.later.now) c.with_operand.result c.args.i c.in-Some.is c.get.ensures c.in_ok-operand-in-Some.ensures c.with_operand.ensures

pub decided-returns : goal.decided-returns
decided-returns t c =
    let q : c.x.inside.inner.value ≡ c.in_ok-x.x = cc in
    decided-made c.args.body.program.now c.args.body.func.now c.args.a.now c.args.b.now (among c.args.later.now) c.in_ok-x.ensures c.in_ok-n.ensures.number c.in_ok-n.ensures.locals
    c.new-arm.ensures.items c.in_ok-y.ensures c.in_ok-settled_by.ensures q

pub choose-returns : goal.choose-returns
choose-returns t c =
    choose-made c.args.body.program.now c.args.body.func.now (among c.args.later.now) c.deref.result.now c.in_ok-behind.behind.items c.chosen.result (option_map value_view c.args.t) c.args.c.now c.args.a.now c.args.b.now _
    c.in_ok-x.ensures c.in_ok-n.ensures.number c.in_ok-n.ensures.locals c.deref.ensures.value c.in_ok-behind.ensures
    c.new-these.ensures.items c.in_ok-whole.ensures c.new-those.ensures.items c.in_ok-whole-2.ensures refl c.chosen.ensures.value c.chosen.ensures.statements

pub choose_void-returns : goal.choose_void-returns
choose_void-returns t c =
    choose-void-made c.args.body.program.now c.args.body.func.now (among c.args.later.now) c.put_if.result c.args.c.now c.args.a.now c.args.b.now _ c.in_ok-x.ensures
    c.new-these.ensures.items c.in_ok-effect_before.ensures c.new-those.ensures.items c.in_ok-effect.ensures refl c.of.ensures c.of-2.ensures c.put_if.ensures

pub assigned_value-returns : goal.assigned_value-returns
assigned_value-returns t c =
    assigned-made c.args.body.program.now c.args.body.func.now (among c.args.later.now) c.put_value.result c.args.a.now c.args.e.now _ c.in_ok-b.ensures c.value_of-t.ensures c.in_ok-n.ensures.number c.in_ok-n.ensures.locals
    c.in_ok-whole.ensures refl c.put_value.ensures.value c.put_value.ensures.statements
