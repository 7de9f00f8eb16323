-- By the form of the type.
use Rattle.std.proofs.Common.{◌≡◌, [], List, Option, ap, sym, ◌∙◌, subst, unwrap_or}
use Rattle.std.proofs.lemmas.Result.{IfOk-weaker}
use Rattle.cc_program.specs.declared.types.CType.{CType}
use Rattle.cc_state_keys.specs.CcStateFacts.declared.facts.Key.{Key}
use Rattle.cc_state_scalars.proofs.Over.{void_over, func_over, int_over, pointer_over, array_over, struct_over}
use Rattle.cc_state_scalars.proofs.listed.+keys_over.Goals as goal
use Rattle.cc_state_scalars.specs.Listed.{AreKeysOver}

pub returns-in-Void : goal.returns-in-Void
returns-in-Void t c = let e : c.of.result ≡ [] = cc in subst (AreKeysOver c.args.table.now c.args.t.now c.args.key) (sym e) (void_over c.args.table.now c.args.t.now c.args.key c.in-Void.is)

pub returns-in-Func : goal.returns-in-Func
returns-in-Func t c = let e : c.of-in-Func.result ≡ [] = cc in subst (AreKeysOver c.args.table.now c.args.t.now c.args.key) (sym e) (func_over c.args.table.now c.args.t.now c.args.key c.in-Func.field-0 c.in-Func.is)

pub returns-in-Int : goal.returns-in-Int
returns-in-Int t c = IfOk-weaker c.one.result _ _ (λ r e. subst (AreKeysOver c.args.table.now c.args.t.now c.args.key) (sym e) (int_over c.args.table.now c.args.t.now c.args.key c.in-Int.field-0 c.in-Int.is)) c.one.ensures

pub returns-in-Pointer : goal.returns-in-Pointer
returns-in-Pointer t c =
    IfOk-weaker c.one-in-Pointer.result _ _ (λ r e. subst (AreKeysOver c.args.table.now c.args.t.now c.args.key) (sym e) (pointer_over c.args.table.now c.args.t.now c.args.key c.in-Pointer.field-0 c.in-Pointer.is)) c.one-in-Pointer.ensures

pub returns-in_ok-keys-in-Array : goal.returns-in_ok-keys-in-Array
returns-in_ok-keys-in-Array t c =
    let inner = subst (λ (x : CType). AreKeysOver c.args.table.now x c.args.key c.in_ok-keys-in-Array.keys) c.get.ensures c.in_ok-keys-in-Array.ensures in
    IfOk-weaker c.repeated.result _ _
    (λ r e. subst (AreKeysOver c.args.table.now c.args.t.now c.args.key) (sym e) (array_over c.args.table.now c.args.t.now c.args.key c.in-Array.of c.in-Array.n c.in_ok-keys-in-Array.keys c.in-Array.is inner)) c.repeated.ensures

pub returns-in-Struct : goal.returns-in-Struct
returns-in-Struct t c =
    IfOk-weaker c.of_structure.result _ _
    (λ r e. subst (AreKeysOver c.args.table.now c.args.t.now c.args.key) (sym (e ∙ ap (λ (o : Option (List Key)). unwrap_or o []) c.at.ensures)) (struct_over c.args.table.now c.args.t.now c.args.key c.in-Struct.s c.in-Struct.is)) c.of_structure.ensures
