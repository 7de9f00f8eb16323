-- The classes of each form of place.
use Rattle.std.proofs.Common.{rules, refl}
use Rattle.std.proofs.lemmas.Result.{IfOk-weaker}
use Rattle.cc_state_values.specs.CcStateOperators.Domains.{domain}
use Rattle.cc_state_reads.proofs.Classes.{local_classes, static_classes, device_classes, element_classes, member_classes}
use Rattle.cc_state_reads.proofs.named.+classes_of.Goals as goal
use Rattle.cc_state_values.proofs.Arms.{place_layer, as-Element, as-Member, as-Deref}
use Rattle.cc_state_values.proofs.Heights.{height-Element}
use Rattle.cc_state_values.proofs.Parts.{element_parts}

pub returns-in-Local : goal.returns-in-Local
returns-in-Local g t c = IfOk-weaker c.only_key.result _ _ (λ v k. local_classes (domain g.I.Concrete.Has g.I.Lattice.IsBelow g.I.IntDomain.OpGives g.I.IntDomain.OpOneGives g.I.IntDomain.ToGives g.I.IntDomain.KeepGives g.I.IntDomain.members_of) c.args.c.now c.args.a.now c.in-Local.r v.items c.in-Local.is k) c.only_key.ensures

pub returns-in-Static : goal.returns-in-Static
returns-in-Static g t c = IfOk-weaker c.only_key-in-Static.result _ _ (λ v k. static_classes (domain g.I.Concrete.Has g.I.Lattice.IsBelow g.I.IntDomain.OpGives g.I.IntDomain.OpOneGives g.I.IntDomain.ToGives g.I.IntDomain.KeepGives g.I.IntDomain.members_of) c.args.c.now c.args.a.now c.in-Static.i v.items c.in-Static.is k) c.only_key-in-Static.ensures

pub returns-in-Device : goal.returns-in-Device
returns-in-Device g t c = IfOk-weaker c.only_key-in-Device.result _ _ (λ v k. device_classes (domain g.I.Concrete.Has g.I.Lattice.IsBelow g.I.IntDomain.OpGives g.I.IntDomain.OpOneGives g.I.IntDomain.ToGives g.I.IntDomain.KeepGives g.I.IntDomain.members_of) c.args.c.now c.args.a.now c.in-Device.field-0 v.items c.in-Device.is k) c.only_key-in-Device.ensures

pub classes_of-requires : goal.classes_of-requires
classes_of-requires g t c =
    let o = as-Element c.args.a.now c.in-Element.b c.in-Element.field-1 c.get.result.now c.in-Element.field-1 c.in-Element.is c.get.ensures refl in
    let p = element_parts c.args.c.now.program.now c.args.c.now.func.now c.args.a.now c.get.result.now c.in-Element.field-1 o c.requires.pure in
    let q = p.0 in
    let k = height-Element c.args.a.now c.get.result.now c.in-Element.field-1 o in
    search (rules, q, k)

pub returns-in-Element : goal.returns-in-Element
returns-in-Element g t c =
    IfOk-weaker c.classes_of.result _ _ (λ v k. element_classes (domain g.I.Concrete.Has g.I.Lattice.IsBelow g.I.IntDomain.OpGives g.I.IntDomain.OpOneGives g.I.IntDomain.ToGives g.I.IntDomain.KeepGives g.I.IntDomain.members_of) c.args.c.now c.args.a.now c.get.result.now c.in-Element.field-1 v.items (as-Element c.args.a.now c.in-Element.b c.in-Element.field-1 c.get.result.now c.in-Element.field-1 c.in-Element.is c.get.ensures refl) k) c.classes_of.ensures

pub returns-in-Member : goal.returns-in-Member
returns-in-Member g t c =
    IfOk-weaker c.member_classes.result _ _ (λ v k. member_classes (domain g.I.Concrete.Has g.I.Lattice.IsBelow g.I.IntDomain.OpGives g.I.IntDomain.OpOneGives g.I.IntDomain.ToGives g.I.IntDomain.KeepGives g.I.IntDomain.members_of) c.args.c.now c.args.a.now c.get-in-Member.result.now c.in-Member.m v.items (as-Member c.args.a.now c.in-Member.b c.in-Member.m c.get-in-Member.result.now c.in-Member.is c.get-in-Member.ensures) k) c.member_classes.ensures

pub target_classes-requires-clause-pure : goal.target_classes-requires-clause-pure
target_classes-requires-clause-pure g t c =
    place_layer c.args.c.now.program.now c.args.c.now.func.now c.args.a.now (as-Deref c.args.a.now c.in-Deref.e c.get-in-Deref.result.now c.in-Deref.is c.get-in-Deref.ensures) c.requires.pure

pub returns-in-Deref : goal.returns-in-Deref
returns-in-Deref g t c =
    IfOk-weaker c.target_classes.result _ _ (λ v k. k c.args.a.now (as-Deref c.args.a.now c.in-Deref.e c.get-in-Deref.result.now c.in-Deref.is c.get-in-Deref.ensures)) c.target_classes.ensures
