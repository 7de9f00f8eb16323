-- What each construct may give, from what its operands may give; and each is less high than what it is an operand of.
use Rattle.std.proofs.Common.{rules, ap, sym, ◌∙◌, subst, refl, option_map}
use Rattle.std.proofs.lemmas.Result.{IfOk-weaker}
use Rattle.cc_state_operators.specs.CcTyped.View.{place_view}
use Rattle.cc_state_operators.specs.Domains.{domain}
use Rattle.cc_state_operators.specs.Operands.{AreAddrs}
use Rattle.cc_state_values.specs.Contexts.{set_in}
use Rattle.cc_state_values.proofs.Arms.{one_known, one_works, two_known, two_work, arms_work, choice_known, const_works, const_given, null_given, function_given, pointers_known, qualified_known, local_designates, static_designates, device_designates, element_at, element_works, member_at, target_at, target_works, no_type, pure_layer, place_layer, as-Load, as-AddrOf, as-Un, as-Bin, as-Conv, as-Qualify, as-Move, as-Gap, as-Compare, as-Both, as-Either, as-Choose, as-Element, as-Member, as-Deref, not-Assign, not-Change, not-After, not-Call, not-Intr, not-Seq}
use Rattle.cc_state_values.proofs.Fits.{both_ok}
use Rattle.cc_state_values.proofs.Heights.{height-AddrOf, height-Un, height-Bin, height-Conv, height-Qualify, height-Move, height-Gap, height-Compare, height-Both, height-Either, height-Choose, height-Element, height-Member, height-Deref}
use Rattle.cc_state_values.proofs.Parts.{one_part, two_parts, choice_parts, qualified_part, addressed_part, element_parts, member_part, target_part}
use Rattle.cc_state_values.proofs.values.+values.Goals as goal

pub known-constant-requires : goal.known-constant-requires
known-constant-requires g t c =
    const_works (domain g.I.Concrete.Has g.I.Lattice.IsBelow g.I.IntDomain.OpGives g.I.IntDomain.OpOneGives g.I.IntDomain.ToGives g.I.IntDomain.KeepGives g.I.IntDomain.members_of) c.args.c.now.program.now c.args.c.now.id c.args.c.now.func.now (set_in c.args.c.now) c.args.e.now c.in-Const.n c.in-Const.field-1 c.in-Const.is c.requires.pure

pub known-returns-in-Const : goal.known-returns-in-Const
known-returns-in-Const g t c =
    const_given (domain g.I.Concrete.Has g.I.Lattice.IsBelow g.I.IntDomain.OpGives g.I.IntDomain.OpOneGives g.I.IntDomain.ToGives g.I.IntDomain.KeepGives g.I.IntDomain.members_of) c.args.c.now.program.now c.args.c.now.id c.args.c.now.func.now (set_in c.args.c.now) c.args.e.now c.in-Const.n c.in-Const.field-1 c.constant.result c.in-Const.is c.requires.pure c.constant.ensures

pub known-returns-in-Null : goal.known-returns-in-Null
known-returns-in-Null g t c =
    IfOk-weaker c.one_address.result _ _ (λ y h. null_given (domain g.I.Concrete.Has g.I.Lattice.IsBelow g.I.IntDomain.OpGives g.I.IntDomain.OpOneGives g.I.IntDomain.ToGives g.I.IntDomain.KeepGives g.I.IntDomain.members_of) c.args.c.now.program.now c.args.c.now.id c.args.c.now.func.now (set_in c.args.c.now) c.args.e.now c.in-Null.field-0 y c.in-Null.is c.requires.pure h) c.one_address.ensures

pub known-returns-in-FuncAddr : goal.known-returns-in-FuncAddr
known-returns-in-FuncAddr g t c =
    IfOk-weaker c.one_address-in-FuncAddr.result _ _ (λ y h. function_given (domain g.I.Concrete.Has g.I.Lattice.IsBelow g.I.IntDomain.OpGives g.I.IntDomain.OpOneGives g.I.IntDomain.ToGives g.I.IntDomain.KeepGives g.I.IntDomain.members_of) c.args.c.now.program.now c.args.c.now.id c.args.c.now.func.now (set_in c.args.c.now) c.args.e.now c.in-FuncAddr.g y c.in-FuncAddr.is c.requires.pure h) c.one_address-in-FuncAddr.ensures

pub known-register-requires-clause-pure : goal.known-register-requires-clause-pure
known-register-requires-clause-pure g t c =
    (c.args.e.now, (as-Load c.args.e.now c.in-Load.a c.get.result.now c.in-Load.is c.get.ensures), c.requires.pure)

pub known-returns-in-Load : goal.known-returns-in-Load
known-returns-in-Load g t c =
    IfOk-weaker c.register.result _ _ (λ y h. h c.args.e.now (as-Load c.args.e.now c.in-Load.a c.get.result.now c.in-Load.is c.get.ensures) c.requires.pure) c.register.ensures

pub known-pointers-requires : goal.known-pointers-requires
known-pointers-requires g t c =
    let p = addressed_part c.args.c.now.program.now c.args.c.now.func.now c.args.e.now c.get-in-AddrOf.result.now (as-AddrOf c.args.e.now c.in-AddrOf.a c.get-in-AddrOf.result.now c.in-AddrOf.is c.get-in-AddrOf.ensures) c.requires.pure in let k = height-AddrOf c.args.e.now c.get-in-AddrOf.result.now (as-AddrOf c.args.e.now c.in-AddrOf.a c.get-in-AddrOf.result.now c.in-AddrOf.is c.get-in-AddrOf.ensures) in search (rules, p, k)

pub known-returns-in-AddrOf : goal.known-returns-in-AddrOf
known-returns-in-AddrOf g t c =
    IfOk-weaker c.pointers.result _ _ (λ y h. pointers_known (domain g.I.Concrete.Has g.I.Lattice.IsBelow g.I.IntDomain.OpGives g.I.IntDomain.OpOneGives g.I.IntDomain.ToGives g.I.IntDomain.KeepGives g.I.IntDomain.members_of) c.args.c.now.program.now c.args.c.now.id c.args.c.now.func.now (set_in c.args.c.now) c.args.e.now c.get-in-AddrOf.result.now y (as-AddrOf c.args.e.now c.in-AddrOf.a c.get-in-AddrOf.result.now c.in-AddrOf.is c.get-in-AddrOf.ensures) h) c.pointers.ensures

pub known-of_one-requires : goal.known-of_one-requires
known-of_one-requires g t c =
    let p = pure_layer c.args.c.now.program.now c.args.c.now.func.now c.args.e.now (as-Un c.args.e.now c.in-Un.op c.in-Un.t c.in-Un.a c.get-in-Un.result.now c.in-Un.is c.get-in-Un.ensures) c.requires.pure in let k = height-Un c.args.e.now c.in-Un.op c.in-Un.t c.get-in-Un.result.now (as-Un c.args.e.now c.in-Un.op c.in-Un.t c.in-Un.a c.get-in-Un.result.now c.in-Un.is c.get-in-Un.ensures) in search (rules, p, k)

pub known-returns-in-Un : goal.known-returns-in-Un
known-returns-in-Un g t c =
    IfOk-weaker c.of_one.result _ _ (λ y h. h c.args.e.now (as-Un c.args.e.now c.in-Un.op c.in-Un.t c.in-Un.a c.get-in-Un.result.now c.in-Un.is c.get-in-Un.ensures) c.requires.pure) c.of_one.ensures

pub known-of_two-requires : goal.known-of_two-requires
known-of_two-requires g t c =
    let p = pure_layer c.args.c.now.program.now c.args.c.now.func.now c.args.e.now (as-Bin c.args.e.now c.in-Bin.op c.in-Bin.t c.in-Bin.a c.in-Bin.b c.get-in-Bin.result.now c.get-in-Bin-2.result.now c.in-Bin.is c.get-in-Bin.ensures c.get-in-Bin-2.ensures) c.requires.pure in let k = height-Bin c.args.e.now c.in-Bin.op c.in-Bin.t c.get-in-Bin.result.now c.get-in-Bin-2.result.now (as-Bin c.args.e.now c.in-Bin.op c.in-Bin.t c.in-Bin.a c.in-Bin.b c.get-in-Bin.result.now c.get-in-Bin-2.result.now c.in-Bin.is c.get-in-Bin.ensures c.get-in-Bin-2.ensures) in search (rules, p, k)

pub known-returns-in-Bin : goal.known-returns-in-Bin
known-returns-in-Bin g t c =
    IfOk-weaker c.of_two.result _ _ (λ y h. h c.args.e.now (as-Bin c.args.e.now c.in-Bin.op c.in-Bin.t c.in-Bin.a c.in-Bin.b c.get-in-Bin.result.now c.get-in-Bin-2.result.now c.in-Bin.is c.get-in-Bin.ensures c.get-in-Bin-2.ensures) c.requires.pure) c.of_two.ensures

pub known-of_one-requires-in-Conv : goal.known-of_one-requires-in-Conv
known-of_one-requires-in-Conv g t c =
    let p = pure_layer c.args.c.now.program.now c.args.c.now.func.now c.args.e.now (as-Conv c.args.e.now c.in-Conv.t c.in-Conv.a c.get-in-Conv.result.now c.in-Conv.is c.get-in-Conv.ensures) c.requires.pure in let k = height-Conv c.args.e.now c.in-Conv.t c.get-in-Conv.result.now (as-Conv c.args.e.now c.in-Conv.t c.in-Conv.a c.get-in-Conv.result.now c.in-Conv.is c.get-in-Conv.ensures) in search (rules, p, k)

pub known-returns-in-Conv : goal.known-returns-in-Conv
known-returns-in-Conv g t c =
    IfOk-weaker c.of_one-in-Conv.result _ _ (λ y h. h c.args.e.now (as-Conv c.args.e.now c.in-Conv.t c.in-Conv.a c.get-in-Conv.result.now c.in-Conv.is c.get-in-Conv.ensures) c.requires.pure) c.of_one-in-Conv.ensures

pub known-known-requires : goal.known-known-requires
known-known-requires g t c =
    let p = qualified_part c.args.c.now.program.now c.args.c.now.func.now c.args.e.now c.get-in-Qualify.result.now c.in-Qualify.field-0 (as-Qualify c.args.e.now c.in-Qualify.field-0 c.in-Qualify.a c.get-in-Qualify.result.now c.in-Qualify.is c.get-in-Qualify.ensures) c.requires.pure in let k = height-Qualify c.args.e.now c.in-Qualify.field-0 c.get-in-Qualify.result.now (as-Qualify c.args.e.now c.in-Qualify.field-0 c.in-Qualify.a c.get-in-Qualify.result.now c.in-Qualify.is c.get-in-Qualify.ensures) in search (rules, p, k)

pub known-returns-in-Qualify : goal.known-returns-in-Qualify
known-returns-in-Qualify g t c =
    IfOk-weaker c.known.result _ _ (λ y h. qualified_known (domain g.I.Concrete.Has g.I.Lattice.IsBelow g.I.IntDomain.OpGives g.I.IntDomain.OpOneGives g.I.IntDomain.ToGives g.I.IntDomain.KeepGives g.I.IntDomain.members_of) c.args.c.now.program.now c.args.c.now.id c.args.c.now.func.now (set_in c.args.c.now) c.args.e.now c.get-in-Qualify.result.now c.in-Qualify.field-0 y (as-Qualify c.args.e.now c.in-Qualify.field-0 c.in-Qualify.a c.get-in-Qualify.result.now c.in-Qualify.is c.get-in-Qualify.ensures) h) c.known.ensures

pub known-of_two-requires-in-Move : goal.known-of_two-requires-in-Move
known-of_two-requires-in-Move g t c =
    let p = pure_layer c.args.c.now.program.now c.args.c.now.func.now c.args.e.now (as-Move c.args.e.now c.in-Move.a c.in-Move.b c.in-Move.back c.get-in-Move.result.now c.get-in-Move-2.result.now c.in-Move.is c.get-in-Move.ensures c.get-in-Move-2.ensures) c.requires.pure in let k = height-Move c.args.e.now c.get-in-Move.result.now c.get-in-Move-2.result.now c.in-Move.back (as-Move c.args.e.now c.in-Move.a c.in-Move.b c.in-Move.back c.get-in-Move.result.now c.get-in-Move-2.result.now c.in-Move.is c.get-in-Move.ensures c.get-in-Move-2.ensures) in search (rules, p, k)

pub known-returns-in-Move : goal.known-returns-in-Move
known-returns-in-Move g t c =
    IfOk-weaker c.of_two-in-Move.result _ _ (λ y h. h c.args.e.now (as-Move c.args.e.now c.in-Move.a c.in-Move.b c.in-Move.back c.get-in-Move.result.now c.get-in-Move-2.result.now c.in-Move.is c.get-in-Move.ensures c.get-in-Move-2.ensures) c.requires.pure) c.of_two-in-Move.ensures

pub known-of_two-requires-in-Gap : goal.known-of_two-requires-in-Gap
known-of_two-requires-in-Gap g t c =
    let p = pure_layer c.args.c.now.program.now c.args.c.now.func.now c.args.e.now (as-Gap c.args.e.now c.in-Gap.a c.in-Gap.b c.get-in-Gap.result.now c.get-in-Gap-2.result.now c.in-Gap.is c.get-in-Gap.ensures c.get-in-Gap-2.ensures) c.requires.pure in let k = height-Gap c.args.e.now c.get-in-Gap.result.now c.get-in-Gap-2.result.now (as-Gap c.args.e.now c.in-Gap.a c.in-Gap.b c.get-in-Gap.result.now c.get-in-Gap-2.result.now c.in-Gap.is c.get-in-Gap.ensures c.get-in-Gap-2.ensures) in search (rules, p, k)

pub known-returns-in-Gap : goal.known-returns-in-Gap
known-returns-in-Gap g t c =
    IfOk-weaker c.of_two-in-Gap.result _ _ (λ y h. h c.args.e.now (as-Gap c.args.e.now c.in-Gap.a c.in-Gap.b c.get-in-Gap.result.now c.get-in-Gap-2.result.now c.in-Gap.is c.get-in-Gap.ensures c.get-in-Gap-2.ensures) c.requires.pure) c.of_two-in-Gap.ensures

pub known-of_two-requires-in-Compare : goal.known-of_two-requires-in-Compare
known-of_two-requires-in-Compare g t c =
    let p = pure_layer c.args.c.now.program.now c.args.c.now.func.now c.args.e.now (as-Compare c.args.e.now c.in-Compare.op c.in-Compare.a c.in-Compare.b c.get-in-Compare.result.now c.get-in-Compare-2.result.now c.in-Compare.is c.get-in-Compare.ensures c.get-in-Compare-2.ensures) c.requires.pure in let k = height-Compare c.args.e.now c.in-Compare.op c.get-in-Compare.result.now c.get-in-Compare-2.result.now (as-Compare c.args.e.now c.in-Compare.op c.in-Compare.a c.in-Compare.b c.get-in-Compare.result.now c.get-in-Compare-2.result.now c.in-Compare.is c.get-in-Compare.ensures c.get-in-Compare-2.ensures) in search (rules, p, k)

pub known-returns-in-Compare : goal.known-returns-in-Compare
known-returns-in-Compare g t c =
    IfOk-weaker c.of_two-in-Compare.result _ _ (λ y h. h c.args.e.now (as-Compare c.args.e.now c.in-Compare.op c.in-Compare.a c.in-Compare.b c.get-in-Compare.result.now c.get-in-Compare-2.result.now c.in-Compare.is c.get-in-Compare.ensures c.get-in-Compare-2.ensures) c.requires.pure) c.of_two-in-Compare.ensures

pub known-of_two-requires-in-Both : goal.known-of_two-requires-in-Both
known-of_two-requires-in-Both g t c =
    let p = pure_layer c.args.c.now.program.now c.args.c.now.func.now c.args.e.now (as-Both c.args.e.now c.in-Both.a c.in-Both.b c.get-in-Both.result.now c.get-in-Both-2.result.now c.in-Both.is c.get-in-Both.ensures c.get-in-Both-2.ensures) c.requires.pure in let k = height-Both c.args.e.now c.get-in-Both.result.now c.get-in-Both-2.result.now (as-Both c.args.e.now c.in-Both.a c.in-Both.b c.get-in-Both.result.now c.get-in-Both-2.result.now c.in-Both.is c.get-in-Both.ensures c.get-in-Both-2.ensures) in search (rules, p, k)

pub known-returns-in-Both : goal.known-returns-in-Both
known-returns-in-Both g t c =
    IfOk-weaker c.of_two-in-Both.result _ _ (λ y h. h c.args.e.now (as-Both c.args.e.now c.in-Both.a c.in-Both.b c.get-in-Both.result.now c.get-in-Both-2.result.now c.in-Both.is c.get-in-Both.ensures c.get-in-Both-2.ensures) c.requires.pure) c.of_two-in-Both.ensures

pub known-of_two-requires-in-Either : goal.known-of_two-requires-in-Either
known-of_two-requires-in-Either g t c =
    let p = pure_layer c.args.c.now.program.now c.args.c.now.func.now c.args.e.now (as-Either c.args.e.now c.in-Either.a c.in-Either.b c.get-in-Either.result.now c.get-in-Either-2.result.now c.in-Either.is c.get-in-Either.ensures c.get-in-Either-2.ensures) c.requires.pure in let k = height-Either c.args.e.now c.get-in-Either.result.now c.get-in-Either-2.result.now (as-Either c.args.e.now c.in-Either.a c.in-Either.b c.get-in-Either.result.now c.get-in-Either-2.result.now c.in-Either.is c.get-in-Either.ensures c.get-in-Either-2.ensures) in search (rules, p, k)

pub known-returns-in-Either : goal.known-returns-in-Either
known-returns-in-Either g t c =
    IfOk-weaker c.of_two-in-Either.result _ _ (λ y h. h c.args.e.now (as-Either c.args.e.now c.in-Either.a c.in-Either.b c.get-in-Either.result.now c.get-in-Either-2.result.now c.in-Either.is c.get-in-Either.ensures c.get-in-Either-2.ensures) c.requires.pure) c.of_two-in-Either.ensures

pub known-choice-requires : goal.known-choice-requires
known-choice-requires g t c =
    let p = pure_layer c.args.c.now.program.now c.args.c.now.func.now c.args.e.now (as-Choose c.args.e.now c.in-Choose.d c.in-Choose.a c.in-Choose.b c.get-in-Choose.result.now c.get-in-Choose-2.result.now c.get-in-Choose-3.result.now c.in-Choose.is c.get-in-Choose.ensures c.get-in-Choose-2.ensures c.get-in-Choose-3.ensures) c.requires.pure in let k = height-Choose c.args.e.now c.get-in-Choose.result.now c.get-in-Choose-2.result.now c.get-in-Choose-3.result.now (as-Choose c.args.e.now c.in-Choose.d c.in-Choose.a c.in-Choose.b c.get-in-Choose.result.now c.get-in-Choose-2.result.now c.get-in-Choose-3.result.now c.in-Choose.is c.get-in-Choose.ensures c.get-in-Choose-2.ensures c.get-in-Choose-3.ensures) in search (rules, p, k)

pub known-returns-in-Choose : goal.known-returns-in-Choose
known-returns-in-Choose g t c =
    IfOk-weaker c.choice.result _ _ (λ y h. h c.args.e.now (as-Choose c.args.e.now c.in-Choose.d c.in-Choose.a c.in-Choose.b c.get-in-Choose.result.now c.get-in-Choose-2.result.now c.get-in-Choose-3.result.now c.in-Choose.is c.get-in-Choose.ensures c.get-in-Choose-2.ensures c.get-in-Choose-3.ensures) c.requires.pure) c.choice.ensures

pub known-unreachable-requires : goal.known-unreachable-requires
known-unreachable-requires g t c =
    not-Assign c.args.c.now.program.now c.args.c.now.func.now c.args.e.now c.requires.pure c.in-Assign.field-0 c.in-Assign.field-1 c.in-Assign.is

pub known-unreachable-requires-in-Change : goal.known-unreachable-requires-in-Change
known-unreachable-requires-in-Change g t c =
    not-Change c.args.c.now.program.now c.args.c.now.func.now c.args.e.now c.requires.pure c.in-Change.field-0 c.in-Change.field-1 c.in-Change.field-2 c.in-Change.field-3 c.in-Change.is

pub known-unreachable-requires-in-After : goal.known-unreachable-requires-in-After
known-unreachable-requires-in-After g t c =
    not-After c.args.c.now.program.now c.args.c.now.func.now c.args.e.now c.requires.pure c.in-After.field-0 c.in-After.field-1 c.in-After.is

pub known-unreachable-requires-in-Call : goal.known-unreachable-requires-in-Call
known-unreachable-requires-in-Call g t c =
    not-Call c.args.c.now.program.now c.args.c.now.func.now c.args.e.now c.requires.pure c.in-Call.field-0 c.in-Call.field-1 c.in-Call.is

pub known-unreachable-requires-in-Intr : goal.known-unreachable-requires-in-Intr
known-unreachable-requires-in-Intr g t c =
    not-Intr c.args.c.now.program.now c.args.c.now.func.now c.args.e.now c.requires.pure c.in-Intr.field-0 c.in-Intr.field-1 c.in-Intr.is

pub known-unreachable-requires-in-Seq : goal.known-unreachable-requires-in-Seq
known-unreachable-requires-in-Seq g t c =
    not-Seq c.args.c.now.program.now c.args.c.now.func.now c.args.e.now c.requires.pure c.in-Seq.field-0 c.in-Seq.field-1 c.in-Seq.is

-- ---- the pointers to a place

pub pointers-returns : goal.pointers-returns
pointers-returns g t c =
    (c.in_ok-designated.field-0, c.in_ok-designated.ensures, refl)

-- ---- one operand

pub of_one-known-requires : goal.of_one-known-requires
of_one-known-requires g t c =
    let (e, h, pure) = c.requires.pure in let p = one_part c.args.c.now.program.now c.args.c.now.func.now c.args.kind e c.args.a.now h pure in search (rules, p)

pub of_one-result_of_one-requires : goal.of_one-result_of_one-requires
of_one-result_of_one-requires g t c =
    one_works (domain g.I.Concrete.Has g.I.Lattice.IsBelow g.I.IntDomain.OpGives g.I.IntDomain.OpOneGives g.I.IntDomain.ToGives g.I.IntDomain.KeepGives g.I.IntDomain.members_of) c.args.c.now.program.now c.args.c.now.id c.args.c.now.func.now (set_in c.args.c.now) c.args.kind c.args.a.now c.in_ok-x.x c.requires.pure c.in_ok-x.ensures

pub of_one-returns : goal.of_one-returns
of_one-returns g t c =
    λ e h pure. one_known (domain g.I.Concrete.Has g.I.Lattice.IsBelow g.I.IntDomain.OpGives g.I.IntDomain.OpOneGives g.I.IntDomain.ToGives g.I.IntDomain.KeepGives g.I.IntDomain.members_of) c.args.c.now.program.now c.args.c.now.id c.args.c.now.func.now (set_in c.args.c.now) c.args.kind c.args.a.now c.in_ok-x.x c.result_of_one.result c.in_ok-x.ensures (one_works (domain g.I.Concrete.Has g.I.Lattice.IsBelow g.I.IntDomain.OpGives g.I.IntDomain.OpOneGives g.I.IntDomain.ToGives g.I.IntDomain.KeepGives g.I.IntDomain.members_of) c.args.c.now.program.now c.args.c.now.id c.args.c.now.func.now (set_in c.args.c.now) c.args.kind c.args.a.now c.in_ok-x.x c.requires.pure c.in_ok-x.ensures) c.result_of_one.ensures.gives c.result_of_one.ensures.typed e h pure

-- ---- two operands

pub of_two-known-requires : goal.of_two-known-requires
of_two-known-requires g t c =
    let (e, h, pure) = c.requires.pure in let p = two_parts c.args.c.now.program.now c.args.c.now.func.now c.args.kind e c.args.a.now c.args.b.now h pure in let q = p.0 in search (rules, q)

pub of_two-known-requires-2 : goal.of_two-known-requires-2
of_two-known-requires-2 g t c =
    let (e, h, pure) = c.requires.pure in let p = two_parts c.args.c.now.program.now c.args.c.now.func.now c.args.kind e c.args.a.now c.args.b.now h pure in let q = p.1 in search (rules, q)

pub of_two-result_of_two-requires : goal.of_two-result_of_two-requires
of_two-result_of_two-requires g t c =
    two_work (domain g.I.Concrete.Has g.I.Lattice.IsBelow g.I.IntDomain.OpGives g.I.IntDomain.OpOneGives g.I.IntDomain.ToGives g.I.IntDomain.KeepGives g.I.IntDomain.members_of) c.args.c.now.program.now c.args.c.now.id c.args.c.now.func.now (set_in c.args.c.now) c.args.kind c.args.a.now c.args.b.now c.in_ok-x.x c.in_ok-w.w c.requires.pure c.in_ok-x.ensures c.in_ok-w.ensures

pub of_two-returns : goal.of_two-returns
of_two-returns g t c =
    both_ok c.result_of_two.result _ _ _ (λ y q r. λ e h pure. two_known (domain g.I.Concrete.Has g.I.Lattice.IsBelow g.I.IntDomain.OpGives g.I.IntDomain.OpOneGives g.I.IntDomain.ToGives g.I.IntDomain.KeepGives g.I.IntDomain.members_of) c.args.c.now.program.now c.args.c.now.id c.args.c.now.func.now (set_in c.args.c.now) c.args.kind c.args.a.now c.args.b.now c.in_ok-x.x c.in_ok-w.w y c.in_ok-x.ensures c.in_ok-w.ensures (two_work (domain g.I.Concrete.Has g.I.Lattice.IsBelow g.I.IntDomain.OpGives g.I.IntDomain.OpOneGives g.I.IntDomain.ToGives g.I.IntDomain.KeepGives g.I.IntDomain.members_of) c.args.c.now.program.now c.args.c.now.id c.args.c.now.func.now (set_in c.args.c.now) c.args.kind c.args.a.now c.args.b.now c.in_ok-x.x c.in_ok-w.w c.requires.pure c.in_ok-x.ensures c.in_ok-w.ensures) q r e h pure) c.result_of_two.ensures.gives c.result_of_two.ensures.typed

-- ---- a choice

pub choice-known-requires : goal.choice-known-requires
choice-known-requires g t c =
    let (e, h, pure) = c.requires.pure in let p = choice_parts c.args.c.now.program.now c.args.c.now.func.now e c.args.d.now c.args.a.now c.args.b.now h pure in let q = p.0 in search (rules, q)

pub choice-known-requires-2 : goal.choice-known-requires-2
choice-known-requires-2 g t c =
    let (e, h, pure) = c.requires.pure in let p = choice_parts c.args.c.now.program.now c.args.c.now.func.now e c.args.d.now c.args.a.now c.args.b.now h pure in let q = p.1 in search (rules, q)

pub choice-known-requires-3 : goal.choice-known-requires-3
choice-known-requires-3 g t c =
    let (e, h, pure) = c.requires.pure in let p = choice_parts c.args.c.now.program.now c.args.c.now.func.now e c.args.d.now c.args.a.now c.args.b.now h pure in let q = p.2 in search (rules, q)

pub choice-chosen-requires : goal.choice-chosen-requires
choice-chosen-requires g t c =
    arms_work (domain g.I.Concrete.Has g.I.Lattice.IsBelow g.I.IntDomain.OpGives g.I.IntDomain.OpOneGives g.I.IntDomain.ToGives g.I.IntDomain.KeepGives g.I.IntDomain.members_of) c.args.c.now.program.now c.args.c.now.id c.args.c.now.func.now (set_in c.args.c.now) c.args.d.now c.args.a.now c.args.b.now c.in_ok-x.x c.in_ok-w.w c.requires.pure c.in_ok-x.ensures c.in_ok-w.ensures

pub choice-returns : goal.choice-returns
choice-returns g t c =
    both_ok c.chosen.result _ _ _ (λ y q r. λ e h pure. choice_known (domain g.I.Concrete.Has g.I.Lattice.IsBelow g.I.IntDomain.OpGives g.I.IntDomain.OpOneGives g.I.IntDomain.ToGives g.I.IntDomain.KeepGives g.I.IntDomain.members_of) c.args.c.now.program.now c.args.c.now.id c.args.c.now.func.now (set_in c.args.c.now) c.args.d.now c.args.a.now c.args.b.now c.in_ok-condition.condition c.in_ok-x.x c.in_ok-w.w y c.in_ok-condition.ensures c.in_ok-x.ensures c.in_ok-w.ensures q r e h pure) c.chosen.ensures.union c.chosen.ensures.typed

-- ---- places

pub designated-returns-in-Local : goal.designated-returns-in-Local
designated-returns-in-Local g t c =
    IfOk-weaker c.object.result _ _ (λ s h. local_designates (domain g.I.Concrete.Has g.I.Lattice.IsBelow g.I.IntDomain.OpGives g.I.IntDomain.OpOneGives g.I.IntDomain.ToGives g.I.IntDomain.KeepGives g.I.IntDomain.members_of) c.args.c.now.program.now c.args.c.now.id c.args.c.now.func.now (set_in c.args.c.now) c.args.a.now c.in-Local.r s c.in-Local.is h) c.object.ensures

pub designated-returns-in-Static : goal.designated-returns-in-Static
designated-returns-in-Static g t c =
    IfOk-weaker c.object-in-Static.result _ _ (λ s h. static_designates (domain g.I.Concrete.Has g.I.Lattice.IsBelow g.I.IntDomain.OpGives g.I.IntDomain.OpOneGives g.I.IntDomain.ToGives g.I.IntDomain.KeepGives g.I.IntDomain.members_of) c.args.c.now.program.now c.args.c.now.id c.args.c.now.func.now (set_in c.args.c.now) c.args.a.now c.in-Static.i s c.in-Static.is h) c.object-in-Static.ensures

pub designated-returns-in-Device : goal.designated-returns-in-Device
designated-returns-in-Device g t c =
    device_designates (domain g.I.Concrete.Has g.I.Lattice.IsBelow g.I.IntDomain.OpGives g.I.IntDomain.OpOneGives g.I.IntDomain.ToGives g.I.IntDomain.KeepGives g.I.IntDomain.members_of) c.args.c.now.program.now c.args.c.now.id c.args.c.now.func.now (set_in c.args.c.now) c.args.a.now c.in-Device.field-0 c.none.result c.in-Device.is c.none.ensures.exact c.none.ensures.members

pub designated-element-requires : goal.designated-element-requires
designated-element-requires g t c =
    let p = place_layer c.args.c.now.program.now c.args.c.now.func.now c.args.a.now (as-Element c.args.a.now c.in-Element.b c.in-Element.i c.get.result.now c.get-in-Element.result.now c.in-Element.is c.get.ensures c.get-in-Element.ensures) c.requires.pure in let k = height-Element c.args.a.now c.get.result.now c.get-in-Element.result.now (as-Element c.args.a.now c.in-Element.b c.in-Element.i c.get.result.now c.get-in-Element.result.now c.in-Element.is c.get.ensures c.get-in-Element.ensures) in search (rules, p, k)

pub designated-returns-in-Element : goal.designated-returns-in-Element
designated-returns-in-Element g t c =
    IfOk-weaker c.element.result _ _ (λ s h. h c.args.a.now (as-Element c.args.a.now c.in-Element.b c.in-Element.i c.get.result.now c.get-in-Element.result.now c.in-Element.is c.get.ensures c.get-in-Element.ensures) c.requires.pure) c.element.ensures

pub designated-member-requires : goal.designated-member-requires
designated-member-requires g t c =
    let p = place_layer c.args.c.now.program.now c.args.c.now.func.now c.args.a.now (as-Member c.args.a.now c.in-Member.b c.in-Member.m c.get-in-Member.result.now c.in-Member.is c.get-in-Member.ensures) c.requires.pure in let k = height-Member c.args.a.now c.get-in-Member.result.now c.in-Member.m (as-Member c.args.a.now c.in-Member.b c.in-Member.m c.get-in-Member.result.now c.in-Member.is c.get-in-Member.ensures) in search (rules, p, k)

pub designated-returns-in-Member : goal.designated-returns-in-Member
designated-returns-in-Member g t c =
    IfOk-weaker c.member.result _ _ (λ s h. h c.args.a.now (as-Member c.args.a.now c.in-Member.b c.in-Member.m c.get-in-Member.result.now c.in-Member.is c.get-in-Member.ensures) c.requires.pure) c.member.ensures

pub designated-target-requires : goal.designated-target-requires
designated-target-requires g t c =
    let p = place_layer c.args.c.now.program.now c.args.c.now.func.now c.args.a.now (as-Deref c.args.a.now c.in-Deref.e c.get-in-Deref.result.now c.in-Deref.is c.get-in-Deref.ensures) c.requires.pure in let k = height-Deref c.args.a.now c.get-in-Deref.result.now (as-Deref c.args.a.now c.in-Deref.e c.get-in-Deref.result.now c.in-Deref.is c.get-in-Deref.ensures) in search (rules, p, k)

pub designated-returns-in-Deref : goal.designated-returns-in-Deref
designated-returns-in-Deref g t c =
    IfOk-weaker c.target.result _ _ (λ s h. h c.args.a.now (as-Deref c.args.a.now c.in-Deref.e c.get-in-Deref.result.now c.in-Deref.is c.get-in-Deref.ensures) c.requires.pure) c.target.ensures

pub element-designated-requires : goal.element-designated-requires
element-designated-requires g t c =
    let (a, h, pure) = c.requires.pure in let p = element_parts c.args.c.now.program.now c.args.c.now.func.now a c.args.b.now c.args.i.now h pure in let q = p.0 in search (rules, q)

pub element-known-requires : goal.element-known-requires
element-known-requires g t c =
    let (a, h, pure) = c.requires.pure in let p = element_parts c.args.c.now.program.now c.args.c.now.func.now a c.args.b.now c.args.i.now h pure in let q = p.1 in search (rules, q)

pub element-unreachable-requires : goal.element-unreachable-requires
element-unreachable-requires g t c =
    let (a, h, pure) = c.requires.pure in let p = element_parts c.args.c.now.program.now c.args.c.now.func.now a c.args.b.now c.args.i.now h pure in no_type c.args.c.now.program.now c.args.c.now.func.now c.args.b.now (option_map place_view c.place_type.result) p.0 c.place_type.ensures (ap (option_map place_view) c.in-None.is)

pub element-integers-requires : goal.element-integers-requires
element-integers-requires g t c =
    element_works (domain g.I.Concrete.Has g.I.Lattice.IsBelow g.I.IntDomain.OpGives g.I.IntDomain.OpOneGives g.I.IntDomain.ToGives g.I.IntDomain.KeepGives g.I.IntDomain.members_of) c.args.c.now.program.now c.args.c.now.id c.args.c.now.func.now (set_in c.args.c.now) c.args.b.now c.args.i.now c.in_ok-x.x c.requires.pure c.in_ok-x.ensures

pub element-returns : goal.element-returns
element-returns g t c =
    IfOk-weaker c.elements.result _ _ (λ s k. λ a h pure. element_at (domain g.I.Concrete.Has g.I.Lattice.IsBelow g.I.IntDomain.OpGives g.I.IntDomain.OpOneGives g.I.IntDomain.ToGives g.I.IntDomain.KeepGives g.I.IntDomain.members_of) c.args.c.now.program.now c.args.c.now.id c.args.c.now.func.now (set_in c.args.c.now) a c.args.b.now c.args.i.now c.in_ok-s.s s c.in_ok-x.x c.integers.result.now (place_view c.in-Some.t) h (sym c.place_type.ensures ∙ ap (option_map place_view) c.in-Some.is) c.in_ok-s.ensures c.in_ok-x.ensures c.integers.ensures k) c.elements.ensures

pub member-designated-requires : goal.member-designated-requires
member-designated-requires g t c =
    let (a, h, pure) = c.requires.pure in let p = member_part c.args.c.now.program.now c.args.c.now.func.now a c.args.b.now c.args.m h pure in search (rules, p)

pub member-unreachable-requires : goal.member-unreachable-requires
member-unreachable-requires g t c =
    let (a, h, pure) = c.requires.pure in let p = member_part c.args.c.now.program.now c.args.c.now.func.now a c.args.b.now c.args.m h pure in no_type c.args.c.now.program.now c.args.c.now.func.now c.args.b.now (option_map place_view c.place_type.result) p c.place_type.ensures (ap (option_map place_view) c.in-None.is)

pub member-returns : goal.member-returns
member-returns g t c =
    IfOk-weaker c.members.result _ _ (λ s k. λ a h pure. member_at (domain g.I.Concrete.Has g.I.Lattice.IsBelow g.I.IntDomain.OpGives g.I.IntDomain.OpOneGives g.I.IntDomain.ToGives g.I.IntDomain.KeepGives g.I.IntDomain.members_of) c.args.c.now.program.now c.args.c.now.id c.args.c.now.func.now (set_in c.args.c.now) a c.args.b.now c.args.m (place_view c.in-Some.t) c.in_ok-s.s s h (sym c.place_type.ensures ∙ ap (option_map place_view) c.in-Some.is) c.in_ok-s.ensures k) c.members.ensures

pub target-known-requires : goal.target-known-requires
target-known-requires g t c =
    let (a, h, pure) = c.requires.pure in let p = target_part c.args.c.now.program.now c.args.c.now.func.now a c.args.e.now h pure in search (rules, p)

pub target-unreachable-requires : goal.target-unreachable-requires
target-unreachable-requires g t c =
    subst AreAddrs c.in-Ints.is (target_works (domain g.I.Concrete.Has g.I.Lattice.IsBelow g.I.IntDomain.OpGives g.I.IntDomain.OpOneGives g.I.IntDomain.ToGives g.I.IntDomain.KeepGives g.I.IntDomain.members_of) c.args.c.now.program.now c.args.c.now.id c.args.c.now.func.now (set_in c.args.c.now) c.args.e.now c.in_ok-known.field-0 c.requires.pure c.in_ok-known.ensures)

pub target-returns : goal.target-returns
target-returns g t c =
    λ a h pure. target_at (domain g.I.Concrete.Has g.I.Lattice.IsBelow g.I.IntDomain.OpGives g.I.IntDomain.OpOneGives g.I.IntDomain.ToGives g.I.IntDomain.KeepGives g.I.IntDomain.members_of) c.args.c.now.program.now c.args.c.now.id c.args.c.now.func.now (set_in c.args.c.now) a c.args.e.now c.in_ok-known.field-0 c.in-Addrs.s h c.in_ok-known.ensures c.in-Addrs.is
