-- Each arm gives what the definition gives of its kind: the parts by the calls' clauses, the whole by `opened`.
use Rattle.std.proofs.Common.{◌≡◌, ◌∙◌, ap, sym}
use Rattle.cc_program.specs.declared.expr.Expr.{Expr, Null, FuncAddr, Load, AddrOf, Un, Bin, Conv, Qualify, Move, Gap, Compare, Both, Either, Choose, Assign, Change, After, Call, Seq}
use Rattle.cc_program.specs.declared.expr.Expr.TheOpen as one
use Rattle.cc_program.specs.declared.expr.Expr.TheVariants.{rolls-Null, rolls-FuncAddr, rolls-Load, rolls-AddrOf, rolls-Un, rolls-Bin, rolls-Conv, rolls-Qualify, rolls-Move, rolls-Gap, rolls-Compare, rolls-Both, rolls-Either, rolls-Choose, rolls-Assign, rolls-Change, rolls-After, rolls-Call, rolls-Seq}
use Rattle.cc_unit.proofs.Opened.{opened}
use Rattle.cc_unit.specs.Renumbered.{expr_renumbered, place_renumbered, type_renumbered}
use Rattle.cc_unit.proofs.expr.+renumber.Goals as goal

pub renumber_expr-returns-in_ok-renumber_boxed_type-in-Null : goal.renumber_expr-returns-in_ok-renumber_boxed_type-in-Null
renumber_expr-returns-in_ok-renumber_boxed_type-in-Null t c =
    ap Null (c.in_ok-renumber_boxed_type-in-Null.ensures ∙ (ap (λ s. type_renumbered s c.get.result.now) c.all.ensures ∙ ap (type_renumbered c.args.ids.now.structures) c.get.ensures))
    ∙ opened c.args.ids.now c.args.e.now (one.Null c.in-Null.t) (c.in-Null.is ∙ sym (rolls-Null c.in-Null.t))

pub renumber_expr-returns-in-FuncAddr : goal.renumber_expr-returns-in-FuncAddr
renumber_expr-returns-in-FuncAddr t c =
    ap FuncAddr c.func_at.ensures
    ∙ opened c.args.ids.now c.args.e.now (one.FuncAddr c.in-FuncAddr.f) (c.in-FuncAddr.is ∙ sym (rolls-FuncAddr c.in-FuncAddr.f))

pub renumber_expr-returns-in_ok-renumber_boxed_place-in-Load : goal.renumber_expr-returns-in_ok-renumber_boxed_place-in-Load
renumber_expr-returns-in_ok-renumber_boxed_place-in-Load t c =
    ap Load (c.in_ok-renumber_boxed_place-in-Load.ensures ∙ ap (place_renumbered c.args.ids.now) c.get-in-Load.ensures)
    ∙ opened c.args.ids.now c.args.e.now (one.Load c.in-Load.p) (c.in-Load.is ∙ sym (rolls-Load c.in-Load.p))

pub renumber_expr-returns-in_ok-renumber_boxed_place-in-AddrOf : goal.renumber_expr-returns-in_ok-renumber_boxed_place-in-AddrOf
renumber_expr-returns-in_ok-renumber_boxed_place-in-AddrOf t c =
    ap AddrOf (c.in_ok-renumber_boxed_place-in-AddrOf.ensures ∙ ap (place_renumbered c.args.ids.now) c.get-in-AddrOf.ensures)
    ∙ opened c.args.ids.now c.args.e.now (one.AddrOf c.in-AddrOf.p) (c.in-AddrOf.is ∙ sym (rolls-AddrOf c.in-AddrOf.p))

pub renumber_expr-returns-in_ok-renumber_boxed-in-Un : goal.renumber_expr-returns-in_ok-renumber_boxed-in-Un
renumber_expr-returns-in_ok-renumber_boxed-in-Un t c =
    ap (Un c.in-Un.op c.in-Un.t) (c.in_ok-renumber_boxed-in-Un.ensures ∙ ap (expr_renumbered c.args.ids.now) c.get-in-Un.ensures)
    ∙ opened c.args.ids.now c.args.e.now (one.Un c.in-Un.op c.in-Un.t c.in-Un.a) (c.in-Un.is ∙ sym (rolls-Un c.in-Un.op c.in-Un.t c.in-Un.a))

pub renumber_expr-returns-in_ok-a-in-Bin : goal.renumber_expr-returns-in_ok-a-in-Bin
renumber_expr-returns-in_ok-a-in-Bin t c =
    ap (λ (p : Expr × Expr). Bin c.in-Bin.op c.in-Bin.t p.0 p.1) c.in_ok-a-in-Bin.ensures
    ∙ opened c.args.ids.now c.args.e.now (one.Bin c.in-Bin.op c.in-Bin.t c.in-Bin.a c.in-Bin.b) (c.in-Bin.is ∙ sym (rolls-Bin c.in-Bin.op c.in-Bin.t c.in-Bin.a c.in-Bin.b))

pub renumber_expr-returns-in_ok-renumber_boxed-in-Conv : goal.renumber_expr-returns-in_ok-renumber_boxed-in-Conv
renumber_expr-returns-in_ok-renumber_boxed-in-Conv t c =
    ap (Conv c.in-Conv.t) (c.in_ok-renumber_boxed-in-Conv.ensures ∙ ap (expr_renumbered c.args.ids.now) c.get-in-Conv.ensures)
    ∙ opened c.args.ids.now c.args.e.now (one.Conv c.in-Conv.t c.in-Conv.a) (c.in-Conv.is ∙ sym (rolls-Conv c.in-Conv.t c.in-Conv.a))

pub renumber_expr-returns-in_ok-renumber_boxed_type-in-Qualify : goal.renumber_expr-returns-in_ok-renumber_boxed_type-in-Qualify
renumber_expr-returns-in_ok-renumber_boxed_type-in-Qualify t c =
    let first = (c.in_ok-renumber_boxed_type-in-Qualify.ensures ∙ (ap (λ s. type_renumbered s c.get-in-Qualify-2.result.now) c.all-in-Qualify.ensures ∙ ap (type_renumbered c.args.ids.now.structures) c.get-in-Qualify-2.ensures)) in
    let second = (c.in_ok-a-in-Qualify.ensures ∙ ap (expr_renumbered c.args.ids.now) c.get-in-Qualify.ensures) in
    (λ j. Qualify (first j) (second j))
    ∙ opened c.args.ids.now c.args.e.now (one.Qualify c.in-Qualify.t c.in-Qualify.a) (c.in-Qualify.is ∙ sym (rolls-Qualify c.in-Qualify.t c.in-Qualify.a))

pub renumber_expr-returns-in_ok-a-in-Move : goal.renumber_expr-returns-in_ok-a-in-Move
renumber_expr-returns-in_ok-a-in-Move t c =
    ap (λ (p : Expr × Expr). Move p.0 p.1 c.in-Move.back) c.in_ok-a-in-Move.ensures
    ∙ opened c.args.ids.now c.args.e.now (one.Move c.in-Move.a c.in-Move.b c.in-Move.back) (c.in-Move.is ∙ sym (rolls-Move c.in-Move.a c.in-Move.b c.in-Move.back))

pub renumber_expr-returns-in_ok-a-in-Gap : goal.renumber_expr-returns-in_ok-a-in-Gap
renumber_expr-returns-in_ok-a-in-Gap t c =
    ap (λ (p : Expr × Expr). Gap p.0 p.1) c.in_ok-a-in-Gap.ensures
    ∙ opened c.args.ids.now c.args.e.now (one.Gap c.in-Gap.a c.in-Gap.b) (c.in-Gap.is ∙ sym (rolls-Gap c.in-Gap.a c.in-Gap.b))

pub renumber_expr-returns-in_ok-a-in-Compare : goal.renumber_expr-returns-in_ok-a-in-Compare
renumber_expr-returns-in_ok-a-in-Compare t c =
    ap (λ (p : Expr × Expr). Compare c.in-Compare.op p.0 p.1) c.in_ok-a-in-Compare.ensures
    ∙ opened c.args.ids.now c.args.e.now (one.Compare c.in-Compare.op c.in-Compare.a c.in-Compare.b) (c.in-Compare.is ∙ sym (rolls-Compare c.in-Compare.op c.in-Compare.a c.in-Compare.b))

pub renumber_expr-returns-in_ok-a-in-Both : goal.renumber_expr-returns-in_ok-a-in-Both
renumber_expr-returns-in_ok-a-in-Both t c =
    ap (λ (p : Expr × Expr). Both p.0 p.1) c.in_ok-a-in-Both.ensures
    ∙ opened c.args.ids.now c.args.e.now (one.Both c.in-Both.a c.in-Both.b) (c.in-Both.is ∙ sym (rolls-Both c.in-Both.a c.in-Both.b))

pub renumber_expr-returns-in_ok-a-in-Either : goal.renumber_expr-returns-in_ok-a-in-Either
renumber_expr-returns-in_ok-a-in-Either t c =
    ap (λ (p : Expr × Expr). Either p.0 p.1) c.in_ok-a-in-Either.ensures
    ∙ opened c.args.ids.now c.args.e.now (one.Either c.in-Either.a c.in-Either.b) (c.in-Either.is ∙ sym (rolls-Either c.in-Either.a c.in-Either.b))

pub renumber_expr-returns-in_ok-b-in-Choose : goal.renumber_expr-returns-in_ok-b-in-Choose
renumber_expr-returns-in_ok-b-in-Choose t c =
    let first = (c.in_ok-a-in-Choose.ensures ∙ ap (expr_renumbered c.args.ids.now) c.get-in-Choose.ensures) in
    let second = ap (λ (p : Expr × Expr). p) c.in_ok-b-in-Choose.ensures in
    (λ j. Choose (first j) (second j).0 (second j).1)
    ∙ opened c.args.ids.now c.args.e.now (one.Choose c.in-Choose.a c.in-Choose.b c.in-Choose.c) (c.in-Choose.is ∙ sym (rolls-Choose c.in-Choose.a c.in-Choose.b c.in-Choose.c))

pub renumber_expr-returns-in_ok-renumber_boxed_place-in-Assign : goal.renumber_expr-returns-in_ok-renumber_boxed_place-in-Assign
renumber_expr-returns-in_ok-renumber_boxed_place-in-Assign t c =
    let first = (c.in_ok-renumber_boxed_place-in-Assign.ensures ∙ ap (place_renumbered c.args.ids.now) c.get-in-Assign-2.ensures) in
    let second = (c.in_ok-a-in-Assign.ensures ∙ ap (expr_renumbered c.args.ids.now) c.get-in-Assign.ensures) in
    (λ j. Assign (first j) (second j))
    ∙ opened c.args.ids.now c.args.e.now (one.Assign c.in-Assign.p c.in-Assign.a) (c.in-Assign.is ∙ sym (rolls-Assign c.in-Assign.p c.in-Assign.a))

pub renumber_expr-returns-in_ok-renumber_boxed_place-in-Change : goal.renumber_expr-returns-in_ok-renumber_boxed_place-in-Change
renumber_expr-returns-in_ok-renumber_boxed_place-in-Change t c =
    let first = (c.in_ok-renumber_boxed_place-in-Change.ensures ∙ ap (place_renumbered c.args.ids.now) c.get-in-Change-2.ensures) in
    let second = (c.in_ok-a-in-Change.ensures ∙ ap (expr_renumbered c.args.ids.now) c.get-in-Change.ensures) in
    (λ j. Change (first j) c.in-Change.op c.in-Change.t (second j))
    ∙ opened c.args.ids.now c.args.e.now (one.Change c.in-Change.p c.in-Change.op c.in-Change.t c.in-Change.a) (c.in-Change.is ∙ sym (rolls-Change c.in-Change.p c.in-Change.op c.in-Change.t c.in-Change.a))

pub renumber_expr-returns-in_ok-renumber_boxed_place-in-After : goal.renumber_expr-returns-in_ok-renumber_boxed_place-in-After
renumber_expr-returns-in_ok-renumber_boxed_place-in-After t c =
    ap (λ p. After p c.in-After.down) (c.in_ok-renumber_boxed_place-in-After.ensures ∙ ap (place_renumbered c.args.ids.now) c.get-in-After.ensures)
    ∙ opened c.args.ids.now c.args.e.now (one.After c.in-After.p c.in-After.down) (c.in-After.is ∙ sym (rolls-After c.in-After.p c.in-After.down))

pub renumber_expr-returns-in_ok-renumber_boxed-in-Call : goal.renumber_expr-returns-in_ok-renumber_boxed-in-Call
renumber_expr-returns-in_ok-renumber_boxed-in-Call t c =
    let first = (c.in_ok-renumber_boxed-in-Call.ensures ∙ ap (expr_renumbered c.args.ids.now) c.get-in-Call.ensures) in
    let second = c.in_ok-args-in-Call.ensures in
    (λ j. Call (first j) (second j))
    ∙ opened c.args.ids.now c.args.e.now (one.Call c.in-Call.f c.in-Call.args) (c.in-Call.is ∙ sym (rolls-Call c.in-Call.f c.in-Call.args))

pub renumber_expr-returns-in_ok-a-in-Seq : goal.renumber_expr-returns-in_ok-a-in-Seq
renumber_expr-returns-in_ok-a-in-Seq t c =
    ap (λ (p : Expr × Expr). Seq p.0 p.1) c.in_ok-a-in-Seq.ensures
    ∙ opened c.args.ids.now c.args.e.now (one.Seq c.in-Seq.a c.in-Seq.b) (c.in-Seq.is ∙ sym (rolls-Seq c.in-Seq.a c.in-Seq.b))
