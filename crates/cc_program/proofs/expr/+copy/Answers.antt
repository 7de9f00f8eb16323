-- Each arm gives an expression of its kind with the same parts.
use Rattle.std.proofs.Common.{◌∙◌, ap, sym}
use Rattle.cc_program.specs.declared.expr.Expr.{Expr, Null, Load, AddrOf, Un, Bin, Conv, Qualify, Move, Gap, Compare, Both, Either, Choose, Assign, Change, After, Call, Seq}
use Rattle.cc_program.proofs.expr.+copy.Goals as goal

pub Expr::copy-returns-in_ok-copy_boxed-in-Null : goal.Expr::copy-returns-in_ok-copy_boxed-in-Null
Expr::copy-returns-in_ok-copy_boxed-in-Null t c = ap Null (c.in_ok-copy_boxed-in-Null.ensures ∙ c.get.ensures) ∙ sym c.in-Null.is

pub Expr::copy-returns-in-FuncAddr : goal.Expr::copy-returns-in-FuncAddr
Expr::copy-returns-in-FuncAddr t c = sym c.in-FuncAddr.is

pub Expr::copy-returns-in_ok-copy_boxed-in-Load : goal.Expr::copy-returns-in_ok-copy_boxed-in-Load
Expr::copy-returns-in_ok-copy_boxed-in-Load t c = ap Load (c.in_ok-copy_boxed-in-Load.ensures ∙ c.get-in-Load.ensures) ∙ sym c.in-Load.is

pub Expr::copy-returns-in_ok-copy_boxed-in-AddrOf : goal.Expr::copy-returns-in_ok-copy_boxed-in-AddrOf
Expr::copy-returns-in_ok-copy_boxed-in-AddrOf t c = ap AddrOf (c.in_ok-copy_boxed-in-AddrOf.ensures ∙ c.get-in-AddrOf.ensures) ∙ sym c.in-AddrOf.is

pub Expr::copy-returns-in_ok-copy_boxed-in-Un : goal.Expr::copy-returns-in_ok-copy_boxed-in-Un
Expr::copy-returns-in_ok-copy_boxed-in-Un t c = ap (Un c.in-Un.op c.in-Un.t) (c.in_ok-copy_boxed-in-Un.ensures ∙ c.get-in-Un.ensures) ∙ sym c.in-Un.is

pub Expr::copy-returns-in_ok-a-in-Bin : goal.Expr::copy-returns-in_ok-a-in-Bin
Expr::copy-returns-in_ok-a-in-Bin t c = ap (λ (p : Expr × Expr). Bin c.in-Bin.op c.in-Bin.t p.0 p.1) c.in_ok-a-in-Bin.ensures ∙ sym c.in-Bin.is

pub Expr::copy-returns-in_ok-copy_boxed-in-Conv : goal.Expr::copy-returns-in_ok-copy_boxed-in-Conv
Expr::copy-returns-in_ok-copy_boxed-in-Conv t c = ap (Conv c.in-Conv.t) (c.in_ok-copy_boxed-in-Conv.ensures ∙ c.get-in-Conv.ensures) ∙ sym c.in-Conv.is

pub Expr::copy-returns-in_ok-copy_boxed-in-Qualify : goal.Expr::copy-returns-in_ok-copy_boxed-in-Qualify
Expr::copy-returns-in_ok-copy_boxed-in-Qualify t c =
    let first = (c.in_ok-copy_boxed-in-Qualify.ensures ∙ c.get-in-Qualify-2.ensures) in
    let second = (c.in_ok-a-in-Qualify.ensures ∙ c.get-in-Qualify.ensures) in
    (λ j. Qualify (first j) (second j)) ∙ sym c.in-Qualify.is

pub Expr::copy-returns-in_ok-a-in-Move : goal.Expr::copy-returns-in_ok-a-in-Move
Expr::copy-returns-in_ok-a-in-Move t c = ap (λ (p : Expr × Expr). Move p.0 p.1 c.in-Move.back) c.in_ok-a-in-Move.ensures ∙ sym c.in-Move.is

pub Expr::copy-returns-in_ok-a-in-Gap : goal.Expr::copy-returns-in_ok-a-in-Gap
Expr::copy-returns-in_ok-a-in-Gap t c = ap (λ (p : Expr × Expr). Gap p.0 p.1) c.in_ok-a-in-Gap.ensures ∙ sym c.in-Gap.is

pub Expr::copy-returns-in_ok-a-in-Compare : goal.Expr::copy-returns-in_ok-a-in-Compare
Expr::copy-returns-in_ok-a-in-Compare t c = ap (λ (p : Expr × Expr). Compare c.in-Compare.op p.0 p.1) c.in_ok-a-in-Compare.ensures ∙ sym c.in-Compare.is

pub Expr::copy-returns-in_ok-a-in-Both : goal.Expr::copy-returns-in_ok-a-in-Both
Expr::copy-returns-in_ok-a-in-Both t c = ap (λ (p : Expr × Expr). Both p.0 p.1) c.in_ok-a-in-Both.ensures ∙ sym c.in-Both.is

pub Expr::copy-returns-in_ok-a-in-Either : goal.Expr::copy-returns-in_ok-a-in-Either
Expr::copy-returns-in_ok-a-in-Either t c = ap (λ (p : Expr × Expr). Either p.0 p.1) c.in_ok-a-in-Either.ensures ∙ sym c.in-Either.is

pub Expr::copy-returns-in_ok-b-in-Choose : goal.Expr::copy-returns-in_ok-b-in-Choose
Expr::copy-returns-in_ok-b-in-Choose t c =
    let first = (c.in_ok-a-in-Choose.ensures ∙ c.get-in-Choose.ensures) in
    let second = ap (λ (p : Expr × Expr). p) c.in_ok-b-in-Choose.ensures in
    (λ j. Choose (first j) (second j).0 (second j).1) ∙ sym c.in-Choose.is

pub Expr::copy-returns-in_ok-copy_boxed-in-Assign : goal.Expr::copy-returns-in_ok-copy_boxed-in-Assign
Expr::copy-returns-in_ok-copy_boxed-in-Assign t c =
    let first = (c.in_ok-copy_boxed-in-Assign.ensures ∙ c.get-in-Assign-2.ensures) in
    let second = (c.in_ok-a-in-Assign.ensures ∙ c.get-in-Assign.ensures) in
    (λ j. Assign (first j) (second j)) ∙ sym c.in-Assign.is

pub Expr::copy-returns-in_ok-copy_boxed-in-Change : goal.Expr::copy-returns-in_ok-copy_boxed-in-Change
Expr::copy-returns-in_ok-copy_boxed-in-Change t c =
    let first = (c.in_ok-copy_boxed-in-Change.ensures ∙ c.get-in-Change-2.ensures) in
    let second = (c.in_ok-a-in-Change.ensures ∙ c.get-in-Change.ensures) in
    (λ j. Change (first j) c.in-Change.op c.in-Change.t (second j)) ∙ sym c.in-Change.is

pub Expr::copy-returns-in_ok-copy_boxed-in-After : goal.Expr::copy-returns-in_ok-copy_boxed-in-After
Expr::copy-returns-in_ok-copy_boxed-in-After t c = ap (λ p. After p c.in-After.down) (c.in_ok-copy_boxed-in-After.ensures ∙ c.get-in-After.ensures) ∙ sym c.in-After.is

pub Expr::copy-returns-in_ok-copy_boxed-in-Call : goal.Expr::copy-returns-in_ok-copy_boxed-in-Call
Expr::copy-returns-in_ok-copy_boxed-in-Call t c =
    let first = (c.in_ok-copy_boxed-in-Call.ensures ∙ c.get-in-Call.ensures) in
    let second = c.in_ok-args-in-Call.ensures in
    (λ j. Call (first j) (second j)) ∙ sym c.in-Call.is

pub Expr::copy-returns-in_ok-a-in-Seq : goal.Expr::copy-returns-in_ok-a-in-Seq
Expr::copy-returns-in_ok-a-in-Seq t c = ap (λ (p : Expr × Expr). Seq p.0 p.1) c.in_ok-a-in-Seq.ensures ∙ sym c.in-Seq.is
