-- An arm that hands its parts to one call adds what is spoken of by an expression of its kind.
use Rattle.std.proofs.Common.{◌≡◌, ◌∙◌, ◌++◌, ap, sym, subst}
use Rattle.std.specs.Prelude.{OnOk}
use Rattle.cc_program.specs.declared.expr.Expr.TheOpen as one
use Rattle.cc_program.specs.declared.expr.Expr.TheVariants.{rolls-Load, rolls-AddrOf, rolls-After, rolls-Un, rolls-Conv, rolls-Qualify, rolls-Bin, rolls-Move, rolls-Gap, rolls-Compare, rolls-Both, rolls-Either, rolls-Seq}
use Rattle.cc_unit.proofs.Opened.{spoken_opened}
use Rattle.cc_unit.specs.Mentioned.{in_expr, in_place}
use Rattle.cc_unit.proofs.spoken.+expressions.Goals as goal

pub put_expr-returns-in-Load : goal.put_expr-returns-in-Load
put_expr-returns-in-Load t c =
    subst (λ l. OnOk c.put_place.result (c.put_place.new.numbers.items ≡ c.args.numbers.now.items ++ l))
    (ap in_place c.get.ensures ∙ spoken_opened c.args.e.now (one.Load c.in-Load.p) (c.in-Load.is ∙ sym (rolls-Load c.in-Load.p)))
    c.put_place.ensures

pub put_expr-returns-in-AddrOf : goal.put_expr-returns-in-AddrOf
put_expr-returns-in-AddrOf t c =
    subst (λ l. OnOk c.put_place-in-AddrOf.result (c.put_place-in-AddrOf.new.numbers.items ≡ c.args.numbers.now.items ++ l))
    (ap in_place c.get-in-AddrOf.ensures ∙ spoken_opened c.args.e.now (one.AddrOf c.in-AddrOf.p) (c.in-AddrOf.is ∙ sym (rolls-AddrOf c.in-AddrOf.p)))
    c.put_place-in-AddrOf.ensures

pub put_expr-returns-in-After : goal.put_expr-returns-in-After
put_expr-returns-in-After t c =
    subst (λ l. OnOk c.put_place-in-After.result (c.put_place-in-After.new.numbers.items ≡ c.args.numbers.now.items ++ l))
    (ap in_place c.get-in-After.ensures ∙ spoken_opened c.args.e.now (one.After c.in-After.p c.in-After.field-1) (c.in-After.is ∙ sym (rolls-After c.in-After.p c.in-After.field-1)))
    c.put_place-in-After.ensures

pub put_expr-returns-in-Un : goal.put_expr-returns-in-Un
put_expr-returns-in-Un t c =
    subst (λ l. OnOk c.put_expr.result (c.put_expr.new.numbers.items ≡ c.args.numbers.now.items ++ l))
    (ap in_expr c.get-in-Un.ensures ∙ spoken_opened c.args.e.now (one.Un c.in-Un.field-0 c.in-Un.field-1 c.in-Un.a) (c.in-Un.is ∙ sym (rolls-Un c.in-Un.field-0 c.in-Un.field-1 c.in-Un.a)))
    c.put_expr.ensures

pub put_expr-returns-in-Conv : goal.put_expr-returns-in-Conv
put_expr-returns-in-Conv t c =
    subst (λ l. OnOk c.put_expr-in-Conv.result (c.put_expr-in-Conv.new.numbers.items ≡ c.args.numbers.now.items ++ l))
    (ap in_expr c.get-in-Conv.ensures ∙ spoken_opened c.args.e.now (one.Conv c.in-Conv.field-0 c.in-Conv.a) (c.in-Conv.is ∙ sym (rolls-Conv c.in-Conv.field-0 c.in-Conv.a)))
    c.put_expr-in-Conv.ensures

pub put_expr-returns-in-Qualify : goal.put_expr-returns-in-Qualify
put_expr-returns-in-Qualify t c =
    subst (λ l. OnOk c.put_expr-in-Qualify.result (c.put_expr-in-Qualify.new.numbers.items ≡ c.args.numbers.now.items ++ l))
    (ap in_expr c.get-in-Qualify.ensures ∙ spoken_opened c.args.e.now (one.Qualify c.in-Qualify.field-0 c.in-Qualify.a) (c.in-Qualify.is ∙ sym (rolls-Qualify c.in-Qualify.field-0 c.in-Qualify.a)))
    c.put_expr-in-Qualify.ensures

pub put_expr-returns-in-Bin : goal.put_expr-returns-in-Bin
put_expr-returns-in-Bin t c =
    subst (λ l. OnOk c.put_two.result (c.put_two.new.numbers.items ≡ c.args.numbers.now.items ++ l))
    (spoken_opened c.args.e.now (one.Bin c.in-Bin.field-0 c.in-Bin.field-1 c.in-Bin.a c.in-Bin.b) (c.in-Bin.is ∙ sym (rolls-Bin c.in-Bin.field-0 c.in-Bin.field-1 c.in-Bin.a c.in-Bin.b)))
    c.put_two.ensures

pub put_expr-returns-in-Move : goal.put_expr-returns-in-Move
put_expr-returns-in-Move t c =
    subst (λ l. OnOk c.put_two-in-Move.result (c.put_two-in-Move.new.numbers.items ≡ c.args.numbers.now.items ++ l))
    (spoken_opened c.args.e.now (one.Move c.in-Move.a c.in-Move.b c.in-Move.field-2) (c.in-Move.is ∙ sym (rolls-Move c.in-Move.a c.in-Move.b c.in-Move.field-2)))
    c.put_two-in-Move.ensures

pub put_expr-returns-in-Gap : goal.put_expr-returns-in-Gap
put_expr-returns-in-Gap t c =
    subst (λ l. OnOk c.put_two-in-Gap.result (c.put_two-in-Gap.new.numbers.items ≡ c.args.numbers.now.items ++ l))
    (spoken_opened c.args.e.now (one.Gap c.in-Gap.a c.in-Gap.b) (c.in-Gap.is ∙ sym (rolls-Gap c.in-Gap.a c.in-Gap.b)))
    c.put_two-in-Gap.ensures

pub put_expr-returns-in-Compare : goal.put_expr-returns-in-Compare
put_expr-returns-in-Compare t c =
    subst (λ l. OnOk c.put_two-in-Compare.result (c.put_two-in-Compare.new.numbers.items ≡ c.args.numbers.now.items ++ l))
    (spoken_opened c.args.e.now (one.Compare c.in-Compare.field-0 c.in-Compare.a c.in-Compare.b) (c.in-Compare.is ∙ sym (rolls-Compare c.in-Compare.field-0 c.in-Compare.a c.in-Compare.b)))
    c.put_two-in-Compare.ensures

pub put_expr-returns-in-Both : goal.put_expr-returns-in-Both
put_expr-returns-in-Both t c =
    subst (λ l. OnOk c.put_two-in-Both.result (c.put_two-in-Both.new.numbers.items ≡ c.args.numbers.now.items ++ l))
    (spoken_opened c.args.e.now (one.Both c.in-Both.a c.in-Both.b) (c.in-Both.is ∙ sym (rolls-Both c.in-Both.a c.in-Both.b)))
    c.put_two-in-Both.ensures

pub put_expr-returns-in-Either : goal.put_expr-returns-in-Either
put_expr-returns-in-Either t c =
    subst (λ l. OnOk c.put_two-in-Either.result (c.put_two-in-Either.new.numbers.items ≡ c.args.numbers.now.items ++ l))
    (spoken_opened c.args.e.now (one.Either c.in-Either.a c.in-Either.b) (c.in-Either.is ∙ sym (rolls-Either c.in-Either.a c.in-Either.b)))
    c.put_two-in-Either.ensures

pub put_expr-returns-in-Seq : goal.put_expr-returns-in-Seq
put_expr-returns-in-Seq t c =
    subst (λ l. OnOk c.put_two-in-Seq.result (c.put_two-in-Seq.new.numbers.items ≡ c.args.numbers.now.items ++ l))
    (spoken_opened c.args.e.now (one.Seq c.in-Seq.a c.in-Seq.b) (c.in-Seq.is ∙ sym (rolls-Seq c.in-Seq.a c.in-Seq.b)))
    c.put_two-in-Seq.ensures
