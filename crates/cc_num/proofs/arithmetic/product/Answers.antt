use Rattle.std.proofs.Common.{rules, ◌≡◌, true, false, ◌*ℤ◌, FitsSigned, ap, sym, ◌∙◌, to_z-of_z, Some}
use Rattle.std.specs.Int.{w128}
use Rattle.cc_num.specs.Integers.{is_signed}
use Rattle.cc_num.specs.Results.{represented}
use Rattle.cc_num.proofs.Exact.{signed_small, product_fits, product_exact}
use Rattle.cc_num.proofs.Patterns.{wrapped_product}
use Rattle.cc_num.proofs.PromotionLaws.{not_Bool}
use Rattle.cc_num.proofs.ResultLaws.{represented_unsigned}
use Rattle.cc_num.proofs.arithmetic.product.Goals as goal

pub overflow_mul-a : goal.overflow_mul-a
overflow_mul-a c =
    let a : FitsSigned w128 c.args.a = c.ranges.a in
    let b : FitsSigned w128 c.args.b = c.ranges.b in
    let s : is_signed c.args.t c.args.target.now ≡ true = sym c.is_signed.ensures ∙ c.if-is_signed.true in
    simp to_z-of_z (product_fits c.args.a c.args.b (signed_small c.args.t c.args.target.now c.args.a s c.requires.first) c.requires.second)

pub returns-then-is_signed : goal.returns-then-is_signed
returns-then-is_signed c =
    let s : is_signed c.args.t c.args.target.now ≡ true = sym c.is_signed.ensures ∙ c.if-is_signed.true in
    let f = product_fits c.args.a c.args.b (signed_small c.args.t c.args.target.now c.args.a s c.requires.first) c.requires.second in
    c.represent.ensures ∙ ap (λ x. represented x c.args.t c.args.target.now) (product_exact c.args.a c.args.b c.ranges.a c.ranges.b f)

pub returns-else-is_signed : goal.returns-else-is_signed
returns-else-is_signed c =
    let s : is_signed c.args.t c.args.target.now ≡ false = sym c.is_signed.ensures ∙ c.if-is_signed.false in
    let f : FitsSigned w128 c.convert.result = search rules in
    ap Some (to_z-of_z f ∙ c.convert.ensures ∙ wrapped_product c.args.a c.args.b c.args.t c.args.target.now (not_Bool c.args.t c.args.target.now c.requires.promotion) c.ranges.a c.ranges.b)
    ∙ sym (represented_unsigned (c.args.a *ℤ c.args.b) c.args.t c.args.target.now s)
