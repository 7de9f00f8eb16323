use Rattle.std.proofs.Common.{◌∙◌, arith, sym}
use Rattle.cc_lower_numbers.proofs.TemporaryNames.{give_more, give_end}
use Rattle.cc_lower_numbers.proofs.names.free_names.Goals as goal

pub returns-then-len-count : goal.returns-then-len-count
returns-then-len-count c = λ reserved h.
    give_end reserved c.args.count c.loop-number.number c.loop-number.out.items (c.loop-number.invariant reserved h) (sym (c.len.ensures ∙ c.loop-number.out.ok.0) ∙ c.if-len-count.true)

pub loop-number-preserved : goal.loop-number-preserved
loop-number-preserved c = λ reserved h.
    give_more c.args.names.now reserved c.args.count c.loop-number.number c.loop-number.out.items c.put_temporary.new.out.items h (c.loop-number.invariant reserved h)
    (λ e. c.if-len-count.false (c.len.ensures ∙ (c.loop-number.out.ok.0 ∙ e))) (omega (arith, c.loop-number-test.true)) c.in_ok-put_temporary.ensures
