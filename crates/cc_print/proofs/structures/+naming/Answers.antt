use Rattle.cc_program.specs.declared.types.Sig.{out-Sig}
use Rattle.cc_print.specs.Units.{is_named_in}
use Rattle.cc_print.proofs.AnyLemmas.{any_in}
use Rattle.cc_print.proofs.structures.+naming.Goals as goal

-- src/structures.rt:61:13
pub is_named_in_any-returns-then-is_named_in : goal.is_named_in_any-returns-then-is_named_in
is_named_in_any-returns-then-is_named_in t c =
    any_in (is_named_in c.args.id) (out-Sig c.args.sig.now).params c.all-t-items.result.now c.loop-t.t-index c.t-item.result c.is_named_in.result
    c.all-t-items.ensures c.loop-t-test.true c.t-item.is c.is_named_in.ensures c.if-is_named_in.true
