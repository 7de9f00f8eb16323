use Rattle.std.proofs.Common.{arith, List, sym, subst, take_all}
use Rattle.std.specs.List.{AllZip}
use Rattle.cc_program.specs.declared.func.Func.{Func}
use Rattle.cc_rules_asked.specs.CcRegisters.Kept.{AreKept}
use Rattle.cc_rules_made.proofs.HandlersMade.{zip_on}
use Rattle.cc_rules_made.proofs.marks.marks_of.Goals as goal

pub loop-function-preserved : goal.loop-function-preserved
loop-function-preserved c =
    zip_on AreKept c.args.functions.now c.loop-function.marks.items c.push.new.self.items c.loop-function.function-index c.function-item.result c.of.result c.loop-function-test.true c.function-item.is c.loop-function.invariant
    (subst (AreKept c.function-item.result) (sym c.of.ensures) c.in_ok-kept.ensures.kept) c.in_ok-push.ensures.items

pub returns : goal.returns
returns c = subst (λ (fs : List Func). AllZip AreKept fs c.loop-function.marks.items) (take_all c.loop-function.function-index c.args.functions.now (omega (arith, c.loop-function-test.false))) c.loop-function.invariant
