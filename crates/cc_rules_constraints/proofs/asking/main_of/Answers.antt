use Rattle.std.proofs.Common.{◌≡◌, List, Some, None, slice_get, ap, sym, ◌∙◌}
use Rattle.cc_rules_constraints.proofs.Mains.{main_there}
use Rattle.cc_rules_constraints.proofs.asking.main_of.Goals as goal
use Rattle.cc_rules_functions.specs.declared.functions.Function.{Function}

pub unreachable-requires : goal.unreachable-requires
unreachable-requires c =
    let main = main_there c.args.rules.now.program.now c.requires.normal c.args.rules.now.functions c.requires.rules.functions in
    absurd (let e : None ≡ Some main.0 = c.in-None.ensures ∙ (ap (λ (fs : List Function). slice_get fs c.args.rules.now.program.now.main) c.all.ensures ∙ main.1) in cc)

pub returns : goal.returns
returns c =
    c.requires.rules.functions.each c.args.rules.now.program.now.main c.in-Some.main.now (ap (λ (fs : List Function). slice_get fs c.args.rules.now.program.now.main) (sym c.all.ensures) ∙ sym c.in-Some.ensures)
