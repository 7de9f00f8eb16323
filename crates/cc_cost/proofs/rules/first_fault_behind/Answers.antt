use Rattle.std.proofs.Common.{◌≡◌, ◌∙◌, sym, rules, None}
use Rattle.cc_cost.specs.Sets.{names_of, things_of}
use Rattle.cc_cost.proofs.FaultLemmas.{came-none, came-more}
use Rattle.cc_cost.proofs.rules.first_fault_behind.Goals as goal

pub loop-line-init : goal.loop-line-init
loop-line-init c =
    came-none c.args.lines.now (things_of c.args.met.now.things) (names_of c.add_defaults.new.names) c.requires.things c.in_ok-add_defaults.ensures

pub loop-line-preserved : goal.loop-line-preserved
loop-line-preserved c =
    let none : c.in_ok-rule.field-0 ≡ None = search rules in
    came-more c.args.lines.now c.loop-line.line-index c.loop-line.row c.line-item.result (things_of c.loop-line.met.things) (things_of c.rule_of_row.new.met.things) (names_of c.loop-line.met.names) (names_of c.rule_of_row.new.met.names)
    c.loop-line-test.true c.line-item.is c.loop-line.invariant (sym none ∙ c.in_ok-rule.ensures.rule) (c.in_ok-rule.ensures.things none) (c.in_ok-rule.ensures.names none)
