use Rattle.std.proofs.lemmas.Result.{IfOk-weaker}
use Rattle.cc_cost.specs.Sets.{names_of}
use Rattle.cc_cost.specs.Settings.{settings_of}
use Rattle.cc_cost.proofs.FaultLemmas.{defaults-inserted}
use Rattle.cc_cost.proofs.rules.add_defaults.Goals as goal

pub returns : goal.returns
returns c =
    IfOk-weaker c.add_default-4.result _ _
    (λ _ last. defaults-inserted (settings_of c.args.lines.now) (names_of c.add_default.new.names) (names_of c.add_default-2.new.names) (names_of c.add_default-3.new.names) (names_of c.add_default-4.new.names)
    (rw c.requires at c.in_ok-add_default.ensures) c.in_ok-add_default-2.ensures c.in_ok-add_default-3.ensures last)
    c.add_default-4.ensures
