-- What constraints want of a program, as the code has it.
use Rattle.std.specs.List.{AllZip}
use Rattle.std.specs.Prelude.{◌≡◌}
use Rattle.cc_rules_asked.specs.CcFlow.Points.{flow_of}
use Rattle.cc_program.specs.declared.program.Program.{Program}
use Rattle.cc_rules_asked.specs.CcRegisters.Kept.{AreKept}
use Rattle.cc_rules_asked.specs.Handlers.{AreHandlersOf}
use Rattle.cc_rules_asked.specs.Unstable.{AreCellKeysOf}
use Rattle.cc_rules_functions.specs.Functions.{AreFunctionsOf}
use Rattle.cc_rules_made.specs.declared.rules.Rules.{Rules}
use Rattle.cc_rules_asked.specs.CcStateKeys.Tracked.{tracked}

pub record AreOf (p : Program) (rules : Rules) : Type 0 where
  pub program : rules.program.now ≡ p
  pub flow : rules.flow.now ≡ flow_of p
  pub tracked : rules.tracked ≡ tracked p
  pub cell_keys : AreCellKeysOf p rules.cell_keys
  pub functions : AreFunctionsOf p rules.functions
  pub handlers : AreHandlersOf p rules.handlers
  pub marks : AllZip AreKept p.funcs rules.marks
