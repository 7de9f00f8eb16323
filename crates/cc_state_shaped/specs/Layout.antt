-- What the shape of a program's facts is judged by, as the code has it.
use Rattle.std.specs.Prelude.{◌≡◌, map}
use Rattle.cc_state_reads.specs.CcFlow.Points.{flow_of}
use Rattle.cc_program.specs.declared.program.Program.{Program}
use Rattle.cc_state_reads.specs.CcStateKeys.Addressed.{taken_keys}
use Rattle.cc_state_reads.specs.CcStateKeys.Keys.{keys_of}
use Rattle.cc_state_reads.specs.CcStateKeys.Tracked.{registers, tracked}
use Rattle.cc_state_shaped.specs.declared.layout.Layout.{Layout}
use Rattle.cc_state_shaped.specs.Names.{may_name}

pub record IsLayoutOf (p : Program) (layout : Layout) : Type 0 where
  pub program : layout.program.now ≡ p
  pub flow : layout.flow.now ≡ flow_of p
  pub keys : layout.keys ≡ keys_of p
  pub taken : layout.taken ≡ taken_keys p
  pub names : layout.names ≡ map (may_name p) (keys_of p)
  pub tracked : layout.tracked ≡ tracked p
  pub registers : layout.registers ≡ map registers p.funcs
