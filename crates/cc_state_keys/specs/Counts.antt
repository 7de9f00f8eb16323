-- How many facts there are about a program: one for each key, and at each point one for each tracked cell and each register of its function.
use Rattle.std.specs.Prelude.{ℕ, ◌+◌, length, Option, Some, None, slice_get, sum_by}
use Rattle.cc_flow.specs.declared.types.Point.{Point}
use Rattle.cc_flow.specs.Points.{flow_of}
use Rattle.cc_program.specs.declared.func.Func.{Func}
use Rattle.cc_program.specs.declared.program.Program.{Program}
use Rattle.cc_state_keys.specs.Keys.{keys_of}
use Rattle.cc_state_keys.specs.Tracked.{registers, tracked}

abbrev pub register_count : Option Func → ℕ
register_count None = 0
register_count (Some f) = length (registers f)

abbrev pub facts_at : Program → Point → ℕ
facts_at p point = length (tracked p) + register_count (slice_get p.funcs point.func)

abbrev pub fact_count : Program → ℕ
fact_count p = length (keys_of p) + sum_by (facts_at p) (flow_of p).points
