-- What the code's values stand for.
use Rattle.std.specs.Prelude.{map}
use Rattle.cc_eval.specs.declared.context.Context.{Context as ContextOf}
use Rattle.cc_eval.specs.declared.effects.Later.{Later, fold-Later}
use Rattle.cc_eval.specs.declared.effects.Later.TheOpen as at
use Rattle.cc_eval.specs.declared.progress.Stage.{Stage}
use Rattle.cc_eval.specs.declared.progress.Stage.TheVariants as stage
use Rattle.cc_eval.specs.Context.{Context}
use Rattle.cc_syntax.specs.Effects.{Registers, no_one, also}
use Rattle.cc_eval.specs.Eval.{meaning, assigned_by}
use Rattle.cc_eval.specs.Progress.{Progress, Known, Waits, Traps}

abbrev pub context_of : ContextOf → Context
context_of c = record { program = c.program.now; number = c.number; id = c.id; func = c.func.now }

-- the registers that later operands assign
abbrev pub later_step : Context → at.Later-F Registers → Registers
later_step c at.Nothing = no_one
later_step c (at.Behind e later) = also (meaning c e.now).effects.assigned later.now
later_step c (at.BothBehind a b later) = also (meaning c a.now).effects.assigned (also (meaning c b.now).effects.assigned later.now)
later_step c (at.AllBehind es later) = also (assigned_by (map (meaning c) es.now)) later.now

abbrev pub later_of : Context → Later → Registers
later_of c later = fold-Later Registers (later_step c) later

abbrev pub progress_of : {A : Type 0} → Stage A → Progress A
progress_of (stage.Known v rest) = Known v rest.now
progress_of (stage.Waits action) = Waits action
progress_of (stage.Traps rest) = Traps rest.now
