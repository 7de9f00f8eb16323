use Rattle.std.proofs.Common.{◌≡◌, drop}
use Rattle.cc_specifiers.specs.Modes.{modes_judged}
use Rattle.cc_specifiers.proofs.mode.modes_judged.Given as goal

abbrev pub invariant-loop-ms : goal.invariant-loop-ms
invariant-loop-ms l = modes_judged l.target (drop l.ms-index l.marks) l.u ≡ modes_judged l.target l.marks l.fn.t
