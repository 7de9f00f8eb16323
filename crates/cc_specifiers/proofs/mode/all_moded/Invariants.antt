use Rattle.std.proofs.Common.{◌≡◌, drop}
use Rattle.cc_specifiers.specs.Modes.{all_moded}
use Rattle.cc_specifiers.proofs.mode.all_moded.Given as goal

abbrev pub invariant-loop-m : goal.invariant-loop-m
invariant-loop-m l = all_moded l.target (drop l.m-index l.attributes) l.u ≡ all_moded l.target l.attributes l.fn.t
