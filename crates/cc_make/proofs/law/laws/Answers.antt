use Rattle.std.proofs.Common.{refl, ◌%◌, ◌^◌}
use Rattle.std.specs.Fmt.{digits}
use Rattle.cc_make.specs.Draws.{counters_from}
use Rattle.cc_make.proofs.DrawLemmas.{length-counters, all_within}
use Rattle.cc_make.proofs.law.laws.Goals as goal

pub returns-clause-count : goal.returns-clause-count
returns-clause-count c = λ seed count. length-counters count (seed % (2 ^ 31))

pub returns-clause-limits : goal.returns-clause-limits
returns-clause-limits c = λ seed count. all_within count (seed % (2 ^ 31))

pub returns-clause-one_counter : goal.returns-clause-one_counter
unfolding digits counters_from
returns-clause-one_counter c = refl
