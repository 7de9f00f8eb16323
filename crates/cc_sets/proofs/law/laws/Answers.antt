-- Each is worked out in a file of its own.
use Rattle.cc_sets.proofs.Exact.{zero_divisor, kept_of_two, too_many}
use Rattle.cc_sets.proofs.law.laws.Goals as goal

pub returns : goal.returns
returns c = record { zero_divisor = zero_divisor; kept_of_two = kept_of_two; too_many = too_many }
