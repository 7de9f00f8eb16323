use Rattle.cc_bins.proofs.Orders.{one_order}
use Rattle.cc_bins.proofs.PackedLaws.{goes_first, all_packed, all_save, four_placed}
use Rattle.cc_bins.proofs.law.laws.Goals as goal

pub returns-clause-one_order : goal.returns-clause-one_order
returns-clause-one_order c = λ wants xs ys h p q up up'. one_order wants xs ys h p q up up'

pub returns-clause-first : goal.returns-clause-first
returns-clause-first c = λ words want. goes_first want words

pub returns-clause-packed : goal.returns-clause-packed
returns-clause-packed c = λ order h. all_packed order h

pub returns-clause-saved : goal.returns-clause-saved
returns-clause-saved c = λ words. all_save words

pub returns-clause-four_slots : goal.returns-clause-four_slots
returns-clause-four_slots c = four_placed
