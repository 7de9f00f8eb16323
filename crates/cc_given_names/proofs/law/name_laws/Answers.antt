use Rattle.cc_given_names.proofs.Lengths.{names-length}
use Rattle.cc_given_names.proofs.Spaces.{names-apart, names-distinct, names-named, names-new}
use Rattle.cc_given_names.proofs.law.name_laws.Goals as goal

pub returns : goal.returns
returns c = record { count = names-length; distinct = names-distinct; apart = names-apart; new = names-new; named = names-named }
