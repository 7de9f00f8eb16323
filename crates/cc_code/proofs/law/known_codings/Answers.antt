use Rattle.cc_code.proofs.Examples.{addresses, alone, alone_in_a_bit, as_they_stand, automatic, by_position, from_the_least, places, signed_bytes, unsigned_bytes}
use Rattle.cc_code.proofs.law.known_codings.Goals as goal

pub returns-clause-as_they_stand : goal.returns-clause-as_they_stand
returns-clause-as_they_stand g = λ x c e h. as_they_stand x c e h

pub returns-clause-alone : goal.returns-clause-alone
returns-clause-alone g = λ x c e h. alone x c e h

pub returns-clause-alone_in_a_bit : goal.returns-clause-alone_in_a_bit
returns-clause-alone_in_a_bit g = λ x c e h. alone_in_a_bit x c e h

pub returns-clause-by_position : goal.returns-clause-by_position
returns-clause-by_position g = λ x c e h. by_position x c e h

pub returns-clause-from_the_least : goal.returns-clause-from_the_least
returns-clause-from_the_least g = λ x c e h. from_the_least x c e h

pub returns-clause-unsigned_bytes : goal.returns-clause-unsigned_bytes
returns-clause-unsigned_bytes g = λ r c s e h. unsigned_bytes r c s e h

pub returns-clause-signed_bytes : goal.returns-clause-signed_bytes
returns-clause-signed_bytes g = λ r c s e h. signed_bytes r c s e h

pub returns-clause-addresses : goal.returns-clause-addresses
returns-clause-addresses g = λ s x y z c e h. addresses s x y z c e h

pub returns-clause-places : goal.returns-clause-places
returns-clause-places g = λ s e. places s e

pub returns-clause-automatic : goal.returns-clause-automatic
returns-clause-automatic g = λ s n f l i k p e. automatic s n f l i k p e
