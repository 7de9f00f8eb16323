use Rattle.cc_layout.proofs.ExampleSeats.{three_seats, three_ram, const_seats, const_ram, part_seats, part_ram}
use Rattle.cc_layout.proofs.SeatLaws.{seat_numbers, seat_sizes, seats_placed, seats_lowest, ram_is_last}
use Rattle.cc_layout.proofs.law.laws.Goals as goal

pub returns-clause-objects : goal.returns-clause-objects
returns-clause-objects c = λ p. seat_numbers p

pub returns-clause-sizes : goal.returns-clause-sizes
returns-clause-sizes c = λ p. seat_sizes p

pub returns-clause-placed : goal.returns-clause-placed
returns-clause-placed c = λ p. seats_placed p

pub returns-clause-lowest : goal.returns-clause-lowest
returns-clause-lowest c = λ p places h. seats_lowest p places h

pub returns-clause-last : goal.returns-clause-last
returns-clause-last c = λ p. ram_is_last p

pub returns-clause-three_seats : goal.returns-clause-three_seats
returns-clause-three_seats c = three_seats

pub returns-clause-three_ram : goal.returns-clause-three_ram
returns-clause-three_ram c = three_ram

pub returns-clause-const_seats : goal.returns-clause-const_seats
returns-clause-const_seats c = const_seats

pub returns-clause-const_ram : goal.returns-clause-const_ram
returns-clause-const_ram c = const_ram

pub returns-clause-part_seats : goal.returns-clause-part_seats
returns-clause-part_seats c = part_seats

pub returns-clause-part_ram : goal.returns-clause-part_ram
returns-clause-part_ram c = part_ram
