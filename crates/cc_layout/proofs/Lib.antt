pub mod SeatLemmas
pub mod SeatLaws
pub mod ExampleSeats
