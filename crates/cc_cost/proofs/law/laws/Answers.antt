use Rattle.cc_cost.proofs.Examples.{numbers, rows, refused, twice, by_default, renamed, by_rows}
use Rattle.cc_cost.proofs.law.laws.Goals as goal

pub returns : goal.returns
returns c = record { numbers = numbers; rows = rows; refused = refused; twice = twice; by_default = by_default; renamed = renamed; by_rows = by_rows }
