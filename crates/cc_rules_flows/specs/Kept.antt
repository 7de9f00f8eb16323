-- What a fact keeps where a statement changes it, or where it is joined with others.
use Rattle.std.specs.Prelude.{◌≡◌, ℕ, List, length}
use Rattle.std.specs.List.{AllZip}
use Rattle.cc_rules_needs.specs.Points.{IsFactOf}
use Rattle.cc_state_reads.specs.CcStateFacts.declared.facts.PointFact.{PointFact}
use Rattle.cc_state_reads.specs.CcStateFacts.declared.facts.Row.{Row}
use Rattle.cc_state_reads.specs.CcStateFacts.Orders.{AreOrderly}

module _ {I : Type 0} where
  abbrev pub AreAsLong : Row I → Row I → Type 0
  AreAsLong x y = length x.cells ≡ length y.cells

  -- as many registers and rows, and as many cells in each row
  pub record IsAsLarge (old new : PointFact I) : Type 0 where
    pub locals : length new.locals ≡ length old.locals
    pub rows : AllZip AreAsLong old.rows new.rows

  -- pairs that are in order stay so, and pairs of so many registers and tracked cells stay pairs of these
  pub record KeepsShape (registers cells : ℕ) (old new : PointFact I) : Type 0 where
    pub large : IsAsLarge old new
    pub orderly : AreOrderly old → AreOrderly new
    pub of : IsFactOf registers cells old → IsFactOf registers cells new
