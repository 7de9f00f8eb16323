-- Which keys of a program are among some keys, as marks by number.
use Rattle.std.specs.Prelude.{◌≡◌, ◌↔◌, ℕ, Bool, IsTrue, List, Some, length}
use Rattle.std.specs.List.{Contains}
use Rattle.cc_program.specs.declared.program.Program.{Program}
use Rattle.cc_state_points.specs.CcStateFacts.declared.facts.Key.{Key}
use Rattle.cc_state_points.specs.CcStateFacts.Facts.{mark_of}
use Rattle.cc_state_points.specs.CcStateKeys.Keys.{key_number, keys_of}

pub record AreMarks (p : Program) (named : List Key) (marks : List Bool) : Type 0 where
  pub count : length marks ≡ length (keys_of p)
  pub each : (k : Key) (n : ℕ) → key_number p k ≡ Some n → IsTrue (mark_of marks n) ↔ Contains named k
