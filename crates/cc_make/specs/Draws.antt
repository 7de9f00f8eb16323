-- What is drawn for a made source: a linear congruence modulo 2^31, of which each draw gives the upper
-- 15 bits.
use Rattle.std.specs.Prelude.{ℕ, zero, suc, ◌+◌, ◌*◌, ◌/◌, ◌%◌, ◌^◌, ◌==◌, List, [], ◌∷◌}
use Rattle.cc_make.specs.declared.counters.Counter.{Counter}

-- the state behind another
abbrev pub next : ℕ → ℕ
next state = (1103515245 * state + 12345) % (2 ^ 31)

-- what a draw gives, of the state that it has set
abbrev pub drawn : ℕ → ℕ
drawn state = state / 65536

-- the counter of two draws: its limit, and whether the handler clears it
abbrev pub counter_of : ℕ → ℕ → Counter
counter_of first second = record { limit = 1 + first % 30; cleared = second % 4 == 0 }

-- so many counters, drawn from a state on
unfoldable pub counters_from : ℕ → ℕ → List Counter
counters_from zero state = []
counters_from (suc count) state = counter_of (drawn (next state)) (drawn (next (next state))) ∷ counters_from count (next (next state))

-- so many counters, drawn from a seed
abbrev pub counters : ℕ → ℕ → List Counter
counters seed count = counters_from count (seed % (2 ^ 31))
