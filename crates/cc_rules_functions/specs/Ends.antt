-- Where the points of a function end.
use Rattle.std.specs.Prelude.{ℕ, ◌+◌, List, slice_get, unwrap_or}

-- the number behind its last one, by the numbers of the functions' first points and by how many there are in all
abbrev pub end_at : ℕ → List ℕ → ℕ → ℕ
end_at count first id = unwrap_or (slice_get first (id + 1)) count
