-- Where control goes from a statement to the statements in it and on (C99 6.8): the numbers of points.
use Rattle.std.specs.Prelude.{ℕ, ◌+◌, ◌-◌, Bool, true, false, not, ◌||◌, nat_eq, nat_le, List, [], ◌∷◌, ◌++◌, length, slice_get, Option, Some, None, if◌then◌else◌}
use Rattle.cc_flow.specs.declared.next.Site.{Site}

-- where control goes that comes to a number before so many points: to the first of them, and where there are none to
-- what is behind them
abbrev pub reached : ℕ → ℕ → ℕ → ℕ
reached count number behind = if nat_eq count 0 then behind else number

-- the first point of a list of so many points, where it has any
abbrev pub head : ℕ → ℕ → List ℕ
head number count = if nat_eq count 0 then [] else number ∷ []

-- those of lists that stand one behind the other
abbrev pub heads : ℕ → List ℕ → List ℕ
heads number [] = []
heads number (count ∷ counts) = head number count ++ heads (number + count) counts

-- the first points of the lists in a statement, and what is behind it where control goes on there too; ascending, where
-- what is behind it is not in it: a loop around it has a lower number, all else a higher one
abbrev pub branches : Bool → Site → List ℕ → List ℕ
branches false site counts = heads (site.number + 1) counts
branches true site counts = if nat_le site.behind site.number then site.behind ∷ heads (site.number + 1) counts else heads (site.number + 1) counts ++ site.behind ∷ []

abbrev pub is_zero : Option ℕ → Bool
is_zero None = false
is_zero (Some count) = nat_eq count 0

-- whether control may go behind a `switch` at once: past labels of which none fits, or from the last case where that is
-- empty (6.8.4.2)
abbrev pub may_pass : Bool → List ℕ → Bool
may_pass has_default counts = not has_default || is_zero (slice_get counts (length counts - 1))
