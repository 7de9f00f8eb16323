-- Where the static objects of a program lie in RAM: those that are not const, in the program's order,
-- each at its alignment behind the one before. The code is a twin of `ram` and `seats`; `laws` says of them
-- that seats lie apart, each at its alignment, and that none could lie lower.
use Rattle.std.specs.Prelude.{ℕ, ◌+◌, not, List, [], ◌∷◌, fold, filter, map, if◌then◌else◌}
use Rattle.std.specs.List.{enumerate_from}
use Rattle.cc_program.specs.Qualifiers.{is_const}
use Rattle.cc_program.specs.declared.object.Object.{Object}
use Rattle.cc_program.specs.declared.program.Program.{Program}
use Rattle.cc_syntax.specs.Layout.{aligned, end_behind, layout_of}
use Rattle.cc_syntax.specs.declared.sizes.Layout.{Layout}
use Rattle.cc_layout.specs.declared.seats.Seat.{Seat}

abbrev pub layout_in : Program → Object → Layout
layout_in p object = layout_of object.ctype p.structures p.target

-- the end of the objects with one more, where the others end at `end`; a const object takes no RAM
abbrev pub end_with : Program → ℕ → Object → ℕ
end_with p end object = if is_const object.ctype then end else end_behind end (layout_in p object)

-- the RAM that a program takes
unfoldable pub ram : Program → ℕ
ram p = fold (end_with p) 0 p.objects

abbrev pub seat_behind : ℕ → ℕ → Layout → Seat
seat_behind id end layout = record { object = id; at = aligned layout.align end; size = layout.size }

-- the seats of objects, the first of which has the number id, behind others that end at `end`
abbrev pub seats_from : Program → ℕ → ℕ → List Object → List Seat
seats_from p id end [] = []
seats_from p id end (object ∷ objects) =
    if is_const object.ctype then seats_from p (id + 1) end objects else (seat_behind id end (layout_in p object) ∷ seats_from p (id + 1) (end_behind end (layout_in p object)) objects)

unfoldable pub seats : Program → List Seat
seats p = seats_from p 0 0 p.objects

-- the objects that take RAM, with their ids
abbrev pub in_ram : Program → List (ℕ × Object)
in_ram p = filter (λ o. not (is_const o.1.ctype)) (enumerate_from 0 p.objects)

abbrev pub layouts : Program → List Layout
layouts p = map (λ o. layout_in p o.1) (in_ram p)
