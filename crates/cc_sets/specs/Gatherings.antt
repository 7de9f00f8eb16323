-- Numbers that are gathered, as the set of which the hull is taken.
use Rattle.std.specs.Prelude.{◌↔◌, ℤ, ◌≤ℤ◌, Option, Some, None}
use Rattle.std.specs.Int.{int_max, int_min}
use Rattle.std.specs.List.{Contains}
use Rattle.cc_ranges.specs.Ends.{Ends}
use Rattle.cc_explicit.specs.Sets.{list_ends}
use Rattle.cc_explicit.specs.declared.explicit.Explicit.{Explicit}
use Rattle.cc_sets.specs.declared.gathered.Spread.{Spread}
use Rattle.cc_sets.specs.declared.gathered.Gathered.{Gathered}
use Rattle.cc_sets.specs.declared.vals.Vals.{Vals}
use Rattle.cc_sets.specs.Rungs.{Covers}

-- what is gathered: the members, or all between the ends where there are too many
abbrev pub PartHas : Explicit → Option Spread → ℤ → Type 0
PartHas s None v = Contains s.items.items v
PartHas s (Some e) v = (e.low ≤ℤ v) × (v ≤ℤ e.high)

abbrev pub PartEnds : Explicit → Option Spread → Ends
PartEnds s None = list_ends s.items.items
PartEnds s (Some e) = Some (e.low, e.high)

-- the rung has all that is gathered
abbrev pub Holds : Vals → Gathered → Type 0
Holds x g = Covers x (PartHas g.members g.spread)

-- the numbers of a set are added: a rung has what is gathered now where it has what was gathered, and them
abbrev pub Adds : Gathered → Gathered → (ℤ → Type 0) → Type 0
Adds old new P = (x : Vals) → Holds x new ↔ (Holds x old × Covers x P)

abbrev pub gathered_ends : Gathered → Ends
gathered_ends g = PartEnds g.members g.spread

-- an end that is moved out to other ends
abbrev pub wider_low : ℤ → Ends → ℤ
wider_low low None = low
wider_low low (Some (l, h)) = int_min (int_min low l) h

abbrev pub wider_high : ℤ → Ends → ℤ
wider_high high None = high
wider_high high (Some (l, h)) = int_max (int_max high l) h
