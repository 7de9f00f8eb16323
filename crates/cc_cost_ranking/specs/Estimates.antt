-- What it costs to tell a slot by codes: for each access a sum, by the kind of the coding.
use Rattle.std.specs.Prelude.{ℕ, ◌+◌, ◌*◌, ◌-◌, Bool, true, false}
use Rattle.cc_code.specs.declared.kinds.Coding.{Coding}
use Rattle.cc_code.specs.declared.kinds.Coding.TheVariants.{Const, Direct, Biased, Table}
use Rattle.cc_cost_ranking.specs.declared.costs.Cost.{Cost}
use Rattle.cc_cost_ranking.specs.declared.costs.Sites.{Sites}

abbrev pub cost : ℕ → ℕ → Cost
cost code time = record { code = code; time = time }

abbrev pub and : Cost → Cost → Cost
and x y = cost (x.code + y.code) (x.time + y.time)

abbrev pub times : ℕ → Cost → Cost
times count x = cost (count * x.code) (count * x.time)

-- an access of an array has a subscript to be worked out
abbrev pub for_array : Bool → Cost
for_array true = cost 6 4
for_array false = cost 0 0

-- what decoding a field adds to a read: the least value is added, or the table is read
abbrev pub for_reading : Coding → Cost
for_reading Const = cost 0 0
for_reading Direct = cost 0 0
for_reading (Biased low) = cost 2 1
for_reading Table = cost 6 4

-- what encoding a value adds to a write: the least value is taken off, or a comparison for each member past the first is made
abbrev pub for_writing : Coding → ℕ → Cost
for_writing Const members = cost 0 0
for_writing Direct members = cost 0 0
for_writing (Biased low) members = cost 2 1
for_writing Table members = times (members - 1) (cost 4 2)

abbrev pub read_cost : Bool → Coding → Cost
read_cost array coding = and (cost 4 3) (and (for_array array) (for_reading coding))

abbrev pub write_cost : Bool → Coding → ℕ → Cost
write_cost array coding members = and (cost 8 6) (and (for_array array) (for_writing coding members))

-- an access that is guarded turns interrupts off and back
abbrev pub guard_cost : Cost
guard_cost = cost 6 4

abbrev pub accesses_cost : Sites → Coding → ℕ → Cost
accesses_cost sites coding members =
    and (times sites.reads (read_cost sites.array coding)) (and (times sites.writes (write_cost sites.array coding members)) (times sites.guarded guard_cost))

-- a constant has no code, and costs nothing
abbrev pub estimate_of : Sites → Coding → ℕ → Cost
estimate_of sites Const members = cost 0 0
estimate_of sites Direct members = accesses_cost sites Direct members
estimate_of sites (Biased low) members = accesses_cost sites (Biased low) members
estimate_of sites Table members = accesses_cost sites Table members
