-- Objects of the types of a program's, with others behind them.
use Rattle.std.specs.Prelude.{◌≡◌, ◌<◌, ℕ, Bool, nat_lt, List, length, option_map, slice_get}
use Rattle.cc_program.specs.declared.object.Object.{Object}
use Rattle.cc_program.specs.declared.program.Program.{Program}

abbrev pub StandInFront : List Object → Program → Type 0
StandInFront objects p = (i : ℕ) → i < length p.objects → option_map (λ (o : Object). o.ctype) (slice_get objects i) ≡ option_map (λ (o : Object). o.ctype) (slice_get p.objects i)

-- whether the program has an object of the number
abbrev pub is_before : Program → ℕ → Bool
is_before p i = nat_lt i (length p.objects)

abbrev pub with_objects_behind : List Object → Program → Program
with_objects_behind objects p =
    record { target = p.target; roles = p.roles; structures = p.structures; devices = p.devices; objects = objects; funcs = p.funcs; main = p.main }
