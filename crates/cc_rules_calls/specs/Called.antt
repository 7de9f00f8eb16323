-- The functions that a set of addresses has, and the sets that arguments leave in registers.
use Rattle.std.specs.Prelude.{ℕ, List, [], ◌∷◌, option_to_list, slice_get}
use Rattle.std.specs.List.{flat_map}
use Rattle.cc_state_points.specs.CcPlaces.declared.abs.Abs.{Abs}
use Rattle.cc_state_points.specs.CcPlaces.declared.abs.Abs.TheVariants as abs
use Rattle.cc_program.specs.declared.value.Address.{Address}
use Rattle.cc_program.specs.declared.value.Address.TheVariants as address

abbrev pub function_at : Address → List ℕ
function_at address.Null = []
function_at (address.Func h) = h ∷ []
function_at (address.At object path index count) = []

abbrev pub functions_among : List Address → List ℕ
functions_among members = flat_map function_at members

abbrev pub functions_in : {I : Type 0} → Abs I → List ℕ
functions_in (abs.Ints x) = []
functions_in (abs.Addrs s) = functions_among s.members

-- of the registers of a function, where they are its parameters, the sets of the arguments
abbrev pub sets_of : {A : Type 0} → List A → List ℕ → List A
sets_of sets registers = flat_map (λ r. option_to_list (slice_get sets r)) registers
