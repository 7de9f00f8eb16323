-- Paths to scalars in objects.
use Rattle.std.specs.Prelude.{◌≡◌, ℕ, List, Some}
use Rattle.cc_cells.specs.Scalars.{position}
use Rattle.cc_eval.specs.Context.{object_type}
use Rattle.cc_program.specs.declared.program.Program.{Program}
use Rattle.cc_program.specs.declared.value.Part.{Part}
use Rattle.cc_program.specs.declared.value.Root.{Root}
use Rattle.cc_eval.specs.CcSyntax.Expressions.{of_one}
use Rattle.cc_eval.specs.CcSyntax.Initial.{place_at}
use Rattle.cc_eval.specs.CcSyntax.Values.{ValueType, read_from}

-- a path leads to the scalar at a position of an object
abbrev pub LeadsTo : Program → Root → List Part → ℕ → Type 0
LeadsTo p object path k = (t : ValueType) × (of_one (of_one (object_type p object) (place_at p.structures path)) read_from ≡ Some t) × (position p.structures path (object_type p object) ≡ k)
