-- The key that a place names by its form.
use Rattle.std.proofs.Common.{◌≡◌, ℕ}
use Rattle.cc_program.specs.declared.expr.Place.{Place}
use Rattle.cc_program.specs.declared.func.Func.{Func}
use Rattle.cc_program.specs.declared.program.Program.{Program}
use Rattle.cc_state_keys.specs.Addressed.{in_place}
use Rattle.cc_state_keys.proofs.PlaceTypes.{place_typed}
use Rattle.cc_rules_flows.specs.CcSyntax.Programs.{place_type}

pub own_type : (p : Program) (id : ℕ) (f : Func) (a : Place) → (in_place p id f a).ctype ≡ place_type p f.locals a
own_type p id f a = place_typed p id f a

pub ruleset of_types = (own_type)
