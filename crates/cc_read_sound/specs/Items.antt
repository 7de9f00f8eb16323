-- The state behind the last item of a unit: what is known of it over its own view, and what is so of its entries (C99 6.9).
use Rattle.std.specs.Prelude.{List, []}
use Rattle.cc_program.specs.CcNum.declared.target.Target.{Target}
use Rattle.cc_standing_units.specs.Views.{view_of}
use Rattle.cc_program.specs.declared.program.Roles.{Roles}
use Rattle.cc_type.specs.CcScopes.State.{State, Name, at_first}
use Rattle.cc_read_sound.specs.Definitions.{IsSoundAt}
use Rattle.cc_read_sound.specs.Entries.{AreWell}
use Rattle.cc_sound_declarations.specs.Declaring.{Declares}
use Rattle.cc_sound_terms.specs.Ordered.{IsOrdered}
use Rattle.cc_sound_terms.specs.Typing.{Knows}

pub record IsSoundState (target : Target) (roles : Roles) (defined : List Name) (s : State) : Type 0 where
  pub goes : Declares (view_of target s) defined at_first [] s []
  pub knows : Knows (view_of target s) [] at_first s
  pub ordered : IsOrdered s
  -- each body is sound, and what the unit defines is defined
  pub entries : AreWell target roles defined (IsSoundAt (view_of target s)) defined s
