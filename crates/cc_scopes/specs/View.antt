-- The state of the code as the definitions have it. Its scopes are maps, the innermost last.
use Rattle.std.specs.Prelude.{List, reverse}
use Rattle.cc_scopes.specs.Standings.{entries_of, known_structures}
use Rattle.cc_scopes.specs.State.{Scope, KnownStructure, State}
use Rattle.cc_scopes.specs.declared.known.Structures.{Structures}
use Rattle.cc_scopes.specs.declared.state.State.{State as CodeState}

abbrev pub scopes_of : List Scope → List Scope
scopes_of ss = reverse ss

unfoldable pub known_of : Structures → List KnownStructure
known_of s = known_structures (entries_of s.all.items s.standings.items s.layouts.items)

unfoldable pub state_of : CodeState → State
state_of s = record {
  scopes = scopes_of s.scopes.items;
  structures = known_of s.structures;
  completed = s.structures.completed.items;
  names = s.names.all.items;
  locals = s.locals.items;
  unfinished = s.unfinished;
}
