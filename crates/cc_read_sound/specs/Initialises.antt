-- What is found between two states leaves each object with static storage duration with first values of its type (C99 6.7.8, 4 and 10).
use Rattle.cc_read_sound.specs.Values.{AreInitial, HasContents}
use Rattle.cc_type.specs.CcScopes.State.{State}
use Rattle.cc_sound_terms.specs.Ordered.{IsOrdered}
use Rattle.cc_sound_terms.specs.Typing.{Knows}
use Rattle.cc_type.specs.CcSyntax.Types.{Named}
use Rattle.cc_type.specs.CcSyntax.Views.{View}
use Rattle.std.specs.Prelude.{List}

-- from s to t, in a function with these automatic objects, over a view that knows all that there is behind t
abbrev pub Initialises : View → List Named → State → State → Type 0
Initialises v objects s t = Knows v objects s t → HasContents v t.structures → IsOrdered s → AreInitial v s.names → AreInitial v t.names
