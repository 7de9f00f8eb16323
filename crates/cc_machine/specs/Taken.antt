-- A twin of the code: what waits innermost, with a value for it, and what else waits.
use Rattle.std.specs.Prelude.{List, [], ◌∷◌, Option, Some, None, Result, Ok}
use Rattle.cc_tree.specs.declared.stop.Stop.{Stop}
use Rattle.cc_tree.specs.Reading.{wrong}
use Rattle.cc_tree.specs.Tokens.{Tokens}

abbrev pub popped : {F : Type 0} → List F → Option F × List F
popped [] = (None, [])
popped (f ∷ fs) = (Some f, fs)

abbrev pub taken : {F A : Type 0} → List F → A → Tokens → Result (List F × F × A) Stop
taken [] x ts = wrong ts
taken (f ∷ fs) x ts = Ok (fs, f, x)

abbrev pub both : {A B : Type 0} → A → B → Result (A × B) Stop
both a b = Ok (a, b)
