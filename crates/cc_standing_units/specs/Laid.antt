-- Structures of a state that lie as their members do (C99 6.7.2.1, 12 and 13).
use Rattle.std.specs.Prelude.{◌≡◌, ℕ, List, map, Some, slice_get}
use Rattle.cc_program.specs.CcNum.declared.target.Target.{Target}
use Rattle.cc_terms.specs.CcScopes.State.{State, KnownStructure, layouts_of}
use Rattle.cc_terms.specs.CcSyntax.Layout.{structure, type_layout}
use Rattle.cc_terms.specs.CcSyntax.Types.{Named}

-- each that is complete
abbrev pub AreLaid : Target → State → Type 0
AreLaid target s = (i : ℕ) (k : KnownStructure) (ms : List Named) → slice_get s.structures i ≡ Some k → k.members ≡ Some ms → k.layout ≡ structure (map (λ (m : Named). type_layout target (layouts_of s) m.1) ms)
