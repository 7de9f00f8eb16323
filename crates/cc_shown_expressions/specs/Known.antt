-- What is known behind the structures of a program's text: each tag stands for its structure, with the number that the unit
-- gives it, and each structure is complete where the program's is.
use Rattle.std.specs.Prelude.{◌≡◌, ℕ, Some, slice_get}
use Rattle.cc_program.specs.declared.program.Program.{Program}
use Rattle.cc_program.specs.declared.types.Structure.{Structure}
use Rattle.cc_terms.specs.CcScopes.State.{State, tagged, structures_of, layouts_of}
use Rattle.cc_terms.specs.CcScopes.declared.designated.Tagged.TheVariants.{StructureTag}
use Rattle.cc_terms.specs.CcSyntax.Layout.{layouts}
use Rattle.cc_shown_expressions.specs.Numbers.{structure_numbered}

pub record KnowsStructures (p : Program) (number : ℕ → ℕ) (s : State) : Type 0 where
  pub tags : (i : ℕ) (t : Structure) → slice_get p.structures i ≡ Some t → tagged t.tag s.scopes ≡ Some (StructureTag (number i))
  pub structures : (i : ℕ) (t : Structure) → slice_get p.structures i ≡ Some t → slice_get (structures_of s) (number i) ≡ Some (structure_numbered number t)
  pub layouts : (i : ℕ) (t : Structure) → slice_get p.structures i ≡ Some t → slice_get (layouts_of s) (number i) ≡ slice_get (layouts p.target p.structures) i
