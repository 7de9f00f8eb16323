-- What is known of a construct between two states: over a view that knows what there is behind it, what stands in front of it.
use Rattle.std.specs.Prelude.{List}
use Rattle.cc_operand_types.specs.Typed.{MembersStand}
use Rattle.cc_terms.specs.CcSyntax.Views.{View}
use Rattle.cc_terms.specs.CcScopes.State.{State}
use Rattle.cc_terms.specs.CcSyntax.Types.{Named}
use Rattle.cc_sound_terms.specs.Knowing.{KnowsStructures, KnowsNames, TypesStand, ObjectsStand, TagsStand}

-- what types stand on
pub record KnowsTypes (v : View) (s t : State) : Type 0 where
  pub structures : KnowsStructures v t.structures
  pub types : TypesStand v s
  pub tags : TagsStand v s

-- what expressions stand on, in a function with these locals
pub record Knows (v : View) (locals : List Named) (s t : State) : Type 0 where
  pub types : KnowsTypes v s t
  pub names : KnowsNames v t.names
  pub objects : ObjectsStand v locals s
  pub members : MembersStand v
