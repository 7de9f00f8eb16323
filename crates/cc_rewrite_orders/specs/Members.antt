-- Programs whose members stand in another order, some of them left out. Words stand behind the members of their structures already, and no
-- place is within a word: so the types of places are those over the structures without words, which may be of any size below the greatest.
use Rattle.std.specs.Prelude.{ℕ, List, flat_map, map}
use Rattle.std.specs.List.{enumerate_from}
use Rattle.cc_state_points.specs.CcEval.Context.{object_type}
use Rattle.cc_lower_numbers.specs.Order.{arranged, place_in}
use Rattle.cc_program.specs.declared.func.Func.{Func}
use Rattle.cc_program.specs.declared.object.Object.{Object}
use Rattle.cc_program.specs.declared.program.Program.{Program}
use Rattle.cc_program.specs.declared.types.CType.{CType}
use Rattle.cc_program.specs.declared.types.Structure.{Structure}
use Rattle.cc_program.specs.declared.value.Leaf.{Leaf}
use Rattle.cc_rewrite_codes.specs.FirstValues.{initial}
use Rattle.cc_rewrite_codes.specs.Relaid.{relaid}
use Rattle.cc_rewrite_orders.specs.RenamedMembers.{leaf_renamed, stmt_renamed}

-- each structure has its order
module _ (member_order : ℕ → List ℕ) where
  abbrev pub in_order : ℕ → List (List Leaf) → List Leaf
  in_order s values = flat_map (λ vs. vs) (arranged values (member_order s))

  -- what is left out stands nowhere, and keeps its number
  abbrev pub member_place : ℕ → ℕ → ℕ
  member_place s m = place_in 0 (member_order s) m

  -- by the structures without words
  module _ (before : List Structure) (p : Program) where
    abbrev pub typed : Program
    typed = record p { structures = before }

    abbrev pub ordered_object : Object → Object
    ordered_object o = record o { init = initial (map (leaf_renamed member_place typed (object_type typed)) (relaid in_order p.structures o.ctype o.init)) }

    abbrev pub ordered_structure : ℕ × Structure → Structure
    ordered_structure x = record x.1 { members = arranged x.1.members (member_order x.0) }

    abbrev pub ordered_func : Func → Func
    ordered_func f = record f { body = map (stmt_renamed member_place typed f) f.body }

    unfoldable pub with_members_ordered : Program
    with_members_ordered = record p { structures = map ordered_structure (enumerate_from 0 p.structures); objects = map ordered_object p.objects; funcs = map ordered_func p.funcs }
