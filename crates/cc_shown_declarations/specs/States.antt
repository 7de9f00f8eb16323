-- What is known while the structures of a program's text are declared: of those named so far, in order, the first of the
-- program's are complete. Nothing else is declared yet.
use Rattle.std.specs.Prelude.{ℕ, suc, Bool, ◌&&◌, nat_lt, List, [], ◌∷◌, map, Option, Some, None, slice_get, take, unwrap_or, if◌then◌else◌}
use Rattle.cc_program.specs.declared.program.Program.{Program}
use Rattle.cc_program.specs.declared.types.Structure.{Structure}
use Rattle.cc_type.specs.CcScopes.State.{State, Name, Scope, KnownStructure, only_named}
use Rattle.cc_type.specs.CcScopes.declared.designated.Tagged.{Tagged}
use Rattle.cc_type.specs.CcScopes.declared.designated.Tagged.TheVariants.{StructureTag}
use Rattle.cc_shown_expressions.specs.Numbers.{named_numbered}
use Rattle.cc_shown_declarations.specs.Order.{structure_number}
use Rattle.cc_type.specs.CcSyntax.Layout.{nothing, layouts}
use Rattle.cc_type.specs.CcSyntax.Types.{has_members}

module _ (p : Program) where
  abbrev pub tag_or_none : Option Structure → Name
  tag_or_none None = []
  tag_or_none (Some t) = t.tag

  abbrev pub tag_at : ℕ → Name
  tag_at i = tag_or_none (slice_get p.structures i)

  abbrev pub tag_entry : ℕ → Name × Tagged
  tag_entry i = (tag_at i, StructureTag (structure_number p i))

  -- one with its members, and its layout in the program
  abbrev pub whole_structure : ℕ → Structure → KnownStructure
  whole_structure i t = record {
    tag = Some t.tag;
    alias = None;
    members = Some (map (named_numbered (structure_number p)) t.members);
    layout = unwrap_or (slice_get (layouts p.target p.structures) i) nothing;
  }

  -- one that is only named has no members in the program either
  abbrev pub known_by : Bool → ℕ → Option Structure → KnownStructure
  known_by complete i None = only_named None
  known_by complete i (Some t) = if complete && has_members (Some t) then whole_structure i t else only_named (Some t.tag)

  abbrev pub known_as : ℕ → ℕ → KnownStructure
  known_as complete i = known_by (nat_lt i complete) i (slice_get p.structures i)

  -- the first so many that have members, by their numbers in the unit
  abbrev pub completed_from : ℕ → List Structure → List ℕ
  completed_from i [] = []
  completed_from i (t ∷ ts) = if has_members (Some t) then structure_number p i ∷ completed_from (suc i) ts else completed_from (suc i) ts

  abbrev pub file_scope : List ℕ → Scope
  file_scope order = record { names = []; tags = map tag_entry order }

  abbrev pub first_state : ℕ → List ℕ → State
  first_state complete order = record {
    scopes = file_scope order ∷ [];
    structures = map (known_as complete) order;
    completed = completed_from 0 (take complete p.structures);
    names = [];
    locals = [];
    unfinished = None;
  }
