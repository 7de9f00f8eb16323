-- What a structure looks like, those aside that it has or points to.
use Rattle.std.specs.Prelude.{ℕ, Bool, List, [], map, flat_map, is_some, unwrap_or, if◌then◌else◌}
use Rattle.cc_syntax.specs.Types.{Named}
use Rattle.cc_structures.specs.Structures.{Known, tag_of}
use Rattle.cc_structures.specs.Words.{type_words, type_parts}
use Rattle.cc_structures.specs.declared.words.Word.{Word}

-- one without a name is like no other: it has its source and position
pub record Look : Type 0 where
  pub named : Bool
  pub text : ℕ
  pub position : ℕ
  pub tag : List ℕ
  -- whether it has members, their names, and the words of their types
  pub complete : Bool
  pub names : List (List ℕ)
  pub words : List Word

abbrev pub unless_named : Known → ℕ → ℕ
unless_named s n = if is_some (tag_of s) then 0 else n

abbrev pub declared : Known → List Named
declared s = unwrap_or s.structure.members []

abbrev pub look_with : Known → List (List ℕ) → List Word → Look
look_with s names words = record {
  named = is_some (tag_of s);
  text = unless_named s s.text;
  position = unless_named s s.position;
  tag = unwrap_or (tag_of s) [];
  complete = is_some s.structure.members;
  names = names;
  words = words;
}

abbrev pub look_of : Known → Look
look_of s = look_with s (map (λ m. m.0) (declared s)) (flat_map (λ m. type_words m.1) (declared s))

-- the structures that it has or points to, by their positions in its source
abbrev pub parts_of : Known → List ℕ
parts_of s = flat_map (λ m. type_parts m.1) (declared s)

-- a structure, and these
pub record Node : Type 0 where
  pub known : Known
  pub parts : List ℕ

abbrev pub node_of : Known → Node
node_of s = record { known = s; parts = parts_of s }
