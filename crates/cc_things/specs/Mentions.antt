-- Mentions: the names of sources, and whether the sources speak of them.
use Rattle.std.specs.Prelude.{ℕ, suc, Bool, nat_eq, List, [], ◌∷◌, ◌++◌}
use Rattle.std.specs.List.{list_any}
use Rattle.cc_things.specs.declared.text.Text.{Text}
use Rattle.cc_unit.specs.Mentioned.{mentioned}
use Rattle.cc_unit.specs.declared.unit.UnitName.{UnitName}

-- a name of a source: the source, the position among its names, whether a body or a first value there speaks of it,
-- and what is known of it there
pub record Mention : Type 0 where
  pub text : ℕ
  pub position : ℕ
  pub used : Bool
  pub name : UnitName

-- the names from a position on, where the numbers are those of which the source speaks
abbrev pub mentions_in : ℕ → List ℕ → ℕ → List UnitName → List Mention
mentions_in text numbers i [] = []
mentions_in text numbers i (n ∷ ns) = record { text = text; position = i; used = list_any (nat_eq i) numbers; name = n } ∷ mentions_in text numbers (suc i) ns

abbrev pub mentions_of : ℕ → Text → List Mention
mentions_of text x = mentions_in text (mentioned x.unit.names) 0 x.unit.names

abbrev pub mentions_from : ℕ → List Text → List Mention
mentions_from text [] = []
mentions_from text (x ∷ xs) = mentions_of text x ++ mentions_from (suc text) xs

-- all mentions, in order of appearance
unfoldable pub mentions : List Text → List Mention
mentions texts = mentions_from 0 texts
