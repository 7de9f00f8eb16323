-- The fields of words.
use Rattle.std.specs.Prelude.{ℕ, zero, suc, ◌==◌, List, [], ◌∷◌, ◌++◌, filter, fold}
use Rattle.cc_bins.specs.declared.types.Field.{Field}
use Rattle.cc_plan_legal.specs.declared.groups.Group.{Group}

-- the fields of a word, in their order
abbrev pub in_word : ℕ → List Field → List Field
in_word word fields = filter (λ (f : Field). f.word == word) fields

abbrev pub no_fields : Group
no_fields = record { fields = [] }

-- a field is put into the group at a place
abbrev pub put_at : ℕ → Field → List Group → List Group
put_at place f [] = []
put_at zero f (g ∷ groups) = record { fields = g.fields ++ f ∷ [] } ∷ groups
put_at (suc place) f (g ∷ groups) = g ∷ put_at place f groups

-- fields are put into the groups of their words
abbrev pub put_all : List Group → List Field → List Group
put_all groups fields = fold (λ (gs : List Group) (f : Field). put_at f.word f gs) groups fields
