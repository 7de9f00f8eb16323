-- New names for what is added to a program.
use Rattle.std.specs.Prelude.{ℕ, List, [], codes, replicate}
use Rattle.cc_lower_numbers.specs.Numbered.{names_of_program}
use Rattle.cc_names.specs.Names.{Numbered, names_for}
use Rattle.cc_program.specs.declared.program.Program.{Program}

-- so many of the names `base__1`, `base__2` and so on, without those that the program has
abbrev pub new_names : Program → List ℕ → ℕ → List (List ℕ)
new_names p base count = names_for (names_of_program p) [] [] (replicate count (Numbered base))

-- for words, and for tables
abbrev pub word_names : Program → ℕ → List (List ℕ)
word_names p count = new_names p (codes "w") count

abbrev pub table_names : Program → ℕ → List (List ℕ)
table_names p count = new_names p (codes "v") count
