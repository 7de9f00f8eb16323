-- The text of a trace, as far as a loop over its events has come.
use Rattle.std.proofs.Common.{◌≡◌, ◌∙◌, ◌<◌, ◌≤◌, ◌+◌, ◌++◌, ℕ, List, [], ◌∷◌, append_assoc, append-nil, get_or, length, ap, sym, take}
use Rattle.std.proofs.lemmas.List.{map-append, take_all, take_more}
use Rattle.csv.specs.Writing.{row_text, default_writer}
use Rattle.cc_program.specs.declared.program.Program.{Program}
use Rattle.cc_states.specs.CcSteps.declared.event.Event.{Event}
use Rattle.cc_states.specs.CcSteps.Rows.{Row, row_of, rows_of}
use Rattle.cc_run.specs.Trace.{row_fields, rows_text}

one_text : (r : Row) → rows_text (r ∷ []) ≡ row_text default_writer (row_fields r)
one_text r = append-nil (row_text default_writer (row_fields r))

rows-behind : (rs : List Row) (r : Row) → rows_text (rs ++ r ∷ []) ≡ rows_text rs ++ row_text default_writer (row_fields r)
rows-behind [] r = one_text r
rows-behind (s ∷ rs) r =
    ap (λ t. row_text default_writer (row_fields s) ++ t) (rows-behind rs r) ∙ sym (append_assoc (row_text default_writer (row_fields s)) (rows_text rs) (row_text default_writer (row_fields r)))

pub rows-more : (p : Program) (xs : List Event) (i : ℕ) (d : Event) → i < length xs → rows_text (rows_of p (take (i + 1) xs)) ≡ rows_text (rows_of p (take i xs)) ++ row_text default_writer (row_fields (row_of p (get_or xs i d)))
rows-more p xs i d h = ap (λ ys. rows_text (rows_of p ys)) (take_more xs i d h) ∙ ap rows_text (map-append (row_of p) (take i xs) (get_or xs i d ∷ [])) ∙ rows-behind (rows_of p (take i xs)) (row_of p (get_or xs i d))

pub rows-all : (p : Program) (xs : List Event) (i : ℕ) → length xs ≤ i → rows_text (rows_of p (take i xs)) ≡ rows_text (rows_of p xs)
rows-all p xs i h = ap (λ ys. rows_text (rows_of p ys)) (take_all i xs h)

pub ruleset of_rows = (rows-more, rows-all)
