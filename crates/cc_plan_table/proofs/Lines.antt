-- The text of rows, from those of its parts.
use Rattle.std.proofs.Common.{◌≡◌, ◌∙◌, ℕ, List, [], ◌∷◌, ◌++◌, refl, ap, sym, append_assoc}
use Rattle.std.proofs.lemmas.List.{append-nil}
use Rattle.cc_plan_table.specs.Table.{line_of, rows_text, Row}

rows_end : (rows : List Row) (last : Row) → rows_text (rows ++ last ∷ []) ≡ rows_text rows ++ line_of last
rows_end [] last = append-nil (line_of last)
rows_end (r ∷ rows) last = ap (λ (t : List ℕ). line_of r ++ t) (rows_end rows last) ∙ sym (append_assoc (line_of r) (rows_text rows) (line_of last))

pub table_parts : (first : Row) (rows : List Row) (last : Row) → rows_text (first ∷ rows ++ last ∷ []) ≡ (line_of first ++ rows_text rows) ++ line_of last
table_parts first rows last = ap (λ (t : List ℕ). line_of first ++ t) (rows_end rows last) ∙ sym (append_assoc (line_of first) (rows_text rows) (line_of last))
