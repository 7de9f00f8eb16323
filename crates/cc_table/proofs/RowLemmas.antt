-- What the writer makes of the two rows: no field of them calls for quotes.
use Rattle.std.proofs.Common.{arith, ◌≡◌, ◌≤◌, ◌<◌, ◌^◌, ◌++◌, false, ℕ, List, [], ◌∷◌, refl, sym, ap, ◌∙◌, append_assoc, codes}
use Rattle.std.specs.Fmt.{decimal}
use Rattle.std.specs.Str.Parse.{AllDigits}
use Rattle.std.proofs.lemmas.Fmt.{decimal_is_IsNumeral}
use Rattle.std.proofs.lemmas.Str.Parse.{digit_from_value}
use Rattle.csv.specs.Writing.{default_writer, field_text, fields_text, is_blank, needs_byte, needs_quotes, row_text}
use Rattle.cc_table.specs.Table.{header, total_row}

digit_needs_none : (b : ℕ) → 48 ≤ b → b ≤ 57 → needs_byte default_writer b ≡ false
digit_needs_none b low high = grind arith

digits_need_none : (ds : List ℕ) → AllDigits 10 ds → needs_quotes default_writer ds ≡ false
digits_need_none [] h = refl
digits_need_none (d ∷ ds) h = let r = digit_from_value d h.0 in rw (digit_needs_none d r.0 r.1) (digits_need_none ds h.1)

decimal-plain : (n : ℕ) → n < 2 ^ 64 → field_text default_writer (decimal n) ≡ decimal n
decimal-plain n h = rw (digits_need_none (decimal n) (decimal_is_IsNumeral n h).0.1) refl

pub header-row : row_text default_writer (codes "slot" ∷ codes "class" ∷ codes "values" ∷ codes "bits" ∷ codes "coding" ∷ codes "word" ∷ codes "reason" ∷ []) ≡ header
unfolding header fields_text is_blank
header-row = refl

-- how the writer joins the fields, and how the definition does
joined : (b a zeros end : List ℕ) → (b ++ (44 ∷ (a ++ zeros))) ++ end ≡ ((b ++ codes ",") ++ a) ++ (zeros ++ end)
joined b a zeros end =
    append_assoc b (44 ∷ (a ++ zeros)) end ∙ ap (λ (t : List ℕ). b ++ (44 ∷ t)) (append_assoc a zeros end) ∙ sym (append_assoc b (codes ",") (a ++ (zeros ++ end)))
    ∙ sym (append_assoc (b ++ codes ",") a (zeros ++ end))

-- of a row whose numbers need none
plain-row : (b a : List ℕ) → field_text default_writer b ≡ b → field_text default_writer a ≡ a →
    row_text default_writer (codes "total" ∷ b ∷ a ∷ codes "0" ∷ codes "0" ∷ codes "0" ∷ codes "0" ∷ []) ≡ codes "total," ++ b ++ codes "," ++ a ++ codes ",0,0,0,0\n"
unfolding fields_text is_blank
plain-row b a h k = rw (h, k) (ap (λ (t : List ℕ). codes "total," ++ t) (joined b a (codes ",0,0,0,0") (codes "\n")))

pub total-row : (before after : ℕ) → before < 2 ^ 64 → after < 2 ^ 64 →
    row_text default_writer (codes "total" ∷ decimal before ∷ decimal after ∷ codes "0" ∷ codes "0" ∷ codes "0" ∷ codes "0" ∷ []) ≡ total_row before after
unfolding total_row
total-row before after h k = plain-row (decimal before) (decimal after) (decimal-plain before h) (decimal-plain after k)
