-- What rows give, as they are gone over one after another: those that came gave these, and the rest is to come.
use Rattle.std.proofs.Common.{◌≡◌, ◌∙◌, ◌<◌, ◌≤◌, ◌+◌, ◌-◌, ◌^◌, ℕ, min, List, [], ◌∷◌, ◌++◌, length, get_or, drop, map, refl, ap, sym, Option, Some, None, arith, append_assoc}
use Rattle.std.specs.Prelude.{option_map}
use Rattle.std.proofs.lemmas.List.{map-append, append-nil, drop_more, at_drop_all}
use Rattle.cc_program.specs.declared.func.Func.{Func}
use Rattle.cc_run.specs.declared.arrivals.Written.{Written}
use Rattle.cc_run.specs.Arrivals.{arrival_of, arrivals_from}
use Rattle.cc_run.specs.Outcomes.{first_none}

pub record Came {A : Type 0} (all : List (Option A)) (xs : List A) (rest : List (Option A)) : Type 0 where
  pub is : all ≡ map Some xs ++ rest

pub came-none : {A : Type 0} (all : List (Option A)) (xs : List A) → xs ≡ [] → Came all xs all
came-none all xs e = record { is = sym (ap (λ ys. map Some ys ++ all) e) }

-- one more
pub came-more : {A : Type 0} (all : List (Option A)) (xs ys : List A) (a : A) (o : Option A) (left rest : List (Option A)) → Came all xs left → left ≡ o ∷ rest → o ≡ Some a → ys ≡ xs ++ a ∷ [] → Came all ys rest
came-more all xs ys a o left rest c l e k = record {
  is = c.is ∙ ap (λ os. map Some xs ++ os) l ∙ ap (λ b. map Some xs ++ b ∷ rest) e ∙ sym (append_assoc (map Some xs) (Some a ∷ []) rest)
      ∙ ap (λ zs. zs ++ rest) (sym (map-append Some xs (a ∷ []))) ∙ ap (λ zs. map Some zs ++ rest) (sym k);
}

first_behind : {A : Type 0} (xs : List A) (rest : List (Option A)) → first_none (map Some xs ++ None ∷ rest) ≡ Some (length xs + 1)
first_behind [] rest = refl
first_behind (x ∷ xs) rest = ap (option_map (λ n. n + 1)) (first_behind xs rest) ∙ ap Some (omega arith)

-- the first that gives nothing
pub came-bad : {A : Type 0} (all : List (Option A)) (xs : List A) (o : Option A) (left rest : List (Option A)) (row : ℕ) → Came all xs left → left ≡ o ∷ rest → o ≡ None
    → row ≡ min (length xs + 1) (2 ^ 32 - 1) → option_map (λ n. min n (2 ^ 32 - 1)) (first_none all) ≡ Some row
came-bad all xs o left rest row c l e k =
    ap (λ os. option_map (λ n. min n (2 ^ 32 - 1)) (first_none os)) (c.is ∙ ap (λ os. map Some xs ++ os) l ∙ ap (λ b. map Some xs ++ b ∷ rest) e)
    ∙ ap (option_map (λ n. min n (2 ^ 32 - 1))) (first_behind xs rest) ∙ ap Some (sym k)

pub came-all : {A : Type 0} (all : List (Option A)) (xs : List A) (rest : List (Option A)) → Came all xs rest → rest ≡ [] → map Some xs ≡ all
came-all all xs rest c e = sym (c.is ∙ ap (λ os. map Some xs ++ os) e ∙ append-nil (map Some xs))

-- ---- lines that are picked from, and arrivals

pub picked : {L A : Type 0} (pick : L → A) (lines : List L) (i : ℕ) (l : L) → i < length lines → l ≡ get_or lines i l → map pick (drop i lines) ≡ pick l ∷ map pick (drop (i + 1) lines)
picked pick lines i l h e = ap (map pick) (drop_more lines i l h) ∙ ap (λ m. pick m ∷ map pick (drop (i + 1) lines)) (sym e)

pub picked-at : {L A : Type 0} (pick : L → A) (lines : List L) (i : ℕ) (d : L) → i < length lines → map pick (drop i lines) ≡ pick (get_or lines i d) ∷ map pick (drop (i + 1) lines)
picked-at pick lines i d h = ap (map pick) (drop_more lines i d h)

pub picked-all : {L A : Type 0} (pick : L → A) (lines : List L) (i : ℕ) → length lines ≤ i → map pick (drop i lines) ≡ []
picked-all pick lines i h = at_drop_all (map pick) lines i h

pub next-arrival : (funcs : List Func) (last : ℕ) (ws : List (Option Written)) (w : Option Written) (rest : List (Option Written)) (a : ℕ × ℕ) → ws ≡ w ∷ rest → arrival_of funcs last w ≡ Some a
    → arrivals_from funcs last ws ≡ Some a ∷ arrivals_from funcs a.0 rest
next-arrival funcs last ws w rest a e k = ap (arrivals_from funcs last) e ∙ rw k refl

pub no-arrival : (funcs : List Func) (last : ℕ) (ws : List (Option Written)) (w : Option Written) (rest : List (Option Written)) → ws ≡ w ∷ rest → arrival_of funcs last w ≡ None
    → arrivals_from funcs last ws ≡ None ∷ arrivals_from funcs last rest
no-arrival funcs last ws w rest e k = ap (arrivals_from funcs last) e ∙ rw k refl

maps : {R L A : Type 0} (line : R → L) (pick : L → A) (rows : List R) → map pick (map line rows) ≡ map (λ r. pick (line r)) rows
maps line pick [] = refl
maps line pick (r ∷ rows) = ap (λ xs. pick (line r) ∷ xs) (maps line pick rows)

-- what lines say that were read of rows
pub picked-lines : {R L A : Type 0} (line : R → L) (pick : L → A) (rows : List R) (lines slice : List L) → lines ≡ map line rows → slice ≡ lines → map pick slice ≡ map (λ r. pick (line r)) rows
picked-lines line pick rows lines slice h k = ap (map pick) (k ∙ h) ∙ maps line pick rows

pub ruleset of_coming = (came-none, came-all)
