-- Where lists start, where some empty ones wait for one that has points.
use Rattle.std.proofs.Common.{arith, ◌≡◌, ◌+◌, ℕ, zero, suc, false, nat_eq, if◌then◌else◌, List, [], ◌∷◌, ◌++◌, length, map, replicate, refl, ap, sym, ◌∙◌}
use Rattle.std.proofs.lemmas.Bool.Decides.{nat_tests}
use Rattle.std.proofs.lemmas.List.{append_assoc, append-nil, replicate_more}
use Rattle.cc_flow.specs.Laws.{start, starts}
use Rattle.cc_flow.specs.View.{case_total}
use Rattle.cc_program.specs.declared.stmt.Case.{Case}
use Rattle.cc_rules_choices.specs.Starts.{AreStarted}

plus_none : (n : ℕ) → n + 0 ≡ n
plus_none n = omega arith

-- empty lists start where the next one does
start_empty : (number behind : ℕ) (w : ℕ) (counts : List ℕ) → start number behind (replicate w 0 ++ counts) ≡ start number behind counts
start_empty number behind zero counts = refl
start_empty number behind (suc w) counts = start_empty number behind w counts

starts_empty : (number behind w : ℕ) (counts : List ℕ) → starts number behind (replicate w 0 ++ counts) ≡ replicate w (start number behind counts) ++ starts number behind counts
starts_empty number behind zero counts = refl
starts_empty number behind (suc w) counts =
    ap (λ n. n ∷ starts (number + 0) behind (replicate w 0 ++ counts)) (start_empty number behind w counts)
    ∙ ap (λ n. start number behind counts ∷ starts n behind (replicate w 0 ++ counts)) (plus_none number)
    ∙ ap (λ ns. start number behind counts ∷ ns) (starts_empty number behind w counts)

-- one more that is empty waits too
pub waits : (old : List ℕ) (w number : ℕ) → AreStarted old w number 0 old (w + 1)
waits old w number behind counts =
    ap (λ ns. old ++ starts number behind ns) (sym (append_assoc (replicate w 0) (0 ∷ []) counts) ∙ ap (λ ns. ns ++ counts) (replicate_more w 0))
    ∙ ap (λ n. old ++ starts n behind (replicate (w + 1) 0 ++ counts)) (sym (plus_none number))

not_zero : (n : ℕ) → nat_eq (suc n) 0 ≡ false
not_zero n = grind (arith, nat_tests)

start_there : (number behind count : ℕ) (counts : List ℕ) → (count ≡ 0 → ⊥) → start number behind (count ∷ counts) ≡ number
start_there number behind zero counts some = absurd (some refl)
start_there number behind (suc n) counts some = ap (λ b. if b then start number behind counts else number) (not_zero n)

-- one more that has points starts all that wait
pub started : (old new : List ℕ) (w number count : ℕ) → (count ≡ 0 → ⊥) → new ≡ old ++ replicate (w + 1) number → AreStarted old w number count new 0
started old new w number count some is behind counts =
    ap (λ ns. old ++ ns) (starts_empty number behind w (count ∷ counts))
    ∙ ap (λ n. old ++ (replicate w n ++ (n ∷ starts (number + count) behind counts))) (start_there number behind count counts some)
    ∙ ap (λ ns. old ++ ns) (sym (append_assoc (replicate w number) (number ∷ []) (starts (number + count) behind counts)))
    ∙ sym (append_assoc old (replicate w number ++ number ∷ []) (starts (number + count) behind counts))
    ∙ ap (λ ns. (old ++ ns) ++ starts (number + count) behind counts) (replicate_more w number)
    ∙ ap (λ ns. ns ++ starts (number + count) behind counts) (sym is)

-- what waits at the end starts behind them
pub ended : (number behind w : ℕ) → starts number behind (replicate w 0 ++ []) ≡ replicate w behind
ended number behind w = starts_empty number behind w [] ∙ append-nil (replicate w behind)

-- each list starts somewhere
pub starts_length : (cases : List Case) (number behind : ℕ) → length (starts number behind (map case_total cases)) ≡ length cases
starts_length [] number behind = refl
starts_length (c ∷ cases) number behind = ap suc (starts_length cases (number + case_total c) behind)
