-- How many bytes texts have together.
use Rattle.std.proofs.Common.{◌≡◌, ◌∙◌, ◌+◌, ℕ, List, [], ◌∷◌, ◌++◌, length, map, sum, ap}
use Rattle.std.proofs.lemmas.List.{map-append}
use Rattle.std.proofs.lemmas.List.Sums.{sum_by_push}
use Rattle.std.specs.Prelude.{Vec}
use Rattle.std.specs.declared.alloc.Global.{Global}
use Rattle.cc_read.specs.Texts.{bytes_of}

pub sum-behind : (ts : List (Vec ℕ Global)) (t : Vec ℕ Global) → sum (map length (bytes_of (ts ++ t ∷ []))) ≡ sum (map length (bytes_of ts)) + length t.items
sum-behind ts t =
    ap (λ (xs : List (List ℕ)). sum (map length xs)) (map-append (λ (v : Vec ℕ Global). v.items) ts (t ∷ []))
    ∙ (ap sum (map-append (length {A = ℕ}) (bytes_of ts) (t.items ∷ []))
    ∙ sum_by_push (λ (n : ℕ). n) (map (length {A = ℕ}) (bytes_of ts)) (length t.items))

pub ruleset of_totals = (sum-behind)
