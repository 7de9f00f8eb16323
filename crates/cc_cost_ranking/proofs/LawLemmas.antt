-- What is taken stays within the budgets; rankings that are known, by evaluation.
use Rattle.std.proofs.Common.{◌≡◌, ◌+◌, ◌*◌, ℕ, Bool, true, false, List, [], ◌∷◌, Option, Some, None, fold, if◌then◌else◌, refl, arith}
use Rattle.std.specs.declared.cmp.Ordering.TheVariants.{Less, Greater}
use Rattle.std.specs.Ordering.{nat_cmp, ordering_then}
use Rattle.std.proofs.lemmas.Bool.{and_from, le-leb}
use Rattle.cc_cost_ranking.specs.declared.types.Budgets.{Budgets}
use Rattle.cc_cost_ranking.specs.declared.types.Costed.{Costed}
use Rattle.cc_cost_ranking.specs.declared.types.Weights.{Weights}
use Rattle.cc_cost_ranking.specs.Examples.{costed, ten_of_code, three_of_time, six_five_four, three_one_none}
use Rattle.cc_cost_ranking.specs.Ranking.{are_within, is_within, nothing, rank_order, take_one, taken_of, with_one, Taken}

-- ---- budgets

nothing_within : (budget : Option ℕ) → is_within budget 0 ≡ true
nothing_within None = refl
nothing_within (Some most) = le-leb 0 most (omega arith)

kept_by : (budgets : Budgets) (taken more : Taken) (b : Bool) → are_within budgets more ≡ b → are_within budgets taken ≡ true → are_within budgets (if b then more else taken) ≡ true
kept_by budgets taken more true e h = e
kept_by budgets taken more false e h = h

one_kept : (budgets : Budgets) (taken : Taken) (c : Costed) → are_within budgets taken ≡ true → are_within budgets (take_one budgets taken c) ≡ true
one_kept budgets taken c h = kept_by budgets taken (with_one taken c) (are_within budgets (with_one taken c)) refl h

all_kept : (budgets : Budgets) (order : List Costed) (taken : Taken) → are_within budgets taken ≡ true → are_within budgets (fold (take_one budgets) taken order) ≡ true
all_kept budgets [] taken h = h
all_kept budgets (c ∷ order) taken h = all_kept budgets order (take_one budgets taken c) (one_kept budgets taken c h)

pub within : (budgets : Budgets) (order : List Costed) → are_within budgets (taken_of budgets order) ≡ true
within budgets order = all_kept budgets order nothing (and_from (is_within budgets.code 0) (is_within budgets.time 0) (nothing_within budgets.code) (nothing_within budgets.time))

-- ---- examples

pub dearer : (weights : Weights) → weights.code ≡ 1 → weights.time ≡ 1 → rank_order weights (costed 5 6 1 1) (costed 0 7 2 1) ≡ Less
dearer weights h k = by_weights weights.code weights.time h k
  where
    by_weights : (code time : ℕ) → code ≡ 1 → time ≡ 1 → ordering_then (nat_cmp (7 * (1 + code * 1 + time * 1)) (6 * (1 + code * 2 + time * 1))) (nat_cmp 5 0) ≡ Less
    by_weights code time h k = rw (h, k) refl

pub tied : (weights : Weights) → weights.code ≡ 1 → weights.time ≡ 1 → rank_order weights (costed 3 4 1 0) (costed 1 6 1 1) ≡ Greater
tied weights h k = by_weights weights.code weights.time h k
  where
    by_weights : (code time : ℕ) → code ≡ 1 → time ≡ 1 → ordering_then (nat_cmp (6 * (1 + code * 1 + time * 0)) (4 * (1 + code * 1 + time * 1))) (nat_cmp 3 1) ≡ Greater
    by_weights code time h k = rw (h, k) refl

pub left : (taken_of ten_of_code six_five_four).slots ≡ 0 ∷ 2 ∷ []
left = refl

pub both : (taken_of three_of_time three_one_none).slots ≡ 4 ∷ 6 ∷ []
both = refl
