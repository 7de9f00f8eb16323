-- Counts that loops make, one more at a time.
use Rattle.std.proofs.Common.{◌≡◌, ◌∙◌, ◌+◌, ◌<◌, ◌≤◌, ◌++◌, ◌||◌, ℕ, suc, Bool, true, false, List, [], ◌∷◌, length, get_or, take, drop, map, max, refl, ap, sym, arith, append_assoc, if◌then◌else◌}
use Rattle.std.specs.Prelude.{fold}
use Rattle.std.specs.List.{list_any}
use Rattle.std.proofs.lemmas.List.{append-nil, map-append, take_more, length-take-le, drop_more, drop_all}
use Rattle.std.proofs.lemmas.List.Folds.{list_any-append}
use Rattle.std.proofs.lemmas.Grind.{fold-append}
use Rattle.cc_program.specs.declared.func.Func.{Func}
use Rattle.cc_program.specs.declared.object.Device.{Device}
use Rattle.cc_syntax.specs.Normal.{has_name as device_named}
use Rattle.cc_syntax.specs.Types.{Named}
use Rattle.cc_lower_numbers.specs.Numbered.{named_from}
use Rattle.cc_lower_numbers.specs.Temporaries.{has_name, named_count, temporary_count}

-- ---- locals with names

or_none : (b : Bool) → (b || false) ≡ b
or_none true = refl
or_none false = refl

step_by : (a b x : Bool) (n m : ℕ) → (if a || (b || x) then suc (if x then n + 1 else m) else 0) ≡ (if x then suc n + 1 else (if a || b then suc m else 0))
step_by true b true n m = omega arith
step_by true b false n m = refl
step_by false true true n m = omega arith
step_by false true false n m = refl
step_by false false true n m = omega arith
step_by false false false n m = refl

one_count : (x : Bool) → (if x || false then 1 else 0) ≡ (if x then 0 + 1 else 0)
one_count true = refl
one_count false = refl

count_push : (ls : List Named) (x : Named) → named_count (ls ++ x ∷ []) ≡ (if has_name x then length ls + 1 else named_count ls)
count_push [] x = one_count (has_name x)
count_push (l ∷ ls) x =
    (λ i. if has_name l || (list_any-append has_name ls (x ∷ []) ∙ ap (λ b. list_any has_name ls || b) (or_none (has_name x))) i then suc (count_push ls x i) else 0)
    ∙ step_by (has_name l) (list_any has_name ls) (has_name x) (length ls) (named_count ls)

pub count_more : (ls : List Named) (i : ℕ) (x : Named) → i < length ls → x ≡ get_or ls i x → named_count (take (i + 1) ls) ≡ (if has_name x then i + 1 else named_count (take i ls))
count_more ls i x h is =
    ap named_count (take_more ls i x h ∙ ap (λ y. take i ls ++ y ∷ []) (sym is))
    ∙ count_push (take i ls) x
    ∙ ap (λ n. if has_name x then n + 1 else named_count (take i ls)) (length-take-le i ls (omega (arith, h)))

pub ruleset of_counts = (count_more)

-- ---- devices with names

named_one : (b : Bool) (i : ℕ) (rest : List ℕ) → (if b then i ∷ rest else rest) ≡ (if b then i ∷ [] else []) ++ rest
named_one true i rest = refl
named_one false i rest = refl

pub named_more : (ids next : List ℕ) (ds : List Device) (i position : ℕ) (d : Device) (whole : List ℕ) → i < length ds → d ≡ get_or ds i d → position ≡ i → next ≡ ids ++ (if device_named d then position ∷ [] else []) →
    ids ++ named_from i (drop i ds) ≡ whole → next ++ named_from (i + 1) (drop (i + 1) ds) ≡ whole
named_more ids next ds i position d whole h is at pushed w =
    let further : suc i ≡ i + 1 = omega arith in
    let step : named_from i (drop i ds) ≡ (if device_named d then i ∷ [] else []) ++ named_from (i + 1) (drop (i + 1) ds) =
    ap (named_from i) (drop_more ds i d h ∙ ap (λ e. e ∷ drop (i + 1) ds) (sym is))
    ∙ ap (λ n. if device_named d then i ∷ named_from n (drop (i + 1) ds) else named_from n (drop (i + 1) ds)) further
    ∙ named_one (device_named d) i (named_from (i + 1) (drop (i + 1) ds)) in
    ap (λ n. n ++ named_from (i + 1) (drop (i + 1) ds)) (pushed ∙ ap (λ k. ids ++ (if device_named d then k ∷ [] else [])) at)
    ∙ append_assoc ids (if device_named d then i ∷ [] else []) (named_from (i + 1) (drop (i + 1) ds))
    ∙ ap (λ r. ids ++ r) (sym step) ∙ w

pub named_all : (ids : List ℕ) (ds : List Device) (i : ℕ) (whole : List ℕ) → length ds ≤ i → ids ++ named_from i (drop i ds) ≡ whole → ids ≡ whole
named_all ids ds i whole h w = let none : drop i ds ≡ [] = drop_all i ds h in sym (append-nil ids) ∙ (ap (λ r. ids ++ named_from i r) (sym none) ∙ w)

pub ruleset of_named = (named_more, named_all)

-- ---- the most temporaries

pub most_more : (fs : List Func) (i : ℕ) (d : Func) → i < length fs → fold max 0 (map temporary_count (take (i + 1) fs)) ≡ max (fold max 0 (map temporary_count (take i fs))) (temporary_count (get_or fs i d))
most_more fs i d h =
    ap (λ l. fold max 0 (map temporary_count l)) (take_more fs i d h)
    ∙ ap (fold max 0) (map-append temporary_count (take i fs) (get_or fs i d ∷ []))
    ∙ fold-append max 0 (map temporary_count (take i fs)) (temporary_count (get_or fs i d) ∷ [])

pub ruleset of_most = (most_more)
