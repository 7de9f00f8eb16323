-- Where each constraint stands in the list of all.
use Rattle.std.proofs.Common.{arith, ◌≡◌, ◌<◌, ◌+◌, ◌*◌, ℕ, zero, suc, List, [], ◌∷◌, ◌++◌, map, length, length-append, Some, option_map, slice_get, refl, ap, ◌∙◌}
use Rattle.std.specs.List.{flat_map}
use Rattle.std.proofs.lemmas.List.{length-map}
use Rattle.std.proofs.lemmas.Option.{slice_get-map}
use Rattle.cc_rules.specs.CcFlow.Points.{count_of}
use Rattle.cc_program.specs.declared.program.Program.{Program}
use Rattle.cc_rules.specs.Constraints.{Rule, Constraint, at_point, rules_at, constraints, Initial}
use Rattle.cc_rules.specs.CcRulesNeeds.Flowing.{numbers}

get_front : {A : Type 0} (xs ys : List A) (i : ℕ) → i < length xs → slice_get (xs ++ ys) i ≡ slice_get xs i
get_front [] ys i l = absurd (omega (arith, l))
get_front (x ∷ xs) ys zero l = refl
get_front (x ∷ xs) ys (suc i) l = get_front xs ys i (omega (arith, l))

get_behind : {A : Type 0} (xs ys : List A) (i j : ℕ) → j ≡ length xs + i → slice_get (xs ++ ys) j ≡ slice_get ys i
get_behind [] ys i j e = let f : j ≡ i = omega (arith, e) in ap (slice_get ys) f
get_behind (x ∷ xs) ys i zero e = absurd (omega (arith, e))
get_behind (x ∷ xs) ys i (suc j) e = get_behind xs ys i j (omega (arith, e))

-- those of a point
length-block : (n : ℕ) → length (map (at_point n) rules_at) ≡ 9
length-block n = length-map rules_at (at_point n)

abbrev blocks : ℕ → ℕ → List Constraint
blocks k count = flat_map (λ n. map (at_point n) rules_at) (numbers k count)

length-blocks : (k count : ℕ) → length (blocks k count) ≡ count * 9
length-blocks k zero = refl
length-blocks k (suc count) =
    let r = length-blocks (suc k) count in
    let b = length-block k in
    length-append (map (at_point k) rules_at) (blocks (suc k) count) ∙ omega (arith, r, b)

at_block : (k count n number : ℕ) → n < count → number < 9 → (place : ℕ) → place ≡ n * 9 + number → slice_get (blocks k count) place ≡ option_map (at_point (k + n)) (slice_get rules_at number)
at_block k zero n number l s place e = absurd (omega (arith, l))
at_block k (suc count) zero number l s place e =
    let here : place ≡ number = omega (arith, e) in
    let b = length-block k in
    let own : k ≡ k + 0 = omega arith in
    ap (slice_get (blocks k (suc count))) here ∙ (get_front (map (at_point k) rules_at) (blocks (suc k) count) number (omega (arith, b, s)) ∙ (slice_get-map (at_point k) rules_at number ∙ ap (λ i. option_map (at_point i) (slice_get rules_at number)) own))
at_block k (suc count) (suc n) number l s place e =
    let b = length-block k in
    let own : suc k + n ≡ k + suc n = omega arith in
    get_behind (map (at_point k) rules_at) (blocks (suc k) count) (n * 9 + number) place (omega (arith, b, e))
    ∙ (at_block (suc k) count n number (omega (arith, l)) s (n * 9 + number) refl ∙ ap (λ i. option_map (at_point i) (slice_get rules_at number)) own)

pub first_constraint : (p : Program) → slice_get (constraints p) 0 ≡ Some (at_point 0 Initial)
first_constraint p = refl

pub length-constraints : (p : Program) → length (constraints p) ≡ 1 + count_of p * 9
length-constraints p = let l = length-blocks 0 (count_of p) in omega (arith, l)

pub constraint_of : (p : Program) (place n number : ℕ) (r : Rule) → place ≡ 1 + (n * 9 + number) → number < 9 → place < length (constraints p) → slice_get rules_at number ≡ Some r → slice_get (constraints p) place ≡ Some (at_point n r)
constraint_of p place n number r e s l is =
    let count = length-constraints p in
    let own : 0 + n ≡ n = omega arith in
    get_behind (at_point 0 Initial ∷ []) (blocks 0 (count_of p)) (n * 9 + number) place e
    ∙ (at_block 0 (count_of p) n number (omega (arith, e, l, count)) s (n * 9 + number) refl
    ∙ (ap (λ i. option_map (at_point i) (slice_get rules_at number)) own ∙ ap (option_map (at_point n)) is))
