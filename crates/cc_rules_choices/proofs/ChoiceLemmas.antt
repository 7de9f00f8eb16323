-- The tests of labels and of cases, one after the other.
use Rattle.std.proofs.Common.{◌≡◌, ◌+◌, ◌<◌, ◌≤◌, ℕ, ℤ, Bool, true, false, List, [], ◌∷◌, ◌++◌, length, take, drop, map, get_or, Option, Some, None, if◌then◌else◌, refl, ap, sym, ◌∙◌}
use Rattle.std.specs.List.{flat_map}
use Rattle.std.proofs.lemmas.List.{append_assoc, append-nil, drop_all, drop_more, map-append, take_more}
use Rattle.cc_flow.specs.Laws.{starts}
use Rattle.cc_flow.specs.View.{case_total, total_of_cases}
use Rattle.cc_program.specs.declared.stmt.Case.{Case}
use Rattle.cc_rules_choices.specs.Choices.{choice_of, choices_of}
use Rattle.cc_rules_choices.specs.declared.choices.Choice.{Choice}
use Rattle.cc_rules_flows.specs.Nexts.{all_constants, behind_in, case_starts, case_tests, choices, constants, has_default, label_test}
use Rattle.cc_rules_flows.specs.Tests.{Test, Differs}
use Rattle.cc_rules_tests.specs.declared.tested.Test.{Test as CodeTest}
use Rattle.cc_rules_tests.specs.Tested.{test_of}

-- an item is itself, whatever stands where there is none
item : {X : Type 0} (xs : List X) (i : ℕ) (x : X) → i < length xs → take (i + 1) xs ≡ take i xs ++ get_or xs i x ∷ []
item xs i x l = take_more xs i x l

constants-append : (xs ys : List (Option ℤ)) → constants (xs ++ ys) ≡ constants xs ++ constants ys
constants-append [] ys = refl
constants-append (None ∷ xs) ys = constants-append xs ys
constants-append (Some n ∷ xs) ys = ap (λ ns. n ∷ ns) (constants-append xs ys)

-- the constant of one label more
pub constants_on : (old now new : List ℤ) (labels : List (Option ℤ)) (i : ℕ) (d : Option ℤ) → i < length labels → now ≡ old ++ constants (take i labels) → new ≡ now ++ constants (get_or labels i d ∷ []) → new ≡ old ++ constants (take (i + 1) labels)
constants_on old now new labels i d l e is =
    is
    ∙ ap (λ ns. ns ++ constants (get_or labels i d ∷ [])) e
    ∙ append_assoc old (constants (take i labels)) (constants (get_or labels i d ∷ []))
    ∙ ap (λ ns. old ++ ns) (sym (constants-append (take i labels) (get_or labels i d ∷ [])) ∙ ap constants (sym (item labels i d l)))

flat_map-append : {X A : Type 0} (f : X → List A) (xs ys : List X) → flat_map f (xs ++ ys) ≡ flat_map f xs ++ flat_map f ys
flat_map-append f [] ys = refl
flat_map-append f (x ∷ xs) ys = ap (λ zs. f x ++ zs) (flat_map-append f xs ys) ∙ sym (append_assoc (f x) (flat_map f xs) (flat_map f ys))

-- those of one case more
pub cases_on : (now new : List ℤ) (cases : List Case) (i : ℕ) (c : Case) → i < length cases → c ≡ get_or cases i c → now ≡ all_constants (take i cases) → new ≡ now ++ constants c.labels → new ≡ all_constants (take (i + 1) cases)
cases_on now new cases i c l e before is =
    is
    ∙ ap (λ ns. ns ++ constants c.labels) before
    ∙ ap (λ ns. all_constants (take i cases) ++ ns) (sym (append-nil (constants c.labels)))
    ∙ sym (flat_map-append (λ (x : Case). constants x.labels) (take i cases) (c ∷ []))
    ∙ ap all_constants (sym (take_more cases i c l ∙ ap (λ x. take i cases ++ x ∷ []) (sym e)))

-- one choice more
pub choice_on : (old new : List Choice) (test : CodeTest) (k : ℕ) (t : Test) → test_of test ≡ t → new ≡ old ++ record { test = test; point = k } ∷ [] → choices_of new ≡ choices_of old ++ (t, k) ∷ []
choice_on old new test k t same e =
    ap choices_of e ∙ map-append choice_of old (record { test = test; point = k } ∷ []) ∙ ap (λ x. choices_of old ++ (x, k) ∷ []) same

-- the test of one label more
abbrev pub label_choice : List ℤ → ℕ → Option ℤ → Test × ℕ
label_choice all k label = (label_test all label, k)

pub labels_on : (all : List ℤ) (k : ℕ) (old now new : List Choice) (labels : List (Option ℤ)) (i : ℕ) (d : Option ℤ) (test : CodeTest) → i < length labels →
    choices_of now ≡ choices_of old ++ map (label_choice all k) (take i labels) → test_of test ≡ label_test all (get_or labels i d) → new ≡ now ++ record { test = test; point = k } ∷ [] →
    choices_of new ≡ choices_of old ++ map (label_choice all k) (take (i + 1) labels)
labels_on all k old now new labels i d test l before same is =
    choice_on now new test k (label_test all (get_or labels i d)) same is
    ∙ ap (λ ts. ts ++ label_choice all k (get_or labels i d) ∷ []) before
    ∙ append_assoc (choices_of old) (map (label_choice all k) (take i labels)) (label_choice all k (get_or labels i d) ∷ [])
    ∙ ap (λ ts. choices_of old ++ ts) (sym (map-append (label_choice all k) (take i labels) (get_or labels i d ∷ [])) ∙ ap (map (label_choice all k)) (sym (item labels i d l)))

-- those of one case more
tests_more : (all : List ℤ) (cases : List Case) (starts : List ℕ) (i : ℕ) (c : Case) (k : ℕ) → i < length cases → i < length starts → c ≡ get_or cases i c →
    case_tests all (drop i cases) (drop i starts) ≡ map (label_choice all (get_or starts i k)) c.labels ++ case_tests all (drop (i + 1) cases) (drop (i + 1) starts)
tests_more all cases starts i c k l m e =
    ap (λ xs. case_tests all xs (drop i starts)) (drop_more cases i c l ∙ ap (λ x. x ∷ drop (i + 1) cases) (sym e))
    ∙ ap (λ ks. case_tests all (c ∷ drop (i + 1) cases) ks) (drop_more starts i k m)

pub tests_on : (all : List ℤ) (now new : List Choice) (cases : List Case) (starts : List ℕ) (i : ℕ) (c : Case) (k : ℕ) (labels : List (Option ℤ)) → i < length cases → i < length starts → c ≡ get_or cases i c → labels ≡ c.labels →
    choices_of now ++ case_tests all (drop i cases) (drop i starts) ≡ case_tests all cases starts → choices_of new ≡ choices_of now ++ map (label_choice all (get_or starts i k)) labels →
    choices_of new ++ case_tests all (drop (i + 1) cases) (drop (i + 1) starts) ≡ case_tests all cases starts
tests_on all now new cases starts i c k labels l m e own before is =
    ap (λ ts. ts ++ case_tests all (drop (i + 1) cases) (drop (i + 1) starts)) (is ∙ ap (λ ls. choices_of now ++ map (label_choice all (get_or starts i k)) ls) own)
    ∙ append_assoc (choices_of now) (map (label_choice all (get_or starts i k)) c.labels) (case_tests all (drop (i + 1) cases) (drop (i + 1) starts))
    ∙ ap (λ ts. choices_of now ++ ts) (sym (tests_more all cases starts i c k l m e))
    ∙ before

-- and all
pub tests_all : (all : List ℤ) (now : List Choice) (cases : List Case) (starts : List ℕ) (i : ℕ) → length cases ≤ i → choices_of now ++ case_tests all (drop i cases) (drop i starts) ≡ case_tests all cases starts → choices_of now ≡ case_tests all cases starts
tests_all all now cases starts i l e =
    sym (append-nil (choices_of now)) ∙ ap (λ cs. choices_of now ++ case_tests all cs (drop i starts)) (sym (drop_all i cases l)) ∙ e

-- and the point behind them, where there is no `default`
abbrev pub behind_choice : List ℤ → Bool → ℕ → List (Test × ℕ)
behind_choice all b k = if b then [] else (Differs all, k) ∷ []

pub none_behind : (old : List (Test × ℕ)) (all : List ℤ) (b : Bool) (k : ℕ) → b ≡ true → old ≡ old ++ behind_choice all b k
none_behind old all b k e = sym (append-nil old) ∙ ap (λ c. old ++ behind_choice all c k) (sym e)

pub one_behind : (old new : List (Test × ℕ)) (all : List ℤ) (b : Bool) (k : ℕ) → b ≡ false → new ≡ old ++ (Differs all, k) ∷ [] → new ≡ old ++ behind_choice all b k
one_behind old new all b k e is = is ∙ ap (λ c. old ++ behind_choice all c k) (sym e)

pub whole : (n : ℕ) (cases : List Case) (next : List ℕ) (all : List ℤ) (firsts : List ℕ) (size behind : ℕ) (labels tests : List (Test × ℕ)) →
    size ≡ total_of_cases cases → behind ≡ behind_in n (1 + size) next → firsts ≡ starts (n + 1) behind (map case_total cases) → all ≡ all_constants cases → labels ≡ case_tests all cases firsts →
    tests ≡ labels ++ behind_choice all (has_default cases) behind → tests ≡ choices n cases next
whole n cases next all firsts size behind labels tests s b f a e is =
    let there : behind ≡ behind_in n (1 + total_of_cases cases) next = b ∙ ap (λ m. behind_in n (1 + m) next) s in
    let own : firsts ≡ case_starts n cases next = f ∙ ap (λ k. starts (n + 1) k (map case_total cases)) there in
    is
    ∙ ap (λ ts. ts ++ behind_choice all (has_default cases) behind) (e ∙ ap (λ ks. case_tests all cases ks) own)
    ∙ ap (λ ns. case_tests ns cases (case_starts n cases next) ++ behind_choice ns (has_default cases) behind) a
    ∙ ap (λ k. case_tests (all_constants cases) cases (case_starts n cases next) ++ behind_choice (all_constants cases) (has_default cases) k) there
