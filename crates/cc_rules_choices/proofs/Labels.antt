-- The labels that tests of a statement compare with are constants of its labels.
use Rattle.std.proofs.Common.{◌≡◌, ◌+◌, ℕ, ℤ, Bool, true, false, List, [], ◌∷◌, ◌++◌, map, Option, Some, None, if◌then◌else◌, ⊎_elim, refl, ap, sym, subst, ◌∙◌}
use Rattle.std.specs.List.{Contains}
use Rattle.std.proofs.lemmas.List.Elements.{Contains-append_cases, Contains-append_left, Contains-append_right}
use Rattle.cc_flow.specs.Next.{reached}
use Rattle.cc_flow.specs.Points.{total_of}
use Rattle.cc_flow.specs.View.{total_of_cases}
use Rattle.cc_rules_flows.specs.CcLattice.Domains.{IsIntValue}
use Rattle.cc_rules_flows.specs.CcPlaces.laws.ListLaws.{at_head, behind_head, cons_cases, none_in}
use Rattle.cc_program.specs.declared.stmt.Case.{Case}
use Rattle.cc_program.specs.declared.stmt.Stmt.{Stmt}
use Rattle.cc_rules_choices.specs.Choices.{choice_of, choices_of}
use Rattle.cc_rules_choices.specs.declared.choices.Choice.{Choice}
use Rattle.cc_rules_flows.specs.Nexts.{all_constants, behind_in, case_starts, case_tests, choices, constants, has_default, label_test, side, sides}
use Rattle.cc_rules_flows.specs.Tests.{Test, Is, Equals, Differs}
use Rattle.cc_rules_tests.specs.Tested.{labels_of, test_of}

abbrev AreAmong : List ℤ → List (Test × ℕ) → Type 0
AreAmong all tests = (t : Test × ℕ) → Contains tests t → (n : ℤ) → Contains (labels_of t.0) n → Contains all n

among_none : (all : List ℤ) → AreAmong all []
among_none all t h n k = absurd (none_in t h)

among_more : (all : List ℤ) (s : Test × ℕ) (tests : List (Test × ℕ)) → ((n : ℤ) → Contains (labels_of s.0) n → Contains all n) → AreAmong all tests → AreAmong all (s ∷ tests)
among_more all s tests first rest t h n k = ⊎_elim
    (λ e. first n (subst (λ (z : Test × ℕ). Contains (labels_of z.0) n) (sym e) k))
    (λ there. rest t there n k)
    (cons_cases s tests t h)

among_both : (all : List ℤ) (tests more : List (Test × ℕ)) → AreAmong all tests → AreAmong all more → AreAmong all (tests ++ more)
among_both all tests more first rest t h n k = ⊎_elim (λ there. first t there n k) (λ there. rest t there n k) (Contains-append_cases tests more t h)

among_labels : (all : List ℤ) (k : ℕ) (labels : List (Option ℤ)) → ((n : ℤ) → Contains (constants labels) n → Contains all n) → AreAmong all (map (λ label. (label_test all label, k)) labels)
among_labels all k [] within = among_none all
among_labels all k (None ∷ labels) within = among_more all (Differs all, k) (map (λ label. (label_test all label, k)) labels) (λ n h. h) (among_labels all k labels within)
among_labels all k (Some m ∷ labels) within =
    among_more all (Equals m, k) (map (λ label. (label_test all label, k)) labels)
    (λ n h. ⊎_elim (λ e. subst (Contains all) e (within m (at_head m (constants labels)))) (λ none. absurd (none_in n none)) (cons_cases m [] n h))
    (among_labels all k labels (λ n h. within n (behind_head m (constants labels) n h)))

among_cases : (all : List ℤ) (cases : List Case) (starts : List ℕ) → ((n : ℤ) → Contains (all_constants cases) n → Contains all n) → AreAmong all (case_tests all cases starts)
among_cases all [] starts within = among_none all
among_cases all (c ∷ cases) [] within = among_none all
among_cases all (c ∷ cases) (k ∷ starts) within =
    among_both all (map (λ label. (label_test all label, k)) c.labels) (case_tests all cases starts)
    (among_labels all k c.labels (λ n h. within n (Contains-append_left (constants c.labels) (all_constants cases) n h)))
    (among_cases all cases starts (λ n h. within n (Contains-append_right (constants c.labels) (all_constants cases) n h)))

among_rest : (all : List ℤ) (b : Bool) (k : ℕ) → AreAmong all (if b then [] else (Differs all, k) ∷ [])
among_rest all true k = among_none all
among_rest all false k = among_more all (Differs all, k) [] (λ n h. h) (among_none all)

of_choices : (n : ℕ) (cases : List Case) (next : List ℕ) → AreAmong (all_constants cases) (choices n cases next)
of_choices n cases next =
    among_both (all_constants cases) (case_tests (all_constants cases) cases (case_starts n cases next)) (if has_default cases then [] else (Differs (all_constants cases), behind_in n (1 + total_of_cases cases) next) ∷ [])
    (among_cases (all_constants cases) cases (case_starts n cases next) (λ m h. h))
    (among_rest (all_constants cases) (has_default cases) (behind_in n (1 + total_of_cases cases) next))

-- the tests as the code has them

in_choices : (list : List Choice) (c : Choice) → Contains list c → Contains (choices_of list) (choice_of c)
in_choices [] c h = absurd (none_in c h)
in_choices (x ∷ list) c h = ⊎_elim
    (λ e. subst (λ z. Contains (choice_of x ∷ choices_of list) (choice_of z)) e (at_head (choice_of x) (choices_of list)))
    (λ k. behind_head (choice_of x) (choices_of list) (choice_of c) (in_choices list c k))
    (cons_cases x list c h)

abbrev pub AreIntLabels : List Choice → Type 0
AreIntLabels list = (c : Choice) → Contains list c → (n : ℤ) → Contains (labels_of (test_of c.test)) n → IsIntValue n

pub switch_labels : (list : List Choice) (n : ℕ) (cases : List Case) (next : List ℕ) → choices_of list ≡ choices n cases next → ((m : ℤ) → Contains (all_constants cases) m → IsIntValue m) → AreIntLabels list
switch_labels list n cases next e values c h m k = values m (of_choices n cases next (choice_of c) (subst (λ ts. Contains ts (choice_of c)) e (in_choices list c h)) m k)

of_sides : (n : ℕ) (these those : List Stmt) (next : List ℕ) → AreAmong [] (sides n these those next)
of_sides n these those next =
    among_more [] (Is true, side true n these those next) ((Is false, side false n these those next) ∷ []) (λ m h. h)
    (among_more [] (Is false, side false n these those next) [] (λ m h. h) (among_none []))

pub if_labels : (list : List Choice) (n : ℕ) (these those : List Stmt) (next : List ℕ) → choices_of list ≡ sides n these those next → AreIntLabels list
if_labels list n these those next e c h m k = absurd (none_in m (of_sides n these those next (choice_of c) (subst (λ ts. Contains ts (choice_of c)) e (in_choices list c h)) m k))

same_sum : (a b c d : ℕ) → a ≡ b → c ≡ d → a + c ≡ b + d
same_sum a b c d e f = cc

same_reached : (a b c d x y : ℕ) → a ≡ b → c ≡ d → x ≡ y → reached a c x ≡ reached b d y
same_reached a b c d x y e f g = ap (λ m. reached m c x) e ∙ (ap (λ m. reached b m x) f ∙ ap (reached b d) g)

-- the two of an `if`
abbrev pub two_tests : ℕ → ℕ → List (Test × ℕ)
two_tests there elsewhere = (Is true, there) ∷ (Is false, elsewhere) ∷ []

same_tests : (a b c d : ℕ) → a ≡ b → c ≡ d → two_tests a c ≡ two_tests b d
same_tests a b c d e f = ap (λ m. two_tests m c) e ∙ ap (two_tests b) f

pub two_choices : (n : ℕ) (these those : List Stmt) (next : List ℕ) (first second behind there elsewhere : ℕ) → first ≡ total_of these → second ≡ total_of those → behind ≡ behind_in n (1 + (first + second)) next →
    there ≡ reached first (n + 1) behind → elsewhere ≡ reached second (n + 1 + first) behind → two_tests there elsewhere ≡ sides n these those next
two_choices n these those next first second behind there elsewhere e f g h k =
    let b : behind ≡ behind_in n (1 + (total_of these + total_of those)) next = g ∙ ap (λ m. behind_in n (1 + m) next) (same_sum first (total_of these) second (total_of those) e f) in
    let one : there ≡ side true n these those next = h ∙ same_reached first (total_of these) (n + 1) (n + 1) behind (behind_in n (1 + (total_of these + total_of those)) next) e refl b in
    let two : elsewhere ≡ side false n these those next =
    k ∙ same_reached second (total_of those) (n + 1 + first) (n + 1 + total_of these) behind (behind_in n (1 + (total_of these + total_of those)) next) f (ap (λ m. n + 1 + m) e) b in
    same_tests there (side true n these those next) elsewhere (side false n these those next) one two
