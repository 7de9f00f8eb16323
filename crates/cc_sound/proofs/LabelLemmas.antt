-- The labels of all cases, case by case.
use Rattle.std.proofs.Common.{◌≡◌, ◌≤◌, ◌+◌, ℕ, length, drop, slice_get, Some, ℤ, Bool, true, false, not, ◌&&◌, ◌||◌, List, [], ◌∷◌, ◌++◌, Option, refl, ap, sym, ◌∙◌}
use Rattle.std.specs.List.{list_all, list_any, flat_map}
use Rattle.std.proofs.lemmas.List.Folds.{list_all-append, list_any-append}
use Rattle.cc_program.specs.CcNum.declared.int_type.IntType.{IntType}
use Rattle.cc_program.specs.CcNum.declared.target.Target.{Target}
use Rattle.cc_program.specs.declared.stmt.Case.{Case, out-Case}
use Rattle.cc_typed.specs.CcSyntax.Statements.{same_label, are_apart, label_fits, labels_of}
use Rattle.cc_sound.specs.Cases.{apart_from}
use Rattle.cc_sound.proofs.DropLemmas.{dropped, drop_past}

pub any_labels : (label : Option ℤ) (cases : List Case) → list_any (λ c. list_any (same_label label) (out-Case c).labels) cases ≡ list_any (same_label label) (labels_of cases)
any_labels label [] = refl
any_labels label (c ∷ cases) =
    ap (λ b. list_any (same_label label) (out-Case c).labels || b) (any_labels label cases) ∙ sym (list_any-append (same_label label) (out-Case c).labels (labels_of cases))

pub all_labels : (t : IntType) (target : Target) (cases : List Case) → list_all (λ c. list_all (label_fits target t) (out-Case c).labels) cases ≡ list_all (label_fits target t) (labels_of cases)
all_labels t target [] = refl
all_labels t target (c ∷ cases) =
    ap (λ b. list_all (label_fits target t) (out-Case c).labels && b) (all_labels t target cases) ∙ sym (list_all-append (label_fits target t) (out-Case c).labels (labels_of cases))

and_assoc : (a b c : Bool) → a && (b && c) ≡ (a && b) && c
and_assoc true b c = refl
and_assoc false b c = refl

pub apart-append : (ls others : List (Option ℤ)) → are_apart (ls ++ others) ≡ (apart_from ls others && are_apart others)
apart-append [] others = refl
apart-append (l ∷ ls) others =
    ap (λ b. not b && are_apart (ls ++ others)) (list_any-append (same_label l) ls others)
    ∙ ap (λ b. not (list_any (same_label l) ls || list_any (same_label l) others) && b) (apart-append ls others)
    ∙ and_assoc (not (list_any (same_label l) ls || list_any (same_label l) others)) (apart_from ls others) (are_apart others)

apart_by : (ls others : List (Option ℤ)) (b : Bool) → apart_from ls others ≡ b → are_apart (ls ++ others) ≡ (b && are_apart others)
apart_by ls others b h = apart-append ls others ∙ ap (λ c. c && are_apart others) h

-- the first of the cases that are left: its labels differ from each other and from the later ones, or they do not
module _ (cases : List Case) (i : ℕ) (c : Case) (got : slice_get cases i ≡ Some c) where
  first : (b : Bool) → apart_from (out-Case c).labels (labels_of (drop (i + 1) cases)) ≡ b → are_apart (labels_of (drop i cases)) ≡ (b && are_apart (labels_of (drop (i + 1) cases)))
  first b h = ap (λ l. are_apart (labels_of l)) (dropped cases i c got) ∙ apart_by (out-Case c).labels (labels_of (drop (i + 1) cases)) b h

  pub first_fails : apart_from (out-Case c).labels (labels_of (drop (i + 1) cases)) ≡ false → are_apart (labels_of (drop i cases)) ≡ false
  first_fails h = first false h

  pub first_differs : apart_from (out-Case c).labels (labels_of (drop (i + 1) cases)) ≡ true → are_apart (labels_of (drop i cases)) ≡ are_apart (labels_of (drop (i + 1) cases))
  first_differs h = first true h

pub none_left : (cases : List Case) (i : ℕ) → length cases ≤ i → are_apart (labels_of (drop i cases)) ≡ true
none_left cases i h = ap (λ l. are_apart (labels_of l)) (drop_past cases i h)
