-- A set of labels beside the cases that they stand in, as both grow.
use Rattle.std.proofs.Common.{◌≡◌, ◌∙◌, ℤ, Bool, true, false, cond, ◌||◌, List, [], ◌∷◌, ◌++◌, Option, Some, None, if◌then◌else◌, true≢false, refl, ap, sym}
use Rattle.std.specs.Cmp.{int_eq_equiv}
use Rattle.std.specs.Cmp.Lexicographic.{options_equiv}
use Rattle.std.specs.List.{list_any}
use Rattle.std.specs.Option.{option_eq}
use Rattle.std.specs.Ordering.{int_eq}
use Rattle.std.proofs.lemmas.List.Folds.{list_any-append}
use Rattle.cc_program.specs.declared.stmt.Case.{Case, out-Case, out-roll-Case}
use Rattle.cc_program.specs.declared.stmt.Stmt.{Stmt}
use Rattle.cc_operands.specs.CcSyntax.Statements.{same_label}
use Rattle.cc_typed_statements.specs.declared.cases.Cases.{Cases}
use Rattle.cc_typed_statements.specs.Labels.{no_case, at_last, with_label, new_case, labelled, with_statements, is_empty, behind, has_label}
use Rattle.cc_typed_statements.specs.LabelSets.{GoesWith}

abbrev Labels : Type 0
Labels = List (Option ℤ)

-- ---- equality of labels

eq-same : (l m : Option ℤ) → option_eq int_eq l m ≡ same_label l m
eq-same None None = refl
eq-same None (Some n) = refl
eq-same (Some m) None = refl
eq-same (Some m) (Some n) = refl

any-same : (l : Option ℤ) (labels : Labels) → list_any (option_eq int_eq l) labels ≡ list_any (same_label l) labels
any-same l [] = refl
any-same l (m ∷ ms) = λ j. eq-same l m j || any-same l ms j

eq-flip : (l m : Option ℤ) → option_eq int_eq l m ≡ same_label m l
eq-flip l m = (options_equiv int_eq_equiv).symm l m ∙ eq-same m l

-- ---- truth values

last-or : (a b : Bool) → ((a || b) || false) ≡ ((a || false) || b)
last-or true b = refl
last-or false true = refl
last-or false false = refl

or-assoc : (a b c : Bool) → (a || (b || c)) ≡ ((a || b) || c)
or-assoc true b c = refl
or-assoc false b c = refl

or-false : (a b : Bool) → (a || ((b || false) || false)) ≡ (a || (b || false))
or-false true b = refl
or-false false true = refl
or-false false false = refl

cond-or : (b a : Bool) → cond b true a ≡ (a || (b || false))
cond-or true true = refl
cond-or true false = refl
cond-or false true = refl
cond-or false false = refl

-- ---- the labels of cases, as they grow

has-more : (q l : Option ℤ) (c : Case) → has_label q (with_label l c) ≡ (has_label q c || (same_label q l || false))
has-more q l c =
    ap (λ x. list_any (same_label q) x.labels) (out-roll-Case (record { labels = (out-Case c).labels ++ l ∷ []; body = (out-Case c).body }))
    ∙ list_any-append (same_label q) (out-Case c).labels (l ∷ [])

has-new : (q l : Option ℤ) → has_label q (new_case l) ≡ (same_label q l || false)
has-new q l = ap (λ x. list_any (same_label q) x.labels) (out-roll-Case (record { labels = l ∷ []; body = [] }))

has-behind : (q : Option ℤ) (ss : List Stmt) (c : Case) → has_label q (with_statements ss c) ≡ has_label q c
has-behind q ss c = ap (λ x. list_any (same_label q) x.labels) (out-roll-Case (record { labels = (out-Case c).labels; body = (out-Case c).body ++ ss }))

last-more : (q l : Option ℤ) (c : Case) (cs : List Case) → list_any (has_label q) (at_last (with_label l) (c ∷ cs)) ≡ (list_any (has_label q) (c ∷ cs) || (same_label q l || false))
last-more q l c [] = ap (λ b. b || false) (has-more q l c) ∙ last-or (has_label q c) (same_label q l || false)
last-more q l c (d ∷ ds) =
    ap (λ b. has_label q c || b) (last-more q l d ds) ∙ or-assoc (has_label q c) (list_any (has_label q) (d ∷ ds)) (same_label q l || false)

new-more : (q l : Option ℤ) (cs : List Case) → list_any (has_label q) (cs ++ new_case l ∷ []) ≡ (list_any (has_label q) cs || (same_label q l || false))
new-more q l cs =
    list_any-append (has_label q) cs (new_case l ∷ [])
    ∙ (ap (λ b. list_any (has_label q) cs || (b || false)) (has-new q l) ∙ or-false (list_any (has_label q) cs) (same_label q l))

last-behind : (q : Option ℤ) (ss : List Stmt) (cs : List Case) → list_any (has_label q) (at_last (with_statements ss) cs) ≡ list_any (has_label q) cs
last-behind q ss [] = refl
last-behind q ss (c ∷ []) = ap (λ b. b || false) (has-behind q ss c)
last-behind q ss (c ∷ d ∷ cs) = ap (λ b. has_label q c || b) (last-behind q ss (d ∷ cs))

more : (only : Bool) (cs : List Case) (q l : Option ℤ) → (only ≡ true → is_empty cs ≡ false) →
    list_any (has_label q) (if only then at_last (with_label l) cs else cs ++ new_case l ∷ []) ≡ (list_any (has_label q) cs || (same_label q l || false))
more true [] q l begun = absurd (true≢false (begun refl))
more true (c ∷ cs) q l begun = last-more q l c cs
more false cs q l begun = new-more q l cs

filled : (only : Bool) (cs : List Case) (l : Option ℤ) → (only ≡ true → is_empty cs ≡ false) →
    is_empty (if only then at_last (with_label l) cs else cs ++ new_case l ∷ []) ≡ false
filled true [] l begun = begun refl
filled true (c ∷ []) l begun = refl
filled true (c ∷ d ∷ cs) l begun = refl
filled false [] l begun = refl
filled false (c ∷ cs) l begun = refl

-- ---- a set beside cases

-- whether the set has a label
pub has-label : (labels : Labels) (c : Cases) (l : Option ℤ) → GoesWith labels c → list_any (option_eq int_eq l) labels ≡ list_any (has_label l) c.cases
has-label labels c l h = any-same l labels ∙ h.has l

pub goes-none : (labels : Labels) → labels ≡ [] → GoesWith labels no_case
goes-none labels e = record { has = λ l. ap (list_any (same_label l)) e; begun = λ h. absurd (true≢false (sym h)) }

pub goes-labelled : (labels new : Labels) (c : Cases) (l : Option ℤ) → GoesWith labels c →
    ((q : Option ℤ) → list_any (option_eq int_eq q) new ≡ cond (option_eq int_eq l q) true (list_any (option_eq int_eq q) labels)) → GoesWith new (labelled l c)
goes-labelled labels new c l h e = record {
  has = λ q. sym (any-same q new) ∙ (e q ∙ ((λ j. cond (eq-flip l q j) true ((any-same q labels ∙ h.has q) j))
      ∙ (cond-or (same_label q l) (list_any (has_label q) c.cases) ∙ sym (more c.only_labels c.cases q l h.begun))));
  begun = λ _. filled c.only_labels c.cases l h.begun;
}

pub goes-behind : (labels : Labels) (c : Cases) (counts : Bool) (ss : List Stmt) → GoesWith labels c → GoesWith labels (behind counts ss c)
goes-behind labels c counts ss h = record { has = λ q. h.has q ∙ sym (last-behind q ss c.cases); begun = λ e. absurd (true≢false (sym e)) }

pub ruleset of_sets = (has-label, goes-none, goes-labelled, goes-behind)
