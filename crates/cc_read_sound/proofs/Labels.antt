-- One label more: it stands apart from the others, as it isn't among them.
use Rattle.std.proofs.Common.{◌≡◌, ℤ, Bool, true, false, not, ◌||◌, List, [], ◌∷◌, ◌++◌, Option, Some, None, refl, ap, sym, ◌∙◌}
use Rattle.std.specs.List.{list_any}
use Rattle.std.proofs.lemmas.Cmp.{int_eq_equiv}
use Rattle.std.proofs.lemmas.List.Folds.{list_any-append}
use Rattle.cc_program.specs.declared.stmt.Case.{Case, out-Case}
use Rattle.cc_type.proofs.CcSyntax.Prefixes.{both_true}
use Rattle.cc_type.proofs.CcSyntax.SameLemmas.{and_true}
use Rattle.cc_type.specs.CcSyntax.Statements.{same_label, are_apart, labels_of}
use Rattle.cc_type.specs.CcTypedStatements.Labels.{has_label}

mirrored : (l m : Option ℤ) → same_label l m ≡ same_label m l
mirrored None None = refl
mirrored None (Some n) = refl
mirrored (Some m) None = refl
mirrored (Some m) (Some n) = int_eq_equiv.symm m n

neither : (a b : Bool) → a || b ≡ false → (a ≡ false) × (b ≡ false)
neither true b h = absurd (cc)
neither false b h = (refl, h)

none_of : (a b : Bool) → not a ≡ true → b ≡ false → not (a || (b || false)) ≡ true
none_of true b h k = absurd (cc)
none_of false true h k = absurd (cc)
none_of false false h k = refl

pub apart_end : (ls : List (Option ℤ)) (l : Option ℤ) → are_apart ls ≡ true → list_any (same_label l) ls ≡ false → are_apart (ls ++ l ∷ []) ≡ true
apart_end [] l h k = refl
apart_end (m ∷ ls) l h k =
    let c = both_true (not (list_any (same_label m) ls)) (are_apart ls) h in
    let n = neither (same_label l m) (list_any (same_label l) ls) k in
    and_true (not (list_any (same_label m) (ls ++ l ∷ []))) (are_apart (ls ++ l ∷ []))
    (ap not (list_any-append (same_label m) ls (l ∷ [])) ∙ none_of (list_any (same_label m) ls) (same_label m l) c.0 (mirrored m l ∙ n.0))
    (apart_end ls l c.1 n.1)

-- whether a label is among those of all cases
pub any_label : (l : Option ℤ) (cases : List Case) → list_any (has_label l) cases ≡ list_any (same_label l) (labels_of cases)
any_label l [] = refl
any_label l (c ∷ cases) =
    ap (λ b. list_any (same_label l) (out-Case c).labels || b) (any_label l cases) ∙ sym (list_any-append (same_label l) (out-Case c).labels (labels_of cases))
