-- Cases stay sound as labels and statements come behind them.
use Rattle.std.proofs.Common.{◌≡◌, ℤ, Bool, true, false, not, List, [], ◌∷◌, ◌++◌, Option, None, Ok, refl, ap, sym, ◌∙◌, subst, append_assoc}
use Rattle.std.specs.Prelude.{if◌then◌else◌}
use Rattle.std.specs.List.{list_all, list_any}
use Rattle.std.proofs.lemmas.List.{append-nil}
use Rattle.std.proofs.lemmas.List.Folds.{list_all-append}
use Rattle.cc_program.specs.CcNum.declared.int_type.IntType.{IntType}
use Rattle.cc_program.specs.CcNum.declared.target.Target.{Target}
use Rattle.cc_type.specs.CcOperands.Operands.{Operand, constancy}
use Rattle.cc_type.specs.CcOperands.declared.rule.Rule.TheVariants as rule
use Rattle.cc_operand_types.proofs.Constants.{converted_fits}
use Rattle.cc_operand_types.proofs.Operands.{ok_is, must_ok}
use Rattle.cc_operand_types.proofs.Stores.{then_ok}
use Rattle.cc_program.specs.declared.expr.Expr.{Expr}
use Rattle.cc_program.specs.declared.stmt.Case.{Case, out-Case, out-roll-Case}
use Rattle.cc_program.specs.declared.stmt.Stmt.{Stmt}
use Rattle.cc_program.specs.declared.types.CType.{CType}
use Rattle.cc_type.proofs.CcSyntax.Prefixes.{both_true}
use Rattle.cc_type.proofs.CcSyntax.SameLemmas.{and_true}
use Rattle.cc_type.specs.CcSyntax.Folding.{Constant, NoConstant, Value, Traps}
use Rattle.cc_type.specs.CcSyntax.Statements.{are_apart, labels_of, label_fits, has_label}
use Rattle.cc_type.specs.CcSyntax.Values.{ValueType}
use Rattle.cc_type.specs.CcTypedStatements.Labels.{no_case, at_last, with_label, new_case, labelled, with_statements, behind, behind_empty, label_in, once, case_label, default_label}
use Rattle.cc_type.specs.CcTypedStatements.Labels.{has_label as has_this_label}
use Rattle.cc_type.specs.CcTypedStatements.declared.cases.Cases.{Cases}
use Rattle.cc_read_sound.specs.Sound.{AreCases, sound_list}
use Rattle.cc_read_sound.proofs.Labels.{apart_end, any_label}
use Rattle.cc_read_sound.proofs.Opened.{append_sound}

-- ---- lists

nothing_behind : {A : Type 0} (xs : List A) (x : A) → (xs ++ x ∷ []) ++ [] ≡ (xs ++ []) ++ x ∷ []
nothing_behind xs x = append-nil (xs ++ x ∷ []) ∙ sym (ap (λ ys. ys ++ x ∷ []) (append-nil xs))

changed_last : (P : Case → Bool) (change : Case → Case) → ((c : Case) → P c ≡ true → P (change c) ≡ true) → (cs : List Case) → list_all P cs ≡ true → list_all P (at_last change cs) ≡ true
changed_last P change f [] h = h
changed_last P change f (c ∷ []) h = let a = both_true (P c) true h in and_true (P (change c)) true (f c a.0) refl
changed_last P change f (c ∷ d ∷ cs) h =
    let a = both_true (P c) (list_all P (d ∷ cs)) h in
    and_true (P c) (list_all P (at_last change (d ∷ cs))) a.0 (changed_last P change f (d ∷ cs) a.1)

labels-with : (l : Option ℤ) (c : Case) (cs : List Case) → labels_of (at_last (with_label l) (c ∷ cs)) ≡ labels_of (c ∷ cs) ++ l ∷ []
labels-with l c [] =
    ap (λ ls. ls ++ []) (ap (λ d. d.labels) (out-roll-Case (record { labels = (out-Case c).labels ++ l ∷ []; body = (out-Case c).body })))
    ∙ nothing_behind (out-Case c).labels l
labels-with l c (d ∷ cs) =
    ap (λ ls. (out-Case c).labels ++ ls) (labels-with l d cs) ∙ sym (append_assoc (out-Case c).labels (labels_of (d ∷ cs)) (l ∷ []))

labels-stay : (ss : List Stmt) (cs : List Case) → labels_of (at_last (with_statements ss) cs) ≡ labels_of cs
labels-stay ss [] = refl
labels-stay ss (c ∷ []) = ap (λ ls. ls ++ []) (ap (λ d. d.labels) (out-roll-Case (record { labels = (out-Case c).labels; body = (out-Case c).body ++ ss })))
labels-stay ss (c ∷ d ∷ cs) = ap (λ ls. (out-Case c).labels ++ ls) (labels-stay ss (d ∷ cs))

labels-new : (l : Option ℤ) (cs : List Case) → labels_of (cs ++ new_case l ∷ []) ≡ labels_of cs ++ l ∷ []
labels-new l [] = ap (λ ls. ls ++ []) (ap (λ d. d.labels) (out-roll-Case (record { labels = l ∷ []; body = [] })))
labels-new l (c ∷ cs) = ap (λ ls. (out-Case c).labels ++ ls) (labels-new l cs) ∙ sym (append_assoc (out-Case c).labels (labels_of cs) (l ∷ []))

some_label : (ls : List (Option ℤ)) (l : Option ℤ) → has_label (ls ++ l ∷ []) ≡ true
some_label [] l = refl
some_label (m ∷ ls) l = refl

module _ (target : Target) (typed : Expr → Option ValueType) (result : CType) (t : IntType) (continues : Bool) where
  abbrev Good : List Case → Type 0
  Good cs = AreCases target typed result t continues cs

  abbrev has : Case → Bool
  has c = has_label (out-Case c).labels

  abbrev sound : Case → Bool
  sound c = sound_list target typed result true continues (out-Case c).body

  pub none_sound : Good no_case.cases
  none_sound = record { fit = refl; apart = refl; labelled = refl; bodies = refl }

  -- ---- a label (6.8.4.2, 3 and 5)

  label_has : (l : Option ℤ) (c : Case) → has c ≡ true → has (with_label l c) ≡ true
  label_has l c h = ap (λ d. has_label d.labels) (out-roll-Case (record { labels = (out-Case c).labels ++ l ∷ []; body = (out-Case c).body })) ∙ some_label (out-Case c).labels l

  label_body : (l : Option ℤ) (c : Case) → sound c ≡ true → sound (with_label l c) ≡ true
  label_body l c h = ap (λ d. sound_list target typed result true continues d.body) (out-roll-Case (record { labels = (out-Case c).labels ++ l ∷ []; body = (out-Case c).body })) ∙ h

  new_has : (l : Option ℤ) → has (new_case l) ≡ true
  new_has l = ap (λ d. has_label d.labels) (out-roll-Case (record { labels = l ∷ []; body = [] }))

  new_body : (l : Option ℤ) → sound (new_case l) ≡ true
  new_body l = ap (λ d. sound_list target typed result true continues d.body) (out-roll-Case (record { labels = l ∷ []; body = [] }))

  all_more : (P : Case → Bool) (cs : List Case) (c : Case) → list_all P cs ≡ true → P c ≡ true → list_all P (cs ++ c ∷ []) ≡ true
  all_more P cs c h k = list_all-append P cs (c ∷ []) ∙ and_true (list_all P cs) (list_all P (c ∷ [])) h (and_true (P c) true k refl)

  -- the labels of all cases, with one more
  module _ (l : Option ℤ) (fits : label_fits target t l ≡ true) where
    fit_more : (ls : List (Option ℤ)) → list_all (label_fits target t) ls ≡ true → list_all (label_fits target t) (ls ++ l ∷ []) ≡ true
    fit_more ls h =
        list_all-append (label_fits target t) ls (l ∷ [])
        ∙ and_true (list_all (label_fits target t) ls) (list_all (label_fits target t) (l ∷ [])) h (and_true (label_fits target t l) true fits refl)

    labels_more : (cs ds : List Case) → labels_of ds ≡ labels_of cs ++ l ∷ [] → Good cs → list_any (has_this_label l) cs ≡ false → list_all has ds ≡ true → list_all sound ds ≡ true → Good ds
    labels_more cs ds e g n h k = record {
      fit = ap (list_all (label_fits target t)) e ∙ fit_more (labels_of cs) g.fit;
      apart = ap are_apart e ∙ apart_end (labels_of cs) l g.apart (sym (any_label l cs) ∙ n);
      labelled = h;
      bodies = k;
    }

    beside : (cs : List Case) → Good cs → list_any (has_this_label l) cs ≡ false → Good (at_last (with_label l) cs)
    beside [] g n = g
    beside (c ∷ cs) g n =
        labels_more (c ∷ cs) (at_last (with_label l) (c ∷ cs)) (labels-with l c cs) g n
        (changed_last has (with_label l) (label_has l) (c ∷ cs) g.labelled) (changed_last sound (with_label l) (label_body l) (c ∷ cs) g.bodies)

    begun : (cs : List Case) → Good cs → list_any (has_this_label l) cs ≡ false → Good (cs ++ new_case l ∷ [])
    begun cs g n =
        labels_more cs (cs ++ new_case l ∷ []) (labels-new l cs) g n (all_more has cs (new_case l) g.labelled (new_has l)) (all_more sound cs (new_case l) g.bodies (new_body l))

    labelled_by : (only : Bool) (cs : List Case) → Good cs → list_any (has_this_label l) cs ≡ false → Good (if only then at_last (with_label l) cs else cs ++ new_case l ∷ [])
    labelled_by true cs g n = beside cs g n
    labelled_by false cs g n = begun cs g n

  not_true : (b : Bool) → not b ≡ true → b ≡ false
  not_true true h = absurd (cc)
  not_true false h = refl

  once_sound : (c : Cases) (l m : Option ℤ) → label_fits target t l ≡ true → Good c.cases → once c l ≡ Ok m → Good (labelled m c).cases
  once_sound c l m f g h =
      let k = must_ok (not (list_any (has_this_label l) c.cases)) rule.CaseLabel (Ok l) m h in
      subst (λ (m : Option ℤ). Good (labelled m c).cases) (ok_is k.1) (labelled_by l f c.only_labels c.cases g (not_true (list_any (has_this_label l) c.cases) k.0))

  label_fitting : (x : Constant) (l : Option ℤ) → label_in target t x ≡ Ok l → label_fits target t l ≡ true
  label_fitting NoConstant l h = absurd (cc)
  label_fitting (Value n) l h = subst (λ (l : Option ℤ). label_fits target t l ≡ true) (ok_is h) (converted_fits t target (Value n))
  label_fitting Traps l h = absurd (cc)

  pub case_sound : (x : Operand) (c : Cases) (l : Option ℤ) → Good c.cases → case_label target t x c ≡ Ok l → Good (labelled l c).cases
  case_sound x c l g h =
      let k = then_ok (label_in target t (constancy x)) (once c) l h in
      once_sound c k.0 l (label_fitting (constancy x) k.0 k.1) g k.2

  pub default_sound : (c : Cases) (l : Option ℤ) → Good c.cases → default_label c ≡ Ok l → Good (labelled l c).cases
  default_sound c l g h = once_sound c None l refl g h

  -- ---- statements behind the last label

  statements_have : (ss : List Stmt) (c : Case) → has c ≡ true → has (with_statements ss c) ≡ true
  statements_have ss c h = ap (λ d. has_label d.labels) (out-roll-Case (record { labels = (out-Case c).labels; body = (out-Case c).body ++ ss })) ∙ h

  statements_body : (ss : List Stmt) → sound_list target typed result true continues ss ≡ true → (c : Case) → sound c ≡ true → sound (with_statements ss c) ≡ true
  statements_body ss k c h =
      ap (λ d. sound_list target typed result true continues d.body) (out-roll-Case (record { labels = (out-Case c).labels; body = (out-Case c).body ++ ss }))
      ∙ append_sound target typed result true continues (out-Case c).body ss h k

  pub behind_sound : (counts : Bool) (ss : List Stmt) (c : Cases) → sound_list target typed result true continues ss ≡ true → Good c.cases → Good (behind counts ss c).cases
  behind_sound counts ss c k g = record {
    fit = ap (list_all (label_fits target t)) (labels-stay ss c.cases) ∙ g.fit;
    apart = ap are_apart (labels-stay ss c.cases) ∙ g.apart;
    labelled = changed_last has (with_statements ss) (statements_have ss) c.cases g.labelled;
    bodies = changed_last sound (with_statements ss) (statements_body ss k) c.cases g.bodies;
  }

  empty_by : (only : Bool) (ss : List Stmt) → sound_list target typed result true continues ss ≡ true → sound_list target typed result true continues (if only then [] else ss) ≡ true
  empty_by true ss k = refl
  empty_by false ss k = k

  pub behind_empty_sound : (ss : List Stmt) (c : Cases) → sound_list target typed result true continues ss ≡ true → Good c.cases → Good (behind_empty ss c).cases
  behind_empty_sound ss c k g = behind_sound true (if c.only_labels then [] else ss) c (empty_by c.only_labels ss k) g
