-- The labels of a `switch` are values of the type of its operand, and so of an integer type.
use Rattle.std.proofs.Common.{◌≡◌, inl, inr, ℕ, ℤ, Bool, true, ◌&&◌, List, [], ◌∷◌, map, slice_get, Contains, Option, Some, None, ap, sym, subst, ◌∙◌}
use Rattle.std.specs.List.{flat_map, list_all}
use Rattle.std.proofs.lemmas.List.Elements.{Contains-append_cases}
use Rattle.std.proofs.lemmas.List.Folds.{list_all-append}
use Rattle.cc_state_points.specs.CcFlowSound.Statements.{statement_at}
use Rattle.cc_state_points.proofs.CcLattice.IntValues.{value_is_int}
use Rattle.cc_state_points.specs.CcLattice.Domains.{IsIntValue}
use Rattle.cc_program.proofs.CcNum.ResultLaws.{value_from_test}
use Rattle.cc_program.specs.CcNum.declared.int_type.IntType.{IntType}
use Rattle.cc_program.specs.CcNum.declared.target.Target.{Target}
use Rattle.cc_state_points.specs.CcPlaces.laws.ListLaws.{cons_cases, none_in}
use Rattle.cc_program.specs.declared.expr.Expr.{Expr}
use Rattle.cc_program.specs.declared.func.Func.{Func}
use Rattle.cc_program.specs.declared.program.Program.{Program}
use Rattle.cc_program.specs.declared.stmt.Case.{Case, out-Case, fold_out-Case}
use Rattle.cc_program.specs.declared.stmt.Stmt.{Stmt, out-Stmt}
use Rattle.cc_program.specs.declared.stmt.Stmt.TheOpen as is
use Rattle.cc_state_points.specs.CcRulesFlows.Nexts.{constants, all_constants}
use Rattle.cc_state_points.proofs.Sound.{its_sound, sound_level}
use Rattle.cc_state_points.proofs.CcStates.SoundLemmas.{labelled, parts}
use Rattle.cc_state_points.proofs.CcSyntax.Prefixes.{both_true}
use Rattle.cc_state_points.specs.CcSyntax.Normal.{IsNormal}
use Rattle.cc_state_points.specs.CcSyntax.Operators.{is_promoted}
use Rattle.cc_state_points.specs.CcSyntax.Programs.{sound_step, type_of}
use Rattle.cc_state_points.specs.CcSyntax.Statements.{SoundWhere, Labelled, are_apart, has_label, label_fits, labels_fit, sound_case}
use Rattle.cc_state_points.specs.CcSyntax.Values.{ValueType, Integer}

module _ (target : Target) (t : IntType) where
  fits_value : (n : ℤ) → label_fits target t (Some n) ≡ true → IsIntValue n
  fits_value n h = value_is_int n t target (value_from_test t target n h)

  constants_fit : (labels : List (Option ℤ)) → list_all (label_fits target t) labels ≡ true → (n : ℤ) → Contains (constants labels) n → IsIntValue n
  constants_fit [] h n c = absurd (none_in n c)
  constants_fit (None ∷ labels) h n c = constants_fit labels (both_true true (list_all (label_fits target t) labels) h).1 n c
  constants_fit (Some m ∷ labels) h n c =
      elim (cons_cases m (constants labels) n c) [
        | inl e ↦ subst IsIntValue e (fits_value m (both_true (label_fits target t (Some m)) (list_all (label_fits target t) labels) h).0)
        | inr r ↦ constants_fit labels (both_true (label_fits target t (Some m)) (list_all (label_fits target t) labels) h).1 n r
      ]

  module _ (p : Program) (f : Func) where
    own_labels : (c : Case) → (labelled p f c).labels ≡ (out-Case c).labels
    own_labels c = ap (λ (l : Labelled). l.labels) (fold_out-Case SoundWhere Labelled (sound_step p f) sound_case c)

    abbrev labels_in : List Case → List (Option ℤ)
    labels_in cases = flat_map (λ (l : Labelled). l.labels) (map (labelled p f) cases)

    all_fit : (cases : List Case) → list_all (label_fits target t) (labels_in cases) ≡ true → (n : ℤ) → Contains (all_constants cases) n → IsIntValue n
    all_fit [] h n c = absurd (none_in n c)
    all_fit (k ∷ cases) h n c =
        let both = both_true (list_all (label_fits target t) (labelled p f k).labels) (list_all (label_fits target t) (labels_in cases)) (sym (list_all-append (label_fits target t) (labelled p f k).labels (labels_in cases)) ∙ h) in
        let own : list_all (label_fits target t) (out-Case k).labels ≡ true = ap (list_all (label_fits target t)) (sym (own_labels k)) ∙ both.0 in
        elim (Contains-append_cases (constants (out-Case k).labels) (all_constants cases) n c) [ inl l ↦ constants_fit (out-Case k).labels own n l | inr r ↦ all_fit cases both.1 n r ]

    -- where the operand has this type
    labels_values : (cases : List Case) (o : Option ValueType) → o ≡ Some (Integer t) → labels_fit target (labels_in cases) o ≡ true → (n : ℤ) → Contains (all_constants cases) n → IsIntValue n
    labels_values cases o e h n c =
        let fit : (is_promoted target t && list_all (label_fits target t) (labels_in cases)) ≡ true = ap (labels_fit target (labels_in cases)) (sym e) ∙ h in
        all_fit cases (both_true (is_promoted target t) (list_all (label_fits target t) (labels_in cases)) fit).1 n c

module _ (p : Program) (f : Func) where
  of_switch : (e : Expr) (cases : List Case) (b c : Bool) → sound_step p f (parts p f (is.Switch e cases)) b c ≡ true → labels_fit p.target (flat_map (λ (l : Labelled). l.labels) (map (labelled p f) cases)) (type_of p f.locals e) ≡ true
  of_switch e cases b c h =
      let list = map (labelled p f) cases in
      let labels = flat_map (λ (l : Labelled). l.labels) list in
      (both_true (labels_fit p.target labels (type_of p f.locals e)) (are_apart labels && (list_all (λ (l : Labelled). has_label l.labels) list && list_all (λ (l : Labelled). l.body true c) list)) h).0

-- a statement in normal form
pub switch_labels : (p : Program) (normal : IsNormal p) (id : ℕ) (f : Func) (function : slice_get p.funcs id ≡ Some f) (path : List ℕ) (s : Stmt) (stands : statement_at f.body path ≡ Some s) (e : Expr) (cases : List Case) →
    out-Stmt s ≡ is.Switch e cases → (t : IntType) → type_of p f.locals e ≡ Some (Integer t) → (n : ℤ) → Contains (all_constants cases) n → IsIntValue n
switch_labels p normal id f function path s stands e cases x t typed n c =
    let sound = its_sound p normal id f function path s stands in
    let step = subst (λ y. sound_step p f (parts p f y) sound.0 sound.1 ≡ true) x (sound_level p normal id f function path s stands) in
    labels_values p.target t p f cases (type_of p f.locals e) typed (of_switch p f e cases sound.0 sound.1 step) n c
