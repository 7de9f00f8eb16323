-- What a `switch` chooses by is an integer, and it passes the test of that number.
use Rattle.std.proofs.Common.{◌≡◌, inl, inr, ℕ, ℤ, Bool, true, false, true≢false, ◌&&◌, ◌||◌, List, [], ◌∷◌, map, Contains, Option, Some, None, refl, ap, sym, ◌∙◌, subst}
use Rattle.std.specs.Prelude.{if◌then◌else◌}
use Rattle.std.specs.List.{flat_map, list_all, list_any}
use Rattle.std.specs.Ordering.{int_eq}
use Rattle.std.proofs.lemmas.Bool.Decides.{Decides-int_eq}
use Rattle.std.proofs.lemmas.List.Elements.{Contains-append_cases}
use Rattle.cc_state_values_sound.specs.CcControl.Control.{is_label}
use Rattle.cc_state_values_sound.proofs.CcEval.Links.{type_linked}
use Rattle.cc_state_values_sound.proofs.CcEval.Works.{answers_of}
use Rattle.cc_state_values_sound.specs.CcEval.declared.mark.Mark.{Mark}
use Rattle.cc_state_values_sound.specs.CcEval.Eval.{next_of}
use Rattle.cc_state_values_sound.specs.CcEval.Progress.{Known}
use Rattle.cc_program.specs.declared.expr.Expr.{Expr}
use Rattle.cc_program.specs.declared.func.Func.{Func}
use Rattle.cc_program.specs.declared.program.Program.{Program}
use Rattle.cc_program.specs.declared.stmt.Case.{Case}
use Rattle.cc_program.specs.declared.stmt.Stmt.TheOpen as is
use Rattle.cc_program.specs.declared.stmt.Stmt.{Stmt, out-Stmt}
use Rattle.cc_program.specs.declared.value.Value.{Value}
use Rattle.cc_program.specs.declared.value.Value.TheVariants.{Int}
use Rattle.cc_proof_rules.proofs.Lists.{no_member, first_or_rest}
use Rattle.cc_proof_rules.specs.Outcomes.{has_label as is_labelled, test_of}
use Rattle.cc_rules.specs.CcRulesFlows.Nexts.{constants, all_constants}
use Rattle.cc_rules.specs.CcRulesFlows.Tests.{Equals, Differs, Passes}
use Rattle.cc_state_values_sound.proofs.CcStates.AddressLemmas.{expression_takes}
use Rattle.cc_state_values_sound.proofs.CcStates.ControlLemmas.{statement_sound}
use Rattle.cc_state_values_sound.proofs.CcStates.EvalTypes.{meaning_typed}
use Rattle.cc_state_values_sound.proofs.CcStates.SoundLemmas.{typed, parts, labelled}
use Rattle.cc_state_values_sound.proofs.CcStates.TakenLemmas.{integer_value}
use Rattle.cc_state_values_sound.specs.CcStates.Answers.{IsMarkOf}
use Rattle.cc_state_values_sound.specs.CcStates.States.{may_break, may_continue, expression_of, worked_at, context_in, AreMarks, IsActive}
use Rattle.cc_state_values_sound.specs.CcStates.Typed.{HasType}
use Rattle.cc_state_values_sound.specs.CcSteps.State.{Active}
use Rattle.cc_state_values_sound.specs.CcSteps.Step.{worked, progress_in, progress_of}
use Rattle.cc_state_values_sound.proofs.CcSyntax.Prefixes.{both_true}
use Rattle.cc_state_values_sound.specs.CcSyntax.Effects.{no_one}
use Rattle.cc_state_values_sound.specs.CcSyntax.Programs.{type_of, is_sound_stmt, sound_step}
use Rattle.cc_state_values_sound.specs.CcSyntax.Statements.{Labelled, labels_fit, are_apart, has_label}
use Rattle.cc_state_values_sound.specs.CcSyntax.Values.{ValueType, NoValue, Integer, ToObject, ToFunction}

module _ (p : Program) (openings : List ℕ) (a : Active) (act : IsActive p openings a) (s : Stmt) (rest : List Stmt) (here : a.here.rest ≡ s ∷ rest) where
  abbrev fn : Func
  fn = act.func

  its_work : expression_of a ≡ worked (out-Stmt s) a.here.phase
  its_work = ap (worked_at a.here) here

  sound_at : sound_step p fn (parts p fn (out-Stmt s)) (may_break a.around) (may_continue a.around) ≡ true
  sound_at =
      let first = both_true (is_sound_stmt p fn s (may_break a.around) (may_continue a.around)) (list_all (λ t. is_sound_stmt p fn t (may_break a.around) (may_continue a.around)) rest)
      (ap (λ (l : List Stmt). list_all (λ t. is_sound_stmt p fn t (may_break a.around) (may_continue a.around)) l) (sym here) ∙ act.control.0) in
      statement_sound p fn s (may_break a.around) (may_continue a.around) first.0

  value_typed : (e : Expr) (t : ValueType) (v : Value) (ms : List Mark) → expression_of a ≡ Some e → type_of p fn.locals e ≡ Some t → progress_of p a (Some e) ≡ Known (Some v) ms → HasType p openings t v
  value_typed e t v ms x k w =
      ((meaning_typed (context_in p a fn) openings (record { function = act.function; number = act.number }) e (expression_takes fn a e act.inside x) t (type_linked (context_in p a fn) e ∙ k) no_one).known a.marks ms (Some v)
      (answers_of (IsMarkOf p openings) (next_of (context_in p a fn) e) a.marks (subst (λ (y : Option Expr). AreMarks (context_in p a fn) openings y a.marks) x act.marks)) (ap (λ (y : Option Func). progress_in p a.number a.func a.marks y (Some e)) (sym act.function) ∙ w)).1

  by_labels : (labels : List (Option ℤ)) (x : Option ValueType) (v : Value) → labels_fit p.target labels x ≡ true → ((t : ValueType) → x ≡ Some t → HasType p openings t v) → (n : ℤ) × (v ≡ Int n)
  by_labels labels None v l k = absurd (cc)
  by_labels labels (Some NoValue) v l k = absurd (cc)
  by_labels labels (Some (Integer t)) v l k = let n = integer_value p openings t v (k (Integer t) refl) in (n.0, n.1)
  by_labels labels (Some (ToObject constant volatile to)) v l k = absurd (cc)
  by_labels labels (Some (ToFunction sig)) v l k = absurd (cc)

  pub chosen_integer : (e : Expr) (cases : List Case) (v : Value) (ms : List Mark) → out-Stmt s ≡ is.Switch e cases → progress_of p a (expression_of a) ≡ Known (Some v) ms → (n : ℤ) × (v ≡ Int n)
  chosen_integer e cases v ms x w =
      let is_e : expression_of a ≡ Some e = its_work ∙ ap (λ y. worked y a.here.phase) x in
      let step : sound_step p fn (parts p fn (is.Switch e cases)) (may_break a.around) (may_continue a.around) ≡ true = ap (λ y. sound_step p fn (parts p fn y) (may_break a.around) (may_continue a.around)) (sym x) ∙ sound_at in
      by_labels (flat_map (λ (l : Labelled). l.labels) (map (labelled p fn) cases)) (typed p fn e) v
      (both_true (labels_fit p.target (flat_map (λ (l : Labelled). l.labels) (map (labelled p fn) cases)) (typed p fn e))
      (are_apart (flat_map (λ (l : Labelled). l.labels) (map (labelled p fn) cases)) && (list_all (λ (l : Labelled). has_label l.labels) (map (labelled p fn) cases) && list_all (λ (l : Labelled). l.body true (may_continue a.around)) (map (labelled p fn) cases))) step).0
      (λ t k. value_typed e t v ms is_e k (ap (progress_of p a) (sym is_e) ∙ w))

-- ---- the test of a number

either_first : (a b : Bool) → a ≡ true → (a || b) ≡ true
either_first a b h = ap (λ (t : Bool). t || b) h

either_second : (a b : Bool) → b ≡ true → (a || b) ≡ true
either_second true b h = refl
either_second false b h = h

label_in : (z : ℤ) (labels : List (Option ℤ)) → Contains (constants labels) z → list_any (is_label z) labels ≡ true
label_in z [] c = no_member z c
label_in z (None ∷ labels) c = label_in z labels c
label_in z (Some n ∷ labels) c = elim (first_or_rest n (constants labels) z c) [
  | inl e ↦ either_first (int_eq z n) (list_any (is_label z) labels) ((Decides-int_eq z n).1 (sym e))
  | inr r ↦ either_second (int_eq z n) (list_any (is_label z) labels) (label_in z labels r)
]

case_in : (z : ℤ) (cases : List Case) → Contains (all_constants cases) z → is_labelled z cases ≡ true
case_in z [] c = no_member z c
case_in z (k ∷ cases) c = elim (Contains-append_cases (constants k.labels) (all_constants cases) z c) [
  | inl l ↦ either_first (list_any (is_label z) k.labels) (is_labelled z cases) (label_in z k.labels l)
  | inr r ↦ either_second (list_any (is_label z) k.labels) (is_labelled z cases) (case_in z cases r)
]

int_same : (n m : ℤ) → Int n ≡ Int m → n ≡ m
int_same n m e = cc

-- a number passes its test
pub number_passes : (z : ℤ) (cases : List Case) → Passes (test_of z cases) (Int z)
number_passes z cases = by (is_labelled z cases) refl
  where
    by : (b : Bool) → is_labelled z cases ≡ b → Passes (if b then Equals z else Differs (all_constants cases)) (Int z)
    by true h = refl
    by false h = λ n c e. true≢false (sym (case_in z cases (subst (Contains (all_constants cases)) (sym (int_same z n e)) c)) ∙ h)
