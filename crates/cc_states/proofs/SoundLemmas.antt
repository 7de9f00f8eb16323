-- Sound statements, opened at their top: what is worked in one has a type.
use Rattle.std.proofs.Common.{◌≡◌, ℤ, Bool, true, ◌&&◌, List, [], ◌∷◌, length, map, Option, Some, None, refl, ap, sym, ◌∙◌, subst}
use Rattle.std.proofs.lemmas.Option.{same_Some}
use Rattle.std.specs.Prelude.{is_some}
use Rattle.std.specs.List.{list_all, flat_map}
use Rattle.cc_program.specs.declared.expr.Expr.{Expr}
use Rattle.cc_program.specs.declared.func.Func.{Func}
use Rattle.cc_program.specs.declared.program.Program.{Program}
use Rattle.cc_program.specs.declared.stmt.Case.{Case, fold-Case}
use Rattle.cc_program.specs.declared.stmt.Stmt.{Stmt, out-Stmt, map-Stmt, fold_out-Stmt}
use Rattle.cc_program.specs.declared.stmt.Stmt.TheOpen as is
use Rattle.cc_program.specs.declared.types.Sig.{out-Sig}
use Rattle.cc_steps.specs.CcControl.declared.phase.Phase.{Phase}
use Rattle.cc_steps.specs.CcControl.declared.phase.Phase.TheVariants.{First, Test, Again}
use Rattle.cc_steps.specs.CcControl.Control.{Level}
use Rattle.cc_steps.specs.Step.{worked}
use Rattle.cc_steps.specs.CcSyntax.Programs.{type_of, sound_step, is_sound_stmt, is_typed, is_optional_condition, returns}
use Rattle.cc_steps.specs.CcSyntax.Statements.{SoundWhere, Labelled, sound_case, is_condition, labels_fit, are_apart, has_label}
use Rattle.cc_steps.specs.CcSyntax.Sizes.{AreSized}
use Rattle.cc_steps.specs.CcSyntax.Sound.{any_names, IsTypedProgram}
use Rattle.cc_steps.proofs.CcSyntax.StructureLemmas.{structures_sized_by}
use Rattle.cc_steps.specs.CcSyntax.Values.{ValueType, scalar_value, is_assignable_some}
use Rattle.cc_steps.proofs.CcSyntax.Prefixes.{both_true}
use Rattle.cc_states.specs.States.{may_break, may_continue, AreSound, worked_at}

abbrev pub HasSome : Option ValueType → Type 0
HasSome x = (t : ValueType) × (x ≡ Some t)

some_there : (x : Option ValueType) → is_some x ≡ true → HasSome x
some_there None h = absurd (cc)
some_there (Some t) h = (t, refl)

condition_there : (x : Option ValueType) → is_condition x ≡ true → HasSome x
condition_there None h = absurd (cc)
condition_there (Some t) h = (t, refl)

returned_there : (to x : Option ValueType) → is_assignable_some to x ≡ true → HasSome x
returned_there None x h = absurd (cc)
returned_there (Some to) None h = absurd (cc)
returned_there (Some to) (Some t) h = (t, refl)

module _ (p : Program) (f : Func) where
  abbrev pub typed : Expr → Option ValueType
  typed e = type_of p f.locals e

  abbrev pub labelled : Case → Labelled
  labelled k = fold-Case SoundWhere Labelled (sound_step p f) sound_case k

  abbrev pub parts : is.Stmt-F Stmt Case → is.Stmt-F SoundWhere Labelled
  parts x = map-Stmt Stmt Case SoundWhere Labelled (is_sound_stmt p f) labelled x

  pub sound-opens : (s : Stmt) → is_sound_stmt p f s ≡ sound_step p f (parts (out-Stmt s))
  sound-opens s = fold_out-Stmt SoundWhere Labelled (sound_step p f) sound_case s

  labels_there : (labels : List (Option ℤ)) (x : Option ValueType) → labels_fit p.target labels x ≡ true → HasSome x
  labels_there labels None h = absurd (cc)
  labels_there labels (Some t) h = (t, refl)

  of_same : (e' e : Expr) → HasSome (typed e') → Some e' ≡ Some e → HasSome (typed e)
  of_same e' e h k = subst (λ (x : Expr). HasSome (typed x)) (same_Some e' e k) h

  of_typed : (x : Option Expr) (e : Expr) → is_typed p f x ≡ true → x ≡ Some e → HasSome (typed e)
  of_typed None e h k = absurd (cc)
  of_typed (Some e') e h k = of_same e' e (some_there (typed e') h) k

  of_condition : (x : Option Expr) (e : Expr) → is_optional_condition p f x ≡ true → x ≡ Some e → HasSome (typed e)
  of_condition None e h k = absurd (cc)
  of_condition (Some e') e h k = of_same e' e (condition_there (typed e') h) k

  of_return : (x : Option Expr) (e : Expr) → returns p f x ≡ true → x ≡ Some e → HasSome (typed e)
  of_return None e h k = absurd (cc)
  of_return (Some e') e h k = of_same e' e (returned_there (scalar_value (out-Sig f.sig).result) (typed e') h) k

  of_for : (first test again : Option Expr) (rest : Bool) (phase : Phase) (a : List Stmt) (e : Expr) → is_typed p f first && (is_optional_condition p f test && (is_typed p f again && rest)) ≡ true →
      worked (is.For first test again a) phase ≡ Some e → HasSome (typed e)
  of_for first test again rest First a e h k = of_typed first e (both_true (is_typed p f first) (is_optional_condition p f test && (is_typed p f again && rest)) h).0 k
  of_for first test again rest Test a e h k =
      of_condition test e (both_true (is_optional_condition p f test) (is_typed p f again && rest) (both_true (is_typed p f first) (is_optional_condition p f test && (is_typed p f again && rest)) h).1).0 k
  of_for first test again rest Again a e h k =
      of_typed again e (both_true (is_typed p f again) rest (both_true (is_optional_condition p f test) (is_typed p f again && rest) (both_true (is_typed p f first) (is_optional_condition p f test && (is_typed p f again && rest)) h).1).1).0 k

  worked_typed : (x : is.Stmt-F Stmt Case) (b c : Bool) → sound_step p f (parts x) b c ≡ true → (phase : Phase) (e : Expr) → worked x phase ≡ Some e → HasSome (typed e)
  worked_typed (is.Do e') b c h phase e k = of_same e' e (some_there (typed e') h) k
  worked_typed (is.If e' these those) b c h phase e k = of_same e' e (condition_there (typed e') (both_true (is_condition (typed e')) _ h).0) k
  worked_typed (is.While e' body) b c h phase e k = of_same e' e (condition_there (typed e') (both_true (is_condition (typed e')) _ h).0) k
  worked_typed (is.DoWhile body e') b c h phase e k = of_same e' e (condition_there (typed e') (both_true (is_condition (typed e')) _ h).0) k
  worked_typed (is.For first test again body) b c h phase e k = of_for first test again _ phase body e h k
  worked_typed (is.Switch e' cases) b c h phase e k = of_same e' e (labels_there (flat_map (λ (l : Labelled). l.labels) (map labelled cases)) (typed e')
      (both_true (labels_fit p.target (flat_map (λ (l : Labelled). l.labels) (map labelled cases)) (typed e'))
      (are_apart (flat_map (λ (l : Labelled). l.labels) (map labelled cases)) && (list_all (λ (l : Labelled). has_label l.labels) (map labelled cases) && list_all (λ (l : Labelled). l.body true c) (map labelled cases))) h).0) k
  worked_typed is.Break b c h phase e k = absurd (cc)
  worked_typed is.Continue b c h phase e k = absurd (cc)
  worked_typed (is.Return e') b c h phase e k = of_return e' e h k
  worked_typed is.Empty b c h phase e k = absurd (cc)
  worked_typed (is.Block body) b c h phase e k = absurd (cc)

  first_typed : (here : Level) (rest : List Stmt) (b c : Bool) → list_all (λ s. is_sound_stmt p f s b c) rest ≡ true → (e : Expr) → worked_at here rest ≡ Some e → HasSome (typed e)
  first_typed here [] b c h e k = absurd (cc)
  first_typed here (s ∷ rest) b c h e k =
      worked_typed (out-Stmt s) b c (ap (λ (g : SoundWhere). g b c) (sym (sound-opens s)) ∙ (both_true (is_sound_stmt p f s b c) (list_all (λ s. is_sound_stmt p f s b c) rest) h).0) here.phase e k

  pub level_typed : (here : Level) (around : List Level) → AreSound p f (here ∷ around) → (e : Expr) → worked_at here here.rest ≡ Some e → HasSome (typed e)
  level_typed here around h e k = first_typed here here.rest (may_break around) (may_continue around) h.0 e k

-- the structures of a typed program have sizes
pub typed-sized : (p : Program) → IsTypedProgram p → AreSized p.structures p.target
typed-sized p h = structures_sized_by (length p.structures) p.target any_names p.structures h.structures
