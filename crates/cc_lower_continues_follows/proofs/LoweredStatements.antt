-- Lowered statements are sound where their sources are: the types, and where `break` and `continue` may stand.
use Rattle.std.proofs.Common.{◌≡◌, ◌⊎◌, inl, inr, ◌*◌, ℕ, ℤ, Bool, true, false, ◌&&◌, List, [], ◌∷◌, ◌++◌, map, Option, Some, None, refl, ap, sym, ◌∙◌, subst}
use Rattle.std.specs.Prelude.{pos, int_le}
use Rattle.std.specs.List.{list_all, flat_map}
use Rattle.cc_program.specs.declared.expr.Expr.{Expr}
use Rattle.cc_program.specs.declared.func.Func.{Func}
use Rattle.cc_program.specs.declared.program.Program.{Program}
use Rattle.cc_program.specs.declared.stmt.Case.{Case, roll-Case, out-roll-Case, fold_out-Case}
use Rattle.cc_program.specs.declared.stmt.Stmt.{Stmt, roll-Stmt, out-roll-Stmt}
use Rattle.cc_program.specs.declared.stmt.Stmt.TheOpen as is
use Rattle.cc_program.proofs.Each.{Each}
use Rattle.cc_program.proofs.StmtInduction.{StmtParts, CaseParts, by_stmts}
use Rattle.cc_states.proofs.SoundLemmas.{labelled, parts, sound-opens}
use Rattle.cc_lower_statements.specs.Statements.{break_statement, constant_one, is_nonzero_constant, needed_test, needed_test_if, optional_statement, guarded, endless_loop, lower, lower_case, lower_list, lower_cases}
use Rattle.cc_lower_statements.proofs.Layers.{lower_layer, lower-out, lower_case-out}
use Rattle.cc_states.proofs.CcSyntax.SameLemmas.{and_true}
use Rattle.cc_states.specs.CcSyntax.Expressions.{type_of}
use Rattle.cc_states.specs.CcSyntax.Programs.{is_sound_stmt, sound_step, is_typed, is_optional_condition}
use Rattle.cc_states.specs.CcSyntax.Statements.{SoundWhere, Labelled, is_condition, sound_case, labels_fit, are_apart, has_label}
use Rattle.cc_states.specs.CcSyntax.Values.{ValueType}
use Rattle.cc_states.specs.CcSyntax.Views.{of_program}
use Rattle.cc_program.specs.CcNum.declared.int_type.IntType.TheVariants as int
use Rattle.cc_program.specs.CcNum.declared.target.Target.{Target}
use Rattle.cc_program.specs.CcNum.Integers.{least_of_bits, most_of_bits}
use Rattle.cc_program.proofs.CcNum.Conversions.{int_bytes_is}
use Rattle.cc_program.specs.declared.expr.Expr.TheOpen as term
use Rattle.cc_states.specs.CcSyntax.Values.{Integer}
use Rattle.cc_states.specs.CcSyntax.Operators.{when}
use Rattle.cc_lower_continues_follows.proofs.TypedNames.{type-roll}
use Rattle.cc_lower_continues_follows.proofs.ExpressionNames.{both_left, both_right}

-- `1` has the type int
abbrev fits_in : ℕ → Bool
fits_in n = int_le (least_of_bits true (8 * n)) (pos 1) && int_le (pos 1) (most_of_bits true (8 * n))

one_fits : (target : Target) → fits_in target.int_bytes ≡ true
one_fits target = by_bytes (int_bytes_is target)
  where
    by_bytes : (target.int_bytes ≡ 2) ⊎ (target.int_bytes ≡ 4) → fits_in target.int_bytes ≡ true
    by_bytes (inl e) = ap fits_in e
    by_bytes (inr e) = ap fits_in e

pub one_typed : (p : Program) (f : Func) → is_condition (type_of (of_program p) f.locals constant_one) ≡ true
one_typed p f = ap is_condition (type-roll (of_program p) f.locals (term.Const (pos 1) int.Int)) ∙ ap (λ (b : Bool). is_condition (when b (Integer int.Int))) (one_fits p.target)

module _ (p : Program) (f : Func) where
  abbrev pub typed : Expr → Option ValueType
  typed e = type_of (of_program p) f.locals e

  abbrev pub Sound : List Stmt → Bool → Bool → Type 0
  Sound l b c = list_all (λ (s : SoundWhere). s b c) (map (is_sound_stmt p f) l) ≡ true

  pub opens : (x : is.Stmt-F Stmt Case) (b c : Bool) → is_sound_stmt p f (roll-Stmt x) b c ≡ sound_step p f (parts p f x) b c
  opens x b c = ap (λ (g : SoundWhere). g b c) (sound-opens p f (roll-Stmt x) ∙ ap (λ (y : is.Stmt-F Stmt Case). sound_step p f (parts p f y)) (out-roll-Stmt x))

  pub one : (x : is.Stmt-F Stmt Case) (b c : Bool) → sound_step p f (parts p f x) b c ≡ true → Sound (roll-Stmt x ∷ []) b c
  one x b c h = and_true (is_sound_stmt p f (roll-Stmt x) b c) true (opens x b c ∙ h) refl

  append : (xs ys : List Stmt) (b c : Bool) → Sound xs b c → Sound ys b c → Sound (xs ++ ys) b c
  append [] ys b c h k = k
  append (x ∷ xs) ys b c h k = and_true (is_sound_stmt p f x b c) _ (both_left (is_sound_stmt p f x b c) _ h) (append xs ys b c (both_right (is_sound_stmt p f x b c) _ h) k)

  pub case_opens : (x : is.Case-F Stmt Case) → labelled p f (roll-Case x) ≡ sound_case (record { labels = x.labels; body = map (is_sound_stmt p f) x.body })
  case_opens x = fold_out-Case SoundWhere Labelled (sound_step p f) sound_case (roll-Case x) ∙ ap (λ (y : is.Case-F Stmt Case). sound_case (record { labels = y.labels; body = map (is_sound_stmt p f) y.body })) (out-roll-Case x)

  -- what may stand in front of each `continue`
  abbrev Simple : List Stmt → Type 0
  Simple l = (b c : Bool) → Sound l b c

  optional_simple : (x : Option Expr) → is_typed p f x ≡ true → Simple (optional_statement x)
  optional_simple None h b c = refl
  optional_simple (Some e) h b c = one (is.Do e) b c h

  module _ (constant : is_condition (typed constant_one) ≡ true) where
    endless_sound : (inside : List Stmt) (b c : Bool) → Sound inside true true → Sound (endless_loop inside ∷ []) b c
    endless_sound inside b c h = one (is.While constant_one inside) b c (and_true (is_condition (typed constant_one)) _ constant h)

    guarded_sound : (x : Option Expr) (inside : List Stmt) → is_optional_condition p f x ≡ true → Sound inside true true → Sound (guarded (needed_test x) inside) true true
    guarded_sound None inside h k = k
    guarded_sound (Some e) inside h k = by_kept (is_nonzero_constant e)
      where
        by_kept : (o : Bool) → Sound (guarded (needed_test_if o e) inside) true true
        by_kept true = k
        by_kept false = one (is.If e inside (break_statement ∷ [])) true true (and_true (is_condition (typed e)) _ h (and_true (list_all (λ (s : SoundWhere). s true true) (map (is_sound_stmt p f) inside)) _ k (one is.Break true true refl)))

    abbrev Keeps : Stmt → Type 0
    Keeps s = (b c : Bool) → is_sound_stmt p f s b c ≡ true → (step : List Stmt) → Simple step → Sound (lower s step) b c

    abbrev CaseKeeps : Case → Type 0
    CaseKeeps k = (step : List Stmt) → Simple step → ((labelled p f (lower_case k step)).labels ≡ (labelled p f k).labels) × ((b c : Bool) → (labelled p f k).body b c ≡ true → (labelled p f (lower_case k step)).body b c ≡ true)

    all_keep : (l : List Stmt) → Each Keeps l → (b c : Bool) → Sound l b c → (step : List Stmt) → Simple step → Sound (lower_list l step) b c
    all_keep [] h b c k step w = refl
    all_keep (s ∷ l) h b c k step w =
        append (lower s step) (lower_list l step) b c (h.0 b c (both_left (is_sound_stmt p f s b c) _ k) step w) (all_keep l h.1 b c (both_right (is_sound_stmt p f s b c) _ k) step w)

    labels_keep : (l : List Case) → Each CaseKeeps l → (step : List Stmt) → Simple step →
        flat_map (λ (x : Labelled). x.labels) (map (labelled p f) (lower_cases l step)) ≡ flat_map (λ (x : Labelled). x.labels) (map (labelled p f) l)
    labels_keep [] h step w = refl
    labels_keep (k ∷ l) h step w =
        ap (λ (x : List (Option ℤ)). x ++ flat_map (λ (x : Labelled). x.labels) (map (labelled p f) (lower_cases l step))) (h.0 step w).0 ∙ ap (λ (x : List (Option ℤ)). (labelled p f k).labels ++ x) (labels_keep l h.1 step w)

    has_keep : (l : List Case) → Each CaseKeeps l → (step : List Stmt) → Simple step →
        list_all (λ (x : Labelled). has_label x.labels) (map (labelled p f) (lower_cases l step)) ≡ list_all (λ (x : Labelled). has_label x.labels) (map (labelled p f) l)
    has_keep [] h step w = refl
    has_keep (k ∷ l) h step w =
        ap (λ (x : List (Option ℤ)). has_label x && list_all (λ (x : Labelled). has_label x.labels) (map (labelled p f) (lower_cases l step))) (h.0 step w).0 ∙ ap (λ (x : Bool). has_label (labelled p f k).labels && x) (has_keep l h.1 step w)

    bodies_keep : (l : List Case) → Each CaseKeeps l → (step : List Stmt) → Simple step → (b c : Bool) → list_all (λ (x : Labelled). x.body b c) (map (labelled p f) l) ≡ true → list_all (λ (x : Labelled). x.body b c) (map (labelled p f) (lower_cases l step)) ≡ true
    bodies_keep [] h step w b c k = refl
    bodies_keep (x ∷ l) h step w b c k =
        and_true ((labelled p f (lower_case x step)).body b c) _ ((h.0 step w).1 b c (both_left ((labelled p f x).body b c) _ k)) (bodies_keep l h.1 step w b c (both_right ((labelled p f x).body b c) _ k))

    none : Simple []
    none b c = refl

    switch_keeps : (e : Expr) (cases : List Case) → Each CaseKeeps cases → (step : List Stmt) → Simple step → (b c : Bool) → sound_step p f (parts p f (is.Switch e cases)) b c ≡ true → sound_step p f (parts p f (is.Switch e (lower_cases cases step))) b c ≡ true
    switch_keeps e cases h step w b c k =
        let labels : List (Option ℤ) = flat_map (λ (x : Labelled). x.labels) (map (labelled p f) cases) in
        let r = both_right (labels_fit p.target labels (typed e)) _ k in
        let q = both_right (are_apart labels) _ r in
        and_true (labels_fit p.target (flat_map (λ (x : Labelled). x.labels) (map (labelled p f) (lower_cases cases step))) (typed e)) _
        (ap (λ (l : List (Option ℤ)). labels_fit p.target l (typed e)) (labels_keep cases h step w) ∙ both_left (labels_fit p.target labels (typed e)) _ k)
        (and_true (are_apart (flat_map (λ (x : Labelled). x.labels) (map (labelled p f) (lower_cases cases step)))) _ (ap are_apart (labels_keep cases h step w) ∙ both_left (are_apart labels) _ r)
        (and_true (list_all (λ (x : Labelled). has_label x.labels) (map (labelled p f) (lower_cases cases step))) _ (has_keep cases h step w ∙ both_left (list_all (λ (x : Labelled). has_label x.labels) (map (labelled p f) cases)) _ q)
        (bodies_keep cases h step w true c (both_right (list_all (λ (x : Labelled). has_label x.labels) (map (labelled p f) cases)) _ q))))

    layer_keeps : (x : is.Stmt-F Stmt Case) → StmtParts Keeps CaseKeeps x → (b c : Bool) → sound_step p f (parts p f x) b c ≡ true → (step : List Stmt) → Simple step → Sound (lower_layer x step) b c
    layer_keeps (is.Do e) h b c k step w = one (is.Do e) b c k
    layer_keeps (is.If e a d) h b c k step w =
        let r = both_right (is_condition (typed e)) _ k in
        one (is.If e (lower_list a step) (lower_list d step)) b c (and_true (is_condition (typed e)) _ (both_left (is_condition (typed e)) _ k)
        (and_true (list_all (λ (s : SoundWhere). s b c) (map (is_sound_stmt p f) (lower_list a step))) _
        (all_keep a h.0 b c (both_left (list_all (λ (s : SoundWhere). s b c) (map (is_sound_stmt p f) a)) _ r) step w) (all_keep d h.1 b c (both_right (list_all (λ (s : SoundWhere). s b c) (map (is_sound_stmt p f) a)) _ r) step w)))
    layer_keeps (is.While e a) h b c k step w =
        endless_sound (guarded (needed_test (Some e)) (lower_list a [])) b c (guarded_sound (Some e) (lower_list a []) (both_left (is_condition (typed e)) _ k) (all_keep a h true true (both_right (is_condition (typed e)) _ k) [] none))
    layer_keeps (is.DoWhile a e) h b c k step w =
        endless_sound (lower_list a [] ++ guarded (needed_test (Some e)) []) b c
        (append (lower_list a []) (guarded (needed_test (Some e)) []) true true (all_keep a h true true (both_right (is_condition (typed e)) _ k) [] none) (guarded_sound (Some e) [] (both_left (is_condition (typed e)) _ k) refl))
    layer_keeps (is.For first test again a) h b c k step w =
        let r = both_right (is_typed p f first) _ k in
        let q = both_right (is_optional_condition p f test) _ r in
        let again_simple = optional_simple again (both_left (is_typed p f again) _ q) in
        let inside : List Stmt = lower_list a (optional_statement again) ++ optional_statement again in
        append (optional_statement first) (endless_loop (guarded (needed_test test) inside) ∷ []) b c (optional_simple first (both_left (is_typed p f first) _ k) b c)
        (endless_sound (guarded (needed_test test) inside) b c (guarded_sound test inside (both_left (is_optional_condition p f test) _ r)
        (append (lower_list a (optional_statement again)) (optional_statement again) true true (all_keep a h true true (both_right (is_typed p f again) _ q) (optional_statement again) again_simple) (again_simple true true))))
    layer_keeps (is.Switch e cases) h b c k step w = one (is.Switch e (lower_cases cases step)) b c (switch_keeps e cases h step w b c k)
    layer_keeps is.Break h b c k step w = one is.Break b c k
    layer_keeps is.Continue h b c k step w = append step (roll-Stmt is.Continue ∷ []) b c (w b c) (one is.Continue b c k)
    layer_keeps (is.Return e) h b c k step w = one (is.Return e) b c k
    layer_keeps is.Empty h b c k step w = refl
    layer_keeps (is.Block a) h b c k step w = all_keep a h b c k step w

    level : (x : is.Stmt-F Stmt Case) → StmtParts Keeps CaseKeeps x → Keeps (roll-Stmt x)
    level x h b c k step w =
        subst (λ (l : List Stmt). Sound l b c) (sym (lower-out (roll-Stmt x) step ∙ ap (λ (y : is.Stmt-F Stmt Case). lower_layer y step) (out-roll-Stmt x))) (layer_keeps x h b c (sym (opens x b c) ∙ k) step w)

    case_level : (x : is.Case-F Stmt Case) → CaseParts Keeps CaseKeeps x → CaseKeeps (roll-Case x)
    case_level x h step w =
        let now : labelled p f (lower_case (roll-Case x) step) ≡ sound_case (record { labels = x.labels; body = map (is_sound_stmt p f) (lower_list x.body step) }) =
        ap (labelled p f) (lower_case-out (roll-Case x) step ∙ ap (λ (y : is.Case-F Stmt Case). roll-Case (record { labels = y.labels; body = lower_list y.body step })) (out-roll-Case x)) ∙ case_opens (record { labels = x.labels; body = lower_list x.body step }) in (
          ap (λ (l : Labelled). l.labels) (now ∙ refl) ∙ sym (ap (λ (l : Labelled). l.labels) (case_opens x)),
          λ b c k. ap (λ (l : Labelled). l.body b c) now ∙ all_keep x.body h b c (sym (ap (λ (l : Labelled). l.body b c) (case_opens x)) ∙ k) step w,
        )

    -- a lowered body
    body_sound : (l : List Stmt) → Sound l false false → Sound (lower_list l []) false false
    body_sound l h = all_keep l (by_stmts Keeps CaseKeeps level case_level l) false false h [] none

  pub lowered_sound : (l : List Stmt) → Sound l false false → Sound (lower_list l []) false false
  lowered_sound l h = body_sound (one_typed p f) l h
