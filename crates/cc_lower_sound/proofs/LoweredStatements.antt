-- Lowered statements are sound where their sources are.
use Rattle.std.proofs.Common.{◌≡◌, ◌⊎◌, inl, inr, ◌*◌, ℕ, ℤ, Bool, true, false, ◌&&◌, List, [], ◌∷◌, ◌++◌, map, Option, Some, None, refl, ap, sym, ◌∙◌, subst}
use Rattle.std.specs.Prelude.{pos, int_le}
use Rattle.std.specs.List.{list_all, flat_map}
use Rattle.cc_program.specs.CcNum.declared.int_type.IntType.TheVariants as int
use Rattle.cc_program.specs.CcNum.declared.target.Target.{Target}
use Rattle.cc_program.specs.CcNum.Integers.{least_of_bits, most_of_bits}
use Rattle.cc_program.proofs.CcNum.Conversions.{int_bytes_is}
use Rattle.cc_program.specs.declared.expr.Expr.{Expr}
use Rattle.cc_program.specs.declared.expr.Expr.TheOpen as term
use Rattle.cc_program.specs.declared.stmt.Case.{Case, roll-Case, out-roll-Case}
use Rattle.cc_program.specs.declared.stmt.Stmt.{Stmt, roll-Stmt, out-roll-Stmt}
use Rattle.cc_program.specs.declared.stmt.Stmt.TheOpen as is
use Rattle.cc_program.specs.declared.types.CType.{CType}
use Rattle.cc_program.proofs.Each.{Each}
use Rattle.cc_program.proofs.StmtInduction.{StmtParts, CaseParts, by_stmts}
use Rattle.cc_lower_statements.specs.Statements.{break_statement, constant_one, is_nonzero_constant, needed_test, needed_test_if, optional_statement, guarded, endless_loop, lower, lower_case, lower_list, lower_cases}
use Rattle.cc_lower_statements.proofs.Layers.{lower_layer, lower-out, lower_case-out}
use Rattle.cc_eval.specs.CcSyntax.Expressions.{type_of}
use Rattle.cc_eval.specs.CcSyntax.Operators.{when}
use Rattle.cc_eval.specs.CcSyntax.Statements.{SoundWhere, Labelled, is_condition, sound_case, labels_fit, are_apart, has_label, is_typed, is_optional_condition}
use Rattle.cc_eval.specs.CcSyntax.Types.{Named}
use Rattle.cc_eval.specs.CcSyntax.Values.{ValueType, Integer}
use Rattle.cc_eval.specs.CcSyntax.Views.{View}
use Rattle.cc_lower_sound.proofs.Bools.{two, first_true, second_true}
use Rattle.cc_lower_sound.proofs.Levels.{type-roll, sound, case_of, sound_at, sound-roll, case-roll, AreSound}

-- `1` has the type int
abbrev fits_in : ℕ → Bool
fits_in n = int_le (least_of_bits true (8 * n)) (pos 1) && int_le (pos 1) (most_of_bits true (8 * n))

one_fits : (target : Target) → fits_in target.int_bytes ≡ true
one_fits target = by_bytes (int_bytes_is target)
  where
    by_bytes : (target.int_bytes ≡ 2) ⊎ (target.int_bytes ≡ 4) → fits_in target.int_bytes ≡ true
    by_bytes (inl e) = ap fits_in e
    by_bytes (inr e) = ap fits_in e

pub one_typed : (p : View) (locals : List Named) → is_condition (type_of p locals constant_one) ≡ true
one_typed p locals = ap is_condition (type-roll p locals (term.Const (pos 1) int.Int)) ∙ ap (λ (b : Bool). is_condition (when b (Integer int.Int))) (one_fits p.target)

module _ (target : Target) (typed : Expr → Option ValueType) (result : CType) where
  abbrev Sound : List Stmt → Bool → Bool → Type 0
  Sound l b c = AreSound target typed result l b c

  abbrev is_sound : Stmt → SoundWhere
  is_sound s = sound target typed result s

  abbrev labelled : Case → Labelled
  labelled k = case_of target typed result k

  opens : (x : is.Stmt-F Stmt Case) (b c : Bool) → is_sound (roll-Stmt x) b c ≡ sound_at target typed result x b c
  opens x b c = ap (λ (g : SoundWhere). g b c) (sound-roll target typed result x)

  one : (x : is.Stmt-F Stmt Case) (b c : Bool) → sound_at target typed result x b c ≡ true → Sound (roll-Stmt x ∷ []) b c
  one x b c h = two (is_sound (roll-Stmt x) b c) true (opens x b c ∙ h) refl

  append : (xs ys : List Stmt) (b c : Bool) → Sound xs b c → Sound ys b c → Sound (xs ++ ys) b c
  append [] ys b c h k = k
  append (x ∷ xs) ys b c h k = two (is_sound x b c) _ (first_true (is_sound x b c) _ h) (append xs ys b c (second_true (is_sound x b c) _ h) k)

  -- what may stand in front of each `continue`
  abbrev Simple : List Stmt → Type 0
  Simple l = (b c : Bool) → Sound l b c

  done_simple : (x : Option Expr) → is_typed target typed result x ≡ true → Simple (optional_statement x)
  done_simple None h b c = refl
  done_simple (Some e) h b c = one (is.Do e) b c h

  module _ (constant : is_condition (typed constant_one) ≡ true) where
    endless_sound : (turn : List Stmt) (b c : Bool) → Sound turn true true → Sound (endless_loop turn ∷ []) b c
    endless_sound turn b c h = one (is.While constant_one turn) b c (two (is_condition (typed constant_one)) _ constant h)

    guarded_sound : (x : Option Expr) (turn : List Stmt) → is_optional_condition target typed result x ≡ true → Sound turn true true → Sound (guarded (needed_test x) turn) true true
    guarded_sound None turn h k = k
    guarded_sound (Some e) turn h k = by_kept (is_nonzero_constant e)
      where
        by_kept : (o : Bool) → Sound (guarded (needed_test_if o e) turn) true true
        by_kept true = k
        by_kept false = one (is.If e turn (break_statement ∷ [])) true true (two (is_condition (typed e)) _ h (two (list_all (λ (s : SoundWhere). s true true) (map is_sound turn)) _ k (one is.Break true true refl)))

    abbrev Keeps : Stmt → Type 0
    Keeps s = (b c : Bool) → is_sound s b c ≡ true → (before : List Stmt) → Simple before → Sound (lower s before) b c

    abbrev CaseKeeps : Case → Type 0
    CaseKeeps k = (before : List Stmt) → Simple before → ((labelled (lower_case k before)).labels ≡ (labelled k).labels) × ((b c : Bool) → (labelled k).body b c ≡ true → (labelled (lower_case k before)).body b c ≡ true)

    all_keep : (l : List Stmt) → Each Keeps l → (b c : Bool) → Sound l b c → (before : List Stmt) → Simple before → Sound (lower_list l before) b c
    all_keep [] h b c k before w = refl
    all_keep (s ∷ l) h b c k before w =
        append (lower s before) (lower_list l before) b c (h.0 b c (first_true (is_sound s b c) _ k) before w) (all_keep l h.1 b c (second_true (is_sound s b c) _ k) before w)

    labels_keep : (l : List Case) → Each CaseKeeps l → (before : List Stmt) → Simple before →
        flat_map (λ (x : Labelled). x.labels) (map (labelled) (lower_cases l before)) ≡ flat_map (λ (x : Labelled). x.labels) (map (labelled) l)
    labels_keep [] h before w = refl
    labels_keep (k ∷ l) h before w =
        ap (λ (x : List (Option ℤ)). x ++ flat_map (λ (x : Labelled). x.labels) (map (labelled) (lower_cases l before))) (h.0 before w).0 ∙ ap (λ (x : List (Option ℤ)). (labelled k).labels ++ x) (labels_keep l h.1 before w)

    has_keep : (l : List Case) → Each CaseKeeps l → (before : List Stmt) → Simple before →
        list_all (λ (x : Labelled). has_label x.labels) (map (labelled) (lower_cases l before)) ≡ list_all (λ (x : Labelled). has_label x.labels) (map (labelled) l)
    has_keep [] h before w = refl
    has_keep (k ∷ l) h before w =
        ap (λ (x : List (Option ℤ)). has_label x && list_all (λ (x : Labelled). has_label x.labels) (map (labelled) (lower_cases l before))) (h.0 before w).0 ∙ ap (λ (x : Bool). has_label (labelled k).labels && x) (has_keep l h.1 before w)

    bodies_keep : (l : List Case) → Each CaseKeeps l → (before : List Stmt) → Simple before → (b c : Bool) → list_all (λ (x : Labelled). x.body b c) (map (labelled) l) ≡ true → list_all (λ (x : Labelled). x.body b c) (map (labelled) (lower_cases l before)) ≡ true
    bodies_keep [] h before w b c k = refl
    bodies_keep (x ∷ l) h before w b c k =
        two ((labelled (lower_case x before)).body b c) _ ((h.0 before w).1 b c (first_true ((labelled x).body b c) _ k)) (bodies_keep l h.1 before w b c (second_true ((labelled x).body b c) _ k))

    none : Simple []
    none b c = refl

    switch_keeps : (e : Expr) (cases : List Case) → Each CaseKeeps cases → (before : List Stmt) → Simple before → (b c : Bool) → sound_at target typed result (is.Switch e cases) b c ≡ true → sound_at target typed result (is.Switch e (lower_cases cases before)) b c ≡ true
    switch_keeps e cases h before w b c k =
        let labels : List (Option ℤ) = flat_map (λ (x : Labelled). x.labels) (map (labelled) cases) in
        let r = second_true (labels_fit target labels (typed e)) _ k in
        let q = second_true (are_apart labels) _ r in
        two (labels_fit target (flat_map (λ (x : Labelled). x.labels) (map (labelled) (lower_cases cases before))) (typed e)) _
        (ap (λ (l : List (Option ℤ)). labels_fit target l (typed e)) (labels_keep cases h before w) ∙ first_true (labels_fit target labels (typed e)) _ k)
        (two (are_apart (flat_map (λ (x : Labelled). x.labels) (map (labelled) (lower_cases cases before)))) _ (ap are_apart (labels_keep cases h before w) ∙ first_true (are_apart labels) _ r)
        (two (list_all (λ (x : Labelled). has_label x.labels) (map (labelled) (lower_cases cases before))) _ (has_keep cases h before w ∙ first_true (list_all (λ (x : Labelled). has_label x.labels) (map (labelled) cases)) _ q)
        (bodies_keep cases h before w true c (second_true (list_all (λ (x : Labelled). has_label x.labels) (map (labelled) cases)) _ q))))

    layer_keeps : (x : is.Stmt-F Stmt Case) → StmtParts Keeps CaseKeeps x → (b c : Bool) → sound_at target typed result x b c ≡ true → (before : List Stmt) → Simple before → Sound (lower_layer x before) b c
    layer_keeps (is.Do e) h b c k before w = one (is.Do e) b c k
    layer_keeps (is.If e a d) h b c k before w =
        let r = second_true (is_condition (typed e)) _ k in
        one (is.If e (lower_list a before) (lower_list d before)) b c (two (is_condition (typed e)) _ (first_true (is_condition (typed e)) _ k)
        (two (list_all (λ (s : SoundWhere). s b c) (map is_sound (lower_list a before))) _
        (all_keep a h.0 b c (first_true (list_all (λ (s : SoundWhere). s b c) (map is_sound a)) _ r) before w) (all_keep d h.1 b c (second_true (list_all (λ (s : SoundWhere). s b c) (map is_sound a)) _ r) before w)))
    layer_keeps (is.While e a) h b c k before w =
        endless_sound (guarded (needed_test (Some e)) (lower_list a [])) b c (guarded_sound (Some e) (lower_list a []) (first_true (is_condition (typed e)) _ k) (all_keep a h true true (second_true (is_condition (typed e)) _ k) [] none))
    layer_keeps (is.DoWhile a e) h b c k before w =
        endless_sound (lower_list a [] ++ guarded (needed_test (Some e)) []) b c
        (append (lower_list a []) (guarded (needed_test (Some e)) []) true true (all_keep a h true true (second_true (is_condition (typed e)) _ k) [] none) (guarded_sound (Some e) [] (first_true (is_condition (typed e)) _ k) refl))
    layer_keeps (is.For first test again a) h b c k before w =
        let r = second_true (is_typed target typed result first) _ k in
        let q = second_true (is_optional_condition target typed result test) _ r in
        let step = done_simple again (first_true (is_typed target typed result again) _ q) in
        let turn : List Stmt = lower_list a (optional_statement again) ++ optional_statement again in
        append (optional_statement first) (endless_loop (guarded (needed_test test) turn) ∷ []) b c (done_simple first (first_true (is_typed target typed result first) _ k) b c)
        (endless_sound (guarded (needed_test test) turn) b c (guarded_sound test turn (first_true (is_optional_condition target typed result test) _ r)
        (append (lower_list a (optional_statement again)) (optional_statement again) true true (all_keep a h true true (second_true (is_typed target typed result again) _ q) (optional_statement again) step) (step true true))))
    layer_keeps (is.Switch e cases) h b c k before w = one (is.Switch e (lower_cases cases before)) b c (switch_keeps e cases h before w b c k)
    layer_keeps is.Break h b c k before w = one is.Break b c k
    layer_keeps is.Continue h b c k before w = append before (roll-Stmt is.Continue ∷ []) b c (w b c) (one is.Continue b c k)
    layer_keeps (is.Return e) h b c k before w = one (is.Return e) b c k
    layer_keeps is.Empty h b c k before w = refl
    layer_keeps (is.Block a) h b c k before w = all_keep a h b c k before w

    level : (x : is.Stmt-F Stmt Case) → StmtParts Keeps CaseKeeps x → Keeps (roll-Stmt x)
    level x h b c k before w =
        subst (λ (l : List Stmt). Sound l b c) (sym (lower-out (roll-Stmt x) before ∙ ap (λ (y : is.Stmt-F Stmt Case). lower_layer y before) (out-roll-Stmt x))) (layer_keeps x h b c (sym (opens x b c) ∙ k) before w)

    case_opens : (x : is.Case-F Stmt Case) → labelled (roll-Case x) ≡ sound_case (record { labels = x.labels; body = map is_sound x.body })
    case_opens x = case-roll target typed result x

    case_level : (x : is.Case-F Stmt Case) → CaseParts Keeps CaseKeeps x → CaseKeeps (roll-Case x)
    case_level x h before w =
        let now : labelled (lower_case (roll-Case x) before) ≡ sound_case (record { labels = x.labels; body = map is_sound (lower_list x.body before) }) =
        ap (labelled) (lower_case-out (roll-Case x) before ∙ ap (λ (y : is.Case-F Stmt Case). roll-Case (record { labels = y.labels; body = lower_list y.body before })) (out-roll-Case x)) ∙ case_opens (record { labels = x.labels; body = lower_list x.body before }) in (
          ap (λ (l : Labelled). l.labels) (now ∙ refl) ∙ sym (ap (λ (l : Labelled). l.labels) (case_opens x)),
          λ b c k. ap (λ (l : Labelled). l.body b c) now ∙ all_keep x.body h b c (sym (ap (λ (l : Labelled). l.body b c) (case_opens x)) ∙ k) before w,
        )

    -- a lowered body
    pub kept_sound : (l : List Stmt) → Sound l false false → Sound (lower_list l []) false false
    kept_sound l h = all_keep l (by_stmts Keeps CaseKeeps level case_level l) false false h [] none

-- over any view and any locals
pub sound_lowered : (p : View) (locals : List Named) (result : CType) (l : List Stmt) → AreSound p.target (type_of p locals) result l false false → AreSound p.target (type_of p locals) result (lower_list l []) false false
sound_lowered p locals result l h = kept_sound p.target (type_of p locals) result (one_typed p locals) l h
