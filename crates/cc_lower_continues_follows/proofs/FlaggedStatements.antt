-- Statements whose `do`s have flags are sound where their sources are: in a function with the flags as more locals.
use Rattle.std.proofs.Common.{arith, ◌≡◌, ◌≤◌, ◌<◌, ◌∙◌, ◌∷◌, ◌++◌, ◌+◌, ◌&&◌, ℕ, ℤ, Bool, true, false, List, [], map, Option, Some, None, option_map, refl, ap, sym, subst, if◌then◌else◌}
use Rattle.std.specs.Prelude.{pos, is_some}
use Rattle.std.specs.List.{list_all, flat_map}
use Rattle.cc_program.specs.CcNum.declared.int_type.IntType.TheVariants as int
use Rattle.cc_program.specs.CcNum.Integers.{is_value_of}
use Rattle.cc_program.specs.declared.expr.Expr.{Expr, roll-Expr}
use Rattle.cc_program.specs.declared.expr.Expr.TheOpen as term
use Rattle.cc_program.specs.declared.expr.Place.{Place, roll-Place}
use Rattle.cc_program.specs.declared.func.Func.{Func}
use Rattle.cc_program.specs.declared.program.Program.{Program}
use Rattle.cc_program.specs.declared.stmt.Case.{Case, roll-Case, out-roll-Case}
use Rattle.cc_program.specs.declared.stmt.Stmt.{Stmt, roll-Stmt, out-roll-Stmt, map-Stmt}
use Rattle.cc_program.specs.declared.stmt.Stmt.TheOpen as is
use Rattle.cc_program.specs.declared.types.CType.{CType}
use Rattle.cc_program.specs.declared.types.Shape.{Shape}
use Rattle.cc_program.specs.declared.types.Shape.TheOpen as shape
use Rattle.cc_program.specs.declared.types.Sig.{Sig, out-Sig}
use Rattle.cc_program.specs.Qualifiers.{is_const, of_element}
use Rattle.cc_program.proofs.Each.{Each}
use Rattle.cc_program.proofs.QualifierLemmas.{const-opens, parts_const}
use Rattle.cc_program.proofs.StmtInduction.{StmtParts, CaseParts, by_stmts}
use Rattle.cc_states.proofs.SoundLemmas.{labelled, parts}
use Rattle.cc_states.proofs.CcSyntax.SameLemmas.{and_true, int_itself}
use Rattle.cc_states.specs.CcSyntax.Expressions.{of_one, of_two, place_type}
use Rattle.cc_states.specs.CcSyntax.Operators.{assignment_type, when}
use Rattle.cc_states.specs.CcSyntax.Programs.{is_sound_stmt, sound_step, is_typed, is_optional_condition, returns}
use Rattle.cc_states.specs.CcSyntax.Statements.{Labelled, SoundWhere, are_apart, has_label, is_condition, labels_fit, sound_case}
use Rattle.cc_states.specs.CcSyntax.Values.{Integer, PlaceType, ValueType, is_assignable_some, object_place, read_from, scalar_shape, scalar_value, written_to}
use Rattle.cc_states.specs.CcSyntax.Views.{of_program}
use Rattle.cc_meaning_simulations.specs.Bodies.{extended}
use Rattle.cc_lower_statements.specs.Statements.{break_statement, constant_one, endless_loop}
use Rattle.cc_lower_continues.specs.Continues.{CaseFlagging, Flagging, any_continues, assign_flag, case_flagging, case_flagging_in, cases_become, do_flagging, flagged_body, flagged_do, flagged_list, flagging, flagging_in, flags_in_cases, flags_of, leave_unless, needs_flag, new_body, new_locals, read_flag, test_but_first, unsigned_char}
use Rattle.cc_lower_continues.proofs.Layers.{case_flagging-out, flagging-out}
use Rattle.cc_lower_continues_follows.proofs.Copies.{Within, first}
use Rattle.cc_lower_continues_follows.proofs.ExpressionNames.{both_left, both_right}
use Rattle.cc_lower_continues_follows.proofs.FlagLocals.{behind, unsigned_char-out}
use Rattle.cc_lower_continues_follows.proofs.LoweredStatements.{Sound, case_opens, one, one_typed, opens, typed}
use Rattle.cc_lower_continues_follows.proofs.MoreLocalTypes.{type_extended}
use Rattle.cc_lower_continues_follows.proofs.TypedNames.{There, given_there, place-roll, scalar_there, type-roll}

abbrev flag_type : Option ValueType
flag_type = Some (Integer int.UChar)

pub not_const : is_const unsigned_char ≡ false
not_const = const-opens unsigned_char ∙ ap (λ (x : shape.Shape-F Shape CType Sig). of_element (parts_const x)) unsigned_char-out

holds_int : scalar_value unsigned_char ≡ flag_type
holds_int = ap scalar_shape unsigned_char-out

takes_int : written_to (object_place unsigned_char) ≡ flag_type
takes_int = ap (λ (b : Bool). if b then None else scalar_value unsigned_char) not_const ∙ holds_int

assigned_int : assignment_type (Integer int.UChar) (Integer int.UChar) ≡ flag_type
assigned_int = ap (λ (b : Bool). when b (Integer int.UChar)) (int_itself int.UChar)

module _ (p : Program) (f : Func) where
  abbrev g : Func
  g = extended new_locals new_body f

  abbrev low : ℕ
  low = first f

  abbrev top : ℕ
  top = first f + flags_of f.body

  -- ---- expressions

  same : (e : Expr) → There (typed p f e) → typed p g e ≡ typed p f e
  same e h = type_extended (of_program p) f.locals (new_locals f) e h

  there_kept : (e : Expr) → There (typed p f e) → There (typed p g e)
  there_kept e h = ap is_some (same e h) ∙ h

  condition_kept : (e : Expr) → is_condition (typed p f e) ≡ true → is_condition (typed p g e) ≡ true
  condition_kept e h = ap is_condition (same e (scalar_there (typed p f e) h)) ∙ h

  typed_kept : (x : Option Expr) → is_typed p f x ≡ true → is_typed p g x ≡ true
  typed_kept None h = refl
  typed_kept (Some e) h = there_kept e h

  test_kept : (x : Option Expr) → is_optional_condition p f x ≡ true → is_optional_condition p g x ≡ true
  test_kept None h = refl
  test_kept (Some e) h = condition_kept e h

  return_kept : (x : Option Expr) → returns p f x ≡ true → returns p g x ≡ true
  return_kept None h = h
  return_kept (Some e) h = ap (is_assignable_some (scalar_value (out-Sig f.sig).result)) (same e (given_there (scalar_value (out-Sig f.sig).result) (typed p f e) h)) ∙ h

  labels_there : (labels : List (Option ℤ)) (x : Option ValueType) → labels_fit p.target labels x ≡ true → There x
  labels_there labels None h = absurd (cc)
  labels_there labels (Some t) h = refl

  labels_kept : (labels : List (Option ℤ)) (e : Expr) → labels_fit p.target labels (typed p f e) ≡ true → labels_fit p.target labels (typed p g e) ≡ true
  labels_kept labels e h = ap (labels_fit p.target labels) (same e (labels_there labels (typed p f e) h)) ∙ h

  -- ---- flags

  module _ (n : ℕ) (from : low ≤ n) (to : n < top) where
    abbrev place : Place
    place = roll-Place (term.Local n)

    place_typed : place_type (of_program p) (f.locals ++ new_locals f) place ≡ Some (object_place unsigned_char)
    place_typed = place-roll (of_program p) (f.locals ++ new_locals f) (term.Local n) ∙ ap (option_map (λ l. object_place l.1)) (behind f.locals (flags_of f.body) n from to)

    read_typed : typed p g (read_flag n) ≡ flag_type
    read_typed = type-roll (of_program p) (f.locals ++ new_locals f) (term.Load place) ∙ ap (λ (a : Option PlaceType). of_one a read_from) place_typed ∙ holds_int

    assign_typed : (v : ℕ) → is_value_of int.UChar p.target (pos v) ≡ true → typed p g (roll-Expr (term.Assign place (roll-Expr (term.Const (pos v) int.UChar)))) ≡ flag_type
    assign_typed v h =
        type-roll (of_program p) (f.locals ++ new_locals f) (term.Assign place (roll-Expr (term.Const (pos v) int.UChar)))
        ∙ ap (λ (a : Option PlaceType). of_two (of_one a written_to) (typed p g (roll-Expr (term.Const (pos v) int.UChar))) assignment_type) place_typed
        ∙ ap (λ (a : Option ValueType). of_two a (typed p g (roll-Expr (term.Const (pos v) int.UChar))) assignment_type) takes_int
        ∙ ap (λ (a : Option ValueType). of_two flag_type a assignment_type) (type-roll (of_program p) (f.locals ++ new_locals f) (term.Const (pos v) int.UChar) ∙ ap (λ (b : Bool). when b (Integer int.UChar)) h) ∙ assigned_int

    assign_sound : (v : ℕ) → is_value_of int.UChar p.target (pos v) ≡ true → (b c : Bool) → is_sound_stmt p g (assign_flag n v) b c ≡ true
    assign_sound v h b c = opens p g (is.Do (roll-Expr (term.Assign place (roll-Expr (term.Const (pos v) int.UChar))))) b c ∙ ap is_some (assign_typed v h)

    leave_sound : (e : Expr) → is_condition (typed p g e) ≡ true → is_sound_stmt p g (leave_unless e) true true ≡ true
    leave_sound e h = opens p g (is.If e [] (break_statement ∷ [])) true true ∙ and_true (is_condition (typed p g e)) _ h (one p g is.Break true true refl)

    test_sound : (e : Expr) → is_condition (typed p g e) ≡ true → is_sound_stmt p g (test_but_first n e) true true ≡ true
    test_sound e h =
        opens p g (is.If (read_flag n) (assign_flag n 0 ∷ []) (leave_unless e ∷ [])) true true
        ∙ and_true (is_condition (typed p g (read_flag n))) _ (ap is_condition read_typed)
        (and_true (is_sound_stmt p g (assign_flag n 0) true true && true) _ (and_true (is_sound_stmt p g (assign_flag n 0) true true) true (assign_sound 0 refl true true) refl) (and_true (is_sound_stmt p g (leave_unless e) true true) true (leave_sound e h) refl))

    loop_sound : (e : Expr) (a : List Stmt) → is_condition (typed p g e) ≡ true → Sound p g a true true → (b c : Bool) → is_sound_stmt p g (endless_loop (flagged_body n e a)) b c ≡ true
    loop_sound e a h k b c =
        opens p g (is.While constant_one (flagged_body n e a)) b c
        ∙ and_true (is_condition (typed p g constant_one)) _ (one_typed p g) (and_true (is_sound_stmt p g (test_but_first n e) true true) _ (test_sound e h) k)

    flagged_do_sound : (e : Expr) (a : List Stmt) → is_condition (typed p g e) ≡ true → Sound p g a true true → (b c : Bool) → is_sound_stmt p g (flagged_do n e a) b c ≡ true
    flagged_do_sound e a h k b c =
        opens p g (is.Block (assign_flag n 1 ∷ endless_loop (flagged_body n e a) ∷ [])) b c
        ∙ and_true (is_sound_stmt p g (assign_flag n 1) b c) _ (assign_sound 1 refl b c) (and_true (is_sound_stmt p g (endless_loop (flagged_body n e a)) b c) true (loop_sound e a h k b c) refl)

  -- ---- statements

  abbrev Keeps : Stmt → Type 0
  Keeps s = (b c : Bool) → is_sound_stmt p f s b c ≡ true → (n : ℕ) → Within low top n (flagging s).flags → is_sound_stmt p g ((flagging s).becomes n) b c ≡ true

  abbrev CaseKeeps : Case → Type 0
  CaseKeeps k = (n : ℕ) → Within low top n (case_flagging k).flags →
      ((labelled p g ((case_flagging k).becomes n)).labels ≡ (labelled p f k).labels) × ((b c : Bool) → (labelled p f k).body b c ≡ true → (labelled p g ((case_flagging k).becomes n)).body b c ≡ true)

  before_more : (n x y : ℕ) → Within low top n (x + y) → Within low top n x
  before_more n x y w = let from = w.from in let to = w.to in record { from = from; to = omega (arith, to) }

  after_some : (n x y : ℕ) → Within low top n (x + y) → Within low top (n + x) y
  after_some n x y w = let from = w.from in let to = w.to in record { from = omega (arith, from); to = omega (arith, to) }

  all_keep : (l : List Stmt) → Each Keeps l → (b c : Bool) → Sound p f l b c → (n : ℕ) → Within low top n (flags_of l) → Sound p g (flagged_list l n) b c
  all_keep [] h b c k n w = refl
  all_keep (s ∷ l) h b c k n w =
      and_true (is_sound_stmt p g ((flagging s).becomes n) b c) _ (h.0 b c (both_left (is_sound_stmt p f s b c) _ k) n (before_more n (flagging s).flags (flags_of l) w))
      (all_keep l h.1 b c (both_right (is_sound_stmt p f s b c) _ k) (n + (flagging s).flags) (after_some n (flagging s).flags (flags_of l) w))

  abbrev now : List Case → ℕ → List Labelled
  now l n = map (labelled p g) (cases_become (map case_flagging l) n)

  abbrev old : List Case → List Labelled
  old l = map (labelled p f) l

  abbrev labels : List Labelled → List (Option ℤ)
  labels l = flat_map (λ (x : Labelled). x.labels) l

  labels_keep : (l : List Case) → Each CaseKeeps l → (n : ℕ) → Within low top n (flags_in_cases (map case_flagging l)) → labels (now l n) ≡ labels (old l)
  labels_keep [] h n w = refl
  labels_keep (k ∷ l) h n w =
      ap (λ (x : List (Option ℤ)). x ++ labels (now l (n + (case_flagging k).flags))) (h.0 n (before_more n (case_flagging k).flags (flags_in_cases (map case_flagging l)) w)).0
      ∙ ap (λ (x : List (Option ℤ)). (labelled p f k).labels ++ x) (labels_keep l h.1 (n + (case_flagging k).flags) (after_some n (case_flagging k).flags (flags_in_cases (map case_flagging l)) w))

  abbrev all_labelled : List Labelled → Bool
  all_labelled l = list_all (λ (x : Labelled). has_label x.labels) l

  has_keep : (l : List Case) → Each CaseKeeps l → (n : ℕ) → Within low top n (flags_in_cases (map case_flagging l)) → all_labelled (now l n) ≡ all_labelled (old l)
  has_keep [] h n w = refl
  has_keep (k ∷ l) h n w =
      ap (λ (x : List (Option ℤ)). has_label x && all_labelled (now l (n + (case_flagging k).flags))) (h.0 n (before_more n (case_flagging k).flags (flags_in_cases (map case_flagging l)) w)).0
      ∙ ap (λ (x : Bool). has_label (labelled p f k).labels && x) (has_keep l h.1 (n + (case_flagging k).flags) (after_some n (case_flagging k).flags (flags_in_cases (map case_flagging l)) w))

  bodies_keep : (l : List Case) → Each CaseKeeps l → (n : ℕ) → Within low top n (flags_in_cases (map case_flagging l)) → (b c : Bool) → list_all (λ (x : Labelled). x.body b c) (old l) ≡ true → list_all (λ (x : Labelled). x.body b c) (now l n) ≡ true
  bodies_keep [] h n w b c k = refl
  bodies_keep (x ∷ l) h n w b c k =
      and_true ((labelled p g ((case_flagging x).becomes n)).body b c) _ ((h.0 n (before_more n (case_flagging x).flags (flags_in_cases (map case_flagging l)) w)).1 b c (both_left ((labelled p f x).body b c) _ k))
      (bodies_keep l h.1 (n + (case_flagging x).flags) (after_some n (case_flagging x).flags (flags_in_cases (map case_flagging l)) w) b c (both_right ((labelled p f x).body b c) _ k))

  switch_keeps : (e : Expr) (cases : List Case) → Each CaseKeeps cases → (n : ℕ) → Within low top n (flags_in_cases (map case_flagging cases)) → (b c : Bool) → sound_step p f (parts p f (is.Switch e cases)) b c ≡ true →
      sound_step p g (parts p g (is.Switch e (cases_become (map case_flagging cases) n))) b c ≡ true
  switch_keeps e cases h n w b c k =
      let r = both_right (labels_fit p.target (labels (old cases)) (typed p f e)) _ k in
      let q = both_right (are_apart (labels (old cases))) _ r in
      and_true (labels_fit p.target (labels (now cases n)) (typed p g e)) _
      (ap (λ (l : List (Option ℤ)). labels_fit p.target l (typed p g e)) (labels_keep cases h n w) ∙ labels_kept (labels (old cases)) e (both_left (labels_fit p.target (labels (old cases)) (typed p f e)) _ k))
      (and_true (are_apart (labels (now cases n))) _ (ap are_apart (labels_keep cases h n w) ∙ both_left (are_apart (labels (old cases))) _ r)
      (and_true (all_labelled (now cases n)) _ (has_keep cases h n w ∙ both_left (all_labelled (old cases)) _ q) (bodies_keep cases h n w true c (both_right (all_labelled (old cases)) _ q))))

  do_keeps : (o : Bool) (a : List Stmt) (e : Expr) → Each Keeps a → is_condition (typed p f e) ≡ true → Sound p f a true true → (b c : Bool) (n : ℕ) → Within low top n (do_flagging o (map flagging a) e).flags →
      is_sound_stmt p g ((do_flagging o (map flagging a) e).becomes n) b c ≡ true
  do_keeps true a e h i k b c n w =
      let from = w.from in
      let to = w.to in
      flagged_do_sound n from (omega (arith, to)) e (flagged_list a (n + 1)) (condition_kept e i) (all_keep a h true true k (n + 1) (record { from = omega (arith, from); to = omega (arith, to) })) b c
  do_keeps false a e h i k b c n w = opens p g (is.DoWhile (flagged_list a n) e) b c ∙ and_true (is_condition (typed p g e)) _ (condition_kept e i) (all_keep a h true true k n w)

  layer_keeps : (x : is.Stmt-F Stmt Case) → StmtParts Keeps CaseKeeps x → (b c : Bool) → sound_step p f (parts p f x) b c ≡ true → (n : ℕ) → Within low top n (flagging_in (map-Stmt Stmt Case Flagging CaseFlagging flagging case_flagging x)).flags →
      is_sound_stmt p g ((flagging_in (map-Stmt Stmt Case Flagging CaseFlagging flagging case_flagging x)).becomes n) b c ≡ true
  layer_keeps (is.Do e) h b c k n w = opens p g (is.Do e) b c ∙ there_kept e k
  layer_keeps (is.If e a d) h b c k n w =
      let r = both_right (is_condition (typed p f e)) _ k in
      opens p g (is.If e (flagged_list a n) (flagged_list d (n + flags_of a))) b c
      ∙ and_true (is_condition (typed p g e)) _ (condition_kept e (both_left (is_condition (typed p f e)) _ k))
      (and_true (list_all (λ (s : SoundWhere). s b c) (map (is_sound_stmt p g) (flagged_list a n))) _
      (all_keep a h.0 b c (both_left (list_all (λ (s : SoundWhere). s b c) (map (is_sound_stmt p f) a)) _ r) n (before_more n (flags_of a) (flags_of d) w))
      (all_keep d h.1 b c (both_right (list_all (λ (s : SoundWhere). s b c) (map (is_sound_stmt p f) a)) _ r) (n + flags_of a) (after_some n (flags_of a) (flags_of d) w)))
  layer_keeps (is.While e a) h b c k n w =
      opens p g (is.While e (flagged_list a n)) b c
      ∙ and_true (is_condition (typed p g e)) _ (condition_kept e (both_left (is_condition (typed p f e)) _ k)) (all_keep a h true true (both_right (is_condition (typed p f e)) _ k) n w)
  layer_keeps (is.DoWhile a e) h b c k n w =
      do_keeps (needs_flag (any_continues (map flagging a)) e) a e h (both_left (is_condition (typed p f e)) _ k) (both_right (is_condition (typed p f e)) _ k) b c n w
  layer_keeps (is.For start test again a) h b c k n w =
      let r = both_right (is_typed p f start) _ k in
      let q = both_right (is_optional_condition p f test) _ r in
      opens p g (is.For start test again (flagged_list a n)) b c
      ∙ and_true (is_typed p g start) _ (typed_kept start (both_left (is_typed p f start) _ k))
      (and_true (is_optional_condition p g test) _ (test_kept test (both_left (is_optional_condition p f test) _ r))
      (and_true (is_typed p g again) _ (typed_kept again (both_left (is_typed p f again) _ q)) (all_keep a h true true (both_right (is_typed p f again) _ q) n w)))
  layer_keeps (is.Switch e cases) h b c k n w = opens p g (is.Switch e (cases_become (map case_flagging cases) n)) b c ∙ switch_keeps e cases h n w b c k
  layer_keeps is.Break h b c k n w = opens p g is.Break b c ∙ k
  layer_keeps is.Continue h b c k n w = opens p g is.Continue b c ∙ k
  layer_keeps (is.Return e) h b c k n w = opens p g (is.Return e) b c ∙ return_kept e k
  layer_keeps is.Empty h b c k n w = opens p g is.Empty b c
  layer_keeps (is.Block a) h b c k n w = opens p g (is.Block (flagged_list a n)) b c ∙ all_keep a h b c k n w

  level : (x : is.Stmt-F Stmt Case) → StmtParts Keeps CaseKeeps x → Keeps (roll-Stmt x)
  level x h b c k n w =
      let e : flagging (roll-Stmt x) ≡ flagging_in (map-Stmt Stmt Case Flagging CaseFlagging flagging case_flagging x) = flagging-out (roll-Stmt x) ∙ ap (λ (y : is.Stmt-F Stmt Case). flagging_in (map-Stmt Stmt Case Flagging CaseFlagging flagging case_flagging y)) (out-roll-Stmt x) in
      ap (λ (t : Flagging). is_sound_stmt p g (t.becomes n) b c) e ∙ layer_keeps x h b c (sym (opens p f x b c) ∙ k) n (subst (λ (t : Flagging). Within low top n t.flags) e w)

  case_level : (x : is.Case-F Stmt Case) → CaseParts Keeps CaseKeeps x → CaseKeeps (roll-Case x)
  case_level x h n w =
      let e : case_flagging (roll-Case x) ≡ case_flagging_in (record { labels = x.labels; body = map flagging x.body }) =
      case_flagging-out (roll-Case x) ∙ ap (λ (y : is.Case-F Stmt Case). case_flagging_in (record { labels = y.labels; body = map flagging y.body })) (out-roll-Case x) in
      let made : labelled p g ((case_flagging (roll-Case x)).becomes n) ≡ sound_case (record { labels = x.labels; body = map (is_sound_stmt p g) (flagged_list x.body n) }) =
      ap (λ (t : CaseFlagging). labelled p g (t.becomes n)) e ∙ case_opens p g (record { labels = x.labels; body = flagged_list x.body n }) in (
        ap (λ (l : Labelled). l.labels) made ∙ sym (ap (λ (l : Labelled). l.labels) (case_opens p f x)),
        λ b c k. ap (λ (l : Labelled). l.body b c) made ∙ all_keep x.body h b c (sym (ap (λ (l : Labelled). l.body b c) (case_opens p f x)) ∙ k) n (subst (λ (t : CaseFlagging). Within low top n t.flags) e w),
      )

  pub flagged_sound : Sound p f f.body false false → Sound p g (new_body f) false false
  flagged_sound h = all_keep f.body (by_stmts Keeps CaseKeeps level case_level f.body) false false h (first f) (record { from = omega arith; to = omega arith })
