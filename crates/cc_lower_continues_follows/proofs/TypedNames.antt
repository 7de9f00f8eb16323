-- In a typed function each expression names locals of the function.
use Rattle.std.proofs.Common.{◌≡◌, ℕ, ℤ, Bool, true, false, ◌&&◌, List, [], ◌∷◌, map, length, Option, Some, None, option_map, slice_get, refl, ap, sym, ◌∙◌, if◌then◌else◌}
use Rattle.cc_states.specs.CcSyntax.Types.{Named}
use Rattle.std.proofs.lemmas.Bool.{ltb-false}
use Rattle.std.proofs.lemmas.Option.{slice_get_past}
use Rattle.std.specs.Prelude.{is_some, nat_lt}
use Rattle.std.specs.List.{list_all, flat_map}
use Rattle.cc_program.specs.declared.expr.Expr.{Expr, roll-Expr, map-Expr, fold-roll-Expr}
use Rattle.cc_program.specs.declared.expr.Expr.TheOpen as one
use Rattle.cc_program.specs.declared.expr.Intr.{Intr}
use Rattle.cc_program.specs.declared.expr.Intr.TheVariants as intr
use Rattle.cc_program.specs.declared.expr.Place.{Place, roll-Place, map-Place, fold-roll-Place}
use Rattle.cc_program.specs.declared.func.Func.{Func}
use Rattle.cc_program.specs.declared.program.Program.{Program}
use Rattle.cc_program.specs.declared.stmt.Case.{Case, roll-Case, out-Case, out-roll-Case, fold_out-Case}
use Rattle.cc_program.specs.declared.stmt.Stmt.{Stmt, roll-Stmt, out-roll-Stmt, map-Stmt}
use Rattle.cc_program.specs.declared.stmt.Stmt.TheOpen as is
use Rattle.cc_program.specs.declared.types.CType.{CType}
use Rattle.cc_program.specs.declared.types.Sig.{out-Sig}
use Rattle.cc_program.proofs.Each.{Each}
use Rattle.cc_program.proofs.ExprInduction.{Parts, PlaceParts, by_expr}
use Rattle.cc_program.proofs.StmtInduction.{StmtParts, CaseParts, by_stmts}
use Rattle.cc_states.proofs.SoundLemmas.{labelled, parts, sound-opens}
use Rattle.cc_states.specs.CcSyntax.Expressions.{of_one, of_two, expr_step, place_step, type_of, place_type}
use Rattle.cc_states.specs.CcSyntax.Operators.{call_type, intrinsic_type, choice_type}
use Rattle.cc_states.specs.CcSyntax.Programs.{is_sound_stmt, sound_step, is_typed, is_optional_condition, returns}
use Rattle.cc_states.specs.CcSyntax.Sound.{IsTypedProgram, IsFuncBy, any_names}
use Rattle.cc_states.specs.CcSyntax.Statements.{SoundWhere, Labelled, is_condition, sound_case, labels_fit}
use Rattle.cc_states.specs.CcSyntax.Values.{ValueType, NoValue, Integer, ToObject, ToFunction, PlaceType, object_place, is_assignable_some, are_assignable, scalar_value}
use Rattle.cc_states.specs.CcSyntax.Views.{View, of_program}
use Rattle.cc_states.proofs.CcSyntax.Parts.{all_at}
use Rattle.cc_meaning_simulations.specs.NamedLocals.{all_in, names_below, names_step, place_names_below, place_names_step}
use Rattle.cc_meaning_simulations.proofs.MoreLocals.{names-roll, place_names-roll}
use Rattle.cc_lower_continues_follows.proofs.ExpressionNames.{all_true, are_below, are_cases_below, both_left, both_right, is_below, is_below-out, is_below_in, is_case_below, is_case_below-out, optional_below}

abbrev pub There : {A : Type 0} → Option A → Type 0
There x = is_some x ≡ true

first_there : {A B : Type 0} (x : Option A) (f : A → Option B) → There (of_one x f) → There x
first_there None f h = h
first_there (Some a) f h = refl

two_there : {A B C : Type 0} (x : Option A) (y : Option B) (f : A → B → Option C) → There (of_two x y f) → There x × There y
two_there None y f h = absurd (cc)
two_there (Some a) None f h = absurd (cc)
two_there (Some a) (Some b) f h = (refl, refl)

three_there : {A B C D : Type 0} (x : Option A) (y : Option B) (z : Option C) (f : A → B → C → Option D) → There (of_one x (λ a. of_two y z (f a))) → There x × There y × There z
three_there None y z f h = absurd (cc)
three_there (Some a) y z f h = let k = two_there y z (f a) h in (refl, k.0, k.1)

arguments_there : (params : List CType) (args : List (Option ValueType)) → are_assignable params args ≡ true → all_true (map is_some args) ≡ true
arguments_there [] [] h = refl
arguments_there [] (a ∷ args) h = absurd (cc)
arguments_there (t ∷ params) [] h = absurd (cc)
arguments_there (t ∷ params) (None ∷ args) h = no (is_assignable_some (scalar_value t) None) refl h
  where
    no : (b : Bool) → is_assignable_some (scalar_value t) None ≡ b → (b && are_assignable params args) ≡ true → false ≡ true
    no true e h = none (scalar_value t) e
      where
        none : (x : Option ValueType) → is_assignable_some x None ≡ true → false ≡ true
        none None h = h
        none (Some v) h = h
    no false e h = h
arguments_there (t ∷ params) (Some a ∷ args) h = arguments_there params args (both_right (is_assignable_some (scalar_value t) (Some a)) (are_assignable params args) h)

call_there : (x : Option ValueType) (args : List (Option ValueType)) → There (of_one x (λ f. call_type f args)) → There x × (all_true (map is_some args) ≡ true)
call_there None args h = absurd (cc)
call_there (Some NoValue) args h = absurd (cc)
call_there (Some (Integer t)) args h = absurd (cc)
call_there (Some (ToObject constant volatile t)) args h = absurd (cc)
call_there (Some (ToFunction sig)) args h = (refl, arguments_there (out-Sig sig).params args (by_fit (are_assignable (out-Sig sig).params args) _ h))
  where
    by_fit : (b : Bool) (x : Option ValueType) → There (if b then x else None) → b ≡ true
    by_fit true x h = refl
    by_fit false x h = absurd (cc)

held_there : (i : Intr) (x : Option ValueType) → There (intrinsic_type i (Some x)) → There x
held_there intr.Off x h = absurd (cc)
held_there intr.On x h = absurd (cc)
held_there intr.Save x h = absurd (cc)
held_there intr.Restore None h = absurd (cc)
held_there intr.Restore (Some a) h = refl

module _ (V : View) (locals : List Named) where
  abbrev n : ℕ
  n = length locals

  abbrev T : Expr → Option ValueType
  T e = type_of V locals e

  abbrev U : Place → Option PlaceType
  U a = place_type V locals a

  abbrev At : Expr → Type 0
  At e = There (T e) → names_below n e ≡ true

  abbrev PlaceAt : Place → Type 0
  PlaceAt a = There (U a) → place_names_below n a ≡ true

  pub type-roll : (x : one.Expr-F Expr Place) → T (roll-Expr x) ≡ expr_step V locals (map-Expr Expr Place (Option ValueType) (Option PlaceType) T U x)
  unfolding type_of place_type
  type-roll x = fold-roll-Expr (Option ValueType) (Option PlaceType) (expr_step V locals) (place_step V locals) x

  pub place-roll : (x : one.Place-F Expr Place) → U (roll-Place x) ≡ place_step V locals (map-Place Expr Place (Option ValueType) (Option PlaceType) T U x)
  unfolding type_of place_type
  place-roll x = fold-roll-Place (Option ValueType) (Option PlaceType) (expr_step V locals) (place_step V locals) x

  both : (a b : Bool) → a ≡ true → b ≡ true → (a && b) ≡ true
  both a b h k = ap (λ c. c && b) h ∙ k

  args_below : (args : List Expr) → Each At args → all_true (map is_some (map T args)) ≡ true → all_in (map (names_below n) args) ≡ true
  args_below [] h k = refl
  args_below (a ∷ args) h k = both (names_below n a) (all_in (map (names_below n) args)) (h.0 (both_left (is_some (T a)) (all_true (map is_some (map T args))) k)) (args_below args h.1 (both_right (is_some (T a)) (all_true (map is_some (map T args))) k))

  pair : (a b : Expr) → At a × At b → There (T a) × There (T b) → (names_below n a && names_below n b) ≡ true
  pair a b h k = both (names_below n a) (names_below n b) (h.0 k.0) (h.1 k.1)

  level : (x : one.Expr-F Expr Place) → Parts At PlaceAt x → There (expr_step V locals (map-Expr Expr Place (Option ValueType) (Option PlaceType) T U x)) → names_step n (map-Expr Expr Place Bool Bool (names_below n) (place_names_below n) x) ≡ true
  level (one.Const k t) h r = refl
  level (one.Null t) h r = refl
  level (one.FuncAddr g) h r = refl
  level (one.Load a) h r = h (first_there (U a) _ r)
  level (one.AddrOf a) h r = h (first_there (U a) _ r)
  level (one.Un o t a) h r = h (first_there (T a) _ r)
  level (one.Bin o t a b) h r = pair a b h (two_there (T a) (T b) _ r)
  level (one.Conv t a) h r = h (first_there (T a) _ r)
  level (one.Qualify t a) h r = h (first_there (T a) _ r)
  level (one.Move a b back) h r = pair a b h (two_there (T a) (T b) _ r)
  level (one.Gap a b) h r = pair a b h (two_there (T a) (T b) _ r)
  level (one.Compare o a b) h r = pair a b h (two_there (T a) (T b) _ r)
  level (one.Both a b) h r = pair a b h (two_there (T a) (T b) _ r)
  level (one.Either a b) h r = pair a b h (two_there (T a) (T b) _ r)
  level (one.Choose d a b) h r =
      let k = three_there (T d) (T a) (T b) (choice_type V.target) r in
      both (names_below n d) (names_below n a && names_below n b) (h.0 k.0) (both (names_below n a) (names_below n b) (h.1 k.1) (h.2 k.2))
  level (one.Assign a e) h r = let k = two_there (of_one (U a) _) (T e) _ r in both (place_names_below n a) (names_below n e) (h.0 (first_there (U a) _ k.0)) (h.1 k.1)
  level (one.Change a o t e) h r = let k = two_there (of_one (U a) _) (T e) _ r in both (place_names_below n a) (names_below n e) (h.0 (first_there (U a) _ k.0)) (h.1 k.1)
  level (one.After a down) h r = h (first_there (U a) _ (first_there (of_one (U a) _) _ r))
  level (one.Call g args) h r = let k = call_there (T g) (map T args) r in both (names_below n g) (all_in (map (names_below n) args)) (h.0 k.0) (args_below args h.1 k.1)
  level (one.Intr i None) h r = refl
  level (one.Intr i (Some a)) h r = h (held_there i (T a) r)
  level (one.Seq a b) h r = pair a b h (two_there (T a) (T b) _ r)

  local_below : (r : ℕ) → There (option_map (λ l. object_place l.1) (slice_get locals r)) → nat_lt r n ≡ true
  local_below r h = by_lt (nat_lt r n) refl
    where
      by_lt : (b : Bool) → nat_lt r n ≡ b → nat_lt r n ≡ true
      by_lt true e = e
      by_lt false e = (let z : false ≡ true = sym (ap (λ (x : Option Named). is_some (option_map (λ l. object_place l.1) x)) (slice_get_past locals r (ltb-false r n e))) ∙ h in absurd (cc))

  place_level : (x : one.Place-F Expr Place) → PlaceParts At PlaceAt x → There (place_step V locals (map-Place Expr Place (Option ValueType) (Option PlaceType) T U x)) → place_names_step n (map-Place Expr Place Bool Bool (names_below n) (place_names_below n) x) ≡ true
  place_level (one.Local k) h r = local_below k r
  place_level (one.Static k) h r = refl
  place_level (one.Device d) h r = refl
  place_level (one.Element a e) h r = let k = two_there (U a) (T e) _ r in both (place_names_below n a) (names_below n e) (h.0 k.0) (h.1 k.1)
  place_level (one.Member a m) h r = h (first_there (U a) _ r)
  place_level (one.Deref e) h r = h (first_there (T e) _ r)

  made : (x : one.Expr-F Expr Place) → Parts At PlaceAt x → At (roll-Expr x)
  made x h r = names-roll n x ∙ level x h (sym (ap is_some (type-roll x)) ∙ r)

  place_made : (x : one.Place-F Expr Place) → PlaceParts At PlaceAt x → PlaceAt (roll-Place x)
  place_made x h r = place_names-roll n x ∙ place_level x h (sym (ap is_some (place-roll x)) ∙ r)

  -- an expression that has a type names locals that there are
  pub names_of_typed : (e : Expr) → There (T e) → names_below n e ≡ true
  names_of_typed = by_expr At PlaceAt made place_made

-- ---- statements

pub scalar_there : (x : Option ValueType) → is_condition x ≡ true → There x
scalar_there None h = absurd (cc)
scalar_there (Some t) h = refl

pub given_there : (to x : Option ValueType) → is_assignable_some to x ≡ true → There x
given_there None x h = absurd (cc)
given_there (Some to) None h = absurd (cc)
given_there (Some to) (Some t) h = refl

module _ (p : Program) (f : Func) where
  abbrev m : ℕ
  m = length f.locals

  abbrev typed : Expr → Option ValueType
  typed e = type_of (of_program p) f.locals e

  names : (e : Expr) → There (typed e) → names_below m e ≡ true
  names e h = names_of_typed (of_program p) f.locals e h

  typed_names : (x : Option Expr) → is_typed p f x ≡ true → optional_below m x ≡ true
  typed_names None h = refl
  typed_names (Some e) h = names e h

  test_names : (x : Option Expr) → is_optional_condition p f x ≡ true → optional_below m x ≡ true
  test_names None h = refl
  test_names (Some e) h = names e (scalar_there (typed e) h)

  return_names : (x : Option Expr) → returns p f x ≡ true → optional_below m x ≡ true
  return_names None h = refl
  return_names (Some e) h = names e (given_there (scalar_value (out-Sig f.sig).result) (typed e) h)

  labels_there : (labels : List (Option ℤ)) (x : Option ValueType) → labels_fit p.target labels x ≡ true → There x
  labels_there labels None h = absurd (cc)
  labels_there labels (Some t) h = refl

  two : (a b : Bool) → a ≡ true → b ≡ true → (a && b) ≡ true
  two a b h k = ap (λ c. c && b) h ∙ k

  abbrev Below : Stmt → Type 0
  Below s = (b c : Bool) → is_sound_stmt p f s b c ≡ true → is_below m s ≡ true

  abbrev CaseBelow : Case → Type 0
  CaseBelow c = (b d : Bool) → (labelled p f c).body b d ≡ true → is_case_below m c ≡ true

  all_below : (l : List Stmt) → Each Below l → (b c : Bool) → list_all (λ (s : SoundWhere). s b c) (map (is_sound_stmt p f) l) ≡ true → are_below m l ≡ true
  all_below [] h b c k = refl
  all_below (s ∷ l) h b c k = two (is_below m s) (are_below m l) (h.0 b c (both_left (is_sound_stmt p f s b c) _ k)) (all_below l h.1 b c (both_right (is_sound_stmt p f s b c) _ k))

  cases_below : (l : List Case) → Each CaseBelow l → (b c : Bool) → list_all (λ (x : Labelled). x.body b c) (map (labelled p f) l) ≡ true → are_cases_below m l ≡ true
  cases_below [] h b c k = refl
  cases_below (s ∷ l) h b c k = two (is_case_below m s) (are_cases_below m l) (h.0 b c (both_left ((labelled p f s).body b c) _ k)) (cases_below l h.1 b c (both_right ((labelled p f s).body b c) _ k))

  tested : (e : Expr) (a : List Stmt) (b c : Bool) → Each Below a → (is_condition (typed e) && list_all (λ (s : SoundWhere). s b c) (map (is_sound_stmt p f) a)) ≡ true → (names_below m e && are_below m a) ≡ true
  tested e a b c h k = two (names_below m e) (are_below m a) (names e (scalar_there (typed e) (both_left (is_condition (typed e)) _ k))) (all_below a h b c (both_right (is_condition (typed e)) _ k))

  stmt_level : (x : is.Stmt-F Stmt Case) → StmtParts Below CaseBelow x → (b c : Bool) → sound_step p f (parts p f x) b c ≡ true → is_below_in m (map-Stmt Stmt Case Bool Bool (is_below m) (is_case_below m) x) ≡ true
  stmt_level (is.Do e) h b c k = names e k
  stmt_level (is.If e a d) h b c k =
      let r = both_right (is_condition (typed e)) _ k in
      two (names_below m e) (are_below m a && are_below m d) (names e (scalar_there (typed e) (both_left (is_condition (typed e)) _ k)))
      (two (are_below m a) (are_below m d) (all_below a h.0 b c (both_left (list_all (λ (s : SoundWhere). s b c) (map (is_sound_stmt p f) a)) _ r)) (all_below d h.1 b c (both_right (list_all (λ (s : SoundWhere). s b c) (map (is_sound_stmt p f) a)) _ r)))
  stmt_level (is.While e a) h b c k = tested e a true true h k
  stmt_level (is.DoWhile a e) h b c k = tested e a true true h k
  stmt_level (is.For start test again a) h b c k =
      let r = both_right (is_typed p f start) _ k in
      let q = both_right (is_optional_condition p f test) _ r in
      two (optional_below m start) _ (typed_names start (both_left (is_typed p f start) _ k))
      (two (optional_below m test) _ (test_names test (both_left (is_optional_condition p f test) _ r))
      (two (optional_below m again) (are_below m a) (typed_names again (both_left (is_typed p f again) _ q)) (all_below a h true true (both_right (is_typed p f again) _ q))))
  stmt_level (is.Switch e cases) h b c k = switch_level e cases h c (flat_map (λ (x : Labelled). x.labels) (map (labelled p f) cases)) _ _ k
    where
      switch_level : (e : Expr) (cases : List Case) → Each CaseBelow cases → (c : Bool) (labels : List (Option ℤ)) (x y : Bool) → (labels_fit p.target labels (typed e) && (x && (y && list_all (λ (l : Labelled). l.body true c) (map (labelled p f) cases)))) ≡ true →
          (names_below m e && are_cases_below m cases) ≡ true
      switch_level e cases h c labels x y k =
          two (names_below m e) (are_cases_below m cases) (names e (labels_there labels (typed e) (both_left (labels_fit p.target labels (typed e)) _ k)))
          (cases_below cases h true c (both_right y _ (both_right x _ (both_right (labels_fit p.target labels (typed e)) _ k))))
  stmt_level is.Break h b c k = refl
  stmt_level is.Continue h b c k = refl
  stmt_level (is.Return e) h b c k = return_names e k
  stmt_level is.Empty h b c k = refl
  stmt_level (is.Block a) h b c k = all_below a h b c k

  stmt_made : (x : is.Stmt-F Stmt Case) → StmtParts Below CaseBelow x → Below (roll-Stmt x)
  stmt_made x h b c k =
      is_below-out m (roll-Stmt x) ∙ ap (λ (y : is.Stmt-F Stmt Case). is_below_in m (map-Stmt Stmt Case Bool Bool (is_below m) (is_case_below m) y)) (out-roll-Stmt x)
      ∙ stmt_level x h b c (sym (ap (λ (g : SoundWhere). g b c) (sound-opens p f (roll-Stmt x) ∙ ap (λ (y : is.Stmt-F Stmt Case). sound_step p f (parts p f y)) (out-roll-Stmt x))) ∙ k)

  labelled-opens : (c : Case) → labelled p f c ≡ sound_case (record { labels = (out-Case c).labels; body = map (is_sound_stmt p f) (out-Case c).body })
  labelled-opens c = fold_out-Case SoundWhere Labelled (sound_step p f) sound_case c

  case_made : (x : is.Case-F Stmt Case) → CaseParts Below CaseBelow x → CaseBelow (roll-Case x)
  case_made x h b d k =
      is_case_below-out m (roll-Case x) ∙ ap (λ (y : is.Case-F Stmt Case). are_below m y.body) (out-roll-Case x)
      ∙ all_below x.body h b d (sym (ap (λ (l : Labelled). l.body b d) (labelled-opens (roll-Case x)) ∙ ap (λ (y : is.Case-F Stmt Case). list_all (λ (s : SoundWhere). s b d) (map (is_sound_stmt p f) y.body)) (out-roll-Case x)) ∙ k)

  pub body_bounded : IsFuncBy p any_names f → are_below m f.body ≡ true
  body_bounded h = all_below f.body (by_stmts Below CaseBelow stmt_made case_made f.body) false false h.body

-- in a typed program
pub names_bounded : (p : Program) → IsTypedProgram p → (id : ℕ) (f : Func) → slice_get p.funcs id ≡ Some f → are_below (length f.locals) f.body ≡ true
names_bounded p sound id f e = body_bounded p f (all_at (IsFuncBy p any_names) p.funcs id f e sound.funcs)
