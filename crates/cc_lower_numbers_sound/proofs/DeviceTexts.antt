-- The devices of a text by other numbers, and the devices of a typed text.
use Rattle.std.proofs.Common.{◌≡◌, ◌∙◌, ◌<◌, ◌&&◌, ℕ, suc, Bool, true, false, List, [], ◌∷◌, ◌++◌, length, map, get_or, Option, Some, None, option_map, is_some, slice_get, refl, ap, sym, arith}
use Rattle.std.specs.Prelude.{nat_lt}
use Rattle.std.specs.List.{list_all, flat_map}
use Rattle.std.proofs.lemmas.Bool.{true≢false, and_parts, and_from, lt-ltb}
use Rattle.std.proofs.lemmas.List.Folds.{list_all-append}
use Rattle.std.proofs.lemmas.Option.{slice_get_within}
use Rattle.cc_program.specs.declared.expr.Expr.{Expr, out-Expr, map-Expr, fold_out-Expr}
use Rattle.cc_program.specs.declared.expr.Expr.TheOpen as one
use Rattle.cc_program.specs.declared.expr.Place.{Place, out-Place, map-Place, fold_out-Place}
use Rattle.cc_program.specs.declared.func.Func.{Func}
use Rattle.cc_program.specs.declared.object.Device.{Device}
use Rattle.cc_program.specs.declared.program.Program.{Program}
use Rattle.cc_program.specs.declared.stmt.Case.{Case, roll-Case, fold-Case, map-Case, fold-roll-Case}
use Rattle.cc_program.specs.declared.stmt.Stmt.{Stmt, roll-Stmt, map-Stmt, fold-roll-Stmt}
use Rattle.cc_program.specs.declared.stmt.Stmt.TheOpen as is
use Rattle.cc_program.specs.declared.types.CType.{CType}
use Rattle.cc_program.specs.declared.types.Sig.{out-Sig}
use Rattle.cc_program.proofs.Each.{Each}
use Rattle.cc_program.proofs.StmtInduction.{StmtParts, CaseParts, by_stmt}
use Rattle.cc_program.specs.CcNum.declared.target.Target.{Target}
use Rattle.cc_syntax.specs.Expressions.{of_one, of_two, expr_step, place_step, type_of, place_type}
use Rattle.cc_syntax.specs.Forms.{Form, ConstantForm, FunctionForm, LoadForm, AssignForm, CallForm, IntrinsicForm, OtherForm, form_at, form_of}
use Rattle.cc_syntax.specs.Normal.{device_in, device_read, devices_accessed, devices_step, devices_of, devices_in, devices_in_text}
use Rattle.cc_syntax.specs.Operators.{assignment_type}
use Rattle.cc_syntax.specs.Sound.{any_names, IsFuncBy, IsTypedProgram}
use Rattle.cc_syntax.specs.Statements.{SoundWhere, Labelled, is_condition, has_label, labels_fit, are_apart, is_typed, is_optional_condition, sound_case, sound_step, is_sound_stmt}
use Rattle.cc_syntax.specs.Types.{Named}
use Rattle.cc_syntax.specs.Values.{ValueType, PlaceType, DevicePlace, read_from, written_to}
use Rattle.cc_syntax.specs.Views.{View, of_program}
use Rattle.cc_lower_numbers.specs.Numbered.{device_order, temporary_names, numbered_func, numbered}
use Rattle.cc_lower_numbers.specs.Order.{place_in}
use Rattle.cc_lower_numbers.specs.Renamed.{place_with, expr_renamed, place_renamed, stmt_with, stmt_renamed, case_renamed, stmt_step as renamed_stmt_step}
use Rattle.cc_lower_numbers.specs.Temporaries.{kept_count, temporaries}
use Rattle.cc_lower_numbers_sound.proofs.Forms.{form_with, form_same, place_out}

mapped-append : (f : ℕ → ℕ) (xs ys : List ℕ) → map f (xs ++ ys) ≡ map f xs ++ map f ys
mapped-append f [] ys = refl
mapped-append f (x ∷ xs) ys = ap (λ (l : List ℕ). f x ∷ l) (mapped-append f xs ys)

abbrev joined : List (List ℕ) → List ℕ
joined xs = flat_map (λ ds. ds) xs

abbrev case_devices : Case → List ℕ
case_devices c = fold-Case (List ℕ) (List ℕ) devices_step (λ c. flat_map (λ ds. ds) c.body) c

abbrev stmt_level : is.Stmt-F Stmt Case → List ℕ
stmt_level x = devices_step (map-Stmt Stmt Case (List ℕ) (List ℕ) devices_of case_devices x)

-- ---- by other numbers

module _ (local device : ℕ → ℕ) where
  in_same : (x : one.Place-F Expr Place) → device_in (place_with local device (map-Place Expr Place Expr Place (expr_renamed local device) (place_renamed local device) x)) ≡ map device (device_in x)
  in_same (one.Local r) = refl
  in_same (one.Static i) = refl
  in_same (one.Device d) = refl
  in_same (one.Element a i) = refl
  in_same (one.Member a m) = refl
  in_same (one.Deref e) = refl

  place_same : (a : Place) → device_in (out-Place (place_renamed local device a)) ≡ map device (device_in (out-Place a))
  place_same a = ap device_in (place_out local device a) ∙ in_same (out-Place a)

  form_read : (x : Form) → device_read (form_with local device x) ≡ map device (device_read x)
  form_read (ConstantForm n t) = refl
  form_read FunctionForm = refl
  form_read (LoadForm a) = place_same a
  form_read (AssignForm a e) = refl
  form_read (CallForm h args) = refl
  form_read (IntrinsicForm a) = refl
  form_read OtherForm = refl

  read_same : (e : Expr) → device_read (form_of (expr_renamed local device e)) ≡ map device (device_read (form_of e))
  read_same e = ap device_read (form_same local device e) ∙ form_read (form_of e)

  form_accessed : (x : Form) → devices_accessed (form_with local device x) ≡ map device (devices_accessed x)
  form_accessed (ConstantForm n t) = refl
  form_accessed FunctionForm = refl
  form_accessed (LoadForm a) = refl
  form_accessed (AssignForm a e) = (λ i. place_same a i ++ read_same e i) ∙ sym (mapped-append device (device_in (out-Place a)) (device_read (form_of e)))
  form_accessed (CallForm h args) = refl
  form_accessed (IntrinsicForm a) = refl
  form_accessed OtherForm = refl

  accessed_same : (e : Expr) → devices_accessed (form_of (expr_renamed local device e)) ≡ map device (devices_accessed (form_of e))
  accessed_same e = ap devices_accessed (form_same local device e) ∙ form_accessed (form_of e)

  abbrev StmtSame : Stmt → Type 0
  StmtSame s = devices_of (stmt_renamed local device s) ≡ map device (devices_of s)

  abbrev CaseSame : Case → Type 0
  CaseSame c = case_devices (case_renamed local device c) ≡ map device (case_devices c)

  list_same : (l : List Stmt) → Each StmtSame l → joined (map devices_of (map (stmt_renamed local device) l)) ≡ map device (joined (map devices_of l))
  list_same [] h = refl
  list_same (s ∷ l) h = (λ i. h.0 i ++ list_same l h.1 i) ∙ sym (mapped-append device (devices_of s) (joined (map devices_of l)))

  cases_same : (l : List Case) → Each CaseSame l → joined (map case_devices (map (case_renamed local device) l)) ≡ map device (joined (map case_devices l))
  cases_same [] h = refl
  cases_same (c ∷ l) h = (λ i. h.0 i ++ cases_same l h.1 i) ∙ sym (mapped-append device (case_devices c) (joined (map case_devices l)))

  abbrev renamed_level : is.Stmt-F Stmt Case → is.Stmt-F Stmt Case
  renamed_level x = stmt_with local device (map-Stmt Stmt Case Stmt Case (stmt_renamed local device) (case_renamed local device) x)

  level_same : (x : is.Stmt-F Stmt Case) → StmtParts StmtSame CaseSame x → stmt_level (renamed_level x) ≡ map device (stmt_level x)
  level_same (is.Do e) h = accessed_same e
  level_same (is.If e a b) h = (λ i. list_same a h.0 i ++ list_same b h.1 i) ∙ sym (mapped-append device (joined (map devices_of a)) (joined (map devices_of b)))
  level_same (is.While e a) h = list_same a h
  level_same (is.DoWhile a e) h = list_same a h
  level_same (is.For first test again a) h = list_same a h
  level_same (is.Switch e cases) h = cases_same cases h
  level_same is.Break h = refl
  level_same is.Continue h = refl
  level_same (is.Return e) h = refl
  level_same is.Empty h = refl
  level_same (is.Block a) h = list_same a h

  stmt_made : (x : is.Stmt-F Stmt Case) → StmtParts StmtSame CaseSame x → StmtSame (roll-Stmt x)
  unfolding stmt_renamed case_renamed
  stmt_made x h =
      ap devices_of (fold-roll-Stmt Stmt Case (renamed_stmt_step local device) roll-Case x)
      ∙ fold-roll-Stmt (List ℕ) (List ℕ) devices_step (λ c. flat_map (λ ds. ds) c.body) (renamed_level x)
      ∙ level_same x h
      ∙ ap (map device) (sym (fold-roll-Stmt (List ℕ) (List ℕ) devices_step (λ c. flat_map (λ ds. ds) c.body) x))

  case_made : (x : is.Case-F Stmt Case) → CaseParts StmtSame CaseSame x → CaseSame (roll-Case x)
  unfolding stmt_renamed case_renamed
  case_made x h =
      ap case_devices (fold-roll-Case Stmt Case (renamed_stmt_step local device) roll-Case x)
      ∙ fold-roll-Case (List ℕ) (List ℕ) devices_step (λ c. flat_map (λ ds. ds) c.body) (map-Case Stmt Case Stmt Case (stmt_renamed local device) (case_renamed local device) x)
      ∙ list_same x.body h
      ∙ ap (map device) (sym (fold-roll-Case (List ℕ) (List ℕ) devices_step (λ c. flat_map (λ ds. ds) c.body) x))

  stmt_same : (s : Stmt) → StmtSame s
  stmt_same s = by_stmt StmtSame CaseSame stmt_made case_made s

  body_same : (l : List Stmt) → devices_in (map (stmt_renamed local device) l) ≡ map device (devices_in l)
  body_same [] = refl
  body_same (s ∷ l) = (λ i. stmt_same s i ++ body_same l i) ∙ sym (mapped-append device (devices_of s) (devices_in l))

module _ (p : Program) where
  abbrev device : ℕ → ℕ
  device d = place_in 0 (device_order p) d

  abbrev change : Func → Func
  change f = numbered_func (temporary_names p) (place_in 0 (device_order p)) f

  funcs_same : (fs : List Func) → flat_map (λ (f : Func). devices_in f.body) (map change fs) ≡ map device (flat_map (λ (f : Func). devices_in f.body) fs)
  funcs_same [] = refl
  funcs_same (f ∷ fs) =
      (λ i. body_same (place_in (kept_count f) (temporaries f)) device f.body i ++ funcs_same fs i) ∙ sym (mapped-append device (devices_in f.body) (flat_map (λ (f : Func). devices_in f.body) fs))

  pub text_same : devices_in_text (numbered p) ≡ map device (devices_in_text p)
  text_same = funcs_same p.funcs

-- ---- of a typed program

one-some : {A B : Type 0} (a : Option A) (f : A → Option B) → is_some (of_one a f) ≡ true → is_some a ≡ true
one-some None f h = h
one-some (Some a) f h = refl

two-some : {A B C : Type 0} (a : Option A) (b : Option B) (f : A → B → Option C) → is_some (of_two a b f) ≡ true → (is_some a ≡ true) × (is_some b ≡ true)
two-some None b f h = absurd (true≢false (sym h))
two-some (Some a) None f h = absurd (true≢false (sym h))
two-some (Some a) (Some b) f h = (refl, refl)

module _ (target : Target) (v : View) (locals : List Named) (result : CType) (n : ℕ) (there : (d : ℕ) → is_some (v.devices d) ≡ true → nat_lt d n ≡ true) where
  abbrev typed : Expr → Option ValueType
  typed e = type_of v locals e

  abbrev placed : Place → Option PlaceType
  placed a = place_type v locals a

  abbrev below : List ℕ → Bool
  below ds = list_all (λ (d : ℕ). nat_lt d n) ds

  both-below : (xs ys : List ℕ) → below xs ≡ true → below ys ≡ true → below (xs ++ ys) ≡ true
  both-below xs ys h k = list_all-append (λ (d : ℕ). nat_lt d n) xs ys ∙ and_from (below xs) (below ys) h k

  place-below : (x : one.Place-F Expr Place) → is_some (place_step v locals (map-Place Expr Place (Option ValueType) (Option PlaceType) typed placed x)) ≡ true → below (device_in x) ≡ true
  place-below (one.Local r) h = refl
  place-below (one.Static i) h = refl
  place-below (one.Device d) h = and_from (nat_lt d n) true (there d h) refl
  place-below (one.Element a i) h = refl
  place-below (one.Member a m) h = refl
  place-below (one.Deref e) h = refl

  placed-below : (a : Place) → is_some (placed a) ≡ true → below (device_in (out-Place a)) ≡ true
  unfolding type_of place_type
  placed-below a h = place-below (out-Place a) (sym (ap is_some (fold_out-Place (Option ValueType) (Option PlaceType) (expr_step v locals) (place_step v locals) a)) ∙ h)

  abbrev parts : one.Expr-F Expr Place → one.Expr-F (Option ValueType) (Option PlaceType)
  parts x = map-Expr Expr Place (Option ValueType) (Option PlaceType) typed placed x

  read-below : (x : one.Expr-F Expr Place) → is_some (expr_step v locals (parts x)) ≡ true → below (device_read (form_at x)) ≡ true
  read-below (one.Const m t) h = refl
  read-below (one.Null t) h = refl
  read-below (one.FuncAddr f) h = refl
  read-below (one.Load a) h = placed-below a (one-some (placed a) read_from h)
  read-below (one.AddrOf a) h = refl
  read-below (one.Un o t a) h = refl
  read-below (one.Bin o t a b) h = refl
  read-below (one.Conv t a) h = refl
  read-below (one.Qualify t a) h = refl
  read-below (one.Move a b back) h = refl
  read-below (one.Gap a b) h = refl
  read-below (one.Compare o a b) h = refl
  read-below (one.Both a b) h = refl
  read-below (one.Either a b) h = refl
  read-below (one.Choose c a b) h = refl
  read-below (one.Assign a e) h = refl
  read-below (one.Change a o t e) h = refl
  read-below (one.After a down) h = refl
  read-below (one.Call f args) h = refl
  read-below (one.Intr i a) h = refl
  read-below (one.Seq a b) h = refl

  opened : (e : Expr) → is_some (typed e) ≡ true → is_some (expr_step v locals (parts (out-Expr e))) ≡ true
  unfolding type_of place_type
  opened e h = sym (ap is_some (fold_out-Expr (Option ValueType) (Option PlaceType) (expr_step v locals) (place_step v locals) e)) ∙ h

  accessed-below : (x : one.Expr-F Expr Place) → is_some (expr_step v locals (parts x)) ≡ true → below (devices_accessed (form_at x)) ≡ true
  accessed-below (one.Const m t) h = refl
  accessed-below (one.Null t) h = refl
  accessed-below (one.FuncAddr f) h = refl
  accessed-below (one.Load a) h = refl
  accessed-below (one.AddrOf a) h = refl
  accessed-below (one.Un o t a) h = refl
  accessed-below (one.Bin o t a b) h = refl
  accessed-below (one.Conv t a) h = refl
  accessed-below (one.Qualify t a) h = refl
  accessed-below (one.Move a b back) h = refl
  accessed-below (one.Gap a b) h = refl
  accessed-below (one.Compare o a b) h = refl
  accessed-below (one.Both a b) h = refl
  accessed-below (one.Either a b) h = refl
  accessed-below (one.Choose c a b) h = refl
  accessed-below (one.Assign a e) h =
      let q = two-some (of_one (placed a) written_to) (typed e) assignment_type h in
      both-below (device_in (out-Place a)) (device_read (form_of e)) (placed-below a (one-some (placed a) written_to q.0)) (read-below (out-Expr e) (opened e q.1))
  accessed-below (one.Change a o t e) h = refl
  accessed-below (one.After a down) h = refl
  accessed-below (one.Call f args) h = refl
  accessed-below (one.Intr i a) h = refl
  accessed-below (one.Seq a b) h = refl

  abbrev sound : Stmt → SoundWhere
  sound s = is_sound_stmt target typed result s

  abbrev labelled : Case → Labelled
  labelled c = fold-Case SoundWhere Labelled (sound_step target typed result) sound_case c

  abbrev IsBelow : Stmt → Type 0
  IsBelow s = (b c : Bool) → sound s b c ≡ true → below (devices_of s) ≡ true

  abbrev IsCaseBelow : Case → Type 0
  IsCaseBelow k = (b c : Bool) → (labelled k).body b c ≡ true → below (case_devices k) ≡ true

  abbrev are_sound : Bool → Bool → List SoundWhere → Bool
  are_sound b c l = list_all (λ (s : SoundWhere). s b c) l

  list-below : (b c : Bool) (l : List Stmt) → Each IsBelow l → are_sound b c (map sound l) ≡ true → below (joined (map devices_of l)) ≡ true
  list-below b c [] h k = refl
  list-below b c (s ∷ l) h k =
      let q = and_parts (sound s b c) (are_sound b c (map sound l)) k in both-below (devices_of s) (joined (map devices_of l)) (h.0 b c q.0) (list-below b c l h.1 q.1)

  cases-below : (c : Bool) (l : List Case) → Each IsCaseBelow l → list_all (λ (k : Labelled). k.body true c) (map labelled l) ≡ true → below (joined (map case_devices l)) ≡ true
  cases-below c [] h k = refl
  cases-below c (x ∷ l) h k =
      let q = and_parts ((labelled x).body true c) (list_all (λ (k : Labelled). k.body true c) (map labelled l)) k in both-below (case_devices x) (joined (map case_devices l)) (h.0 true c q.0) (cases-below c l h.1 q.1)

  abbrev sound_level : is.Stmt-F Stmt Case → SoundWhere
  sound_level x = sound_step target typed result (map-Stmt Stmt Case SoundWhere Labelled sound labelled x)

  level-below : (x : is.Stmt-F Stmt Case) → StmtParts IsBelow IsCaseBelow x → (b c : Bool) → sound_level x b c ≡ true → below (stmt_level x) ≡ true
  level-below (is.Do e) h b c k = accessed-below (out-Expr e) (opened e k)
  level-below (is.If e x y) h b c k =
      let q = and_parts (is_condition (typed e)) (are_sound b c (map sound x) && are_sound b c (map sound y)) k in
      let r = and_parts (are_sound b c (map sound x)) (are_sound b c (map sound y)) q.1 in
      both-below (joined (map devices_of x)) (joined (map devices_of y)) (list-below b c x h.0 r.0) (list-below b c y h.1 r.1)
  level-below (is.While e x) h b c k = list-below true true x h (and_parts (is_condition (typed e)) (are_sound true true (map sound x)) k).1
  level-below (is.DoWhile x e) h b c k = list-below true true x h (and_parts (is_condition (typed e)) (are_sound true true (map sound x)) k).1
  level-below (is.For first test again x) h b c k =
      let body : Bool = are_sound true true (map sound x) in
      let q = and_parts (is_typed target typed result first) (is_optional_condition target typed result test && (is_typed target typed result again && body)) k in
      let r = and_parts (is_optional_condition target typed result test) (is_typed target typed result again && body) q.1 in
      list-below true true x h (and_parts (is_typed target typed result again) body r.1).1
  level-below (is.Switch e cases) h b c k =
      let ls : List Labelled = map labelled cases in
      let bodies : Bool = list_all (λ (k : Labelled). k.body true c) ls in
      let q = and_parts (labels_fit target (flat_map (λ (k : Labelled). k.labels) ls) (typed e)) (are_apart (flat_map (λ (k : Labelled). k.labels) ls) && (list_all (λ (k : Labelled). has_label k.labels) ls && bodies)) k in
      let r = and_parts (are_apart (flat_map (λ (k : Labelled). k.labels) ls)) (list_all (λ (k : Labelled). has_label k.labels) ls && bodies) q.1 in
      cases-below c cases h (and_parts (list_all (λ (k : Labelled). has_label k.labels) ls) bodies r.1).1
  level-below is.Break h b c k = refl
  level-below is.Continue h b c k = refl
  level-below (is.Return e) h b c k = refl
  level-below is.Empty h b c k = refl
  level-below (is.Block x) h b c k = list-below b c x h k

  stmt-made : (x : is.Stmt-F Stmt Case) → StmtParts IsBelow IsCaseBelow x → IsBelow (roll-Stmt x)
  stmt-made x h b c k =
      ap below (fold-roll-Stmt (List ℕ) (List ℕ) devices_step (λ c. flat_map (λ ds. ds) c.body) x)
      ∙ level-below x h b c (sym (ap (λ (s : SoundWhere). s b c) (fold-roll-Stmt SoundWhere Labelled (sound_step target typed result) sound_case x)) ∙ k)

  case-made : (x : is.Case-F Stmt Case) → CaseParts IsBelow IsCaseBelow x → IsCaseBelow (roll-Case x)
  case-made x h b c k =
      ap below (fold-roll-Case (List ℕ) (List ℕ) devices_step (λ c. flat_map (λ ds. ds) c.body) x)
      ∙ list-below b c x.body h (sym (ap (λ (s : Labelled). s.body b c) (fold-roll-Case SoundWhere Labelled (sound_step target typed result) sound_case x)) ∙ k)

  stmt-below : (s : Stmt) → IsBelow s
  stmt-below s = by_stmt IsBelow IsCaseBelow stmt-made case-made s

  pub body-below : (l : List Stmt) → are_sound false false (map sound l) ≡ true → below (devices_in l) ≡ true
  body-below [] k = refl
  body-below (s ∷ l) k =
      let q = and_parts (sound s false false) (are_sound false false (map sound l)) k in both-below (devices_of s) (devices_in l) (stmt-below s false false q.0) (body-below l q.1)

module _ (p : Program) (h : IsTypedProgram p) where
  device-there : (d : ℕ) → is_some ((of_program p).devices d) ≡ true → nat_lt d (length p.devices) ≡ true
  device-there d k = by (slice_get p.devices d) refl k
    where
      by : (o : Option Device) → slice_get p.devices d ≡ o → is_some (option_map (λ (x : Device). DevicePlace x.constant x.int) o) ≡ true → nat_lt d (length p.devices) ≡ true
      by None e s = absurd (true≢false (sym s))
      by (Some x) e s = lt-ltb d (length p.devices) (slice_get_within p.devices d x e)

  funcs-below : (fs : List Func) → ((i : ℕ) (d : Func) → i < length fs → IsFuncBy p any_names (get_or fs i d)) → list_all (λ (d : ℕ). nat_lt d (length p.devices)) (flat_map (λ (f : Func). devices_in f.body) fs) ≡ true
  funcs-below [] w = refl
  funcs-below (f ∷ fs) w =
      list_all-append (λ (d : ℕ). nat_lt d (length p.devices)) (devices_in f.body) (flat_map (λ (f : Func). devices_in f.body) fs)
      ∙ and_from (list_all (λ (d : ℕ). nat_lt d (length p.devices)) (devices_in f.body)) (list_all (λ (d : ℕ). nat_lt d (length p.devices)) (flat_map (λ (f : Func). devices_in f.body) fs))
      (body-below p.target (of_program p) f.locals (out-Sig f.sig).result (length p.devices) device-there f.body (w 0 f (omega arith)).body) (funcs-below fs (λ i d l. w (suc i) d (omega arith)))

  -- each device of the text is one of the program
  pub text_below : list_all (λ (d : ℕ). nat_lt d (length p.devices)) (devices_in_text p) ≡ true
  text_below = funcs-below p.funcs h.funcs
