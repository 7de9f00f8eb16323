-- Statements that are lowered right, part by part; and those of the functions of a typed program are.
use Rattle.std.proofs.Common.{◌≡◌, ℕ, ℤ, Bool, true, false, ◌&&◌, ◌||◌, List, [], ◌∷◌, map, Option, Some, None, is_some, slice_get, refl, ap, sym, ◌∙◌, subst}
use Rattle.std.specs.List.{list_all, list_any, flat_map}
use Rattle.cc_states.proofs.CcEval.Links.{type_linked}
use Rattle.cc_program.specs.declared.expr.Expr.{Expr, out-Expr}
use Rattle.cc_program.specs.declared.expr.Expr.TheOpen as one
use Rattle.cc_program.specs.declared.expr.Place.{Place}
use Rattle.cc_program.specs.declared.func.Func.{Func}
use Rattle.cc_program.specs.declared.program.Program.{Program}
use Rattle.cc_program.specs.declared.stmt.Case.{Case, out-Case, roll-out-Case}
use Rattle.cc_program.specs.declared.stmt.Stmt.{Stmt, out-Stmt, roll-out-Stmt}
use Rattle.cc_program.specs.declared.stmt.Stmt.TheOpen as is
use Rattle.cc_program.proofs.Each.{Each}
use Rattle.cc_states.specs.CcSyntax.Expressions.{type_of}
use Rattle.cc_states.specs.CcSyntax.Forms.{form_at, form_of}
use Rattle.cc_states.specs.CcSyntax.Normal.{is_one}
use Rattle.cc_states.specs.CcSyntax.Registers.{is_address_taken, is_taken_in, is_addressed}
use Rattle.cc_states.specs.CcSyntax.Sound.{any_names, IsFuncBy, IsTypedProgram}
use Rattle.cc_states.specs.CcSyntax.Statements.{SoundWhere, Labelled, is_condition, labels_fit, are_apart, has_label, returns}
use Rattle.cc_states.specs.CcSyntax.Values.{ValueType, scalar_value}
use Rattle.cc_states.specs.CcSyntax.Views.{of_program}
use Rattle.cc_lower_sound.specs.Statements.{is_plain, are_plain, has_plain_statements}
use Rattle.cc_lower_sound.proofs.AddressReading.{stmt_at, stmt-taken-roll, taken_case, case-taken-roll}
use Rattle.cc_lower_sound.proofs.Bools.{first_true, second_true}
use Rattle.cc_lower_sound.proofs.Levels.{sound, case_of, sound_at, sound-roll, case-roll}
use Rattle.cc_lower_sound.proofs.LoweredBodies.{result}
use Rattle.cc_lower_sound.proofs.LoweredCalls.{is_argument}
use Rattle.cc_lower_sound.proofs.PlainStatements.{case_plain, plain_at, plain-roll, case-plain-roll}
use Rattle.cc_lower_sound.proofs.TypedPrograms.{all_at, tested_at}
use Rattle.cc_lower_expressions_follows.specs.Trees.{Setting, context_p}
use Rattle.cc_lower_expressions_follows.specs.WholeFits.{setting_of}
use Rattle.cc_lower_expressions_follows.specs.WholeLists.{is_one_at, IsLoweredRight, IsNormal, NormalDo, NormalIf, NormalLoop, NormalSwitch, NormalBreak, NormalContinue, NormalReturn, NormalEnd}
use Rattle.cc_lower_expressions_follows.proofs.Typing.{TypedExpr}
use Rattle.cc_lower_bodies_follows.specs.Lowerable.{IsLowerable, IsLowerableIn}
use Rattle.cc_lower_bodies_follows.proofs.OldExpressions.{typed_old}

or_first : (a b : Bool) → a ≡ true → a || b ≡ true
or_first true b h = refl
or_first false b h = absurd (cc)

or_second : (a b : Bool) → b ≡ true → a || b ≡ true
or_second true b h = refl
or_second false b h = h

-- ---- types that are there

condition_some : (o : Option ValueType) → is_condition o ≡ true → is_some o ≡ true
condition_some None h = absurd (cc)
condition_some (Some t) h = refl

-- `while (1)`
one_by : (x : one.Expr-F Expr Place) → is_one (form_at x) ≡ true → is_one_at x ≡ true
one_by (one.Const n t) h = first_true _ _ h
one_by (one.Null t) h = absurd (cc)
one_by (one.FuncAddr g) h = absurd (cc)
one_by (one.Load a) h = absurd (cc)
one_by (one.AddrOf a) h = absurd (cc)
one_by (one.Un o t a) h = absurd (cc)
one_by (one.Bin o t a b) h = absurd (cc)
one_by (one.Conv t a) h = absurd (cc)
one_by (one.Qualify t a) h = absurd (cc)
one_by (one.Move a b back) h = absurd (cc)
one_by (one.Gap a b) h = absurd (cc)
one_by (one.Compare o a b) h = absurd (cc)
one_by (one.Both a b) h = absurd (cc)
one_by (one.Either a b) h = absurd (cc)
one_by (one.Choose d a b) h = absurd (cc)
one_by (one.Assign a e) h = absurd (cc)
one_by (one.Change a o t e) h = absurd (cc)
one_by (one.After a down) h = absurd (cc)
one_by (one.Call g args) h = absurd (cc)
one_by (one.Intr i a) h = absurd (cc)
one_by (one.Seq a b) h = absurd (cc)

module _ (P : Program) (f : Func) where
  abbrev typed : Expr → Option ValueType
  typed e = type_of (of_program P) f.locals e

  abbrev is_sound : Stmt → SoundWhere
  is_sound s = sound P.target typed (result f) s

  abbrev labelled : Case → Labelled
  labelled k = case_of P.target typed (result f) k

  abbrev Taken : (ℕ → Bool) → Type 0
  Taken takes = (r : ℕ) → takes r ≡ true → is_addressed f r ≡ true

  abbrev any_in : List Stmt → ℕ → Bool
  any_in l r = list_any (λ b. b) (map (is_taken_in r) l)

  abbrev all_sound : List Stmt → Bool → Bool → Bool
  all_sound l b c = list_all (λ (g : SoundWhere). g b c) (map is_sound l)

  -- ---- lists, and cases

  pub each_lowerable : (l : List Stmt) (b c : Bool) → are_plain l ≡ true → all_sound l b c ≡ true → Taken (any_in l) → Each (IsLowerableIn P f) l
  each_lowerable [] b c h k o = tt
  each_lowerable (s ∷ l) b c h k o = (
    record {
      plain = first_true (is_plain s) (are_plain l) h;
      breaks = b;
      continues = c;
      sound = first_true (is_sound s b c) (all_sound l b c) k;
      own = λ r t. o r (or_first (is_taken_in r s) (any_in l r) t);
    },
    each_lowerable l b c (second_true (is_plain s) (are_plain l) h) (second_true (is_sound s b c) (all_sound l b c) k) (λ r t. o r (or_second (is_taken_in r s) (any_in l r) t)),
  )

  case_lowerable : (k : Case) (c : Bool) → case_plain k ≡ true → (labelled k).body true c ≡ true → Taken (λ r. taken_case r k) → Each (IsLowerableIn P f) (out-Case k).body
  case_lowerable k c h s o =
      let e = roll-out-Case k in
      each_lowerable (out-Case k).body true c (sym (ap case_plain (sym e) ∙ case-plain-roll (out-Case k)) ∙ h)
      (sym (ap (λ (k : Case). (labelled k).body true c) (sym e) ∙ ap (λ (l : Labelled). l.body true c) (case-roll P.target typed (result f) (out-Case k))) ∙ s)
      (λ r t. o r (ap (taken_case r) (sym e) ∙ case-taken-roll r (out-Case k) ∙ t))

  cases_lowerable : (ks : List Case) (c : Bool) → list_all (λ b. b) (map case_plain ks) ≡ true → list_all (λ (l : Labelled). l.body true c) (map labelled ks) ≡ true → Taken (λ r. list_any (λ b. b) (map (taken_case r) ks)) →
      Each (λ k. Each (IsLowerableIn P f) k.body) ks
  cases_lowerable [] c h s o = tt
  cases_lowerable (k ∷ ks) c h s o = (
    case_lowerable k c (first_true (case_plain k) (list_all (λ b. b) (map case_plain ks)) h) (first_true ((labelled k).body true c) (list_all (λ (l : Labelled). l.body true c) (map labelled ks)) s)
        (λ r t. o r (or_first (taken_case r k) (list_any (λ b. b) (map (taken_case r) ks)) t)),
    cases_lowerable ks c (second_true (case_plain k) (list_all (λ b. b) (map case_plain ks)) h) (second_true ((labelled k).body true c) (list_all (λ (l : Labelled). l.body true c) (map labelled ks)) s)
        (λ r t. o r (or_second (taken_case r k) (list_any (λ b. b) (map (taken_case r) ks)) t)),
  )

  -- what a `switch` chooses by
  switched_some : (ls : List (Option ℤ)) (o : Option ValueType) → labels_fit P.target ls o ≡ true → is_some o ≡ true
  switched_some ls None h = absurd (cc)
  switched_some ls (Some t) h = refl

  -- ---- at the top of a statement

  record IsLowerableAt (x : is.Stmt-F Stmt Case) : Type 0 where
    pub plain : plain_at x ≡ true
    pub breaks : Bool
    pub continues : Bool
    pub sound : sound_at P.target typed (result f) x breaks continues ≡ true
    pub own : Taken (λ r. stmt_at r x)

  lowerable_at : (s : Stmt) → IsLowerableIn P f s → IsLowerableAt (out-Stmt s)
  lowerable_at s h =
      let e = roll-out-Stmt s in
      record {
        plain = sym (ap is_plain (sym e) ∙ plain-roll (out-Stmt s)) ∙ h.plain;
        breaks = h.breaks;
        continues = h.continues;
        sound = sym (ap (λ (s : Stmt). is_sound s h.breaks h.continues) (sym e) ∙ ap (λ (g : SoundWhere). g h.breaks h.continues) (sound-roll P.target typed (result f) (out-Stmt s))) ∙ h.sound;
        own = λ r t. h.own r (ap (is_taken_in r) (sym e) ∙ stmt-taken-roll r (out-Stmt s) ∙ t);
      }

  module _ (number id : ℕ) where
    abbrev w : Setting
    w = setting_of P number id f

    typed_there : (e : Expr) (o : Option ValueType) → typed e ≡ o → is_some o ≡ true → TypedExpr (context_p w) e
    typed_there e None h k = absurd (cc)
    typed_there e (Some t) h k = (t, type_linked (context_p w) e ∙ h)

    pub lowerable_by : (e : Expr) → TypedExpr (context_p w) e → Taken (λ r. is_address_taken r e) → IsLowerable w e
    lowerable_by e t own = record { typed = t; old = typed_old (context_p w) e t; own = own }

    lowerable : (e : Expr) → is_some (typed e) ≡ true → Taken (λ r. is_address_taken r e) → IsLowerable w e
    lowerable e h own = lowerable_by e (typed_there e (typed e) refl h) own

    -- the condition of an `if`
    condition_by : (e : Expr) (a b : List Stmt) → IsLowerableAt (is.If e a b) → IsLowerable w e
    condition_by e a b h =
        lowerable e (condition_some (typed e) (first_true (is_condition (typed e)) (all_sound a h.breaks h.continues && all_sound b h.breaks h.continues) h.sound))
        (λ r t. h.own r (or_first (is_address_taken r e) (any_in a r || any_in b r) t))

    pub condition_lowerable : (s : Stmt) (e : Expr) (a b : List Stmt) → IsLowerableIn P f s → out-Stmt s ≡ is.If e a b → IsLowerable w e
    condition_lowerable s e a b h d = condition_by e a b (subst IsLowerableAt d (lowerable_at s h))

    -- a statement by its kind, with its parts
    pub data HasLowerableParts : is.Stmt-F Stmt Case → Type 0 where
      PartsDo : (e : Expr) → IsLowerable w e → HasLowerableParts (is.Do e)
      PartsIf : (e : Expr) (a b : List Stmt) → IsLowerable w e → Each (IsLowerableIn P f) a → Each (IsLowerableIn P f) b → HasLowerableParts (is.If e a b)
      PartsLoop : (e : Expr) (body : List Stmt) → is_one_at (out-Expr e) ≡ true → Each (IsLowerableIn P f) body → HasLowerableParts (is.While e body)
      PartsSwitch : (e : Expr) (cases : List Case) → IsLowerable w e → Each (λ k. Each (IsLowerableIn P f) k.body) cases → HasLowerableParts (is.Switch e cases)
      PartsBreak : HasLowerableParts is.Break
      PartsContinue : HasLowerableParts is.Continue
      PartsReturn : (e : Expr) → IsLowerable w e → HasLowerableParts (is.Return (Some e))
      PartsEnd : HasLowerableParts (is.Return None)

    returned_parts : (o : Option Expr) → returns P.target typed (result f) o ≡ true → Taken (λ r. stmt_at r (is.Return o)) → HasLowerableParts (is.Return o)
    returned_parts None h o = PartsEnd
    returned_parts (Some e) h o = PartsReturn e (lowerable e (ap is_some (is_argument (scalar_value (result f)) (typed e) h).is) o)

    parts_at : (x : is.Stmt-F Stmt Case) → IsLowerableAt x → HasLowerableParts x
    parts_at (is.Do e) h = PartsDo e (lowerable e h.sound h.own)
    parts_at (is.If e a b) h =
        let rest = second_true (is_condition (typed e)) (all_sound a h.breaks h.continues && all_sound b h.breaks h.continues) h.sound in
        PartsIf e a b (condition_by e a b h)
        (each_lowerable a h.breaks h.continues (first_true (are_plain a) (are_plain b) h.plain) (first_true (all_sound a h.breaks h.continues) (all_sound b h.breaks h.continues) rest)
        (λ r t. h.own r (or_second (is_address_taken r e) (any_in a r || any_in b r) (or_first (any_in a r) (any_in b r) t))))
        (each_lowerable b h.breaks h.continues (second_true (are_plain a) (are_plain b) h.plain) (second_true (all_sound a h.breaks h.continues) (all_sound b h.breaks h.continues) rest)
        (λ r t. h.own r (or_second (is_address_taken r e) (any_in a r || any_in b r) (or_second (any_in a r) (any_in b r) t))))
    parts_at (is.While e body) h =
        PartsLoop e body (one_by (out-Expr e) (first_true (is_one (form_of e)) (are_plain body) h.plain))
        (each_lowerable body true true (second_true (is_one (form_of e)) (are_plain body) h.plain) (second_true (is_condition (typed e)) (all_sound body true true) h.sound)
        (λ r t. h.own r (or_second (is_address_taken r e) (any_in body r) t)))
    parts_at (is.DoWhile body e) h = let plain = h.plain in absurd (cc)
    parts_at (is.For first test again body) h = let plain = h.plain in absurd (cc)
    parts_at (is.Switch e cases) h =
        let ls : List (Option ℤ) = flat_map (λ (l : Labelled). l.labels) (map labelled cases) in
        let behind = second_true (labels_fit P.target ls (typed e)) _ h.sound in
        let last = second_true (are_apart ls) _ behind in
        PartsSwitch e cases
        (lowerable e (switched_some ls (typed e) (first_true (labels_fit P.target ls (typed e)) _ h.sound)) (λ r t. h.own r (or_first (is_address_taken r e) (list_any (λ b. b) (map (taken_case r) cases)) t)))
        (cases_lowerable cases h.continues h.plain (second_true (list_all (λ (l : Labelled). has_label l.labels) (map labelled cases)) _ last)
        (λ r t. h.own r (or_second (is_address_taken r e) (list_any (λ b. b) (map (taken_case r) cases)) t)))
    parts_at is.Break h = PartsBreak
    parts_at is.Continue h = PartsContinue
    parts_at (is.Return o) h = returned_parts o h.sound h.own
    parts_at is.Empty h = let plain = h.plain in absurd (cc)
    parts_at (is.Block body) h = let plain = h.plain in absurd (cc)

    pub lowerable_parts : (s : Stmt) → IsLowerableIn P f s → HasLowerableParts (out-Stmt s)
    lowerable_parts s h = parts_at (out-Stmt s) (lowerable_at s h)

    -- where such expressions are lowered right
    module _ (right : (e : Expr) → IsLowerable w e → IsLoweredRight w e) where
      normal_by : (x : is.Stmt-F Stmt Case) → HasLowerableParts x → IsNormal w (IsLowerableIn P f) x
      normal_by _ (PartsDo e h) = NormalDo e (right e h)
      normal_by _ (PartsIf e a b h k j) = NormalIf e a b (right e h) k j
      normal_by _ (PartsLoop e body one h) = NormalLoop e body one h
      normal_by _ (PartsSwitch e cases h k) = NormalSwitch e cases (right e h) k
      normal_by _ PartsBreak = NormalBreak
      normal_by _ PartsContinue = NormalContinue
      normal_by _ (PartsReturn e h) = NormalReturn e (right e h)
      normal_by _ PartsEnd = NormalEnd

      pub lowerable_normal : (s : Stmt) → IsLowerableIn P f s → IsNormal w (IsLowerableIn P f) (out-Stmt s)
      lowerable_normal s h = normal_by (out-Stmt s) (lowerable_parts s h)

-- ---- bodies of a typed program

pub body_lowerable : (P : Program) → IsTypedProgram P → has_plain_statements P ≡ true → (id : ℕ) (f : Func) → slice_get P.funcs id ≡ Some f → Each (IsLowerableIn P f) f.body
body_lowerable P typed plain id f there =
    each_lowerable P f f.body false false (tested_at (λ (f : Func). are_plain f.body) P.funcs id f plain there) (all_at (IsFuncBy P any_names) P.funcs id f typed.funcs there).body (λ r t. t)
