-- The statement to which a path leads in the body of a function is normal and sound.
use Rattle.std.proofs.Common.{◌≡◌, inl, inr, ℕ, zero, suc, Bool, true, false, ◌&&◌, List, [], ◌∷◌, ◌++◌, map, Option, Some, None, refl, ap, sym, ◌∙◌, slice_get}
use Rattle.std.specs.List.{flat_map, list_all}
use Rattle.std.proofs.lemmas.Option.{same_Some}
use Rattle.cc_rules_flows.specs.CcControl.Control.{bodies}
use Rattle.cc_rules_flows.proofs.CcFlowSound.Normal.{normal_body}
use Rattle.cc_rules_flows.proofs.CcFlowSound.Opened.{normal, all_normal, NormalAt, normal_level, normal_join, normal_head, normal_lists}
use Rattle.cc_rules_flows.specs.CcFlowSound.Statements.{inside, statement_at}
use Rattle.cc_program.specs.CcNum.declared.target.Target.{Target}
use Rattle.cc_program.specs.declared.func.Func.{Func}
use Rattle.cc_program.specs.declared.program.Program.{Program}
use Rattle.cc_program.specs.declared.stmt.Case.{Case, out-Case, fold_out-Case}
use Rattle.cc_program.specs.declared.stmt.Stmt.TheOpen as is
use Rattle.cc_program.specs.declared.stmt.Stmt.{Stmt, out-Stmt}
use Rattle.cc_rules_flows.proofs.CcStates.ControlLemmas.{statement_sound}
use Rattle.cc_rules_flows.proofs.CcStates.SoundLemmas.{typed, labelled, parts}
use Rattle.cc_rules_flows.proofs.CcStates.TurnLemmas.{function_sound}
use Rattle.cc_rules_flows.proofs.CcSyntax.NameRules.{sound-typed}
use Rattle.cc_rules_flows.proofs.CcSyntax.Prefixes.{both_true}
use Rattle.cc_rules_flows.specs.CcSyntax.Expressions.{of_one}
use Rattle.cc_rules_flows.specs.CcSyntax.Normal.{IsNormal}
use Rattle.cc_rules_flows.specs.CcSyntax.Programs.{is_sound_stmt, sound_step, is_typed, is_optional_condition}
use Rattle.cc_rules_flows.specs.CcSyntax.Statements.{SoundWhere, Labelled, is_condition, sound_case, labels_fit, has_label, are_apart}

-- ---- normal ones

module _ (target : Target) (f : Func) where
  normal_inside : (x : is.Stmt-F Stmt Case) → NormalAt target f x → all_normal target f (inside x) ≡ true
  normal_inside (is.Do e) h = refl
  normal_inside (is.If e these those) h =
      normal_join target f these those (normal_lists target f (is.If e these those) these 0 h (inl (refl, refl))) (normal_lists target f (is.If e these those) those _ h (inr (refl, refl)))
  normal_inside (is.While e body) h = normal_lists target f (is.While e body) body 0 h (refl, refl)
  normal_inside (is.DoWhile body e) h = absurd (cc)
  normal_inside (is.For first test again body) h = absurd (cc)
  normal_inside (is.Switch e cases) h = normal_lists target f (is.Switch e cases) (bodies cases) 0 h (refl, refl)
  normal_inside is.Break h = refl
  normal_inside is.Continue h = refl
  normal_inside (is.Return e) h = refl
  normal_inside is.Empty h = refl
  normal_inside (is.Block body) h = absurd (cc)

  normal_get : (list : List Stmt) (n : ℕ) (s : Stmt) → all_normal target f list ≡ true → slice_get list n ≡ Some s → normal target f s ≡ true
  normal_get [] n s h e = absurd (cc)
  normal_get (x ∷ list) zero s h e = ap (normal target f) (sym (same_Some x s e)) ∙ (normal_head target f x list h).0
  normal_get (x ∷ list) (suc n) s h e = normal_get list n s (normal_head target f x list h).1 e

  normal_step : (list : List Stmt) (n : ℕ) (further : List ℕ) (s : Stmt) → ((x : Stmt) → normal target f x ≡ true → statement_at (inside (out-Stmt x)) further ≡ Some s → normal target f s ≡ true) → all_normal target f list ≡ true → (o : Option Stmt) →
      slice_get list n ≡ o → of_one o (λ x. statement_at (inside (out-Stmt x)) further) ≡ Some s → normal target f s ≡ true
  normal_step list n further s next h None e k = absurd (cc)
  normal_step list n further s next h (Some x) e k = next x (normal_get list n x h e) k

  pub normal_at : (list : List Stmt) (path : List ℕ) (s : Stmt) → all_normal target f list ≡ true → statement_at list path ≡ Some s → normal target f s ≡ true
  normal_at list [] s h e = absurd (cc)
  normal_at list (n ∷ []) s h e = normal_get list n s h e
  normal_at list (n ∷ m ∷ path) s h e =
      normal_step list n (m ∷ path) s (λ x k. normal_at (inside (out-Stmt x)) (m ∷ path) s (normal_inside (out-Stmt x) (normal_level target f x k))) h (slice_get list n) refl e

-- ---- sound ones

module _ (p : Program) (f : Func) where
  abbrev AllSound : Bool → Bool → List Stmt → Type 0
  AllSound b c list = list_all (λ (g : SoundWhere). g b c) (map (is_sound_stmt p f) list) ≡ true

  sound_join : (b c : Bool) (xs ys : List Stmt) → AllSound b c xs → AllSound b c ys → AllSound b c (xs ++ ys)
  sound_join b c [] ys h k = k
  sound_join b c (x ∷ xs) ys h k =
      let w = both_true (is_sound_stmt p f x b c) (list_all (λ (g : SoundWhere). g b c) (map (is_sound_stmt p f) xs)) h in
      both (is_sound_stmt p f x b c) (list_all (λ (g : SoundWhere). g b c) (map (is_sound_stmt p f) (xs ++ ys))) w.0 (sound_join b c xs ys w.1 k)
    where
      both : (a b : Bool) → a ≡ true → b ≡ true → (a && b) ≡ true
      both true b h k = k
      both false b h k = h

  sound_bodies : (b c : Bool) (cases : List Case) → list_all (λ (k : Labelled). k.body b c) (map (labelled p f) cases) ≡ true → AllSound b c (bodies cases)
  sound_bodies b c [] h = refl
  sound_bodies b c (k ∷ cases) h =
      let w = both_true ((labelled p f k).body b c) (list_all (λ (k : Labelled). k.body b c) (map (labelled p f) cases)) h in
      sound_join b c (out-Case k).body (bodies cases) (ap (λ (l : Labelled). l.body b c) (sym (fold_out-Case SoundWhere Labelled (sound_step p f) sound_case k)) ∙ w.0) (sound_bodies b c cases w.1)

  -- somewhere
  abbrev SomeSound : List Stmt → Type 0
  SomeSound list = (b : Bool) × (c : Bool) × AllSound b c list

  abbrev pub IsSoundHere : Stmt → Type 0
  IsSoundHere s = (b : Bool) × (c : Bool) × (is_sound_stmt p f s b c ≡ true)

  sound_inside : (x : is.Stmt-F Stmt Case) (b c : Bool) → sound_step p f (parts p f x) b c ≡ true → SomeSound (inside x)
  sound_inside (is.Do e) b c h = (true, true, refl)
  sound_inside (is.If e these those) b c h =
      let w = both_true (is_condition (typed p f e)) (list_all (λ (g : SoundWhere). g b c) (map (is_sound_stmt p f) these) && list_all (λ (g : SoundWhere). g b c) (map (is_sound_stmt p f) those)) h in
      let u = both_true (list_all (λ (g : SoundWhere). g b c) (map (is_sound_stmt p f) these)) (list_all (λ (g : SoundWhere). g b c) (map (is_sound_stmt p f) those)) w.1 in
      (b, c, sound_join b c these those u.0 u.1)
  sound_inside (is.While e body) b c h = (true, true, (both_true (is_condition (typed p f e)) (list_all (λ (g : SoundWhere). g true true) (map (is_sound_stmt p f) body)) h).1)
  sound_inside (is.DoWhile body e) b c h = (true, true, (both_true (is_condition (typed p f e)) (list_all (λ (g : SoundWhere). g true true) (map (is_sound_stmt p f) body)) h).1)
  sound_inside (is.For first test again body) b c h =
      let list = list_all (λ (g : SoundWhere). g true true) (map (is_sound_stmt p f) body) in
      let w = both_true (is_typed p f first) (is_optional_condition p f test && (is_typed p f again && list)) h in
      let u = both_true (is_optional_condition p f test) (is_typed p f again && list) w.1 in
      (true, true, (both_true (is_typed p f again) list u.1).1)
  sound_inside (is.Switch e cases) b c h =
      let list = map (labelled p f) cases in
      let labels = flat_map (λ (k : Labelled). k.labels) list in (
        true,
        c,
        sound_bodies true c cases
            (last_of (labels_fit p.target labels (typed p f e)) (are_apart labels) (list_all (λ (k : Labelled). has_label k.labels) list) (list_all (λ (k : Labelled). k.body true c) list) h),
      )
    where
      last_of : (a b c d : Bool) → (a && (b && (c && d))) ≡ true → d ≡ true
      last_of true true true d h = h
      last_of true true false d h = absurd (cc)
      last_of true false c d h = absurd (cc)
      last_of false b c d h = absurd (cc)
  sound_inside is.Break b c h = (true, true, refl)
  sound_inside is.Continue b c h = (true, true, refl)
  sound_inside (is.Return e) b c h = (true, true, refl)
  sound_inside is.Empty b c h = (true, true, refl)
  sound_inside (is.Block body) b c h = (b, c, h)

  sound_get : (b c : Bool) (list : List Stmt) (n : ℕ) (s : Stmt) → AllSound b c list → slice_get list n ≡ Some s → IsSoundHere s
  sound_get b c [] n s h e = absurd (cc)
  sound_get b c (x ∷ list) zero s h e =
      (b, c, ap (λ (y : Stmt). is_sound_stmt p f y b c) (sym (same_Some x s e)) ∙ (both_true (is_sound_stmt p f x b c) (list_all (λ (g : SoundWhere). g b c) (map (is_sound_stmt p f) list)) h).0)
  sound_get b c (x ∷ list) (suc n) s h e = sound_get b c list n s (both_true (is_sound_stmt p f x b c) (list_all (λ (g : SoundWhere). g b c) (map (is_sound_stmt p f) list)) h).1 e

  sound_further : (b c : Bool) (list : List Stmt) (n : ℕ) (further : List ℕ) (s : Stmt) → ((x : Stmt) → IsSoundHere x → statement_at (inside (out-Stmt x)) further ≡ Some s → IsSoundHere s) → AllSound b c list → (o : Option Stmt) →
      slice_get list n ≡ o → of_one o (λ x. statement_at (inside (out-Stmt x)) further) ≡ Some s → IsSoundHere s
  sound_further b c list n further s next h None e k = absurd (cc)
  sound_further b c list n further s next h (Some x) e k = next x (sound_get b c list n x h e) k

  pub sound_at : (b c : Bool) (list : List Stmt) (path : List ℕ) (s : Stmt) → AllSound b c list → statement_at list path ≡ Some s → IsSoundHere s
  sound_at b c list [] s h e = absurd (cc)
  sound_at b c list (n ∷ []) s h e = sound_get b c list n s h e
  sound_at b c list (n ∷ m ∷ path) s h e =
      sound_further b c list n (m ∷ path) s
      (λ x k. (let w = sound_inside (out-Stmt x) k.0 k.1 (statement_sound p f x k.0 k.1 k.2) in sound_at w.0 w.1 (inside (out-Stmt x)) (m ∷ path) s w.2)) h (slice_get list n) refl e

-- ---- at a point of a program in normal form

module _ (p : Program) (program_normal : IsNormal p) (id : ℕ) (f : Func) (function : slice_get p.funcs id ≡ Some f) (path : List ℕ) (s : Stmt) (stands : statement_at f.body path ≡ Some s) where
  pub its_normal : NormalAt p.target f (out-Stmt s)
  its_normal = normal_level p.target f s (normal_at p.target f f.body path s (normal_body p program_normal id f function) stands)

  pub its_sound : IsSoundHere p f s
  its_sound = sound_at p f false false f.body path s (function_sound p (sound-typed p program_normal.sound) id f function).body stands

  pub sound_level : sound_step p f (parts p f (out-Stmt s)) its_sound.0 its_sound.1 ≡ true
  sound_level = statement_sound p f s its_sound.0 its_sound.1 its_sound.2
