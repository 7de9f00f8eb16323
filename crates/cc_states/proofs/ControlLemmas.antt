-- Where an activation goes on, what is left of each list is sound where it stands.
use Rattle.std.proofs.Common.{◌≡◌, ℕ, ℤ, Bool, true, false, ◌&&◌, ◌||◌, ◌+◌, List, [], ◌∷◌, map, length, Option, Some, None, refl, ap, sym, ◌∙◌, subst}
use Rattle.std.proofs.lemmas.Option.{same_Some}
use Rattle.std.proofs.lemmas.List.Folds.{list_all-append, list_all-map}
use Rattle.std.specs.Prelude.{if◌then◌else◌}
use Rattle.std.specs.List.{list_all, list_any, flat_map}
use Rattle.std.specs.Option.{option_or}
use Rattle.cc_program.specs.declared.func.Func.{Func}
use Rattle.cc_program.specs.declared.program.Program.{Program}
use Rattle.cc_program.specs.declared.stmt.Case.{Case, out-Case, fold_out-Case}
use Rattle.cc_program.specs.declared.stmt.Stmt.{Stmt, out-Stmt}
use Rattle.cc_program.specs.declared.stmt.Stmt.TheOpen as is
use Rattle.cc_program.specs.declared.value.Value.{Value}
use Rattle.cc_steps.specs.CcControl.Control.{Level, Control, level, counted, is_loop, is_left_by_break, behind_body, opening, begun, behind_first, first_is, around_list, close, behind, broken, continued, arm, bodies, from_label, is_label, is_default}
use Rattle.cc_steps.proofs.CcControl.Begun.{begun_stands, begun_enters}
use Rattle.cc_steps.specs.State.{Active}
use Rattle.cc_steps.specs.Step.{in_case, looped, is_passed, next_place, number_in}
use Rattle.cc_steps.specs.CcSyntax.Statements.{SoundWhere, Labelled, sound_case, is_condition, labels_fit, are_apart, has_label}
use Rattle.cc_steps.specs.CcSyntax.Programs.{sound_step, is_sound_stmt, is_typed, is_optional_condition, is_sound_body}
use Rattle.cc_steps.proofs.CcSyntax.Prefixes.{both_true}
use Rattle.cc_steps.specs.CcValues.Values.{is_true}
use Rattle.cc_states.specs.States.{may_break, may_continue, is_sound_in, AreSound}
use Rattle.cc_states.proofs.Openings.{by_opening}
use Rattle.cc_steps.proofs.CcSyntax.SameLemmas.{and_true}
use Rattle.cc_states.proofs.SoundLemmas.{typed, labelled, parts, sound-opens}

module _ (p : Program) (f : Func) where
  abbrev sound_list : Bool → Bool → List Stmt → Bool
  sound_list b c list = list_all (λ s. is_sound_stmt p f s b c) list

  abbrev Stands : Control → Type 0
  Stands at = AreSound p f (at.0 ∷ at.1)

  -- the tests of a list's statements, as a fold over the statement around has them
  mapped_list : (b c : Bool) (list : List Stmt) → list_all (λ (g : SoundWhere). g b c) (map (is_sound_stmt p f) list) ≡ true → sound_list b c list ≡ true
  mapped_list b c list h = sym (list_all-map (λ (g : SoundWhere). g b c) (is_sound_stmt p f) list) ∙ h

  -- ---- blocks that are entered at once

  opening_sound : (x : is.Stmt-F Stmt Case) (b c : Bool) → sound_step p f (parts p f x) b c ≡ true → sound_list (is_left_by_break x || b) (is_loop x || c) (opening x) ≡ true
  opening_sound (is.Do e) b c h = refl
  opening_sound (is.If e these those) b c h = refl
  opening_sound (is.While e body) b c h = refl
  opening_sound (is.DoWhile body e) b c h = mapped_list true true body (both_true (is_condition (typed p f e)) (list_all (λ (g : SoundWhere). g true true) (map (is_sound_stmt p f) body)) h).1
  opening_sound (is.For first test again body) b c h = refl
  opening_sound (is.Switch e cases) b c h = refl
  opening_sound is.Break b c h = refl
  opening_sound is.Continue b c h = refl
  opening_sound (is.Return e) b c h = refl
  opening_sound is.Empty b c h = refl
  opening_sound (is.Block body) b c h = mapped_list b c body h

  pub statement_sound : (s : Stmt) (b c : Bool) → is_sound_stmt p f s b c ≡ true → sound_step p f (parts p f (out-Stmt s)) b c ≡ true
  statement_sound s b c h = ap (λ (g : SoundWhere). g b c) (sym (sound-opens p f s)) ∙ h

  -- wherever it stands, what it begins with is sound
  abbrev Begins : Stmt → Type 0
  Begins s = (n : ℕ) (rest : List Stmt) (around : List Level) → is_sound_in p f around (s ∷ rest) ≡ true → AreSound p f around → Stands (begun s n rest around)

  begins_by : (s : Stmt) (o : List Stmt) → opening (out-Stmt s) ≡ o → ((t : Stmt) (ts : List Stmt) → opening (out-Stmt s) ≡ t ∷ ts → Begins t) → Begins s
  begins_by s [] e h n rest around k l = subst Stands (sym (begun_stands s n rest around e)) (k, l)
  begins_by s (t ∷ ts) e h n rest around k l =
      let first = both_true (is_sound_stmt p f s (may_break around) (may_continue around)) (is_sound_in p f around rest) k in
      subst Stands (sym (begun_enters s t n rest ts around e))
      (h t ts e 0 ts (level (s ∷ rest) n (behind_body (out-Stmt s)) ∷ around)
      (ap (sound_list (is_left_by_break (out-Stmt s) || may_break around) (is_loop (out-Stmt s) || may_continue around)) (sym e)
      ∙ opening_sound (out-Stmt s) (may_break around) (may_continue around) (statement_sound s (may_break around) (may_continue around) first.0))
      (k, l))

  begins : (s : Stmt) → Begins s
  begins = by_opening Begins (λ s h. begins_by s (opening (out-Stmt s)) refl h)

  -- ---- lists that are done

  tail_sound : (around : List Level) (list : List Stmt) → is_sound_in p f around list ≡ true → is_sound_in p f around (behind_first list) ≡ true
  tail_sound around [] h = refl
  tail_sound around (s ∷ rest) h = (both_true (is_sound_stmt p f s (may_break around) (may_continue around)) (is_sound_in p f around rest) h).1

  either_way : (b : Bool) (these those : Control) → Stands these → Stands those → Stands (if b then these else those)
  either_way true these those h k = h
  either_way false these those h k = k

  pub close_sound : (list : List Stmt) (n : ℕ) (around : List Level) → is_sound_in p f around list ≡ true → AreSound p f around → Stands (close list n around)
  close_sound (s ∷ rest) n around h k = begins s n rest around h k
  close_sound [] n [] h k = (refl, tt)
  close_sound [] n (at ∷ around) h k =
      either_way (first_is is_loop at.rest) (at, around) (close (behind_first at.rest) (counted (at.position + 1)) around) k
      (close_sound (behind_first at.rest) (counted (at.position + 1)) around (tail_sound around at.rest k.0) k.1)

  pub behind_sound : (at : Level) (around : List Level) → AreSound p f (at ∷ around) → Stands (behind at around)
  behind_sound at around k = close_sound (behind_first at.rest) (counted (at.position + 1)) around (tail_sound around at.rest k.0) k.1

  broken_sound : (around : List Level) → AreSound p f around → Stands (broken around)
  broken_sound [] k = (refl, tt)
  broken_sound (at ∷ around) k = either_way (first_is is_left_by_break at.rest) (behind at around) (broken around) (behind_sound at around k) (broken_sound around k.1)

  continued_sound : (around : List Level) → AreSound p f around → Stands (continued around)
  continued_sound [] k = (refl, tt)
  continued_sound (at ∷ around) k = either_way (first_is is_loop at.rest) (at, around) (continued around) k (continued_sound around k.1)

  -- ---- the bodies of a switch

  case_body : Bool → Bool → Case → Bool
  case_body b c k = sound_list b c (out-Case k).body

  bodies_sound : (b c : Bool) (cases : List Case) → list_all (λ (k : Labelled). k.body b c) (map (labelled p f) cases) ≡ true → sound_list b c (bodies cases) ≡ true
  bodies_sound b c [] h = refl
  bodies_sound b c (k ∷ cases) h =
      let both = both_true ((labelled p f k).body b c) (list_all (λ (k : Labelled). k.body b c) (map (labelled p f) cases)) h in
      let first : sound_list b c k.body ≡ true = mapped_list b c k.body (ap (λ (l : Labelled). l.body b c) (sym (fold_out-Case SoundWhere Labelled (sound_step p f) sound_case k)) ∙ both.0) in
      list_all-append (λ s. is_sound_stmt p f s b c) k.body (bodies cases) ∙ and_true (sound_list b c k.body) (sound_list b c (bodies cases)) first (bodies_sound b c cases both.1)

  label_by : (has : List (Option ℤ) → Bool) (n : ℕ) (k : Case) (cases : List Case) (b c t : Bool) (at : ℕ × List Stmt) → sound_list b c (bodies (k ∷ cases)) ≡ true →
      (from_label has (n + length k.body) cases ≡ Some at → sound_list b c at.1 ≡ true) → (if t then Some (n, bodies (k ∷ cases)) else from_label has (n + length k.body) cases) ≡ Some at → sound_list b c at.1 ≡ true
  label_by has n k cases b c true at h next e = subst (λ (x : ℕ × List Stmt). sound_list b c x.1 ≡ true) (same_Some (n, bodies (k ∷ cases)) at e) h
  label_by has n k cases b c false at h next e = next e

  label_sound : (has : List (Option ℤ) → Bool) (n : ℕ) (cases : List Case) (b c : Bool) (at : ℕ × List Stmt) → list_all (λ (k : Labelled). k.body b c) (map (labelled p f) cases) ≡ true → from_label has n cases ≡ Some at → sound_list b c at.1 ≡ true
  label_sound has n [] b c at h e = absurd (cc)
  label_sound has n (k ∷ cases) b c at h e =
      let both = both_true ((labelled p f k).body b c) (list_all (λ (k : Labelled). k.body b c) (map (labelled p f) cases)) h in
      label_by has n k cases b c (has k.labels) at (bodies_sound b c (k ∷ cases) h) (λ i. label_sound has (n + length k.body) cases b c at both.1 i) e

  option_sound : (b c : Bool) (x y : Option (ℕ × List Stmt)) (at : ℕ × List Stmt) → ((at : ℕ × List Stmt) → x ≡ Some at → sound_list b c at.1 ≡ true) → ((at : ℕ × List Stmt) → y ≡ Some at → sound_list b c at.1 ≡ true) →
      option_or x y ≡ Some at → sound_list b c at.1 ≡ true
  option_sound b c None y at h k e = k at e
  option_sound b c (Some x) y at h k e = h at e

  -- ---- where a statement goes on

  module _ (a : Active) (s : Stmt) (rest : List Stmt) (here : a.here.rest ≡ s ∷ rest) (sound : AreSound p f (a.here ∷ a.around)) where
    abbrev within : List Level
    within = around_list a.here ∷ a.around

    within_sound : AreSound p f within
    within_sound = (sound.0, sound.1)

    -- a list inside the statement
    inside_sound : (x : is.Stmt-F Stmt Case) → out-Stmt s ≡ x → (list : List Stmt) → sound_list (is_left_by_break x || may_break a.around) (is_loop x || may_continue a.around) list ≡ true → is_sound_in p f within list ≡ true
    inside_sound x e list h =
        let breaks : first_is is_left_by_break a.here.rest ≡ is_left_by_break x = ap (first_is is_left_by_break) here ∙ ap is_left_by_break e in
        let loops : first_is is_loop a.here.rest ≡ is_loop x = ap (first_is is_loop) here ∙ ap is_loop e in
        ap (λ (b : Bool). sound_list (b || may_break a.around) (first_is is_loop a.here.rest || may_continue a.around) list) breaks
        ∙ ap (λ (c : Bool). sound_list (is_left_by_break x || may_break a.around) (c || may_continue a.around) list) loops ∙ h

    arm_sound : (b : Bool) (these those : List Stmt) → is_sound_in p f within these ≡ true → is_sound_in p f within those ≡ true → Stands (arm b these those within)
    arm_sound true these those h k = close_sound these 0 within h within_sound
    arm_sound false these those h k = close_sound those (counted (length these)) within k within_sound

    looped_sound : (b : Bool) (body : List Stmt) → is_sound_in p f within body ≡ true → Stands (looped b body a)
    looped_sound true body h = close_sound body 0 within h within_sound
    looped_sound false body h = behind_sound a.here a.around sound

    case_sound : (x : Option (ℕ × List Stmt)) → ((at : ℕ × List Stmt) → x ≡ Some at → is_sound_in p f within at.1 ≡ true) → Stands (in_case a x)
    case_sound None h = behind_sound a.here a.around sound
    case_sound (Some at) h = close_sound at.1 (counted at.0) within (h at refl) within_sound

    next_by : (x : is.Stmt-F Stmt Case) (v : Value) → out-Stmt s ≡ x → sound_step p f (parts p f x) (may_break a.around) (may_continue a.around) ≡ true → Stands (next_place x a v)
    next_by (is.Do e) v k h = behind_sound a.here a.around sound
    next_by (is.If e these those) v k h =
        let all = both_true (is_condition (typed p f e)) (list_all (λ (g : SoundWhere). g (may_break a.around) (may_continue a.around)) (map (is_sound_stmt p f) these) && list_all (λ (g : SoundWhere). g (may_break a.around) (may_continue a.around)) (map (is_sound_stmt p f) those)) h in
        let arms = both_true (list_all (λ (g : SoundWhere). g (may_break a.around) (may_continue a.around)) (map (is_sound_stmt p f) these)) (list_all (λ (g : SoundWhere). g (may_break a.around) (may_continue a.around)) (map (is_sound_stmt p f) those)) all.1 in
        arm_sound (is_true v) these those (inside_sound (is.If e these those) k these (mapped_list (may_break a.around) (may_continue a.around) these arms.0))
        (inside_sound (is.If e these those) k those (mapped_list (may_break a.around) (may_continue a.around) those arms.1))
    next_by (is.While e body) v k h =
        looped_sound (is_true v) body (inside_sound (is.While e body) k body (mapped_list true true body (both_true (is_condition (typed p f e)) (list_all (λ (g : SoundWhere). g true true) (map (is_sound_stmt p f) body)) h).1))
    next_by (is.DoWhile body e) v k h =
        looped_sound (is_true v) body (inside_sound (is.DoWhile body e) k body (mapped_list true true body (both_true (is_condition (typed p f e)) (list_all (λ (g : SoundWhere). g true true) (map (is_sound_stmt p f) body)) h).1))
    next_by (is.For first test again body) v k h =
        let all = both_true (is_typed p f first) (is_optional_condition p f test && (is_typed p f again && list_all (λ (g : SoundWhere). g true true) (map (is_sound_stmt p f) body))) h in
        let those = both_true (is_optional_condition p f test) (is_typed p f again && list_all (λ (g : SoundWhere). g true true) (map (is_sound_stmt p f) body)) all.1 in
        looped_sound (is_passed test v) body (inside_sound (is.For first test again body) k body
        (mapped_list true true body (both_true (is_typed p f again) (list_all (λ (g : SoundWhere). g true true) (map (is_sound_stmt p f) body)) those.1).1))
    next_by (is.Switch e cases) v k h =
        let all = both_true (labels_fit p.target (flat_map (λ (l : Labelled). l.labels) (map (labelled p f) cases)) (typed p f e))
        (are_apart (flat_map (λ (l : Labelled). l.labels) (map (labelled p f) cases)) && (list_all (λ (l : Labelled). has_label l.labels) (map (labelled p f) cases) && list_all (λ (l : Labelled). l.body true (may_continue a.around)) (map (labelled p f) cases))) h in
        let those = both_true (are_apart (flat_map (λ (l : Labelled). l.labels) (map (labelled p f) cases)))
        (list_all (λ (l : Labelled). has_label l.labels) (map (labelled p f) cases) && list_all (λ (l : Labelled). l.body true (may_continue a.around)) (map (labelled p f) cases)) all.1 in
        let last = both_true (list_all (λ (l : Labelled). has_label l.labels) (map (labelled p f) cases)) (list_all (λ (l : Labelled). l.body true (may_continue a.around)) (map (labelled p f) cases)) those.1 in
        case_sound (option_or (from_label (list_any (is_label (number_in v))) 0 cases) (from_label (list_any is_default) 0 cases))
        (λ at i. inside_sound (is.Switch e cases) k at.1 (option_sound true (may_continue a.around) (from_label (list_any (is_label (number_in v))) 0 cases) (from_label (list_any is_default) 0 cases) at
        (λ at j. label_sound (list_any (is_label (number_in v))) 0 cases true (may_continue a.around) at last.1 j) (λ at j. label_sound (list_any is_default) 0 cases true (may_continue a.around) at last.1 j) i))
    next_by is.Break v k h = broken_sound a.around sound.1
    next_by is.Continue v k h = continued_sound a.around sound.1
    next_by (is.Return e) v k h = behind_sound a.here a.around sound
    next_by is.Empty v k h = behind_sound a.here a.around sound
    next_by (is.Block body) v k h = behind_sound a.here a.around sound

    pub next_sound : (v : Value) → Stands (next_place (out-Stmt s) a v)
    next_sound v =
        let first = both_true (is_sound_stmt p f s (may_break a.around) (may_continue a.around)) (is_sound_in p f a.around rest) (ap (is_sound_in p f a.around) (sym here) ∙ sound.0) in
        next_by (out-Stmt s) v refl (statement_sound s (may_break a.around) (may_continue a.around) first.0)

  -- a function begins with its body
  pub body_sound : is_sound_body p f f.body ≡ true → Stands (close f.body 0 [])
  body_sound h = close_sound f.body 0 [] (mapped_list false false f.body h) tt

  pub may_break_there : (a : Active) (s : Stmt) (rest : List Stmt) → a.here.rest ≡ s ∷ rest → AreSound p f (a.here ∷ a.around) → out-Stmt s ≡ is.Break → may_break a.around ≡ true
  may_break_there a s rest here sound e =
      let first = both_true (is_sound_stmt p f s (may_break a.around) (may_continue a.around)) (is_sound_in p f a.around rest) (ap (is_sound_in p f a.around) (sym here) ∙ sound.0) in
      ap (λ x. sound_step p f (parts p f x) (may_break a.around) (may_continue a.around)) (sym e) ∙ statement_sound s (may_break a.around) (may_continue a.around) first.0

  pub may_continue_there : (a : Active) (s : Stmt) (rest : List Stmt) → a.here.rest ≡ s ∷ rest → AreSound p f (a.here ∷ a.around) → out-Stmt s ≡ is.Continue → may_continue a.around ≡ true
  may_continue_there a s rest here sound e =
      let first = both_true (is_sound_stmt p f s (may_break a.around) (may_continue a.around)) (is_sound_in p f a.around rest) (ap (is_sound_in p f a.around) (sym here) ∙ sound.0) in
      ap (λ x. sound_step p f (parts p f x) (may_break a.around) (may_continue a.around)) (sym e) ∙ statement_sound s (may_break a.around) (may_continue a.around) first.0
