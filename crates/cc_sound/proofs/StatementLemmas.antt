-- What the statements of a `switch` are, as the test of a statement has them.
use Rattle.std.proofs.Common.{◌≡◌, Bool, true, false, ◌&&◌, List, [], ◌∷◌, ◌++◌, map, refl, ap, sym, ◌∙◌}
use Rattle.std.specs.List.{list_all, flat_map}
use Rattle.cc_program.specs.declared.func.Func.{Func}
use Rattle.cc_program.specs.declared.program.Program.{Program}
use Rattle.cc_program.specs.declared.stmt.Case.{Case, out-Case, fold-Case, fold_out-Case}
use Rattle.cc_program.specs.declared.expr.Expr.{Expr}
use Rattle.cc_program.specs.declared.stmt.Stmt.{Stmt, Switch, fold-Stmt, fold-roll-Stmt}
use Rattle.cc_program.specs.declared.stmt.Stmt.TheVariants.{rolls-Switch}
use Rattle.cc_program.specs.declared.stmt.Stmt.TheOpen as is
use Rattle.cc_typed.specs.CcSyntax.Statements.{SoundWhere, Labelled, sound_case, labels_of, has_label, labels_fit, are_apart}
use Rattle.cc_typed.specs.CcSyntax.Programs.{sound_step, is_sound_stmt, typed}
use Rattle.cc_sound.specs.Cases.{switches, is_sound_case}

module _ (p : Program) (f : Func) where
  abbrev tested : Case → Labelled
  tested c = fold-Case SoundWhere Labelled (sound_step p f) sound_case c

  case-labels : (c : Case) → (tested c).labels ≡ (out-Case c).labels
  case-labels c = ap (λ (l : Labelled). l.labels) (fold_out-Case SoundWhere Labelled (sound_step p f) sound_case c)

  case-body : (c : Case) (continues : Bool) → (tested c).body true continues ≡ is_sound_case p f continues c
  case-body c continues = ap (λ (l : Labelled). l.body true continues) (fold_out-Case SoundWhere Labelled (sound_step p f) sound_case c)

  all-labels : (cases : List Case) → flat_map (λ c. c.labels) (map tested cases) ≡ labels_of cases
  all-labels [] = refl
  all-labels (c ∷ cases) = ap (λ l. l ++ flat_map (λ c. c.labels) (map tested cases)) (case-labels c) ∙ ap (λ l. (out-Case c).labels ++ l) (all-labels cases)

  all-have : (cases : List Case) → list_all (λ c. has_label c.labels) (map tested cases) ≡ list_all (λ c. has_label (out-Case c).labels) cases
  all-have [] = refl
  all-have (c ∷ cases) = ap (λ l. has_label l && list_all (λ c. has_label c.labels) (map tested cases)) (case-labels c) ∙ ap (λ b. has_label (out-Case c).labels && b) (all-have cases)

  all-bodies : (cases : List Case) (continues : Bool) → list_all (λ c. c.body true continues) (map tested cases) ≡ list_all (is_sound_case p f continues) cases
  all-bodies [] continues = refl
  all-bodies (c ∷ cases) continues = ap (λ b. b && list_all (λ c. c.body true continues) (map tested cases)) (case-body c continues) ∙ ap (λ b. is_sound_case p f continues c && b) (all-bodies cases continues)

  switch-rolls : (e : Expr) (cases : List Case) (breaks continues : Bool) → is_sound_stmt p f (Switch e cases) breaks continues ≡ sound_step p f (is.Switch e (map tested cases)) breaks continues
  switch-rolls e cases breaks continues =
      ap (λ (t : SoundWhere). t breaks continues) (ap (is_sound_stmt p f) (sym (rolls-Switch e cases)) ∙ fold-roll-Stmt SoundWhere Labelled (sound_step p f) sound_case (is.Switch e cases))

  split : (a b c d : Bool) → a && (b && (c && d)) ≡ ((a && (b && c)) && d)
  split true true c d = refl
  split true false c d = refl
  split false b c d = refl

  switch-opens : (s : Stmt) (e : Expr) (cases : List Case) (breaks continues : Bool) → s ≡ Switch e cases → is_sound_stmt p f s breaks continues ≡ (switches p f e cases && list_all (is_sound_case p f continues) cases)
  switch-opens s e cases breaks continues h =
      ap (λ (s : Stmt). is_sound_stmt p f s breaks continues) h ∙ switch-rolls e cases breaks continues
      ∙ rw (all-labels cases, all-have cases, all-bodies cases continues) (split (labels_fit p.target (labels_of cases) (typed p f e)) (are_apart (labels_of cases)) (list_all (λ c. has_label (out-Case c).labels) cases) (list_all (is_sound_case p f continues) cases))

  pub switch_true : (s : Stmt) (e : Expr) (cases : List Case) (breaks continues r : Bool) → s ≡ Switch e cases → switches p f e cases ≡ true → r ≡ list_all (is_sound_case p f continues) cases → r ≡ is_sound_stmt p f s breaks continues
  switch_true s e cases breaks continues r is h k = k ∙ sym (switch-opens s e cases breaks continues is ∙ ap (λ b. b && list_all (is_sound_case p f continues) cases) h)

  pub switch_false : (s : Stmt) (e : Expr) (cases : List Case) (breaks continues r : Bool) → s ≡ Switch e cases → switches p f e cases ≡ false → r ≡ false → r ≡ is_sound_stmt p f s breaks continues
  switch_false s e cases breaks continues r is h k = k ∙ sym (switch-opens s e cases breaks continues is ∙ ap (λ b. b && list_all (is_sound_case p f continues) cases) h)
