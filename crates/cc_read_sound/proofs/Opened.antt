-- What a statement's soundness is, by its form; and that of lists of statements.
use Rattle.std.proofs.Common.{◌≡◌, Bool, true, false, ◌&&◌, List, [], ◌∷◌, ◌++◌, map, Option, refl, ap, sym, ◌∙◌}
use Rattle.std.specs.Prelude.{is_some}
use Rattle.std.specs.List.{list_all, flat_map}
use Rattle.std.proofs.lemmas.List.{map-append}
use Rattle.std.proofs.lemmas.List.Folds.{list_all-append}
use Rattle.cc_program.specs.CcNum.declared.target.Target.{Target}
use Rattle.cc_program.specs.declared.expr.Expr.{Expr}
use Rattle.cc_program.specs.declared.stmt.Case.{Case, out-Case, fold-Case, fold_out-Case}
use Rattle.cc_program.specs.declared.stmt.Stmt.{Stmt, Do, If, While, DoWhile, For, Switch, Break, Continue, Return, Empty, Block, out-Stmt, map-Stmt, fold-roll-Stmt, fold_out-Stmt}
use Rattle.cc_program.specs.declared.stmt.Stmt.TheVariants.{rolls-Do, rolls-If, rolls-While, rolls-DoWhile, rolls-For, rolls-Switch, rolls-Break, rolls-Continue, rolls-Return, rolls-Empty, rolls-Block}
use Rattle.cc_program.specs.declared.stmt.Stmt.TheOpen as is
use Rattle.cc_program.specs.declared.types.CType.{CType}
use Rattle.cc_type.proofs.CcSyntax.SameLemmas.{and_true}
use Rattle.cc_type.specs.CcSyntax.Statements.{SoundWhere, Labelled, sound_case, labels_of, labels_fit, are_apart, has_label, is_condition, is_sound_stmt, sound_step, is_typed, is_optional_condition, returns}
use Rattle.cc_type.specs.CcSyntax.Values.{ValueType}
use Rattle.cc_type.specs.CcTypedStatements.Conditions.{body_of, inside_block}
use Rattle.cc_read_sound.specs.Sound.{sound_list}

module _ (target : Target) (typed : Expr → Option ValueType) (result : CType) where
  abbrev of : Stmt → SoundWhere
  of s = is_sound_stmt target typed result s

  abbrev list : Bool → Bool → List Stmt → Bool
  list b c ss = sound_list target typed result b c ss

  abbrev rolled : is.Stmt-F Stmt Case → SoundWhere
  rolled x = sound_step target typed result (map-Stmt Stmt Case SoundWhere Labelled of (fold-Case SoundWhere Labelled (sound_step target typed result) sound_case) x)

  do-opens : (e : Expr) (b c : Bool) → of (Do e) b c ≡ is_some (typed e)
  do-opens e b c = ap (λ (g : SoundWhere). g b c) (ap of (sym (rolls-Do e)) ∙ fold-roll-Stmt SoundWhere Labelled (sound_step target typed result) sound_case (is.Do e))

  if-opens : (e : Expr) (x y : List Stmt) (b c : Bool) → of (If e x y) b c ≡ (is_condition (typed e) && (list b c x && list b c y))
  if-opens e x y b c = ap (λ (g : SoundWhere). g b c) (ap of (sym (rolls-If e x y)) ∙ fold-roll-Stmt SoundWhere Labelled (sound_step target typed result) sound_case (is.If e x y))

  while-opens : (e : Expr) (x : List Stmt) (b c : Bool) → of (While e x) b c ≡ (is_condition (typed e) && list true true x)
  while-opens e x b c = ap (λ (g : SoundWhere). g b c) (ap of (sym (rolls-While e x)) ∙ fold-roll-Stmt SoundWhere Labelled (sound_step target typed result) sound_case (is.While e x))

  do_while-opens : (x : List Stmt) (e : Expr) (b c : Bool) → of (DoWhile x e) b c ≡ (is_condition (typed e) && list true true x)
  do_while-opens x e b c = ap (λ (g : SoundWhere). g b c) (ap of (sym (rolls-DoWhile x e)) ∙ fold-roll-Stmt SoundWhere Labelled (sound_step target typed result) sound_case (is.DoWhile x e))

  for-opens : (first test step : Option Expr) (x : List Stmt) (b c : Bool) →
      of (For first test step x) b c ≡ (is_typed target typed result first && (is_optional_condition target typed result test && (is_typed target typed result step && list true true x)))
  for-opens first test step x b c =
      ap (λ (g : SoundWhere). g b c) (ap of (sym (rolls-For first test step x)) ∙ fold-roll-Stmt SoundWhere Labelled (sound_step target typed result) sound_case (is.For first test step x))

  break-opens : (b c : Bool) → of Break b c ≡ b
  break-opens b c = ap (λ (g : SoundWhere). g b c) (ap of (sym rolls-Break) ∙ fold-roll-Stmt SoundWhere Labelled (sound_step target typed result) sound_case is.Break)

  continue-opens : (b c : Bool) → of Continue b c ≡ c
  continue-opens b c = ap (λ (g : SoundWhere). g b c) (ap of (sym rolls-Continue) ∙ fold-roll-Stmt SoundWhere Labelled (sound_step target typed result) sound_case is.Continue)

  return-opens : (e : Option Expr) (b c : Bool) → of (Return e) b c ≡ returns target typed result e
  return-opens e b c = ap (λ (g : SoundWhere). g b c) (ap of (sym (rolls-Return e)) ∙ fold-roll-Stmt SoundWhere Labelled (sound_step target typed result) sound_case (is.Return e))

  empty-opens : (b c : Bool) → of Empty b c ≡ true
  empty-opens b c = ap (λ (g : SoundWhere). g b c) (ap of (sym rolls-Empty) ∙ fold-roll-Stmt SoundWhere Labelled (sound_step target typed result) sound_case is.Empty)

  block-opens : (x : List Stmt) (b c : Bool) → of (Block x) b c ≡ list b c x
  block-opens x b c = ap (λ (g : SoundWhere). g b c) (ap of (sym (rolls-Block x)) ∙ fold-roll-Stmt SoundWhere Labelled (sound_step target typed result) sound_case (is.Block x))

  -- ---- the cases of a `switch`

  abbrev tested : Case → Labelled
  tested c = fold-Case SoundWhere Labelled (sound_step target typed result) sound_case c

  case-labels : (c : Case) → (tested c).labels ≡ (out-Case c).labels
  case-labels c = ap (λ (l : Labelled). l.labels) (fold_out-Case SoundWhere Labelled (sound_step target typed result) sound_case c)

  case-body : (c : Case) (continues : Bool) → (tested c).body true continues ≡ list true continues (out-Case c).body
  case-body c continues = ap (λ (l : Labelled). l.body true continues) (fold_out-Case SoundWhere Labelled (sound_step target typed result) sound_case c)

  all-labels : (cases : List Case) → flat_map (λ c. c.labels) (map tested cases) ≡ labels_of cases
  all-labels [] = refl
  all-labels (c ∷ cases) = ap (λ l. l ++ flat_map (λ c. c.labels) (map tested cases)) (case-labels c) ∙ ap (λ l. (out-Case c).labels ++ l) (all-labels cases)

  all-have : (cases : List Case) → list_all (λ c. has_label c.labels) (map tested cases) ≡ list_all (λ c. has_label (out-Case c).labels) cases
  all-have [] = refl
  all-have (c ∷ cases) = ap (λ l. has_label l && list_all (λ c. has_label c.labels) (map tested cases)) (case-labels c) ∙ ap (λ b. has_label (out-Case c).labels && b) (all-have cases)

  all-bodies : (cases : List Case) (continues : Bool) → list_all (λ c. c.body true continues) (map tested cases) ≡ list_all (λ c. list true continues (out-Case c).body) cases
  all-bodies [] continues = refl
  all-bodies (c ∷ cases) continues = ap (λ b. b && list_all (λ c. c.body true continues) (map tested cases)) (case-body c continues) ∙ ap (λ b. list true continues (out-Case c).body && b) (all-bodies cases continues)

  switch-rolls : (e : Expr) (cases : List Case) (b c : Bool) → of (Switch e cases) b c ≡ sound_step target typed result (is.Switch e (map tested cases)) b c
  switch-rolls e cases b c = ap (λ (g : SoundWhere). g b c) (ap of (sym (rolls-Switch e cases)) ∙ fold-roll-Stmt SoundWhere Labelled (sound_step target typed result) sound_case (is.Switch e cases))

  switch-opens : (e : Expr) (cases : List Case) (b c : Bool) →
      of (Switch e cases) b c ≡ (labels_fit target (labels_of cases) (typed e) && (are_apart (labels_of cases) && (list_all (λ c. has_label (out-Case c).labels) cases && list_all (λ d. list true c (out-Case d).body) cases)))
  switch-opens e cases b c = switch-rolls e cases b c ∙ rw (all-labels cases, all-have cases, all-bodies cases c) refl

  -- ---- statements one behind another

  pub one_sound : (s : Stmt) (b c : Bool) → of s b c ≡ true → list b c (s ∷ []) ≡ true
  one_sound s b c h = and_true (of s b c) true h refl

  pub append_sound : (b c : Bool) (ss ts : List Stmt) → list b c ss ≡ true → list b c ts ≡ true → list b c (ss ++ ts) ≡ true
  append_sound b c ss ts h k =
      ap (list_all (λ (g : SoundWhere). g b c)) (map-append of ss ts) ∙ list_all-append (λ (g : SoundWhere). g b c) (map of ss) (map of ts)
      ∙ and_true (list b c ss) (list b c ts) h k

  -- ---- by the form of each

  pub do_sound : (e : Expr) (b c : Bool) → is_some (typed e) ≡ true → list b c (Do e ∷ []) ≡ true
  do_sound e b c h = one_sound (Do e) b c (do-opens e b c ∙ h)

  pub all_do_sound : (es : List Expr) (b c : Bool) → list_all (λ e. is_some (typed e)) es ≡ list b c (map Do es)
  all_do_sound [] b c = refl
  all_do_sound (e ∷ es) b c = ap (λ q. q && list_all (λ e. is_some (typed e)) es) (sym (do-opens e b c)) ∙ ap (λ q. of (Do e) b c && q) (all_do_sound es b c)

  pub if_sound : (e : Expr) (x y : List Stmt) (b c : Bool) → is_condition (typed e) ≡ true → list b c x ≡ true → list b c y ≡ true → list b c (If e x y ∷ []) ≡ true
  if_sound e x y b c h k l =
      one_sound (If e x y) b c (if-opens e x y b c ∙ and_true (is_condition (typed e)) (list b c x && list b c y) h (and_true (list b c x) (list b c y) k l))

  pub while_sound : (e : Expr) (x : List Stmt) (b c : Bool) → is_condition (typed e) ≡ true → list true true x ≡ true → list b c (While e x ∷ []) ≡ true
  while_sound e x b c h k = one_sound (While e x) b c (while-opens e x b c ∙ and_true (is_condition (typed e)) (list true true x) h k)

  pub do_while_sound : (x : List Stmt) (e : Expr) (b c : Bool) → is_condition (typed e) ≡ true → list true true x ≡ true → list b c (DoWhile x e ∷ []) ≡ true
  do_while_sound x e b c h k = one_sound (DoWhile x e) b c (do_while-opens x e b c ∙ and_true (is_condition (typed e)) (list true true x) h k)

  pub for_sound : (first test step : Option Expr) (x : List Stmt) (b c : Bool) → is_typed target typed result first ≡ true → is_optional_condition target typed result test ≡ true →
      is_typed target typed result step ≡ true → list true true x ≡ true → list b c (For first test step x ∷ []) ≡ true
  for_sound first test step x b c h k l m =
      one_sound (For first test step x) b c (for-opens first test step x b c
      ∙ and_true (is_typed target typed result first) (is_optional_condition target typed result test && (is_typed target typed result step && list true true x)) h
      (and_true (is_optional_condition target typed result test) (is_typed target typed result step && list true true x) k (and_true (is_typed target typed result step) (list true true x) l m)))

  pub break_sound : (b c : Bool) → b ≡ true → list b c (Break ∷ []) ≡ true
  break_sound b c h = one_sound Break b c (break-opens b c ∙ h)

  pub continue_sound : (b c : Bool) → c ≡ true → list b c (Continue ∷ []) ≡ true
  continue_sound b c h = one_sound Continue b c (continue-opens b c ∙ h)

  pub return_sound : (e : Option Expr) (b c : Bool) → returns target typed result e ≡ true → list b c (Return e ∷ []) ≡ true
  return_sound e b c h = one_sound (Return e) b c (return-opens e b c ∙ h)

  pub empty_sound : (b c : Bool) → list b c (Empty ∷ []) ≡ true
  empty_sound b c = one_sound Empty b c (empty-opens b c)

  pub block_sound : (x : List Stmt) (b c : Bool) → list b c x ≡ true → list b c (Block x ∷ []) ≡ true
  block_sound x b c h = one_sound (Block x) b c (block-opens x b c ∙ h)

  pub switch_sound : (e : Expr) (cases : List Case) (b c : Bool) → labels_fit target (labels_of cases) (typed e) ≡ true → are_apart (labels_of cases) ≡ true →
      list_all (λ c. has_label (out-Case c).labels) cases ≡ true → list_all (λ d. list true c (out-Case d).body) cases ≡ true → list b c (Switch e cases ∷ []) ≡ true
  switch_sound e cases b c h k l m =
      one_sound (Switch e cases) b c (switch-opens e cases b c
      ∙ and_true (labels_fit target (labels_of cases) (typed e)) (are_apart (labels_of cases) && (list_all (λ c. has_label (out-Case c).labels) cases && list_all (λ d. list true c (out-Case d).body) cases)) h
      (and_true (are_apart (labels_of cases)) (list_all (λ c. has_label (out-Case c).labels) cases && list_all (λ d. list true c (out-Case d).body) cases) k
      (and_true (list_all (λ c. has_label (out-Case c).labels) cases) (list_all (λ d. list true c (out-Case d).body) cases) l m)))

  -- ---- a body that is a block is the list of its statements

  inside_sound : (s : Stmt) (x : is.Stmt-F Stmt Case) (b c : Bool) → out-Stmt s ≡ x → of s b c ≡ true → list b c (inside_block s x) ≡ true
  inside_sound s (is.Block ss) b c e h =
      sym (ap (λ (g : SoundWhere). g b c) (fold_out-Stmt SoundWhere Labelled (sound_step target typed result) sound_case s ∙ ap rolled e)) ∙ h
  inside_sound s (is.Do d) b c e h = one_sound s b c h
  inside_sound s (is.If d x y) b c e h = one_sound s b c h
  inside_sound s (is.While d x) b c e h = one_sound s b c h
  inside_sound s (is.DoWhile x d) b c e h = one_sound s b c h
  inside_sound s (is.For f t d x) b c e h = one_sound s b c h
  inside_sound s (is.Switch d x) b c e h = one_sound s b c h
  inside_sound s is.Break b c e h = one_sound s b c h
  inside_sound s is.Continue b c e h = one_sound s b c h
  inside_sound s (is.Return d) b c e h = one_sound s b c h
  inside_sound s is.Empty b c e h = one_sound s b c h

  first_true : (a b : Bool) → a && b ≡ true → a ≡ true
  first_true true b h = refl
  first_true false b h = absurd (cc)

  pub body_sound : (ss : List Stmt) (b c : Bool) → list b c ss ≡ true → list b c (body_of ss) ≡ true
  body_sound [] b c h = h
  body_sound (s ∷ []) b c h = inside_sound s (out-Stmt s) b c refl (first_true (of s b c) true h)
  body_sound (s ∷ t ∷ ss) b c h = h
