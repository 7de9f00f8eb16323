-- The law of the lines of a function's body, by induction over them.
use Rattle.std.proofs.Common.{◌≡◌, ◌∙◌, ℕ, ℤ, Bool, true, false, List, [], ◌∷◌, ◌++◌, map, Option, Some, None, option_map, refl, ap, sym, subst, if◌then◌else◌}
use Rattle.cc_first_faults.proofs.Induction.{plain}
use Rattle.cc_first_faults.proofs.Lawful.{own-whole, same-state}
use Rattle.cc_program.specs.CcNum.declared.int_type.IntType.{IntType}
use Rattle.cc_program.specs.CcNum.declared.target.Target.{Target}
use Rattle.cc_type.specs.CcOperands.Verdicts.{Judged}
use Rattle.cc_program.proofs.Each.{Each, each_of}
use Rattle.cc_program.specs.declared.program.Roles.{Roles}
use Rattle.cc_program.specs.declared.stmt.Stmt.{Stmt}
use Rattle.cc_program.specs.declared.types.CType.{CType}
use Rattle.cc_type.specs.CcScopes.State.{State, Name, empty, entered}
use Rattle.cc_type.specs.CcScopes.Verdicts.{maybe_found}
use Rattle.cc_tree.specs.declared.at.At.{At}
use Rattle.cc_tree.specs.declared.tree.Tree.{Tree}
use Rattle.cc_tree.specs.declared.unit.First.{First as FirstPart}
use Rattle.cc_tree.specs.declared.unit.Line.{Line, ind-Line, out-Line, roll-Line, out-roll-Line, map-Line, fold_out-Line}
use Rattle.cc_tree.specs.declared.unit.Line.TheOpen as one_line
use Rattle.cc_type.specs.CcTypedBodies.Lines.{misplaced, label_found, misplaced_case, case_found, if_found, while_found, do_found, switch_found, for_found, inside, line_by, switched_by, item_by, line_step, line_of, line_here}
use Rattle.cc_type.specs.CcTypedBodies.Meanings.{LineMeaning, scoped, line_found, lines_found, block_found, body_inside, body_found, maybe_body, item_found, items_found, cases_inside, not_switched, switch_body, counts, unlabelled}
use Rattle.cc_type.specs.CcTypedBodies.Parts.{value_here, effect_found, expression_found, first_found}
use Rattle.cc_type.specs.CcTypedStatements.Jumps.{in_loop, in_switch, break_of, continue_of}
use Rattle.cc_type.specs.CcTypedStatements.Labels.{no_case, case_label, default_label, cases_behind, label_done}
use Rattle.cc_type.specs.CcTypedStatements.Statements.{if_of, while_of, do_of, for_of}
use Rattle.cc_type.specs.CcTypedStatements.Switch.{switch_type, switch_of}
use Rattle.cc_type.specs.CcTypedStatements.declared.cases.Cases.{Cases}
use Rattle.cc_type.specs.CcTypedStatements.declared.jumps.Jumps.{Jumps}
use Rattle.cc_unit_faults.specs.Constructs.{Statement, SwitchBody, Labelled}
use Rattle.cc_unit_faults.specs.Parts.{value_if_any, effect_if_any, first_parts, body_part, else_part, line_parts, inside_parts, statement_parts, switch_parts, labelled_parts}
use Rattle.cc_unit_faults.proofs.Laws.{First, Law, Told, first, single, followed, last, turns}
use Rattle.cc_unit_faults.proofs.Statements.{value-then, value-last, maybe-value-told, maybe-effect-told, expression-told, return-told, declared-told, first-told, scoped-told}

module _ (target : Target) (roles : Roles) (defined : List Name) (result : CType) where
  abbrev line_at : ℕ → Line → At Line
  line_at at l = record { at = at; node = l }

  abbrev pub OfLine : Line → Type 0
  OfLine l =
      ((at : ℕ) (j : Jumps) (s : State) → Law target roles defined (Statement result j (line_at at l)) s)
      × ((at : ℕ) (j : Jumps) (t : IntType) (s : State) → Law target roles defined (SwitchBody result j t (line_at at l)) s)
      × ((at : ℕ) (j : Jumps) (t : IntType) (cases : Cases) (s : State) → Law target roles defined (Labelled result j t cases (line_at at l)) s)

  abbrev SomeLine : Type 0
  SomeLine = (l : Line) × OfLine l

  abbrev means : At SomeLine → At LineMeaning
  means l = line_here target roles defined result (plain l)

  -- ---- statements in statements

  statement-first : (j : Jumps) (l : At SomeLine) (s : State) → First target roles defined (Statement result j (plain l)) s
  statement-first j l s = first target roles defined (Statement result j (plain l)) s (l.node.1.0 l.at j s)

  statement-told : (at : ℕ) (j : Jumps) (l : At SomeLine) (s : State) → Told target roles defined at ((Statement result j (plain l), s) ∷ []) ((line_of target roles defined result l.node.0).line j l.at s)
  statement-told at j l s = single target roles defined at (Statement result j (plain l)) s ((line_of target roles defined result l.node.0).line j l.at s) refl (statement-first j l s)

  inside-body-told : (at : ℕ) (j : Jumps) (l : At SomeLine) (s : State) → Told target roles defined at ((Statement result j (plain l), s) ∷ []) (body_inside j (means l) s)
  unfolding body_inside
  inside-body-told at j l s = last target roles defined at ((Statement result j (plain l), s) ∷ []) ((line_of target roles defined result l.node.0).line j l.at s) _ (statement-told at j l s) (λ ss t. tt)

  body-told : (at : ℕ) (j : Jumps) (l : At SomeLine) (s : State) → Told target roles defined at (body_part target roles defined result j (plain l) s ∷ []) (body_found j (means l) s)
  body-told at j l s = scoped-told target roles defined at ((Statement result j (plain l), entered empty s) ∷ []) (body_inside j (means l)) s (inside-body-told at j l (entered empty s))

  else-told : (at : ℕ) (j : Jumps) (o : Option (At SomeLine)) (s : State) →
      Told target roles defined at (else_part target roles defined result j (option_map plain o) s) (maybe_body j (option_map (line_here target roles defined result) (option_map plain o)) s)
  unfolding maybe_body
  else-told at j None s = tt
  else-told at j (Some l) s = body-told at j l s

  abbrev pub StandsFirst : Jumps → At Line → Type 0
  StandsFirst j l = (before : List Stmt) (s : State) → First target roles defined (Statement result j l) s

  pub lines-told : (at : ℕ) (j : Jumps) (ls : List (At Line)) → Each (StandsFirst j) ls → (s : State) →
      Told target roles defined at (line_parts target roles defined result j ls s) (lines_found j (map (line_here target roles defined result) ls) s)
  unfolding lines_found
  lines-told at j ls h s =
      turns target roles defined at (line_here target roles defined result) (line_found j) (λ l before. Statement result j l)
      (λ l before s. same-state ((line_of target roles defined result l.node).line j l.at s) (λ ss. before ++ ss)) ls h [] s

  each-line : (j : Jumps) (ls : List (At SomeLine)) → Each (StandsFirst j) (map plain ls)
  each-line j [] = tt
  each-line j (l ∷ ls) = ((λ before s. statement-first j l s), each-line j ls)

  block-told : (at : ℕ) (j : Jumps) (ls : List (At SomeLine)) (s : State) →
      Told target roles defined at (line_parts target roles defined result j (map plain ls) s) (block_found j (map (line_here target roles defined result) (map plain ls)) s)
  unfolding block_found
  block-told at j ls s =
      last target roles defined at (line_parts target roles defined result j (map plain ls) s) (lines_found j (map (line_here target roles defined result) (map plain ls)) s) _
      (lines-told at j (map plain ls) (each-line j ls) s) (λ ss t. tt)

  -- ---- labels (6.8.1, 6.8.4.2)

  misplaced-told : (at : ℕ) (a : At SomeLine) (j : Jumps) (s : State) → Told target roles defined at ((Statement result j (plain a), s) ∷ []) (misplaced (means a) j at s)
  unfolding misplaced
  misplaced-told at a j s =
      last target roles defined at ((Statement result j (plain a), s) ∷ []) ((line_of target roles defined result a.node.0).line j a.at s) _ (statement-told at j a s) (λ ss t. refl)

  misplaced-case-told : (at : ℕ) (e : At Tree) (a : At SomeLine) (j : Jumps) (s : State) →
      Told target roles defined at (inside_parts target roles defined result j (one_line.Case e (plain a)) s) (misplaced_case target roles e (means a) j at s)
  unfolding misplaced_case
  misplaced-case-told at e a j s = value-then target roles defined at e s _ _ (λ x s. misplaced-told at a j s)

  label-told : (at : ℕ) (l : Judged (Option ℤ)) (a : At SomeLine) (j : Jumps) (t : IntType) (cases : Cases) (s : State) →
      Told target roles defined at ((Labelled result j t (cases_behind l cases) (plain a), s) ∷ []) (label_found l (means a) j t cases at s)
  unfolding label_found
  label-told at l a j t cases s =
      last target roles defined at ((Labelled result j t (cases_behind l cases) (plain a), s) ∷ []) ((line_of target roles defined result a.node.0).item j t (cases_behind l cases) a.at s) _
      (single target roles defined at (Labelled result j t (cases_behind l cases) (plain a)) s ((line_of target roles defined result a.node.0).item j t (cases_behind l cases) a.at s) refl
      (first target roles defined (Labelled result j t (cases_behind l cases) (plain a)) s (a.node.1.2 a.at j t (cases_behind l cases) s)))
      (λ cases t. own-whole at t (label_done l cases))

  case-told : (at : ℕ) (e : At Tree) (a : At SomeLine) (j : Jumps) (t : IntType) (cases : Cases) (l : At Line) (s : State) →
      Told target roles defined at (labelled_parts target roles defined result j t cases (one_line.Case e (plain a)) l s) (case_found target roles e (means a) j t cases at s)
  unfolding case_found
  case-told at e a j t cases l s = value-then target roles defined at e s _ _ (λ x s. label-told at (case_label target t x cases) a j t cases s)

  -- ---- choices and loops (6.8.4, 6.8.5)

  if-told : (at : ℕ) (e : At Tree) (a : At SomeLine) (b : Option (At SomeLine)) (j : Jumps) (s : State) →
      Told target roles defined at (inside_parts target roles defined result j (one_line.If e (plain a) (option_map plain b)) s)
      (if_found target roles e (means a) (option_map (line_here target roles defined result) (option_map plain b)) j at s)
  unfolding if_found
  if-told at e a b j s =
      value-then target roles defined at e s _ _ (λ x s.
      followed target roles defined at (body_part target roles defined result j (plain a) s ∷ []) (body_found j (means a) s) _ _ (body-told at j a s) (λ these s.
      last target roles defined at (else_part target roles defined result j (option_map plain b) s) (maybe_body j (option_map (line_here target roles defined result) (option_map plain b)) s) _ (else-told at j b s) (λ those s. own-whole at s (if_of x these those))))

  while-told : (at : ℕ) (e : At Tree) (a : At SomeLine) (j : Jumps) (s : State) →
      Told target roles defined at (inside_parts target roles defined result j (one_line.While e (plain a)) s) (while_found target roles e (means a) j at s)
  unfolding while_found
  while-told at e a j s =
      value-then target roles defined at e s _ _ (λ x s.
      last target roles defined at (body_part target roles defined result (in_loop j) (plain a) s ∷ []) (body_found (in_loop j) (means a) s) _ (body-told at (in_loop j) a s) (λ body s. own-whole at s (while_of x body)))

  do-told : (at : ℕ) (a : At SomeLine) (e : At Tree) (j : Jumps) (s : State) →
      Told target roles defined at (inside_parts target roles defined result j (one_line.DoWhile (plain a) e) s) (do_found target roles (means a) e j at s)
  unfolding do_found
  do-told at a e j s =
      followed target roles defined at (body_part target roles defined result (in_loop j) (plain a) s ∷ []) (body_found (in_loop j) (means a) s) _ _ (body-told at (in_loop j) a s)
      (λ body s. value-last target roles defined at e s _ (λ x s. own-whole at s (do_of body x)))

  for-told : (at : ℕ) (f : FirstPart) (test step : Option (At Tree)) (a : At SomeLine) (j : Jumps) (s : State) →
      Told target roles defined at (inside_parts target roles defined result j (one_line.For f test step (plain a)) s) (for_found target roles defined f test step (means a) j at s)
  unfolding for_found
  for-told at f test step a j s =
      followed target roles defined at (first_parts f s) (first_found target roles defined f s) _ _ (first-told target roles defined at f s) (λ x s.
      followed target roles defined at (value_if_any test s) (maybe_found (value_here target roles) test s) _ _ (maybe-value-told target roles defined at test s) (λ y s.
      followed target roles defined at (effect_if_any step s) (maybe_found (effect_found target roles) step s) _ _ (maybe-effect-told target roles defined at step s) (λ z s.
      last target roles defined at (body_part target roles defined result (in_loop j) (plain a) s ∷ []) (body_found (in_loop j) (means a) s) _ (body-told at (in_loop j) a s) (λ body s. own-whole at s (for_of x y z body)))))

  switch-body-told : (at : ℕ) (j : Jumps) (t : IntType) (l : At SomeLine) (s : State) →
      Told target roles defined at ((SwitchBody result j t (plain l), entered empty s) ∷ []) (switch_body j t (means l) s)
  switch-body-told at j t l s =
      scoped-told target roles defined at ((SwitchBody result j t (plain l), entered empty s) ∷ []) ((line_of target roles defined result l.node.0).switched j t l.at) s
      (single target roles defined at (SwitchBody result j t (plain l)) (entered empty s) ((line_of target roles defined result l.node.0).switched j t l.at (entered empty s)) refl
      (first target roles defined (SwitchBody result j t (plain l)) (entered empty s) (l.node.1.1 l.at j t (entered empty s))))

  switch-told : (at : ℕ) (e : At Tree) (a : At SomeLine) (j : Jumps) (s : State) →
      Told target roles defined at (inside_parts target roles defined result j (one_line.Switch e (plain a)) s) (switch_found target roles e (means a) j at s)
  unfolding switch_found
  switch-told at e a j s =
      value-then target roles defined at e s _ _ (λ x s.
      last target roles defined at ((SwitchBody result (in_switch j) (switch_type target x.type) (plain a), entered empty s) ∷ []) (switch_body (in_switch j) (switch_type target x.type) (means a) s) _ (switch-body-told at (in_switch j) (switch_type target x.type) a s)
      (λ cases s. own-whole at s (switch_of target x cases)))

  -- ---- a line, by its layer

  abbrev Layer : Type 0
  Layer = one_line.Line-F SomeLine

  abbrev bare : Layer → one_line.Line-F Line
  bare y = map-Line SomeLine Line (λ l. l.0) y

  abbrev layer : one_line.Line-F Line → one_line.Line-F LineMeaning
  layer x = map-Line Line LineMeaning (line_of target roles defined result) x

  inside-told : (y : Layer) (at : ℕ) (j : Jumps) (s : State) → Told target roles defined at (inside_parts target roles defined result j (bare y) s) (inside target roles defined result (layer (bare y)) j at s)
  inside-told (one_line.Block ls) at j s = block-told at j ls s
  inside-told (one_line.Decl d) at j s = declared-told target roles defined at d s
  inside-told (one_line.Expr None) at j s = expression-told target roles defined at None s
  inside-told (one_line.Expr (Some e)) at j s = expression-told target roles defined at (Some e) s
  inside-told (one_line.If e a None) at j s = if-told at e a None j s
  inside-told (one_line.If e a (Some b)) at j s = if-told at e a (Some b) j s
  inside-told (one_line.While e a) at j s = while-told at e a j s
  inside-told (one_line.DoWhile a e) at j s = do-told at a e j s
  inside-told (one_line.For f test step a) at j s = for-told at f test step a j s
  inside-told (one_line.Switch e a) at j s = switch-told at e a j s
  inside-told (one_line.Case e a) at j s = misplaced-case-told at e a j s
  inside-told (one_line.Default a) at j s = misplaced-told at a j s
  inside-told one_line.Break at j s = own-whole at s (break_of j)
  inside-told one_line.Continue at j s = own-whole at s (continue_of j)
  inside-told (one_line.Return e) at j s = return-told target roles defined result at e s

  opens-told : (y : Layer) (at : ℕ) (j : Jumps) (s : State) → Told target roles defined at (inside_parts target roles defined result j (bare y) (entered empty s)) (scoped (inside target roles defined result (layer (bare y)) j at) s)
  opens-told y at j s = scoped-told target roles defined at (inside_parts target roles defined result j (bare y) (entered empty s)) (inside target roles defined result (layer (bare y)) j at) s (inside-told y at j (entered empty s))

  line-told : (y : Layer) (at : ℕ) (j : Jumps) (s : State) → Told target roles defined at (statement_parts target roles defined result j (bare y) s) (line_by target roles defined result (layer (bare y)) j at s)
  line-told (one_line.Block ls) at j s = opens-told (one_line.Block ls) at j s
  line-told (one_line.Decl d) at j s = inside-told (one_line.Decl d) at j s
  line-told (one_line.Expr e) at j s = inside-told (one_line.Expr e) at j s
  line-told (one_line.If e a b) at j s = opens-told (one_line.If e a b) at j s
  line-told (one_line.While e a) at j s = opens-told (one_line.While e a) at j s
  line-told (one_line.DoWhile a e) at j s = opens-told (one_line.DoWhile a e) at j s
  line-told (one_line.For f test step a) at j s = opens-told (one_line.For f test step a) at j s
  line-told (one_line.Switch e a) at j s = opens-told (one_line.Switch e a) at j s
  line-told (one_line.Case e a) at j s = inside-told (one_line.Case e a) at j s
  line-told (one_line.Default a) at j s = inside-told (one_line.Default a) at j s
  line-told one_line.Break at j s = inside-told one_line.Break at j s
  line-told one_line.Continue at j s = inside-told one_line.Continue at j s
  line-told (one_line.Return e) at j s = inside-told (one_line.Return e) at j s

  -- ---- as the body of a `switch`, where the line l itself has the law

  each-item : (j : Jumps) (t : IntType) (ls : List (At SomeLine)) → Each (λ (l : At Line). (cases : Cases) (s : State) → First target roles defined (Labelled result j t cases l) s) (map plain ls)
  each-item j t [] = tt
  each-item j t (l ∷ ls) = ((λ cases s. first target roles defined (Labelled result j t cases (plain l)) s (l.node.1.2 l.at j t cases s)), each-item j t ls)

  cases-told : (at : ℕ) (j : Jumps) (t : IntType) (ls : List (At SomeLine)) (l : At Line) (s : State) →
      Told target roles defined at (switch_parts target roles defined result j t (one_line.Block (map plain ls)) l s) (scoped (cases_inside j t (map (line_here target roles defined result) (map plain ls))) s)
  unfolding cases_inside items_found
  cases-told at j t ls l s =
      scoped-told target roles defined at (switch_parts target roles defined result j t (one_line.Block (map plain ls)) l s) (cases_inside j t (map (line_here target roles defined result) (map plain ls))) s
      (last target roles defined at (switch_parts target roles defined result j t (one_line.Block (map plain ls)) l s) (items_found j t (map (line_here target roles defined result) (map plain ls)) (entered empty s)) _
      (turns target roles defined at (line_here target roles defined result) (item_found j t) (λ l cases. Labelled result j t cases l) (λ l cases s. refl) (map plain ls) (each-item j t ls) no_case (entered empty s))
      (λ cases t. tt))

  abbrev Stands : Layer → At Line → Type 0
  Stands y l = (j : Jumps) (s : State) → Told target roles defined l.at ((Statement result j l, s) ∷ []) (line_by target roles defined result (layer (bare y)) j l.at s)

  not-switched-told : (y : Layer) (l : At Line) (j : Jumps) (s : State) → Stands y l → Told target roles defined l.at ((Statement result j l, s) ∷ []) (not_switched (line_by target roles defined result (layer (bare y))) j l.at s)
  unfolding not_switched
  not-switched-told y l j s h = last target roles defined l.at ((Statement result j l, s) ∷ []) (line_by target roles defined result (layer (bare y)) j l.at s) _ (h j s) (λ ss t. tt)

  switched-told : (y : Layer) (l : At Line) → Stands y l → (j : Jumps) (t : IntType) (s : State) →
      Told target roles defined l.at (switch_parts target roles defined result j t (bare y) l s) (switched_by target roles defined result (layer (bare y)) j t l.at s)
  switched-told (one_line.Block ls) l h j t s = cases-told l.at j t ls l s
  switched-told (one_line.Decl d) l h j t s = not-switched-told (one_line.Decl d) l j s h
  switched-told (one_line.Expr e) l h j t s = not-switched-told (one_line.Expr e) l j s h
  switched-told (one_line.If e a b) l h j t s = not-switched-told (one_line.If e a b) l j s h
  switched-told (one_line.While e a) l h j t s = not-switched-told (one_line.While e a) l j s h
  switched-told (one_line.DoWhile a e) l h j t s = not-switched-told (one_line.DoWhile a e) l j s h
  switched-told (one_line.For f test step a) l h j t s = not-switched-told (one_line.For f test step a) l j s h
  switched-told (one_line.Switch e a) l h j t s = not-switched-told (one_line.Switch e a) l j s h
  switched-told (one_line.Case e a) l h j t s = not-switched-told (one_line.Case e a) l j s h
  switched-told (one_line.Default a) l h j t s = not-switched-told (one_line.Default a) l j s h
  switched-told one_line.Break l h j t s = not-switched-told one_line.Break l j s h
  switched-told one_line.Continue l h j t s = not-switched-told one_line.Continue l j s h
  switched-told (one_line.Return e) l h j t s = not-switched-told (one_line.Return e) l j s h

  -- ---- at the top level of one

  unlabelled-told : (counts : Bool) (y : Layer) (l : At Line) (j : Jumps) (cases : Cases) (s : State) → Stands y l →
      Told target roles defined l.at ((Statement result j l, s) ∷ []) (unlabelled false counts (line_by target roles defined result (layer (bare y))) j cases l.at s)
  unfolding unlabelled
  unlabelled-told counts y l j cases s h = last target roles defined l.at ((Statement result j l, s) ∷ []) (line_by target roles defined result (layer (bare y)) j l.at s) _ (h j s) (λ ss t. tt)

  empty-told : (l : At Line) (j : Jumps) (cases : Cases) (s : State) → Stands (one_line.Expr None) l →
      Told target roles defined l.at ((Statement result j l, s) ∷ []) (unlabelled true true (line_by target roles defined result (layer (bare (one_line.Expr None)))) j cases l.at s)
  unfolding unlabelled expression_found
  empty-told l j cases s h = h j s

  labelled-told : (y : Layer) (l : At Line) → Stands y l → (j : Jumps) (t : IntType) (cases : Cases) (s : State) →
      Told target roles defined l.at (labelled_parts target roles defined result j t cases (bare y) l s) (item_by target roles defined result (layer (bare y)) j t cases l.at s)
  labelled-told (one_line.Block ls) l h j t cases s = unlabelled-told true (one_line.Block ls) l j cases s h
  labelled-told (one_line.Decl d) l h j t cases s = unlabelled-told (counts (layer (bare (one_line.Decl d)))) (one_line.Decl d) l j cases s h
  labelled-told (one_line.Expr None) l h j t cases s = empty-told l j cases s h
  labelled-told (one_line.Expr (Some e)) l h j t cases s = unlabelled-told true (one_line.Expr (Some e)) l j cases s h
  labelled-told (one_line.If e a b) l h j t cases s = unlabelled-told true (one_line.If e a b) l j cases s h
  labelled-told (one_line.While e a) l h j t cases s = unlabelled-told true (one_line.While e a) l j cases s h
  labelled-told (one_line.DoWhile a e) l h j t cases s = unlabelled-told true (one_line.DoWhile a e) l j cases s h
  labelled-told (one_line.For f test step a) l h j t cases s = unlabelled-told true (one_line.For f test step a) l j cases s h
  labelled-told (one_line.Switch e a) l h j t cases s = unlabelled-told true (one_line.Switch e a) l j cases s h
  labelled-told (one_line.Case e a) l h j t cases s = case-told l.at e a j t cases l s
  labelled-told (one_line.Default a) l h j t cases s = label-told l.at (default_label cases) a j t cases s
  labelled-told one_line.Break l h j t cases s = unlabelled-told true one_line.Break l j cases s h
  labelled-told one_line.Continue l h j t cases s = unlabelled-told true one_line.Continue l j cases s h
  labelled-told (one_line.Return e) l h j t cases s = unlabelled-told true (one_line.Return e) l j cases s h

  -- ---- all lines

  line-out : (l : Line) → line_of target roles defined result l ≡ line_step target roles defined result (layer (out-Line l))
  unfolding line_of
  line-out l = fold_out-Line LineMeaning (line_step target roles defined result) l

  line-is : (l : Line) (y : Layer) → out-Line l ≡ bare y → line_of target roles defined result l ≡ line_step target roles defined result (layer (bare y))
  line-is l y h = line-out l ∙ ap (λ x. line_step target roles defined result (layer x)) h

  statement-law : (l : Line) (y : Layer) → out-Line l ≡ bare y → (at : ℕ) (j : Jumps) (s : State) → Law target roles defined (Statement result j (line_at at l)) s
  statement-law l y h at j s =
      subst (λ (x : one_line.Line-F Line). Told target roles defined at (statement_parts target roles defined result j x s) ((line_of target roles defined result l).line j at s)) (sym h)
      (subst (λ (m : LineMeaning). Told target roles defined at (statement_parts target roles defined result j (bare y) s) (m.line j at s)) (sym (line-is l y h)) (line-told y at j s))

  stands : (l : Line) (y : Layer) → out-Line l ≡ bare y → (at : ℕ) → Stands y (line_at at l)
  stands l y h at j s =
      subst (λ (m : LineMeaning). Told target roles defined at ((Statement result j (line_at at l), s) ∷ []) (m.line j at s)) (line-is l y h)
      (single target roles defined at (Statement result j (line_at at l)) s ((line_of target roles defined result l).line j at s) refl (first target roles defined (Statement result j (line_at at l)) s (statement-law l y h at j s)))

  switch-law : (l : Line) (y : Layer) → out-Line l ≡ bare y → (at : ℕ) (j : Jumps) (t : IntType) (s : State) → Law target roles defined (SwitchBody result j t (line_at at l)) s
  switch-law l y h at j t s =
      subst (λ (x : one_line.Line-F Line). Told target roles defined at (switch_parts target roles defined result j t x (line_at at l) s) ((line_of target roles defined result l).switched j t at s)) (sym h)
      (subst (λ (m : LineMeaning). Told target roles defined at (switch_parts target roles defined result j t (bare y) (line_at at l) s) (m.switched j t at s)) (sym (line-is l y h))
      (switched-told y (line_at at l) (stands l y h at) j t s))

  labelled-law : (l : Line) (y : Layer) → out-Line l ≡ bare y → (at : ℕ) (j : Jumps) (t : IntType) (cases : Cases) (s : State) → Law target roles defined (Labelled result j t cases (line_at at l)) s
  labelled-law l y h at j t cases s =
      subst (λ (x : one_line.Line-F Line). Told target roles defined at (labelled_parts target roles defined result j t cases x (line_at at l) s) ((line_of target roles defined result l).item j t cases at s)) (sym h)
      (subst (λ (m : LineMeaning). Told target roles defined at (labelled_parts target roles defined result j t cases (bare y) (line_at at l) s) (m.item j t cases at s)) (sym (line-is l y h))
      (labelled-told y (line_at at l) (stands l y h at) j t cases s))

  of-line : (x : one_line.Line-F Line) (y : Layer) → bare y ≡ x → OfLine (roll-Line x)
  of-line x y e = (statement-law (roll-Line x) y (out-roll-Line x ∙ sym e), switch-law (roll-Line x) y (out-roll-Line x ∙ sym e), labelled-law (roll-Line x) y (out-roll-Line x ∙ sym e))

  pub every-line : (l : Line) → OfLine l
  every-line l = ind-Line OfLine of-line l

  pub each-statement : (j : Jumps) (ls : List (At Line)) → Each (StandsFirst j) ls
  each-statement j ls = each_of (StandsFirst j) (λ l before s. first target roles defined (Statement result j l) s ((every-line l.node).0 l.at j s)) ls
