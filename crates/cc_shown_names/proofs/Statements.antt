-- Lines that show statements of a program are typed to them: by induction over what shows them.
use Rattle.std.specs.Prelude.{ℤ}
use Rattle.std.proofs.Common.{◌≡◌, ℕ, Bool, true, false, not, ◌&&◌, ◌||◌, List, [], ◌∷◌, ◌++◌, map, Option, Some, None, Ok, refl, ap, sym, ◌∙◌, subst, append_assoc, append-nil}
use Rattle.std.specs.List.{list_all, list_any, flat_map}
use Rattle.std.specs.Option.{is_some}
use Rattle.std.proofs.lemmas.List.Folds.{list_all-append}
use Rattle.cc_bodies.specs.Stmts.{label_type}
use Rattle.cc_program.specs.CcNum.declared.int_type.IntType.{IntType}
use Rattle.cc_program.specs.declared.expr.Expr.{Expr, out-Expr}
use Rattle.cc_program.specs.declared.func.Func.{Func}
use Rattle.cc_program.specs.declared.program.Program.{Program}
use Rattle.cc_program.specs.declared.stmt.Case.{Case, out-Case}
use Rattle.cc_program.specs.declared.stmt.Stmt.{Stmt, out-Stmt, map-Stmt}
use Rattle.cc_program.specs.declared.stmt.Stmt.TheOpen as is
use Rattle.cc_program.specs.declared.types.CType.{CType}
use Rattle.cc_program.specs.declared.types.Shape.{out-Shape}
use Rattle.cc_program.specs.declared.types.Sig.{out-Sig}
use Rattle.cc_type.specs.CcScopes.State.{State, Name}
use Rattle.cc_type.specs.CcSyntax.Forms.{form_of}
use Rattle.cc_type.specs.CcSyntax.Kinds.{Kind, is_result}
use Rattle.cc_type.specs.CcSyntax.Normal.{is_one, is_operand, normal_step, is_normal_stmt, devices_step, devices_of, devices_in}
use Rattle.cc_type.specs.CcSyntax.Programs.{type_of, kind_in, sound_step, is_sound_stmt}
use Rattle.cc_type.specs.CcSyntax.Sizes.{AreSized}
use Rattle.cc_type.specs.CcSyntax.Sound.{IsSound, IsFunc}
use Rattle.cc_type.specs.CcSyntax.Statements.{SoundWhere, Labelled, same_label, labels_of, labels_fit, label_fits, are_apart, is_condition}
use Rattle.cc_type.specs.CcSyntax.Statements.{has_label as has_some}
use Rattle.cc_type.specs.CcSyntax.Values.{ValueType, Integer, is_void, scalar_value, object_place}
use Rattle.cc_type.proofs.CcSyntax.Prefixes.{both_true}
use Rattle.cc_type.proofs.CcSyntax.SameLemmas.{and_true}
use Rattle.cc_tree.specs.declared.at.At.{At}
use Rattle.cc_tree.specs.declared.tree.Tree.{Tree}
use Rattle.cc_tree.specs.declared.unit.Line as line
use Rattle.cc_tree.specs.declared.unit.Line.{Line, out-Line}
use Rattle.cc_tree.specs.declared.unit.Line.TheVariants as line_rolls
use Rattle.cc_type.specs.CcTypedStatements.Jumps.{in_loop, in_switch}
use Rattle.cc_type.specs.CcTypedStatements.declared.jumps.Jumps.{Jumps}
use Rattle.cc_expression_trees.specs.Exprs.{ShowsExpr, ShowsValue}
use Rattle.cc_unit_trees.specs.Effects.{ShowsEffect}
use Rattle.cc_unit_trees.specs.Lines.{block, ShowsStmt, ShowsDo, ShowsIf, ShowsIfElse, ShowsWhile, ShowsSwitch, ShowsBreak, ShowsContinue, ShowsReturn, ShowsReturnOf, ShowsStmts, NoStmt, MoreStmts, ShowsCase, EmptyCase, FullCase, ShowsCases, NoCase, MoreCases, ShowsLabels}
use Rattle.cc_shown_effects.proofs.Arguments.{assigned-scalar}
use Rattle.cc_shown_effects.proofs.Effects.{effect-done}
use Rattle.cc_shown_expressions.proofs.Shown.{expr-shown}
use Rattle.cc_shown_expressions.proofs.Values.{value-taken}
use Rattle.cc_shown_effects.specs.Numbers.{stmt_numbered, case_numbered}
use Rattle.cc_shown_effects.proofs.Lines.{scalar-no-void, effect-line, break-line, continue-line, return-line, value-line}
use Rattle.cc_shown_expressions.specs.Fits.{FitsValue}
use Rattle.cc_shown_expressions.specs.KnownNames.{KnowsNames, TypesStand}
use Rattle.cc_shown_expressions.specs.Normal.{HasOperand}
use Rattle.cc_shown_expressions.specs.OperationNumbers.{Numbers}
use Rattle.cc_shown_expressions.specs.Typed.{IsTypedAs}
use Rattle.cc_shown_expressions.proofs.Fits.{read-fits}
use Rattle.cc_shown_expressions.specs.Numbers.{type_numbered, value_numbered}
use Rattle.cc_shown_expressions.proofs.Kept.{void-numbered, scalar-at}
use Rattle.cc_shown_names.specs.Devices.{DevicesFrom}
use Rattle.cc_shown_names.proofs.Labels.{HaveLabels, settled, labels-behind, items, empty-case, full-case, switch-line}
use Rattle.cc_shown_effects.proofs.Levels.{some-is, condition-is, labels-are, assigned-is, devices_in_case, devices-at, case-devices, all_normal, all_sound, normal_in, sound_in, normal-at, sound-at, case-normal, case-labels, case-sound, operand-has, one-has, case-numbered}
use Rattle.cc_shown_names.proofs.Lines.{is_statement, in_scope, meaning, AreTyped, NoneTyped, MoreTyped, if-line, else-line, while-line}
use Rattle.cc_shown_names.proofs.Uses.{names-inside, uses-inside, uses-parted, steps-used, names-used}

-- ---- what comes first of what is apart is apart

front-by : (b all front : Bool) → (not all ≡ true → not front ≡ true) → not (b || all) ≡ true → not (b || front) ≡ true
front-by true all front f h = absurd (cc)
front-by false all front f h = f h

front-any : {A : Type 0} → (test : A → Bool) (xs ys : List A) → not (list_any test (xs ++ ys)) ≡ true → not (list_any test xs) ≡ true
front-any test [] ys h = refl
front-any test (x ∷ xs) ys h = front-by (test x) (list_any test (xs ++ ys)) (list_any test xs) (front-any test xs ys) h

front-apart : (ls ms : List (Option ℤ)) → are_apart (ls ++ ms) ≡ true → are_apart ls ≡ true
front-apart [] ms h = refl
front-apart (l ∷ ls) ms h =
    let q = both_true (not (list_any (same_label l) (ls ++ ms))) (are_apart (ls ++ ms)) h in
    and_true (not (list_any (same_label l) ls)) (are_apart ls) (front-any (same_label l) ls ms q.0) (front-apart ls ms q.1)

-- a function's result may stand
result-some : (k : Option Kind) → is_result k ≡ true → is_some k ≡ true
result-some None h = absurd (cc)
result-some (Some k) h = refl

-- ---- what shows a statement is no label, and not empty

shown-plain : (p : Program) (f : Func) (t : Stmt) (l : Line) → ShowsStmt p f t l → is_statement (out-Line l) ≡ true
shown-plain p f _ _ (ShowsDo t e x o h) = ap is_statement (line_rolls.outs-Expr (Some x))
shown-plain p f _ _ (ShowsIf t e a x i ls o h g) = ap is_statement (line_rolls.outs-If x (block i ls) None)
shown-plain p f _ _ (ShowsIfElse t e a b x i k ls ms o h g q) = ap is_statement (line_rolls.outs-If x (block i ls) (Some (block k ms)))
shown-plain p f _ _ (ShowsWhile t e a x i ls o h g) = ap is_statement (line_rolls.outs-While x (block i ls))
shown-plain p f _ _ (ShowsSwitch t e cases x i ls o h g) = ap is_statement (line_rolls.outs-Switch x (block i ls))
shown-plain p f _ _ (ShowsBreak t o) = ap is_statement line_rolls.outs-Break
shown-plain p f _ _ (ShowsContinue t o) = ap is_statement line_rolls.outs-Continue
shown-plain p f _ _ (ShowsReturn t o) = ap is_statement (line_rolls.outs-Return None)
shown-plain p f _ _ (ShowsReturnOf t e x o h) = ap is_statement (line_rolls.outs-Return (Some x))

module _ (p : Program) (f : Func) (n : Numbers) (defined : List Name) (sound : IsSound p) (sized : AreSized p.structures p.target) (stand : TypesStand p f) (own : IsFunc p f) where
  abbrev result : CType
  result = type_numbered n.structure (out-Sig f.sig).result

  abbrev LineTyped : Line → Stmt → Jumps → State → State → Type 0
  LineTyped l t j s u = (at : ℕ) → (meaning p n defined result l).line j at s ≡ Ok (stmt_numbered n t ∷ [], u)

  abbrev StmtTyped : Stmt → Line → Type 0
  StmtTyped t l = (j : Jumps) (s u : State) → KnowsNames p f n s → is_normal_stmt p.target f t ≡ true → is_sound_stmt p f t j.breaks j.continues ≡ true → DevicesFrom p n (devices_of t) s u → LineTyped l t j s u

  abbrev StmtsTyped : List Stmt → List (At Line) → Type 0
  StmtsTyped ss ls = (j : Jumps) (s u : State) → KnowsNames p f n s → all_normal p f ss ≡ true → all_sound p f j.breaks j.continues ss ≡ true → DevicesFrom p n (devices_in ss) s u → AreTyped p n defined result j ss ls s u

  -- behind cases of which the labels are done
  abbrev CaseTyped : IntType → Case → List (At Line) → Type 0
  CaseTyped t c ls = (j : Jumps) (s u : State) → KnowsNames p f n s → normal_in p f c ≡ true → (sound_in p f c).body j.breaks j.continues ≡ true → has_some (sound_in p f c).labels ≡ true → list_all (label_fits p.target t) (out-Case c).labels ≡ true →
      DevicesFrom p n (devices_in_case c) s u → (before : List Case) (done : List (Option ℤ)) → HaveLabels before done → are_apart (done ++ (out-Case c).labels) ≡ true → (rest : List (At Line)) →
      items p f n defined result j t (ls ++ rest) (settled before) s ≡ items p f n defined result j t rest (settled (before ++ case_numbered n c ∷ [])) u

  abbrev CasesTyped : IntType → List Case → List (At Line) → Type 0
  CasesTyped t cs ls = (j : Jumps) (s u : State) → KnowsNames p f n s → list_all (λ b. b) (map (normal_in p f) cs) ≡ true → list_all (λ (c : Labelled). c.body j.breaks j.continues) (map (sound_in p f) cs) ≡ true →
      list_all (λ (c : Labelled). has_some c.labels) (map (sound_in p f) cs) ≡ true → list_all (label_fits p.target t) (labels_of cs) ≡ true → DevicesFrom p n (flat_map (λ ds. ds) (map devices_in_case cs)) s u →
      (before : List Case) (done : List (Option ℤ)) → HaveLabels before done → are_apart (done ++ labels_of cs) ≡ true → (rest : List (At Line)) →
      items p f n defined result j t (ls ++ rest) (settled before) s ≡ items p f n defined result j t rest (settled (before ++ map (case_numbered n) cs)) u

  -- ---- levels of a statement that stands

  abbrev NormalAt : is.Stmt-F Stmt Case → Type 0
  NormalAt y = normal_step p.target f (map-Stmt Stmt Case Bool Bool (is_normal_stmt p.target f) (normal_in p f) y) ≡ true

  abbrev SoundAt : is.Stmt-F Stmt Case → Jumps → Type 0
  SoundAt y j = sound_step p f (map-Stmt Stmt Case SoundWhere Labelled (is_sound_stmt p f) (sound_in p f) y) j.breaks j.continues ≡ true

  abbrev UsesAt : is.Stmt-F Stmt Case → State → State → Type 0
  UsesAt y s u = DevicesFrom p n (devices_step (map-Stmt Stmt Case (List ℕ) (List ℕ) devices_of devices_in_case y)) s u

  normal-of : (t : Stmt) (y : is.Stmt-F Stmt Case) → out-Stmt t ≡ y → is_normal_stmt p.target f t ≡ true → NormalAt y
  normal-of t y o h = sym (normal-at p f t y o) ∙ h

  sound-of : (t : Stmt) (y : is.Stmt-F Stmt Case) (j : Jumps) → out-Stmt t ≡ y → is_sound_stmt p f t j.breaks j.continues ≡ true → SoundAt y j
  sound-of t y j o h = sym (ap (λ (g : SoundWhere). g j.breaks j.continues) (sound-at p f t y o)) ∙ h

  uses-of : (t : Stmt) (y : is.Stmt-F Stmt Case) (s u : State) → out-Stmt t ≡ y → DevicesFrom p n (devices_of t) s u → UsesAt y s u
  uses-of t y s u o h = subst (λ ds. DevicesFrom p n ds s u) (devices-at t y o) h

  -- inside three scopes
  deep-names : (s : State) → KnowsNames p f n s → KnowsNames p f n (in_scope (in_scope (in_scope s)))
  deep-names s k = names-inside p f n (in_scope (in_scope s)) (names-inside p f n (in_scope s) (names-inside p f n s k))

  deep-uses : (ds : List ℕ) (s u : State) → DevicesFrom p n ds s u → DevicesFrom p n ds (in_scope (in_scope (in_scope s))) (in_scope (in_scope (in_scope u)))
  deep-uses ds s u h = uses-inside p n ds (in_scope (in_scope s)) (in_scope (in_scope u)) (uses-inside p n ds (in_scope s) (in_scope u) (uses-inside p n ds s u h))

  operand-typed : (s : State) → KnowsNames p f n s → (e : Expr) (x : At Tree) → ShowsExpr p f e x.node → (v : ValueType) → HasOperand p f e v → IsTypedAs p n (in_scope s) x.node x.at e v
  operand-typed s k e x h v has = (expr-shown p f n (in_scope s) sized (names-inside p f n s k) stand e x.node h x.at v has).typed

  -- ---- statements without others

  do-shown : (t : Stmt) (e : Expr) (x : At Tree) → out-Stmt t ≡ is.Do e → ShowsEffect p f e x.node → StmtTyped t (line.Expr (Some x))
  do-shown t e x o h j s u names normal good uses at =
      let v = some-is (type_of p f.locals e) (sound-of t (is.Do e) j o good) in
      effect-line p n defined result s u x t e (value_numbered n.structure v.0) o
      (effect-done p f n sound sized stand s u names e x.node h v.0 x.at v.1 (normal-of t (is.Do e) o normal) (steps-used p n e (out-Expr e) s u refl (uses-of t (is.Do e) s u o uses))) j at

  break-shown : (t : Stmt) → out-Stmt t ≡ is.Break → StmtTyped t line.Break
  break-shown t o j s u names normal good uses at =
      break-line p n defined result s t o j (sound-of t is.Break j o good) at ∙ ap (λ u. Ok (stmt_numbered n t ∷ [], u)) (uses-of t is.Break s u o uses)

  continue-shown : (t : Stmt) → out-Stmt t ≡ is.Continue → StmtTyped t line.Continue
  continue-shown t o j s u names normal good uses at =
      continue-line p n defined result s t o j (sound-of t is.Continue j o good) at ∙ ap (λ u. Ok (stmt_numbered n t ∷ [], u)) (uses-of t is.Continue s u o uses)

  return-shown : (t : Stmt) → out-Stmt t ≡ is.Return None → StmtTyped t (line.Return None)
  return-shown t o j s u names normal good uses at =
      return-line p n defined result s t o (void-numbered n.structure (out-Sig f.sig).result ∙ sound-of t (is.Return None) j o good) j at ∙ ap (λ u. Ok (stmt_numbered n t ∷ [], u)) (uses-of t (is.Return None) s u o uses)

  value-shown : (t : Stmt) (e : Expr) (x : At Tree) → out-Stmt t ≡ is.Return (Some e) → ShowsValue p f (Some (out-Sig f.sig).result) e x.node → StmtTyped t (line.Return (Some x))
  value-shown t e x o h j s u names normal good uses at =
      let r = (out-Sig f.sig).result in
      let q = assigned-is (scalar_value r) (type_of p f.locals e) (sound-of t (is.Return (Some e)) j o good) in
      let plain : is_void r ≡ false = scalar-no-void (out-Shape r.shape) q.0 q.2 in
      let has = operand-has p f e q.1 (normal-of t (is.Return (Some e)) o normal) q.3 (assigned-scalar q.0 q.1 q.4) in
      let fits : FitsValue p q.0 = read-fits p (object_place r) q.0 (plain, result-some (kind_in p r) own.result) q.2 in
      value-line p n defined result s x t e q.0 o
      (value-taken p f n s sized names stand (Some r) e x.node h x.at q.1 q.0 has fits q.4 (λ w same. let g : r ≡ w = cc in subst (λ (w : CType). scalar_value w ≡ Some q.0) g q.2))
      (void-numbered n.structure r ∙ plain) (scalar-at n.structure r q.0 q.2) j at
      ∙ ap (λ u. Ok (stmt_numbered n t ∷ [], u)) (uses-of t (is.Return (Some e)) s u o uses)

  -- ---- choices and loops

  if-shown : (t : Stmt) (e : Expr) (a : List Stmt) (x : At Tree) (i : ℕ) (ls : List (At Line)) → out-Stmt t ≡ is.If e a [] → ShowsExpr p f e x.node → StmtsTyped a ls → StmtTyped t (line.If x (block i ls) None)
  if-shown t e a x i ls o h body j s u names normal good uses at =
      let N = both_true (is_operand p.target f e) (all_normal p f a && true) (normal-of t (is.If e a []) o normal) in
      let M = both_true (all_normal p f a) true N.1 in
      let S = both_true (is_condition (type_of p f.locals e)) (all_sound p f j.breaks j.continues a && true) (sound-of t (is.If e a []) j o good) in
      let T = both_true (all_sound p f j.breaks j.continues a) true S.1 in
      let U = uses-parted p n (devices_in a) [] s u (uses-of t (is.If e a []) s u o uses) in
      let v = condition-is (type_of p f.locals e) S.0 in
      let w : DevicesFrom p n (devices_in a) s u = subst (λ u. DevicesFrom p n (devices_in a) s u) U.2 U.1 in
      if-line p n defined result t e a x i ls v.0 j s u o v.2 (operand-typed s names e x h v.0 (operand-has p f e v.0 N.0 v.1 v.2))
      (body j (in_scope (in_scope (in_scope s))) (in_scope (in_scope (in_scope u))) (deep-names s names) M.0 T.0 (deep-uses (devices_in a) s u w)) at

  else-shown : (t : Stmt) (e : Expr) (a b : List Stmt) (x : At Tree) (i k : ℕ) (ls ms : List (At Line)) → out-Stmt t ≡ is.If e a b → ShowsExpr p f e x.node → StmtsTyped a ls → StmtsTyped b ms →
      StmtTyped t (line.If x (block i ls) (Some (block k ms)))
  else-shown t e a b x i k ls ms o h body other j s u names normal good uses at =
      let N = both_true (is_operand p.target f e) (all_normal p f a && all_normal p f b) (normal-of t (is.If e a b) o normal) in
      let M = both_true (all_normal p f a) (all_normal p f b) N.1 in
      let S = both_true (is_condition (type_of p f.locals e)) (all_sound p f j.breaks j.continues a && all_sound p f j.breaks j.continues b) (sound-of t (is.If e a b) j o good) in
      let T = both_true (all_sound p f j.breaks j.continues a) (all_sound p f j.breaks j.continues b) S.1 in
      let U = uses-parted p n (devices_in a) (devices_in b) s u (uses-of t (is.If e a b) s u o uses) in
      let v = condition-is (type_of p f.locals e) S.0 in
      else-line p n defined result t e a b x i k ls ms v.0 j s U.0 u o v.2 (operand-typed s names e x h v.0 (operand-has p f e v.0 N.0 v.1 v.2))
      (body j (in_scope (in_scope (in_scope s))) (in_scope (in_scope (in_scope U.0))) (deep-names s names) M.0 T.0 (deep-uses (devices_in a) s U.0 U.1))
      (other j (in_scope (in_scope (in_scope U.0))) (in_scope (in_scope (in_scope u))) (deep-names U.0 (names-used p n f (devices_in a) s U.0 names U.1)) M.1 T.1 (deep-uses (devices_in b) U.0 u U.2)) at

  while-shown : (t : Stmt) (e : Expr) (a : List Stmt) (x : At Tree) (i : ℕ) (ls : List (At Line)) → out-Stmt t ≡ is.While e a → ShowsExpr p f e x.node → StmtsTyped a ls → StmtTyped t (line.While x (block i ls))
  while-shown t e a x i ls o h body j s u names normal good uses at =
      let N = both_true (is_one (form_of e)) (all_normal p f a) (normal-of t (is.While e a) o normal) in
      let S = both_true (is_condition (type_of p f.locals e)) (all_sound p f true true a) (sound-of t (is.While e a) j o good) in
      let v = condition-is (type_of p f.locals e) S.0 in
      while-line p n defined result t e a x i ls v.0 j s u o v.2 (operand-typed s names e x h v.0 (one-has p f e v.0 N.0 v.1 v.2))
      (body (in_loop j) (in_scope (in_scope (in_scope s))) (in_scope (in_scope (in_scope u))) (deep-names s names) N.1 S.1 (deep-uses (devices_in a) s u (uses-of t (is.While e a) s u o uses))) at

  -- ---- `switch`

  all-labels : (cs : List Case) → flat_map (λ (c : Labelled). c.labels) (map (sound_in p f) cs) ≡ labels_of cs
  all-labels [] = refl
  all-labels (c ∷ cs) = ap (λ ls. ls ++ flat_map (λ (c : Labelled). c.labels) (map (sound_in p f) cs)) (case-labels p f c) ∙ ap (λ ls. (out-Case c).labels ++ ls) (all-labels cs)

  switch-shown : (y : Stmt) (e : Expr) (cases : List Case) (x : At Tree) (i : ℕ) (ls : List (At Line)) → out-Stmt y ≡ is.Switch e cases → ShowsExpr p f e x.node → CasesTyped (label_type (type_of p f.locals e)) cases ls → StmtTyped y (line.Switch x (block i ls))
  switch-shown y e cases x i ls o h body j s u names normal good uses at =
      let labels = flat_map (λ (c : Labelled). c.labels) (map (sound_in p f) cases) in
      let has = list_all (λ (c : Labelled). has_some c.labels) (map (sound_in p f) cases) in
      let bodies = list_all (λ (c : Labelled). c.body true j.continues) (map (sound_in p f) cases) in
      let N = both_true (is_operand p.target f e) (list_all (λ b. b) (map (normal_in p f) cases)) (normal-of y (is.Switch e cases) o normal) in
      let S = both_true (labels_fit p.target labels (type_of p f.locals e)) (are_apart labels && (has && bodies)) (sound-of y (is.Switch e cases) j o good) in
      let A = both_true (are_apart labels) (has && bodies) S.1 in
      let B = both_true has bodies A.1 in
      let v = labels-are p.target labels (type_of p f.locals e) S.0 in
      let t = v.0 in
      let type : label_type (type_of p f.locals e) ≡ t = ap label_type v.1 in
      let same = all-labels cases in
      let in3 = in_scope (in_scope (in_scope s)) in
      let out3 = in_scope (in_scope (in_scope u)) in
      let fits : list_all (label_fits p.target (label_type (type_of p f.locals e))) (labels_of cases) ≡ true = ap (λ t. list_all (label_fits p.target t) (labels_of cases)) type ∙ ap (λ ls. list_all (label_fits p.target t) ls) (sym same) ∙ v.3 in
      let found = body (in_switch j) in3 out3 (deep-names s names) N.1 B.1 B.0 fits (deep-uses (flat_map (λ ds. ds) (map devices_in_case cases)) s u (uses-of y (is.Switch e cases) s u o uses)) [] [] (λ l. refl) (ap are_apart (sym same) ∙ A.0) [] in
      let all : items p f n defined result (in_switch j) t ls (settled []) in3 ≡ Ok (settled (map (case_numbered n) cases), out3) =
      ap (λ t. items p f n defined result (in_switch j) t ls (settled []) in3) (sym type)
      ∙ ap (λ ls. items p f n defined result (in_switch j) (label_type (type_of p f.locals e)) ls (settled []) in3) (sym (append-nil ls)) ∙ found in
      switch-line p f n defined result y e cases x i ls t j s u o v.2 (operand-typed s names e x h (Integer t) (operand-has p f e (Integer t) N.0 v.1 refl)) all at

  empty-shown : (t : IntType) (c : Case) (l : At Line) → (out-Case c).body ≡ [] → ShowsLabels p f t (line.Expr None) (out-Case c).labels l.node → CaseTyped t c (l ∷ [])
  empty-shown t c l none shown j s u names normal good has fits uses before done have apart rest =
      let same : s ≡ u = subst (λ ds. DevicesFrom p n ds s u) (case-devices c ∙ ap (λ ss. flat_map (λ ds. ds) (map devices_of ss)) none) uses in
      empty-case p f n defined result t c l none shown j s before done have fits (ap has_some (sym (case-labels p f c)) ∙ has) apart rest
      ∙ ap (λ u. items p f n defined result j t rest (settled (before ++ case_numbered n c ∷ [])) u) same

  full-shown : (t : IntType) (c : Case) (x : Stmt) (ss : List Stmt) (inner : Line) (l : At Line) (ls : List (At Line)) → (out-Case c).body ≡ x ∷ ss → is_statement (out-Line inner) ≡ true → ShowsLabels p f t inner (out-Case c).labels l.node →
      StmtTyped x inner → StmtsTyped ss ls → CaseTyped t c (l ∷ ls)
  full-shown t c x ss inner l ls body plain shown first more j s u names normal good has fits uses before done have apart rest =
      let N = both_true (is_normal_stmt p.target f x) (all_normal p f ss) (ap (all_normal p f) (sym body) ∙ sym (case-normal p f c) ∙ normal) in
      let S = both_true (is_sound_stmt p f x j.breaks j.continues) (all_sound p f j.breaks j.continues ss) (ap (all_sound p f j.breaks j.continues) (sym body) ∙ sym (case-sound p f c j.breaks j.continues) ∙ good) in
      let U = uses-parted p n (devices_of x) (devices_in ss) s u (subst (λ ds. DevicesFrom p n ds s u) (case-devices c ∙ ap (λ ss. flat_map (λ ds. ds) (map devices_of ss)) body) uses) in
      full-case p f n defined result t c x ss inner l ls body shown plain j s U.0 u (first j s U.0 names N.0 S.0 U.1)
      (more j U.0 u (names-used p n f (devices_of x) s U.0 names U.1) N.1 S.1 U.2) before done have fits (ap has_some (sym (case-labels p f c)) ∙ has) apart rest

  cases-more : (t : IntType) (c : Case) (cs : List Case) (ls ms : List (At Line)) → CaseTyped t c ls → CasesTyped t cs ms → CasesTyped t (c ∷ cs) (ls ++ ms)
  cases-more t c cs ls ms first more j s u names normal good has fits uses before done have apart rest =
      let labels = (out-Case c).labels in
      let N = both_true (normal_in p f c) (list_all (λ b. b) (map (normal_in p f) cs)) normal in
      let S = both_true ((sound_in p f c).body j.breaks j.continues) (list_all (λ (c : Labelled). c.body j.breaks j.continues) (map (sound_in p f) cs)) good in
      let H = both_true (has_some (sound_in p f c).labels) (list_all (λ (c : Labelled). has_some c.labels) (map (sound_in p f) cs)) has in
      let F = both_true (list_all (label_fits p.target t) labels) (list_all (label_fits p.target t) (labels_of cs)) (sym (list_all-append (label_fits p.target t) labels (labels_of cs)) ∙ fits) in
      let U = uses-parted p n (devices_in_case c) (flat_map (λ ds. ds) (map devices_in_case cs)) s u uses in
      let all : are_apart ((done ++ labels) ++ labels_of cs) ≡ true = ap are_apart (append_assoc done labels (labels_of cs)) ∙ apart in
      let now : List Case = before ++ case_numbered n c ∷ [] in
      let have_now : HaveLabels now (done ++ labels) = subst (λ d. HaveLabels (before ++ d ∷ []) (done ++ labels)) (sym (case-numbered n c)) (labels-behind before done labels (map (stmt_numbered n) (out-Case c).body) have) in
      ap (λ ls. items p f n defined result j t ls (settled before) s) (append_assoc ls ms rest)
      ∙ first j s U.0 names N.0 S.0 H.0 F.0 U.1 before done have (front-apart (done ++ labels) (labels_of cs) all) (ms ++ rest)
      ∙ more j U.0 u (names-used p n f (devices_in_case c) s U.0 names U.1) N.1 S.1 H.1 F.1 U.2 now (done ++ labels) have_now all rest
      ∙ ap (λ cs. items p f n defined result j t rest (settled cs) u) (append_assoc before (case_numbered n c ∷ []) (map (case_numbered n) cs))

  no-cases : (t : IntType) → CasesTyped t [] []
  no-cases t j s u names normal good has fits uses before done have apart rest =
      ap (λ cs. items p f n defined result j t rest (settled cs) s) (sym (append-nil before)) ∙ ap (λ u. items p f n defined result j t rest (settled (before ++ [])) u) uses

  stmts-more : (t : Stmt) (ss : List Stmt) (l : At Line) (ls : List (At Line)) → is_statement (out-Line l.node) ≡ true → StmtTyped t l.node → StmtsTyped ss ls → StmtsTyped (t ∷ ss) (l ∷ ls)
  stmts-more t ss l ls plain first more j s u names normal good uses =
      let N = both_true (is_normal_stmt p.target f t) (all_normal p f ss) normal in
      let S = both_true (is_sound_stmt p f t j.breaks j.continues) (all_sound p f j.breaks j.continues ss) good in
      let U = uses-parted p n (devices_of t) (devices_in ss) s u uses in
      MoreTyped t ss l ls s U.0 u (first j s U.0 names N.0 S.0 U.1) plain (more j U.0 u (names-used p n f (devices_of t) s U.0 names U.1) N.1 S.1 U.2)

  no-stmts : StmtsTyped [] []
  no-stmts j s u names normal good uses = subst (λ u. AreTyped p n defined result j [] [] s u) uses (NoneTyped s)

  -- ---- the induction

  mutual
    pub stmt-typed : (t : Stmt) (l : Line) → ShowsStmt p f t l → StmtTyped t l
    stmt-typed _ _ (ShowsDo t e x o h) = do-shown t e x o h
    stmt-typed _ _ (ShowsIf t e a x i ls o h g) = if-shown t e a x i ls o h (stmts-typed a ls g)
    stmt-typed _ _ (ShowsIfElse t e a b x i k ls ms o h g q) = else-shown t e a b x i k ls ms o h (stmts-typed a ls g) (stmts-typed b ms q)
    stmt-typed _ _ (ShowsWhile t e a x i ls o h g) = while-shown t e a x i ls o h (stmts-typed a ls g)
    stmt-typed _ _ (ShowsSwitch t e cases x i ls o h g) = switch-shown t e cases x i ls o h (cases-typed (label_type (type_of p f.locals e)) cases ls g)
    stmt-typed _ _ (ShowsBreak t o) = break-shown t o
    stmt-typed _ _ (ShowsContinue t o) = continue-shown t o
    stmt-typed _ _ (ShowsReturn t o) = return-shown t o
    stmt-typed _ _ (ShowsReturnOf t e x o h) = value-shown t e x o h

    pub stmts-typed : (ss : List Stmt) (ls : List (At Line)) → ShowsStmts p f ss ls → StmtsTyped ss ls
    stmts-typed _ _ NoStmt = no-stmts
    stmts-typed _ _ (MoreStmts t ss l ls h g) = stmts-more t ss l ls (shown-plain p f t l.node h) (stmt-typed t l.node h) (stmts-typed ss ls g)

    pub case-typed : (t : IntType) (c : Case) (ls : List (At Line)) → ShowsCase p f t c ls → CaseTyped t c ls
    case-typed _ _ _ (EmptyCase t c l none labels) = empty-shown t c l none labels
    case-typed _ _ _ (FullCase t c x ss inner l ls body h labels g) = full-shown t c x ss inner l ls body (shown-plain p f x inner h) labels (stmt-typed x inner h) (stmts-typed ss ls g)

    pub cases-typed : (t : IntType) (cs : List Case) (ls : List (At Line)) → ShowsCases p f t cs ls → CasesTyped t cs ls
    cases-typed _ _ _ (NoCase t) = no-cases t
    cases-typed _ _ _ (MoreCases t c cs ls ms h g) = cases-more t c cs ls ms (case-typed t c ls h) (cases-typed t cs ms g)
