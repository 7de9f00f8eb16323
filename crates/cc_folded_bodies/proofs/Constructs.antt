-- Lines of a body are folded, construct by construct, where the lines in them are (C99 6.8).
use Rattle.std.proofs.Common.{◌≡◌, ℕ, ℤ, Bool, true, false, List, [], ◌∷◌, ◌++◌, map, Option, Some, None, Ok, Err, refl, ap, subst}
use Rattle.std.specs.Prelude.{not, if◌then◌else◌}
use Rattle.cc_program.specs.CcNum.declared.int_type.IntType.{IntType}
use Rattle.cc_program.specs.CcNum.declared.target.Target.{Target}
use Rattle.cc_typed_bodies.specs.CcOperands.Assignments.{assigned}
use Rattle.cc_typed_bodies.specs.CcOperands.Operands.{Operand, converted_to}
use Rattle.cc_typed_bodies.specs.CcOperands.Verdicts.{Judged, must, judge_then}
use Rattle.cc_typed_bodies.specs.CcOperands.declared.rule.Rule.TheVariants as rule
use Rattle.cc_program.proofs.Each.{Each}
use Rattle.cc_program.specs.declared.expr.Expr.{Expr, Seq}
use Rattle.cc_program.specs.declared.expr.Expr.TheOpen as one
use Rattle.cc_program.specs.declared.expr.Expr.TheVariants.{rolls-Seq}
use Rattle.cc_program.specs.declared.program.Roles.{Roles}
use Rattle.cc_program.specs.declared.stmt.Case.{Case}
use Rattle.cc_program.specs.declared.stmt.Stmt.{Stmt, Do, If, While, DoWhile, For, Switch, Break, Continue, Return, Empty, Block}
use Rattle.cc_program.specs.declared.types.CType.{CType}
use Rattle.cc_typed_bodies.specs.CcScopes.State.{State, Name, empty, entered, left}
use Rattle.cc_typed_bodies.specs.CcScopes.Verdicts.{Found, Meaning, whole, and_then, maybe_found}
use Rattle.cc_typed_bodies.specs.CcSpecifiers.declared.storage.Where.TheVariants as stands
use Rattle.cc_eval.specs.CcSyntax.Folding.{variable, is_folded}
use Rattle.cc_eval.specs.CcSyntax.Operators.{is_integer}
use Rattle.cc_eval.specs.CcSyntax.Values.{ValueType, is_void, is_scalar, scalar_value}
use Rattle.cc_typed_bodies.specs.CcTerms.Terms.{here}
use Rattle.cc_tree.specs.declared.at.At.{At}
use Rattle.cc_tree.specs.declared.tree.Tree.{Tree}
use Rattle.cc_tree.specs.declared.unit.Decl.{Decl}
use Rattle.cc_tree.specs.declared.unit.First.{First}
use Rattle.cc_tree.specs.declared.unit.First.TheVariants as first
use Rattle.cc_typed_bodies.specs.Declarations.{declaration}
use Rattle.cc_typed_bodies.specs.Lines.{misplaced, label_found, misplaced_case, case_found, if_found, while_found, do_found, switch_found, for_found}
use Rattle.cc_typed_bodies.specs.Meanings.{LineMeaning, done, scoped, line_found, lines_found, block_found, body_inside, body_found, maybe_body, item_found, items_found, cases_inside, not_switched, switch_body, empty_item, unlabelled}
use Rattle.cc_typed_bodies.specs.Parts.{value_here, effect_found, expression_found, return_found, declared_found, first_found}
use Rattle.cc_typed_bodies.specs.CcTypedStatements.Conditions.{condition, maybe_condition, effect, body_of, then_one, joined_to, joined}
use Rattle.cc_typed_bodies.specs.CcTypedStatements.Jumps.{in_loop, in_switch, break_of, continue_of, returned_by, returned}
use Rattle.cc_typed_bodies.specs.CcTypedStatements.Labels.{no_case, case_label, cases_behind, label_done, behind, behind_empty}
use Rattle.cc_typed_bodies.specs.CcTypedStatements.Statements.{if_of, while_of, do_of, for_of}
use Rattle.cc_typed_bodies.specs.CcTypedStatements.Switch.{switch_type, cases_of, switch_of}
use Rattle.cc_typed_bodies.specs.CcTypedStatements.declared.cases.Cases.{Cases}
use Rattle.cc_typed_bodies.specs.CcTypedStatements.declared.jumps.Jumps.{Jumps}
use Rattle.cc_folded_operands.specs.Folded.{IsFoldedOperand}
use Rattle.cc_folded_operands.proofs.Assignments.{assigned_folded}
use Rattle.cc_folded_operands.proofs.Conversions.{converted_folded}
use Rattle.cc_folded_operands.proofs.Opened.{variable_at, is_variable_folded}
use Rattle.cc_folded_operands.proofs.Verdicts.{ok_is, must_ok, value_ok, structure_ok, then_ok, both}
use Rattle.cc_folded_terms.proofs.Founds.{answer_is, then_found, whole_found, in_turn_found}
use Rattle.cc_folded_terms.proofs.TreeInduction.{tree_folds}
use Rattle.cc_folded_terms.proofs.Trees.{value_folds}
use Rattle.cc_folded_bodies.proofs.Declarations.{declaration_folded}
use Rattle.cc_folded_bodies.proofs.Statements.{Folded, AreFolded, CasesFolded, IsOptional, append_folded, do_folded, if_folded, while_folded, do_while_folded, for_folded, switch_folded, break_folded, continue_folded, return_folded, empty_folded, block_folded, all_do_folded, body_folded, labelled_folded, behind_folded, behind_empty_folded}

module _ (target : Target) (roles : Roles) where
  abbrev Good : Operand → Type 0
  Good x = IsFoldedOperand target x

  abbrev MaybeGood : Option Operand → Type 0
  MaybeGood None = Unit {0}
  MaybeGood (Some x) = Good x

  abbrev Statements : List Stmt → Type 0
  Statements ss = AreFolded target ss

  abbrev pub MaybeCases : Option Cases → Type 0
  MaybeCases None = Unit {0}
  MaybeCases (Some c) = CasesFolded target c.cases

  -- what holds of a line, where it stands alone, as the body of a `switch`, and in one
  pub record LineFolds (m : LineMeaning) : Type 0 where
    pub line : (j : Jumps) (at : ℕ) (s : State) (r : List Stmt × State) → m.line j at s ≡ Ok r → Statements r.0
    pub switched : (j : Jumps) (t : IntType) (at : ℕ) (s : State) (r : Option Cases × State) → m.switched j t at s ≡ Ok r → MaybeCases r.0
    pub item : (j : Jumps) (t : IntType) (cases : Cases) (at : ℕ) (s : State) (r : Cases × State) → CasesFolded target cases.cases → m.item j t cases at s ≡ Ok r → CasesFolded target r.0.cases

  done_folded : (x : Stmt) (s : State) (r : List Stmt × State) → Statements (x ∷ []) → done x s ≡ Ok r → Statements r.0
  done_folded x s r f h = subst Statements (answer_is (x ∷ []) s r h) f

  -- ---- expressions

  value_folded : (e : At Tree) (s : State) (r : Operand × State) → value_here target roles e s ≡ Ok r → Good r.0
  unfolding value_here
  value_folded e s r h = value_folds target (here target roles e) (tree_folds target roles e.node) s r h

  effect_is : (x : Operand) (e : Expr) → Good x → effect x ≡ Ok e → Folded target e
  effect_is x e d h = subst (Folded target) (ok_is (structure_ok x (Ok x.value) e h)) d.folded

  effect_folded : (e : At Tree) (s : State) (r : Expr × State) → effect_found target roles e s ≡ Ok r → Folded target r.0
  unfolding effect_found
  effect_folded e s r h =
      let x = then_found (value_here target roles e s) (λ x s. whole e.at s (effect x)) r h in
      effect_is x.0.0 r.0 (value_folded e s x.0 x.1) (whole_found e.at x.0.1 (effect x.0.0) r x.2)

  pub expression_folded : (e : Option (At Tree)) (s : State) (r : List Stmt × State) → expression_found target roles e s ≡ Ok r → Statements r.0
  unfolding expression_found
  expression_folded None s r h = done_folded Empty s r (empty_folded target) h
  expression_folded (Some e) s r h =
      let x = then_found (effect_found target roles e s) (λ e s. done (Do e) s) r h in done_folded (Do x.0.0) x.0.1 r (do_folded target x.0.0 (effect_folded e s x.0 x.1)) x.2

  maybe_value : (e : Option (At Tree)) (s : State) (r : Option Operand × State) → maybe_found (value_here target roles) e s ≡ Ok r → MaybeGood r.0
  maybe_value None s r h = subst MaybeGood (answer_is None s r h) tt
  maybe_value (Some e) s r h =
      let x = then_found (value_here target roles e s) (λ x s. Ok (Some x, s)) r h in subst MaybeGood (answer_is (Some x.0.0) x.0.1 r x.2) (value_folded e s x.0 x.1)

  maybe_effect : (e : Option (At Tree)) (s : State) (r : Option Expr × State) → maybe_found (effect_found target roles) e s ≡ Ok r → IsOptional target r.0
  maybe_effect None s r h = subst (IsOptional target) (answer_is None s r h) refl
  maybe_effect (Some e) s r h =
      let x = then_found (effect_found target roles e s) (λ x s. Ok (Some x, s)) r h in subst (IsOptional target) (answer_is (Some x.0.0) x.0.1 r x.2) (effect_folded e s x.0 x.1)

  -- ---- `return`

  value_returned : (x : Operand) (o : Option ValueType) (r : List Stmt) → Good x → returned_by target x o ≡ Ok r → Statements r
  value_returned x None r d h = absurd (cc)
  value_returned x (Some to) r d h =
      let y = then_ok (assigned target to x) (λ y. Ok (Return (Some y.value) ∷ [])) r h in
      subst Statements (ok_is y.2) (return_folded target (Some y.0.value) (assigned_folded target to x y.0 d y.1))

  returned_if : (b : Bool) (t : CType) (x : Operand) (r : List Stmt) → Good x → (if b then Err rule.ReturnValue else returned_by target x (scalar_value t)) ≡ Ok r → Statements r
  returned_if true t x r d h = absurd (cc)
  returned_if false t x r d h = value_returned x (scalar_value t) r d h

  returned_folded : (t : CType) (o : Option Operand) (r : List Stmt) → MaybeGood o → returned target t o ≡ Ok r → Statements r
  returned_folded t None r d h = subst Statements (ok_is (must_ok (is_void t) rule.ReturnValue (Ok (Return None ∷ [])) r h).1) (return_folded target None refl)
  returned_folded t (Some x) r d h = returned_if (is_void t) t x r d h

  pub return_is_folded : (result : CType) (e : Option (At Tree)) (at : ℕ) (s : State) (r : List Stmt × State) → return_found target roles result e at s ≡ Ok r → Statements r.0
  unfolding return_found
  return_is_folded result e at s r h =
      let x = then_found (maybe_found (value_here target roles) e s) (λ x s. whole at s (returned target result x)) r h in
      returned_folded result x.0.0 r.0 (maybe_value e s x.0 x.1) (whole_found at x.0.1 (returned target result x.0.0) r x.2)

  -- ---- declarations

  seq_folded : (a b : Expr) → Folded target a → Folded target b → Folded target (Seq a b)
  seq_folded a b h k = is_variable_folded target (Seq a b) (variable_at target (Seq a b) (one.Seq a b) (rolls-Seq a b) refl (ap variable (both (is_folded target a) (is_folded target b) h k)))

  then_one_folded : (before : Option Expr) (e : Expr) → IsOptional target before → Folded target e → IsOptional target (then_one before e)
  then_one_folded None e h k = k
  then_one_folded (Some a) e h k = seq_folded a e h k

  joined_folded : (before : Option Expr) (es : List Expr) → IsOptional target before → Each (Folded target) es → IsOptional target (joined_to before es)
  joined_folded before [] h k = h
  joined_folded before (e ∷ es) h k = joined_folded (then_one before e) es (then_one_folded before e h k.0) k.1

  module _ (defined : List Name) where
    pub declared_folded : (d : Decl) (s : State) (r : List Stmt × State) → declared_found target roles defined d s ≡ Ok r → Statements r.0
    unfolding declared_found
    declared_folded d s r h =
        let x = then_found (declaration target roles defined stands.InBlock d s) (λ es s. Ok (map Do es, s)) r h in
        subst Statements (answer_is (map Do x.0.0) x.0.1 r x.2) (all_do_folded target x.0.0 (declaration_folded target roles defined stands.InBlock d s x.0 x.1))

    first_folded : (f : First) (s : State) (r : Option Expr × State) → first_found target roles defined f s ≡ Ok r → IsOptional target r.0
    unfolding first_found
    first_folded (first.Decl d) s r h =
        let x = then_found (declaration target roles defined stands.InFor d s) (λ es s. Ok (joined es, s)) r h in
        subst (IsOptional target) (answer_is (joined x.0.0) x.0.1 r x.2) (joined_folded None x.0.0 refl (declaration_folded target roles defined stands.InFor d s x.0 x.1))
    first_folded (first.Expr e) s r h = maybe_effect e s r h

  -- ---- scopes, and lines one behind another

  pub scoped_folded : {A : Type 0} (P : A → Type 0) (inner : State → Found A) (s : State) (r : A × State) → ((x : A × State) → inner (entered empty s) ≡ Ok x → P x.0) → scoped inner s ≡ Ok r → P r.0
  unfolding scoped
  scoped_folded P inner s r f h = let x = then_found (inner (entered empty s)) (λ x s. Ok (x, left s)) r h in subst P (answer_is x.0.0 (left x.0.1) r x.2) (f x.0 x.1)

  line_next : (j : Jumps) (l : At LineMeaning) → LineFolds l.node → (before : List Stmt) (s : State) (r : List Stmt × State) → Statements before → line_found j l before s ≡ Ok r → Statements r.0
  line_next j l hl before s r k h =
      let x = then_found (l.node.line j l.at s) (λ ss s. Ok (before ++ ss, s)) r h in
      subst Statements (answer_is (before ++ x.0.0) x.0.1 r x.2) (append_folded target before x.0.0 k (hl.line j l.at s x.0 x.1))

  pub lines_folded : (j : Jumps) (ls : List (At LineMeaning)) → Each (λ (l : At LineMeaning). LineFolds l.node) ls → (s : State) (r : List Stmt × State) → lines_found j ls s ≡ Ok r → Statements r.0
  unfolding lines_found
  lines_folded j ls hl s r h = in_turn_found (line_found j) (λ (l : At LineMeaning). LineFolds l.node) Statements (line_next j) ls hl [] s r refl h

  pub block_is_folded : (j : Jumps) (ls : List (At LineMeaning)) → Each (λ (l : At LineMeaning). LineFolds l.node) ls → (s : State) (r : List Stmt × State) → block_found j ls s ≡ Ok r → Statements r.0
  unfolding block_found
  block_is_folded j ls hl s r h =
      let x = then_found (lines_found j ls s) (λ ss s. done (Block ss) s) r h in done_folded (Block x.0.0) x.0.1 r (block_folded target x.0.0 (lines_folded j ls hl s x.0 x.1)) x.2

  inside_is : (j : Jumps) (l : At LineMeaning) → LineFolds l.node → (s : State) (r : List Stmt × State) → body_inside j l s ≡ Ok r → Statements r.0
  unfolding body_inside
  inside_is j l hl s r h =
      let x = then_found (l.node.line j l.at s) (λ ss s. Ok (body_of ss, s)) r h in subst Statements (answer_is (body_of x.0.0) x.0.1 r x.2) (body_folded target x.0.0 (hl.line j l.at s x.0 x.1))

  body_is : (j : Jumps) (l : At LineMeaning) → LineFolds l.node → (s : State) (r : List Stmt × State) → body_found j l s ≡ Ok r → Statements r.0
  body_is j l hl s r h = scoped_folded Statements (body_inside j l) s r (λ x e. inside_is j l hl (entered empty s) x e) h

  abbrev pub MaybeFolds : Option (At LineMeaning) → Type 0
  MaybeFolds None = Unit {0}
  MaybeFolds (Some l) = LineFolds l.node

  maybe_is : (j : Jumps) (l : Option (At LineMeaning)) → MaybeFolds l → (s : State) (r : List Stmt × State) → maybe_body j l s ≡ Ok r → Statements r.0
  unfolding maybe_body
  maybe_is j None hl s r h = subst Statements (answer_is [] s r h) refl
  maybe_is j (Some l) hl s r h = body_is j l hl s r h

  -- ---- choices and loops

  condition_is : (x : Operand) (e : Expr) → Good x → condition x ≡ Ok e → Folded target e
  condition_is x e d h =
      let next = must (is_scalar x.type) rule.NoScalar (Ok x.value) in
      subst (Folded target) (ok_is (must_ok (is_scalar x.type) rule.NoScalar (Ok x.value) e (value_ok x next e h)).1) d.folded

  pub if_is_folded : (e : At Tree) (a : At LineMeaning) → LineFolds a.node → (b : Option (At LineMeaning)) → MaybeFolds b → (j : Jumps) (at : ℕ) (s : State) (r : List Stmt × State) → if_found target roles e a b j at s ≡ Ok r → Statements r.0
  unfolding if_found
  if_is_folded e a ha b hb j at s r h =
      let x = then_found (value_here target roles e s) (λ x s. and_then (body_found j a s) (λ these s. and_then (maybe_body j b s) (λ those s. whole at s (if_of x these those)))) r h in
      let y = then_found (body_found j a x.0.1) (λ these s. and_then (maybe_body j b s) (λ those s. whole at s (if_of x.0.0 these those))) r x.2 in
      let z = then_found (maybe_body j b y.0.1) (λ those s. whole at s (if_of x.0.0 y.0.0 those)) r y.2 in
      let q = then_ok (condition x.0.0) (λ e. Ok (If e y.0.0 z.0.0 ∷ [])) r.0 (whole_found at z.0.1 (if_of x.0.0 y.0.0 z.0.0) r z.2) in
      subst Statements (ok_is q.2) (if_folded target q.0 y.0.0 z.0.0 (condition_is x.0.0 q.0 (value_folded e s x.0 x.1) q.1) (body_is j a ha x.0.1 y.0 y.1) (maybe_is j b hb y.0.1 z.0 z.1))

  pub while_is_folded : (e : At Tree) (a : At LineMeaning) → LineFolds a.node → (j : Jumps) (at : ℕ) (s : State) (r : List Stmt × State) → while_found target roles e a j at s ≡ Ok r → Statements r.0
  unfolding while_found
  while_is_folded e a ha j at s r h =
      let x = then_found (value_here target roles e s) (λ x s. and_then (body_found (in_loop j) a s) (λ body s. whole at s (while_of x body))) r h in
      let y = then_found (body_found (in_loop j) a x.0.1) (λ body s. whole at s (while_of x.0.0 body)) r x.2 in
      let q = then_ok (condition x.0.0) (λ e. Ok (While e y.0.0 ∷ [])) r.0 (whole_found at y.0.1 (while_of x.0.0 y.0.0) r y.2) in
      subst Statements (ok_is q.2) (while_folded target q.0 y.0.0 (condition_is x.0.0 q.0 (value_folded e s x.0 x.1) q.1) (body_is (in_loop j) a ha x.0.1 y.0 y.1))

  pub do_is_folded : (a : At LineMeaning) → LineFolds a.node → (e : At Tree) (j : Jumps) (at : ℕ) (s : State) (r : List Stmt × State) → do_found target roles a e j at s ≡ Ok r → Statements r.0
  unfolding do_found
  do_is_folded a ha e j at s r h =
      let y = then_found (body_found (in_loop j) a s) (λ body s. and_then (value_here target roles e s) (λ x s. whole at s (do_of body x))) r h in
      let x = then_found (value_here target roles e y.0.1) (λ x s. whole at s (do_of y.0.0 x)) r y.2 in
      let q = then_ok (condition x.0.0) (λ e. Ok (DoWhile y.0.0 e ∷ [])) r.0 (whole_found at x.0.1 (do_of y.0.0 x.0.0) r x.2) in
      subst Statements (ok_is q.2) (do_while_folded target y.0.0 q.0 (condition_is x.0.0 q.0 (value_folded e y.0.1 x.0 x.1) q.1) (body_is (in_loop j) a ha s y.0 y.1))

  test_is : (o : Option Operand) (r : Option Expr) → MaybeGood o → maybe_condition o ≡ Ok r → IsOptional target r
  test_is None r d h = subst (IsOptional target) (ok_is h) refl
  test_is (Some x) r d h = let y = then_ok (condition x) (λ e. Ok (Some e)) r h in subst (IsOptional target) (ok_is y.2) (condition_is x y.0 d y.1)

  pub for_is_folded : (defined : List Name) (f : First) (test step : Option (At Tree)) (a : At LineMeaning) → LineFolds a.node → (j : Jumps) (at : ℕ) (s : State) (r : List Stmt × State) →
      for_found target roles defined f test step a j at s ≡ Ok r → Statements r.0
  unfolding for_found
  for_is_folded defined f test step a ha j at s r h =
      let x = then_found (first_found target roles defined f s)
      (λ f s. and_then (maybe_found (value_here target roles) test s) (λ test s. and_then (maybe_found (effect_found target roles) step s) (λ step s. and_then (body_found (in_loop j) a s) (λ body s. whole at s (for_of f test step body))))) r h in
      let y = then_found (maybe_found (value_here target roles) test x.0.1)
      (λ test s. and_then (maybe_found (effect_found target roles) step s) (λ step s. and_then (body_found (in_loop j) a s) (λ body s. whole at s (for_of x.0.0 test step body)))) r x.2 in
      let z = then_found (maybe_found (effect_found target roles) step y.0.1) (λ step s. and_then (body_found (in_loop j) a s) (λ body s. whole at s (for_of x.0.0 y.0.0 step body))) r y.2 in
      let b = then_found (body_found (in_loop j) a z.0.1) (λ body s. whole at s (for_of x.0.0 y.0.0 z.0.0 body)) r z.2 in
      let q = then_ok (maybe_condition y.0.0) (λ test. Ok (For x.0.0 test z.0.0 b.0.0 ∷ [])) r.0 (whole_found at b.0.1 (for_of x.0.0 y.0.0 z.0.0 b.0.0) r b.2) in
      subst Statements (ok_is q.2)
      (for_folded target x.0.0 q.0 z.0.0 b.0.0 (first_folded defined f s x.0 x.1) (test_is y.0.0 q.0 (maybe_value test x.0.1 y.0 y.1) q.1) (maybe_effect step y.0.1 z.0 z.1) (body_is (in_loop j) a ha z.0.1 b.0 b.1))

  -- ---- `break` and `continue`

  pub break_is_folded : (j : Jumps) (at : ℕ) (s : State) (r : List Stmt × State) → whole at s (break_of j) ≡ Ok r → Statements r.0
  break_is_folded j at s r h = subst Statements (ok_is (must_ok j.breaks rule.Break (Ok (Break ∷ [])) r.0 (whole_found at s (break_of j) r h)).1) (break_folded target)

  pub continue_is_folded : (j : Jumps) (at : ℕ) (s : State) (r : List Stmt × State) → whole at s (continue_of j) ≡ Ok r → Statements r.0
  continue_is_folded j at s r h = subst Statements (ok_is (must_ok j.continues rule.Continue (Ok (Continue ∷ [])) r.0 (whole_found at s (continue_of j) r h)).1) (continue_folded target)

  -- ---- labels elsewhere than in a `switch` are at fault

  never_found : {A B : Type 0} (found : Found A) (at : ℕ) (r : B × State) → and_then found (λ x s. whole at s (Err rule.CaseLabel)) ≡ Ok r → ⊥
  never_found (Ok x) at r h = absurd (cc)
  never_found (Err fault) at r h = absurd (cc)

  pub misplaced_never : (a : At LineMeaning) (j : Jumps) (at : ℕ) (s : State) (r : List Stmt × State) → misplaced a j at s ≡ Ok r → ⊥
  unfolding misplaced
  misplaced_never a j at s r h = never_found (a.node.line j a.at s) at r h

  pub misplaced_case_never : (e : At Tree) (a : At LineMeaning) (j : Jumps) (at : ℕ) (s : State) (r : List Stmt × State) → misplaced_case target roles e a j at s ≡ Ok r → ⊥
  unfolding misplaced_case
  misplaced_case_never e a j at s r h = let x = then_found (value_here target roles e s) (λ x s. misplaced a j at s) r h in misplaced_never a j at x.0.1 r x.2

  -- ---- the cases of a `switch`

  abbrev Items : Cases → Type 0
  Items c = CasesFolded target c.cases

  behind_label : (l : Judged (Option ℤ)) (cases : Cases) → Items cases → Items (cases_behind l cases)
  behind_label (Ok l) cases k = labelled_folded target l cases k
  behind_label (Err broken) cases k = k

  label_done_folded : (l : Judged (Option ℤ)) (x r : Cases) → Items x → label_done l x ≡ Ok r → Items r
  label_done_folded (Ok l) x r k h = subst Items (ok_is h) k
  label_done_folded (Err broken) x r k h = absurd (cc)

  pub label_is_folded : (l : Judged (Option ℤ)) (a : At LineMeaning) → LineFolds a.node → (j : Jumps) (t : IntType) (cases : Cases) (at : ℕ) (s : State) (r : Cases × State) → Items cases → label_found l a j t cases at s ≡ Ok r → Items r.0
  unfolding label_found
  label_is_folded l a ha j t cases at s r k h =
      let x = then_found (a.node.item j t (cases_behind l cases) a.at s) (λ cases s. whole at s (label_done l cases)) r h in
      label_done_folded l x.0.0 r.0 (ha.item j t (cases_behind l cases) a.at s x.0 (behind_label l cases k) x.1) (whole_found at x.0.1 (label_done l x.0.0) r x.2)

  pub case_is_folded : (e : At Tree) (a : At LineMeaning) → LineFolds a.node → (j : Jumps) (t : IntType) (cases : Cases) (at : ℕ) (s : State) (r : Cases × State) → Items cases → case_found target roles e a j t cases at s ≡ Ok r → Items r.0
  unfolding case_found
  case_is_folded e a ha j t cases at s r k h =
      let x = then_found (value_here target roles e s) (λ x s. label_found (case_label target t x cases) a j t cases at s) r h in label_is_folded (case_label target t x.0.0 cases) a ha j t cases at x.0.1 r k x.2

  abbrev pub LineIs : (Jumps → Meaning (List Stmt)) → Type 0
  LineIs line = (j : Jumps) (at : ℕ) (s : State) (r : List Stmt × State) → line j at s ≡ Ok r → Statements r.0

  unlabelled_by : (empty counts : Bool) (line : Jumps → Meaning (List Stmt)) → LineIs line → (j : Jumps) (cases : Cases) (at : ℕ) (s : State) (r : Cases × State) → Items cases →
      (if empty then empty_item cases s else and_then (line j at s) (λ ss s. Ok (behind counts ss cases, s))) ≡ Ok r → Items r.0
  unlabelled_by true counts line hl j cases at s r k h = subst Items (answer_is (behind_empty (Empty ∷ []) cases) s r h) (behind_empty_folded target (Empty ∷ []) cases (empty_folded target) k)
  unlabelled_by false counts line hl j cases at s r k h =
      let x = then_found (line j at s) (λ ss s. Ok (behind counts ss cases, s)) r h in subst Items (answer_is (behind counts x.0.0 cases) x.0.1 r x.2) (behind_folded target counts x.0.0 cases (hl j at s x.0 x.1) k)

  pub unlabelled_folded : (empty counts : Bool) (line : Jumps → Meaning (List Stmt)) → LineIs line → (j : Jumps) (cases : Cases) (at : ℕ) (s : State) (r : Cases × State) → Items cases → unlabelled empty counts line j cases at s ≡ Ok r → Items r.0
  unfolding unlabelled
  unlabelled_folded empty counts line hl j cases at s r k h = unlabelled_by empty counts line hl j cases at s r k h

  -- ---- the body of a `switch`

  item_next : (j : Jumps) (t : IntType) (l : At LineMeaning) → LineFolds l.node → (cases : Cases) (s : State) (r : Cases × State) → Items cases → item_found j t l cases s ≡ Ok r → Items r.0
  item_next j t l hl cases s r k h = hl.item j t cases l.at s r k h

  items_folded : (j : Jumps) (t : IntType) (ls : List (At LineMeaning)) → Each (λ (l : At LineMeaning). LineFolds l.node) ls → (s : State) (r : Cases × State) → items_found j t ls s ≡ Ok r → Items r.0
  unfolding items_found
  items_folded j t ls hl s r h = in_turn_found (item_found j t) (λ (l : At LineMeaning). LineFolds l.node) Items (item_next j t) ls hl no_case s r tt h

  cases_folded : (j : Jumps) (t : IntType) (ls : List (At LineMeaning)) → Each (λ (l : At LineMeaning). LineFolds l.node) ls → (s : State) (r : Option Cases × State) → cases_inside j t ls s ≡ Ok r → MaybeCases r.0
  unfolding cases_inside
  cases_folded j t ls hl s r h =
      let x = then_found (items_found j t ls s) (λ cases s. Ok (Some cases, s)) r h in subst MaybeCases (answer_is (Some x.0.0) x.0.1 r x.2) (items_folded j t ls hl s x.0 x.1)

  pub switch_block : (j : Jumps) (t : IntType) (ls : List (At LineMeaning)) → Each (λ (l : At LineMeaning). LineFolds l.node) ls → (s : State) (r : Option Cases × State) → scoped (cases_inside j t ls) s ≡ Ok r → MaybeCases r.0
  switch_block j t ls hl s r h = scoped_folded MaybeCases (cases_inside j t ls) s r (λ x e. cases_folded j t ls hl (entered empty s) x e) h

  pub no_block : (line : Jumps → Meaning (List Stmt)) (j : Jumps) (at : ℕ) (s : State) (r : Option Cases × State) → not_switched line j at s ≡ Ok r → MaybeCases r.0
  unfolding not_switched
  no_block line j at s r h = let x = then_found (line j at s) (λ ss s. Ok (None, s)) r h in subst MaybeCases (answer_is None x.0.1 r x.2) tt

  cases_of_folded : (o : Option Cases) (r : List Case) → MaybeCases o → cases_of o ≡ Ok r → CasesFolded target r
  cases_of_folded None r k h = absurd (cc)
  cases_of_folded (Some c) r k h = subst (CasesFolded target) (ok_is (must_ok (not c.statement_first) rule.Switch (Ok c.cases) r h).1) k

  switch_of_folded : (x : Operand) (o : Option Cases) (r : List Stmt) → Good x → MaybeCases o → switch_of target x o ≡ Ok r → Statements r
  switch_of_folded x o r d k h =
      let e = converted_to target (switch_type target x.type) x in
      let last = judge_then (cases_of o) (λ cs. Ok (Switch e.value cs ∷ [])) in
      let cs = then_ok (cases_of o) (λ cs. Ok (Switch e.value cs ∷ [])) r (must_ok (is_integer x.type) rule.Switch last r (value_ok x (must (is_integer x.type) rule.Switch last) r h)).1 in
      subst Statements (ok_is cs.2) (switch_folded target e.value cs.0 (converted_folded target (switch_type target x.type) x d).folded (cases_of_folded o cs.0 k cs.1))

  pub switch_is_folded : (e : At Tree) (a : At LineMeaning) → LineFolds a.node → (j : Jumps) (at : ℕ) (s : State) (r : List Stmt × State) → switch_found target roles e a j at s ≡ Ok r → Statements r.0
  unfolding switch_found
  switch_is_folded e a ha j at s r h =
      let x = then_found (value_here target roles e s) (λ x s. and_then (switch_body (in_switch j) (switch_type target x.type) a s) (λ cases s. whole at s (switch_of target x cases))) r h in
      let t = switch_type target x.0.0.type in
      let y = then_found (switch_body (in_switch j) t a x.0.1) (λ cases s. whole at s (switch_of target x.0.0 cases)) r x.2 in
      switch_of_folded x.0.0 y.0.0 r.0 (value_folded e s x.0 x.1)
      (scoped_folded MaybeCases (a.node.switched (in_switch j) t a.at) x.0.1 y.0 (λ z i. ha.switched (in_switch j) t a.at (entered empty x.0.1) z i) y.1)
      (whole_found at y.0.1 (switch_of target x.0.0 y.0.0) r y.2)
