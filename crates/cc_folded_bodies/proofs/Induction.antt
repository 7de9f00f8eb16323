-- Lines of a body are folded, by induction over them.
use Rattle.std.proofs.Common.{◌≡◌, ℕ, Bool, true, false, List, [], ◌∷◌, map, Option, Some, None, Ok, sym, subst}
use Rattle.std.specs.Prelude.{if◌then◌else◌}
use Rattle.cc_program.specs.CcNum.declared.int_type.IntType.{IntType}
use Rattle.cc_program.specs.CcNum.declared.target.Target.{Target}
use Rattle.cc_program.proofs.Each.{Each}
use Rattle.cc_program.specs.declared.program.Roles.{Roles}
use Rattle.cc_program.specs.declared.stmt.Stmt.{Stmt}
use Rattle.cc_program.specs.declared.types.CType.{CType}
use Rattle.cc_typed_bodies.specs.CcScopes.State.{State, Name, empty, entered}
use Rattle.cc_tree.specs.declared.at.At.{At}
use Rattle.cc_tree.specs.declared.unit.Line.{Line, roll-Line, map-Line, ind-Line, fold-roll-Line}
use Rattle.cc_tree.specs.declared.unit.Line.TheOpen as one_line
use Rattle.cc_typed_bodies.specs.Lines.{inside, line_by, switched_by, item_by, line_step, line_of}
use Rattle.cc_typed_bodies.specs.Meanings.{LineMeaning, scoped, opens_scope, lines_found, not_switched, is_empty, counts, unlabelled}
use Rattle.cc_typed_bodies.specs.CcTypedStatements.Labels.{default_label}
use Rattle.cc_typed_bodies.specs.CcTypedStatements.declared.cases.Cases.{Cases}
use Rattle.cc_typed_bodies.specs.CcTypedStatements.declared.jumps.Jumps.{Jumps}
use Rattle.cc_folded_bodies.proofs.Constructs.{MaybeCases, LineFolds, LineIs, expression_folded, return_is_folded, declared_folded, scoped_folded, lines_folded, block_is_folded, if_is_folded, while_is_folded, do_is_folded, for_is_folded, break_is_folded, continue_is_folded, misplaced_never, misplaced_case_never, label_is_folded, case_is_folded, unlabelled_folded, switch_block, no_block, switch_is_folded}
use Rattle.cc_folded_bodies.proofs.Statements.{AreFolded, CasesFolded}

module _ (target : Target) (roles : Roles) (defined : List Name) (result : CType) where
  abbrev Folds : LineMeaning → Type 0
  Folds m = LineFolds target roles m

  abbrev of : Line → LineMeaning
  of l = line_of target roles defined result l

  abbrev P : Line → Type 0
  P l = Folds (of l)

  abbrev SomeLine : Type 0
  SomeLine = (l : Line) × P l

  abbrev bare : one_line.Line-F SomeLine → one_line.Line-F Line
  bare y = map-Line SomeLine Line (λ l. l.0) y

  abbrev meant : one_line.Line-F SomeLine → one_line.Line-F LineMeaning
  meant y = map-Line Line LineMeaning of (bare y)

  line-means : (x : one_line.Line-F Line) → of (roll-Line x) ≡ line_step target roles defined result (map-Line Line LineMeaning of x)
  unfolding line_of
  line-means x = fold-roll-Line LineMeaning (line_step target roles defined result) x

  -- ---- the parts of a line

  abbrev here : At SomeLine → At LineMeaning
  here a = record { at = a.at; node = of a.node.0 }

  abbrev bare_at : At SomeLine → At Line
  bare_at a = record { at = a.at; node = a.node.0 }

  abbrev meant_at : At Line → At LineMeaning
  meant_at a = record { at = a.at; node = of a.node }

  each_line : (ls : List (At SomeLine)) → Each (λ (a : At LineMeaning). Folds a.node) (map meant_at (map bare_at ls))
  each_line [] = tt
  each_line (l ∷ ls) = (l.node.1, each_line ls)

  -- ---- a line, inside its scope and in it

  line_if : (x : one_line.Line-F LineMeaning) (b : Bool) → LineIs target roles (inside target roles defined result x) → (j : Jumps) (at : ℕ) (s : State) (r : List Stmt × State) →
      (if b then scoped (inside target roles defined result x j at) s else inside target roles defined result x j at s) ≡ Ok r → AreFolded target r.0
  line_if x true f j at s r h = scoped_folded target roles (AreFolded target) (inside target roles defined result x j at) s r (λ y i. f j at (entered empty s) y i) h
  line_if x false f j at s r h = f j at s r h

  line_is : (x : one_line.Line-F LineMeaning) → LineIs target roles (inside target roles defined result x) → LineIs target roles (line_by target roles defined result x)
  line_is x f j at s r h = line_if x (opens_scope x) f j at s r h

  inside_folds : (y : one_line.Line-F SomeLine) → LineIs target roles (inside target roles defined result (meant y))
  inside_folds (one_line.Block ls) j at s r h = block_is_folded target roles j (map meant_at (map bare_at ls)) (each_line ls) s r h
  inside_folds (one_line.Decl x) j at s r h = declared_folded target roles defined x s r h
  inside_folds (one_line.Expr e) j at s r h = expression_folded target roles e s r h
  inside_folds (one_line.If e a None) j at s r h = if_is_folded target roles e (here a) a.node.1 None tt j at s r h
  inside_folds (one_line.If e a (Some b)) j at s r h = if_is_folded target roles e (here a) a.node.1 (Some (here b)) b.node.1 j at s r h
  inside_folds (one_line.While e a) j at s r h = while_is_folded target roles e (here a) a.node.1 j at s r h
  inside_folds (one_line.DoWhile a e) j at s r h = do_is_folded target roles (here a) a.node.1 e j at s r h
  inside_folds (one_line.For f test step a) j at s r h = for_is_folded target roles defined f test step (here a) a.node.1 j at s r h
  inside_folds (one_line.Switch e a) j at s r h = switch_is_folded target roles e (here a) a.node.1 j at s r h
  inside_folds (one_line.Case e a) j at s r h = absurd (misplaced_case_never target roles e (here a) j at s r h)
  inside_folds (one_line.Default a) j at s r h = absurd (misplaced_never target roles (here a) j at s r h)
  inside_folds one_line.Break j at s r h = break_is_folded target roles j at s r h
  inside_folds one_line.Continue j at s r h = continue_is_folded target roles j at s r h
  inside_folds (one_line.Return e) j at s r h = return_is_folded target roles result e at s r h

  line_folds : (y : one_line.Line-F SomeLine) → LineIs target roles (line_by target roles defined result (meant y))
  line_folds y = line_is (meant y) (inside_folds y)

  -- ---- as the body of a `switch`, and in one

  abbrev SwitchedIs : one_line.Line-F LineMeaning → Type 0
  SwitchedIs x = (j : Jumps) (t : IntType) (at : ℕ) (s : State) (r : Option Cases × State) → switched_by target roles defined result x j t at s ≡ Ok r → MaybeCases target roles r.0

  other_switched : (x : one_line.Line-F LineMeaning) (j : Jumps) (at : ℕ) (s : State) (r : Option Cases × State) → not_switched (line_by target roles defined result x) j at s ≡ Ok r → MaybeCases target roles r.0
  other_switched x j at s r h = no_block target roles (line_by target roles defined result x) j at s r h

  switched_folds : (y : one_line.Line-F SomeLine) → SwitchedIs (meant y)
  switched_folds (one_line.Block ls) j t at s r h = switch_block target roles j t (map meant_at (map bare_at ls)) (each_line ls) s r h
  switched_folds (one_line.Decl x) j t at s r h = other_switched (meant (one_line.Decl x)) j at s r h
  switched_folds (one_line.Expr e) j t at s r h = other_switched (meant (one_line.Expr e)) j at s r h
  switched_folds (one_line.If e a b) j t at s r h = other_switched (meant (one_line.If e a b)) j at s r h
  switched_folds (one_line.While e a) j t at s r h = other_switched (meant (one_line.While e a)) j at s r h
  switched_folds (one_line.DoWhile a e) j t at s r h = other_switched (meant (one_line.DoWhile a e)) j at s r h
  switched_folds (one_line.For f test step a) j t at s r h = other_switched (meant (one_line.For f test step a)) j at s r h
  switched_folds (one_line.Switch e a) j t at s r h = other_switched (meant (one_line.Switch e a)) j at s r h
  switched_folds (one_line.Case e a) j t at s r h = other_switched (meant (one_line.Case e a)) j at s r h
  switched_folds (one_line.Default a) j t at s r h = other_switched (meant (one_line.Default a)) j at s r h
  switched_folds one_line.Break j t at s r h = other_switched (meant one_line.Break) j at s r h
  switched_folds one_line.Continue j t at s r h = other_switched (meant one_line.Continue) j at s r h
  switched_folds (one_line.Return e) j t at s r h = other_switched (meant (one_line.Return e)) j at s r h

  abbrev ItemIs : one_line.Line-F LineMeaning → Type 0
  ItemIs x = (j : Jumps) (t : IntType) (cases : Cases) (at : ℕ) (s : State) (r : Cases × State) → CasesFolded target cases.cases → item_by target roles defined result x j t cases at s ≡ Ok r → CasesFolded target r.0.cases

  other_item : (y : one_line.Line-F SomeLine) (j : Jumps) (cases : Cases) (at : ℕ) (s : State) (r : Cases × State) → CasesFolded target cases.cases →
      unlabelled (is_empty (meant y)) (counts (meant y)) (line_by target roles defined result (meant y)) j cases at s ≡ Ok r → CasesFolded target r.0.cases
  other_item y j cases at s r k h = unlabelled_folded target roles (is_empty (meant y)) (counts (meant y)) (line_by target roles defined result (meant y)) (line_folds y) j cases at s r k h

  item_folds : (y : one_line.Line-F SomeLine) → ItemIs (meant y)
  item_folds (one_line.Block ls) j t cases at s r k h = other_item (one_line.Block ls) j cases at s r k h
  item_folds (one_line.Decl x) j t cases at s r k h = other_item (one_line.Decl x) j cases at s r k h
  item_folds (one_line.Expr e) j t cases at s r k h = other_item (one_line.Expr e) j cases at s r k h
  item_folds (one_line.If e a b) j t cases at s r k h = other_item (one_line.If e a b) j cases at s r k h
  item_folds (one_line.While e a) j t cases at s r k h = other_item (one_line.While e a) j cases at s r k h
  item_folds (one_line.DoWhile a e) j t cases at s r k h = other_item (one_line.DoWhile a e) j cases at s r k h
  item_folds (one_line.For f test step a) j t cases at s r k h = other_item (one_line.For f test step a) j cases at s r k h
  item_folds (one_line.Switch e a) j t cases at s r k h = other_item (one_line.Switch e a) j cases at s r k h
  item_folds (one_line.Case e a) j t cases at s r k h = case_is_folded target roles e (here a) a.node.1 j t cases at s r k h
  item_folds (one_line.Default a) j t cases at s r k h = label_is_folded target roles (default_label cases) (here a) a.node.1 j t cases at s r k h
  item_folds one_line.Break j t cases at s r k h = other_item one_line.Break j cases at s r k h
  item_folds one_line.Continue j t cases at s r k h = other_item one_line.Continue j cases at s r k h
  item_folds (one_line.Return e) j t cases at s r k h = other_item (one_line.Return e) j cases at s r k h

  level : (y : one_line.Line-F SomeLine) → Folds (line_step target roles defined result (meant y))
  level y = record { line = line_folds y; switched = switched_folds y; item = item_folds y }

  made : (y : one_line.Line-F SomeLine) → P (roll-Line (bare y))
  made y = subst Folds (sym (line-means (bare y))) (level y)

  line_is_folded : (l : Line) → P l
  line_is_folded l = ind-Line P (λ x y e. subst (λ (z : one_line.Line-F Line). P (roll-Line z)) e (made y)) l

  all_folded : (ls : List (At Line)) → Each (λ (a : At LineMeaning). Folds a.node) (map meant_at ls)
  all_folded [] = tt
  all_folded (l ∷ ls) = (line_is_folded l.node, all_folded ls)

  pub body_folds : (ls : List (At Line)) (j : Jumps) (s : State) (r : List Stmt × State) → lines_found j (map meant_at ls) s ≡ Ok r → AreFolded target r.0
  body_folds ls j s r h = lines_folded target roles j (map meant_at ls) (all_folded ls) s r h
