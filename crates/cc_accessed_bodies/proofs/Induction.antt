-- Lines of a body access each device without a name that they declare, by induction over them (C99 6.8).
use Rattle.std.proofs.Common.{◌≡◌, ◌∙◌, ℕ, Bool, true, false, ◌&&◌, List, [], ◌∷◌, map, Option, Some, None, Ok, refl, ap, sym, subst}
use Rattle.std.specs.Prelude.{if◌then◌else◌}
use Rattle.std.specs.List.{list_any}
use Rattle.cc_accessed_terms.specs.Accounted.{Accounts}
use Rattle.cc_accessed_terms.proofs.Founds.{then_found}
use Rattle.cc_program.specs.CcNum.declared.int_type.IntType.{IntType}
use Rattle.cc_program.specs.CcNum.declared.target.Target.{Target}
use Rattle.cc_type.specs.CcObjects.Categories.{is_given}
use Rattle.cc_program.specs.declared.expr.Expr.{Expr}
use Rattle.cc_program.specs.declared.program.Roles.{Roles}
use Rattle.cc_program.specs.declared.stmt.Stmt.{Stmt, Do}
use Rattle.cc_program.specs.declared.types.CType.{CType}
use Rattle.cc_read_sound.specs.Ranges.{each_fits, first_fits, part_fits, line_fits, line_in_range}
use Rattle.cc_type.specs.CcScopes.State.{State, Name, empty, entered}
use Rattle.cc_sound_declarations.specs.Ranges.{decl_fits}
use Rattle.cc_sound_terms.specs.Ranges.{all_fit, fits}
use Rattle.cc_type.specs.CcSpecifiers.declared.storage.Where.TheVariants as stands
use Rattle.cc_type.proofs.CcSyntax.Prefixes.{both_true}
use Rattle.cc_tree.specs.declared.at.At.{At}
use Rattle.cc_tree.specs.declared.unit.Decl.{Decl}
use Rattle.cc_tree.specs.declared.unit.Line.{Line, roll-Line, map-Line, ind-Line, fold-roll-Line}
use Rattle.cc_tree.specs.declared.unit.Line.TheOpen as one_line
use Rattle.cc_type.specs.CcTypedBodies.Declarations.{declaration}
use Rattle.cc_type.specs.CcTypedBodies.Lines.{inside, line_by, switched_by, item_by, line_step, line_of}
use Rattle.cc_type.specs.CcTypedBodies.Meanings.{LineMeaning, scoped, opens_scope, lines_found, not_switched, is_empty, counts, unlabelled}
use Rattle.cc_type.specs.CcTypedBodies.Parts.{declared_found}
use Rattle.cc_type.specs.CcTypedStatements.Jumps.{break_of, continue_of}
use Rattle.cc_type.specs.CcTypedStatements.Labels.{default_label}
use Rattle.cc_type.specs.CcTypedStatements.declared.cases.Cases.{Cases}
use Rattle.cc_type.specs.CcTypedStatements.declared.jumps.Jumps.{Jumps}
use Rattle.cc_accessed_bodies.proofs.Constructs.{reads, switched_accesses, LineAccounts, AllAccount, LineIs, scoped_accounts, lines_account, block_accounts, expression_accounts, return_accounts, declared_accounts, if_accounts, while_accounts, do_accounts, for_accounts, misplaced_never, misplaced_case_never, label_goes_on, case_goes_on, unlabelled_goes_on, switch_block, no_block, switch_accounts, jump_accounts}
use Rattle.cc_accessed_bodies.proofs.Declarations.{unvalued_assigns_nothing}
use Rattle.cc_accessed_bodies.proofs.Founds.{ends, GoesOn}
use Rattle.cc_accessed_bodies.proofs.Statements.{item_accesses}

module _ (target : Target) (roles : Roles) (defined : List Name) (result : CType) where
  abbrev of : Line → LineMeaning
  of l = line_of target roles defined result l

  abbrev P : Line → Type 0
  P l = line_in_range l ≡ true → LineAccounts (of l)

  abbrev SomeLine : Type 0
  SomeLine = (l : Line) × P l

  abbrev bare : one_line.Line-F SomeLine → one_line.Line-F Line
  bare y = map-Line SomeLine Line (λ l. l.0) y

  abbrev meant : one_line.Line-F SomeLine → one_line.Line-F LineMeaning
  meant y = map-Line Line LineMeaning of (bare y)

  abbrev Fit : one_line.Line-F SomeLine → Type 0
  Fit y = line_fits (map-Line Line Bool line_in_range (bare y)) ≡ true

  line-means : (x : one_line.Line-F Line) → of (roll-Line x) ≡ line_step target roles defined result (map-Line Line LineMeaning of x)
  unfolding line_of
  line-means x = fold-roll-Line LineMeaning (line_step target roles defined result) x

  line-fits : (x : one_line.Line-F Line) → line_in_range (roll-Line x) ≡ line_fits (map-Line Line Bool line_in_range x)
  unfolding line_in_range
  line-fits x = fold-roll-Line Bool line_fits x

  -- ---- the parts of a line

  abbrev here : At SomeLine → At LineMeaning
  here a = record { at = a.at; node = of a.node.0 }

  abbrev bare_at : At SomeLine → At Line
  bare_at a = record { at = a.at; node = a.node.0 }

  abbrev meant_at : At Line → At LineMeaning
  meant_at a = record { at = a.at; node = of a.node }

  abbrev range_at : At Line → At Bool
  range_at a = record { at = a.at; node = line_in_range a.node }

  each_line : (ls : List (At SomeLine)) → all_fit (map range_at (map bare_at ls)) ≡ true → AllAccount (map meant_at (map bare_at ls))
  each_line [] f = tt
  each_line (l ∷ ls) f = let b = both_true (line_in_range l.node.0) (all_fit (map range_at (map bare_at ls))) f in (l.node.1 b.0, each_line ls b.1)

  -- ---- a line, inside its scope and in it

  line_if : (x : one_line.Line-F LineMeaning) (b : Bool) → LineIs true (inside target roles defined result x) → (j : Jumps) (at : ℕ) (s : State) (r : List Stmt × State) →
      (if b then scoped (inside target roles defined result x j at) s else inside target roles defined result x j at s) ≡ Ok r → Accounts (reads r.0) s r.1
  line_if x true f j at s r h = scoped_accounts reads (inside target roles defined result x j at) s r (λ y i. f j at (entered empty s) y i) h
  line_if x false f j at s r h = f j at s r h

  line_is : (x : one_line.Line-F LineMeaning) → LineIs true (inside target roles defined result x) → LineIs true (line_by target roles defined result x)
  line_is x f j at s r h = line_if x (opens_scope x) f j at s r h

  inside_accounts : (y : one_line.Line-F SomeLine) → Fit y → LineIs true (inside target roles defined result (meant y))
  inside_accounts (one_line.Block ls) f j at s r h = block_accounts j (map meant_at (map bare_at ls)) (each_line ls f) s r h
  inside_accounts (one_line.Decl x) f j at s r h = declared_accounts target roles defined x f s r h
  inside_accounts (one_line.Expr e) f j at s r h = expression_accounts target roles e s r h
  inside_accounts (one_line.If e a None) f j at s r h =
      let b = both_true (fits e.node) (line_in_range a.node.0 && true) f in
      if_accounts target roles e (here a) (a.node.1 (both_true (line_in_range a.node.0) true b.1).0) None tt j at s r h
  inside_accounts (one_line.If e a (Some c)) f j at s r h =
      let b = both_true (fits e.node) (line_in_range a.node.0 && line_in_range c.node.0) f in
      let d = both_true (line_in_range a.node.0) (line_in_range c.node.0) b.1 in
      if_accounts target roles e (here a) (a.node.1 d.0) (Some (here c)) (c.node.1 d.1) j at s r h
  inside_accounts (one_line.While e a) f j at s r h = while_accounts target roles e (here a) (a.node.1 (both_true (fits e.node) (line_in_range a.node.0) f).1) j at s r h
  inside_accounts (one_line.DoWhile a e) f j at s r h = do_accounts target roles (here a) (a.node.1 (both_true (fits e.node) (line_in_range a.node.0) f).1) e j at s r h
  inside_accounts (one_line.For g test step a) f j at s r h =
      let b = both_true (first_fits g) (part_fits fits test && (part_fits fits step && line_in_range a.node.0)) f in
      let c = both_true (part_fits fits test) (part_fits fits step && line_in_range a.node.0) b.1 in
      let d = both_true (part_fits fits step) (line_in_range a.node.0) c.1 in
      for_accounts target roles defined g b.0 test step (here a) (a.node.1 d.1) j at s r h
  inside_accounts (one_line.Switch e a) f j at s r h = switch_accounts target roles e (here a) (a.node.1 (both_true (fits e.node) (line_in_range a.node.0) f).1) j at s r h
  inside_accounts (one_line.Case e a) f j at s r h = absurd (misplaced_case_never target roles e (here a) j at s r h)
  inside_accounts (one_line.Default a) f j at s r h = absurd (misplaced_never target roles (here a) j at s r h)
  inside_accounts one_line.Break f j at s r h = jump_accounts at (break_of j) s r h
  inside_accounts one_line.Continue f j at s r h = jump_accounts at (continue_of j) s r h
  inside_accounts (one_line.Return e) f j at s r h = return_accounts target roles result e at s r h

  line_accounts : (y : one_line.Line-F SomeLine) → Fit y → LineIs true (line_by target roles defined result (meant y))
  line_accounts y f = line_is (meant y) (inside_accounts y f)

  -- ---- as the body of a `switch`, and in one

  other_switched : (x : one_line.Line-F LineMeaning) (j : Jumps) (at : ℕ) (s : State) (r : Option Cases × State) → not_switched (line_by target roles defined result x) j at s ≡ Ok r → Accounts (switched_accesses r.0) s r.1
  other_switched x j at s r h = no_block (line_by target roles defined result x) j at s r h

  switched_accounts : (y : one_line.Line-F SomeLine) → Fit y → (j : Jumps) (t : IntType) (at : ℕ) (s : State) (r : Option Cases × State) → switched_by target roles defined result (meant y) j t at s ≡ Ok r → Accounts (switched_accesses r.0) s r.1
  switched_accounts (one_line.Block ls) f j t at s r h = switch_block j t (map meant_at (map bare_at ls)) (each_line ls f) s r h
  switched_accounts (one_line.Decl x) f j t at s r h = other_switched (meant (one_line.Decl x)) j at s r h
  switched_accounts (one_line.Expr e) f j t at s r h = other_switched (meant (one_line.Expr e)) j at s r h
  switched_accounts (one_line.If e a b) f j t at s r h = other_switched (meant (one_line.If e a b)) j at s r h
  switched_accounts (one_line.While e a) f j t at s r h = other_switched (meant (one_line.While e a)) j at s r h
  switched_accounts (one_line.DoWhile a e) f j t at s r h = other_switched (meant (one_line.DoWhile a e)) j at s r h
  switched_accounts (one_line.For g test step a) f j t at s r h = other_switched (meant (one_line.For g test step a)) j at s r h
  switched_accounts (one_line.Switch e a) f j t at s r h = other_switched (meant (one_line.Switch e a)) j at s r h
  switched_accounts (one_line.Case e a) f j t at s r h = other_switched (meant (one_line.Case e a)) j at s r h
  switched_accounts (one_line.Default a) f j t at s r h = other_switched (meant (one_line.Default a)) j at s r h
  switched_accounts one_line.Break f j t at s r h = other_switched (meant one_line.Break) j at s r h
  switched_accounts one_line.Continue f j t at s r h = other_switched (meant one_line.Continue) j at s r h
  switched_accounts (one_line.Return e) f j t at s r h = other_switched (meant (one_line.Return e)) j at s r h

  -- a declaration that gives no value does nothing, so that it may stand in front of the first label
  nothing_done : (d : Decl) → list_any is_given d.inits ≡ false → (s : State) (r : List Stmt × State) → declared_found target roles defined d s ≡ Ok r → r.0 ≡ []
  unfolding declared_found
  nothing_done d e s r h =
      let x = then_found (declaration target roles defined stands.InBlock d s) (λ es s. Ok (map Do es, s)) r h in
      ends (λ (z : List Stmt × State). z.0 ≡ []) (map Do x.0.0) x.0.1 r x.2 (ap (map Do) (unvalued_assigns_nothing target roles defined stands.InBlock d e s x.0 x.1))

  unvalued_declaration : (d : Decl) → decl_fits d ≡ true → (b : Bool) → list_any is_given d.inits ≡ b → (s : State) (r : List Stmt × State) → declared_found target roles defined d s ≡ Ok r → Accounts (λ i. b && reads r.0 i) s r.1
  unvalued_declaration d f true e s r h = declared_accounts target roles defined d f s r h
  unvalued_declaration d f false e s r h = subst (λ (ss : List Stmt). Accounts (reads ss) s r.1) (nothing_done d e s r h) (declared_accounts target roles defined d f s r h)

  other_item : (y : one_line.Line-F SomeLine) → LineIs (counts (meant y)) (line_by target roles defined result (meant y)) → (j : Jumps) (cases : Cases) (at : ℕ) (s : State) (r : Cases × State) →
      unlabelled (is_empty (meant y)) (counts (meant y)) (line_by target roles defined result (meant y)) j cases at s ≡ Ok r → GoesOn item_accesses cases s r
  other_item y f j cases at s r h = unlabelled_goes_on (is_empty (meant y)) (counts (meant y)) (line_by target roles defined result (meant y)) f j cases at s r h

  item_goes_on : (y : one_line.Line-F SomeLine) → Fit y → (j : Jumps) (t : IntType) (cases : Cases) (at : ℕ) (s : State) (r : Cases × State) → item_by target roles defined result (meant y) j t cases at s ≡ Ok r → GoesOn item_accesses cases s r
  item_goes_on (one_line.Block ls) f j t cases at s r h = other_item (one_line.Block ls) (line_accounts (one_line.Block ls) f) j cases at s r h
  item_goes_on (one_line.Decl x) f j t cases at s r h = other_item (one_line.Decl x) (λ j at s r k. unvalued_declaration x f (list_any is_given x.inits) refl s r k) j cases at s r h
  item_goes_on (one_line.Expr e) f j t cases at s r h = other_item (one_line.Expr e) (line_accounts (one_line.Expr e) f) j cases at s r h
  item_goes_on (one_line.If e a b) f j t cases at s r h = other_item (one_line.If e a b) (line_accounts (one_line.If e a b) f) j cases at s r h
  item_goes_on (one_line.While e a) f j t cases at s r h = other_item (one_line.While e a) (line_accounts (one_line.While e a) f) j cases at s r h
  item_goes_on (one_line.DoWhile a e) f j t cases at s r h = other_item (one_line.DoWhile a e) (line_accounts (one_line.DoWhile a e) f) j cases at s r h
  item_goes_on (one_line.For g test step a) f j t cases at s r h = other_item (one_line.For g test step a) (line_accounts (one_line.For g test step a) f) j cases at s r h
  item_goes_on (one_line.Switch e a) f j t cases at s r h = other_item (one_line.Switch e a) (line_accounts (one_line.Switch e a) f) j cases at s r h
  item_goes_on (one_line.Case e a) f j t cases at s r h = case_goes_on target roles e (here a) (a.node.1 (both_true (fits e.node) (line_in_range a.node.0) f).1) j t cases at s r h
  item_goes_on (one_line.Default a) f j t cases at s r h = label_goes_on target roles (default_label cases) (here a) (a.node.1 f) j t cases at s r h
  item_goes_on one_line.Break f j t cases at s r h = other_item one_line.Break (line_accounts one_line.Break f) j cases at s r h
  item_goes_on one_line.Continue f j t cases at s r h = other_item one_line.Continue (line_accounts one_line.Continue f) j cases at s r h
  item_goes_on (one_line.Return e) f j t cases at s r h = other_item (one_line.Return e) (line_accounts (one_line.Return e) f) j cases at s r h

  level : (y : one_line.Line-F SomeLine) → Fit y → LineAccounts (line_step target roles defined result (meant y))
  level y f = record { line = line_accounts y f; switched = switched_accounts y f; item = item_goes_on y f }

  made : (y : one_line.Line-F SomeLine) → P (roll-Line (bare y))
  made y f = subst LineAccounts (sym (line-means (bare y))) (level y (sym (line-fits (bare y)) ∙ f))

  line_holds : (l : Line) → P l
  line_holds l = ind-Line P (λ x y e. subst (λ (z : one_line.Line-F Line). P (roll-Line z)) e (made y)) l

  all_hold : (ls : List (At Line)) → each_fits line_in_range ls ≡ true → AllAccount (map meant_at ls)
  all_hold [] f = tt
  all_hold (l ∷ ls) f = let b = both_true (line_in_range l.node) (each_fits line_in_range ls) f in (line_holds l.node b.0, all_hold ls b.1)

  pub body_accounts : (ls : List (At Line)) → each_fits line_in_range ls ≡ true → (j : Jumps) (s : State) (r : List Stmt × State) → lines_found j (map meant_at ls) s ≡ Ok r → Accounts (reads r.0) s r.1
  body_accounts ls f j s r h = lines_account j (map meant_at ls) (all_hold ls f) s r h
