-- The text of statements in normal form is read as lines that show them, by induction over statements.
use Rattle.std.proofs.Common.{◌≡◌, ℕ, ◌+◌, Bool, true, ◌&&◌, ℤ, List, [], ◌∷◌, ◌++◌, map, length, Option, Some, None, refl, ap, sym, ◌∙◌, subst, append_assoc, append-nil, lit≤}
use Rattle.std.specs.List.{list_all, flat_map}
use Rattle.std.specs.Option.{is_some}
use Rattle.cc_program.specs.CcNum.declared.int_type.IntType.{IntType}
use Rattle.cc_program.specs.CcNum.declared.target.Target.{Target}
use Rattle.cc_program.specs.CcWords.declared.word.Word.TheVariants as w
use Rattle.cc_lex.specs.declared.token.Mark.TheVariants as m
use Rattle.cc_lex.proofs.Booleans.{and-true}
use Rattle.cc_bodies.specs.Spots.{Whole, Operand}
use Rattle.cc_bodies.specs.Stmts.{StmtText, CaseText, all_lines, case_body, case_lines, label_lines, opened, closed, ended, done, label_type, stmt_step, case_step, stmt}
use Rattle.cc_expression_trees.proofs.Reading.{expr-reads}
use Rattle.cc_expression_trees.proofs.Typed.{IsOperand}
use Rattle.cc_pieces.specs.Pieces.{Pieces, punct, keyword, space, indent, indentation, end_of_line}
use Rattle.cc_expression_trees.specs.Laid.{laid}
use Rattle.cc_program.specs.declared.expr.Expr.{Expr, out-Expr, roll-Expr, roll-out-Expr, map-Expr, fold-roll-Expr}
use Rattle.cc_program.specs.declared.expr.Expr.TheOpen as one
use Rattle.cc_program.specs.declared.expr.Place.{Place}
use Rattle.cc_program.specs.declared.func.Func.{Func}
use Rattle.cc_program.specs.declared.program.Program.{Program}
use Rattle.cc_program.specs.declared.stmt.Case.{Case, out-Case, roll-Case, out-roll-Case, fold-Case, fold-roll-Case, map-Case}
use Rattle.cc_program.specs.declared.stmt.Stmt.{Stmt, roll-Stmt, out-roll-Stmt, fold-roll-Stmt, map-Stmt}
use Rattle.cc_program.specs.declared.stmt.Stmt.TheOpen as is
use Rattle.cc_program.specs.declared.types.Sig.{out-Sig}
use Rattle.cc_program.proofs.Each.{Each}
use Rattle.cc_program.proofs.StmtInduction.{StmtParts, CaseParts, by_stmts}
use Rattle.cc_typed.specs.CcSyntax.Effects.{Effects, PlaceEffects, no_one, effect_step, place_effect_step, effects_of, place_effects_of}
use Rattle.cc_typed.specs.CcSyntax.Programs.{type_of, sound_step, is_sound_stmt}
use Rattle.cc_typed.specs.CcSyntax.Folding.{is_folded}
use Rattle.cc_typed.specs.CcSyntax.Forms.{form_at, form_of}
use Rattle.cc_typed.specs.CcSyntax.Normal.{is_one, is_operand, normal_step, is_normal_stmt}
use Rattle.cc_typed.specs.CcSyntax.Statements.{SoundWhere, Labelled as SoundCase, labels_fit, is_condition, sound_case}
use Rattle.cc_typed.specs.CcSyntax.Values.{ValueType, is_assignable_some, scalar_value}
use Rattle.cc_tree.specs.declared.unit.Line as line
use Rattle.cc_tree.specs.declared.unit.Line.{Line}
use Rattle.cc_tree.specs.Statements.{AnExprStatement, AnIf, AnIfElse, AWhile, ASwitch, ABreak, AContinue, AReturn, NoExpr, AnExpr, IsLines, AStatement}
use Rattle.cc_tree.specs.Tokens.{at as at_of}
use Rattle.cc_tree.proofs.SoundElse.{awaits-Block}
use Rattle.cc_unit_trees.specs.Lines.{block, ShowsStmt, ShowsDo, ShowsIf, ShowsIfElse, ShowsWhile, ShowsSwitch, ShowsBreak, ShowsContinue, ShowsReturn, ShowsReturnOf, ShowsStmts, ShowsCase, EmptyCase, FullCase, ShowsCases, NoCase, MoreCases, ShowsLabels}
use Rattle.cc_unit_trees.specs.ReadStatements.{ReadsLine}
use Rattle.cc_unit_trees.proofs.Blocks.{ReadsBody, block-read, empty-read, ReadsStmtText, EachReads, stmts-read, labels-read}
use Rattle.cc_unit_trees.proofs.Effects.{effect-read}

pub condition-some : (o : Option ValueType) → is_condition o ≡ true → is_some o ≡ true
condition-some None h = absurd (cc)
condition-some (Some v) h = refl

pub labels-some : (target : Target) (ls : List (Option ℤ)) (o : Option ValueType) → labels_fit target ls o ≡ true → is_some o ≡ true
labels-some target ls None h = absurd (cc)
labels-some target ls (Some v) h = refl

pub assigned-some : (to o : Option ValueType) → is_assignable_some to o ≡ true → is_some o ≡ true
assigned-some None o h = absurd (cc)
assigned-some (Some t) None h = absurd (cc)
assigned-some (Some t) (Some v) h = refl

module _ (p : Program) (f : Func) where
  -- ---- operands

  operand-of : (e : Expr) → is_operand p.target f e ≡ true → is_some (type_of p f.locals e) ≡ true → IsOperand p f e
  operand-of e h t = record { typed = t; pure = (and-true ((effects_of f e).pure no_one) (is_folded p.target e) h).0 }

  pub effects-at : (e : Expr) (x : one.Expr-F Expr Place) → out-Expr e ≡ x → effects_of f e ≡ effect_step (map-Expr Expr Place Effects PlaceEffects (effects_of f) (place_effects_of f) x)
  unfolding effects_of place_effects_of
  effects-at e x h = ap (effects_of f) (sym (roll-out-Expr e) ∙ ap roll-Expr h) ∙ fold-roll-Expr Effects PlaceEffects effect_step (place_effect_step f) x

  -- a constant has no effect
  pub one-pure : (e : Expr) (x : one.Expr-F Expr Place) → out-Expr e ≡ x → is_one (form_at x) ≡ true → (effects_of f e).pure no_one ≡ true
  one-pure e (one.Const n t) h k = ap (λ a. a.pure no_one) (effects-at e (one.Const n t) h)
  one-pure e _ h k = absurd (cc)

  -- ---- levels

  abbrev pub casing : Case → CaseText
  casing c = fold-Case StmtText CaseText (stmt_step p f) (case_step p f) c

  abbrev pub normal_in : Case → Bool
  normal_in c = fold-Case Bool Bool (normal_step p.target f) (λ c. list_all (λ b. b) c.body) c

  abbrev pub sound_in : Case → SoundCase
  sound_in c = fold-Case SoundWhere SoundCase (sound_step p f) sound_case c

  pub record IsFine (s : Stmt) : Type 0 where
    pub normal : is_normal_stmt p.target f s ≡ true
    pub breaks : Bool
    pub continues : Bool
    pub sound : is_sound_stmt p f s breaks continues ≡ true

  pub record IsFineCase (c : Case) : Type 0 where
    pub normal : normal_in c ≡ true
    pub breaks : Bool
    pub continues : Bool
    pub sound : (sound_in c).body breaks continues ≡ true

  abbrev Read : Stmt → Type 0
  Read s = IsFine s → ReadsStmtText p f s (stmt p f s)

  abbrev CaseRead : Case → Type 0
  CaseRead c = IsFineCase c → (t : IntType) (level : ℕ) → ReadsBody (ShowsCase p f t c) (casing c t level)

  each-read : (ss : List Stmt) (b c : Bool) → Each Read ss → list_all (λ b. b) (map (is_normal_stmt p.target f) ss) ≡ true → list_all (λ g. g b c) (map (is_sound_stmt p f) ss) ≡ true → EachReads p f (stmt p f) ss
  each-read [] b c h n s = tt
  each-read (x ∷ ss) b c h n s =
      let k = and-true (is_normal_stmt p.target f x) (list_all (λ b. b) (map (is_normal_stmt p.target f) ss)) n in
      let l = and-true (is_sound_stmt p f x b c) (list_all (λ g. g b c) (map (is_sound_stmt p f) ss)) s in
      (h.0 (record { normal = k.0; breaks = b; continues = c; sound = l.0 }), each-read ss b c h.1 k.1 l.1)

  cases-read : (cs : List Case) (b c : Bool) → Each CaseRead cs → list_all (λ b. b) (map normal_in cs) ≡ true → list_all (λ g. g.body b c) (map sound_in cs) ≡ true → (t : IntType) (level : ℕ) →
      ReadsBody (ShowsCases p f t cs) (case_lines t (map casing cs) level)
  cases-read [] b c h n s t level at done all ps k = record { lines = []; shows = NoCase t; next = at; is = subst (λ ls. IsLines [] [] ls all (laid at ps)) (sym (append-nil done)) k }
  cases-read (x ∷ cs) b c h n s t level at done all ps k =
      let i = and-true (normal_in x) (list_all (λ b. b) (map normal_in cs)) n in
      let j = and-true ((sound_in x).body b c) (list_all (λ g. g.body b c) (map sound_in cs)) s in
      let r = h.0 (record { normal = i.0; breaks = b; continues = c; sound = j.0 }) t level at done all (case_lines t (map casing cs) level ps) k in
      let q = cases-read cs b c h.1 i.1 j.1 t level r.next (done ++ r.lines) all ps r.is in
      record {
        lines = r.lines ++ q.lines;
        shows = MoreCases t x cs r.lines q.lines r.shows q.shows;
        next = q.next;
        is = subst (λ ls. IsLines [] [] ls all (laid q.next ps)) (append_assoc done r.lines q.lines) q.is;
      }

  -- ---- statements

  abbrev ReadsLevel : is.Stmt-F Stmt Case → Type 0
  ReadsLevel x = (level at : ℕ) (ps : Pieces) → ReadsLine (ShowsStmt p f (roll-Stmt x)) at (stmt_step p f (map-Stmt Stmt Case StmtText CaseText (stmt p f) casing x) level ps) ps

  if-read : (e : Expr) (a : List Stmt) → IsOperand p f e → EachReads p f (stmt p f) a → ReadsLevel (is.If e a [])
  if-read e a o h level at ps =
      let here = at + length (indentation level) in
      let body : Pieces → Pieces = λ qs. all_lines (map (stmt p f) a) (level + 1) qs in
      let r = expr-reads p f e o Operand 0 (here + 2 + 1 + 1) (punct m.RParen ∷ opened (body (closed level ps))) (lit≤ tt) in
      let b = block-read (ShowsStmts p f a) body level (stmts-read p f (stmt p f) a h (level + 1)) (r.next + 1) (end_of_line ∷ ps) in
      record {
        line = record { at = here; node = line.If r.tree (block b.brace b.lines) None };
        shows = ShowsIf _ e a r.tree b.brace b.lines (out-roll-Stmt (is.If e a [])) r.shows b.shows;
        next = b.next + 1;
        is = AnIf [] r.tree (block b.brace b.lines) (here, 2) (here + 2 + 1, 1) (r.next, 1) _ _ _ r.is b.is;
      }

  if-else-read : (e : Expr) (a : List Stmt) (s : Stmt) (bs : List Stmt) → IsOperand p f e → EachReads p f (stmt p f) a → EachReads p f (stmt p f) (s ∷ bs) → ReadsLevel (is.If e a (s ∷ bs))
  if-else-read e a s bs o h k level at ps =
      let here = at + length (indentation level) in
      let first : Pieces → Pieces = λ qs. all_lines (map (stmt p f) a) (level + 1) qs in
      let second : Pieces → Pieces = λ qs. all_lines (map (stmt p f) (s ∷ bs)) (level + 1) qs in
      let rest = space ∷ keyword w.Else ∷ opened (second (closed level ps)) in
      let r = expr-reads p f e o Operand 0 (here + 2 + 1 + 1) (punct m.RParen ∷ opened (first (indent level ∷ punct m.RBrace ∷ rest))) (lit≤ tt) in
      let b = block-read (ShowsStmts p f a) first level (stmts-read p f (stmt p f) a h (level + 1)) (r.next + 1) rest in
      let c = block-read (ShowsStmts p f (s ∷ bs)) second level (stmts-read p f (stmt p f) (s ∷ bs) k (level + 1)) (b.next + 1 + 4) (end_of_line ∷ ps) in
      record {
        line = record { at = here; node = line.If r.tree (block b.brace b.lines) (Some (block c.brace c.lines)) };
        shows = ShowsIfElse _ e a (s ∷ bs) r.tree b.brace c.brace b.lines c.lines (out-roll-Stmt (is.If e a (s ∷ bs))) r.shows b.shows c.shows;
        next = c.next + 1;
        is = AnIfElse [] r.tree (block b.brace b.lines) (block c.brace c.lines) (here, 2) (here + 2 + 1, 1) (r.next, 1) (b.next + 1, 4) _ _ _ _ r.is b.is (awaits-Block b.lines) c.is;
      }

  while-read : (e : Expr) (a : List Stmt) → IsOperand p f e → EachReads p f (stmt p f) a → ReadsLevel (is.While e a)
  while-read e a o h level at ps =
      let here = at + length (indentation level) in
      let body : Pieces → Pieces = λ qs. all_lines (map (stmt p f) a) (level + 1) qs in
      let r = expr-reads p f e o Operand 0 (here + 5 + 1 + 1) (punct m.RParen ∷ opened (body (closed level ps))) (lit≤ tt) in
      let b = block-read (ShowsStmts p f a) body level (stmts-read p f (stmt p f) a h (level + 1)) (r.next + 1) (end_of_line ∷ ps) in
      record {
        line = record { at = here; node = line.While r.tree (block b.brace b.lines) };
        shows = ShowsWhile _ e a r.tree b.brace b.lines (out-roll-Stmt (is.While e a)) r.shows b.shows;
        next = b.next + 1;
        is = AWhile [] r.tree (block b.brace b.lines) (here, 5) (here + 5 + 1, 1) (r.next, 1) _ _ _ r.is b.is;
      }

  switch-read : (e : Expr) (cs : List Case) → IsOperand p f e → ((t : IntType) (level : ℕ) → ReadsBody (ShowsCases p f t cs) (case_lines t (map casing cs) level)) → ReadsLevel (is.Switch e cs)
  switch-read e cs o h level at ps =
      let here = at + length (indentation level) in
      let t = label_type (type_of p f.locals e) in
      let r = expr-reads p f e o Operand 0 (here + 6 + 1 + 1) (punct m.RParen ∷ opened (case_lines t (map casing cs) level (closed level ps))) (lit≤ tt) in
      let b = block-read (ShowsCases p f t cs) (case_lines t (map casing cs) level) level (h t level) (r.next + 1) (end_of_line ∷ ps) in
      record {
        line = record { at = here; node = line.Switch r.tree (block b.brace b.lines) };
        shows = ShowsSwitch _ e cs r.tree b.brace b.lines (out-roll-Stmt (is.Switch e cs)) r.shows b.shows;
        next = b.next + 1;
        is = ASwitch [] r.tree (block b.brace b.lines) (here, 6) (here + 6 + 1, 1) (r.next, 1) _ _ _ r.is b.is;
      }

  abbrev pub Normal : is.Stmt-F Stmt Case → Type 0
  Normal x = normal_step p.target f (map-Stmt Stmt Case Bool Bool (is_normal_stmt p.target f) normal_in x) ≡ true

  abbrev pub Sound : is.Stmt-F Stmt Case → Bool → Bool → Type 0
  Sound x b c = sound_step p f (map-Stmt Stmt Case SoundWhere SoundCase (is_sound_stmt p f) sound_in x) b c ≡ true

  made-level : (x : is.Stmt-F Stmt Case) → StmtParts Read CaseRead x → Normal x → (b c : Bool) → Sound x b c → ReadsLevel x
  made-level (is.Do e) h n b c s = λ level at ps.
      let here = at + length (indentation level) in
      let r = effect-read p f e n s here (ended ps) in
      record {
        line = at_of (laid here (done p f e (ended ps))) (line.Expr (Some r.tree));
        shows = ShowsDo _ e r.tree (out-roll-Stmt (is.Do e)) r.shows;
        next = r.next + 1 + 1;
        is = AnExprStatement [] (Some r.tree) (r.next, 1) _ _ (AnExpr [] r.tree _ _ r.is);
      }
  made-level (is.If e a []) h n b c s =
      let i = and-true (is_operand p.target f e) (list_all (λ b. b) (map (is_normal_stmt p.target f) a) && true) n in
      let j = and-true (is_condition (type_of p f.locals e)) (list_all (λ g. g b c) (map (is_sound_stmt p f) a) && true) s in
      if-read e a (operand-of e i.0 (condition-some (type_of p f.locals e) j.0)) (each-read a b c h.0 (and-true _ true i.1).0 (and-true _ true j.1).0)
  made-level (is.If e a (s ∷ bs)) h n b c k =
      let i = and-true (is_operand p.target f e) (list_all (λ b. b) (map (is_normal_stmt p.target f) a) && list_all (λ b. b) (map (is_normal_stmt p.target f) (s ∷ bs))) n in
      let j = and-true (is_condition (type_of p f.locals e)) (list_all (λ g. g b c) (map (is_sound_stmt p f) a) && list_all (λ g. g b c) (map (is_sound_stmt p f) (s ∷ bs))) k in
      let i2 = and-true (list_all (λ b. b) (map (is_normal_stmt p.target f) a)) (list_all (λ b. b) (map (is_normal_stmt p.target f) (s ∷ bs))) i.1 in
      let j2 = and-true (list_all (λ g. g b c) (map (is_sound_stmt p f) a)) (list_all (λ g. g b c) (map (is_sound_stmt p f) (s ∷ bs))) j.1 in
      if-else-read e a s bs (operand-of e i.0 (condition-some (type_of p f.locals e) j.0)) (each-read a b c h.0 i2.0 j2.0) (each-read (s ∷ bs) b c h.1 i2.1 j2.1)
  made-level (is.While e a) h n b c s =
      let i = and-true (is_one (form_of e)) (list_all (λ b. b) (map (is_normal_stmt p.target f) a)) n in
      let j = and-true (is_condition (type_of p f.locals e)) (list_all (λ g. g true true) (map (is_sound_stmt p f) a)) s in
      while-read e a (record { typed = condition-some (type_of p f.locals e) j.0; pure = one-pure e (out-Expr e) refl i.0 }) (each-read a true true h i.1 j.1)
  made-level (is.Switch e cs) h n b c s =
      let i = and-true (is_operand p.target f e) (list_all (λ b. b) (map normal_in cs)) n in
      let j = and-true (labels_fit p.target (flat_map (λ c. c.labels) (map sound_in cs)) (type_of p f.locals e)) _ s in
      let k = and-true _ (_ && list_all (λ g. g.body true c) (map sound_in cs)) j.1 in
      let l = and-true _ (list_all (λ g. g.body true c) (map sound_in cs)) k.1 in
      switch-read e cs (operand-of e i.0 (labels-some p.target (flat_map (λ c. c.labels) (map sound_in cs)) (type_of p f.locals e) j.0)) (cases-read cs true c h i.1 l.1)
  made-level is.Break h n b c s = λ level at ps.
      let here = at + length (indentation level) in
      record { line = record { at = here; node = line.Break }; shows = ShowsBreak _ (out-roll-Stmt is.Break); next = here + 5 + 1 + 1; is = ABreak [] (here, 5) (here + 5, 1) _ }
  made-level is.Continue h n b c s = λ level at ps.
      let here = at + length (indentation level) in
      record { line = record { at = here; node = line.Continue }; shows = ShowsContinue _ (out-roll-Stmt is.Continue); next = here + 8 + 1 + 1; is = AContinue [] (here, 8) (here + 8, 1) _ }
  made-level (is.Return None) h n b c s = λ level at ps.
      let here = at + length (indentation level) in
      record { line = record { at = here; node = line.Return None }; shows = ShowsReturn _ (out-roll-Stmt (is.Return None)); next = here + 6 + 1 + 1; is = AReturn [] None (here, 6) (here + 6, 1) _ _ (NoExpr [] _) }
  made-level (is.Return (Some e)) h n b c s = λ level at ps.
      let here = at + length (indentation level) in
      let r = expr-reads p f e (operand-of e n (assigned-some (scalar_value (out-Sig f.sig).result) (type_of p f.locals e) s)) (Whole (Some (out-Sig f.sig).result)) 0 (here + 6 + 1) (ended ps) (lit≤ tt) in
      record {
        line = record { at = here; node = line.Return (Some r.tree) };
        shows = ShowsReturnOf _ e r.tree (out-roll-Stmt (is.Return (Some e))) r.shows;
        next = r.next + 1 + 1;
        is = AReturn [] (Some r.tree) (here, 6) (r.next, 1) _ _ (AnExpr [] r.tree _ _ r.is);
      }
  made-level (is.DoWhile a e) h n b c s = absurd (cc)
  made-level (is.For first test step a) h n b c s = absurd (cc)
  made-level is.Empty h n b c s = absurd (cc)
  made-level (is.Block a) h n b c s = absurd (cc)

  pub stmt-roll : (x : is.Stmt-F Stmt Case) → stmt p f (roll-Stmt x) ≡ stmt_step p f (map-Stmt Stmt Case StmtText CaseText (stmt p f) casing x)
  stmt-roll x = fold-roll-Stmt StmtText CaseText (stmt_step p f) (case_step p f) x

  pub normal-roll : (x : is.Stmt-F Stmt Case) → is_normal_stmt p.target f (roll-Stmt x) ≡ normal_step p.target f (map-Stmt Stmt Case Bool Bool (is_normal_stmt p.target f) normal_in x)
  normal-roll x = fold-roll-Stmt Bool Bool (normal_step p.target f) (λ c. list_all (λ b. b) c.body) x

  pub sound-roll : (x : is.Stmt-F Stmt Case) → is_sound_stmt p f (roll-Stmt x) ≡ sound_step p f (map-Stmt Stmt Case SoundWhere SoundCase (is_sound_stmt p f) sound_in x)
  sound-roll x = fold-roll-Stmt SoundWhere SoundCase (sound_step p f) sound_case x

  made : (x : is.Stmt-F Stmt Case) → StmtParts Read CaseRead x → Read (roll-Stmt x)
  made x h k level at ps = subst (λ g. ReadsLine (ShowsStmt p f (roll-Stmt x)) at (g level ps) ps) (sym (stmt-roll x))
      (made-level x h (sym (normal-roll x) ∙ k.normal) k.breaks k.continues (sym (ap (λ g. g k.breaks k.continues) (sound-roll x)) ∙ k.sound) level at ps)

  -- ---- cases

  pub case-roll : (x : is.Case-F Stmt Case) → casing (roll-Case x) ≡ case_step p f (map-Case Stmt Case StmtText CaseText (stmt p f) casing x)
  case-roll x = fold-roll-Case StmtText CaseText (stmt_step p f) (case_step p f) x

  pub case-normal-roll : (x : is.Case-F Stmt Case) → normal_in (roll-Case x) ≡ list_all (λ b. b) (map (is_normal_stmt p.target f) x.body)
  case-normal-roll x = fold-roll-Case Bool Bool (normal_step p.target f) (λ c. list_all (λ b. b) c.body) x

  pub case-sound-roll : (x : is.Case-F Stmt Case) → sound_in (roll-Case x) ≡ sound_case (map-Case Stmt Case SoundWhere SoundCase (is_sound_stmt p f) sound_in x)
  case-sound-roll x = fold-roll-Case SoundWhere SoundCase (sound_step p f) sound_case x

  body-read : (c : Case) (labels : List (Option ℤ)) (body : List Stmt) → (out-Case c).labels ≡ labels → (out-Case c).body ≡ body → EachReads p f (stmt p f) body → (t : IntType) (level : ℕ) →
      ReadsBody (ShowsCase p f t c) (λ ps. label_lines p.target t level labels (case_body (map (stmt p f) body) (level + 1) ps))
  body-read c labels [] g e h t level at done all ps k =
      let r = labels-read p f t (λ l. l ≡ line.Expr None) labels level (indent (level + 1) ∷ ended ps) ps (λ at. empty-read (level + 1) at ps) at in
      let shown : ShowsLabels p f t (line.Expr None) (out-Case c).labels r.line.node = subst (λ ls. ShowsLabels p f t (line.Expr None) ls r.line.node) (sym g) (subst (λ i. ShowsLabels p f t i labels r.line.node) r.shows.shows r.shows.labelled) in
      record { lines = r.line ∷ []; shows = EmptyCase t c r.line e shown; next = r.next; is = AStatement [] [] done r.line all _ _ k r.is }
  body-read c labels (s ∷ ss) g e h t level at done all ps k =
      let rest = all_lines (map (stmt p f) ss) (level + 1) ps in
      let r = labels-read p f t (ShowsStmt p f s) labels level (stmt p f s (level + 1) rest) rest (λ at. h.0 (level + 1) at rest) at in
      let b = stmts-read p f (stmt p f) ss h.1 (level + 1) r.next (done ++ r.line ∷ []) all ps (AStatement [] [] done r.line all _ _ k r.is) in
      let shown : ShowsLabels p f t r.shows.inner (out-Case c).labels r.line.node = subst (λ ls. ShowsLabels p f t r.shows.inner ls r.line.node) (sym g) r.shows.labelled in
      record {
        lines = r.line ∷ b.lines;
        shows = FullCase t c s ss r.shows.inner r.line b.lines e r.shows.shows shown b.shows;
        next = b.next;
        is = subst (λ ls. IsLines [] [] ls all (laid b.next ps)) (append_assoc done (r.line ∷ []) b.lines) b.is;
      }

  made-case : (x : is.Case-F Stmt Case) → CaseParts Read CaseRead x → CaseRead (roll-Case x)
  made-case x h k t level = subst (λ g. ReadsBody (ShowsCase p f t (roll-Case x)) (g t level)) (sym (case-roll x))
      (body-read (roll-Case x) x.labels x.body (ap (λ c. c.labels) (out-roll-Case x)) (ap (λ c. c.body) (out-roll-Case x))
      (each-read x.body k.breaks k.continues h (sym (case-normal-roll x) ∙ k.normal) (sym (ap (λ g. g.body k.breaks k.continues) (case-sound-roll x)) ∙ k.sound)) t level)

  -- the law
  pub body-reads : (ss : List Stmt) (b c : Bool) → list_all (λ b. b) (map (is_normal_stmt p.target f) ss) ≡ true → list_all (λ g. g b c) (map (is_sound_stmt p f) ss) ≡ true → (level : ℕ) → ReadsBody (ShowsStmts p f ss) (λ ps. all_lines (map (stmt p f) ss) level ps)
  body-reads ss b c n s level = stmts-read p f (stmt p f) ss (each-read ss b c (by_stmts Read CaseRead made made-case ss) n s) level
