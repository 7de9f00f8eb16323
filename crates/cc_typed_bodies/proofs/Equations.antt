-- What a line means, by its layer.
use Rattle.std.proofs.Common.{◌≡◌, ◌∙◌, ℕ, true, false, List, [], Option, Some, None, Result, Ok, Err, option_map, refl, ap, sym, subst}
use Rattle.std.specs.Prelude.{if◌then◌else◌}
use Rattle.cc_program.specs.CcNum.declared.int_type.IntType.{IntType}
use Rattle.cc_program.specs.CcNum.declared.target.Target.{Target}
use Rattle.cc_terms.specs.CcOperands.Operands.{Operand}
use Rattle.cc_terms.specs.CcOperands.Verdicts.{Judges}
use Rattle.cc_terms.specs.CcOperands.declared.verdict.Breach.{Breach}
use Rattle.cc_program.specs.declared.program.Roles.{Roles}
use Rattle.cc_program.specs.declared.types.CType.{CType}
use Rattle.cc_program.specs.declared.stmt.Stmt.{Stmt}
use Rattle.cc_scopes.proofs.Outcomes.{judged-gives}
use Rattle.cc_scopes.specs.Outcomes.{Gives, stopped}
use Rattle.cc_scopes.specs.State.{State, Name, empty, entered, left}
use Rattle.cc_scopes.specs.Verdicts.{Found, whole, and_then}
use Rattle.cc_scopes.specs.declared.verdict.Fault.{Fault}
use Rattle.cc_scopes.specs.declared.verdict.Stop.{Stop}
use Rattle.cc_scopes.specs.declared.verdict.Stop.TheVariants as stop
use Rattle.cc_tree.specs.declared.at.At.{At}
use Rattle.cc_tree.specs.declared.tree.Tree.{Tree}
use Rattle.cc_tree.specs.declared.unit.Line.{Line, Block, If, Case, Default, out-Line, roll-Line, roll-out-Line, map-Line, fold_out-Line}
use Rattle.cc_tree.specs.declared.unit.Line.TheVariants.{rolls-Block, rolls-Case, rolls-Default, outs-If}
use Rattle.cc_tree.specs.declared.unit.Line.TheOpen as one_line
use Rattle.cc_typed_bodies.proofs.Parts.{scoped-gives}
use Rattle.cc_typed_bodies.specs.Lines.{if_found, line_here, inside, line_by, switched_by, item_by, line_step, line_of}
use Rattle.cc_typed_bodies.specs.Meanings.{LineMeaning, scoped, opens_scope, body_found, maybe_body, not_switched, is_empty, counts, unlabelled}
use Rattle.cc_typed_bodies.specs.Parts.{value_here}
use Rattle.cc_typed_statements.specs.Statements.{if_of}
use Rattle.cc_typed_statements.specs.declared.cases.Cases.{Cases}
use Rattle.cc_typed_statements.specs.declared.jumps.Jumps.{Jumps}

module _ (target : Target) (roles : Roles) (defined : List Name) (result : CType) where
  abbrev of : Line → LineMeaning
  of l = line_of target roles defined result l

  abbrev layer : Line → one_line.Line-F LineMeaning
  layer l = map-Line Line LineMeaning of (out-Line l)

  pub line-out : (l : Line) → line_of target roles defined result l ≡ line_step target roles defined result (layer l)
  unfolding line_of
  line-out l = fold_out-Line LineMeaning (line_step target roles defined result) l

  opens-mapped : (x : one_line.Line-F Line) → opens_scope (map-Line Line LineMeaning of x) ≡ opens_scope x
  opens-mapped (one_line.Block ls) = refl
  opens-mapped (one_line.Decl d) = refl
  opens-mapped (one_line.Expr e) = refl
  opens-mapped (one_line.If e a b) = refl
  opens-mapped (one_line.While e a) = refl
  opens-mapped (one_line.DoWhile a e) = refl
  opens-mapped (one_line.For f test step a) = refl
  opens-mapped (one_line.Switch e a) = refl
  opens-mapped (one_line.Case e a) = refl
  opens-mapped (one_line.Default a) = refl
  opens-mapped one_line.Break = refl
  opens-mapped one_line.Continue = refl
  opens-mapped (one_line.Return e) = refl

  line-means : (l : Line) (j : Jumps) (at : ℕ) (s : State) → (of l).line j at s ≡ (if opens_scope (out-Line l) then scoped ((of l).inside j at) s else (of l).inside j at s)
  line-means l j at s =
      ap (λ m. m.line j at s) (line-out l)
      ∙ (ap (λ b. if b then scoped (inside target roles defined result (layer l) j at) s else inside target roles defined result (layer l) j at s) (opens-mapped (out-Line l))
      ∙ ap (λ m. if opens_scope (out-Line l) then scoped (m.inside j at) s else m.inside j at s) (sym (line-out l)))

  line-open : (l : Line) (j : Jumps) (at : ℕ) (s : State) → opens_scope (out-Line l) ≡ true → (of l).line j at s ≡ scoped ((of l).inside j at) s
  line-open l j at s h = line-means l j at s ∙ ap (λ b. if b then scoped ((of l).inside j at) s else (of l).inside j at s) h

  line-plain : (l : Line) (j : Jumps) (at : ℕ) (s : State) → opens_scope (out-Line l) ≡ false → (of l).line j at s ≡ (of l).inside j at s
  line-plain l j at s h = line-means l j at s ∙ ap (λ b. if b then scoped ((of l).inside j at) s else (of l).inside j at s) h

  -- a line that has a scope of its own, and one that has none
  pub open-gives : (l : Line) (j : Jumps) (at : ℕ) (r : Result (List Stmt) Stop) (s t u v : State) → opens_scope (out-Line l) ≡ true → t ≡ entered empty s →
      Gives (λ ss. ss) r u ((line_of target roles defined result l).inside j at t) → v ≡ left u → Gives (λ ss. ss) r v ((line_of target roles defined result l).line j at s)
  open-gives l j at r s t u v opens enters found leaves =
      subst (λ (m : Found (List Stmt)). Gives (λ ss. ss) r v m) (sym (line-open l j at s opens)) (scoped-gives (λ ss. ss) r ((of l).inside j at) s t u v enters found leaves)

  pub plain-gives : (l : Line) (j : Jumps) (at : ℕ) (r : Result (List Stmt) Stop) (s t : State) → opens_scope (out-Line l) ≡ false →
      Gives (λ ss. ss) r t ((line_of target roles defined result l).inside j at s) → Gives (λ ss. ss) r t ((line_of target roles defined result l).line j at s)
  plain-gives l j at r s t opens found = subst (λ (m : Found (List Stmt)). Gives (λ ss. ss) r t m) (sym (line-plain l j at s opens)) found

  -- ---- an `if`, from its parts

  if-means : (l : Line) (e : At Tree) (a : At Line) (b : Option (At Line)) (j : Jumps) (at : ℕ) (s : State) → l ≡ If e a b →
      (of l).inside j at s ≡ if_found target roles e (line_here target roles defined result a) (option_map (line_here target roles defined result) b) j at s
  if-means l e a None j at s is =
      ap (λ m. m.inside j at s) (line-out l) ∙ ap (λ (x : one_line.Line-F Line). inside target roles defined result (map-Line Line LineMeaning of x) j at s) (ap out-Line is ∙ outs-If e a None)
  if-means l e a (Some b) j at s is =
      ap (λ m. m.inside j at s) (line-out l) ∙ ap (λ (x : one_line.Line-F Line). inside target roles defined result (map-Line Line LineMeaning of x) j at s) (ap out-Line is ∙ outs-If e a (Some b))

  if-goes : (e : At Tree) (a : At LineMeaning) (b : Option (At LineMeaning)) (j : Jumps) (at : ℕ) (s s1 s2 s3 : State) (x : Operand) (these those : List Stmt) →
      value_here target roles e s ≡ Ok (x, s1) → body_found j a s1 ≡ Ok (these, s2) → maybe_body j b s2 ≡ Ok (those, s3) →
      if_found target roles e a b j at s ≡ whole at s3 (if_of x these those)
  unfolding if_found
  if-goes e a b j at s s1 s2 s3 x these those h i k =
      ap (λ m. and_then m (λ x s. and_then (body_found j a s) (λ these s. and_then (maybe_body j b s) (λ those s. whole at s (if_of x these those))))) h
      ∙ (ap (λ m. and_then m (λ these s. and_then (maybe_body j b s) (λ those s. whole at s (if_of x these those)))) i
      ∙ ap (λ m. and_then m (λ those s. whole at s (if_of x these those))) k)

  if-gives : (l : Line) (e : At Tree) (a g : At Line) (b : Option (At Line)) (j : Jumps) (at : ℕ) (s s1 s2 s3 : State) (x : Operand) (these those : List Stmt) (r : Result (List Stmt) Breach) →
      l ≡ If e a b → g ≡ a → value_here target roles e s ≡ Ok (x, s1) → body_found j (line_here target roles defined result g) s1 ≡ Ok (these, s2) →
      maybe_body j (option_map (line_here target roles defined result) b) s2 ≡ Ok (those, s3) → Judges (λ ss. ss) r (if_of x these those) →
      Gives (λ ss. ss) (stopped at r) s3 ((line_of target roles defined result l).inside j at s)
  if-gives l e a g b j at s s1 s2 s3 x these those r is same h i k judges =
      subst (λ (m : Found (List Stmt)). Gives (λ ss. ss) (stopped at r) s3 m)
      (sym (if-means l e a b j at s is ∙ if-goes e (line_here target roles defined result a) (option_map (line_here target roles defined result) b) j at s s1 s2 s3 x these those h
      (subst (λ (g : At Line). body_found j (line_here target roles defined result g) s1 ≡ Ok (these, s2)) same i) k))
      (judged-gives (λ ss. ss) r (if_of x these those) at s3 judges)

  if-ends : (e : At Tree) (a : At LineMeaning) (b : Option (At LineMeaning)) (j : Jumps) (at : ℕ) (s s1 s2 : State) (x : Operand) (these : List Stmt) (fault : Fault) →
      value_here target roles e s ≡ Ok (x, s1) → body_found j a s1 ≡ Ok (these, s2) → maybe_body j b s2 ≡ Err fault → if_found target roles e a b j at s ≡ Err fault
  unfolding if_found
  if-ends e a b j at s s1 s2 x these fault h i k =
      ap (λ m. and_then m (λ x s. and_then (body_found j a s) (λ these s. and_then (maybe_body j b s) (λ those s. whole at s (if_of x these those))))) h
      ∙ (ap (λ m. and_then m (λ these s. and_then (maybe_body j b s) (λ those s. whole at s (if_of x these those)))) i
      ∙ ap (λ m. and_then m (λ those s. whole at s (if_of x these those))) k)

  none-found : (o : Option (At Line)) (j : Jumps) (s : State) (those : List Stmt) → o ≡ None → those ≡ [] → maybe_body j (option_map (line_here target roles defined result) o) s ≡ Ok (those, s)
  unfolding maybe_body
  none-found o j s those none empty = ap (λ (o : Option (At Line)). maybe_body j (option_map (line_here target roles defined result) o) s) none ∙ ap (λ ss. Ok (ss, s)) (sym empty)

  some-is : (o : Option (At Line)) (b h : At Line) (j : Jumps) (s : State) → o ≡ Some b → h ≡ b → maybe_body j (option_map (line_here target roles defined result) o) s ≡ body_found j (line_here target roles defined result h) s
  unfolding maybe_body
  some-is o b h j s some same =
      ap (λ (o : Option (At Line)). maybe_body j (option_map (line_here target roles defined result) o) s) some ∙ ap (λ (h : At Line). body_found j (line_here target roles defined result h) s) (sym same)

  -- without an `else`, with one, and with one that is at fault
  pub if-none-gives : (l : Line) (e : At Tree) (a g : At Line) (o : Option (At Line)) (j : Jumps) (at : ℕ) (s s1 s2 : State) (x : Operand) (these those : List Stmt) (r : Result (List Stmt) Breach) →
      l ≡ If e a o → o ≡ None → g ≡ a → value_here target roles e s ≡ Ok (x, s1) → body_found j (line_here target roles defined result g) s1 ≡ Ok (these, s2) →
      those ≡ [] → Judges (λ ss. ss) r (if_of x these those) → Gives (λ ss. ss) (stopped at r) s2 ((line_of target roles defined result l).inside j at s)
  if-none-gives l e a g o j at s s1 s2 x these those r is none same h i empty judges = if-gives l e a g o j at s s1 s2 s2 x these those r is same h i (none-found o j s2 those none empty) judges

  pub if-some-gives : (l : Line) (e : At Tree) (a g b k : At Line) (o : Option (At Line)) (j : Jumps) (at : ℕ) (s s1 s2 s3 : State) (x : Operand) (these those : List Stmt) (r : Result (List Stmt) Breach) →
      l ≡ If e a o → o ≡ Some b → g ≡ a → k ≡ b → value_here target roles e s ≡ Ok (x, s1) → body_found j (line_here target roles defined result g) s1 ≡ Ok (these, s2) →
      body_found j (line_here target roles defined result k) s2 ≡ Ok (those, s3) → Judges (λ ss. ss) r (if_of x these those) → Gives (λ ss. ss) (stopped at r) s3 ((line_of target roles defined result l).inside j at s)
  if-some-gives l e a g b k o j at s s1 s2 s3 x these those r is some same other h i found judges =
      if-gives l e a g o j at s s1 s2 s3 x these those r is same h i (some-is o b k j s2 some other ∙ found) judges

  pub if-some-stops : (l : Line) (e : At Tree) (a g b k : At Line) (o : Option (At Line)) (j : Jumps) (at : ℕ) (s s1 s2 t : State) (x : Operand) (these : List Stmt) (why : Stop) →
      l ≡ If e a o → o ≡ Some b → g ≡ a → k ≡ b → value_here target roles e s ≡ Ok (x, s1) → body_found j (line_here target roles defined result g) s1 ≡ Ok (these, s2) →
      Gives {A = List Stmt} (λ ss. ss) (Err why) t (body_found j (line_here target roles defined result k) s2) → Gives {A = List Stmt} (λ ss. ss) (Err why) t ((line_of target roles defined result l).inside j at s)
  if-some-stops l e a g b k o j at s s1 s2 t x these (stop.Broken fault) is some same other h i found =
      if-means l e a o j at s is
      ∙ if-ends e (line_here target roles defined result a) (option_map (line_here target roles defined result) o) j at s s1 s2 x these fault h
      (subst (λ (g : At Line). body_found j (line_here target roles defined result g) s1 ≡ Ok (these, s2)) same i) (some-is o b k j s2 some other ∙ found)
  if-some-stops l e a g b k o j at s s1 s2 t x these stop.NoMemory is some same other h i found = tt

  -- ---- as the body of a `switch`, and at the top level of one

  as_block : (l : Line) (ls : List (At Line)) → out-Line l ≡ one_line.Block ls → l ≡ Block ls
  as_block l ls h = sym (roll-out-Line l) ∙ ap roll-Line h ∙ rolls-Block ls

  as_case : (l : Line) (e : At Tree) (a : At Line) → out-Line l ≡ one_line.Case e a → l ≡ Case e a
  as_case l e a h = sym (roll-out-Line l) ∙ ap roll-Line h ∙ rolls-Case e a

  as_default : (l : Line) (a : At Line) → out-Line l ≡ one_line.Default a → l ≡ Default a
  as_default l a h = sym (roll-out-Line l) ∙ ap roll-Line h ∙ rolls-Default a

  other-switched : (x : one_line.Line-F Line) (j : Jumps) (t : IntType) (at : ℕ) (s : State) → ((ls : List (At Line)) → x ≡ one_line.Block ls → ⊥) →
      switched_by target roles defined result (map-Line Line LineMeaning of x) j t at s ≡ not_switched (line_by target roles defined result (map-Line Line LineMeaning of x)) j at s
  other-switched (one_line.Block ls) j t at s never = absurd (never ls refl)
  other-switched (one_line.Decl d) j t at s never = refl
  other-switched (one_line.Expr e) j t at s never = refl
  other-switched (one_line.If e a b) j t at s never = refl
  other-switched (one_line.While e a) j t at s never = refl
  other-switched (one_line.DoWhile a e) j t at s never = refl
  other-switched (one_line.For f test step a) j t at s never = refl
  other-switched (one_line.Switch e a) j t at s never = refl
  other-switched (one_line.Case e a) j t at s never = refl
  other-switched (one_line.Default a) j t at s never = refl
  other-switched one_line.Break j t at s never = refl
  other-switched one_line.Continue j t at s never = refl
  other-switched (one_line.Return e) j t at s never = refl

  pub switched-gives : (l : Line) (j : Jumps) (t : IntType) (at : ℕ) (r : Result (Option Cases) Stop) (s u : State) → ((ls : List (At Line)) → l ≡ Block ls → ⊥) →
      Gives (λ cs. cs) r u (not_switched (line_of target roles defined result l).line j at s) → Gives (λ cs. cs) r u ((line_of target roles defined result l).switched j t at s)
  switched-gives l j t at r s u never found =
      let same : (of l).switched j t at s ≡ not_switched (of l).line j at s =
      ap (λ m. m.switched j t at s) (line-out l) ∙ (other-switched (out-Line l) j t at s (λ ls e. never ls (as_block l ls e)) ∙ ap (λ m. not_switched m.line j at s) (sym (line-out l)))
      in subst (λ (m : Found (Option Cases)). Gives (λ cs. cs) r u m) (sym same) found

  other-item : (x : one_line.Line-F Line) (j : Jumps) (t : IntType) (cases : Cases) (at : ℕ) (s : State) →
      ((e : At Tree) (a : At Line) → x ≡ one_line.Case e a → ⊥) → ((a : At Line) → x ≡ one_line.Default a → ⊥) →
      item_by target roles defined result (map-Line Line LineMeaning of x) j t cases at s ≡ unlabelled (is_empty x) (counts x) (line_by target roles defined result (map-Line Line LineMeaning of x)) j cases at s
  other-item (one_line.Block ls) j t cases at s no_case no_default = refl
  other-item (one_line.Decl d) j t cases at s no_case no_default = refl
  other-item (one_line.Expr None) j t cases at s no_case no_default = refl
  other-item (one_line.Expr (Some e)) j t cases at s no_case no_default = refl
  other-item (one_line.If e a b) j t cases at s no_case no_default = refl
  other-item (one_line.While e a) j t cases at s no_case no_default = refl
  other-item (one_line.DoWhile a e) j t cases at s no_case no_default = refl
  other-item (one_line.For f test step a) j t cases at s no_case no_default = refl
  other-item (one_line.Switch e a) j t cases at s no_case no_default = refl
  other-item (one_line.Case e a) j t cases at s no_case no_default = absurd (no_case e a refl)
  other-item (one_line.Default a) j t cases at s no_case no_default = absurd (no_default a refl)
  other-item one_line.Break j t cases at s no_case no_default = refl
  other-item one_line.Continue j t cases at s no_case no_default = refl
  other-item (one_line.Return e) j t cases at s no_case no_default = refl

  pub item-gives : (l : Line) (j : Jumps) (t : IntType) (cases : Cases) (at : ℕ) (r : Result Cases Stop) (s u : State) →
      ((e : At Tree) (a : At Line) → l ≡ Case e a → ⊥) → ((a : At Line) → l ≡ Default a → ⊥) →
      Gives (λ cs. cs) r u (unlabelled (is_empty (out-Line l)) (counts (out-Line l)) (line_of target roles defined result l).line j cases at s) →
      Gives (λ cs. cs) r u ((line_of target roles defined result l).item j t cases at s)
  item-gives l j t cases at r s u no_case no_default found =
      let same : (of l).item j t cases at s ≡ unlabelled (is_empty (out-Line l)) (counts (out-Line l)) (of l).line j cases at s =
      ap (λ m. m.item j t cases at s) (line-out l)
      ∙ (other-item (out-Line l) j t cases at s (λ e a h. no_case e a (as_case l e a h)) (λ a h. no_default a (as_default l a h))
      ∙ ap (λ m. unlabelled (is_empty (out-Line l)) (counts (out-Line l)) m.line j cases at s) (sym (line-out l)))
      in subst (λ (m : Found Cases). Gives (λ cs. cs) r u m) (sym same) found

pub ruleset of_scoped_lines = (open-gives, plain-gives)

pub ruleset of_others = (switched-gives, item-gives)
