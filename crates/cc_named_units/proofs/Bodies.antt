-- What the lines of a function's body add: no more than they count. By induction over them.
use Rattle.std.proofs.Common.{◌≡◌, ◌≤◌, ◌+◌, ℕ, ℤ, Bool, true, false, ◌&&◌, List, [], ◌∷◌, ◌++◌, map, Option, Some, None, Ok, Err, refl, sym, ◌∙◌, subst, arith}
use Rattle.std.specs.Prelude.{if◌then◌else◌}
use Rattle.cc_named_units.specs.Counts.{each_count, total, maybe_count, tree_count, decl_count, first_count, line_counts, line_count}
use Rattle.cc_named_units.proofs.Adding.{AreCounted, adds_through, chained, before, answered, done, judged, entering, leaving, in_turn_adds}
use Rattle.cc_named_units.proofs.Cycle.{front_few, rest_few}
use Rattle.cc_named_units.specs.Named.{Limits, Adds}
use Rattle.cc_named_units.specs.Names.{all_named, each_named, maybe_named, tree_named, decl_named, first_named, line_names, line_named}
use Rattle.cc_program.specs.CcNum.declared.int_type.IntType.{IntType}
use Rattle.cc_program.specs.CcNum.declared.target.Target.{Target}
use Rattle.cc_type.specs.CcOperands.Operands.{Operand}
use Rattle.cc_type.specs.CcOperands.Verdicts.{Judged}
use Rattle.cc_type.specs.CcOperands.declared.rule.Rule.TheVariants as rule
use Rattle.cc_program.specs.declared.expr.Expr.{Expr}
use Rattle.cc_program.specs.declared.stmt.Stmt.{Stmt, Do, Empty, Block}
use Rattle.cc_program.specs.declared.types.CType.{CType}
use Rattle.cc_type.specs.CcScopes.State.{State, Name, empty, entered, left}
use Rattle.cc_type.specs.CcScopes.Verdicts.{Found, whole, and_then, maybe_found}
use Rattle.cc_sound_terms.proofs.Founds.{answer, then_found}
use Rattle.cc_type.specs.CcSpecifiers.declared.storage.Where.TheVariants as stands
use Rattle.cc_type.proofs.CcSyntax.Prefixes.{both_true}
use Rattle.cc_tree.specs.declared.at.At.{At}
use Rattle.cc_tree.specs.declared.tree.Tree.{Tree}
use Rattle.cc_tree.specs.declared.unit.Decl.{Decl}
use Rattle.cc_tree.specs.declared.unit.First.{First}
use Rattle.cc_tree.specs.declared.unit.First.TheVariants as first
use Rattle.cc_tree.specs.declared.unit.Line.{Line, roll-Line, map-Line, ind-Line, fold-roll-Line}
use Rattle.cc_tree.specs.declared.unit.Line.TheOpen as one_line
use Rattle.cc_type.specs.CcTypedBodies.Lines.{misplaced, label_found, misplaced_case, case_found, if_found, while_found, do_found, switch_found, for_found, inside, line_by, switched_by, item_by, line_step, line_of, line_here}
use Rattle.cc_type.specs.CcTypedBodies.Meanings.{LineMeaning, scoped, opens_scope, line_found, lines_found, block_found, body_inside, body_found, maybe_body, item_found, items_found, cases_inside, not_switched, switch_body, is_empty, counts, empty_item, unlabelled}
use Rattle.cc_type.specs.CcTypedBodies.Parts.{value_here, effect_found, expression_found, return_found, declared_found, first_found}
use Rattle.cc_type.specs.CcTypedBodies.Declarations.{declaration}
use Rattle.cc_type.specs.CcTypedStatements.Conditions.{body_of, effect, joined}
use Rattle.cc_type.specs.CcTypedStatements.Jumps.{in_loop, in_switch, break_of, continue_of, returned}
use Rattle.cc_type.specs.CcTypedStatements.Labels.{no_case, behind_empty, case_label, default_label, cases_behind, label_done}
use Rattle.cc_type.specs.CcTypedStatements.Labels.{behind as cases_with}
use Rattle.cc_type.specs.CcTypedStatements.Statements.{if_of, while_of, do_of, for_of}
use Rattle.cc_type.specs.CcTypedStatements.Switch.{switch_type, switch_of}
use Rattle.cc_type.specs.CcTypedStatements.declared.cases.Cases.{Cases}
use Rattle.cc_type.specs.CcTypedStatements.declared.jumps.Jumps.{Jumps}
use Rattle.cc_named_units.proofs.Declarations.{declaration_adds}
use Rattle.cc_named_units.proofs.InitialiserTerms.{value_added}

module _ (target : Target) (defined : List Name) (result : CType) (most : Limits) where
  -- what a line adds, where it stands alone, as the body of a `switch`, and in one
  pub record LineAdds (c : ℕ) (m : LineMeaning) : Type 0 where
    pub line : (j : Jumps) (at : ℕ) (s : State) (r : List Stmt × State) → m.line j at s ≡ Ok r → Adds most c s r.1
    pub switched : (j : Jumps) (t : IntType) (at : ℕ) (s : State) (r : Option Cases × State) → m.switched j t at s ≡ Ok r → Adds most c s r.1
    pub item : (j : Jumps) (t : IntType) (cases : Cases) (at : ℕ) (s : State) (r : Cases × State) → m.item j t cases at s ≡ Ok r → Adds most c s r.1

  -- ---- expressions and declarations

  abbrev IsNamedTree : At Tree → Type 0
  IsNamedTree e = (tree_named e.node ≡ true) × (tree_count e.node ≤ most.few)

  abbrev IsNamedPart : Option (At Tree) → Type 0
  IsNamedPart o = (maybe_named tree_named o ≡ true) × (maybe_count tree_count o ≤ most.few)

  here_adds : (e : At Tree) → IsNamedTree e → (s : State) (r : Operand × State) → value_here target most.roles e s ≡ Ok r → Adds most (tree_count e.node) s r.1
  unfolding value_here
  here_adds e q s r h = value_added target most.roles most e q.0 q.1 s r h

  effect_adds : (e : At Tree) → IsNamedTree e → (s : State) (r : Expr × State) → effect_found target most.roles e s ≡ Ok r → Adds most (tree_count e.node) s r.1
  unfolding effect_found
  effect_adds e q s r h = before most (tree_count e.node) (value_here target most.roles e s) (λ x s. whole e.at s (effect x)) s r (λ x f. here_adds e q s x f) (λ x f. judged most 0 e.at x.1 (effect x.0) r f) h

  maybe_adds : {A : Type 0} (find : At Tree → State → Found A) → ((e : At Tree) → IsNamedTree e → (s : State) (r : A × State) → find e s ≡ Ok r → Adds most (tree_count e.node) s r.1) → (o : Option (At Tree)) → IsNamedPart o →
      (s : State) (r : Option A × State) → maybe_found find o s ≡ Ok r → Adds most (maybe_count tree_count o) s r.1
  maybe_adds find f None q s r h = done most 0 None s r h
  maybe_adds find f (Some e) q s r h = before most (tree_count e.node) (find e s) (λ x s. answer (Some x) s) s r (λ x g. f e q s x g) (λ x g. done most 0 (Some x.0) x.1 r g) h

  expression_adds : (o : Option (At Tree)) → IsNamedPart o → (s : State) (r : List Stmt × State) → expression_found target most.roles o s ≡ Ok r → Adds most (maybe_count tree_count o) s r.1
  unfolding expression_found
  expression_adds None q s r h = done most 0 (Empty ∷ []) s r h
  expression_adds (Some e) q s r h =
      before most (tree_count e.node) (effect_found target most.roles e s) (λ e s. answer (Do e ∷ []) s) s r (λ x f. effect_adds e q s x f) (λ x f. done most 0 (Do x.0 ∷ []) x.1 r f) h

  return_adds : (o : Option (At Tree)) → IsNamedPart o → (at : ℕ) (s : State) (r : List Stmt × State) → return_found target most.roles result o at s ≡ Ok r → Adds most (maybe_count tree_count o) s r.1
  unfolding return_found
  return_adds o q at s r h =
      before most (maybe_count tree_count o) (maybe_found (value_here target most.roles) o s) (λ x s. whole at s (returned target result x)) s r
      (λ x f. maybe_adds (value_here target most.roles) (λ e q s r g. here_adds e q s r g) o q s x f) (λ x f. judged most 0 at x.1 (returned target result x.0) r f) h

  declared_adds : (d : Decl) → decl_named d ≡ true → decl_count d ≤ most.few → (s : State) (r : List Stmt × State) → declared_found target most.roles defined d s ≡ Ok r → Adds most (decl_count d) s r.1
  unfolding declared_found
  declared_adds d q l s r h =
      before most (decl_count d) (declaration target most.roles defined stands.InBlock d s) (λ es s. answer (map Do es) s) s r (λ x f. declaration_adds target defined most d q l stands.InBlock s x f)
      (λ x f. done most 0 (map Do x.0) x.1 r f) h

  first_adds : (f : First) → first_named f ≡ true → first_count f ≤ most.few → (s : State) (r : Option Expr × State) → first_found target most.roles defined f s ≡ Ok r → Adds most (first_count f) s r.1
  unfolding first_found
  first_adds (first.Decl d) q l s r h =
      before most (decl_count d) (declaration target most.roles defined stands.InFor d s) (λ es s. answer (joined es) s) s r (λ x f. declaration_adds target defined most d q l stands.InFor s x f) (λ x f. done most 0 (joined x.0) x.1 r f) h
  first_adds (first.Expr o) q l s r h = maybe_adds (effect_found target most.roles) (λ e q s r g. effect_adds e q s r g) o (q, l) s r h

  -- ---- scopes, and lines one behind another

  scoped_adds : {A : Type 0} (c : ℕ) (inner : State → Found A) (s : State) (r : A × State) → ((x : A × State) → inner (entered empty s) ≡ Ok x → Adds most c (entered empty s) x.1) → scoped inner s ≡ Ok r → Adds most c s r.1
  unfolding scoped
  scoped_adds c inner s r f h =
      adds_through most 0 c c s (entered empty s) r.1 (omega arith) (entering most empty s)
      (before most c (inner (entered empty s)) (λ x s. answer x (left s)) (entered empty s) r f (λ x g. answered most 0 x.0 x.1 (left x.1) r (leaving most x.1) g) h)

  line_found_adds : (j : Jumps) (m : ℕ) (l : At LineMeaning) → LineAdds m l.node → (front : List Stmt) (s : State) (r : List Stmt × State) → line_found j l front s ≡ Ok r → Adds most m s r.1
  line_found_adds j m l k front s r h = before most m (l.node.line j l.at s) (λ ss s. answer (front ++ ss) s) s r (λ x f. k.line j l.at s x f) (λ x f. done most 0 (front ++ x.0) x.1 r f) h

  pub lines_add : (j : Jumps) (ls : List (At LineMeaning)) (c : ℕ) → AreCounted LineAdds ls c → (s : State) (r : List Stmt × State) → lines_found j ls s ≡ Ok r → Adds most c s r.1
  unfolding lines_found
  lines_add j ls c g s r h = in_turn_adds most (line_found j) LineAdds (λ m l k front s r f. line_found_adds j m l k front s r f) ls c g [] s r h

  block_adds : (j : Jumps) (ls : List (At LineMeaning)) (c : ℕ) → AreCounted LineAdds ls c → (s : State) (r : List Stmt × State) → block_found j ls s ≡ Ok r → Adds most c s r.1
  unfolding block_found
  block_adds j ls c g s r h = before most c (lines_found j ls s) (λ ss s. answer (Block ss ∷ []) s) s r (λ x f. lines_add j ls c g s x f) (λ x f. done most 0 (Block x.0 ∷ []) x.1 r f) h

  inside_adds : (j : Jumps) (c : ℕ) (l : At LineMeaning) → LineAdds c l.node → (s : State) (r : List Stmt × State) → body_inside j l s ≡ Ok r → Adds most c s r.1
  unfolding body_inside
  inside_adds j c l k s r h = before most c (l.node.line j l.at s) (λ ss s. answer (body_of ss) s) s r (λ x f. k.line j l.at s x f) (λ x f. done most 0 (body_of x.0) x.1 r f) h

  body_adds : (j : Jumps) (c : ℕ) (l : At LineMeaning) → LineAdds c l.node → (s : State) (r : List Stmt × State) → body_found j l s ≡ Ok r → Adds most c s r.1
  body_adds j c l k s r h = scoped_adds c (body_inside j l) s r (λ x f. inside_adds j c l k (entered empty s) x f) h

  no_body_adds : (j : Jumps) (s : State) (r : List Stmt × State) → maybe_body j None s ≡ Ok r → Adds most 0 s r.1
  unfolding maybe_body
  no_body_adds j s r h = done most 0 [] s r h

  some_body_adds : (j : Jumps) (c : ℕ) (l : At LineMeaning) → LineAdds c l.node → (s : State) (r : List Stmt × State) → maybe_body j (Some l) s ≡ Ok r → Adds most c s r.1
  unfolding maybe_body
  some_body_adds j c l k s r h = body_adds j c l k s r h

  items_add : (j : Jumps) (t : IntType) (ls : List (At LineMeaning)) (c : ℕ) → AreCounted LineAdds ls c → (s : State) (r : Cases × State) → items_found j t ls s ≡ Ok r → Adds most c s r.1
  unfolding items_found
  items_add j t ls c g s r h = in_turn_adds most (item_found j t) LineAdds (λ m l k cases s r f. k.item j t cases l.at s r f) ls c g no_case s r h

  cases_add : (j : Jumps) (t : IntType) (ls : List (At LineMeaning)) (c : ℕ) → AreCounted LineAdds ls c → (s : State) (r : Option Cases × State) → cases_inside j t ls s ≡ Ok r → Adds most c s r.1
  unfolding cases_inside
  cases_add j t ls c g s r h = before most c (items_found j t ls s) (λ cases s. answer (Some cases) s) s r (λ x f. items_add j t ls c g s x f) (λ x f. done most 0 (Some x.0) x.1 r f) h

  -- ---- labels

  misplaced_never : (a : At LineMeaning) (j : Jumps) (at : ℕ) (s : State) (r : List Stmt × State) → misplaced a j at s ≡ Ok r → ⊥
  unfolding misplaced
  misplaced_never a j at s r h = let b = then_found (a.node.line j a.at s) (λ ss s. whole at s (Err rule.CaseLabel)) r h in let k = b.2 in absurd (cc)

  misplaced_case_never : (e : At Tree) (a : At LineMeaning) (j : Jumps) (at : ℕ) (s : State) (r : List Stmt × State) → misplaced_case target most.roles e a j at s ≡ Ok r → ⊥
  unfolding misplaced_case
  misplaced_case_never e a j at s r h = let b = then_found (value_here target most.roles e s) (λ x s. misplaced a j at s) r h in misplaced_never a j at b.0.1 r b.2

  label_adds : (l : Judged (Option ℤ)) (c : ℕ) (a : At LineMeaning) → LineAdds c a.node → (j : Jumps) (t : IntType) (cases : Cases) (at : ℕ) (s : State) (r : Cases × State) → label_found l a j t cases at s ≡ Ok r → Adds most c s r.1
  unfolding label_found
  label_adds l c a k j t cases at s r h =
      before most c (a.node.item j t (cases_behind l cases) a.at s) (λ cases s. whole at s (label_done l cases)) s r (λ x f. k.item j t (cases_behind l cases) a.at s x f) (λ x f. judged most 0 at x.1 (label_done l x.0) r f) h

  case_adds : (e : At Tree) → IsNamedTree e → (c : ℕ) (a : At LineMeaning) → LineAdds c a.node → (j : Jumps) (t : IntType) (cases : Cases) (at : ℕ) (s : State) (r : Cases × State) → case_found target most.roles e a j t cases at s ≡ Ok r →
      Adds most (tree_count e.node + c) s r.1
  unfolding case_found
  case_adds e q c a k j t cases at s r h =
      chained most (tree_count e.node) c (tree_count e.node + c) (value_here target most.roles e s) (λ x s. label_found (case_label target t x cases) a j t cases at s) s r (omega arith) (λ x f. here_adds e q s x f)
      (λ x f. label_adds (case_label target t x.0 cases) c a k j t cases at x.1 r f) h

  -- ---- choices and loops

  if_adds : (e : At Tree) → IsNamedTree e → (c : ℕ) (a : At LineMeaning) → LineAdds c a.node → (m : ℕ) (b : Option (At LineMeaning)) → ((j : Jumps) (s : State) (r : List Stmt × State) → maybe_body j b s ≡ Ok r → Adds most m s r.1) →
      (j : Jumps) (at : ℕ) (s : State) (r : List Stmt × State) → if_found target most.roles e a b j at s ≡ Ok r → Adds most (tree_count e.node + (c + m)) s r.1
  unfolding if_found
  if_adds e q c a k m b f j at s r h =
      chained most (tree_count e.node) (c + m) (tree_count e.node + (c + m)) (value_here target most.roles e s)
      (λ x s. and_then (body_found j a s) (λ these s. and_then (maybe_body j b s) (λ those s. whole at s (if_of x these those)))) s r (omega arith) (λ x g. here_adds e q s x g)
      (λ x g. chained most c m (c + m) (body_found j a x.1) (λ these s. and_then (maybe_body j b s) (λ those s. whole at s (if_of x.0 these those))) x.1 r (omega arith) (λ y i. body_adds j c a k x.1 y i)
      (λ y i. before most m (maybe_body j b y.1) (λ those s. whole at s (if_of x.0 y.0 those)) y.1 r (λ z l. f j y.1 z l) (λ z l. judged most 0 at z.1 (if_of x.0 y.0 z.0) r l) i) g) h

  while_adds : (e : At Tree) → IsNamedTree e → (c : ℕ) (a : At LineMeaning) → LineAdds c a.node → (j : Jumps) (at : ℕ) (s : State) (r : List Stmt × State) → while_found target most.roles e a j at s ≡ Ok r → Adds most (tree_count e.node + c) s r.1
  unfolding while_found
  while_adds e q c a k j at s r h =
      chained most (tree_count e.node) c (tree_count e.node + c) (value_here target most.roles e s) (λ x s. and_then (body_found (in_loop j) a s) (λ body s. whole at s (while_of x body))) s r (omega arith) (λ x g. here_adds e q s x g)
      (λ x g. before most c (body_found (in_loop j) a x.1) (λ body s. whole at s (while_of x.0 body)) x.1 r (λ y i. body_adds (in_loop j) c a k x.1 y i) (λ y i. judged most 0 at y.1 (while_of x.0 y.0) r i) g) h

  do_adds : (e : At Tree) → IsNamedTree e → (c : ℕ) (a : At LineMeaning) → LineAdds c a.node → (j : Jumps) (at : ℕ) (s : State) (r : List Stmt × State) → do_found target most.roles a e j at s ≡ Ok r → Adds most (tree_count e.node + c) s r.1
  unfolding do_found
  do_adds e q c a k j at s r h =
      chained most c (tree_count e.node) (tree_count e.node + c) (body_found (in_loop j) a s) (λ body s. and_then (value_here target most.roles e s) (λ x s. whole at s (do_of body x))) s r (omega arith) (λ x g. body_adds (in_loop j) c a k s x g)
      (λ x g. before most (tree_count e.node) (value_here target most.roles e x.1) (λ y s. whole at s (do_of x.0 y)) x.1 r (λ y i. here_adds e q x.1 y i) (λ y i. judged most 0 at y.1 (do_of x.0 y.0) r i) g) h

  switch_adds : (e : At Tree) → IsNamedTree e → (c : ℕ) (a : At LineMeaning) → LineAdds c a.node → (j : Jumps) (at : ℕ) (s : State) (r : List Stmt × State) → switch_found target most.roles e a j at s ≡ Ok r → Adds most (tree_count e.node + c) s r.1
  unfolding switch_found
  switch_adds e q c a k j at s r h =
      chained most (tree_count e.node) c (tree_count e.node + c) (value_here target most.roles e s) (λ x s. and_then (switch_body (in_switch j) (switch_type target x.type) a s) (λ cases s. whole at s (switch_of target x cases))) s r (omega arith)
      (λ x g. here_adds e q s x g)
      (λ x g. before most c (switch_body (in_switch j) (switch_type target x.0.type) a x.1) (λ cases s. whole at s (switch_of target x.0 cases)) x.1 r
      (λ y i. scoped_adds c (a.node.switched (in_switch j) (switch_type target x.0.type) a.at) x.1 y (λ z l. k.switched (in_switch j) (switch_type target x.0.type) a.at (entered empty x.1) z l) i)
      (λ y i. judged most 0 at y.1 (switch_of target x.0 y.0) r i) g) h

  for_adds : (f : First) → first_named f ≡ true → first_count f ≤ most.few → (test step : Option (At Tree)) → IsNamedPart test → IsNamedPart step → (c : ℕ) (a : At LineMeaning) → LineAdds c a.node →
      (j : Jumps) (at : ℕ) (s : State) (r : List Stmt × State) → for_found target most.roles defined f test step a j at s ≡ Ok r → Adds most (first_count f + (maybe_count tree_count test + (maybe_count tree_count step + c))) s r.1
  unfolding for_found
  for_adds f q l test step u v c a k j at s r h =
      let m = maybe_count tree_count test in
      let n = maybe_count tree_count step in
      chained most (first_count f) (m + (n + c)) (first_count f + (m + (n + c))) (first_found target most.roles defined f s)
      (λ f s. and_then (maybe_found (value_here target most.roles) test s) (λ test s. and_then (maybe_found (effect_found target most.roles) step s) (λ step s. and_then (body_found (in_loop j) a s) (λ body s. whole at s (for_of f test step body))))) s r (omega arith)
      (λ x g. first_adds f q l s x g)
      (λ x g. chained most m (n + c) (m + (n + c)) (maybe_found (value_here target most.roles) test x.1)
      (λ test s. and_then (maybe_found (effect_found target most.roles) step s) (λ step s. and_then (body_found (in_loop j) a s) (λ body s. whole at s (for_of x.0 test step body)))) x.1 r (omega arith)
      (λ y i. maybe_adds (value_here target most.roles) (λ e q s r g. here_adds e q s r g) test u x.1 y i)
      (λ y i. chained most n c (n + c) (maybe_found (effect_found target most.roles) step y.1) (λ step s. and_then (body_found (in_loop j) a s) (λ body s. whole at s (for_of x.0 y.0 step body))) y.1 r (omega arith)
      (λ z p. maybe_adds (effect_found target most.roles) (λ e q s r g. effect_adds e q s r g) step v y.1 z p)
      (λ z p. before most c (body_found (in_loop j) a z.1) (λ body s. whole at s (for_of x.0 y.0 z.0 body)) z.1 r (λ w o. body_adds (in_loop j) c a k z.1 w o) (λ w o. judged most 0 at w.1 (for_of x.0 y.0 z.0 w.0) r o) p) i) g) h

  -- ---- a line inside its scope, and in it

  abbrev InsideAdds : ℕ → one_line.Line-F LineMeaning → Type 0
  InsideAdds c x = (j : Jumps) (at : ℕ) (s : State) (r : List Stmt × State) → inside target most.roles defined result x j at s ≡ Ok r → Adds most c s r.1

  abbrev LineByAdds : ℕ → one_line.Line-F LineMeaning → Type 0
  LineByAdds c x = (j : Jumps) (at : ℕ) (s : State) (r : List Stmt × State) → line_by target most.roles defined result x j at s ≡ Ok r → Adds most c s r.1

  line_if : (c : ℕ) (x : one_line.Line-F LineMeaning) (b : Bool) → InsideAdds c x → (j : Jumps) (at : ℕ) (s : State) (r : List Stmt × State) →
      (if b then scoped (inside target most.roles defined result x j at) s else inside target most.roles defined result x j at s) ≡ Ok r → Adds most c s r.1
  line_if c x true f j at s r h = scoped_adds c (inside target most.roles defined result x j at) s r (λ y e. f j at (entered empty s) y e) h
  line_if c x false f j at s r h = f j at s r h

  line_is : (c : ℕ) (x : one_line.Line-F LineMeaning) → InsideAdds c x → LineByAdds c x
  line_is c x f j at s r h = line_if c x (opens_scope x) f j at s r h

  -- ---- as the body of a `switch`, and in one

  abbrev SwitchedAdds : ℕ → one_line.Line-F LineMeaning → Type 0
  SwitchedAdds c x = (j : Jumps) (t : IntType) (at : ℕ) (s : State) (r : Option Cases × State) → switched_by target most.roles defined result x j t at s ≡ Ok r → Adds most c s r.1

  abbrev ItemAdds : ℕ → one_line.Line-F LineMeaning → Type 0
  ItemAdds c x = (j : Jumps) (t : IntType) (cases : Cases) (at : ℕ) (s : State) (r : Cases × State) → item_by target most.roles defined result x j t cases at s ≡ Ok r → Adds most c s r.1

  other_switched : (c : ℕ) (x : one_line.Line-F LineMeaning) → LineByAdds c x → (j : Jumps) (at : ℕ) (s : State) (r : Option Cases × State) → not_switched (line_by target most.roles defined result x) j at s ≡ Ok r → Adds most c s r.1
  unfolding not_switched
  other_switched c x f j at s r h = before most c (line_by target most.roles defined result x j at s) (λ ss s. answer None s) s r (λ y g. f j at s y g) (λ y g. done most 0 None y.1 r g) h

  item_if : (b : Bool) (c : ℕ) (x : one_line.Line-F LineMeaning) → LineByAdds c x → (j : Jumps) (cases : Cases) (at : ℕ) (s : State) (r : Cases × State) →
      (if b then empty_item cases s else and_then (line_by target most.roles defined result x j at s) (λ ss s. answer (cases_with (counts x) ss cases) s)) ≡ Ok r → Adds most c s r.1
  item_if true c x f j cases at s r h = done most c (behind_empty (Empty ∷ []) cases) s r h
  item_if false c x f j cases at s r h =
      before most c (line_by target most.roles defined result x j at s) (λ ss s. answer (cases_with (counts x) ss cases) s) s r (λ y g. f j at s y g) (λ y g. done most 0 (cases_with (counts x) y.0 cases) y.1 r g) h

  other_item : (c : ℕ) (x : one_line.Line-F LineMeaning) → LineByAdds c x → (j : Jumps) (cases : Cases) (at : ℕ) (s : State) (r : Cases × State) →
      unlabelled (is_empty x) (counts x) (line_by target most.roles defined result x) j cases at s ≡ Ok r → Adds most c s r.1
  unfolding unlabelled
  other_item c x f j cases at s r h = item_if (is_empty x) c x f j cases at s r h

  -- ---- the parts of a line

  abbrev of : Line → LineMeaning
  of l = line_of target most.roles defined result l

  abbrev P : Line → Type 0
  P l = line_named l ≡ true → line_count l ≤ most.few → LineAdds (line_count l) (of l)

  abbrev SomeLine : Type 0
  SomeLine = (l : Line) × P l

  abbrev bare : one_line.Line-F SomeLine → one_line.Line-F Line
  bare y = map-Line SomeLine Line (λ l. l.0) y

  abbrev named : one_line.Line-F SomeLine → Bool
  named y = line_names (map-Line Line Bool line_named (bare y))

  abbrev count : one_line.Line-F SomeLine → ℕ
  count y = line_counts (map-Line Line ℕ line_count (bare y))

  abbrev meant : one_line.Line-F SomeLine → one_line.Line-F LineMeaning
  meant y = map-Line Line LineMeaning of (bare y)

  names-open : (x : one_line.Line-F Line) → line_named (roll-Line x) ≡ line_names (map-Line Line Bool line_named x)
  unfolding line_named
  names-open x = fold-roll-Line Bool line_names x

  counts-open : (x : one_line.Line-F Line) → line_count (roll-Line x) ≡ line_counts (map-Line Line ℕ line_count x)
  unfolding line_count
  counts-open x = fold-roll-Line ℕ line_counts x

  line-means : (x : one_line.Line-F Line) → of (roll-Line x) ≡ line_step target most.roles defined result (map-Line Line LineMeaning of x)
  unfolding line_of
  line-means x = fold-roll-Line LineMeaning (line_step target most.roles defined result) x

  abbrev here : At SomeLine → At LineMeaning
  here a = record { at = a.at; node = of a.node.0 }

  abbrev bare_at : At SomeLine → At Line
  bare_at a = record { at = a.at; node = a.node.0 }

  abbrev meant_at : At Line → At LineMeaning
  meant_at a = record { at = a.at; node = of a.node }

  abbrev named_at : At Line → At Bool
  named_at a = record { at = a.at; node = line_named a.node }

  abbrev count_at : At Line → At ℕ
  count_at a = record { at = a.at; node = line_count a.node }

  counted : (ls : List (At SomeLine)) → all_named (map named_at (map bare_at ls)) ≡ true → total (map count_at (map bare_at ls)) ≤ most.few → AreCounted LineAdds (map meant_at (map bare_at ls)) (total (map count_at (map bare_at ls)))
  counted [] h l = tt
  counted (x ∷ xs) h l =
      let c = both_true (line_named x.node.0) (all_named (map named_at (map bare_at xs))) h in
      let rest = total (map count_at (map bare_at xs)) in
      (line_count x.node.0, rest, refl, x.node.1 c.0 (front_few (line_count x.node.0) rest most.few l), counted xs c.1 (rest_few (line_count x.node.0) rest most.few l))

  tree_and_line : (e : At Tree) (a : At SomeLine) → tree_named e.node && line_named a.node.0 ≡ true → tree_count e.node + line_count a.node.0 ≤ most.few → IsNamedTree e × LineAdds (line_count a.node.0) (of a.node.0)
  tree_and_line e a h l =
      let c = both_true (tree_named e.node) (line_named a.node.0) h in
      ((c.0, front_few (tree_count e.node) (line_count a.node.0) most.few l), a.node.1 c.1 (rest_few (tree_count e.node) (line_count a.node.0) most.few l))

  inside_level : (y : one_line.Line-F SomeLine) → named y ≡ true → count y ≤ most.few → InsideAdds (count y) (meant y)
  inside_level (one_line.Block ls) h l j at s r f = block_adds j (map meant_at (map bare_at ls)) (total (map count_at (map bare_at ls))) (counted ls h l) s r f
  inside_level (one_line.Decl d) h l j at s r f = declared_adds d h l s r f
  inside_level (one_line.Expr e) h l j at s r f = expression_adds e (h, l) s r f
  inside_level (one_line.If e a None) h l j at s r f =
      let c = both_true (tree_named e.node) (line_named a.node.0 && true) h in
      let k = both_true (line_named a.node.0) true c.1 in
      let m = line_count a.node.0 + 0 in
      if_adds e (c.0, front_few (tree_count e.node) m most.few l) (line_count a.node.0) (here a) (a.node.1 k.0 (front_few (line_count a.node.0) 0 most.few (rest_few (tree_count e.node) m most.few l))) 0 None (λ j s r g. no_body_adds j s r g) j at s r f
  inside_level (one_line.If e a (Some b)) h l j at s r f =
      let c = both_true (tree_named e.node) (line_named a.node.0 && line_named b.node.0) h in
      let k = both_true (line_named a.node.0) (line_named b.node.0) c.1 in
      let m = line_count a.node.0 + line_count b.node.0 in
      let few = rest_few (tree_count e.node) m most.few l in
      let other = b.node.1 k.1 (rest_few (line_count a.node.0) (line_count b.node.0) most.few few) in
      if_adds e (c.0, front_few (tree_count e.node) m most.few l) (line_count a.node.0) (here a) (a.node.1 k.0 (front_few (line_count a.node.0) (line_count b.node.0) most.few few)) (line_count b.node.0) (Some (here b))
      (λ j s r g. some_body_adds j (line_count b.node.0) (here b) other s r g) j at s r f
  inside_level (one_line.While e a) h l j at s r f = let k = tree_and_line e a h l in while_adds e k.0 (line_count a.node.0) (here a) k.1 j at s r f
  inside_level (one_line.DoWhile a e) h l j at s r f = let k = tree_and_line e a h l in do_adds e k.0 (line_count a.node.0) (here a) k.1 j at s r f
  inside_level (one_line.For g test step a) h l j at s r f =
      let rest = maybe_count tree_count test + (maybe_count tree_count step + line_count a.node.0) in
      let last = maybe_count tree_count step + line_count a.node.0 in
      let c = both_true (first_named g) (maybe_named tree_named test && (maybe_named tree_named step && line_named a.node.0)) h in
      let k = both_true (maybe_named tree_named test) (maybe_named tree_named step && line_named a.node.0) c.1 in
      let d = both_true (maybe_named tree_named step) (line_named a.node.0) k.1 in
      let few = rest_few (first_count g) rest most.few l in
      let fewer = rest_few (maybe_count tree_count test) last most.few few in
      for_adds g c.0 (front_few (first_count g) rest most.few l) test step (k.0, front_few (maybe_count tree_count test) last most.few few) (d.0, front_few (maybe_count tree_count step) (line_count a.node.0) most.few fewer)
      (line_count a.node.0) (here a) (a.node.1 d.1 (rest_few (maybe_count tree_count step) (line_count a.node.0) most.few fewer)) j at s r f
  inside_level (one_line.Switch e a) h l j at s r f = let k = tree_and_line e a h l in switch_adds e k.0 (line_count a.node.0) (here a) k.1 j at s r f
  inside_level (one_line.Case e a) h l j at s r f = absurd (misplaced_case_never e (here a) j at s r f)
  inside_level (one_line.Default a) h l j at s r f = absurd (misplaced_never (here a) j at s r f)
  inside_level one_line.Break h l j at s r f = judged most 0 at s (break_of j) r f
  inside_level one_line.Continue h l j at s r f = judged most 0 at s (continue_of j) r f
  inside_level (one_line.Return e) h l j at s r f = return_adds e (h, l) at s r f

  line_level : (y : one_line.Line-F SomeLine) → named y ≡ true → count y ≤ most.few → LineByAdds (count y) (meant y)
  line_level y h l = line_is (count y) (meant y) (inside_level y h l)

  other_is : (y : one_line.Line-F SomeLine) → named y ≡ true → count y ≤ most.few → (j : Jumps) (at : ℕ) (s : State) (r : Option Cases × State) → not_switched (line_by target most.roles defined result (meant y)) j at s ≡ Ok r → Adds most (count y) s r.1
  other_is y h l j at s r f = other_switched (count y) (meant y) (line_level y h l) j at s r f

  switched_level : (y : one_line.Line-F SomeLine) → named y ≡ true → count y ≤ most.few → SwitchedAdds (count y) (meant y)
  switched_level (one_line.Block ls) h l j t at s r f =
      scoped_adds (total (map count_at (map bare_at ls))) (cases_inside j t (map meant_at (map bare_at ls))) s r (λ x g. cases_add j t (map meant_at (map bare_at ls)) (total (map count_at (map bare_at ls))) (counted ls h l) (entered empty s) x g) f
  switched_level (one_line.Decl d) h l j t at s r f = other_is (one_line.Decl d) h l j at s r f
  switched_level (one_line.Expr e) h l j t at s r f = other_is (one_line.Expr e) h l j at s r f
  switched_level (one_line.If e a b) h l j t at s r f = other_is (one_line.If e a b) h l j at s r f
  switched_level (one_line.While e a) h l j t at s r f = other_is (one_line.While e a) h l j at s r f
  switched_level (one_line.DoWhile a e) h l j t at s r f = other_is (one_line.DoWhile a e) h l j at s r f
  switched_level (one_line.For g test step a) h l j t at s r f = other_is (one_line.For g test step a) h l j at s r f
  switched_level (one_line.Switch e a) h l j t at s r f = other_is (one_line.Switch e a) h l j at s r f
  switched_level (one_line.Case e a) h l j t at s r f = other_is (one_line.Case e a) h l j at s r f
  switched_level (one_line.Default a) h l j t at s r f = other_is (one_line.Default a) h l j at s r f
  switched_level one_line.Break h l j t at s r f = other_is one_line.Break h l j at s r f
  switched_level one_line.Continue h l j t at s r f = other_is one_line.Continue h l j at s r f
  switched_level (one_line.Return e) h l j t at s r f = other_is (one_line.Return e) h l j at s r f

  item_is : (y : one_line.Line-F SomeLine) → named y ≡ true → count y ≤ most.few → (j : Jumps) (cases : Cases) (at : ℕ) (s : State) (r : Cases × State) →
      unlabelled (is_empty (meant y)) (counts (meant y)) (line_by target most.roles defined result (meant y)) j cases at s ≡ Ok r → Adds most (count y) s r.1
  item_is y h l j cases at s r f = other_item (count y) (meant y) (line_level y h l) j cases at s r f

  item_level : (y : one_line.Line-F SomeLine) → named y ≡ true → count y ≤ most.few → ItemAdds (count y) (meant y)
  item_level (one_line.Case e a) h l j t cases at s r f = let k = tree_and_line e a h l in case_adds e k.0 (line_count a.node.0) (here a) k.1 j t cases at s r f
  item_level (one_line.Default a) h l j t cases at s r f = label_adds (default_label cases) (line_count a.node.0) (here a) (a.node.1 h l) j t cases at s r f
  item_level (one_line.Block ls) h l j t cases at s r f = item_is (one_line.Block ls) h l j cases at s r f
  item_level (one_line.Decl d) h l j t cases at s r f = item_is (one_line.Decl d) h l j cases at s r f
  item_level (one_line.Expr e) h l j t cases at s r f = item_is (one_line.Expr e) h l j cases at s r f
  item_level (one_line.If e a b) h l j t cases at s r f = item_is (one_line.If e a b) h l j cases at s r f
  item_level (one_line.While e a) h l j t cases at s r f = item_is (one_line.While e a) h l j cases at s r f
  item_level (one_line.DoWhile a e) h l j t cases at s r f = item_is (one_line.DoWhile a e) h l j cases at s r f
  item_level (one_line.For g test step a) h l j t cases at s r f = item_is (one_line.For g test step a) h l j cases at s r f
  item_level (one_line.Switch e a) h l j t cases at s r f = item_is (one_line.Switch e a) h l j cases at s r f
  item_level one_line.Break h l j t cases at s r f = item_is one_line.Break h l j cases at s r f
  item_level one_line.Continue h l j t cases at s r f = item_is one_line.Continue h l j cases at s r f
  item_level (one_line.Return e) h l j t cases at s r f = item_is (one_line.Return e) h l j cases at s r f

  made : (y : one_line.Line-F SomeLine) → P (roll-Line (bare y))
  made y h l =
      let q = sym (names-open (bare y)) ∙ h in
      let k = subst (λ c. c ≤ most.few) (counts-open (bare y)) l in
      subst (λ c. LineAdds c (of (roll-Line (bare y)))) (sym (counts-open (bare y)))
      (subst (LineAdds (count y)) (sym (line-means (bare y)))
      (record { line = λ j at s r f. line_level y q k j at s r f; switched = λ j t at s r f. switched_level y q k j t at s r f; item = λ j t cases at s r f. item_level y q k j t cases at s r f }))

  line_adds : (l : Line) → P l
  line_adds = ind-Line P (λ x y e. subst (λ (z : one_line.Line-F Line). P (roll-Line z)) e (made y))

  each_line : (ls : List (At Line)) → each_named line_named ls ≡ true → each_count line_count ls ≤ most.few → AreCounted LineAdds (map (line_here target most.roles defined result) ls) (each_count line_count ls)
  each_line [] h l = tt
  each_line (x ∷ xs) h l =
      let c = both_true (line_named x.node) (each_named line_named xs) h in
      let rest = each_count line_count xs in
      (line_count x.node, rest, refl, line_adds x.node c.0 (front_few (line_count x.node) rest most.few l), each_line xs c.1 (rest_few (line_count x.node) rest most.few l))

  pub body_lines_add : (ls : List (At Line)) → each_named line_named ls ≡ true → each_count line_count ls ≤ most.few → (j : Jumps) (s : State) (r : List Stmt × State) → lines_found j (map (line_here target most.roles defined result) ls) s ≡ Ok r →
      Adds most (each_count line_count ls) s r.1
  body_lines_add ls q l j s r h = lines_add j (map (line_here target most.roles defined result) ls) (each_count line_count ls) (each_line ls q l) s r h
