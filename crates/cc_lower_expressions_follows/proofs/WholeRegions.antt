-- The control of q that stands in code of expression statements and `if`s goes on as the tree of that code.
use Rattle.std.proofs.Common.{◌≡◌, Bool, true, false, ◌&&◌, List, [], ◌∷◌, ◌++◌, Option, Some, None, refl, ap, sym, ◌∙◌, subst, append_assoc, append-nil, if◌then◌else◌}
use Rattle.std.specs.Prelude.{slice_get}
use Rattle.std.proofs.Math.Path.{fun_ext}
use Rattle.cc_states.specs.CcControl.declared.phase.Phase.{Phase}
use Rattle.cc_states.specs.CcControl.Control.{is_loop, opening, first_phase, coming}
use Rattle.cc_states.specs.CcEval.declared.mark.Mark.{Mark}
use Rattle.cc_states.specs.CcEval.declared.action.Action.{Action}
use Rattle.cc_states.specs.CcEval.declared.action.Action.TheVariants.{Choose}
use Rattle.cc_states.specs.CcEval.Progress.{Progress, Known, Waits, Traps, Get, known, and_then, ask, bind, needs}
use Rattle.cc_states.specs.CcEval.Marks.{IsUsed, UsesFirst}
use Rattle.cc_program.specs.declared.expr.Expr.{Expr}
use Rattle.cc_program.specs.declared.func.Func.{Func}
use Rattle.cc_program.specs.declared.stmt.Case.{Case, fold-Case}
use Rattle.cc_program.specs.declared.stmt.Stmt.{Stmt, out-Stmt, fold_out-Stmt, map-Stmt}
use Rattle.cc_program.specs.declared.stmt.Stmt.TheOpen as is
use Rattle.cc_program.specs.declared.value.Value.{Value}
use Rattle.cc_states.specs.CcSteps.Runs.{begins_at}
use Rattle.cc_states.specs.CcSteps.Step.{is_known, worked, progress_in}
use Rattle.cc_states.specs.CcSyntax.Forms.{form_of}
use Rattle.cc_states.specs.CcValues.Values.{truth, is_true}
use Rattle.cc_meaning_simulations.specs.Continuations.{Continuation, Remainder, remainder, resume, in_arm, enclosing}
use Rattle.cc_meaning_simulations.specs.Transitions.{ControlState, is_at_boundary, at_continuation, begun_there, jump_to, progress_there, settled_control_in, marked_control, Performs, Aborts, Jumps, transition_in, transition}
use Rattle.cc_meaning_simulations.proofs.ContinuationLemmas.{begin_stands}
use Rattle.cc_lower_expressions_follows.specs.Trees.{Setting, after}
use Rattle.cc_lower_expressions_follows.specs.Relation.{finished, forked, code_tree, tree_step, stmt_tree}
use Rattle.cc_lower_expressions_follows.specs.Region.{code_step, is_code, are_code, AreCode, is_step, next_q, levels_tree, rest_of, current, Kind, Doing, Testing}
use Rattle.cc_lower_expressions_follows.specs.WholeRegion.{StandsAmid, control_in, nowhere, AmidCode, StandsInCode, Amid, Past}
use Rattle.cc_lower_expressions_follows.proofs.TreeLaws.{bind-assoc}

abbrev unit_known : Progress (Unit {0})
unit_known = Known tt []

both_true : (a b : Bool) → (a && b) ≡ true → (a ≡ true) × (b ≡ true)
both_true true b h = (refl, h)
both_true false b h = absurd (cc)

cons_same : {A : Type 0} (x y : A) (xs ys : List A) → x ∷ xs ≡ y ∷ ys → xs ≡ ys
cons_same x y xs ys e = cc

-- ---- marks

no_rest : {A : Type 0} (xs : List A) (x : A) (ys : List A) → xs ++ x ∷ ys ≡ [] → ⊥
no_rest [] x ys e = absurd (cc)
no_rest (y ∷ xs) x ys e = absurd (cc)

-- what is left of a list without its last
without_last : (used : List Mark) (x : Mark) (r ms : List Mark) (m : Mark) → used ++ x ∷ r ≡ ms ++ m ∷ [] → (r' : List Mark) × (ms ≡ used ++ r')
without_last [] x r ms m e = (ms, refl)
without_last (u ∷ used) x r [] m e = absurd (no_rest used x r (cons_same u m (used ++ x ∷ r) [] e))
without_last (u ∷ used) x r (n ∷ ms) m e =
    let k : u ≡ n = cc in
    let rest = without_last used x r ms m (cons_same u n (used ++ x ∷ r) (ms ++ m ∷ []) e) in
    (rest.0, ap (λ (xs : List Mark). n ∷ xs) rest.1 ∙ ap (λ (y : Mark). y ∷ (used ++ rest.0)) (sym k))

module _ {A : Type 0} (g : Get A) (law : UsesFirst g) where
  -- where one waited in front of the last mark, all marks are used
  pub all_used : (ms : List Mark) (m : Mark) (action : Action) (a : A) (r : List Mark) → g ms ≡ Waits action → g (ms ++ m ∷ []) ≡ Known a r → (more : List Mark) → g ((ms ++ m ∷ []) ++ more) ≡ Known a more
  all_used ms m action a r w e more = by_rest r (law.known a (ms ++ m ∷ []) r e)
    where
      known_waits : (r' : List Mark) → Known a r' ≡ Waits action → ⊥
      known_waits r' e = absurd (cc)

      by_rest : (r : List Mark) → IsUsed g (Known a) (ms ++ m ∷ []) r → g ((ms ++ m ∷ []) ++ more) ≡ Known a more
      by_rest [] u = ap (λ (xs : List Mark). g (xs ++ more)) (u.1 ∙ append-nil u.0) ∙ u.2 more
      by_rest (x ∷ r) u =
          let p = without_last u.0 x r ms m (sym u.1) in
          absurd (known_waits p.0 (sym (u.2 p.0) ∙ ap g (sym p.1) ∙ w))

  pub none_used : (a : A) (r : List Mark) → g [] ≡ Known a r → (more : List Mark) → g more ≡ Known a more
  none_used a r e more = by_rest (law.known a [] r e)
    where
      by_used : (used : List Mark) → [] ≡ used ++ r → ((more : List Mark) → g (used ++ more) ≡ Known a more) → g more ≡ Known a more
      by_used [] e f = f more
      by_used (x ∷ used) e f = absurd (cc)

      by_rest : IsUsed g (Known a) [] r → g more ≡ Known a more
      by_rest u = by_used u.0 u.1 u.2

-- ---- one statement

opening_kind : (w : Setting) (s : Stmt) (e : Expr) → Kind w s e → opening (out-Stmt s) ≡ []
opening_kind w s e (Doing h) = ap opening h
opening_kind w s e (Testing a b h ca cb) = ap opening h

abbrev case_code : Case → Bool
case_code c = fold-Case Bool Bool code_step (λ c. false) c

code_level : (s : Stmt) → is_code s ≡ code_step (map-Stmt Stmt Case Bool Bool is_code case_code (out-Stmt s))
unfolding is_code
code_level s = fold_out-Stmt Bool Bool code_step (λ c. false) s

-- which kind it is; an expression statement asks for a step first
record KindOf (w : Setting) (s : Stmt) : Type 0 where
  expr : Expr
  kind : Kind w s expr
  steps : out-Stmt s ≡ is.Do expr → is_step (form_of expr) ≡ true

kind_at : (w : Setting) (s : Stmt) (x : is.Stmt-F Stmt Case) → out-Stmt s ≡ x → code_step (map-Stmt Stmt Case Bool Bool is_code case_code x) ≡ true → KindOf w s
kind_at w s (is.Do e) h k = record { expr = e; kind = Doing h; steps = λ f. k }
kind_at w s (is.If e a b) h k = let c = both_true (are_code a) (are_code b) k in record { expr = e; kind = Testing a b h c.0 c.1; steps = λ f. absurd (no_do f) }
  where
    no_do : out-Stmt s ≡ is.Do e → ⊥
    no_do f = let g : is.If e a b ≡ is.Do e = sym h ∙ f in absurd (cc)
kind_at w s (is.While e a) h k = absurd (cc)
kind_at w s (is.DoWhile a e) h k = absurd (cc)
kind_at w s (is.For first test again a) h k = absurd (cc)
kind_at w s (is.Switch e cases) h k = absurd (cc)
kind_at w s is.Break h k = absurd (cc)
kind_at w s is.Continue h k = absurd (cc)
kind_at w s (is.Return e) h k = absurd (cc)
kind_at w s is.Empty h k = absurd (cc)
kind_at w s (is.Block a) h k = absurd (cc)

kind_of : (w : Setting) (s : Stmt) → is_code s ≡ true → KindOf w s
kind_of w s h = kind_at w s (out-Stmt s) refl (sym (code_level s) ∙ h)

-- ---- what the tree asks for first, by how far the expression has come

abbrev first_of_do : (Unit {0} → Get (Unit {0})) → Progress (Option Value) → Progress (Unit {0})
first_of_do behind p = and_then (and_then p (λ v. needs v (λ x. known tt))) behind

abbrev first_of_if : Get (Unit {0}) → Get (Unit {0}) → (Unit {0} → Get (Unit {0})) → Progress (Option Value) → Progress (Unit {0})
first_of_if x y behind p = and_then (and_then p (λ v. needs (truth v) (λ b. bind (ask (Choose (Some b)) (λ m. b)) (λ b. if b then x else y)))) behind

module _ (w : Setting) (out : List Stmt) (outer : List Remainder)
    (laws : (e : Expr) → UsesFirst (next_q w e))
    (asks : (e : Expr) → is_step (form_of e) ≡ true → (v : Value) (r : List Mark) → next_q w e [] ≡ Known (Some v) r → ⊥)
    (function : slice_get w.q.funcs w.id ≡ Some w.to) where
  -- where an activation comes to that goes on in code: behind all of it, or to the first statement that is left
  data Arrives (l : List Stmt) (ls : List (List Stmt)) (at : Continuation) : Type 0 where
    Leaves : levels_tree w (l ∷ ls) ≡ known tt → at ≡ resume out outer → Arrives l ls at
    Comes : (s : Stmt) (l' : List Stmt) (ls' : List (List Stmt)) (rest : List Stmt) (around : List Remainder) → at ≡ (remainder (s ∷ rest) (first_phase (out-Stmt s)), around) →
        StandsAmid out outer (s ∷ l') ls' (s ∷ rest) around → AreCode ((s ∷ l') ∷ ls') → levels_tree w (l ∷ ls) ≡ levels_tree w ((s ∷ l') ∷ ls') → Arrives l ls at

  passed_by : (m : List Stmt) (ls : List (List Stmt)) (at : Continuation) → Arrives m ls at → Arrives [] (m ∷ ls) at
  passed_by m ls at (Leaves e f) = Leaves e f
  passed_by m ls at (Comes s l' ls' rest around e h c f) = Comes s l' ls' rest around e h c f

  closes : (c : Stmt) (rest : List Stmt) (phase : Phase) (around : List Remainder) → is_loop (out-Stmt c) ≡ false → resume [] (remainder (c ∷ rest) phase ∷ around) ≡ resume rest around
  closes c rest phase around e = ap (λ (b : Bool). if b then (remainder (c ∷ rest) phase, around) else resume rest around) e

  begins_code : (s : Stmt) (l : List Stmt) (ls : List (List Stmt)) (rest : List Stmt) (around : List Remainder) → AreCode ((s ∷ l) ∷ ls) → resume (s ∷ rest) around ≡ (remainder (s ∷ rest) (first_phase (out-Stmt s)), around)
  begins_code s l ls rest around c =
      let k = kind_of w s (both_true (is_code s) (are_code l) c.0).0 in
      begin_stands s rest around (opening_kind w s k.expr k.kind)

  arrives : (l : List Stmt) (ls : List (List Stmt)) (rest : List Stmt) (around : List Remainder) → StandsAmid out outer l ls rest around → AreCode (l ∷ ls) → Arrives l ls (resume rest around)
  arrives [] [] rest around h c = Leaves refl (λ i. resume (h.0 i) (h.1 i))
  arrives (s ∷ l) [] rest around h c =
      Comes s l [] (l ++ out) around (ap (λ (xs : List Stmt). resume xs around) h.0 ∙ begins_code s l [] (l ++ out) around c) (refl, h.1) c refl
  arrives [] (m ∷ ls) rest around h c =
      passed_by m ls (resume rest around)
      (subst (Arrives m ls) (sym (ap (λ (x : List Stmt). resume x around) h.0 ∙ ap (resume []) h.5 ∙ closes h.1 h.2 h.3 h.4 h.6))
      (arrives m ls h.2 h.4 h.7 c.1))
  arrives (s ∷ l) (m ∷ ls) rest around h c =
      Comes s l (m ∷ ls) l around (ap (λ (xs : List Stmt). resume xs around) h.0 ∙ begins_code s l (m ∷ ls) l around c) (refl, h.1, h.2, h.3, h.4, h.5, h.6, h.7) c refl

  -- nothing was done of a statement
  fresh_stmt : (s : Stmt) (e : Expr) → Kind w s e → stmt_tree w s ≡ current w (out-Stmt s) []
  unfolding stmt_tree
  fresh_stmt s e (Doing h) =
      fold_out-Stmt (Get (Unit {0})) (Unit {0}) (tree_step w) (λ c. tt) s ∙
      ap (λ (x : is.Stmt-F Stmt Case). tree_step w (map-Stmt Stmt Case (Get (Unit {0})) (Unit {0}) (stmt_tree w) (fold-Case (Get (Unit {0})) (Unit {0}) (tree_step w) (λ c. tt)) x)) h ∙
      sym (ap (λ (x : is.Stmt-F Stmt Case). current w x []) h)
  fresh_stmt s e (Testing a b h ca cb) =
      fold_out-Stmt (Get (Unit {0})) (Unit {0}) (tree_step w) (λ c. tt) s ∙
      ap (λ (x : is.Stmt-F Stmt Case). tree_step w (map-Stmt Stmt Case (Get (Unit {0})) (Unit {0}) (stmt_tree w) (fold-Case (Get (Unit {0})) (Unit {0}) (tree_step w) (λ c. tt)) x)) h ∙
      sym (ap (λ (x : is.Stmt-F Stmt Case). current w x []) h)

  -- there nothing is passed
  not_passed : (s : Stmt) (e : Expr) (rest : List Stmt) (phase : Phase) (around : List Remainder) → Kind w s e → begun_there w.q w.number w.id (remainder (s ∷ rest) phase, around) ≡ (remainder (s ∷ rest) phase, around)
  not_passed s e rest phase around (Doing h) = rw h refl
  not_passed s e rest phase around (Testing a b h ca cb) = rw h refl

  -- behind the first statement
  stands_behind : (s : Stmt) (l : List Stmt) (ls : List (List Stmt)) (rest : List Stmt) (around : List Remainder) → StandsAmid out outer (s ∷ l) ls (s ∷ rest) around → StandsAmid out outer l ls rest around
  stands_behind s l [] rest around h = (cons_same s s rest (l ++ out) h.0, h.1)
  stands_behind s l (m ∷ ls) rest around h = (cons_same s s rest l h.0, h.1, h.2, h.3, h.4, h.5, h.6, h.7)

  code_behind : (s : Stmt) (l : List Stmt) (ls : List (List Stmt)) → AreCode ((s ∷ l) ∷ ls) → AreCode (l ∷ ls)
  code_behind s l ls h = ((both_true (is_code s) (are_code l) h.0).1, h.1)

  -- where it comes to, it stands in the code that is left
  comes_in : (l : List Stmt) (ls : List (List Stmt)) (at : Continuation) → Arrives l ls at → StandsInCode w out outer (jump_to w.q (nowhere w) at) (levels_tree w (l ∷ ls))
  comes_in l ls at (Leaves e f) = Past (record { ended = e; at = ap (jump_to w.q (nowhere w)) f })
  comes_in l ls at (Comes s l' ls' rest around e h c f) =
      let k = kind_of w s (both_true (is_code s) (are_code l') c.0).0 in
      Amid (record {
        stmt = s;
        list = l';
        levels = ls';
        rest = rest;
        around = around;
        marks = [];
        phase = first_phase (out-Stmt s);
        here = ap (jump_to w.q (nowhere w)) e ∙ ap (at_continuation (nowhere w)) (not_passed s k.expr rest (first_phase (out-Stmt s)) around k.kind);
        stands = h;
        code = code_behind s l' ls' c;
        tree = f ∙ bind-assoc (stmt_tree w s) (λ u. code_tree w l') (λ u. levels_tree w ls') ∙
            ap (λ (g : Get (Unit {0})). bind g (λ u. levels_tree w (l' ∷ ls'))) (fresh_stmt s k.expr k.kind);
        expr = k.expr;
        kind = k.kind;
        exact = none_used (next_q w k.expr) (laws k.expr);
        unsettled = λ d v r h. asks k.expr (k.steps d) v r h;
      })

  -- at the beginning of code
  pub enters_code : (list : List Stmt) → are_code list ≡ true → StandsInCode w out outer (jump_to w.q (nowhere w) (resume (list ++ out) outer)) (levels_tree w (list ∷ []))
  enters_code list c = comes_in list [] (resume (list ++ out) outer) (arrives list [] (list ++ out) outer (refl, refl) (c, tt))

  -- which is at a boundary, where it is so behind the code
  pub enters_at_boundary : (list : List Stmt) → are_code list ≡ true → is_at_boundary (jump_to w.q (nowhere w) (resume out outer)) ≡ true → is_at_boundary (jump_to w.q (nowhere w) (resume (list ++ out) outer)) ≡ true
  enters_at_boundary [] c h = h
  enters_at_boundary (s ∷ l) c h =
      let k = kind_of w s (both_true (is_code s) (are_code l) c).0 in
      ap (λ (x : Continuation). is_at_boundary (jump_to w.q (nowhere w) x)) (begin_stands s (l ++ out) outer (opening_kind w s k.expr k.kind)) ∙
      ap (λ (x : Continuation). is_at_boundary (at_continuation (nowhere w) x)) (not_passed s k.expr (l ++ out) (first_phase (out-Stmt s)) outer k.kind) ∙ by_kind k.kind
    where
      by_kind : {e : Expr} → Kind w s e → begins_at (out-Stmt s) (first_phase (out-Stmt s)) ≡ true
      by_kind (Doing d) = ap (λ (x : is.Stmt-F Stmt Case). begins_at x (first_phase x)) d
      by_kind (Testing a b d ca cb) = ap (λ (x : is.Stmt-F Stmt Case). begins_at x (first_phase x)) d

  one_more : (e : Expr) (ms : List Mark) (m : Mark) → (λ more. next_q w e (ms ++ m ∷ more)) ≡ rest_of w e (ms ++ m ∷ [])
  one_more e ms m = fun_ext (λ more. ap (next_q w e) (sym (append_assoc ms (m ∷ []) more)))

  current_more : (s : Stmt) (e : Expr) (ms : List Mark) (m : Mark) → Kind w s e → after (current w (out-Stmt s) ms) m ≡ current w (out-Stmt s) (ms ++ m ∷ [])
  current_more s e ms m (Doing h) = rw h (ap finished (one_more e ms m))
  current_more s e ms m (Testing a b h ca cb) = rw h (ap (λ g. forked g (code_tree w a) (code_tree w b)) (one_more e ms m))

  progress_is : (at : Remainder) (around : List Remainder) (ms : List Mark) (e : Expr) → progress_there w.q (control_in w at around ms) (Some e) ≡ next_q w e ms
  progress_is at around ms e = ap (λ (o : Option Func). progress_in w.q w.number w.id ms o (Some e)) function

  -- ---- a step of the expression was done

  module _ (a : ControlState) (h : Get (Unit {0})) (c : AmidCode w out outer a h) where
    abbrev here_is : Remainder
    here_is = remainder (c.stmt ∷ c.rest) c.phase

    abbrev with_marks : List Mark → ControlState
    with_marks ms = control_in w here_is c.around ms

    abbrev behind_it : Unit {0} → Get (Unit {0})
    behind_it u = levels_tree w (c.list ∷ c.levels)

    stands_in_rest : StandsAmid out outer c.list c.levels c.rest c.around
    stands_in_rest = stands_behind c.stmt c.list c.levels c.rest c.around c.stands

    module _ (action : Action) (m : Mark) (waits : next_q w c.expr c.marks ≡ Waits action) where
      tree_more : after h m ≡ bind (current w (out-Stmt c.stmt) (c.marks ++ m ∷ [])) behind_it
      tree_more =
          ap (λ (g : Get (Unit {0})). after g m) c.tree ∙
          ap (λ (g : Get (Unit {0})). bind g behind_it) (current_more c.stmt c.expr c.marks m c.kind)

      with_one_more : (out-Stmt c.stmt ≡ is.Do c.expr → (v : Value) (r : List Mark) → next_q w c.expr (c.marks ++ m ∷ []) ≡ Known (Some v) r → ⊥) → AmidCode w out outer (with_marks (c.marks ++ m ∷ [])) (after h m)
      with_one_more u = record {
        stmt = c.stmt;
        list = c.list;
        levels = c.levels;
        rest = c.rest;
        around = c.around;
        marks = c.marks ++ m ∷ [];
        phase = c.phase;
        here = refl;
        stands = c.stands;
        code = c.code;
        tree = tree_more;
        expr = c.expr;
        kind = c.kind;
        exact = λ v r e. all_used (next_q w c.expr) (laws c.expr) c.marks m action v r waits e;
        unsettled = u;
      }

      leaves : out-Stmt c.stmt ≡ is.Do c.expr → (v : Value) (r : List Mark) → next_q w c.expr (c.marks ++ m ∷ []) ≡ Known (Some v) r → after h m ≡ levels_tree w (c.list ∷ c.levels)
      leaves d v r e =
          tree_more ∙
          ap (λ (x : is.Stmt-F Stmt Case). bind (current w x (c.marks ++ m ∷ [])) behind_it) d ∙
          ap (λ (g : Get (Unit {0})). bind g behind_it)
          (fun_ext (λ more. ap (λ (p : Progress (Option Value)). and_then p (λ v. needs v (λ x. known tt))) (all_used (next_q w c.expr) (laws c.expr) c.marks m action (Some v) r waits e more)))

      gone : out-Stmt c.stmt ≡ is.Do c.expr → (v : Value) (r : List Mark) → next_q w c.expr (c.marks ++ m ∷ []) ≡ Known (Some v) r → StandsInCode w out outer (jump_to w.q (nowhere w) (resume c.rest c.around)) (after h m)
      gone d v r e =
          subst (StandsInCode w out outer (jump_to w.q (nowhere w) (resume c.rest c.around))) (sym (leaves d v r e))
          (comes_in c.list c.levels (resume c.rest c.around) (arrives c.list c.levels c.rest c.around stands_in_rest c.code))

      abbrev settled_by : Progress (Option Value) → ControlState
      settled_by p = if is_known p then jump_to w.q (nowhere w) (resume c.rest c.around) else with_marks (c.marks ++ m ∷ [])

      done_of : out-Stmt c.stmt ≡ is.Do c.expr → (p : Progress (Option Value)) → next_q w c.expr (c.marks ++ m ∷ []) ≡ p → StandsInCode w out outer (settled_by p) (after h m)
      done_of d (Waits other) e = Amid (with_one_more (λ d v r k. absurd (known_no (sym k ∙ e))))
        where
          known_no : {v : Value} {r : List Mark} → Known (Some v) r ≡ Waits other → ⊥
          known_no k = absurd (cc)
      done_of d (Traps ms) e = Amid (with_one_more (λ d v r k. absurd (known_no (sym k ∙ e))))
        where
          known_no : {v : Value} {r : List Mark} → Known (Some v) r ≡ Traps ms → ⊥
          known_no k = absurd (cc)
      done_of d (Known None ms) e = Amid (with_one_more (λ d v r k. absurd (known_no r v (sym k ∙ e))))
        where
          known_no : (r : List Mark) (v : Value) → ◌≡◌ {A = Progress (Option Value)} (Known (Some v) r) (Known None ms) → ⊥
          known_no r v k = absurd (cc)
      done_of d (Known (Some v) ms) e = gone d v ms e

      settled_kind : Kind w c.stmt c.expr → StandsInCode w out outer (settled_control_in w.q (out-Stmt c.stmt) (with_marks (c.marks ++ m ∷ []))) (after h m)
      settled_kind (Doing d) =
          subst (λ (x : is.Stmt-F Stmt Case). StandsInCode w out outer (settled_control_in w.q x (with_marks (c.marks ++ m ∷ []))) (after h m)) (sym d)
          (subst (λ (p : Progress (Option Value)). StandsInCode w out outer (settled_by p) (after h m)) (sym (progress_is here_is c.around (c.marks ++ m ∷ []) c.expr))
          (done_of d (next_q w c.expr (c.marks ++ m ∷ [])) refl))
      settled_kind (Testing x y d cx cy) =
          subst (λ (x : is.Stmt-F Stmt Case). StandsInCode w out outer (settled_control_in w.q x (with_marks (c.marks ++ m ∷ []))) (after h m)) (sym d) (Amid (with_one_more (λ f v r k. absurd (no_do f))))
        where
          no_do : out-Stmt c.stmt ≡ is.Do c.expr → ⊥
          no_do f = let g : is.If c.expr x y ≡ is.Do c.expr = sym d ∙ f in absurd (cc)

      marked_in_code : StandsInCode w out outer (marked_control w.q a m) (after h m)
      marked_in_code = subst (λ (b : ControlState). StandsInCode w out outer (marked_control w.q b m) (after h m)) (sym c.here) (settled_kind c.kind)

    -- ---- the branch step of an `if`

    module _ (x y : List Stmt) (d : out-Stmt c.stmt ≡ is.If c.expr x y) (cx : are_code x ≡ true) (cy : are_code y ≡ true) where
      into_arm : (list : List Stmt) → are_code list ≡ true → StandsInCode w out outer (jump_to w.q (nowhere w) (resume list (enclosing here_is ∷ c.around))) (levels_tree w (list ∷ c.list ∷ c.levels))
      into_arm list ac =
          comes_in list (c.list ∷ c.levels) (resume list (enclosing here_is ∷ c.around))
          (arrives list (c.list ∷ c.levels) list (enclosing here_is ∷ c.around)
          (refl, c.stmt, c.rest, coming (c.stmt ∷ c.rest), c.around, refl, ap is_loop d, stands_in_rest)
          (ac, c.code))

      arm_stands : (b : Bool) → StandsInCode w out outer (jump_to w.q (nowhere w) (in_arm b x y (enclosing here_is ∷ c.around))) (levels_tree w ((if b then x else y) ∷ c.list ∷ c.levels))
      arm_stands true = into_arm x cx
      arm_stands false = into_arm y cy

      module _ (v : Value) (r : List Mark) (known_at : next_q w c.expr c.marks ≡ Known (Some v) r) where
        abbrev to_arm : Bool → Get (Unit {0})
        to_arm b = if b then code_tree w x else code_tree w y

        branch_tree : (m : Mark) (more : List Mark) → forked (rest_of w c.expr c.marks) (code_tree w x) (code_tree w y) (m ∷ more) ≡ to_arm (is_true v) more
        branch_tree m more =
            ap (λ (p : Progress (Option Value)). and_then p (λ v. needs (truth v) (λ b. bind (ask (Choose (Some b)) (λ m. b)) (λ b. if b then code_tree w x else code_tree w y)))) (c.exact (Some v) r known_at (m ∷ more))

        same_arm : (b : Bool) → bind (to_arm b) behind_it ≡ levels_tree w ((if b then x else y) ∷ c.list ∷ c.levels)
        same_arm true = refl
        same_arm false = refl

        -- q's `if` goes to the arm that the tree chooses
        branched : (m : Mark) → StandsInCode w out outer (jump_to w.q (nowhere w) (in_arm (is_true v) x y (enclosing here_is ∷ c.around))) (after h m)
        branched m =
            subst (StandsInCode w out outer (jump_to w.q (nowhere w) (in_arm (is_true v) x y (enclosing here_is ∷ c.around))))
            (sym (ap (λ (g : Get (Unit {0})). after g m) c.tree ∙
            ap (λ (z : is.Stmt-F Stmt Case). after (bind (current w z c.marks) behind_it) m) d ∙
            ap (λ (g : Get (Unit {0})). bind g behind_it) (fun_ext (branch_tree m)) ∙
            same_arm (is_true v)))
            (arm_stands (is_true v))

    -- ---- what comes next

    now : next_q w c.expr (c.marks ++ []) ≡ next_q w c.expr c.marks
    now = ap (next_q w c.expr) (append-nil c.marks)

    first_do : out-Stmt c.stmt ≡ is.Do c.expr → h [] ≡ first_of_do behind_it (next_q w c.expr c.marks)
    first_do d = ap (λ (g : Get (Unit {0})). g []) c.tree ∙ ap (λ x. bind (current w x c.marks) behind_it []) d ∙ ap (first_of_do behind_it) now

    first_if : (x y : List Stmt) → out-Stmt c.stmt ≡ is.If c.expr x y → h [] ≡ first_of_if (code_tree w x) (code_tree w y) behind_it (next_q w c.expr c.marks)
    first_if x y d = ap (λ (g : Get (Unit {0})). g []) c.tree ∙ ap (λ z. bind (current w z c.marks) behind_it []) d ∙ ap (first_of_if (code_tree w x) (code_tree w y) behind_it) now

    transition_do : out-Stmt c.stmt ≡ is.Do c.expr → transition w.q a ≡ transition_in w.q (is.Do c.expr) (with_marks c.marks) (next_q w c.expr c.marks)
    transition_do d = ap (transition w.q) c.here ∙ ap (λ (x : is.Stmt-F Stmt Case). transition_in w.q x (with_marks c.marks) (progress_there w.q (with_marks c.marks) (worked x c.phase))) d ∙
        ap (transition_in w.q (is.Do c.expr) (with_marks c.marks)) (progress_is here_is c.around c.marks c.expr)

    transition_if : (x y : List Stmt) → out-Stmt c.stmt ≡ is.If c.expr x y → transition w.q a ≡ transition_in w.q (is.If c.expr x y) (with_marks c.marks) (next_q w c.expr c.marks)
    transition_if x y d = ap (transition w.q) c.here ∙ ap (λ (z : is.Stmt-F Stmt Case). transition_in w.q z (with_marks c.marks) (progress_there w.q (with_marks c.marks) (worked z c.phase))) d ∙
        ap (transition_in w.q (is.If c.expr x y) (with_marks c.marks)) (progress_is here_is c.around c.marks c.expr)

  -- what the control does where its tree waits for a step: that step, or the branch of an `if`
  pub data GoesOn (a : ControlState) (h : Get (Unit {0})) (action : Action) : Type 0 where
    ByStep : transition w.q a ≡ Performs action → ((m : Mark) → StandsInCode w out outer (marked_control w.q a m) (after h m)) → GoesOn a h action
    ByBranch : (b : Bool) (c : ControlState) → action ≡ Choose (Some b) → transition w.q a ≡ Jumps c → ((m : Mark) → StandsInCode w out outer c (after h m)) → GoesOn a h action

  module _ (a : ControlState) (h : Get (Unit {0})) (c : AmidCode w out outer a h) (action : Action) (waits : h [] ≡ Waits action) where
    abbrev waiting : Action → Progress (Unit {0})
    waiting x = Waits x

    same_action : (x : Action) → waiting x ≡ waiting action → x ≡ action
    same_action x e = cc

    by_step : (x : Action) → x ≡ action → next_q w c.expr c.marks ≡ Waits x → transition w.q a ≡ Performs x → GoesOn a h action
    by_step x same e t =
        let asked : next_q w c.expr c.marks ≡ Waits action = e ∙ ap (λ (z : Action). Waits z) same in
        ByStep (t ∙ ap (λ (z : Action). Performs z) same) (λ m. marked_in_code a h c action m asked)

    doing : (p : Progress (Option Value)) → next_q w c.expr c.marks ≡ p → out-Stmt c.stmt ≡ is.Do c.expr → first_of_do (behind_it a h c) p ≡ Waits action → transition w.q a ≡ transition_in w.q (is.Do c.expr) (with_marks a h c c.marks) p → GoesOn a h action
    doing (Waits x) e d f t = by_step x (same_action x f) e t
    doing (Traps ms) e d f t = absurd (cc)
    doing (Known None ms) e d f t = absurd (cc)
    doing (Known (Some v) ms) e d f t = absurd (c.unsettled d v ms e)

    testing : (p : Progress (Option Value)) → next_q w c.expr c.marks ≡ p → (x y : List Stmt) → out-Stmt c.stmt ≡ is.If c.expr x y → are_code x ≡ true → are_code y ≡ true → first_of_if (code_tree w x) (code_tree w y) (behind_it a h c) p ≡ Waits action →
        transition w.q a ≡ transition_in w.q (is.If c.expr x y) (with_marks a h c c.marks) p → GoesOn a h action
    testing (Waits z) e x y d cx cy f t = by_step z (same_action z f) e t
    testing (Traps ms) e x y d cx cy f t = absurd (cc)
    testing (Known None ms) e x y d cx cy f t = absurd (cc)
    testing (Known (Some v) ms) e x y d cx cy f t =
        let exact : next_q w c.expr c.marks ≡ Known (Some v) [] = sym (now a h c) ∙ c.exact (Some v) ms e [] in
        ByBranch (is_true v) _ (sym (same_action (Choose (Some (is_true v))) (ap (first_of_if (code_tree w x) (code_tree w y) (behind_it a h c)) (sym exact ∙ e) ∙ f))) t (branched a h c x y d cx cy v ms e)

    by_kind : Kind w c.stmt c.expr → GoesOn a h action
    by_kind (Doing d) = doing (next_q w c.expr c.marks) refl d (sym (first_do a h c d) ∙ waits) (transition_do a h c d)
    by_kind (Testing x y d cx cy) = testing (next_q w c.expr c.marks) refl x y d cx cy (sym (first_if a h c x y d) ∙ waits) (transition_if a h c x y d)

  ended_waits : {B : Type 0} (h : Get (Unit {0})) (action : Action) → h ≡ known tt → h [] ≡ Waits action → B
  ended_waits {B} h action e f = absurd (differ (sym (ap (λ (g : Get (Unit {0})). g []) e) ∙ f))
    where
      differ : unit_known ≡ Waits action → ⊥
      differ k = absurd (cc)

  pub goes_on : (a : ControlState) (h : Get (Unit {0})) → StandsInCode w out outer a h → (action : Action) → h [] ≡ Waits action → GoesOn a h action
  goes_on a h (Amid c) action e = by_kind a h c action e c.kind
  goes_on a h (Past p) action e = ended_waits h action p.ended e

  -- ---- traps

  module _ (a : ControlState) (h : Get (Unit {0})) (c : AmidCode w out outer a h) (ks : List Mark) (traps : h [] ≡ Traps ks) where
    stuck_do : (p : Progress (Option Value)) → next_q w c.expr c.marks ≡ p → out-Stmt c.stmt ≡ is.Do c.expr → first_of_do (behind_it a h c) p ≡ Traps ks → transition_in w.q (is.Do c.expr) (with_marks a h c c.marks) p ≡ Aborts
    stuck_do (Waits x) e d f = absurd (cc)
    stuck_do (Traps ms) e d f = refl
    stuck_do (Known None ms) e d f = refl
    stuck_do (Known (Some v) ms) e d f = absurd (c.unsettled d v ms e)

    stuck_if : (p : Progress (Option Value)) → next_q w c.expr c.marks ≡ p → (x y : List Stmt) → first_of_if (code_tree w x) (code_tree w y) (behind_it a h c) p ≡ Traps ks → transition_in w.q (is.If c.expr x y) (with_marks a h c c.marks) p ≡ Aborts
    stuck_if (Waits z) e x y f = absurd (cc)
    stuck_if (Traps ms) e x y f = refl
    stuck_if (Known None ms) e x y f = refl
    stuck_if (Known (Some v) ms) e x y f =
        let exact : next_q w c.expr c.marks ≡ Known (Some v) [] = sym (now a h c) ∙ c.exact (Some v) ms e [] in
        absurd (no_trap (ap (first_of_if (code_tree w x) (code_tree w y) (behind_it a h c)) (sym exact ∙ e) ∙ f))
      where
        no_trap : ◌≡◌ {A = Progress (Unit {0})} (Waits (Choose (Some (is_true v)))) (Traps ks) → ⊥
        no_trap g = absurd (cc)

    stuck_kind : Kind w c.stmt c.expr → transition w.q a ≡ Aborts
    stuck_kind (Doing d) = transition_do a h c d ∙ stuck_do (next_q w c.expr c.marks) refl d (sym (first_do a h c d) ∙ traps)
    stuck_kind (Testing x y d cx cy) = transition_if a h c x y d ∙ stuck_if (next_q w c.expr c.marks) refl x y (sym (first_if a h c x y d) ∙ traps)

  ended_traps : {B : Type 0} (h : Get (Unit {0})) (ks : List Mark) → h ≡ known tt → h [] ≡ Traps ks → B
  ended_traps {B} h ks e f = absurd (differ (sym (ap (λ (g : Get (Unit {0})). g []) e) ∙ f))
    where
      differ : unit_known ≡ Traps ks → ⊥
      differ k = absurd (cc)

  pub aborts_in_code : (a : ControlState) (h : Get (Unit {0})) → StandsInCode w out outer a h → (ks : List Mark) → h [] ≡ Traps ks → transition w.q a ≡ Aborts
  aborts_in_code a h (Amid c) ks e = stuck_kind a h c ks e c.kind
  aborts_in_code a h (Past p) ks e = ended_traps h ks p.ended e

  -- ---- behind all of it

  module _ (a : ControlState) (h : Get (Unit {0})) (c : AmidCode w out outer a h) (ended : h ≡ known tt) where
    first_known : h [] ≡ unit_known
    first_known = ap (λ (g : Get (Unit {0})). g []) ended

    never_do : {B : Type 0} (p : Progress (Option Value)) → next_q w c.expr c.marks ≡ p → out-Stmt c.stmt ≡ is.Do c.expr → first_of_do (behind_it a h c) p ≡ unit_known → B
    never_do (Waits x) e d f = absurd (cc)
    never_do (Traps ms) e d f = absurd (cc)
    never_do (Known None ms) e d f = absurd (cc)
    never_do (Known (Some v) ms) e d f = absurd (c.unsettled d v ms e)

    never_if : {B : Type 0} (p : Progress (Option Value)) → next_q w c.expr c.marks ≡ p → (x y : List Stmt) → first_of_if (code_tree w x) (code_tree w y) (behind_it a h c) p ≡ unit_known → B
    never_if (Waits z) e x y f = absurd (cc)
    never_if (Traps ms) e x y f = absurd (cc)
    never_if (Known None ms) e x y f = absurd (cc)
    never_if (Known (Some v) ms) e x y f =
        let exact : next_q w c.expr c.marks ≡ Known (Some v) [] = sym (now a h c) ∙ c.exact (Some v) ms e [] in
        absurd (no_end (ap (first_of_if (code_tree w x) (code_tree w y) (behind_it a h c)) (sym exact ∙ e) ∙ f))
      where
        no_end : Waits (Choose (Some (is_true v))) ≡ unit_known → ⊥
        no_end g = absurd (cc)

    never : {B : Type 0} → Kind w c.stmt c.expr → B
    never (Doing d) = never_do (next_q w c.expr c.marks) refl d (sym (first_do a h c d) ∙ first_known)
    never (Testing x y d cx cy) = never_if (next_q w c.expr c.marks) refl x y (sym (first_if a h c x y d) ∙ first_known)

  pub code_is_past : (a : ControlState) (h : Get (Unit {0})) → StandsInCode w out outer a h → h ≡ known tt → a ≡ jump_to w.q (nowhere w) (resume out outer)
  code_is_past a h (Amid c) e = never a h c e c.kind
  code_is_past a h (Past p) e = p.at
