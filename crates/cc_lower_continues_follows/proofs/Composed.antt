-- Where `do`s have flags no `do` whose test may fail has a `continue` of its own; so the two passes compose.
use Rattle.std.proofs.Common.{None, ◌≡◌, ℕ, ℤ, Option, ◌+◌, Bool, true, false, not, ◌&&◌, ◌||◌, List, [], ◌∷◌, map, Some, option_map, slice_get, refl, ap, sym, ◌∙◌}
use Rattle.std.specs.List.{list_all}
use Rattle.cc_program.specs.declared.expr.Expr.{Expr}
use Rattle.cc_program.specs.declared.func.Func.{Func}
use Rattle.cc_program.specs.declared.program.Program.{Program}
use Rattle.cc_program.specs.declared.stmt.Case.{Case, out-Case, roll-Case, out-roll-Case}
use Rattle.cc_program.specs.declared.stmt.Stmt.{Stmt, roll-Stmt, out-roll-Stmt, map-Stmt}
use Rattle.cc_program.specs.declared.stmt.Stmt.TheOpen as is
use Rattle.cc_program.proofs.Each.{Each}
use Rattle.cc_program.proofs.StmtInduction.{StmtParts, CaseParts, by_stmts}
use Rattle.cc_states.specs.CcEval.declared.action.Action.{Action}
use Rattle.cc_states.specs.CcSteps.Rows.{rows_of}
use Rattle.cc_states.specs.CcSteps.State.{Active, Memory, State}
use Rattle.cc_states.specs.CcSteps.Turn.{start, turn}
use Rattle.cc_states.proofs.StartLemmas.{start_state}
use Rattle.cc_states.proofs.TurnLemmas.{turn_state}
use Rattle.cc_states.specs.States.{IsState}
use Rattle.cc_states.specs.CcSyntax.Sound.{IsTypedProgram, is_main_there}
use Rattle.cc_lower_continues_follows.proofs.Steps as steps
use Rattle.cc_states.specs.CcSteps.Runs.{Follows, Answers}
use Rattle.cc_states.proofs.CcSteps.RunLaws.{Follows-trans, Answers-trans}
use Rattle.cc_lower_follows.proofs.Lowered as low
use Rattle.cc_meaning_simulations.specs.Bodies.{extended}
use Rattle.cc_meaning_simulations.specs.LocalSimulations.{is_action_visible}
use Rattle.cc_meaning_simulations.specs.LocalSteps.{LocalState, local_state_of}
use Rattle.cc_meaning_simulations.specs.StepSimulations.{going}
use Rattle.cc_meaning_simulations.specs.Transitions.{Performs, control_state, transition}
use Rattle.cc_meaning_simulations.proofs.MoreLocals.{funcs_same}
use Rattle.cc_lower_statements.specs.Statements.{break_statement, constant_one, endless_loop, is_nonzero_constant, lower_program}
use Rattle.cc_lower_follows.specs.Fit.{IsFit, are_fit, is_case_fit, is_fit}
use Rattle.cc_lower_follows.proofs.Relation.{are_cases_fit, is_case_fit-out, is_fit-out, is_layer_fit}
use Rattle.cc_lower_continues.specs.Continues.{CaseFlagging, Flagging, any_case_continues, any_continues, assign_flag, case_flagging, cases_become, do_flagging, flagged_body, flagged_do, flagged_list, flagged_program, flagging, flagging_in, flags_of, leave_unless, needs_flag, new_body, new_locals, test_but_first}
use Rattle.cc_lower_continues.proofs.Layers.{case_flagging-out, flagging-out}
use Rattle.cc_lower_continues_follows.proofs.Copies.{first, hidden}
use Rattle.cc_lower_continues_follows.proofs.Relation.{Match}
use Rattle.cc_lower_continues_follows.proofs.Rows.{rows_kept}
use Rattle.cc_lower_continues_follows.proofs.TypedNames.{names_bounded}
use Rattle.cc_lower_continues_follows.proofs.Untouched.{untouched}

is_fit-roll : (y : is.Stmt-F Stmt Case) (b : Bool) → is_fit (roll-Stmt y) b ≡ is_layer_fit y b
is_fit-roll y b = is_fit-out (roll-Stmt y) b ∙ ap (λ (z : is.Stmt-F Stmt Case). is_layer_fit z b) (out-roll-Stmt y)

both : (a b : Bool) → a ≡ true → b ≡ true → (a && b) ≡ true
both a b h k = ap (λ c. c && b) h ∙ k

-- neither, where that matters
left_free : (b x y : Bool) → (b && (x || y)) ≡ false → (b && x) ≡ false
left_free true true y h = absurd (cc)
left_free true false y h = refl
left_free false x y h = refl

right_free : (b x y : Bool) → (b && (x || y)) ≡ false → (b && y) ≡ false
right_free true true y h = absurd (cc)
right_free true false y h = h
right_free false x y h = refl

swapped : (x y : Bool) → (x && y) ≡ false → (y && x) ≡ false
swapped true true h = absurd (cc)
swapped true false h = refl
swapped false true h = refl
swapped false false h = refl

abbrev BecomesFit : Stmt → Type 0
BecomesFit s = (n : ℕ) (b : Bool) → (b && (flagging s).continues) ≡ false → is_fit ((flagging s).becomes n) b ≡ true

abbrev CaseBecomesFit : Case → Type 0
CaseBecomesFit c = (n : ℕ) (b : Bool) → (b && (case_flagging c).continues) ≡ false → is_case_fit ((case_flagging c).becomes n) b ≡ true

list_fit : (l : List Stmt) → Each BecomesFit l → (n : ℕ) (b : Bool) → (b && any_continues (map flagging l)) ≡ false → are_fit b (flagged_list l n) ≡ true
list_fit [] h n b k = refl
list_fit (s ∷ l) h n b k =
    both (is_fit ((flagging s).becomes n) b) (are_fit b (flagged_list l (n + (flagging s).flags))) (h.0 n b (left_free b (flagging s).continues (any_continues (map flagging l)) k)) (list_fit l h.1 (n + (flagging s).flags) b (right_free b (flagging s).continues (any_continues (map flagging l)) k))

case_list_fit : (l : List Case) → Each CaseBecomesFit l → (n : ℕ) (b : Bool) → (b && any_case_continues (map case_flagging l)) ≡ false → are_cases_fit b (cases_become (map case_flagging l) n) ≡ true
case_list_fit [] h n b k = refl
case_list_fit (c ∷ l) h n b k =
    both (is_case_fit ((case_flagging c).becomes n) b) (are_cases_fit b (cases_become (map case_flagging l) (n + (case_flagging c).flags))) (h.0 n b (left_free b (case_flagging c).continues (any_case_continues (map case_flagging l)) k))
    (case_list_fit l h.1 (n + (case_flagging c).flags) b (right_free b (case_flagging c).continues (any_case_continues (map case_flagging l)) k))

assign_flag_fit : (t v : ℕ) (b : Bool) → is_fit (assign_flag t v) b ≡ true
assign_flag_fit t v b = is_fit-roll (is.Do _) b

leave_unless_fit : (e : Expr) (b : Bool) → is_fit (leave_unless e) b ≡ true
leave_unless_fit e b = is_fit-roll (is.If e [] (break_statement ∷ [])) b ∙ both (is_fit break_statement b) true (is_fit-roll is.Break b) refl

flagged_do_fit : (n : ℕ) (e : Expr) (a : List Stmt) (b : Bool) → are_fit false a ≡ true → is_fit (flagged_do n e a) b ≡ true
flagged_do_fit n e a b h =
    is_fit-roll (is.Block (assign_flag n 1 ∷ endless_loop (flagged_body n e a) ∷ [])) b
    ∙ both (is_fit (assign_flag n 1) b) (is_fit (endless_loop (flagged_body n e a)) b && true) (assign_flag_fit n 1 b)
    (both (is_fit (endless_loop (flagged_body n e a)) b) true
    (is_fit-roll (is.While constant_one (flagged_body n e a)) b
    ∙ both (is_fit (test_but_first n e) false) (are_fit false a)
    (is_fit-roll (is.If _ (assign_flag n 0 ∷ []) (leave_unless e ∷ [])) false
    ∙ both (is_fit (assign_flag n 0) false && true) (is_fit (leave_unless e) false && true) (both (is_fit (assign_flag n 0) false) true (assign_flag_fit n 0 false) refl) (both (is_fit (leave_unless e) false) true (leave_unless_fit e false) refl)) h) refl)

do_fit : (o : Bool) (a : List Stmt) (e : Expr) → needs_flag (any_continues (map flagging a)) e ≡ o → Each BecomesFit a → (n : ℕ) (b : Bool) → is_fit ((do_flagging o (map flagging a) e).becomes n) b ≡ true
do_fit true a e i h n b = flagged_do_fit n e (flagged_list a (n + 1)) b (list_fit a h (n + 1) false refl)
do_fit false a e i h n b = is_fit-roll (is.DoWhile (flagged_list a n) e) b ∙ list_fit a h n (not (is_nonzero_constant e)) (swapped (any_continues (map flagging a)) (not (is_nonzero_constant e)) i)

layer_fit : (x : is.Stmt-F Stmt Case) → StmtParts BecomesFit CaseBecomesFit x → (n : ℕ) (b : Bool) → (b && (flagging_in (map-Stmt Stmt Case Flagging CaseFlagging flagging case_flagging x)).continues) ≡ false →
    is_fit ((flagging_in (map-Stmt Stmt Case Flagging CaseFlagging flagging case_flagging x)).becomes n) b ≡ true
layer_fit (is.Do e) h n b k = is_fit-roll (is.Do e) b
layer_fit (is.If e a c) h n b k =
    is_fit-roll (is.If e (flagged_list a n) (flagged_list c (n + flags_of a))) b
    ∙ both (are_fit b (flagged_list a n)) (are_fit b (flagged_list c (n + flags_of a))) (list_fit a h.0 n b (left_free b (any_continues (map flagging a)) (any_continues (map flagging c)) k)) (list_fit c h.1 (n + flags_of a) b (right_free b (any_continues (map flagging a)) (any_continues (map flagging c)) k))
layer_fit (is.While e a) h n b k = is_fit-roll (is.While e (flagged_list a n)) b ∙ list_fit a h n false refl
layer_fit (is.DoWhile a e) h n b k = do_fit (needs_flag (any_continues (map flagging a)) e) a e refl h n b
layer_fit (is.For first test again a) h n b k = is_fit-roll (is.For first test again (flagged_list a n)) b ∙ list_fit a h n false refl
layer_fit (is.Switch e cases) h n b k = is_fit-roll (is.Switch e (cases_become (map case_flagging cases) n)) b ∙ case_list_fit cases h n b k
layer_fit is.Break h n b k = is_fit-roll is.Break b
layer_fit is.Continue h n b k = is_fit-roll is.Continue b ∙ free b k
  where
    free : (b : Bool) → (b && true) ≡ false → not b ≡ true
    free true k = absurd (cc)
    free false k = refl
layer_fit (is.Return e) h n b k = is_fit-roll (is.Return e) b
layer_fit is.Empty h n b k = is_fit-roll is.Empty b
layer_fit (is.Block a) h n b k = is_fit-roll (is.Block (flagged_list a n)) b ∙ list_fit a h n b k

fit_level : (x : is.Stmt-F Stmt Case) → StmtParts BecomesFit CaseBecomesFit x → BecomesFit (roll-Stmt x)
fit_level x h n b k =
    let e : flagging (roll-Stmt x) ≡ flagging_in (map-Stmt Stmt Case Flagging CaseFlagging flagging case_flagging x) = flagging-out (roll-Stmt x) ∙ ap (λ (y : is.Stmt-F Stmt Case). flagging_in (map-Stmt Stmt Case Flagging CaseFlagging flagging case_flagging y)) (out-roll-Stmt x) in
    ap (λ (t : Flagging). is_fit (t.becomes n) b) e ∙ layer_fit x h n b (sym (ap (λ (t : Flagging). b && t.continues) e) ∙ k)

case_level : (x : is.Case-F Stmt Case) → CaseParts BecomesFit CaseBecomesFit x → CaseBecomesFit (roll-Case x)
case_level x h n b k =
    let e : out-Case (roll-Case x) ≡ x = out-roll-Case x in
    ap (λ (t : CaseFlagging). is_case_fit (t.becomes n) b) (case_flagging-out (roll-Case x)) ∙ is_case_fit-out _ b
    ∙ ap (λ (c : is.Case-F Stmt Case). are_fit b c.body) (out-roll-Case (record { labels = (out-Case (roll-Case x)).labels; body = flagged_list (out-Case (roll-Case x)).body n }))
    ∙ ap (λ (c : is.Case-F Stmt Case). are_fit b (flagged_list c.body n)) e ∙ list_fit x.body h n b (sym (ap (λ (t : CaseFlagging). b && t.continues) (case_flagging-out (roll-Case x)) ∙ ap (λ (c : is.Case-F Stmt Case). b && any_continues (map flagging c.body)) e) ∙ k)

body_fit : (l : List Stmt) (n : ℕ) → are_fit false (flagged_list l n) ≡ true
body_fit l n = list_fit l (by_stmts BecomesFit CaseBecomesFit fit_level case_level l) n false refl

pub flagged-IsFit : (p : Program) → IsFit (flagged_program p)
flagged-IsFit p = by_funcs p.funcs
  where
    by_funcs : (funcs : List Func) → list_all (λ f. are_fit false f.body) (map (extended new_locals new_body) funcs) ≡ true
    by_funcs [] = refl
    by_funcs (f ∷ funcs) = both (are_fit false (new_body f)) _ (body_fit f.body (first f)) (by_funcs funcs)

module _ (P : Program)
    (sound : IsTypedProgram P)
  where
    abbrev T : Program
    T = flagged_program P

    abbrev Inv : State → Type 0
    Inv t = IsState P t × (rows_of T t.memory.trace ≡ rows_of P t.memory.trace)

    kept : (t : State) → Inv t → (arrival : Option ℕ) → Inv (turn P t arrival)
    kept t h arrival = (turn_state P sound t h.0 arrival, rows_kept new_locals new_body P t h.0 h.1 arrival)

    begun : (inputs : List ℤ) → Inv (start P inputs)
    begun inputs = (start_state P sound inputs, refl)

    visible : (m : Memory) (p : Active) (ps : List Active) (n : ℕ) → Inv (going m (p ∷ ps) n) → (q : LocalState) → Match P q (local_state_of p) → (x : Action) → transition P (control_state p) ≡ Performs x → is_action_visible (hidden P) (p ∷ ps) x ≡ true
    visible m p ps n h q w x e = untouched P m p ps n h.0 x e

    main_there : (main : Func) × (slice_get P.funcs P.main ≡ Some main)
    main_there = by_main (slice_get P.funcs P.main) refl sound.main
      where
        by_main : (x : Option Func) → slice_get P.funcs P.main ≡ x → is_main_there x ≡ true → (main : Func) × (slice_get P.funcs P.main ≡ Some main)
        by_main None e h = absurd (cc)
        by_main (Some main) e h = (main, e)

    abbrev main : Func
    main = main_there.0

    main_flagged : slice_get T.funcs T.main ≡ Some (extended new_locals new_body main)
    main_flagged = funcs_same new_locals new_body P P.main ∙ ap (option_map (extended new_locals new_body)) main_there.1

    -- both passes
    pub follows : Follows (lower_program T) P
    follows = Follows-trans (lower_program T) T P (low.follows T (flagged-IsFit P) (extended new_locals new_body main) main_flagged) (steps.follows P Inv (names_bounded P sound) (λ t h. h.1) kept begun visible main main_there.1)

    pub answers : Answers (lower_program T) P
    answers = Answers-trans (lower_program T) T P (low.answers T (flagged-IsFit P) (extended new_locals new_body main) main_flagged) (steps.answers P Inv (names_bounded P sound) (λ t h. h.1) kept begun visible main main_there.1)
