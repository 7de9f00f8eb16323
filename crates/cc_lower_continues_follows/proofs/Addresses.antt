-- Where `do`s have flags the same addresses are taken.
use Rattle.std.proofs.Common.{◌≡◌, ℕ, ◌+◌, Bool, true, false, ◌||◌, List, [], ◌∷◌, map, refl, ap, sym, ◌∙◌}
use Rattle.std.specs.List.{list_any}
use Rattle.std.specs.Prelude.{pos}
use Rattle.cc_program.specs.CcNum.declared.int_type.IntType.TheVariants as int
use Rattle.cc_program.specs.declared.expr.Expr.{Expr, roll-Expr, fold-roll-Expr}
use Rattle.cc_program.specs.declared.expr.Expr.TheOpen as one
use Rattle.cc_program.specs.declared.expr.Place.{roll-Place, fold-roll-Place}
use Rattle.cc_program.specs.declared.func.Func.{Func}
use Rattle.cc_program.specs.declared.stmt.Case.{Case, roll-Case, fold-Case, fold-roll-Case, out-roll-Case}
use Rattle.cc_program.specs.declared.stmt.Stmt.{Stmt, roll-Stmt, map-Stmt, fold-roll-Stmt, out-roll-Stmt}
use Rattle.cc_program.specs.declared.stmt.Stmt.TheOpen as is
use Rattle.cc_program.proofs.Each.{Each}
use Rattle.cc_program.proofs.StmtInduction.{StmtParts, CaseParts, by_stmts}
use Rattle.cc_states.specs.CcSyntax.Registers.{PlaceUse, address_step, is_address_taken, place_use, use_step, is_taken_in_optional, stmt_step, is_taken_in, is_addressed}
use Rattle.cc_meaning_simulations.specs.Bodies.{extended}
use Rattle.cc_lower_statements.specs.Statements.{break_statement, constant_one, endless_loop}
use Rattle.cc_lower_continues.specs.Continues.{CaseFlagging, Flagging, any_continues, assign_flag, case_flagging, cases_become, do_flagging, flagged_body, flagged_do, flagged_list, flagging, flagging_in, flags_of, leave_unless, needs_flag, new_body, new_locals, read_flag, test_but_first}
use Rattle.cc_lower_continues.proofs.Layers.{case_flagging-out, flagging-out}
use Rattle.cc_lower_continues_follows.proofs.Copies.{first}

or_false : (x : Bool) → (x || false) ≡ x
or_false true = refl
or_false false = refl

or_swap : (x y : Bool) → (x || y) ≡ (y || x)
or_swap true true = refl
or_swap true false = refl
or_swap false true = refl
or_swap false false = refl

module _ (r : ℕ) where
  abbrev case_taken : Case → Bool
  case_taken c = fold-Case Bool Bool (stmt_step r) (λ c. list_any (λ b. b) c.body) c

  abbrev taken : List Stmt → Bool
  taken l = list_any (λ b. b) (map (is_taken_in r) l)

  abbrev cases_taken : List Case → Bool
  cases_taken l = list_any (λ b. b) (map case_taken l)

  abbrev taken_layer : is.Stmt-F Stmt Case → Bool
  taken_layer x = stmt_step r (map-Stmt Stmt Case Bool Bool (is_taken_in r) case_taken x)

  taken-roll : (x : is.Stmt-F Stmt Case) → is_taken_in r (roll-Stmt x) ≡ taken_layer x
  taken-roll x = fold-roll-Stmt Bool Bool (stmt_step r) (λ c. list_any (λ b. b) c.body) x

  case-roll : (x : is.Case-F Stmt Case) → case_taken (roll-Case x) ≡ taken x.body
  case-roll x = fold-roll-Case Bool Bool (stmt_step r) (λ c. list_any (λ b. b) c.body) x

  taken-one : (x : is.Stmt-F Stmt Case) → taken (roll-Stmt x ∷ []) ≡ taken_layer x
  taken-one x = or_false (is_taken_in r (roll-Stmt x)) ∙ taken-roll x

  constant-taken : (n t : ℕ) → is_address_taken r (roll-Expr (one.Const (pos n) int.UChar)) ≡ false
  unfolding is_address_taken
  constant-taken n t = fold-roll-Expr Bool PlaceUse (address_step r) (use_step r) _

  local-taken : (t : ℕ) → (place_use r (roll-Place (one.Local t))).address_taken ≡ false
  unfolding place_use
  local-taken t = ap (λ (u : PlaceUse). u.address_taken) (fold-roll-Place Bool PlaceUse (address_step r) (use_step r) _)

  one-taken : is_address_taken r constant_one ≡ false
  unfolding is_address_taken
  one-taken = fold-roll-Expr Bool PlaceUse (address_step r) (use_step r) _

  read_flag-taken : (t : ℕ) → is_address_taken r (read_flag t) ≡ false
  unfolding is_address_taken place_use
  read_flag-taken t = fold-roll-Expr Bool PlaceUse (address_step r) (use_step r) _ ∙ local-taken t

  assign-taken : (t n : ℕ) → is_address_taken r (roll-Expr (one.Assign (roll-Place (one.Local t)) (roll-Expr (one.Const (pos n) int.UChar)))) ≡ false
  unfolding is_address_taken place_use
  assign-taken t n =
      fold-roll-Expr Bool PlaceUse (address_step r) (use_step r) _ ∙ ap (λ c. c || is_address_taken r (roll-Expr (one.Const (pos n) int.UChar))) (local-taken t) ∙ constant-taken n t

  assign_flag-taken : (t n : ℕ) → is_taken_in r (assign_flag t n) ≡ false
  assign_flag-taken t n = taken-roll (is.Do _) ∙ assign-taken t n

  break_statement-taken : is_taken_in r break_statement ≡ false
  break_statement-taken = taken-roll is.Break

  leave_unless-taken : (e : Expr) → is_taken_in r (leave_unless e) ≡ is_address_taken r e
  leave_unless-taken e = taken-roll (is.If e [] (break_statement ∷ [])) ∙ ap (λ c. is_address_taken r e || (c || false)) break_statement-taken ∙ or_false (is_address_taken r e)

  test_but_first-taken : (t : ℕ) (e : Expr) → is_taken_in r (test_but_first t e) ≡ is_address_taken r e
  test_but_first-taken t e =
      taken-roll (is.If (read_flag t) (assign_flag t 0 ∷ []) (leave_unless e ∷ []))
      ∙ ap (λ c. c || ((is_taken_in r (assign_flag t 0) || false) || (is_taken_in r (leave_unless e) || false))) (read_flag-taken t)
      ∙ ap (λ c. (c || false) || (is_taken_in r (leave_unless e) || false)) (assign_flag-taken t 0) ∙ or_false (is_taken_in r (leave_unless e)) ∙ leave_unless-taken e

  flagged_do-taken : (t : ℕ) (e : Expr) (a : List Stmt) → is_taken_in r (flagged_do t e a) ≡ (taken a || is_address_taken r e)
  flagged_do-taken t e a =
      taken-roll (is.Block (assign_flag t 1 ∷ endless_loop (flagged_body t e a) ∷ []))
      ∙ ap (λ c. c || (is_taken_in r (endless_loop (flagged_body t e a)) || false)) (assign_flag-taken t 1) ∙ or_false (is_taken_in r (endless_loop (flagged_body t e a)))
      ∙ taken-roll (is.While constant_one (flagged_body t e a)) ∙ ap (λ c. c || (is_taken_in r (test_but_first t e) || taken a)) one-taken ∙ ap (λ c. c || taken a) (test_but_first-taken t e) ∙ or_swap (is_address_taken r e) (taken a)

  -- ---- statements

  abbrev Keeps : Stmt → Type 0
  Keeps s = (n : ℕ) → is_taken_in r ((flagging s).becomes n) ≡ is_taken_in r s

  abbrev CaseKeeps : Case → Type 0
  CaseKeeps c = (n : ℕ) → case_taken ((case_flagging c).becomes n) ≡ case_taken c

  all_keep : (l : List Stmt) → Each Keeps l → (n : ℕ) → taken (flagged_list l n) ≡ taken l
  all_keep [] h n = refl
  all_keep (s ∷ l) h n = ap (λ c. c || taken (flagged_list l (n + (flagging s).flags))) (h.0 n) ∙ ap (λ c. is_taken_in r s || c) (all_keep l h.1 (n + (flagging s).flags))

  cases_keep : (l : List Case) → Each CaseKeeps l → (n : ℕ) → cases_taken (cases_become (map case_flagging l) n) ≡ cases_taken l
  cases_keep [] h n = refl
  cases_keep (c ∷ l) h n = ap (λ b. b || cases_taken (cases_become (map case_flagging l) (n + (case_flagging c).flags))) (h.0 n) ∙ ap (λ b. case_taken c || b) (cases_keep l h.1 (n + (case_flagging c).flags))

  do_keeps : (b : Bool) (a : List Stmt) (e : Expr) → Each Keeps a → (n : ℕ) → is_taken_in r ((do_flagging b (map flagging a) e).becomes n) ≡ (taken a || is_address_taken r e)
  do_keeps true a e h n = flagged_do-taken n e (flagged_list a (n + 1)) ∙ ap (λ c. c || is_address_taken r e) (all_keep a h (n + 1))
  do_keeps false a e h n = taken-roll (is.DoWhile (flagged_list a n) e) ∙ ap (λ c. c || is_address_taken r e) (all_keep a h n)

  layer_keeps : (x : is.Stmt-F Stmt Case) → StmtParts Keeps CaseKeeps x → (n : ℕ) → is_taken_in r ((flagging_in (map-Stmt Stmt Case Flagging CaseFlagging flagging case_flagging x)).becomes n) ≡ taken_layer x
  layer_keeps (is.Do e) h n = taken-roll (is.Do e)
  layer_keeps (is.If e a b) h n =
      taken-roll (is.If e (flagged_list a n) (flagged_list b (n + flags_of a))) ∙ ap (λ c. is_address_taken r e || (c || taken (flagged_list b (n + flags_of a)))) (all_keep a h.0 n)
      ∙ ap (λ c. is_address_taken r e || (taken a || c)) (all_keep b h.1 (n + flags_of a))
  layer_keeps (is.While e a) h n = taken-roll (is.While e (flagged_list a n)) ∙ ap (λ c. is_address_taken r e || c) (all_keep a h n)
  layer_keeps (is.DoWhile a e) h n = do_keeps (needs_flag (any_continues (map flagging a)) e) a e h n
  layer_keeps (is.For first test again a) h n =
      taken-roll (is.For first test again (flagged_list a n)) ∙ ap (λ c. is_taken_in_optional r first || (is_taken_in_optional r test || (is_taken_in_optional r again || c))) (all_keep a h n)
  layer_keeps (is.Switch e cases) h n = taken-roll (is.Switch e (cases_become (map case_flagging cases) n)) ∙ ap (λ c. is_address_taken r e || c) (cases_keep cases h n)
  layer_keeps is.Break h n = taken-roll is.Break
  layer_keeps is.Continue h n = taken-roll is.Continue
  layer_keeps (is.Return e) h n = taken-roll (is.Return e)
  layer_keeps is.Empty h n = taken-roll is.Empty
  layer_keeps (is.Block a) h n = taken-roll (is.Block (flagged_list a n)) ∙ all_keep a h n

  keeps_level : (x : is.Stmt-F Stmt Case) → StmtParts Keeps CaseKeeps x → Keeps (roll-Stmt x)
  keeps_level x h n =
      ap (λ (t : Flagging). is_taken_in r (t.becomes n)) (flagging-out (roll-Stmt x)) ∙ ap (λ (y : is.Stmt-F Stmt Case). is_taken_in r ((flagging_in (map-Stmt Stmt Case Flagging CaseFlagging flagging case_flagging y)).becomes n)) (out-roll-Stmt x)
      ∙ layer_keeps x h n ∙ sym (taken-roll x)

  case_level : (x : is.Case-F Stmt Case) → CaseParts Keeps CaseKeeps x → CaseKeeps (roll-Case x)
  case_level x h n =
      ap (λ (t : CaseFlagging). case_taken (t.becomes n)) (case_flagging-out (roll-Case x)) ∙ case-roll _ ∙ ap (λ (c : is.Case-F Stmt Case). taken (flagged_list c.body n)) (out-roll-Case x) ∙ all_keep x.body h n ∙ sym (case-roll x)

  pub taken_told : (l : List Stmt) (n : ℕ) → taken (flagged_list l n) ≡ taken l
  taken_told l n = all_keep l (by_stmts Keeps CaseKeeps keeps_level case_level l) n

pub addressed_same : (f : Func) (r : ℕ) → is_addressed (extended new_locals new_body f) r ≡ is_addressed f r
addressed_same f r = taken_told r f.body (first f)
