-- Lines of a body access each device without a name that they declare, construct by construct, where the lines in them do (C99 6.8).
use Rattle.std.proofs.Common.{◌≡◌, inr, ℕ, ℤ, Bool, true, false, not, ◌||◌, ◌&&◌, List, [], ◌∷◌, ◌++◌, map, Option, Some, None, Ok, Err, refl, subst}
use Rattle.std.specs.Prelude.{if◌then◌else◌}
use Rattle.std.specs.List.{list_any}
use Rattle.cc_accessed_operands.specs.Accessed.{accesses, optional_accesses, list_accesses}
use Rattle.cc_accessed_operands.proofs.Accesses.{or_kept, or_either, no, cases_access, in_front, behind as behind_these}
use Rattle.cc_accessed_operands.proofs.Assignments.{assigned_keeps}
use Rattle.cc_accessed_operands.proofs.Conversions.{converted_keeps}
use Rattle.cc_accessed_operands.proofs.Verdicts.{ok_is, must_ok, value_ok, structure_ok, then_ok}
use Rattle.cc_accessed_terms.specs.Accounted.{Accounts, DeclaresNone}
use Rattle.cc_accessed_terms.proofs.Accounts.{accounts_itself, accounts_more, accounts_behind}
use Rattle.cc_accessed_terms.proofs.Founds.{answer, then_found}
use Rattle.cc_accessed_terms.proofs.Terms.{value_accounts, constant_declares}
use Rattle.cc_program.specs.CcNum.declared.int_type.IntType.{IntType}
use Rattle.cc_program.specs.CcNum.declared.target.Target.{Target}
use Rattle.cc_type.specs.CcOperands.Assignments.{assigned}
use Rattle.cc_type.specs.CcOperands.Operands.{Operand, constancy, converted_to}
use Rattle.cc_type.specs.CcOperands.Verdicts.{Judged, must, judge_then}
use Rattle.cc_type.specs.CcOperands.declared.rule.Rule.TheVariants as rule
use Rattle.cc_program.proofs.Each.{Each}
use Rattle.cc_program.specs.declared.expr.Expr.{Expr}
use Rattle.cc_program.specs.declared.program.Roles.{Roles}
use Rattle.cc_program.specs.declared.stmt.Case.{Case}
use Rattle.cc_program.specs.declared.stmt.Stmt.{Stmt, Do, If, While, DoWhile, For, Switch, Return, Empty, Block}
use Rattle.cc_program.specs.declared.types.CType.{CType}
use Rattle.cc_type.specs.CcScopes.State.{State, Name, empty, entered, left}
use Rattle.cc_type.specs.CcScopes.Verdicts.{Found, Meaning, whole, and_then, maybe_found}
use Rattle.cc_sound_declarations.specs.Ranges.{decl_fits}
use Rattle.cc_read_sound.specs.Ranges.{first_fits}
use Rattle.cc_type.specs.CcSpecifiers.declared.storage.Where.TheVariants as stands
use Rattle.cc_type.specs.CcSyntax.Folding.{Constant, NoConstant, Value, Traps}
use Rattle.cc_type.specs.CcSyntax.Operators.{is_integer}
use Rattle.cc_type.specs.CcSyntax.Values.{ValueType, is_void, is_scalar, scalar_value}
use Rattle.cc_tree.specs.declared.at.At.{At}
use Rattle.cc_tree.specs.declared.tree.Tree.{Tree}
use Rattle.cc_tree.specs.declared.unit.Decl.{Decl}
use Rattle.cc_tree.specs.declared.unit.First.{First}
use Rattle.cc_tree.specs.declared.unit.First.TheVariants as first
use Rattle.cc_type.specs.CcTypedBodies.Declarations.{declaration}
use Rattle.cc_type.specs.CcTypedBodies.Lines.{misplaced, label_found, misplaced_case, case_found, if_found, while_found, do_found, switch_found, for_found}
use Rattle.cc_type.specs.CcTypedBodies.Meanings.{LineMeaning, done, scoped, line_found, lines_found, block_found, body_inside, body_found, maybe_body, item_found, items_found, cases_inside, not_switched, switch_body, empty_item, unlabelled}
use Rattle.cc_type.specs.CcTypedBodies.Parts.{value_here, effect_found, expression_found, return_found, declared_found, first_found}
use Rattle.cc_type.specs.CcTypedStatements.Conditions.{condition, maybe_condition, effect, body_of, joined}
use Rattle.cc_type.specs.CcTypedStatements.Jumps.{in_loop, in_switch, returned_by, returned}
use Rattle.cc_type.specs.CcTypedStatements.Labels.{no_case, label_in, once, case_label, labelled, label_done, behind, behind_empty}
use Rattle.cc_type.specs.CcTypedStatements.Statements.{if_of, while_of, do_of, for_of}
use Rattle.cc_type.specs.CcTypedStatements.Switch.{switch_type, cases_of, switch_of}
use Rattle.cc_type.specs.CcTypedStatements.declared.cases.Cases.{Cases}
use Rattle.cc_type.specs.CcTypedStatements.declared.jumps.Jumps.{Jumps}
use Rattle.cc_accessed_bodies.proofs.Declarations.{declaration_accounts}
use Rattle.cc_accessed_bodies.proofs.Founds.{ends, whole_ends, accounts_both, GoesOn, in_turn_goes_on}
use Rattle.cc_accessed_bodies.proofs.Statements.{item_accesses, do_reads, if_reads, while_reads, do_while_reads, for_reads, switch_reads, return_reads, block_reads, all_do_read, joined_access, body_reads, labelled_kept, behind_kept, behind_new, behind_empty_kept}

abbrev pub reads : List Stmt → ℕ → Bool
reads ss i = list_accesses i ss

abbrev operand_accesses : Option Operand → ℕ → Bool
operand_accesses None i = false
operand_accesses (Some x) i = accesses i x.value

abbrev maybe_accesses : Option Expr → ℕ → Bool
maybe_accesses e i = optional_accesses i e

-- of what is no block there are no cases, and a `switch` of it is at fault
abbrev pub switched_accesses : Option Cases → ℕ → Bool
switched_accesses None i = true
switched_accesses (Some c) i = item_accesses c i

-- what holds of a line, where it stands alone, as the body of a `switch`, and in one
pub record LineAccounts (m : LineMeaning) : Type 0 where
  pub line : (j : Jumps) (at : ℕ) (s : State) (r : List Stmt × State) → m.line j at s ≡ Ok r → Accounts (reads r.0) s r.1
  pub switched : (j : Jumps) (t : IntType) (at : ℕ) (s : State) (r : Option Cases × State) → m.switched j t at s ≡ Ok r → Accounts (switched_accesses r.0) s r.1
  pub item : (j : Jumps) (t : IntType) (cases : Cases) (at : ℕ) (s : State) (r : Cases × State) → m.item j t cases at s ≡ Ok r → GoesOn item_accesses cases s r

abbrev pub AllAccount : List (At LineMeaning) → Type 0
AllAccount ls = Each (λ (l : At LineMeaning). LineAccounts l.node) ls

abbrev pub MaybeAccounts : Option (At LineMeaning) → Type 0
MaybeAccounts None = Unit {0}
MaybeAccounts (Some l) = LineAccounts l.node

-- what is found accesses each device without a name that is declared there
abbrev Reads : State → List Stmt × State → Type 0
Reads s r = Accounts (reads r.0) s r.1

ends_reading : (a : ℕ → Bool) (ss : List Stmt) (s t : State) (r : List Stmt × State) → Accounts a s t → ((i : ℕ) → a i ≡ true → reads ss i ≡ true) → answer ss t ≡ Ok r → Reads s r
ends_reading a ss s t r m f h = ends (Reads s) ss t r h (accounts_more a (reads ss) s t f m)

judged_reading : (a : ℕ → Bool) (at : ℕ) (judged : Judged (List Stmt)) (s t : State) (r : List Stmt × State) → Accounts a s t → ((ss : List Stmt) → judged ≡ Ok ss → (i : ℕ) → a i ≡ true → reads ss i ≡ true) → whole at t judged ≡ Ok r → Reads s r
judged_reading a at judged s t r m f h = whole_ends (Reads s) at t judged r h (λ ss k. accounts_more a (reads ss) s t (f ss k) m)

-- ---- scopes, and lines one behind another

pub scoped_accounts : {A : Type 0} (a : A → ℕ → Bool) (inner : State → Found A) (s : State) (r : A × State) → ((x : A × State) → inner (entered empty s) ≡ Ok x → Accounts (a x.0) (entered empty s) x.1) → scoped inner s ≡ Ok r → Accounts (a r.0) s r.1
unfolding scoped
scoped_accounts {A} a inner s r f h =
    let x = then_found (inner (entered empty s)) (λ x s. Ok (x, left s)) r h in ends (λ (z : A × State). Accounts (a z.0) s z.1) x.0.0 (left x.0.1) r x.2 (f x.0 x.1)

line_next : (j : Jumps) (l : At LineMeaning) → LineAccounts l.node → (before : List Stmt) (s : State) (r : List Stmt × State) → line_found j l before s ≡ Ok r → GoesOn reads before s r
line_next j l hl before s r h =
    let x = then_found (l.node.line j l.at s) (λ ss s. Ok (before ++ ss, s)) r h in
    ends (GoesOn reads before s) (before ++ x.0.0) x.0.1 r x.2 (record {
      kept = λ i k. in_front i before x.0.0 k;
      accounts = accounts_more (reads x.0.0) (reads (before ++ x.0.0)) s x.0.1 (λ i k. behind_these i before x.0.0 k) (hl.line j l.at s x.0 x.1);
    })

pub lines_account : (j : Jumps) (ls : List (At LineMeaning)) → AllAccount ls → (s : State) (r : List Stmt × State) → lines_found j ls s ≡ Ok r → Reads s r
unfolding lines_found
lines_account j ls hl s r h = (in_turn_goes_on (line_found j) reads (λ (l : At LineMeaning). LineAccounts l.node) (line_next j) ls hl [] s r h).accounts

pub block_accounts : (j : Jumps) (ls : List (At LineMeaning)) → AllAccount ls → (s : State) (r : List Stmt × State) → block_found j ls s ≡ Ok r → Reads s r
unfolding block_found
block_accounts j ls hl s r h =
    let x = then_found (lines_found j ls s) (λ ss s. done (Block ss) s) r h in ends_reading (reads x.0.0) (Block x.0.0 ∷ []) s x.0.1 r (lines_account j ls hl s x.0 x.1) (λ i k. block_reads i x.0.0 k) x.2

inside_is : (j : Jumps) (l : At LineMeaning) → LineAccounts l.node → (s : State) (r : List Stmt × State) → body_inside j l s ≡ Ok r → Reads s r
unfolding body_inside
inside_is j l hl s r h =
    let x = then_found (l.node.line j l.at s) (λ ss s. Ok (body_of ss, s)) r h in ends_reading (reads x.0.0) (body_of x.0.0) s x.0.1 r (hl.line j l.at s x.0 x.1) (λ i k. body_reads i x.0.0 k) x.2

body_is : (j : Jumps) (l : At LineMeaning) → LineAccounts l.node → (s : State) (r : List Stmt × State) → body_found j l s ≡ Ok r → Reads s r
body_is j l hl s r h = scoped_accounts reads (body_inside j l) s r (λ x e. inside_is j l hl (entered empty s) x e) h

maybe_is : (j : Jumps) (l : Option (At LineMeaning)) → MaybeAccounts l → (s : State) (r : List Stmt × State) → maybe_body j l s ≡ Ok r → Reads s r
unfolding maybe_body
maybe_is j None hl s r h = ends (Reads s) [] s r h (accounts_itself (reads []) s s refl)
maybe_is j (Some l) hl s r h = body_is j l hl s r h

module _ (target : Target) (roles : Roles) where
  -- ---- expressions

  value_is : (e : At Tree) (s : State) (r : Operand × State) → value_here target roles e s ≡ Ok r → Accounts (λ i. accesses i r.0.value) s r.1
  unfolding value_here
  value_is e s r h = value_accounts target roles e s r h

  effect_is : (e : At Tree) (s : State) (r : Expr × State) → effect_found target roles e s ≡ Ok r → Accounts (λ i. accesses i r.0) s r.1
  unfolding effect_found
  effect_is e s r h =
      let x = then_found (value_here target roles e s) (λ x s. whole e.at s (effect x)) r h in
      whole_ends (λ (z : Expr × State). Accounts (λ i. accesses i z.0) s z.1) e.at x.0.1 (effect x.0.0) r x.2
      (λ y k. subst (λ (v : Expr). Accounts (λ i. accesses i v) s x.0.1) (ok_is (structure_ok x.0.0 (Ok x.0.0.value) y k)) (value_is e s x.0 x.1))

  pub expression_accounts : (e : Option (At Tree)) (s : State) (r : List Stmt × State) → expression_found target roles e s ≡ Ok r → Reads s r
  unfolding expression_found
  expression_accounts None s r h = ends (Reads s) (Empty ∷ []) s r h (accounts_itself (reads (Empty ∷ [])) s s refl)
  expression_accounts (Some e) s r h =
      let x = then_found (effect_found target roles e s) (λ e s. done (Do e) s) r h in ends_reading (λ i. accesses i x.0.0) (Do x.0.0 ∷ []) s x.0.1 r (effect_is e s x.0 x.1) (λ i k. do_reads i x.0.0 k) x.2

  maybe_value : (e : Option (At Tree)) (s : State) (r : Option Operand × State) → maybe_found (value_here target roles) e s ≡ Ok r → Accounts (operand_accesses r.0) s r.1
  maybe_value None s r h = ends (λ (z : Option Operand × State). Accounts (operand_accesses z.0) s z.1) None s r h (accounts_itself (operand_accesses None) s s refl)
  maybe_value (Some e) s r h =
      let x = then_found (value_here target roles e s) (λ x s. Ok (Some x, s)) r h in ends (λ (z : Option Operand × State). Accounts (operand_accesses z.0) s z.1) (Some x.0.0) x.0.1 r x.2 (value_is e s x.0 x.1)

  maybe_effect : (e : Option (At Tree)) (s : State) (r : Option Expr × State) → maybe_found (effect_found target roles) e s ≡ Ok r → Accounts (maybe_accesses r.0) s r.1
  maybe_effect None s r h = ends (λ (z : Option Expr × State). Accounts (maybe_accesses z.0) s z.1) None s r h (accounts_itself (maybe_accesses None) s s refl)
  maybe_effect (Some e) s r h =
      let x = then_found (effect_found target roles e s) (λ x s. Ok (Some x, s)) r h in ends (λ (z : Option Expr × State). Accounts (maybe_accesses z.0) s z.1) (Some x.0.0) x.0.1 r x.2 (effect_is e s x.0 x.1)

  -- ---- `return`

  value_returned : (x : Operand) (o : Option ValueType) (ss : List Stmt) → returned_by target x o ≡ Ok ss → (i : ℕ) → accesses i x.value ≡ true → reads ss i ≡ true
  value_returned x None ss h i k = absurd (cc)
  value_returned x (Some to) ss h i k =
      let y = then_ok (assigned target to x) (λ y. Ok (Return (Some y.value) ∷ [])) ss h in
      subst (λ (z : List Stmt). reads z i ≡ true) (ok_is y.2) (return_reads i (Some y.0.value) (assigned_keeps target to x y.0 y.1 i k))

  returned_if : (b : Bool) (t : CType) (x : Operand) (ss : List Stmt) → (if b then Err rule.ReturnValue else returned_by target x (scalar_value t)) ≡ Ok ss → (i : ℕ) → accesses i x.value ≡ true → reads ss i ≡ true
  returned_if true t x ss h i k = absurd (cc)
  returned_if false t x ss h i k = value_returned x (scalar_value t) ss h i k

  returned_reads : (t : CType) (o : Option Operand) (ss : List Stmt) → returned target t o ≡ Ok ss → (i : ℕ) → operand_accesses o i ≡ true → reads ss i ≡ true
  returned_reads t None ss h i k = no k
  returned_reads t (Some x) ss h i k = returned_if (is_void t) t x ss h i k

  pub return_accounts : (result : CType) (e : Option (At Tree)) (at : ℕ) (s : State) (r : List Stmt × State) → return_found target roles result e at s ≡ Ok r → Reads s r
  unfolding return_found
  return_accounts result e at s r h =
      let x = then_found (maybe_found (value_here target roles) e s) (λ x s. whole at s (returned target result x)) r h in
      judged_reading (operand_accesses x.0.0) at (returned target result x.0.0) s x.0.1 r (maybe_value e s x.0 x.1) (returned_reads result x.0.0) x.2

  -- ---- declarations

  module _ (defined : List Name) where
    pub declared_accounts : (d : Decl) → decl_fits d ≡ true → (s : State) (r : List Stmt × State) → declared_found target roles defined d s ≡ Ok r → Reads s r
    unfolding declared_found
    declared_accounts d f s r h =
        let x = then_found (declaration target roles defined stands.InBlock d s) (λ es s. Ok (map Do es, s)) r h in
        ends_reading (λ i. list_any (accesses i) x.0.0) (map Do x.0.0) s x.0.1 r (declaration_accounts target roles defined stands.InBlock d f s x.0 x.1) (λ i k. all_do_read i x.0.0 k) x.2

    first_accounts : (f : First) → first_fits f ≡ true → (s : State) (r : Option Expr × State) → first_found target roles defined f s ≡ Ok r → Accounts (maybe_accesses r.0) s r.1
    unfolding first_found
    first_accounts (first.Decl d) g s r h =
        let x = then_found (declaration target roles defined stands.InFor d s) (λ es s. Ok (joined es, s)) r h in
        ends (λ (z : Option Expr × State). Accounts (maybe_accesses z.0) s z.1) (joined x.0.0) x.0.1 r x.2
        (accounts_more (λ i. list_any (accesses i) x.0.0) (maybe_accesses (joined x.0.0)) s x.0.1 (λ i k. joined_access i None x.0.0 k) (declaration_accounts target roles defined stands.InFor d g s x.0 x.1))
    first_accounts (first.Expr e) g s r h = maybe_effect e s r h

  -- ---- choices and loops

  condition_is : (x : Operand) (e : Expr) → condition x ≡ Ok e → x.value ≡ e
  condition_is x e h = ok_is (must_ok (is_scalar x.type) rule.NoScalar (Ok x.value) e (value_ok x (must (is_scalar x.type) rule.NoScalar (Ok x.value)) e h)).1

  if_of_reads : (x : Operand) (these those ss : List Stmt) → if_of x these those ≡ Ok ss → (i : ℕ) → (accesses i x.value || (reads these i || reads those i)) ≡ true → reads ss i ≡ true
  if_of_reads x these those ss h i k =
      let q = then_ok (condition x) (λ e. Ok (If e these those ∷ [])) ss h in
      subst (λ (z : List Stmt). reads z i ≡ true) (ok_is q.2) (if_reads i q.0 these those (subst (λ (v : Expr). (accesses i v || (reads these i || reads those i)) ≡ true) (condition_is x q.0 q.1) k))

  pub if_accounts : (e : At Tree) (a : At LineMeaning) → LineAccounts a.node → (b : Option (At LineMeaning)) → MaybeAccounts b → (j : Jumps) (at : ℕ) (s : State) (r : List Stmt × State) → if_found target roles e a b j at s ≡ Ok r → Reads s r
  unfolding if_found
  if_accounts e a ha b hb j at s r h =
      let x = then_found (value_here target roles e s) (λ x s. and_then (body_found j a s) (λ these s. and_then (maybe_body j b s) (λ those s. whole at s (if_of x these those)))) r h in
      let y = then_found (body_found j a x.0.1) (λ these s. and_then (maybe_body j b s) (λ those s. whole at s (if_of x.0.0 these those))) r x.2 in
      let z = then_found (maybe_body j b y.0.1) (λ those s. whole at s (if_of x.0.0 y.0.0 those)) r y.2 in
      let both = accounts_both (reads y.0.0) (reads z.0.0) x.0.1 y.0.1 z.0.1 (body_is j a ha x.0.1 y.0 y.1) (maybe_is j b hb y.0.1 z.0 z.1) in
      judged_reading (λ i. accesses i x.0.0.value || (reads y.0.0 i || reads z.0.0 i)) at (if_of x.0.0 y.0.0 z.0.0) s z.0.1 r
      (accounts_both (λ i. accesses i x.0.0.value) (λ i. reads y.0.0 i || reads z.0.0 i) s x.0.1 z.0.1 (value_is e s x.0 x.1) both) (if_of_reads x.0.0 y.0.0 z.0.0) z.2

  while_of_reads : (x : Operand) (body ss : List Stmt) → while_of x body ≡ Ok ss → (i : ℕ) → (accesses i x.value || reads body i) ≡ true → reads ss i ≡ true
  while_of_reads x body ss h i k =
      let q = then_ok (condition x) (λ e. Ok (While e body ∷ [])) ss h in
      subst (λ (z : List Stmt). reads z i ≡ true) (ok_is q.2) (while_reads i q.0 body (subst (λ (v : Expr). (accesses i v || reads body i) ≡ true) (condition_is x q.0 q.1) k))

  pub while_accounts : (e : At Tree) (a : At LineMeaning) → LineAccounts a.node → (j : Jumps) (at : ℕ) (s : State) (r : List Stmt × State) → while_found target roles e a j at s ≡ Ok r → Reads s r
  unfolding while_found
  while_accounts e a ha j at s r h =
      let x = then_found (value_here target roles e s) (λ x s. and_then (body_found (in_loop j) a s) (λ body s. whole at s (while_of x body))) r h in
      let y = then_found (body_found (in_loop j) a x.0.1) (λ body s. whole at s (while_of x.0.0 body)) r x.2 in
      judged_reading (λ i. accesses i x.0.0.value || reads y.0.0 i) at (while_of x.0.0 y.0.0) s y.0.1 r
      (accounts_both (λ i. accesses i x.0.0.value) (reads y.0.0) s x.0.1 y.0.1 (value_is e s x.0 x.1) (body_is (in_loop j) a ha x.0.1 y.0 y.1)) (while_of_reads x.0.0 y.0.0) y.2

  do_of_reads : (body : List Stmt) (x : Operand) (ss : List Stmt) → do_of body x ≡ Ok ss → (i : ℕ) → (reads body i || accesses i x.value) ≡ true → reads ss i ≡ true
  do_of_reads body x ss h i k =
      let q = then_ok (condition x) (λ e. Ok (DoWhile body e ∷ [])) ss h in
      subst (λ (z : List Stmt). reads z i ≡ true) (ok_is q.2) (do_while_reads i body q.0 (subst (λ (v : Expr). (reads body i || accesses i v) ≡ true) (condition_is x q.0 q.1) k))

  pub do_accounts : (a : At LineMeaning) → LineAccounts a.node → (e : At Tree) (j : Jumps) (at : ℕ) (s : State) (r : List Stmt × State) → do_found target roles a e j at s ≡ Ok r → Reads s r
  unfolding do_found
  do_accounts a ha e j at s r h =
      let y = then_found (body_found (in_loop j) a s) (λ body s. and_then (value_here target roles e s) (λ x s. whole at s (do_of body x))) r h in
      let x = then_found (value_here target roles e y.0.1) (λ x s. whole at s (do_of y.0.0 x)) r y.2 in
      judged_reading (λ i. reads y.0.0 i || accesses i x.0.0.value) at (do_of y.0.0 x.0.0) s x.0.1 r
      (accounts_both (reads y.0.0) (λ i. accesses i x.0.0.value) s y.0.1 x.0.1 (body_is (in_loop j) a ha s y.0 y.1) (value_is e y.0.1 x.0 x.1)) (do_of_reads y.0.0 x.0.0) x.2

  test_is : (o : Option Operand) (e : Option Expr) → maybe_condition o ≡ Ok e → (i : ℕ) → operand_accesses o i ≡ true → maybe_accesses e i ≡ true
  test_is None e h i k = no k
  test_is (Some x) e h i k =
      let y = then_ok (condition x) (λ e. Ok (Some e)) e h in subst (λ (z : Option Expr). maybe_accesses z i ≡ true) (ok_is y.2) (subst (λ (v : Expr). accesses i v ≡ true) (condition_is x y.0 y.1) k)

  for_of_reads : (f : Option Expr) (test : Option Operand) (step : Option Expr) (body ss : List Stmt) → for_of f test step body ≡ Ok ss → (i : ℕ) → (maybe_accesses f i || (operand_accesses test i || (maybe_accesses step i || reads body i))) ≡ true → reads ss i ≡ true
  for_of_reads f test step body ss h i k =
      let q = then_ok (maybe_condition test) (λ test. Ok (For f test step body ∷ [])) ss h in
      let rest = maybe_accesses step i || reads body i in
      subst (λ (z : List Stmt). reads z i ≡ true) (ok_is q.2)
      (for_reads i f q.0 step body (or_kept (maybe_accesses f i) (operand_accesses test i || rest) (maybe_accesses f i) (maybe_accesses q.0 i || rest) (λ l. l)
      (or_kept (operand_accesses test i) rest (maybe_accesses q.0 i) rest (test_is test q.0 q.1 i) (λ l. l)) k))

  pub for_accounts : (defined : List Name) (f : First) → first_fits f ≡ true → (test step : Option (At Tree)) (a : At LineMeaning) → LineAccounts a.node → (j : Jumps) (at : ℕ) (s : State) (r : List Stmt × State) →
      for_found target roles defined f test step a j at s ≡ Ok r → Reads s r
  unfolding for_found
  for_accounts defined f g test step a ha j at s r h =
      let x = then_found (first_found target roles defined f s)
      (λ f s. and_then (maybe_found (value_here target roles) test s) (λ test s. and_then (maybe_found (effect_found target roles) step s) (λ step s. and_then (body_found (in_loop j) a s) (λ body s. whole at s (for_of f test step body))))) r h in
      let y = then_found (maybe_found (value_here target roles) test x.0.1)
      (λ test s. and_then (maybe_found (effect_found target roles) step s) (λ step s. and_then (body_found (in_loop j) a s) (λ body s. whole at s (for_of x.0.0 test step body)))) r x.2 in
      let z = then_found (maybe_found (effect_found target roles) step y.0.1) (λ step s. and_then (body_found (in_loop j) a s) (λ body s. whole at s (for_of x.0.0 y.0.0 step body))) r y.2 in
      let b = then_found (body_found (in_loop j) a z.0.1) (λ body s. whole at s (for_of x.0.0 y.0.0 z.0.0 body)) r z.2 in
      let last = accounts_both (maybe_accesses z.0.0) (reads b.0.0) y.0.1 z.0.1 b.0.1 (maybe_effect step y.0.1 z.0 z.1) (body_is (in_loop j) a ha z.0.1 b.0 b.1) in
      let more = accounts_both (operand_accesses y.0.0) (λ i. maybe_accesses z.0.0 i || reads b.0.0 i) x.0.1 y.0.1 b.0.1 (maybe_value test x.0.1 y.0 y.1) last in
      judged_reading (λ i. maybe_accesses x.0.0 i || (operand_accesses y.0.0 i || (maybe_accesses z.0.0 i || reads b.0.0 i))) at (for_of x.0.0 y.0.0 z.0.0 b.0.0) s b.0.1 r
      (accounts_both (maybe_accesses x.0.0) (λ i. operand_accesses y.0.0 i || (maybe_accesses z.0.0 i || reads b.0.0 i)) s x.0.1 b.0.1 (first_accounts defined f g s x.0 x.1) more) (for_of_reads x.0.0 y.0.0 z.0.0 b.0.0) b.2

  -- ---- labels elsewhere than in a `switch` are at fault

  never_found : {A B : Type 0} (found : Found A) (at : ℕ) (r : B × State) → and_then found (λ x s. whole at s (Err rule.CaseLabel)) ≡ Ok r → ⊥
  never_found (Ok x) at r h = absurd (cc)
  never_found (Err fault) at r h = absurd (cc)

  pub misplaced_never : (a : At LineMeaning) (j : Jumps) (at : ℕ) (s : State) (r : List Stmt × State) → misplaced a j at s ≡ Ok r → ⊥
  unfolding misplaced
  misplaced_never a j at s r h = never_found (a.node.line j a.at s) at r h

  pub misplaced_case_never : (e : At Tree) (a : At LineMeaning) (j : Jumps) (at : ℕ) (s : State) (r : List Stmt × State) → misplaced_case target roles e a j at s ≡ Ok r → ⊥
  unfolding misplaced_case
  misplaced_case_never e a j at s r h = let x = then_found (value_here target roles e s) (λ x s. misplaced a j at s) r h in misplaced_never a j at x.0.1 r x.2

  -- ---- the cases of a `switch`

  pub label_goes_on : (l : Judged (Option ℤ)) (a : At LineMeaning) → LineAccounts a.node → (j : Jumps) (t : IntType) (cases : Cases) (at : ℕ) (s : State) (r : Cases × State) → label_found l a j t cases at s ≡ Ok r → GoesOn item_accesses cases s r
  unfolding label_found
  label_goes_on (Ok l) a ha j t cases at s r h =
      let x = then_found (a.node.item j t (labelled l cases) a.at s) (λ cases s. whole at s (label_done (Ok l) cases)) r h in
      let k = ha.item j t (labelled l cases) a.at s x.0 x.1 in
      ends (GoesOn item_accesses cases s) x.0.0 x.0.1 r x.2 (record { kept = λ i m. k.kept i (labelled_kept i l cases m); accounts = k.accounts })
  label_goes_on (Err broken) a ha j t cases at s r h =
      let x = then_found (a.node.item j t cases a.at s) (λ cases s. whole at s (label_done (Err broken) cases)) r h in let e = x.2 in absurd (cc)

  label_is : (l : Judged (Option ℤ)) (a : At LineMeaning) (j : Jumps) (t : IntType) (cases : Cases) (at : ℕ) (s : State) (r : Cases × State) → label_found l a j t cases at s ≡ Ok r → (n : Option ℤ) × (l ≡ Ok n)
  unfolding label_found
  label_is (Ok l) a j t cases at s r h = (l, refl)
  label_is (Err broken) a j t cases at s r h =
      let x = then_found (a.node.item j t cases a.at s) (λ cases s. whole at s (label_done (Err broken) cases)) r h in let e = x.2 in absurd (cc)

  constant_is : (t : IntType) (c : Constant) (l : Option ℤ) → label_in target t c ≡ Ok l → (n : ℤ) × (c ≡ Value n)
  constant_is t NoConstant l h = absurd (cc)
  constant_is t (Value n) l h = (n, refl)
  constant_is t Traps l h = absurd (cc)

  constant_here : (e : At Tree) (s : State) (r : Operand × State) (n : ℤ) → value_here target roles e s ≡ Ok r → constancy r.0 ≡ Value n → DeclaresNone s r.1
  unfolding value_here
  constant_here e s r n h k = constant_declares target roles e s r n h k

  -- a label is a constant
  pub case_goes_on : (e : At Tree) (a : At LineMeaning) → LineAccounts a.node → (j : Jumps) (t : IntType) (cases : Cases) (at : ℕ) (s : State) (r : Cases × State) → case_found target roles e a j t cases at s ≡ Ok r → GoesOn item_accesses cases s r
  unfolding case_found
  case_goes_on e a ha j t cases at s r h =
      let x = then_found (value_here target roles e s) (λ x s. label_found (case_label target t x cases) a j t cases at s) r h in
      let l = label_is (case_label target t x.0.0 cases) a j t cases at x.0.1 r x.2 in
      let m = then_ok (label_in target t (constancy x.0.0)) (once cases) l.0 l.1 in
      let n = constant_is t (constancy x.0.0) m.0 m.1 in
      let k = label_goes_on (case_label target t x.0.0 cases) a ha j t cases at x.0.1 r x.2 in
      record { kept = k.kept; accounts = accounts_behind (item_accesses r.0) s x.0.1 r.1 (constant_here e s x.0 n.0 x.1 n.1) k.accounts }

-- what has no label: of a line that may stand in front of the first one, nothing is lost
abbrev pub LineIs : Bool → (Jumps → Meaning (List Stmt)) → Type 0
LineIs counts line = (j : Jumps) (at : ℕ) (s : State) (r : List Stmt × State) → line j at s ≡ Ok r → Accounts (λ i. counts && reads r.0 i) s r.1

unlabelled_by : (empty counts : Bool) (line : Jumps → Meaning (List Stmt)) → LineIs counts line → (j : Jumps) (cases : Cases) (at : ℕ) (s : State) (r : Cases × State) →
    (if empty then empty_item cases s else and_then (line j at s) (λ ss s. Ok (behind counts ss cases, s))) ≡ Ok r → GoesOn item_accesses cases s r
unlabelled_by true counts line hl j cases at s r h =
    ends (GoesOn item_accesses cases s) (behind_empty (Empty ∷ []) cases) s r h (record { kept = λ i k. behind_empty_kept i (Empty ∷ []) cases k; accounts = accounts_itself (item_accesses (behind_empty (Empty ∷ []) cases)) s s refl })
unlabelled_by false counts line hl j cases at s r h =
    let x = then_found (line j at s) (λ ss s. Ok (behind counts ss cases, s)) r h in
    ends (GoesOn item_accesses cases s) (behind counts x.0.0 cases) x.0.1 r x.2 (record {
      kept = λ i k. behind_kept i counts x.0.0 cases k;
      accounts = accounts_more (λ i. counts && reads x.0.0 i) (item_accesses (behind counts x.0.0 cases)) s x.0.1 (λ i k. behind_new i counts x.0.0 cases k) (hl j at s x.0 x.1);
    })

pub unlabelled_goes_on : (empty counts : Bool) (line : Jumps → Meaning (List Stmt)) → LineIs counts line → (j : Jumps) (cases : Cases) (at : ℕ) (s : State) (r : Cases × State) → unlabelled empty counts line j cases at s ≡ Ok r → GoesOn item_accesses cases s r
unfolding unlabelled
unlabelled_goes_on empty counts line hl j cases at s r h = unlabelled_by empty counts line hl j cases at s r h

-- ---- the body of a `switch`

items_account : (j : Jumps) (t : IntType) (ls : List (At LineMeaning)) → AllAccount ls → (s : State) (r : Cases × State) → items_found j t ls s ≡ Ok r → Accounts (item_accesses r.0) s r.1
unfolding items_found
items_account j t ls hl s r h =
    (in_turn_goes_on (item_found j t) item_accesses (λ (l : At LineMeaning). LineAccounts l.node) (λ l k cases s r e. k.item j t cases l.at s r e) ls hl no_case s r h).accounts

abbrev Switched : State → Option Cases × State → Type 0
Switched s r = Accounts (switched_accesses r.0) s r.1

cases_account : (j : Jumps) (t : IntType) (ls : List (At LineMeaning)) → AllAccount ls → (s : State) (r : Option Cases × State) → cases_inside j t ls s ≡ Ok r → Switched s r
unfolding cases_inside
cases_account j t ls hl s r h = let x = then_found (items_found j t ls s) (λ cases s. Ok (Some cases, s)) r h in ends (Switched s) (Some x.0.0) x.0.1 r x.2 (items_account j t ls hl s x.0 x.1)

pub switch_block : (j : Jumps) (t : IntType) (ls : List (At LineMeaning)) → AllAccount ls → (s : State) (r : Option Cases × State) → scoped (cases_inside j t ls) s ≡ Ok r → Switched s r
switch_block j t ls hl s r h = scoped_accounts switched_accesses (cases_inside j t ls) s r (λ x e. cases_account j t ls hl (entered empty s) x e) h

pub no_block : (line : Jumps → Meaning (List Stmt)) (j : Jumps) (at : ℕ) (s : State) (r : Option Cases × State) → not_switched line j at s ≡ Ok r → Switched s r
unfolding not_switched
no_block line j at s r h = let x = then_found (line j at s) (λ ss s. Ok (None, s)) r h in ends (Switched s) None x.0.1 r x.2 (λ i k. inr refl)

not_first : (c first : Bool) → not first ≡ true → (c || first) ≡ true → c ≡ true
not_first c true h k = absurd (cc)
not_first c false h k = or_either c false (λ l. l) (λ l. no l) k

cases_read : (o : Option Cases) (cs : List Case) → cases_of o ≡ Ok cs → (i : ℕ) → switched_accesses o i ≡ true → cases_access i cs ≡ true
cases_read None cs h i k = absurd (cc)
cases_read (Some c) cs h i k =
    let m = must_ok (not c.statement_first) rule.Switch (Ok c.cases) cs h in subst (λ (z : List Case). cases_access i z ≡ true) (ok_is m.1) (not_first (cases_access i c.cases) c.statement_first m.0 k)

switch_of_reads : (target : Target) (x : Operand) (o : Option Cases) (ss : List Stmt) → switch_of target x o ≡ Ok ss → (i : ℕ) → (accesses i x.value || switched_accesses o i) ≡ true → reads ss i ≡ true
switch_of_reads target x o ss h i k =
    let e = converted_to target (switch_type target x.type) x in
    let last = judge_then (cases_of o) (λ cs. Ok (Switch e.value cs ∷ [])) in
    let cs = then_ok (cases_of o) (λ cs. Ok (Switch e.value cs ∷ [])) ss (must_ok (is_integer x.type) rule.Switch last ss (value_ok x (must (is_integer x.type) rule.Switch last) ss h)).1 in
    subst (λ (z : List Stmt). reads z i ≡ true) (ok_is cs.2)
    (switch_reads i e.value cs.0 (or_kept (accesses i x.value) (switched_accesses o i) (accesses i e.value) (cases_access i cs.0) (converted_keeps target (switch_type target x.type) x i) (cases_read o cs.0 cs.1 i) k))

pub switch_accounts : (target : Target) (roles : Roles) (e : At Tree) (a : At LineMeaning) → LineAccounts a.node → (j : Jumps) (at : ℕ) (s : State) (r : List Stmt × State) → switch_found target roles e a j at s ≡ Ok r → Reads s r
unfolding switch_found
switch_accounts target roles e a ha j at s r h =
    let x = then_found (value_here target roles e s) (λ x s. and_then (switch_body (in_switch j) (switch_type target x.type) a s) (λ cases s. whole at s (switch_of target x cases))) r h in
    let t = switch_type target x.0.0.type in
    let y = then_found (switch_body (in_switch j) t a x.0.1) (λ cases s. whole at s (switch_of target x.0.0 cases)) r x.2 in
    let inner = scoped_accounts switched_accesses (a.node.switched (in_switch j) t a.at) x.0.1 y.0 (λ z i. ha.switched (in_switch j) t a.at (entered empty x.0.1) z i) y.1 in
    judged_reading (λ i. accesses i x.0.0.value || switched_accesses y.0.0 i) at (switch_of target x.0.0 y.0.0) s y.0.1 r
    (accounts_both (λ i. accesses i x.0.0.value) (switched_accesses y.0.0) s x.0.1 y.0.1 (value_is target roles e s x.0 x.1) inner) (switch_of_reads target x.0.0 y.0.0) y.2

-- ---- `break` and `continue`

pub jump_accounts : (at : ℕ) (judged : Judged (List Stmt)) (s : State) (r : List Stmt × State) → whole at s judged ≡ Ok r → Reads s r
jump_accounts at judged s r h = whole_ends (Reads s) at s judged r h (λ ss k. accounts_itself (reads ss) s s refl)
