-- `switch`: its cases are lowered one by one, and from the same label on both go on beside each other.
use Rattle.std.proofs.Common.{arith, ◌≡◌, ◌≤◌, ◌+◌, ℕ, ℤ, Bool, true, false, List, [], ◌∷◌, ◌++◌, length, Option, Some, None, refl, ap, sym, ◌∙◌, subst, append_assoc, if◌then◌else◌}
use Rattle.std.specs.Prelude.{slice_get}
use Rattle.std.specs.List.{list_any}
use Rattle.std.specs.Option.{option_or}
use Rattle.cc_states.specs.CcControl.declared.phase.Phase.TheVariants.{First}
use Rattle.cc_states.specs.CcControl.Control.{behind_body, bodies, from_label, is_label, is_default}
use Rattle.cc_program.specs.declared.expr.Expr.{Expr}
use Rattle.cc_program.specs.declared.stmt.Case.{Case, roll-Case, out-roll-Case, fold_out-Case}
use Rattle.cc_program.specs.declared.stmt.Stmt.{Stmt, Switch, out-Stmt}
use Rattle.cc_program.specs.declared.stmt.Stmt.TheVariants.{outs-Switch}
use Rattle.cc_program.specs.declared.stmt.Stmt.TheOpen as is
use Rattle.cc_program.proofs.Each.{Each}
use Rattle.cc_meaning_simulations.specs.Continuations.{Remainder, remainder, resume, enclosing, in_cases, found_case}
use Rattle.cc_meaning_simulations.specs.LocalSimulations.{Approaches}
use Rattle.cc_meaning_simulations.specs.LocalSteps.{LocalState, Locals, local_state}
use Rattle.cc_meaning_simulations.specs.Transitions.{jump_to}
use Rattle.cc_lower_expressions.specs.Expressions.{Piece, piece, Make}
use Rattle.cc_lower_expressions.specs.Statements.{lower, lower_case, lower_in, lower_case_in, lower_list, lower_cases, case_of}
use Rattle.cc_lower_expressions_follows.specs.Trees.{Setting}
use Rattle.cc_lower_expressions_follows.specs.Registered.{regs_in}
use Rattle.cc_lower_expressions_follows.specs.Relation.{Declared}
use Rattle.cc_lower_expressions_follows.specs.WholeLists.{piece_of, IsLoweredRight, AreBranches, Switches, AreLowered, NoneLowered, OneLowered, AreLoweredCases, NoCases, OneCase, AreAround, InBranch, IsLast, LastSwitch}
use Rattle.cc_lower_expressions_follows.specs.WholeMatches.{AreAlike, AreTogether, MatchIn}
use Rattle.cc_lower_expressions_follows.specs.WholePlaces.{opened_at}
use Rattle.cc_lower_expressions_follows.specs.WholeRegion.{nowhere}
use Rattle.cc_lower_expressions_follows.specs.WholeTrees.{AreTyped}
use Rattle.cc_lower_expressions_follows.proofs.WholeBridge.{IsLowered}
use Rattle.cc_lower_expressions_follows.proofs.WholeJumps.{list_begins}
use Rattle.cc_lower_expressions_follows.proofs.WholeLists.{AreBegun, declared_left, declared_right, lists_lowered, lower_level}
use Rattle.cc_lower_expressions_follows.proofs.WholeOperands.{operand_begins}

module _ (w : Setting) (Good : Stmt → Type 0) where
  -- one list behind another
  pub lowered_append : (a a' b b' : List Stmt) → AreLowered w Good a a' → AreLowered w Good b b' → AreLowered w Good (a ++ b) (a' ++ b')
  lowered_append _ _ b b' NoneLowered k = k
  lowered_append _ _ b b' (OneLowered s n l l' above declared good_one h) k =
      subst (AreLowered w Good (s ∷ (l ++ b))) (sym (append_assoc (lower w.p w.from s n).stmts l' b')) (OneLowered s n (l ++ b) (l' ++ b') above declared good_one (lowered_append l l' b b' h k))

  pub bodies_lowered : (cases others : List Case) → AreLoweredCases w Good cases others → AreLowered w Good (bodies cases) (bodies others)
  bodies_lowered _ _ NoCases = NoneLowered
  bodies_lowered _ _ (OneCase c d cases others e h k) = lowered_append c.body d.body (bodies cases) (bodies others) h (bodies_lowered cases others k)

  -- both find a case, or neither does
  abbrev Found : Option (ℕ × List Stmt) → Option (ℕ × List Stmt) → Type 0
  Found None None = Unit {0}
  Found None (Some y) = ⊥
  Found (Some x) None = ⊥
  Found (Some x) (Some y) = AreLowered w Good x.1 y.1

  module _ (has : List (Option ℤ) → Bool) where
    found_in : (cases others : List Case) (n m : ℕ) → AreLoweredCases w Good cases others → Found (from_label has n cases) (from_label has m others)
    found_in _ _ n m NoCases = tt
    found_in _ _ n m (OneCase c d cases others e h k) =
        subst (λ (b : Bool). Found (if has c.labels then Some (n, bodies (c ∷ cases)) else from_label has (n + length c.body) cases) (if b then Some (m, bodies (d ∷ others)) else from_label has (m + length d.body) others)) (sym (ap has e))
        (by_label (has c.labels) (found_in cases others (n + length c.body) (m + length d.body) k))
      where
        by_label : (b : Bool) → Found (from_label has (n + length c.body) cases) (from_label has (m + length d.body) others) →
            Found (if b then Some (n, bodies (c ∷ cases)) else from_label has (n + length c.body) cases) (if b then Some (m, bodies (d ∷ others)) else from_label has (m + length d.body) others)
        by_label true z = bodies_lowered (c ∷ cases) (d ∷ others) (OneCase c d cases others e h k)
        by_label false z = z

  found_or : (x y x' y' : Option (ℕ × List Stmt)) → Found x y → Found x' y' → Found (option_or x x') (option_or y y')
  found_or None None x' y' h k = k
  found_or None (Some y) x' y' h k = absurd h
  found_or (Some x) None x' y' h k = absurd h
  found_or (Some x) (Some y) x' y' h k = h

  found_cases : (n : ℤ) (cases others : List Case) → AreLoweredCases w Good cases others → Found (found_case n cases) (found_case n others)
  found_cases n cases others h =
      found_or (from_label (list_any (is_label n)) 0 cases) (from_label (list_any (is_label n)) 0 others) (from_label (list_any is_default) 0 cases) (from_label (list_any is_default) 0 others)
      (found_in (list_any (is_label n)) cases others 0 0 h) (found_in (list_any is_default) cases others 0 0 h)

  -- ---- what cases become

  case_level : (c : Case) (k : ℕ) → lower_case w.p w.from c k ≡ case_of c.labels (lower_list w.p w.from c.body k)
  unfolding lower lower_case
  case_level c k = ap (λ (m : Make Case). m k) (fold_out-Case (Make (Unit {0})) (Make Case) (lower_in w.p w.from) (lower_case_in w.p w.from) c)

  pub record AreMade (cases : List Case) (x : Piece (List Case)) : Type 0 where
    pub stmts : x.stmts ≡ []
    pub lowered : AreLoweredCases w Good cases x.value

  made_one : (c : Case) (cases : List Case) (y : Piece Case) (x : Piece (Unit {0})) (z : Piece (List Case)) → y ≡ case_of c.labels x → AreLowered w Good c.body x.stmts → AreMade cases z → AreMade (c ∷ cases) (piece (y.temps ++ z.temps) (y.stmts ++ z.stmts) (y.value ∷ z.value))
  made_one c cases y x z e h k =
      subst (λ (y : Piece Case). AreMade (c ∷ cases) (piece (y.temps ++ z.temps) (y.stmts ++ z.stmts) (y.value ∷ z.value))) (sym e)
      (record {
        stmts = k.stmts;
        lowered = OneCase c (roll-Case (record { labels = c.labels; body = x.stmts })) cases z.value (ap (λ (r : is.Case-F Stmt Case). r.labels) (out-roll-Case (record { labels = c.labels; body = x.stmts })))
            (subst (AreLowered w Good c.body) (sym (ap (λ (r : is.Case-F Stmt Case). r.body) (out-roll-Case (record { labels = c.labels; body = x.stmts })))) h) k.lowered;
      })

  pub cases_made : (cases : List Case) (k : ℕ) → w.base ≤ k → Declared w k (lower_cases w.p w.from cases k).temps → Each (λ c. Each Good c.body) cases → AreMade cases (lower_cases w.p w.from cases k)
  cases_made [] k above declared good = record { stmts = refl; lowered = NoCases }
  cases_made (c ∷ cases) k above declared good =
      let one = lower_case w.p w.from c k in
      let rest = lower_cases w.p w.from cases (k + length one.temps) in
      made_one c cases one (lower_list w.p w.from c.body k) rest (case_level c k)
      (lists_lowered w Good c.body k above (subst (λ (y : Piece Case). Declared w k y.temps) (case_level c k) (declared_left w k one.temps rest.temps declared)) good.0)
      (cases_made cases (k + length one.temps) (omega (arith, above)) (declared_right w k one.temps rest.temps declared) good.1)

module _ (w : Setting) (hidden : ℕ → ℕ → Bool) (lowered : IsLowered w hidden) (Good : Stmt → Type 0) (Match : LocalState → LocalState → Type 0) (matches : (q p : LocalState) → MatchIn w Good q p → Match q p) where
  -- ---- from the same label on

  module _ (begins : (l l' : List Stmt) (ps qs : List Remainder) → AreTogether w Good l l' ps qs → AreBegun w hidden Good Match matches l l' ps qs)
      (s u : Stmt) (e x : Expr) (cases others : List Case) (l l' : List Stmt) (ps qs : List Remainder) (d : out-Stmt s ≡ is.Switch e cases) (f : out-Stmt u ≡ is.Switch x others) (h : AreLoweredCases w Good cases others) (together : AreTogether w Good l l' ps qs)
      (openings : List ℕ) (opened : slice_get openings w.number ≡ Some w.id) (pl ql : Locals) (typed : AreTyped (opened_at w openings) (regs_in w.from pl)) (alike : AreAlike w pl ql) where
    abbrev Again : Option (ℕ × List Stmt) → Option (ℕ × List Stmt) → Type 0
    Again y z = Approaches hidden w.q w.p Match false (local_state (jump_to w.q (nowhere w) (in_cases z (remainder (u ∷ l') First) qs)) ql) (local_state (jump_to w.p (nowhere w) (in_cases y (remainder (s ∷ l) First) ps)) pl)

    enclosed : (t : Stmt) (r : List Stmt) (y : is.Stmt-F Stmt Case) → out-Stmt t ≡ y → behind_body y ≡ First → enclosing (remainder (t ∷ r) First) ≡ remainder (t ∷ r) First
    enclosed t r y i b = ap (remainder (t ∷ r)) (ap behind_body i ∙ b)

    inside : AreAround w Good (remainder (s ∷ l) First ∷ ps) (remainder (u ∷ l') First ∷ qs)
    inside = InBranch s u l l' ps qs (subst (λ (y : is.Stmt-F Stmt Case). AreBranches y (out-Stmt u)) (sym d) (subst (λ (y : is.Stmt-F Stmt Case). AreBranches (is.Switch e cases) y) (sym f) (Switches e x cases others))) together.lists together.around

    goes_on : (y z : Option (ℕ × List Stmt)) → Found w Good y z → Again y z
    goes_on None None k = list_begins w hidden Good Match matches begins openings opened pl ql typed alike l l' ps qs together
    goes_on None (Some z) k = absurd k
    goes_on (Some y) None k = absurd k
    goes_on (Some y) (Some z) k =
        subst (λ (r : Remainder). Approaches hidden w.q w.p Match false (local_state (jump_to w.q (nowhere w) (resume z.1 (r ∷ qs))) ql) (local_state (jump_to w.p (nowhere w) (resume y.1 (enclosing (remainder (s ∷ l) First) ∷ ps))) pl)) (sym (enclosed u l' (is.Switch x others) f refl))
        (subst (λ (r : Remainder). Approaches hidden w.q w.p Match false (local_state (jump_to w.q (nowhere w) (resume z.1 (remainder (u ∷ l') First ∷ qs))) ql) (local_state (jump_to w.p (nowhere w) (resume y.1 (r ∷ ps))) pl)) (sym (enclosed s l (is.Switch e cases) d refl))
        (list_begins w hidden Good Match matches begins openings opened pl ql typed alike y.1 z.1 (remainder (s ∷ l) First ∷ ps) (remainder (u ∷ l') First ∷ qs) (record { lists = k; around = inside })))

    pub found_alike : (n : ℤ) → Again (found_case n cases) (found_case n others)
    found_alike n = goes_on (found_case n cases) (found_case n others) (found_cases w Good n cases others h)

  -- ---- it begins

  module _ (s : Stmt) (k : ℕ) (l l' : List Stmt) (ps qs : List Remainder) (above : w.base ≤ k) (declared : Declared w k (lower w.p w.from s k).temps) (together : AreTogether w Good l l' ps qs)
      (e : Expr) (cases : List Case) (d : out-Stmt s ≡ is.Switch e cases) (right : IsLoweredRight w e) (good_cases : Each (λ c. Each Good c.body) cases) where
    abbrev operand : Piece Expr
    operand = piece_of w e k

    abbrev k_in : ℕ
    k_in = k + length operand.temps

    abbrev inner : Piece (List Case)
    inner = lower_cases w.p w.from cases k_in

    abbrev last : Stmt
    last = Switch operand.value inner.value

    abbrev made : Piece (Unit {0})
    made = piece (operand.temps ++ (inner.temps ++ [])) (operand.stmts ++ (inner.stmts ++ last ∷ [])) tt

    is_made : lower w.p w.from s k ≡ made
    is_made = ap (λ (m : Make (Unit {0})). m k) (lower_level w s (is.Switch e cases) d)

    all_declared : Declared w k made.temps
    all_declared = subst (λ (y : Piece (Unit {0})). Declared w k y.temps) is_made declared

    are_made : AreMade w Good cases inner
    are_made = cases_made w Good cases k_in (omega (arith, above)) (declared_left w k_in inner.temps [] (declared_right w k operand.temps (inner.temps ++ []) all_declared)) good_cases

    last_switch : IsLast w Good (out-Stmt s) e operand.value (out-Stmt last)
    last_switch =
        subst (λ (y : is.Stmt-F Stmt Case). IsLast w Good y e operand.value (out-Stmt last)) (sym d)
        (subst (λ (y : is.Stmt-F Stmt Case). IsLast w Good (is.Switch e cases) e operand.value y) (sym (outs-Switch operand.value inner.value)) (LastSwitch e operand.value cases inner.value are_made.lowered))

    its_list : (lower w.p w.from s k).stmts ++ l' ≡ operand.stmts ++ last ∷ l'
    its_list =
        ap (λ (y : Piece (Unit {0})). y.stmts ++ l') is_made ∙
        ap (λ (m : List Stmt). (operand.stmts ++ (m ++ last ∷ [])) ++ l') are_made.stmts ∙
        append_assoc operand.stmts (last ∷ []) l'

    pub switch_begins : AreBegun w hidden Good Match matches (s ∷ l) ((lower w.p w.from s k).stmts ++ l') ps qs
    switch_begins =
        subst (λ (m : List Stmt). AreBegun w hidden Good Match matches (s ∷ l) m ps qs) (sym its_list)
        (operand_begins w hidden lowered Good Match matches s last e operand.value l l' ps qs last_switch right together k above (declared_left w k operand.temps (inner.temps ++ []) all_declared) refl)
