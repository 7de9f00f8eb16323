-- Statements and what becomes of them: the same kind with copied parts, or a `do` and the loop with a flag that it becomes.
-- Each has its own flags, of which only that they are the function's matters.
use Rattle.std.proofs.Common.{arith, ◌≡◌, ◌≤◌, ◌<◌, ℕ, ℤ, ◌+◌, Bool, true, false, ◌&&◌, not, List, [], ◌∷◌, ◌++◌, length, map, Option, Some, None, slice_get, refl, ap, sym, ◌∙◌, subst, if◌then◌else◌}
use Rattle.std.specs.Prelude.{nat_le, nat_lt}
use Rattle.std.specs.List.{list_any}
use Rattle.std.specs.Option.{option_or}
use Rattle.std.proofs.lemmas.Bool.{le-leb, lt-ltb, ltb-true, leb-true}
use Rattle.cc_program.specs.declared.expr.Expr.{Expr}
use Rattle.cc_program.specs.declared.func.Func.{Func}
use Rattle.cc_program.specs.declared.program.Program.{Program}
use Rattle.cc_program.specs.declared.stmt.Case.{Case, out-Case, out-roll-Case}
use Rattle.cc_program.specs.declared.stmt.Stmt.{Stmt, out-Stmt, out-roll-Stmt, map-Stmt}
use Rattle.cc_program.specs.declared.stmt.Stmt.TheOpen as is
use Rattle.cc_states.specs.CcControl.Control.{bodies, from_label, is_label, is_default}
use Rattle.cc_meaning_simulations.specs.Continuations.{found_case}
use Rattle.cc_meaning_simulations.specs.NamedLocals.{names_below}
use Rattle.cc_lower_continues.specs.Continues.{CaseFlagging, Flagging, any_continues, case_flagging, cases_become, do_flagging, flagged_do, flagged_list, flagging, flagging_in, flags_in_cases, flags_of, needs_flag}
use Rattle.cc_lower_continues.proofs.Layers.{case_flagging-out, flagging-out}
use Rattle.cc_lower_continues_follows.proofs.ExpressionNames.{are_below, are_cases_below, both_left, both_right, expressions_below, is_below, is_below-out, is_below_in, is_case_below, is_case_below-out, optional_below, three_below}

-- the flags of a function: unsigned chars behind its locals
abbrev pub first : Func → ℕ
first f = length f.locals

abbrev pub flag_in : Option Func → ℕ → Bool
flag_in None r = false
flag_in (Some f) r = nat_le (first f) r && nat_lt r (first f + flags_of f.body)

abbrev pub is_flag : Program → ℕ → ℕ → Bool
is_flag p f r = flag_in (slice_get p.funcs f) r

-- what the source does not have
abbrev pub hidden_in : Option Func → ℕ → Bool
hidden_in None r = false
hidden_in (Some f) r = not (nat_lt r (first f))

abbrev pub hidden : Program → ℕ → ℕ → Bool
hidden p f r = hidden_in (slice_get p.funcs f) r

past_all : (n r : ℕ) → n ≤ r → not (nat_lt r n) ≡ true
past_all n r h = by_lt (nat_lt r n) refl
  where
    by_lt : (b : Bool) → nat_lt r n ≡ b → not (nat_lt r n) ≡ true
    by_lt true e = let k : r < n = ltb-true r n e in absurd (omega (arith, h, k))
    by_lt false e = ap not e

pub flag_hidden : (p : Program) (f r : ℕ) → is_flag p f r ≡ true → hidden p f r ≡ true
flag_hidden p f r h = by_func (slice_get p.funcs f) h
  where
    left : (a b : Bool) → (a && b) ≡ true → a ≡ true
    left true b h = refl
    left false b h = absurd (cc)

    by_func : (g : Option Func) → flag_in g r ≡ true → hidden_in g r ≡ true
    by_func None h = absurd (cc)
    by_func (Some g) h = past_all (first g) r (leb-true (first g) r (left (nat_le (first g) r) _ h))

pub shown : (p : Program) (id : ℕ) (f : Func) → slice_get p.funcs id ≡ Some f → (r : ℕ) → hidden p id r ≡ false → nat_lt r (length f.locals) ≡ true
shown p id f e r h = by_lt (nat_lt r (first f)) (ap (λ (o : Option Func). hidden_in o r) (sym e) ∙ h)
  where
    by_lt : (b : Bool) → not b ≡ false → b ≡ true
    by_lt true h = refl
    by_lt false h = absurd (cc)

module _ (low top : ℕ) where
  -- so many flags from one on
  pub record Within (n takes : ℕ) : Type 0 where
    pub from : low ≤ n
    pub to : n + takes ≤ top

  pub record IsCopy (s t : Stmt) : Type 0 where
    pub number : ℕ
    pub within : Within number (flagging s).flags
    pub names : is_below low s ≡ true
    pub becomes : t ≡ (flagging s).becomes number

  abbrev pub Copies : List Stmt → List Stmt → Type 0
  Copies [] [] = Unit {0}
  Copies (s ∷ l) (t ∷ k) = IsCopy s t × Copies l k
  Copies [] (t ∷ k) = ⊥
  Copies (s ∷ l) [] = ⊥

  pub record IsCaseCopy (c d : Case) : Type 0 where
    pub number : ℕ
    pub within : Within number (case_flagging c).flags
    pub names : is_case_below low c ≡ true
    pub becomes : d ≡ (case_flagging c).becomes number

  abbrev pub CaseCopies : List Case → List Case → Type 0
  CaseCopies [] [] = Unit {0}
  CaseCopies (c ∷ l) (d ∷ k) = IsCaseCopy c d × CaseCopies l k
  CaseCopies [] (d ∷ k) = ⊥
  CaseCopies (c ∷ l) [] = ⊥

  pub copies : (l : List Stmt) (n : ℕ) → Within n (flags_of l) → are_below low l ≡ true → Copies l (flagged_list l n)
  copies [] n w nm = tt
  copies (s ∷ l) n w nm =
      let from = w.from in
      let to = w.to in (
        record { number = n; within = record { from = from; to = omega (arith, to) }; names = both_left (is_below low s) (are_below low l) nm; becomes = refl },
        copies l (n + (flagging s).flags) (record { from = omega (arith, from); to = omega (arith, to) }) (both_right (is_below low s) (are_below low l) nm),
      )

  pub case_copies : (l : List Case) (n : ℕ) → Within n (flags_in_cases (map case_flagging l)) → are_cases_below low l ≡ true → CaseCopies l (cases_become (map case_flagging l) n)
  case_copies [] n w nm = tt
  case_copies (c ∷ l) n w nm =
      let from = w.from in
      let to = w.to in (
        record { number = n; within = record { from = from; to = omega (arith, to) }; names = both_left (is_case_below low c) (are_cases_below low l) nm; becomes = refl },
        case_copies l (n + (case_flagging c).flags) (record { from = omega (arith, from); to = omega (arith, to) }) (both_right (is_case_below low c) (are_cases_below low l) nm),
      )

  copies-append : (xs xs' ys ys' : List Stmt) → Copies xs xs' → Copies ys ys' → Copies (xs ++ ys) (xs' ++ ys')
  copies-append [] [] ys ys' h k = k
  copies-append (x ∷ xs) (x' ∷ xs') ys ys' h k = (h.0, copies-append xs xs' ys ys' h.1 k)
  copies-append [] (x' ∷ xs') ys ys' h k = absurd h
  copies-append (x ∷ xs) [] ys ys' h k = absurd h

  -- the body of a case
  pub record IsCaseBody (c d : Case) : Type 0 where
    pub labels : (out-Case d).labels ≡ (out-Case c).labels
    pub body : Copies (out-Case c).body (out-Case d).body

  pub case_body : (c d : Case) → IsCaseCopy c d → IsCaseBody c d
  case_body c d h =
      let opened : out-Case d ≡ record { labels = (out-Case c).labels; body = flagged_list (out-Case c).body h.number } =
      ap out-Case (h.becomes ∙ ap (λ (t : CaseFlagging). t.becomes h.number) (case_flagging-out c)) ∙ out-roll-Case (record { labels = (out-Case c).labels; body = flagged_list (out-Case c).body h.number }) in
      let w : Within h.number (flags_of (out-Case c).body) = subst (λ (t : CaseFlagging). Within h.number t.flags) (case_flagging-out c) h.within in
      record {
        labels = ap (λ (x : is.Case-F Stmt Case). x.labels) opened;
        body = subst (λ (l : List Stmt). Copies (out-Case c).body l) (sym (ap (λ (x : is.Case-F Stmt Case). x.body) opened)) (copies (out-Case c).body h.number w (sym (is_case_below-out low c) ∙ h.names));
      }

  -- the same kind of statement, with copied parts
  pub data Mirrors : is.Stmt-F Stmt Case → is.Stmt-F Stmt Case → Type 0 where
    MDo : (e : Expr) → expressions_below low (is.Do e) ≡ true → Mirrors (is.Do e) (is.Do e)
    MIf : (e : Expr) (a b a' b' : List Stmt) → Copies a a' → Copies b b' → expressions_below low (is.If e a b) ≡ true → Mirrors (is.If e a b) (is.If e a' b')
    MWhile : (e : Expr) (a a' : List Stmt) → Copies a a' → expressions_below low (is.While e a) ≡ true → Mirrors (is.While e a) (is.While e a')
    MDoWhile : (e : Expr) (a a' : List Stmt) → Copies a a' → expressions_below low (is.DoWhile a e) ≡ true → Mirrors (is.DoWhile a e) (is.DoWhile a' e)
    MFor : (first test again : Option Expr) (a a' : List Stmt) → Copies a a' → expressions_below low (is.For first test again a) ≡ true → Mirrors (is.For first test again a) (is.For first test again a')
    MSwitch : (e : Expr) (cs cs' : List Case) → CaseCopies cs cs' → expressions_below low (is.Switch e cs) ≡ true → Mirrors (is.Switch e cs) (is.Switch e cs')
    MBreak : Mirrors is.Break is.Break
    MContinue : Mirrors is.Continue is.Continue
    MReturn : (e : Option Expr) → expressions_below low (is.Return e) ≡ true → Mirrors (is.Return e) (is.Return e)
    MEmpty : Mirrors is.Empty is.Empty
    MBlock : (a a' : List Stmt) → Copies a a' → Mirrors (is.Block a) (is.Block a')

  -- a statement and its copy
  pub data Copied (s t : Stmt) : Type 0 where
    Kept : (x y : is.Stmt-F Stmt Case) → out-Stmt s ≡ x → out-Stmt t ≡ y → Mirrors x y → Copied s t
    IsFlagged : (u : Stmt) (a : List Stmt) (e : Expr) (n : ℕ) (a' : List Stmt) → names_below low e ≡ true → out-Stmt s ≡ is.DoWhile (u ∷ a) e → t ≡ flagged_do n e a' → low ≤ n → n < top → Copies (u ∷ a) a' → Copied s t

  -- a `do` with a flag has some statement in its body
  flagged_copy : (a : List Stmt) (e : Expr) (s t : Stmt) (b : Bool) (n : ℕ) → needs_flag (any_continues (map flagging a)) e ≡ b → names_below low e ≡ true → are_below low a ≡ true → out-Stmt s ≡ is.DoWhile a e → Within n (do_flagging b (map flagging a) e).flags → t ≡ (do_flagging b (map flagging a) e).becomes n → Copied s t
  flagged_copy a e s t false n h ne na i w c =
      Kept (is.DoWhile a e) (is.DoWhile (flagged_list a n) e) i (ap out-Stmt c ∙ out-roll-Stmt (is.DoWhile (flagged_list a n) e)) (MDoWhile e a (flagged_list a n) (copies a n w na) ne)
  flagged_copy [] e s t true n h ne na i w c = (let x : false ≡ true = h in absurd (cc))
  flagged_copy (u ∷ a) e s t true n h ne na i w c =
      let from = w.from in
      let to = w.to in
      IsFlagged u a e n (flagged_list (u ∷ a) (n + 1)) ne i c from (omega (arith, to)) (copies (u ∷ a) (n + 1) (record { from = omega (arith, from); to = omega (arith, to) }) na)

  copied_in : (x : is.Stmt-F Stmt Case) (s t : Stmt) (n : ℕ) → out-Stmt s ≡ x → Within n (flagging_in (map-Stmt Stmt Case Flagging CaseFlagging flagging case_flagging x)).flags → is_below_in low (map-Stmt Stmt Case Bool Bool (is_below low) (is_case_below low) x) ≡ true →
      t ≡ (flagging_in (map-Stmt Stmt Case Flagging CaseFlagging flagging case_flagging x)).becomes n → Copied s t
  copied_in (is.Do e) s t n i w nm c = Kept (is.Do e) (is.Do e) i (ap out-Stmt c ∙ out-roll-Stmt (is.Do e)) (MDo e nm)
  copied_in (is.If e a b) s t n i w nm c =
      let from = w.from in
      let to = w.to in
      Kept (is.If e a b) (is.If e (flagged_list a n) (flagged_list b (n + flags_of a))) i (ap out-Stmt c ∙ out-roll-Stmt (is.If e (flagged_list a n) (flagged_list b (n + flags_of a))))
      (MIf e a b (flagged_list a n) (flagged_list b (n + flags_of a)) (copies a n (record { from = from; to = omega (arith, to) }) (both_left (are_below low a) (are_below low b) (both_right (names_below low e) _ nm))) (copies b (n + flags_of a) (record { from = omega (arith, from); to = omega (arith, to) }) (both_right (are_below low a) (are_below low b) (both_right (names_below low e) _ nm))) (both_left (names_below low e) _ nm))
  copied_in (is.While e a) s t n i w nm c = Kept (is.While e a) (is.While e (flagged_list a n)) i (ap out-Stmt c ∙ out-roll-Stmt (is.While e (flagged_list a n))) (MWhile e a (flagged_list a n) (copies a n w (both_right (names_below low e) (are_below low a) nm)) (both_left (names_below low e) (are_below low a) nm))
  copied_in (is.DoWhile a e) s t n i w nm c = flagged_copy a e s t (needs_flag (any_continues (map flagging a)) e) n refl (both_left (names_below low e) (are_below low a) nm) (both_right (names_below low e) (are_below low a) nm) i w c
  copied_in (is.For first test again a) s t n i w nm c =
      Kept (is.For first test again a) (is.For first test again (flagged_list a n)) i (ap out-Stmt c ∙ out-roll-Stmt (is.For first test again (flagged_list a n))) (MFor first test again a (flagged_list a n) (copies a n w (both_right (optional_below low again) (are_below low a) (both_right (optional_below low test) _ (both_right (optional_below low first) _ nm)))) (three_below low first test again (are_below low a) nm))
  copied_in (is.Switch e cases) s t n i w nm c =
      Kept (is.Switch e cases) (is.Switch e (cases_become (map case_flagging cases) n)) i (ap out-Stmt c ∙ out-roll-Stmt (is.Switch e (cases_become (map case_flagging cases) n)))
      (MSwitch e cases (cases_become (map case_flagging cases) n) (case_copies cases n w (both_right (names_below low e) (are_cases_below low cases) nm)) (both_left (names_below low e) (are_cases_below low cases) nm))
  copied_in is.Break s t n i w nm c = Kept is.Break is.Break i (ap out-Stmt c ∙ out-roll-Stmt is.Break) MBreak
  copied_in is.Continue s t n i w nm c = Kept is.Continue is.Continue i (ap out-Stmt c ∙ out-roll-Stmt is.Continue) MContinue
  copied_in (is.Return e) s t n i w nm c = Kept (is.Return e) (is.Return e) i (ap out-Stmt c ∙ out-roll-Stmt (is.Return e)) (MReturn e nm)
  copied_in is.Empty s t n i w nm c = Kept is.Empty is.Empty i (ap out-Stmt c ∙ out-roll-Stmt is.Empty) MEmpty
  copied_in (is.Block a) s t n i w nm c = Kept (is.Block a) (is.Block (flagged_list a n)) i (ap out-Stmt c ∙ out-roll-Stmt (is.Block (flagged_list a n))) (MBlock a (flagged_list a n) (copies a n w nm))

  pub copied : (s t : Stmt) → IsCopy s t → Copied s t
  copied s t h =
      copied_in (out-Stmt s) s t h.number refl (subst (λ (x : Flagging). Within h.number x.flags) (flagging-out s) h.within) (sym (is_below-out low s) ∙ h.names) (h.becomes ∙ ap (λ (x : Flagging). x.becomes h.number) (flagging-out s))

  -- ---- cases

  bodies_copies : (cs ds : List Case) → CaseCopies cs ds → Copies (bodies cs) (bodies ds)
  bodies_copies [] [] h = tt
  bodies_copies (c ∷ cs) (d ∷ ds) h = copies-append (out-Case c).body (out-Case d).body (bodies cs) (bodies ds) (case_body c d h.0).body (bodies_copies cs ds h.1)
  bodies_copies [] (d ∷ ds) h = absurd h
  bodies_copies (c ∷ cs) [] h = absurd h

  -- what is found in both
  abbrev pub FoundCopies : Option (ℕ × List Stmt) → Option (ℕ × List Stmt) → Type 0
  FoundCopies None None = Unit {0}
  FoundCopies (Some x) (Some y) = Copies x.1 y.1
  FoundCopies None (Some y) = ⊥
  FoundCopies (Some x) None = ⊥

  from_copies : (has : List (Option ℤ) → Bool) (cs ds : List Case) (i j : ℕ) → CaseCopies cs ds → FoundCopies (from_label has i cs) (from_label has j ds)
  from_copies has [] [] i j h = tt
  from_copies has (c ∷ cs) (d ∷ ds) i j h =
      subst (λ (b : Bool). FoundCopies (if has (out-Case c).labels then Some (i, bodies (c ∷ cs)) else from_label has (i + length (out-Case c).body) cs) (if b then Some (j, bodies (d ∷ ds)) else from_label has (j + length (out-Case d).body) ds))
      (sym (ap has (case_body c d h.0).labels)) (either (from_copies has cs ds (i + length (out-Case c).body) (j + length (out-Case d).body) h.1) (has (out-Case c).labels))
    where
      either : FoundCopies (from_label has (i + length (out-Case c).body) cs) (from_label has (j + length (out-Case d).body) ds) → (b : Bool) →
          FoundCopies (if b then Some (i, bodies (c ∷ cs)) else from_label has (i + length (out-Case c).body) cs) (if b then Some (j, bodies (d ∷ ds)) else from_label has (j + length (out-Case d).body) ds)
      either k true = bodies_copies (c ∷ cs) (d ∷ ds) h
      either k false = k
  from_copies has [] (d ∷ ds) i j h = absurd h
  from_copies has (c ∷ cs) [] i j h = absurd h

  or_copies : (x y x' y' : Option (ℕ × List Stmt)) → FoundCopies x x' → FoundCopies y y' → FoundCopies (option_or x y) (option_or x' y')
  or_copies None y None y' h k = k
  or_copies (Some x) y (Some x') y' h k = h
  or_copies None y (Some x') y' h k = absurd h
  or_copies (Some x) y None y' h k = absurd h

  pub found_copies : (v : ℤ) (cs ds : List Case) → CaseCopies cs ds → FoundCopies (found_case v cs) (found_case v ds)
  found_copies v cs ds h =
      or_copies (from_label (list_any (is_label v)) 0 cs) (from_label (list_any is_default) 0 cs) (from_label (list_any (is_label v)) 0 ds) (from_label (list_any is_default) 0 ds)
      (from_copies (list_any (is_label v)) cs ds 0 0 h) (from_copies (list_any is_default) cs ds 0 0 h)

-- each flag of a copied statement is the function's
pub is_function_flag : (p : Program) (f : ℕ) (g : Func) (n : ℕ) → slice_get p.funcs f ≡ Some g → first g ≤ n → n < first g + flags_of g.body → is_flag p f n ≡ true
is_function_flag p f g n e h k =
    ap (λ (o : Option Func). flag_in o n) e ∙ ap (λ (b : Bool). b && nat_lt n (first g + flags_of g.body)) (le-leb (first g) n h) ∙ lt-ltb n (first g + flags_of g.body) k
