-- Lines that show the cases of a `switch` are typed to them: labels stand round the first statement of a case, and others
-- behind it.
use Rattle.std.specs.Prelude.{ℤ}
use Rattle.std.proofs.Common.{◌≡◌, ℕ, Bool, true, false, not, ◌&&◌, ◌||◌, List, [], ◌∷◌, ◌++◌, map, Option, Some, None, Ok, refl, ap, sym, ◌∙◌, append_assoc, append-nil}
use Rattle.std.specs.List.{list_all, list_any}
use Rattle.std.proofs.lemmas.Cmp.{int_eq_equiv}
use Rattle.std.proofs.lemmas.List.Folds.{list_any-append}
use Rattle.cc_type.specs.CcDesignators.Designators.{TypedExpr, IsValue}
use Rattle.cc_program.specs.CcNum.Integers.{is_value_of}
use Rattle.cc_program.specs.CcNum.Promotions.{promoted}
use Rattle.cc_program.specs.CcNum.declared.int_type.IntType.{IntType}
use Rattle.cc_program.proofs.CcNum.Conversions.{converted-same}
use Rattle.cc_program.proofs.CcNum.ResultLaws.{value_from_test}
use Rattle.cc_shown_expressions.proofs.ChoiceRules.{constancy-of}
use Rattle.cc_shown_expressions.proofs.Rules.{with-scalar, promoted-is, same-conversion}
use Rattle.cc_type.specs.CcOperands.Operands.{Operand, integer, converted_to}
use Rattle.cc_type.specs.CcOperands.Verdicts.{Judged, must, judge_then}
use Rattle.cc_type.specs.CcOperands.declared.rule.Rule.TheVariants as rule
use Rattle.cc_type.specs.CcTypedTerms.Values.{valued}
use Rattle.cc_program.specs.declared.expr.Expr.{Expr}
use Rattle.cc_program.specs.declared.func.Func.{Func}
use Rattle.cc_program.specs.declared.program.Program.{Program}
use Rattle.cc_program.specs.declared.stmt.Case.{Case, out-Case, roll-Case, out-roll-Case}
use Rattle.cc_program.specs.declared.stmt.Stmt.{Stmt, Empty, Switch, out-Stmt}
use Rattle.cc_program.specs.declared.stmt.Stmt.TheOpen as is
use Rattle.cc_program.specs.declared.types.CType.{CType}
use Rattle.cc_type.specs.CcScopes.State.{State, Name}
use Rattle.cc_type.specs.CcScopes.Verdicts.{Found, whole, and_then}
use Rattle.cc_type.specs.CcSyntax.Folding.{Constant}
use Rattle.cc_type.specs.CcSyntax.Operators.{is_promoted}
use Rattle.cc_type.specs.CcSyntax.Statements.{same_label, are_apart, label_fits}
use Rattle.cc_type.specs.CcSyntax.Statements.{has_label as has_some}
use Rattle.cc_type.specs.CcSyntax.Values.{Integer}
use Rattle.cc_type.proofs.CcSyntax.Prefixes.{both_true}
use Rattle.cc_type.specs.CcTerms.InTurn.{in_turn}
use Rattle.cc_type.specs.CcTerms.Terms.{tree_of}
use Rattle.cc_tree.specs.declared.at.At.{At}
use Rattle.cc_tree.specs.declared.tree.Tree.{Tree}
use Rattle.cc_tree.specs.declared.unit.Line as line
use Rattle.cc_tree.specs.declared.unit.Line.{Line, out-Line, map-Line}
use Rattle.cc_tree.specs.declared.unit.Line.TheOpen as one_line
use Rattle.cc_tree.specs.declared.unit.Line.TheVariants as line_rolls
use Rattle.cc_type.specs.CcTypedBodies.Lines.{label_found, case_found, switch_found, line_step}
use Rattle.cc_type.specs.CcTypedBodies.Meanings.{LineMeaning, item_found, items_found, cases_inside, switch_body, is_empty, counts, unlabelled}
use Rattle.cc_type.specs.CcTypedBodies.Parts.{value_here}
use Rattle.cc_type.proofs.CcTypedBodies.Equations.{item-gives}
use Rattle.cc_type.specs.CcTypedStatements.Jumps.{in_switch}
use Rattle.cc_type.specs.CcTypedStatements.Labels.{at_last, with_label, labelled, with_statements, behind, behind_empty, has_label, once, label_in, case_label, label_done}
use Rattle.cc_type.specs.CcTypedStatements.Labels.{is_empty as no_cases}
use Rattle.cc_type.specs.CcTypedStatements.Switch.{switch_type, switch_of}
use Rattle.cc_type.specs.CcTypedStatements.declared.cases.Cases.{Cases}
use Rattle.cc_type.specs.CcTypedStatements.declared.jumps.Jumps.{Jumps}
use Rattle.cc_unit_trees.specs.Lines.{block, ShowsLabels, NoLabel, ACase, ADefault}
use Rattle.cc_shown_expressions.proofs.Constants.{integer-found}
use Rattle.cc_shown_effects.specs.Numbers.{stmt_numbered, case_numbered}
use Rattle.cc_shown_effects.proofs.Lines.{stmt-at}
use Rattle.cc_shown_expressions.specs.OperationNumbers.{Numbers}
use Rattle.cc_shown_expressions.specs.Typed.{IsTypedAs, operand_of}
use Rattle.cc_shown_effects.proofs.Levels.{case-numbered}
use Rattle.cc_shown_names.proofs.Lines.{is_statement, in_scope, scoped-found, meaning, meant, meaning-at, line-at, AreTyped, NoneTyped, MoreTyped, value-is}

-- ---- labels apart from one another

mirrored : (l m : Option ℤ) → same_label l m ≡ same_label m l
mirrored None None = refl
mirrored None (Some n) = refl
mirrored (Some m) None = refl
mirrored (Some m) (Some n) = int_eq_equiv.symm m n

not-true : (b : Bool) → not b ≡ true → b ≡ false
not-true true h = absurd (cc)
not-true false h = refl

neither : (a b : Bool) → a || b ≡ false → (a ≡ false) × (b ≡ false)
neither true b h = absurd (cc)
neither false b h = (refl, h)

none-of : (a b : Bool) → a ≡ false → b ≡ false → a || b ≡ false
none-of true b h k = absurd (cc)
none-of false b h k = k

or-false : (b : Bool) → b || false ≡ b
or-false true = refl
or-false false = refl

-- one of several that are apart is not among those before it
before-apart : (ls : List (Option ℤ)) (l : Option ℤ) (ms : List (Option ℤ)) → are_apart (ls ++ l ∷ ms) ≡ true → list_any (same_label l) ls ≡ false
before-apart [] l ms h = refl
before-apart (k ∷ ls) l ms h =
    let q = both_true (not (list_any (same_label k) (ls ++ l ∷ ms))) (are_apart (ls ++ l ∷ ms)) h in
    let a = not-true (list_any (same_label k) (ls ++ l ∷ ms)) q.0 in
    let b = neither (list_any (same_label k) ls) (same_label k l || list_any (same_label k) ms) (sym (list_any-append (same_label k) ls (l ∷ ms)) ∙ a) in
    let c = neither (same_label k l) (list_any (same_label k) ms) b.1 in
    none-of (same_label l k) (list_any (same_label l) ls) (mirrored l k ∙ c.0) (before-apart ls l ms q.1)

-- ---- cases up to a place

-- the labels that stand in some cases
abbrev pub HaveLabels : List Case → List (Option ℤ) → Type 0
HaveLabels cs ls = (l : Option ℤ) → list_any (has_label l) cs ≡ list_any (same_label l) ls

abbrev pub made_case : List (Option ℤ) → List Stmt → Case
made_case labels body = roll-Case (record { labels = labels; body = body })

-- behind a case, and behind labels of one
abbrev pub settled : List Case → Cases
settled cs = record { cases = cs; only_labels = false; statement_first = false }

abbrev pub with_labels : List Case → List (Option ℤ) → Cases
with_labels cs [] = settled cs
with_labels cs (l ∷ ls) = record { cases = cs ++ made_case (l ∷ ls) [] ∷ []; only_labels = true; statement_first = false }

last-changed : (change : Case → Case) (cs : List Case) (c : Case) → at_last change (cs ++ c ∷ []) ≡ cs ++ change c ∷ []
last-changed change [] c = refl
last-changed change (b ∷ []) c = refl
last-changed change (b ∷ d ∷ cs) c = ap (λ cs. b ∷ cs) (last-changed change (d ∷ cs) c)

label-added : (l : Option ℤ) (labels : List (Option ℤ)) (body : List Stmt) → with_label l (made_case labels body) ≡ made_case (labels ++ l ∷ []) body
label-added l labels body = ap (λ (c : is.Case-F Stmt Case). roll-Case (record { labels = c.labels ++ l ∷ []; body = c.body })) (out-roll-Case (record { labels = labels; body = body }))

statements-added : (ss : List Stmt) (labels : List (Option ℤ)) (body : List Stmt) → with_statements ss (made_case labels body) ≡ made_case labels (body ++ ss)
statements-added ss labels body = ap (λ (c : is.Case-F Stmt Case). roll-Case (record { labels = c.labels; body = c.body ++ ss })) (out-roll-Case (record { labels = labels; body = body }))

labelled-more : (cs : List Case) (here : List (Option ℤ)) (l : Option ℤ) → labelled l (with_labels cs here) ≡ with_labels cs (here ++ l ∷ [])
labelled-more cs [] l = refl
labelled-more cs (k ∷ here) l =
    ap (λ cs. record { cases = cs; only_labels = true; statement_first = false }) (last-changed (with_label l) cs (made_case (k ∷ here) []) ∙ ap (λ c. cs ++ c ∷ []) (label-added l (k ∷ here) []))

some-cases : (cs : List Case) (c : Case) → no_cases (cs ++ c ∷ []) ≡ false
some-cases [] c = refl
some-cases (b ∷ cs) c = refl

behind-case : (cs : List Case) (labels : List (Option ℤ)) (body ss : List Stmt) (only : Bool) →
    behind true ss (record { cases = cs ++ made_case labels body ∷ []; only_labels = only; statement_first = false }) ≡ settled (cs ++ made_case labels (body ++ ss) ∷ [])
behind-case cs labels body ss only =
    ap (λ (b : Bool). record { cases = at_last (with_statements ss) (cs ++ made_case labels body ∷ []); only_labels = false; statement_first = b && true }) (some-cases cs (made_case labels body))
    ∙ ap (λ cs. settled cs) (last-changed (with_statements ss) cs (made_case labels body) ∙ ap (λ c. cs ++ c ∷ []) (statements-added ss labels body))

-- ---- the labels that stand there

any-new : (l : Option ℤ) (labels : List (Option ℤ)) (body : List Stmt) → has_label l (made_case labels body) ≡ list_any (same_label l) labels
any-new l labels body = ap (λ (c : is.Case-F Stmt Case). list_any (same_label l) c.labels) (out-roll-Case (record { labels = labels; body = body }))

pub labels-behind : (cs : List Case) (done labels : List (Option ℤ)) (body : List Stmt) → HaveLabels cs done → HaveLabels (cs ++ made_case labels body ∷ []) (done ++ labels)
labels-behind cs done labels body h l =
    list_any-append (has_label l) cs (made_case labels body ∷ [])
    ∙ ap (λ b. b || (has_label l (made_case labels body) || false)) (h l)
    ∙ ap (λ b. list_any (same_label l) done || b) (or-false (has_label l (made_case labels body)) ∙ any-new l labels body)
    ∙ sym (list_any-append (same_label l) done labels)

labels-so-far : (cs : List Case) (done here : List (Option ℤ)) → HaveLabels cs done → HaveLabels (with_labels cs here).cases (done ++ here)
labels-so-far cs done [] h l = h l ∙ ap (list_any (same_label l)) (sym (append-nil done))
labels-so-far cs done (k ∷ here) h l = labels-behind cs done (k ∷ here) [] h l

module _ (p : Program) (f : Func) (n : Numbers) (defined : List Name) (result : CType) where
  abbrev means : Line → LineMeaning
  means l = meaning p n defined result l

  abbrev here_line : At Line → At LineMeaning
  here_line l = meant p n defined result l

  item-at : (l : Line) (y : one_line.Line-F Line) → out-Line l ≡ y → (j : Jumps) (t : IntType) (cases : Cases) (at : ℕ) (s : State) → (means l).item j t cases at s ≡ (line_step p.target p.roles defined result (map-Line Line LineMeaning means y)).item j t cases at s
  item-at l y h j t cases at s = ap (λ (m : LineMeaning). m.item j t cases at s) (meaning-at p n defined result l y h)

  switched-at : (l : Line) (y : one_line.Line-F Line) → out-Line l ≡ y → (j : Jumps) (t : IntType) (at : ℕ) (s : State) → (means l).switched j t at s ≡ (line_step p.target p.roles defined result (map-Line Line LineMeaning means y)).switched j t at s
  switched-at l y h j t at s = ap (λ (m : LineMeaning). m.switched j t at s) (meaning-at p n defined result l y h)

  -- ---- what has no label

  case-no-statement : (l : Line) → is_statement (out-Line l) ≡ true → (e : At Tree) (a : At Line) → l ≡ line.Case e a → ⊥
  case-no-statement l h e a k = let g : false ≡ true = sym (ap (λ l. is_statement (out-Line l)) k ∙ ap is_statement (line_rolls.outs-Case e a)) ∙ h in cc

  default-no-statement : (l : Line) → is_statement (out-Line l) ≡ true → (a : At Line) → l ≡ line.Default a → ⊥
  default-no-statement l h a k = let g : false ≡ true = sym (ap (λ l. is_statement (out-Line l)) k ∙ ap is_statement (line_rolls.outs-Default a)) ∙ h in cc

  statement-counts : (y : one_line.Line-F Line) → is_statement y ≡ true → (is_empty y ≡ false) × (counts y ≡ true)
  statement-counts (one_line.Block ls) h = (refl, refl)
  statement-counts (one_line.Decl d) h = absurd (cc)
  statement-counts (one_line.Expr None) h = absurd (cc)
  statement-counts (one_line.Expr (Some e)) h = (refl, refl)
  statement-counts (one_line.If e a b) h = (refl, refl)
  statement-counts (one_line.While e a) h = (refl, refl)
  statement-counts (one_line.DoWhile a e) h = (refl, refl)
  statement-counts (one_line.For first test step a) h = (refl, refl)
  statement-counts (one_line.Switch e a) h = (refl, refl)
  statement-counts (one_line.Case e a) h = absurd (cc)
  statement-counts (one_line.Default a) h = absurd (cc)
  statement-counts one_line.Break h = (refl, refl)
  statement-counts one_line.Continue h = (refl, refl)
  statement-counts (one_line.Return e) h = (refl, refl)

  unlabelled-is : (b c : Bool) (of : Jumps → ℕ → State → Found (List Stmt)) (j : Jumps) (cases : Cases) (at : ℕ) (s u : State) (ss : List Stmt) → b ≡ false → c ≡ true → of j at s ≡ Ok (ss, u) → unlabelled b c of j cases at s ≡ Ok (behind true ss cases, u)
  unfolding unlabelled
  unlabelled-is true c of j cases at s u ss h k g = absurd (cc)
  unlabelled-is false false of j cases at s u ss h k g = absurd (cc)
  unlabelled-is false true of j cases at s u ss h k g = ap (λ (r : Found (List Stmt)). and_then r (λ ss s. Ok (behind true ss cases, s))) g

  pub statement-item : (l : Line) (j : Jumps) (t : IntType) (cases : Cases) (at : ℕ) (s u : State) (ss : List Stmt) → is_statement (out-Line l) ≡ true → (means l).line j at s ≡ Ok (ss, u) → (means l).item j t cases at s ≡ Ok (behind true ss cases, u)
  statement-item l j t cases at s u ss h k =
      let q = statement-counts (out-Line l) h in
      item-gives p.target p.roles defined result l j t cases at (Ok (behind true ss cases)) s u (case-no-statement l h) (default-no-statement l h)
      (unlabelled-is (is_empty (out-Line l)) (counts (out-Line l)) (means l).line j cases at s u ss q.0 q.1 k)

  empty-is : (of : Jumps → ℕ → State → Found (List Stmt)) (j : Jumps) (cases : Cases) (at : ℕ) (s : State) → unlabelled true true of j cases at s ≡ Ok (behind_empty (Empty ∷ []) cases, s)
  unfolding unlabelled
  empty-is of j cases at s = refl

  pub empty-item : (j : Jumps) (t : IntType) (cases : Cases) (at : ℕ) (s : State) → (means (line.Expr None)).item j t cases at s ≡ Ok (behind_empty (Empty ∷ []) cases, s)
  empty-item j t cases at s = item-at (line.Expr None) (one_line.Expr None) (line_rolls.outs-Expr None) j t cases at s ∙ empty-is _ j cases at s

  -- ---- labels (6.8.1)

  once-is : (cases : Cases) (l : Option ℤ) → list_any (has_label l) cases.cases ≡ false → once cases l ≡ Ok l
  once-is cases l h = ap (λ b. must (not b) rule.CaseLabel (Ok l)) h

  integer-is : (s : State) (x : At Tree) (k : ℤ) (u : IntType) → tree_of p.target p.roles x.node x.at s ≡ Ok (IsValue (integer k u), s) → value_here p.target p.roles x s ≡ Ok (integer k u, s)
  unfolding value_here
  integer-is s x k u h = ap (λ (r : Found TypedExpr). and_then r (valued x.at)) h

  case-judged : (t : IntType) (k : ℤ) (u : IntType) (cases : Cases) → is_value_of t p.target k ≡ true → list_any (has_label (Some k)) cases.cases ≡ false → case_label p.target t (integer k u) cases ≡ Ok (Some k)
  case-judged t k u cases h g =
      ap (λ (c : Constant). judge_then (label_in p.target t c) (once cases)) (constancy-of p.target k u)
      ∙ ap (λ k. once cases (Some k)) (converted-same t p.target k (value_from_test t p.target k h))
      ∙ once-is cases (Some k) g

  label-found : (l : Option ℤ) (a : At LineMeaning) (j : Jumps) (t : IntType) (cases : Cases) (at : ℕ) (s u : State) (r : Cases) → a.node.item j t (labelled l cases) a.at s ≡ Ok (r, u) → label_found (Ok l) a j t cases at s ≡ Ok (r, u)
  unfolding label_found
  label-found l a j t cases at s u r h = ap (λ (m : Found Cases). and_then m (λ cases s. whole at s (label_done (Ok l) cases))) h

  case-found : (x : At Tree) (k : ℤ) (v : IntType) (a : At LineMeaning) (j : Jumps) (t : IntType) (cases : Cases) (at : ℕ) (s u : State) (r : Cases) → value_here p.target p.roles x s ≡ Ok (integer k v, s) →
      case_label p.target t (integer k v) cases ≡ Ok (Some k) → a.node.item j t (labelled (Some k) cases) a.at s ≡ Ok (r, u) → case_found p.target p.roles x a j t cases at s ≡ Ok (r, u)
  unfolding case_found
  case-found x k v a j t cases at s u r h g q =
      ap (λ (m : Found Operand). and_then m (λ x s. label_found (case_label p.target t x cases) a j t cases at s)) h
      ∙ ap (λ (l : Judged (Option ℤ)). label_found l a j t cases at s) g
      ∙ label-found (Some k) a j t cases at s u r q

  -- the labels of a case round what stands in it
  pub labels-found : (t : IntType) (inner : Line) (labels : List (Option ℤ)) (l : Line) → ShowsLabels p f t inner labels l → (j : Jumps) (s u : State) (r : Cases) (cs : List Case) (done here : List (Option ℤ)) → HaveLabels cs done →
      list_all (label_fits p.target t) labels ≡ true → are_apart (done ++ (here ++ labels)) ≡ true → ((at : ℕ) → (means inner).item j t (with_labels cs (here ++ labels)) at s ≡ Ok (r, u)) → (at : ℕ) → (means l).item j t (with_labels cs here) at s ≡ Ok (r, u)
  labels-found t inner _ _ NoLabel j s u r cs done here have fit apart h at = ap (λ ls. (means inner).item j t (with_labels cs ls) at s) (sym (append-nil here)) ∙ h at
  labels-found t inner _ _ (ACase k ls x l shown more) j s u r cs done here have fit apart h at =
      let q = both_true (is_value_of t p.target k) (list_all (label_fits p.target t) ls) fit in
      let i = integer-found p.target p.roles s k t x.node shown q.0 x.at in
      let v : value_here p.target p.roles x s ≡ Ok (integer k i.type, s) = integer-is s x k i.type i.is in
      let free : list_any (has_label (Some k)) (with_labels cs here).cases ≡ false =
      labels-so-far cs done here have (Some k) ∙ before-apart (done ++ here) (Some k) ls (ap are_apart (append_assoc done here (Some k ∷ ls)) ∙ apart) in
      item-at (line.Case x l) (one_line.Case x l) (line_rolls.outs-Case x l) j t (with_labels cs here) at s
      ∙ case-found x k i.type (here_line l) j t (with_labels cs here) at s u r v (case-judged t k i.type (with_labels cs here) q.0 free)
      (ap (λ c. (means l.node).item j t c l.at s) (labelled-more cs here (Some k))
      ∙ labels-found t inner ls l.node more j s u r cs done (here ++ Some k ∷ []) have q.1 (ap (λ ls. are_apart (done ++ ls)) (append_assoc here (Some k ∷ []) ls) ∙ apart)
      (λ at. ap (λ ls. (means inner).item j t (with_labels cs ls) at s) (append_assoc here (Some k ∷ []) ls) ∙ h at) l.at)
  labels-found t inner _ _ (ADefault ls l more) j s u r cs done here have fit apart h at =
      let free : list_any (has_label None) (with_labels cs here).cases ≡ false =
      labels-so-far cs done here have None ∙ before-apart (done ++ here) None ls (ap are_apart (append_assoc done here (None ∷ ls)) ∙ apart) in
      item-at (line.Default l) (one_line.Default l) (line_rolls.outs-Default l) j t (with_labels cs here) at s
      ∙ ap (λ (k : Judged (Option ℤ)). label_found k (here_line l) j t (with_labels cs here) at s) (once-is (with_labels cs here) None free)
      ∙ label-found None (here_line l) j t (with_labels cs here) at s u r
      (ap (λ c. (means l.node).item j t c l.at s) (labelled-more cs here None)
      ∙ labels-found t inner ls l.node more j s u r cs done (here ++ None ∷ []) have fit (ap (λ ls. are_apart (done ++ ls)) (append_assoc here (None ∷ []) ls) ∙ apart)
      (λ at. ap (λ ls. (means inner).item j t (with_labels cs ls) at s) (append_assoc here (None ∷ []) ls) ∙ h at) l.at)

  -- ---- the statements of a case behind its first

  abbrev pub items : Jumps → IntType → List (At Line) → Cases → State → Found Cases
  items j t ls cases s = in_turn (item_found j t) (map here_line ls) cases s

  pub items-more : (j : Jumps) (t : IntType) (l : At Line) (ls : List (At Line)) (cases r : Cases) (s u : State) → (means l.node).item j t cases l.at s ≡ Ok (r, u) → items j t (l ∷ ls) cases s ≡ items j t ls r u
  items-more j t l ls cases r s u h = ap (λ (m : Found Cases). and_then m (λ c s. items j t ls c s)) h

  pub statements-items : (j : Jumps) (t : IntType) (ss : List Stmt) (ls : List (At Line)) (s u : State) → AreTyped p n defined result j ss ls s u → (cs : List Case) (labels : List (Option ℤ)) (body : List Stmt) (rest : List (At Line)) →
      items j t (ls ++ rest) (settled (cs ++ made_case labels body ∷ [])) s ≡ items j t rest (settled (cs ++ made_case labels (body ++ map (stmt_numbered n) ss) ∷ [])) u
  statements-items j t _ _ _ _ (NoneTyped s) cs labels body rest = ap (λ xs. items j t rest (settled (cs ++ made_case labels xs ∷ [])) s) (sym (append-nil body))
  statements-items j t _ _ _ _ (MoreTyped x ss l ls s m u h k more) cs labels body rest =
      let now : List Stmt = stmt_numbered n x ∷ [] in
      items-more j t l (ls ++ rest) (settled (cs ++ made_case labels body ∷ [])) (settled (cs ++ made_case labels (body ++ now) ∷ [])) s m
      (statement-item l.node j t (settled (cs ++ made_case labels body ∷ [])) l.at s m now k (h l.at) ∙ ap (λ c. Ok (c, m)) (behind-case cs labels body now false))
      ∙ statements-items j t ss ls m u more cs labels (body ++ now) rest
      ∙ ap (λ xs. items j t rest (settled (cs ++ made_case labels xs ∷ [])) u) (append_assoc body now (map (stmt_numbered n) ss))

  -- ---- cases

  numbered-case : (c : Case) (body : List Stmt) → (out-Case c).body ≡ body → case_numbered n c ≡ made_case (out-Case c).labels (map (stmt_numbered n) body)
  numbered-case c body h = case-numbered n c ∙ ap (λ body. made_case (out-Case c).labels (map (stmt_numbered n) body)) h

  some-labels : (cs : List Case) (labels : List (Option ℤ)) (ss : List Stmt) → has_some labels ≡ true → behind true ss (with_labels cs labels) ≡ settled (cs ++ made_case labels ss ∷ [])
  some-labels cs [] ss h = absurd (cc)
  some-labels cs (l ∷ labels) ss h = behind-case cs (l ∷ labels) [] ss true

  empty-labels : (cs : List Case) (labels : List (Option ℤ)) → has_some labels ≡ true → behind_empty (Empty ∷ []) (with_labels cs labels) ≡ settled (cs ++ made_case labels [] ∷ [])
  empty-labels cs [] h = absurd (cc)
  empty-labels cs (l ∷ labels) h = behind-case cs (l ∷ labels) [] [] true

  pub empty-case : (t : IntType) (c : Case) (l : At Line) → (out-Case c).body ≡ [] → ShowsLabels p f t (line.Expr None) (out-Case c).labels l.node → (j : Jumps) (s : State) (cs : List Case) (done : List (Option ℤ)) → HaveLabels cs done →
      list_all (label_fits p.target t) (out-Case c).labels ≡ true → has_some (out-Case c).labels ≡ true → are_apart (done ++ (out-Case c).labels) ≡ true → (rest : List (At Line)) →
      items j t (l ∷ rest) (settled cs) s ≡ items j t rest (settled (cs ++ case_numbered n c ∷ [])) s
  empty-case t c l none shown j s cs done have fit some apart rest =
      let labels = (out-Case c).labels in
      let r = settled (cs ++ made_case labels [] ∷ []) in
      items-more j t l rest (settled cs) r s s
      (labels-found t (line.Expr None) labels l.node shown j s s r cs done [] have fit apart (λ at. empty-item j t (with_labels cs labels) at s ∙ ap (λ c. Ok (c, s)) (empty-labels cs labels some)) l.at)
      ∙ ap (λ c. items j t rest (settled (cs ++ c ∷ [])) s) (sym (numbered-case c [] none))

  pub full-case : (t : IntType) (c : Case) (x : Stmt) (ss : List Stmt) (inner : Line) (l : At Line) (ls : List (At Line)) → (out-Case c).body ≡ x ∷ ss → ShowsLabels p f t inner (out-Case c).labels l.node → is_statement (out-Line inner) ≡ true →
      (j : Jumps) (s m u : State) → ((at : ℕ) → (means inner).line j at s ≡ Ok (stmt_numbered n x ∷ [], m)) → AreTyped p n defined result j ss ls m u → (cs : List Case) (done : List (Option ℤ)) → HaveLabels cs done →
      list_all (label_fits p.target t) (out-Case c).labels ≡ true → has_some (out-Case c).labels ≡ true → are_apart (done ++ (out-Case c).labels) ≡ true → (rest : List (At Line)) →
      items j t (l ∷ (ls ++ rest)) (settled cs) s ≡ items j t rest (settled (cs ++ case_numbered n c ∷ [])) u
  full-case t c x ss inner l ls body shown plain j s m u first more cs done have fit some apart rest =
      let labels = (out-Case c).labels in
      let now : List Stmt = stmt_numbered n x ∷ [] in
      let r = settled (cs ++ made_case labels now ∷ []) in
      items-more j t l (ls ++ rest) (settled cs) r s m
      (labels-found t inner labels l.node shown j s m r cs done [] have fit apart
      (λ at. statement-item inner j t (with_labels cs labels) at s m now plain (first at) ∙ ap (λ c. Ok (c, m)) (some-labels cs labels now some)) l.at)
      ∙ statements-items j t ss ls m u more cs labels now rest
      ∙ ap (λ c. items j t rest (settled (cs ++ c ∷ [])) u) (sym (numbered-case c (x ∷ ss) body))

  -- ---- `switch` (6.8.4.2)

  cases-inside : (j : Jumps) (t : IntType) (ls : List (At Line)) (cs : List Case) (s u : State) → items j t ls (settled []) s ≡ Ok (settled cs, u) → cases_inside j t (map here_line ls) s ≡ Ok (Some (settled cs), u)
  unfolding cases_inside items_found
  cases-inside j t ls cs s u h = ap (λ (m : Found Cases). and_then m (λ cases s. Ok (Some cases, s))) h

  switched-block : (j : Jumps) (t : IntType) (ls : List (At Line)) (cs : List Case) (s u : State) → items j t ls (settled []) (in_scope s) ≡ Ok (settled cs, in_scope u) → (at : ℕ) → (means (line.Block ls)).switched j t at s ≡ Ok (Some (settled cs), u)
  switched-block j t ls cs s u h at =
      switched-at (line.Block ls) (one_line.Block ls) (line_rolls.outs-Block ls) j t at s
      ∙ scoped-found (λ s. cases_inside j t (map here_line ls) s) s u (Some (settled cs)) (cases-inside j t ls cs (in_scope s) (in_scope u) h)

  switched-body : (j : Jumps) (t : IntType) (i : ℕ) (ls : List (At Line)) (cs : List Case) (s u : State) → items j t ls (settled []) (in_scope (in_scope s)) ≡ Ok (settled cs, in_scope (in_scope u)) →
      switch_body j t (here_line (block i ls)) s ≡ Ok (Some (settled cs), u)
  switched-body j t i ls cs s u h = scoped-found (λ s. (means (line.Block ls)).switched j t i s) s u (Some (settled cs)) (switched-block j t ls cs (in_scope s) (in_scope u) h i)

  switch-found : (x : At Tree) (a : At LineMeaning) (j : Jumps) (at : ℕ) (s u : State) (y : Operand) (cases : Option Cases) → value_here p.target p.roles x s ≡ Ok (y, s) → switch_body (in_switch j) (switch_type p.target y.type) a s ≡ Ok (cases, u) →
      switch_found p.target p.roles x a j at s ≡ whole at u (switch_of p.target y cases)
  unfolding switch_found
  switch-found x a j at s u y cases h k =
      ap (λ (r : Found Operand). and_then r (λ x s. and_then (switch_body (in_switch j) (switch_type p.target x.type) a s) (λ cases s. whole at s (switch_of p.target x cases)))) h
      ∙ ap (λ (r : Found (Option Cases)). and_then r (λ cases s. whole at s (switch_of p.target y cases))) k

  switch-made : (y : Stmt) (e : Expr) (cases : List Case) (t : IntType) (at : ℕ) (u : State) → out-Stmt y ≡ is.Switch e cases → is_promoted p.target t ≡ true →
      whole at u (switch_of p.target (operand_of p n e (Integer t)) (Some (settled (map (case_numbered n) cases)))) ≡ Ok (stmt_numbered n y ∷ [], u)
  switch-made y e cases t at u o h =
      let x = operand_of p n e (Integer t) in
      let cs = map (case_numbered n) cases in
      ap (λ (j : Judged (List Stmt)). whole at u j) (with-scalar x (Ok (Switch (converted_to p.target (promoted t p.target) x).value cs ∷ [])) refl)
      ∙ ap (λ (t : IntType). Ok (Switch (converted_to p.target t x).value cs ∷ [], u)) (promoted-is p.target t h)
      ∙ ap (λ (x : Operand). Ok (Switch x.value cs ∷ [], u)) (same-conversion p.target t x refl)
      ∙ ap (λ (y : Stmt). Ok (y ∷ [], u)) (sym (stmt-at n y (is.Switch e cases) o))

  pub switch-line : (y : Stmt) (e : Expr) (cases : List Case) (x : At Tree) (i : ℕ) (ls : List (At Line)) (t : IntType) (j : Jumps) (s u : State) → out-Stmt y ≡ is.Switch e cases → is_promoted p.target t ≡ true →
      IsTypedAs p n (in_scope s) x.node x.at e (Integer t) → items (in_switch j) t ls (settled []) (in_scope (in_scope (in_scope s))) ≡ Ok (settled (map (case_numbered n) cases), in_scope (in_scope (in_scope u))) →
      (at : ℕ) → (means (line.Switch x (block i ls))).line j at s ≡ Ok (stmt_numbered n y ∷ [], u)
  switch-line y e cases x i ls t j s u o h q k at =
      let cs = map (case_numbered n) cases in
      line-at p n defined result (line.Switch x (block i ls)) (one_line.Switch x (block i ls)) (line_rolls.outs-Switch x (block i ls)) j at s
      ∙ scoped-found (λ s. switch_found p.target p.roles x (here_line (block i ls)) j at s) s u (stmt_numbered n y ∷ [])
      (switch-found x (here_line (block i ls)) j at (in_scope s) (in_scope u) (operand_of p n e (Integer t)) (Some (settled cs)) (value-is p n defined result (in_scope s) x e (Integer t) q)
      (ap (λ t. switch_body (in_switch j) t (here_line (block i ls)) (in_scope s)) (promoted-is p.target t h) ∙ switched-body (in_switch j) t i ls cs (in_scope s) (in_scope u) k)
      ∙ switch-made y e cases t at (in_scope u) o h)
