-- What a statement of each kind becomes, as the code makes it.
use Rattle.std.proofs.Common.{◌≡◌, ◌+◌, ◌==◌, ℕ, Bool, true, false, List, [], ◌∷◌, ◌++◌, length, Option, Some, None, refl, ap, sym, ◌∙◌, append_assoc, arith}
use Rattle.std.proofs.lemmas.Bool.{eqb-true, eqb-false}
use Rattle.std.proofs.lemmas.List.{append-nil}
use Rattle.cc_program.specs.declared.expr.Expr.{Expr}
use Rattle.cc_program.specs.declared.func.Func.{Func}
use Rattle.cc_program.specs.declared.program.Program.{Program}
use Rattle.cc_program.specs.declared.stmt.Case.{Case}
use Rattle.cc_program.specs.declared.stmt.Stmt.{Stmt, Do, If, While, DoWhile, For, Switch, Break, Continue, Return, Empty, Block, out-Stmt, map-Stmt, fold_out-Stmt}
use Rattle.cc_program.specs.declared.stmt.Stmt.TheVariants.{outs-Do, outs-If, outs-While, outs-DoWhile, outs-For, outs-Switch, outs-Break, outs-Continue, outs-Return, outs-Empty, outs-Block}
use Rattle.cc_program.specs.declared.stmt.Stmt.TheOpen as is
use Rattle.cc_eval.specs.CcSyntax.Effects.{no_one}
use Rattle.cc_lower_expressions.specs.Expressions.{Temps, Piece, piece, Make}
use Rattle.cc_lower_accesses.specs.Modes.{as_locals, operand_of, effect_of}
use Rattle.cc_lower_expressions.specs.Statements.{lower_in, lower_case_in, lower, lower_case}
use Rattle.cc_lower_accesses.proofs.AccessRules.{locals-append, locals-length}
use Rattle.cc_lower_accesses.proofs.Opened.{none-behind}
use Rattle.cc_eval.specs.CcSyntax.Types.{Named}
use Rattle.cc_lower_bodies.specs.Conditions.{Guarding, nest, conditions_of}
use Rattle.cc_lower_bodies.specs.Lists.{list_made, cases_made, guarded_of, forked_of}
use Rattle.cc_lower_bodies.proofs.ConditionLemmas.{guard-is}
use Rattle.cc_lower_bodies.proofs.ListLemmas.{cases-no-statements}

module _ (p : Program) (f : Func) where
  abbrev layer : is.Stmt-F Stmt Case → Make (Unit {0})
  layer x = lower_in p f (map-Stmt Stmt Case (Make (Unit {0})) (Make Case) (lower p f) (lower_case p f) x)

  lower-at : (s : Stmt) (x : is.Stmt-F Stmt Case) → out-Stmt s ≡ x → (k : ℕ) → lower p f s k ≡ layer x k
  unfolding lower lower_case
  lower-at s x h k = ap (λ (m : Make (Unit {0})). m k) (fold_out-Stmt (Make (Unit {0})) (Make Case) (lower_in p f) (lower_case_in p f) s ∙ ap layer h)

  pub lower-Do : (e : Expr) (k : ℕ) → lower p f (Do e) k ≡ effect_of p f e no_one k
  unfolding effect_of
  lower-Do e k = lower-at (Do e) (is.Do e) (outs-Do e) k

  lower-If-alone : (e : Expr) (these : List Stmt) (k : ℕ) → lower p f (If e these []) k ≡ guarded_of p f e these k
  unfolding guarded_of
  lower-If-alone e these k = lower-at (If e these []) (is.If e these []) (outs-If e these []) k

  lower-If : (e : Expr) (these : List Stmt) (s : Stmt) (rest : List Stmt) (k : ℕ) → lower p f (If e these (s ∷ rest)) k ≡ forked_of p f e these (s ∷ rest) k
  unfolding forked_of operand_of
  lower-If e these s rest k = lower-at (If e these (s ∷ rest)) (is.If e these (s ∷ rest)) (outs-If e these (s ∷ rest)) k

  pub lower-If-empty : (e : Expr) (these those : List Stmt) (k : ℕ) → (length those == 0) ≡ true → lower p f (If e these those) k ≡ guarded_of p f e these k
  lower-If-empty e these [] k h = lower-If-alone e these k
  lower-If-empty e these (s ∷ rest) k h = absurd (omega (arith, eqb-true (length (s ∷ rest)) 0 h))

  lower-If-some : (e : Expr) (these those : List Stmt) (k : ℕ) → (length those == 0) ≡ false → lower p f (If e these those) k ≡ forked_of p f e these those k
  lower-If-some e these [] k h = absurd (eqb-false 0 0 h refl)
  lower-If-some e these (s ∷ rest) k h = lower-If e these s rest k

  pub lower-While : (e : Expr) (body : List Stmt) (k : ℕ) → lower p f (While e body) k ≡ (let x = list_made p f body k in piece x.temps (While e x.stmts ∷ []) tt)
  unfolding list_made
  lower-While e body k = lower-at (While e body) (is.While e body) (outs-While e body) k

  pub lower-DoWhile : (body : List Stmt) (e : Expr) (k : ℕ) → lower p f (DoWhile body e) k ≡ (let x = list_made p f body k in piece x.temps (DoWhile x.stmts e ∷ []) tt)
  unfolding list_made
  lower-DoWhile body e k = lower-at (DoWhile body e) (is.DoWhile body e) (outs-DoWhile body e) k

  pub lower-For : (first test again : Option Expr) (body : List Stmt) (k : ℕ) →
      lower p f (For first test again body) k ≡ (let x = list_made p f body k in piece x.temps (For first test again x.stmts ∷ []) tt)
  unfolding list_made
  lower-For first test again body k = lower-at (For first test again body) (is.For first test again body) (outs-For first test again body) k

  pub lower-Switch : (e : Expr) (cases : List Case) (k : ℕ) →
      lower p f (Switch e cases) k ≡
      (let x = operand_of p f e no_one k in let y = cases_made p f cases (k + length x.temps) in piece (x.temps ++ y.temps) (x.stmts ++ Switch x.value y.value ∷ []) tt)
  unfolding operand_of cases_made
  lower-Switch e cases k =
      let x = operand_of p f e no_one k in let y = cases_made p f cases (k + length x.temps) in
      lower-at (Switch e cases) (is.Switch e cases) (outs-Switch e cases) k ∙
      ap (λ (ts : Temps). piece (x.temps ++ ts) (x.stmts ++ (y.stmts ++ Switch x.value y.value ∷ [])) tt) (append-nil y.temps) ∙
      ap (λ (ss : List Stmt). piece (x.temps ++ y.temps) (x.stmts ++ (ss ++ Switch x.value y.value ∷ [])) tt) (cases-no-statements p f cases (k + length x.temps))

  pub lower-Break : (k : ℕ) → lower p f Break k ≡ piece [] (Break ∷ []) tt
  lower-Break k = lower-at Break is.Break outs-Break k

  pub lower-Continue : (k : ℕ) → lower p f Continue k ≡ piece [] (Continue ∷ []) tt
  lower-Continue k = lower-at Continue is.Continue outs-Continue k

  pub lower-Return-None : (k : ℕ) → lower p f (Return None) k ≡ piece [] (Return None ∷ []) tt
  lower-Return-None k = lower-at (Return None) (is.Return None) (outs-Return None) k

  pub lower-Return-Some : (e : Expr) (k : ℕ) → lower p f (Return (Some e)) k ≡ (let x = operand_of p f e no_one k in piece x.temps (x.stmts ++ Return (Some x.value) ∷ []) tt)
  unfolding operand_of
  lower-Return-Some e k =
      lower-at (Return (Some e)) (is.Return (Some e)) (outs-Return (Some e)) k ∙
      (let x = operand_of p f e no_one k in none-behind x.temps (x.stmts ++ Return (Some x.value) ∷ []) tt)

  pub lower-Empty : (k : ℕ) → lower p f Empty k ≡ piece [] (Empty ∷ []) tt
  lower-Empty k = lower-at Empty is.Empty outs-Empty k

  pub lower-Block : (body : List Stmt) (k : ℕ) → lower p f (Block body) k ≡ (let x = list_made p f body k in piece x.temps (Block x.stmts ∷ []) tt)
  unfolding list_made
  lower-Block body k = lower-at (Block body) (is.Block body) (outs-Block body) k

  pub guarded-is : (e : Expr) (these : List Stmt) (k : ℕ) →
      guarded_of p f e these k ≡
      (let x = conditions_of p f e no_one k in let y = list_made p f these (k + length x.temps) in piece (x.temps ++ y.temps) (nest x.value y.stmts) tt)
  unfolding guarded_of list_made
  guarded-is e these k = guard-is p f e no_one (list_made p f these) k

  forked-is : (e : Expr) (these those : List Stmt) (k : ℕ) →
      forked_of p f e these those k ≡
      (let x = operand_of p f e no_one k in let n = k + length x.temps in let y = list_made p f these n in let z = list_made p f those (n + length y.temps) in
      piece (x.temps ++ (y.temps ++ z.temps)) (x.stmts ++ If x.value y.stmts z.stmts ∷ []) tt)
  unfolding forked_of list_made
  forked-is e these those k = refl

  -- as the code makes them, behind what was made before
  pub guarded-stmts : (e : Expr) (these : List Stmt) (l m : List Named) (none cs : List Guarding) (made : List Stmt) →
      none ≡ [] → cs ≡ none ++ (conditions_of p f e no_one (length l)).value → m ≡ l ++ as_locals (conditions_of p f e no_one (length l)).temps →
      made ≡ (list_made p f these (length m)).stmts → nest cs made ≡ (guarded_of p f e these (length l)).stmts
  guarded-stmts e these l m none cs made is-none values locals is =
      let k = length l in let x = conditions_of p f e no_one k in
      let count : length m ≡ k + length x.temps = ap (λ (it : List Named). length it) locals ∙ locals-length l x.temps in
      ap (λ (c : List Guarding). nest c made) (values ∙ ap (λ (c : List Guarding). c ++ x.value) is-none) ∙
      ap (λ (t : List Stmt). nest x.value t) (is ∙ ap (λ (j : ℕ). (list_made p f these j).stmts) count) ∙ sym (ap (λ (z : Piece (Unit {0})). z.stmts) (guarded-is e these k))

  pub switch-stmts : (e : Expr) (cases : List Case) (l m : List Named) (o n : List Stmt) (v : Expr) (made : List Case) →
      v ≡ (operand_of p f e no_one (length l)).value → m ≡ l ++ as_locals (operand_of p f e no_one (length l)).temps → n ≡ o ++ (operand_of p f e no_one (length l)).stmts →
      made ≡ (cases_made p f cases (length m)).value → n ++ Switch v made ∷ [] ≡ o ++ (lower p f (Switch e cases) (length l)).stmts
  switch-stmts e cases l m o n v made value locals stmts is =
      let k = length l in let x = operand_of p f e no_one k in let y = cases_made p f cases (k + length x.temps) in
      let count : length m ≡ k + length x.temps = ap (λ (it : List Named). length it) locals ∙ locals-length l x.temps in
      ap (λ (r : List Stmt). r ++ Switch v made ∷ []) stmts ∙ ap (λ (w : Expr). (o ++ x.stmts) ++ Switch w made ∷ []) value ∙
      ap (λ (w : List Case). (o ++ x.stmts) ++ Switch x.value w ∷ []) (is ∙ ap (λ (j : ℕ). (cases_made p f cases j).value) count) ∙
      append_assoc o x.stmts (Switch x.value y.value ∷ []) ∙ sym (ap (λ (z : Piece (Unit {0})). o ++ z.stmts) (lower-Switch e cases k))

  pub return-stmts : (o : Option Expr) (e e' : Expr) (k : ℕ) (v w : Expr) (q n r : List Stmt) →
      o ≡ Some e → e' ≡ e → v ≡ (operand_of p f e' no_one k).value → w ≡ v → n ≡ q ++ (operand_of p f e' no_one k).stmts → r ≡ n ++ Return (Some w) ∷ [] →
      r ≡ q ++ (lower p f (Return o) k).stmts
  return-stmts o e e' k v w q n r is is-e value same stmts last =
      let x = operand_of p f e' no_one k in
      last ∙ ap (λ (it : List Stmt). it ++ Return (Some w) ∷ []) stmts ∙ ap (λ (i : Expr). (q ++ x.stmts) ++ Return (Some i) ∷ []) (same ∙ value) ∙
      append_assoc q x.stmts (Return (Some x.value) ∷ []) ∙
      sym (ap (λ (z : Piece (Unit {0})). q ++ z.stmts)
      (ap (λ (i : Option Expr). lower p f (Return i) k) is ∙ ap (λ (i : Expr). lower p f (Return (Some i)) k) (sym is-e) ∙ lower-Return-Some e' k))

  pub fork-made : (s : Stmt) (e e' : Expr) (these those all : List Stmt) (b : Bool) (l m n r : List Named) (o q w : List Stmt) (v : Expr) (made other : List Stmt) →
      s ≡ If e these those → e' ≡ e → all ≡ those → b ≡ (length all == 0) → b ≡ false →
      v ≡ (operand_of p f e' no_one (length l)).value → m ≡ l ++ as_locals (operand_of p f e' no_one (length l)).temps → q ≡ o ++ (operand_of p f e' no_one (length l)).stmts →
      made ≡ (list_made p f these (length m)).stmts → n ≡ m ++ as_locals (list_made p f these (length m)).temps →
      other ≡ (list_made p f those (length n)).stmts → r ≡ n ++ as_locals (list_made p f those (length n)).temps → w ≡ q ++ If v made other ∷ [] →
      (r ≡ l ++ as_locals (lower p f s (length l)).temps) × (w ≡ o ++ (lower p f s (length l)).stmts)
  fork-made s e e' these those all b l m n r o q w v made other is is-e is-all tests fails value locals stmts first behind second last put =
      let k = length l in let x = operand_of p f e' no_one k in let a = k + length x.temps in
      let y = list_made p f these a in let z = list_made p f those (a + length y.temps) in
      let some : (length those == 0) ≡ false = sym (ap (λ (it : List Stmt). length it == 0) is-all) ∙ sym tests ∙ fails in
      let whole : lower p f s k ≡ piece (x.temps ++ (y.temps ++ z.temps)) (x.stmts ++ If x.value y.stmts z.stmts ∷ []) tt =
      ap (λ (i : Stmt). lower p f i k) is ∙ ap (λ (i : Expr). lower p f (If i these those) k) (sym is-e) ∙ lower-If-some e' these those k some ∙ forked-is e' these those k in
      let count : length m ≡ a = ap (λ (it : List Named). length it) locals ∙ locals-length l x.temps in
      let these-same : list_made p f these (length m) ≡ y = ap (λ (j : ℕ). list_made p f these j) count in
      let next : length n ≡ a + length y.temps =
      ap (λ (it : List Named). length it) behind ∙ locals-length m (list_made p f these (length m)).temps ∙
      ap (λ (c : ℕ). c + length (list_made p f these (length m)).temps) count ∙ ap (λ (t : Piece (Unit {0})). a + length t.temps) these-same in
      let those-same : list_made p f those (length n) ≡ z = ap (λ (j : ℕ). list_made p f those j) next in (
        last ∙ ap (λ (t : Piece (Unit {0})). n ++ as_locals t.temps) those-same ∙
            ap (λ (it : List Named). it ++ as_locals z.temps) (behind ∙ ap (λ (t : Piece (Unit {0})). m ++ as_locals t.temps) these-same) ∙
            ap (λ (it : List Named). (it ++ as_locals y.temps) ++ as_locals z.temps) locals ∙
            append_assoc (l ++ as_locals x.temps) (as_locals y.temps) (as_locals z.temps) ∙ append_assoc l (as_locals x.temps) (as_locals y.temps ++ as_locals z.temps) ∙
            sym (ap (λ (it : List Named). l ++ it) (locals-append x.temps (y.temps ++ z.temps) ∙ ap (λ (it : List Named). as_locals x.temps ++ it) (locals-append y.temps z.temps))) ∙
            sym (ap (λ (t : Piece (Unit {0})). l ++ as_locals t.temps) whole),
        put ∙ ap (λ (it : List Stmt). it ++ If v made other ∷ []) stmts ∙ ap (λ (i : Expr). (o ++ x.stmts) ++ If i made other ∷ []) value ∙
            ap (λ (it : List Stmt). (o ++ x.stmts) ++ If x.value it other ∷ []) (first ∙ ap (λ (t : Piece (Unit {0})). t.stmts) these-same) ∙
            ap (λ (it : List Stmt). (o ++ x.stmts) ++ If x.value y.stmts it ∷ []) (second ∙ ap (λ (t : Piece (Unit {0})). t.stmts) those-same) ∙
            append_assoc o x.stmts (If x.value y.stmts z.stmts ∷ []) ∙ sym (ap (λ (t : Piece (Unit {0})). o ++ t.stmts) whole),
      )

pub ruleset statement_rules = (lower-Do, lower-If-empty, lower-While, lower-DoWhile, lower-For, lower-Break, lower-Continue, lower-Empty, lower-Block)

pub ruleset choice_rules = (guarded-is, lower-Switch)

pub ruleset return_rules = (lower-Return-None, lower-Return-Some)
