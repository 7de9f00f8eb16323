-- Statements of a program in normal form whose accesses of coded slots go to words. Each stands for a point, and that of a statement is in
-- front of those of the statements inside it. Its temporaries are numbered through the whole body, in the order of the lists.
use Rattle.std.specs.Prelude.{ℕ, suc, ℤ, Bool, List, [], ◌∷◌, map, Option, Some, None, option_and_then}
use Rattle.cc_lower_expressions.specs.Expressions.{Piece, piece, Make, done, ◌>>=◌, emit}
use Rattle.cc_program.specs.declared.expr.Expr.{Expr}
use Rattle.cc_program.specs.declared.expr.Place.{Place}
use Rattle.cc_program.specs.declared.func.Func.{Func}
use Rattle.cc_program.specs.declared.program.Program.{Program}
use Rattle.cc_program.specs.declared.stmt.Case.{Case, roll-Case}
use Rattle.cc_program.specs.declared.stmt.Stmt.{Stmt, If, While, DoWhile, For, Switch, Break, Continue, Return, Empty, Block, Do, fold-Stmt}
use Rattle.cc_program.specs.declared.stmt.Stmt.TheOpen as is
use Rattle.cc_rewrite_codes.specs.Accesses.{read_of, write_of}
use Rattle.cc_rewrite_codes.specs.Homes.{Home}
use Rattle.cc_state_points.specs.CcRulesFlows.Acts.{Act, Sets, Reads, Writes, Calls, Saves, Turns, Restores, Tests, Chooses, Returns, Passes, does}
use Rattle.cc_program.specs.declared.expr.Expr.{out-Expr}
use Rattle.cc_slots_types.specs.declared.slot.Slot.{Slot}
use Rattle.cc_state_points.specs.CcStateFacts.declared.facts.Key.{Key}
use Rattle.cc_state_points.specs.CcStateKeys.Addressed.{in_place}

-- statements from a point on, with the point behind them
abbrev pub Coder : Type 0 → Type 0
Coder A = ℕ → Make (A × ℕ)

abbrev pub alone : Stmt → Coder (Unit {0})
alone s point = emit s >>= (λ u. done (tt, suc point))

abbrev pub in_turn : List (Coder (Unit {0})) → Coder (Unit {0})
in_turn [] point = done (tt, point)
in_turn (c ∷ cs) point = c point >>= (λ x. in_turn cs x.1)

-- the statements that are made, as a list
abbrev pub listed : {A : Type 0} → Piece (Unit {0} × A) → Piece (List Stmt × A)
listed x = piece x.temps [] (x.stmts, x.value.1)

abbrev pub inside : List (Coder (Unit {0})) → Coder (List Stmt)
inside cs point k = listed (in_turn cs point k)

abbrev pub all_inside : List (Coder Case) → Coder (List Case)
all_inside [] point = done ([], point)
all_inside (c ∷ cs) point = c point >>= (λ x. all_inside cs x.1 >>= (λ y. done (x.0 ∷ y.0, y.1)))

abbrev pub around : (List Stmt → Stmt) → List (Coder (Unit {0})) → Coder (Unit {0})
around f cs point = inside cs (suc point) >>= (λ x. emit (f x.0) >>= (λ u. done (tt, x.1)))

-- a statement with lists inside, the points of which are numbered one after the other
abbrev pub around_two : (List Stmt → List Stmt → Stmt) → List (Coder (Unit {0})) → List (Coder (Unit {0})) → Coder (Unit {0})
around_two f cs ds point = inside cs (suc point) >>= (λ x. inside ds x.1 >>= (λ y. emit (f x.0 y.0) >>= (λ u. done (tt, y.1))))

abbrev pub around_cases : (List Case → Stmt) → List (Coder Case) → Coder (Unit {0})
around_cases f cases point = all_inside cases (suc point) >>= (λ x. emit (f x.0) >>= (λ u. done (tt, x.1)))

abbrev pub case_around : List (Option ℤ) → List (Coder (Unit {0})) → Coder Case
case_around labels cs point = inside cs point >>= (λ x. done (roll-Case (record { labels = labels; body = x.0 }), x.1))

-- the homes of the coded slots, and at which points handlers may write, and may read or write, one of some slots
module _ (p : Program) (id : ℕ) (f : Func) (home : Key → Option Home) (written touched : ℕ → List Slot → Bool) where
  abbrev pub home_at : Place → Option Home
  home_at a = option_and_then home (in_place p id f a).own

  abbrev pub read_from : Option Home → ℕ → Place → ℕ → Stmt → Make (Unit {0})
  read_from None r a point s = emit s
  read_from (Some h) r a point s = read_of p f (written point) (touched point) h a r

  abbrev pub written_to : Option Home → Place → Expr → ℕ → Stmt → Make (Unit {0})
  written_to None a e point s = emit s
  written_to (Some h) a e point s = write_of p f (written point) (touched point) h a e

  abbrev pub coded_act : Act → ℕ → Stmt → Make (Unit {0})
  coded_act (Reads r a) point s = read_from (home_at a) r a point s
  coded_act (Writes a e) point s = written_to (home_at a) a e point s
  coded_act (Sets r e) point s = emit s
  coded_act (Calls r g args) point s = emit s
  coded_act (Saves r) point s = emit s
  coded_act (Turns to) point s = emit s
  coded_act (Restores e) point s = emit s
  coded_act (Tests e these those) point s = emit s
  coded_act (Chooses e cases) point s = emit s
  coded_act (Returns e) point s = emit s
  coded_act Passes point s = emit s

  abbrev pub coded_do : Expr → Coder (Unit {0})
  coded_do e point = coded_act (does f (out-Expr e)) point (Do e) >>= (λ u. done (tt, suc point))

  abbrev pub coded_in : is.Stmt-F (Coder (Unit {0})) (Coder Case) → Coder (Unit {0})
  coded_in (is.Do e) = coded_do e
  coded_in (is.If e these those) = around_two (If e) these those
  coded_in (is.While e body) = around (While e) body
  coded_in (is.DoWhile body e) = around (λ s. DoWhile s e) body
  coded_in (is.For first test again body) = around (For first test again) body
  coded_in (is.Switch e cases) = around_cases (Switch e) cases
  coded_in is.Break = alone Break
  coded_in is.Continue = alone Continue
  coded_in (is.Return e) = alone (Return e)
  coded_in is.Empty = alone Empty
  coded_in (is.Block body) = around Block body

  abbrev pub coded_case_in : is.Case-F (Coder (Unit {0})) (Coder Case) → Coder Case
  coded_case_in c = case_around c.labels c.body

  unfoldable pub coded : Stmt → Coder (Unit {0})
  coded s = fold-Stmt (Coder (Unit {0})) (Coder Case) coded_in coded_case_in s

  abbrev pub coded_list : List Stmt → Coder (Unit {0})
  coded_list list = in_turn (map coded list)
