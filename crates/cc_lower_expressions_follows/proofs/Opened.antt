-- What expressions and places mean, opened at their tops.
use Rattle.std.proofs.Common.{◌≡◌, ℕ, ℤ, Bool, List, Option, ap, sym, ◌∙◌}
use Rattle.cc_program.specs.CcNum.declared.int_type.IntType.{IntType}
use Rattle.cc_program.specs.CcNum.declared.op.BinOp.{BinOp}
use Rattle.cc_program.specs.CcNum.declared.op.UnOp.{UnOp}
use Rattle.cc_program.specs.declared.expr.Expr.{Expr, Const, Null, FuncAddr, Load, AddrOf, Un, Bin, Conv, Qualify, Move, Gap, Compare, Assign, Call, Intr, roll-Expr, map-Expr}
use Rattle.cc_program.specs.declared.expr.Expr.TheVariants.{rolls-Const, rolls-Null, rolls-FuncAddr, rolls-Load, rolls-AddrOf, rolls-Un, rolls-Bin, rolls-Conv, rolls-Qualify, rolls-Move, rolls-Gap, rolls-Compare, rolls-Assign, rolls-Call, rolls-Intr}
use Rattle.cc_program.specs.declared.expr.Expr.TheOpen as one
use Rattle.cc_program.specs.declared.expr.Intr.{Intr as IntrKind}
use Rattle.cc_program.specs.declared.expr.Place.{Place, Local, Element, Member, Deref, roll-Place, map-Place}
use Rattle.cc_program.specs.declared.expr.Place.TheVariants.{rolls-Local, rolls-Element, rolls-Member, rolls-Deref}
use Rattle.cc_program.specs.declared.stmt.Stmt.{Stmt, Do, If, fold-roll-Stmt}
use Rattle.cc_program.specs.declared.stmt.Stmt.TheVariants.{rolls-Do, rolls-If}
use Rattle.cc_program.specs.declared.stmt.Stmt.TheOpen as is
use Rattle.cc_program.specs.declared.types.CType.{CType}
use Rattle.cc_states.specs.CcSyntax.Effects.{no_one}
use Rattle.cc_states.specs.CcEval.Context.{Context}
use Rattle.cc_states.specs.CcEval.Eval.{Meaning, Designation, expr_meaning, place_meaning, meaning, designation}
use Rattle.cc_states.specs.CcEval.Progress.{Get}
use Rattle.cc_states.proofs.CcEval.Links.{level, place_level}
use Rattle.cc_lower_expressions_follows.specs.Trees.{Setting, context_q}
use Rattle.cc_lower_expressions_follows.specs.Relation.{finished, forked, tree_step, stmt_tree, code_tree}

module _ (c : Context) where
  abbrev pub at_level : one.Expr-F Expr Place → Meaning
  at_level x = expr_meaning c (map-Expr Expr Place Meaning Designation (meaning c) (designation c) x)

  abbrev pub at_place_level : one.Place-F Expr Place → Designation
  at_place_level x = place_meaning c (map-Place Expr Place Meaning Designation (meaning c) (designation c) x)

  opened : (e : Expr) (x : one.Expr-F Expr Place) → roll-Expr x ≡ e → meaning c e ≡ at_level x
  opened e x h = ap (meaning c) (sym h) ∙ level c x

  place_opened : (a : Place) (x : one.Place-F Expr Place) → roll-Place x ≡ a → designation c a ≡ at_place_level x
  place_opened a x h = ap (designation c) (sym h) ∙ place_level c x

  pub at-Const : (n : ℤ) (t : IntType) → meaning c (Const n t) ≡ at_level (one.Const n t)
  at-Const n t = opened (Const n t) (one.Const n t) (rolls-Const n t)

  pub at-Null : (t : CType) → meaning c (Null t) ≡ at_level (one.Null t)
  at-Null t = opened (Null t) (one.Null t) (rolls-Null t)

  pub at-FuncAddr : (f : ℕ) → meaning c (FuncAddr f) ≡ at_level (one.FuncAddr f)
  at-FuncAddr f = opened (FuncAddr f) (one.FuncAddr f) (rolls-FuncAddr f)

  pub at-Load : (a : Place) → meaning c (Load a) ≡ at_level (one.Load a)
  at-Load a = opened (Load a) (one.Load a) (rolls-Load a)

  pub at-AddrOf : (a : Place) → meaning c (AddrOf a) ≡ at_level (one.AddrOf a)
  at-AddrOf a = opened (AddrOf a) (one.AddrOf a) (rolls-AddrOf a)

  pub at-Un : (o : UnOp) (t : IntType) (a : Expr) → meaning c (Un o t a) ≡ at_level (one.Un o t a)
  at-Un o t a = opened (Un o t a) (one.Un o t a) (rolls-Un o t a)

  pub at-Bin : (o : BinOp) (t : IntType) (a b : Expr) → meaning c (Bin o t a b) ≡ at_level (one.Bin o t a b)
  at-Bin o t a b = opened (Bin o t a b) (one.Bin o t a b) (rolls-Bin o t a b)

  pub at-Conv : (t : IntType) (a : Expr) → meaning c (Conv t a) ≡ at_level (one.Conv t a)
  at-Conv t a = opened (Conv t a) (one.Conv t a) (rolls-Conv t a)

  pub at-Qualify : (t : CType) (a : Expr) → meaning c (Qualify t a) ≡ at_level (one.Qualify t a)
  at-Qualify t a = opened (Qualify t a) (one.Qualify t a) (rolls-Qualify t a)

  pub at-Move : (a b : Expr) (back : Bool) → meaning c (Move a b back) ≡ at_level (one.Move a b back)
  at-Move a b back = opened (Move a b back) (one.Move a b back) (rolls-Move a b back)

  pub at-Gap : (a b : Expr) → meaning c (Gap a b) ≡ at_level (one.Gap a b)
  at-Gap a b = opened (Gap a b) (one.Gap a b) (rolls-Gap a b)

  pub at-Compare : (o : BinOp) (a b : Expr) → meaning c (Compare o a b) ≡ at_level (one.Compare o a b)
  at-Compare o a b = opened (Compare o a b) (one.Compare o a b) (rolls-Compare o a b)

  pub at-Assign : (a : Place) (e : Expr) → meaning c (Assign a e) ≡ at_level (one.Assign a e)
  at-Assign a e = opened (Assign a e) (one.Assign a e) (rolls-Assign a e)

  pub at-Call : (f : Expr) (args : List Expr) → meaning c (Call f args) ≡ at_level (one.Call f args)
  at-Call f args = opened (Call f args) (one.Call f args) (rolls-Call f args)

  pub at-Intr : (i : IntrKind) (a : Option Expr) → meaning c (Intr i a) ≡ at_level (one.Intr i a)
  at-Intr i a = opened (Intr i a) (one.Intr i a) (rolls-Intr i a)

  pub at-Local : (r : ℕ) → designation c (Local r) ≡ at_place_level (one.Local r)
  at-Local r = place_opened (Local r) (one.Local r) (rolls-Local r)

  pub at-Element : (a : Place) (i : Expr) → designation c (Element a i) ≡ at_place_level (one.Element a i)
  at-Element a i = place_opened (Element a i) (one.Element a i) (rolls-Element a i)

  pub at-Member : (a : Place) (m : ℕ) → designation c (Member a m) ≡ at_place_level (one.Member a m)
  at-Member a m = place_opened (Member a m) (one.Member a m) (rolls-Member a m)

  pub at-Deref : (e : Expr) → designation c (Deref e) ≡ at_place_level (one.Deref e)
  at-Deref e = place_opened (Deref e) (one.Deref e) (rolls-Deref e)

module _ (w : Setting) where
  pub tree-Do : (e : Expr) → stmt_tree w (Do e) ≡ finished ((meaning (context_q w) e).next no_one)
  unfolding stmt_tree
  tree-Do e = ap (stmt_tree w) (sym (rolls-Do e)) ∙ fold-roll-Stmt (Get (Unit {0})) (Unit {0}) (tree_step w) (λ c. tt) (is.Do e)

  pub tree-If : (e : Expr) (a b : List Stmt) → stmt_tree w (If e a b) ≡ forked ((meaning (context_q w) e).next no_one) (code_tree w a) (code_tree w b)
  unfolding stmt_tree
  tree-If e a b = ap (stmt_tree w) (sym (rolls-If e a b)) ∙ fold-roll-Stmt (Get (Unit {0})) (Unit {0}) (tree_step w) (λ c. tt) (is.If e a b)
