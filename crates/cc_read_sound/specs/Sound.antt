-- Sound statements where they stand: what their expressions are typed over, and which jumps there are (C99 6.8).
use Rattle.std.specs.Prelude.{◌≡◌, Bool, true, List, map, Option, Some}
use Rattle.std.specs.List.{list_all}
use Rattle.cc_program.specs.CcNum.declared.int_type.IntType.{IntType}
use Rattle.cc_program.specs.CcNum.declared.target.Target.{Target}
use Rattle.cc_type.specs.CcSyntax.Views.{View}
use Rattle.cc_type.specs.CcSyntax.Expressions.{type_of}
use Rattle.cc_program.specs.declared.expr.Expr.{Expr}
use Rattle.cc_program.specs.declared.stmt.Case.{Case, out-Case}
use Rattle.cc_program.specs.declared.stmt.Stmt.{Stmt}
use Rattle.cc_program.specs.declared.types.CType.{CType}
use Rattle.cc_operand_types.specs.Reduced.{Reduced}
use Rattle.cc_type.specs.CcSyntax.Statements.{label_fits, labels_of, are_apart, has_label, is_sound_stmt}
use Rattle.cc_type.specs.CcSyntax.Types.{Named}
use Rattle.cc_type.specs.CcSyntax.Values.{ValueType}
use Rattle.cc_type.specs.CcTypedStatements.declared.jumps.Jumps.{Jumps}

-- what is typed over the locals as they are declared has a type, which may lack qualifiers of that one
abbrev pub Keeps : View → List Named → (Expr → Option ValueType) → Type 0
Keeps v declared typed = (e : Expr) (t : ValueType) → type_of v declared e ≡ Some t → (u : ValueType) × (typed e ≡ Some u) × Reduced u t

-- in a function that gives such a result
module _ (target : Target) (typed : Expr → Option ValueType) (result : CType) where
  abbrev pub sound_list : Bool → Bool → List Stmt → Bool
  sound_list breaks continues ss = list_all (λ g. g breaks continues) (map (is_sound_stmt target typed result) ss)

  -- statements, one behind another
  abbrev pub AreSound : Jumps → List Stmt → Type 0
  AreSound j ss = sound_list j.breaks j.continues ss ≡ true

  -- the cases of a `switch` whose operand has the type t: their labels are values of it and apart, each has some, and what stands behind them is sound (6.8.4.2)
  pub record AreCases (t : IntType) (continues : Bool) (cases : List Case) : Type 0 where
    pub fit : list_all (label_fits target t) (labels_of cases) ≡ true
    pub apart : are_apart (labels_of cases) ≡ true
    pub labelled : list_all (λ c. has_label (out-Case c).labels) cases ≡ true
    pub bodies : list_all (λ c. sound_list true continues (out-Case c).body) cases ≡ true
