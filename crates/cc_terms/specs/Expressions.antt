-- What an expression means (C99 6.5): construct by construct, from the meanings of its parts in the order of the text.
use Rattle.std.specs.Prelude.{true, false, List, [], length, Ok}
use Rattle.cc_typed_terms.specs.CcDesignators.Assignments.{assign_of, stepped_after}
use Rattle.cc_typed_terms.specs.CcDesignators.Casts.{cast_of}
use Rattle.cc_typed_terms.specs.CcDesignators.Postfix.{dot, arrow}
use Rattle.cc_program.specs.CcNum.declared.target.Target.{Target}
use Rattle.cc_typed_terms.specs.CcOperands.Choices.{choose_of, comma_of}
use Rattle.cc_typed_terms.specs.CcOperands.Operands.{Operand}
use Rattle.cc_typed_terms.specs.CcOperands.Operators.{operator_of}
use Rattle.cc_typed_terms.specs.Operators.{binary_by, is_minus}
use Rattle.cc_typed_terms.specs.Primary.{named, number, character, string_found}
use Rattle.cc_typed_terms.specs.Values.{gives, value_found, value, designator}
use Rattle.cc_program.specs.declared.program.Roles.{Roles}
use Rattle.cc_scopes.specs.State.{State, structures_of}
use Rattle.cc_scopes.specs.Verdicts.{Found, whole, and_then, part}
use Rattle.cc_tree.specs.declared.at.At.{At}
use Rattle.cc_tree.specs.declared.tree.Declr.TheOpen as one
use Rattle.cc_terms.specs.InTurn.{in_turn, one_more}
use Rattle.cc_terms.specs.Meanings.{TreeMeaning, DeclrMeaning, ParamsMeaning, ParamMeaning, SpecMeaning, MembersMeaning, EnumrMeaning, TypeNameMeaning}
use Rattle.cc_terms.specs.Operations.{subscript_base, subscript_judged, callee, call_judged, prefixed, sizeof_found, sizeof_type_found}

-- the values of arguments, from left to right
abbrev pub argument_found : At TreeMeaning → List Operand → State → Found (List Operand)
argument_found e before s = one_more before (value_found e s)

abbrev pub arguments_found : List (At TreeMeaning) → State → Found (List Operand)
arguments_found args s = in_turn argument_found args [] s

module _ (target : Target) (roles : Roles) where
  abbrev pub tree_step : one.Tree-F DeclrMeaning ParamsMeaning SpecMeaning TreeMeaning EnumrMeaning MembersMeaning ParamMeaning TypeNameMeaning → TreeMeaning
  tree_step (one.Tree::Named x) = λ at s. whole at s (named roles at x s)
  tree_step (one.Number n suffix) = λ at s. Ok (number target n suffix, s)
  tree_step (one.Character byte) = λ at s. Ok (character target byte, s)
  tree_step (one.Text bytes) = λ at s. string_found target at bytes s
  tree_step (one.Tree::Paren e) = λ at s. e.node e.at s
  tree_step (one.Extension e) = λ at s. e.node e.at s
  tree_step (one.Comma a b) = λ at s. value a s (λ x s. value b s (λ y s. gives at s (comma_of x y)))
  tree_step (one.Assign o a b) = λ at s. designator a s (λ x s. value b s (λ y s. gives at s (assign_of target (structures_of s) o x y)))
  tree_step (one.Choose c a b) = λ at s. value c s (λ c s. value a s (λ x s. value b s (λ y s. gives at s (choose_of target c x y))))
  tree_step (one.Binary o a b) = λ at s. value a s (λ x s. value b s (λ y s. gives at s (binary_by target (structures_of s) (operator_of o) x y)))
  tree_step (one.Prefix o e) = λ at s. part e s (prefixed target o at e.at)
  tree_step (one.Postfix e o) = λ at s. designator e s (λ x s. gives at s (stepped_after (structures_of s) (is_minus o) x))
  tree_step (one.SizeOf e) = λ at s. designator e s (sizeof_found target at (length s.names))
  tree_step (one.SizeOfType t) = λ at s. and_then (t false s) (sizeof_type_found target at (length s.names))
  tree_step (one.Cast t e) = λ at s. and_then (t true s) (λ t s. value e s (λ x s. whole at s (cast_of target at t x)))
  tree_step (one.Subscript a i) = λ at s.
      part a s (λ x s. and_then (subscript_base a.at x s) (λ x s. value i s (λ y s. whole at s (subscript_judged (structures_of s) x y))))
  tree_step (one.Call f args) = λ at s.
      part f s (λ x s. and_then (callee f.at x s) (λ x s. and_then (arguments_found args s) (λ xs s. gives at s (call_judged target x xs))))
  tree_step (one.Member e x) = λ at s. designator e s (λ y s. whole at s (dot (structures_of s) x y))
  tree_step (one.Arrow e x) = λ at s. value e s (λ y s. whole at s (arrow (structures_of s) x y))
