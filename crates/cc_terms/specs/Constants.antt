-- Enumerations with their constants (C99 6.7.2.2), one behind another.
use Rattle.std.specs.Prelude.{ℕ, ℤ, pos, ◌+ℤ◌, is_some, List, Option, Some, None, Ok}
use Rattle.cc_typed_terms.specs.Names.{new_name}
use Rattle.cc_typed_terms.specs.Specifiers.{as_type}
use Rattle.cc_program.specs.CcNum.declared.target.Target.{Target}
use Rattle.cc_typed_terms.specs.CcOperands.Operands.{constancy}
use Rattle.cc_typed_terms.specs.Values.{value}
use Rattle.cc_program.specs.declared.program.Roles.{Roles}
use Rattle.cc_scopes.specs.State.{State, Name, bind}
use Rattle.cc_scopes.specs.Structures.{tagged_option, enumeration_closed, enumeration_constant, in_list}
use Rattle.cc_scopes.specs.Verdicts.{Found, whole, and_then}
use Rattle.cc_scopes.specs.declared.designated.Designated.TheVariants as means
use Rattle.cc_typed_terms.specs.CcSpecifiers.declared.specifier.Specifier.{Specifier}
use Rattle.cc_typed_terms.specs.CcSyntax.Folding.{Constant, Value}
use Rattle.cc_tree.specs.declared.at.At.{At}
use Rattle.cc_tree.specs.declared.tree.Declr.TheOpen as one
use Rattle.cc_terms.specs.InTurn.{in_turn}
use Rattle.cc_terms.specs.Meanings.{TreeMeaning, DeclrMeaning, ParamsMeaning, ParamMeaning, SpecMeaning, MembersMeaning, EnumrMeaning, TypeNameMeaning}

-- the first is 0, where no value is given
abbrev pub constants_found : List (At EnumrMeaning) → State → Found ℤ
constants_found cs s = in_turn (λ c next s. c.node next c.at s) cs (pos 0) s

abbrev pub enumeration_found : ℕ → Option Name → List (At EnumrMeaning) → State → Found Specifier
enumeration_found at tag cs s =
    and_then (constants_found cs (in_list tag s)) (λ next t. as_type (enumeration_closed at (is_some (tagged_option tag s)) tag t))

module _ (target : Target) (roles : Roles) where
  -- the constant behind it is one more (6.7.2.2, 3)
  abbrev pub constant_declared : ℕ → Name → Constant → State → Found ℤ
  constant_declared at x given s =
      and_then (whole at s (enumeration_constant target given)) (λ n s. and_then (whole at s (new_name roles x s)) (λ x s. Ok (n +ℤ pos 1, bind x (means.Enumerator n) s)))

  abbrev pub constant_by : ℕ → Name → ℤ → State → Option (At TreeMeaning) → Found ℤ
  constant_by at x next s None = constant_declared at x (Value next) s
  constant_by at x next s (Some e) = value e s (λ y s. constant_declared at x (constancy y) s)

  abbrev pub enumr_step : one.Enumr-F DeclrMeaning ParamsMeaning SpecMeaning TreeMeaning EnumrMeaning MembersMeaning ParamMeaning TypeNameMeaning → EnumrMeaning
  enumr_step c = λ next at s. constant_by at c.name next s c.value
