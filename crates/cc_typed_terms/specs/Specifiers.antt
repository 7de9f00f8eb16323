-- Specifiers (C99 6.7.2), by what names and tags designate.
use Rattle.std.specs.Prelude.{ℕ, List, [], ◌∷◌, Option, Some, None, Ok, Err}
use Rattle.cc_scopes.specs.CcOperands.Verdicts.{Judged, judge_then}
use Rattle.cc_scopes.specs.CcOperands.declared.rule.Rule.TheVariants as rule
use Rattle.cc_program.specs.declared.types.CType.{CType}
use Rattle.cc_scopes.specs.State.{State, Name, tagged}
use Rattle.cc_scopes.specs.Structures.{structure_named, enumeration_named}
use Rattle.cc_scopes.specs.Verdicts.{Found, whole, and_then}
use Rattle.cc_scopes.specs.declared.designated.Designated.{Designated}
use Rattle.cc_scopes.specs.declared.designated.Designated.TheVariants as means
use Rattle.cc_specifiers.specs.Attributes.{attributes_in}
use Rattle.cc_specifiers.specs.declared.specifier.Specifier.{Specifier}
use Rattle.cc_specifiers.specs.declared.specifier.Specifier.TheVariants as specifier
use Rattle.cc_tree.specs.declared.at.At.{At}
use Rattle.cc_tree.specs.declared.tree.Attr.{Attr}

-- they begin where the first of them does
abbrev pub begin : {A : Type 0} → List (At A) → ℕ
begin [] = 0
begin (x ∷ xs) = x.at

abbrev pub type_named : Option Designated → Judged Specifier
type_named (Some (means.TypeNamed t)) = Ok (specifier.Type t)
type_named _ = Err rule.NoType

abbrev pub marked : Attr → Judged Specifier
marked a = judge_then (attributes_in a.words) (λ ms. Ok (specifier.Attributes ms))

-- a type, as a specifier
abbrev pub as_type : Found CType → Found Specifier
as_type found = and_then found (λ t s. Ok (specifier.Type t, s))

-- `struct x` and `enum x`
abbrev pub structure_tag : ℕ → Option Name → State → Found Specifier
structure_tag at (Some x) s = as_type (structure_named at x s (tagged x s.scopes))
structure_tag at None s = whole at s (Err rule.NoType)

abbrev pub enumeration_tag : ℕ → Option Name → State → Found Specifier
enumeration_tag at (Some x) s = as_type (enumeration_named at s (tagged x s.scopes))
enumeration_tag at None s = whole at s (Err rule.NoType)
