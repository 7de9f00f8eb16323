-- Structures with the declarations of their members (C99 6.7.2.1, 6.7.2.3, 4 to 6), one behind another.
use Rattle.std.specs.Prelude.{ℕ, Bool, List, [], ◌∷◌, Option, Ok}
use Rattle.cc_typed_terms.specs.Declarators.{derived_type}
use Rattle.cc_typed_terms.specs.Located.{located}
use Rattle.cc_typed_terms.specs.Members.{member_judged}
use Rattle.cc_typed_terms.specs.Specifiers.{as_type}
use Rattle.cc_program.specs.CcNum.declared.target.Target.{Target}
use Rattle.cc_program.specs.declared.types.CType.{CType}
use Rattle.cc_scopes.specs.State.{State, Scope, Name}
use Rattle.cc_scopes.specs.Structures.{opened, tagged_option, is_enumeration, closed}
use Rattle.cc_scopes.specs.Verdicts.{Found, whole, and_then}
use Rattle.cc_typed_terms.specs.CcSpecifiers.Attributes.{attributes}
use Rattle.cc_typed_terms.specs.CcSpecifiers.Derivations.{nothing_more}
use Rattle.cc_typed_terms.specs.CcSpecifiers.declared.attribute.Entity.TheVariants as entity
use Rattle.cc_typed_terms.specs.CcSpecifiers.declared.derivation.Declarator.{Declarator}
use Rattle.cc_typed_terms.specs.CcSpecifiers.declared.specifier.Specifier.{Specifier}
use Rattle.cc_typed_terms.specs.CcSyntax.Types.{Named}
use Rattle.cc_tree.specs.declared.at.At.{At}
use Rattle.cc_tree.specs.declared.tree.Attr.{Attr}
use Rattle.cc_terms.specs.InTurn.{in_turn}
use Rattle.cc_terms.specs.Meanings.{MembersMeaning}

-- whether its tag is an enumeration's here, and its number
abbrev pub structure_opened : Option Name → List (At Attr) → State → Found (Bool × ℕ)
structure_opened tag front s =
    and_then (located s (attributes (entity.Structure ∷ []) front)) (λ marks s. Ok ((is_enumeration (tagged_option tag s), (opened tag s).0), (opened tag s).1))

abbrev pub members_found : List (At MembersMeaning) → State → Found (List Named)
members_found ds s = in_turn (λ d ms s. d.node ms s) ds [] s

module _ (target : Target) where
  abbrev pub structure_closed : ℕ → List (At Attr) → Bool → ℕ → List Named → State → Found Specifier
  structure_closed at behind clash i ms s = and_then (located s (attributes (entity.Structure ∷ []) behind)) (λ marks s. as_type (closed target at clash i ms s))

  abbrev pub structure_found : ℕ → Option Name → List (At MembersMeaning) → List (At Attr) → List (At Attr) → State → Found Specifier
  structure_found at tag ds front behind s =
      and_then (structure_opened tag front s) (λ new s. and_then (members_found ds s) (λ ms s. structure_closed at behind new.0 new.1 ms s))

  -- what a declarator, which begins at this place, declares of this type
  abbrev pub member_behind : CType → ℕ → List Named → Declarator Scope → State → Found (List Named)
  member_behind base at ms x s = and_then (derived_type target nothing_more base x s) (λ t s. whole at s (member_judged target t ms s x.name))
