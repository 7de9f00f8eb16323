-- What specifiers mean, and lists of them, each judged where it stands (C99 6.7, 6.7.2).
use Rattle.std.specs.Prelude.{ℕ, List, Option, Some, None, Ok}
use Rattle.cc_typed_terms.specs.Specifiers.{begin, type_named, marked, structure_tag, enumeration_tag}
use Rattle.cc_program.specs.CcNum.declared.target.Target.{Target}
use Rattle.cc_scopes.specs.State.{State, Name, designated}
use Rattle.cc_scopes.specs.Verdicts.{Found, Meaning, whole, and_then, part}
use Rattle.cc_typed_terms.specs.CcSpecifiers.Specifiers.{no_specifier, with_specifier, specified}
use Rattle.cc_typed_terms.specs.CcSpecifiers.declared.specifier.Specified.{Specified}
use Rattle.cc_typed_terms.specs.CcSpecifiers.declared.specifier.Specifier.{Specifier}
use Rattle.cc_typed_terms.specs.CcSpecifiers.declared.specifier.Specifier.TheVariants as specifier
use Rattle.cc_typed_terms.specs.CcSpecifiers.declared.specifier.Specs.{Specs}
use Rattle.cc_typed_terms.specs.CcSpecifiers.declared.storage.Setting.{Setting}
use Rattle.cc_tree.specs.declared.at.At.{At}
use Rattle.cc_tree.specs.declared.tree.Attr.{Attr}
use Rattle.cc_tree.specs.declared.tree.Declr.TheOpen as one
use Rattle.cc_terms.specs.Constants.{enumeration_found}
use Rattle.cc_terms.specs.InTurn.{in_turn}
use Rattle.cc_terms.specs.Meanings.{TreeMeaning, DeclrMeaning, ParamsMeaning, ParamMeaning, SpecMeaning, MembersMeaning, EnumrMeaning, TypeNameMeaning}
use Rattle.cc_terms.specs.Structures.{structure_found}

abbrev pub specifier_found : Setting → At (Meaning Specifier) → Specs → State → Found Specs
specifier_found setting x specs s = part x s (λ p s. whole x.at s (with_specifier setting x.at p specs))

abbrev pub specifiers_found : Setting → List (At (Meaning Specifier)) → State → Found Specs
specifiers_found setting xs s = in_turn (specifier_found setting) xs no_specifier s

abbrev pub specified_found : Setting → List (At (Meaning Specifier)) → State → Found Specified
specified_found setting xs s = and_then (specifiers_found setting xs s) (λ specs s. whole (begin xs) s (specified specs))

abbrev pub enumeration_spec : ℕ → Option Name → Option (List (At EnumrMeaning)) → State → Found Specifier
enumeration_spec at tag (Some cs) s = enumeration_found at tag cs s
enumeration_spec at tag None s = enumeration_tag at tag s

module _ (target : Target) where
  abbrev pub structure_spec : ℕ → Option Name → Option (List (At MembersMeaning)) → List (At Attr) → List (At Attr) → State → Found Specifier
  structure_spec at tag (Some ds) front behind s = structure_found target at tag ds front behind s
  structure_spec at tag None front behind s = structure_tag at tag s

  abbrev pub spec_step : one.Spec-F DeclrMeaning ParamsMeaning SpecMeaning TreeMeaning EnumrMeaning MembersMeaning ParamMeaning TypeNameMeaning → SpecMeaning
  spec_step (one.Word x) = λ at s. Ok (specifier.Word x, s)
  spec_step (one.Spec::Named x) = λ at s. whole at s (type_named (designated x s.scopes))
  spec_step (one.Struct tag members front behind) = λ at s. structure_spec at tag members front behind s
  spec_step (one.Enum tag constants) = λ at s. enumeration_spec at tag constants s
  spec_step (one.Attr a) = λ at s. whole at s (marked a)
