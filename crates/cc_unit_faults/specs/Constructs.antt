-- The constructs of a translation unit (C99 6.8, 6.9), each with what has been found in front of it, and where each begins.
use Rattle.std.specs.Prelude.{ℕ, List}
use Rattle.cc_type.specs.CcTypedTerms.Specifiers.{begin}
use Rattle.cc_first_faults.specs.Constructs.{Construct as Inner, Declaration, place as inner_place}
use Rattle.cc_type.specs.CcLinkage.declared.linkage.DeclaredAs.{DeclaredAs}
use Rattle.cc_program.specs.CcNum.declared.int_type.IntType.{IntType}
use Rattle.cc_program.specs.declared.types.CType.{CType}
use Rattle.cc_type.specs.CcScopes.State.{Name, Scope}
use Rattle.cc_type.specs.CcSpecifiers.declared.derivation.Derivation.{Derivation}
use Rattle.cc_type.specs.CcSpecifiers.declared.storage.Where.TheVariants as stands
use Rattle.cc_tree.specs.declared.at.At.{At}
use Rattle.cc_tree.specs.declared.tree.Attr.{Attr}
use Rattle.cc_tree.specs.declared.tree.Declr.{Declr}
use Rattle.cc_tree.specs.declared.tree.Spec.{Spec}
use Rattle.cc_tree.specs.declared.tree.Tree.{Tree}
use Rattle.cc_tree.specs.declared.unit.Item.{Item}
use Rattle.cc_tree.specs.declared.unit.Item.TheVariants as item
use Rattle.cc_tree.specs.declared.unit.Line.{Line}
use Rattle.cc_type.specs.CcTypedStatements.declared.cases.Cases.{Cases}
use Rattle.cc_type.specs.CcTypedStatements.declared.jumps.Jumps.{Jumps}

pub data Construct : Type 0 where
  -- a declaration, and what stands in one
  Within : Inner → Construct
  -- an expression for what it does (6.8.3)
  EffectOf : At Tree → Construct
  -- a line of the body of a function with such a result: where it stands; as the body of a `switch` over such a type; and
  -- at the top level of one, behind other cases (6.8)
  Statement : CType → Jumps → At Line → Construct
  SwitchBody : CType → Jumps → IntType → At Line → Construct
  Labelled : CType → Jumps → IntType → Cases → At Line → Construct
  -- a function definition, and its name (6.9.1)
  Definition : List (At Spec) → At Declr → List (At Attr) → List (At Line) → Construct
  DefinitionNamed : ℕ → DeclaredAs → Name → CType → List (At (Derivation Scope)) → Construct
  -- a translation unit (6.9)
  WholeUnit : List (At Item) → Construct

abbrev pub item_construct : Item → Construct
item_construct (item.Decl d) = Within (Declaration stands.AtFile d)
item_construct (item.Func specs d attrs body) = Definition specs d attrs body

abbrev pub place : Construct → ℕ
place (Within c) = inner_place c
place (EffectOf e) = e.at
place (Statement result j l) = l.at
place (SwitchBody result j t l) = l.at
place (Labelled result j t cases l) = l.at
place (Definition specs d attrs body) = begin specs
place (DefinitionNamed at asked x t ds) = at
place (WholeUnit items) = begin items
