-- What stands in front of the specifiers of a prototype: nothing, or the attribute of a handler.
use Rattle.std.proofs.Common.{◌≡◌, ℕ, Bool, true, false, List, [], ◌∷◌, ◌++◌, Option, Some, None, Ok, refl, ap, ◌∙◌}
use Rattle.std.specs.Prelude.{codes}
use Rattle.cc_type.specs.CcTypedTerms.Specifiers.{marked}
use Rattle.cc_expression_trees.specs.Types.{ShowsWords, NoWord, MoreWords, ShowsBase, ShowsVoid, ShowsInt, ShowsStructure, qualifier_words, int_words}
use Rattle.cc_program.specs.CcNum.declared.int_type.IntType.{IntType}
use Rattle.cc_program.specs.CcNum.declared.int_type.IntType.TheVariants as int
use Rattle.cc_type.specs.CcObjects.Categories.{storage_class, storage_at, storage_in}
use Rattle.cc_type.specs.CcOperands.Verdicts.{must}
use Rattle.cc_type.specs.CcOperands.declared.rule.Rule.TheVariants as rule
use Rattle.cc_program.specs.declared.func.Entry.{Entry}
use Rattle.cc_program.specs.declared.program.Program.{Program}
use Rattle.cc_program.specs.declared.types.CType.{CType}
use Rattle.cc_program.specs.declared.types.Structure.{Structure}
use Rattle.cc_type.specs.CcScopes.State.{State, Name, or_else}
use Rattle.cc_type.specs.CcScopes.Verdicts.{Found, whole, and_then}
use Rattle.cc_type.specs.CcSpecifiers.Attributes.{are_meant, entry_by}
use Rattle.cc_type.specs.CcSpecifiers.Specifiers.{no_specifier, with_mark, with_specifier}
use Rattle.cc_type.specs.CcSpecifiers.declared.attribute.Attribute.{Attribute}
use Rattle.cc_type.specs.CcSpecifiers.declared.attribute.Attribute.TheVariants as attribute
use Rattle.cc_type.specs.CcSpecifiers.declared.attribute.Entity.TheVariants as entity
use Rattle.cc_type.specs.CcSpecifiers.declared.specifier.Specifier.{Specifier}
use Rattle.cc_type.specs.CcSpecifiers.declared.specifier.Specifier.TheVariants as specifier
use Rattle.cc_type.specs.CcSpecifiers.declared.storage.Setting.{Setting}
use Rattle.cc_tree.specs.declared.at.At.{At}
use Rattle.cc_tree.specs.declared.tree.Attr.{Attr}
use Rattle.cc_tree.specs.declared.tree.Declr.TheOpen as one
use Rattle.cc_tree.specs.declared.tree.Spec as spec
use Rattle.cc_tree.specs.declared.tree.Spec.{Spec, out-Spec}
use Rattle.cc_tree.specs.declared.tree.Spec.TheVariants as spec_rolls
use Rattle.cc_unit_trees.specs.Items.{ShowsEntry, NoEntry, Listed, Signal, Interrupt}
use Rattle.cc_program.specs.CcWords.declared.word.Word.{Word}
use Rattle.cc_program.specs.CcWords.declared.word.Word.TheVariants as w
use Rattle.cc_shown_declarations.specs.Entries.{written_entry}
use Rattle.cc_shown_expressions.specs.Known.{KnowsStructures}
use Rattle.cc_shown_expressions.proofs.Words.{spec-at}
use Rattle.cc_shown_names.proofs.One.{Leads}

-- ---- the specifiers of a type have no storage class

abbrev NoStorage : List Word → Type 0
NoStorage [] = Unit {0}
NoStorage (x ∷ xs) = (storage_class x ≡ None) × NoStorage xs

no-storage-qualifiers : (c v : Bool) → NoStorage (qualifier_words c v)
no-storage-qualifiers true true = (refl, (refl, tt))
no-storage-qualifiers true false = (refl, tt)
no-storage-qualifiers false true = (refl, tt)
no-storage-qualifiers false false = tt

no-storage-int : (i : IntType) → NoStorage (int_words i)
no-storage-int int.Bool = (refl, tt)
no-storage-int int.Char = (refl, tt)
no-storage-int int.SChar = (refl, (refl, tt))
no-storage-int int.UChar = (refl, (refl, tt))
no-storage-int int.Short = (refl, tt)
no-storage-int int.UShort = (refl, (refl, tt))
no-storage-int int.Int = (refl, tt)
no-storage-int int.UInt = (refl, (refl, tt))
no-storage-int int.Long = (refl, tt)
no-storage-int int.ULong = (refl, (refl, tt))
no-storage-int int.LongLong = (refl, (refl, tt))
no-storage-int int.ULongLong = (refl, (refl, (refl, tt)))

pub word-storage : (x : Word) (at : ℕ) (ss : List (At Spec)) → storage_in (record { at = at; node = spec.Word x } ∷ ss) ≡ or_else (storage_class x) (storage_in ss)
word-storage x at ss = ap (λ y. or_else (storage_at y) (storage_in ss)) (spec_rolls.outs-Word x)

words-storage : (xs : List Word) (qs ss : List (At Spec)) → ShowsWords xs qs → NoStorage xs → storage_in (qs ++ ss) ≡ storage_in ss
words-storage _ _ ss NoWord h = refl
words-storage _ _ ss (MoreWords x xs at qs r) h = word-storage x at (qs ++ ss) ∙ ap (λ o. or_else o (storage_in (qs ++ ss))) h.0 ∙ words-storage xs qs ss r h.1

words-alone : (xs : List Word) (qs : List (At Spec)) → ShowsWords xs qs → NoStorage xs → storage_in qs ≡ None
words-alone _ _ NoWord h = refl
words-alone _ _ (MoreWords x xs at qs r) h = word-storage x at qs ∙ ap (λ o. or_else o (storage_in qs)) h.0 ∙ words-alone xs qs r h.1

pub base-storage : (structures : List Structure) (b : CType) (ss : List (At Spec)) → ShowsBase structures b ss → storage_in ss ≡ None
base-storage structures _ _ (ShowsVoid b qs ss e r k) = words-storage (qualifier_words b.constant b.volatile) qs ss r (no-storage-qualifiers b.constant b.volatile) ∙ words-alone (w.Void ∷ []) ss k (refl, tt)
base-storage structures _ _ (ShowsInt b i qs ss e r k) = words-storage (qualifier_words b.constant b.volatile) qs ss r (no-storage-qualifiers b.constant b.volatile) ∙ words-alone (int_words i) ss k (no-storage-int i)
base-storage structures _ _ (ShowsStructure b i s qs at e f r) =
    words-storage (qualifier_words b.constant b.volatile) qs (record { at = at; node = spec.Struct (Some s.tag) None [] [] } ∷ []) r (no-storage-qualifiers b.constant b.volatile)
    ∙ ap (λ y. or_else (storage_at y) None) (spec_rolls.outs-Struct (Some s.tag) None [] [])

attribute-storage : (a : Attr) (at : ℕ) (ss : List (At Spec)) → storage_in (record { at = at; node = spec.Attr a } ∷ ss) ≡ storage_in ss
attribute-storage a at ss = ap (λ y. or_else (storage_at y) (storage_in ss)) (spec_rolls.outs-Attr a)

pub entry-storage : (structures : List Structure) (b : CType) (e : Option Entry) (qs ss : List (At Spec)) → ShowsEntry e qs → ShowsBase structures b ss → storage_in (qs ++ ss) ≡ None
entry-storage structures b _ _ ss NoEntry h = base-storage structures b ss h
entry-storage structures b _ _ ss Listed h = base-storage structures b ss h
entry-storage structures b _ _ ss (Signal at) h = attribute-storage (record { words = (codes "signal", None) ∷ [] }) at ss ∙ base-storage structures b ss h
entry-storage structures b _ _ ss (Interrupt at) h = attribute-storage (record { words = (codes "interrupt", None) ∷ [] }) at ss ∙ base-storage structures b ss h

-- ---- the attribute of a handler

module _ (p : Program) (number : ℕ → ℕ) (defined : List Name) (s : State) (known : KnowsStructures p number s) where
  attribute-found : (setting : Setting) (a : Attr) (ms : List Attribute) (at : ℕ) → marked a ≡ Ok (specifier.Attributes ms) → setting.entities ≡ entity.Function ∷ [] → are_meant (entity.Function ∷ []) ms ≡ true →
      Leads p number defined s known setting None (record { at = at; node = ms } ∷ []) (record { at = at; node = spec.Attr a } ∷ [])
  attribute-found setting a ms at is one_function meant =
      ap (λ (r : Found Specifier). and_then (and_then r (λ q s. whole at s (with_specifier setting at q no_specifier))) (λ specs s. Ok (specs, s)))
      (spec-at p.target p.roles (spec.Attr a) (one.Attr a) (spec_rolls.outs-Attr a) at s ∙ ap (whole at s) is)
      ∙ ap (λ es. and_then (whole at s (must (are_meant es ms) rule.Attribute (Ok (with_mark at ms no_specifier)))) (λ specs s. Ok (specs, s))) one_function
      ∙ ap (λ b. and_then (whole at s (must b rule.Attribute (Ok (with_mark at ms no_specifier)))) (λ specs s. Ok (specs, s))) meant

  pub record EntryFound (setting : Setting) (e : Option Entry) (qs : List (At Spec)) : Type 0 where
    pub marks : List (At (List Attribute))
    pub is : Leads p number defined s known setting None marks qs
    pub entry : entry_by marks ≡ written_entry e

  pub entry-found : (setting : Setting) (e : Option Entry) (qs : List (At Spec)) → setting.entities ≡ entity.Function ∷ [] → ShowsEntry e qs → EntryFound setting e qs
  entry-found setting _ _ one_function NoEntry = record { marks = []; is = refl; entry = refl }
  entry-found setting _ _ one_function Listed = record { marks = []; is = refl; entry = refl }
  entry-found setting _ _ one_function (Signal at) = record {
    marks = record { at = at; node = attribute.Signal ∷ [] } ∷ [];
    is = attribute-found setting (record { words = (codes "signal", None) ∷ [] }) (attribute.Signal ∷ []) at refl one_function refl;
    entry = refl;
  }
  entry-found setting _ _ one_function (Interrupt at) = record {
    marks = record { at = at; node = attribute.Interrupt ∷ [] } ∷ [];
    is = attribute-found setting (record { words = (codes "interrupt", None) ∷ [] }) (attribute.Interrupt ∷ []) at refl one_function refl;
    entry = refl;
  }
