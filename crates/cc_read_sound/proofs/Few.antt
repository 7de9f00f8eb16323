-- Texts with fewer than 2^32 bytes together have fewer than 2^32 structures, mentions of names, and identifiers.
use Rattle.std.proofs.Common.{◌≡◌, ◌+◌, ◌<◌, ◌≤◌, ◌^◌, ℕ, suc, true, List, [], ◌∷◌, length, map, sum, refl, ap, arith, length-append}
use Rattle.std.specs.Prelude.{flat_map}
use Rattle.std.specs.List.{AllZip}
use Rattle.std.proofs.lemmas.Bool.{lt-ltb}
use Rattle.std.proofs.lemmas.List.Sums.{sum_by-cons}
use Rattle.cc_named_units.proofs.CountedTexts.{text_spelled}
use Rattle.cc_type.specs.CcLex.declared.token.Token.{Token}
use Rattle.cc_named_units.proofs.Texts.{few_there}
use Rattle.cc_program.specs.CcNum.declared.target.Target.{Target}
use Rattle.cc_program.specs.declared.program.Roles.{Roles}
use Rattle.cc_linked_programs.specs.Few.{FewTexts}
use Rattle.cc_linked_programs.proofs.NameNumbers.{length-filter_map}
use Rattle.cc_read.specs.Texts.{IsTypedText, identifier_in}
use Rattle.cc_structures.specs.Structures.{known_in, known_from, structures}
use Rattle.cc_structures.specs.View.{units_of}
use Rattle.cc_type.specs.CcSyntax.Sound.{have_ids}
use Rattle.cc_things.specs.Mentions.{mentions_in, mentions_of, mentions_from, mentions}
use Rattle.cc_things.specs.declared.text.Text.{Text}
use Rattle.cc_type.specs.CcUnit.Mentioned.{mentioned}
use Rattle.cc_type.specs.CcUnit.declared.unit.UnitName.{UnitName}
use Rattle.cc_type.specs.CcUnit.declared.unit.UnitStructure.{UnitStructure}

abbrev bytes : List (List ℕ) → ℕ
bytes texts = sum (map length texts)

bytes-cons : (text : List ℕ) (texts : List (List ℕ)) → bytes (text ∷ texts) ≡ length text + bytes texts
bytes-cons text texts = sum_by-cons (λ (n : ℕ). n) (length text) (map length texts)

length-known : (t i : ℕ) (ss : List UnitStructure) → length (known_in t i ss) ≡ length ss
length-known t i [] = refl
length-known t i (s ∷ ss) = ap suc (length-known t (suc i) ss)

length-mentions : (t : ℕ) (numbers : List ℕ) (i : ℕ) (ns : List UnitName) → length (mentions_in t numbers i ns) ≡ length ns
length-mentions t numbers i [] = refl
length-mentions t numbers i (n ∷ ns) = ap suc (length-mentions t numbers (suc i) ns)

module _ (target : Target) (roles : Roles) where
  structures-from : (from : ℕ) (texts : List (List ℕ)) (units : List Text) → AllZip (IsTypedText target roles) texts units → length (known_from from (units_of units)) ≤ bytes texts
  structures-from from [] [] h = omega arith
  structures-from from [] (x ∷ units) h = absurd h
  structures-from from (text ∷ texts) [] h = absurd h
  structures-from from (text ∷ texts) (x ∷ units) h =
      let a = length-append (known_in from 0 x.unit.structures) (known_from (suc from) (units_of units)) in
      let k = length-known from 0 x.unit.structures in
      let l = (few_there text h.0.tokens h.0.tree target roles x.unit h.0.tokens_of h.0.sentence h.0.typed).1 in
      let b = text_spelled text h.0.tokens h.0.tokens_of in
      let s = bytes-cons text texts in
      let r = structures-from (suc from) texts units h.1 in
      omega (arith, a, k, l, b, s, r)

  mentions-few : (from : ℕ) (texts : List (List ℕ)) (units : List Text) → AllZip (IsTypedText target roles) texts units → length (mentions_from from units) ≤ bytes texts
  mentions-few from [] [] h = omega arith
  mentions-few from [] (x ∷ units) h = absurd h
  mentions-few from (text ∷ texts) [] h = absurd h
  mentions-few from (text ∷ texts) (x ∷ units) h =
      let a = length-append (mentions_of from x) (mentions_from (suc from) units) in
      let k = length-mentions from (mentioned x.unit.names) 0 x.unit.names in
      let l = (few_there text h.0.tokens h.0.tree target roles x.unit h.0.tokens_of h.0.sentence h.0.typed).0 in
      let b = text_spelled text h.0.tokens h.0.tokens_of in
      let s = bytes-cons text texts in
      let r = mentions-few (suc from) texts units h.1 in
      omega (arith, a, k, l, b, s, r)

  identifiers-few : (texts : List (List ℕ)) (units : List Text) → AllZip (IsTypedText target roles) texts units → length (flat_map (λ (x : Text). x.identifiers) units) ≤ bytes texts
  identifiers-few [] [] h = omega arith
  identifiers-few [] (x ∷ units) h = absurd h
  identifiers-few (text ∷ texts) [] h = absurd h
  identifiers-few (text ∷ texts) (x ∷ units) h =
      let a = length-append x.identifiers (flat_map (λ (x : Text). x.identifiers) units) in
      let i = ap (λ (l : List (List ℕ)). length l) h.0.identifiers in
      let k = length-filter_map (λ (t : Token). identifier_in t.kind) h.0.tokens in
      let b = text_spelled text h.0.tokens h.0.tokens_of in
      let s = bytes-cons text texts in
      let r = identifiers-few texts units h.1 in
      omega (arith, a, i, k, b, s, r)

  structures-few : (texts : List (List ℕ)) (units : List Text) → AllZip (IsTypedText target roles) texts units → length (structures (units_of units)) ≤ bytes texts
  unfolding structures
  structures-few texts units h = structures-from 0 texts units h

  all-mentions-few : (texts : List (List ℕ)) (units : List Text) → AllZip (IsTypedText target roles) texts units → length (mentions units) ≤ bytes texts
  unfolding mentions
  all-mentions-few texts units h = mentions-few 0 texts units h

  below : (n m : ℕ) → n ≤ m → m < 2 ^ 32 → have_ids n ≡ true
  below n m l h = lt-ltb n 4294967296 (omega (arith, l, h))

  pub few-texts : (texts : List (List ℕ)) (units : List Text) → AllZip (IsTypedText target roles) texts units → sum (map length texts) < 2 ^ 32 → FewTexts units
  few-texts texts units h small = record {
    structures = below (length (structures (units_of units))) (bytes texts) (structures-few texts units h) small;
    mentions = below (length (mentions units)) (bytes texts) (all-mentions-few texts units h) small;
    identifiers = below (length (flat_map (λ (x : Text). x.identifiers) units)) (bytes texts) (identifiers-few texts units h) small;
  }
