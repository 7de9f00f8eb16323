-- Specifiers that are words, one behind another: what they say, and the type that the words of an integer type name.
use Rattle.std.proofs.Common.{◌≡◌, ℕ, Bool, true, false, List, [], ◌∷◌, ◌++◌, map, Option, Some, None, Ok, Err, refl, ap, ◌∙◌}
use Rattle.std.proofs.lemmas.List.{map-append}
use Rattle.cc_program.specs.CcNum.declared.int_type.IntType.{IntType}
use Rattle.cc_program.specs.CcNum.declared.int_type.IntType.TheVariants as int
use Rattle.cc_program.specs.CcNum.declared.target.Target.{Target}
use Rattle.cc_terms.specs.CcOperands.Verdicts.{Judged, judge_then}
use Rattle.cc_program.specs.declared.program.Roles.{Roles}
use Rattle.cc_program.specs.declared.types.Shape.{Int}
use Rattle.cc_terms.specs.CcScopes.State.{State}
use Rattle.cc_terms.specs.CcScopes.Verdicts.{Found, whole, and_then}
use Rattle.cc_terms.specs.CcSpecifiers.BasicTypes.{no_word, basic_type}
use Rattle.cc_terms.specs.CcSpecifiers.Specifiers.{said, with_specifier}
use Rattle.cc_terms.specs.CcSpecifiers.declared.attribute.Attribute.{Attribute}
use Rattle.cc_terms.specs.CcSpecifiers.declared.basic.Basic.{Basic}
use Rattle.cc_terms.specs.CcSpecifiers.declared.basic.Length.TheVariants as lengths
use Rattle.cc_terms.specs.CcSpecifiers.declared.basic.Sign.TheVariants as sign
use Rattle.cc_terms.specs.CcSpecifiers.declared.specifier.Base.{Base}
use Rattle.cc_terms.specs.CcSpecifiers.declared.specifier.Base.TheVariants as base
use Rattle.cc_terms.specs.CcSpecifiers.declared.specifier.Specifier.{Specifier}
use Rattle.cc_terms.specs.CcSpecifiers.declared.specifier.Specifier.TheVariants as specifier
use Rattle.cc_terms.specs.CcSpecifiers.declared.specifier.Specs.{Specs}
use Rattle.cc_terms.specs.CcSpecifiers.declared.storage.Setting.{Setting}
use Rattle.cc_terms.specs.Constants.{enumr_step}
use Rattle.cc_terms.specs.Declarators.{declr_step, params_step, param_step, type_name_step}
use Rattle.cc_terms.specs.Expressions.{tree_step}
use Rattle.cc_terms.specs.InTurn.{in_turn}
use Rattle.cc_terms.specs.Meanings.{TreeMeaning, DeclrMeaning, ParamsMeaning, ParamMeaning, SpecMeaning, MembersMeaning, EnumrMeaning, TypeNameMeaning}
use Rattle.cc_terms.specs.Members.{members_step}
use Rattle.cc_terms.specs.Specifiers.{specifier_found, spec_step}
use Rattle.cc_terms.specs.Terms.{tree_of, declr_of, params_of, param_of, spec_of, members_of, enumr_of, type_name_of, spec_here}
use Rattle.cc_tree.specs.declared.at.At.{At}
use Rattle.cc_tree.specs.declared.tree.Declr.{Declr}
use Rattle.cc_tree.specs.declared.tree.Declr.TheOpen as one
use Rattle.cc_tree.specs.declared.tree.Enumr.{Enumr}
use Rattle.cc_tree.specs.declared.tree.MemberDecl.{MemberDecl}
use Rattle.cc_tree.specs.declared.tree.Param.{Param}
use Rattle.cc_tree.specs.declared.tree.Params.{Params}
use Rattle.cc_tree.specs.declared.tree.Spec as spec
use Rattle.cc_tree.specs.declared.tree.Spec.{Spec, out-Spec, map-Spec, fold_out-Spec}
use Rattle.cc_tree.specs.declared.tree.Spec.TheVariants as spec_rolls
use Rattle.cc_tree.specs.declared.tree.Tree.{Tree}
use Rattle.cc_tree.specs.declared.tree.TypeName.{TypeName}
use Rattle.cc_expression_trees.specs.Types.{ShowsWords, NoWord, MoreWords, qualifier_words, int_words}
use Rattle.cc_program.specs.CcWords.declared.word.Word.{Word}
use Rattle.cc_program.specs.CcWords.declared.word.Word.TheVariants as w

-- ---- lists in turn

turn-by : {A B : Type 0} → (find : A → B → State → Found B) (xs ys : List A) (c : B) (t : State) (m : Found B) → ((b : B) (s : State) → in_turn find xs b s ≡ Ok (c, t) → in_turn find (xs ++ ys) b s ≡ in_turn find ys c t) →
    and_then m (in_turn find xs) ≡ Ok (c, t) → and_then m (in_turn find (xs ++ ys)) ≡ in_turn find ys c t
turn-by find xs ys c t (Ok r) next h = next r.0 r.1 h
turn-by find xs ys c t (Err fault) next h = absurd (cc)

pub in-turn-append : {A B : Type 0} → (find : A → B → State → Found B) (xs ys : List A) (b c : B) (s t : State) → in_turn find xs b s ≡ Ok (c, t) → in_turn find (xs ++ ys) b s ≡ in_turn find ys c t
in-turn-append {A} {B} find [] ys b c s t h =
    let q : ◌≡◌ {A = B × State} (b, s) (c, t) = cc in
    ap (λ (r : B × State). in_turn find ys r.0 r.1) q
in-turn-append find (x ∷ xs) ys b c s t h = turn-by find xs ys c t (find x b s) (λ b s h. in-turn-append find xs ys b c s t h) h

-- ---- what words say

-- specifiers of which the type is still to be named
abbrev pub start : Option Word → List (At (List Attribute)) → Specs
start storage marks = record { storage = storage; constant = false; volatile = false; base = base.Words no_word; marks = marks }

abbrev pub reached : Option Word → List (At (List Attribute)) → Bool → Bool → Base → Specs
reached storage marks constant volatile b = record { storage = storage; constant = constant; volatile = volatile; base = b; marks = marks }

abbrev pub told : Setting → List Word → Specs → Judged Specs
told setting [] specs = Ok specs
told setting (x ∷ xs) specs = judge_then (said setting x specs) (told setting xs)

pub qualifiers-told : (setting : Setting) (storage : Option Word) (marks : List (At (List Attribute))) (c v : Bool) → told setting (qualifier_words c v) (start storage marks) ≡ Ok (reached storage marks c v (base.Words no_word))
qualifiers-told setting storage marks true true = refl
qualifiers-told setting storage marks true false = refl
qualifiers-told setting storage marks false true = refl
qualifiers-told setting storage marks false false = refl

abbrev pub basic_of : IntType → Basic
basic_of int.Bool = record { sign = None; length = lengths.Bool; int = false }
basic_of int.Char = record { sign = None; length = lengths.Char; int = false }
basic_of int.SChar = record { sign = Some sign.Signed; length = lengths.Char; int = false }
basic_of int.UChar = record { sign = Some sign.Unsigned; length = lengths.Char; int = false }
basic_of int.Short = record { sign = None; length = lengths.Short; int = false }
basic_of int.UShort = record { sign = Some sign.Unsigned; length = lengths.Short; int = false }
basic_of int.Int = record { sign = None; length = lengths.Plain; int = true }
basic_of int.UInt = record { sign = Some sign.Unsigned; length = lengths.Plain; int = true }
basic_of int.Long = record { sign = None; length = lengths.Long; int = false }
basic_of int.ULong = record { sign = Some sign.Unsigned; length = lengths.Long; int = false }
basic_of int.LongLong = record { sign = None; length = lengths.LongLong; int = false }
basic_of int.ULongLong = record { sign = Some sign.Unsigned; length = lengths.LongLong; int = false }

abbrev pub void_words : Basic
void_words = record { sign = None; length = lengths.Void; int = false }

pub basic-named : (i : IntType) → basic_type (basic_of i) ≡ Some (Int i)
basic-named int.Bool = refl
basic-named int.Char = refl
basic-named int.SChar = refl
basic-named int.UChar = refl
basic-named int.Short = refl
basic-named int.UShort = refl
basic-named int.Int = refl
basic-named int.UInt = refl
basic-named int.Long = refl
basic-named int.ULong = refl
basic-named int.LongLong = refl
basic-named int.ULongLong = refl

pub int-told : (setting : Setting) (storage : Option Word) (marks : List (At (List Attribute))) (c v : Bool) (i : IntType) → told setting (int_words i) (reached storage marks c v (base.Words no_word)) ≡ Ok (reached storage marks c v (base.Words (basic_of i)))
int-told setting storage marks c v int.Bool = refl
int-told setting storage marks c v int.Char = refl
int-told setting storage marks c v int.SChar = refl
int-told setting storage marks c v int.UChar = refl
int-told setting storage marks c v int.Short = refl
int-told setting storage marks c v int.UShort = refl
int-told setting storage marks c v int.Int = refl
int-told setting storage marks c v int.UInt = refl
int-told setting storage marks c v int.Long = refl
int-told setting storage marks c v int.ULong = refl
int-told setting storage marks c v int.LongLong = refl
int-told setting storage marks c v int.ULongLong = refl

pub void-told : (setting : Setting) (storage : Option Word) (marks : List (At (List Attribute))) (c v : Bool) → told setting (w.Void ∷ []) (reached storage marks c v (base.Words no_word)) ≡ Ok (reached storage marks c v (base.Words void_words))
void-told setting storage marks c v = refl

module _ (target : Target) (roles : Roles) where
  abbrev pub spec_in : one.Spec-F Declr Params Spec Tree Enumr MemberDecl Param TypeName → SpecMeaning
  spec_in x = spec_step target (map-Spec Declr Params Spec Tree Enumr MemberDecl Param TypeName DeclrMeaning ParamsMeaning SpecMeaning TreeMeaning EnumrMeaning MembersMeaning ParamMeaning TypeNameMeaning (declr_of target roles) (params_of target roles) (spec_of target roles) (tree_of target roles) (enumr_of target roles) (members_of target roles) (param_of target roles) (type_name_of target roles) x)

  spec-out : (x : Spec) → spec_of target roles x ≡ spec_in (out-Spec x)
  unfolding declr_of params_of spec_of tree_of enumr_of members_of param_of type_name_of
  spec-out x = fold_out-Spec DeclrMeaning ParamsMeaning SpecMeaning TreeMeaning EnumrMeaning MembersMeaning ParamMeaning TypeNameMeaning declr_step params_step (spec_step target) (tree_step target roles) (enumr_step target roles) (members_step target) (param_step target roles) (type_name_step target) x

  pub spec-at : (x : Spec) (y : one.Spec-F Declr Params Spec Tree Enumr MemberDecl Param TypeName) → out-Spec x ≡ y → (at : ℕ) (s : State) → spec_of target roles x at s ≡ spec_in y at s
  spec-at x y e at s = ap (λ (m : SpecMeaning). m at s) (spec-out x ∙ ap spec_in e)

  word-found : (x : Word) (at : ℕ) (s : State) → spec_of target roles (spec.Word x) at s ≡ Ok (specifier.Word x, s)
  word-found x at s = spec-at (spec.Word x) (one.Word x) (spec_rolls.outs-Word x) at s

  abbrev finds : Setting → At Spec → Specs → State → Found Specs
  finds setting x a s = specifier_found setting (spec_here target roles x) a s

  word-said : (setting : Setting) (x : Word) (at : ℕ) (a : Specs) (s : State) → finds setting (record { at = at; node = spec.Word x }) a s ≡ whole at s (said setting x a)
  word-said setting x at a s = ap (λ (m : Found Specifier). and_then m (λ p s. whole at s (with_specifier setting at p a))) (word-found x at s)

  words-by : (setting : Setting) (xs : List Word) (ss : List (At Spec)) (at : ℕ) (b : Specs) (s : State) (m : Judged Specs) →
      ((c : Specs) → told setting xs c ≡ Ok b → in_turn (specifier_found setting) (map (spec_here target roles) ss) c s ≡ Ok (b, s)) → judge_then m (told setting xs) ≡ Ok b →
      and_then (whole at s m) (in_turn (specifier_found setting) (map (spec_here target roles) ss)) ≡ Ok (b, s)
  words-by setting xs ss at b s (Ok c) next h = next c h
  words-by setting xs ss at b s (Err rule) next h = absurd (cc)

  pub words-found : (setting : Setting) (xs : List Word) (ss : List (At Spec)) → ShowsWords xs ss → (a b : Specs) (s : State) → told setting xs a ≡ Ok b → in_turn (specifier_found setting) (map (spec_here target roles) ss) a s ≡ Ok (b, s)
  words-found setting _ _ NoWord a b s h = let e : a ≡ b = cc in ap (λ (c : Specs). Ok (c, s)) e
  words-found setting _ _ (MoreWords x xs at ss r) a b s h =
      ap (λ (m : Found Specs). and_then m (in_turn (specifier_found setting) (map (spec_here target roles) ss))) (word-said setting x at a s)
      ∙ words-by setting xs ss at b s (said setting x a) (λ c k. words-found setting xs ss r c b s k) h

  pub words-behind : (setting : Setting) (xs : List Word) (ss rest : List (At Spec)) → ShowsWords xs ss → (a b : Specs) (s : State) → told setting xs a ≡ Ok b →
      in_turn (specifier_found setting) (map (spec_here target roles) (ss ++ rest)) a s ≡ in_turn (specifier_found setting) (map (spec_here target roles) rest) b s
  words-behind setting xs ss rest r a b s h =
      ap (λ ys. in_turn (specifier_found setting) ys a s) (map-append (spec_here target roles) ss rest)
      ∙ in-turn-append (specifier_found setting) (map (spec_here target roles) ss) (map (spec_here target roles) rest) a b s s (words-found setting xs ss r a b s h)
