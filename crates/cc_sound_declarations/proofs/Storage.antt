-- Where something is initialised, nothing is a typedef, and in a block nothing is extern (C99 6.7.1, 6.7.8, 5).
use Rattle.std.proofs.Common.{◌≡◌, ℕ, Bool, true, false, not, ◌&&◌, ◌||◌, List, [], ◌∷◌, Option, Some, None, Ok, refl, ap, sym, ◌∙◌, subst}
use Rattle.std.specs.Prelude.{is_some}
use Rattle.std.specs.List.{list_any}
use Rattle.cc_typed_bodies.specs.CcTypedTerms.Specifiers.{begin}
use Rattle.cc_typed_bodies.specs.CcLinkage.declared.linkage.DeclaredAs.{DeclaredAs}
use Rattle.cc_typed_bodies.specs.CcObjects.Categories.{function_category, block_category, category_by, is_given}
use Rattle.cc_typed_bodies.specs.CcObjects.declared.category.Category.TheVariants as declares
use Rattle.cc_typed_bodies.specs.CcOperands.declared.rule.Rule.TheVariants as rule
use Rattle.cc_operand_types.proofs.Operands.{given, ok_is, must_ok}
use Rattle.cc_program.proofs.Each.{Each}
use Rattle.cc_typed_bodies.specs.CcScopes.State.{State}
use Rattle.cc_typed_bodies.specs.CcScopes.Verdicts.{whole}
use Rattle.cc_sound_terms.proofs.Founds.{then_found, whole_found, then_judged}
use Rattle.cc_typed_bodies.specs.CcSpecifiers.Attributes.{is_function, are_meant}
use Rattle.cc_typed_bodies.specs.CcSpecifiers.Specifiers.{no_specifier, with_base, with_storage, word_beside, type_beside, said, with_mark, with_specifier, named_type, specified}
use Rattle.cc_typed_bodies.specs.CcSpecifiers.Storage.{storage_fits, fits_storage}
use Rattle.cc_typed_bodies.specs.CcSpecifiers.declared.specifier.Specified.{Specified}
use Rattle.cc_typed_bodies.specs.CcSpecifiers.declared.specifier.Specifier.{Specifier}
use Rattle.cc_typed_bodies.specs.CcSpecifiers.declared.specifier.Specifier.TheVariants as specifier
use Rattle.cc_typed_bodies.specs.CcSpecifiers.declared.specifier.Specs.{Specs}
use Rattle.cc_typed_bodies.specs.CcSpecifiers.declared.storage.Setting.{Setting}
use Rattle.cc_typed_bodies.specs.CcSpecifiers.declared.storage.Where.{Where}
use Rattle.cc_typed_bodies.specs.CcSpecifiers.declared.storage.Where.TheVariants as stands
use Rattle.cc_typed_bodies.proofs.CcSyntax.Prefixes.{both_true}
use Rattle.cc_typed_bodies.specs.CcTerms.InTurn.{in_turn}
use Rattle.cc_typed_bodies.specs.CcTerms.Meanings.{SpecMeaning}
use Rattle.cc_typed_bodies.specs.CcTerms.Specifiers.{specifier_found, specifiers_found, specified_found}
use Rattle.cc_tree.specs.declared.at.At.{At}
use Rattle.cc_tree.specs.declared.unit.Init.{Init}
use Rattle.cc_program.specs.CcWords.declared.word.Word.{Word}
use Rattle.cc_program.specs.CcWords.declared.word.Word.TheVariants as w

pub same_specs : (a b : Specs) → given a ≡ Ok b → a ≡ b
same_specs a b h = ok_is h

pub same_specified : (a b : Specified) → given a ≡ Ok b → a ≡ b
same_specified a b h = ok_is h

pub word_is : (a b : Word) → Some a ≡ Some b → a ≡ b
word_is a b h = cc

module _ (setting : Setting) where
  -- a storage class has a meaning there
  abbrev pub IsFit : Specs → Type 0
  IsFit s = (x : Word) → s.storage ≡ Some x → fits_storage setting x ≡ true

  kept_fit : (a c s : Specs) → given a ≡ Ok c → a.storage ≡ s.storage → IsFit s → IsFit c
  kept_fit a c s h e f = λ x g. f x (sym e ∙ ap (λ (d : Specs). d.storage) (same_specs a c h) ∙ g)

  stored_fit : (x : Word) (s c : Specs) → with_storage setting x s ≡ Ok c → IsFit c
  stored_fit x s c h =
      let one : Specs = record { storage = Some x; constant = s.constant; volatile = s.volatile; base = s.base; marks = s.marks } in
      let m = must_ok (not (is_some s.storage) && fits_storage setting x) rule.StorageClass (Ok one) c h in
      let b = both_true (not (is_some s.storage)) (fits_storage setting x) m.0 in
      λ y g. ap (fits_storage setting) (word_is y x (sym g ∙ sym (ap (λ (d : Specs). d.storage) (same_specs one c m.1)))) ∙ b.1

  said_fit : (x : Word) (s c : Specs) → said setting x s ≡ Ok c → IsFit s → IsFit c
  said_fit w.Typedef s c h f = stored_fit w.Typedef s c h
  said_fit w.Extern s c h f = stored_fit w.Extern s c h
  said_fit w.Static s c h f = stored_fit w.Static s c h
  said_fit w.Auto s c h f = stored_fit w.Auto s c h
  said_fit w.Register s c h f = stored_fit w.Register s c h
  said_fit w.Const s c h f = kept_fit (record { storage = s.storage; constant = true; volatile = s.volatile; base = s.base; marks = s.marks }) c s h refl f
  said_fit w.Volatile s c h f = kept_fit (record { storage = s.storage; constant = s.constant; volatile = true; base = s.base; marks = s.marks }) c s h refl f
  said_fit w.Restrict s c h f = kept_fit s c s h refl f
  said_fit w.Inline s c h f = kept_fit s c s h refl f
  said_fit w.Extension s c h f = kept_fit s c s h refl f
  said_fit x s c h f = kept_fit (with_base (word_beside x s.base) s) c s h refl f

  specifier_fit : (at : ℕ) (p : Specifier) (s c : Specs) → with_specifier setting at p s ≡ Ok c → IsFit s → IsFit c
  specifier_fit at (specifier.Word x) s c h f = said_fit x s c h f
  specifier_fit at (specifier.Type t) s c h f = kept_fit (with_base (type_beside t s.base) s) c s h refl f
  specifier_fit at (specifier.Attributes ms) s c h f =
      let m = must_ok (are_meant setting.entities ms) rule.Attribute (Ok (with_mark at ms s)) c h in
      kept_fit (with_mark at ms s) c s m.1 refl f

  specifiers_fit : (xs : List (At SpecMeaning)) (b : Specs) (s : State) (r : Specs × State) → IsFit b → in_turn (specifier_found setting) xs b s ≡ Ok r → IsFit r.0
  specifiers_fit [] b s r f h = let e : (b, s) ≡ r = cc in subst IsFit (ap (λ y. y.0) e) f
  specifiers_fit (x ∷ xs) b s r f h =
      let a = then_found (specifier_found setting x b s) (in_turn (specifier_found setting) xs) r h in
      let c = then_found (x.node x.at s) (λ p s. whole x.at s (with_specifier setting x.at p b)) a.0 a.1 in
      let d = whole_found x.at c.0.1 (with_specifier setting x.at c.0.0 b) a.0 c.2 in
      specifiers_fit xs a.0.0 a.0.1 r (specifier_fit x.at c.0.0 b a.0.0 d.0 f) a.2

  nothing_stored : IsFit no_specifier
  nothing_stored = λ x h. absurd (cc)

  pub specified_same : (s : Specs) (x : Specified) → specified s ≡ Ok x → s ≡ x.specs
  specified_same s x h =
      let a = then_judged (named_type s) (λ t. Ok (record { specs = s; ctype = t })) x h in
      ap (λ (y : Specified). y.specs) (same_specified (record { specs = s; ctype = a.0 }) x a.2)

  pub specified_fit : (xs : List (At SpecMeaning)) (s : State) (r : Specified × State) → specified_found setting xs s ≡ Ok r → IsFit r.0.specs
  specified_fit xs s r h =
      let a = then_found (specifiers_found setting xs s) (λ specs s. whole (begin xs) s (specified specs)) r h in
      let b = whole_found (begin xs) a.0.1 (specified a.0.0) r a.2 in
      subst IsFit (specified_same a.0.0 r.0 b.0) (specifiers_fit xs no_specifier s a.0 nothing_stored a.1)

-- ---- which storage class goes with an initialiser

pub typedef_plain : (place : Where) (function given : Bool) → storage_fits place function given w.Typedef ≡ true → given ≡ false
typedef_plain stands.AtFile function false h = refl
typedef_plain stands.AtFile function true h = absurd (cc)
typedef_plain stands.InBlock function false h = refl
typedef_plain stands.InBlock function true h = absurd (cc)
typedef_plain stands.InFor function given h = absurd (cc)
typedef_plain stands.OfDefinition function given h = absurd (cc)
typedef_plain stands.AsParameter function given h = absurd (cc)
typedef_plain stands.AsMember function given h = absurd (cc)
typedef_plain stands.InTypeName function given h = absurd (cc)

-- in a function
pub data IsInside : Where → Type 0 where
  Block : IsInside stands.InBlock
  For : IsInside stands.InFor

extern_plain : (place : Where) (function given : Bool) → IsInside place → storage_fits place function given w.Extern ≡ true → given ≡ false
extern_plain _ function false Block h = refl
extern_plain _ function true Block h = absurd (cc)
extern_plain _ function given For h = absurd (cc)

-- ---- which category has which storage class

pub function_typedef : (x : Option Word) → function_category x ≡ declares.Typedef → x ≡ Some w.Typedef
function_typedef None h = absurd (cc)
function_typedef (Some w.Typedef) h = refl
function_typedef (Some w.Static) h = absurd (cc)
function_typedef (Some x) h = absurd (cc)

pub function_linked : (x : Option Word) (asked : DeclaredAs) → function_category x ≡ declares.Linked asked → ⊥
function_linked None asked h = absurd (cc)
function_linked (Some w.Typedef) asked h = absurd (cc)
function_linked (Some w.Static) asked h = absurd (cc)
function_linked (Some x) asked h = absurd (cc)

block_typedef : (x : Option Word) → block_category x ≡ declares.Typedef → x ≡ Some w.Typedef
block_typedef None h = absurd (cc)
block_typedef (Some w.Typedef) h = refl
block_typedef (Some w.Static) h = absurd (cc)
block_typedef (Some w.Extern) h = absurd (cc)
block_typedef (Some x) h = absurd (cc)

block_linked : (x : Option Word) (asked : DeclaredAs) → block_category x ≡ declares.Linked asked → x ≡ Some w.Extern
block_linked None asked h = absurd (cc)
block_linked (Some w.Typedef) asked h = absurd (cc)
block_linked (Some w.Static) asked h = absurd (cc)
block_linked (Some w.Extern) asked h = refl
block_linked (Some x) asked h = absurd (cc)

inside_typedef : (place : Where) (x : Option Word) (function : Bool) → IsInside place → category_by place x function ≡ declares.Typedef → x ≡ Some w.Typedef
inside_typedef place x true i h = function_typedef x h
inside_typedef _ x false Block h = block_typedef x h
inside_typedef _ x false For h = block_typedef x h

inside_linked : (place : Where) (x : Option Word) (function : Bool) (asked : DeclaredAs) → IsInside place → category_by place x function ≡ declares.Linked asked → x ≡ Some w.Extern
inside_linked place x true asked i h = absurd (function_linked x asked h)
inside_linked _ x false asked Block h = block_linked x asked h
inside_linked _ x false asked For h = block_linked x asked h

-- ---- what is declared so is given nothing

pub record IsPlain (place : Where) (storage : Option Word) (i : At Init) : Type 0 where
  pub typedefs : (function : Bool) → category_by place storage function ≡ declares.Typedef → i.node.value ≡ None
  pub linked : (function : Bool) (asked : DeclaredAs) → category_by place storage function ≡ declares.Linked asked → i.node.value ≡ None

pub not_given : {A : Type 0} (o : Option A) → is_some o ≡ false → o ≡ None
not_given None h = refl
not_given (Some x) h = absurd (cc)

or_false : (a b : Bool) → a || b ≡ false → (a ≡ false) × (b ≡ false)
or_false false b h = (refl, h)
or_false true b h = absurd (cc)

pub none_given : (is : List (At Init)) → list_any is_given is ≡ false → Each (λ (i : At Init). i.node.value ≡ None) is
none_given [] h = tt
none_given (i ∷ is) h = let b = or_false (is_given i) (list_any is_given is) h in (not_given i.node.value b.0, none_given is b.1)

all_plain : (place : Where) (storage : Option Word) (is : List (At Init)) → Each (λ (i : At Init). i.node.value ≡ None) is → Each (IsPlain place storage) is
all_plain place storage [] h = tt
all_plain place storage (i ∷ is) h = (record { typedefs = λ f e. h.0; linked = λ f a e. h.0 }, all_plain place storage is h.1)

none_so : (place : Where) (storage : Option Word) (is : List (At Init)) → (storage ≡ Some w.Typedef → ⊥) → (storage ≡ Some w.Extern → ⊥) → IsInside place → Each (IsPlain place storage) is
none_so place storage [] f g i = tt
none_so place storage (x ∷ xs) f g i =
    (record { typedefs = λ b e. absurd (f (inside_typedef place storage b i e)); linked = λ b a e. absurd (g (inside_linked place storage b a i e)) }, none_so place storage xs f g i)

pub plain_inside : (setting : Setting) (specs : Specs) (is : List (At Init)) (b : Bool) → IsFit setting specs → IsInside setting.place → setting.given ≡ list_any is_given is → list_any is_given is ≡ b → Each (IsPlain setting.place specs.storage) is
plain_inside setting specs is false f i e h = all_plain setting.place specs.storage is (none_given is h)
plain_inside setting specs is true f i e h =
    none_so setting.place specs.storage is
    (λ k. let c : true ≡ false = sym (e ∙ h) ∙ typedef_plain setting.place (list_any is_function setting.entities) setting.given (f w.Typedef k) in absurd (cc))
    (λ k. let c : true ≡ false = sym (e ∙ h) ∙ extern_plain setting.place (list_any is_function setting.entities) setting.given i (f w.Extern k) in absurd (cc)) i
