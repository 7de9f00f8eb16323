-- The specifiers of a type that is not derived from others name it, behind words of a storage class and attributes too.
use Rattle.std.proofs.Common.{◌≡◌, ℕ, Bool, List, [], ◌∷◌, map, Option, Some, None, Ok, refl, ap, sym, ◌∙◌, slice_get}
use Rattle.cc_terms.specs.CcTypedTerms.Specifiers.{begin, as_type}
use Rattle.cc_program.specs.CcNum.declared.int_type.IntType.{IntType}
use Rattle.cc_terms.specs.CcOperands.Qualified.{ShapeChange, plain, shape_change, type_change, at_element, with_shape as changed_shape, further, qualified_by}
use Rattle.cc_terms.specs.CcOperands.Verdicts.{Judged, judge_then}
use Rattle.cc_program.specs.declared.program.Program.{Program}
use Rattle.cc_program.specs.declared.program.Roles.{Roles}
use Rattle.cc_program.specs.declared.types.CType.{CType, fold-CType, fold_out-CType}
use Rattle.cc_program.specs.declared.types.Shape.{Shape, Void, Int, Struct, out-Shape, roll-Shape, roll-out-Shape, fold-Shape, fold_out-Shape, map-Shape}
use Rattle.cc_program.specs.declared.types.Shape.TheOpen as shape
use Rattle.cc_program.specs.declared.types.Shape.TheVariants.{outs-Void, outs-Int, outs-Struct}
use Rattle.cc_program.specs.declared.types.Sig.{Sig, fold-Sig}
use Rattle.cc_program.specs.declared.types.Structure.{Structure}
use Rattle.cc_terms.specs.CcScopes.State.{State}
use Rattle.cc_terms.specs.CcScopes.Structures.{structure_named, structure_type}
use Rattle.cc_terms.specs.CcScopes.Verdicts.{Found, whole, and_then}
use Rattle.cc_terms.specs.CcScopes.declared.designated.Tagged.{Tagged}
use Rattle.cc_terms.specs.CcSpecifiers.BasicTypes.{no_word}
use Rattle.cc_terms.specs.CcSpecifiers.Specifiers.{with_specifier, shape_or, named_type, specified}
use Rattle.cc_terms.specs.CcSpecifiers.declared.attribute.Attribute.{Attribute}
use Rattle.cc_terms.specs.CcSpecifiers.declared.specifier.Base.{Base}
use Rattle.cc_terms.specs.CcSpecifiers.declared.specifier.Base.TheVariants as base
use Rattle.cc_terms.specs.CcSpecifiers.declared.specifier.Specifier.{Specifier}
use Rattle.cc_terms.specs.CcSpecifiers.declared.specifier.Specifier.TheVariants as specifier
use Rattle.cc_terms.specs.CcSpecifiers.declared.specifier.Specs.{Specs}
use Rattle.cc_terms.specs.CcSpecifiers.declared.storage.Setting.{Setting}
use Rattle.cc_terms.specs.InTurn.{in_turn}
use Rattle.cc_terms.specs.Specifiers.{specifier_found, specified_found}
use Rattle.cc_terms.specs.Terms.{spec_of, spec_here}
use Rattle.cc_tree.specs.declared.at.At.{At}
use Rattle.cc_tree.specs.declared.tree.Declr.TheOpen as one
use Rattle.cc_tree.specs.declared.tree.Spec as spec
use Rattle.cc_tree.specs.declared.tree.Spec.{Spec}
use Rattle.cc_tree.specs.declared.tree.Spec.TheVariants as spec_rolls
use Rattle.cc_expression_trees.specs.Types.{ShowsBase, ShowsVoid, ShowsInt, ShowsStructure, qualifier_words, int_words}
use Rattle.cc_program.specs.CcWords.declared.word.Word.{Word}
use Rattle.cc_program.specs.CcWords.declared.word.Word.TheVariants as w
use Rattle.cc_shown_expressions.specs.Known.{KnowsStructures}
use Rattle.cc_shown_expressions.specs.Numbers.{type_numbered}
use Rattle.cc_shown_expressions.proofs.Numbering.{level, level-at, constant-kept, volatile-kept}
use Rattle.cc_shown_expressions.proofs.Words.{start, reached, basic_of, void_words, basic-named, qualifiers-told, int-told, void-told, spec-at, words-found, words-behind}

-- ---- qualifiers of types that are no arrays and no functions

module _ (change : CType → CType) where
  abbrev parts : shape.Shape-F Shape CType Sig → shape.Shape-F ShapeChange (CType → CType) (Unit {0})
  parts x = map-Shape Shape CType Sig ShapeChange (CType → CType) (Unit {0}) (fold-Shape ShapeChange (CType → CType) (Unit {0}) (shape_change change) (type_change change) (λ s. tt))
      (fold-CType ShapeChange (CType → CType) (Unit {0}) (shape_change change) (type_change change) (λ s. tt)) (fold-Sig ShapeChange (CType → CType) (Unit {0}) (shape_change change) (type_change change) (λ s. tt)) x

  element-opens : (t : CType) → at_element change t ≡ type_change change (record { constant = t.constant; volatile = t.volatile; shape = shape_change change (parts (out-Shape t.shape)) }) t
  unfolding at_element
  element-opens t =
      ap (λ (f : CType → CType). f t) (fold_out-CType ShapeChange (CType → CType) (Unit {0}) (shape_change change) (type_change change) (λ s. tt) t)
      ∙ ap (λ (f : ShapeChange). type_change change (record { constant = t.constant; volatile = t.volatile; shape = f }) t)
      (fold_out-Shape ShapeChange (CType → CType) (Unit {0}) (shape_change change) (type_change change) (λ s. tt) t.shape)

  pub opens-as : (t : CType) (x : shape.Shape-F Shape CType Sig) → out-Shape t.shape ≡ x → at_element change t ≡ changed_shape change t (shape_change change (parts x) x)
  opens-as t x e = element-opens t ∙ ap (λ y. changed_shape change t (shape_change change (parts y) y)) e

-- a type of its fields
pub type-of-fields : (t u : CType) → t.constant ≡ u.constant → t.volatile ≡ u.volatile → t.shape ≡ u.shape → t ≡ u
type-of-fields t u h k l = ap (λ (b : Bool). record { constant = b; volatile = t.volatile; shape = t.shape }) h
    ∙ ap (λ (b : Bool). record { constant = u.constant; volatile = b; shape = t.shape }) k
    ∙ ap (λ (s : Shape). record { constant = u.constant; volatile = u.volatile; shape = s }) l

pub shape-of-level : (s t : Shape) → out-Shape s ≡ out-Shape t → s ≡ t
shape-of-level s t h = sym (roll-out-Shape s) ∙ ap roll-Shape h ∙ roll-out-Shape t

void-qualified : (c v : Bool) → qualified_by c v (plain Void) ≡ record { constant = c; volatile = v; shape = Void }
void-qualified c v = opens-as (further c v) (plain Void) shape.Void outs-Void ∙ rw outs-Void refl

int-qualified : (c v : Bool) (i : IntType) → qualified_by c v (plain (Int i)) ≡ record { constant = c; volatile = v; shape = Int i }
int-qualified c v i = opens-as (further c v) (plain (Int i)) (shape.Int i) (outs-Int i) ∙ rw (outs-Int i) refl

struct-qualified : (c v : Bool) (i : ℕ) → qualified_by c v (plain (Struct i)) ≡ record { constant = c; volatile = v; shape = Struct i }
struct-qualified c v i = opens-as (further c v) (plain (Struct i)) (shape.Struct i) (outs-Struct i) ∙ rw (outs-Struct i) refl

module _ (p : Program) (number : ℕ → ℕ) (roles : Roles) (s : State) (known : KnowsStructures p number s) where
  abbrev numbered : CType → CType
  numbered t = type_numbered number t

  -- specifiers, behind those that name no type yet
  pub record BaseFound (setting : Setting) (storage : Option Word) (marks : List (At (List Attribute))) (b : CType) (ss : List (At Spec)) : Type 0 where
    pub base : Base
    pub is : in_turn (specifier_found setting) (map (spec_here p.target roles) ss) (start storage marks) s ≡ Ok (reached storage marks b.constant b.volatile base, s)
    pub typed : named_type (reached storage marks b.constant b.volatile base) ≡ Ok (numbered b)

  numbered-is : (b : CType) (x : Shape) (y : shape.Shape-F Shape CType Sig) → out-Shape b.shape ≡ y → out-Shape x ≡ level number y → record { constant = b.constant; volatile = b.volatile; shape = x } ≡ numbered b
  numbered-is b x y e f =
      type-of-fields (record { constant = b.constant; volatile = b.volatile; shape = x }) (numbered b) (sym (constant-kept number b)) (sym (volatile-kept number b)) (shape-of-level x (numbered b).shape (f ∙ sym (level-at number b y e)))

  structure-found : (i at : ℕ) (t : Structure) → slice_get p.structures i ≡ Some t → spec_of p.target roles (spec.Struct (Some t.tag) None [] []) at s ≡ Ok (specifier.Type (structure_type (number i)), s)
  structure-found i at t e =
      spec-at p.target roles (spec.Struct (Some t.tag) None [] []) (one.Struct (Some t.tag) None [] []) (spec_rolls.outs-Struct (Some t.tag) None [] []) at s
      ∙ ap (λ (g : Option Tagged). as_type (structure_named at t.tag s g)) (known.tags i t e)

  tag-turn : (setting : Setting) (storage : Option Word) (marks : List (At (List Attribute))) (c v : Bool) (i at : ℕ) (t : Structure) → slice_get p.structures i ≡ Some t →
      in_turn (specifier_found setting) (map (spec_here p.target roles) (record { at = at; node = spec.Struct (Some t.tag) None [] [] } ∷ [])) (reached storage marks c v (base.Words no_word)) s
      ≡ Ok (reached storage marks c v (base.Itself (structure_type (number i))), s)
  tag-turn setting storage marks c v i at t e =
      ap (λ (m : Found Specifier). and_then (and_then m (λ p s. whole at s (with_specifier setting at p (reached storage marks c v (base.Words no_word))))) (λ b s. Ok (b, s))) (structure-found i at t e)

  pub base-found : (setting : Setting) (storage : Option Word) (marks : List (At (List Attribute))) (b : CType) (ss : List (At Spec)) → ShowsBase p.structures b ss → BaseFound setting storage marks b ss
  base-found setting storage marks _ _ (ShowsVoid b qs ss e r k) = record {
    base = base.Words void_words;
    is = words-behind p.target roles setting (qualifier_words b.constant b.volatile) qs ss r (start storage marks) (reached storage marks b.constant b.volatile (base.Words no_word)) s (qualifiers-told setting storage marks b.constant b.volatile)
        ∙ words-found p.target roles setting (w.Void ∷ []) ss k (reached storage marks b.constant b.volatile (base.Words no_word)) (reached storage marks b.constant b.volatile (base.Words void_words)) s (void-told setting storage marks b.constant b.volatile);
    typed = ap (λ (t : CType). Ok t) (void-qualified b.constant b.volatile ∙ numbered-is b Void shape.Void e outs-Void);
  }
  base-found setting storage marks _ _ (ShowsInt b i qs ss e r k) = record {
    base = base.Words (basic_of i);
    is = words-behind p.target roles setting (qualifier_words b.constant b.volatile) qs ss r (start storage marks) (reached storage marks b.constant b.volatile (base.Words no_word)) s (qualifiers-told setting storage marks b.constant b.volatile)
        ∙ words-found p.target roles setting (int_words i) ss k (reached storage marks b.constant b.volatile (base.Words no_word)) (reached storage marks b.constant b.volatile (base.Words (basic_of i))) s (int-told setting storage marks b.constant b.volatile i);
    typed = ap (λ (o : Option Shape). judge_then (shape_or o) (λ t. Ok (qualified_by b.constant b.volatile t))) (basic-named i)
        ∙ ap (λ (t : CType). Ok t) (int-qualified b.constant b.volatile i ∙ numbered-is b (Int i) (shape.Int i) e (outs-Int i));
  }
  base-found setting storage marks _ _ (ShowsStructure b i t qs at e g r) = record {
    base = base.Itself (structure_type (number i));
    is = words-behind p.target roles setting (qualifier_words b.constant b.volatile) qs (record { at = at; node = spec.Struct (Some t.tag) None [] [] } ∷ []) r (start storage marks) (reached storage marks b.constant b.volatile (base.Words no_word)) s (qualifiers-told setting storage marks b.constant b.volatile)
        ∙ tag-turn setting storage marks b.constant b.volatile i at t g;
    typed = ap (λ (t : CType). Ok t) (struct-qualified b.constant b.volatile (number i) ∙ numbered-is b (Struct (number i)) (shape.Struct i) e (outs-Struct (number i)));
  }

  -- specifiers alone
  pub record SpecifiedFound (setting : Setting) (b : CType) (ss : List (At Spec)) : Type 0 where
    pub specs : Specs
    pub plain : specs.storage ≡ None
    pub unmarked : specs.marks ≡ []
    pub is : specified_found setting (map (spec_here p.target roles) ss) s ≡ Ok (record { specs = specs; ctype = numbered b }, s)

  pub specified-found : (setting : Setting) (b : CType) (ss : List (At Spec)) → ShowsBase p.structures b ss → SpecifiedFound setting b ss
  specified-found setting b ss h =
      let f = base-found setting None [] b ss h in
      let specs = reached None [] b.constant b.volatile f.base in
      record {
        specs = specs;
        plain = refl;
        unmarked = refl;
        is = ap (λ (m : Found Specs). and_then m (λ specs s. whole (begin (map (spec_here p.target roles) ss)) s (specified specs))) f.is
            ∙ ap (λ (m : Judged CType). whole (begin (map (spec_here p.target roles) ss)) s (judge_then m (λ t. Ok (record { specs = specs; ctype = t })))) f.typed;
      }
