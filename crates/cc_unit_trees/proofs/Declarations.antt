-- A declaration of one thing behind any specifiers, with a value or without, is read over what its type is read as.
use Rattle.std.proofs.Common.{◌≡◌, ℕ, ◌+◌, Bool, true, false, List, [], ◌∷◌, ◌++◌, length, Option, Some, None, refl, ap, sym, ◌∙◌, subst, true≢false}
use Rattle.std.specs.List.{list_all}
use Rattle.cc_program.specs.CcNum.declared.int_type.IntType.{IntType}
use Rattle.cc_program.specs.CcWords.declared.word.Word.TheVariants as w
use Rattle.cc_lex.specs.declared.token.Kind.TheVariants as kind
use Rattle.cc_lex.specs.declared.token.Mark.TheVariants as m
use Rattle.cc_bodies.specs.Stmts.{ended}
use Rattle.cc_expression_trees.specs.Constants.{plain, qualified}
use Rattle.cc_unit_trees.specs.ReadFunctions.{ReadsDecl, ReadsItem}
use Rattle.cc_pieces.specs.Declarators.{Declarator, words, int_name, gap}
use Rattle.cc_pieces.specs.declared.types.Inside.TheVariants.{Nothing, Name as Inner_name}
use Rattle.cc_pieces.specs.Pieces.{Pieces, punct, keyword, space, spelled}
use Rattle.cc_expression_trees.specs.Laid.{laid}
use Rattle.cc_print.specs.Units.{attribute}
use Rattle.cc_program.specs.declared.types.CType.{CType}
use Rattle.cc_program.specs.declared.types.Shape.{roll-Shape, out-Shape, out-roll-Shape}
use Rattle.cc_program.specs.declared.types.Shape.TheOpen as shape
use Rattle.cc_program.specs.declared.types.Structure.{Structure}
use Rattle.cc_typed.specs.CcSyntax.SameTypes.{is_void_shape}
use Rattle.cc_tree.specs.declared.at.At.{At}
use Rattle.cc_tree.specs.declared.tree.Declr.{Declr}
use Rattle.cc_tree.specs.declared.tree.Spec as spec
use Rattle.cc_tree.specs.declared.tree.Spec.{Spec}
use Rattle.cc_tree.specs.declared.tree.Spec.TheVariants as spec_rolls
use Rattle.cc_tree.specs.declared.unit.Decl.{Decl}
use Rattle.cc_tree.specs.declared.unit.Given.{Given}
use Rattle.cc_tree.specs.declared.unit.Init.{Init}
use Rattle.cc_tree.specs.declared.unit.Item.{Item}
use Rattle.cc_tree.specs.declared.unit.Item.TheVariants as item
use Rattle.cc_tree.specs.Sentences.{ADeclItem}
use Rattle.cc_tree.specs.Statements.{IsDecl, Declares as ADeclares, IsInits, FirstInit, AnInit, IsValue, NoValue, AValue}
use Rattle.cc_tree.specs.Terms.{IsSpecList, Specs, NoSpec, MoreSpecs, AnAttr, AttrOf, LastAttrWord, AttrName, NoAttr, ends_open}
use Rattle.cc_tree.specs.Tokens.{Tokens, Name, at as at_of}
use Rattle.cc_expression_trees.specs.Types.{ShowsBase, Core, Plain, Declares}
use Rattle.cc_expression_trees.proofs.Words.{is_closed, closed-apart, closed-types}
use Rattle.cc_expression_trees.proofs.Bases.{void-read, int-read, behind-have, both-closed}
use Rattle.cc_expression_trees.proofs.Insides.{Inner, ReadsInner, ReadsParams, core_name, core-named}
use Rattle.cc_expression_trees.proofs.Parameters.{around, Reads, from-base, nothing-reads, Parameter, parameters-read}
use Rattle.cc_unit_trees.specs.ReadValues.{ReadsGiven}

-- a declaration is an item
pub item-of : {S : Decl → Type 0} {T : Item → Type 0} {at : ℕ} {qs ps : Pieces} → ((d : Decl) → S d → T (item.Decl d)) → ReadsDecl S at qs ps → ReadsItem T at qs ps
item-of k r = record { item = item.Decl r.decl; shows = k r.decl r.shows; next = r.next; is = ADeclItem [] [] r.decl _ _ r.is }

-- ---- values

-- what stands in front of the `;`
pub record ReadsValue (V : Option (At Given) → Type 0) (at : ℕ) (qs ps : Pieces) : Type 0 where
  pub value : Option (At Given)
  pub shows : V value
  pub next : ℕ
  pub is : IsValue [] value (laid at qs) (laid next ps)

pub data NoGiven : Option (At Given) → Type 0 where
  Absent : NoGiven None

pub data IsGivenBy (S : Given → Type 0) : Option (At Given) → Type 0 where
  GivenBy : (g : At Given) → S g.node → IsGivenBy S (Some g)

pub no-value : (at : ℕ) (ps : Pieces) → ReadsValue NoGiven at ps ps
no-value at ps = record { value = None; shows = Absent; next = at; is = NoValue [] _ }

pub value-of : (S : Given → Type 0) (qs ps : Pieces) → ((at : ℕ) → ReadsGiven S at qs ps) → (at : ℕ) → ReadsValue (IsGivenBy S) at (space ∷ punct m.Assign ∷ space ∷ qs) ps
value-of S qs ps h at =
    let r = h (at + 1 + 1 + 1) in
    record { value = Some r.given; shows = GivenBy r.given r.shows; next = r.next; is = AValue [] r.given (at + 1, 1) _ _ r.is }

-- ---- declarations

module _ (structures : List Structure) where
  pub record ReadsOne (core : Core) (t : CType) (qs : List (At Spec)) (V : Option (At Given) → Type 0) (all : Tokens) (ps : Pieces) : Type 0 where
    pub base : CType
    pub specs : List (At Spec)
    pub declr : At Declr
    pub at : ℕ
    pub value : Option (At Given)
    pub shows_base : ShowsBase structures base specs
    pub shows : Declares structures base declr.node core t
    pub shows_value : V value
    pub next : ℕ
    pub is : IsDecl [] [] (record { specs = qs ++ specs; inits = record { at = at; node = record { declr = declr; attrs = []; value = value } } ∷ [] }) all (laid next ps)

  inits-of : {types : Bool} {is : List (At Init)} {ts us : Tokens} → types ≡ false → IsInits false [] [] is ts us → IsInits types [] [] is ts us
  inits-of {is = is} {ts = ts} {us = us} e h = subst (λ t. IsInits t [] [] is ts us) (sym e) h

  pub one-read : (qs : List (At Spec)) → list_all is_closed qs ≡ true → (d : Declarator) (t : CType) → Reads structures d t → (core : Core) (inner : Inner) → ReadsInner structures core t t Inner_name inner → (x : Name) → core_name core ≡ Some x →
      (V : Option (At Given) → Type 0) (rest ps : Pieces) → ((at : ℕ) → ReadsValue V at rest (ended ps)) → (all : Tokens) (at : ℕ) → IsSpecList [] qs all (laid at (around d Inner_name inner rest)) → ReadsOne core t qs V all ps
  one-read qs e d t k core inner h x n V rest ps value all at i =
      let r = k core t Inner_name inner h qs all at rest i in
      let v = value r.next in
      let specs = qs ++ r.specs in
      let closed = both-closed qs r.specs e r.closed in
      let init : At Init = at_of r.rest (record { declr = r.declr; attrs = []; value = v.value }) in
      record {
        base = r.base;
        specs = r.specs;
        declr = r.declr;
        at = init.at;
        value = v.value;
        shows_base = r.shows_base;
        shows = r.shows;
        shows_value = v.shows;
        next = v.next + 1 + 1;
        is = ADeclares [] [] specs (init ∷ []) (v.next, 1) all r.rest _ (Specs [] specs all r.rest r.is_specs (behind-have qs r.specs r.have) (closed-apart specs closed))
            (inits-of (closed-types specs closed) (FirstInit false [] [] init r.rest _ (AnInit false [] r.declr x [] v.value r.rest _ _ _ r.is (core-named structures r.shows ∙ n) (NoAttr _) v.is)));
      }

  -- ---- types that are one or two words

  pub void-reads : (c v : Bool) → Reads structures (words (λ ps. keyword w.Void ∷ ps) c v) (qualified c v shape.Void)
  void-reads c v core whole inside inner h done all at ps k = from-base structures (qualified c v shape.Void) core whole inside inner h done all ps (void-read structures c v done all at (gap inside (inner ps)) k)

  pub int-reads : (c v : Bool) (i : IntType) → Reads structures (words (int_name i) c v) (qualified c v (shape.Int i))
  int-reads c v i core whole inside inner h done all at ps k = from-base structures (qualified c v (shape.Int i)) core whole inside inner h done all ps (int-read structures c v i done all at (gap inside (inner ps)) k)

  -- ---- parameters: none, and one of an integer type

  pub none-reads : ReadsParams structures [] (λ ps. keyword w.Void ∷ ps)
  none-reads = parameters-read structures [] tt

  int-other : (i : IntType) → out-Shape (roll-Shape (shape.Int i)) ≡ shape.Void → ⊥
  int-other i h = true≢false (sym (ap is_void_shape (sym (out-roll-Shape (shape.Int i)) ∙ h)))

  abbrev int-parameter : IntType → Parameter structures
  int-parameter i = record { name = None; type = plain (shape.Int i); pieces = around (words (int_name i) false false) Nothing (λ qs. qs) }

  pub int-parameter-reads : (i : IntType) → ReadsParams structures ((None, plain (shape.Int i)) ∷ []) (int_name i)
  int-parameter-reads i = parameters-read structures (int-parameter i ∷ [])
      ((λ all at ps k. int-reads false false i (Plain None) (plain (shape.Int i)) Nothing (λ qs. qs) (nothing-reads structures (plain (shape.Int i))) [] all at ps k, int-other i), tt)

-- ---- an attribute

abbrev pub an_attribute : ℕ → Name → At Spec
an_attribute at x = record { at = at; node = spec.Attr (record { words = (x, None) ∷ [] }) }

pub attribute-closed : (at : ℕ) (x : Name) → is_closed (an_attribute at x) ≡ true
attribute-closed at x = rw (ap (λ y. ends_open y) (spec_rolls.outs-Attr (record { words = (x, None) ∷ [] }))) refl

pub attribute-read : (x : Name) (at : ℕ) (ps : Pieces) → (next : ℕ) × IsSpecList [] (an_attribute at x ∷ []) (laid at (attribute x ps)) (laid next ps)
attribute-read x at ps =
    let size = length (spelled (kind.Keyword w.Attribute)) in
    let name = at + size + 1 + 1 in
    let behind = name + length x in
    (behind + 1 + 1 + 1, MoreSpecs [] [] _ _ _ _ (NoSpec [] _) (AnAttr [] _ _ _ (AttrOf ((x, None) ∷ []) (at, size) (at + size, 1) (at + size + 1, 1) (behind, 1) (behind + 1, 1) _ _ (LastAttrWord (x, None) _ _ (AttrName x (name, length x) _)))))
