-- What a declaration is read as; and lists of parameters, over what their types are read as.
use Rattle.std.proofs.Common.{◌≡◌, ℕ, ◌+◌, Bool, true, false, ◌&&◌, not, List, [], ◌∷◌, ◌++◌, map, length, Option, Some, None, refl, sym, ◌∙◌, subst, append_assoc, append-nil, true≢false}
use Rattle.std.specs.List.{list_all}
use Rattle.std.proofs.lemmas.List.Folds.{list_all-append}
use Rattle.cc_program.specs.CcNum.declared.int_type.IntType.{IntType}
use Rattle.cc_program.specs.CcNum.declared.int_type.IntType.TheVariants as int
use Rattle.cc_program.specs.CcWords.declared.word.Word.{Word}
use Rattle.cc_program.specs.CcWords.declared.word.Word.TheVariants as w
use Rattle.cc_lex.specs.declared.token.Mark.TheVariants as m
use Rattle.cc_lex.proofs.Booleans.{and-true, both-true, and-false, not-true}
use Rattle.cc_program.specs.declared.types.CType.{CType}
use Rattle.cc_program.specs.declared.types.Shape.{out-Shape}
use Rattle.cc_program.specs.declared.types.Shape.TheOpen as shape
use Rattle.cc_program.specs.declared.types.Structure.{Structure}
use Rattle.cc_tree.specs.declared.at.At.{At}
use Rattle.cc_tree.specs.declared.tree.Declr as declr
use Rattle.cc_tree.specs.declared.tree.Declr.{Declr}
use Rattle.cc_tree.specs.declared.tree.Param.{Param}
use Rattle.cc_tree.specs.declared.tree.Params as params
use Rattle.cc_tree.specs.declared.tree.Spec as spec
use Rattle.cc_tree.specs.declared.tree.Spec.{Spec}
use Rattle.cc_tree.specs.Terms.{IsSpecs, Specs, IsSpecList, NoSpec, IsDeclr, NoName, DeclaredName, IsParam, AParam, IsParamList, FirstParam, MoreParams, VoidParams, ManyParams, have_word, is_nothing, is_void, is_void_list, is_only_void}
use Rattle.cc_tree.specs.Tokens.{Tokens, Name, at as at_of}
use Rattle.cc_pieces.specs.Declarators.{Declarator, gap}
use Rattle.cc_pieces.specs.declared.types.Inside.{Inside}
use Rattle.cc_pieces.specs.declared.types.Inside.TheVariants.{Nothing, Name as Named}
use Rattle.cc_pieces.specs.Pieces.{Pieces, punct, keyword, ident, space, flat}
use Rattle.cc_expression_trees.specs.Laid.{laid}
use Rattle.cc_expression_trees.specs.Parts.{Fits}
use Rattle.cc_expression_trees.specs.Soft.{IsSoft}
use Rattle.cc_expression_trees.specs.Types.{ShowsWords, NoWord, MoreWords, qualifier_words, int_words, ShowsBase, ShowsVoid, ShowsInt, ShowsStructure, Core, Plain, Declares, DeclaresNothing, DeclaresName, DeclaresFunction, InParens, DeclaresPointer, DeclaresArray, DeclaresFunc, ShowsNone, ShowsSome, ShowsParamList, NoParam, MoreParams as ShowsMore}
use Rattle.cc_expression_trees.proofs.TypeFitting.{soft-no-equal, word-apart}
use Rattle.cc_expression_trees.proofs.Words.{is_closed, closed-apart}
use Rattle.cc_expression_trees.proofs.Bases.{ReadsBase}
use Rattle.cc_expression_trees.proofs.Insides.{Inner, past-gap, ReadsInner, ReadsParams, FitsInner}

-- what a type writes round what is inside
abbrev pub around : Declarator → Inside → Inner → Inner
around d inside inner ps = d.front inside (inner (d.behind inside ps))

-- ---- `(void)` is no list of parameters

abbrev is_other_word : Word → Bool
is_other_word x = not (is_void (spec.Word x))

abbrev is_other : At Spec → Bool
is_other s = not (is_void s.node)

qualifiers-other : (c v : Bool) → list_all is_other_word (qualifier_words c v) ≡ true
qualifiers-other true true = refl
qualifiers-other true false = refl
qualifiers-other false true = refl
qualifiers-other false false = refl

int-other : (i : IntType) → list_all is_other_word (int_words i) ≡ true
int-other int.Bool = refl
int-other _ = refl

words-other : {xs : List Word} {ss : List (At Spec)} → ShowsWords xs ss → list_all is_other_word xs ≡ true → list_all is_other ss ≡ true
words-other NoWord e = refl
words-other (MoreWords x xs at ss h) e =
    let f = and-true (is_other_word x) (list_all is_other_word xs) e in
    both-true (is_other_word x) (list_all is_other ss) f.0 (words-other h f.1)

other-list : (ss : List (At Spec)) → list_all is_other ss ≡ true → is_void_list ss ≡ false
other-list [] h = refl
other-list (s ∷ []) h = not-true (is_void s.node) (and-true (is_other s) true h).0
other-list (s ∷ t ∷ ss) h = refl

both-other : (qs ss : List (At Spec)) → list_all is_other qs ≡ true → list_all is_other ss ≡ true → is_void_list (qs ++ ss) ≡ false
both-other qs ss h k = other-list (qs ++ ss) (list_all-append is_other qs ss ∙ both-true (list_all is_other qs) (list_all is_other ss) h k)

base-other : {structures : List Structure} {t : CType} {ss : List (At Spec)} → ShowsBase structures t ss → (out-Shape t.shape ≡ shape.Void → ⊥) → is_void_list ss ≡ false
base-other (ShowsVoid t qs ss k h g) n = absurd (n k)
base-other (ShowsInt t i qs ss k h g) n = both-other qs ss (words-other h (qualifiers-other t.constant t.volatile)) (words-other g (int-other i))
base-other (ShowsStructure t i s qs at k f h) n = both-other qs (record { at = at; node = spec.Struct (Some s.tag) None [] [] } ∷ []) (words-other h (qualifiers-other t.constant t.volatile)) refl

none-void : {structures : List Structure} {b t : CType} {ss : List (At Spec)} {d : Declr} {core : Core} → ShowsBase structures b ss → Declares structures b d core t → (out-Shape t.shape ≡ shape.Void → ⊥) → (is_void_list ss && is_nothing d) ≡ false
none-void {ss = ss} s (DeclaresNothing t) n = rw (base-other s n) refl
none-void {ss = ss} s (DeclaresName t x) n = and-false (is_void_list ss)
none-void {ss = ss} s (DeclaresFunction t x entries ps at h) n = and-false (is_void_list ss)
none-void {ss = ss} s (InParens b t d core h) n = and-false (is_void_list ss)
none-void {ss = ss} s (DeclaresPointer c b t d core k h) n = and-false (is_void_list ss)
none-void {ss = ss} s (DeclaresArray c b t k d core at l f g h) n = and-false (is_void_list ss)
none-void {ss = ss} s (DeclaresFunc c t sig ps d core k f g p h) n = and-false (is_void_list ss)

only-void : (p : At Param) (ps : List (At Param)) → (is_void_list p.node.specs && is_nothing p.node.declr.node) ≡ false → is_only_void (p ∷ ps) ≡ false
only-void p [] h = h
only-void p (q ∷ ps) h = refl

-- ---- declarations

module _ (structures : List Structure) where
  pub record ReadsDeclaration (core : Core) (t : CType) (done : List (At Spec)) (all : Tokens) (ps : Pieces) : Type 0 where
    pub base : CType
    pub specs : List (At Spec)
    pub shows_base : ShowsBase structures base specs
    pub have : have_word specs ≡ true
    pub closed : list_all is_closed specs ≡ true
    pub rest : Tokens
    pub is_specs : IsSpecList [] (done ++ specs) all rest
    pub declr : At Declr
    pub shows : Declares structures base declr.node core t
    pub next : ℕ
    pub is : IsDeclr [] false declr rest (laid next ps)

  -- what a type writes is read as what declares the type, round whatever is inside
  abbrev pub Reads : Declarator → CType → Type 0
  Reads d t = (core : Core) (whole : CType) (inside : Inside) (inner : Inner) → ReadsInner structures core t whole inside inner → (done : List (At Spec)) (all : Tokens) (at : ℕ) (ps : Pieces) →
      IsSpecList [] done all (laid at (around d inside inner ps)) → ReadsDeclaration core whole done all ps

  pub from-base : (t : CType) (core : Core) (whole : CType) (inside : Inside) (inner : Inner) → ReadsInner structures core t whole inside inner → (done : List (At Spec)) (all : Tokens) (ps : Pieces) →
      ReadsBase structures t done all (gap inside (inner ps)) → ReadsDeclaration core whole done all ps
  from-base t core whole inside inner h done all ps r =
      let g = past-gap inside r.next (inner ps) in
      let q = h false g.0 ps (λ _. refl) in
      record {
        base = t;
        specs = r.specs;
        shows_base = r.shows;
        have = r.have;
        closed = r.closed;
        rest = laid g.0 (inner ps);
        is_specs = subst (λ us. IsSpecList [] (done ++ r.specs) all us) g.1 r.is;
        declr = q.declr;
        shows = q.shows;
        next = q.next;
        is = q.is;
      }

  -- ---- what is declared

  pub nothing-reads : (t : CType) → ReadsInner structures (Plain None) t t Nothing (λ qs. qs)
  nothing-reads t direct at ps e = record { declr = at_of (laid at ps) declr.Nothing; some = λ e. absurd (true≢false (sym e)); shows = DeclaresNothing t; next = at; is = NoName [] direct (laid at ps) }

  pub name-reads : (x : Name) (t : CType) → ReadsInner structures (Plain (Some x)) t t Named (λ qs. ident x ∷ qs)
  name-reads x t direct at ps e = record { declr = record { at = at; node = declr.Named x }; some = λ e. absurd (true≢false (sym e)); shows = DeclaresName t x; next = at + length x; is = DeclaredName [] direct x (at, length x) _ refl }

  -- the specifiers of a declaration with nothing in front
  pub specs-of : {core : Core} {t : CType} {all : Tokens} {ps : Pieces} → (r : ReadsDeclaration core t [] all ps) → IsSpecs [] r.specs all r.rest
  specs-of r = Specs [] r.specs _ r.rest r.is_specs r.have (closed-apart r.specs r.closed)

  -- ---- parameters

  -- a type with the name that it declares, if it has one
  pub record Parameter : Type 0 where
    pub name : Option Name
    pub type : CType
    pub pieces : Inner

  abbrev pub entry : Parameter → Option Name × CType
  entry a = (a.name, a.type)

  abbrev pub ReadsParameter : Parameter → Type 0
  ReadsParameter a = ((all : Tokens) (at : ℕ) (ps : Pieces) → IsSpecList [] [] all (laid at (a.pieces ps)) → ReadsDeclaration (Plain a.name) a.type [] all ps) × (out-Shape a.type.shape ≡ shape.Void → ⊥)

  abbrev pub EachReads : List Parameter → Type 0
  EachReads [] = Unit {0}
  EachReads (a ∷ list) = ReadsParameter a × EachReads list

  abbrev pub further_pieces : List Parameter → Inner
  further_pieces [] ps = ps
  further_pieces (a ∷ list) ps = punct m.Comma ∷ space ∷ a.pieces (further_pieces list ps)

  abbrev pub parameter_pieces : List Parameter → Inner
  parameter_pieces [] ps = keyword w.Void ∷ ps
  parameter_pieces (a ∷ list) ps = a.pieces (further_pieces list ps)

  record ReadsOne (a : Parameter) (at : ℕ) (ps : Pieces) : Type 0 where
    base : CType
    specs : List (At Spec)
    declr : At Declr
    shows_base : ShowsBase structures base specs
    shows : Declares structures base declr.node (Plain a.name) a.type
    void : (is_void_list specs && is_nothing declr.node) ≡ false
    next : ℕ
    is : IsParam [] (at_of (laid at (a.pieces ps)) (record { specs = specs; declr = declr })) (laid at (a.pieces ps)) (laid next ps)

  one-read : (a : Parameter) → ReadsParameter a → (at : ℕ) (ps : Pieces) → ReadsOne a at ps
  one-read a h at ps =
      let r = h.0 (laid at (a.pieces ps)) at ps (NoSpec [] _) in
      record {
        base = r.base;
        specs = r.specs;
        declr = r.declr;
        shows_base = r.shows_base;
        shows = r.shows;
        void = none-void r.shows_base r.shows h.1;
        next = r.next;
        is = AParam [] r.specs r.declr _ r.rest _ (specs-of r) r.is;
      }

  record ReadsFurther (list : List Parameter) (done : List (At Param)) (all : Tokens) (ps : Pieces) : Type 0 where
    params : List (At Param)
    shows : ShowsParamList structures (map entry list) params
    next : ℕ
    is : IsParamList [] (done ++ params) all (laid next ps)

  further-read : (list : List Parameter) → EachReads list → (done : List (At Param)) (all : Tokens) (at : ℕ) (ps : Pieces) → IsParamList [] done all (laid at (further_pieces list ps)) → ReadsFurther list done all ps
  further-read [] h done all at ps k = record { params = []; shows = NoParam; next = at; is = subst (λ qs. IsParamList [] qs all (laid at ps)) (sym (append-nil done)) k }
  further-read (a ∷ list) h done all at ps k =
      let r = one-read a h.0 (at + 1 + 1) (further_pieces list ps) in
      let p = at_of (laid (at + 1 + 1) (a.pieces (further_pieces list ps))) (record { specs = r.specs; declr = r.declr }) in
      let b = further-read list h.1 (done ++ p ∷ []) all r.next ps (MoreParams [] done p (at, 1) all _ _ k r.is) in
      record {
        params = p ∷ b.params;
        shows = ShowsMore a.name r.base a.type r.specs r.declr p.at (map entry list) b.params r.shows_base r.shows b.shows;
        next = b.next;
        is = subst (λ qs. IsParamList [] qs all (laid b.next ps)) (append_assoc done (p ∷ []) b.params) b.is;
      }

  pub parameters-read : (list : List Parameter) → EachReads list → ReadsParams structures (map entry list) (parameter_pieces list)
  parameters-read [] h at ps = (params.Void, ShowsNone, (at + 4, VoidParams [] (at, 4) _))
  parameters-read (a ∷ list) h at ps =
      let qs = punct m.RParen ∷ ps in
      let r = one-read a h.0 at (further_pieces list qs) in
      let p = at_of (laid at (a.pieces (further_pieces list qs))) (record { specs = r.specs; declr = r.declr }) in
      let b = further-read list h.1 (p ∷ []) (laid at (a.pieces (further_pieces list qs))) r.next qs (FirstParam [] p _ _ r.is) in (
        params.Many (p ∷ b.params),
        ShowsSome (entry a) (map entry list) (p ∷ b.params) (ShowsMore a.name r.base a.type r.specs r.declr p.at (map entry list) b.params r.shows_base r.shows b.shows),
        (b.next, ManyParams [] (p ∷ b.params) _ _ (only-void p b.params r.void) b.is),
      )

  -- ---- they part

  abbrev pub FitsParameter : Parameter → Type 0
  FitsParameter a = (ps : Pieces) → Fits ps → IsSoft (flat ps) → Fits (a.pieces ps)

  abbrev pub EachFits : List Parameter → Type 0
  EachFits [] = Unit {0}
  EachFits (a ∷ list) = FitsParameter a × EachFits list

  further-fit : (list : List Parameter) → EachFits list → (ps : Pieces) → Fits ps → IsSoft (flat ps) → Fits (further_pieces list ps) × IsSoft (flat (further_pieces list ps))
  further-fit [] h ps f s = (f, s)
  further-fit (a ∷ list) h ps f s = let r = further-fit list h.1 ps f s in ((refl, refl, (refl, h.0 (further_pieces list ps) r.0 r.1)), refl)

  pub parameters-fit : (list : List Parameter) → EachFits list → (ps : Pieces) → Fits ps → IsSoft (flat ps) → Fits (parameter_pieces list ps)
  parameters-fit [] h ps f s = (tt, word-apart w.Void (flat ps) s, f)
  parameters-fit (a ∷ list) h ps f s = let r = further-fit list h.1 ps f s in h.0 (further_pieces list ps) r.0 r.1

-- ---- what is declared parts

pub nothing-fits : FitsInner Nothing (λ qs. qs)
nothing-fits ps f s = (f, (soft-no-equal (flat ps) s, λ _. s))
