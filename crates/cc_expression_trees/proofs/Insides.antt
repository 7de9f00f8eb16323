-- Declarators are read from the inside out: what stands inside declares a core behind a type, and so does a pointer, an
-- array or a function round it. What is inside is an accumulator, a function of the pieces behind it.
use Rattle.std.proofs.Common.{◌≡◌, ◌≤◌, ◌-◌, ◌^◌, ℕ, ◌+◌, Bool, true, false, List, [], ◌∷◌, length, Option, Some, refl, sym, ◌∙◌, subst, true≢false}
use Rattle.cc_program.specs.CcWords.declared.word.Word.TheVariants as w
use Rattle.cc_lex.specs.declared.token.Kind.TheVariants as kind
use Rattle.cc_lex.specs.declared.token.Mark.TheVariants as m
use Rattle.cc_program.specs.declared.types.CType.{CType}
use Rattle.cc_program.specs.declared.types.Shape.{out-Shape}
use Rattle.cc_program.specs.declared.types.Shape.TheOpen as shape
use Rattle.cc_program.specs.declared.types.Sig.{Sig, out-Sig}
use Rattle.cc_program.specs.declared.types.Structure.{Structure}
use Rattle.cc_tree.specs.declared.at.At.{At}
use Rattle.cc_tree.specs.declared.tree.Declr as declr
use Rattle.cc_tree.specs.declared.tree.Declr.{Declr}
use Rattle.cc_tree.specs.declared.tree.Params.{Params}
use Rattle.cc_tree.specs.declared.tree.Tree as tree
use Rattle.cc_tree.specs.Operators.{conditional_level}
use Rattle.cc_tree.specs.Scopes.{name_of}
use Rattle.cc_tree.specs.Terms.{IsDeclr, DeclrInParens, APointer, AnArray, AFunction, IsQualifiers, NoQualifier, MoreQualifiers, IsParams, ANumber, is_nothing}
use Rattle.cc_tree.specs.Tokens.{Tokens, Name, at as at_of}
use Rattle.cc_tree.proofs.NewNames.{name_of-Nothing, name_of-Named, name_of-Paren, name_of-Pointer, name_of-Array, name_of-Func}
use Rattle.cc_pieces.specs.Declarators.{gap, is_pointer, pointer_qualifiers}
use Rattle.cc_pieces.specs.declared.types.Inside.{Inside}
use Rattle.cc_pieces.specs.declared.types.Inside.TheVariants.{Nothing, Name as Named, Pointer}
use Rattle.cc_pieces.specs.Pieces.{Pieces, punct, plain_number, spelled, opening, closing, flat}
use Rattle.cc_expression_trees.specs.Laid.{laid}
use Rattle.cc_expression_trees.specs.Parts.{Fits}
use Rattle.cc_expression_trees.specs.Types.{qualifier_words, plain_suffix, Core, Plain, Function, unnamed, Declares, DeclaresNothing, DeclaresName, DeclaresFunction, InParens, DeclaresPointer, DeclaresArray, DeclaresFunc, ShowsParams}
use Rattle.cc_expression_trees.specs.Soft.{IsSoft}
use Rattle.cc_expression_trees.proofs.TypeFitting.{NoEqual, star-apart, word-apart, open-apart, close-apart, bracket-apart, unbracket-apart, number-fits}

-- what is declared with a name
abbrev pub core_name : Core → Option Name
core_name (Plain x) = x
core_name (Function x entries) = Some x

abbrev pub Inner : Type 0
Inner = Pieces → Pieces

-- ---- pieces

pub past-gap : (inside : Inside) (at : ℕ) (ps : Pieces) → (next : ℕ) × (laid at (gap inside ps) ≡ laid next ps)
past-gap Nothing at ps = (at, refl)
past-gap Named at ps = (at + 1, refl)
past-gap Pointer at ps = (at + 1, refl)

abbrev pub pointer_inner : Bool → Bool → Inside → Inner → Inner
pointer_inner c v inside inner qs = punct m.Star ∷ pointer_qualifiers c v inside (inner qs)

-- in parentheses where it is a pointer's
abbrev pub direct_inner : Inside → Inner → Inner
direct_inner inside inner qs = opening (is_pointer inside) (inner (closing (is_pointer inside) qs))

abbrev pub array_inner : ℕ → Inside → Inner → Inner
array_inner n inside inner qs = direct_inner inside inner (punct m.LBracket ∷ plain_number n ∷ punct m.RBracket ∷ qs)

abbrev pub func_inner : Inner → Inside → Inner → Inner
func_inner parameters inside inner qs = direct_inner inside inner (punct m.LParen ∷ parameters (punct m.RParen ∷ qs))

module _ (structures : List Structure) where
  pub record ReadsDeclr (core : Core) (b t : CType) (inside : Inside) (direct : Bool) (at : ℕ) (qs ps : Pieces) : Type 0 where
    pub declr : At Declr
    pub some : is_pointer inside ≡ true → is_nothing declr.node ≡ false
    pub shows : Declares structures b declr.node core t
    pub next : ℕ
    pub is : IsDeclr [] direct declr (laid at qs) (laid next ps)

  -- a pointer's declarator is no direct one
  abbrev pub ReadsInner : Core → CType → CType → Inside → Inner → Type 0
  ReadsInner core b t inside inner = (direct : Bool) (at : ℕ) (ps : Pieces) → (is_pointer inside ≡ true → direct ≡ false) → ReadsDeclr core b t inside direct at (inner ps) ps

  direct-reads : (core : Core) (b t : CType) (inside : Inside) (inner : Inner) → ReadsInner core b t inside inner → (at : ℕ) (ps : Pieces) → ReadsDeclr core b t Nothing true at (direct_inner inside inner ps) ps
  direct-reads core b t Nothing inner h at ps = let r = h true at ps (λ e. absurd (true≢false (sym e))) in record { declr = r.declr; some = λ e. absurd (true≢false (sym e)); shows = r.shows; next = r.next; is = r.is }
  direct-reads core b t Named inner h at ps = let r = h true at ps (λ e. absurd (true≢false (sym e))) in record { declr = r.declr; some = λ e. absurd (true≢false (sym e)); shows = r.shows; next = r.next; is = r.is }
  direct-reads core b t Pointer inner h at ps =
      let r = h false (at + 1) (punct m.RParen ∷ ps) (λ _. refl) in
      record {
        declr = record { at = at; node = declr.Paren r.declr };
        some = λ e. absurd (true≢false (sym e));
        shows = InParens b t r.declr core r.shows;
        next = r.next + 1;
        is = DeclrInParens [] true r.declr (at, 1) (r.next, 1) _ _ (r.some refl) r.is;
      }

  qualifiers-read : (c v : Bool) (inside : Inside) (at : ℕ) (ps : Pieces) → (next : ℕ) × IsQualifiers (qualifier_words c v) (laid at (pointer_qualifiers c v inside ps)) (laid next ps)
  qualifiers-read true true inside at ps =
      let g = past-gap inside (at + 5 + 1 + 8) ps in (
        g.0,
        subst (λ us. IsQualifiers (qualifier_words true true) (laid at (pointer_qualifiers true true inside ps)) us) g.1
            (MoreQualifiers w.Const _ (at, 5) _ _ refl (MoreQualifiers w.Volatile _ (at + 5 + 1, 8) _ _ refl (NoQualifier _))),
      )
  qualifiers-read true false inside at ps =
      let g = past-gap inside (at + 5) ps in
      (g.0, subst (λ us. IsQualifiers (qualifier_words true false) (laid at (pointer_qualifiers true false inside ps)) us) g.1 (MoreQualifiers w.Const _ (at, 5) _ _ refl (NoQualifier _)))
  qualifiers-read false true inside at ps =
      let g = past-gap inside (at + 8) ps in
      (g.0, subst (λ us. IsQualifiers (qualifier_words false true) (laid at (pointer_qualifiers false true inside ps)) us) g.1 (MoreQualifiers w.Volatile _ (at, 8) _ _ refl (NoQualifier _)))
  qualifiers-read false false inside at ps = (at, NoQualifier _)

  loosely : {direct : Bool} {d : At Declr} {ts us : Tokens} → direct ≡ false → IsDeclr [] false d ts us → IsDeclr [] direct d ts us
  loosely {d = d} {ts = ts} {us = us} e h = subst (λ direct. IsDeclr [] direct d ts us) (sym e) h

  pub pointer-reads : (core : Core) (c b t : CType) (inside : Inside) (inner : Inner) → out-Shape c.shape ≡ shape.Pointer b → ReadsInner core c t inside inner → ReadsInner core b t Pointer (pointer_inner c.constant c.volatile inside inner)
  pointer-reads core c b t inside inner k h direct at ps e =
      let q = qualifiers-read c.constant c.volatile inside (at + 1) (inner ps) in
      let r = h false q.0 ps (λ _. refl) in
      record {
        declr = record { at = at; node = declr.Pointer (qualifier_words c.constant c.volatile) r.declr };
        some = λ _. refl;
        shows = DeclaresPointer c b t r.declr core k r.shows;
        next = r.next;
        is = loosely (e refl) (APointer [] (qualifier_words c.constant c.volatile) r.declr (at, 1) _ _ _ q.1 r.is);
      }

  pub array-reads : (core : Core) (c b t : CType) (n : ℕ) (inside : Inside) (inner : Inner) → out-Shape c.shape ≡ shape.Array b n → c.constant ≡ false → c.volatile ≡ false → ReadsInner core c t inside inner →
      ReadsInner core b t Named (array_inner n inside inner)
  array-reads core c b t n inside inner k f g h direct at ps e =
      let r = direct-reads core c t inside inner h at (punct m.LBracket ∷ plain_number n ∷ punct m.RBracket ∷ ps) in
      let size = length (spelled (kind.Number n (plain_suffix n))) in
      record {
        declr = at_of (laid at (array_inner n inside inner ps)) (declr.Array r.declr (Some (record { at = r.next + 1; node = tree.Number n (plain_suffix n) })));
        some = λ e. absurd (true≢false (sym e));
        shows = DeclaresArray c b t n r.declr core (r.next + 1) k f g r.shows;
        next = r.next + 1 + size + 1;
        is = AnArray [] direct r.declr _ (r.next, 1) (r.next + 1 + size, 1) _ _ _ r.is (ANumber [] conditional_level n (plain_suffix n) (r.next + 1, size) _);
      }

  -- the parameters between the parentheses
  abbrev pub ReadsParams : List (Option Name × CType) → Inner → Type 0
  ReadsParams entries parameters = (at : ℕ) (ps : Pieces) → (params : Params) × ShowsParams structures entries params × ((next : ℕ) × IsParams [] params (laid at (parameters (punct m.RParen ∷ ps))) (laid next (punct m.RParen ∷ ps)))

  pub func-reads : (core : Core) (c t : CType) (sig : Sig) (parameters : Inner) (inside : Inside) (inner : Inner) → out-Shape c.shape ≡ shape.Func sig → c.constant ≡ false → c.volatile ≡ false →
      ReadsParams (unnamed (out-Sig sig).params) parameters → ReadsInner core c t inside inner → ReadsInner core (out-Sig sig).result t Named (func_inner parameters inside inner)
  func-reads core c t sig parameters inside inner k f g p h direct at ps e =
      let r = direct-reads core c t inside inner h at (punct m.LParen ∷ parameters (punct m.RParen ∷ ps)) in
      let q = p (r.next + 1) ps in
      record {
        declr = at_of (laid at (func_inner parameters inside inner ps)) (declr.Func r.declr q.0);
        some = λ e. absurd (true≢false (sym e));
        shows = DeclaresFunc c t sig q.0 r.declr core k f g q.1 r.shows;
        next = q.2.0 + 1;
        is = AFunction [] direct r.declr q.0 (r.next, 1) (q.2.0, 1) _ _ _ r.is q.2.1;
      }

  -- ---- the name of a declarator

  pub core-named : {b t : CType} {d : Declr} {core : Core} → Declares structures b d core t → name_of d ≡ core_name core
  core-named (DeclaresNothing t) = name_of-Nothing
  core-named (DeclaresName t x) = name_of-Named x
  core-named (DeclaresFunction t x entries ps at h) = name_of-Func (record { at = at; node = declr.Named x }) ps ∙ name_of-Named x
  core-named (InParens b t d core h) = name_of-Paren d ∙ core-named h
  core-named (DeclaresPointer c b t d core k h) = name_of-Pointer (qualifier_words c.constant c.volatile) d ∙ core-named h
  core-named (DeclaresArray c b t n d core at k f g h) = name_of-Array d (Some (record { at = at; node = tree.Number n (plain_suffix n) })) ∙ core-named h
  core-named (DeclaresFunc c t sig ps d core k f g p h) = name_of-Func d ps ∙ core-named h

-- ---- they part

-- where nothing stands inside, what stands behind is soft
abbrev pub FitsInner : Inside → Inner → Type 0
FitsInner inside inner = (ps : Pieces) → Fits ps → IsSoft (flat ps) → Fits (inner ps) × (NoEqual (flat (inner ps)) × ((inside ≡ Nothing) → IsSoft (flat (inner ps))))

pub gap-fits : (inside : Inside) (ps : Pieces) → Fits ps → (inside ≡ Nothing → IsSoft (flat ps)) → Fits (gap inside ps) × IsSoft (flat (gap inside ps))
gap-fits Nothing ps f s = (f, s refl)
gap-fits Named ps f s = ((refl, f), refl)
gap-fits Pointer ps f s = ((refl, f), refl)

named-other : Named ≡ Nothing → ⊥
named-other h = cc

pointer-other : Pointer ≡ Nothing → ⊥
pointer-other h = cc

qualifiers-fit : (c v : Bool) (inside : Inside) (ps : Pieces) → Fits ps → NoEqual (flat ps) → (inside ≡ Nothing → IsSoft (flat ps)) → Fits (pointer_qualifiers c v inside ps) × NoEqual (flat (pointer_qualifiers c v inside ps))
qualifiers-fit true true inside ps f n s = let g = gap-fits inside ps f s in ((tt, refl, (refl, (tt, word-apart w.Volatile (flat (gap inside ps)) g.1, g.0))), refl)
qualifiers-fit true false inside ps f n s = let g = gap-fits inside ps f s in ((tt, word-apart w.Const (flat (gap inside ps)) g.1, g.0), refl)
qualifiers-fit false true inside ps f n s = let g = gap-fits inside ps f s in ((tt, word-apart w.Volatile (flat (gap inside ps)) g.1, g.0), refl)
qualifiers-fit false false inside ps f n s = (f, n)

pub pointer-fits : (c v : Bool) (inside : Inside) (inner : Inner) → FitsInner inside inner → FitsInner Pointer (pointer_inner c v inside inner)
pointer-fits c v inside inner h ps f s =
    let r = h ps f s in
    let q = qualifiers-fit c v inside (inner ps) r.0 r.1.0 r.1.1 in
    ((refl, star-apart (flat (pointer_qualifiers c v inside (inner ps))) q.1, q.0), (refl, λ e. absurd (pointer-other e)))

direct-fits : (inside : Inside) (inner : Inner) → FitsInner inside inner → (ps : Pieces) → Fits ps → IsSoft (flat ps) → Fits (direct_inner inside inner ps) × NoEqual (flat (direct_inner inside inner ps))
direct-fits Nothing inner h ps f s = let r = h ps f s in (r.0, r.1.0)
direct-fits Named inner h ps f s = let r = h ps f s in (r.0, r.1.0)
direct-fits Pointer inner h ps f s = let r = h (punct m.RParen ∷ ps) (refl, close-apart (flat ps), f) refl in ((refl, open-apart _, r.0), refl)

pub array-fits : (n : ℕ) (inside : Inside) (inner : Inner) → n ≤ 2 ^ 63 - 1 → FitsInner inside inner → FitsInner Named (array_inner n inside inner)
array-fits n inside inner l h ps f s =
    let r = direct-fits inside inner h (punct m.LBracket ∷ plain_number n ∷ punct m.RBracket ∷ ps) (refl, bracket-apart _, number-fits n (punct m.RBracket ∷ ps) l refl (refl, unbracket-apart (flat ps), f)) refl in
    (r.0, (r.1, λ e. absurd (named-other e)))

pub func-fits : (parameters : Inner) (inside : Inside) (inner : Inner) → ((ps : Pieces) → Fits ps → IsSoft (flat ps) → Fits (parameters ps)) → FitsInner inside inner → FitsInner Named (func_inner parameters inside inner)
func-fits parameters inside inner p h ps f s =
    let r = direct-fits inside inner h (punct m.LParen ∷ parameters (punct m.RParen ∷ ps)) (refl, open-apart _, p (punct m.RParen ∷ ps) (refl, close-apart (flat ps), f) refl) refl in
    (r.0, (r.1, λ e. absurd (named-other e)))
