-- What a type writes is read as what declares it, and parts, by induction over types.
use Rattle.std.proofs.Common.{◌≡◌, ℕ, Bool, true, false, ◌||◌, ltb, eqb, List, [], ◌∷◌, ◌++◌, map, length, Option, Some, None, refl, sym, subst, arith, slice_get}
use Rattle.std.proofs.lemmas.Bool.Decides.{nat_tests}
use Rattle.std.specs.List.{list_all}
use Rattle.cc_program.specs.CcNum.declared.target.Target.{Target}
use Rattle.cc_program.specs.CcWords.Names.{is_name, is_letter, is_letter_or_digit, is_identifier}
use Rattle.cc_program.specs.CcWords.declared.word.Word.TheVariants as w
use Rattle.cc_lex.specs.declared.token.Mark.TheVariants as m
use Rattle.cc_lex.proofs.Booleans.{and-true}
use Rattle.cc_program.specs.declared.types.CType.{CType}
use Rattle.cc_program.specs.declared.types.Shape.{Shape, roll-Shape, out-roll-Shape}
use Rattle.cc_program.specs.declared.types.Shape.TheOpen as shape
use Rattle.cc_program.specs.declared.types.Sig.{Sig, out-Sig, roll-Sig, out-roll-Sig}
use Rattle.cc_program.specs.declared.types.Structure.{Structure}
use Rattle.cc_program.proofs.Each.{Each}
use Rattle.cc_program.proofs.TypeInduction.{with_shape, TypeParts, SigParts, by_type, by_sig}
use Rattle.cc_tree.specs.declared.at.At.{At}
use Rattle.cc_tree.specs.declared.tree.Params.{Params}
use Rattle.cc_tree.specs.declared.tree.Spec.{Spec}
use Rattle.cc_tree.specs.Terms.{IsParams, IsSpecList}
use Rattle.cc_tree.specs.Tokens.{Tokens, Name}
use Rattle.cc_pieces.specs.Declarators.{Declarator, Signature, further, parameters, shape_step, qualifiers, tag, declarator, signature, gap}
use Rattle.cc_pieces.specs.declared.types.Inside.{Inside}
use Rattle.cc_pieces.specs.declared.types.Inside.TheVariants.{Nothing, Name as Named, Pointer}
use Rattle.cc_pieces.specs.Pieces.{Pieces, punct, keyword, ident, space, flat}
use Rattle.cc_expression_trees.specs.Laid.{laid}
use Rattle.cc_expression_trees.specs.Parts.{Fits}
use Rattle.cc_expression_trees.proofs.Spelling.{name-parts}
use Rattle.cc_typed.specs.CcSyntax.Kinds.{kind_of, is_plain_scalar, extent_with}
use Rattle.cc_typed.specs.CcSyntax.Types.{has_members}
use Rattle.cc_expression_trees.specs.Soft.{IsSoft}
use Rattle.cc_expression_trees.specs.Types.{Plain, unnamed, ShowsParams}
use Rattle.cc_expression_trees.proofs.TypeFitting.{NoEqual, name-apart}
use Rattle.cc_expression_trees.proofs.Bases.{void-read, int-read, structure-read, void-fits, int-fits, structure-fits}
use Rattle.cc_expression_trees.proofs.Insides.{Inner, pointer_inner, array_inner, func_inner, pointer-reads, array-reads, func-reads, ReadsParams, FitsInner, gap-fits, pointer-fits, array-fits, func-fits}
use Rattle.cc_expression_trees.proofs.Levels.{parts_declared, declared-roll, signature-roll, IsType, IsSignature, pointer-type, array-type, func-type, sig-types, struct-type, scalar-some, not-void}
use Rattle.cc_expression_trees.proofs.Parameters.{around, Reads, from-base, nothing-reads, nothing-fits, Parameter, entry, EachReads, EachFits, further_pieces, parameter_pieces, parameters-read, parameters-fit}

-- ---- names

name-front : (x text : List ℕ) → is_identifier x ≡ true → NoEqual (x ++ text)
name-front [] text h = absurd (cc)
name-front (b ∷ bs) text h = not-equal b (and-true (is_letter b) (list_all is_letter_or_digit bs) h).0 where
  not-equal : (b : ℕ) → is_letter b ≡ true → eqb b 61 ≡ false
  not-equal b h = grind (arith, nat_tests)

named-other : Named ≡ Nothing → ⊥
named-other h = cc

pub name-fits : (x : Name) → is_name x ≡ true → FitsInner Named (λ qs. ident x ∷ qs)
name-fits x n ps f s = ((n, name-apart x (flat ps) s, f), (name-front x (flat ps) (name-parts x n).form, λ e. absurd (named-other e)))

module _ (structures : List Structure) where
  -- ---- a level over what stands below it

  abbrev stands : (c v : Bool) (x : shape.Shape-F Shape CType Sig) → CType
  stands c v x = with_shape c v (roll-Shape x)

  -- what holds of what a level writes
  at-level : (c v : Bool) (x : shape.Shape-F Shape CType Sig) → Reads structures (shape_step structures (parts_declared structures x) c v) (stands c v x) → Reads structures (declarator structures (stands c v x)) (stands c v x)
  at-level c v x h = subst (λ d. Reads structures d (stands c v x)) (sym (declared-roll structures c v x)) h

  pub void-level : (c v : Bool) → Reads structures (declarator structures (stands c v shape.Void)) (stands c v shape.Void)
  void-level c v = at-level c v shape.Void (λ core whole inside inner h done all at ps k.
      from-base structures (stands c v shape.Void) core whole inside inner h done all ps (void-read structures c v done all at (gap inside (inner ps)) k))

  pub pointer-level : (c v : Bool) (t : CType) → Reads structures (declarator structures t) t → Reads structures (declarator structures (stands c v (shape.Pointer t))) (stands c v (shape.Pointer t))
  pointer-level c v t r = at-level c v (shape.Pointer t) (λ core whole inside inner h done all at ps k.
      r core whole Pointer (pointer_inner c v inside inner) (pointer-reads structures core (stands c v (shape.Pointer t)) t whole inside inner (out-roll-Shape (shape.Pointer t)) h) done all at ps k)

  array-level : (c v : Bool) (t : CType) (n : ℕ) → c ≡ false → v ≡ false → Reads structures (declarator structures t) t → Reads structures (declarator structures (stands c v (shape.Array t n))) (stands c v (shape.Array t n))
  array-level c v t n f g r = at-level c v (shape.Array t n) (λ core whole inside inner h done all at ps k.
      r core whole Named (array_inner n inside inner) (array-reads structures core (stands c v (shape.Array t n)) t whole n inside inner (out-roll-Shape (shape.Array t n)) f g h) done all at ps k)

  -- what a function's type writes
  pub record ReadsSig (g : Signature) (x : shape.Sig-F Shape CType Sig) : Type 0 where
    pub result : Reads structures g.result x.result
    pub parameters : ReadsParams structures (unnamed x.params) g.parameters

  func-level : (c v : Bool) (s : Sig) → c ≡ false → v ≡ false → ReadsSig (signature structures s) (out-Sig s) → Reads structures (declarator structures (stands c v (shape.Func s))) (stands c v (shape.Func s))
  func-level c v s f g r = at-level c v (shape.Func s) (λ core whole inside inner h done all at ps k.
      r.result core whole Named (func_inner (signature structures s).parameters inside inner)
      (func-reads structures core (stands c v (shape.Func s)) whole s (signature structures s).parameters inside inner (out-roll-Shape (shape.Func s)) f g r.parameters h) done all at ps k)

  -- ---- parameters without names

  abbrev bare : CType → Parameter structures
  bare t = record { name = None; type = t; pieces = around (declarator structures t) Nothing (λ qs. qs) }

  further-bare : (ts : List CType) (ps : Pieces) → further (map (declarator structures) ts) ps ≡ further_pieces structures (map bare ts) ps
  further-bare [] ps = refl
  further-bare (t ∷ ts) ps = rw (further-bare ts ps) refl

  parameters-bare : (ts : List CType) (ps : Pieces) → parameters (map (declarator structures) ts) ps ≡ parameter_pieces structures (map bare ts) ps
  parameters-bare [] ps = refl
  parameters-bare (t ∷ ts) ps = rw (further-bare ts ps) refl

  entries-bare : (ts : List CType) → map (entry structures) (map bare ts) ≡ unnamed ts
  entries-bare [] = refl
  entries-bare (t ∷ ts) = rw (entries-bare ts) refl

  module _ (known : List Structure) (target : Target) (there : (i : ℕ) → (has_members (slice_get known i) || ltb i (length structures)) ≡ true → (s : Structure) × (slice_get structures i ≡ Some s)) where
    abbrev IsKnown : CType → Type 0
    IsKnown t = IsType known (length structures) target t

    abbrev ReadsType : CType → Type 0
    ReadsType t = IsKnown t → Reads structures (declarator structures t) t

    abbrev ReadsSignature : Sig → Type 0
    ReadsSignature s = IsSignature known (length structures) target s → ReadsSig (signature structures s) (out-Sig s)

    each-bare : (ts : List CType) → Each ReadsType ts → list_all is_plain_scalar (map (kind_of target (extent_with known (length structures) target)) ts) ≡ true → EachReads structures (map bare ts)
    each-bare [] h k = tt
    each-bare (t ∷ ts) h k =
        let e = and-true (is_plain_scalar (kind_of target (extent_with known (length structures) target) t)) (list_all is_plain_scalar (map (kind_of target (extent_with known (length structures) target)) ts)) k in
        let r = h.0 (scalar-some known (length structures) target (kind_of target (extent_with known (length structures) target) t) e.0) in
        ((λ all at ps i. r (Plain None) t Nothing (λ qs. qs) (nothing-reads structures t) [] all at ps i, not-void known (length structures) target t e.0), each-bare ts h.1 e.1)

    abbrev IsParamsAt : Params → ℕ → Pieces → ℕ → Pieces → Type 0
    IsParamsAt params at qs next ps = IsParams [] params (laid at qs) (laid next ps)

    bare-read : (ts : List CType) → EachReads structures (map bare ts) → ReadsParams structures (unnamed ts) (parameters (map (declarator structures) ts))
    bare-read ts h at ps =
        let r = parameters-read structures (map bare ts) h at ps in
        (r.0, subst (λ es. ShowsParams structures es r.0) (entries-bare ts) r.1, (r.2.0, subst (λ qs. IsParamsAt r.0 at qs r.2.0 (punct m.RParen ∷ ps)) (sym (parameters-bare ts (punct m.RParen ∷ ps))) r.2.1))

    abbrev StructAt : Bool → Bool → List (At Spec) → Tokens → ℕ → Option Structure → Pieces → Type 0
    StructAt c v done all at o ps = IsSpecList [] done all (laid at (qualifiers c v (keyword w.Struct ∷ space ∷ tag o ps)))

    made : (c v : Bool) (x : shape.Shape-F Shape CType Sig) → TypeParts ReadsType ReadsSignature x → ReadsType (with_shape c v (roll-Shape x))
    made c v shape.Void h t = void-level c v
    made c v (shape.Int i) h t = at-level c v (shape.Int i) (λ core whole inside inner r done all at ps k.
        from-base structures (stands c v (shape.Int i)) core whole inside inner r done all ps (int-read structures c v i done all at (gap inside (inner ps)) k))
    made c v (shape.Pointer to) h t = pointer-level c v to (h (pointer-type known (length structures) target c v to t))
    made c v (shape.Array of n) h t = let e = array-type known (length structures) target c v of n t in array-level c v of n e.1.0 e.1.1 (h e.0)
    made c v (shape.Struct i) h t =
        let e = there i (struct-type known (length structures) target c v i t) in
        at-level c v (shape.Struct i) (λ core whole inside inner r done all at ps k.
        from-base structures (stands c v (shape.Struct i)) core whole inside inner r done all ps (structure-read structures c v i e.0 done all at (gap inside (inner ps)) e.1
        (subst (λ o. StructAt c v done all at o (gap inside (inner ps))) e.1 k)))
    made c v (shape.Func s) h t = let e = func-type known (length structures) target c v s t in func-level c v s e.1.0 e.1.1 (h e.0)

    made-sig : (x : shape.Sig-F Shape CType Sig) → SigParts ReadsType ReadsSignature x → ReadsSignature (roll-Sig x)
    made-sig x h t =
        let e = sig-types known (length structures) target x t in
        subst (λ y. ReadsSig (signature structures (roll-Sig x)) y) (sym (out-roll-Sig x)) (subst (λ g. ReadsSig g x) (sym (signature-roll structures x))
        (record { result = h.0 e.0; parameters = bare-read x.params (each-bare x.params h.1 e.1) }))

    -- the law
    pub type-reads : (t : CType) → IsKnown t → Reads structures (declarator structures t) t
    type-reads = by_type ReadsType ReadsSignature made made-sig

    pub sig-reads : (s : Sig) → IsSignature known (length structures) target s → ReadsSig (signature structures s) (out-Sig s)
    sig-reads = by_sig ReadsType ReadsSignature made made-sig

    -- ---- they part

    module _ (named : (i : ℕ) (s : Structure) → slice_get structures i ≡ Some s → is_name s.tag ≡ true) where
      abbrev pub FitsDeclarator : Declarator → Type 0
      FitsDeclarator d = (inside : Inside) (inner : Inner) → FitsInner inside inner → (ps : Pieces) → Fits ps → IsSoft (flat ps) → Fits (around d inside inner ps)

      abbrev FitsType : CType → Type 0
      FitsType t = IsKnown t → FitsDeclarator (declarator structures t)

      pub record FitsSig (g : Signature) : Type 0 where
        pub result : FitsDeclarator g.result
        pub parameters : (ps : Pieces) → Fits ps → IsSoft (flat ps) → Fits (g.parameters ps)

      abbrev FitsSignature : Sig → Type 0
      FitsSignature s = IsSignature known (length structures) target s → FitsSig (signature structures s)

      fits-level : (c v : Bool) (x : shape.Shape-F Shape CType Sig) → FitsDeclarator (shape_step structures (parts_declared structures x) c v) → FitsDeclarator (declarator structures (stands c v x))
      fits-level c v x h = subst FitsDeclarator (sym (declared-roll structures c v x)) h

      pub void-fitting : (c v : Bool) → FitsDeclarator (declarator structures (stands c v shape.Void))
      void-fitting c v = fits-level c v shape.Void (λ inside inner h ps f s. let r = h ps f s in let g = gap-fits inside (inner ps) r.0 r.1.1 in void-fits c v (gap inside (inner ps)) g.1 g.0)

      pub pointer-fitting : (c v : Bool) (t : CType) → FitsDeclarator (declarator structures t) → FitsDeclarator (declarator structures (stands c v (shape.Pointer t)))
      pointer-fitting c v t r = fits-level c v (shape.Pointer t) (λ inside inner h ps f s. r Pointer (pointer_inner c v inside inner) (pointer-fits c v inside inner h) ps f s)

      each-fits : (ts : List CType) → Each FitsType ts → list_all is_plain_scalar (map (kind_of target (extent_with known (length structures) target)) ts) ≡ true → EachFits structures (map bare ts)
      each-fits [] h k = tt
      each-fits (t ∷ ts) h k =
          let e = and-true (is_plain_scalar (kind_of target (extent_with known (length structures) target) t)) (list_all is_plain_scalar (map (kind_of target (extent_with known (length structures) target)) ts)) k in
          let r = h.0 (scalar-some known (length structures) target (kind_of target (extent_with known (length structures) target) t) e.0) in
          (λ ps f s. r Nothing (λ qs. qs) nothing-fits ps f s, each-fits ts h.1 e.1)

      abbrev FitsTag : Bool → Bool → Option Structure → Pieces → Type 0
      FitsTag c v o ps = Fits (qualifiers c v (keyword w.Struct ∷ space ∷ tag o ps))

      fitted : (c v : Bool) (x : shape.Shape-F Shape CType Sig) → TypeParts FitsType FitsSignature x → FitsType (with_shape c v (roll-Shape x))
      fitted c v shape.Void h t = void-fitting c v
      fitted c v (shape.Int i) h t = fits-level c v (shape.Int i) (λ inside inner r ps f s. let q = r ps f s in let g = gap-fits inside (inner ps) q.0 q.1.1 in int-fits c v i (gap inside (inner ps)) g.1 g.0)
      fitted c v (shape.Pointer to) h t = pointer-fitting c v to (h (pointer-type known (length structures) target c v to t))
      fitted c v (shape.Array of n) h t =
          let e = array-type known (length structures) target c v of n t in
          fits-level c v (shape.Array of n) (λ inside inner r ps f s. h e.0 Named (array_inner n inside inner) (array-fits n inside inner (omega (arith, e.2)) r) ps f s)
      fitted c v (shape.Struct i) h t =
          let e = there i (struct-type known (length structures) target c v i t) in
          fits-level c v (shape.Struct i) (λ inside inner r ps f s. let q = r ps f s in let g = gap-fits inside (inner ps) q.0 q.1.1 in
          subst (λ o. FitsTag c v o (gap inside (inner ps))) (sym e.1) (structure-fits c v e.0.tag (gap inside (inner ps)) (named i e.0 e.1) g.1 g.0))
      fitted c v (shape.Func s) h t =
          let e = func-type known (length structures) target c v s t in
          let g = h e.0 in
          fits-level c v (shape.Func s) (λ inside inner r ps f u. g.result Named (func_inner (signature structures s).parameters inside inner) (func-fits (signature structures s).parameters inside inner g.parameters r) ps f u)

      fitted-sig : (x : shape.Sig-F Shape CType Sig) → SigParts FitsType FitsSignature x → FitsSignature (roll-Sig x)
      fitted-sig x h t =
          let e = sig-types known (length structures) target x t in
          subst FitsSig (sym (signature-roll structures x)) (record {
            result = h.0 e.0;
            parameters = λ ps f s. subst Fits (sym (parameters-bare x.params ps)) (parameters-fit structures (map bare x.params) (each-fits x.params h.1 e.1) ps f s);
          })

      pub type-fits : (t : CType) → IsKnown t → FitsDeclarator (declarator structures t)
      type-fits = by_type FitsType FitsSignature fitted fitted-sig

      pub sig-fits : (s : Sig) → IsSignature known (length structures) target s → FitsSig (signature structures s)
      sig-fits = by_sig FitsType FitsSignature fitted fitted-sig
