-- The declarator of a function declares it: next to its name stands the derivation that its parameters give, and behind that
-- its result is derived.
use Rattle.std.proofs.Common.{◌≡◌, ℕ, zero, suc, Bool, true, false, not, ◌||◌, List, [], ◌∷◌, ◌++◌, map, Some, None, Ok, refl, ap, sym, ◌∙◌, subst, slice_get}
use Rattle.std.specs.List.{list_all, list_any}
use Rattle.std.specs.Option.{is_some}
use Rattle.cc_type.specs.CcTypedTerms.Located.{located}
use Rattle.cc_type.specs.CcOperands.Qualified.{plain, unqualified}
use Rattle.cc_type.specs.CcOperands.declared.rule.Rule.TheVariants as rule
use Rattle.cc_program.specs.declared.program.Program.{Program}
use Rattle.cc_program.specs.declared.program.Roles.{Roles}
use Rattle.cc_program.specs.declared.types.CType.{CType}
use Rattle.cc_program.specs.declared.types.Shape.{Array, Func, out-Shape}
use Rattle.cc_program.specs.declared.types.Shape.TheOpen as shape
use Rattle.cc_program.specs.declared.types.Shape.TheVariants.{outs-Array, outs-Func}
use Rattle.cc_program.specs.declared.types.Sig.{Sig, out-Sig}
use Rattle.cc_type.specs.CcScopes.State.{State, Scope, Name, structures_of, layouts_of}
use Rattle.cc_type.specs.CcScopes.Verdicts.{Found, and_then}
use Rattle.cc_type.specs.CcSpecifiers.Declarators.{breach, broken_unless, derive_one, function_to, result_breach, type_found}
use Rattle.cc_type.specs.CcSpecifiers.Derivations.{with_derivation, is_next_to_name, suffix_found, says_const, says_volatile, pointer_derivation}
use Rattle.cc_type.specs.CcSpecifiers.Places.{JudgedAt, Checked}
use Rattle.cc_type.specs.CcSpecifiers.declared.derivation.Allowed.{Allowed}
use Rattle.cc_type.specs.CcSpecifiers.declared.derivation.Declarator.{Declarator}
use Rattle.cc_type.specs.CcSpecifiers.declared.derivation.Derivation.{Derivation}
use Rattle.cc_type.specs.CcSpecifiers.declared.derivation.Derivation.TheVariants as to
use Rattle.cc_type.specs.CcSpecifiers.declared.derivation.Parameter.{Parameter}
use Rattle.cc_type.specs.CcSyntax.Kinds.{is_result, is_plain_scalar}
use Rattle.cc_type.specs.CcSyntax.Programs.{kind_in}
use Rattle.cc_type.specs.CcSyntax.Sizes.{AreSized}
use Rattle.cc_type.specs.CcSyntax.Values.{is_void}
use Rattle.cc_type.proofs.CcSyntax.Prefixes.{both_true}
use Rattle.cc_type.specs.CcTerms.Declarators.{bounded}
use Rattle.cc_type.specs.CcTerms.Terms.{params_of, here}
use Rattle.cc_tree.specs.declared.at.At.{At}
use Rattle.cc_tree.specs.declared.tree.Declr as declr
use Rattle.cc_tree.specs.declared.tree.Declr.{Declr}
use Rattle.cc_tree.specs.declared.tree.Declr.TheOpen as one
use Rattle.cc_tree.specs.declared.tree.Declr.TheVariants as declr_rolls
use Rattle.cc_tree.specs.declared.tree.Params.{Params}
use Rattle.cc_tree.specs.declared.tree.Tree as tree
use Rattle.cc_tree.specs.declared.tree.Tree.{Tree}
use Rattle.cc_expression_trees.specs.Types.{qualifier_words, plain_suffix, Core, Function, unnamed, Declares, DeclaresNothing, DeclaresName, DeclaresFunction, InParens, DeclaresPointer, DeclaresArray, DeclaresFunc, ShowsParams}
use Rattle.cc_shown_expressions.specs.Known.{KnowsStructures}
use Rattle.cc_shown_expressions.specs.Numbers.{type_numbered, sig_numbered}
use Rattle.cc_shown_expressions.proofs.Bases.{type-of-fields, shape-of-level}
use Rattle.cc_shown_expressions.proofs.Complete.{object-numbered}
use Rattle.cc_shown_expressions.proofs.Declared.{declr-at, bound-found, DeclaredAs, base-stands, pointer-type, function-is}
use Rattle.cc_shown_expressions.proofs.Derived.{Derivations, Fits, Itself, Further, fits-derived, suffix-function, suffix-array}
use Rattle.cc_shown_expressions.proofs.Kept.{void-numbered}
use Rattle.cc_shown_expressions.proofs.Numbering.{shape-level, level-at, constant-kept, volatile-kept}
use Rattle.cc_shown_expressions.proofs.Standing.{Stands, pointed-not-void, element-is, signature-stands, signature-parts, result-stands, result-breaks, scalar-plain}
use Rattle.cc_shown_declarations.specs.Declared.{IsFunctionDeclared}
use Rattle.cc_shown_declarations.specs.Parameters.{Entry, entry_numbered, entry_of, HaveNewNames, scope_of}
use Rattle.cc_shown_declarations.proofs.Names.{AreNew, all-new}
use Rattle.cc_shown_declarations.proofs.Parameters.{IsScalarEntry, AreScalars, unqualified-numbered, parameters-found}

-- ---- the signature that the parameters give

entry-types : (ps : List Parameter) → map (λ (q : Parameter). unqualified q.ctype) ps ≡ map (λ (e : Entry). unqualified e.1) (map entry_of ps)
entry-types [] = refl
entry-types (q ∷ qs) = ap (λ (ts : List CType). unqualified q.ctype ∷ ts) (entry-types qs)

types-numbered : (number : ℕ → ℕ) (es : List Entry) → map (λ (e : Entry). unqualified e.1) (map (entry_numbered number) es) ≡ map (type_numbered number) (map (λ (e : Entry). unqualified e.1) es)
types-numbered number [] = refl
types-numbered number (e ∷ es) =
    ap (λ (t : CType). t ∷ map (λ (e : Entry). unqualified e.1) (map (entry_numbered number) es)) (unqualified-numbered number e.1)
    ∙ ap (λ (ts : List CType). type_numbered number (unqualified e.1) ∷ ts) (types-numbered number es)

pub parameter-types : (number : ℕ → ℕ) (es : List Entry) (ps : List Parameter) (ts : List CType) → map entry_of ps ≡ map (entry_numbered number) es → map (λ (e : Entry). unqualified e.1) es ≡ ts → map (λ (q : Parameter). unqualified q.ctype) ps ≡ map (type_numbered number) ts
parameter-types number es ps ts h k = entry-types ps ∙ ap (λ (fs : List Entry). map (λ (e : Entry). unqualified e.1) fs) h ∙ types-numbered number es ∙ ap (map (type_numbered number)) k

module _ (p : Program) where
  pub are-scalars : (es : List Entry) (ts : List CType) → map (λ (e : Entry). unqualified e.1) es ≡ ts → list_all (λ t. is_plain_scalar (kind_in p t)) ts ≡ true → AreScalars p es
  are-scalars [] ts e h = tt
  are-scalars (x ∷ xs) ts e h =
      let g : list_all (λ t. is_plain_scalar (kind_in p t)) (map (λ (e : Entry). unqualified e.1) (x ∷ xs)) ≡ true = ap (list_all (λ t. is_plain_scalar (kind_in p t))) e ∙ h in
      let q = both_true (is_plain_scalar (kind_in p (unqualified x.1))) (list_all (λ t. is_plain_scalar (kind_in p t)) (map (λ (e : Entry). unqualified e.1) xs)) g in
      (q.0, are-scalars xs (map (λ (e : Entry). unqualified e.1) xs) refl q.1)

-- ---- parameters without names, of another function that is derived

unnamed-types : (ts : List CType) → ((m : ℕ) (t : CType) → slice_get ts m ≡ Some t → unqualified t ≡ t) → map (λ (e : Entry). unqualified e.1) (unnamed ts) ≡ ts
unnamed-types [] h = refl
unnamed-types (t ∷ ts) h = ap (λ (u : CType). u ∷ map (λ (e : Entry). unqualified e.1) (unnamed ts)) (h 0 t refl) ∙ ap (λ (us : List CType). t ∷ us) (unnamed-types ts (λ m u e. h (suc m) u e))

unnamed-new : (number : ℕ → ℕ) (roles : Roles) (done : List Entry) (ts : List CType) → AreNew number roles true done (unnamed ts)
unnamed-new number roles done [] = tt
unnamed-new number roles done (t ∷ ts) = (refl, unnamed-new number roles (done ++ (None, type_numbered number t) ∷ []) ts)

module _ (p : Program) where
  plain-same : (t : CType) → is_plain_scalar (kind_in p t) ≡ true → unqualified t ≡ t
  plain-same t h =
      let q = scalar-plain p t h in
      type-of-fields (unqualified t) t (sym q.0) (sym q.1) refl

  plain-entry : (t : CType) → is_plain_scalar (kind_in p t) ≡ true → IsScalarEntry p t
  plain-entry t h = ap (λ (u : CType). is_plain_scalar (kind_in p u)) (plain-same t h) ∙ h

  all-plain : (ts : List CType) → list_all is_plain_scalar (map (kind_in p) ts) ≡ true → AreScalars p (unnamed ts)
  all-plain [] h = tt
  all-plain (t ∷ ts) h =
      let q = both_true (is_plain_scalar (kind_in p t)) (list_all is_plain_scalar (map (kind_in p) ts)) h in
      (plain-entry t q.0, all-plain ts q.1)

  all-same : (ts : List CType) → list_all is_plain_scalar (map (kind_in p) ts) ≡ true → (m : ℕ) (t : CType) → slice_get ts m ≡ Some t → unqualified t ≡ t
  all-same [] h m t e = absurd (cc)
  all-same (u ∷ us) h zero t e =
      let q = both_true (is_plain_scalar (kind_in p u)) (list_all is_plain_scalar (map (kind_in p) us)) h in
      let is : u ≡ t = cc in
      subst (λ (v : CType). unqualified v ≡ v) is (plain-same u q.0)
  all-same (u ∷ us) h (suc m) t e = all-same us (both_true (is_plain_scalar (kind_in p u)) (list_all is_plain_scalar (map (kind_in p) us)) h).1 m t e

next-first : (ds es : Derivations) (d : At (Derivation Scope)) → ds ≡ d ∷ es → is_next_to_name ds ≡ false
next-first ds es d h = ap (λ (xs : Derivations). is_next_to_name xs) h

or-true : (b : Bool) → (b || true) ≡ true
or-true true = refl
or-true false = refl

module _ (p : Program) (number : ℕ → ℕ) (roles : Roles) (sized : AreSized p.structures p.target) (s : State) (known : KnowsStructures p number s) (sig : Sig) (x : Name) (entries : List Entry) (types : map (λ (e : Entry). unqualified e.1) entries ≡ (out-Sig sig).params)
    (result : is_result (kind_in p (out-Sig sig).result) ≡ true) (scalars : AreScalars p entries) where
  abbrev numbered : CType → CType
  numbered t = type_numbered number t

  abbrev whole : CType
  whole = plain (Func (sig_numbered number sig))

  abbrev next : List Parameter → Derivation Scope
  next ps = to.Function ps (scope_of (map (entry_numbered number) entries))

  -- what the declarator derives, that of the parameters next to the name
  pub record FunctionAs (d : Declr) (allowed : Allowed) (at : ℕ) (b : CType) : Type 0 where
    pub found : DeclaredAs p number roles sized s d allowed at (Some x) b whole
    pub parameters : List Parameter
    pub are : map entry_of parameters ≡ map (entry_numbered number) entries
    pub place : ℕ
    pub outer : Derivations
    pub first : found.derivations ≡ record { at = place; node = next parameters } ∷ outer

  behind : (d : At (Derivation Scope)) (ds outer : Derivations) (f : At (Derivation Scope)) → ds ≡ f ∷ outer → ds ++ d ∷ [] ≡ f ∷ (outer ++ d ∷ [])
  behind d ds outer f h = ap (λ (xs : Derivations). xs ++ d ∷ []) h

  flag-by : (allowed : Allowed) (ds es : Derivations) (d : At (Derivation Scope)) → ds ≡ d ∷ es → (allowed.unnamed || not (is_next_to_name ds)) ≡ true
  flag-by allowed ds es d h = ap (λ (b : Bool). allowed.unnamed || not b) (next-first ds es d h) ∙ or-true allowed.unnamed

  -- ---- which derivations may stand

  pointer-breaks : (b : CType) → is_void b ≡ false → (c v : Bool) → breach p.target (structures_of s) (layouts_of s) {S = Scope} false (numbered b) (to.Pointer c v) ≡ None
  pointer-breaks b h c v = ap (λ (t : Bool). broken_unless (not t || false) rule.PointerToVoid) (void-numbered number b ∙ h)

  array-breaks : (c b : CType) (n : ℕ) → out-Shape c.shape ≡ shape.Array b n → Stands p c → breach p.target (structures_of s) (layouts_of s) {S = Scope} false (numbered b) (to.Array (Some n)) ≡ None
  array-breaks c b n e h =
      let k = element-is p c b n e h in
      ap (λ (t : Bool). broken_unless t rule.NoObjectType) (object-numbered p number s known sized b k.kind k.size k.is k.bytes k.small)

  array-type : (c b : CType) (n : ℕ) → out-Shape c.shape ≡ shape.Array b n → c.constant ≡ false → c.volatile ≡ false → derive_one {S = Scope} (to.Array (Some n)) (numbered b) ≡ numbered c
  array-type c b n e f g =
      type-of-fields (plain (Array (numbered b) n)) (numbered c) (sym (constant-kept number c ∙ f)) (sym (volatile-kept number c ∙ g))
      (shape-of-level (Array (numbered b) n) (numbered c).shape (outs-Array (numbered b) n ∙ sym (level-at number c (shape.Array b n) e)))

  function-type : (c : CType) (other : Sig) (ps : List Parameter) → out-Shape c.shape ≡ shape.Func other → c.constant ≡ false → c.volatile ≡ false → map (λ (q : Parameter). unqualified q.ctype) ps ≡ map numbered (out-Sig other).params →
      function_to (numbered (out-Sig other).result) ps ≡ numbered c
  function-type c other ps e f g h =
      function-is p number roles sized other ps h
      ∙ type-of-fields (plain (Func (sig_numbered number other))) (numbered c) (sym (constant-kept number c ∙ f)) (sym (volatile-kept number c ∙ g))
      (shape-of-level (Func (sig_numbered number other)) (numbered c).shape (outs-Func (sig_numbered number other) ∙ sym (level-at number c (shape.Func other) e)))

  abbrev FitsTo : CType → Derivations → CType → Type 0
  FitsTo b ds t = Fits p.target (structures_of s) (layouts_of s) b ds t

  core-is : (y : Name) (es : List Entry) → Function y es ≡ Function x entries → (y ≡ x) × (es ≡ entries)
  core-is y es h = let e : y ≡ x = cc in let f : es ≡ entries = cc in (e, f)

  -- the name with its parameters
  next-to-name : (allowed : Allowed) (at k : ℕ) (t : CType) (ps : Params) → t ≡ (out-Sig sig).result → ShowsParams p.structures entries ps → AreNew number roles allowed.unnamed [] entries →
      FunctionAs (declr.Func (record { at = k; node = declr.Named x }) ps) allowed at t
  next-to-name allowed at k t ps e h new =
      let d : At Declr = record { at = k; node = declr.Named x } in
      let q = parameters-found p number roles sized s known allowed.unnamed entries ps h new scalars in
      let inner : Declarator Scope = record { name = Some x; derivations = [] } in
      let ts = parameter-types number entries q.parameters (out-Sig sig).params q.are types in
      let flag : (allowed.unnamed || false) ≡ allowed.unnamed = or-no allowed.unnamed in
      record {
        found = record {
          derivations = record { at = at; node = next q.parameters } ∷ [];
          is = declr-at p.target roles (declr.Func d ps) (one.Func d ps) (declr_rolls.outs-Func d ps) allowed at s
              ∙ ap (λ (m : Found (Declarator Scope)). and_then m (λ x s. and_then (located s (suffix_found true x.derivations)) (λ done s. and_then (params_of p.target roles ps (allowed.unnamed || not (is_next_to_name x.derivations)) s) (λ ps s. Ok (with_derivation at (to.Function ps.0 ps.1) x, s)))))
              (declr-at p.target roles (declr.Named x) (one.Declr::Named x) (declr_rolls.outs-Named x) allowed k s)
              ∙ ap (λ (b : Bool). and_then (params_of p.target roles ps b s) (λ ps s. Ok (with_derivation at (to.Function ps.0 ps.1) inner, s))) flag
              ∙ ap (λ (m : Found (List Parameter × Scope)). and_then m (λ ps s. Ok (with_derivation at (to.Function ps.0 ps.1) inner, s))) q.is;
          fits = subst (λ (u : CType). Fits p.target (structures_of s) (layouts_of s) (numbered u) (record { at = at; node = next q.parameters } ∷ []) whole) (sym e)
              (Further at (next q.parameters) (numbered (out-Sig sig).result) whole [] (ap result_breach (shape-level number (out-Sig sig).result) ∙ result-breaks p number (out-Sig sig).result result)
              (subst (λ (u : CType). Fits p.target (structures_of s) (layouts_of s) u [] whole) (sym (function-is p number roles sized sig q.parameters ts)) (Itself whole)));
        };
        parameters = q.parameters;
        are = q.are;
        place = at;
        outer = [];
        first = refl;
      }
    where
      or-no : (b : Bool) → (b || false) ≡ b
      or-no true = refl
      or-no false = refl

  pub function-declared : (allowed : Allowed) → AreNew number roles allowed.unnamed [] entries → (b t : CType) (d : Declr) (core : Core) → Declares p.structures b d core t → core ≡ Function x entries → t ≡ (out-Sig sig).result → Stands p t → (at : ℕ) → FunctionAs d allowed at b
  function-declared allowed new _ _ _ _ (DeclaresNothing t) c e h at = absurd (cc)
  function-declared allowed new _ _ _ _ (DeclaresName t y) c e h at = absurd (cc)
  function-declared allowed new _ _ _ _ (DeclaresFunction t y es ps k r) c e h at =
      let q = core-is y es c in
      subst (λ (z : Name). FunctionAs (declr.Func (record { at = k; node = declr.Named z }) ps) allowed at t) (sym q.0)
      (next-to-name allowed at k t ps e (subst (λ (fs : List Entry). ShowsParams p.structures fs ps) q.1 r) new)
  function-declared allowed new _ _ _ _ (InParens b t d core r) c e h at =
      let q = function-declared allowed new b t d.node core r c e h d.at in
      record {
        found = record { derivations = q.found.derivations; is = declr-at p.target roles (declr.Paren d) (one.Declr::Paren d) (declr_rolls.outs-Paren d) allowed at s ∙ q.found.is; fits = q.found.fits };
        parameters = q.parameters;
        are = q.are;
        place = q.place;
        outer = q.outer;
        first = q.first;
      }
  function-declared allowed new _ _ _ _ (DeclaresPointer c b t d core e r) k l h at =
      let q = function-declared allowed new c t d.node core r k l h d.at in
      let words = qualifier_words c.constant c.volatile in
      let not_void = pointed-not-void p c b e (base-stands p number roles sized c t d.node core r h) in
      let last : At (Derivation Scope) = record { at = at; node = pointer_derivation words } in
      record {
        found = record {
          derivations = q.found.derivations ++ last ∷ [];
          is = declr-at p.target roles (declr.Pointer words d) (one.Pointer words d) (declr_rolls.outs-Pointer words d) allowed at s
              ∙ ap (λ (m : Found (Declarator Scope)). and_then m (λ x s. Ok (with_derivation at (pointer_derivation words) x, s))) q.found.is;
          fits = Further at (pointer_derivation words) (numbered b) whole q.found.derivations (pointer-breaks b not_void (list_any says_const words) (list_any says_volatile words))
              (subst (λ (u : CType). FitsTo u q.found.derivations whole) (sym (pointer-type p number roles sized c b e)) q.found.fits);
        };
        parameters = q.parameters;
        are = q.are;
        place = q.place;
        outer = q.outer ++ last ∷ [];
        first = behind last q.found.derivations q.outer (record { at = q.place; node = next q.parameters }) q.first;
      }
  function-declared allowed new _ _ _ _ (DeclaresArray c b t n d core k e f g r) l m h at =
      let q = function-declared allowed new c t d.node core r l m h d.at in
      let stands = base-stands p number roles sized c t d.node core r h in
      let bound : At Tree = record { at = k; node = tree.Number n (plain_suffix n) } in
      let inner : Declarator Scope = record { name = Some x; derivations = q.found.derivations } in
      let last : At (Derivation Scope) = record { at = at; node = to.Array (Some n) } in
      record {
        found = record {
          derivations = q.found.derivations ++ last ∷ [];
          is = declr-at p.target roles (declr.Array d (Some bound)) (one.Array d (Some bound)) (declr_rolls.outs-Array d (Some bound)) allowed at s
              ∙ ap (λ (m : Found (Declarator Scope)). and_then m (λ x s. and_then (located s (suffix_found false x.derivations)) (λ done s. bounded at allowed x (Some (here p.target roles bound)) s))) q.found.is
              ∙ ap (λ (j : JudgedAt Checked). and_then (located s j) (λ done s. bounded at allowed inner (Some (here p.target roles bound)) s)) (suffix-array p.target (structures_of s) (layouts_of s) (numbered c) whole (numbered b) n q.found.derivations (level-at number c (shape.Array b n) e) q.found.fits)
              ∙ bound-found p.target roles at k n allowed inner s (element-is p c b n e stands).bound;
          fits = Further at (to.Array (Some n)) (numbered b) whole q.found.derivations (array-breaks c b n e stands) (subst (λ (u : CType). FitsTo u q.found.derivations whole) (sym (array-type c b n e f g)) q.found.fits);
        };
        parameters = q.parameters;
        are = q.are;
        place = q.place;
        outer = q.outer ++ last ∷ [];
        first = behind last q.found.derivations q.outer (record { at = q.place; node = next q.parameters }) q.first;
      }
  function-declared allowed new _ _ _ _ (DeclaresFunc c t other ps d core e f g k r) l m h at =
      let q = function-declared allowed new c t d.node core r l m h d.at in
      let good = signature-stands p c other e (base-stands p number roles sized c t d.node core r h) in
      let parts = signature-parts p other good in
      let v = parameters-found p number roles sized s known true (unnamed (out-Sig other).params) ps k (unnamed-new number roles [] (out-Sig other).params) (all-plain p (out-Sig other).params parts.1) in
      let ts = parameter-types number (unnamed (out-Sig other).params) v.parameters (out-Sig other).params v.are (unnamed-types (out-Sig other).params (all-same p (out-Sig other).params parts.1)) in
      let start : At (Derivation Scope) = record { at = q.place; node = next q.parameters } in
      let scope = scope_of (map (entry_numbered number) (unnamed (out-Sig other).params)) in
      let last : At (Derivation Scope) = record { at = at; node = to.Function v.parameters scope } in
      let inner : Declarator Scope = record { name = Some x; derivations = q.found.derivations } in
      record {
        found = record {
          derivations = q.found.derivations ++ last ∷ [];
          is = declr-at p.target roles (declr.Func d ps) (one.Func d ps) (declr_rolls.outs-Func d ps) allowed at s
              ∙ ap (λ (m : Found (Declarator Scope)). and_then m (λ x s. and_then (located s (suffix_found true x.derivations)) (λ done s. and_then (params_of p.target roles ps (allowed.unnamed || not (is_next_to_name x.derivations)) s) (λ ps s. Ok (with_derivation at (to.Function ps.0 ps.1) x, s))))) q.found.is
              ∙ ap (λ (j : JudgedAt Checked). and_then (located s j) (λ done s. and_then (params_of p.target roles ps (allowed.unnamed || not (is_next_to_name q.found.derivations)) s) (λ ps s. Ok (with_derivation at (to.Function ps.0 ps.1) inner, s)))) (suffix-function p.target (structures_of s) (layouts_of s) (numbered c) whole q.found.derivations (sig_numbered number other) (level-at number c (shape.Func other) e) q.found.fits)
              ∙ ap (λ (b : Bool). and_then (params_of p.target roles ps b s) (λ ps s. Ok (with_derivation at (to.Function ps.0 ps.1) inner, s))) (flag-by allowed q.found.derivations q.outer start q.first)
              ∙ ap (λ (m : Found (List Parameter × Scope)). and_then m (λ ps s. Ok (with_derivation at (to.Function ps.0 ps.1) inner, s))) v.is;
          fits = Further at (to.Function v.parameters scope) (numbered (out-Sig other).result) whole q.found.derivations (ap result_breach (shape-level number (out-Sig other).result) ∙ result-breaks p number (out-Sig other).result parts.0)
              (subst (λ (u : CType). FitsTo u q.found.derivations whole) (sym (function-type c other v.parameters e f g ts)) q.found.fits);
        };
        parameters = q.parameters;
        are = q.are;
        place = q.place;
        outer = q.outer ++ last ∷ [];
        first = behind last q.found.derivations q.outer start q.first;
      }

  pub is-declared : (allowed : Allowed) → HaveNewNames roles entries → (allowed.unnamed || list_all (λ (e : Entry). is_some e.0) entries) ≡ true → (b : CType) (d : Declr) → Declares p.structures b d (Function x entries) (out-Sig sig).result → (at : ℕ) →
      IsFunctionDeclared p number roles s d allowed at x entries b sig
  is-declared allowed names named b d h at =
      let q = function-declared allowed (all-new number roles allowed.unnamed entries names named) b (out-Sig sig).result d (Function x entries) h refl refl (result-stands p (kind_in p (out-Sig sig).result) result) at in
      record {
        parameters = q.parameters;
        are = q.are;
        place = q.place;
        outer = q.outer;
        is = q.found.is ∙ ap (λ (ds : Derivations). Ok (record { name = Some x; derivations = ds }, s)) q.first;
        typed = sym (ap (λ (ds : Derivations). type_found p.target (structures_of s) (layouts_of s) allowed (numbered b) ds) q.first)
            ∙ fits-derived p.target (structures_of s) (layouts_of s) allowed.void (numbered b) q.found.derivations whole q.found.fits;
      }
