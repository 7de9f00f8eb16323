-- The words of a member's type name it, where they name a structure that is known, and one that is not: that is declared there.
use Rattle.std.proofs.Common.{◌≡◌, ◌<◌, ℕ, Bool, true, false, List, [], ◌∷◌, ◌++◌, map, length, Option, Some, None, Ok, refl, ap, sym, ◌∙◌, subst, slice_get, nat_lt, arith}
use Rattle.std.proofs.lemmas.Bool.Decides.{nat_tests}
use Rattle.std.proofs.lemmas.List.{length-map, map-append}
use Rattle.std.specs.Prelude.{if◌then◌else◌, ◌&&◌}
use Rattle.std.specs.Str.{bytes_eq}
use Rattle.cc_type.specs.CcTypedTerms.Specifiers.{begin, as_type}
use Rattle.cc_type.specs.CcOperands.Qualified.{plain, further, qualified_by}
use Rattle.cc_type.specs.CcOperands.Verdicts.{Judged, judge_then}
use Rattle.cc_program.specs.declared.program.Program.{Program}
use Rattle.cc_program.specs.declared.program.Roles.{Roles}
use Rattle.cc_program.specs.declared.types.CType.{CType}
use Rattle.cc_program.specs.declared.types.Shape.{Shape, Struct, out-Shape}
use Rattle.cc_program.specs.declared.types.Shape.TheOpen as shape
use Rattle.cc_program.specs.declared.types.Shape.TheVariants.{outs-Struct}
use Rattle.cc_program.specs.declared.types.Sig.{Sig}
use Rattle.cc_program.specs.declared.types.Structure.{Structure}
use Rattle.cc_type.specs.CcScopes.State.{State, Name, KnownStructure, only_named, find_name, with_name, tagged, tagged_here, or_else}
use Rattle.cc_type.specs.CcScopes.Structures.{new_structure, structure_named, structure_type}
use Rattle.cc_type.specs.CcScopes.Verdicts.{Found, whole, and_then}
use Rattle.cc_type.specs.CcScopes.declared.designated.Tagged.{Tagged}
use Rattle.cc_type.specs.CcScopes.declared.designated.Tagged.TheVariants.{StructureTag}
use Rattle.cc_type.specs.CcSpecifiers.BasicTypes.{no_word}
use Rattle.cc_type.specs.CcSpecifiers.Specifiers.{with_specifier, specified}
use Rattle.cc_type.specs.CcSpecifiers.declared.specifier.Base.TheVariants as base
use Rattle.cc_type.specs.CcSpecifiers.declared.specifier.Specifier.{Specifier}
use Rattle.cc_type.specs.CcSpecifiers.declared.specifier.Specifier.TheVariants as specifier
use Rattle.cc_type.specs.CcSpecifiers.declared.specifier.Specs.{Specs}
use Rattle.cc_type.specs.CcSpecifiers.declared.storage.Setting.{Setting}
use Rattle.cc_type.specs.CcSyntax.Names.{tags}
use Rattle.cc_type.specs.CcSyntax.Sound.{IsSound}
use Rattle.cc_type.specs.CcSyntax.Types.{has_members}
use Rattle.cc_type.specs.CcTerms.Specifiers.{specified_found}
use Rattle.cc_type.specs.CcTerms.Terms.{spec_of, spec_here}
use Rattle.cc_tree.specs.declared.at.At.{At}
use Rattle.cc_tree.specs.declared.tree.Declr.TheOpen as one
use Rattle.cc_tree.specs.declared.tree.Spec as spec
use Rattle.cc_tree.specs.declared.tree.Spec.{Spec}
use Rattle.cc_tree.specs.declared.tree.Spec.TheVariants as spec_rolls
use Rattle.cc_expression_trees.specs.Types.{ShowsWords, ShowsBase, ShowsVoid, ShowsInt, ShowsStructure, qualifier_words}
use Rattle.cc_shown_expressions.specs.Numbers.{type_numbered}
use Rattle.cc_shown_expressions.proofs.Bases.{type-of-fields, shape-of-level, opens-as, specified-found}
use Rattle.cc_shown_expressions.proofs.Numbering.{level-at, constant-kept, volatile-kept}
use Rattle.cc_shown_expressions.proofs.Words.{start, reached, qualifiers-told, spec-at, words-behind}
use Rattle.cc_shown_declarations.specs.Order.{base_of, is_among, with_first, with_base, appearance, structure_number}
use Rattle.cc_shown_declarations.specs.States.{tag_or_none, tag_entry, whole_structure, known_by, known_as, first_state}
use Rattle.cc_shown_declarations.proofs.Announced.{NamesOnly}
use Rattle.cc_shown_declarations.proofs.Namings.{base_in, base-at, named_level, named-at}
use Rattle.cc_shown_declarations.proofs.Orders.{same, FirstIs, Old, New, first-is, Begins, number-new}
use Rattle.cc_shown_declarations.proofs.Standing.{number_then, IsThen, program_then, base-then, same-numbers, knows-then}
use Rattle.cc_shown_declarations.proofs.Tags.{tag-new}

-- ---- a name that is not there yet

added-by : {A : Type 0} → (x : Name) (d : A) (b : Name × A) (rest : List (Name × A)) (t : Bool) → (if t then Some b.1 else find_name x rest) ≡ None → (find_name x rest ≡ None → with_name x d rest ≡ rest ++ (x, d) ∷ []) →
    (if t then (b.0, d) ∷ rest else b ∷ with_name x d rest) ≡ b ∷ (rest ++ (x, d) ∷ [])
added-by x d b rest true h next = absurd (cc)
added-by x d b rest false h next = ap (λ ys. b ∷ ys) (next h)

added : {A : Type 0} → (x : Name) (d : A) (xs : List (Name × A)) → find_name x xs ≡ None → with_name x d xs ≡ xs ++ (x, d) ∷ []
added x d [] h = refl
added x d (b ∷ rest) h = added-by x d b rest (bytes_eq x b.0) h (λ k. added x d rest k)

struct-qualified : (c v : Bool) (i : ℕ) → qualified_by c v (plain (Struct i)) ≡ record { constant = c; volatile = v; shape = Struct i }
struct-qualified c v i = opens-as (further c v) (plain (Struct i)) (shape.Struct i) (outs-Struct i) ∙ rw (outs-Struct i) refl

struct-numbered : (number : ℕ → ℕ) (b : CType) (i : ℕ) → out-Shape b.shape ≡ shape.Struct i → record { constant = b.constant; volatile = b.volatile; shape = Struct (number i) } ≡ type_numbered number b
struct-numbered number b i e =
    type-of-fields (record { constant = b.constant; volatile = b.volatile; shape = Struct (number i) }) (type_numbered number b) (sym (constant-kept number b)) (sym (volatile-kept number b))
    (shape-of-level (Struct (number i)) (type_numbered number b).shape (outs-Struct (number i) ∙ sym (level-at number b (shape.Struct i) e)))

module _ (p : Program) (sound : IsSound p) where
  module _ (complete : ℕ) (order : List ℕ) (before : (i : ℕ) → i < complete → is_among i order ≡ true) (within : (i : ℕ) → is_among i order ≡ true → (t : Structure) × (slice_get p.structures i ≡ Some t)) where
    abbrev now : State
    now = first_state p complete order

    late : (i : ℕ) → is_among i order ≡ false → nat_lt i complete ≡ false
    late i h = late-by i (nat_lt i complete) refl h
      where
        late-by : (i : ℕ) (b : Bool) → nat_lt i complete ≡ b → is_among i order ≡ false → b ≡ false
        late-by i false e h = refl
        late-by i true e h = absurd (let k : i < complete = grind (arith, nat_tests) in let g : true ≡ false = sym (before i k) ∙ h in cc)

    known-new : (i : ℕ) (t : Structure) → slice_get p.structures i ≡ Some t → is_among i order ≡ false → known_as p complete i ≡ only_named (Some t.tag)
    known-new i t e h = ap (known_by p (nat_lt i complete) i) e ∙ ap (λ (c : Bool). if c && has_members (Some t) then whole_structure p i t else only_named (Some t.tag)) (late i h)

    abbrev with_parts : List (Name × Tagged) → List KnownStructure → State
    with_parts tags structures = record { scopes = record { names = []; tags = tags } ∷ []; structures = structures; completed = now.completed; names = []; locals = []; unfinished = None }

    -- `struct x` that declares x
    pub tag-absent : (i : ℕ) (t : Structure) → slice_get p.structures i ≡ Some t → is_among i order ≡ false → tagged_here t.tag now ≡ None
    tag-absent i t e h = tag-new p sound i t order e h within

    pub new-structure : (i : ℕ) (t : Structure) → slice_get p.structures i ≡ Some t → is_among i order ≡ false → Begins (order ++ i ∷ []) (appearance p) → new_structure (Some t.tag) now ≡ (structure_number p i, first_state p complete (order ++ i ∷ []))
    new-structure i t e h b =
        let count : length (map (known_as p complete) order) ≡ structure_number p i = length-map order (known_as p complete) ∙ sym (number-new i order (appearance p) b h) in
        ap (λ n. (n, with_parts (with_name t.tag (StructureTag n) (map (tag_entry p) order)) (map (known_as p complete) order ++ only_named (Some t.tag) ∷ []))) count
        ∙ ap (λ (tags : List (Name × Tagged)). (structure_number p i, with_parts tags (map (known_as p complete) order ++ only_named (Some t.tag) ∷ [])))
        (added t.tag (StructureTag (structure_number p i)) (map (tag_entry p) order) (tag-absent i t e h)
        ∙ ap (λ (x : Name). map (tag_entry p) order ++ (x, StructureTag (structure_number p i)) ∷ []) (sym (ap (tag_or_none p) e)) ∙ sym (map-append (tag_entry p) order (i ∷ [])))
        ∙ ap (λ (ks : List KnownStructure). (structure_number p i, with_parts (map (tag_entry p) (order ++ i ∷ [])) ks))
        (ap (λ (k : KnownStructure). map (known_as p complete) order ++ k ∷ []) (sym (known-new i t e h)) ∙ sym (map-append (known_as p complete) order (i ∷ [])))

    new-tag : (i at : ℕ) (t : Structure) → slice_get p.structures i ≡ Some t → is_among i order ≡ false → Begins (order ++ i ∷ []) (appearance p) →
        structure_named at t.tag now (tagged t.tag now.scopes) ≡ Ok (structure_type (structure_number p i), first_state p complete (order ++ i ∷ []))
    new-tag i at t e h b =
        ap (λ (o : Option Tagged). structure_named at t.tag now (or_else o None)) (tag-absent i t e h)
        ∙ ap (λ (new : ℕ × State). Ok (structure_type new.0, new.1)) (new-structure i t e h b)

  -- ---- specifiers of a member

  module _ (roles : Roles) where
    pub record Specified (setting : Setting) (b : CType) (ss : List (At Spec)) (s u : State) : Type 0 where
      pub specs : Specs
      pub is : specified_found setting (map (spec_here p.target roles) ss) s ≡ Ok (record { specs = specs; ctype = type_numbered (structure_number p) b }, u)

    -- where all is known
    known-specified : (complete : ℕ) (order : List ℕ) (someone : ℕ) → IsThen p complete order someone → (setting : Setting) (b : CType) (ss : List (At Spec)) → ShowsBase p.structures b ss → NamesOnly p order b →
        Specified setting b ss (first_state p complete order) (first_state p complete order)
    known-specified complete order someone known setting b ss h only =
        let f = specified-found (program_then p complete order someone) (number_then p complete order someone) roles (first_state p complete order) (knows-then p complete order someone sound known) setting b ss (base-then p complete order someone b ss h only) in
        record { specs = f.specs; is = f.is ∙ ap (λ (t : CType). Ok (record { specs = f.specs; ctype = t }, first_state p complete order)) (same-numbers p complete order someone b only) }

    new-found : (complete : ℕ) (order : List ℕ) (someone : ℕ) → IsThen p complete order someone → (i at : ℕ) (t : Structure) → slice_get p.structures i ≡ Some t → is_among i order ≡ false → Begins (order ++ i ∷ []) (appearance p) →
        spec_of p.target roles (spec.Struct (Some t.tag) None [] []) at (first_state p complete order) ≡ Ok (specifier.Type (structure_type (structure_number p i)), first_state p complete (order ++ i ∷ []))
    new-found complete order someone known i at t e h b =
        spec-at p.target roles (spec.Struct (Some t.tag) None [] []) (one.Struct (Some t.tag) None [] []) (spec_rolls.outs-Struct (Some t.tag) None [] []) at (first_state p complete order)
        ∙ ap as_type (new-tag complete order known.before known.within i at t e h b)

    new-specified : (complete : ℕ) (order : List ℕ) (someone : ℕ) → IsThen p complete order someone → (setting : Setting) (b : CType) (i : ℕ) (t : Structure) (qs : List (At Spec)) (at : ℕ) → out-Shape b.shape ≡ shape.Struct i → slice_get p.structures i ≡ Some t →
        ShowsWords (qualifier_words b.constant b.volatile) qs → is_among i order ≡ false → Begins (order ++ i ∷ []) (appearance p) →
        Specified setting b (qs ++ record { at = at; node = spec.Struct (Some t.tag) None [] [] } ∷ []) (first_state p complete order) (first_state p complete (order ++ i ∷ []))
    new-specified complete order someone known setting b i t qs at e f r h g =
        let s = first_state p complete order in
        let u = first_state p complete (order ++ i ∷ []) in
        let empty = reached None [] b.constant b.volatile (base.Words no_word) in
        let full = reached None [] b.constant b.volatile (base.Itself (structure_type (structure_number p i))) in
        let last : At Spec = record { at = at; node = spec.Struct (Some t.tag) None [] [] } in
        let turn = words-behind p.target roles setting (qualifier_words b.constant b.volatile) qs (last ∷ []) r (start None []) empty s (qualifiers-told setting None [] b.constant b.volatile)
        ∙ ap (λ (m : Found Specifier). and_then (and_then m (λ p s. whole at s (with_specifier setting at p empty))) (λ b s. Ok (b, s))) (new-found complete order someone known i at t f h g) in
        record {
          specs = full;
          is = ap (λ (m : Found Specs). and_then m (λ specs s. whole (begin (map (spec_here p.target roles) (qs ++ last ∷ []))) s (specified specs))) turn
              ∙ ap (λ (j : Judged CType). whole (begin (map (spec_here p.target roles) (qs ++ last ∷ []))) u (judge_then j (λ t. Ok (record { specs = full; ctype = t }))))
              (ap (λ (t : CType). Ok t) (struct-qualified b.constant b.volatile (structure_number p i) ∙ struct-numbered (structure_number p) b i e));
        }

    struct-by : (complete : ℕ) (order : List ℕ) (someone : ℕ) → IsThen p complete order someone → (setting : Setting) (b : CType) (i : ℕ) (t : Structure) (qs : List (At Spec)) (at : ℕ) → (e : out-Shape b.shape ≡ shape.Struct i) → (f : slice_get p.structures i ≡ Some t) →
        (r : ShowsWords (qualifier_words b.constant b.volatile) qs) → FirstIs i order → Begins (with_first i order) (appearance p) →
        Specified setting b (qs ++ record { at = at; node = spec.Struct (Some t.tag) None [] [] } ∷ []) (first_state p complete order) (first_state p complete (with_first i order))
    struct-by complete order someone known setting b i t qs at e f r (Old h w) g =
        subst (λ (o : List ℕ). Specified setting b (qs ++ record { at = at; node = spec.Struct (Some t.tag) None [] [] } ∷ []) (first_state p complete order) (first_state p complete o)) (sym w)
        (known-specified complete order someone known setting b (qs ++ record { at = at; node = spec.Struct (Some t.tag) None [] [] } ∷ []) (ShowsStructure b i t qs at e f r)
        (λ j n. let is = same j i (sym (named-at j b (shape.Struct i) e) ∙ n) in subst (λ k. is_among k order ≡ true) (sym is) h))
    struct-by complete order someone known setting b i t qs at e f r (New h w) g =
        subst (λ (o : List ℕ). Specified setting b (qs ++ record { at = at; node = spec.Struct (Some t.tag) None [] [] } ∷ []) (first_state p complete order) (first_state p complete o)) (sym w)
        (new-specified complete order someone known setting b i t qs at e f r h (subst (λ (o : List ℕ). Begins o (appearance p)) w g))

    no-names : (b : CType) (x : shape.Shape-F Shape CType Sig) (order : List ℕ) → out-Shape b.shape ≡ x → ((j : ℕ) → named_level j x ≡ false) → NamesOnly p order b
    no-names b x order e h j n = absurd (let g : false ≡ true = sym (h j) ∙ sym (named-at j b x e) ∙ n in cc)

    base-none : (b : CType) (x : shape.Shape-F Shape CType Sig) → out-Shape b.shape ≡ x → base_in x ≡ None → base_of b ≡ None
    base-none b x e h = base-at b x e ∙ h

    pub base-specified : (complete : ℕ) (order : List ℕ) (someone : ℕ) → IsThen p complete order someone → (setting : Setting) (b : CType) (ss : List (At Spec)) → ShowsBase p.structures b ss → Begins (with_base (base_of b) order) (appearance p) →
        Specified setting b ss (first_state p complete order) (first_state p complete (with_base (base_of b) order))
    base-specified complete order someone known setting _ _ (ShowsVoid b qs ss e r k) g =
        subst (λ (o : Option ℕ). Specified setting b (qs ++ ss) (first_state p complete order) (first_state p complete (with_base o order))) (sym (base-none b shape.Void e refl))
        (known-specified complete order someone known setting b (qs ++ ss) (ShowsVoid b qs ss e r k) (no-names b shape.Void order e (λ j. refl)))
    base-specified complete order someone known setting _ _ (ShowsInt b i qs ss e r k) g =
        subst (λ (o : Option ℕ). Specified setting b (qs ++ ss) (first_state p complete order) (first_state p complete (with_base o order))) (sym (base-none b (shape.Int i) e refl))
        (known-specified complete order someone known setting b (qs ++ ss) (ShowsInt b i qs ss e r k) (no-names b (shape.Int i) order e (λ j. refl)))
    base-specified complete order someone known setting _ _ (ShowsStructure b i t qs at e f r) g =
        let is : base_of b ≡ Some i = base-at b (shape.Struct i) e in
        subst (λ (o : Option ℕ). Specified setting b (qs ++ record { at = at; node = spec.Struct (Some t.tag) None [] [] } ∷ []) (first_state p complete order) (first_state p complete (with_base o order))) (sym is)
        (struct-by complete order someone known setting b i t qs at e f r (first-is i order) (subst (λ (o : Option ℕ). Begins (with_base o order) (appearance p)) is g))
