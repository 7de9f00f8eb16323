-- While structures are still to come, what is known is known of a program too: the one in which those to come have no members, and
-- those that are not named yet have the tag of one that is. A type that names none of these is the same there.
use Rattle.std.proofs.Common.{◌≡◌, ◌<◌, ◌≤◌, ◌+◌, ℕ, zero, suc, Bool, true, false, ◌&&◌, ◌||◌, List, [], ◌∷◌, ◌++◌, map, length, take, Option, Some, None, refl, ap, sym, ◌∙◌, subst, slice_get, nat_lt, unwrap_or, arith}
use Rattle.std.proofs.lemmas.Bool.Decides.{nat_tests}
use Rattle.std.proofs.lemmas.Option.{slice_get-map}
use Rattle.std.proofs.Math.Path.{fun_ext}
use Rattle.std.specs.Prelude.{if◌then◌else◌, option_map}
use Rattle.cc_print.specs.Units.{any_true, is_named_in}
use Rattle.cc_program.specs.declared.program.Program.{Program}
use Rattle.cc_program.specs.declared.types.CType.{CType}
use Rattle.cc_program.specs.declared.types.Shape.{Shape, out-Shape, roll-Shape, out-roll-Shape}
use Rattle.cc_program.specs.declared.types.Shape.TheOpen as shape
use Rattle.cc_program.specs.declared.types.Sig.{Sig, out-Sig, roll-Sig, out-roll-Sig}
use Rattle.cc_program.specs.declared.types.Structure.{Structure}
use Rattle.cc_program.proofs.Each.{Each}
use Rattle.cc_program.proofs.Levels.{sig_of_fields}
use Rattle.cc_program.proofs.TypeInduction.{with_shape, TypeParts, SigParts, by_type}
use Rattle.cc_type.specs.CcScopes.State.{State, Name, KnownStructure, as_structure, structures_of, layouts_of, find_name, tagged, or_else, only_named}
use Rattle.cc_type.specs.CcScopes.declared.designated.Tagged.{Tagged}
use Rattle.cc_type.specs.CcScopes.declared.designated.Tagged.TheVariants.{StructureTag}
use Rattle.cc_type.specs.CcSyntax.Kinds.{extent_with, extent_in, kind_of}
use Rattle.cc_type.specs.CcSyntax.Layout.{nothing, aligned, structure, type_layout, next_layout, layouts}
use Rattle.cc_type.specs.CcSyntax.Programs.{kind_in}
use Rattle.cc_type.specs.CcSyntax.Sizes.{AreSized}
use Rattle.cc_type.specs.CcSyntax.Sound.{IsSound, is_structure, are_structures}
use Rattle.cc_type.specs.CcSyntax.Types.{Named, has_members}
use Rattle.cc_type.specs.CcSyntax.declared.sizes.Layout.{Layout}
use Rattle.cc_type.proofs.CcSyntax.Prefixes.{both_true, get_taken, layouts-at}
use Rattle.cc_type.proofs.CcSyntax.StructureLemmas.{structures_sized}
use Rattle.cc_tree.specs.declared.at.At.{At}
use Rattle.cc_tree.specs.declared.tree.Declr.{Declr}
use Rattle.cc_tree.specs.declared.tree.Param.{Param}
use Rattle.cc_tree.specs.declared.tree.Params.{Params}
use Rattle.cc_tree.specs.declared.tree.Spec as spec
use Rattle.cc_tree.specs.declared.tree.Spec.{Spec}
use Rattle.cc_expression_trees.specs.Types.{Core, Plain, unnamed, ShowsBase, ShowsVoid, ShowsInt, ShowsStructure, Declares, DeclaresNothing, DeclaresName, DeclaresFunction, InParens, DeclaresPointer, DeclaresArray, DeclaresFunc, ShowsParams, ShowsNone, ShowsSome, ShowsParamList, NoParam, MoreParams}
use Rattle.cc_shown_expressions.specs.Known.{KnowsStructures}
use Rattle.cc_shown_expressions.specs.Numbers.{type_numbered, sig_numbered, named_numbered, structure_numbered}
use Rattle.cc_shown_expressions.proofs.Bases.{type-of-fields, shape-of-level}
use Rattle.cc_shown_expressions.proofs.Numbering.{level, level-at, constant-kept, volatile-kept, sig-level}
use Rattle.cc_shown_declarations.specs.Order.{is_among, appearance, structure_number}
use Rattle.cc_shown_declarations.specs.States.{tag_or_none, tag_at, tag_entry, whole_structure, known_by, known_as, first_state}
use Rattle.cc_shown_declarations.proofs.Announced.{NamesOnly}
use Rattle.cc_shown_declarations.proofs.Namings.{named-at, named-inside}
use Rattle.cc_shown_declarations.proofs.Orders.{self, or-left, place-there, Begins, number-old}
use Rattle.cc_shown_declarations.proofs.Tags.{tag-there}

or-second : (a b : Bool) → b ≡ true → (a || b) ≡ true
or-second true b h = refl
or-second false b h = h

nothing-laid : structure [] ≡ nothing
unfolding structure aligned
nothing-laid = refl

no-members : (ms : List Named) → nat_lt 0 (length ms) ≡ false → ms ≡ []
no-members [] h = refl
no-members (m ∷ ms) h = absurd (let g : nat_lt 0 (suc (length ms)) ≡ true = grind (arith, nat_tests) in cc)

get-taken-some : {A : Type 0} → (xs : List A) (k j : ℕ) → j < k → slice_get (take k xs) j ≡ slice_get xs j
get-taken-some [] zero j h = refl
get-taken-some [] (suc k) j h = refl
get-taken-some (x ∷ xs) zero j h = absurd (omega (arith, h))
get-taken-some (x ∷ xs) (suc k) zero h = refl
get-taken-some (x ∷ xs) (suc k) (suc j) h = get-taken-some xs k j (omega (arith, h))

get-taken-none : {A : Type 0} → (xs : List A) (k j : ℕ) → k ≤ j → slice_get (take k xs) j ≡ None
get-taken-none [] zero j h = refl
get-taken-none [] (suc k) j h = refl
get-taken-none (x ∷ xs) zero j h = refl
get-taken-none (x ∷ xs) (suc k) zero h = absurd (omega (arith, h))
get-taken-none (x ∷ xs) (suc k) (suc j) h = get-taken-none xs k j (omega (arith, h))

-- ---- the program that is known so far: so many structures are complete, these are named, and one of them is to come

module _ (p : Program) (complete : ℕ) (order : List ℕ) (someone : ℕ) where
  abbrev number : ℕ → ℕ
  number i = structure_number p i

  abbrev pub number_then : ℕ → ℕ
  number_then i = if is_among i order then number i else number someone

  abbrev pub bare : Name → Structure
  bare x = record { tag = x; members = [] }

  abbrev pub then_at : ℕ → Structure → Structure
  then_at i s = if nat_lt i complete then s else bare (if is_among i order then s.tag else tag_at p someone)

  abbrev pub then_from : ℕ → List Structure → List Structure
  then_from i [] = []
  then_from i (s ∷ ss) = then_at i s ∷ then_from (suc i) ss

  abbrev pub program_then : Program
  program_then = record { target = p.target; roles = p.roles; structures = then_from 0 p.structures; devices = p.devices; objects = p.objects; funcs = p.funcs; main = p.main }

  get-then : (i : ℕ) (ss : List Structure) (j n : ℕ) → n ≡ i + j → slice_get (then_from i ss) j ≡ option_map (then_at n) (slice_get ss j)
  get-then i [] j n e = refl
  get-then i (s ∷ ss) zero n e = let is : i ≡ n = omega (arith, e) in ap (λ k. Some (then_at k s)) is
  get-then i (s ∷ ss) (suc j) n e = get-then (suc i) ss j n (omega (arith, e))

  pub structure-then : (j : ℕ) → slice_get (program_then).structures j ≡ option_map (then_at j) (slice_get p.structures j)
  structure-then j = get-then 0 p.structures j j (omega arith)

  then-early : (i : ℕ) (s : Structure) → nat_lt i complete ≡ true → then_at i s ≡ s
  then-early i s h = ap (λ (b : Bool). if b then s else bare (if is_among i order then s.tag else tag_at p someone)) h

  then-late : (i : ℕ) (s : Structure) → nat_lt i complete ≡ false → then_at i s ≡ bare (if is_among i order then s.tag else tag_at p someone)
  then-late i s h = ap (λ (b : Bool). if b then s else bare (if is_among i order then s.tag else tag_at p someone)) h

  length-then : (i : ℕ) (ss : List Structure) → length (then_from i ss) ≡ length ss
  length-then i [] = refl
  length-then i (s ∷ ss) = ap suc (length-then (suc i) ss)

  below-complete : (i k : ℕ) → i + suc k ≤ complete → nat_lt i complete ≡ true
  below-complete i k h = grind (arith, nat_tests)

  pub take-then : (i k : ℕ) (ss : List Structure) → i + k ≤ complete → take k (then_from i ss) ≡ take k ss
  take-then i zero [] h = refl
  take-then i (suc k) [] h = refl
  take-then i zero (s ∷ ss) h = refl
  take-then i (suc k) (s ∷ ss) h =
      ap (λ (t : Structure). t ∷ take k (then_from (suc i) ss)) (then-early i s (below-complete i k h)) ∙ ap (λ (ts : List Structure). s ∷ ts) (take-then (suc i) k ss (omega (arith, h)))

  -- ---- its structures may stand so

  structure-bare : (before : List Structure) (x : Name) → is_structure before (length p.structures) p.target (bare x) ≡ true
  structure-bare before x = refl

  bare-from : (i : ℕ) (before ss : List Structure) → complete ≤ i → are_structures before (length p.structures) p.target (then_from i ss) ≡ true
  bare-from i before [] h = refl
  bare-from i before (s ∷ ss) h =
      let late : nat_lt i complete ≡ false = grind (arith, nat_tests) in
      ap (λ (t : Structure). is_structure before (length p.structures) p.target t && are_structures (before ++ t ∷ []) (length p.structures) p.target (then_from (suc i) ss)) (then-late i s late)
      ∙ bare-from (suc i) (before ++ bare (if is_among i order then s.tag else tag_at p someone) ∷ []) ss (omega (arith, h))

  and-both : (a b : Bool) → a ≡ true → b ≡ true → (a && b) ≡ true
  and-both a b h k = rw (h, k) refl

  are-then-by : (i : ℕ) (before ss : List Structure) (b : Bool) → nat_lt i complete ≡ b → are_structures before (length p.structures) p.target ss ≡ true → are_structures before (length p.structures) p.target (then_from i ss) ≡ true
  are-then-by i before [] b e h = refl
  are-then-by i before (s ∷ ss) false e h = bare-from i before (s ∷ ss) (grind (arith, nat_tests))
  are-then-by i before (s ∷ ss) true e h =
      let q = both_true (is_structure before (length p.structures) p.target s) (are_structures (before ++ s ∷ []) (length p.structures) p.target ss) h in
      ap (λ (t : Structure). is_structure before (length p.structures) p.target t && are_structures (before ++ t ∷ []) (length p.structures) p.target (then_from (suc i) ss)) (then-early i s e)
      ∙ and-both (is_structure before (length p.structures) p.target s) (are_structures (before ++ s ∷ []) (length p.structures) p.target (then_from (suc i) ss)) q.0
      (are-then-by (suc i) (before ++ s ∷ []) ss (nat_lt (suc i) complete) refl q.1)

  pub sized-then : IsSound p → AreSized (program_then).structures (program_then).target
  sized-then sound = structures_sized (length p.structures) p.target (then_from 0 p.structures) (are-then-by 0 [] p.structures (nat_lt 0 complete) refl sound.structures)

  -- ---- and a type stands there as over the complete ones

  abbrev layout_then : ℕ → Option Layout
  layout_then j = slice_get (layouts p.target (then_from 0 p.structures)) j

  abbrev extent_by : Option Structure → Option Layout → ℕ → ℕ → Option (Option ℕ)
  extent_by o l count j = if has_members o then Some (Some (unwrap_or l nothing).size) else (if nat_lt j count then Some None else None)

  layout-early : (j : ℕ) (s : Structure) → j < complete → slice_get p.structures j ≡ Some s → layout_then j ≡ slice_get (layouts p.target (take complete p.structures)) j
  layout-early j s h e =
      let early : nat_lt j complete ≡ true = grind (arith, nat_tests) in
      layouts-at p.target (then_from 0 p.structures) j s (structure-then j ∙ ap (option_map (then_at j)) e ∙ ap (λ (t : Structure). Some t) (then-early j s early))
      ∙ ap (λ (ss : List Structure). Some (next_layout p.target (layouts p.target ss) s)) (take-then 0 j p.structures (omega (arith, h)) ∙ sym (take-of-take p.structures complete j (omega (arith, h))))
      ∙ sym (layouts-at p.target (take complete p.structures) j s (get-taken-some p.structures complete j h ∙ e))
    where
      take-of-take : {A : Type 0} → (xs : List A) (i k : ℕ) → k ≤ i → take k (take i xs) ≡ take k xs
      take-of-take [] zero zero h = refl
      take-of-take [] zero (suc k) h = refl
      take-of-take [] (suc i) zero h = refl
      take-of-take [] (suc i) (suc k) h = refl
      take-of-take (x ∷ xs) zero zero h = refl
      take-of-take (x ∷ xs) zero (suc k) h = absurd (omega (arith, h))
      take-of-take (x ∷ xs) (suc i) zero h = refl
      take-of-take (x ∷ xs) (suc i) (suc k) h = ap (λ ys. x ∷ ys) (take-of-take xs i k (omega (arith, h)))

  extent-late : (j : ℕ) (o : Option Structure) → nat_lt j complete ≡ false → has_members (option_map (then_at j) o) ≡ false
  extent-late j None h = refl
  extent-late j (Some s) h = ap (λ (t : Structure). has_members (Some t)) (then-late j s h)

  extent-none : (j : ℕ) → slice_get p.structures j ≡ None → has_members (slice_get (take complete p.structures) j) ≡ false
  extent-none j e = by (slice_get (take complete p.structures) j) refl
    where
      by : (o : Option Structure) → slice_get (take complete p.structures) j ≡ o → has_members o ≡ false
      by None f = refl
      by (Some s) f = absurd (let g = (get_taken p.structures complete j s f).1 in let k : None ≡ Some s = sym e ∙ g in cc)

  -- the two extents, by whether the structure is complete
  extent-by : (j : ℕ) (b : Bool) (o : Option Structure) → nat_lt j complete ≡ b → slice_get p.structures j ≡ o → extent_in (then_from 0 p.structures) p.target j ≡ extent_with (take complete p.structures) (length p.structures) p.target j
  extent-by j b None e f =
      ap (λ (o : Option Structure). extent_by o (layout_then j) (length (then_from 0 p.structures)) j) (structure-then j ∙ ap (option_map (then_at j)) f)
      ∙ ap (λ n. if nat_lt j n then Some None else None) (length-then 0 p.structures)
      ∙ sym (ap (λ (b : Bool). if b then Some (Some (unwrap_or (slice_get (layouts p.target (take complete p.structures)) j) nothing).size) else (if nat_lt j (length p.structures) then Some None else None)) (extent-none j f))
  extent-by j false (Some s) e f =
      let late : complete ≤ j = grind (arith, nat_tests) in
      ap (λ (b : Bool). if b then Some (Some (unwrap_or (layout_then j) nothing).size) else (if nat_lt j (length (then_from 0 p.structures)) then Some None else None))
      (ap has_members (structure-then j) ∙ extent-late j (slice_get p.structures j) e)
      ∙ ap (λ n. if nat_lt j n then Some None else None) (length-then 0 p.structures)
      ∙ sym (ap (λ (o : Option Structure). extent_by o (slice_get (layouts p.target (take complete p.structures)) j) (length p.structures) j) (get-taken-none p.structures complete j late))
  extent-by j true (Some s) e f =
      let early : j < complete = grind (arith, nat_tests) in
      ap (λ (o : Option Structure). extent_by o (layout_then j) (length (then_from 0 p.structures)) j) (structure-then j ∙ ap (option_map (then_at j)) f ∙ ap (λ (t : Structure). Some t) (then-early j s e))
      ∙ ap (λ (l : Option Layout). extent_by (Some s) l (length (then_from 0 p.structures)) j) (layout-early j s early f)
      ∙ ap (λ n. extent_by (Some s) (slice_get (layouts p.target (take complete p.structures)) j) n j) (length-then 0 p.structures)
      ∙ sym (ap (λ (o : Option Structure). extent_by o (slice_get (layouts p.target (take complete p.structures)) j) (length p.structures) j) (get-taken-some p.structures complete j early ∙ f))

  pub kind-then : (t : CType) → kind_in program_then t ≡ kind_of p.target (extent_with (take complete p.structures) (length p.structures) p.target) t
  kind-then t = ap (λ (extents : ℕ → Option (Option ℕ)). kind_of p.target extents t) (fun_ext (λ j. extent-by j (nat_lt j complete) (slice_get p.structures j) refl refl))

  -- ---- types that name structures of the order alone are the same there

  abbrev Only : CType → Type 0
  Only t = NamesOnly p order t

  abbrev SameNumbers : CType → Type 0
  SameNumbers t = Only t → type_numbered number_then t ≡ type_numbered number t

  abbrev SameSigs : Sig → Type 0
  SameSigs s = (Only (out-Sig s).result) → ((t : CType) → (m : ℕ) → slice_get (out-Sig s).params m ≡ Some t → Only t) → sig_numbered number_then s ≡ sig_numbered number s

  any-at : (j : ℕ) (ts : List CType) (m : ℕ) (t : CType) → slice_get ts m ≡ Some t → is_named_in j t ≡ true → any_true (map (is_named_in j) ts) ≡ true
  any-at j [] m t e h = absurd (cc)
  any-at j (u ∷ us) zero t e h = let is : u ≡ t = cc in or-left (is_named_in j u) (any_true (map (is_named_in j) us)) (ap (is_named_in j) is ∙ h)
  any-at j (u ∷ us) (suc m) t e h = or-second (is_named_in j u) (any_true (map (is_named_in j) us)) (any-at j us m t e h)

  sig-only : (t : CType) (sig : Sig) → out-Shape t.shape ≡ shape.Func sig → Only t → Only (out-Sig sig).result × ((u : CType) → (m : ℕ) → slice_get (out-Sig sig).params m ≡ Some u → Only u)
  sig-only t sig e h = (
    λ j n. h j (named-at j t (shape.Func sig) e ∙ or-left (is_named_in j (out-Sig sig).result) (any_true (map (is_named_in j) (out-Sig sig).params)) n),
    λ u m f j n. h j (named-at j t (shape.Func sig) e ∙ or-second (is_named_in j (out-Sig sig).result) (any_true (map (is_named_in j) (out-Sig sig).params)) (any-at j (out-Sig sig).params m u f n)),
  )

  struct-number : (t : CType) (i : ℕ) → out-Shape t.shape ≡ shape.Struct i → Only t → number_then i ≡ number i
  struct-number t i e h = ap (λ (b : Bool). if b then number i else number someone) (h i (named-at i t (shape.Struct i) e ∙ self i))

  level-then : (t : CType) (x : shape.Shape-F Shape CType Sig) → out-Shape t.shape ≡ x → TypeParts SameNumbers SameSigs x → Only t → level number_then x ≡ level number x
  level-then t shape.Void e h o = refl
  level-then t (shape.Int i) e h o = refl
  level-then t (shape.Pointer to) e h o = ap (λ (u : CType). shape.Pointer u) (h (λ j n. o j (named-at j t (shape.Pointer to) e ∙ n)))
  level-then t (shape.Array of n) e h o = ap (λ (u : CType). shape.Array u n) (h (λ j k. o j (named-at j t (shape.Array of n) e ∙ k)))
  level-then t (shape.Struct i) e h o = ap (λ n. shape.Struct n) (struct-number t i e o)
  level-then t (shape.Func sig) e h o = let q = sig-only t sig e o in ap (λ (s : Sig). shape.Func s) (h q.0 q.1)

  same-by : (t : CType) (x : shape.Shape-F Shape CType Sig) → out-Shape t.shape ≡ x → TypeParts SameNumbers SameSigs x → SameNumbers t
  same-by t x e h o =
      type-of-fields (type_numbered number_then t) (type_numbered number t) (constant-kept number_then t ∙ sym (constant-kept number t)) (volatile-kept number_then t ∙ sym (volatile-kept number t))
      (shape-of-level (type_numbered number_then t).shape (type_numbered number t).shape (level-at number_then t x e ∙ level-then t x e h o ∙ sym (level-at number t x e)))

  all-same : (ts : List CType) → Each SameNumbers ts → ((t : CType) → (m : ℕ) → slice_get ts m ≡ Some t → Only t) → map (type_numbered number_then) ts ≡ map (type_numbered number) ts
  all-same [] h o = refl
  all-same (t ∷ ts) h o =
      ap (λ (u : CType). u ∷ map (type_numbered number_then) ts) (h.0 (o t 0 refl)) ∙ ap (λ (us : List CType). type_numbered number t ∷ us) (all-same ts h.1 (λ u m e. o u (suc m) e))

  sig-same : (s : Sig) → SigParts SameNumbers SameSigs (out-Sig s) → SameSigs s
  sig-same s h o os =
      sig_of_fields (sig_numbered number_then s) (sig_numbered number s)
      (ap (λ (x : shape.Sig-F Shape CType Sig). x.result) (sig-level number_then s) ∙ h.0 o ∙ sym (ap (λ (x : shape.Sig-F Shape CType Sig). x.result) (sig-level number s)))
      (ap (λ (x : shape.Sig-F Shape CType Sig). x.params) (sig-level number_then s) ∙ all-same (out-Sig s).params h.1 os ∙ sym (ap (λ (x : shape.Sig-F Shape CType Sig). x.params) (sig-level number s)))

  pub same-numbers : (t : CType) → SameNumbers t
  same-numbers = by_type SameNumbers SameSigs (λ constant volatile x h. same-by (with_shape constant volatile (roll-Shape x)) x (out-roll-Shape x) h)
      (λ x h. sig-same (roll-Sig x) (subst (λ (y : shape.Sig-F Shape CType Sig). SigParts SameNumbers SameSigs y) (sym (out-roll-Sig x)) h))

  -- ---- what shows such a type shows it there

  then-tag : (i : ℕ) (s : Structure) → is_among i order ≡ true → (then_at i s).tag ≡ s.tag
  then-tag i s h = by (nat_lt i complete)
    where
      by : (b : Bool) → (if b then s else bare (if is_among i order then s.tag else tag_at p someone)).tag ≡ s.tag
      by true = refl
      by false = ap (λ (c : Bool). if c then s.tag else tag_at p someone) h

  pub base-then : (b : CType) (ss : List (At Spec)) → ShowsBase p.structures b ss → Only b → ShowsBase (program_then).structures b ss
  base-then _ _ (ShowsVoid b qs ss e r k) o = ShowsVoid b qs ss e r k
  base-then _ _ (ShowsInt b i qs ss e r k) o = ShowsInt b i qs ss e r k
  base-then _ _ (ShowsStructure b i s qs at e f r) o =
      let among = o i (named-at i b (shape.Struct i) e ∙ self i) in
      subst (λ (x : Name). ShowsBase (program_then).structures b (qs ++ record { at = at; node = spec.Struct (Some x) None [] [] } ∷ [])) (then-tag i s among)
      (ShowsStructure b i (then_at i s) qs at e (structure-then i ∙ ap (option_map (then_at i)) f) r)

  abbrev AllOnly : List (Option Name × CType) → Type 0
  AllOnly es = (m : ℕ) (e : Option Name × CType) → slice_get es m ≡ Some e → Only e.1

  unnamed-only : (ts : List CType) → ((t : CType) → (m : ℕ) → slice_get ts m ≡ Some t → Only t) → AllOnly (unnamed ts)
  unnamed-only [] h m e f = absurd (cc)
  unnamed-only (t ∷ ts) h zero e f = let is : ◌≡◌ {A = Option Name × CType} (None, t) e = cc in subst (λ (e : Option Name × CType). Only e.1) is (h t 0 refl)
  unnamed-only (t ∷ ts) h (suc m) e f = unnamed-only ts (λ u n g. h u (suc n) g) m e f

  mutual
    pub declares-then : (b t : CType) (d : Declr) (core : Core) (x : Option Name) → Declares p.structures b d core t → core ≡ Plain x → Only t → Declares (program_then).structures b d core t
    declares-then _ _ _ _ x (DeclaresNothing t) c o = DeclaresNothing t
    declares-then _ _ _ _ x (DeclaresName t y) c o = DeclaresName t y
    declares-then _ _ _ _ x (DeclaresFunction t y es ps at h) c o = absurd (cc)
    declares-then _ _ _ _ x (InParens b t d core r) c o = InParens b t d core (declares-then b t d.node core x r c o)
    declares-then _ _ _ _ x (DeclaresPointer k b t d core e r) c o = DeclaresPointer k b t d core e (declares-then k t d.node core x r c o)
    declares-then _ _ _ _ x (DeclaresArray k b t n d core at e f g r) c o = DeclaresArray k b t n d core at e f g (declares-then k t d.node core x r c o)
    declares-then _ _ _ _ x (DeclaresFunc k t sig ps d core e f g h r) c o =
        let inner : Only k = λ j n. o j (named-inside p.structures j k t d.node core r n) in
        DeclaresFunc k t sig ps d core e f g (params-then (unnamed (out-Sig sig).params) ps h (unnamed-only (out-Sig sig).params (sig-only k sig e inner).1) (out-Sig sig).params refl) (declares-then k t d.node core x r c o)

    params-then : (es : List (Option Name × CType)) (ps : Params) → ShowsParams p.structures es ps → AllOnly es → (ts : List CType) → es ≡ unnamed ts → ShowsParams (program_then).structures es ps
    params-then _ _ ShowsNone o ts e = ShowsNone
    params-then _ _ (ShowsSome x es ps r) o ts e = ShowsSome x es ps (list-then (x ∷ es) ps r o)

    list-then : (es : List (Option Name × CType)) (ps : List (At Param)) → ShowsParamList p.structures es ps → AllOnly es → ShowsParamList (program_then).structures es ps
    list-then _ _ NoParam o = NoParam
    list-then _ _ (MoreParams x b t ss d at es ps hb hd hr) o =
        let own : Only t = o 0 (x, t) refl in
        MoreParams x b t ss d at es ps (base-then b ss hb (λ j n. own j (named-inside p.structures j b t d.node (Plain x) hd n))) (declares-then b t d.node (Plain x) x hd refl own) (list-then es ps hr (λ m e f. o (suc m) e f))

  -- ---- where all are complete it is the program

  whole-from : (i : ℕ) (ss : List Structure) → i + length ss ≤ complete → then_from i ss ≡ ss
  whole-from i [] h = refl
  whole-from i (s ∷ ss) h =
      let k : i + suc 0 ≤ complete = omega (arith, h) in
      ap (λ (t : Structure). t ∷ then_from (suc i) ss) (then-early i s (below-complete i 0 k)) ∙ ap (λ (ts : List Structure). s ∷ ts) (whole-from (suc i) ss (omega (arith, h)))

  pub whole-program : length p.structures ≤ complete → program_then ≡ p
  whole-program h = ap (λ (ss : List Structure). record { target = p.target; roles = p.roles; structures = ss; devices = p.devices; objects = p.objects; funcs = p.funcs; main = p.main }) (whole-from 0 p.structures (omega (arith, h)))

  -- ---- what is known

  pub record IsThen : Type 0 where
    pub begins : Begins order (appearance p)
    pub before : (i : ℕ) → i < complete → is_among i order ≡ true
    pub within : (i : ℕ) → is_among i order ≡ true → (t : Structure) × (slice_get p.structures i ≡ Some t)
    -- where there are some to come, this one is named
    pub spare : (i : ℕ) (t : Structure) → slice_get p.structures i ≡ Some t → nat_lt i complete ≡ false → (is_among someone order ≡ true) × (complete ≤ someone)
    pub members : (i m : ℕ) (t : Structure) (l : Named) → i < complete → slice_get p.structures i ≡ Some t → slice_get t.members m ≡ Some l → Only l.1

  module _ (sound : IsSound p) (known : IsThen) where
    abbrev now : State
    now = first_state p complete order

    tag-is : (i : ℕ) (t : Structure) → slice_get p.structures i ≡ Some t → tag_at p i ≡ t.tag
    tag-is i t e = ap (tag_or_none p) e

    tag-found : (i : ℕ) (t : Structure) → slice_get p.structures i ≡ Some t → is_among i order ≡ true → find_name t.tag (map (tag_entry p) order) ≡ Some (StructureTag (number i))
    tag-found i t e h = tag-there p sound i t order e h known.within

    tagged-is : (i : ℕ) (t : Structure) → slice_get p.structures i ≡ Some t → is_among i order ≡ true → tagged t.tag now.scopes ≡ Some (StructureTag (number i))
    tagged-is i t e h = ap (λ (o : Option Tagged). or_else o None) (tag-found i t e h)

    -- ---- the structures, by their numbers

    known-at : (i : ℕ) → is_among i order ≡ true → slice_get now.structures (number i) ≡ Some (known_as p complete i)
    known-at i h =
        slice_get-map (known_as p complete) order (number i)
        ∙ ap (λ k. option_map (known_as p complete) (slice_get order k)) (number-old i order (appearance p) known.begins h)
        ∙ ap (option_map (known_as p complete)) (place-there i order h)

    known-early : (i : ℕ) (t : Structure) → slice_get p.structures i ≡ Some t → nat_lt i complete ≡ true → (b : Bool) → has_members (Some t) ≡ b → known_as p complete i ≡ known_by p b i (Some t)
    known-early i t e h b m =
        ap (known_by p (nat_lt i complete) i) e ∙ ap (λ (c : Bool). if c && has_members (Some t) then whole_structure p i t else only_named (Some t.tag)) h
        ∙ by b m
      where
        by : (b : Bool) → has_members (Some t) ≡ b → (if has_members (Some t) then whole_structure p i t else only_named (Some t.tag)) ≡ (if b && has_members (Some t) then whole_structure p i t else only_named (Some t.tag))
        by true m = refl
        by false m = ap (λ (c : Bool). if c then whole_structure p i t else only_named (Some t.tag)) m

    known-late : (i : ℕ) (t : Structure) → slice_get p.structures i ≡ Some t → nat_lt i complete ≡ false → known_as p complete i ≡ only_named (Some t.tag)
    known-late i t e h = ap (known_by p (nat_lt i complete) i) e ∙ ap (λ (c : Bool). if c && has_members (Some t) then whole_structure p i t else only_named (Some t.tag)) h

    members-same : (i m : ℕ) (t : Structure) (ls : List Named) → ((n : ℕ) (l : Named) → slice_get ls n ≡ Some l → Only l.1) → map (named_numbered number) ls ≡ map (named_numbered number_then) ls
    members-same i m t [] h = refl
    members-same i m t (l ∷ ls) h =
        ap (λ (u : CType). (l.0, u) ∷ map (named_numbered number) ls) (sym (same-numbers l.1 (h 0 l refl))) ∙ ap (λ (ns : List Named). named_numbered number_then l ∷ ns) (members-same i m t ls (λ n k e. h (suc n) k e))

    structure-early : (i : ℕ) (t : Structure) (b : Bool) → slice_get p.structures i ≡ Some t → i < complete → has_members (Some t) ≡ b → as_structure (known_by p b i (Some t)) ≡ structure_numbered number_then t
    structure-early i t true e h m =
        ap (λ (c : Bool). as_structure (if c then whole_structure p i t else only_named (Some t.tag))) m
        ∙ ap (λ (ms : List Named). record { tag = t.tag; members = ms }) (members-same i 0 t t.members (λ n l f. known.members i n t l h e f))
    structure-early i t false e h m = ap (λ (ms : List Named). record { tag = t.tag; members = map (named_numbered number_then) ms }) (sym (no-members t.members m))

    number-of-among : (i : ℕ) → is_among i order ≡ true → number_then i ≡ number i
    number-of-among i h = ap (λ (b : Bool). if b then number i else number someone) h

    number-of-other : (i : ℕ) → is_among i order ≡ false → number_then i ≡ number someone
    number-of-other i h = ap (λ (b : Bool). if b then number i else number someone) h

    -- by the structure that stands there
    data IsCase (i : ℕ) (t u : Structure) : Type 0 where
      IsComplete : i < complete → nat_lt i complete ≡ true → u ≡ t → IsCase i t u
      AmongThem : nat_lt i complete ≡ false → is_among i order ≡ true → u ≡ bare t.tag → IsCase i t u
      NotNamed : nat_lt i complete ≡ false → is_among i order ≡ false → u ≡ bare (tag_at p someone) → IsCase i t u

    case-by : (i : ℕ) (t : Structure) (b c : Bool) → nat_lt i complete ≡ b → is_among i order ≡ c → IsCase i t (then_at i t)
    case-by i t true c h k = IsComplete (grind (arith, nat_tests)) h (then-early i t h)
    case-by i t false true h k = AmongThem h k (then-late i t h ∙ ap (λ (c : Bool). bare (if c then t.tag else tag_at p someone)) k)
    case-by i t false false h k = NotNamed h k (then-late i t h ∙ ap (λ (c : Bool). bare (if c then t.tag else tag_at p someone)) k)

    some-option : (i : ℕ) (o : Option Structure) (u : Structure) → slice_get p.structures i ≡ o → option_map (then_at i) o ≡ Some u → (t : Structure) × (slice_get p.structures i ≡ Some t) × (then_at i t ≡ u)
    some-option i None u e h = absurd (cc)
    some-option i (Some t) u e h = let is : then_at i t ≡ u = cc in (t, e, is)

    there-then : (i : ℕ) (u : Structure) → slice_get (program_then).structures i ≡ Some u → (t : Structure) × (slice_get p.structures i ≡ Some t) × (then_at i t ≡ u)
    there-then i u h = some-option i (slice_get p.structures i) u refl (sym (structure-then i) ∙ h)

    one : (i : ℕ) (t : Structure) → slice_get p.structures i ≡ Some t → nat_lt i complete ≡ false → (t : Structure) × (slice_get p.structures someone ≡ Some t)
    one i t e h = known.within someone (known.spare i t e h).0

    tags-by : (i : ℕ) (t u : Structure) → slice_get p.structures i ≡ Some t → IsCase i t u → tagged u.tag now.scopes ≡ Some (StructureTag (number_then i))
    tags-by i t u e (IsComplete h k is) =
        ap (λ (r : Structure). tagged r.tag now.scopes) is ∙ tagged-is i t e (known.before i h) ∙ ap (λ n. Some (StructureTag n)) (sym (number-of-among i (known.before i h)))
    tags-by i t u e (AmongThem h k is) = ap (λ (r : Structure). tagged r.tag now.scopes) is ∙ tagged-is i t e k ∙ ap (λ n. Some (StructureTag n)) (sym (number-of-among i k))
    tags-by i t u e (NotNamed h k is) =
        let r = one i t e h in
        ap (λ (r : Structure). tagged r.tag now.scopes) is ∙ ap (λ (x : Name). tagged x now.scopes) (tag-is someone r.0 r.1) ∙ tagged-is someone r.0 r.1 (known.spare i t e h).0
        ∙ ap (λ n. Some (StructureTag n)) (sym (number-of-other i k))

    late-by : (j k : ℕ) → k ≤ j → nat_lt j k ≡ false
    late-by j k h = grind (arith, nat_tests)

    late-someone : (i : ℕ) (t : Structure) → slice_get p.structures i ≡ Some t → nat_lt i complete ≡ false → nat_lt someone complete ≡ false
    late-someone i t e h = late-by someone complete (known.spare i t e h).1

    structures-by : (i : ℕ) (t u : Structure) → slice_get p.structures i ≡ Some t → IsCase i t u → slice_get (structures_of now) (number_then i) ≡ Some (structure_numbered number_then u)
    structures-by i t u e (IsComplete h k is) =
        slice_get-map as_structure now.structures (number_then i)
        ∙ ap (λ n. option_map as_structure (slice_get now.structures n)) (number-of-among i (known.before i h))
        ∙ ap (option_map as_structure) (known-at i (known.before i h))
        ∙ ap (λ (r : KnownStructure). Some (as_structure r)) (known-early i t e k (has_members (Some t)) refl)
        ∙ ap (λ (r : Structure). Some r) (structure-early i t (has_members (Some t)) e h refl ∙ ap (structure_numbered number_then) (sym is))
    structures-by i t u e (AmongThem h k is) =
        slice_get-map as_structure now.structures (number_then i)
        ∙ ap (λ n. option_map as_structure (slice_get now.structures n)) (number-of-among i k)
        ∙ ap (option_map as_structure) (known-at i k)
        ∙ ap (λ (r : KnownStructure). Some (as_structure r)) (known-late i t e h)
        ∙ ap (λ (r : Structure). Some (structure_numbered number_then r)) (sym is)
    structures-by i t u e (NotNamed h k is) =
        let o = one i t e h in
        slice_get-map as_structure now.structures (number_then i)
        ∙ ap (λ n. option_map as_structure (slice_get now.structures n)) (number-of-other i k)
        ∙ ap (option_map as_structure) (known-at someone (known.spare i t e h).0)
        ∙ ap (λ (r : KnownStructure). Some (as_structure r)) (known-late someone o.0 o.1 (late-someone i t e h))
        ∙ ap (λ (x : Name). Some (bare x)) (sym (tag-is someone o.0 o.1))
        ∙ ap (λ (r : Structure). Some (structure_numbered number_then r)) (sym is)

    -- ---- their layouts

    laid-bare : (j : ℕ) (x : Name) → next_layout p.target (layouts p.target (take j (then_from 0 p.structures))) (bare x) ≡ nothing
    laid-bare j x = nothing-laid

    laid-then : (i : ℕ) (t : Structure) → slice_get p.structures i ≡ Some t → layout_then i ≡ Some (next_layout p.target (layouts p.target (take i (then_from 0 p.structures))) (then_at i t))
    laid-then i t e = layouts-at p.target (then_from 0 p.structures) i (then_at i t) (structure-then i ∙ ap (option_map (then_at i)) e)

    layout-whole : (i : ℕ) (t : Structure) (b : Bool) → slice_get p.structures i ≡ Some t → has_members (Some t) ≡ b → (known_by p b i (Some t)).layout ≡ next_layout p.target (layouts p.target (take i p.structures)) t
    layout-whole i t true e m =
        ap (λ (c : Bool). (if c then whole_structure p i t else only_named (Some t.tag)).layout) m
        ∙ ap (λ (o : Option Layout). unwrap_or o nothing) (layouts-at p.target p.structures i t e)
    layout-whole i t false e m = sym nothing-laid ∙ ap (λ (ms : List Named). structure (map (λ (l : Named). type_layout p.target (layouts p.target (take i p.structures)) l.1) ms)) (sym (no-members t.members m))

    layouts-by : (i : ℕ) (t u : Structure) → slice_get p.structures i ≡ Some t → then_at i t ≡ u → IsCase i t u → slice_get (layouts_of now) (number_then i) ≡ layout_then i
    layouts-by i t u e v (IsComplete h k is) =
        slice_get-map (λ (r : KnownStructure). r.layout) now.structures (number_then i)
        ∙ ap (λ n. option_map (λ (r : KnownStructure). r.layout) (slice_get now.structures n)) (number-of-among i (known.before i h))
        ∙ ap (option_map (λ (r : KnownStructure). r.layout)) (known-at i (known.before i h))
        ∙ ap (λ (r : KnownStructure). Some r.layout) (known-early i t e k (has_members (Some t)) refl)
        ∙ ap (λ (l : Layout). Some l) (layout-whole i t (has_members (Some t)) e refl)
        ∙ sym (laid-then i t e ∙ ap (λ (r : Structure). Some (next_layout p.target (layouts p.target (take i (then_from 0 p.structures))) r)) (v ∙ is)
        ∙ ap (λ (ss : List Structure). Some (next_layout p.target (layouts p.target ss) t)) (take-then 0 i p.structures (omega (arith, h))))
    layouts-by i t u e v (AmongThem h k is) =
        slice_get-map (λ (r : KnownStructure). r.layout) now.structures (number_then i)
        ∙ ap (λ n. option_map (λ (r : KnownStructure). r.layout) (slice_get now.structures n)) (number-of-among i k)
        ∙ ap (option_map (λ (r : KnownStructure). r.layout)) (known-at i k)
        ∙ ap (λ (r : KnownStructure). Some r.layout) (known-late i t e h)
        ∙ sym (laid-then i t e ∙ ap (λ (r : Structure). Some (next_layout p.target (layouts p.target (take i (then_from 0 p.structures))) r)) (v ∙ is) ∙ ap (λ (l : Layout). Some l) (laid-bare i t.tag))
    layouts-by i t u e v (NotNamed h k is) =
        let o = one i t e h in
        slice_get-map (λ (r : KnownStructure). r.layout) now.structures (number_then i)
        ∙ ap (λ n. option_map (λ (r : KnownStructure). r.layout) (slice_get now.structures n)) (number-of-other i k)
        ∙ ap (option_map (λ (r : KnownStructure). r.layout)) (known-at someone (known.spare i t e h).0)
        ∙ ap (λ (r : KnownStructure). Some r.layout) (known-late someone o.0 o.1 (late-someone i t e h))
        ∙ sym (laid-then i t e ∙ ap (λ (r : Structure). Some (next_layout p.target (layouts p.target (take i (then_from 0 p.structures))) r)) (v ∙ is) ∙ ap (λ (l : Layout). Some l) (laid-bare i (tag_at p someone)))

    pub knows-then : KnowsStructures program_then number_then now
    knows-then = record {
      tags = λ i u h. let q = there-then i u h in subst (λ (r : Structure). tagged r.tag now.scopes ≡ Some (StructureTag (number_then i))) q.2 (tags-by i q.0 (then_at i q.0) q.1 (case-by i q.0 (nat_lt i complete) (is_among i order) refl refl));
      structures = λ i u h. let q = there-then i u h in subst (λ (r : Structure). slice_get (structures_of now) (number_then i) ≡ Some (structure_numbered number_then r)) q.2 (structures-by i q.0 (then_at i q.0) q.1 (case-by i q.0 (nat_lt i complete) (is_among i order) refl refl));
      layouts = λ i u h. let q = there-then i u h in layouts-by i q.0 (then_at i q.0) q.1 refl (case-by i q.0 (nat_lt i complete) (is_among i order) refl refl);
    }
