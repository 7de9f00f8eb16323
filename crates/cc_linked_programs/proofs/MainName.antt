-- The function that runs first keeps the name `main`, where no intrinsic has it: no name that is given before it is that one.
use Rattle.std.proofs.Common.{◌≡◌, ◌∙◌, ◌⊎◌, inl, inr, ◌+◌, ◌<◌, ℕ, zero, suc, Bool, true, false, true≢false, not, ◌&&◌, ◌||◌, cond, List, [], ◌∷◌, ◌++◌, length, map, Option, Some, None, option_map, slice_get, refl, ap, sym, subst, arith}
use Rattle.std.specs.Prelude.{codes, decimal, nat_eq, nat_lt, option_and_then}
use Rattle.std.specs.List.{list_any, position_or_len}
use Rattle.std.specs.Str.{bytes_eq}
use Rattle.std.proofs.lemmas.Bool.{eq-eqb}
use Rattle.std.proofs.lemmas.List.Folds.{list_any-append}
use Rattle.std.proofs.lemmas.Option.{slice_get-map}
use Rattle.cc_definitions.specs.Definitions.{thing_at, has_a_name, is_named_by, is_nameless, named, numbers_of}
use Rattle.cc_linked_programs.proofs.Named.{has_name_by, in-numbered, numbered-in}
use Rattle.cc_linked_names.specs.Given.{file_names, reserved_names, tags, thing_wish, wish_or}
use Rattle.cc_linked_programs.proofs.ThingLists.{Positioned, positioned}
use Rattle.cc_linked_programs.proofs.Definitions.{thing-within}
use Rattle.cc_names.specs.Names.{Wish, Own, Numbered, is_among, name_for, names_for, new_name, with_number}
use Rattle.cc_program.specs.CcNum.declared.target.Target.{Target}
use Rattle.cc_program.specs.declared.program.Roles.{Roles}
use Rattle.cc_relocated_units.specs.Units.{IsSoundUnit}
use Rattle.cc_structures.proofs.Elements.{In, in-left}
use Rattle.cc_structures.specs.Structures.{Known}
use Rattle.cc_operands.proofs.CcSyntax.Prefixes.{both_true}
use Rattle.cc_operands.specs.CcSyntax.Names.{intrinsic_names}
use Rattle.cc_operands.specs.CcSyntax.SameTypes.{same_flag}
use Rattle.cc_operands.specs.CcSyntax.Sound.{main_name}
use Rattle.cc_things.specs.Things.{Thing, is_device, is_external, is_there, own_name, things}
use Rattle.cc_things.specs.declared.text.Text.{Text}
use Rattle.cc_linked_programs.proofs.Externals.{external_at, one_external}
use Rattle.cc_linked_programs.proofs.Forms.{NamedMain, named_main}
use Rattle.cc_linked_programs.proofs.Places.{bytes-one}
use Rattle.cc_linked_programs.specs.Named.{IsMainNamed}

-- ---- names for wishes

differs : (x y : List ℕ) → (y ≡ x → ⊥) → bytes_eq x y ≡ false
differs x y h = by (bytes_eq x y) refl
  where
    by : (b : Bool) → bytes_eq x y ≡ b → bytes_eq x y ≡ false
    by false e = e
    by true e = absurd (h (sym (bytes-one x y e)))

or_false : (a b : Bool) → a ≡ false → b ≡ false → a || b ≡ false
or_false a b h k = rw (h, k) refl

module _ (reserved : List (List ℕ)) (x : List ℕ) (plain : (base : List ℕ) (n : ℕ) → with_number base n ≡ x → ⊥) where
  other_name : (given space : List (List ℕ)) (w : Wish) → (w ≡ Own x → ⊥) → bytes_eq x (name_for reserved given space w) ≡ false
  other_name given space (Numbered base) h = differs x (new_name reserved given base 1) (λ e. plain base _ e)
  other_name given space (Own y) h = by (is_among y space)
    where
      by : (b : Bool) → bytes_eq x (cond b (new_name reserved given y 2) y) ≡ false
      by true = differs x (new_name reserved given y 2) (λ e. plain y _ e)
      by false = differs x y (λ e. h (ap (λ (z : List ℕ). Own z) e))

  -- the first wish for it is met
  pub own_given : (given space : List (List ℕ)) (ws : List Wish) (i : ℕ) → slice_get ws i ≡ Some (Own x) → is_among x space ≡ false → ((j : ℕ) → j < i → slice_get ws j ≡ Some (Own x) → ⊥) →
      slice_get (names_for reserved given space ws) i ≡ Some x
  unfolding names_for
  own_given given space [] i e free first = absurd (cc)
  own_given given space (w ∷ ws) zero e free first =
      let s : w ≡ Own x = cc e in
      ap (λ (v : Wish). Some (name_for reserved given space v)) s ∙ ap (λ (b : Bool). Some (cond b (new_name reserved given x 2) x)) free
  own_given given space (w ∷ ws) (suc i) e free first =
      let y = name_for reserved given space w in
      let other = other_name given space w (λ s. first zero (omega arith) (ap (λ (v : Wish). Some v) s)) in
      own_given (given ++ y ∷ []) (space ++ y ∷ []) ws i e (list_any-append (bytes_eq x) space (y ∷ []) ∙ or_false (is_among x space) (bytes_eq x y || false) free (or_false (bytes_eq x y) false other refl))
      (λ j low f. first (suc j) (omega (arith, low)) f)

-- a numbered name has `_`
numbered_other : (base : List ℕ) (n : ℕ) → with_number base n ≡ main_name → ⊥
numbered_other base n e = true≢false (sym has ∙ ap (list_any (nat_eq 95)) e)
  where
    or_true : (a : Bool) → a || true ≡ true
    or_true true = refl
    or_true false = refl

    has : list_any (nat_eq 95) (with_number base n) ≡ true
    has = list_any-append (nat_eq 95) base (codes "__" ++ decimal n) ∙ or_true (list_any (nat_eq 95) base)

-- ---- what stands in front of the first place of a number

in_front : (xs ys : List ℕ) (k : ℕ) → In k xs → (j : ℕ) → j < position_or_len (nat_eq k) (xs ++ ys) → (n : ℕ) → slice_get (xs ++ ys) j ≡ Some n → In n xs × (n ≡ k → ⊥)
in_front [] ys k h j low n e = absurd h
in_front (z ∷ zs) ys k h j low n e = by (nat_eq k z) refl low (λ i q l f. in_front zs ys k i q l n f)
  where
    same : (a b : ℕ) → Some a ≡ Some b → a ≡ b
    same a b f = cc f

    later : nat_eq k z ≡ false → (z ≡ k) ⊎ In k zs → In k zs
    later f (inl s) = absurd (true≢false (sym (eq-eqb k z (sym s)) ∙ f))
    later f (inr i) = i

    inner : nat_eq k z ≡ false → (j : ℕ) → j < 1 + position_or_len (nat_eq k) (zs ++ ys) → slice_get (z ∷ (zs ++ ys)) j ≡ Some n →
        (In k zs → (q : ℕ) → q < position_or_len (nat_eq k) (zs ++ ys) → slice_get (zs ++ ys) q ≡ Some n → In n zs × (n ≡ k → ⊥)) → In n (z ∷ zs) × (n ≡ k → ⊥)
    inner f zero low g more =
        let s = same z n g in
        (inl s, λ q. true≢false (sym (eq-eqb k z (sym (s ∙ q))) ∙ f))
    inner f (suc j) low g more = let r = more (later f h) j (omega (arith, low)) g in (inr r.0, r.1)

    by : (b : Bool) → nat_eq k z ≡ b → j < cond (not b) (1 + position_or_len (nat_eq k) (zs ++ ys)) 0 →
        (In k zs → (q : ℕ) → q < position_or_len (nat_eq k) (zs ++ ys) → slice_get (zs ++ ys) q ≡ Some n → In n zs × (n ≡ k → ⊥)) → In n (z ∷ zs) × (n ≡ k → ⊥)
    by true f low more = absurd (omega (arith, low))
    by false f low more = inner f j low e more

place_is : (n l at : ℕ) → cond (nat_lt n l) (Some n) None ≡ Some at → n ≡ at
place_is n l at e = by (nat_lt n l) e
  where
    by : (b : Bool) → cond b (Some n) None ≡ Some at → n ≡ at
    by true f = cc f
    by false f = absurd (cc f)

wish_own : (base : List ℕ) (o : Option (List ℕ)) (x : List ℕ) → wish_or base o ≡ Own x → o ≡ Some x
wish_own base (Some y) x e = ap (λ (z : List ℕ). Some z) (cc e)
wish_own base None x e = absurd (cc e)

module _ (texts : List Text) (target : Target) (sound : (t : ℕ) (x : Text) → slice_get texts t ≡ Some x → IsSoundUnit target x.unit) (roles : Roles) (firsts : List Known) where
  abbrev ts : List Thing
  ts = things texts

  abbrev reserved : List (List ℕ)
  reserved = reserved_names texts roles

  abbrev wishes : List Wish
  wishes = map (λ (k : ℕ). thing_wish (thing_at ts k)) (named ts)

  external_by : (k : ℕ) → is_named_by true (thing_at ts k) ≡ true → is_external (thing_at ts k) ≡ true
  external_by k h = flag (is_external (thing_at ts k)) (both_true (has_a_name (thing_at ts k)) (same_flag (is_external (thing_at ts k)) true) h).1
    where
      flag : (b : Bool) → same_flag b true ≡ true → b ≡ true
      flag true e = refl
      flag false e = absurd (true≢false (sym e))

  pub main_keeps : is_among main_name (intrinsic_names roles) ≡ false → IsMainNamed texts roles firsts
  main_keeps free k there h =
      ap (option_and_then (slice_get (file_names ts reserved roles firsts))) place.is
      ∙ own_given reserved main_name numbered_other (tags ts reserved roles firsts) (intrinsic_names roles) wishes place.at (wish_at place.at k place.there ∙ ap (λ (o : Option (List ℕ)). Some (wish_or (codes "text") o)) n.own) free first
    where
      n : NamedMain texts target sound k
      n = named_main texts target sound k h

      low : k < length ts
      low = thing-within ts is_there k refl there

      nameless : is_nameless (thing_at ts k) ≡ false
      nameless = rw n.own (none (is_device (thing_at ts k)))
        where
          none : (b : Bool) → b && false ≡ false
          none true = refl
          none false = refl

      in_externals : In k (numbers_of (is_named_by true) ts)
      in_externals = numbered-in ts (is_named_by true) k low (rw (has_name_by ts k there nameless, n.external) refl)

      place : Positioned k (named ts)
      place = positioned k (named ts) (in-left (numbers_of (is_named_by true) ts) (numbers_of (is_named_by false) ts) k in_externals)

      at_is : position_or_len (nat_eq k) (named ts) ≡ place.at
      at_is = place_is (position_or_len (nat_eq k) (named ts)) (length (named ts)) place.at place.is

      wish_at : (j i : ℕ) → slice_get (named ts) j ≡ Some i → slice_get wishes j ≡ Some (thing_wish (thing_at ts i))
      wish_at j i e = slice_get-map (λ (k : ℕ). thing_wish (thing_at ts k)) (named ts) j ∙ ap (option_map (λ (k : ℕ). thing_wish (thing_at ts k))) e

      -- another with that name is the same thing
      first : (j : ℕ) → j < place.at → slice_get wishes j ≡ Some (Own main_name) → ⊥
      first j less e = by (slice_get (named ts) j) refl (sym (slice_get-map (λ (k : ℕ). thing_wish (thing_at ts k)) (named ts) j) ∙ e)
        where
          wish_same : (a b : Wish) → Some a ≡ Some b → a ≡ b
          wish_same a b f = cc f

          by : (o : Option ℕ) → slice_get (named ts) j ≡ o → option_map (λ (k : ℕ). thing_wish (thing_at ts k)) o ≡ Some (Own main_name) → ⊥
          by None f g = absurd (cc g)
          by (Some i) f g =
              let r = in_front (numbers_of (is_named_by true) ts) (numbers_of (is_named_by false) ts) k in_externals j (subst (λ (q : ℕ). j < q) (sym at_is) less) i f in
              let own : own_name (thing_at ts i) ≡ Some main_name = wish_own (codes "text") (own_name (thing_at ts i)) main_name (wish_same (thing_wish (thing_at ts i)) (Own main_name) g) in
              let named_by = in-numbered ts (is_named_by true) i r.0 in
              let less_i = thing-within ts (is_named_by true) i refl named_by in
              r.1 (one_external texts target sound i k main_name less_i low (external_at texts target sound i less_i (external_by i named_by) main_name own) (external_at texts target sound k low n.external main_name n.own))
