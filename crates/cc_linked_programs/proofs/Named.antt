-- A thing of the program has a name exactly where it is no device without one.
use Rattle.std.proofs.Common.{◌≡◌, ◌∙◌, ◌⊎◌, inl, inr, ◌<◌, ℕ, Bool, true, false, true≢false, not, ◌&&◌, List, [], length, get_or, map, Option, Some, None, slice_get, refl, ap, sym, subst, arith}
use Rattle.std.specs.Prelude.{nat_eq, option_and_then, position}
use Rattle.std.proofs.lemmas.List.{length-map}
use Rattle.std.proofs.lemmas.Option.{slice_get-get_or, slice_get_within}
use Rattle.cc_definitions.specs.Definitions.{thing_at, has_a_name, is_nameless, is_named_by, named, numbers_below, numbers_of}
use Rattle.cc_linked_names.specs.Given.{file_names, name_at, tags, thing_wish}
use Rattle.cc_relocated_units.proofs.ProgramOrder.{filter-passes}
use Rattle.cc_linked_programs.proofs.ThingLists.{below-in, no-position, positioned}
use Rattle.cc_linked_programs.proofs.Definitions.{thing-within}
use Rattle.cc_linked_programs.proofs.Functions.{names-as_many}
use Rattle.cc_program.specs.declared.program.Roles.{Roles}
use Rattle.cc_structures.proofs.Elements.{In, in-cases, in-left, in-right}
use Rattle.cc_structures.proofs.OrderLemmas.{filter-in}
use Rattle.cc_structures.specs.Structures.{Known}
use Rattle.cc_operands.specs.CcSyntax.Names.{intrinsic_names}
use Rattle.cc_operands.specs.CcSyntax.SameTypes.{same_flag}
use Rattle.cc_things.specs.Things.{Thing, is_device, is_external, is_there}

module _ (ts : List Thing) where
  pub numbered-in : (test : Thing → Bool) (k : ℕ) → k < length ts → test (thing_at ts k) ≡ true → In k (numbers_of test ts)
  numbered-in test k low h = filter-in (λ (j : ℕ). test (thing_at ts j)) (numbers_below (length ts)) k (below-in (length ts) k low) h

  pub in-numbered : (test : Thing → Bool) (k : ℕ) → In k (numbers_of test ts) → test (thing_at ts k) ≡ true
  in-numbered test k i = filter-passes (λ (j : ℕ). test (thing_at ts j)) (numbers_below (length ts)) k i

  named-in : (k : ℕ) → has_a_name (thing_at ts k) ≡ true → In k (named ts)
  named-in k h = by (is_external (thing_at ts k)) refl
    where
      low : k < length ts
      low = thing-within ts has_a_name k refl h

      has : (b : Bool) → is_external (thing_at ts k) ≡ b → is_named_by b (thing_at ts k) ≡ true
      has b e = rw (h, e) (itself b)
        where
          itself : (b : Bool) → same_flag b b ≡ true
          itself true = refl
          itself false = refl

      by : (b : Bool) → is_external (thing_at ts k) ≡ b → In k (named ts)
      by true e = in-left (numbers_of (is_named_by true) ts) (numbers_of (is_named_by false) ts) k (numbered-in (is_named_by true) k low (has true e))
      by false e = in-right (numbers_of (is_named_by true) ts) (numbers_of (is_named_by false) ts) k (numbered-in (is_named_by false) k low (has false e))

  in-named : (k : ℕ) → In k (named ts) → has_a_name (thing_at ts k) ≡ true
  in-named k i = by (in-cases (numbers_of (is_named_by true) ts) (numbers_of (is_named_by false) ts) k i)
    where
      first : (a b : Bool) → a && b ≡ true → a ≡ true
      first true b h = refl
      first false b h = absurd (true≢false (sym h))

      by : In k (numbers_of (is_named_by true) ts) ⊎ In k (numbers_of (is_named_by false) ts) → has_a_name (thing_at ts k) ≡ true
      by (inl j) = first (has_a_name (thing_at ts k)) (same_flag (is_external (thing_at ts k)) true) (in-numbered (is_named_by true) k j)
      by (inr j) = first (has_a_name (thing_at ts k)) (same_flag (is_external (thing_at ts k)) false) (in-numbered (is_named_by false) k j)

  -- what is there and is no nameless device has a name
  pub has_name_by : (k : ℕ) → is_there (thing_at ts k) ≡ true → is_nameless (thing_at ts k) ≡ false → has_a_name (thing_at ts k) ≡ true
  has_name_by k h n = rw (h, n) refl

  pub nameless_none : (k : ℕ) → is_nameless (thing_at ts k) ≡ true → has_a_name (thing_at ts k) ≡ false
  nameless_none k n = rw n (none (is_there (thing_at ts k)))
    where
      none : (b : Bool) → b && false ≡ false
      none true = refl
      none false = refl

  module _ (reserved : List (List ℕ)) (roles : Roles) (firsts : List Known) where
    abbrev names : List (List ℕ)
    names = file_names ts reserved roles firsts

    pub as_many_names : length names ≡ length (named ts)
    as_many_names = names-as_many reserved (tags ts reserved roles firsts) (intrinsic_names roles) (map (λ (k : ℕ). thing_wish (thing_at ts k)) (named ts)) ∙ length-map (named ts) (λ (k : ℕ). thing_wish (thing_at ts k))

    pub record NameOf (k : ℕ) : Type 0 where
      pub at : ℕ
      pub numbered : slice_get (named ts) at ≡ Some k
      pub name : List ℕ
      pub named : slice_get names at ≡ Some name
      pub is : name_at ts reserved roles firsts k ≡ Some name

    pub name_there : (k : ℕ) → has_a_name (thing_at ts k) ≡ true → NameOf k
    name_there k h =
        let r = positioned k (named ts) (named-in k h) in
        let within = slice_get_within (named ts) r.at k r.there in
        let many = as_many_names in
        let low : r.at < length names = omega (arith, within, many) in
        let x = get_or names r.at [] in
        let there : slice_get names r.at ≡ Some x = slice_get-get_or names r.at [] low in
        record { at = r.at; numbered = r.there; name = x; named = there; is = ap (option_and_then (slice_get names)) r.is ∙ there }

    pub no_name : (k : ℕ) → has_a_name (thing_at ts k) ≡ false → name_at ts reserved roles firsts k ≡ None
    no_name k h = ap (option_and_then (slice_get names)) (no-position k (named ts) (λ i. true≢false (sym (in-named k i) ∙ h)))
