-- No two numbers of things are of one thing.
use Rattle.std.proofs.Common.{◌≡◌, ◌∙◌, ◌⊎◌, inl, inr, ◌<◌, ℕ, zero, suc, Bool, true, false, true≢false, List, [], ◌∷◌, length, get_or, map, refl, ap, sym, subst, arith}
use Rattle.std.specs.List.{list_any}
use Rattle.cc_definitions.specs.Definitions.{thing_at, devices, numbers_below}
use Rattle.cc_linked_programs.proofs.ContentLists.{Apart, below-apart, filter-apart}
use Rattle.cc_structures.proofs.Elements.{In, any-in}
use Rattle.cc_things.proofs.Groups.{Apart as KeysApart, apart-keys}
use Rattle.cc_things.proofs.SameIdentity.{same_identity-equal, same_identity-self}
use Rattle.cc_things.specs.Mentions.{Mention, mentions}
use Rattle.cc_things.specs.Things.{Identity, Thing, identities, identity_of, is_device, same_identity, thing_of, things, things_in}
use Rattle.cc_things.specs.View.{no_thing}
use Rattle.cc_things.specs.declared.text.Text.{Text}

abbrev Distinct : List Identity → Type 0
Distinct xs = KeysApart same_identity identity_of same_identity-self same_identity-equal xs

distinct_identities : (ms : List Mention) → Distinct (identities ms)
unfolding identities
distinct_identities ms = apart-keys same_identity identity_of same_identity-self same_identity-equal [] ms tt

module _ (ms : List Mention) where
  abbrev all : List Identity → List Thing
  all xs = map (thing_of ms) xs

  there : (xs : List Identity) (k : ℕ) → k < length (all xs) → In (get_or (all xs) k no_thing).identity xs
  there [] k low = absurd (omega (arith, low))
  there (x ∷ xs) zero low = inl refl
  there (x ∷ xs) (suc k) low = inr (there xs k (omega (arith, low)))

  -- the first is no later one
  first_apart : (x : Identity) (xs : List Identity) → list_any (λ (y : Identity). same_identity y x) xs ≡ false → (k : ℕ) → k < length (all xs) → x ≡ (get_or (all xs) k no_thing).identity → ⊥
  first_apart x xs none k low e =
      true≢false (sym (any-in (λ (y : Identity). same_identity y x) xs (get_or (all xs) k no_thing).identity (there xs k low) (subst (λ (y : Identity). same_identity y x ≡ true) e (same_identity-self x))) ∙ none)

  places_apart : (xs : List Identity) → Distinct xs → (k j : ℕ) → k < length (all xs) → j < length (all xs) → (get_or (all xs) k no_thing).identity ≡ (get_or (all xs) j no_thing).identity → k ≡ j
  places_apart [] a k j low less e = absurd (omega (arith, low))
  places_apart (x ∷ xs) a zero zero low less e = refl
  places_apart (x ∷ xs) a zero (suc j) low less e = absurd (first_apart x xs a.0 j (omega (arith, less)) e)
  places_apart (x ∷ xs) a (suc k) zero low less e = absurd (first_apart x xs a.0 k (omega (arith, low)) (sym e))
  places_apart (x ∷ xs) a (suc k) (suc j) low less e = ap suc (places_apart xs a.1 k j (omega (arith, low)) (omega (arith, less)) e)

  pub one_place : (k j : ℕ) → k < length (things_in ms) → j < length (things_in ms) → thing_at (things_in ms) k ≡ thing_at (things_in ms) j → k ≡ j
  unfolding things_in
  one_place k j low less e = places_apart (identities ms) (distinct_identities ms) k j low less (ap (λ (t : Thing). t.identity) e)

pub devices-apart : (ts : List Thing) → Apart (devices ts)
devices-apart ts = filter-apart (λ (k : ℕ). is_device (thing_at ts k)) (numbers_below (length ts)) (below-apart (length ts))
