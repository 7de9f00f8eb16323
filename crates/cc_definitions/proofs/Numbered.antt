-- Numbers of things, one more thing at a time.
use Rattle.std.proofs.Common.{◌≡◌, ◌∙◌, ◌+◌, ◌<◌, ◌≤◌, ℕ, zero, suc, Bool, true, false, cond, List, [], ◌∷◌, ◌++◌, length, get_or, take, map, Option, Some, None, refl, ap, sym, arith}
use Rattle.std.specs.Prelude.{filter, option_map, option_to_list, is_some, slice_get}
use Rattle.std.proofs.lemmas.List.{map-append, length-map, take_more}
use Rattle.std.proofs.lemmas.List.Elements.{filter-append}
use Rattle.cc_definitions.specs.Definitions.{thing_at, thing_or_none, numbers_below, numbers_of, definition, has_definition, source_of, offset_of, place_of, place_at}
use Rattle.cc_order.specs.declared.place.Place.{Place}
use Rattle.cc_things.specs.Mentions.{Mention}
use Rattle.cc_things.specs.Things.{Thing}
use Rattle.cc_things.specs.View.{no_thing, thing_view}
use Rattle.cc_things.specs.declared.thing.Thing.{Thing as ThingOf}

got : {X Y : Type 0} (f : X → Y) (xs : List X) (i : ℕ) (x : X) (d : Y) → i < length xs → x ≡ get_or xs i x → get_or (map f xs) i d ≡ f x
got f [] i x d h is = absurd (omega (arith, h))
got f (y ∷ ys) zero x d h is = ap f (sym is)
got f (y ∷ ys) (suc i) x d h is = got f ys i x d (omega (arith, h)) is

-- the thing of a number
pub thing_got : (things : List ThingOf) (i : ℕ) (t : ThingOf) → i < length things → t ≡ get_or things i t → thing_at (map thing_view things) i ≡ thing_view t
thing_got things i t h is = got thing_view things i t no_thing h is

pub thing_told : (things : List ThingOf) (k : ℕ) → thing_or_none (slice_get things k) ≡ thing_at (map thing_view things) k
thing_told [] k = refl
thing_told (t ∷ ts) zero = refl
thing_told (t ∷ ts) (suc k) = thing_told ts k

below_suc : (n : ℕ) → numbers_below (n + 1) ≡ numbers_below n ++ n ∷ []
below_suc n = let e : n + 1 ≡ suc n = omega arith in rw e refl

module _ (passes : Thing → Bool) (things : List ThingOf) where
  abbrev at_number : ℕ → Bool
  at_number k = passes (thing_at (map thing_view things) k)

  pub numbers_more : (i n : ℕ) (t : ThingOf) (b : Bool) (before after : List ℕ) → i < length things → t ≡ get_or things i t → n ≡ i → b ≡ passes (thing_view t) →
      before ≡ filter at_number (numbers_below i) → after ≡ before ++ cond b (n ∷ []) [] → after ≡ filter at_number (numbers_below (i + 1))
  numbers_more i n t b before after h is at test front all =
      all ∙ (ap (λ l. l ++ cond b (n ∷ []) []) front
      ∙ (ap (λ k. filter at_number (numbers_below i) ++ cond b (k ∷ []) []) at
      ∙ (ap (λ c. filter at_number (numbers_below i) ++ cond c (i ∷ []) []) (test ∙ ap passes (sym (thing_got things i t h is)))
      ∙ (sym (filter-append at_number (numbers_below i) (i ∷ []))
      ∙ ap (filter at_number) (sym (below_suc i))))))

  pub numbers_end : (i : ℕ) (all : List ℕ) → i ≤ length things → length things ≤ i → all ≡ filter at_number (numbers_below i) → all ≡ numbers_of passes (map thing_view things)
  numbers_end i all h k is =
      let e : i ≡ length things = omega (arith, h, k) in
      is ∙ ap (λ n. filter at_number (numbers_below n)) (e ∙ sym (length-map things thing_view))

-- ---- places

placed : (t : Thing) (n : ℕ) (o : Option Mention) → definition t ≡ o →
    option_to_list (option_map (place_of n) o) ≡ cond (is_some o) (record { source = source_of t; offset = offset_of t; number = n } ∷ []) []
placed t n None e = refl
placed t n (Some m) e = rw e refl

map_cond : {X Y : Type 0} (f : X → Y) (b : Bool) (x : X) → cond b (f x ∷ []) [] ≡ map f (cond b (x ∷ []) [])
map_cond f true x = refl
map_cond f false x = refl

module _ (things : List ThingOf) where
  abbrev ts : List Thing
  ts = map thing_view things

  abbrev pub places_at : ℕ → List Place
  places_at i = map (place_at ts) (filter (λ k. has_definition (thing_at ts k)) (numbers_below i))

  pub places_more : (i n : ℕ) (t : ThingOf) (p : Option Place) (before after : List Place) → i < length things → t ≡ get_or things i t → n ≡ i →
      p ≡ option_map (λ m. place_of n m) (definition (thing_view t)) → before ≡ places_at i → after ≡ before ++ option_to_list p → after ≡ places_at (i + 1)
  places_more i n t p before after h is at place front all =
      let there = thing_got things i t h is in
      let old = filter (λ k. has_definition (thing_at ts k)) (numbers_below i) in
      all ∙ (ap (λ l. l ++ option_to_list p) front
      ∙ (ap (λ q. places_at i ++ option_to_list q) (place ∙ (ap (λ k. option_map (place_of k) (definition (thing_view t))) at ∙ ap (λ x. option_map (place_of i) (definition x)) (sym there)))
      ∙ (ap (λ l. places_at i ++ l) (placed (thing_at ts i) i (definition (thing_at ts i)) refl ∙ map_cond (place_at ts) (has_definition (thing_at ts i)) i)
      ∙ (sym (map-append (place_at ts) old (cond (has_definition (thing_at ts i)) (i ∷ []) []))
      ∙ ap (map (place_at ts)) (sym (filter-append (λ k. has_definition (thing_at ts k)) (numbers_below i) (i ∷ [])) ∙ ap (filter (λ k. has_definition (thing_at ts k))) (sym (below_suc i)))))))

  pub places_end : (i : ℕ) (all : List Place) → i ≤ length things → length things ≤ i → all ≡ places_at i → all ≡ map (place_at ts) (numbers_of has_definition ts)
  places_end i all h k is =
      let e : i ≡ length things = omega (arith, h, k) in
      is ∙ ap places_at (e ∙ sym (length-map things thing_view))

-- ---- the numbers of what stands at places

pub numbers_at : (all : List Thing) (ks : List ℕ) → map (λ (p : Place). p.number) (map (place_at all) ks) ≡ ks
numbers_at all [] = refl
numbers_at all (k ∷ ks) = ap (λ l. k ∷ l) (numbers_at all ks)

-- ---- a test of numbers, one more number at a time

pub filter_at : (p : ℕ → Bool) (ks : List ℕ) (i : ℕ) (b : Bool) (before after : List ℕ) → i < length ks → b ≡ p (get_or ks i 0) →
    before ≡ filter p (take i ks) → after ≡ before ++ cond b (get_or ks i 0 ∷ []) [] → after ≡ filter p (take (i + 1) ks)
filter_at p ks i b before after h test front all =
    all ∙ (ap (λ l. l ++ cond b (get_or ks i 0 ∷ []) []) front
    ∙ (ap (λ c. filter p (take i ks) ++ cond c (get_or ks i 0 ∷ []) []) test
    ∙ (sym (filter-append p (take i ks) (get_or ks i 0 ∷ []))
    ∙ ap (filter p) (sym (take_more ks i 0 h)))))
