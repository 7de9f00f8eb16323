-- A mention more, of a thing that is there or of a new one, as the code adds it.
use Rattle.std.proofs.Common.{◌≡◌, ◌∙◌, ◌<◌, ◌≤◌, ℕ, zero, suc, List, [], ◌∷◌, ◌++◌, length, get_or, set, map, refl, ap, sym, arith}
use Rattle.std.proofs.lemmas.Bool.{lt-ltb, le-ltb}
use Rattle.std.proofs.lemmas.List.{length-map, map-append}
use Rattle.cc_things.specs.Mentions.{Mention}
use Rattle.cc_things.specs.Things.{Identity, Thing}
use Rattle.cc_things.specs.View.{no_thing, with_mention, added, view_of, views_of, identity_view, thing_view}
use Rattle.cc_things.specs.declared.mention.Mention.{Mention as MentionOf}
use Rattle.cc_things.specs.declared.thing.Thing.{Thing as ThingOf}
use Rattle.cc_things.proofs.Counted.{views-more, views-nil}

abbrev made : Identity → List Mention → Thing
made i ms = record { identity = i; mentions = ms }

map-set_at : (ts : List ThingOf) (n : ℕ) (u : ThingOf) → map thing_view (set ts n u) ≡ set (map thing_view ts) n (thing_view u)
map-set_at [] n u = refl
map-set_at (t ∷ ts) zero u = refl
map-set_at (t ∷ ts) (suc n) u = ap (λ l. thing_view t ∷ l) (map-set_at ts n u)

get-map : (ts : List ThingOf) (n : ℕ) (t : ThingOf) (d : Thing) → n < length ts → get_or (map thing_view ts) n d ≡ thing_view (get_or ts n t)
get-map [] n t d low = absurd (omega (arith, low))
get-map (x ∷ ts) zero t d low = refl
get-map (x ∷ ts) (suc n) t d low = get-map ts n t d (omega (arith, low))

pub put-there : (ts : List ThingOf) (number : ℕ) (t u : ThingOf) (x : Identity) (m : MentionOf) → number < length ts → t ≡ get_or ts number t → u.identity ≡ t.identity → u.mentions.items ≡ t.mentions.items ++ m ∷ [] →
    map thing_view (set ts number u) ≡ added (map thing_view ts) number x (view_of m)
put-there ts number t u x m low is same pushed =
    let view : thing_view u ≡ with_mention (view_of m) (thing_view t) =
    ap (λ i. made (identity_view i) (views_of u.mentions.items)) same
    ∙ (ap (λ ms. made (identity_view t.identity) (views_of ms)) pushed ∙ ap (λ l. made (identity_view t.identity) l) (views-more t.mentions.items m)) in
    let old : thing_view t ≡ get_or (map thing_view ts) number no_thing = ap thing_view is ∙ sym (get-map ts number t no_thing low) in
    map-set_at ts number u
    ∙ (ap (λ v. set (map thing_view ts) number v) (view ∙ ap (with_mention (view_of m)) old)
    ∙ rw (length-map ts thing_view, lt-ltb number (length ts) low) refl)

pub put-new : (ts new : List ThingOf) (number : ℕ) (u : ThingOf) (x : Identity) (m : MentionOf) → length ts ≤ number → new ≡ ts ++ u ∷ [] → identity_view u.identity ≡ x → u.mentions.items ≡ m ∷ [] →
    map thing_view new ≡ added (map thing_view ts) number x (view_of m)
put-new ts new number u x m high pushed same one =
    let mentions : views_of u.mentions.items ≡ view_of m ∷ [] = ap views_of one ∙ (views-more [] m ∙ ap (λ l. l ++ view_of m ∷ []) views-nil) in
    let view : thing_view u ≡ made x (view_of m ∷ []) = ap (λ i. made i (views_of u.mentions.items)) same ∙ ap (λ l. made x l) mentions in
    ap (map thing_view) pushed
    ∙ (map-append thing_view ts (u ∷ [])
    ∙ (ap (λ v. map thing_view ts ++ v ∷ []) view
    ∙ rw (length-map ts thing_view, le-ltb number (length ts) high) refl))
