-- What the code's mentions and things stand for.
use Rattle.std.specs.Prelude.{ℕ, nat_lt, List, [], ◌∷◌, ◌++◌, length, map, slice_index_or, slice_set, if◌then◌else◌}
use Rattle.std.specs.declared.hash.BuildHasherDefault.{BuildHasherDefault}
use Rattle.std.specs.declared.hash.FoldHasher.{FoldHasher}
use Rattle.indexmap.specs.IndexSet.{IndexSet}
use Rattle.cc_things.specs.Mentions.{Mention}
use Rattle.cc_things.specs.Things.{Identity, External, Numbered, Single, Thing}
use Rattle.cc_things.specs.declared.identity.Identity.{Identity as IdentityOf}
use Rattle.cc_things.specs.declared.identity.Identity.TheVariants as identity
use Rattle.cc_things.specs.declared.mention.Mention.{Mention as MentionOf}
use Rattle.cc_things.specs.declared.thing.Thing.{Thing as ThingOf}

abbrev pub view_of : MentionOf → Mention
view_of m = record { text = m.text; position = m.position; used = m.used; name = m.name.now }

unfoldable pub views_of : List MentionOf → List Mention
views_of ms = map view_of ms

abbrev pub identity_view : IdentityOf → Identity
identity_view (identity.External x) = External x.now
identity_view (identity.Numbered n i c) = Numbered n i c
identity_view (identity.Single t p) = Single t p

abbrev pub IdentitySet : Type 0
IdentitySet = IndexSet IdentityOf (BuildHasherDefault FoldHasher)

abbrev pub thing_view : ThingOf → Thing
thing_view t = record { identity = identity_view t.identity; mentions = views_of t.mentions.items }

unfoldable pub identities_of : IdentitySet → List Identity
identities_of set = map identity_view set.keys

-- a thing with a mention more
abbrev pub with_mention : Mention → Thing → Thing
with_mention m t = record { identity = t.identity; mentions = t.mentions ++ m ∷ [] }

abbrev pub no_thing : Thing
no_thing = record { identity = Single 0 0; mentions = [] }

-- the things with a mention more, of the thing of a number, or of a new one
abbrev pub added : List Thing → ℕ → Identity → Mention → List Thing
added ts number x m =
    if nat_lt number (length ts) then slice_set ts number (with_mention m (slice_index_or ts number no_thing))
    else ts ++ record { identity = x; mentions = m ∷ [] } ∷ []
