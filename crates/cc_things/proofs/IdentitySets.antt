-- The set of identities: its list, as it is asked and grows.
use Rattle.std.proofs.Common.{◌≡◌, ◌∙◌, Bool, true, false, cond, List, [], ◌∷◌, ◌++◌, refl, ap, map}
use Rattle.std.specs.List.{list_any, position_or_len}
use Rattle.std.proofs.lemmas.List.{map-append}
use Rattle.indexmap.specs.IndexSet.{insert_key}
use Rattle.cc_things.specs.Things.{same_identity, with_identity}
use Rattle.cc_things.specs.View.{IdentitySet, identity_view, identities_of}
use Rattle.cc_things.specs.declared.identity.Identity.{Identity as IdentityOf}

-- the test of the code's identities is that of what they stand for
module _ (eq : IdentityOf → IdentityOf → Bool) (is : (x y : IdentityOf) → eq x y ≡ same_identity (identity_view x) (identity_view y)) where
  any-views : (x : IdentityOf) (keys : List IdentityOf) → list_any (eq x) keys ≡ list_any (same_identity (identity_view x)) (map identity_view keys)
  any-views x [] = refl
  any-views x (k ∷ keys) = rw (is x k, any-views x keys) refl

  number-views : (x : IdentityOf) (keys : List IdentityOf) → position_or_len (eq x) keys ≡ position_or_len (same_identity (identity_view x)) (map identity_view keys)
  number-views x [] = refl
  number-views x (k ∷ keys) = rw (is x k, number-views x keys) refl

  grown : (b : Bool) (keys : List IdentityOf) (x : IdentityOf) → map identity_view (cond b keys (keys ++ x ∷ [])) ≡ cond b (map identity_view keys) (map identity_view keys ++ identity_view x ∷ [])
  grown true keys x = refl
  grown false keys x = map-append identity_view keys (x ∷ [])

  pub number-by : (s : IdentitySet) (x : IdentityOf) → position_or_len (eq x) s.keys ≡ position_or_len (same_identity (identity_view x)) (identities_of s)
  unfolding identities_of
  number-by s x = number-views x s.keys

  pub identities-by : (s t : IdentitySet) (x : IdentityOf) → t.keys ≡ insert_key eq s.keys x → identities_of t ≡ with_identity (identities_of s) (identity_view x)
  unfolding identities_of
  identities-by s t x h =
      ap (map identity_view) h ∙ (grown (list_any (eq x) s.keys) s.keys x
      ∙ ap (λ b. cond b (map identity_view s.keys) (map identity_view s.keys ++ identity_view x ∷ [])) (any-views x s.keys))

pub identities-empty : (s : IdentitySet) → s.keys ≡ [] → identities_of s ≡ []
unfolding identities_of
identities-empty s h = ap (map identity_view) h

pub ruleset of_identities = (identities-empty)
