use Rattle.std.proofs.Common.{◌≡◌, ◌∙◌, true, false, refl}
use Rattle.cc_things.specs.Things.{same_identity}
use Rattle.cc_things.specs.View.{identity_view}
use Rattle.cc_things.specs.contracts.identity.IdentityPartialEq.TheImpl.{ghosts}
use Rattle.cc_things.specs.declared.identity.Identity.{Identity}
use Rattle.cc_things.specs.declared.identity.Identity.TheVariants as identity
use Rattle.cc_things.proofs.IdentitySets.{number-by, identities-by}
use Rattle.cc_things.proofs.thing.number_of.Goals as goal

-- the code's test is that of what the identities stand for
is : (x y : Identity) → ghosts.eq x y ≡ same_identity (identity_view x) (identity_view y)
is (identity.External x) (identity.External y) = refl
is (identity.External x) (identity.Numbered m j d) = refl
is (identity.External x) (identity.Single u q) = refl
is (identity.Numbered n i c) (identity.External y) = refl
is (identity.Numbered n i true) (identity.Numbered m j true) = refl
is (identity.Numbered n i true) (identity.Numbered m j false) = refl
is (identity.Numbered n i false) (identity.Numbered m j true) = refl
is (identity.Numbered n i false) (identity.Numbered m j false) = refl
is (identity.Numbered n i c) (identity.Single u q) = refl
is (identity.Single t p) (identity.External y) = refl
is (identity.Single t p) (identity.Numbered m j d) = refl
is (identity.Single t p) (identity.Single u q) = refl

pub returns-clause-number : goal.returns-clause-number
returns-clause-number c = c.in_ok-number.ensures.index ∙ number-by ghosts.eq is c.args.identities.now c.args.identity

pub returns-clause-identities : goal.returns-clause-identities
returns-clause-identities c = identities-by ghosts.eq is c.args.identities.now c.insert_full.new.self c.args.identity c.in_ok-number.ensures.keys
