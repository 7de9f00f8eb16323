-- Things with one mention more: it is added to the thing of its identity, or begins one.
use Rattle.std.proofs.Common.{◌≡◌, ◌∙◌, ◌<◌, ℕ, Bool, true, false, List, [], ◌∷◌, ◌++◌, length, map, refl, ap, sym, arith}
use Rattle.std.specs.List.{list_any, position_or_len}
use Rattle.std.specs.Prelude.{◌||◌}
use Rattle.cc_things.specs.Mentions.{Mention}
use Rattle.cc_things.specs.Things.{Identity, same_identity, identity_of, identities, with_identity, Thing, thing_of, things_in, number_in, numbers_in}
use Rattle.std.proofs.lemmas.Bool.{lt-ltb, le-ltb}
use Rattle.std.proofs.lemmas.List.{length-map}
use Rattle.cc_things.specs.View.{no_thing, added}
use Rattle.cc_things.proofs.Counted.{views-more, views-nil}
use Rattle.cc_things.proofs.IdentitySets.{identities-empty}
use Rattle.cc_things.proofs.Groups.{keys-more, numbers-more, its_group, groups-there, groups-new}
use Rattle.cc_things.proofs.SameIdentity.{same_identity-self, same_identity-equal}

abbrev made : Identity → List Mention → Thing
made x ms = record { identity = x; mentions = ms }

-- the number of a key that is not there
none-number : {X : Type 0} (p : X → Bool) (xs : List X) → list_any p xs ≡ false → position_or_len p xs ≡ length xs
none-number p [] h = refl
none-number p (x ∷ xs) h = by (p x) refl (none-number p xs) h
  where
    by : (b : Bool) → p x ≡ b → (list_any p xs ≡ false → position_or_len p xs ≡ length xs) → list_any p (x ∷ xs) ≡ false → position_or_len p (x ∷ xs) ≡ length (x ∷ xs)
    by true e rest h = cc (sym (ap (λ c. c || list_any p xs) e) ∙ h)
    by false e rest h = let r = rest (sym (ap (λ c. c || list_any p xs) e) ∙ h) in rw (e, r) (omega arith)

there-number : {X : Type 0} (p : X → Bool) (xs : List X) → list_any p xs ≡ true → position_or_len p xs < length xs
there-number p [] h = cc h
there-number p (x ∷ xs) h = by (p x) refl (there-number p xs) h
  where
    by : (b : Bool) → p x ≡ b → (list_any p xs ≡ true → position_or_len p xs < length xs) → list_any p (x ∷ xs) ≡ true → position_or_len p (x ∷ xs) < length (x ∷ xs)
    by true e rest h = rw e (omega arith)
    by false e rest h = let r = rest (sym (ap (λ c. c || list_any p xs) e) ∙ h) in rw e (omega (arith, r))

pub identities-more : (ms : List Mention) (m : Mention) → identities (ms ++ m ∷ []) ≡ with_identity (identities ms) (identity_of m)
unfolding identities
identities-more ms m = keys-more same_identity identity_of same_identity-self same_identity-equal ms m

pub numbers_in-more : (ms : List Mention) (m : Mention) → numbers_in (ms ++ m ∷ []) ≡ numbers_in ms ++ number_in (identities ms) m ∷ []
unfolding identities numbers_in
numbers_in-more ms m = numbers-more same_identity identity_of same_identity-self same_identity-equal ms m

module _ (ms : List Mention) (m : Mention) where
  added-there : list_any (same_identity (identity_of m)) (identities ms) ≡ true → added (map (thing_of ms) (identities ms)) (number_in (identities ms) m) (identity_of m) m ≡ map (thing_of (ms ++ m ∷ [])) (identities (ms ++ m ∷ []))
  unfolding identities
  added-there h =
      let within = there-number (same_identity (identity_of m)) (identities ms) h in
      rw (
        length-map (identities ms) (thing_of ms),
        lt-ltb (number_in (identities ms) m) (length (identities ms)) within,
        its_group same_identity identity_of same_identity-self same_identity-equal made ms m no_thing h,
      )
      (sym (groups-there same_identity identity_of same_identity-self same_identity-equal made ms m h))

  added-new : list_any (same_identity (identity_of m)) (identities ms) ≡ false → added (map (thing_of ms) (identities ms)) (number_in (identities ms) m) (identity_of m) m ≡ map (thing_of (ms ++ m ∷ [])) (identities (ms ++ m ∷ []))
  unfolding identities
  added-new h =
      let behind = none-number (same_identity (identity_of m)) (identities ms) h in
      rw (length-map (identities ms) (thing_of ms), le-ltb (number_in (identities ms) m) (length (identities ms)) (omega (arith, behind)))
      (sym (groups-new same_identity identity_of same_identity-self same_identity-equal made ms m h))

  added-by : (b : Bool) → list_any (same_identity (identity_of m)) (identities ms) ≡ b → added (map (thing_of ms) (identities ms)) (number_in (identities ms) m) (identity_of m) m ≡ map (thing_of (ms ++ m ∷ [])) (identities (ms ++ m ∷ []))
  added-by true h = added-there h
  added-by false h = added-new h

  pub things_in-more : things_in (ms ++ m ∷ []) ≡ added (things_in ms) (number_in (identities ms) m) (identity_of m) m
  unfolding things_in
  things_in-more = sym (added-by (list_any (same_identity (identity_of m)) (identities ms)) refl)

pub things-nil : things_in [] ≡ []
unfolding things_in identities
things-nil = refl

pub identities-nil : identities [] ≡ []
unfolding identities
identities-nil = refl

pub numbers-nil : numbers_in [] ≡ []
unfolding numbers_in
numbers-nil = refl

pub ruleset of_things = (things_in-more, identities-more, numbers_in-more, things-nil, identities-nil, numbers-nil, views-more, views-nil, identities-empty)

-- ---- as a loop has it

module _ (before after : List Mention) (m : Mention) (x : Identity) (more : after ≡ before ++ m ∷ []) (its : x ≡ identity_of m) where
  pub identities-step : (old new : List Identity) → new ≡ with_identity old x → old ≡ identities before → new ≡ identities after
  identities-step old new h e =
      h ∙ (ap (λ l. with_identity l x) e ∙ (ap (with_identity (identities before)) its ∙ (sym (identities-more before m) ∙ ap identities (sym more))))

  number-step : (found : List Identity) (number : ℕ) → found ≡ identities before → number ≡ position_or_len (same_identity x) found → number ≡ number_in (identities before) m
  number-step found number e h = h ∙ (ap (λ l. position_or_len (same_identity x) l) e ∙ ap (λ y. position_or_len (same_identity y) (identities before)) its)

  pub things-step : (old new : List Thing) (found : List Identity) (number : ℕ) → new ≡ added old number x m → old ≡ things_in before → found ≡ identities before → number ≡ position_or_len (same_identity x) found → new ≡ things_in after
  things-step old new found number h e f n =
      h ∙ (ap (λ l. added l number x m) e ∙ (ap (λ k. added (things_in before) k x m) (number-step found number f n)
      ∙ (ap (λ y. added (things_in before) (number_in (identities before) m) y m) its ∙ (sym (things_in-more before m) ∙ ap things_in (sym more)))))

  pub numbers-step : (old new : List ℕ) (found : List Identity) (number : ℕ) → new ≡ old ++ number ∷ [] → old ≡ numbers_in before → found ≡ identities before → number ≡ position_or_len (same_identity x) found → new ≡ numbers_in after
  numbers-step old new found number h e f n =
      h ∙ (ap (λ l. l ++ number ∷ []) e ∙ (ap (λ k. numbers_in before ++ k ∷ []) (number-step found number f n) ∙ (sym (numbers_in-more before m) ∙ ap numbers_in (sym more))))
