-- What follows from an option that is there, and from a test that is true.
use Rattle.std.proofs.Common.{◌≡◌, Bool, true, false, ◌||◌, ◌⊎◌, inl, inr, Option, Some, None, refl}
use Rattle.std.proofs.lemmas.Option.{same_Some}
use Rattle.std.specs.Prelude.{option_map, option_and_then}
use Rattle.cc_steps.specs.CcSyntax.Expressions.{of_one, of_two}
use Rattle.cc_steps.specs.CcSyntax.Operators.{when}

pub with_one : {A B : Type 0} (C : Type 0) (a : Option A) (f : A → Option B) (w : B) → of_one a f ≡ Some w → ((x : A) → a ≡ Some x → f x ≡ Some w → C) → C
with_one C None f w h k = absurd (cc)
with_one C (Some x) f w h k = k x refl h

pub with_two : {A B D : Type 0} (C : Type 0) (a : Option A) (b : Option B) (f : A → B → Option D) (w : D) → of_two a b f ≡ Some w →
    ((x : A) (y : B) → a ≡ Some x → b ≡ Some y → f x y ≡ Some w → C) → C
with_two C None b f w h k = absurd (cc)
with_two C (Some x) None f w h k = absurd (cc)
with_two C (Some x) (Some y) f w h k = k x y refl refl h

pub when_true : {A : Type 0} (b : Bool) (x w : A) → when b x ≡ Some w → b ≡ true
when_true true x w h = refl
when_true false x w h = absurd (cc)

pub when_is : {A : Type 0} (b : Bool) (x w : A) → when b x ≡ Some w → x ≡ w
when_is true x w h = same_Some x w h
when_is false x w h = absurd (cc)

pub mapped : {A B : Type 0} (f : A → B) (a : Option A) (w : B) → option_map f a ≡ Some w → (x : A) × (a ≡ Some x) × (f x ≡ w)
mapped f None w h = absurd (cc)
mapped f (Some x) w h = (x, refl, same_Some (f x) w h)

pub one_as_then : {A B : Type 0} (a : Option A) (f : A → Option B) → of_one a f ≡ option_and_then f a
one_as_then None f = refl
one_as_then (Some x) f = refl

pub either_true : (a b : Bool) → a || b ≡ true → (a ≡ true) ⊎ (b ≡ true)
either_true true b h = inl refl
either_true false b h = inr h

pub left_true : (a b : Bool) → a ≡ true → a || b ≡ true
left_true a b h = rw h refl

pub right_true : (a b : Bool) → b ≡ true → a || b ≡ true
right_true true b h = refl
right_true false b h = h
