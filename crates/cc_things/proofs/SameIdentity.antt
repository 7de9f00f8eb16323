-- Identities are the same exactly where they are equal.
use Rattle.std.proofs.Common.{◌≡◌, ℕ, Bool, true, false, refl, ap}
use Rattle.std.specs.Prelude.{◌&&◌, nat_eq}
use Rattle.std.proofs.lemmas.Slice.Eq.{bytes_eq-Decides}
use Rattle.std.proofs.lemmas.Bool.{eqb-true, eq-eqb, and_parts}
use Rattle.cc_syntax.specs.SameTypes.{same_flag}
use Rattle.cc_things.specs.Things.{Identity, External, Numbered, Single, same_identity}

flag-self : (a : Bool) → same_flag a a ≡ true
flag-self true = refl
flag-self false = refl

flag-equal : (a b : Bool) → same_flag a b ≡ true → a ≡ b
flag-equal true true h = refl
flag-equal true false h = cc h
flag-equal false true h = cc h
flag-equal false false h = refl

pub same_identity-self : (x : Identity) → same_identity x x ≡ true
same_identity-self (External x) = (bytes_eq-Decides x x).1 refl
same_identity-self (Numbered n i c) = rw (eq-eqb n n refl, eq-eqb i i refl, flag-self c) refl
same_identity-self (Single t p) = rw (eq-eqb t t refl, eq-eqb p p refl) refl

numbered-equal : (n m i j : ℕ) (c d : Bool) → n ≡ m → i ≡ j → c ≡ d → Numbered n i c ≡ Numbered m j d
numbered-equal n m i j c d hn hi hc = rw (hn, hi, hc) refl

single-equal : (t u p q : ℕ) → t ≡ u → p ≡ q → Single t p ≡ Single u q
single-equal t u p q ht hp = rw (ht, hp) refl

pub same_identity-equal : (x y : Identity) → same_identity x y ≡ true → x ≡ y
same_identity-equal (External x) (External y) h = ap External ((bytes_eq-Decides x y).0 h)
same_identity-equal (External x) (Numbered m j d) h = cc h
same_identity-equal (External x) (Single u q) h = cc h
same_identity-equal (Numbered n i c) (External y) h = cc h
same_identity-equal (Numbered n i c) (Numbered m j d) h =
    let a = and_parts (nat_eq n m) (nat_eq i j && same_flag c d) h in
    let b = and_parts (nat_eq i j) (same_flag c d) a.1 in
    numbered-equal n m i j c d (eqb-true n m a.0) (eqb-true i j b.0) (flag-equal c d b.1)
same_identity-equal (Numbered n i c) (Single u q) h = cc h
same_identity-equal (Single t p) (External y) h = cc h
same_identity-equal (Single t p) (Numbered m j d) h = cc h
same_identity-equal (Single t p) (Single u q) h =
    let a = and_parts (nat_eq t u) (nat_eq p q) h in
    single-equal t u p q (eqb-true t u a.0) (eqb-true p q a.1)
