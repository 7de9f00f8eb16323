-- Abstract values are ordered, since integers in a domain and sets of addresses are: each law from that of
-- the two kinds.
use Rattle.std.specs.Prelude.{◌≡◌}
use Rattle.std.proofs.Common.{ap}
use Rattle.cc_places.specs.declared.abs.Abs.{Abs}
use Rattle.cc_places.specs.declared.abs.Abs.TheVariants as abs
use Rattle.cc_places.specs.Abstract.{AreOfOneKind, IsBelowAbs}
use Rattle.cc_places.specs.laws.SetLaws.{within_itself, within_through, sets_same}

pub kind_itself : {I : Type 0} (x y : Abs I) → AreOfOneKind x y → AreOfOneKind x x
kind_itself (abs.Ints a) y h = tt
kind_itself (abs.Addrs s) y h = tt

pub kind_back : {I : Type 0} (x y : Abs I) → AreOfOneKind x y → AreOfOneKind y x
kind_back (abs.Ints a) (abs.Ints b) h = tt
kind_back (abs.Ints a) (abs.Addrs t) h = absurd h
kind_back (abs.Addrs s) (abs.Ints b) h = absurd h
kind_back (abs.Addrs s) (abs.Addrs t) h = tt

pub abs_itself : {I : Type 0} (alike below : I → I → Type 0) → ((a : I) → alike a a → below a a) → ((a b : I) → alike a b)
    → (x : Abs I) → IsBelowAbs below x x
abs_itself alike below each all (abs.Ints a) = each a (all a a)
abs_itself alike below each all (abs.Addrs s) = within_itself s

pub abs_through : {I : Type 0} (alike below : I → I → Type 0)
    → ((a b c : I) → alike a b → alike b c → alike a c → below a b → below b c → below a c) → ((a b : I) → alike a b)
    → (x y z : Abs I) → IsBelowAbs below x y → IsBelowAbs below y z → IsBelowAbs below x z
abs_through alike below each all (abs.Ints a) (abs.Ints b) (abs.Ints c) h k = each a b c (all a b) (all b c) (all a c) h k
abs_through alike below each all (abs.Ints a) (abs.Ints b) (abs.Addrs u) h k = absurd k
abs_through alike below each all (abs.Ints a) (abs.Addrs t) z h k = absurd h
abs_through alike below each all (abs.Addrs s) (abs.Ints b) z h k = absurd h
abs_through alike below each all (abs.Addrs s) (abs.Addrs t) (abs.Ints c) h k = absurd k
abs_through alike below each all (abs.Addrs s) (abs.Addrs t) (abs.Addrs u) h k = within_through s t u h k

pub abs_same : {I : Type 0} (alike below : I → I → Type 0) → ((a b : I) → alike a b → below a b → below b a → a ≡ b) → ((a b : I) → alike a b)
    → (x y : Abs I) → IsBelowAbs below x y → IsBelowAbs below y x → x ≡ y
abs_same alike below each all (abs.Ints a) (abs.Ints b) h k = ap (λ c. abs.Ints c) (each a b (all a b) h k)
abs_same alike below each all (abs.Ints a) (abs.Addrs t) h k = absurd h
abs_same alike below each all (abs.Addrs s) (abs.Ints b) h k = absurd h
abs_same alike below each all (abs.Addrs s) (abs.Addrs t) h k = ap (λ u. abs.Addrs u) (sets_same s t h k)
