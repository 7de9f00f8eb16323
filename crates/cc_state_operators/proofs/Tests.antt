-- Which truths the members of a set have: by the ends of integers, and by the members of addresses.
use Rattle.std.proofs.Common.{◌≡◌, ◌⊎◌, ◌↔◌, zero, suc, ℤ, pos, negsuc, ◌≤ℤ◌, ◌<ℤ◌, Bool, true, false, IsTrue, List, inl, inr, refl, sym, ◌∙◌, subst, arith}
use Rattle.std.specs.List.{Contains, list_any}
use Rattle.std.proofs.lemmas.Int.{ints}
use Rattle.cc_lattice.specs.Domains.{AreEnds}
use Rattle.cc_places.specs.Kept.{member_for}
use Rattle.cc_places.specs.Sets.{HasAddress}
use Rattle.cc_places.specs.declared.abs.Abs.{Abs}
use Rattle.cc_places.specs.declared.abs.Abs.TheVariants as abs
use Rattle.cc_places.specs.declared.addrs.Addrs.{Addrs}
use Rattle.cc_places.specs.laws.ListLaws.{any_at, any_from}
use Rattle.cc_places.specs.laws.SetLaws.{has_member}
use Rattle.cc_program.specs.declared.value.Address.{Address}
use Rattle.cc_program.specs.declared.value.Address.TheVariants as address
use Rattle.cc_program.specs.declared.value.Value.TheVariants.{Int, Place}
use Rattle.cc_eval.specs.CcValues.Values.{is_true}
use Rattle.cc_state_operators.specs.Domains.{Domain, MayBe}
use Rattle.cc_state_operators.specs.Operands.{is_other}

-- a number is true where it is not 0, and an address where it is not null

number_true : (n : ℤ) → (n ≡ pos 0 → ⊥) → is_true (Int n) ≡ true
number_true (pos zero) h = absurd (h refl)
number_true (pos (suc k)) h = refl
number_true (negsuc k) h = refl

number_false : (n : ℤ) → is_true (Int n) ≡ false → n ≡ pos 0
number_false (pos zero) h = refl
number_false (pos (suc k)) h = absurd (cc)
number_false (negsuc k) h = absurd (cc)

not_false : {A : Type 0} → false ≡ true → A
not_false e = absurd (cc)

other_is : (a : Address) → is_other a ≡ true → is_true (Place a) ≡ true
other_is address.Null h = absurd (cc)
other_is (address.Func f) h = refl
other_is (address.At o p i n) h = refl

is_other_member : (e : Bool) (a : Address) → is_true (Place a) ≡ true → is_other (member_for e a) ≡ true
is_other_member e address.Null h = absurd (cc)
is_other_member true (address.Func f) h = refl
is_other_member false (address.Func f) h = refl
is_other_member true (address.At o p i n) h = refl
is_other_member false (address.At o p i n) h = refl

null_is : (a : Address) → is_true (Place a) ≡ false → a ≡ address.Null
null_is address.Null h = refl
null_is (address.Func f) h = absurd (cc)
null_is (address.At o p i n) h = absurd (cc)

module _ {I : Type 0} (d : Domain I) where
  -- integers

  pub zero_there : (x : I) → d.has x (pos 0) → MayBe d false (abs.Ints x)
  zero_there x h = (Int (pos 0), h, refl)

  pub there_zero : (x : I) → MayBe d false (abs.Ints x) → d.has x (pos 0)
  there_zero x (Int n, h, e) = subst (d.has x) (number_false n e) h
  there_zero x (Place a, h, e) = absurd h

  pub low_there : (x : I) (low high : ℤ) → AreEnds (d.has x) (low, high) → (low ≡ pos 0 → ⊥) → MayBe d true (abs.Ints x)
  low_there x low high h k = (Int low, h.low_in, number_true low k)

  pub high_there : (x : I) (low high : ℤ) → AreEnds (d.has x) (low, high) → (high ≡ pos 0 → ⊥) → MayBe d true (abs.Ints x)
  high_there x low high h k = (Int high, h.high_in, number_true high k)

  -- addresses

  pub other_there : (s : Addrs) (members : List Address) → members ≡ s.members → list_any is_other members ≡ true → MayBe d true (abs.Addrs s)
  other_there s members e h = let t = any_at is_other members h in (Place t.0, has_member s t.0 (subst (λ l. Contains l t.0) e t.1), other_is t.0 t.2)

  pub there_other : (s : Addrs) (members : List Address) → members ≡ s.members → MayBe d true (abs.Addrs s) → list_any is_other members ≡ true
  there_other s members e (Int n, h, k) = absurd h
  there_other s members e (Place a, h, k) = any_from is_other members (member_for s.is_exact a) (subst (λ l. Contains l (member_for s.is_exact a)) (sym e) h) (is_other_member s.is_exact a k)

  pub null_there : (s : Addrs) → HasAddress s address.Null → MayBe d false (abs.Addrs s)
  null_there s h = (Place address.Null, h, refl)

  pub there_null : (s : Addrs) → MayBe d false (abs.Addrs s) → HasAddress s address.Null
  there_null s (Int n, h, e) = absurd h
  there_null s (Place a, h, e) = subst (HasAddress s) (null_is a e) h

  -- tests

  by_ends : (x : I) (low high : ℤ) → AreEnds (d.has x) (low, high) → (low <ℤ pos 0) ⊎ (pos 0 <ℤ high) → MayBe d true (abs.Ints x)
  by_ends x low high h (inl k) = low_there x low high h (λ e. below low k e)
    where
      below : (low : ℤ) → low <ℤ pos 0 → low ≡ pos 0 → ⊥
      below low k e = omega (arith, ints)
  by_ends x low high h (inr k) = high_there x low high h (λ e. above high k e)
    where
      above : (high : ℤ) → pos 0 <ℤ high → high ≡ pos 0 → ⊥
      above high k e = omega (arith, ints)

  past_end : (n low high : ℤ) → low ≤ℤ n → n ≤ℤ high → is_true (Int n) ≡ true → (low <ℤ pos 0) ⊎ (pos 0 <ℤ high)
  past_end (pos zero) low high h k e = not_false e
  past_end (pos (suc n)) low high h k e = inr (omega (arith, ints))
  past_end (negsuc n) low high h k e = inl (omega (arith, ints))

  ends_by : (x : I) (low high : ℤ) → AreEnds (d.has x) (low, high) → MayBe d true (abs.Ints x) → (low <ℤ pos 0) ⊎ (pos 0 <ℤ high)
  ends_by x low high h (Int n, k, e) = past_end n low high (h.low n k) (h.high n k) e
  ends_by x low high h (Place a, k, e) = absurd k

  pub ends_true : (x : I) (low high : ℤ) (r : Bool) → AreEnds (d.has x) (low, high) → (IsTrue r ↔ ((low <ℤ pos 0) ⊎ (pos 0 <ℤ high))) → (IsTrue r ↔ MayBe d true (abs.Ints x))
  ends_true x low high r h f = ((λ k. by_ends x low high h (f.0 k)), (λ m. f.1 (ends_by x low high h m)))

  pub ints_false : (x : I) (r : Bool) → (IsTrue r ↔ d.has x (pos 0)) → (IsTrue r ↔ MayBe d false (abs.Ints x))
  ints_false x r h = ((λ k. zero_there x (h.0 k)), (λ m. h.1 (there_zero x m)))

  pub addrs_true : (s : Addrs) (members : List Address) (r : Bool) → members ≡ s.members → r ≡ list_any is_other members → (IsTrue r ↔ MayBe d true (abs.Addrs s))
  addrs_true s members r e f = ((λ k. other_there s members e (sym f ∙ k)), (λ m. f ∙ there_other s members e m))

  pub addrs_false : (s : Addrs) (r : Bool) → (IsTrue r ↔ HasAddress s address.Null) → (IsTrue r ↔ MayBe d false (abs.Addrs s))
  addrs_false s r h = ((λ k. null_there s (h.0 k)), (λ m. h.1 (there_null s m)))

  -- of a value that is known, by a truth that is known

  pub as_known : (b c : Bool) (x y : Abs I) (r : Bool) → b ≡ c → x ≡ y → (IsTrue r ↔ MayBe d c y) → (IsTrue r ↔ MayBe d b x)
  as_known b c x y r e f h = subst (λ z. IsTrue r ↔ MayBe d z x) (sym e) (subst (λ v. IsTrue r ↔ MayBe d c v) (sym f) h)
