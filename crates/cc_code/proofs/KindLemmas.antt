-- What the kind of a coding says of the values: how many they are, and between which ends they lie.
use Rattle.std.proofs.Common.{◌≡◌, ◌≢◌, ◌<◌, ◌≤◌, ◌+◌, ◌-◌, ◌/◌, ◌^◌, ◌&&◌, ◌∙◌, ◌⊎◌, max, ℕ, zero, suc, Bool, true, false, if◌then◌else◌, nat_eq, nat_lt, ℤ, pos, ◌+ℤ◌, ◌-ℤ◌, ◌≤ℤ◌, ◌<ℤ◌, int_le, int_lt, Option, Some, None, refl, sym, ap, subst, ⊎_elim, arith, pow_mono, pow_pos}
use Rattle.std.specs.Option.{IfSome}
use Rattle.std.proofs.lemmas.Bool.{and_left, and_right, cases_lt, eq-eqb, eqb-true, le-ltb, lt-ltb, ne_eqb}
use Rattle.std.proofs.lemmas.Int.{ints}
use Rattle.std.proofs.lemmas.Nat.{div_below, le-div}
use Rattle.cc_program.specs.CcNum.Integers.{least_of_bits, most_of_bits}
use Rattle.cc_program.proofs.CcNum.Residues.{halves}
use Rattle.cc_lattice.specs.Domains.{IsInReach}
use Rattle.cc_lattice.specs.Domains.{AreEnds}
use Rattle.cc_ranges.specs.Ends.{EndsHave}
use Rattle.cc_sets.specs.declared.range.Range.{Range}
use Rattle.cc_sets.specs.declared.vals.Vals.{Vals}
use Rattle.cc_sets.specs.declared.vals.Vals.TheVariants.{Few, Many}
use Rattle.cc_sets.specs.Rungs.{high_of, low_of, vals_ends, ValsHas}
use Rattle.cc_sets.specs.laws.Ends.{ends_have, set_ends, set_reach}
use Rattle.cc_places.specs.declared.abs.Abs.{Abs}
use Rattle.cc_places.specs.declared.abs.Abs.TheVariants.{Ints, Addrs}
use Rattle.cc_places.specs.declared.addrs.Addrs.{Addrs as Set}
use Rattle.cc_code.specs.declared.kinds.Coding.{Coding}
use Rattle.cc_code.specs.declared.kinds.Coding.TheVariants.{Const, Direct, Biased, Table}
use Rattle.cc_code.specs.Codings.{by_ends, by_optional_ends, kind_by, kind_of, AreBitsFor}
use Rattle.cc_code.specs.Members.{are_listed, count_of}

-- ---- tests of integers

le_yes : (a b : ℤ) → int_le a b ≡ true → a ≤ℤ b
le_yes a b h = grind (arith, ints)

lt_yes : (a b : ℤ) → int_lt a b ≡ true → a <ℤ b
lt_yes a b h = grind (arith, ints)

lt_no : (a b : ℤ) → int_lt a b ≡ false → b ≤ℤ a
lt_no a b h = grind (arith, ints)

pub le_true : (a b : ℤ) → a ≤ℤ b → int_le a b ≡ true
le_true a b h = grind (arith, ints)

pub le_false : (a b : ℤ) → b <ℤ a → int_le a b ≡ false
le_false a b h = grind (arith, ints)

lt_true : (a b : ℤ) → a <ℤ b → int_lt a b ≡ true
lt_true a b h = grind (arith, ints)

lt_false : (a b : ℤ) → b ≤ℤ a → int_lt a b ≡ false
lt_false a b h = grind (arith, ints)

-- a number that is d above another one
pub lt_by_distance : (n low : ℤ) (d p : ℕ) → n ≡ low +ℤ pos d → nat_lt d p ≡ int_lt n (low +ℤ pos p)
lt_by_distance n low d p e = ⊎_elim
    (λ (less : d < p). lt-ltb d p less ∙ sym (lt_true n (low +ℤ pos p) (omega (arith, ints))))
    (λ (more : p ≤ d). le-ltb d p more ∙ sym (lt_false n (low +ℤ pos p) (omega (arith, ints))))
    (cases_lt d p)

-- ---- the tests that a kind has passed

abbrev by_tests : Bool → Bool → Bool → ℤ → Coding
by_tests t u v low = if t && u then Direct else (if v then Biased low else Table)

if_direct : (t u v : Bool) (low : ℤ) → by_tests t u v low ≡ Direct → (t ≡ true) × (u ≡ true)
if_direct true true v low e = (refl, refl)
if_direct true false true low e = let f : Biased low ≡ Direct = e in absurd (cc)
if_direct true false false low e = let f : Table ≡ Direct = e in absurd (cc)
if_direct false u true low e = let f : Biased low ≡ Direct = e in absurd (cc)
if_direct false u false low e = let f : Table ≡ Direct = e in absurd (cc)

if_biased : (t u v : Bool) (low l : ℤ) → by_tests t u v low ≡ Biased l → (low ≡ l) × (v ≡ true)
if_biased true true v low l e = let f : Direct ≡ Biased l = e in absurd (cc)
if_biased true false true low l e = let f : Biased low ≡ Biased l = e in (cc, refl)
if_biased true false false low l e = let f : Table ≡ Biased l = e in absurd (cc)
if_biased false u true low l e = let f : Biased low ≡ Biased l = e in (cc, refl)
if_biased false u false low l e = let f : Table ≡ Biased l = e in absurd (cc)

if_table : (t u v : Bool) (low : ℤ) → by_tests t u v low ≡ Table → v ≡ false
if_table true true v low e = let f : Direct ≡ Table = e in absurd (cc)
if_table true false true low e = let f : Biased low ≡ Table = e in absurd (cc)
if_table true false false low e = refl
if_table false u true low e = let f : Biased low ≡ Table = e in absurd (cc)
if_table false u false low e = refl

no_const : (t u v : Bool) (low : ℤ) → by_tests t u v low ≡ Const → ⊥
no_const true true v low e = let f : Direct ≡ Const = e in cc
no_const true false true low e = let f : Biased low ≡ Const = e in cc
no_const true false false low e = let f : Table ≡ Const = e in cc
no_const false u true low e = let f : Biased low ≡ Const = e in cc
no_const false u false low e = let f : Table ≡ Const = e in cc

ends_no_const : (bits : ℕ) (ends : Option (ℤ × ℤ)) → by_optional_ends bits ends ≡ Const → ⊥
ends_no_const bits None e = let f : Table ≡ Const = e in cc
ends_no_const bits (Some (low, high)) e = no_const (int_le (pos 0) low) (int_lt high (pos (2 ^ bits))) (int_lt high (low +ℤ pos (2 ^ bits))) low e

kind_no_const : (values : Abs Vals) (bits : ℕ) → kind_by bits values ≡ Const → ⊥
kind_no_const (Ints x) bits e = ends_no_const bits (vals_ends x) e
kind_no_const (Addrs s) bits e = let f : Table ≡ Const = e in cc

if_const : (a b : Bool) (k : Coding) → (k ≡ Const → ⊥) → (if a && b then Const else k) ≡ Const → (a ≡ true) × (b ≡ true)
if_const true true k other e = (refl, refl)
if_const true false k other e = absurd (other e)
if_const false b k other e = absurd (other e)

-- a kind that is none of a constant is that of its ends
past_const : (a b : Bool) (k want : Coding) → (Const ≡ want → ⊥) → (if a && b then Const else k) ≡ want → k ≡ want
past_const true true k want other e = absurd (other e)
past_const true false k want other e = e
past_const false b k want other e = e

no_direct : Const ≡ Direct → ⊥
no_direct e = cc

no_biased : (low : ℤ) → Const ≡ Biased low → ⊥
no_biased low e = cc

no_table : Const ≡ Table → ⊥
no_table e = cc

behind : (values : Abs Vals) (bits : ℕ) (want : Coding) → (Const ≡ want → ⊥) → kind_of values bits ≡ want → kind_by bits values ≡ want
behind values bits want other e = past_const (nat_eq (count_of values) 1) (nat_eq bits 0) (kind_by bits values) want other e

-- ---- what the kinds say

pub const_one : (values : Abs Vals) (bits : ℕ) → kind_of values bits ≡ Const → count_of values ≡ 1
const_one values bits e = eqb-true (count_of values) 1 (if_const (nat_eq (count_of values) 1) (nat_eq bits 0) (kind_by bits values) (kind_no_const values bits) e).0

direct_by : (bits : ℕ) (ends : Option (ℤ × ℤ)) (n : ℤ) → by_optional_ends bits ends ≡ Direct → EndsHave ends n → (pos 0 ≤ℤ n) × (n <ℤ pos (2 ^ bits))
direct_by bits None n e h = absurd h
direct_by bits (Some (low, high)) n e h =
    let t = if_direct (int_le (pos 0) low) (int_lt high (pos (2 ^ bits))) (int_lt high (low +ℤ pos (2 ^ bits))) low e in
    let some = le_yes (pos 0) low t.0 in
    let most = lt_yes high (pos (2 ^ bits)) t.1 in
    let least : low ≤ℤ n = h.0 in
    let last : n ≤ℤ high = h.1 in
    (omega (arith, ints), omega (arith, ints))

pub direct_ends : (x : Vals) (bits : ℕ) (n : ℤ) → kind_of (Ints x) bits ≡ Direct → ValsHas x n → (pos 0 ≤ℤ n) × (n <ℤ pos (2 ^ bits))
direct_ends x bits n e h = direct_by bits (vals_ends x) n (behind (Ints x) bits Direct no_direct e) (ends_have x n h)

biased_by : (bits : ℕ) (ends : Option (ℤ × ℤ)) (l n : ℤ) → by_optional_ends bits ends ≡ Biased l → EndsHave ends n → (l ≤ℤ n) × (n <ℤ (l +ℤ pos (2 ^ bits)))
biased_by bits None l n e h = absurd h
biased_by bits (Some (low, high)) l n e h =
    let t = if_biased (int_le (pos 0) low) (int_lt high (pos (2 ^ bits))) (int_lt high (low +ℤ pos (2 ^ bits))) low l e in
    let same = t.0 in
    let most = lt_yes high (low +ℤ pos (2 ^ bits)) t.1 in
    let least : low ≤ℤ n = h.0 in
    let last : n ≤ℤ high = h.1 in
    (omega (arith, ints), omega (arith, ints))

pub biased_ends : (x : Vals) (bits : ℕ) (l n : ℤ) → kind_of (Ints x) bits ≡ Biased l → ValsHas x n → (l ≤ℤ n) × (n <ℤ (l +ℤ pos (2 ^ bits)))
biased_ends x bits l n e h = biased_by bits (vals_ends x) l n (behind (Ints x) bits (Biased l) (no_biased l) e) (ends_have x n h)

-- addresses are told neither as they stand nor from one on
pub addresses_direct : (s : Set) (bits : ℕ) → kind_of (Addrs s) bits ≡ Direct → ⊥
addresses_direct s bits e = let f : Table ≡ Direct = behind (Addrs s) bits Direct no_direct e in cc

pub addresses_biased : (s : Set) (bits : ℕ) (l : ℤ) → kind_of (Addrs s) bits ≡ Biased l → ⊥
addresses_biased s bits l e = let f : Table ≡ Biased l = behind (Addrs s) bits (Biased l) (no_biased l) e in cc

-- a range has as many numbers as its bits tell
some_bits : (b : ℕ) → 64 < 2 ^ b → 0 < b
some_bits zero h = absurd (omega arith)
some_bits (suc b) h = omega arith

range_below : (s : Bool) (b bits : ℕ) → 0 < b → 2 ^ b ≤ 2 ^ bits → most_of_bits s b <ℤ (least_of_bits s b +ℤ pos (2 ^ bits))
range_below true b bits z h =
    let two = halves b z in
    let some = pow_pos (b - 1) in
    omega (arith, ints)
range_below false b bits z h = let some = pow_pos b in omega (arith, ints)

-- members that are told by position are listed
pub table_listed : (values : Abs Vals) (bits : ℕ) → count_of values ≤ 2 ^ bits → kind_of values bits ≡ Table → are_listed values ≡ true
table_listed (Ints (Few s)) bits h e = refl
table_listed (Addrs s) bits h e = refl
table_listed (Ints (Many r)) bits h e =
    let low = low_of r in
    let high = high_of r in
    let k : by_ends bits (low_of r) (high_of r) ≡ Table = behind (Ints (Many r)) bits Table no_table e in
    let out = if_table (int_le (pos 0) (low_of r)) (int_lt (high_of r) (pos (2 ^ bits))) (int_lt (high_of r) (low_of r +ℤ pos (2 ^ bits))) (low_of r) k in
    let within = lt_true (high_of r) (low_of r +ℤ pos (2 ^ bits)) (range_below r.signed r.bits bits (some_bits r.bits r.many) h) in
    let f : false ≡ true = sym out ∙ within in
    absurd (cc)

-- ---- bits

-- the bits of a code, by how many values there are
pub bits_are : (values : Abs Vals) (least bits k : ℕ) → AreBitsFor values least bits → count_of values ≤ 2 ^ k → least ≤ k → (k ≤ least) ⊎ (2 ^ (k - 1) < count_of values) → bits ≡ k
bits_are values least bits k h enough asked tight =
    let most : bits ≤ k = h.no_more k enough asked in
    let a = h.asked in
    let b = h.enough in
    ⊎_elim
    (λ (no_fewer : k ≤ least). omega arith)
    (λ (too_few : 2 ^ (k - 1) < count_of values).
    ⊎_elim
    (λ (less : bits < k). let p : bits ≤ k - 1 = omega arith in let q : 2 ^ bits ≤ 2 ^ (k - 1) = pow_mono p in absurd (omega arith))
    (λ (no_less : k ≤ bits). omega arith)
    (cases_lt bits k))
    tight

-- ---- what the code tests

-- a number has so many bits where nothing is left of it when they are shifted out
pub shifted_out : (n bits : ℕ) → nat_eq (n / 2 ^ bits) 0 ≡ nat_lt n (2 ^ bits)
shifted_out n bits = ⊎_elim
    (λ (less : n < 2 ^ bits).
    let below : n / 2 ^ bits < 1 = div_below n (2 ^ bits) 1 (pow_pos bits) (omega arith) in
    eq-eqb (n / 2 ^ bits) 0 (omega arith) ∙ sym (lt-ltb n (2 ^ bits) less))
    (λ (more : 2 ^ bits ≤ n).
    let above : 1 ≤ n / 2 ^ bits = le-div 1 n (2 ^ bits) (pow_pos bits) (omega arith) in
    ne_eqb (n / 2 ^ bits) 0 (λ e. omega arith) ∙ sym (le-ltb n (2 ^ bits) more))
    (cases_lt n (2 ^ bits))

-- and where it has no more bits than a word
pub in_word : (n bits : ℕ) → n < 2 ^ 128 → 128 ≤ bits → true ≡ nat_lt n (2 ^ bits)
in_word n bits small wide =
    let p : 2 ^ 128 ≤ 2 ^ bits = pow_mono wide in
    sym (lt-ltb n (2 ^ bits) (omega arith))

-- the kinds of numbers between two ends, by the tests that they pass
pub ends_direct : (bits : ℕ) (low high : ℤ) → pos 0 ≤ℤ low → int_lt high (pos 0 +ℤ pos (2 ^ bits)) ≡ true → Direct ≡ by_ends bits low high
ends_direct bits low high some h =
    let t = le_true (pos 0) low some in
    let within : high <ℤ pos (2 ^ bits) = let w = lt_yes high (pos 0 +ℤ pos (2 ^ bits)) h in omega (arith, ints) in
    let u = lt_true high (pos (2 ^ bits)) within in
    by_both (int_le (pos 0) low) (int_lt high (pos (2 ^ bits))) (int_lt high (low +ℤ pos (2 ^ bits))) low t u
  where
    by_both : (t u v : Bool) (low : ℤ) → t ≡ true → u ≡ true → Direct ≡ by_tests t u v low
    by_both true true v low h k = refl
    by_both true false v low h k = absurd (cc)
    by_both false u v low h k = absurd (cc)

by_third : (t u v w : Bool) (low : ℤ) → (t && u) ≡ false → w ≡ v → by_tests t u v low ≡ (if w then Biased low else Table)
by_third true true v w low h e = absurd (cc)
by_third true false v w low h e = ap (λ (b : Bool). if b then Biased low else Table) (sym e)
by_third false u v w low h e = ap (λ (b : Bool). if b then Biased low else Table) (sym e)

-- not all as they stand: some number is negative, or has more bits
pub ends_negative : (bits : ℕ) (low high : ℤ) (within : Bool) → low <ℤ pos 0 → within ≡ int_lt high (low +ℤ pos (2 ^ bits)) → (if within then Biased low else Table) ≡ by_ends bits low high
ends_negative bits low high within h e =
    sym (by_third (int_le (pos 0) low) (int_lt high (pos (2 ^ bits))) (int_lt high (low +ℤ pos (2 ^ bits))) within low (and_left (int_le (pos 0) low) (int_lt high (pos (2 ^ bits))) (le_false (pos 0) low h)) e)

pub ends_wide : (bits : ℕ) (low high : ℤ) (within : Bool) → int_lt high (pos 0 +ℤ pos (2 ^ bits)) ≡ false → within ≡ int_lt high (low +ℤ pos (2 ^ bits)) → (if within then Biased low else Table) ≡ by_ends bits low high
ends_wide bits low high within h e =
    let beyond : pos (2 ^ bits) ≤ℤ high = let w = lt_no high (pos 0 +ℤ pos (2 ^ bits)) h in omega (arith, ints) in
    sym (by_third (int_le (pos 0) low) (int_lt high (pos (2 ^ bits))) (int_lt high (low +ℤ pos (2 ^ bits))) within low (and_right (int_le (pos 0) low) (int_lt high (pos (2 ^ bits))) (lt_false high (pos (2 ^ bits)) beyond)) e)

-- the bits of a code are the greater of what is asked and what tells the values apart
pub greater_bits : (values : Abs Vals) (least told bits : ℕ) → bits ≡ max least told → count_of values ≤ 2 ^ told → ((b : ℕ) → count_of values ≤ 2 ^ b → told ≤ b) → AreBitsFor values least bits
greater_bits values least told bits e enough no_more =
    let up : told ≤ bits = omega (arith, e) in
    let p : 2 ^ told ≤ 2 ^ bits = pow_mono up in
    record {
      enough = omega (arith, p, enough);
      asked = omega (arith, e);
      no_more = λ b more asked. let k = no_more b more in omega (arith, e, k, asked);
    }

-- the ends of a set lie in reach, and in order
pub ends_reach : (x : Vals) (low high : ℤ) → vals_ends x ≡ Some (low, high) → IsInReach low × IsInReach high × (low ≤ℤ high)
ends_reach x low high e =
    let h : AreEnds (ValsHas x) (low, high) = subst (λ (o : Option (ℤ × ℤ)). IfSome o (AreEnds (ValsHas x))) e (set_ends x) in
    (set_reach x low h.low_in, set_reach x high h.high_in, h.low high h.high_in)
