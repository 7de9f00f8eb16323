-- The value of a code is the value that it was made of, and codes are short.
use Rattle.std.proofs.Common.{◌≡◌, ◌≢◌, ◌<◌, ◌≤◌, ◌+◌, ◌^◌, ◌∙◌, ℕ, Bool, true, false, ℤ, pos, ◌+ℤ◌, ◌≤ℤ◌, ◌<ℤ◌, List, Option, Some, None, IsSome, refl, sym, ap, subst, arith, pow_mono, pow_pos}
use Rattle.std.specs.List.{slice_get}
use Rattle.std.proofs.lemmas.Int.{ints}
use Rattle.cc_lattice.specs.Domains.{IsInReach}
use Rattle.cc_program.specs.declared.value.Value.{Value}
use Rattle.cc_program.specs.declared.value.Value.TheVariants as value
use Rattle.cc_places.specs.declared.abs.Abs.{Abs}
use Rattle.cc_places.specs.declared.abs.Abs.TheVariants.{Ints, Addrs}
use Rattle.cc_sets.specs.declared.range.Range.{Range}
use Rattle.cc_sets.specs.declared.vals.Vals.{Vals}
use Rattle.cc_sets.specs.declared.vals.Vals.TheVariants.{Few, Many}
use Rattle.cc_sets.specs.laws.Ends.{set_reach}
use Rattle.cc_code.specs.declared.kinds.Coding.{Coding}
use Rattle.cc_code.specs.declared.kinds.Coding.TheVariants.{Const, Direct, Biased, Table}
use Rattle.cc_code.specs.Codes.{decoded, is_listed, IsAbove, IsCode, IsShortCodingOf, IsSomeCode}
use Rattle.cc_code.specs.Codings.{kind_of, AreBitsFor, IsCodingOf}
use Rattle.cc_code.specs.Members.{are_listed, count_of, members_of, Has}
use Rattle.cc_code.proofs.KindLemmas.{const_one, direct_ends, biased_ends, addresses_direct, addresses_biased, table_listed}
use Rattle.cc_code.proofs.MemberLemmas.{constant, place_below}

-- ---- laws

pub decodes : (values : Abs Vals) (least : ℕ) (coding : Coding × ℕ) (v : Value) (code : ℕ) → IsCodingOf values least coding → Has values v → IsCode values coding.0 v code → decoded (members_of values) coding.0 code ≡ Some v
decodes values least (Const, bits) v code c h e = constant values v c.told (const_one values bits (sym c.kind)) h
decodes values least (Direct, bits) v code c h e = ap Some (sym e)
decodes values least (Biased low, bits) v code c h e = ap Some (sym e)
decodes values least (Table, bits) v code c h e = e

fits_by : (coding : Coding) (values : Abs Vals) (least bits : ℕ) (v : Value) (code : ℕ) → IsCodingOf values least (coding, bits) → Has values v → IsCode values coding v code → code < 2 ^ bits
fits_by Const values least bits v code c h e = let none : code ≡ 0 = e in let some = pow_pos bits in omega (arith, none, some)
fits_by Direct (Ints x) least bits v code c h e =
    let ends = direct_ends x bits (pos code) (sym c.kind) (subst (Has (Ints x)) e h) in
    let most = ends.1 in
    omega (arith, ints, most)
fits_by Direct (Addrs s) least bits v code c h e = absurd (addresses_direct s bits (sym c.kind))
fits_by (Biased low) (Ints x) least bits v code c h e =
    let ends = biased_ends x bits low (low +ℤ pos code) (sym c.kind) (subst (Has (Ints x)) e h) in
    let most = ends.1 in
    omega (arith, ints, most)
fits_by (Biased low) (Addrs s) least bits v code c h e = absurd (addresses_biased s bits low (sym c.kind))
fits_by Table values least bits v code c h e = let l = place_below values v code e in let enough = c.bits.enough in omega (arith, l, enough)

pub fits : (values : Abs Vals) (least : ℕ) (coding : Coding × ℕ) (v : Value) (code : ℕ) → IsCodingOf values least coding → Has values v → IsCode values coding.0 v code → code < 2 ^ coding.1
fits values least (coding, bits) v code c h e = fits_by coding values least bits v code c h e

same_bits : (values : Abs Vals) (least b c : ℕ) → AreBitsFor values least b → AreBitsFor values least c → b ≡ c
same_bits values least b c h k =
    let there = h.no_more c k.enough k.asked in
    let back = k.no_more b h.enough h.asked in
    omega (arith, there, back)

pub one_coding : (values : Abs Vals) (least : ℕ) (x y : Coding × ℕ) → IsCodingOf values least x → IsCodingOf values least y → x ≡ y
one_coding values least (k, b) (l, c) h m =
    let bits : b ≡ c = same_bits values least b c h.bits m.bits in
    let kinds : k ≡ l = h.kind ∙ ap (kind_of values) bits ∙ sym m.kind in
    ap {B = Coding × ℕ} (λ (z : Coding). (z, b)) kinds ∙ ap {B = Coding × ℕ} (λ (n : ℕ). (l, n)) bits

pub ranges : (r : Range) (least : ℕ) (coding : Coding × ℕ) → IsCodingOf (Ints (Many r)) least coding → coding.0 ≢ Table
ranges r least coding c e =
    let l : false ≡ true = table_listed (Ints (Many r)) coding.1 c.bits.enough (sym c.kind ∙ e) in
    cc

-- ---- what encoding needs

-- a member of a short coding lies above the least one by less than 2^16
short : (bits : ℕ) → bits ≤ 16 → 2 ^ bits ≤ 2 ^ 16
short bits h = pow_mono h

above_by : (low n : ℤ) (p : ℕ) → p ≤ 2 ^ 16 → low ≤ℤ n → n <ℤ (low +ℤ pos p) → (low ≤ℤ n) × (n <ℤ (low +ℤ pos (2 ^ 16)))
above_by low n p h least most = (least, omega (arith, ints))

pub direct_above : (values : Abs Vals) (v : Value) → IsShortCodingOf values Direct → Has values v → IsAbove (pos 0) v
direct_above (Addrs s) v c h = absurd (addresses_direct s c.bits (sym c.coded.kind))
direct_above (Ints x) (value.Place a) c h = absurd h
direct_above (Ints x) (value.Int n) c h =
    let ends = direct_ends x c.bits n (sym c.coded.kind) h in
    let most = ends.1 in
    above_by (pos 0) n (2 ^ c.bits) (short c.bits c.short) ends.0 (omega (arith, ints, most))

pub biased_above : (values : Abs Vals) (low : ℤ) (v : Value) → IsShortCodingOf values (Biased low) → Has values v → IsAbove low v
biased_above (Addrs s) low v c h = absurd (addresses_biased s c.bits low (sym c.coded.kind))
biased_above (Ints x) low (value.Place a) c h = absurd h
biased_above (Ints x) low (value.Int n) c h =
    let ends = biased_ends x c.bits low n (sym c.coded.kind) h in
    above_by low n (2 ^ c.bits) (short c.bits c.short) ends.0 ends.1

pub listed_in : (values : Abs Vals) → IsShortCodingOf values Table → are_listed values ≡ true
listed_in values c = table_listed values c.bits c.coded.bits.enough (sym c.coded.kind)

-- ---- what decoding needs

is_some_by : (o : Option Value) (v : Value) → o ≡ Some v → IsSome o
is_some_by None v e = absurd (cc)
is_some_by (Some w) v e = refl

-- the place of a listed member holds a value
pub constant_told : (values : List Value) (code : ℕ) → IsSomeCode values Const code → IsSome (slice_get values 0)
constant_told values code h =
    let e : decoded (members_of h.set) Const code ≡ Some h.member = decodes h.set h.least (Const, h.bits) h.member code h.coded h.has h.is in
    is_some_by (slice_get values 0) h.member (ap (λ (vs : List Value). slice_get vs 0) (h.listed refl) ∙ e)

pub table_told : (values : List Value) (code : ℕ) → IsSomeCode values Table code → IsSome (slice_get values code)
table_told values code h =
    let e : decoded (members_of h.set) Table code ≡ Some h.member = decodes h.set h.least (Table, h.bits) h.member code h.coded h.has h.is in
    is_some_by (slice_get values code) h.member (ap (λ (vs : List Value). slice_get vs code) (h.listed refl) ∙ e)

-- a number that is counted from the least one on lies in reach
in_reach : (set : Abs Vals) (low : ℤ) (v : Value) (code : ℕ) → Has set v → v ≡ value.Int (low +ℤ pos code) → IsInReach (low +ℤ pos code)
in_reach (Ints x) low v code h e = set_reach x (low +ℤ pos code) (subst (Has (Ints x)) e h)
in_reach (Addrs s) low v code h e = absurd (subst (Has (Addrs s)) e h)

pub biased_reach : (values : List Value) (low : ℤ) (code : ℕ) → IsSomeCode values (Biased low) code → IsInReach (low +ℤ pos code)
biased_reach values low code h = in_reach h.set low h.member code h.has h.is

-- ---- what is encoded

from_nothing : (code : ℕ) → (pos 0 +ℤ pos code) ≡ pos code
from_nothing code = omega (arith, ints)

pub direct_code : (v : Value) (code : ℕ) → v ≡ value.Int (pos 0 +ℤ pos code) → v ≡ value.Int (pos code)
direct_code v code e = e ∙ ap value.Int (from_nothing code)
