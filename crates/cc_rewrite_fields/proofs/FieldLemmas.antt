-- What writing a field does to the fields of a word.
use Rattle.std.proofs.Common.{◌≡◌, ◌<◌, ◌≤◌, ◌+◌, ◌*◌, ◌^◌, ◌-◌, ◌/◌, ◌%◌, ℕ, ap, sym, ◌∙◌, arith, bit_and, bit_or, pow_pos, pow-add, mod-eq_of_lt}
use Rattle.std.proofs.lemmas.Nat.{or_block, and_block, and_mask, shr-shr, shl-shr, field_of, div-mul-add, mod-mul-add, mul-add-lt, div_below, mod_below, div-add-mod'}
use Rattle.std.proofs.Math.Pow.{mod-mod-pow}
use Rattle.std.specs.Int.Bits.{and_zero_r, or_zero_l, or_zero_r}
use Rattle.cc_rewrite_fields.specs.Field.{field, put, mask, keep}

pub field_put : (w s b c : ℕ) → c < 2 ^ b → field (put w s b c) s b ≡ c
unfolding field put
field_put w s b c h =
    ap (λ n. n % 2 ^ b) (div-mul-add (w / 2 ^ s / 2 ^ b * 2 ^ b + c) (2 ^ s) (w % 2 ^ s) (mod_below w (2 ^ s) (pow_pos s)))
    ∙ mod-mul-add (w / 2 ^ s / 2 ^ b) (2 ^ b) c h

-- the bits below, and the bits above, are as before
put_low : (w s b c : ℕ) → put w s b c % 2 ^ s ≡ w % 2 ^ s
unfolding put
put_low w s b c = mod-mul-add (w / 2 ^ s / 2 ^ b * 2 ^ b + c) (2 ^ s) (w % 2 ^ s) (mod_below w (2 ^ s) (pow_pos s))

put_high : (w s b c : ℕ) → c < 2 ^ b → put w s b c / 2 ^ (s + b) ≡ w / 2 ^ (s + b)
unfolding put
put_high w s b c h =
    sym (shr-shr (put w s b c) s b)
    ∙ ap (λ n. n / 2 ^ b) (div-mul-add (w / 2 ^ s / 2 ^ b * 2 ^ b + c) (2 ^ s) (w % 2 ^ s) (mod_below w (2 ^ s) (pow_pos s)))
    ∙ div-mul-add (w / 2 ^ s / 2 ^ b) (2 ^ b) c h
    ∙ shr-shr w s b

-- a field is a matter of the bits below its end
low_field : (w v s b k : ℕ) → s + b ≤ k → w % 2 ^ k ≡ v % 2 ^ k → field w s b ≡ field v s b
unfolding field
low_field w v s b k h e =
    let cut : k ≡ (k - (b + s)) + (b + s) = omega (arith, h) in
    let shorter : w % 2 ^ (b + s) ≡ v % 2 ^ (b + s) =
    sym (mod-mod-pow w (k - (b + s)) (b + s)) ∙ ap (λ n. w % 2 ^ n % 2 ^ (b + s)) (sym cut) ∙ ap (λ n. n % 2 ^ (b + s)) e
    ∙ ap (λ n. v % 2 ^ n % 2 ^ (b + s)) cut ∙ mod-mod-pow v (k - (b + s)) (b + s) in
    sym (field_of w b s) ∙ ap (λ n. n / 2 ^ s) shorter ∙ field_of v b s

-- and of those from its start on
high_field : (w v s b k : ℕ) → k ≤ s → w / 2 ^ k ≡ v / 2 ^ k → field w s b ≡ field v s b
unfolding field
high_field w v s b k h e =
    let cut : s ≡ k + (s - k) = omega (arith, h) in
    let further : w / 2 ^ s ≡ v / 2 ^ s =
    ap (λ n. w / 2 ^ n) cut ∙ sym (shr-shr w k (s - k)) ∙ ap (λ n. n / 2 ^ (s - k)) e ∙ shr-shr v k (s - k) ∙ ap (λ n. v / 2 ^ n) (sym cut) in
    ap (λ n. n % 2 ^ b) further

pub field_below : (w s b c s' b' : ℕ) → s' + b' ≤ s → field (put w s b c) s' b' ≡ field w s' b'
field_below w s b c s' b' h = low_field (put w s b c) w s' b' s h (put_low w s b c)

pub field_above : (w s b c s' b' : ℕ) → c < 2 ^ b → s + b ≤ s' → field (put w s b c) s' b' ≡ field w s' b'
field_above w s b c s' b' k h = high_field (put w s b c) w s' b' (s + b) h (put_high w s b c k)

-- ---- by bits

high_below : (w d s b : ℕ) → s + b ≤ d → w < 2 ^ d → w / 2 ^ s / 2 ^ b < 2 ^ (d - s - b)
high_below w d s b h k =
    let cut : 2 ^ d ≡ 2 ^ (d - s - b) * 2 ^ (s + b) = ap (λ n. 2 ^ n) (omega (arith, h)) ∙ pow-add 2 (d - s - b) (s + b) in
    let below : w / 2 ^ (s + b) < 2 ^ (d - s - b) = div_below w (2 ^ (s + b)) (2 ^ (d - s - b)) (pow_pos (s + b)) (omega (arith, k, cut)) in
    omega (arith, below, shr-shr w s b)

pub put_below : (w d s b c : ℕ) → s + b ≤ d → w < 2 ^ d → c < 2 ^ b → put w s b c < 2 ^ d
unfolding put
put_below w d s b c h k j =
    let one : w / 2 ^ s / 2 ^ b * 2 ^ b + c < 2 ^ b * 2 ^ (d - s - b) = mul-add-lt (w / 2 ^ s / 2 ^ b) (2 ^ b) c (2 ^ (d - s - b)) (high_below w d s b h k) j in
    let two = mul-add-lt (w / 2 ^ s / 2 ^ b * 2 ^ b + c) (2 ^ s) (w % 2 ^ s) (2 ^ b * 2 ^ (d - s - b)) one (mod_below w (2 ^ s) (pow_pos s)) in
    let all : 2 ^ s * (2 ^ b * 2 ^ (d - s - b)) ≡ 2 ^ d =
    ap (λ n. 2 ^ s * n) (sym (pow-add 2 b (d - s - b))) ∙ sym (pow-add 2 s (b + (d - s - b))) ∙ ap (λ n. 2 ^ n) (omega (arith, h)) in
    omega (arith, two, all)

products : (a b c x y z : ℕ) → x ≡ a + 1 → y ≡ b + 1 → z ≡ c + 1 → x * (y * z) - 1 - b * z ≡ (a * y + 0) * z + c
products a b c x y z e f g = rw (e, f, g) (omega arith)

keep_is : (d s b : ℕ) → s + b ≤ d → keep d s b ≡ ((2 ^ (d - s - b) - 1) * 2 ^ b + 0) * 2 ^ s + (2 ^ s - 1)
keep_is d s b h =
    let all : 2 ^ d ≡ 2 ^ (d - s - b) * (2 ^ b * 2 ^ s) =
    ap (λ n. 2 ^ n) (omega (arith, h)) ∙ pow-add 2 (d - s - b) (b + s) ∙ ap (λ n. 2 ^ (d - s - b) * n) (pow-add 2 b s) in
    ap (λ n. n - 1 - mask b * 2 ^ s) all
    ∙ products (2 ^ (d - s - b) - 1) (2 ^ b - 1) (2 ^ s - 1) (2 ^ (d - s - b)) (2 ^ b) (2 ^ s) (omega (arith, pow_pos (d - s - b))) (omega (arith, pow_pos b)) (omega (arith, pow_pos s))

pub cleared : (w d s b c : ℕ) → s + b ≤ d → w < 2 ^ d → c < 2 ^ b → bit_or (bit_and w (keep d s b)) (c * 2 ^ s) ≡ put w s b c
unfolding put
cleared w d s b c h k j =
    let high = w / 2 ^ s / 2 ^ b in
    let low = w % 2 ^ s in
    let fits : low < 2 ^ s = mod_below w (2 ^ s) (pow_pos s) in
    let field : w / 2 ^ s % 2 ^ b < 2 ^ b = mod_below (w / 2 ^ s) (2 ^ b) (pow_pos b) in
    let ones : 2 ^ s - 1 < 2 ^ s = omega (arith, pow_pos s) in
    let parts : w ≡ (high * 2 ^ b + w / 2 ^ s % 2 ^ b) * 2 ^ s + low =
    sym (div-add-mod' w (2 ^ s)) ∙ ap (λ n. n * 2 ^ s + low) (sym (div-add-mod' (w / 2 ^ s) (2 ^ b))) in
    let small : high % 2 ^ (d - s - b) ≡ high = mod-eq_of_lt (high_below w d s b h k) in
    let short : low % 2 ^ s ≡ low = mod-eq_of_lt fits in
    let cut : bit_and w (keep d s b) ≡ (high * 2 ^ b + 0) * 2 ^ s + low =
    ap (λ n. bit_and n (keep d s b)) parts ∙ ap (λ n. bit_and ((high * 2 ^ b + w / 2 ^ s % 2 ^ b) * 2 ^ s + low) n) (keep_is d s b h)
    ∙ and_block s (high * 2 ^ b + w / 2 ^ s % 2 ^ b) ((2 ^ (d - s - b) - 1) * 2 ^ b + 0) low (2 ^ s - 1) fits ones
    ∙ ap (λ n. n * 2 ^ s + bit_and low (2 ^ s - 1)) (and_block b high (2 ^ (d - s - b) - 1) (w / 2 ^ s % 2 ^ b) 0 field (pow_pos b))
    ∙ ap (λ n. (n * 2 ^ b + bit_and (w / 2 ^ s % 2 ^ b) 0) * 2 ^ s + bit_and low (2 ^ s - 1)) (and_mask high (d - s - b) ∙ small)
    ∙ ap (λ n. (high * 2 ^ b + n) * 2 ^ s + bit_and low (2 ^ s - 1)) (and_zero_r (w / 2 ^ s % 2 ^ b))
    ∙ ap (λ n. (high * 2 ^ b + 0) * 2 ^ s + n) (and_mask low s ∙ short) in
    let code : c * 2 ^ s ≡ (0 * 2 ^ b + c) * 2 ^ s + 0 = omega arith in
    ap (λ n. bit_or n (c * 2 ^ s)) cut ∙ ap (λ n. bit_or ((high * 2 ^ b + 0) * 2 ^ s + low) n) code
    ∙ or_block s (high * 2 ^ b + 0) (0 * 2 ^ b + c) low 0 fits (pow_pos s)
    ∙ ap (λ n. n * 2 ^ s + bit_or low 0) (or_block b high 0 0 c (pow_pos b) j)
    ∙ ap (λ n. (n * 2 ^ b + bit_or 0 c) * 2 ^ s + bit_or low 0) (or_zero_r high)
    ∙ ap (λ n. (high * 2 ^ b + n) * 2 ^ s + bit_or low 0) (or_zero_l c)
    ∙ ap (λ n. (high * 2 ^ b + c) * 2 ^ s + n) (or_zero_r low)

pub masked : (w s b : ℕ) → bit_and (w / 2 ^ s) (mask b) ≡ field w s b
unfolding field
masked w s b = and_mask (w / 2 ^ s) b

-- a code that stands alone in its word
pub field_alone : (s b c : ℕ) → c < 2 ^ b → field (c * 2 ^ s) s b ≡ c
unfolding field
field_alone s b c h = ap (λ n. n % 2 ^ b) (shl-shr c s) ∙ mod-eq_of_lt h
