-- Elements of lists that are joined, repeated, taken and written.
use Rattle.std.proofs.Common.{arith, ◌≡◌, ◌<◌, ◌+◌, ◌*◌, ℕ, zero, suc, false, List, [], ◌∷◌, ◌++◌, length, length-append, take, replicate, Some, slice_get, refl, ap, sym, ◌∙◌, subst}
use Rattle.std.proofs.lemmas.Bool.{eq-eqb}
use Rattle.std.proofs.lemmas.Option.{same_Some}
use Rattle.std.specs.Prelude.{◌==◌}
use Rattle.std.specs.List.{flat_map}
use Rattle.cc_program.specs.declared.types.CType.{CType}
use Rattle.cc_program.specs.declared.types.Shape.{Shape}
use Rattle.cc_program.specs.declared.types.Shape.TheOpen as shape
use Rattle.cc_program.specs.declared.types.Sig.{Sig}
use Rattle.cc_program.specs.declared.value.Value.{Value}
use Rattle.cc_steps.specs.CcSyntax.Types.{Named}

pub get_before : {A : Type 0} → (xs ys : List A) (k : ℕ) → k < length xs → slice_get (xs ++ ys) k ≡ slice_get xs k
get_before [] ys k h = absurd (omega (arith, h))
get_before (x ∷ xs) ys zero h = refl
get_before (x ∷ xs) ys (suc k) h = get_before xs ys k (omega (arith, h))

pub get_after : {A : Type 0} → (xs ys : List A) (k n : ℕ) → n ≡ length xs + k → slice_get (xs ++ ys) n ≡ slice_get ys k
get_after [] ys k n e = ap (slice_get ys) (e ∙ omega arith)
get_after (x ∷ xs) ys k zero e = absurd (omega (arith, e))
get_after (x ∷ xs) ys k (suc n) e = get_after xs ys k n (omega (arith, e))

pub one_more : (n a : ℕ) → suc n * a ≡ a + n * a
one_more n a = grind arith

pub get_repeat : (xs : List Value) (n i q : ℕ) → i < n → q < length xs → slice_get (flat_map (λ zs. zs) (replicate n xs)) (i * length xs + q) ≡ slice_get xs q
get_repeat xs zero i q h k = absurd (omega (arith, h))
get_repeat xs (suc n) zero q h k =
    let e : zero * length xs + q ≡ q = omega arith in
    ap (slice_get (xs ++ flat_map (λ zs. zs) (replicate n xs))) e ∙ get_before xs (flat_map (λ zs. zs) (replicate n xs)) q k
get_repeat xs (suc n) (suc i) q h k =
    let e = one_more i (length xs) in
    get_after xs (flat_map (λ zs. zs) (replicate n xs)) (i * length xs + q) (suc i * length xs + q) (omega (arith, e)) ∙ get_repeat xs n i q (omega (arith, h)) k

pub get_member : (f : Named → List Value) (ms : List Named) (m q : ℕ) (n : Named) → slice_get ms m ≡ Some n → q < length (f n) → slice_get (flat_map f ms) (length (flat_map f (take m ms)) + q) ≡ slice_get (f n) q
get_member f [] m q n h k = absurd (cc)
get_member f (x ∷ ms) zero q n h k =
    let same : x ≡ n = same_Some x n h in
    let e : 0 + q ≡ q = omega arith in
    ap (slice_get (f x ++ flat_map f ms)) e ∙ get_before (f x) (flat_map f ms) q (subst (λ (y : Named). q < length (f y)) (sym same) k) ∙ ap (λ (y : Named). slice_get (f y) q) same
get_member f (x ∷ ms) (suc m) q n h k =
    let l = length-append (f x) (flat_map f (take m ms)) in
    get_after (f x) (flat_map f ms) (length (flat_map f (take m ms)) + q) (length (f x ++ flat_map f (take m ms)) + q) (omega (arith, l)) ∙ get_member f ms m q n h k

pub row_same : (l i j x y : ℕ) → i * l + x ≡ j * l + y → x < l → y < l → (i ≡ j) × (x ≡ y)
row_same l zero zero x y e h k = (refl, omega (arith, e))
row_same l zero (suc j) x y e h k = let o = one_more j l in absurd (omega (arith, e, o, h))
row_same l (suc i) zero x y e h k = let o = one_more i l in absurd (omega (arith, e, o, k))
row_same l (suc i) (suc j) x y e h k =
    let o = one_more i l in
    let q = one_more j l in
    let r = row_same l i j x y (omega (arith, e, o, q)) h k in
    (ap suc r.0, r.1)

pub member_same : (f : Named → List Value) (ms : List Named) (m k x y : ℕ) (n o : Named) → slice_get ms m ≡ Some n → slice_get ms k ≡ Some o → x < length (f n) → y < length (f o) →
    length (flat_map f (take m ms)) + x ≡ length (flat_map f (take k ms)) + y → (m ≡ k) × (x ≡ y)
member_same f [] m k x y n o g h i j e = absurd (cc)
member_same f (z ∷ ms) zero zero x y n o g h i j e = (refl, omega (arith, e))
member_same f (z ∷ ms) zero (suc k) x y n o g h i j e =
    let l = length-append (f z) (flat_map f (take k ms)) in
    let b : x < length (f z) = subst (λ (a : Named). x < length (f a)) (sym (same_Some z n g)) i in
    absurd (omega (arith, e, l, b))
member_same f (z ∷ ms) (suc m) zero x y n o g h i j e =
    let l = length-append (f z) (flat_map f (take m ms)) in
    let b : y < length (f z) = subst (λ (a : Named). y < length (f a)) (sym (same_Some z o h)) j in
    absurd (omega (arith, e, l, b))
member_same f (z ∷ ms) (suc m) (suc k) x y n o g h i j e =
    let l = length-append (f z) (flat_map f (take m ms)) in
    let q = length-append (f z) (flat_map f (take k ms)) in
    let r = member_same f ms m k x y n o g h i j (omega (arith, e, l, q)) in
    (ap suc r.0, r.1)

pub same_struct : (i j : ℕ) (x : shape.Shape-F Shape CType Sig) → x ≡ shape.Struct i → x ≡ shape.Struct j → i ≡ j
same_struct i j x h k = cc

pub not_equal : (k j : ℕ) → k ≡ j → (k == j) ≡ false → ⊥
not_equal k j e h = let f = eq-eqb k j e in absurd (cc)
