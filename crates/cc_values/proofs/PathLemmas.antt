-- Two paths side by side, as far as a loop has come.
use Rattle.std.proofs.Common.{arith, ◌≡◌, ◌≢◌, ◌<◌, ◌+◌, ℕ, zero, suc, Bool, true, false, ◌&&◌, ap, List, [], ◌∷◌, take, length, get_or, refl, add-one}
use Rattle.cc_program.specs.declared.value.Part.{Part}
use Rattle.cc_values.specs.Values.{same_part, same_path}

none_behind : (b c : Bool) → false ≡ c → false ≡ b && c
none_behind true c h = h
none_behind false c h = refl

both : (b c d : Bool) → b && c ≡ true → d ≡ true → b && d ≡ true
both true c d h k = k
both false c d h k = absurd (cc)

behind : (b c : Bool) → b && c ≡ true → c ≡ true
behind true c h = h
behind false c h = absurd (cc)

pub paths_apart : (p q : List Part) → length p ≢ length q → false ≡ same_path p q
paths_apart [] [] h = absurd (h refl)
paths_apart [] (y ∷ ys) h = refl
paths_apart (x ∷ xs) [] h = refl
paths_apart (x ∷ xs) (y ∷ ys) h = none_behind (same_part x y) (same_path xs ys) (paths_apart xs ys (λ k. h (ap suc k)))

pub paths_stop : (p q : List Part) (i : ℕ) (d e : Part) → i < length p → length p ≡ length q → same_part (get_or p i d) (get_or q i e) ≡ false → false ≡ same_path p q
paths_stop [] q i d e h l t = absurd (omega (arith, h))
paths_stop (x ∷ xs) [] i d e h l t = refl
paths_stop (x ∷ xs) (y ∷ ys) zero d e h l t = rw t refl
paths_stop (x ∷ xs) (y ∷ ys) (suc i) d e h l t = none_behind (same_part x y) (same_path xs ys) (paths_stop xs ys i d e (omega (arith, h)) (omega (arith, l)) t)

more : (p q : List Part) (i : ℕ) (d e : Part) → i < length p → length p ≡ length q → same_path (take i p) (take i q) ≡ true → same_part (get_or p i d) (get_or q i e) ≡ true →
    same_path (take (suc i) p) (take (suc i) q) ≡ true
more [] q i d e h l s t = absurd (omega (arith, h))
more (x ∷ xs) [] i d e h l s t = absurd (omega (arith, l))
more (x ∷ xs) (y ∷ ys) zero d e h l s t = rw t refl
more (x ∷ xs) (y ∷ ys) (suc i) d e h l s t =
    both (same_part x y) (same_path (take i xs) (take i ys)) (same_path (take (suc i) xs) (take (suc i) ys)) s
    (more xs ys i d e (omega (arith, h)) (omega (arith, l)) (behind (same_part x y) (same_path (take i xs) (take i ys)) s) t)

pub paths_more : (p q : List Part) (i : ℕ) (d e : Part) → i < length p → length p ≡ length q → same_path (take i p) (take i q) ≡ true → same_part (get_or p i d) (get_or q i e) ≡ true →
    same_path (take (i + 1) p) (take (i + 1) q) ≡ true
paths_more p q i d e h l s t = rw add-one (more p q i d e h l s t)

pub ruleset of_paths = (paths_apart, paths_stop, paths_more)
