-- Objects take no less than their sizes together; by alignment descending they take just that.
use Rattle.std.proofs.Common.{◌≡◌, ◌≤◌, ◌+◌, ◌%◌, ℕ, List, [], ◌∷◌, fold, refl, ap, sym, ◌∙◌, subst, arith, inl, inr}
use Rattle.cc_syntax.specs.declared.sizes.Layout.{Layout}
use Rattle.cc_syntax.specs.Layout.{IsAlign, aligned, end_behind}
use Rattle.cc_syntax.proofs.Alignment.{aligned_low, aligned_least}
use Rattle.cc_rewrite_ram.specs.Descending.{sizes, AreWhole, Descend}

pub at_least : (objects : List Layout) (n : ℕ) → AreWhole objects → n + sizes objects ≤ fold end_behind n objects
at_least [] n h = omega arith
at_least (object ∷ objects) n h =
    let low = aligned_low object.align n h.0 in
    let rest = at_least objects (end_behind n object) h.2 in
    omega (arith, low, rest)

-- a place that an alignment divides is kept
pub aligned_there : (a n : ℕ) → IsAlign a → n % a ≡ 0 → aligned a n ≡ n
aligned_there a n h e = let low = aligned_low a n h in let high = aligned_least a n n h (omega arith) e in omega (arith, low, high)

-- of alignments the smaller divides the greater
smaller_by : (m : ℕ) (b : ℕ) → IsAlign b → (a : ℕ) → IsAlign a → b ≤ a → m % a ≡ 0 → m % b ≡ 0
smaller_by m b (inl e) a h k d = subst (λ (x : ℕ). m % x ≡ 0) (sym e) (omega arith)
smaller_by m b (inr (inl e)) a (inl f) k d = absurd (omega (arith, e, f, k))
smaller_by m b (inr (inl e)) a (inr (inl f)) k d = subst (λ (x : ℕ). m % x ≡ 0) (f ∙ sym e) d
smaller_by m b (inr (inl e)) a (inr (inr f)) k d = subst (λ (x : ℕ). m % x ≡ 0) (sym e) (let g : m % 4 ≡ 0 = subst (λ (x : ℕ). m % x ≡ 0) f d in omega (arith, g))
smaller_by m b (inr (inr e)) a (inl f) k d = absurd (omega (arith, e, f, k))
smaller_by m b (inr (inr e)) a (inr (inl f)) k d = absurd (omega (arith, e, f, k))
smaller_by m b (inr (inr e)) a (inr (inr f)) k d = subst (λ (x : ℕ). m % x ≡ 0) (f ∙ sym e) d

sum_by : (n size a : ℕ) → IsAlign a → n % a ≡ 0 → size % a ≡ 0 → (n + size) % a ≡ 0
sum_by n size a (inl e) h k = subst (λ (x : ℕ). (n + size) % x ≡ 0) (sym e) (omega arith)
sum_by n size a (inr (inl e)) h k = subst (λ (x : ℕ). (n + size) % x ≡ 0) (sym e) (let f = subst (λ (x : ℕ). n % x ≡ 0) e h in let g = subst (λ (x : ℕ). size % x ≡ 0) e k in omega (arith, f, g))
sum_by n size a (inr (inr e)) h k = subst (λ (x : ℕ). (n + size) % x ≡ 0) (sym e) (let f = subst (λ (x : ℕ). n % x ≡ 0) e h in let g = subst (λ (x : ℕ). size % x ≡ 0) e k in omega (arith, f, g))

pub just : (objects : List Layout) (n most : ℕ) → IsAlign most → n % most ≡ 0 → AreWhole objects → Descend most objects → fold end_behind n objects ≡ n + sizes objects
just [] n most a d h k = omega arith
just (object ∷ objects) n most a d h k =
    let divides = smaller_by n object.align h.0 most a k.0 d in
    let there = aligned_there object.align n h.0 divides in
    let e : end_behind n object ≡ n + object.size = ap (λ m. m + object.size) there in
    let rest = just objects (n + object.size) object.align h.0 (sum_by n object.size object.align h.0 divides h.1) h.2 k.1 in
    ap (λ m. fold end_behind m objects) e ∙ rest ∙ omega arith

-- so whatever the order of others that take as much, these take no more
pub no_more : (these those : List Layout) → AreWhole these → AreWhole those → Descend 4 these → sizes these ≤ sizes those → fold end_behind 0 these ≤ fold end_behind 0 those
no_more these those h k d e =
    let a = just these 0 4 (inr (inr refl)) refl h d in
    let b = at_least those 0 k in
    omega (arith, a, b, e)
