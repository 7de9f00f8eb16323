-- Objects that lie in order, each at its alignment behind the one before, lie as low as they can.
use Rattle.std.proofs.Common.{arith, ◌≤◌, ◌+◌, ℕ, suc, List, [], ◌∷◌}
use Rattle.std.specs.List.{All}
use Rattle.cc_program.proofs.Each.{Each}
use Rattle.cc_syntax.specs.declared.sizes.Layout.{Layout}
use Rattle.cc_syntax.specs.Layout.{IsAlign, aligned, end_behind, places_from, ArePlaced, NoneAbove}
use Rattle.cc_syntax.proofs.Alignment.{aligned_low, aligned_multiple, aligned_least}

abbrev IsAligned : Layout → Type 0
IsAligned o = IsAlign o.align

pub each_from_all : {A : Type 0} → (P : A → Type 0) (xs : List A) → All P xs → Each P xs
each_from_all P [] all = tt
each_from_all P (x ∷ xs) all = (all 0 x (omega arith), each_from_all P xs (λ k d h. all (suc k) d (omega (arith, h))))

pub placed : (n : ℕ) (objects : List Layout) → Each IsAligned objects → ArePlaced n objects (places_from n objects)
placed n [] h = tt
placed n (o ∷ os) h = (aligned_low o.align n h.0, aligned_multiple o.align n h.0, placed (end_behind n o) os h.1)

lowest_from : (n m : ℕ) (objects : List Layout) (places : List ℕ) → n ≤ m → Each IsAligned objects → ArePlaced m objects places → NoneAbove (places_from n objects) places
lowest_from n m [] [] b h p = tt
lowest_from n m [] (q ∷ qs) b h p = p
lowest_from n m (o ∷ os) [] b h p = p
lowest_from n m (o ∷ os) (q ∷ qs) b h p =
    let low = p.0 in
    let first : aligned o.align n ≤ q = aligned_least o.align n q h.0 (omega (arith, b, low)) p.1 in
    (first, lowest_from (aligned o.align n + o.size) (q + o.size) os qs (omega (arith, first)) h.1 p.2)

pub lowest : (n : ℕ) (objects : List Layout) (places : List ℕ) → Each IsAligned objects → ArePlaced n objects places → NoneAbove (places_from n objects) places
lowest n objects places h p = lowest_from n n objects places (omega arith) h p
