-- The first points of lists, as far as a loop has come.
use Rattle.std.proofs.Common.{◌≡◌, ◌<◌, ◌≤◌, ◌+◌, ℕ, List, ◌++◌, length, drop, get_or, sum, refl, ap, sym, ◌∙◌, append_assoc, arith}
use Rattle.std.proofs.Math.ListN.{drop_of_length-le}
use Rattle.std.proofs.lemmas.List.{append-nil}
use Rattle.std.proofs.lemmas.List.Sums.{sum_by-cons}
use Rattle.cc_flow.specs.Next.{head, heads}
use Rattle.cc_flow.proofs.Pieces.{drop_at}

-- those so far, and those that are to come, are all
pub record HeadsLeft (counts : List ℕ) (first : ℕ) (before : List ℕ) (i number : ℕ) (next : List ℕ) : Type 0 where
  pub left : next ++ heads number (drop i counts) ≡ before ++ heads first counts
  pub ends : number + sum (drop i counts) ≡ first + sum counts

pub heads_none : (counts : List ℕ) (first : ℕ) (before : List ℕ) → HeadsLeft counts first before 0 first before
heads_none counts first before = record { left = refl; ends = refl }

module _ (counts : List ℕ) (first : ℕ) (before : List ℕ) (i number : ℕ) (next : List ℕ) (count : ℕ) (h : i < length counts) (is : count ≡ get_or counts i count) (left : HeadsLeft counts first before i number next) where
  pub heads_room : number + count ≤ first + sum counts
  heads_room =
      let e = ap sum (drop_at counts i count h is) in
      let one = sum_by-cons (λ n. n) count (drop (i + 1) counts) in
      let ends = left.ends in
      omega (arith, e, one, ends)

  pub heads_more : (more : List ℕ) → more ≡ next ++ head number count → HeadsLeft counts first before (i + 1) (number + count) more
  heads_more more p = record {
    left =
        ap (λ (ns : List ℕ). ns ++ heads (number + count) (drop (i + 1) counts)) p
        ∙ append_assoc next (head number count) (heads (number + count) (drop (i + 1) counts))
        ∙ ap (λ ns. next ++ heads number ns) (sym (drop_at counts i count h is)) ∙ left.left;
    ends =
        let e = ap sum (drop_at counts i count h is) in
        let one = sum_by-cons (λ n. n) count (drop (i + 1) counts) in
        let ends = left.ends in
        omega (arith, e, one, ends);
  }

pub heads_all : (counts : List ℕ) (first : ℕ) (before : List ℕ) (i number : ℕ) (next : List ℕ) → length counts ≤ i → HeadsLeft counts first before i number next → next ≡ before ++ heads first counts
heads_all counts first before i number next h left =
    sym (append-nil next) ∙ ap (λ ns. next ++ heads number ns) (sym (drop_of_length-le counts {i = i} h)) ∙ left.left
