-- What is drawn one counter after another.
use Rattle.std.proofs.Common.{◌≡◌, ◌≤◌, ◌<◌, ◌+◌, ◌-◌, ◌^◌, ◌++◌, ℕ, zero, suc, List, [], ◌∷◌, length, refl, ap, sym, ◌∙◌, arith, append_assoc, All}
use Rattle.std.proofs.lemmas.List.{append-nil}
use Rattle.std.proofs.lemmas.List.Elements.{All-nil, All-cons}
use Rattle.cc_make.specs.declared.counters.Counter.{Counter}
use Rattle.cc_make.specs.Draws.{next, drawn, counter_of, counters_from}

abbrev counter_at : ℕ → Counter
counter_at state = counter_of (drawn (next state)) (drawn (next (next state)))

opens : (n state : ℕ) → counters_from (suc n) state ≡ counter_at state ∷ counters_from n (next (next state))
unfolding counters_from
opens n state = refl

none : (state : ℕ) → counters_from 0 state ≡ []
unfolding counters_from
none state = refl

-- the counters so far, with those that are to be drawn, are all
pub record Drawn (count start i state : ℕ) (made : List Counter) : Type 0 where
  pub all : made ++ counters_from (count - i) state ≡ counters_from count start
  pub small : state < 2 ^ 31

pub drawn_none : (count start : ℕ) → start < 2 ^ 31 → Drawn count start 0 start []
drawn_none count start h = record { all = (let e : count - 0 ≡ count = omega arith in ap (λ n. counters_from n start) e); small = h }

pub drawn_more : (count start i state : ℕ) (made : List Counter) → i < count → Drawn count start i state made → (more : List Counter) → more ≡ made ++ counter_at state ∷ []
    → (last : ℕ) → last ≡ next (next state) → last < 2 ^ 31 → Drawn count start (i + 1) last more
drawn_more count start i state made l h more p last q s = record {
  all =
      let e : count - i ≡ suc (count - (i + 1)) = omega arith in
      let o = ap (λ n. made ++ counters_from n state) e ∙ ap (λ (cs : List Counter). made ++ cs) (opens (count - (i + 1)) state) in
      ap (λ (cs : List Counter). cs ++ counters_from (count - (i + 1)) last) p
      ∙ append_assoc made (counter_at state ∷ []) (counters_from (count - (i + 1)) last)
      ∙ ap (λ n. made ++ (counter_at state ∷ counters_from (count - (i + 1)) n)) q ∙ sym o ∙ h.all;
  small = s;
}

pub drawn_all : (count start i state : ℕ) (made : List Counter) → count ≤ i → Drawn count start i state made → made ≡ counters_from count start
drawn_all count start i state made l h =
    let e : count - i ≡ 0 = omega arith in
    sym (append-nil made) ∙ ap (λ (cs : List Counter). made ++ cs) (sym (ap (λ n. counters_from n state) e ∙ none state)) ∙ h.all

pub length-counters : (count state : ℕ) → length (counters_from count state) ≡ count
unfolding counters_from
length-counters zero state = refl
length-counters (suc count) state = ap suc (length-counters count (next (next state)))

abbrev Within : Counter → Type 0
Within counter = (1 ≤ counter.limit) × (counter.limit ≤ 30)

pub all_within : (count state : ℕ) → All Within (counters_from count state)
unfolding counters_from
all_within zero state = All-nil Within
all_within (suc count) state = All-cons Within (counter_at state) (counters_from count (next (next state))) (omega arith, omega arith) (all_within count (next (next state)))
