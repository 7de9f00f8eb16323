-- No two locals of a function get one number.
use Rattle.std.proofs.Common.{◌≡◌, ◌≢◌, ◌∙◌, ◌<◌, ◌≤◌, ◌+◌, ◌-◌, ◌⊎◌, ◌==◌, inl, inr, ℕ, true, false, List, [], length, slice_get, ap, sym, subst, arith}
use Rattle.std.specs.Prelude.{nat_eq}
use Rattle.std.proofs.lemmas.Bool.{true≢false, cases_Bool, eq-eqb, ne_eqb}
use Rattle.std.proofs.lemmas.Bool.Decides.{eqb_tells}
use Rattle.std.proofs.lemmas.Option.{same_Some, slice_get_within}
use Rattle.cc_program.specs.declared.func.Func.{Func}
use Rattle.cc_lower_numbers.specs.Order.{ordered, place_in}
use Rattle.cc_lower_numbers.specs.Temporaries.{kept_count, temporaries, written_in}
use Rattle.cc_lower_numbers_sound.proofs.Locals.{kept_few}
use Rattle.cc_lower_numbers_sound.proofs.Orders.{has, ordered-has, ordered-few, place-there, place-absent}

module _ (first end : ℕ) (text : List ℕ) (l : first ≤ end) where
  abbrev order : List ℕ
  order = ordered first end text

  abbrev place : ℕ → ℕ
  place i = place_in first (ordered first end text) i

  within : (i : ℕ) → has i order ≡ true → (first ≤ place i) × (place i < end)
  within i h =
      let s = place-there first order i h in
      by (place i) s.behind (length order) s.is (slice_get_within order s.behind i s.there) (ordered-few first end text l) l
    where
      by : (at behind few : ℕ) → at ≡ first + behind → behind < few → few ≤ end - first → first ≤ end → (first ≤ at) × (at < end)
      by at behind few e b f g = (omega arith, omega arith)

  both-there : (i j : ℕ) → has i order ≡ true → has j order ≡ true → place i ≡ place j → i ≡ j
  both-there i j h k e =
      let s = place-there first order i h in
      let t = place-there first order j k in
      same_Some i j (sym s.there ∙ ap (slice_get order) (same (place i) (place j) s.behind t.behind s.is t.is e) ∙ t.there)
    where
      same : (p q a b : ℕ) → p ≡ first + a → q ≡ first + b → p ≡ q → a ≡ b
      same p q a b s t e = omega arith

  one-there : (i j : ℕ) → has i order ≡ true → has j order ≡ false → place i ≡ place j → ⊥
  one-there i j h k e =
      let w = within i h in
      let same : place i ≡ j = e ∙ place-absent first order j k in
      let above : first ≤ j = subst (λ (n : ℕ). first ≤ n) same w.0 in
      let below : j < end = subst (λ (n : ℕ). n < end) same w.1 in true≢false (sym (ordered-has first end text j above below) ∙ k)

  pub apart : (i j : ℕ) → place i ≡ place j → i ≡ j
  apart i j e = by (cases_Bool (has i order)) (cases_Bool (has j order))
    where
      by : (has i order ≡ true) ⊎ (has i order ≡ false) → (has j order ≡ true) ⊎ (has j order ≡ false) → i ≡ j
      by (inl h) (inl k) = both-there i j h k e
      by (inl h) (inr k) = absurd (one-there i j h k e)
      by (inr h) (inl k) = absurd (one-there j i k h (sym e))
      by (inr h) (inr k) = sym (place-absent first order i h) ∙ e ∙ place-absent first order j k

pub same_number : (f : Func) (i j : ℕ) → (place_in (kept_count f) (temporaries f) i == place_in (kept_count f) (temporaries f) j) ≡ (i == j)
same_number f i j = by (eqb_tells i j)
  where
    at : ℕ → ℕ
    at n = place_in (kept_count f) (temporaries f) n

    by : ((nat_eq i j ≡ true) × (i ≡ j)) ⊎ ((nat_eq i j ≡ false) × (i ≢ j)) → nat_eq (at i) (at j) ≡ nat_eq i j
    by (inl (t, e)) = eq-eqb (at i) (at j) (ap at e) ∙ sym t
    by (inr (g, n)) = ne_eqb (at i) (at j) (λ e. n (apart (kept_count f) (length f.locals) (written_in f.body) (kept_few [] f) i j e)) ∙ sym g
