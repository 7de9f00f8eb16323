-- What stays while code runs.
use Rattle.std.proofs.Common.{◌≡◌, ◌≤◌, ℕ, Bool, true, false, ◌||◌, refl, ◌∙◌, arith}
use Rattle.cc_lower_expressions_follows.specs.Trees.{Regs, Setting}
use Rattle.cc_states.specs.CcSyntax.Effects.{Registers, also}
use Rattle.cc_lower_expressions_follows.specs.Relation.{Kept, Stays, Holds}

first_false : (a b : Bool) → (a || b) ≡ false → a ≡ false
first_false true b e = cc
first_false false b e = refl

second_false : (a b : Bool) → (a || b) ≡ false → b ≡ false
second_false true b e = cc
second_false false b e = e

module _ (w : Setting) where
  pub kept_none : (assigned : Registers) (k : ℕ) (s : Regs) → Kept w assigned k s s
  kept_none assigned k s = record { regs = λ i h e. refl; temps = λ i h l. refl }

  pub kept_then : (a b : Registers) (k j : ℕ) (s t u : Regs) → k ≤ j → Kept w a k s t → Kept w b j t u → Kept w (also a b) k s u
  kept_then a b k j s t u le x y = record {
    regs = λ i h e. x.regs i h (first_false (a i) (b i) e) ∙ y.regs i h (second_false (a i) (b i) e);
    temps = λ i h l. x.temps i h l ∙ y.temps i h (omega arith);
  }

  pub stays_back : (b later : Registers) (from to k : ℕ) (s t u : Regs) → w.base ≤ from → to ≤ k → Kept w b k s t → Stays w later from to t u → Stays w (also b later) from to s u
  stays_back b later from to k s t u above le x y = record {
    regs = λ i h e. x.regs i h (first_false (b i) (later i) e) ∙ y.regs i h (second_false (b i) (later i) e);
    temps = λ i h l. x.temps i (omega arith) (omega arith) ∙ y.temps i h l;
  }

  -- what holds of an operand still holds behind a later one
  pub holds_then : (b later : Registers) (from to k : ℕ) (G : Regs → Type 0) (s t : Regs) → w.base ≤ from → to ≤ k → Kept w b k s t → Holds w (also b later) from to G s → Holds w later from to G t
  holds_then b later from to k G s t above le x h u y = h u (stays_back b later from to k s t u above le x y)

  pub holds_in : (later : Registers) (from to from' to' : ℕ) (G : Regs → Type 0) (s : Regs) → from' ≤ from → to ≤ to' → Holds w later from to G s → Holds w later from' to' G s
  holds_in later from to from' to' G s le ge h u y = h u (record { regs = y.regs; temps = λ i a b. y.temps i (omega arith) (omega arith) })

  pub holds_now : (later : Registers) (from to : ℕ) (G : Regs → Type 0) (s : Regs) → Holds w later from to G s → G s
  holds_now later from to G s h = h s (record { regs = λ i a b. refl; temps = λ i a b. refl })
