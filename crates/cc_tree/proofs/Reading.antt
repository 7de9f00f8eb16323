-- What the machine reads, told of sentences.
use Rattle.std.proofs.Common.{◌≡◌, ◌≤◌, ◌<◌, ◌+◌, ℕ, zero, suc, None, Ok, arith, ◌⊎◌, inl, inr}
use Rattle.cc_tree.specs.declared.state.Control.TheVariants as control
use Rattle.cc_tree.specs.declared.state.Tall.{Tall}
use Rattle.cc_tree.specs.declared.unit.Unit.{Unit as UnitTree}
use Rattle.cc_tree.specs.Depth.{depth}
use Rattle.cc_tree.specs.Height.{unit_height}
use Rattle.cc_tree.specs.Machine.{State, Leads, start, turn, height_of}
use Rattle.cc_tree.specs.Outside.{first_outside}
use Rattle.cc_tree.specs.Sentences.{IsSentence}
use Rattle.cc_tree.specs.Tokens.{Tokens}
use Rattle.cc_tree.proofs.Reach.{not_deeper}
use Rattle.cc_tree.proofs.Sound.{sound}

pub read_sound : (limit : ℕ) (ts : Tokens) (s : State) (u : Tall UnitTree) → first_outside ts ≡ None → Leads limit (start ts) s → s.control ≡ control.Done u → IsSentence ts u.node × (u.height ≡ unit_height u.node)
read_sound limit ts s u e h k = (record { inside = e; after = s.scope; items = (sound ts u h k).0 }, (sound ts u h k).1)

raised : (a b : ℕ) → (a ≤ b) ⊎ (b < a) → (suc a ≤ suc b) ⊎ (suc b < suc a)
raised a b (inl h) = inl (omega arith)
raised a b (inr h) = inr (omega arith)

low_or_high : (a b : ℕ) → (a ≤ b) ⊎ (b < a)
low_or_high zero b = inl (omega arith)
low_or_high (suc a) zero = inr (omega arith)
low_or_high (suc a) (suc b) = raised a b (low_or_high a b)

pub read_low : (limit : ℕ) (ts : Tokens) (s t : State) (u : UnitTree) → Leads limit (start ts) s → turn s ≡ Ok t → IsSentence ts u → unit_height u ≤ limit → depth t.frames + height_of t.control ≤ limit
read_low limit ts s t u h k x low = either (low_or_high (depth t.frames + height_of t.control) limit)
  where
    either : (depth t.frames + height_of t.control ≤ limit) ⊎ (limit < depth t.frames + height_of t.control) → depth t.frames + height_of t.control ≤ limit
    either (inl a) = a
    either (inr b) = absurd (not_deeper limit s t u x.after ts h k b x.items low)
