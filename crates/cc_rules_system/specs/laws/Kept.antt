-- Facts that a memory holds, with one thing as lesser ones have it, are held as well.
use Rattle.std.proofs.Common.{ℕ, zero, suc, List, [], ◌∷◌, All, Option, Some, None}
use Rattle.cc_rules_again.proofs.Kept.{kept, point_place, whole_place, result_place, reach_place, touch_place}
use Rattle.cc_rules_again.proofs.Picked.{mixed, picked}
use Rattle.cc_rules_again.specs.Things.{Thing}
use Rattle.cc_rules_grow.proofs.Elements.{Each, each_all, all_each}
use Rattle.cc_rules_asked.specs.CcStateFacts.declared.facts.Facts.{Facts}
use Rattle.cc_state_limits.specs.Held.{IsHeldSet, IsHeldKnown, AreHeld}
use Rattle.cc_state_room.specs.Small.{IsByte}

module _ {A : Type 0} (P : A → Type 0) where
  mixed_each : (n : ℕ) (ys xs : List A) → Each P ys → Each P xs → Each P (mixed n ys xs)
  mixed_each n [] xs h k = k
  mixed_each n (y ∷ ys) [] h k = k
  mixed_each zero (y ∷ ys) (x ∷ xs) h k = (h.0, k.1)
  mixed_each (suc n) (y ∷ ys) (x ∷ xs) h k = (k.0, mixed_each n ys xs h.1 k.1)

  picked_all : (o : Option ℕ) (ys xs : List A) → All P ys → All P xs → All P (picked o ys xs)
  picked_all None ys xs h k = k
  picked_all (Some n) ys xs h k = all_each P (mixed n ys xs) (mixed_each n ys xs (each_all P ys h) (each_all P xs k))

pub kept_held : {I : Type 0} (t : Thing) (f g : Facts I) → AreHeld f → AreHeld g → AreHeld (kept t f g)
kept_held {I} t f g h k = record {
  whole = picked_all IsHeldSet (whole_place t) f.whole g.whole h.whole k.whole;
  results = picked_all IsHeldSet (result_place t) f.results g.results h.results k.results;
  levels = record {
    levels = picked_all IsByte (reach_place t) f.levels g.levels h.levels.levels k.levels.levels;
    from = picked_all IsByte (reach_place t) f.from g.from h.levels.from k.levels.from;
    read_levels = picked_all IsByte (touch_place t) f.read_levels g.read_levels h.levels.read_levels k.levels.read_levels;
    write_levels = picked_all IsByte (touch_place t) f.write_levels g.write_levels h.levels.write_levels k.levels.write_levels;
  };
  at = picked_all IsHeldKnown (point_place t) f.at g.at h.at k.at;
}
