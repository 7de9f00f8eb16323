-- Slots that may be placed, one after another.
use Rattle.std.proofs.Common.{◌≡◌, ◌≢◌, ◌<◌, ◌+◌, ◌++◌, ◌==◌, ◌||◌, ℕ, zero, suc, Bool, true, false, List, [], ◌∷◌, length, get_or, arith, All}
use Rattle.std.specs.List.{list_any}
use Rattle.std.proofs.lemmas.Bool.Decides.{nat_tests}
use Rattle.std.proofs.lemmas.List.Elements.{All-nil, All-push, All-weaker}
use Rattle.std.proofs.lemmas.List.Quantifiers.{all_pairs_push}
use Rattle.cc_bins.specs.declared.types.Want.{Want}
use Rattle.cases_leaves.specs.Wants.{IsSmall, ArePlaceable}

abbrev Apart : Want → Want → Type 0
Apart x y = x.slot ≢ y.slot

pub placeable_none : ArePlaceable []
placeable_none = record { small = All-nil IsSmall; apart = λ i j d l k. absurd (omega arith) }

pub placeable_push : (wants : List Want) (x : Want) → IsSmall x → ((k : ℕ) (d : Want) → k < length wants → (get_or wants k d).slot ≢ x.slot) → ArePlaceable wants → ArePlaceable (wants ++ x ∷ [])
placeable_push wants x s far h = record { small = All-push IsSmall wants x h.small s; apart = all_pairs_push Apart wants x h.apart far }

-- where a search finds no slot of a number, none has it
pub none_found : (slot : ℕ) (wants : List Want) → list_any (λ want. want.slot == slot) wants ≡ false → (k : ℕ) (d : Want) → k < length wants → (get_or wants k d).slot ≢ slot
none_found slot [] e k d l = absurd (omega arith)
none_found slot (x ∷ wants) e zero d l = here (x.slot) (list_any (λ want. want.slot == slot) wants) e
  where
    here : (n : ℕ) (rest : Bool) → ((n == slot) || rest) ≡ false → n ≢ slot
    here n rest e = λ s. grind (arith, nat_tests)
none_found slot (x ∷ wants) e (suc k) d l = none_found slot wants (later (x.slot == slot) (list_any (λ want. want.slot == slot) wants) e) k d (omega arith)
  where
    later : (b rest : Bool) → (b || rest) ≡ false → rest ≡ false
    later true rest e = absurd (cc)
    later false rest e = e

-- slots that are numbered as they come
pub record Numbered (wants : List Want) (i : ℕ) : Type 0 where
  pub placeable : ArePlaceable wants
  pub below : All (λ x. x.slot < i) wants

pub numbered_none : Numbered [] 0
numbered_none = record { placeable = placeable_none; below = All-nil (λ (x : Want). x.slot < 0) }

pub numbered_more : (wants : List Want) (i : ℕ) (x : Want) → IsSmall x → x.slot ≡ i → Numbered wants i → Numbered (wants ++ x ∷ []) (i + 1)
numbered_more wants i x s e h = record {
  placeable = placeable_push wants x s (λ k d l f. let b = h.below k d l in omega (arith, b, e, f)) h.placeable;
  below = All-push (λ (y : Want). y.slot < i + 1) wants x (All-weaker (λ (y : Want). y.slot < i) (λ y. y.slot < i + 1) (λ y k. omega arith) wants h.below) (omega (arith, e));
}
