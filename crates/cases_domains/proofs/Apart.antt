-- Slots of which no two have one number, one after another.
use Rattle.std.proofs.Common.{◌≡◌, ◌≢◌, ◌<◌, ◌++◌, ◌==◌, ◌||◌, ℕ, zero, suc, Bool, true, false, List, [], ◌∷◌, length, get_or, arith}
use Rattle.std.specs.List.{list_any}
use Rattle.std.proofs.lemmas.Bool.Decides.{nat_tests}
use Rattle.std.proofs.lemmas.List.Quantifiers.{all_pairs_push}
use Rattle.cc_cost_ranking.specs.declared.types.Costed.{Costed}
use Rattle.cc_cost_ranking.specs.Ranking.{AreApart}

-- where a search finds no slot of a number, none has it
none_found : (slot : ℕ) (list : List Costed) → list_any (λ c. c.slot == slot) list ≡ false → (k : ℕ) (d : Costed) → k < length list → (get_or list k d).slot ≢ slot
none_found slot [] e k d l = absurd (omega arith)
none_found slot (x ∷ list) e zero d l = here (x.slot) (list_any (λ c. c.slot == slot) list) e
  where
    here : (n : ℕ) (rest : Bool) → ((n == slot) || rest) ≡ false → n ≢ slot
    here n rest e = λ s. grind (arith, nat_tests)
none_found slot (x ∷ list) e (suc k) d l = none_found slot list (later (x.slot == slot) (list_any (λ c. c.slot == slot) list) e) k d (omega arith)
  where
    later : (b rest : Bool) → (b || rest) ≡ false → rest ≡ false
    later true rest e = absurd (cc)
    later false rest e = e

pub apart_none : AreApart []
apart_none = λ i j d l k. absurd (omega arith)

pub apart_more : (list : List Costed) (x : Costed) → list_any (λ c. c.slot == x.slot) list ≡ false → AreApart list → AreApart (list ++ x ∷ [])
apart_more list x e h = all_pairs_push (λ (y z : Costed). y.slot ≢ z.slot) list x h (none_found x.slot list e)
