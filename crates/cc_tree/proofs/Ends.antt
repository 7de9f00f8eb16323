-- A machine's runs from one state: those that end without a turn end in the same state.
use Rattle.std.proofs.Common.{◌≡◌, ◌≤◌, ◌<◌, ℕ, Result, Ok, Err, refl, subst, arith}
use Rattle.cc_tree.specs.declared.stop.Stop.{Stop}
use Rattle.cc_tree.specs.Machine.{State, turn, height_of, Leads, Here, There}

-- a state has one turn at most
same_turn : (r : Result State Stop) (s t : State) → r ≡ Ok s → r ≡ Ok t → s ≡ t
same_turn r s t h k = cc

goes_or_ends : (r : Result State Stop) (t : State) (e : Stop) → r ≡ Ok t → r ≡ Err e → ⊥
goes_or_ends r t e h k = cc

other_run : (limit : ℕ) (s t u b : State) → turn s ≡ Ok t → turn s ≡ Ok u → Leads limit u b → Leads limit t b
other_run limit s t u b h k r = subst (λ (x : State). Leads limit x b) (same_turn (turn s) u t k h) r

-- runs that end, from one state: they end in the same state, whatever their limits
pub meet : (limit other : ℕ) (s a b : State) (e f : Stop) → Leads limit s a → turn a ≡ Err e → Leads other s b → turn b ≡ Err f → a ≡ b
meet limit other s a b e f (Here _) h (Here _) k = refl
meet limit other s a b e f (Here _) h (There _ t _ d l r) k = absurd (goes_or_ends (turn s) t e d h)
meet limit other s a b e f (There _ t _ d l r) h (Here _) k = absurd (goes_or_ends (turn s) t f d k)
meet limit other s a b e f (There _ t _ d l r) h (There _ u _ g m q) k = meet limit other t a b e f r h (other_run other s t u b d g q) k

-- from where one run has come, another that ends goes on
pub through : (limit other : ℕ) (s a t b : State) (f : Stop) → Leads other s a → turn a ≡ Ok t → Leads limit s b → turn b ≡ Err f → Leads limit t b
through limit other s a t b f (Here _) h (Here _) n = absurd (goes_or_ends (turn s) t f h n)
through limit other s a t b f (Here _) h (There _ u _ g m q) n = other_run limit s t u b h g q
through limit other s a t b f (There _ v _ d l r) h (Here _) n = absurd (goes_or_ends (turn s) v f d n)
through limit other s a t b f (There _ v _ d l r) h (There _ u _ g m q) n = through limit other v a t b f r h (other_run limit s v u b d g q) n
