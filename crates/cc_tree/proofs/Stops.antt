-- A run within a limit ends in one way: it is refused at one place, or exceeds the limit at one.
use Rattle.std.proofs.Common.{◌≡◌, ◌∙◌, ◌≤◌, ◌<◌, ◌+◌, ℕ, Result, Ok, Err, length, refl, sym, ap, subst, arith}
use Rattle.cc_tree.specs.declared.stop.Stop.{Stop}
use Rattle.cc_tree.specs.declared.stop.Stop.TheVariants as stop
use Rattle.cc_tree.specs.Depth.{depth}
use Rattle.cc_tree.specs.Machine.{State, turn, start, height_of, whole_height, Leads, Here, There, LeadsWithin, Stays, Goes, Refuses, Exceeds}
use Rattle.cc_tree.specs.Tokens.{Tokens}
use Rattle.cc_tree.proofs.Ends.{meet}

-- what has just been read is no higher than that and what waits
pub leads-within : (limit : ℕ) (s t : State) → LeadsWithin limit s t → Leads limit s t
leads-within limit s t (Stays _) = Here s
leads-within limit s t (Goes _ u _ h low r) = There s u t h (omega (arith, low)) (leads-within limit u t r)

ok_same : (r : Result State Stop) (s t : State) → r ≡ Ok s → r ≡ Ok t → s ≡ t
ok_same r s t h k = cc

ok_or_err : (r : Result State Stop) (s : State) (e : Stop) → r ≡ Ok s → r ≡ Err e → ⊥
ok_or_err r s e h k = cc

wrong_same : (r : Result State Stop) (n m : ℕ) → r ≡ Err (stop.Wrong n) → r ≡ Err (stop.Wrong m) → n ≡ m
wrong_same r n m h k = cc

module _ (limit : ℕ) where
  other_run : (s t u b : State) → turn s ≡ Ok t → turn s ≡ Ok u → LeadsWithin limit u b → LeadsWithin limit t b
  other_run s t u b h k r = subst (λ (x : State). LeadsWithin limit x b) (ok_same (turn s) u t k h) r

  low_high : (s t u : State) → turn s ≡ Ok t → turn s ≡ Ok u → whole_height t ≤ limit → limit < whole_height u → ⊥
  low_high s t u h k low high =
      let same : whole_height t ≡ whole_height u = ap whole_height (ok_same (turn s) t u h k) in
      absurd (omega (arith, same, low, high))

  -- the first state that is higher is one
  exceed_once : (s a t b u : State) → LeadsWithin limit s a → turn a ≡ Ok t → limit < whole_height t → LeadsWithin limit s b → turn b ≡ Ok u → limit < whole_height u → a ≡ b
  exceed_once s a t b u (Stays _) h high (Stays _) k above = refl
  exceed_once s a t b u (Stays _) h high (Goes _ w _ g low q) k above = absurd (low_high s w t g h low high)
  exceed_once s a t b u (Goes _ v _ g low r) h high (Stays _) k above = absurd (low_high s v u g k low above)
  exceed_once s a t b u (Goes _ v _ g low r) h high (Goes _ w _ i lower q) k above = exceed_once v a t b u r h high (other_run s v w b g i q) k above

  -- and where there is one, no run within the limit is refused
  not_refused : (s a t b : State) (e : Stop) → LeadsWithin limit s a → turn a ≡ Ok t → limit < whole_height t → LeadsWithin limit s b → turn b ≡ Err e → ⊥
  not_refused s a t b e (Stays _) h high (Stays _) k = ok_or_err (turn s) t e h k
  not_refused s a t b e (Stays _) h high (Goes _ w _ g low q) k = low_high s w t g h low high
  not_refused s a t b e (Goes _ v _ g low r) h high (Stays _) k = ok_or_err (turn s) v e g k
  not_refused s a t b e (Goes _ v _ g low r) h high (Goes _ w _ i lower q) k = not_refused v a t b e r h high (other_run s v w b g i q) k

pub one_refusal : (limit : ℕ) (ts : Tokens) (n m : ℕ) → Refuses limit ts n → Refuses limit ts m → n ≡ m
one_refusal limit ts n m h k =
    let same = meet limit limit (start ts) h.last k.last (stop.Wrong n) (stop.Wrong m) (leads-within limit (start ts) h.last h.led) h.refused (leads-within limit (start ts) k.last k.led) k.refused in
    wrong_same (turn k.last) n m (subst (λ (s : State). turn s ≡ Err (stop.Wrong n)) same h.refused) k.refused

pub one_excess : (limit : ℕ) (ts : Tokens) (n m : ℕ) → Exceeds limit ts n → Exceeds limit ts m → n ≡ m
one_excess limit ts n m h k =
    let same = exceed_once limit (start ts) h.last h.next k.last k.next h.led h.turned h.high k.led k.turned k.high in
    h.ahead ∙ (ap (λ (s : State). length s.rest) same ∙ sym k.ahead)

pub refuses_or_exceeds : (limit : ℕ) (ts : Tokens) (n m : ℕ) → Refuses limit ts n → Exceeds limit ts m → ⊥
refuses_or_exceeds limit ts n m h k = not_refused limit (start ts) k.last k.next h.last (stop.Wrong n) k.led k.turned k.high h.led h.refused
