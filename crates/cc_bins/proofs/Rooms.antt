-- The search for the first word with room, and what putting a slot into that word gives.
use Rattle.std.proofs.Common.{◌≡◌, ◌≤◌, ◌<◌, ◌+◌, ◌++◌, ◌==◌, ◌&&◌, ℕ, zero, suc, Bool, true, false, nat_le, List, [], ◌∷◌, length, get_or, set, refl, ap, sym, ◌∙◌, All, arith}
use Rattle.std.proofs.lemmas.Bool.Decides.{nat_tests}
use Rattle.std.proofs.lemmas.List.Elements.{All-head, All-tail}
use Rattle.cc_bins.specs.declared.types.Want.{Want}
use Rattle.cc_bins.specs.declared.open_words.Open.{Open}
use Rattle.cc_bins.specs.Placing.{has_room, with_slot, opened, put}
use Rattle.cc_bins.specs.Search.{first, room_at}

module _ (test : Open → Bool) where
  pub first_yes : (w : Open) (ws : List Open) → test w ≡ true → first test (w ∷ ws) ≡ 0
  first_yes w ws e = rw e refl

  pub first_no : (w : Open) (ws : List Open) → test w ≡ false → first test (w ∷ ws) ≡ suc (first test ws)
  first_no w ws e = rw e refl

  next_past : (w : Open) (ws : List Open) (i : ℕ) → (i ≤ first test ws → i + 1 ≤ first test ws) → suc i ≤ first test (w ∷ ws) → (b : Bool) → test w ≡ b → suc i + 1 ≤ first test (w ∷ ws)
  next_past w ws i more h true t = absurd (omega (arith, first_yes w ws t))
  next_past w ws i more h false t = let k = first_no w ws t in let m = more (omega arith) in omega arith

  -- a word that fails the test is passed, and one that passes it is the first at the latest
  pub goes_past : (ws : List Open) (i : ℕ) (w : Open) → i < length ws → w ≡ get_or ws i w → test w ≡ false → i ≤ first test ws → i + 1 ≤ first test ws
  goes_past [] i w l e f h = absurd (omega arith)
  goes_past (v ∷ ws) zero w l e f h = let n : test v ≡ false = ap test (sym e) ∙ f in omega (arith, first_no v ws n)
  goes_past (v ∷ ws) (suc i) w l e f h = next_past v ws i (λ k. goes_past ws i w (omega arith) e f k) h (test v) refl

  next_stop : (w : Open) (ws : List Open) (i : ℕ) → first test ws ≤ i → (b : Bool) → test w ≡ b → first test (w ∷ ws) ≤ suc i
  next_stop w ws i more true t = omega (arith, first_yes w ws t)
  next_stop w ws i more false t = omega (arith, first_no w ws t)

  pub stops_at : (ws : List Open) (i : ℕ) (w : Open) → i < length ws → w ≡ get_or ws i w → test w ≡ true → first test ws ≤ i
  stops_at [] i w l e f = absurd (omega arith)
  stops_at (v ∷ ws) zero w l e f = let n : test v ≡ true = ap test (sym e) ∙ f in omega (arith, first_yes v ws n)
  stops_at (v ∷ ws) (suc i) w l e f = next_stop v ws i (stops_at ws i w (omega arith) e f) (test v) refl

  next_within : (w : Open) (ws : List Open) → first test ws ≤ length ws → (b : Bool) → test w ≡ b → first test (w ∷ ws) ≤ suc (length ws)
  next_within w ws h true t = omega (arith, first_yes w ws t)
  next_within w ws h false t = omega (arith, first_no w ws t)

  pub first_within : (ws : List Open) → first test ws ≤ length ws
  first_within [] = omega arith
  first_within (w ∷ ws) = next_within w ws (first_within ws) (test w) refl

  -- where all fail it, the first is behind them
  pub first_none : (ws : List Open) → All (λ w. test w ≡ false) ws → first test ws ≡ length ws
  first_none [] h = refl
  first_none (w ∷ ws) h = first_no w ws (All-head (λ v. test v ≡ false) w ws h) ∙ ap suc (first_none ws (All-tail (λ v. test v ≡ false) w ws h))

-- a test that passes less passes later
module _ (p q : Open → Bool) (less : (w : Open) → q w ≡ true → p w ≡ true) where
  next_later : (w : Open) (ws : List Open) → first p ws ≤ first q ws → (b c : Bool) → p w ≡ b → q w ≡ c → first p (w ∷ ws) ≤ first q (w ∷ ws)
  next_later w ws h true c e f = omega (arith, first_yes p w ws e)
  next_later w ws h false true e f = absurd (cc (less w f))
  next_later w ws h false false e f = omega (arith, first_no p w ws e, first_no q w ws f)

  pub first_later : (ws : List Open) → first p ws ≤ first q ws
  first_later [] = omega arith
  first_later (w ∷ ws) = next_later w ws (first_later ws) (p w) (q w) refl refl

-- what room is
pub room_is : (group bits : ℕ) (w : Open) → has_room group bits w ≡ true → (w.group ≡ group) × (w.used + bits ≤ w.bits)
room_is group bits w h = room_parts (w.group) (w.used + bits) w.bits h
  where
    room_parts : (a n m : ℕ) → ((a == group) && nat_le n m) ≡ true → (a ≡ group) × (n ≤ m)
    room_parts a n m h = grind (arith, nat_tests)

module _ (x : Want) where
  abbrev room : Open → Bool
  room w = has_room x.group x.bits w

  pub put_yes : (w : Open) (ws : List Open) → room w ≡ true → put (w ∷ ws) x ≡ with_slot w x ∷ ws
  put_yes w ws e = rw e refl

  pub put_no : (w : Open) (ws : List Open) → room w ≡ false → put (w ∷ ws) x ≡ w ∷ put ws x
  put_no w ws e = rw e refl

  next_here : (v : Open) (ws : List Open) (i : ℕ) (w : Open) → suc i ≡ room_at x (v ∷ ws) → (i ≡ room_at x ws → room w ≡ true) → (b : Bool) → room v ≡ b → room w ≡ true
  next_here v ws i w a more true t = absurd (omega (arith, first_yes room v ws t))
  next_here v ws i w a more false t = more (omega (arith, first_no room v ws t))

  first_here : (v : Open) (ws : List Open) → 0 ≡ room_at x (v ∷ ws) → (b : Bool) → room v ≡ b → room v ≡ true
  first_here v ws a true t = t
  first_here v ws a false t = absurd (omega (arith, first_no room v ws t))

  -- the word at that place has room
  pub room_here : (ws : List Open) (i : ℕ) (w : Open) → i ≡ room_at x ws → i < length ws → w ≡ get_or ws i w → room w ≡ true
  room_here [] i w a l e = absurd (omega arith)
  room_here (v ∷ ws) zero w a l e = ap room e ∙ first_here v ws a (room v) refl
  room_here (v ∷ ws) (suc i) w a l e = next_here v ws i w a (λ k. room_here ws i w k (omega arith) e) (room v) refl

  next_put : (v : Open) (ws : List Open) (i : ℕ) (w : Open) → suc i ≡ room_at x (v ∷ ws) → (i ≡ room_at x ws → put ws x ≡ set ws i (with_slot w x)) → (b : Bool) → room v ≡ b → put (v ∷ ws) x ≡ v ∷ set ws i (with_slot w x)
  next_put v ws i w a more true t = absurd (omega (arith, first_yes room v ws t))
  next_put v ws i w a more false t = put_no v ws t ∙ ap (λ (us : List Open). v ∷ us) (more (omega (arith, first_no room v ws t)))

  -- the slot joins the word at that place
  pub put-at : (ws : List Open) (i : ℕ) (w : Open) → i ≡ room_at x ws → i < length ws → w ≡ get_or ws i w → put ws x ≡ set ws i (with_slot w x)
  put-at [] i w a l e = absurd (omega arith)
  put-at (v ∷ ws) zero w a l e = put_yes v ws (first_here v ws a (room v) refl) ∙ ap (λ (u : Open). with_slot u x ∷ ws) (sym e)
  put-at (v ∷ ws) (suc i) w a l e = next_put v ws i w a (λ k. put-at ws i w k (omega arith) e) (room v) refl

  next_new : (v : Open) (ws : List Open) → suc (length ws) ≤ room_at x (v ∷ ws) → (length ws ≤ room_at x ws → put ws x ≡ ws ++ opened x ∷ []) → (b : Bool) → room v ≡ b → put (v ∷ ws) x ≡ v ∷ (ws ++ opened x ∷ [])
  next_new v ws a more true t = absurd (omega (arith, first_yes room v ws t))
  next_new v ws a more false t = put_no v ws t ∙ ap (λ (us : List Open). v ∷ us) (more (omega (arith, first_no room v ws t)))

  -- where that place is behind all words, the slot opens one
  pub put-new : (ws : List Open) → length ws ≤ room_at x ws → put ws x ≡ ws ++ opened x ∷ []
  put-new [] a = refl
  put-new (v ∷ ws) a = next_new v ws a (λ k. put-new ws k) (room v) refl
