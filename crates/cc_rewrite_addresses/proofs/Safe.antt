-- What asks for steps, and gives and asks for no other addresses where its marks give none.
use Rattle.std.proofs.Common.{◌≡◌, ℕ, Bool, List, [], ◌∷◌, Option, Some, None, refl}
use Rattle.cc_states.specs.CcEval.declared.action.Action.{Action}
use Rattle.cc_states.specs.CcEval.declared.mark.Mark.{Mark}
use Rattle.cc_states.specs.CcEval.declared.mark.Mark.TheVariants.{Gave, Did, Chose}
use Rattle.cc_states.specs.CcEval.Progress.{Progress, Known, Waits, Traps, Get, known, trap, ask, and_then, bind, needs, given}
use Rattle.cc_rewrite_addresses.specs.Holds.{Every, MayIn, MarkIn, ActionIn, ProgressIn}

module _ (test : ℕ → Bool) where
  abbrev pub Safe : {A : Type 0} → (A → Type 0) → Get A → Type 0
  Safe K g = (ms : List Mark) → Every (MarkIn test) ms → ProgressIn test K (g ms)

  pub safe_known : {A : Type 0} (K : A → Type 0) (a : A) → K a → Safe K (known a)
  safe_known K a k ms h = (k, h)

  pub safe_trap : {A : Type 0} (K : A → Type 0) → Safe K trap
  safe_trap K ms h = tt

  pub safe_ask : {A : Type 0} (K : A → Type 0) (action : Action) (f : Mark → A) → ActionIn test action → ((m : Mark) → MarkIn test m → K (f m)) → Safe K (ask action f)
  safe_ask K action f a k [] h = a
  safe_ask K action f a k (m ∷ ms) h = (k m h.0, h.1)

  pub safe_bind : {A B : Type 0} (K : A → Type 0) (L : B → Type 0) (g : Get A) (f : A → Get B) → Safe K g → ((a : A) → K a → Safe L (f a)) → Safe L (bind g f)
  safe_bind {A = A} K L g f s t ms h = by (g ms) (s ms h)
    where
      by : (q : Progress A) → ProgressIn test K q → ProgressIn test L (and_then q f)
      by (Known a rest) k = t a k.0 rest k.1
      by (Waits action) k = k
      by (Traps rest) k = tt

  pub safe_needs : {A B : Type 0} (L : B → Type 0) (v : Option A) (f : A → Get B) → ((a : A) → v ≡ Some a → Safe L (f a)) → Safe L (needs v f)
  safe_needs L None f t = safe_trap L
  safe_needs L (Some a) f t = t a refl

  pub given_in : (m : Mark) → MarkIn test m → MayIn test (given m)
  given_in (Gave v) h = h
  given_in Did h = tt
  given_in (Chose b) h = tt
