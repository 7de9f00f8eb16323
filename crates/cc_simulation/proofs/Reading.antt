-- From what reading the files answers to what is asked for, or to how a simulation ends.
use Rattle.std.proofs.Common.{◌≡◌, ◌≤◌, inl, inr, ℕ, List, [], ◌∷◌, Some, Result, Ok, Err, IfOk, IfErr, arith}
use Rattle.std.specs.Prelude.{◌≢◌, Vec}
use Rattle.std.specs.declared.alloc.Global.{Global}
use Rattle.cc_cost.specs.declared.profile.Profile.{Profile}
use Rattle.cc_edge.specs.Faults.{raised}
use Rattle.cc_edge.specs.Files.{Files}
use Rattle.cc_files.specs.Unread.{IsOneOf}
use Rattle.cc_files.specs.declared.unread.Unread.{Unread}
use Rattle.cc_files.specs.declared.unread.Unread.TheVariants as unread
use Rattle.cc_material.proofs.Told.{tells-more, tells-none, tells-one}
use Rattle.cc_material.specs.Material.{TellsFile}
use Rattle.cc_simulation.specs.Asked.{Asked, IsRead, IsOver, IsUntold}
use Rattle.cc_simulation.specs.Ends.{SourcesEnd, RunEnds, AtProgram}
use Rattle.cc_simulation.specs.Traces.{AreRead, IsAsked, IsMade}
use Rattle.cc_status.specs.Statuses.{for_unread}
use Rattle.cc_status.specs.declared.status.Status.{Status}
use Rattle.cc_status.specs.declared.status.Status.TheVariants as status

-- ---- files that are not told: a fault since later is one since earlier, and so is a count that was passed

module _ (a : Asked) (before now : ℕ) (rose since : Type 0) (risen : rose → since) where
  pub profile-untold : (s : Status) → TellsFile (λ file. (a.profile ≡ Some file) × rose) (λ file. (a.profile ≡ Some file) × (now ≡ raised 65537 before)) s → IsUntold a since before now s
  profile-untold s h =
      tells-more (λ file. (a.profile ≡ Some file) × rose) (λ file. (a.profile ≡ Some file) × (now ≡ raised 65537 before)) (λ file. IsRead a file × since) (IsOver a before now) s
      (λ file k. (inl k.0, risen k.1)) (λ file k. inl (k.0, omega (arith, k.1))) h

  pub inputs-untold : (long : Type 0) (u : Unread) → (long → raised 8388609 before ≤ now) → IsOneOf (a.inputs ∷ []) rose long u → IsUntold a since before now (for_unread u)
  inputs-untold long u grown h =
      tells-more (λ file. (file ≡ a.inputs) × rose) (λ file. (file ≡ a.inputs) × long) (λ file. IsRead a file × since) (IsOver a before now) (for_unread u)
      (λ file k. (inr (inl k.0), risen k.1)) (λ file k. inr (inl (inl k.0, grown k.1))) (tells-one a.inputs rose long u h)

  pub arrivals-untold : (long : Type 0) (u : Unread) → (long → raised 8388609 before ≤ now) → IsOneOf (a.arrivals ∷ []) rose long u → IsUntold a since before now (for_unread u)
  arrivals-untold long u grown h =
      tells-more (λ file. (file ≡ a.arrivals) × rose) (λ file. (file ≡ a.arrivals) × long) (λ file. IsRead a file × since) (IsOver a before now) (for_unread u)
      (λ file k. (inr (inr (inl k.0)), risen k.1)) (λ file k. inr (inl (inr k.0, grown k.1))) (tells-one a.arrivals rose long u h)

  pub sources-untold : (long : Type 0) (u : Unread) → (long → raised 1048577 before ≤ now) → IsOneOf a.sources rose long u → IsUntold a since before now (for_unread u)
  sources-untold long (unread.ReadFault file) grown h = (inr (inr (inr h.0)), risen h.1)
  sources-untold long (unread.TooLong file) grown h = inr (inr (h.0, grown h.1))
  sources-untold long unread.NoMemory grown h = tt

-- ---- traces

module _ (files : Files) (a : Asked) (few : a.steps ≤ 1000000) (profile : Profile) (inputs arrivals : List ℕ) (sources : List (List ℕ)) (told : Type 0) (are : told → AreRead files a profile inputs arrivals sources) where
  pub asked-made : (r : Result (Vec ℕ Global) Status) → IfOk r (λ t. IsMade profile sources inputs arrivals a.steps t.items) → IfOk r (λ t. told → IsAsked files a t.items)
  asked-made (Ok t) h = λ k. record { few = few; profile = profile; inputs = inputs; arrivals = arrivals; sources = sources; are_read = are k; made = h }
  asked-made (Err s) h = tt

  pub sources-end : (rose : Type 0) (r : Result (Vec ℕ Global) Status) → IfErr r (λ s. s ≢ status.NoMemory → SourcesEnd a.sources profile sources inputs arrivals s) → IfErr r (λ s. s ≢ status.NoMemory → told → RunEnds files rose a s)
  sources-end rose (Ok t) h = tt
  sources-end rose (Err s) h = λ n k. AtProgram few profile inputs arrivals sources s (are k) (h n)

pub no-file : (a : Asked) (rose untold : Type 0) (before now : ℕ) (r : Result (Vec ℕ Global) Status) → IfErr r (λ s. TellsFile (λ _. ⊥) (λ _. ⊥) s) → IfErr r (λ s. untold → IsUntold a rose before now s)
no-file a rose untold before now (Ok t) h = tt
no-file a rose untold before now (Err s) h = λ u. tells-none (λ file. IsRead a file × rose) (IsOver a before now) s h
