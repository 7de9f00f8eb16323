-- From what reading the profile and the sources answers to what is asked for, or to how packing ends.
use Rattle.std.proofs.Common.{◌≡◌, ◌≤◌, inl, inr, ℕ, List, Some, Result, Ok, Err, IfOk, IfErr, arith}
use Rattle.std.specs.Prelude.{◌≢◌}
use Rattle.cc_cost.specs.declared.profile.Profile.{Profile}
use Rattle.cc_edge.specs.Faults.{raised}
use Rattle.cc_edge.specs.Files.{Files}
use Rattle.cc_files.specs.Unread.{AreSources, IsOneOf}
use Rattle.cc_files.specs.declared.unread.Unread.{Unread}
use Rattle.cc_files.specs.declared.unread.Unread.TheVariants as unread
use Rattle.cc_material.proofs.Told.{tells-more, tells-none}
use Rattle.cc_material.specs.Material.{IsProfile, TellsFile}
use Rattle.cc_packing.specs.Asked.{Asked, IsRead, IsOver, IsUntold}
use Rattle.cc_packing.specs.Ends.{TextsEnd, PackEnds, AtTexts}
use Rattle.cc_packing.specs.Headline.{AreMade, AreAsked}
use Rattle.cc_packing.specs.declared.outputs.Texts.{Texts}
use Rattle.cc_status.specs.Statuses.{for_unread}
use Rattle.cc_status.specs.declared.status.Status.{Status}
use Rattle.cc_status.specs.declared.status.Status.TheVariants as status

-- ---- files that are not told

module _ (a : Asked) (before now : ℕ) where
  pub profile-untold : (rose since : Type 0) (s : Status) → (rose → since) → TellsFile (λ file. (a.profile ≡ Some file) × rose) (λ file. (a.profile ≡ Some file) × (now ≡ raised 65537 before)) s → IsUntold a since before now s
  profile-untold rose since s risen h =
      tells-more (λ file. (a.profile ≡ Some file) × rose) (λ file. (a.profile ≡ Some file) × (now ≡ raised 65537 before)) (λ file. IsRead a file × since) (IsOver a before now) s
      (λ file k. (inl k.0, risen k.1)) (λ file k. inl (k.0, omega (arith, k.1))) h

  pub source-untold : (rose since long : Type 0) (u : Unread) → (rose → since) → (long → raised 1048577 before ≤ now) → IsOneOf a.sources rose long u → IsUntold a since before now (for_unread u)
  source-untold rose since long (unread.ReadFault file) risen grown h = (inr h.0, risen h.1)
  source-untold rose since long (unread.TooLong file) risen grown h = inr (h.0, grown h.1)
  source-untold rose since long unread.NoMemory risen grown h = tt

-- ---- texts

module _ (files : Files) (a : Asked) (profile : Profile) (texts : List (List ℕ)) (told : Type 0) (is : told → IsProfile files a.profile profile) (are : told → AreSources files a.sources texts) where
  pub asked-made : (r : Result Texts Status) → IfOk r (λ t. AreMade profile texts t.out.items t.table.items) → IfOk r (λ t. told → AreAsked files a t.out.items t.table.items)
  asked-made (Ok t) h = λ k. record { profile = profile; texts = texts; are_read = record { profile_is = is k; sources_are = are k }; made = h }
  asked-made (Err s) h = tt

  pub texts-end : (rose : Type 0) (r : Result Texts Status) → IfErr r (λ s. s ≢ status.NoMemory → TextsEnd a.sources profile texts s) → IfErr r (λ s. s ≢ status.NoMemory → told → PackEnds files rose a s)
  texts-end rose (Ok t) h = tt
  texts-end rose (Err s) h = λ n k. AtTexts profile texts s (record { profile_is = is k; sources_are = are k }) (h n)

pub no-file : (a : Asked) (rose untold : Type 0) (before now : ℕ) (r : Result Texts Status) → IfErr r (λ s. TellsFile (λ _. ⊥) (λ _. ⊥) s) → IfErr r (λ s. untold → IsUntold a rose before now s)
no-file a rose untold before now (Ok t) h = tt
no-file a rose untold before now (Err s) h = λ u. tells-none (λ file. IsRead a file × rose) (IsOver a before now) s h
