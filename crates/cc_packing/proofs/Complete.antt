-- Where all that packing needs is there, and the store had no fault, there is no cause for another answer.
use Rattle.std.proofs.Common.{◌≡◌, ◌⊎◌, inl, inr, ℕ, false, List, Option, refl, arith}
use Rattle.std.specs.Prelude.{◌≢◌}
use Rattle.cc_edge.specs.Faults.{HasNoFault, Rose}
use Rattle.cc_edge.specs.Files.{Files}
use Rattle.cc_files.proofs.Within.{unread-since}
use Rattle.cc_material.proofs.Since.{first-since}
use Rattle.cc_material.specs.Material.{ProfileEnds, ProfileUnread, ProfileWrong}
use Rattle.cc_packing.proofs.OneAnswer.{packed_or_ends}
use Rattle.cc_packing.specs.Asked.{Asked}
use Rattle.cc_packing.specs.Ends.{FilesEnd, AtProfile, AtSources, PackEnds, AtFiles, AtTexts}
use Rattle.cc_packing.specs.Headline.{CanBePacked}
use Rattle.cc_status.specs.Statuses.{may_write}
use Rattle.cc_status.specs.declared.status.Status.{Status}
use Rattle.cc_status.specs.declared.status.Status.TheVariants as status

pub not_risen : (before now : ℕ) → HasNoFault before now → Rose before now → ⊥
not_risen before now h r = omega (arith, h.0, h.1, r)

-- ---- a cause that a fault may be told for has its place where a weaker one may

module _ (files : Files) (rose since : Type 0) (risen : rose → since) where
  profile_end : (profile : Option (List ℕ)) (s : Status) → ProfileEnds files rose profile s → ProfileEnds files since profile s
  profile_end _ _ (ProfileUnread name u h) = ProfileUnread name u (unread-since files files rose since 65536 name u (λ n. refl) risen h)
  profile_end _ s (ProfileWrong name text _ h w) = ProfileWrong name text s h w

  files_end : (a : Asked) (s : Status) → FilesEnd files rose a s → FilesEnd files since a s
  files_end a s (AtProfile _ h) = AtProfile s (profile_end a.profile s h)
  files_end a _ (AtSources profile u h k) = AtSources profile u h (first-since files files rose since a.sources u (λ n. refl) risen k)

  pack_end : (a : Asked) (s : Status) → PackEnds files rose a s → PackEnds files since a s
  pack_end a s (AtFiles _ h) = AtFiles s (files_end a s h)
  pack_end a s (AtTexts profile texts _ h e) = AtTexts profile texts s h e

-- ---- the answer

module _ (files : Files) (a : Asked) (rose : Type 0) (no : rose → ⊥) (h : CanBePacked files a) where
  never : (s : Status) → PackEnds files rose a s → ⊥
  never s k = packed_or_ends files a s h (pack_end files rose ⊥ no a s k)

  pub done_or_no_memory : (s : Status) → (may_write s ≡ false → s ≢ status.NoMemory → PackEnds files rose a s) → ((name : List ℕ) → s ≡ status.WriteFault name → rose) →
      (s ≡ status.Done) ⊎ (s ≡ status.NoMemory)
  done_or_no_memory status.Done e w = inl refl
  done_or_no_memory status.NoMemory e w = inr refl
  done_or_no_memory (status.WriteFault name) e w = absurd (no (w name refl))
  done_or_no_memory (status.Usage word) e w = absurd (never (status.Usage word) (e refl (λ k. absurd (cc))))
  done_or_no_memory (status.ReadFault name) e w = absurd (never (status.ReadFault name) (e refl (λ k. absurd (cc))))
  done_or_no_memory (status.TooLong name) e w = absurd (never (status.TooLong name) (e refl (λ k. absurd (cc))))
  done_or_no_memory (status.Refused name why) e w = absurd (never (status.Refused name why) (e refl (λ k. absurd (cc))))
  done_or_no_memory (status.Profile fault) e w = absurd (never (status.Profile fault) (e refl (λ k. absurd (cc))))
  done_or_no_memory (status.Inputs row) e w = absurd (never (status.Inputs row) (e refl (λ k. absurd (cc))))
  done_or_no_memory (status.Arrivals row) e w = absurd (never (status.Arrivals row) (e refl (λ k. absurd (cc))))
  done_or_no_memory (status.Limit what number) e w = absurd (never (status.Limit what number) (e refl (λ k. absurd (cc))))
