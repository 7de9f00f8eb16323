-- Why packing has one answer: each cause is looked for where no cause in front of it is there.
use Rattle.std.proofs.Common.{◌≡◌, ℕ, List, [], refl, ap, sym, subst, arith}
use Rattle.cc_cost.specs.declared.profile.Profile.{Profile}
use Rattle.cc_edge.specs.Files.{Files}
use Rattle.cc_material.proofs.OneCause.{same_texts, sources_read, one_first, profile_read, one_profile_end, SaySame, one_profile, same_program, not_above, one_limit, program_not_refused, one_refusal, program_as, refusal_as}
use Rattle.cc_material.specs.Programs.{IsProgram}
use Rattle.cc_packing.specs.Asked.{Asked}
use Rattle.cc_packing.specs.Ends.{FilesEnd, AtProfile, AtSources, ProgramEnds, AboveLimit, LongText, TextsEnd, AreRefused, NotPacked, PackEnds, AtFiles, AtTexts}
use Rattle.cc_packing.specs.Headline.{AreRead, AreAsked, CanBePacked, IsPackable}
use Rattle.cc_program.specs.declared.program.Program.{Program}
use Rattle.cc_status.specs.Statuses.{for_unread}
use Rattle.cc_status.specs.declared.status.Status.{Status}

-- ---- the files

module _ (files : Files) where
  files_read : (a : Asked) (profile : Profile) (texts : List (List ℕ)) (s : Status) → AreRead files a profile texts → FilesEnd files ⊥ a s → ⊥
  files_read a profile texts s h (AtProfile _ k) = profile_read files a.profile profile s h.profile_is k
  files_read a profile texts _ h (AtSources other u p k) = sources_read files 1048576 4194304 a.sources texts u h.sources_are k

  one_files_end : (a : Asked) (s t : Status) → FilesEnd files ⊥ a s → FilesEnd files ⊥ a t → s ≡ t
  one_files_end a s t (AtProfile _ h) (AtProfile _ k) = one_profile_end files a.profile s t h k
  one_files_end a s _ (AtProfile _ h) (AtSources profile u p k) = absurd (profile_read files a.profile profile s p h)
  one_files_end a _ t (AtSources profile u p k) (AtProfile _ h) = absurd (profile_read files a.profile profile t p h)
  one_files_end a _ _ (AtSources profile u p h) (AtSources other v q k) = ap for_unread (one_first files 1048576 4194304 a.sources u v h k)

-- ---- the program

module _ (p : Program) where
  no_end : (s : Status) → IsPackable p → ProgramEnds p s → ⊥
  no_end _ h (AboveLimit w m k) = not_above p w m h.within k
  no_end _ h (LongText within k) = omega (arith, h.short, k)

  one_program_end : (s t : Status) → ProgramEnds p s → ProgramEnds p t → s ≡ t
  one_program_end _ _ (AboveLimit v l h) (AboveLimit w m k) = one_limit p v w l m h k
  one_program_end _ _ (AboveLimit w m h) (LongText within k) = absurd (not_above p w m within h)
  one_program_end _ _ (LongText within k) (AboveLimit w m h) = absurd (not_above p w m within h)
  one_program_end _ _ (LongText within h) (LongText other k) = refl

-- ---- the texts

module _ (names : List (List ℕ)) (profile : Profile) (texts : List (List ℕ)) where
  ends_of : (p q : Program) (s : Status) → p ≡ q → ProgramEnds q s → ProgramEnds p s
  ends_of p q s e h = subst (λ r. ProgramEnds r s) (sym e) h

  no_texts_end : (p : Program) (s : Status) → IsProgram profile texts p → IsPackable p → TextsEnd names profile texts s → ⊥
  no_texts_end p s h k (AreRefused _ r) = program_not_refused names profile texts p s h r
  no_texts_end p s h k (NotPacked q _ i r) = no_end p s k (ends_of p q s (same_program profile texts p q h i) r)

  one_texts_end : (s t : Status) → TextsEnd names profile texts s → TextsEnd names profile texts t → s ≡ t
  one_texts_end s t (AreRefused _ h) (AreRefused _ k) = one_refusal names profile texts s t h k
  one_texts_end s t (AreRefused _ h) (NotPacked q _ i r) = absurd (program_not_refused names profile texts q s i h)
  one_texts_end s t (NotPacked p _ h r) (AreRefused _ k) = absurd (program_not_refused names profile texts p t h k)
  one_texts_end s t (NotPacked p _ h r) (NotPacked q _ i o) =
      one_program_end p s t r (ends_of p q t (same_program profile texts p q h i) o)

module _ (names : List (List ℕ)) (p q : Profile) (same : SaySame p q) (texts : List (List ℕ)) where
  texts_end_as : (s : Status) → TextsEnd names q texts s → TextsEnd names p texts s
  texts_end_as s (AreRefused _ h) = AreRefused s (refusal_as p q same texts names s h)
  texts_end_as s (NotPacked r _ h k) = NotPacked r s (program_as p q same texts r h) k

-- ---- all

module _ (files : Files) (a : Asked) where
  texts_end_for : (p q : Profile) (ts us : List (List ℕ)) (s : Status) → AreRead files a p ts → AreRead files a q us → TextsEnd a.sources q us s → TextsEnd a.sources p ts s
  texts_end_for p q ts us s h k e =
      texts_end_as a.sources p q (one_profile files a.profile p q h.profile_is k.profile_is) ts s
      (subst (λ x. TextsEnd a.sources q x s) (sym (same_texts files a.sources ts us h.sources_are.there k.sources_are.there)) e)

  pub packed_or_ends : (s : Status) → CanBePacked files a → PackEnds files ⊥ a s → ⊥
  packed_or_ends s h (AtFiles _ k) = files_read files a h.profile h.texts s h.are_read k
  packed_or_ends s h (AtTexts q us _ k e) =
      no_texts_end a.sources h.profile h.texts h.read s h.is_program h.packable (texts_end_for h.profile q h.texts us s h.are_read k e)

  can_be_packed : (bytes rows : List ℕ) → AreAsked files a bytes rows → CanBePacked files a
  can_be_packed bytes rows h =
      record { profile = h.profile; texts = h.texts; are_read = h.are_read; read = h.made.read; is_program = h.made.is_program; packable = h.made.packable }

  pub asked_or_ends : (bytes rows : List ℕ) (s : Status) → AreAsked files a bytes rows → PackEnds files ⊥ a s → ⊥
  asked_or_ends bytes rows s h k = packed_or_ends s (can_be_packed bytes rows h) k

  pub one_end : (s t : Status) → PackEnds files ⊥ a s → PackEnds files ⊥ a t → s ≡ t
  one_end s t (AtFiles _ h) (AtFiles _ k) = one_files_end files a s t h k
  one_end s t (AtFiles _ h) (AtTexts q us _ k e) = absurd (files_read files a q us s k h)
  one_end s t (AtTexts p ts _ h e) (AtFiles _ k) = absurd (files_read files a p ts t h k)
  one_end s t (AtTexts p ts _ h e) (AtTexts q us _ k d) = one_texts_end a.sources p ts s t e (texts_end_for p q ts us t h k d)
