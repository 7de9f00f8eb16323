-- Why a simulation has one answer: each cause is looked for where no cause in front of it is there.
use Rattle.std.proofs.Common.{◌≡◌, ◌∙◌, ◌+◌, ℕ, List, [], ◌∷◌, map, Option, Some, None, option_map, refl, ap, sym, subst, arith}
use Rattle.cc_cost.specs.declared.profile.Profile.{Profile}
use Rattle.cc_edge.specs.Files.{Files}
use Rattle.cc_files.specs.Unread.{IsUnread}
use Rattle.cc_files.specs.declared.unread.Unread.{Unread}
use Rattle.cc_material.proofs.OneCause.{same_text, read_not, one_unread, same_texts, sources_read, one_first, profile_read, one_profile_end, SaySame, one_profile, same_program, not_above, one_limit, program_not_refused, one_refusal, program_as, refusal_as}
use Rattle.cc_material.specs.Material.{IsThere}
use Rattle.cc_material.specs.Programs.{IsProgram}
use Rattle.cc_program.specs.declared.program.Program.{Program}
use Rattle.cc_run.specs.Outcomes.{first_none}
use Rattle.cc_simulation.specs.Asked.{Asked}
use Rattle.cc_simulation.specs.Ends.{FilesEnd, AtProfile, AtInputs, AtArrivals, AtSources, RowsEnd, WrongInput, WrongArrival, ProgramEnds, AboveLimit, WrongRow, SourcesEnd, AreRefused, NotRun, RunEnds, ManySteps, AtFiles, AtProgram}
use Rattle.cc_simulation.specs.Traces.{IsTrace, IsRunnable, AreRead, IsAsked}
use Rattle.cc_status.specs.Statuses.{for_unread}
use Rattle.cc_status.specs.declared.status.Status.{Status}
use Rattle.cc_status.specs.declared.status.Status.TheVariants as status

-- ---- the files

module _ (files : Files) where
  there_not : (name text : List ℕ) (u : Unread) → IsThere files 8388608 name text → IsUnread files ⊥ 8388608 name u → ⊥
  there_not name text u h k = read_not files 8388608 name text u h.there h.short k

  files_read : (a : Asked) (profile : Profile) (inputs arrivals : List ℕ) (sources : List (List ℕ)) (s : Status) → AreRead files a profile inputs arrivals sources → FilesEnd files ⊥ a s → ⊥
  files_read a profile inputs arrivals sources s h (AtProfile _ k) = profile_read files a.profile profile s h.profile_is k
  files_read a profile inputs arrivals sources _ h (AtInputs other u p k) = there_not a.inputs inputs u h.inputs_are k
  files_read a profile inputs arrivals sources _ h (AtArrivals other rows u p i k) = there_not a.arrivals arrivals u h.arrivals_are k
  files_read a profile inputs arrivals sources _ h (AtSources other rows turns u p i j k) = sources_read files 1048576 4194304 a.sources sources u h.sources_are k

  one_files_end : (a : Asked) (s t : Status) → FilesEnd files ⊥ a s → FilesEnd files ⊥ a t → s ≡ t
  one_files_end a s t (AtProfile _ h) (AtProfile _ k) = one_profile_end files a.profile s t h k
  one_files_end a s _ (AtProfile _ h) (AtInputs profile u p k) = absurd (profile_read files a.profile profile s p h)
  one_files_end a s _ (AtProfile _ h) (AtArrivals profile rows u p i k) = absurd (profile_read files a.profile profile s p h)
  one_files_end a s _ (AtProfile _ h) (AtSources profile rows turns u p i j k) = absurd (profile_read files a.profile profile s p h)
  one_files_end a _ t (AtInputs profile u p h) (AtProfile _ k) = absurd (profile_read files a.profile profile t p k)
  one_files_end a _ _ (AtInputs profile u p h) (AtInputs other v q k) = ap for_unread (one_unread files 8388608 a.inputs u v h k)
  one_files_end a _ _ (AtInputs profile u p h) (AtArrivals other rows v q i k) = absurd (there_not a.inputs rows u i h)
  one_files_end a _ _ (AtInputs profile u p h) (AtSources other rows turns v q i j k) = absurd (there_not a.inputs rows u i h)
  one_files_end a _ t (AtArrivals profile rows u p i h) (AtProfile _ k) = absurd (profile_read files a.profile profile t p k)
  one_files_end a _ _ (AtArrivals profile rows u p i h) (AtInputs other v q k) = absurd (there_not a.inputs rows v i k)
  one_files_end a _ _ (AtArrivals profile rows u p i h) (AtArrivals other lines v q j k) = ap for_unread (one_unread files 8388608 a.arrivals u v h k)
  one_files_end a _ _ (AtArrivals profile rows u p i h) (AtSources other lines turns v q j l k) = absurd (there_not a.arrivals turns u l h)
  one_files_end a _ t (AtSources profile rows turns u p i j h) (AtProfile _ k) = absurd (profile_read files a.profile profile t p k)
  one_files_end a _ _ (AtSources profile rows turns u p i j h) (AtInputs other v q k) = absurd (there_not a.inputs rows v i k)
  one_files_end a _ _ (AtSources profile rows turns u p i j h) (AtArrivals other lines v q l k) = absurd (there_not a.arrivals turns v j k)
  one_files_end a _ _ (AtSources profile rows turns u p i j h) (AtSources other lines times v q l m k) = ap for_unread (one_first files 1048576 4194304 a.sources u v h k)

  same_there : (name text other : List ℕ) → IsThere files 8388608 name text → IsThere files 8388608 name other → text ≡ other
  same_there name text other h k = same_text files name text other h.there k.there

-- ---- the rows

all_there : {A : Type 0} (xs : List A) → first_none (map Some xs) ≡ None
all_there [] = refl
all_there (x ∷ xs) = ap (option_map (λ n. n + 1)) (all_there xs)

none_wrong : {A : Type 0} (xs : List A) (os : List (Option A)) (n : ℕ) (f : ℕ → ℕ) → map Some xs ≡ os → option_map f (first_none os) ≡ Some n → ⊥
none_wrong xs os n f e h =
    let none : first_none os ≡ None = ap first_none (sym e) ∙ all_there xs in
    absurd (cc)

one_number : (o : Option ℕ) (f : ℕ → ℕ) (m n : ℕ) → option_map f o ≡ Some m → option_map f o ≡ Some n → m ≡ n
one_number o f m n h k = cc

module _ (p : Program) (inputs arrivals : List ℕ) where
  one_rows_end : (s t : Status) → RowsEnd p inputs arrivals s → RowsEnd p inputs arrivals t → s ≡ t
  one_rows_end _ _ (WrongInput m h) (WrongInput n k) = ap status.Inputs (one_number _ _ m n h k)
  one_rows_end _ _ (WrongInput m h) (WrongArrival numbers n are k) = absurd (none_wrong numbers _ m _ are h)
  one_rows_end _ _ (WrongArrival numbers m are h) (WrongInput n k) = absurd (none_wrong numbers _ n _ are k)
  one_rows_end _ _ (WrongArrival numbers m are h) (WrongArrival others n same k) = ap status.Arrivals (one_number _ _ m n h k)

  no_rows_end : (steps : ℕ) (text : List ℕ) (s : Status) → IsTrace p inputs arrivals steps text → RowsEnd p inputs arrivals s → ⊥
  no_rows_end steps text _ h (WrongInput n k) = none_wrong h.numbers _ n _ h.inputs_are k
  no_rows_end steps text _ h (WrongArrival numbers n are k) = none_wrong h.turns _ n _ h.arrivals_are k

-- ---- the program

module _ (inputs arrivals : List ℕ) (p : Program) where
  no_end : (steps : ℕ) (text : List ℕ) (s : Status) → IsRunnable p → IsTrace p inputs arrivals steps text → ProgramEnds inputs arrivals p s → ⊥
  no_end steps text _ h t (AboveLimit n w m k) = not_above p w m h.within k
  no_end steps text s h t (WrongRow n _ k) = no_rows_end p inputs arrivals steps text s t k

  one_program_end : (s t : Status) → ProgramEnds inputs arrivals p s → ProgramEnds inputs arrivals p t → s ≡ t
  one_program_end _ _ (AboveLimit n v l h) (AboveLimit o w m k) = one_limit p v w l m h k
  one_program_end _ t (AboveLimit n w m h) (WrongRow o _ k) = absurd (not_above p w m o.within h)
  one_program_end s _ (WrongRow n _ k) (AboveLimit o w m h) = absurd (not_above p w m n.within h)
  one_program_end s t (WrongRow n _ h) (WrongRow o _ k) = one_rows_end p inputs arrivals s t h k

-- ---- the sources

module _ (names : List (List ℕ)) (profile : Profile) (sources : List (List ℕ)) (inputs arrivals : List ℕ) where
  ends_of : (p q : Program) (s : Status) → p ≡ q → ProgramEnds inputs arrivals q s → ProgramEnds inputs arrivals p s
  ends_of p q s e h = subst (λ r. ProgramEnds inputs arrivals r s) (sym e) h

  no_sources_end : (p : Program) (steps : ℕ) (text : List ℕ) (s : Status) → IsProgram profile sources p → IsRunnable p → IsTrace p inputs arrivals steps text → SourcesEnd names profile sources inputs arrivals s → ⊥
  no_sources_end p steps text s h k t (AreRefused _ r) = program_not_refused names profile sources p s h r
  no_sources_end p steps text s h k t (NotRun q _ i r) = no_end inputs arrivals p steps text s k t (ends_of p q s (same_program profile sources p q h i) r)

  one_sources_end : (s t : Status) → SourcesEnd names profile sources inputs arrivals s → SourcesEnd names profile sources inputs arrivals t → s ≡ t
  one_sources_end s t (AreRefused _ h) (AreRefused _ k) = one_refusal names profile sources s t h k
  one_sources_end s t (AreRefused _ h) (NotRun q _ i r) = absurd (program_not_refused names profile sources q s i h)
  one_sources_end s t (NotRun p _ h r) (AreRefused _ k) = absurd (program_not_refused names profile sources p t h k)
  one_sources_end s t (NotRun p _ h r) (NotRun q _ i o) = one_program_end inputs arrivals p s t r (ends_of p q t (same_program profile sources p q h i) o)

module _ (names : List (List ℕ)) (p q : Profile) (same : SaySame p q) (sources : List (List ℕ)) (inputs arrivals : List ℕ) where
  sources_end_as : (s : Status) → SourcesEnd names q sources inputs arrivals s → SourcesEnd names p sources inputs arrivals s
  sources_end_as s (AreRefused _ h) = AreRefused s (refusal_as p q same sources names s h)
  sources_end_as s (NotRun r _ h k) = NotRun r s (program_as p q same sources r h) k

-- ---- all

module _ (files : Files) (a : Asked) where
  sources_end_for : (p q : Profile) (is js os bs : List ℕ) (ts us : List (List ℕ)) (s : Status) → AreRead files a p is os ts → AreRead files a q js bs us → SourcesEnd a.sources q us js bs s → SourcesEnd a.sources p ts is os s
  sources_end_for p q is js os bs ts us s h k e =
      sources_end_as a.sources p q (one_profile files a.profile p q h.profile_is k.profile_is) ts is os s
      (subst (λ x. SourcesEnd a.sources q x is os s) (sym (same_texts files a.sources ts us h.sources_are.there k.sources_are.there))
      (subst (λ x. SourcesEnd a.sources q us x os s) (sym (same_there files a.inputs is js h.inputs_are k.inputs_are))
      (subst (λ x. SourcesEnd a.sources q us js x s) (sym (same_there files a.arrivals os bs h.arrivals_are k.arrivals_are)) e)))

  pub asked_or_ends : (text : List ℕ) (s : Status) → IsAsked files a text → RunEnds files ⊥ a s → ⊥
  asked_or_ends text _ h (ManySteps k) = omega (arith, h.few, k)
  asked_or_ends text s h (AtFiles few _ k) = files_read files a h.profile h.inputs h.arrivals h.sources s h.are_read k
  asked_or_ends text s h (AtProgram few q js bs us _ k e) =
      no_sources_end a.sources h.profile h.sources h.inputs h.arrivals h.made.read a.steps text s h.made.is_program h.made.runnable h.made.trace
      (sources_end_for h.profile q h.inputs js h.arrivals bs h.sources us s h.are_read k e)

  pub one_end : (s t : Status) → RunEnds files ⊥ a s → RunEnds files ⊥ a t → s ≡ t
  one_end _ _ (ManySteps h) (ManySteps k) = refl
  one_end _ t (ManySteps h) (AtFiles few _ k) = absurd (omega (arith, h, few))
  one_end _ t (ManySteps h) (AtProgram few q js bs us _ k e) = absurd (omega (arith, h, few))
  one_end s _ (AtFiles few _ h) (ManySteps k) = absurd (omega (arith, k, few))
  one_end s t (AtFiles few _ h) (AtFiles less _ k) = one_files_end files a s t h k
  one_end s t (AtFiles few _ h) (AtProgram less q js bs us _ k e) = absurd (files_read files a q js bs us s k h)
  one_end s _ (AtProgram few p is os ts _ h e) (ManySteps k) = absurd (omega (arith, k, few))
  one_end s t (AtProgram few p is os ts _ h e) (AtFiles less _ k) = absurd (files_read files a p is os ts t h k)
  one_end s t (AtProgram few p is os ts _ h e) (AtProgram less q js bs us _ k d) =
      one_sources_end a.sources p ts is os s t e (sources_end_for p q is js os bs ts us t h k d)
