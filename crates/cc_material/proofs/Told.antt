-- From what the parts answer to the profile of a command, or to how it ends.
use Rattle.std.proofs.Common.{◌≡◌, ◌≤◌, ◌<◌, ℕ, zero, suc, List, [], ◌∷◌, length, Some, None, Result, Ok, Err, IfOk, IfErr, refl, ap, sym, arith}
use Rattle.std.specs.Prelude.{◌≢◌, true, slice_index_or}
use Rattle.std.specs.List.{Contains}
use Rattle.cc_cost.specs.Given.{Gives}
use Rattle.cc_cost.specs.Outcomes.{TellsFault}
use Rattle.cc_cost.specs.Rules.{first_fault}
use Rattle.cc_cost.specs.declared.fault.ProfileFault.{ProfileFault}
use Rattle.cc_cost.specs.declared.fault.ProfileFault.TheVariants as fault
use Rattle.cc_cost.specs.declared.profile.Profile.{Profile}
use Rattle.cc_edge.specs.Faults.{raised}
use Rattle.cc_edge.specs.Files.{Files}
use Rattle.cc_files.specs.Unread.{IsUnread, IsOneOf}
use Rattle.cc_files.specs.declared.unread.Unread.{Unread}
use Rattle.cc_files.specs.declared.unread.Unread.TheVariants as unread
use Rattle.cc_material.specs.Material.{IsProfile, ByDefault, ByFile, IsWrongRow, ProfileEnds, ProfileUnread, ProfileWrong, TellsFile, is_refusal}
use Rattle.cc_read.specs.declared.refusal.ReadRefusal.{ReadRefusal}
use Rattle.cc_read.specs.declared.refusal.ReadRefusal.TheVariants as why
use Rattle.cc_rows.specs.Rows.{Row, rows_of}
use Rattle.cc_status.specs.Statuses.{for_unread, for_profile, for_refusal}
use Rattle.cc_status.specs.declared.status.Status.{Status}
use Rattle.cc_status.specs.declared.status.Status.TheVariants as status

-- ---- the files of statuses

pub tells-more : (P Q R S : List ℕ → Type 0) (s : Status) → ((name : List ℕ) → P name → R name) → ((name : List ℕ) → Q name → S name) → TellsFile P Q s → TellsFile R S s
tells-more P Q R S status.Done f g h = tt
tells-more P Q R S (status.Usage word) f g h = tt
tells-more P Q R S (status.ReadFault name) f g h = f name h
tells-more P Q R S (status.TooLong name) f g h = g name h
tells-more P Q R S (status.Refused name w) f g h = tt
tells-more P Q R S (status.Profile e) f g h = tt
tells-more P Q R S (status.Inputs row) f g h = tt
tells-more P Q R S (status.Arrivals row) f g h = tt
tells-more P Q R S (status.Limit w n) f g h = tt
tells-more P Q R S (status.WriteFault name) f g h = tt
tells-more P Q R S status.NoMemory f g h = tt

-- an answer that names no file
pub tells-none : (R S : List ℕ → Type 0) (s : Status) → TellsFile (λ _. ⊥) (λ _. ⊥) s → TellsFile R S s
tells-none R S s h = tells-more (λ _. ⊥) (λ _. ⊥) R S s (λ name e. absurd e) (λ name e. absurd e) h

one-at : (x y : List ℕ) (k : ℕ) → k < length (x ∷ []) → slice_index_or (x ∷ []) k y ≡ y → y ≡ x
one-at x y zero h e = sym e
one-at x y (suc k) h e = absurd (omega arith)

one-named : (x y : List ℕ) → Contains (x ∷ []) y → y ≡ x
one-named x y c = one-at x y c.0 c.1 c.2

pub tells-one : (name : List ℕ) (rose long : Type 0) (u : Unread) → IsOneOf (name ∷ []) rose long u → TellsFile (λ file. (file ≡ name) × rose) (λ file. (file ≡ name) × long) (for_unread u)
tells-one name rose long (unread.ReadFault file) h = (one-named name file h.0, h.1)
tells-one name rose long (unread.TooLong file) h = (one-named name file h.0, h.1)
tells-one name rose long unread.NoMemory h = tt

-- ---- refusals

pub refusal-unread : (u : Unread) → is_refusal (for_unread u) ≡ true
refusal-unread (unread.ReadFault file) = refl
refusal-unread (unread.TooLong file) = refl
refusal-unread unread.NoMemory = refl

pub refusal-profile : (f : ProfileFault) → is_refusal (for_profile f) ≡ true
refusal-profile (fault.Row row rule) = refl
refusal-profile fault.NoMemory = refl

pub tells-profile : (P Q : List ℕ → Type 0) (f : ProfileFault) → TellsFile P Q (for_profile f)
tells-profile P Q (fault.Row row rule) = tt
tells-profile P Q fault.NoMemory = tt

pub refusal-refused : (name : List ℕ) (w : ReadRefusal) → is_refusal (for_refusal name w) ≡ true
refusal-refused name (why.Lex e) = refl
refusal-refused name (why.Gram e) = refl
refusal-refused name (why.Types e) = refl
refusal-refused name (why.Link e) = refl
refusal-refused name why.NoMemory = refl

pub tells-refused : (P Q : List ℕ → Type 0) (name : List ℕ) (w : ReadRefusal) → TellsFile P Q (for_refusal name w)
tells-refused P Q name (why.Lex e) = tt
tells-refused P Q name (why.Gram e) = tt
tells-refused P Q name (why.Types e) = tt
tells-refused P Q name (why.Link e) = tt
tells-refused P Q name why.NoMemory = tt

pub refused-told : (name : List ℕ) (w : ReadRefusal) → for_refusal name w ≢ status.NoMemory → for_refusal name w ≡ status.Refused name w
refused-told name (why.Lex e) n = refl
refused-told name (why.Gram e) n = refl
refused-told name (why.Types e) n = refl
refused-told name (why.Link e) n = refl
refused-told name why.NoMemory n = absurd (n refl)

pub refused-why : (name : List ℕ) (w : ReadRefusal) → for_refusal name w ≢ status.NoMemory → w ≢ why.NoMemory
refused-why name w n e = n (ap (for_refusal name) e)

-- ---- profiles

pub profile-told : (rows : List Row) (f : ProfileFault) → TellsFault rows f → for_profile f ≢ status.NoMemory → IsWrongRow rows (for_profile f)
profile-told rows (fault.Row row rule) h n = (row, rule, h, refl)
profile-told rows fault.NoMemory h n = absurd (n refl)

pub profile-unread : (files : Files) (rose : Type 0) (name : List ℕ) (u : Unread) → (u ≢ unread.NoMemory → IsUnread files rose 65536 name u) → for_unread u ≢ status.NoMemory → ProfileEnds files rose (Some name) (for_unread u)
profile-unread files rose name (unread.ReadFault file) h n = ProfileUnread name (unread.ReadFault file) (h (λ e. absurd (cc)))
profile-unread files rose name (unread.TooLong file) h n = ProfileUnread name (unread.TooLong file) (h (λ e. absurd (cc)))
profile-unread files rose name unread.NoMemory h n = absurd (n refl)

-- a file that is read, and what its rows give
module _ (files : Files) (name text : List ℕ) (told : Type 0) (there : told → files name ≡ Some text) (short : length text ≤ 65536) where
  pub by-file : (r : Result Profile Status) → IfOk r (λ p. first_fault (rows_of text) ≡ None) → IfOk r (λ p. Gives (rows_of text) p) → IfOk r (λ p. told → IsProfile files (Some name) p)
  by-file (Ok p) h k = λ t. ByFile name text p (record { there = there t; short = short }) h k
  by-file (Err s) h k = tt

  pub by-row : (rose : Type 0) (r : Result Profile Status) → IfErr r (λ s. s ≢ status.NoMemory → IsWrongRow (rows_of text) s) → IfErr r (λ s. s ≢ status.NoMemory → told → ProfileEnds files rose (Some name) s)
  by-row rose (Ok p) h = tt
  by-row rose (Err s) h = λ n t. ProfileWrong name text s (record { there = there t; short = short }) (h n)

pub names-none : (P Q : List ℕ → Type 0) (untold : Type 0) (r : Result Profile Status) → IfErr r (λ s. TellsFile (λ _. ⊥) (λ _. ⊥) s) → IfErr r (λ s. untold → TellsFile P Q s)
names-none P Q untold (Ok p) h = tt
names-none P Q untold (Err s) h = λ u. tells-none P Q s h

pub if-ok : (r : Result Profile Status) (P : Type 0) → P → IfOk r (λ p. P)
if-ok (Ok p) P h = h
if-ok (Err s) P h = tt

pub raised-up : (n count : ℕ) → count ≤ raised n count
unfolding raised
raised-up n count = omega arith

pub by_default : (files : Files) (p : Profile) → Gives [] p → IsProfile files None p
by_default files p h = ByDefault p h

pub ruleset of_profiles = (refusal-profile, tells-profile, profile-told)

pub ruleset of_refusals = (refusal-unread, refusal-profile, refusal-refused, tells-profile, tells-refused, refused-told, refused-why)
