-- What is read for a command is one thing: its profile and its sources are read or they are not, for one cause, and a program is
-- within the limits or above one.
use Rattle.std.proofs.Common.{◌≡◌, ◌∙◌, ◌≤◌, ◌+◌, ◌-◌, ◌⊎◌, inl, inr, ℕ, Bool, true, ◌&&◌, ◌||◌, nat_eq, nat_le, IsTrue, List, [], ◌∷◌, ◌++◌, length, map, sum, min, Option, Some, refl, ap, sym, subst, arith}
use Rattle.std.specs.Prelude.{slice_index_or}
use Rattle.std.proofs.Math.Bool.{Bool-set}
use Rattle.std.proofs.Math.Nat.{le-min}
use Rattle.std.proofs.lemmas.List.Elements.{All-head, All-tail}
use Rattle.std.proofs.lemmas.List.Sums.{sum_by-cons}
use Rattle.std.specs.List.{All, AllZip, list_all}
use Rattle.cc_cost.specs.Given.{Gives, GivesTarget, GivesRoles}
use Rattle.cc_cost.specs.Rules.{first_fault}
use Rattle.cc_cost.specs.Settings.{line_of, settings_of}
use Rattle.cc_cost.specs.declared.fault.ProfileFault.TheVariants as fault
use Rattle.cc_cost.specs.declared.profile.Profile.{Profile}
use Rattle.cc_cost.specs.declared.setting.Setting.{Setting}
use Rattle.cc_edge.specs.Files.{Files}
use Rattle.cc_files.specs.Unread.{IsUnread, AFault, NotThere, Long, AreWithin, IsFirstUnread}
use Rattle.cc_files.specs.declared.unread.Unread.{Unread}
use Rattle.cc_material.specs.Material.{IsProfile, ByDefault, ByFile, IsWrongRow, ProfileEnds, ProfileUnread, ProfileWrong}
use Rattle.cc_material.specs.Programs.{IsProgram, TellsRefusal, IsWithin, IsAbove, ManyFunctions, MuchRam}
use Rattle.cc_program.specs.CcNum.declared.target.Target.{Target}
use Rattle.cc_program.specs.declared.program.Program.{Program}
use Rattle.cc_program.specs.declared.program.Roles.{Roles}
use Rattle.cc_read.proofs.Refused.{not_refused, one_cause, one_program}
use Rattle.cc_read.specs.Refusals.{IsRefused}
use Rattle.cc_read.specs.Texts.{Reads}
use Rattle.cc_read.specs.declared.refusal.Refusal.{Refusal}
use Rattle.cc_rows.specs.Rows.{Row, rows_of}
use Rattle.cc_status.specs.Statuses.{for_unread}
use Rattle.cc_status.specs.declared.status.Status.{Status}
use Rattle.cc_status.specs.declared.status.Status.TheVariants as status
use Rattle.cc_status.specs.declared.status.What.{What}
use Rattle.cc_program.specs.CcWords.Names.{is_name, are_distinct}

bytes_behind : (t : List ℕ) (ts : List (List ℕ)) → sum (map length (t ∷ ts)) ≡ length t + sum (map length ts)
bytes_behind t ts = sum_by-cons (λ (n : ℕ). n) (length t) (map (length {A = ℕ}) ts)

module _ (files : Files) where
  -- ---- one file

  pub same_text : (name text other : List ℕ) → files name ≡ Some text → files name ≡ Some other → text ≡ other
  same_text name text other h k = cc

  pub read_not : (limit : ℕ) (name text : List ℕ) (u : Unread) → files name ≡ Some text → length text ≤ limit → IsUnread files ⊥ limit name u → ⊥
  read_not limit name text _ there short (AFault h) = h
  read_not limit name text _ there short (NotThere h) = absurd (cc)
  read_not limit name text _ there short (Long other h k) = let same = same_text name text other there h in omega (arith, ap (length {A = ℕ}) same, k, short)

  pub one_unread : (limit : ℕ) (name : List ℕ) (u v : Unread) → IsUnread files ⊥ limit name u → IsUnread files ⊥ limit name v → u ≡ v
  one_unread limit name _ v (AFault h) k = absurd h
  one_unread limit name u _ h (AFault k) = absurd k
  one_unread limit name _ _ (NotThere h) (NotThere k) = refl
  one_unread limit name _ _ (NotThere h) (Long text k l) = absurd (cc)
  one_unread limit name _ _ (Long text h l) (NotThere k) = absurd (cc)
  one_unread limit name _ _ (Long text h l) (Long other k m) = refl

  -- ---- the sources

  pub same_texts : (names ts us : List (List ℕ)) → AllZip (λ n t. files n ≡ Some t) names ts → AllZip (λ n t. files n ≡ Some t) names us → ts ≡ us
  same_texts [] [] [] h k = refl
  same_texts [] [] (u ∷ us) h k = absurd k
  same_texts [] (t ∷ ts) us h k = absurd h
  same_texts (n ∷ names) [] us h k = absurd h
  same_texts (n ∷ names) (t ∷ ts) [] h k = absurd k
  same_texts (n ∷ names) (t ∷ ts) (u ∷ us) h k = ap (λ x. x ∷ ts) (same_text n t u h.0 k.0) ∙ ap (λ x. u ∷ x) (same_texts names ts us h.1 k.1)

  -- what is read within the limits stands before no file that is not read
  read_past : (before : List (List ℕ)) (name : List ℕ) (behind ts us : List (List ℕ)) (most total : ℕ) (u : Unread) → AllZip (λ n t. files n ≡ Some t) (before ++ name ∷ behind) ts → All (λ t. length t ≤ most) ts → sum (map length ts) ≤ total →
      AllZip (λ n t. files n ≡ Some t) before us → IsUnread files ⊥ (min most (total - sum (map length us))) name u → ⊥
  read_past [] name behind [] us most total u there short few front k = absurd there
  read_past [] name behind (t ∷ ts) [] most total u there short few front k =
      let least = All-head (λ x. length x ≤ most) t ts short in
      let left : length t ≤ total - 0 = omega (arith, few, bytes_behind t ts) in
      read_not (min most (total - 0)) name t u there.0 (le-min least left) k
  read_past [] name behind (t ∷ ts) (v ∷ us) most total u there short few front k = absurd front
  read_past (n ∷ before) name behind [] us most total u there short few front k = absurd there
  read_past (n ∷ before) name behind (t ∷ ts) [] most total u there short few front k = absurd front
  read_past (n ∷ before) name behind (t ∷ ts) (v ∷ us) most total u there short few front k =
      let same = ap (length {A = ℕ}) (same_text n t v there.0 front.0) in
      let rest : total - sum (map length (v ∷ us)) ≡ total - length v - sum (map length us) = omega (arith, bytes_behind v us) in
      read_past before name behind ts us most (total - length v) u there.1 (All-tail (λ x. length x ≤ most) t ts short) (omega (arith, few, bytes_behind t ts, same)) front.1
      (subst (λ m. IsUnread files ⊥ (min most m) name u) rest k)

  pub sources_read : (most total : ℕ) (names texts : List (List ℕ)) (u : Unread) → AreWithin files most total names texts → IsFirstUnread files ⊥ most total names u → ⊥
  sources_read most total names texts u h k =
      read_past k.before k.name k.behind texts k.texts most total u (subst (λ ns. AllZip (λ n t. files n ≡ Some t) ns texts) k.all h.there) h.short h.few k.read.there k.unread

  -- where a list is parted twice, the parts are the same, or one stands in front of the other
  module _ (x y : List ℕ) where
    abbrev Parted : List (List ℕ) → List (List ℕ) → Type 0
    Parted xs ys = ((xs ≡ ys) × (x ≡ y)) ⊎ (((r : List (List ℕ)) × (ys ≡ xs ++ x ∷ r)) ⊎ ((r : List (List ℕ)) × (xs ≡ ys ++ y ∷ r)))

    behind_one : (z : List ℕ) (xs ys : List (List ℕ)) → Parted xs ys → Parted (z ∷ xs) (z ∷ ys)
    behind_one z xs ys (inl h) = inl (ap (λ l. z ∷ l) h.0, h.1)
    behind_one z xs ys (inr (inl h)) = inr (inl (h.0, ap (λ l. z ∷ l) h.1))
    behind_one z xs ys (inr (inr h)) = inr (inr (h.0, ap (λ l. z ∷ l) h.1))

    parted : (xs xr ys yr : List (List ℕ)) → xs ++ x ∷ xr ≡ ys ++ y ∷ yr → Parted xs ys
    parted [] xr [] yr e = let same : x ≡ y = cc in inl (refl, same)
    parted [] xr (z ∷ ys) yr e = let same : z ≡ x = cc in inr (inl (ys, ap (λ n. n ∷ ys) same))
    parted (z ∷ xs) xr [] yr e = let same : z ≡ y = cc in inr (inr (xs, ap (λ n. n ∷ xs) same))
    parted (z ∷ xs) xr (w ∷ ys) yr e =
        let first : z ≡ w = cc in
        let rest : xs ++ x ∷ xr ≡ ys ++ y ∷ yr = cc in
        subst (λ v. Parted (z ∷ xs) (v ∷ ys)) first (behind_one z xs ys (parted xs xr ys yr rest))

  module _ (most total : ℕ) (names : List (List ℕ)) where
    -- a file that is not read, in front of another
    in_front : (u v : Unread) (h : IsFirstUnread files ⊥ most total names u) (k : IsFirstUnread files ⊥ most total names v) → (r : List (List ℕ)) → k.before ≡ h.before ++ h.name ∷ r → ⊥
    in_front u v h k r e =
        read_past h.before h.name r k.texts h.texts most total u (subst (λ ns. AllZip (λ n t. files n ≡ Some t) ns k.texts) e k.read.there) k.read.short k.read.few h.read.there h.unread

    one_first_by : (u v : Unread) (h : IsFirstUnread files ⊥ most total names u) (k : IsFirstUnread files ⊥ most total names v) → Parted h.name k.name h.before k.before → u ≡ v
    one_first_by u v h k (inl e) =
        let texts = same_texts h.before h.texts k.texts h.read.there (subst (λ ns. AllZip (λ n t. files n ≡ Some t) ns k.texts) (sym e.0) k.read.there) in
        let moved = subst (λ ts. IsUnread files ⊥ (min most (total - sum (map length ts))) k.name v) (sym texts) k.unread in
        one_unread (min most (total - sum (map length h.texts))) h.name u v h.unread (subst (λ n. IsUnread files ⊥ (min most (total - sum (map length h.texts))) n v) (sym e.1) moved)
    one_first_by u v h k (inr (inl e)) = absurd (in_front u v h k e.0 e.1)
    one_first_by u v h k (inr (inr e)) = absurd (in_front v u k h e.0 e.1)

    pub one_first : (u v : Unread) → IsFirstUnread files ⊥ most total names u → IsFirstUnread files ⊥ most total names v → u ≡ v
    one_first u v h k = one_first_by u v h k (parted h.name k.name h.before h.behind k.before k.behind (sym h.all ∙ k.all))

  -- ---- the profile

  pub profile_read : (name : Option (List ℕ)) (p : Profile) (s : Status) → IsProfile files name p → ProfileEnds files ⊥ name s → ⊥
  profile_read _ p s (ByDefault _ _) h = elim h [ ]
  profile_read _ p _ (ByFile name bytes _ there none g) (ProfileUnread _ u h) = read_not 65536 name bytes u there.there there.short h
  profile_read _ p s (ByFile name bytes _ there none g) (ProfileWrong _ other _ here wrong) =
      let same = same_text name bytes other there.there here.there in
      let fault = subst (λ b. first_fault (rows_of b) ≡ Some (wrong.0, wrong.1)) (sym same) wrong.2 in
      absurd (cc)

  one_row : (rows : List Row) (s t : Status) → IsWrongRow rows s → IsWrongRow rows t → s ≡ t
  one_row rows s t h k =
      let same : Some (h.0, h.1) ≡ Some (k.0, k.1) = sym h.2 ∙ k.2 in
      let pair : (h.0, h.1) ≡ (k.0, k.1) = cc in
      h.3 ∙ (ap (λ (p : ℕ × ℕ). status.Profile (fault.Row p.0 p.1)) pair ∙ sym k.3)

  pub one_profile_end : (name : Option (List ℕ)) (s t : Status) → ProfileEnds files ⊥ name s → ProfileEnds files ⊥ name t → s ≡ t
  one_profile_end _ _ _ (ProfileUnread name u h) (ProfileUnread _ v k) = ap for_unread (one_unread 65536 name u v h k)
  one_profile_end _ _ t (ProfileUnread name u h) (ProfileWrong _ bytes _ there wrong) = absurd (read_not 65536 name bytes u there.there there.short h)
  one_profile_end _ s _ (ProfileWrong name bytes _ there wrong) (ProfileUnread _ v k) = absurd (read_not 65536 name bytes v there.there there.short k)
  one_profile_end _ s t (ProfileWrong name bytes _ there wrong) (ProfileWrong _ other _ here faulty) =
      one_row (rows_of bytes) s t wrong (subst (λ b. IsWrongRow (rows_of b) t) (sym (same_text name bytes other there.there here.there)) faulty)

-- ---- what a profile says of the target and the roles

abbrev Numbers : Type 0
Numbers = ℕ × ℕ × Bool × ℕ × ℕ

abbrev is_two_or_four : ℕ → Type 0
is_two_or_four n = IsTrue (nat_eq n 2 || nat_eq n 4)

abbrev is_to_four : ℕ → Type 0
is_to_four n = IsTrue (nat_eq n 1 || nat_eq n 2 || nat_eq n 4)

target_of : (x : Numbers) → is_two_or_four x.0 → is_two_or_four x.1 → is_to_four x.3 → is_to_four x.4 → Target
target_of x i p a n = record { int_bytes = x.0; pointer_bytes = x.1; char_signed = x.2; align_max = x.3; atomic_bytes = x.4; int = i; pointer = p; align = a; atomic = n }

one_proof : (b : Bool) (h k : IsTrue b) → h ≡ k
one_proof b h k = Bool-set b true h k

same_target : (t u : Target) → t.int_bytes ≡ u.int_bytes → t.pointer_bytes ≡ u.pointer_bytes → t.char_signed ≡ u.char_signed → t.align_max ≡ u.align_max → t.atomic_bytes ≡ u.atomic_bytes → t ≡ u
unfolding target_of
same_target t u a b c d e =
    let x : Numbers = (t.int_bytes, t.pointer_bytes, t.char_signed, t.align_max, t.atomic_bytes) in
    let y : Numbers = (u.int_bytes, u.pointer_bytes, u.char_signed, u.align_max, u.atomic_bytes) in
    let same : x ≡ y = cc in
    subst (λ (z : Numbers). (i : is_two_or_four z.0) (p : is_two_or_four z.1) (l : is_to_four z.3) (n : is_to_four z.4) → t ≡ target_of z i p l n) same
    (λ i p l n.
    ap (λ h. target_of x h t.pointer t.align t.atomic) (one_proof _ t.int i)
    ∙ (ap (λ h. target_of x i h t.align t.atomic) (one_proof _ t.pointer p)
    ∙ (ap (λ h. target_of x i p h t.atomic) (one_proof _ t.align l)
    ∙ ap (λ h. target_of x i p l h) (one_proof _ t.atomic n))))
    u.int u.pointer u.align u.atomic

abbrev Words : Type 0
Words = List (List ℕ) × List ℕ × List ℕ × List ℕ × List ℕ × List (List ℕ × ℕ)

abbrev all_words : Words → List (List ℕ)
all_words x = x.0 ++ x.1 ∷ x.2 ∷ x.3 ∷ x.4 ∷ []

abbrev AreWords : Words → Type 0
AreWords x = IsTrue (list_all is_name (all_words x))

abbrev AreApart : Words → Type 0
AreApart x = IsTrue (are_distinct (all_words x))

abbrev AreLevels : Words → Type 0
AreLevels x = IsTrue (list_all (λ l. is_name l.0 && (nat_le 1 l.1 && nat_le l.1 7)) x.5)

abbrev AreLevelsApart : Words → Type 0
AreLevelsApart x = IsTrue (are_distinct (map (λ l. l.0) x.5))

roles_of : (x : Words) → AreWords x → AreApart x → AreLevels x → AreLevelsApart x → Roles
roles_of x n a l d = record { handlers = x.0; off = x.1; on = x.2; save = x.3; restore = x.4; levels = x.5; named = n; apart = a; levelled = l; levels_apart = d }

same_roles : (t u : Roles) → t.handlers ≡ u.handlers → t.off ≡ u.off → t.on ≡ u.on → t.save ≡ u.save → t.restore ≡ u.restore → t.levels ≡ u.levels → t ≡ u
unfolding roles_of
same_roles t u a b c d e f =
    let x : Words = (t.handlers, t.off, t.on, t.save, t.restore, t.levels) in
    let y : Words = (u.handlers, u.off, u.on, u.save, u.restore, u.levels) in
    let same : x ≡ y = cc in
    subst (λ (z : Words). (n : AreWords z) (p : AreApart z) (l : AreLevels z) (q : AreLevelsApart z) → t ≡ roles_of z n p l q) same
    (λ n p l q.
    ap (λ h. roles_of x h t.apart t.levelled t.levels_apart) (one_proof _ t.named n)
    ∙ (ap (λ h. roles_of x n h t.levelled t.levels_apart) (one_proof _ t.apart p)
    ∙ (ap (λ h. roles_of x n p h t.levels_apart) (one_proof _ t.levelled l)
    ∙ ap (λ h. roles_of x n p l h) (one_proof _ t.levels_apart q))))
    u.named u.apart u.levelled u.levels_apart

one_target : (ss : List Setting) (t u : Target) → GivesTarget ss t → GivesTarget ss u → t ≡ u
one_target ss t u h k = same_target t u (h.int ∙ sym k.int) (h.pointer ∙ sym k.pointer) (h.char ∙ sym k.char) (h.align ∙ sym k.align) (h.atomic ∙ sym k.atomic)

one_role : (ss : List Setting) (t u : Roles) → GivesRoles ss t → GivesRoles ss u → t ≡ u
one_role ss t u h k =
    same_roles t u (h.handlers ∙ sym k.handlers) (h.off ∙ sym k.off) (h.on ∙ sym k.on) (h.save ∙ sym k.save) (h.restore ∙ sym k.restore) (h.levels ∙ sym k.levels)

abbrev pub SaySame : Profile → Profile → Type 0
SaySame p q = (p.target ≡ q.target) × (p.roles ≡ q.roles)

of_rows : (rows : List Row) (p q : Profile) → Gives rows p → Gives rows q → SaySame p q
of_rows rows p q h k =
    let ss = settings_of (map line_of rows) in
    (one_target ss p.target q.target h.target k.target, one_role ss p.roles q.roles h.roles k.roles)

pub one_profile : (files : Files) (name : Option (List ℕ)) (p q : Profile) → IsProfile files name p → IsProfile files name q → SaySame p q
one_profile files _ _ _ (ByDefault p h) (ByDefault q k) = of_rows [] p q h k
one_profile files _ _ _ (ByFile name bytes p there none h) (ByFile _ other q here clean k) =
    of_rows (rows_of bytes) p q h (subst (λ b. Gives (rows_of b) q) (sym (same_text files name bytes other there.there here.there)) k)

-- ---- programs

pub same_program : (profile : Profile) (texts : List (List ℕ)) (p q : Program) → IsProgram profile texts p → IsProgram profile texts q → p ≡ q
same_program profile texts p q h k = one_program profile.target profile.roles texts p q h.reads k.reads

pub not_above : (p : Program) (w : What) (n : ℕ) → IsWithin p → IsAbove p w n → ⊥
not_above p _ _ h (ManyFunctions k) = omega (arith, h.few, k)
not_above p _ _ h (MuchRam few k) = omega (arith, h.small, k)

pub one_limit : (p : Program) (v w : What) (m n : ℕ) → IsAbove p v m → IsAbove p w n → status.Limit v m ≡ status.Limit w n
one_limit p _ _ _ _ (ManyFunctions h) (ManyFunctions k) = refl
one_limit p _ _ _ _ (ManyFunctions h) (MuchRam few k) = absurd (omega (arith, h, few))
one_limit p _ _ _ _ (MuchRam few h) (ManyFunctions k) = absurd (omega (arith, k, few))
one_limit p _ _ _ _ (MuchRam few h) (MuchRam less k) = refl

-- ---- refusals

module _ (names : List (List ℕ)) (profile : Profile) (texts : List (List ℕ)) where
  pub program_not_refused : (p : Program) (s : Status) → IsProgram profile texts p → TellsRefusal names profile texts s → ⊥
  program_not_refused p s h k = not_refused profile.target profile.roles texts p k.refusal h.reads h.low k.refused

  pub one_refusal : (s t : Status) → TellsRefusal names profile texts s → TellsRefusal names profile texts t → s ≡ t
  one_refusal s t h k =
      let same : h.refusal ≡ k.refusal = one_cause profile.target profile.roles texts h.refusal k.refusal h.refused k.refused in
      h.told ∙ (ap (λ (e : Refusal). status.Refused (slice_index_or names e.file []) e.why) same ∙ sym k.told)

-- ---- a profile that says the same of target and roles

module _ (p q : Profile) (same : SaySame p q) (texts : List (List ℕ)) where
  pub program_as : (r : Program) → IsProgram q texts r → IsProgram p texts r
  program_as r h = record { reads = subst (λ t. Reads texts t p.roles r) (sym same.0) (subst (λ o. Reads texts q.target o r) (sym same.1) h.reads); low = h.low }

  refused_as : (e : Refusal) → IsRefused q.target q.roles texts e → IsRefused p.target p.roles texts e
  refused_as e h = subst (λ t. IsRefused t p.roles texts e) (sym same.0) (subst (λ o. IsRefused q.target o texts e) (sym same.1) h)

  pub refusal_as : (names : List (List ℕ)) (s : Status) → TellsRefusal names q texts s → TellsRefusal names p texts s
  refusal_as names s h = record { refusal = h.refusal; refused = refused_as h.refusal h.refused; told = h.told }
