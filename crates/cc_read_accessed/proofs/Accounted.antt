-- Devices without a name of a state are accessed by bodies of functions that there are, unless one is defined twice; and what keeps it so.
use Rattle.std.proofs.Common.{◌≡◌, ◌⊎◌, inl, inr, ℕ, zero, suc, true, List, [], ◌∷◌, Option, Some, refl, ap, ◌∙◌, arith}
use Rattle.std.specs.Prelude.{nat_lt, slice_get}
use Rattle.std.proofs.lemmas.Bool.{lt-ltb, ltb-true}
use Rattle.cc_accessed_operands.specs.Accessed.{list_accesses}
use Rattle.cc_accessed_terms.specs.Accounted.{is_numbered_at, is_numbered_entry, is_numbered_kind}
use Rattle.cc_program.specs.declared.func.Entry.{Entry}
use Rattle.cc_program.specs.declared.func.Func.{Func}
use Rattle.cc_program.specs.declared.types.CType.{CType}
use Rattle.cc_read_accessed.proofs.Keeping.{AreOnce, Keeps}
use Rattle.cc_type.specs.CcScopes.Definitions.{defined_at}
use Rattle.cc_type.specs.CcScopes.State.{State, change_at, change_name}
use Rattle.cc_type.specs.CcScopes.declared.unit.Declared.{Declared}
use Rattle.cc_type.specs.CcUnit.declared.unit.UnitKind.TheVariants as kind

-- a function that has a body, which reads or writes the device of that number
pub record IsAccessedAt (s : State) (i : ℕ) : Type 0 where
  pub number : ℕ
  pub declared : Declared
  pub entry : Option Entry
  pub func : Func
  pub there : slice_get s.names number ≡ Some declared
  pub defined : declared.kind ≡ kind.Func entry (Some func)
  pub counted : nat_lt 0 declared.definitions ≡ true
  pub accesses : list_accesses i func.body ≡ true

-- a function that is defined twice
pub record IsDoubled (s : State) : Type 0 where
  pub number : ℕ
  pub declared : Declared
  pub entry : Option Entry
  pub func : Option Func
  pub there : slice_get s.names number ≡ Some declared
  pub defined : declared.kind ≡ kind.Func entry func
  pub twice : nat_lt 1 declared.definitions ≡ true

abbrev pub Counts : State → ℕ → Type 0
Counts s i = IsAccessedAt s i ⊎ IsDoubled s

pub record AreAccounted (s : State) : Type 0 where
  pub accessed : (i : ℕ) → is_numbered_at s i ≡ true → Counts s i
  pub once : AreOnce s.names

-- ---- what keeps functions

accessed_kept : (s t : State) (i : ℕ) → Keeps s t → IsAccessedAt s i → IsAccessedAt t i
accessed_kept s t i k a =
    let e = k.stays a.number a.declared a.there in
    let f = e.2.functions a.entry (Some a.func) a.defined in
    record { number = a.number; declared = e.0; entry = f.0; func = a.func; there = e.1; defined = f.1; counted = ap (nat_lt 0) f.2 ∙ a.counted; accesses = a.accesses }

doubled_kept : (s t : State) → Keeps s t → IsDoubled s → IsDoubled t
doubled_kept s t k a =
    let e = k.stays a.number a.declared a.there in
    let f = e.2.functions a.entry a.func a.defined in
    record { number = a.number; declared = e.0; entry = f.0; func = a.func; there = e.1; defined = f.1; twice = ap (nat_lt 1) f.2 ∙ a.twice }

pub counts_kept : (s t : State) (i : ℕ) → Keeps s t → Counts s i → Counts t i
counts_kept s t i k (inl a) = inl (accessed_kept s t i k a)
counts_kept s t i k (inr d) = inr (doubled_kept s t k d)

-- ---- a function is defined

told_at : (xs : List Declared) (n : ℕ) (change : Declared → Declared) (j : ℕ) (d : Declared) → slice_get xs j ≡ Some d → (slice_get (change_at n change xs) j ≡ Some d) ⊎ (slice_get (change_at n change xs) j ≡ Some (change d))
told_at [] n change j d h = absurd (cc)
told_at (x ∷ xs) zero change zero d h = inr (let e : x ≡ d = cc in ap (λ (z : Declared). Some (change z)) e)
told_at (x ∷ xs) zero change (suc j) d h = inl h
told_at (x ∷ xs) (suc n) change zero d h = inl h
told_at (x ∷ xs) (suc n) change (suc j) d h = told_at xs n change j d h

once_more : (n : ℕ) → nat_lt 0 n ≡ true → nat_lt 1 (suc n) ≡ true
once_more n h = let l = ltb-true 0 n h in lt-ltb 1 (suc n) (omega (arith, l))

twice_more : (n : ℕ) → nat_lt 1 n ≡ true → nat_lt 1 (suc n) ≡ true
twice_more n h = let l = ltb-true 1 n h in lt-ltb 1 (suc n) (omega (arith, l))

module _ (n at : ℕ) (t : CType) (by : Option Entry) (f : Func) (s : State) where
  abbrev told : Declared → Declared
  told d = defined_at at t (kind.Func by (Some f)) d

  abbrev after : State
  after = change_name n told s

  accessed_told : (i : ℕ) (a : IsAccessedAt s i) → (slice_get after.names a.number ≡ Some a.declared) ⊎ (slice_get after.names a.number ≡ Some (told a.declared)) → Counts after i
  accessed_told i a (inl h) = inl (record { number = a.number; declared = a.declared; entry = a.entry; func = a.func; there = h; defined = a.defined; counted = a.counted; accesses = a.accesses })
  accessed_told i a (inr h) = inr (record { number = a.number; declared = told a.declared; entry = by; func = Some f; there = h; defined = refl; twice = once_more a.declared.definitions a.counted })

  doubled_told : (a : IsDoubled s) → (slice_get after.names a.number ≡ Some a.declared) ⊎ (slice_get after.names a.number ≡ Some (told a.declared)) → IsDoubled after
  doubled_told a (inl h) = record { number = a.number; declared = a.declared; entry = a.entry; func = a.func; there = h; defined = a.defined; twice = a.twice }
  doubled_told a (inr h) = record { number = a.number; declared = told a.declared; entry = by; func = Some f; there = h; defined = refl; twice = twice_more a.declared.definitions a.twice }

  pub counts_told : (i : ℕ) → Counts s i → Counts after i
  counts_told i (inl a) = accessed_told i a (told_at s.names n told a.number a.declared a.there)
  counts_told i (inr a) = inr (doubled_told a (told_at s.names n told a.number a.declared a.there))

-- ---- which devices there are, where an entry is told more of

pub numbered_changed : (xs : List Declared) (n : ℕ) (change : Declared → Declared) → ((d : Declared) → is_numbered_kind (change d).kind ≡ true → is_numbered_kind d.kind ≡ true) → (i : ℕ) →
    is_numbered_entry (slice_get (change_at n change xs) i) ≡ true → is_numbered_entry (slice_get xs i) ≡ true
numbered_changed [] n change f i h = h
numbered_changed (x ∷ xs) zero change f zero h = f x h
numbered_changed (x ∷ xs) zero change f (suc i) h = h
numbered_changed (x ∷ xs) (suc n) change f zero h = h
numbered_changed (x ∷ xs) (suc n) change f (suc i) h = numbered_changed xs n change f i h

-- what declares no such device and keeps functions
pub accounted_kept : (s t : State) → Keeps s t → ((i : ℕ) → is_numbered_at t i ≡ true → is_numbered_at s i ≡ true) → AreAccounted s → AreAccounted t
accounted_kept s t k f a = record { accessed = λ i h. counts_kept s t i k (a.accessed i (f i h)); once = k.once a.once }
