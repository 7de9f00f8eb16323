-- Where devices without names are used in their order, each is declared by its first use: what is known of them, use by use.
use Rattle.std.proofs.Common.{arith, ◌≡◌, ℕ, ◌+◌, ◌-◌, ◌<◌, ◌≤◌, zero, suc, Bool, true, false, not, ◌&&◌, ◌||◌, nat_eq, nat_lt, List, [], ◌∷◌, ◌++◌, map, length, length-append, take, drop, Option, Some, None, refl, ap, sym, ◌∙◌, subst, slice_get, append_assoc, append-nil, eqb-true, ltb-true, eq-eqb}
use Rattle.std.specs.Prelude.{if◌then◌else◌}
use Rattle.std.specs.List.{list_any}
use Rattle.std.specs.Option.{is_some, is_none}
use Rattle.cc_type.specs.CcTypedTerms.Devices.{declared_device, names_device, number_of}
use Rattle.cc_program.specs.declared.object.Device.{Device}
use Rattle.cc_program.specs.declared.program.Program.{Program}
use Rattle.cc_type.specs.CcScopes.State.{State, with_names, with_declared}
use Rattle.cc_type.specs.CcScopes.declared.unit.Declared.{Declared}
use Rattle.cc_type.specs.CcSyntax.Normal.{next_of}
use Rattle.cc_type.specs.CcSyntax.SameTypes.{same_int, same_flag}
use Rattle.cc_type.specs.CcSyntax.Sound.{is_numbered, is_same_device, devices_differ}
use Rattle.cc_type.proofs.CcSyntax.Prefixes.{both_true}
use Rattle.cc_type.proofs.CcSyntax.SameLemmas.{int_same, int_itself, and_true}
use Rattle.cc_shown_expressions.specs.OperationNumbers.{Numbers}
use Rattle.cc_shown_names.specs.Devices.{DeviceFrom, HasName, Again, AtFirst, DevicesFrom, KnowsDevices, between, with_devices}
use Rattle.cc_shown_names.proofs.Positions.{position-stays, position-new, position-none}

-- ---- devices that are the same

nat-same : (m n : ℕ) → nat_eq m n ≡ true → m ≡ n
nat-same m n h = eqb-true m n h

nat-itself : (m : ℕ) → nat_eq m m ≡ true
nat-itself m = eq-eqb m m refl

below-of : (m n : ℕ) → nat_lt m n ≡ true → m < n
below-of m n h = ltb-true m n h

below-other : (a i : ℕ) → nat_eq i a ≡ false → i < a + 1 → i < a
below-other a i q l = grind (arith, l, q)

flag-same : (a b : Bool) → same_flag a b ≡ true → a ≡ b
flag-same true true h = refl
flag-same true false h = absurd (cc)
flag-same false true h = absurd (cc)
flag-same false false h = refl

flag-itself : (a : Bool) → same_flag a a ≡ true
flag-itself true = refl
flag-itself false = refl

is-itself : (d : Device) → d.name ≡ None → is_same_device d d ≡ true
is-itself d h =
    let k : is_numbered d ≡ true = ap (λ (o : Option (List ℕ)). is_none o) h in
    and_true (is_numbered d) (is_numbered d && (nat_eq d.number d.number && (same_int d.int d.int && same_flag d.constant d.constant))) k
    (and_true (is_numbered d) (nat_eq d.number d.number && (same_int d.int d.int && same_flag d.constant d.constant)) k
    (and_true (nat_eq d.number d.number) (same_int d.int d.int && same_flag d.constant d.constant) (nat-itself d.number)
    (and_true (same_int d.int d.int) (same_flag d.constant d.constant) (int_itself d.int) (flag-itself d.constant))))

same-turned : (d e : Device) → is_same_device d e ≡ true → is_same_device e d ≡ true
same-turned d e h =
    let a = both_true (is_numbered d) (is_numbered e && (nat_eq d.number e.number && (same_int d.int e.int && same_flag d.constant e.constant))) h in
    let b = both_true (is_numbered e) (nat_eq d.number e.number && (same_int d.int e.int && same_flag d.constant e.constant)) a.1 in
    let c = both_true (nat_eq d.number e.number) (same_int d.int e.int && same_flag d.constant e.constant) b.1 in
    let g = both_true (same_int d.int e.int) (same_flag d.constant e.constant) c.1 in
    and_true (is_numbered e) (is_numbered d && (nat_eq e.number d.number && (same_int e.int d.int && same_flag e.constant d.constant))) b.0
    (and_true (is_numbered d) (nat_eq e.number d.number && (same_int e.int d.int && same_flag e.constant d.constant)) a.0
    (and_true (nat_eq e.number d.number) (same_int e.int d.int && same_flag e.constant d.constant) (eq-eqb e.number d.number (sym (nat-same d.number e.number c.0)))
    (and_true (same_int e.int d.int) (same_flag e.constant d.constant) (ap (λ t. same_int t d.int) (sym (int_same d.int e.int g.0)) ∙ int_itself d.int) (ap (λ b. same_flag b d.constant) (sym (flag-same d.constant e.constant g.1)) ∙ flag-itself d.constant))))

not-true : (b : Bool) → (b ≡ true → ⊥) → b ≡ false
not-true true h = absurd (h refl)
not-true false h = refl

not-false : (b : Bool) → not b ≡ true → b ≡ false
not-false true h = absurd (cc)
not-false false h = refl

neither : (a b : Bool) → a || b ≡ false → (a ≡ false) × (b ≡ false)
neither true b h = absurd (cc)
neither false b h = (refl, h)

no-any : {A : Type 0} → (test : A → Bool) (xs : List A) (i : ℕ) (x : A) → list_any test xs ≡ false → slice_get xs i ≡ Some x → test x ≡ false
no-any test [] i x h e = absurd (cc)
no-any test (y ∷ ys) zero x h e = let k : y ≡ x = cc in ap test (sym k) ∙ (neither (test y) (list_any test ys) h).0
no-any test (y ∷ ys) (suc i) x h e = no-any test ys i x (neither (test y) (list_any test ys) h).1 e

differ-at : (ds : List Device) (a i : ℕ) (d e : Device) → devices_differ ds ≡ true → slice_get ds a ≡ Some d → slice_get ds i ≡ Some e → a < i → is_same_device d e ≡ false
differ-at [] a i d e h g k l = absurd (cc)
differ-at (c ∷ ds) zero zero d e h g k l = absurd (omega (arith, l))
differ-at (c ∷ ds) zero (suc i) d e h g k l =
    let q = not-false (list_any (is_same_device c) ds) (both_true (not (list_any (is_same_device c) ds)) (devices_differ ds) h).0 in
    let same : c ≡ d = cc in
    ap (λ (c : Device). is_same_device c e) (sym same) ∙ no-any (is_same_device c) ds i e q k
differ-at (c ∷ ds) (suc a) zero d e h g k l = absurd (omega (arith, l))
differ-at (c ∷ ds) (suc a) (suc i) d e h g k l = differ-at ds a i d e (both_true (not (list_any (is_same_device c) ds)) (devices_differ ds) h).1 g k (omega (arith, l))

differ-back : (ds : List Device) (a i : ℕ) (d e : Device) → devices_differ ds ≡ true → slice_get ds a ≡ Some d → slice_get ds i ≡ Some e → a < i → is_same_device e d ≡ false
differ-back ds a i d e h g k l = not-true (is_same_device e d) (λ q. let r : true ≡ false = sym (same-turned e d q) ∙ differ-at ds a i d e h g k l in cc)

-- ---- lists

there : {A : Type 0} → (xs : List A) (i : ℕ) → i < length xs → (x : A) × (slice_get xs i ≡ Some x)
there [] i h = absurd (omega (arith, h))
there (x ∷ xs) zero h = (x, refl)
there (x ∷ xs) (suc i) h = there xs i (omega (arith, h))

drop-at : {A : Type 0} → (xs : List A) (a : ℕ) (x : A) → slice_get xs a ≡ Some x → drop a xs ≡ x ∷ drop (a + 1) xs
drop-at [] a x h = absurd (cc)
drop-at (y ∷ xs) zero x h = let k : y ≡ x = cc in let e : 0 + 1 ≡ suc 0 = omega arith in ap (λ z. z ∷ xs) k ∙ ap (λ m. x ∷ drop m (y ∷ xs)) (sym e)
drop-at (y ∷ xs) (suc a) x h = let e : suc a + 1 ≡ suc (a + 1) = omega arith in drop-at xs a x h ∙ ap (λ m. x ∷ drop m (y ∷ xs)) (sym e)

between-more : {A : Type 0} → (xs : List A) (a b : ℕ) (x : A) → slice_get xs a ≡ Some x → a + 1 ≤ b → between a b xs ≡ x ∷ between (a + 1) b xs
between-more xs a b x h l =
    let e : b - a ≡ suc (b - (a + 1)) = omega (arith, l) in
    ap (λ m. take m (drop a xs)) e ∙ ap (λ ys. take (suc (b - (a + 1))) ys) (drop-at xs a x h)

between-none : {A : Type 0} → (xs : List A) (a : ℕ) → between a a xs ≡ []
between-none xs a = let e : a - a ≡ zero = omega arith in ap (λ m. take m (drop a xs)) e

-- ---- what comes next

next-by : (b c : Bool) (a i m : ℕ) (is : List ℕ) → ((a b : ℕ) → next_of a is ≡ Some b → a ≤ b) → (if b then next_of a is else (if c then next_of (a + 1) is else None)) ≡ Some m → a ≤ m
next-by true c a i m is f h = f a m h
next-by false true a i m is f h = let l = f (a + 1) m h in omega (arith, l)
next-by false false a i m is f h = absurd (cc)

pub next-least : (is : List ℕ) (a b : ℕ) → next_of a is ≡ Some b → a ≤ b
next-least [] a b h = let e : a ≡ b = cc in omega (arith, e)
next-least (i ∷ is) a b h = next-by (nat_lt i a) (nat_eq i a) a i b is (next-least is) h

module _ (p : Program) (n : Numbers) (differ : devices_differ p.devices ≡ true) where
  -- ---- a first use

  length-more : (names : List Declared) (d : Declared) → length (names ++ d ∷ []) ≡ length names + 1
  length-more names d = length-append names (d ∷ [])

  known-by : (a i : ℕ) (c : Bool) (d e : Device) (names : List Declared) → nat_eq i a ≡ c → KnowsDevices p n a names → slice_get p.devices a ≡ Some d → slice_get p.devices i ≡ Some e → e.name ≡ None → i < a + 1 →
      number_of e (names ++ declared_device d ∷ []) ≡ Some (n.device i)
  known-by a i true d e names q k at h none l =
      let same : i ≡ a = nat-same i a q in
      let one : Some e ≡ Some d = sym h ∙ ap (slice_get p.devices) same ∙ at in
      let it : e ≡ d = cc in
      let far : a ≤ a = omega arith in
      let zeros : length names + (a - a) ≡ length names = omega arith in
      position-new (λ x. names_device e x.kind) names (declared_device d) (ap (λ (e : Device). number_of e names) it ∙ k.unknown a d at far) (ap (λ (e : Device). is_same_device e d) it ∙ is-itself d (k.nameless a d at far))
      ∙ ap (λ m. Some m) (sym (k.next a d at far ∙ zeros) ∙ ap n.device (sym same))
  known-by a i false d e names q k at h none l =
      position-stays (λ x. names_device e x.kind) names (declared_device d ∷ []) (n.device i) (k.known i e h none (below-other a i q l))

  knows-first : (a : ℕ) (d : Device) (names : List Declared) → KnowsDevices p n a names → slice_get p.devices a ≡ Some d → KnowsDevices p n (a + 1) (names ++ declared_device d ∷ [])
  knows-first a d names k at = record {
    nameless = λ i e h l. k.nameless i e h (omega (arith, l));
    known = λ i e h none l. known-by a i (nat_eq i a) d e names refl k at h none l;
    unknown = λ i e h l. position-none (λ x. names_device e x.kind) names (declared_device d) (k.unknown i e h (omega (arith, l))) (differ-back p.devices a i d e differ at h (omega (arith, l)));
    next = λ i e h l. let g = k.next i e h (omega (arith, l)) in let m = length-more names (declared_device d) in omega (arith, g, m, l);
  }

  -- ---- uses in order

  abbrev Known : ℕ → ℕ → List ℕ → State → Type 0
  Known a b is s = DevicesFrom p n is s (with_devices p a b s) × KnowsDevices p n b (with_devices p a b s).names

  none-used : (a : ℕ) (s : State) → s ≡ with_devices p a a s
  none-used a s = ap (λ xs. with_names xs s) (sym (append-nil s.names) ∙ ap (λ ds. s.names ++ map declared_device ds) (sym (between-none p.devices a)))

  first-used : (a b : ℕ) (d : Device) (s : State) → slice_get p.devices a ≡ Some d → a + 1 ≤ b → with_devices p (a + 1) b (with_declared (declared_device d) s) ≡ with_devices p a b s
  first-used a b d s at l =
      ap (λ xs. with_names xs s) (append_assoc s.names (declared_device d ∷ []) (map declared_device (between (a + 1) b p.devices)) ∙ ap (λ ds. s.names ++ map declared_device ds) (sym (between-more p.devices a b d at l)))

  again-by : (i a : ℕ) (o : Option (List ℕ)) (d : Device) (s : State) → d.name ≡ o → slice_get p.devices i ≡ Some d → i < a → KnowsDevices p n a s.names → DeviceFrom p n i s s
  again-by i a (Some x) d s e h l k = HasName d h (ap (λ (o : Option (List ℕ)). is_some o) e)
  again-by i a None d s e h l k = Again d h e (k.known i d h e l)

  used-by : (c e : Bool) (i : ℕ) (is : List ℕ) (a b : ℕ) (s : State) → nat_lt i a ≡ c → nat_eq i a ≡ e → KnowsDevices p n a s.names → (if c then next_of a is else (if e then next_of (a + 1) is else None)) ≡ Some b → b ≤ length p.devices →
      ((a b : ℕ) (s : State) → KnowsDevices p n a s.names → next_of a is ≡ Some b → b ≤ length p.devices → Known a b is s) → Known a b (i ∷ is) s
  used-by true e i is a b s g q k h l f =
      let low = below-of i a g in
      let least = next-least is a b h in
      let d = there p.devices i (omega (arith, low, least, l)) in
      let r = f a b s k h l in
      ((s, again-by i a d.0.name d.0 s refl d.1 low k, r.0), r.1)
  used-by false true i is a b s g q k h l f =
      let same : a ≡ i = sym (nat-same i a q) in
      let least = next-least is (a + 1) b h in
      let d = there p.devices a (omega (arith, least, l)) in
      let far : a ≤ a = omega arith in
      let zeros : length s.names + (a - a) ≡ length s.names = omega arith in
      let u = with_declared (declared_device d.0) s in
      let r = f (a + 1) b u (knows-first a d.0 s.names k d.1) h l in
      let used : DeviceFrom p n a s u = AtFirst d.0 d.1 (k.nameless a d.0 d.1 far) (k.unknown a d.0 d.1 far) (k.next a d.0 d.1 far ∙ zeros) in
      let all = first-used a b d.0 s d.1 least in
      ((u, subst (λ i. DeviceFrom p n i s u) same used, subst (λ t. DevicesFrom p n is u t) all r.0), subst (λ (t : State). KnowsDevices p n b t.names) all r.1)
  used-by false false i is a b s g q k h l f = absurd (cc)

  pub uses-known : (is : List ℕ) (a b : ℕ) (s : State) → KnowsDevices p n a s.names → next_of a is ≡ Some b → b ≤ length p.devices → Known a b is s
  uses-known [] a b s k h l =
      let e : a ≡ b = cc in
      subst (λ b. Known a b [] s) e (none-used a s, subst (λ (t : State). KnowsDevices p n a t.names) (none-used a s) k)
  uses-known (i ∷ is) a b s k h l = used-by (nat_lt i a) (nat_eq i a) i is a b s refl refl k h l (uses-known is)
