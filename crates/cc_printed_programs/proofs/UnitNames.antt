-- The names of the unit that a program's text is, by their positions: devices with names, functions, objects, devices without names.
use Rattle.std.proofs.Common.{◌≡◌, ◌∙◌, ◌⊎◌, inl, inr, ◌+◌, ◌<◌, ◌≤◌, ℕ, zero, suc, Bool, true, false, not, cond, List, [], ◌∷◌, ◌++◌, length, map, filter, Some, slice_get, refl, ap, sym, arith}
use Rattle.std.proofs.lemmas.Bool.{lt-ltb, le-ltb}
use Rattle.cc_program.specs.declared.func.Func.{Func}
use Rattle.cc_program.specs.declared.object.Device.{Device}
use Rattle.cc_program.specs.declared.object.Object.{Object}
use Rattle.cc_program.specs.declared.program.Program.{Program}
use Rattle.cc_shown_declarations.specs.UnitNumbers.{first_function, first_object, device_number}
use Rattle.cc_printed_programs.specs.Units.{positioned_from, device_shown, function_shown, object_shown, functions_shown, objects_shown, names_shown}
use Rattle.cc_printed_programs.proofs.ShownLists.{get-left, get-right, get-split, get-map, get-unmap, within, first-then, filter-same}
use Rattle.cc_structures.proofs.Elements.{In, length-map_of}
use Rattle.cc_type.specs.CcSyntax.Lists.{come_first}
use Rattle.cc_type.specs.CcSyntax.Normal.{has_name, count_named}
use Rattle.cc_type.specs.CcSyntax.Sound.{is_numbered}
use Rattle.cc_type.specs.CcUnit.declared.unit.UnitName.{UnitName}

-- ---- elements with their positions

pub length-positioned : {A B : Type 0} (f : ℕ → A → B) (i : ℕ) (xs : List A) → length (positioned_from f i xs) ≡ length xs
length-positioned f i [] = refl
length-positioned f i (x ∷ xs) = ap suc (length-positioned f (suc i) xs)

get-positioned : {A B : Type 0} (f : ℕ → A → B) (i j k : ℕ) (xs : List A) (x : A) → k ≡ i + j → slice_get xs j ≡ Some x → slice_get (positioned_from f i xs) j ≡ Some (f k x)
get-positioned f i j k [] x h e = absurd (cc)
get-positioned {A} {B} f i zero k (y ∷ xs) x h e =
    let s : y ≡ x = cc e in
    let z : i ≡ k = omega (arith, h) in
    ap (λ (y : A). Some (f i y)) s ∙ ap (λ (j : ℕ). Some (f j x)) z
get-positioned f i (suc j) k (y ∷ xs) x h e = get-positioned f (suc i) j k xs x (omega (arith, h)) e

from-positioned : {A B : Type 0} (f : ℕ → A → B) (i j : ℕ) (xs : List A) (y : B) → slice_get (positioned_from f i xs) j ≡ Some y → (x : A) × (slice_get xs j ≡ Some x) × (y ≡ f (i + j) x)
from-positioned f i j [] y e = absurd (cc)
from-positioned {A} {B} f i zero (x ∷ xs) y e =
    let s : f i x ≡ y = cc e in
    let z : i ≡ i + 0 = omega arith in
    (x, refl, sym s ∙ ap (λ (j : ℕ). f j x) z)
from-positioned {A} {B} f i (suc j) (x ∷ xs) y e =
    let r = from-positioned f (suc i) j xs y e in
    let z : suc i + j ≡ i + suc j = omega arith in
    (r.0, r.1, r.2 ∙ ap (λ (j : ℕ). f j r.0) z)

pub in-positioned : {A B : Type 0} (f : ℕ → A → B) (test : B → Bool) (b : Bool) → ((i : ℕ) (x : A) → test (f i x) ≡ b) → (i : ℕ) (xs : List A) (y : B) → In y (positioned_from f i xs) → test y ≡ b
in-positioned f test b h i [] y k = absurd k
in-positioned f test b h i (x ∷ xs) y (inl e) = sym (ap test e) ∙ h i x
in-positioned f test b h i (x ∷ xs) y (inr k) = in-positioned f test b h (suc i) xs y k

pub in-mapped : {A B : Type 0} (f : A → B) (test : B → Bool) (b : Bool) → ((x : A) → test (f x) ≡ b) → (xs : List A) (y : B) → In y (map f xs) → test y ≡ b
in-mapped f test b h [] y k = absurd k
in-mapped f test b h (x ∷ xs) y (inl e) = sym (ap test e) ∙ h x
in-mapped f test b h (x ∷ xs) y (inr k) = in-mapped f test b h xs y k

pub map-positioned : {A B C : Type 0} (f : ℕ → A → B) (g : B → C) (h : A → C) → ((i : ℕ) (x : A) → g (f i x) ≡ h x) → (i : ℕ) (xs : List A) → map g (positioned_from f i xs) ≡ map h xs
map-positioned f g h e i [] = refl
map-positioned f g h e i (x ∷ xs) = rw (e i x, map-positioned f g h e (suc i) xs) refl

pub passes-at : {A : Type 0} (test : A → Bool) (xs : List A) (i : ℕ) (x : A) → slice_get (filter test xs) i ≡ Some x → test x ≡ true
passes-at test [] i x e = absurd (cc)
passes-at {A} test (y ∷ xs) i x e = by (test y) refl i e (passes-at test xs)
  where
    by : (b : Bool) → test y ≡ b → (i : ℕ) → slice_get (cond b (y ∷ filter test xs) (filter test xs)) i ≡ Some x → ((j : ℕ) (z : A) → slice_get (filter test xs) j ≡ Some z → test z ≡ true) → test x ≡ true
    by true h zero e rest = let s : y ≡ x = cc e in sym (ap test s) ∙ h
    by true h (suc i) e rest = rest i x e
    by false h i e rest = rest i x e

pub not-not : (b : Bool) → not (not b) ≡ b
not-not true = refl
not-not false = refl

module _ (p : Program) where
  abbrev pub named : List Device
  named = filter has_name p.devices

  abbrev pub numbered : List Device
  numbered = filter is_numbered p.devices

  pub devices-are : come_first has_name p.devices ≡ true → filter has_name p.devices ++ filter is_numbered p.devices ≡ p.devices
  devices-are order =
      ap (λ (ds : List Device). named ++ ds) (filter-same is_numbered (λ (d : Device). not (has_name d)) p.devices (λ d. sym (not-not (is_numbered d))))
      ∙ first-then has_name p.devices order

module _ (p : Program) (function_at object_at : ℕ → ℕ) where
  abbrev names : List UnitName
  names = names_shown p function_at object_at

  abbrev front : List UnitName
  front = map device_shown (named p)

  abbrev back : List UnitName
  back = map device_shown (numbered p)

  front-many : length front ≡ count_named p.devices
  front-many = length-map_of device_shown (named p)

  functions-many : length (functions_shown p function_at object_at) ≡ length p.funcs
  functions-many = length-positioned (λ i f. function_shown p (function_at i) f) 0 p.funcs

  objects-many : length (objects_shown p function_at object_at) ≡ length p.objects
  objects-many = length-positioned (λ i o. object_shown p (object_at i) o) 0 p.objects

  -- ---- where each stands

  pub named-there : (i : ℕ) (d : Device) → slice_get (named p) i ≡ Some d → slice_get names i ≡ Some (device_shown d)
  named-there i d e = get-left front (functions_shown p function_at object_at ++ (objects_shown p function_at object_at ++ back)) i (device_shown d) (get-map device_shown (named p) i d e)

  pub function-there : (i k : ℕ) (f : Func) → slice_get p.funcs i ≡ Some f → k ≡ first_function p + i → slice_get names k ≡ Some (function_shown p (function_at i) f)
  function-there i k f e h =
      let m = front-many in
      get-right front (functions_shown p function_at object_at ++ (objects_shown p function_at object_at ++ back)) i k (function_shown p (function_at i) f) (omega (arith, h, m))
      (get-left (functions_shown p function_at object_at) (objects_shown p function_at object_at ++ back) i (function_shown p (function_at i) f) (get-positioned (λ i f. function_shown p (function_at i) f) 0 i i p.funcs f (omega arith) e))

  pub object-there : (i k : ℕ) (o : Object) → slice_get p.objects i ≡ Some o → k ≡ first_object p + i → slice_get names k ≡ Some (object_shown p (object_at i) o)
  object-there i k o e h =
      let m = front-many in
      let n = functions-many in
      let inner : length p.funcs + i ≡ length (functions_shown p function_at object_at) + i = omega (arith, n) in
      get-right front (functions_shown p function_at object_at ++ (objects_shown p function_at object_at ++ back)) (length p.funcs + i) k (object_shown p (object_at i) o) (omega (arith, h, m))
      (get-right (functions_shown p function_at object_at) (objects_shown p function_at object_at ++ back) i (length p.funcs + i) (object_shown p (object_at i) o) inner
      (get-left (objects_shown p function_at object_at) back i (object_shown p (object_at i) o) (get-positioned (λ i o. object_shown p (object_at i) o) 0 i i p.objects o (omega arith) e)))

  pub numbered-there : (i k : ℕ) (d : Device) → slice_get (numbered p) i ≡ Some d → k ≡ first_object p + (length p.objects + i) → slice_get names k ≡ Some (device_shown d)
  numbered-there i k d e h =
      let m = front-many in
      let n = functions-many in
      let l = objects-many in
      let inner : length p.funcs + (length p.objects + i) ≡ length (functions_shown p function_at object_at) + (length p.objects + i) = omega (arith, n) in
      let last : length p.objects + i ≡ length (objects_shown p function_at object_at) + i = omega (arith, l) in
      get-right front (functions_shown p function_at object_at ++ (objects_shown p function_at object_at ++ back)) (length p.funcs + (length p.objects + i)) k (device_shown d) (omega (arith, h, m))
      (get-right (functions_shown p function_at object_at) (objects_shown p function_at object_at ++ back) (length p.objects + i) (length p.funcs + (length p.objects + i)) (device_shown d) inner
      (get-right (objects_shown p function_at object_at) back i (length p.objects + i) (device_shown d) last (get-map device_shown (numbered p) i d e)))

  module _ (order : come_first has_name p.devices ≡ true) where
    -- a device, in front or at the end
    pub device-there : (i : ℕ) (d : Device) → slice_get p.devices i ≡ Some d → slice_get names (device_number p i) ≡ Some (device_shown d)
    device-there i d e = by (get-split (named p) (numbered p) i d (ap (λ (ds : List Device). slice_get ds i) (devices-are p order) ∙ e))
      where
        by : (slice_get (named p) i ≡ Some d) ⊎ ((j : ℕ) × (i ≡ length (named p) + j) × (slice_get (numbered p) j ≡ Some d)) → slice_get names (device_number p i) ≡ Some (device_shown d)
        by (inl h) =
            let low = within (named p) i d h in
            let s : device_number p i ≡ i = ap (λ (b : Bool). cond b i (length p.funcs + (length p.objects + i))) (lt-ltb i (count_named p.devices) low) in
            ap (slice_get names) s ∙ named-there i d h
        by (inr h) =
            let g = h.1 in
            let high : count_named p.devices ≤ i = omega (arith, g) in
            let s : device_number p i ≡ length p.funcs + (length p.objects + i) = ap (λ (b : Bool). cond b i (length p.funcs + (length p.objects + i))) (le-ltb i (count_named p.devices) high) in
            numbered-there h.0 (device_number p i) d h.2 (omega (arith, g, s))

    -- ---- what stands at a position

    pub data Shown (k : ℕ) (n : UnitName) : Type 0 where
      NamedDevice : (d : Device) → slice_get p.devices k ≡ Some d → slice_get (named p) k ≡ Some d → has_name d ≡ true → k < count_named p.devices → n ≡ device_shown d → Shown k n
      AFunction : (i : ℕ) (f : Func) → slice_get p.funcs i ≡ Some f → k ≡ first_function p + i → n ≡ function_shown p (function_at i) f → Shown k n
      AnObject : (i : ℕ) (o : Object) → slice_get p.objects i ≡ Some o → k ≡ first_object p + i → n ≡ object_shown p (object_at i) o → Shown k n
      NumberedDevice : (i : ℕ) (d : Device) → slice_get p.devices i ≡ Some d → is_numbered d ≡ true → count_named p.devices ≤ i → k ≡ length p.funcs + (length p.objects + i) → n ≡ device_shown d → Shown k n

    pub shown-at : (k : ℕ) (n : UnitName) → slice_get names k ≡ Some n → Shown k n
    shown-at k n e = first (get-split front (functions_shown p function_at object_at ++ (objects_shown p function_at object_at ++ back)) k n e)
      where
        third : (i : ℕ) → k ≡ first_object p + i → (slice_get (objects_shown p function_at object_at) i ≡ Some n) ⊎ ((j : ℕ) × (i ≡ length (objects_shown p function_at object_at) + j) × (slice_get back j ≡ Some n)) → Shown k n
        third i h (inl g) =
            let r = from-positioned (λ i o. object_shown p (object_at i) o) 0 i p.objects n g in
            let z : 0 + i ≡ i = omega arith in
            AnObject i r.0 r.1 h (r.2 ∙ ap (λ (j : ℕ). object_shown p (object_at j) r.0) z)
        third i h (inr g) =
            let r = get-unmap device_shown (numbered p) g.0 n g.2 in
            let many = objects-many in
            let s = g.1 in
            let there : slice_get p.devices (count_named p.devices + g.0) ≡ Some r.0 =
            ap (λ (ds : List Device). slice_get ds (count_named p.devices + g.0)) (sym (devices-are p order)) ∙ get-right (named p) (numbered p) g.0 (count_named p.devices + g.0) r.0 refl r.1 in
            NumberedDevice (count_named p.devices + g.0) r.0 there (passes-at is_numbered p.devices g.0 r.0 r.1) (omega arith) (omega (arith, h, s, many)) (sym r.2)

        second : (i : ℕ) → k ≡ first_function p + i → (slice_get (functions_shown p function_at object_at) i ≡ Some n) ⊎ ((j : ℕ) × (i ≡ length (functions_shown p function_at object_at) + j) × (slice_get (objects_shown p function_at object_at ++ back) j ≡ Some n)) → Shown k n
        second i h (inl g) =
            let r = from-positioned (λ i f. function_shown p (function_at i) f) 0 i p.funcs n g in
            let z : 0 + i ≡ i = omega arith in
            AFunction i r.0 r.1 h (r.2 ∙ ap (λ (j : ℕ). function_shown p (function_at j) r.0) z)
        second i h (inr g) =
            let many = functions-many in
            let s = g.1 in
            third g.0 (omega (arith, h, s, many)) (get-split (objects_shown p function_at object_at) back g.0 n g.2)

        first : (slice_get front k ≡ Some n) ⊎ ((i : ℕ) × (k ≡ length front + i) × (slice_get (functions_shown p function_at object_at ++ (objects_shown p function_at object_at ++ back)) i ≡ Some n)) → Shown k n
        first (inl g) =
            let r = get-unmap device_shown (named p) k n g in
            let there : slice_get p.devices k ≡ Some r.0 = ap (λ (ds : List Device). slice_get ds k) (sym (devices-are p order)) ∙ get-left (named p) (numbered p) k r.0 r.1 in
            NamedDevice r.0 there r.1 (passes-at has_name p.devices k r.0 r.1) (within (named p) k r.0 r.1) (sym r.2)
        first (inr g) =
            let many = front-many in
            let s = g.1 in
            second g.0 (omega (arith, s, many)) (get-split (functions_shown p function_at object_at) (objects_shown p function_at object_at ++ back) g.0 n g.2)
