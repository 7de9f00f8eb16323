-- Devices in another order: those without names differ from one another as they did.
use Rattle.std.proofs.Common.{◌≡◌, ◌≢◌, ◌∙◌, ℕ, zero, suc, Bool, true, false, List, [], ◌∷◌, ◌++◌, Option, Some, None, slice_get, refl, ap, sym, subst}
use Rattle.std.specs.Prelude.{nat_eq, not, ◌&&◌, option_to_list}
use Rattle.std.specs.List.{list_any, list_all}
use Rattle.std.proofs.lemmas.Bool.{true≢false, and_parts, and_from, or_parts, or_from, not-true, not_from_false, false_from_ne_true, eq-eqb, eqb-true}
use Rattle.std.proofs.lemmas.Option.{same_Some}
use Rattle.cc_program.specs.CcNum.declared.int_type.IntType.{IntType}
use Rattle.cc_program.specs.declared.object.Device.{Device}
use Rattle.cc_syntax.specs.SameTypes.{same_int, same_flag}
use Rattle.cc_syntax.specs.Sound.{is_numbered, is_same_device, devices_differ}
use Rattle.cc_syntax.proofs.SameLemmas.{int_same, int_itself}
use Rattle.cc_lower_numbers.specs.Order.{arranged}
use Rattle.cc_lower_numbers_sound.proofs.Orders.{has, once, arranged-all}

flag_mirrored : (a b : Bool) → same_flag a b ≡ true → same_flag b a ≡ true
flag_mirrored true true h = refl
flag_mirrored true false h = absurd (true≢false (sym h))
flag_mirrored false true h = absurd (true≢false (sym h))
flag_mirrored false false h = refl

int_mirrored : (s t : IntType) → same_int s t ≡ true → same_int t s ≡ true
int_mirrored s t h = subst (λ (x : IntType). same_int t x ≡ true) (sym (int_same s t h)) (int_itself t)

mirrored : (d e : Device) → is_same_device d e ≡ true → is_same_device e d ≡ true
mirrored d e h =
    let numbers : Bool = nat_eq d.number e.number in
    let ints : Bool = same_int d.int e.int in
    let flags : Bool = same_flag d.constant e.constant in
    let a = and_parts (is_numbered d) (is_numbered e && (numbers && (ints && flags))) h in
    let b = and_parts (is_numbered e) (numbers && (ints && flags)) a.1 in
    let c = and_parts numbers (ints && flags) b.1 in
    let g = and_parts ints flags c.1 in
    and_from (is_numbered e) (is_numbered d && (nat_eq e.number d.number && (same_int e.int d.int && same_flag e.constant d.constant))) b.0
    (and_from (is_numbered d) (nat_eq e.number d.number && (same_int e.int d.int && same_flag e.constant d.constant)) a.0
    (and_from (nat_eq e.number d.number) (same_int e.int d.int && same_flag e.constant d.constant) (eq-eqb e.number d.number (sym (eqb-true d.number e.number c.0)))
    (and_from (same_int e.int d.int) (same_flag e.constant d.constant) (int_mirrored d.int e.int g.0) (flag_mirrored d.constant e.constant g.1))))

none_at : {A : Type 0} (test : A → Bool) (xs : List A) (i : ℕ) (x : A) → list_any test xs ≡ false → slice_get xs i ≡ Some x → test x ≡ false
none_at test [] i x h e = absurd (cc)
none_at test (y ∷ xs) zero x h e = subst (λ z. test z ≡ false) (same_Some y x e) (or_parts (test y) (list_any test xs) h).0
none_at test (y ∷ xs) (suc i) x h e = none_at test xs i x (or_parts (test y) (list_any test xs) h).1 e

pub none_from : {A : Type 0} (test : A → Bool) (xs : List A) → list_all (λ x. not (test x)) xs ≡ true → list_any test xs ≡ false
none_from test [] h = refl
none_from test (x ∷ xs) h =
    let p = and_parts (not (test x)) (list_all (λ x. not (test x)) xs) h in or_from (test x) (list_any test xs) (not-true (test x) p.0) (none_from test xs p.1)

differ_at : (ds : List Device) (i j : ℕ) (d e : Device) → devices_differ ds ≡ true → i ≢ j → slice_get ds i ≡ Some d → slice_get ds j ≡ Some e → is_same_device d e ≡ false
differ_at [] i j d e h n a b = absurd (cc)
differ_at (x ∷ ds) zero zero d e h n a b = absurd (n refl)
differ_at (x ∷ ds) zero (suc j) d e h n a b =
    let p = and_parts (not (list_any (is_same_device x) ds)) (devices_differ ds) h in
    subst (λ (z : Device). is_same_device z e ≡ false) (same_Some x d a) (none_at (is_same_device x) ds j e (not-true (list_any (is_same_device x) ds) p.0) b)
differ_at (x ∷ ds) (suc i) zero d e h n a b =
    let p = and_parts (not (list_any (is_same_device x) ds)) (devices_differ ds) h in
    let k : is_same_device e d ≡ false = subst (λ (z : Device). is_same_device z d ≡ false) (same_Some x e b) (none_at (is_same_device x) ds i d (not-true (list_any (is_same_device x) ds) p.0) a) in
    false_from_ne_true (is_same_device d e) (λ t. true≢false (sym (mirrored d e t) ∙ k))
differ_at (x ∷ ds) (suc i) (suc j) d e h n a b = differ_at ds i j d e (and_parts (not (list_any (is_same_device x) ds)) (devices_differ ds) h).1 (λ q. n (ap suc q)) a b

pub arranged_differ : (all : List Device) (order : List ℕ) → once order ≡ true → devices_differ all ≡ true → devices_differ (arranged all order) ≡ true
arranged_differ all [] o h = refl
arranged_differ all (j ∷ js) o h = by (arranged_differ all js (and_parts (not (has j js)) (once js) o).1 h) (slice_get all j) refl
  where
    p : (not (has j js) ≡ true) × (once js ≡ true)
    p = and_parts (not (has j js)) (once js) o

    other : (k : ℕ) → has k js ≡ true → j ≢ k
    other k i q = true≢false (sym i ∙ ap (λ (n : ℕ). has n js) (sym q) ∙ not-true (has j js) p.0)

    none : (d : Device) → slice_get all j ≡ Some d → list_any (is_same_device d) (arranged all js) ≡ false
    none d e =
        none_from (is_same_device d) (arranged all js)
        (arranged-all all (λ (x : Device). not (is_same_device d x)) js (λ k x i g. not_from_false (is_same_device d x) (differ_at all j k d x h (other k i) e g)))

    by : devices_differ (arranged all js) ≡ true → (x : Option Device) → slice_get all j ≡ x → devices_differ (option_to_list x ++ arranged all js) ≡ true
    by rest None e = rest
    by rest (Some d) e = and_from (not (list_any (is_same_device d) (arranged all js))) (devices_differ (arranged all js)) (not_from_false (list_any (is_same_device d) (arranged all js)) (none d e)) rest
