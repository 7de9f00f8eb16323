-- Where members stand, and that a set of addresses that has a coding has its members alone.
use Rattle.std.proofs.Common.{◌≡◌, ◌<◌, ◌≤◌, ◌^◌, ◌&&◌, ◌∙◌, ℕ, zero, suc, Bool, true, false, ℤ, List, [], ◌∷◌, length, get_or, map, Some, None, refl, sym, ap, subst, arith, pow_pos}
use Rattle.std.specs.List.{Contains, list_all, slice_get}
use Rattle.std.specs.Option.{option_map}
use Rattle.std.proofs.lemmas.Bool.{and_parts, leb-true}
use Rattle.std.proofs.lemmas.List.{length-map}
use Rattle.std.proofs.lemmas.Option.{slice_get-map, slice_get_within}
use Rattle.cc_program.specs.declared.value.Address.{Address}
use Rattle.cc_program.specs.declared.value.Address.TheVariants as address
use Rattle.cc_program.specs.declared.value.Root.TheVariants as root
use Rattle.cc_program.specs.declared.value.Value.{Value}
use Rattle.cc_program.specs.declared.value.Value.TheVariants as value
use Rattle.cc_places.specs.declared.abs.Abs.{Abs}
use Rattle.cc_places.specs.declared.abs.Abs.TheVariants.{Ints, Addrs}
use Rattle.cc_places.specs.declared.addrs.Addrs.{Addrs as Set}
use Rattle.cc_places.specs.Kept.{is_kept, kept, member_for}
use Rattle.cc_places.specs.Members.{are_members}
use Rattle.cc_places.specs.Order.{ascends}
use Rattle.cc_places.specs.Sets.{HasAddress}
use Rattle.cc_sets.specs.declared.vals.Vals.{Vals}
use Rattle.cc_sets.specs.declared.vals.Vals.TheVariants.{Few, Many}
use Rattle.cc_code.specs.Members.{are_listed, count_of, has_coding, is_static, members_of, Has}

-- ---- lists

passes_at : {X : Type 0} (p : X → Bool) (xs : List X) (x : X) (k : ℕ) → list_all p xs ≡ true → k < length xs → get_or xs k x ≡ x → p x ≡ true
passes_at p [] x k h l e = absurd (omega arith)
passes_at p (y ∷ ys) x zero h l e = subst (λ z. p z ≡ true) e (and_parts (p y) (list_all p ys) h).0
passes_at p (y ∷ ys) x (suc k) h l e = passes_at p ys x k (and_parts (p y) (list_all p ys) h).1 (omega arith) e

passes : {X : Type 0} (p : X → Bool) (xs : List X) (x : X) → list_all p xs ≡ true → Contains xs x → p x ≡ true
passes p xs x h c = passes_at p xs x c.0 h c.1 c.2

only_at : {X : Type 0} (xs : List X) (x : X) (k : ℕ) → length xs ≡ 1 → k < length xs → get_or xs k x ≡ x → slice_get xs 0 ≡ Some x
only_at [] x k one l e = absurd (omega arith)
only_at (y ∷ ys) x zero one l e = ap Some e
only_at (y ∷ ys) x (suc k) one l e = absurd (omega arith)

-- the only element is the first one
only : {X : Type 0} (xs : List X) (x : X) → length xs ≡ 1 → Contains xs x → slice_get xs 0 ≡ Some x
only xs x one c = only_at xs x c.0 one c.1 c.2

-- ---- addresses

kept_static : (a : Address) → is_static (kept a) ≡ true → kept a ≡ a
kept_static address.Null h = refl
kept_static (address.Func f) h = refl
kept_static (address.At (root.Static object) path index count) h = refl
kept_static (address.At (root.Auto activation func local) path index count) h = let f : false ≡ true = h in absurd (cc)

-- an address that the set has is a member
pub found : (s : Set) (a : Address) → has_coding (Addrs s) ≡ true → HasAddress s a → Contains s.members a
found s a h m =
    let t = and_parts s.is_exact (list_all is_static s.members) h in
    let k : Contains s.members (kept a) = subst (λ (exact : Bool). Contains s.members (member_for exact a)) t.0 m in
    subst (Contains s.members) (kept_static a (passes is_static s.members (kept a) t.1 k)) k

few_by : (exact : Bool) (members : List Address) → exact ≡ true → are_members exact members ≡ true → length members ≤ 64
few_by false members e h = absurd (cc)
few_by true members e h =
    let t = and_parts (ascends members) _ h in
    leb-true (length members) 64 (and_parts (list_all is_kept members) _ t.1).1

pub few_addresses : (s : Set) → has_coding (Addrs s) ≡ true → length s.members ≤ 64
few_addresses s h = few_by s.is_exact s.members (and_parts s.is_exact (list_all is_static s.members) h).0 s.listed

-- ---- members

-- where a number or an address stands, its value stands among the members
pub number_at : (xs : List ℤ) (n : ℤ) (k : ℕ) → slice_get xs k ≡ Some n → slice_get (map value.Int xs) k ≡ Some (value.Int n)
number_at xs n k e = slice_get-map value.Int xs k ∙ ap (option_map value.Int) e

pub address_at : (xs : List Address) (a : Address) (k : ℕ) → slice_get xs k ≡ Some a → slice_get (map value.Place xs) k ≡ Some (value.Place a)
address_at xs a k e = slice_get-map value.Place xs k ∙ ap (option_map value.Place) e

pub constant : (values : Abs Vals) (v : Value) → has_coding values ≡ true → count_of values ≡ 1 → Has values v → slice_get (members_of values) 0 ≡ Some v
constant (Ints (Few s)) (value.Int n) t one h = number_at s.items.items n 0 (only s.items.items n one h)
constant (Ints (Few s)) (value.Place a) t one h = absurd h
constant (Ints (Many r)) v t one h = let m = r.many in absurd (omega (arith, m, one))
constant (Addrs s) (value.Int n) t one h = absurd h
constant (Addrs s) (value.Place a) t one h = address_at s.members a 0 (only s.members a one (found s a t h))

-- a member's place is below their number
pub place_below : (values : Abs Vals) (v : Value) (k : ℕ) → slice_get (members_of values) k ≡ Some v → k < count_of values
place_below (Ints (Few s)) v k e = let l = slice_get_within (map value.Int s.items.items) k v e in let n = length-map s.items.items value.Int in omega (arith, l, n)
place_below (Ints (Many r)) v k e = let f : None ≡ Some v = e in absurd (cc)
place_below (Addrs s) v k e = let l = slice_get_within (map value.Place s.members) k v e in let n = length-map s.members value.Place in omega (arith, l, n)

-- members that are listed are no more than 64
pub few_listed : (values : Abs Vals) → has_coding values ≡ true → are_listed values ≡ true → count_of values ≤ 64
few_listed (Ints (Few s)) t l = s.few
few_listed (Ints (Many r)) t l = let f : false ≡ true = l in absurd (cc)
few_listed (Addrs s) t l = few_addresses s t
