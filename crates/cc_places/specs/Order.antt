-- The order in which addresses are listed: null, functions, static objects, automatic ones by function and
-- local; each by number, then by path, and at last by index.
use Rattle.std.specs.Prelude.{ℕ, Bool, true, ◌&&◌, List, [], ◌∷◌}
use Rattle.std.specs.List.{list_all}
use Rattle.std.specs.declared.cmp.Ordering.{Ordering}
use Rattle.std.specs.declared.cmp.Ordering.TheVariants.{Less, Equal, Greater}
use Rattle.std.specs.Ordering.{ordering_then, nat_cmp, is_lt}
use Rattle.std.specs.Cmp.Lexicographic.{slice_cmp}
use Rattle.cc_program.specs.declared.value.Root.{Root}
use Rattle.cc_program.specs.declared.value.Root.TheVariants as root
use Rattle.cc_program.specs.declared.value.Part.{Part}
use Rattle.cc_program.specs.declared.value.Part.TheVariants as part
use Rattle.cc_program.specs.declared.value.Address.{Address}
use Rattle.cc_program.specs.declared.value.Address.TheVariants as address

-- the numbers of a path, with others behind it; a path comes before those that begin with it
abbrev pub steps : List Part → List ℕ → List ℕ
steps [] behind = 0 ∷ behind
steps (part.Member m ∷ path) behind = 1 ∷ m ∷ steps path behind
steps (part.Index i ∷ path) behind = 2 ∷ i ∷ steps path behind

-- the numbers by which an address is listed
abbrev pub listing : Address → List ℕ
listing address.Null = 0 ∷ []
listing (address.Func f) = 1 ∷ f ∷ []
listing (address.At (root.Static object) path index count) = 2 ∷ object ∷ steps path (index ∷ count ∷ [])
listing (address.At (root.Auto activation func local) path index count) = 3 ∷ func ∷ local ∷ activation ∷ steps path (index ∷ count ∷ [])

abbrev pub order : Address → Address → Ordering
order a b = slice_cmp nat_cmp (listing a) (listing b)

abbrev pub is_before : Address → Address → Bool
is_before a b = is_lt (order a b)

-- each address comes before those behind it
abbrev pub ascends : List Address → Bool
ascends [] = true
ascends (a ∷ behind) = list_all (is_before a) behind && ascends behind

-- whether an address comes before the first of a list
abbrev pub is_before_first : Address → List Address → Bool
is_before_first a [] = true
is_before_first a (b ∷ behind) = is_before a b

-- The same order as the code compares, by cases.
abbrev pub part_order : Part → Part → Ordering
part_order (part.Member m) (part.Member n) = nat_cmp m n
part_order (part.Member m) (part.Index j) = Less
part_order (part.Index i) (part.Member n) = Greater
part_order (part.Index i) (part.Index j) = nat_cmp i j

abbrev pub path_order : List Part → List Part → Ordering
path_order [] [] = Equal
path_order [] (b ∷ q) = Less
path_order (a ∷ p) [] = Greater
path_order (a ∷ p) (b ∷ q) = ordering_then (part_order a b) (path_order p q)

abbrev pub root_order : Root → Root → Ordering
root_order (root.Static o) (root.Static o') = nat_cmp o o'
root_order (root.Static o) (root.Auto n f l) = Less
root_order (root.Auto n f l) (root.Static o) = Greater
root_order (root.Auto n f l) (root.Auto n' f' l') = ordering_then (nat_cmp f f') (ordering_then (nat_cmp l l') (nat_cmp n n'))

abbrev pub address_order : Address → Address → Ordering
address_order address.Null address.Null = Equal
address_order address.Null (address.Func g) = Less
address_order address.Null (address.At o p i n) = Less
address_order (address.Func f) address.Null = Greater
address_order (address.Func f) (address.Func g) = nat_cmp f g
address_order (address.Func f) (address.At o p i n) = Less
address_order (address.At o p i n) address.Null = Greater
address_order (address.At o p i n) (address.Func g) = Greater
address_order (address.At o p i n) (address.At o' p' j m) =
    ordering_then (root_order o o') (ordering_then (path_order p p') (ordering_then (nat_cmp i j) (nat_cmp n m)))
