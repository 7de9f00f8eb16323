-- What operators give (C99 6.5). A bad value, by which a trap is put off to a later step, is written None: an operator that
-- traps gives one, and an operator over one gives one.
use Rattle.std.specs.Prelude.{ℕ, zero, Bool, true, false, not, ◌&&◌, ◌||◌, ◌==◌, ℤ, pos, negsuc, neg_ℤ, ◌+ℤ◌, ◌-ℤ◌, List, Option, Some, None, option_map, option_and_then, nat_le, nat_lt, if◌then◌else◌}
use Rattle.cc_program.specs.CcNum.declared.int_type.IntType.{IntType}
use Rattle.cc_program.specs.CcNum.declared.op.BinOp.{BinOp}
use Rattle.cc_program.specs.CcNum.declared.op.BinOp.TheVariants as op
use Rattle.cc_program.specs.CcNum.declared.op.UnOp.{UnOp}
use Rattle.cc_program.specs.CcNum.declared.target.Target.{Target}
use Rattle.cc_program.specs.CcNum.Integers.{is_value_of, converted}
use Rattle.cc_program.specs.CcNum.Results.{result_of, unary_result_of, one_if, is_shift}
use Rattle.cc_program.specs.declared.value.Address.{Address}
use Rattle.cc_program.specs.declared.value.Address.TheVariants as address
use Rattle.cc_program.specs.declared.value.Part.{Part}
use Rattle.cc_program.specs.declared.value.Part.TheVariants as part
use Rattle.cc_program.specs.declared.value.Root.{Root}
use Rattle.cc_program.specs.declared.value.Root.TheVariants as root
use Rattle.cc_program.specs.declared.value.Value.{Value}
use Rattle.cc_program.specs.declared.value.Value.TheVariants.{Int, Place}
use Rattle.cc_syntax.specs.Expressions.{of_two}
use Rattle.cc_syntax.specs.Operators.{difference_type, is_promoted}
use Rattle.cc_syntax.specs.Pairs.{all_pairs}

abbrev pub integer : Option Value → Option ℤ
integer None = None
integer (Some (Int n)) = Some n
integer (Some (Place a)) = None

abbrev pub address_in : Option Value → Option Address
address_in None = None
address_in (Some (Int n)) = None
address_in (Some (Place a)) = Some a

-- whether operators work in a type on a value. Where they do not, they give a bad one; a sound program has no such operand
abbrev pub takes : IntType → Target → ℤ → Bool
takes t target x = is_promoted target t && is_value_of t target x

abbrev pub takes_both : BinOp → IntType → Target → ℤ → ℤ → Bool
takes_both op t target x y = takes t target x && (is_shift op || is_value_of t target y)

abbrev pub unary_result : UnOp → IntType → Target → ℤ → Option ℤ
unary_result op t target x = if takes t target x then unary_result_of op x t target else None

abbrev pub binary_result : BinOp → IntType → Target → ℤ → ℤ → Option ℤ
binary_result op t target x y = if takes_both op t target x y then result_of op x y t target else None

-- `op a` and `a op b` in the type t
abbrev pub unary : UnOp → IntType → Target → Option Value → Option Value
unary op t target a = option_and_then (λ x. option_map Int (unary_result op t target x)) (integer a)

abbrev pub binary : BinOp → IntType → Target → Option Value → Option Value → Option Value
binary op t target a b = of_two (integer a) (integer b) (λ x y. option_map Int (binary_result op t target x y))

-- an integer in the type t (6.3.1.2, 6.3.1.3)
abbrev pub conversion : IntType → Target → Option Value → Option Value
conversion t target a = option_map (λ x. Int (converted x t target)) (integer a)

-- what is not 0 and no null pointer (6.5.13 to 6.5.15, 6.8.4.1)
abbrev pub is_true : Value → Bool
is_true (Int (pos zero)) = false
is_true (Int n) = true
is_true (Place address.Null) = false
is_true (Place (address.Func f)) = true
is_true (Place (address.At object path index count)) = true

abbrev pub truth : Option Value → Option Bool
truth v = option_map is_true v

abbrev pub of_truth : Option Bool → Option Value
of_truth b = option_map (λ b. Int (one_if b)) b

-- an index into an array of `count`, or that of one past the last
abbrev pub index_in : ℤ → ℕ → Option ℕ
index_in (pos index) count = if nat_le index count then Some index else None
index_in (negsuc index) count = None

-- an element of an array of `count`, or what is one past the last of them
abbrev pub element_at : Root → List Part → ℤ → ℕ → Option Address
element_at object path index count = option_map (λ i. address.At object path i count) (index_in index count)

abbrev pub offset : Bool → ℤ → ℤ
offset back n = if back then neg_ℤ n else n

-- a pointer moved by n elements, back where it is a difference (6.5.6, 8)
abbrev pub moved_address : Bool → ℤ → Address → Option Address
moved_address back n address.Null = None
moved_address back n (address.Func f) = None
moved_address back n (address.At object path index count) = element_at object path (pos index +ℤ offset back n) count

abbrev pub movement : Bool → Option Value → Option Value → Option Value
movement back a b = of_two (address_in a) (integer b) (λ p n. option_map Place (moved_address back n p))

abbrev pub same_part : Part → Part → Bool
same_part (part.Member m) (part.Member n) = m == n
same_part (part.Index i) (part.Index j) = i == j
same_part (part.Member m) (part.Index j) = false
same_part (part.Index i) (part.Member n) = false

abbrev pub same_path : List Part → List Part → Bool
same_path p q = all_pairs same_part p q

abbrev pub same_object : Root → Root → Bool
same_object (root.Static i) (root.Static j) = i == j
same_object (root.Auto n f i) (root.Auto m g j) = (n == m) && (f == g) && (i == j)
same_object (root.Static i) (root.Auto m g j) = false
same_object (root.Auto n f i) (root.Static j) = false

-- pointers that compare equal (6.5.9, 6)
abbrev pub same_address : Address → Address → Bool
same_address address.Null address.Null = true
same_address (address.Func f) (address.Func g) = f == g
same_address (address.At o p i n) (address.At o' p' j m) = same_object o o' && same_path p p' && (i == j)
same_address address.Null (address.Func g) = false
same_address address.Null (address.At o p i n) = false
same_address (address.Func f) address.Null = false
same_address (address.Func f) (address.At o p i n) = false
same_address (address.At o p i n) address.Null = false
same_address (address.At o p i n) (address.Func g) = false

-- whether two pointers point into one array, or into the same object
abbrev pub same_array : Root → List Part → ℕ → Root → List Part → ℕ → Bool
same_array o p n o' p' m = same_object o o' && same_path p p' && (n == m)

-- the positions to which two pointers into one array point (6.5.6, 9; 6.5.8, 5)
abbrev pub in_one_array : Address → Address → Option (ℕ × ℕ)
in_one_array address.Null q = None
in_one_array (address.Func g) q = None
in_one_array (address.At o p i n) address.Null = None
in_one_array (address.At o p i n) (address.Func g) = None
in_one_array (address.At o p i n) (address.At o' p' j m) = if same_array o p n o' p' m then Some (i, j) else None

abbrev pub difference : Target → ℕ → ℕ → Option Value
difference target i j = if is_value_of (difference_type target) target (pos i -ℤ pos j) then Some (Int (pos i -ℤ pos j)) else None

-- the difference of two pointers (6.5.6, 9)
abbrev pub gap : Target → Option Value → Option Value → Option Value
gap target a b = of_two (address_in a) (address_in b) (λ p q. option_and_then (λ o. difference target o.0 o.1) (in_one_array p q))

-- the order of two pointers
abbrev pub ordered : (ℕ → ℕ → Bool) → Address → Address → Option Value
ordered test p q = option_map (λ o. Int (one_if (test o.0 o.1))) (in_one_array p q)

abbrev pub compared : BinOp → Address → Address → Option Value
compared op.Eq p q = Some (Int (one_if (same_address p q)))
compared op.Ne p q = Some (Int (one_if (not (same_address p q))))
compared op.Lt p q = ordered (λ i j. nat_lt i j) p q
compared op.Le p q = ordered (λ i j. nat_le i j) p q
compared op.Gt p q = ordered (λ i j. nat_lt j i) p q
compared op.Ge p q = ordered (λ i j. nat_le j i) p q
compared op.Add p q = None
compared op.Sub p q = None
compared op.Mul p q = None
compared op.Div p q = None
compared op.Rem p q = None
compared op.And p q = None
compared op.Or p q = None
compared op.Xor p q = None
compared op.Shl p q = None
compared op.Shr p q = None

-- the comparison of two pointers (6.5.8, 6.5.9)
abbrev pub comparison : BinOp → Option Value → Option Value → Option Value
comparison op a b = of_two (address_in a) (address_in b) (compared op)
