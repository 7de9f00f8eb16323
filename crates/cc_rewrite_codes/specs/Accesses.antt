-- Statements that read and write a slot that is coded. A word is read and written by statements of its own; where a handler could come
-- between, they stand between a save and a restore of the interrupt flag.
use Rattle.std.specs.Prelude.{Bool, List, None, Option, Some, false, if◌then◌else◌, is_some, length, nat_lt, pos, true, ℕ, ◌&&◌, ◌*◌, ◌-◌, ◌/◌, ◌^◌, ◌||◌}
use Rattle.cc_code.specs.declared.kinds.Coding.{Coding}
use Rattle.cc_code.specs.declared.kinds.Coding.TheVariants as coding
use Rattle.cc_lower_expressions.specs.Expressions.{Make, done, ◌>>=◌, fresh, emit, temp, set, into, is_idle, folded_un}
use Rattle.cc_lower_expressions.specs.Temporaries.{declared_type, is_same_type}
use Rattle.cc_program.specs.CcNum.declared.int_type.IntType.{IntType}
use Rattle.cc_program.specs.CcNum.declared.int_type.IntType.TheVariants as int
use Rattle.cc_program.specs.CcNum.declared.op.BinOp.TheVariants as op
use Rattle.cc_program.specs.CcNum.declared.op.UnOp.TheVariants as unary
use Rattle.cc_program.specs.declared.expr.Expr.{Expr, Const, Load, Assign, Intr, out-Expr}
use Rattle.cc_program.specs.declared.expr.Expr.TheOpen as one
use Rattle.cc_program.specs.declared.expr.Intr.TheVariants as intr
use Rattle.cc_program.specs.declared.expr.Place.{Place, Static, Element, Member, out-Place}
use Rattle.cc_program.specs.declared.func.Func.{Func}
use Rattle.cc_program.specs.declared.program.Program.{Program}
use Rattle.cc_program.specs.declared.stmt.Stmt.{Do}
use Rattle.cc_program.specs.declared.value.Value.{Value}
use Rattle.cc_rewrite_codes.specs.Homes.{Code, Home, Fixed, InWord, InArray}
use Rattle.cc_rewrite_codes.specs.Words.{word_type, mask, unsigned, converted, worked, raised, field, with_code, code_alone, constant, encoded, decoded}
use Rattle.cc_slots_types.specs.declared.slot.Slot.{Slot}
use Rattle.cc_operands.specs.CcSyntax.Effects.{place_effects_of}
use Rattle.cc_operands.specs.CcSyntax.Programs.{type_of}
use Rattle.cc_operands.specs.CcSyntax.Values.{ValueType, NoValue, Integer, ToObject, ToFunction}

-- ---- guards

-- what stands between a save and a restore
abbrev pub guarded : {A : Type 0} → Make A → Make A
guarded m =
    fresh (Some (Integer int.UChar)) >>=
    (λ g. emit (set g (Intr intr.Save None)) >>= (λ u. m >>= (λ v. emit (Do (Intr intr.Restore (Some (temp g)))) >>= (λ w. done v))))

abbrev pub guarded_if : {A : Type 0} → Bool → Make A → Make A
guarded_if true m = guarded m
guarded_if false m = m

-- ---- places

abbrev pub no_shift : Expr
no_shift = Const (pos 0) int.Int

-- the word of a slot, which stands where the slot stood
abbrev pub word_in : ℕ → one.Place-F Expr Place → Place
word_in word (one.Static i) = Static word
word_in word (one.Member a m) = Member a word
word_in word (one.Local r) = Static word
word_in word (one.Device d) = Static word
word_in word (one.Element a i) = Static word
word_in word (one.Deref e) = Static word

abbrev pub subscript_in : one.Place-F Expr Place → Option Expr
subscript_in (one.Element a i) = Some i
subscript_in (one.Static i) = None
subscript_in (one.Member a m) = None
subscript_in (one.Local r) = None
subscript_in (one.Device d) = None
subscript_in (one.Deref e) = None

abbrev pub is_register_load : Func → one.Expr-F Expr Place → Bool
is_register_load f (one.Load a) = is_some (place_effects_of f a).register
is_register_load f (one.Const n t) = false
is_register_load f (one.Null t) = false
is_register_load f (one.FuncAddr g) = false
is_register_load f (one.AddrOf a) = false
is_register_load f (one.Un o t a) = false
is_register_load f (one.Bin o t a b) = false
is_register_load f (one.Conv t a) = false
is_register_load f (one.Qualify t a) = false
is_register_load f (one.Move a b back) = false
is_register_load f (one.Gap a b) = false
is_register_load f (one.Compare o a b) = false
is_register_load f (one.Both a b) = false
is_register_load f (one.Either a b) = false
is_register_load f (one.Choose c a b) = false
is_register_load f (one.Assign a e) = false
is_register_load f (one.Change a o t e) = false
is_register_load f (one.After a down) = false
is_register_load f (one.Call g args) = false
is_register_load f (one.Intr i a) = false
is_register_load f (one.Seq a b) = false

-- a constant, a null or a register
abbrev pub is_atom : Func → Expr → Bool
is_atom f e = is_idle (out-Expr e) || is_register_load f (out-Expr e)

abbrev pub integer_of : Option ValueType → IntType
integer_of (Some (Integer t)) = t
integer_of None = int.Int
integer_of (Some NoValue) = int.Int
integer_of (Some (ToObject constant' volatile to)) = int.Int
integer_of (Some (ToFunction sig)) = int.Int

-- at a point where handlers may write, and where they may read or write, one of some slots
module _ (p : Program) (f : Func) (written touched : List Slot → Bool) where
  abbrev pub type : Expr → Option ValueType
  type e = type_of p f.locals e

  -- an operand as a temporary, where it is no atom
  abbrev pub atom : Option ValueType → Expr → Make Expr
  atom t e = if is_atom f e then done e else into t e

  -- a code of one value alone does not tell it, and so does not miss one that is bad: then a register goes to a temporary too, as it does in a
  -- write of a constant
  abbrev pub tells : Coding → List Value → Bool
  tells coding.Table values = nat_lt 1 (length values)
  tells coding.Const values = true
  tells coding.Direct values = true
  tells (coding.Biased low) values = true

  -- a value to be written, as a temporary where it is no atom
  abbrev pub value_in : Code → Expr → Make Expr
  value_in c e = if is_idle (out-Expr e) || (is_atom f e && tells c.coding c.values) then done e else into (Some c.type) e

  -- ---- where an access may be interrupted

  -- an access of so many bytes is made of several
  abbrev pub is_torn : Code → ℕ → Bool
  is_torn c bytes = nat_lt p.target.atomic_bytes bytes && touched c.sharing

  -- a word is read, changed and written
  abbrev pub is_undone : Code → ℕ → Bool
  is_undone c bytes = is_torn c bytes || written c.sharing

  -- ---- elements of packed arrays: so many stand in a byte

  abbrev pub each : ℕ → ℕ
  each bits = 8 / bits

  pub record Spot : Type 0 where
    pub element : Place
    pub shift : Expr

  abbrev pub spot_at : ℕ → ℕ → Expr → Spot
  spot_at object bits i = record {
    element = Element (Static object) (worked p f op.Div int.UInt i (unsigned (each bits)));
    shift = worked p f op.Mul int.UInt (worked p f op.Rem int.UInt i (unsigned (each bits))) (unsigned bits);
  }

  abbrev pub spot : ℕ → ℕ → Expr → Make Spot
  spot object bits i = atom (type i) i >>= (λ v. done (spot_at object bits (converted p f (integer_of (type i)) int.UInt v)))

  -- ---- reads

  abbrev pub read_word : Code → (bytes bits : ℕ) (alone : Bool) → Place → Expr → ℕ → Make (Unit {0})
  read_word c bytes bits alone word by r =
      guarded_if (is_torn c bytes) (into (Some (Integer (word_type bytes))) (Load word)) >>= (λ t. emit (set r (decoded p f c (field p f bytes bits alone by t))))

  abbrev pub read_element : Code → (object bits : ℕ) → Expr → ℕ → Make (Unit {0})
  read_element c object bits i r =
      if nat_lt bits 8 then (spot object bits i >>= (λ s. read_word c 1 bits false s.element s.shift r))
      else read_word c (bits / 8) bits true (Element (Static object) i) no_shift r

  -- ---- writes

  abbrev pub write_word : Code → (bytes : ℕ) (alone : Bool) → Place → Expr → Expr → Expr → Make (Unit {0})
  write_word c bytes true word keep by e = guarded_if (is_torn c bytes) (emit (Do (Assign word (code_alone p f bytes by (encoded p f c e)))))
  write_word c bytes false word keep by e =
      guarded_if (is_undone c bytes) (into (Some (Integer (word_type bytes))) (Load word) >>= (λ t. emit (Do (Assign word (with_code p f bytes keep by t (encoded p f c e))))))

  -- in a word of so many bits from a bit up
  abbrev pub kept_around : (bytes shift bits : ℕ) → Expr
  kept_around bytes shift bits = unsigned (mask (8 * bytes) - mask bits * 2 ^ shift)

  abbrev pub by_number : ℕ → Expr
  by_number shift = Const (pos shift) int.Int

  abbrev pub kept_around_spot : ℕ → Spot → Expr
  kept_around_spot bits s = folded_un p f declared_type is_same_type unary.Not int.UInt (raised p f (unsigned (mask bits)) s.shift)

  -- a value that is no atom goes to a temporary behind that of a subscript and in front of all else
  abbrev pub write_element : Code → (object bits : ℕ) → Expr → Expr → Make (Unit {0})
  write_element c object bits i e =
      if nat_lt bits 8 then (spot object bits i >>= (λ s. value_in c e >>= write_word c 1 false s.element (kept_around_spot bits s) s.shift))
      else (value_in c e >>= write_word c (bits / 8) true (Element (Static object) i) (unsigned 0) no_shift)

  -- the subscript of an access to a constant, and what is written to it, go to temporaries, atoms too
  abbrev pub subscript_worked : Option Expr → Make (Unit {0})
  subscript_worked None = done tt
  subscript_worked (Some i) = into (type i) i >>= (λ t. done tt)

  -- ---- a register gets what a slot has at a place, and a slot gets an operand there

  abbrev pub read_in_array : (object bits : ℕ) → Code → Option Expr → ℕ → Make (Unit {0})
  read_in_array object bits c None r = done tt
  read_in_array object bits c (Some i) r = read_element c object bits i r

  abbrev pub write_in_array : (object bits : ℕ) → Code → Option Expr → Expr → Make (Unit {0})
  write_in_array object bits c None e = done tt
  write_in_array object bits c (Some i) e = write_element c object bits i e

  abbrev pub read_of : Home → Place → ℕ → Make (Unit {0})
  read_of (Fixed t v) a r = subscript_worked (subscript_in (out-Place a)) >>= (λ u. emit (set r (constant p f t v)))
  read_of (InWord word bytes shift bits alone c) a r = read_word c bytes bits alone (word_in word (out-Place a)) (by_number shift) r
  read_of (InArray object bits c) a r = read_in_array object bits c (subscript_in (out-Place a)) r

  abbrev pub write_of : Home → Place → Expr → Make (Unit {0})
  write_of (Fixed t v) a e = subscript_worked (subscript_in (out-Place a)) >>= (λ u. into (Some t) e >>= (λ w. done tt))
  write_of (InWord word bytes shift bits alone c) a e =
      value_in c e >>= write_word c bytes alone (word_in word (out-Place a)) (kept_around bytes shift bits) (by_number shift)
  write_of (InArray object bits c) a e = write_in_array object bits c (subscript_in (out-Place a)) e
