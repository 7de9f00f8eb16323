-- What the forms of expressions say of them.
use Rattle.std.proofs.Common.{◌≡◌, ℕ, Bool, true, false, cond, Option, Some, None, refl, ap, sym, ◌∙◌}
use Rattle.std.proofs.lemmas.Option.{same_Some}
use Rattle.cc_rules_flows.specs.CcLattice.Domains.{is_comparison}
use Rattle.cc_program.specs.CcNum.declared.int_type.IntType.{IntType}
use Rattle.cc_program.specs.CcNum.declared.op.BinOp.{BinOp}
use Rattle.cc_program.specs.declared.expr.Expr.{Expr, out-Expr}
use Rattle.cc_program.specs.declared.expr.Expr.TheOpen as one
use Rattle.cc_program.specs.declared.expr.Place.{Place, out-Place}
use Rattle.cc_rules_tests.specs.Forms.{comparison_in, conversion_in, local_in, local_read}
use Rattle.cc_rules_tests.specs.Tested.{ReadsLocal}

abbrev Layer : Type 0
Layer = one.Expr-F Expr Place

abbrev AreSame : Layer → Layer → Type 0
AreSame x y = x ≡ y

pub none_some : {A B : Type 0} (x : A) → None ≡ Some x → B
none_some x h = absurd (cc)

local_back : (x : one.Place-F Expr Place) (r : ℕ) → local_in x ≡ Some r → x ≡ one.Local r
local_back (one.Local q) r h = ap (λ (n : ℕ). one.Local n) (same_Some q r h)
local_back _ r h = absurd (cc)

read_back : (x : Layer) (r : ℕ) → local_read x ≡ Some r → (place : Place) × (x ≡ one.Load place) × (out-Place place ≡ one.Local r)
read_back (one.Load a) r h = (a, refl, local_back (out-Place a) r h)
read_back _ r h = absurd (cc)

pub reads_back : (a : Expr) (r : ℕ) → local_read (out-Expr a) ≡ Some r → ReadsLocal r a
reads_back a r h = read_back (out-Expr a) r h

pub reads_on : (a : Expr) (r : ℕ) → ReadsLocal r a → local_read (out-Expr a) ≡ Some r
reads_on a r (place, e, k) = ap local_read e ∙ ap local_in k

pub conversion_back : (x : Layer) (t : IntType) (a : Expr) → conversion_in x ≡ Some (t, a) → x ≡ one.Conv t a
conversion_back (one.Conv s b) t a h = ap (λ (z : IntType × Expr). one.Conv z.0 z.1) (same_Some (s, b) (t, a) h)
conversion_back _ t a h = absurd (cc)

compared_back : (q o : BinOp) (t : IntType) (c e a b : Expr) (tells : Bool) → is_comparison q ≡ tells → cond {A = Option (BinOp × Expr × Expr)} tells (Some (q, c, e)) None ≡ Some (o, a, b) → AreSame (one.Bin q t c e) (one.Bin o t a b) × (is_comparison o ≡ true)
compared_back q o t c e a b true k h =
    let same : (q, c, e) ≡ (o, a, b) = same_Some (q, c, e) (o, a, b) h in
    (ap (λ (z : BinOp × Expr × Expr). one.Bin z.0 t z.1 z.2) same, ap (λ (z : BinOp × Expr × Expr). is_comparison z.0) (sym same) ∙ k)
compared_back q o t c e a b false k h = absurd (cc)

pub comparison_back : (x : Layer) (o : BinOp) (a b : Expr) → comparison_in x ≡ Some (o, a, b) → (t : IntType) × (x ≡ one.Bin o t a b) × (is_comparison o ≡ true)
comparison_back (one.Bin q t c e) o a b h = let w = compared_back q o t c e a b (is_comparison q) refl h in (t, w.0, w.1)
comparison_back _ o a b h = absurd (cc)

pub no_comparison : (x : Layer) (o : BinOp) (t : IntType) (a b : Expr) → comparison_in x ≡ None → x ≡ one.Bin o t a b → is_comparison o ≡ true → ⊥
no_comparison x o t a b h e k = none_some (o, a, b) (sym h ∙ (ap comparison_in e ∙ ap (λ tells. cond {A = Option (BinOp × Expr × Expr)} tells (Some (o, a, b)) None) k))
