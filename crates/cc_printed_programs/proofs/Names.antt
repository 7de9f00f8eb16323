-- The parts of a name and of a structure, behind the numbers of the unit.
use Rattle.std.proofs.Common.{◌≡◌, ◌∙◌, ℕ, suc, Bool, true, false, not, List, [], ◌∷◌, length, map, Option, Some, None, is_some, refl, ap, sym, arith}
use Rattle.std.proofs.lemmas.Bool.Decides.{nat_tests}
use Rattle.std.specs.Prelude.{nat_lt, if◌then◌else◌}
use Rattle.std.specs.Option.{is_none}
use Rattle.cc_program.specs.CcNum.declared.int_type.IntType.{IntType}
use Rattle.cc_type.specs.CcNumbering.Names.{count_of}
use Rattle.cc_type.specs.CcOperands.Qualified.{plain}
use Rattle.cc_program.specs.declared.types.CType.{CType}
use Rattle.cc_program.specs.declared.types.Shape.{Int, out-Shape, Func as FuncShape}
use Rattle.cc_program.specs.declared.types.Shape.TheOpen as shape
use Rattle.cc_program.specs.declared.types.Shape.TheVariants.{outs-Int, outs-Func}
use Rattle.cc_program.specs.declared.types.Sig.{Sig}
use Rattle.cc_program.specs.declared.types.Structure.{Structure}
use Rattle.cc_shown_declarations.specs.Left.{structure_left}
use Rattle.cc_shown_expressions.specs.Numbers.{sig_numbered}
use Rattle.cc_shown_expressions.proofs.Bases.{type-of-fields, shape-of-level}
use Rattle.cc_shown_expressions.proofs.Identity.{stays}
use Rattle.cc_shown_expressions.proofs.Numbering.{level-at}
use Rattle.cc_printed_programs.specs.Units.{members_shown, structure_shown, device_linkage}
use Rattle.cc_structures.proofs.WordLaws.{level-renumbered}
use Rattle.cc_structures.proofs.WordLaws as words
use Rattle.cc_type.specs.CcSyntax.Kinds.{Kind, is_object_type}
use Rattle.cc_type.specs.CcSyntax.Types.{Named}
use Rattle.cc_type.specs.CcUnit.Renumbered.{type_renumbered, sig_renumbered}
use Rattle.cc_type.specs.CcUnit.declared.unit.Linkage.TheVariants as linkage
use Rattle.cc_type.specs.CcUnit.declared.unit.UnitStructure.{UnitStructure}

pub count-one : (b : Bool) → count_of true (if b then 1 else 0) ≡ 1
count-one true = refl
count-one false = refl

pub linkage-named : (x : Option (List ℕ)) → not (is_none x) ≡ true → device_linkage x ≡ linkage.External
linkage-named None h = absurd (cc)
linkage-named (Some x) h = refl

pub no-name : (x : Option (List ℕ)) → is_none x ≡ true → x ≡ None
no-name None h = refl
no-name (Some x) h = absurd (cc)

pub object-some : (k : Option Kind) → is_object_type k ≡ true → is_some k ≡ true
object-some None h = absurd (cc)
object-some (Some k) h = refl

pub sig-own : (s : Sig) → sig_numbered (λ i. i) s ≡ s
sig-own s =
    let t : CType = plain (FuncShape s) in
    let opened : shape.Func (sig_numbered (λ i. i) s) ≡ shape.Func s = sym (level-at (λ i. i) t (shape.Func s) (outs-Func s)) ∙ (ap (λ (u : CType). out-Shape u.shape) (stays t) ∙ outs-Func s) in
    cc

pub int-stays : (numbers : List ℕ) (constant : Bool) (i : IntType) → type_renumbered numbers (record { constant = constant; volatile = true; shape = Int i }) ≡ record { constant = constant; volatile = true; shape = Int i }
int-stays numbers constant i =
    let t : CType = record { constant = constant; volatile = true; shape = Int i } in
    type-of-fields (type_renumbered numbers t) t (words.constant-kept numbers t) (words.volatile-kept numbers t)
    (shape-of-level (type_renumbered numbers t).shape (Int i) (level-renumbered numbers t (shape.Int i) (outs-Int i) ∙ sym (outs-Int i)))

pub function-type : (numbers : List ℕ) (s : Sig) → type_renumbered numbers (plain (FuncShape s)) ≡ plain (FuncShape (sig_renumbered numbers s))
function-type numbers s =
    let t : CType = plain (FuncShape s) in
    type-of-fields (type_renumbered numbers t) (plain (FuncShape (sig_renumbered numbers s))) (words.constant-kept numbers t) (words.volatile-kept numbers t)
    (shape-of-level (type_renumbered numbers t).shape (FuncShape (sig_renumbered numbers s)) (level-renumbered numbers t (shape.Func s) (outs-Func s) ∙ sym (outs-Func (sig_renumbered numbers s))))

-- ---- structures

same-structure : (t : Structure) → structure_left t ≡ structure_shown t
same-structure t = ap (λ (ms : Option (List Named)). record { tag = Some t.tag; alias = None; members = ms }) (by t.members)
  where
    by : (ms : List Named) → (if nat_lt 0 (length ms) then Some ms else None) ≡ members_shown ms
    by [] = refl
    by (m ∷ ms) = let some : nat_lt 0 (suc (length ms)) ≡ true = grind (arith, nat_tests) in ap (λ (b : Bool). if b then Some (m ∷ ms) else None) some

pub same-structures : (ts : List Structure) → map structure_left ts ≡ map structure_shown ts
same-structures [] = refl
same-structures (t ∷ ts) = ap (λ (u : UnitStructure). u ∷ map structure_left ts) (same-structure t) ∙ ap (λ (us : List UnitStructure). structure_shown t ∷ us) (same-structures ts)
