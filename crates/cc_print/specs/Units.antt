-- The pieces of a program's declarations (C99 6.7, 6.9), in front of those that follow.
use Rattle.std.specs.Prelude.{ℕ, ◌+◌, Bool, true, false, ◌||◌, nat_eq, List, [], ◌∷◌, Option, Some, None, codes, map, take, drop, if◌then◌else◌}
use Rattle.std.specs.List.{list_any}
use Rattle.cc_program.specs.CcNum.declared.int_type.IntType.TheVariants as int
use Rattle.cc_program.specs.CcWords.declared.word.Word.TheVariants as w
use Rattle.cc_lex.specs.declared.token.Mark.TheVariants as m
use Rattle.cc_program.specs.declared.expr.Expr.{out-Expr}
use Rattle.cc_program.specs.declared.expr.Intr.{Intr}
use Rattle.cc_program.specs.declared.expr.Intr.TheVariants as intr
use Rattle.cc_program.specs.declared.func.Entry.{Entry}
use Rattle.cc_program.specs.declared.func.Entry.TheVariants as entry
use Rattle.cc_program.specs.declared.func.Func.{Func}
use Rattle.cc_program.specs.declared.object.Device.{Device}
use Rattle.cc_program.specs.declared.object.Object.{Object}
use Rattle.cc_program.specs.declared.program.Program.{Program}
use Rattle.cc_program.specs.declared.stmt.Stmt.{Stmt, fold-Stmt}
use Rattle.cc_program.specs.declared.stmt.Stmt.TheOpen as is
use Rattle.cc_program.specs.declared.types.CType.{CType, fold-CType}
use Rattle.cc_program.specs.declared.types.Shape.TheOpen as shape
use Rattle.cc_program.specs.declared.types.Sig.{Sig, out-Sig, fold-Sig}
use Rattle.cc_program.specs.declared.types.Structure.{Structure}
use Rattle.cc_typed.specs.CcSyntax.Types.{Named}
use Rattle.cc_pieces.specs.Declarators.{declarator, signature, declaration, int_name, qualifiers}
use Rattle.cc_pieces.specs.declared.types.Inside.TheVariants.{Name}
use Rattle.cc_pieces.specs.Pieces.{Pieces, punct, keyword, ident, space, indent}
use Rattle.cc_bodies.specs.Stmts.{Effect, Assigns, Calls, Acts, Computes, effect_at, intrinsic_name, ended, opened, closed, stmts}

-- each element's pieces, in order
abbrev pub each : {A : Type 0} → (A → Pieces → Pieces) → List A → Pieces → Pieces
each f [] ps = ps
each f (x ∷ xs) ps = f x (each f xs ps)

-- ---- which intrinsics are used

abbrev pub is_intr : Intr → Intr → Bool
is_intr intr.Off intr.Off = true
is_intr intr.On intr.On = true
is_intr intr.Save intr.Save = true
is_intr intr.Restore intr.Restore = true
is_intr _ _ = false

abbrev pub acts : Intr → Effect → Bool
acts i (Acts j a) = is_intr i j
acts i (Assigns a e) = false
acts i (Calls g args) = false
acts i Computes = false

-- in a statement of its own, or as a right side
abbrev pub effect_acts : Intr → Effect → Bool
effect_acts i (Acts j a) = is_intr i j
effect_acts i (Assigns a e) = acts i (effect_at (out-Expr e))
effect_acts i (Calls g args) = false
effect_acts i Computes = false

abbrev pub any_true : List Bool → Bool
any_true bs = list_any (λ b. b) bs

abbrev pub acts_step : Intr → is.Stmt-F Bool Bool → Bool
acts_step i (is.Do e) = effect_acts i (effect_at (out-Expr e))
acts_step i (is.If e a b) = any_true a || any_true b
acts_step i (is.While e a) = any_true a
acts_step i (is.DoWhile a e) = any_true a
acts_step i (is.For start test step a) = any_true a
acts_step i (is.Switch e cases) = any_true cases
acts_step i is.Break = false
acts_step i is.Continue = false
acts_step i (is.Return e) = false
acts_step i is.Empty = false
acts_step i (is.Block a) = any_true a

abbrev pub stmt_acts : Intr → Stmt → Bool
stmt_acts i s = fold-Stmt Bool Bool (acts_step i) (λ c. any_true c.body) s

abbrev pub is_used : Intr → Program → Bool
is_used i p = list_any (λ f. any_true (map (stmt_acts i) f.body)) p.funcs

-- what an intrinsic gives, and what it takes
abbrev pub intrinsic_result : Intr → Pieces → Pieces
intrinsic_result intr.Off ps = keyword w.Void ∷ ps
intrinsic_result intr.On ps = keyword w.Void ∷ ps
intrinsic_result intr.Save ps = int_name int.UChar ps
intrinsic_result intr.Restore ps = keyword w.Void ∷ ps

abbrev pub intrinsic_parameter : Intr → Pieces → Pieces
intrinsic_parameter intr.Off ps = keyword w.Void ∷ ps
intrinsic_parameter intr.On ps = keyword w.Void ∷ ps
intrinsic_parameter intr.Save ps = keyword w.Void ∷ ps
intrinsic_parameter intr.Restore ps = int_name int.UChar ps

abbrev pub intrinsic_line : Program → Intr → Pieces → Pieces
intrinsic_line p i ps =
    intrinsic_result i (space ∷ ident (intrinsic_name p.roles i) ∷ punct m.LParen ∷ intrinsic_parameter i (punct m.RParen ∷ ended ps))

abbrev pub intrinsic_prototype : Program → Intr → Pieces → Pieces
intrinsic_prototype p i ps = if is_used i p then intrinsic_line p i ps else ps

-- ---- structures

-- whether the words of a type name the structure, and whether the type names it at all
abbrev pub base_step : ℕ → shape.Shape-F Bool Bool Bool → Bool
base_step i (shape.Struct s) = nat_eq i s
base_step i (shape.Pointer to) = to
base_step i (shape.Array of n) = of
base_step i (shape.Func result) = result
base_step i shape.Void = false
base_step i (shape.Int t) = false

unfoldable pub is_base : ℕ → CType → Bool
is_base i t = fold-CType Bool Bool Bool (base_step i) (λ t. t.shape) (λ s. s.result) t

abbrev pub named_in_sig : shape.Sig-F Bool Bool Bool → Bool
named_in_sig s = s.result || any_true s.params

unfoldable pub is_named_in : ℕ → CType → Bool
is_named_in i t = fold-CType Bool Bool Bool (base_step i) (λ t. t.shape) named_in_sig t

unfoldable pub is_named_by : ℕ → Sig → Bool
is_named_by i s = fold-Sig Bool Bool Bool (base_step i) (λ t. t.shape) named_in_sig s

-- where a type names the structure first: in a list of parameters or not. The type's words stand in front of those.
abbrev pub naming : ℕ → CType → Option Bool
naming i t = if is_base i t then Some false else (if is_named_in i t then Some true else None)

abbrev pub or_else : Option Bool → Option Bool → Option Bool
or_else None b = b
or_else (Some a) b = Some a

abbrev pub member_naming : ℕ → List Named → Option Bool
member_naming i [] = None
member_naming i (l ∷ ls) = or_else (naming i l.1) (member_naming i ls)

abbrev pub first_naming : ℕ → List Structure → Option Bool
first_naming i [] = None
first_naming i (s ∷ ss) = or_else (member_naming i s.members) (first_naming i ss)

abbrev pub is_in_parameters : Option Bool → Bool
is_in_parameters None = false
is_in_parameters (Some b) = b

-- `struct TAG;`
abbrev pub tag_line : Structure → Pieces → Pieces
tag_line s ps = keyword w.Struct ∷ space ∷ ident s.tag ∷ ended ps

abbrev pub line_if : Bool → Structure → Pieces → Pieces
line_if true s ps = tag_line s ps
line_if false s ps = ps

-- a structure that a list of parameters in front of it names first would have its name there alone (6.2.1, 4), so it
-- is named in front of all structures
abbrev pub announcements : List Structure → ℕ → List Structure → Pieces → Pieces
announcements all i [] ps = ps
announcements all i (s ∷ rest) ps = line_if (is_in_parameters (first_naming i (take i all))) s (announcements all (i + 1) rest ps)

abbrev pub attribute : List ℕ → Pieces → Pieces
attribute name ps = keyword w.Attribute ∷ punct m.LParen ∷ punct m.LParen ∷ ident name ∷ punct m.RParen ∷ punct m.RParen ∷ space ∷ ps

abbrev pub entry_attribute : Option Entry → Pieces → Pieces
entry_attribute None ps = ps
entry_attribute (Some entry.Signal) ps = attribute (codes "signal") ps
entry_attribute (Some entry.Interrupt) ps = attribute (codes "interrupt") ps
entry_attribute (Some entry.Listed) ps = ps

module _ (structures : List Structure) where
  abbrev pub member_line : Named → Pieces → Pieces
  member_line l ps = indent 1 ∷ declaration structures l.1 l.0 (ended ps)

  -- one without members is only named
  abbrev pub structure_of : List Named → Structure → Pieces → Pieces
  structure_of [] s ps = tag_line s ps
  structure_of (l ∷ ls) s ps = keyword w.Struct ∷ space ∷ ident s.tag ∷ opened (each member_line (l ∷ ls) (punct m.RBrace ∷ ended ps))

  abbrev pub structure : Structure → Pieces → Pieces
  structure s ps = structure_of s.members s ps

  -- ---- functions

  -- what stands in front of a function's body, or of the `;` of its prototype
  abbrev pub function_head : Func → (Pieces → Pieces) → Pieces → Pieces
  function_head f parameters ps =
      (declarator structures (out-Sig f.sig).result).front Name (ident f.name ∷ punct m.LParen
      ∷ parameters (punct m.RParen ∷ (declarator structures (out-Sig f.sig).result).behind Name ps))

  abbrev pub prototype : Func → Pieces → Pieces
  prototype f ps = entry_attribute f.entry (function_head f (signature structures f.sig).parameters (ended ps))

  abbrev pub further_parameters : List Named → Pieces → Pieces
  further_parameters [] ps = ps
  further_parameters (l ∷ ls) ps = punct m.Comma ∷ space ∷ declaration structures l.1 l.0 (further_parameters ls ps)

  -- parameters with their names
  abbrev pub named_parameters : List Named → Pieces → Pieces
  named_parameters [] ps = keyword w.Void ∷ ps
  named_parameters (l ∷ ls) ps = declaration structures l.1 l.0 (further_parameters ls ps)

  -- ---- objects

  abbrev pub object_line : Object → Pieces → Pieces
  object_line o ps = keyword w.Static ∷ space ∷ declaration structures o.ctype o.name (ended ps)

-- ---- devices

abbrev pub device_named : Device → Option (List ℕ) → Pieces → Pieces
device_named d None ps = ps
device_named d (Some x) ps = keyword w.Extern ∷ space ∷ qualifiers d.constant true (int_name d.int (space ∷ ident x ∷ ended ps))

-- one with a name is declared
abbrev pub device_line : Device → Pieces → Pieces
device_line d ps = device_named d d.name ps

-- ---- functions

abbrev pub function : Program → Func → Pieces → Pieces
function p f ps =
    function_head p.structures f (named_parameters p.structures (take f.params f.locals)) (opened (each (member_line p.structures) (drop f.params f.locals)
    (stmts p f f.body 1 (closed 0 ps))))
