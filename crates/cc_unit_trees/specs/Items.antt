-- Which items of a unit's tree show the intrinsics, structures, devices, functions and static objects of a program, whatever
-- their offsets (C99 6.7, 6.7.2.1, 6.7.2.3).
use Rattle.std.specs.Prelude.{◌≡◌, ℕ, true, List, [], ◌∷◌, ◌++◌, Option, Some, None, codes}
use Rattle.cc_program.specs.CcNum.declared.int_type.IntType.TheVariants as int
use Rattle.cc_program.specs.CcWords.declared.word.Word.TheVariants as w
use Rattle.cc_bodies.specs.Stmts.{intrinsic_name}
use Rattle.cc_expression_trees.specs.Constants.{qualified, plain}
use Rattle.cc_unit_trees.specs.Units.{ShowsDecl}
use Rattle.cc_program.specs.declared.expr.Intr.{Intr}
use Rattle.cc_program.specs.declared.expr.Intr.TheVariants as intr
use Rattle.cc_program.specs.declared.func.Entry.{Entry}
use Rattle.cc_program.specs.declared.func.Entry.TheVariants as entry
use Rattle.cc_program.specs.declared.func.Func.{Func}
use Rattle.cc_program.specs.declared.object.Device.{Device}
use Rattle.cc_program.specs.declared.object.Object.{Object}
use Rattle.cc_program.specs.declared.program.Program.{Program}
use Rattle.cc_program.specs.declared.types.CType.{CType}
use Rattle.cc_program.specs.declared.types.Shape.TheOpen as shape
use Rattle.cc_program.specs.declared.types.Sig.{out-Sig}
use Rattle.cc_program.specs.declared.types.Structure.{Structure}
use Rattle.cc_typed.specs.CcSyntax.Types.{Named}
use Rattle.cc_tree.specs.declared.at.At.{At}
use Rattle.cc_tree.specs.declared.tree.Declr.{Declr}
use Rattle.cc_tree.specs.declared.tree.MemberDecl.{MemberDecl}
use Rattle.cc_tree.specs.declared.tree.Spec as spec
use Rattle.cc_tree.specs.declared.tree.Spec.{Spec}
use Rattle.cc_tree.specs.declared.unit.Decl.{Decl}
use Rattle.cc_tree.specs.declared.unit.Given.{Given}
use Rattle.cc_tree.specs.declared.unit.Item.{Item}
use Rattle.cc_tree.specs.declared.unit.Item.TheVariants as item
use Rattle.cc_tree.specs.Tokens.{Name}
use Rattle.cc_expression_trees.specs.Types.{ShowsWords, ShowsBase, Plain, Function, unnamed, Declares}
use Rattle.cc_unit_trees.specs.Values.{ShowsInitial}

-- ---- intrinsics

-- what an intrinsic gives, and what it takes
abbrev pub intrinsic_result : Intr → CType
intrinsic_result intr.Off = plain shape.Void
intrinsic_result intr.On = plain shape.Void
intrinsic_result intr.Save = plain (shape.Int int.UChar)
intrinsic_result intr.Restore = plain shape.Void

abbrev pub intrinsic_parameters : Intr → List CType
intrinsic_parameters intr.Off = []
intrinsic_parameters intr.On = []
intrinsic_parameters intr.Save = []
intrinsic_parameters intr.Restore = plain (shape.Int int.UChar) ∷ []

pub data ShowsIntrinsic (p : Program) (i : Intr) : Item → Type 0 where
  AnIntrinsic : (d : Decl) → ShowsDecl p.structures [] (Function (intrinsic_name p.roles i) (unnamed (intrinsic_parameters i))) (intrinsic_result i) d → ShowsIntrinsic p i (item.Decl d)

-- ---- structures

-- `struct TAG;`
pub data ShowsTag (s : Structure) : Item → Type 0 where
  ATag : (at : ℕ) → ShowsTag s (item.Decl (record { specs = record { at = at; node = spec.Struct (Some s.tag) None [] [] } ∷ []; inits = [] }))

-- a declaration for each member
pub data ShowsMembers (structures : List Structure) : List Named → List (At MemberDecl) → Type 0 where
  NoMember : ShowsMembers structures [] []
  MoreMembers : (l : Named) (ls : List Named) (b : CType) (ss : List (At Spec)) (d : At Declr) (at : ℕ) (ms : List (At MemberDecl)) → ShowsBase structures b ss → Declares structures b d.node (Plain (Some l.0)) l.1 → ShowsMembers structures ls ms →
      ShowsMembers structures (l ∷ ls) (record { at = at; node = record { specs = ss; declrs = d ∷ [] } } ∷ ms)

-- one without members is only named
pub data ShowsStructure (p : Program) (s : Structure) : Item → Type 0 where
  OnlyNamed : (i : Item) → s.members ≡ [] → ShowsTag s i → ShowsStructure p s i
  WithMembers : (l : Named) (ls : List Named) (at : ℕ) (ms : List (At MemberDecl)) → s.members ≡ l ∷ ls → ShowsMembers p.structures (l ∷ ls) ms →
      ShowsStructure p s (item.Decl (record { specs = record { at = at; node = spec.Struct (Some s.tag) (Some ms) [] [] } ∷ []; inits = [] }))

-- ---- devices

-- one that has a name
pub data ShowsDevice (p : Program) (d : Device) : Item → Type 0 where
  ADevice : (x : Name) (c : Decl) → d.name ≡ Some x → ShowsDecl p.structures (w.Extern ∷ []) (Plain (Some x)) (qualified d.constant true (shape.Int d.int)) c → ShowsDevice p d (item.Decl c)

-- ---- functions

-- the attribute of a handler; one that the roles alone name has none
pub data ShowsEntry : Option Entry → List (At Spec) → Type 0 where
  NoEntry : ShowsEntry None []
  Listed : ShowsEntry (Some entry.Listed) []
  Signal : (at : ℕ) → ShowsEntry (Some entry.Signal) (record { at = at; node = spec.Attr (record { words = (codes "signal", None) ∷ [] }) } ∷ [])
  Interrupt : (at : ℕ) → ShowsEntry (Some entry.Interrupt) (record { at = at; node = spec.Attr (record { words = (codes "interrupt", None) ∷ [] }) } ∷ [])

-- a function's prototype: its type, and how it is known as a handler
pub data ShowsPrototype (p : Program) (f : Func) : Item → Type 0 where
  APrototype : (b : CType) (qs ss : List (At Spec)) (d : At Declr) (at : ℕ) → ShowsEntry f.entry qs → ShowsBase p.structures b ss → Declares p.structures b d.node (Function f.name (unnamed (out-Sig f.sig).params)) (out-Sig f.sig).result →
      ShowsPrototype p f (item.Decl (record { specs = qs ++ ss; inits = record { at = at; node = record { declr = d; attrs = []; value = None } } ∷ [] }))

-- ---- static objects

pub data ShowsObject (p : Program) (o : Object) : Item → Type 0 where
  AnObject : (d : Decl) → ShowsDecl p.structures (w.Static ∷ []) (Plain (Some o.name)) o.ctype d → ShowsObject p o (item.Decl d)

-- with its first values
pub data ShowsDefinition (p : Program) (o : Object) : Item → Type 0 where
  ADefinition : (b : CType) (qs ss : List (At Spec)) (d : At Declr) (g : At Given) (at : ℕ) → ShowsWords (w.Static ∷ []) qs → ShowsBase p.structures b ss → Declares p.structures b d.node (Plain (Some o.name)) o.ctype → ShowsInitial p o g.node →
      ShowsDefinition p o (item.Decl (record { specs = qs ++ ss; inits = record { at = at; node = record { declr = d; attrs = []; value = Some g } } ∷ [] }))
