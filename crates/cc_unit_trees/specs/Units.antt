-- Which declarations and definitions of a tree show those of a program, whatever their offsets (C99 6.7, 6.9.1).
use Rattle.std.specs.Prelude.{ℕ, List, [], ◌∷◌, ◌++◌, map, take, drop, Option, Some, None}
use Rattle.cc_program.specs.CcWords.declared.word.Word.{Word}
use Rattle.cc_program.specs.declared.func.Func.{Func}
use Rattle.cc_program.specs.declared.program.Program.{Program}
use Rattle.cc_program.specs.declared.types.CType.{CType}
use Rattle.cc_program.specs.declared.types.Sig.{out-Sig}
use Rattle.cc_program.specs.declared.types.Structure.{Structure}
use Rattle.cc_unit_trees.specs.Lines.{ShowsStmts}
use Rattle.cc_typed.specs.CcSyntax.Types.{Named}
use Rattle.cc_tree.specs.declared.at.At.{At}
use Rattle.cc_tree.specs.declared.tree.Declr.{Declr}
use Rattle.cc_tree.specs.declared.tree.Spec.{Spec}
use Rattle.cc_tree.specs.declared.unit.Decl.{Decl}
use Rattle.cc_tree.specs.declared.unit.Item.{Item}
use Rattle.cc_tree.specs.declared.unit.Item.TheVariants as item
use Rattle.cc_tree.specs.declared.unit.Line as line
use Rattle.cc_tree.specs.declared.unit.Line.{Line}
use Rattle.cc_tree.specs.Tokens.{Name}
use Rattle.cc_expression_trees.specs.Types.{ShowsWords, ShowsBase, Core, Plain, Function, Declares}

-- a declaration of one thing without a value, behind the words of a storage class
pub data ShowsDecl (structures : List Structure) (lead : List Word) (core : Core) (t : CType) : Decl → Type 0 where
  ShowsOne : (b : CType) (qs ss : List (At Spec)) (d : At Declr) (at : ℕ) → ShowsWords lead qs → ShowsBase structures b ss → Declares structures b d.node core t →
      ShowsDecl structures lead core t (record { specs = qs ++ ss; inits = record { at = at; node = record { declr = d; attrs = []; value = None } } ∷ [] })

-- locals, a line each
pub data ShowsLocals (structures : List Structure) : List Named → List (At Line) → Type 0 where
  NoLocal : ShowsLocals structures [] []
  MoreLocals : (l : Named) (ls : List Named) (d : Decl) (at : ℕ) (xs : List (At Line)) → ShowsDecl structures [] (Plain (Some l.0)) l.1 d → ShowsLocals structures ls xs →
      ShowsLocals structures (l ∷ ls) (record { at = at; node = line.Decl d } ∷ xs)

abbrev pub parameters_of : Func → List (Option Name × CType)
parameters_of f = map (λ l. (Some l.0, l.1)) (take f.params f.locals)

-- a function's definition: its parameters with their names, the other locals, and its statements
pub data ShowsFunction (p : Program) (f : Func) : Item → Type 0 where
  ShowsDefinition : (b : CType) (ss : List (At Spec)) (d : At Declr) (xs ys : List (At Line)) → ShowsBase p.structures b ss → Declares p.structures b d.node (Function f.name (parameters_of f)) (out-Sig f.sig).result →
      ShowsLocals p.structures (drop f.params f.locals) xs → ShowsStmts p f f.body ys → ShowsFunction p f (item.Func ss d [] (xs ++ ys))
