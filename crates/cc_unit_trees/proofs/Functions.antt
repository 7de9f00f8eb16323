-- Prototypes and definitions of functions are read.
use Rattle.std.proofs.Common.{◌≡◌, ℕ, ◌+◌, ◌&&◌, Bool, true, false, List, [], ◌∷◌, ◌++◌, map, length, take, drop, Option, Some, None, refl, ap, sym, ◌∙◌, subst}
use Rattle.std.specs.List.{list_all}
use Rattle.std.specs.Option.{is_some}
use Rattle.cc_lex.specs.declared.token.Mark.TheVariants as m
use Rattle.cc_lex.proofs.Booleans.{and-true}
use Rattle.cc_bodies.specs.Stmts.{ended, opened, closed, stmts, stmt}
use Rattle.cc_pieces.specs.Declarators.{declarator}
use Rattle.cc_pieces.specs.declared.types.Inside.TheVariants.{Name as Inner_name}
use Rattle.cc_pieces.specs.Pieces.{Pieces, punct, ident, indentation, end_of_line, space}
use Rattle.cc_expression_trees.specs.Laid.{laid}
use Rattle.cc_print.specs.Units.{each, member_line, function_head, further_parameters, named_parameters, function}
use Rattle.cc_program.specs.declared.func.Func.{Func}
use Rattle.cc_program.specs.declared.program.Program.{Program}
use Rattle.cc_program.specs.declared.types.CType.{CType}
use Rattle.cc_program.specs.declared.types.Shape.{out-Shape}
use Rattle.cc_program.specs.declared.types.Shape.TheOpen as shape
use Rattle.cc_program.specs.declared.types.Sig.{out-Sig}
use Rattle.cc_program.specs.declared.types.Structure.{Structure}
use Rattle.cc_unit_trees.specs.Lines.{ShowsStmts}
use Rattle.cc_unit_trees.specs.ReadStatements.{ReadsLines}
use Rattle.cc_unit_trees.proofs.Blocks.{ReadsBody}
use Rattle.cc_typed.specs.CcSyntax.Types.{Named}
use Rattle.cc_tree.specs.declared.at.At.{At}
use Rattle.cc_tree.specs.declared.unit.Item.TheVariants as item
use Rattle.cc_tree.specs.Sentences.{AFunc}
use Rattle.cc_tree.specs.Statements.{IsLines, NoLine}
use Rattle.cc_tree.specs.Terms.{NoAttr, NoSpec, IsParams}
use Rattle.cc_tree.specs.Tokens.{Name}
use Rattle.cc_expression_trees.specs.Types.{Core, Plain, Function}
use Rattle.cc_expression_trees.proofs.Insides.{Inner, ReadsParams, core-named}
use Rattle.cc_expression_trees.proofs.Parameters.{around, Reads, ReadsDeclaration, name-reads, specs-of, Parameter, entry, EachReads, further_pieces, parameter_pieces, parameters-read}
use Rattle.cc_unit_trees.specs.Units.{ShowsLocals, parameters_of, ShowsFunction, ShowsDefinition}
use Rattle.cc_unit_trees.specs.ReadFunctions.{ReadsItem}
use Rattle.cc_unit_trees.proofs.FunctionDeclarations.{EachKnown, locals-read, function-reads}

module _ (p : Program) where
  -- ---- parameters with their names

  abbrev pub with_name : Named → Parameter p.structures
  with_name l = record { name = Some l.0; type = l.1; pieces = around (declarator p.structures l.1) Inner_name (λ qs. ident l.0 ∷ qs) }

  further-named : (ls : List Named) (ps : Pieces) → further_parameters p.structures ls ps ≡ further_pieces p.structures (map with_name ls) ps
  further-named [] ps = refl
  further-named (l ∷ ls) ps = rw (further-named ls ps) refl

  pub parameters-named : (ls : List Named) (ps : Pieces) → named_parameters p.structures ls ps ≡ parameter_pieces p.structures (map with_name ls) ps
  parameters-named [] ps = refl
  parameters-named (l ∷ ls) ps = rw (further-named ls ps) refl

  entries-named : (ls : List Named) → map (entry p.structures) (map with_name ls) ≡ map (λ l. (Some l.0, l.1)) ls
  entries-named [] = refl
  entries-named (l ∷ ls) = rw (entries-named ls) refl

  -- types that are read, and are not void
  abbrev pub EachParameter : List Named → Type 0
  EachParameter [] = Unit {0}
  EachParameter (l ∷ ls) = (Reads p.structures (declarator p.structures l.1) l.1 × (out-Shape l.1.shape ≡ shape.Void → ⊥)) × EachParameter ls

  each-named : (ls : List Named) → EachParameter ls → EachReads p.structures (map with_name ls)
  each-named [] h = tt
  each-named (l ∷ ls) h = ((λ all at ps i. h.0.0 (Plain (Some l.0)) l.1 Inner_name (λ qs. ident l.0 ∷ qs) (name-reads p.structures l.0 l.1) [] all at ps i, h.0.1), each-named ls h.1)

  named-read : (ls : List Named) → EachParameter ls → ReadsParams p.structures (map (λ l. (Some l.0, l.1)) ls) (named_parameters p.structures ls)
  named-read ls h = subst (λ es. ReadsParams p.structures es (named_parameters p.structures ls)) (entries-named ls) (λ at ps.
      let r = parameters-read p.structures (map with_name ls) (each-named ls h) at ps in
      (r.0, r.1, (r.2.0, subst (λ qs. IsParams [] r.0 (laid at qs) (laid r.2.0 (punct m.RParen ∷ ps))) (sym (parameters-named ls (punct m.RParen ∷ ps))) r.2.1)))

  -- ---- definitions

  module _ (f : Func) where
    abbrev body : Pieces → Pieces
    body ps = each (member_line p.structures) (drop f.params f.locals) (stmts p f f.body 1 ps)

    pub function-read : Reads p.structures (declarator p.structures (out-Sig f.sig).result) (out-Sig f.sig).result → EachParameter (take f.params f.locals) → EachKnown p.structures (drop f.params f.locals) →
        ReadsBody (ShowsStmts p f f.body) (λ ps. stmts p f f.body 1 ps) → (at : ℕ) (ps : Pieces) → ReadsItem (ShowsFunction p f) at (function p f ps) ps
    function-read r hp hl hs at ps =
        let t = (out-Sig f.sig).result in
        let rest = opened (body (closed 0 ps)) in
        let parameters = named_parameters p.structures (take f.params f.locals) in
        let inner : Inner = λ qs. ident f.name ∷ punct m.LParen ∷ parameters (punct m.RParen ∷ qs) in
        let d = r (Function f.name (parameters_of f)) t Inner_name inner (function-reads p.structures f.name (parameters_of f) parameters t (named-read (take f.params f.locals) hp)) [] (laid at (function p f ps)) at rest (NoSpec [] _) in
        let start = d.next + 1 + 1 + 1 in
        let a = locals-read p.structures (drop f.params f.locals) hl start [] (laid start (body (closed 0 ps))) (stmts p f f.body 1 (closed 0 ps)) (NoLine [] _) in
        let b = hs a.next a.lines (laid start (body (closed 0 ps))) (closed 0 ps) a.is in
        record {
          item = item.Func d.specs d.declr [] (a.lines ++ b.lines);
          shows = ShowsDefinition d.base d.specs d.declr a.lines b.lines d.shows_base d.shows a.shows b.shows;
          next = b.next + 0 + 1 + 1;
          is = AFunc [] [] d.specs d.declr f.name [] (a.lines ++ b.lines) (d.next + 1, 1) (b.next + 0, 1) _ d.rest _ _ _ (specs-of p.structures d) d.is (core-named p.structures d.shows) (NoAttr _) b.is;
        }
