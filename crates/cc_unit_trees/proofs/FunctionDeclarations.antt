-- A declaration of one thing is read, over what its type is read as.
use Rattle.std.proofs.Common.{◌≡◌, ℕ, ◌+◌, Bool, true, false, List, [], ◌∷◌, ◌++◌, length, Option, Some, None, refl, sym, ◌∙◌, subst, append_assoc, append-nil, true≢false}
use Rattle.std.specs.List.{list_all}
use Rattle.cc_program.specs.CcWords.declared.word.Word.{Word}
use Rattle.cc_program.specs.CcWords.declared.word.Word.TheVariants as w
use Rattle.cc_lex.specs.declared.token.Mark.TheVariants as m
use Rattle.cc_bodies.specs.Stmts.{ended}
use Rattle.cc_pieces.specs.Declarators.{Declarator, declarator}
use Rattle.cc_pieces.specs.declared.types.Inside.TheVariants.{Name as Inner_name}
use Rattle.cc_pieces.specs.Pieces.{Pieces, punct, ident, indent, indentation, end_of_line}
use Rattle.cc_expression_trees.specs.Laid.{laid}
use Rattle.cc_print.specs.Units.{each, member_line}
use Rattle.cc_program.specs.declared.types.CType.{CType}
use Rattle.cc_program.specs.declared.types.Structure.{Structure}
use Rattle.cc_unit_trees.specs.ReadStatements.{ReadsLines}
use Rattle.cc_unit_trees.proofs.Blocks.{ReadsBody}
use Rattle.cc_typed.specs.CcSyntax.Types.{Named}
use Rattle.cc_tree.specs.declared.at.At.{At}
use Rattle.cc_tree.specs.declared.tree.Declr as declr
use Rattle.cc_tree.specs.declared.unit.Init.{Init}
use Rattle.cc_tree.specs.declared.unit.Line as line
use Rattle.cc_tree.specs.Statements.{IsDecl, Declares as ADeclares, IsInits, FirstInit, AnInit, NoValue, IsLines, ADeclaration}
use Rattle.cc_tree.specs.Terms.{Specs, NoSpec, NoAttr, AFunction, DeclaredName}
use Rattle.cc_tree.specs.Tokens.{Tokens, Name, at as at_of}
use Rattle.cc_expression_trees.specs.Types.{Core, Plain, Function, DeclaresFunction}
use Rattle.cc_expression_trees.proofs.Words.{leading, is_plain_word, words-closed, leading-read, closed-apart, closed-types}
use Rattle.cc_expression_trees.proofs.Bases.{behind-have, both-closed}
use Rattle.cc_expression_trees.proofs.Insides.{Inner, ReadsInner, ReadsParams, core_name, core-named}
use Rattle.cc_expression_trees.proofs.Parameters.{around, Reads, name-reads}
use Rattle.cc_unit_trees.specs.Units.{ShowsDecl, ShowsOne, ShowsLocals, NoLocal, MoreLocals}
use Rattle.cc_unit_trees.specs.ReadFunctions.{ReadsDecl}

inits-of : {types : Bool} {is : List (At Init)} {ts us : Tokens} → types ≡ false → IsInits false [] [] is ts us → IsInits types [] [] is ts us
inits-of {is = is} {ts = ts} {us = us} e h = subst (λ t. IsInits t [] [] is ts us) (sym e) h

module _ (structures : List Structure) where
  pub decl-read : (lead : List Word) → list_all is_plain_word lead ≡ true → (d : Declarator) (t : CType) → Reads structures d t → (core : Core) (inner : Inner) → ReadsInner structures core t t Inner_name inner →
      (x : Name) → core_name core ≡ Some x → (at : ℕ) (ps : Pieces) → ReadsDecl (ShowsDecl structures lead core t) at (leading lead (around d Inner_name inner (ended ps))) ps
  decl-read lead e d t k core inner h x n at ps =
      let all = laid at (leading lead (around d Inner_name inner (ended ps))) in
      let q = leading-read lead [] all at (around d Inner_name inner (ended ps)) e (NoSpec [] all) in
      let r = k core t Inner_name inner h q.specs all q.next (ended ps) q.is in
      let specs = q.specs ++ r.specs in
      let closed = both-closed q.specs r.specs (words-closed q.shows e) r.closed in
      let init : At Init = at_of r.rest (record { declr = r.declr; attrs = []; value = None }) in
      record {
        decl = record { specs = specs; inits = init ∷ [] };
        shows = ShowsOne r.base q.specs r.specs r.declr init.at q.shows r.shows_base r.shows;
        next = r.next + 1 + 1;
        is = ADeclares [] [] specs (init ∷ []) (r.next, 1) all r.rest _ (Specs [] specs all r.rest r.is_specs (behind-have q.specs r.specs r.have) (closed-apart specs closed))
            (inits-of (closed-types specs closed) (FirstInit false [] [] init r.rest _ (AnInit false [] r.declr x [] None r.rest _ _ _ r.is (core-named structures r.shows ∙ n) (NoAttr _) (NoValue [] _))));
      }

  -- a name and its type, behind the words
  pub name-decl-read : (lead : List Word) → list_all is_plain_word lead ≡ true → (t : CType) → Reads structures (declarator structures t) t → (x : Name) (at : ℕ) (ps : Pieces) →
      ReadsDecl (ShowsDecl structures lead (Plain (Some x)) t) at (leading lead (around (declarator structures t) Inner_name (λ qs. ident x ∷ qs) (ended ps))) ps
  name-decl-read lead e t k x at ps = decl-read lead e (declarator structures t) t k (Plain (Some x)) (λ qs. ident x ∷ qs) (name-reads structures x t) x refl at ps

  -- ---- locals

  abbrev pub EachKnown : List Named → Type 0
  EachKnown [] = Unit {0}
  EachKnown (l ∷ ls) = Reads structures (declarator structures l.1) l.1 × EachKnown ls

  pub locals-read : (ls : List Named) → EachKnown ls → ReadsBody (ShowsLocals structures ls) (each (member_line structures) ls)
  locals-read [] h at done all ps k = record { lines = []; shows = NoLocal; next = at; is = subst (λ xs. IsLines [] [] xs all (laid at ps)) (sym (append-nil done)) k }
  locals-read (l ∷ ls) h at done all ps k =
      let rest = each (member_line structures) ls ps in
      let here = at + length (indentation 1) in
      let r = name-decl-read [] refl l.1 h.0 l.0 here rest in
      let x = at_of (laid here (around (declarator structures l.1) Inner_name (λ qs. ident l.0 ∷ qs) (ended rest))) (line.Decl r.decl) in
      let b = locals-read ls h.1 r.next (done ++ x ∷ []) all ps (ADeclaration [] [] [] done r.decl all _ _ k r.is) in
      record {
        lines = x ∷ b.lines;
        shows = MoreLocals l ls r.decl x.at b.lines r.shows b.shows;
        next = b.next;
        is = subst (λ xs. IsLines [] [] xs all (laid b.next ps)) (append_assoc done (x ∷ []) b.lines) b.is;
      }

  -- ---- functions

  -- a name and the parameters behind it
  pub function-reads : (x : Name) (entries : List (Option Name × CType)) (parameters : Inner) (t : CType) → ReadsParams structures entries parameters →
      ReadsInner structures (Function x entries) t t Inner_name (λ qs. ident x ∷ punct m.LParen ∷ parameters (punct m.RParen ∷ qs))
  function-reads x entries parameters t h direct at ps e =
      let q = h (at + length x + 1) ps in
      record {
        declr = at_of (laid at (ident x ∷ punct m.LParen ∷ parameters (punct m.RParen ∷ ps))) (declr.Func (record { at = at; node = declr.Named x }) q.0);
        some = λ e. absurd (true≢false (sym e));
        shows = DeclaresFunction t x entries q.0 at q.1;
        next = q.2.0 + 1;
        is = AFunction [] direct (record { at = at; node = declr.Named x }) q.0 (at + length x, 1) (q.2.0, 1) _ _ _ (DeclaredName [] true x (at, length x) _ refl) q.2.1;
      }
