-- The text of a normal program is a sentence whose tree shows it: its external declarations are read one behind the
-- other, each behind the items that are done.
use Rattle.std.proofs.Common.{◌≡◌, ℕ, true, List, [], ◌∷◌, ◌++◌, None, sym, subst, append_assoc, append-nil}
use Rattle.cc_unit_trees.specs.Externals.{External, externals, external_text}
use Rattle.cc_unit_trees.proofs.Texts.{externals-text}
use Rattle.cc_lex.specs.declared.token.Token.{Token}
use Rattle.cc_lex.specs.Tokens.{Tokens as TokensOf}
use Rattle.cc_pieces.specs.Pieces.{Pieces}
use Rattle.cc_expression_trees.specs.Laid.{laid}
use Rattle.cc_expression_trees.specs.Parts.{Fits}
use Rattle.cc_expression_trees.proofs.Inside.{none-outside}
use Rattle.cc_expression_trees.proofs.Spelling.{pieces-tokens}
use Rattle.cc_print.specs.Printed.{printed, text}
use Rattle.cc_print.specs.Units.{each}
use Rattle.cc_program.specs.declared.program.Program.{Program}
use Rattle.cc_program.proofs.Each.{Each}
use Rattle.cc_typed.specs.CcSyntax.Normal.{IsNormal}
use Rattle.cc_tree.specs.declared.at.At.{At}
use Rattle.cc_tree.specs.declared.unit.Item.{Item}
use Rattle.cc_tree.specs.declared.unit.Unit.{Unit as UnitTree}
use Rattle.cc_tree.specs.Outside.{first_outside}
use Rattle.cc_tree.specs.Sentences.{IsItems, NoItem, MoreItems, IsSentence}
use Rattle.cc_tree.specs.Tokens.{Tokens, at as at_of}
use Rattle.cc_unit_trees.specs.Programs.{ShowsExternals, NoExternal, MoreExternals, ShowsProgram}
use Rattle.cc_unit_trees.proofs.Externals.{Stands, each-stands}

module _ (p : Program) where
  abbrev text_of : List External → Pieces
  text_of es = each (external_text p) es []

  record ReadsExternals (es : List External) (done : List (At Item)) (all : Tokens) : Type 0 where
    items : List (At Item)
    shows : ShowsExternals p es items
    is : IsItems [] [] (done ++ items) all []

  all-read : (es : List External) → Each (Stands p) es → (at : ℕ) (done : List (At Item)) (all : Tokens) → IsItems [] [] done all (laid at (text_of es)) → ReadsExternals es done all
  all-read [] h at done all k = record { items = []; shows = NoExternal; is = subst (λ xs. IsItems [] [] xs all []) (sym (append-nil done)) k }
  all-read (e ∷ es) h at done all k =
      let r = h.0.reads at (text_of es) in
      let x = at_of (laid at (external_text p e (text_of es))) r.item in
      let b = all-read es h.1 r.next (done ++ x ∷ []) all (MoreItems [] [] [] done r.item all _ _ k r.is) in
      record {
        items = x ∷ b.items;
        shows = MoreExternals e es x b.items r.shows b.shows;
        is = subst (λ xs. IsItems [] [] xs all []) (append_assoc done (x ∷ []) b.items) b.is;
      }

  all-fit : (es : List External) → Each (Stands p) es → Fits (text_of es)
  all-fit [] h = tt
  all-fit (e ∷ es) h = h.0.fits (text_of es) (all-fit es h.1)

  pub program-reads : IsNormal p → (ts : List Token) × TokensOf (text p) ts × (first_outside ts ≡ None) × ((u : UnitTree) × IsSentence ts u × ShowsProgram p u)
  program-reads h =
      let each : Each (Stands p) (externals p) = each-stands p h in
      let same : printed p ≡ text_of (externals p) = externals-text p in
      let fits : Fits (printed p) = subst Fits (sym same) (all-fit (externals p) each) in
      let ts = laid 0 (printed p) in
      let r = all-read (externals p) each 0 [] ts (subst (λ ps. IsItems [] [] [] ts (laid 0 ps)) same (NoItem [] ts)) in
      let inside : first_outside ts ≡ None = none-outside (printed p) fits 0 in
      (ts, pieces-tokens (printed p) fits true 0, inside, (record { items = r.items }, record { inside = inside; after = []; items = r.is }, r.shows))
