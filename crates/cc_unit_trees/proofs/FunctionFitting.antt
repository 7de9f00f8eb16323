-- The pieces of declarations and functions part from one another.
use Rattle.std.proofs.Common.{◌≡◌, ◌≤◌, ◌-◌, ◌^◌, ℕ, zero, suc, Bool, true, false, List, [], ◌∷◌, map, take, drop, length, Option, Some, None, refl, sym, subst, slice_get}
use Rattle.std.specs.List.{list_all}
use Rattle.std.specs.Option.{is_some}
use Rattle.cc_program.specs.CcWords.Names.{is_name}
use Rattle.cc_program.specs.CcWords.declared.word.Word.{Word}
use Rattle.cc_lex.specs.declared.token.Mark.TheVariants as m
use Rattle.cc_lex.proofs.Booleans.{and-true}
use Rattle.cc_bodies.specs.Stmts.{ended, opened, closed, stmts, stmt, intrinsic_name}
use Rattle.cc_expression_trees.specs.Names.{HasNames}
use Rattle.cc_pieces.specs.Declarators.{Declarator, declarator}
use Rattle.cc_pieces.specs.declared.types.Inside.TheVariants.{Nothing, Name as Inner_name}
use Rattle.cc_pieces.specs.Pieces.{Pieces, punct, ident, flat}
use Rattle.cc_expression_trees.specs.Parts.{Fits}
use Rattle.cc_print.specs.Units.{each, member_line, named_parameters, function}
use Rattle.cc_program.specs.declared.expr.Intr.{Intr}
use Rattle.cc_program.specs.declared.func.Func.{Func}
use Rattle.cc_program.specs.declared.object.Device.{Device}
use Rattle.cc_program.specs.declared.program.Program.{Program}
use Rattle.cc_program.specs.declared.types.CType.{CType}
use Rattle.cc_program.specs.declared.types.Sig.{out-Sig}
use Rattle.cc_program.specs.declared.types.Structure.{Structure}
use Rattle.cc_unit_trees.proofs.StatementFitting.{body-fits}
use Rattle.cc_typed.specs.CcSyntax.Programs.{kind_in}
use Rattle.cc_typed.specs.CcSyntax.Normal.{is_normal_body}
use Rattle.cc_typed.specs.CcSyntax.Sound.{is_local, IsFunc}
use Rattle.cc_typed.specs.CcSyntax.Types.{Named}
use Rattle.cc_tree.specs.Tokens.{Name}
use Rattle.cc_expression_trees.specs.Soft.{IsSoft}
use Rattle.cc_expression_trees.proofs.Declarators.{FitsDeclarator, type-fits, name-fits}
use Rattle.cc_expression_trees.proofs.TypeFitting.{open-apart, close-apart}
use Rattle.cc_expression_trees.proofs.Insides.{Inner, FitsInner}
use Rattle.cc_expression_trees.proofs.TypeNames.{there}
use Rattle.cc_expression_trees.proofs.Parameters.{EachFits, parameter_pieces, parameters-fit}
use Rattle.cc_expression_trees.proofs.Words.{leading, leading-fits}
use Rattle.cc_unit_trees.proofs.Functions.{with_name, parameters-named}
use Rattle.cc_unit_trees.proofs.Sound.{object-some, result-some}

ended-fits : (ps : Pieces) → Fits ps → Fits (ended ps)
ended-fits ps f = (refl, refl, (refl, f))

named-other : Inner_name ≡ Nothing → ⊥
named-other h = cc

module _ (p : Program) (tags : (i : ℕ) (s : Structure) → slice_get p.structures i ≡ Some s → is_name s.tag ≡ true) where
  abbrev FitsType : CType → Type 0
  FitsType t = FitsDeclarator p.structures p.structures p.target (there p.structures) tags (declarator p.structures t)

  known-fits : (t : CType) → is_some (kind_in p t) ≡ true → FitsType t
  known-fits t h = type-fits p.structures p.structures p.target (there p.structures) tags t h

  -- a declaration of a name with a type
  pub decl-fits : (lead : List Word) (t : CType) → is_some (kind_in p t) ≡ true → (x : Name) → is_name x ≡ true → (ps : Pieces) → Fits ps → Fits (leading lead ((declarator p.structures t).front Inner_name (ident x ∷ (declarator p.structures t).behind Inner_name (ended ps))))
  decl-fits lead t h x n ps f = leading-fits lead _ (known-fits t h Inner_name (λ qs. ident x ∷ qs) (name-fits x n) (ended ps) (ended-fits ps f) refl)

  -- locals with types of objects, and names
  abbrev EachLocal : List Named → Type 0
  EachLocal [] = Unit {0}
  EachLocal (l ∷ ls) = ((is_some (kind_in p l.1) ≡ true) × (is_name l.0 ≡ true)) × EachLocal ls

  each-local : (ls : List Named) → list_all (is_local p) ls ≡ true → ((i : ℕ) (l : Named) → slice_get ls i ≡ Some l → is_name l.0 ≡ true) → EachLocal ls
  each-local [] h n = tt
  each-local (l ∷ ls) h n =
      let q = and-true (is_local p l) (list_all (is_local p) ls) h in
      ((object-some (kind_in p l.1) q.0, n 0 l refl), each-local ls q.1 (λ i x e. n (suc i) x e))

  taken : (n : ℕ) (ls : List Named) → EachLocal ls → EachLocal (take n ls)
  taken zero [] h = tt
  taken (suc n) [] h = tt
  taken zero (l ∷ ls) h = tt
  taken (suc n) (l ∷ ls) h = (h.0, taken n ls h.1)

  dropped : (n : ℕ) (ls : List Named) → EachLocal ls → EachLocal (drop n ls)
  dropped zero [] h = tt
  dropped (suc n) [] h = tt
  dropped zero (l ∷ ls) h = h
  dropped (suc n) (l ∷ ls) h = dropped n ls h.1

  locals-fit : (ls : List Named) → EachLocal ls → (ps : Pieces) → Fits ps → Fits (each (member_line p.structures) ls ps)
  locals-fit [] h ps f = f
  locals-fit (l ∷ ls) h ps f = (refl, decl-fits [] l.1 h.0.0 l.0 h.0.1 (each (member_line p.structures) ls ps) (locals-fit ls h.1 ps f))

  each-fits : (ls : List Named) → EachLocal ls → EachFits p.structures (map (with_name p) ls)
  each-fits [] h = tt
  each-fits (l ∷ ls) h = (λ ps f s. known-fits l.1 h.0.0 Inner_name (λ qs. ident l.0 ∷ qs) (name-fits l.0 h.0.1) ps f s, each-fits ls h.1)

  named-fit : (ls : List Named) → EachLocal ls → (ps : Pieces) → Fits ps → IsSoft (flat ps) → Fits (named_parameters p.structures ls ps)
  named-fit ls h ps f s = subst Fits (sym (parameters-named p ls ps)) (parameters-fit p.structures (map (with_name p) ls) (each-fits ls h) ps f s)

  head-inner : (x : Name) (parameters : Inner) → is_name x ≡ true → ((ps : Pieces) → Fits ps → IsSoft (flat ps) → Fits (parameters ps)) → FitsInner Inner_name (λ qs. ident x ∷ punct m.LParen ∷ parameters (punct m.RParen ∷ qs))
  head-inner x parameters n k ps f s =
      let q = name-fits x n (punct m.LParen ∷ parameters (punct m.RParen ∷ ps)) (refl, open-apart (flat (parameters (punct m.RParen ∷ ps))), k (punct m.RParen ∷ ps) (refl, close-apart (flat ps), f) refl) refl in
      (q.0, (q.1.0, λ e. absurd (named-other e)))

  -- the law
  module _ (addresses : (i : ℕ) (d : Device) → slice_get p.devices i ≡ Some d → d.number ≤ 2 ^ 63 - 1) (acts : (i : Intr) → is_name (intrinsic_name p.roles i) ≡ true) where
    pub function-fits : (f : Func) → HasNames p f → is_name f.name ≡ true → IsFunc p f → is_normal_body p.target f ≡ true → (ps : Pieces) → Fits ps → Fits (function p f ps)
    function-fits f names n h k ps g =
        let ls = each-local f.locals h.locals names.locals in
        let parameters = named_parameters p.structures (take f.params f.locals) in
        let closing = stmts p f f.body 1 (closed 0 ps) in
        let rest = each (member_line p.structures) (drop f.params f.locals) closing in
        let body : Fits closing = body-fits p f names addresses acts f.body false false k h.body 1 (closed 0 ps) (refl, (refl, refl, (refl, g))) in
        let lines : Fits rest = locals-fit (drop f.params f.locals) (dropped f.params f.locals ls) closing body in
        known-fits (out-Sig f.sig).result (result-some (kind_in p (out-Sig f.sig).result) h.result) Inner_name (λ qs. ident f.name ∷ punct m.LParen ∷ parameters (punct m.RParen ∷ qs))
        (head-inner f.name parameters n (named-fit (take f.params f.locals) (taken f.params f.locals ls))) (opened rest) (refl, (refl, refl, (refl, lines))) refl
