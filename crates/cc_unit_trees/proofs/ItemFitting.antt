-- The pieces of items part from one another.
use Rattle.std.proofs.Common.{◌≡◌, ℕ, Bool, true, false, ◌&&◌, List, [], ◌∷◌, map, Option, Some, None, slice_get, codes, refl, ◌∙◌}
use Rattle.std.specs.List.{list_all}
use Rattle.cc_program.specs.CcNum.declared.int_type.IntType.TheVariants as int
use Rattle.cc_program.specs.CcWords.Names.{is_name}
use Rattle.cc_program.specs.CcWords.Words.{word_of}
use Rattle.cc_program.specs.CcWords.declared.word.Word.TheVariants as w
use Rattle.cc_lex.specs.declared.token.Mark.TheVariants as m
use Rattle.cc_lex.proofs.Booleans.{and-true, both-true}
use Rattle.cc_bodies.specs.Stmts.{ended, intrinsic_name}
use Rattle.cc_unit_trees.proofs.FunctionFitting.{decl-fits}
use Rattle.cc_unit_trees.proofs.Sound.{object-some, result-some}
use Rattle.cc_pieces.specs.Declarators.{signature, int_name}
use Rattle.cc_pieces.specs.declared.types.Inside.TheVariants.{Nothing, Name as Inner_name}
use Rattle.cc_pieces.specs.Pieces.{Pieces, punct, keyword, ident, space, flat}
use Rattle.cc_expression_trees.specs.Parts.{Fits}
use Rattle.cc_print.specs.Units.{intrinsic_parameter, intrinsic_line, attribute, entry_attribute, device_named, function_head, prototype, object_line}
use Rattle.cc_print.specs.Values.{value, definition_line}
use Rattle.cc_program.specs.declared.expr.Intr.{Intr}
use Rattle.cc_program.specs.declared.expr.Intr.TheVariants as intr
use Rattle.cc_program.specs.declared.func.Entry.{Entry}
use Rattle.cc_program.specs.declared.func.Entry.TheVariants as entry
use Rattle.cc_program.specs.declared.func.Func.{Func}
use Rattle.cc_program.specs.declared.object.Device.{Device}
use Rattle.cc_program.specs.declared.object.Object.{Object}
use Rattle.cc_program.specs.declared.program.Program.{Program}
use Rattle.cc_program.specs.declared.types.CType.{CType}
use Rattle.cc_program.specs.declared.types.Sig.{Sig, out-Sig, fold_out-Sig}
use Rattle.cc_typed.specs.CcSyntax.Kinds.{Kind, kind_of, is_sig, shape_kind, type_kind, is_signature, is_plain_scalar, is_result, extent_in}
use Rattle.cc_typed.specs.CcSyntax.Programs.{kind_in}
use Rattle.cc_typed.specs.CcSyntax.Sound.{is_object, IsFunc, IsSound}
use Rattle.cc_tree.specs.Tokens.{Name}
use Rattle.cc_expression_trees.specs.Soft.{IsSoft}
use Rattle.cc_expression_trees.proofs.Bases.{int-fits}
use Rattle.cc_expression_trees.proofs.Declarators.{type-fits, sig-fits, name-fits}
use Rattle.cc_expression_trees.proofs.TypeFitting.{name-apart, word-apart, open-apart, close-apart}
use Rattle.cc_expression_trees.proofs.Insides.{Inner, FitsInner}
use Rattle.cc_expression_trees.proofs.TypeNames.{there}
use Rattle.cc_expression_trees.proofs.Words.{leading-fits}
use Rattle.cc_unit_trees.specs.ValueNames.{HasUnitNames}
use Rattle.cc_unit_trees.proofs.Known.{all-at}
use Rattle.cc_unit_trees.proofs.Starts.{object-values}

ended-fits : (ps : Pieces) → Fits ps → Fits (ended ps)
ended-fits ps f = (refl, refl, (refl, f))

-- ---- intrinsics

void-parameter : (ps : Pieces) → Fits ps → Fits (keyword w.Void ∷ punct m.RParen ∷ ended ps)
void-parameter ps f = (tt, word-apart w.Void (flat (punct m.RParen ∷ ended ps)) refl, (refl, close-apart (flat (ended ps)), ended-fits ps f))

byte-parameter : (ps : Pieces) → Fits ps → Fits (int_name int.UChar (punct m.RParen ∷ ended ps))
byte-parameter ps f = int-fits false false int.UChar (punct m.RParen ∷ ended ps) refl (refl, close-apart (flat (ended ps)), ended-fits ps f)

called : (x : Name) (qs : Pieces) → is_name x ≡ true → Fits qs → Fits (space ∷ ident x ∷ punct m.LParen ∷ qs)
called x qs n f = (refl, (n, name-apart x (flat (punct m.LParen ∷ qs)) refl, (refl, open-apart (flat qs), f)))

module _ (p : Program) where
  pub intrinsic-fits : (i : Intr) → is_name (intrinsic_name p.roles i) ≡ true → (ps : Pieces) → Fits ps → Fits (intrinsic_line p i ps)
  intrinsic-fits intr.Off n ps f = (tt, refl, called (intrinsic_name p.roles intr.Off) (intrinsic_parameter intr.Off (punct m.RParen ∷ ended ps)) n (void-parameter ps f))
  intrinsic-fits intr.On n ps f = (tt, refl, called (intrinsic_name p.roles intr.On) (intrinsic_parameter intr.On (punct m.RParen ∷ ended ps)) n (void-parameter ps f))
  intrinsic-fits intr.Save n ps f = int-fits false false int.UChar (space ∷ ident (intrinsic_name p.roles intr.Save) ∷ punct m.LParen ∷ intrinsic_parameter intr.Save (punct m.RParen ∷ ended ps)) refl
      (called (intrinsic_name p.roles intr.Save) (intrinsic_parameter intr.Save (punct m.RParen ∷ ended ps)) n (void-parameter ps f))
  intrinsic-fits intr.Restore n ps f = (tt, refl, called (intrinsic_name p.roles intr.Restore) (intrinsic_parameter intr.Restore (punct m.RParen ∷ ended ps)) n (byte-parameter ps f))

-- ---- devices

pub device-fits : (d : Device) (x : Name) → is_name x ≡ true → (ps : Pieces) → Fits ps → Fits (device_named d (Some x) ps)
device-fits d x n ps f = (tt, refl, (refl, int-fits d.constant true d.int (space ∷ ident x ∷ ended ps) refl (refl, (n, name-apart x (flat (ended ps)) refl, ended-fits ps f))))

-- ---- prototypes

attribute-fits : (x : Name) (ps : Pieces) → is_name x ≡ true → Fits ps → Fits (attribute x ps)
attribute-fits x ps n f =
    let third = punct m.RParen ∷ space ∷ ps in
    (tt, refl, (refl, open-apart (flat (punct m.LParen ∷ ident x ∷ punct m.RParen ∷ third)), (refl, open-apart (flat (ident x ∷ punct m.RParen ∷ third)), (n, name-apart x (flat (punct m.RParen ∷ third)) refl, (refl, close-apart (flat third), (refl, close-apart (flat (space ∷ ps)), (refl, f)))))))

signal-name : is_name (codes "signal") ≡ true
unfolding is_name word_of
signal-name = refl

interrupt-name : is_name (codes "interrupt") ≡ true
unfolding is_name word_of
interrupt-name = refl

entry-fits : (e : Option Entry) (ps : Pieces) → Fits ps → Fits (entry_attribute e ps)
entry-fits None ps f = f
entry-fits (Some entry.Listed) ps f = f
entry-fits (Some entry.Signal) ps f = attribute-fits (codes "signal") ps signal-name f
entry-fits (Some entry.Interrupt) ps f = attribute-fits (codes "interrupt") ps interrupt-name f

named-other : Inner_name ≡ Nothing → ⊥
named-other h = cc

head-inner : (x : Name) (parameters : Inner) → is_name x ≡ true → ((ps : Pieces) → Fits ps → IsSoft (flat ps) → Fits (parameters ps)) → FitsInner Inner_name (λ qs. ident x ∷ punct m.LParen ∷ parameters (punct m.RParen ∷ qs))
head-inner x parameters n k ps f s =
    let q = name-fits x n (punct m.LParen ∷ parameters (punct m.RParen ∷ ps)) (refl, open-apart (flat (parameters (punct m.RParen ∷ ps))), k (punct m.RParen ∷ ps) (refl, close-apart (flat ps), f) refl) refl in
    (q.0, (q.1.0, λ e. absurd (named-other e)))

-- what soundness says of a function's type
scalars : (k : CType → Option Kind) (ts : List CType) → list_all (λ t. is_plain_scalar (k t)) ts ≡ true → list_all is_plain_scalar (map k ts) ≡ true
scalars k [] h = refl
scalars k (t ∷ ts) h = let e = and-true (is_plain_scalar (k t)) (list_all (λ t. is_plain_scalar (k t)) ts) h in both-true (is_plain_scalar (k t)) (list_all is_plain_scalar (map k ts)) e.0 (scalars k ts e.1)

module _ (p : Program) where
  sig-opens : (s : Sig) → is_sig p.target (extent_in p.structures p.target) s ≡ (is_result (kind_in p (out-Sig s).result) && list_all is_plain_scalar (map (kind_in p) (out-Sig s).params))
  unfolding kind_of is_sig
  sig-opens s = fold_out-Sig (Option Kind) (Option Kind) Bool (shape_kind p.target (extent_in p.structures p.target)) type_kind is_signature s

  pub function-sig : (f : Func) → IsFunc p f → is_sig p.target (extent_in p.structures p.target) f.sig ≡ true
  function-sig f h = sig-opens f.sig ∙ both-true (is_result (kind_in p (out-Sig f.sig).result)) (list_all is_plain_scalar (map (kind_in p) (out-Sig f.sig).params)) h.result (scalars (kind_in p) (out-Sig f.sig).params h.parameters)

  module _ (names : HasUnitNames p) where
    pub prototype-fits : (f : Func) → is_name f.name ≡ true → IsFunc p f → (ps : Pieces) → Fits ps → Fits (prototype p.structures f ps)
    prototype-fits f n h ps g =
        let t = (out-Sig f.sig).result in
        let parameters = (signature p.structures f.sig).parameters in
        let s = sig-fits p.structures p.structures p.target (there p.structures) names.tags f.sig (function-sig f h) in
        entry-fits f.entry (function_head p.structures f parameters (ended ps))
        (type-fits p.structures p.structures p.target (there p.structures) names.tags t (result-some (kind_in p t) h.result) Inner_name (λ qs. ident f.name ∷ punct m.LParen ∷ parameters (punct m.RParen ∷ qs))
        (head-inner f.name parameters n s.parameters) (ended ps) (ended-fits ps g) refl)

    -- ---- static objects

    pub object-fits : (i : ℕ) (o : Object) → slice_get p.objects i ≡ Some o → is_object p o ≡ true → (ps : Pieces) → Fits ps → Fits (object_line p.structures o ps)
    object-fits i o e h ps f = decl-fits p names.tags (w.Static ∷ []) o.ctype (object-some (kind_in p o.ctype) h) o.name (names.objects i o e) ps f

    pub definition-fits : IsSound p → (i : ℕ) (o : Object) → slice_get p.objects i ≡ Some o → (ps : Pieces) → Fits ps → Fits (definition_line p o ps)
    definition-fits sound i o e ps f =
        let h = all-at (is_object p) p.objects i o sound.objects e in
        let v = (object-values p sound i o e (ended ps)).fits names (ended-fits ps f) refl in
        leading-fits (w.Static ∷ []) _ (type-fits p.structures p.structures p.target (there p.structures) names.tags o.ctype (object-some (kind_in p o.ctype) h) Inner_name (λ qs. ident o.name ∷ qs) (name-fits o.name (names.objects i o e))
        (space ∷ punct m.Assign ∷ space ∷ value p o (ended ps)) (refl, (refl, refl, (refl, v))) refl)
