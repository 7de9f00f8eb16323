use Rattle.std.proofs.Common.{◌∙◌, ◌++◌, ◌∷◌, [], ap, sym, length, map, flat_map, List, ℕ}
use Rattle.std.proofs.lemmas.List.{append-nil}
use Rattle.std.proofs.lemmas.Result.{on_ok_weaker}
use Rattle.cc_program.specs.declared.types.CType.{CType}
use Rattle.cc_program.specs.declared.types.Shape.{out-Shape}
use Rattle.cc_program.specs.declared.types.Shape.TheOpen as shape
use Rattle.cc_program.specs.declared.types.Shape.TheVariants.{outs-Void, outs-Int, outs-Pointer, outs-Array, outs-Struct, outs-Func}
use Rattle.cc_program.specs.declared.types.Sig.{Sig, out-Sig}
use Rattle.cc_structures.specs.Words.{word, type_words, sig_words, type_parts, sig_parts}
use Rattle.cc_structures.specs.declared.words.Kind.TheVariants as kind
use Rattle.cc_structures.specs.declared.words.Word.{Word}
use Rattle.cc_structures.proofs.Behind.{joined-more}
use Rattle.cc_structures.proofs.Steps.{stepped}
use Rattle.cc_structures.proofs.WordLaws.{shape_words-put, shape_parts-put, type_words-put, type_parts-put, first-put, sig_parts-joined, sig_words-joined, sig_words-count}
use Rattle.cc_structures.proofs.words.+words.Goals as goal

pub put_type-returns-clause-words : goal.put_type-returns-clause-words
put_type-returns-clause-words t c = on_ok_weaker c.put_shape.result (type_words-put c.args.t.now c.args.words.now.items c.put_shape.new.words.items) c.put_shape.ensures.words

pub put_type-returns-clause-parts : goal.put_type-returns-clause-parts
put_type-returns-clause-parts t c = on_ok_weaker c.put_shape.result (type_parts-put c.args.t.now c.args.parts.now.items c.put_shape.new.parts.items) c.put_shape.ensures.parts

pub put_shape-returns-in-Void-clause-words : goal.put_shape-returns-in-Void-clause-words
put_shape-returns-in-Void-clause-words t c =
    on_ok_weaker c.put_word.result
    (shape_words-put c.args.s.now shape.Void (ap out-Shape c.in-Void.is ∙ outs-Void) c.args.constant c.args.volatile c.args.words.now.items c.put_word.new.words.items)
    c.put_word.ensures

pub put_shape-returns-in-Void-clause-parts : goal.put_shape-returns-in-Void-clause-parts
put_shape-returns-in-Void-clause-parts t c =
    on_ok_weaker c.put_word.result
    (λ _. shape_parts-put c.args.s.now shape.Void (ap out-Shape c.in-Void.is ∙ outs-Void) c.args.parts.now.items c.args.parts.now.items (sym (append-nil c.args.parts.now.items)))
    c.put_word.ensures

pub put_shape-returns-in-Int-clause-words : goal.put_shape-returns-in-Int-clause-words
put_shape-returns-in-Int-clause-words t c =
    on_ok_weaker c.put_word-in-Int.result
    (λ h. shape_words-put c.args.s.now (shape.Int c.in-Int.t) (ap out-Shape c.in-Int.is ∙ outs-Int c.in-Int.t) c.args.constant c.args.volatile c.args.words.now.items c.put_word-in-Int.new.words.items (h ∙ ap (λ (n : ℕ). c.args.words.now.items ++ word c.args.constant c.args.volatile kind.Int n ∷ []) (c.from.ensures ∙ c.position_of.ensures)))
    c.put_word-in-Int.ensures

pub put_shape-returns-in-Int-clause-parts : goal.put_shape-returns-in-Int-clause-parts
put_shape-returns-in-Int-clause-parts t c =
    on_ok_weaker c.put_word-in-Int.result
    (λ _. shape_parts-put c.args.s.now (shape.Int c.in-Int.t) (ap out-Shape c.in-Int.is ∙ outs-Int c.in-Int.t) c.args.parts.now.items c.args.parts.now.items (sym (append-nil c.args.parts.now.items)))
    c.put_word-in-Int.ensures

pub put_shape-returns-in_ok-put_word-in-Pointer-clause-words : goal.put_shape-returns-in_ok-put_word-in-Pointer-clause-words
put_shape-returns-in_ok-put_word-in-Pointer-clause-words t c =
    on_ok_weaker c.put_type.result
    (λ h. shape_words-put c.args.s.now (shape.Pointer c.in-Pointer.to) (ap out-Shape c.in-Pointer.is ∙ outs-Pointer c.in-Pointer.to) c.args.constant c.args.volatile c.args.words.now.items c.put_type.new.words.items (first-put (word c.args.constant c.args.volatile kind.Pointer 0) c.args.words.now.items c.put_word-in-Pointer.new.words.items _ _ (type_words c.in-Pointer.to) c.in_ok-put_word-in-Pointer.ensures (ap type_words c.get.ensures) h))
    c.put_type.ensures.words

pub put_shape-returns-in_ok-put_word-in-Pointer-clause-parts : goal.put_shape-returns-in_ok-put_word-in-Pointer-clause-parts
put_shape-returns-in_ok-put_word-in-Pointer-clause-parts t c =
    on_ok_weaker c.put_type.result
    (λ h. shape_parts-put c.args.s.now (shape.Pointer c.in-Pointer.to) (ap out-Shape c.in-Pointer.is ∙ outs-Pointer c.in-Pointer.to) c.args.parts.now.items c.put_type.new.parts.items (h ∙ ap (λ (a : CType). c.args.parts.now.items ++ type_parts a) c.get.ensures))
    c.put_type.ensures.parts

pub put_shape-returns-in_ok-put_word-in-Array-clause-words : goal.put_shape-returns-in_ok-put_word-in-Array-clause-words
put_shape-returns-in_ok-put_word-in-Array-clause-words t c =
    on_ok_weaker c.put_type-in-Array.result
    (λ h. shape_words-put c.args.s.now (shape.Array c.in-Array.of c.in-Array.n) (ap out-Shape c.in-Array.is ∙ outs-Array c.in-Array.of c.in-Array.n) c.args.constant c.args.volatile c.args.words.now.items c.put_type-in-Array.new.words.items (first-put (word c.args.constant c.args.volatile kind.Array c.in-Array.n) c.args.words.now.items c.put_word-in-Array.new.words.items _ _ (type_words c.in-Array.of) (c.in_ok-put_word-in-Array.ensures ∙ ap (λ (n : ℕ). c.args.words.now.items ++ word c.args.constant c.args.volatile kind.Array n ∷ []) c.from-in-Array.ensures) (ap type_words c.get-in-Array.ensures) h))
    c.put_type-in-Array.ensures.words

pub put_shape-returns-in_ok-put_word-in-Array-clause-parts : goal.put_shape-returns-in_ok-put_word-in-Array-clause-parts
put_shape-returns-in_ok-put_word-in-Array-clause-parts t c =
    on_ok_weaker c.put_type-in-Array.result
    (λ h. shape_parts-put c.args.s.now (shape.Array c.in-Array.of c.in-Array.n) (ap out-Shape c.in-Array.is ∙ outs-Array c.in-Array.of c.in-Array.n) c.args.parts.now.items c.put_type-in-Array.new.parts.items (h ∙ ap (λ (a : CType). c.args.parts.now.items ++ type_parts a) c.get-in-Array.ensures))
    c.put_type-in-Array.ensures.parts

pub put_shape-returns-in_ok-push-in-Struct-clause-words : goal.put_shape-returns-in_ok-push-in-Struct-clause-words
put_shape-returns-in_ok-push-in-Struct-clause-words t c =
    on_ok_weaker c.put_word-in-Struct.result
    (shape_words-put c.args.s.now (shape.Struct c.in-Struct.i) (ap out-Shape c.in-Struct.is ∙ outs-Struct c.in-Struct.i) c.args.constant c.args.volatile c.args.words.now.items c.put_word-in-Struct.new.words.items)
    c.put_word-in-Struct.ensures

pub put_shape-returns-in_ok-push-in-Struct-clause-parts : goal.put_shape-returns-in_ok-push-in-Struct-clause-parts
put_shape-returns-in_ok-push-in-Struct-clause-parts t c =
    on_ok_weaker c.put_word-in-Struct.result
    (λ _. shape_parts-put c.args.s.now (shape.Struct c.in-Struct.i) (ap out-Shape c.in-Struct.is ∙ outs-Struct c.in-Struct.i) c.args.parts.now.items c.push.new.self.items c.in_ok-push-in-Struct.ensures.items)
    c.put_word-in-Struct.ensures

pub put_shape-returns-in_ok-put_word-in-Func-clause-words : goal.put_shape-returns-in_ok-put_word-in-Func-clause-words
put_shape-returns-in_ok-put_word-in-Func-clause-words t c =
    on_ok_weaker c.put_sig.result
    (λ h. shape_words-put c.args.s.now (shape.Func c.in-Func.sig) (ap out-Shape c.in-Func.is ∙ outs-Func c.in-Func.sig) c.args.constant c.args.volatile c.args.words.now.items c.put_sig.new.words.items (first-put (word c.args.constant c.args.volatile kind.Func (sig_words c.in-Func.sig).count) c.args.words.now.items c.put_word-in-Func.new.words.items _ _ (sig_words c.in-Func.sig).words (c.in_ok-put_word-in-Func.ensures ∙ ap (λ (n : ℕ). c.args.words.now.items ++ word c.args.constant c.args.volatile kind.Func n ∷ []) (ap length c.all.ensures ∙ (ap (λ (s : Sig). length (out-Sig s).params) c.get-in-Func.ensures ∙ sig_words-count c.in-Func.sig))) (ap (λ s. (sig_words s).words) c.get-in-Func-2.ensures) h))
    c.put_sig.ensures.words

pub put_shape-returns-in_ok-put_word-in-Func-clause-parts : goal.put_shape-returns-in_ok-put_word-in-Func-clause-parts
put_shape-returns-in_ok-put_word-in-Func-clause-parts t c =
    on_ok_weaker c.put_sig.result
    (λ h. shape_parts-put c.args.s.now (shape.Func c.in-Func.sig) (ap out-Shape c.in-Func.is ∙ outs-Func c.in-Func.sig) c.args.parts.now.items c.put_sig.new.parts.items (h ∙ ap (λ s. c.args.parts.now.items ++ sig_parts s) c.get-in-Func-2.ensures))
    c.put_sig.ensures.parts

pub put_sig-loop-param-init : goal.put_sig-loop-param-init
put_sig-loop-param-init t c = record { words = sym (append-nil c.put_type.new.words.items); parts = sym (append-nil c.put_type.new.parts.items) }

pub put_sig-loop-param-preserved : goal.put_sig-loop-param-preserved
put_sig-loop-param-preserved t c =
    let params = c.all-param-items.result.now in
    let i = c.loop-param.param-index in
    let words = c.put_type.new.words.items in
    let parts = c.put_type.new.parts.items in
    record {
      words = stepped (λ (ts : List CType). words ++ flat_map (λ ws. ws) (map type_words ts)) (λ ts b x. b ++ type_words x) (λ ts x. sym (joined-more type_words words ts x)) params i c.param-item.result c.loop-param-test.true c.param-item.is _ _
          c.in_ok-put_type-2.ensures.words c.loop-param.invariant.words;
      parts = stepped (λ (ts : List CType). parts ++ flat_map (λ ps. ps) (map type_parts ts)) (λ ts b x. b ++ type_parts x) (λ ts x. sym (joined-more type_parts parts ts x)) params i c.param-item.result c.loop-param-test.true c.param-item.is _ _
          c.in_ok-put_type-2.ensures.parts c.loop-param.invariant.parts;
    }

pub put_sig-returns-clause-words : goal.put_sig-returns-clause-words
put_sig-returns-clause-words t c =
    sig_words-joined c.args.sig.now c.all-param-items.result.now c.loop-param.param-index c.args.words.now.items c.put_type.new.words.items c.loop-param.words.items c.in_ok-put_type.ensures.words c.all-param-items.ensures
    c.loop-param-test.false c.loop-param.invariant.words

pub put_sig-returns-clause-parts : goal.put_sig-returns-clause-parts
put_sig-returns-clause-parts t c =
    sig_parts-joined c.args.sig.now c.all-param-items.result.now c.loop-param.param-index c.args.parts.now.items c.put_type.new.parts.items c.loop-param.parts.items c.in_ok-put_type.ensures.parts c.all-param-items.ensures
    c.loop-param-test.false c.loop-param.invariant.parts
