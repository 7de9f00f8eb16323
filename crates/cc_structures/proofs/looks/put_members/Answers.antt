use Rattle.std.proofs.Common.{◌∙◌, ap, sym, ◌++◌, ◌∷◌, [], map, List}
use Rattle.std.proofs.lemmas.List.{append-nil, take_all}
use Rattle.cc_syntax.specs.Types.{Named}
use Rattle.cc_structures.specs.View.{names_of}
use Rattle.cc_structures.specs.Words.{type_words, type_parts}
use Rattle.cc_structures.proofs.Behind.{names-more}
use Rattle.cc_structures.proofs.Steps.{joined-step, joined-all, mapped-step}
use Rattle.cc_structures.proofs.looks.put_members.Goals as goal

pub loop-m-init : goal.loop-m-init
loop-m-init c = record {
  names = sym (append-nil (names_of c.args.names.now.items));
  words = sym (append-nil c.args.words.now.items);
  parts = sym (append-nil c.args.parts.now.items);
}

pub loop-m-preserved : goal.loop-m-preserved
loop-m-preserved c =
    let ms = c.args.members.now in
    let i = c.loop-m.m-index in
    let m = c.m-item.result in
    record {
      names = mapped-step (λ (m : Named). m.0) ms i m c.loop-m-test.true c.m-item.is _ _ _ (ap names_of c.in_ok-push.ensures.items ∙ (names-more _ _ ∙ ap (λ n. names_of c.loop-m.names.items ++ n ∷ []) c.all.ensures)) c.loop-m.invariant.names;
      words = joined-step (λ (m : Named). type_words m.1) ms i m c.loop-m-test.true c.m-item.is _ _ _ c.in_ok-put_type.ensures.words c.loop-m.invariant.words;
      parts = joined-step (λ (m : Named). type_parts m.1) ms i m c.loop-m-test.true c.m-item.is _ _ _ c.in_ok-put_type.ensures.parts c.loop-m.invariant.parts;
    }

pub returns-clause-names : goal.returns-clause-names
returns-clause-names c =
    c.loop-m.invariant.names ∙ ap (λ (ms : List Named). names_of c.args.names.now.items ++ map (λ (m : Named). m.0) ms) (take_all c.loop-m.m-index c.args.members.now c.loop-m-test.false)

pub returns-clause-words : goal.returns-clause-words
returns-clause-words c = joined-all (λ (m : Named). type_words m.1) c.args.members.now c.loop-m.m-index c.args.words.now.items c.loop-m.words.items c.loop-m-test.false c.loop-m.invariant.words

pub returns-clause-parts : goal.returns-clause-parts
returns-clause-parts c = joined-all (λ (m : Named). type_parts m.1) c.args.members.now c.loop-m.m-index c.args.parts.now.items c.loop-m.parts.items c.loop-m-test.false c.loop-m.invariant.parts
