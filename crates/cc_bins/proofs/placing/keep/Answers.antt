use Rattle.std.proofs.Common.{◌≡◌, ◌<◌, ◌++◌, List, length, map, refl, ap, sym, ◌∙◌, arith}
use Rattle.cc_bins.specs.declared.open_words.Placed.{Placed}
use Rattle.cc_bins.specs.Placing.{field_of}
use Rattle.cc_bins.proofs.Kept.{kept_none, kept_small, kept_yes, kept_no, kept_all}
use Rattle.cc_bins.proofs.placing.keep.Goals as goal
use Rattle.cc_bins.proofs.placing.keep.Goals.{then-saves+in_ok-add_fields+in_ok-push, else-saves}

pub loop-opened-init : goal.loop-opened-init
loop-opened-init c = rw (c.requires.words, c.requires.fields) (kept_none c.args.open_words.now)

pub overflow_cast-len : goal.overflow_cast-len
overflow_cast-len c =
    let small = kept_small c.args.open_words.now c.loop-opened.opened-index c.loop-opened.words.items c.loop-opened.fields.items c.loop-opened.invariant (omega (arith, c.loop-opened-test.true)) in
    record { fits = omega (arith, small, c.loop-opened-test.true, c.requires.few, c.len.ensures) }

pub loop-opened-preserved : goal.loop-opened-preserved
loop-opened-preserved c =
    let all = c.args.open_words.now in
    let i = c.loop-opened.opened-index in
    let words = c.loop-opened.words.items in
    let fields = c.loop-opened.fields.items in
    let l : i < length all = omega (arith, c.loop-opened-test.true) in
    elim c.if-saves.branch [
      | then-saves+in_ok-add_fields+in_ok-push w ↦
          let n : w.len.result ≡ length words = omega (arith, w.len.ensures) in
          let slots = c.opened-item.result.slots in
          let more =
          w.in_ok-add_fields.ensures ∙ ap (λ (ps : List Placed). fields ++ map (field_of w.len.result) ps) w.all.ensures ∙ ap (λ k. fields ++ map (field_of k) slots) n in
          rw (w.words-is, w.fields-is)
          (kept_yes all i words fields c.loop-opened.invariant c.opened-item.result l c.opened-item.is (sym c.saves.ensures ∙ w.if-saves.true) w.push.new.self.items w.in_ok-push.ensures.items w.add_fields.new.fields.items more)
      | else-saves w ↦
          rw (w.words-is, w.fields-is) (kept_no all i words fields c.loop-opened.invariant c.opened-item.result l c.opened-item.is (sym c.saves.ensures ∙ w.if-saves.false))
    ]

pub returns : goal.returns
returns c = sym (kept_all c.args.open_words.now c.loop-opened.opened-index c.loop-opened.words.items c.loop-opened.fields.items c.loop-opened.invariant (omega (arith, c.loop-opened-test.false)) _ refl)
