use Rattle.std.proofs.Common.{◌≡◌, ◌∙◌, ◌<◌, ◌+◌, ℕ, List, [], ◌∷◌, length, ap, sym, subst, arith}
use Rattle.std.proofs.lemmas.List.Elements.{All-nil}
use Rattle.cc_things.specs.declared.text.Text.{Text}
use Rattle.cc_read.proofs.TextsLeft.{TextsLeft, left_of, left-all, left-next, left-refused, left-none, left-cons, left-end, is_short}
use Rattle.cc_read.specs.Refusals.{HasCause}
use Rattle.cc_read.specs.Texts.{bytes_of, IsTypedNext, IsLow}
use Rattle.cc_read.proofs.reading.typed_texts.Goals as goal

pub loop-file-init : goal.loop-file-init
loop-file-init c = subst (λ (us : List Text). TextsLeft c.args.target.now c.args.roles.now (bytes_of c.args.texts.now) 0 (bytes_of c.args.texts.now) us) (sym c.new-units.ensures.items) (left-all c.args.target.now c.args.roles.now (bytes_of c.args.texts.now))

pub put_typed-requires : goal.put_typed-requires
put_typed-requires c =
    let lt : c.loop-file.file < length c.args.texts.now = omega arith in
    let short = is_short c.args.texts.now c.loop-file.file c.index-texts-file.result lt c.index-texts-file.is in
    let same = ap length c.deref.ensures.value in
    omega (arith, short, same, c.requires.small)

pub loop-file-preserved : goal.loop-file-preserved
loop-file-preserved c =
    let lt : c.loop-file.file < length c.args.texts.now = omega arith in
    let here : TextsLeft c.args.target.now c.args.roles.now (bytes_of c.args.texts.now) c.loop-file.file (c.index-texts-file.result.items ∷ left_of c.args.texts.now (c.loop-file.file + 1)) c.loop-file.units.items =
    subst (λ (ls : List (List ℕ)). TextsLeft c.args.target.now c.args.roles.now (bytes_of c.args.texts.now) c.loop-file.file ls c.loop-file.units.items) (left-cons c.args.texts.now c.loop-file.file c.index-texts-file.result lt c.index-texts-file.is) c.loop-file.invariant in
    let typed = subst (λ (x : List ℕ). IsTypedNext c.args.target.now c.args.roles.now x c.loop-file.units.items c.put_typed.new.texts.items) c.deref.ensures.value c.in-Ok.ensures.typed in
    let low = subst IsLow c.deref.ensures.value c.in-Ok.ensures.low in
    left-next c.args.target.now c.args.roles.now (bytes_of c.args.texts.now) c.loop-file.file c.index-texts-file.result.items (left_of c.args.texts.now (c.loop-file.file + 1)) c.loop-file.units.items c.put_typed.new.texts.items here typed low

pub returns-in-Err-clause-refused : goal.returns-in-Err-clause-refused
returns-in-Err-clause-refused c = λ n.
    let lt : c.loop-file.file < length c.args.texts.now = omega arith in
    let here : TextsLeft c.args.target.now c.args.roles.now (bytes_of c.args.texts.now) c.loop-file.file (c.index-texts-file.result.items ∷ left_of c.args.texts.now (c.loop-file.file + 1)) c.loop-file.units.items =
    subst (λ (ls : List (List ℕ)). TextsLeft c.args.target.now c.args.roles.now (bytes_of c.args.texts.now) c.loop-file.file ls c.loop-file.units.items) (left-cons c.args.texts.now c.loop-file.file c.index-texts-file.result lt c.index-texts-file.is) c.loop-file.invariant in
    left-refused c.args.target.now c.args.roles.now (bytes_of c.args.texts.now) c.loop-file.file c.index-texts-file.result.items (left_of c.args.texts.now (c.loop-file.file + 1)) c.loop-file.units.items c.in-Err.why here
    (subst (λ (x : List ℕ). HasCause c.args.target.now c.args.roles.now x c.in-Err.why) c.deref.ensures.value (c.in-Err.ensures.refused n))

pub returns-clause-typed : goal.returns-clause-typed
returns-clause-typed c =
    let e : c.loop-file.file ≡ length c.args.texts.now = omega arith in
    left-none c.args.target.now c.args.roles.now (bytes_of c.args.texts.now) c.loop-file.file c.loop-file.units.items
    (subst (λ (ls : List (List ℕ)). TextsLeft c.args.target.now c.args.roles.now (bytes_of c.args.texts.now) c.loop-file.file ls c.loop-file.units.items) (ap (left_of c.args.texts.now) e ∙ left-end c.args.texts.now) c.loop-file.invariant)

pub returns-clause-low : goal.returns-clause-low
returns-clause-low c =
    let e : c.loop-file.file ≡ length c.args.texts.now = omega arith in
    let h : TextsLeft c.args.target.now c.args.roles.now (bytes_of c.args.texts.now) c.loop-file.file [] c.loop-file.units.items =
    subst (λ (ls : List (List ℕ)). TextsLeft c.args.target.now c.args.roles.now (bytes_of c.args.texts.now) c.loop-file.file ls c.loop-file.units.items) (ap (left_of c.args.texts.now) e ∙ left-end c.args.texts.now) c.loop-file.invariant in
    h.low (All-nil IsLow)
