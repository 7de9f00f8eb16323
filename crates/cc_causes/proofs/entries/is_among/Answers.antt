use Rattle.std.proofs.Common.{◌∙◌, ℕ, List, ap, sym}
use Rattle.std.specs.List.{list_any}
use Rattle.std.specs.Str.{bytes_eq}
use Rattle.cc_causes.proofs.Loops.{any_not, any_found, any_end, map_id}
use Rattle.cc_causes.proofs.entries.is_among.Goals as goal

pub loop-other-preserved : goal.loop-other-preserved
loop-other-preserved c =
    any_not (λ (x : List ℕ). x) (bytes_eq c.args.name.now) c.args.names.now c.loop-other.other-index c.other-item.result c.loop-other-test.true c.other-item.is c.loop-other.invariant
    (ap (bytes_eq c.args.name.now) (sym c.all.ensures) ∙ (sym c.is_same.ensures ∙ c.if-is_same.false))

pub returns-then-is_same : goal.returns-then-is_same
returns-then-is_same c =
    sym (ap (list_any (bytes_eq c.args.name.now)) (sym (map_id c.args.names.now))
    ∙ any_found (λ (x : List ℕ). x) (bytes_eq c.args.name.now) c.args.names.now c.loop-other.other-index c.other-item.result c.loop-other-test.true c.other-item.is c.loop-other.invariant
    (ap (bytes_eq c.args.name.now) (sym c.all.ensures) ∙ (sym c.is_same.ensures ∙ c.if-is_same.true)))

pub returns : goal.returns
returns c =
    sym (ap (list_any (bytes_eq c.args.name.now)) (sym (map_id c.args.names.now))
    ∙ any_end (λ (x : List ℕ). x) (bytes_eq c.args.name.now) c.args.names.now c.loop-other.other-index c.loop-other-test.false c.loop-other.invariant)
