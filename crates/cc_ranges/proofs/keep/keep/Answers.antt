-- An end that is moved by one stays far within 128 bits.
use Rattle.std.proofs.Common.{FitsSigned, to_z-of_z, rules, sym, ap, ap₂, ◌∙◌}
use Rattle.std.specs.Int.{w128, int_max, int_min}
use Rattle.cc_ranges.specs.Ends.{between}
use Rattle.cc_ranges.specs.Keep.{keep_rule}
use Rattle.cc_ranges.proofs.Narrow.{low_narrow, high_narrow, narrow_same, less_one, more_one, less_fits, more_fits, read_least, read_most, max_least, min_most}
use Rattle.cc_ranges.proofs.keep.keep.Goals as goal

pub returns-in-Lt : goal.returns-in-Lt
returns-in-Lt c =
    let a = c.args.a.now in
    let b = c.args.b.now in
    let f : FitsSigned w128 c.lesser.result = search rules in
    c.between.ensures
    ∙ ap₂ between (narrow_same a.low (low_narrow a.low a.high a.ends))
    (to_z-of_z f ∙ (c.lesser.ensures ∙ ap₂ int_min (narrow_same a.high (high_narrow a.low a.high a.ends)) (less_one b.high (high_narrow b.low b.high b.ends))))
    ∙ ap (λ o. keep_rule o a.low a.high b.low b.high) (sym c.in-Lt.is)

pub returns-in-Gt : goal.returns-in-Gt
returns-in-Gt c =
    let a = c.args.a.now in
    let b = c.args.b.now in
    let f : FitsSigned w128 c.greater.result = search rules in
    c.between-in-Gt.ensures
    ∙ ap₂ between
    (to_z-of_z f ∙ (c.greater.ensures ∙ ap₂ int_max (narrow_same a.low (low_narrow a.low a.high a.ends)) (more_one b.low (low_narrow b.low b.high b.ends))))
    (narrow_same a.high (high_narrow a.low a.high a.ends))
    ∙ ap (λ o. keep_rule o a.low a.high b.low b.high) (sym c.in-Gt.is)

pub overflow_sub-b : goal.overflow_sub-b
overflow_sub-b c = let b = c.args.b.now in less_fits b.high (high_narrow b.low b.high b.ends)

pub overflow_add-b : goal.overflow_add-b
overflow_add-b c = let b = c.args.b.now in more_fits b.low (low_narrow b.low b.high b.ends)

pub between-requires-clause-least : goal.between-requires-clause-least
between-requires-clause-least c =
    let a = c.args.a.now in
    read_least a.low (low_narrow a.low a.high a.ends)

pub between-requires-clause-most : goal.between-requires-clause-most
between-requires-clause-most c =
    let a = c.args.a.now in
    let f : FitsSigned w128 c.lesser.result = search rules in
    min_most c.lesser.result _ a.high (high_narrow a.low a.high a.ends) f c.lesser.ensures

pub between-requires-in-Le-clause-least : goal.between-requires-in-Le-clause-least
between-requires-in-Le-clause-least c =
    let a = c.args.a.now in
    read_least a.low (low_narrow a.low a.high a.ends)

pub between-requires-in-Le-clause-most : goal.between-requires-in-Le-clause-most
between-requires-in-Le-clause-most c =
    let a = c.args.a.now in
    let f : FitsSigned w128 c.lesser-in-Le.result = search rules in
    min_most c.lesser-in-Le.result _ a.high (high_narrow a.low a.high a.ends) f c.lesser-in-Le.ensures

pub between-requires-in-Gt-clause-least : goal.between-requires-in-Gt-clause-least
between-requires-in-Gt-clause-least c =
    let a = c.args.a.now in
    let f : FitsSigned w128 c.greater.result = search rules in
    max_least c.greater.result _ a.low (low_narrow a.low a.high a.ends) f c.greater.ensures

pub between-requires-in-Gt-clause-most : goal.between-requires-in-Gt-clause-most
between-requires-in-Gt-clause-most c =
    let a = c.args.a.now in
    read_most a.high (high_narrow a.low a.high a.ends)

pub between-requires-in-Ge-clause-least : goal.between-requires-in-Ge-clause-least
between-requires-in-Ge-clause-least c =
    let a = c.args.a.now in
    let f : FitsSigned w128 c.greater-in-Ge.result = search rules in
    max_least c.greater-in-Ge.result _ a.low (low_narrow a.low a.high a.ends) f c.greater-in-Ge.ensures

pub between-requires-in-Ge-clause-most : goal.between-requires-in-Ge-clause-most
between-requires-in-Ge-clause-most c =
    let a = c.args.a.now in
    read_most a.high (high_narrow a.low a.high a.ends)

pub between-requires-in-Eq-clause-least : goal.between-requires-in-Eq-clause-least
between-requires-in-Eq-clause-least c =
    let a = c.args.a.now in
    let f : FitsSigned w128 c.greater-in-Eq.result = search rules in
    max_least c.greater-in-Eq.result _ a.low (low_narrow a.low a.high a.ends) f c.greater-in-Eq.ensures

pub between-requires-in-Eq-clause-most : goal.between-requires-in-Eq-clause-most
between-requires-in-Eq-clause-most c =
    let a = c.args.a.now in
    let f : FitsSigned w128 c.lesser-in-Eq.result = search rules in
    min_most c.lesser-in-Eq.result _ a.high (high_narrow a.low a.high a.ends) f c.lesser-in-Eq.ensures

pub returns-in-Le : goal.returns-in-Le
returns-in-Le c =
    let a = c.args.a.now in
    let b = c.args.b.now in
    let f : FitsSigned w128 c.lesser-in-Le.result = search rules in
    c.between-in-Le.ensures
    ∙ ap₂ between
    (narrow_same a.low (low_narrow a.low a.high a.ends))
    (to_z-of_z f ∙ (c.lesser-in-Le.ensures ∙ ap₂ int_min (narrow_same a.high (high_narrow a.low a.high a.ends)) (narrow_same b.high (high_narrow b.low b.high b.ends))))
    ∙ ap (λ o. keep_rule o a.low a.high b.low b.high) (sym c.in-Le.is)

pub returns-in-Ge : goal.returns-in-Ge
returns-in-Ge c =
    let a = c.args.a.now in
    let b = c.args.b.now in
    let f : FitsSigned w128 c.greater-in-Ge.result = search rules in
    c.between-in-Ge.ensures
    ∙ ap₂ between
    (to_z-of_z f ∙ (c.greater-in-Ge.ensures ∙ ap₂ int_max (narrow_same a.low (low_narrow a.low a.high a.ends)) (narrow_same b.low (low_narrow b.low b.high b.ends))))
    (narrow_same a.high (high_narrow a.low a.high a.ends))
    ∙ ap (λ o. keep_rule o a.low a.high b.low b.high) (sym c.in-Ge.is)

pub returns-in-Eq : goal.returns-in-Eq
returns-in-Eq c =
    let a = c.args.a.now in
    let b = c.args.b.now in
    let f : FitsSigned w128 c.greater-in-Eq.result = search rules in
    let g : FitsSigned w128 c.lesser-in-Eq.result = search rules in
    c.between-in-Eq.ensures
    ∙ ap₂ between
    (to_z-of_z f ∙ (c.greater-in-Eq.ensures ∙ ap₂ int_max (narrow_same a.low (low_narrow a.low a.high a.ends)) (narrow_same b.low (low_narrow b.low b.high b.ends))))
    (to_z-of_z g ∙ (c.lesser-in-Eq.ensures ∙ ap₂ int_min (narrow_same a.high (high_narrow a.low a.high a.ends)) (narrow_same b.high (high_narrow b.low b.high b.ends))))
    ∙ ap (λ o. keep_rule o a.low a.high b.low b.high) (sym c.in-Eq.is)
