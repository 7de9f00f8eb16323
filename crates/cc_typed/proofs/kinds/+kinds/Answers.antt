use Rattle.std.proofs.Common.{rules, ◌≡◌, true, false, get_or}
use Rattle.cc_program.specs.declared.types.Sig.{out-Sig}
use Rattle.cc_syntax.specs.Kinds.{is_result, is_plain_scalar, kind_of, extent_with}
use Rattle.cc_typed.proofs.KindLemmas.{sig_fails, sig_all}
use Rattle.cc_typed.proofs.ListLemmas.{mapped_more}
use Rattle.cc_typed.proofs.kinds.+kinds.Goals as goal

pub is_sig-returns-then-not-is_plain_scalar : goal.is_sig-returns-then-not-is_plain_scalar
is_sig-returns-then-not-is_plain_scalar t c =
    let s = c.args.structures.now in
    let r : is_result (kind_of c.args.target.now (extent_with s c.args.count c.args.target.now) (out-Sig c.args.sig.now).result) ≡ true = search rules in
    let k : is_plain_scalar (kind_of c.args.target.now (extent_with s c.args.count c.args.target.now) c.param-item.result) ≡ false = search rules in
    sig_fails s c.args.count c.args.target.now c.args.sig.now c.all-param-items.result.now c.loop-param.param-index c.param-item.result c.all-param-items.ensures r c.loop-param-test.true c.param-item.is k

pub is_sig-loop-param-preserved : goal.is_sig-loop-param-preserved
is_sig-loop-param-preserved t c =
    let s = c.args.structures.now in
    let k : is_plain_scalar (kind_of c.args.target.now (extent_with s c.args.count c.args.target.now) (get_or c.all-param-items.result.now c.loop-param.param-index c.param-item.result)) ≡ true = search rules in
    mapped_more is_plain_scalar (kind_of c.args.target.now (extent_with s c.args.count c.args.target.now)) c.all-param-items.result.now c.loop-param.param-index c.param-item.result c.loop-param-test.true c.loop-param.invariant k

pub is_sig-returns : goal.is_sig-returns
is_sig-returns t c =
    let s = c.args.structures.now in
    let r : is_result (kind_of c.args.target.now (extent_with s c.args.count c.args.target.now) (out-Sig c.args.sig.now).result) ≡ true = search rules in
    sig_all s c.args.count c.args.target.now c.args.sig.now c.all-param-items.result.now c.loop-param.param-index c.all-param-items.ensures r c.loop-param.invariant c.loop-param-test.false
