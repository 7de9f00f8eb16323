use Rattle.std.proofs.Common.{◌≡◌, take, map, true}
use Rattle.std.specs.List.{list_all}
use Rattle.cc_syntax.specs.Kinds.{is_plain_scalar, kind_of, extent_with}
use Rattle.cc_typed.proofs.kinds.+kinds.Given as goal

abbrev pub invariant-is_sig-loop-param : goal.invariant-is_sig-loop-param
invariant-is_sig-loop-param l = list_all is_plain_scalar (map (kind_of l.target (extent_with l.structures l.count l.target)) (take l.param-index l.param-items)) ≡ true
