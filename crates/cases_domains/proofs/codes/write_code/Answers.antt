use Rattle.cases_domains.proofs.codes.write_code.Goals as goal

pub decode-requires : goal.decode-requires
decode-requires c = record {
  set = c.args.values.now;
  least = c.requires.coded.least;
  bits = c.requires.coded.bits;
  coded = c.requires.coded.coded;
  member = c.args.v.now;
  has = c.requires.member;
  is = c.encode-code.ensures;
  listed = λ e. c.requires.listed;
}
