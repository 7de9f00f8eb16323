-- By the lemmas on homes.
use Rattle.cc_rewrite_homes.proofs.HomeLemmas.{holds_filled, packed_write, alone_write, kept_write}
use Rattle.cc_rewrite_homes.proofs.law.homes.Goals as goal

pub returns : goal.returns
returns g = record {
  packed = λ home decode homes these those statics i k f at word holds code small v coded. packed_write home decode homes these those i k f word code v at holds small coded statics;
  words = λ these f word code within holds small. holds_filled these f word code within holds small;
  alone = λ home decode homes these those statics i k f at others word holds code small fits v coded. alone_write home decode homes these those i k f word code v at holds small fits coded others statics;
  whole = λ home decode homes these those statics i k j l at old exists v. kept_write home decode homes these those i k j l v old at exists statics;
}
