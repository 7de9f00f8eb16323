-- Definitions of cc_num, passed on.
pub use Rattle.cc_num.specs.Integers
pub use Rattle.cc_num.specs.Promotions
pub use Rattle.cc_num.specs.Results
pub use Rattle.cc_num.specs.contracts
pub use Rattle.cc_num.specs.declared
