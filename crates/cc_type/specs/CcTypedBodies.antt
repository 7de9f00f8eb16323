-- Definitions of cc_typed_bodies, passed on.
pub use Rattle.cc_typed_bodies.specs.Declarations
pub use Rattle.cc_typed_bodies.specs.Functions
pub use Rattle.cc_typed_bodies.specs.Lines
pub use Rattle.cc_typed_bodies.specs.Meanings
pub use Rattle.cc_typed_bodies.specs.Objects
pub use Rattle.cc_typed_bodies.specs.Parts
pub use Rattle.cc_typed_bodies.specs.Plans
