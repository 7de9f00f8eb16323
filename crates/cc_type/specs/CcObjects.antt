-- Definitions of cc_objects, passed on.
pub use Rattle.cc_typed_bodies.specs.CcObjects.Categories
pub use Rattle.cc_typed_bodies.specs.CcObjects.Linked
pub use Rattle.cc_typed_bodies.specs.CcObjects.Names
pub use Rattle.cc_typed_bodies.specs.CcObjects.Tags
pub use Rattle.cc_typed_bodies.specs.CcObjects.Types
pub use Rattle.cc_typed_bodies.specs.CcObjects.Values
pub use Rattle.cc_typed_bodies.specs.CcObjects.declared
