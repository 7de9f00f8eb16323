mod Apart
pub mod RoleLemmas
