pub mod ScopeNames
