pub mod HandlersMade
