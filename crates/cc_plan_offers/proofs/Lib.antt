pub mod OfferLemmas
