-- Least upper bounds.

-- j is the least of the values that x and y are below; values are compared where they are of one kind
pub record IsLeastUpperBound {A : Type 0} (alike below : A → A → Type 0) (x y j : A) : Type 0 where
  pub left_alike : alike x j
  pub right_alike : alike y j
  pub left : below x j
  pub right : below y j
  pub least : (u : A) → alike x u → alike y u → below x u → below y u → below j u
