-- What holds of the value of a result, by several facts about it.
use Rattle.std.specs.Prelude.{Result, Ok, Err, IfOk}

pub by_two : {T E : Type 0} (r : Result T E) (P Q R : T → Type 0) → ((x : T) → P x → Q x → R x) → IfOk r P → IfOk r Q → IfOk r R
by_two (Ok x) P Q R f p q = f x p q
by_two (Err e) P Q R f p q = tt

pub by_three : {T E : Type 0} (r : Result T E) (P Q O R : T → Type 0) → ((x : T) → P x → Q x → O x → R x) → IfOk r P → IfOk r Q → IfOk r O → IfOk r R
by_three (Ok x) P Q O R f p q o = f x p q o
by_three (Err e) P Q O R f p q o = tt
