-- Facts of a call that went well.
use Rattle.std.specs.Prelude.{◌≡◌, Result, Ok, Err, OnOk, is_ok, if◌then◌else◌}

pub both_ok : {T E : Type 0} {P Q R : Type 0} (r : Result T E) → (P → Q → R) → OnOk r P → OnOk r Q → OnOk r R
both_ok (Ok x) f p q = f p q
both_ok (Err e) f p q = tt

pub always_ok : {T E : Type 0} {P : Type 0} (r : Result T E) → P → OnOk r P
always_ok (Ok x) p = p
always_ok (Err e) p = tt

pub chosen_ok : {T E X : Type 0} (r : Result T E) (n x y : X) → n ≡ (if is_ok r then x else y) → OnOk r (n ≡ x)
chosen_ok (Ok v) n x y h = h
chosen_ok (Err e) n x y h = tt
