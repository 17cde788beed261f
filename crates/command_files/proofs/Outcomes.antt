-- What holds if a call succeeded.
use Rattle.std.specs.Prelude.{Result, Ok, Err, OnOk, OnErr, IfOk, IfErr}

pub on_ok_map : {A E : Type 0} (r : Result A E) (P Q : Type 0) → (P → Q) → OnOk r P → OnOk r Q
on_ok_map (Ok x) P Q f h = f h
on_ok_map (Err x) P Q f h = h

pub on_ok_any : {A E : Type 0} (r : Result A E) (P : Type 0) → P → OnOk r P
on_ok_any (Ok x) P h = h
on_ok_any (Err x) P h = tt

-- what holds if a call succeeded, for all of a kind
pub on_ok_each : {A E X : Type 0} (r : Result A E) (P : X → Type 0) → ((x : X) → OnOk r (P x)) → OnOk r ((x : X) → P x)
on_ok_each (Ok x) P h = h
on_ok_each (Err x) P h = tt

pub if_ok_map : {A E : Type 0} (r : Result A E) (P Q : A → Type 0) → ((x : A) → P x → Q x) → IfOk r P → IfOk r Q
if_ok_map (Ok x) P Q f h = f x h
if_ok_map (Err x) P Q f h = h

pub if_err_map : {A E : Type 0} (r : Result A E) (P Q : E → Type 0) → ((x : E) → P x → Q x) → IfErr r P → IfErr r Q
if_err_map (Ok x) P Q f h = h
if_err_map (Err x) P Q f h = f x h

pub on_err_any : {A E : Type 0} (r : Result A E) (P : Type 0) → P → OnErr r P
on_err_any (Ok x) P h = tt
on_err_any (Err x) P h = h

pub on_err_map : {A E : Type 0} (r : Result A E) (P Q : Type 0) → (P → Q) → OnErr r P → OnErr r Q
on_err_map (Ok x) P Q f h = h
on_err_map (Err x) P Q f h = f h
