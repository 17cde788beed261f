-- What holds if a call succeeded, by what it ensures then.
use Rattle.std.specs.Prelude.{Result, Ok, Err, IfOk, OnErr, OnOk}

pub if_ok_on : {A E : Type 0} (r : Result A E) (P : A → Type 0) (X : Type 0) → IfOk r P → ((a : A) → P a → X) → OnOk r X
if_ok_on (Ok a) P X p f = f a p
if_ok_on (Err e) P X p f = tt

pub if_ok : {A E : Type 0} (r : Result A E) (P Q : A → Type 0) → IfOk r P → ((a : A) → P a → Q a) → IfOk r Q
if_ok (Ok a) P Q p f = f a p
if_ok (Err e) P Q p f = tt

pub on_ok : {A E : Type 0} (r : Result A E) (X Y : Type 0) → OnOk r X → (X → Y) → OnOk r Y
on_ok (Ok a) X Y x f = f x
on_ok (Err e) X Y x f = tt

pub either : {A E : Type 0} (r : Result A E) (X Y Z : Type 0) → OnOk r X → OnErr r Y → (X → Z) → (Y → Z) → Z
either (Ok a) X Y Z x y f g = f x
either (Err e) X Y Z x y f g = g y

pub on_err : {A E : Type 0} (r : Result A E) (X Y : Type 0) → OnErr r X → (X → Y) → OnErr r Y
on_err (Ok a) X Y x f = tt
on_err (Err e) X Y x f = f x

pub err_always : {A E : Type 0} (r : Result A E) (X : Type 0) → X → OnErr r X
err_always (Ok a) X x = tt
err_always (Err e) X x = x

pub always : {A E : Type 0} (r : Result A E) {X : Type 0} → X → OnOk r X
always (Ok a) x = x
always (Err e) x = tt
