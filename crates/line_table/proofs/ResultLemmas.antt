-- What follows where a call succeeds.
use Rattle.std.proofs.Common.{◌≡◌, Result, Ok, Err, ◌∙◌}
use Rattle.std.specs.Prelude.{OnOk}

-- an equation goes on with another one
pub ok_on : {X T E : Type 0} → (result : Result T E) (x y z : X) → y ≡ z → OnOk result (x ≡ y) → OnOk result (x ≡ z)
ok_on (Ok value) x y z on is = is ∙ on
ok_on (Err fault) x y z on is = tt

-- what follows from what holds
pub ok_then : {T E : Type 0} → (result : Result T E) (P Q : Type 0) → (P → Q) → OnOk result P → OnOk result Q
ok_then (Ok value) P Q make p = make p
ok_then (Err fault) P Q make p = tt
