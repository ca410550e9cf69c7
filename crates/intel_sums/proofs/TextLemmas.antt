-- What two equal results hold is equal.
use Rattle.std.proofs.Common.{◌≡◌, Some, Result, Ok}

pub some_is : {A : Type 0} {m n : A} → Some m ≡ Some n → m ≡ n
some_is h = cc

pub ok_is : {A F : Type 0} {m n : A} → (let given : Result A F = Ok m in given ≡ Ok n) → m ≡ n
ok_is h = cc
