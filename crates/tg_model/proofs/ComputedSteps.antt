-- The steps of a computed reading: where the whole comes to a value, each step does.
use Rattle.std.proofs.Common.{◌≡◌, ℕ, Bool, true, false, Option, Some, None, Result, Ok, Err, refl, ap, ◌∙◌}
use Rattle.tg_model.specs.Computed.{◌>>=◌, unless, unless_at}
use Rattle.tg_model.specs.declared.fault.BlockFault.{BlockFault}

-- two readings with one value are of the same value
pub one_value : {A : Type 0} (x y : A) → ◌≡◌ {A = Result A BlockFault} (Ok x) (Ok y) → x ≡ y
one_value x y e = cc

-- and the converse
pub ok_same : {A : Type 0} (x y : A) → x ≡ y → ◌≡◌ {A = Result A BlockFault} (Ok x) (Ok y)
ok_same x y e = cc

-- a reading with a test before it
pub unless_told : {A : Type 0} (test : Bool) (fault : BlockFault) (result : Result A BlockFault) (x : A) → unless test fault result ≡ Ok x
    → (test ≡ false) × (result ≡ Ok x)
unless_told true fault result x e = absurd (cc)
unless_told false fault result x e = (refl, e)

-- it comes to the value where the test fails
pub unless_ok : {A : Type 0} (test : Bool) (fault : BlockFault) (result : Result A BlockFault) (x : A) → test ≡ false → result ≡ Ok x
    → unless test fault result ≡ Ok x
unless_ok true fault result x none e = absurd (cc)
unless_ok false fault result x none e = e

-- a reading with a search for a bad index before it
pub unless_at_told : {A : Type 0} (at : Option ℕ) (fault : ℕ → BlockFault) (result : Result A BlockFault) (x : A) → unless_at at fault result ≡ Ok x
    → (at ≡ None) × (result ≡ Ok x)
unless_at_told (Some at) fault result x e = absurd (cc)
unless_at_told None fault result x e = (refl, e)

-- it comes to the value where no index is found
pub unless_at_ok : {A : Type 0} (at : Option ℕ) (fault : ℕ → BlockFault) (result : Result A BlockFault) (x : A) → at ≡ None → result ≡ Ok x
    → unless_at at fault result ≡ Ok x
unless_at_ok (Some at) fault result x none e = absurd (cc)
unless_at_ok None fault result x none e = e

-- one reading after another
pub after_told : {A B : Type 0} (result : Result A BlockFault) (next : A → Result B BlockFault) (y : B) → (result >>= next) ≡ Ok y
    → (x : A) × (result ≡ Ok x) × (next x ≡ Ok y)
after_told (Ok x) next y e = (x, refl, e)
after_told (Err fault) next y e = absurd (cc)

-- they come to the value where each does
pub after_ok : {A B : Type 0} (result : Result A BlockFault) (next : A → Result B BlockFault) (x : A) (y : B) → result ≡ Ok x → next x ≡ Ok y
    → (result >>= next) ≡ Ok y
after_ok {A = A} result next x y e f = ap (λ (r : Result A BlockFault). r >>= next) e ∙ f
