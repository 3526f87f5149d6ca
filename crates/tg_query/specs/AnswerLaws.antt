-- One reading after another, by the value or the fault of the first.
use Rattle.std.proofs.Common.{ap, refl, ◌∙◌}
use Rattle.std.specs.Prelude.{Err, Ok, Result, ◌≡◌}
use Rattle.tg_query.specs.Answers.{◌>>=◌}
use Rattle.tg_query.specs.declared.fault.QueryFault.{QueryFault}

pub bind_ok : {A B : Type 0} (m : Result A QueryFault) (f : A → Result B QueryFault) (b : B) → (m >>= f) ≡ Ok b
    → (a : A) × (m ≡ Ok a) × (f a ≡ Ok b)
bind_ok (Ok a) f b e = (a, refl, e)
bind_ok (Err fault) f b e = absurd cc

pub bind_found : {A B : Type 0} (m : Result A QueryFault) (f : A → Result B QueryFault) (a : A) (r : Result B QueryFault) → m ≡ Ok a → f a ≡ r → (m >>= f) ≡ r
bind_found m f a r e g = ap (λ m. m >>= f) e ∙ g
